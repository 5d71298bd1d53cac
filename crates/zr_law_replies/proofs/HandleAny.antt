-- A router handles a message, whatever it is, and a query stands on (`handled_stands`).
use Rattle.std.specs.Prelude.{ℕ, List, IfSome}
use Rattle.zr_script_spec.specs.declared.command.Act.TheVariants as c
use Rattle.zr_world_spec.specs.Acts.{handle_step}
use Rattle.zr_world_spec.specs.Moments.{Numbered, Moment, went}
use Rattle.zr_guarantee.specs.Queries.{Asked}
use Rattle.zr_law_replies.proofs.StandStep.{Begins, Here, Then}
use Rattle.zr_law_replies.proofs.HandleOther.{handle_stands}
use Rattle.zr_law_replies.proofs.HandleReply.{response_stands}
use Rattle.zr_law_replies.proofs.HandleFinal.{final_stands}
use Rattle.zr_guarantee.specs.Latest.{asks_latest, RepliesFit}
use Rattle.std.proofs.Common.{◌≡◌, true}

pub handled_stands : (before : List Numbered) (mark : ℕ) (start : Moment) (q : Asked) (b : Begins before mark start q) (phase acts : List Numbered) (m : Moment) (here : Here start.world phase q acts m)
    (room : asks_latest q ≡ true → RepliesFit acts) (n : ℕ) (router from : List ℕ) → IfSome (went m (handle_step m.world router from)) (Then start.world phase q acts m here (n, c.Handle router from))
handled_stands before mark start q b phase acts m here room n router from = handle_stands before mark start q b phase acts m here n router from
    (λ id content tag h. response_stands before mark start q b phase acts m here room n router from id content tag h)
    (λ id extras tag h. final_stands before mark start q b phase acts m here n router from id extras tag h)
