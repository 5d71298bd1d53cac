-- A router handles a request: a query stands on (`request_then`).
use Rattle.std.proofs.Common.{◌≡◌, ℕ, ◌==◌, Bool, true, false, List, [], ◌∷◌, ◌++◌, Option, refl}
use Rattle.zr_msg.specs.declared.content.Parts.{Parts}
use Rattle.zr_msg.specs.declared.msg.Msg.TheVariants.{Request}
use Rattle.zr_msg.specs.declared.msg.Target.{Target}
use Rattle.zr_script_spec.specs.declared.command.Act.TheVariants as c
use Rattle.zr_world_spec.specs.Moments.{Numbered, Moment}
use Rattle.zr_guarantee.specs.Queries.{Asked}
use Rattle.zr_law_replies.specs.Stands.{Stands}
use Rattle.zr_law_replies.proofs.StandStep.{Begins, Here, Then}
use Rattle.zr_law_replies.proofs.HandleHeard.{Heard, after_heard}
use Rattle.zr_law_replies.proofs.RequestComes.{Comes, comes}
use Rattle.zr_law_replies.proofs.RequestForeign.{other_stands}
use Rattle.zr_law_replies.proofs.RequestOwn.{own_stands}

module _ (before : List Numbered) (mark : ℕ) (start : Moment) (q : Asked) (b : Begins before mark start q) (phase acts : List Numbered) (m : Moment) (here : Here start.world phase q acts m)
    (n : ℕ) (x from : List ℕ) (tree : Option (List ℕ)) (id : ℕ) (target : Target) (content : Parts) (tag : ℕ) (h : Heard m.world x from (Request tree id target content) tag) where
  pub request_then : Then start.world phase q acts m here (n, c.Handle x from) (after_heard m x from (Request tree id target content) tag h)
  request_then go still hop' plain' = by (tag == q.line) refl
    where
      known : Comes start.world q here.hop hop' x from h.router h.link tree id target content tag
      known = comes start.world phase q acts m here x from tree id target content tag h still hop' plain'

      by : (d : Bool) → (tag == q.line) ≡ d → Stands start.world phase q (acts ++ (n, c.Handle x from) ∷ []) (after_heard m x from (Request tree id target content) tag h) hop'
      by true e = own_stands before mark start q b phase acts m here n x from tree id target content tag h still hop' known e
      by false e = other_stands before mark start q b phase acts m here n x from tree id target content tag h still hop' known e
