use denote.Param.Send.{sendable}
use Rattle.std.proofs.Common.{sym, subst, get_or}
use Rattle.std.proofs.Crossing.{crosses}
use Rattle.zr_fan.specs.Parts.{HasGiven}
use Rattle.zr_fan.proofs.Crossing.{share_send}
use Rattle.zr_fan.proofs.threaded.run_parts.Goals as goal

pub map_vec-requires-send-J : goal.map_vec-requires-send-J
map_vec-requires-send-J g c κs within = search (share_send, crosses, sendable) depth 60 fits 20000

pub map_vec-requires-send-X : goal.map_vec-requires-send-X
map_vec-requires-send-X g c κs within = search (share_send, crosses, sendable) depth 60 fits 20000

pub returns-clause-each : goal.returns-clause-each
returns-clause-each g c = λ i d p lt.
    let h = (c.in_ok-done.ensures.each i d lt).1 in
    subst (λ z. HasGiven c.args.turn z (get_or c.in_ok-done.done.items i d)) (sym (h.job_is p)) h.call.met
