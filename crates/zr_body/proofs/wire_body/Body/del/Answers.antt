use Rattle.std.proofs.Common.{sym, subst}
use Rattle.zr_body.specs.Payload.{IsBodyTo}
use Rattle.zr_body.proofs.Payloads.{del_is_body}
use Rattle.zr_body.proofs.wire_body.Body.del.Goals as goal

pub invariant_of-result : goal.invariant_of-result
invariant_of-result c = subst (IsBodyTo 1) (sym c.in_ok-from_slice.ensures.ok) del_is_body
