use Rattle.std.proofs.Common.{◌≡◌, ap, ◌∙◌, not, ◌==◌, length, arith}
use Rattle.std.specs.Prelude.{is_some, slice_get}
use Rattle.std.specs.VecDeque.{deque_len}
use Rattle.zr_carrier.specs.Wire.{Wire}
use Rattle.zr_netrun_batches.proofs.Tags.{zip_some}
use Rattle.zr_netrun_batches.proofs.way.Way.waits.Goals as goal

pub returns : goal.returns
returns c =
    let tags = c.self.inside.tags in
    let long : deque_len tags ≡ length tags.items = omega arith in
    ap (λ b. not b) c.is_empty.ensures ∙ ap (λ n. not (n == 0)) long ∙ zip_some c.self.inside.line.messages tags.items c.self.invariant
    ∙ ap (λ (w : Wire). is_some (slice_get w.waiting 0)) c.self.view_is
