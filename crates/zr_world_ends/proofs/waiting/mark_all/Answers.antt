use Rattle.std.proofs.Common.{◌==◌, cond, ap, ◌∙◌}
use Rattle.zr_world_ends.specs.Kept.{can_handle, can_take}
use Rattle.zr_world_spec.specs.World.{End}
use Rattle.zr_world_ends.specs.Kept.{KeptEnd}
use Rattle.zr_world_ends.specs.Index.{has_mark}
use Rattle.zr_world_ends.proofs.Index.{marked_more, just_anew}
use Rattle.zr_world_ends.proofs.waiting.mark_all.Goals as goal

pub loop-place-preserved : goal.loop-place-preserved
loop-place-preserved c = (
  marked_more can_handle c.args.ends.now c.loop-place.place c.index-ends-place.result c.args.to_handle.now c.loop-place.to_handle c.mark.new.to_handle c.loop-place-test.true c.loop-place.invariant.0
      (λ q. c.mark.ensures.handles q ∙ ap (λ b. cond (q == c.loop-place.place) b (has_mark c.loop-place.to_handle q)) (ap (λ (x : End × KeptEnd). can_handle x.1) c.index-ends-place.is)),
  marked_more can_take c.args.ends.now c.loop-place.place c.index-ends-place.result c.args.to_take.now c.loop-place.to_take c.mark.new.to_take c.loop-place-test.true c.loop-place.invariant.1
      (λ q. c.mark.ensures.takes q ∙ ap (λ b. cond (q == c.loop-place.place) b (has_mark c.loop-place.to_take q)) (ap (λ (x : End × KeptEnd). can_take x.1) c.index-ends-place.is)),
  c.mark.ensures.handle_room ∙ c.loop-place.invariant.2,
  c.mark.ensures.take_room ∙ c.loop-place.invariant.3,
)

pub returns : goal.returns
returns c = record {
  ordered = c.requires.ordered;
  handles = just_anew can_handle c.args.ends.now c.loop-place.place c.args.to_handle.now c.loop-place.to_handle c.loop-place-test.false c.requires.no_handle c.loop-place.invariant.0;
  takes = just_anew can_take c.args.ends.now c.loop-place.place c.args.to_take.now c.loop-place.to_take c.loop-place-test.false c.requires.no_take c.loop-place.invariant.1;
  handle_room = rw c.loop-place.invariant.2 c.requires.handle_room;
  take_room = rw c.loop-place.invariant.3 c.requires.take_room;
}
