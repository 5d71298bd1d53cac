use Rattle.std.proofs.Common.{rules}
use Rattle.std.proofs.lemmas.Fn.{always_returns_same}
use Rattle.zr_world_spec.specs.World.{end_cmp}
use Rattle.zr_lists.proofs.Places.{found_place}
use Rattle.zr_world_ends.proofs.Standing.{exact_order, name_of, ascending}
use Rattle.zr_world_ends.proofs.places.place_of.Goals as goal

pub returns : goal.returns
returns c =
    found_place end_cmp name_of exact_order c.args.ends.now c.args.at.now _ (ascending c.args.ends.now c.requires) c.binary_search_by.ensures.bound
    (c.binary_search_by.ensures.position (λ e. end_cmp e.0 c.args.at.now) (always_returns_same _ _ _ (λ a r g called. search rules)))
