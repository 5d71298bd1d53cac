use Rattle.std.proofs.Common.{◌≡◌, ℕ, ◌+◌, ◌<◌, [], length, map, refl, ap, ◌∙◌, arith}
use Rattle.std.specs.List.{filter}
use Rattle.std.proofs.lemmas.List.{get_or_read, length_push}
use Rattle.zr_tree_parents.specs.Children.{is_child_index, children_by}
use Rattle.zr_tree_parents.specs.Climb.{row}
use Rattle.zr_tree.specs.Hop.{IsHop}
use Rattle.zr_tree.specs.Index.{name}
use Rattle.zr_tree.proofs.Ways.{hop_from, hops_more}
use Rattle.zr_tree.proofs.tree.Tree.of.Goals as goal

pub loop-x-preserved : goal.loop-x-preserved
loop-x-preserved c =
    let e = c.args.edges.now in
    let right = c.rows-rows.ensures.right in
    let lt : c.loop-x.x < length e.records = omega (arith, c.loop-x-test.true, ap length c.rows-rows.ensures.value, right.long) in
    let near : c.neighbours-neighbours.result.now ≡ row e.rows c.loop-x.x =
    c.neighbours-neighbours.ensures ∙ get_or_read c.rows-rows.result.now c.loop-x.x c.index-rows-x.result c.loop-x-test.true c.index-rows-x.is [] ∙ ap (λ rs. row rs c.loop-x.x) c.rows-rows.ensures.value in
    let is : children_by c.args.names.now c.deref.result.now c.loop-x.x c.neighbours-neighbours.result.now ≡ map (λ n. name e.records n.index) (filter (λ n. is_child_index c.in_ok-ways.ways.parents.items c.loop-x.x n.index) (row e.rows c.loop-x.x)) =
    rw (c.requires.names, c.deref.ensures.value, near) refl in
    let here : IsHop e.records c.args.root c.children_number.new.lists.lists c.loop-x.x c.hop_of.result =
    hop_from e right c.args.root c.loop-x.x _ _ _ c.children_number.new.lists.lists c.hop_of.result _ c.in_ok-ways.ensures lt
    c.hop_of.ensures.depth c.hop_of.ensures.parent c.hop_of.ensures.jump (rw c.hop_of.ensures.children c.in_ok-number.ensures.found) is in
    record {
      long = rw c.in_ok-push.ensures.items (length_push _ _ ∙ ap (λ (n : ℕ). n + 1) c.loop-x.invariant.long);
      each = rw c.in_ok-push.ensures.items (hops_more e.records c.args.root c.loop-x.x c.loop-x.lists.lists c.children_number.new.lists.lists c.loop-x.hops.items c.hop_of.result c.children_number.ensures.kept c.loop-x.invariant.long c.loop-x.invariant.each here);
      kept = λ number list h. c.children_number.ensures.kept number list (c.loop-x.invariant.kept number list h);
      routers = c.children_number.ensures.routers ∙ c.loop-x.invariant.routers;
    }
