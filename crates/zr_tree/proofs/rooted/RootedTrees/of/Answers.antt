use Rattle.std.proofs.Common.{◌≡◌, ℕ, ◌+◌, length, ap, ◌∙◌, arith}
use Rattle.std.proofs.lemmas.List.{length_push, length-map}
use Rattle.zr_id.specs.Record.{RecordState}
use Rattle.zr_graph.specs.Record.{ids}
use Rattle.zr_tree.proofs.Ways.{trees_more}
use Rattle.zr_tree.proofs.rooted.RootedTrees.of.Goals as goal

pub loop-root-preserved : goal.loop-root-preserved
loop-root-preserved c =
    let tree = rw c.in_ok-edges.ensures at c.in_ok-of.ensures.tree in
    record {
      long = rw c.in_ok-push.ensures.items (length_push _ _ ∙ ap (λ (n : ℕ). n + 1) c.loop-root.invariant.long);
      each = rw c.in_ok-push.ensures.items (trees_more c.args.records.items c.loop-root.root c.loop-root.lists.lists c.of-in-loop-root.new.lists.lists c.loop-root.trees.items c.in_ok-of.field-0 c.in_ok-of.ensures.kept c.loop-root.invariant.long c.loop-root.invariant.each tree);
      routers = c.in_ok-of.ensures.routers ∙ c.loop-root.invariant.routers;
    }

pub invariant_of-result : goal.invariant_of-result
invariant_of-result c =
    let names : c.in_ok-names.names.items ≡ ids c.args.records.items = c.in_ok-names.ensures ∙ ap ids c.deref.ensures.value in
    let last : c.loop-root.root ≡ length c.args.records.items =
    omega (arith, c.loop-root-test.false, c.loop-root.auto.root-end, c.len-root-end.ensures, ap length names, length-map c.args.records.items (λ (r : RecordState). r.id)) in
    record {
      names_are = names;
      ascending = c.requires;
      long = c.loop-root.invariant.long ∙ last;
      each = λ r lt. c.loop-root.invariant.each r (omega (arith, last));
    }
