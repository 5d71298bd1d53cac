use Rattle.std.proofs.Common.{List, subst, sym, ap, ◌∙◌}
use Rattle.zr_id.specs.Record.{RecordState}
use Rattle.zr_tree.specs.Linked.{MakeEdgesOf}
use Rattle.zr_tree.proofs.way.Way.of.Goals as goal

pub invariant_of-result : goal.invariant_of-result
invariant_of-result c =
    let P : List RecordState → Type 0 = λ rs. MakeEdgesOf c.linked-linked.result.now rs in
    record { edges = subst P (sym (ap (λ v. v.items) c.of.ensures ∙ c.records.ensures)) c.linked-linked.ensures; places = c.places_of.ensures }
