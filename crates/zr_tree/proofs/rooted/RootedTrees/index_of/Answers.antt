use Rattle.std.proofs.Common.{◌∙◌}
use Rattle.std.proofs.lemmas.List.{length-map}
use Rattle.zr_id.specs.Record.{RecordState}
use Rattle.zr_tree.proofs.rooted.RootedTrees.index_of.Goals as goal

pub index_in-requires : goal.index_in-requires
index_in-requires c = rw (c.deref.ensures.value ∙ c.self.invariant.names_are) c.self.invariant.ascending

pub returns : goal.returns
returns c =
    let found = rw (c.deref.ensures.value ∙ c.self.invariant.names_are) at c.index_in.ensures in
    rw (← c.self.view_is, ← length-map c.self.inside.records.items (λ (r : RecordState). r.id)) found
