use Rattle.std.proofs.Common.{◌≡◌, ◌<◌, ℕ, List, [], length, slice_index_or, sym, ◌∙◌, arith}
use Rattle.std.proofs.lemmas.List.{get_or_read, length-map}
use Rattle.zr_id.specs.Record.{RecordState}
use Rattle.zr_graph.proofs.Names.{same_is}
use Rattle.zr_tree.proofs.rooted.RootedTrees.is_at.Goals as goal

pub returns-then-index-len : goal.returns-then-index-len
returns-then-index-len c h =
    let names : List (List ℕ) = c.self.inside.names.items in
    let within : c.args.index < length names = omega arith in
    let named : slice_index_or names c.args.index [] ≡ c.args.id.now = sym (get_or_read names c.args.index c.index.result.now within c.index.ensures []) ∙ same_is _ _ (sym c.eq.ensures ∙ h) in
    let both : (c.args.index < length names) × (slice_index_or names c.args.index [] ≡ c.args.id.now) = (within, named) in
    let found = rw c.self.invariant.names_are at both in
    rw (← c.self.view_is, ← length-map c.self.inside.records.items (λ (r : RecordState). r.id)) found
