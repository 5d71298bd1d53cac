use Rattle.std.proofs.Common.{◌≡◌, true, sym, ◌∙◌, rules}
use Rattle.std.specs.Cmp.{nat_cmp_total}
use Rattle.std.specs.Map.Iter.{deref_pair}
use Rattle.std.proofs.lemmas.Map.Iter.{btree_map_turn}
use Rattle.zr_pend_spec.specs.Row.{has}
use Rattle.zr_pend_rows.proofs.Placed.{holds_there}
use Rattle.zr_pend_rows.proofs.rows.search.Goals as goal

pub returns-then-has-clause-has : goal.returns-then-has-clause-has
returns-then-has-clause-has c =
    let t = btree_map_turn deref_pair c.loop-place.yielded c.into_iter-place-iterator.result c.loop-place.place-iterator c.next.new.self c.next.result (c.in-Some.place, c.in-Some.row) c.loop-place.yielded_by c.in-Some.is c.next.ensures.steps nat_cmp_total c.args.rows.now (search rules) (search rules) in
    holds_there _ (λ r. has c.args.branch r ≡ true) c.in-Some.row.now t.1 (sym c.has.ensures ∙ c.if-has.true)
