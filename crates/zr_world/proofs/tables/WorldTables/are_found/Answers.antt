use Rattle.std.proofs.Common.{◌≡◌, true, false, not, filter, length, sym, ap, ◌∙◌, rules}
use Rattle.std.specs.Prelude.{◌==◌}
use Rattle.std.specs.List.{list_any}
use Rattle.std.specs.Vec.{vec_len}
use Rattle.zr_world_spec.specs.World.{is_linked}
use Rattle.zr_world.specs.State.{state_of}
use Rattle.zr_world.proofs.Searching.{gone_on, fewer, ended}
use Rattle.zr_world.proofs.tables.WorldTables.are_found.Goals as goal

pub search-smaller : goal.search-smaller
search-smaller g c =
    let w = state_of c.args.self.now in
    let long : length c.search.found.items ≡ vec_len c.search.found = ap length (sym c.deref.ensures.value) ∙ c.deref.ensures.len in
    let some : (length c.search.found.items == 0) ≡ false = ap (λ n. n == 0) long ∙ sym c.is_empty.ensures ∙ c.search-test.true in
    let close : c.in_ok-near.near.items ≡ filter (λ y. list_any (λ x. is_linked (state_of c.args.self.now).ends x y) c.search.found.items) c.search.missing.items =
    rw (c.deref.ensures.value, c.deref-in-search.ensures.value) at c.in_ok-near.ensures in
    let others : c.in_ok-missing.missing.items ≡ filter (λ y. not (list_any (λ x. is_linked (state_of c.args.self.now).ends x y) c.search.found.items)) c.search.missing.items =
    rw (c.deref-in-search-2.ensures.value, c.deref-in-search-3.ensures.value) at c.in_ok-missing.ensures in
    fewer (λ y. list_any (λ x. is_linked (state_of c.args.self.now).ends x y) c.search.found.items) c.search.found.items c.search.missing.items c.in_ok-near.near.items c.in_ok-missing.missing.items
    some close others

pub search-preserved : goal.search-preserved
search-preserved g c =
    let close : c.in_ok-near.near.items ≡ filter (λ y. list_any (λ x. is_linked (state_of c.args.self.now).ends x y) c.search.found.items) c.search.missing.items =
    rw (c.deref.ensures.value, c.deref-in-search.ensures.value) at c.in_ok-near.ensures in
    let others : c.in_ok-missing.missing.items ≡ filter (λ y. not (list_any (λ x. is_linked (state_of c.args.self.now).ends x y) c.search.found.items)) c.search.missing.items =
    rw (c.deref-in-search-2.ensures.value, c.deref-in-search-3.ensures.value) at c.in_ok-missing.ensures in
    rw (close, others) (gone_on (state_of c.args.self.now) c.requires.graph c.args.root c.search.found.items c.search.missing.items c.search.invariant)

pub returns : goal.returns
returns g c =
    let long : length c.search.found.items ≡ vec_len c.search.found = search rules in
    let also : length c.search.missing.items ≡ vec_len c.search.missing = search rules in
    let none : (length c.search.found.items == 0) ≡ true = ap (λ n. n == 0) long ∙ sym c.is_empty.ensures ∙ c.search-test.false in
    c.is_empty-2.ensures ∙ ap (λ n. n == 0) (sym also) ∙ ended (state_of c.args.self.now) c.requires.graph c.args.root c.requires.there c.search.found.items c.search.missing.items c.search.invariant none
