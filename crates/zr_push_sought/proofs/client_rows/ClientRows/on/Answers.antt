use Rattle.std.proofs.Common.{◌≡◌, ◌∙◌, ◌-◌, ℕ, List, nat_le, take, drop, length, sym, ap, subst, true, false}
use Rattle.std.specs.List.Sorted.{IsPartitionPoint, IsNonDecreasingBy}
use Rattle.std.proofs.lemmas.List.Sorted.{IsNonDecreasingBy-drop}
use Rattle.zr_local.specs.Owners.{on_link}
use Rattle.zr_local.specs.Rows.{AreInOrder}
use Rattle.zr_local.specs.declared.row.Row.{Row}
use Rattle.zr_push_sought.proofs.Rows.{links_rise, between, rest_of}
use Rattle.zr_push_sought.proofs.client_rows.ClientRows.on.Goals as goal

pub count_on-count-requires : goal.count_on-count-requires
count_on-count-requires c =
    let rows : List Row = c.self.inside.rows.now in
    let i : ℕ = c.first_near-first.result in
    let up : AreInOrder rows = c.self.invariant in
    subst (λ (rs : List Row). IsNonDecreasingBy (λ (r : Row). r.link.0) rs) (sym (rest_of i rows)) (IsNonDecreasingBy-drop (λ (r : Row). r.link.0) i rows (links_rise rows up))

pub returns-clause-rows : goal.returns-clause-rows
returns-clause-rows c =
    let rows : List Row = c.self.inside.rows.now in
    let link : ℕ = c.args.link.0 in
    let i : ℕ = c.first_near-first.result in
    let j : ℕ = c.count_on-count.result in
    let rest : take (length rows - i) (drop i rows) ≡ drop i rows = rest_of i rows in
    let count : IsPartitionPoint (λ (r : Row). nat_le r.link.0 link ≡ true) (λ (r : Row). nat_le r.link.0 link ≡ false) (drop i rows) j =
    subst (λ (rs : List Row). IsPartitionPoint (λ (r : Row). nat_le r.link.0 link ≡ true) (λ (r : Row). nat_le r.link.0 link ≡ false) rs j) rest c.count_on-count.ensures.parted in
    ap (λ (rs : List Row). take j rs) rest
    ∙ sym (between link rows i j c.first_near-first.ensures.within c.first_near-first.ensures.parted count)
    ∙ ap (λ (rs : List Row). on_link rs link) c.self.view_is
