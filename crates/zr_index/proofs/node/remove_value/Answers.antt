use Rattle.std.proofs.Common.{◌≡◌, refl, sym, ap, ◌∙◌, arith, get_or}
use Rattle.std.specs.List.{sum_by, position}
use Rattle.std.proofs.lemmas.List.Quantifiers.{position-Some}
use Rattle.std.proofs.lemmas.List.Sums.{sum_by-remove}
use Rattle.zr_index.proofs.Changing.{none_placed}
use Rattle.zr_index.proofs.node.remove_value.Goals as goal

pub returns-in_default : goal.returns-in_default
returns-in_default g c =
    let none = ap (λ vs. position (λ w. g.V.PartialEq.eq w c.args.value.now) vs) (sym c.deref.ensures.value) ∙ sym c.place_of.ensures ∙ c.in_default.is in
    (refl, none_placed (λ w. g.V.PartialEq.eq w c.args.value.now) c.args.values.now.items none)

pub returns : goal.returns
returns g c =
    let vs = c.args.values.now.items in
    let w = c.remove.result in
    let found = ap (λ xs. position (λ w. g.V.PartialEq.eq w c.args.value.now) xs) (sym c.deref.ensures.value) ∙ sym c.place_of.ensures ∙ c.in-Some.is in
    let placed = position-Some (λ w. g.V.PartialEq.eq w c.args.value.now) vs c.in-Some.place w found in
    let there : w ≡ get_or vs c.in-Some.place w = c.remove.ensures.value in (
      w,
      ap (λ x. g.V.PartialEq.eq x c.args.value.now) there ∙ placed.1,
      λ f. omega (arith, sum_by-remove f vs c.in-Some.place w placed.0, ap f there, ap (sum_by f) c.remove.ensures.items),
    )
