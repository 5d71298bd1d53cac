use Rattle.std.proofs.Common.{◌≡◌, ℕ, ◌-◌, List, [], ◌∷◌, ◌++◌, length, refl, sym, ap, ◌∙◌}
use Rattle.std.specs.Map.{lookup, remove_entry}
use Rattle.std.specs.Ordering.{nat_cmp, is_eq}
use Rattle.std.specs.Cmp.Lexicographic.{slice_cmp}
use Rattle.zr_wirekey.proofs.Numbers.{find_ordered}
use Rattle.zr_wirekey.proofs.Giving.{same_numbering}
use Rattle.zr_wirekey.proofs.Forgetting.{forgotten}
use Rattle.zr_wirekey.proofs.names.Names.forget_last.Goals as goal

pub invariant_of-self : goal.invariant_of-self
invariant_of-self c =
    let slice : List ℕ = c.as_slice-in-Some.result.now in
    let all : c.self.inside.texts.items ≡ c.pop.new.self.items ++ slice ∷ [] = c.in-Some.ensures.items ∙ ap (λ (z : List ℕ). c.pop.new.self.items ++ z ∷ []) (sym c.as_slice-in-Some.ensures) in
    let bytes : c.self.inside.bytes - length c.as_slice.result.now ≡ c.self.inside.bytes - length slice =
    ap (λ (z : List ℕ). c.self.inside.bytes - length z) (c.as_slice.ensures ∙ sym c.as_slice-in-Some.ensures) in
    same_numbering (λ k. k.items) _ _ _ _ _ _ refl c.remove.ensures.entries bytes (forgotten (λ k. k.items) c.pop.new.self.items c.self.inside.texts.items c.self.inside.numbers.entries c.self.inside.bytes slice c.self.invariant all
    (sym (find_ordered (λ k. k.items) (remove_entry (λ k. is_eq (slice_cmp nat_cmp slice k.items)) c.self.inside.numbers.entries) slice)
    ∙ ap (λ es. lookup (λ k. is_eq (slice_cmp nat_cmp slice k.items)) es) (sym c.remove.ensures.entries) ∙ c.remove.ensures.updates.1))
