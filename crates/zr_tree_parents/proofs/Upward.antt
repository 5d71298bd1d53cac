-- Jumps go up by parents, also where one is set from two others.
use Rattle.std.proofs.Common.{◌≡◌, ℕ, ◌+◌, ◌<◌, zero, suc, List, ◌⊎◌, inl, inr, length, set, get_or-set_same, get_or-set_other, length-set, zero-add, refl, sym, ap, ◌∙◌, arith}
use Rattle.std.proofs.lemmas.Bool.{cases_eq}
use Rattle.zr_tree_parents.specs.Climb.{at, climb, AreIndexes, AreJumps}

pub climb-climb : (parents : List ℕ) (n m x : ℕ) → climb parents m (climb parents n x) ≡ climb parents (n + m) x
climb-climb parents zero m x = rw zero-add refl
climb-climb parents (suc n) m x =
    let e : suc n + m ≡ suc (n + m) = omega arith in
    rw e (climb-climb parents n m (at parents x))

pub jumps_set : (parents jumps : List ℕ) (x j : ℕ) → AreIndexes parents → AreJumps parents jumps → x < length parents →
    (j ≡ at parents x) ⊎ (j ≡ at jumps (at jumps (at parents x))) → AreJumps parents (set jumps x j)
jumps_set parents jumps x j right h lt is = record {
  long = length-set jumps x j ∙ h.long;
  within = λ y l. by_place y l (cases_eq y x);
  up = λ y l. up_at y l (cases_eq y x);
}
  where
    p : ℕ
    p = at parents x

    inside : x < length jumps
    inside = omega (arith, h.long)

    chosen : (j ≡ at parents x) ⊎ (j ≡ at jumps (at jumps (at parents x))) → (j < length parents) × ((n : ℕ) × (climb parents n (at parents x) ≡ j))
    chosen (inl e) = (rw e (right.within x lt), (0, sym e))
    chosen (inr e) =
        let pl = right.within x lt in
        let a = h.up (at parents x) pl in
        let b = h.up (at jumps (at parents x)) (h.within (at parents x) pl) in (
          rw e (h.within (at jumps (at parents x)) (h.within (at parents x) pl)),
          (suc a.0 + suc b.0, sym (climb-climb parents (suc a.0) (suc b.0) (at parents x)) ∙ ap (λ (z : ℕ). climb parents (suc b.0) z) a.1 ∙ b.1 ∙ sym e),
        )

    by_place : (y : ℕ) → y < length parents → (y ≡ x) ⊎ (y ≡ x → ⊥) → at (set jumps x j) y < length parents
    by_place y l (inl e) = rw (e, get_or-set_same jumps x j 0 inside) ((chosen is).0)
    by_place y l (inr ne) = rw (get_or-set_other jumps x y j 0 ne) (h.within y l)

    up_at : (y : ℕ) → y < length parents → (y ≡ x) ⊎ (y ≡ x → ⊥) → (n : ℕ) × (climb parents n (at parents y) ≡ at (set jumps x j) y)
    up_at y l (inl e) =
        let c = (chosen is).1 in
        (c.0, ap (λ (z : ℕ). climb parents c.0 (at parents z)) e ∙ c.1 ∙ sym (ap (λ (z : ℕ). at (set jumps x j) z) e ∙ get_or-set_same jumps x j 0 inside))
    up_at y l (inr ne) = let c = h.up y l in (c.0, c.1 ∙ sym (get_or-set_other jumps x y j 0 ne))
