-- A line that was told or lost, by other names of what it tells and of the log.
use Rattle.std.proofs.Common.{◌≡◌, ℕ, List, Option, sym, subst}
use Rattle.zr_outside.specs.Told.{Tells}

pub told_as : {S C : Type 0} (line : S → C → List ℕ) (s s' : S) (c c' : C) (a b a' b' : Option (List ℕ)) (m n m' n' : ℕ) → s ≡ s' → c ≡ c' → a ≡ a' → m ≡ m' → b' ≡ b → n' ≡ n
    → Tells (line s c) a b m n → Tells (line s' c') a' b' m' n'
told_as line s s' c c' a b a' b' m n m' n' stage cause held lost held_now lost_now told =
    let counted = subst (λ z. Tells (line s c) a b m z) (sym lost_now) told in
    let now = subst (λ z. Tells (line s c) a z m n') (sym held_now) counted in
    let before = subst (λ z. Tells (line s c) a b' z n') lost now in
    let both = subst (λ z. Tells (line s c) z b' m' n') held before in
    subst (λ z. Tells (line z c') a' b' m' n') stage (subst (λ z. Tells (line s z) a' b' m' n') cause both)
