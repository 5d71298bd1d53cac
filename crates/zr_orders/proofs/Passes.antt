-- What has the same things passes the same test.
use Rattle.std.proofs.Common.{◌≡◌, ℕ, ◌+◌, Bool, true, false, cond, List, [], ◌∷◌, ◌++◌, map, length, refl, sym, ap, ◌∙◌, arith}
use Rattle.std.specs.List.{AllByRecursion}
use Rattle.zr_orders.specs.Bag.{weigh, AreSame}

-- 1 for a thing that fails a test
abbrev pub fails : {X : Type 0} → (X → Bool) → X → ℕ
fails fits x = cond (fits x) 0 1

module _ {X : Type 0} (fits : X → Bool) where
  pub none_fails : (xs : List X) → AllByRecursion (λ x. fits x ≡ true) xs → weigh (fails fits) xs ≡ 0
  none_fails [] all = refl
  none_fails (x ∷ xs) all = let one : fails fits x ≡ 0 = ap (λ b. cond b 0 1) all.0 in omega (arith, one, none_fails xs all.1)

  passes_by : (b : Bool) (n : ℕ) → n ≡ cond b 0 1 → n ≡ 0 → b ≡ true
  passes_by true n is e = refl
  passes_by false n is e = absurd (omega (arith, is, e))

  pub all_pass : (xs : List X) → weigh (fails fits) xs ≡ 0 → AllByRecursion (λ x. fits x ≡ true) xs
  all_pass [] none = tt
  all_pass (x ∷ xs) none = (passes_by (fits x) (fails fits x) refl (omega (arith, none)), all_pass xs (omega (arith, none)))

  pub same_pass : (xs ys : List X) → AreSame xs ys → AllByRecursion (λ x. fits x ≡ true) xs → AllByRecursion (λ x. fits x ≡ true) ys
  same_pass xs ys same all = all_pass ys (sym (same (fails fits)) ∙ none_fails xs all)

  pub append_pass : (xs ys : List X) → AllByRecursion (λ x. fits x ≡ true) xs → AllByRecursion (λ x. fits x ≡ true) ys → AllByRecursion (λ x. fits x ≡ true) (xs ++ ys)
  append_pass [] ys a b = b
  append_pass (x ∷ xs) ys a b = (a.0, append_pass xs ys a.1 b)

pub weigh-map : {X Y : Type 0} (f : Y → ℕ) (g : X → Y) (xs : List X) → weigh f (map g xs) ≡ weigh (λ x. f (g x)) xs
weigh-map f g [] = refl
weigh-map f g (x ∷ xs) = omega (arith, weigh-map f g xs)

pub same_map : {X Y : Type 0} (g : X → Y) (xs ys : List X) → AreSame xs ys → AreSame (map g xs) (map g ys)
same_map g xs ys same f = weigh-map f g xs ∙ same (λ x. f (g x)) ∙ sym (weigh-map f g ys)

pub weigh-one : {X : Type 0} (xs : List X) → weigh (λ x. 1) xs ≡ length xs
weigh-one [] = refl
weigh-one (x ∷ xs) = omega (arith, weigh-one xs)
