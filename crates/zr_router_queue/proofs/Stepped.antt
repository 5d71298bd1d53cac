-- A loop that changes each element of a slice in its place: what it has come by is changed, and what is left is as it was.
use Rattle.std.proofs.Common.{◌≡◌, ℕ, zero, suc, ◌+◌, ◌<◌, List, [], ◌∷◌, length, get_or, slice_set, refl, sym, ap, subst, add-one, arith}
use Rattle.std.specs.List.{AllZip}

abbrev behind_first : {X : Type 0} → List X → List X
behind_first [] = []
behind_first (x ∷ xs) = xs

module _ {X : Type 0} (R : X → X → Type 0) where
  abbrev pub IsStepped : ℕ → List X → List X → Type 0
  IsStepped zero xs ys = ys ≡ xs
  IsStepped (suc i) [] [] = Unit {0}
  IsStepped (suc i) [] (y ∷ ys) = ⊥
  IsStepped (suc i) (x ∷ xs) [] = ⊥
  IsStepped (suc i) (x ∷ xs) (y ∷ ys) = R x y × IsStepped i xs ys

  pub stepped_first : (xs : List X) → IsStepped 0 xs xs
  stepped_first xs = refl

  -- the next one is as it was
  pub stepped_next : (i : ℕ) (xs ys : List X) (d : X) → IsStepped i xs ys → get_or ys i d ≡ get_or xs i d
  stepped_next zero xs ys d s = ap (λ zs. get_or zs 0 d) s
  stepped_next (suc i) [] [] d s = refl
  stepped_next (suc i) [] (y ∷ ys) d s = absurd s
  stepped_next (suc i) (x ∷ xs) [] d s = absurd s
  stepped_next (suc i) (x ∷ xs) (y ∷ ys) d s = stepped_next i xs ys d s.1

  more : (i : ℕ) (xs ys : List X) (d z : X) → i < length ys → IsStepped i xs ys → R (get_or xs i d) z → IsStepped (suc i) xs (slice_set ys i z)
  more i xs [] d z lt s r = absurd (omega (arith, lt))
  more zero [] (y ∷ ys) d z lt s r = cc
  more zero (x ∷ xs) (y ∷ ys) d z lt s r = (r, ap behind_first s)
  more (suc i) [] (y ∷ ys) d z lt s r = absurd s
  more (suc i) (x ∷ xs) (y ∷ ys) d z lt s r = (s.0, more i xs ys d z (omega (arith, lt)) s.1 r)

  pub stepped_more : (i : ℕ) (xs ys : List X) (d z : X) → i < length ys → IsStepped i xs ys → R (get_or xs i d) z → IsStepped (i + 1) xs (slice_set ys i z)
  stepped_more i xs ys d z lt s r = subst (λ n. IsStepped n xs (slice_set ys i z)) (sym (add-one i)) (more i xs ys d z lt s r)

  -- at the end all are changed
  pub stepped_all : (xs ys : List X) → IsStepped (length xs) xs ys → AllZip R xs ys
  stepped_all [] [] s = tt
  stepped_all [] (y ∷ ys) s = cc
  stepped_all (x ∷ xs) [] s = absurd s
  stepped_all (x ∷ xs) (y ∷ ys) s = (s.0, stepped_all xs ys s.1)

-- each beside itself
pub zip_same : {X : Type 0} (S : X → X → Type 0) → ((x : X) → S x x) → (xs : List X) → AllZip S xs xs
zip_same S same [] = tt
zip_same S same (x ∷ xs) = (same x, zip_same S same xs)

-- what holds of each pair, where another thing does
pub zip_so : {X : Type 0} (R S : X → X → Type 0) → ((x y : X) → R x y → S x y) → (xs ys : List X) → AllZip R xs ys → AllZip S xs ys
zip_so R S f [] [] h = tt
zip_so R S f [] (y ∷ ys) h = h
zip_so R S f (x ∷ xs) [] h = h
zip_so R S f (x ∷ xs) (y ∷ ys) h = (f x y h.0, zip_so R S f xs ys h.1)

-- the loop ends at an element that isn't changed so: each is changed in a way that takes in no change
pub stepped_part : {X : Type 0} (R S : X → X → Type 0) → ((x y : X) → R x y → S x y) → ((x : X) → S x x) → (i : ℕ) (xs ys : List X) (d z : X) → i < length ys →
    IsStepped R i xs ys → S (get_or xs i d) z → AllZip S xs (slice_set ys i z)
stepped_part R S f same i xs [] d z lt s r = absurd (omega (arith, lt))
stepped_part R S f same zero [] (y ∷ ys) d z lt s r = cc
stepped_part R S f same zero (x ∷ xs) (y ∷ ys) d z lt s r = (r, subst (λ zs. AllZip S xs zs) (sym (ap behind_first s)) (zip_same S same xs))
stepped_part R S f same (suc i) [] (y ∷ ys) d z lt s r = absurd s
stepped_part R S f same (suc i) (x ∷ xs) (y ∷ ys) d z lt s r = (f x y s.0, stepped_part R S f same i xs ys d z (omega (arith, lt)) s.1 r)
