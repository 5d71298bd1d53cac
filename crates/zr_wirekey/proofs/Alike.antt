-- Two texts are compared byte by byte, in one way or the other.
use Rattle.std.proofs.Common.{◌≡◌, ℕ, true, List, refl, arith}
use Rattle.std.specs.Prelude.{nat_eq}
use Rattle.std.specs.Cmp.Lexicographic.{pointwise, slice_cmp}
use Rattle.std.specs.Ordering.{nat_cmp, is_eq}
use Rattle.std.proofs.lemmas.Bool.Decides.{nat_tests}
use Rattle.std.proofs.lemmas.Cmp.{same_from_slice_cmp}
use Rattle.std.proofs.lemmas.Slice.Eq.{bytes_eq-Decides}
use Rattle.zr_wirekey.specs.Names.{is_text}

pub text_is : (a b : List ℕ) → is_text a b ≡ true → a ≡ b
text_is a b h = (bytes_eq-Decides a b).0 h

pub is_itself : (a b : List ℕ) → a ≡ b → is_text a b ≡ true
is_itself a b h = (bytes_eq-Decides a b).1 h

-- the order calls two texts equal exactly where they are one
pub ordered_so : (a b : List ℕ) → is_eq (slice_cmp nat_cmp a b) ≡ is_text a b
ordered_so a b = same_from_slice_cmp nat_cmp is_eq (pointwise nat_eq) refl (λ _ _. refl) (λ _ _. refl) (λ x y xs ys o h. grind (arith, nat_tests)) a b (slice_cmp nat_cmp a b) refl
