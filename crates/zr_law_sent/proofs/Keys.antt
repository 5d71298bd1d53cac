-- The text of an expression is read as itself, so it is a key on the wire.
use Rattle.std.proofs.Common.{◌≡◌, ℕ, ◌==◌, true, List, [], ◌∷◌, refl, ap, ◌∙◌}
use Rattle.std.specs.Prelude.{nat_eq}
use Rattle.std.specs.Cmp.Lexicographic.{pointwise}
use Rattle.std.proofs.lemmas.Bool.{and_from}
use Rattle.zr_lists.proofs.Numbers.{same_number}
use Rattle.zr_key.specs.Key.{IsKeyText}
use Rattle.zr_key.proofs.Reading.{read_again}
use Rattle.zr_decl.specs.Writing.{IsKey}
use Rattle.zr_oam.specs.Oam.{is_canonical, is_reading}

same_self : (xs : List ℕ) → pointwise nat_eq xs xs ≡ true
same_self [] = refl
same_self (x ∷ xs) = and_from (x == x) (pointwise nat_eq xs xs) (same_number x) (same_self xs)

pub text_is_key : (key : List ℕ) → IsKeyText key → IsKey key
text_is_key key h = (h.short, read_again key h)

pub text_is_canonical : (key : List ℕ) → IsKeyText key → is_canonical key ≡ true
text_is_canonical key h = ap (is_reading key) (read_again key h) ∙ same_self key
