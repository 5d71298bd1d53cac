-- How much of a text stands before its first wildcard.
use Rattle.std.proofs.Common.{◌≡◌, ℕ, ◌==◌, ◌||◌, ◌+◌, ◌<◌, ◌≤◌, ◌∷◌, [], List, Bool, true, false, cond, not, refl, subst, ◌++◌, arith, length, nat_lt, Some, None}
use Rattle.std.specs.List.{list_any, position}
use Rattle.std.proofs.lemmas.Bool.{or_parts, ne_eqb, eq-eqb}
use Rattle.std.specs.Option.{unwrap_or}
use Rattle.std.proofs.lemmas.Bool.Decides.{nat_tests}
use Rattle.std.proofs.lemmas.List.Sums.{prefix_len-le-length}
use Rattle.zr_key.specs.Key.{plain_prefix_len, is_plain_text}

pub plain_prefix_fits : (text : List ℕ) → plain_prefix_len text ≤ length text
plain_prefix_fits text = prefix_len-le-length (λ b. not (b == 42 || b == 36)) text

plain_whole : (text : List ℕ) → list_any (λ b. b == 42 || b == 36) text ≡ false → plain_prefix_len text ≡ length text
plain_whole [] h = refl
plain_whole (b ∷ bs) h =
    let parts = or_parts (b == 42 || b == 36) (list_any (λ c. c == 42 || c == 36) bs) h in
    by (b == 42 || b == 36) parts.0 (plain_whole bs parts.1)
  where
    by : (t : Bool) → t ≡ false → plain_prefix_len bs ≡ length bs → cond (not t) (1 + plain_prefix_len bs) 0 ≡ length (b ∷ bs)
    by true e ih = cc
    by false e ih = omega arith

star_inside : (text : List ℕ) → list_any (λ b. b == 42 || b == 36) text ≡ true → plain_prefix_len text < length text
star_inside [] h = cc
star_inside (b ∷ bs) h = by (b == 42 || b == 36) h (star_inside bs)
  where
    by : (t : Bool) → (t || list_any (λ c. c == 42 || c == 36) bs) ≡ true → (list_any (λ c. c == 42 || c == 36) bs ≡ true → plain_prefix_len bs < length bs) → cond (not t) (1 + plain_prefix_len bs) 0 < length (b ∷ bs)
    by true e ih = omega arith
    by false e ih =
        let less = ih e in
        omega arith

-- all of it, where it has none
pub plain_is : (text : List ℕ) → (plain_prefix_len text == length text) ≡ is_plain_text text
plain_is text = by (list_any (λ b. b == 42 || b == 36) text) refl
  where
    by : (t : Bool) → list_any (λ b. b == 42 || b == 36) text ≡ t → (plain_prefix_len text == length text) ≡ not t
    by true e =
        let less = star_inside text e in
        ne_eqb (plain_prefix_len text) (length text) (omega arith)
    by false e = eq-eqb (plain_prefix_len text) (length text) (plain_whole text e)

-- no wildcard stands there
pub plain_before : (text part behind : List ℕ) → text ≡ part ++ behind → length part ≤ plain_prefix_len text → list_any (λ b. b == 42 || b == 36) part ≡ false
plain_before text part behind e h = inside part (subst (λ z. length part ≤ plain_prefix_len z) e h)
  where
    inside : (part : List ℕ) → length part ≤ plain_prefix_len (part ++ behind) → list_any (λ b. b == 42 || b == 36) part ≡ false
    inside [] h = refl
    inside (b ∷ part) h = by (b == 42 || b == 36) h (inside part)
      where
        by : (t : Bool) → length (b ∷ part) ≤ cond (not t) (1 + plain_prefix_len (part ++ behind)) 0 → (length part ≤ plain_prefix_len (part ++ behind) → list_any (λ c. c == 42 || c == 36) part ≡ false)
            → (t || list_any (λ c. c == 42 || c == 36) part) ≡ false
        by true less ih =
            let no : ⊥ = omega (arith, less) in
            absurd no
        by false less ih = ih (omega (arith, less))

-- as the search for a wildcard tells it
pub prefix_or_all : (text : List ℕ) → unwrap_or (position (λ b. b == 42 || b == 36) text) (length text) ≡ plain_prefix_len text
prefix_or_all text = by (nat_lt (plain_prefix_len text) (length text)) refl
  where
    by : (t : Bool) → nat_lt (plain_prefix_len text) (length text) ≡ t → unwrap_or (cond t (Some (plain_prefix_len text)) None) (length text) ≡ plain_prefix_len text
    by true e = refl
    by false e =
        let fits = plain_prefix_fits text in
        grind (arith, nat_tests)
