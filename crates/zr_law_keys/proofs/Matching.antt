-- A text matches what its characters match, and two texts meet where their characters do.
use Rattle.std.proofs.Common.{◌≡◌, ◌↔◌, ℕ, ◌∷◌, ◌++◌, [], List, Bool, true, false, cond, ◌&&◌, ◌||◌, refl, sym, ap, subst, ◌∙◌, nat_lt, nat_le, map}
use lib.Utf8.{encode, encodes, scalar, scalars}
use Rattle.std.specs.List.{list_all}
use Rattle.std.specs.Str.{is_utf8, chars as chars_of_text}
use Rattle.std.proofs.lemmas.Bool.{and_parts, and_from}
use Rattle.std.proofs.lemmas.List.Folds.{list_all-append}
use Rattle.std.proofs.lemmas.Str.{encodes-chars, scalars-chars, IsUtf8-from_is_utf8}
use Rattle.zr_key.specs.Expression.{is_plain, is_key_chunk, is_key, Matches}
use Rattle.zr_key.specs.Key.{expression_of, IsKeyText}
use Rattle.zr_match.specs.Match.{Meets}
use Rattle.zr_match.specs.Laws.{is_scalar}
use Rattle.zr_match.proofs.Characters.{shape}
use Rattle.zr_match.proofs.TextKeys.{text_key}
use Rattle.zr_match.proofs.TextInclusion.{chunk_bytes, matches_there, plain_char, key_bytes}
use Rattle.zr_law_keys.specs.Laws.{MeetInCharacters}
use Rattle.zr_law_keys.proofs.Encoding.{matches_back}
use Rattle.zr_law_keys.proofs.Spelling.{expression_chars}

-- ---- keys

key_chars : (key : List (List ℕ)) → list_all is_utf8 key ≡ true → map encodes (map chars_of_text key) ≡ key
key_chars [] h = refl
key_chars (w ∷ key) h =
    let parts = and_parts (is_utf8 w) (list_all is_utf8 key) h in
    ap (λ z. z ∷ map encodes (map chars_of_text key)) (encodes-chars w (IsUtf8-from_is_utf8 w parts.0)) ∙ ap (λ z. w ∷ z) (key_chars key parts.1)

plain_back : (w : List ℕ) → list_all is_plain (encodes w) ≡ true → list_all is_plain w ≡ true
plain_back [] h = refl
plain_back (c ∷ w) h =
    let parts = and_parts (list_all is_plain (encode c)) (list_all is_plain (encodes w)) (sym (list_all-append is_plain (encode c) (encodes w)) ∙ h) in
    and_from (is_plain c) (list_all is_plain w) (plain_char c parts.0) (plain_back w parts.1)

key_chunk_back : (w : List ℕ) → is_key_chunk (encodes w) ≡ true → is_key_chunk w ≡ true
key_chunk_back [] h = h
key_chunk_back (c ∷ w) h =
    let s = shape c in
    plain_back (c ∷ w) (ap (λ z. list_all is_plain (z ++ encodes w)) s.bytes ∙ sym (ap (λ z. is_key_chunk (z ++ encodes w)) s.bytes) ∙ h)

key_back : (k : List (List ℕ)) → is_key (map encodes k) ≡ true → is_key k ≡ true
key_back [] h = h
key_back (w ∷ k) h = all (w ∷ k) h
  where
    all : (k : List (List ℕ)) → list_all is_key_chunk (map encodes k) ≡ true → list_all is_key_chunk k ≡ true
    all [] g = refl
    all (w ∷ k) g =
        let parts = and_parts (is_key_chunk (encodes w)) (list_all is_key_chunk (map encodes k)) g in
        and_from (is_key_chunk w) (list_all is_key_chunk k) (key_chunk_back w parts.0) (all k parts.1)

all_scalar : (w : List ℕ) → scalars w ≡ true → list_all is_scalar w ≡ true
all_scalar [] h = refl
all_scalar (c ∷ w) h =
    let parts = and_parts (scalar c) (scalars w) h in
    and_from (is_scalar c) (list_all is_scalar w) (by (nat_lt c 55296) parts.0) (all_scalar w parts.1)
  where
    by : (t : Bool) → cond t true (nat_le 57344 c && nat_lt c 1114112) ≡ true → (t || nat_le 57344 c && nat_lt c 1114112) ≡ true
    by true k = refl
    by false k = k

key_scalar : (key : List (List ℕ)) → list_all is_utf8 key ≡ true → list_all (λ w. list_all is_scalar w) (map chars_of_text key) ≡ true
key_scalar [] h = refl
key_scalar (w ∷ key) h =
    let parts = and_parts (is_utf8 w) (list_all is_utf8 key) h in
    and_from (list_all is_scalar (chars_of_text w)) (list_all (λ w. list_all is_scalar w) (map chars_of_text key))
    (all_scalar (chars_of_text w) (scalars-chars w (IsUtf8-from_is_utf8 w parts.0))) (key_scalar key parts.1)

-- ---- the laws

pub chars_match : (text : List ℕ) (key : List (List ℕ)) → is_utf8 text ≡ true → list_all is_utf8 key ≡ true → Matches (expression_of text) key ↔ Matches (expression_of (chars_of_text text)) (map chars_of_text key)
chars_match text key u h =
    let e = expression_chars text u in
    let k = key_chars key h in (
      λ m. matches_back (expression_of (chars_of_text text)) (map chars_of_text key)
          (subst (λ z. Matches (map chunk_bytes (expression_of (chars_of_text text))) z) (sym k) (subst (λ z. Matches z key) e m)),
      λ m. subst (λ z. Matches z key) (sym e)
          (subst (λ z. Matches (map chunk_bytes (expression_of (chars_of_text text))) z) k (matches_there (expression_of (chars_of_text text)) (map chars_of_text key) m)),
    )

bytes_match : (text : List ℕ) (k : List (List ℕ)) → is_utf8 text ≡ true → Matches (expression_of (chars_of_text text)) k → Matches (expression_of text) (map encodes k)
bytes_match text k u m = subst (λ z. Matches z (map encodes k)) (sym (expression_chars text u)) (matches_there (expression_of (chars_of_text text)) k m)

pub chars_meet : (a b : List ℕ) → IsKeyText a → IsKeyText b → Meets (expression_of a) (expression_of b) ↔ MeetInCharacters (expression_of (chars_of_text a)) (expression_of (chars_of_text b))
chars_meet a b p q = (there, back)
  where
    there : Meets (expression_of a) (expression_of b) → MeetInCharacters (expression_of (chars_of_text a)) (expression_of (chars_of_text b))
    there m =
        let h = text_key a b p q m in (
          map chars_of_text h.0,
          key_back (map chars_of_text h.0) (ap (λ z. is_key z) (key_chars h.0 h.2) ∙ h.1),
          key_scalar h.0 h.2,
          (chars_match a h.0 p.utf8 h.2).0 h.3,
          (chars_match b h.0 q.utf8 h.2).0 h.4,
        )

    back : MeetInCharacters (expression_of (chars_of_text a)) (expression_of (chars_of_text b)) → Meets (expression_of a) (expression_of b)
    back m = (map encodes m.0, key_bytes m.0 m.1, bytes_match a m.0 p.utf8 m.3, bytes_match b m.0 q.utf8 m.4)
