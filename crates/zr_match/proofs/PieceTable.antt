-- The table over the pieces of two chunks.
use Rattle.std.proofs.Common.{◌≡◌, ℕ, ◌==◌, ◌∷◌, ◌++◌, [], List, Bool, true, false, refl, sym, ap, subst, ◌∙◌, reverse, map, nat_eq}
use Rattle.std.specs.Cmp.Lexicographic.{pointwise}
use Rattle.std.specs.List.{list_any, list_all}
use Rattle.std.proofs.lemmas.Bool.{and_parts, and_from, eqb-true, eq-eqb, false≢true}
use Rattle.std.proofs.lemmas.List.{reverse-append, reverse-reverse}
use Rattle.std.proofs.lemmas.List.Folds.{list_all-append}
use Rattle.zr_lists.proofs.Tests.{all_pass}
use Rattle.zr_key.specs.Expression.{Piece, Char, AnyChars, is_plain, is_piece, is_any_chars, Fits}
use Rattle.zr_key.proofs.Spelling.{same_bytes}
use Rattle.zr_match.specs.Match.{Takes}
use Rattle.zr_match.specs.Table.{same_char, piece_signs, pieces_compare}
use Rattle.zr_match.proofs.Globs.{Gapped, Headed, Matching, Common, OpenLetter, SharedLetter, Sharing, Taking, barred, reverse_matches, table_sound, table_complete, table_takes, table_taken}

-- a test of all of a list, read backwards
pub list_all-reverse : {X : Type 0} (p : X → Bool) (xs : List X) → list_all p xs ≡ true → list_all p (reverse xs) ≡ true
list_all-reverse p [] h = refl
list_all-reverse p (x ∷ xs) h =
    let parts = and_parts (p x) (list_all p xs) h in
    ap (λ z. list_all p z) (reverse-append (x ∷ []) xs) ∙ list_all-append p (reverse xs) (x ∷ [])
    ∙ and_from (list_all p (reverse xs)) (list_all p (x ∷ [])) (list_all-reverse p xs parts.1) (and_from (p x) true parts.0 refl)

-- a gap within a chunk takes each character
abbrev pub none : ℕ → Bool
none c = false

none_barred : (run : List ℕ) → list_any none run ≡ false
none_barred [] = refl
none_barred (c ∷ run) = none_barred run

-- a piece other than `$*` matches itself
abbrev pub IsChar : Piece → ℕ → Type 0
IsChar (Char c) b = c ≡ b
IsChar AnyChars b = ⊥

piece_gap_in : (x : Piece) (p : List Piece) (run rest : List ℕ) → is_any_chars x ≡ true → Fits p rest → Fits (x ∷ p) (run ++ rest)
piece_gap_in (Char c) p run rest g m = cc
piece_gap_in AnyChars p run rest g m = (run, rest, refl, m)

piece_gap_out : (x : Piece) (p : List Piece) (k : List ℕ) → is_any_chars x ≡ true → Fits (x ∷ p) k → Gapped none Fits p k
piece_gap_out (Char c) p k g m = cc
piece_gap_out AnyChars p k g m = record { run = m.0; rest = m.1; joined = m.2; open_run = none_barred m.0; rest_matches = m.3 }

piece_one_in : (x : Piece) (p : List Piece) (c : ℕ) (k : List ℕ) → is_any_chars x ≡ false → IsChar x c → Fits p k → Fits (x ∷ p) (c ∷ k)
piece_one_in (Char d) p c k g l m = (l, m)
piece_one_in AnyChars p c k g l m = cc

piece_one_out : (x : Piece) (p : List Piece) (k : List ℕ) → is_any_chars x ≡ false → Fits (x ∷ p) k → Headed IsChar Fits x p k
piece_one_out (Char d) p [] g m = absurd m
piece_one_out (Char d) p (c ∷ k) g m = record { first = c; rest = k; joined = refl; first_matches = m.0; rest_matches = m.1 }
piece_one_out AnyChars p k g m = cc

pub fits_law : (expands : Bool) → Matching (piece_signs expands) none IsChar Fits
fits_law expands = record {
  nil_in = refl;
  nil_out = λ k m. m;
  gap_in = λ x p run rest g o m. piece_gap_in x p run rest g m;
  gap_out = piece_gap_out;
  one_in = piece_one_in;
  one_out = piece_one_out;
}

-- Which pieces may stand in a pattern, and which characters are good, is for the caller to say.
open_char : (good : ℕ → Bool) (ok : Piece → Bool) → ((c : ℕ) → ok (Char c) ≡ true → good c ≡ true) → (x : Piece) → ok x ≡ true → is_any_chars x ≡ false → OpenLetter none good IsChar x
open_char good ok each (Char c) h g = record { letter = c; is_good = each c h; opened = refl; matches = refl }
open_char good ok each AnyChars h g = cc

shared_char : (good : ℕ → Bool) (ok : Piece → Bool) → ((c : ℕ) → ok (Char c) ≡ true → good c ≡ true) → (x y : Piece) → ok x ≡ true → same_char x y ≡ true → SharedLetter good IsChar x y
shared_char good ok each (Char c) (Char d) h t = record { letter = c; is_good = each c h; first_matches = refl; second_matches = sym (eqb-true c d t) }
shared_char good ok each (Char c) AnyChars h t = cc
shared_char good ok each AnyChars y h t = cc

same_letter : (x y : Piece) (c : ℕ) → IsChar x c → IsChar y c → same_char x y ≡ true
same_letter (Char d) (Char e) c l m = eq-eqb d e (l ∙ sym m)
same_letter (Char d) AnyChars c l m = absurd m
same_letter AnyChars y c l m = absurd l

fits_tests : (good : ℕ → Bool) (ok : Piece → Bool) → ((c : ℕ) → ok (Char c) ≡ true → good c ≡ true) → Sharing (piece_signs true) none good ok IsChar
fits_tests good ok each = record {
  expands = refl;
  gap_open = λ y g. refl;
  open_letter = λ x h g o. open_char good ok each x h g;
  letter_open = λ x c l o. refl;
  shared = λ x y okx oky g h t. shared_char good ok each x y okx t;
  together = same_letter;
}

-- pieces that compare well have a word in common, and the other way round
compare_common : (good : ℕ → Bool) (ok : Piece → Bool) → ((c : ℕ) → ok (Char c) ≡ true → good c ≡ true)
    → (p q : List Piece) → list_all ok p ≡ true → list_all ok q ≡ true → pieces_compare true p q ≡ true → Common good Fits p q
compare_common good ok each p q okp okq h =
    let c = table_sound (piece_signs true) none good ok IsChar Fits (fits_law true) (fits_tests good ok each) (reverse p) (reverse q) (list_all-reverse ok p okp) (list_all-reverse ok q okq) h in
    record {
      word = reverse c.word;
      is_good = list_all-reverse good c.word c.is_good;
      first_matches = subst (λ z. Fits z (reverse c.word)) (reverse-reverse p) (reverse_matches (piece_signs true) none IsChar Fits (fits_law true) (reverse p) c.word c.first_matches);
      second_matches = subst (λ z. Fits z (reverse c.word)) (reverse-reverse q) (reverse_matches (piece_signs true) none IsChar Fits (fits_law true) (reverse q) c.word c.second_matches);
    }

pub compare_sound : (p q : List Piece) → list_all is_piece p ≡ true → list_all is_piece q ≡ true → pieces_compare true p q ≡ true → Common is_plain Fits p q
compare_sound p q okp okq h = compare_common is_plain is_piece (λ c e. e) p q okp okq h

pub compare_complete : (p q : List Piece) (k : List ℕ) → Fits p k → Fits q k → pieces_compare true p q ≡ true
compare_complete p q k m n =
    table_complete (piece_signs true) none is_plain is_piece IsChar Fits (fits_law true) (fits_tests is_plain is_piece (λ c e. e)) (reverse p) (reverse q) (reverse k)
    (reverse_matches (piece_signs true) none IsChar Fits (fits_law true) p k m) (reverse_matches (piece_signs true) none IsChar Fits (fits_law true) q k n)

-- which piece takes which
abbrev pub TakesPiece : Piece → Piece → Type 0
TakesPiece (Char c) (Char d) = c ≡ d
TakesPiece (Char c) AnyChars = ⊥
TakesPiece AnyChars y = ⊥

all_open : (run : List Piece) → list_any (barred (piece_signs false)) run ≡ false
all_open [] = refl
all_open (x ∷ run) = all_open run

take_gap_in : (x : Piece) (p run rest : List Piece) → is_any_chars x ≡ true → Takes p rest → Takes (x ∷ p) (run ++ rest)
take_gap_in (Char c) p run rest g m = cc
take_gap_in AnyChars p run rest g m = (run, rest, refl, m)

take_gap_out : (x : Piece) (p k : List Piece) → is_any_chars x ≡ true → Takes (x ∷ p) k → Gapped (barred (piece_signs false)) Takes p k
take_gap_out (Char c) p k g m = cc
take_gap_out AnyChars p k g m = record { run = m.0; rest = m.1; joined = m.2; open_run = all_open m.0; rest_matches = m.3 }

take_one_in : (x : Piece) (p : List Piece) (y : Piece) (k : List Piece) → is_any_chars x ≡ false → TakesPiece x y → Takes p k → Takes (x ∷ p) (y ∷ k)
take_one_in (Char d) p (Char c) k g l m = (l, m)
take_one_in (Char d) p AnyChars k g l m = absurd l
take_one_in AnyChars p y k g l m = cc

take_one_out : (x : Piece) (p k : List Piece) → is_any_chars x ≡ false → Takes (x ∷ p) k → Headed TakesPiece Takes x p k
take_one_out (Char d) p [] g m = absurd m
take_one_out (Char d) p (Char c ∷ k) g m = record { first = Char c; rest = k; joined = refl; first_matches = m.0; rest_matches = m.1 }
take_one_out (Char d) p (AnyChars ∷ k) g m = absurd m
take_one_out AnyChars p k g m = cc

pub takes_law : Matching (piece_signs false) (barred (piece_signs false)) TakesPiece Takes
takes_law = record {
  nil_in = refl;
  nil_out = λ k m. m;
  gap_in = λ x p run rest g o m. take_gap_in x p run rest g m;
  gap_out = take_gap_out;
  one_in = take_one_in;
  one_out = take_one_out;
}

same_taken : (x y : Piece) → same_char x y ≡ true → TakesPiece x y
same_taken (Char c) (Char d) t = eqb-true c d t
same_taken (Char c) AnyChars t = cc
same_taken AnyChars y t = cc

taken_same : (x y : Piece) → TakesPiece x y → (same_char x y ≡ true) × (is_any_chars y ≡ false)
taken_same (Char c) (Char d) l = (eq-eqb c d l, refl)
taken_same (Char c) AnyChars l = absurd l
taken_same AnyChars y l = absurd l

takes_tests : Taking (piece_signs false) TakesPiece
takes_tests = record {
  keeps = refl;
  takes = λ x y g h t. same_taken x y t;
  together = λ x y l. (taken_same x y l).0;
  no_gap = λ x y l. (taken_same x y l).1;
}

pub compare_takes : (p q : List Piece) → pieces_compare false p q ≡ true → Takes p q
compare_takes p q h =
    let back = reverse_matches (piece_signs false) (barred (piece_signs false)) TakesPiece Takes takes_law (reverse p) (reverse q)
    (table_takes (piece_signs false) TakesPiece Takes takes_law takes_tests (reverse p) (reverse q) h) in
    subst (λ z. Takes z q) (reverse-reverse p) (subst (λ z. Takes (reverse (reverse p)) z) (reverse-reverse q) back)

pub takes_compare : (p q : List Piece) → Takes p q → pieces_compare false p q ≡ true
takes_compare p q m =
    table_taken (piece_signs false) TakesPiece Takes takes_law takes_tests (reverse p) (reverse q) (reverse_matches (piece_signs false) (barred (piece_signs false)) TakesPiece Takes takes_law p q m)

-- bytes that are the same compare equal
pub bytes_same : (xs ys : List ℕ) → xs ≡ ys → pointwise nat_eq xs ys ≡ true
bytes_same xs ys e = ap (λ z. pointwise nat_eq xs z) (sym e) ∙ itself xs
  where
    itself : (zs : List ℕ) → pointwise nat_eq zs zs ≡ true
    itself [] = refl
    itself (z ∷ zs) = and_from (z == z) (pointwise nat_eq zs zs) (eq-eqb z z refl) (itself zs)

-- characters alone
abbrev pub chars : List ℕ → List Piece
chars w = map (λ c. Char c) w

pub chars_fit : (w : List ℕ) → Fits (chars w) w
chars_fit [] = refl
chars_fit (c ∷ w) = (refl, chars_fit w)

pub fit_chars : (w k : List ℕ) → Fits (chars w) k → w ≡ k
fit_chars [] k m = sym m
fit_chars (c ∷ w) [] m = absurd m
fit_chars (c ∷ w) (d ∷ k) m =
    let first : c ≡ d = m.0 in
    let rest : w ≡ k = fit_chars w k m.1 in
    cc

pub chars_take : (w : List ℕ) → Takes (chars w) (chars w)
chars_take [] = refl
chars_take (c ∷ w) = (refl, chars_take w)

pub take_chars : (w k : List ℕ) → Takes (chars w) (chars k) → w ≡ k
take_chars [] [] m = refl
take_chars [] (d ∷ k) m = cc
take_chars (c ∷ w) [] m = absurd m
take_chars (c ∷ w) (d ∷ k) m =
    let first : c ≡ d = m.0 in
    let rest : w ≡ k = take_chars w k m.1 in
    cc

-- they compare well where they are the same
pub compare_chars : (expands : Bool) (w k : List ℕ) → pieces_compare expands (chars w) (chars k) ≡ pointwise nat_eq w k
compare_chars expands w k = by expands (pieces_compare expands (chars w) (chars k)) (pointwise nat_eq w k) refl refl
  where
    same : (e : Bool) → pieces_compare e (chars w) (chars k) ≡ true → w ≡ k
    same true h =
        let c = compare_common (λ (x : ℕ). true) (λ (x : Piece). true) (λ c e. refl) (chars w) (chars k) (all_pass (chars w)) (all_pass (chars k)) h in
        fit_chars w c.word c.first_matches ∙ sym (fit_chars k c.word c.second_matches)
    same false h = take_chars w k (compare_takes (chars w) (chars k) h)

    well : (e : Bool) → w ≡ k → pieces_compare e (chars w) (chars k) ≡ true
    well true h = ap (λ z. pieces_compare true (chars w) (chars z)) (sym h) ∙ compare_complete (chars w) (chars w) w (chars_fit w) (chars_fit w)
    well false h = ap (λ z. pieces_compare false (chars w) (chars z)) (sym h) ∙ takes_compare (chars w) (chars w) (chars_take w)

    by : (e t u : Bool) → pieces_compare e (chars w) (chars k) ≡ t → pointwise nat_eq w k ≡ u → t ≡ u
    by e true true p q = refl
    by e false false p q = refl
    by e true false p q = absurd (false≢true (sym q ∙ bytes_same w k (same e p)))
    by e false true p q = absurd (false≢true (sym p ∙ well e (same_bytes w k q)))
