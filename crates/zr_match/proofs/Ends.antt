-- The table where one expression is at its end, or is `**` alone.
use Rattle.std.proofs.Common.{◌≡◌, ◌∷◌, [], List, Bool, true, false, not, ◌||◌, ◌&&◌, refl, sym, ap, ◌∙◌, reverse}
use Rattle.std.specs.List.{list_all}
use Rattle.std.proofs.lemmas.Bool.{and_parts, and_from}
use Rattle.std.proofs.lemmas.List.{reverse-reverse}
use Rattle.std.proofs.Math.Bool.{or-false, or-true}
use Rattle.zr_lists.proofs.Truths.{same_test}
use Rattle.zr_key.specs.Expression.{Chunk, Any, AnyChunks, Pieces}
use Rattle.zr_match.specs.Match.{is_verbatim_chunk}
use Rattle.zr_match.specs.Table.{first_row, next_row, table, is_any_chunks, chunk_signs, compare_chunks}
use Rattle.zr_match.proofs.PieceTable.{list_all-reverse}
use Rattle.zr_match.proofs.ChunkTable.{gap_is_open}

-- a test of all of a list reads the same backwards
reverse_same : {X : Type 0} (p : X → Bool) (xs : List X) → list_all p (reverse xs) ≡ list_all p xs
reverse_same p xs = same_test (list_all p (reverse xs)) (list_all p xs)
    (λ h. ap (λ z. list_all p z) (sym (reverse-reverse xs)) ∙ list_all-reverse p (reverse xs) h) (list_all-reverse p xs)

-- chunks that are left
abbrev pub opened : Chunk → Bool
opened x = not (is_verbatim_chunk x)

no_rows : (expands : Bool) (b : List Chunk) → table (chunk_signs expands) b [] ≡ list_all is_any_chunks b
no_rows expands [] = refl
no_rows expands (x ∷ b) = ap (λ z. is_any_chunks x && z) (no_rows expands b)

pub nothing_second : (expands : Bool) (a : List Chunk) → compare_chunks expands a [] ≡ list_all is_any_chunks a
nothing_second expands a = no_rows expands (reverse a) ∙ reverse_same is_any_chunks a

row_true : (b : List Chunk) → first_row (chunk_signs true) b ≡ list_all is_any_chunks b
row_true [] = refl
row_true (y ∷ b) = ap (λ z. is_any_chunks y && z) (row_true b)

pub nothing_first : (b : List Chunk) → compare_chunks true [] b ≡ list_all is_any_chunks b
nothing_first b = row_true (reverse b) ∙ reverse_same is_any_chunks b

row_false : (b : List Chunk) → (first_row (chunk_signs false) b ≡ true) → b ≡ []
row_false [] h = refl
row_false (y ∷ b) h = cc

pub nothing_first_covers : (y : Chunk) (b : List Chunk) → compare_chunks false [] (y ∷ b) ≡ false
nothing_first_covers y b = by (compare_chunks false [] (y ∷ b)) refl
  where
    by : (t : Bool) → compare_chunks false [] (y ∷ b) ≡ t → t ≡ false
    by false e = refl
    by true e =
        let none : reverse (y ∷ b) ≡ [] = row_false (reverse (y ∷ b)) e in
        let bare : y ∷ b ≡ [] = sym (reverse-reverse (y ∷ b)) ∙ ap (λ z. reverse z) none in
        cc

-- `**` alone takes what is not verbatim
row_open : (expands : Bool) (b : List Chunk) → first_row (chunk_signs expands) b ≡ true → list_all opened b ≡ true
row_open expands [] h = refl
row_open expands (y ∷ b) h =
    let outer = and_parts (expands && is_any_chunks y) (first_row (chunk_signs expands) b) h in
    let inner = and_parts expands (is_any_chunks y) outer.0 in
    and_from (opened y) (list_all opened b) (gap_is_open y inner.1) (row_open expands b outer.1)

gap_row : (expands : Bool) (b : List Chunk) → next_row (chunk_signs expands) AnyChunks (first_row (chunk_signs expands)) b ≡ list_all opened b
gap_row expands [] = refl
gap_row expands (y ∷ b) = by (first_row (chunk_signs expands) (y ∷ b)) refl (gap_row expands b)
  where
    by : (t : Bool) → first_row (chunk_signs expands) (y ∷ b) ≡ t → next_row (chunk_signs expands) AnyChunks (first_row (chunk_signs expands)) b ≡ list_all opened b
        → (t || opened y && next_row (chunk_signs expands) AnyChunks (first_row (chunk_signs expands)) b) ≡ (opened y && list_all opened b)
    by true e ih = sym (row_open expands (y ∷ b) e)
    by false e ih = ap (λ z. opened y && z) ih

pub gap_first : (expands : Bool) (b : List Chunk) → compare_chunks expands (AnyChunks ∷ []) b ≡ list_all opened b
gap_first expands b = gap_row expands (reverse b) ∙ reverse_same opened b

all_gaps_open : (b : List Chunk) → list_all is_any_chunks b ≡ true → list_all opened b ≡ true
all_gaps_open [] h = refl
all_gaps_open (y ∷ b) h =
    let parts = and_parts (is_any_chunks y) (list_all is_any_chunks b) h in
    and_from (opened y) (list_all opened b) (gap_is_open y parts.0) (all_gaps_open b parts.1)

gap_column : (a : List Chunk) → table (chunk_signs true) a (AnyChunks ∷ []) ≡ list_all opened a
gap_column [] = refl
gap_column (Any ∷ a) = gap_column a
gap_column (Pieces p ∷ a) = ap (λ z. opened (Pieces p) && z) (gap_column a)
gap_column (AnyChunks ∷ a) = by (table (chunk_signs true) a []) refl (gap_column a)
  where
    by : (t : Bool) → table (chunk_signs true) a [] ≡ t → table (chunk_signs true) a (AnyChunks ∷ []) ≡ list_all opened a → (table (chunk_signs true) a (AnyChunks ∷ []) || t) ≡ list_all opened a
    by false e ih = or-false (table (chunk_signs true) a (AnyChunks ∷ [])) ∙ ih
    by true e ih =
        let all : list_all opened a ≡ true = all_gaps_open a (sym (no_rows true a) ∙ e) in
        or-true (table (chunk_signs true) a (AnyChunks ∷ [])) ∙ sym all

pub gap_second : (a : List Chunk) → compare_chunks true a (AnyChunks ∷ []) ≡ list_all opened a
gap_second a = gap_column (reverse a) ∙ reverse_same opened a
