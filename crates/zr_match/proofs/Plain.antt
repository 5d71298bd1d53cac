-- Two keys compare well where they are the same text.
use Rattle.std.proofs.Common.{◌≡◌, ℕ, ◌==◌, ◌∷◌, [], List, Bool, true, false, cond, not, ◌||◌, refl, sym, ap, subst, ◌∙◌, nat_eq, map}
use Rattle.std.specs.List.{list_any, list_all, onto_first, join_with_byte}
use Rattle.std.specs.Cmp.Lexicographic.{pointwise}
use Rattle.std.proofs.lemmas.List.Splits.{join_with_byte-slice_split}
use Rattle.std.proofs.lemmas.Bool.{and_parts, or_parts, not-true, false≢true}
use Rattle.zr_lists.proofs.Truths.{same_test}
use Rattle.zr_key.specs.Expression.{Chunk, Any, AnyChunks, Pieces, is_wild, is_chunk, Matches}
use Rattle.zr_key.specs.Key.{chunks, pieces_of, chunk_of, expression_of, is_plain_text}
use Rattle.zr_key.proofs.Spelling.{same_bytes}
use Rattle.zr_match.specs.Match.{Covers}
use Rattle.zr_match.specs.Table.{compare_chunks}
use Rattle.zr_match.proofs.PieceTable.{chars, chars_fit, fit_chars, chars_take, take_chars, bytes_same}
use Rattle.zr_match.proofs.GoTogether.{plain_chars}
use Rattle.zr_match.proofs.ChunkTable.{compare_common, common_compare, compare_covers, covers_compare}

-- the chunks of a key's text have no wildcard
abbrev bare : List ℕ → Bool
bare c = not (list_any (λ b. b == 42 || b == 36) c)

bare_first : (b : ℕ) (parts : List (List ℕ)) → (b == 42 || b == 36) ≡ false → list_all bare parts ≡ true → list_all bare (onto_first b parts) ≡ true
bare_first b [] e h = rw e refl
bare_first b (part ∷ parts) e h = rw e h

bare_parts : (text : List ℕ) → list_any (λ b. b == 42 || b == 36) text ≡ false → list_all bare (chunks text) ≡ true
bare_parts [] h = refl
bare_parts (b ∷ bs) h =
    let parts = or_parts (b == 42 || b == 36) (list_any (λ c. c == 42 || c == 36) bs) h in
    by (b == 47) parts.0 (bare_parts bs parts.1)
  where
    by : (t : Bool) → (b == 42 || b == 36) ≡ false → list_all bare (chunks bs) ≡ true → list_all bare (cond t ([] ∷ chunks bs) (onto_first b (chunks bs))) ≡ true
    by true e ih = ih
    by false e ih = bare_first b (chunks bs) e ih

-- they are their characters
pub bare_chunk : (c : List ℕ) → list_any (λ b. b == 42 || b == 36) c ≡ false → chunk_of c ≡ Pieces (chars c)
bare_chunk c h = by (pointwise nat_eq c (42 ∷ [])) (pointwise nat_eq c (42 ∷ 42 ∷ [])) refl refl
  where
    by : (t u : Bool) → pointwise nat_eq c (42 ∷ []) ≡ t → pointwise nat_eq c (42 ∷ 42 ∷ []) ≡ u → cond t Any (cond u AnyChunks (Pieces (pieces_of c))) ≡ Pieces (chars c)
    by true u e f =
        let star : list_any (λ b. b == 42 || b == 36) c ≡ true = ap (λ z. list_any (λ b. b == 42 || b == 36) z) (same_bytes c (42 ∷ []) e) in
        absurd (false≢true (sym h ∙ star))
    by false true e f =
        let star : list_any (λ b. b == 42 || b == 36) c ≡ true = ap (λ z. list_any (λ b. b == 42 || b == 36) z) (same_bytes c (42 ∷ 42 ∷ []) f) in
        absurd (false≢true (sym h ∙ star))
    by false false e f = ap (λ p. Pieces p) (plain_chars c h).0

abbrev key_chunks : List (List ℕ) → List Chunk
key_chunks parts = map (λ c. Pieces (chars c)) parts

bare_chunks : (parts : List (List ℕ)) → list_all bare parts ≡ true → map chunk_of parts ≡ key_chunks parts
bare_chunks [] h = refl
bare_chunks (c ∷ parts) h =
    let both = and_parts (bare c) (list_all bare parts) h in
    let first : chunk_of c ≡ Pieces (chars c) = bare_chunk c (not-true (list_any (λ b. b == 42 || b == 36) c) both.0) in
    let rest : map chunk_of parts ≡ key_chunks parts = bare_chunks parts both.1 in
    cc

chars_plain : (w : List ℕ) → is_wild (chars w) ≡ false
chars_plain [] = refl
chars_plain (c ∷ w) = chars_plain w

-- a key matches itself alone, and covers itself alone
key_matches : (parts : List (List ℕ)) → Matches (key_chunks parts) parts
key_matches [] = refl
key_matches (c ∷ parts) = ((chars_fit c, λ w. absurd (false≢true (sym (chars_plain c) ∙ w))), key_matches parts)

matches_key : (parts k : List (List ℕ)) → Matches (key_chunks parts) k → k ≡ parts
matches_key [] k m = m
matches_key (c ∷ parts) [] m = absurd m
matches_key (c ∷ parts) (d ∷ k) m =
    let first : c ≡ d = fit_chars c d m.0.0 in
    let rest : k ≡ parts = matches_key parts k m.1 in
    cc

key_covers : (parts : List (List ℕ)) → Covers (key_chunks parts) (key_chunks parts)
key_covers [] = refl
key_covers (c ∷ parts) = ((chars_take c, λ w. absurd (false≢true (sym (chars_plain c) ∙ w))), key_covers parts)

covers_key : (parts others : List (List ℕ)) → Covers (key_chunks parts) (key_chunks others) → parts ≡ others
covers_key [] [] m = refl
covers_key [] (d ∷ others) m = cc
covers_key (c ∷ parts) [] m = absurd m
covers_key (c ∷ parts) (d ∷ others) m =
    let first : c ≡ d = take_chars c d m.0.0 in
    let rest : parts ≡ others = covers_key parts others m.1 in
    cc

-- the chunks of a key's text
key_text : (text : List ℕ) → is_plain_text text ≡ true → expression_of text ≡ key_chunks (chunks text)
key_text text h = bare_chunks (chunks text) (bare_parts text (not-true (list_any (λ b. b == 42 || b == 36) text) h))

same_texts : (a b : List ℕ) → chunks a ≡ chunks b → a ≡ b
same_texts a b e = sym (join_with_byte-slice_split 47 a) ∙ ap (λ z. join_with_byte 47 z) e ∙ join_with_byte-slice_split 47 b

compared_same : (expands : Bool) (a b : List ℕ) → is_plain_text a ≡ true → is_plain_text b ≡ true → list_all is_chunk (expression_of a) ≡ true → list_all is_chunk (expression_of b) ≡ true
    → compare_chunks expands (expression_of a) (expression_of b) ≡ true → chunks a ≡ chunks b
compared_same true a b pa pb oka okb h =
    let c = compare_common (expression_of a) (expression_of b) oka okb h in
    let first : c.word ≡ chunks a = matches_key (chunks a) c.word (subst (λ z. Matches z c.word) (key_text a pa) c.first_matches) in
    let second : c.word ≡ chunks b = matches_key (chunks b) c.word (subst (λ z. Matches z c.word) (key_text b pb) c.second_matches) in
    sym first ∙ second
compared_same false a b pa pb oka okb h =
    covers_key (chunks a) (chunks b) (subst (λ z. Covers z (key_chunks (chunks b))) (key_text a pa) (subst (λ z. Covers (expression_of a) z) (key_text b pb) (compare_covers (expression_of a) (expression_of b) h)))

same_compared : (expands : Bool) (a : List ℕ) → is_plain_text a ≡ true → compare_chunks expands (expression_of a) (expression_of a) ≡ true
same_compared true a pa =
    let m : Matches (expression_of a) (chunks a) = subst (λ z. Matches z (chunks a)) (sym (key_text a pa)) (key_matches (chunks a)) in
    common_compare (expression_of a) (expression_of a) (chunks a) m m
same_compared false a pa =
    covers_compare (expression_of a) (expression_of a) (subst (λ z. Covers z z) (sym (key_text a pa)) (key_covers (chunks a)))

pub keys_compare : (expands : Bool) (a b : List ℕ) → is_plain_text a ≡ true → is_plain_text b ≡ true → list_all is_chunk (expression_of a) ≡ true → list_all is_chunk (expression_of b) ≡ true
    → pointwise nat_eq a b ≡ compare_chunks expands (expression_of a) (expression_of b)
keys_compare expands a b pa pb oka okb = same_test (pointwise nat_eq a b) (compare_chunks expands (expression_of a) (expression_of b))
    (λ h. ap (λ z. compare_chunks expands (expression_of a) (expression_of z)) (sym (same_bytes a b h)) ∙ same_compared expands a pa)
    (λ h. bytes_same a b (same_texts a b (compared_same expands a b pa pb oka okb h)))
