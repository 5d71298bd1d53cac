-- A text of bytes spells the bytes of what its characters spell.
use Rattle.std.proofs.Common.{◌≡◌, ℕ, ◌==◌, ◌<◌, ◌≤◌, ◌∷◌, ◌++◌, [], List, Bool, true, false, cond, ◌&&◌, refl, sym, ap, ◌∙◌, arith, nat_eq, nat_lt, nat_le, map}
use lib.Utf8.{encode, encodes}
use Rattle.std.specs.Cmp.Lexicographic.{pointwise}
use Rattle.std.specs.List.{list_all, slice_split, onto_first}
use Rattle.std.specs.Str.{is_utf8, chars as chars_of_text}
use Rattle.std.proofs.lemmas.Bool.{and_parts, leb-true, ltb-true, ltb-false, ne_eqb}
use Rattle.std.proofs.lemmas.Str.{encode_ascii, encodes-chars, IsUtf8-from_is_utf8}
use Rattle.zr_key.specs.Expression.{Piece, Any, AnyChunks, Pieces}
use Rattle.zr_key.specs.Key.{pieces_of, chunk_of, chunks, expression_of}
use Rattle.zr_match.proofs.Characters.{shape, high_encode, bytes_of}
use Rattle.zr_match.proofs.TextInclusion.{chunk_bytes}
use Rattle.zr_match.proofs.TextKeys.{pieces_encoded}

-- ---- a text is cut at `/` as its characters are

-- bytes in front of the first part
abbrev in_front : List ℕ → List (List ℕ) → List (List ℕ)
in_front [] parts = parts
in_front (b ∷ u) parts = onto_first b (in_front u parts)

front_joined : (u x : List ℕ) (xs : List (List ℕ)) → in_front u (x ∷ xs) ≡ (u ++ x) ∷ xs
front_joined [] x xs = refl
front_joined (b ∷ u) x xs = ap (λ z. onto_first b z) (front_joined u x xs)

high_cut : (u r : List ℕ) → list_all (λ b. nat_le 128 b) u ≡ true → slice_split (λ b. b == 47) (u ++ r) ≡ in_front u (slice_split (λ b. b == 47) r)
high_cut [] r h = refl
high_cut (b ∷ u) r h =
    let parts = and_parts (nat_le 128 b) (list_all (λ c. nat_le 128 c) u) h in
    let high : 128 ≤ b = leb-true 128 b parts.0 in
    let slash : (b == 47) ≡ false = ne_eqb b 47 (λ e. omega arith) in
    rw slash (ap (λ z. onto_first b z) (high_cut u r parts.1))

some_part : (cs : List ℕ) → (x : List ℕ) × (xs : List (List ℕ)) × (slice_split (λ b. b == 47) cs ≡ x ∷ xs)
some_part [] = ([], [], refl)
some_part (c ∷ cs) = by (c == 47) (some_part cs)
  where
    by : (t : Bool) → ((x : List ℕ) × (xs : List (List ℕ)) × (slice_split (λ b. b == 47) cs ≡ x ∷ xs))
        → (x : List ℕ) × (xs : List (List ℕ)) × (cond t ([] ∷ slice_split (λ b. b == 47) cs) (onto_first c (slice_split (λ b. b == 47) cs)) ≡ x ∷ xs)
    by true h = ([], slice_split (λ b. b == 47) cs, refl)
    by false h = (c ∷ h.0, h.1, ap (λ z. onto_first c z) h.2)

char_front : (c : ℕ) (parts : List (List ℕ)) (x : List ℕ) (xs : List (List ℕ)) → parts ≡ x ∷ xs → in_front (encode c) (map encodes parts) ≡ map encodes (onto_first c parts)
char_front c parts x xs e =
    ap (λ z. in_front (encode c) (map encodes z)) e ∙ front_joined (encode c) (encodes x) (map encodes xs) ∙ sym (ap (λ z. map encodes (onto_first c z)) e)

cut_more : (c : ℕ) (cs : List ℕ) → slice_split (λ b. b == 47) (encodes cs) ≡ map encodes (slice_split (λ b. b == 47) cs)
    → slice_split (λ b. b == 47) (encode c ++ encodes cs) ≡ map encodes (slice_split (λ b. b == 47) (c ∷ cs))
cut_more c cs ih = by (nat_lt c 128) refl (some_part cs)
  where
    low : (t : Bool) → in_front (c ∷ []) (map encodes (chunks cs)) ≡ map encodes (onto_first c (chunks cs))
        → cond t ([] ∷ map encodes (chunks cs)) (onto_first c (map encodes (chunks cs))) ≡ map encodes (cond t ([] ∷ chunks cs) (onto_first c (chunks cs)))
    low true e = refl
    low false e = e

    by : (t : Bool) → nat_lt c 128 ≡ t → ((x : List ℕ) × (xs : List (List ℕ)) × (chunks cs ≡ x ∷ xs)) → slice_split (λ b. b == 47) (encode c ++ encodes cs) ≡ map encodes (slice_split (λ b. b == 47) (c ∷ cs))
    by true e h =
        let ascii : encode c ≡ c ∷ [] = encode_ascii c (ltb-true c 128 e) in
        ap (λ z. slice_split (λ b. b == 47) (z ++ encodes cs)) ascii ∙ ap (λ z. cond (c == 47) ([] ∷ z) (onto_first c z)) ih
        ∙ low (c == 47) (ap (λ z. in_front z (map encodes (chunks cs))) (sym ascii) ∙ char_front c (chunks cs) h.0 h.1 h.2)
    by false e h =
        let high : 128 ≤ c = ltb-false c 128 e in
        let slash : (c == 47) ≡ false = ne_eqb c 47 (λ q. omega arith) in
        high_cut (encode c) (encodes cs) (high_encode c high) ∙ ap (λ z. in_front (encode c) z) ih ∙ char_front c (chunks cs) h.0 h.1 h.2
        ∙ sym (ap (λ t. map encodes (cond t ([] ∷ chunks cs) (onto_first c (chunks cs)))) slash)

cut_encoded : (cs : List ℕ) → slice_split (λ b. b == 47) (encodes cs) ≡ map encodes (slice_split (λ b. b == 47) cs)
cut_encoded [] = refl
cut_encoded (c ∷ cs) = cut_more c cs (cut_encoded cs)

-- ---- a text spells the chunk that its characters spell

same_ascii : (cs t : List ℕ) → list_all (λ b. nat_lt b 128) t ≡ true → pointwise nat_eq (encodes cs) t ≡ pointwise nat_eq cs t
same_ascii [] t h = refl
same_ascii (c ∷ cs) [] h = ap (λ z. pointwise nat_eq (z ++ encodes cs) []) (shape c).bytes
same_ascii (c ∷ cs) (y ∷ t) h =
    let parts = and_parts (nat_lt y 128) (list_all (λ b. nat_lt b 128) t) h in
    by (nat_lt c 128) refl (ltb-true y 128 parts.0) (same_ascii cs t parts.1)
  where
    by : (u : Bool) → nat_lt c 128 ≡ u → y < 128 → pointwise nat_eq (encodes cs) t ≡ pointwise nat_eq cs t → pointwise nat_eq (encode c ++ encodes cs) (y ∷ t) ≡ pointwise nat_eq (c ∷ cs) (y ∷ t)
    by true e small ih = ap (λ z. pointwise nat_eq (z ++ encodes cs) (y ∷ t)) (encode_ascii c (ltb-true c 128 e)) ∙ ap (λ z. nat_eq c y && z) ih
    by false e small ih =
        let high : 128 ≤ c = ltb-false c 128 e in
        let s = shape c in
        let first : 128 ≤ s.lead = s.high high in
        let bytes : nat_eq s.lead y ≡ false = ne_eqb s.lead y (λ q. omega arith) in
        let char : nat_eq c y ≡ false = ne_eqb c y (λ q. omega arith) in
        ap (λ z. pointwise nat_eq (z ++ encodes cs) (y ∷ t)) s.bytes ∙ ap (λ z. z && pointwise nat_eq (s.tail ++ encodes cs) t) bytes ∙ sym (ap (λ z. z && pointwise nat_eq cs t) char)

chunk_encoded : (cs : List ℕ) → chunk_of (encodes cs) ≡ chunk_bytes (chunk_of cs)
chunk_encoded cs =
    ap (λ t. cond t Any (cond (pointwise nat_eq (encodes cs) (42 ∷ 42 ∷ [])) AnyChunks (Pieces (pieces_of (encodes cs))))) (same_ascii cs (42 ∷ []) refl)
    ∙ ap (λ t. cond (pointwise nat_eq cs (42 ∷ [])) Any (cond t AnyChunks (Pieces (pieces_of (encodes cs))))) (same_ascii cs (42 ∷ 42 ∷ []) refl)
    ∙ ap (λ p. cond (pointwise nat_eq cs (42 ∷ [])) Any (cond (pointwise nat_eq cs (42 ∷ 42 ∷ [])) AnyChunks (Pieces p))) (pieces_encoded cs)
    ∙ by (pointwise nat_eq cs (42 ∷ [])) (pointwise nat_eq cs (42 ∷ 42 ∷ [])) (pieces_of cs)
  where
    by : (t u : Bool) (p : List Piece) → cond t Any (cond u AnyChunks (Pieces (bytes_of p))) ≡ chunk_bytes (cond t Any (cond u AnyChunks (Pieces p)))
    by true u p = refl
    by false true p = refl
    by false false p = refl

chunks_encoded : (parts : List (List ℕ)) → map chunk_of (map encodes parts) ≡ map chunk_bytes (map chunk_of parts)
chunks_encoded [] = refl
chunks_encoded (x ∷ xs) = ap (λ z. z ∷ map chunk_of (map encodes xs)) (chunk_encoded x) ∙ ap (λ z. chunk_bytes (chunk_of x) ∷ z) (chunks_encoded xs)

expression_encoded : (cs : List ℕ) → expression_of (encodes cs) ≡ map chunk_bytes (expression_of cs)
expression_encoded cs = ap (λ z. map chunk_of z) (cut_encoded cs) ∙ chunks_encoded (chunks cs)

pub expression_chars : (text : List ℕ) → is_utf8 text ≡ true → expression_of text ≡ map chunk_bytes (expression_of (chars_of_text text))
expression_chars text u = ap (λ z. expression_of z) (sym (encodes-chars text (IsUtf8-from_is_utf8 text u))) ∙ expression_encoded (chars_of_text text)
