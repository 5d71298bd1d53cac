-- Texts that differ in a byte before any wildcard have no key in common, and chunks without a wildcard that both begin with tell nothing.
use Rattle.std.proofs.Common.{◌≡◌, ◌==◌, ◌∷◌, ◌++◌, [], List, Bool, true, false, cond, not, ◌||◌, ◌&&◌, refl, sym, ap, subst, ◌∙◌, ℕ, zero, suc, ◌-◌, ◌+◌, ◌≤◌, nat_eq, map, length, take, drop, get_or, append_assoc, add-one, arith}
use Rattle.std.specs.List.{list_any, list_all, slice_split, onto_first, All}
use Rattle.std.specs.Cmp.Lexicographic.{pointwise}
use Rattle.std.proofs.lemmas.Bool.{and_parts, and_from, or_parts, not-true, not-false, eqb-true, eq-eqb}
use Rattle.std.proofs.lemmas.List.Folds.{list_any-append}
use Rattle.std.proofs.lemmas.List.Elements.{All-nil, All-cons, All-append}
use Rattle.std.proofs.lemmas.List.{take_more, take-take, take_rest, take-append-drop, length-take-le}
use Rattle.std.proofs.lemmas.List.Splits.{slice_split_at, length-slice_split}
use Rattle.zr_key.specs.Expression.{Piece, Char, Chunk, Any, AnyChunks, Pieces, is_chunk, is_expression, is_piece, is_wild, begins_verbatim, Fits, Matches}
use Rattle.zr_key.specs.Key.{pieces_of, chunk_of, expression_of, is_plain_text, plain_prefix_len}
use Rattle.zr_key.proofs.Plain.{plain_before, plain_prefix_fits}
use Rattle.zr_key.proofs.Spelling.{same_bytes}
use Rattle.zr_key.proofs.CanonForm.{all_chunks}
use Rattle.zr_match.specs.Table.{compare_chunks, chunks_go_together, is_any_chunks}
use Rattle.zr_match.proofs.ChunkTable.{filled, filled_fits, filled_verbatim, compare_common, compare_covers, front}
use Rattle.zr_match.proofs.GoTogether.{plain_case, plain_chars}
use Rattle.zr_match.proofs.Inclusion.{covered_matches}
use Rattle.zr_match.proofs.PieceTable.{bytes_same}
use Rattle.zr_match.proofs.Plain.{bare_chunk}

-- a byte of a wildcard
abbrev pub is_star : ℕ → Bool
is_star b = b == 42 || b == 36

-- the chunks of a key with a `/` behind each
abbrev pub key_line : List (List ℕ) → List ℕ
key_line [] = []
key_line (c ∷ k) = c ++ 47 ∷ key_line k

-- up to its first wildcard, a text is what a line begins with
abbrev pub Begins : List ℕ → List ℕ → Type 0
Begins [] line = Unit {0}
Begins (b ∷ bs) line = is_star b ≡ false → (more : List ℕ) × (line ≡ b ∷ more) × Begins bs more

-- so it is for what is left of a text within a chunk ..
abbrev BeginsWithin : List ℕ → Type 0
BeginsWithin bs = (first : List ℕ) (rest : List (List ℕ)) (c : List ℕ) (k : List (List ℕ)) → slice_split (λ b. b == 47) bs ≡ first ∷ rest
    → Fits (pieces_of first) c → Matches (map chunk_of rest) k → Begins bs (c ++ 47 ∷ key_line k)

-- .. and for a whole text, with the keys that its expression matches
begins_whole : (bs : List ℕ) → BeginsWithin bs → (k : List (List ℕ)) → Matches (expression_of bs) k → Begins bs (key_line k)
begins_whole [] within k m = tt
begins_whole (b ∷ bs) within k m = λ plain. by plain (b == 47) (slice_split (λ x. x == 47) bs) (λ first rest c n e f g. within first rest c n e f g plain) k m
  where
    Ends : List (List ℕ) → Type 0
    Ends n = (more : List ℕ) × (key_line n ≡ b ∷ more) × Begins bs more

    pieces : (first : List ℕ) (rest : List (List ℕ)) → chunk_of first ≡ Pieces (pieces_of first)
        → ((c : List ℕ) (n : List (List ℕ)) → Fits (pieces_of first) c → Matches (map chunk_of rest) n → Ends (c ∷ n))
        → (n : List (List ℕ)) → Matches (chunk_of first ∷ map chunk_of rest) n → Ends n
    pieces first rest e inner [] m = absurd (subst (λ x. Matches (x ∷ map chunk_of rest) []) e m)
    pieces first rest e inner (c ∷ n) m =
        let p = subst (λ x. Matches (x ∷ map chunk_of rest) (c ∷ n)) e m in
        inner c n p.0.0 p.1

    by : is_star b ≡ false → (t : Bool) (split : List (List ℕ))
        → ((first : List ℕ) (rest : List (List ℕ)) (c : List ℕ) (n : List (List ℕ)) → cond t ([] ∷ split) (onto_first b split) ≡ first ∷ rest → Fits (pieces_of first) c → Matches (map chunk_of rest) n → Ends (c ∷ n))
        → (n : List (List ℕ)) → Matches (map chunk_of (cond t ([] ∷ split) (onto_first b split))) n → Ends n
    by plain true split inner n m = pieces [] split refl (λ c o. inner [] split c o refl) n m
    by plain false [] inner n m =
        let star : (b == 42) ≡ false = (or_parts (b == 42) (b == 36) plain).0 in
        pieces (b ∷ []) [] (rw star refl) (λ c o. inner (b ∷ []) [] c o refl) n m
    by plain false (first ∷ rest) inner n m =
        let star : (b == 42) ≡ false = (or_parts (b == 42) (b == 36) plain).0 in
        pieces (b ∷ first) rest (rw star refl) (λ c o. inner (b ∷ first) rest c o refl) n m

begins_within : (bs : List ℕ) → BeginsWithin bs
begins_within [] first rest c k e m n = tt
begins_within (b ∷ bs) first rest c k e m n = λ plain. by plain (b == 47) refl (slice_split (λ x. x == 47) bs) refl (begins_within bs) e
  where
    Ends : List ℕ → Type 0
    Ends d = (more : List ℕ) × (d ++ 47 ∷ key_line k ≡ b ∷ more) × Begins bs more

    char : (next : List ℕ) (others : List (List ℕ)) → slice_split (λ x. x == 47) bs ≡ next ∷ others → BeginsWithin bs → Matches (map chunk_of others) k
        → (d : List ℕ) → Fits (Char b ∷ pieces_of next) d → Ends d
    char next others s ih o [] f = absurd f
    char next others s ih o (x ∷ d) f = (d ++ 47 ∷ key_line k, ap (λ z. z ∷ (d ++ 47 ∷ key_line k)) (sym f.0), ih next others d k s f.1 o)

    by : is_star b ≡ false → (t : Bool) → (b == 47) ≡ t → (split : List (List ℕ)) → slice_split (λ x. x == 47) bs ≡ split → BeginsWithin bs
        → cond t ([] ∷ split) (onto_first b split) ≡ first ∷ rest → Ends c
    by plain true slash split s ih h =
        let none : first ≡ [] = cc in
        let others : rest ≡ split = cc in
        let empty : c ≡ [] = subst (λ p. Fits (pieces_of p) c) none m in
        let byte : b ≡ 47 = eqb-true b 47 slash in
        let behind : Matches (expression_of bs) k = subst (λ z. Matches (map chunk_of z) k) (others ∙ sym s) n in
        (key_line k, ap (λ z. z ++ 47 ∷ key_line k) empty ∙ ap (λ z. z ∷ key_line k) (sym byte), begins_whole bs ih k behind)
    by plain false slash [] s ih h =
        let none : length (slice_split (λ x. x == 47) bs) ≡ 0 = ap length s in
        let some = length-slice_split (λ x. x == 47) bs in
        let no : ⊥ = omega arith in
        absurd no
    by plain false slash (next ∷ others) s ih h =
        let one : first ≡ b ∷ next = cc in
        let more : rest ≡ others = cc in
        let tests = or_parts (b == 42) (b == 36) plain in
        let star : (b == 42) ≡ false = tests.0 in
        let dollar : (b == 36) ≡ false = tests.1 in
        let pieces : pieces_of (b ∷ next) ≡ Char b ∷ pieces_of next = rw (dollar, star) refl in
        char next others s ih (subst (λ z. Matches (map chunk_of z) k) more n) c (subst (λ p. Fits p c) pieces (subst (λ z. Fits (pieces_of z) c) one m))

key_begins : (bs : List ℕ) (k : List (List ℕ)) → Matches (expression_of bs) k → Begins bs (key_line k)
key_begins bs k m = begins_whole bs (begins_within bs) k m

-- two texts that begin with other bytes, as many of each and none of them a wildcard's, do not begin the same line
no_line : (p q a b line : List ℕ) → length p ≡ length q → pointwise nat_eq p q ≡ false → list_any is_star p ≡ false → list_any is_star q ≡ false
    → Begins (p ++ a) line → Begins (q ++ b) line → ⊥
no_line [] [] a b line n differ g h l m = cc
no_line [] (y ∷ q) a b line n differ g h l m = omega (arith, n)
no_line (x ∷ p) [] a b line n differ g h l m = omega (arith, n)
no_line (x ∷ p) (y ∷ q) a b line n differ g h l m =
    let left = or_parts (is_star x) (list_any is_star p) g in
    let right = or_parts (is_star y) (list_any is_star q) h in
    let u = l left.0 in
    let v = m right.0 in
    let joined : x ∷ u.0 ≡ y ∷ v.0 = sym u.1 ∙ v.1 in
    let byte : x ≡ y = cc in
    let more : u.0 ≡ v.0 = cc in
    let rest : pointwise nat_eq p q ≡ false = ap (λ t. t && pointwise nat_eq p q) (sym (eq-eqb x y byte)) ∙ differ in
    no_line p q a b v.0 (omega (arith, n)) rest left.1 right.1 (subst (λ z. Begins (p ++ a) z) more u.2) v.2

-- each expression matches a key
some_key : (e : List Chunk) → list_all is_chunk e ≡ true → (k : List (List ℕ)) × Matches e k
some_key [] h = ([], refl)
some_key (Any ∷ e) h =
    let rest = some_key e h in
    ((97 ∷ []) ∷ rest.0, (refl, rest.1))
some_key (AnyChunks ∷ e) h =
    let rest = some_key e h in
    (rest.0, ([], rest.0, refl, refl, rest.1))
some_key (Pieces p ∷ e) h =
    let parts = and_parts (is_chunk (Pieces p)) (list_all is_chunk e) h in
    let rest = some_key e parts.1 in
    (filled 97 p ∷ rest.0, ((filled_fits 97 p, λ wild. filled_verbatim 97 p refl ∙ open_wild p parts.0 wild), rest.1))
  where
    open_wild : (p : List Piece) → is_chunk (Pieces p) ≡ true → is_wild p ≡ true → begins_verbatim p ≡ false
    open_wild [] h w = refl
    open_wild (x ∷ p) h w = by (begins_verbatim (x ∷ p)) (is_wild (x ∷ p)) w (not-true (begins_verbatim (x ∷ p) && is_wild (x ∷ p)) (and_parts (list_all is_piece (x ∷ p)) (not (begins_verbatim (x ∷ p) && is_wild (x ∷ p))) h).1)
      where
        by : (u v : Bool) → v ≡ true → (u && v) ≡ false → u ≡ false
        by true true e f = cc
        by true false e f = cc
        by false v e f = refl

-- so expressions that meet, or of which one covers the other, have a key in common
common_key : (expands : Bool) (a b : List Chunk) → list_all is_chunk a ≡ true → list_all is_chunk b ≡ true → compare_chunks expands a b ≡ true
    → (k : List (List ℕ)) × Matches a k × Matches b k
common_key true a b oka okb h =
    let c = compare_common a b oka okb h in
    (c.word, c.first_matches, c.second_matches)
common_key false a b oka okb h =
    let c = some_key b okb in
    (c.0, covered_matches a b (compare_covers a b h) c.0 c.1, c.1)

-- a start of a text up to its first wildcard
record PlainStart (text : List ℕ) (n : ℕ) : Type 0 where
  pub joined : text ≡ take n text ++ drop n text
  pub long : length (take n text) ≡ n
  pub plain : list_any is_star (take n text) ≡ false

plain_start : (text : List ℕ) (n : ℕ) → n ≤ plain_prefix_len text → PlainStart text n
plain_start text n h =
    let fits = plain_prefix_fits text in
    let long : length (take n text) ≡ n = length-take-le n text (omega arith) in
    record {
      joined = sym (take-append-drop n text);
      long = long;
      plain = plain_before text (take n text) (drop n text) (sym (take-append-drop n text)) (omega arith);
    }

-- so texts that differ within such a start have no key in common
pub texts_differ : (expands : Bool) (first second : List ℕ) (n : ℕ) → n ≤ plain_prefix_len first → n ≤ plain_prefix_len second → not (pointwise nat_eq (take n first) (take n second)) ≡ true
    → is_expression (expression_of first) ≡ true → is_expression (expression_of second) ≡ true → compare_chunks expands (expression_of first) (expression_of second) ≡ false
texts_differ expands first second n p q differ oka okb = by (compare_chunks expands (expression_of first) (expression_of second)) refl
  where
    by : (t : Bool) → compare_chunks expands (expression_of first) (expression_of second) ≡ t → t ≡ false
    by false r = refl
    by true r =
        let c = common_key expands (expression_of first) (expression_of second) (all_chunks (expression_of first) oka) (all_chunks (expression_of second) okb) r in
        let a = plain_start first n p in
        let b = plain_start second n q in
        absurd (no_line (take n first) (take n second) (drop n first) (drop n second) (key_line c.0) (a.long ∙ sym b.long) (not-true (pointwise nat_eq (take n first) (take n second)) differ) a.plain b.plain
        (subst (λ z. Begins z (key_line c.0)) a.joined (key_begins first c.0 c.1)) (subst (λ z. Begins z (key_line c.0)) b.joined (key_begins second c.0 c.2)))

-- Two texts may be compared without a start that both have.
pub record Skipped (a b first second : List ℕ) : Type 0 where
  pub first_is : list_all is_chunk (expression_of a) ≡ true
  pub second_is : list_all is_chunk (expression_of b) ≡ true
  pub same : (expands : Bool) → compare_chunks expands (expression_of a) (expression_of b) ≡ compare_chunks expands (expression_of first) (expression_of second)

abbrev pub Skips : List ℕ → List ℕ → List ℕ → List ℕ → Type 0
Skips a b first second = list_all is_chunk (expression_of first) ≡ true → list_all is_chunk (expression_of second) ≡ true → Skipped a b first second

-- a chunk without a wildcard goes with itself
plain_together : (expands : Bool) (part : List ℕ) → list_any is_star part ≡ false → (chunks_go_together expands (chunk_of part) (chunk_of part) ≡ true) × (is_any_chunks (chunk_of part) ≡ false)
plain_together expands part h =
    let pieces : chunk_of part ≡ Pieces (pieces_of part) = bare_chunk part h ∙ ap (λ p. Pieces p) (sym (plain_chars part h).0) in
    let plain : is_plain_text part ≡ true = ap (λ b. not b) h in (
      ap (λ c. chunks_go_together expands c c) pieces ∙ sym (plain_case expands part part (and_from (is_plain_text part) (is_plain_text part) plain plain)) ∙ bytes_same part part refl,
      ap (λ c. is_any_chunks c) pieces,
    )

skip_chunk : (part a b : List ℕ) → list_any is_star part ≡ false → All (λ b. (b == 47) ≡ false) part → Skips a b (part ++ 47 ∷ a) (part ++ 47 ∷ b)
skip_chunk part a b plain whole okl okr =
    let left : expression_of (part ++ 47 ∷ a) ≡ chunk_of part ∷ expression_of a = ap (λ z. map chunk_of z) (slice_split_at (λ c. c == 47) part 47 a whole refl) in
    let right : expression_of (part ++ 47 ∷ b) ≡ chunk_of part ∷ expression_of b = ap (λ z. map chunk_of z) (slice_split_at (λ c. c == 47) part 47 b whole refl) in
    let oka : list_all is_chunk (chunk_of part ∷ expression_of a) ≡ true = ap (λ z. list_all is_chunk z) (sym left) ∙ okl in
    let okb : list_all is_chunk (chunk_of part ∷ expression_of b) ≡ true = ap (λ z. list_all is_chunk z) (sym right) ∙ okr in
    record {
      first_is = (and_parts (is_chunk (chunk_of part)) (list_all is_chunk (expression_of a)) oka).1;
      second_is = (and_parts (is_chunk (chunk_of part)) (list_all is_chunk (expression_of b)) okb).1;
      same = λ expands.
          let t = plain_together expands part plain in
          sym (ap (λ z. z && compare_chunks expands (expression_of a) (expression_of b)) t.0)
          ∙ sym (front expands (chunk_of part) (chunk_of part) (expression_of a) (expression_of b) t.1 t.1 oka okb)
          ∙ ap (λ z. compare_chunks expands z (chunk_of part ∷ expression_of b)) (sym left) ∙ ap (λ z. compare_chunks expands (expression_of (part ++ 47 ∷ a)) z) (sym right);
    }

then_skip : {a b c d e f : List ℕ} → Skips c d e f → Skips a b c d → Skips a b e f
then_skip outer inner okl okr =
    let o = outer okl okr in
    let i = inner o.first_is o.second_is in
    record { first_is = i.first_is; second_is = i.second_is; same = λ expands. i.same expands ∙ o.same expands }

-- chunks without a wildcard: a part of the first was read
skip_chunks : (part w a b : List ℕ) → list_any is_star part ≡ false → All (λ b. (b == 47) ≡ false) part → list_any is_star w ≡ false → Skips a b (part ++ (w ++ 47 ∷ a)) (part ++ (w ++ 47 ∷ b))
skip_chunks part [] a b plain whole h = skip_chunk part a b plain whole
skip_chunks part (c ∷ w) a b plain whole h =
    let tests = or_parts (is_star c) (list_any is_star w) h in
    by (c == 47) refl tests.0 (λ plain2 whole2. skip_chunks (part ++ c ∷ []) w a b plain2 whole2 tests.1) (skip_chunks [] w a b refl (All-nil (λ x. (x == 47) ≡ false)) tests.1)
  where
    by : (t : Bool) → (c == 47) ≡ t → is_star c ≡ false
        → (list_any is_star (part ++ c ∷ []) ≡ false → All (λ b. (b == 47) ≡ false) (part ++ c ∷ []) → Skips a b ((part ++ c ∷ []) ++ (w ++ 47 ∷ a)) ((part ++ c ∷ []) ++ (w ++ 47 ∷ b)))
        → Skips a b (w ++ 47 ∷ a) (w ++ 47 ∷ b) → Skips a b (part ++ c ∷ (w ++ 47 ∷ a)) (part ++ c ∷ (w ++ 47 ∷ b))
    by true e star more rest =
        subst (λ z. Skips a b (part ++ z ∷ (w ++ 47 ∷ a)) (part ++ z ∷ (w ++ 47 ∷ b))) (sym (eqb-true c 47 e)) (then_skip (skip_chunk part (w ++ 47 ∷ a) (w ++ 47 ∷ b) plain whole) rest)
    by false e star more rest =
        let free : list_any is_star (part ++ c ∷ []) ≡ false = list_any-append is_star part (c ∷ []) ∙ ap (λ t. t || (is_star c || false)) plain ∙ ap (λ t. t || false) star in
        let joined = more free (All-append (λ b. (b == 47) ≡ false) part (c ∷ []) whole (All-cons (λ b. (b == 47) ≡ false) c [] e (All-nil (λ b. (b == 47) ≡ false)))) in
        subst (λ z. Skips a b z (part ++ c ∷ (w ++ 47 ∷ b))) (append_assoc part (c ∷ []) (w ++ 47 ∷ a)) (subst (λ z. Skips a b ((part ++ c ∷ []) ++ (w ++ 47 ∷ a)) z) (append_assoc part (c ∷ []) (w ++ 47 ∷ b)) joined)

-- so the comparison may begin behind a `/` that both have, before any wildcard
skip_at : (first second : List ℕ) (n i : ℕ) → n ≤ plain_prefix_len first → take n first ≡ take n second → i + 1 ≤ n → get_or first i 0 ≡ 47
    → Skips (drop (i + 1) first) (drop (i + 1) second) first second
skip_at first second n i p same le slash =
    let fits = plain_prefix_fits first in
    let one : take (i + 1) first ≡ take i first ++ 47 ∷ [] = take_more first i 0 (omega arith) ∙ ap (λ b. take i first ++ b ∷ []) slash in
    let other : take (i + 1) second ≡ take i first ++ 47 ∷ [] = sym (take-take (i + 1) n second le) ∙ ap (λ z. take (i + 1) z) (sym same) ∙ take-take (i + 1) n first le ∙ one in
    let left : first ≡ take i first ++ 47 ∷ drop (i + 1) first =
    sym (take-append-drop (i + 1) first) ∙ ap (λ z. z ++ drop (i + 1) first) one ∙ append_assoc (take i first) (47 ∷ []) (drop (i + 1) first) in
    let right : second ≡ take i first ++ 47 ∷ drop (i + 1) second =
    sym (take-append-drop (i + 1) second) ∙ ap (λ z. z ++ drop (i + 1) second) other ∙ append_assoc (take i first) (47 ∷ []) (drop (i + 1) second) in
    let long : length (take i first) ≡ i = length-take-le i first (omega arith) in
    let plain : list_any is_star (take i first) ≡ false = plain_before first (take i first) (drop i first) (sym (take-append-drop i first)) (omega arith) in
    subst (λ z. Skips (drop (i + 1) first) (drop (i + 1) second) z second) (sym left)
    (subst (λ z. Skips (drop (i + 1) first) (drop (i + 1) second) (take i first ++ 47 ∷ drop (i + 1) first) z) (sym right)
    (skip_chunks [] (take i first) (drop (i + 1) first) (drop (i + 1) second) refl (All-nil (λ b. (b == 47) ≡ false)) plain))

skip_start : (first second : List ℕ) (n start : ℕ) → n ≤ plain_prefix_len first → take n first ≡ take n second → start ≤ n
    → ((i : ℕ) → start ≡ i + 1 → get_or first i 0 ≡ 47) → Skips (drop start first) (drop start second) first second
skip_start first second n zero p same le slash = λ okl okr. record { first_is = okl; second_is = okr; same = λ expands. refl }
skip_start first second n (suc i) p same le slash =
    let e : i + 1 ≡ suc i = add-one i in
    subst (λ k. Skips (drop k first) (drop k second) first second) e (skip_at first second n i p same (omega arith) (slash i (sym e)))

pub skip_rest : (first second : List ℕ) (n start : ℕ) → n ≤ plain_prefix_len first → not (pointwise nat_eq (take n first) (take n second)) ≡ false → start ≤ n → ((i : ℕ) → start ≡ i + 1 → get_or first i 0 ≡ 47)
    → is_expression (expression_of first) ≡ true → is_expression (expression_of second) ≡ true → Skipped (take (length first - start) (drop start first)) (take (length second - start) (drop start second)) first second
skip_rest first second n start p equal le slash okl okr =
    let same = same_bytes (take n first) (take n second) (not-false (pointwise nat_eq (take n first) (take n second)) equal) in
    subst (λ z. Skipped z (take (length second - start) (drop start second)) first second) (sym (take_rest first start))
    (subst (λ z. Skipped (drop start first) z first second) (sym (take_rest second start))
    (skip_start first second n start p same le slash (all_chunks (expression_of first) okl) (all_chunks (expression_of second) okr)))
