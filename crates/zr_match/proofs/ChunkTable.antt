-- The table over the chunks of two expressions: it tells whether they meet, and whether the first covers the second.
use Rattle.std.proofs.Common.{◌≡◌, ℕ, ◌==◌, ◌∷◌, ◌++◌, [], List, Bool, true, false, not, ◌||◌, ◌&&◌, refl, sym, ap, subst, ◌∙◌, reverse, map}
use Rattle.std.specs.List.{list_any, list_all}
use Rattle.std.proofs.lemmas.Bool.{and_parts, and_from, false≢true, not-true}
use Rattle.std.proofs.lemmas.List.{reverse-reverse}
use Rattle.zr_lists.proofs.Truths.{same_test}
use Rattle.zr_lists.proofs.Tests.{all_pass}
use Rattle.zr_key.specs.Expression.{Piece, Char, AnyChars, Chunk, Any, AnyChunks, Pieces, is_plain, is_piece, is_wild, begins_verbatim, is_verbatim, is_key_chunk, is_chunk, Fits, MatchesChunk, Matches}
use Rattle.zr_match.specs.Match.{Takes, TakesChunk, Covers, Meets, is_verbatim_chunk}
use Rattle.zr_match.specs.Table.{pieces_compare, is_any_chunks, chunks_go_together, chunk_signs, compare_chunks}
use Rattle.zr_match.proofs.Globs.{Gapped, Headed, Matching, Common, OpenLetter, SharedLetter, Sharing, Taking, barred, gap_take, one_nil, one_cons, reverse_matches, table_sound, table_complete, table_takes, table_taken}
use Rattle.zr_match.proofs.PieceTable.{list_all-reverse, compare_sound, compare_complete, compare_takes, takes_compare}

-- the laws of matching keys
chunk_gap_in : (x : Chunk) (e : List Chunk) (run rest : List (List ℕ)) → is_any_chunks x ≡ true → list_any is_verbatim run ≡ false → Matches e rest → Matches (x ∷ e) (run ++ rest)
chunk_gap_in Any e run rest g o m = cc
chunk_gap_in AnyChunks e run rest g o m = (run, rest, refl, o, m)
chunk_gap_in (Pieces p) e run rest g o m = cc

chunk_gap_out : (x : Chunk) (e : List Chunk) (k : List (List ℕ)) → is_any_chunks x ≡ true → Matches (x ∷ e) k → Gapped is_verbatim Matches e k
chunk_gap_out Any e k g m = cc
chunk_gap_out AnyChunks e k g m = record { run = m.0; rest = m.1; joined = m.2; open_run = m.3; rest_matches = m.4 }
chunk_gap_out (Pieces p) e k g m = cc

pub chunk_one_in : (x : Chunk) (e : List Chunk) (c : List ℕ) (k : List (List ℕ)) → is_any_chunks x ≡ false → MatchesChunk x c → Matches e k → Matches (x ∷ e) (c ∷ k)
chunk_one_in Any e c k g l m = (l, m)
chunk_one_in AnyChunks e c k g l m = cc
chunk_one_in (Pieces p) e c k g l m = (l, m)

chunk_one_out : (x : Chunk) (e : List Chunk) (k : List (List ℕ)) → is_any_chunks x ≡ false → Matches (x ∷ e) k → Headed MatchesChunk Matches x e k
chunk_one_out Any e [] g m = absurd m
chunk_one_out Any e (c ∷ k) g m = record { first = c; rest = k; joined = refl; first_matches = m.0; rest_matches = m.1 }
chunk_one_out AnyChunks e k g m = cc
chunk_one_out (Pieces p) e [] g m = absurd m
chunk_one_out (Pieces p) e (c ∷ k) g m = record { first = c; rest = k; joined = refl; first_matches = m.0; rest_matches = m.1 }

pub matches_law : (expands : Bool) → Matching (chunk_signs expands) is_verbatim MatchesChunk Matches
matches_law expands = record {
  nil_in = refl;
  nil_out = λ k m. m;
  gap_in = chunk_gap_in;
  gap_out = chunk_gap_out;
  one_in = chunk_one_in;
  one_out = chunk_one_out;
}

-- pieces with one character in the place of each `$*`
abbrev pub piece_filled : ℕ → Piece → ℕ
piece_filled z (Char c) = c
piece_filled z AnyChars = z

abbrev pub filled : ℕ → List Piece → List ℕ
filled z p = map (piece_filled z) p

pub filled_fits : (z : ℕ) (p : List Piece) → Fits p (filled z p)
filled_fits z [] = refl
filled_fits z (Char c ∷ p) = (refl, filled_fits z p)
filled_fits z (AnyChars ∷ p) = (z ∷ [], filled z p, refl, filled_fits z p)

filled_plain : (z : ℕ) (p : List Piece) → is_plain z ≡ true → list_all is_piece p ≡ true → list_all is_plain (filled z p) ≡ true
filled_plain z [] h g = refl
filled_plain z (Char c ∷ p) h g =
    let parts = and_parts (is_plain c) (list_all is_piece p) g in
    and_from (is_plain c) (list_all is_plain (filled z p)) parts.0 (filled_plain z p h parts.1)
filled_plain z (AnyChars ∷ p) h g = and_from (is_plain z) (list_all is_plain (filled z p)) h (filled_plain z p h g)

-- they are a chunk of a key, and verbatim where the pieces are
pub filled_key : (z : ℕ) (p : List Piece) → is_plain z ≡ true → is_chunk (Pieces p) ≡ true → is_key_chunk (filled z p) ≡ true
filled_key z [] h g = cc
filled_key z (Char c ∷ p) h g = filled_plain z (Char c ∷ p) h (and_parts (list_all is_piece (Char c ∷ p)) (not (begins_verbatim (Char c ∷ p) && is_wild (Char c ∷ p))) g).0
filled_key z (AnyChars ∷ p) h g = filled_plain z (AnyChars ∷ p) h (and_parts (list_all is_piece (AnyChars ∷ p)) true g).0

pub filled_verbatim : (z : ℕ) (p : List Piece) → (z == 64) ≡ false → is_verbatim (filled z p) ≡ begins_verbatim p
filled_verbatim z [] h = refl
filled_verbatim z (Char c ∷ p) h = refl
filled_verbatim z (AnyChars ∷ p) h = h

-- a chunk of a key that pieces match is verbatim where they begin with `@`
verbatim_fits : (p : List Piece) (c : List ℕ) → Fits p c → begins_verbatim p ≡ true → is_verbatim c ≡ true
verbatim_fits [] c m h = cc
verbatim_fits (Char d ∷ p) [] m h = absurd m
verbatim_fits (Char d ∷ p) (b ∷ c) m h = subst (λ z. (z == 64) ≡ true) m.0 h
verbatim_fits (AnyChars ∷ p) c m h = cc

pub not_verbatim : (p : List Piece) (c : List ℕ) → Fits p c → is_verbatim c ≡ false → begins_verbatim p ≡ false
not_verbatim p c m h = by (begins_verbatim p) refl
  where
    by : (b : Bool) → begins_verbatim p ≡ b → b ≡ false
    by true e = absurd (false≢true (sym h ∙ verbatim_fits p c m e))
    by false e = refl

-- A further test of the chunks of keys that are made, and of the chunks of expressions that they are made from: none, or that they are text.
pub record Passes (extra : List ℕ → Bool) (from : Chunk → Bool) : Type 0 where
  pub any : extra (97 ∷ []) ≡ true
  pub filled_passes : (p : List Piece) → from (Pieces p) ≡ true → extra (filled 97 p) ≡ true
  pub common_passes : (p q : List Piece) → from (Pieces p) ≡ true → from (Pieces q) ≡ true → list_all is_piece p ≡ true → list_all is_piece q ≡ true → pieces_compare true p q ≡ true
      → (c : Common is_plain Fits p q) × (extra c.word ≡ true) × (extra (97 ∷ c.word) ≡ true)

abbrev pub good_key : (List ℕ → Bool) → List ℕ → Bool
good_key extra c = is_key_chunk c && extra c

abbrev pub good_chunk : (Chunk → Bool) → Chunk → Bool
good_chunk from x = is_chunk x && from x

no_more : Passes (λ c. true) (λ x. true)
no_more = record { any = refl; filled_passes = λ p h. refl; common_passes = λ p q h g okp okq t. (compare_sound p q okp okq t, refl, refl) }

-- a letter for each chunk that is not verbatim
open_chunk : (extra : List ℕ → Bool) (from : Chunk → Bool) → Passes extra from
    → (x : Chunk) → good_chunk from x ≡ true → is_any_chunks x ≡ false → not (is_verbatim_chunk x) ≡ true → OpenLetter is_verbatim (good_key extra) MatchesChunk x
open_chunk extra from passes Any ok g o = record { letter = 97 ∷ []; is_good = passes.any; opened = refl; matches = refl }
open_chunk extra from passes AnyChunks ok g o = cc
open_chunk extra from passes (Pieces p) ok g o =
    let oks = and_parts (is_chunk (Pieces p)) (from (Pieces p)) ok in
    let plain : is_verbatim (filled 97 p) ≡ false = filled_verbatim 97 p refl ∙ not-true (begins_verbatim p) o in
    record {
      letter = filled 97 p;
      is_good = and_from (is_key_chunk (filled 97 p)) (extra (filled 97 p)) (filled_key 97 p refl oks.0) (passes.filled_passes p oks.1);
      opened = plain;
      matches = (filled_fits 97 p, λ w. plain);
    }

chunk_open : (x : Chunk) (c : List ℕ) → MatchesChunk x c → is_verbatim c ≡ false → not (is_verbatim_chunk x) ≡ true
chunk_open Any c l o = refl
chunk_open AnyChunks c l o = absurd l
chunk_open (Pieces p) c l o = ap (λ b. not b) (not_verbatim p c l.0 o)

-- A letter for two lists of pieces that compare well: their word, or behind another character, where both begin with `$*`.
char_first : (c : ℕ) (p q : List Piece) (w : List ℕ) → list_all is_plain w ≡ true → Fits (Char c ∷ p) w → (is_key_chunk w ≡ true) × (is_verbatim w ≡ (c == 64))
char_first c p q [] good m = absurd m
char_first c p q (b ∷ w) good m = (good, ap (λ z. z == 64) (sym m.0))

shared_pieces : (p q : List Piece) → is_chunk (Pieces p) ≡ true → is_chunk (Pieces q) ≡ true
    → not (is_wild p && begins_verbatim q) ≡ true → not (is_wild q && begins_verbatim p) ≡ true → (extra : List ℕ → Bool) (c : Common is_plain Fits p q) → extra c.word ≡ true → extra (97 ∷ c.word) ≡ true
    → SharedLetter (good_key extra) MatchesChunk (Pieces p) (Pieces q)
shared_pieces [] q okp okq v w extra c e1 e2 = cc
shared_pieces (x ∷ p) [] okp okq v w extra c e1 e2 = cc
shared_pieces (Char d ∷ p) (y ∷ q) okp okq v w extra c e1 e2 =
    let first = char_first d p (y ∷ q) c.word c.is_good c.first_matches in
    let parts = and_parts (list_all is_piece (Char d ∷ p)) (not (begins_verbatim (Char d ∷ p) && is_wild (Char d ∷ p))) okp in
    record {
      letter = c.word;
      is_good = and_from (is_key_chunk c.word) (extra c.word) first.0 e1;
      first_matches = (c.first_matches, λ e. first.1 ∙ by (d == 64) (is_wild p) (not-true (d == 64 && is_wild p) parts.1) e);
      second_matches = (c.second_matches, λ e. first.1 ∙ by (d == 64) (is_wild (y ∷ q)) (swap (is_wild (y ∷ q)) (d == 64) (not-true (is_wild (y ∷ q) && d == 64) w)) e);
    }
  where
    by : (a b : Bool) → (a && b) ≡ false → b ≡ true → a ≡ false
    by true b e f = absurd (false≢true (sym e ∙ f))
    by false b e f = refl

    swap : (a b : Bool) → (a && b) ≡ false → (b && a) ≡ false
    swap true true e = e
    swap true false e = refl
    swap false true e = refl
    swap false false e = refl
shared_pieces (AnyChars ∷ p) (Char d ∷ q) okp okq v w extra c e1 e2 =
    let first = char_first d q (AnyChars ∷ p) c.word c.is_good c.second_matches in
    let parts = and_parts (list_all is_piece (Char d ∷ q)) (not (begins_verbatim (Char d ∷ q) && is_wild (Char d ∷ q))) okq in
    let at : (d == 64) ≡ false = not-true (d == 64) v in
    record {
      letter = c.word;
      is_good = and_from (is_key_chunk c.word) (extra c.word) first.0 e1;
      first_matches = (c.first_matches, λ e. first.1 ∙ at);
      second_matches = (c.second_matches, λ e. first.1 ∙ at);
    }
shared_pieces (AnyChars ∷ p) (AnyChars ∷ q) okp okq v w extra c e1 e2 =
    let m = c.first_matches in
    let n = c.second_matches in
    record {
      letter = 97 ∷ c.word;
      is_good = and_from (is_key_chunk (97 ∷ c.word)) (extra (97 ∷ c.word)) c.is_good e2;
      first_matches = ((97 ∷ m.0, m.1, ap (λ z. 97 ∷ z) m.2, m.3), λ e. refl);
      second_matches = ((97 ∷ n.0, n.1, ap (λ z. 97 ∷ z) n.2, n.3), λ e. refl);
    }

pieces_ok : (p : List Piece) → is_chunk (Pieces p) ≡ true → list_all is_piece p ≡ true
pieces_ok [] h = cc
pieces_ok (x ∷ p) h = (and_parts (list_all is_piece (x ∷ p)) (not (begins_verbatim (x ∷ p) && is_wild (x ∷ p))) h).0

shared_chunk : (extra : List ℕ → Bool) (from : Chunk → Bool) → Passes extra from
    → (x y : Chunk) → good_chunk from x ≡ true → good_chunk from y ≡ true → is_any_chunks x ≡ false → is_any_chunks y ≡ false → chunks_go_together true x y ≡ true → SharedLetter (good_key extra) MatchesChunk x y
shared_chunk extra from passes AnyChunks y okx oky g h t = cc
shared_chunk extra from passes Any Any okx oky g h t = record { letter = 97 ∷ []; is_good = passes.any; first_matches = refl; second_matches = refl }
shared_chunk extra from passes Any AnyChunks okx oky g h t = cc
shared_chunk extra from passes Any (Pieces q) okx oky g h t =
    let l = open_chunk extra from passes (Pieces q) oky refl (and_parts (not (begins_verbatim q)) true t).0 in
    record { letter = l.letter; is_good = l.is_good; first_matches = l.opened; second_matches = l.matches }
shared_chunk extra from passes (Pieces p) Any okx oky g h t =
    let l = open_chunk extra from passes (Pieces p) okx refl t in
    record { letter = l.letter; is_good = l.is_good; first_matches = l.matches; second_matches = l.opened }
shared_chunk extra from passes (Pieces p) AnyChunks okx oky g h t = cc
shared_chunk extra from passes (Pieces p) (Pieces q) okx oky g h t =
    let outer = and_parts (not (is_wild p && begins_verbatim q) && not (is_wild q && begins_verbatim p)) (pieces_compare true p q) t in
    let inner = and_parts (not (is_wild p && begins_verbatim q)) (not (is_wild q && begins_verbatim p)) outer.0 in
    let oks = and_parts (is_chunk (Pieces p)) (from (Pieces p)) okx in
    let okt = and_parts (is_chunk (Pieces q)) (from (Pieces q)) oky in
    let c = passes.common_passes p q oks.1 okt.1 (pieces_ok p oks.0) (pieces_ok q okt.0) outer.1 in
    shared_pieces p q oks.0 okt.0 inner.0 inner.1 extra c.0 c.1 c.2

-- wild pieces do not go with verbatim ones
wild_apart : (p q : List Piece) (c : List ℕ) → (is_wild p ≡ true → is_verbatim c ≡ false) → Fits q c → not (is_wild p && begins_verbatim q) ≡ true
wild_apart p q c w m = by (is_wild p) refl
  where
    by : (b : Bool) → is_wild p ≡ b → not (b && begins_verbatim q) ≡ true
    by true e = ap (λ b. not b) (not_verbatim q c m (w e))
    by false e = refl

chunk_together : (x y : Chunk) (c : List ℕ) → MatchesChunk x c → MatchesChunk y c → chunks_go_together true x y ≡ true
chunk_together AnyChunks y c l m = absurd l
chunk_together Any Any c l m = refl
chunk_together Any AnyChunks c l m = absurd m
chunk_together Any (Pieces q) c l m = and_from (not (begins_verbatim q)) true (chunk_open (Pieces q) c m l) refl
chunk_together (Pieces p) Any c l m = chunk_open (Pieces p) c l m
chunk_together (Pieces p) AnyChunks c l m = absurd m
chunk_together (Pieces p) (Pieces q) c l m =
    and_from (not (is_wild p && begins_verbatim q) && not (is_wild q && begins_verbatim p)) (pieces_compare true p q)
    (and_from (not (is_wild p && begins_verbatim q)) (not (is_wild q && begins_verbatim p)) (wild_apart p q c l.1 m.0) (wild_apart q p c m.1 l.0))
    (compare_complete p q c l.0 m.0)

pub gap_is_open : (y : Chunk) → is_any_chunks y ≡ true → not (is_verbatim_chunk y) ≡ true
gap_is_open Any g = refl
gap_is_open AnyChunks g = refl
gap_is_open (Pieces p) g = cc

matches_tests : (extra : List ℕ → Bool) (from : Chunk → Bool) → Passes extra from → Sharing (chunk_signs true) is_verbatim (good_key extra) (good_chunk from) MatchesChunk
matches_tests extra from passes = record {
  expands = refl;
  gap_open = gap_is_open;
  open_letter = open_chunk extra from passes;
  letter_open = chunk_open;
  shared = shared_chunk extra from passes;
  together = chunk_together;
}

-- a key of two expressions that both match no chunk too
pub gap_more : (e : List Chunk) → Matches e [] → (is_some : (e ≡ []) → ⊥) → Matches e ((97 ∷ []) ∷ [])
gap_more [] m some = absurd (some refl)
gap_more (Any ∷ e) m some = absurd m
gap_more (Pieces p ∷ e) m some = absurd m
gap_more (AnyChunks ∷ e) m some = gap_take (chunk_signs true) is_verbatim MatchesChunk Matches (matches_law true) AnyChunks e (97 ∷ []) [] refl refl m

meets_word : (x : Chunk) (a : List Chunk) (y : Chunk) (b : List Chunk) (k : List (List ℕ)) → list_all is_key_chunk k ≡ true → Matches (x ∷ a) k → Matches (y ∷ b) k → Meets (x ∷ a) (y ∷ b)
meets_word x a y b [] good m n = ((97 ∷ []) ∷ [], refl, gap_more (x ∷ a) m (λ e. cc), gap_more (y ∷ b) n (λ e. cc))
meets_word x a y b (c ∷ k) good m n = (c ∷ k, good, m, n)

-- where the table says so, a list of chunks is matched by both, and the other way round
pub compare_passes : (extra : List ℕ → Bool) (from : Chunk → Bool) → Passes extra from
    → (a b : List Chunk) → list_all (good_chunk from) a ≡ true → list_all (good_chunk from) b ≡ true → compare_chunks true a b ≡ true → Common (good_key extra) Matches a b
compare_passes extra from passes a b oka okb h =
    let c = table_sound (chunk_signs true) is_verbatim (good_key extra) (good_chunk from) MatchesChunk Matches (matches_law true) (matches_tests extra from passes) (reverse a) (reverse b)
    (list_all-reverse (good_chunk from) a oka) (list_all-reverse (good_chunk from) b okb) h in
    record {
      word = reverse c.word;
      is_good = list_all-reverse (good_key extra) c.word c.is_good;
      first_matches = subst (λ z. Matches z (reverse c.word)) (reverse-reverse a) (reverse_matches (chunk_signs true) is_verbatim MatchesChunk Matches (matches_law true) (reverse a) c.word c.first_matches);
      second_matches = subst (λ z. Matches z (reverse c.word)) (reverse-reverse b) (reverse_matches (chunk_signs true) is_verbatim MatchesChunk Matches (matches_law true) (reverse b) c.word c.second_matches);
    }

-- two tests of all of a list, together and apart
pub all_both : {X : Type 0} (f g : X → Bool) (xs : List X) → list_all f xs ≡ true → list_all g xs ≡ true → list_all (λ x. f x && g x) xs ≡ true
all_both f g [] h k = refl
all_both f g (x ∷ xs) h k =
    let a = and_parts (f x) (list_all f xs) h in
    let b = and_parts (g x) (list_all g xs) k in
    and_from (f x && g x) (list_all (λ y. f y && g y) xs) (and_from (f x) (g x) a.0 b.0) (all_both f g xs a.1 b.1)

pub both_all : {X : Type 0} (f g : X → Bool) (xs : List X) → list_all (λ x. f x && g x) xs ≡ true → (list_all f xs ≡ true) × (list_all g xs ≡ true)
both_all f g [] h = (refl, refl)
both_all f g (x ∷ xs) h =
    let a = and_parts (f x && g x) (list_all (λ y. f y && g y) xs) h in
    let b = and_parts (f x) (g x) a.0 in
    let c = both_all f g xs a.1 in
    (and_from (f x) (list_all f xs) b.0 c.0, and_from (g x) (list_all g xs) b.1 c.1)

pub compare_common : (a b : List Chunk) → list_all is_chunk a ≡ true → list_all is_chunk b ≡ true → compare_chunks true a b ≡ true → Common is_key_chunk Matches a b
compare_common a b oka okb h =
    let c = compare_passes (λ c. true) (λ x. true) no_more a b (all_both is_chunk (λ x. true) a oka (all_pass a)) (all_both is_chunk (λ x. true) b okb (all_pass b)) h in
    record { word = c.word; is_good = (both_all is_key_chunk (λ c. true) c.word c.is_good).0; first_matches = c.first_matches; second_matches = c.second_matches }

pub common_compare : (a b : List Chunk) (k : List (List ℕ)) → Matches a k → Matches b k → compare_chunks true a b ≡ true
common_compare a b k m n =
    table_complete (chunk_signs true) is_verbatim (good_key (λ c. true)) (good_chunk (λ x. true)) MatchesChunk Matches (matches_law true) (matches_tests (λ c. true) (λ x. true) no_more) (reverse a) (reverse b) (reverse k)
    (reverse_matches (chunk_signs true) is_verbatim MatchesChunk Matches (matches_law true) a k m) (reverse_matches (chunk_signs true) is_verbatim MatchesChunk Matches (matches_law true) b k n)

-- so it tells whether expressions meet
pub compare_meets : (a b : List Chunk) → (a ≡ [] → ⊥) → (b ≡ [] → ⊥) → list_all is_chunk a ≡ true → list_all is_chunk b ≡ true → compare_chunks true a b ≡ true → Meets a b
compare_meets [] b somea someb oka okb h = absurd (somea refl)
compare_meets (x ∷ a) [] somea someb oka okb h = absurd (someb refl)
compare_meets (x ∷ a) (y ∷ b) somea someb oka okb h =
    let c = compare_common (x ∷ a) (y ∷ b) oka okb h in
    meets_word x a y b c.word c.is_good c.first_matches c.second_matches

pub meets_compare : (a b : List Chunk) → Meets a b → compare_chunks true a b ≡ true
meets_compare a b h = common_compare a b h.0 h.2 h.3

-- two chunks in front that are not `**` stand for one chunk of a key
front_common : (x y : Chunk) (a b : List Chunk) → is_any_chunks x ≡ false → is_any_chunks y ≡ false → (k : List (List ℕ)) → Matches (x ∷ a) k → Matches (y ∷ b) k
    → (chunks_go_together true x y ≡ true) × (compare_chunks true a b ≡ true)
front_common x y a b g h [] m n = absurd (one_nil (chunk_signs true) is_verbatim MatchesChunk Matches (matches_law true) x a g m)
front_common x y a b g h (c ∷ k) m n =
    let o = one_cons (chunk_signs true) is_verbatim MatchesChunk Matches (matches_law true) x a c k g m in
    let p = one_cons (chunk_signs true) is_verbatim MatchesChunk Matches (matches_law true) y b c k h n in
    (chunk_together x y c o.0 p.0, common_compare a b k o.1 p.1)

front_shared : (x y : Chunk) (a b : List Chunk) → is_any_chunks x ≡ false → is_any_chunks y ≡ false → list_all is_chunk (x ∷ a) ≡ true → list_all is_chunk (y ∷ b) ≡ true
    → chunks_go_together true x y ≡ true → compare_chunks true a b ≡ true → compare_chunks true (x ∷ a) (y ∷ b) ≡ true
front_shared x y a b g h oka okb t u =
    let oks = and_parts (is_chunk x) (list_all is_chunk a) oka in
    let okt = and_parts (is_chunk y) (list_all is_chunk b) okb in
    let l = shared_chunk (λ c. true) (λ z. true) no_more x y (and_from (is_chunk x) true oks.0 refl) (and_from (is_chunk y) true okt.0 refl) g h t in
    let c = compare_common a b oks.1 okt.1 u in
    common_compare (x ∷ a) (y ∷ b) (l.letter ∷ c.word) (chunk_one_in x a l.letter c.word g l.first_matches c.first_matches) (chunk_one_in y b l.letter c.word h l.second_matches c.second_matches)

-- the laws of covering
bars_same : (run : List Chunk) → list_any (barred (chunk_signs false)) run ≡ list_any is_verbatim_chunk run
bars_same [] = refl
bars_same (x ∷ run) = by (is_verbatim_chunk x) (bars_same run)
  where
    by : (b : Bool) → list_any (barred (chunk_signs false)) run ≡ list_any is_verbatim_chunk run → (not (not b) || list_any (barred (chunk_signs false)) run) ≡ (b || list_any is_verbatim_chunk run)
    by true e = refl
    by false e = e

cover_gap_in : (x : Chunk) (a run rest : List Chunk) → is_any_chunks x ≡ true → list_any (barred (chunk_signs false)) run ≡ false → Covers a rest → Covers (x ∷ a) (run ++ rest)
cover_gap_in Any a run rest g o m = cc
cover_gap_in AnyChunks a run rest g o m = (run, rest, refl, sym (bars_same run) ∙ o, m)
cover_gap_in (Pieces p) a run rest g o m = cc

cover_gap_out : (x : Chunk) (a b : List Chunk) → is_any_chunks x ≡ true → Covers (x ∷ a) b → Gapped (barred (chunk_signs false)) Covers a b
cover_gap_out Any a b g m = cc
cover_gap_out AnyChunks a b g m = record { run = m.0; rest = m.1; joined = m.2; open_run = bars_same m.0 ∙ m.3; rest_matches = m.4 }
cover_gap_out (Pieces p) a b g m = cc

cover_one_in : (x : Chunk) (a : List Chunk) (c : Chunk) (b : List Chunk) → is_any_chunks x ≡ false → TakesChunk x c → Covers a b → Covers (x ∷ a) (c ∷ b)
cover_one_in Any a c b g l m = (l, m)
cover_one_in AnyChunks a c b g l m = cc
cover_one_in (Pieces p) a c b g l m = (l, m)

cover_one_out : (x : Chunk) (a b : List Chunk) → is_any_chunks x ≡ false → Covers (x ∷ a) b → Headed TakesChunk Covers x a b
cover_one_out Any a [] g m = absurd m
cover_one_out Any a (c ∷ b) g m = record { first = c; rest = b; joined = refl; first_matches = m.0; rest_matches = m.1 }
cover_one_out AnyChunks a b g m = cc
cover_one_out (Pieces p) a [] g m = absurd m
cover_one_out (Pieces p) a (c ∷ b) g m = record { first = c; rest = b; joined = refl; first_matches = m.0; rest_matches = m.1 }

pub covers_law : Matching (chunk_signs false) (barred (chunk_signs false)) TakesChunk Covers
covers_law = record {
  nil_in = refl;
  nil_out = λ k m. m;
  gap_in = cover_gap_in;
  gap_out = cover_gap_out;
  one_in = cover_one_in;
  one_out = cover_one_out;
}

together_takes : (x y : Chunk) → is_any_chunks x ≡ false → is_any_chunks y ≡ false → chunks_go_together false x y ≡ true → TakesChunk x y
together_takes AnyChunks y g h t = cc
together_takes Any Any g h t = tt
together_takes Any AnyChunks g h t = cc
together_takes Any (Pieces q) g h t = not-true (begins_verbatim q) (and_parts (not (begins_verbatim q)) true t).0
together_takes (Pieces p) Any g h t = cc
together_takes (Pieces p) AnyChunks g h t = cc
together_takes (Pieces p) (Pieces q) g h t =
    let outer = and_parts (not (is_wild p && begins_verbatim q) && not (is_wild q && begins_verbatim p)) (pieces_compare false p q) t in
    let inner = and_parts (not (is_wild p && begins_verbatim q)) (not (is_wild q && begins_verbatim p)) outer.0 in
    (compare_takes p q outer.1, λ w. not-true (begins_verbatim q) (subst (λ b. not (b && begins_verbatim q) ≡ true) w inner.0))

-- pieces take only pieces that begin alike, and plain ones only themselves
verbatim_takes : (p q : List Piece) → Takes p q → begins_verbatim p ≡ true → begins_verbatim q ≡ true
verbatim_takes [] q m h = cc
verbatim_takes (Char c ∷ p) [] m h = absurd m
verbatim_takes (Char c ∷ p) (Char d ∷ q) m h = subst (λ z. (z == 64) ≡ true) m.0 h
verbatim_takes (Char c ∷ p) (AnyChars ∷ q) m h = absurd m
verbatim_takes (AnyChars ∷ p) q m h = cc

plain_takes : (p q : List Piece) → Takes p q → is_wild p ≡ false → is_wild q ≡ false
plain_takes [] q m h = ap (λ z. is_wild z) m
plain_takes (Char c ∷ p) [] m h = absurd m
plain_takes (Char c ∷ p) (Char d ∷ q) m h = plain_takes p q m.1 h
plain_takes (Char c ∷ p) (AnyChars ∷ q) m h = absurd m
plain_takes (AnyChars ∷ p) q m h = cc

takes_apart : (p q : List Piece) → Takes p q → (is_wild p ≡ true → begins_verbatim q ≡ false) → not (is_wild q && begins_verbatim p) ≡ true
takes_apart p q m w = by (is_wild q) (begins_verbatim p) (is_wild p) refl refl refl
  where
    by : (b v u : Bool) → is_wild q ≡ b → begins_verbatim p ≡ v → is_wild p ≡ u → not (b && v) ≡ true
    by false v u e f g = refl
    by true false u e f g = refl
    by true true true e f g = absurd (false≢true (sym (w g) ∙ verbatim_takes p q m f))
    by true true false e f g = absurd (false≢true (sym (plain_takes p q m g) ∙ e))

wild_first : (p q : List Piece) → (is_wild p ≡ true → begins_verbatim q ≡ false) → not (is_wild p && begins_verbatim q) ≡ true
wild_first p q w = by (is_wild p) refl
  where
    by : (b : Bool) → is_wild p ≡ b → not (b && begins_verbatim q) ≡ true
    by true e = ap (λ b. not b) (w e)
    by false e = refl

pub takes_together : (x y : Chunk) → TakesChunk x y → (chunks_go_together false x y ≡ true) × (is_any_chunks y ≡ false)
takes_together Any Any l = (refl, refl)
takes_together Any AnyChunks l = absurd l
takes_together Any (Pieces q) l = (and_from (not (begins_verbatim q)) true (ap (λ b. not b) l) refl, refl)
takes_together AnyChunks y l = absurd l
takes_together (Pieces p) Any l = absurd l
takes_together (Pieces p) AnyChunks l = absurd l
takes_together (Pieces p) (Pieces q) l = (
  and_from (not (is_wild p && begins_verbatim q) && not (is_wild q && begins_verbatim p)) (pieces_compare false p q)
      (and_from (not (is_wild p && begins_verbatim q)) (not (is_wild q && begins_verbatim p)) (wild_first p q l.1) (takes_apart p q l.0 l.1)) (takes_compare p q l.0),
  refl,
)

covers_tests : Taking (chunk_signs false) TakesChunk
covers_tests = record {
  keeps = refl;
  takes = together_takes;
  together = λ x y l. (takes_together x y l).0;
  no_gap = λ x y l. (takes_together x y l).1;
}

-- where the table says so, the first expression covers the second, and the other way round
pub compare_covers : (a b : List Chunk) → compare_chunks false a b ≡ true → Covers a b
compare_covers a b h =
    let back = reverse_matches (chunk_signs false) (barred (chunk_signs false)) TakesChunk Covers covers_law (reverse a) (reverse b)
    (table_takes (chunk_signs false) TakesChunk Covers covers_law covers_tests (reverse a) (reverse b) h) in
    subst (λ z. Covers z b) (reverse-reverse a) (subst (λ z. Covers (reverse (reverse a)) z) (reverse-reverse b) back)

pub covers_compare : (a b : List Chunk) → Covers a b → compare_chunks false a b ≡ true
covers_compare a b m =
    table_taken (chunk_signs false) TakesChunk Covers covers_law covers_tests (reverse a) (reverse b) (reverse_matches (chunk_signs false) (barred (chunk_signs false)) TakesChunk Covers covers_law a b m)

front_covers : (x y : Chunk) (a b : List Chunk) → is_any_chunks x ≡ false → Covers (x ∷ a) (y ∷ b) → TakesChunk x y × Covers a b
front_covers x y a b g m = one_cons (chunk_signs false) (barred (chunk_signs false)) TakesChunk Covers covers_law x a y b g m

-- so chunks in front that are not `**` may be compared by themselves
pub front : (expands : Bool) (x y : Chunk) (a b : List Chunk) → is_any_chunks x ≡ false → is_any_chunks y ≡ false → list_all is_chunk (x ∷ a) ≡ true → list_all is_chunk (y ∷ b) ≡ true
    → compare_chunks expands (x ∷ a) (y ∷ b) ≡ (chunks_go_together expands x y && compare_chunks expands a b)
front true x y a b g h oka okb = same_test (compare_chunks true (x ∷ a) (y ∷ b)) (chunks_go_together true x y && compare_chunks true a b)
    (λ t.
    let c = compare_common (x ∷ a) (y ∷ b) oka okb t in
    let f = front_common x y a b g h c.word c.first_matches c.second_matches in
    and_from (chunks_go_together true x y) (compare_chunks true a b) f.0 f.1)
    (λ t.
    let parts = and_parts (chunks_go_together true x y) (compare_chunks true a b) t in
    front_shared x y a b g h oka okb parts.0 parts.1)
front false x y a b g h oka okb = same_test (compare_chunks false (x ∷ a) (y ∷ b)) (chunks_go_together false x y && compare_chunks false a b)
    (λ t.
    let f = front_covers x y a b g (compare_covers (x ∷ a) (y ∷ b) t) in
    and_from (chunks_go_together false x y) (compare_chunks false a b) (takes_together x y f.0).0 (covers_compare a b f.1))
    (λ t.
    let parts = and_parts (chunks_go_together false x y) (compare_chunks false a b) t in
    covers_compare (x ∷ a) (y ∷ b) (cover_one_in x a y b g (together_takes x y g h parts.0) (compare_covers a b parts.1)))
