-- Covering is inclusion of keys: there by the cases of covering, and back by one key that has a fresh character for each wildcard.
use Rattle.std.proofs.Common.{◌≡◌, ℕ, ◌==◌, ◌∷◌, ◌++◌, [], List, Bool, true, false, not, ◌||◌, ◌&&◌, refl, sym, ap, subst, ◌∙◌, map, append_assoc}
use Rattle.std.specs.List.{list_any, list_all}
use Rattle.std.proofs.lemmas.Bool.{and_parts, and_from, or_parts, or_from, not-true, false≢true, eq-eqb}
use Rattle.std.proofs.lemmas.List.Folds.{list_any-append, list_all-append}
use Rattle.zr_key.specs.Expression.{Piece, Char, AnyChars, Chunk, Any, AnyChunks, Pieces, is_plain, is_piece, is_wild, is_any_chars, begins_verbatim, is_verbatim, is_key_chunk, is_key, is_chunk, is_expression, is_canonical_chunk, is_canonical, is_ordered, Fits, MatchesChunk, Matches}
use Rattle.zr_match.specs.Match.{Takes, TakesChunk, Covers, is_verbatim_chunk}
use Rattle.zr_match.specs.Table.{is_any_chunks, chunk_signs}
use Rattle.zr_match.specs.Laws.{IsFresh, piece_passes, chunk_passes}
use Rattle.zr_key.proofs.SameKeys.{Matches-parted}
use Rattle.zr_key.proofs.CanonForm.{all_chunks}
use Rattle.zr_match.proofs.Globs.{one_nil, one_cons}
use Rattle.zr_match.proofs.ChunkTable.{filled, piece_filled, filled_fits, filled_key, filled_verbatim, matches_law, chunk_one_in, takes_together}

-- a text is cut where the pieces that it fits are cut
fits_cut : (p q : List Piece) (w : List ℕ) → Fits (p ++ q) w → (u : List ℕ) × (v : List ℕ) × (w ≡ u ++ v) × Fits p u × Fits q v
fits_cut [] q w m = ([], w, refl, refl, m)
fits_cut (Char c ∷ p) q [] m = absurd m
fits_cut (Char c ∷ p) q (b ∷ w) m =
    let h = fits_cut p q w m.1 in
    (b ∷ h.0, h.1, ap (λ z. b ∷ z) h.2, (m.0, h.3), h.4)
fits_cut (AnyChars ∷ p) q w m =
    let h = fits_cut p q m.1 m.3 in
    (m.0 ++ h.0, h.1, m.2 ∙ ap (λ z. m.0 ++ z) h.2 ∙ sym (append_assoc m.0 h.0 h.1), (m.0, h.0, refl, h.3), h.4)

-- what is made from pieces has only texts that the pieces have
taken_fits : (p q : List Piece) (w : List ℕ) → Takes p q → Fits q w → Fits p w
taken_fits [] q w t m = subst (λ z. Fits z w) t m
taken_fits (Char c ∷ p) [] w t m = absurd t
taken_fits (Char c ∷ p) (Char d ∷ q) [] t m = absurd m
taken_fits (Char c ∷ p) (Char d ∷ q) (b ∷ w) t m = (t.0 ∙ m.0, taken_fits p q w t.1 m.1)
taken_fits (Char c ∷ p) (AnyChars ∷ q) w t m = absurd t
taken_fits (AnyChars ∷ p) q w t m =
    let cut = fits_cut t.0 t.1 w (subst (λ z. Fits z w) t.2 m) in
    (cut.0, cut.1, cut.2, taken_fits p t.1 cut.1 t.3 cut.4)

-- a chunk of a key is not verbatim where the pieces that it fits are not
open_key : (q : List Piece) (w : List ℕ) → begins_verbatim q ≡ false → MatchesChunk (Pieces q) w → is_verbatim w ≡ false
open_key [] w h m = ap (λ z. is_verbatim z) m.0
open_key (Char c ∷ q) [] h m = absurd m.0
open_key (Char c ∷ q) (b ∷ w) h m = ap (λ z. z == 64) (sym m.0.0) ∙ h
open_key (AnyChars ∷ q) w h m = m.1 refl

chunk_taken : (x y : Chunk) (w : List ℕ) → TakesChunk x y → MatchesChunk y w → MatchesChunk x w
chunk_taken Any Any w t m = m
chunk_taken Any AnyChunks w t m = absurd t
chunk_taken Any (Pieces q) w t m = open_key q w t m
chunk_taken AnyChunks y w t m = absurd t
chunk_taken (Pieces p) Any w t m = absurd t
chunk_taken (Pieces p) AnyChunks w t m = absurd t
chunk_taken (Pieces p) (Pieces q) w t m = (taken_fits p q w t.0 m.0, λ e. open_key q w (t.1 e) m)

-- a run of chunks that are not verbatim has only keys without verbatim chunks
run_open : (run : List Chunk) (k : List (List ℕ)) → list_any is_verbatim_chunk run ≡ false → Matches run k → list_any is_verbatim k ≡ false
run_open [] k h m = ap (λ z. list_any is_verbatim z) m
run_open (AnyChunks ∷ run) k h m =
    ap (λ z. list_any is_verbatim z) m.2 ∙ list_any-append is_verbatim m.0 m.1 ∙ or_from (list_any is_verbatim m.0) (list_any is_verbatim m.1) m.3 (run_open run m.1 h m.4)
run_open (Any ∷ run) [] h m = absurd m
run_open (Any ∷ run) (c ∷ k) h m = or_from (is_verbatim c) (list_any is_verbatim k) m.0 (run_open run k h m.1)
run_open (Pieces p ∷ run) [] h m = absurd m
run_open (Pieces p ∷ run) (c ∷ k) h m =
    let parts = or_parts (begins_verbatim p) (list_any is_verbatim_chunk run) h in
    or_from (is_verbatim c) (list_any is_verbatim k) (open_key p c parts.0 m.0) (run_open run k parts.1 m.1)

covered_one : (x : Chunk) (a : List Chunk) (y : Chunk) (b : List Chunk) → is_any_chunks x ≡ false → TakesChunk x y → (k : List (List ℕ)) → Matches (y ∷ b) k
    → ((l : List (List ℕ)) → Matches b l → Matches a l) → Matches (x ∷ a) k
covered_one x a y b g t [] m ih = absurd (one_nil (chunk_signs true) is_verbatim MatchesChunk Matches (matches_law true) y b (takes_together x y t).1 m)
covered_one x a y b g t (c ∷ k) m ih =
    let o = one_cons (chunk_signs true) is_verbatim MatchesChunk Matches (matches_law true) y b c k (takes_together x y t).1 m in
    chunk_one_in x a c k g (chunk_taken x y c t o.0) (ih k o.1)

pub covered_matches : (a b : List Chunk) → Covers a b → (k : List (List ℕ)) → Matches b k → Matches a k
covered_matches [] b h k m = subst (λ z. Matches z k) h m
covered_matches (AnyChunks ∷ a) b h k m =
    let cut = Matches-parted h.0 h.1 k (subst (λ z. Matches z k) h.2 m) in
    (cut.first, cut.second, cut.joined, run_open h.0 cut.first h.3 cut.first_matches, covered_matches a h.1 h.4 cut.second cut.second_matches)
covered_matches (Any ∷ a) [] h k m = absurd h
covered_matches (Any ∷ a) (y ∷ b) h k m = covered_one Any a y b refl h.0 k m (λ l n. covered_matches a b h.1 l n)
covered_matches (Pieces p ∷ a) [] h k m = absurd h
covered_matches (Pieces p ∷ a) (y ∷ b) h k m = covered_one (Pieces p) a y b refl h.0 k m (λ l n. covered_matches a b h.1 l n)

-- Back: the key of an expression that has a fresh character for `*` and in the place of each `$*`.
abbrev pub chunk_filled : ℕ → Chunk → List ℕ
chunk_filled z Any = z ∷ []
chunk_filled z AnyChunks = []
chunk_filled z (Pieces p) = filled z p

abbrev pub key_of : ℕ → List Chunk → List (List ℕ)
key_of z b = map (chunk_filled z) b

-- a list that is mapped is cut where its image is
pub map_cut : {X Y : Type 0} (f : X → Y) (xs : List X) (u v : List Y) → map f xs ≡ u ++ v → (a : List X) × (b : List X) × (xs ≡ a ++ b) × (map f a ≡ u) × (map f b ≡ v)
map_cut f xs [] v e = ([], xs, refl, refl, e)
map_cut f [] (y ∷ u) v e = cc
map_cut f (x ∷ xs) (y ∷ u) v e =
    let first : f x ≡ y = cc in
    let rest : map f xs ≡ u ++ v = cc in
    let cut = map_cut f xs u v rest in
    let image : map f cut.0 ≡ u = cut.3 in
    (x ∷ cut.0, cut.1, ap (λ t. x ∷ t) cut.2, cc, cut.4)

-- its text fits pieces only where they take the pieces that it is of
taken_from : (z : ℕ) (p q : List Piece) → list_all (piece_passes (λ c. not (c == z))) p ≡ true → Fits p (filled z q) → Takes p q
taken_from z [] [] h m = refl
taken_from z [] (x ∷ q) h m = cc
taken_from z (Char c ∷ p) [] h m = absurd m
taken_from z (Char c ∷ p) (Char d ∷ q) h m = (m.0, taken_from z p q (and_parts (not (c == z)) (list_all (piece_passes (λ d. not (d == z))) p) h).1 m.1)
taken_from z (Char c ∷ p) (AnyChars ∷ q) h m =
    let no = not-true (c == z) (and_parts (not (c == z)) (list_all (piece_passes (λ d. not (d == z))) p) h).0 in
    absurd (false≢true (sym no ∙ eq-eqb c z m.0))
taken_from z (AnyChars ∷ p) q h m =
    let cut = map_cut (piece_filled z) q m.0 m.1 m.2 in
    (cut.0, cut.1, cut.2, taken_from z p cut.1 h (subst (λ w. Fits p w) (sym cut.4) m.3))

-- the fresh character alone fits no canonical pieces
fresh_alone : (z : ℕ) (p : List Piece) (w : List ℕ) → list_all (piece_passes (λ c. not (c == z))) p ≡ true → list_all (λ c. c == z) w ≡ true → Fits p w → list_all is_any_chars p ≡ true
fresh_alone z [] w h g m = refl
fresh_alone z (Char c ∷ p) [] h g m = absurd m
fresh_alone z (Char c ∷ p) (b ∷ w) h g m =
    let no = not-true (c == z) (and_parts (not (c == z)) (list_all (piece_passes (λ d. not (d == z))) p) h).0 in
    let yes = (and_parts (b == z) (list_all (λ c. c == z) w) g).0 in
    absurd (false≢true (sym no ∙ ap (λ t. t == z) m.0 ∙ yes))
fresh_alone z (AnyChars ∷ p) w h g m =
    let parts = and_parts (list_all (λ c. c == z) m.0) (list_all (λ c. c == z) m.1) (sym (list_all-append (λ c. c == z) m.0 m.1) ∙ sym (ap (λ t. list_all (λ c. c == z) t) m.2) ∙ g) in
    fresh_alone z p m.1 h parts.1 m.3

some_char : (p : List Piece) → is_chunk (Pieces p) ≡ true → is_canonical_chunk (Pieces p) ≡ true → list_all is_any_chars p ≡ true → ⊥
some_char [] h g a = false≢true h
some_char (Char c ∷ p) h g a = false≢true a
some_char (AnyChars ∷ []) h g a = false≢true g
some_char (AnyChars ∷ Char c ∷ p) h g a = false≢true a
some_char (AnyChars ∷ AnyChars ∷ p) h g a = false≢true g

verbatim_same : (z : ℕ) (x : Chunk) → (z == 64) ≡ false → is_verbatim (chunk_filled z x) ≡ is_verbatim_chunk x
verbatim_same z Any h = h
verbatim_same z AnyChunks h = refl
verbatim_same z (Pieces p) h = filled_verbatim z p h

run_verbatim : (z : ℕ) (b : List Chunk) → (z == 64) ≡ false → list_any is_verbatim (key_of z b) ≡ list_any is_verbatim_chunk b
run_verbatim z [] h = refl
run_verbatim z (x ∷ b) h = rw (verbatim_same z x h) (ap (λ t. is_verbatim_chunk x || t) (run_verbatim z b h))

-- a chunk that its text matches takes the chunk that it is of
chunk_from : (z : ℕ) (x y : Chunk) → (z == 64) ≡ false → chunk_passes (λ c. not (c == z)) x ≡ true → is_chunk x ≡ true → is_canonical_chunk x ≡ true → is_any_chunks y ≡ false
    → MatchesChunk x (chunk_filled z y) → TakesChunk x y
chunk_from z Any Any at fresh ok canon g m = tt
chunk_from z Any AnyChunks at fresh ok canon g m = cc
chunk_from z Any (Pieces q) at fresh ok canon g m = sym (filled_verbatim z q at) ∙ m
chunk_from z AnyChunks y at fresh ok canon g m = absurd m
chunk_from z (Pieces p) Any at fresh ok canon g m =
    absurd (some_char p ok canon (fresh_alone z p (z ∷ []) fresh (and_from (z == z) true (eq-eqb z z refl) refl) m.0))
chunk_from z (Pieces p) AnyChunks at fresh ok canon g m = cc
chunk_from z (Pieces p) (Pieces q) at fresh ok canon g m = (taken_from z p q fresh m.0, λ w. sym (filled_verbatim z q at) ∙ m.1 w)

pub covers_from : (z : ℕ) (a b : List Chunk) → (z == 64) ≡ false → list_all (chunk_passes (λ c. not (c == z))) a ≡ true → list_all is_chunk a ≡ true → list_all is_canonical_chunk a ≡ true
    → list_any is_any_chunks b ≡ false → Matches a (key_of z b) → Covers a b
covers_from z [] [] at fresh ok canon g m = refl
covers_from z [] (y ∷ b) at fresh ok canon g m = cc
covers_from z (AnyChunks ∷ a) b at fresh ok canon g m =
    let cut = map_cut (chunk_filled z) b m.0 m.1 m.2 in
    let gaps : (list_any is_any_chunks cut.0 || list_any is_any_chunks cut.1) ≡ false = sym (list_any-append is_any_chunks cut.0 cut.1) ∙ ap (λ t. list_any is_any_chunks t) (sym cut.2) ∙ g in (
      cut.0,
      cut.1,
      cut.2,
      sym (run_verbatim z cut.0 at) ∙ ap (λ t. list_any is_verbatim t) cut.3 ∙ m.3,
      covers_from z a cut.1 at fresh ok canon (or_parts (list_any is_any_chunks cut.0) (list_any is_any_chunks cut.1) gaps).1 (subst (λ t. Matches a t) (sym cut.4) m.4),
    )
covers_from z (Any ∷ a) [] at fresh ok canon g m = absurd m
covers_from z (Any ∷ a) (y ∷ b) at fresh ok canon g m =
    let gaps = or_parts (is_any_chunks y) (list_any is_any_chunks b) g in
    (chunk_from z Any y at refl refl refl gaps.0 m.0, covers_from z a b at fresh ok canon gaps.1 m.1)
covers_from z (Pieces p ∷ a) [] at fresh ok canon g m = absurd m
covers_from z (Pieces p ∷ a) (y ∷ b) at fresh ok canon g m =
    let gaps = or_parts (is_any_chunks y) (list_any is_any_chunks b) g in
    let f = and_parts (chunk_passes (λ c. not (c == z)) (Pieces p)) (list_all (chunk_passes (λ c. not (c == z))) a) fresh in
    let o = and_parts (is_chunk (Pieces p)) (list_all is_chunk a) ok in
    let n = and_parts (is_canonical_chunk (Pieces p)) (list_all is_canonical_chunk a) canon in
    (chunk_from z (Pieces p) y at f.0 o.0 n.0 gaps.0 m.0, covers_from z a b at f.1 o.1 n.1 gaps.1 m.1)

-- the key is one of the alphabet, and the expression matches it
left_false : (t u : Bool) → not (t && u) ≡ true → u ≡ true → t ≡ false
left_false true u h e = absurd (false≢true (sym (not-true u h) ∙ e))
left_false false u h e = refl

own_chunk : (z : ℕ) (x : Chunk) → (z == 64) ≡ false → is_chunk x ≡ true → is_any_chunks x ≡ false → MatchesChunk x (chunk_filled z x)
own_chunk z Any at ok g = at
own_chunk z AnyChunks at ok g = cc
own_chunk z (Pieces []) at ok g = cc
own_chunk z (Pieces (Char c ∷ p)) at ok g =
    let parts = and_parts (list_all is_piece (Char c ∷ p)) (not (begins_verbatim (Char c ∷ p) && is_wild (Char c ∷ p))) ok in
    (filled_fits z (Char c ∷ p), λ w. left_false (c == 64) (is_wild p) parts.1 w)
own_chunk z (Pieces (AnyChars ∷ p)) at ok g = (filled_fits z (AnyChars ∷ p), λ w. at)

pub own_key : (z : ℕ) (b : List Chunk) → (z == 64) ≡ false → list_all is_chunk b ≡ true → list_any is_any_chunks b ≡ false → Matches b (key_of z b)
own_key z [] at ok g = refl
own_key z (x ∷ b) at ok g =
    let parts = and_parts (is_chunk x) (list_all is_chunk b) ok in
    let gaps = or_parts (is_any_chunks x) (list_any is_any_chunks b) g in
    chunk_one_in x b (chunk_filled z x) (key_of z b) gaps.0 (own_chunk z x at parts.0 gaps.0) (own_key z b at parts.1 gaps.1)

key_chunk : (z : ℕ) (x : Chunk) → is_plain z ≡ true → is_chunk x ≡ true → is_any_chunks x ≡ false → is_key_chunk (chunk_filled z x) ≡ true
key_chunk z Any h ok g = and_from (is_plain z) true h refl
key_chunk z AnyChunks h ok g = cc
key_chunk z (Pieces p) h ok g = filled_key z p h ok

key_chunks_of : (z : ℕ) (b : List Chunk) → is_plain z ≡ true → list_all is_chunk b ≡ true → list_any is_any_chunks b ≡ false → list_all is_key_chunk (key_of z b) ≡ true
key_chunks_of z [] h ok g = refl
key_chunks_of z (x ∷ b) h ok g =
    let parts = and_parts (is_chunk x) (list_all is_chunk b) ok in
    let gaps = or_parts (is_any_chunks x) (list_any is_any_chunks b) g in
    and_from (is_key_chunk (chunk_filled z x)) (list_all is_key_chunk (key_of z b)) (key_chunk z x h parts.0 gaps.0) (key_chunks_of z b h parts.1 gaps.1)

pub is_key_of : (z : ℕ) (b : List Chunk) → is_plain z ≡ true → is_expression b ≡ true → list_any is_any_chunks b ≡ false → is_key (key_of z b) ≡ true
is_key_of z [] h ok g = cc
is_key_of z (x ∷ b) h ok g = key_chunks_of z (x ∷ b) h ok g

pieces_known : (alphabet : ℕ → Bool) (z : ℕ) (p : List Piece) → alphabet z ≡ true → list_all (piece_passes alphabet) p ≡ true → list_all alphabet (filled z p) ≡ true
pieces_known alphabet z [] h g = refl
pieces_known alphabet z (Char c ∷ p) h g =
    let parts = and_parts (alphabet c) (list_all (piece_passes alphabet) p) g in
    and_from (alphabet c) (list_all alphabet (filled z p)) parts.0 (pieces_known alphabet z p h parts.1)
pieces_known alphabet z (AnyChars ∷ p) h g = and_from (alphabet z) (list_all alphabet (filled z p)) h (pieces_known alphabet z p h g)

chunk_known : (alphabet : ℕ → Bool) (z : ℕ) (x : Chunk) → alphabet z ≡ true → chunk_passes alphabet x ≡ true → list_all alphabet (chunk_filled z x) ≡ true
chunk_known alphabet z Any h g = and_from (alphabet z) true h refl
chunk_known alphabet z AnyChunks h g = refl
chunk_known alphabet z (Pieces p) h g = pieces_known alphabet z p h g

pub key_known : (alphabet : ℕ → Bool) (z : ℕ) (b : List Chunk) → alphabet z ≡ true → list_all (chunk_passes alphabet) b ≡ true → list_all (λ chunk. list_all alphabet chunk) (key_of z b) ≡ true
key_known alphabet z [] h g = refl
key_known alphabet z (x ∷ b) h g =
    let parts = and_parts (chunk_passes alphabet x) (list_all (chunk_passes alphabet) b) g in
    and_from (list_all alphabet (chunk_filled z x)) (list_all (λ chunk. list_all alphabet chunk) (key_of z b)) (chunk_known alphabet z x h parts.0) (key_known alphabet z b h parts.1)

pub inclusion_covers : (alphabet : ℕ → Bool) (a b : List Chunk) (z : ℕ) → IsFresh alphabet a z → list_all (chunk_passes alphabet) b ≡ true
    → is_expression a ≡ true → is_canonical a ≡ true → is_expression b ≡ true → list_any is_any_chunks b ≡ false
    → ((key : List (List ℕ)) → is_key key ≡ true → list_all (λ chunk. list_all alphabet chunk) key ≡ true → Matches b key → Matches a key) → Covers a b
inclusion_covers alphabet a b z fresh known oka canon okb gaps included =
    let okc = all_chunks b okb in
    covers_from z a b fresh.no_at fresh.unused (all_chunks a oka) (and_parts (list_all is_canonical_chunk a) (is_ordered a) canon).0 gaps
    (included (key_of z b) (is_key_of z b fresh.plain okb gaps) (key_known alphabet z b fresh.known known) (own_key z b fresh.no_at okc gaps))
