-- The expression of a key meets itself.
use Rattle.std.proofs.Common.{◌≡◌, ℕ, ◌&&◌, ◌||◌, not, Bool, true, false, cond, List, [], ◌∷◌, reverse, refl, sym, ap, ◌∙◌}
use Rattle.std.specs.List.{list_all, AllByRecursion}
use Rattle.std.proofs.lemmas.Bool.{false≢true, eq-eqb, and_parts}
use Rattle.std.proofs.Math.Bool.{or-true}
use Rattle.zr_key.specs.Expression.{Piece, Char, AnyChars, Chunk, Any, AnyChunks, Pieces, is_any_chars, is_piece, is_wild, begins_verbatim, is_chunk}
use Rattle.zr_key.specs.Key.{expression_of, IsKeyText}
use Rattle.zr_key.proofs.CanonForm.{all_chunks}
use Rattle.zr_match.specs.Table.{Signs, table, same_char, piece_signs, pieces_compare, is_any_chunks, chunks_go_together, chunk_signs, texts_meet}
use Rattle.zr_match.proofs.PieceTable.{list_all-reverse}

-- a gap more of the second pattern changes nothing where gaps expand
gap_more : {X : Type 0} (s : Signs X) (y : X) → s.expands ≡ true → s.is_gap y ≡ true → s.is_open y ≡ true → (a b : List X) → table s a b ≡ true → table s a (y ∷ b) ≡ true
gap_more s y e g o [] b h = rw (e, g, h) refl
gap_more {X} s y e g o (x ∷ a) b h = by (s.is_gap x)
  where
    by : (z : Bool) → cond z (table s a (y ∷ b) || (s.is_open y && table s (x ∷ a) b)) (cond (s.is_gap y) (s.expands && (table s (x ∷ a) b || (s.is_open x && table s a (y ∷ b)))) (s.go_together x y && table s a b)) ≡ true
    by true = ap (λ z. table s a (y ∷ b) || (z && table s (x ∷ a) b)) o ∙ ap (λ z. table s a (y ∷ b) || z) h ∙ or-true (table s a (y ∷ b))
    by false =
        ap (λ z. cond z (s.expands && (table s (x ∷ a) b || (s.is_open x && table s a (y ∷ b)))) (s.go_together x y && table s a b)) g
        ∙ ap (λ z. z && (table s (x ∷ a) b || (s.is_open x && table s a (y ∷ b)))) e
        ∙ ap (λ z. z || (s.is_open x && table s a (y ∷ b))) h

itself : {X : Type 0} (s : Signs X) → s.expands ≡ true → ((x : X) → s.is_gap x ≡ true → s.is_open x ≡ true) → (a : List X) → AllByRecursion (λ x. s.is_gap x ≡ false → s.go_together x x ≡ true) a → table s a a ≡ true
itself s e o [] g = refl
itself {X} s e o (x ∷ a) g = by (s.is_gap x) refl (itself s e o a g.1)
  where
    by : (z : Bool) → s.is_gap x ≡ z → table s a a ≡ true →
        cond z (table s a (x ∷ a) || (s.is_open x && table s (x ∷ a) a)) (cond (s.is_gap x) (s.expands && (table s (x ∷ a) a || (s.is_open x && table s a (x ∷ a)))) (s.go_together x x && table s a a)) ≡ true
    by true q h = ap (λ z. z || (s.is_open x && table s (x ∷ a) a)) (gap_more s x e q (o x q) a a h)
    by false q h =
        ap (λ z. cond z (s.expands && (table s (x ∷ a) a || (s.is_open x && table s a (x ∷ a)))) (s.go_together x x && table s a a)) q
        ∙ ap (λ z. z && table s a a) (g.0 q)
        ∙ h

same_chars : (p : List Piece) → AllByRecursion (λ x. is_any_chars x ≡ false → same_char x x ≡ true) p
same_chars [] = tt
same_chars (x ∷ p) = (by x, same_chars p)
  where
    by : (x : Piece) → is_any_chars x ≡ false → same_char x x ≡ true
    by (Char c) h = eq-eqb c c refl
    by AnyChars h = absurd (false≢true (sym h))

pieces_itself : (p : List Piece) → pieces_compare true p p ≡ true
pieces_itself p = itself (piece_signs true) refl (λ x h. refl) (reverse p) (same_chars (reverse p))

chunk_itself : (x : Chunk) → is_chunk x ≡ true → is_any_chunks x ≡ false → chunks_go_together true x x ≡ true
chunk_itself Any c h = refl
chunk_itself AnyChunks c h = absurd (false≢true (sym h))
chunk_itself (Pieces []) c h = absurd (false≢true c)
chunk_itself (Pieces (x ∷ p)) c h = by (is_wild (x ∷ p)) (begins_verbatim (x ∷ p)) (and_parts (list_all is_piece (x ∷ p)) (not (begins_verbatim (x ∷ p) && is_wild (x ∷ p))) c).1 (pieces_itself (x ∷ p))
  where
    by : (w v : Bool) → not (v && w) ≡ true → pieces_compare true (x ∷ p) (x ∷ p) ≡ true → ((not (w && v) && not (w && v)) && pieces_compare true (x ∷ p) (x ∷ p)) ≡ true
    by true true n h = absurd (false≢true n)
    by true false n h = h
    by false v n h = h

chunks_itself : (e : List Chunk) → list_all is_chunk e ≡ true → AllByRecursion (λ x. is_any_chunks x ≡ false → chunks_go_together true x x ≡ true) e
chunks_itself [] h = tt
chunks_itself (x ∷ e) h = let k = and_parts (is_chunk x) (list_all is_chunk e) h in (chunk_itself x k.0, chunks_itself e k.1)

open_gap : (x : Chunk) → is_any_chunks x ≡ true → (chunk_signs true).is_open x ≡ true
open_gap Any h = refl
open_gap AnyChunks h = refl
open_gap (Pieces p) h = absurd (false≢true h)

pub meets_itself : (k : List ℕ) → IsKeyText k → texts_meet k k ≡ true
unfolding texts_meet
meets_itself k t = itself (chunk_signs true) refl open_gap (reverse (expression_of k)) (chunks_itself (reverse (expression_of k)) (list_all-reverse is_chunk (expression_of k) (all_chunks (expression_of k) t.expression)))
