-- An expression of characters, and the one of their bytes: they match the same keys, as characters and as bytes.
use Rattle.std.proofs.Common.{◌≡◌, ℕ, ◌∷◌, [], List, true, refl, sym, ap, subst, ◌∙◌, map}
use lib.Utf8.{encodes}
use Rattle.std.specs.List.{list_any, list_all}
use Rattle.zr_key.specs.Expression.{Piece, Char, AnyChars, Chunk, Any, AnyChunks, Pieces, is_verbatim, Fits, MatchesChunk, Matches}
use Rattle.zr_match.specs.Laws.{piece_passes}
use Rattle.zr_match.proofs.PieceTable.{chars, chars_fit, fit_chars}
use Rattle.zr_match.proofs.Inclusion.{map_cut}
use Rattle.zr_match.proofs.Characters.{bytes_of, common_chars, fits_bytes}
use Rattle.zr_match.proofs.TextInclusion.{chunk_bytes, verbatim_bytes, run_verbatim, wild_bytes}

all_pass : (p : List Piece) → list_all (piece_passes (λ c. true)) p ≡ true
all_pass [] = refl
all_pass (Char c ∷ p) = all_pass p
all_pass (AnyChars ∷ p) = all_pass p

fits_back : (p : List Piece) (w : List ℕ) → Fits (bytes_of p) (encodes w) → Fits p w
fits_back p w m =
    let c = common_chars (λ c. true) p (chars w) (encodes w) (all_pass p) (all_pass (chars w)) m (fits_bytes (chars w) w (chars_fit w)) in
    subst (λ z. Fits p z) (sym (fit_chars w c.word c.second_matches)) c.first_matches

chunk_back : (x : Chunk) (w : List ℕ) → MatchesChunk (chunk_bytes x) (encodes w) → MatchesChunk x w
chunk_back Any w m = sym (verbatim_bytes w) ∙ m
chunk_back AnyChunks w m = m
chunk_back (Pieces p) w m = (fits_back p w m.0, λ wild. sym (verbatim_bytes w) ∙ m.1 (wild_bytes p ∙ wild))

pub matches_back : (e : List Chunk) (k : List (List ℕ)) → Matches (map chunk_bytes e) (map encodes k) → Matches e k
matches_back [] [] m = refl
matches_back [] (w ∷ k) m = cc
matches_back (AnyChunks ∷ e) k m =
    let cut = map_cut encodes k m.0 m.1 m.2 in
    let rest : Matches (map chunk_bytes e) (map encodes cut.1) = subst (λ t. Matches (map chunk_bytes e) t) (sym cut.4) m.4 in
    (cut.0, cut.1, cut.2, sym (run_verbatim cut.0) ∙ ap (λ t. list_any is_verbatim t) cut.3 ∙ m.3, matches_back e cut.1 rest)
matches_back (Any ∷ e) [] m = absurd m
matches_back (Any ∷ e) (w ∷ k) m = (chunk_back Any w m.0, matches_back e k m.1)
matches_back (Pieces p ∷ e) [] m = absurd m
matches_back (Pieces p ∷ e) (w ∷ k) m = (chunk_back (Pieces p) w m.0, matches_back e k m.1)
