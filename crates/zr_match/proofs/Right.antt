-- The tests of texts say what meeting and covering mean.
use Rattle.std.proofs.Common.{◌≡◌, ℕ, ◌∷◌, [], List, true, false}
use Rattle.std.proofs.lemmas.Bool.{false≢true}
use Rattle.zr_key.specs.Expression.{Chunk, is_expression}
use Rattle.zr_key.specs.Key.{expression_of, IsKeyText}
use Rattle.zr_key.proofs.CanonForm.{all_chunks}
use Rattle.zr_match.specs.Match.{Meets, Covers}
use Rattle.zr_match.specs.Table.{compare_chunks}
use Rattle.zr_match.proofs.ChunkTable.{compare_meets, meets_compare, compare_covers, covers_compare}

pub some_chunks : (e : List Chunk) → is_expression e ≡ true → (e ≡ []) → ⊥
some_chunks [] h g = false≢true h
some_chunks (x ∷ e) h g = cc

pub meets_right : (a b : List ℕ) → IsKeyText a → IsKeyText b
    → (compare_chunks true (expression_of a) (expression_of b) ≡ true → Meets (expression_of a) (expression_of b)) × (Meets (expression_of a) (expression_of b) → compare_chunks true (expression_of a) (expression_of b) ≡ true)
meets_right a b p q = (
  compare_meets (expression_of a) (expression_of b) (some_chunks (expression_of a) p.expression) (some_chunks (expression_of b) q.expression) (all_chunks (expression_of a) p.expression) (all_chunks (expression_of b) q.expression),
  meets_compare (expression_of a) (expression_of b),
)

pub covers_right : (a b : List ℕ)
    → (compare_chunks false (expression_of a) (expression_of b) ≡ true → Covers (expression_of a) (expression_of b)) × (Covers (expression_of a) (expression_of b) → compare_chunks false (expression_of a) (expression_of b) ≡ true)
covers_right a b = (compare_covers (expression_of a) (expression_of b), covers_compare (expression_of a) (expression_of b))
