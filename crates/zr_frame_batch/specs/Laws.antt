-- The laws of batches on a stream: there is one way to cut it, and no piece in which it comes makes another.
use Rattle.std.specs.Prelude.{◌≡◌, ℕ, ◌<◌, ◌^◌, List, [], ◌++◌, length}
use Rattle.std.specs.List.{AllByRecursion, flat_map}
use Rattle.zr_frame_batch.specs.Framing.{framed, Are, lacks}

-- All bytes are batches and a rest that is less than a batch, in one way.
pub record StreamsAreCutOnce : Type 0 where
  pub some : (bytes : List ℕ) → (batches : List (List ℕ)) × (rest : List ℕ) × Are bytes batches rest × (0 < lacks rest)
  pub one : (bytes rest left : List ℕ) (xs ys : List (List ℕ)) → Are bytes xs rest → 0 < lacks rest → Are bytes ys left → 0 < lacks left → (xs ≡ ys) × (rest ≡ left)

-- What is left of some bytes is cut with those that come behind them: so it doesn't matter in which pieces bytes come.
abbrev pub StreamsAreJoined : Type 0
StreamsAreJoined = (bytes more mid rest : List ℕ) (xs ys : List (List ℕ)) → Are bytes xs mid → Are (mid ++ more) ys rest → Are (bytes ++ more) (xs ++ ys) rest

-- Batches that are written one behind another are cut again.
abbrev pub WrittenBatchesAreCut : Type 0
WrittenBatchesAreCut = (batches : List (List ℕ)) → AllByRecursion (λ batch. length batch < 2 ^ 16) batches → Are (flat_map framed batches) batches []
