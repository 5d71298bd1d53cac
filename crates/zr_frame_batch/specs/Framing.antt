-- Batches on a stream of bytes (Zenoh protocol 1.0, TCP links).
use Rattle.std.specs.Prelude.{◌≡◌, ℕ, ◌+◌, ◌-◌, ◌*◌, ◌%◌, ◌/◌, Bool, true, List, [], ◌∷◌, ◌++◌, length, max, nat_le}

-- a batch of less than 2^16 bytes behind its length, the low byte first
abbrev pub framed : List ℕ → List ℕ
framed batch = length batch % 256 ∷ length batch / 256 ∷ batch

-- The bytes are a batch behind its two length bytes.
abbrev pub IsFramed : List ℕ → List ℕ → Type 0
IsFramed bytes batch = (low : ℕ) × (high : ℕ) × (bytes ≡ low ∷ high ∷ batch) × (length batch ≡ low + 256 * high)

-- The bytes are a batch behind its length, and others.
abbrev pub BeginsWith : List ℕ → List ℕ → List ℕ → Type 0
BeginsWith bytes batch others = (front : List ℕ) × (bytes ≡ front ++ others) × IsFramed front batch

-- The bytes are these batches, each behind its length, and then the rest.
abbrev pub Are : List ℕ → List (List ℕ) → List ℕ → Type 0
Are bytes [] rest = bytes ≡ rest
Are bytes (batch ∷ batches) rest =
    (front : List ℕ) × (back : List ℕ) × (bytes ≡ front ++ back) × IsFramed front batch × Are back batches rest

-- how many bytes are wanted, at least, before a batch can be read
abbrev pub lacks : List ℕ → ℕ
lacks [] = 2
lacks (low ∷ []) = 1
lacks (low ∷ high ∷ bytes) = low + 256 * high - length bytes

-- The bytes go no further than the end of a batch.
abbrev pub is_within_one : List ℕ → Bool
is_within_one [] = true
is_within_one (low ∷ []) = true
is_within_one (low ∷ high ∷ bytes) = nat_le (length bytes) (low + 256 * high)

-- for so many bytes memory is held, at most, where so many came of the next batch
abbrev pub most_room : ℕ → ℕ
most_room came = max 1024 (2 * came)
