-- The laws of a format and its reader, in the same words for each message of the wire.
use Rattle.std.specs.Prelude.{◌≡◌, ℕ, ◌↔◌, List, ◌++◌, Ok, Err}
use Rattle.zr_bytes.specs.declared.read_error.ReadError.{ReadError}
use Rattle.zr_bytes.specs.Spelling.{Begins}
use Rattle.zr_format_spec.specs.Format.{Format}
use Rattle.zr_format_spec.specs.Reading.{Reader}

-- a value behind which anything may stand
abbrev pub anywhere : {X : Type 0} → X → List ℕ → Type 0
anywhere x rest = Unit {0}

-- A value is read exactly where the bytes begin with a spelling of it, behind which stands what may (`Ends`), and bytes
-- are refused exactly where the format refuses them, for that cause.
pub record IsReadBy {X : Type 0} (Ends : X → List ℕ → Type 0) (p : Format X) (read : Reader X) : Type 0 where
  pub reads : (bytes rest : List ℕ) (x : X) → (read bytes ≡ Ok (x, rest)) ↔ (Begins p.spelled x bytes rest × Ends x rest)
  pub refuses : (bytes : List ℕ) (e : ReadError) → (read bytes ≡ Err e) ↔ p.refused e bytes

-- No spelling begins another one, where what may stand behind them does.
abbrev pub HasOneReadingBefore : {X : Type 0} → (X → List ℕ → Type 0) → Format X → Type 0
HasOneReadingBefore {X} Ends p =
    (x y : X) (a b c d : List ℕ) → p.spelled x a → p.spelled y b → Ends x c → Ends y d → a ++ c ≡ b ++ d → (a ≡ b) × (x ≡ y)

-- the format has a spelling of the value
abbrev pub HasSpelling : {X : Type 0} → Format X → X → Type 0
HasSpelling p x = (bytes : List ℕ) × p.spelled x bytes

-- What is written of a value spells what it tells (`view`), so it is read again as that, whatever follows that may.
pub record WrittenIsRead {V X : Type 0} (Ends : X → List ℕ → Type 0) (p : Format X) (read : Reader X) (view : V → X) (writes : V → List ℕ) (Fits : V → Type 0) : Type 0 where
  pub spelled : (v : V) → Fits v → p.spelled (view v) (writes v)
  pub again : (v : V) (rest : List ℕ) → Fits v → Ends (view v) rest → read (writes v ++ rest) ≡ Ok (view v, rest)

-- the values that are written are those that have a spelling
abbrev pub SpelledIsWritten : {V X : Type 0} → Format X → (V → X) → (V → Type 0) → Type 0
SpelledIsWritten {V} p view Fits = (v : V) → HasSpelling p (view v) → Fits v
