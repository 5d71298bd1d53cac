-- The laws of numbers and byte strings: what a reading call answers is what the bytes spell.
use Rattle.std.specs.Prelude.{◌≡◌, ℕ, ◌<◌, ◌≤◌, ◌^◌, ◌⊎◌, ◌↔◌, List, length, Ok, Err}
use Rattle.std.specs.List.{AllByRecursion}
use Rattle.zr_bytes.specs.declared.read_error.ReadError.{ReadError}
use Rattle.zr_bytes.specs.declared.read_error.ReadError.TheVariants.{Short, TooBig}
use Rattle.zr_bytes.specs.Spelling.{Begins, EndsInside, HasOneReading}
use Rattle.zr_bytes.specs.Number.{Spells, writes}
use Rattle.zr_bytes.specs.Text.{SpellsText, writes_text}
use Rattle.zr_bytes.specs.Reading.{number_of, number_below, text_of}

-- A number is read exactly where the bytes begin with it, and refused as short exactly where they end inside one.
pub record NumbersAreRead : Type 0 where
  pub ok : (bytes rest : List ℕ) (value : ℕ) → (number_of bytes ≡ Ok (value, rest)) ↔ Begins Spells value bytes rest
  pub short : (bytes : List ℕ) → (number_of bytes ≡ Err Short) ↔ EndsInside Spells bytes
  pub no_other : (bytes : List ℕ) (e : ReadError) → number_of bytes ≡ Err e → e ≡ Short

-- Below a limit a number is read so too, and one that isn't below it is refused as too big.
pub record NumbersAreJudged : Type 0 where
  pub ok : (limit value : ℕ) (bytes rest : List ℕ) → (number_below limit bytes ≡ Ok (value, rest)) ↔ ((value < limit) × Begins Spells value bytes rest)
  pub short : (limit : ℕ) (bytes : List ℕ) → (number_below limit bytes ≡ Err Short) ↔ EndsInside Spells bytes
  pub too_big : (limit : ℕ) (bytes : List ℕ) → (number_below limit bytes ≡ Err TooBig) ↔ ((value : ℕ) × (rest : List ℕ) × (limit ≤ value) × Begins Spells value bytes rest)
  pub no_other : (limit : ℕ) (bytes : List ℕ) (e : ReadError) → number_below limit bytes ≡ Err e → (e ≡ Short) ⊎ (e ≡ TooBig)

-- Of a byte string the length is judged first, whatever follows it.
pub record TextsAreRead : Type 0 where
  pub ok : (limit : ℕ) (text bytes rest : List ℕ) → (text_of limit bytes ≡ Ok (text, rest)) ↔ ((length text ≤ limit) × Begins SpellsText text bytes rest)
  pub short : (limit : ℕ) (bytes : List ℕ) → (text_of limit bytes ≡ Err Short) ↔ (((n : ℕ) (rest : List ℕ) → Begins Spells n bytes rest → n ≤ limit) × EndsInside SpellsText bytes)
  pub too_big : (limit : ℕ) (bytes : List ℕ) → (text_of limit bytes ≡ Err TooBig) ↔ ((n : ℕ) × (rest : List ℕ) × (limit < n) × Begins Spells n bytes rest)
  pub no_other : (limit : ℕ) (bytes : List ℕ) (e : ReadError) → text_of limit bytes ≡ Err e → (e ≡ Short) ⊎ (e ≡ TooBig)

-- What is written spells the value, and no spelling of bytes is shorter.
pub record WritesShortest : Type 0 where
  pub number : (value : ℕ) → value < 2 ^ 64 → Spells value (writes value)
  pub bytes : (value : ℕ) → value < 2 ^ 64 → AllByRecursion (λ b. b < 256) (writes value)
  pub shortest : (value : ℕ) (bytes : List ℕ) → AllByRecursion (λ b. b < 256) bytes → Spells value bytes → length (writes value) ≤ length bytes
  pub text : (text : List ℕ) → length text < 2 ^ 64 → SpellsText text (writes_text text)

-- Numbers and byte strings have one reading.
pub record HaveOneReading : Type 0 where
  pub numbers : HasOneReading Spells
  pub texts : HasOneReading SpellsText
