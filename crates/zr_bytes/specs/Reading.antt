-- What a reading call answers, as a function of the bytes that are left. `Laws` ties it to the spellings.
use Rattle.std.specs.Prelude.{◌≡◌, ℕ, zero, suc, ◌+◌, ◌-◌, ◌*◌, List, [], ◌∷◌, length, take, drop, Result, Ok, Err, ◌⊎◌, nat_lt, if◌then◌else◌}
use Rattle.zr_bytes.specs.declared.read_error.ReadError.{ReadError}
use Rattle.zr_bytes.specs.declared.read_error.ReadError.TheVariants.{Short, TooBig, NoMemory}

-- A value and the bytes behind it, or why there is none.
abbrev pub Read : Type 0 → Type 0
Read X = Result (X × List ℕ) ReadError

infixl 10 ◌>>=◌
abbrev pub ◌>>=◌ : {A B : Type 0} → Result A ReadError → (A → Result B ReadError) → Result B ReadError
(Ok x) >>= f = f x
(Err e) >>= f = Err e

-- A function over the bytes gave what is said of them, seen by a view.
abbrev pub Gives : {X Y : Type 0} → (X → Y) → Result X ReadError → Result Y ReadError → Type 0
Gives view (Ok x) said = said ≡ Ok (view x)
Gives view (Err e) said = said ≡ Err e

-- A reading call gave what is said: the value, with the rest left; at a refusal all is left.
abbrev pub Reads : {X : Type 0} → Result X ReadError → Read X → List ℕ → List ℕ → Type 0
Reads (Ok x) said old new = said ≡ Ok (x, new)
Reads (Err e) said old new = (said ≡ Err e) × (new ≡ old)

-- the same, where the value is seen by a view
abbrev pub ReadsBy : {X Y : Type 0} → (X → Y) → Result X ReadError → Read Y → List ℕ → List ℕ → Type 0
ReadsBy view (Ok x) said old new = said ≡ Ok (view x, new)
ReadsBy view (Err e) said old new = (said ≡ Err e) × (new ≡ old)

-- A call that keeps what it reads is refused so too, unless memory ran out.
abbrev pub Fails : {X : Type 0} → ReadError → Read X → Type 0
Fails e said = (e ≡ NoMemory) ⊎ (said ≡ Err e)

-- A call that keeps what it reads gave what is said, seen by a view, unless memory ran out; at a refusal all is left.
abbrev pub Keeps : {X Y : Type 0} → (X → Y) → Result X ReadError → Read Y → List ℕ → List ℕ → Type 0
Keeps view (Ok x) said old new = said ≡ Ok (view x, new)
Keeps view (Err e) said old new = Fails e said × (new ≡ old)

-- A step of such a call gave what is said, seen by a view; where it is refused the call is.
abbrev pub Steps : {X Y : Type 0} → (X → Y) → Result X ReadError → Read Y → List ℕ → Type 0
Steps view (Ok x) said new = said ≡ Ok (view x, new)
Steps view (Err e) said new = Fails e said

-- one byte
unfoldable pub byte_of : List ℕ → Read ℕ
byte_of [] = Err Short
byte_of (b ∷ rest) = Ok (b, rest)

-- a number of which `more` further bytes may follow the first one
unfoldable pub number_within : ℕ → List ℕ → Read ℕ
number_within more [] = Err Short
number_within zero (b ∷ rest) = Ok (b, rest)
number_within (suc more) (b ∷ rest) =
    if nat_lt b 128 then Ok (b, rest) else (number_within more rest >>= λ x. Ok (b - 128 + 128 * x.0, x.1))

abbrev pub number_of : List ℕ → Read ℕ
number_of bytes = number_within 8 bytes

-- a number that is judged against the limit of its type, which it has to be below
unfoldable pub number_below : ℕ → List ℕ → Read ℕ
number_below limit bytes = do
  x ← number_of bytes
  if nat_lt x.0 limit then Ok x else Err TooBig

-- a byte string, whose length is judged first
unfoldable pub text_of : ℕ → List ℕ → Read (List ℕ)
text_of limit bytes = do
  n ← number_of bytes
  if nat_lt limit n.0 then Err TooBig else (if nat_lt (length n.1) n.0 then Err Short else Ok (take n.0 n.1, drop n.0 n.1))
