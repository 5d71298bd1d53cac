-- Formats of values: which bytes they spell, and what they refuse. A message's format is put together of these.
use Rattle.std.specs.Prelude.{◌≡◌, ℕ, zero, suc, ◌<◌, ◌≤◌, ◌⊎◌, Bool, true, false, List, [], ◌∷◌, ◌++◌, length, Option, Some, None, Result, Ok, Err}
use Rattle.zr_bytes.specs.declared.read_error.ReadError.{ReadError}
use Rattle.zr_bytes.specs.declared.read_error.ReadError.TheVariants.{Short, TooBig, UnknownId, Extra}
use Rattle.zr_bytes.specs.Flag.{has_flag}
use Rattle.zr_bytes.specs.Spelling.{Begins, EndsInside}
use Rattle.zr_bytes.specs.Number.{Spells}
use Rattle.zr_bytes.specs.Text.{SpellsText}
use Rattle.zr_ext.specs.declared.ext.Ext.{Ext}
use Rattle.zr_ext.specs.declared.ext.Form.{Form}
use Rattle.zr_ext.specs.declared.ext.Content.{Content}
use Rattle.zr_ext.specs.Header.{form_of}
use Rattle.zr_ext.specs.Chain.{SpellsContent, SpellsChain}
use Rattle.zr_ext.specs.Refusals.{RefusesContent, IsRefused}

-- The bytes that the format spells a value by, and where bytes are refused, which may go on behind the fault.
pub record Format (X : Type 0) : Type 1 where
  pub spelled : X → List ℕ → Type 0
  pub refused : ReadError → List ℕ → Type 0

-- ---- putting together

-- no bytes, where the value is known by what stands before
abbrev pub gives : {X : Type 0} → X → Format X
gives x = record { spelled = λ y bytes. (y ≡ x) × (bytes ≡ []); refused = λ e bytes. ⊥ }

-- refused by what stands before
abbrev pub fails : {X : Type 0} → ReadError → Format X
fails cause = record { spelled = λ x bytes. ⊥; refused = λ e bytes. e ≡ cause }

-- what has no format here
abbrev pub unknown : {X : Type 0} → Format X
unknown = fails UnknownId

abbrev pub choose : {X : Type 0} → Bool → Format X → Format X → Format X
choose true p q = p
choose false p q = q

-- A value, which tells the format of what follows.
infixr 20 ◌then◌
abbrev pub ◌then◌ : {X Y : Type 0} → Format X → (X → Format Y) → Format Y
◌then◌ {X} p f = record {
  spelled = λ y bytes. (x : X) × (front : List ℕ) × (back : List ℕ) × (bytes ≡ front ++ back) × p.spelled x front × (f x).spelled y back;
  refused = λ e bytes. p.refused e bytes ⊎ ((x : X) × (front : List ℕ) × (back : List ℕ) × (bytes ≡ front ++ back) × p.spelled x front × (f x).refused e back);
}

-- What stands before is judged: what it comes to tells the format of what follows, or the bytes are refused here.
infixr 20 ◌allows◌
abbrev pub ◌allows◌ : {X Y : Type 0} → Result X ReadError → (X → Format Y) → Format Y
(Ok x) allows f = f x
(Err e) allows f = fails e

-- a value that passes a test, or is refused for this cause
abbrev pub checked : {X : Type 0} → Format X → (X → Bool) → ReadError → Format X
checked p test cause = p then λ x. choose (test x) (gives x) (fails cause)

-- a value that is passed over
abbrev pub passed : {X : Type 0} → Format X → Format (Unit {0})
passed p = p then λ x. gives tt

-- a value where a flag is set
abbrev pub optional : {X : Type 0} → Bool → Format X → Format (Option X)
optional flag p = choose flag (p then λ x. gives (Some x)) (gives None)

-- So many values one after another. Each tells the format of the next.
abbrev pub series : {X : Type 0} → (Option X → Format X) → Option X → ℕ → Format (List X)
series f last zero = gives []
series f last (suc more) = f last then λ x. series f (Some x) more then λ xs. gives (x ∷ xs)

-- These bytes, which stood before, are a value and nothing else.
abbrev pub is_whole : {X : Type 0} → Format X → List ℕ → Format X
is_whole {X} p content = record {
  spelled = λ x bytes. p.spelled x content × (bytes ≡ []);
  refused = λ e bytes. p.refused e content
      ⊎ ((e ≡ Extra) × (x : X) × (front : List ℕ) × (next : ℕ) × (more : List ℕ) × (content ≡ front ++ next ∷ more) × p.spelled x front);
}

-- ---- parts

abbrev pub byte : Format ℕ
byte = record { spelled = λ b bytes. bytes ≡ b ∷ []; refused = λ e bytes. (e ≡ Short) × (bytes ≡ []) }

abbrev pub number : Format ℕ
number = record { spelled = Spells; refused = λ e bytes. (e ≡ Short) × EndsInside Spells bytes }

-- The bytes end inside a number, or it isn't below its limit.
abbrev pub RefusesBelow : ℕ → ReadError → List ℕ → Type 0
RefusesBelow limit e bytes =
    ((e ≡ Short) × EndsInside Spells bytes)
    ⊎ ((e ≡ TooBig) × (n : ℕ) × (rest : List ℕ) × (limit ≤ n) × Begins Spells n bytes rest)

-- a number below a limit
abbrev pub below : ℕ → Format ℕ
below limit = record { spelled = λ n bytes. (n < limit) × Spells n bytes; refused = RefusesBelow limit }

-- The bytes end inside a byte string of at most so many bytes, or its length is above that.
abbrev pub RefusesText : ℕ → ReadError → List ℕ → Type 0
RefusesText limit e bytes =
    ((e ≡ Short) × ((n : ℕ) (rest : List ℕ) → Begins Spells n bytes rest → n ≤ limit) × EndsInside SpellsText bytes)
    ⊎ ((e ≡ TooBig) × (n : ℕ) × (rest : List ℕ) × (limit < n) × Begins Spells n bytes rest)

-- a byte string of at most so many bytes
abbrev pub text : ℕ → Format (List ℕ)
text limit = record { spelled = λ t bytes. (length t ≤ limit) × SpellsText t bytes; refused = RefusesText limit }

-- so many bytes, whose number stands elsewhere
abbrev pub so_many : ℕ → Format (List ℕ)
so_many count = record {
  spelled = λ t bytes. (t ≡ bytes) × (length bytes ≡ count);
  refused = λ e bytes. (e ≡ Short) × (length bytes < count);
}

-- a content of this form, as an extension has one
abbrev pub content : Form → Format Content
content form = record { spelled = λ x bytes. (form_of x ≡ form) × SpellsContent x bytes; refused = λ e bytes. RefusesContent e form bytes }

-- the extensions of a chain that are known
abbrev pub chain : List (ℕ × Form) → Format (List Ext)
chain known = record { spelled = SpellsChain known; refused = IsRefused known }

-- the extensions of a message, where its header says that any follow
abbrev pub extensions : List (ℕ × Form) → ℕ → Format (List Ext)
extensions known header = choose (has_flag header 0x80) (chain known) (gives [])

-- all that is left
abbrev pub the_rest : {X : Type 0} → (List ℕ → X) → Format X
the_rest make = record { spelled = λ x bytes. x ≡ make bytes; refused = λ e bytes. ⊥ }
