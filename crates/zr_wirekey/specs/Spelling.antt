-- Numbered keys (Zenoh protocol 1.0, "WireExpr"): a number that stands for a text, and a suffix behind it where the key is named.
use Rattle.std.specs.Prelude.{◌≡◌, ℕ, ◌-◌, ◌^◌, Bool, List, [], ◌++◌, Option, Some, None, Result, Ok, Err}
use Rattle.std.specs.Coded.{Unit-prop}
use Rattle.std.proofs.Props.{props}
use Rattle.zr_bytes.specs.declared.read_error.ReadError.{ReadError}
use Rattle.zr_bytes.specs.declared.read_error.ReadError.TheVariants.{BadKey, UnknownScope}
use Rattle.zr_format_spec.specs.Format.{Format, gives, choose, ◌then◌, ◌allows◌, below, text}
use Rattle.zr_key.specs.declared.key.KeyError.{KeyError}
use Rattle.zr_key.specs.Key.{read_key}
use Rattle.zr_wirekey.specs.Scopes.{Texts, text_at}

-- a scope that nobody declared is refused
abbrev pub scope_of : Option (List ℕ) → Result (List ℕ) ReadError
scope_of None = Err UnknownScope
scope_of (Some text) = Ok text

-- the suffix, of less than 2^16 bytes, where the key is named
abbrev pub suffix : Bool → Format (List ℕ)
suffix named = choose named (text (2 ^ 16 - 1)) (gives [])

-- the text of a scope, and the suffix
abbrev pub key_parts : Bool → Texts → Format (List ℕ × List ℕ)
key_parts named texts =
    below (2 ^ 16) then λ number. scope_of (text_at texts number) allows λ scope.
    suffix named then λ suffix. gives (scope, suffix)

-- a text that is no expression is refused
abbrev pub or_bad_key : Result (List ℕ) KeyError → Result (List ℕ) ReadError
or_bad_key (Ok key) = Ok key
or_bad_key (Err e) = Err BadKey

-- a key: the expression that the text and the suffix together are read as
abbrev pub key_format : Bool → Texts → Format (List ℕ)
key_format named texts = key_parts named texts then λ parts. or_bad_key (read_key (parts.0 ++ parts.1)) allows λ key. gives key

-- the expression, if there is one, is the one that the text is read as
abbrev pub IsReadAs : List ℕ → Option (List ℕ) → Type 0
IsReadAs text None = Unit {0}
IsReadAs text (Some key) = read_key text ≡ Ok key

-- it is so or not, in one way
pub IsReadAs-prop : (text : List ℕ) (key : Option (List ℕ)) → IsProp (IsReadAs text key)
IsReadAs-prop text None = Unit-prop
IsReadAs-prop text (Some key) = Prim.hlevel props
