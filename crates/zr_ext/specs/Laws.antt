-- The laws of chains: what a reading call answers is what the bytes spell, and what is written is read again.
use Rattle.std.specs.Prelude.{◌≡◌, ℕ, ◌<◌, ◌↔◌, List, length, Ok, Err, true}
use Rattle.std.specs.List.{AllByRecursion, list_all}
use Rattle.zr_bytes.specs.declared.read_error.ReadError.{ReadError}
use Rattle.zr_bytes.specs.Spelling.{Begins, HasOneReading}
use Rattle.zr_ext.specs.declared.ext.Ext.{Ext}
use Rattle.zr_ext.specs.declared.ext.Form.{Form}
use Rattle.zr_ext.specs.Chain.{SpellsAll, SpellsChain, knows, lasts}
use Rattle.zr_ext.specs.Reading.{chain_of}
use Rattle.zr_ext.specs.Refusals.{IsRefused}
use Rattle.zr_ext.specs.Writing.{Fits, writes_chain}

-- A chain is read exactly where the bytes begin with one, and refused exactly where it stops for that cause.
pub record ChainsAreRead : Type 0 where
  pub ok : (known : List (ℕ × Form)) (bytes rest : List ℕ) (exts : List Ext) → (chain_of known bytes ≡ Ok (exts, rest)) ↔ Begins (SpellsChain known) exts bytes rest
  pub refused : (known : List (ℕ × Form)) (bytes : List ℕ) (e : ReadError) → (chain_of known bytes ≡ Err e) ↔ IsRefused known e bytes

-- No chain begins another one.
abbrev pub ChainsHaveOneReading : Type 0
ChainsHaveOneReading = (known : List (ℕ × Form)) → HasOneReading (SpellsChain known)

-- What is written spells the extensions. Where all are known and none repeats another, they are read again.
pub record WritesChains : Type 0 where
  pub spelled : (exts : List Ext) → 0 < length exts → AllByRecursion Fits exts → SpellsAll exts (writes_chain exts)
  pub again : (known : List (ℕ × Form)) (exts : List Ext) → 0 < length exts → AllByRecursion Fits exts → list_all (λ ext. knows known ext) exts ≡ true → lasts exts ≡ exts → SpellsChain known exts (writes_chain exts)
