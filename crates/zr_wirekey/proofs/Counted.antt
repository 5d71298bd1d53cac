-- The count of bytes as a text comes, takes another one's place or goes.
use Rattle.std.proofs.Common.{◌≡◌, ℕ, ◌+◌, ◌-◌, ◌<◌, ◌≤◌, List, length, Result, Err, arith}
use Rattle.std.specs.Prelude.{option_map, unwrap_or}
use Rattle.std.specs.Ordering.{nat_cmp}
use Rattle.std.specs.Map.{lookup, keys_of}
use Rattle.std.specs.List.Sorted.{IsStrictlySortedBy}
use Rattle.std.proofs.lemmas.Map.Entries.{sum_by-insert_entry, sum_by-remove_entry}
use Rattle.std.proofs.lemmas.Cmp.{nat_cmp_total}
use Rattle.zr_wirekey.specs.declared.scopes.ScopeError.{ScopeError}
use Rattle.zr_wirekey.specs.declared.scopes.ScopeError.TheVariants.{Limit, NoMemory}
use Rattle.zr_wirekey.specs.Scopes.{Texts, IsCounted, is_number, declared, undeclared, bytes_of}

-- how many bytes the text of a number has
abbrev pub length_of : Texts → ℕ → ℕ
length_of texts number = unwrap_or (option_map (λ text. length text) (lookup (is_number number) texts)) 0

pub bytes_of-undeclared : (texts : Texts) (number : ℕ) → bytes_of (undeclared texts number) + length_of texts number ≡ bytes_of texts
bytes_of-undeclared texts number = sum_by-remove_entry (λ text. length text) (is_number number) texts

pub bytes_of-declared : (texts : Texts) (number : ℕ) (text : List ℕ) → IsStrictlySortedBy nat_cmp (keys_of texts)
    → bytes_of (declared texts number text) + length_of texts number ≡ bytes_of texts + length text
bytes_of-declared texts number text ordered = sum_by-insert_entry (λ t. length t) nat_cmp_total texts number text ordered

-- the count with the text declared is that of the texts
pub counted : (texts : Texts) (bytes number : ℕ) (text : List ℕ) → IsCounted texts bytes → bytes_of (declared texts number text) ≡ bytes - length_of texts number + length text
counted texts bytes number text c = omega (arith, c.count, bytes_of-declared texts number text c.ordered, bytes_of-undeclared texts number)

-- a text that is there has no more bytes than all
pub length_of-le : (texts : Texts) (bytes number : ℕ) → IsCounted texts bytes → length_of texts number ≤ bytes
length_of-le texts bytes number c = omega (arith, c.count, bytes_of-undeclared texts number)

-- an answer that isn't Limit, where the limit isn't passed
pub not_limit : (r : Result (Unit {0}) ScopeError) (n : ℕ) → r ≡ Err NoMemory → n ≤ 1048576 → (r ≡ Err Limit → 1048576 < n) × (1048576 < n → r ≡ Err Limit)
not_limit r n e le = (λ h. absurd cc, λ lt. absurd (omega arith))
