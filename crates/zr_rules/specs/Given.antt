-- What an input gives as the rules of a router, and what is told where it gives none.
use Rattle.std.specs.Prelude.{◌≡◌, ◌≢◌, ℕ, Bool, true, false, ◌<◌, ◌≤◌, List, ◌++◌, length, codes, Option, Some, None, Result, Ok, Err}
use Rattle.std.specs.Fmt.{decimal}
use Rattle.zr_access.specs.Rules.{PolicyState}
use Rattle.zr_access.specs.Text.{policy_of}
use Rattle.zr_access.specs.declared.fault.PolicyFault.{PolicyFault}
use Rattle.zr_access.specs.declared.fault.PolicyFault.TheVariants as fault
use Rattle.zr_outside.specs.Told.{Appends, AppendsPrefix}
use Rattle.zr_rules.specs.Explained.{explanation, shown_line}
use Rattle.zr_rules.specs.declared.rules.RulesError.{RulesError}
use Rattle.zr_rules.specs.declared.rules.RulesError.TheVariants.{Refused, TooLong, ReadFault, NoMemory}
use Rattle.zr_rules.specs.declared.telling.RulesEnd.{RulesEnd}
use Rattle.zr_rules.specs.declared.telling.RulesEnd.TheVariants as end

-- how many bytes rules have at most
abbrev pub most_bytes : ℕ
most_bytes = 1048576

-- these bytes were the next of those that were left, where the source tells them
abbrev pub Gathers : List ℕ → Option (List ℕ) → Option (List ℕ) → Type 0
Gathers bytes None after = Unit {0}
Gathers bytes (Some all) after = (rest : List ℕ) × (all ≡ bytes ++ rest) × (after ≡ Some rest)

-- P holds of the bytes that were read
abbrev pub OfBytes : Option (List ℕ) → Option (List ℕ) → (List ℕ → Type 0) → Type 0
OfBytes before after P = (bytes : List ℕ) × Gathers bytes before after × P bytes

-- a faulty line of a text is told with its bytes, unless memory ran out
abbrev pub IsRefusal : ℕ → PolicyFault → List ℕ → RulesError → Type 0
IsRefusal line fault text (Refused line' fault' shown) = (line' ≡ line) × (fault' ≡ fault) × (shown.items ≡ shown_line line text)
IsRefusal line fault text TooLong = ⊥
IsRefusal line fault text ReadFault = ⊥
IsRefusal line fault text NoMemory = Unit {0}

-- what the bytes that were read give: the policy of all of them, or the first faulty line, where they were read to their end and are not too many
abbrev pub GivesRules : Type 0 → Result PolicyState RulesError → List ℕ → Type 0
GivesRules Ended (Ok p) bytes = Ended × (length bytes ≤ most_bytes) × (policy_of bytes ≡ Ok p)
GivesRules Ended (Err (Refused line fault shown)) bytes =
    Ended × (length bytes ≤ most_bytes) × (policy_of bytes ≡ Err (line, fault)) × (shown.items ≡ shown_line line bytes)
GivesRules Ended (Err TooLong) bytes = most_bytes < length bytes
GivesRules Ended (Err ReadFault) bytes = length bytes ≤ most_bytes
GivesRules Ended (Err NoMemory) bytes = Unit {0}

-- so they were gathered
abbrev pub IsGathered : Type 0 → Result (Unit {0}) RulesError → List ℕ → Type 0
IsGathered Ended (Ok _) bytes = Ended × (length bytes ≤ most_bytes)
IsGathered Ended (Err (Refused line fault shown)) bytes = ⊥
IsGathered Ended (Err TooLong) bytes = most_bytes < length bytes
IsGathered Ended (Err ReadFault) bytes = length bytes ≤ most_bytes
IsGathered Ended (Err NoMemory) bytes = Unit {0}

-- ---- what is told where there are no rules

-- the number and the name of a fault
abbrev pub fault_text : PolicyFault → List ℕ
fault_text fault.BadWords = codes "1 BadWords"
fault_text fault.BadKey = codes "2 BadKey"
fault_text fault.Misplaced = codes "3 Misplaced"
fault_text fault.TooLong = codes "4 TooLong"

abbrev pub refusal_text : ℕ → PolicyFault → List ℕ
refusal_text line fault = codes "rules line " ++ decimal line ++ codes ": " ++ fault_text fault ++ codes "\n"

abbrev pub too_long_text : List ℕ
too_long_text = codes "rules too long\n"

-- the same with the explanation of the line behind it, where that is asked for
abbrev pub refusal_told : Bool → ℕ → PolicyFault → List ℕ → List ℕ
refusal_told true line fault shown = refusal_text line fault ++ explanation shown fault
refusal_told false line fault shown = refusal_text line fault

-- the line was written whole; or a prefix of it, and a write failed; or nothing, and memory ran out
abbrev pub Complains : RulesEnd → List ℕ → Option (List ℕ) → Option (List ℕ) → Type 0
Complains end.Refused text err err' = Appends text err err'
Complains end.WriteFault text err err' = AppendsPrefix text err err'
Complains end.NoMemory text err err' = err' ≡ err
Complains end.ReadFault text err err' = ⊥

-- the line that tells why was written, where the text of the rules is the cause, with an explanation where that is asked for; nothing was, where a read
-- failed or memory ran out
abbrev pub TellsRules : Bool → RulesError → RulesEnd → Option (List ℕ) → Option (List ℕ) → Type 0
TellsRules explains (Refused line fault shown) how err err' = Complains how (refusal_told explains line fault shown.items) err err'
TellsRules explains TooLong how err err' = (how ≢ end.NoMemory) × Complains how too_long_text err err'
TellsRules explains ReadFault how err err' = (how ≡ end.ReadFault) × (err' ≡ err)
TellsRules explains NoMemory how err err' = (how ≡ end.NoMemory) × (err' ≡ err)
