-- How a text is told to a sink, and what is said where the program could not do its work.
use Rattle.std.specs.Prelude.{ℕ, List, [], Option, codes, ◌⊎◌}
use Rattle.zr_netrun.specs.declared.status.Status.{Status}
use Rattle.zr_netrun.specs.declared.status.Status.TheVariants.{Done, Refused, Words, NoMemory, ReadFault, WriteFault, HostFault}
use Rattle.zr_outside.specs.Counts.{Rose}
use Rattle.zr_outside.specs.Told.{Appends, AppendsPrefix}

-- A text was written: all of it, or a prefix where memory ran out or a write failed. It ends in no other way.
abbrev pub IsWritten : Status → List ℕ → Option (List ℕ) → Option (List ℕ) → ℕ → ℕ → Type 0
IsWritten Done text out out' faults faults' = Appends text out out'
IsWritten NoMemory text out out' faults faults' = AppendsPrefix text out out'
IsWritten WriteFault text out out' faults faults' = AppendsPrefix text out out' × Rose faults faults'
IsWritten Refused text out out' faults faults' = ⊥
IsWritten Words text out out' faults faults' = ⊥
IsWritten ReadFault text out out' faults faults' = ⊥
IsWritten HostFault text out out' faults faults' = ⊥

-- a text was written whole, or a prefix of it and a write has failed
abbrev pub Says : List ℕ → Option (List ℕ) → Option (List ℕ) → ℕ → ℕ → Type 0
Says text err err' faults faults' = Appends text err err' ⊎ (AppendsPrefix text err err' × Rose faults faults')

-- some text was written, as above: `clap` makes it
abbrev pub IsTold : Status → Option (List ℕ) → Option (List ℕ) → ℕ → ℕ → Type 0
IsTold status out out' faults faults' = (text : List ℕ) × IsWritten status text out out' faults faults'

-- the line that shows the forms of words that are taken
abbrev pub usage_text : List ℕ
usage_text =
    codes "usage: zrd net [--summary] [--threads N] / serve --id ID --listen ADDRESS [--rules] [--admin] [DIAL]... / make --number N --routers R --clients C --messages M\n"

-- the usage line was written, or a prefix of it and a write has failed
abbrev pub TellsUsage : Option (List ℕ) → Option (List ℕ) → ℕ → ℕ → Type 0
TellsUsage err err' faults faults' = Says usage_text err err' faults faults'

-- the ends to which nothing that fails leads: all was done, a line or the words were refused, or memory ran out
abbrev pub IsUnhindered : Status → Type 0
IsUnhindered Done = Unit {0}
IsUnhindered Refused = Unit {0}
IsUnhindered Words = Unit {0}
IsUnhindered NoMemory = Unit {0}
IsUnhindered ReadFault = ⊥
IsUnhindered WriteFault = ⊥
IsUnhindered HostFault = ⊥

-- what is said where the program could not do its work, and nothing where it has or where `run` has told why
abbrev pub trouble_text : Status → List ℕ
trouble_text Done = []
trouble_text Refused = []
trouble_text Words = []
trouble_text NoMemory = codes "zrd: out of memory\n"
trouble_text ReadFault = codes "zrd: standard input could not be read\n"
trouble_text WriteFault = codes "zrd: an output could not be written\n"
trouble_text HostFault = codes "zrd: no links can be accepted\n"
