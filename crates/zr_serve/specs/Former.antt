-- What is told of a router whose identifier was in use before.
use Rattle.std.specs.Prelude.{◌≡◌, ◌⊎◌, ℕ, Bool, true, false, List, [], Option}
use Rattle.zr_outside.specs.Told.{Appends, AppendsPrefix}
use Rattle.zr_port.specs.declared.entry.Entry.{Entry}
use Rattle.zr_serve.specs.Lines.{used_text}
use Rattle.zr_serve.specs.declared.end.ServeEnd.{ServeEnd}
use Rattle.zr_serve.specs.declared.end.ServeEnd.TheVariants.{Done, NoMemory, WriteFault, HostFault}

-- by these entries, which the history of a port may be, its router has heard that its identifier was in use before, or hasn't
abbrev pub Hears : (List Entry → Type 0) → (List Entry → Bool) → List Entry → Bool → Type 0
Hears is_legal was_used seen heard = is_legal seen × (was_used seen ≡ heard)

-- the line, once that was heard
abbrev pub told_text : List ℕ → Bool → List ℕ
told_text id true = used_text id
told_text id false = []

-- The line was told once if the router had heard that, and not told if it hadn't: `Heard` says whether it had, when it was asked last
pub record TellsUsed (Heard : Bool → Type 0) (id : List ℕ) (held held' : Option (List ℕ)) : Type 0 where
  pub heard : Bool
  pub because : Heard heard
  pub said : Appends (told_text id heard) held held'

-- it had, and the line could not be told whole
pub record CutsUsed (Heard : Bool → Type 0) (id : List ℕ) (held held' : Option (List ℕ)) : Type 0 where
  pub because : Heard true
  pub said : AppendsPrefix (used_text id) held held'

-- what is told so while links are accepted, by how that ends
abbrev pub Uses : ServeEnd → (Bool → Type 0) → List ℕ → Option (List ℕ) → Option (List ℕ) → Type 0
Uses Done Heard id held held' = TellsUsed Heard id held held'
Uses HostFault Heard id held held' = TellsUsed Heard id held held'
Uses NoMemory Heard id held held' = TellsUsed Heard id held held' ⊎ CutsUsed Heard id held held'
Uses WriteFault Heard id held held' = CutsUsed Heard id held held'
