-- Steps that may be refused, one after another, and what a call's answer has to do with what is said of it.
use Rattle.std.specs.Prelude.{◌≡◌, Result, Ok, Err}
use Rattle.zr_script_spec.specs.declared.error.ScriptError.{ScriptError}
use Rattle.zr_script_spec.specs.declared.error.ScriptError.TheVariants.{UnknownCommand, BadWords, UnknownName, NameTaken, BadKey, NotLinked, AlreadyLinked, NothingThere, NotAsked, NotSettled, NotSamples, NotJoined, Limit, NoMemory}

-- the second step, where the first was not refused
infixl 10 ◌>>=◌
abbrev pub ◌>>=◌ : {A B : Type 0} → Result A ScriptError → (A → Result B ScriptError) → Result B ScriptError
(Ok x) >>= f = f x
(Err e) >>= f = Err e

-- what a call answered, seen by a view, is what is said, unless memory ran out
abbrev pub IsSaidBy : {X Y : Type 0} → (X → Y) → Result X ScriptError → Result Y ScriptError → Type 0
IsSaidBy view (Ok x) said = said ≡ Ok (view x)
IsSaidBy view (Err UnknownCommand) said = said ≡ Err UnknownCommand
IsSaidBy view (Err BadWords) said = said ≡ Err BadWords
IsSaidBy view (Err BadKey) said = said ≡ Err BadKey
IsSaidBy view (Err UnknownName) said = said ≡ Err UnknownName
IsSaidBy view (Err NameTaken) said = said ≡ Err NameTaken
IsSaidBy view (Err NotLinked) said = said ≡ Err NotLinked
IsSaidBy view (Err AlreadyLinked) said = said ≡ Err AlreadyLinked
IsSaidBy view (Err NothingThere) said = said ≡ Err NothingThere
IsSaidBy view (Err NotAsked) said = said ≡ Err NotAsked
IsSaidBy view (Err NotSettled) said = said ≡ Err NotSettled
IsSaidBy view (Err NotSamples) said = said ≡ Err NotSamples
IsSaidBy view (Err NotJoined) said = said ≡ Err NotJoined
IsSaidBy view (Err Limit) said = said ≡ Err Limit
IsSaidBy view (Err NoMemory) said = Unit {0}

-- the same of what was answered as it is
abbrev pub IsSaid : {X : Type 0} → Result X ScriptError → Result X ScriptError → Type 0
IsSaid answer said = IsSaidBy (λ x. x) answer said
