-- The commands and options of the program, as `clap` reads them.
use Rattle.std.specs.Prelude.{ℕ, true, false, List, [], ◌∷◌, Some, codes}
use Rattle.clap.specs.Words.{App, Rule, Shape, new_rule, new_app}
use Rattle.clap.specs.declared.builder.action.ArgAction.TheVariants.{Set, SetTrue, Append}

-- an option without a value, which may stand once
abbrev pub flag : List ℕ → Rule
flag name = record (new_rule name) { long = Some name; action = Some SetTrue }

-- an option with a value, which has to stand once
abbrev pub wanted : List ℕ → Rule
wanted name = record (new_rule name) { long = Some name; action = Some Set; value_names = 1; required = true }

-- an option with a value, which may stand once
abbrev pub optional : List ℕ → Rule
optional name = record (new_rule name) { long = Some name; action = Some Set; value_names = 1 }

-- the words that are no options, as many as there are
abbrev pub words_beside : List ℕ → Rule
words_beside name = record (new_rule name) { action = Some Append; value_names = 1 }

-- a command with these options
abbrev pub command : List ℕ → List Rule → Shape
command name rules = record (new_app name).top { rules = rules }

abbrev pub net : Shape
net = command (codes "net") (flag (codes "summary") ∷ flag (codes "explain") ∷ optional (codes "threads") ∷ [])

abbrev pub serve : Shape
serve = command (codes "serve")
    (optional (codes "id") ∷ wanted (codes "listen") ∷ flag (codes "log") ∷ flag (codes "rules") ∷ flag (codes "explain") ∷ flag (codes "admin") ∷ words_beside (codes "dial") ∷ [])

abbrev pub make : Shape
make = command (codes "make")
    (wanted (codes "number") ∷ wanted (codes "routers") ∷ wanted (codes "clients") ∷ wanted (codes "messages") ∷ [])

-- the program: its words begin with no name of its own, it has a version, and wants a command
abbrev pub top : Shape
top = record (new_app (codes "zrd")).top { is_leaf = false; no_binary_name = true; has_version = true; subcommand_required = true }

unfoldable pub app : App
app = record { top = top; subs = net ∷ serve ∷ make ∷ [] }
