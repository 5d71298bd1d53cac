-- `clap` enters a command at its name, and reads the words behind it.
use Rattle.std.proofs.Common.{◌≡◌, ◌∙◌, false, ap, List, [], ◌∷◌, Option, Some}
use Rattle.std.specs.Prelude.{is_some, option_and_then}
use Rattle.std.specs.List.{find, fold}
use Rattle.std.specs.Option.{option_map, option_map_or}
use Rattle.clap.specs.Kinds.{Kinds, or_else}
use Rattle.clap.specs.Walk.{Names, Text, Walk, answers_to, finished, nothing_held, settled, walk, walk_from, walked}
use Rattle.clap.specs.Simple.{App, Shape, built, entered, label_of, names_of, rows_at}
use Rattle.clap.specs.Faults.{check_fault, defaults_fault, entered_fault, level_fault, settle_fault, turn_fault, walk_fault}
use Rattle.zr_top_words.specs.App.{app}
use Rattle.zr_top_words.specs.Asked.{asked_by, asked_of, faults, found, unless_fault}
use Rattle.zr_top_words.proofs.Steps.{Goes, fault_behind, fault_cons, halted, level_passes, rest_kept, rest_passes}

-- the program as it is built, and the names of its commands
abbrev pub whole : App
whole = built app

abbrev pub names : Names
names = names_of whole

-- the walk halts at the word: it is the name of a command
pub record Enters (word name : Text) (s : Shape) : Type 0 where
  pub halts : walked whole.top.rules names (walk_from nothing_held) word ≡ halted name []
  pub passes : turn_fault whole.top names (walk_from nothing_held) word ≡ []
  pub names_it : find (λ s. answers_to name (label_of s)) whole.subs ≡ Some s

-- the faults of what is done behind the walk of the program's own words, which has come so far
abbrev after_top : Walk → Kinds
after_top w = or_else (entered_fault whole w.stopped) (or_else (settle_fault whole.top.rules whole.top.args_override_self w.held)
    (or_else (defaults_fault (settled whole.top.rules w.held).rows whole.top.rules)
    (check_fault whole.top (finished whole.top.rules w.held) (is_some (entered whole w.stopped)))))

walk_halts : (word name : Text) (s : Shape) (rest : List Text) → Enters word name s → walk whole.top.rules names nothing_held (word ∷ rest) ≡ halted name rest
walk_halts word name s rest e = ap (λ w. fold (walked whole.top.rules names) w rest) e.halts ∙ rest_kept whole.top.rules names name [] rest

module _ (word name : Text) (s : Shape) (rest : List Text) (e : Enters word name s) where
  own_passes : walk_fault whole.top names (walk_from nothing_held) (word ∷ rest) ≡ []
  own_passes =
      fault_cons whole.top names (walk_from nothing_held) word rest
      ∙ ap (λ k. or_else k (walk_fault whole.top names (walked whole.top.rules names (walk_from nothing_held) word) rest)) e.passes
      ∙ ap (λ w. walk_fault whole.top names w rest) e.halts ∙ rest_passes whole.top names name [] rest

  -- what is done behind the halt, by the command that was found
  abbrev behind : Option Shape → Kinds
  behind o = or_else (option_map_or (λ (x : Shape). level_fault x [] nothing_held rest false []) o [])
      (or_else (settle_fault whole.top.rules whole.top.args_override_self nothing_held)
      (or_else (defaults_fault (settled whole.top.rules nothing_held).rows whole.top.rules)
      (check_fault whole.top (finished whole.top.rules nothing_held) (is_some (option_map (λ (x : Shape). rows_at x rest) o)))))

  passes_behind : level_fault s [] nothing_held rest false [] ≡ [] → behind (Some s) ≡ []
  unfolding app defaults_fault
  passes_behind fine = ap (λ k. or_else k []) fine

  no_faults : level_fault s [] nothing_held rest false [] ≡ [] → faults (word ∷ rest) ≡ []
  unfolding app faults
  no_faults fine =
      ap (λ k. or_else k (after_top (walk whole.top.rules names nothing_held (word ∷ rest)))) own_passes
      ∙ ap after_top (walk_halts word name s rest e) ∙ ap behind e.names_it ∙ passes_behind fine

  found_is : found (word ∷ rest) ≡ Some (rows_at s rest)
  unfolding app found
  found_is =
      ap (λ (w : Walk). entered whole w.stopped) (walk_halts word name s rest e)
      ∙ ap (λ o. option_map (λ (x : Shape). rows_at x rest) o) e.names_it

  -- the words ask for what was found of the command's options
  pub asked_is : (end : Walk) → Goes s (walk_from nothing_held) rest end → fault_behind s end ≡ []
      → asked_of (word ∷ rest) ≡ asked_by (s.name, finished s.rules end.held)
  unfolding asked_of
  asked_is end go fine =
      ap (λ (k : Kinds). unless_fault k (option_and_then asked_by (found (word ∷ rest)))) (no_faults (level_passes s rest end go fine))
      ∙ ap (option_and_then asked_by) found_is ∙ ap (λ (w : Walk). asked_by (s.name, finished s.rules w.held)) go.ends
