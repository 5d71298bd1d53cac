-- What the words ask of a script, and of the input.
use Rattle.std.specs.Prelude.{ℕ, Bool, false, ◌||◌, List, is_some}
use Rattle.std.specs.Option.{option_map_or}
use Rattle.zr_netrun.specs.declared.options.NetOptions.{NetOptions}
use Rattle.zr_top_words.specs.Asked.{Served, net_of, served_of}
use Rattle.zr_top_words.specs.declared.plan.NetPlan.{NetPlan}

-- what is asked for beside a script
abbrev pub options_by : NetPlan → NetOptions
options_by plan = record { summary = plan.summary; explain = plan.explain }

-- whether the words are those of `net`
abbrev pub is_net : List (List ℕ) → Bool
is_net words = is_some (net_of words)

-- whether the words are those of `serve` with `--rules`
abbrev pub asks_rules : List (List ℕ) → Bool
asks_rules words = option_map_or (λ (s : Served). s.rules) (served_of words) false

-- whether the input is read
abbrev pub reads_input : List (List ℕ) → Bool
reads_input words = is_net words || asks_rules words
