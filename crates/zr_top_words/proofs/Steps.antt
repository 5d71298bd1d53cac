-- `clap`'s walk over words, a word at a time, where a word is known to be no option.
use Rattle.std.proofs.Common.{◌≡◌, ◌∙◌, ℕ, Bool, cond, not, true, false, refl, sym, ap, List, [], ◌∷◌, ◌++◌, Some, None, true≢false, append-nil, append_assoc}
use Rattle.std.specs.Prelude.{◌==◌, ◌&&◌, option_and_then}
use Rattle.std.specs.List.{fold}
use Rattle.std.specs.Option.{option_map_or}
use Rattle.std.specs.Str.{bytes_eq}
use Rattle.clap.specs.Lexer.{long_of, long_of_rest, short_of, short_of_rest, strip_byte}
use Rattle.clap.specs.Kinds.{Kinds, or_else}
use Rattle.clap.specs.Walk.{Held, Names, Rule, Step, Text, Waiting, Walk, option, positional, idle, value, after_step, long_or_other, plain_word, short_or_plain, subcommand_or_other, trailing, walk, walk_from, walked, settled, finished, nothing_held}
use Rattle.clap.specs.Simple.{Shape}
use Rattle.clap.specs.Faults.{bundle_fault, check_fault, defaults_fault, flag_word_fault, level_fault, other_fault, settle_fault, step_fault, turn_fault, walk_fault}
use Rattle.zr_top_words.specs.Forms.{is_plain}

-- ---- a word that is no option

dash_fails : (b x : Bool) → not b ≡ true → (b && x) ≡ false
dash_fails true x h = absurd (true≢false (sym h))
dash_fails false x h = refl

no_dashes : (word : Text) → is_plain word ≡ true → bytes_eq word (45 ∷ 45 ∷ []) ≡ false
no_dashes [] p = refl
no_dashes (c ∷ cs) p = dash_fails (c == 45) _ p

no_strip : (word : Text) → is_plain word ≡ true → strip_byte 45 word ≡ None
no_strip [] p = refl
no_strip (c ∷ cs) p = go (c == 45) p
  where
    go : (b : Bool) → not b ≡ true → cond b (Some cs) None ≡ None
    go true h = absurd (true≢false (sym h))
    go false h = refl

no_long : (word : Text) → is_plain word ≡ true → long_of word ≡ None
no_long word p = ap (λ s. option_and_then long_of_rest (option_and_then (strip_byte 45) s)) (no_strip word p)

no_short : (word : Text) → is_plain word ≡ true → short_of word ≡ None
no_short word p = ap (λ s. option_and_then short_of_rest s) (no_strip word p)

-- it is met as a value, or goes to a positional
met_plain : (c : List Rule) (waiting : Waiting) (position : ℕ) (word : Text) (h : Held) → is_plain word ≡ true
    → subcommand_or_other c None waiting position word h ≡ plain_word c waiting word h
met_plain c waiting position word h p =
    ap (λ b. cond b (h, trailing position) (long_or_other c waiting word (long_of word) h)) (no_dashes word p)
    ∙ ap (λ l. long_or_other c waiting word l h) (no_long word p) ∙ ap (λ s. short_or_plain c waiting word s h) (no_short word p)

no_fault : (s : Shape) (word : Text) (h : Held) → is_plain word ≡ true → other_fault s None word h ≡ []
no_fault s word h p =
    ap (λ b. cond b [] (flag_word_fault s.rules s.args_override_self (long_of word) word h)) (no_dashes word p)
    ∙ ap (λ l. flag_word_fault s.rules s.args_override_self l word h) (no_long word p)
    ∙ ap (λ f. option_map_or (λ flags. bundle_fault s.rules s.args_override_self flags h) f []) (no_short word p)

-- ---- the walk

-- a walk of a command without subcommands, between two words
abbrev pub between : Held → Waiting → Walk
between h waiting = record { held = h; waiting = waiting; position = 1; is_trailing = false; stopped = None }

-- the walk goes over the words without a fault, and stands there then
pub record Goes (s : Shape) (w : Walk) (words : List Text) (end : Walk) : Type 0 where
  pub ends : fold (walked s.rules []) w words ≡ end
  pub passes : walk_fault s [] w words ≡ []

pub stays : (s : Shape) (w : Walk) → Goes s w [] w
unfolding walk_fault
stays s w = record { ends = refl; passes = refl }

pub fault_cons : (s : Shape) (names : Names) (w : Walk) (word : Text) (rest : List Text)
    → walk_fault s names w (word ∷ rest) ≡ or_else (turn_fault s names w word) (walk_fault s names (walked s.rules names w word) rest)
unfolding walk_fault
fault_cons s names w word rest = refl

-- a word more at the front
pub goes_on : (s : Shape) (w next : Walk) (word : Text) (rest : List Text) (end : Walk) → walked s.rules [] w word ≡ next → turn_fault s [] w word ≡ []
    → Goes s next rest end → Goes s w (word ∷ rest) end
goes_on s w next word rest end step fine go = record {
  ends = ap (λ x. fold (walked s.rules []) x rest) step ∙ go.ends;
  passes = fault_cons s [] w word rest ∙ ap (λ k. or_else k (walk_fault s [] (walked s.rules [] w word) rest)) fine
      ∙ ap (λ x. walk_fault s [] x rest) step ∙ go.passes;
}

-- the value of an option
pub value_walked : (s : Shape) (h : Held) (id word : Text) → is_plain word ≡ true
    → walked s.rules [] (between h (option id)) word
    ≡ after_step s.rules word (between h (option id)) (plain_word s.rules (option id) word h).0 (plain_word s.rules (option id) word h).1
unfolding walked
value_walked s h id word p =
    ap (λ (met : Held × Step). after_step s.rules word (between h (option id)) met.0 met.1) (met_plain s.rules (option id) 1 word h p)

pub value_passes : (s : Shape) (h : Held) (id word : Text) → is_plain word ≡ true → turn_fault s [] (between h (option id)) word ≡ []
value_passes s h id word p =
    ap (λ k. or_else k (step_fault s 1 (subcommand_or_other s.rules None (option id) 1 word h).0 (subcommand_or_other s.rules None (option id) 1 word h).1)) (no_fault s word h p)
    ∙ ap (λ (met : Held × Step). step_fault s 1 met.0 met.1) (met_plain s.rules (option id) 1 word h p)

-- a word for a positional, where no option waits
pub idle_walked : (s : Shape) (h : Held) (word : Text) → is_plain word ≡ true
    → walked s.rules [] (between h idle) word ≡ after_step s.rules word (between h idle) h value
unfolding walked
idle_walked s h word p = ap (λ (met : Held × Step). after_step s.rules word (between h idle) met.0 met.1) (met_plain s.rules idle 1 word h p)

pub idle_fault : (s : Shape) (h : Held) (word : Text) → is_plain word ≡ true → turn_fault s [] (between h idle) word ≡ step_fault s 1 h value
idle_fault s h word p =
    ap (λ k. or_else k (step_fault s 1 (subcommand_or_other s.rules None idle 1 word h).0 (subcommand_or_other s.rules None idle 1 word h).1)) (no_fault s word h p)
    ∙ ap (λ (met : Held × Step). step_fault s 1 met.0 met.1) (met_plain s.rules idle 1 word h p)

pub more_walked : (s : Shape) (h : Held) (word : Text) → is_plain word ≡ true
    → walked s.rules [] (between h positional) word ≡ after_step s.rules word (between h positional) h value
unfolding walked
more_walked s h word p = ap (λ (met : Held × Step). after_step s.rules word (between h positional) met.0 met.1) (met_plain s.rules positional 1 word h p)

pub more_fault : (s : Shape) (h : Held) (word : Text) → is_plain word ≡ true → turn_fault s [] (between h positional) word ≡ step_fault s 1 h value
more_fault s h word p =
    ap (λ k. or_else k (step_fault s 1 (subcommand_or_other s.rules None positional 1 word h).0 (subcommand_or_other s.rules None positional 1 word h).1)) (no_fault s word h p)
    ∙ ap (λ (met : Held × Step). step_fault s 1 met.0 met.1) (met_plain s.rules positional 1 word h p)

-- ---- a level

-- the faults of what is done behind the words
abbrev pub fault_behind : Shape → Walk → Kinds
fault_behind s end = or_else (settle_fault s.rules s.args_override_self end.held)
    (or_else (defaults_fault (settled s.rules end.held).rows s.rules) (check_fault s (finished s.rules end.held) false))

pub level_passes : (s : Shape) (words : List Text) (end : Walk) → Goes s (walk_from nothing_held) words end → fault_behind s end ≡ []
    → level_fault s [] nothing_held words false [] ≡ []
level_passes s words end go fine =
    ap (λ k. or_else k (fault_behind s (walk s.rules [] nothing_held words))) go.passes ∙ ap (fault_behind s) go.ends ∙ fine

-- ---- the words behind a command

-- the walk has stopped at a command: the words behind it are kept for that
abbrev pub halted : Text → List Text → Walk
halted name words = record { held = nothing_held; waiting = idle; position = 1; is_trailing = false; stopped = Some (name, words) }

pub rest_kept : (c : List Rule) (names : Names) (name : Text) (before rest : List Text)
    → fold (walked c names) (halted name before) rest ≡ halted name (before ++ rest)
unfolding walked
rest_kept c names name before [] = ap (halted name) (sym (append-nil before))
rest_kept c names name before (word ∷ rest) =
    rest_kept c names name (before ++ word ∷ []) rest ∙ ap (halted name) (append_assoc before (word ∷ []) rest)

pub rest_passes : (s : Shape) (names : Names) (name : Text) (before rest : List Text) → walk_fault s names (halted name before) rest ≡ []
unfolding walk_fault walked
rest_passes s names name before [] = refl
rest_passes s names name before (word ∷ rest) = rest_passes s names name (before ++ word ∷ []) rest
