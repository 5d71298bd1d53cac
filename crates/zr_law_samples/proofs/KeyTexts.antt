-- The keys of accepted acts are texts of expressions: a line's command has what its KEY word was read as, by cases on the command's
-- name, and a run's steps have no key.
use Rattle.std.proofs.Common.{◌≡◌, ℕ, zero, suc, Bool, true, false, cond, List, [], ◌∷◌, ◌++◌, ◌+◌, map, Option, Some, None, Result, Ok, Err, refl, subst}
use Rattle.std.specs.Prelude.{◌↔◌, IfSome, IfOk, codes}
use Rattle.std.proofs.lemmas.Bool.{and_parts, and_from}
use Rattle.zr_key.specs.Key.{read_key, expression_of, IsKeyText}
use Rattle.zr_key.specs.declared.key.KeyError.{KeyError}
use Rattle.zr_key.proofs.Reading.{Sound-from_read}
use Rattle.zr_match.specs.Table.{texts_meet, texts_cover}
use Rattle.zr_match.specs.Match.{Covers}
use Rattle.zr_match.proofs.Right.{meets_right, covers_right}
use Rattle.zr_node_spec.specs.Queries.{is_complete}
use Rattle.zr_script_spec.specs.declared.error.ScriptError.{ScriptError}
use Rattle.zr_script_spec.specs.declared.command.Act.{Act}
use Rattle.zr_script_spec.specs.declared.command.Act.TheVariants as c
use Rattle.zr_script_spec.specs.declared.command.Command.{Command}
use Rattle.zr_script_spec.specs.declared.command.Command.TheVariants as command
use Rattle.zr_script_spec.specs.Words.{words, is_word, key_of_word, key_at, optional_key_at}
use Rattle.zr_script_spec.specs.Command.{command_of}
use Rattle.zr_script_spec.specs.Step.{◌>>=◌}
use Rattle.zr_world_spec.specs.World.{End, WorldState}
use Rattle.zr_world_spec.specs.Fan.{most_fan_steps}
use Rattle.zr_world_spec.specs.Acts.{outcome}
use Rattle.zr_world_spec.specs.Next.{first_where, can_handle, can_take, step_at, world_after, with_more, run_steps, acts}
use Rattle.zr_world_spec.specs.Run.{Run, start, on_line}
use Rattle.zr_world_spec.specs.Moments.{Numbered}
use Rattle.zr_world_spec.specs.Accepted.{entries, accepted_from}
use Rattle.zr_world_spec.proofs.Asks.{Forms, IfAsked, line_asks}
use Rattle.zr_law_samples.specs.Keys.{HasKeyText, KeysAreTexts, AskingIsMeeting, AnsweringIsMeeting, AnsweringIsCovering}

-- ---- one line

-- what a KEY word is read as is the text of an expression
key_is_text : (word key : List ℕ) → key_at word ≡ Ok key → IsKeyText key
key_is_text word key h = by (read_key word) refl h
  where
    by : (r : Result (List ℕ) KeyError) → read_key word ≡ r → key_of_word r ≡ Ok key → IsKeyText key
    by (Ok t) e k = let same : t ≡ key = cc in subst IsKeyText same (Sound-from_read word t e).key
    by (Err f) e k = absurd (cc)

-- and so is the KEY word of an interest, if it isn't none
optional_text : (word : List ℕ) (o : Option (List ℕ)) → optional_key_at word ≡ Ok o → IfSome o IsKeyText
optional_text word o h = by (is_word word (codes "-")) (key_at word) refl h
  where
    by : (b : Bool) (r : Result (List ℕ) ScriptError) → key_at word ≡ r → cond b (Ok None) (r >>= (λ key. Ok (Some key))) ≡ Ok o → IfSome o IsKeyText
    by true r e k = let none : ◌≡◌ {A = Option (List ℕ)} None o = cc in subst (λ z. IfSome z IsKeyText) none tt
    by false (Ok key) e k = let some : Some key ≡ o = cc in subst (λ z. IfSome z IsKeyText) some (key_is_text word key e)
    by false (Err f) e k = absurd (cc)

-- so with what a line asks
abbrev pub AsksKeyText : Command → Type 0
AsksKeyText (command.Act act) = HasKeyText act
AsksKeyText (command.Run steps) = Unit {0}
AsksKeyText command.Fan = Unit {0}

each_form : (ws : List (List ℕ)) → Forms AsksKeyText ws
each_form ws = record {
  router = λ id. tt;
  client = λ id router. tt;
  link = λ one other weight. tt;
  up = λ router neighbour. tt;
  break = λ router neighbour. tt;
  down = λ router neighbour. tt;
  sub = λ client id word key k. key_is_text word key k;
  unsub = λ client id. tt;
  token = λ client id word key k. key_is_text word key k;
  untoken = λ client id. tt;
  able = λ client id word key complete k. key_is_text word key k;
  unable = λ client id. tt;
  interest = λ client id mode kind kinds word key aggregate e k. optional_text word key k;
  uninterest = λ client id. tt;
  put = λ name w client key e k. key_is_text w.1 key k;
  del = λ client word key k. key_is_text word key k;
  get = λ client number target latest word key k. key_is_text word key k;
  reply = λ name w client number time key e is i t k. key_is_text w.2 key k;
  end = λ client number. tt;
  handle = λ router from. tt;
  take = λ router to. tt;
  run = λ steps. tt;
  fan = tt;
  mark = tt;
  show = λ router. tt;
}

-- ---- all lines

-- each of some acts has such a key
abbrev Texts : List Numbered → Type 0
Texts [] = Unit {0}
Texts (x ∷ xs) = HasKeyText x.1 × Texts xs

steps_text : (line n : ℕ) (w : WorldState) → Texts (map (λ a. (line, a)) (run_steps line n w))
unfolding run_steps
steps_text line zero w = tt
steps_text line (suc n) w = by (first_where can_handle w.ends) (first_where can_take w.ends) (λ step. steps_text line n (world_after w (outcome w line step)))
  where
    by : (sent queued : Option End) → ((step : Act) → Texts (map (λ a. (line, a)) (run_steps line n (world_after w (outcome w line step))))) →
        Texts (map (λ a. (line, a)) (with_more (step_at sent queued) (λ step. run_steps line n (world_after w (outcome w line step)))))
    by (Some e) queued more = (tt, more (c.Handle e.0 e.1))
    by None (Some e) more = (tt, more (c.Take e.0 e.1))
    by None None more = tt

acts_text : (w : WorldState) (line : ℕ) (asked : Command) → AsksKeyText asked → Texts (map (λ a. (line, a)) (acts w line asked))
acts_text w line (command.Act act) h = (h, tt)
acts_text w line (command.Run steps) h = steps_text line steps w
acts_text w line command.Fan h = steps_text line most_fan_steps w

entries_text : (refusal : Option ScriptError) (n : ℕ) (w : WorldState) (asked : Result (Option Command) ScriptError) → IfOk asked (IfAsked AsksKeyText) → Texts (entries refusal n w asked)
entries_text None n w (Ok (Some asked)) h = acts_text w n asked h
entries_text None n w (Ok None) h = tt
entries_text None n w (Err e) h = tt
entries_text (Some f) n w asked h = tt

both_texts : (xs ys : List Numbered) → Texts xs → Texts ys → Texts (xs ++ ys)
both_texts [] ys h k = k
both_texts (x ∷ xs) ys h k = (h.0, both_texts xs ys h.1 k)

lines_text : (r : Run) (ls : List (List ℕ)) → Texts (accepted_from r ls)
lines_text r [] = tt
lines_text r (line ∷ more) =
    both_texts (entries (on_line r line).refusal (r.number + 1) r.world (command_of line)) (accepted_from (on_line r line) more)
    (entries_text (on_line r line).refusal (r.number + 1) r.world (command_of line) (line_asks AsksKeyText line (λ short. each_form (words line)))) (lines_text (on_line r line) more)

within : (before rest : List Numbered) (n : ℕ) (act : Act) → Texts (before ++ (n, act) ∷ rest) → HasKeyText act
within [] rest n act h = h.0
within (x ∷ xs) rest n act h = within xs rest n act h.1

pub keys_are_texts : KeysAreTexts
keys_are_texts ls before rest n act cut = within before rest n act (subst Texts cut (lines_text start ls))

-- ---- what asking means

pub asking_is_meeting : AskingIsMeeting
unfolding texts_meet
asking_is_meeting key subscription d k = meets_right subscription.key key d k

pub answering_is_meeting : AnsweringIsMeeting
unfolding texts_meet
answering_is_meeting key queryable d k = meets_right queryable.key key d k

-- a queryable covers only where it is complete
pub answering_is_covering : AnsweringIsCovering
unfolding texts_cover
answering_is_covering key queryable d k = (λ h. let parts = and_parts (is_complete queryable.kind) (texts_cover queryable.key key) h in (parts.0, right.0 parts.1), λ h. and_from (is_complete queryable.kind) (texts_cover queryable.key key) h.0 (right.1 h.1))
  where
    right : (texts_cover queryable.key key ≡ true) ↔ Covers (expression_of queryable.key) (expression_of key)
    right = covers_right queryable.key key
