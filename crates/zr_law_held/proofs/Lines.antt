-- The replies of a script's lines (`lines_fit`): what a line replies weighs no more than the line, and is a REPLY.
use Rattle.std.proofs.Common.{◌≡◌, ◌≤◌, ◌+◌, ℕ, Bool, true, false, cond, List, [], ◌∷◌, ◌++◌, length, Option, Some, None, Result, Ok, Err, refl, sym, ap, ◌∙◌, subst, arith}
use Rattle.std.specs.Prelude.{◌&&◌, ◌<◌, ◌^◌, IfOk, codes, nat_lt}
use Rattle.std.specs.List.{cons_option, list_all, sum_by}
use Rattle.std.proofs.lemmas.Bool.{false≢true, and_parts, and_from, ltb-true, ltb-false}
use Rattle.std.proofs.lemmas.List.{length-append}
use Rattle.std.proofs.lemmas.List.Elements.{filter_map-append}
use Rattle.std.proofs.lemmas.List.Sums.{sum_by-cons, sum_by-append}
use Rattle.zr_lists.proofs.Tests.{all_both}
use Rattle.zr_bytes.specs.Number.{writes}
use Rattle.zr_bytes.specs.Text.{writes_text}
use Rattle.zr_body.specs.Latest.{is_reply}
use Rattle.zr_body.specs.Payload.{put_body, del_body}
use Rattle.zr_msg.specs.declared.content.Parts.{Parts}
use Rattle.zr_pend_spec.specs.Held.{reply_weight}
use Rattle.zr_script_spec.specs.declared.error.ScriptError.{ScriptError}
use Rattle.zr_script_spec.specs.declared.error.ScriptError.TheVariants.{BadWords}
use Rattle.zr_script_spec.specs.declared.command.Act.{Act}
use Rattle.zr_script_spec.specs.declared.command.Act.TheVariants as a
use Rattle.zr_script_spec.specs.declared.command.Command.{Command}
use Rattle.zr_script_spec.specs.declared.command.Command.TheVariants as c
use Rattle.zr_script_spec.specs.Step.{◌>>=◌}
use Rattle.zr_script_spec.specs.Lines.{most_line}
use Rattle.zr_script_spec.specs.Words.{words, is_word, zid_at, is_number, value_of, number_at, time_at, key_at, payload_at}
use Rattle.zr_script_spec.specs.Command.{plain, asking_body, answer_body, command_of}
use Rattle.zr_world_spec.specs.World.{WorldState}
use Rattle.zr_world_spec.specs.Moments.{Numbered, is_step}
use Rattle.zr_world_spec.specs.Fan.{most_fan_steps}
use Rattle.zr_world_spec.specs.Next.{run_steps, acts}
use Rattle.zr_world_spec.specs.Run.{Run, start, on_line}
use Rattle.zr_world_spec.specs.Accepted.{entries, accepted_from}
use Rattle.zr_world_spec.proofs.Asks.{FourWords, Forms, IfAsked, line_asks}
use Rattle.zr_world_spec.proofs.Lines.{numbered, all_steps}
use Rattle.zr_guarantee.specs.Queries.{saying_in, sayings}
use Rattle.zr_guarantee.specs.Latest.{saying_weight, reply_bodies}
use Rattle.zr_law_held.specs.Lines.{LinesFit}
use Rattle.zr_law_carried.proofs.Words.{key_word, with_end, words_fit, zid_word}
use Rattle.zr_law_held.proofs.Words.{word_length, zid_length, key_length, small_number, short_number, number_of_time}

-- ---- what acts say

-- some acts reply no more than so much, and nothing but REPLYs
pub record Fits (n : ℕ) (xs : List Numbered) : Type 0 where
  pub light : sum_by saying_weight (sayings xs) ≤ n
  pub bodies : list_all reply_bodies (sayings xs) ≡ true

both_fit : (n m : ℕ) (xs ys : List Numbered) → Fits n xs → Fits m ys → Fits (n + m) (xs ++ ys)
both_fit n m xs ys f g =
    let cut : sayings (xs ++ ys) ≡ sayings xs ++ sayings ys = filter_map-append (λ (x : Numbered). saying_in x.0 x.1) xs ys in
    record {
      light = omega (arith, ap (sum_by saying_weight) cut, sum_by-append saying_weight (sayings xs) (sayings ys), f.light, g.light);
      bodies = ap (list_all reply_bodies) cut ∙ all_both reply_bodies (sayings xs) (sayings ys) f.bodies g.bodies;
    }

nothing_fits : (n : ℕ) → Fits n []
nothing_fits n = record { light = omega arith; bodies = refl }

-- a step says nothing
step_says : (number : ℕ) (act : Act) → is_step act ≡ true → saying_in number act ≡ None
step_says number (a.Router id) e = absurd (false≢true e)
step_says number (a.Client id router) e = absurd (false≢true e)
step_says number (a.Link one other weight) e = absurd (false≢true e)
step_says number (a.Up router neighbour) e = absurd (false≢true e)
step_says number (a.Break router neighbour) e = absurd (false≢true e)
step_says number (a.Down router neighbour) e = absurd (false≢true e)
step_says number (a.Sub client id key) e = absurd (false≢true e)
step_says number (a.Unsub client id) e = absurd (false≢true e)
step_says number (a.Token client id key) e = absurd (false≢true e)
step_says number (a.Untoken client id) e = absurd (false≢true e)
step_says number (a.Able client id key complete) e = absurd (false≢true e)
step_says number (a.Unable client id) e = absurd (false≢true e)
step_says number (a.Interest client id mode kinds key aggregate) e = absurd (false≢true e)
step_says number (a.Uninterest client id) e = absurd (false≢true e)
step_says number (a.Publish client content) e = absurd (false≢true e)
step_says number (a.Get client n target content) e = absurd (false≢true e)
step_says number (a.Reply client n content) e = absurd (false≢true e)
step_says number (a.End client n) e = absurd (false≢true e)
step_says number (a.Handle router from) e = refl
step_says number (a.Take router to) e = refl
step_says number a.Mark e = absurd (false≢true e)
step_says number (a.Show router) e = absurd (false≢true e)

steps_say : (number : ℕ) (xs : List Act) → list_all is_step xs ≡ true → sayings (numbered number xs) ≡ []
steps_say number [] e = refl
steps_say number (x ∷ xs) e =
    let parts = and_parts (is_step x) (list_all is_step xs) e in
    (λ i. cons_option (step_says number x parts.0 i) (sayings (numbered number xs))) ∙ steps_say number xs parts.1

-- ---- commands

-- whatever a command does, it fits
abbrev CommandFits : ℕ → Command → Type 0
CommandFits n asked = (w : WorldState) (number : ℕ) → Fits n (numbered number (acts w number asked))

module _ (n : ℕ) where
  -- commands that reply nothing
  quiet : (act : Act) → ((number : ℕ) → saying_in number act ≡ None) → CommandFits n (c.Act act)
  quiet act none w number =
      let nothing : sayings ((number, act) ∷ []) ≡ [] = λ i. cons_option (none number i) [] in
      record { light = omega (arith, ap (sum_by saying_weight) nothing); bodies = ap (list_all reply_bodies) nothing }

  run_fits : (steps : ℕ) → CommandFits n (c.Run steps)
  run_fits steps w number =
      let nothing : sayings (numbered number (run_steps number steps w)) ≡ [] = steps_say number (run_steps number steps w) (all_steps number steps w) in
      record { light = omega (arith, ap (sum_by saying_weight) nothing); bodies = ap (list_all reply_bodies) nothing }

  fan_fits : CommandFits n c.Fan
  fan_fits w = run_fits most_fan_steps w

  end_fits : (client : List ℕ) (number : ℕ) → CommandFits n (c.Act (a.End client number))
  end_fits client number w line = record { light = omega arith; bodies = refl }

-- ---- a reply

-- a time is a number of 32 bits
abbrev IsSmall : Option ℕ → Type 0
IsSmall None = Unit {0}
IsSmall (Some time) = time < 2 ^ 32

number_small : (word : List ℕ) (number : ℕ) → number_at word ≡ Ok number → number < 2 ^ 32
number_small word number e = by (is_number word && nat_lt (value_of word) (2 ^ 32)) refl e
  where
    by : (t : Bool) → (is_number word && nat_lt (value_of word) (2 ^ 32)) ≡ t → cond t (Ok (value_of word)) (Err BadWords) ≡ Ok number → number < 2 ^ 32
    by true f k =
        let same : value_of word ≡ number = cc in
        let less : value_of word < 2 ^ 32 = ltb-true (value_of word) (2 ^ 32) (and_parts (is_number word) (nat_lt (value_of word) (2 ^ 32)) f).1 in
        subst (λ z. z < 2 ^ 32) same less
    by false f k = absurd (cc)

time_small : (behind : List (List ℕ)) (o : Option ℕ) → time_at behind ≡ Ok o → IsSmall o
time_small [] o e = let same : None ≡ o = cc in subst IsSmall same tt
time_small (word ∷ []) o e = by (number_at word) refl e
  where
    by : (r : Result ℕ ScriptError) → number_at word ≡ r → (r >>= (λ time. Ok (Some time))) ≡ Ok o → IsSmall o
    by (Ok time) f k = let same : Some time ≡ o = cc in subst IsSmall same (number_small word time f)
    by (Err x) f k = absurd (cc)
time_small (v ∷ w ∷ more) o e = absurd (cc)

payload_length : (word : List ℕ) → length (payload_at word) ≤ length word
payload_length word = by (is_word word (codes "-"))
  where
    by : (t : Bool) → length (cond t [] word) ≤ length word
    by true = omega arith
    by false = omega arith

-- what stands in a body beside the payload is short
body_length : (time : Option ℕ) (clock payload : List ℕ) → IsSmall time → length clock ≤ 16 → length payload ≤ 4096 → length (answer_body time clock payload) ≤ length clock + length payload + 10
body_length None clock payload small short some =
    omega (arith, length-append (writes (length payload)) payload, short_number (length payload) (omega (arith, some)))
body_length (Some time) clock payload small short some = omega (
  arith,
  length-append (writes time ++ writes_text clock) (writes_text payload),
  length-append (writes time) (writes_text clock),
  length-append (writes (length clock)) clock,
  length-append (writes (length payload)) payload,
  number_of_time time small,
  small_number (length clock) (omega (arith, short)),
  short_number (length payload) (omega (arith, some)),
)

is_a_reply : (time : Option ℕ) (clock payload : List ℕ) → is_reply (answer_body time clock payload) ≡ true
is_a_reply None clock payload = refl
is_a_reply (Some time) clock payload = refl

-- one reply
one_fits : (n : ℕ) (client : List ℕ) (number : ℕ) (content : Parts) → reply_weight content ≤ n → is_reply content.body ≡ true → CommandFits n (c.Act (a.Reply client number content))
one_fits n client number content light body w line = record {
  light = omega (arith, sum_by-cons saying_weight (record { line = line; client = client; number = number; reply = Some content }) [], light);
  bodies = and_from (is_reply content.body) true body refl;
}

module _ (n : ℕ) (short : n ≤ most_line) where
  reply_fits : (ws : List (List ℕ)) → sum_by with_end ws ≤ n + 1 → (name : List ℕ) (w : FourWords) (client : List ℕ) (number : ℕ) (time : Option ℕ) (key : List ℕ) → ws ≡ name ∷ w.0 ∷ w.1 ∷ w.2 ∷ w.3 ∷ w.4 →
      is_word name (codes "reply") ≡ true → zid_at w.0 ≡ Ok client → time_at w.4 ≡ Ok time → key_at w.2 ≡ Ok key →
      CommandFits n (c.Act (a.Reply client number (plain key (answer_body time client (payload_at w.3)))))
  reply_fits ws fits name w client number time key are is zid timed keyed =
      let cut : sum_by with_end (name ∷ w.0 ∷ w.1 ∷ w.2 ∷ w.3 ∷ w.4) ≤ n + 1 = omega (arith, fits, ap (sum_by with_end) are) in
      let c0 = sum_by-cons with_end name (w.0 ∷ w.1 ∷ w.2 ∷ w.3 ∷ w.4) in
      let c1 = sum_by-cons with_end w.0 (w.1 ∷ w.2 ∷ w.3 ∷ w.4) in
      let c2 = sum_by-cons with_end w.1 (w.2 ∷ w.3 ∷ w.4) in
      let c3 = sum_by-cons with_end w.2 (w.3 ∷ w.4) in
      let c4 = sum_by-cons with_end w.3 w.4 in
      let five : length name ≡ 5 = word_length name (codes "reply") is in
      let own = zid_length w.0 client (zid_word w.0 client zid) in
      let payload = payload_length w.3 in
      let most : length (payload_at w.3) ≤ 4096 = omega (arith, cut, c0, c1, c2, c3, c4, payload, short) in
      one_fits n client number (plain key (answer_body time client (payload_at w.3)))
      (omega (arith, cut, c0, c1, c2, c3, c4, five, own.0, own.1, payload, key_length w.2 key (key_word w.2 key keyed), body_length time client (payload_at w.3) (time_small w.4 time timed) own.2 most))
      (is_a_reply time client (payload_at w.3))

  each_form : (ws : List (List ℕ)) → sum_by with_end ws ≤ n + 1 → Forms (CommandFits n) ws
  each_form ws fits = record {
    router = λ id. quiet n (a.Router id) (λ m. refl);
    client = λ id router. quiet n (a.Client id router) (λ m. refl);
    link = λ one other weight. quiet n (a.Link one other weight) (λ m. refl);
    up = λ router neighbour. quiet n (a.Up router neighbour) (λ m. refl);
    break = λ router neighbour. quiet n (a.Break router neighbour) (λ m. refl);
    down = λ router neighbour. quiet n (a.Down router neighbour) (λ m. refl);
    sub = λ client id word key k. quiet n (a.Sub client id key) (λ m. refl);
    unsub = λ client id. quiet n (a.Unsub client id) (λ m. refl);
    token = λ client id word key k. quiet n (a.Token client id key) (λ m. refl);
    untoken = λ client id. quiet n (a.Untoken client id) (λ m. refl);
    able = λ client id word key complete k. quiet n (a.Able client id key complete) (λ m. refl);
    unable = λ client id. quiet n (a.Unable client id) (λ m. refl);
    interest = λ client id mode kind kinds word key aggregate e k. quiet n (a.Interest client id mode kinds key aggregate) (λ m. refl);
    uninterest = λ client id. quiet n (a.Uninterest client id) (λ m. refl);
    put = λ name w client key e k. quiet n (a.Publish client (plain key (put_body (payload_at w.2)))) (λ m. refl);
    del = λ client word key k. quiet n (a.Publish client (plain key del_body)) (λ m. refl);
    get = λ client number target latest word key k. quiet n (a.Get client number target (plain key (asking_body latest))) (λ m. refl);
    reply = reply_fits ws fits;
    end = λ client number. end_fits n client number;
    handle = λ router from. quiet n (a.Handle router from) (λ m. refl);
    take = λ router to. quiet n (a.Take router to) (λ m. refl);
    run = λ steps. run_fits n steps;
    fan = fan_fits n;
    mark = quiet n a.Mark (λ m. refl);
    show = λ router. quiet n (a.Show router) (λ m. refl);
  }

-- ---- all lines

entries_fit : (o : Option ScriptError) (number : ℕ) (w : WorldState) (line : List ℕ) → Fits (length line) (entries o number w (command_of line))
entries_fit o number w line =
    by o (command_of line) (line_asks (CommandFits (length line)) line (λ short. each_form (length line) (ltb-false most_line (length line) short) (words line) (words_fit line)))
  where
    by : (o : Option ScriptError) (r : Result (Option Command) ScriptError) → IfOk r (IfAsked (CommandFits (length line))) → Fits (length line) (entries o number w r)
    by None (Ok (Some asked)) h = h w number
    by None (Ok None) h = nothing_fits (length line)
    by None (Err e) h = nothing_fits (length line)
    by (Some e) r h = nothing_fits (length line)

all_fit : (ls : List (List ℕ)) (r : Run) → Fits (sum_by length ls) (accepted_from r ls)
all_fit [] r = nothing_fits 0
all_fit (l ∷ ls) r =
    let its : List Numbered = entries (on_line r l).refusal (r.number + 1) r.world (command_of l) in
    subst (λ n. Fits n (its ++ accepted_from (on_line r l) ls)) (sym (sum_by-cons length l ls))
    (both_fit (length l) (sum_by length ls) its (accepted_from (on_line r l) ls) (entries_fit (on_line r l).refusal (r.number + 1) r.world l) (all_fit ls (on_line r l)))

pub lines_fit : LinesFit
lines_fit ls short = let f = all_fit ls start in record { bodies = f.bodies; light = omega (arith, f.light, short) }
