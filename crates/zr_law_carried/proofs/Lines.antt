-- What a line asks for may be carried (`line_act_fits`): its bodies are of their kinds, and short since the line is.
use Rattle.std.proofs.Common.{◌≡◌, ℕ, ◌+◌, ◌<◌, ◌≤◌, Bool, true, false, cond, List, [], ◌∷◌, ◌++◌, length, Option, Some, None, Result, Ok, Err, refl, sym, ap, ◌∙◌, subst, arith, append-nil}
use Rattle.std.specs.Prelude.{◌||◌, ◌^◌, IfOk, codes, bit_or}
use Rattle.std.specs.List.{sum_by}
use Rattle.std.proofs.lemmas.Bool.{ltb-false}
use Rattle.std.proofs.lemmas.List.{length-append}
use Rattle.std.proofs.lemmas.List.Sums.{sum_by-cons}
use Rattle.zr_bytes.specs.Number.{writes}
use Rattle.zr_bytes.specs.Text.{writes_text}
use Rattle.zr_bytes.proofs.Numbers.{written_long}
use Rattle.zr_body.specs.declared.place.Place.{Place}
use Rattle.zr_body.specs.declared.place.Place.TheVariants as place
use Rattle.zr_body.specs.Body.{IsBodyIn, body_format}
use Rattle.zr_body.specs.Payload.{put_body, del_body}
use Rattle.zr_body.specs.Reading.{body_of, payload_in}
use Rattle.zr_body.proofs.Bodies.{follows_body, follows_body_format}
use Rattle.zr_body.proofs.Payloads.{put_read, del_read}
use Rattle.zr_id.specs.Zid.{is_zid}
use Rattle.zr_msg.specs.declared.msg.Kinds.{Kinds}
use Rattle.zr_msg.specs.declared.msg.TheConstants.{SUBSCRIBERS, QUERYABLES, TOKENS}
use Rattle.zr_msg.specs.declared.msg.Msg.TheVariants as m
use Rattle.zr_msg.specs.declared.msg.Target.{Target}
use Rattle.zr_msg.specs.declared.msg.Target.TheVariants.{Best, All, Complete}
use Rattle.zr_msg.specs.Extras.{no_extras}
use Rattle.zr_net.specs.Writing as net
use Rattle.zr_script_spec.specs.declared.command.Act.TheVariants as a
use Rattle.zr_script_spec.specs.declared.command.Command.{Command}
use Rattle.zr_script_spec.specs.declared.command.Command.TheVariants as c
use Rattle.zr_script_spec.specs.declared.command.Mode.{Mode}
use Rattle.zr_script_spec.specs.declared.command.Mode.TheVariants.{Now, Later, Both}
use Rattle.zr_script_spec.specs.declared.error.ScriptError.{ScriptError}
use Rattle.zr_script_spec.specs.declared.error.ScriptError.TheVariants.{BadWords}
use Rattle.zr_script_spec.specs.Command.{answer_body, asking_body, latest_body, plain, query_body, reply_body, timed_body}
use Rattle.zr_script_spec.specs.Lines.{most_line}
use Rattle.zr_script_spec.specs.Mode.{is_current, is_future}
use Rattle.zr_script_spec.specs.Words.{is_word, kinds_at, payload_at, words}
use Rattle.zr_script.proofs.Bodies.{latest_read, query_read, reply_read, timed_read}
use Rattle.zr_world_spec.proofs.Asks.{FourWords, Forms, IfAsked, ThreeWords, line_asks}
use Rattle.zr_law_sent.proofs.Lengths.{text_long, zid_short}
use Rattle.zr_law_calls.specs.Fitting.{IsFit}
use Rattle.zr_law_carried.specs.Lines.{LineActsFit}
use Rattle.zr_law_carried.proofs.Words.{with_end, words_fit, zid_named, zid_word}

-- ---- bodies

-- a body that is read to its end, by its payload or as it stands
payload_is_body : (at : Place) (body x : List ℕ) → payload_in at body ≡ Ok (x, []) → IsBodyIn at body
payload_is_body at body x e =
    let begins = ((follows_body_format at).found body [] x e).0 in
    (x, subst ((body_format at).spelled x) (sym (begins.2 ∙ append-nil begins.0)) begins.1)

whole_is_body : (at : Place) (body : List ℕ) → body_of at body ≡ Ok (body, []) → IsBodyIn at body
whole_is_body at body e =
    let begins = ((follows_body at).found body [] body e).0 in
    subst (IsBodyIn at) (sym (begins.2 ∙ append-nil begins.0)) begins.1.1

asking_is_body : (latest : Bool) → IsBodyIn place.Request (asking_body latest)
asking_is_body true = whole_is_body place.Request latest_body latest_read
asking_is_body false = whole_is_body place.Request query_body query_read

answer_is_body : (time : Option ℕ) (clock payload : List ℕ) → is_zid clock ≡ true → length payload < 2 ^ 32 → IsBodyIn place.Response (answer_body time clock payload)
answer_is_body None clock payload named small = whole_is_body place.Response (reply_body payload) (reply_read payload small)
answer_is_body (Some time) clock payload named small = whole_is_body place.Response (timed_body time clock payload) (timed_read time clock payload named small)

-- ---- lengths

payload_long : (word : List ℕ) → length (payload_at word) ≤ length word
payload_long word = by (is_word word (codes "-"))
  where
    by : (t : Bool) → length (cond t [] word) ≤ length word
    by true = omega arith
    by false = omega arith

asking_long : (latest : Bool) → length (asking_body latest) ≤ 2
asking_long true = omega arith
asking_long false = omega arith

answer_long : (time : Option ℕ) (clock payload : List ℕ) → length clock ≤ 16 → length (answer_body time clock payload) ≤ length payload + 50
answer_long None clock payload short = omega (arith, text_long payload)
answer_long (Some time) clock payload short = omega (
  arith,
  length-append (writes time ++ writes_text clock) (writes_text payload),
  length-append (writes time) (writes_text clock),
  written_long 8 time,
  text_long clock,
  text_long payload,
  short,
)

-- ---- what is asked for

abbrev AsksFit : Command → Type 0
AsksFit (c.Act act) = IsFit act
AsksFit (c.Run steps) = Unit {0}
AsksFit c.Fan = Unit {0}

-- nothing stands beside key and body
push_fits : net.Fits (m.Push None (plain [] []))
push_fits = (record { marks = refl; stamp = tt; responder = tt }, refl, refl, refl)

put_fits : (client key payload : List ℕ) → length payload ≤ 4096 → AsksFit (c.Act (a.Publish client (plain key (put_body payload))))
put_fits client key payload short =
    let body = payload_is_body place.Push (put_body payload) payload (put_read payload (omega (arith, short))) in
    (refl, (push_fits, body, omega (arith, text_long payload, short)))

del_fits : (client key : List ℕ) → AsksFit (c.Act (a.Publish client (plain key del_body)))
del_fits client key = (refl, (push_fits, payload_is_body place.Push del_body [] del_read, omega arith))

get_fits : (client : List ℕ) (number : ℕ) (target : Target) (latest : Bool) (key : List ℕ) → AsksFit (c.Act (a.Get client number target (plain key (asking_body latest))))
get_fits client number target latest key = (refl, ((by target, refl), asking_is_body latest, omega (arith, asking_long latest)))
  where
    by : (target : Target) → net.ExtrasFit no_extras target
    by Best = record { marks = refl; stamp = tt; responder = tt }
    by All = record { marks = refl; stamp = tt; responder = tt }
    by Complete = record { marks = refl; stamp = tt; responder = tt }

reply_fits : (client : List ℕ) (number : ℕ) (time : Option ℕ) (key payload : List ℕ) → is_zid client ≡ true → length payload ≤ 4096 →
    AsksFit (c.Act (a.Reply client number (plain key (answer_body time client payload))))
reply_fits client number time key payload named short =
    let body = answer_is_body time client payload named (omega (arith, short)) in
    (refl, ((record { marks = refl; stamp = tt; responder = tt }, refl, refl), body, omega (arith, answer_long time client payload (zid_short client named), short)))

-- kinds that a word asks for are such
abbrev kinds_of : (sub able all token : Bool) → Result Kinds ScriptError
kinds_of sub able all token =
    cond sub (Ok (record { 0 = SUBSCRIBERS })) (cond able (Ok (record { 0 = QUERYABLES })) (cond all (Ok (record { 0 = bit_or SUBSCRIBERS QUERYABLES })) (cond token (Ok (record { 0 = TOKENS })) (Err BadWords))))

kinds_few : (sub able all token : Bool) → IfOk (kinds_of sub able all token) (λ k. k.0 < 16)
kinds_few true able all token = omega arith
kinds_few false true all token = omega arith
kinds_few false false true token = omega arith
kinds_few false false false true = omega arith
kinds_few false false false false = tt

-- an interest is in them, and in what is declared now or later
interest_fits : (client : List ℕ) (id : ℕ) (mode : Mode) (kind : List ℕ) (kinds : Kinds) (key : Option (List ℕ)) (aggregate : Bool) → kinds_at kind ≡ Ok kinds →
    AsksFit (c.Act (a.Interest client id mode kinds key aggregate))
interest_fits client id mode kind kinds key aggregate e =
    let few : IfOk (kinds_at kind) (λ k. k.0 < 16) = kinds_few (is_word kind (codes "sub")) (is_word kind (codes "able")) (is_word kind (codes "all")) (is_word kind (codes "token")) in
    (refl, (subst (λ (r : Result Kinds ScriptError). IfOk r (λ k. k.0 < 16)) e few, sometimes mode))
  where
    sometimes : (mode : Mode) → (is_current mode || is_future mode) ≡ true
    sometimes Now = refl
    sometimes Later = refl
    sometimes Both = refl

-- a word of a short line is short
module _ (n : ℕ) (short : n ≤ most_line) where
  third_short : (ws : List (List ℕ)) → sum_by with_end ws ≤ n + 1 → (name : List ℕ) (w : ThreeWords) → ws ≡ name ∷ w.0 ∷ w.1 ∷ w.2 ∷ [] → length (payload_at w.2) ≤ 4096
  third_short ws fits name w are =
      let cut : sum_by with_end (name ∷ w.0 ∷ w.1 ∷ w.2 ∷ []) ≤ n + 1 = omega (arith, fits, ap (sum_by with_end) are) in
      let c0 = sum_by-cons with_end name (w.0 ∷ w.1 ∷ w.2 ∷ []) in
      let c1 = sum_by-cons with_end w.0 (w.1 ∷ w.2 ∷ []) in
      let c2 = sum_by-cons with_end w.1 (w.2 ∷ []) in
      let c3 = sum_by-cons with_end w.2 [] in
      omega (arith, cut, c0, c1, c2, c3, payload_long w.2, short)

  fourth_short : (ws : List (List ℕ)) → sum_by with_end ws ≤ n + 1 → (name : List ℕ) (w : FourWords) → ws ≡ name ∷ w.0 ∷ w.1 ∷ w.2 ∷ w.3 ∷ w.4 → length (payload_at w.3) ≤ 4096
  fourth_short ws fits name w are =
      let cut : sum_by with_end (name ∷ w.0 ∷ w.1 ∷ w.2 ∷ w.3 ∷ w.4) ≤ n + 1 = omega (arith, fits, ap (sum_by with_end) are) in
      let c0 = sum_by-cons with_end name (w.0 ∷ w.1 ∷ w.2 ∷ w.3 ∷ w.4) in
      let c1 = sum_by-cons with_end w.0 (w.1 ∷ w.2 ∷ w.3 ∷ w.4) in
      let c2 = sum_by-cons with_end w.1 (w.2 ∷ w.3 ∷ w.4) in
      let c3 = sum_by-cons with_end w.2 (w.3 ∷ w.4) in
      let c4 = sum_by-cons with_end w.3 w.4 in
      omega (arith, cut, c0, c1, c2, c3, c4, payload_long w.3, short)

  each_form : (ws : List (List ℕ)) → sum_by with_end ws ≤ n + 1 → Forms AsksFit ws
  each_form ws fits = record {
    router = λ id. tt;
    client = λ id router. tt;
    link = λ one other weight. tt;
    up = λ router neighbour. tt;
    break = λ router neighbour. tt;
    down = λ router neighbour. tt;
    sub = λ client id word key k. (refl, tt);
    unsub = λ client id. (refl, tt);
    able = λ client id word key complete k. (refl, tt);
    unable = λ client id. (refl, tt);
    token = λ client id word key k. (refl, tt);
    untoken = λ client id. (refl, tt);
    interest = λ client id mode kind kinds word key aggregate e k. interest_fits client id mode kind kinds key aggregate e;
    uninterest = λ client id. (refl, tt);
    put = λ name w client key are k. put_fits client key (payload_at w.2) (third_short ws fits name w are);
    del = λ client word key k. del_fits client key;
    get = λ client number target latest word key k. get_fits client number target latest key;
    reply = λ name w client number time key are is zid timed keyed.
        reply_fits client number time key (payload_at w.3) (zid_named w.0 client (zid_word w.0 client zid)).1 (fourth_short ws fits name w are);
    end = λ client number. (refl, (push_fits, omega arith));
    handle = λ router from. tt;
    take = λ router to. tt;
    run = λ steps. tt;
    fan = tt;
    mark = tt;
    show = λ router. tt;
  }

pub line_act_fits : LineActsFit
line_act_fits act (line, e) =
    subst (λ (r : Result (Option Command) ScriptError). IfOk r (IfAsked AsksFit)) e
    (line_asks AsksFit line (λ short. each_form (length line) (ltb-false most_line (length line) short) (words line) (words_fit line)))
