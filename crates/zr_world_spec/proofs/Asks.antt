-- What a line asks, form by form: what is shown of each command, by the words that it was read from, is shown of what a line asks (`line_asks`).
use Rattle.std.proofs.Common.{◌≡◌, ℕ, Bool, true, false, cond, List, [], ◌∷◌, Option, Some, None, Result, Ok, Err, refl, ap}
use Rattle.std.specs.Prelude.{IfOk, codes, length, nat_lt, not}
use Rattle.zr_id.specs.Zid.{is_named}
use Rattle.zr_body.specs.Payload.{put_body, del_body}
use Rattle.zr_msg.specs.declared.msg.Kinds.{Kinds}
use Rattle.zr_msg.specs.declared.msg.Target.{Target}
use Rattle.zr_script_spec.specs.declared.error.ScriptError.{ScriptError}
use Rattle.zr_script_spec.specs.declared.error.ScriptError.TheVariants.{Limit}
use Rattle.zr_script_spec.specs.declared.command.Act.TheVariants as a
use Rattle.zr_script_spec.specs.declared.command.Command.{Command}
use Rattle.zr_script_spec.specs.declared.command.Command.TheVariants.{Act, Run, Fan}
use Rattle.zr_script_spec.specs.declared.command.Mode.{Mode}
use Rattle.zr_script_spec.specs.Step.{◌>>=◌}
use Rattle.zr_script_spec.specs.Lines.{most_line}
use Rattle.zr_script_spec.specs.Words.{words, is_word, is_clean, one_of, two_of, some_two_of, three_of, four_of, five_of, zid_at, number_at, time_at, link_weight_at, target_at, latest_at, mode_at, kinds_at, aggregate_at, key_at, optional_key_at, payload_at}
use Rattle.zr_script_spec.specs.Command.{router_line, client_line, link_line, up_line, break_line, down_line, sub_line, unsub_line, able_line, unable_line, token_line, untoken_line, interest_line, uninterest_line, plain, put_line, del_line, asking_body, answer_body, get_line, reply_line, end_line, handle_line, take_line, run_line, fan_line, mark_line, show_line, is_command, by_last_name, by_later_name, by_name, by_words, is_silent, command_of}

-- ---- steps that may be refused

step : {A B : Type 0} (P : B → Type 0) (r : Result A ScriptError) (f : A → Result B ScriptError) → ((x : A) → r ≡ Ok x → IfOk (f x) P) → IfOk (r >>= f) P
step P (Ok x) f h = h x refl
step P (Err e) f h = tt

-- one of two, by a test
either : {B : Type 0} (P : B → Type 0) (t : Bool) (x y : Result B ScriptError) → (t ≡ true → IfOk x P) → IfOk y P → IfOk (cond t x y) P
either P true x y h k = h refl
either P false x y h k = k

-- three words
abbrev pub ThreeWords : Type 0
ThreeWords = List ℕ × List ℕ × List ℕ

three_are : (args : List (List ℕ)) (w : ThreeWords) → three_of args ≡ Ok w → args ≡ w.0 ∷ w.1 ∷ w.2 ∷ []
three_are [] w e = absurd (cc)
three_are (p ∷ []) w e = absurd (cc)
three_are (p ∷ q ∷ []) w e = absurd (cc)
three_are (p ∷ q ∷ r ∷ []) w e = let same : (p, q, r) ≡ w = cc in ap (λ (z : ThreeWords). z.0 ∷ z.1 ∷ z.2 ∷ []) same
three_are (p ∷ q ∷ r ∷ s ∷ more) w e = absurd (cc)

-- four words, and those behind them
abbrev pub FourWords : Type 0
FourWords = List ℕ × List ℕ × List ℕ × List ℕ × List (List ℕ)

four_are : (args : List (List ℕ)) (w : FourWords) → four_of args ≡ Ok w → args ≡ w.0 ∷ w.1 ∷ w.2 ∷ w.3 ∷ w.4
four_are [] w e = absurd (cc)
four_are (p ∷ []) w e = absurd (cc)
four_are (p ∷ q ∷ []) w e = absurd (cc)
four_are (p ∷ q ∷ r ∷ []) w e = absurd (cc)
four_are (p ∷ q ∷ r ∷ s ∷ more) w e = let same : (p, q, r, s, more) ≡ w = cc in ap (λ (z : FourWords). z.0 ∷ z.1 ∷ z.2 ∷ z.3 ∷ z.4) same

-- ---- forms

-- what is shown of each form of the words of a line
pub record Forms (P : Command → Type 0) (ws : List (List ℕ)) : Type 0 where
  pub router : (id : List ℕ) → P (Act (a.Router id))
  pub client : (id router : List ℕ) → P (Act (a.Client id router))
  pub link : (one other : List ℕ) (weight : ℕ) → P (Act (a.Link one other weight))
  pub up : (router neighbour : List ℕ) → P (Act (a.Up router neighbour))
  pub break : (router neighbour : List ℕ) → P (Act (a.Break router neighbour))
  pub down : (router neighbour : List ℕ) → P (Act (a.Down router neighbour))
  pub sub : (client : List ℕ) (id : ℕ) (word key : List ℕ) → key_at word ≡ Ok key → P (Act (a.Sub client id key))
  pub unsub : (client : List ℕ) (id : ℕ) → P (Act (a.Unsub client id))
  pub able : (client : List ℕ) (id : ℕ) (word key : List ℕ) (complete : Bool) → key_at word ≡ Ok key → P (Act (a.Able client id key complete))
  pub unable : (client : List ℕ) (id : ℕ) → P (Act (a.Unable client id))
  pub token : (client : List ℕ) (id : ℕ) (word key : List ℕ) → key_at word ≡ Ok key → P (Act (a.Token client id key))
  pub untoken : (client : List ℕ) (id : ℕ) → P (Act (a.Untoken client id))
  pub interest : (client : List ℕ) (id : ℕ) (mode : Mode) (kind : List ℕ) (kinds : Kinds) (word : List ℕ) (key : Option (List ℕ)) (aggregate : Bool) → kinds_at kind ≡ Ok kinds → optional_key_at word ≡ Ok key →
      P (Act (a.Interest client id mode kinds key aggregate))
  pub uninterest : (client : List ℕ) (id : ℕ) → P (Act (a.Uninterest client id))
  pub put : (name : List ℕ) (w : ThreeWords) (client key : List ℕ) → ws ≡ name ∷ w.0 ∷ w.1 ∷ w.2 ∷ [] → key_at w.1 ≡ Ok key → P (Act (a.Publish client (plain key (put_body (payload_at w.2)))))
  pub del : (client word key : List ℕ) → key_at word ≡ Ok key → P (Act (a.Publish client (plain key del_body)))
  pub get : (client : List ℕ) (number : ℕ) (target : Target) (latest : Bool) (word key : List ℕ) → key_at word ≡ Ok key →
      P (Act (a.Get client number target (plain key (asking_body latest))))
  pub reply : (name : List ℕ) (w : FourWords) (client : List ℕ) (number : ℕ) (time : Option ℕ) (key : List ℕ) → ws ≡ name ∷ w.0 ∷ w.1 ∷ w.2 ∷ w.3 ∷ w.4 → is_word name (codes "reply") ≡ true →
      zid_at w.0 ≡ Ok client → time_at w.4 ≡ Ok time → key_at w.2 ≡ Ok key → P (Act (a.Reply client number (plain key (answer_body time client (payload_at w.3)))))
  pub end : (client : List ℕ) (number : ℕ) → P (Act (a.End client number))
  pub handle : (router from : List ℕ) → P (Act (a.Handle router from))
  pub take : (router to : List ℕ) → P (Act (a.Take router to))
  pub run : (steps : ℕ) → P (Run steps)
  pub fan : P Fan
  pub mark : P (Act a.Mark)
  pub show : (router : List ℕ) → P (Act (a.Show router))

-- ---- one command each

module _ (P : Command → Type 0) (name : List ℕ) (args : List (List ℕ)) (f : Forms P (name ∷ args)) where
  abbrev Asks : Result Command ScriptError → Type 0
  Asks r = IfOk r P

  router_asks : Asks (router_line args)
  unfolding router_line
  router_asks = step P (one_of args) _ (λ w e. step P (zid_at w) _ (λ id i. f.router id))

  client_asks : Asks (client_line args)
  unfolding client_line
  client_asks = step P (two_of args) _ (λ w e. step P (zid_at w.0) _ (λ id i. step P (zid_at w.1) _ (λ router j. f.client id router)))

  link_asks : Asks (link_line args)
  unfolding link_line
  link_asks = step P (some_two_of args) _ (λ w e. step P (zid_at w.0) _ (λ one i. step P (zid_at w.1) _ (λ other j. step P (link_weight_at w.2) _ (λ weight k.
      either P (is_named one other) _ _ (λ same. tt) (f.link one other weight)))))

  up_asks : Asks (up_line args)
  unfolding up_line
  up_asks = step P (two_of args) _ (λ w e. step P (zid_at w.0) _ (λ router i. step P (zid_at w.1) _ (λ neighbour j. f.up router neighbour)))

  break_asks : Asks (break_line args)
  unfolding break_line
  break_asks = step P (two_of args) _ (λ w e. step P (zid_at w.0) _ (λ router i. step P (zid_at w.1) _ (λ neighbour j. f.break router neighbour)))

  down_asks : Asks (down_line args)
  unfolding down_line
  down_asks = step P (two_of args) _ (λ w e. step P (zid_at w.0) _ (λ router i. step P (zid_at w.1) _ (λ neighbour j. f.down router neighbour)))

  sub_asks : Asks (sub_line args)
  unfolding sub_line
  sub_asks = step P (three_of args) _ (λ w e. step P (zid_at w.0) _ (λ client i. step P (number_at w.1) _ (λ id j. step P (key_at w.2) _ (λ key k. f.sub client id w.2 key k))))

  unsub_asks : Asks (unsub_line args)
  unfolding unsub_line
  unsub_asks = step P (two_of args) _ (λ w e. step P (zid_at w.0) _ (λ client i. step P (number_at w.1) _ (λ id j. f.unsub client id)))

  able_asks : (complete : Bool) → Asks (able_line complete args)
  unfolding able_line
  able_asks complete = step P (three_of args) _ (λ w e. step P (zid_at w.0) _ (λ client i. step P (number_at w.1) _ (λ id j. step P (key_at w.2) _ (λ key k. f.able client id w.2 key complete k))))

  unable_asks : Asks (unable_line args)
  unfolding unable_line
  unable_asks = step P (two_of args) _ (λ w e. step P (zid_at w.0) _ (λ client i. step P (number_at w.1) _ (λ id j. f.unable client id)))

  token_asks : Asks (token_line args)
  unfolding token_line
  token_asks = step P (three_of args) _ (λ w e. step P (zid_at w.0) _ (λ client i. step P (number_at w.1) _ (λ id j. step P (key_at w.2) _ (λ key k. f.token client id w.2 key k))))

  untoken_asks : Asks (untoken_line args)
  unfolding untoken_line
  untoken_asks = step P (two_of args) _ (λ w e. step P (zid_at w.0) _ (λ client i. step P (number_at w.1) _ (λ id j. f.untoken client id)))

  interest_asks : Asks (interest_line args)
  unfolding interest_line
  interest_asks = step P (five_of args) _ (λ w e. step P (zid_at w.0) _ (λ client i. step P (number_at w.1) _ (λ id j. step P (mode_at w.2) _ (λ mode k. step P (kinds_at w.3) _ (λ kinds l.
      step P (aggregate_at w.5) _ (λ aggregate m. step P (optional_key_at w.4) _ (λ key o. f.interest client id mode w.3 kinds w.4 key aggregate l o)))))))

  uninterest_asks : Asks (uninterest_line args)
  unfolding uninterest_line
  uninterest_asks = step P (two_of args) _ (λ w e. step P (zid_at w.0) _ (λ client i. step P (number_at w.1) _ (λ id j. f.uninterest client id)))

  put_asks : Asks (put_line args)
  unfolding put_line
  put_asks = step P (three_of args) _ (λ w e. step P (zid_at w.0) _ (λ client i. step P (key_at w.1) _ (λ key k. f.put name w client key (ap (λ z. name ∷ z) (three_are args w e)) k)))

  del_asks : Asks (del_line args)
  unfolding del_line
  del_asks = step P (two_of args) _ (λ w e. step P (zid_at w.0) _ (λ client i. step P (key_at w.1) _ (λ key k. f.del client w.1 key k)))

  get_asks : Asks (get_line args)
  unfolding get_line
  get_asks = step P (four_of args) _ (λ w e. step P (zid_at w.0) _ (λ client i. step P (number_at w.1) _ (λ number j. step P (target_at w.3) _ (λ target t.
      step P (latest_at w.4) _ (λ latest l. step P (key_at w.2) _ (λ key k. f.get client number target latest w.2 key k))))))

  reply_asks : is_word name (codes "reply") ≡ true → Asks (reply_line args)
  unfolding reply_line
  reply_asks is = step P (four_of args) _ (λ w e. step P (zid_at w.0) _ (λ client i. step P (number_at w.1) _ (λ number j. step P (time_at w.4) _ (λ time t.
      step P (key_at w.2) _ (λ key k. f.reply name w client number time key (ap (λ z. name ∷ z) (four_are args w e)) is i t k)))))

  end_asks : Asks (end_line args)
  unfolding end_line
  end_asks = step P (two_of args) _ (λ w e. step P (zid_at w.0) _ (λ client i. step P (number_at w.1) _ (λ number j. f.end client number)))

  handle_asks : Asks (handle_line args)
  unfolding handle_line
  handle_asks = step P (two_of args) _ (λ w e. step P (zid_at w.0) _ (λ router i. step P (zid_at w.1) _ (λ from j. f.handle router from)))

  take_asks : Asks (take_line args)
  unfolding take_line
  take_asks = step P (two_of args) _ (λ w e. step P (zid_at w.0) _ (λ router i. step P (zid_at w.1) _ (λ to j. f.take router to)))

  run_asks : Asks (run_line args)
  unfolding run_line
  run_asks = step P (one_of args) _ (λ w e. step P (number_at w) _ (λ steps i. f.run steps))

  fan_asks : Asks (fan_line args)
  unfolding fan_line
  fan_asks = by args
    where
      by : (more : List (List ℕ)) → Asks (fan_line more)
      by [] = f.fan
      by (x ∷ more) = tt

  mark_asks : Asks (mark_line args)
  unfolding mark_line
  mark_asks = by args
    where
      by : (more : List (List ℕ)) → Asks (mark_line more)
      by [] = f.mark
      by (x ∷ more) = tt

  show_asks : Asks (show_line args)
  unfolding show_line
  show_asks = step P (one_of args) _ (λ w e. step P (zid_at w) _ (λ router i. f.show router))

  -- ---- by the command's name

  last_asks : Asks (by_last_name name args)
  unfolding by_last_name
  last_asks =
      either P (is_word name (codes "put")) _ _ (λ e. put_asks)
      (either P (is_word name (codes "del")) _ _ (λ e. del_asks)
      (either P (is_word name (codes "get")) _ _ (λ e. get_asks)
      (either P (is_word name (codes "reply")) _ _ (λ e. reply_asks e)
      (either P (is_word name (codes "end")) _ _ (λ e. end_asks)
      (either P (is_word name (codes "handle")) _ _ (λ e. handle_asks)
      (either P (is_word name (codes "take")) _ _ (λ e. take_asks)
      (either P (is_word name (codes "run")) _ _ (λ e. run_asks)
      (either P (is_word name (codes "fan")) _ _ (λ e. fan_asks)
      (either P (is_word name (codes "mark")) _ _ (λ e. mark_asks)
      (either P (is_word name (codes "show")) _ _ (λ e. show_asks) tt))))))))))

  later_asks : Asks (by_later_name name args)
  unfolding by_later_name
  later_asks =
      either P (is_word name (codes "sub")) _ _ (λ e. sub_asks)
      (either P (is_word name (codes "unsub")) _ _ (λ e. unsub_asks)
      (either P (is_word name (codes "able")) _ _ (λ e. able_asks false)
      (either P (is_word name (codes "full")) _ _ (λ e. able_asks true)
      (either P (is_word name (codes "unable")) _ _ (λ e. unable_asks)
      (either P (is_word name (codes "token")) _ _ (λ e. token_asks)
      (either P (is_word name (codes "untoken")) _ _ (λ e. untoken_asks)
      (either P (is_word name (codes "interest")) _ _ (λ e. interest_asks)
      (either P (is_word name (codes "uninterest")) _ _ (λ e. uninterest_asks) last_asks))))))))

  name_asks : Asks (by_name name args)
  unfolding by_name
  name_asks =
      either P (is_word name (codes "router")) _ _ (λ e. router_asks)
      (either P (is_word name (codes "client")) _ _ (λ e. client_asks)
      (either P (is_word name (codes "link")) _ _ (λ e. link_asks)
      (either P (is_word name (codes "up")) _ _ (λ e. up_asks)
      (either P (is_word name (codes "break")) _ _ (λ e. break_asks)
      (either P (is_word name (codes "down")) _ _ (λ e. down_asks) later_asks)))))

-- ---- a line

words_ask : (P : Command → Type 0) (clean : Bool) (ws : List (List ℕ)) → Forms P ws → IfOk (by_words clean ws) P
unfolding by_words
words_ask P clean [] f = tt
words_ask P clean (name ∷ args) f = either P (not (is_command name)) _ _ (λ e. tt) (either P (not clean) _ _ (λ e. tt) (name_asks P name args f))

-- what a line asks, if it asks something
abbrev pub IfAsked : (Command → Type 0) → Option Command → Type 0
IfAsked P None = Unit {0}
IfAsked P (Some asked) = P asked

pub line_asks : (P : Command → Type 0) (line : List ℕ) → (nat_lt most_line (length line) ≡ false → Forms P (words line)) → IfOk (command_of line) (IfAsked P)
unfolding command_of
line_asks P line f = by (nat_lt most_line (length line)) refl
  where
    some : (r : Result Command ScriptError) → IfOk r P → IfOk (r >>= (λ command. Ok (Some command))) (IfAsked P)
    some (Ok asked) h = h
    some (Err e) h = tt

    by : (t : Bool) → nat_lt most_line (length line) ≡ t →
        IfOk (cond t (Err Limit) (cond (is_silent line) (Ok None) (by_words (is_clean line) (words line) >>= (λ command. Ok (Some command))))) (IfAsked P)
    by true e = tt
    by false e = either (IfAsked P) (is_silent line) _ _ (λ silent. tt) (some (by_words (is_clean line) (words line)) (words_ask P (is_clean line) (words line) (f e)))
