-- What lines of several words ask, once some of their words were read.
use Rattle.std.proofs.Common.{◌≡◌, ℕ, Bool, List, [], ◌∷◌, Option, Result, Ok, Err, sym, ap, ◌∙◌, subst}
use Rattle.zr_msg.specs.declared.msg.Kinds.{Kinds}
use Rattle.zr_msg.specs.declared.msg.Target.{Target}
use Rattle.zr_script_spec.specs.declared.command.Act.TheVariants.{Interest, Get, Reply}
use Rattle.zr_script_spec.specs.declared.command.Command.{Command}
use Rattle.zr_script_spec.specs.declared.command.Command.TheVariants.{Act}
use Rattle.zr_script_spec.specs.declared.command.Mode.{Mode}
use Rattle.zr_script_spec.specs.declared.error.ScriptError.{ScriptError}
use Rattle.zr_script_spec.specs.declared.error.ScriptError.TheVariants.{BadWords}
use Rattle.zr_script_spec.specs.Step.{◌>>=◌, IsSaid}
use Rattle.zr_script_spec.specs.Command.{plain, asking_body, answer_body, interest_line, get_line, reply_line}
use Rattle.zr_script_spec.specs.Words.{five_of, four_of, target_at, latest_at, time_at, key_at, optional_key_at, payload_at}
use Rattle.zr_script.specs.Args.{LeadsOn, numbered_then, terms_then}
use Rattle.zr_script.proofs.Leading.{stays, stay_words}

-- a refusal, and what is refused for it
abbrev Refuses : ScriptError → Result Command ScriptError → Type 0
Refuses e said = IsSaid {X = Command} (Err e) said

-- ---- interest

abbrev keyed : List ℕ → (Option (List ℕ) → Result Command ScriptError) → Result Command ScriptError
keyed text then = optional_key_at text >>= then

module _ (ws more : List (List ℕ)) (a b c d t : List ℕ) (words_are : ws ≡ a ∷ b ∷ c ∷ d ∷ t ∷ more) where
  interest_is : interest_line ws ≡ numbered_then a b (λ y. terms_then c d more (λ z. keyed t (λ key. Ok (Act (Interest y.0 y.1 z.0 z.1 key z.2)))))
  unfolding interest_line
  interest_is = ap interest_line words_are

  pub interest_stays : (e : ScriptError) → LeadsOn {X = List ℕ × ℕ} (Err e) (numbered_then a b) → IsSaid {X = Command} (Err e) (interest_line ws)
  interest_stays e h = subst (Refuses e) (sym interest_is) (h (λ y. terms_then c d more (λ z. keyed t (λ key. Ok (Act (Interest y.0 y.1 z.0 z.1 key z.2))))))

  module _ (client : List ℕ) (id : ℕ) (begins : LeadsOn (Ok (client, id)) (numbered_then a b)) where
    begun : interest_line ws ≡ terms_then c d more (λ z. keyed t (λ key. Ok (Act (Interest client id z.0 z.1 key z.2))))
    begun = interest_is ∙ begins (λ y. terms_then c d more (λ z. keyed t (λ key. Ok (Act (Interest y.0 y.1 z.0 z.1 key z.2)))))

    pub interest_stays_next : (e : ScriptError) → LeadsOn {X = Mode × Kinds × Bool} (Err e) (terms_then c d more) → IsSaid {X = Command} (Err e) (interest_line ws)
    interest_stays_next e h = subst (Refuses e) (sym begun) (h (λ z. keyed t (λ key. Ok (Act (Interest client id z.0 z.1 key z.2)))))

    module _ (mode : Mode) (kinds : Kinds) (all : Bool) (goes : LeadsOn (Ok (mode, kinds, all)) (terms_then c d more)) where
      gone : interest_line ws ≡ keyed t (λ key. Ok (Act (Interest client id mode kinds key all)))
      gone = begun ∙ goes (λ z. keyed t (λ key. Ok (Act (Interest client id z.0 z.1 key z.2))))

      pub interest_stays_last : (e : ScriptError) → IsSaid {X = Option (List ℕ)} (Err e) (optional_key_at t) → IsSaid {X = Command} (Err e) (interest_line ws)
      interest_stays_last e h = subst (Refuses e) (sym gone) (stays e (optional_key_at t) (λ key. Ok (Act (Interest client id mode kinds key all))) h)

      pub interest_leads : (key : Option (List ℕ)) → optional_key_at t ≡ Ok key → interest_line ws ≡ Ok (Act (Interest client id mode kinds key all))
      interest_leads key h = gone ∙ ap (λ m. m >>= λ key. Ok (Act (Interest client id mode kinds key all))) h

pub interest_words : (ws : List (List ℕ)) (e : ScriptError) → (e ≡ BadWords) × (five_of ws ≡ Err BadWords) → IsSaid {X = Command} (Err e) (interest_line ws)
unfolding interest_line
interest_words ws e h = stay_words e (five_of ws) (λ w. numbered_then w.0 w.1 (λ y. terms_then w.2 w.3 w.5 (λ z. keyed w.4 (λ key. Ok (Act (Interest y.0 y.1 z.0 z.1 key z.2)))))) h

-- ---- get

module _ (ws more : List (List ℕ)) (a b t w : List ℕ) (words_are : ws ≡ a ∷ b ∷ t ∷ w ∷ more) where
  abbrev asked : List ℕ → ℕ → Target → Bool → List ℕ → Result Command ScriptError
  asked client number target latest key = Ok (Act (Get client number target (plain key (asking_body latest))))

  abbrev about : List ℕ → ℕ → Target → Bool → Result Command ScriptError
  about client number target latest = key_at t >>= λ key. asked client number target latest key

  abbrev aimed_at : List ℕ → ℕ → Target → Result Command ScriptError
  aimed_at client number target = latest_at more >>= λ latest. about client number target latest

  get_is : get_line ws ≡ numbered_then a b (λ y. target_at w >>= λ target. aimed_at y.0 y.1 target)
  unfolding get_line
  get_is = ap get_line words_are

  pub get_stays : (e : ScriptError) → LeadsOn {X = List ℕ × ℕ} (Err e) (numbered_then a b) → IsSaid {X = Command} (Err e) (get_line ws)
  get_stays e h = subst (Refuses e) (sym get_is) (h (λ y. target_at w >>= λ target. aimed_at y.0 y.1 target))

  module _ (client : List ℕ) (number : ℕ) (begins : LeadsOn (Ok (client, number)) (numbered_then a b)) where
    asks : get_line ws ≡ (target_at w >>= λ target. aimed_at client number target)
    asks = get_is ∙ begins (λ y. target_at w >>= λ target. aimed_at y.0 y.1 target)

    pub get_stays_target : (e : ScriptError) → IsSaid {X = Target} (Err e) (target_at w) → IsSaid {X = Command} (Err e) (get_line ws)
    get_stays_target e h = subst (Refuses e) (sym asks) (stays e (target_at w) (λ target. aimed_at client number target) h)

    module _ (target : Target) (aims : target_at w ≡ Ok target) where
      aimed : get_line ws ≡ aimed_at client number target
      aimed = asks ∙ ap (λ m. m >>= λ target. aimed_at client number target) aims

      pub get_stays_latest : (e : ScriptError) → IsSaid {X = Bool} (Err e) (latest_at more) → IsSaid {X = Command} (Err e) (get_line ws)
      get_stays_latest e h = subst (Refuses e) (sym aimed) (stays e (latest_at more) (λ latest. about client number target latest) h)

      module _ (latest : Bool) (wants : latest_at more ≡ Ok latest) where
        wanted : get_line ws ≡ about client number target latest
        wanted = aimed ∙ ap (λ m. m >>= λ latest. about client number target latest) wants

        pub get_stays_key : (e : ScriptError) → IsSaid {X = List ℕ} (Err e) (key_at t) → IsSaid {X = Command} (Err e) (get_line ws)
        get_stays_key e h = subst (Refuses e) (sym wanted) (stays e (key_at t) (λ key. asked client number target latest key) h)

        pub get_leads : (key : List ℕ) → key_at t ≡ Ok key → (r : Result Command ScriptError) → IsSaid r (Ok (Act (Get client number target (plain key (asking_body latest)))))
            → IsSaid r (get_line ws)
        get_leads key h r done = subst (IsSaid r) (sym (wanted ∙ ap (λ m. m >>= λ key. asked client number target latest key) h)) done

pub get_words : (ws : List (List ℕ)) (e : ScriptError) → (e ≡ BadWords) × (four_of ws ≡ Err BadWords) → IsSaid {X = Command} (Err e) (get_line ws)
unfolding get_line
get_words ws e h =
    stay_words e (four_of ws)
    (λ w. numbered_then w.0 w.1 (λ y. target_at w.3 >>= λ target. latest_at w.4 >>= λ latest. key_at w.2 >>= λ key. Ok (Act (Get y.0 y.1 target (plain key (asking_body latest))))))
    h

-- ---- reply

module _ (ws more : List (List ℕ)) (a b t w : List ℕ) (words_are : ws ≡ a ∷ b ∷ t ∷ w ∷ more) where
  abbrev replied : List ℕ → ℕ → Option ℕ → List ℕ → Result Command ScriptError
  replied client number time key = Ok (Act (Reply client number (plain key (answer_body time client (payload_at w)))))

  abbrev timed : List ℕ → ℕ → Option ℕ → Result Command ScriptError
  timed client number time = key_at t >>= λ key. replied client number time key

  reply_is : reply_line ws ≡ numbered_then a b (λ y. time_at more >>= λ time. timed y.0 y.1 time)
  unfolding reply_line
  reply_is = ap reply_line words_are

  pub reply_stays : (e : ScriptError) → LeadsOn {X = List ℕ × ℕ} (Err e) (numbered_then a b) → IsSaid {X = Command} (Err e) (reply_line ws)
  reply_stays e h = subst (Refuses e) (sym reply_is) (h (λ y. time_at more >>= λ time. timed y.0 y.1 time))

  module _ (client : List ℕ) (number : ℕ) (begins : LeadsOn (Ok (client, number)) (numbered_then a b)) where
    answers : reply_line ws ≡ (time_at more >>= λ time. timed client number time)
    answers = reply_is ∙ begins (λ y. time_at more >>= λ time. timed y.0 y.1 time)

    pub reply_stays_time : (e : ScriptError) → IsSaid {X = Option ℕ} (Err e) (time_at more) → IsSaid {X = Command} (Err e) (reply_line ws)
    reply_stays_time e h = subst (Refuses e) (sym answers) (stays e (time_at more) (λ time. timed client number time) h)

    module _ (time : Option ℕ) (given : time_at more ≡ Ok time) where
      dated : reply_line ws ≡ timed client number time
      dated = answers ∙ ap (λ m. m >>= λ time. timed client number time) given

      pub reply_stays_key : (e : ScriptError) → IsSaid {X = List ℕ} (Err e) (key_at t) → IsSaid {X = Command} (Err e) (reply_line ws)
      reply_stays_key e h = subst (Refuses e) (sym dated) (stays e (key_at t) (λ key. replied client number time key) h)

      pub reply_leads : (key : List ℕ) → key_at t ≡ Ok key → (r : Result Command ScriptError)
          → IsSaid r (Ok (Act (Reply client number (plain key (answer_body time client (payload_at w)))))) → IsSaid r (reply_line ws)
      reply_leads key h r done = subst (IsSaid r) (sym (dated ∙ ap (λ m. m >>= λ key. replied client number time key) h)) done

pub reply_words : (ws : List (List ℕ)) (e : ScriptError) → (e ≡ BadWords) × (four_of ws ≡ Err BadWords) → IsSaid {X = Command} (Err e) (reply_line ws)
unfolding reply_line
reply_words ws e h =
    stay_words e (four_of ws)
    (λ w. numbered_then w.0 w.1 (λ y. time_at w.4 >>= λ time. key_at w.2 >>= λ key. Ok (Act (Reply y.0 y.1 (plain key (answer_body time y.0 (payload_at w.3))))))) h
