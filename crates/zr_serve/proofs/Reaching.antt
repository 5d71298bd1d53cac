-- One call of the host, and what serving makes of it.
use Rattle.std.proofs.Common.{arith, zero, suc, ◌≡◌, ℕ, ◌+◌, ◌<◌, Bool, true, false, List, [], ◌∷◌, ◌++◌, length, take, get_or, Option, refl, sym, ap, subst, ◌∙◌, inl, inr}
use Rattle.std.proofs.lemmas.Bool.{false≢true, true≢false}
use Rattle.std.proofs.Math.Seq.{take-suc, take-length}
use Rattle.std.proofs.lemmas.List.{append-nil, length-append, length-take-le}
use Rattle.std.proofs.lemmas.List.Elements.{All-append, All-cons, All-nil}
use Rattle.zr_outside.specs.Host as host
use Rattle.zr_outside.specs.Told.{Appends, AppendsPrefix}
use Rattle.zr_outside.specs.declared.host.Answer.{Answer}
use Rattle.zr_outside.specs.declared.host.Answer.TheVariants as answer
use Rattle.zr_outside.specs.declared.host.Call.{Call}
use Rattle.zr_outside.specs.declared.host.Call.TheVariants.{Listen, Dial, Accept}
use Rattle.zr_outside.proofs.Appending.{appends_none, appends_nothing_more, prefix_more, prefix_whole}
use Rattle.zr_link_job.specs.Starts.{Starts}
use Rattle.zr_link_job.specs.declared.job.ServeJob.{ServeJob}
use Rattle.zr_link_job.specs.declared.job.Side.TheVariants.{Accepting, Dialling}
use Rattle.zr_serve.specs.Calls.{Records, listen_call, dial_call, accept_call, link_of, dials, accepts, IsGoing}
use Rattle.zr_dial.specs.Dial.{DialState}
use Rattle.zr_serve.specs.Jobs.{LinksState, next_job, with_next}
use Rattle.zr_serve.specs.Lines.{dial_text, serving_text, accept_text}
use Rattle.zr_serve.specs.Moments.{Moment, moment, Serves, BreaksOff}
use Rattle.zr_serve.specs.Serving.{Goes, Stops, Accepts, Dials, Outputs, CutsOff, Comes, Says, listening}
use Rattle.zr_serve.specs.Former.{Uses}
use Rattle.zr_serve.specs.Unsaid.{end_of_unsaid}
use Rattle.zr_serve.specs.declared.lines.Unsaid.{Unsaid}
use Rattle.zr_serve.specs.declared.lines.Unsaid.TheVariants.{Fault, NoMemory}
use Rattle.zr_serve.specs.declared.end.ServeEnd.{ServeEnd}
use Rattle.zr_serve.specs.declared.end.ServeEnd.TheVariants as e
use Rattle.zr_serve.proofs.Stepping.{records_one, starts_none, serves_none, serves_both, breaks_both, whole_is_part}

-- ---- a dial

pub dial_linked : (d : DialState) (is : Bool) (calls mid calls' : Option (List Call)) (told told' : Option (List ServeJob)) (faults faults' : ℕ) (held : Option (List ℕ)) (l l' : LinksState)
    → host.Records (Dial d.address is) calls mid → is ≡ true → calls' ≡ mid → Starts (next_job l (record { side = Dialling; weight = d.weight }) ∷ []) told told' faults faults' → l' ≡ with_next l
    → (is_link : Bool) × Serves (dial_call d is_link ∷ []) (moment calls told faults held l) (moment calls' told' faults' held l')
dial_linked d false calls mid calls' told told' faults faults' held l l' recorded e same started links = absurd (false≢true e)
dial_linked d true calls mid calls' told told' faults faults' held l l' recorded e same started links = (
  true,
  record {
    recorded = subst (λ z. Records (dial_call d true ∷ []) calls z) (sym same) (records_one (dial_call d true) calls mid recorded);
    started = started;
    links_are = links;
    complained = appends_none held;
  },
)

pub dial_lost : (d : DialState) (is : Bool) (calls mid : Option (List Call)) (told : Option (List ServeJob)) (faults : ℕ) (held held' : Option (List ℕ)) (l : LinksState)
    → host.Records (Dial d.address is) calls mid → is ≡ false → Appends (dial_text d.address) held held'
    → (is_link : Bool) × Serves (dial_call d is_link ∷ []) (moment calls told faults held l) (moment mid told faults held' l)
dial_lost d true calls mid told faults held held' l recorded e said = absurd (true≢false e)
dial_lost d false calls mid told faults held held' l recorded e said = (
  false,
  record {
    recorded = records_one (dial_call d false) calls mid recorded;
    started = starts_none told faults;
    links_are = refl;
    complained = appends_nothing_more (dial_text d.address) held held' said;
  },
)

pub dial_untold : (d : DialState) (is : Bool) (calls mid : Option (List Call)) (told : Option (List ServeJob)) (faults : ℕ) (held held' : Option (List ℕ)) (l : LinksState)
    → host.Records (Dial d.address is) calls mid → is ≡ false → AppendsPrefix (dial_text d.address) held held'
    → (is_link : Bool) × BreaksOff (dial_call d is_link ∷ []) (moment calls told faults held l) (moment mid told faults held' l)
dial_untold d true calls mid told faults held held' l recorded e said = absurd (true≢false e)
dial_untold d false calls mid told faults held held' l recorded e said = (
  false,
  record {
    recorded = records_one (dial_call d false) calls mid recorded;
    started = starts_none told faults;
    complained = prefix_more (dial_text d.address) [] held held' said;
  },
)

-- ---- an accept

pub accept_linked : (calls mid calls' : Option (List Call)) (told told' : Option (List ServeJob)) (faults faults' : ℕ) (held : Option (List ℕ)) (l l' : LinksState)
    → host.Records (Accept answer.Link) calls mid → calls' ≡ mid → Starts (next_job l (record { side = Accepting; weight = 1 }) ∷ []) told told' faults faults' → l' ≡ with_next l
    → Serves (accepts (answer.Link ∷ [])) (moment calls told faults held l) (moment calls' told' faults' held l')
accept_linked calls mid calls' told told' faults faults' held l l' recorded same started links = record {
  recorded = subst (λ z. Records (accept_call answer.Link ∷ []) calls z) (sym same) (records_one (accept_call answer.Link) calls mid recorded);
  started = started;
  links_are = links;
  complained = appends_none held;
}

-- an accept that gave no link
pub accept_other : (a : Answer) (calls mid : Option (List Call)) (told : Option (List ServeJob)) (faults : ℕ) (held : Option (List ℕ)) (l : LinksState)
    → link_of 1 (Accept a) ≡ [] → host.Records (Accept a) calls mid
    → Serves (accepts (a ∷ [])) (moment calls told faults held l) (moment mid told faults held l)
accept_other answer.Link calls mid told faults held l none recorded = absurd (none_is_one (ap (λ s. length s) none))
  where
    none_is_one : suc zero ≡ zero → ⊥
    none_is_one e = omega arith
accept_other answer.Quiet calls mid told faults held l none recorded = record {
  recorded = records_one (accept_call answer.Quiet) calls mid recorded;
  started = starts_none told faults;
  links_are = refl;
  complained = appends_none held;
}
accept_other answer.End calls mid told faults held l none recorded = record {
  recorded = records_one (accept_call answer.End) calls mid recorded;
  started = starts_none told faults;
  links_are = refl;
  complained = appends_none held;
}
accept_other answer.Failed calls mid told faults held l none recorded = record {
  recorded = records_one (accept_call answer.Failed) calls mid recorded;
  started = starts_none told faults;
  links_are = refl;
  complained = appends_none held;
}

-- what an accept that lets serving go on is
pub accept_gives : (a : Answer) (calls mid calls' : Option (List Call)) (told told' : Option (List ServeJob)) (faults faults' : ℕ) (held : Option (List ℕ)) (l l' : LinksState)
    → host.Records (Accept a) calls mid → a ≡ answer.Link → calls' ≡ mid → Starts (next_job l (record { side = Accepting; weight = 1 }) ∷ []) told told' faults faults' → l' ≡ with_next l
    → (x : Answer) × IsGoing x × Serves (accepts (x ∷ [])) (moment calls told faults held l) (moment calls' told' faults' held l')
accept_gives a calls mid calls' told told' faults faults' held l l' recorded is same started links =
    (answer.Link, tt, accept_linked calls mid calls' told told' faults faults' held l l' (subst (λ z. host.Records (Accept z) calls mid) is recorded) same started links)

pub accept_waits : (a : Answer) (calls mid : Option (List Call)) (told : Option (List ServeJob)) (faults : ℕ) (held : Option (List ℕ)) (l : LinksState)
    → host.Records (Accept a) calls mid → a ≡ answer.Quiet
    → (x : Answer) × IsGoing x × Serves (accepts (x ∷ [])) (moment calls told faults held l) (moment mid told faults held l)
accept_waits a calls mid told faults held l recorded is =
    (answer.Quiet, tt, accept_other answer.Quiet calls mid told faults held l refl (subst (λ z. host.Records (Accept z) calls mid) is recorded))

pub accept_ends : (a : Answer) (calls mid : Option (List Call)) (told : Option (List ServeJob)) (faults : ℕ) (held : Option (List ℕ)) (l : LinksState)
    → host.Records (Accept a) calls mid → a ≡ answer.End → Serves (accepts (answer.End ∷ [])) (moment calls told faults held l) (moment mid told faults held l)
accept_ends a calls mid told faults held l recorded is =
    accept_other answer.End calls mid told faults held l refl (subst (λ z. host.Records (Accept z) calls mid) is recorded)

pub accept_fails : (a : Answer) (calls mid : Option (List Call)) (told : Option (List ServeJob)) (faults : ℕ) (held : Option (List ℕ)) (l : LinksState)
    → host.Records (Accept a) calls mid → a ≡ answer.Failed → Serves (accepts (answer.Failed ∷ [])) (moment calls told faults held l) (moment mid told faults held l)
accept_fails a calls mid told faults held l recorded is =
    accept_other answer.Failed calls mid told faults held l refl (subst (λ z. host.Records (Accept z) calls mid) is recorded)

-- ---- lists of calls

pub accepts_both : (xs ys : List Answer) → accepts (xs ++ ys) ≡ accepts xs ++ accepts ys
accepts_both [] ys = refl
accepts_both (x ∷ xs) ys = ap (λ z. accept_call x ∷ z) (accepts_both xs ys)

-- one more address was dialled, and others are behind it
pub dials_next : (xs : List DialState) (x : DialState) (others : List DialState) (gave : List Bool) (is : Bool) → length gave ≡ length xs
    → dials (xs ++ x ∷ others) (gave ++ is ∷ []) ≡ dials xs gave ++ dials (x ∷ others) (is ∷ [])
dials_next [] x others [] is e = refl
dials_next [] x others (g ∷ gave) is e = absurd (by e)
  where
    by : suc (length gave) ≡ 0 → ⊥
    by e = omega arith
dials_next (y ∷ xs) x others [] is e = absurd (by e)
  where
    by : 0 ≡ suc (length xs) → ⊥
    by e = omega arith
dials_next (y ∷ xs) x others (g ∷ gave) is e = ap (λ z. dial_call y g ∷ z) (dials_next xs x others gave is (omega arith))

-- one dial, whatever else is to be dialled
pub dials_one : (x : DialState) (others : List DialState) (is : Bool) → dials (x ∷ others) (is ∷ []) ≡ dial_call x is ∷ []
dials_one x [] is = refl
dials_one x (y ∷ others) is = refl

-- ---- accepting goes on

pub goes_none : (calls : Option (List Call)) (told : Option (List ServeJob)) (faults : ℕ) (l : LinksState) (held : Option (List ℕ)) → Goes (moment calls told faults held l) (moment calls told faults held l)
goes_none calls told faults l held = record { answers = []; going = All-nil IsGoing; serves = serves_none (moment calls told faults held l) }

pub goes_more : (a b c : Moment) → Goes a b → (answer : Answer) × IsGoing answer × Serves (accepts (answer ∷ [])) b c → Goes a c
goes_more a b c p q = record {
  answers = p.answers ++ q.0 ∷ [];
  going = All-append IsGoing p.answers (q.0 ∷ []) p.going (All-cons IsGoing q.0 [] q.1 (All-nil IsGoing));
  serves = subst (λ z. Serves z a c) (sym (accepts_both p.answers (q.0 ∷ []))) (serves_both _ _ a b c p.serves q.2);
}

pub goes_on_to : (a b c : Moment) (end : ServeEnd) → Goes a b → Stops end b c → Accepts end a c
goes_on_to a b c e.Done p q = (p.answers, p.going, subst (λ z. Serves z a c) (sym (accepts_both p.answers (answer.End ∷ []))) (serves_both _ _ a b c p.serves q))
goes_on_to a b c e.HostFault p q = (p.answers, p.going, subst (λ z. Serves z a c) (sym (accepts_both p.answers (answer.Failed ∷ []))) (serves_both _ _ a b c p.serves q))
goes_on_to a b c e.NoMemory p q = absurd q
goes_on_to a b c e.WriteFault p q = absurd q

-- memory ran out in the router behind an accept
pub goes_spent : (a b c : Moment) → Goes a b → (answer : Answer) × IsGoing answer × Serves (accepts (answer ∷ [])) b c → Accepts e.NoMemory a c
goes_spent a b c p q = let r = goes_more a b c p q in (r.answers, r.going, r.serves)

-- what the next links begin with is the same
pub goes_same : (a : Moment) (calls : Option (List Call)) (told : Option (List ServeJob)) (faults : ℕ) (held : Option (List ℕ)) (l l' : LinksState) → l' ≡ l
    → Goes a (moment calls told faults held l) → Goes a (moment calls told faults held l')
goes_same a calls told faults held l l' same p = subst (λ z. Goes a (moment calls told faults held z)) (sym same) p

-- a line could not be written between two accepts
pub goes_unsaid : (a b : Moment) (u : Unsaid) → Goes a b → Accepts (end_of_unsaid u) a b
goes_unsaid a b Fault p = (p.answers, p.going, p.serves)
goes_unsaid a b NoMemory p = (p.answers, p.going, p.serves)

-- ---- dialling goes on

-- an element of a list, between those before it and those behind it
split_at : {A : Type 0} (xs : List A) (i : ℕ) (d : A) → i < length xs → (others : List A) × (xs ≡ take i xs ++ get_or xs i d ∷ others)
split_at [] i d lt = absurd (by lt)
  where
    by : i < 0 → ⊥
    by lt = omega arith
split_at (x ∷ xs) zero d lt = (xs, refl)
split_at (x ∷ xs) (suc i) d lt = let r = split_at xs i d (omega arith) in (r.0, ap (λ z. x ∷ z) r.1)

pub dials_none : (texts : List DialState) (a : Moment) → Dials texts 0 a a
dials_none [] a = record { gave = []; all = refl; serves = serves_none a }
dials_none (x ∷ texts) a = record { gave = []; all = refl; serves = serves_none a }

pub dials_more : (texts : List DialState) (i : ℕ) (x : DialState) (a b c : Moment) → i < length texts → x ≡ get_or texts i x → Dials texts i a b
    → (is : Bool) × Serves (dial_call x is ∷ []) b c → Dials texts (suc i) a c
dials_more texts i x a b c lt at p q = record {
  gave = p.gave ++ q.0 ∷ [];
  all = count;
  serves = subst (λ z. Serves z a c) (sym made) (serves_both _ _ a b c p.serves q.1);
}
  where
    count : length (p.gave ++ q.0 ∷ []) ≡ suc i
    count = omega (arith, length-append p.gave (q.0 ∷ []), p.all)

    as_long : length p.gave ≡ length (take i texts)
    as_long = p.all ∙ sym (length-take-le i texts (omega arith))

    made : dials (take (suc i) texts) (p.gave ++ q.0 ∷ []) ≡ dials (take i texts) p.gave ++ dial_call x q.0 ∷ []
    made = ap (λ z. dials z (p.gave ++ q.0 ∷ [])) (take-suc texts i x lt ∙ ap (λ z. take i texts ++ z ∷ []) (sym at))
        ∙ (dials_next (take i texts) x [] p.gave q.0 as_long ∙ ap (λ z. dials (take i texts) p.gave ++ z) (dials_one x [] q.0))

pub dials_stop : (texts : List DialState) (i : ℕ) (x : DialState) (a b c : Moment) → i < length texts → x ≡ get_or texts i x → Dials texts i a b
    → (is : Bool) × BreaksOff (dial_call x is ∷ []) b c → (gave : List Bool) × BreaksOff (dials texts gave) a c
dials_stop texts i x a b c lt at p q = (p.gave ++ q.0 ∷ [], subst (λ z. BreaksOff z a c) (sym made) (breaks_both _ _ a b c p.serves q.1))
  where
    as_long : length p.gave ≡ length (take i texts)
    as_long = p.all ∙ sym (length-take-le i texts (omega arith))

    parts : (others : List DialState) × (texts ≡ take i texts ++ get_or texts i x ∷ others)
    parts = split_at texts i x lt

    made : dials texts (p.gave ++ q.0 ∷ []) ≡ dials (take i texts) p.gave ++ dial_call x q.0 ∷ []
    made = ap (λ z. dials z (p.gave ++ q.0 ∷ [])) (parts.1 ∙ ap (λ z. take i texts ++ z ∷ parts.0) (sym at))
        ∙ (dials_next (take i texts) x parts.0 p.gave q.0 as_long ∙ ap (λ z. dials (take i texts) p.gave ++ z) (dials_one x parts.0 q.0))

pub dials_all : (texts : List DialState) (a b : Moment) → Dials texts (length texts) a b → (gave : List Bool) × (length gave ≡ length texts) × Serves (dials texts gave) a b
dials_all texts a b p = (p.gave, p.all, subst (λ z. Serves (dials z p.gave) a b) (take-length texts) p.serves)

-- ---- the whole

pub listened : (address : List ℕ) (is : Bool) (calls mid : Option (List Call)) (told : Option (List ServeJob)) (faults : ℕ) (held : Option (List ℕ)) (l : LinksState)
    → host.Records (Listen address is) calls mid → Serves (listen_call address is ∷ []) (moment calls told faults held l) (moment mid told faults held l)
listened address is calls mid told faults held l recorded = record {
  recorded = records_one (listen_call address is) calls mid recorded;
  started = starts_none told faults;
  links_are = refl;
  complained = appends_none held;
}

module _ (id address : List ℕ) (texts : List DialState) (a m n : Moment) (o p : Outputs) (listens : Serves (listen_call address true ∷ []) a m) where
  pub cut_off_dialling : (gave : List Bool) × BreaksOff (dials texts gave) m n → AppendsPrefix (serving_text id) o.out p.out → (c : CutsOff id address texts a n o p) × (c.ends.answers ≡ [])
  cut_off_dialling q said = (
    record {
      made = listen_call address true ∷ dials texts q.0;
      ends = record {
        gave = q.0;
        answers = [];
        going = All-nil IsGoing;
        order = inl refl;
        calls_are = ap (λ z. listen_call address true ∷ z) (sym (append-nil (dials texts q.0)));
      };
      breaks = breaks_both (listen_call address true ∷ []) (dials texts q.0) a m n listens q.1;
      said = said;
    },
    refl,
  )

  module _ (b : Moment) (dialled : (gave : List Bool) × (length gave ≡ length texts) × Serves (dials texts gave) m n) where
    over : (answers : List Answer) → Serves (accepts answers) n b → Serves (listening address texts dialled.0 answers) a b
    over answers q = serves_both (listen_call address true ∷ []) _ a m b listens (serves_both (dials texts dialled.0) (accepts answers) m n b dialled.2 q)

    -- `held` is what the error output held once it accepted no more
    pub comes : (Heard : Bool → Type 0) (held : Option (List ℕ)) (end : ServeEnd) → Accepts end n b → Uses end Heard id b.held held → Appends (serving_text id) o.out p.out
        → (end ≡ e.HostFault → Says accept_text held p.err o.faults p.faults) → ((end ≡ e.HostFault → ⊥) → held ≡ p.err) → Comes end Heard id address texts a b o p
    comes Heard held e.Done q told said last same = (
      record {
        made = listening address texts dialled.0 (q.0 ++ answer.End ∷ []);
        ends = record { gave = dialled.0; answers = q.0; all = dialled.1; going = q.1; calls_are = refl };
        serves = over (q.0 ++ answer.End ∷ []) q.2;
        said = said;
      },
      subst (λ z. Uses e.Done Heard id b.held z) (same no_fault) told,
    )
      where
        no_fault : e.Done ≡ e.HostFault → ⊥
        no_fault same_end = cc same_end
    comes Heard held e.HostFault q told said last same = record {
      made = listening address texts dialled.0 (q.0 ++ answer.Failed ∷ []);
      text = serving_text id;
      held = held;
      line = accept_text;
      fails = inr (record { gave = dialled.0; answers = q.0; all = dialled.1; going = q.1; calls_are = refl }, refl, told, refl);
      serves = over (q.0 ++ answer.Failed ∷ []) q.2;
      said = said;
      told = last refl;
    }
    comes Heard held e.NoMemory q told said last same = (
      record {
        made = listening address texts dialled.0 q.0;
        ends = record { gave = dialled.0; answers = q.0; going = q.1; order = inr dialled.1; calls_are = refl };
        breaks = whole_is_part _ a b (over q.0 q.2);
        said = prefix_whole (serving_text id) o.out p.out said;
      },
      inr (subst (λ z. Uses e.NoMemory Heard id b.held z) (same no_fault) told),
    )
      where
        no_fault : e.NoMemory ≡ e.HostFault → ⊥
        no_fault same_end = cc same_end
    comes Heard held e.WriteFault q told said last same = (
      record {
        made = listening address texts dialled.0 q.0;
        ends = record { gave = dialled.0; answers = q.0; going = q.1; order = inr dialled.1; calls_are = refl };
        breaks = whole_is_part _ a b (over q.0 q.2);
        said = prefix_whole (serving_text id) o.out p.out said;
      },
      inr (subst (λ z. Uses e.WriteFault Heard id b.held z) (same no_fault) told),
    )
      where
        no_fault : e.WriteFault ≡ e.HostFault → ⊥
        no_fault same_end = cc same_end

-- ---- the same over a list of other things, each with its text

pub dials_more_at : (xs : List DialState) (i : ℕ) (x : DialState) (a b c : Moment) → i < length xs → x ≡ get_or xs i x
    → Dials xs i a b → (is : Bool) × Serves (dial_call x is ∷ []) b c → Dials xs (i + 1) a c
dials_more_at xs i x a b c lt is p q =
    let one : suc i ≡ i + 1 = omega arith in
    subst (λ n. Dials xs n a c) one (dials_more xs i x a b c lt is p q)

pub dials_all_at : (xs : List DialState) (i : ℕ) (a b : Moment) → i ≡ length xs
    → Dials xs i a b → (gave : List Bool) × (length gave ≡ length xs) × Serves (dials xs gave) a b
dials_all_at xs i a b e p = dials_all xs a b (subst (λ n. Dials xs n a b) e p)
