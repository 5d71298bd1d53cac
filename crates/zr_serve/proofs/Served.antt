-- Serving as a whole, return by return.
use Rattle.std.proofs.Common.{arith, le_refl, ◌≡◌, ◌⊎◌, ℕ, ◌<◌, ◌≤◌, Bool, true, false, List, [], ◌∷◌, ◌++◌, length, Option, Some, None, refl, sym, ap, ◌∙◌, subst, inl, inr}
use Rattle.std.proofs.lemmas.Bool.{false≢true, true≢false}
use Rattle.std.proofs.lemmas.List.Elements.{All-nil}
use Rattle.rand_core.specs.Stream.{Stream}
use Rattle.zr_access.specs.Rules.{PolicyState}
use Rattle.zr_outside.proofs.Counting.{rose_not, rose_since}
use Rattle.zr_outside.specs.Counts.{Rose}
use Rattle.zr_outside.specs.Host as host
use Rattle.zr_outside.specs.Told.{Appends, AppendsPrefix}
use Rattle.zr_outside.specs.declared.host.Call.{Call}
use Rattle.zr_outside.specs.declared.host.Call.TheVariants.{Listen}
use Rattle.zr_outside.proofs.Appending.{appends_none, prefix_whole}
use Rattle.zr_serve.specs.declared.end.ServeEnd.{ServeEnd}
use Rattle.zr_serve.specs.declared.end.ServeEnd.TheVariants as e
use Rattle.zr_link_job.specs.declared.job.ServeJob.{ServeJob}
use Rattle.zr_serve.specs.declared.lines.Unsaid.{Unsaid}
use Rattle.zr_serve.specs.declared.lines.Unsaid.TheVariants.{Fault, NoMemory}
use Rattle.zr_serve.specs.Calls.{listen_call, dials, IsGoing}
use Rattle.zr_dial.specs.Dial.{DialState}
use Rattle.zr_serve.specs.Former.{Uses}
use Rattle.zr_serve.specs.Jobs.{LinksState, first_links}
use Rattle.zr_serve.specs.Lines.{serving_text, no_words_text, listen_text, accept_text}
use Rattle.zr_serve.specs.Moments.{Moment, moment, Serves, BreaksOff}
use Rattle.zr_serve.specs.Serving.{Says, Outputs, outputs, CutsOff, Comes, Drew, DrewNone, IsServed, IsServedFrom, EndsBefore, Accepts}
use Rattle.zr_serve.specs.Space.{Space, Begins}
use Rattle.zr_serve.specs.Unsaid.{end_of_unsaid}
use Rattle.zr_serve.proofs.Reaching.{listened, cut_off_dialling, comes}
use Rattle.zr_serve.proofs.Stepping.{whole_is_part}

says_later : (line : List ℕ) (h h' : Option (List ℕ)) (a b c : ℕ) → a ≤ b → Says line h h' b c → Says line h h' a c
says_later line h h' a b c le (inl said) = inl said
says_later line h h' a b c le (inr part) = inr (part.0, rose_since a b c le part.1)

-- a count that stood still, never fell and then rose
pub rose_behind : (a b c d : ℕ) → b ≡ a → b ≤ c → Rose c d → Rose a d
rose_behind a b c d same le rose = omega arith

-- a count that never fell and then rose
pub rose_far : (a b c d : ℕ) → a ≤ b → b ≤ c → Rose c d → Rose a d
rose_far a b c d le le_too rose = omega arith

-- a count that never fell, stood still and then rose
pub rose_past : (a b c d : ℕ) → a ≤ b → c ≡ b → Rose c d → Rose a d
rose_past a b c d le same rose = omega arith

-- a count that stood still and then rose
pub rose_same : (a b c d : ℕ) → b ≡ a → c ≡ b → Rose c d → Rose a d
rose_same a b c d same same_too rose = omega arith

-- one of two outputs failed, of which one has also served before
pub rose_either : (a b c f g : ℕ) → f ≤ g → Rose a b ⊎ Rose g c → Rose a b ⊎ Rose f c
rose_either a b c f g le (inl out) = inl out
rose_either a b c f g le (inr err) = inr (rose_since f g c le err)

-- where neither count has changed
pub none_rose : {A B : Type 0} (a b : ℕ) → (a < a → A) × (b < b → B)
none_rose a b = (λ rose. rose_not a a refl rose, λ rose. rose_not b b refl rose)

-- a count that never fell, rose and never fell
pub rose_on : (a b c d : ℕ) → a ≤ b → Rose b c → c ≤ d → Rose a d
rose_on a b c d le rose le_too = omega arith

risen : (a b c d : ℕ) → b ≡ a → d ≡ c → a < d → b < c
risen a b c d same still rose = omega arith

-- where a count rose that rises by one end while links are accepted and by another one behind that, it is one of the two
pub ends_by_either : (end : ServeEnd) (a b c d : ℕ) → b ≡ a → (b < c → end ≡ e.WriteFault) → ((end ≡ e.HostFault → ⊥) → d ≡ c) → a < d → (end ≡ e.WriteFault) ⊎ (end ≡ e.HostFault)
ends_by_either e.HostFault a b c d same only still rose = inr refl
ends_by_either e.WriteFault a b c d same only still rose = inl refl
ends_by_either e.Done a b c d same only still rose = inl (only (risen a b c d same (still (λ it. cc it)) rose))
ends_by_either e.NoMemory a b c d same only still rose = inl (only (risen a b c d same (still (λ it. cc it)) rose))

no_stream : Stream
no_stream = record { u32_after = λ calls. 0; u64_after = λ calls. 0; bytes_after = λ calls n. [] }

no_dials : (texts : List DialState) → dials texts [] ≡ []
no_dials [] = refl
no_dials (x ∷ texts) = refl

-- what was said and failed before doesn't matter for how serving goes
comes_later : (end : ServeEnd) (Heard : Bool → Type 0) (id address : List ℕ) (texts : List DialState) (a b : Moment) (o q p : Outputs) → q.out ≡ o.out → o.faults ≤ q.faults
    → Comes end Heard id address texts a b q p → Comes end Heard id address texts a b o p
comes_later e.Done Heard id address texts a b o q p same later (done, told) =
    (record { made = done.made; ends = done.ends; serves = done.serves; said = subst (λ z. Appends (serving_text id) z p.out) same done.said }, told)
comes_later e.HostFault Heard id address texts a b o q p same later fails = record {
  made = fails.made;
  text = fails.text;
  held = fails.held;
  line = fails.line;
  fails = fails.fails;
  serves = fails.serves;
  said = subst (λ z. Appends fails.text z p.out) same fails.said;
  told = says_later fails.line fails.held p.err o.faults q.faults p.faults later fails.told;
}
comes_later e.NoMemory Heard id address texts a b o q p same later (cut, told) =
    (record { made = cut.made; ends = cut.ends; breaks = cut.breaks; said = subst (λ z. AppendsPrefix (serving_text id) z p.out) same cut.said }, told)
comes_later e.WriteFault Heard id address texts a b o q p same later (cut, told) =
    (record { made = cut.made; ends = cut.ends; breaks = cut.breaks; said = subst (λ z. AppendsPrefix (serving_text id) z p.out) same cut.said }, told)

-- ---- before it listens

-- the host has no random words
pub without_words : (admin : Bool) (calls calls' : Option (List Call)) (told : Option (List ServeJob)) (faults : ℕ) (out err err' : Option (List ℕ)) (errs errs' : ℕ)
    → calls' ≡ calls → Says no_words_text err err' errs errs'
    → EndsBefore e.HostFault admin calls calls' told told faults faults (outputs out err errs) (outputs out err' errs')
without_words admin calls calls' told faults out err err' errs errs' same says =
    record { recorded = same; started = refl; counted = le_refl _; unsaid = refl; tells = says }

-- what a host that was asked gave: none, or a generator, and nothing more since
none_drawn : {W : Type 0} (stream : W → Stream) (left left' : Option (List Stream)) → host.Draws stream None left left' → DrewNone e.HostFault left left'
none_drawn stream None left' drawn = tt
none_drawn stream (Some left) left' drawn = drawn

one_drawn : {W : Type 0} (stream : W → Stream) (w : W) (left mid left' : Option (List Stream)) → host.Draws stream (Some w) left mid → left' ≡ mid → Drew (stream w) left left'
one_drawn stream w None mid left' drawn same = tt
one_drawn stream w (Some left) mid left' (rest, is, after) same = (rest, is, same ∙ after)

kept_drawn : (left : Option (List Stream)) → DrewNone e.NoMemory left left
kept_drawn None = tt
kept_drawn (Some left) = refl

module _ (end : ServeEnd) (id : List ℕ) (policy : PolicyState) (log admin : Bool) (Opened Refused : ℕ → Type 0) (Heard : Bool → Type 0) (address : List ℕ) (texts : List DialState)
    (left left' : Option (List Stream)) (calls calls' : Option (List Call)) (told told' : Option (List ServeJob)) (faults faults' : ℕ) (o p : Outputs) where
  pub ended_before : {W : Type 0} (stream : W → Stream) → host.Draws stream None left left' → end ≡ e.HostFault → EndsBefore end admin calls calls' told told' faults faults' o p
      → IsServed end id policy log admin Opened Refused Heard address texts left left' calls calls' told told' faults faults' o p
  ended_before stream drawn is before =
      record { words = no_stream; goes = inr (inr (subst (λ z. DrewNone z left left') (sym is) (none_drawn stream left left' drawn)), before) }

  -- it ended while it dealt with its administration space, once it had random words
  pub ended_within : {W : Type 0} (stream : W → Stream) (w : W) (drew : Option (List Stream)) (mid : Option (List Call)) → host.Draws stream (Some w) left drew → left' ≡ drew → mid ≡ calls
      → EndsBefore end admin mid calls' told told' faults faults' o p
      → IsServed end id policy log admin Opened Refused Heard address texts left left' calls calls' told told' faults faults' o p
  ended_within stream w drew mid drawn undrawn same before =
      record { words = stream w; goes = inr (inl (one_drawn stream w left drew left' drawn undrawn), subst (λ z. EndsBefore end admin z calls' told told' faults faults' o p) same before) }

  -- something became of its administration space, and it was served from there
  pub passed : {W : Type 0} (stream : W → Stream) (w : W) (drew : Option (List Stream)) → host.Draws stream (Some w) left drew → left' ≡ drew → (l m : LinksState) (mid between : Option (List Call)) (started : Option (List ServeJob)) (lost : ℕ) (held : Option (List ℕ)) (q : Outputs)
      → l ≡ first_links id policy log (stream w) → mid ≡ calls
      → (space : Space) × Begins admin Opened Refused space (moment mid told faults o.err l) (moment between started lost held m)
      → q.out ≡ o.out → o.faults ≤ q.faults
      → IsServedFrom end Heard id address texts (moment between started lost held m) calls' told' faults' q p
      → IsServed end id policy log admin Opened Refused Heard address texts left left' calls calls' told told' faults faults' o p
  passed stream w drew drawn undrawn l m mid between started lost held q links same begun unsaid later served = record {
    words = stream w;
    goes = inl (
      one_drawn stream w left drew left' drawn undrawn,
      record {
        space = begun.0;
        between = moment between started lost held m;
        begins = subst (λ z. Begins admin Opened Refused begun.0 (moment z told faults o.err (first_links id policy log (stream w))) (moment between started lost held m)) same
            (subst (λ z. Begins admin Opened Refused begun.0 (moment mid told faults o.err z) (moment between started lost held m)) links begun.1);
        served = record { held = served.held; links = served.links; comes = comes_later end Heard id address texts _ _ o q p unsaid later served.comes };
      },
    );
  }

-- ---- from the moment on at which it comes to listen

module _ (Heard : Bool → Type 0) (id : List ℕ) (l : LinksState) (address : List ℕ) (texts : List DialState) (calls calls' : Option (List Call)) (told : Option (List ServeJob)) (faults : ℕ)
    (out : Option (List ℕ)) where
  pub deaf : (is : Bool) (err err' : Option (List ℕ)) (errs errs' : ℕ) → host.Records (Listen address is) calls calls' → is ≡ false
      → Says (listen_text address) err err' errs errs'
      → IsServedFrom e.HostFault Heard id address texts (moment calls told faults err l) calls' told faults (outputs out err errs) (outputs out err' errs')
  deaf true err err' errs errs' recorded no_link says = absurd (true≢false no_link)
  deaf false err err' errs errs' recorded no_link says = record {
    held = err;
    links = l;
    comes = record {
      made = listen_call address false ∷ [];
      text = [];
      held = err;
      line = listen_text address;
      fails = inl (refl, refl, refl, refl);
      serves = listened address false calls calls' told faults err l recorded;
      said = appends_none out;
      told = says;
    };
  }

-- it listens
hears : (address : List ℕ) (is : Bool) (calls calls' : Option (List Call)) (told : Option (List ServeJob)) (faults : ℕ) (err : Option (List ℕ)) (l : LinksState)
    → host.Records (Listen address is) calls calls' → is ≡ true
    → Serves (listen_call address true ∷ []) (moment calls told faults err l) (moment calls' told faults err l)
hears address false calls calls' told faults err l recorded is = absurd (false≢true is)
hears address true calls calls' told faults err l recorded is = listened address true calls calls' told faults err l recorded

pub unsaid_serves : (Heard : Bool → Type 0) (u : Unsaid) (id : List ℕ) (l : LinksState) (address : List ℕ) (texts : List DialState) (is : Bool) (calls calls' : Option (List Call)) (told : Option (List ServeJob)) (faults : ℕ)
    (out out' err : Option (List ℕ)) (errs : ℕ) → host.Records (Listen address is) calls calls' → is ≡ true → AppendsPrefix (serving_text id) out out'
    → IsServedFrom (end_of_unsaid u) Heard id address texts (moment calls told faults err l) calls' told faults (outputs out err errs) (outputs out' err errs)
unsaid_serves Heard u id l address texts is calls calls' told faults out out' err errs recorded listens part = record { held = err; links = l; comes = by u }
  where
    a : Moment
    a = moment calls told faults err l

    b : Moment
    b = moment calls' told faults err l

    cut : (c : CutsOff id address texts a b (outputs out err errs) (outputs out' err errs)) × (c.ends.answers ≡ [])
    cut = (
      record {
        made = listen_call address true ∷ [];
        ends = record {
          gave = [];
          answers = [];
          going = All-nil IsGoing;
          order = inl refl;
          calls_are = ap (λ z. listen_call address true ∷ (z ++ [])) (sym (no_dials texts));
        };
        breaks = whole_is_part (listen_call address true ∷ []) a b (hears address is calls calls' told faults err l recorded listens);
        said = part;
      },
      refl,
    )

    by : (u : Unsaid) → Comes (end_of_unsaid u) Heard id address texts a b (outputs out err errs) (outputs out' err errs)
    by Fault = (cut.0, inl (cut.1, refl))
    by NoMemory = (cut.0, inl (cut.1, refl))

cut_serves : (Heard : Bool → Type 0) (end : ServeEnd) (id address : List ℕ) (texts : List DialState) (is : Bool) (calls heard calls' : Option (List Call)) (told told' : Option (List ServeJob)) (faults faults' : ℕ)
    (l l' : LinksState) (o p : Outputs) → host.Records (Listen address is) calls heard → is ≡ true
    → (gave : List Bool) × BreaksOff (dials texts gave) (moment heard told faults o.err l) (moment calls' told' faults' p.err l')
    → Appends (serving_text id) o.out p.out → (end ≡ e.Done → ⊥) → (end ≡ e.HostFault → ⊥)
    → IsServedFrom end Heard id address texts (moment calls told faults o.err l) calls' told' faults' o p
cut_serves Heard end id address texts is calls heard calls' told told' faults faults' l l' o p recorded listens broken said not_done not_host =
    record { held = p.err; links = l'; comes = by end not_done not_host }
  where
    cut : (c : CutsOff id address texts (moment calls told faults o.err l) (moment calls' told' faults' p.err l') o p) × (c.ends.answers ≡ [])
    cut = cut_off_dialling id address texts _ (moment heard told faults o.err l) _ o p (hears address is calls heard told faults o.err l recorded listens) broken (prefix_whole _ o.out p.out said)

    by : (end : ServeEnd) → (end ≡ e.Done → ⊥) → (end ≡ e.HostFault → ⊥)
        → Comes end Heard id address texts (moment calls told faults o.err l) (moment calls' told' faults' p.err l') o p
    by e.Done d h = absurd (d refl)
    by e.HostFault d h = absurd (h refl)
    by e.NoMemory d h = (cut.0, inl (cut.1, refl))
    by e.WriteFault d h = (cut.0, inl (cut.1, refl))

whole_serves : (Heard : Bool → Type 0) (end : ServeEnd) (id address : List ℕ) (texts : List DialState) (is : Bool) (calls heard dialled calls' : Option (List Call)) (told told' told'' : Option (List ServeJob))
    (faults faults' faults'' : ℕ) (held held' : Option (List ℕ)) (errs : ℕ) (l l' l'' : LinksState) (o p : Outputs) → host.Records (Listen address is) calls heard → is ≡ true
    → (gave : List Bool) × (length gave ≡ length texts) × Serves (dials texts gave) (moment heard told faults o.err l) (moment dialled told' faults' held l')
    → Accepts end (moment dialled told' faults' held l') (moment calls' told'' faults'' held l'') → Uses end Heard id held held'
    → Appends (serving_text id) o.out p.out → o.faults ≤ errs → (end ≡ e.HostFault → Says accept_text held' p.err errs p.faults) → ((end ≡ e.HostFault → ⊥) → p.err ≡ held')
    → IsServedFrom end Heard id address texts (moment calls told faults o.err l) calls' told'' faults'' o p
whole_serves Heard end id address texts is calls heard dialled calls' told told' told'' faults faults' faults'' held held' errs l l' l'' o p recorded listens gave accepted used said later last quiet = record {
  held = held;
  links = l'';
  comes = comes id address texts _ (moment heard told faults o.err l) _ o p (hears address is calls heard told faults o.err l recorded listens) (moment calls' told'' faults'' held l'') gave
      Heard held' end accepted used said (λ it. says_later _ _ _ o.faults errs p.faults later (last it)) (λ not. sym (quiet not));
}

-- ---- the same, where the address is at hand under another name, and what is dialled too

named_listen : (shown address : List ℕ) (is : Bool) (a b : Option (List Call)) → shown ≡ address → host.Records (Listen shown is) a b → host.Records (Listen address is) a b
named_listen shown address is a b e recorded = subst (λ z. host.Records (Listen z is) a b) e recorded

pub cut_serves_at : (Heard : Bool → Type 0) (named xs : List DialState) (shown address : List ℕ) (end : ServeEnd) (id : List ℕ) (is : Bool) (calls heard calls' : Option (List Call))
    (told told' : Option (List ServeJob)) (faults faults' : ℕ) (l l' : LinksState) (o p : Outputs) → named ≡ xs → shown ≡ address → host.Records (Listen shown is) calls heard → is ≡ true
    → (gave : List Bool) × BreaksOff (dials named gave) (moment heard told faults o.err l) (moment calls' told' faults' p.err l')
    → Appends (serving_text id) o.out p.out → (end ≡ e.Done → ⊥) → (end ≡ e.HostFault → ⊥)
    → IsServedFrom end Heard id address xs (moment calls told faults o.err l) calls' told' faults' o p
cut_serves_at Heard named xs shown address end id is calls heard calls' told told' faults faults' l l' o p names as_shown recorded listens broken said not_done not_host =
    cut_serves Heard end id address xs is calls heard calls' told told' faults faults' l l' o p (named_listen shown address is calls heard as_shown recorded) listens
    (subst (λ z. (gave : List Bool) × BreaksOff (dials z gave) (moment heard told faults o.err l) (moment calls' told' faults' p.err l')) names broken) said not_done not_host

pub whole_serves_at : (Heard : Bool → Type 0) (named xs : List DialState) (shown address : List ℕ) (end : ServeEnd) (id : List ℕ) (is : Bool) (calls heard dialled calls' : Option (List Call))
    (told told' told'' : Option (List ServeJob)) (faults faults' faults'' : ℕ) (held held' : Option (List ℕ)) (errs : ℕ) (l l' l'' : LinksState) (o p : Outputs) → named ≡ xs → shown ≡ address
    → host.Records (Listen shown is) calls heard → is ≡ true
    → (gave : List Bool) × (length gave ≡ length named) × Serves (dials named gave) (moment heard told faults o.err l) (moment dialled told' faults' held l')
    → ((h : Option (List ℕ)) → Accepts end (moment dialled told' faults' h l') (moment calls' told'' faults'' h l'')) → Uses end Heard id held held'
    → Appends (serving_text id) o.out p.out → o.faults ≤ errs → (end ≡ e.HostFault → Says accept_text held' p.err errs p.faults) → ((end ≡ e.HostFault → ⊥) → p.err ≡ held')
    → IsServedFrom end Heard id address xs (moment calls told faults o.err l) calls' told'' faults'' o p
whole_serves_at Heard named xs shown address end id is calls heard dialled calls' told told' told'' faults faults' faults'' held held' errs l l' l'' o p names as_shown recorded listens gave accepted used said later last quiet =
    whole_serves Heard end id address xs is calls heard dialled calls' told told' told'' faults faults' faults'' held held' errs l l' l'' o p (named_listen shown address is calls heard as_shown recorded) listens
    (subst (λ z. (gave : List Bool) × (length gave ≡ length z) × Serves (dials z gave) (moment heard told faults o.err l) (moment dialled told' faults' held l')) names gave) (accepted held) used said later last quiet

-- memory ran out before anything was called
pub not_begun : (id : List ℕ) (policy : PolicyState) (log admin : Bool) (Opened Refused : ℕ → Type 0) (Heard : Bool → Type 0) (address : List ℕ) (texts : List DialState) (left : Option (List Stream)) (calls : Option (List Call)) (told : Option (List ServeJob)) (faults : ℕ) (o : Outputs)
    → IsServed e.NoMemory id policy log admin Opened Refused Heard address texts left left calls calls told told faults faults o o
not_begun id policy log admin Opened Refused Heard address texts left calls told faults o = record {
  words = no_stream;
  goes = inr (inr (kept_drawn left), record { recorded = refl; started = refl; counted = le_refl _; unsaid = refl; tells = refl });
}
