-- What is told of a router whose identifier was in use before: step by step, and under another reason.
use Rattle.std.proofs.Common.{◌≡◌, ◌∙◌, ◌⊎◌, ℕ, Bool, true, false, List, [], Option, Result, Ok, Err, refl, sym, subst, inl, inr}
use Rattle.rand_core.specs.Stream.{Stream}
use Rattle.zr_access.specs.Rules.{PolicyState}
use Rattle.zr_dial.specs.Dial.{DialState}
use Rattle.zr_link_job.specs.declared.job.ServeJob.{ServeJob}
use Rattle.zr_outside.specs.Told.{Appends, AppendsPrefix}
use Rattle.zr_outside.specs.declared.host.Answer.{Answer}
use Rattle.zr_outside.specs.declared.host.Call.{Call}
use Rattle.zr_outside.proofs.Appending.{appends_both, prefix_behind}
use Rattle.zr_port.specs.declared.entry.Entry.{Entry}
use Rattle.zr_serve.specs.Former.{Hears, TellsUsed, CutsUsed, Uses, told_text}
use Rattle.zr_serve.specs.Lines.{used_text}
use Rattle.zr_serve.specs.Moments.{Moment, moment}
use Rattle.zr_serve.specs.Jobs.{first_links}
use Rattle.zr_serve.specs.Serving.{Breaks, Comes, Drew, DrewNone, EndsBefore, Fails, IsServed, IsServedFrom, Outputs, Passes, Stops}
use Rattle.zr_serve.specs.declared.end.ServeEnd.{ServeEnd}
use Rattle.zr_serve.specs.declared.end.ServeEnd.TheVariants as e
use Rattle.zr_serve.specs.declared.lines.Unsaid.{Unsaid}
use Rattle.zr_serve.specs.declared.lines.Unsaid.TheVariants.{Fault, NoMemory}
use Rattle.zr_serve.specs.Unsaid.{end_of_unsaid}

-- ---- step by step

-- what an answer is that is also known to be another one
told_too : (told : Bool) (r : Result Bool Unsaid) → r ≡ Ok told → r ≡ Ok true → told ≡ true
told_too told r first second = cc

not_both : (u : Unsaid) (r : Result Bool Unsaid) → r ≡ Err u → r ≡ Ok true → ⊥
not_both u r first second = cc (sym first ∙ second)

-- At a port that is the same all along: `L` and `W` say of it which histories it may have, and by which of them its router has heard that its identifier was
-- in use before. `a` is what the error output held at first, `b` before it was asked again, and `c` behind that
module _ {A : Type 0} (L : A → List Entry → Type 0) (W : A → List Entry → Bool) (id : List ℕ) (first port : A) (same : port ≡ first) (was : Bool) (seen after : List Entry)
    (a b c : Option (List ℕ)) (before : Appends (told_text id was) a b) where
  hears_first : (told : Bool) → Hears (L port) (W port) after told → Hears (L first) (W first) after told
  hears_first told h = subst (λ p. Hears (L p) (W p) after told) same h

  pub asked_on : (told : Bool) (r : Result Bool Unsaid) → r ≡ Ok told → (was ≡ true → Hears (L first) (W first) seen true)
      → (was ≡ false → Hears (L port) (W port) after told × Appends (told_text id told) b c) → (was ≡ true → (r ≡ Ok true) × (after ≡ seen) × (c ≡ b))
      → Hears (L first) (W first) after told × Appends (told_text id told) a c
  asked_on told r answer heard new old = by was refl
    where
      by : (w : Bool) → was ≡ w → Hears (L first) (W first) after told × Appends (told_text id told) a c
      by false is =
          let n = new is in
          (hears_first told n.0, appends_both [] (told_text id told) a b c (subst (λ z. Appends (told_text id z) a b) is before) n.1)
      by true is =
          let o = old is in
          let all : Appends (used_text id) a c = subst (λ z. Appends (used_text id) a z) (sym o.2) (subst (λ z. Appends (told_text id z) a b) is before) in
          subst (λ t. Hears (L first) (W first) after t × Appends (told_text id t) a c) (sym (told_too told r answer o.0)) (subst (λ z. Hears (L first) (W first) z true) (sym o.1) (heard is), all)

  -- the line could not be told whole
  pub cut_on : (u : Unsaid) (r : Result Bool Unsaid) → r ≡ Err u → Hears (L port) (W port) after true × AppendsPrefix (used_text id) b c
      → (was ≡ true → (r ≡ Ok true) × (after ≡ seen) × (c ≡ b)) → CutsUsed (λ x. Hears (L first) (W first) after x) id a c
  cut_on u r answer part old = by was refl
    where
      by : (w : Bool) → was ≡ w → CutsUsed (λ x. Hears (L first) (W first) after x) id a c
      by false is = record { because = hears_first true part.0; said = prefix_behind [] (used_text id) a b c (subst (λ z. Appends (told_text id z) a b) is before) part.1 }
      by true is = absurd (not_both u r answer (old is).0)

-- it was asked last before a link was accepted
pub tells_still : (L : List Entry → Type 0) (W : List Entry → Bool) (id : List ℕ) (told : Bool) (after later : List Entry) (a c : Option (List ℕ)) → later ≡ after
    → Hears L W after told × Appends (told_text id told) a c → TellsUsed (λ x. Hears L W later x) id a c
tells_still L W id told after later a c same t = record { heard = told; because = subst (λ z. Hears L W z told) (sym same) t.0; said = t.1 }

pub still_heard : (L : List Entry → Type 0) (W : List Entry → Bool) (told : Bool) (after later : List Entry) → later ≡ after → told ≡ true → Hears L W after told → Hears L W later true
still_heard L W told after later same is h = subst (λ z. Hears L W z true) (sym same) (subst (λ t. Hears L W after t) is h)

-- at a port that is the same as another one
module _ {A : Type 0} (L : A → List Entry → Type 0) (W : A → List Entry → Bool) (first port : A) (seen : List Entry) (same : port ≡ first) where
  pub uses_at : (end : ServeEnd) (id : List ℕ) (a b : Option (List ℕ)) → Uses end (λ x. Hears (L port) (W port) seen x) id a b → Uses end (λ x. Hears (L first) (W first) seen x) id a b
  uses_at end id a b t = subst (λ p. Uses end (λ x. Hears (L p) (W p) seen x) id a b) same t

  pub served_at : (end : ServeEnd) (id address : List ℕ) (ds : List DialState) (a : Moment) (calls : Option (List Call)) (told : Option (List ServeJob)) (faults : ℕ) (o p : Outputs)
      → IsServedFrom end (λ x. Hears (L port) (W port) seen x) id address ds a calls told faults o p → IsServedFrom end (λ x. Hears (L first) (W first) seen x) id address ds a calls told faults o p
  served_at end id address ds a calls told faults o p t = subst (λ z. IsServedFrom end (λ x. Hears (L z) (W z) seen x) id address ds a calls told faults o p) same t

pub stops_uses : (Heard : Bool → Type 0) (id : List ℕ) (a c : Option (List ℕ)) (end : ServeEnd) (m n : Moment) → Stops end m n → TellsUsed Heard id a c → Uses end Heard id a c
stops_uses Heard id a c e.Done m n stops t = t
stops_uses Heard id a c e.HostFault m n stops t = t
stops_uses Heard id a c e.NoMemory m n stops t = absurd stops
stops_uses Heard id a c e.WriteFault m n stops t = absurd stops

pub stops_unfailed : (end : ServeEnd) (m n : Moment) → Stops end m n → end ≡ e.WriteFault → ⊥
stops_unfailed e.Done m n stops it = cc it
stops_unfailed e.HostFault m n stops it = cc it
stops_unfailed e.NoMemory m n stops it = stops
stops_unfailed e.WriteFault m n stops it = stops

pub unsaid_undone : (u : Unsaid) → end_of_unsaid u ≡ e.Done → ⊥
unsaid_undone Fault it = cc it
unsaid_undone NoMemory it = cc it

pub unsaid_unfailed : (u : Unsaid) → end_of_unsaid u ≡ e.HostFault → ⊥
unsaid_unfailed Fault it = cc it
unsaid_unfailed NoMemory it = cc it

pub unsaid_by : (u : Unsaid) → end_of_unsaid u ≡ e.WriteFault → u ≡ Fault
unsaid_by Fault it = refl
unsaid_by NoMemory it = cc it

pub unsaid_uses : (Heard : Bool → Type 0) (id : List ℕ) (a b : Option (List ℕ)) (u : Unsaid) → CutsUsed Heard id a b → Uses (end_of_unsaid u) Heard id a b
unsaid_uses Heard id a b Fault cut = cut
unsaid_uses Heard id a b NoMemory cut = inr cut

-- ---- under another reason

module _ (H K : Bool → Type 0) (so : (b : Bool) → H b → K b) where
  tells_as : (id : List ℕ) (a b : Option (List ℕ)) → TellsUsed H id a b → TellsUsed K id a b
  tells_as id a b t = record { heard = t.heard; because = so t.heard t.because; said = t.said }

  cuts_as : (id : List ℕ) (a b : Option (List ℕ)) → CutsUsed H id a b → CutsUsed K id a b
  cuts_as id a b t = record { because = so true t.because; said = t.said }

  pub uses_as : (end : ServeEnd) (id : List ℕ) (a b : Option (List ℕ)) → Uses end H id a b → Uses end K id a b
  uses_as e.Done id a b t = tells_as id a b t
  uses_as e.HostFault id a b t = tells_as id a b t
  uses_as e.NoMemory id a b (inl t) = inl (tells_as id a b t)
  uses_as e.NoMemory id a b (inr t) = inr (cuts_as id a b t)
  uses_as e.WriteFault id a b t = cuts_as id a b t

  breaks_as : (end : ServeEnd) (id : List ℕ) (answers : List Answer) (a b : Option (List ℕ)) → Breaks end H id answers a b → Breaks end K id answers a b
  breaks_as end id answers a b (inl none) = inl none
  breaks_as end id answers a b (inr t) = inr (uses_as end id a b t)

  comes_as : (end : ServeEnd) (id address : List ℕ) (ds : List DialState) (a b : Moment) (o p : Outputs) → Comes end H id address ds a b o p → Comes end K id address ds a b o p
  comes_as e.Done id address ds a b o p (done, told) = (done, uses_as e.Done id _ _ told)
  comes_as e.HostFault id address ds a b o p fails = record {
    made = fails.made;
    text = fails.text;
    held = fails.held;
    line = fails.line;
    fails = by fails.fails;
    serves = fails.serves;
    said = fails.said;
    told = fails.told;
  }
    where
      by : Fails H id address ds fails.made fails.text b.held fails.held fails.line → Fails K id address ds fails.made fails.text b.held fails.held fails.line
      by (inl deaf) = inl deaf
      by (inr (ends, text, told, line)) = inr (ends, text, uses_as e.HostFault id _ _ told, line)
  comes_as e.NoMemory id address ds a b o p (cut, told) = (cut, breaks_as e.NoMemory id _ _ _ told)
  comes_as e.WriteFault id address ds a b o p (cut, told) = (cut, breaks_as e.WriteFault id _ _ _ told)

  passes_as : (end : ServeEnd) (id : List ℕ) (admin : Bool) (Opened Refused : ℕ → Type 0) (address : List ℕ) (ds : List DialState) (a : Moment) (calls : Option (List Call))
      (told : Option (List ServeJob)) (faults : ℕ) (o p : Outputs) → Passes end admin Opened Refused H id address ds a calls told faults o p
      → Passes end admin Opened Refused K id address ds a calls told faults o p
  passes_as end id admin Opened Refused address ds a calls told faults o p t = record {
    space = t.space;
    between = t.between;
    begins = t.begins;
    served = record { held = t.served.held; links = t.served.links; comes = comes_as end id address ds t.between (moment calls told faults t.served.held t.served.links) o p t.served.comes };
  }

  pub served_as : (end : ServeEnd) (id : List ℕ) (policy : PolicyState) (log admin : Bool) (Opened Refused : ℕ → Type 0) (address : List ℕ) (ds : List DialState)
      (left left' : Option (List Stream)) (calls calls' : Option (List Call)) (told told' : Option (List ServeJob)) (faults faults' : ℕ) (o p : Outputs)
      → IsServed end id policy log admin Opened Refused H address ds left left' calls calls' told told' faults faults' o p
      → IsServed end id policy log admin Opened Refused K address ds left left' calls calls' told told' faults faults' o p
  served_as end id policy log admin Opened Refused address ds left left' calls calls' told told' faults faults' o p s = record { words = s.words; goes = by s.goes }
    where
      first : Moment
      first = moment calls told faults o.err (first_links id policy log s.words)

      by : (Drew s.words left left' × Passes end admin Opened Refused H id address ds first calls' told' faults' o p)
          ⊎ ((Drew s.words left left' ⊎ DrewNone end left left') × EndsBefore end admin calls calls' told told' faults faults' o p)
          → (Drew s.words left left' × Passes end admin Opened Refused K id address ds first calls' told' faults' o p)
          ⊎ ((Drew s.words left left' ⊎ DrewNone end left left') × EndsBefore end admin calls calls' told told' faults faults' o p)
      by (inr before) = inr before
      by (inl (drew, passes)) = inl (drew, passes_as end id admin Opened Refused address ds first calls' told' faults' o p passes)
