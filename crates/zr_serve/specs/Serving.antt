-- How serving goes, end by end.
use Rattle.std.specs.Prelude.{◌≡◌, ℕ, ◌⊎◌, ◌≤◌, Bool, true, false, List, [], ◌∷◌, ◌++◌, All, length, take, Option, Some, None}
use Rattle.rand_core.specs.Stream.{Stream}
use Rattle.zr_access.specs.Rules.{PolicyState}
use Rattle.zr_outside.specs.Counts.{Rose}
use Rattle.zr_outside.specs.Told.{Appends, AppendsPrefix}
use Rattle.zr_outside.specs.declared.host.Answer.{Answer}
use Rattle.zr_outside.specs.declared.host.Answer.TheVariants.{End, Failed}
use Rattle.zr_outside.specs.declared.host.Call.{Call}
use Rattle.zr_serve.specs.declared.end.ServeEnd.{ServeEnd}
use Rattle.zr_serve.specs.declared.end.ServeEnd.TheVariants.{Done, NoMemory, WriteFault, HostFault}
use Rattle.zr_serve.specs.Former.{Uses}
use Rattle.zr_serve.specs.Calls.{Made, listen_call, dials, accepts, IsGoing}
use Rattle.zr_dial.specs.Dial.{DialState}
use Rattle.zr_link_job.specs.declared.job.ServeJob.{ServeJob}
use Rattle.zr_serve.specs.Jobs.{LinksState, first_links}
use Rattle.zr_serve.specs.Lines.{serving_text, no_words_text, accept_text, listen_text, refused_text}
use Rattle.zr_serve.specs.Moments.{Moment, moment, Serves, BreaksOff}
use Rattle.zr_serve.specs.Space.{Space, Begins}

-- a line was written, or a prefix of it and a write failed
abbrev pub Says : List ℕ → Option (List ℕ) → Option (List ℕ) → ℕ → ℕ → Type 0
Says line held held' faults faults' = Appends line held held' ⊎ (AppendsPrefix line held held' × Rose faults faults')

-- It listened, dialled each address once, in order, and then accepted, with these answers
abbrev pub listening : List ℕ → List DialState → List Bool → List Answer → List Made
listening address ds gave answers = listen_call address true ∷ (dials ds gave ++ accepts answers)

-- accepting came to this answer first that doesn't go on
pub record Ends (last : Answer) (address : List ℕ) (ds : List DialState) (made : List Made) : Type 0 where
  pub gave : List Bool
  pub answers : List Answer
  pub all : length gave ≡ length ds
  pub going : All IsGoing answers
  pub calls_are : made ≡ listening address ds gave (answers ++ last ∷ [])

-- a write failed or memory ran out, which ended it sooner: while it dialled, or while it accepted
pub record EndsWithin (address : List ℕ) (ds : List DialState) (made : List Made) : Type 0 where
  pub gave : List Bool
  pub answers : List Answer
  pub going : All IsGoing answers
  pub order : (answers ≡ []) ⊎ (length gave ≡ length ds)
  pub calls_are : made ≡ listening address ds gave answers

-- accepting goes on
pub record Goes (a b : Moment) : Type 0 where
  pub answers : List Answer
  pub going : All IsGoing answers
  pub serves : Serves (accepts answers) a b

-- one accept that ends serving
abbrev pub Stops : ServeEnd → Moment → Moment → Type 0
Stops Done a b = Serves (accepts (End ∷ [])) a b
Stops HostFault a b = Serves (accepts (Failed ∷ [])) a b
Stops NoMemory a b = ⊥
Stops WriteFault a b = ⊥

-- accepting came to an answer that doesn't go on, or memory ran out, or the line that the identifier was in use before could not be written
abbrev pub Accepts : ServeEnd → Moment → Moment → Type 0
Accepts Done a b = (answers : List Answer) × All IsGoing answers × Serves (accepts (answers ++ End ∷ [])) a b
Accepts HostFault a b = (answers : List Answer) × All IsGoing answers × Serves (accepts (answers ++ Failed ∷ [])) a b
Accepts NoMemory a b = (answers : List Answer) × All IsGoing answers × Serves (accepts answers) a b
Accepts WriteFault a b = (answers : List Answer) × All IsGoing answers × Serves (accepts answers) a b

-- The host can't listen, or can't accept any more: which calls were made, what was said before, what was told while links were accepted, and the line
-- that tells why
abbrev pub Fails : (Bool → Type 0) → List ℕ → List ℕ → List DialState → List Made → List ℕ → Option (List ℕ) → Option (List ℕ) → List ℕ → Type 0
Fails Heard id address ds made said held held' line =
    ((made ≡ listen_call address false ∷ []) × (said ≡ []) × (held' ≡ held) × (line ≡ listen_text address))
    ⊎ (Ends Failed address ds made × (said ≡ serving_text id) × Uses HostFault Heard id held held' × (line ≡ accept_text))

-- What the two outputs hold, and how often a write to the error output failed
pub record Outputs : Type 0 where
  pub out : Option (List ℕ)
  pub err : Option (List ℕ)
  pub faults : ℕ

abbrev pub outputs : Option (List ℕ) → Option (List ℕ) → ℕ → Outputs
outputs out err faults = record { out = out; err = err; faults = faults }

-- No more links come: all was called, started and told
pub record Completes (id address : List ℕ) (ds : List DialState) (a b : Moment) (o p : Outputs) : Type 0 where
  pub made : List Made
  pub ends : Ends End address ds made
  pub serves : Serves made a b
  pub said : Appends (serving_text id) o.out p.out

-- The host failed
pub record FailsAt (Heard : Bool → Type 0) (id address : List ℕ) (ds : List DialState) (a b : Moment) (o p : Outputs) : Type 0 where
  pub made : List Made
  pub text : List ℕ
  pub held : Option (List ℕ)
  pub line : List ℕ
  pub fails : Fails Heard id address ds made text b.held held line
  pub serves : Serves made a b
  pub said : Appends text o.out p.out
  pub told : Says line held p.err o.faults p.faults

-- A write failed, or memory ran out
pub record CutsOff (id address : List ℕ) (ds : List DialState) (a b : Moment) (o p : Outputs) : Type 0 where
  pub made : List Made
  pub ends : EndsWithin address ds made
  pub breaks : BreaksOff made a b
  pub said : AppendsPrefix (serving_text id) o.out p.out

-- what was told by that end: nothing more while it dialled, and else what is told while links are accepted
abbrev pub Breaks : ServeEnd → (Bool → Type 0) → List ℕ → List Answer → Option (List ℕ) → Option (List ℕ) → Type 0
Breaks end Heard id answers held held' = ((answers ≡ []) × (held ≡ held')) ⊎ Uses end Heard id held held'

abbrev pub Comes : ServeEnd → (Bool → Type 0) → List ℕ → List ℕ → List DialState → Moment → Moment → Outputs → Outputs → Type 0
Comes Done Heard id address ds a b o p = Completes id address ds a b o p × Uses Done Heard id b.held p.err
Comes HostFault Heard id address ds a b o p = FailsAt Heard id address ds a b o p
Comes NoMemory Heard id address ds a b o p = (c : CutsOff id address ds a b o p) × Breaks NoMemory Heard id c.ends.answers b.held p.err
Comes WriteFault Heard id address ds a b o p = (c : CutsOff id address ds a b o p) × Breaks WriteFault Heard id c.ends.answers b.held p.err

-- The router was served from this moment on: to these calls of the host, these jobs told and failed starts of the crew
pub record IsServedFrom (end : ServeEnd) (Heard : Bool → Type 0) (id address : List ℕ) (ds : List DialState) (a : Moment) (calls : Option (List Call)) (told : Option (List ServeJob)) (faults : ℕ) (o p : Outputs) : Type 0 where
  pub held : Option (List ℕ)
  pub links : LinksState
  pub comes : Comes end Heard id address ds a (moment calls told faults held links) o p

-- what is told where it ended before it came to listen: the host has no random words, memory ran out, or the line that the administration space isn't open
-- could not be written
abbrev pub TellsBefore : ServeEnd → Bool → Outputs → Outputs → Type 0
TellsBefore Done admin o p = ⊥
TellsBefore HostFault admin o p = Says no_words_text o.err p.err o.faults p.faults
TellsBefore NoMemory admin o p = p.err ≡ o.err
TellsBefore WriteFault admin o p = (admin ≡ true) × AppendsPrefix refused_text o.err p.err

-- It ended before it came to listen: nothing was called, nothing was started, and nothing is served
pub record EndsBefore (end : ServeEnd) (admin : Bool) (calls calls' : Option (List Call)) (told told' : Option (List ServeJob)) (faults faults' : ℕ) (o p : Outputs) : Type 0 where
  pub recorded : calls' ≡ calls
  pub started : told' ≡ told
  pub counted : faults ≤ faults'
  pub unsaid : p.out ≡ o.out
  pub tells : TellsBefore end admin o p

-- First something became of the administration space, and then the router was served
pub record Passes (end : ServeEnd) (admin : Bool) (Opened Refused : ℕ → Type 0) (Heard : Bool → Type 0) (id address : List ℕ) (ds : List DialState) (a : Moment) (calls : Option (List Call))
    (told : Option (List ServeJob)) (faults : ℕ) (o p : Outputs) : Type 0 where
  pub space : Space
  pub between : Moment
  pub begins : Begins admin Opened Refused space a between
  pub served : IsServedFrom end Heard id address ds between calls told faults o p

-- the host was asked once for a generator, where it tells those that it has left, and gave that of these words
abbrev pub Drew : Stream → Option (List Stream) → Option (List Stream) → Type 0
Drew words None left' = Unit {0}
Drew words (Some left) left' = (rest : List Stream) × (left ≡ words ∷ rest) × (left' ≡ Some rest)

-- it had none to give where it failed for want of one, and was not asked where memory ran out before; no other end comes before it was asked
abbrev pub DrewNone : ServeEnd → Option (List Stream) → Option (List Stream) → Type 0
DrewNone HostFault None left' = Unit {0}
DrewNone HostFault (Some left) left' = (left ≡ []) × (left' ≡ Some [])
DrewNone NoMemory None left' = Unit {0}
DrewNone NoMemory (Some left) left' = left' ≡ Some left
DrewNone Done left left' = ⊥
DrewNone WriteFault left left' = ⊥

-- A router of this identifier was served at this address under these rules, its links with logs or without, with an administration space or without, and these
-- were to be dialled: from the old calls of the host, jobs told and failed starts of the crew to the new ones, with the generator that the host gave, if it was asked
-- for one. `Opened` and `Refused` say of a random word that the inner client with it was opened, or that the router refused it; `Heard` says whether the
-- router had heard that its identifier was in use before
pub record IsServed (end : ServeEnd) (id : List ℕ) (policy : PolicyState) (log admin : Bool) (Opened Refused : ℕ → Type 0) (Heard : Bool → Type 0) (address : List ℕ) (ds : List DialState)
    (left left' : Option (List Stream)) (calls calls' : Option (List Call)) (told told' : Option (List ServeJob)) (faults faults' : ℕ) (o p : Outputs) : Type 0 where
  pub words : Stream
  pub goes : (Drew words left left' × Passes end admin Opened Refused Heard id address ds (moment calls told faults o.err (first_links id policy log words)) calls' told' faults' o p)
      ⊎ ((Drew words left left' ⊎ DrewNone end left left') × EndsBefore end admin calls calls' told told' faults faults' o p)

-- so many of the addresses were dialled
pub record Dials (ds : List DialState) (count : ℕ) (a b : Moment) : Type 0 where
  pub gave : List Bool
  pub all : length gave ≡ count
  pub serves : Serves (dials (take count ds) gave) a b
