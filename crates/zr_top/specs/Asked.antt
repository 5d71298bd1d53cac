-- What is said of the router that the words `serve ..` ask for.
use Rattle.std.specs.Prelude.{◌≡◌, ℕ, Bool, true, false, List, Option, Result, Ok, Err}
use Rattle.rand_core.specs.Stream.{Stream}
use Rattle.zr_access.specs.Rules.{PolicyState, open_policy}
use Rattle.zr_link_job.specs.declared.job.ServeJob.{ServeJob}
use Rattle.zr_netrun.specs.declared.status.Status.{Status}
use Rattle.zr_netrun.specs.declared.status.Status.TheVariants as status
use Rattle.zr_outside.specs.declared.host.Call.{Call}
use Rattle.zr_rules.specs.Given.{GivesRules, OfBytes, TellsRules}
use Rattle.zr_rules.specs.declared.telling.RulesEnd.{RulesEnd}
use Rattle.zr_rules.specs.declared.telling.RulesEnd.TheVariants as rules_end
use Rattle.zr_rules.specs.declared.rules.RulesError.{RulesError}
use Rattle.zr_serve.specs.declared.end.ServeEnd.{ServeEnd}
use Rattle.zr_serve.specs.declared.end.ServeEnd.TheVariants as end
use Rattle.zr_serve.specs.Serving.{Outputs, IsServed}
use Rattle.zr_serve_router.specs.Former.{Heard}
use Rattle.zr_serve_router.specs.Space.{Opened, Refused}
use Rattle.zr_top_words.specs.Asked.{Served}

abbrev pub status_of : ServeEnd → Status
status_of end.Done = status.Done
status_of end.NoMemory = status.NoMemory
status_of end.WriteFault = status.WriteFault
status_of end.HostFault = status.HostFault

-- how the program ends where the input gives no rules
abbrev pub status_of_rules : RulesEnd → Status
status_of_rules rules_end.Refused = status.Refused
status_of_rules rules_end.NoMemory = status.NoMemory
status_of_rules rules_end.ReadFault = status.ReadFault
status_of_rules rules_end.WriteFault = status.WriteFault

-- A router was served as the words ask for, under these rules, and ended so
pub record IsServing (s : Served) (policy : PolicyState) (end : Status) (generators generators' : Option (List Stream)) (calls calls' : Option (List Call)) (told told' : Option (List ServeJob)) (faults faults' : ℕ) (o p : Outputs) : Type 0 where
  pub how : ServeEnd
  pub end_is : end ≡ status_of how
  pub served : IsServed how s.id policy s.log s.admin (Opened policy s.id) (Refused policy s.id) (Heard policy s.id) s.listen s.dials generators generators' calls calls' told told' faults faults' o p

-- which rules there are: none where none are asked for, and else those that the bytes of the input give, if they give some
abbrev pub HasRules : Bool → Option (List ℕ) → Option (List ℕ) → Type 0 → Result PolicyState RulesError → Type 0
HasRules false left left' Ended given = (given ≡ Ok open_policy) × (left' ≡ left)
HasRules true left left' Ended given = OfBytes left left' (GivesRules Ended given)

-- with rules a router was served under them, and where the input gives none that was told, and nothing else was done
abbrev pub Answers : Result PolicyState RulesError → Served → Status → Option (List Stream) → Option (List Stream) → Option (List Call) → Option (List Call) → Option (List ServeJob) → Option (List ServeJob) → ℕ → ℕ → Outputs → Outputs → Type 0
Answers (Ok policy) s end generators generators' calls calls' told told' faults faults' o p = IsServing s policy end generators generators' calls calls' told told' faults faults' o p
Answers (Err e) s end generators generators' calls calls' told told' faults faults' o p =
    (calls' ≡ calls) × (told' ≡ told) × (faults' ≡ faults) × (p.out ≡ o.out) × ((how : RulesEnd) × (end ≡ status_of_rules how) × TellsRules s.explain e how o.err p.err)

-- what the words `serve ..` ask for was done: from the old bytes of the input, generators that the host had left, calls, jobs, failed starts and outputs to the new ones
pub record IsServingBy (s : Served) (end : Status) (left left' : Option (List ℕ)) (Ended : Type 0) (generators generators' : Option (List Stream)) (calls calls' : Option (List Call)) (told told' : Option (List ServeJob)) (faults faults' : ℕ) (o p : Outputs) : Type 0 where
  pub given : Result PolicyState RulesError
  pub rules : HasRules s.rules left left' Ended given
  pub answers : Answers given s end generators generators' calls calls' told told' faults faults' o p
