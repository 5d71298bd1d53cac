-- What holds of a run by what its words ask for.
use Rattle.std.proofs.Common.{◌≡◌, ◌<◌, ◌≤◌, ◌∙◌, ◌⊎◌, ◌||◌, ℕ, Bool, false, refl, sym, ap, subst, List, [], Option, Some, None, Result, Ok, Err, inl, inr, true≢false, true}
use Rattle.std.specs.Prelude.{IfSome, is_some}
use Rattle.std.specs.List.{list_any}
use Rattle.std.specs.Option.{option_map_or}
use Rattle.rand_core.specs.Stream.{Stream}
use Rattle.zr_access.specs.Rules.{PolicyState, open_policy}
use Rattle.clap.specs.Kinds.{Kinds}
use Rattle.zr_netrun.specs.declared.options.NetOptions.{NetOptions}
use Rattle.zr_netrun.specs.declared.status.Status.{Status}
use Rattle.zr_netrun.specs.declared.status.Status.TheVariants as status
use Rattle.zr_netrun.specs.declared.status.Status.TheVariants.{NoMemory}
use Rattle.zr_netrun.specs.Clauses.{IsReported, IsSummedUp, OfRead, ReportsBeforeReads, WritesAsAsked}
use Rattle.zr_netrun.specs.Judged.{judged}
use Rattle.zr_netrun.proofs.Asked.{reports_before_reads}
use Rattle.zr_netrun.proofs.Reading.{as_before}
use Rattle.zr_link_job.specs.declared.job.ServeJob.{ServeJob}
use Rattle.zr_serve_router.specs.Former.{Heard}
use Rattle.zr_serve_router.specs.Space.{Opened, Refused}
use Rattle.zr_outside.specs.declared.host.Call.{Call}
use Rattle.zr_outside.proofs.Appending.{prefix_none}
use Rattle.zr_serve.proofs.Served.{not_begun}
use Rattle.zr_serve.specs.Serving.{Outputs}
use Rattle.zr_serve.specs.declared.end.ServeEnd.{ServeEnd}
use Rattle.zr_serve.specs.declared.end.ServeEnd.TheVariants as end
use Rattle.zr_rules.specs.Given.{OfBytes, TellsRules}
use Rattle.zr_rules.specs.declared.telling.RulesEnd.{RulesEnd}
use Rattle.zr_rules.specs.declared.telling.RulesEnd.TheVariants as rules_end
use Rattle.zr_rules.specs.declared.rules.RulesError.{RulesError}
use Rattle.zr_rules.specs.declared.rules.RulesError.TheVariants as rules_error
use Rattle.zr_top.specs.Asked.{Answers, HasRules, IsServingBy, status_of}
use Rattle.zr_top.specs.Told.{IsUnhindered}
use Rattle.zr_top.specs.Words.{asks_rules, options_by, reads_input}
use Rattle.zr_top_words.specs.Asked.{Asked, Served, asked_of, net_of, net_part, serve_part, served_of}
use Rattle.zr_top_words.specs.declared.plan.NetPlan.{NetPlan}
use Rattle.zr_top_words.specs.declared.plan.Plan.{Plan}
use Rattle.zr_top_words.specs.declared.plan.Plan.TheVariants as plan
use Rattle.zr_top_words.specs.declared.plan.ServeWords.{ServeWords}
use Rattle.zr_top_words.specs.Read.{asked_as, is_answer, may_answer, served_as, IsRefused}
use Rattle.zr_top_words.proofs.Causes.{answer_asks_none, refused_asks_none}

pub none_of : {A : Type 0} (r : Option A) (P : A → Type 0) → r ≡ None → IfSome r P
none_of r P e = subst (λ z. IfSome z P) (sym e) tt

pub all_of : {A : Type 0} (r : Option A) (P : A → Type 0) → ((x : A) → P x) → IfSome r P
all_of None P f = tt
all_of (Some x) P f = f x

-- ---- words with a plan

some≢none : {A : Type 0} (x : A) → Some x ≡ None → ⊥
some≢none x e = true≢false (ap is_some e)

-- they are not answered, nor refused
pub not_answered : (words : List (List ℕ)) (a : Asked) → asked_of words ≡ Some a → may_answer words ≡ true → ⊥
not_answered words a e h = some≢none a (sym e ∙ answer_asks_none words h)

pub not_refused : (words : List (List ℕ)) (a : Asked) → asked_of words ≡ Some a → IsRefused words → ⊥
not_refused words a e (inl h) = some≢none a (sym e ∙ refused_asks_none words h.0)
not_refused words a e (inr h) = some≢none a (sym e ∙ h.1)

-- ---- words that are answered

-- they are not refused
pub answered_not_refused : (words : List (List ℕ)) → may_answer words ≡ true → IsRefused words → ⊥
answered_not_refused words h (inl r) = true≢false (sym h ∙ r.1)
answered_not_refused words h (inr r) = true≢false (sym h ∙ ap (λ (k : Kinds). list_any is_answer k) r.0)

-- ---- memory ran out while words were read

-- nothing was read
pub nothing_read : (P : List ℕ → Type 0) (left : Option (List ℕ)) → P [] → OfRead left left P
nothing_read P None p = tt
nothing_read P (Some all) p = ([], all, refl, refl, p)

-- no script was run
pub no_script : (options : NetOptions) (left : Option (List ℕ)) (InputEnded : Type 0) (out err : Option (List ℕ))
    → WritesAsAsked options left left InputEnded NoMemory out out err err
no_script options left InputEnded out err = record {
  read = nothing_read _ left tt;
  report = λ plain. nothing_read (IsReported options.explain InputEnded NoMemory out out err err) left
      (false, λ e. absurd (true≢false (sym e)), (prefix_none (judged false []).text out, as_before err err refl));
  summed_up = λ summed. nothing_read (IsSummedUp options.explain InputEnded NoMemory out out err err) left
      (false, λ e. absurd (true≢false (sym e)), (as_before out out refl, as_before err err refl));
}

no_bytes : (left : Option (List ℕ)) → OfBytes left left (λ bytes. Unit {0})
no_bytes None = ([], tt, tt)
no_bytes (Some all) = ([], (all, refl, refl), tt)

-- no router was served, and no rules were read
asked_none : (rules : Bool) (s : Served) (left : Option (List ℕ)) (Ended : Type 0) (generators : Option (List Stream)) (calls : Option (List Call)) (told : Option (List ServeJob)) (faults : ℕ) (o : Outputs)
    → (given : Result PolicyState RulesError) × HasRules rules left left Ended given × Answers given s NoMemory generators generators calls calls told told faults faults o o
asked_none false s left Ended generators calls told faults o =
    (Ok open_policy, (refl, refl), record { how = end.NoMemory; end_is = refl; served = not_begun s.id open_policy s.log s.admin (Opened open_policy s.id) (Refused open_policy s.id) (Heard open_policy s.id) s.listen s.dials generators calls told faults o })
asked_none true s left Ended generators calls told faults o =
    (Err rules_error.NoMemory, no_bytes left, (refl, refl, refl, refl, (rules_end.NoMemory, refl, (refl, refl))))

pub no_router : (s : Served) (left : Option (List ℕ)) (Ended : Type 0) (generators : Option (List Stream)) (calls : Option (List Call)) (told : Option (List ServeJob)) (faults : ℕ) (o : Outputs)
    → IsServingBy s NoMemory left left Ended generators generators calls calls told told faults faults o o
no_router s left Ended generators calls told faults o =
    let none = asked_none s.rules s left Ended generators calls told faults o in
    record { given = none.0; rules = none.1; answers = none.2 }

-- ---- a read of the rules failed

-- nothing is told of that but the end
pub read_fault_kept : (explains : Bool) (e : RulesError) (how : RulesEnd) (err err' : Option (List ℕ)) → e ≡ rules_error.ReadFault → TellsRules explains e how err err' → how ≡ rules_end.ReadFault
read_fault_kept explains e how err err' is h = (subst (λ (z : RulesError). TellsRules explains z how err err') is h).0

-- ---- where nothing fails

pub unhindered : (e : Status) (P Q R H : Type 0) → (e ≡ status.ReadFault → P) → (e ≡ status.WriteFault → Q ⊎ R) → (e ≡ status.HostFault → H) → (P → ⊥) → (Q → ⊥) → (R → ⊥) → (H → ⊥) → IsUnhindered e
unhindered status.Done P Q R H read write host no_read no_out no_err no_host = tt
unhindered status.Refused P Q R H read write host no_read no_out no_err no_host = tt
unhindered status.Words P Q R H read write host no_read no_out no_err no_host = tt
unhindered status.NoMemory P Q R H read write host no_read no_out no_err no_host = tt
unhindered status.ReadFault P Q R H read write host no_read no_out no_err no_host = no_read (read refl)
unhindered status.WriteFault P Q R H read write host no_read no_out no_err no_host = by (write refl)
  where
    by : Q ⊎ R → ⊥
    by (inl q) = no_out q
    by (inr r) = no_err r
unhindered status.HostFault P Q R H read write host no_read no_out no_err no_host = no_host (host refl)

-- ---- words of `net`

-- what has ended was reported before each read
pub net_reports_before_reads : (words : List (List ℕ)) (left next : Option (List ℕ)) (InputEnded : Type 0) (e : Status) (a b c d : Option (List ℕ)) (r r' w w' : ℕ) →
    IfSome (net_of words) (λ plan. WritesAsAsked (options_by plan) left next InputEnded e a b c d) → (r < r' → e ≡ status.ReadFault) →
    (w < w' → e ≡ status.WriteFault) → w ≤ w' → IfSome (net_of words) (λ plan. ReportsBeforeReads (options_by plan) left next a b r r' w w')
net_reports_before_reads words left next InputEnded e a b c d r r' w w' writes read write later = by (net_of words) writes
  where
    by : (found : Option NetPlan) → IfSome found (λ plan. WritesAsAsked (options_by plan) left next InputEnded e a b c d) → IfSome found (λ plan. ReportsBeforeReads (options_by plan) left next a b r r' w w')
    by None h = tt
    by (Some plan) h = reports_before_reads (options_by plan) left next InputEnded e a b c d r r' w w' h read write later

-- ---- whether the input is read

net_reads : (words : List (List ℕ)) (plan : NetPlan) → net_of words ≡ Some plan → reads_input words ≡ true
net_reads words plan is = ap (λ o. is_some o || asks_rules words) is

served_reads : (words : List (List ℕ)) (s : Served) → net_of words ≡ None → served_of words ≡ Some s → reads_input words ≡ s.rules
served_reads words s none is = ap (λ o. is_some o || asks_rules words) none ∙ ap (λ o. option_map_or (λ (x : Served). x.rules) o false) is

-- a plan of `net` reads the input
pub net_plan_reads : (words : List (List ℕ)) (p : Plan) (q : NetPlan) → net_part (asked_as p) ≡ net_of words → p ≡ plan.Net q → reads_input words ≡ true
net_plan_reads words p q net is = net_reads words q (sym net ∙ ap (λ z. net_part (asked_as z)) is)

-- a plan of `serve` reads it where it has rules
pub serve_plan_reads : (words : List (List ℕ)) (p : Plan) (q : ServeWords) → net_part (asked_as p) ≡ net_of words → serve_part (asked_as p) ≡ served_of words
    → p ≡ plan.Serve q → reads_input words ≡ q.rules
serve_plan_reads words p q net serve is =
    served_reads words (served_as q) (sym net ∙ ap (λ z. net_part (asked_as z)) is) (sym serve ∙ ap (λ z. serve_part (asked_as z)) is)

-- a plan of `serve` is one that the words ask for
pub serve_plan_asked : (words : List (List ℕ)) (p : Plan) (q : ServeWords) → serve_part (asked_as p) ≡ served_of words → p ≡ plan.Serve q → is_some (served_of words) ≡ true
serve_plan_asked words p q serve is = ap is_some (sym serve ∙ ap (λ z. serve_part (asked_as z)) is)

-- ---- a failed write

-- a router's end tells it, or that its host has failed
pub write_or_host : (e : Status) (Asked : Type 0) → Asked → (e ≡ status.WriteFault) ⊎ (e ≡ status.HostFault) → (e ≡ status.WriteFault) ⊎ (e ≡ status.Words) ⊎ (Asked × (e ≡ status.HostFault))
write_or_host e Asked asked (inl write) = inl write
write_or_host e Asked asked (inr host) = inr (inr (asked, host))

-- the end of serving becomes the status
pub served_fault : (how : ServeEnd) (e : Status) → e ≡ status_of how → (how ≡ end.WriteFault) ⊎ (how ≡ end.HostFault) → (e ≡ status.WriteFault) ⊎ (e ≡ status.HostFault)
served_fault how e is (inl write) = inl (is ∙ ap status_of write)
served_fault how e is (inr host) = inr (is ∙ ap status_of host)
