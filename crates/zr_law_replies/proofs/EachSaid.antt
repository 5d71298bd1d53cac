-- Each thing that a client says is said to a query that it was sent: a client says something under a number only while it keeps a request of it (`queries_kept`).
use Rattle.std.proofs.Common.{◌≡◌, ◌≤◌, ◌<◌, ℕ, zero, suc, ◌+◌, true, cond, List, [], ◌∷◌, ◌++◌, length, Option, Some, None, is_some, Ok, Err, refl, sym, ap, ◌∙◌, subst, arith, append-nil}
use Rattle.std.specs.Prelude.{IfSome}
use Rattle.std.specs.List.{AllByRecursion, slice_get}
use Rattle.std.proofs.lemmas.Bool.{false≢true}
use Rattle.zr_script_spec.specs.declared.command.Act.{Act}
use Rattle.zr_script_spec.specs.declared.command.Act.TheVariants as c
use Rattle.zr_script_spec.specs.declared.report.ReportLine.{ReportLine}
use Rattle.zr_msg.specs.declared.content.Parts.{Parts}
use Rattle.zr_world_spec.specs.World.{ClientState, client_of}
use Rattle.zr_world_spec.specs.Acts.{has_number, Outcome, outcome}
use Rattle.zr_world_spec.specs.Moments.{Numbered, Moment, went}
use Rattle.zr_world_spec.proofs.Cases.{for_reply, for_end}
use Rattle.zr_lists.proofs.Each.{All-append}
use Rattle.zr_guarantee.specs.Queries.{Saying, sayings, ended_before, query_of, times_ended}
use Rattle.zr_guarantee.specs.Sent.{requests_to}
use Rattle.zr_law_replies.proofs.Grown.{Earlier, sayings_lines, sayings_more, ended_before_more, ends_below, query_kept}
use Rattle.zr_law_replies.proofs.Links.{Lines}
use Rattle.zr_law_replies.proofs.Standing.{Stands}

abbrev pub HasQuery : List Numbered → List ReportLine → Saying → Type 0
HasQuery acts report s = is_some (query_of acts report s) ≡ true

abbrev pub AllHaveQueries : List Numbered → List ReportLine → Type 0
AllHaveQueries acts report = AllByRecursion (λ s. HasQuery acts report s) (sayings acts)

-- a place in a list
there_is : (xs : List ℕ) (i : ℕ) → length xs ≡ i + 1 → is_some (slice_get xs i) ≡ true
there_is [] i e = absurd (omega arith)
there_is (x ∷ xs) zero e = refl
there_is (x ∷ xs) (suc i) e = there_is xs i (omega arith)

module _ (acts : List Numbered) (m : Moment) (lines : Lines) (h : Stands acts m lines) (n : ℕ) (act : Act) (before : Earlier acts (n, act)) (all : AllHaveQueries acts m.report) where
  abbrev more : List Numbered
  more = acts ++ (n, act) ∷ []

  -- what was said before
  old_has : (rl : List ReportLine) (s : Saying) → s.line ≤ n → HasQuery acts m.report s → HasQuery more (m.report ++ rl) s
  old_has rl s le has = by (query_of acts m.report s) refl has
    where
      by : (o : Option ℕ) → query_of acts m.report s ≡ o → is_some o ≡ true → HasQuery more (m.report ++ rl) s
      by None e k = absurd (false≢true k)
      by (Some line) e k = ap is_some (query_kept acts (n, act) m.report rl s line le e)

  old_have : (rl : List ReportLine) (ss : List Saying) → AllByRecursion (λ (s : Saying). s.line ≤ n) ss → AllByRecursion (λ s. HasQuery acts m.report s) ss → AllByRecursion (λ s. HasQuery more (m.report ++ rl) s) ss
  old_have rl [] le has = tt
  old_have rl (s ∷ ss) le has = (old_has rl s le.0 has.0, old_have rl ss le.1 has.1)

  all_have : (rl : List ReportLine) → AllByRecursion (λ s. HasQuery more (m.report ++ rl) s) (sayings ((n, act) ∷ [])) → AllHaveQueries more (m.report ++ rl)
  all_have rl new = subst (λ ss. AllByRecursion (λ s. HasQuery more (m.report ++ rl) s) ss) (sym (sayings_more acts (n, act)))
      (All-append (λ s. HasQuery more (m.report ++ rl) s) (sayings acts) (sayings ((n, act) ∷ [])) (old_have rl (sayings acts) (sayings_lines (λ k. k ≤ n) acts before.most) all) new)

  abbrev Then : Moment → Type 0
  Then next = AllHaveQueries more next.report

  -- an act by which nobody says anything
  quiet : sayings ((n, act) ∷ []) ≡ [] → (o : Outcome) → IfSome (went m o) Then
  quiet none (Ok x) = all_have x.0 (subst (λ ss. AllByRecursion (λ s. HasQuery more (m.report ++ x.0) s) ss) (sym none) tt)
  quiet none (Err e) = tt

  -- a client says something under a number that it keeps
  new_has : (name : List ℕ) (number : ℕ) (reply : Option Parts) (s : ClientState) → client_of m.world.clients name ≡ Some s → has_number s.requests number ≡ true →
      ended_before more name number n ≡ times_ended acts name number → HasQuery more (m.report ++ []) (record { line = n; client = name; number = number; reply = reply })
  new_has name number reply s found keeps ends =
      (λ i. is_some (slice_get (requests_to (append-nil m.report i) name number) (ends i)))
      ∙ there_is (requests_to m.report name number) (times_ended acts name number) ((h.books name s number found).kept.count ∙ ap (λ b. times_ended acts name number + cond b 1 0) keeps)

-- an act that is no step, by which a client ends nothing of the number before it
ends_then : (acts : List Numbered) (n : ℕ) (act : Act) (below : AllByRecursion (λ (y : Numbered). y.0 < n) acts) (name : List ℕ) (number : ℕ) → ended_before (acts ++ (n, act) ∷ []) name number n ≡ times_ended acts name number
ends_then acts n act below name number = ended_before_more acts (n, act) name number n (omega arith) ∙ ends_below name number n (sayings acts) (sayings_lines (λ k. k < n) acts below)

module _ (acts : List Numbered) (m : Moment) (lines : Lines) (h : Stands acts m lines) (all : AllHaveQueries acts m.report) where
  -- each act keeps it
  pub queries_kept : (n : ℕ) (act : Act) → Earlier acts (n, act) → IfSome (went m (outcome m.world n act)) (λ next. AllHaveQueries (acts ++ (n, act) ∷ []) next.report)
  unfolding outcome
  queries_kept n (c.Router id) before = quiet acts m lines h n (c.Router id) before all refl (outcome m.world n (c.Router id))
  queries_kept n (c.Client id router) before = quiet acts m lines h n (c.Client id router) before all refl (outcome m.world n (c.Client id router))
  queries_kept n (c.Link one other weight) before = quiet acts m lines h n (c.Link one other weight) before all refl (outcome m.world n (c.Link one other weight))
  queries_kept n (c.Up router name) before = quiet acts m lines h n (c.Up router name) before all refl (outcome m.world n (c.Up router name))
  queries_kept n (c.Break router name) before = quiet acts m lines h n (c.Break router name) before all refl (outcome m.world n (c.Break router name))
  queries_kept n (c.Down router name) before = quiet acts m lines h n (c.Down router name) before all refl (outcome m.world n (c.Down router name))
  queries_kept n (c.Sub client id key) before = quiet acts m lines h n (c.Sub client id key) before all refl (outcome m.world n (c.Sub client id key))
  queries_kept n (c.Unsub client id) before = quiet acts m lines h n (c.Unsub client id) before all refl (outcome m.world n (c.Unsub client id))
  queries_kept n (c.Token client id key) before = quiet acts m lines h n (c.Token client id key) before all refl (outcome m.world n (c.Token client id key))
  queries_kept n (c.Untoken client id) before = quiet acts m lines h n (c.Untoken client id) before all refl (outcome m.world n (c.Untoken client id))
  queries_kept n (c.Able client id key complete) before = quiet acts m lines h n (c.Able client id key complete) before all refl (outcome m.world n (c.Able client id key complete))
  queries_kept n (c.Unable client id) before = quiet acts m lines h n (c.Unable client id) before all refl (outcome m.world n (c.Unable client id))
  queries_kept n (c.Interest client id mode kinds key aggregate) before =
      quiet acts m lines h n (c.Interest client id mode kinds key aggregate) before all refl (outcome m.world n (c.Interest client id mode kinds key aggregate))
  queries_kept n (c.Uninterest client id) before = quiet acts m lines h n (c.Uninterest client id) before all refl (outcome m.world n (c.Uninterest client id))
  queries_kept n (c.Publish client content) before = quiet acts m lines h n (c.Publish client content) before all refl (outcome m.world n (c.Publish client content))
  queries_kept n (c.Get client number target content) before = quiet acts m lines h n (c.Get client number target content) before all refl (outcome m.world n (c.Get client number target content))
  queries_kept n (c.Reply client number content) before = for_reply m (λ next. AllHaveQueries (acts ++ (n, c.Reply client number content) ∷ []) next.report) n client number content
      (λ s es e ee unbroken keeps. all_have acts m lines h n (c.Reply client number content) before all []
      (new_has acts m lines h n (c.Reply client number content) before all client number (Some content) s es keeps (ends_then acts n (c.Reply client number content) (before.below refl) client number), tt))
  queries_kept n (c.End client number) before = for_end m (λ next. AllHaveQueries (acts ++ (n, c.End client number) ∷ []) next.report) n client number
      (λ s es e ee unbroken keeps. all_have acts m lines h n (c.End client number) before all []
      (new_has acts m lines h n (c.End client number) before all client number None s es keeps (ends_then acts n (c.End client number) (before.below refl) client number), tt))
  queries_kept n (c.Handle router from) before = quiet acts m lines h n (c.Handle router from) before all refl (outcome m.world n (c.Handle router from))
  queries_kept n (c.Take router to) before = quiet acts m lines h n (c.Take router to) before all refl (outcome m.world n (c.Take router to))
  queries_kept n c.Mark before = quiet acts m lines h n c.Mark before all refl (outcome m.world n c.Mark)
  queries_kept n (c.Show router) before = quiet acts m lines h n (c.Show router) before all refl (outcome m.world n (c.Show router))
