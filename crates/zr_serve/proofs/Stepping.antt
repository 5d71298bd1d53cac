-- Serving step by step: calls behind other calls, jobs behind other jobs.
use Rattle.std.proofs.Common.{arith, suc, ◌≡◌, ℕ, ◌+◌, ◌-◌, ◌^◌, ◌≤◌, Bool, true, false, List, [], ◌∷◌, ◌++◌, length, Option, Some, None, refl, sym, ap, subst, ◌∙◌, append_assoc}
use Rattle.std.proofs.lemmas.List.{append-nil, length-append, map-append}
use Rattle.std.specs.Prelude.{min}
use Rattle.zr_outside.specs.Host as host
use Rattle.zr_outside.specs.Told.{Appends, AppendsPrefix}
use Rattle.zr_outside.specs.declared.host.Call.{Call}
use Rattle.zr_outside.proofs.Appending.{appends_none, appends_both, prefix_behind, prefix_whole}
use Rattle.zr_link_job.specs.Starts.{marked, unmarked, Tells, Starts}
use Rattle.zr_link_job.specs.declared.job.ServeJob.{ServeJob}
use Rattle.zr_link_job.proofs.Starting.{tells_none}
use Rattle.zr_serve.specs.Calls.{Made, Records, calls_of, link_of, new_links}
use Rattle.zr_serve.specs.Jobs.{LinksState, NewLink, next_job, with_next, jobs_of, behind}
use Rattle.zr_serve.specs.Lines.{complaint, complaints}
use Rattle.zr_serve.specs.Moments.{Moment, Serves, BreaksOff}

-- ---- lists of calls and of links

pub links_both : (xs ys : List Made) → new_links (xs ++ ys) ≡ new_links xs ++ new_links ys
links_both [] ys = refl
links_both (x ∷ xs) ys = ap (λ z. link_of x.weight x.call ++ z) (links_both xs ys) ∙ sym (append_assoc (link_of x.weight x.call) (new_links xs) (new_links ys))

pub complaints_both : (xs ys : List Made) → complaints (xs ++ ys) ≡ complaints xs ++ complaints ys
complaints_both [] ys = refl
complaints_both (x ∷ xs) ys = ap (λ z. complaint x.call ++ z) (complaints_both xs ys) ∙ sym (append_assoc (complaint x.call) (complaints xs) (complaints ys))

pub jobs_both : (l : LinksState) (xs ys : List NewLink) → jobs_of l (xs ++ ys) ≡ jobs_of l xs ++ jobs_of (behind l xs) ys
jobs_both l [] ys = refl
jobs_both l (x ∷ xs) ys = ap (λ z. next_job l x ∷ z) (jobs_both (with_next l) xs ys)

pub behind_both : (l : LinksState) (xs ys : List NewLink) → behind l (xs ++ ys) ≡ behind (behind l xs) ys
behind_both l [] ys = refl
behind_both l (x ∷ xs) ys = behind_both (with_next l) xs ys

-- ---- what the host records

pub records_none : (a : Option (List Call)) → Records [] a a
records_none None = tt
records_none (Some calls) = sym (append-nil calls)

pub records_one : (c : Made) (a b : Option (List Call)) → host.Records c.call a b → Records (c ∷ []) a b
records_one c None None h = tt
records_one c None (Some after) h = h
records_one c (Some calls) None h = tt
records_one c (Some calls) (Some after) h = h

pub records_both : (xs ys : List Made) (a b c : Option (List Call)) → Records xs a b → Records ys b c → Records (xs ++ ys) a c
records_both xs ys None None None h k = tt
records_both xs ys None None (Some z) h k = k
records_both xs ys None (Some y) c h k = absurd h
records_both xs ys (Some x) None None h k = tt
records_both xs ys (Some x) None (Some z) h k = absurd k
records_both xs ys (Some x) (Some y) None h k = tt
records_both xs ys (Some x) (Some y) (Some z) h k =
    k ∙ ap (λ w. w ++ calls_of ys) h ∙ append_assoc x (calls_of xs) (calls_of ys) ∙ ap (λ w. x ++ w) (sym (map-append (λ (m : Made). m.call) xs ys))

-- ---- the jobs that are started

pub marked_both : (ms ns : List Bool) (js ks : List ServeJob) → length ms ≡ length js → marked (ms ++ ns) (js ++ ks) ≡ marked ms js ++ marked ns ks
marked_both [] ns [] ks e = refl
marked_both [] ns (j ∷ js) ks e = absurd (by e)
  where
    by : 0 ≡ suc (length js) → ⊥
    by e = omega arith
marked_both (m ∷ ms) ns [] ks e = absurd (by e)
  where
    by : suc (length ms) ≡ 0 → ⊥
    by e = omega arith
marked_both (true ∷ ms) ns (j ∷ js) ks e = ap (λ z. j ∷ z) (marked_both ms ns js ks (omega arith))
marked_both (false ∷ ms) ns (j ∷ js) ks e = marked_both ms ns js ks (omega arith)

pub unmarked_both : (ms ns : List Bool) → unmarked (ms ++ ns) ≡ unmarked ms + unmarked ns
unmarked_both [] ns = omega arith
unmarked_both (true ∷ ms) ns = unmarked_both ms ns
unmarked_both (false ∷ ms) ns = omega (arith, unmarked_both ms ns)

tells_both : (js ks : List ServeJob) (a b c : Option (List ServeJob)) → Tells js a b → Tells ks b c → Tells (js ++ ks) a c
tells_both js ks None b c h k = rw h at k
tells_both js ks (Some told) b c h k = rw h at k ∙ ap Some (append_assoc told js ks)

back_both : (f g h u v : ℕ) → min (f + u) (2 ^ 64 - 1) ≤ g → min (g + v) (2 ^ 64 - 1) ≤ h → min (f + (u + v)) (2 ^ 64 - 1) ≤ h
back_both f g h u v p q = omega arith

pub starts_none : (t : Option (List ServeJob)) (f : ℕ) → Starts [] t t f f
starts_none t f = record { marks = []; each = refl; are_told = tells_none t; back = by f }
  where
    by : (f : ℕ) → min (f + 0) (2 ^ 64 - 1) ≤ f
    by f = omega arith

pub starts_both : (js ks : List ServeJob) (a b c : Option (List ServeJob)) (f g h : ℕ) → Starts js a b f g → Starts ks b c g h → Starts (js ++ ks) a c f h
starts_both js ks a b c f g h p q = record {
  marks = p.marks ++ q.marks;
  each = length-append p.marks q.marks ∙ (ap (λ n. n + length q.marks) p.each ∙ (ap (λ n. length js + n) q.each ∙ sym (length-append js ks)));
  are_told = subst (λ z. Tells z a c) (sym (marked_both p.marks q.marks js ks p.each)) (tells_both _ _ a b c p.are_told q.are_told);
  back = subst (λ n. min (f + n) (2 ^ 64 - 1) ≤ h) (sym (unmarked_both p.marks q.marks)) (back_both f g h _ _ p.back q.back);
}

-- ---- both

pub serves_none : (a : Moment) → Serves [] a a
serves_none a = record {
  recorded = records_none a.calls;
  started = starts_none a.told a.faults;
  links_are = refl;
  complained = appends_none a.held;
}

-- the jobs of calls that stand behind others
jobs_then : (l m : LinksState) (xs ys : List Made) → m ≡ behind l (new_links xs) → jobs_of l (new_links (xs ++ ys)) ≡ jobs_of l (new_links xs) ++ jobs_of m (new_links ys)
jobs_then l m xs ys is = ap (λ s. jobs_of l s) (links_both xs ys) ∙ (jobs_both l (new_links xs) (new_links ys)
    ∙ ap (λ z. jobs_of l (new_links xs) ++ jobs_of z (new_links ys)) (sym is))

pub serves_both : (xs ys : List Made) (a b c : Moment) → Serves xs a b → Serves ys b c → Serves (xs ++ ys) a c
serves_both xs ys a b c p q = record {
  recorded = records_both xs ys a.calls b.calls c.calls p.recorded q.recorded;
  started = subst (λ js. Starts js a.told c.told a.faults c.faults) (sym (jobs_then a.links b.links xs ys p.links_are))
      (starts_both _ _ a.told b.told c.told a.faults b.faults c.faults p.started q.started);
  links_are = q.links_are ∙ (ap (λ l. behind l (new_links ys)) p.links_are ∙ (sym (behind_both a.links (new_links xs) (new_links ys))
      ∙ ap (λ s. behind a.links s) (sym (links_both xs ys))));
  complained = subst (λ t. Appends t a.held c.held) (sym (complaints_both xs ys)) (appends_both _ _ a.held b.held c.held p.complained q.complained);
}

-- what was served is cut off behind its last call
pub whole_is_part : (made : List Made) (a b : Moment) → Serves made a b → BreaksOff made a b
whole_is_part made a b p = record { recorded = p.recorded; started = p.started; complained = prefix_whole _ a.held b.held p.complained }

pub breaks_both : (xs ys : List Made) (a b c : Moment) → Serves xs a b → BreaksOff ys b c → BreaksOff (xs ++ ys) a c
breaks_both xs ys a b c p q = record {
  recorded = records_both xs ys a.calls b.calls c.calls p.recorded q.recorded;
  started = subst (λ js. Starts js a.told c.told a.faults c.faults) (sym (jobs_then a.links b.links xs ys p.links_are))
      (starts_both _ _ a.told b.told c.told a.faults b.faults c.faults p.started q.started);
  complained = subst (λ t. AppendsPrefix t a.held c.held) (sym (complaints_both xs ys)) (prefix_behind _ _ a.held b.held c.held p.complained q.complained);
}
