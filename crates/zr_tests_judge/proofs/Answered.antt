-- The judgement of replies and finals is right: it looks at all that say anything and at all that were sent anything, and for all other names there is
-- nothing to have and nothing was sent.
use Rattle.std.proofs.Common.{◌≡◌, ℕ, suc, Bool, true, false, cond, List, [], ◌∷◌, ◌++◌, length, map, refl, sym, ap, ◌∙◌, subst, inl, inr, arith}
use Rattle.std.specs.Prelude.{◌==◌, ◌&&◌, ◌||◌, ◌⊎◌, ◌≤◌, not, nat_le, filter, Option, Some, None}
use Rattle.std.specs.List.{list_any, list_all, filter_map, cons_option, starts_with, AllByRecursion}
use Rattle.std.proofs.lemmas.Bool.{false≢true, and_parts, and_from, or_parts, or_left, or_right, or_cases, eqb-true, leb-true, le-leb}
use Rattle.std.proofs.lemmas.List.Sums.{length-filter}
use Rattle.zr_lists.proofs.Truths.{where_so, so_there}
use Rattle.zr_id.specs.Zid.{is_named}
use Rattle.zr_msg.specs.declared.content.Parts.{Parts}
use Rattle.zr_msg.specs.declared.msg.Msg.{Msg}
use Rattle.zr_msg.specs.declared.msg.Msg.TheVariants as m
use Rattle.zr_script_spec.specs.declared.report.ReportLine.{ReportLine}
use Rattle.zr_script_spec.specs.declared.report.ReportLine.TheVariants as r
use Rattle.zr_lists.specs.Prefix.{IsPrefixOf}
use Rattle.zr_lists.proofs.Tests.{all_true}
use Rattle.zr_world_spec.proofs.Names.{same_name}
use Rattle.zr_world_spec.specs.World.{WorldState, is_quiet}
use Rattle.zr_world_spec.specs.Moments.{Numbered, Moment}
use Rattle.zr_guarantee.specs.Item.{Reply}
use Rattle.zr_guarantee.specs.Names.{is_router}
use Rattle.zr_guarantee.specs.Queries.{Asked, Saying, sayings, times_asked, times_ended, turn, replies, reply_of, is_said_to}
use Rattle.zr_guarantee.specs.Latest.{IsAnsweredLatest, asks_latest, all_may_come}
use Rattle.zr_guarantee.specs.Sent.{Told, told_in, told_to, is_request, requests_to, replies_in, is_final, finals_in, behind_finals}
use Rattle.zr_guarantee.specs.Refines.{IsAnswered, IsAnsweredBy, sent_of_query}
use Rattle.zr_tests_judge.specs.Same.{is_same_reply, is_same_key_body}
use Rattle.zr_tests_judge.specs.Judge.{Judged, acts_of, replies_due, replies_sent, replies_behind, is_final_sent, have_ended, is_none_left, replier_holds, best_due, best_sent, has_all_best, is_nothing, best_holds, contents_hold, query_holds, replies_hold, requests_hold, finals_hold, answers_hold}
use Rattle.zr_tests_judge.specs.Equal.{one_reply, one_key_body}
use Rattle.zr_tests_judge.proofs.Begins.{prefix_means, prefix_holds, same_holds, both_prefixes}
use Rattle.zr_tests_judge.proofs.Delivered.{none_pass, tells_of, none_told}

-- ---- names of which nothing is to be said

-- what all names in a list pass, a name that is one of them does
found : {X : Type 0} (name_of : X → List ℕ) (passes : List ℕ → Bool) (name : List ℕ) (xs : List X) →
    list_any (λ x. is_named name (name_of x)) xs ≡ true → list_all (λ x. passes (name_of x)) xs ≡ true → passes name ≡ true
found name_of passes name [] h k = absurd (false≢true h)
found name_of passes name (x ∷ xs) h k =
    let parts = and_parts (passes (name_of x)) (list_all (λ y. passes (name_of y)) xs) k in
    by parts.0 (λ later. found name_of passes name xs later parts.1) (or_cases (is_named name (name_of x)) (list_any (λ y. is_named name (name_of y)) xs) h)
  where
    by : passes (name_of x) ≡ true → (list_any (λ y. is_named name (name_of y)) xs ≡ true → passes name ≡ true) →
        (is_named name (name_of x) ≡ true) ⊎ (list_any (λ y. is_named name (name_of y)) xs ≡ true) → passes name ≡ true
    by here ih (inl e) = subst (λ (other : List ℕ). passes other ≡ true) (sym (same_name name (name_of x) e)) here
    by here ih (inr e) = ih e

-- who says nothing has no replies
no_replies : (acts : List Numbered) (report : List ReportLine) (q : Asked) (replier : List ℕ) (xs : List Saying) →
    list_any (λ s. is_named replier s.client) xs ≡ false → filter_map (λ s. reply_of acts report q replier s s.reply) xs ≡ []
no_replies acts report q replier [] h = refl
no_replies acts report q replier (s ∷ xs) h =
    let parts = or_parts (is_named replier s.client) (list_any (λ z. is_named replier z.client) xs) h in
    ap (λ o. cons_option o (filter_map (λ z. reply_of acts report q replier z z.reply) xs)) (by s.reply parts.0) ∙ no_replies acts report q replier xs parts.1
  where
    by : (o : Option Parts) → is_named replier s.client ≡ false → reply_of acts report q replier s o ≡ None
    by None k = refl
    by (Some content) k = ap (λ b. cond (b && is_said_to acts report q.line s) (Some (record { line = s.line; number = q.number; content = content })) None) k

-- and none that were sent
none_of_query : (acts : List Numbered) (report : List ReportLine) (q : Asked) (replier : List ℕ) (told : List Told) →
    replies acts report q replier ≡ [] → sent_of_query acts report q replier told ≡ []
none_of_query acts report q replier told e =
    ap (λ ds. filter (λ x. list_any (λ d. d.line == x.line) ds) (replies_in told)) e ∙ none_pass (λ x. false) (λ x. refl) (replies_in told)

none_left : (xs : List Reply) → is_none_left xs ≡ true → xs ≡ []
none_left [] h = refl
none_left (x ∷ xs) h = absurd (false≢true h)

nothing : (xs : List (List ℕ × List ℕ)) → is_nothing xs ≡ true → xs ≡ []
nothing [] h = refl
nothing (x ∷ xs) h = absurd (false≢true h)

module _ (j : Judged) where
  -- ---- a query and a replier

  -- what is said of the two
  record HasReplies (q : Asked) (replier : List ℕ) : Type 0 where
    prefix : IsPrefixOf (replies_sent j q replier) (replies_due j q replier)
    whole : (is_final_sent j q || j.quiet) ≡ true → replies_sent j q replier ≡ replies_due j q replier
    last : replies_behind j q replier ≡ []

  holds_means : (q : Asked) (replier : List ℕ) → replier_holds j q replier ≡ true → HasReplies q replier
  holds_means q replier h =
      let parts = and_parts begins (whole && ends) h in
      let more = and_parts whole ends parts.1 in
      record {
        prefix = prefix_means is_same_reply one_reply sent due parts.0;
        whole = λ w. both_prefixes is_same_reply one_reply sent due parts.0 (so_there (is_final_sent j q || j.quiet) (starts_with is_same_reply sent due) more.0 w);
        last = none_left (replies_behind j q replier) more.1;
      }
    where
      sent : List Reply
      sent = replies_sent j q replier

      due : List Reply
      due = replies_due j q replier

      begins : Bool
      begins = starts_with is_same_reply due sent

      whole : Bool
      whole = not (is_final_sent j q || j.quiet) || starts_with is_same_reply sent due

      ends : Bool
      ends = is_none_left (replies_behind j q replier)

  means_holds : (q : Asked) (replier : List ℕ) → HasReplies q replier → replier_holds j q replier ≡ true
  means_holds q replier h =
      and_from (starts_with is_same_reply due sent) (whole && is_none_left (replies_behind j q replier)) (prefix_holds is_same_reply one_reply sent due h.prefix)
      (and_from whole (is_none_left (replies_behind j q replier))
      (where_so (is_final_sent j q || j.quiet) (starts_with is_same_reply sent due) (λ w. same_holds is_same_reply one_reply due sent (sym (h.whole w))))
      (ap is_none_left h.last))
    where
      sent : List Reply
      sent = replies_sent j q replier

      due : List Reply
      due = replies_due j q replier

      whole : Bool
      whole = not (is_final_sent j q || j.quiet) || starts_with is_same_reply sent due

  nothing_said : (q : Asked) (replier : List ℕ) → list_any (λ s. is_named replier s.client) (sayings (acts_of j)) ≡ false → HasReplies q replier
  nothing_said q replier h = record {
    prefix = (replies_due j q replier, ap (λ sent. sent ++ replies_due j q replier) (sym (none (told_to j.report q.client))));
    whole = λ w. none (told_to j.report q.client) ∙ sym none_due;
    last = none (behind_finals q.number (turn (acts_of j) q) (told_to j.report q.client));
  }
    where
      none_due : replies_due j q replier ≡ []
      none_due = no_replies (acts_of j) j.report q replier (sayings (acts_of j)) h

      none : (told : List Told) → sent_of_query (acts_of j) j.report q replier told ≡ []
      none told = none_of_query (acts_of j) j.report q replier told none_due

  every_replier : (q : Asked) → list_all (λ s. replier_holds j q s.client) (sayings (acts_of j)) ≡ true → (replier : List ℕ) → HasReplies q replier
  every_replier q h replier = by (list_any (λ s. is_named replier s.client) (sayings (acts_of j))) refl
    where
      by : (b : Bool) → list_any (λ s. is_named replier s.client) (sayings (acts_of j)) ≡ b → HasReplies q replier
      by true e = holds_means q replier (found (λ s. s.client) (λ name. replier_holds j q name) replier (sayings (acts_of j)) e h)
      by false e = nothing_said q replier e

  -- ---- a query

  module _ (w : WorldState) (quiet_is : is_quiet w ≡ j.quiet) where
    abbrev now : Moment
    now = record { world = w; report = j.report }

    abbrev Answered : Asked → Type 0
    Answered q = IsAnsweredBy (asks_latest q) j.before (acts_of j) now q

    -- what is said of the final
    module _ (q : Asked) where
      abbrev finished : Bool
      finished = not (is_final_sent j q) || have_ended j q

      abbrev ends : Bool
      ends = not (j.quiet && have_ended j q) || is_final_sent j q

      final_only : finished ≡ true → is_final_sent j q ≡ true → have_ended j q ≡ true
      final_only h f = so_there (is_final_sent j q) (have_ended j q) h f

      final_comes : ends ≡ true → is_quiet w ≡ true → have_ended j q ≡ true → is_final_sent j q ≡ true
      final_comes h quiet ended = so_there (j.quiet && have_ended j q) (is_final_sent j q) h (and_from j.quiet (have_ended j q) (sym quiet_is ∙ quiet) ended)

      finals_hold_of : (is_final_sent j q ≡ true → have_ended j q ≡ true) → (is_quiet w ≡ true → have_ended j q ≡ true → is_final_sent j q ≡ true) → (finished && ends) ≡ true
      finals_hold_of only comes =
          and_from finished ends (where_so (is_final_sent j q) (have_ended j q) only)
          (where_so (j.quiet && have_ended j q) (is_final_sent j q) (λ e. let parts = and_parts j.quiet (have_ended j q) e in comes (quiet_is ∙ parts.0) parts.1))

    -- a query for all replies
    plain_sound : (q : Asked) → list_all (λ s. replier_holds j q s.client) (sayings (acts_of j)) ≡ true → finished q ≡ true → ends q ≡ true → IsAnswered j.before (acts_of j) now q
    plain_sound q h only comes = record {
      prefix = λ replier. (all replier).prefix;
      finished = final_only q only;
      complete = λ f replier. (all replier).whole (or_left (is_final_sent j q) j.quiet f);
      last = λ replier. (all replier).last;
      whole = λ quiet replier. (all replier).whole (or_right (is_final_sent j q) j.quiet (sym quiet_is ∙ quiet));
      final = final_comes q comes;
    }
      where
        all : (replier : List ℕ) → HasReplies q replier
        all = every_replier q h

    plain_complete : (q : Asked) → IsAnswered j.before (acts_of j) now q → list_all (λ s. replier_holds j q s.client) (sayings (acts_of j)) ≡ true
    plain_complete q h = all_true (λ s. replier_holds j q s.client) (λ s. means_holds q s.client (of s.client)) (sayings (acts_of j))
      where
        of : (replier : List ℕ) → HasReplies q replier
        of replier = record {
          prefix = h.prefix replier;
          whole = λ e. by (or_cases (is_final_sent j q) j.quiet e);
          last = h.last replier;
        }
          where
            by : (is_final_sent j q ≡ true) ⊎ (j.quiet ≡ true) → replies_sent j q replier ≡ replies_due j q replier
            by (inl f) = h.complete f replier
            by (inr quiet) = h.whole (quiet_is ∙ quiet) replier

    -- a query for the latest
    latest_sound : (q : Asked) → best_holds j q ≡ true → finished q ≡ true → ends q ≡ true → IsAnsweredLatest j.before (acts_of j) now q
    latest_sound q h only comes =
        let parts = and_parts waits (begins && whole) h in
        let more = and_parts begins whole parts.1 in
        let all : has_all_best j q ≡ true → sent ≡ due = λ e. both_prefixes is_same_key_body one_key_body sent due more.0 (so_there (has_all_best j q) (starts_with is_same_key_body sent due) more.1 e) in
        record {
          prefix = prefix_means is_same_key_body one_key_body sent due more.0;
          early = λ e. nothing sent (ap (λ b. b || is_nothing sent) (sym e) ∙ parts.0);
          finished = final_only q only;
          complete = λ f. all (or_left (is_final_sent j q) (j.quiet && have_ended j q) f);
          whole = λ quiet ended. all (or_right (is_final_sent j q) (j.quiet && have_ended j q) (and_from j.quiet (have_ended j q) (sym quiet_is ∙ quiet) ended));
          final = final_comes q comes;
        }
      where
        sent : List (List ℕ × List ℕ)
        sent = best_sent j q

        due : List (List ℕ × List ℕ)
        due = best_due j q

        begins : Bool
        begins = starts_with is_same_key_body due sent

        waits : Bool
        waits = have_ended j q || is_nothing sent

        whole : Bool
        whole = not (has_all_best j q) || starts_with is_same_key_body sent due

    latest_complete : (q : Asked) → IsAnsweredLatest j.before (acts_of j) now q → best_holds j q ≡ true
    latest_complete q h =
        and_from waits (begins && whole) (early (have_ended j q) refl)
        (and_from begins whole (prefix_holds is_same_key_body one_key_body sent due h.prefix)
        (where_so (has_all_best j q) (starts_with is_same_key_body sent due)
        (λ e. same_holds is_same_key_body one_key_body due sent (sym (all (or_cases (is_final_sent j q) (j.quiet && have_ended j q) e))))))
      where
        sent : List (List ℕ × List ℕ)
        sent = best_sent j q

        due : List (List ℕ × List ℕ)
        due = best_due j q

        begins : Bool
        begins = starts_with is_same_key_body due sent

        waits : Bool
        waits = have_ended j q || is_nothing sent

        whole : Bool
        whole = not (has_all_best j q) || starts_with is_same_key_body sent due

        early : (b : Bool) → have_ended j q ≡ b → (b || is_nothing sent) ≡ true
        early true e = refl
        early false e = ap is_nothing (h.early e)

        all : (is_final_sent j q ≡ true) ⊎ ((j.quiet && have_ended j q) ≡ true) → sent ≡ due
        all (inl f) = h.complete f
        all (inr e) = let parts = and_parts j.quiet (have_ended j q) e in h.whole (quiet_is ∙ parts.0) parts.1

    query_sound : (q : Asked) → query_holds j q ≡ true → Answered q
    query_sound q h =
        let parts = and_parts (contents_hold (asks_latest q) j q) (finished q && ends q) h in
        let finals = and_parts (finished q) (ends q) parts.1 in
        by (asks_latest q) parts.0 finals.0 finals.1
      where
        by : (b : Bool) → contents_hold b j q ≡ true → finished q ≡ true → ends q ≡ true → IsAnsweredBy b j.before (acts_of j) now q
        by true holds only comes = latest_sound q holds only comes
        by false holds only comes = plain_sound q holds only comes

    query_complete : (q : Asked) → Answered q → query_holds j q ≡ true
    query_complete q h = let both = by (asks_latest q) h in and_from (contents_hold (asks_latest q) j q) (finished q && ends q) both.0 both.1
      where
        by : (b : Bool) → IsAnsweredBy b j.before (acts_of j) now q → (contents_hold b j q ≡ true) × ((finished q && ends q) ≡ true)
        by true answered = (latest_complete q answered, finals_hold_of q answered.finished answered.final)
        by false answered = (plain_complete q answered, finals_hold_of q answered.finished answered.final)

    pub queries_sound : (qs : List Asked) → list_all (λ q. query_holds j q) qs ≡ true → AllByRecursion (λ q. Answered q) qs
    queries_sound [] h = tt
    queries_sound (q ∷ qs) h = let parts = and_parts (query_holds j q) (list_all (λ z. query_holds j z) qs) h in (query_sound q parts.0, queries_sound qs parts.1)

    pub queries_complete : (qs : List Asked) → AllByRecursion (λ q. Answered q) qs → list_all (λ q. query_holds j q) qs ≡ true
    queries_complete [] h = refl
    queries_complete (q ∷ qs) h = and_from (query_holds j q) (list_all (λ z. query_holds j z) qs) (query_complete q h.0) (queries_complete qs h.1)

  -- ---- no other replies and finals, and requests one at a time

  -- of a message that its client was sent: requests and finals of its number are no more than they may be
  abbrev in_number : List ℕ → Msg → Bool
  in_number d msg = requests_hold j d msg && finals_hold j d msg

  -- who was sent something has a line that tells of it
  replies_found : (report : List ReportLine) (d : List ℕ) → is_router j.before d ≡ false → list_any (tells_of d) report ≡ true →
      list_all (λ x. answers_hold j x) report ≡ true → replies_hold j d ≡ true
  replies_found [] d other h k = absurd (false≢true h)
  replies_found (x ∷ xs) d other h k =
      by x (and_parts (answers_hold j x) (list_all (λ y. answers_hold j y) xs) k).0
      (λ later. replies_found xs d other later (and_parts (answers_hold j x) (list_all (λ y. answers_hold j y) xs) k).1)
      (or_cases (tells_of d x) (list_any (tells_of d) xs) h)
    where
      by : (line : ReportLine) → answers_hold j line ≡ true → (list_any (tells_of d) xs ≡ true → replies_hold j d ≡ true) →
          (tells_of d line ≡ true) ⊎ (list_any (tells_of d) xs ≡ true) → replies_hold j d ≡ true
      by (r.Taken router to msg tag) here ih (inl e) =
          subst (λ (name : List ℕ). replies_hold j name ≡ true) (sym (same_name d to e)) (and_parts (replies_hold j to) (in_number to msg) (own here)).0
        where
          own : (is_router j.before to || (replies_hold j to && in_number to msg)) ≡ true → (replies_hold j to && in_number to msg) ≡ true
          own k = ap (λ b. b || (replies_hold j to && in_number to msg)) (sym (ap (is_router j.before) (sym (same_name d to e)) ∙ other)) ∙ k
      by (r.Handled router name msg tag) here ih (inl e) = absurd (false≢true e)
      by (r.Ran steps quiet) here ih (inl e) = absurd (false≢true e)
      by (r.Fanned lines steps kinds) here ih (inl e) = absurd (false≢true e)
      by (r.Mark n) here ih (inl e) = absurd (false≢true e)
      by (r.Show router) here ih (inl e) = absurd (false≢true e)
      by (r.Record links) here ih (inl e) = absurd (false≢true e)
      by (r.Parent root parent) here ih (inl e) = absurd (false≢true e)
      by (r.Source source number decls) here ih (inl e) = absurd (false≢true e)
      by line here ih (inr e) = ih e

  -- no more requests of a number came than were ended and one, and no more finals than queries
  abbrev few_requests : List ℕ → ℕ → Bool
  few_requests d number = nat_le (length (requests_to j.report d number)) (suc (times_ended (acts_of j) d number))

  abbrev few_finals : List ℕ → ℕ → Bool
  few_finals d number = nat_le (finals_in number (told_to j.report d)) (times_asked (acts_of j) d number)

  -- a request and a final have a line that tells of it
  request_here : (d : List ℕ) (number : ℕ) (msg : Msg) → is_request number msg ≡ true → requests_hold j d msg ≡ true → few_requests d number ≡ true
  request_here d number (m.Request tree id target content) e h = subst (λ (n : ℕ). few_requests d n ≡ true) (eqb-true id number e) h
  request_here d number (m.Sub id key) e h = absurd (false≢true e)
  request_here d number (m.Unsub id) e h = absurd (false≢true e)
  request_here d number (m.Token id key) e h = absurd (false≢true e)
  request_here d number (m.Untoken id) e h = absurd (false≢true e)
  request_here d number (m.Able id key complete) e h = absurd (false≢true e)
  request_here d number (m.Unable id) e h = absurd (false≢true e)
  request_here d number (m.Interest id current future kinds key aggregate) e h = absurd (false≢true e)
  request_here d number (m.EndInterest id) e h = absurd (false≢true e)
  request_here d number (m.ToldSub id key interest) e h = absurd (false≢true e)
  request_here d number (m.ToldToken id key interest) e h = absurd (false≢true e)
  request_here d number (m.ToldAble id key complete interest) e h = absurd (false≢true e)
  request_here d number (m.ToldUnsub id) e h = absurd (false≢true e)
  request_here d number (m.ToldUntoken id) e h = absurd (false≢true e)
  request_here d number (m.ToldUnable id) e h = absurd (false≢true e)
  request_here d number (m.ToldEnd interest) e h = absurd (false≢true e)
  request_here d number (m.Push tree content) e h = absurd (false≢true e)
  request_here d number (m.Response id content) e h = absurd (false≢true e)
  request_here d number (m.Final id extras) e h = absurd (false≢true e)
  request_here d number (m.State links) e h = absurd (false≢true e)
  request_here d number (m.Step source n added decl) e h = absurd (false≢true e)
  request_here d number (m.Snap source n decls) e h = absurd (false≢true e)

  final_here : (d : List ℕ) (number : ℕ) (msg : Msg) → is_final number msg ≡ true → finals_hold j d msg ≡ true → few_finals d number ≡ true
  final_here d number (m.Final id extras) e h = subst (λ (n : ℕ). few_finals d n ≡ true) (eqb-true id number e) h
  final_here d number (m.Sub id key) e h = absurd (false≢true e)
  final_here d number (m.Unsub id) e h = absurd (false≢true e)
  final_here d number (m.Token id key) e h = absurd (false≢true e)
  final_here d number (m.Untoken id) e h = absurd (false≢true e)
  final_here d number (m.Able id key complete) e h = absurd (false≢true e)
  final_here d number (m.Unable id) e h = absurd (false≢true e)
  final_here d number (m.Interest id current future kinds key aggregate) e h = absurd (false≢true e)
  final_here d number (m.EndInterest id) e h = absurd (false≢true e)
  final_here d number (m.ToldSub id key interest) e h = absurd (false≢true e)
  final_here d number (m.ToldToken id key interest) e h = absurd (false≢true e)
  final_here d number (m.ToldAble id key complete interest) e h = absurd (false≢true e)
  final_here d number (m.ToldUnsub id) e h = absurd (false≢true e)
  final_here d number (m.ToldUntoken id) e h = absurd (false≢true e)
  final_here d number (m.ToldUnable id) e h = absurd (false≢true e)
  final_here d number (m.ToldEnd interest) e h = absurd (false≢true e)
  final_here d number (m.Push tree content) e h = absurd (false≢true e)
  final_here d number (m.Request tree id target content) e h = absurd (false≢true e)
  final_here d number (m.Response id content) e h = absurd (false≢true e)
  final_here d number (m.State links) e h = absurd (false≢true e)
  final_here d number (m.Step source n added decl) e h = absurd (false≢true e)
  final_here d number (m.Snap source n decls) e h = absurd (false≢true e)

  -- of the messages of a kind that a client was sent there are none, or what the line of one of them shows is true
  module _ (d : List ℕ) (other : is_router j.before d ≡ false) (of_kind : Msg → Bool) (shown : Bool) (shows : (msg : Msg) → of_kind msg ≡ true → in_number d msg ≡ true → shown ≡ true) where
    kind_found : (report : List ReportLine) → list_all (λ x. answers_hold j x) report ≡ true → (filter (λ x. of_kind x.msg) (told_to report d) ≡ []) ⊎ (shown ≡ true)
    kind_found [] k = inl refl
    kind_found (x ∷ xs) k =
        let parts = and_parts (answers_hold j x) (list_all (λ y. answers_hold j y) xs) k in
        by x parts.0 (kind_found xs parts.1)
      where
        by : (line : ReportLine) → answers_hold j line ≡ true → (filter (λ x. of_kind x.msg) (told_to xs d) ≡ []) ⊎ (shown ≡ true) →
            (filter (λ x. of_kind x.msg) (cons_option (told_in d line) (told_to xs d)) ≡ []) ⊎ (shown ≡ true)
        by line here (inr so) = inr so
        by (r.Taken router to msg tag) here (inl none) = at (is_named d to) refl (of_kind msg) refl
          where
            at : (b : Bool) → is_named d to ≡ b → (f : Bool) → of_kind msg ≡ f →
                (filter (λ x. of_kind x.msg) (cons_option (cond b (Some (record { msg = msg; tag = tag })) None) (told_to xs d)) ≡ []) ⊎ (shown ≡ true)
            at false e f ef = inl none
            at true e false ef = inl (rw ef none)
            at true e true ef = inr (shows msg ef (and_parts (replies_hold j d) (in_number d msg) own).1)
              where
                own : (replies_hold j d && in_number d msg) ≡ true
                own = ap (λ b. b || (replies_hold j d && in_number d msg)) (sym other)
                    ∙ subst (λ (name : List ℕ). (is_router j.before name || (replies_hold j name && in_number name msg)) ≡ true) (sym (same_name d to e)) here
        by (r.Handled router name msg tag) here (inl none) = inl none
        by (r.Ran steps quiet) here (inl none) = inl none
        by (r.Fanned lines steps kinds) here (inl none) = inl none
        by (r.Mark n) here (inl none) = inl none
        by (r.Show router) here (inl none) = inl none
        by (r.Record links) here (inl none) = inl none
        by (r.Parent root parent) here (inl none) = inl none
        by (r.Source source n decls) here (inl none) = inl none

  -- ---- what is said of receivers

  abbrev MayCome : Type 0
  MayCome = (d : List ℕ) → is_router j.before d ≡ false → all_may_come (acts_of j) j.report d [] (told_to j.report d) ≡ true

  abbrev FewRequests : Type 0
  FewRequests = (d : List ℕ) (number : ℕ) → is_router j.before d ≡ false → length (requests_to j.report d number) ≤ suc (times_ended (acts_of j) d number)

  abbrev FewFinals : Type 0
  FewFinals = (d : List ℕ) (number : ℕ) → is_router j.before d ≡ false → finals_in number (told_to j.report d) ≤ times_asked (acts_of j) d number

  pub replies_sound : list_all (λ x. answers_hold j x) j.report ≡ true → MayCome
  replies_sound h d other = by (list_any (tells_of d) j.report) refl
    where
      by : (b : Bool) → list_any (tells_of d) j.report ≡ b → replies_hold j d ≡ true
      by true e = replies_found j.report d other e h
      by false e = ap (all_may_come (acts_of j) j.report d []) (none_told j.report d e)

  pub requests_sound : list_all (λ x. answers_hold j x) j.report ≡ true → FewRequests
  requests_sound h d number other = by (kind_found d other (is_request number) (few_requests d number) shows j.report h)
    where
      shows : (msg : Msg) → is_request number msg ≡ true → in_number d msg ≡ true → few_requests d number ≡ true
      shows msg e k = request_here d number msg e (and_parts (requests_hold j d msg) (finals_hold j d msg) k).0

      by : (filter (λ x. is_request number x.msg) (told_to j.report d) ≡ []) ⊎ (few_requests d number ≡ true) →
          length (requests_to j.report d number) ≤ suc (times_ended (acts_of j) d number)
      by (inl none) = let no : length (requests_to j.report d number) ≡ 0 = ap (λ xs. length (map (λ x. x.tag) xs)) none in omega (arith, no)
      by (inr few) = leb-true (length (requests_to j.report d number)) (suc (times_ended (acts_of j) d number)) few

  pub finals_sound : list_all (λ x. answers_hold j x) j.report ≡ true → FewFinals
  finals_sound h d number other = by (kind_found d other (is_final number) (few_finals d number) shows j.report h)
    where
      shows : (msg : Msg) → is_final number msg ≡ true → in_number d msg ≡ true → few_finals d number ≡ true
      shows msg e k = final_here d number msg e (and_parts (requests_hold j d msg) (finals_hold j d msg) k).1

      by : (filter (λ x. is_final number x.msg) (told_to j.report d) ≡ []) ⊎ (few_finals d number ≡ true) → finals_in number (told_to j.report d) ≤ times_asked (acts_of j) d number
      by (inl none) =
          let no : finals_in number (told_to j.report d) ≡ 0 = sym (length-filter (λ x. is_final number x.msg) (told_to j.report d)) ∙ ap length none in omega (arith, no)
      by (inr few) = leb-true (finals_in number (told_to j.report d)) (times_asked (acts_of j) d number) few

  pub answers_complete : MayCome → FewRequests → FewFinals → list_all (λ x. answers_hold j x) j.report ≡ true
  answers_complete may one_by_one few = all_true (λ x. answers_hold j x) line j.report
    where
      request : (d : List ℕ) → is_router j.before d ≡ false → (msg : Msg) → requests_hold j d msg ≡ true
      request d other (m.Request tree id target content) = le-leb (length (requests_to j.report d id)) (suc (times_ended (acts_of j) d id)) (one_by_one d id other)
      request d other msg = refl

      final : (d : List ℕ) → is_router j.before d ≡ false → (msg : Msg) → finals_hold j d msg ≡ true
      final d other (m.Final id extras) = le-leb (finals_in id (told_to j.report d)) (times_asked (acts_of j) d id) (few d id other)
      final d other msg = refl

      line : (x : ReportLine) → answers_hold j x ≡ true
      line (r.Taken router to msg tag) = by (is_router j.before to) refl
        where
          by : (b : Bool) → is_router j.before to ≡ b → (b || (replies_hold j to && in_number to msg)) ≡ true
          by true e = refl
          by false e = and_from (replies_hold j to) (in_number to msg) (may to e) (and_from (requests_hold j to msg) (finals_hold j to msg) (request to e msg) (final to e msg))
      line (r.Handled router name msg tag) = refl
      line (r.Ran steps quiet) = refl
      line (r.Fanned lines steps kinds) = refl
      line (r.Mark n) = refl
      line (r.Show router) = refl
      line (r.Record links) = refl
      line (r.Parent root parent) = refl
      line (r.Source source number decls) = refl
