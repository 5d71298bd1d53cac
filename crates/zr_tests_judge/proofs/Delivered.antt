-- The judgement of samples and requests is right: it looks at each publisher of a line of the phase and each client that is attached or was sent
-- anything, and for all other names there is nothing to have and nothing was sent.
use Rattle.std.proofs.Common.{◌≡◌, ℕ, Bool, true, false, cond, List, [], ◌∷◌, ◌++◌, refl, sym, ap, ◌∙◌, subst, inl, inr}
use Rattle.std.specs.Prelude.{◌==◌, ◌&&◌, ◌||◌, ◌⊎◌, ◌↔◌, not, nat_lt, filter, Option, Some, None}
use Rattle.std.specs.List.{list_any, list_all, fold, flat_map, cons_option, starts_with}
use Rattle.std.specs.Option.{option_map_or}
use Rattle.std.proofs.lemmas.Bool.{false≢true, and_parts, and_from, and_left, and_right, or_parts, or_from, or_right, or_cases}
use Rattle.zr_lists.proofs.Tests.{all_true, all_both, all_parts}
use Rattle.zr_id.specs.Zid.{is_named}
use Rattle.zr_script_spec.specs.declared.command.Act.{Act}
use Rattle.zr_script_spec.specs.declared.command.Act.TheVariants as c
use Rattle.zr_script_spec.specs.declared.report.ReportLine.{ReportLine}
use Rattle.zr_script_spec.specs.declared.report.ReportLine.TheVariants as r
use Rattle.zr_world_spec.proofs.Names.{names, same_name}
use Rattle.zr_world_spec.specs.World.{WorldState, is_quiet}
use Rattle.zr_world_spec.specs.Moments.{Numbered}
use Rattle.zr_guarantee.specs.Names.{is_router}
use Rattle.zr_guarantee.specs.Item.{Item, Carried}
use Rattle.zr_guarantee.specs.Broker.{attached_by, is_attached, takes, is_for, Publication, publication, is_publisher, is_line_of, is_line, item_for, from}
use Rattle.zr_guarantee.specs.Sent.{Told, carried_by, items_of, item_of, told_in, told_to, sent_to}
use Rattle.zr_guarantee.specs.Refines.{Delivers}
use Rattle.zr_tests_judge.specs.Same.{is_same}
use Rattle.zr_tests_judge.specs.Equal.{one_item}
use Rattle.zr_tests_judge.specs.Judge.{Judged, is_right, sent_by, pair_holds, holds_for_client, holds_for_receiver, holds_for_all, holds_for, holds_for_publisher, is_allowed, may_be_sent, is_delivered}
use Rattle.zr_tests_judge.proofs.Begins.{prefix_means, prefix_holds, same_holds, both_prefixes}

-- ---- lists

pub none_pass : {X : Type 0} (p : X → Bool) → ((x : X) → p x ≡ false) → (xs : List X) → filter p xs ≡ []
none_pass p h [] = refl
none_pass p h (x ∷ xs) = rw (h x) (none_pass p h xs)

-- ---- names of which nothing is to be said

-- who publishes nothing in a phase has no line there
no_line : (phase : List Numbered) (a : List ℕ) (t : ℕ) → list_any (λ x. is_publisher a x.1) phase ≡ false → is_line_of phase a t ≡ false
no_line [] a t h = refl
no_line (x ∷ xs) a t h =
    let parts = or_parts (is_publisher a x.1) (list_any (λ y. is_publisher a y.1) xs) h in
    or_from (x.0 == t && is_publisher a x.1) (is_line_of xs a t) (and_right (x.0 == t) (is_publisher a x.1) parts.0) (no_line xs a t parts.1)

-- and nothing of it is to be had
none_due : (before phase : List Numbered) (a d : List ℕ) → list_any (λ x. is_publisher a x.1) phase ≡ false → from before phase a d ≡ []
none_due before [] a d h = refl
none_due before (x ∷ xs) a d h =
    let parts = or_parts (is_publisher a x.1) (list_any (λ y. is_publisher a y.1) xs) h in
    ap (λ z. z ++ from before xs a d) (by (publication x.1) parts.0) ∙ none_due before xs a d parts.1
  where
    by : (o : Option Publication) → option_map_or (λ p. is_named a p.client) o false ≡ false → item_for before a d x.0 o ≡ []
    by None k = refl
    by (Some p) k = rw k refl

-- who is not attached is to have nothing
none_wanted : (before phase : List Numbered) (a d : List ℕ) → is_attached before d ≡ false → from before phase a d ≡ []
none_wanted before [] a d h = refl
none_wanted before (x ∷ xs) a d h = ap (λ z. z ++ from before xs a d) (by (publication x.1)) ∙ none_wanted before xs a d h
  where
    by : (o : Option Publication) → item_for before a d x.0 o ≡ []
    by None = refl
    by (Some p) =
        ap (λ b. cond b (record { line = x.0; carried = p.carried } ∷ []) [])
        (and_right (is_named a p.client) (is_for before a d p.carried)
        (and_right (not (is_named a d)) (is_attached before d && takes before d p.carried) (and_left (is_attached before d) (takes before d p.carried) h)))

-- whether a report line says that something was sent to a name
abbrev pub tells_of : List ℕ → ReportLine → Bool
tells_of d (r.Handled router from msg tag) = false
tells_of d (r.Taken router to msg tag) = is_named d to
tells_of d (r.Ran steps quiet) = false
tells_of d (r.Fanned lines steps kinds) = false
tells_of d (r.Mark line) = false
tells_of d (r.Show router) = false
tells_of d (r.Record links) = false
tells_of d (r.Parent root parent) = false
tells_of d (r.Source source number decls) = false

pub none_told : (report : List ReportLine) (d : List ℕ) → list_any (tells_of d) report ≡ false → told_to report d ≡ []
none_told [] d h = refl
none_told (x ∷ xs) d h =
    let parts = or_parts (tells_of d x) (list_any (tells_of d) xs) h in
    ap (λ o. cons_option o (told_to xs d)) (by x parts.0) ∙ none_told xs d parts.1
  where
    by : (line : ReportLine) → tells_of d line ≡ false → told_in d line ≡ None
    by (r.Handled router name msg tag) k = refl
    by (r.Taken router to msg tag) k = rw k refl
    by (r.Ran steps quiet) k = refl
    by (r.Fanned lines steps kinds) k = refl
    by (r.Mark n) k = refl
    by (r.Show router) k = refl
    by (r.Record links) k = refl
    by (r.Parent root parent) k = refl
    by (r.Source source number decls) k = refl

-- the samples and requests among some messages
abbrev items : List Told → List Item
items told = flat_map (λ t. item_of t.msg t.tag) told

module _ (j : Judged) where
  -- where nothing is to be had and nothing was sent
  nothing_holds : (a d : List ℕ) → sent_by j a d ≡ [] → from j.before j.phase a d ≡ [] → pair_holds j a d ≡ true
  nothing_holds a d es ed = or_right (is_router j.before d) (is_right j a d) (rw (es, ed) (or_right (not j.quiet) true refl))

  -- ---- names that are looked at

  publisher_found : (lines : List Numbered) (a : List ℕ) → list_any (λ x. is_publisher a x.1) lines ≡ true → list_all (λ x. holds_for_publisher j x.1) lines ≡ true →
      holds_for_all j a ≡ true
  publisher_found [] a h k = absurd (false≢true h)
  publisher_found (x ∷ xs) a h k =
      by (publication x.1) (and_parts (holds_for_publisher j x.1) (list_all (λ y. holds_for_publisher j y.1) xs) k).0
      (λ later. publisher_found xs a later (and_parts (holds_for_publisher j x.1) (list_all (λ y. holds_for_publisher j y.1) xs) k).1)
      (or_cases (is_publisher a x.1) (list_any (λ y. is_publisher a y.1) xs) h)
    where
      by : (o : Option Publication) → holds_for j o ≡ true → (list_any (λ y. is_publisher a y.1) xs ≡ true → holds_for_all j a ≡ true) →
          (option_map_or (λ p. is_named a p.client) o false ≡ true) ⊎ (list_any (λ y. is_publisher a y.1) xs ≡ true) → holds_for_all j a ≡ true
      by None here ih (inl e) = absurd (false≢true e)
      by (Some p) here ih (inl e) = subst (λ (name : List ℕ). holds_for_all j name ≡ true) (sym (same_name a p.client e)) here
      by o here ih (inr e) = ih e

  -- a client that is attached behind some acts was so before, or one of them attached it
  client_found : (lines : List Numbered) (a d : List ℕ) (so_far : Bool) → (so_far ≡ true → pair_holds j a d ≡ true) → fold (λ t x. attached_by d t x.1) so_far lines ≡ true →
      list_all (λ x. holds_for_client j a x.1) lines ≡ true → pair_holds j a d ≡ true
  client_found [] a d so_far before h k = before h
  client_found (x ∷ xs) a d so_far before h k =
      let parts = and_parts (holds_for_client j a x.1) (list_all (λ y. holds_for_client j a y.1) xs) k in
      client_found xs a d (attached_by d so_far x.1) (by x.1 parts.0) h parts.1
    where
      by : (act : Act) → holds_for_client j a act ≡ true → attached_by d so_far act ≡ true → pair_holds j a d ≡ true
      by (c.Client id router) here e = at (or_cases so_far (is_named d id) e)
        where
          at : (so_far ≡ true) ⊎ (is_named d id ≡ true) → pair_holds j a d ≡ true
          at (inl t) = before t
          at (inr t) = subst (λ (name : List ℕ). pair_holds j a name ≡ true) (sym (same_name d id t)) here
      by (c.Break router neighbour) here e = before (and_parts so_far (not (is_named d neighbour)) e).0
      by other here e = before e

  receiver_found : (report : List ReportLine) (a d : List ℕ) → list_any (tells_of d) report ≡ true → list_all (λ x. holds_for_receiver j a x) report ≡ true → pair_holds j a d ≡ true
  receiver_found [] a d h k = absurd (false≢true h)
  receiver_found (x ∷ xs) a d h k =
      by x (and_parts (holds_for_receiver j a x) (list_all (λ y. holds_for_receiver j a y) xs) k).0
      (λ later. receiver_found xs a d later (and_parts (holds_for_receiver j a x) (list_all (λ y. holds_for_receiver j a y) xs) k).1)
      (or_cases (tells_of d x) (list_any (tells_of d) xs) h)
    where
      by : (line : ReportLine) → holds_for_receiver j a line ≡ true → (list_any (tells_of d) xs ≡ true → pair_holds j a d ≡ true) →
          (tells_of d line ≡ true) ⊎ (list_any (tells_of d) xs ≡ true) → pair_holds j a d ≡ true
      by (r.Taken router to msg tag) here ih (inl e) = subst (λ (name : List ℕ). pair_holds j a name ≡ true) (sym (same_name d to e)) here
      by (r.Handled router name msg tag) here ih (inl e) = absurd (false≢true e)
      by (r.Ran steps quiet) here ih (inl e) = absurd (false≢true e)
      by (r.Fanned lines steps kinds) here ih (inl e) = absurd (false≢true e)
      by (r.Mark n) here ih (inl e) = absurd (false≢true e)
      by (r.Show router) here ih (inl e) = absurd (false≢true e)
      by (r.Record links) here ih (inl e) = absurd (false≢true e)
      by (r.Parent root parent) here ih (inl e) = absurd (false≢true e)
      by (r.Source source number decls) here ih (inl e) = absurd (false≢true e)
      by line here ih (inr e) = ih e

  -- so every pair of names holds
  every_pair : is_delivered j ≡ true → (a d : List ℕ) → pair_holds j a d ≡ true
  every_pair h a d = by_publisher (list_any (λ x. is_publisher a x.1) j.phase) refl
    where
      publishers : list_all (λ x. holds_for_publisher j x.1) j.phase ≡ true
      publishers = (and_parts (list_all (λ x. holds_for_publisher j x.1) j.phase) (list_all (λ x. may_be_sent j x) j.report) h).0

      by_report : list_all (λ x. holds_for_receiver j a x) j.report ≡ true → is_attached j.before d ≡ false → (b : Bool) → list_any (tells_of d) j.report ≡ b → pair_holds j a d ≡ true
      by_report all away true e = receiver_found j.report a d e all
      by_report all away false e = nothing_holds a d (ap (filter (λ i. is_line_of j.phase a i.line)) (ap items (none_told j.report d e))) (none_wanted j.before j.phase a d away)

      by_client : list_all (λ x. holds_for_client j a x.1) j.before ≡ true → list_all (λ x. holds_for_receiver j a x) j.report ≡ true → (b : Bool) → is_attached j.before d ≡ b → pair_holds j a d ≡ true
      by_client clients all true e = client_found j.before a d false (λ no. absurd (false≢true no)) e clients
      by_client clients all false e = by_report all e (list_any (tells_of d) j.report) refl

      by_publisher : (b : Bool) → list_any (λ x. is_publisher a x.1) j.phase ≡ b → pair_holds j a d ≡ true
      by_publisher true e =
          let found = and_parts (list_all (λ x. holds_for_client j a x.1) j.before) (list_all (λ x. holds_for_receiver j a x) j.report) (publisher_found j.phase a e publishers) in
          by_client found.0 found.1 (is_attached j.before d) refl
      by_publisher false e = nothing_holds a d (none_pass (λ i. is_line_of j.phase a i.line) (λ i. no_line j.phase a i.line e) (sent_to j.report d)) (none_due j.before j.phase a d e)

  -- ---- nothing else

  abbrev may_be : Item → Bool
  may_be i = nat_lt i.line j.mark || is_line j.phase i.line

  -- what is sent to a receiver, where one more report line may say so
  abbrev more : List ℕ → ReportLine → List ReportLine → List Item
  more d line xs = items (cons_option (told_in d line) (told_to xs d))

  all_may : (report : List ReportLine) (d : List ℕ) → list_all (λ x. may_be_sent j x) report ≡ true → list_all may_be (sent_to report d) ≡ true
  all_may [] d h = refl
  all_may (x ∷ xs) d h =
      let parts = and_parts (may_be_sent j x) (list_all (λ y. may_be_sent j y) xs) h in
      by x parts.0 (all_may xs d parts.1)
    where
      by_item : (o : Option Carried) (tag : ℕ) → is_allowed j o tag ≡ true → list_all may_be (items_of o tag) ≡ true
      by_item None tag k = refl
      by_item (Some carried) tag k = and_from (nat_lt tag j.mark || is_line j.phase tag) true k refl

      by : (line : ReportLine) → may_be_sent j line ≡ true → list_all may_be (sent_to xs d) ≡ true → list_all may_be (more d line xs) ≡ true
      by (r.Handled router name msg tag) k rest = rest
      by (r.Taken router to msg tag) k rest = at (is_named d to)
        where
          at : (b : Bool) → list_all may_be (items (cons_option (cond b (Some (record { msg = msg; tag = tag })) None) (told_to xs d))) ≡ true
          at false = rest
          at true = all_both may_be (item_of msg tag) (sent_to xs d) (by_item (carried_by msg) tag k) rest
      by (r.Ran steps quiet) k rest = rest
      by (r.Fanned lines steps kinds) k rest = rest
      by (r.Mark n) k rest = rest
      by (r.Show router) k rest = rest
      by (r.Record links) k rest = rest
      by (r.Parent root parent) k rest = rest
      by (r.Source source number decls) k rest = rest

  may_all : (report : List ReportLine) → ((d : List ℕ) → list_all may_be (sent_to report d) ≡ true) → list_all (λ x. may_be_sent j x) report ≡ true
  may_all [] h = refl
  may_all (x ∷ xs) h = and_from (may_be_sent j x) (list_all (λ y. may_be_sent j y) xs) (by x h) (may_all xs (λ d. later x d (h d)))
    where
      later : (line : ReportLine) (d : List ℕ) → list_all may_be (more d line xs) ≡ true → list_all may_be (sent_to xs d) ≡ true
      later (r.Handled router name msg tag) d k = k
      later (r.Taken router to msg tag) d k = at (is_named d to) k
        where
          at : (b : Bool) → list_all may_be (items (cons_option (cond b (Some (record { msg = msg; tag = tag })) None) (told_to xs d))) ≡ true → list_all may_be (sent_to xs d) ≡ true
          at false e = e
          at true e = (all_parts may_be (item_of msg tag) (sent_to xs d) e).1
      later (r.Ran steps quiet) d k = k
      later (r.Fanned lines steps kinds) d k = k
      later (r.Mark n) d k = k
      later (r.Show router) d k = k
      later (r.Record links) d k = k
      later (r.Parent root parent) d k = k
      later (r.Source source number decls) d k = k

      by : (line : ReportLine) → ((d : List ℕ) → list_all may_be (more d line xs) ≡ true) → may_be_sent j line ≡ true
      by (r.Handled router name msg tag) k = refl
      by (r.Taken router to msg tag) k = by_item (carried_by msg) (all_parts may_be (item_of msg tag) (sent_to xs to) here).0
        where
          here : list_all may_be (item_of msg tag ++ sent_to xs to) ≡ true
          here = ap (λ b. list_all may_be (items (cons_option (cond b (Some (record { msg = msg; tag = tag })) None) (told_to xs to)))) (sym (names.refl to)) ∙ k to

          by_item : (o : Option Carried) → list_all may_be (items_of o tag) ≡ true → is_allowed j o tag ≡ true
          by_item None e = refl
          by_item (Some carried) e = (and_parts (nat_lt tag j.mark || is_line j.phase tag) true e).0
      by (r.Ran steps quiet) k = refl
      by (r.Fanned lines steps kinds) k = refl
      by (r.Mark n) k = refl
      by (r.Show router) k = refl
      by (r.Record links) k = refl
      by (r.Parent root parent) k = refl
      by (r.Source source number decls) k = refl

  -- ---- both ways

  module _ (w : WorldState) (quiet_is : is_quiet w ≡ j.quiet) where
    sound : is_delivered j ≡ true → Delivers j.before j.mark j.phase (record { world = w; report = j.report })
    sound h = record {
      prefix = λ a d other. prefix_means is_same one_item (sent_by j a d) (from j.before j.phase a d) (pair a d other).0;
      nothing_else = λ d. all_may j.report d (and_parts (list_all (λ x. holds_for_publisher j x.1) j.phase) (list_all (λ x. may_be_sent j x) j.report) h).1;
      whole = λ quiet a d other. both_prefixes is_same one_item (sent_by j a d) (from j.before j.phase a d) (pair a d other).0
          (ap (λ b. not b || starts_with is_same (sent_by j a d) (from j.before j.phase a d)) (sym (sym quiet_is ∙ quiet)) ∙ (pair a d other).1);
    }
      where
        pair : (a d : List ℕ) → is_router j.before d ≡ false →
            (starts_with is_same (from j.before j.phase a d) (sent_by j a d) ≡ true) × ((not j.quiet || starts_with is_same (sent_by j a d) (from j.before j.phase a d)) ≡ true)
        pair a d other = and_parts (starts_with is_same (from j.before j.phase a d) (sent_by j a d)) (not j.quiet || starts_with is_same (sent_by j a d) (from j.before j.phase a d))
            (sym (ap (λ b. b || is_right j a d) other) ∙ every_pair h a d)

    complete : Delivers j.before j.mark j.phase (record { world = w; report = j.report }) → is_delivered j ≡ true
    complete h = and_from (list_all (λ x. holds_for_publisher j x.1) j.phase) (list_all (λ x. may_be_sent j x) j.report)
        (all_true (λ x. holds_for_publisher j x.1) (λ x. publisher x.1) j.phase) (may_all j.report h.nothing_else)
      where
        right : (a d : List ℕ) → is_router j.before d ≡ false → is_right j a d ≡ true
        right a d other = and_from (starts_with is_same due sent) (not j.quiet || starts_with is_same sent due)
            (prefix_holds is_same one_item sent due (h.prefix a d other)) (by j.quiet refl)
          where
            sent : List Item
            sent = sent_by j a d

            due : List Item
            due = from j.before j.phase a d

            by : (b : Bool) → j.quiet ≡ b → (not b || starts_with is_same sent due) ≡ true
            by false e = refl
            by true e = same_holds is_same one_item due sent (sym (h.whole (quiet_is ∙ e) a d other))

        pair : (a d : List ℕ) → pair_holds j a d ≡ true
        pair a d = at (is_router j.before d) refl
          where
            at : (b : Bool) → is_router j.before d ≡ b → (b || is_right j a d) ≡ true
            at true e = refl
            at false e = right a d e

        client : (a : List ℕ) (act : Act) → holds_for_client j a act ≡ true
        client a (c.Client id router) = pair a id
        client a other = refl

        receiver : (a : List ℕ) (line : ReportLine) → holds_for_receiver j a line ≡ true
        receiver a (r.Taken router to msg tag) = pair a to
        receiver a (r.Handled router name msg tag) = refl
        receiver a (r.Ran steps quiet) = refl
        receiver a (r.Fanned lines steps kinds) = refl
        receiver a (r.Mark n) = refl
        receiver a (r.Show router) = refl
        receiver a (r.Record links) = refl
        receiver a (r.Parent root parent) = refl
        receiver a (r.Source source number decls) = refl

        all : (name : List ℕ) → holds_for_all j name ≡ true
        all name = and_from (list_all (λ x. holds_for_client j name x.1) j.before) (list_all (λ x. holds_for_receiver j name x) j.report)
            (all_true (λ x. holds_for_client j name x.1) (λ x. client name x.1) j.before) (all_true (λ x. holds_for_receiver j name x) (λ x. receiver name x) j.report)

        publisher : (act : Act) → holds_for_publisher j act ≡ true
        publisher act = by (publication act)
          where
            by : (o : Option Publication) → holds_for j o ≡ true
            by None = refl
            by (Some p) = all p.client

    pub delivered : (is_delivered j ≡ true) ↔ Delivers j.before j.mark j.phase (record { world = w; report = j.report })
    delivered = (sound, complete)
