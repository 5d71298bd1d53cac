-- The whole statement: at every moment of every phase the network has done what one broker does, but for queries for the latest (`phases_refine_but_latest`),
-- and with these (`phases_refine`). And so it is with every script's lines (`lines_refine`).
use Rattle.std.proofs.Common.{◌≡◌, ℕ, true, List, [], ◌∷◌, ◌++◌, Option, Some, None, is_some, refl, sym, ap, ◌∙◌, append_assoc, Bool, false, subst}
use Rattle.std.specs.Prelude.{nat_lt, IfSome}
use Rattle.std.specs.List.{AllByRecursion, fold, list_all, list_any}
use Rattle.std.proofs.lemmas.Bool.{false≢true, or_left}
use Rattle.std.proofs.lemmas.List.Elements.{filter_map-append}
use Rattle.std.proofs.lemmas.List.Sums.{fold-append}
use Rattle.zr_lists.proofs.Finds.{In, in_any}
use Rattle.zr_lists.proofs.Elements.{each_in, in_each, in_behind}
use Rattle.zr_script_spec.specs.declared.command.Act.TheVariants as c
use Rattle.zr_world_spec.specs.World.{router_of}
use Rattle.zr_world_spec.specs.Moments.{Numbered, ascends, Moment, beginning, onward, reached}
use Rattle.zr_world_spec.specs.Accepted.{accepted}
use Rattle.zr_world_spec.proofs.Lines.{refused_stays, at_some, prefix_ascends, prefix_reached, lines_are_moments}
use Rattle.zr_guarantee.specs.Phase.{is_phase}
use Rattle.zr_guarantee.specs.Names.{is_router}
use Rattle.zr_guarantee.specs.Queries.{Asked, asked_in, queries, saying_in, sayings}
use Rattle.zr_guarantee.specs.Refines.{Delivers, IsAnswered, Refines, PhasesRefine, IsAnsweredBy}
use Rattle.zr_guarantee.specs.Scripts.{LinesRefine}
use Rattle.zr_law_samples.proofs.Always.{Always, always}
use Rattle.zr_law_samples.proofs.Numbers.{around_mark}
use Rattle.zr_law_samples.proofs.Start.{Marked}
use Rattle.zr_law_samples.proofs.Final.{TablesAreSettled, marked, phases_deliver}
use Rattle.zr_law_replies.proofs.Every.{Holds, stands_at}
use Rattle.zr_law_replies.proofs.OwnReplies.{no_other_reply, one_at_a_time, no_other_final}
use Rattle.zr_law_replies.proofs.StandPhase.{begins, stands_at_end}
use Rattle.zr_law_replies.proofs.Answered.{answered, answered_latest}
use Rattle.zr_law_replies.proofs.SameActs.{answered_same, latest_same, fits_front, fits_same}
use Rattle.std.proofs.lemmas.List.Folds.{list_any-append}
use Rattle.zr_guarantee.specs.Latest.{asks_latest, RepliesFit, LatestFit, IsAnsweredLatest}
use Rattle.zr_law_replies.specs.ButLatest.{RefinesButLatest, PhasesRefineButLatest}

-- a mark asks and says nothing
same_queries : (before phase : List Numbered) (mark : ℕ) → queries (before ++ phase) ≡ queries (before ++ (mark, c.Mark) ∷ phase)
same_queries before phase mark = filter_map-append (λ (x : Numbered). asked_in x.0 x.1) before phase ∙ sym (filter_map-append (λ (x : Numbered). asked_in x.0 x.1) before ((mark, c.Mark) ∷ phase))

same_sayings : (before phase : List Numbered) (mark : ℕ) → sayings (before ++ phase) ≡ sayings (before ++ (mark, c.Mark) ∷ phase)
same_sayings before phase mark = filter_map-append (λ (x : Numbered). saying_in x.0 x.1) before phase ∙ sym (filter_map-append (λ (x : Numbered). saying_in x.0 x.1) before ((mark, c.Mark) ∷ phase))

module _ (agree : TablesAreSettled) where
  module _ (before phase : List Numbered) (mark : ℕ) (m : Moment) (later : ascends 0 (before ++ (mark, c.Mark) ∷ phase) ≡ true) (stay : is_phase phase ≡ true)
      (is : reached (before ++ (mark, c.Mark) ∷ phase) ≡ Some m) where
    abbrev acts : List Numbered
    acts = before ++ (mark, c.Mark) ∷ phase

    around : (list_all (λ y. nat_lt y.0 mark) before ≡ true) × (ascends mark phase ≡ true)
    around = around_mark 0 mark before phase later

    led : fold onward (onward (reached before) (mark, c.Mark)) phase ≡ Some m
    led = sym (fold-append onward (Some beginning) before ((mark, c.Mark) ∷ phase)) ∙ is

    delivers : Delivers before mark phase m
    delivers = phases_deliver agree before phase mark m later stay is

    -- ---- a query

    module _ (start : Moment) (e : onward (reached before) (mark, c.Mark) ≡ Some start) (h : Marked before mark start) (q : Asked) (i : In q (queries phase)) where
      led_on : fold onward (Some start) phase ≡ Some m
      led_on = ap (λ o. fold onward o phase) (sym e) ∙ led

      from_start : reached (before ++ (mark, c.Mark) ∷ []) ≡ Some start
      from_start = fold-append onward (Some beginning) before ((mark, c.Mark) ∷ []) ∙ e

      holds : Holds (before ++ (mark, c.Mark) ∷ []) start
      holds = stands_at (before ++ (mark, c.Mark) ∷ []) start
          (prefix_ascends 0 (before ++ (mark, c.Mark) ∷ []) phase (ap (ascends 0) (append_assoc before ((mark, c.Mark) ∷ []) phase) ∙ later)) from_start

      -- it needs no room where it does not ask for the latest
      plain_answered : asks_latest q ≡ false → IsAnswered before (before ++ phase) m q
      plain_answered plain = answered_same before acts (before ++ phase) m q (same_queries before phase mark) (same_sayings before phase mark)
          (answered before mark start q (begins before mark start h phase around.1 stay m led_on q i) phase m later around.1 is i delivers
          (stands_at_end before mark start h phase around.1 stay m led_on q i later holds (λ latest. absurd (false≢true (sym plain ∙ latest)))) plain)

      -- and where it does, what clients reply may be held
      latest_answered : LatestFit (before ++ phase) → asks_latest q ≡ true → IsAnsweredLatest before (before ++ phase) m q
      latest_answered fit latest = latest_same before acts (before ++ phase) m q (same_queries before phase mark) (same_sayings before phase mark)
          (answered_latest before mark start q (begins before mark start h phase around.1 stay m led_on q i) phase m later around.1 is i delivers
          (stands_at_end before mark start h phase around.1 stay m led_on q i later holds (λ _. room)) latest)
        where
          room : RepliesFit acts
          room = fits_same (before ++ phase) acts (sym (same_sayings before phase mark)) (fit (in_any asks_latest (queries (before ++ phase)) q
              (subst (λ qs. In q qs) (sym (filter_map-append (λ (x : Numbered). asked_in x.0 x.1) before phase)) (in_behind (queries before) (queries phase) q i)) latest))

    -- ---- all of them

    -- what is so of each from the moment of the mark on is so of all, since the mark is accepted
    from_mark : (P : Asked → Type 0) → ((start : Moment) → onward (reached before) (mark, c.Mark) ≡ Some start → Marked before mark start → (q : Asked) → In q (queries phase) → P q) →
        AllByRecursion P (queries phase)
    from_mark P each = by (onward (reached before) (mark, c.Mark)) refl (marked agree before mark around.0)
      where
        by : (o : Option Moment) → onward (reached before) (mark, c.Mark) ≡ o → IfSome o (Marked before mark) → AllByRecursion P (queries phase)
        by None e h = absurd (false≢true (ap is_some (sym (refused_stays phase) ∙ ap (λ o. fold onward o phase) (sym e) ∙ led)))
        by (Some start) e h = in_each P (queries phase) (each start e h)

    named : (x : List ℕ) → is_some (router_of m.world.routers x) ≡ true → is_router acts x ≡ true
    named = (at_some (Always acts) (reached acts) m is (always acts)).named

    but_latest : RefinesButLatest before mark phase m
    but_latest = record {
      delivers = delivers;
      answered = from_mark (λ q. asks_latest q ≡ false → IsAnswered before (before ++ phase) m q) plain_answered;
      no_other_reply = no_other_reply before phase mark m later stay is named;
      one_at_a_time = λ receiver number other. one_at_a_time before phase mark m later stay is named receiver other number;
      no_other_final = λ receiver number other. no_other_final before phase mark m later stay is named receiver other number;
    }

    refines : LatestFit (before ++ phase) → Refines before mark phase m
    refines fit = record {
      delivers = but_latest.delivers;
      answered = in_each (λ q. IsAnsweredBy (asks_latest q) before (before ++ phase) m q) (queries phase) (λ q i. by q i (asks_latest q) refl);
      no_other_reply = but_latest.no_other_reply;
      one_at_a_time = but_latest.one_at_a_time;
      no_other_final = but_latest.no_other_final;
    }
      where
        latest_answers : AllByRecursion (λ q. asks_latest q ≡ true → IsAnsweredLatest before (before ++ phase) m q) (queries phase)
        latest_answers = from_mark (λ q. asks_latest q ≡ true → IsAnsweredLatest before (before ++ phase) m q) (λ start e h q i. latest_answered start e h q i fit)

        by : (q : Asked) → In q (queries phase) → (b : Bool) → asks_latest q ≡ b → IsAnsweredBy b before (before ++ phase) m q
        by q i false plain = each_in (λ (p : Asked). asks_latest p ≡ false → IsAnswered before (before ++ phase) m p) (queries phase) q but_latest.answered i plain
        by q i true latest = each_in (λ (p : Asked). asks_latest p ≡ true → IsAnsweredLatest before (before ++ phase) m p) (queries phase) q latest_answers i latest

  pub phases_refine_but_latest : PhasesRefineButLatest
  phases_refine_but_latest before phase mark m later stay is = but_latest before phase mark m later stay is

  pub phases_refine : PhasesRefine
  phases_refine before phase mark m later stay fit is = refines before phase mark m later stay is fit

  pub lines_refine : LinesRefine
  lines_refine ls fit before phase rest mark cut stay = (m.0, m.1, phases_refine before phase mark m.0 ascending stay fit_then m.1)
    where
      prefix : List Numbered
      prefix = before ++ (mark, c.Mark) ∷ phase

      cut_is : accepted ls ≡ prefix ++ rest
      cut_is = cut ∙ sym (append_assoc before ((mark, c.Mark) ∷ phase) rest)

      ascending : ascends 0 prefix ≡ true
      ascending = prefix_ascends 0 prefix rest (ap (ascends 0) (sym cut_is) ∙ (lines_are_moments ls).0)

      m : (m : Moment) × (reached prefix ≡ Some m)
      m = prefix_reached ls prefix rest cut_is

      -- what fits of all fits before a cut
      fit_then : LatestFit (before ++ phase)
      fit_then latest = fits_same prefix (before ++ phase) (same_sayings before phase mark) (fits_front prefix rest (subst RepliesFit cut_is (fit (ap (λ xs. list_any asks_latest (queries xs)) cut_is
          ∙ ap (list_any asks_latest) (filter_map-append (λ (x : Numbered). asked_in x.0 x.1) prefix rest) ∙ list_any-append asks_latest (queries prefix) (queries rest)
          ∙ or_left (list_any asks_latest (queries prefix)) (list_any asks_latest (queries rest)) (ap (list_any asks_latest) (sym (same_queries before phase mark)) ∙ latest)))))
