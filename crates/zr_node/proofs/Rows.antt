-- What becomes of a router where its clients' rows change, step by step.
use Rattle.std.proofs.Common.{◌≡◌, ℕ, ◌+◌, ◌-◌, ◌^◌, ◌<◌, nat_lt, not, Bool, true, false, cond, List, Option, Some, None, Result, Err, length, length-append, refl, sym, ap, subst, ◌∙◌, arith}
use Rattle.std.specs.Option.{option_or}
use Rattle.std.specs.Result.{IsErrAnd}
use Rattle.std.proofs.lemmas.Bool.{true≢false, ltb-false}
use Rattle.std.proofs.lemmas.List.{length-map}
use Rattle.zr_id.specs.declared.link.LinkNo.{LinkNo}
use Rattle.zr_local.specs.Rows.{gone, came}
use Rattle.zr_log.specs.Known.{position}
use Rattle.zr_log.specs.Log.{Change}
use Rattle.zr_msg.specs.declared.decl.Decl.{Decl}
use Rattle.zr_msg.specs.declared.error.NodeError.{NodeError}
use Rattle.zr_msg.specs.declared.error.NodeError.TheVariants.{Worn}
use Rattle.zr_msg.specs.declared.msg.Msg.{Msg}
use Rattle.zr_node_spec.specs.Changes.{changes_of, changes, after_changes, sends_changes, have_no_room}
use Rattle.zr_node_spec.specs.Event.{Tells, TellsPrefix}
use Rattle.zr_node_spec.specs.State.{NodeState, tables, local_state}
use Rattle.zr_node_spec.specs.Table.{with_known, refuses_rows}
use Rattle.zr_node.specs.Answer.{IsJudged}
use Rattle.zr_node.specs.Asked.{rows_after, local_after, refuses_asked, refuses_change}
use Rattle.zr_node.specs.Done.{IsDone}
use Rattle.zr_node.specs.Steps.{with_local, with_asked, asked_part}
use Rattle.zr_node.specs.declared.asked.Asked.{Asked}
use Rattle.zr_node.specs.declared.failure.NodeFailure.{NodeFailure}
use Rattle.zr_node.specs.declared.failure.NodeFailure.TheVariants.{Refused, NoMemory}
use Rattle.zr_node.proofs.Done.{failed, lacked, nothing_sent, judged_failed}
use Rattle.zr_node.proofs.Early.{behind_late, change_late, rows_late}

-- ---- room in the log

pub length_of_changes : (lost won : List Decl) → length (changes_of lost won) ≡ length lost + length won
length_of_changes lost won = simp (length-append, length-map)

not_so : (b : Bool) → true ≡ not b → b ≡ false
not_so true h = absurd (true≢false h)
not_so false h = refl

-- there is room for so many changes
pub fits : (number : ℕ) (lost won : List Decl) → true ≡ not (nat_lt (2 ^ 64 - 1) (number + length (changes_of lost won))) → number + (length lost + length won) < 2 ^ 64
fits number lost won h =
    let u = ltb-false (2 ^ 64 - 1) (number + length (changes_of lost won)) (not_so _ h) in
    omega (arith, u, length_of_changes lost won)

-- ---- the rows that a client asks for

module _ (n : NodeState) (asked : Asked) where
  -- it is refused for itself, or memory ran out
  pub asked_failed : (e : NodeFailure) (r : Result (Unit {0}) NodeFailure) (now : NodeState) (said : List (LinkNo × Msg)) → IsErrAnd r (λ f. f ≡ e) → IsJudged {X = Unit {0}} (refuses_asked (local_state n) asked) (Err e) → now ≡ n
      → IsDone (asked_part n asked) r now said said
  asked_failed (Refused why) r now said h j same =
      failed (asked_part n asked) (Refused why) r now said said h (record { refused = ap (λ (o : Option NodeError). option_or o (refuses_rows n (rows_after n.rows asked))) j; state = same; sends = refl })
  asked_failed NoMemory r now said h j same =
      nothing_sent (asked_part n asked) r now said h (behind_late (refuses_asked (local_state n) asked) (refuses_rows n (rows_after n.rows asked)) (rows_late n (rows_after n.rows asked)) ∙ j)

  -- or there is no memory once it isn't refused for itself
  pub rows_failed : (r : Result (Unit {0}) NodeFailure) (now : NodeState) (said all : List (LinkNo × Msg)) → IsErrAnd r (λ f. f ≡ NoMemory) → refuses_asked (local_state n) asked ≡ None
      → TellsPrefix (asked_part n asked).sends said all → IsDone (asked_part n asked) r now said all
  rows_failed r now said all h allowed sent =
      lacked (asked_part n asked) r now said all h (change_late n asked allowed) sent

  -- it was judged to be refused
  pub judge_failed : (e : NodeFailure) (r : Result (Unit {0}) NodeFailure) (now : NodeState) (said : List (LinkNo × Msg)) → IsErrAnd r (λ f. f ≡ e) → IsJudged {X = Unit {0}} (refuses_change n asked) (Err e) → now ≡ n
      → IsDone (asked_part n asked) r now said said
  judge_failed e r now said h j same = failed (asked_part n asked) e r now said said h (judged_failed (asked_part n asked) e now said j same)

  module _ (lost won : List Decl) (is_lost : lost ≡ gone n.rows (rows_after n.rows asked)) (is_won : won ≡ came n.rows (rows_after n.rows asked)) where
    same_changes : changes_of lost won ≡ changes n.rows (rows_after n.rows asked)
    same_changes = λ i. changes_of (is_lost i) (is_won i)

    -- what is told of them
    pub rows_told : (now : NodeState) (said all : List (LinkNo × Msg)) → now ≡ with_local n (local_after (local_state n) asked) → Tells (sends_changes (tables now) (changes_of lost won)) said all → Tells (asked_part n asked).sends said all
    rows_told now said all e h =
        subst (λ (cs : List Change). Tells (sends_changes (tables n) cs) said all) same_changes
        (subst (λ (m : NodeState). Tells (sends_changes (tables m) (changes_of lost won)) said all) e h)

    pub rows_prefix : (now : NodeState) (said all : List (LinkNo × Msg)) → now ≡ with_local n (local_after (local_state n) asked) → TellsPrefix (sends_changes (tables now) (changes_of lost won)) said all
        → TellsPrefix (asked_part n asked).sends said all
    rows_prefix now said all e h =
        subst (λ (cs : List Change). TellsPrefix (sends_changes (tables n) cs) said all) same_changes
        (subst (λ (m : NodeState). TellsPrefix (sends_changes (tables m) (changes_of lost won)) said all) e h)

    -- what is left
    pub rows_left : (now last : NodeState) → now ≡ with_local n (local_after (local_state n) asked) → last ≡ with_known now (after_changes now.known (changes_of lost won)) → last ≡ with_asked n asked
    rows_left now last e f =
        f ∙ ap (λ (m : NodeState). with_known m (after_changes m.known (changes_of lost won))) e
        ∙ ap (λ (cs : List Change). with_known (with_local n (local_after (local_state n) asked)) (after_changes n.known cs)) same_changes

    -- where there is room it isn't refused
    pub rows_allowed : (number : ℕ) → number ≡ position n.known n.base.me → n.known.me ≡ n.base.me → true ≡ not (nat_lt (2 ^ 64 - 1) (number + length (changes_of lost won)))
        → refuses_asked (local_state n) asked ≡ None → refuses_change n asked ≡ None
    rows_allowed number at own room for_itself =
        let same : number ≡ position n.known n.known.me = at ∙ ap (λ (me : List ℕ). position n.known me) (sym own) in
        let e : have_no_room n.known (changes_of lost won) ≡ false = ap (λ (k : ℕ). nat_lt (2 ^ 64 - 1) (k + length (changes_of lost won))) (sym same) ∙ not_so _ room in
        ap (λ (o : Option NodeError). option_or o (refuses_rows n (rows_after n.rows asked))) for_itself
        ∙ ap (λ (cs : List Change). cond (have_no_room n.known cs) (Some Worn) None) (sym same_changes)
        ∙ ap (λ (b : Bool). cond b (Some Worn) None) e
