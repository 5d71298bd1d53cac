-- What a router knows of logs is of what was declared (`IsKnown`), whatever comes to it: changes of its own log, changes and snapshots that others
-- tell. What is taken over weighs no more than all that was declared (`step_taken`, `snap_taken`), and its own log's number stays.
use Rattle.std.proofs.Common.{◌≡◌, ◌≤◌, ◌+◌, ℕ, Bool, true, false, cond, List, [], ◌∷◌, ◌++◌, Option, Some, None, refl, ap, ◌∙◌, subst, arith}
use Rattle.std.specs.Prelude.{◌==◌, not, nat_lt}
use Rattle.std.specs.Cmp.Lexicographic.{slice_cmp}
use Rattle.std.specs.List.{AllByRecursion}
use Rattle.std.specs.Option.{option_map_or}
use Rattle.std.specs.Ordering.{nat_cmp, is_eq}
use Rattle.std.proofs.lemmas.Bool.{and_parts, not-true, or_right, le-ltb}
use Rattle.std.proofs.lemmas.List.Folds.{list_any-append}
use Rattle.std.proofs.lemmas.List.Sums.{sum_by-append}
use Rattle.zr_id.specs.Zid.{is_named}
use Rattle.zr_graph.proofs.Names.{same_is, same_refl}
use Rattle.zr_lists.proofs.Finds.{find_in}
use Rattle.zr_msg.specs.declared.decl.Decl.{Decl}
use Rattle.zr_msg.specs.declared.msg.Msg.{Msg}
use Rattle.zr_msg.specs.declared.msg.Msg.TheVariants.{Sub, Unsub, Token, Untoken, Able, Unable, Interest, EndInterest, ToldSub, ToldAble, ToldUnsub, ToldToken, ToldUntoken, ToldUnable, ToldEnd, Push, Request, Response, Final, State, Step, Snap}
use Rattle.zr_log_set.specs.Decls.{is_decl, IsSet, has, set_of, decl_weight, weight, most_weight, with_decl, without_decl}
use Rattle.zr_lists.proofs.Puts.{All-put}
use Rattle.zr_log_set.proofs.Decls.{decl_order, set_none, set_all}
use Rattle.zr_msg.specs.Decl.{decl_cmp}
use Rattle.zr_log.specs.declared.log.Log.{Log}
use Rattle.zr_log.specs.Log.{Change, changed, change_held, change_more}
use Rattle.zr_log.specs.Known.{KnownState, log_of, position, decls, with_log, after_own, is_next, is_newer, after_step, after_snap, over_limit, refuses_step, refuses_snap, is_gap}
use Rattle.zr_log.specs.declared.error.KnownError.{KnownError}
use Rattle.zr_log.specs.declared.error.KnownError.TheVariants.{Gap, TextLimit}
use Rattle.zr_log.proofs.Changes.{set_changed}
use Rattle.zr_log.proofs.Logs.{source_of}
use Rattle.zr_node_spec.specs.Changes.{after_changes}
use Rattle.zr_lists.proofs.Each.{All-each, All-filter}
use Rattle.zr_lists.proofs.Elements.{each_in}
use Rattle.zr_lists.proofs.Order.{name_order}
use Rattle.zr_lists.proofs.Sums.{filter_sum}
use Rattle.zr_law_settled.proofs.Spreading.{Name}
use Rattle.zr_law_settled.proofs.Positions.{position_with}
use Rattle.zr_law_settled.proofs.WeightsSums.{AreOf, part_weighs, rest_weighs}
use Rattle.zr_law_settled.proofs.WeightsRows.{IsAdded, set_of_these}
use Rattle.zr_law_settled.proofs.Weights.{Ever, ever_more, IsKnown, IsTold}

-- ---- more is declared

-- what was declared stays so
pub record GoesOn (ever ever' : Ever) : Type 0 where
  pub stays : (z : Name) (d : Decl) → has (ever z) d ≡ true → has (ever' z) d ≡ true

pub of_later : (ever ever' ds : List Decl) → ((d : Decl) → has ever d ≡ true → has ever' d ≡ true) → AreOf ever ds → AreOf ever' ds
of_later ever ever' ds on h = All-each (λ d. has ever d ≡ true) (λ d. has ever' d ≡ true) ds on h

module _ (ever ever' : Ever) (on : GoesOn ever ever') where
  pub known_later : (logs : List Log) → AllByRecursion (IsKnown ever) logs → AllByRecursion (IsKnown ever') logs
  known_later logs h = All-each (IsKnown ever) (IsKnown ever') logs (λ l k. (k.0, of_later (ever l.source) (ever' l.source) l.decls (on.stays l.source) k.1)) h

  pub told_later : (msg : Msg) → IsTold ever msg → IsTold ever' msg
  told_later (Sub id key) h = tt
  told_later (Unsub id) h = tt
  told_later (Token id key) h = tt
  told_later (Untoken id) h = tt
  told_later (Able id key complete) h = tt
  told_later (Unable id) h = tt
  told_later (Interest id current future kinds key aggregate) h = tt
  told_later (EndInterest id) h = tt
  told_later (ToldSub id key interest) h = tt
  told_later (ToldToken id key interest) h = tt
  told_later (ToldAble id key complete interest) h = tt
  told_later (ToldUnsub id) h = tt
  told_later (ToldUntoken id) h = tt
  told_later (ToldUnable id) h = tt
  told_later (ToldEnd interest) h = tt
  told_later (Push tree content) h = tt
  told_later (Request tree id target content) h = tt
  told_later (Response id content) h = tt
  told_later (Final id extras) h = tt
  told_later (State links) h = tt
  told_later (Step source number added decl) h = λ e. on.stays source decl (h e)
  told_later (Snap source number decls) h = of_later (ever source) (ever' source) decls (on.stays source) h

module _ (ever : Ever) (x : Name) (more : List Decl) where
  pub more_goes_on : GoesOn ever (ever_more ever x more)
  more_goes_on = record { stays = λ z d h. by z d h (is_named x z) }
    where
      by : (z : Name) (d : Decl) → has (ever z) d ≡ true → (t : Bool) → has (cond t (more ++ ever z) (ever z)) d ≡ true
      by z d h true = list_any-append (λ e. is_decl e d) more (ever z) ∙ or_right (has more d) (has (ever z) d) h
      by z d h false = h

  pub more_here : ever_more ever x more x ≡ more ++ ever x
  more_here = ap (λ t. cond t (more ++ ever x) (ever x)) (same_refl x)

  pub more_weighs : weight (ever_more ever x more x) ≡ weight more + weight (ever x)
  more_weighs = ap weight more_here ∙ sum_by-append decl_weight more (ever x)

  pub more_other : (z : Name) → is_named x z ≡ false → ever_more ever x more z ≡ ever z
  more_other z e = ap (λ t. cond t (more ++ ever z) (ever z)) e

-- ---- what is known

-- a set that changes
changed_of : (ever set : List Decl) (c : Change) → AreOf ever set → IsAdded ever c → AreOf ever (changed set c)
changed_of ever set c h add = by c.added refl
  where
    by : (t : Bool) → c.added ≡ t → AreOf ever (cond t (with_decl set c.decl) (without_decl set c.decl))
    by true e = All-put decl_cmp (λ (d : Decl). d) decl_order (λ d. has ever d ≡ true) set c.decl h (add e)
    by false e = All-filter (λ d. not (is_eq (decl_cmp d c.decl))) (λ d. has ever d ≡ true) set h

module _ (ever : Ever) where
  -- what is known of one log
  pub known_of : (k : KnownState) → AllByRecursion (IsKnown ever) k.logs → (z : Name) → IsSet (decls k z) × AreOf (ever z) (decls k z)
  known_of k h z = by (log_of k z) refl
    where
      by : (o : Option Log) → log_of k z ≡ o → IsSet (option_map_or (λ l. l.decls) o []) × AreOf (ever z) (option_map_or (λ l. l.decls) o [])
      by None e = (set_none, tt)
      by (Some l) e =
          let f = find_in (λ (q : Log). is_eq (slice_cmp nat_cmp q.source z)) k.logs l e in
          let it = each_in (IsKnown ever) k.logs l h f.0 in
          (it.0, subst (λ q. AreOf (ever q) l.decls) (same_is l.source z f.1) it.1)

  known_with : (k : KnownState) → AllByRecursion (IsKnown ever) k.logs → (source : Name) (number : ℕ) (set : List Decl) → IsSet set → AreOf (ever source) set →
      AllByRecursion (IsKnown ever) (with_log k source number set).logs
  known_with k h source number set up of = All-put (slice_cmp nat_cmp) source_of name_order (IsKnown ever) k.logs (record { source = source; position = number; decls = set }) h (up, of)

  -- changes of the own log
  pub known_changes : (cs : List Change) (k : KnownState) → AllByRecursion (IsKnown ever) k.logs → AllByRecursion (IsAdded (ever k.me)) cs → AllByRecursion (IsKnown ever) (after_changes k cs).logs
  known_changes [] k h add = h
  known_changes (c ∷ cs) k h add =
      let own = known_of k h k.me in
      known_changes cs (after_own k c)
      (known_with k h k.me (position k k.me + 1) (changed (decls k k.me) c) (set_changed (decls k k.me) c own.0) (changed_of (ever k.me) (decls k k.me) c own.1 add.0)) add.1

  -- a change and a snapshot that another router tells
  pub step_known : (k : KnownState) → AllByRecursion (IsKnown ever) k.logs → (source : Name) (number : ℕ) (c : Change) → IsAdded (ever source) c → AllByRecursion (IsKnown ever) (after_step k source number c).logs
  step_known k h source number c add = by (is_next k source number)
    where
      by : (t : Bool) → AllByRecursion (IsKnown ever) (cond t (with_log k source number (changed (decls k source) c)) k).logs
      by true = let it = known_of k h source in known_with k h source number (changed (decls k source) c) (set_changed (decls k source) c it.0) (changed_of (ever source) (decls k source) c it.1 add)
      by false = h

  pub snap_known : (k : KnownState) → AllByRecursion (IsKnown ever) k.logs → (source : Name) (number : ℕ) (ds : List Decl) → AreOf (ever source) ds → AllByRecursion (IsKnown ever) (after_snap k source number ds).logs
  snap_known k h source number ds of = by (is_newer k source number)
    where
      by : (t : Bool) → AllByRecursion (IsKnown ever) (cond t (with_log k source number (set_of ds)) k).logs
      by true = known_with k h source number (set_of ds) (set_all ds) (set_of_these (ever source) ds of)
      by false = h

  -- ---- what is taken over has room

  within_limit : (held more : ℕ) → held + more ≤ most_weight → over_limit held more ≡ None
  within_limit held more le = ap (λ t. cond t (Some (TextLimit held more)) None) (le-ltb most_weight (held + more) le)

  change_fits : (set : List Decl) (z : Name) (c : Change) → IsSet set → AreOf (ever z) set → IsAdded (ever z) c → change_held set c + change_more c ≤ weight (ever z)
  change_fits set z c up of add = by c.added refl
    where
      by : (t : Bool) → c.added ≡ t → change_held set c + cond t (decl_weight c.decl) 0 ≤ weight (ever z)
      by true e = rest_weighs set (ever z) c.decl up of (add e)
      by false e = omega (arith, filter_sum decl_weight (λ d. not (is_eq (decl_cmp d c.decl))) set, part_weighs set (ever z) up of)

  pub step_taken : (k : KnownState) → AllByRecursion (IsKnown ever) k.logs → (source : Name) (number : ℕ) (c : Change) → IsAdded (ever source) c → weight (ever source) ≤ most_weight →
      is_gap k source number ≡ false → refuses_step k source number c ≡ None
  step_taken k h source number c add most no_gap = ap (λ t. cond t (Some (Gap source (position k source) number)) rest) no_gap ∙ by (is_next k source number)
    where
      rest : Option KnownError
      rest = cond (is_next k source number) (over_limit (change_held (decls k source) c) (change_more c)) None

      by : (t : Bool) → cond t (over_limit (change_held (decls k source) c) (change_more c)) None ≡ None
      by true = let it = known_of k h source in within_limit (change_held (decls k source) c) (change_more c) (omega (arith, change_fits (decls k source) source c it.0 it.1 add, most))
      by false = refl

  pub snap_taken : (k : KnownState) (source : Name) (number : ℕ) (ds : List Decl) → AreOf (ever source) ds → weight (ever source) ≤ most_weight → refuses_snap k source number ds ≡ None
  snap_taken k source number ds of most = by (is_newer k source number)
    where
      by : (t : Bool) → cond t (over_limit 0 (weight (set_of ds))) None ≡ None
      by true = within_limit 0 (weight (set_of ds)) (omega (arith, part_weighs (set_of ds) (ever source) (set_all ds) (set_of_these (ever source) ds of), most))
      by false = refl

-- ---- the own log's number

-- the own log's number, and its router's name, stay where another log is taken over
pub record IsApart (k k' : KnownState) : Type 0 where
  pub me : k'.me ≡ k.me
  pub number : position k' k'.me ≡ position k k.me

apart_itself : (k : KnownState) → IsApart k k
apart_itself k = record { me = refl; number = refl }

apart_with : (k : KnownState) (source : Name) (number : ℕ) (set : List Decl) → is_named source k.me ≡ false → IsApart k (with_log k source number set)
apart_with k source number set other = record {
  me = refl;
  number = position_with k source number set k.me ∙ ap (λ t. cond t number (position k k.me)) other;
}

pub step_apart : (k : KnownState) (source : Name) (number : ℕ) (c : Change) → IsApart k (after_step k source number c)
step_apart k source number c = by (is_next k source number) refl
  where
    by : (t : Bool) → is_next k source number ≡ t → IsApart k (cond t (with_log k source number (changed (decls k source) c)) k)
    by true e = apart_with k source number (changed (decls k source) c) (not-true (is_named source k.me) (and_parts (not (is_named source k.me)) (number == position k source + 1) e).0)
    by false e = apart_itself k

pub snap_apart : (k : KnownState) (source : Name) (number : ℕ) (ds : List Decl) → IsApart k (after_snap k source number ds)
snap_apart k source number ds = by (is_newer k source number) refl
  where
    by : (t : Bool) → is_newer k source number ≡ t → IsApart k (cond t (with_log k source number (set_of ds)) k)
    by true e = apart_with k source number (set_of ds) (not-true (is_named source k.me) (and_parts (not (is_named source k.me)) (nat_lt (position k source) number) e).0)
    by false e = apart_itself k
