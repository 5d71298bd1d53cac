-- What a router knows of logs, where each change and each snapshot was taken over only if it might be: what the clients of each router declare is
-- a set that isn't too heavy, and the own one is that of what the own clients have declared.
use Rattle.std.proofs.Common.{◌≡◌, ℕ, ◌+◌, ◌<◌, ◌≤◌, ◌==◌, nat_lt, not, Bool, true, false, cond, List, [], ◌∷◌, Option, Some, None, Ordering, Less, refl, sym, ap, subst, ◌∙◌, arith}
use Rattle.std.specs.Cmp.Lexicographic.{slice_cmp}
use Rattle.std.specs.List.{AllByRecursion, fold}
use Rattle.std.specs.Option.{option_map_or}
use Rattle.std.specs.Ordering.{nat_cmp}
use Rattle.std.proofs.lemmas.Bool.{true≢false, and_parts, eqb-true, ltb-true, not-true}
use Rattle.std.proofs.lemmas.Map.Keys.{sorted_head, sorted_tail}
use Rattle.zr_graph.proofs.Names.{same_is, same_refl}
use Rattle.zr_id.specs.Zid.{is_named}
use Rattle.zr_msg.specs.declared.decl.Decl.{Decl}
use Rattle.zr_lists.specs.Ascending.{IsAscending, at_key}
use Rattle.zr_log_set.specs.Decls.{IsSet, set_of, weight, most_weight}
use Rattle.zr_log_set.proofs.Decls.{all_weigh, set_all, set_none}
use Rattle.zr_lists.proofs.Order.{comes, is_itself, name_order}
use Rattle.zr_lists.proofs.Puts.{All-put}
use Rattle.zr_local.specs.Rows.{declared_set, decls_of, weight_of}
use Rattle.zr_local.specs.declared.row.Row.{Row}
use Rattle.zr_log.specs.declared.error.KnownError.TheVariants.{Gap, TextLimit}
use Rattle.zr_log.specs.declared.log.Log.{Log}
use Rattle.zr_log.specs.Known.{KnownState, AreInOrder, after_own, after_snap, after_step, decls, is_gap, is_newer, is_next, log_of, nothing_known, over_limit, position, refuses_snap, refuses_step, with_log}
use Rattle.zr_log.specs.Log.{Change, change_held, change_more, changed}
use Rattle.zr_log.proofs.Changes.{set_changed}
use Rattle.zr_log.proofs.Logs.{in_order_none, in_order_put, source_of}
use Rattle.zr_node_spec.specs.Changes.{after_changes, changes}
use Rattle.zr_node_spec.proofs.Changes.{decls_with, me_changes, decls_fold, rows_lead}
use Rattle.zr_lists.proofs.Each.{All-each}
use Rattle.zr_law_sent.specs.Sent.{IsLight}
use Rattle.zr_law_sent.proofs.Weights.{changed_light, within_limit}

-- the declarations of a log are a set, and that of another router's isn't too heavy
abbrev pub IsTaken : List ℕ → Log → Type 0
IsTaken me l = IsSet l.decls × (is_named l.source me ≡ false → weight l.decls ≤ most_weight)

pub record AreTaken (k : KnownState) : Type 0 where
  pub in_order : AreInOrder k
  pub each : AllByRecursion (IsTaken k.me) k.logs

-- and the own one is that of these rows
pub record AreKept (k : KnownState) (rows : List Row) : Type 0 where
  pub taken : AreTaken k
  pub own : decls k k.me ≡ declared_set rows

pub kept_none : (me : List ℕ) → AreKept (nothing_known me) []
kept_none me = record { taken = record { in_order = in_order_none me; each = tt }; own = refl }

-- ---- one more change, or a snapshot

taken_with : (k : KnownState) (source : List ℕ) (number : ℕ) (set : List Decl) → AreTaken k → 0 < number → IsSet set → (is_named source k.me ≡ false → weight set ≤ most_weight) →
    AreTaken (with_log k source number set)
taken_with k source number set h some up light = record {
  in_order = in_order_put k.me k.logs (record { source = source; position = number; decls = set }) h.in_order some;
  each = All-put (slice_cmp nat_cmp) source_of name_order (IsTaken k.me) k.logs (record { source = source; position = number; decls = set }) h.each (up, light);
}

set_known : (k : KnownState) (source : List ℕ) → AreTaken k → IsSet (decls k source)
set_known k source h = among k.logs (All-each (IsTaken k.me) (λ l. IsSet l.decls) k.logs (λ l t. t.0) h.each)
  where
    among : (logs : List Log) → AllByRecursion (λ l. IsSet l.decls) logs → IsSet (option_map_or (λ l. l.decls) (at_key (slice_cmp nat_cmp) source_of logs source) [])
    among [] all = set_none
    among (l ∷ logs) all = by (is_named l.source source) (among logs all.1)
      where
        by : (t : Bool) → IsSet (option_map_or (λ l. l.decls) (at_key (slice_cmp nat_cmp) source_of logs source) []) →
            IsSet (option_map_or (λ l. l.decls) (cond t (Some l) (at_key (slice_cmp nat_cmp) source_of logs source)) [])
        by true ih = all.0
        by false ih = ih

-- the log of another router leaves the own one as it is
kept_with : (k : KnownState) (rows : List Row) (source : List ℕ) (number : ℕ) (set : List Decl) → AreKept k rows → is_named source k.me ≡ false → 0 < number → IsSet set → weight set ≤ most_weight →
    AreKept (with_log k source number set) rows
kept_with k rows source number set h other some up light = record {
  taken = taken_with k source number set h.taken some up (λ _. light);
  own = decls_with k source number set k.me ∙ ap (λ t. cond t set (decls k k.me)) other ∙ h.own;
}

pub kept_step : (k : KnownState) (rows : List Row) (source : List ℕ) (number : ℕ) (c : Change) → AreKept k rows → refuses_step k source number c ≡ None → AreKept (after_step k source number c) rows
kept_step k rows source number c h may = by (is_gap k source number) (is_next k source number) refl may
  where
    by : (g n : Bool) → is_next k source number ≡ n →
        cond g (Some (Gap source (position k source) number)) (cond n (over_limit (change_held (decls k source) c) (change_more c)) None) ≡ None →
        AreKept (cond n (with_log k source number (changed (decls k source) c)) k) rows
    by true n e may = cc
    by false false e may = h
    by false true e may =
        let both = and_parts (not (is_named source k.me)) (number == position k source + 1) e in
        let next : number ≡ position k source + 1 = eqb-true number (position k source + 1) both.1 in
        let up = set_known k source h.taken in
        let light = within_limit (change_held (decls k source) c + change_more c) (TextLimit (change_held (decls k source) c) (change_more c)) may in
        kept_with k rows source number (changed (decls k source) c) h (not-true (is_named source k.me) both.0) (omega (arith, next)) (set_changed (decls k source) c up)
        (omega (arith, light, changed_light (decls k source) c up))

pub kept_snap : (k : KnownState) (rows : List Row) (source : List ℕ) (number : ℕ) (ds : List Decl) → AreKept k rows → refuses_snap k source number ds ≡ None → AreKept (after_snap k source number ds) rows
kept_snap k rows source number ds h may = by (is_newer k source number) refl may
  where
    by : (n : Bool) → is_newer k source number ≡ n → cond n (over_limit 0 (weight (set_of ds))) None ≡ None → AreKept (cond n (with_log k source number (set_of ds)) k) rows
    by false e may = h
    by true e may =
        let both = and_parts (not (is_named source k.me)) (nat_lt (position k source) number) e in
        let newer = ltb-true (position k source) number both.1 in
        let light = within_limit (0 + weight (set_of ds)) (TextLimit 0 (weight (set_of ds))) may in
        kept_with k rows source number (set_of ds) h (not-true (is_named source k.me) both.0) (omega (arith, newer)) (set_all ds) (omega (arith, light))

-- ---- changes of the own log

taken_changes : (k : KnownState) (cs : List Change) → AreTaken k → AreTaken (after_changes k cs)
taken_changes k [] h = h
taken_changes k (c ∷ cs) h =
    taken_changes (after_own k c) cs
    (taken_with k k.me (position k k.me + 1) (changed (decls k k.me) c) h (omega arith) (set_changed (decls k k.me) c (set_known k k.me h))
    (λ other. absurd (true≢false (sym (same_refl k.me) ∙ other))))

pub kept_rows : (k : KnownState) (before after : List Row) → AreKept k before → AreKept (after_changes k (changes before after)) after
kept_rows k before after h =
    let cs : List Change = changes before after in
    record {
      taken = taken_changes k cs h.taken;
      own = ap (decls (after_changes k cs)) (me_changes k cs) ∙ decls_fold k cs ∙ ap (λ s. fold changed s cs) h.own ∙ rows_lead before after;
    }

-- ---- all are light

-- each is found under its router
further : (l : Log) (found logs : List Log) → AllByRecursion (λ m. slice_cmp nat_cmp l.source m.source ≡ Less) logs →
    AllByRecursion (λ m. at_key (slice_cmp nat_cmp) source_of found m.source ≡ Some m) logs → AllByRecursion (λ m. at_key (slice_cmp nat_cmp) source_of (l ∷ found) m.source ≡ Some m) logs
further l found [] less h = tt
further l found (m ∷ logs) less h = (
  ap (λ t. cond t (Some l) (at_key (slice_cmp nat_cmp) source_of found m.source)) (comes (slice_cmp nat_cmp) name_order l.source m.source less.0).apart ∙ h.0,
  further l found logs less.1 h.1,
)

each_found : (logs : List Log) → IsAscending (slice_cmp nat_cmp) source_of logs → AllByRecursion (λ l. at_key (slice_cmp nat_cmp) source_of logs l.source ≡ Some l) logs
each_found [] up = tt
each_found (l ∷ logs) up =
    let by_source : Log → Log → Ordering = λ a b. slice_cmp nat_cmp a.source b.source in (
      ap (λ t. cond t (Some l) (at_key (slice_cmp nat_cmp) source_of logs l.source)) (is_itself (slice_cmp nat_cmp) name_order l.source),
      further l logs logs (sorted_head by_source l logs up) (each_found logs (sorted_tail by_source l logs up)),
    )

pub logs_light : (k : KnownState) (rows : List Row) → AreKept k rows → weight_of rows ≤ most_weight → AllByRecursion IsLight k.logs
logs_light k rows h light = each k.logs h.taken.in_order.begun h.taken.each (each_found k.logs h.taken.in_order.ascending)
  where
    own : weight (decls k k.me) ≤ most_weight
    own = let most = all_weigh (decls_of rows) in let same : weight (decls k k.me) ≡ weight (declared_set rows) = ap weight h.own in omega (arith, most, same, light)

    one : (l : Log) (b : Bool) → is_named l.source k.me ≡ b → (is_named l.source k.me ≡ false → weight l.decls ≤ most_weight) → log_of k l.source ≡ Some l → weight l.decls ≤ most_weight
    one l false e other found = other e
    one l true e other found =
        let here : decls k l.source ≡ l.decls = ap (λ (o : Option Log). option_map_or (λ x. x.decls) o []) found in
        subst (λ ds. weight ds ≤ most_weight) (ap (decls k) (sym (same_is l.source k.me e)) ∙ here) own

    each : (logs : List Log) → AllByRecursion (λ l. 0 < l.position) logs → AllByRecursion (IsTaken k.me) logs → AllByRecursion (λ l. log_of k l.source ≡ Some l) logs → AllByRecursion IsLight logs
    each [] begun taken found = tt
    each (l ∷ logs) begun taken found =
        ((begun.0, taken.0.0, one l (is_named l.source k.me) refl taken.0.1 found.0), each logs begun.1 taken.1 found.1)
