-- How much of each log a router knows, as what spreads: of each source the position, and no value. A change tells its own number, and a
-- snapshot its position. What events do to positions, and what the messages that they send tell.
use Rattle.std.proofs.Common.{◌≡◌, ◌≤◌, ◌+◌, ℕ, suc, max, Bool, true, false, cond, List, [], ◌∷◌, ◌++◌, length, Option, Some, refl, sym, ap, ◌∙◌, subst, arith}
use Rattle.std.specs.Prelude.{flat_map}
use Rattle.std.specs.List.{AllByRecursion}
use Rattle.std.specs.Option.{option_map_or}
use Rattle.std.specs.Cmp.Lexicographic.{slice_cmp}
use Rattle.std.specs.Ordering.{nat_cmp}
use Rattle.std.specs.declared.cmp.Ordering.{Ordering}
use Rattle.std.specs.declared.cmp.Ordering.TheVariants.{Less}
use Rattle.std.proofs.lemmas.Bool.{false≢true}
use Rattle.std.proofs.lemmas.Grind.{flat_map-append}
use Rattle.std.proofs.lemmas.Map.Keys.{sorted_head, sorted_tail}
use Rattle.zr_id.specs.Zid.{is_named}
use Rattle.zr_id.specs.Record.{RecordState}
use Rattle.zr_graph.proofs.Names.{same_is, same_refl}
use Rattle.zr_msg.specs.declared.decl.Decl.{Decl}
use Rattle.zr_msg.specs.declared.msg.Msg.{Msg}
use Rattle.zr_msg.specs.declared.msg.Msg.TheVariants.{Sub, Unsub, Token, Untoken, Able, Unable, Interest, EndInterest, ToldSub, ToldAble, ToldUnsub, ToldToken, ToldUntoken, ToldUnable, ToldEnd, Push, Request, Response, Final, State, Step, Snap}
use Rattle.zr_lists.specs.Ascending.{IsAscending, at_key}
use Rattle.zr_lists.proofs.Order.{IsExactOrder, comes, is_itself, name_order}
use Rattle.zr_lists.proofs.Puts.{at-put}
use Rattle.zr_log.specs.declared.log.Log.{Log}
use Rattle.zr_log.specs.Log.{Change}
use Rattle.zr_log.specs.Known.{KnownState, AreInOrder, log_of, position, decls, with_log, after_own}
use Rattle.zr_log.proofs.Logs.{source_of}
use Rattle.zr_node_spec.specs.Changes.{after_changes, steps}
use Rattle.zr_node_spec.specs.Snapshots.{is_new_child, snapshot}
use Rattle.zr_law_settled.proofs.Answering.{TellsNothing}
use Rattle.zr_law_settled.proofs.Spreading.{Name, Known, Note, best, best_append}

-- ---- readings

-- a position tells of no value
abbrev pub Place : Type 0
Place = Unit {0}

abbrev pub placed : ℕ → Known Place
placed n = record { number = n; value = tt }

-- what a message tells of a log
abbrev pub places_in : Msg → List (Note Place)
places_in (Sub id key) = []
places_in (Unsub id) = []
places_in (Token id key) = []
places_in (Untoken id) = []
places_in (Able id key complete) = []
places_in (Unable id) = []
places_in (Interest id current future kinds key aggregate) = []
places_in (EndInterest id) = []
places_in (ToldSub id key interest) = []
places_in (ToldToken id key interest) = []
places_in (ToldAble id key complete interest) = []
places_in (ToldUnsub id) = []
places_in (ToldUntoken id) = []
places_in (ToldUnable id) = []
places_in (ToldEnd interest) = []
places_in (Push tree content) = []
places_in (Request tree id target content) = []
places_in (Response id content) = []
places_in (Final id extras) = []
places_in (State links) = []
places_in (Step source number added decl) = record { source = source; known = placed number } ∷ []
places_in (Snap source number decls) = record { source = source; known = placed number } ∷ []

-- a query tells nothing of logs, nor does what answers it
pub no_places : TellsNothing places_in
no_places = record { asks = λ tree number target content. refl; replies = λ number content. refl; ends = λ number extras. refl }

-- what messages tell of logs, in order
abbrev pub places : List Msg → List (Note Place)
places msgs = flat_map places_in msgs

pub places-append : (xs ys : List Msg) → places (xs ++ ys) ≡ places xs ++ places ys
places-append xs ys = flat_map-append places_in xs ys

pub best_both : (z : Name) (xs ys : List Msg) → best z (places (xs ++ ys)) ≡ max (best z (places xs)) (best z (places ys))
best_both z xs ys = ap (best z) (places-append xs ys) ∙ best_append z (places xs) (places ys)

pub best_if : (z : Name) (t : Bool) (xs : List Msg) (n : ℕ) → (t ≡ true → best z (places xs) ≤ n) → best z (places (cond t xs [])) ≤ n
best_if z true xs n h = h refl
best_if z false xs n h = omega arith

-- ---- positions

pub position_with : (k : KnownState) (source : Name) (number : ℕ) (set : List Decl) (z : Name) → position (with_log k source number set) z ≡ cond (is_named source z) number (position k z)
position_with k source number set z =
    ap (λ (o : Option Log). option_map_or (λ l. l.position) o 0) (at-put (slice_cmp nat_cmp) source_of name_order k.logs (record { source = source; position = number; decls = set }) z)
    ∙ by (is_named source z)
  where
    by : (t : Bool) → option_map_or (λ (l : Log). l.position) (cond t (Some (record { source = source; position = number; decls = set })) (log_of k z)) 0 ≡ cond t number (position k z)
    by true = refl
    by false = refl

-- changes of the own log
pub position_changes : (k : KnownState) (cs : List Change) → position (after_changes k cs) k.me ≡ position k k.me + length cs
position_changes k [] = omega arith
position_changes k (c ∷ cs) =
    let ih = position_changes (after_own k c) cs in
    let one : position (after_own k c) k.me ≡ position k k.me + 1 =
    position_with k k.me (position k k.me + 1) _ k.me ∙ ap (λ t. cond t (position k k.me + 1) (position k k.me)) (same_refl k.me) in
    omega (arith, ih, one)

pub position_others : (k : KnownState) (cs : List Change) (z : Name) → is_named k.me z ≡ false → position (after_changes k cs) z ≡ position k z
position_others k [] z other = refl
position_others k (c ∷ cs) z other =
    position_others (after_own k c) cs z other ∙ position_with k k.me (position k k.me + 1) _ z ∙ ap (λ t. cond t (position k k.me + 1) (position k z)) other

-- ---- changes as messages

pub steps_le : (source : Name) (n : ℕ) (cs : List Change) (z : Name) → best z (places (steps source n cs)) ≤ cond (is_named source z) (n + length cs) 0
steps_le source n [] z = omega arith
steps_le source n (c ∷ cs) z = by (is_named source z) (steps_le source (n + 1) cs z)
  where
    by : (t : Bool) → best z (places (steps source (n + 1) cs)) ≤ cond t (n + 1 + length cs) 0 →
        max (cond t (n + 1) 0) (best z (places (steps source (n + 1) cs))) ≤ cond t (n + suc (length cs)) 0
    by true ih = omega (arith, ih)
    by false ih = omega (arith, ih)

pub steps_tell : (source : Name) (n : ℕ) (c : Change) (cs : List Change) → n + length (c ∷ cs) ≤ best source (places (steps source n (c ∷ cs)))
steps_tell source n c [] = by (is_named source source) (same_refl source)
  where
    by : (t : Bool) → t ≡ true → n + 1 ≤ max (cond t (n + 1) 0) 0
    by true e = omega arith
    by false e = absurd (false≢true e)
steps_tell source n c (d ∷ ds) = let ih = steps_tell source (n + 1) d ds in omega (arith, ih)

-- ---- logs in order

-- in an ascending list each is found under its key
module _ {X K : Type 0} (cmp : K → K → Ordering) (key : X → K) (o : IsExactOrder cmp) where
  abbrev by_key : X → X → Ordering
  by_key x y = cmp (key x) (key y)

  further : (x : X) (ys zs : List X) → AllByRecursion (λ z. cmp (key x) (key z) ≡ Less) zs → AllByRecursion (λ z. at_key cmp key ys (key z) ≡ Some z) zs →
      AllByRecursion (λ z. at_key cmp key (x ∷ ys) (key z) ≡ Some z) zs
  further x ys [] less h = tt
  further x ys (z ∷ zs) less h =
      (ap (λ t. cond t (Some x) (at_key cmp key ys (key z))) (comes cmp o (key x) (key z) less.0).apart ∙ h.0, further x ys zs less.1 h.1)

  pub each_found : (xs : List X) → IsAscending cmp key xs → AllByRecursion (λ x. at_key cmp key xs (key x) ≡ Some x) xs
  each_found [] up = tt
  each_found (x ∷ xs) up =
      (ap (λ t. cond t (Some x) (at_key cmp key xs (key x))) (is_itself cmp o (key x)), further x xs xs (sorted_head by_key x xs up) (each_found xs (sorted_tail by_key x xs up)))

pub logs_found : (k : KnownState) → AreInOrder k → AllByRecursion (λ l. log_of k l.source ≡ Some l) k.logs
logs_found k h = each_found (slice_cmp nat_cmp) source_of name_order k.logs h.ascending

-- ---- snapshots

module _ (k : KnownState) (before after : List RecordState) (me name : Name) where
  abbrev pub snaps : List Log → List Msg
  snaps logs = flat_map (λ log. cond (is_new_child before after me log.source name) (snapshot log ∷ []) []) logs

  -- they tell no more than is known
  pub snaps_le : (z : Name) (logs : List Log) → AllByRecursion (λ l. log_of k l.source ≡ Some l) logs → best z (places (snaps logs)) ≤ position k z
  snaps_le z [] h = omega arith
  snaps_le z (log ∷ logs) h =
      let e = best_both z (cond (is_new_child before after me log.source name) (snapshot log ∷ []) []) (snaps logs) in
      omega (arith, e, snaps_le z logs h.1, one (is_new_child before after me log.source name) (is_named log.source z) refl)
    where
      one : (t s : Bool) → is_named log.source z ≡ s → best z (places (cond t (snapshot log ∷ []) [])) ≤ position k z
      one false s e = omega arith
      one true s e = rw e (at s e)
        where
          at : (s : Bool) → is_named log.source z ≡ s → max (cond s log.position 0) 0 ≤ position k z
          at false e = omega arith
          at true e =
              let same : position k z ≡ log.position = ap (position k) (sym (same_is log.source z e)) ∙ ap (λ (o : Option Log). option_map_or (λ l. l.position) o 0) h.0 in
              omega (arith, same)

  -- and all that is known of a log in whose tree the router is a new child
  pub snaps_tell : (z : Name) → is_new_child before after me z name ≡ true → (logs : List Log) →
      option_map_or (λ l. l.position) (at_key (slice_cmp nat_cmp) source_of logs z) 0 ≤ best z (places (snaps logs))
  snaps_tell z new [] = omega arith
  snaps_tell z new (log ∷ logs) = by (is_named log.source z) refl (snaps_tell z new logs)
    where
      e : best z (places (snaps (log ∷ logs))) ≡ max (best z (places (cond (is_new_child before after me log.source name) (snapshot log ∷ []) []))) (best z (places (snaps logs)))
      e = best_both z (cond (is_new_child before after me log.source name) (snapshot log ∷ []) []) (snaps logs)

      by : (t : Bool) → is_named log.source z ≡ t → option_map_or (λ l. l.position) (at_key (slice_cmp nat_cmp) source_of logs z) 0 ≤ best z (places (snaps logs)) →
          option_map_or (λ (l : Log). l.position) (cond t (Some log) (at_key (slice_cmp nat_cmp) source_of logs z)) 0 ≤ best z (places (snaps (log ∷ logs)))
      by false s ih = omega (arith, e, ih)
      by true s ih = omega (arith, e, sent)
        where
          is_new : is_new_child before after me log.source name ≡ true
          is_new = ap (λ q. is_new_child before after me q name) (same_is log.source z s) ∙ new

          one : (b : Bool) → b ≡ true → log.position ≤ max (cond b log.position 0) 0
          one true k = omega arith
          one false k = absurd (false≢true k)

          sent : log.position ≤ best z (places (cond (is_new_child before after me log.source name) (snapshot log ∷ []) []))
          sent = subst (λ (b : Bool). log.position ≤ best z (places (cond b (snapshot log ∷ []) []))) (sym is_new) (one (is_named log.source z) s)
