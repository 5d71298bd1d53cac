-- Ends of links, and what a look-up of an end finds after each change of a world's ends: a replacement (`with_end`), a new end
-- (`put_end`), a change where the end is there (`changed`), and messages that wait for a router's neighbours (`waiting`), as those that it has queued (`all_queued`). Each has its equation
-- (`.._is`), what any reading of the end says then (`read_..`), and that a reading which the change does not touch says the same (`keep_..`).
use Rattle.std.proofs.Common.{◌≡◌, ℕ, Bool, true, false, cond, List, Option, Some, None, refl, sym, ap, ◌∙◌, subst, [], ◌∷◌}
use Rattle.std.specs.Prelude.{◌&&◌, is_some}
use Rattle.std.specs.List.{list_all}
use Rattle.std.specs.Map.{keys_of}
use Rattle.std.specs.Option.{option_map}
use Rattle.std.specs.Ordering.{nat_cmp}
use Rattle.std.specs.BTreeMap.{insert_entry}
use Rattle.std.specs.Cmp.{IsEquivalence, IsTotalOrder, tied_then, then_total, on_total}
use Rattle.std.specs.Cmp.Lexicographic.{slice_cmp, nat_list_cmp_total}
use Rattle.std.specs.List.Sorted.{IsStrictlySortedBy}
use Rattle.std.proofs.lemmas.Bool.{and_parts, false≢true}
use Rattle.std.proofs.lemmas.Map.{keys-set_value}
use Rattle.zr_id.specs.Zid.{is_named}
use Rattle.zr_msg.specs.declared.event.Event.{Event}
use Rattle.zr_msg.specs.declared.msg.Msg.{Msg}
use Rattle.zr_node_spec.specs.State.{NodeState}
use Rattle.zr_world_spec.specs.World.{EndState, End, Ends, end_cmp, is_end, end_of, with_end, put_end, queued, changed, Tagged, is_empty}
use Rattle.zr_world_spec.specs.Acts.{waiting, sends_to, all_queued}
use Rattle.zr_world_spec.proofs.Keyed.{read_same, keys, lookup_set, lookup_insert, lookup_where, keys_where, sorted_insert, found_entry, entry_found, all_found}
use Rattle.zr_lists.proofs.Finds.{In}
use Rattle.zr_lists.proofs.Options.{read_cond, not_there}
use Rattle.zr_world_spec.proofs.Names.{same_name}

-- ---- ends

pub end_order : IsTotalOrder end_cmp
end_order = then_total (on_total (λ (e : End). e.0) nat_list_cmp_total) (on_total (λ (e : End). e.1) nat_list_cmp_total)

pub ends : IsEquivalence is_end
ends = keys end_order

-- two ends are one where their routers are and their neighbours are
pub end_parts : (a b : End) → is_end a b ≡ (is_named a.0 b.0 && is_named a.1 b.1)
end_parts a b = sym (tied_then (slice_cmp nat_cmp a.0 b.0) (slice_cmp nat_cmp a.1 b.1))

pub same_end : (a b : End) → is_end a b ≡ true → a ≡ b
same_end a b h =
    let parts = and_parts (is_named a.0 b.0) (is_named a.1 b.1) (sym (end_parts a b) ∙ h) in
    ap (λ z. (z, a.1)) (same_name a.0 b.0 parts.0) ∙ ap (λ z. (b.0, z)) (same_name a.1 b.1 parts.1)

-- one link between two routers has two ends
pub end_turned : (x y : List ℕ) → is_named x y ≡ false → is_end (x, y) (y, x) ≡ false
end_turned x y apart = end_parts (x, y) (y, x) ∙ ap (λ b. b && is_named y x) apart

-- ---- all ends

-- what all ends pass, the one that was found passes
pub end_passes : (t : End × EndState → Bool) (es : Ends) (q : End) (s : EndState) → list_all t es ≡ true → end_of es q ≡ Some s → t (q, s) ≡ true
end_passes t es q s h found = found_entry end_order same_end t es q s h found

-- and the other way round: what each end passes that can be found, all pass
pub all_ends_pass : (t : End × EndState → Bool) (es : Ends) → IsStrictlySortedBy end_cmp (keys_of es) → ((q : End) (s : EndState) → end_of es q ≡ Some s → t (q, s) ≡ true) →
    list_all t es ≡ true
all_ends_pass t es h each = all_found end_order same_end t es h each

-- each end is found, where they ascend
pub end_found : (es : Ends) (x : End × EndState) → IsStrictlySortedBy end_cmp (keys_of es) → In x es → end_of es x.0 ≡ Some x.1
end_found es x h i = entry_found end_order same_end es x h i

-- ---- a replacement

module _ (es : Ends) (e : End) (s : EndState) where
  pub with_end_is : (q : End) → is_some (end_of es e) ≡ true → end_of (with_end es e s) q ≡ cond (is_end e q) (Some s) (end_of es q)
  with_end_is q h = lookup_set end_order es e q s h

  pub read_with_end : {Y : Type 0} (f : Option EndState → Y) (q : End) → is_some (end_of es e) ≡ true →
      f (end_of (with_end es e s) q) ≡ cond (is_end e q) (f (Some s)) (f (end_of es q))
  read_with_end f q h = ap f (with_end_is q h) ∙ read_cond f (is_end e q) (Some s) (end_of es q)

  pub keep_with_end : {Y : Type 0} (f : Option EndState → Y) (q : End) (c : EndState) → end_of es e ≡ Some c → f (Some s) ≡ f (Some c) →
      f (end_of (with_end es e s) q) ≡ f (end_of es q)
  keep_with_end f q c h same = read_with_end f q (ap is_some h)
      ∙ read_same (is_end e q) (f (Some s)) (f (end_of es q)) (λ n. same ∙ ap f (sym h) ∙ ap (λ z. f (end_of es z)) (same_end e q n))

  -- a test that the end found passes after a replacement, where it passed before and the replacement keeps it
  pub test_with_end : (f : Option EndState → Bool) (q : End) (c : EndState) → end_of es e ≡ Some c → f (end_of es q) ≡ true →
      (is_end e q ≡ true → f (Some c) ≡ true → f (Some s) ≡ true) → f (end_of (with_end es e s) q) ≡ true
  test_with_end f q c h before step = read_with_end f q (ap is_some h) ∙ by (is_end e q) refl
    where
      by : (b : Bool) → is_end e q ≡ b → cond b (f (Some s)) (f (end_of es q)) ≡ true
      by true n = step n (ap f (sym h) ∙ ap (λ z. f (end_of es z)) (same_end e q n) ∙ before)
      by false n = before

  pub keys_with_end : keys_of (with_end es e s) ≡ keys_of es
  keys_with_end = keys-set_value (is_end e) es s

  -- ---- a new end, or one of which one knows

  pub put_end_is : (q : End) → end_of (put_end es e s) q ≡ cond (is_end e q) (Some s) (end_of es q)
  put_end_is q = by (is_some (end_of es e)) refl
    where
      by : (b : Bool) → is_some (end_of es e) ≡ b → end_of (cond b (with_end es e s) (insert_entry end_cmp es e s)) q ≡ cond (is_end e q) (Some s) (end_of es q)
      by true h = with_end_is q h
      by false h = lookup_insert end_order es e q s (not_there (end_of es e) h)

  pub read_put_end : {Y : Type 0} (f : Option EndState → Y) (q : End) → f (end_of (put_end es e s) q) ≡ cond (is_end e q) (f (Some s)) (f (end_of es q))
  read_put_end f q = ap f (put_end_is q) ∙ read_cond f (is_end e q) (Some s) (end_of es q)

  pub keep_put_end : {Y : Type 0} (f : Option EndState → Y) (q : End) → f (Some s) ≡ f (end_of es e) → f (end_of (put_end es e s) q) ≡ f (end_of es q)
  keep_put_end f q same = read_put_end f q ∙ read_same (is_end e q) (f (Some s)) (f (end_of es q)) (λ n. same ∙ ap (λ z. f (end_of es z)) (same_end e q n))

  pub sorted_put_end : IsStrictlySortedBy end_cmp (keys_of es) → IsStrictlySortedBy end_cmp (keys_of (put_end es e s))
  sorted_put_end h = by (is_some (end_of es e))
    where
      by : (b : Bool) → IsStrictlySortedBy end_cmp (keys_of (cond b (with_end es e s) (insert_entry end_cmp es e s)))
      by true = subst (IsStrictlySortedBy end_cmp) (sym keys_with_end) h
      by false = sorted_insert end_order es e s h

-- ---- a change of one end, where it is there

module _ (es : Ends) (e : End) (change : EndState → EndState) where
  pub changed_is : (q : End) → end_of (changed es e change) q ≡ cond (is_end e q) (option_map change (end_of es q)) (end_of es q)
  changed_is q = lookup_where end_order same_end (λ k. is_end e k) (λ k s. change s) es q

  pub read_changed : {Y : Type 0} (f : Option EndState → Y) (q : End) →
      f (end_of (changed es e change) q) ≡ cond (is_end e q) (f (option_map change (end_of es q))) (f (end_of es q))
  read_changed f q = ap f (changed_is q) ∙ read_cond f (is_end e q) (option_map change (end_of es q)) (end_of es q)

  pub keep_changed : {Y : Type 0} (f : Option EndState → Y) (q : End) → ((s : EndState) → f (Some (change s)) ≡ f (Some s)) →
      f (end_of (changed es e change) q) ≡ f (end_of es q)
  keep_changed f q same = read_changed f q ∙ read_same (is_end e q) (f (option_map change (end_of es q))) (f (end_of es q)) (λ n. by (end_of es q))
    where
      by : (o : Option EndState) → f (option_map change o) ≡ f o
      by None = refl
      by (Some s) = same s

  pub keys_changed : keys_of (changed es e change) ≡ keys_of es
  keys_changed = keys_where end_order (λ k. is_end e k) (λ k s. change s) es

-- ---- what waits for a router's neighbours

module _ (es : Ends) (x : List ℕ) (msgs : List ℕ → List Msg) (tag : ℕ) where
  -- what the messages to a neighbour make of the router's end to it
  abbrev pub with_waiting : List ℕ → EndState → EndState
  with_waiting y s = queued s (msgs y) tag

  pub waiting_is : (q : End) → end_of (waiting es x msgs tag) q ≡ cond (is_named x q.0) (option_map (with_waiting q.1) (end_of es q)) (end_of es q)
  waiting_is q = lookup_where end_order same_end (λ k. is_named x k.0) (λ k s. with_waiting k.1 s) es q

  pub read_waiting : {Y : Type 0} (f : Option EndState → Y) (q : End) →
      f (end_of (waiting es x msgs tag) q) ≡ cond (is_named x q.0) (f (option_map (with_waiting q.1) (end_of es q))) (f (end_of es q))
  read_waiting f q = ap f (waiting_is q) ∙ read_cond f (is_named x q.0) (option_map (with_waiting q.1) (end_of es q)) (end_of es q)

  pub keep_waiting : {Y : Type 0} (f : Option EndState → Y) (q : End) → ((s : EndState) → f (Some (with_waiting q.1 s)) ≡ f (Some s)) →
      f (end_of (waiting es x msgs tag) q) ≡ f (end_of es q)
  keep_waiting f q same = read_waiting f q ∙ read_same (is_named x q.0) (f (option_map (with_waiting q.1) (end_of es q))) (f (end_of es q)) (λ n. by (end_of es q))
    where
      by : (o : Option EndState) → f (option_map (with_waiting q.1) o) ≡ f o
      by None = refl
      by (Some s) = same s

  pub keys_waiting : keys_of (waiting es x msgs tag) ≡ keys_of es
  keys_waiting = keys_where end_order (λ (k : End). is_named x k.0) (λ k s. with_waiting k.1 s) es

-- what a router has queued
module _ (es : Ends) (x : List ℕ) (node : NodeState) (event : Event) (tag : ℕ) where
  abbrev pub with_sent : List ℕ → EndState → EndState
  with_sent y s = queued s (sends_to node event y) tag

  pub all_queued_is : (q : End) → end_of (all_queued es x node event tag) q ≡ cond (is_named x q.0) (option_map (with_sent q.1) (end_of es q)) (end_of es q)
  all_queued_is q = waiting_is es x (sends_to node event) tag q

  pub read_all_queued : {Y : Type 0} (f : Option EndState → Y) (q : End) →
      f (end_of (all_queued es x node event tag) q) ≡ cond (is_named x q.0) (f (option_map (with_sent q.1) (end_of es q))) (f (end_of es q))
  read_all_queued f q = read_waiting es x (sends_to node event) tag f q

  pub keep_all_queued : {Y : Type 0} (f : Option EndState → Y) (q : End) → ((s : EndState) → f (Some (with_sent q.1 s)) ≡ f (Some s)) →
      f (end_of (all_queued es x node event tag) q) ≡ f (end_of es q)
  keep_all_queued f q same = keep_waiting es x (sends_to node event) tag f q same

  pub keys_all_queued : keys_of (all_queued es x node event tag) ≡ keys_of es
  keys_all_queued = keys_waiting es x (sends_to node event) tag

-- where a test finds no message there is none
pub none_there : (ts : List Tagged) → is_empty ts ≡ true → ts ≡ []
none_there [] h = refl
none_there (t ∷ ts) h = absurd (false≢true h)
