-- What is held, place by place: the replies of one request in order of their keys, and the gathering of an asker, who has one at most.
use Rattle.std.proofs.Common.{◌≡◌, ℕ, zero, suc, ◌+◌, ◌≤◌, ◌<◌, ◌==◌, ◌||◌, not, Bool, true, false, cond, List, [], ◌∷◌, ◌++◌, append_assoc, map, filter, length, drop, set, get_or, Option, Some, None, refl, sym, ap, ◌∙◌, subst, arith}
use Rattle.std.specs.Cmp.Lexicographic.{slice_cmp}
use Rattle.std.specs.List.{find, fold, list_any, remove, sum_by}
use Rattle.std.specs.List.Sorted.{IsStrictlySortedBy}
use Rattle.std.specs.Option.{option_map_or}
use Rattle.std.specs.Ordering.{nat_cmp}
use Rattle.std.proofs.lemmas.Bool.{eqb-true, leb-true, false_from_ne_true, not-true, not_from_false, and_from, true≢false}
use Rattle.std.proofs.lemmas.List.{drop_more}
use Rattle.std.proofs.lemmas.List.Sums.{sum_by-cons}
use Rattle.zr_lists.proofs.Filters.{find_filter_kept}
use Rattle.zr_lists.proofs.Numbers.{same_number}
use Rattle.zr_lists.proofs.Order.{name_order}
use Rattle.zr_lists.proofs.Sums.{put_sum_le}
use Rattle.zr_lists.proofs.Parts.{and_left, and_right, left_false, right_false}
use Rattle.zr_body.specs.Latest.{is_later}
use Rattle.zr_pend_spec.specs.declared.branch.Asker.{Asker}
use Rattle.zr_pend_spec.specs.declared.branch.Branch.{Branch}
use Rattle.zr_pend_spec.specs.Pending.{asker_of}
use Rattle.zr_pend_spec.specs.Row.{RowState}
use Rattle.zr_msg.specs.declared.content.Parts.{Parts}
use Rattle.zr_pend_spec.specs.Held.{AreByKey, GatheringState, after_reply, are_apart, ending, gatherer, gathering_begun, gathering_weight, gatherings_at, gatherings_differ, gatherings_with, gatherings_without, gathers_for, has_room, held_at_branch, held_for, held_if, held_of, held_weight, held_with, is_asker, is_for, most_held, put_reply, regathered, reply_weight, takes_place}

pub by_key_none : AreByKey []
unfolding IsStrictlySortedBy
by_key_none = tt

abbrev pub key_of : Parts → List ℕ
key_of c = c.key

-- ---- askers

abbrev asker_at : ℕ → ℕ → Asker
asker_at link number = record { link = record { 0 = link }; number = number }

pub same_asker : (a b : Asker) → is_asker a b ≡ true → a ≡ b
same_asker a b t =
    let l : a.link.0 ≡ b.link.0 = eqb-true a.link.0 b.link.0 (and_left (a.link.0 == b.link.0) (a.number == b.number) t) in
    let n : a.number ≡ b.number = eqb-true a.number b.number (and_right (a.link.0 == b.link.0) (a.number == b.number) t) in
    ext a.link.0 b.link.0 a.number b.number l n
  where
    ext : (l k m n : ℕ) → l ≡ k → m ≡ n → asker_at l m ≡ asker_at k n
    ext l k m n e f i = asker_at (e i) (f i)

pub itself : (a : Asker) → is_asker a a ≡ true
itself a = rw (same_number a.link.0, same_number a.number) refl

-- ---- the gathering of one asker

module _ (a : Asker) where
  -- where one is for who asked, none behind it is
  none_behind : (g : GatheringState) (gs : List GatheringState) → gatherings_differ (g ∷ gs) ≡ true → is_for a g ≡ true → gathers_for gs a ≡ false
  none_behind g gs d h = subst (λ b. gathers_for gs b ≡ false) (same_asker g.asker a h) (not-true _ (and_left _ _ d))

  -- nor one before it
  not_before : (g : GatheringState) (gs : List GatheringState) → gatherings_differ (g ∷ gs) ≡ true → gathers_for gs a ≡ true → is_for a g ≡ false
  not_before g gs d h = false_from_ne_true _ (λ t. true≢false (sym h ∙ none_behind g gs d t))

  all_stay : (gs : List GatheringState) → gathers_for gs a ≡ false → gatherings_without gs a ≡ gs
  all_stay [] h = refl
  all_stay (g ∷ gs) h = rw (left_false (is_for a g) _ h) (ap (λ xs. g ∷ xs) (all_stay gs (right_false (is_for a g) _ h)))

  none_changes : (f : List Parts → List Parts) (gs : List GatheringState) → gathers_for gs a ≡ false → gatherings_at gs a f ≡ gs
  none_changes f [] h = refl
  none_changes f (g ∷ gs) h = rw (left_false (is_for a g) _ h) (ap (λ xs. g ∷ xs) (none_changes f gs (right_false (is_for a g) _ h)))

  pub place_gathers : (gs : List GatheringState) (at : ℕ) (d : GatheringState) → at < length gs → is_for a (get_or gs at d) ≡ true → gathers_for gs a ≡ true
  place_gathers [] at d lt h = absurd (omega arith)
  place_gathers (g ∷ gs) zero d lt h = rw h refl
  place_gathers (g ∷ gs) (suc at) d lt h = by (is_for a g) (place_gathers gs at d (omega arith) h)
    where
      by : (t : Bool) → gathers_for gs a ≡ true → (t || gathers_for gs a) ≡ true
      by true k = refl
      by false k = k

  -- the gathering at a place is that of who asked
  pub found_at : (gs : List GatheringState) (at : ℕ) (d : GatheringState) → gatherings_differ gs ≡ true → at < length gs → is_for a (get_or gs at d) ≡ true →
      find (λ g. is_for a g) gs ≡ Some (get_or gs at d)
  found_at [] at d s lt h = absurd (omega arith)
  found_at (g ∷ gs) zero d s lt h = rw h refl
  found_at (g ∷ gs) (suc at) d s lt h =
      let other = not_before g gs s (place_gathers gs at d (omega arith) h) in
      rw other (found_at gs at d (and_right _ _ s) (omega arith) h)

  pub without_at : (gs : List GatheringState) (at : ℕ) (d : GatheringState) → gatherings_differ gs ≡ true → at < length gs → is_for a (get_or gs at d) ≡ true →
      gatherings_without gs a ≡ remove gs at
  without_at [] at d s lt h = absurd (omega arith)
  without_at (g ∷ gs) zero d s lt h = rw h (all_stay gs (none_behind g gs s h))
  without_at (g ∷ gs) (suc at) d s lt h =
      let other = not_before g gs s (place_gathers gs at d (omega arith) h) in
      rw other (ap (λ xs. g ∷ xs) (without_at gs at d (and_right _ _ s) (omega arith) h))

  pub changed_at : (f : List Parts → List Parts) (gs : List GatheringState) (at : ℕ) (d : GatheringState) → gatherings_differ gs ≡ true → at < length gs → is_for a (get_or gs at d) ≡ true →
      gatherings_at gs a f ≡ set gs at (regathered f (get_or gs at d))
  changed_at f [] at d s lt h = absurd (omega arith)
  changed_at f (g ∷ gs) zero d s lt h = rw h (ap (λ xs. regathered f g ∷ xs) (none_changes f gs (none_behind g gs s h)))
  changed_at f (g ∷ gs) (suc at) d s lt h =
      let other = not_before g gs s (place_gathers gs at d (omega arith) h) in
      rw other (ap (λ xs. g ∷ xs) (changed_at f gs at d (and_right _ _ s) (omega arith) h))

-- ---- one has a gathering at most

any_kept : (p q : GatheringState → Bool) (gs : List GatheringState) → list_any p gs ≡ false → list_any p (filter q gs) ≡ false
any_kept p q [] h = refl
any_kept p q (g ∷ gs) h = by (q g) (any_kept p q gs (right_false (p g) _ h))
  where
    by : (t : Bool) → list_any p (filter q gs) ≡ false → list_any p (cond t (g ∷ filter q gs) (filter q gs)) ≡ false
    by true ih = rw (left_false (p g) _ h) ih
    by false ih = ih

pub differ_kept : (q : GatheringState → Bool) (gs : List GatheringState) → gatherings_differ gs ≡ true → gatherings_differ (filter q gs) ≡ true
differ_kept q [] h = refl
differ_kept q (g ∷ gs) h = by (q g) (differ_kept q gs (and_right _ _ h))
  where
    by : (t : Bool) → gatherings_differ (filter q gs) ≡ true → gatherings_differ (cond t (g ∷ filter q gs) (filter q gs)) ≡ true
    by true ih = and_from _ _ (not_from_false _ (any_kept (λ k. is_for g.asker k) q gs (not-true _ (and_left _ _ h)))) ih
    by false ih = ih

any_removed : (p : GatheringState → Bool) (gs : List GatheringState) (at : ℕ) → list_any p gs ≡ false → list_any p (remove gs at) ≡ false
any_removed p [] zero h = refl
any_removed p [] (suc at) h = refl
any_removed p (g ∷ gs) zero h = right_false (p g) _ h
any_removed p (g ∷ gs) (suc at) h = rw (left_false (p g) _ h) (any_removed p gs at (right_false (p g) _ h))

pub differ_removed : (gs : List GatheringState) (at : ℕ) → gatherings_differ gs ≡ true → gatherings_differ (remove gs at) ≡ true
differ_removed [] zero h = refl
differ_removed [] (suc at) h = refl
differ_removed (g ∷ gs) zero h = and_right _ _ h
differ_removed (g ∷ gs) (suc at) h =
    and_from _ _ (not_from_false _ (any_removed (λ k. is_for g.asker k) gs at (not-true _ (and_left _ _ h)))) (differ_removed gs at (and_right _ _ h))

any_changed : (f : List Parts → List Parts) (b : Asker) (gs : List GatheringState) (at : ℕ) (d : GatheringState) → at < length gs →
    gathers_for (set gs at (regathered f (get_or gs at d))) b ≡ gathers_for gs b
any_changed f b [] at d lt = absurd (omega arith)
any_changed f b (g ∷ gs) zero d lt = refl
any_changed f b (g ∷ gs) (suc at) d lt = ap (λ t. is_for b g || t) (any_changed f b gs at d (omega arith))

pub differ_changed : (f : List Parts → List Parts) (gs : List GatheringState) (at : ℕ) (d : GatheringState) → at < length gs → gatherings_differ gs ≡ true →
    gatherings_differ (set gs at (regathered f (get_or gs at d))) ≡ true
differ_changed f [] at d lt h = absurd (omega arith)
differ_changed f (g ∷ gs) zero d lt h = h
differ_changed f (g ∷ gs) (suc at) d lt h =
    and_from _ _ (ap not (any_changed f g.asker gs at d (omega arith)) ∙ and_left _ _ h) (differ_changed f gs at d (omega arith) (and_right _ _ h))

any_begun : (a b : Asker) (gs : List GatheringState) → gathers_for gs b ≡ false → is_asker a b ≡ false → gathers_for (gathering_begun gs a) b ≡ false
any_begun a b [] h e = rw e refl
any_begun a b (g ∷ gs) h e = rw (left_false (is_for b g) _ h) (any_begun a b gs (right_false (is_for b g) _ h) e)

pub differ_begun : (a : Asker) (gs : List GatheringState) → gathers_for gs a ≡ false → gatherings_differ gs ≡ true → gatherings_differ (gathering_begun gs a) ≡ true
differ_begun a [] h d = refl
differ_begun a (g ∷ gs) h d =
    let other : is_asker g.asker a ≡ false = left_false (is_for a g) _ h in
    and_from _ _ (not_from_false _ (any_begun a g.asker gs (not-true _ (and_left _ _ d)) (turned a g.asker other))) (differ_begun a gs (right_false (is_for a g) _ h) (and_right _ _ d))
  where
    turned : (a b : Asker) → is_asker b a ≡ false → is_asker a b ≡ false
    turned a b f = false_from_ne_true _ (λ t. let same : a ≡ b = same_asker a b t in true≢false (sym (subst (λ c. is_asker c a ≡ true) same (itself a)) ∙ f))

-- ---- what is held for another asker

-- it stays where one is taken
pub held_else : (a b : Asker) (gs : List GatheringState) → is_asker b a ≡ false → held_for (gatherings_without gs a) b ≡ held_for gs b
held_else a b gs f =
    ap (λ o. option_map_or (λ g. g.held) o [])
    (find_filter_kept (λ g. is_for b g) (λ g. not (is_for a g)) gs (λ g t. not_from_false _ (false_from_ne_true _ (λ u.
    let one : g.asker ≡ a = same_asker g.asker a u in
    let two : g.asker ≡ b = same_asker g.asker b t in
    true≢false (sym (subst (λ c. is_asker c a ≡ true) two u) ∙ f)))))

pub endings_else : (a : Asker) (gs : List GatheringState) (others : List Asker) → list_any (λ b. is_asker b a) others ≡ false →
    map (λ b. ending (gatherings_without gs a) b) others ≡ map (λ b. ending gs b) others
endings_else a gs [] h = refl
endings_else a gs (b ∷ others) h =
    let same : held_for (gatherings_without gs a) b ≡ held_for gs b = held_else a b gs (left_false (is_asker b a) _ h) in
    rw (same, endings_else a gs others (right_false (is_asker b a) _ h)) refl

-- ---- weights

pub weighs_if : (later : Parts → Bool) (held : List Parts) (reply : Parts) → sum_by reply_weight (held_if later held reply) ≤ sum_by reply_weight held + reply_weight reply
weighs_if later held reply = by (takes_place later held reply)
  where
    by : (t : Bool) → sum_by reply_weight (cond t (put_reply held reply) held) ≤ sum_by reply_weight held + reply_weight reply
    by true = put_sum_le reply_weight (slice_cmp nat_cmp) (λ (c : Parts). c.key) name_order held reply
    by false = omega arith

pub room_is : (held : List GatheringState) (reply : Parts) → has_room held reply ≡ true → held_weight held + reply_weight reply ≤ most_held
room_is held reply h = leb-true (held_weight held + reply_weight reply) most_held h

-- what weighs on a link and off it is all
pub parts_weigh : (link : ℕ) (gs : List GatheringState) →
    sum_by gathering_weight (filter (λ g. not (g.asker.link.0 == link)) gs) + sum_by gathering_weight (filter (λ g. g.asker.link.0 == link) gs) ≡ sum_by gathering_weight gs
parts_weigh link [] = refl
parts_weigh link (g ∷ gs) = by (g.asker.link.0 == link) (parts_weigh link gs)
  where
    by : (t : Bool) →
        sum_by gathering_weight (filter (λ k. not (k.asker.link.0 == link)) gs) + sum_by gathering_weight (filter (λ k. k.asker.link.0 == link) gs) ≡ sum_by gathering_weight gs →
        sum_by gathering_weight (cond (not t) (g ∷ filter (λ k. not (k.asker.link.0 == link)) gs) (filter (λ k. not (k.asker.link.0 == link)) gs))
        + sum_by gathering_weight (cond t (g ∷ filter (λ k. k.asker.link.0 == link) gs) (filter (λ k. k.asker.link.0 == link) gs))
        ≡ sum_by gathering_weight (g ∷ gs)
    by true ih = omega (arith, ih, sum_by-cons gathering_weight g gs, sum_by-cons gathering_weight g (filter (λ k. k.asker.link.0 == link) gs))
    by false ih = omega (arith, ih, sum_by-cons gathering_weight g gs, sum_by-cons gathering_weight g (filter (λ k. not (k.asker.link.0 == link)) gs))

-- ---- what a search for an asker answers

abbrev gathering_of : Asker → List Parts → GatheringState
gathering_of a held = record { asker = a; held = held }

gathering_is : (g : GatheringState) (a : Asker) (held : List Parts) → g.asker ≡ a → g.held ≡ held → g ≡ gathering_of a held
gathering_is g a held e f i = gathering_of (e i) (f i)

module _ (a : Asker) (gs : List GatheringState) where
  none_found : gathers_for gs a ≡ false → find (λ g. is_for a g) gs ≡ None
  none_found h = search_none gs h
    where
      search_none : (ks : List GatheringState) → gathers_for ks a ≡ false → find (λ g. is_for a g) ks ≡ None
      search_none [] k = refl
      search_none (g ∷ ks) k = rw (left_false (is_for a g) _ k) (search_none ks (right_false (is_for a g) _ k))

  pub held_absent : gathers_for gs a ≡ false → held_for gs a ≡ []
  held_absent h = ap (λ o. option_map_or (λ g. g.held) o []) (none_found h)

  pub without_absent : gathers_for gs a ≡ false → gatherings_without gs a ≡ gs
  without_absent h = all_stay a gs h

  module _ (at : ℕ) (d : GatheringState) (s : gatherings_differ gs ≡ true) (lt : at < length gs) (h : is_for a (get_or gs at d) ≡ true) where
    pub held_there : held_for gs a ≡ (get_or gs at d).held
    held_there = ap (λ o. option_map_or (λ g. g.held) o []) (found_at a gs at d s lt h)

    pub ending_there : get_or gs at d ≡ ending gs a
    ending_there = gathering_is (get_or gs at d) a (held_for gs a) (same_asker (get_or gs at d).asker a h) (sym held_there)

-- ---- one asker more is sent what was held for it

module _ (askers : List Asker) (i : ℕ) (d : Asker) (gs news : List GatheringState) (lt : i < length askers) (e : news ≡ gatherings_without gs (get_or askers i d)) where
  pub without_more : (all : List GatheringState) → fold gatherings_without gs (drop i askers) ≡ all → fold gatherings_without news (drop (i + 1) askers) ≡ all
  without_more all h =
      ap (λ ks. fold gatherings_without ks (drop (i + 1) askers)) e ∙ ap (λ xs. fold gatherings_without gs xs) (sym (drop_more askers i d lt)) ∙ h

  pub endings_more : (ended more all : List GatheringState) (one : GatheringState) → are_apart (drop i askers) ≡ true → one ≡ ending gs (get_or askers i d) → more ≡ ended ++ one ∷ [] →
      ended ++ map (λ a. ending gs a) (drop i askers) ≡ all → more ++ map (λ a. ending news a) (drop (i + 1) askers) ≡ all
  endings_more ended more all one apart is m h =
      let left = drop (i + 1) askers in
      let here = get_or askers i d in
      let first : are_apart (here ∷ left) ≡ true = ap are_apart (sym (drop_more askers i d lt)) ∙ apart in
      let same : map (λ a. ending news a) left ≡ map (λ a. ending gs a) left =
      ap (λ ks. map (λ a. ending ks a) left) e ∙ endings_else here gs left (not-true _ (and_left _ _ first)) in
      rw (m, same, is)
      (append_assoc ended (ending gs here ∷ []) (map (λ a. ending gs a) left)
      ∙ ap (λ xs. ended ++ map (λ a. ending gs a) xs) (sym (drop_more askers i d lt))
      ∙ h)

  pub apart_more : are_apart (drop i askers) ≡ true → are_apart (drop (i + 1) askers) ≡ true
  apart_more apart = and_right _ _ (ap are_apart (sym (drop_more askers i d lt)) ∙ apart)

-- ---- a reply comes

-- what becomes of the replies of an asker is what becomes of those that are held for it
pub changes_alike : (a : Asker) (gs : List GatheringState) (f h : List Parts → List Parts) → gatherings_differ gs ≡ true → f (held_for gs a) ≡ h (held_for gs a) →
    gatherings_at gs a f ≡ gatherings_at gs a h
changes_alike a [] f h d e = refl
changes_alike a (g ∷ gs) f h d e = by (is_for a g) refl e (changes_alike a gs f h (and_right _ _ d))
  where
    by : (t : Bool) → is_for a g ≡ t → f (option_map_or (λ k. k.held) (cond t (Some g) (find (λ k. is_for a k) gs)) []) ≡ h (option_map_or (λ k. k.held) (cond t (Some g) (find (λ k. is_for a k) gs)) []) →
        (f (held_for gs a) ≡ h (held_for gs a) → gatherings_at gs a f ≡ gatherings_at gs a h) →
        cond t (regathered f g) g ∷ gatherings_at gs a f ≡ cond t (regathered h g) g ∷ gatherings_at gs a h
    by true i k ih =
        let none = none_behind a g gs d i in
        rw (none_changes a f gs none, none_changes a h gs none) (ap (λ replies. gathering_of g.asker replies ∷ gs) k)
    by false i k ih = ap (λ xs. g ∷ xs) (ih k)

-- a reply takes its place alike where one says of what is held whether it is later
places_alike : (later : Bool) (test : Parts → Bool) (held : List Parts) (reply : Parts) → later ≡ takes_place test held reply → takes_place (λ c. later) held reply ≡ takes_place test held reply
places_alike later test held reply e = by (held_of held reply.key) e
  where
    by : (m : Option Parts) → later ≡ option_map_or test m true → option_map_or (λ c. later) m true ≡ option_map_or test m true
    by None k = refl
    by (Some c) k = k

pub reply_held : (rows : List RowState) (gs : List GatheringState) (b : Branch) (reply : Parts) (later : Bool) → gatherings_differ gs ≡ true →
    ((a : Asker) → asker_of b rows ≡ Some a → later ≡ takes_place (λ c. is_later reply.body c.body) (held_for gs a) reply) →
    after_reply rows gs b reply later ≡ option_map_or (λ a. gatherings_with gs a reply) (held_at_branch rows gs b reply) gs
reply_held rows gs b reply later d h = by (has_room gs reply) (asker_of b rows) h
  where
    alike : (a : Asker) → later ≡ takes_place (λ c. is_later reply.body c.body) (held_for gs a) reply → gatherings_at gs a (λ replies. held_if (λ c. later) replies reply) ≡ gatherings_with gs a reply
    alike a e =
        changes_alike a gs (λ replies. held_if (λ c. later) replies reply) (λ replies. held_with replies reply) d
        (ap (λ t. cond t (put_reply (held_for gs a) reply) (held_for gs a)) (places_alike later (λ c. is_later reply.body c.body) (held_for gs a) reply e))

    at : (a : Asker) (t : Bool) → later ≡ takes_place (λ c. is_later reply.body c.body) (held_for gs a) reply →
        option_map_or (λ x. gatherings_at gs x (λ replies. held_if (λ c. later) replies reply)) (cond t (Some a) None) gs ≡ option_map_or (λ x. gatherings_with gs x reply) (cond t (Some a) None) gs
    at a true e = alike a e
    at a false e = refl

    by : (room : Bool) (o : Option Asker) → ((a : Asker) → o ≡ Some a → later ≡ takes_place (λ c. is_later reply.body c.body) (held_for gs a) reply) →
        option_map_or (λ x. gatherings_at gs x (λ replies. held_if (λ c. later) replies reply)) (cond room (gatherer gs o) None) gs
        ≡ option_map_or (λ x. gatherings_with gs x reply) (cond room (gatherer gs o) None) gs
    by false o k = refl
    by true None k = refl
    by true (Some a) k = at a (gathers_for gs a) (k a refl)
