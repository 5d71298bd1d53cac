-- What acts that no router hears of lead to on all links: a router comes, a link comes or breaks, a message is taken from a queue to a router.
use Rattle.std.proofs.Common.{◌≡◌, ℕ, ◌⊎◌, inl, inr, Bool, true, false, cond, List, [], ◌++◌, Option, Some, None, is_some, refl, sym, ap, ◌∙◌}
use Rattle.std.specs.Prelude.{◌||◌}
use Rattle.std.specs.Option.{option_map, option_or}
use Rattle.std.specs.Ordering.{nat_cmp}
use Rattle.std.specs.Cmp.Lexicographic.{slice_cmp}
use Rattle.std.specs.BTreeMap.{insert_entry}
use Rattle.std.proofs.lemmas.Bool.{false≢true, or_cases, or_parts, not-false}
use Rattle.zr_lists.proofs.Options.{not_there}
use Rattle.zr_id.specs.Zid.{is_named}
use Rattle.zr_graph.proofs.Names.{same_is}
use Rattle.zr_node_spec.specs.Tables.{link_to}
use Rattle.zr_world_spec.specs.World.{RouterState, EndState, End, Ends, WorldState, with_routers, router_of, client_of, end_of, is_end, turned, is_up, is_unbroken, is_in_place, is_taken, is_empty, put_end, broken, new_end, new_router, changed}
use Rattle.zr_world_spec.specs.Sound.{IsSound}
use Rattle.zr_world_spec.proofs.Names.{value_new}
use Rattle.zr_world_spec.proofs.Ends.{same_end, read_put_end, read_changed, none_there}
use Rattle.zr_world_spec.proofs.Cases.{w_link, w_break, free_name}
use Rattle.zr_law_settled.proofs.Orderly.{Orderly, has_wire, has_queue, turned_end}
use Rattle.zr_law_settled.proofs.Moving.{unbroken_at}
use Rattle.zr_law_queries.specs.Link.{fresh}
use Rattle.zr_law_numbers.specs.Waiting.{wire_at, queue_at, waits, is_kept_by, back_at, link_of, is_whole}
use Rattle.zr_law_numbers.proofs.Waits.{wire_of, queue_of, router_holds, client_holds, router_awaits, client_awaits, link_same}
use Rattle.zr_law_numbers.proofs.Whole.{LinksStay, whole_same, whole_more, router_alone, unlinked_keeps_nothing, idle_link}

-- ---- where a link is as before

-- where nothing has changed that a link is read from
pub all_same : (w v : WorldState) → ((q : End) → is_unbroken v.ends q ≡ is_unbroken w.ends q) → ((q : End) → wire_at v.ends q ≡ wire_at w.ends q) → ((q : End) → queue_at v.ends q ≡ queue_at w.ends q) →
    ((x y : List ℕ) (n : ℕ) → is_kept_by v x y n ≡ is_kept_by w x y n) → ((x y : List ℕ) (n : ℕ) → back_at v x y n ≡ back_at w x y n) → LinksStay w v
all_same w v unbroken wires queues keeps back x y whole = (
  inl (whole_same w v unbroken x y whole),
  link_same w v x y (λ i. wires (y, x) i ++ queues (x, y) i) (λ i. wires (x, y) i ++ queues (y, x) i) (keeps x y) (back x y),
)

no_wire : (ends : Ends) (e : End) → has_wire (end_of ends e) ≡ false → wire_at ends e ≡ []
no_wire ends e h = by (end_of ends e) h
  where
    by : (o : Option EndState) → has_wire o ≡ false → wire_of o ≡ []
    by None k = refl
    by (Some s) k = none_there s.wire (not-false (is_empty s.wire) k)

no_queue : (ends : Ends) (e : End) → has_queue (end_of ends e) ≡ false → queue_at ends e ≡ []
no_queue ends e h = by (end_of ends e) h
  where
    by : (o : Option EndState) → has_queue o ≡ false → queue_of o ≡ []
    by None k = refl
    by (Some s) k = none_there s.queue (not-false (is_empty s.queue) k)

-- ---- a router comes

module _ (w : WorldState) (id : List ℕ) (free : is_taken w id ≡ false) where
  abbrev pub w_router : WorldState
  w_router = with_routers w (insert_entry (slice_cmp nat_cmp) w.routers id (new_router id))

  no_router : router_of w.routers id ≡ None
  no_router = not_there (router_of w.routers id) (free_name w id free).0

  pub router_links : LinksStay w w_router
  router_links = all_same w w_router (λ q. refl) (λ q. refl) (λ q. refl)
      (λ x y n. ap (λ z. z || client_holds x n (client_of w.clients y)) (ap (router_holds x n) (value_new w.routers id y (new_router id) no_router) ∙ holds x y n (is_named y id) refl))
      (λ x y n. ap (λ z. option_or z (client_awaits x y n (client_of w.clients x))) (ap (router_awaits y n) (value_new w.routers id x (new_router id) no_router) ∙ awaits x y n (is_named x id) refl))
    where
      holds : (x y : List ℕ) (n : ℕ) (b : Bool) → is_named y id ≡ b → router_holds x n (cond b (Some (new_router id)) (router_of w.routers y)) ≡ router_holds x n (router_of w.routers y)
      holds x y n false e = refl
      holds x y n true e = sym (ap (router_holds x n) (ap (router_of w.routers) (same_is y id e) ∙ no_router))

      awaits : (x y : List ℕ) (n : ℕ) (b : Bool) → is_named x id ≡ b → router_awaits y n (cond b (Some (new_router id)) (router_of w.routers x)) ≡ router_awaits y n (router_of w.routers x)
      awaits x y n false e = refl
      awaits x y n true e = sym (ap (router_awaits y n) (ap (router_of w.routers) (same_is x id e) ∙ no_router))

-- ---- a link comes

module _ (w : WorldState) (sound : IsSound w) (orderly : Orderly w) (one other : List ℕ) (weight : ℕ) (r q : RouterState) (er : router_of w.routers one ≡ Some r) (eq : router_of w.routers other ≡ Some q)
    (new : is_in_place w.ends (one, other) ≡ false) where
  abbrev w_new : WorldState
  w_new = w_link w one other weight

  reads : {Y : Type 0} (f : Option EndState → Y) (e : End) → f (end_of w_new.ends e) ≡ cond (is_end (other, one) e) (f (Some (new_end weight))) (cond (is_end (one, other) e) (f (Some (new_end weight))) (f (end_of w.ends e)))
  reads f e = read_put_end (put_end w.ends (one, other) (new_end weight)) (other, one) (new_end weight) f e
      ∙ ap (λ z. cond (is_end (other, one) e) (f (Some (new_end weight))) z) (read_put_end w.ends (one, other) (new_end weight) f e)

  cut : (is_unbroken w.ends (one, other) ≡ false) × (is_up w.ends (one, other) ≡ false) × (is_up w.ends (other, one) ≡ false)
  cut =
      let last = or_parts (is_unbroken w.ends (one, other) || is_up w.ends (one, other)) (is_up w.ends (other, one)) new in
      let both = or_parts (is_unbroken w.ends (one, other)) (is_up w.ends (one, other)) last.0 in
      (both.0, both.1, last.1)

  cut_too : is_unbroken w.ends (other, one) ≡ false
  cut_too = sym (orderly.both_ends (one, other) (ap is_some er) (ap is_some eq)) ∙ cut.0

  -- nothing waits there
  same_wire : (e : End) → wire_at w_new.ends e ≡ wire_at w.ends e
  same_wire e = reads wire_of e ∙ by (is_end (other, one) e) refl (is_end (one, other) e) refl
    where
      by : (b : Bool) → is_end (other, one) e ≡ b → (c : Bool) → is_end (one, other) e ≡ c → cond b [] (cond c [] (wire_at w.ends e)) ≡ wire_at w.ends e
      by true k c j = sym (ap (λ z. wire_at w.ends z) (sym (same_end (other, one) e k)) ∙ no_wire w.ends (other, one) (orderly.broken_links (other, one) cut_too))
      by false k true j = sym (ap (λ z. wire_at w.ends z) (sym (same_end (one, other) e j)) ∙ no_wire w.ends (one, other) (orderly.broken_links (one, other) cut.0))
      by false k false j = refl

  same_queue : (e : End) → queue_at w_new.ends e ≡ queue_at w.ends e
  same_queue e = reads queue_of e ∙ by (is_end (other, one) e) refl (is_end (one, other) e) refl
    where
      by : (b : Bool) → is_end (other, one) e ≡ b → (c : Bool) → is_end (one, other) e ≡ c → cond b [] (cond c [] (queue_at w.ends e)) ≡ queue_at w.ends e
      by true k c j = sym (ap (λ z. queue_at w.ends z) (sym (same_end (other, one) e k)) ∙ no_queue w.ends (other, one) (orderly.down_ends (other, one) cut.2))
      by false k true j = sym (ap (λ z. queue_at w.ends z) (sym (same_end (one, other) e j)) ∙ no_queue w.ends (one, other) (orderly.down_ends (one, other) cut.1))
      by false k false j = refl

  idle : (link_of w one other ≡ fresh) × (link_of w other one ≡ fresh)
  idle =
      let from_one = unlinked_keeps_nothing w one other r er (router_alone w orderly one r er) (not_there (link_to r.node.links other) (sound.links one other r er ∙ cut.1)) in
      let from_other = unlinked_keeps_nothing w other one q eq (router_alone w orderly other q eq) (not_there (link_to q.node.links one) (sound.links other one q eq ∙ cut.2)) in
      (idle_link w one other there here from_one from_other, idle_link w other one here there from_other from_one)
    where
      there : waits w one other ≡ []
      there = (λ i. no_wire w.ends (other, one) (orderly.broken_links (other, one) cut_too) i ++ no_queue w.ends (one, other) (orderly.down_ends (one, other) cut.1) i)

      here : waits w other one ≡ []
      here = (λ i. no_wire w.ends (one, other) (orderly.broken_links (one, other) cut.0) i ++ no_queue w.ends (other, one) (orderly.down_ends (other, one) cut.2) i)

  pub link_links : LinksStay w w_new
  link_links x y whole = (
    by (whole_more w w_new (λ e. is_end (other, one) e || is_end (one, other) e) unbroken x y whole),
    link_same w w_new x y (λ i. same_wire (y, x) i ++ same_queue (x, y) i) (λ i. same_wire (x, y) i ++ same_queue (y, x) i) (λ n. refl) (λ n. refl),
  )
    where
      unbroken : (e : End) → is_unbroken w_new.ends e ≡ cond (is_end (other, one) e || is_end (one, other) e) true (is_unbroken w.ends e)
      unbroken e = reads unbroken_at e ∙ at (is_end (other, one) e) (is_end (one, other) e)
        where
          at : (b c : Bool) → cond b true (cond c true (is_unbroken w.ends e)) ≡ cond (b || c) true (is_unbroken w.ends e)
          at true c = refl
          at false true = refl
          at false false = refl

      is_idle : (e : End) → (is_end (other, one) e || is_end (one, other) e) ≡ true → (link_of w e.0 e.1 ≡ fresh) × (link_of w e.1 e.0 ≡ fresh)
      is_idle e k = at (or_cases (is_end (other, one) e) (is_end (one, other) e) k)
        where
          at : (is_end (other, one) e ≡ true) ⊎ (is_end (one, other) e ≡ true) → (link_of w e.0 e.1 ≡ fresh) × (link_of w e.1 e.0 ≡ fresh)
          at (inl j) = let one_end = sym (same_end (other, one) e j) in (ap (λ (z : End). link_of w z.0 z.1) one_end ∙ idle.1, ap (λ (z : End). link_of w z.1 z.0) one_end ∙ idle.0)
          at (inr j) = let one_end = sym (same_end (one, other) e j) in (ap (λ (z : End). link_of w z.0 z.1) one_end ∙ idle.0, ap (λ (z : End). link_of w z.1 z.0) one_end ∙ idle.1)

      by : (is_whole w x y ≡ true) ⊎ (((is_end (other, one) (x, y) || is_end (one, other) (x, y)) ≡ true) ⊎ ((is_end (other, one) (y, x) || is_end (one, other) (y, x)) ≡ true)) →
          (is_whole w x y ≡ true) ⊎ (link_of w x y ≡ fresh)
      by (inl was) = inl was
      by (inr (inl e)) = inr (is_idle (x, y) e).0
      by (inr (inr e)) = inr (is_idle (y, x) e).1

-- ---- a link breaks

module _ (w : WorldState) (router name : List ℕ) where
  abbrev w_broken : WorldState
  w_broken = w_break w router name

  abbrev once : Ends
  once = changed w.ends (router, name) broken

  -- an end that is unbroken then is another one
  other_than : (e : End) → is_unbroken w_broken.ends e ≡ true → (is_end (router, name) e ≡ false) × (is_end (name, router) e ≡ false)
  other_than e whole = by (is_end (name, router) e) (is_end (router, name) e)
      (sym (read_changed once (name, router) broken unbroken_at e
      ∙ (λ i. cond (is_end (name, router) e) (falls (end_of once e) i) (read_changed w.ends (router, name) broken unbroken_at e i))
      ∙ ap (λ z. cond (is_end (name, router) e) false (cond (is_end (router, name) e) z (is_unbroken w.ends e))) (falls (end_of w.ends e))) ∙ whole)
    where
      falls : (o : Option EndState) → unbroken_at (option_map broken o) ≡ false
      falls None = refl
      falls (Some s) = refl

      by : (b c : Bool) → cond b false (cond c false (is_unbroken w.ends e)) ≡ true → (c ≡ false) × (b ≡ false)
      by true c k = absurd (false≢true k)
      by false true k = absurd (false≢true k)
      by false false k = (refl, refl)

  -- and reads as before
  reads_so : {Y : Type 0} (f : Option EndState → Y) (e : End) → is_end (router, name) e ≡ false → is_end (name, router) e ≡ false → f (end_of w_broken.ends e) ≡ f (end_of w.ends e)
  reads_so f e k j =
      read_changed once (name, router) broken f e ∙ ap (λ b. cond b (f (option_map broken (end_of once e))) (f (end_of once e))) j
      ∙ read_changed w.ends (router, name) broken f e ∙ ap (λ b. cond b (f (option_map broken (end_of w.ends e))) (f (end_of w.ends e))) k

  pub break_links : LinksStay w w_broken
  break_links x y whole = (
    inl ((λ i. sym (reads_so unbroken_at (x, y) apart.0 apart.1) i || sym (reads_so unbroken_at (y, x) turned_.0 turned_.1) i) ∙ whole),
    link_same w w_broken x y
        (λ i. reads_so wire_of (y, x) turned_.0 turned_.1 i ++ reads_so queue_of (x, y) apart.0 apart.1 i)
        (λ i. reads_so wire_of (x, y) apart.0 apart.1 i ++ reads_so queue_of (y, x) turned_.0 turned_.1 i) (λ n. refl) (λ n. refl),
  )
    where
      swap : (e : End) → (is_end (router, name) (turned e) ≡ false) × (is_end (name, router) (turned e) ≡ false) → (is_end (router, name) e ≡ false) × (is_end (name, router) e ≡ false)
      swap e k = (turned_end (name, router) e ∙ k.1, turned_end (router, name) e ∙ k.0)

      by : (is_unbroken w_broken.ends (x, y) ≡ true) ⊎ (is_unbroken w_broken.ends (y, x) ≡ true) → (is_end (router, name) (x, y) ≡ false) × (is_end (name, router) (x, y) ≡ false)
      by (inl e) = other_than (x, y) e
      by (inr e) = swap (x, y) (other_than (y, x) e)

      apart : (is_end (router, name) (x, y) ≡ false) × (is_end (name, router) (x, y) ≡ false)
      apart = by (or_cases (is_unbroken w_broken.ends (x, y)) (is_unbroken w_broken.ends (y, x)) whole)

      turned_ : (is_end (router, name) (y, x) ≡ false) × (is_end (name, router) (y, x) ≡ false)
      turned_ = swap (y, x) apart
