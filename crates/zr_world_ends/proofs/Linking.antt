-- The link of two breaks, or is made anew: both ends change, and the wires between the two.
use Rattle.std.proofs.Common.{◌≡◌, ℕ, Bool, true, false, cond, List, [], Option, Some, None, refl, sym, ap, ◌∙◌, subst, inl, inr}
use Rattle.std.specs.Prelude.{is_some, ◌||◌, ◌⊎◌}
use Rattle.std.specs.List.Sorted.{IsStrictlySortedBy}
use Rattle.std.specs.Map.{keys_of}
use Rattle.std.specs.Option.{option_map}
use Rattle.std.proofs.lemmas.Bool.{true≢false, false≢true}
use Rattle.zr_id.specs.Zid.{is_named}
use Rattle.zr_msg.specs.declared.peer.Role.{Role}
use Rattle.zr_msg.specs.declared.peer.Role.TheVariants.{Client, Router}
use Rattle.zr_carrier.specs.Wire.{Wire, Wires, Closes, Opens, new_wire}
use Rattle.zr_world_spec.specs.World.{EndState, End, Ends, end_cmp, is_end, end_of, changed, put_end, broken as broken_end, lifted as lifted_end, new_end as new_link}
use Rattle.zr_world_spec.proofs.Ends.{ends, same_end, end_turned, put_end_is, sorted_put_end}
use Rattle.zr_world_ends.specs.Carried.{seen, seen_ends, IsWireIf, IsAtWire, AreCarried, neighbour_role, role_if}
use Rattle.zr_world_ends.specs.Kept.{KeptEnd, KeptEnds, broken, lifted, new_end}
use Rattle.zr_world_ends.specs.Named.{at_end, change_at, put_at}
use Rattle.zr_world_ends.proofs.Same.{same_sorted, change_is, keys_change, put_is, sorted_put}
use Rattle.zr_world_ends.proofs.Seen.{turned_is, seen_at, same_seen, sorted_seen}

-- an end of the link of two
abbrev between : List ℕ → List ℕ → End → Bool
between one other q = is_end (one, other) q || is_end (other, one) q

-- ends that are of no other link, with their wires, are all that changes
module _ (one other : List ℕ) (ws ws' : Wires) (ks ks' : KeptEnds) (h : AreCarried ws ks) (ordered : IsStrictlySortedBy end_cmp (keys_of ks'))
    (others : (q : End) → between one other q ≡ false → at_end ks' q ≡ at_end ks q)
    (wires : (q : End) → between one other q ≡ false → ws' q.1 q.0 ≡ ws q.1 q.0)
    (here : (q : End) (k : KeptEnd) → between one other q ≡ true → at_end ks' q ≡ Some k → IsAtWire (neighbour_role ks' q) k (ws' q.1 q.0))
    (same : (k j : KeptEnd) → at_end ks' (one, other) ≡ Some k → at_end ks' (other, one) ≡ Some j → k.unbroken ≡ j.unbroken) where
  both_turned : (q : End) → between one other (q.1, q.0) ≡ between one other q
  both_turned q = (λ i. turned_is (other, one) q i || turned_is (one, other) q i) ∙ swap (is_end (other, one) q) (is_end (one, other) q)
    where
      swap : (x y : Bool) → (x || y) ≡ (y || x)
      swap true true = refl
      swap true false = refl
      swap false true = refl
      swap false false = refl

  carried_between : AreCarried ws' ks'
  carried_between = record {
    ordered = ordered;
    carried = λ x y k found. at (x, y) k found (between one other (x, y)) refl;
    paired = λ x y k j found found'. pair (x, y) k j found found' (is_end (one, other) (x, y)) refl (is_end (other, one) (x, y)) refl;
  }
    where
      at : (q : End) (k : KeptEnd) → at_end ks' q ≡ Some k → (b : Bool) → between one other q ≡ b → IsAtWire (neighbour_role ks' q) k (ws' q.1 q.0)
      at q k found true n = here q k n found
      at q k found false n =
          let role : neighbour_role ks' q ≡ neighbour_role ks q = ap (λ o. role_if (is_some o)) (others (q.1, q.0) (both_turned q ∙ n)) in
          subst (λ (r : Role). IsAtWire r k (ws' q.1 q.0)) (sym role)
          (subst (λ (w : Option Wire). IsAtWire (neighbour_role ks q) k w) (sym (wires q n)) (h.carried q.0 q.1 k (sym (others q n) ∙ found)))

      pair : (q : End) (k j : KeptEnd) → at_end ks' q ≡ Some k → at_end ks' (q.1, q.0) ≡ Some j → (b : Bool) → is_end (one, other) q ≡ b → (c : Bool) → is_end (other, one) q ≡ c → k.unbroken ≡ j.unbroken
      pair q k j found found' true n c m =
          let is : (one, other) ≡ q = same_end (one, other) q n in
          same k j (ap (at_end ks') is ∙ found) (ap (λ (z : End). at_end ks' (z.1, z.0)) is ∙ found')
      pair q k j found found' false n true m =
          let is : (other, one) ≡ q = same_end (other, one) q m in
          sym (same j k (ap (λ (z : End). at_end ks' (z.1, z.0)) is ∙ found') (ap (at_end ks') is ∙ found))
      pair q k j found found' false n false m =
          let off : between one other q ≡ false = (λ i. n i || m i) in
          h.paired q.0 q.1 k j (sym (others q off) ∙ found) (sym (others (q.1, q.0) (both_turned q ∙ off)) ∙ found')

-- nothing is on the wire to an end, and its link is broken
abbrev IsOff : KeptEnd → Type 0
IsOff k = (k.unbroken ≡ false) × (k.kinds ≡ [])

off_wire : (role : Role) (k : KeptEnd) (w : Option Wire) → IsOff k → IsAtWire role k w
off_wire role k w h = subst (IsWireIf role k.kinds w) (sym h.0) h.1

both_between : (one other : List ℕ) → (between one other (one, other) ≡ true) × (between one other (other, one) ≡ true)
both_between one other = (rw (ends.refl (one, other)) refl, or_right (is_end (one, other) (other, one)) (is_end (other, one) (other, one)) (ends.refl (other, one)))
  where
    or_right : (x y : Bool) → y ≡ true → (x || y) ≡ true
    or_right true y h = refl
    or_right false y h = h

neither : (x y : Bool) → (x || y) ≡ false → (x ≡ false) × (y ≡ false)
neither true y h = absurd (true≢false h)
neither false y h = (refl, h)

-- where their link is broken
carried_off : (one other : List ℕ) (ws ws' : Wires) (ks ks' : KeptEnds) → AreCarried ws ks → IsStrictlySortedBy end_cmp (keys_of ks') → ((q : End) → between one other q ≡ false → at_end ks' q ≡ at_end ks q) →
    ((q : End) → between one other q ≡ false → ws' q.1 q.0 ≡ ws q.1 q.0) → ((q : End) (k : KeptEnd) → between one other q ≡ true → at_end ks' q ≡ Some k → IsOff k) → AreCarried ws' ks'
carried_off one other ws ws' ks ks' h ordered others wires off =
    carried_between one other ws ws' ks ks' h ordered others wires (λ q k n found. off_wire (neighbour_role ks' q) k (ws' q.1 q.0) (off q k n found))
    (λ k j found found'. (off (one, other) k (both_between one other).0 found).0 ∙ sym (off (other, one) j (both_between one other).1 found').0)

-- ---- a link breaks

abbrev pub cut : List ℕ → List ℕ → KeptEnds → KeptEnds
cut one other ks = change_at (change_at ks (one, other) broken) (other, one) broken

module _ (one other : List ℕ) (ks : KeptEnds) where
  -- what a look-up finds, where the end is the one or the other
  abbrev cut_if : Bool → Bool → Option KeptEnd → Option KeptEnd
  cut_if x y o = cond y (option_map broken (cond x (option_map broken o) o)) (cond x (option_map broken o) o)

  cut_is : (q : End) → at_end (cut one other ks) q ≡ cut_if (is_end (one, other) q) (is_end (other, one) q) (at_end ks q)
  cut_is q =
      change_is (change_at ks (one, other) broken) (other, one) broken q
      ∙ ap (λ o. cond (is_end (other, one) q) (option_map broken o) o) (change_is ks (one, other) broken q)

  sorted_cut : IsStrictlySortedBy end_cmp (keys_of ks) → IsStrictlySortedBy end_cmp (keys_of (cut one other ks))
  sorted_cut h = subst (IsStrictlySortedBy end_cmp) (sym (keys_change (change_at ks (one, other) broken) (other, one) broken ∙ keys_change ks (one, other) broken)) h

  pub cut_off : (q : End) (k : KeptEnd) → between one other q ≡ true → at_end (cut one other ks) q ≡ Some k → IsOff k
  cut_off q k n found = by (is_end (one, other) q) (is_end (other, one) q) (at_end ks q) n (sym (cut_is q) ∙ found)
    where
      is_off : (j : KeptEnd) → Some (broken j) ≡ Some k → IsOff k
      is_off j h = let is : broken j ≡ k = cc in (ap (λ (z : KeptEnd). z.unbroken) (sym is), ap (λ (z : KeptEnd). z.kinds) (sym is))

      by : (x y : Bool) (o : Option KeptEnd) → (x || y) ≡ true → cut_if x y o ≡ Some k → IsOff k
      by false false o n h = absurd (false≢true n)
      by true false None n h = absurd (cc)
      by false true None n h = absurd (cc)
      by true true None n h = absurd (cc)
      by true false (Some j) n h = is_off j h
      by false true (Some j) n h = is_off j h
      by true true (Some j) n h = is_off (broken j) h

  cut_others : (q : End) → between one other q ≡ false → at_end (cut one other ks) q ≡ at_end ks q
  cut_others q n =
      let p = neither (is_end (one, other) q) (is_end (other, one) q) n in
      cut_is q ∙ (λ i. cut_if (p.0 i) (p.1 i) (at_end ks q))

module _ (one other : List ℕ) (ws ws' : Wires) (ks : KeptEnds) (h : AreCarried ws ks) (closes : Closes one other ws ws') where
  closed : (q : End) → ws' q.1 q.0 ≡ cond (is_end (one, other) q) None (cond (is_end (other, one) q) None (ws q.1 q.0))
  closed q = closes q.1 q.0 ∙ (λ i. cond (turned_is (one, other) q i) None (cond (turned_is (other, one) q i) None (ws q.1 q.0)))

  pub carried_cut : AreCarried ws' (cut one other ks)
  carried_cut =
      carried_off one other ws ws' ks (cut one other ks) h (sorted_cut one other ks h.ordered) (cut_others one other ks)
      (λ q n. let p = neither (is_end (one, other) q) (is_end (other, one) q) n in closed q ∙ (λ i. cond (p.0 i) None (cond (p.1 i) None (ws q.1 q.0)))) (cut_off one other ks)

  abbrev broken_if : Bool → Bool → Option EndState → Option EndState
  broken_if x y o = cond y (option_map broken_end (cond x (option_map broken_end o) o)) (cond x (option_map broken_end o) o)

  pub seen_cut : seen_ends ws' (cut one other ks) ≡ changed (changed (seen_ends ws ks) (one, other) broken_end) (other, one) broken_end
  seen_cut =
      same_seen ws' (cut one other ks) (changed (changed es (one, other) broken_end) (other, one) broken_end) (sorted_cut one other ks h.ordered)
      (subst (IsStrictlySortedBy end_cmp) (sym (keys_change (changed es (one, other) broken_end) (other, one) broken_end ∙ keys_change es (one, other) broken_end)) (sorted_seen ws ks h.ordered)) look
    where
      es : Ends
      es = seen_ends ws ks

      by : (x y : Bool) (o : Option KeptEnd) (w' w : Option Wire) → w' ≡ cond x None (cond y None w) →
          option_map (λ k. seen k w') (cut_if one other ks x y o) ≡ broken_if x y (option_map (λ k. seen k w) o)
      by false false o w' w e = ap (λ z. option_map (λ k. seen k z) o) e
      by true false None w' w e = refl
      by false true None w' w e = refl
      by true true None w' w e = refl
      by true false (Some k) w' w e = refl
      by false true (Some k) w' w e = refl
      by true true (Some k) w' w e = refl

      look : (q : End) → option_map (λ k. seen k (ws' q.1 q.0)) (at_end (cut one other ks) q) ≡ end_of (changed (changed es (one, other) broken_end) (other, one) broken_end) q
      look q =
          ap (λ o. option_map (λ k. seen k (ws' q.1 q.0)) o) (cut_is one other ks q)
          ∙ by (is_end (one, other) q) (is_end (other, one) q) (at_end ks q) (ws' q.1 q.0) (ws q.1 q.0) (closed q)
          ∙ sym (change_is (changed es (one, other) broken_end) (other, one) broken_end q
          ∙ ap (λ o. cond (is_end (other, one) q) (option_map broken_end o) o) (change_is es (one, other) broken_end q ∙ ap (λ o. cond (is_end (one, other) q) (option_map broken_end o) o) (seen_at ws ks q)))

-- ---- a router's end to a client

abbrev client_end : KeptEnd
client_end = lifted (new_end 1)

module _ (router client : List ℕ) (ws ws' : Wires) (ks : KeptEnds) (h : AreCarried ws ks) (opens : Opens router client Client ws ws')
    (apart : is_named router client ≡ false) (none : at_end ks (client, router) ≡ None) where
  abbrev a : End
  a = (router, client)

  client_wire : (q : End) → ws' q.1 q.0 ≡ cond (is_end a q) (Some (new_wire Client)) (ws q.1 q.0)
  client_wire q = opens q.1 q.0 ∙ (λ i. cond (turned_is a q i) (Some (new_wire Client)) (ws q.1 q.0))

  abbrev with_client : KeptEnds
  with_client = put_at ks a client_end

  none_still : at_end with_client (client, router) ≡ None
  none_still = put_is ks a client_end (client, router) ∙ ap (λ b. cond b (Some client_end) (at_end ks (client, router))) (end_turned router client apart) ∙ none

  client_others : (q : End) → between router client q ≡ false → at_end with_client q ≡ at_end ks q
  client_others q n = put_is ks a client_end q ∙ ap (λ b. cond b (Some client_end) (at_end ks q)) (neither (is_end a q) (is_end (client, router) q) n).0

  client_wires : (q : End) → between router client q ≡ false → ws' q.1 q.0 ≡ ws q.1 q.0
  client_wires q n = client_wire q ∙ ap (λ b. cond b (Some (new_wire Client)) (ws q.1 q.0)) (neither (is_end a q) (is_end (client, router) q) n).0

  pub carried_client : AreCarried ws' with_client
  carried_client =
      carried_between router client ws ws' ks with_client h (sorted_put ks a client_end h.ordered) client_others client_wires
      (λ q k n found. here q k found (is_end a q) refl (is_end (client, router) q) refl n) (λ k j found found'. absurd (none_there j found'))
    where
      none_there : (j : KeptEnd) → at_end with_client (client, router) ≡ Some j → ⊥
      none_there j found = let no : None ≡ Some j = sym none_still ∙ found in cc

      here : (q : End) (k : KeptEnd) → at_end with_client q ≡ Some k → (b : Bool) → is_end a q ≡ b → (c : Bool) → is_end (client, router) q ≡ c → (is_end a q || is_end (client, router) q) ≡ true →
          IsAtWire (neighbour_role with_client q) k (ws' q.1 q.0)
      here q k found true n c m o =
          let one : a ≡ q = same_end a q n in
          let is : Some client_end ≡ Some k = sym (put_is ks a client_end q ∙ ap (λ b. cond b (Some client_end) (at_end ks q)) n) ∙ found in
          let k_is : client_end ≡ k = cc in
          let role : neighbour_role with_client q ≡ Client = ap (λ (z : End). neighbour_role with_client z) (sym one) ∙ ap (λ o. role_if (is_some o)) none_still in
          let wire : ws' q.1 q.0 ≡ Some (new_wire Client) = client_wire q ∙ ap (λ b. cond b (Some (new_wire Client)) (ws q.1 q.0)) n in
          subst (λ (z : KeptEnd). IsAtWire (neighbour_role with_client q) z (ws' q.1 q.0)) k_is
          (subst (λ (w : Option Wire). IsAtWire (neighbour_role with_client q) client_end w) (sym wire) (sym role, refl))
      here q k found false n true m o = absurd (none_there k (ap (at_end with_client) (same_end (client, router) q m) ∙ found))
      here q k found false n false m o = absurd (false≢true (sym (λ i. n i || m i) ∙ o))

  pub seen_client : seen_ends ws' with_client ≡ put_end (seen_ends ws ks) a (lifted_end (new_link 1))
  seen_client = same_seen ws' with_client (put_end (seen_ends ws ks) a s) (sorted_put ks a client_end h.ordered) (sorted_put_end (seen_ends ws ks) a s (sorted_seen ws ks h.ordered)) look
    where
      s : EndState
      s = lifted_end (new_link 1)

      by : (b : Bool) (o : Option KeptEnd) (w' w : Option Wire) → w' ≡ cond b (Some (new_wire Client)) w →
          option_map (λ k. seen k w') (cond b (Some client_end) o) ≡ cond b (Some s) (option_map (λ k. seen k w) o)
      by true o w' w e = ap (λ z. Some (seen client_end z)) e
      by false o w' w e = ap (λ z. option_map (λ k. seen k z) o) e

      look : (q : End) → option_map (λ k. seen k (ws' q.1 q.0)) (at_end with_client q) ≡ end_of (put_end (seen_ends ws ks) a s) q
      look q =
          ap (λ o. option_map (λ k. seen k (ws' q.1 q.0)) o) (put_is ks a client_end q) ∙ by (is_end a q) (at_end ks q) (ws' q.1 q.0) (ws q.1 q.0) (client_wire q)
          ∙ sym (put_end_is (seen_ends ws ks) a s q ∙ ap (λ o. cond (is_end a q) (Some s) o) (seen_at ws ks q))

  -- where memory runs out the end has not come
  pub carried_no_client : ((q : End) (k : KeptEnd) → between router client q ≡ true → at_end ks q ≡ Some k → IsOff k) → AreCarried ws' ks
  carried_no_client off = carried_off router client ws ws' ks ks h h.ordered (λ q n. refl) client_wires off

-- ---- both ends of a link between routers

module _ (one other : List ℕ) (weight : ℕ) (ws ws' : Wires) (ks : KeptEnds) (h : AreCarried ws ks) (opens : Opens one other Router ws ws') where
  abbrev new : KeptEnd
  new = new_end weight

  abbrev linked : KeptEnds
  linked = put_at (put_at ks (one, other) new) (other, one) new

  abbrev linked_if : {X : Type 0} → X → Bool → Bool → Option X → Option X
  linked_if n x y o = cond y (Some n) (cond x (Some n) o)

  linked_is : (q : End) → at_end linked q ≡ linked_if new (is_end (one, other) q) (is_end (other, one) q) (at_end ks q)
  linked_is q = put_is (put_at ks (one, other) new) (other, one) new q ∙ ap (λ o. cond (is_end (other, one) q) (Some new) o) (put_is ks (one, other) new q)

  link_wire : (q : End) → ws' q.1 q.0 ≡ linked_if (new_wire Router) (is_end (one, other) q) (is_end (other, one) q) (ws q.1 q.0)
  link_wire q = opens q.1 q.0 ∙ (λ i. linked_if (new_wire Router) (turned_is (one, other) q i) (turned_is (other, one) q i) (ws q.1 q.0))

  link_wires : (q : End) → between one other q ≡ false → ws' q.1 q.0 ≡ ws q.1 q.0
  link_wires q n = let p = neither (is_end (one, other) q) (is_end (other, one) q) n in link_wire q ∙ (λ i. linked_if (new_wire Router) (p.0 i) (p.1 i) (ws q.1 q.0))

  sorted_linked : IsStrictlySortedBy end_cmp (keys_of linked)
  sorted_linked = sorted_put (put_at ks (one, other) new) (other, one) new (sorted_put ks (one, other) new h.ordered)

  -- where one of the two stands, the new end and the new wire do
  of_two : {X : Type 0} (n : X) (x y : Bool) (o : Option X) → (x || y) ≡ true → linked_if n x y o ≡ Some n
  of_two n true true o e = refl
  of_two n false true o e = refl
  of_two n true false o e = refl
  of_two n false false o e = absurd (false≢true e)

  new_at : (q : End) → between one other q ≡ true → at_end linked q ≡ Some new
  new_at q n = linked_is q ∙ of_two new (is_end (one, other) q) (is_end (other, one) q) (at_end ks q) n

  pub carried_link : AreCarried ws' linked
  carried_link =
      carried_between one other ws ws' ks linked h sorted_linked
      (λ q n. let p = neither (is_end (one, other) q) (is_end (other, one) q) n in linked_is q ∙ (λ i. linked_if new (p.0 i) (p.1 i) (at_end ks q))) link_wires here
      (λ k j found found'.
      let k_is : Some new ≡ Some k = sym (new_at (one, other) (both_between one other).0) ∙ found in
      let j_is : Some new ≡ Some j = sym (new_at (other, one) (both_between one other).1) ∙ found' in
      let same : k ≡ j = cc in
      ap (λ (z : KeptEnd). z.unbroken) same)
    where
      here : (q : End) (k : KeptEnd) → between one other q ≡ true → at_end linked q ≡ Some k → IsAtWire (neighbour_role linked q) k (ws' q.1 q.0)
      here q k n found =
          let is : Some new ≡ Some k = sym (new_at q n) ∙ found in
          let k_is : new ≡ k = cc in
          let back : between one other (q.1, q.0) ≡ true = (λ i. turned_is (other, one) q i || turned_is (one, other) q i) ∙ or_swap (is_end (other, one) q) (is_end (one, other) q) ∙ n in
          let role : neighbour_role linked q ≡ Router = ap (λ o. role_if (is_some o)) (new_at (q.1, q.0) back) in
          let wire : ws' q.1 q.0 ≡ Some (new_wire Router) = link_wire q ∙ of_two (new_wire Router) (is_end (one, other) q) (is_end (other, one) q) (ws q.1 q.0) n in
          subst (λ (z : KeptEnd). IsAtWire (neighbour_role linked q) z (ws' q.1 q.0)) k_is
          (subst (λ (w : Option Wire). IsAtWire (neighbour_role linked q) new w) (sym wire) (sym role, refl))
        where
          or_swap : (x y : Bool) → (x || y) ≡ (y || x)
          or_swap true true = refl
          or_swap true false = refl
          or_swap false true = refl
          or_swap false false = refl

  pub seen_link : seen_ends ws' linked ≡ put_end (put_end (seen_ends ws ks) (one, other) (new_link weight)) (other, one) (new_link weight)
  seen_link =
      same_seen ws' linked (put_end (put_end es (one, other) s) (other, one) s) sorted_linked
      (sorted_put_end (put_end es (one, other) s) (other, one) s (sorted_put_end es (one, other) s (sorted_seen ws ks h.ordered))) look
    where
      es : Ends
      es = seen_ends ws ks

      s : EndState
      s = new_link weight

      by : (x y : Bool) (o : Option KeptEnd) (w' w : Option Wire) → w' ≡ linked_if (new_wire Router) x y w →
          option_map (λ k. seen k w') (linked_if new x y o) ≡ linked_if s x y (option_map (λ k. seen k w) o)
      by x true o w' w e = ap (λ z. Some (seen new z)) e
      by true false o w' w e = ap (λ z. Some (seen new z)) e
      by false false o w' w e = ap (λ z. option_map (λ k. seen k z) o) e

      look : (q : End) → option_map (λ k. seen k (ws' q.1 q.0)) (at_end linked q) ≡ end_of (put_end (put_end es (one, other) s) (other, one) s) q
      look q =
          ap (λ o. option_map (λ k. seen k (ws' q.1 q.0)) o) (linked_is q)
          ∙ by (is_end (one, other) q) (is_end (other, one) q) (at_end ks q) (ws' q.1 q.0) (ws q.1 q.0) (link_wire q)
          ∙ sym (put_end_is (put_end es (one, other) s) (other, one) s q
          ∙ ap (λ o. cond (is_end (other, one) q) (Some s) o) (put_end_is es (one, other) s q ∙ ap (λ o. cond (is_end (one, other) q) (Some s) o) (seen_at ws ks q)))

  abbrev half : KeptEnds
  half = change_at (put_at ks (one, other) new) (one, other) broken

  abbrev half_if : Bool → Option KeptEnd → Option KeptEnd
  half_if x o = cond x (option_map broken (cond x (Some new) o)) (cond x (Some new) o)

  -- where memory runs out none has come, or one, whose link is broken
  pub carried_no_link : ((q : End) (k : KeptEnd) → between one other q ≡ true → at_end ks q ≡ Some k → IsOff k) → (ks' : KeptEnds) →
      ((ks' ≡ ks) ⊎ (ks' ≡ change_at (put_at ks (one, other) new) (one, other) broken)) → AreCarried ws' ks'
  carried_no_link off ks' (inl e) = subst (λ (z : KeptEnds). AreCarried ws' z) (sym e) (carried_off one other ws ws' ks ks h h.ordered (λ q n. refl) link_wires off)
  carried_no_link off ks' (inr e) =
      subst (λ (z : KeptEnds). AreCarried ws' z) (sym e)
      (carried_off one other ws ws' ks half h
      (subst (IsStrictlySortedBy end_cmp) (sym (keys_change (put_at ks (one, other) new) (one, other) broken)) (sorted_put ks (one, other) new h.ordered))
      (λ q n. let p = neither (is_end (one, other) q) (is_end (other, one) q) n in half_is q ∙ ap (λ b. half_if b (at_end ks q)) p.0) link_wires
      (λ q k n found. half_off q k (is_end (one, other) q) n (sym (half_is q) ∙ found)))
    where
      half_is : (q : End) → at_end half q ≡ half_if (is_end (one, other) q) (at_end ks q)
      half_is q =
          change_is (put_at ks (one, other) new) (one, other) broken q ∙ ap (λ o. cond (is_end (one, other) q) (option_map broken o) o) (put_is ks (one, other) new q)

      half_off : (q : End) (k : KeptEnd) (x : Bool) → between one other q ≡ true → half_if x (at_end ks q) ≡ Some k → IsOff k
      half_off q k false n found = off q k n found
      half_off q k true n found = let is : broken new ≡ k = cc in (ap (λ (z : KeptEnd). z.unbroken) (sym is), ap (λ (z : KeptEnd). z.kinds) (sym is))

-- ---- what was there before doesn't matter

-- a client has no end of its own
pub put_cut_client : (es : Ends) (router client : List ℕ) (s : EndState) → IsStrictlySortedBy end_cmp (keys_of es) → end_of es (client, router) ≡ None →
    put_end (changed (changed es (router, client) broken_end) (client, router) broken_end) (router, client) s ≡ put_end es (router, client) s
put_cut_client es router client s ordered none =
    same_sorted (put_end (changed (changed es a broken_end) b broken_end) a s) (put_end es a s)
    (sorted_put_end (changed (changed es a broken_end) b broken_end) a s
    (subst (IsStrictlySortedBy end_cmp) (sym (keys_change (changed es a broken_end) b broken_end ∙ keys_change es a broken_end)) ordered))
    (sorted_put_end es a s ordered)
    (λ q. put_end_is (changed (changed es a broken_end) b broken_end) a s q
    ∙ ap (λ o. cond (is_end a q) (Some s) o) (change_is (changed es a broken_end) b broken_end q ∙ ap (λ o. cond (is_end b q) (option_map broken_end o) o) (change_is es a broken_end q))
    ∙ by q (is_end a q) refl (is_end b q) refl ∙ sym (put_end_is es a s q))
  where
    a : End
    a = (router, client)

    b : End
    b = (client, router)

    by : (q : End) (x : Bool) → is_end a q ≡ x → (y : Bool) → is_end b q ≡ y →
        cond x (Some s) (cond y (option_map broken_end (cond x (option_map broken_end (end_of es q)) (end_of es q))) (cond x (option_map broken_end (end_of es q)) (end_of es q)))
        ≡ cond x (Some s) (end_of es q)
    by q true n y m = refl
    by q false n false m = refl
    by q false n true m =
        let gone : end_of es q ≡ None = ap (end_of es) (sym (same_end b q m)) ∙ none in
        ap (λ o. option_map broken_end o) gone ∙ sym gone

pub put_cut_link : (es : Ends) (one other : List ℕ) (s : EndState) → IsStrictlySortedBy end_cmp (keys_of es) →
    put_end (put_end (changed (changed es (one, other) broken_end) (other, one) broken_end) (one, other) s) (other, one) s ≡ put_end (put_end es (one, other) s) (other, one) s
put_cut_link es one other s ordered =
    same_sorted (put_end (put_end (changed (changed es a broken_end) b broken_end) a s) b s) (put_end (put_end es a s) b s)
    (sorted_put_end (put_end (changed (changed es a broken_end) b broken_end) a s) b s (sorted_put_end (changed (changed es a broken_end) b broken_end) a s
    (subst (IsStrictlySortedBy end_cmp) (sym (keys_change (changed es a broken_end) b broken_end ∙ keys_change es a broken_end)) ordered)))
    (sorted_put_end (put_end es a s) b s (sorted_put_end es a s ordered))
    (λ q. put_end_is (put_end (changed (changed es a broken_end) b broken_end) a s) b s q
    ∙ ap (λ o. cond (is_end b q) (Some s) o) (put_end_is (changed (changed es a broken_end) b broken_end) a s q
    ∙ ap (λ o. cond (is_end a q) (Some s) o) (change_is (changed es a broken_end) b broken_end q ∙ ap (λ o. cond (is_end b q) (option_map broken_end o) o) (change_is es a broken_end q)))
    ∙ by (is_end a q) (is_end b q) (end_of es q) ∙ sym (put_end_is (put_end es a s) b s q ∙ ap (λ o. cond (is_end b q) (Some s) o) (put_end_is es a s q)))
  where
    a : End
    a = (one, other)

    b : End
    b = (other, one)

    by : (x y : Bool) (o : Option EndState) →
        cond y (Some s) (cond x (Some s) (cond y (option_map broken_end (cond x (option_map broken_end o) o)) (cond x (option_map broken_end o) o))) ≡ cond y (Some s) (cond x (Some s) o)
    by x true o = refl
    by true false o = refl
    by false false o = refl
