-- Acts by which a router learns of links: an end to another router comes up or goes down, and it tells its links anew.
use Rattle.std.proofs.Common.{◌≡◌, ◌≤◌, ◌+◌, ℕ, max, Bool, true, false, cond, ◌++◌, Option, Some, is_some, ◌⊎◌, inl, inr, refl, sym, ap, ◌∙◌, subst, arith}
use Rattle.std.specs.Prelude.{◌&&◌}
use Rattle.std.proofs.lemmas.Bool.{true≢false, false≢true, and_parts, and_from}
use Rattle.zr_id.specs.Zid.{is_named}
use Rattle.zr_id.specs.declared.link.LinkNo.{LinkNo}
use Rattle.zr_id.specs.Record.{linked_ids}
use Rattle.zr_graph.specs.Record.{has, weight_to}
use Rattle.zr_graph.specs.Base.{relinked}
use Rattle.zr_graph.proofs.Names.{same_is, same_refl}
use Rattle.zr_lists.proofs.Finds.{In}
use Rattle.zr_lists.proofs.Elements.{each_in}
use Rattle.zr_msg.specs.declared.event.Event.{Event}
use Rattle.zr_msg.specs.declared.event.Event.TheVariants.{Up, Down}
use Rattle.zr_msg.specs.Peer.{PeerState}
use Rattle.zr_msg.specs.declared.peer.Role.{Role}
use Rattle.zr_msg.specs.declared.peer.Role.TheVariants.{Client, Router}
use Rattle.zr_node_spec.proofs.OwnLinks.{has_with, has_without, weight_with, weight_without}
use Rattle.zr_node_spec.specs.Tables.{link_at, link_to, is_router}
use Rattle.zr_msg.specs.declared.peer.LinkPeer.{LinkPeer}
use Rattle.zr_node_spec.specs.Table.{with_linked, without_linked, own_link, own_links, base_up, base_down, base_parted, own_record, all_records, after}
use Rattle.zr_world_spec.specs.World.{RouterState, EndState, End, Ends, WorldState, with_ends, router_of, end_of, is_end, is_up, is_unbroken, with_end, changed, lifted, lowered}
use Rattle.zr_world_spec.specs.Acts.{sends_to, hearing, sending}
use Rattle.zr_world_spec.specs.Sound.{IsSound}
use Rattle.zr_world_spec.proofs.Ends.{end_parts, read_with_end, keep_with_end}
use Rattle.zr_law_settled.proofs.Spreading.{at_name, Name, Known, Feeds, own, best, Spreads, drops_kept}
use Rattle.zr_law_settled.proofs.Telling.{more, tells_anew_kept}
use Rattle.zr_law_settled.proofs.Links.{AreKnown, linked_to, is_at}
use Rattle.zr_law_settled.proofs.Records.{Links, known_of, told, known_relinked, own_links_is, all_tell, own_told, notes_in}
use Rattle.zr_law_settled.proofs.Hearing.{order_after, up_tells, down_tells}
use Rattle.zr_law_settled.proofs.Worlds.{there_in, knows, table_of, way_of, lane_of, feeds_of, up_weight_at, up_weight, Holds, there_heard, router_heard, sent_at, way_sent, way_other, table_here, table_other, of_table, order_heard, up_heard, up_weight_heard, unbroken_heard, some_heard, sent_there}
use Rattle.zr_law_settled.proofs.Quiet.{passes_there}
use Rattle.zr_law_settled.proofs.Moving.{up_at, unbroken_at, lifted_way}
use Rattle.zr_law_settled.proofs.Passing.{emptied_part, emptied_same, emptied_up, emptied_weight, keep_emptied}

-- ---- a router's links changed

-- The router a has heard of an event by which its own record has other links; its ends are others (`es`), but what is on the way is not.
module _ (w : WorldState) (h : Holds w) (sound : IsSound w) (a : Name) (r : RouterState) (found : router_of w.routers a ≡ Some r) (event : Event) (tag : ℕ) (es : Ends)
    (ways : (x y : Name) → way_of notes_in es x y ≡ way_of notes_in w.ends x y) (links : Links) (base_is : (after r.node event).base ≡ relinked r.node.base links) where
  abbrev u : WorldState
  u = with_ends w es

  abbrev v : WorldState
  v = sending u a r event tag

  anew_table : (z : Name) → table_of v a z ≡ cond (is_named a z) (record { number = own (lane_of w) a + 1; value = links }) (table_of w a z)
  anew_table z =
      table_here u a r found event tag z
      ∙ ap (λ b. known_of b z) base_is
      ∙ known_relinked r.node.base links z (h.in_order a r found).own
      ∙ ap (λ m. cond (is_named m z) (record { number = (known_of r.node.base m).number + 1; value = links }) (known_of r.node.base z)) (sound.own a r found)
      ∙ ap (λ o. cond (is_named a z) (record { number = (knows o a).number + 1; value = links }) (knows o z)) (sym found)

  -- it told each neighbour that is fed then all records, or its own where the neighbour was fed before
  pub anew : (feeds' : Feeds) →
      ((y z : Name) → feeds' z a y ≡ true → (sent_at notes_in u a r event tag y ≡ told (all_records (relinked r.node.base links))) ⊎ ((feeds_of w z a y ≡ true) × (sent_at notes_in u a r event tag y ≡ told (own_record (relinked r.node.base links))))) →
      ((x y z : Name) → is_named a x ≡ false → feeds' z x y ≡ true → feeds_of w z x y ≡ true) →
      Spreads (more h.made a (own (lane_of w) a) links) feeds' (lane_of v)
  anew feeds' tells less = tells_anew_kept h.made (feeds_of w) feeds' a links (lane_of w) (lane_of v) h.spreads (record {
    others = λ x z other. table_other u a r found event tag x z other;
    table = anew_table;
    sent = sent_at notes_in u a r event tag;
    sends = λ y. way_sent notes_in u a r event tag y ∙ ap (λ ms. ms ++ sent_at notes_in u a r event tag y) (ways a y);
    silent = λ x y other. way_other notes_in u a r event tag x y other ∙ ways x y;
    sent_of = of_table u a r found event tag (order_after r.node event (h.in_order a r found));
    tells = λ y z f. by y z (tells y z f);
    feeds_less = less;
  })
    where
      here : (z : Name) → table_of v a z ≡ known_of (relinked r.node.base links) z
      here z = table_here u a r found event tag z ∙ ap (λ b. known_of b z) base_is

      by : (y z : Name) → (sent_at notes_in u a r event tag y ≡ told (all_records (relinked r.node.base links))) ⊎ ((feeds_of w z a y ≡ true) × (sent_at notes_in u a r event tag y ≡ told (own_record (relinked r.node.base links)))) →
          ((table_of v a z).number ≤ best z (sent_at notes_in u a r event tag y)) ⊎ ((feeds_of w z a y ≡ true) × ((table_of v a a).number ≤ best a (sent_at notes_in u a r event tag y)))
      by y z (inl e) =
          let number : (table_of v a z).number ≡ (known_of (relinked r.node.base links) z).number = ap (λ (k : Known Links). k.number) (here z) in
          let sent : best z (sent_at notes_in u a r event tag y) ≡ best z (told (all_records (relinked r.node.base links))) = ap (best z) e in
          inl (omega (arith, number, sent, all_tell (relinked r.node.base links).records z))
      by y z (inr p) =
          let number : (table_of v a a).number ≡ (known_of (relinked r.node.base links) a).number = ap (λ (k : Known Links). k.number) (here a) in
          let sent : best a (sent_at notes_in u a r event tag y) ≡ best a (told (own_record (relinked r.node.base links))) = ap (best a) p.1 in
          let own_is : (known_of (relinked r.node.base links) a).number ≤ best a (told (own_record (relinked r.node.base links))) =
          subst (λ m. (known_of (relinked r.node.base links) m).number ≤ best m (told (own_record (relinked r.node.base links)))) (sound.own a r found) (own_told (relinked r.node.base links)) in
          inr (p.0, omega (arith, number, sent, own_is))

  -- what its own record lists then
  pub anew_lists : table_of v a a ≡ record { number = own (lane_of w) a + 1; value = links }
  anew_lists = anew_table a ∙ ap (λ b. cond b (record { number = own (lane_of w) a + 1; value = links }) (table_of w a a)) (same_refl a)

-- what the own record listed
pub listed : (w : WorldState) → Holds w → IsSound w → (a : Name) (r : RouterState) → router_of w.routers a ≡ Some r → (y : Name) →
    has (linked_ids (own_links r.node.base)) y ≡ (there_in w y && is_up w.ends (a, y))
listed w h sound a r found y =
    ap (λ ls. has (linked_ids ls) y) (own_links_is r.node.base ∙ ap (λ m. (known_of r.node.base m).value) (sound.own a r found) ∙ ap (λ o. (knows o a).value) (sym found)) ∙ h.lists a y

-- and with which weights
pub weighed : (w : WorldState) → Holds w → IsSound w → (a : Name) (r : RouterState) → router_of w.routers a ≡ Some r → (y : Name) →
    weight_to (own_links r.node.base) y ≡ cond (there_in w y) (up_weight w.ends (a, y)) 0
weighed w h sound a r found y =
    ap (λ ls. weight_to ls y) (own_links_is r.node.base ∙ ap (λ m. (known_of r.node.base m).value) (sound.own a r found) ∙ ap (λ o. (knows o a).value) (sym found)) ∙ h.weighs a y

-- what is known of links
pub links_known : (w : WorldState) → IsSound w → (a : Name) (r : RouterState) → router_of w.routers a ≡ Some r → AreKnown (there_in w) r.node.links
links_known w sound a r found = record {
  apart = λ l k i j same.
      let one : Some l ≡ Some k = sym (each_in _ r.node.links l (sound.unique a r found).numbers i) ∙ ap (λ n. link_at r.node.links n) same ∙ each_in _ r.node.links k (sound.unique a r found).numbers j in
      cc;
  roles = λ l i. sound.roles a l.peer.id r l found (each_in _ r.node.links l (sound.unique a r found).names i);
}

role_is : (role : Role) → is_router role ≡ true → role ≡ Router
role_is Client e = absurd (false≢true e)
role_is Router e = refl

-- another router's ends are others
pub other_end : (a b x y : Name) → is_named a x ≡ false → is_end (a, b) (x, y) ≡ false
other_end a b x y other = end_parts (a, b) (x, y) ∙ ap (λ t. t && is_named b y) other

-- an end of a router is the one to a neighbour
own_end : (a b y : Name) → is_end (a, b) (a, y) ≡ is_named b y
own_end a b y = end_parts (a, b) (a, y) ∙ ap (λ t. t && is_named b y) (same_refl a)

module _ (w : WorldState) (h : Holds w) (sound : IsSound w) (a : Name) (r : RouterState) (found : router_of w.routers a ≡ Some r) where
  -- ---- an end to a router comes up

  module _ (link : LinkNo) (peer : PeerState) (role : peer.role ≡ Router) (router : there_in w peer.id ≡ true) (s : EndState) (at_end : end_of w.ends (a, peer.id) ≡ Some s) (heavy : peer.weight ≡ s.weight) (n : ℕ) where
    abbrev up_ends : Ends
    up_ends = with_end w.ends (a, peer.id) (lifted s)

    abbrev up_world : WorldState
    up_world = sending (with_ends w up_ends) a r (Up link peer) n

    pub up_kept : IsSound up_world → Holds up_world
    up_kept sound' = record {
      made = more h.made a (own (lane_of w) a) links;
      spreads = anew w h sound a r found (Up link peer) n up_ends ways links base_is (feeds_of up_world) tells less;
      lists = λ z y. at_name a (λ q. has (linked_ids (table_of up_world q q).value) y ≡ (there_in up_world y && is_up up_world.ends (q, y))) (lists_here y) (λ q other. lists_other q y other) z;
      weighs = λ z y. at_name a (λ q. weight_to (table_of up_world q q).value y ≡ cond (there_in up_world y) (up_weight up_world.ends (q, y)) 0) (weighs_here y) (λ q other. weighs_other q y other) z;
      in_order = order_heard (with_ends w up_ends) a r found (Up link peer) n h.in_order;
      twins = λ x y some there. some_is (y, x) ∙ h.twins x y (sym (some_is (x, y)) ∙ some) (sym (there_is y) ∙ there);
    }
      where
        b : Name
        b = peer.id

        links : Links
        links = with_linked (own_links r.node.base) (own_link peer)

        keep : {Y : Type 0} (f : Option EndState → Y) → f (Some (lifted s)) ≡ f (Some s) → (q : End) → f (end_of up_ends q) ≡ f (end_of w.ends q)
        keep f same q = keep_with_end w.ends (a, b) (lifted s) f q s at_end same

        ways : (x y : Name) → way_of notes_in up_ends x y ≡ way_of notes_in w.ends x y
        ways = lifted_way notes_in w.ends a b s at_end

        base_is : (after r.node (Up link peer)).base ≡ relinked r.node.base links
        base_is = ap (λ ρ. base_up r.node.base peer ρ) role

        there_is : (y : Name) → there_in up_world y ≡ there_in w y
        there_is y = there_heard (with_ends w up_ends) a r found (Up link peer) n y

        some_is : (q : End) → is_some (end_of up_world.ends q) ≡ is_some (end_of w.ends q)
        some_is q = some_heard (with_ends w up_ends) a r found (Up link peer) n q ∙ keep is_some refl q

        up_is : (q : End) → is_up up_world.ends q ≡ cond (is_end (a, b) q) true (is_up w.ends q)
        up_is q = up_heard (with_ends w up_ends) a r found (Up link peer) n q ∙ read_with_end w.ends (a, b) (lifted s) up_at q (ap is_some at_end)

        weight_is : (q : End) → up_weight up_world.ends q ≡ cond (is_end (a, b) q) s.weight (up_weight w.ends q)
        weight_is q = up_weight_heard (with_ends w up_ends) a r found (Up link peer) n q ∙ read_with_end w.ends (a, b) (lifted s) up_weight_at q (ap is_some at_end)

        unbroken_is : (q : End) → is_unbroken up_world.ends q ≡ is_unbroken w.ends q
        unbroken_is q = unbroken_heard (with_ends w up_ends) a r found (Up link peer) n q ∙ keep unbroken_at refl q

        feeds_from : (x y z : Name) → feeds_of up_world z x y ≡ true → is_up w.ends (x, y) ≡ true → feeds_of w z x y ≡ true
        feeds_from x y z f up =
            let parts = and_parts (there_in up_world y) (is_up up_world.ends (x, y) && is_unbroken up_world.ends (x, y)) f in
            let both = and_parts (is_up up_world.ends (x, y)) (is_unbroken up_world.ends (x, y)) parts.1 in
            and_from (there_in w y) (is_up w.ends (x, y) && is_unbroken w.ends (x, y)) (sym (there_is y) ∙ parts.0)
            (and_from (is_up w.ends (x, y)) (is_unbroken w.ends (x, y)) up (sym (unbroken_is (x, y)) ∙ both.1))

        up_of : (x y z : Name) → feeds_of up_world z x y ≡ true → (there_in w y ≡ true) × (is_up up_world.ends (x, y) ≡ true)
        up_of x y z f =
            let parts = and_parts (there_in up_world y) (is_up up_world.ends (x, y) && is_unbroken up_world.ends (x, y)) f in
            (sym (there_is y) ∙ parts.0, (and_parts (is_up up_world.ends (x, y)) (is_unbroken up_world.ends (x, y)) parts.1).0)

        less : (x y z : Name) → is_named a x ≡ false → feeds_of up_world z x y ≡ true → feeds_of w z x y ≡ true
        less x y z other f = feeds_from x y z f (sym (up_is (x, y) ∙ ap (λ t. cond t true (is_up w.ends (x, y))) (other_end a b x y other)) ∙ (up_of x y z f).1)

        tells : (y z : Name) → feeds_of up_world z a y ≡ true →
            (sent_at notes_in (with_ends w up_ends) a r (Up link peer) n y ≡ told (all_records (relinked r.node.base links)))
            ⊎ ((feeds_of w z a y ≡ true) × (sent_at notes_in (with_ends w up_ends) a r (Up link peer) n y ≡ told (own_record (relinked r.node.base links))))
        tells y z f =
            let up = up_of a y z f in
            by (up_tells r.node (there_in w) (links_known w sound a r found) link peer role y
            (sound'.links a y (hearing r (Up link peer)) (router_heard (with_ends w up_ends) a r found (Up link peer) n) ∙ up.1) up.0)
          where
            sent_is : sent_at notes_in (with_ends w up_ends) a r (Up link peer) n y ≡ told (sends_to r.node (Up link peer) y)
            sent_is = sent_there notes_in (with_ends w up_ends) a r (Up link peer) n y
                (sym (some_heard (with_ends w up_ends) a r found (Up link peer) n (a, y)) ∙ passes_there (λ e. e.up) up_world.ends (a, y) (up_of a y z f).1)

            by : (told (sends_to r.node (Up link peer) y) ≡ told (all_records (relinked r.node.base links))) ⊎ ((is_some (link_to r.node.links y) ≡ true) × (told (sends_to r.node (Up link peer) y) ≡ told (own_record (relinked r.node.base links)))) →
                (sent_at notes_in (with_ends w up_ends) a r (Up link peer) n y ≡ told (all_records (relinked r.node.base links)))
                ⊎ ((feeds_of w z a y ≡ true) × (sent_at notes_in (with_ends w up_ends) a r (Up link peer) n y ≡ told (own_record (relinked r.node.base links))))
            by (inl e) = inl (sent_is ∙ e)
            by (inr p) = inr (feeds_from a y z f (sym (sound.links a y r found) ∙ p.0), sent_is ∙ p.1)

        lists_here : (y : Name) → has (linked_ids (table_of up_world a a).value) y ≡ (there_in up_world y && is_up up_world.ends (a, y))
        lists_here y =
            ap (λ (k : Known Links). has (linked_ids k.value) y) (anew_lists w h sound a r found (Up link peer) n up_ends ways links base_is)
            ∙ has_with (own_links r.node.base) (own_link peer) y
            ∙ ap (λ t. cond (is_named b y) true t) (listed w h sound a r found y)
            ∙ by (is_named b y) refl
            ∙ ap (λ t. there_in w y && cond t true (is_up w.ends (a, y))) (sym (own_end a b y))
            ∙ ap (λ t. there_in w y && t) (sym (up_is (a, y)))
            ∙ ap (λ t. t && is_up up_world.ends (a, y)) (sym (there_is y))
          where
            by : (t : Bool) → is_named b y ≡ t → cond t true (there_in w y && is_up w.ends (a, y)) ≡ (there_in w y && cond t true (is_up w.ends (a, y)))
            by true e = sym (ap (λ t. t && true) (ap (λ q. there_in w q) (sym (same_is b y e)) ∙ router))
            by false e = refl

        lists_other : (q y : Name) → is_named a q ≡ false → has (linked_ids (table_of up_world q q).value) y ≡ (there_in up_world y && is_up up_world.ends (q, y))
        lists_other q y other =
            ap (λ (k : Known Links). has (linked_ids k.value) y) (table_other (with_ends w up_ends) a r found (Up link peer) n q q other)
            ∙ h.lists q y
            ∙ ap (λ t. there_in w y && t) (sym (up_is (q, y) ∙ ap (λ t. cond t true (is_up w.ends (q, y))) (other_end a b q y other)))
            ∙ ap (λ t. t && is_up up_world.ends (q, y)) (sym (there_is y))

        weighs_here : (y : Name) → weight_to (table_of up_world a a).value y ≡ cond (there_in up_world y) (up_weight up_world.ends (a, y)) 0
        weighs_here y =
            ap (λ (k : Known Links). weight_to k.value y) (anew_lists w h sound a r found (Up link peer) n up_ends ways links base_is)
            ∙ weight_with (own_links r.node.base) (own_link peer) y
            ∙ ap (λ m. cond (is_named b y) m (weight_to (own_links r.node.base) y)) heavy
            ∙ ap (λ m. cond (is_named b y) s.weight m) (weighed w h sound a r found y)
            ∙ by (is_named b y) refl
            ∙ ap (λ t. cond (there_in w y) (cond t s.weight (up_weight w.ends (a, y))) 0) (sym (own_end a b y))
            ∙ ap (λ m. cond (there_in w y) m 0) (sym (weight_is (a, y)))
            ∙ ap (λ t. cond t (up_weight up_world.ends (a, y)) 0) (sym (there_is y))
          where
            by : (t : Bool) → is_named b y ≡ t → cond t s.weight (cond (there_in w y) (up_weight w.ends (a, y)) 0) ≡ cond (there_in w y) (cond t s.weight (up_weight w.ends (a, y))) 0
            by true e = sym (ap (λ t. cond t s.weight 0) (ap (λ q. there_in w q) (sym (same_is b y e)) ∙ router))
            by false e = refl

        weighs_other : (q y : Name) → is_named a q ≡ false → weight_to (table_of up_world q q).value y ≡ cond (there_in up_world y) (up_weight up_world.ends (q, y)) 0
        weighs_other q y other =
            ap (λ (k : Known Links). weight_to k.value y) (table_other (with_ends w up_ends) a r found (Up link peer) n q q other)
            ∙ h.weighs q y
            ∙ ap (λ m. cond (there_in w y) m 0) (sym (weight_is (q, y) ∙ ap (λ t. cond t s.weight (up_weight w.ends (q, y))) (other_end a b q y other)))
            ∙ ap (λ t. cond t (up_weight up_world.ends (q, y)) 0) (sym (there_is y))

  -- ---- an end to a router goes down

  module _ (b : Name) (router : there_in w b ≡ true) (k : LinkPeer) (linked : link_to r.node.links b ≡ Some k) (n : ℕ) where
    abbrev part_world : WorldState
    part_world = sending w a r (Down k.link) n

    abbrev down_world : WorldState
    down_world = with_ends part_world (changed part_world.ends (a, b) lowered)

    pub down_kept : IsSound down_world → Holds down_world
    down_kept sound' = record {
      made = more h.made a (own (lane_of w) a) links;
      spreads = drops_kept (more h.made a (own (lane_of w) a) links) (feeds_of down_world) (feeds_of down_world) (lane_of part_world) (lane_of down_world)
          (anew w h sound a r found (Down k.link) n w.ends (λ x y. refl) links base_is (feeds_of down_world) tells less)
          (record { tables = λ x z. refl; part = emptied_part notes_in part_world.ends a b; dropped = λ x y z f. (f, kept x y z f (is_end (a, b) (x, y)) refl) });
      lists = λ z y. at_name a (λ q. has (linked_ids (table_of down_world q q).value) y ≡ (there_in down_world y && is_up down_world.ends (q, y))) (lists_here y) (λ q other. lists_other q y other) z;
      weighs = λ z y. at_name a (λ q. weight_to (table_of down_world q q).value y ≡ cond (there_in down_world y) (up_weight down_world.ends (q, y)) 0) (weighs_here y) (λ q other. weighs_other q y other) z;
      in_order = order_heard w a r found (Down k.link) n h.in_order;
      twins = λ x y some there. some_is (y, x) ∙ h.twins x y (sym (some_is (x, y)) ∙ some) (sym (there_is y) ∙ there);
    }
      where
        it : In k r.node.links × (k.peer.id ≡ b)
        it = linked_to r.node.links b k linked

        known_links : AreKnown (there_in w) r.node.links
        known_links = links_known w sound a r found

        links : Links
        links = without_linked (own_links r.node.base) k.peer.id

        role : k.peer.role ≡ Router
        role = role_is k.peer.role (known_links.roles k it.0 ∙ ap (there_in w) it.1 ∙ router)

        base_is : (after r.node (Down k.link)).base ≡ relinked r.node.base links
        base_is = ap (λ o. base_down r.node.base o) (is_at (there_in w) r.node.links known_links k it.0) ∙ ap (λ ρ. base_parted r.node.base k.peer ρ) role

        there_is : (y : Name) → there_in down_world y ≡ there_in w y
        there_is y = there_heard w a r found (Down k.link) n y

        some_is : (q : End) → is_some (end_of down_world.ends q) ≡ is_some (end_of w.ends q)
        some_is q = keep_emptied part_world.ends a b is_some (λ s. refl) q ∙ some_heard w a r found (Down k.link) n q

        up_is : (q : End) → is_up down_world.ends q ≡ cond (is_end (a, b) q) false (is_up w.ends q)
        up_is q = emptied_up part_world.ends a b q ∙ ap (λ t. cond (is_end (a, b) q) false t) (up_heard w a r found (Down k.link) n q)

        weight_is : (q : End) → up_weight down_world.ends q ≡ cond (is_end (a, b) q) 0 (up_weight w.ends q)
        weight_is q = emptied_weight part_world.ends a b q ∙ ap (λ m. cond (is_end (a, b) q) 0 m) (up_weight_heard w a r found (Down k.link) n q)

        unbroken_is : (q : End) → is_unbroken down_world.ends q ≡ is_unbroken w.ends q
        unbroken_is q = keep_emptied part_world.ends a b unbroken_at (λ s. refl) q ∙ unbroken_heard w a r found (Down k.link) n q

        up_of : (x y z : Name) → feeds_of down_world z x y ≡ true → (there_in w y ≡ true) × (is_up down_world.ends (x, y) ≡ true) × (is_unbroken w.ends (x, y) ≡ true)
        up_of x y z f =
            let parts = and_parts (there_in down_world y) (is_up down_world.ends (x, y) && is_unbroken down_world.ends (x, y)) f in
            let both = and_parts (is_up down_world.ends (x, y)) (is_unbroken down_world.ends (x, y)) parts.1 in
            (sym (there_is y) ∙ parts.0, both.0, sym (unbroken_is (x, y)) ∙ both.1)

        -- an end that is up is another one, and was up
        was_up : (q : End) → is_up down_world.ends q ≡ true → (is_end (a, b) q ≡ false) × (is_up w.ends q ≡ true)
        was_up q up = by (is_end (a, b) q) refl (sym (up_is q) ∙ up)
          where
            by : (t : Bool) → is_end (a, b) q ≡ t → cond t false (is_up w.ends q) ≡ true → (is_end (a, b) q ≡ false) × (is_up w.ends q ≡ true)
            by true e u = absurd (false≢true u)
            by false e u = (e, u)

        feeds_from : (x y z : Name) → feeds_of down_world z x y ≡ true → feeds_of w z x y ≡ true
        feeds_from x y z f =
            let up = up_of x y z f in
            and_from (there_in w y) (is_up w.ends (x, y) && is_unbroken w.ends (x, y)) up.0
            (and_from (is_up w.ends (x, y)) (is_unbroken w.ends (x, y)) (was_up (x, y) up.1).1 up.2)

        less : (x y z : Name) → is_named a x ≡ false → feeds_of down_world z x y ≡ true → feeds_of w z x y ≡ true
        less x y z other f = feeds_from x y z f

        kept : (x y z : Name) → feeds_of down_world z x y ≡ true → (t : Bool) → is_end (a, b) (x, y) ≡ t → best z (way_of notes_in part_world.ends x y) ≤ max (table_of part_world y z).number (best z (way_of notes_in down_world.ends x y))
        kept x y z f true e = absurd (true≢false (sym e ∙ (was_up (x, y) (up_of x y z f).1).0))
        kept x y z f false e = let same : best z (way_of notes_in down_world.ends x y) ≡ best z (way_of notes_in part_world.ends x y) = ap (best z) (emptied_same notes_in part_world.ends a b x y e) in omega (arith, same)

        tells : (y z : Name) → feeds_of down_world z a y ≡ true →
            (sent_at notes_in w a r (Down k.link) n y ≡ told (all_records (relinked r.node.base links)))
            ⊎ ((feeds_of w z a y ≡ true) × (sent_at notes_in w a r (Down k.link) n y ≡ told (own_record (relinked r.node.base links))))
        tells y z f =
            let up = up_of a y z f in
            inr (
              feeds_from a y z f,
              sent_there notes_in w a r (Down k.link) n y (passes_there (λ e. e.up) w.ends (a, y) (was_up (a, y) up.1).1)
                  ∙ (down_tells r.node (there_in w) known_links k it.0 role y
                  (sound'.links a y (hearing r (Down k.link)) (router_heard w a r found (Down k.link) n) ∙ up.1) up.0),
            )

        lists_here : (y : Name) → has (linked_ids (table_of down_world a a).value) y ≡ (there_in down_world y && is_up down_world.ends (a, y))
        lists_here y =
            ap (λ (m : Known Links). has (linked_ids m.value) y) (anew_lists w h sound a r found (Down k.link) n w.ends (λ x y. refl) links base_is)
            ∙ has_without (own_links r.node.base) k.peer.id y
            ∙ ap (λ q. cond (is_named q y) false (has (linked_ids (own_links r.node.base)) y)) it.1
            ∙ ap (λ t. cond (is_named b y) false t) (listed w h sound a r found y)
            ∙ by (is_named b y) (there_in w y)
            ∙ ap (λ t. there_in w y && cond t false (is_up w.ends (a, y))) (sym (own_end a b y))
            ∙ ap (λ t. there_in w y && t) (sym (up_is (a, y)))
            ∙ ap (λ t. t && is_up down_world.ends (a, y)) (sym (there_is y))
          where
            by : (t p : Bool) → cond t false (p && is_up w.ends (a, y)) ≡ (p && cond t false (is_up w.ends (a, y)))
            by true true = refl
            by true false = refl
            by false p = refl

        lists_other : (q y : Name) → is_named a q ≡ false → has (linked_ids (table_of down_world q q).value) y ≡ (there_in down_world y && is_up down_world.ends (q, y))
        lists_other q y other =
            ap (λ (m : Known Links). has (linked_ids m.value) y) (table_other w a r found (Down k.link) n q q other)
            ∙ h.lists q y
            ∙ ap (λ t. there_in w y && t) (sym (up_is (q, y) ∙ ap (λ t. cond t false (is_up w.ends (q, y))) (other_end a b q y other)))
            ∙ ap (λ t. t && is_up down_world.ends (q, y)) (sym (there_is y))

        weighs_here : (y : Name) → weight_to (table_of down_world a a).value y ≡ cond (there_in down_world y) (up_weight down_world.ends (a, y)) 0
        weighs_here y =
            ap (λ (m : Known Links). weight_to m.value y) (anew_lists w h sound a r found (Down k.link) n w.ends (λ x y. refl) links base_is)
            ∙ weight_without (own_links r.node.base) k.peer.id y
            ∙ ap (λ q. cond (is_named q y) 0 (weight_to (own_links r.node.base) y)) it.1
            ∙ ap (λ m. cond (is_named b y) 0 m) (weighed w h sound a r found y)
            ∙ by (is_named b y) (there_in w y)
            ∙ ap (λ t. cond (there_in w y) (cond t 0 (up_weight w.ends (a, y))) 0) (sym (own_end a b y))
            ∙ ap (λ m. cond (there_in w y) m 0) (sym (weight_is (a, y)))
            ∙ ap (λ t. cond t (up_weight down_world.ends (a, y)) 0) (sym (there_is y))
          where
            by : (t p : Bool) → cond t 0 (cond p (up_weight w.ends (a, y)) 0) ≡ cond p (cond t 0 (up_weight w.ends (a, y))) 0
            by true true = refl
            by true false = refl
            by false p = refl

        weighs_other : (q y : Name) → is_named a q ≡ false → weight_to (table_of down_world q q).value y ≡ cond (there_in down_world y) (up_weight down_world.ends (q, y)) 0
        weighs_other q y other =
            ap (λ (m : Known Links). weight_to m.value y) (table_other w a r found (Down k.link) n q q other)
            ∙ h.weighs q y
            ∙ ap (λ m. cond (there_in w y) m 0) (sym (weight_is (q, y) ∙ ap (λ t. cond t 0 (up_weight w.ends (q, y))) (other_end a b q y other)))
            ∙ ap (λ t. cond t (up_weight down_world.ends (q, y)) 0) (sym (there_is y))
