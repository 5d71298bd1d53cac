-- Each act that is not refused keeps what is on the way between routers gapless (`gaps_keep`), and before the first line nothing is on the way.
use Rattle.std.proofs.Common.{◌≡◌, ◌≤◌, ℕ, Bool, true, false, cond, List, [], ◌∷◌, ◌++◌, Option, Some, None, is_some, ◌⊎◌, inl, inr, refl, sym, ap, ◌∙◌, subst, append-nil, arith}
use Rattle.std.specs.Prelude.{not, IfSome, unwrap_or}
use Rattle.std.specs.Option.{option_map}
use Rattle.std.specs.Ordering.{nat_cmp}
use Rattle.std.specs.Cmp.Lexicographic.{slice_cmp}
use Rattle.std.specs.BTreeMap.{insert_entry}
use Rattle.std.proofs.lemmas.Bool.{true≢false, false≢true, false_from_ne_true, eqb-true}
use Rattle.zr_lists.proofs.Options.{not_there}
use Rattle.zr_id.specs.Zid.{is_named}
use Rattle.zr_id.specs.declared.link.LinkNo.{LinkNo}
use Rattle.zr_graph.proofs.Names.{same_is}
use Rattle.zr_msg.specs.declared.msg.Msg.{Msg}
use Rattle.zr_msg.specs.declared.decl.Kind.TheVariants as k
use Rattle.zr_msg.specs.declared.msg.Msg.TheVariants as m
use Rattle.zr_msg.specs.Extras.{no_extras}
use Rattle.zr_msg.specs.declared.event.Event.TheVariants.{Up, Down, From}
use Rattle.zr_msg.specs.declared.peer.LinkPeer.{LinkPeer}
use Rattle.zr_msg.specs.Peer.{PeerState}
use Rattle.zr_msg.specs.declared.peer.Role.TheVariants.{Client}
use Rattle.zr_script_spec.specs.declared.command.Act.{Act}
use Rattle.zr_script_spec.specs.Mode.{is_current, is_future}
use Rattle.zr_script_spec.specs.declared.command.Act.TheVariants as a
use Rattle.zr_log.specs.Known.{position}
use Rattle.zr_node_spec.specs.Tables.{is_link, link_at, link_to, free_link}
use Rattle.zr_node_spec.specs.State.{new_link}
use Rattle.zr_node_spec.specs.Table.{able_kind, rows_left, with_link, without_link, after, refuses}
use Rattle.zr_node_spec.proofs.FreeLink.{free_is_free}
use Rattle.zr_world_spec.specs.World.{Tagged, RouterState, EndState, End, Ends, WorldState, with_routers, with_ends, new_router, with_router, router_of, end_of, is_end, put_end, with_end, with_queue, new_end, is_up, is_unbroken, is_taken, empty_world, lifted, lowered, broken, sent, changed, wire_at}
use Rattle.zr_world_spec.specs.Acts.{outcome, weighing, peer_of, sending}
use Rattle.zr_world_spec.specs.Moments.{Moment, went}
use Rattle.zr_world_spec.specs.Sound.{IsSound, AreUnique}
use Rattle.zr_world_spec.proofs.Names.{value_new, read_kept}
use Rattle.zr_world_spec.proofs.Ends.{same_end, keep_with_end, read_put_end, keep_put_end, read_changed}
use Rattle.zr_world_spec.proofs.Links.{named_link, numbered_link, link_at_with, link_at_without, unique_with, unique_without}
use Rattle.zr_world_spec.proofs.Links as links
use Rattle.zr_world_spec.proofs.Telling.{is_told}
use Rattle.zr_world_spec.proofs.Cases.{w_sent, free_name, number_found, for_router, for_link, for_break, for_declare, for_undeclare, Says, publish_says, get_says, reply_says, end_says, for_take, for_mark, for_show, Weighs, interest_says, uninterest_says}
use Rattle.zr_law_settled.proofs.Told.{IsTold, by_told, reads, told_there, told_unbroken, told_way, w_client, w_down, w_handle, for_client, for_up, for_down, for_handle}
use Rattle.zr_law_settled.proofs.Spreading.{Name, best, Known}
use Rattle.zr_law_settled.proofs.Records.{notes_in}
use Rattle.zr_law_settled.proofs.Worlds.{there_in, table_of, queue_at, notes, way_of, notes-append, Holds, unbroken_heard}
use Rattle.zr_law_settled.proofs.Quiet.{no_end, passes_there, turned_is}
use Rattle.zr_law_settled.proofs.Moving.{up_at, unbroken_at, both_ways, lifted_way, moves_kept, joined_moves}
use Rattle.zr_law_settled.proofs.Passing.{says, keep_taken, taken_same, emptied_same, keep_emptied}
use Rattle.zr_law_settled.proofs.Positions.{places_in, Place}
use Rattle.zr_law_settled.proofs.Children.{rows_grow}
use Rattle.zr_law_settled.proofs.Logs.{knows_logs, logs_of, LogsHold, logs_moved}
use Rattle.zr_law_settled.proofs.Values.{brings}
use Rattle.zr_law_settled.proofs.Gaps.{Gapless, gapless_later}
use Rattle.zr_law_settled.proofs.GapKeeping.{GapsHold, ends_gaps, grown, gaps_heard, gaps_handled}

-- ---- ends

way_reads : (es es' : Ends) (x y : Name) → wire_at (end_of es (y, x)) ≡ wire_at (end_of es' (y, x)) → queue_at (end_of es (x, y)) ≡ queue_at (end_of es' (x, y)) → way_of brings es x y ≡ way_of brings es' x y
way_reads es es' x y e f =
    both_ways (notes brings (wire_at (end_of es (y, x)))) (notes brings (wire_at (end_of es' (y, x)))) (notes brings (queue_at (end_of es (x, y)))) (notes brings (queue_at (end_of es' (x, y))))
    (ap (notes brings) e) (ap (notes brings) f)

module _ (w : WorldState) (g : GapsHold w) (a b : Name) where
  sent_gaps : (s : EndState) → end_of w.ends (a, b) ≡ Some s → (msg : Msg) (tag : ℕ) → brings msg ≡ [] → GapsHold (with_ends w (with_end w.ends (a, b) (sent s msg tag)))
  sent_gaps s found msg tag silent = ends_gaps w es g (λ x y here router whole. inr (
    sym (keep unbroken_at refl (x, y)) ∙ whole,
    both_ways (notes brings (wire_at (end_of es (y, x)))) (notes brings (wire_at (end_of w.ends (y, x)))) (notes brings (queue_at (end_of es (x, y)))) (notes brings (queue_at (end_of w.ends (x, y))))
        (keep (λ o. notes brings (wire_at o)) more (y, x)) (keep (λ o. notes brings (queue_at o)) refl (x, y)),
  ))
    where
      es : Ends
      es = with_end w.ends (a, b) (sent s msg tag)

      keep : {Y : Type 0} (f : Option EndState → Y) → f (Some (sent s msg tag)) ≡ f (Some s) → (q : End) → f (end_of es q) ≡ f (end_of w.ends q)
      keep f same q = keep_with_end w.ends (a, b) (sent s msg tag) f q s found same

      more : notes brings (s.wire ++ record { msg = msg; tag = tag } ∷ []) ≡ notes brings s.wire
      more = notes-append brings s.wire (record { msg = msg; tag = tag } ∷ []) ∙ ap (λ z. notes brings s.wire ++ (z ++ [])) silent ∙ append-nil (notes brings s.wire)

  joined_gaps : end_of w.ends (a, b) ≡ None → there_in w b ≡ false → GapsHold (with_ends w (put_end w.ends (a, b) (lifted (new_end 1))))
  joined_gaps free none = ends_gaps w es g (λ x y here router whole. inr (
    sym (read_put_end w.ends (a, b) (lifted (new_end 1)) unbroken_at (x, y) ∙ ap (λ t. cond t true (is_unbroken w.ends (x, y))) (apart x y router)) ∙ whole,
    way_reads es w.ends x y (keep wire_at refl (y, x)) (keep queue_at refl (x, y)),
  ))
    where
      es : Ends
      es = put_end w.ends (a, b) (lifted (new_end 1))

      keep : {Y : Type 0} (f : Option EndState → Y) → f (Some (lifted (new_end 1))) ≡ f None → (q : End) → f (end_of es q) ≡ f (end_of w.ends q)
      keep f same q = keep_put_end w.ends (a, b) (lifted (new_end 1)) f q (same ∙ ap f (sym free))

      apart : (x y : Name) → there_in w y ≡ true → is_end (a, b) (x, y) ≡ false
      apart x y router = false_from_ne_true (is_end (a, b) (x, y)) (λ e. true≢false (sym router ∙ ap (λ (q : End). there_in w q.1) (sym (same_end (a, b) (x, y) e)) ∙ none))

  linked_gaps : (weight : ℕ) → GapsHold (with_ends w (put_end (put_end w.ends (a, b) (new_end weight)) (b, a) (new_end weight)))
  linked_gaps weight = ends_gaps w es g (λ x y here router whole. by x y whole (is_end (a, b) (x, y)) refl (is_end (b, a) (x, y)) refl)
    where
      es : Ends
      es = put_end (put_end w.ends (a, b) (new_end weight)) (b, a) (new_end weight)

      read : {Y : Type 0} (f : Option EndState → Y) (q : End) (s t : Bool) → is_end (a, b) q ≡ s → is_end (b, a) q ≡ t → f (end_of es q) ≡ cond t (f (Some (new_end weight))) (cond s (f (Some (new_end weight))) (f (end_of w.ends q)))
      read f q s t e d =
          read_put_end (put_end w.ends (a, b) (new_end weight)) (b, a) (new_end weight) f q
          ∙ ap (λ u. cond u (f (Some (new_end weight))) (f (end_of (put_end w.ends (a, b) (new_end weight)) q))) d
          ∙ ap (λ z. cond t (f (Some (new_end weight))) z) (read_put_end w.ends (a, b) (new_end weight) f q ∙ ap (λ u. cond u (f (Some (new_end weight))) (f (end_of w.ends q))) e)

      way : (x y : Name) (s t : Bool) → is_end (a, b) (x, y) ≡ s → is_end (b, a) (x, y) ≡ t →
          way_of brings es x y ≡ notes brings (cond s [] (cond t [] (wire_at (end_of w.ends (y, x))))) ++ notes brings (cond t [] (cond s [] (queue_at (end_of w.ends (x, y)))))
      way x y s t e d = both_ways (notes brings (wire_at (end_of es (y, x)))) (notes brings (cond s [] (cond t [] (wire_at (end_of w.ends (y, x)))))) (notes brings (queue_at (end_of es (x, y)))) (notes brings (cond t [] (cond s [] (queue_at (end_of w.ends (x, y))))))
          (ap (notes brings) (read wire_at (y, x) t s (turned_is b a x y ∙ d) (turned_is a b x y ∙ e))) (ap (notes brings) (read queue_at (x, y) s t e d))

      by : (x y : Name) → is_unbroken es (x, y) ≡ true → (s : Bool) → is_end (a, b) (x, y) ≡ s → (t : Bool) → is_end (b, a) (x, y) ≡ t →
          (way_of brings es x y ≡ []) ⊎ ((is_unbroken w.ends (x, y) ≡ true) × (way_of brings es x y ≡ way_of brings w.ends x y))
      by x y whole true e true d = inl (way x y true true e d)
      by x y whole true e false d = inl (way x y true false e d)
      by x y whole false e true d = inl (way x y false true e d)
      by x y whole false e false d = inr (sym (read unbroken_at (x, y) false false e d) ∙ whole, way x y false false e d)

  broken_gaps : GapsHold (with_ends w (changed (changed w.ends (a, b) broken) (b, a) broken))
  broken_gaps = ends_gaps w es g (λ x y here router whole. by x y whole (is_end (a, b) (x, y)) refl (is_end (b, a) (x, y)) refl)
    where
      es : Ends
      es = changed (changed w.ends (a, b) broken) (b, a) broken

      no_link : (o : Option EndState) → unbroken_at (option_map broken o) ≡ false
      no_link None = refl
      no_link (Some s) = refl

      read : {Y : Type 0} (f : Option EndState → Y) (q : End) (s t : Bool) → is_end (a, b) q ≡ s → is_end (b, a) q ≡ t →
          f (end_of es q) ≡ cond t (f (option_map broken (end_of (changed w.ends (a, b) broken) q))) (cond s (f (option_map broken (end_of w.ends q))) (f (end_of w.ends q)))
      read f q s t e d =
          read_changed (changed w.ends (a, b) broken) (b, a) broken f q
          ∙ ap (λ u. cond u (f (option_map broken (end_of (changed w.ends (a, b) broken) q))) (f (end_of (changed w.ends (a, b) broken) q))) d
          ∙ ap (λ z. cond t (f (option_map broken (end_of (changed w.ends (a, b) broken) q))) z)
          (read_changed w.ends (a, b) broken f q ∙ ap (λ u. cond u (f (option_map broken (end_of w.ends q))) (f (end_of w.ends q))) e)

      by : (x y : Name) → is_unbroken es (x, y) ≡ true → (s : Bool) → is_end (a, b) (x, y) ≡ s → (t : Bool) → is_end (b, a) (x, y) ≡ t →
          (way_of brings es x y ≡ []) ⊎ ((is_unbroken w.ends (x, y) ≡ true) × (way_of brings es x y ≡ way_of brings w.ends x y))
      by x y whole s e true d = absurd (false≢true (sym (read unbroken_at (x, y) s true e d ∙ no_link (end_of (changed w.ends (a, b) broken) (x, y))) ∙ whole))
      by x y whole true e false d = absurd (false≢true (sym (read unbroken_at (x, y) true false e d ∙ no_link (end_of w.ends (x, y))) ∙ whole))
      by x y whole false e false d = inr (
        sym (read unbroken_at (x, y) false false e d) ∙ whole,
        way_reads es w.ends x y (read wire_at (y, x) false false (turned_is b a x y ∙ d) (turned_is a b x y ∙ e)) (read queue_at (x, y) false false e d),
      )

  taken_gaps : Holds w → (s : EndState) → end_of w.ends (a, b) ≡ Some s → (msg : Msg) (tag : ℕ) (xs : List Tagged) → s.queue ≡ record { msg = msg; tag = tag } ∷ xs →
      GapsHold (with_ends w (changed (with_end w.ends (a, b) (with_queue s xs)) (b, a) (λ e. sent e msg tag)))
  taken_gaps h s found msg tag xs front = ends_gaps w _ g (λ x y here router whole. inr (
    sym (keep_taken w.ends a b s found msg tag xs unbroken_at refl (λ e. refl) (x, y)) ∙ whole,
    taken_same brings w.ends a b s found msg tag xs front x y (is_end (a, b) (x, y)) refl (λ t. h.twins x y (says w.ends a b s found is_some (x, y) t) router),
  ))

-- ---- routers come, and weights change

router_gaps : (w : WorldState) → IsSound w → GapsHold w → (id : Name) → is_taken w id ≡ false → GapsHold (with_routers w (insert_entry (slice_cmp nat_cmp) w.routers id (new_router id)))
router_gaps w s g id free = record { gapless = λ x y z here router whole. gapless x y z here router whole (passes_there (λ e. e.unbroken) w.ends (x, y) whole) }
  where
    no_router : is_some (router_of w.routers id) ≡ false
    no_router = (free_name w id free).0

    routers : (x : Name) → is_named x id ≡ false → router_of (insert_entry (slice_cmp nat_cmp) w.routers id (new_router id)) x ≡ router_of w.routers x
    routers x apart = value_new w.routers id x (new_router id) (not_there (router_of w.routers id) no_router) ∙ ap (λ b. cond b (Some (new_router id)) (router_of w.routers x)) apart

    gapless : (x y z : Name) → there_in (with_routers w (insert_entry (slice_cmp nat_cmp) w.routers id (new_router id))) x ≡ true →
        there_in (with_routers w (insert_entry (slice_cmp nat_cmp) w.routers id (new_router id))) y ≡ true → is_unbroken w.ends (x, y) ≡ true → is_some (end_of w.ends (x, y)) ≡ true →
        Gapless z (logs_of (with_routers w (insert_entry (slice_cmp nat_cmp) w.routers id (new_router id))) y z).number (way_of brings w.ends x y)
    gapless x y z here router whole some =
        let y_apart : is_named y id ≡ false = false_from_ne_true (is_named y id) (λ e. no_end w s id free x (ap (λ q. is_some (end_of w.ends (x, q))) (sym (same_is y id e)) ∙ some)) in
        subst (λ (o : Option RouterState). Gapless z (knows_logs o z).number (way_of brings w.ends x y)) (sym (routers y y_apart))
        (g.gapless x y z (s.routers x y some) (sym (ap is_some (routers y y_apart)) ∙ router) whole)

weighed_gaps : (w : WorldState) → GapsHold w → (a : Name) (r : RouterState) (key : List ℕ) → router_of w.routers a ≡ Some r → GapsHold (with_routers w (with_router w.routers a (weighing r key)))
weighed_gaps w g a r key found = record {
  gapless = λ x y z here router whole.
      subst (λ n. Gapless z n (way_of brings w.ends x y)) (sym (keep (λ o. (knows_logs o z).number) refl y))
      (g.gapless x y z (sym (keep is_some refl x) ∙ here) (sym (keep is_some refl y) ∙ router) whole);
}
  where
    keep : {Y : Type 0} (f : Option RouterState → Y) → f (Some (weighing r key)) ≡ f (Some r) → (x : Name) → f (router_of (with_router w.routers a (weighing r key)) x) ≡ f (router_of w.routers x)
    keep f same x = read_kept f w.routers a x r (weighing r key) found same

-- ---- ends come up and go down

module _ (w : WorldState) (h : Holds w) (l : LogsHold w) (g : GapsHold w) (sound_links : (x : Name) (r : RouterState) → router_of w.routers x ≡ Some r → AreUnique r.node.links) (a : Name) (r : RouterState)
    (found : router_of w.routers a ≡ Some r) (me : r.node.base.me ≡ a) where
  up_gaps : (link : LinkNo) (peer : PeerState) → link_at r.node.links link.0 ≡ None → link_to r.node.links peer.id ≡ None → (tag : ℕ) (es : Ends) → ((q : End) → is_unbroken es q ≡ is_unbroken w.ends q) →
      ((x y : Name) → way_of brings es x y ≡ way_of brings w.ends x y) → GapsHold (sending (with_ends w es) a r (Up link peer) tag)
  up_gaps link peer free new tag es whole ways = gaps_heard w h l a r found me (Up link peer) tag es whole grows
      (λ x y z here router unbroken. subst (λ ms. Gapless z (logs_of (sending (with_ends w es) a r (Up link peer) tag) y z).number ms) (sym (ways x y))
      (gapless_later z (way_of brings w.ends x y) (logs_of w y z).number (logs_of (sending (with_ends w es) a r (Up link peer) tag) y z).number (grown w a r found (Up link peer) tag es grows y z) (g.gapless x y z here router unbroken)))
      (λ y z. ap (best z) (ways a y)) was
    where
      grows : (z : Name) → position r.node.known z ≤ position (after r.node (Up link peer)).known z
      grows z = let e : position (after r.node (Up link peer)).known z ≡ position r.node.known z = refl in omega (arith, e)

      was : (y : Name) (j : LinkPeer) → link_to (with_link r.node.links (new_link link peer)) y ≡ Some j → (j.peer.id ≡ y) × ((link_at r.node.links j.link.0 ≡ Some j) ⊎ (link_at r.node.links j.link.0 ≡ None))
      was y j e = (named_link (with_link r.node.links (new_link link peer)) y j e, by (is_link j.link.0 (new_link link peer)) refl)
        where
          at : link_at (with_link r.node.links (new_link link peer)) j.link.0 ≡ Some j
          at = numbered_link (with_link r.node.links (new_link link peer)) (unique_with r.node.links (new_link link peer) (sound_links a r found) free new) y j e

          is : link_at (with_link r.node.links (new_link link peer)) j.link.0 ≡ cond (is_link j.link.0 (new_link link peer)) (Some (new_link link peer)) (link_at r.node.links j.link.0)
          is = link_at_with r.node.links (new_link link peer) (sound_links a r found) free new j.link.0

          by : (t : Bool) → is_link j.link.0 (new_link link peer) ≡ t → (link_at r.node.links j.link.0 ≡ Some j) ⊎ (link_at r.node.links j.link.0 ≡ None)
          by true t = inr (ap (link_at r.node.links) (sym (eqb-true link.0 j.link.0 t)) ∙ free)
          by false t = inl (sym (is ∙ ap (λ u. cond u (Some (new_link link peer)) (link_at r.node.links j.link.0)) t) ∙ at)

  down_gaps : (b : Name) (s : EndState) → end_of w.ends (a, b) ≡ Some s → s.unbroken ≡ false → (j : LinkPeer) (tag : ℕ) →
      GapsHold (with_ends (sending w a r (Down j.link) tag) (changed (sending w a r (Down j.link) tag).ends (a, b) lowered))
  down_gaps b s at_end cut j tag = ends_gaps part _ part_gaps (λ x y here router whole. by x y whole (is_end (a, b) (x, y)) refl)
    where
      part : WorldState
      part = sending w a r (Down j.link) tag

      grows : (z : Name) → position r.node.known z ≤ position (after r.node (Down j.link)).known z
      grows = rows_grow r.node (l.own_name a r found ∙ sym me) (rows_left r.node j.link.0)

      stood : (o : Option LinkPeer) (i : LinkPeer) → links.kept (λ q. not (is_link j.link.0 q)) o ≡ Some i → o ≡ Some i
      stood None i e = e
      stood (Some q) i e = at (is_link j.link.0 q) e
        where
          at : (t : Bool) → cond (not t) (Some q) None ≡ Some i → Some q ≡ Some i
          at false e = e
          at true e = absurd (cc)

      part_gaps : GapsHold part
      part_gaps = gaps_heard w h l a r found me (Down j.link) tag w.ends (λ q. refl) grows
          (λ x y z here router unbroken. gapless_later z (way_of brings w.ends x y) (logs_of w y z).number (logs_of part y z).number (grown w a r found (Down j.link) tag w.ends grows y z) (g.gapless x y z here router unbroken))
          (λ y z. refl)
          (λ y i e. (
            named_link (without_link r.node.links j.link.0) y i e,
            inl (stood (link_at r.node.links i.link.0) i
                (sym (link_at_without r.node.links (sound_links a r found) j.link.0 i.link.0) ∙ numbered_link (without_link r.node.links j.link.0) (unique_without r.node.links (sound_links a r found) j.link.0) y i e)),
          ))

      by : (x y : Name) → is_unbroken (changed part.ends (a, b) lowered) (x, y) ≡ true → (t : Bool) → is_end (a, b) (x, y) ≡ t →
          (way_of brings (changed part.ends (a, b) lowered) x y ≡ []) ⊎ ((is_unbroken part.ends (x, y) ≡ true) × (way_of brings (changed part.ends (a, b) lowered) x y ≡ way_of brings part.ends x y))
      by x y whole false t = inr (sym (keep_emptied part.ends a b unbroken_at (λ q. refl) (x, y)) ∙ whole, emptied_same brings part.ends a b x y t)
      by x y whole true t = absurd (false≢true (
          sym (keep_emptied part.ends a b unbroken_at (λ q. refl) (x, y) ∙ unbroken_heard w a r found (Down j.link) tag (x, y) ∙ ap (λ (q : End). is_unbroken w.ends q) (sym (same_end (a, b) (x, y) t)) ∙ ap unbroken_at at_end ∙ cut) ∙ whole))

-- ---- clients are told

told_brings : (msg : Msg) → is_told msg ≡ true → brings msg ≡ []
told_brings = by_told (λ msg. brings msg ≡ []) (λ id key interest. refl) (λ id key interest. refl) (λ id key complete interest. refl) (λ id. refl) (λ id. refl) (λ id. refl) (λ interest. refl)

pub gaps_told : (w v : WorldState) → IsTold w v → GapsHold w → GapsHold v
gaps_told w v t g = record {
  gapless = λ x y z here router whole. subst (λ ms. Gapless z (logs_of v y z).number ms) (sym (told_way w v t brings told_brings x y))
      (subst (λ (k : Known Place). Gapless z k.number (way_of brings w.ends x y)) (sym (reads w v t (λ o. knows_logs o z) (λ r. refl) y))
      (g.gapless x y z (sym (told_there w v t x) ∙ here) (sym (told_there w v t y) ∙ router) (sym (told_unbroken w v t (x, y)) ∙ whole)));
}

-- ---- acts

module _ (now : Moment) (sound : IsSound now.world) (h : Holds now.world) (l : LogsHold now.world) (g : GapsHold now.world) where
  abbrev w : WorldState
  w = now.world

  abbrev pub KeptGaps : Moment → Type 0
  KeptGaps next = GapsHold next.world

  no_link : (a b : Name) (r : RouterState) → router_of w.routers a ≡ Some r → is_up w.ends (a, b) ≡ false → link_to r.node.links b ≡ None
  no_link a b r found down = not_there (link_to r.node.links b) (sound.links a b r found ∙ down)

  client_comes : (n : ℕ) (id router : List ℕ) (r : RouterState) → router_of w.routers router ≡ Some r → is_taken w id ≡ false → GapsHold (w_client w n id router r)
  client_comes n id router r found free =
      let no_router = (free_name w id free).0 in
      let none = not_there (end_of w.ends (router, id)) (false_from_ne_true _ (no_end w sound id free router)) in
      let came : GapsHold (sending (with_ends w (put_end w.ends (router, id) (lifted (new_end 1)))) router r (Up (record { 0 = free_link r.node.links }) (record { id = id; role = Client; weight = 1 })) n) =
      up_gaps (with_ends w (put_end w.ends (router, id) (lifted (new_end 1)))) (moves_kept w _ h (joined_moves notes_in (table_of w) w h.twins router id none no_router))
      (logs_moved w _ l (joined_moves places_in (logs_of w) w h.twins router id none no_router)) (joined_gaps w g router id none no_router) sound.unique router r found (sound.own router r found)
      (record { 0 = free_link r.node.links }) (record { id = id; role = Client; weight = 1 }) (free_is_free r.node.links)
      (no_link router id r found (false_from_ne_true (is_up w.ends (router, id)) (λ u. no_end w sound id free router (passes_there (λ q. q.up) w.ends (router, id) u))))
      n (put_end w.ends (router, id) (lifted (new_end 1))) (λ q. refl) (λ x y. refl) in
      record { gapless = came.gapless }

  -- a client says something that brings nothing of logs
  said_gaps : (n : ℕ) (name : List ℕ) (msg : Msg) → brings msg ≡ [] → Says now KeptGaps n name msg
  said_gaps n name msg silent s found e at_end unbroken clients same = let on = sent_gaps w g s.router name e at_end msg n silent in record { gapless = on.gapless }

  -- and it may weigh on its router
  weighs : (n : ℕ) (name key : List ℕ) (msg : Msg) → brings msg ≡ [] → Weighs now KeptGaps n name key msg
  weighs n name key msg silent s found e at_end unbroken r there room clients same =
      let weighed = weighed_gaps (w_sent w n name s e msg) (sent_gaps w g s.router name e at_end msg n silent) s.router r key there in record { gapless = weighed.gapless }

  pub gaps_keep : (n : ℕ) (act : Act) → IfSome (went now (outcome w n act)) KeptGaps
  unfolding outcome
  gaps_keep n (a.Router id) = for_router now KeptGaps id (λ free room. router_gaps w sound g id free)
  gaps_keep n (a.Client id router) = for_client now KeptGaps (λ w v report t. gaps_told w v t) n id router (λ r found free room taken. client_comes n id router r found free)
  gaps_keep n (a.Link one other weight) = for_link now KeptGaps one other weight (λ apart r found q found' new room. linked_gaps w g one other weight)
  gaps_keep n (a.Up router name) = for_up now KeptGaps (λ w v report t. gaps_told w v t) n router name (λ r found there s at_end unbroken down taken.
      up_gaps w h l g sound.unique router r found (sound.own router r found) (record { 0 = free_link r.node.links }) (peer_of w name s.weight) (free_is_free r.node.links) (no_link router name r found (ap up_at at_end ∙ down)) n _
      (λ q. keep_with_end w.ends (router, name) (lifted s) unbroken_at q s at_end refl) (lifted_way brings w.ends router name s at_end))
  gaps_keep n (a.Break router name) = for_break now KeptGaps router name (λ r found there s at_end unbroken. broken_gaps w g router name)
  gaps_keep n (a.Down router name) = for_down now KeptGaps (λ w v report t. gaps_told w v t) n router name (λ r found there s at_end up cut link number taken.
      let j = number_found r name link number in
      subst (λ q. GapsHold (w_down w n router name r q)) j.2 (down_gaps w h l g sound.unique router r found (sound.own router r found) name s at_end cut j.0 n))
  gaps_keep n (a.Sub client id key) = for_declare now KeptGaps n client k.Sub id key (m.Sub id key) (λ s found fresh e at_end unbroken r there room.
      let weighed = weighed_gaps (w_sent w n client s e (m.Sub id key)) (sent_gaps w g s.router client e at_end (m.Sub id key) n refl) s.router r key there in record { gapless = weighed.gapless })
  gaps_keep n (a.Unsub client id) = for_undeclare now KeptGaps n client k.Sub id (m.Unsub id) (λ s found known e at_end unbroken.
      let on = sent_gaps w g s.router client e at_end (m.Unsub id) n refl in record { gapless = on.gapless })
  gaps_keep n (a.Token client id key) = for_declare now KeptGaps n client k.Token id key (m.Token id key) (λ s found fresh e at_end unbroken r there room.
      let weighed = weighed_gaps (w_sent w n client s e (m.Token id key)) (sent_gaps w g s.router client e at_end (m.Token id key) n refl) s.router r key there in record { gapless = weighed.gapless })
  gaps_keep n (a.Untoken client id) = for_undeclare now KeptGaps n client k.Token id (m.Untoken id) (λ s found known e at_end unbroken.
      let on = sent_gaps w g s.router client e at_end (m.Untoken id) n refl in record { gapless = on.gapless })
  gaps_keep n (a.Able client id key complete) = for_declare now KeptGaps n client (able_kind complete) id key (m.Able id key complete) (λ s found fresh e at_end unbroken r there room.
      let weighed = weighed_gaps (w_sent w n client s e (m.Able id key complete)) (sent_gaps w g s.router client e at_end (m.Able id key complete) n refl) s.router r key there in record { gapless = weighed.gapless })
  gaps_keep n (a.Unable client id) = for_undeclare now KeptGaps n client k.Able id (m.Unable id) (λ s found known e at_end unbroken.
      let on = sent_gaps w g s.router client e at_end (m.Unable id) n refl in record { gapless = on.gapless })
  gaps_keep n (a.Interest client id mode kinds key aggregate) = interest_says now KeptGaps n client id mode kinds key aggregate
      (said_gaps n client (m.Interest id (is_current mode) (is_future mode) kinds key aggregate) refl) (weighs n client (unwrap_or key []) (m.Interest id (is_current mode) (is_future mode) kinds key aggregate) refl)
  gaps_keep n (a.Uninterest client id) = uninterest_says now KeptGaps n client id (said_gaps n client (m.EndInterest id) refl)
  gaps_keep n (a.Publish client content) = publish_says now KeptGaps n client content (said_gaps n client (m.Push None content) refl)
  gaps_keep n (a.Get client number target content) = get_says now KeptGaps n client number target content (said_gaps n client (m.Request None number target content) refl)
  gaps_keep n (a.Reply client number content) = reply_says now KeptGaps n client number content (said_gaps n client (m.Response number content) refl)
  gaps_keep n (a.End client number) = end_says now KeptGaps n client number (said_gaps n client (m.Final number no_extras) refl)
  gaps_keep n (a.Handle router from) = for_handle now KeptGaps (λ w v report t. gaps_told w v t) router from (λ r found there s at_end up msg tag xs front link number taken.
      let j = number_found r from link number in
      subst (λ q. refuses r.node (From q msg) ≡ None → GapsHold (w_handle w router from r s q msg tag xs)) j.2
      (λ taken'. gaps_handled w h l g sound router r found (sound.own router r found) from j.0 j.1 s at_end msg tag xs front taken') taken)
  gaps_keep n (a.Take router to) = for_take now KeptGaps router to (λ r found there s at_end up unbroken msg tag xs front.
      let on = taken_gaps w g router to h s at_end msg tag xs front in record { gapless = on.gapless })
  gaps_keep n a.Mark = for_mark now KeptGaps n (λ settled joined. g)
  gaps_keep n (a.Show router) = for_show now KeptGaps router (λ r found. g)

-- ---- moments

pub empty_gaps : GapsHold empty_world
empty_gaps = record { gapless = λ x y z here router whole. tt }
