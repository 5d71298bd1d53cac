-- No router hears a change with a gap before it (`GapsHold`): each act that is not refused keeps what is on the way between routers gapless.
use Rattle.std.proofs.Common.{◌≡◌, ◌≤◌, ℕ, max, Bool, true, false, cond, List, [], ◌∷◌, ◌++◌, Option, Some, None, is_some, ◌⊎◌, inl, inr, refl, sym, ap, ◌∙◌, subst, append-nil, arith}
use Rattle.std.specs.Prelude.{◌&&◌, flat_map}
use Rattle.std.specs.Option.{option_map_or}
use Rattle.std.proofs.lemmas.Bool.{false≢true, and_parts, and_from}
use Rattle.zr_id.specs.Zid.{is_named}
use Rattle.zr_graph.proofs.Names.{same_is, same_refl}
use Rattle.zr_lists.proofs.Finds.{In}
use Rattle.zr_msg.specs.declared.msg.Msg.{Msg}
use Rattle.zr_msg.specs.declared.msg.Msg.TheVariants.{Sub, Unsub, Token, Untoken, Able, Unable, Interest, EndInterest, ToldSub, ToldAble, ToldUnsub, ToldToken, ToldUntoken, ToldUnable, ToldEnd, Push, Request, Response, Final, State, Step, Snap}
use Rattle.zr_msg.specs.declared.event.Event.{Event}
use Rattle.zr_msg.specs.declared.event.Event.TheVariants.{From}
use Rattle.zr_msg.specs.declared.peer.LinkPeer.{LinkPeer}
use Rattle.zr_log.specs.Known.{position}
use Rattle.zr_node_spec.specs.Tables.{link_at, link_to, is_router, is_to_child, leads_to_child, leads_to_router}
use Rattle.zr_node_spec.specs.State.{tables}
use Rattle.zr_node_spec.specs.Table.{sends, after, refuses}
use Rattle.zr_node_spec.proofs.LinksStay.{links_from}
use Rattle.zr_world_spec.specs.World.{Tagged, RouterState, EndState, End, Ends, WorldState, with_ends, router_of, end_of, is_end, is_up, is_unbroken, with_end, with_wire, wire_at}
use Rattle.zr_world_spec.specs.Acts.{hearing, sending}
use Rattle.zr_world_spec.specs.Sound.{IsSound}
use Rattle.zr_world_spec.proofs.Names.{names, read_after}
use Rattle.zr_world_spec.proofs.Ends.{end_parts, same_end}
use Rattle.zr_world_spec.proofs.Links.{named_link, numbered_link}
use Rattle.zr_law_settled.proofs.Spreading.{at_name, Name, Known, Note, own, best, best_append}
use Rattle.zr_law_settled.proofs.Links.{linked_to, leads_is}
use Rattle.zr_law_settled.proofs.Worlds.{there_in, queue_at, notes, way_of, feeds_of, Holds, sent_at, way_sent, way_other, unbroken_heard, there_heard}
use Rattle.zr_law_settled.proofs.Moving.{unbroken_at}
use Rattle.zr_law_settled.proofs.Passing.{popped_way, keep_popped}
use Rattle.zr_law_settled.proofs.Changes.{links_known}
use Rattle.zr_law_settled.proofs.Positions.{Place, placed, places_in, places}
use Rattle.zr_law_settled.proofs.Children.{child_by}
use Rattle.zr_law_settled.proofs.Logs.{knows_logs, logs_of, log_lane, child_at, feeds_logs, LogsHold, child_up}
use Rattle.zr_law_settled.proofs.Following.{from_follows}
use Rattle.zr_law_settled.proofs.Heard.{heard_known}
use Rattle.zr_law_settled.proofs.LogEvents.{first_le}
use Rattle.zr_law_settled.proofs.Values.{Brought, brings}
use Rattle.zr_law_settled.proofs.Gaps.{Gapless, gapless_later, gapless_more, sends_climb}

-- What is on the way from a router to a router over an unbroken link is gapless.
pub record GapsHold (w : WorldState) : Type 0 where
  pub gapless : (x y z : Name) → there_in w x ≡ true → there_in w y ≡ true → is_unbroken w.ends (x, y) ≡ true → Gapless z (logs_of w y z).number (way_of brings w.ends x y)

-- ---- numbers

-- what a message brings has the numbers of what it tells
best_one : (z : Name) (msg : Msg) → best z (brings msg) ≡ best z (places_in msg)
best_one z (Sub id key) = refl
best_one z (Unsub id) = refl
best_one z (Token id key) = refl
best_one z (Untoken id) = refl
best_one z (Able id key complete) = refl
best_one z (Unable id) = refl
best_one z (Interest id current future kinds key aggregate) = refl
best_one z (EndInterest id) = refl
best_one z (ToldSub id key interest) = refl
best_one z (ToldToken id key interest) = refl
best_one z (ToldAble id key complete interest) = refl
best_one z (ToldUnsub id) = refl
best_one z (ToldUntoken id) = refl
best_one z (ToldUnable id) = refl
best_one z (ToldEnd interest) = refl
best_one z (Push tree content) = refl
best_one z (Request tree id target content) = refl
best_one z (Response id content) = refl
best_one z (Final id extras) = refl
best_one z (State links) = refl
best_one z (Step source number added decl) = refl
best_one z (Snap source number decls) = refl

best_notes : (z : Name) (ws : List Tagged) → best z (notes brings ws) ≡ best z (notes places_in ws)
best_notes z [] = refl
best_notes z (x ∷ ws) =
    let a = best_append z (brings x.msg) (notes brings ws) in
    let b = best_append z (places_in x.msg) (notes places_in ws) in
    let one = best_one z x.msg in
    let more = best_notes z ws in
    omega (arith, a, b, one, more)

pub best_ways : (z : Name) (es : Ends) (x y : Name) → best z (way_of brings es x y) ≡ best z (way_of places_in es x y)
best_ways z es x y =
    let a = best_append z (notes brings (wire_at (end_of es (y, x)))) (notes brings (queue_at (end_of es (x, y)))) in
    let b = best_append z (notes places_in (wire_at (end_of es (y, x)))) (notes places_in (queue_at (end_of es (x, y)))) in
    let one = best_notes z (wire_at (end_of es (y, x))) in
    let more = best_notes z (queue_at (end_of es (x, y))) in
    omega (arith, a, b, one, more)

-- what is left of a gapless way once its first message was taken
pub gapless_taken : (z : Name) (msg : Msg) (p : ℕ) (rest : List (Note Brought)) → Gapless z p (brings msg ++ rest) → Gapless z (max p (best z (brings msg))) rest
gapless_taken z (Sub id key) p rest h = gapless_later z rest p (max p 0) (omega arith) h
gapless_taken z (Unsub id) p rest h = gapless_later z rest p (max p 0) (omega arith) h
gapless_taken z (Token id key) p rest h = gapless_later z rest p (max p 0) (omega arith) h
gapless_taken z (Untoken id) p rest h = gapless_later z rest p (max p 0) (omega arith) h
gapless_taken z (Able id key complete) p rest h = gapless_later z rest p (max p 0) (omega arith) h
gapless_taken z (Unable id) p rest h = gapless_later z rest p (max p 0) (omega arith) h
gapless_taken z (Interest id current future kinds key aggregate) p rest h = gapless_later z rest p (max p 0) (omega arith) h
gapless_taken z (EndInterest id) p rest h = gapless_later z rest p (max p 0) (omega arith) h
gapless_taken z (ToldSub id key interest) p rest h = gapless_later z rest p (max p 0) (omega arith) h
gapless_taken z (ToldToken id key interest) p rest h = gapless_later z rest p (max p 0) (omega arith) h
gapless_taken z (ToldAble id key complete interest) p rest h = gapless_later z rest p (max p 0) (omega arith) h
gapless_taken z (ToldUnsub id) p rest h = gapless_later z rest p (max p 0) (omega arith) h
gapless_taken z (ToldUntoken id) p rest h = gapless_later z rest p (max p 0) (omega arith) h
gapless_taken z (ToldUnable id) p rest h = gapless_later z rest p (max p 0) (omega arith) h
gapless_taken z (ToldEnd interest) p rest h = gapless_later z rest p (max p 0) (omega arith) h
gapless_taken z (Push tree content) p rest h = gapless_later z rest p (max p 0) (omega arith) h
gapless_taken z (Request tree id target content) p rest h = gapless_later z rest p (max p 0) (omega arith) h
gapless_taken z (Response id content) p rest h = gapless_later z rest p (max p 0) (omega arith) h
gapless_taken z (Final id extras) p rest h = gapless_later z rest p (max p 0) (omega arith) h
gapless_taken z (State links) p rest h = gapless_later z rest p (max p 0) (omega arith) h
gapless_taken z (Step source number added decl) p rest h = gapless_later z rest (cond (is_named source z) (max p number) p) (max p (max (cond (is_named source z) number 0) 0)) (by (is_named source z)) h.1
  where
    by : (t : Bool) → cond t (max p number) p ≤ max p (max (cond t number 0) 0)
    by true = omega arith
    by false = omega arith
gapless_taken z (Snap source number decls) p rest h = gapless_later z rest (cond (is_named source z) (max p number) p) (max p (max (cond (is_named source z) number 0) 0)) (by (is_named source z)) h.1
  where
    by : (t : Bool) → cond t (max p number) p ≤ max p (max (cond t number 0) 0)
    by true = omega arith
    by false = omega arith

-- ---- a router hears of an event

module _ (w : WorldState) (a : Name) (r : RouterState) (found : router_of w.routers a ≡ Some r) (event : Event) (tag : ℕ) (es : Ends) (grows : (z : Name) → position r.node.known z ≤ position (after r.node event).known z) where
  pub logs_is : (x z : Name) → logs_of (sending (with_ends w es) a r event tag) x z ≡ cond (is_named a x) (placed (position (after r.node event).known z)) (logs_of w x z)
  logs_is x z = read_after (λ o. knows_logs o z) w.routers a x r (hearing r event) found

  pub grown : (x z : Name) → (logs_of w x z).number ≤ (logs_of (sending (with_ends w es) a r event tag) x z).number
  grown x z = at_name a (λ q. (logs_of w q z).number ≤ (logs_of (sending (with_ends w es) a r event tag) q z).number)
      (let n : (logs_of (sending (with_ends w es) a r event tag) a z).number ≡ position (after r.node event).known z =
      ap (λ (k : Known Place). k.number) (logs_is a z ∙ ap (λ t. cond t (placed (position (after r.node event).known z)) (logs_of w a z)) (same_refl a)) in
      let o : (logs_of w a z).number ≡ position r.node.known z = ap (λ o. (knows_logs o z).number) found in
      omega (arith, n, o, grows z))
      (λ q e. let n : (logs_of (sending (with_ends w es) a r event tag) q z).number ≡ (logs_of w q z).number =
      ap (λ (k : Known Place). k.number) (logs_is q z ∙ ap (λ t. cond t (placed (position (after r.node event).known z)) (logs_of w q z)) e) in omega (arith, n)) x

-- It hears with other ends: what is on the way to each router over an unbroken link is gapless there too, for what is known then.
module _ (w : WorldState) (h : Holds w) (l : LogsHold w) (a : Name) (r : RouterState) (found : router_of w.routers a ≡ Some r) (me : r.node.base.me ≡ a) (event : Event) (tag : ℕ) (es : Ends)
    (whole : (q : End) → is_unbroken es q ≡ is_unbroken w.ends q) (grows : (z : Name) → position r.node.known z ≤ position (after r.node event).known z)
    (gaps : (x y z : Name) → there_in w x ≡ true → there_in w y ≡ true → is_unbroken w.ends (x, y) ≡ true → Gapless z (logs_of (sending (with_ends w es) a r event tag) y z).number (way_of brings es x y))
    (same_out : (y z : Name) → best z (way_of brings es a y) ≡ best z (way_of brings w.ends a y))
    (was : (y : Name) (k : LinkPeer) → link_to (after r.node event).links y ≡ Some k → (k.peer.id ≡ y) × ((link_at r.node.links k.link.0 ≡ Some k) ⊎ (link_at r.node.links k.link.0 ≡ None))) where
  abbrev left : WorldState
  left = sending (with_ends w es) a r event tag

  -- a child before knows all, or is being told
  told : (y z : Name) → there_in w y ≡ true → is_unbroken w.ends (a, y) ≡ true → (k : LinkPeer) → (k.peer.id ≡ y) × ((link_at r.node.links k.link.0 ≡ Some k) ⊎ (link_at r.node.links k.link.0 ≡ None)) →
      is_to_child (tables r.node) z k.link.0 ≡ true → position r.node.known z ≤ max (logs_of left y z).number (best z (way_of brings es a y))
  told y z router unbroken k at child = by at.1
    where
      by : (link_at r.node.links k.link.0 ≡ Some k) ⊎ (link_at r.node.links k.link.0 ≡ None) → position r.node.known z ≤ max (logs_of left y z).number (best z (way_of brings es a y))
      by (inr none) = absurd (false≢true (sym (ap (λ o. option_map_or (λ j. leads_to_child (tables r.node) z j) o false) none) ∙ child))
      by (inl some) =
          let leads : leads_to_child (tables r.node) z k ≡ true = sym (ap (λ o. option_map_or (λ j. leads_to_child (tables r.node) z j) o false) some) ∙ child in
          let is_child : child_by r.node.base.records z a y ≡ true = ap (λ q. child_by r.node.base.records z q y) (sym me) ∙ ap (λ q. child_by r.node.base.records z r.node.base.me q) (sym at.0)
          ∙ (and_parts (is_router k.peer.role) (child_by r.node.base.records z r.node.base.me k.peer.id) leads).1 in
          let fed : feeds_of w z a y ≡ true = and_from (there_in w y) (is_up w.ends (a, y) && is_unbroken w.ends (a, y)) router
          (and_from (is_up w.ends (a, y)) (is_unbroken w.ends (a, y)) (child_up w h a r found z y is_child) unbroken) in
          let feeds : feeds_logs w z a y ≡ true = and_from (feeds_of w z a y) (child_at (router_of w.routers a) z a y) fed (ap (λ o. child_at o z a y) found ∙ is_child) in
          let o : (logs_of w a z).number ≡ position r.node.known z = ap (λ o. (knows_logs o z).number) found in
          let b = best_ways z w.ends a y in
          let s = same_out y z in
          omega (arith, o, b, s, l.spreads.told a y z feeds, grown w a r found event tag es grows y z)

  pub gaps_heard : GapsHold left
  gaps_heard = record {
    gapless = λ x y z here router unbroken.
        gapless x y z (sym (there_heard (with_ends w es) a r found event tag x) ∙ here) (sym (there_heard (with_ends w es) a r found event tag y) ∙ router)
        (sym (unbroken_heard (with_ends w es) a r found event tag (x, y) ∙ whole (x, y)) ∙ unbroken);
  }
    where
      gapless : (x y z : Name) → there_in w x ≡ true → there_in w y ≡ true → is_unbroken w.ends (x, y) ≡ true → Gapless z (logs_of left y z).number (way_of brings left.ends x y)
      gapless x y z here router unbroken = at_name a (λ q. there_in w q ≡ true → is_unbroken w.ends (q, y) ≡ true → Gapless z (logs_of left y z).number (way_of brings left.ends q y))
          (λ here unbroken. subst (λ ms. Gapless z (logs_of left y z).number ms) (sym (way_sent brings (with_ends w es) a r event tag y))
          (gapless_more z (way_of brings es a y) (sent_at brings (with_ends w es) a r event tag y) (logs_of left y z).number (gaps a y z here router unbroken) (sent y z router unbroken)))
          (λ q other here unbroken. subst (λ ms. Gapless z (logs_of left y z).number ms) (sym (way_other brings (with_ends w es) a r event tag q y other)) (gaps q y z here router unbroken)) x here unbroken
        where
          sent : (y z : Name) → there_in w y ≡ true → is_unbroken w.ends (a, y) ≡ true → Gapless z (max (logs_of left y z).number (best z (way_of brings es a y))) (sent_at brings (with_ends w es) a r event tag y)
          sent y z router unbroken = by (is_some (end_of es (a, y))) (link_to (after r.node event).links y) refl
            where
              by : (t : Bool) (o : Option LinkPeer) → link_to (after r.node event).links y ≡ o →
                  Gapless z (max (logs_of left y z).number (best z (way_of brings es a y))) (flat_map brings (cond t (option_map_or (λ k. sends r.node event k.link) o []) []))
              by false o e = tt
              by true None e = tt
              by true (Some k) e = sends_climb r.node z (max (logs_of left y z).number (best z (way_of brings es a y))) k.link (told y z router unbroken k (was y k e)) event

-- ---- ends alone

pub ends_gaps : (w : WorldState) (es : Ends) → GapsHold w →
    ((x y : Name) → there_in w x ≡ true → there_in w y ≡ true → is_unbroken es (x, y) ≡ true → (way_of brings es x y ≡ []) ⊎ ((is_unbroken w.ends (x, y) ≡ true) × (way_of brings es x y ≡ way_of brings w.ends x y))) → GapsHold (with_ends w es)
ends_gaps w es g stays = record { gapless = λ x y z here router whole. by x y z here router (stays x y here router whole) }
  where
    by : (x y z : Name) → there_in w x ≡ true → there_in w y ≡ true → (way_of brings es x y ≡ []) ⊎ ((is_unbroken w.ends (x, y) ≡ true) × (way_of brings es x y ≡ way_of brings w.ends x y)) →
        Gapless z (logs_of w y z).number (way_of brings es x y)
    by x y z here router (inl e) = subst (λ ms. Gapless z (logs_of w y z).number ms) (sym e) tt
    by x y z here router (inr p) = subst (λ ms. Gapless z (logs_of w y z).number ms) (sym p.1) (g.gapless x y z here router p.0)

-- ---- a message is handled

module _ (w : WorldState) (h : Holds w) (l : LogsHold w) (g : GapsHold w) (sound : IsSound w) (a : Name) (r : RouterState) (found : router_of w.routers a ≡ Some r) (me : r.node.base.me ≡ a)
    (b : Name) (k : LinkPeer) (linked : link_to r.node.links b ≡ Some k) (s : EndState) (at_end : end_of w.ends (a, b) ≡ Some s) (msg : Msg) (tag : ℕ) (xs : List Tagged)
    (front : s.wire ≡ record { msg = msg; tag = tag } ∷ xs) (taken : refuses r.node (From k.link msg) ≡ None) where
  pub gaps_handled : GapsHold (sending (with_ends w (with_end w.ends (a, b) (with_wire s xs))) a r (From k.link msg) tag)
  gaps_handled = gaps_heard w h l a r found me (From k.link msg) tag es (λ q. keep_popped w.ends a b s at_end msg tag xs unbroken_at refl q) grows gaps same_out was
    where
      es : Ends
      es = with_end w.ends (a, b) (with_wire s xs)

      known_me : r.node.known.me ≡ r.node.base.me
      known_me = l.own_name a r found ∙ sym me

      grows : (z : Name) → position r.node.known z ≤ position (after r.node (From k.link msg)).known z
      grows z = (from_follows r.node known_me k.link msg).grows z

      more : (x z : Name) → (logs_of w x z).number ≤ (logs_of (sending (with_ends w es) a r (From k.link msg) tag) x z).number
      more x z = grown w a r found (From k.link msg) tag es grows x z

      it : In k r.node.links × (k.peer.id ≡ b)
      it = linked_to r.node.links b k linked

      -- its receiver knows what a router told
      known_then : (z : Name) → there_in w b ≡ true → best z (places_in msg) ≤ (logs_of (sending (with_ends w es) a r (From k.link msg) tag) a z).number
      known_then z router = by (is_named a z) refl
        where
          leads : leads_to_router r.node.links k.link.0 ≡ true
          leads = leads_is (there_in w) r.node.links (links_known w sound a r found) k it.0 ∙ ap (there_in w) it.1 ∙ router

          now : (logs_of (sending (with_ends w es) a r (From k.link msg) tag) a z).number ≡ position (after r.node (From k.link msg)).known z
          now = ap (λ (m : Known Place). m.number) (logs_is w a r found (From k.link msg) tag es grows a z ∙ ap (λ t. cond t (placed (position (after r.node (From k.link msg)).known z)) (logs_of w a z)) (same_refl a))

          alone : best z (places (msg ∷ [])) ≡ best z (places_in msg)
          alone = ap (best z) (append-nil (places_in msg))

          by : (t : Bool) → is_named a z ≡ t → best z (places_in msg) ≤ (logs_of (sending (with_ends w es) a r (From k.link msg) tag) a z).number
          by false e = omega (arith, now, alone, heard_known r.node k.link leads msg taken z (ap (λ q. is_named q z) (l.own_name a r found) ∙ e))
          by true e =
              let mine : own (log_lane w) z ≡ position r.node.known z = ap (λ q. (logs_of w q z).number) (sym (same_is a z e)) ∙ ap (λ o. (knows_logs o z).number) found in
              omega (arith, now, mine, alone, first_le w l a b s at_end msg tag xs front z, grows z)

      way : (x y : Name) → way_of brings w.ends x y ≡ cond (is_end (a, b) (y, x)) (brings msg) [] ++ way_of brings es x y
      way x y = popped_way brings w.ends a b s at_end msg tag xs front x y

      gaps : (x y z : Name) → there_in w x ≡ true → there_in w y ≡ true → is_unbroken w.ends (x, y) ≡ true →
          Gapless z (logs_of (sending (with_ends w es) a r (From k.link msg) tag) y z).number (way_of brings es x y)
      gaps x y z here router whole = by (is_end (a, b) (y, x)) refl
        where
          before : Gapless z (logs_of w y z).number (way_of brings w.ends x y)
          before = g.gapless x y z here router whole

          by : (t : Bool) → is_end (a, b) (y, x) ≡ t → Gapless z (logs_of (sending (with_ends w es) a r (From k.link msg) tag) y z).number (way_of brings es x y)
          by false e = gapless_later z (way_of brings es x y) (logs_of w y z).number (logs_of (sending (with_ends w es) a r (From k.link msg) tag) y z).number (more y z)
              (subst (λ ms. Gapless z (logs_of w y z).number ms) (way x y ∙ ap (λ t. cond t (brings msg) [] ++ way_of brings es x y) e) before)
          by true e =
              let one = best_one z msg in
              let y_is : a ≡ y = ap (λ (q : End). q.0) (same_end (a, b) (y, x) e) in
              let x_is : b ≡ x = ap (λ (q : End). q.1) (same_end (a, b) (y, x) e) in
              let known : best z (places_in msg) ≤ (logs_of (sending (with_ends w es) a r (From k.link msg) tag) y z).number =
              subst (λ q. best z (places_in msg) ≤ (logs_of (sending (with_ends w es) a r (From k.link msg) tag) q z).number) y_is (known_then z (ap (there_in w) x_is ∙ here)) in
              gapless_later z (way_of brings es x y) (max (logs_of w y z).number (best z (brings msg))) (logs_of (sending (with_ends w es) a r (From k.link msg) tag) y z).number
              (omega (arith, one, known, more y z))
              (gapless_taken z msg (logs_of w y z).number (way_of brings es x y) (subst (λ ms. Gapless z (logs_of w y z).number ms) (way x y ∙ ap (λ t. cond t (brings msg) [] ++ way_of brings es x y) e) before))

      same_out : (y z : Name) → best z (way_of brings es a y) ≡ best z (way_of brings w.ends a y)
      same_out y z = ap (best z) (sym (way a y ∙ ap (λ t. cond t (brings msg) [] ++ way_of brings es a y) (end_parts (a, b) (y, a) ∙ ap (λ t. is_named a y && t) (names.symm b a ∙ sound.apart a b (ap is_some at_end)) ∙ no (is_named a y))))
        where
          no : (u : Bool) → (u && false) ≡ false
          no true = refl
          no false = refl

      was : (y : Name) (j : LinkPeer) → link_to (after r.node (From k.link msg)).links y ≡ Some j → (j.peer.id ≡ y) × ((link_at r.node.links j.link.0 ≡ Some j) ⊎ (link_at r.node.links j.link.0 ≡ None))
      was y j e =
          let old : link_to r.node.links y ≡ Some j = sym (ap (λ ls. link_to ls y) (links_from r.node k.link msg)) ∙ e in
          (named_link r.node.links y j old, inl (numbered_link r.node.links (sound.unique a r found) y j old))
