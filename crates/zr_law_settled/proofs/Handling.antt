-- A router handles a message. A newer record from another router is kept and told on (`kept_on`), and then leaves the wire. Anything else
-- tells nothing of links (`is_silent`): the message may leave the wire first, since its receiver knows what it tells.
use Rattle.std.proofs.Common.{◌≡◌, ◌≤◌, ◌+◌, ℕ, max, Bool, true, false, cond, List, [], ◌∷◌, ◌++◌, Option, Some, None, is_some, ◌⊎◌, inl, inr, refl, sym, ap, ◌∙◌, subst, append-nil, arith}
use Rattle.std.specs.Prelude.{◌&&◌}
use Rattle.std.specs.List.{AllByRecursion}
use Rattle.std.specs.Option.{option_map_or}
use Rattle.std.proofs.lemmas.Bool.{true≢false, and_parts}
use Rattle.zr_id.specs.Zid.{is_named}
use Rattle.zr_id.specs.Record.{RecordState, linked_ids}
use Rattle.zr_id.specs.declared.link.LinkNo.{LinkNo}
use Rattle.zr_graph.specs.Record.{has, weight_to}
use Rattle.zr_graph.specs.Base.{BaseState, is_newer, kept}
use Rattle.zr_graph.proofs.Names.{same_is}
use Rattle.zr_lists.proofs.Finds.{In}
use Rattle.zr_msg.specs.declared.msg.Msg.{Msg}
use Rattle.zr_msg.specs.declared.msg.Msg.TheVariants.{Sub, Unsub, Token, Untoken, Able, Unable, Interest, EndInterest, ToldSub, ToldAble, ToldUnsub, ToldToken, ToldUntoken, ToldUnable, ToldEnd, Push, Request, Response, Final, State, Step, Snap}
use Rattle.zr_msg.specs.declared.event.Event.{Event}
use Rattle.zr_msg.specs.declared.event.Event.TheVariants.{From}
use Rattle.zr_node_spec.specs.Tables.{link_to, leads_to_router}
use Rattle.zr_node_spec.specs.State.{NodeState}
use Rattle.zr_msg.specs.declared.peer.LinkPeer.{LinkPeer}
use Rattle.zr_node_spec.specs.Table.{sends_first, sends, after, is_other_router}
use Rattle.zr_lists.proofs.Each.{All-front}
use Rattle.zr_world_spec.specs.World.{Tagged, RouterState, EndState, End, Ends, WorldState, with_ends, router_of, end_of, is_end, is_up, is_unbroken, with_end, with_wire}
use Rattle.zr_world_spec.specs.Acts.{sends_to, sending}
use Rattle.zr_world_spec.specs.Sound.{IsSound}
use Rattle.zr_world_spec.proofs.Ends.{ends, same_end}
use Rattle.zr_law_settled.proofs.Spreading.{at_name, Name, Known, Note, own, best, AllFit, Fits, Spreads, drops_kept, best_append, best_head}
use Rattle.zr_law_settled.proofs.Telling.{takes_kept}
use Rattle.zr_law_settled.proofs.Links.{AreKnown, linked_to, leads_is}
use Rattle.zr_law_settled.proofs.Records.{Links, known_of, note_of, notes_in, told, known_kept, newer_is, older_is}
use Rattle.zr_law_settled.proofs.Silent.{from_silent, base_silent, first_tells}
use Rattle.zr_law_settled.proofs.Hearing.{order_after, state_tells}
use Rattle.zr_law_settled.proofs.Worlds.{there_in, knows, table_of, way_of, lane_of, feeds_of, up_weight_at, up_weight, Holds, there_heard, table_heard, sent_at, way_sent, way_other, table_here, table_other, of_table, order_heard, up_heard, up_weight_heard, unbroken_heard, some_heard, sent_there}
use Rattle.zr_law_settled.proofs.Quiet.{silent_kept, passes_there}
use Rattle.zr_law_settled.proofs.Moving.{up_at, unbroken_at, moves_kept}
use Rattle.zr_law_settled.proofs.Passing.{popped_way, keep_popped, popped_moves, handled_way}
use Rattle.zr_law_settled.proofs.Changes.{links_known}

-- ---- what tells nothing

-- A message from a link tells a router nothing of links: its base stays, and no record is sent.
pub record IsSilent (n : NodeState) (from : LinkNo) (msg : Msg) : Type 0 where
  pub same : (after n (From from msg)).base ≡ n.base
  pub silent : (y : Name) → told (sends_to n (From from msg) y) ≡ []

-- what is told is the router's own, or no newer than what it knows
abbrev pub AreOld : BaseState → List (Note Links) → Type 0
AreOld b ms = AllByRecursion (λ m. (is_named m.source b.me ≡ true) ⊎ (m.known.number ≤ (known_of b m.source).number)) ms

module _ (n : NodeState) (from : LinkNo) where
  on_each : (msg : Msg) → ((to : LinkNo) → told (sends_first n (From from msg) to) ≡ []) → (y : Name) → told (sends_to n (From from msg) y) ≡ []
  on_each msg h y = by (link_to (after n (From from msg)).links y)
    where
      by : (o : Option LinkPeer) → told (option_map_or (λ l. sends n (From from msg) l.link) o []) ≡ []
      by None = refl
      by (Some l) = first_tells n (From from msg) l.link ∙ h l.link

  state_silent : (r : RecordState) (t u : Bool) → leads_to_router n.links from.0 ≡ t → is_newer n.base r ≡ u → (t && u) ≡ false → IsSilent n from (State r)
  state_silent r t u et eu old = record {
    same = ap (λ b. cond b (cond (is_newer n.base r) (kept n.base r) n.base) n.base) et ∙ ap (λ b. cond t (cond b (kept n.base r) n.base) n.base) eu ∙ stays t u old;
    silent = on_each (State r) (λ to. ap (λ b. told (cond (b && is_newer n.base r && is_other_router n from.0 to.0) (State r ∷ []) [])) et
        ∙ ap (λ b. told (cond (t && b && is_other_router n from.0 to.0) (State r ∷ []) [])) eu ∙ ap (λ b. told (cond (b && is_other_router n from.0 to.0) (State r ∷ []) [])) old);
  }
    where
      stays : (t u : Bool) → (t && u) ≡ false → cond t (cond u (kept n.base r) n.base) n.base ≡ n.base
      stays true true k = absurd (true≢false k)
      stays true false k = refl
      stays false u k = refl

  nothing : (msg : Msg) → notes_in msg ≡ [] → IsSilent n from msg
  nothing msg e = record { same = base_silent n from.0 msg e; silent = on_each msg (λ to. from_silent n from.0 msg to.0 e) }

  by_record : (r : RecordState) (P : Msg → Type 0) → ((r : RecordState) → leads_to_router n.links from.0 ≡ true → is_newer n.base r ≡ true → P (State r)) →
      ((m : Msg) → IsSilent n from m → (leads_to_router n.links from.0 ≡ true → AreOld n.base (notes_in m)) → P m) → (t : Bool) → leads_to_router n.links from.0 ≡ t →
      (u : Bool) → is_newer n.base r ≡ u → P (State r)
  by_record r P news silent true et true eu = news r et eu
  by_record r P news silent true et false eu = silent (State r) (state_silent r true false et eu refl) (λ k. (older_is n.base r eu, tt))
  by_record r P news silent false et u eu = silent (State r) (state_silent r false u et eu refl) (λ k. absurd (true≢false (sym k ∙ et)))

  by_nothing : (msg : Msg) (P : Msg → Type 0) → ((m : Msg) → IsSilent n from m → (leads_to_router n.links from.0 ≡ true → AreOld n.base (notes_in m)) → P m) → notes_in msg ≡ [] → P msg
  by_nothing msg P silent e = silent msg (nothing msg e) (λ t. subst (λ ms. AreOld n.base ms) (sym e) tt)

  -- A message is a newer record from a router, or tells nothing; and then, if it is from a router, what it tells is old.
  pub by_news : (msg : Msg) (P : Msg → Type 0) → ((r : RecordState) → leads_to_router n.links from.0 ≡ true → is_newer n.base r ≡ true → P (State r)) →
      ((m : Msg) → IsSilent n from m → (leads_to_router n.links from.0 ≡ true → AreOld n.base (notes_in m)) → P m) → P msg
  by_news (Sub id key) P news silent = by_nothing (Sub id key) P silent refl
  by_news (Unsub id) P news silent = by_nothing (Unsub id) P silent refl
  by_news (Token id key) P news silent = by_nothing (Token id key) P silent refl
  by_news (Untoken id) P news silent = by_nothing (Untoken id) P silent refl
  by_news (Able id key complete) P news silent = by_nothing (Able id key complete) P silent refl
  by_news (Unable id) P news silent = by_nothing (Unable id) P silent refl
  by_news (Interest id current future kinds key aggregate) P news silent = by_nothing (Interest id current future kinds key aggregate) P silent refl
  by_news (EndInterest id) P news silent = by_nothing (EndInterest id) P silent refl
  by_news (ToldSub id key interest) P news silent = by_nothing (ToldSub id key interest) P silent refl
  by_news (ToldToken id key interest) P news silent = by_nothing (ToldToken id key interest) P silent refl
  by_news (ToldAble id key complete interest) P news silent = by_nothing (ToldAble id key complete interest) P silent refl
  by_news (ToldUnsub id) P news silent = by_nothing (ToldUnsub id) P silent refl
  by_news (ToldUntoken id) P news silent = by_nothing (ToldUntoken id) P silent refl
  by_news (ToldUnable id) P news silent = by_nothing (ToldUnable id) P silent refl
  by_news (ToldEnd interest) P news silent = by_nothing (ToldEnd interest) P silent refl
  by_news (Push tree content) P news silent = by_nothing (Push tree content) P silent refl
  by_news (Request tree id target content) P news silent = by_nothing (Request tree id target content) P silent refl
  by_news (Response id content) P news silent = by_nothing (Response id content) P silent refl
  by_news (Final id extras) P news silent = by_nothing (Final id extras) P silent refl
  by_news (State r) P news silent = by_record r P news silent (leads_to_router n.links from.0) refl (is_newer n.base r) refl
  by_news (Step source number added decl) P news silent = by_nothing (Step source number added decl) P silent refl
  by_news (Snap source number decls) P news silent = by_nothing (Snap source number decls) P silent refl

-- ---- worlds

module _ (w : WorldState) (h : Holds w) (sound : IsSound w) (a : Name) (r : RouterState) (found : router_of w.routers a ≡ Some r) (b : Name) (k : LinkPeer) (linked : link_to r.node.links b ≡ Some k)
    (s : EndState) (at_end : end_of w.ends (a, b) ≡ Some s) (tag : ℕ) (xs : List Tagged) where
  it : In k r.node.links × (k.peer.id ≡ b)
  it = linked_to r.node.links b k linked

  known_links : AreKnown (there_in w) r.node.links
  known_links = links_known w sound a r found

  leads : leads_to_router r.node.links k.link.0 ≡ there_in w b
  leads = leads_is (there_in w) r.node.links known_links k it.0 ∙ ap (there_in w) it.1

  abbrev after_pop : Ends
  after_pop = with_end w.ends (a, b) (with_wire s xs)

  -- what is first on the wire fits
  first_fits : (msg : Msg) → s.wire ≡ record { msg = msg; tag = tag } ∷ xs → AllFit h.made (own (lane_of w)) (notes_in msg)
  first_fits msg front =
      All-front (λ m. Fits h.made (own (lane_of w)) m.source m.known) (notes_in msg) (way_of notes_in after_pop b a)
      (subst (λ ms. AllFit h.made (own (lane_of w)) ms)
      (popped_way notes_in w.ends a b s at_end msg tag xs front b a ∙ ap (λ t. cond t (notes_in msg) [] ++ way_of notes_in after_pop b a) (ends.refl (a, b)))
      (h.spreads.fits_way b a))

  -- what is old is known
  old_known : (ms : List (Note Links)) → AllFit h.made (own (lane_of w)) ms → AreOld r.node.base ms → (z : Name) → best z ms ≤ (table_of w a z).number
  old_known [] fit old z = omega arith
  old_known (m ∷ ms) fit old z = by (is_named m.source z) refl (old_known ms fit.1 old.1 z)
    where
      one : (is_named m.source r.node.base.me ≡ true) ⊎ (m.known.number ≤ (known_of r.node.base m.source).number) → m.known.number ≤ (table_of w a m.source).number
      one (inl e) =
          let same : own (lane_of w) m.source ≡ (table_of w a m.source).number = ap (λ q. (table_of w q m.source).number) (same_is m.source r.node.base.me e ∙ sound.own a r found) in
          omega (arith, same, fit.0.0)
      one (inr le) = let same : (table_of w a m.source).number ≡ (known_of r.node.base m.source).number = ap (λ o. (knows o m.source).number) found in omega (arith, same, le)

      by : (t : Bool) → is_named m.source z ≡ t → best z ms ≤ (table_of w a z).number → max (cond t m.known.number 0) (best z ms) ≤ (table_of w a z).number
      by true e ih = let here : m.known.number ≤ (table_of w a z).number = subst (λ q. m.known.number ≤ (table_of w a q).number) (same_is m.source z e) (one old.0) in omega (arith, here, ih)
      by false e ih = omega (arith, ih)

  pub silent_handled : (msg : Msg) → s.wire ≡ record { msg = msg; tag = tag } ∷ xs → IsSilent r.node k.link msg → (leads_to_router r.node.links k.link.0 ≡ true → AreOld r.node.base (notes_in msg)) →
      Holds (sending (with_ends w after_pop) a r (From k.link msg) tag)
  silent_handled msg front quiet old =
      silent_kept (with_ends w after_pop) a r found (From k.link msg) tag
      (moves_kept w _ h (popped_moves notes_in (table_of w) w h.twins a b s at_end msg tag xs front
      (λ up z. old_known (notes_in msg) (first_fits msg front) (old (leads ∙ sound.routers b a (passes_there (λ e. e.up) w.ends (b, a) up))) z)))
      quiet.same quiet.silent

  -- ---- a newer record

  module _ (m : RecordState) (front : s.wire ≡ record { msg = State m; tag = tag } ∷ xs) (router : leads_to_router r.node.links k.link.0 ≡ true) (newer : is_newer r.node.base m ≡ true) where
    event : Event
    event = From k.link (State m)

    base_is : (after r.node (From k.link (State m))).base ≡ kept r.node.base m
    base_is = ap (λ t. cond t (cond (is_newer r.node.base m) (kept r.node.base m) r.node.base) r.node.base) router ∙ ap (λ t. cond t (kept r.node.base m) r.node.base) newer

    -- the world where the message is still on the wire
    abbrev kept_world : WorldState
    kept_world = sending w a r (From k.link (State m)) tag

    abbrev handled_world : WorldState
    handled_world = sending (with_ends w after_pop) a r (From k.link (State m)) tag

    foreign : is_named m.id a ≡ false
    foreign = ap (λ q. is_named m.id q) (sym (sound.own a r found)) ∙ (newer_is r.node.base m newer).0

    table_is : (z : Name) → table_of kept_world a z ≡ cond (is_named m.id z) (note_of m).known (table_of w a z)
    table_is z =
        table_here w a r found (From k.link (State m)) tag z ∙ ap (λ c. known_of c z) base_is ∙ known_kept r.node.base m z
        ∙ ap (λ o. cond (is_named m.id z) (note_of m).known (knows o z)) (sym found)

    kept_on : Spreads h.made (feeds_of w) (lane_of kept_world)
    kept_on = takes_kept h.made (feeds_of w) a b (note_of m) (lane_of w) (lane_of kept_world) h.spreads (record {
      others = λ x z other. table_other w a r found (From k.link (State m)) tag x z other;
      table = table_is;
      apart = sound.apart a b (ap is_some at_end);
      foreign = foreign;
      newer = let same : (table_of w a m.id).number ≡ (known_of r.node.base m.id).number = ap (λ o. (knows o m.id).number) found in omega (arith, same, (newer_is r.node.base m newer).1);
      rest = way_of notes_in after_pop b a;
      first = popped_way notes_in w.ends a b s at_end (State m) tag xs front b a ∙ ap (λ t. cond t (notes_in (State m)) [] ++ way_of notes_in after_pop b a) (ends.refl (a, b));
      sent = sent_at notes_in w a r (From k.link (State m)) tag;
      sends = way_sent notes_in w a r (From k.link (State m)) tag;
      silent = way_other notes_in w a r (From k.link (State m)) tag;
      sent_of = of_table w a r found (From k.link (State m)) tag (order_after r.node (From k.link (State m)) (h.in_order a r found));
      tells = tells;
    })
      where
        tells : (y : Name) → feeds_of w m.id a y ≡ true → is_named b y ≡ false → m.seq + 1 ≤ best m.id (sent_at notes_in w a r (From k.link (State m)) tag y)
        tells y f other =
            let parts = and_parts (there_in w y) (is_up w.ends (a, y) && is_unbroken w.ends (a, y)) f in
            let up = (and_parts (is_up w.ends (a, y)) (is_unbroken w.ends (a, y)) parts.1).0 in
            let sent : sent_at notes_in w a r (From k.link (State m)) tag y ≡ note_of m ∷ [] =
            sent_there notes_in w a r (From k.link (State m)) tag y (passes_there (λ e. e.up) w.ends (a, y) up)
            ∙ (state_tells r.node (there_in w) known_links k it.0 (sym (leads_is (there_in w) r.node.links known_links k it.0) ∙ router) m newer y (sound.links a y r found ∙ up) parts.0
            (ap (λ q. is_named q y) it.1 ∙ other)) in
            let count : best m.id (sent_at notes_in w a r (From k.link (State m)) tag y) ≡ best m.id (note_of m ∷ []) = ap (best m.id) sent in
            omega (arith, count, best_head (note_of m) [])

    pub news_handled : Holds handled_world
    news_handled = record {
      made = h.made;
      spreads = drops_kept h.made (feeds_of w) (feeds_of handled_world) (lane_of kept_world) (lane_of handled_world) kept_on (record {
        tables = λ x z. tables x z;
        part = λ x y. record { before = cond (is_end (a, b) (y, x)) (note_of m ∷ []) []; after = []; whole = way x y ∙ ap (λ z. cond (is_end (a, b) (y, x)) (note_of m ∷ []) [] ++ z) (sym (append-nil (way_of notes_in handled_world.ends x y))) };
        dropped = λ x y z f. (sym (feeds x y z) ∙ f, dropped x y z);
      });
      lists = λ z y. ap (λ (q : Known Links). has (linked_ids q.value) y) (own_is z) ∙ h.lists z y ∙ sym (ap (λ t. t && is_up handled_world.ends (z, y)) (there_is y) ∙ ap (λ t. there_in w y && t) (up_is (z, y)));
      weighs = λ z y. ap (λ (q : Known Links). weight_to q.value y) (own_is z) ∙ h.weighs z y ∙ sym (ap (λ t. cond t (up_weight handled_world.ends (z, y)) 0) (there_is y) ∙ ap (λ n. cond (there_in w y) n 0) (weight_is (z, y)));
      in_order = order_heard (with_ends w after_pop) a r found (From k.link (State m)) tag h.in_order;
      twins = λ x y some there. some_is (y, x) ∙ h.twins x y (sym (some_is (x, y)) ∙ some) (sym (there_is y) ∙ there);
    }
      where
        there_is : (y : Name) → there_in handled_world y ≡ there_in w y
        there_is y = there_heard (with_ends w after_pop) a r found (From k.link (State m)) tag y

        up_is : (q : End) → is_up handled_world.ends q ≡ is_up w.ends q
        up_is q = up_heard (with_ends w after_pop) a r found (From k.link (State m)) tag q ∙ keep_popped w.ends a b s at_end (State m) tag xs up_at refl q

        weight_is : (q : End) → up_weight handled_world.ends q ≡ up_weight w.ends q
        weight_is q = up_weight_heard (with_ends w after_pop) a r found (From k.link (State m)) tag q ∙ keep_popped w.ends a b s at_end (State m) tag xs up_weight_at refl q

        unbroken_is : (q : End) → is_unbroken handled_world.ends q ≡ is_unbroken w.ends q
        unbroken_is q = unbroken_heard (with_ends w after_pop) a r found (From k.link (State m)) tag q ∙ keep_popped w.ends a b s at_end (State m) tag xs unbroken_at refl q

        some_is : (q : End) → is_some (end_of handled_world.ends q) ≡ is_some (end_of w.ends q)
        some_is q = some_heard (with_ends w after_pop) a r found (From k.link (State m)) tag q ∙ keep_popped w.ends a b s at_end (State m) tag xs is_some refl q

        feeds : (x y z : Name) → feeds_of handled_world z x y ≡ feeds_of w z x y
        feeds x y z = ap (λ t. t && (is_up handled_world.ends (x, y) && is_unbroken handled_world.ends (x, y))) (there_is y)
            ∙ ap (λ t. there_in w y && (t && is_unbroken handled_world.ends (x, y))) (up_is (x, y)) ∙ ap (λ t. there_in w y && (is_up w.ends (x, y) && t)) (unbroken_is (x, y))

        tables : (x z : Name) → table_of handled_world x z ≡ table_of kept_world x z
        tables x z = table_heard (with_ends w after_pop) a r found (From k.link (State m)) tag x z ∙ sym (table_heard w a r found (From k.link (State m)) tag x z)

        own_is : (z : Name) → table_of handled_world z z ≡ table_of w z z
        own_is z = tables z z ∙ at_name a (λ q. table_of kept_world q q ≡ table_of w q q)
            (table_is a ∙ ap (λ t. cond t (note_of m).known (table_of w a a)) foreign) (λ q other. table_other w a r found (From k.link (State m)) tag q q other) z

        way : (x y : Name) → way_of notes_in kept_world.ends x y ≡ cond (is_end (a, b) (y, x)) (note_of m ∷ []) [] ++ way_of notes_in handled_world.ends x y
        way x y = handled_way notes_in w a r (From k.link (State m)) b s at_end (State m) tag xs front x y

        dropped : (x y z : Name) → best z (way_of notes_in kept_world.ends x y) ≤ max (table_of kept_world y z).number (best z (way_of notes_in handled_world.ends x y))
        dropped x y z =
            let e : best z (way_of notes_in kept_world.ends x y) ≡ max (best z (cond (is_end (a, b) (y, x)) (note_of m ∷ []) [])) (best z (way_of notes_in handled_world.ends x y)) =
            ap (best z) (way x y) ∙ best_append z (cond (is_end (a, b) (y, x)) (note_of m ∷ []) []) (way_of notes_in handled_world.ends x y) in
            omega (arith, e, left (is_end (a, b) (y, x)) refl)
          where
            here : (t : Bool) → is_named m.id z ≡ t → max (cond t (m.seq + 1) 0) 0 ≤ (cond t (note_of m).known (table_of w a z)).number
            here true e = omega arith
            here false e = omega arith

            left : (t : Bool) → is_end (a, b) (y, x) ≡ t → best z (cond t (note_of m ∷ []) []) ≤ (table_of kept_world y z).number
            left false e = omega arith
            left true e = subst (λ (q : End). best z (note_of m ∷ []) ≤ (table_of kept_world q.0 z).number) (same_end (a, b) (y, x) e)
                (let same : (table_of kept_world a z).number ≡ (cond (is_named m.id z) (note_of m).known (table_of w a z)).number = ap (λ (q : Known Links). q.number) (table_is z) in
                omega (arith, same, here (is_named m.id z) refl))
