-- What a router that hears of an event adds to the replies of its world: no more than what came (`heard_weighs`). What it sends waits at its ends, at
-- each that leads there, and so each reply at one end.
use Rattle.std.proofs.Common.{◌≡◌, ◌≤◌, ◌+◌, ℕ, ◌==◌, Bool, true, false, cond, List, [], ◌∷◌, map, Option, Some, None, Less, refl, sym, ap, ◌∙◌, arith}
use Rattle.std.specs.Prelude.{is_some}
use Rattle.std.specs.List.{AllByRecursion, flat_map, list_all, sum_by}
use Rattle.std.specs.List.Sorted.{IsStrictlySortedBy}
use Rattle.std.specs.Map.{keys_of}
use Rattle.std.specs.Ordering.{is_eq}
use Rattle.std.specs.Option.{option_map_or}
use Rattle.std.proofs.lemmas.Bool.{false≢true, and_parts, eqb-true}
use Rattle.std.proofs.lemmas.List.Sums.{sum_by-cons, sum_by-append, sum_by-le-sum_by}
use Rattle.std.proofs.lemmas.Map.Keys.{sorted_head, sorted_tail}
use Rattle.zr_id.specs.Zid.{is_named}
use Rattle.zr_id.specs.declared.link.LinkNo.{LinkNo}
use Rattle.zr_msg.specs.declared.content.Parts.{Parts}
use Rattle.zr_msg.specs.declared.event.Event.{Event}
use Rattle.zr_msg.specs.declared.msg.Msg.{Msg}
use Rattle.zr_msg.specs.declared.msg.Msg.TheVariants.{Sub, Unsub, Token, Untoken, Able, Unable, Interest, EndInterest, ToldSub, ToldAble, ToldUnsub, ToldToken, ToldUntoken, ToldUnable, ToldEnd, Push, Request, Response, Final, State, Step, Snap}
use Rattle.zr_msg.specs.declared.peer.LinkPeer.{LinkPeer}
use Rattle.zr_pend_spec.specs.Held.{reply_weight, held_weight}
use Rattle.zr_node_spec.specs.Tables.{link_at, link_to}
use Rattle.zr_node_spec.specs.State.{NodeState}
use Rattle.zr_node_spec.specs.Table.{sends, after}
use Rattle.zr_world_spec.specs.World.{Tagged, RouterState, EndState, End, Ends, WorldState, with_ends, with_routers, with_router, router_of, end_cmp, is_end, queued}
use Rattle.zr_world_spec.specs.Acts.{sends_to, waiting, all_queued, told_to, having_told, all_told, heard}
use Rattle.zr_world_spec.specs.Sound.{AreUnique}
use Rattle.zr_world_spec.proofs.Names.{names, same_name, value_after}
use Rattle.zr_world_spec.proofs.Ends.{ends}
use Rattle.zr_world_spec.proofs.Links.{named_link, numbered_link}
use Rattle.zr_world_spec.proofs.Telling.{is_told, heard_is, told_alone}
use Rattle.zr_law_settled.proofs.Told.{by_told}
use Rattle.zr_law_settled.proofs.Spreading.{Name}
use Rattle.zr_law_held.specs.Weights.{tagged_weight, waiting_weight, replies_weight}
use Rattle.zr_law_held.proofs.Sums.{total, total_set}
use Rattle.zr_law_held.proofs.Carries.{Sending, over_link, sent_weight, contents_in, came, Carries}

-- ---- messages

abbrev pub msg_weight : Msg → ℕ
msg_weight msg = sum_by reply_weight (contents_in msg)

abbrev pub msgs_weight : List Msg → ℕ
msgs_weight msgs = sum_by msg_weight msgs

-- its line is of no matter to what a message weighs
pub tagged_weighs : (msg : Msg) (tag : ℕ) → tagged_weight (record { msg = msg; tag = tag }) ≡ msg_weight msg
tagged_weighs (Sub id key) tag = refl
tagged_weighs (Unsub id) tag = refl
tagged_weighs (Token id key) tag = refl
tagged_weighs (Untoken id) tag = refl
tagged_weighs (Able id key complete) tag = refl
tagged_weighs (Unable id) tag = refl
tagged_weighs (Interest id current future kinds key aggregate) tag = refl
tagged_weighs (EndInterest id) tag = refl
tagged_weighs (ToldSub id key interest) tag = refl
tagged_weighs (ToldToken id key interest) tag = refl
tagged_weighs (ToldAble id key complete interest) tag = refl
tagged_weighs (ToldUnsub id) tag = refl
tagged_weighs (ToldUntoken id) tag = refl
tagged_weighs (ToldUnable id) tag = refl
tagged_weighs (ToldEnd interest) tag = refl
tagged_weighs (Push tree content) tag = refl
tagged_weighs (Request tree id target content) tag = refl
tagged_weighs (Response id content) tag = omega (arith, sum_by-cons reply_weight content [])
tagged_weighs (Final id extras) tag = refl
tagged_weighs (State links) tag = refl
tagged_weighs (Step source number added decl) tag = refl
tagged_weighs (Snap source number decls) tag = refl

-- what tells clients of others' declarations weighs nothing
told_is_light : (msg : Msg) → is_told msg ≡ true → msg_weight msg ≡ 0
told_is_light msg e = by_told (λ m. msg_weight m ≡ 0) (λ id key interest. refl) (λ id key interest. refl) (λ id key complete interest. refl) (λ id. refl) (λ id. refl) (λ id. refl) (λ interest. refl) msg e

told_are_light : (msgs : List Msg) → list_all is_told msgs ≡ true → msgs_weight msgs ≡ 0
told_are_light [] e = refl
told_are_light (m ∷ msgs) e =
    let parts = and_parts (is_told m) (list_all is_told msgs) e in
    omega (arith, sum_by-cons msg_weight m msgs, told_is_light m parts.0, told_are_light msgs parts.1)

contents_weigh : (msgs : List Msg) → msgs_weight msgs ≡ sum_by reply_weight (flat_map contents_in msgs)
contents_weigh [] = refl
contents_weigh (m ∷ msgs) = omega (arith, sum_by-cons msg_weight m msgs, sum_by-append reply_weight (contents_in m) (flat_map contents_in msgs), contents_weigh msgs)

-- ---- messages that wait

tagged_all : (msgs : List Msg) (tag : ℕ) → sum_by tagged_weight (map (λ m. record { msg = m; tag = tag }) msgs) ≡ msgs_weight msgs
tagged_all [] tag = refl
tagged_all (m ∷ msgs) tag =
    let rest : List Tagged = map (λ m. record { msg = m; tag = tag }) msgs in
    omega (arith, sum_by-cons tagged_weight (record { msg = m; tag = tag }) rest, sum_by-cons msg_weight m msgs, tagged_weighs m tag, tagged_all msgs tag)

queued_weighs : (s : EndState) (msgs : List Msg) (tag : ℕ) → waiting_weight (queued s msgs tag) ≡ waiting_weight s + msgs_weight msgs
queued_weighs s msgs tag = omega (arith, sum_by-append tagged_weight s.queue (map (λ m. record { msg = m; tag = tag }) msgs), tagged_all msgs tag)

-- what is added at the ends of a router, by the neighbour
abbrev at_own : Name → (Name → ℕ) → End × EndState → ℕ
at_own x w e = cond (is_named x e.0.0) (w e.0.1) 0

abbrev added : Name → (Name → ℕ) → Ends → ℕ
added x w es = sum_by (at_own x w) es

waiting_weighs : (es : Ends) (x : Name) (msgs : Name → List Msg) (tag : ℕ) → total waiting_weight (waiting es x msgs tag) ≡ total waiting_weight es + added x (λ y. msgs_weight (msgs y)) es
waiting_weighs [] x msgs tag = refl
waiting_weighs (e ∷ es) x msgs tag = by (is_named x e.0.0) refl (waiting_weighs es x msgs tag)
  where
    by : (b : Bool) → is_named x e.0.0 ≡ b → total waiting_weight (waiting es x msgs tag) ≡ total waiting_weight es + added x (λ y. msgs_weight (msgs y)) es →
        total waiting_weight (cond b (e.0, queued e.1 (msgs e.0.1) tag) e ∷ waiting es x msgs tag) ≡ total waiting_weight (e ∷ es) + added x (λ y. msgs_weight (msgs y)) (e ∷ es)
    by true k ih =
        let here : at_own x (λ y. msgs_weight (msgs y)) e ≡ msgs_weight (msgs e.0.1) = ap (λ b. cond b (msgs_weight (msgs e.0.1)) 0) k in
        omega (
          arith,
          sum_by-cons (λ (z : End × EndState). waiting_weight z.1) (e.0, queued e.1 (msgs e.0.1) tag) (waiting es x msgs tag),
          sum_by-cons (λ (z : End × EndState). waiting_weight z.1) e es,
          sum_by-cons (at_own x (λ y. msgs_weight (msgs y))) e es,
          queued_weighs e.1 (msgs e.0.1) tag,
          here,
          ih,
        )
    by false k ih =
        let none : at_own x (λ y. msgs_weight (msgs y)) e ≡ 0 = ap (λ b. cond b (msgs_weight (msgs e.0.1)) 0) k in
        omega (
          arith,
          sum_by-cons (λ (z : End × EndState). waiting_weight z.1) e (waiting es x msgs tag),
          sum_by-cons (λ (z : End × EndState). waiting_weight z.1) e es,
          sum_by-cons (at_own x (λ y. msgs_weight (msgs y))) e es,
          none,
          ih,
        )

added_none : (x : Name) (w : Name → ℕ) → ((y : Name) → w y ≡ 0) → (es : Ends) → added x w es ≡ 0
added_none x w none [] = refl
added_none x w none (e ∷ es) = omega (arith, sum_by-cons (at_own x w) e es, by (is_named x e.0.0), added_none x w none es)
  where
    by : (b : Bool) → cond b (w e.0.1) 0 ≡ 0
    by true = none e.0.1
    by false = refl

-- ---- each message is for one end

module _ (x : Name) (leads : LinkNo → Name → Bool) (one : (l : LinkNo) (y z : Name) → leads l y ≡ true → leads l z ≡ true → y ≡ z) where
  abbrev for_name : LinkNo × Parts → Name → ℕ
  for_name p y = cond (leads p.0 y) (reply_weight p.1) 0

  abbrev at_end : LinkNo × Parts → End × EndState → ℕ
  at_end p e = cond (is_named x e.0.0) (cond (leads p.0 e.0.1) (reply_weight p.1) 0) 0

  -- behind the end of which it is one there is no other
  nowhere : (es : Ends) (p : LinkNo × Parts) (e : End) → is_named x e.0 ≡ true → leads p.0 e.1 ≡ true → AllByRecursion (λ k. end_cmp e k ≡ Less) (keys_of es) → sum_by (at_end p) es ≡ 0
  nowhere [] p e i j less = refl
  nowhere (f ∷ es) p e i j less = by (is_named x f.0.0) refl (leads p.0 f.0.1) refl (nowhere es p e i j less.1)
    where
      other : is_named x f.0.0 ≡ true → leads p.0 f.0.1 ≡ true → ⊥
      other k l =
          let first : e.0 ≡ f.0.0 = sym (same_name x e.0 i) ∙ same_name x f.0.0 k in
          let second : e.1 ≡ f.0.1 = one p.0 e.1 f.0.1 j l in
          let both : e ≡ f.0 = λ i. (first i, second i) in
          absurd (false≢true (sym (ap is_eq less.0) ∙ ap (λ z. is_end e z) (sym both) ∙ ends.refl e))

      by : (s : Bool) → is_named x f.0.0 ≡ s → (t : Bool) → leads p.0 f.0.1 ≡ t → sum_by (at_end p) es ≡ 0 → sum_by (at_end p) (f ∷ es) ≡ 0
      by true k true l ih = absurd (other k l)
      by true k false l ih = let z : at_end p f ≡ 0 = (λ i. cond (k i) (cond (l i) (reply_weight p.1) 0) 0) in omega (arith, sum_by-cons (at_end p) f es, z, ih)
      by false k t l ih = let z : at_end p f ≡ 0 = ap (λ b. cond b (cond (leads p.0 f.0.1) (reply_weight p.1) 0) 0) k in omega (arith, sum_by-cons (at_end p) f es, z, ih)

  once : (es : Ends) (p : LinkNo × Parts) → IsStrictlySortedBy end_cmp (keys_of es) → sum_by (at_end p) es ≤ reply_weight p.1
  once [] p sorted = omega arith
  once (e ∷ es) p sorted = by (is_named x e.0.0) refl (leads p.0 e.0.1) refl (once es p (sorted_tail end_cmp e.0 (keys_of es) sorted))
    where
      by : (s : Bool) → is_named x e.0.0 ≡ s → (t : Bool) → leads p.0 e.0.1 ≡ t → sum_by (at_end p) es ≤ reply_weight p.1 → sum_by (at_end p) (e ∷ es) ≤ reply_weight p.1
      by true k true l ih =
          let here : at_end p e ≡ reply_weight p.1 = (λ i. cond (k i) (cond (l i) (reply_weight p.1) 0) 0) in
          omega (arith, sum_by-cons (at_end p) e es, here, nowhere es p e.0 k l (sorted_head end_cmp e.0 (keys_of es) sorted))
      by true k false l ih = let z : at_end p e ≡ 0 = (λ i. cond (k i) (cond (l i) (reply_weight p.1) 0) 0) in omega (arith, sum_by-cons (at_end p) e es, z, ih)
      by false k t l ih = let z : at_end p e ≡ 0 = ap (λ b. cond b (cond (leads p.0 e.0.1) (reply_weight p.1) 0) 0) k in omega (arith, sum_by-cons (at_end p) e es, z, ih)

  -- what some messages weigh that lead to a neighbour
  abbrev all_for : Sending → Name → ℕ
  all_for sent y = sum_by (λ p. for_name p y) sent

  split : (p : LinkNo × Parts) (sent : Sending) (es : Ends) → added x (all_for (p ∷ sent)) es ≡ sum_by (at_end p) es + added x (all_for sent) es
  split p sent [] = refl
  split p sent (e ∷ es) = omega (
    arith,
    sum_by-cons (at_own x (all_for (p ∷ sent))) e es,
    sum_by-cons (at_end p) e es,
    sum_by-cons (at_own x (all_for sent)) e es,
    by (is_named x e.0.0),
    split p sent es,
  )
    where
      by : (b : Bool) → cond b (all_for (p ∷ sent) e.0.1) 0 ≡ cond b (for_name p e.0.1) 0 + cond b (all_for sent e.0.1) 0
      by true = sum_by-cons (λ (q : LinkNo × Parts). for_name q e.0.1) p sent
      by false = refl

  sent_once : (sent : Sending) (es : Ends) → IsStrictlySortedBy end_cmp (keys_of es) → added x (all_for sent) es ≤ sent_weight sent
  sent_once [] es sorted = omega (arith, added_none x (all_for []) (λ y. refl) es)
  sent_once (p ∷ sent) es sorted =
      omega (arith, split p sent es, once es p sorted, sum_by-cons (λ (q : LinkNo × Parts). reply_weight q.1) p sent, sent_once sent es sorted)

-- ---- what one event sends

module _ (node : NodeState) (event : Event) (carries : Carries node event) where
  -- the link of a number leads to a neighbour
  abbrev leads : LinkNo → Name → Bool
  leads l y = option_map_or (λ k. k.link.0 == l.0) (link_to (after node event).links y) false

  leads_to_one : AreUnique (after node event).links → (l : LinkNo) (y z : Name) → leads l y ≡ true → leads l z ≡ true → y ≡ z
  leads_to_one unique l y z i j = by (link_to links y) refl i (link_to links z) refl j
    where
      links : List LinkPeer
      links = (after node event).links

      by : (o : Option LinkPeer) → link_to (after node event).links y ≡ o → option_map_or (λ (k : LinkPeer). k.link.0 == l.0) o false ≡ true →
          (p : Option LinkPeer) → link_to (after node event).links z ≡ p → option_map_or (λ (k : LinkPeer). k.link.0 == l.0) p false ≡ true → y ≡ z
      by None e i p f j = absurd (false≢true i)
      by (Some k) e i None f j = absurd (false≢true j)
      by (Some k) e i (Some m) f j =
          let number : k.link.0 ≡ m.link.0 = eqb-true k.link.0 l.0 i ∙ sym (eqb-true m.link.0 l.0 j) in
          let found : Some k ≡ Some m = sym (numbered_link (after node event).links unique y k e) ∙ ap (link_at (after node event).links) number ∙ numbered_link (after node event).links unique z m f in
          let same : k ≡ m = cc in
          sym (named_link (after node event).links y k e) ∙ ap (λ (q : LinkPeer). q.peer.id) same ∙ named_link (after node event).links z m f

  no_sum : (sent : Sending) → sum_by (λ (p : LinkNo × Parts). 0) sent ≡ 0
  no_sum [] = refl
  no_sum (p ∷ sent) = omega (arith, sum_by-cons (λ (p : LinkNo × Parts). 0) p sent, no_sum sent)

  over_weighs : (l : LinkNo) (sent : Sending) → sum_by reply_weight (over_link l sent) ≡ sum_by (λ p. cond (l.0 == p.0.0) (reply_weight p.1) 0) sent
  over_weighs l [] = refl
  over_weighs l (p ∷ sent) = omega (
    arith,
    sum_by-append reply_weight (cond (l.0 == p.0.0) (p.1 ∷ []) []) (over_link l sent),
    sum_by-cons (λ (q : LinkNo × Parts). cond (l.0 == q.0.0) (reply_weight q.1) 0) p sent,
    by (l.0 == p.0.0),
    over_weighs l sent,
  )
    where
      by : (b : Bool) → sum_by reply_weight (cond b (p.1 ∷ []) []) ≡ cond b (reply_weight p.1) 0
      by true = omega (arith, sum_by-cons reply_weight p.1 [])
      by false = refl

  sends_weigh : (y : Name) → msgs_weight (sends_to node event y) ≡ sum_by (λ (p : LinkNo × Parts). cond (leads p.0 y) (reply_weight p.1) 0) carries.sent
  sends_weigh y = by (link_to (after node event).links y)
    where
      by : (o : Option LinkPeer) → msgs_weight (option_map_or (λ l. sends node event l.link) o []) ≡ sum_by (λ (p : LinkNo × Parts). cond (option_map_or (λ (k : LinkPeer). k.link.0 == p.0.0) o false) (reply_weight p.1) 0) carries.sent
      by None = sym (no_sum carries.sent)
      by (Some l) = contents_weigh (sends node event l.link) ∙ ap (sum_by reply_weight) (carries.on l.link) ∙ over_weighs l.link carries.sent

  pub queued_weigh : AreUnique (after node event).links → (x : Name) (tag : ℕ) (es : Ends) → IsStrictlySortedBy end_cmp (keys_of es) →
      total waiting_weight (all_queued es x node event tag) ≤ total waiting_weight es + sent_weight carries.sent
  queued_weigh unique x tag es sorted =
      let same : added x (λ y. msgs_weight (sends_to node event y)) es ≤ added x (all_for x leads (leads_to_one unique) carries.sent) es =
      sum_by-le-sum_by (at_own x (λ y. msgs_weight (sends_to node event y))) (at_own x (all_for x leads (leads_to_one unique) carries.sent)) es (λ e. by e.0.1 (is_named x e.0.0)) in
      omega (arith, waiting_weighs es x (sends_to node event) tag, same, sent_once x leads (leads_to_one unique) carries.sent es sorted)
    where
      by : (y : Name) (b : Bool) → cond b (msgs_weight (sends_to node event y)) 0 ≤ cond b (sum_by (λ (p : LinkNo × Parts). cond (leads p.0 y) (reply_weight p.1) 0) carries.sent) 0
      by y true = omega (arith, sends_weigh y)
      by y false = omega arith

-- ---- a router hears

-- what a router holds
abbrev pub held_in : RouterState → ℕ
held_in r = held_weight r.node.held

pub heard_weighs : (w : WorldState) (x : Name) (r : RouterState) (event : Event) (tag : ℕ) → router_of w.routers x ≡ Some r → IsStrictlySortedBy end_cmp (keys_of w.ends) → Carries r.node event →
    ((q : RouterState) → router_of (heard w x r event tag).routers x ≡ Some q → AreUnique q.node.links) → replies_weight (heard w x r event tag) ≤ replies_weight w + came event
heard_weighs w x r event tag found sorted carries unique =
    let told = waiting_weighs (all_queued w.ends x r.node event tag) x (told_to r event) tag in
    let nothing = added_none x (λ y. msgs_weight (told_to r event y)) (λ y. told_are_light (told_to r event y) (told_alone r event y)) (all_queued w.ends x r.node event tag) in
    let sent = queued_weigh r.node event carries (unique (having_told r event) now) x tag w.ends sorted in
    let held = total_set held_in (is_named x) w.routers r (having_told r event) found in
    let light = carries.light in
    let is : replies_weight (heard w x r event tag) ≡ replies_weight then = ap replies_weight (heard_is w x r event tag) in
    omega (arith, told, nothing, sent, held, light, is)
  where
    then : WorldState
    then = with_ends (with_routers w (with_router w.routers x (having_told r event))) (all_told (all_queued w.ends x r.node event tag) x r event tag)

    now : router_of (heard w x r event tag).routers x ≡ Some (having_told r event)
    now = ap (λ (v : WorldState). router_of v.routers x) (heard_is w x r event tag)
        ∙ value_after w.routers x x (having_told r event) (ap is_some found)
        ∙ ap (λ b. cond b (Some (having_told r event)) (router_of w.routers x)) (names.refl x)
