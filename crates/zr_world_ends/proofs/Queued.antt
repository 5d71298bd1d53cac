-- What a router has sent, queued message by message, is at each of its ends what the event sends to that neighbour, and behind it what the
-- neighbour is told: both lists of ends have the same keys, and a look-up finds the same (`look_up`), since a number and a name find the same link (`leads_is`).
use Rattle.std.proofs.Common.{◌≡◌, ℕ, Bool, true, false, cond, List, [], ◌∷◌, ◌++◌, map, filter, Option, Some, None, refl, sym, ap, ◌∙◌, subst, append_assoc}
use Rattle.std.specs.Prelude.{◌==◌, ◌&&◌, is_some}
use Rattle.std.specs.List.Sorted.{IsStrictlySortedBy}
use Rattle.std.specs.Map.{keys_of}
use Rattle.std.specs.Option.{option_map, option_map_or}
use Rattle.std.proofs.lemmas.Bool.{false≢true, eqb-true, eq-eqb}
use Rattle.std.proofs.lemmas.List.{append-nil, map-append}
use Rattle.zr_lists.proofs.Truths.{same_test}
use Rattle.zr_id.specs.Zid.{is_named}
use Rattle.zr_id.specs.declared.link.LinkNo.{LinkNo}
use Rattle.zr_msg.specs.declared.msg.Msg.{Msg}
use Rattle.zr_msg.specs.declared.event.Event.{Event}
use Rattle.zr_node_spec.specs.Event.{on_link}
use Rattle.zr_node_spec.specs.Tables.{is_link, link_at, link_to}
use Rattle.zr_msg.specs.declared.peer.LinkPeer.{LinkPeer}
use Rattle.zr_node_spec.specs.Table.{after}
use Rattle.zr_told_spec.specs.Hub.{hub_sends, HubSends}
use Rattle.zr_lists.proofs.Finds.{find_in, in_find}
use Rattle.zr_lists.proofs.Elements.{each_in}
use Rattle.zr_world_spec.specs.World.{Tagged, RouterState, EndState, End, Ends, end_cmp, end_of, changed, queued}
use Rattle.zr_world_spec.specs.Acts.{sends_to, all_queued, told_to, all_told, hub_of}
use Rattle.zr_world_spec.specs.Sound.{AreUnique}
use Rattle.zr_world_spec.proofs.Names.{names, same_name}
use Rattle.zr_world_spec.proofs.Ends.{end_parts, changed_is, keys_changed, waiting_is, keys_waiting, all_queued_is, keys_all_queued}
use Rattle.zr_world_spec.proofs.Links.{numbered_link, named_link}
use Rattle.zr_world_ends.proofs.Same.{same_ends}
use Rattle.zr_world_ends.specs.Spread.{queued_on, all_queued_on}

-- ---- links and neighbours

-- whether the link of a number is up and leads to a neighbour
abbrev leads : List LinkPeer → List ℕ → LinkNo → Bool
leads links y link = option_map_or (λ l. is_named l.peer.id y) (link_at links link.0) false

-- of two links that are found by one number, or that lead to one neighbour, the one is the other
leads_is : (links : List LinkPeer) (y : List ℕ) (l : LinkPeer) → AreUnique links → link_to links y ≡ Some l → (n : LinkNo) → leads links y n ≡ (n.0 == l.link.0)
leads_is links y l h found n = by (link_at links n.0) refl
  where
    by : (o : Option LinkPeer) → link_at links n.0 ≡ o → option_map_or (λ k. is_named k.peer.id y) o false ≡ (n.0 == l.link.0)
    by None e = same_test false (n.0 == l.link.0) (λ k. absurd (false≢true k))
        (λ k. ap is_some (sym e ∙ ap (link_at links) (eqb-true n.0 l.link.0 k) ∙ numbered_link links h y l found))
    by (Some k) e = same_test (is_named k.peer.id y) (n.0 == l.link.0) there back
      where
        there : is_named k.peer.id y ≡ true → (n.0 == l.link.0) ≡ true
        there same =
            let i = find_in (is_link n.0) links k e in
            let one : Some k ≡ Some l = sym (each_in _ links k h.names i.0) ∙ ap (link_to links) (same_name k.peer.id y same) ∙ found in
            let is : k ≡ l = cc in
            eq-eqb n.0 l.link.0 (sym (eqb-true k.link.0 n.0 i.1) ∙ ap (λ (z : LinkPeer). z.link.0) is)

        back : (n.0 == l.link.0) ≡ true → is_named k.peer.id y ≡ true
        back same =
            let one : Some k ≡ Some l = sym e ∙ ap (link_at links) (eqb-true n.0 l.link.0 same) ∙ numbered_link links h y l found in
            let is : k ≡ l = cc in
            ap (λ (z : LinkPeer). is_named z.peer.id y) is ∙ ap (λ z. is_named z y) (named_link links y l found) ∙ names.refl y

leads_none : (links : List LinkPeer) (y : List ℕ) → link_to links y ≡ None → (n : LinkNo) → leads links y n ≡ false
leads_none links y none n = by (link_at links n.0) refl
  where
    by : (o : Option LinkPeer) → link_at links n.0 ≡ o → option_map_or (λ k. is_named k.peer.id y) o false ≡ false
    by None e = refl
    by (Some k) e = same_test (is_named k.peer.id y) false there (λ b. absurd (false≢true b))
      where
        there : is_named k.peer.id y ≡ true → false ≡ true
        there same =
            let f = in_find (λ l. is_named l.peer.id y) links k (find_in (is_link n.0) links k e).0 same in
            ap is_some (sym none ∙ f.1)

-- ---- the messages for a neighbour

abbrev told : List LinkPeer → List ℕ → List (LinkNo × Msg) → List Msg
told links y sent = map (λ m. m.1) (filter (λ m. leads links y m.0) sent)

alike : (p q : LinkNo × Msg → Bool) (xs : List (LinkNo × Msg)) → ((m : LinkNo × Msg) → p m ≡ q m) → filter p xs ≡ filter q xs
alike p q [] h = refl
alike p q (x ∷ xs) h = ap (λ b. cond b (x ∷ filter p xs) (filter p xs)) (h x) ∙ ap (λ (z : List (LinkNo × Msg)). cond (q x) (x ∷ z) z) (alike p q xs h)

none_of : (xs : List (LinkNo × Msg)) → filter (λ m. false) xs ≡ []
none_of [] = refl
none_of (x ∷ xs) = none_of xs

told_is : (links : List LinkPeer) (rows : LinkNo → List Msg) (sent : List (LinkNo × Msg)) → AreUnique links → ((to : LinkNo) → on_link to sent ≡ rows to) →
    (y : List ℕ) → told links y sent ≡ option_map_or (λ l. rows l.link) (link_to links y) []
told_is links rows sent h each y = by (link_to links y) refl
  where
    by : (o : Option LinkPeer) → link_to links y ≡ o → told links y sent ≡ option_map_or (λ l. rows l.link) o []
    by None e = ap (λ (z : List (LinkNo × Msg)). map (λ m. m.1) z)
        (alike (λ m. leads links y m.0) (λ m. false) sent (λ m. leads_none links y e m.0) ∙ none_of sent)
    by (Some l) e = ap (λ (z : List (LinkNo × Msg)). map (λ m. m.1) z)
        (alike (λ m. leads links y m.0) (λ m. m.0.0 == l.link.0) sent (λ m. leads_is links y l h e m.0))
        ∙ each l.link

-- ---- what a look-up finds

module _ (links : List LinkPeer) (x : List ℕ) (tag : ℕ) where
  abbrev more : List Msg → EndState → EndState
  more ms s = queued s ms tag

  queued_nothing : (o : Option EndState) → option_map (more []) o ≡ o
  queued_nothing None = refl
  queued_nothing (Some s) = ap (λ z. Some (record { up = s.up; unbroken = s.unbroken; queue = z; wire = s.wire; weight = s.weight })) (append-nil s.queue)

  queued_more : (m : Msg) (ms : List Msg) (o : Option EndState) → option_map (more ms) (option_map (more (m ∷ [])) o) ≡ option_map (more (m ∷ ms)) o
  queued_more m ms None = refl
  queued_more m ms (Some s) = ap (λ z. Some (record { up = s.up; unbroken = s.unbroken; queue = z; wire = s.wire; weight = s.weight }))
      (append_assoc s.queue (record { msg = m; tag = tag } ∷ []) (map (λ n. record { msg = n; tag = tag }) ms))

  pub keys_queued_on : (es : Ends) (m : LinkNo × Msg) → keys_of (queued_on links es x m.0 m.1 tag) ≡ keys_of es
  keys_queued_on es m = by (link_at links m.0.0)
    where
      by : (o : Option LinkPeer) → keys_of (option_map_or (λ l. changed es (x, l.peer.id) (more (m.1 ∷ []))) o es) ≡ keys_of es
      by None = refl
      by (Some l) = keys_changed es (x, l.peer.id) (more (m.1 ∷ []))

  keys_all_queued_on : (es : Ends) (sent : List (LinkNo × Msg)) → keys_of (all_queued_on links es x sent tag) ≡ keys_of es
  keys_all_queued_on es [] = refl
  keys_all_queued_on es (m ∷ ms) = keys_all_queued_on (queued_on links es x m.0 m.1 tag) ms ∙ keys_queued_on es m

  look_up : (es : Ends) (sent : List (LinkNo × Msg)) (q : End) →
      end_of (all_queued_on links es x sent tag) q ≡ cond (is_named x q.0) (option_map (more (told links q.1 sent)) (end_of es q)) (end_of es q)
  look_up es [] q = by (is_named x q.0)
    where
      by : (b : Bool) → end_of es q ≡ cond b (option_map (more []) (end_of es q)) (end_of es q)
      by true = sym (queued_nothing (end_of es q))
      by false = refl
  look_up es (m ∷ ms) q = look_up (queued_on links es x m.0 m.1 tag) ms q ∙ by (link_at links m.0.0)
    where
      old : Option EndState
      old = end_of es q

      by : (o : Option LinkPeer) →
          cond (is_named x q.0) (option_map (more (told links q.1 ms)) (end_of (option_map_or (λ l. changed es (x, l.peer.id) (more (m.1 ∷ []))) o es) q))
          (end_of (option_map_or (λ l. changed es (x, l.peer.id) (more (m.1 ∷ []))) o es) q)
          ≡ cond (is_named x q.0) (option_map (more (map (λ n. n.1) (cond (option_map_or (λ l. is_named l.peer.id q.1) o false) (m ∷ filter (λ n. leads links q.1 n.0) ms)
          (filter (λ n. leads links q.1 n.0) ms)))) (end_of es q)) (end_of es q)
      by None = refl
      by (Some l) =
          ap (λ z. cond (is_named x q.0) (option_map (more (told links q.1 ms)) z) z)
          (changed_is es (x, l.peer.id) (more (m.1 ∷ [])) q
          ∙ ap (λ b. cond b (option_map (more (m.1 ∷ [])) (end_of es q)) (end_of es q)) (end_parts (x, l.peer.id) q))
          ∙ at (is_named x q.0) (is_named l.peer.id q.1)
        where
          at : (b c : Bool) →
              cond b (option_map (more (told links q.1 ms)) (cond (b && c) (option_map (more (m.1 ∷ [])) (end_of es q)) (end_of es q)))
              (cond (b && c) (option_map (more (m.1 ∷ [])) (end_of es q)) (end_of es q))
              ≡ cond b (option_map (more (map (λ n. n.1) (cond c (m ∷ filter (λ n. leads links q.1 n.0) ms) (filter (λ n. leads links q.1 n.0) ms)))) (end_of es q)) (end_of es q)
          at false c = refl
          at true false = refl
          at true true = queued_more m.1 (told links q.1 ms) (end_of es q)

-- ---- all of it

-- what waits for a neighbour is what the router sends it, and then what it is told
sent_and_told : (r : RouterState) (event : Event) (y : List ℕ) →
    option_map_or (λ l. hub_sends (hub_of r) event l.link) (link_to (after r.node event).links y) [] ≡ sends_to r.node event y ++ told_to r event y
sent_and_told r event y = by (link_to (after r.node event).links y) refl
  where
    by : (o : Option LinkPeer) → link_to (after r.node event).links y ≡ o → option_map_or (λ l. hub_sends (hub_of r) event l.link) o [] ≡ sends_to r.node event y ++ told_to r event y
    by None e = rw e refl
    by (Some l) e = rw e refl

-- messages of one tag are queued at once or one list after another
queued_twice : (b : Bool) (ms ns : List Msg) (tag : ℕ) (o : Option EndState) →
    cond b (option_map (λ (z : EndState). queued z (ms ++ ns) tag) o) o
    ≡ cond b (option_map (λ (z : EndState). queued z ns tag) (cond b (option_map (λ (z : EndState). queued z ms tag) o) o)) (cond b (option_map (λ (z : EndState). queued z ms tag) o) o)
queued_twice false ms ns tag o = refl
queued_twice true ms ns tag None = refl
queued_twice true ms ns tag (Some s) = ap (λ (ws : List Tagged). Some (record { up = s.up; unbroken = s.unbroken; queue = ws; wire = s.wire; weight = s.weight }))
    (ap (λ z. s.queue ++ z) (map-append (λ m. record { msg = m; tag = tag }) ms ns) ∙ sym (append_assoc s.queue (map (λ m. record { msg = m; tag = tag }) ms) (map (λ m. record { msg = m; tag = tag }) ns)))

pub spread_is : (es : Ends) (x : List ℕ) (r : RouterState) (event : Event) (sent : List (LinkNo × Msg)) (tag : ℕ) → IsStrictlySortedBy end_cmp (keys_of es) →
    AreUnique (after r.node event).links → HubSends (hub_of r) event [] sent → all_queued_on (after r.node event).links es x sent tag ≡ all_told (all_queued es x r.node event tag) x r event tag
spread_is es x r event sent tag ordered h s =
    same_ends (all_queued_on links es x sent tag) (all_told queue x r event tag)
    (keys_all_queued_on links x tag es sent ∙ sym (keys_waiting queue x (told_to r event) tag ∙ keys_all_queued es x r.node event tag))
    (subst (IsStrictlySortedBy end_cmp) (sym (keys_all_queued_on links x tag es sent)) ordered)
    (λ q. look_up links x tag es sent q
    ∙ ap (λ (ms : List Msg). cond (is_named x q.0) (option_map (λ (z : EndState). queued z ms tag) (end_of es q)) (end_of es q))
    (told_is links (λ to. hub_sends (hub_of r) event to) sent h each q.1 ∙ sent_and_told r event q.1)
    ∙ queued_twice (is_named x q.0) (sends_to r.node event q.1) (told_to r event q.1) tag (end_of es q)
    ∙ ap (λ (o : Option EndState). cond (is_named x q.0) (option_map (λ (z : EndState). queued z (told_to r event q.1) tag) o) o) (sym (all_queued_is es x r.node event tag q))
    ∙ sym (waiting_is queue x (told_to r event) tag q))
  where
    links : List LinkPeer
    links = (after r.node event).links

    queue : Ends
    queue = all_queued es x r.node event tag

    each : (to : LinkNo) → on_link to sent ≡ hub_sends (hub_of r) event to
    each to = ap (λ (z : List (LinkNo × Msg)). on_link to z) s.appended ∙ s.each to
