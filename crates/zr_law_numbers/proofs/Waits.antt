-- What waits from one name to another and what is kept of requests, in worlds: as routers and clients have it, and once a router has heard of an event.
use Rattle.std.proofs.Common.{◌≡◌, ℕ, Bool, true, false, cond, List, [], ◌∷◌, ◌++◌, map, Option, Some, None, is_some, refl, sym, ap, ◌∙◌, append_assoc}
use Rattle.std.specs.Prelude.{◌||◌, ◌&&◌}
use Rattle.std.specs.List.{flat_map}
use Rattle.std.specs.Option.{option_map, option_map_or, option_and_then, option_or}
use Rattle.std.proofs.Math.Bool.{or-false}
use Rattle.std.proofs.lemmas.Bool.{false≢true}
use Rattle.std.proofs.lemmas.Grind.{flat_map-append}
use Rattle.zr_lists.proofs.Options.{option_or-none}
use Rattle.zr_id.specs.Zid.{is_named}
use Rattle.zr_graph.proofs.Names.{same_refl}
use Rattle.zr_msg.specs.declared.msg.Msg.{Msg}
use Rattle.zr_msg.specs.declared.event.Event.{Event}
use Rattle.zr_msg.specs.declared.peer.LinkPeer.{LinkPeer}
use Rattle.zr_node_spec.specs.Tables.{link_to}
use Rattle.zr_node_spec.specs.Table.{sends, after}
use Rattle.zr_world_spec.specs.World.{Tagged, RouterState, ClientState, EndState, WorldState, router_of, client_of, end_of, queued}
use Rattle.zr_world_spec.specs.Acts.{has_number, sends_to, hearing, sending}
use Rattle.zr_world_spec.proofs.Names.{value_after}
use Rattle.zr_world_spec.proofs.Ends.{all_queued_is, keep_all_queued}
use Rattle.zr_law_queries.specs.Link.{Ask, Answer}
use Rattle.zr_law_numbers.specs.Waiting.{Asked, Said, Place, wire_at, queue_at, waits, asks_in, answers_in, row_kept, is_kept_by, branch_back, query_back, back_at, link_of}
use Rattle.zr_law_numbers.proofs.Leading.{link_is}

-- ---- what waits

-- what was found at an end
abbrev pub wire_of : Option EndState → List Tagged
wire_of o = option_map_or (λ s. s.wire) o []

abbrev pub queue_of : Option EndState → List Tagged
queue_of o = option_map_or (λ s. s.queue) o []

-- messages with a tag
abbrev pub tagged : ℕ → List Msg → List Tagged
tagged tag msgs = map (λ m. record { msg = m; tag = tag }) msgs

-- requests and answers among messages that wait
abbrev pub asks_among : List Tagged → List (Ask Asked)
asks_among ts = flat_map (λ t. asks_in t.tag t.msg) ts

abbrev pub answers_among : List Tagged → List (Answer Said)
answers_among ts = flat_map (λ t. answers_in t.tag t.msg) ts

pub asks_append : (ts us : List Tagged) → asks_among (ts ++ us) ≡ asks_among ts ++ asks_among us
asks_append ts us = flat_map-append (λ (t : Tagged). asks_in t.tag t.msg) ts us

pub answers_append : (ts us : List Tagged) → answers_among (ts ++ us) ≡ answers_among ts ++ answers_among us
answers_append ts us = flat_map-append (λ (t : Tagged). answers_in t.tag t.msg) ts us

pub asks_tagged : (tag : ℕ) (msgs : List Msg) → asks_among (tagged tag msgs) ≡ flat_map (λ m. asks_in tag m) msgs
asks_tagged tag [] = refl
asks_tagged tag (m ∷ msgs) = ap (λ z. asks_in tag m ++ z) (asks_tagged tag msgs)

pub answers_tagged : (tag : ℕ) (msgs : List Msg) → answers_among (tagged tag msgs) ≡ flat_map (λ m. answers_in tag m) msgs
answers_tagged tag [] = refl
answers_tagged tag (m ∷ msgs) = ap (λ z. answers_in tag m ++ z) (answers_tagged tag msgs)

-- ---- who keeps a request, and for whom a number is pending

-- what is kept, and what is pending, by what a look-up of the name found
abbrev pub router_holds : List ℕ → ℕ → Option RouterState → Bool
router_holds x n o = option_map_or (λ r. row_kept r x n) o false

abbrev pub client_holds : List ℕ → ℕ → Option ClientState → Bool
client_holds x n o = option_map_or (λ s. is_named s.router x && has_number s.requests n) o false

abbrev pub router_awaits : List ℕ → ℕ → Option RouterState → Option (Option Place)
router_awaits y n o = option_and_then (λ r. branch_back r y n) o

abbrev pub client_awaits : List ℕ → List ℕ → ℕ → Option ClientState → Option (Option Place)
client_awaits x y n o = option_and_then (λ s. query_back s x y n) o

module _ (w : WorldState) where
  -- of a router
  pub router_keeps : (x y : List ℕ) (r : RouterState) → router_of w.routers y ≡ Some r → client_of w.clients y ≡ None → (n : ℕ) → is_kept_by w x y n ≡ row_kept r x n
  router_keeps x y r found none n =
      ap (λ o. option_map_or (λ q. row_kept q x n) o false || option_map_or (λ s. is_named s.router x && has_number s.requests n) (client_of w.clients y) false) found
      ∙ ap (λ o. row_kept r x n || option_map_or (λ (s : ClientState). is_named s.router x && has_number s.requests n) o false) none
      ∙ or-false (row_kept r x n)

  pub router_back : (x y : List ℕ) (r : RouterState) → router_of w.routers x ≡ Some r → client_of w.clients x ≡ None → (n : ℕ) → back_at w x y n ≡ branch_back r y n
  router_back x y r found none n =
      ap (λ o. option_or (option_and_then (λ q. branch_back q y n) o) (option_and_then (λ s. query_back s x y n) (client_of w.clients x))) found
      ∙ ap (λ o. option_or (branch_back r y n) (option_and_then (λ (s : ClientState). query_back s x y n) o)) none
      ∙ option_or-none (branch_back r y n)

  -- of a client
  pub client_keeps : (x y : List ℕ) (s : ClientState) → router_of w.routers y ≡ None → client_of w.clients y ≡ Some s → (n : ℕ) → is_kept_by w x y n ≡ (is_named s.router x && has_number s.requests n)
  client_keeps x y s none found n =
      ap (λ (o : Option RouterState). option_map_or (λ q. row_kept q x n) o false || option_map_or (λ t. is_named t.router x && has_number t.requests n) (client_of w.clients y) false) none
      ∙ ap (λ o. option_map_or (λ (t : ClientState). is_named t.router x && has_number t.requests n) o false) found

  pub client_back : (x y : List ℕ) (s : ClientState) → router_of w.routers x ≡ None → client_of w.clients x ≡ Some s → (n : ℕ) → back_at w x y n ≡ query_back s x y n
  client_back x y s none found n =
      ap (λ (o : Option RouterState). option_or (option_and_then (λ q. branch_back q y n) o) (option_and_then (λ t. query_back t x y n) (client_of w.clients x))) none
      ∙ ap (λ o. option_and_then (λ (t : ClientState). query_back t x y n) o) found

  -- of nobody
  pub nobody_keeps : (x y : List ℕ) → router_of w.routers y ≡ None → client_of w.clients y ≡ None → (n : ℕ) → is_kept_by w x y n ≡ false
  nobody_keeps x y none free n =
      ap (λ (o : Option RouterState). option_map_or (λ q. row_kept q x n) o false || option_map_or (λ t. is_named t.router x && has_number t.requests n) (client_of w.clients y) false) none
      ∙ ap (λ o. option_map_or (λ (t : ClientState). is_named t.router x && has_number t.requests n) o false) free

  pub nobody_back : (x y : List ℕ) → router_of w.routers x ≡ None → client_of w.clients x ≡ None → (n : ℕ) → back_at w x y n ≡ None
  nobody_back x y none free n =
      ap (λ (o : Option RouterState). option_or (option_and_then (λ q. branch_back q y n) o) (option_and_then (λ t. query_back t x y n) (client_of w.clients x))) none
      ∙ ap (λ o. option_and_then (λ (t : ClientState). query_back t x y n) o) free

-- where both ends are as before, and what waits both ways, so is the link
module _ (w v : WorldState) where
  pub keeps_same : (x y : List ℕ) → router_of v.routers y ≡ router_of w.routers y → client_of v.clients y ≡ client_of w.clients y → (n : ℕ) → is_kept_by v x y n ≡ is_kept_by w x y n
  keeps_same x y router client n =
      ap (λ o. option_map_or (λ q. row_kept q x n) o false || option_map_or (λ t. is_named t.router x && has_number t.requests n) (client_of v.clients y) false) router
      ∙ ap (λ o. option_map_or (λ q. row_kept q x n) (router_of w.routers y) false || option_map_or (λ (t : ClientState). is_named t.router x && has_number t.requests n) o false) client

  pub back_same : (x y : List ℕ) → router_of v.routers x ≡ router_of w.routers x → client_of v.clients x ≡ client_of w.clients x → (n : ℕ) → back_at v x y n ≡ back_at w x y n
  back_same x y router client n =
      ap (λ o. option_or (option_and_then (λ q. branch_back q y n) o) (option_and_then (λ t. query_back t x y n) (client_of v.clients x))) router
      ∙ ap (λ o. option_or (option_and_then (λ q. branch_back q y n) (router_of w.routers x)) (option_and_then (λ (t : ClientState). query_back t x y n) o)) client

  pub link_same : (x y : List ℕ) → waits v x y ≡ waits w x y → waits v y x ≡ waits w y x → ((n : ℕ) → is_kept_by v x y n ≡ is_kept_by w x y n) → ((n : ℕ) → back_at v x y n ≡ back_at w x y n) →
      link_of w x y ≡ link_of v x y
  link_same x y there here kept back = link_is (link_of w x y) (link_of v x y) (ap asks_among (sym there)) (ap answers_among (sym here)) (λ n. sym (kept n)) (λ n. sym (back n))

-- ---- once a router has heard of an event

module _ (w : WorldState) (a : List ℕ) (r : RouterState) (found : router_of w.routers a ≡ Some r) (event : Event) (tag : ℕ) where
  abbrev v : WorldState
  v = sending w a r event tag

  wire_heard : (x y : List ℕ) → wire_at v.ends (x, y) ≡ wire_at w.ends (x, y)
  wire_heard x y = keep_all_queued w.ends a r.node event tag wire_of (x, y) (λ s. refl)

  pub waits_elsewhere : (x y : List ℕ) → is_named a x ≡ false → waits v x y ≡ waits w x y
  waits_elsewhere x y other = (λ i. wire_heard y x i ++ queue_of (all_queued_is w.ends a r.node event tag (x, y) i))
      ∙ ap (λ b. wire_at w.ends (y, x) ++ queue_of (cond b (option_map (λ s. queued s (sends_to r.node event y) tag) (end_of w.ends (x, y))) (end_of w.ends (x, y)))) other

  -- the router has sent something to a neighbour, and has an end for it if so
  pub waits_heard : (y : List ℕ) → (is_some (link_to (after r.node event).links y) ≡ true → is_some (end_of w.ends (a, y)) ≡ true) →
      waits v a y ≡ waits w a y ++ tagged tag (sends_to r.node event y)
  waits_heard y there = (λ i. wire_heard y a i ++ queue_of (all_queued_is w.ends a r.node event tag (a, y) i))
      ∙ ap (λ b. wire_at w.ends (y, a) ++ queue_of (cond b (option_map (λ s. queued s (sends_to r.node event y) tag) (end_of w.ends (a, y))) (end_of w.ends (a, y)))) (same_refl a)
      ∙ ap (λ z. wire_at w.ends (y, a) ++ z) (by (end_of w.ends (a, y)) refl)
      ∙ sym (append_assoc (wire_at w.ends (y, a)) (queue_at w.ends (a, y)) (tagged tag (sends_to r.node event y)))
    where
      silent : (o : Option LinkPeer) → is_some o ≡ false → option_map_or (λ l. sends r.node event l.link) o [] ≡ []
      silent None e = refl
      silent (Some l) e = absurd (false≢true (sym e))

      none : (b : Bool) → is_some (link_to (after r.node event).links y) ≡ b → end_of w.ends (a, y) ≡ None → b ≡ false
      none false e at = refl
      none true e at = absurd (false≢true (sym (ap is_some at) ∙ there e))

      by : (o : Option EndState) → end_of w.ends (a, y) ≡ o → queue_of (option_map (λ s. queued s (sends_to r.node event y) tag) o) ≡ queue_of o ++ tagged tag (sends_to r.node event y)
      by (Some s) e = refl
      by None e = ap (λ z. tagged tag z) (sym (silent (link_to (after r.node event).links y) (none (is_some (link_to (after r.node event).links y)) refl e)))

  pub router_heard : router_of v.routers a ≡ Some (hearing r event)
  router_heard = value_after w.routers a a (hearing r event) (ap is_some found) ∙ ap (λ b. cond b (Some (hearing r event)) (router_of w.routers a)) (same_refl a)

  pub router_elsewhere : (x : List ℕ) → is_named a x ≡ false → router_of v.routers x ≡ router_of w.routers x
  router_elsewhere x other = value_after w.routers a x (hearing r event) (ap is_some found) ∙ ap (λ b. cond b (Some (hearing r event)) (router_of w.routers x)) other
