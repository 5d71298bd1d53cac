-- What a router sends of a sample are samples.
use Rattle.std.proofs.Common.{◌≡◌, ℕ, Bool, true, false, cond, ◌&&◌, not, List, [], ◌∷◌, ◌++◌, map, Option, Some, None, refl, ap, ◌∙◌, append-nil}
use Rattle.std.specs.Prelude.{◌==◌}
use Rattle.std.specs.List.{AllByRecursion, list_all}
use Rattle.std.specs.Option.{option_map_or}
use Rattle.std.proofs.lemmas.Bool.{false≢true, and_parts}
use Rattle.zr_id.specs.Zid.{is_named}
use Rattle.zr_id.specs.declared.link.LinkNo.{LinkNo}
use Rattle.zr_msg.specs.declared.content.Parts.{Parts}
use Rattle.zr_msg.specs.declared.msg.Msg.{Msg}
use Rattle.zr_msg.specs.declared.msg.Msg.TheVariants.{Push}
use Rattle.zr_msg.specs.declared.event.Event.TheVariants.{From}
use Rattle.zr_msg.specs.declared.peer.LinkPeer.{LinkPeer}
use Rattle.zr_msg.specs.declared.peer.Role.{Role}
use Rattle.zr_msg.specs.declared.peer.Role.TheVariants.{Client, Router}
use Rattle.zr_node_spec.specs.Tables.{link_at, link_to}
use Rattle.zr_node_spec.specs.Samples.{subscribes, leads_to_subscriber, tree_of, push_to, push_on, push_along}
use Rattle.zr_node_spec.specs.State.{NodeState, tables}
use Rattle.zr_node_spec.specs.Table.{sends_from, sends}
use Rattle.zr_node_spec.proofs.NoNewChildren.{no_new_children}
use Rattle.zr_world_spec.specs.World.{RouterState, End, WorldState, router_of, turned}
use Rattle.zr_world_spec.specs.Acts.{sends_to}
use Rattle.zr_law_fan.specs.Samples.{Move, Handling, Taking, tagged, sent_at, sends_over, sends_by, next_moves, msg_of}
use Rattle.zr_world_spec.specs.Fan.{is_sample}
use Rattle.zr_orders.proofs.Passes.{append_pass}

module _ (node : NodeState) (l : LinkNo) (tree : Option (List ℕ)) (content : Parts) where
  sends_only : (to : LinkNo) → sends node (From l (Push tree content)) to ≡ sends_from node l.0 (Push tree content) to.0
  sends_only to = ap (λ z. sends_from node l.0 (Push tree content) to.0 ++ z) (no_new_children (tables node) node.base.records refl to.0) ∙ append-nil (sends_from node l.0 (Push tree content) to.0)

  pub goes_to : (name : List ℕ) → sends_to node (From l (Push tree content)) name ≡ option_map_or (λ k. sends_from node l.0 (Push tree content) k.link.0) (link_to node.links name) []
  goes_to name = by (link_to node.links name)
    where
      by : (o : Option LinkPeer) → option_map_or (λ k. sends node (From l (Push tree content)) k.link) o [] ≡ option_map_or (λ k. sends_from node l.0 (Push tree content) k.link.0) o []
      by None = refl
      by (Some k) = sends_only k.link

  pub are_samples : (name : List ℕ) → list_all is_sample (sends_to node (From l (Push tree content)) name) ≡ true
  are_samples name = ap (list_all is_sample) (goes_to name) ∙ by (link_to node.links name)
    where
      one : (t : Option (List ℕ)) (b : Bool) → list_all is_sample (cond b (Push t content ∷ []) []) ≡ true
      one t true = refl
      one t false = refl

      by_role : (root : List ℕ) (k : LinkPeer) (role : Role) → list_all is_sample (push_to (tables node) l.0 root content k role) ≡ true
      by_role root k Client = one None (not (k.link.0 == l.0) && subscribes node.rows k.link.0 content.key)
      by_role root k Router = one (Some root) (leads_to_subscriber (tables node) root content.key k.peer.id)

      by_link : (root : List ℕ) (o : Option LinkPeer) → list_all is_sample (push_on (tables node) l.0 root content o) ≡ true
      by_link root None = refl
      by_link root (Some k) = by_role root k k.peer.role

      by_tree : (to : ℕ) (o : Option (List ℕ)) → list_all is_sample (push_along (tables node) l.0 o content to) ≡ true
      by_tree to None = refl
      by_tree to (Some root) = by_link root (link_at node.links to)

      by : (o : Option LinkPeer) → list_all is_sample (option_map_or (λ k. sends_from node l.0 (Push tree content) k.link.0) o []) ≡ true
      by None = refl
      by (Some k) = by_tree k.link.0 (tree_of (tables node) (link_at node.links l.0) tree)

-- ---- what a sample becomes

abbrev pub AllSamples : List Move → Type 0
AllSamples ms = AllByRecursion (λ m. is_sample (msg_of m) ≡ true) ms

takings : (q : End) (tag : ℕ) (ms : List Msg) → list_all is_sample ms ≡ true → AllSamples (map (λ z. Taking q (tagged tag z)) ms)
takings q tag [] h = tt
takings q tag (m ∷ ms) h = let parts = and_parts (is_sample m) (list_all is_sample ms) h in (parts.0, takings q tag ms parts.1)

sent_samples : (qs : List End) (x : List ℕ) (msgs : List ℕ → List Msg) (tag : ℕ) → ((name : List ℕ) → list_all is_sample (msgs name) ≡ true) → AllSamples (sent_at qs x msgs tag)
sent_samples [] x msgs tag h = tt
sent_samples (q ∷ qs) x msgs tag h = by (is_named x q.0) (sent_samples qs x msgs tag h)
  where
    by : (b : Bool) → AllSamples (sent_at qs x msgs tag) → AllSamples (cond b (map (λ z. Taking q (tagged tag z)) (msgs q.1)) [] ++ sent_at qs x msgs tag)
    by true ih = append_pass (λ m. is_sample (msg_of m)) (map (λ z. Taking q (tagged tag z)) (msgs q.1)) (sent_at qs x msgs tag) (takings q tag (msgs q.1) (h q.1)) ih
    by false ih = ih

by_samples : (o : Option RouterState) (from : List ℕ) (m : Msg) → is_sample m ≡ true → (name : List ℕ) → list_all is_sample (sends_by o from m name) ≡ true
by_samples None from m h name = refl
by_samples (Some r) from m h name = over (link_to r.node.links from) m h
  where
    over : (k : Option LinkPeer) (m : Msg) → is_sample m ≡ true → list_all is_sample (sends_over r k m name) ≡ true
    over None m h = refl
    over (Some k) (Push tree content) h = are_samples r.node k.link tree content name
    over (Some k) other h = absurd (false≢true h)

pub become_samples : (w : WorldState) (m : Move) → is_sample (msg_of m) ≡ true → AllSamples (next_moves w m)
become_samples w (Handling e m) h = sent_samples _ e.0 (sends_by (router_of w.routers e.0) e.1 m.msg) m.tag (by_samples (router_of w.routers e.0) e.1 m.msg h)
become_samples w (Taking e m) h = by _
  where
    by : (b : Bool) → AllSamples (cond b (Handling (turned e) m ∷ []) [])
    by true = (h, tt)
    by false = tt
