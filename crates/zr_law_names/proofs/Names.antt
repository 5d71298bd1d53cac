-- What a router does doesn't depend on the names of its clients (`names_change_nothing`).
use Rattle.std.proofs.Common.{◌≡◌, ℕ, cond, [], ◌++◌, Option, Some, None, refl, ap, ◌∙◌}
use Rattle.std.specs.Option.{option_or}
use Rattle.zr_id.specs.declared.link.LinkNo.{LinkNo}
use Rattle.zr_msg.specs.declared.error.NodeError.TheVariants as e
use Rattle.zr_msg.specs.declared.event.Event.{Event}
use Rattle.zr_msg.specs.declared.event.Event.TheVariants.{Up, Down, From}
use Rattle.zr_node_spec.specs.State.{NodeState, tables}
use Rattle.zr_node_spec.specs.Tables.{leads_to_client}
use Rattle.zr_node_spec.specs.Snapshots.{sends_snapshots}
use Rattle.zr_node_spec.specs.Table.{sends_first, sends, after, refuses}
use Rattle.zr_told_spec.specs.Hub.{HubState, Asking, asking_on, by_link, tells_with, told_with, sends_told, told_after, hub_sends, hub_after, hub_refuses}
use Rattle.zr_told_spec.specs.Rows.{map_on, one_lacks_ids}
use Rattle.zr_told_spec.specs.Told.{ToldMap}
use Rattle.zr_law_names.specs.Names.{nameless_event, nameless_node, nameless_hub, NamesChangeNothing}
use Rattle.zr_law_names.proofs.Links.{leads_client, maps_same}
use Rattle.zr_law_names.proofs.Sending.{first_sent, snapshots_sent}
use Rattle.zr_law_names.proofs.Leaving.{left_same, refused_same}

-- with which interest an event asks has nothing to do with names
asking_same : (event : Event) (to : ℕ) → asking_on (nameless_event event) to ≡ asking_on event to
asking_same (Up link peer) to = refl
asking_same (Down link) to = refl
asking_same (From link msg) to = refl

-- and neither has what a client is told
tells_same : (n : NodeState) (m : ToldMap) (to : ℕ) (a : Option Asking) → tells_with (tables (nameless_node n)) m to a ≡ tells_with (tables n) m to a
tells_same n m to None = refl
tells_same n m to (Some a) = refl

told_same : (n : NodeState) (m : ToldMap) (to : ℕ) (a : Option Asking) → told_with (tables (nameless_node n)) m to a ≡ told_with (tables n) m to a
told_same n m to None = refl
told_same n m to (Some a) = refl

module _ (h : HubState) (event : Event) where
  abbrev then : NodeState
  then = after h.node event

  told_then : (k : ℕ) → told_after (tables (nameless_node then)) (λ k. map_on h.told k) (nameless_event event) k ≡ told_after (tables then) (λ k. map_on h.told k) event k
  told_then k =
      ap (λ b. cond b (told_with (tables (nameless_node then)) (map_on h.told k) k (asking_on (nameless_event event) k)) []) (leads_client then.links k)
      ∙ ap (λ z. cond (leads_to_client then.links k) z []) (told_same then (map_on h.told k) k (asking_on (nameless_event event) k) ∙ ap (told_with (tables then) (map_on h.told k) k) (asking_same event k))

  sent_then : (to : ℕ) → sends_told (tables (nameless_node then)) (map_on h.told to) (nameless_event event) to ≡ sends_told (tables then) (map_on h.told to) event to
  sent_then to =
      ap (λ b. cond b (tells_with (tables (nameless_node then)) (map_on h.told to) to (asking_on (nameless_event event) to)) []) (leads_client then.links to)
      ∙ ap (λ z. cond (leads_to_client then.links to) z []) (tells_same then (map_on h.told to) to (asking_on (nameless_event event) to) ∙ ap (tells_with (tables then) (map_on h.told to) to) (asking_same event to))

  hub_left : hub_after (nameless_hub h) (nameless_event event) ≡ nameless_hub (hub_after h event)
  hub_left =
      ap (λ (m : NodeState). record { node = m; told = by_link m.links (told_after (tables m) (λ k. map_on h.told k) (nameless_event event)) }) (left_same h.node event)
      ∙ ap (λ z. record { node = nameless_node then; told = z })
      (maps_same then.links (told_after (tables (nameless_node then)) (λ k. map_on h.told k) (nameless_event event)) ∙ (λ i. by_link then.links (λ k. told_then k i)))

  hub_sent : (link : LinkNo) → hub_sends (nameless_hub h) (nameless_event event) link ≡ hub_sends h event link
  hub_sent link =
      ap (λ z. (z ++ sends_snapshots (tables (after (nameless_node h.node) (nameless_event event))) h.node.base.records link.0)
      ++ sends_told (tables (after (nameless_node h.node) (nameless_event event))) (map_on h.told link.0) (nameless_event event) link.0) (first_sent h.node event link)
      ∙ ap (λ (m : NodeState). (sends_first h.node event link ++ sends_snapshots (tables m) h.node.base.records link.0) ++ sends_told (tables m) (map_on h.told link.0) (nameless_event event) link.0) (left_same h.node event)
      ∙ ap (λ z. (sends_first h.node event link ++ z) ++ sends_told (tables (nameless_node then)) (map_on h.told link.0) (nameless_event event) link.0) (snapshots_sent (tables then) h.node.base.records link.0)
      ∙ ap (λ z. sends h.node event link ++ z) (sent_then link.0)

  hub_refused : hub_refuses (nameless_hub h) (nameless_event event) ≡ hub_refuses h event
  hub_refused =
      ap (λ (m : NodeState). option_or (refuses (nameless_node h.node) (nameless_event event)) (cond (one_lacks_ids (tables m) m.clients) (Some e.Worn) None)) (left_same h.node event)
      ∙ ap (λ o. option_or o (cond (one_lacks_ids (tables then) then.clients) (Some e.Worn) None)) (refused_same h.node event)

pub names_change_nothing : NamesChangeNothing
names_change_nothing h event = record { after = hub_left h event; sends = hub_sent h event; refuses = hub_refused h event }
