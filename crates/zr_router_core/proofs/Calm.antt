-- A sample leaves a router as it is, whose clients were told of what they want.
use Rattle.std.proofs.Common.{◌≡◌, ℕ, Bool, true, false, cond, not, List, [], Option, Some, None, sym, ap, ◌∙◌, subst}
use Rattle.std.proofs.lemmas.Bool.{not-true}
use Rattle.zr_id.specs.declared.link.LinkNo.{LinkNo}
use Rattle.zr_msg.specs.declared.content.Parts.{Parts}
use Rattle.zr_msg.specs.declared.error.NodeError.TheVariants as e
use Rattle.zr_msg.specs.declared.event.Event.{Event}
use Rattle.zr_msg.specs.declared.event.Event.TheVariants.{From}
use Rattle.zr_msg.specs.declared.msg.Msg.TheVariants.{Push}
use Rattle.zr_local.specs.Clients.{interests_on}
use Rattle.zr_node_spec.specs.Tables.{TableState, leads_to_client}
use Rattle.zr_node_spec.specs.State.{NodeState, tables}
use Rattle.zr_told_spec.specs.Hub.{HubState, sends_told, told_after, by_link}
use Rattle.zr_told_spec.specs.Rows.{Maps, map_on, others, IsAsWanted}
use Rattle.zr_told_spec.specs.Told.{ToldMap}
use Rattle.zr_told_spec.proofs.Calm.{told_stays as sample_stays, untold as sample_untold}
use Rattle.zr_told_spec.proofs.Events.{nothing_told}
use Rattle.zr_router_core.specs.Calm.{IsCalm}
use Rattle.zr_router_core.specs.Done.{hub_of}
use Rattle.zr_router_core.specs.Right.{IsSound, spent_as}
use Rattle.zr_router_core.proofs.Joined.{seen, whole}

module _ (n : NodeState) (told : Maps) (sound : IsSound n told) (l : LinkNo) (tree : Option (List ℕ)) (content : Parts) where
  abbrev event : Event
  event = From l (Push tree content)

  abbrev t : TableState
  t = tables n

  -- what a client was told, as is seen of it
  abbrev was : ℕ → ToldMap
  was k = map_on (hub_of n told).told k

  wanted : (k : ℕ) → leads_to_client t.links k ≡ true → IsAsWanted (others t k) (interests_on t.clients k) (was k)
  wanted k h = subst (IsAsWanted (others t k) (interests_on t.clients k)) (sym (seen n told sound k)) (sound.right.wanted k)

  forgotten : (k : ℕ) → leads_to_client t.links k ≡ false → was k ≡ []
  forgotten k h = seen n told sound k ∙ nothing_told (others t k) (map_on told k) (subst (λ is. IsAsWanted (others t k) is (map_on told k)) (sound.right.clients k h) (sound.right.wanted k))

  told_stays : (k : ℕ) → told_after t was event k ≡ map_on told k
  told_stays k = sample_stays t was wanted forgotten l tree content k ∙ seen n told sound k

  untold : (k : ℕ) → sends_told t (was k) event k ≡ []
  untold k = sample_untold t was wanted forgotten l tree content k

hub_is_calm : (n : NodeState) (told : Maps) → IsSound n told → IsCalm (hub_of n told)
hub_is_calm n told sound l tree content = record {
  stays = λ i. record { node = n; told = by_link n.links (λ k. told_stays n told sound l tree content k i) };
  silent = untold n told sound l tree content;
  taken = ap (λ b. cond b (Some e.Worn) None) sound.right.ids;
}

-- where memory hasn't run out
pub is_calm : (n : NodeState) (told : Maps) (spent : Bool) (self : HubState) → record { node = spent_as n spent; told = by_link n.links (λ k. map_on told k) } ≡ self →
    (spent ≡ false → IsSound n told) → not spent ≡ true → IsCalm self
is_calm n told spent self view_is sound awake l tree content =
    let fresh = not-true spent awake in
    let event : Event = From l (Push tree content) in
    subst IsCalm (whole n told spent self view_is fresh (sound fresh) event) (hub_is_calm n told (sound fresh)) l tree content
