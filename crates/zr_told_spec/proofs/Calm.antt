-- Of a sample no client is told anything by a router that has told each what it wants, and what was told stays.
use Rattle.std.proofs.Common.{◌≡◌, ℕ, Bool, true, false, cond, List, [], Option, None, refl, sym, ap, ◌∙◌}
use Rattle.std.specs.Prelude.{◌==◌}
use Rattle.zr_id.specs.declared.link.LinkNo.{LinkNo}
use Rattle.zr_local.specs.Clients.{interests_on}
use Rattle.zr_msg.specs.declared.content.Parts.{Parts}
use Rattle.zr_msg.specs.declared.event.Event.{Event}
use Rattle.zr_msg.specs.declared.event.Event.TheVariants.{From}
use Rattle.zr_msg.specs.declared.msg.Msg.TheVariants.{Push}
use Rattle.zr_node_spec.specs.Tables.{TableState, leads_to_client}
use Rattle.zr_told_spec.specs.Hub.{asking_of, asking_on, tells_with, told_with, sends_told, told_after}
use Rattle.zr_told_spec.specs.Rows.{others, IsAsWanted}
use Rattle.zr_told_spec.specs.Told.{ToldMap}
use Rattle.zr_told_spec.proofs.Events.{nothing_is_told}

module _ (t : TableState) (told : ℕ → ToldMap)
    (wanted : (k : ℕ) → leads_to_client t.links k ≡ true → IsAsWanted (others t k) (interests_on t.clients k) (told k))
    (forgotten : (k : ℕ) → leads_to_client t.links k ≡ false → told k ≡ [])
    (l : LinkNo) (tree : Option (List ℕ)) (content : Parts) where
  abbrev event : Event
  event = From l (Push tree content)

  unasked : (k : ℕ) → asking_on event k ≡ None
  unasked k = by (l.0 == k)
    where
      by : (b : Bool) → cond b (asking_of (Push tree content)) None ≡ None
      by true = refl
      by false = refl

  pub told_stays : (k : ℕ) → told_after t told event k ≡ told k
  told_stays k = by (leads_to_client t.links k) refl
    where
      by : (b : Bool) → leads_to_client t.links k ≡ b → cond b (told_with t (told k) k (asking_on event k)) [] ≡ told k
      by true e = ap (told_with t (told k) k) (unasked k) ∙ (nothing_is_told (others t k) (interests_on t.clients k) (told k) (wanted k e)).1
      by false e = sym (forgotten k e)

  pub untold : (k : ℕ) → sends_told t (told k) event k ≡ []
  untold k = by (leads_to_client t.links k) refl
    where
      by : (b : Bool) → leads_to_client t.links k ≡ b → cond b (tells_with t (told k) k (asking_on event k)) [] ≡ []
      by true e = ap (tells_with t (told k) k) (unasked k) ∙ (nothing_is_told (others t k) (interests_on t.clients k) (told k) (wanted k e)).0
      by false e = refl
