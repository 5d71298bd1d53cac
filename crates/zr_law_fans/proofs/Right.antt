-- A sample leaves a router as it is whose clients were told of what they want, and nobody is told anything of it.
use Rattle.std.proofs.Common.{◌≡◌, ℕ, Bool, true, false, cond, List, [], ◌∷◌, Option, Some, None, inl, inr, refl, sym, ap, ◌∙◌}
use Rattle.std.specs.Prelude.{◌==◌, not, filter, unwrap_or}
use Rattle.std.specs.Map.{lookup}
use Rattle.std.specs.Option.{option_map_or}
use Rattle.std.specs.Ordering.{is_eq, nat_cmp}
use Rattle.std.proofs.lemmas.Bool.{false≢true, true≢false, eqb-true, eq-eqb}
use Rattle.zr_lists.proofs.Finds.{In}
use Rattle.zr_lists.proofs.Numbers.{nat_eq_turned}
use Rattle.zr_id.specs.declared.link.LinkNo.{LinkNo}
use Rattle.zr_msg.specs.declared.content.Parts.{Parts}
use Rattle.zr_msg.specs.declared.event.Event.{Event}
use Rattle.zr_msg.specs.declared.event.Event.TheVariants.{From}
use Rattle.zr_msg.specs.declared.msg.Msg.TheVariants.{Push}
use Rattle.zr_msg.specs.declared.peer.LinkPeer.{LinkPeer}
use Rattle.zr_local.specs.Clients.{interests_on}
use Rattle.zr_node_spec.specs.Tables.{TableState, is_router, link_to, leads_to_client}
use Rattle.zr_node_spec.specs.State.{tables}
use Rattle.zr_node_spec.specs.Table.{after}
use Rattle.zr_told_spec.specs.Hub.{asking_on, told_with, sends_told, told_after, by_link}
use Rattle.zr_told_spec.specs.Rows.{map_on, others, IsAsWanted}
use Rattle.zr_told_spec.specs.Told.{ToldMap}
use Rattle.zr_told_spec.proofs.Calm.{told_stays as sample_stays, untold as sample_untold}
use Rattle.zr_told_spec.proofs.Hubs.{hub_is_as_wanted, entries}
use Rattle.zr_world_spec.specs.World.{RouterState, new_router}
use Rattle.zr_world_spec.specs.Acts.{hub_of, told_to, weighing, having_told}

-- each client was told of what it wants, nothing was told on other links, and of what was told there is a map for each client, in the order of the links
pub record IsRight (r : RouterState) : Type 0 where
  pub wanted : (k : ℕ) → leads_to_client r.node.links k ≡ true → IsAsWanted (others (tables r.node) k) (interests_on r.node.clients k) (map_on r.told k)
  pub forgotten : (k : ℕ) → leads_to_client r.node.links k ≡ false → map_on r.told k ≡ []
  pub listed : r.told ≡ by_link r.node.links (λ k. map_on r.told k)

-- ---- maps by links

abbrev at : (ℕ → ToldMap) → Bool → LinkPeer → List LinkPeer → ℕ → ToldMap
at f b l ls k = unwrap_or (cond b (Some (f l.link.0)) (lookup (λ j. is_eq (nat_cmp k j)) (entries ls f))) []

module _ (f : ℕ → ToldMap) where
  number : (l : LinkPeer) (ls : List LinkPeer) (k : ℕ) (b : Bool) → (l.link.0 == k) ≡ b → map_on (entries (l ∷ ls) f) k ≡ at f b l ls k
  number l ls k b e = ap (λ z. at f z l ls k) (nat_eq_turned k l.link.0 ∙ e)

  -- what is kept by links has the map of each of them
  found : (ls : List LinkPeer) (y : LinkPeer) → In y ls → map_on (entries ls f) y.link.0 ≡ f y.link.0
  found [] y i = elim i [ ]
  found (l ∷ ls) y i = by (l.link.0 == y.link.0) refl i (found ls y)
    where
      by : (b : Bool) → (l.link.0 == y.link.0) ≡ b → In y (l ∷ ls) → (In y ls → map_on (entries ls f) y.link.0 ≡ f y.link.0) → map_on (entries (l ∷ ls) f) y.link.0 ≡ f y.link.0
      by true e i ih = number l ls y.link.0 true e ∙ ap f (eqb-true l.link.0 y.link.0 e)
      by false e (inl same) ih = absurd (true≢false (sym (eq-eqb l.link.0 y.link.0 (ap (λ (z : LinkPeer). z.link.0) (sym same))) ∙ e))
      by false e (inr more) ih = number l ls y.link.0 false e ∙ ih more

  each_found : (ls all : List LinkPeer) → ((y : LinkPeer) → In y ls → In y all) → entries ls f ≡ entries ls (λ k. map_on (entries all f) k)
  each_found [] all here = refl
  each_found (l ∷ ls) all here = λ i. (l.link.0, sym (found all l (here l (inl refl))) i) ∷ each_found ls all (λ y j. here y (inr j)) i

  pub listed_by : (links : List LinkPeer) → by_link links f ≡ by_link links (λ k. map_on (by_link links f) k)
  listed_by links = each_found (filter (λ l. not (is_router l.peer.role)) links) (filter (λ l. not (is_router l.peer.role)) links) (λ y i. i)

  -- nothing is found under a number whose map is empty
  pub none_found : (ls : List LinkPeer) (k : ℕ) → f k ≡ [] → map_on (entries ls f) k ≡ []
  none_found [] k none = refl
  none_found (l ∷ ls) k none = by (l.link.0 == k) refl (none_found ls k none)
    where
      by : (b : Bool) → (l.link.0 == k) ≡ b → map_on (entries ls f) k ≡ [] → map_on (entries (l ∷ ls) f) k ≡ []
      by true e ih = number l ls k true e ∙ ap f (eqb-true l.link.0 k e) ∙ none
      by false e ih = number l ls k false e ∙ ih

-- ---- a router that has told its clients is right

module _ (r : RouterState) (event : Event) where
  abbrev told_now : ℕ → ToldMap
  told_now k = told_after (tables (after r.node event)) (λ j. map_on r.told j) event k

  none_now : (k : ℕ) → leads_to_client (after r.node event).links k ≡ false → told_now k ≡ []
  none_now k none = ap (λ b. cond b (told_with (tables (after r.node event)) (map_on r.told k) k (asking_on event k)) []) none

  pub having_told_right : IsRight (having_told r event)
  having_told_right = record {
    wanted = hub_is_as_wanted (hub_of r) event;
    forgotten = λ k none. none_found told_now (filter (λ l. not (is_router l.peer.role)) (after r.node event).links) k (none_now k none);
    listed = listed_by told_now (after r.node event).links;
  }

pub new_right : (id : List ℕ) → IsRight (new_router id)
new_right id = record { wanted = λ k e. absurd (false≢true e); forgotten = λ k e. refl; listed = refl }

pub weighing_right : (r : RouterState) (key : List ℕ) → IsRight r → IsRight (weighing r key)
weighing_right r key right = record { wanted = right.wanted; forgotten = right.forgotten; listed = right.listed }

-- ---- a sample

module _ (r : RouterState) (right : IsRight r) (l : LinkNo) (tree : Option (List ℕ)) (content : Parts) where
  abbrev sample : Event
  sample = From l (Push tree content)

  abbrev t : TableState
  t = tables r.node

  -- what was told stays
  told_stays : (k : ℕ) → told_after t (λ j. map_on r.told j) sample k ≡ map_on r.told k
  told_stays k = sample_stays t (λ j. map_on r.told j) right.wanted right.forgotten l tree content k

  -- nothing is told
  untold : (k : ℕ) → sends_told t (map_on r.told k) sample k ≡ []
  untold k = sample_untold t (λ j. map_on r.told j) right.wanted right.forgotten l tree content k

  pub router_stays : having_told r sample ≡ r
  router_stays = λ i. record { node = r.node; told = same i; weight = r.weight }
    where
      same : by_link r.node.links (told_after t (λ j. map_on r.told j) sample) ≡ r.told
      same = ap (by_link r.node.links) (λ i k. told_stays k i) ∙ sym right.listed

  pub nobody_told : (name : List ℕ) → told_to r sample name ≡ []
  nobody_told name = by (link_to r.node.links name)
    where
      by : (o : Option LinkPeer) → option_map_or (λ k. sends_told t (map_on r.told k.link.0) sample k.link.0) o [] ≡ []
      by None = refl
      by (Some k) = untold k.link.0
