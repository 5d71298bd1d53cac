-- No link's event is refused by a router's own record: own numbers are far below their limit, and own links are few.
use Rattle.std.proofs.Common.{◌≡◌, ◌≤◌, ◌<◌, ℕ, false, cond, length, Option, Some, None, refl, sym, ap, ◌∙◌, arith}
use Rattle.std.specs.Prelude.{◌-◌, ◌^◌}
use Rattle.std.specs.Cmp.Lexicographic.{slice_cmp}
use Rattle.std.specs.Ordering.{nat_cmp}
use Rattle.std.proofs.lemmas.Bool.{and_parts, or_from, ne_eqb, lt-leb}
use Rattle.std.proofs.lemmas.List.{length-map}
use Rattle.std.proofs.lemmas.Map.Keys.{IsDistinct-from_sorted}
use Rattle.std.proofs.lemmas.Map.Steps.{length-le_from_keys}
use Rattle.zr_id.specs.Record.{LinkedState, linked_ids}
use Rattle.zr_id.specs.Zid.{is_named}
use Rattle.zr_graph.specs.Base.{BaseState, own_seq}
use Rattle.zr_lists.proofs.Finds.{same_any}
use Rattle.zr_msg.specs.declared.error.NodeError.TheVariants.{Worn}
use Rattle.zr_msg.specs.declared.peer.Role.{Role}
use Rattle.zr_msg.specs.declared.peer.Role.TheVariants.{Client, Router}
use Rattle.zr_msg.specs.declared.peer.LinkPeer.{LinkPeer}
use Rattle.zr_node_spec.specs.Table.{own_links, is_worn, is_full, refuses_up, refuses_down, refuses_parting}
use Rattle.zr_world_spec.specs.World.{RouterState, WorldState, router_of}
use Rattle.zr_world_spec.specs.Sound.{IsSound}
use Rattle.zr_world_spec.proofs.Names.{names}
use Rattle.zr_law_settled.proofs.Spreading.{Name}
use Rattle.zr_law_settled.proofs.Worlds.{Holds, there_in}
use Rattle.zr_law_settled.proofs.Changes.{listed}
use Rattle.zr_law_settled.proofs.Bounds.{IsBounded}
use Rattle.zr_law_settled.proofs.BoundedActs.{AreBounded}

-- own links are routers that are there, each once
links_few : (w : WorldState) → IsSound w → Holds w → (x : Name) (r : RouterState) → router_of w.routers x ≡ Some r → (n : ℕ) → IsBounded n r.node.base → length (own_links r.node.base) ≤ length w.routers
links_few w sound holds x r found n bounded =
    let few = length-le_from_keys names (linked_ids (own_links r.node.base)) w.routers (IsDistinct-from_sorted (slice_cmp nat_cmp) (linked_ids (own_links r.node.base)) bounded.ascend) (λ q t.
    (and_parts (there_in w q) _ (sym (listed w holds sound x r found q) ∙ same_any (λ y. is_named y q) (is_named q) (linked_ids (own_links r.node.base)) (λ y i. names.symm y q) ∙ t)).0) in
    omega (arith, few, length-map (own_links r.node.base) (λ (l : LinkedState). l.id))

-- a base with room for one more change takes each event
module _ (b : BaseState) (fresh : is_worn b ≡ false) (room : is_full b ≡ false) where
  takes_up : (role : Role) → refuses_up b role ≡ None
  takes_up Client = refl
  takes_up Router = ap (λ t. cond t (Some Worn) None) (or_from (is_worn b) (is_full b) fresh room)

  takes_parting : (role : Role) → refuses_parting b role ≡ None
  takes_parting Client = refl
  takes_parting Router = ap (λ t. cond t (Some Worn) None) fresh

  takes_down : (o : Option LinkPeer) → refuses_down b o ≡ None
  takes_down None = refl
  takes_down (Some l) = takes_parting l.peer.role

-- no router of a world with so few changes of links refuses by its own record that a link comes up or goes down
pub record TakesLinks (b : BaseState) : Type 0 where
  pub up : (role : Role) → refuses_up b role ≡ None
  pub down : (o : Option LinkPeer) → refuses_down b o ≡ None

pub links_are_taken : (w : WorldState) → IsSound w → Holds w → (n : ℕ) → n < 2 ^ 64 - 1 → AreBounded n w.routers → (x : Name) (r : RouterState) → router_of w.routers x ≡ Some r → TakesLinks r.node.base
links_are_taken w sound holds n least bounds x r found = record { up = takes_up r.node.base fresh room; down = takes_down r.node.base fresh room }
  where
    bounded : IsBounded n r.node.base
    bounded = bounds.each x r found

    few : length (own_links r.node.base) ≤ 64
    few =
        let most : length w.routers ≤ 64 = bounds.few in
        omega (arith, most, links_few w sound holds x r found n bounded)

    fresh : is_worn r.node.base ≡ false
    fresh = ne_eqb (own_seq r.node.base) (2 ^ 64 - 1) (λ e. absurd (omega (arith, e, bounded.number, least)))

    room : is_full r.node.base ≡ false
    room = lt-leb 65535 (length (own_links r.node.base)) (omega (arith, few))
