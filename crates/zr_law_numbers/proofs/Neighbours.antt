-- What an event of a router does on its link to a neighbour, by the neighbour's name: with `EventIsDone`, where the link does not go down.
use Rattle.std.proofs.Common.{◌≡◌, ℕ, ◌==◌, Bool, true, false, cond, List, [], ◌++◌, Option, Some, None, is_some, refl, sym, ap, ◌∙◌, subst}
use Rattle.std.specs.List.{AllByRecursion, flat_map, list_all}
use Rattle.std.specs.Option.{option_map_or, option_and_then}
use Rattle.std.proofs.lemmas.Bool.{false≢true, true≢false, eqb-true, eq-eqb, false_from_ne_true}
use Rattle.std.proofs.lemmas.Grind.{flat_map-append}
use Rattle.zr_id.specs.Zid.{is_named}
use Rattle.zr_id.specs.declared.link.LinkNo.{LinkNo}
use Rattle.zr_graph.proofs.Names.{same_is, same_refl}
use Rattle.zr_msg.specs.declared.msg.Msg.{Msg}
use Rattle.zr_msg.specs.declared.event.Event.{Event}
use Rattle.zr_msg.specs.declared.event.Event.TheVariants.{Up, Down, From}
use Rattle.zr_msg.specs.Peer.{PeerState}
use Rattle.zr_msg.specs.declared.peer.LinkPeer.{LinkPeer}
use Rattle.zr_node_spec.specs.Tables.{link_at, link_to}
use Rattle.zr_node_spec.specs.State.{NodeState, new_link}
use Rattle.zr_lists.proofs.Each.{All-each}
use Rattle.zr_node_spec.specs.Table.{with_link, without_link, sends, after}
use Rattle.zr_node_spec.proofs.LinksStay.{links_from}
use Rattle.zr_world_spec.specs.Sound.{AreUnique}
use Rattle.zr_world_spec.proofs.Links.{numbered_link, named_link, link_to_with, link_to_apart}
use Rattle.zr_law_numbers.specs.Waiting.{asks_in, answers_in}
use Rattle.zr_law_numbers.specs.Deeds.{Half, Deed, with_deeds, MayDoAll, asked_by_deed, answered_by_deed, half_of, IsHalf, handles_msg, handles, is_own, IsMeant, IsDone, IsNew, EventIsDone}
use Rattle.zr_law_numbers.proofs.Leading.{handling_is_silent}

-- ---- halves by name

-- what a router keeps of a link, if it is up
abbrev pub half_by : NodeState → Option LinkPeer → Half
half_by node o = record { keeps = λ number. option_map_or (λ l. (half_of node l).keeps number) o false; back = λ number. option_and_then (λ l. (half_of node l).back number) o }

-- what it keeps of its link to a neighbour
abbrev pub half_at : NodeState → List ℕ → Half
half_at node name = half_by node (link_to node.links name)

-- the deed by which an event handles what came over a link, if it is up
abbrev pub handles_by : Event → Option LinkPeer → List Deed
handles_by event o = option_map_or (λ l. handles event l) o []

abbrev pub handles_at : NodeState → Event → List ℕ → List Deed
handles_at node event name = handles_by event (link_to node.links name)

-- ---- a neighbour's link stays, comes up, or isn't there

pub record StaysTo (node : NodeState) (event : Event) (name : List ℕ) : Type 0 where
  pub old : (l : LinkPeer) → link_to node.links name ≡ Some l → link_to (after node event).links name ≡ Some l
  pub new : (l : LinkPeer) → link_to node.links name ≡ None → link_to (after node event).links name ≡ Some l → link_at node.links l.link.0 ≡ None

pub stays_from : (node : NodeState) (link : LinkNo) (msg : Msg) (name : List ℕ) → StaysTo node (From link msg) name
stays_from node link msg name = record {
  old = λ l found. ap (λ z. link_to z name) (links_from node link msg) ∙ found;
  new = λ l none found. absurd (false≢true (ap is_some (sym none ∙ ap (λ z. link_to z name) (sym (links_from node link msg)) ∙ found)));
}

module _ (node : NodeState) (unique : AreUnique node.links) where
  pub stays_up : (link : LinkNo) (peer : PeerState) (name : List ℕ) → link_at node.links link.0 ≡ None → link_to node.links peer.id ≡ None → StaysTo node (Up link peer) name
  stays_up link peer name number free = record {
    old = λ l found. more ∙ ap (λ b. cond b (Some (new_link link peer)) (link_to node.links name)) (other l found) ∙ found;
    new = λ l none found. by l none (is_named peer.id name) (sym more ∙ found);
  }
    where
      more : link_to (with_link node.links (new_link link peer)) name ≡ cond (is_named peer.id name) (Some (new_link link peer)) (link_to node.links name)
      more = link_to_with node.links (new_link link peer) unique number free name

      other : (l : LinkPeer) → link_to node.links name ≡ Some l → is_named peer.id name ≡ false
      other l found = false_from_ne_true (is_named peer.id name) (λ e. false≢true (ap is_some (sym free ∙ ap (λ z. link_to node.links z) (same_is peer.id name e) ∙ found)))

      by : (l : LinkPeer) → link_to node.links name ≡ None → (b : Bool) → cond b (Some (new_link link peer)) (link_to node.links name) ≡ Some l → link_at node.links l.link.0 ≡ None
      by l none true found = let one : new_link link peer ≡ l = cc in ap (λ (z : LinkPeer). link_at node.links z.link.0) (sym one) ∙ number
      by l none false found = absurd (false≢true (ap is_some (sym none ∙ found)))

  pub stays_down : (gone : List ℕ) (k : LinkPeer) (name : List ℕ) → link_to node.links gone ≡ Some k → is_named gone name ≡ false → StaysTo node (Down k.link) name
  stays_down gone k name linked other = record {
    old = λ l found. less ∙ found;
    new = λ l none found. absurd (false≢true (ap is_some (sym none ∙ sym less ∙ found)));
  }
    where
      less : link_to (without_link node.links k.link.0) name ≡ link_to node.links name
      less = link_to_apart node.links unique k.link.0 gone k linked refl name ∙ ap (λ b. cond b None (link_to node.links name)) other

-- ---- what is done

-- what handles a message over a link sends nothing on it
handled_is_silent : (event : Event) (l : LinkPeer) → (flat_map asked_by_deed (handles event l) ≡ []) × (flat_map answered_by_deed (handles event l) ≡ [])
handled_is_silent (Up link peer) l = (refl, refl)
handled_is_silent (Down link) l = (refl, refl)
handled_is_silent (From link msg) l = by (link.0 == l.link.0)
  where
    by : (b : Bool) → (flat_map asked_by_deed (cond b (handles_msg msg) []) ≡ []) × (flat_map answered_by_deed (cond b (handles_msg msg) []) ≡ [])
    by true = handling_is_silent msg
    by false = (refl, refl)

-- a deed on the link to a neighbour, as it was before
abbrev pub IsMeantTo : NodeState → Event → ℕ → Option LinkPeer → Deed → Type 0
IsMeantTo node event tag before d = (l : LinkPeer) × (before ≡ Some l) × IsMeant node event tag l d

-- the deeds on the link to a neighbour, as it was before and is then
pub record DoesBy (node : NodeState) (event : Event) (tag : ℕ) (before then : Option LinkPeer) : Type 0 where
  pub own : List Deed
  pub owns : list_all is_own own ≡ true
  pub asks : flat_map (λ m. asks_in tag m) (option_map_or (λ l. sends node event l.link) then []) ≡ flat_map asked_by_deed own
  pub answers : flat_map (λ m. answers_in tag m) (option_map_or (λ l. sends node event l.link) then []) ≡ flat_map answered_by_deed own
  pub leaves : IsHalf (half_by (after node event) then) (with_deeds (half_by node before) (handles_by event before ++ own))
  pub may : MayDoAll (half_by node before) (handles_by event before ++ own)
  pub meant : AllByRecursion (λ d. IsMeantTo node event tag before d) own

abbrev pub DoesAt : NodeState → Event → ℕ → List ℕ → Type 0
DoesAt node event tag name = DoesBy node event tag (link_to node.links name) (link_to (after node event).links name)

module _ (node : NodeState) (event : Event) (done : EventIsDone node event) (tag : ℕ) where
  nothing : DoesBy node event tag None None
  nothing = record { own = []; owns = refl; asks = refl; answers = refl; leaves = record { keeps = λ n. refl; back = λ n. refl }; may = tt; meant = tt }

  fresh : (l : LinkPeer) → IsNew node event tag l → DoesBy node event tag None (Some l)
  fresh l new = record { own = []; owns = refl; asks = new.asks; answers = new.answers; leaves = record { keeps = new.leaves.keeps; back = new.leaves.back }; may = tt; meant = tt }

  stays : (l : LinkPeer) → IsDone node event tag l → DoesBy node event tag (Some l) (Some l)
  stays l is = record {
    own = is.own;
    owns = is.owns;
    asks = is.does.asks ∙ flat_map-append asked_by_deed (handles event l) is.own ∙ ap (λ z. z ++ flat_map asked_by_deed is.own) (handled_is_silent event l).0;
    answers = is.does.answers ∙ flat_map-append answered_by_deed (handles event l) is.own ∙ ap (λ z. z ++ flat_map answered_by_deed is.own) (handled_is_silent event l).1;
    leaves = record { keeps = is.does.leaves.keeps; back = is.does.leaves.back };
    may = is.does.may;
    meant = All-each (λ d. IsMeant node event tag l d) (λ d. IsMeantTo node event tag (Some l) d) is.own (λ d m. (l, refl, m)) is.meant;
  }

  pub does_at : AreUnique node.links → AreUnique (after node event).links → (name : List ℕ) → StaysTo node event name → DoesAt node event tag name
  does_at unique unique' name to = by (link_to node.links name) refl (link_to (after node event).links name) refl
    where
      numbered : (l : LinkPeer) → link_to (after node event).links name ≡ Some l → link_at (after node event).links l.link.0 ≡ Some l
      numbered l found = numbered_link (after node event).links unique' name l found

      by : (o : Option LinkPeer) → link_to node.links name ≡ o → (p : Option LinkPeer) → link_to (after node event).links name ≡ p → DoesBy node event tag o p
      by None e None f = nothing
      by None e (Some l) f = fresh l (done.fresh tag l (to.new l e f) (numbered l f))
      by (Some l) e None f = absurd (false≢true (ap is_some (sym f ∙ to.old l e)))
      by (Some l) e (Some k) f =
          subst (λ z. DoesBy node event tag (Some l) z) (sym (to.old l e) ∙ f)
          (stays l (done.done tag l (numbered_link node.links unique name l e) (numbered l (to.old l e))))

-- ---- what comes over a link

-- a message is handled on the link that it comes over, and on no other
pub handles_from : (node : NodeState) → AreUnique node.links → (from : List ℕ) (k : LinkPeer) → link_to node.links from ≡ Some k → (msg : Msg) (name : List ℕ) →
    handles_at node (From k.link msg) name ≡ cond (is_named from name) (handles_msg msg) []
handles_from node unique from k linked msg name = by (link_to node.links name) refl (is_named from name) refl
  where
    one : (l : LinkPeer) → link_to node.links name ≡ Some l → (k.link.0 == l.link.0) ≡ is_named from name
    one l found = at (is_named from name) refl
      where
        at : (b : Bool) → is_named from name ≡ b → (k.link.0 == l.link.0) ≡ b
        at true e =
            let found_both : Some k ≡ Some l = sym linked ∙ ap (λ z. link_to node.links z) (same_is from name e) ∙ found in
            let same : k ≡ l = cc in
            ap (λ (z : LinkPeer). k.link.0 == z.link.0) (sym same) ∙ eq-eqb k.link.0 k.link.0 refl
        at false e = false_from_ne_true (k.link.0 == l.link.0) (λ t.
            let number : k.link.0 ≡ l.link.0 = eqb-true k.link.0 l.link.0 t in
            let found_both : Some k ≡ Some l = sym (numbered_link node.links unique from k linked) ∙ ap (λ z. link_at node.links z) number ∙ numbered_link node.links unique name l found in
            let same : k ≡ l = cc in
            let names : from ≡ name = sym (named_link node.links from k linked) ∙ ap (λ (z : LinkPeer). z.peer.id) same ∙ named_link node.links name l found in
            true≢false (sym (same_refl from) ∙ ap (λ z. is_named from z) names ∙ e))

    by : (o : Option LinkPeer) → link_to node.links name ≡ o → (b : Bool) → is_named from name ≡ b → handles_by (From k.link msg) o ≡ cond b (handles_msg msg) []
    by None e true n = absurd (false≢true (ap is_some (sym e ∙ ap (λ z. link_to node.links z) (sym (same_is from name n)) ∙ linked)))
    by None e false n = refl
    by (Some l) e b n = ap (λ t. cond t (handles_msg msg) []) (one l e ∙ n)
