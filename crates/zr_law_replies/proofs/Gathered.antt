-- What a router holds for a neighbour under a number (`gathered_at`): it was said to the neighbour's query of that number, which asks for the latest
-- (`GathersHold`). It may be released with any line that is no reply's (`released_said`).
use Rattle.std.proofs.Common.{◌≡◌, ℕ, ◌⊎◌, inl, inr, not, Bool, true, false, List, [], ◌∷◌, ◌++◌, Option, Some, None, is_some, refl, sym, ap, ◌∙◌, subst}
use Rattle.std.specs.List.{find}
use Rattle.std.specs.Option.{option_map, option_map_or, option_and_then}
use Rattle.std.proofs.lemmas.Bool.{false≢true, or_left}
use Rattle.std.proofs.lemmas.Option.{none-some}
use Rattle.zr_lists.proofs.Finds.{In, find_in}
use Rattle.zr_lists.proofs.Elements.{each_in}
use Rattle.zr_msg.specs.declared.content.Parts.{Parts}
use Rattle.zr_msg.specs.declared.event.Event.{Event}
use Rattle.zr_msg.specs.declared.event.Event.TheVariants.{Up, Down, From}
use Rattle.zr_msg.specs.declared.peer.LinkPeer.{LinkPeer}
use Rattle.zr_script_spec.specs.declared.report.ReportLine.{ReportLine}
use Rattle.zr_pend_spec.specs.declared.branch.Asker.{Asker}
use Rattle.zr_pend_spec.specs.Pending.{asked}
use Rattle.zr_pend_spec.specs.Held.{GatheringState, is_for, held_for}
use Rattle.zr_node_spec.specs.Tables.{is_router, link_at, link_to, leads_to_client}
use Rattle.zr_node_spec.specs.State.{NodeState}
use Rattle.zr_node_spec.specs.Table.{after}
use Rattle.zr_world_spec.specs.World.{RouterState, Routers, WorldState, router_of, with_router}
use Rattle.zr_world_spec.specs.Acts.{hearing, having_told}
use Rattle.zr_world_spec.specs.Moments.{Numbered}
use Rattle.zr_graph.proofs.Names.{same_is}
use Rattle.zr_id.specs.Zid.{is_named}
use Rattle.zr_law_numbers.specs.Rows.{AreOfLinks}
use Rattle.zr_law_numbers.specs.Waiting.{is_kept_by, is_whole}
use Rattle.zr_law_numbers.proofs.Gatherings.{nobody_gathers}
use Rattle.zr_law_numbers.proofs.Neighbours.{StaysTo}
use Rattle.zr_law_numbers.proofs.RowsKept.{who_is}
pub use Rattle.zr_law_replies.specs.Stands.{gathered_by}
use Rattle.zr_law_replies.specs.Answers.{is_latest_of, is_other_line, IsSaidTo}
use Rattle.zr_law_replies.proofs.Gathers.{held_list, list_held, list_gathers, IsGathering, gather_step}
use Rattle.zr_law_replies.proofs.Grown.{Earlier, latest_kept, said_kept}
use Rattle.zr_law_replies.proofs.ToldRouters.{router_then, router_apart}

abbrev pub asker_of_link : LinkPeer → ℕ → Asker
asker_of_link l n = record { link = l.link; number = n }

abbrev pub gathered_of : Option RouterState → List ℕ → ℕ → Option (List Parts)
gathered_of o y n = option_and_then (λ r. gathered_by r.node y n) o

abbrev pub gathered_at : WorldState → List ℕ → List ℕ → ℕ → Option (List Parts)
gathered_at w x y n = gathered_of (router_of w.routers x) y n

pub record IsGathered (acts : List Numbered) (report : List ReportLine) (name : List ℕ) (line : ℕ) (hs : List Parts) : Type 0 where
  pub latest : is_latest_of acts name line ≡ true
  pub said : (c : Parts) → In c hs → (tag : ℕ) × IsSaidTo acts report name line (record { line = tag; content = c })

abbrev pub GathersHold : List Numbered → List ReportLine → WorldState → (List ℕ → List ℕ → ℕ → ℕ) → Type 0
GathersHold acts report w lines = (x y : List ℕ) (n : ℕ) (hs : List Parts) → is_whole w y x ≡ true → gathered_at w x y n ≡ Some hs → IsGathered acts report y (lines y x n) hs

-- ---- of one router

-- it is up, and has one for that neighbour
pub by_link : (node : NodeState) (y : List ℕ) (n : ℕ) (hs : List Parts) → gathered_by node y n ≡ Some hs → (l : LinkPeer) × (link_to node.links y ≡ Some l) × (held_list node.held (asker_of_link l n) ≡ Some hs)
by_link node y n hs e = by (link_to node.links y) refl e
  where
    by : (o : Option LinkPeer) → link_to node.links y ≡ o → option_and_then (λ l. held_list node.held (asker_of_link l n)) o ≡ Some hs →
        (l : LinkPeer) × (link_to node.links y ≡ Some l) × (held_list node.held (asker_of_link l n) ≡ Some hs)
    by None f k = absurd (none-some hs k)
    by (Some l) f k = (l, f, k)

pub by_router : (w : WorldState) (x y : List ℕ) (n : ℕ) (hs : List Parts) → gathered_at w x y n ≡ Some hs → (r : RouterState) × (router_of w.routers x ≡ Some r) × (gathered_by r.node y n ≡ Some hs)
by_router w x y n hs e = by (router_of w.routers x) refl e
  where
    by : (o : Option RouterState) → router_of w.routers x ≡ o → gathered_of o y n ≡ Some hs → (r : RouterState) × (router_of w.routers x ≡ Some r) × (gathered_by r.node y n ≡ Some hs)
    by None f k = absurd (none-some hs k)
    by (Some r) f k = (r, f, k)

-- who is held for has asked
pub list_asked : (node : NodeState) → AreOfLinks node → (a : Asker) (hs : List Parts) → held_list node.held a ≡ Some hs → asked a node.pending ≡ true
list_asked node of a hs e = by (asked a node.pending) refl
  where
    by : (t : Bool) → asked a node.pending ≡ t → t ≡ true
    by true f = refl
    by false f = absurd (false≢true (sym (nobody_gathers node.pending node.held a of.gatherings.of_rows f) ∙ list_gathers node.held a hs e))

pub gathered_kept : (w : WorldState) → ((x : List ℕ) (r : RouterState) → router_of w.routers x ≡ Some r → AreOfLinks r.node) → (x y : List ℕ) (n : ℕ) (hs : List Parts) → gathered_at w x y n ≡ Some hs →
    is_kept_by w y x n ≡ true
gathered_kept w tables x y n hs e =
    let r = by_router w x y n hs e in
    let l = by_link r.0.node y n hs r.2 in
    or_left _ _ (ap (λ o. option_map_or (λ (q : RouterState). option_map_or (λ (k : LinkPeer). asked (asker_of_link k n) q.node.pending) (link_to q.node.links y) false) o false) r.1
    ∙ ap (λ o. option_map_or (λ (k : LinkPeer). asked (asker_of_link k n) r.0.node.pending) o false) l.1 ∙ list_asked r.0.node (tables x r.0 r.1) (asker_of_link l.0 n) hs l.2)

-- ---- one event

-- a neighbour's link that is there then was there before, where something was held for it
pub link_before : (node : NodeState) (event : Event) (y : List ℕ) → StaysTo node event y → (l : LinkPeer) → link_to (after node event).links y ≡ Some l → is_some (link_at node.links l.link.0) ≡ true →
    link_to node.links y ≡ Some l
link_before node event y stays l found there = by (link_to node.links y) refl
  where
    by : (o : Option LinkPeer) → link_to node.links y ≡ o → link_to node.links y ≡ Some l
    by None e = absurd (false≢true (sym (ap is_some (stays.new l e found)) ∙ there))
    by (Some k) e =
        let both : Some k ≡ Some l = sym (stays.old k e) ∙ found in
        let one : k ≡ l = cc in
        e ∙ ap (λ z. Some z) one

-- the router that heard of it, or another one
pub heard_gathered : (routers : Routers) (a : List ℕ) (r : RouterState) → router_of routers a ≡ Some r → (event : Event) (x y : List ℕ) (n : ℕ) (hs : List Parts) →
    gathered_of (router_of (with_router (with_router routers a (hearing r event)) a (having_told r event)) x) y n ≡ Some hs →
    (gathered_of (router_of routers x) y n ≡ Some hs) ⊎ ((a ≡ x) × (gathered_by (after r.node event) y n ≡ Some hs))
heard_gathered routers a r found event x y n hs e = by (is_named a x) refl
  where
    then : Routers
    then = with_router (with_router routers a (hearing r event)) a (having_told r event)

    by : (t : Bool) → is_named a x ≡ t → (gathered_of (router_of routers x) y n ≡ Some hs) ⊎ ((a ≡ x) × (gathered_by (after r.node event) y n ≡ Some hs))
    by true f = let one : a ≡ x = same_is a x f in inr (one, sym (ap (λ o. gathered_of o y n) (router_then routers a r found event)) ∙ ap (λ z. gathered_of (router_of then z) y n) one ∙ e)
    by false f = inl (sym (ap (λ o. gathered_of o y n) (router_apart routers a r found event x f)) ∙ e)

-- ---- what was said

module _ (acts : List Numbered) (x : Numbered) (before : Earlier acts x) (report rl : List ReportLine) where
  pub gathered_grows : (name : List ℕ) (line : ℕ) (hs : List Parts) → IsGathered acts report name line hs → IsGathered (acts ++ x ∷ []) (report ++ rl) name line hs
  gathered_grows name line hs g = record {
    latest = latest_kept acts x name line g.latest;
    said = λ c i. let s = g.said c i in (s.0, said_kept acts x before report rl name line (record { line = s.0; content = c }) s.1);
  }

-- what is held may come with the line of a final
pub released_said : (acts : List Numbered) (report : List ReportLine) (name : List ℕ) (line : ℕ) (hs : List Parts) → IsGathered acts report name line hs → (c : Parts) → In c hs → (tag : ℕ) → is_other_line acts tag ≡ true →
    IsSaidTo acts report name line (record { line = tag; content = c })
released_said acts report name line hs g c i tag other =
    let s = (g.said c i).1 in
    record { place = s.place; saying = s.saying; stands = s.stands; line_is = inr (g.latest, other); reply_is = s.reply_is; query = s.query }

pub in_held : (node : NodeState) (a : Asker) (c : Parts) → In c (held_for node.held a) → (hs : List Parts) × (held_list node.held a ≡ Some hs) × In c hs
in_held node a c i = by (held_list node.held a) refl (subst (λ z. In c z) (list_held node.held a) i)
  where
    by : (o : Option (List Parts)) → held_list node.held a ≡ o → In c (option_map_or (λ (hs : List Parts). hs) o []) → (hs : List Parts) × (held_list node.held a ≡ Some hs) × In c hs
    by None e k = absurd k
    by (Some hs) e k = (hs, e, k)

-- ---- of a router that hears of an event

-- replies are held for who is up
pub list_up : (node : NodeState) → AreOfLinks node → (a : Asker) (hs : List Parts) → held_list node.held a ≡ Some hs → is_some (link_at node.links a.link.0) ≡ true
list_up node of a hs e = by (find (λ g. is_for a g) node.held) refl e
  where
    up : (o : Option LinkPeer) → option_map_or (λ l. not (is_router l.peer.role)) o false ≡ true → is_some o ≡ true
    up None k = absurd (false≢true k)
    up (Some l) k = refl

    by : (o : Option GatheringState) → find (λ g. is_for a g) node.held ≡ o → option_map (λ (g : GatheringState). g.held) o ≡ Some hs → is_some (link_at node.links a.link.0) ≡ true
    by None f k = absurd (none-some hs k)
    by (Some g) f k =
        let i = find_in (λ z. is_for a z) node.held g f in
        ap (λ (z : Asker). is_some (link_at node.links z.link.0)) (sym (who_is a g.asker i.1)) ∙ up (link_at node.links g.asker.link.0) (each_in (λ z. leads_to_client node.links z.asker.link.0 ≡ true) node.held g of.of_clients i.0)

pub old_gathered : (w : WorldState) (a : List ℕ) (r : RouterState) → router_of w.routers a ≡ Some r → (y : List ℕ) (n : ℕ) (hs : List Parts) (l : LinkPeer) → link_to r.node.links y ≡ Some l →
    held_list r.node.held (asker_of_link l n) ≡ Some hs → gathered_at w a y n ≡ Some hs
old_gathered w a r found y n hs l linked held =
    ap (λ o. gathered_of o y n) found ∙ ap (λ o. option_and_then (λ (k : LinkPeer). held_list r.node.held (asker_of_link k n)) o) linked ∙ held

abbrev pub is_from : Event → Bool
is_from (Up link peer) = false
is_from (Down link) = false
is_from (From link msg) = true

pub step_old : (node : NodeState) (event : Event) (a : Asker) (hs : List Parts) → is_from event ≡ false → IsGathering node event a hs → held_list node.held a ≡ Some hs
step_old node event a hs other (inl e) = e
step_old node event a hs other (inr (inl b)) = absurd (false≢true (sym other ∙ ap is_from b.came))
step_old node event a hs other (inr (inr b)) = absurd (false≢true (sym other ∙ ap is_from b.came))

-- where a link comes up or goes down, what is held then was held before
pub quiet_gathered : (w : WorldState) (a : List ℕ) (r : RouterState) → router_of w.routers a ≡ Some r → AreOfLinks r.node → (event : Event) → is_from event ≡ false →
    ((y : List ℕ) (l : LinkPeer) → link_to (after r.node event).links y ≡ Some l → StaysTo r.node event y) → (y : List ℕ) (n : ℕ) (hs : List Parts) → gathered_by (after r.node event) y n ≡ Some hs →
    gathered_at w a y n ≡ Some hs
quiet_gathered w a r found of event other stays y n hs e =
    let l = by_link (after r.node event) y n hs e in
    let was = step_old r.node event (asker_of_link l.0 n) hs other (gather_step r.node (asker_of_link l.0 n) hs event l.2) in
    old_gathered w a r found y n hs l.0 (link_before r.node event y (stays y l.0 l.1) l.0 l.1 (list_up r.node of (asker_of_link l.0 n) hs was)) was

-- where routers are as before, but for what weighs on them
pub nodes_gathered : (w v : WorldState) → ((x : List ℕ) → option_map (λ r. r.node) (router_of v.routers x) ≡ option_map (λ r. r.node) (router_of w.routers x)) →
    (x y : List ℕ) (n : ℕ) (hs : List Parts) → gathered_at v x y n ≡ Some hs → gathered_at w x y n ≡ Some hs
nodes_gathered w v same x y n hs e = read (router_of w.routers x) ∙ ap (option_and_then (λ node. gathered_by node y n)) (sym (same x)) ∙ sym (read (router_of v.routers x)) ∙ e
  where
    read : (o : Option RouterState) → gathered_of o y n ≡ option_and_then (λ node. gathered_by node y n) (option_map (λ (r : RouterState). r.node) o)
    read None = refl
    read (Some r) = refl
