-- At an accepted mark the flow begins: nothing under way has a tag of the phase, no declaration is under way, so the routers' rows are what the
-- clients have declared, and the routers' tables agree (`AreSettled`, which is shown of settled worlds elsewhere).
use Rattle.std.proofs.Common.{◌≡◌, ℕ, Bool, true, false, List, [], ◌∷◌, ◌++◌, Option, Some, None, ◌<◌, refl, sym, ap, ◌∙◌, arith}
use Rattle.std.specs.Prelude.{◌&&◌, ◌||◌, not, nat_lt, filter, is_some, IfSome}
use Rattle.std.specs.List.{list_all}
use Rattle.std.specs.Option.{option_map_or}
use Rattle.std.proofs.lemmas.Bool.{false≢true, true≢false, and_parts, and_left, and_right, or_left, not_from_false, ltb-true}
use Rattle.zr_id.specs.Zid.{is_named}
use Rattle.zr_tree.specs.Laws.{IsGraph}
use Rattle.zr_tree.specs.Walk.{graph_of}
use Rattle.zr_tree.specs.Tree.{reached}
use Rattle.zr_local.specs.Rows.{declared_set}
use Rattle.zr_log.specs.Known.{decls}
use Rattle.zr_world_spec.specs.World.{Tagged, EndState, End, RouterState, ClientState, WorldState, router_of, client_of, end_of, is_up, is_unbroken, is_calm, is_calm_end, is_met, is_settled, wire_at}
use Rattle.zr_world_spec.specs.Joined.{graph}
use Rattle.zr_world_spec.specs.Moments.{Numbered, ascends, Moment}
use Rattle.zr_guarantee.specs.Item.{Carried}
use Rattle.zr_guarantee.specs.Broker.{is_attached, takes, is_for, is_line_of}
use Rattle.zr_world_spec.proofs.Clients.{same_clients}
use Rattle.zr_guarantee.specs.Sent.{item_of, sent_to}
use Rattle.zr_world_spec.proofs.Keyed.{there, found_entry}
use Rattle.zr_world_spec.proofs.Ends.{end_order, same_end}
use Rattle.zr_world_spec.proofs.Fits.{up_of}
use Rattle.zr_lists.proofs.Tests.{filter_none_of_all, weaker, all_both}
use Rattle.zr_law_samples.proofs.Places.{hops, along, bare}
use Rattle.zr_law_settled.proofs.Worlds.{queue_at}
use Rattle.zr_law_samples.proofs.Watch.{Passes}
use Rattle.zr_law_samples.proofs.Pair.{Pair, items, fits, passes_down, held, OnWay, Between, Flows, IsRouted}
use Rattle.zr_law_samples.proofs.Held.{foreign_wanted, foreign_kept}
use Rattle.zr_law_samples.proofs.Numbers.{none_later}
use Rattle.zr_law_samples.proofs.Tags.{Tags, item_tag}
use Rattle.zr_law_declared.proofs.Homes.{router_at}
use Rattle.zr_law_declared.proofs.FlowActs.{GoesDeclared}
use Rattle.zr_law_declared.proofs.AtRest.{attached_is, are_declared}
use Rattle.zr_law_samples.proofs.Asking.{rows_take}
use Rattle.zr_law_samples.proofs.Always.{Always}
use Rattle.zr_law_samples.proofs.Routed.{AreReady, pair_of, routed}

-- what is known of the tables of a settled world whose routers are joined: each reaches each, has the graph of the world, and knows what the
-- clients of each have declared
pub record AreSettled (w : WorldState) : Type 0 where
  pub is_graph : IsGraph (graph w)
  pub reaches : (x z : List ℕ) → is_some (router_of w.routers x) ≡ true → is_some (router_of w.routers z) ≡ true → reached (graph w) x z ≡ true
  pub graphs : (x : List ℕ) (r : RouterState) → router_of w.routers x ≡ Some r → graph_of r.node.base.records ≡ graph w
  pub logs : (x z : List ℕ) (rx rz : RouterState) → router_of w.routers x ≡ Some rx → router_of w.routers z ≡ Some rz → decls rx.node.known z ≡ declared_set rz.node.rows

-- what is known of a moment right after a mark
pub record Marked (before : List Numbered) (mark : ℕ) (now : Moment) : Type 0 where
  pub always : Always before now
  pub tags : Tags (λ i. nat_lt i mark) now
  pub settled : is_settled now.world ≡ true
  pub tables : AreSettled now.world

-- ---- plain lists

-- the samples among the messages have their tags
items_pass : (t : ℕ → Bool) (ws : List Tagged) → list_all (λ x. t x.tag) ws ≡ true → list_all (λ i. t i.line) (items ws) ≡ true
items_pass t [] h = refl
items_pass t (x ∷ xs) h =
    let parts = and_parts (t x.tag) (list_all (λ y. t y.tag) xs) h in
    all_both (λ i. t i.line) (item_of x.msg x.tag) (items xs) (item_tag t x.msg x.tag parts.0) (items_pass t xs parts.1)

-- what passes at an end
pub wire_passes : (t : Tagged → Bool) (o : Option EndState) → IfSome o (Passes t) → list_all t (wire_at o) ≡ true
wire_passes t None h = refl
wire_passes t (Some s) h = h.0

pub queue_passes : (t : Tagged → Bool) (o : Option EndState) → IfSome o (Passes t) → list_all t (queue_at o) ≡ true
queue_passes t None h = refl
queue_passes t (Some s) h = h.1

module _ (before : List Numbered) (mark : ℕ) (now : Moment) (h : Marked before mark now) where
  abbrev w : WorldState
  w = now.world

  -- what is settled of an end
  settled_end : (e : End) (s : EndState) → end_of w.ends e ≡ Some s → (is_met w e s ≡ true) × (is_calm_end s ≡ true)
  settled_end e s found = and_parts (is_met w e s) (is_calm_end s) (found_entry end_order same_end (λ x. is_met w x.0 x.1 && is_calm_end x.1) w.ends e s h.settled found)

  calm_end : (e : End) → (list_all is_calm (wire_at (end_of w.ends e)) ≡ true) × (list_all is_calm (queue_at (end_of w.ends e)) ≡ true)
  calm_end e = by (end_of w.ends e) refl
    where
      by : (o : Option EndState) → end_of w.ends e ≡ o → (list_all is_calm (wire_at o) ≡ true) × (list_all is_calm (queue_at o) ≡ true)
      by None k = (refl, refl)
      by (Some s) k = and_parts (list_all is_calm s.wire) (list_all is_calm s.queue) (settled_end e s k).1

  -- an end that is up is that of an unbroken link
  unbroken_up : (e : End) (s : EndState) → end_of w.ends e ≡ Some s → s.up ≡ true → s.unbroken ≡ true
  unbroken_up e s found up = by s.up up (settled_end e s found).0
    where
      by : (b : Bool) → b ≡ true → (not b || (s.unbroken && (not (is_some (router_of w.routers e.1)) || is_up w.ends (e.1, e.0)))) ≡ true → s.unbroken ≡ true
      by true k met = (and_parts s.unbroken (not (is_some (router_of w.routers e.1)) || is_up w.ends (e.1, e.0)) met).0
      by false k met = absurd (false≢true k)

  -- ---- clients

  g : GoesDeclared before now
  g = h.always.declared

  -- a client is attached as long as its link is unbroken
  unbroken_is : (d : List ℕ) (s : ClientState) → client_of w.clients d ≡ Some s → is_unbroken w.ends (s.router, d) ≡ is_attached before d
  unbroken_is d s e = attached_is before now g d s e

  home_is : (d x : List ℕ) (s : ClientState) → client_of w.clients d ≡ Some s → is_some (end_of w.ends (x, d)) ≡ true → x ≡ s.router
  home_is d x s e k = sym (g.goes.clients.homes x d s e k)

  client_apart : (name : List ℕ) → is_some (client_of w.clients name) ≡ true → is_some (router_of w.routers name) ≡ false
  client_apart name k = let s = there (client_of w.clients name) k in g.goes.clients.apart name s.0 s.1

  pub ready : AreReady before now.world
  ready = record {
    sound = g.goes.sound;
    apart = client_apart;
    homes = home_is;
    is_graph = h.tables.is_graph;
    reaches = h.tables.reaches;
    graphs = h.tables.graphs;
    logs = h.tables.logs;
    linked = λ d s e attached. g.goes.clients.ups s.router d s e (unbroken_is d s e ∙ attached);
    asked = λ d s r k e attached er ek carried.
        rows_take before d s w r.node.rows k.link (g.spoken.clients d s e) (g.ascend s.router r er)
        (λ kind id. (are_declared before now g s.router r er h.settled).rows d k kind id (record { attached = attached; home_is = g.homed d ∙ ap router_at e }) ek) carried;
  }

  -- to who is neither a router nor attached no end is up
  pub detached : (d : List ℕ) → is_some (router_of w.routers d) ≡ false → is_attached before d ≡ false → (x : List ℕ) → up_of (end_of w.ends (x, d)) ≡ false
  detached d no_router gone x = by (end_of w.ends (x, d)) refl
    where
      taken : is_some (end_of w.ends (x, d)) ≡ true → is_some (client_of w.clients d) ≡ true
      taken k = sym (ap (λ b. b || is_some (client_of w.clients d)) no_router) ∙ g.goes.sound.neighbours x d k

      cut : (s : ClientState) → client_of w.clients d ≡ Some s → (z : EndState) → end_of w.ends (x, d) ≡ Some z → z.unbroken ≡ false
      cut s e z k =
          sym (ap (λ o. option_map_or (λ (q : EndState). q.unbroken) o false) k) ∙ ap (λ y. is_unbroken w.ends (y, d)) (home_is d x s e (ap is_some k)) ∙ unbroken_is d s e ∙ gone

      at : (z : EndState) → end_of w.ends (x, d) ≡ Some z → (o : Option ClientState) → client_of w.clients d ≡ o → (b : Bool) → z.up ≡ b → b ≡ false
      at z k o e false u = refl
      at z k None e true u = absurd (true≢false (sym (taken (ap is_some k)) ∙ ap is_some e))
      at z k (Some s) e true u = absurd (true≢false (sym (unbroken_up (x, d) z k u) ∙ cut s e z k))

      by : (o : Option EndState) → end_of w.ends (x, d) ≡ o → up_of o ≡ false
      by None k = refl
      by (Some z) k = at z k (client_of w.clients d) refl z.up refl

  -- who is not attached is to have nothing
  pub wants_nothing : (publisher receiver : List ℕ) → is_attached before receiver ≡ false → (carried : Carried) → is_for before publisher receiver carried ≡ false
  wants_nothing publisher receiver gone carried =
      and_right (not (is_named publisher receiver)) (is_attached before receiver && takes before receiver carried) (and_left (is_attached before receiver) (takes before receiver carried) gone)

  pub who_is_attached : (d : List ℕ) → is_attached before d ≡ true → (s : ClientState) × (client_of w.clients d ≡ Some s)
  who_is_attached d k = by (client_of w.clients d) refl
    where
      by : (o : Option ClientState) → client_of w.clients d ≡ o → (s : ClientState) × (client_of w.clients d ≡ Some s)
      by None e = absurd (true≢false (sym k ∙ (g.spoken.others d e).attached))
      by (Some s) e = (s, e)

  -- ---- nothing is under way that is a line of the phase

  module _ (phase : List Numbered) (later : ascends mark phase ≡ true) (publisher : List ℕ) where
    old : (t : ℕ) → nat_lt t mark ≡ true → is_line_of phase publisher t ≡ false
    old t k = let lt : t < mark = ltb-true t mark k in none_later publisher t mark phase (omega arith) later

    pub nothing_sent : (receiver : List ℕ) → filter (λ i. is_line_of phase publisher i.line) (sent_to now.report receiver) ≡ []
    nothing_sent receiver = filter_none_of_all (λ i. is_line_of phase publisher i.line) (λ i. nat_lt i.line mark) (λ i k. old i.line k) (sent_to now.report receiver) (h.tags.sends_only receiver)

    foreign : (ws : List Tagged) → list_all (λ x. nat_lt x.tag mark) ws ≡ true → list_all (λ i. not (is_line_of phase publisher i.line)) (items ws) ≡ true
    foreign ws all = weaker (λ i. nat_lt i.line mark) (λ i. not (is_line_of phase publisher i.line)) (λ i k. not_from_false (is_line_of phase publisher i.line) (old i.line k)) (items ws)
        (items_pass (λ t. nat_lt t mark) ws all)

    -- ---- the flow begins

    module _ (receiver : List ℕ) (sa sd : ClientState) (ea : client_of now.world.clients publisher ≡ Some sa) (ed : client_of now.world.clients receiver ≡ Some sd)
        (attached : is_attached before receiver ≡ true) where
      abbrev pub the_pair : Pair
      the_pair = pair_of before phase now.world ready publisher receiver sa sd ea ed attached

      pub the_routes : IsRouted the_pair
      the_routes = routed before phase now.world ready publisher receiver sa sd ea ed attached

      old_fits : (x y : List ℕ) (ws : List Tagged) → list_all (λ z. nat_lt z.tag mark) ws ≡ true → list_all (fits the_pair x y) ws ≡ true
      old_fits x y ws all = weaker (λ z. nat_lt z.tag mark) (fits the_pair x y) (λ z k. or_left (not (is_line_of phase publisher z.tag)) (passes_down the_pair x y z.msg)
          (not_from_false (is_line_of phase publisher z.tag) (old z.tag k))) ws all

      wire_old : (e : End) → list_all (λ z. nat_lt z.tag mark) (wire_at (end_of w.ends e)) ≡ true
      wire_old e = wire_passes (λ x. nat_lt x.tag mark) (end_of w.ends e) (h.tags.waits e)

      queue_old : (e : End) → list_all (λ z. nat_lt z.tag mark) (queue_at (end_of w.ends e)) ≡ true
      queue_old e = queue_passes (λ x. nat_lt x.tag mark) (end_of w.ends e) (h.tags.waits e)

      pub starts : Flows the_pair [] now
      starts = record {
        routers = λ x. refl;
        clients = same_clients now.world.clients;
        ends_are = λ e. refl;
        calm = λ e. (calm_end e).0;
        calm_queues = λ e. (calm_end e).1;
        wires = λ x y. old_fits x y (wire_at (end_of w.ends (x, y))) (wire_old (x, y));
        queues = λ x z r. old_fits z x (queue_at (end_of w.ends (x, z))) (queue_old (x, z));
        flow = ap (λ z. z ++ along (held the_pair now) (hops receiver (the_pair.first ∷ the_pair.more) publisher)) (nothing_sent receiver)
            ∙ bare (OnWay the_pair) (Between the_pair) publisher (held the_pair now) (held the_pair now) []
            (λ to r s k. (
              foreign_kept the_pair to (items (queue_at (end_of w.ends (r, to)))) (foreign (queue_at (end_of w.ends (r, to))) (queue_old (r, to))),
              foreign_wanted the_pair (items (wire_at (end_of w.ends (r, s)))) (foreign (wire_at (end_of w.ends (r, s))) (wire_old (r, s))),
            ))
            receiver (the_pair.first ∷ the_pair.more) the_routes.whole_way;
      }
