-- What a router's event leads to on all links, where those of the router itself stay: the oldest message on a wire may have been handled by it.
use Rattle.std.proofs.Common.{◌≡◌, ℕ, Bool, true, false, List, [], ◌∷◌, ◌++◌, Option, Some, None, is_some, refl, sym, ap, ◌∙◌, subst, append_assoc, append-nil}
use Rattle.std.specs.List.{AllByRecursion}
use Rattle.std.specs.Option.{option_map_or}
use Rattle.zr_id.specs.Zid.{is_named}
use Rattle.zr_graph.proofs.Names.{same_is}
use Rattle.zr_msg.specs.declared.event.Event.{Event}
use Rattle.zr_node_spec.specs.Tables.{link_to}
use Rattle.zr_node_spec.specs.State.{NodeState}
use Rattle.zr_node_spec.specs.Table.{after}
use Rattle.zr_lists.proofs.Each.{All-each}
use Rattle.zr_world_spec.specs.World.{Tagged, RouterState, End, Ends, WorldState, router_of, client_of, end_of, with_ends}
use Rattle.zr_world_spec.specs.Acts.{sends_to, hearing, sending}
use Rattle.zr_law_numbers.specs.Waiting.{wire_at, queue_at, waits, asks_in, answers_in, link_of}
use Rattle.zr_law_numbers.specs.Deeds.{Half, Deed, MayDoAll, with_deeds}
use Rattle.zr_law_numbers.proofs.Leading.{handled, answered, requested}
use Rattle.zr_law_numbers.proofs.Doing.{Above, Below, Moves, Same, Upper, Lower}
use Rattle.zr_law_numbers.proofs.Neighbours.{half_at, handles_at, StaysTo, IsMeantTo, DoesAt}
use Rattle.zr_law_numbers.proofs.Waits.{asks_among, answers_among, asks_append, answers_append, asks_tagged, answers_tagged, tagged, router_keeps, router_back, keeps_same, back_same, link_same, waits_elsewhere, waits_heard, router_heard, router_elsewhere}

-- the oldest message, if there is one
abbrev pub front : Option Tagged → List Tagged
front o = option_map_or (λ t. t ∷ []) o []

requested_is : (o : Option Tagged) → asks_among (front o) ≡ requested o
requested_is None = refl
requested_is (Some t) = append-nil (asks_in t.tag t.msg)

answered_is : (o : Option Tagged) → answers_among (front o) ≡ answered o
answered_is None = refl
answered_is (Some t) = append-nil (answers_in t.tag t.msg)

-- own deeds of a router's event are fine on its links, as those of the upper end and as those of the lower one
abbrev pub Fits : (above below : List ℕ → List ℕ → Deed → Type 0) → List ℕ → NodeState → Event → ℕ → Type 0
Fits above below a node event tag = (y : List ℕ) (d : Deed) → IsMeantTo node event tag (link_to node.links y) d → above a y d × below y a d

-- Of a world's ends nothing has changed by which messages wait, but that a message for router a is gone from the front of a wire that it has handled.
pub record Fronts (w : WorldState) (es : Ends) (a : List ℕ) (r : RouterState) (event : Event) : Type 0 where
  pub fronts : List ℕ → Option Tagged
  pub queues : (e : End) → queue_at es e ≡ queue_at w.ends e
  pub wires : (x y : List ℕ) → is_named a x ≡ false → wire_at es (x, y) ≡ wire_at w.ends (x, y)
  pub own : (y : List ℕ) → wire_at w.ends (a, y) ≡ front (fronts y) ++ wire_at es (a, y)
  pub handles : (y : List ℕ) → handles_at r.node event y ≡ handled (fronts y)
  pub there : (y : List ℕ) → is_some (link_to (after r.node event).links y) ≡ true → is_some (end_of es (a, y)) ≡ true

module _ (w : WorldState) (es : Ends) (a : List ℕ) (r : RouterState) (found : router_of w.routers a ≡ Some r) (none : client_of w.clients a ≡ None) (event : Event) (tag : ℕ)
    (f : Fronts w es a r event) where
  abbrev half : WorldState
  half = with_ends w es

  abbrev v : WorldState
  v = sending half a r event tag

  half_waits : (x y : List ℕ) → is_named a y ≡ false → waits half x y ≡ waits w x y
  half_waits x y other = (λ i. f.wires y x other i ++ f.queues (x, y) i)

  -- links of others
  pub elsewhere : (x y : List ℕ) → is_named a x ≡ false → is_named a y ≡ false → link_of w x y ≡ link_of v x y
  elsewhere x y ax ay = link_same w v x y
      (waits_elsewhere half a r found event tag x y ax ∙ half_waits x y ay) (waits_elsewhere half a r found event tag y x ay ∙ half_waits y x ax)
      (keeps_same w v x y (router_elsewhere half a r found event tag y ay) refl) (back_same w v x y (router_elsewhere half a r found event tag x ax) refl)

  module _ (y : List ℕ) (other : is_named a y ≡ false) (does : DoesAt r.node event tag y) where
    abbrev o : Option Tagged
    o = f.fronts y

    came : waits w y a ≡ front o ++ waits half y a
    came = ap (λ z. z ++ queue_at w.ends (y, a)) (f.own y) ∙ append_assoc (front o) (wire_at es (a, y)) (queue_at w.ends (y, a)) ∙ ap (λ z. front o ++ (wire_at es (a, y) ++ z)) (sym (f.queues (y, a)))

    sent : waits v a y ≡ waits w a y ++ tagged tag (sends_to r.node event y)
    sent = waits_heard half a r found event tag y (f.there y) ∙ ap (λ z. z ++ tagged tag (sends_to r.node event y)) (half_waits a y other)

    left : waits v y a ≡ waits half y a
    left = waits_elsewhere half a r found event tag y a other

    still : waits half y a ≡ waits v y a
    still = sym left

    abbrev before : Half
    before = half_at r.node y

    may : MayDoAll before (handled o ++ does.own)
    may = subst (λ z. MayDoAll before (z ++ does.own)) (f.handles y) does.may

    module _ (fine : Deed → Type 0) (fits : (d : Deed) → IsMeantTo r.node event tag (link_to r.node.links y) d → fine d) where
      all_fit : AllByRecursion fine does.own
      all_fit = All-each (λ d. IsMeantTo r.node event tag (link_to r.node.links y) d) fine does.own fits does.meant

      upper : Above fine (link_of w a y) (link_of v a y)
      upper = record {
        came = o;
        half = before;
        own = does.own;
        owns = does.owns;
        fits = all_fit;
        may = may;
        asks = ap asks_among sent ∙ asks_append (waits w a y) (tagged tag (sends_to r.node event y))
            ∙ ap (λ z. asks_among (waits w a y) ++ z) (asks_tagged tag (sends_to r.node event y) ∙ does.asks);
        answers = ap answers_among came ∙ answers_append (front o) (waits half y a) ∙ (λ i. answered_is o i ++ answers_among (still i));
        keeps = λ n. keeps_same w v a y (router_elsewhere half a r found event tag y other) refl n;
        before = router_back w a y r found none;
        leaves = λ n. router_back v a y (hearing r event) (router_heard half a r found event tag) none n ∙ does.leaves.back n
            ∙ ap (λ z. (with_deeds before (z ++ does.own)).back n) (f.handles y);
      }

      lower : Below fine (link_of w y a) (link_of v y a)
      lower = record {
        came = o;
        half = before;
        own = does.own;
        owns = does.owns;
        fits = all_fit;
        may = may;
        asks = ap asks_among came ∙ asks_append (front o) (waits half y a) ∙ (λ i. requested_is o i ++ asks_among (still i));
        answers = ap answers_among sent ∙ answers_append (waits w a y) (tagged tag (sends_to r.node event y))
            ∙ ap (λ z. answers_among (waits w a y) ++ z) (answers_tagged tag (sends_to r.node event y) ∙ does.answers);
        back = λ n. back_same w v y a (router_elsewhere half a r found event tag y other) refl n;
        before = router_keeps w y a r found none;
        leaves = λ n. router_keeps v y a (hearing r event) (router_heard half a r found event tag) none n ∙ does.leaves.keeps n
            ∙ ap (λ z. (with_deeds before (z ++ does.own)).keeps n) (f.handles y);
      }

  -- all links, but for those of the router that do not stay
  pub heard_moves : (above below : List ℕ → List ℕ → Deed → Type 0) → Fits above below a r.node event tag → ((y : List ℕ) → StaysTo r.node event y → DoesAt r.node event tag y) → (x y : List ℕ) →
      is_named x y ≡ false → (is_named a x ≡ true → StaysTo r.node event y) → (is_named a y ≡ true → StaysTo r.node event x) → Moves (above x y) (below x y) (link_of w x y) (link_of v x y)
  heard_moves above below fits does x y apart upper_stays lower_stays = by (is_named a x) refl (is_named a y) refl
    where
      by : (b : Bool) → is_named a x ≡ b → (c : Bool) → is_named a y ≡ c → Moves (above x y) (below x y) (link_of w x y) (link_of v x y)
      by false ax false ay = Same (elsewhere x y ax ay)
      by true ax c ay =
          let one : a ≡ x = same_is a x ax in
          subst (λ z. Moves (above z y) (below z y) (link_of w z y) (link_of v z y)) one
          (Upper (upper y (ap (λ z. is_named z y) one ∙ apart) (does y (upper_stays ax)) (above a y) (λ d m. (fits y d m).0)))
      by false ax true ay =
          let one : a ≡ y = same_is a y ay in
          subst (λ z. Moves (above x z) (below x z) (link_of w x z) (link_of v x z)) one (Lower (lower x ax (does x (lower_stays ay)) (below x a) (λ d m. (fits x d m).1)))
