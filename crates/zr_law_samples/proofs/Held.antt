-- What the steps of a phase do to plain lists of messages and items, to one end's wire and queue, and what an end and a name of a moment say of
-- the world at the mark.
use Rattle.std.proofs.Common.{◌≡◌, ℕ, Bool, true, false, cond, List, [], ◌∷◌, ◌++◌, map, Option, Some, None, refl, sym, ap, ◌∙◌, append-nil}
use Rattle.std.specs.Prelude.{◌&&◌, not, is_some, is_none}
use Rattle.std.specs.List.{list_all, cons_option}
use Rattle.std.specs.Option.{option_map}
use Rattle.std.proofs.lemmas.Bool.{true≢false, false≢true, and_parts, not-true}
use Rattle.std.proofs.lemmas.Grind.{flat_map-append}
use Rattle.std.proofs.lemmas.List.Elements.{filter-append}
use Rattle.zr_id.specs.Zid.{is_named}
use Rattle.zr_msg.specs.declared.msg.Msg.{Msg}
use Rattle.zr_world_spec.specs.World.{Tagged, EndState, RouterState, End, Ends, Clients, router_of, end_of, sent, queued, wire_at}
use Rattle.zr_world_spec.specs.Moments.{Numbered, Moment}
use Rattle.zr_guarantee.specs.Item.{Item, Carried}
use Rattle.zr_guarantee.specs.Broker.{is_for}
use Rattle.zr_guarantee.specs.Sent.{carried_by, items_of, item_of}
use Rattle.zr_world_spec.proofs.Clients.{SameClients}
use Rattle.zr_world_spec.proofs.Names.{same_name}
use Rattle.zr_lists.proofs.Tests.{all_both, filter_none_of_all}
use Rattle.zr_law_settled.proofs.Worlds.{queue_at}
use Rattle.zr_law_samples.proofs.Carried.{carried_in}
use Rattle.zr_law_samples.proofs.Tags.{item_tag}
use Rattle.zr_law_samples.proofs.Pair.{Pair, items, all_tagged, of_publisher, wanted_of, kept_for, has_router, idle_router, Flows, IsRouted}

-- ---- plain lists

pub items_both : (xs ys : List Tagged) → items (xs ++ ys) ≡ items xs ++ items ys
items_both xs ys = flat_map-append (λ x. item_of x.msg x.tag) xs ys

-- the items of messages with one tag have it
pub items_tag : (t : ℕ → Bool) (tag : ℕ) → t tag ≡ true → (ms : List Msg) → list_all (λ i. t i.line) (items (all_tagged tag ms)) ≡ true
items_tag t tag h [] = refl
items_tag t tag h (x ∷ xs) = all_both (λ i. t i.line) (item_of x tag) (items (all_tagged tag xs)) (item_tag t x tag h) (items_tag t tag h xs)

-- they are what the messages carry, with the tag
pub items_are : (tag : ℕ) (ms : List Msg) → items (all_tagged tag ms) ≡ map (λ x. record { line = tag; carried = x }) (carried_in ms)
items_are tag [] = refl
items_are tag (z ∷ ms) = by (carried_by z) (items_are tag ms)
  where
    by : (o : Option Carried) → items (all_tagged tag ms) ≡ map (λ x. record { line = tag; carried = x }) (carried_in ms) →
        items_of o tag ++ items (all_tagged tag ms) ≡ map (λ x. record { line = tag; carried = x }) (cons_option o (carried_in ms))
    by None ih = ih
    by (Some x) ih = ap (λ z. record { line = tag; carried = x } ∷ z) ih

-- messages that together carry nothing carry nothing each
pub each_none : (ms : List Msg) → carried_in ms ≡ [] → list_all (λ z. is_none (carried_by z)) ms ≡ true
each_none [] h = refl
each_none (z ∷ ms) h = by (carried_by z) h (each_none ms)
  where
    by : (o : Option Carried) → cons_option o (carried_in ms) ≡ [] → (carried_in ms ≡ [] → list_all (λ z. is_none (carried_by z)) ms ≡ true) → (is_none o && list_all (λ z. is_none (carried_by z)) ms) ≡ true
    by None k ih = ih k
    by (Some x) k ih = absurd (cc)

-- the oldest one of a list may have gone
pub loses : (t : Tagged → Bool) (one : Tagged) (xs : List Tagged) (b : Bool) (ws : List Tagged) → (b ≡ true → ws ≡ one ∷ xs) → list_all t ws ≡ true → list_all t (cond b xs ws) ≡ true
loses t one xs true ws e h = (and_parts (t one) (list_all t xs) (ap (list_all t) (sym (e refl)) ∙ h)).1
loses t one xs false ws e h = h

-- a change of an end that adds to its wire, or to its queue
pub wire_adds : (b : Bool) (one : Tagged) (o o' : Option EndState) → wire_at o' ≡ wire_at o → is_some o' ≡ is_some o →
    cond b (wire_at (option_map (λ z. sent z one.msg one.tag) o')) (wire_at o') ≡ cond (b && is_some o) (wire_at o ++ one ∷ []) (wire_at o)
wire_adds false one o o' e i = e
wire_adds true one None None e i = refl
wire_adds true one None (Some y) e i = absurd (true≢false i)
wire_adds true one (Some x) None e i = absurd (false≢true i)
wire_adds true one (Some x) (Some y) e i = ap (λ z. z ++ one ∷ []) e

pub queue_adds : (b : Bool) (ms : List Msg) (tag : ℕ) (o o' : Option EndState) → queue_at o' ≡ queue_at o → is_some o' ≡ is_some o →
    cond b (queue_at (option_map (λ z. queued z ms tag) o')) (queue_at o') ≡ queue_at o ++ cond (b && is_some o) (all_tagged tag ms) []
queue_adds false ms tag o o' e i = e ∙ sym (append-nil (queue_at o))
queue_adds true ms tag None None e i = refl
queue_adds true ms tag None (Some y) e i = absurd (true≢false i)
queue_adds true ms tag (Some x) None e i = absurd (false≢true i)
queue_adds true ms tag (Some x) (Some y) e i = ap (λ z. z ++ all_tagged tag ms) e

module _ (p : Pair) where
  pub wanted_both : (xs ys : List Item) → wanted_of p (xs ++ ys) ≡ wanted_of p xs ++ wanted_of p ys
  wanted_both xs ys = filter-append (λ i. p.by i.line && is_for p.before p.publisher p.receiver i.carried) xs ys

  pub kept_both : (to : List ℕ) (xs ys : List Item) → kept_for p to (xs ++ ys) ≡ kept_for p to xs ++ kept_for p to ys
  kept_both to xs ys = by (is_named p.receiver to)
    where
      by : (b : Bool) → cond b (of_publisher p (xs ++ ys)) (wanted_of p (xs ++ ys)) ≡ cond b (of_publisher p xs) (wanted_of p xs) ++ cond b (of_publisher p ys) (wanted_of p ys)
      by true = filter-append (λ i. p.by i.line) xs ys
      by false = wanted_both xs ys

  pub kept_none : (to : List ℕ) → kept_for p to [] ≡ []
  kept_none to = by (is_named p.receiver to)
    where
      by : (b : Bool) → cond b (of_publisher p []) (wanted_of p []) ≡ []
      by true = refl
      by false = refl

  -- items with a foreign tag are none of the publisher's
  pub foreign_wanted : (xs : List Item) → list_all (λ i. not (p.by i.line)) xs ≡ true → wanted_of p xs ≡ []
  foreign_wanted xs h = filter_none_of_all (λ i. p.by i.line && is_for p.before p.publisher p.receiver i.carried) (λ i. not (p.by i.line))
      (λ i k. ap (λ b. b && is_for p.before p.publisher p.receiver i.carried) (not-true (p.by i.line) k)) xs h

  pub foreign_kept : (to : List ℕ) (xs : List Item) → list_all (λ i. not (p.by i.line)) xs ≡ true → kept_for p to xs ≡ []
  foreign_kept to xs h = by (is_named p.receiver to)
    where
      by : (b : Bool) → cond b (of_publisher p xs) (wanted_of p xs) ≡ []
      by true = filter_none_of_all (λ i. p.by i.line) (λ i. not (p.by i.line)) (λ i k. not-true (p.by i.line) k) xs h
      by false = foreign_wanted xs h

module _ (p : Pair) (routed : IsRouted p) (done : List Numbered) (now : Moment) (h : Flows p done now) where
  abbrev es : Ends
  es = now.world.ends

  -- an end that is there now was there at the mark
  pub there : (e : End) (s : EndState) → end_of es e ≡ Some s → is_some (end_of p.world.ends e) ≡ true
  there e s found = sym (h.ends_are e) ∙ ap is_some found

  -- a router and another one's name
  pub apart : (x y : List ℕ) → has_router p x ≡ true → has_router p y ≡ false → is_named x y ≡ false
  apart x y r n = by (is_named x y) refl
    where
      by : (b : Bool) → is_named x y ≡ b → b ≡ false
      by false k = refl
      by true k = absurd (true≢false (sym r ∙ ap (has_router p) (same_name x y k) ∙ n))

  -- a router had the same tables at the mark
  pub router_was : (x : List ℕ) (r : RouterState) → router_of now.world.routers x ≡ Some r → (q : RouterState) × (router_of p.world.routers x ≡ Some q) × (idle_router q ≡ idle_router r)
  router_was x r found = by (router_of p.world.routers x) refl (sym (h.routers x) ∙ ap (option_map idle_router) found)
    where
      by : (o : Option RouterState) → router_of p.world.routers x ≡ o → option_map idle_router o ≡ Some (idle_router r) → (q : RouterState) × (router_of p.world.routers x ≡ Some q) × (idle_router q ≡ idle_router r)
      by None e k = absurd (false≢true (ap is_some k))
      by (Some q) e k = (q, e, cc)

  -- clients that are the same but for queries and requests are those at the mark
  pub clients_still : (clients : Clients) → SameClients now.world.clients clients → SameClients p.world.clients clients
  clients_still clients same = record { names = same.names ∙ h.clients.names; each = λ q. same.each q ∙ h.clients.each q }

  -- the end of an on-way router is there
  pub end_is : (e : End) → is_some (end_of p.world.ends e) ≡ true → is_some (end_of es e) ≡ true
  end_is e k = h.ends_are e ∙ k
