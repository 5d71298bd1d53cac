-- Once a router has sent what it sends, its clients are told of others' declarations. That keeps the flow: what is told carries nothing, and all else stays.
use Rattle.std.proofs.Common.{◌≡◌, ℕ, Bool, true, false, cond, not, List, [], ◌++◌, map, Some, refl, ap, ◌∙◌, append-nil}
use Rattle.std.specs.Prelude.{◌&&◌, is_some, is_none}
use Rattle.std.specs.List.{list_all}
use Rattle.std.specs.Option.{option_map}
use Rattle.std.proofs.lemmas.Bool.{or_left, or_right}
use Rattle.zr_id.specs.Zid.{is_named}
use Rattle.zr_msg.specs.declared.event.Event.{Event}
use Rattle.zr_msg.specs.declared.msg.Msg.{Msg}
use Rattle.zr_world_spec.specs.World.{Tagged, RouterState, End, Ends, router_of, end_of, is_calm, wire_at}
use Rattle.zr_world_spec.specs.Acts.{hearing, told_to, telling}
use Rattle.zr_world_spec.specs.Moments.{Numbered, Moment}
use Rattle.zr_world_spec.proofs.Ends.{read_waiting}
use Rattle.zr_lists.proofs.Tests.{all_both, weaker}
use Rattle.zr_world_spec.proofs.Telling.{is_told, told_alone, same_node, same_end_told}
use Rattle.zr_guarantee.specs.Sent.{carried_by}
use Rattle.zr_law_settled.proofs.Worlds.{queue_at}
use Rattle.zr_law_samples.proofs.Held.{items_both, items_are, queue_adds}
use Rattle.zr_law_samples.proofs.Pair.{Pair, items, all_tagged, wanted_of, kept_for, held, way, comes_down, passes_down, fits, idle_router, Flows}
use Rattle.zr_law_samples.proofs.Places.{Spot, Sent, Queue, Wire, along}
use Rattle.zr_law_samples.proofs.ToldMessages.{told_idle, told_none}
use Rattle.zr_law_samples.proofs.Watch.{tagged_all}

module _ (p : Pair) (acts : List Numbered) (m : Moment) (h : Flows p acts m) (x : List ℕ) (r : RouterState) (event : Event) (tag : ℕ) (there : router_of m.world.routers x ≡ Some (hearing r event)) where
  abbrev then : Moment
  then = record { world = telling m.world x r event tag; report = m.report }

  abbrev es : Ends
  es = m.world.ends

  abbrev ms : List ℕ → List Msg
  ms y = told_to r event y

  -- what comes to a queue
  abbrev more : End → List Tagged
  more q = cond (is_named x q.0 && is_some (end_of es q)) (all_tagged tag (ms q.1)) []

  queue_reads : (q : End) → queue_at (end_of then.world.ends q) ≡ queue_at (end_of es q) ++ more q
  queue_reads q = read_waiting es x (told_to r event) tag queue_at q ∙ queue_adds (is_named x q.0) (ms q.1) tag (end_of es q) (end_of es q) refl refl

  passes : (t : Tagged → Bool) → ((z : Msg) → is_told z ≡ true → t (record { msg = z; tag = tag }) ≡ true) → (q : End) → list_all t (queue_at (end_of es q)) ≡ true →
      list_all t (queue_at (end_of then.world.ends q)) ≡ true
  passes t told q k = ap (list_all t) (queue_reads q) ∙ all_both t (queue_at (end_of es q)) (more q) k (by (is_named x q.0 && is_some (end_of es q)))
    where
      by : (b : Bool) → list_all t (cond b (all_tagged tag (ms q.1)) []) ≡ true
      by true = tagged_all t tag (ms q.1) (weaker is_told (λ z. t (record { msg = z; tag = tag })) told (ms q.1) (told_alone r event q.1))
      by false = refl

  same_items : (q : End) → items (queue_at (end_of then.world.ends q)) ≡ items (queue_at (end_of es q))
  same_items q = ap items (queue_reads q) ∙ items_both (queue_at (end_of es q)) (more q)
      ∙ ap (λ z. items (queue_at (end_of es q)) ++ z) (by (is_named x q.0 && is_some (end_of es q))) ∙ append-nil (items (queue_at (end_of es q)))
    where
      by : (b : Bool) → items (cond b (all_tagged tag (ms q.1)) []) ≡ []
      by true = items_are tag (ms q.1) ∙ ap (map (λ c. record { line = tag; carried = c })) (told_none (ms q.1) (told_alone r event q.1))
      by false = refl

  same_held : (s : Spot) → held p then s ≡ held p m s
  same_held (Sent to) = refl
  same_held (Queue at to) = ap (kept_for p to) (same_items (at, to))
  same_held (Wire at source) = same_end_told m.world x r event tag (λ o. wanted_of p (items (wire_at o))) (λ s ws. refl) (at, source)

  pub telling_keeps : Flows p acts (record { world = telling m.world x r event tag; report = m.report })
  telling_keeps = record {
    routers = λ y. same_node m.world x r event tag there (option_map idle_router) refl y ∙ h.routers y;
    clients = h.clients;
    ends_are = λ q. same_end_told m.world x r event tag is_some (λ s ws. refl) q ∙ h.ends_are q;
    calm = λ q. same_end_told m.world x r event tag (λ o. list_all is_calm (wire_at o)) (λ s ws. refl) q ∙ h.calm q;
    calm_queues = λ q. passes is_calm (λ z k. ap not (told_idle z k).0) q (h.calm_queues q);
    wires = λ u v. same_end_told m.world x r event tag (λ o. list_all (fits p u v) (wire_at o)) (λ s ws. refl) (u, v) ∙ h.wires u v;
    queues = λ u v is. passes (fits p v u) (λ z k. or_right (not (p.by tag)) (passes_down p v u z) (or_left (is_none (carried_by z)) (comes_down p v u z) (ap is_none (told_idle z k).1))) (u, v) (h.queues u v is);
    flow = ap (λ f. along f (way p)) (λ i s. same_held s i) ∙ h.flow;
  }
