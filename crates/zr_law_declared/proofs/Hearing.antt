-- A router that has heard of an event, whose clients were told: its ends are as they were but for queues, and it is as the event leaves it but for what
-- it told. So what sees neither of the two reads the same.
use Rattle.std.proofs.Common.{◌≡◌, ℕ, List, Option, Some, ap, ◌∙◌}
use Rattle.zr_id.specs.Zid.{is_named}
use Rattle.zr_msg.specs.declared.event.Event.{Event}
use Rattle.zr_world_spec.specs.World.{Tagged, RouterState, EndState, End, Ends, Routers, router_of, end_of, with_router, with_queue}
use Rattle.zr_world_spec.specs.Acts.{all_queued, hearing, told_to, having_told, all_told}
use Rattle.zr_world_spec.proofs.Keyed.{set_twice}
use Rattle.zr_world_spec.proofs.Ends.{keep_all_queued, keep_waiting}
use Rattle.zr_law_settled.proofs.Spreading.{Name}

-- what the router sends waits, and behind it what its clients are told
abbrev pub all_heard : Ends → Name → RouterState → Event → ℕ → Ends
all_heard es x r event tag = all_told (all_queued es x r.node event tag) x r event tag

pub keep_heard : {Y : Type 0} (es : Ends) (x : Name) (r : RouterState) (event : Event) (tag : ℕ) (f : Option EndState → Y) (q : End) → ((s : EndState) (ws : List Tagged) → f (Some (with_queue s ws)) ≡ f (Some s)) →
    f (end_of (all_heard es x r event tag) q) ≡ f (end_of es q)
keep_heard es x r event tag f q blind =
    keep_waiting (all_queued es x r.node event tag) x (told_to r event) tag f q (λ s. blind s _) ∙ keep_all_queued es x r.node event tag f q (λ s. blind s _)

-- the router is set twice, and the second counts
pub heard_router : {Y : Type 0} (f : Option RouterState → Y) (routers : Routers) (x q : Name) (r : RouterState) (event : Event) →
    f (router_of (with_router (with_router routers x (hearing r event)) x (having_told r event)) q) ≡ f (router_of (with_router routers x (having_told r event)) q)
heard_router f routers x q r event = ap (λ rs. f (router_of rs q)) (set_twice (is_named x) routers (hearing r event) (having_told r event))
