-- What planning an event anew makes of the end of a link: the link's outbox has returned to its mark, and the plan's parcels are packed from there on.
use Rattle.std.proofs.Common.{◌≡◌, ℕ, ◌+◌, ◌<◌, Bool, true, List, length, Option, Some, None, option_map, refl, sym, ap, subst, ◌∙◌}
use Rattle.std.specs.Prelude.{is_some, IfSome}
use Rattle.zr_msg.specs.declared.msg.Msg.{Msg}
use Rattle.zr_frame.specs.Outbox.{OutboxState}
use Rattle.zr_frame_pack.specs.Marks.{MarkState, at_mark, IsMarkOf, IsLater}
use Rattle.zr_frame_pack.specs.Packing.{parcels_of}
use Rattle.zr_frame_pack.proofs.Returning.{back_later}
use Rattle.zr_router_queue.specs.declared.plan.Plan.{Plan}
use Rattle.zr_router_queue.specs.Tables.{LinkQueue, is_droppable, with_parcels}
use Rattle.zr_router_queue.specs.Ends.{EndState, PlanState, IsAsked, IsOver, IsPlan, IsPlannedFor}
use Rattle.zr_router_queue.specs.Planned.{planned}
use Rattle.zr_router_queue.proofs.Plans.{parcels_are}

-- the queue with another outbox
abbrev pub queue_at : LinkQueue → OutboxState → LinkQueue
queue_at q o = record { link = q.link; role = q.role; is_up = q.is_up; outbox = o; batches = q.batches; closed = q.closed }

-- an outbox that is seen as it was leaves the queue as it was
pub queue_back : (q was : LinkQueue) (o : OutboxState) → q ≡ was → o ≡ q.outbox → queue_at q o ≡ was
queue_back q was o is back = ap (λ z. queue_at q z) back ∙ is

-- an outbox that is seen as another one
pub outbox_is : (q was : LinkQueue) (o seen : OutboxState) → q ≡ was → seen ≡ o → queue_at q seen ≡ queue_at was o
outbox_is q was o seen is same = ap (λ z. queue_at z seen) is ∙ ap (λ z. queue_at was z) same

-- a plan that is kept, of a ring that was asked then
pub planned_anew : (messages : List Msg) (now : EndState) (q : LinkQueue) (o back later : OutboxState) (mark : MarkState) (p : PlanState) → IsMarkOf o.names mark → back ≡ at_mark o mark →
    IsLater back.names later.names → q.outbox ≡ at_mark later mark → q.closed ≡ None →
    p.parcels.batches ≡ (parcels_of back messages).batches → p.parcels.outbox ≡ (parcels_of back messages).outbox → p.droppable ≡ is_droppable messages →
    now.queue ≡ q → now.plan ≡ Some p → (count : ℕ) → count ≡ length p.parcels.batches → (now.free < count → IsOver q count) → IsPlannedFor messages now
planned_anew messages now q o back later mark p is here since at unclosed batches outbox droppable same plan count counted over =
    let mine : now.queue.outbox ≡ back = ap (λ (z : LinkQueue). z.outbox) same ∙ at ∙ (back_later o back later mark is here since).0 ∙ sym here in
    let parcels = parcels_are p.parcels.batches p.parcels.outbox (parcels_of back messages) batches outbox ∙ ap (λ z. parcels_of z messages) (sym mine) in
    subst (λ (x : Option PlanState). IsPlan messages now x) (sym plan)
    (ap (λ (z : LinkQueue). z.closed) same ∙ unclosed, parcels, droppable, λ few. subst (λ (z : LinkQueue). IsOver z (length p.parcels.batches)) (sym same) (subst (λ n. IsOver q n) counted (over (subst (λ n. now.free < n) (sym counted) few))))

-- a link that an event has closed has no plan
pub planned_none : (messages : List Msg) (e : EndState) → e.plan ≡ None → is_some e.queue.closed ≡ true → IsPlannedFor messages e
planned_none messages e none shut = subst (λ (x : Option PlanState). IsPlan messages e x) (sym none) shut

pub some_map : {X Y : Type 0} (f : X → Y) (o : Option X) → is_some o ≡ true → is_some (option_map f o) ≡ true
some_map f None e = e
some_map f (Some x) e = refl

-- the ring was asked where there are parcels
pub asked_anew : (old now : EndState) (p : PlanState) (calls : ℕ) → now.ring ≡ old.ring → calls ≡ old.calls → now.plan ≡ Some p →
    (0 < length p.parcels.batches → now.calls ≡ calls + 1) → IsAsked old now
asked_anew old now p calls ring same plan called =
    (ring, subst (λ (x : Option PlanState). IfSome x (λ p. 0 < length p.parcels.batches → now.calls ≡ old.calls + 1)) (sym plan) (λ some. called some ∙ ap (λ n. n + 1) same))

-- ---- a plan that is given

-- what holds of the plan holds of the one that is there
pub of_plan : (o : Option PlanState) (p : PlanState) (P : PlanState → Type 0) → o ≡ Some p → P p → IfSome o P
of_plan o p P is h = subst (λ (x : Option PlanState). IfSome x P) (sym is) h

pub plan_so : (o : Option PlanState) (p : PlanState) (P : PlanState → Type 0) → o ≡ Some p → IfSome o P → P p
plan_so o p P is h = subst (λ (x : Option PlanState). IfSome x P) is h

-- the plan that is there
pub plan_is : (o : OutboxState) (kept : Option Plan) (p : Plan) → kept ≡ Some p → option_map (planned o) kept ≡ Some (planned o p)
plan_is o kept p is = ap (λ k. option_map (planned o) k) is

-- the ring is given the batches of the plan: the queue's outbox has come to stand behind them, and then they are queued
pub plan_given : (was at now : LinkQueue) (o : OutboxState) (batches : List (List ℕ)) (plan : Option PlanState) (p : PlanState) → plan ≡ Some p →
    p.parcels ≡ record { batches = batches; outbox = o } → at ≡ queue_at was o → now ≡ with_parcels at (record { batches = batches; outbox = at.outbox }) →
    IfSome plan (λ q. now ≡ with_parcels was q.parcels)
plan_given was at now o batches plan p is parcels here given =
    of_plan plan p (λ q. now ≡ with_parcels was q.parcels) is
    (given ∙ ap (λ z. with_parcels z (record { batches = batches; outbox = z.outbox })) here ∙ ap (λ z. with_parcels was z) (sym parcels))

pub none_there : (o : Option PlanState) (P : PlanState → Type 0) → o ≡ None → IfSome o P
none_there o P is = subst (λ (x : Option PlanState). IfSome x P) (sym is) tt
