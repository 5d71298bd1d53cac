use Rattle.std.proofs.Common.{◌≡◌, true, List, map, sym, subst, ◌∙◌, arith}
use Rattle.std.specs.Prelude.{◌||◌}
use Rattle.std.specs.List.{AllByRecursion, AllZip}
use Rattle.zr_hist.specs.Words.{list_of}
use Rattle.zr_node_spec.specs.Event.{on_link}
use Rattle.zr_router_queue.specs.Ends.{EndState, GoesByRings, IsAsked, IsNamed, IsPlannedFor, IsReplay, MayEnter}
use Rattle.zr_router_queue.specs.Held.{ComesSpelled}
use Rattle.zr_router_queue.specs.History.{is_legal}
use Rattle.zr_router_queue.specs.Tables.{open_queues, queued_by, replay}
use Rattle.zr_router_queue.proofs.Rings.{goes_by_rings}
use Rattle.zr_router_queue.proofs.Stepped.{zip_so}
use Rattle.zr_router.specs.Allowed.{AreAllowed, is_allowed}
use Rattle.zr_router.proofs.Refused.{allowed_more}
use Rattle.zr_router.proofs.Heard.{or_first, or_second, used_more}
use Rattle.zr_router.proofs.Entered.{entered, may_enter, written_over}
use Rattle.zr_router.proofs.tables.Tables.enter.Goals.{then-self, else-self}
use Rattle.zr_router.proofs.tables.Tables.enter.Goals as goal

pub enter-requires-clause-may : goal.enter-requires-clause-may
enter-requires-clause-may g c =
    let t = c.args.self.now in
    let e = c.in_ok-entry.ensures in
    subst (λ m. MayEnter m (list_of t.kept) c.in_ok-entry.entry c.prepare.new.ends) (sym t.own)
    (may_enter g.B.Naming.me (list_of t.kept) t.hub t.ends.items c.prepare.new.ends c.args.arrival.event c.args.arrival.outbox c.args.arrival.reason c.args.sent.now c.in_ok-entry.entry
    t.legal c.requires.handled
    (subst (λ (xs : List EndState). AllZip (λ (old new : EndState). (new.queue ≡ old.queue) × IsPlannedFor (on_link old.queue.link c.args.sent.now) new) xs c.prepare.new.ends) c.as_mut_slice-ends.ensures.value e.each)
    (subst (λ (xs : List EndState). AllZip (λ (old new : EndState). IsAsked old new) xs c.prepare.new.ends) c.as_mut_slice-ends.ensures.value e.asked)
    e.entry e.dropped e.closed)

pub invariant_of-self-2 : goal.invariant_of-self-2
invariant_of-self-2 g c =
    let t = c.args.self.now in
    let either : c.if-self.self ≡ (t.used_before || c.args.arrival.is_former) = elim c.if-self.branch [
      | then-self w ↦ w.self-is ∙ or_first t.used_before c.args.arrival.is_former w.if-self.true
      | else-self w ↦ w.self-is ∙ or_second t.used_before c.args.arrival.is_former w.if-self.false
    ] in
    record {
      named = c.enter.ensures.same.0 ∙ t.named;
      own = t.own;
      ruled = t.ruled;
      allowed = subst (λ z. AreAllowed g.B.Naming.policy g.B.Naming.me z) (sym c.enter.ensures.list)
          (allowed_more g.B.Naming.policy g.B.Naming.me (list_of t.kept) c.in_ok-entry.entry t.allowed
          (subst (λ z. is_allowed g.B.Naming.policy (replay g.B.Naming.me (list_of t.kept)).hub.node z ≡ true) (sym c.in_ok-entry.ensures.entry.event_is) c.requires.allowed)
          (subst (λ z. ComesSpelled z) (sym c.in_ok-entry.ensures.entry.event_is) c.requires.spelled));
      used = either ∙ used_more g.B.Naming.me (list_of t.kept) (list_of c.enter.new.kept) c.args.arrival.event c.in_ok-entry.entry t.used_before c.args.arrival.is_former t.used
          c.requires.former c.in_ok-entry.ensures.entry.event_is c.enter.ensures.list;
      legal = subst (λ m. is_legal m (list_of c.enter.new.kept) ≡ true) t.own c.enter.ensures.legal;
      replayed = λ _. subst (λ (xs : List EndState). IsReplay g.B.Naming.me (list_of c.enter.new.kept) t.hub xs)
          (sym (written_over t.ends.len c.enter.new.ends _ (omega (arith, c.enter.auto.ends, c.prepare.auto.ends, c.as_mut_slice-ends.ensures.len))))
          (entered g.B.Naming.me (list_of t.kept) t.hub t.ends.items c.enter.new.ends c.args.arrival.event c.args.arrival.outbox c.args.arrival.reason c.args.sent.now c.in_ok-entry.entry
          (list_of c.enter.new.kept) c.requires.handled c.in_ok-entry.ensures.entry c.enter.ensures.list
          (subst (λ m. map (λ (x : EndState). x.queue) c.enter.new.ends ≡ open_queues (replay m (list_of c.enter.new.kept))) t.own c.enter.ensures.queues)
          (subst (λ m. AllByRecursion (λ x. IsNamed m (list_of c.enter.new.kept) x) c.enter.new.ends) t.own c.enter.ensures.named));
      spelled = λ _. c.requires.handled.spelled;
    }

pub returns-clause-added : goal.returns-clause-added
returns-clause-added g c =
    let t = c.args.self.now in
    let me = g.B.Naming.me in
    let h = list_of t.kept in
    let entry = c.in_ok-entry.entry in
    let e = c.in_ok-entry.ensures in
    let each = subst (λ (xs : List EndState). AllZip (λ (old new : EndState). (new.queue ≡ old.queue) × IsPlannedFor (on_link old.queue.link c.args.sent.now) new) xs c.prepare.new.ends)
    c.as_mut_slice-ends.ensures.value e.each in
    let asked = subst (λ (xs : List EndState). AllZip (λ (old new : EndState). IsAsked old new) xs c.prepare.new.ends) c.as_mut_slice-ends.ensures.value e.asked in
    let given = subst (λ m. AllZip (λ (old new : EndState). new.queue ≡ queued_by (replay m h).hub entry old.queue) c.prepare.new.ends c.enter.new.ends) t.own c.enter.ensures.given in
    let may = may_enter me h t.hub t.ends.items c.prepare.new.ends c.args.arrival.event c.args.arrival.outbox c.args.arrival.reason c.args.sent.now entry t.legal c.requires.handled each asked
    e.entry e.dropped e.closed in
    let rings = goes_by_rings me h entry t.ends.items c.prepare.new.ends c.enter.new.ends may
    (zip_so (λ (old new : EndState). (new.queue ≡ old.queue) × IsPlannedFor (on_link old.queue.link c.args.sent.now) new) (λ (old new : EndState). new.queue ≡ old.queue)
    (λ old new p. p.0) t.ends.items c.prepare.new.ends each)
    asked given c.enter.ensures.rings in (
      entry,
      e.entry,
      c.enter.ensures.list,
      c.enter.ensures.mine,
      c.enter.ensures.seen,
      subst (λ (xs : List EndState). GoesByRings me h entry t.ends.items xs)
          (sym (written_over t.ends.len c.enter.new.ends _ (omega (arith, c.enter.auto.ends, c.prepare.auto.ends, c.as_mut_slice-ends.ensures.len)))) rings,
    )
