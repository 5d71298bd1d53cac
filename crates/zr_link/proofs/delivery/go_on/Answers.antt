-- Each read leads on, and what it gives is delivered.
use Rattle.std.proofs.Common.{◌≡◌, ◌≤◌, ◌∙◌, true, min, refl, sym, subst, [], append-nil}
use Rattle.std.proofs.Math.Nat.{le_refl, le_trans}
use Rattle.zr_lists.proofs.Prefixes.{prefix_trans}
use Rattle.zr_port.specs.Coming.{sight}
use Rattle.zr_session.specs.Session.{SessionState, is_running}
use Rattle.zr_link.specs.Heard.{IsLate, IsIn, IsOpen}
use Rattle.zr_link.specs.Run.{Delivers}
use Rattle.zr_link.proofs.Hearing.{plainly, plainly_some}
use Rattle.zr_link.specs.declared.end.LinkEnd.TheVariants as end
use Rattle.zr_link.proofs.Counts.{IsUnread, counted_err, counted_never, counted_none, moment_none, rose_none, settles_unread}
use Rattle.zr_link.proofs.Going.{Gone, gone_none, gone_more, gone_lost, gone_settled, gone_over, not_gone, open_on, open_gives, leads_by, rose_more, moment_more}
use Rattle.zr_link.proofs.Logged.{tells_none, tells_then}
use Rattle.zr_link.proofs.Unopened.{late_before}
use Rattle.zr_link.proofs.delivery.go_on.Goals as goal

pub loop-init : goal.loop-init
loop-init g c = record {
  same = (refl, refl);
  prefix = ([], append-nil _);
  gone = gone_none _ _ _ _ _;
  running = c.requires.running;
  opened = c.requires.opened;
  counts = (refl, refl);
  reads = rose_none _;
  later = (le_refl _, le_refl _);
  logged = tells_none (λ x. g.L.Log.held x) (λ x. g.L.Log.lost x) c.args.log.now;
  going = c.requires.going;
  moment = moment_none _ _;
}

pub settle-requires-clause-messages : goal.settle-requires-clause-messages
settle-requires-clause-messages g c =
    let given = open_gives c.loop.intake.session c.next.new.self.session c.next.new.self.fed.events.items _ _ _ c.in-Ok.fate c.loop.invariant.opened (plainly c.loop.intake.session c.next.new.self.session _ _ _ _ _ _ c.in-Ok.ensures.heard) in
    rw (c.into_iter-events.ensures.rest ∙ c.take_events.ensures.0) given

pub returns-in-Err-clause-followed : goal.returns-in-Err-clause-followed
returns-in-Err-clause-followed g c =
    let all = gone_lost c.args.link c.args.intake.now.session c.loop.intake.session _ _ _ _ _ c.in-Err.end
    (IsLate (g.S.Source.quiets c.args.source.now) (g.S.Source.quiets c.next.new.source) c.args.intake.now.session.heard (g.C.Clock.last c.args.clock.now) (g.C.Clock.last c.next.new.clock))
    (g.P.Port.refuses_message c.args.port.now) c.loop.invariant.gone (plainly_some c.loop.intake.session _ _ _ c.in-Err.ensures.lost) in
    (all.came, all.goes, all.follows)

pub returns-in-Err-settle-clause-followed : goal.returns-in-Err-settle-clause-followed
returns-in-Err-settle-clause-followed g c =
    let inv = c.loop.invariant in
    let stops = c.in-Err-settle.ensures.err in
    let are = c.into_iter-events.ensures.rest ∙ c.take_events.ensures.0 in
    let all = gone_settled c.args.link c.args.intake.now.session c.loop.intake.session c.next.new.self.session c.next.new.self.fed.events.items stops.0 _ _ _ _ _ _ c.in-Ok.fate c.in-Err-settle.end _
    (IsLate (g.S.Source.quiets c.args.source.now) (g.S.Source.quiets c.next.new.source) c.args.intake.now.session.heard (g.C.Clock.last c.args.clock.now) (g.C.Clock.last c.next.new.clock))
    (g.P.Port.refuses_message c.args.port.now) (λ p l. late_before _ _ _ _ _ _ _ _ p inv.later.0 inv.later.1 inv.moment l.1) inv.gone (plainly c.loop.intake.session c.next.new.self.session _ _ _ _ _ _ c.in-Ok.ensures.heard)
    (subst (λ z. Delivers c.args.link (λ h m x. g.P.Port.refuses_message c.args.port.now h c.args.link m x) z stops.0 (sight c.loop.pass) (sight c.settle.new.pass)) are stops.1) stops.2 in
    (all.came, all.goes, all.follows)

pub loop-preserved : goal.loop-preserved
loop-preserved g c =
    let inv = c.loop.invariant in
    let heard = c.in-Ok.ensures in
    let told = plainly c.loop.intake.session c.next.new.self.session _ _ _ _ _ _ heard.heard in
    let done = c.in_default.ensures in
    let going = done.ok.0 in
    let are = c.into_iter-events.ensures.rest ∙ c.take_events.ensures.0 in
    let kept = sym c.take_events.ensures.1 in
    let reads = rose_more _ _ _ _ inv.reads heard.counted in
    let gone = gone_more c.args.link (λ h m x. g.P.Port.refuses_message c.args.port.now h c.args.link m x) c.args.intake.now.session c.loop.intake.session c.next.new.self.session c.next.new.self.fed.events.items _ _ _ _ _ _ inv.gone (leads_by c.loop.intake.session c.next.new.self.session _ _ _ _ c.in-Ok.fate heard.opening told going)
    (subst (λ z. Delivers c.args.link (λ h m x. g.P.Port.refuses_message c.args.port.now h c.args.link m x) z [] (sight c.loop.pass) (sight c.settle.new.pass)) are done.ok.1) in record {
      same = (done.same.0 ∙ inv.same.0, done.same.1 ∙ inv.same.1);
      prefix = prefix_trans _ _ _ inv.prefix done.prefix;
      gone = subst (λ (z : SessionState). Gone c.args.link (λ h m x. g.P.Port.refuses_message c.args.port.now h c.args.link m x) c.args.intake.now.session z (g.S.Source.left c.args.source.now) (g.S.Source.left c.next.new.source) (sight c.args.pass.now) (sight c.settle.new.pass)) kept gone;
      running = subst (λ (z : SessionState). is_running z.state ≡ true) kept (heard.running going);
      opened = subst (λ (z : SessionState). IsIn IsOpen z) kept (open_on c.loop.intake.session c.next.new.self.session _ _ _ _ c.in-Ok.fate inv.opened told going);
      counts = (counted_none _ _ _ _ heard.fault ∙ inv.counts.0, counted_none _ _ _ _ heard.ended ∙ inv.counts.1);
      reads = reads;
      later = (le_trans inv.later.0 heard.later.0, le_trans inv.later.1 heard.later.1);
      logged = tells_then (λ x. g.L.Log.held x) (λ x. g.L.Log.lost x) c.args.log.now c.loop.log c.settle.new.log inv.logged done.logged;
      going = done.going;
      moment = subst (λ (z : SessionState). min c.args.intake.now.session.heard (g.C.Clock.last c.args.clock.now) ≤ z.heard) kept (moment_more _ _ _ _ _ inv.moment inv.later.1 heard.moment);
    }

pub returns-clause-followed : goal.returns-clause-followed
returns-clause-followed g c =
    let all = gone_over c.args.link c.args.intake.now.session c.loop.intake.session _ _ _ _
    (IsLate (g.S.Source.quiets c.args.source.now) (g.S.Source.quiets c.loop.source) c.args.intake.now.session.heard (g.C.Clock.last c.args.clock.now) (g.C.Clock.last c.loop.clock))
    (g.P.Port.refuses_message c.args.port.now) c.loop.invariant.gone c.loop.invariant.running in
    (all.came, all.goes, all.follows)

pub returns-in-Err-clause-fault : goal.returns-in-Err-clause-fault
returns-in-Err-clause-fault g c = counted_err _ _ _ c.next.result c.in-Err.end end.ReadFault c.in-Err.is c.loop.invariant.counts.0 c.next.ensures.fault

pub returns-in-Err-clause-ended : goal.returns-in-Err-clause-ended
returns-in-Err-clause-ended g c = counted_err _ _ _ c.next.result c.in-Err.end end.PeerEnded c.in-Err.is c.loop.invariant.counts.1 c.next.ensures.ended

pub returns-in-Err-clause-later : goal.returns-in-Err-clause-later
returns-in-Err-clause-later g c =
    let inv = c.loop.invariant in
    (le_trans inv.later.0 c.in-Err.ensures.later.0, le_trans inv.later.1 c.in-Err.ensures.later.1)

pub returns-in-Err-settle-clause-fault : goal.returns-in-Err-settle-clause-fault
returns-in-Err-settle-clause-fault g c =
    let stops = c.in-Err-settle.ensures.err in
    let unread = settles_unread _ stops.0 c.in-Ok.fate c.in-Err-settle.end stops.2 in
    counted_never _ _ _ (counted_none _ _ _ _ c.in-Ok.ensures.fault ∙ c.loop.invariant.counts.0) (λ is. subst IsUnread is unread)

pub returns-in-Err-settle-clause-ended : goal.returns-in-Err-settle-clause-ended
returns-in-Err-settle-clause-ended g c =
    let stops = c.in-Err-settle.ensures.err in
    let unread = settles_unread _ stops.0 c.in-Ok.fate c.in-Err-settle.end stops.2 in
    counted_never _ _ _ (counted_none _ _ _ _ c.in-Ok.ensures.ended ∙ c.loop.invariant.counts.1) (λ is. subst IsUnread is unread)

pub returns-in-Err-settle-clause-later : goal.returns-in-Err-settle-clause-later
returns-in-Err-settle-clause-later g c =
    let inv = c.loop.invariant in
    (le_trans inv.later.0 c.in-Ok.ensures.later.0, le_trans inv.later.1 c.in-Ok.ensures.later.1)

pub returns-clause-fault : goal.returns-clause-fault
returns-clause-fault g c = counted_never _ _ _ c.loop.invariant.counts.0 (λ is. subst IsUnread is tt)

pub returns-clause-ended : goal.returns-clause-ended
returns-clause-ended g c = counted_never _ _ _ c.loop.invariant.counts.1 (λ is. subst IsUnread is tt)

pub returns-clause-later : goal.returns-clause-later
returns-clause-later g c = c.loop.invariant.later

pub returns-in-Err-settle-clause-logged : goal.returns-in-Err-settle-clause-logged
returns-in-Err-settle-clause-logged g c = tells_then (λ x. g.L.Log.held x) (λ x. g.L.Log.lost x) c.args.log.now c.loop.log c.settle.new.log c.loop.invariant.logged c.in-Err-settle.ensures.logged

pub returns-in-Err-clause-gone : goal.returns-in-Err-clause-gone
returns-in-Err-clause-gone g c = not_gone _ c.loop.invariant.going

pub returns-in-Err-settle-clause-gone : goal.returns-in-Err-settle-clause-gone
returns-in-Err-settle-clause-gone g c = c.in-Err-settle.ensures.gone

pub returns-clause-gone : goal.returns-clause-gone
returns-clause-gone g c = not_gone _ c.loop.invariant.going
