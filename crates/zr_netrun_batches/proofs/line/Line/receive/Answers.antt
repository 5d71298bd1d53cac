use Rattle.std.proofs.Common.{◌≡◌, ◌∙◌, length, sym, arith}
use Rattle.std.specs.VecDeque.{deque_len}
use Rattle.zr_netrun_batches.specs.Coming.{coming}
use Rattle.zr_netrun_batches.proofs.Feeding.{came_but_oldest, line_received, nothing_left, on_ok_given}
use Rattle.zr_netrun_batches.proofs.Tags.{received}
use Rattle.zr_netrun_batches.proofs.line.Line.receive.Goals as goal

pub returns-clause-value : goal.returns-clause-value
returns-clause-value c =
    let l = c.self.inside in
    let read = c.read_on-read in
    let fine = sym c.is_err.ensures.value ∙ c.if-is_err.false in
    let behind = on_ok_given read.result fine read.ensures.goes l.role l.outbox (c.self.invariant c.if-self.false).0 in
    let whole = on_ok_given read.result fine read.ensures.whole in
    let long : deque_len read.new.ready ≡ length read.new.ready.items = omega arith in
    (line_received l.role l.spent l.ready.items (coming l.session l.wire) read.new.ready.items c.pop_front.new.self.items (coming read.new.session read.new.wire) c.args.self.now c.pop_front.result
    c.if-self.false c.self.view_is behind.1
    (received c.pop_front.result read.new.ready.items c.pop_front.new.self.items (coming read.new.session read.new.wire) (deque_len read.new.ready) c.pop_front.ensures.items long
    c.pop_front.ensures.variant (nothing_left l.role l.outbox read.new.session read.new.wire read.new.ready.items behind.0 whole))).0

pub returns-clause-rest : goal.returns-clause-rest
returns-clause-rest c =
    let l = c.self.inside in
    let read = c.read_on-read in
    let fine = sym c.is_err.ensures.value ∙ c.if-is_err.false in
    let behind = on_ok_given read.result fine read.ensures.goes l.role l.outbox (c.self.invariant c.if-self.false).0 in
    let whole = on_ok_given read.result fine read.ensures.whole in
    let long : deque_len read.new.ready ≡ length read.new.ready.items = omega arith in
    (line_received l.role l.spent l.ready.items (coming l.session l.wire) read.new.ready.items c.pop_front.new.self.items (coming read.new.session read.new.wire) c.args.self.now c.pop_front.result
    c.if-self.false c.self.view_is behind.1
    (received c.pop_front.result read.new.ready.items c.pop_front.new.self.items (coming read.new.session read.new.wire) (deque_len read.new.ready) c.pop_front.ensures.items long
    c.pop_front.ensures.variant (nothing_left l.role l.outbox read.new.session read.new.wire read.new.ready.items behind.0 whole))).1

pub invariant_of-self-2 : goal.invariant_of-self-2
invariant_of-self-2 c off =
    let l = c.self.inside in
    let read = c.read_on-read in
    let fine = sym c.is_err.ensures.value ∙ c.if-is_err.false in
    let behind = on_ok_given read.result fine read.ensures.goes l.role l.outbox (c.self.invariant c.if-self.false).0 in (
      behind.0,
      came_but_oldest read.new.session c.pop_front.result read.new.ready.items c.pop_front.new.self.items c.pop_front.ensures.items
          (behind.2 (c.self.invariant c.if-self.false).1),
    )
