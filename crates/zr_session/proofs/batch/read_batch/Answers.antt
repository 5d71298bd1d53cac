use Rattle.std.proofs.Common.{◌+◌, ◌-◌, length, arith}
use Rattle.std.proofs.lemmas.Bool.Decides.{nat_tests}
use Rattle.zr_session.proofs.Items.{starts, is_over, is_spent, stops_here, goes_on}
use Rattle.zr_session.proofs.batch.read_batch.Goals as goal

pub items-init : goal.items-init
items-init c = starts _ _ _ _ _ _ _ (omega arith) c.new-c.ensures

pub returns-then-left-eq0 : goal.returns-then-left-eq0
returns-then-left-eq0 c = is_over _ _ _ _ c.items.c _ _ _ c.items.invariant (grind (arith, nat_tests, c.left.ensures, c.if-left-eq0.true))

pub returns-in-Err : goal.returns-in-Err
returns-in-Err c =
    stops_here _ _ _ (length c.args.batch.now - (c.items.counter + 1)) _ c.items.c _ _ _ _ _ _ _ c.items.invariant (omega (arith, c.items.auto.counter-end))
    (grind (arith, nat_tests, c.left.ensures, c.if-left-eq0.false)) c.in-Err.ensures

pub items-preserved : goal.items-preserved
items-preserved c =
    goes_on _ _ _ (length c.args.batch.now - (c.items.counter + 1)) _ _ c.items.c _ _ _ _ _ _ c.items.invariant (omega (arith, c.items.auto.counter-end))
    (grind (arith, nat_tests, c.left.ensures, c.if-left-eq0.false)) c.in-Ok.ensures

pub returns-then-left-eq0-2 : goal.returns-then-left-eq0-2
returns-then-left-eq0-2 c = is_over _ _ _ _ c.items.c _ _ _ c.items.invariant (grind (arith, nat_tests, c.left-2.ensures, c.if-left-eq0-2.true))

pub returns-else-left-eq0-2 : goal.returns-else-left-eq0-2
returns-else-left-eq0-2 c =
    is_spent _ _ _ _ c.items.c _ _ _ c.items.invariant (grind (arith, nat_tests, c.items-test.false)) (grind (arith, nat_tests, c.left-2.ensures, c.if-left-eq0-2.false))
