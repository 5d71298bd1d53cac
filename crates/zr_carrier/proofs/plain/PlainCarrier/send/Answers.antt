use Rattle.std.proofs.Common.{◌≡◌, Some, rules}
use Rattle.std.specs.Option.{IsSome}
use Rattle.std.proofs.lemmas.Result.{on_ok_weaker, on_err_weaker}
use Rattle.zr_carrier.specs.Kept.{wires_in}
use Rattle.zr_carrier.specs.Wire.{Wire, emptied, with_message}
use Rattle.zr_carrier.proofs.Setting.{set_back}
use Rattle.zr_carrier.proofs.plain.PlainCarrier.send.Goals as goal

pub returns-in-Some-clause-sent : goal.returns-in-Some-clause-sent
returns-in-Some-clause-sent c =
    let old = c.args.self.now.wires in
    let found : wires_in old c.args.from c.args.to ≡ Some c.in-Some.wire.now = search rules in
    let there : IsSome (wires_in old c.args.from c.args.to) = search rules in
    on_ok_weaker c.send.result
    (set_back c.args.from c.args.to c.in-Some.wire.now c.send.new.self (λ (w : Wire). with_message w c.args.msg.now c.args.tag) (wires_in old) (wires_in (c.get_mut.follows.lender c.send.new.self))
    (λ f t. ((c.get_mut.follows.holds c.send.new.self).3 there).0 (f, t)) found) c.send.ensures.sent

pub returns-in-Some-clause-err : goal.returns-in-Some-clause-err
returns-in-Some-clause-err c =
    let old = c.args.self.now.wires in
    let found : wires_in old c.args.from c.args.to ≡ Some c.in-Some.wire.now = search rules in
    let there : IsSome (wires_in old c.args.from c.args.to) = search rules in
    on_err_weaker c.send.result
    (set_back c.args.from c.args.to c.in-Some.wire.now c.send.new.self (λ (w : Wire). emptied w) (wires_in old) (wires_in (c.get_mut.follows.lender c.send.new.self))
    (λ f t. ((c.get_mut.follows.holds c.send.new.self).3 there).0 (f, t)) found) c.send.ensures.err
