use Rattle.std.proofs.Common.{◌≡◌, None, Some, ap, rules}
use Rattle.std.specs.Option.{IsSome}
use Rattle.zr_carrier.specs.Kept.{wires_in}
use Rattle.zr_carrier.specs.Wire.{without_oldest}
use Rattle.zr_carrier.proofs.Setting.{set_back, set_none}
use Rattle.zr_carrier.proofs.plain.PlainCarrier.receive.Goals as goal

pub returns-in-Some-clause-rest : goal.returns-in-Some-clause-rest
returns-in-Some-clause-rest c =
    let old = c.args.self.now.wires in
    let found : wires_in old c.args.from c.args.to ≡ Some c.in-Some.wire.now = search rules in
    let there : IsSome (wires_in old c.args.from c.args.to) = search rules in
    set_back c.args.from c.args.to c.in-Some.wire.now c.receive.new.self (λ w. without_oldest w) (wires_in old) (wires_in (c.get_mut.follows.lender c.receive.new.self))
    (λ f t. ((c.get_mut.follows.holds c.receive.new.self).3 there).0 (f, t)) found c.receive.ensures.rest

pub returns-in-None-clause-rest : goal.returns-in-None-clause-rest
returns-in-None-clause-rest c =
    let old = c.args.self.now.wires in
    let none : wires_in old c.args.from c.args.to ≡ None = search rules in
    set_none c.args.from c.args.to (λ w. without_oldest w) (wires_in old) (wires_in c.get_mut.follows.lender-at-none)
    (λ f t. ap (λ z. wires_in z f t) c.get_mut.follows.holds-at-none) none
