-- Each message stands behind those before it.
use Rattle.std.proofs.Common.{◌≡◌, ◌∙◌, length, ap, subst, refl, arith, rules}
use Rattle.std.specs.List.{AllByRecursion}
use Rattle.std.specs.Vec.Iter.{into_iter_items, into_iter_len}
use Rattle.zr_hist.specs.Words.{seen}
use Rattle.zr_lists.proofs.Prefixes.{prefix_self, prefix_trans}
use Rattle.zr_port.specs.Coming.{sight}
use Rattle.zr_wire.specs.Writing.{IsSpelled}
use Rattle.zr_admin.proofs.Sending.{makes_one, none_delivered, one_more, still}
use Rattle.zr_admin.proofs.delivering.deliver_each.Goals as goal

pub returns-in-Err-clause-stopped : goal.returns-in-Err-clause-stopped
returns-in-Err-clause-stopped g c =
    let e = c.in-Err.ensures in (
      into_iter_items c.loop-msg.rest,
      still c.args.link (λ h m x. g.P.Port.refuses_message c.args.port.now h c.args.link m x) (into_iter_items c.args.messages) (into_iter_items c.loop-msg.rest) (sight c.args.pass.now) (sight c.loop-msg.pass)
          (sight c.deliver.new.pass) c.loop-msg.invariant.sent (e.unchanged, e.prefix),
      record { msg = c.in-Some.msg; others = into_iter_items c.next.new.self; first = c.in-Some.ensures.items; refused = e.refused },
    )

pub loop-msg-init : goal.loop-msg-init
loop-msg-init g c =
    let full : into_iter_len c.args.messages ≡ length (into_iter_items c.args.messages) = search rules in
    record {
      same = (refl, refl);
      prefix = prefix_self (seen c.args.pass.now);
      spelled = c.requires.spelled;
      sent = none_delivered c.args.link (λ h m x. g.P.Port.refuses_message c.args.port.now h c.args.link m x) (into_iter_items c.args.messages) (sight c.args.pass.now);
      long = full;
    }

pub loop-msg-preserved : goal.loop-msg-preserved
loop-msg-preserved g c =
    let inv = c.loop-msg.invariant in
    let done = c.in_default-deliver.ensures in
    record {
      same = (done.same.0 ∙ inv.same.0, done.same.1 ∙ inv.same.1);
      prefix = prefix_trans _ _ _ inv.prefix done.prefix;
      spelled = (subst (λ xs. AllByRecursion IsSpelled xs) c.in-Some.ensures.items inv.spelled).1;
      sent = one_more c.args.link (λ h m x. g.P.Port.refuses_message c.args.port.now h c.args.link m x) (into_iter_items c.args.messages) (into_iter_items c.loop-msg.rest) (into_iter_items c.next.new.self) c.in-Some.msg
          (sight c.args.pass.now) (sight c.loop-msg.pass) (sight c.deliver.new.pass) inv.sent c.in-Some.ensures.items
          (makes_one c.args.link (λ h m x. g.P.Port.refuses_message c.args.port.now h c.args.link m x) c.in-Some.msg c.loop-msg.pass c.deliver.new.pass done.added);
      long = omega (arith, c.in-Some.ensures.len, inv.long, ap length c.in-Some.ensures.items);
    }
