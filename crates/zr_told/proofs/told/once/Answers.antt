use Rattle.std.proofs.Common.{◌≡◌, ◌++◌, OnErr, OnOk, Some, map, subst, ◌∙◌}
use Rattle.zr_lists.specs.Prefix.{IsPrefixBehind}
use Rattle.zr_told_spec.specs.Rows.{sent_on}
use Rattle.zr_told_spec.specs.Told.{declares}
use Rattle.zr_told.proofs.told.once.Goals as goal

pub returns-clause-ok : goal.returns-clause-ok
returns-clause-ok c =
    subst (λ z. OnOk c.say_each.result (c.say_each.new.out.items ≡ c.args.out.now.items ++ sent_on c.args.link (map (λ w. declares 0 w.0.class w.0.key w.1 (Some c.args.interest.now.id)) z))) (c.deref.ensures.value ∙ c.in_ok-places.ensures) c.say_each.ensures.ok

pub returns-clause-err : goal.returns-clause-err
returns-clause-err c =
    subst (λ z. OnErr c.say_each.result (IsPrefixBehind c.args.out.now.items (sent_on c.args.link (map (λ w. declares 0 w.0.class w.0.key w.1 (Some c.args.interest.now.id)) z)) c.say_each.new.out.items)) (c.deref.ensures.value ∙ c.in_ok-places.ensures) c.say_each.ensures.err
