use Rattle.std.proofs.Common.{◌∙◌, ◌∷◌, ◌++◌, [], ap, cond, not, arith}
use Rattle.zr_id.specs.Zid.{is_named}
use Rattle.zr_router_glance.proofs.Others.{one_other}
use Rattle.zr_router_glance.proofs.glancing.others_of.Goals as goal

pub loop-links-preserved : goal.loop-links-preserved
loop-links-preserved c =
    one_other c.args.me.now c.args.records.now c.loop-links.links-index c.links-item.result _ _ _ (omega (arith, c.loop-links-test.true)) c.links-item.is
    (c.in_ok-put_other.ensures ∙ ap (λ x. c.loop-links.others.items ++ cond (not (is_named x c.args.me.now)) (x ∷ []) []) c.id.ensures) c.loop-links.invariant
