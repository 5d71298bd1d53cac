use Rattle.std.proofs.Common.{◌≡◌, IfSome, sym, subst, ◌∙◌}
use Rattle.zr_local.specs.declared.holder.Holder.TheVariants.{Source}
use Rattle.zr_push_sought.specs.Found.{has_holder}
use Rattle.zr_push_sought.specs.Sought.{by_meeting, is_in_log}
use Rattle.zr_push_sought.proofs.Covering.{none_in_log}
use Rattle.zr_push_sought.proofs.search.is_in_log.Goals as goal

pub returns-else-has : goal.returns-else-has
returns-else-has c =
    let tells : has_holder c.in-Some.found.now.holders.items (Source c.args.log.now.source) ≡ is_in_log (by_meeting c.args.sought) c.args.key.now c.args.log.now =
    subst (λ o. IfSome o (λ f. has_holder f.now.holders.items (Source c.args.log.now.source) ≡ is_in_log (by_meeting c.args.sought) c.args.key.now c.args.log.now)) c.in-Some.is c.requires in
    c.if-has.false ∙ sym (none_in_log c.args.sought c.args.key.now c.args.log.now (sym tells ∙ sym c.has.ensures ∙ c.if-has.false))
