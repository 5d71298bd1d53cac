use Rattle.std.proofs.Common.{IfSome, sym, subst, ◌∙◌}
use Rattle.zr_push_sought.specs.Found.{TellClients}
use Rattle.zr_push_sought.specs.Sought.{by_meeting}
use Rattle.zr_push_sought.proofs.Covering.{none_declared}
use Rattle.zr_push_sought.proofs.search.has_declared.Goals as goal

pub returns-else-has-clause-has : goal.returns-else-has-clause-has
returns-else-has-clause-has c =
    let tells : TellClients (by_meeting c.args.sought) c.args.key.now c.args.rows.now c.in-Some.found.now.holders.items =
    subst (λ o. IfSome o (λ f. TellClients (by_meeting c.args.sought) c.args.key.now c.args.rows.now f.now.holders.items)) c.in-Some.is c.requires in
    c.if-has.false ∙ sym (none_declared c.args.rows.now c.args.link.0 c.args.sought c.args.key.now (sym (tells c.args.link.0) ∙ sym c.has.ensures ∙ c.if-has.false))
