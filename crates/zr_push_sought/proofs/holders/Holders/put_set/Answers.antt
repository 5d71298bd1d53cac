use Rattle.std.proofs.Common.{List, ◌++◌, take, subst, arith}
use Rattle.std.proofs.lemmas.List.{take_all}
use Rattle.zr_local.specs.declared.holder.Holder.TheVariants.{Source}
use Rattle.zr_msg.specs.declared.decl.Decl.{Decl}
use Rattle.zr_push_sought.specs.Holders.{HoldJust}
use Rattle.zr_push_sought.specs.Pairs.{of_set}
use Rattle.zr_push_sought.proofs.Alike.{hold_alike, next_in}
use Rattle.zr_push_sought.proofs.holders.Holders.put_set.Goals as goal

pub loop-decl-preserved : goal.loop-decl-preserved
loop-decl-preserved c = λ rest just.
    hold_alike c.put.new.self _ _ (next_in (λ (d : Decl). (Source c.args.name, d)) c.args.decls.now c.loop-decl.decl-index c.decl-item.result rest (omega arith) c.decl-item.is)
    (c.put.ensures (of_set c.args.name (take c.loop-decl.decl-index c.args.decls.now) ++ rest) (c.loop-decl.invariant rest just))

pub returns : goal.returns
returns c = λ rest just.
    subst (λ (decls : List Decl). HoldJust (of_set c.args.name decls ++ rest) c.loop-decl.self) (take_all c.loop-decl.decl-index c.args.decls.now (omega arith)) (c.loop-decl.invariant rest just)
