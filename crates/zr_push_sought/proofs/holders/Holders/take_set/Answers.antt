use Rattle.std.proofs.Common.{◌+◌, List, ◌++◌, drop, subst, arith}
use Rattle.std.proofs.lemmas.List.{drop_all}
use Rattle.zr_local.specs.declared.holder.Holder.TheVariants.{Source}
use Rattle.zr_msg.specs.declared.decl.Decl.{Decl}
use Rattle.zr_push_sought.specs.Holders.{HoldJust}
use Rattle.zr_push_sought.specs.Pairs.{Declared, of_set}
use Rattle.zr_push_sought.proofs.Alike.{next_out}
use Rattle.zr_push_sought.proofs.holders.Holders.take_set.Goals as goal

pub loop-decl-preserved : goal.loop-decl-preserved
loop-decl-preserved c = λ rest just.
    c.take.ensures (of_set c.args.name (drop (c.loop-decl.decl-index + 1) c.args.decls.now) ++ rest)
    (subst (λ (xs : List Declared). HoldJust xs c.loop-decl.self) (next_out (λ (d : Decl). (Source c.args.name, d)) c.args.decls.now c.loop-decl.decl-index c.decl-item.result rest (omega arith) c.decl-item.is) (c.loop-decl.invariant rest just))

pub returns : goal.returns
returns c = λ rest just.
    subst (λ (decls : List Decl). HoldJust (of_set c.args.name decls ++ rest) c.loop-decl.self) (drop_all c.loop-decl.decl-index c.args.decls.now (omega arith)) (c.loop-decl.invariant rest just)
