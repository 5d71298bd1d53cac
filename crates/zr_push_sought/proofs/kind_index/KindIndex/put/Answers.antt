use Rattle.std.proofs.Common.{◌++◌, sym, subst, ◌∙◌}
use Rattle.zr_index.specs.Pairs.{Pairs}
use Rattle.zr_local.specs.declared.holder.Holder.{Holder}
use Rattle.zr_push_sought.specs.Holders.{HoldsJust}
use Rattle.zr_push_sought.specs.Pairs.{pair_of}
use Rattle.zr_push_sought.proofs.Kept.{no_pair, pair_is}
use Rattle.zr_push_sought.proofs.kind_index.KindIndex.put.Goals as goal

pub returns-then-not-is_kind : goal.returns-then-not-is_kind
returns-then-not-is_kind c = λ ps just.
    subst (λ (qs : Pairs Holder). HoldsJust (qs ++ ps) c.args.self.now.index) (sym (no_pair c.args.sought (c.args.who.now, c.args.decl.now) (sym c.is_kind.ensures ∙ c.if-not-is_kind.true))) just

pub returns-in-Ok : goal.returns-in-Ok
returns-in-Ok c = λ ps just.
    subst (λ (qs : Pairs Holder). HoldsJust (qs ++ ps) c.add_to.new.index) (sym (pair_is c.args.sought (c.args.who.now, c.args.decl.now) (sym c.is_kind.ensures ∙ c.if-not-is_kind.false))) (c.in-Ok.ensures ps just)

pub returns-in-Err : goal.returns-in-Err
returns-in-Err c = λ ps just. c.new.ensures (pair_of c.args.sought (c.args.who.now, c.args.decl.now) ++ ps)
