use Rattle.std.proofs.Common.{◌++◌, sym, subst, ◌∙◌}
use Rattle.zr_index.specs.Pairs.{Pairs}
use Rattle.zr_local.specs.declared.holder.Holder.{Holder}
use Rattle.zr_push_sought.specs.Holders.{HoldsJust}
use Rattle.zr_push_sought.proofs.Kept.{no_pair, pair_is}
use Rattle.zr_push_sought.proofs.kind_index.KindIndex.take.Goals as goal

pub returns-then-is_kind : goal.returns-then-is_kind
returns-then-is_kind c = λ ps just.
    c.remove_from.ensures ps (subst (λ (qs : Pairs Holder). HoldsJust (qs ++ ps) c.args.self.now.index) (pair_is c.args.sought (c.args.who.now, c.args.decl.now) (sym c.is_kind.ensures ∙ c.if-is_kind.true)) just)

pub returns-else-is_kind : goal.returns-else-is_kind
returns-else-is_kind c = λ ps just.
    subst (λ (qs : Pairs Holder). HoldsJust (qs ++ ps) c.args.self.now.index) (no_pair c.args.sought (c.args.who.now, c.args.decl.now) (sym c.is_kind.ensures ∙ c.if-is_kind.false)) just
