use Rattle.std.proofs.Common.{◌∙◌, List, [], ◌∷◌, ◌++◌, sym, ap, subst, arith}
use Rattle.zr_msg.specs.declared.decl.Decl.{Decl}
use Rattle.zr_msg.specs.declared.msg.Msg.TheVariants.{Snap}
use Rattle.zr_law_sent.specs.Passing.{IsPassable}
use Rattle.zr_tests_rows.proofs.Passing.{snap_passes}
use Rattle.zr_tests_rows.proofs.sendable.snap.Goals as goal

pub returns : goal.returns
returns c =
    subst (λ (ds : List Decl). IsPassable (Snap c.args.source 1 ds)) (sym (c.in_ok-new.ensures ∙ c.in_ok-push.ensures.items ∙ ap (λ (z : List Decl). z ++ c.args.decl ∷ []) c.new-decls.ensures.items))
    (snap_passes c.args.source 1 c.args.decl (omega arith) c.text-text.ensures.key.short)
