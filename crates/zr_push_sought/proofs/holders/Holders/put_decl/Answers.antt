use Rattle.std.proofs.Common.{List, ◌∷◌, ◌++◌, subst}
use Rattle.zr_local.specs.declared.holder.Holder.TheVariants.{Source}
use Rattle.zr_log_set.proofs.Decls.{decl_order}
use Rattle.zr_log_set.specs.Decls.{without_decl}
use Rattle.zr_msg.specs.Decl.{decl_cmp}
use Rattle.zr_msg.specs.declared.decl.Decl.{Decl}
use Rattle.zr_push_sought.specs.Holders.{HoldJust}
use Rattle.zr_push_sought.specs.Pairs.{of_set}
use Rattle.zr_push_sought.proofs.Alike.{alike_back, hold_alike, not_there, out_of_place}
use Rattle.zr_push_sought.proofs.holders.Holders.put_decl.Goals as goal

pub returns-in-Ok : goal.returns-in-Ok
returns-in-Ok c = λ rest just.
    hold_alike c.put.new.self _ _
    (alike_back (of_set c.args.name c.args.decls.now ++ rest) ((Source c.args.name, c.index-decls-at.result) ∷ (of_set c.args.name (without_decl c.args.decls.now c.args.decl.now) ++ rest)) (out_of_place (λ (d : Decl). (Source c.args.name, d)) decl_cmp (λ (d : Decl). d) decl_order c.args.decls.now c.args.decl.now c.in-Ok.at c.index-decls-at.result rest c.in-Ok.ensures c.index-decls-at.is))
    (c.put.ensures (of_set c.args.name (without_decl c.args.decls.now c.args.decl.now) ++ rest) just)

pub returns-in_default : goal.returns-in_default
returns-in_default c = λ rest just.
    subst (λ (decls : List Decl). HoldJust (of_set c.args.name decls ++ rest) c.args.self.now) (not_there decl_cmp (λ (d : Decl). d) c.args.decls.now c.args.decl.now c.place_of.result c.place_of.ensures c.in_default.not-Ok) just
