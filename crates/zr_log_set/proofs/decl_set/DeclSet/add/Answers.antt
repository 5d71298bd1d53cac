use Rattle.std.proofs.Common.{sym}
use Rattle.zr_msg.specs.Decl.{decl_cmp}
use Rattle.zr_msg.specs.declared.decl.Decl.{Decl}
use Rattle.zr_lists.specs.Place.{IsAt}
use Rattle.zr_log_set.proofs.Decls.{put_there}
use Rattle.zr_log_set.proofs.decl_set.DeclSet.add.Goals as goal

pub returns-in-Ok-clause-ok : goal.returns-in-Ok-clause-ok
returns-in-Ok-clause-ok c =
    let at : IsAt decl_cmp (λ (d : Decl). d) c.args.self.now c.args.decl.now c.in-Ok.field-0 = rw (← c.self.view_is, ← c.deref.ensures.value) c.in-Ok.ensures in
    sym (put_there c.args.self.now c.args.decl.now c.in-Ok.field-0 at)
