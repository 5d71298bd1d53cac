use Rattle.std.proofs.Common.{◌∙◌}
use Rattle.zr_msg.specs.Decl.{decl_cmp}
use Rattle.zr_msg.specs.declared.decl.Decl.{Decl}
use Rattle.zr_lists.specs.Place.{IsPlace}
use Rattle.zr_log_set.proofs.Decls.{place_tells}
use Rattle.zr_log_set.proofs.decl_set.DeclSet.has.Goals as goal

pub returns : goal.returns
returns c =
    let place : IsPlace decl_cmp (λ (d : Decl). d) c.args.self.now c.args.decl.now c.place_of.result = rw (← c.self.view_is, ← c.deref.ensures.value) c.place_of.ensures in
    c.is_ok.ensures.value ∙ place_tells c.args.self.now c.args.decl.now c.place_of.result place
