use Rattle.zr_lists.proofs.Places.{found_place}
use Rattle.zr_log_set.proofs.Decls.{decl_order}
use Rattle.zr_msg.specs.Decl.{decl_cmp}
use Rattle.zr_msg.specs.declared.decl.Decl.{Decl}
use Rattle.zr_log_set.proofs.decl_set.place_of.Goals as goal

pub returns : goal.returns
returns c =
    found_place decl_cmp (λ (d : Decl). d) decl_order c.args.items.now c.args.decl.now _ c.requires c.binary_search.ensures.bound c.binary_search.ensures.position
