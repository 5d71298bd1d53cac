use Rattle.std.proofs.Common.{rules}
use Rattle.std.proofs.lemmas.Fn.{always_returns_same}
use Rattle.zr_msg.specs.Decl.{decl_cmp}
use Rattle.zr_log_set.proofs.Decls.{decl_order}
use Rattle.zr_lists.proofs.Places.{found_place}
use Rattle.zr_local.specs.Owners.{owned_decl}
use Rattle.zr_local.proofs.owners.place_of.Goals as goal

pub returns : goal.returns
returns c =
    found_place decl_cmp owned_decl decl_order c.args.items.now c.args.decl.now _ c.requires c.binary_search_by.ensures.bound
    (c.binary_search_by.ensures.position (λ o. decl_cmp o.decl c.args.decl.now) (always_returns_same _ _ _ (λ a r g called. search rules)))
