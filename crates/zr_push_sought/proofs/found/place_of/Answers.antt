use Rattle.zr_lists.proofs.Places.{found_place}
use Rattle.zr_local.proofs.Held.{holder_order}
use Rattle.zr_local.specs.Holders.{holder_cmp}
use Rattle.zr_local.specs.declared.holder.Holder.{Holder}
use Rattle.zr_push_sought.proofs.found.place_of.Goals as goal

pub returns : goal.returns
returns c = found_place holder_cmp (λ (h : Holder). h) holder_order c.args.holders.now c.args.who.now _ c.requires c.binary_search.ensures.bound c.binary_search.ensures.position
