use Rattle.std.proofs.Common.{◌∙◌}
use Rattle.zr_lists.specs.Place.{IsPlace}
use Rattle.zr_lists.proofs.Puts.{place_has}
use Rattle.zr_local.proofs.Held.{holder_order}
use Rattle.zr_local.specs.Holders.{holder_cmp}
use Rattle.zr_local.specs.declared.holder.Holder.{Holder}
use Rattle.zr_push_sought.proofs.found.Found.has.Goals as goal

pub returns : goal.returns
returns c =
    let place : IsPlace holder_cmp (λ (h : Holder). h) c.args.self.now.holders.items c.args.who.now c.place_of.result = rw (← c.deref.ensures.value) c.place_of.ensures in
    c.is_ok.ensures.value ∙ place_has holder_cmp (λ (h : Holder). h) holder_order c.args.self.now.holders.items c.args.who.now c.place_of.result place
