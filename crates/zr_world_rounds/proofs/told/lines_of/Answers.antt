use Rattle.std.proofs.Common.{◌++◌, refl, sym, ap, ◌∙◌, arith}
use Rattle.zr_law_rounds.proofs.Parts.{joined_all}
use Rattle.zr_world_rounds.proofs.Telling.{joined_step}
use Rattle.zr_world_rounds.proofs.told.lines_of.Goals as goal

pub loop-share-init : goal.loop-share-init
loop-share-init c = λ told. (c.in_ok-text.ensures.items, refl, refl)

pub loop-share-preserved : goal.loop-share-preserved
loop-share-preserved c =
    joined_step c.args.shares.now c.loop-share.share-index c.share-item.result c.loop-share.text.items c.loop-share.last.now c.extend_from_slice.new.self.items c.last_line-last.result.now (omega arith) c.share-item.is
    c.loop-share.invariant (sym c.is_behind.ensures ∙ c.if-not-is_behind.false) (c.in_ok-extend_from_slice.ensures.items ∙ ap (λ t. c.loop-share.text.items ++ t) c.text.ensures) c.last_line-last.ensures

pub returns : goal.returns
returns c = λ told. joined_all c.args.shares.now c.loop-share.share-index c.loop-share.text.items c.loop-share.last.now (omega arith) (c.loop-share.invariant told)
