use Rattle.std.proofs.Common.{arith}
use Rattle.std.proofs.lemmas.List.{drop_all}
use Rattle.zr_key.specs.Key.{IsKeyText}
use Rattle.zr_told_spec.specs.declared.place.Place.{Place}
use Rattle.zr_told_interested.proofs.Left.{all_hold, next_holds}
use Rattle.zr_told_interested.proofs.by_key.know_places.Goals as goal

pub loop-place-preserved : goal.loop-place-preserved
loop-place-preserved c =
    next_holds (λ (x : Place). IsKeyText x.key) c.args.places.now c.loop-place.place-index c.place-item.result (omega arith) c.place-item.is c.text-text.ensures.key c.loop-place.invariant

pub returns : goal.returns
returns c = all_hold (λ (x : Place). IsKeyText x.key) c.args.places.now c.loop-place.place-index (drop_all c.loop-place.place-index c.args.places.now (omega arith)) c.loop-place.invariant
