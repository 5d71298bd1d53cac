use Rattle.std.proofs.Common.{◌∙◌, true, false, ap, refl}
use Rattle.zr_serve.specs.Unsaid.{end_of_unsaid}
use Rattle.zr_serve.proofs.Reaching.{dial_linked, dial_lost, dial_untold}
use Rattle.zr_serve.proofs.service.dial.Goals as goal

pub returns-in-Some-clause-dialled : goal.returns-in-Some-clause-dialled
returns-in-Some-clause-dialled g c =
    dial_linked _ true _ _ _ _ _ _ _ _ _ _ (rw c.address-address.ensures at c.in-Some.ensures.told) refl c.start.ensures.told (rw c.weight-weight.ensures at c.start.ensures.started) c.start.ensures.links

pub returns-in-Ok-clause-dialled : goal.returns-in-Ok-clause-dialled
returns-in-Ok-clause-dialled g c = dial_lost _ false _ _ _ _ _ _ _ (rw c.address-address.ensures at c.in-None.ensures.told) refl (rw c.address-address.ensures at c.in-Ok.ensures.said)

pub returns-in-Err-clause-stopped : goal.returns-in-Err-clause-stopped
returns-in-Err-clause-stopped g c = dial_untold _ false _ _ _ _ _ _ _ (rw c.address-address.ensures at c.in-None.ensures.told) refl (rw c.address-address.ensures at c.in-Err.ensures.part)

pub returns-in-Err-clause-only : goal.returns-in-Err-clause-only
returns-in-Err-clause-only g c = λ rose. c.end.ensures ∙ ap end_of_unsaid (c.in-Err.ensures.only rose)
