-- The crew has started it, or handed it back.
use Rattle.std.proofs.Common.{refl}
use Rattle.zr_serve.proofs.Opening.{handed_on, handed_back, ok_by, unsaid_by}
use Rattle.zr_serve.proofs.service.start_inner.Goals as goal

pub returns-in-Ok-clause-handed : goal.returns-in-Ok-clause-handed
returns-in-Ok-clause-handed g c = handed_on _ _ _ _ _ c.in-Ok.ensures.told c.in-Ok.ensures.failed.later

pub returns-in-Err-clause-handed : goal.returns-in-Err-clause-handed
returns-in-Err-clause-handed g c = ok_by c.say_refused.result (handed_back _ _ _ _ _ _ c.in-Err.ensures.told (c.in-Err.ensures.failed.cause refl)) c.say_refused.ensures.said

pub returns-in-Err-clause-unsaid : goal.returns-in-Err-clause-unsaid
returns-in-Err-clause-unsaid g c =
    unsaid_by c.say_refused.result (λ part. (c.in-Err.ensures.told, c.in-Err.ensures.failed.later, part)) c.say_refused.ensures.part

pub returns-in-Err-clause-only : goal.returns-in-Err-clause-only
returns-in-Err-clause-only g c = c.say_refused.ensures.only
