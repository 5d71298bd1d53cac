use Rattle.std.proofs.Common.{refl}
use Rattle.zr_outside.specs.declared.host.Answer.TheVariants as answer
use Rattle.zr_serve.proofs.Reaching.{accept_gives, accept_waits, accept_ends, accept_fails}
use Rattle.zr_serve.proofs.service.accept.Goals as goal

pub returns-in-Link-clause-going : goal.returns-in-Link-clause-going
returns-in-Link-clause-going g c =
    λ held. accept_gives answer.Link _ _ _ _ _ _ _ held _ _ c.in-Link.ensures.told refl c.start.ensures.told (rw c.one-weight.ensures at c.start.ensures.started) c.start.ensures.links

pub returns-in-Quiet-clause-going : goal.returns-in-Quiet-clause-going
returns-in-Quiet-clause-going g c = λ held. accept_waits answer.Quiet _ _ _ _ held _ c.in-Quiet.ensures.told refl

pub returns-in-End-clause-stops : goal.returns-in-End-clause-stops
returns-in-End-clause-stops g c = λ held. accept_ends answer.End _ _ _ _ held _ c.in-End.ensures.told refl

pub returns-in-End-clause-done : goal.returns-in-End-clause-done
returns-in-End-clause-done g c = λ it. c.in-End.ensures.ended.cause tt

pub returns-in-Failed-clause-stops : goal.returns-in-Failed-clause-stops
returns-in-Failed-clause-stops g c = λ held. accept_fails answer.Failed _ _ _ _ held _ c.in-Failed.ensures.told refl

pub returns-in-Failed-clause-host : goal.returns-in-Failed-clause-host
returns-in-Failed-clause-host g c = λ it. c.in-Failed.ensures.failed.cause tt
