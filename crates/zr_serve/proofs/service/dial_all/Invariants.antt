use Rattle.std.proofs.Common.{◌≡◌, ◌≤◌}
use Rattle.zr_outside_crew.specs.Crew.{crew_faults, crew_told}
use Rattle.zr_serve.specs.Links.{links_of}
use Rattle.zr_serve.specs.Moments.{moment}
use Rattle.zr_serve.specs.Serving.{Dials}
use Rattle.zr_serve.proofs.service.dial_all.Given as goal

abbrev pub invariant-loop-target : goal.invariant-loop-target
invariant-loop-target g l =
    Dials l.targets l.target-index
    (moment (g.H.Host.calls l.fn.host) (crew_told l.fn.crew) (crew_faults l.fn.crew) (g.E.Sink.held l.fn.err) (links_of (λ w. g.H.Words.Rng.stream w) l.id l.fn.serving.policy l.fn.links))
    (moment (g.H.Host.calls l.host) (crew_told l.crew) (crew_faults l.crew) (g.E.Sink.held l.err) (links_of (λ w. g.H.Words.Rng.stream w) l.id l.serving.policy l.links))
    × (g.E.Sink.faults l.fn.err ≤ g.E.Sink.faults l.err)
    × (g.H.Host.faults l.fn.host ≤ g.H.Host.faults l.host)
    × (g.H.Host.ends l.fn.host ≤ g.H.Host.ends l.host)
    × (g.E.Sink.faults l.err ≡ g.E.Sink.faults l.fn.err)
    × (g.H.Host.generators l.host ≡ g.H.Host.generators l.fn.host)
    × (l.serving.port ≡ l.fn.serving.port)
