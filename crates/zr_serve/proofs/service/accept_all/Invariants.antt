use Rattle.std.specs.Arc.{arc_value}
use Rattle.std.proofs.Common.{◌≡◌, ◌≤◌, ℕ, true, List, Option}
use Rattle.zr_outside_crew.specs.Crew.{crew_faults, crew_told}
use Rattle.zr_hist.specs.Words.{seen}
use Rattle.zr_outside.specs.Told.{Appends}
use Rattle.zr_serve.specs.Former.{Hears, told_text}
use Rattle.zr_serve.specs.Links.{links_of}
use Rattle.zr_serve.specs.Moments.{moment}
use Rattle.zr_serve.specs.Serving.{Goes}
use Rattle.zr_serve.proofs.service.accept_all.Given as goal

abbrev pub invariant-loop : goal.invariant-loop
invariant-loop g l =
    ((held : Option (List ℕ)) → Goes
    (moment (g.H.Host.calls l.fn.host) (crew_told l.fn.crew) (crew_faults l.fn.crew) held (links_of (λ w. g.H.Words.Rng.stream w) l.id l.fn.serving.policy l.fn.links))
    (moment (g.H.Host.calls l.host) (crew_told l.crew) (crew_faults l.crew) held (links_of (λ w. g.H.Words.Rng.stream w) l.id l.serving.policy l.links)))
    × (g.H.Host.faults l.fn.host ≤ g.H.Host.faults l.host)
    × (g.H.Host.ends l.fn.host ≤ g.H.Host.ends l.host)
    × (g.H.Host.generators l.host ≡ g.H.Host.generators l.fn.host)
    × (l.serving.port ≡ l.fn.serving.port)
    × Appends (told_text l.id l.is_told) (g.E.Sink.held l.fn.err) (g.E.Sink.held l.err)
    × (l.is_told ≡ true → Hears (g.P.Port.is_legal (arc_value l.fn.serving.port)) (g.P.Glancing.was_used (arc_value l.fn.serving.port)) (seen l.serving.pass) true)
    × (g.E.Sink.faults l.err ≡ g.E.Sink.faults l.fn.err)
