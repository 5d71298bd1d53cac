-- The session that the job tells is run.
use Rattle.std.proofs.Common.{◌∙◌, ◌++◌, List, ℕ, sym, subst, inr}
use Rattle.std.specs.Arc.{arc_value}
use Rattle.zr_session.specs.Session.{SessionState}
use Rattle.zr_link.specs.Heard.{IsLate}
use Rattle.zr_link.specs.Run.{Runs}
use Rattle.zr_link.specs.Written.{Wrote}
use Rattle.zr_link_job.specs.Begins.{greets, opening_of}
use Rattle.zr_link_job.proofs.reading.hear.Goals as goal

pub returns-clause-heard : goal.returns-clause-heard
returns-clause-heard g c =
    let start = c.args.start.now in
    let now = c.now.result in
    let end = c.run-end.result.0 in
    let port = arc_value c.args.out.port in
    let first = greets start.side (opening_of start) in
    let Late : ℕ → ℕ → _ = λ heard last. IsLate (g.S.Source.quiets c.args.source.now) (g.S.Source.quiets c.run-end.new.source) heard last (g.C.Clock.last c.run-end.new.clock) in
    let Told : List ℕ → List ℕ → _ = λ said answers. Wrote (λ k. g.K.Sink.held k) (λ k. g.K.Sink.faults k) end (said ++ answers) c.args.out.sink c.run-end.result.1 in
    let Run : SessionState → ℕ → List ℕ → _ = λ s last said. Runs s end (g.S.Source.left c.args.source.now) (g.S.Source.left c.run-end.new.source) (Late s.heard last) (λ answers. Told said answers)
    (g.P.Port.refuses_up port) (g.P.Port.refuses_message port) (g.P.Port.refuses_down port) (g.P.Port.answers_down port) c.args.pass.now c.run-end.new.pass in
    let ran : Run c.in-Ok.session (g.C.Clock.last c.now.new.self) c.as_slice.result.now = c.run-end.ensures.run in
    let timed : Run c.in-Ok.session now c.as_slice.result.now = subst (λ t. Run c.in-Ok.session t c.as_slice.result.now) (sym c.now.ensures.value) ran in
    let greeted : Run c.in-Ok.session now first = subst (λ x. Run c.in-Ok.session now x) (c.as_slice.ensures.value ∙ c.in-Ok.ensures.first) timed in
    inr (now, c.run-end.result.1, subst (λ (s : SessionState). Run s now first) c.in-Ok.ensures.session greeted)
