use Rattle.std.proofs.Common.{◌∙◌, ap, Err, le_trans, inl, inr, refl, subst, sym}
use Rattle.std.specs.Prelude.{◌<◌}
use Rattle.zr_outside.proofs.Counting.{rose_not}
use Rattle.std.specs.Arc.{arc_value}
use Rattle.zr_hist.specs.Words.{seen}
use Rattle.zr_serve.proofs.Former.{served_at}
use Rattle.zr_serve.proofs.Served.{without_words, ended_before, ended_within, passed, rose_either, rose_past, rose_same}
use Rattle.zr_serve.proofs.service.serve.Goals as goal

pub returns-in_default-clause-served : goal.returns-in_default-clause-served
returns-in_default-clause-served g c =
    ended_before _ _ _ _ _ _ _ _ _ _ _ _ _ _ _ _ _ _ _ _ (λ w. g.H.Words.Rng.stream w) c.in_default.ensures.drawn refl (without_words _ _ _ _ _ _ _ _ _ _ c.in_default.ensures.told c.say_last.ensures.says)

pub returns-in-Err-clause-served : goal.returns-in-Err-clause-served
returns-in-Err-clause-served g c =
    ended_within _ _ _ _ _ _ _ _ _ _ _ _ _ _ _ _ _ _ _ _ (λ w. g.H.Words.Rng.stream w) c.in-Some.words _ _ c.in-Some.ensures.drawn c.in-Err.ensures.undrawn c.in-Some.ensures.told (c.in-Err.ensures.ended _)

pub returns-clause-served : goal.returns-clause-served
returns-clause-served g c =
    passed _ _ _ _ _ _ _ _ _ _ _ _ _ _ _ _ _ _ _ _ (λ w. g.H.Words.Rng.stream w) c.in-Some.words _ c.in-Some.ensures.drawn (c.serve_links.ensures.undrawn ∙ c.open_space.ensures.undrawn) _ _ _ _ _ _ _ _ (c.new-links.ensures _ _) c.in-Some.ensures.told
    c.in_default-open_space.ensures.begun refl c.open_space.ensures.later
    (served_at (λ p h. g.P.Port.is_legal (arc_value p) h) (λ p h. g.P.Glancing.was_used (arc_value p) h) c.args.serving.now.port _ (seen c.serve_links.new.serving.pass) c.open_space.ensures.same.1 _ _ _ _ _ _ _ _ _ _ c.serve_links.ensures.served)

pub returns-in-Err-clause-done : goal.returns-in-Err-clause-done
returns-in-Err-clause-done g c = λ it. absurd (c.in-Err.ensures.cause.0 (ap Err it))

pub returns-in-Err-clause-host : goal.returns-in-Err-clause-host
returns-in-Err-clause-host g c = λ it. absurd (c.in-Err.ensures.cause.1 (ap Err it))

pub returns-in-Err-clause-write : goal.returns-in-Err-clause-write
returns-in-Err-clause-write g c = λ it. inr (c.in-Err.ensures.cause.2 (ap Err it))

pub returns-clause-done : goal.returns-clause-done
returns-clause-done g c = λ it. rose_same _ _ _ _ c.in-Some.ensures.others.1 c.open_space.ensures.counts.1 (c.serve_links.ensures.done it)

pub returns-clause-host : goal.returns-clause-host
returns-clause-host g c = λ it. rose_past _ _ _ _ c.in-Some.ensures.failed.later c.open_space.ensures.counts.0 (c.serve_links.ensures.host it)

pub returns-clause-write : goal.returns-clause-write
returns-clause-write g c = λ it. rose_either _ _ _ _ _ c.open_space.ensures.later (c.serve_links.ensures.write it)

pub returns-clause-later : goal.returns-clause-later
returns-clause-later g c = (c.serve_links.ensures.later.0, le_trans c.open_space.ensures.later c.serve_links.ensures.later.1)

pub returns-in_default-clause-only : goal.returns-in_default-clause-only
returns-in_default-clause-only g c = (λ rose. rose_not _ _ refl rose, λ rose. inr refl)

pub returns-in-Err-clause-only : goal.returns-in-Err-clause-only
returns-in-Err-clause-only g c = (λ rose. rose_not _ _ refl rose, λ rose. inl (c.in-Err.ensures.only rose))

pub returns-clause-only : goal.returns-clause-only
returns-clause-only g c = (
  c.serve_links.ensures.only.0,
  λ rose. c.serve_links.ensures.only.1 (subst (λ n. n < g.E.Sink.faults c.serve_links.new.err) (sym c.in_default-open_space.ensures.only) rose),
)
