use Rattle.std.proofs.Common.{◌∙◌, ap, Err, true, false, refl, le_trans, inl, inr}
use Rattle.zr_outside.proofs.Counting.{rose_not}
use Rattle.zr_serve.proofs.Served.{deaf, ends_by_either, unsaid_serves, cut_serves_at, whole_serves_at, rose_behind, rose_far, rose_on}
use Rattle.std.specs.Arc.{arc_value}
use Rattle.zr_hist.specs.Words.{seen}
use Rattle.zr_serve.proofs.Former.{uses_at}
use Rattle.zr_serve.specs.Unsaid.{end_of_unsaid}
use Rattle.zr_serve.proofs.service.serve_links.Goals as goal

pub returns-then-not-listen-clause-served : goal.returns-then-not-listen-clause-served
returns-then-not-listen-clause-served g c =
    deaf _ _ _ _ _ _ _ _ _ _ false _ _ _ _ (rw c.as_str.ensures.value at c.if-not-listen.ensures.told) refl (rw c.as_str-then-not-listen.ensures.value at c.say_not_listening.ensures.says)

pub returns-in-Err-clause-served : goal.returns-in-Err-clause-served
returns-in-Err-clause-served g c =
    rw c.end.ensures (unsaid_serves _ c.in-Err.unsaid _ _ _ _ true _ _ _ _ _ _ _ _ (rw c.as_str.ensures.value at c.if-not-listen.ensures.told) refl c.in-Err.ensures.part)

pub returns-in-Err-dial_all-clause-served : goal.returns-in-Err-dial_all-clause-served
returns-in-Err-dial_all-clause-served g c =
    cut_serves_at _ _ _ _ _ c.in-Err-dial_all.end _ true _ _ _ _ _ _ _ _ _ _ _ c.as_slice.ensures.value c.as_str.ensures.value c.if-not-listen.ensures.told refl
    c.in-Err-dial_all.ensures.stopped c.in_default.ensures.said (λ it. c.in-Err-dial_all.ensures.cause.0 (ap Err it)) (λ it. c.in-Err-dial_all.ensures.cause.1 (ap Err it))

pub returns-clause-served : goal.returns-clause-served
returns-clause-served g c =
    whole_serves_at _ _ _ _ _ c.accept_all-end.result _ true _ _ _ _ _ _ _ _ _ _ (g.E.Sink.held c.dial_all.new.err) (g.E.Sink.held c.accept_all-end.new.err) _ _ _ _ _ _ c.as_slice.ensures.value c.as_str.ensures.value
    c.if-not-listen.ensures.told refl c.in_default-dial_all.ensures.dialled c.accept_all-end.ensures.ended (uses_at (λ p h. g.P.Port.is_legal (arc_value p) h) (λ p h. g.P.Glancing.was_used (arc_value p) h) c.args.serving.now.port _ (seen c.accept_all-end.new.serving.pass) c.in_default-dial_all.ensures.same c.accept_all-end.result _ _ _ c.accept_all-end.ensures.told) c.in_default.ensures.said (le_trans c.dial_all.ensures.later.0 c.accept_all-end.ensures.later)
    c.tell_end.ensures.fault c.tell_end.ensures.quiet

pub returns-clause-write : goal.returns-clause-write
returns-clause-write g c = λ it. inr (rose_on _ _ _ _ c.dial_all.ensures.later.0 (c.accept_all-end.ensures.cause.2 it) c.tell_end.ensures.later)

pub returns-in-Err-dial_all-clause-done : goal.returns-in-Err-dial_all-clause-done
returns-in-Err-dial_all-clause-done g c = λ it. absurd (c.in-Err-dial_all.ensures.cause.0 (ap Err it))

pub returns-in-Err-dial_all-clause-host : goal.returns-in-Err-dial_all-clause-host
returns-in-Err-dial_all-clause-host g c = λ it. absurd (c.in-Err-dial_all.ensures.cause.1 (ap Err it))

pub returns-in-Err-dial_all-clause-write : goal.returns-in-Err-dial_all-clause-write
returns-in-Err-dial_all-clause-write g c = λ it. inr (c.in-Err-dial_all.ensures.cause.2 (ap Err it))

pub returns-clause-done : goal.returns-clause-done
returns-clause-done g c = λ it. rose_behind _ _ _ _ c.if-not-listen.ensures.others.1 c.dial_all.ensures.later.2 (c.accept_all-end.ensures.cause.0 it)

pub returns-clause-host : goal.returns-clause-host
returns-clause-host g c = λ it. rose_far _ _ _ _ c.if-not-listen.ensures.failed.later c.dial_all.ensures.later.1 (c.accept_all-end.ensures.cause.1 it)

pub returns-clause-later : goal.returns-clause-later
returns-clause-later g c = (c.say_serving.ensures.later, le_trans c.dial_all.ensures.later.0 (le_trans c.accept_all-end.ensures.later c.tell_end.ensures.later))

pub returns-in-Err-clause-only : goal.returns-in-Err-clause-only
returns-in-Err-clause-only g c = (λ rose. c.end.ensures ∙ ap end_of_unsaid (c.in-Err.ensures.only rose), λ rose. rose_not _ _ refl rose)

pub returns-then-not-listen-clause-only : goal.returns-then-not-listen-clause-only
returns-then-not-listen-clause-only g c = (λ rose. rose_not _ _ refl rose, λ rose. inr refl)

pub returns-in-Err-dial_all-clause-only : goal.returns-in-Err-dial_all-clause-only
returns-in-Err-dial_all-clause-only g c = (λ rose. rose_not _ _ c.in_default.ensures.only rose, λ rose. inl (c.in-Err-dial_all.ensures.only rose))

pub returns-clause-only : goal.returns-clause-only
returns-clause-only g c = (
  λ rose. rose_not _ _ c.in_default.ensures.only rose,
  λ rose. ends_by_either c.accept_all-end.result _ _ _ _ c.in_default-dial_all.ensures.only c.accept_all-end.ensures.only c.tell_end.ensures.still rose,
)
