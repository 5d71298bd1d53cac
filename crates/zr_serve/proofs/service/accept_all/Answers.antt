-- It is asked before each accept, and what was told at first stands while more links are accepted.
use Rattle.std.proofs.Common.{◌∙◌, ◌<◌, ap, Err, None, le_refl, le_trans, inl, refl, subst, sym}
use Rattle.std.proofs.lemmas.Bool.{false≢true}
use Rattle.std.specs.Arc.{arc_value}
use Rattle.zr_hist.specs.Words.{seen}
use Rattle.zr_outside.proofs.Counting.{rose_not, rose_since}
use Rattle.zr_outside.proofs.Appending.{appends_none}
use Rattle.zr_serve.specs.Links.{links_of}
use Rattle.zr_serve.specs.Unsaid.{end_of_unsaid}
use Rattle.zr_serve.proofs.Former.{asked_on, cut_on, tells_still, stops_uses, stops_unfailed, still_heard, unsaid_by, unsaid_undone, unsaid_unfailed, unsaid_uses}
use Rattle.zr_serve.proofs.Reaching.{goes_more, goes_none, goes_on_to, goes_same, goes_spent, goes_unsaid}
use Rattle.zr_serve.proofs.service.accept_all.Goals as goal

pub loop-init : goal.loop-init
loop-init g c = (λ held. goes_none _ _ _ _ held, le_refl _, le_refl _, refl, refl, appends_none _, λ is. absurd (false≢true is), refl)

-- ---- the line could not be told

pub returns-in-Err-clause-ended : goal.returns-in-Err-clause-ended
returns-in-Err-clause-ended g c = λ held. rw c.end.ensures (goes_unsaid _ _ c.in-Err.unsaid (goes_same _ _ _ _ held _ _ (ap (λ p. links_of (λ w. g.H.Words.Rng.stream w) c.args.id.now p c.loop.links) c.tell_used.ensures.same.1) (c.loop.invariant.0 held)))

pub returns-in-Err-clause-told : goal.returns-in-Err-clause-told
returns-in-Err-clause-told g c =
    let inv = c.loop.invariant in
    rw c.end.ensures (unsaid_uses _ c.args.id.now (g.E.Sink.held c.args.err.now) (g.E.Sink.held c.tell_used.new.err) c.in-Err.unsaid
    (cut_on (λ p h. g.P.Port.is_legal (arc_value p) h) (λ p h. g.P.Glancing.was_used (arc_value p) h) c.args.id.now c.args.serving.now.port c.loop.serving.port inv.4 c.loop.is_told (seen c.loop.serving.pass) (seen c.tell_used.new.serving.pass)
    (g.E.Sink.held c.args.err.now) (g.E.Sink.held c.loop.err) (g.E.Sink.held c.tell_used.new.err) inv.5 c.in-Err.unsaid _ refl c.in-Err.ensures.part c.in-Err.ensures.skips))

pub returns-in-Err-clause-cause : goal.returns-in-Err-clause-cause
returns-in-Err-clause-cause g c = (
  λ it. absurd (unsaid_undone c.in-Err.unsaid (sym c.end.ensures ∙ it)),
  λ it. absurd (unsaid_unfailed c.in-Err.unsaid (sym c.end.ensures ∙ it)),
  λ it. rw c.loop.invariant.7 at (c.in-Err.ensures.fault (ap Err (unsaid_by c.in-Err.unsaid (sym c.end.ensures ∙ it)))),
)

pub returns-in-Err-clause-only : goal.returns-in-Err-clause-only
returns-in-Err-clause-only g c =
    λ rose. c.end.ensures ∙ ap end_of_unsaid (c.in-Err.ensures.only (subst (λ n. n < g.E.Sink.faults c.tell_used.new.err) (sym c.loop.invariant.7) rose))

pub returns-in-Err-clause-later : goal.returns-in-Err-clause-later
returns-in-Err-clause-later g c = rw c.loop.invariant.7 at c.tell_used.ensures.later

pub returns-in-Err-clause-undrawn : goal.returns-in-Err-clause-undrawn
returns-in-Err-clause-undrawn g c = c.loop.invariant.3

-- ---- no more links come

pub returns-in-Err-accept-clause-ended : goal.returns-in-Err-accept-clause-ended
returns-in-Err-accept-clause-ended g c = λ held. goes_on_to _ _ _ c.in-Err-accept.end (goes_same _ _ _ _ held _ _ (ap (λ p. links_of (λ w. g.H.Words.Rng.stream w) c.args.id.now p c.loop.links) c.tell_used.ensures.same.1) (c.loop.invariant.0 held)) (c.in-Err-accept.ensures.stops held)

pub returns-in-Err-accept-clause-told : goal.returns-in-Err-accept-clause-told
returns-in-Err-accept-clause-told g c =
    let inv = c.loop.invariant in
    let asked = asked_on (λ p h. g.P.Port.is_legal (arc_value p) h) (λ p h. g.P.Glancing.was_used (arc_value p) h) c.args.id.now c.args.serving.now.port c.loop.serving.port inv.4 c.loop.is_told (seen c.loop.serving.pass) (seen c.tell_used.new.serving.pass)
    (g.E.Sink.held c.args.err.now) (g.E.Sink.held c.loop.err) (g.E.Sink.held c.tell_used.new.err) inv.5 c.in-Ok.told _ refl inv.6 c.in-Ok.ensures.told c.in-Ok.ensures.skips in
    stops_uses _ c.args.id.now (g.E.Sink.held c.args.err.now) (g.E.Sink.held c.tell_used.new.err) c.in-Err-accept.end _ _ (c.in-Err-accept.ensures.stops None)
    (tells_still (λ h. g.P.Port.is_legal (arc_value c.args.serving.now.port) h) (λ h. g.P.Glancing.was_used (arc_value c.args.serving.now.port) h) c.args.id.now c.in-Ok.told _ (seen c.accept.new.serving.pass) (g.E.Sink.held c.args.err.now) (g.E.Sink.held c.tell_used.new.err) c.in-Err-accept.ensures.same.1 asked)

pub returns-in-Err-accept-clause-cause : goal.returns-in-Err-accept-clause-cause
returns-in-Err-accept-clause-cause g c = (
  λ e. rose_since _ _ _ c.loop.invariant.2 (c.in-Err-accept.ensures.done (ap Err e)),
  λ e. rose_since _ _ _ c.loop.invariant.1 (c.in-Err-accept.ensures.host (ap Err e)),
  λ e. absurd (stops_unfailed c.in-Err-accept.end _ _ (c.in-Err-accept.ensures.stops None) e),
)

pub returns-in-Err-accept-clause-only : goal.returns-in-Err-accept-clause-only
returns-in-Err-accept-clause-only g c = λ rose. rose_not _ _ (c.in-Ok.ensures.only ∙ c.loop.invariant.7) rose

pub returns-in-Err-accept-clause-later : goal.returns-in-Err-accept-clause-later
returns-in-Err-accept-clause-later g c = rw c.loop.invariant.7 at c.tell_used.ensures.later

pub returns-in-Err-accept-clause-undrawn : goal.returns-in-Err-accept-clause-undrawn
returns-in-Err-accept-clause-undrawn g c = c.in-Err-accept.ensures.undrawn ∙ c.loop.invariant.3

-- ---- memory ran out in the router

pub returns-then-is_spent-clause-undrawn : goal.returns-then-is_spent-clause-undrawn
returns-then-is_spent-clause-undrawn g c = c.in_default.ensures.undrawn ∙ c.loop.invariant.3

pub returns-then-is_spent-clause-ended : goal.returns-then-is_spent-clause-ended
returns-then-is_spent-clause-ended g c = λ held. goes_spent _ _ _ (goes_same _ _ _ _ held _ _ (ap (λ p. links_of (λ w. g.H.Words.Rng.stream w) c.args.id.now p c.loop.links) c.tell_used.ensures.same.1) (c.loop.invariant.0 held)) (c.in_default.ensures.going held)

pub returns-then-is_spent-clause-told : goal.returns-then-is_spent-clause-told
returns-then-is_spent-clause-told g c =
    let inv = c.loop.invariant in
    let asked = asked_on (λ p h. g.P.Port.is_legal (arc_value p) h) (λ p h. g.P.Glancing.was_used (arc_value p) h) c.args.id.now c.args.serving.now.port c.loop.serving.port inv.4 c.loop.is_told (seen c.loop.serving.pass) (seen c.tell_used.new.serving.pass)
    (g.E.Sink.held c.args.err.now) (g.E.Sink.held c.loop.err) (g.E.Sink.held c.tell_used.new.err) inv.5 c.in-Ok.told _ refl inv.6 c.in-Ok.ensures.told c.in-Ok.ensures.skips in
    inl (tells_still (λ h. g.P.Port.is_legal (arc_value c.args.serving.now.port) h) (λ h. g.P.Glancing.was_used (arc_value c.args.serving.now.port) h) c.args.id.now c.in-Ok.told _ (seen c.accept.new.serving.pass) (g.E.Sink.held c.args.err.now) (g.E.Sink.held c.tell_used.new.err) c.in_default.ensures.same.1 asked)

pub returns-then-is_spent-clause-only : goal.returns-then-is_spent-clause-only
returns-then-is_spent-clause-only g c = λ rose. rose_not _ _ (c.in-Ok.ensures.only ∙ c.loop.invariant.7) rose

pub returns-then-is_spent-clause-later : goal.returns-then-is_spent-clause-later
returns-then-is_spent-clause-later g c = rw c.loop.invariant.7 at c.tell_used.ensures.later

-- ---- accepting goes on

pub loop-preserved : goal.loop-preserved
loop-preserved g c =
    let inv = c.loop.invariant in
    let asked = asked_on (λ p h. g.P.Port.is_legal (arc_value p) h) (λ p h. g.P.Glancing.was_used (arc_value p) h) c.args.id.now c.args.serving.now.port c.loop.serving.port inv.4 c.loop.is_told (seen c.loop.serving.pass) (seen c.tell_used.new.serving.pass)
    (g.E.Sink.held c.args.err.now) (g.E.Sink.held c.loop.err) (g.E.Sink.held c.tell_used.new.err) inv.5 c.in-Ok.told _ refl inv.6 c.in-Ok.ensures.told c.in-Ok.ensures.skips in (
      λ held. goes_more _ _ _ (goes_same _ _ _ _ held _ _ (ap (λ p. links_of (λ w. g.H.Words.Rng.stream w) c.args.id.now p c.loop.links) c.tell_used.ensures.same.1) (c.loop.invariant.0 held)) (c.in_default.ensures.going held),
      le_trans inv.1 c.in_default.ensures.later.0,
      le_trans inv.2 c.in_default.ensures.later.1,
      c.in_default.ensures.undrawn ∙ inv.3,
      c.in_default.ensures.same.0 ∙ c.tell_used.ensures.same.0 ∙ inv.4,
      asked.1,
      λ is. still_heard (λ h. g.P.Port.is_legal (arc_value c.args.serving.now.port) h) (λ h. g.P.Glancing.was_used (arc_value c.args.serving.now.port) h) c.in-Ok.told _ (seen c.accept.new.serving.pass) c.in_default.ensures.same.1 is asked.0,
      c.in-Ok.ensures.only ∙ inv.7,
    )
