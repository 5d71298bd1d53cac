-- What opening it answers, and what starting its inner client does.
use Rattle.std.proofs.Common.{◌≡◌, true, Err, ap, le_refl, refl, sym, subst, rules}
use Rattle.zr_access.specs.Rules.{PolicyState}
use Rattle.zr_outside.proofs.Counting.{rose_not}
use Rattle.zr_serve.specs.Jobs.{drawn}
use Rattle.zr_serve.specs.Links.{links_of}
use Rattle.zr_serve.proofs.Opening.{begins_handed, begins_refused, cause_by, ends_by, ends_spent, ok_by, unsaid_by}
use Rattle.zr_serve.proofs.service.open_space.Goals as goal

pub returns-in-Ok-clause-begun : goal.returns-in-Ok-clause-begun
returns-in-Ok-clause-begun g c =
    let me = c.args.plan.now.id in
    let policy = c.args.serving.now.policy in
    let asked : c.args.plan.now.admin ≡ true = search rules in
    let links = subst (λ (p : PolicyState). links_of (λ w. g.H.Words.Rng.stream w) me p c.draw-word.new.self ≡ drawn (links_of (λ w. g.H.Words.Rng.stream w) me policy c.args.links.now)) (sym c.in-Ok.ensures.same.0) (c.draw-word.ensures.next me policy) in
    ok_by c.start_inner.result (begins_handed _ _ _ _ _ _ _ _ _ _ _ _ _ _ asked c.time.ensures.told (c.draw-word.ensures.word me policy) links c.in-Ok.ensures.opened) c.start_inner.ensures.handed

pub returns-in-Err-Refused-clause-begun : goal.returns-in-Err-Refused-clause-begun
returns-in-Err-Refused-clause-begun g c =
    let me = c.args.plan.now.id in
    let policy = c.args.serving.now.policy in
    let asked : c.args.plan.now.admin ≡ true = search rules in
    let links = subst (λ (p : PolicyState). links_of (λ w. g.H.Words.Rng.stream w) me p c.draw-word.new.self ≡ drawn (links_of (λ w. g.H.Words.Rng.stream w) me policy c.args.links.now)) (sym c.in-Err-Refused.ensures.same.0) (c.draw-word.ensures.next me policy) in
    let refused = c.in-Err-Refused.ensures.refused (ap Err c.in-Err-Refused.field-0-is) in
    ok_by c.say_refused.result (begins_refused _ _ _ _ _ _ _ _ _ _ _ _ _ _ asked refl (c.draw-word.ensures.word me policy) links refused refl refl) c.say_refused.ensures.said

pub returns-in-Ok-clause-ended : goal.returns-in-Ok-clause-ended
returns-in-Ok-clause-ended g c =
    let asked : c.args.plan.now.admin ≡ true = search rules in
    ends_by c.start_inner.result c.args.plan.now.admin _ _ _ _ _ _ _ _ _ _ asked c.time.ensures.told c.start_inner.ensures.unsaid c.start_inner.ensures.cause

pub returns-in-Err-Refused-clause-ended : goal.returns-in-Err-Refused-clause-ended
returns-in-Err-Refused-clause-ended g c =
    let asked : c.args.plan.now.admin ≡ true = search rules in
    ends_by c.say_refused.result c.args.plan.now.admin _ _ _ _ _ _ _ _ _ _ asked refl (unsaid_by c.say_refused.result (λ part. (refl, le_refl _, part)) c.say_refused.ensures.part)
    c.say_refused.ensures.cause

pub returns-in-Err-NoMemory-clause-ended : goal.returns-in-Err-NoMemory-clause-ended
returns-in-Err-NoMemory-clause-ended g c = λ out. ends_spent _ _ _ _ _ _ _ _ _ out _ _ refl refl (le_refl _) refl

pub returns-in-Ok-clause-cause : goal.returns-in-Ok-clause-cause
returns-in-Ok-clause-cause g c = cause_by c.start_inner.result _ _ c.start_inner.ensures.cause

pub returns-in-Err-Refused-clause-cause : goal.returns-in-Err-Refused-clause-cause
returns-in-Err-Refused-clause-cause g c = cause_by c.say_refused.result _ _ c.say_refused.ensures.cause

pub returns-in-Ok-clause-only : goal.returns-in-Ok-clause-only
returns-in-Ok-clause-only g c = c.start_inner.ensures.only

pub returns-in-Err-Refused-clause-only : goal.returns-in-Err-Refused-clause-only
returns-in-Err-Refused-clause-only g c = c.say_refused.ensures.only

pub returns-in-Err-NoMemory-clause-only : goal.returns-in-Err-NoMemory-clause-only
returns-in-Err-NoMemory-clause-only g c = λ rose. rose_not _ _ refl rose
