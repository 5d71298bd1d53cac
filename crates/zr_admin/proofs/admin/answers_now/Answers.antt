use Rattle.std.proofs.Common.{◌≡◌, ◌+◌, ◌∙◌, List, length, ap, subst}
use Rattle.std.specs.Prelude.{IfOk}
use Rattle.zr_glance.specs.declared.space.Page.{Page}
use Rattle.zr_glance.specs.Pages.{pages}
use Rattle.zr_admin.specs.Answers.{all_answers, count_replies}
use Rattle.zr_admin.proofs.admin.answers_now.Goals as goal

pub returns-clause-answers : goal.returns-clause-answers
returns-clause-answers g c =
    subst (λ (ps : List Page). IfOk c.answers_to.result (λ v. v.items ≡ all_answers ps c.args.requests.now))
    (c.as_slice.ensures.value ∙ c.in_ok-pages.ensures ∙ ap (λ s. pages c.args.id s) c.in_ok-glance.ensures.glance) c.answers_to.ensures.answers

pub returns-clause-count : goal.returns-clause-count
returns-clause-count g c =
    subst (λ (ps : List Page). IfOk c.answers_to.result (λ v. length v.items ≡ count_replies ps c.args.requests.now + length c.args.requests.now))
    (c.as_slice.ensures.value ∙ c.in_ok-pages.ensures ∙ ap (λ s. pages c.args.id s) c.in_ok-glance.ensures.glance) c.answers_to.ensures.count
