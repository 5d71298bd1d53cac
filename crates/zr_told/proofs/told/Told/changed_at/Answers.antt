use Rattle.std.proofs.Common.{◌++◌, subst, ap, ◌∙◌}
use Rattle.std.specs.List.{flat_map}
use Rattle.std.proofs.lemmas.Result.{err_from_is_err_and}
use Rattle.zr_lists.specs.Prefix.{IsPrefixBehind}
use Rattle.zr_told.specs.Plan.{tells_plan, told_plans}
use Rattle.zr_told.proofs.Calls.{all_told, without_memory}
use Rattle.zr_told.proofs.told.Told.changed_at.Goals as goal

pub returns : goal.returns
returns c =
    all_told
    (λ k. c.in_ok-tell_all.ensures.map k ∙ ap (λ z. told_plans c.args.self.now z k) c.deref.ensures.value ∙ c.in_ok-plans.ensures.told k)
    (c.in_ok-tell_all.ensures.out ∙ ap (λ z. c.args.out.now.items ++ flat_map (tells_plan c.args.self.now) z) c.deref.ensures.value ∙ ap (λ z. c.args.out.now.items ++ z) c.in_ok-plans.ensures.tells)
    c.in_ok-plans.ensures.ids

pub returns-in_err-tell_all : goal.returns-in_err-tell_all
returns-in_err-tell_all c =
    let p = err_from_is_err_and c.from_residual-in_err-tell_all.result c.from_residual-in_err-tell_all.ensures.1 in
    let t = ap (λ z. flat_map (tells_plan c.args.self.now) z) c.deref.ensures.value ∙ c.in_ok-plans.ensures.tells in
    rw p.1 (without_memory p.0 p.2 (subst (λ z. IsPrefixBehind c.args.out.now.items z c.tell_all.new.out.items) t c.in_err-tell_all.ensures.err))
