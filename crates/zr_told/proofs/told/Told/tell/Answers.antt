use Rattle.std.proofs.Common.{◌==◌, ◌≤◌, ◌++◌, length, cond, [], ap, sym, subst, ◌∙◌}
use Rattle.std.proofs.lemmas.Result.{err_from_is_err_and}
use Rattle.zr_lists.specs.Prefix.{IsPrefixBehind}
use Rattle.zr_lists.proofs.Prefixes.{all_said}
use Rattle.std.specs.List.{fold}
use Rattle.zr_told.specs.Plan.{forgotten}
use Rattle.zr_told_spec.specs.Rows.{Maps, map_on, most_id, sent_on}
use Rattle.zr_told_spec.specs.Told.{ToldMap, declared, entered, undeclared}
use Rattle.zr_told.proofs.Links.{few_with, put_back}
use Rattle.zr_told.proofs.told.Told.tell.Goals as goal

pub returns-clause-map : goal.returns-clause-map
returns-clause-map c = λ k.
    c.in_ok-put_book.ensures.map k
    ∙ ap (λ (z : Maps). cond (c.args.link.0 == k) c.tell.new.self (map_on z k)) c.self.view_is
    ∙ ap (λ z. cond (c.args.link.0 == k) c.tell.new.self z) (c.take-book.ensures.rest k)
    ∙ put_back (c.args.link.0 == k) c.tell.new.self [] (map_on c.args.self.now k)
    ∙ ap (λ z. cond (c.args.link.0 == k) z (map_on c.args.self.now k)) (c.in_ok-tell.ensures.map ∙ ap (λ (z : ToldMap). fold entered (forgotten z c.args.plan.now.gone.items) c.args.plan.now.fresh.items) c.take-book.ensures.book)

pub returns-in_err-tell-clause-err : goal.returns-in_err-tell-clause-err
returns-in_err-tell-clause-err c =
    let p = err_from_is_err_and c.from_residual.result c.from_residual.ensures.1 in
    rw p.1
    (subst (λ (z : ToldMap). IsPrefixBehind c.args.out.now.items (sent_on c.args.link (undeclared z c.args.plan.now.gone.items ++ declared c.args.interest (forgotten z c.args.plan.now.gone.items) c.args.plan.now.fresh.items)) c.tell.new.out.items)
    c.take-book.ensures.book c.in_err-tell.ensures.err)

pub returns-in_err-put_book-clause-err : goal.returns-in_err-put_book-clause-err
returns-in_err-put_book-clause-err c =
    let p = err_from_is_err_and c.from_residual-in_err-put_book.result c.from_residual-in_err-put_book.ensures.1 in
    rw p.1
    (all_said _ _ _
    (c.in_ok-tell.ensures.out
    ∙ ap (λ (z : ToldMap). c.args.out.now.items ++ sent_on c.args.link (undeclared z c.args.plan.now.gone.items ++ declared c.args.interest (forgotten z c.args.plan.now.gone.items) c.args.plan.now.fresh.items)) c.take-book.ensures.book))

pub invariant_of-self-2 : goal.invariant_of-self-2
invariant_of-self-2 c =
    let e = c.in_ok-tell.ensures.map ∙ ap (λ (z : ToldMap). fold entered (forgotten z c.args.plan.now.gone.items) c.args.plan.now.fresh.items) c.take-book.ensures.book in
    few_with _ _ c.args.link.0 c.tell.new.self c.in_ok-put_book.ensures.entries (subst (λ (z : ToldMap). length z ≤ most_id) (sym e) c.requires.1) c.self.invariant
