-- The mode, the kinds, and whether all is told as one.
use Rattle.std.proofs.lemmas.Result.{err_from_is_err_and}
use Rattle.zr_script_spec.specs.Words.{words}
use Rattle.zr_script.proofs.Leading.{terms_stay, terms_stay_next, terms_stay_last, terms_lead}
use Rattle.zr_script.proofs.line.terms.Goals as goal

pub returns : goal.returns
returns c = terms_lead c.args.mode_word.now c.args.kinds_word.now (words c.args.behind.now) _ _ _ c.in_ok-mode.ensures c.in_ok-kinds.ensures c.in_ok-aggregate.ensures

pub returns-in_err-mode : goal.returns-in_err-mode
returns-in_err-mode c =
    let p = err_from_is_err_and c.from_residual.result c.from_residual.ensures.1 in
    rw (p.1, p.2) (terms_stay c.args.mode_word.now c.args.kinds_word.now (words c.args.behind.now) _ c.in_err-mode.ensures)

pub returns-in_err-kinds : goal.returns-in_err-kinds
returns-in_err-kinds c =
    let p = err_from_is_err_and c.from_residual-in_err-kinds.result c.from_residual-in_err-kinds.ensures.1 in
    rw (p.1, p.2) (terms_stay_next c.args.mode_word.now c.args.kinds_word.now (words c.args.behind.now) _ _ c.in_ok-mode.ensures c.in_err-kinds.ensures)

pub returns-in_err-aggregate : goal.returns-in_err-aggregate
returns-in_err-aggregate c =
    let p = err_from_is_err_and c.from_residual-in_err-aggregate.result c.from_residual-in_err-aggregate.ensures.1 in
    rw (p.1, p.2) (terms_stay_last c.args.mode_word.now c.args.kinds_word.now (words c.args.behind.now) _ _ _ c.in_ok-mode.ensures c.in_ok-kinds.ensures c.in_err-aggregate.ensures)
