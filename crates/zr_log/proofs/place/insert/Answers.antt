use Rattle.std.proofs.Common.{◌≡◌, ◌∙◌, ap, not, true, is_ok}
use Rattle.zr_log.proofs.Logs.{names_insert}
use Rattle.zr_log.proofs.place.insert.Goals as goal

pub returns-clause-named : goal.returns-clause-named
returns-clause-named c =
    let ok : is_ok c.insert-2.result ≡ true = c.is_err.ensures.negation ∙ ap not c.if-is_err.false in
    rw (c.in_ok-insert.ensures.items, c.insert-2.ensures.items, ok, c.requires.named) (names_insert c.args.logs.now.items c.args.new c.args.at)
