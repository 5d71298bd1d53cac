use Rattle.std.proofs.Common.{sym, ap, ◌∙◌}
use Rattle.std.proofs.lemmas.Bool.{and_from, lt-ltb}
use Rattle.zr_oam.specs.Writing.{is_linked}
use Rattle.zr_law_sent.proofs.types.of_linked.Goals as goal

pub returns : goal.returns
returns c = ap is_linked (sym c.link.view_is) ∙ and_from _ _ c.of_zid.ensures (and_from _ _ (lt-ltb 0 _ c.link.invariant) c.of_weight.ensures)
