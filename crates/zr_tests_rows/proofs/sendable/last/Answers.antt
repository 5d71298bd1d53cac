use Rattle.std.proofs.Common.{◌∙◌, sym, subst}
use Rattle.zr_msg.specs.declared.extras.Extras.{Extras}
use Rattle.zr_msg.specs.declared.msg.Msg.TheVariants.{Final}
use Rattle.zr_law_sent.specs.Passing.{IsPassable}
use Rattle.zr_tests_rows.proofs.Passing.{final_passes}
use Rattle.zr_tests_rows.proofs.sendable.last.Goals as goal

pub returns : goal.returns
returns c = subst (λ (x : Extras). IsPassable (Final 1 x)) (sym (c.in_ok-extras.ensures ∙ c.none.ensures)) (final_passes 1)
