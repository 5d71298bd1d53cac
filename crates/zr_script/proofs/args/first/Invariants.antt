-- The words of what is left are those of the text.
use Rattle.std.specs.Prelude.{◌≡◌, length}
use Rattle.zr_script_spec.specs.Words.{words}
use Rattle.zr_script.proofs.args.first.Given as goal

abbrev pub invariant-loop-rest : goal.invariant-loop-rest
invariant-loop-rest l = words l.rest ≡ words l.fn.text

abbrev pub decreases-loop-rest : goal.decreases-loop-rest
decreases-loop-rest l = length l.rest
