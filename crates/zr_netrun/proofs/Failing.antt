-- That a write which failed is told as that, at each place where a run ends.
use Rattle.std.proofs.Common.{◌≡◌, ℕ, ◌<◌, ◌≤◌, Bool, true, false, ltb, refl, arith}
use Rattle.std.proofs.lemmas.Bool.{ltb-true, ltb-false}
use Rattle.zr_netrun_lines.specs.declared.runner.RunStop.{RunStop}
use Rattle.zr_netrun_lines.specs.declared.runner.RunStop.TheVariants as r
use Rattle.zr_netrun.specs.declared.status.Status.{Status}
use Rattle.zr_netrun.specs.declared.status.Status.TheVariants as s
use Rattle.zr_netrun.specs.Ended.{TellsFailedWrites}

-- A run has stopped, and told why. The counts before the call that stopped stood as at the beginning, and a count that rose in it made it stop.
pub stop_told : (stop : RunStop) (status : Status) (out before stopped after err still told : ℕ) → before ≡ out → before ≤ stopped → (before < stopped → stop ≡ r.WriteFault) → still ≡ err
    → (stop ≡ r.WriteFault → status ≡ s.WriteFault) → TellsFailedWrites status stopped after still told → TellsFailedWrites status out after err told
stop_told stop status out before stopped after err still told same later cause quiet fault tells =
    (by (ltb before stopped) refl, λ rose. tells.1 (omega (arith, quiet, rose)))
  where
    by : (t : Bool) → ltb before stopped ≡ t → out < after → status ≡ s.WriteFault
    by true e rose = fault (cause (ltb-true before stopped e))
    by false e rose =
        let here = ltb-false before stopped e in
        tells.0 (omega (arith, same, later, here, rose))
