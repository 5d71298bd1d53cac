-- That no step of a run is refused before the first line has come.
use Rattle.std.proofs.Common.{◌≤◌, ◌+◌, length, arith}
use Rattle.zr_script_spec.specs.Lines.{most_bytes}
use Rattle.zr_world_spec.specs.Run.{start}
use Rattle.zr_law_numbers.specs.Taken.{StepsArePossible}
use Rattle.zr_netrun_lines.specs.Possible.{StepsGo}

-- before the first line it is the law
pub from_start : StepsArePossible → StepsGo start
from_start law ls short line n few =
    let all : 0 + length ls ≤ most_bytes = short in
    let most : length ls ≤ most_bytes = omega (arith, all) in
    law ls line n most few
