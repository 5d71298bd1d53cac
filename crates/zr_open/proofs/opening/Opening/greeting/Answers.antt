use Rattle.std.proofs.Common.{length, ◌≤◌, arith}
use Rattle.std.proofs.lemmas.Bool.Decides.{nat_tests}
use Rattle.zr_open.proofs.Short.{greeting_short}
use Rattle.zr_open.proofs.opening.Opening.greeting.Goals as goal

pub returns-clause-short : goal.returns-clause-short
returns-clause-short c =
    let few : length c.self.inside.me ≤ 16 = grind (arith, nat_tests, c.bytes-short.ensures.valid) in
    greeting_short c.self.inside.me few
