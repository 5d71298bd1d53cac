use Rattle.std.proofs.Common.{arith}
use Rattle.std.specs.Int.{w64}
use Rattle.std.proofs.lemmas.Nat.Bits.{bit_at-trailing_zeros}
use Rattle.zr_world_ends.proofs.marks.lowest.Goals as goal

pub returns-clause-within : goal.returns-clause-within
returns-clause-within c = (bit_at-trailing_zeros w64 c.args.word c.requires (omega (arith, c.ranges.word))).0

pub returns-clause-is_set : goal.returns-clause-is_set
returns-clause-is_set c = (bit_at-trailing_zeros w64 c.args.word c.requires (omega (arith, c.ranges.word))).1

pub returns-clause-least : goal.returns-clause-least
returns-clause-least c = (bit_at-trailing_zeros w64 c.args.word c.requires (omega (arith, c.ranges.word))).2
