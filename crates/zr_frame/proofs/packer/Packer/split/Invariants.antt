use Rattle.std.proofs.Common.{◌+◌, length}
use Rattle.std.specs.Option.{option_copied, option_map_or}
use Rattle.zr_frame.specs.Packing.{fragments}
use Rattle.zr_frame.specs.Packer.{behind}
use Rattle.zr_frame.proofs.Splitting.{IsSplitting}
use Rattle.zr_frame.proofs.packer.Packer.split.Given as goal

abbrev pub invariant-pieces : goal.invariant-pieces
invariant-pieces l = IsSplitting (behind l.fn.self (fragments (length l.message) l.fn.self.outbox l.message)) (option_copied l.rest) l.self

abbrev pub decreases-pieces : goal.decreases-pieces
decreases-pieces l = option_map_or (λ bytes. length bytes.now + 1) l.rest 0
