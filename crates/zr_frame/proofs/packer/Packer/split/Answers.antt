use Rattle.std.specs.Option.{option_copied}
use Rattle.zr_frame.proofs.Splitting.{splits_on}
use Rattle.zr_frame.proofs.packer.Packer.split.Goals as goal

pub pieces-preserved : goal.pieces-preserved
pieces-preserved c =
    splits_on _ c.pieces.self c.cut.new.self c.in-Some.bytes.now (option_copied c.in_ok-rest.rest) (rw c.in-Some.is at c.pieces.invariant) c.in_ok-rest.ensures
