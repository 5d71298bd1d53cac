use Rattle.std.proofs.Common.{◌≡◌, drop}
use Rattle.zr_frame.specs.Packer.{on_the_way}
use Rattle.zr_frame.proofs.packer.Packer.add_all.Given as goal

abbrev pub invariant-loop-message : goal.invariant-loop-message
invariant-loop-message l = on_the_way l.self (drop l.message-index l.messages) ≡ on_the_way l.fn.self l.messages
