use Rattle.std.proofs.Common.{None, [], refl}
use Rattle.zr_frame.proofs.Receiving.{packed_deliver}
use Rattle.zr_frame.proofs.laws.packed_messages_are_received.Goals as goal

pub returns : goal.returns
returns c most o messages h few =
    packed_deliver (λ t rest fits named ends. c.written_messages_are_read.ensures.again.again t rest (fits, named) ends) most messages o None [] h refl few
