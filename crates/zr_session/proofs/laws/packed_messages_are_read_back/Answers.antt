use Rattle.zr_session.proofs.Packed.{first_names, packed_behind, packed_read_back}
use Rattle.zr_session.proofs.laws.packed_messages_are_read_back.Goals as goal

pub returns : goal.returns
returns c = record {
  at_first = first_names;
  read_back = packed_read_back (record {
    net = c.written_net_is_read.ensures;
    declarations = c.written_declarations_are_read.ensures;
    interests = c.written_interests_are_read.ensures;
    oam = c.written_oam_is_read.ensures;
    names = c.written_names_are_read.ensures;
    known = c.names_are_heard.ensures;
  }) c.packed_messages_are_received.ensures c.parcels_are_short.ensures c.written_batches_are_cut.ensures;
  behind = packed_behind c.parcels_are_short.ensures;
}
