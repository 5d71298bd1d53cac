-- A board may go to another thread, and threads may share it, where sinks and notes may go there. What it holds is shown part by part, since the crossing of a
-- snapshot isn't found without its name.
use denote.RattleType.{RattleType}
use denote.Struct.Declared as declared
use denote.Struct.Struct.{Struct}
use denote.Param.Send.{IsSend, IsSync, AllSend, AllSync, sendable, recorded_send, recorded_sync, struct_send, struct_sync}
use Rattle.std.proofs.Crossing.{crosses}
use Rattle.zr_link_writer.proofs.end.WriterEnd.TheSendSync.{the_send as end_send}
use Rattle.zr_link_writer.proofs.joined.Joined.TheSendSync.{the_field_send as joined_send}
use Rattle.zr_link_writer.proofs.told.Told.TheSendSync.{the_field_send as told_send}
use Rattle.zr_link_writer.specs.contracts.outlet.Outlet.{the_row as outlet, the_type as outlet_type}
use Rattle.zr_outside.specs.declared.sink.Sink as sink
use Rattle.zr_ring.proofs.parcel.Parcel.TheSendSync.{the_send as parcel_send}
use Rattle.zr_ring.proofs.taker.Taker.TheSendSync.{the_field_send as taker_send}
use Rattle.zr_ring.specs.declared.parcel.Note as note
use Rattle.zr_board.specs.contracts.board.Board.{the_field as board}
use Rattle.zr_board.specs.contracts.board.Place.{the_row as place, the_type as place_type}
use Rattle.zr_board.specs.contracts.board.Slot.{the_row as slot, the_type as slot_type}
use Rattle.zr_board.specs.contracts.shared.SharedOutlet.{the_row as shared, the_type as shared_type}

pub outlet_send : (K N : RattleType) (s : sink.Ghosts K.Denot) (g : note.Ghosts N.Denot) → IsSend K → IsSend N → IsSend (outlet K N s g)
outlet_send K N s g k n =
    let T = outlet_type K N s g in
    let all : AllSend (declared.shape T).fields = (
      search (k, sendable),
      (
        search (taker_send, n, sendable) depth 60 fits 20000,
        (
          search (joined_send, sendable),
          (
            search (parcel_send, n, crosses, sendable) depth 60 fits 20000,
            (
              search (end_send, crosses, sendable) depth 60 fits 20000,
              (
                search (sendable),
                (
                  search (told_send, sendable),
                  (
                    search (crosses, sendable),
                    tt,
                  ),
                ),
              ),
            ),
          ),
        ),
      ),
    ) in
    recorded_send (Struct (declared.shape T)) T.D T.to T.to_one (struct_send (declared.shape T) all)

pub shared_send : (K N : RattleType) (s : sink.Ghosts K.Denot) (g : note.Ghosts N.Denot) → IsSend K → IsSend N → IsSend (shared K N s g)
shared_send K N s g k n =
    let o = outlet_send K N s g k n in
    let T = shared_type K N s g in
    let all : AllSend (declared.shape T).fields = (
      search (o, crosses, sendable) depth 60 fits 20000,
      (
        search (crosses, sendable),
        tt,
      ),
    ) in
    recorded_send (Struct (declared.shape T)) T.D T.to T.to_one (struct_send (declared.shape T) all)

pub shared_sync : (K N : RattleType) (s : sink.Ghosts K.Denot) (g : note.Ghosts N.Denot) → IsSend K → IsSend N → IsSync (shared K N s g)
shared_sync K N s g k n =
    let o = outlet_send K N s g k n in
    let T = shared_type K N s g in
    let all : AllSync (declared.shape T).fields = (
      search (o, crosses, sendable) depth 60 fits 20000,
      (
        search (crosses, sendable),
        tt,
      ),
    ) in
    recorded_sync (Struct (declared.shape T)) T.D T.to T.to_one (struct_sync (declared.shape T) all)

pub slot_send : (K N : RattleType) (s : sink.Ghosts K.Denot) (g : note.Ghosts N.Denot) → IsSend K → IsSend N → IsSend (slot K N s g)
slot_send K N s g k n =
    let a = shared_send K N s g k n in
    let b = shared_sync K N s g k n in
    let T = slot_type K N s g in
    let all : AllSend (declared.shape T).fields = (
      search (sendable),
      (
        search (a, b, crosses, sendable) depth 60 fits 20000,
        tt,
      ),
    ) in
    recorded_send (Struct (declared.shape T)) T.D T.to T.to_one (struct_send (declared.shape T) all)

pub place_send : (K N : RattleType) (s : sink.Ghosts K.Denot) (g : note.Ghosts N.Denot) → IsSend K → IsSend N → IsSend (place K N s g)
place_send K N s g k n =
    let o = slot_send K N s g k n in
    let T = place_type K N s g in
    let all : AllSend (declared.shape T).fields = (
      search (crosses, sendable),
      (
        search (o, crosses, sendable) depth 60 fits 20000,
        tt,
      ),
    ) in
    recorded_send (Struct (declared.shape T)) T.D T.to T.to_one (struct_send (declared.shape T) all)

pub place_sync : (K N : RattleType) (s : sink.Ghosts K.Denot) (g : note.Ghosts N.Denot) → IsSend K → IsSend N → IsSync (place K N s g)
place_sync K N s g k n =
    let o = slot_send K N s g k n in
    let T = place_type K N s g in
    let all : AllSync (declared.shape T).fields = (
      search (crosses, sendable),
      (
        search (o, crosses, sendable) depth 60 fits 20000,
        tt,
      ),
    ) in
    recorded_sync (Struct (declared.shape T)) T.D T.to T.to_one (struct_sync (declared.shape T) all)

pub board_send : (K N : RattleType) (s : sink.Ghosts K.Denot) (g : note.Ghosts N.Denot) → IsSend K → IsSend N → IsSend (board K N s g).row
board_send K N s g k n =
    let p = place_send K N s g k n in
    search (p, crosses, sendable) depth 60 fits 20000

pub board_sync : (K N : RattleType) (s : sink.Ghosts K.Denot) (g : note.Ghosts N.Denot) → IsSend K → IsSend N → IsSync (board K N s g).row
board_sync K N s g k n =
    let p = place_sync K N s g k n in
    search (p, crosses, sendable) depth 60 fits 20000
