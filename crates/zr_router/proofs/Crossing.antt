-- A running router may go to another thread, and threads may share it. What it holds is shown part by part, as in zr_router_core.
use denote.RattleType.{RattleType}
use denote.Struct.Declared as declared
use denote.Struct.Struct.{Struct}
use denote.Param.Send.{IsSend, IsSync, AllSend, AllSync, sendable, recorded_send, recorded_sync, struct_send, struct_sync}
use Rattle.std.proofs.Crossing.{crosses}
use Rattle.zr_outside.specs.declared.sink.Sink as sink
use Rattle.zr_board.proofs.Crossing.{board_send, board_sync}
use Rattle.zr_router_queue.proofs.note.Queued.TheSendSync.{the_send as queued_send}
use Rattle.zr_router_queue.specs.contracts.note.Queued.{the_row as queued}
use Rattle.zr_router_queue.specs.contracts.note.QueuedNote.TheImpl.{ghosts as queued_ghosts}
use Rattle.zr_access.proofs.policy.Policy.TheSendSync.{the_send as policy_send, the_sync as policy_sync}
use Rattle.zr_hist.proofs.kept.Kept.TheSendSync.{the_field_send as kept_send}
use Rattle.zr_id.proofs.zid.Zid.TheSendSync.{the_send as zid_send}
use Rattle.zr_msg.proofs.shared.Shared.TheSendSync.{the_send as shared_send}
use Rattle.zr_port.proofs.entry.Entry.TheSendSync.{the_send as entry_send}
use Rattle.zr_port.specs.declared.naming.Naming.{Ghosts}
use Rattle.zr_router_core.proofs.Crossing.{hub_send}
use Rattle.zr_router_queue.proofs.link_end.LinkSender.TheSendSync.{the_send as sender_send}
use Rattle.zr_hist.proofs.history.History.TheSendSync.{the_field_send as history_send, the_field_sync as history_sync}
use Rattle.zr_router.specs.contracts.router.Router.{the_row as router, the_type as router_type}
use Rattle.zr_router.specs.contracts.tables.Tables.{the_row as tables, the_type as tables_type}

pub tables_send : (B : RattleType) (g : Ghosts B.Denot) → IsSend B → IsSend (tables B g)
tables_send B g b =
    let all : AllSend (declared.shape (tables_type B g)).fields = (
      search (zid_send, sendable) depth 60 fits 20000,
      (
        search (policy_send, policy_sync, shared_send, crosses, sendable) depth 60 fits 20000,
        (
          search (hub_send, sendable),
          (
            search (sender_send, crosses, sendable) depth 60 fits 20000,
            (
              search (kept_send, crosses, sendable) depth 60 fits 20000,
              (
                search (sendable),
                (
                  search (sendable),
                  (
                    search (sendable),
                    (
                      search (sendable),
                      (
                        search (crosses, sendable) depth 60 fits 20000,
                        (
                          search (sendable),
                          (
                            search (sendable),
                            (
                              search (sendable),
                              (
                                search (crosses, sendable) depth 60 fits 20000,
                                (
                                  search (sendable),
                                  (
                                    search (sendable),
                                    tt,
                                  ),
                                ),
                              ),
                            ),
                          ),
                        ),
                      ),
                    ),
                  ),
                ),
              ),
            ),
          ),
        ),
      ),
    ) in
    let T = tables_type B g in
    recorded_send (Struct (declared.shape T)) T.D T.to T.to_one (struct_send (declared.shape T) all)

pub router_send : (B R K : RattleType) (g : Ghosts B.Denot) (s : sink.Ghosts K.Denot) → IsSend B → IsSend R → IsSend K → IsSend (router B R K g s)
router_send B R K g s b r k =
    let t = tables_send B g b in
    let T = router_type B R K g s in
    let all : AllSend (declared.shape T).fields = (
      search (r, sendable),
      (
        search (crosses, sendable),
        (
          search (history_send, entry_send, crosses, sendable) depth 60 fits 20000,
          (
            search (t, crosses, sendable),
            (
              board_send K queued s queued_ghosts k queued_send,
              (
                search (sendable),
                tt,
              ),
            ),
          ),
        ),
      ),
    ) in
    recorded_send (Struct (declared.shape T)) T.D T.to T.to_one (struct_send (declared.shape T) all)

pub router_sync : (B R K : RattleType) (g : Ghosts B.Denot) (s : sink.Ghosts K.Denot) → IsSend B → IsSync R → IsSend K → IsSync (router B R K g s)
router_sync B R K g s b r k =
    let t = tables_send B g b in
    let T = router_type B R K g s in
    let all : AllSync (declared.shape T).fields = (
      search (r, sendable),
      (
        search (crosses, sendable),
        (
          search (history_sync, entry_send, crosses, sendable) depth 60 fits 20000,
          (
            search (t, crosses, sendable),
            (
              board_sync K queued s queued_ghosts k queued_send,
              (
                search (sendable),
                tt,
              ),
            ),
          ),
        ),
      ),
    ) in
    recorded_sync (Struct (declared.shape T)) T.D T.to T.to_one (struct_sync (declared.shape T) all)
