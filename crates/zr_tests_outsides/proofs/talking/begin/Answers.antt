use denote.Exit.{no}
use denote.Param.{param, copied}
use denote.Param.Send.{IsSend, IsSync, arg_send, arg_sync, param_send, param_sync, sendable}
use Rattle.std.proofs.Crossing.{crosses}
use Rattle.zr_tests_outsides.proofs.link_sink.LinkSink.TheSendSync.{the_send as sink_send}
use Rattle.zr_router.proofs.Crossing.{router_send, router_sync}
use Rattle.zr_tests_outsides.proofs.talking.begin.Goals as goal

pub hand-requires-send-P : goal.hand-requires-send-P
hand-requires-send-P g c κs within =
    let b : IsSend (param 0 g.row.B) = search (c.type_bounds.send-B, sendable) in
    let r : IsSend (copied 1 g.row.R) = search (c.type_bounds.send-R, sendable) in
    param_send _ _ (arg_send _ no _ (router_send _ _ _ g.B.Naming _ b r (search (sink_send, r, crosses, sendable) depth 60 fits 20000)))

pub hand-requires-sync-P : goal.hand-requires-sync-P
hand-requires-sync-P g c κs within =
    let b : IsSend (param 0 g.row.B) = search (c.type_bounds.send-B, sendable) in
    let r : IsSend (copied 1 g.row.R) = search (c.type_bounds.send-R, sendable) in
    let y : IsSync (copied 1 g.row.R) = search (c.type_bounds.sync-R, sendable) in
    param_sync _ _ (arg_sync _ no _ (router_sync _ _ _ g.B.Naming _ b y (search (sink_send, r, crosses, sendable) depth 60 fits 20000)))
