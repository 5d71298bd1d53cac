use denote.Exit.{no}
use denote.Param.Send.{arg_send, arg_sync, param_send, param_sync, sendable}
use Rattle.std.proofs.Crossing.{crosses}
use Rattle.zr_tests_serve.proofs.shared_sink.SharedSink.TheSendSync.{the_send as sink_send}
use Rattle.zr_router.proofs.Crossing.{router_send, router_sync}
use Rattle.zr_tests_serve.proofs.sessions.ended.Goals as goal

pub run-end-requires-send-P : goal.run-end-requires-send-P
run-end-requires-send-P g c κs within = param_send _ _ (arg_send _ no _ (router_send _ _ _ g.B.Naming _ c.type_bounds.send-B c.type_bounds.send-R (search (sink_send, c.type_bounds.send-R, crosses, sendable) depth 60 fits 20000)))

pub run-end-requires-sync-P : goal.run-end-requires-sync-P
run-end-requires-sync-P g c κs within = param_sync _ _ (arg_sync _ no _ (router_sync _ _ _ g.B.Naming _ c.type_bounds.send-B c.type_bounds.sync-R (search (sink_send, c.type_bounds.send-R, crosses, sendable) depth 60 fits 20000)))
