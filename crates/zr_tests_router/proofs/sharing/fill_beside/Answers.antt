use mathlib.Core.List.{List, [], ◌∷◌}
use Prim.Native.Nat.{ℕ}
use mir.Syntax.{Lifetime}
use base.Fml.{Lft}
use denote.Exit.{no}
use denote.Param.{param, copied}
use denote.Param.Send.{AllSend, IsSend, IsSync, arg_send, mut_send, param_send, recorded_send, shr_send, struct_send}
use denote.RattleType.{RattleType}
use denote.Ref.{MutRef, ShrRef}
use denote.Struct.Declared as declared
use denote.Struct.Struct.{Struct}
use denote.Struct.Tuple.{TupleAt, type_at}
use Rattle.std.proofs.sync.atomic.AtomicBool.TheSendSync.{the_sync as flag_sync}
use Rattle.std.specs.contracts.sync.atomic.AtomicBool.{the_row as flag}
use Rattle.std.proofs.alloc.Global.TheSendSync.{the_sync as heap_sync}
use Rattle.std.specs.contracts.alloc.Global.{the_row as heap}
use Rattle.zr_outside.specs.declared.sink.Sink as sink
use Rattle.zr_outside_mem.proofs.mem_sink.MemSink.TheSendSync.{the_send as sink_send}
use Rattle.zr_outside_mem.specs.contracts.mem_sink.MemSink.{the_row as mem_sink}
use Rattle.zr_outside_mem.specs.contracts.mem_sink.MemSinkSink.TheImpl.{ghosts as mem_ghosts}
use Rattle.zr_port.specs.declared.naming.Naming.{Ghosts}
use Rattle.zr_router.specs.contracts.router.Router.{the_row as router}
use Rattle.zr_router.proofs.Crossing.{router_sync}
use Rattle.zr_tests_router.proofs.desk.Hand.TheSendSync.{the_send as hand_send}
use Rattle.zr_tests_router.specs.contracts.desk.Hand.{the_row as hand}
use Rattle.zr_tests_router.proofs.sharing.fill_beside.Goals as goal

-- what a closure holds that fills a ring over a shared router, and tells so by a flag that is shared too
captured : (name : List ℕ) (B R K F : RattleType) (g : Ghosts B.Denot) (s : sink.Ghosts K.Denot) (i j k l : Lifetime) (α β γ δ : Lft) → IsSync (router B R K g s) → IsSync F
    → IsSend (TupleAt name (ShrRef i α heap ∷ ShrRef j β (router B R K g s) ∷ MutRef k γ (hand B g) ∷ ShrRef l δ F ∷ []))
captured name B R K F g s i j k l α β γ δ shared told =
    let T = type_at name (ShrRef i α heap ∷ ShrRef j β (router B R K g s) ∷ MutRef k γ (hand B g) ∷ ShrRef l δ F ∷ []) in
    let all : AllSend (declared.shape T).fields = (
      shr_send i α heap heap_sync,
      (shr_send j β (router B R K g s) shared, (mut_send k γ (hand B g) (hand_send B g), (shr_send l δ F told, tt))),
    ) in
    recorded_send (Struct (declared.shape T)) T.D T.to T.to_one (struct_send (declared.shape T) all)

pub join-requires-send-F : goal.join-requires-send-F
join-requires-send-F g c κs within =
    let shared = router_sync (param 0 g.row.B) (copied 1 g.row.R) mem_sink g.B.Naming mem_ghosts c.type_bounds.send-B c.type_bounds.sync-R sink_send in
    param_send 1 _ (arg_send _ no _ (captured _ (param 0 g.row.B) (copied 1 g.row.R) mem_sink flag g.B.Naming mem_ghosts _ _ _ _ _ _ _ _ shared flag_sync))
