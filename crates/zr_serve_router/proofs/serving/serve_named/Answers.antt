use denote.Exit.{no}
use denote.Param.{param, copied}
use denote.Param.Send.{IsSend, IsSync, arg_send, arg_sync, param_send, param_sync, sendable}
use Rattle.zr_serve.proofs.Served.{not_begun}
use Rattle.zr_router.proofs.Crossing.{router_send, router_sync}
use Rattle.zr_serve_router.proofs.Named.{under_name}
use Rattle.zr_serve_router.proofs.serving.serve_named.Goals as goal

pub returns-in_default-clause-served : goal.returns-in_default-clause-served
returns-in_default-clause-served g c = not_begun _ _ _ _ _ _ _ _ _ _ _ _ _ _

pub returns-in_default-new-clause-served : goal.returns-in_default-new-clause-served
returns-in_default-new-clause-served g c = not_begun _ _ _ _ _ _ _ _ _ _ _ _ _ _

pub returns-in_default-new-2-clause-served : goal.returns-in_default-new-2-clause-served
returns-in_default-new-2-clause-served g c = not_begun _ _ _ _ _ _ _ _ _ _ _ _ _ _

pub returns-clause-served : goal.returns-clause-served
returns-clause-served g c =
    under_name _ _ _ _ _ _ _ _ _ _ _ _ _ _ _ _ _ g.B.Naming.me g.B.Naming.policy _ _ c.requires.own c.requires.ruled c.requires.pass.1 c.serve.ensures.served

pub serve-requires-send-P : goal.serve-requires-send-P
serve-requires-send-P g c κs within =
    let b : IsSend (param 4 g.row.B) = search (c.type_bounds.send-B, sendable) in
    let r : IsSend (copied 3 g.row.R) = search (c.type_bounds.send-R, sendable) in
    param_send _ _ (arg_send _ no _ (router_send _ _ _ g.B.Naming _ b r (search (c.type_bounds, sendable))))

pub serve-requires-sync-P : goal.serve-requires-sync-P
serve-requires-sync-P g c κs within =
    let b : IsSend (param 4 g.row.B) = search (c.type_bounds.send-B, sendable) in
    let y : IsSync (copied 3 g.row.R) = search (c.type_bounds.sync-R, sendable) in
    param_sync _ _ (arg_sync _ no _ (router_sync _ _ _ g.B.Naming _ b y (search (c.type_bounds, sendable))))
