use Rattle.std.proofs.Common.{sym, ap, subst, ◌∙◌}
use Rattle.zr_msg.specs.Peer.{PeerState}
use Rattle.zr_msg.specs.declared.peer.Role.{Role}
use Rattle.zr_node.specs.Done.{IsDone}
use Rattle.zr_node.specs.Steps.{up_part}
use Rattle.zr_node.proofs.Done.{nothing_sent}
use Rattle.zr_node.proofs.Early.{up_late}
use Rattle.zr_node.proofs.Ups.{client_up}
use Rattle.zr_node.proofs.node.Node.up.Goals as goal

pub returns-in_ok-add-in-Client : goal.returns-in_ok-add-in-Client
returns-in_ok-add-in-Client c = client_up c.args.self.now c.args.link c.args.peer.now c.add.new.self c.args.out.now.items (sym (ap (λ (p : PeerState). p.role) c.peer.view_is) ∙ c.in-Client.is) c.in_ok-add-in-Client.ensures

pub returns-in-Router : goal.returns-in-Router
returns-in-Router c =
    subst (λ (role : Role). IsDone (up_part c.args.self.now c.args.link c.args.peer.now role) c.router_up.result c.router_up.new.self c.args.out.now.items c.router_up.new.out.items) (sym c.in-Router.is ∙ ap (λ (p : PeerState). p.role) c.peer.view_is) c.router_up.ensures

pub returns-in_err-add-in-Client : goal.returns-in_err-add-in-Client
returns-in_err-add-in-Client c =
    nothing_sent (up_part c.args.self.now c.args.link c.args.peer.now c.args.peer.now.role) c.from_residual.result _ c.args.out.now.items c.from_residual.ensures.1 (up_late c.args.self.now.base c.args.peer.now.role)
