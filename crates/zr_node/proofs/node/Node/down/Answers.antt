use Rattle.std.proofs.Common.{◌≡◌, ℕ, ◌<◌, ◌^◌, List, sym, ap, subst, ◌∙◌}
use Rattle.zr_msg.specs.Peer.{PeerState}
use Rattle.zr_log.specs.Known.{position}
use Rattle.zr_node_spec.specs.State.{NodeState}
use Rattle.zr_node.proofs.Downs.{client_gone, router_gone}
use Rattle.zr_node.proofs.node.Node.down.Goals as goal

pub returns-in-Client : goal.returns-in-Client
returns-in-Client c =
    client_gone c.args.self.now c.args.link c.client_down.result c.client_down.new.self c.args.out.now.items c.client_down.new.out.items c.in-Some.peer c.in-Some.ensures (sym (ap (λ (p : PeerState). p.role) c.peer.view_is) ∙ c.in-Client.is) c.client_down.ensures

pub returns-in-Router : goal.returns-in-Router
returns-in-Router c =
    let at : c.position.result ≡ position c.args.self.now.known c.args.self.now.known.me =
    subst (λ (m : NodeState). c.position.result ≡ position m.known m.known.me) c.self.view_is
    (c.position.ensures ∙ ap (λ (me : List ℕ). position c.self.inside.known me) (c.me.ensures ∙ sym c.self.invariant.own)) in
    let within : c.position.result < 2 ^ 64 = c.position.type_inv in
    router_gone c.args.self.now c.args.link c.router_down.result c.router_down.new.self c.args.out.now.items c.router_down.new.out.items c.in-Some.peer c.in-Some.ensures (sym (ap (λ (p : PeerState). p.role) c.peer.view_is) ∙ c.in-Router.is)
    (subst (λ (k : ℕ). k < 2 ^ 64) at within) c.router_down.ensures
