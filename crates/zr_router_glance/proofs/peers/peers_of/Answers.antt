use Rattle.std.proofs.Common.{ap}
use Rattle.zr_router_glance.proofs.InOrder.{none_ascends}
use Rattle.zr_router_glance.specs.Glance.{peers_from}
use Rattle.zr_router_glance.proofs.peers.peers_of.Goals as goal

pub loop-link-init : goal.loop-link-init
loop-link-init c = record {
  in_order = rw c.in_ok-peers.ensures.items none_ascends;
  put = ap (λ z. peers_from z c.args.links.now) c.in_ok-peers.ensures.items;
}
