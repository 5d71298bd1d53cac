-- The stops of the links that are left are left to be added.
use Rattle.std.proofs.Common.{◌≡◌, [], drop, filter, map}
use Rattle.zr_lists.proofs.Prefixes.{IsSoFar}
use Rattle.zr_push.specs.Route.{is_stop, stop_at}
use Rattle.zr_push.proofs.route.stops_on.Given as goal

abbrev pub invariant-loop-link : goal.invariant-loop-link
invariant-loop-link l = record {
  rows : l.rows ≡ l.tables.rows;
  stops : IsSoFar [] (map (λ k. stop_at k) (filter (λ k. is_stop l.tables l.hops l.sought l.key k k.peer.role) l.links)) l.stops.items
      (map (λ k. stop_at k) (filter (λ k. is_stop l.tables l.hops l.sought l.key k k.peer.role) (drop l.link-index l.links)));
}
