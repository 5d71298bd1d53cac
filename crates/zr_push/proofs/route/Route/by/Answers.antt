use Rattle.std.proofs.Common.{◌∙◌}
use Rattle.std.proofs.lemmas.Option.{IfSome_then}
use Rattle.zr_push.proofs.Stops.{stops_same}
use Rattle.zr_push.proofs.route.Route.by.Goals as goal

pub returns : goal.returns
returns c = c.in_ok-stops_on.ensures ∙ stops_same c.args.tables.now c.in_ok-hops.hops c.args.tree c.args.sought c.args.key.now c.in_ok-hops.ensures

pub to-requires : goal.to-requires
to-requires c = IfSome_then c.args.found c.requires (λ f all. all.sources)

pub stops_on-requires : goal.stops_on-requires
stops_on-requires c = IfSome_then c.args.found c.requires (λ f all. all.clients)
