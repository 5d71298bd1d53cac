use Rattle.std.proofs.Common.{◌∙◌, sym}
use Rattle.zr_graph.proofs.Names.{same_is}
use Rattle.zr_router_queue.proofs.same_sample.is_same_root.Goals as goal

pub returns : goal.returns
returns c same = same_is c.args.a c.args.b (sym c.eq.ensures ∙ same)
