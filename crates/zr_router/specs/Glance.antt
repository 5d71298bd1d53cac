-- What a router shows of itself.
use Rattle.zr_glance.specs.Glance.{GlanceState}
use Rattle.zr_node_spec.specs.State.{NodeState}
use Rattle.zr_router_glance.specs.Glance.{glance_at}

-- by its links, its link records and what it knows of all logs
abbrev pub glance : NodeState → GlanceState
glance node = glance_at node.links node.base node.known
