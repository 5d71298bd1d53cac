-- Which refusals of a message need no memory.
use Rattle.std.specs.Prelude.{Bool, true, false}
use Rattle.zr_node_spec.specs.Early.{needs_no_memory}
use Rattle.zr_port.specs.declared.error.DeliverError.{DeliverError}
use Rattle.zr_port.specs.declared.error.DeliverError.TheVariants as deliver

-- all but those of the router itself that need some: none of them may turn into out of memory
abbrev pub is_judged : DeliverError → Bool
is_judged (deliver.NotUp link) = true
is_judged (deliver.Misplaced role) = true
is_judged (deliver.Denied rule) = true
is_judged (deliver.Ignored id) = true
is_judged (deliver.Node e) = needs_no_memory e
is_judged (deliver.Full asked free) = true
is_judged deliver.Worn = true
is_judged deliver.NoMemory = false
