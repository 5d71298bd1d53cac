use Rattle.std.proofs.Common.{◌≡◌, ◌++◌, option_map}
use Rattle.std.specs.Prelude.{drop}
use Rattle.std.specs.Option.{option_to_list}
use Rattle.zr_router_queue.specs.Batches.{bytes_on}
use Rattle.zr_router_queue.proofs.pack.only_bytes.Given as goal

abbrev pub invariant-loop-to : goal.invariant-loop-to
invariant-loop-to l = option_to_list (option_map (λ m. m.now) l.only) ++ bytes_on l.link (drop l.to-index l.written) ≡ bytes_on l.link l.written
