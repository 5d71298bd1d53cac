use Rattle.std.proofs.Common.{◌≡◌, ◌≤◌, ◌++◌, drop, length}
use Rattle.std.specs.List.{flat_map}
use Rattle.zr_frame_batch.specs.Framing.{framed}
use Rattle.zr_netrun_batches.proofs.tape.put_batches.Given as goal

abbrev pub invariant-loop-batch : goal.invariant-loop-batch
invariant-loop-batch l = record {
  put : l.bytes.items ++ flat_map (λ batch. framed batch) (drop l.batch-index l.batches) ≡ l.fn.bytes.items ++ flat_map (λ batch. framed batch) l.batches;
  kept : length l.fn.bytes.items ≤ length l.bytes.items;
}
