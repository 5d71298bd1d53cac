use Rattle.std.proofs.Common.{◌≡◌, true, rules, sym, ◌∙◌}
use Rattle.std.proofs.lemmas.Bool.{false≢true}
use Rattle.zr_outside_mem.specs.Memory.{is_among, reads_of, failing_reads}
use Rattle.zr_outside_mem.proofs.mem_source.MemSourceSource.read.Goals as goal

-- a read that fails is none of those that don't
pub returns-then-contains-clause-silent : goal.returns-then-contains-clause-silent
returns-then-contains-clause-silent c sound =
    let among : is_among (reads_of c.args.self.now) (failing_reads c.args.self.now) ≡ true = search rules in
    absurd (false≢true (sym sound ∙ among))
