use Rattle.std.specs.Prelude.{map}
use Rattle.std.specs.String.{string_bytes}
use Rattle.clap.specs.Simple.{app_of, subcommand_rows_of}
use Rattle.clap.specs.Values.{kind_of}
use Rattle.zr_top_words.proofs.Matched.{causes, finds, no_fault, promises, reads_plan, some_fault}
use Rattle.zr_top_words.proofs.reading.read_by.Goals as goal

pub returns-in-Ok-clause-reads : goal.returns-in-Ok-clause-reads
returns-in-Ok-clause-reads c =
    let words = map (λ s. string_bytes s) c.args.words.now in
    reads_plan words (subcommand_rows_of c.in-Ok.matches) c.plan_of.result (no_fault (app_of c.args.program) words c.requires c.in-Ok.ensures.kinds)
    (finds (app_of c.args.program) words c.in-Ok.matches c.requires c.in-Ok.ensures.matches) c.plan_of.ensures.plan

pub returns-in-Err-clause-reads : goal.returns-in-Err-clause-reads
returns-in-Err-clause-reads c =
    let words = map (λ s. string_bytes s) c.args.words.now in
    causes words (kind_of c.in-Err.error) c.refusal.result c.refusal.ensures
    (some_fault (app_of c.args.program) words c.in-Err.error c.requires c.in-Err.ensures.kinds)
    (promises (app_of c.args.program) words (kind_of c.in-Err.error) c.requires c.in-Err.ensures.passes)
