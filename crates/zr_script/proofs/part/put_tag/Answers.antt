-- A tag has 20 digits at most, and stands behind its space and sign.
use Rattle.std.proofs.Common.{◌≤◌, length, rules, arith}
use Rattle.std.specs.Fmt.{decimal}
use Rattle.std.proofs.lemmas.Fmt.{length-decimal-le}
use Rattle.zr_script.proofs.Tags.{appended, tag_slice}
use Rattle.zr_script.proofs.part.put_tag.Goals as goal

pub write_digits-start-requires : goal.write_digits-start-requires
write_digits-start-requires c =
    let short : length (decimal c.args.tag) ≤ 20 = search (rules, length-decimal-le 20) in
    (omega (arith, short), omega arith)

pub overflow_sub-start : goal.overflow_sub-start
overflow_sub-start c =
    let short : length (decimal c.args.tag) ≤ 20 = search (rules, length-decimal-le 20) in
    omega (arith, short, c.write_digits-start.ensures.start)

pub returns-clause-ok : goal.returns-clause-ok
returns-clause-ok c =
    let short : length (decimal c.args.tag) ≤ 20 = search (rules, length-decimal-le 20) in
    let text = tag_slice c.write_digits-start.new.buf (decimal c.args.tag) c.write_digits-start.result _ c.write_digits-start.ensures.written
    c.write_digits-start.ensures.start short c.write_digits-start.auto.buf (omega (arith, short, c.write_digits-start.ensures.start)) in
    appended _ _ c.args.out.now.items _ _ c.extend_from_slice.ensures.items text
