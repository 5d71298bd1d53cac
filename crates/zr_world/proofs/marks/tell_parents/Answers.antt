use Rattle.std.proofs.Common.{◌≡◌, ◌<◌, ◌+◌, ◌++◌, ◌∷◌, [], length, get_or, take, drop, sym, ap, ◌∙◌, arith}
use Rattle.std.proofs.lemmas.List.{take_more}
use Rattle.zr_id.specs.Record.{RecordState}
use Rattle.zr_world.specs.Show.{parent_lines, parent_told}
use Rattle.zr_world.proofs.Show.{err_by, behind_begun, parents_cut, parents_more}
use Rattle.zr_world.proofs.marks.tell_parents.Goals as goal

pub returns-in_err-tell_parent-clause-err : goal.returns-in_err-tell_parent-clause-err
returns-in_err-tell_parent-clause-err c =
    let rs = c.args.base.now.records in
    let me = c.args.base.now.me in
    err_by c.from_residual-in_err-tell_parent.result
    (rw c.in_err-tell_parent.ensures.err
    (behind_begun c.args.report.now.items (parent_lines rs me rs) (parent_lines rs me (take c.loop-r.r-index rs)) (parent_lines rs me (drop c.loop-r.r-index rs)) c.loop-r.report.items
    (parents_cut rs me rs c.loop-r.r-index) c.loop-r.invariant))

pub loop-r-preserved : goal.loop-r-preserved
loop-r-preserved c =
    let rs = c.args.base.now.records in
    let item : RecordState = c.r-item.result in
    let slice : c.records-r-items.result.now ≡ c.args.base.now.records = c.records-r-items.ensures.value in
    let lt : c.loop-r.r-index < length c.args.base.now.records = rw (← slice) (omega arith) in
    let is : item ≡ get_or c.args.base.now.records c.loop-r.r-index item = rw (← slice) c.r-item.is in
    let more : take (c.loop-r.r-index + 1) c.args.base.now.records ≡ take c.loop-r.r-index c.args.base.now.records ++ item ∷ [] =
    take_more c.args.base.now.records c.loop-r.r-index item lt ∙ ap (λ z. take c.loop-r.r-index c.args.base.now.records ++ z ∷ []) (sym is) in
    let told : c.tell_parent.new.report.items ≡ c.loop-r.report.items ++ parent_told c.args.base.now.records c.args.base.now.me item.id =
    c.in_ok-tell_parent.ensures.told ∙ (λ i. c.loop-r.report.items ++ parent_told (c.in_ok-trees.ensures i) (c.me-me.ensures i) (c.id.ensures i)) in
    parents_more c.args.base.now.records c.args.base.now.me c.loop-r.r-index item c.args.report.now.items c.loop-r.report.items c.tell_parent.new.report.items more c.loop-r.invariant told
