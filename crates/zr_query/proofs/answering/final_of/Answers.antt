use Rattle.std.proofs.Common.{◌≡◌, ◌∙◌, ◌++◌, ap, sym, subst}
use Rattle.std.proofs.lemmas.Result.{on_ok_weaker, on_err_weaker}
use Rattle.zr_pend_spec.specs.Pending.{branch, final_to}
use Rattle.zr_node_spec.specs.Queries.{link_no}
use Rattle.zr_lists.specs.Prefix.{IsPrefixBehind}
use Rattle.zr_query.specs.Answering.{ending_sent}
use Rattle.zr_query.proofs.Told.{final_prefix, final_told, who_ended}
use Rattle.zr_query.proofs.answering.final_of.Goals as goal

pub returns-in-Some-clause-ok : goal.returns-in-Some-clause-ok
returns-in-Some-clause-ok c =
    let rows = c.args.pending.now.rows in
    let held = c.args.pending.now.held in
    let extras = c.args.extras.now in
    let before = c.args.out.now.items in
    let w = who_ended held (final_to rows (branch (link_no c.args.from.0) c.args.number)) c.in-Some.ended (sym c.in-Some.ensures.ended) in
    on_ok_weaker c.end.result
    (λ (e : c.end.new.out.items ≡ before ++ ending_sent extras c.in-Some.ended).
    final_told rows held c.args.from.0 c.args.number extras w.0 before c.end.new.out.items w.1 (e ∙ ap (λ x. before ++ ending_sent extras x) (sym w.2)))
    c.end.ensures.ok

pub returns-in-Some-clause-err : goal.returns-in-Some-clause-err
returns-in-Some-clause-err c =
    let rows = c.args.pending.now.rows in
    let held = c.args.pending.now.held in
    let extras = c.args.extras.now in
    let before = c.args.out.now.items in
    let w = who_ended held (final_to rows (branch (link_no c.args.from.0) c.args.number)) c.in-Some.ended (sym c.in-Some.ensures.ended) in
    on_err_weaker c.end.result
    (λ (e : IsPrefixBehind before (ending_sent extras c.in-Some.ended) c.end.new.out.items).
    final_prefix rows held c.args.from.0 c.args.number extras w.0 before c.end.new.out.items w.1 (subst (λ x. IsPrefixBehind before (ending_sent extras x) c.end.new.out.items) (sym w.2) e))
    c.end.ensures.err
