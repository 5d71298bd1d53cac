use Rattle.std.proofs.Common.{◌≡◌, ℕ, List, sym, ap, subst, ◌∙◌}
use Rattle.zr_log.specs.Known.{position}
use Rattle.zr_node_spec.specs.State.{NodeState}
use Rattle.zr_query.proofs.Told.{nothing_yet}
use Rattle.zr_node.specs.Steps.{asked_part}
use Rattle.zr_node.proofs.Early.{change_late}
use Rattle.zr_node.proofs.Rows.{asked_failed, judge_failed, rows_failed, rows_prefix, rows_told, rows_left, rows_allowed}
use Rattle.zr_node.proofs.node.Node.change_rows.Goals as goal

pub returns-in_err-judge : goal.returns-in_err-judge
returns-in_err-judge c = judge_failed c.args.self.now c.args.asked c.in_err-judge.field-0.0 c.from_residual.result c.args.self.now c.args.out.now.items c.from_residual.ensures.1 c.in_err-judge.ensures (λ i. c.args.self.now)

pub returns-in_err-changes : goal.returns-in_err-changes
returns-in_err-changes c =
    asked_failed c.args.self.now c.args.asked c.in_err-changes.field-0.0 c.from_residual-in_err-changes.result c.apply.new.self c.args.out.now.items c.from_residual-in_err-changes.ensures.1 c.in_err-changes.ensures.refused c.in_err-changes.ensures.unchanged

pub returns-in_err-tell : goal.returns-in_err-tell
returns-in_err-tell c =
    rows_failed c.args.self.now c.args.asked c.from_residual-in_err-tell.result c.tell.new.self c.args.out.now.items c.tell.new.out.items c.from_residual-in_err-tell.ensures.1 c.in_ok-changes.ensures.refused
    (rows_prefix c.args.self.now c.args.asked c.in_ok-changes.changes.gone.items c.in_ok-changes.changes.came.items c.in_ok-changes.ensures.gone c.in_ok-changes.ensures.came c.apply.new.self c.args.out.now.items c.tell.new.out.items c.in_ok-changes.ensures.state c.in_err-tell.ensures.prefix)

pub returns : goal.returns
returns c =
    let at : c.position-number.result ≡ position c.args.self.now.known c.args.self.now.base.me = subst (λ (m : NodeState). c.position-number.result ≡ position m.known m.base.me) c.self.view_is
    (c.position-number.ensures ∙ ap (λ (me : List ℕ). position c.self.inside.known me) c.me.ensures) in
    let own : c.args.self.now.known.me ≡ c.args.self.now.base.me = subst (λ (m : NodeState). m.known.me ≡ m.base.me) c.self.view_is c.self.invariant.own in
    record {
      allowed = rows_allowed c.args.self.now c.args.asked c.in_ok-changes.changes.gone.items c.in_ok-changes.changes.came.items c.in_ok-changes.ensures.gone c.in_ok-changes.ensures.came c.position-number.result at own (sym c.if-not-has_room.false ∙ c.has_room.ensures) c.in_ok-changes.ensures.refused;
      state = rows_left c.args.self.now c.args.asked c.in_ok-changes.changes.gone.items c.in_ok-changes.changes.came.items c.in_ok-changes.ensures.gone c.in_ok-changes.ensures.came c.apply.new.self c.tell.new.self c.in_ok-changes.ensures.state c.in_ok-tell.ensures.state;
      sends = rows_told c.args.self.now c.args.asked c.in_ok-changes.changes.gone.items c.in_ok-changes.changes.came.items c.in_ok-changes.ensures.gone c.in_ok-changes.ensures.came c.apply.new.self c.args.out.now.items c.tell.new.out.items c.in_ok-changes.ensures.state c.in_ok-tell.ensures.sends;
    }

pub returns-then-not-has_room : goal.returns-then-not-has_room
returns-then-not-has_room c = record { late = change_late c.args.self.now c.args.asked c.in_ok-changes.ensures.refused; sends = nothing_yet (asked_part c.args.self.now c.args.asked).sends c.args.out.now.items }
