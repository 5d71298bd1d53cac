use Rattle.std.proofs.Common.{◌≡◌, sym, ap, ◌∙◌, arith}
use Rattle.zr_log.specs.Known.{KnownState, after_own}
use Rattle.zr_node.proofs.Judged.{held}
use Rattle.zr_node.proofs.Logged.{logged_more}
use Rattle.zr_node.proofs.asked.log_each.Goals as goal

pub loop-decl-preserved : goal.loop-decl-preserved
loop-decl-preserved c =
    let taken : c.own.new.self ≡ after_own c.loop-decl.known (record { added = c.args.added; decl = c.decl-item.result }) =
    held _ c.own.result (sym c.is_err.ensures.value ∙ c.if-is_err.false) c.own.ensures.known in
    record {
      left = logged_more c.args.added c.args.decls.now c.loop-decl.decl-index c.decl-item.result c.loop-decl.known c.own.new.self _ (omega arith) c.decl-item.is taken c.loop-decl.invariant.left;
      same = ap (λ (k : KnownState). k.me) taken ∙ c.loop-decl.invariant.same;
    }
