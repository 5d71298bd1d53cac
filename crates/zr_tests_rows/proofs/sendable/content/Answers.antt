use Rattle.std.proofs.Common.{sym, subst, arith}
use Rattle.zr_msg.specs.declared.content.Parts.{Parts}
use Rattle.zr_tests_rows.specs.Sendable.{IsPlain}
use Rattle.zr_tests_rows.proofs.sendable.content.Goals as goal

pub returns : goal.returns
returns c =
    subst (λ (x : Parts). IsPlain c.args.place x) (sym c.in_ok-new.ensures)
    (record { extras = c.none.ensures; is_body = c.in_ok-body.ensures.is_body; short = omega (arith, c.in_ok-body.ensures.short) })
