use Rattle.std.proofs.Common.{arith}
use Rattle.zr_push_sought.proofs.Rows.{first_place}
use Rattle.zr_push_sought.proofs.client_rows.is_first.Goals as goal

pub returns-then-at-eq0-clause-parted : goal.returns-then-at-eq0-clause-parted
returns-then-at-eq0-clause-parted c = λ h.
    first_place c.args.rows.now c.args.link.0 c.args.at c.requires (c.is_lower.ensures.no c.if-is_lower.false) (λ pos. absurd (omega (arith, c.if-at-eq0.true, pos)))

pub returns-else-at-eq0-clause-parted : goal.returns-else-at-eq0-clause-parted
returns-else-at-eq0-clause-parted c = λ h.
    first_place c.args.rows.now c.args.link.0 c.args.at c.requires (c.is_lower.ensures.no c.if-is_lower.false) (λ pos. c.is_lower-else-at-eq0.ensures.yes h)
