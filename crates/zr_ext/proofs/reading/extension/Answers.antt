use Rattle.std.proofs.Common.{◌∙◌, sym, true}
use Rattle.zr_ext.proofs.Found.{found_if, passed_over}
use Rattle.zr_ext.proofs.reading.extension.Goals as goal

pub returns-then-not-knows : goal.returns-then-not-knows
returns-then-not-knows c =
    passed_over _ _ _ _ _ c.in_ok-head.head c.in_ok-u8.ensures (sym c.read_header.ensures ∙ c.in_ok-head.was) c.in_ok-skip_content.ensures (sym c.knows.ensures ∙ c.if-not-knows.true)

pub returns : goal.returns
returns c =
    found_if _ _ _ _ _ c.in_ok-head.head c.in_ok-content.content true c.in_ok-u8.ensures (sym c.read_header.ensures ∙ c.in_ok-head.was) c.in_ok-content.ensures (sym c.knows.ensures ∙ c.if-not-knows.false)
