use Rattle.std.proofs.Common.{refl, ◌∙◌}
use Rattle.zr_ext.proofs.reading.keep.Goals as goal

pub returns : goal.returns
returns c = rw c.in-Some.is (c.in_ok-push.ensures.items ∙ rw (c.drop_repeated.ensures, c.form.ensures) refl)
