use Rattle.std.proofs.Common.{ap, ◌∙◌, ◌==◌, length}
use Rattle.zr_key.specs.Key.{plain_prefix_len}
use Rattle.zr_key.proofs.Plain.{plain_is}
use Rattle.zr_key.proofs.key.KeyExpr.is_plain.Goals as goal

pub returns : goal.returns
returns c =
    ap (λ n. n == length c.text.result.now) (c.self.invariant.1 ∙ ap plain_prefix_len c.self.view_is) ∙ ap (λ z. plain_prefix_len c.args.self.now == length z) c.text.ensures.value
    ∙ plain_is c.args.self.now
