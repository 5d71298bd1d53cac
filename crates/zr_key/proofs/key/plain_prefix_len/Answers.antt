use Rattle.std.proofs.Common.{◌∙◌, Option, ℕ, length, ap}
use Rattle.zr_key.proofs.Plain.{prefix_or_all}
use Rattle.std.specs.Option.{unwrap_or}
use Rattle.zr_key.proofs.key.plain_prefix_len.Goals as goal

pub returns : goal.returns
returns c = c.unwrap_or.ensures ∙ ap (λ (o : Option ℕ). unwrap_or o (length c.args.text.now)) c.first_star.ensures ∙ prefix_or_all c.args.text.now
