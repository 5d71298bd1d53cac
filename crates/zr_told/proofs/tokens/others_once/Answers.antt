use Rattle.std.proofs.Common.{◌++◌, None, map, ap, ◌∙◌}
use Rattle.std.specs.List.{list_any}
use Rattle.zr_token.specs.Tally.{alive}
use Rattle.zr_told_spec.specs.Place.{token_on}
use Rattle.zr_told.proofs.Tallied.{once_alike}
use Rattle.zr_told.proofs.tokens.others_once.Goals as goal

pub returns : goal.returns
returns c = λ test.
    ap (list_any test) (c.in_ok-put_tokens.ensures ∙ (λ i. c.in_ok-decls.ensures i ++ map token_on ((c.in_ok-alive.ensures.ok ∙ ap (λ ks. ks ++ alive c.in_ok-tally.tally c.args.link.0 None) c.new-keys.ensures.items) i)))
    ∙ once_alike c.args.tables.now c.args.link.0 _ c.in_ok-tally.ensures test
