use Rattle.std.proofs.Common.{ap, ◌∙◌}
use Rattle.zr_wirekey.specs.Names.{number_of}
use Rattle.zr_wirekey.proofs.Numbers.{find_ordered}
use Rattle.zr_wirekey.proofs.names.Names.number.Goals as goal

pub returns : goal.returns
returns c =
    c.copied.ensures ∙ c.get.ensures.value ∙ find_ordered (λ k. k.items) c.self.inside.numbers.entries c.args.text.now ∙ c.self.invariant.found c.args.text.now
    ∙ ap (λ names. number_of names c.args.text.now) c.self.view_is
