-- The chain: the parts of the split that are not empty, collected.
use Rattle.std.proofs.Common.{rules, tests, ap, ◌∙◌}
use Rattle.std.proofs.lemmas.Iterator.Consumers.{map_from_collect, YieldsList-from_filter}
use Rattle.std.proofs.lemmas.Iterator.Splits.{YieldsList-from_slice_split}
use Rattle.zr_rules.proofs.explaining.words_of.Goals as goal

pub returns : goal.returns
returns c = map_from_collect _ c.collect.ensures.ran
    (YieldsList-from_filter {s = c.filter.result} _ _
    (YieldsList-from_slice_split {s = c.filter.result.iter} _ _ c.args.line.now
    (ap (λ s. s.rest.now) c.filter.ensures.source ∙ c.split.ensures.rest)
    (ap (λ s. s.done) c.filter.ensures.source ∙ c.split.ensures.done)
    (ap (λ s. s.pred) c.filter.ensures.source ∙ c.split.ensures.closure)
    (λ x r q k. search (rules, tests)))
    c.filter.ensures.closure (λ x r q k. search (rules, tests)))
