use Rattle.std.proofs.Common.{◌+◌, ℕ, List, Option, length, sym, ap, ◌∙◌}
use Rattle.std.specs.Option.{option_map_or}
use Rattle.zr_local.specs.Clients.{weight_but}
use Rattle.zr_local.specs.Rows.{over_limit, weight_of}
use Rattle.zr_log_set.specs.Decls.{decl_overhead}
use Rattle.zr_local.proofs.local.Local.refuses_interest.Goals as goal

pub returns : goal.returns
returns c = λ i same.
    c.over_limit.ensures ∙ (λ j. over_limit (c.weight_but.ensures j) (c.key_weight.ensures j))
    ∙ ap (λ (k : Option (List ℕ)). over_limit (weight_of c.args.self.now.rows + weight_but c.args.self.now.clients c.args.link c.args.id) (option_map_or (λ x. length x) k 0 + decl_overhead)) (sym same)
