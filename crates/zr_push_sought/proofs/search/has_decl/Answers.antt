use Rattle.std.proofs.Common.{List, ap, ◌∙◌}
use Rattle.std.specs.List.{list_any}
use Rattle.zr_msg.specs.declared.decl.Decl.{Decl}
use Rattle.zr_push_sought.specs.Sought.{is_sought}
use Rattle.zr_push_sought.proofs.search.has_decl.Goals as goal

pub returns : goal.returns
returns c =
    c.has_sought.ensures
    ∙ c.of_kind.ensures c.args.key.now
    ∙ ap (λ (ds : List Decl). list_any (λ d. is_sought c.args.sought c.args.key.now d) ds) c.as_slice.ensures.value
