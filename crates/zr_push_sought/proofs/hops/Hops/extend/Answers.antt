use Rattle.std.proofs.Common.{◌||◌, ℕ, false, List, Option, sym, ap, ◌∙◌}
use Rattle.std.specs.Option.{option_map_or}
use Rattle.std.proofs.lemmas.Result.{on_ok_weaker}
use Rattle.zr_graph.specs.Record.{has}
use Rattle.zr_id.specs.Zid.{is_named}
use Rattle.zr_push_sought.proofs.Ways.{has_put}
use Rattle.zr_push_sought.proofs.hops.Hops.extend.Goals as goal

pub returns-in-Some : goal.returns-in-Some
returns-in-Some c = λ name.
    on_ok_weaker c.add.result
    (λ e.
    ap (λ ns. has ns name) e
    ∙ has_put c.args.self.now c.in-Some.name name
    ∙ ap (λ (o : Option (List ℕ)). option_map_or (λ y. is_named y name) o false || has c.args.self.now name) (sym c.in-Some.is))
    c.add.ensures
