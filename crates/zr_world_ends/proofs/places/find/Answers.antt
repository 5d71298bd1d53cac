use Rattle.std.proofs.Common.{◌≡◌, ℕ, Option, None, sym, subst}
use Rattle.std.specs.Prelude.{IfSome, IfNone}
use Rattle.zr_world_ends.specs.Index.{IsThere}
use Rattle.zr_world_ends.specs.Named.{at_end}
use Rattle.zr_world_ends.proofs.Standing.{found_there, found_none}
use Rattle.zr_world_ends.proofs.places.find.Goals as goal

pub returns-clause-there : goal.returns-clause-there
returns-clause-there c =
    subst (λ (o : Option ℕ). IfSome o (IsThere c.args.ends.now c.args.at.now)) (sym c.ok.ensures.value) (found_there c.args.ends.now c.args.at.now c.place_of.result c.requires c.place_of.ensures)

pub returns-clause-none : goal.returns-clause-none
returns-clause-none c =
    subst (λ (o : Option ℕ). IfNone o (at_end c.args.ends.now c.args.at.now ≡ None)) (sym c.ok.ensures.value) (found_none c.args.ends.now c.args.at.now c.place_of.result c.place_of.ensures)
