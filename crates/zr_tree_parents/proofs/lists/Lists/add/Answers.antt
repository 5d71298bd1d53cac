use Rattle.std.proofs.Common.{arith}
use Rattle.std.proofs.lemmas.Grind.{common_steps}
use Rattle.std.proofs.lemmas.Option.{gets}
use Rattle.zr_tree_parents.proofs.lists.Lists.add.Goals as goal

pub returns-clause-found : goal.returns-clause-found
returns-clause-found c = rw (c.in_ok-push.ensures.items, c.new.ensures) (grind (arith, common_steps, gets))

pub returns-clause-kept : goal.returns-clause-kept
returns-clause-kept c number list h =
    let known = rw (← c.self.view_is) at h in
    rw c.in_ok-push.ensures.items (grind (arith, common_steps, gets, known))
