use Rattle.std.proofs.Common.{◌≡◌, ℕ, ◌+◌, Bool, true, false, List, cond, ap, arith}
use Rattle.std.specs.List.{sum_by, insert}
use Rattle.std.proofs.lemmas.List.Sums.{sum_by-insert}
use Rattle.zr_index.proofs.node.add_value.Goals as goal

grown : {V : Type 0} (f : V → ℕ) (vs ws : List V) (place : ℕ) (v : V) (ok : Bool) → ok ≡ true → ws ≡ cond ok (insert vs place v) vs → sum_by f ws ≡ f v + sum_by f vs
grown f vs ws place v true e h = omega (arith, ap (sum_by f) h, sum_by-insert f vs place v)
grown f vs ws place v false e h = cc

pub returns-clause-added : goal.returns-clause-added
returns-clause-added g c f = grown f c.args.values.now.items c.insert.new.self.items c.place_for-place.result c.args.value _ c.if-is_err.ensures.negation c.insert.ensures.items
