use Rattle.std.proofs.Common.{◌≡◌, ℕ, List, ◌∷◌, [], length, refl, sym, ap, arith, subst}
use Rattle.zr_script_spec.specs.Lines.{parts}
use Rattle.zr_world.specs.Living.{Living}
use Rattle.zr_netrun_lines.specs.Within.{IsWithin}
use Rattle.zr_netrun_lines.proofs.Room.{within_first}
use Rattle.zr_netrun_lines.proofs.runner.Runner.new.Goals as goal

pub invariant_of-result : goal.invariant_of-result
invariant_of-result g c = (
  omega (arith, ap (λ (z : List ℕ). length z) c.new.ensures.items),
  subst (λ (z : List ℕ). parts z ≡ z ∷ []) (sym c.new.ensures.items) refl,
  omega (arith, ap (λ (z : List ℕ). length z) c.new-3.ensures.items),
  subst (λ (w : Living). IsWithin w 0) (sym c.over.ensures) within_first,
)
