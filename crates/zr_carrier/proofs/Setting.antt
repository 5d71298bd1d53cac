-- Wires that are set one after another.
use Rattle.std.specs.Option.{option_map}
use Rattle.std.proofs.Common.{◌≡◌, ◌∙◌, ap, refl, sym, ℕ, Bool, true, false, cond, List, Option, Some, None}
use Rattle.zr_world_spec.specs.World.{is_end}
use Rattle.zr_world_spec.proofs.Ends.{same_end}
use Rattle.zr_carrier.specs.Wire.{Wire, Wires, AreSame, AreSameBut, Closes, Sets, with_wire}

-- two are set
pub set_both : (a b c d : List ℕ) (v w : Option Wire) (old mid new : Wires) → Sets a b v old mid → Sets c d w mid new → AreSame (with_wire c d w (with_wire a b v old)) new
set_both a b c d v w old mid new h k f t = k f t ∙ ap (λ z. cond (is_end (c, d) (f, t)) w z) (h f t)

-- none is left between two that had none
pub closed_again : (a b : List ℕ) (old mid new : Wires) → old a b ≡ None → old b a ≡ None → AreSameBut a b old mid → Closes a b mid new → AreSame old new
closed_again a b old mid new one other but closes f t = closes f t ∙ by (is_end (b, a) (f, t)) (is_end (a, b) (f, t)) refl refl
  where
    by : (x y : Bool) → is_end (b, a) (f, t) ≡ x → is_end (a, b) (f, t) ≡ y → cond x None (cond y None (mid f t)) ≡ old f t
    by true y e k = sym other ∙ ap (λ z. old z.0 z.1) (same_end (b, a) (f, t) e)
    by false true e k = sym one ∙ ap (λ z. old z.0 z.1) (same_end (a, b) (f, t) k)
    by false false e k = but f t k e

-- ---- a wire as it is kept

-- what was set is this
pub set_as : (from to : List ℕ) (v w : Option Wire) (old new : Wires) → Sets from to v old new → v ≡ w → Sets from to w old new
set_as from to v w old new h e f t = h f t ∙ ap (λ z. cond (is_end (from, to) (f, t)) z (old f t)) e

-- a wire that is there was changed
pub set_back : (from to : List ℕ) (w v : Wire) (change : Wire → Wire) (old new : Wires) → Sets from to (Some v) old new → old from to ≡ Some w → v ≡ change w →
    Sets from to (option_map change (old from to)) old new
set_back from to w v change old new h found e =
    set_as from to (Some v) (option_map change (old from to)) old new h (ap (λ z. Some z) e ∙ sym (ap (λ z. option_map change z) found))

-- none is there to be changed
pub set_none : (from to : List ℕ) (change : Wire → Wire) (old new : Wires) → AreSame old new → old from to ≡ None →
    Sets from to (option_map change (old from to)) old new
set_none from to change old new h none f t = h f t ∙ by (is_end (from, to) (f, t)) refl
  where
    by : (b : Bool) → is_end (from, to) (f, t) ≡ b → old f t ≡ cond b (option_map change (old from to)) (old f t)
    by true e = sym (ap (λ z. old z.0 z.1) (same_end (from, to) (f, t) e)) ∙ none ∙ sym (ap (λ z. option_map change z) none)
    by false e = refl
