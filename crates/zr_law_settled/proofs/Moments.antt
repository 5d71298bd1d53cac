-- What each act keeps holds at each moment that acts lead to: the one induction over acts.
use Rattle.std.proofs.Common.{ℕ, List, [], ◌∷◌, Option, Some, None}
use Rattle.std.specs.Prelude.{IfSome}
use Rattle.std.specs.List.{fold}
use Rattle.zr_script_spec.specs.declared.command.Act.{Act}
use Rattle.zr_world_spec.specs.Acts.{outcome}
use Rattle.zr_world_spec.specs.Moments.{Numbered, Moment, beginning, went, onward, reached}

module _ (P : Moment → Type 0) (keeps : (now : Moment) (n : ℕ) (act : Act) → P now → IfSome (went now (outcome now.world n act)) P) where
  from_one : (acts : List Numbered) (o : Option Moment) → IfSome o P → IfSome (fold onward o acts) P
  from_one [] o h = h
  from_one (x ∷ xs) o h = from_one xs (onward o x) (by o h)
    where
      by : (o : Option Moment) → IfSome o P → IfSome (onward o x) P
      by None k = tt
      by (Some now) k = keeps now x.0 x.1 k

  pub at_moments : P beginning → (acts : List Numbered) → IfSome (reached acts) P
  at_moments first acts = from_one acts (Some beginning) first
