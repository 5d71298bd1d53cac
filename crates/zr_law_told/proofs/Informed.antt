-- What each act keeps of what clients are told and of what they want holds at each moment to which acts lead (`Informed`).
use Rattle.std.proofs.Common.{ℕ, List, [], ◌∷◌, ◌++◌, Option, Some, None, is_some, refl, ap}
use Rattle.std.specs.Prelude.{IfSome}
use Rattle.std.proofs.lemmas.Bool.{false≢true}
use Rattle.zr_lists.proofs.Elements.{in_each}
use Rattle.zr_script_spec.specs.declared.command.Act.{Act}
use Rattle.zr_world_spec.specs.Acts.{outcome}
use Rattle.zr_world_spec.specs.Moments.{Numbered, Moment, beginning, went, reached}
use Rattle.zr_law_settled.proofs.Goes.{Goes, goes_first, act_goes}
use Rattle.zr_law_declared.proofs.Folds.{after_all}
use Rattle.zr_law_told.proofs.Told.{AreTold}
use Rattle.zr_law_told.proofs.TellActs.{tells_keep}
use Rattle.zr_law_told.proofs.Wanting.{Wanting}
use Rattle.zr_law_told.proofs.WantActs.{wants_keep}

pub record Informed (acts : List Numbered) (now : Moment) : Type 0 where
  pub goes : Goes now.world
  pub told : AreTold now.world now.report
  pub wanting : Wanting acts now.world

first : Informed [] beginning
first = record {
  goes = goes_first;
  told = record {
    routers = λ x r found. absurd (false≢true (ap is_some found));
    fresh = λ c free. refl;
    agrees = λ c s found m is. absurd (false≢true (ap is_some found));
  };
  wanting = record {
    kept = λ x r found. absurd (false≢true (ap is_some found));
    fresh = λ c none. refl;
    ids = λ c s found. absurd (false≢true (ap is_some found));
    wants = λ c s found. absurd (false≢true (ap is_some found));
  };
}

next : (acts : List Numbered) (now : Moment) → Informed acts now → (n : ℕ) (act : Act) → IfSome (went now (outcome now.world n act)) (Informed (acts ++ (n, act) ∷ []))
next acts now i n act =
    by (went now (outcome now.world n act)) (act_goes now n act i.goes) (tells_keep now i.goes.sound i.goes.clients i.told n act) (wants_keep acts now i.goes.sound i.goes.clients i.wanting n act)
  where
    by : (o : Option Moment) → IfSome o (λ then. Goes then.world) → IfSome o (λ then. AreTold then.world then.report) → IfSome o (λ then. Wanting (acts ++ (n, act) ∷ []) then.world) → IfSome o (Informed (acts ++ (n, act) ∷ []))
    by None goes told wanting = tt
    by (Some then) goes told wanting = record { goes = goes; told = told; wanting = wanting }

-- at the moment that some acts lead to
pub informed : (acts : List Numbered) → IfSome (reached acts) (Informed acts)
informed acts = after_all Informed (λ x. Unit {0}) (λ done now h x k. next done now h x.0 x.1) acts [] (Some beginning) first (in_each (λ x. Unit {0}) acts (λ x i. tt))
