-- Whether a fan may begin, and the shares of its routers.
use Rattle.std.specs.Prelude.{◌≡◌, ℕ, ◌||◌, true, false, List, map, Result, Ok, Err}
use Rattle.std.specs.List.{AllByRecursion}
use Rattle.std.specs.List.Sorted.{IsStrictlySortedBy}
use Rattle.std.specs.Map.{keys_of}
use Rattle.std.specs.Ordering.{nat_cmp}
use Rattle.std.specs.Cmp.Lexicographic.{slice_cmp}
use Rattle.zr_law_fan.specs.Samples.{IsCalmRouter}
use Rattle.zr_script_spec.specs.declared.error.ScriptError.{ScriptError}
use Rattle.zr_script_spec.specs.declared.error.ScriptError.TheVariants.{Limit}
use Rattle.zr_world_gang.specs.Shares.{ShareState, new_share}
use Rattle.zr_world_spec.specs.World.{Routers, WorldState, is_settled}
use Rattle.zr_world_spec.specs.Acts.{hub_of}
use Rattle.zr_world_spec.specs.Fan.{are_samples, are_many, are_long}
use Rattle.zr_world_spec.specs.Next.{fan_step}

-- no test refuses it
abbrev pub MayBegin : WorldState → Type 0
MayBegin w = (is_settled w ≡ true) × (are_samples w ≡ true) × ((are_many w || are_long w) ≡ false)

-- no test refuses it, or it is refused for this; for a limit where more is under way than a fan takes
abbrev pub IsJudged : WorldState → Result (Unit {0}) ScriptError → Type 0
IsJudged w (Ok u) = MayBegin w
IsJudged w (Err e) = ((line : ℕ) → fan_step w line ≡ Err e) × (e ≡ Limit → (are_many w || are_long w) ≡ true)

-- ---- shares

-- these are the shares of routers, in order, and what the routers' declarations weigh
pub record AreOf (rs : Routers) (ss : List ShareState) (ns : List ℕ) : Type 0 where
  pub in_order : IsStrictlySortedBy (slice_cmp nat_cmp) (keys_of rs)
  pub names : map (λ s. s.name) ss ≡ keys_of rs
  pub hubs : map (λ s. s.hub) ss ≡ map (λ e. hub_of e.1) rs
  pub weights : ns ≡ map (λ e. e.1.weight) rs

-- new ones, of routers that are calm
pub record AreTaken (rs : Routers) (ss : List ShareState) (ns : List ℕ) : Type 0 where
  pub of : AreOf rs ss ns
  pub new : ss ≡ map (λ e. new_share e.0 (hub_of e.1)) rs
  pub calm : AllByRecursion (λ e. IsCalmRouter e.1) rs
