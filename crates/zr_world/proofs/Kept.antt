-- What is kept of ends tells of the ends.
use Rattle.std.proofs.Common.{◌≡◌, Option, Some, None, refl, ap, ◌∙◌}
use Rattle.std.specs.Prelude.{◌&&◌}
use Rattle.std.specs.List.{list_all}
use Rattle.std.specs.Option.{option_map}
use Rattle.std.proofs.lemmas.List.Folds.{list_all-map}
use Rattle.zr_world_spec.specs.World.{EndState, End, WorldState, is_met, is_settled}
use Rattle.zr_world_ends.specs.Kept.{KeptEnd, kept, kept_ends, is_calm_end}
use Rattle.zr_world_ends.proofs.Keeping.{calm_same}
use Rattle.zr_world.specs.Settled.{is_kept_met}

pub settled_kept : (w : WorldState) → list_all (λ x. is_kept_met w x.0 x.1 && is_calm_end x.1) (kept_ends w.ends) ≡ is_settled w
settled_kept w =
    list_all-map (λ (x : End × KeptEnd). is_kept_met w x.0 x.1 && is_calm_end x.1) (λ (e : End × EndState). (e.0, kept e.1)) w.ends
    ∙ (λ i. list_all (λ x. is_met w x.0 x.1 && calm_same x.1 i) w.ends)

-- an end of which something is kept
pub kept_there : (o : Option EndState) (k : KeptEnd) → option_map kept o ≡ Some k → (s : EndState) × (o ≡ Some s) × (kept s ≡ k)
kept_there None k h = absurd (cc)
kept_there (Some s) k h = let is : kept s ≡ k = cc in (s, refl, is)

pub none_kept : (o : Option EndState) → option_map kept o ≡ None → o ≡ None
none_kept None h = refl
none_kept (Some s) h = absurd (cc)
