use Rattle.std.proofs.Common.{◌≡◌, ◌&&◌, Bool, true, false, cond, List, [], ◌∷◌, filter, length, refl, rules, tests, arith, ◌∙◌}
use Rattle.std.proofs.Common.{ap}
use Rattle.std.proofs.lemmas.Iterator.{YieldsList-from_slice}
use Rattle.std.proofs.lemmas.Iterator.Consumers.{count_from_yields_List, YieldsList-from_filter}
use Rattle.std.specs.Map.{keys_of}
use Rattle.zr_world_spec.specs.World.{End, EndState, is_first_end, is_in_place}
use Rattle.zr_world_ends.specs.Kept.{KeptEnd, kept as one_kept, kept_ends}
use Rattle.zr_world_ends.proofs.Same.{keys_mapped}
use Rattle.zr_world.specs.State.{state_of}
use Rattle.zr_world.proofs.tables.WorldTables.links_in_place.Goals as goal

-- what a test keeps of the entries, by their keys, is as long as what it keeps of the keys
length_by_key : {K X : Type 0} (p : K → Bool) (es : List (K × X)) → length (filter (λ (e : K × X). p e.0) es) ≡ length (filter p (keys_of es))
length_by_key p [] = refl
length_by_key {K} {X} p (e ∷ es) = by (p e.0) (length_by_key p es)
  where
    by : (b : Bool) → length (filter (λ (x : K × X). p x.0) es) ≡ length (filter p (keys_of es)) →
        length (cond b (e ∷ filter (λ (x : K × X). p x.0) es) (filter (λ (x : K × X). p x.0) es)) ≡ length (cond b (e.0 ∷ filter p (keys_of es)) (filter p (keys_of es)))
    by true ih = omega (arith, ih)
    by false ih = ih

pub returns : goal.returns
returns g c =
    let w = state_of c.args.self.now in
    let kept : c.count.result ≡ length (filter (λ (e : End × KeptEnd). is_first_end w.routers e.0 && is_in_place w.ends e.0) (kept_ends w.ends)) =
    count_from_yields_List c.filter.result _ c.count.ensures.ran
    (YieldsList-from_filter {s = c.filter.result} _ (λ (e : End × KeptEnd). is_first_end w.routers e.0 && is_in_place w.ends e.0)
    (YieldsList-from_slice {s = c.filter.result.iter} (kept_ends w.ends) (ap (λ s. s.rest.now) c.filter.ensures.source ∙ c.iter.ensures.rest ∙ c.list.ensures))
    c.filter.ensures.closure (λ x b q k. search (rules, tests))) in
    kept ∙ length_by_key (λ (k : End). is_first_end w.routers k && is_in_place w.ends k) (kept_ends w.ends)
    ∙ ap (λ (ks : List End). length (filter (λ k. is_first_end w.routers k && is_in_place w.ends k) ks)) (keys_mapped (λ (e : End) (s : EndState). one_kept s) w.ends)
