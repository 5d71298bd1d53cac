-- The first place that is marked is that of the first end of the definitions.
use Rattle.std.proofs.Common.{◌≡◌, ℕ, zero, suc, ◌<◌, Bool, true, false, cond, List, [], ◌∷◌, map, filter, Some, None, Less, length, get_or, refl, ap, ◌∙◌, arith}
use Rattle.std.specs.List.{AllByRecursion, fold, reduce}
use Rattle.std.specs.List.Sorted.{IsStrictlySortedBy}
use Rattle.std.specs.Map.{keys_of}
use Rattle.std.specs.Ordering.{min_by_ordering}
use Rattle.std.proofs.lemmas.Bool.{false≢true}
use Rattle.std.proofs.lemmas.Map.Keys.{sorted_head, sorted_tail}
use Rattle.zr_world_spec.specs.World.{End, end_cmp}
use Rattle.zr_world_spec.specs.Next.{lesser}
use Rattle.zr_world_ends.specs.Index.{passes_at}
use Rattle.zr_world_ends.specs.Kept.{KeptEnd, KeptEnds}
use Rattle.zr_world_ends.specs.Named.{first_at}

-- what comes before all others is the least
fold_first : (k : End) (es : List End) → AllByRecursion (λ y. end_cmp k y ≡ Less) es → fold lesser k es ≡ k
fold_first k [] h = refl
fold_first k (e ∷ es) h = ap (λ o. fold lesser (min_by_ordering o k e) es) h.0 ∙ fold_first k es h.1

module _ (test : KeptEnd → Bool) where
  abbrev ends_where : KeptEnds → List End
  ends_where es = map (λ x. x.0) (filter (λ x. test x.1) es)

  -- the ends that pass, where the test answers b at the first
  abbrev with_first : Bool → End × KeptEnd → KeptEnds → List End
  with_first b e es = map (λ x. x.0) (cond b (e ∷ filter (λ x. test x.1) es) (filter (λ x. test x.1) es))

  after_where : (k : End) (es : KeptEnds) → AllByRecursion (λ y. end_cmp k y ≡ Less) (keys_of es) → AllByRecursion (λ y. end_cmp k y ≡ Less) (ends_where es)
  after_where k [] h = tt
  after_where k (e ∷ es) h = by (test e.1) (after_where k es h.1)
    where
      by : (b : Bool) → AllByRecursion (λ y. end_cmp k y ≡ Less) (ends_where es) → AllByRecursion (λ y. end_cmp k y ≡ Less) (with_first b e es)
      by true ih = (h.0, ih)
      by false ih = ih

  pub first_is : (es : KeptEnds) (i : ℕ) (d : End × KeptEnd) → IsStrictlySortedBy end_cmp (keys_of es) → passes_at test es i ≡ true → ((q : ℕ) → q < i → passes_at test es q ≡ false) →
      first_at test es ≡ Some (get_or es i d).0
  first_is [] i d up at before = absurd (false≢true at)
  first_is (e ∷ es) zero d up at before =
      ap (λ b. reduce lesser (with_first b e es)) at ∙ ap Some (fold_first e.0 (ends_where es) (after_where e.0 es (sorted_head end_cmp e.0 (keys_of es) up)))
  first_is (e ∷ es) (suc i) d up at before =
      ap (λ b. reduce lesser (with_first b e es)) (before 0 (omega arith)) ∙ first_is es i d (sorted_tail end_cmp e.0 (keys_of es) up) at (λ q lt. before (suc q) (omega arith))

  pub none_is : (es : KeptEnds) → ((q : ℕ) → passes_at test es q ≡ false) → first_at test es ≡ None
  none_is [] h = refl
  none_is (e ∷ es) h = ap (λ b. reduce lesser (with_first b e es)) (h 0) ∙ none_is es (λ q. h (suc q))

  -- a place where an end passes is one of the list's
  pub passes_within : (es : KeptEnds) (q : ℕ) → passes_at test es q ≡ true → q < length es
  passes_within [] q h = absurd (false≢true h)
  passes_within (e ∷ es) zero h = omega arith
  passes_within (e ∷ es) (suc q) h = let lt = passes_within es q h in omega (arith, lt)
