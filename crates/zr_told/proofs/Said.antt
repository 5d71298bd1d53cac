-- A list is said part by part.
use Rattle.std.proofs.Common.{◌≡◌, ℕ, Bool, List, [], ◌∷◌, ◌++◌, Option, sym, ap, subst, ◌∙◌}
use Rattle.std.proofs.lemmas.List.{map-append}
use Rattle.zr_lists.specs.Prefix.{IsPrefixBehind}
use Rattle.zr_id.specs.declared.link.LinkNo.{LinkNo}
use Rattle.zr_msg.specs.declared.msg.Msg.{Msg}
use Rattle.zr_lists.proofs.Prefixes.{IsSoFar, so_far_one, all_said, first_prefix, second_prefix}
use Rattle.std.specs.List.{fold}
use Rattle.zr_told.specs.Plan.{fit}
use Rattle.zr_told_spec.specs.Rows.{most_id, sent_on}
use Rattle.zr_told_spec.specs.Told.{ToldMap, declared, declares, entered, id_for}
use Rattle.zr_told_spec.specs.Wanted.{Wanted}
use Rattle.zr_told_spec.specs.declared.place.Place.{Place}

-- ---- messages for one link, in two parts

module _ (link : LinkNo) (before now : List (LinkNo × Msg)) (ms ns : List Msg) where
  in_two : sent_on link ms ++ sent_on link ns ≡ sent_on link (ms ++ ns)
  in_two = sym (map-append (λ m. (link, m)) ms ns)

  -- a prefix of the first part was said
  pub in_first : IsPrefixBehind before (sent_on link ms) now → IsPrefixBehind before (sent_on link (ms ++ ns)) now
  in_first h = subst (λ z. IsPrefixBehind before z now) in_two (first_prefix before (sent_on link ms) (sent_on link ns) now h)

  -- all of the first part, and nothing of the second
  pub after_first : now ≡ before ++ sent_on link ms → IsPrefixBehind before (sent_on link (ms ++ ns)) now
  after_first e = in_first (all_said before (sent_on link ms) now e)

  -- all of the first part, and a prefix of the second
  pub in_second : (mid : List (LinkNo × Msg)) → mid ≡ before ++ sent_on link ms → IsPrefixBehind mid (sent_on link ns) now → IsPrefixBehind before (sent_on link (ms ++ ns)) now
  in_second mid e h = subst (λ z. IsPrefixBehind before z now) in_two (second_prefix before (sent_on link ms) (sent_on link ns) mid now e h)

-- ---- places are declared one by one

-- the next one was declared
pub declared_more : (link : LinkNo) (interest : Option ℕ) (m n end : ToldMap) (x : Place × Bool) (rest left : Wanted) (before said now next : List (LinkNo × Msg)) (id : ℕ) →
    left ≡ x ∷ rest → n ≡ entered m x → id ≡ id_for m x.0 → next ≡ now ++ (link, declares id x.0.class x.0.key x.1 interest) ∷ [] →
    (fold entered m left ≡ end) × IsSoFar before said now (sent_on link (declared interest m left)) × fit most_id m left →
    (fold entered n rest ≡ end) × IsSoFar before said next (sent_on link (declared interest n rest)) × fit most_id n rest
declared_more link interest m n end x rest left before said now next id q e i s h =
    let g = subst (λ z. (fold entered m z ≡ end) × IsSoFar before said now (sent_on link (declared interest m z)) × fit most_id m z) q h in
    let t = s ∙ ap (λ k. now ++ (link, declares k x.0.class x.0.key x.1 interest) ∷ []) i in
    subst (λ (z : ToldMap). (fold entered z rest ≡ end) × IsSoFar before said next (sent_on link (declared interest z rest)) × fit most_id z rest) (sym e)
    (g.0, so_far_one before said now next (link, declares (id_for m x.0) x.0.class x.0.key x.1 interest) (sent_on link (declared interest (entered m x) rest)) g.1 t, g.2.1)
