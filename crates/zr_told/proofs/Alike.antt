-- Lists that declare the same: of both a client is told the same.
use Rattle.std.proofs.Common.{◌≡◌, ℕ, ◌==◌, ◌&&◌, ◌||◌, Bool, cond, List, [], ◌∷◌, ◌++◌, map, length, Some, None, nat_lt, refl, sym, ◌∙◌, subst}
use Rattle.std.specs.Prelude.{Result}
use Rattle.zr_id.specs.declared.link.LinkNo.{LinkNo}
use Rattle.zr_msg.specs.declared.decl.Decl.{Decl}
use Rattle.zr_msg.specs.declared.msg.Msg.{Msg}
use Rattle.zr_msg.specs.declared.msg.Msg.TheVariants.{ToldEnd}
use Rattle.zr_local.specs.declared.interest.Interest.{Interest}
use Rattle.zr_node_spec.specs.Queries.{is_complete}
use Rattle.zr_told_spec.specs.Place.{same, place_of}
use Rattle.zr_told_spec.specs.Rows.{Maps, answered, is_again, lacks_ids, most_id, sent_on, tells_interest, told_interest}
use Rattle.zr_told_spec.specs.Told.{ToldMap, declares, retell, retold}
use Rattle.zr_told_spec.specs.Wanted.{fits, told_as, want, wanted, wants}
use Rattle.zr_told_spec.specs.declared.place.Place.{Place}
use Rattle.zr_told_spec.proofs.Sorted.{same_entries, wanted_ascends}
use Rattle.zr_told_spec.proofs.Wants.{wanted_at}
use Rattle.zr_told.specs.Calls.{HasTold}
use Rattle.zr_told.specs.Tokens.{AreAlike}
use Rattle.zr_told.specs.declared.error.ToldError.{ToldError}

module _ (xs ys : List Decl) (alike : AreAlike xs ys) where
  wants_same : (is : List Interest) (p : Place) → wants xs is p ≡ wants ys is p
  wants_same [] p = refl
  wants_same (i ∷ is) p = λ t. alike (λ d. fits i (place_of d) && same p (told_as i (place_of d))) t || wants_same is p t

  want_same : (is : List Interest) (p : Place) → want xs is p ≡ want ys is p
  want_same is p = λ t. cond (wants_same is p t) (Some (alike (λ d. same p (place_of d) && is_complete d.kind) t)) None

  wanted_same : (is : List Interest) → wanted xs is ≡ wanted ys is
  wanted_same is =
      same_entries (wanted xs is) (wanted ys is) (wanted_ascends xs is) (wanted_ascends ys is)
      (λ p. wanted_at xs is p ∙ want_same is p ∙ sym (wanted_at ys is p))

  again_same : (future : Bool) (i : Interest) → is_again future xs i ≡ is_again future ys i
  again_same future i = λ t p. future && alike (λ d. fits i (place_of d) && same p (told_as i (place_of d))) t

  tells_same : (current future : Bool) (is : List Interest) (i : Interest) (m : ToldMap) → tells_interest current future xs is i m ≡ tells_interest current future ys is i m
  tells_same current future is i m = λ t.
      retell (again_same future i t) (cond future (answered current i) None) (wanted_same is t) m
      ++ cond current (cond future [] (map (λ w. declares 0 w.0.class w.0.key w.1 (Some i.id)) (wanted_same (i ∷ []) t)) ++ ToldEnd i.id ∷ []) []

  told_same : (future : Bool) (is : List Interest) (i : Interest) (m : ToldMap) → told_interest future xs is i m ≡ told_interest future ys is i m
  told_same future is i m = λ t. retold (again_same future i t) (wanted_same is t) m

  lacks_same : (is : List Interest) → lacks_ids xs is ≡ lacks_ids ys is
  lacks_same is = λ t. nat_lt most_id (length (wanted_same is t))

  -- what was told of one of them was told of the other
  pub alike_told : (current future : Bool) (is : List Interest) (i : Interest) (m : ToldMap) (link : LinkNo) (others : ℕ → ToldMap) (r : Result (Unit {0}) ToldError) (told now : Maps) (said all : List (LinkNo × Msg)) →
      HasTold (lacks_ids xs is) (sent_on link (tells_interest current future xs is i m)) (λ k. cond (link.0 == k) (told_interest future xs is i m) (others k)) r told now said all →
      HasTold (lacks_ids ys is) (sent_on link (tells_interest current future ys is i m)) (λ k. cond (link.0 == k) (told_interest future ys is i m) (others k)) r told now said all
  alike_told current future is i m link others r told now said all h =
      subst (λ b. HasTold b (sent_on link (tells_interest current future ys is i m)) (λ k. cond (link.0 == k) (told_interest future ys is i m) (others k)) r told now said all) (lacks_same is)
      (subst (λ s. HasTold (lacks_ids xs is) (sent_on link s) (λ k. cond (link.0 == k) (told_interest future ys is i m) (others k)) r told now said all) (tells_same current future is i m)
      (subst (λ n. HasTold (lacks_ids xs is) (sent_on link (tells_interest current future xs is i m)) (λ k. cond (link.0 == k) n (others k)) r told now said all) (told_same future is i m) h))
