-- The form of `link`: two routers, and maybe a weight.
use Rattle.std.proofs.Common.{◌≡◌, ◌∙◌, ℕ, Bool, true, false, List, [], ◌∷◌, Some, Ordering, Ok, Err, refl, ap, inl, inr, arith}
use Rattle.std.specs.Prelude.{codes, if◌then◌else◌, is_ok}
use Rattle.std.specs.List.{slice_get}
use Rattle.std.specs.Ordering.{is_eq, nat_cmp}
use Rattle.std.specs.declared.cmp.Ordering.TheVariants.{Less, Equal, Greater}
use Rattle.std.specs.Cmp.Lexicographic.{slice_cmp}
use Rattle.std.proofs.lemmas.Map.Lookups.{exact_bytes}
use Rattle.std.proofs.lemmas.Option.{same_Some}
use Rattle.hex.specs.Hex.{decode_pairs}
use Rattle.zr_id.specs.Zid.{is_named}
use Rattle.zr_script_spec.specs.declared.command.Act.TheVariants as a
use Rattle.zr_script_spec.specs.declared.command.Command.TheVariants as c
use Rattle.zr_script_spec.specs.declared.error.ScriptError.TheVariants.{BadWords}
use Rattle.zr_script_spec.specs.Command.{link_line}
use Rattle.zr_script_spec.specs.Words.{zid_at, link_weight_at}
use Rattle.zr_lists.proofs.Truths.{then_of, else_of}
use Rattle.zr_script_explain.specs.Places.{is_name, is_weight}
use Rattle.zr_script_explain.proofs.CaretSteps.{ByWords, both_words, link_weight_step, name_step, no_link_weight, no_name, past, then_err, then_ok}
use Rattle.zr_script_explain.proofs.CaretForms.{IsWrong, TooFew, TooMany}

pub link_few : TooFew link_line 2
unfolding link_line
link_few [] few = refl
link_few (v ∷ []) few = refl
link_few (v ∷ w ∷ more) few = absurd (omega arith)

-- a link between two names that are one is refused, and others are right
ends : (one other : List ℕ) (weight : ℕ) → ByWords (if is_named one other then Err BadWords else Ok (c.Act (a.Link one other weight)))
ends one other weight = by (is_named one other)
  where
    by : (t : Bool) → ByWords (if t then Err BadWords else Ok (c.Act (a.Link one other weight)))
    by true = inr refl
    by false = inl (c.Act (a.Link one other weight), refl)

pub link_many : TooMany link_line 3
unfolding link_line
link_many [] many = refl
link_many (v ∷ []) many = refl
link_many (v ∷ w ∷ []) many = absurd (omega arith)
link_many (u ∷ v ∷ w ∷ []) many = absurd (omega arith)
link_many (t ∷ u ∷ v ∷ w ∷ more) many = past (zid_at t) _ (name_step t) (λ one. past (zid_at u) _ (name_step u) (λ other. refl))

pub link_words : (args : List (List ℕ)) → ByWords (link_line args)
unfolding link_line
link_words [] = inr refl
link_words (v ∷ []) = inr refl
link_words (v ∷ w ∷ more) =
    both_words (zid_at v) _ (name_step v)
    (λ one. both_words (zid_at w) _ (name_step w) (λ other. both_words (link_weight_at more) _ (link_weight_step more) (λ weight. ends one other weight)))

pub link_wrong : (w : List ℕ) (args : List (List ℕ)) → slice_get args 0 ≡ Some w → is_name w ≡ false → IsWrong link_line args 0
unfolding link_line
link_wrong w args at isnt [] e = refl
link_wrong w args at isnt (v ∷ []) e = refl
link_wrong w args at isnt (v ∷ u ∷ more) e = let alike : v ≡ w = same_Some v w (e ∙ at) in then_err (zid_at v) _ BadWords (ap zid_at alike ∙ no_name w isnt)

pub link_then : (w : List ℕ) (args : List (List ℕ)) → slice_get args 1 ≡ Some w → is_name w ≡ false → IsWrong link_line args 1
unfolding link_line
link_then w args at isnt [] e = refl
link_then w args at isnt (v ∷ []) e = refl
link_then w args at isnt (u ∷ v ∷ more) e =
    let alike : v ≡ w = same_Some v w (e ∙ at) in
    past (zid_at u) _ (name_step u) (λ one. then_err (zid_at v) _ BadWords (ap zid_at alike ∙ no_name w isnt))

pub link_weighs : (w : List ℕ) (args : List (List ℕ)) → slice_get args 2 ≡ Some w → is_weight w ≡ false → IsWrong link_line args 2
unfolding link_line
link_weighs w args at isnt [] e = refl
link_weighs w args at isnt (v ∷ []) e = refl
link_weighs w args at isnt (u ∷ v ∷ []) e = absurd (let none = e ∙ at in cc)
link_weighs w args at isnt (t ∷ u ∷ v ∷ more) e =
    let alike : v ≡ w = same_Some v w (e ∙ at) in
    past (zid_at t) _ (name_step t)
    (λ one. past (zid_at u) _ (name_step u)
    (λ other. then_err (link_weight_at (v ∷ more)) _ BadWords (no_link_weight v more (ap is_weight alike ∙ isnt))))

-- between right names that are not one, with a right weight or none, a link is right
pub link_right : (v w : List ℕ) (more : List (List ℕ)) (one other : List ℕ) (weight : ℕ) → zid_at v ≡ Ok one → zid_at w ≡ Ok other → link_weight_at more ≡ Ok weight
    → is_named one other ≡ false → link_line (v ∷ w ∷ more) ≡ Ok (c.Act (a.Link one other weight))
unfolding link_line
link_right v w more one other weight is also weighs apart =
    then_ok (zid_at v) _ one is ∙ then_ok (zid_at w) _ other also ∙ then_ok (link_weight_at more) _ weight weighs ∙ else_of (is_named one other) _ _ apart

-- between two that are one it never is
pub link_to_itself : (v w : List ℕ) (one other : List ℕ) → zid_at v ≡ Ok one → zid_at w ≡ Ok other → is_named one other ≡ true
    → (more : List (List ℕ)) → link_line (v ∷ w ∷ more) ≡ Err BadWords
unfolding link_line
link_to_itself v w one other is also alike more =
    then_ok (zid_at v) _ one is ∙ then_ok (zid_at w) _ other also
    ∙ past (link_weight_at more) _ (link_weight_step more) (λ weight. then_of (is_named one other) _ _ alike)

-- `01` and `02` are names
first_name : zid_at (codes "01") ≡ Ok (1 ∷ [])
unfolding decode_pairs
first_name = refl

second_name : zid_at (codes "02") ≡ Ok (2 ∷ [])
unfolding decode_pairs
second_name = refl

-- each router may be linked to one of two
pub link_to_some : (v one : List ℕ) → zid_at v ≡ Ok one → (w : List ℕ) × (is_ok (link_line (v ∷ w ∷ [])) ≡ true)
link_to_some v one is = by (slice_cmp nat_cmp one (1 ∷ [])) refl
  where
    first : is_named one (1 ∷ []) ≡ false → (w : List ℕ) × (is_ok (link_line (v ∷ w ∷ [])) ≡ true)
    first apart = (codes "01", ap (λ r. is_ok r) (link_right v (codes "01") [] one (1 ∷ []) 1 is first_name refl apart))

    by : (o : Ordering) → slice_cmp nat_cmp one (1 ∷ []) ≡ o → (w : List ℕ) × (is_ok (link_line (v ∷ w ∷ [])) ≡ true)
    by Less e = first (ap is_eq e)
    by Equal e = (codes "02", ap (λ r. is_ok r) (link_right v (codes "02") [] one (2 ∷ []) 1 is second_name refl (ap (λ z. is_named z (2 ∷ [])) (exact_bytes one (1 ∷ []) e))))
    by Greater e = first (ap is_eq e)
