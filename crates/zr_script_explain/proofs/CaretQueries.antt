-- The forms of `get`, `reply` and `interest`, whose last word may be left out.
use Rattle.std.proofs.Common.{◌≡◌, ◌∙◌, ℕ, Bool, true, false, List, [], ◌∷◌, Option, Some, Ok, Err, refl, sym, ap, inl, inr, arith}
use Rattle.std.specs.Prelude.{codes}
use Rattle.std.specs.List.{slice_get}
use Rattle.std.proofs.lemmas.Option.{same_Some}
use Rattle.zr_script_spec.specs.declared.error.ScriptError.TheVariants.{BadWords}
use Rattle.zr_script_spec.specs.declared.command.Act.TheVariants as a
use Rattle.zr_script_spec.specs.declared.command.Command.TheVariants as c
use Rattle.zr_script_spec.specs.Command.{answer_body, asking_body, get_line, interest_line, plain, reply_line}
use Rattle.zr_script_spec.specs.Words.{is_word, zid_at, number_at, time_at, target_at, latest_at, mode_at, kinds_at, aggregate_at, payload_at}
use Rattle.zr_script_explain.specs.Places.{is_count, is_kind, is_mode, is_name, is_target}
use Rattle.zr_script_explain.proofs.CaretSteps.{a_mode, a_name, a_number, a_target, both_key, key_isnt_words, key_step, kinds_step, maybe_key_isnt_words, maybe_key_step, mode_step, name_step, no_kinds, no_mode, no_name, no_number, no_target, no_time, no_word, number_step, past, some_kinds, target_step, then_err, then_ok, there_step, time_step}
use Rattle.zr_script_explain.proofs.CaretForms.{IsWrong, OfKey, TooFew, TooMany}

-- ---- get

pub get_few : TooFew get_line 4
unfolding get_line
get_few [] few = refl
get_few (p ∷ []) few = refl
get_few (p ∷ q ∷ []) few = refl
get_few (p ∷ q ∷ r ∷ []) few = refl
get_few (p ∷ q ∷ r ∷ s ∷ more) few = absurd (omega arith)

pub get_many : TooMany get_line 5
unfolding get_line
get_many [] many = refl
get_many (p ∷ []) many = refl
get_many (p ∷ q ∷ []) many = refl
get_many (p ∷ q ∷ r ∷ []) many = refl
get_many (p ∷ q ∷ r ∷ s ∷ []) many = absurd (omega arith)
get_many (p ∷ q ∷ r ∷ s ∷ t ∷ []) many = absurd (omega arith)
get_many (p ∷ q ∷ r ∷ s ∷ t ∷ u ∷ more) many = past (zid_at p) _ (name_step p) (λ x. past (number_at q) _ (number_step q) (λ y. past (target_at s) _ (target_step s) (λ z. refl)))

pub get_wrong : (w : List ℕ) (args : List (List ℕ)) → slice_get args 0 ≡ Some w → is_name w ≡ false → IsWrong get_line args 0
unfolding get_line
get_wrong w args at isnt [] e = refl
get_wrong w args at isnt (p ∷ []) e = refl
get_wrong w args at isnt (p ∷ q ∷ []) e = refl
get_wrong w args at isnt (p ∷ q ∷ r ∷ []) e = refl
get_wrong w args at isnt (p ∷ q ∷ r ∷ s ∷ more) e = let alike : p ≡ w = same_Some p w (e ∙ at) in then_err (zid_at p) _ BadWords (ap zid_at alike ∙ no_name w isnt)

pub get_number : (w : List ℕ) (args : List (List ℕ)) → slice_get args 1 ≡ Some w → is_count w ≡ false → IsWrong get_line args 1
unfolding get_line
get_number w args at isnt [] e = refl
get_number w args at isnt (p ∷ []) e = refl
get_number w args at isnt (p ∷ q ∷ []) e = refl
get_number w args at isnt (p ∷ q ∷ r ∷ []) e = refl
get_number w args at isnt (p ∷ q ∷ r ∷ s ∷ more) e =
    let alike : q ≡ w = same_Some q w (e ∙ at) in
    past (zid_at p) _ (name_step p) (λ x. then_err (number_at q) _ BadWords (ap number_at alike ∙ no_number w isnt))

pub get_target : (w : List ℕ) (args : List (List ℕ)) → slice_get args 3 ≡ Some w → is_target w ≡ false → IsWrong get_line args 3
unfolding get_line
get_target w args at isnt [] e = refl
get_target w args at isnt (p ∷ []) e = refl
get_target w args at isnt (p ∷ q ∷ []) e = refl
get_target w args at isnt (p ∷ q ∷ r ∷ []) e = refl
get_target w args at isnt (p ∷ q ∷ r ∷ s ∷ more) e =
    let alike : s ≡ w = same_Some s w (e ∙ at) in
    past (zid_at p) _ (name_step p) (λ x. past (number_at q) _ (number_step q) (λ y. then_err (target_at s) _ BadWords (ap target_at alike ∙ no_target w isnt)))

pub get_latest : (w : List ℕ) (args : List (List ℕ)) → slice_get args 4 ≡ Some w → is_word w (codes "latest") ≡ false → IsWrong get_line args 4
unfolding get_line
get_latest w args at isnt [] e = refl
get_latest w args at isnt (p ∷ []) e = refl
get_latest w args at isnt (p ∷ q ∷ []) e = refl
get_latest w args at isnt (p ∷ q ∷ r ∷ []) e = refl
get_latest w args at isnt (p ∷ q ∷ r ∷ s ∷ []) e = let none = e ∙ at in absurd (cc)
get_latest w args at isnt (p ∷ q ∷ r ∷ s ∷ t ∷ more) e =
    let alike : t ≡ w = same_Some t w (e ∙ at) in
    past (zid_at p) _ (name_step p)
    (λ x. past (number_at q) _ (number_step q)
    (λ y. past (target_at s) _ (target_step s)
    (λ z. then_err (latest_at (t ∷ more)) _ BadWords (no_word (codes "latest") t more (ap (λ v. is_word v (codes "latest")) alike ∙ isnt)))))

pub get_right : (p q r s : List ℕ) (more : List (List ℕ)) (asks : Bool) → is_name p ≡ true → is_count q ≡ true → is_target s ≡ true → latest_at more ≡ Ok asks
    → get_line (p ∷ q ∷ r ∷ s ∷ more) ≡ Err BadWords → ⊥
unfolding get_line
get_right p q r s more asks named numbered targets ends refused =
    let x = a_name p named in
    let y = a_number q numbered in
    let z = a_target s targets in
    let steps : get_line (p ∷ q ∷ r ∷ s ∷ more) ≡ _ =
    then_ok (zid_at p) _ x.0 x.1 ∙ then_ok (number_at q) _ y.0 y.1 ∙ then_ok (target_at s) _ z.0 z.1 ∙ then_ok (latest_at more) _ asks ends in
    key_isnt_words r (λ key. c.Act (a.Get x.0 y.0 z.0 (plain key (asking_body asks)))) (sym steps ∙ refused)

pub get_key : OfKey get_line 2
unfolding get_line
get_key [] = inl (inr refl)
get_key (p ∷ []) = inl (inr refl)
get_key (p ∷ q ∷ []) = inl (inr refl)
get_key (p ∷ q ∷ r ∷ []) = inl (inr refl)
get_key (p ∷ q ∷ r ∷ s ∷ more) = inr (
  r,
  refl,
  both_key r (zid_at p) _ (name_step p)
      (λ x. both_key r (number_at q) _ (number_step q)
      (λ y. both_key r (target_at s) _ (target_step s)
      (λ z. both_key r (latest_at more) _ (there_step (codes "latest") more) (λ asks. key_step r (λ key. c.Act (a.Get x y z (plain key (asking_body asks)))))))),
)

-- ---- reply

pub reply_few : TooFew reply_line 4
unfolding reply_line
reply_few [] few = refl
reply_few (p ∷ []) few = refl
reply_few (p ∷ q ∷ []) few = refl
reply_few (p ∷ q ∷ r ∷ []) few = refl
reply_few (p ∷ q ∷ r ∷ s ∷ more) few = absurd (omega arith)

pub reply_many : TooMany reply_line 5
unfolding reply_line
reply_many [] many = refl
reply_many (p ∷ []) many = refl
reply_many (p ∷ q ∷ []) many = refl
reply_many (p ∷ q ∷ r ∷ []) many = refl
reply_many (p ∷ q ∷ r ∷ s ∷ []) many = absurd (omega arith)
reply_many (p ∷ q ∷ r ∷ s ∷ t ∷ []) many = absurd (omega arith)
reply_many (p ∷ q ∷ r ∷ s ∷ t ∷ u ∷ more) many = past (zid_at p) _ (name_step p) (λ x. past (number_at q) _ (number_step q) (λ y. refl))

pub reply_wrong : (w : List ℕ) (args : List (List ℕ)) → slice_get args 0 ≡ Some w → is_name w ≡ false → IsWrong reply_line args 0
unfolding reply_line
reply_wrong w args at isnt [] e = refl
reply_wrong w args at isnt (p ∷ []) e = refl
reply_wrong w args at isnt (p ∷ q ∷ []) e = refl
reply_wrong w args at isnt (p ∷ q ∷ r ∷ []) e = refl
reply_wrong w args at isnt (p ∷ q ∷ r ∷ s ∷ more) e = let alike : p ≡ w = same_Some p w (e ∙ at) in then_err (zid_at p) _ BadWords (ap zid_at alike ∙ no_name w isnt)

pub reply_number : (w : List ℕ) (args : List (List ℕ)) → slice_get args 1 ≡ Some w → is_count w ≡ false → IsWrong reply_line args 1
unfolding reply_line
reply_number w args at isnt [] e = refl
reply_number w args at isnt (p ∷ []) e = refl
reply_number w args at isnt (p ∷ q ∷ []) e = refl
reply_number w args at isnt (p ∷ q ∷ r ∷ []) e = refl
reply_number w args at isnt (p ∷ q ∷ r ∷ s ∷ more) e =
    let alike : q ≡ w = same_Some q w (e ∙ at) in
    past (zid_at p) _ (name_step p) (λ x. then_err (number_at q) _ BadWords (ap number_at alike ∙ no_number w isnt))

pub reply_time : (w : List ℕ) (args : List (List ℕ)) → slice_get args 4 ≡ Some w → is_count w ≡ false → IsWrong reply_line args 4
unfolding reply_line
reply_time w args at isnt [] e = refl
reply_time w args at isnt (p ∷ []) e = refl
reply_time w args at isnt (p ∷ q ∷ []) e = refl
reply_time w args at isnt (p ∷ q ∷ r ∷ []) e = refl
reply_time w args at isnt (p ∷ q ∷ r ∷ s ∷ []) e = let none = e ∙ at in absurd (cc)
reply_time w args at isnt (p ∷ q ∷ r ∷ s ∷ t ∷ more) e =
    let alike : t ≡ w = same_Some t w (e ∙ at) in
    past (zid_at p) _ (name_step p)
    (λ x. past (number_at q) _ (number_step q) (λ y. then_err (time_at (t ∷ more)) _ BadWords (no_time t more (ap is_count alike ∙ isnt))))

pub reply_right : (p q r s : List ℕ) (more : List (List ℕ)) (time : Option ℕ) → is_name p ≡ true → is_count q ≡ true → time_at more ≡ Ok time
    → reply_line (p ∷ q ∷ r ∷ s ∷ more) ≡ Err BadWords → ⊥
unfolding reply_line
reply_right p q r s more time named numbered ends refused =
    let x = a_name p named in
    let y = a_number q numbered in
    let steps : reply_line (p ∷ q ∷ r ∷ s ∷ more) ≡ _ = then_ok (zid_at p) _ x.0 x.1 ∙ then_ok (number_at q) _ y.0 y.1 ∙ then_ok (time_at more) _ time ends in
    key_isnt_words r (λ key. c.Act (a.Reply x.0 y.0 (plain key (answer_body time x.0 (payload_at s))))) (sym steps ∙ refused)

pub reply_key : OfKey reply_line 2
unfolding reply_line
reply_key [] = inl (inr refl)
reply_key (p ∷ []) = inl (inr refl)
reply_key (p ∷ q ∷ []) = inl (inr refl)
reply_key (p ∷ q ∷ r ∷ []) = inl (inr refl)
reply_key (p ∷ q ∷ r ∷ s ∷ more) = inr (
  r,
  refl,
  both_key r (zid_at p) _ (name_step p)
      (λ x. both_key r (number_at q) _ (number_step q)
      (λ y. both_key r (time_at more) _ (time_step more) (λ time. key_step r (λ key. c.Act (a.Reply x y (plain key (answer_body time x (payload_at s)))))))),
)

-- ---- interest

pub interest_few : TooFew interest_line 5
unfolding interest_line
interest_few [] few = refl
interest_few (p ∷ []) few = refl
interest_few (p ∷ q ∷ []) few = refl
interest_few (p ∷ q ∷ r ∷ []) few = refl
interest_few (p ∷ q ∷ r ∷ s ∷ []) few = refl
interest_few (p ∷ q ∷ r ∷ s ∷ t ∷ more) few = absurd (omega arith)

pub interest_many : TooMany interest_line 6
unfolding interest_line
interest_many [] many = refl
interest_many (p ∷ []) many = refl
interest_many (p ∷ q ∷ []) many = refl
interest_many (p ∷ q ∷ r ∷ []) many = refl
interest_many (p ∷ q ∷ r ∷ s ∷ []) many = refl
interest_many (p ∷ q ∷ r ∷ s ∷ t ∷ []) many = absurd (omega arith)
interest_many (p ∷ q ∷ r ∷ s ∷ t ∷ u ∷ []) many = absurd (omega arith)
interest_many (p ∷ q ∷ r ∷ s ∷ t ∷ u ∷ v ∷ more) many =
    past (zid_at p) _ (name_step p)
    (λ x. past (number_at q) _ (number_step q) (λ y. past (mode_at r) _ (mode_step r) (λ m. past (kinds_at s) _ (kinds_step s) (λ k. refl))))

pub interest_wrong : (w : List ℕ) (args : List (List ℕ)) → slice_get args 0 ≡ Some w → is_name w ≡ false → IsWrong interest_line args 0
unfolding interest_line
interest_wrong w args at isnt [] e = refl
interest_wrong w args at isnt (p ∷ []) e = refl
interest_wrong w args at isnt (p ∷ q ∷ []) e = refl
interest_wrong w args at isnt (p ∷ q ∷ r ∷ []) e = refl
interest_wrong w args at isnt (p ∷ q ∷ r ∷ s ∷ []) e = refl
interest_wrong w args at isnt (p ∷ q ∷ r ∷ s ∷ t ∷ more) e = let alike : p ≡ w = same_Some p w (e ∙ at) in then_err (zid_at p) _ BadWords (ap zid_at alike ∙ no_name w isnt)

pub interest_number : (w : List ℕ) (args : List (List ℕ)) → slice_get args 1 ≡ Some w → is_count w ≡ false → IsWrong interest_line args 1
unfolding interest_line
interest_number w args at isnt [] e = refl
interest_number w args at isnt (p ∷ []) e = refl
interest_number w args at isnt (p ∷ q ∷ []) e = refl
interest_number w args at isnt (p ∷ q ∷ r ∷ []) e = refl
interest_number w args at isnt (p ∷ q ∷ r ∷ s ∷ []) e = refl
interest_number w args at isnt (p ∷ q ∷ r ∷ s ∷ t ∷ more) e =
    let alike : q ≡ w = same_Some q w (e ∙ at) in
    past (zid_at p) _ (name_step p) (λ x. then_err (number_at q) _ BadWords (ap number_at alike ∙ no_number w isnt))

pub interest_mode : (w : List ℕ) (args : List (List ℕ)) → slice_get args 2 ≡ Some w → is_mode w ≡ false → IsWrong interest_line args 2
unfolding interest_line
interest_mode w args at isnt [] e = refl
interest_mode w args at isnt (p ∷ []) e = refl
interest_mode w args at isnt (p ∷ q ∷ []) e = refl
interest_mode w args at isnt (p ∷ q ∷ r ∷ []) e = refl
interest_mode w args at isnt (p ∷ q ∷ r ∷ s ∷ []) e = refl
interest_mode w args at isnt (p ∷ q ∷ r ∷ s ∷ t ∷ more) e =
    let alike : r ≡ w = same_Some r w (e ∙ at) in
    past (zid_at p) _ (name_step p) (λ x. past (number_at q) _ (number_step q) (λ y. then_err (mode_at r) _ BadWords (ap mode_at alike ∙ no_mode w isnt)))

pub interest_kind : (w : List ℕ) (args : List (List ℕ)) → slice_get args 3 ≡ Some w → is_kind w ≡ false → IsWrong interest_line args 3
unfolding interest_line
interest_kind w args at isnt [] e = refl
interest_kind w args at isnt (p ∷ []) e = refl
interest_kind w args at isnt (p ∷ q ∷ []) e = refl
interest_kind w args at isnt (p ∷ q ∷ r ∷ []) e = refl
interest_kind w args at isnt (p ∷ q ∷ r ∷ s ∷ []) e = refl
interest_kind w args at isnt (p ∷ q ∷ r ∷ s ∷ t ∷ more) e =
    let alike : s ≡ w = same_Some s w (e ∙ at) in
    past (zid_at p) _ (name_step p)
    (λ x. past (number_at q) _ (number_step q)
    (λ y. past (mode_at r) _ (mode_step r) (λ m. then_err (kinds_at s) _ BadWords (ap kinds_at alike ∙ no_kinds w isnt))))

pub interest_aggregate : (w : List ℕ) (args : List (List ℕ)) → slice_get args 5 ≡ Some w → is_word w (codes "aggregate") ≡ false → IsWrong interest_line args 5
unfolding interest_line
interest_aggregate w args at isnt [] e = refl
interest_aggregate w args at isnt (p ∷ []) e = refl
interest_aggregate w args at isnt (p ∷ q ∷ []) e = refl
interest_aggregate w args at isnt (p ∷ q ∷ r ∷ []) e = refl
interest_aggregate w args at isnt (p ∷ q ∷ r ∷ s ∷ []) e = refl
interest_aggregate w args at isnt (p ∷ q ∷ r ∷ s ∷ t ∷ []) e = let none = e ∙ at in absurd (cc)
interest_aggregate w args at isnt (p ∷ q ∷ r ∷ s ∷ t ∷ u ∷ more) e =
    let alike : u ≡ w = same_Some u w (e ∙ at) in
    past (zid_at p) _ (name_step p)
    (λ x. past (number_at q) _ (number_step q)
    (λ y. past (mode_at r) _ (mode_step r)
    (λ m. past (kinds_at s) _ (kinds_step s)
    (λ k. then_err (aggregate_at (u ∷ more)) _ BadWords (no_word (codes "aggregate") u more (ap (λ v. is_word v (codes "aggregate")) alike ∙ isnt))))))

pub interest_right : (p q r s t : List ℕ) (more : List (List ℕ)) (whole : Bool) → is_name p ≡ true → is_count q ≡ true → is_mode r ≡ true → is_kind s ≡ true
    → aggregate_at more ≡ Ok whole → interest_line (p ∷ q ∷ r ∷ s ∷ t ∷ more) ≡ Err BadWords → ⊥
unfolding interest_line
interest_right p q r s t more whole named numbered moded kinded ends refused =
    let x = a_name p named in
    let y = a_number q numbered in
    let m = a_mode r moded in
    let k = some_kinds s kinded in
    let steps : interest_line (p ∷ q ∷ r ∷ s ∷ t ∷ more) ≡ _ =
    then_ok (zid_at p) _ x.0 x.1 ∙ then_ok (number_at q) _ y.0 y.1 ∙ then_ok (mode_at r) _ m.0 m.1 ∙ then_ok (kinds_at s) _ k.0 k.1
    ∙ then_ok (aggregate_at more) _ whole ends in
    maybe_key_isnt_words t (λ key. c.Act (a.Interest x.0 y.0 m.0 k.0 key whole)) (sym steps ∙ refused)

pub interest_key : OfKey interest_line 4
unfolding interest_line
interest_key [] = inl (inr refl)
interest_key (p ∷ []) = inl (inr refl)
interest_key (p ∷ q ∷ []) = inl (inr refl)
interest_key (p ∷ q ∷ r ∷ []) = inl (inr refl)
interest_key (p ∷ q ∷ r ∷ s ∷ []) = inl (inr refl)
interest_key (p ∷ q ∷ r ∷ s ∷ t ∷ more) = inr (
  t,
  refl,
  both_key t (zid_at p) _ (name_step p)
      (λ x. both_key t (number_at q) _ (number_step q)
      (λ y. both_key t (mode_at r) _ (mode_step r)
      (λ m. both_key t (kinds_at s) _ (kinds_step s)
      (λ k. both_key t (aggregate_at more) _ (there_step (codes "aggregate") more) (λ whole. maybe_key_step t (λ key. c.Act (a.Interest x y m k key whole))))))),
)
