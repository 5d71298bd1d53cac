-- Which word of a command is told as wrong, and that it is.
use Rattle.std.proofs.Common.{◌≡◌, ◌∙◌, ℕ, ◌≤◌, ◌⊎◌, Bool, true, false, List, [], ◌∷◌, None, Ok, Err, suc, refl, sym, ap, inl, inr, arith, true≢false}
use Rattle.std.specs.Prelude.{◌&&◌, codes, if◌then◌else◌, length, not}
use Rattle.zr_id.specs.Zid.{is_named}
use Rattle.zr_script_spec.specs.declared.command.Command.{Command}
use Rattle.zr_script_spec.specs.declared.error.ScriptError.TheVariants.{BadWords}
use Rattle.zr_script_spec.specs.Command.{by_name, by_words, get_line, interest_line, link_line, reply_line}
use Rattle.zr_script_spec.specs.Words.{is_word, link_weight_at, zid_at}
use Rattle.zr_lists.proofs.Truths.{then_of, else_of}
use Rattle.zr_script_explain.specs.Forms.{word_at}
use Rattle.zr_script_explain.specs.Places.{bad_word, is_count, is_kind, is_mode, is_name, is_target, is_weight}
use Rattle.zr_script_explain.specs.Carets.{IsAtFaultBehind}
use Rattle.zr_script_explain.proofs.CaretSteps.{a_name, a_time, a_weight, the_word}
use Rattle.zr_script_explain.proofs.CaretForms.{Form, IsWrong, one_name, one_wrong, one_right, one_number, count_wrong, count_right, two_names, names_wrong, names_then, names_right, name_number, numbered_wrong, numbered_then, numbered_right, nothing, name_key, keyed_wrong, keyed_right, name_key_more, put_wrong, put_right, name_number_key, declared_wrong, declared_then, declared_right}
use Rattle.zr_script_explain.proofs.CaretLinks.{link_right, link_then, link_to_itself, link_to_some, link_weighs, link_wrong}
use Rattle.zr_script_explain.proofs.CaretQueries.{get_latest, get_number, get_right, get_target, get_wrong, interest_aggregate, interest_kind, interest_mode, interest_number, interest_right, interest_wrong, reply_number, reply_right, reply_time, reply_wrong}

-- the word that is told as wrong is at fault
abbrev pub IsFound : List ℕ → Form → List (List ℕ) → Type 0
IsFound name form args = (n : ℕ) × (bad_word (name ∷ args) ≡ suc n) × (IsWrong form args n ⊎ IsAtFaultBehind (name ∷ args) BadWords (suc n))

-- ---- each form

-- the first word is told as wrong, or else the second
abbrev pub FirstOrSecond : List ℕ → List (List ℕ) → Type 0
FirstOrSecond name args = bad_word (name ∷ args) ≡ (if is_name (word_at 0 args) then 2 else 1)

module _ (name : List ℕ) where
  pub one_found : (make : List ℕ → Command) → ((w : List ℕ) → FirstOrSecond name (w ∷ []))
      → (args : List (List ℕ)) → 1 ≤ length args → length args ≤ 1 → one_name make args ≡ Err BadWords → IsFound name (one_name make) args
  one_found make says [] enough fits refused = absurd (omega arith)
  one_found make says (w ∷ []) enough fits refused = by (is_name w) refl
    where
      by : (t : Bool) → is_name w ≡ t → IsFound name (one_name make) (w ∷ [])
      by true e = absurd (one_right make w e refused)
      by false e = (0, says w ∙ else_of (is_name w) 2 1 e, inl (one_wrong make w (w ∷ []) refl e))
  one_found make says (v ∷ w ∷ more) enough fits refused = absurd (omega arith)

  pub names_found : (make : List ℕ → List ℕ → Command) → ((v w : List ℕ) → FirstOrSecond name (v ∷ w ∷ []))
      → (args : List (List ℕ)) → 2 ≤ length args → length args ≤ 2 → two_names make args ≡ Err BadWords → IsFound name (two_names make) args
  names_found make says [] enough fits refused = absurd (omega arith)
  names_found make says (v ∷ []) enough fits refused = absurd (omega arith)
  names_found make says (v ∷ w ∷ []) enough fits refused = by (is_name v) refl (is_name w) refl
    where
      by : (t : Bool) → is_name v ≡ t → (s : Bool) → is_name w ≡ s → IsFound name (two_names make) (v ∷ w ∷ [])
      by true e true g = absurd (names_right make v w e g refused)
      by true e false g = (1, says v w ∙ then_of (is_name v) 2 1 e, inl (names_then make w (v ∷ w ∷ []) refl g))
      by false e s g = (0, says v w ∙ else_of (is_name v) 2 1 e, inl (names_wrong make v (v ∷ w ∷ []) refl e))
  names_found make says (u ∷ v ∷ w ∷ more) enough fits refused = absurd (omega arith)

  pub numbered_found : (make : List ℕ → ℕ → Command) → ((v w : List ℕ) → FirstOrSecond name (v ∷ w ∷ []))
      → (args : List (List ℕ)) → 2 ≤ length args → length args ≤ 2 → name_number make args ≡ Err BadWords → IsFound name (name_number make) args
  numbered_found make says [] enough fits refused = absurd (omega arith)
  numbered_found make says (v ∷ []) enough fits refused = absurd (omega arith)
  numbered_found make says (v ∷ w ∷ []) enough fits refused = by (is_name v) refl (is_count w) refl
    where
      by : (t : Bool) → is_name v ≡ t → (s : Bool) → is_count w ≡ s → IsFound name (name_number make) (v ∷ w ∷ [])
      by true e true g = absurd (numbered_right make v w e g refused)
      by true e false g = (1, says v w ∙ then_of (is_name v) 2 1 e, inl (numbered_then make w (v ∷ w ∷ []) refl g))
      by false e s g = (0, says v w ∙ else_of (is_name v) 2 1 e, inl (numbered_wrong make v (v ∷ w ∷ []) refl e))
  numbered_found make says (u ∷ v ∷ w ∷ more) enough fits refused = absurd (omega arith)

  pub keyed_found : (make : List ℕ → List ℕ → Command) → ((v w : List ℕ) → FirstOrSecond name (v ∷ w ∷ []))
      → (args : List (List ℕ)) → 2 ≤ length args → length args ≤ 2 → name_key make args ≡ Err BadWords → IsFound name (name_key make) args
  keyed_found make says [] enough fits refused = absurd (omega arith)
  keyed_found make says (v ∷ []) enough fits refused = absurd (omega arith)
  keyed_found make says (v ∷ w ∷ []) enough fits refused = by (is_name v) refl
    where
      by : (t : Bool) → is_name v ≡ t → IsFound name (name_key make) (v ∷ w ∷ [])
      by true e = absurd (keyed_right make v w e refused)
      by false e = (0, says v w ∙ else_of (is_name v) 2 1 e, inl (keyed_wrong make v (v ∷ w ∷ []) refl e))
  keyed_found make says (u ∷ v ∷ w ∷ more) enough fits refused = absurd (omega arith)

  pub put_found : (make : List ℕ → List ℕ → List ℕ → Command) → ((u v w : List ℕ) → FirstOrSecond name (u ∷ v ∷ w ∷ []))
      → (args : List (List ℕ)) → 3 ≤ length args → length args ≤ 3 → name_key_more make args ≡ Err BadWords → IsFound name (name_key_more make) args
  put_found make says [] enough fits refused = absurd (omega arith)
  put_found make says (u ∷ []) enough fits refused = absurd (omega arith)
  put_found make says (u ∷ v ∷ []) enough fits refused = absurd (omega arith)
  put_found make says (u ∷ v ∷ w ∷ []) enough fits refused = by (is_name u) refl
    where
      by : (t : Bool) → is_name u ≡ t → IsFound name (name_key_more make) (u ∷ v ∷ w ∷ [])
      by true e = absurd (put_right make u v w e refused)
      by false e = (0, says u v w ∙ else_of (is_name u) 2 1 e, inl (put_wrong make u (u ∷ v ∷ w ∷ []) refl e))
  put_found make says (t ∷ u ∷ v ∷ w ∷ more) enough fits refused = absurd (omega arith)

  pub declared_found : (make : List ℕ → ℕ → List ℕ → Command) → ((u v w : List ℕ) → FirstOrSecond name (u ∷ v ∷ w ∷ []))
      → (args : List (List ℕ)) → 3 ≤ length args → length args ≤ 3 → name_number_key make args ≡ Err BadWords → IsFound name (name_number_key make) args
  declared_found make says [] enough fits refused = absurd (omega arith)
  declared_found make says (u ∷ []) enough fits refused = absurd (omega arith)
  declared_found make says (u ∷ v ∷ []) enough fits refused = absurd (omega arith)
  declared_found make says (u ∷ v ∷ w ∷ []) enough fits refused = by (is_name u) refl (is_count v) refl
    where
      by : (t : Bool) → is_name u ≡ t → (s : Bool) → is_count v ≡ s → IsFound name (name_number_key make) (u ∷ v ∷ w ∷ [])
      by true e true g = absurd (declared_right make u v w e g refused)
      by true e false g = (1, says u v w ∙ then_of (is_name u) 2 1 e, inl (declared_then make v (u ∷ v ∷ w ∷ []) refl g))
      by false e s g = (0, says u v w ∙ else_of (is_name u) 2 1 e, inl (declared_wrong make u (u ∷ v ∷ w ∷ []) refl e))
  declared_found make says (t ∷ u ∷ v ∷ w ∷ more) enough fits refused = absurd (omega arith)

  pub nothing_found : (command : Command) (args : List (List ℕ)) → 0 ≤ length args → length args ≤ 0 → nothing command args ≡ Err BadWords → IsFound name (nothing command) args
  nothing_found command [] enough fits refused = absurd (cc)
  nothing_found command (w ∷ more) enough fits refused = absurd (omega arith)

pub count_found : (make : ℕ → Command) (args : List (List ℕ)) → 1 ≤ length args → length args ≤ 1 → one_number make args ≡ Err BadWords → IsFound (codes "run") (one_number make) args
count_found make [] enough fits refused = absurd (omega arith)
count_found make (w ∷ []) enough fits refused = by (is_count w) refl
  where
    by : (t : Bool) → is_count w ≡ t → IsFound (codes "run") (one_number make) (w ∷ [])
    by true e = absurd (count_right make w e refused)
    by false e = (0, else_of (is_count w) 2 1 e, inl (count_wrong make w (w ∷ []) refl e))
count_found make (v ∷ w ∷ more) enough fits refused = absurd (omega arith)

-- ---- links

no_both : (b c : Bool) → (b && false && c) ≡ false
no_both true c = refl
no_both false c = refl

one_of_them : (b c : Bool) → b ≡ false → (b && true && c) ≡ false
one_of_them true c isnt = absurd (true≢false isnt)
one_of_them false c isnt = refl

both_of_them : (b c : Bool) → b ≡ true → (b && true && c) ≡ c
both_of_them true c is = refl
both_of_them false c is = absurd (true≢false (sym is))

-- a link between right names, with a right weight or none, is refused since the names are one
itself : (v w : List ℕ) (more : List (List ℕ)) (one other : List ℕ) (weight : ℕ) → zid_at v ≡ Ok one → zid_at w ≡ Ok other → link_weight_at more ≡ Ok weight
    → link_line (v ∷ w ∷ more) ≡ Err BadWords → IsAtFaultBehind (codes "link" ∷ v ∷ w ∷ more) BadWords 2
unfolding by_words by_name
itself v w more one other weight is also weighs refused = by (is_named one other) refl
  where
    by : (t : Bool) → is_named one other ≡ t → IsAtFaultBehind (codes "link" ∷ v ∷ w ∷ more) BadWords 2
    by false apart = absurd (let clash = sym (link_right v w more one other weight is also weighs apart) ∙ refused in cc)
    by true alike =
        let some = link_to_some v one is in
        ((λ rest. link_to_itself v w one other is also alike rest), some.0 ∷ [], some.1)

pub link_found : (args : List (List ℕ)) → 2 ≤ length args → length args ≤ 3 → link_line args ≡ Err BadWords → IsFound (codes "link") link_line args
link_found [] enough fits refused = absurd (omega arith)
link_found (v ∷ []) enough fits refused = absurd (omega arith)
link_found (v ∷ w ∷ []) enough fits refused = by (is_name v) refl (is_name w) refl
  where
    second : is_name v ≡ true → bad_word (codes "link" ∷ v ∷ w ∷ []) ≡ 2
    second e = then_of (is_name v) _ _ e ∙ else_of (is_name w && false && true) 3 2 (no_both (is_name w) true)

    by : (t : Bool) → is_name v ≡ t → (s : Bool) → is_name w ≡ s → IsFound (codes "link") link_line (v ∷ w ∷ [])
    by true e true g =
        let one = a_name v e in
        let other = a_name w g in
        (1, second e, inr (itself v w [] one.0 other.0 1 one.1 other.1 refl refused))
    by true e false g = (1, second e, inl (link_then w (v ∷ w ∷ []) refl g))
    by false e s g = (0, else_of (is_name v) _ _ e, inl (link_wrong v (v ∷ w ∷ []) refl e))
link_found (v ∷ w ∷ x ∷ []) enough fits refused = by (is_name v) refl (is_name w) refl (is_weight x) refl
  where
    by : (t : Bool) → is_name v ≡ t → (s : Bool) → is_name w ≡ s → (r : Bool) → is_weight x ≡ r → IsFound (codes "link") link_line (v ∷ w ∷ x ∷ [])
    by true e true g true h =
        let one = a_name v e in
        let other = a_name w g in
        let weight = a_weight x h in (
          1,
          then_of (is_name v) _ _ e ∙ else_of (is_name w && true && not (is_weight x)) 3 2 (both_of_them (is_name w) (not (is_weight x)) g ∙ ap not h),
          inr (itself v w (x ∷ []) one.0 other.0 weight.0 one.1 other.1 weight.1 refused),
        )
    by true e true g false h = (
      2,
      then_of (is_name v) _ _ e ∙ then_of (is_name w && true && not (is_weight x)) 3 2 (both_of_them (is_name w) (not (is_weight x)) g ∙ ap not h),
      inl (link_weighs x (v ∷ w ∷ x ∷ []) refl h),
    )
    by true e false g r h = (
      1,
      then_of (is_name v) _ _ e ∙ else_of (is_name w && true && not (is_weight x)) 3 2 (one_of_them (is_name w) (not (is_weight x)) g),
      inl (link_then w (v ∷ w ∷ x ∷ []) refl g),
    )
    by false e s g r h = (0, else_of (is_name v) _ _ e, inl (link_wrong v (v ∷ w ∷ x ∷ []) refl e))
link_found (u ∷ v ∷ w ∷ x ∷ more) enough fits refused = absurd (omega arith)

-- ---- queries, replies and interests

pub get_found : (args : List (List ℕ)) → 4 ≤ length args → length args ≤ 5 → get_line args ≡ Err BadWords → IsFound (codes "get") get_line args
get_found [] enough fits refused = absurd (omega arith)
get_found (p ∷ []) enough fits refused = absurd (omega arith)
get_found (p ∷ q ∷ []) enough fits refused = absurd (omega arith)
get_found (p ∷ q ∷ r ∷ []) enough fits refused = absurd (omega arith)
get_found (p ∷ q ∷ r ∷ s ∷ []) enough fits refused = by (is_name p) refl (is_count q) refl (is_target s) refl
  where
    by : (t : Bool) → is_name p ≡ t → (u : Bool) → is_count q ≡ u → (v : Bool) → is_target s ≡ v → IsFound (codes "get") get_line (p ∷ q ∷ r ∷ s ∷ [])
    by true e true g true h = absurd (get_right p q r s [] false e g h refl refused)
    by true e true g false h = (3, then_of (is_name p) _ _ e ∙ then_of (is_count q) _ _ g ∙ else_of (is_target s) 5 4 h, inl (get_target s (p ∷ q ∷ r ∷ s ∷ []) refl h))
    by true e false g v h = (1, then_of (is_name p) _ _ e ∙ else_of (is_count q) _ _ g, inl (get_number q (p ∷ q ∷ r ∷ s ∷ []) refl g))
    by false e u g v h = (0, else_of (is_name p) _ _ e, inl (get_wrong p (p ∷ q ∷ r ∷ s ∷ []) refl e))
get_found (p ∷ q ∷ r ∷ s ∷ l ∷ []) enough fits refused = by (is_name p) refl (is_count q) refl (is_target s) refl (is_word l (codes "latest")) refl
  where
    by : (t : Bool) → is_name p ≡ t → (u : Bool) → is_count q ≡ u → (v : Bool) → is_target s ≡ v → (w : Bool) → is_word l (codes "latest") ≡ w
        → IsFound (codes "get") get_line (p ∷ q ∷ r ∷ s ∷ l ∷ [])
    by true e true g true h true i = absurd (get_right p q r s (l ∷ []) true e g h (the_word (codes "latest") l i) refused)
    by true e true g true h false i = (
      4,
      then_of (is_name p) _ _ e ∙ then_of (is_count q) _ _ g ∙ then_of (is_target s) 5 4 h,
      inl (get_latest l (p ∷ q ∷ r ∷ s ∷ l ∷ []) refl i),
    )
    by true e true g false h w i = (3, then_of (is_name p) _ _ e ∙ then_of (is_count q) _ _ g ∙ else_of (is_target s) 5 4 h, inl (get_target s (p ∷ q ∷ r ∷ s ∷ l ∷ []) refl h))
    by true e false g v h w i = (1, then_of (is_name p) _ _ e ∙ else_of (is_count q) _ _ g, inl (get_number q (p ∷ q ∷ r ∷ s ∷ l ∷ []) refl g))
    by false e u g v h w i = (0, else_of (is_name p) _ _ e, inl (get_wrong p (p ∷ q ∷ r ∷ s ∷ l ∷ []) refl e))
get_found (p ∷ q ∷ r ∷ s ∷ l ∷ x ∷ more) enough fits refused = absurd (omega arith)

pub reply_found : (args : List (List ℕ)) → 4 ≤ length args → length args ≤ 5 → reply_line args ≡ Err BadWords → IsFound (codes "reply") reply_line args
reply_found [] enough fits refused = absurd (omega arith)
reply_found (p ∷ []) enough fits refused = absurd (omega arith)
reply_found (p ∷ q ∷ []) enough fits refused = absurd (omega arith)
reply_found (p ∷ q ∷ r ∷ []) enough fits refused = absurd (omega arith)
reply_found (p ∷ q ∷ r ∷ s ∷ []) enough fits refused = by (is_name p) refl (is_count q) refl
  where
    by : (t : Bool) → is_name p ≡ t → (u : Bool) → is_count q ≡ u → IsFound (codes "reply") reply_line (p ∷ q ∷ r ∷ s ∷ [])
    by true e true g = absurd (reply_right p q r s [] None e g refl refused)
    by true e false g = (1, then_of (is_name p) _ _ e ∙ else_of (is_count q) 5 2 g, inl (reply_number q (p ∷ q ∷ r ∷ s ∷ []) refl g))
    by false e u g = (0, else_of (is_name p) _ _ e, inl (reply_wrong p (p ∷ q ∷ r ∷ s ∷ []) refl e))
reply_found (p ∷ q ∷ r ∷ s ∷ n ∷ []) enough fits refused = by (is_name p) refl (is_count q) refl (is_count n) refl
  where
    by : (t : Bool) → is_name p ≡ t → (u : Bool) → is_count q ≡ u → (v : Bool) → is_count n ≡ v → IsFound (codes "reply") reply_line (p ∷ q ∷ r ∷ s ∷ n ∷ [])
    by true e true g true h = let time = a_time n h in absurd (reply_right p q r s (n ∷ []) time.0 e g time.1 refused)
    by true e true g false h = (4, then_of (is_name p) _ _ e ∙ then_of (is_count q) 5 2 g, inl (reply_time n (p ∷ q ∷ r ∷ s ∷ n ∷ []) refl h))
    by true e false g v h = (1, then_of (is_name p) _ _ e ∙ else_of (is_count q) 5 2 g, inl (reply_number q (p ∷ q ∷ r ∷ s ∷ n ∷ []) refl g))
    by false e u g v h = (0, else_of (is_name p) _ _ e, inl (reply_wrong p (p ∷ q ∷ r ∷ s ∷ n ∷ []) refl e))
reply_found (p ∷ q ∷ r ∷ s ∷ n ∷ x ∷ more) enough fits refused = absurd (omega arith)

pub interest_found : (args : List (List ℕ)) → 5 ≤ length args → length args ≤ 6 → interest_line args ≡ Err BadWords → IsFound (codes "interest") interest_line args
interest_found [] enough fits refused = absurd (omega arith)
interest_found (p ∷ []) enough fits refused = absurd (omega arith)
interest_found (p ∷ q ∷ []) enough fits refused = absurd (omega arith)
interest_found (p ∷ q ∷ r ∷ []) enough fits refused = absurd (omega arith)
interest_found (p ∷ q ∷ r ∷ s ∷ []) enough fits refused = absurd (omega arith)
interest_found (p ∷ q ∷ r ∷ s ∷ k ∷ []) enough fits refused = by (is_name p) refl (is_count q) refl (is_mode r) refl (is_kind s) refl
  where
    by : (t : Bool) → is_name p ≡ t → (u : Bool) → is_count q ≡ u → (v : Bool) → is_mode r ≡ v → (w : Bool) → is_kind s ≡ w
        → IsFound (codes "interest") interest_line (p ∷ q ∷ r ∷ s ∷ k ∷ [])
    by true e true g true h true i = absurd (interest_right p q r s k [] false e g h i refl refused)
    by true e true g true h false i = (
      3,
      then_of (is_name p) _ _ e ∙ then_of (is_count q) _ _ g ∙ else_of (not (is_mode r)) _ _ (ap not h) ∙ then_of (not (is_kind s)) 4 6 (ap not i),
      inl (interest_kind s (p ∷ q ∷ r ∷ s ∷ k ∷ []) refl i),
    )
    by true e true g false h w i = (
      2,
      then_of (is_name p) _ _ e ∙ then_of (is_count q) _ _ g ∙ then_of (not (is_mode r)) _ _ (ap not h),
      inl (interest_mode r (p ∷ q ∷ r ∷ s ∷ k ∷ []) refl h),
    )
    by true e false g v h w i = (1, then_of (is_name p) _ _ e ∙ else_of (is_count q) _ _ g, inl (interest_number q (p ∷ q ∷ r ∷ s ∷ k ∷ []) refl g))
    by false e u g v h w i = (0, else_of (is_name p) _ _ e, inl (interest_wrong p (p ∷ q ∷ r ∷ s ∷ k ∷ []) refl e))
interest_found (p ∷ q ∷ r ∷ s ∷ k ∷ a ∷ []) enough fits refused = by (is_name p) refl (is_count q) refl (is_mode r) refl (is_kind s) refl (is_word a (codes "aggregate")) refl
  where
    by : (t : Bool) → is_name p ≡ t → (u : Bool) → is_count q ≡ u → (v : Bool) → is_mode r ≡ v → (w : Bool) → is_kind s ≡ w → (x : Bool) → is_word a (codes "aggregate") ≡ x
        → IsFound (codes "interest") interest_line (p ∷ q ∷ r ∷ s ∷ k ∷ a ∷ [])
    by true e true g true h true i true j = absurd (interest_right p q r s k (a ∷ []) true e g h i (the_word (codes "aggregate") a j) refused)
    by true e true g true h true i false j = (
      5,
      then_of (is_name p) _ _ e ∙ then_of (is_count q) _ _ g ∙ else_of (not (is_mode r)) _ _ (ap not h) ∙ else_of (not (is_kind s)) 4 6 (ap not i),
      inl (interest_aggregate a (p ∷ q ∷ r ∷ s ∷ k ∷ a ∷ []) refl j),
    )
    by true e true g true h false i x j = (
      3,
      then_of (is_name p) _ _ e ∙ then_of (is_count q) _ _ g ∙ else_of (not (is_mode r)) _ _ (ap not h) ∙ then_of (not (is_kind s)) 4 6 (ap not i),
      inl (interest_kind s (p ∷ q ∷ r ∷ s ∷ k ∷ a ∷ []) refl i),
    )
    by true e true g false h w i x j = (
      2,
      then_of (is_name p) _ _ e ∙ then_of (is_count q) _ _ g ∙ then_of (not (is_mode r)) _ _ (ap not h),
      inl (interest_mode r (p ∷ q ∷ r ∷ s ∷ k ∷ a ∷ []) refl h),
    )
    by true e false g v h w i x j = (1, then_of (is_name p) _ _ e ∙ else_of (is_count q) _ _ g, inl (interest_number q (p ∷ q ∷ r ∷ s ∷ k ∷ a ∷ []) refl g))
    by false e u g v h w i x j = (0, else_of (is_name p) _ _ e, inl (interest_wrong p (p ∷ q ∷ r ∷ s ∷ k ∷ a ∷ []) refl e))
interest_found (p ∷ q ∷ r ∷ s ∷ k ∷ a ∷ x ∷ more) enough fits refused = absurd (omega arith)
