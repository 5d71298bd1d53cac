-- The commands, by the words behind their names: what each form is refused for, and by which word.
use Rattle.std.proofs.Common.{◌≡◌, ◌∙◌, ℕ, ◌<◌, ◌⊎◌, true, false, List, [], ◌∷◌, Some, Result, Ok, Err, refl, sym, ap, inl, inr, arith}
use Rattle.std.specs.Prelude.{length}
use Rattle.std.specs.List.{slice_get}
use Rattle.std.proofs.lemmas.Option.{same_Some}
use Rattle.zr_script_spec.specs.declared.command.Command.{Command}
use Rattle.zr_script_spec.specs.declared.error.ScriptError.{ScriptError}
use Rattle.zr_script_spec.specs.declared.error.ScriptError.TheVariants.{BadWords}
use Rattle.zr_script_spec.specs.Step.{◌>>=◌}
use Rattle.zr_script_spec.specs.Words.{one_of, two_of, three_of, zid_at, number_at, key_at}
use Rattle.zr_script_explain.specs.Places.{is_count, is_name}
use Rattle.zr_script_explain.proofs.CaretSteps.{ByKey, ByWords, a_name, a_number, both_key, both_words, key_isnt_words, key_step, name_step, no_name, no_number, number_step, past, right, then_err, then_ok}

-- ---- lists of words

abbrev pub Form : Type 0
Form = List (List ℕ) → Result Command ScriptError

-- the word of this number, counted from 0, is at fault: each line of the form with the same word there is refused for its words
abbrev pub IsWrong : Form → List (List ℕ) → ℕ → Type 0
IsWrong form args k = (other : List (List ℕ)) → slice_get other k ≡ slice_get args k → form other ≡ Err BadWords

-- so many words at least and at most are right
abbrev pub TooFew : Form → ℕ → Type 0
TooFew form least = (args : List (List ℕ)) → length args < least → form args ≡ Err BadWords

abbrev pub TooMany : Form → ℕ → Type 0
TooMany form most = (args : List (List ℕ)) → most < length args → form args ≡ Err BadWords

-- what a form is refused for but for its words: the word of this number is to be a key, and is none
abbrev pub OfKey : Form → ℕ → Type 0
OfKey form k = (args : List (List ℕ)) → ByWords (form args) ⊎ ((w : List ℕ) × (slice_get args k ≡ Some w) × ByKey w (form args))

pub isnt_ok : {X : Type 0} (r : Result X ScriptError) (x : X) → r ≡ Ok x → r ≡ Err BadWords → ⊥
isnt_ok r x is isnt = let clash = sym is ∙ isnt in cc

-- ---- one name

abbrev pub one_name : (List ℕ → Command) → Form
one_name make args = do
  w ← one_of args
  id ← zid_at w
  Ok (make id)

module _ (make : List ℕ → Command) where
  pub one_few : TooFew (one_name make) 1
  one_few [] few = refl
  one_few (w ∷ more) few = absurd (omega arith)

  pub one_many : TooMany (one_name make) 1
  one_many [] many = refl
  one_many (w ∷ []) many = absurd (omega arith)
  one_many (v ∷ w ∷ more) many = refl

  pub one_wrong : (w : List ℕ) (args : List (List ℕ)) → slice_get args 0 ≡ Some w → is_name w ≡ false → IsWrong (one_name make) args 0
  one_wrong w args at isnt [] e = refl
  one_wrong w args at isnt (v ∷ []) e = let alike : v ≡ w = same_Some v w (e ∙ at) in then_err (zid_at v) _ BadWords (ap zid_at alike ∙ no_name w isnt)
  one_wrong w args at isnt (u ∷ v ∷ more) e = refl

  pub one_right : (w : List ℕ) → is_name w ≡ true → one_name make (w ∷ []) ≡ Err BadWords → ⊥
  one_right w is refused = let said = a_name w is in let p : one_name make (w ∷ []) ≡ _ = then_ok (zid_at w) _ said.0 said.1 in isnt_ok _ _ p refused

  pub one_words : (args : List (List ℕ)) → ByWords (one_name make args)
  one_words [] = inr refl
  one_words (w ∷ []) = both_words (zid_at w) _ (name_step w) (λ id. right (make id))
  one_words (v ∷ w ∷ more) = inr refl

-- ---- one number

abbrev pub one_number : (ℕ → Command) → Form
one_number make args = do
  w ← one_of args
  n ← number_at w
  Ok (make n)

module _ (make : ℕ → Command) where
  pub count_few : TooFew (one_number make) 1
  count_few [] few = refl
  count_few (w ∷ more) few = absurd (omega arith)

  pub count_many : TooMany (one_number make) 1
  count_many [] many = refl
  count_many (w ∷ []) many = absurd (omega arith)
  count_many (v ∷ w ∷ more) many = refl

  pub count_wrong : (w : List ℕ) (args : List (List ℕ)) → slice_get args 0 ≡ Some w → is_count w ≡ false → IsWrong (one_number make) args 0
  count_wrong w args at isnt [] e = refl
  count_wrong w args at isnt (v ∷ []) e = let alike : v ≡ w = same_Some v w (e ∙ at) in then_err (number_at v) _ BadWords (ap number_at alike ∙ no_number w isnt)
  count_wrong w args at isnt (u ∷ v ∷ more) e = refl

  pub count_right : (w : List ℕ) → is_count w ≡ true → one_number make (w ∷ []) ≡ Err BadWords → ⊥
  count_right w is refused = let said = a_number w is in let p : one_number make (w ∷ []) ≡ _ = then_ok (number_at w) _ said.0 said.1 in isnt_ok _ _ p refused

  pub count_words : (args : List (List ℕ)) → ByWords (one_number make args)
  count_words [] = inr refl
  count_words (w ∷ []) = both_words (number_at w) _ (number_step w) (λ n. right (make n))
  count_words (v ∷ w ∷ more) = inr refl

-- ---- two words, by what each may be

abbrev pub two_names : (List ℕ → List ℕ → Command) → Form
two_names make args = do
  w ← two_of args
  one ← zid_at w.0
  other ← zid_at w.1
  Ok (make one other)

module _ (make : List ℕ → List ℕ → Command) where
  pub names_few : TooFew (two_names make) 2
  names_few [] few = refl
  names_few (v ∷ []) few = refl
  names_few (v ∷ w ∷ more) few = absurd (omega arith)

  pub names_many : TooMany (two_names make) 2
  names_many [] many = refl
  names_many (v ∷ []) many = refl
  names_many (v ∷ w ∷ []) many = absurd (omega arith)
  names_many (u ∷ v ∷ w ∷ more) many = refl

  pub names_wrong : (w : List ℕ) (args : List (List ℕ)) → slice_get args 0 ≡ Some w → is_name w ≡ false → IsWrong (two_names make) args 0
  names_wrong w args at isnt [] e = refl
  names_wrong w args at isnt (v ∷ []) e = refl
  names_wrong w args at isnt (v ∷ u ∷ []) e = let alike : v ≡ w = same_Some v w (e ∙ at) in then_err (zid_at v) _ BadWords (ap zid_at alike ∙ no_name w isnt)
  names_wrong w args at isnt (v ∷ u ∷ t ∷ more) e = refl

  pub names_then : (w : List ℕ) (args : List (List ℕ)) → slice_get args 1 ≡ Some w → is_name w ≡ false → IsWrong (two_names make) args 1
  names_then w args at isnt [] e = refl
  names_then w args at isnt (v ∷ []) e = refl
  names_then w args at isnt (u ∷ v ∷ []) e =
      let alike : v ≡ w = same_Some v w (e ∙ at) in
      past (zid_at u) _ (name_step u) (λ id. then_err (zid_at v) _ BadWords (ap zid_at alike ∙ no_name w isnt))
  names_then w args at isnt (v ∷ u ∷ t ∷ more) e = refl

  pub names_right : (v w : List ℕ) → is_name v ≡ true → is_name w ≡ true → two_names make (v ∷ w ∷ []) ≡ Err BadWords → ⊥
  names_right v w is also refused =
      let one = a_name v is in
      let other = a_name w also in
      let p : two_names make (v ∷ w ∷ []) ≡ _ = then_ok (zid_at v) _ one.0 one.1 ∙ then_ok (zid_at w) _ other.0 other.1 in
      isnt_ok _ _ p refused

  pub names_words : (args : List (List ℕ)) → ByWords (two_names make args)
  names_words [] = inr refl
  names_words (v ∷ []) = inr refl
  names_words (v ∷ w ∷ []) = both_words (zid_at v) _ (name_step v) (λ one. both_words (zid_at w) _ (name_step w) (λ other. right (make one other)))
  names_words (u ∷ v ∷ w ∷ more) = inr refl

abbrev pub name_number : (List ℕ → ℕ → Command) → Form
name_number make args = do
  w ← two_of args
  client ← zid_at w.0
  n ← number_at w.1
  Ok (make client n)

module _ (make : List ℕ → ℕ → Command) where
  pub numbered_few : TooFew (name_number make) 2
  numbered_few [] few = refl
  numbered_few (v ∷ []) few = refl
  numbered_few (v ∷ w ∷ more) few = absurd (omega arith)

  pub numbered_many : TooMany (name_number make) 2
  numbered_many [] many = refl
  numbered_many (v ∷ []) many = refl
  numbered_many (v ∷ w ∷ []) many = absurd (omega arith)
  numbered_many (u ∷ v ∷ w ∷ more) many = refl

  pub numbered_wrong : (w : List ℕ) (args : List (List ℕ)) → slice_get args 0 ≡ Some w → is_name w ≡ false → IsWrong (name_number make) args 0
  numbered_wrong w args at isnt [] e = refl
  numbered_wrong w args at isnt (v ∷ []) e = refl
  numbered_wrong w args at isnt (v ∷ u ∷ []) e = let alike : v ≡ w = same_Some v w (e ∙ at) in then_err (zid_at v) _ BadWords (ap zid_at alike ∙ no_name w isnt)
  numbered_wrong w args at isnt (v ∷ u ∷ t ∷ more) e = refl

  pub numbered_then : (w : List ℕ) (args : List (List ℕ)) → slice_get args 1 ≡ Some w → is_count w ≡ false → IsWrong (name_number make) args 1
  numbered_then w args at isnt [] e = refl
  numbered_then w args at isnt (v ∷ []) e = refl
  numbered_then w args at isnt (u ∷ v ∷ []) e =
      let alike : v ≡ w = same_Some v w (e ∙ at) in
      past (zid_at u) _ (name_step u) (λ id. then_err (number_at v) _ BadWords (ap number_at alike ∙ no_number w isnt))
  numbered_then w args at isnt (v ∷ u ∷ t ∷ more) e = refl

  pub numbered_right : (v w : List ℕ) → is_name v ≡ true → is_count w ≡ true → name_number make (v ∷ w ∷ []) ≡ Err BadWords → ⊥
  numbered_right v w is also refused =
      let one = a_name v is in
      let other = a_number w also in
      let p : name_number make (v ∷ w ∷ []) ≡ _ = then_ok (zid_at v) _ one.0 one.1 ∙ then_ok (number_at w) _ other.0 other.1 in
      isnt_ok _ _ p refused

  pub numbered_words : (args : List (List ℕ)) → ByWords (name_number make args)
  numbered_words [] = inr refl
  numbered_words (v ∷ []) = inr refl
  numbered_words (v ∷ w ∷ []) = both_words (zid_at v) _ (name_step v) (λ client. both_words (number_at w) _ (number_step w) (λ n. right (make client n)))
  numbered_words (u ∷ v ∷ w ∷ more) = inr refl

-- ---- nothing

abbrev pub nothing : Command → Form
nothing command [] = Ok command
nothing command (w ∷ more) = Err BadWords

module _ (command : Command) where
  pub nothing_few : TooFew (nothing command) 0
  nothing_few args few = absurd (omega arith)

  pub nothing_many : TooMany (nothing command) 0
  nothing_many [] many = absurd (omega arith)
  nothing_many (w ∷ more) many = refl

  pub nothing_words : (args : List (List ℕ)) → ByWords (nothing command args)
  nothing_words [] = inl (command, refl)
  nothing_words (w ∷ more) = inr refl

-- ---- a name and a key

abbrev pub name_key : (List ℕ → List ℕ → Command) → Form
name_key make args = do
  w ← two_of args
  client ← zid_at w.0
  key ← key_at w.1
  Ok (make client key)

module _ (make : List ℕ → List ℕ → Command) where
  pub keyed_few : TooFew (name_key make) 2
  keyed_few [] few = refl
  keyed_few (v ∷ []) few = refl
  keyed_few (v ∷ w ∷ more) few = absurd (omega arith)

  pub keyed_many : TooMany (name_key make) 2
  keyed_many [] many = refl
  keyed_many (v ∷ []) many = refl
  keyed_many (v ∷ w ∷ []) many = absurd (omega arith)
  keyed_many (u ∷ v ∷ w ∷ more) many = refl

  pub keyed_wrong : (w : List ℕ) (args : List (List ℕ)) → slice_get args 0 ≡ Some w → is_name w ≡ false → IsWrong (name_key make) args 0
  keyed_wrong w args at isnt [] e = refl
  keyed_wrong w args at isnt (v ∷ []) e = refl
  keyed_wrong w args at isnt (v ∷ u ∷ []) e = let alike : v ≡ w = same_Some v w (e ∙ at) in then_err (zid_at v) _ BadWords (ap zid_at alike ∙ no_name w isnt)
  keyed_wrong w args at isnt (v ∷ u ∷ t ∷ more) e = refl

  pub keyed_right : (v k : List ℕ) → is_name v ≡ true → name_key make (v ∷ k ∷ []) ≡ Err BadWords → ⊥
  keyed_right v k is refused =
      let said = a_name v is in
      let p : name_key make (v ∷ k ∷ []) ≡ _ = then_ok (zid_at v) _ said.0 said.1 in
      key_isnt_words k (λ key. make said.0 key) (sym p ∙ refused)

  pub keyed_key : OfKey (name_key make) 1
  keyed_key [] = inl (inr refl)
  keyed_key (v ∷ []) = inl (inr refl)
  keyed_key (v ∷ k ∷ []) = inr (k, refl, both_key k (zid_at v) _ (name_step v) (λ client. key_step k (λ key. make client key)))
  keyed_key (u ∷ v ∷ w ∷ more) = inl (inr refl)

-- ---- a name, a key and a payload

abbrev pub name_key_more : (List ℕ → List ℕ → List ℕ → Command) → Form
name_key_more make args = do
  w ← three_of args
  client ← zid_at w.0
  key ← key_at w.1
  Ok (make client key w.2)

module _ (make : List ℕ → List ℕ → List ℕ → Command) where
  pub put_few : TooFew (name_key_more make) 3
  put_few [] few = refl
  put_few (u ∷ []) few = refl
  put_few (u ∷ v ∷ []) few = refl
  put_few (u ∷ v ∷ w ∷ more) few = absurd (omega arith)

  pub put_many : TooMany (name_key_more make) 3
  put_many [] many = refl
  put_many (u ∷ []) many = refl
  put_many (u ∷ v ∷ []) many = refl
  put_many (u ∷ v ∷ w ∷ []) many = absurd (omega arith)
  put_many (t ∷ u ∷ v ∷ w ∷ more) many = refl

  pub put_wrong : (w : List ℕ) (args : List (List ℕ)) → slice_get args 0 ≡ Some w → is_name w ≡ false → IsWrong (name_key_more make) args 0
  put_wrong w args at isnt [] e = refl
  put_wrong w args at isnt (v ∷ []) e = refl
  put_wrong w args at isnt (v ∷ u ∷ []) e = refl
  put_wrong w args at isnt (v ∷ u ∷ t ∷ []) e = let alike : v ≡ w = same_Some v w (e ∙ at) in then_err (zid_at v) _ BadWords (ap zid_at alike ∙ no_name w isnt)
  put_wrong w args at isnt (v ∷ u ∷ t ∷ s ∷ more) e = refl

  pub put_right : (v k p : List ℕ) → is_name v ≡ true → name_key_more make (v ∷ k ∷ p ∷ []) ≡ Err BadWords → ⊥
  put_right v k p is refused =
      let said = a_name v is in
      let step : name_key_more make (v ∷ k ∷ p ∷ []) ≡ _ = then_ok (zid_at v) _ said.0 said.1 in
      key_isnt_words k (λ key. make said.0 key p) (sym step ∙ refused)

  pub put_key : OfKey (name_key_more make) 1
  put_key [] = inl (inr refl)
  put_key (v ∷ []) = inl (inr refl)
  put_key (v ∷ k ∷ []) = inl (inr refl)
  put_key (v ∷ k ∷ p ∷ []) = inr (k, refl, both_key k (zid_at v) _ (name_step v) (λ client. key_step k (λ key. make client key p)))
  put_key (t ∷ u ∷ v ∷ w ∷ more) = inl (inr refl)

-- ---- a name, a number and a key

abbrev pub name_number_key : (List ℕ → ℕ → List ℕ → Command) → Form
name_number_key make args = do
  w ← three_of args
  client ← zid_at w.0
  id ← number_at w.1
  key ← key_at w.2
  Ok (make client id key)

module _ (make : List ℕ → ℕ → List ℕ → Command) where
  pub declared_few : TooFew (name_number_key make) 3
  declared_few [] few = refl
  declared_few (u ∷ []) few = refl
  declared_few (u ∷ v ∷ []) few = refl
  declared_few (u ∷ v ∷ w ∷ more) few = absurd (omega arith)

  pub declared_many : TooMany (name_number_key make) 3
  declared_many [] many = refl
  declared_many (u ∷ []) many = refl
  declared_many (u ∷ v ∷ []) many = refl
  declared_many (u ∷ v ∷ w ∷ []) many = absurd (omega arith)
  declared_many (t ∷ u ∷ v ∷ w ∷ more) many = refl

  pub declared_wrong : (w : List ℕ) (args : List (List ℕ)) → slice_get args 0 ≡ Some w → is_name w ≡ false → IsWrong (name_number_key make) args 0
  declared_wrong w args at isnt [] e = refl
  declared_wrong w args at isnt (v ∷ []) e = refl
  declared_wrong w args at isnt (v ∷ u ∷ []) e = refl
  declared_wrong w args at isnt (v ∷ u ∷ t ∷ []) e = let alike : v ≡ w = same_Some v w (e ∙ at) in then_err (zid_at v) _ BadWords (ap zid_at alike ∙ no_name w isnt)
  declared_wrong w args at isnt (v ∷ u ∷ t ∷ s ∷ more) e = refl

  pub declared_then : (w : List ℕ) (args : List (List ℕ)) → slice_get args 1 ≡ Some w → is_count w ≡ false → IsWrong (name_number_key make) args 1
  declared_then w args at isnt [] e = refl
  declared_then w args at isnt (v ∷ []) e = refl
  declared_then w args at isnt (u ∷ v ∷ []) e = refl
  declared_then w args at isnt (u ∷ v ∷ t ∷ []) e =
      let alike : v ≡ w = same_Some v w (e ∙ at) in
      past (zid_at u) _ (name_step u) (λ client. then_err (number_at v) _ BadWords (ap number_at alike ∙ no_number w isnt))
  declared_then w args at isnt (v ∷ u ∷ t ∷ s ∷ more) e = refl

  pub declared_right : (v n k : List ℕ) → is_name v ≡ true → is_count n ≡ true → name_number_key make (v ∷ n ∷ k ∷ []) ≡ Err BadWords → ⊥
  declared_right v n k is also refused =
      let said = a_name v is in
      let id = a_number n also in
      let p : name_number_key make (v ∷ n ∷ k ∷ []) ≡ _ = then_ok (zid_at v) _ said.0 said.1 ∙ then_ok (number_at n) _ id.0 id.1 in
      key_isnt_words k (λ key. make said.0 id.0 key) (sym p ∙ refused)

  pub declared_key : OfKey (name_number_key make) 2
  declared_key [] = inl (inr refl)
  declared_key (v ∷ []) = inl (inr refl)
  declared_key (v ∷ n ∷ []) = inl (inr refl)
  declared_key (v ∷ n ∷ k ∷ []) =
      inr (k, refl, both_key k (zid_at v) _ (name_step v) (λ client. both_key k (number_at n) _ (number_step n) (λ id. key_step k (λ key. make client id key))))
  declared_key (t ∷ u ∷ v ∷ w ∷ more) = inl (inr refl)
