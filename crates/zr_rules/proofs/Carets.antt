-- The word under the caret makes its line wrong: whatever else stands there, the line is refused.
use Rattle.std.proofs.Common.{◌≡◌, ◌∙◌, ℕ, ◌<◌, cond, get_or, nat_lt, ◌⊎◌, ◌||◌, Bool, true, false, List, [], ◌∷◌, Option, Some, None, Result, Ok, Err, refl, sym, ap, subst, inl, inr, arith, true≢false}
use Rattle.std.specs.Prelude.{◌-◌, ◌&&◌, codes, if◌then◌else◌, is_ok, is_some, length, not, position}
use Rattle.std.specs.List.{list_all, position_or_len, slice_get}
use Rattle.std.proofs.lemmas.Bool.Decides.{nat_tests}
use Rattle.std.proofs.lemmas.List.Folds.{list_all_at}
use Rattle.std.proofs.lemmas.List.Sums.{position_or_len_is}
use Rattle.std.specs.Cmp.Lexicographic.{same_text}
use Rattle.std.specs.Str.{chars, is_utf8}
use lib.Utf8.{encode}
use Rattle.zr_id.specs.Zid.{zid_of_hex}
use Rattle.zr_key.specs.Key.{read_key}
use Rattle.zr_key.specs.declared.key.KeyError.{KeyError}
use Rattle.zr_access.specs.Text.{◌>>=◌, act_at, act_named, allows_at, by_words, client_at, client_named, default_line, is_clean, is_readable, is_space, is_word, key_at, key_read, named_act, rule_line}
use Rattle.zr_access.specs.declared.policy.Act.{Act}
use Rattle.zr_access.specs.declared.fault.PolicyFault.{PolicyFault}
use Rattle.zr_access.specs.declared.fault.PolicyFault.TheVariants.{BadWords, BadKey}
use Rattle.zr_caret.specs.Shown.{place_of_word}
use Rattle.zr_lists.proofs.Truths.{then_of, else_of}
use Rattle.zr_rules.specs.Explained.{bad_default, bad_rule, bad_word, is_client, is_verb, place_of_bytes, place_of_words}
use Rattle.zr_rules.specs.Carets.{AreRight, CaretsAreUnderWrongWords, CaretsAreUnderWrongKeys, IsCaretUnder, IsMissing, IsWrong, NoneHas}

-- ---- one word

-- a word that is no verb
no_verb : (w : List ℕ) → is_verb w ≡ false → allows_at w ≡ Err BadWords
no_verb w isnt = by (is_word w (codes "allow")) (is_word w (codes "deny")) isnt
  where
    by : (a b : Bool) → (a || b) ≡ false → (if a then Ok true else if b then Ok false else Err BadWords) ≡ Err BadWords
    by true b isnt = absurd (true≢false isnt)
    by false true isnt = absurd (true≢false isnt)
    by false false isnt = refl

-- one that is
a_verb : (w : List ℕ) → is_verb w ≡ true → (allows : Bool) × (allows_at w ≡ Ok allows)
a_verb w is = by (is_word w (codes "allow")) (is_word w (codes "deny")) is
  where
    by : (a b : Bool) → (a || b) ≡ true → (allows : Bool) × ((if a then Ok true else if b then Ok false else Err BadWords) ≡ Ok allows)
    by true b is = (true, refl)
    by false true is = (false, refl)
    by false false is = absurd (true≢false (sym is))

-- a word that names no client, and one that does
no_client : (w : List ℕ) → is_client w ≡ false → client_at w ≡ Err BadWords
no_client w isnt = by (is_word w (codes "*")) (zid_of_hex w) isnt
  where
    by : (a : Bool) (o : Option (List ℕ)) → (a || is_some o) ≡ false → (if a then Ok None else client_named o) ≡ Err BadWords
    by true o isnt = absurd (true≢false isnt)
    by false (Some id) isnt = absurd (true≢false isnt)
    by false None isnt = refl

a_client : (w : List ℕ) → is_client w ≡ true → (id : Option (List ℕ)) × (client_at w ≡ Ok id)
a_client w is = by (is_word w (codes "*")) (zid_of_hex w) is
  where
    by : (a : Bool) (o : Option (List ℕ)) → (a || is_some o) ≡ true → (id : Option (List ℕ)) × ((if a then Ok None else client_named o) ≡ Ok id)
    by true o is = (None, refl)
    by false (Some id) is = (Some id, refl)
    by false None is = absurd (true≢false (sym is))

-- a word that names an act, or none
an_act : (w : List ℕ) → ((deed : Option Act) × (act_at w ≡ Ok deed)) ⊎ (act_at w ≡ Err BadWords)
an_act w = by (is_word w (codes "*")) (named_act w)
  where
    by : (a : Bool) (o : Option Act) → ((deed : Option Act) × ((if a then Ok None else act_named o) ≡ Ok deed)) ⊎ ((if a then Ok None else act_named o) ≡ Err BadWords)
    by true o = inl (None, refl)
    by false (Some named) = inl (Some named, refl)
    by false None = inr refl

-- a word that is an expression, or none
a_key : (w : List ℕ) → ((text : List ℕ) × (key_at w ≡ Ok text)) ⊎ (key_at w ≡ Err BadKey)
a_key w = by (read_key w)
  where
    by : (r : Result (List ℕ) KeyError) → ((text : List ℕ) × (key_read r ≡ Ok text)) ⊎ (key_read r ≡ Err BadKey)
    by (Ok text) = inl (text, refl)
    by (Err e) = inr refl

-- ---- steps

then_err : {A B : Type 0} (r : Result A PolicyFault) (f : A → Result B PolicyFault) (e : PolicyFault) → r ≡ Err e → (r >>= f) ≡ Err e
then_err (Ok x) f e is = absurd (cc)
then_err (Err y) f e is = let same : y ≡ e = cc in ap (λ z. Err z) same

then_ok : {A B : Type 0} (r : Result A PolicyFault) (f : A → Result B PolicyFault) (x : A) → r ≡ Ok x → (r >>= f) ≡ f x
then_ok (Ok y) f x is = let same : y ≡ x = cc in ap f same
then_ok (Err e) f x is = absurd (cc)

-- what follows a word that is a key, or none, is no fault of words
taken_key : {B : Type 0} (r : Result (List ℕ) PolicyFault) (f : List ℕ → Result B PolicyFault) → ((text : List ℕ) → (x : B) × (f text ≡ Ok x))
    → ((text : List ℕ) × (r ≡ Ok text)) ⊎ (r ≡ Err BadKey) → (r >>= f) ≡ Err BadWords → ⊥
taken_key (Ok text) f takes is refused = let taken = sym (takes text).1 ∙ refused in cc
taken_key (Err e) f takes (inl (text, is)) refused = cc
taken_key (Err e) f takes (inr is) refused = let key : e ≡ BadKey = cc in let words : e ≡ BadWords = cc in let both = sym key ∙ words in cc

-- ---- lines

wrong_verb : (n : ℕ) (v c a k : List ℕ) → allows_at v ≡ Err BadWords → rule_line n v c a k ≡ Err BadWords
unfolding rule_line
wrong_verb n v c a k isnt = then_err (allows_at v) _ BadWords isnt

wrong_client : (n : ℕ) (v c a k : List ℕ) (allows : Bool) → allows_at v ≡ Ok allows → client_at c ≡ Err BadWords → rule_line n v c a k ≡ Err BadWords
unfolding rule_line
wrong_client n v c a k allows is isnt = then_ok (allows_at v) _ allows is ∙ then_err (client_at c) _ BadWords isnt

wrong_act : (n : ℕ) (v c a k : List ℕ) (allows : Bool) (id : Option (List ℕ)) → allows_at v ≡ Ok allows → client_at c ≡ Ok id → act_at a ≡ Err BadWords → rule_line n v c a k ≡ Err BadWords
unfolding rule_line
wrong_act n v c a k allows id is named isnt = then_ok (allows_at v) _ allows is ∙ then_ok (client_at c) _ id named ∙ then_err (act_at a) _ BadWords isnt

-- a rule whose words are right but for the key has no wrong words, and none with an expression as its key has a wrong key
but_the_key : (n : ℕ) (v c a k : List ℕ) (allows : Bool) (id : Option (List ℕ)) (deed : Option Act) → allows_at v ≡ Ok allows → client_at c ≡ Ok id → act_at a ≡ Ok deed
    → rule_line n v c a k ≡ Err BadWords → ⊥
unfolding rule_line
but_the_key n v c a k allows id deed is named done refused =
    let p : rule_line n v c a k ≡ _ = then_ok (allows_at v) _ allows is ∙ then_ok (client_at c) _ id named ∙ then_ok (act_at a) _ deed done in
    taken_key (key_at k) _ (λ text. (_, refl)) (a_key k) (sym p ∙ refused)

with_a_key : (n : ℕ) (v c a k : List ℕ) (allows : Bool) (id : Option (List ℕ)) (deed : Option Act) (text : List ℕ) → allows_at v ≡ Ok allows → client_at c ≡ Ok id → act_at a ≡ Ok deed
    → key_at k ≡ Ok text → rule_line n v c a k ≡ Err BadKey → ⊥
unfolding rule_line
with_a_key n v c a k allows id deed text is named done read refused =
    let p : rule_line n v c a k ≡ _ = then_ok (allows_at v) _ allows is ∙ then_ok (client_at c) _ id named ∙ then_ok (act_at a) _ deed done ∙ then_ok (key_at k) _ text read in
    let clash = sym p ∙ refused in cc

-- a line is refused for one fault
one_fault : {X : Type 0} (r : Result X PolicyFault) → r ≡ Err BadWords → r ≡ Err BadKey → ⊥
one_fault r words key = let both = sym words ∙ key in cc

no_default : (n : ℕ) (w v : List ℕ) → is_word w (codes "default") ≡ false → default_line n w v ≡ Err BadWords
unfolding default_line
no_default n w v isnt = then_of (not (is_word w (codes "default"))) _ _ (ap not isnt)

wrong_default : (n : ℕ) (w v : List ℕ) → is_word w (codes "default") ≡ true → allows_at v ≡ Err BadWords → default_line n w v ≡ Err BadWords
unfolding default_line
wrong_default n w v is isnt = else_of (not (is_word w (codes "default"))) _ _ (ap not is) ∙ then_err (allows_at v) _ BadWords isnt

right_default : (n : ℕ) (w v : List ℕ) (allows : Bool) → is_word w (codes "default") ≡ true → allows_at v ≡ Ok allows → default_line n w v ≡ Err BadWords → ⊥
unfolding default_line
right_default n w v allows is said refused =
    let p : default_line n w v ≡ _ = else_of (not (is_word w (codes "default"))) _ _ (ap not is) ∙ then_ok (allows_at v) _ allows said in
    let clash = sym p ∙ refused in cc

-- `default` is no verb
default_verb : (w : List ℕ) → is_word w (codes "default") ≡ true → allows_at w ≡ Err BadWords
default_verb w is = subst (λ z. allows_at z ≡ Err BadWords) (sym (same_text w (codes "default") (sym is))) refl

-- ---- whatever stands behind

first_wrong : (w : List ℕ) → is_word w (codes "default") ≡ false → is_verb w ≡ false → (n : ℕ) (more : List (List ℕ)) → by_words n (w ∷ more) ≡ Err BadWords
first_wrong w isnt nor n [] = refl
first_wrong w isnt nor n (x ∷ []) = no_default n w x isnt
first_wrong w isnt nor n (x ∷ y ∷ []) = refl
first_wrong w isnt nor n (x ∷ y ∷ z ∷ []) = wrong_verb n w x y z (no_verb w nor)
first_wrong w isnt nor n (x ∷ y ∷ z ∷ t ∷ more) = refl

default_wrong : (w v : List ℕ) → is_word w (codes "default") ≡ true → allows_at v ≡ Err BadWords → (n : ℕ) (more : List (List ℕ)) → by_words n (w ∷ v ∷ more) ≡ Err BadWords
default_wrong w v is isnt n [] = wrong_default n w v is isnt
default_wrong w v is isnt n (x ∷ []) = refl
default_wrong w v is isnt n (x ∷ y ∷ []) = wrong_verb n w v x y (default_verb w is)
default_wrong w v is isnt n (x ∷ y ∷ z ∷ more) = refl

default_long : (w v x : List ℕ) → is_word w (codes "default") ≡ true → (n : ℕ) (more : List (List ℕ)) → by_words n (w ∷ v ∷ x ∷ more) ≡ Err BadWords
default_long w v x is n [] = refl
default_long w v x is n (y ∷ []) = wrong_verb n w v x y (default_verb w is)
default_long w v x is n (y ∷ z ∷ more) = refl

client_wrong : (w c : List ℕ) (allows : Bool) → is_word w (codes "default") ≡ false → allows_at w ≡ Ok allows → client_at c ≡ Err BadWords
    → (n : ℕ) (more : List (List ℕ)) → by_words n (w ∷ c ∷ more) ≡ Err BadWords
client_wrong w c allows isnt is wrong n [] = no_default n w c isnt
client_wrong w c allows isnt is wrong n (x ∷ []) = refl
client_wrong w c allows isnt is wrong n (x ∷ y ∷ []) = wrong_client n w c x y allows is wrong
client_wrong w c allows isnt is wrong n (x ∷ y ∷ z ∷ more) = refl

act_wrong : (w c a : List ℕ) (allows : Bool) (id : Option (List ℕ)) → allows_at w ≡ Ok allows → client_at c ≡ Ok id → act_at a ≡ Err BadWords
    → (n : ℕ) (more : List (List ℕ)) → by_words n (w ∷ c ∷ a ∷ more) ≡ Err BadWords
act_wrong w c a allows id is named wrong n [] = refl
act_wrong w c a allows id is named wrong n (x ∷ []) = wrong_act n w c a x allows id is named wrong
act_wrong w c a allows id is named wrong n (x ∷ y ∷ more) = refl

-- ---- right lines

a_rule : (n : ℕ) (v c a k : List ℕ) (allows : Bool) (id : Option (List ℕ)) (deed : Option Act) (text : List ℕ) → allows_at v ≡ Ok allows → client_at c ≡ Ok id → act_at a ≡ Ok deed
    → key_at k ≡ Ok text → is_ok (rule_line n v c a k) ≡ true
unfolding rule_line
a_rule n v c a k allows id deed text is named done read =
    let p : rule_line n v c a k ≡ _ = then_ok (allows_at v) _ allows is ∙ then_ok (client_at c) _ id named ∙ then_ok (act_at a) _ deed done ∙ then_ok (key_at k) _ text read in
    ap (λ r. is_ok r) p

a_default : (w v : List ℕ) (allows : Bool) → is_word w (codes "default") ≡ true → allows_at v ≡ Ok allows → AreRight (w ∷ v ∷ [])
unfolding default_line
a_default w v allows is said =
    let p : default_line 0 w v ≡ _ = else_of (not (is_word w (codes "default"))) _ _ (ap not is) ∙ then_ok (allows_at v) _ allows said in
    (0, ap (λ r. is_ok r) p)

-- `a` is an expression
a_is_key : key_at (codes "a") ≡ Ok (codes "a")
unfolding is_utf8 chars encode
a_is_key = refl

-- a verb with a client and what each rule may have
with_client : (w c : List ℕ) (allows : Bool) (id : Option (List ℕ)) → allows_at w ≡ Ok allows → client_at c ≡ Ok id → AreRight (w ∷ c ∷ codes "*" ∷ codes "a" ∷ [])
with_client w c allows id is named = (0, a_rule 0 w c (codes "*") (codes "a") allows id None (codes "a") is named refl a_is_key)

with_each : (w : List ℕ) (allows : Bool) → allows_at w ≡ Ok allows → AreRight (w ∷ codes "*" ∷ codes "*" ∷ codes "a" ∷ [])
with_each w allows is = with_client w (codes "*") allows None is refl

-- ---- the caret

-- a clean line has no odd byte, and no space at an end
readable_at : (line : List ℕ) (k : ℕ) → k < length line → list_all is_readable line ≡ true → not (is_readable (get_or line k 0)) ≡ false
readable_at line k within all = by (is_readable (get_or line k 0)) refl
  where
    by : (t : Bool) → is_readable (get_or line k 0) ≡ t → not t ≡ false
    by true e = refl
    by false e = absurd (true≢false (sym all ∙ list_all_at is_readable line k 0 within e))

none_odd : (line : List ℕ) → list_all is_readable line ≡ true → position (λ b. not (is_readable b)) line ≡ None
none_odd line all =
    by (nat_lt (position_or_len (λ b. not (is_readable b)) line) (length line)) refl
    (position_or_len_is (λ b. not (is_readable b)) line (length line) 0 (omega arith) (λ k below. readable_at line k below all) (λ within. absurd (omega arith)))
  where
    by : (b : Bool) → nat_lt (position_or_len (λ b. not (is_readable b)) line) (length line) ≡ b → position_or_len (λ b. not (is_readable b)) line ≡ length line
        → cond b (Some (position_or_len (λ b. not (is_readable b)) line)) None ≡ None
    by true e at = absurd (grind (arith, nat_tests))
    by false e at = refl

no_place : (line : List ℕ) → is_clean line ≡ true → place_of_bytes (position (λ b. not (is_readable b)) line) line ≡ None
no_place line clean = by (list_all is_readable line) refl (is_space (slice_get line 0)) refl (is_space (slice_get line (length line - 1))) refl clean
  where
    by : (r : Bool) → list_all is_readable line ≡ r → (f : Bool) → is_space (slice_get line 0) ≡ f → (l : Bool) → is_space (slice_get line (length line - 1)) ≡ l
        → (r && not f && not l) ≡ true → place_of_bytes (position (λ b. not (is_readable b)) line) line ≡ None
    by true e false g false h clean =
        ap (λ p. place_of_bytes p line) (none_odd line e) ∙ else_of (is_space (slice_get line 0)) _ _ g ∙ else_of (is_space (slice_get line (length line - 1))) _ _ h
    by true e false g true h clean = absurd (true≢false (sym clean))
    by true e true g l h clean = absurd (true≢false (sym clean))
    by false e f g l h clean = absurd (true≢false (sym clean))

under_bad_word : (ws : List (List ℕ)) → IsCaretUnder ws BadWords (bad_word ws)
under_bad_word ws line clean are = ap (λ p. place_of_words p line) (no_place line clean) ∙ ap (λ x. place_of_word (bad_word x) line) are

-- a word is missing or wrong
abbrev IsAt : List (List ℕ) → ℕ → Type 0
IsAt ws at = IsMissing ws at ⊎ IsWrong ws at

-- behind `default`
under_default : (number : ℕ) (w : List ℕ) (more : List (List ℕ)) → is_word w (codes "default") ≡ true → by_words number (w ∷ more) ≡ Err BadWords → IsAt (w ∷ more) (bad_default more)
under_default number w [] is refused = inl (refl, none, 2, omega arith, (codes "allow" ∷ [], refl, a_default w (codes "allow") true is refl))
  where
    none : NoneHas (w ∷ []) 1
    none n [] short = refl
    none n (x ∷ more) short = absurd (omega arith)
under_default number w (v ∷ []) is refused = by (is_verb v) refl
  where
    by : (t : Bool) → is_verb v ≡ t → IsAt (w ∷ v ∷ []) 1
    by true e = let said = a_verb v e in absurd (right_default number w v said.0 is said.1 refused)
    by false e = inr (omega arith, (λ n more. default_wrong w v is (no_verb v e) n more), inl (codes "allow" ∷ [], a_default w (codes "allow") true is refl))
under_default number w (v ∷ x ∷ more) is refused =
    inr (omega arith, (λ n other. default_long w v x is n other), inr (codes "allow" ∷ [], refl, a_default w (codes "allow") true is refl))

-- a rule whose verb and client are right
under_act : (number : ℕ) (w c a k : List ℕ) (allows : Bool) → allows_at w ≡ Ok allows → (id : Option (List ℕ)) → client_at c ≡ Ok id
    → ((deed : Option Act) × (act_at a ≡ Ok deed)) ⊎ (act_at a ≡ Err BadWords) → rule_line number w c a k ≡ Err BadWords → IsAt (w ∷ c ∷ a ∷ k ∷ []) 2
under_act number w c a k allows said id named (inl (deed, done)) refused = absurd (but_the_key number w c a k allows id deed said named done refused)
under_act number w c a k allows said id named (inr wrong) refused =
    inr (omega arith, (λ n more. act_wrong w c a allows id said named wrong n more), inl (codes "*" ∷ codes "a" ∷ [], with_client w c allows id said named))

-- behind a verb
under_rule : (number : ℕ) (w : List ℕ) (more : List (List ℕ)) → is_word w (codes "default") ≡ false → is_verb w ≡ true → by_words number (w ∷ more) ≡ Err BadWords
    → IsAt (w ∷ more) (bad_rule more)
under_rule number w [] isnt is refused = let said = a_verb w is in inl (refl, none, 4, omega arith, (codes "*" ∷ codes "*" ∷ codes "a" ∷ [], refl, with_each w said.0 said.1))
  where
    none : NoneHas (w ∷ []) 1
    none n [] short = refl
    none n (x ∷ more) short = absurd (omega arith)
under_rule number w (c ∷ []) isnt is refused = let said = a_verb w is in inl (refl, none, 4, omega arith, (codes "*" ∷ codes "*" ∷ codes "a" ∷ [], refl, with_each w said.0 said.1))
  where
    none : NoneHas (w ∷ c ∷ []) 2
    none n [] short = refl
    none n (x ∷ []) short = no_default n w x isnt
    none n (x ∷ y ∷ more) short = absurd (omega arith)
under_rule number w (c ∷ a ∷ []) isnt is refused = let said = a_verb w is in inl (refl, none, 4, omega arith, (codes "*" ∷ codes "*" ∷ codes "a" ∷ [], refl, with_each w said.0 said.1))
  where
    none : NoneHas (w ∷ c ∷ a ∷ []) 3
    none n [] short = refl
    none n (x ∷ []) short = absurd (omega arith)
    none n (x ∷ y ∷ []) short = refl
    none n (x ∷ y ∷ z ∷ more) short = absurd (omega arith)
under_rule number w (c ∷ a ∷ k ∷ []) isnt is refused = by (is_client c) refl
  where
    by : (t : Bool) → is_client c ≡ t → IsAt (w ∷ c ∷ a ∷ k ∷ []) (if t then 2 else 1)
    by false e =
        let said = a_verb w is in
        inr (omega arith, (λ n more. client_wrong w c said.0 isnt said.1 (no_client c e) n more), inl (codes "*" ∷ codes "*" ∷ codes "a" ∷ [], with_each w said.0 said.1))
    by true e = let said = a_verb w is in let named = a_client c e in under_act number w c a k said.0 said.1 named.0 named.1 (an_act a) refused
under_rule number w (c ∷ a ∷ k ∷ x ∷ more) isnt is refused =
    let said = a_verb w is in inr (omega arith, (λ n other. refl), inr (codes "*" ∷ codes "*" ∷ codes "a" ∷ [], refl, with_each w said.0 said.1))

-- the first word that fits no rule
is_at : (number : ℕ) (ws : List (List ℕ)) → by_words number ws ≡ Err BadWords → IsAt ws (bad_word ws)
is_at number [] refused = inl (refl, none, 2, omega arith, (codes "default" ∷ codes "allow" ∷ [], refl, a_default (codes "default") (codes "allow") true refl refl))
  where
    none : NoneHas [] 0
    none n [] short = refl
    none n (x ∷ more) short = absurd (omega arith)
is_at number (w ∷ more) refused = by (is_word w (codes "default")) (is_verb w) refl refl
  where
    by : (d v : Bool) → is_word w (codes "default") ≡ d → is_verb w ≡ v → IsAt (w ∷ more) (if d then bad_default more else if v then bad_rule more else 0)
    by true v is other = under_default number w more is refused
    by false true isnt is = under_rule number w more isnt is refused
    by false false isnt nor =
        inr (omega arith, (λ n other. first_wrong w isnt nor n other), inl (codes "default" ∷ codes "allow" ∷ [], a_default (codes "default") (codes "allow") true refl refl))

pub under_wrong_words : CaretsAreUnderWrongWords
under_wrong_words number ws refused = (bad_word ws, under_bad_word ws, is_at number ws refused)

-- ---- a key

-- a rule that is refused for its key has the other words right
right_words : (n : ℕ) (v c a k : List ℕ) → rule_line n v c a k ≡ Err BadKey → (text : List ℕ) → key_at k ≡ Ok text → ⊥
right_words n v c a k refused text is = of_verb (is_verb v) refl
  where
    of_act : (allows : Bool) → allows_at v ≡ Ok allows → (id : Option (List ℕ)) → client_at c ≡ Ok id → ((deed : Option Act) × (act_at a ≡ Ok deed)) ⊎ (act_at a ≡ Err BadWords) → ⊥
    of_act allows said id named (inl (deed, done)) = with_a_key n v c a k allows id deed text said named done is refused
    of_act allows said id named (inr wrong) = one_fault _ (wrong_act n v c a k allows id said named wrong) refused

    of_client : (t : Bool) → is_client c ≡ t → (allows : Bool) → allows_at v ≡ Ok allows → ⊥
    of_client true e allows said = let named = a_client c e in of_act allows said named.0 named.1 (an_act a)
    of_client false e allows said = one_fault _ (wrong_client n v c a k allows said (no_client c e)) refused

    of_verb : (t : Bool) → is_verb v ≡ t → ⊥
    of_verb true e = let said = a_verb v e in of_client (is_client c) refl said.0 said.1
    of_verb false e = one_fault _ (wrong_verb n v c a k (no_verb v e)) refused

-- its fourth word is no expression
wrong_key : (n : ℕ) (v c a k : List ℕ) → rule_line n v c a k ≡ Err BadKey → key_at k ≡ Err BadKey
wrong_key n v c a k refused = by (a_key k)
  where
    by : ((text : List ℕ) × (key_at k ≡ Ok text)) ⊎ (key_at k ≡ Err BadKey) → key_at k ≡ Err BadKey
    by (inl (text, is)) = absurd (right_words n v c a k refused text is)
    by (inr wrong) = wrong

-- `default` with a word is not refused for a key
no_key_behind : (n : ℕ) (w v : List ℕ) (allows : Bool) → is_word w (codes "default") ≡ true → allows_at v ≡ Ok allows → default_line n w v ≡ Err BadKey → ⊥
unfolding default_line
no_key_behind n w v allows is said refused =
    let p : default_line n w v ≡ _ = else_of (not (is_word w (codes "default"))) _ _ (ap not is) ∙ then_ok (allows_at v) _ allows said in
    let clash = sym p ∙ refused in cc

no_key : (n : ℕ) (w v : List ℕ) → default_line n w v ≡ Err BadKey → ⊥
no_key n w v refused = by (is_word w (codes "default")) refl (is_verb v) refl
  where
    by : (d : Bool) → is_word w (codes "default") ≡ d → (t : Bool) → is_verb v ≡ t → ⊥
    by true is true e = let said = a_verb v e in no_key_behind n w v said.0 is said.1 refused
    by true is false e = one_fault _ (wrong_default n w v is (no_verb v e)) refused
    by false isnt t e = one_fault _ (no_default n w v isnt) refused

pub under_wrong_keys : CaretsAreUnderWrongKeys
under_wrong_keys number [] refused = absurd (cc)
under_wrong_keys number (w ∷ []) refused = absurd (cc)
under_wrong_keys number (w ∷ v ∷ []) refused = absurd (no_key number w v refused)
under_wrong_keys number (w ∷ v ∷ x ∷ []) refused = absurd (cc)
under_wrong_keys number (w ∷ c ∷ a ∷ k ∷ []) refused = (3, (λ line clean are. refl), k, refl, wrong_key number w c a k refused)
under_wrong_keys number (w ∷ c ∷ a ∷ k ∷ x ∷ more) refused = absurd (cc)
