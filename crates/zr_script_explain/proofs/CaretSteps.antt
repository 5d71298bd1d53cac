-- Steps of reading a line, and single words: what each is refused for.
use Rattle.std.proofs.Common.{◌≡◌, ℕ, ◌⊎◌, ◌||◌, Bool, true, false, List, [], ◌∷◌, Option, Some, None, Result, Ok, Err, refl, sym, ap, inl, inr, true≢false}
use Rattle.std.specs.Prelude.{codes, if◌then◌else◌, is_some}
use Rattle.zr_id.specs.Zid.{zid_of_hex}
use Rattle.zr_key.specs.Key.{read_key}
use Rattle.zr_key.specs.declared.key.KeyError.{KeyError}
use Rattle.zr_msg.specs.declared.msg.Kinds.{Kinds}
use Rattle.zr_msg.specs.declared.msg.Target.{Target}
use Rattle.zr_script_spec.specs.declared.command.Mode.{Mode}
use Rattle.zr_script_spec.specs.declared.error.ScriptError.{ScriptError}
use Rattle.zr_script_spec.specs.declared.error.ScriptError.TheVariants.{BadWords, BadKey}
use Rattle.zr_script_spec.specs.Step.{◌>>=◌}
use Rattle.zr_script_spec.specs.Words.{is_word, is_there, zid_of_word, zid_at, number_at, time_at, weight_at, link_weight_at, target_at, mode_at, kinds_at, key_of_word, key_at, optional_key_at}
use Rattle.zr_lists.proofs.Truths.{then_of, else_of}
use Rattle.zr_script_explain.specs.Places.{is_count, is_kind, is_mode, is_name, is_target, is_weight}

-- ---- steps

-- what is refused at most for its words
abbrev pub ByWords : {A : Type 0} → Result A ScriptError → Type 0
ByWords {A} r = ((x : A) × (r ≡ Ok x)) ⊎ (r ≡ Err BadWords)

pub then_err : {A B : Type 0} (r : Result A ScriptError) (f : A → Result B ScriptError) (e : ScriptError) → r ≡ Err e → (r >>= f) ≡ Err e
then_err (Ok x) f e is = absurd (cc)
then_err (Err y) f e is = let same : y ≡ e = cc in ap (λ z. Err z) same

pub then_ok : {A B : Type 0} (r : Result A ScriptError) (f : A → Result B ScriptError) (x : A) → r ≡ Ok x → (r >>= f) ≡ f x
then_ok (Ok y) f x is = let same : y ≡ x = cc in ap f same
then_ok (Err e) f x is = absurd (cc)

-- where what follows is refused for its words, so is the whole
pub past : {A B : Type 0} (r : Result A ScriptError) (f : A → Result B ScriptError) → ByWords r → ((x : A) → f x ≡ Err BadWords) → (r >>= f) ≡ Err BadWords
past (Ok y) f h all = all y
past (Err e) f (inl (x, is)) all = absurd (cc)
past (Err e) f (inr is) all = let same : e ≡ BadWords = cc in ap (λ z. Err z) same

pub both_words : {A B : Type 0} (r : Result A ScriptError) (f : A → Result B ScriptError) → ByWords r → ((x : A) → ByWords (f x)) → ByWords (r >>= f)
both_words (Ok y) f h all = all y
both_words (Err e) f (inl (x, is)) all = absurd (cc)
both_words (Err e) f (inr is) all = let same : e ≡ BadWords = cc in inr (ap (λ z. Err z) same)

pub right : {X : Type 0} (x : X) → ByWords {A = X} (Ok x)
right x = inl (x, refl)

-- ---- one word

pub name_step : (w : List ℕ) → ByWords (zid_at w)
name_step w = by (zid_of_hex w)
  where
    by : (o : Option (List ℕ)) → ByWords (zid_of_word o)
    by (Some id) = inl (id, refl)
    by None = inr refl

pub no_name : (w : List ℕ) → is_name w ≡ false → zid_at w ≡ Err BadWords
no_name w isnt = by (zid_of_hex w) isnt
  where
    by : (o : Option (List ℕ)) → is_some o ≡ false → zid_of_word o ≡ Err BadWords
    by (Some id) isnt = absurd (true≢false isnt)
    by None isnt = refl

pub a_name : (w : List ℕ) → is_name w ≡ true → (id : List ℕ) × (zid_at w ≡ Ok id)
a_name w is = by (zid_of_hex w) is
  where
    by : (o : Option (List ℕ)) → is_some o ≡ true → (id : List ℕ) × (zid_of_word o ≡ Ok id)
    by (Some id) is = (id, refl)
    by None is = absurd (true≢false (sym is))

-- a test that a word passes
pub test_step : {X : Type 0} (b : Bool) (x : X) → ByWords {A = X} (if b then Ok x else Err BadWords)
test_step true x = inl (x, refl)
test_step false x = inr refl

pub number_step : (w : List ℕ) → ByWords (number_at w)
number_step w = test_step (is_count w) _

pub no_number : (w : List ℕ) → is_count w ≡ false → number_at w ≡ Err BadWords
no_number w isnt = else_of (is_count w) _ _ isnt

pub a_number : (w : List ℕ) → is_count w ≡ true → (n : ℕ) × (number_at w ≡ Ok n)
a_number w is = (_, then_of (is_count w) _ _ is)

pub weight_step : (w : List ℕ) → ByWords (weight_at w)
weight_step w = test_step (is_weight w) _

pub no_weight : (w : List ℕ) → is_weight w ≡ false → weight_at w ≡ Err BadWords
no_weight w isnt = else_of (is_weight w) _ _ isnt

pub a_weight : (w : List ℕ) → is_weight w ≡ true → (n : ℕ) × (weight_at w ≡ Ok n)
a_weight w is = (_, then_of (is_weight w) _ _ is)

-- the words that may be left out
pub there_step : (word : List ℕ) (behind : List (List ℕ)) → ByWords (is_there word behind)
there_step word [] = inl (false, refl)
there_step word (w ∷ []) = test_step (is_word w word) true
there_step word (v ∷ w ∷ more) = inr refl

pub no_word : (word w : List ℕ) (more : List (List ℕ)) → is_word w word ≡ false → is_there word (w ∷ more) ≡ Err BadWords
no_word word w [] isnt = else_of (is_word w word) _ _ isnt
no_word word w (v ∷ more) isnt = refl

pub the_word : (word w : List ℕ) → is_word w word ≡ true → is_there word (w ∷ []) ≡ Ok true
the_word word w is = then_of (is_word w word) _ _ is

pub time_step : (behind : List (List ℕ)) → ByWords (time_at behind)
time_step [] = inl (None, refl)
time_step (w ∷ []) = both_words (number_at w) _ (number_step w) (λ n. inl (Some n, refl))
time_step (v ∷ w ∷ more) = inr refl

pub no_time : (w : List ℕ) (more : List (List ℕ)) → is_count w ≡ false → time_at (w ∷ more) ≡ Err BadWords
no_time w [] isnt = then_err (number_at w) _ BadWords (no_number w isnt)
no_time w (v ∷ more) isnt = refl

pub a_time : (w : List ℕ) → is_count w ≡ true → (t : Option ℕ) × (time_at (w ∷ []) ≡ Ok t)
a_time w is = let said = a_number w is in (Some said.0, then_ok (number_at w) _ said.0 said.1)

pub link_weight_step : (behind : List (List ℕ)) → ByWords (link_weight_at behind)
link_weight_step [] = inl (1, refl)
link_weight_step (w ∷ []) = weight_step w
link_weight_step (v ∷ w ∷ more) = inr refl

pub no_link_weight : (w : List ℕ) (more : List (List ℕ)) → is_weight w ≡ false → link_weight_at (w ∷ more) ≡ Err BadWords
no_link_weight w [] isnt = no_weight w isnt
no_link_weight w (v ∷ more) isnt = refl

-- targets, modes and kinds
three_step : {X : Type 0} (b c d : Bool) (x y z : X) → ByWords {A = X} (if b then Ok x else if c then Ok y else if d then Ok z else Err BadWords)
three_step true c d x y z = inl (x, refl)
three_step false true d x y z = inl (y, refl)
three_step false false true x y z = inl (z, refl)
three_step false false false x y z = inr refl

no_three : {X : Type 0} (b c d : Bool) (x y z : X) → (b || c || d) ≡ false → ◌≡◌ {A = Result X ScriptError} (if b then Ok x else if c then Ok y else if d then Ok z else Err BadWords) (Err BadWords)
no_three true c d x y z isnt = absurd (true≢false isnt)
no_three false true d x y z isnt = absurd (true≢false isnt)
no_three false false true x y z isnt = absurd (true≢false isnt)
no_three false false false x y z isnt = refl

a_three : {X : Type 0} (b c d : Bool) (x y z : X) → (b || c || d) ≡ true → (v : X) × (◌≡◌ {A = Result X ScriptError} (if b then Ok x else if c then Ok y else if d then Ok z else Err BadWords) (Ok v))
a_three true c d x y z is = (x, refl)
a_three false true d x y z is = (y, refl)
a_three false false true x y z is = (z, refl)
a_three false false false x y z is = absurd (true≢false (sym is))

pub target_step : (w : List ℕ) → ByWords (target_at w)
target_step w = three_step (is_word w (codes "best")) (is_word w (codes "all")) (is_word w (codes "complete")) _ _ _

pub no_target : (w : List ℕ) → is_target w ≡ false → target_at w ≡ Err BadWords
no_target w isnt = no_three (is_word w (codes "best")) (is_word w (codes "all")) (is_word w (codes "complete")) _ _ _ isnt

pub a_target : (w : List ℕ) → is_target w ≡ true → (v : Target) × (target_at w ≡ Ok v)
a_target w is = a_three (is_word w (codes "best")) (is_word w (codes "all")) (is_word w (codes "complete")) _ _ _ is

pub mode_step : (w : List ℕ) → ByWords (mode_at w)
mode_step w = three_step (is_word w (codes "now")) (is_word w (codes "later")) (is_word w (codes "both")) _ _ _

pub no_mode : (w : List ℕ) → is_mode w ≡ false → mode_at w ≡ Err BadWords
no_mode w isnt = no_three (is_word w (codes "now")) (is_word w (codes "later")) (is_word w (codes "both")) _ _ _ isnt

pub a_mode : (w : List ℕ) → is_mode w ≡ true → (v : Mode) × (mode_at w ≡ Ok v)
a_mode w is = a_three (is_word w (codes "now")) (is_word w (codes "later")) (is_word w (codes "both")) _ _ _ is

-- the kinds are asked for in another order than the words are told in
four_step : {X : Type 0} (b c d e : Bool) (x y z v : X) → ByWords {A = X} (if b then Ok x else if c then Ok y else if d then Ok z else if e then Ok v else Err BadWords)
four_step true c d e x y z v = inl (x, refl)
four_step false true d e x y z v = inl (y, refl)
four_step false false true e x y z v = inl (z, refl)
four_step false false false true x y z v = inl (v, refl)
four_step false false false false x y z v = inr refl

no_four : {X : Type 0} (b c d e : Bool) (x y z v : X) → (b || c || e || d) ≡ false
    → ◌≡◌ {A = Result X ScriptError} (if b then Ok x else if c then Ok y else if d then Ok z else if e then Ok v else Err BadWords) (Err BadWords)
no_four true c d e x y z v isnt = absurd (true≢false isnt)
no_four false true d e x y z v isnt = absurd (true≢false isnt)
no_four false false d true x y z v isnt = absurd (true≢false isnt)
no_four false false true false x y z v isnt = absurd (true≢false isnt)
no_four false false false false x y z v isnt = refl

a_four : {X : Type 0} (b c d e : Bool) (x y z v : X) → (b || c || e || d) ≡ true
    → (u : X) × (◌≡◌ {A = Result X ScriptError} (if b then Ok x else if c then Ok y else if d then Ok z else if e then Ok v else Err BadWords) (Ok u))
a_four true c d e x y z v is = (x, refl)
a_four false true d e x y z v is = (y, refl)
a_four false false true e x y z v is = (z, refl)
a_four false false false true x y z v is = (v, refl)
a_four false false false false x y z v is = absurd (true≢false (sym is))

pub kinds_step : (w : List ℕ) → ByWords (kinds_at w)
kinds_step w = four_step (is_word w (codes "sub")) (is_word w (codes "able")) (is_word w (codes "all")) (is_word w (codes "token")) _ _ _ _

pub no_kinds : (w : List ℕ) → is_kind w ≡ false → kinds_at w ≡ Err BadWords
no_kinds w isnt = no_four (is_word w (codes "sub")) (is_word w (codes "able")) (is_word w (codes "all")) (is_word w (codes "token")) _ _ _ _ isnt

pub some_kinds : (w : List ℕ) → is_kind w ≡ true → (v : Kinds) × (kinds_at w ≡ Ok v)
some_kinds w is = a_four (is_word w (codes "sub")) (is_word w (codes "able")) (is_word w (codes "all")) (is_word w (codes "token")) _ _ _ _ is

-- ---- keys

-- what is refused at most for its words, or for a word that is no expression
abbrev pub ByKey : {A : Type 0} → List ℕ → Result A ScriptError → Type 0
ByKey w r = ByWords r ⊎ ((r ≡ Err BadKey) × (key_at w ≡ Err BadKey))

pub both_key : {A B : Type 0} (w : List ℕ) (r : Result A ScriptError) (f : A → Result B ScriptError) → ByWords r → ((x : A) → ByKey w (f x)) → ByKey w (r >>= f)
both_key w (Ok y) f h all = all y
both_key w (Err e) f (inl (x, is)) all = absurd (cc)
both_key w (Err e) f (inr is) all = let same : e ≡ BadWords = cc in inl (inr (ap (λ z. Err z) same))

pub key_step : {B : Type 0} (w : List ℕ) (f : List ℕ → B) → ByKey w (key_at w >>= (λ key. Ok (f key)))
key_step w f = by (read_key w) refl
  where
    by : (r : Result (List ℕ) KeyError) → read_key w ≡ r → ByKey w (key_of_word r >>= (λ key. Ok (f key)))
    by (Ok key) is = inl (inl (f key, refl))
    by (Err e) is = inr (refl, ap (λ z. key_of_word z) is)

-- a word that is a key, or none, is not refused as words
pub key_isnt_words : {B : Type 0} (w : List ℕ) (f : List ℕ → B) → (key_at w >>= (λ key. Ok (f key))) ≡ Err BadWords → ⊥
key_isnt_words w f refused = by (read_key w) refused
  where
    by : (r : Result (List ℕ) KeyError) → (key_of_word r >>= (λ key. Ok (f key))) ≡ Err BadWords → ⊥
    by (Ok key) is = cc
    by (Err e) is = cc

pub maybe_key_step : {B : Type 0} (w : List ℕ) (f : Option (List ℕ) → B) → ByKey w (optional_key_at w >>= (λ key. Ok (f key)))
maybe_key_step w f = by (is_word w (codes "-")) (read_key w) refl
  where
    by : (t : Bool) (r : Result (List ℕ) KeyError) → read_key w ≡ r → ByKey w ((if t then Ok None else key_of_word r >>= (λ key. Ok (Some key))) >>= (λ key. Ok (f key)))
    by true r is = inl (inl (f None, refl))
    by false (Ok key) is = inl (inl (f (Some key), refl))
    by false (Err e) is = inr (refl, ap (λ z. key_of_word z) is)

pub maybe_key_isnt_words : {B : Type 0} (w : List ℕ) (f : Option (List ℕ) → B) → (optional_key_at w >>= (λ key. Ok (f key))) ≡ Err BadWords → ⊥
maybe_key_isnt_words w f refused = by (is_word w (codes "-")) (read_key w) refused
  where
    by : (t : Bool) (r : Result (List ℕ) KeyError) → ((if t then Ok None else key_of_word r >>= (λ key. Ok (Some key))) >>= (λ key. Ok (f key))) ≡ Err BadWords → ⊥
    by true r is = cc
    by false (Ok key) is = cc
    by false (Err e) is = cc
