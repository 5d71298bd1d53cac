-- `from_utf8` decides whether the bytes are UTF-8; the test says the same.
use Rattle.std.proofs.Common.{◌≡◌, ℕ, List, Bool, true, false, refl, ◌∙◌, sym, Result, Ok, Err}
use Rattle.std.specs.Result.{MatchResult, is_ok}
use Rattle.std.specs.Str.{IsUtf8, is_utf8}
use Rattle.std.proofs.lemmas.Str.{is_utf8-from_IsUtf8, IsUtf8-from_is_utf8}
use Rattle.zr_key.proofs.key.is_utf8.Goals as goal

not_utf8 : (bytes : List ℕ) → ¬ (IsUtf8 bytes) → is_utf8 bytes ≡ false
not_utf8 bytes never = by (is_utf8 bytes) refl
  where
    by : (b : Bool) → is_utf8 bytes ≡ b → b ≡ false
    by true e = absurd (never (IsUtf8-from_is_utf8 bytes e))
    by false e = refl

same_test : {T E : Type 0} (r : Result T E) (P : T → Type 0) (Q : E → Type 0) (b : Bool)
    → MatchResult r P Q → ((t : T) → P t → b ≡ true) → ((e : E) → Q e → b ≡ false) → is_ok r ≡ b
same_test (Ok t) P Q b h good bad = sym (good t h)
same_test (Err e) P Q b h good bad = sym (bad e h)

pub returns : goal.returns
returns c = c.is_ok.ensures.value ∙ same_test c.from_utf8.result _ _ (is_utf8 c.args.bytes.now) c.from_utf8.ensures.cases (λ t h. is_utf8-from_IsUtf8 c.args.bytes.now h.1) (λ e h. not_utf8 c.args.bytes.now h.0)
