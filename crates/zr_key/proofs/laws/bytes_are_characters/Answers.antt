use Rattle.std.proofs.Common.{◌≡◌, ◌≤◌, ◌+◌, ◌/◌, ◌%◌, ℕ, [], ◌∷◌, true, false, Bool, cond, sym, ap, ◌∙◌, refl, arith, nat_lt, nat_le}
use Rattle.std.specs.List.{list_all}
use lib.Utf8.{encode, next}
use Rattle.std.proofs.lemmas.Bool.{le-leb, le-ltb}
use Rattle.std.proofs.lemmas.Str.{encode_ascii, encodes-chars, IsUtf8-from_is_utf8}
use Rattle.zr_key.proofs.laws.bytes_are_characters.Goals as goal

-- a byte behind the first one
next_high : (n : ℕ) → nat_le 128 (128 + n) ≡ true
next_high n = le-leb 128 (128 + n) (omega arith)

first_high : (k n : ℕ) → 128 ≤ k → nat_le 128 (k + n) ≡ true
first_high k n h = le-leb 128 (k + n) (omega arith)

-- every byte of a character that is not ASCII has its highest bit set
high_bytes : (c : ℕ) → 128 ≤ c → list_all (λ b. nat_le 128 b) (encode c) ≡ true
unfolding encode
high_bytes c h = by (nat_lt c 128) (nat_lt c 2048) (nat_lt c 65536) (le-ltb c 128 h)
  where
    by : (x y z : Bool) → x ≡ false → list_all (λ b. nat_le 128 b) (cond x (c ∷ []) (cond y ((192 + c / 64) ∷ next c ∷ []) (cond z ((224 + c / 4096) ∷ next (c / 64) ∷ next c ∷ []) ((240 + c / 262144) ∷ next (c / 4096) ∷ next (c / 64) ∷ next c ∷ [])))) ≡ true
    by true y z e = cc
    by false true z e = rw (first_high 192 (c / 64) (omega arith), next_high (c % 64)) refl
    by false false true e = rw (first_high 224 (c / 4096) (omega arith), next_high ((c / 64) % 64), next_high (c % 64)) refl
    by false false false e = rw (first_high 240 (c / 262144) (omega arith), next_high ((c / 4096) % 64), next_high ((c / 64) % 64), next_high (c % 64)) refl

pub returns : goal.returns
returns c = (
  λ s t u v e. sym (encodes-chars s (IsUtf8-from_is_utf8 s u)) ∙ ap (λ x. lib.Utf8.encodes x) e ∙ encodes-chars t (IsUtf8-from_is_utf8 t v),
  encode_ascii,
  high_bytes,
)
