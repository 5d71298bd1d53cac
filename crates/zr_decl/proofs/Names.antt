-- What declares a number spells that.
use Rattle.std.proofs.Common.{◌≡◌, ℕ, ◌+◌, ◌^◌, ◌<◌, ◌≤◌, true, List, [], ◌∷◌, ◌++◌, length, None, inl, inr, refl, sym, ap, arith, eqb}
use Rattle.std.specs.Prelude.{◌==◌, not, nat_le}
use Rattle.std.proofs.lemmas.List.{append-nil}
use Rattle.std.proofs.lemmas.Bool.{eqb-true, cases_Bool}
use Rattle.std.proofs.lemmas.Bool.Decides.{nat_tests}
use Rattle.zr_bytes.specs.declared.read_error.ReadError.TheVariants.{BadText, BadKey}
use Rattle.zr_bytes.specs.Number.{writes}
use Rattle.zr_bytes.specs.Text.{writes_text}
use Rattle.zr_bytes.proofs.Numbers.{written_spells}
use Rattle.zr_format_spec.specs.Format.{below, checked}
use Rattle.zr_format_spec.proofs.Spelled.{checked_spelled}
use Rattle.zr_wirekey.specs.Scopes.{Texts}
use Rattle.zr_wirekey.specs.Spelling.{key_parts}
use Rattle.zr_wirekey.specs.Writing.{writes_name}
use Rattle.zr_wirekey.proofs.Keys.{parts_are_read}
use Rattle.zr_decl.specs.declared.declared.Declared.TheVariants.{Number}
use Rattle.zr_decl.specs.Declare.{declaration, declare, declare_format}
use Rattle.zr_decl.specs.Writing.{IsName}

some_number : (number : ℕ) → 0 < number → not (number == 0) ≡ true
some_number number positive = elim (cases_Bool (eqb number 0)) [
  | inl zeroed ↦ absurd (omega (arith, eqb-true number 0 zeroed))
  | inr longer ↦ ap not longer
]

-- D_KEYEXPR behind its header
keyexpr_spelled : (theirs ours : Texts) (number : ℕ) (text : List ℕ) → IsName (number, text) → (declaration theirs ours 0x20).spelled (Number number text) (writes number ++ (writes 0 ++ writes_text text))
keyexpr_spelled theirs ours number text h =
    let first : (checked (below (2 ^ 16)) (λ n. not (n == 0)) BadText).spelled number (writes number) =
    checked_spelled (below (2 ^ 16)) (λ n. not (n == 0)) BadText number (writes number) (h.1, written_spells 8 number) (some_number number h.0) in
    let few : length text ≤ 2048 = h.2 in
    let short : nat_le (0 + length text) 2048 ≡ true = grind (arith, nat_tests, few) in
    let whole : List ℕ = writes 0 ++ writes_text text in
    let second : (checked (key_parts true theirs) (λ parts. nat_le (length parts.0 + length parts.1) 2048) BadKey).spelled ([], text) whole =
    checked_spelled (key_parts true theirs) (λ parts. nat_le (length parts.0 + length parts.1) 2048) BadKey ([], text) whole (parts_are_read theirs text few) short in
    (number, writes number, whole, refl, first, (([], text), whole, [], sym (append-nil whole), second, ([], [], [], refl, (refl, refl), (refl, refl))))

-- DECLARE behind its header
pub name_declared : (theirs ours : Texts) (number : ℕ) (text : List ℕ) → IsName (number, text) →
    (declare theirs ours 0x1E).spelled (Number number text, None) (0x20 ∷ (writes number ++ (writes 0 ++ writes_text text)))
name_declared theirs ours number text h =
    let bytes : List ℕ = writes number ++ (writes 0 ++ writes_text text) in
    (None, [], 0x20 ∷ bytes, refl, (refl, refl), ([], [], 0x20 ∷ bytes, refl, (refl, refl), (0x20, 0x20 ∷ [], bytes, refl, refl, (Number number text, bytes, [], sym (append-nil bytes), keyexpr_spelled theirs ours number text h, (refl, refl)))))

pub name_spelled : (theirs ours : Texts) (number : ℕ) (text : List ℕ) → IsName (number, text) → (declare_format theirs ours).spelled (Number number text, None) (writes_name number text)
name_spelled theirs ours number text h = (0x1E, 0x1E ∷ [], 0x20 ∷ (writes number ++ (writes 0 ++ writes_text text)), refl, refl, name_declared theirs ours number text h)
