-- What the reader of a chain passes over as it goes along it, where it keeps nothing.
use Rattle.std.proofs.Common.{◌≡◌, ℕ, suc, ◌+◌, ◌-◌, ◌<◌, ◌≤◌, List, [], ◌∷◌, length, Ok, Err, Bool, true, false, refl, sym, ap, ◌∙◌, arith, inl, inr}
use Rattle.zr_bytes.specs.declared.read_error.ReadError.{ReadError}
use Rattle.zr_bytes.specs.declared.read_error.ReadError.TheVariants.{Short}
use Rattle.zr_bytes.specs.Reading.{Read, ◌>>=◌}
use Rattle.zr_bytes.proofs.Steps.{ok_is, bind_ok, bind_err, not_both}
use Rattle.zr_ext.specs.declared.ext.Ext.{Ext}
use Rattle.zr_ext.specs.declared.ext.Form.{Form}
use Rattle.zr_ext.specs.Reading.{ext_of, exts_within, chain_of}
use Rattle.zr_ext.specs.Chain.{kept}
use Rattle.zr_ext.specs.Finding.{more_of, without_value}

-- the chain of at most so many extensions, passed over
abbrev pub passed_within : ℕ → List ℕ → Read (Unit {0})
passed_within most bytes = without_value (exts_within most [] bytes)

abbrev over : List ℕ → Read (Unit {0})
over rest = Ok (tt, rest)

without_value-kept : (known : List (ℕ × Form)) (said : Read (List Ext)) → without_value (said >>= λ x. Ok (kept known x.0, x.1)) ≡ without_value said
without_value-kept known (Ok x) = refl
without_value-kept known (Err e) = refl

without_value-one : (ext : Ext) (said : Read (List Ext)) → without_value (said >>= λ o. Ok (ext ∷ o.0, o.1)) ≡ without_value said
without_value-one ext (Ok x) = refl
without_value-one ext (Err e) = refl

-- one extension, as the definition has it
more_step : (bytes : List ℕ) (more : Bool) (rest : List ℕ) → more_of (ext_of [] bytes) ≡ Ok (more, rest) → (x : Ext × Bool) × (ext_of [] bytes ≡ Ok (x, rest)) × (x.1 ≡ more)
more_step bytes more rest e =
    let step = bind_ok (ext_of [] bytes) (λ x. Ok (x.0.1, x.1)) (more, rest) e in
    let same : (step.0.0.1, step.0.1) ≡ (more, rest) = ok_is (step.0.0.1, step.0.1) (more, rest) step.2 in
    (step.0.0, step.1 ∙ ap (λ (p : Bool × List ℕ). Ok (step.0.0, p.1)) same, ap (λ (p : Bool × List ℕ). p.0) same)

pub begins : (bytes : List ℕ) → passed_within (length bytes - 0) bytes ≡ without_value (chain_of [] bytes)
unfolding chain_of
begins bytes = ap (λ (n : ℕ). passed_within n bytes) (omega arith) ∙ sym (without_value-kept [] (exts_within (length bytes) [] bytes))

pub goes_on : (most i : ℕ) (more : Bool) (bytes rest : List ℕ) (said : Read (Unit {0})) → i < most → more ≡ true → more_of (ext_of [] bytes) ≡ Ok (more, rest)
    → passed_within (most - i) bytes ≡ said → passed_within (most - (i + 1)) rest ≡ said
unfolding exts_within
goes_on most i more bytes rest said lt is read same =
    let x = more_step bytes more rest read in
    let k : most - i ≡ suc (most - (i + 1)) = omega arith in
    let goes : x.0.1 ≡ true = x.2 ∙ is in
    let step : passed_within (most - i) bytes ≡ passed_within (most - (i + 1)) rest = rw (k, x.1, goes) (without_value-one x.0.0 (exts_within (most - (i + 1)) [] rest)) in
    sym step ∙ same

pub is_last : (most i : ℕ) (more : Bool) (bytes rest : List ℕ) (said : Read (Unit {0})) → i < most → more ≡ false → more_of (ext_of [] bytes) ≡ Ok (more, rest)
    → passed_within (most - i) bytes ≡ said → said ≡ over rest
unfolding exts_within
is_last most i more bytes rest said lt is read same =
    let x = more_step bytes more rest read in
    let k : most - i ≡ suc (most - (i + 1)) = omega arith in
    let stops : x.0.1 ≡ false = x.2 ∙ is in
    let step : passed_within (most - i) bytes ≡ over rest = rw (k, x.1, stops) refl in
    sym same ∙ step

pub is_refused : (most i : ℕ) (bytes : List ℕ) (e : ReadError) (said : Read (Unit {0})) → i < most → more_of (ext_of [] bytes) ≡ Err e → passed_within (most - i) bytes ≡ said → said ≡ Err e
unfolding exts_within
is_refused most i bytes e said lt refused same =
    elim (bind_err (ext_of [] bytes) (λ x. Ok (x.0.1, x.1)) e refused) [
      | inl first ↦
          let k : most - i ≡ suc (most - (i + 1)) = omega arith in
          let step : passed_within (most - i) bytes ≡ Err e = rw (k, first) refl in
          sym same ∙ step
      | inr step ↦ absurd (not_both (Ok (step.0.0.1, step.0.1)) (step.0.0.1, step.0.1) e refl step.2)
    ]

pub is_over : (most i : ℕ) (bytes : List ℕ) (said : Read (Unit {0})) → most ≤ i → passed_within (most - i) bytes ≡ said → said ≡ Err Short
unfolding exts_within
is_over most i bytes said le same =
    let k : most - i ≡ 0 = omega arith in
    let step : passed_within (most - i) bytes ≡ Err Short = rw k refl in
    sym same ∙ step
