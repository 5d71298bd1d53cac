-- What is kept of a chain, as the reader goes along it: what was found so far, less what comes again, and then what
-- is kept of the rest.
use Rattle.std.proofs.Common.{◌≡◌, ℕ, suc, ◌+◌, ◌-◌, ◌^◌, ◌<◌, ◌≤◌, List, [], ◌∷◌, ◌++◌, length, Option, Some, None, Ok, Err, Bool, true, false, not, ◌||◌, cond, refl, sym, ap, ◌∙◌, arith, inl, inr, filter}
use Rattle.std.proofs.lemmas.List.{append-nil}
use Rattle.zr_bytes.specs.declared.read_error.ReadError.{ReadError}
use Rattle.zr_bytes.specs.declared.read_error.ReadError.TheVariants.{Short}
use Rattle.zr_bytes.specs.Reading.{Read, ◌>>=◌, Fails, byte_of, number_of, text_of}
use Rattle.zr_bytes.proofs.Steps.{ok_is, bind_ok, bind_err, not_both, done}
use Rattle.zr_ext.specs.declared.ext.Ext.{Ext}
use Rattle.zr_ext.specs.declared.ext.Content.{Content}
use Rattle.zr_ext.specs.declared.ext.Content.TheVariants as content
use Rattle.zr_ext.specs.declared.ext.Form.{Form}
use Rattle.zr_ext.specs.declared.ext.Form.TheVariants as form
use Rattle.zr_ext.specs.declared.header.Header.{Header}
use Rattle.zr_ext.specs.Header.{form_of, is_known}
use Rattle.zr_ext.specs.Chain.{lasts, knows, repeats, is_repeated}
use Rattle.zr_ext.specs.Reading.{header_of, content_of, ext_of, found_of, exts_within, chain_of}
use Rattle.zr_ext.specs.Finding.{with_one, without_value}

-- ---- one extension

pub content_form : (form : Form) (bytes rest : List ℕ) (x : Content) → content_of form bytes ≡ Ok (x, rest) → form_of x ≡ form
unfolding content_of
content_form form.Unit bytes rest x e = let same : (content.Unit, bytes) ≡ (x, rest) = ok_is (content.Unit, bytes) (x, rest) e in sym (ap (λ (p : Content × List ℕ). form_of p.0) same)
content_form form.Number bytes rest x e =
    let step = bind_ok (number_of bytes) (λ y. Ok (content.Number y.0, y.1)) (x, rest) e in
    let same : (content.Number step.0.0, step.0.1) ≡ (x, rest) = ok_is (content.Number step.0.0, step.0.1) (x, rest) step.2 in
    sym (ap (λ (p : Content × List ℕ). form_of p.0) same)
content_form form.Bytes bytes rest x e =
    let step = bind_ok (text_of (2 ^ 32 - 1) bytes) (λ y. Ok (content.Bytes y.0, y.1)) (x, rest) e in
    let same : (content.Bytes step.0.0, step.0.1) ≡ (x, rest) = ok_is (content.Bytes step.0.0, step.0.1) (x, rest) step.2 in
    sym (ap (λ (p : Content × List ℕ). form_of p.0) same)

-- what the steps of one extension give together
pub found_is : (known : List (ℕ × Form)) (bytes behind rest : List ℕ) (b : ℕ) (head : Header) (x : Content)
    → byte_of bytes ≡ Ok (b, behind) → header_of known b ≡ Ok head → content_of head.form behind ≡ Ok (x, rest)
    → found_of known bytes ≡ Ok ((cond (is_known known head.id head.form) (Some (record { id = head.id; mandatory = head.mandatory; content = x })) None, head.more), rest)
unfolding found_of ext_of
found_is known bytes behind rest b head x at accepted read = rw at (rw accepted (rw read (rw (content_form head.form behind rest x read) refl)))

-- ---- what is kept

abbrev pub after : List Ext → List Ext → List Ext
after found exts = filter (λ e. not (is_repeated e exts)) found ++ lasts exts

filter_all : (exts : List Ext) → filter (λ e. true) exts ≡ exts
filter_all [] = refl
filter_all (e ∷ exts) = ap (λ (xs : List Ext). e ∷ xs) (filter_all exts)

after_nil : (found : List Ext) → after found [] ≡ found
after_nil found = append-nil (filter (λ e. true) found) ∙ filter_all found

before_one : (e x : Ext) (found exts : List Ext) → after found (x ∷ exts) ≡ after (filter (λ e. not (repeats x e)) found ++ x ∷ []) exts
    → (b : Bool) → cond (not (b || is_repeated e exts)) (e ∷ filter (λ e. not (is_repeated e (x ∷ exts))) found) (filter (λ e. not (is_repeated e (x ∷ exts))) found) ++ lasts (x ∷ exts)
    ≡ filter (λ e. not (is_repeated e exts)) (cond (not b) (e ∷ filter (λ e. not (repeats x e)) found) (filter (λ e. not (repeats x e)) found) ++ x ∷ []) ++ lasts exts
before_one e x found exts same true = same
before_one e x found exts same false = by_test (is_repeated e exts)
  where
    by_test : (d : Bool) → cond (not d) (e ∷ filter (λ e. not (is_repeated e (x ∷ exts))) found) (filter (λ e. not (is_repeated e (x ∷ exts))) found) ++ lasts (x ∷ exts)
        ≡ cond (not d) (e ∷ filter (λ e. not (is_repeated e exts)) (filter (λ e. not (repeats x e)) found ++ x ∷ [])) (filter (λ e. not (is_repeated e exts)) (filter (λ e. not (repeats x e)) found ++ x ∷ [])) ++ lasts exts
    by_test true = same
    by_test false = ap (λ (xs : List Ext). e ∷ xs) same

after_one : (found exts : List Ext) (x : Ext) → after found (x ∷ exts) ≡ after (filter (λ e. not (repeats x e)) found ++ x ∷ []) exts
after_one [] exts x = by_test (is_repeated x exts)
  where
    by_test : (b : Bool) → cond b (lasts exts) (x ∷ lasts exts) ≡ cond (not b) (x ∷ []) [] ++ lasts exts
    by_test true = refl
    by_test false = refl
after_one (e ∷ found) exts x = before_one e x found exts (after_one found exts x) (repeats x e)

-- what is kept in the end, where this was found before it
abbrev pub with_found : List (ℕ × Form) → List Ext → Read (List Ext) → Read (List Ext)
with_found known found said = said >>= λ x. Ok (after found (filter (λ e. knows known e) x.0), x.1)

with_found-one : (known : List (ℕ × Form)) (found : List Ext) (x : Ext) (said : Read (List Ext))
    → with_found known found (said >>= λ o. Ok (x ∷ o.0, o.1)) ≡ with_found known (with_one found (cond (knows known x) (Some x) None)) said
with_found-one known found x (Err e) = refl
with_found-one known found x (Ok o) = by_test (knows known x)
  where
    rest : List Ext
    rest = filter (λ e. knows known e) o.0

    by_test : (b : Bool) → done (after found (cond b (x ∷ rest) rest)) o.1 ≡ done (after (with_one found (cond b (Some x) None)) rest) o.1
    by_test true = ap (λ (xs : List Ext). Ok (xs, o.1)) (after_one found rest x)
    by_test false = refl

-- ---- the loop

-- the answer with one extension, as the definition has it
found_step : (known : List (ℕ × Form)) (bytes : List ℕ) (f : Option Ext × Bool) (rest : List ℕ) → found_of known bytes ≡ Ok (f, rest)
    → (x : Ext × Bool) × (ext_of known bytes ≡ Ok (x, rest)) × (cond (knows known x.0) (Some x.0) None ≡ f.0) × (x.1 ≡ f.1)
unfolding found_of
found_step known bytes f rest e =
    let step = bind_ok (ext_of known bytes) (λ x. Ok ((cond (knows known x.0.0) (Some x.0.0) None, x.0.1), x.1)) (f, rest) e in
    let x = step.0.0 in
    let same : ((cond (knows known x.0) (Some x.0) None, x.1), step.0.1) ≡ (f, rest) = ok_is ((cond (knows known x.0) (Some x.0) None, x.1), step.0.1) (f, rest) step.2 in
    (x, step.1 ∙ ap (λ (p : (Option Ext × Bool) × List ℕ). Ok (x, p.1)) same, ap (λ (p : (Option Ext × Bool) × List ℕ). p.0.0) same, ap (λ (p : (Option Ext × Bool) × List ℕ). p.0.1) same)

pub begins : (known : List (ℕ × Form)) (bytes : List ℕ) (found : List Ext) → found ≡ [] → with_found known found (exts_within (length bytes - 0) known bytes) ≡ chain_of known bytes
unfolding chain_of
begins known bytes found e = rw e (ap (λ (n : ℕ). with_found known [] (exts_within n known bytes)) (omega arith))

pub goes_on : (known : List (ℕ × Form)) (most i : ℕ) (found : List Ext) (f : Option Ext × Bool) (bytes rest : List ℕ) (said : Read (List Ext)) → i < most → f.1 ≡ true
    → found_of known bytes ≡ Ok (f, rest) → with_found known found (exts_within (most - i) known bytes) ≡ said
    → with_found known (with_one found f.0) (exts_within (most - (i + 1)) known rest) ≡ said
unfolding exts_within
goes_on known most i found f bytes rest said lt more read same =
    let x = found_step known bytes f rest read in
    let k : most - i ≡ suc (most - (i + 1)) = omega arith in
    let goes : x.0.1 ≡ true = x.3 ∙ more in
    let step : with_found known found (exts_within (most - i) known bytes) ≡ with_found known (with_one found f.0) (exts_within (most - (i + 1)) known rest) =
    rw (k, x.1, goes) (with_found-one known found x.0.0 (exts_within (most - (i + 1)) known rest) ∙ ap (λ (o : Option Ext). with_found known (with_one found o) (exts_within (most - (i + 1)) known rest)) x.2) in
    sym step ∙ same

pub is_last : (known : List (ℕ × Form)) (most i : ℕ) (found : List Ext) (f : Option Ext × Bool) (bytes rest : List ℕ) (said : Read (List Ext)) → i < most → f.1 ≡ false
    → found_of known bytes ≡ Ok (f, rest) → with_found known found (exts_within (most - i) known bytes) ≡ said
    → said ≡ Ok (with_one found f.0, rest)
unfolding exts_within
is_last known most i found f bytes rest said lt more read same =
    let x = found_step known bytes f rest read in
    let k : most - i ≡ suc (most - (i + 1)) = omega arith in
    let stops : x.0.1 ≡ false = x.3 ∙ more in
    let none : Read (List Ext) = Ok ([], rest) in
    let step : with_found known found (exts_within (most - i) known bytes) ≡ Ok (with_one found f.0, rest) =
    rw (k, x.1, stops) (with_found-one known found x.0.0 none ∙ ap (λ (o : Option Ext). with_found known (with_one found o) none) x.2 ∙ ap (λ (xs : List Ext). Ok (xs, rest)) (after_nil (with_one found f.0))) in
    sym same ∙ step

-- a known extension, or none, is read
pub found_if : (known : List (ℕ × Form)) (bytes behind rest : List ℕ) (b : ℕ) (head : Header) (x : Content) (test : Bool)
    → byte_of bytes ≡ Ok (b, behind) → header_of known b ≡ Ok head → content_of head.form behind ≡ Ok (x, rest) → is_known known head.id head.form ≡ test
    → found_of known bytes ≡ Ok ((cond test (Some (record { id = head.id; mandatory = head.mandatory; content = x })) None, head.more), rest)
found_if known bytes behind rest b head x test at accepted read e =
    found_is known bytes behind rest b head x at accepted read
    ∙ ap (λ (t : Bool). done (cond t (Some (record { id = head.id; mandatory = head.mandatory; content = x })) None, head.more) rest) e

-- an unknown one is passed over
pub passed_over : (known : List (ℕ × Form)) (bytes behind rest : List ℕ) (b : ℕ) (head : Header)
    → byte_of bytes ≡ Ok (b, behind) → header_of known b ≡ Ok head → without_value (content_of head.form behind) ≡ Ok (tt, rest) → is_known known head.id head.form ≡ false
    → found_of known bytes ≡ Ok ((None, head.more), rest)
passed_over known bytes behind rest b head at accepted read e =
    let none : Unit {0} = tt in
    let step = bind_ok (content_of head.form behind) (λ x. done none x.1) (none, rest) read in
    let same : (none, step.0.1) ≡ (none, rest) = ok_is (none, step.0.1) (none, rest) step.2 in
    let end : step.0.1 ≡ rest = ap (λ (p : Unit {0} × List ℕ). p.1) same in
    found_if known bytes behind rest b head step.0.0 false at accepted (step.1 ∙ ap (λ (r : List ℕ). done step.0.0 r) end) e

pub is_refused : (known : List (ℕ × Form)) (most i : ℕ) (found : List Ext) (bytes : List ℕ) (e : ReadError) (said : Read (List Ext)) → i < most
    → Fails e (found_of known bytes) → with_found known found (exts_within (most - i) known bytes) ≡ said → Fails e said
unfolding exts_within found_of
is_refused known most i found bytes e said lt fails same =
    elim fails [
      | inl memory ↦ inl memory
      | inr refused ↦ elim (bind_err (ext_of known bytes) (λ x. Ok ((cond (knows known x.0.0) (Some x.0.0) None, x.0.1), x.1)) e refused) [
        | inl first ↦
            let k : most - i ≡ suc (most - (i + 1)) = omega arith in
            let step : with_found known found (exts_within (most - i) known bytes) ≡ Err e = rw (k, first) refl in
            inr (sym same ∙ step)
        | inr step ↦ absurd (not_both (Ok ((cond (knows known step.0.0.0) (Some step.0.0.0) None, step.0.0.1), step.0.1)) ((cond (knows known step.0.0.0) (Some step.0.0.0) None, step.0.0.1), step.0.1) e refl step.2)
      ]
    ]

pub is_over : (known : List (ℕ × Form)) (most i : ℕ) (found : List Ext) (bytes : List ℕ) (said : Read (List Ext)) → most ≤ i
    → with_found known found (exts_within (most - i) known bytes) ≡ said → said ≡ Err Short
unfolding exts_within
is_over known most i found bytes said le same =
    let k : most - i ≡ 0 = omega arith in
    let step : with_found known found (exts_within (most - i) known bytes) ≡ Err Short = rw k refl in
    sym same ∙ step
