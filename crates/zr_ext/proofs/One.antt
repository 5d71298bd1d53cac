-- One extension: it is read where it is spelled, and refused where its header or its content is.
use Rattle.std.proofs.Common.{◌≡◌, ℕ, ◌-◌, ◌^◌, List, [], ◌∷◌, ◌++◌, Option, Some, None, Result, Ok, Err, Bool, true, false, not, ◌&&◌, ◌||◌, cond, refl, sym, ap, subst, ◌∙◌, arith, inl, inr, ◌⊎◌, eqb}
use Rattle.std.specs.Prelude.{bit_and}
use Rattle.std.proofs.lemmas.Bool.{eqb-true}
use Rattle.zr_lists.proofs.Truths.{where_so, so_there}
use Rattle.zr_bytes.specs.declared.read_error.ReadError.{ReadError}
use Rattle.zr_bytes.specs.declared.read_error.ReadError.TheVariants.{Short, Mandatory, BadText}
use Rattle.zr_bytes.specs.Flag.{has_flag}
use Rattle.zr_bytes.specs.Spelling.{Begins}
use Rattle.zr_bytes.specs.Reading.{Read, ◌>>=◌, byte_of, number_of, text_of}
use Rattle.zr_bytes.proofs.Steps.{ok_is, bind_ok, bind_err, not_both, chosen}
use Rattle.zr_bytes.proofs.Numbers.{read_begins, begins_read, refused_inside, inside_refused}
use Rattle.zr_bytes.proofs.Texts.{text_begins, begins_text, begins_too_big, text_refused, inside_text}
use Rattle.zr_ext.specs.declared.ext.Ext.{Ext}
use Rattle.zr_ext.specs.declared.ext.Content.{Content}
use Rattle.zr_ext.specs.declared.ext.Content.TheVariants as content
use Rattle.zr_ext.specs.declared.ext.Form.{Form}
use Rattle.zr_ext.specs.declared.ext.Form.TheVariants as form
use Rattle.zr_ext.specs.declared.header.Header.{Header}
use Rattle.zr_ext.specs.Header.{IsHeader, form_of, encoding_of, is_known}
use Rattle.zr_ext.specs.Chain.{SpellsContent, SpellsExt, knows}
use Rattle.zr_ext.specs.Reading.{form_at, judged, header_of, content_of, ext_of}
use Rattle.zr_ext.specs.Refusals.{HasForm, IsAdmitted, RefusesHeader, RefusesContent, StopsAt}
use Rattle.zr_ext.proofs.Found.{content_form}

-- ---- the form in a header

pub form_of_encoding : (header : ℕ) (f : Form) → HasForm header f → form_at (bit_and header 0x60) ≡ Some f
form_of_encoding header form.Unit h = rw (← h) refl
form_of_encoding header form.Number h = rw (← h) refl
form_of_encoding header form.Bytes h = rw (← h) refl

some_is : {A : Type 0} (x y : A) (o : Option A) → o ≡ Some x → o ≡ Some y → x ≡ y
some_is x y o p q = cc

none_some : {A : Type 0} (x : A) (o : Option A) → o ≡ None → o ≡ Some x → ⊥
none_some x o p q = cc

-- an encoding that a form is read from is that of the form
pub encoding_of_form : (encoding : ℕ) (f : Form) → form_at encoding ≡ Some f → encoding_of f ≡ encoding
encoding_of_form encoding f h = by_first (eqb encoding 0) refl h
  where
    third : (b : Bool) → eqb encoding 0x40 ≡ b → cond b (Some form.Bytes) None ≡ Some f → encoding_of f ≡ encoding
    third true e k = rw (← some_is form.Bytes f (Some form.Bytes) refl k) (sym (eqb-true encoding 0x40 e))
    third false e k = absurd (none_some f None refl k)

    second : (b : Bool) → eqb encoding 0x20 ≡ b → cond b (Some form.Number) (cond (eqb encoding 0x40) (Some form.Bytes) None) ≡ Some f → encoding_of f ≡ encoding
    second true e k = rw (← some_is form.Number f (Some form.Number) refl k) (sym (eqb-true encoding 0x20 e))
    second false e k = third (eqb encoding 0x40) refl k

    by_first : (b : Bool) → eqb encoding 0 ≡ b → cond b (Some form.Unit) (cond (eqb encoding 0x20) (Some form.Number) (cond (eqb encoding 0x40) (Some form.Bytes) None)) ≡ Some f → encoding_of f ≡ encoding
    by_first true e k = rw (← some_is form.Unit f (Some form.Unit) refl k) (sym (eqb-true encoding 0 e))
    by_first false e k = second (eqb encoding 0x20) refl k

optional : {A : Type 0} (o : Option A) → (o ≡ None) ⊎ ((x : A) × (o ≡ Some x))
optional None = inl refl
optional (Some x) = inr (x, refl)

-- ---- the header

abbrev head_at : ℕ → Form → Header
head_at header f = record { id = bit_and header 0x0F; mandatory = has_flag header 0x10; form = f; more = has_flag header 0x80 }

not_refused : (b k : Bool) (d : ReadError) (x : Result Header ReadError) → (b ≡ true → k ≡ true) → cond (b && not k) (Err d) x ≡ x
not_refused true k d x h = rw (h refl) refl
not_refused false k d x h = refl

admitted_if : (b k : Bool) → (b && not k) ≡ false → b ≡ true → k ≡ true
admitted_if true true h p = refl
admitted_if true false h p = absurd cc
admitted_if false k h p = absurd cc

refused_if : (b k : Bool) → (b && not k) ≡ true → (b ≡ true) × (k ≡ false)
refused_if true true h = absurd cc
refused_if true false h = (refl, refl)
refused_if false k h = absurd cc

pub header_accepted : (known : List (ℕ × Form)) (header : ℕ) (f : Form) → IsAdmitted known header f → header_of known header ≡ Ok (head_at header f)
header_accepted known header f ok =
    rw (form_of_encoding header f ok.0) (not_refused (has_flag header 0x10) (is_known known (bit_and header 0x0F) f) Mandatory (Ok (head_at header f)) ok.1)

pub header_found : (known : List (ℕ × Form)) (header : ℕ) (head : Header) → header_of known header ≡ Ok head → IsAdmitted known header head.form × (head_at header head.form ≡ head)
header_found known header head h = by_form (form_at (bit_and header 0x60)) refl h
  where
    by_form : (o : Option Form) → form_at (bit_and header 0x60) ≡ o → judged known header o ≡ Ok head → IsAdmitted known header head.form × (head_at header head.form ≡ head)
    by_form None e k = elim (chosen (has_flag header 0x10) (Err Mandatory) (Err BadText) (Ok head) k) [
      | inl m ↦ absurd (not_both (Ok head) head Mandatory refl (sym m.1))
      | inr b ↦ absurd (not_both (Ok head) head BadText refl (sym b.1))
    ]
    by_form (Some f) e k = elim (chosen (has_flag header 0x10 && not (is_known known (bit_and header 0x0F) f)) (Err Mandatory) (Ok (head_at header f)) (Ok head) k) [
      | inl m ↦ absurd (not_both (Ok head) head Mandatory refl (sym m.1))
      | inr fine ↦
          let same : head_at header f ≡ head = ok_is (head_at header f) head fine.1 in
          let P : Header → Type 0 = λ hd. IsAdmitted known header hd.form × (head_at header hd.form ≡ hd) in
          subst P same ((encoding_of_form (bit_and header 0x60) f e, admitted_if (has_flag header 0x10) (is_known known (bit_and header 0x0F) f) fine.0), refl)
    ]

err_is : (d e : ReadError) (r : Result Header ReadError) → r ≡ Err d → r ≡ Err e → e ≡ d
err_is d e r p q = cc

pub header_refused : (known : List (ℕ × Form)) (header : ℕ) (e : ReadError) → header_of known header ≡ Err e → RefusesHeader known e header
header_refused known header e h = by_form (form_at (bit_and header 0x60)) refl h
  where
    by_form : (o : Option Form) → form_at (bit_and header 0x60) ≡ o → judged known header o ≡ Err e → RefusesHeader known e header
    by_form None n k = elim (chosen (has_flag header 0x10) (Err Mandatory) (Err BadText) (Err e) k) [
      | inl m ↦ inl (err_is Mandatory e (Err e) (sym m.1) refl, m.0, λ f has. absurd (none_some f (form_at (bit_and header 0x60)) n (form_of_encoding header f has)))
      | inr b ↦ inr (err_is BadText e (Err e) (sym b.1) refl, b.0, λ f has. none_some f (form_at (bit_and header 0x60)) n (form_of_encoding header f has))
    ]
    by_form (Some f) s k = elim (chosen (has_flag header 0x10 && not (is_known known (bit_and header 0x0F) f)) (Err Mandatory) (Ok (head_at header f)) (Err e) k) [
      | inl m ↦
          let test = refused_if (has_flag header 0x10) (is_known known (bit_and header 0x0F) f) m.0 in
          inl (
            err_is Mandatory e (Err e) (sym m.1) refl,
            test.0,
            λ g has.
                let same : f ≡ g = some_is f g (form_at (bit_and header 0x60)) s (form_of_encoding header g has) in
                subst (λ (x : Form). is_known known (bit_and header 0x0F) x ≡ false) same test.1,
          )
      | inr fine ↦ absurd (not_both (Ok (head_at header f)) (head_at header f) e refl fine.1)
    ]

pub refuses_header : (known : List (ℕ × Form)) (header : ℕ) (e : ReadError) → RefusesHeader known e header → header_of known header ≡ Err e
refuses_header known header e r =
    elim (optional (form_at (bit_and header 0x60))) [
      | inl none ↦ elim r [
        | inl m ↦ rw (none, m.1) (ap (λ (d : ReadError). Err d) (sym m.0))
        | inr b ↦ rw (none, b.1) (ap (λ (d : ReadError). Err d) (sym b.0))
      ]
      | inr some ↦
          let has : HasForm header some.0 = encoding_of_form (bit_and header 0x60) some.0 some.1 in
          elim r [
            | inl m ↦ rw (some.1, m.1, m.2 some.0 has) (ap (λ (d : ReadError). Err d) (sym m.0))
            | inr b ↦ absurd (b.2 some.0 has)
          ]
    ]

-- ---- the content

pub content_found : (f : Form) (x : Content) (bytes rest : List ℕ) → content_of f bytes ≡ Ok (x, rest) → Begins SpellsContent x bytes rest
unfolding content_of
content_found form.Unit x bytes rest e =
    let same : (content.Unit, bytes) ≡ (x, rest) = ok_is (content.Unit, bytes) (x, rest) e in
    let P : Content × List ℕ → Type 0 = λ p. Begins SpellsContent p.0 bytes p.1 in
    subst P same ([], refl, refl)
content_found form.Number x bytes rest e =
    let step = bind_ok (number_of bytes) (λ y. Ok (content.Number y.0, y.1)) (x, rest) e in
    let same : (content.Number step.0.0, step.0.1) ≡ (x, rest) = ok_is (content.Number step.0.0, step.0.1) (x, rest) step.2 in
    let P : Content × List ℕ → Type 0 = λ p. Begins SpellsContent p.0 bytes p.1 in
    subst P same (read_begins 8 step.0.0 bytes step.0.1 step.1)
content_found form.Bytes x bytes rest e =
    let step = bind_ok (text_of (2 ^ 32 - 1) bytes) (λ y. Ok (content.Bytes y.0, y.1)) (x, rest) e in
    let same : (content.Bytes step.0.0, step.0.1) ≡ (x, rest) = ok_is (content.Bytes step.0.0, step.0.1) (x, rest) step.2 in
    let text = text_begins (2 ^ 32 - 1) step.0.0 bytes step.0.1 step.1 in
    let P : Content × List ℕ → Type 0 = λ p. Begins SpellsContent p.0 bytes p.1 in
    subst P same (text.1.0, (omega (arith, text.0), text.1.1), text.1.2)

pub content_read : (x : Content) (bytes rest : List ℕ) → Begins SpellsContent x bytes rest → content_of (form_of x) bytes ≡ Ok (x, rest)
unfolding content_of
content_read content.Unit bytes rest b =
    let same : bytes ≡ rest = b.2 ∙ ap (λ (xs : List ℕ). xs ++ rest) b.1 in
    ap (λ (xs : List ℕ). Ok (content.Unit, xs)) same
content_read (content.Number n) bytes rest b =
    let read : number_of bytes ≡ Ok (n, rest) = ap number_of b.2 ∙ begins_read 8 n b.0 rest b.1 in
    rw read refl
content_read (content.Bytes text) bytes rest b =
    let read : text_of (2 ^ 32 - 1) bytes ≡ Ok (text, rest) = begins_text (2 ^ 32 - 1) text bytes rest (omega (arith, b.1.0)) (b.0, b.1.1, b.2) in
    rw read refl

pub content_refused : (f : Form) (bytes : List ℕ) (e : ReadError) → content_of f bytes ≡ Err e → RefusesContent e f bytes
unfolding content_of
content_refused form.Unit bytes e h = absurd (not_both (Ok (content.Unit, bytes)) (content.Unit, bytes) e refl h)
content_refused form.Number bytes e h =
    elim (bind_err (number_of bytes) (λ y. Ok (content.Number y.0, y.1)) e h) [
      | inl first ↦ refused_inside 8 bytes e first
      | inr step ↦ absurd (not_both (Ok (content.Number step.0.0, step.0.1)) (content.Number step.0.0, step.0.1) e refl step.2)
    ]
content_refused form.Bytes bytes e h =
    elim (bind_err (text_of (2 ^ 32 - 1) bytes) (λ y. Ok (content.Bytes y.0, y.1)) e h) [
      | inl first ↦ text_refused (2 ^ 32 - 1) bytes e first
      | inr step ↦ absurd (not_both (Ok (content.Bytes step.0.0, step.0.1)) (content.Bytes step.0.0, step.0.1) e refl step.2)
    ]

pub refuses_content : (f : Form) (bytes : List ℕ) (e : ReadError) → RefusesContent e f bytes → content_of f bytes ≡ Err e
unfolding content_of
refuses_content form.Unit bytes e r = absurd r
refuses_content form.Number bytes e r =
    let short : number_of bytes ≡ Err e = inside_refused 8 bytes r.1 ∙ ap (λ (d : ReadError). Err d) (sym r.0) in
    rw short refl
refuses_content form.Bytes bytes e r =
    elim r [
      | inl short ↦
          let read : text_of (2 ^ 32 - 1) bytes ≡ Err e = inside_text (2 ^ 32 - 1) bytes short.1 short.2 ∙ ap (λ (d : ReadError). Err d) (sym short.0) in
          rw read refl
      | inr big ↦
          let read : text_of (2 ^ 32 - 1) bytes ≡ Err e = begins_too_big (2 ^ 32 - 1) big.1 bytes big.2 big.3 big.4 ∙ ap (λ (d : ReadError). Err d) (sym big.0) in
          rw read refl
    ]

-- ---- the extension

abbrev pub admits : List (ℕ × Form) → Ext → Bool
admits known ext = not ext.mandatory || knows known ext

abbrev rest_of : Header → List ℕ → Read (Ext × Bool)
rest_of head bytes = content_of head.form bytes >>= λ x. Ok ((record { id = head.id; mandatory = head.mandatory; content = x.0 }, head.more), x.1)

-- what is read is an extension that is spelled here, and is not refused
pub record IsFound (known : List (ℕ × Form)) (x : Ext × Bool) (bytes rest : List ℕ) : Type 0 where
  pub front : List ℕ
  pub spelled : SpellsExt x.0 x.1 front
  pub whole : bytes ≡ front ++ rest
  pub admitted : admits known x.0 ≡ true

pub ext_found : (known : List (ℕ × Form)) (x : Ext × Bool) (bytes rest : List ℕ) → ext_of known bytes ≡ Ok (x, rest) → IsFound known x bytes rest
unfolding ext_of byte_of
ext_found known x [] rest e = absurd (not_both (Err Short) (x, rest) Short e refl)
ext_found known x (header ∷ bytes) rest e =
    let first = bind_ok (header_of known header) (λ head. rest_of head bytes) (x, rest) e in
    let head = first.0 in
    let second = bind_ok (content_of head.form bytes) (λ y. Ok ((record { id = head.id; mandatory = head.mandatory; content = y.0 }, head.more), y.1)) (x, rest) first.2 in
    let y = second.0 in
    let good = header_found known header head first.1 in
    let inner = content_found head.form y.0 bytes y.1 second.1 in
    let formed : form_of y.0 ≡ head.form = content_form head.form bytes y.1 y.0 second.1 in
    let made : Ext × Bool = (record { id = head.id; mandatory = head.mandatory; content = y.0 }, head.more) in
    let same : (made, y.1) ≡ (x, rest) = ok_is (made, y.1) (x, rest) second.2 in
    let is : IsHeader made.0 made.1 header = record {
      id = ap (λ (h : Header). h.id) (sym good.1);
      mandatory = ap (λ (h : Header). h.mandatory) (sym good.1);
      form = ap encoding_of formed ∙ good.0.0;
      goes_on = ap (λ (h : Header). h.more) (sym good.1);
    } in
    let known_if : has_flag header 0x10 ≡ true → is_known known (bit_and header 0x0F) head.form ≡ true = good.0.1 in
    let known_too : head.mandatory ≡ true → knows known made.0 ≡ true = λ m.
    ap (λ (i : ℕ). is_known known i (form_of y.0)) is.id ∙ ap (is_known known (bit_and header 0x0F)) formed ∙ known_if (sym is.mandatory ∙ m) in
    let found : IsFound known made (header ∷ bytes) y.1 = record {
      front = header ∷ inner.0;
      spelled = (is, inner.1);
      whole = ap (λ (xs : List ℕ). header ∷ xs) inner.2;
      admitted = where_so head.mandatory (knows known made.0) known_too;
    } in
    let P : (Ext × Bool) × List ℕ → Type 0 = λ p. IsFound known p.0 (header ∷ bytes) p.1 in
    subst P same found

pub ext_read : (known : List (ℕ × Form)) (x : Ext × Bool) (bytes rest : List ℕ) → IsFound known x bytes rest → ext_of known bytes ≡ Ok (x, rest)
unfolding ext_of byte_of
ext_read known x bytes rest found = ap (ext_of known) found.whole ∙ by_front found.front found.spelled
  where
    by_front : (front : List ℕ) → SpellsExt x.0 x.1 front → ext_of known (front ++ rest) ≡ Ok (x, rest)
    by_front [] spelled = absurd spelled
    by_front (header ∷ text) spelled =
        let is = spelled.0 in
        let f : Form = form_of x.0.content in
        let known_if : has_flag header 0x10 ≡ true → is_known known (bit_and header 0x0F) f ≡ true = λ m.
        ap (λ (i : ℕ). is_known known i f) (sym is.id) ∙ so_there x.0.mandatory (knows known x.0) found.admitted (is.mandatory ∙ m) in
        let accepted : header_of known header ≡ Ok (head_at header f) = header_accepted known header f (is.form, known_if) in
        let read : content_of f (text ++ rest) ≡ Ok (x.0.content, rest) = content_read x.0.content (text ++ rest) rest (text, spelled.1, refl) in
        let same : (record { id = bit_and header 0x0F; mandatory = has_flag header 0x10; content = x.0.content }, has_flag header 0x80) ≡ x =
        λ i. (record { id = (sym is.id) i; mandatory = (sym is.mandatory) i; content = x.0.content }, (sym is.goes_on) i) in
        rw accepted (rw read (ap (λ (y : Ext × Bool). Ok (y, rest)) same))

pub ext_refused : (known : List (ℕ × Form)) (bytes : List ℕ) (e : ReadError) → ext_of known bytes ≡ Err e → StopsAt known e bytes
unfolding ext_of byte_of
ext_refused known [] e h = cc
ext_refused known (header ∷ bytes) e h =
    elim (bind_err (header_of known header) (λ head. rest_of head bytes) e h) [
      | inl first ↦ inl (header_refused known header e first)
      | inr step ↦
          let head = step.0 in
          elim (bind_err (content_of head.form bytes) (λ y. Ok ((record { id = head.id; mandatory = head.mandatory; content = y.0 }, head.more), y.1)) e step.2) [
            | inl second ↦ inr (head.form, (header_found known header head step.1).0, content_refused head.form bytes e second)
            | inr end ↦ absurd (not_both (Ok ((record { id = head.id; mandatory = head.mandatory; content = end.0.0 }, head.more), end.0.1)) ((record { id = head.id; mandatory = head.mandatory; content = end.0.0 }, head.more), end.0.1) e refl end.2)
          ]
    ]

pub stops_refused : (known : List (ℕ × Form)) (bytes : List ℕ) (e : ReadError) → StopsAt known e bytes → ext_of known bytes ≡ Err e
unfolding ext_of byte_of
stops_refused known [] e stops = ap (λ (d : ReadError). Err d) (sym stops)
stops_refused known (header ∷ bytes) e stops =
    elim stops [
      | inl head ↦ let refused : header_of known header ≡ Err e = refuses_header known header e head in rw refused refl
      | inr content ↦
          let accepted : header_of known header ≡ Ok (head_at header content.0) = header_accepted known header content.0 content.1 in
          let refused : content_of content.0 bytes ≡ Err e = refuses_content content.0 bytes e content.2 in
          rw accepted (rw refused refl)
    ]
