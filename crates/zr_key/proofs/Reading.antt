-- What is read: the tests that a text passed, and what its canonical text is.
use Rattle.std.proofs.Common.{◌≡◌, ℕ, ◌≤◌, ◌∷◌, [], List, Bool, true, false, cond, not, refl, sym, ap, subst, ◌∙◌, length, arith, nat_lt, Option, Some, None, Ok, Err}
use Rattle.std.specs.Str.{IsUtf8, is_utf8}
use Rattle.std.proofs.lemmas.Str.{IsUtf8-from_is_utf8, is_utf8-from_IsUtf8}
use Rattle.std.proofs.lemmas.Bool.{ltb-false, le-ltb, false≢true}
use Rattle.zr_key.specs.declared.key.KeyError.{KeyError}
use Rattle.zr_key.specs.declared.key.KeyError.TheVariants.{TooLong, NotUtf8}
use Rattle.zr_key.specs.Expression.{Chunk, spelled, is_expression, is_canonical, Spells, ReadsAs, LeadsTo, Matches}
use Rattle.zr_key.specs.Key.{chunks, expression_of, canonical, first_fault, unless_faulty, read_key, IsKeyText}
use Rattle.zr_key.proofs.Spelling.{IsSpelling, IsSpelling-from_fault, IsRead-from_expression}
use Rattle.zr_key.proofs.CanonForm.{all_chunks, canonical-leads, is_canonical-canonical, LeadsTo-is_expression}
use Rattle.zr_key.proofs.SameKeys.{LeadsTo-forth, LeadsTo-back}
use Rattle.zr_key.proofs.Settled.{canonical_kept}
use Rattle.zr_key.proofs.Text.{LeadsTo-utf8, LeadsTo-length}

-- the tests that a text which is read has passed
pub record Passed (text : List ℕ) : Type 0 where
  pub short : length text ≤ 2048
  pub utf8 : is_utf8 text ≡ true
  pub fault_free : first_fault (chunks text) ≡ None

pub Passed-from_read : (text t : List ℕ) → read_key text ≡ Ok t → Passed text × (t ≡ spelled (canonical (expression_of text)))
Passed-from_read [] t h = cc
Passed-from_read (b ∷ bs) t h = by (nat_lt 2048 (length (b ∷ bs))) (is_utf8 (b ∷ bs)) (first_fault (chunks (b ∷ bs))) refl refl refl h
  where
    by : (long utf8 : Bool) (fault : Option KeyError) → nat_lt 2048 (length (b ∷ bs)) ≡ long → is_utf8 (b ∷ bs) ≡ utf8 → first_fault (chunks (b ∷ bs)) ≡ fault
        → cond long (Err TooLong) (cond (not utf8) (Err NotUtf8) (unless_faulty fault (b ∷ bs))) ≡ Ok t
        → Passed (b ∷ bs) × (t ≡ spelled (canonical (expression_of (b ∷ bs))))
    by true u f p q r e = cc
    by false false f p q r e = cc
    by false true (Some x) p q r e = cc
    by false true None p q r e = (record { short = ltb-false 2048 (length (b ∷ bs)) p; utf8 = q; fault_free = r }, cc)

pub read-from_Passed : (b : ℕ) (bs : List ℕ) → Passed (b ∷ bs) → read_key (b ∷ bs) ≡ Ok (spelled (canonical (expression_of (b ∷ bs))))
read-from_Passed b bs h =
    let short : nat_lt 2048 (length (b ∷ bs)) ≡ false = le-ltb 2048 (length (b ∷ bs)) h.short in
    rw (short, h.utf8, h.fault_free) refl

-- the canonical text of one that passed
pub canonical_text : (text : List ℕ) → Passed text → IsKeyText (spelled (canonical (expression_of text)))
canonical_text text h =
    let spelling = IsSpelling-from_fault text h.fault_free in
    let leads = canonical-leads (expression_of text) spelling.expression in
    let expression = LeadsTo-is_expression leads spelling.expression in
    let read = IsRead-from_expression (canonical (expression_of text)) expression in
    let size = LeadsTo-length (expression_of text) (canonical (expression_of text)) leads spelling.expression in
    let same = ap length spelling.spells in
    let utf8 : IsUtf8 (spelled (expression_of text)) = subst IsUtf8 (sym spelling.spells) (IsUtf8-from_is_utf8 text h.utf8) in
    record {
      short = omega (arith, h.short);
      utf8 = is_utf8-from_IsUtf8 (spelled (canonical (expression_of text))) (LeadsTo-utf8 (expression_of text) (canonical (expression_of text)) leads spelling.expression utf8);
      spells = ap spelled read.read_back;
      expression = ap is_expression read.read_back ∙ expression;
      canonical_form = ap is_canonical read.read_back ∙ is_canonical-canonical (expression_of text);
    }

-- a text that is read, its expression and the canonical one
pub record Sound (text t : List ℕ) : Type 0 where
  pub passed : Passed text
  pub text_is : t ≡ spelled (canonical (expression_of text))
  pub spelling : IsSpelling text
  pub leads : LeadsTo (expression_of text) (canonical (expression_of text))
  pub read_back : expression_of t ≡ canonical (expression_of text)
  pub key : IsKeyText t

pub Sound-from_read : (text t : List ℕ) → read_key text ≡ Ok t → Sound text t
Sound-from_read text t h =
    let p = Passed-from_read text t h in
    let spelling = IsSpelling-from_fault text p.0.fault_free in
    let leads = canonical-leads (expression_of text) spelling.expression in
    let read = IsRead-from_expression (canonical (expression_of text)) (LeadsTo-is_expression leads spelling.expression) in
    record {
      passed = p.0;
      text_is = p.1;
      spelling = spelling;
      leads = leads;
      read_back = ap expression_of p.1 ∙ read.read_back;
      key = subst IsKeyText (sym p.1) (canonical_text text p.0);
    }

pub is_reading : (text t : List ℕ) → read_key text ≡ Ok t → (e : List Chunk) × ReadsAs text e × (t ≡ spelled e)
is_reading text t h =
    let s = Sound-from_read text t h in
    (canonical (expression_of text), (expression_of text, (s.spelling.expression, sym s.spelling.spells), s.leads, is_canonical-canonical (expression_of text)), s.text_is)

pub reads_each : (text : List ℕ) (e : List Chunk) → Spells text e → is_utf8 text ≡ true → length text ≤ 2048 → (t : List ℕ) × (read_key text ≡ Ok t)
reads_each [] e h utf8 short =
    let back : expression_of [] ≡ e = ap expression_of h.1 ∙ (IsRead-from_expression e h.0).read_back in
    absurd (false≢true (ap is_expression back ∙ h.0))
reads_each (b ∷ bs) e h utf8 short =
    let fault_free : first_fault (chunks (b ∷ bs)) ≡ None = ap (λ x. first_fault (chunks x)) h.1 ∙ (IsRead-from_expression e h.0).fault_free in
    (spelled (canonical (expression_of (b ∷ bs))), read-from_Passed b bs (record { short = short; utf8 = utf8; fault_free = fault_free }))

pub reading_keeps : (text t : List ℕ) (e : List Chunk) → Spells text e → read_key text ≡ Ok t → (key : List (List ℕ)) → (Matches e key → Matches (expression_of t) key) × (Matches (expression_of t) key → Matches e key)
reading_keeps text t e h r key =
    let s = Sound-from_read text t r in
    let same : expression_of text ≡ e = ap expression_of h.1 ∙ (IsRead-from_expression e h.0).read_back in (
      λ m. subst (λ x. Matches x key) (sym s.read_back) (LeadsTo-forth s.leads key (subst (λ x. Matches x key) (sym same) m)),
      λ m. subst (λ x. Matches x key) same (LeadsTo-back s.leads key (subst (λ x. Matches x key) s.read_back m)),
    )

pub read_again : (t : List ℕ) → IsKeyText t → read_key t ≡ Ok t
read_again [] h = cc
read_again (b ∷ bs) h =
    let read = IsRead-from_expression (expression_of (b ∷ bs)) h.expression in
    let fault_free : first_fault (chunks (b ∷ bs)) ≡ None = ap (λ x. first_fault (chunks x)) (sym h.spells) ∙ read.fault_free in
    let kept : canonical (expression_of (b ∷ bs)) ≡ expression_of (b ∷ bs) = canonical_kept (expression_of (b ∷ bs)) (all_chunks (expression_of (b ∷ bs)) h.expression) h.canonical_form in
    read-from_Passed b bs (record { short = h.short; utf8 = h.utf8; fault_free = fault_free }) ∙ ap (λ x. Ok x) (ap spelled kept ∙ h.spells)
