-- What is written spells the extensions: of a header by trying each of the 16 ids under each form and flag.
use Rattle.std.proofs.Common.{◌≡◌, ℕ, ◌<◌, List, [], ◌∷◌, length, Bool, true, false, not, ◌&&◌, ◌||◌, cond, refl, sym, ap, ◌∙◌, arith, eqb, filter}
use Rattle.std.specs.Prelude.{bit_and, bit_or}
use Rattle.std.specs.List.{AllByRecursion, list_all}
use Rattle.std.proofs.lemmas.Bool.{and_parts, eqb-true}
use Rattle.zr_bytes.specs.Flag.{has_flag}
use Rattle.zr_bytes.specs.Number.{writes}
use Rattle.zr_bytes.proofs.Numbers.{written_spells}
use Rattle.zr_ext.proofs.Trying.{all_below, all_below-at, same_bool, same_bool-true}
use Rattle.zr_ext.specs.declared.ext.Ext.{Ext}
use Rattle.zr_ext.specs.declared.ext.Content.{Content}
use Rattle.zr_ext.specs.declared.ext.Content.TheVariants as content
use Rattle.zr_ext.specs.declared.ext.Form.{Form}
use Rattle.zr_ext.specs.declared.ext.Form.TheVariants as form
use Rattle.zr_ext.specs.Header.{IsHeader, form_of, encoding_of}
use Rattle.zr_ext.specs.Chain.{SpellsContent, SpellsExt, SpellsAll, SpellsChain, are_admitted, knows, lasts}
use Rattle.zr_ext.specs.Writing.{Fits, ContentFits, writes_header, writes_content, writes_ext, writes_chain}

-- ---- the header

abbrev made : Bool → Form → Bool → ℕ → ℕ
made m f more id = bit_or (bit_or (bit_or id (cond m 0x10 0)) (encoding_of f)) (cond more 0x80 0)

-- the header says what it is made of
abbrev says : Bool → Form → Bool → ℕ → Bool
says m f more id =
    (eqb (bit_and (made m f more id) 0x0F) id && same_bool (has_flag (made m f more id) 0x10) m)
    && (eqb (bit_and (made m f more id) 0x60) (encoding_of f) && same_bool (has_flag (made m f more id) 0x80) more)

all_say : (m : Bool) (f : Form) (more : Bool) → all_below 16 (says m f more) ≡ true
all_say true form.Unit true = refl
all_say true form.Unit false = refl
all_say true form.Number true = refl
all_say true form.Number false = refl
all_say true form.Bytes true = refl
all_say true form.Bytes false = refl
all_say false form.Unit true = refl
all_say false form.Unit false = refl
all_say false form.Number true = refl
all_say false form.Number false = refl
all_say false form.Bytes true = refl
all_say false form.Bytes false = refl

header_says : (ext : Ext) (more : Bool) → ext.id < 16 → IsHeader ext more (writes_header ext more)
header_says ext more lt =
    let m = ext.mandatory in
    let f : Form = form_of ext.content in
    let h : ℕ = made m f more ext.id in
    let all : says m f more ext.id ≡ true = all_below-at 16 (says m f more) (all_say m f more) ext.id lt in
    let one = (and_parts (eqb (bit_and h 0x0F) ext.id && same_bool (has_flag h 0x10) m) (eqb (bit_and h 0x60) (encoding_of f) && same_bool (has_flag h 0x80) more) all).0 in
    let two = (and_parts (eqb (bit_and h 0x0F) ext.id && same_bool (has_flag h 0x10) m) (eqb (bit_and h 0x60) (encoding_of f) && same_bool (has_flag h 0x80) more) all).1 in
    record {
      id = sym (eqb-true (bit_and h 0x0F) ext.id ((and_parts (eqb (bit_and h 0x0F) ext.id) (same_bool (has_flag h 0x10) m) one).0));
      mandatory = sym (same_bool-true (has_flag h 0x10) m ((and_parts (eqb (bit_and h 0x0F) ext.id) (same_bool (has_flag h 0x10) m) one).1));
      form = sym (eqb-true (bit_and h 0x60) (encoding_of f) ((and_parts (eqb (bit_and h 0x60) (encoding_of f)) (same_bool (has_flag h 0x80) more) two).0));
      goes_on = sym (same_bool-true (has_flag h 0x80) more ((and_parts (eqb (bit_and h 0x60) (encoding_of f)) (same_bool (has_flag h 0x80) more) two).1));
    }

-- ---- the chain

content_spelled : (x : Content) → ContentFits x → SpellsContent x (writes_content x)
content_spelled content.Unit fits = refl
content_spelled (content.Number n) fits = written_spells 8 n
content_spelled (content.Bytes b) fits = (fits, (writes (length b), written_spells 8 (length b), refl))

ext_spelled : (ext : Ext) (more : Bool) → Fits ext → SpellsExt ext more (writes_ext ext more)
ext_spelled ext more fits = (header_says ext more fits.0, content_spelled ext.content fits.1)

pub chain_spelled : (exts : List Ext) → 0 < length exts → AllByRecursion Fits exts → SpellsAll exts (writes_chain exts)
chain_spelled [] some fit = absurd (omega arith)
chain_spelled (ext ∷ []) some fit = ext_spelled ext false fit.0
chain_spelled (ext ∷ next ∷ exts) some fit = (writes_ext ext true, writes_chain (next ∷ exts), refl, ext_spelled ext true fit.0, chain_spelled (next ∷ exts) (omega arith) fit.1)

-- where all are known, all are admitted and all are looked at
known_admitted : (known : List (ℕ × Form)) (exts : List Ext) → list_all (λ ext. knows known ext) exts ≡ true → are_admitted known exts ≡ true
known_admitted known [] all = refl
known_admitted known (ext ∷ exts) all = by_tests ext.mandatory (knows known ext) ((and_parts (knows known ext) (list_all (λ x. knows known x) exts) all).0) (known_admitted known exts ((and_parts (knows known ext) (list_all (λ x. knows known x) exts) all).1))
  where
    by_tests : (m k : Bool) → k ≡ true → are_admitted known exts ≡ true → ((not m || k) && are_admitted known exts) ≡ true
    by_tests true true e h = h
    by_tests true false e h = absurd cc
    by_tests false k e h = h

filter_known : (known : List (ℕ × Form)) (exts : List Ext) → list_all (λ ext. knows known ext) exts ≡ true → filter (λ ext. knows known ext) exts ≡ exts
filter_known known [] all = refl
filter_known known (ext ∷ exts) all = by_test (knows known ext) ((and_parts (knows known ext) (list_all (λ x. knows known x) exts) all).0) (filter_known known exts ((and_parts (knows known ext) (list_all (λ x. knows known x) exts) all).1))
  where
    by_test : (k : Bool) → k ≡ true → filter (λ x. knows known x) exts ≡ exts → cond k (ext ∷ filter (λ x. knows known x) exts) (filter (λ x. knows known x) exts) ≡ ext ∷ exts
    by_test true e h = ap (λ (xs : List Ext). ext ∷ xs) h
    by_test false e h = absurd cc

pub chain_again : (known : List (ℕ × Form)) (exts : List Ext) → 0 < length exts → AllByRecursion Fits exts → list_all (λ ext. knows known ext) exts ≡ true → lasts exts ≡ exts
    → SpellsChain known exts (writes_chain exts)
chain_again known exts some fit all alone =
    (exts, chain_spelled exts some fit, known_admitted known exts all, sym (ap lasts (filter_known known exts all) ∙ alone))
