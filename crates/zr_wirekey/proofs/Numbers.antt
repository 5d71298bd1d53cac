-- The numbers of texts as one more gets the next number, and as the last one is forgotten.
use Rattle.std.proofs.Common.{◌≡◌, ℕ, suc, ◌+◌, Bool, true, false, cond, List, [], ◌∷◌, ◌++◌, length, Option, Some, None, Ordering, Less, Equal, Greater, refl, sym, ap, ◌∙◌, arith}
use Rattle.std.specs.Map.{lookup, remove_entry}
use Rattle.std.specs.Option.{option_or}
use Rattle.std.specs.Ordering.{nat_cmp, is_eq, match_ordering}
use Rattle.std.specs.BTreeMap.{insert_entry}
use Rattle.std.specs.Cmp.Lexicographic.{slice_cmp}
use Rattle.std.proofs.lemmas.Bool.{true≢false}
use Rattle.zr_wirekey.specs.Names.{NameList, is_text, number_from}
use Rattle.zr_wirekey.proofs.Alike.{text_is, is_itself, ordered_so}

-- the number of a text with one more text behind
pub number_after : (first : ℕ) (names : NameList) (t text : List ℕ) →
    number_from first (names ++ t ∷ []) text ≡ option_or (number_from first names text) (cond (is_text text t) (Some (first + length names)) None)
number_after first [] t text = let none : first ≡ first + 0 = omega arith in ap (λ n. cond (is_text text t) (Some n) None) none
number_after first (x ∷ names) t text = by (is_text text x) (number_after (suc first) names t text)
  where
    same : suc first + length names ≡ first + suc (length names)
    same = omega arith

    by : (b : Bool) → number_from (suc first) (names ++ t ∷ []) text ≡ option_or (number_from (suc first) names text) (cond (is_text text t) (Some (suc first + length names)) None) →
        cond b (Some first) (number_from (suc first) (names ++ t ∷ []) text)
        ≡ option_or (cond b (Some first) (number_from (suc first) names text)) (cond (is_text text t) (Some (first + suc (length names))) None)
    by true ih = refl
    by false ih = ih ∙ ap (λ n. option_or (number_from (suc first) names text) (cond (is_text text t) (Some n) None)) same

module _ {K : Type 0} (items : K → List ℕ) where
  abbrev pub find_in : List (K × ℕ) → List ℕ → Option ℕ
  find_in es text = lookup (λ k. is_text text (items k)) es

  abbrev pub order : K → K → Ordering
  order a b = slice_cmp nat_cmp (items a) (items b)

  -- what an entry more makes of each look-up
  pub find_inserted : (es : List (K × ℕ)) (k : K) (v : ℕ) (text : List ℕ) → find_in (insert_entry order es k v) text ≡ cond (is_text text (items k)) (Some v) (find_in es text)
  find_inserted [] k v text = refl
  find_inserted (e ∷ es) k v text = by (order k e.0) refl (find_inserted es k v text)
    where
      one_text : (b : Bool) → cond b (Some v) (find_in es text) ≡ cond b (Some v) (cond b (Some e.1) (find_in es text))
      one_text true = refl
      one_text false = refl

      two_texts : (b c : Bool) → is_text text (items e.0) ≡ b → is_text text (items k) ≡ c → order k e.0 ≡ Greater →
          find_in (insert_entry order es k v) text ≡ cond (is_text text (items k)) (Some v) (find_in es text) →
          cond b (Some e.1) (find_in (insert_entry order es k v) text) ≡ cond c (Some v) (cond b (Some e.1) (find_in es text))
      two_texts true true i j g ih =
          let one : is_text (items k) (items e.0) ≡ true = is_itself (items k) (items e.0) (sym (text_is text (items k) j) ∙ text_is text (items e.0) i) in
          absurd (true≢false (sym one ∙ sym (ordered_so (items k) (items e.0)) ∙ ap is_eq g))
      two_texts true false i j g ih = refl
      two_texts false c i j g ih = ih ∙ ap (λ b. cond b (Some v) (find_in es text)) j

      by : (o : Ordering) → order k e.0 ≡ o → find_in (insert_entry order es k v) text ≡ cond (is_text text (items k)) (Some v) (find_in es text) →
          find_in (match_ordering o ((k, v) ∷ e ∷ es) ((e.0, v) ∷ es) (e ∷ insert_entry order es k v)) text ≡ cond (is_text text (items k)) (Some v) (find_in (e ∷ es) text)
      by Less h ih = refl
      by Equal h ih =
          let one : items k ≡ items e.0 = text_is (items k) (items e.0) (sym (ordered_so (items k) (items e.0)) ∙ ap is_eq h) in
          one_text (is_text text (items e.0)) ∙ ap (λ z. cond (is_text text z) (Some v) (find_in (e ∷ es) text)) (sym one)
      by Greater h ih = two_texts (is_text text (items e.0)) (is_text text (items k)) refl refl h ih

  -- and what one fewer makes of those of other texts
  pub find_removed : (es : List (K × ℕ)) (t text : List ℕ) → is_text text t ≡ false → find_in (remove_entry (λ k. is_eq (slice_cmp nat_cmp t (items k))) es) text ≡ find_in es text
  find_removed [] t text apart = refl
  find_removed (e ∷ es) t text apart = by (is_eq (slice_cmp nat_cmp t (items e.0))) (is_text text (items e.0)) refl refl (find_removed es t text apart)
    where
      rest : List (K × ℕ)
      rest = remove_entry (λ k. is_eq (slice_cmp nat_cmp t (items k))) es

      by : (b c : Bool) → is_eq (slice_cmp nat_cmp t (items e.0)) ≡ b → is_text text (items e.0) ≡ c → find_in rest text ≡ find_in es text →
          find_in (cond b es (e ∷ rest)) text ≡ cond c (Some e.1) (find_in es text)
      by true true i j ih =
          let one : t ≡ items e.0 = text_is t (items e.0) (sym (ordered_so t (items e.0)) ∙ i) in
          absurd (true≢false (sym (is_itself text t (text_is text (items e.0) j ∙ sym one)) ∙ apart))
      by true false i j ih = refl
      by false c i j ih = ap (λ b. cond b (Some e.1) (find_in rest text)) j ∙ ap (λ z. cond c (Some e.1) z) ih

  -- a look-up by the order is one by the texts
  pub find_ordered : (es : List (K × ℕ)) (text : List ℕ) → lookup (λ k. is_eq (slice_cmp nat_cmp text (items k))) es ≡ find_in es text
  find_ordered [] text = refl
  find_ordered (e ∷ es) text =
      ap (λ b. cond b (Some e.1) (lookup (λ k. is_eq (slice_cmp nat_cmp text (items k))) es)) (ordered_so text (items e.0))
      ∙ ap (λ z. cond (is_text text (items e.0)) (Some e.1) z) (find_ordered es text)
