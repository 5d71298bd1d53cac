-- The last text is forgotten.
use Rattle.std.proofs.Common.{◌≡◌, ℕ, suc, ◌+◌, ◌-◌, Bool, true, false, cond, List, [], ◌∷◌, ◌++◌, length, length-append, Some, None, refl, sym, ap, subst, ◌∙◌, arith}
use Rattle.std.specs.List.{sum_by, IsDistinct}
use Rattle.std.specs.Map.{remove_entry}
use Rattle.std.specs.Option.{option_or}
use Rattle.std.specs.Ordering.{nat_cmp, is_eq}
use Rattle.std.specs.Cmp.Lexicographic.{slice_cmp}
use Rattle.std.proofs.lemmas.Cmp.{nat_list_eq_equiv}
use Rattle.std.proofs.lemmas.List.Sums.{sum_by-append}
use Rattle.std.proofs.lemmas.Map.Keys.{IsDistinct-head, IsDistinct-tail, IsDistinct-cons}
use Rattle.zr_wirekey.specs.Names.{NameList, is_text, number_from, number_of}
use Rattle.zr_wirekey.specs.Numbering.{IsNumbering}
use Rattle.zr_wirekey.proofs.Alike.{text_is}
use Rattle.zr_wirekey.proofs.Numbers.{number_after, find_in, find_removed}
use Rattle.zr_wirekey.proofs.Giving.{none_twice}
use Rattle.zr_lists.proofs.Options.{option_or-none}
use Rattle.zr_lists.proofs.Each.{All-front, All-back}

last_once : (first : ℕ) (names : NameList) (t : List ℕ) → IsDistinct is_text (names ++ t ∷ []) → (number_from first names t ≡ None) × IsDistinct is_text names
last_once first [] t d = (refl, none_twice)
last_once first (x ∷ names) t d =
    let apart = IsDistinct-head is_text x (names ++ t ∷ []) d in
    let rest = last_once (suc first) names t (IsDistinct-tail is_text x (names ++ t ∷ []) d) in
    let other : is_text t x ≡ false = nat_list_eq_equiv.symm t x ∙ (All-back (λ y. is_text x y ≡ false) names (t ∷ []) apart).0 in
    (ap (λ b. cond b (Some first) (number_from (suc first) names t)) other ∙ rest.0, IsDistinct-cons is_text x names (All-front (λ y. is_text x y ≡ false) names (t ∷ []) apart) rest.1)

module _ {K : Type 0} (items : K → List ℕ) where
  pub forgotten : (names all : NameList) (es : List (K × ℕ)) (bytes : ℕ) (t : List ℕ) → IsNumbering all (λ x. find_in items es x) bytes → all ≡ names ++ t ∷ []
      → find_in items (remove_entry (λ k. is_eq (slice_cmp nat_cmp t (items k))) es) t ≡ None
      → IsNumbering names (λ x. find_in items (remove_entry (λ k. is_eq (slice_cmp nat_cmp t (items k))) es) x) (bytes - length t)
  forgotten names all es bytes t is same gone =
      let once = last_once 1 names t (subst (IsDistinct is_text) same is.once) in
      let sum = ap (λ (z : NameList). sum_by (λ x. length x) z) same in
      let count = ap (λ (z : NameList). length z) same in
      record {
        found = λ x. by x (is_text x t) refl once.0;
        once = once.1;
        count = omega (arith, is.count, sum, sum_by-append (λ x. length x) names (t ∷ []));
        few = omega (arith, is.few, count, length-append names (t ∷ []));
        short = omega (arith, is.short);
      }
    where
      by : (x : List ℕ) (b : Bool) → is_text x t ≡ b → number_of names t ≡ None → find_in items (remove_entry (λ k. is_eq (slice_cmp nat_cmp t (items k))) es) x ≡ number_of names x
      by x true i none =
          let e : x ≡ t = text_is x t i in
          ap (find_in items (remove_entry (λ k. is_eq (slice_cmp nat_cmp t (items k))) es)) e ∙ gone ∙ sym none ∙ ap (number_of names) (sym e)
      by x false i none =
          find_removed items es t x i ∙ is.found x ∙ ap (λ (z : NameList). number_of z x) same ∙ number_after 1 names t x
          ∙ ap (λ b. option_or (number_of names x) (cond b (Some (1 + length names)) None)) i ∙ option_or-none (number_of names x)
