-- A text gets the next number.
use Rattle.std.proofs.Common.{◌≡◌, ℕ, suc, ◌+◌, ◌<◌, ◌≤◌, ◌||◌, Bool, true, false, cond, List, [], ◌∷◌, ◌++◌, length, length-append, Some, None, refl, sym, ap, subst, ◌∙◌, arith}
use Rattle.std.specs.Prelude.{nat_lt, nat_le}
use Rattle.std.specs.List.{sum_by, list_any, IsDistinct}
use Rattle.std.specs.Option.{option_or}
use Rattle.std.specs.BTreeMap.{insert_entry}
use Rattle.std.proofs.lemmas.Bool.{and_parts, ltb-true, leb-true}
use Rattle.std.proofs.lemmas.Cmp.{nat_list_eq_equiv}
use Rattle.std.proofs.lemmas.List.Sums.{sum_by-append}
use Rattle.std.proofs.lemmas.Map.Keys.{IsDistinct-push}
use Rattle.zr_wirekey.specs.Names.{NameList, is_text, number_from, number_of, has_room}
use Rattle.zr_wirekey.specs.Numbering.{IsNumbering}
use Rattle.zr_wirekey.proofs.Alike.{text_is}
use Rattle.zr_wirekey.proofs.Numbers.{number_after, find_in, order, find_inserted}
use Rattle.zr_lists.proofs.Options.{option_or-none}

pub none_twice : IsDistinct is_text []
unfolding IsDistinct
none_twice = tt

none_alike : (first : ℕ) (names : NameList) (text : List ℕ) → number_from first names text ≡ None → list_any (λ t. is_text text t) names ≡ false
none_alike first [] text e = refl
none_alike first (x ∷ names) text e = by (is_text text x) e (none_alike (suc first) names text)
  where
    by : (b : Bool) → cond b (Some first) (number_from (suc first) names text) ≡ None → (number_from (suc first) names text ≡ None → list_any (λ t. is_text text t) names ≡ false) →
        (b || list_any (λ t. is_text text t) names) ≡ false
    by true e ih = absurd cc
    by false e ih = ih e

pub none_given : {K : Type 0} (items : K → List ℕ) (names : NameList) (es : List (K × ℕ)) → names ≡ [] → es ≡ [] → IsNumbering names (λ t. find_in items es t) 0
none_given items names es e f =
    subst (λ z. IsNumbering z (λ t. find_in items es t) 0) (sym e) (subst (λ z. IsNumbering [] (λ t. find_in items z t) 0) (sym f) nothing)
  where
    nothing : IsNumbering [] (λ t. find_in items [] t) 0
    nothing = record { found = λ t. refl; once = none_twice; count = refl; few = omega arith; short = omega arith }

-- what room for one text more is
pub room_left : (names : NameList) (text : List ℕ) → has_room names text ≡ true → (length names < 4096) × (sum_by (λ t. length t) names + length text ≤ 1048576)
room_left names text e =
    let parts = and_parts (nat_lt (length names) 4096) (nat_le (sum_by (λ t. length t) names + length text) 1048576) e in
    (ltb-true (length names) 4096 parts.0, leb-true (sum_by (λ t. length t) names + length text) 1048576 parts.1)

module _ {K : Type 0} (items : K → List ℕ) where
  pub given : (names : NameList) (es : List (K × ℕ)) (bytes : ℕ) (k : K) (v : ℕ) (text : List ℕ) → IsNumbering names (λ t. find_in items es t) bytes → number_of names text ≡ None → has_room names text ≡ true → items k ≡ text → v ≡ length names + 1
      → IsNumbering (names ++ text ∷ []) (λ t. find_in items (insert_entry (order items) es k v) t) (bytes + length text)
  given names es bytes k v text is none room same next =
      let left = room_left names text room in
      record {
        found = λ t. find_inserted items es k v t ∙ ap (λ z. cond (is_text t z) (Some v) (find_in items es t)) same
            ∙ ap (λ o. cond (is_text t text) (Some v) o) (is.found t) ∙ by t (is_text t text) refl ∙ sym (number_after 1 names text t);
        once = IsDistinct-push nat_list_eq_equiv names text is.once (none_alike 1 names text none);
        count = omega (arith, is.count, sum_by-append (λ t. length t) names (text ∷ []));
        few = omega (arith, left.0, length-append names (text ∷ []));
        short = omega (arith, left.1, is.count);
      }
    where
      by : (t : List ℕ) (b : Bool) → is_text t text ≡ b → cond b (Some v) (number_of names t) ≡ option_or (number_of names t) (cond b (Some (1 + length names)) None)
      by t true i =
          let e : v ≡ 1 + length names = omega (arith, next) in
          ap (λ n. Some n) e ∙ ap (λ o. option_or o (Some (1 + length names))) (sym (ap (number_of names) (text_is t text i) ∙ none))
      by t false i = sym (option_or-none (number_of names t))

-- the same texts, look-ups and count by other names
pub same_numbering : {K : Type 0} (items : K → List ℕ) (names all : NameList) (es more : List (K × ℕ)) (bytes count : ℕ) → names ≡ all → es ≡ more → bytes ≡ count →
    IsNumbering all (λ t. find_in items more t) count → IsNumbering names (λ t. find_in items es t) bytes
same_numbering items names all es more bytes count e f g h =
    subst (λ z. IsNumbering z (λ t. find_in items es t) bytes) (sym e)
    (subst (λ z. IsNumbering all (λ t. find_in items z t) bytes) (sym f) (subst (λ z. IsNumbering all (λ t. find_in items more t) z) (sym g) h))
