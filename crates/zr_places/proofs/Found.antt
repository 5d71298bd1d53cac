-- Where the value of an entry that is found stands among the values.
use Rattle.std.proofs.Common.{◌≡◌, ℕ, suc, ◌<◌, Bool, true, false, cond, List, [], ◌∷◌, length, get_or, slice_set, Some, refl, ap, ◌∙◌, arith}
use Rattle.std.specs.List.{remove}
use Rattle.std.specs.Map.{lookup, remove_entry, set_value, values_of}
use Rattle.std.specs.Option.{unwrap_or}

-- the value stands at this place of the list, goes there with its entry, and is changed there
pub record StandsAt {X : Type 0} (test : ℕ → Bool) (es : List (ℕ × X)) (x : X) : Type 0 where
  pub at : ℕ
  pub within : at < length (values_of es)
  pub here : (d : X) → get_or (values_of es) at d ≡ x
  pub gone : values_of (remove_entry test es) ≡ remove (values_of es) at
  pub changed : (w : X) → values_of (set_value test es w) ≡ slice_set (values_of es) at w

pub stands : {X : Type 0} (test : ℕ → Bool) (es : List (ℕ × X)) (x : X) → lookup test es ≡ Some x → StandsAt test es x
stands test [] x h = cc
stands test (e ∷ es) x h = by (test e.0) refl h (stands test es x)
  where
    by : (b : Bool) → test e.0 ≡ b → cond b (Some e.1) (lookup test es) ≡ Some x → (lookup test es ≡ Some x → StandsAt test es x) → StandsAt test (e ∷ es) x
    by true t k ih = record {
      at = 0;
      within = omega arith;
      here = λ d. ap (λ o. unwrap_or o x) k;
      gone = ap (λ b. values_of (cond b es (e ∷ remove_entry test es))) t;
      changed = λ w. ap (λ b. values_of (cond b ((e.0, w) ∷ es) (e ∷ set_value test es w))) t;
    }
    by false t k ih =
        let s = ih k in
        record {
          at = suc s.at;
          within = omega (arith, s.within);
          here = s.here;
          gone = ap (λ b. values_of (cond b es (e ∷ remove_entry test es))) t ∙ ap (λ vs. e.1 ∷ vs) s.gone;
          changed = λ w. ap (λ b. values_of (cond b ((e.0, w) ∷ es) (e ∷ set_value test es w))) t ∙ ap (λ vs. e.1 ∷ vs) (s.changed w);
        }
