-- What a format that is put together spells, part by part: for the proofs that what is written spells its value.
use Rattle.std.proofs.Common.{◌≡◌, List, [], ◌++◌, ℕ, Result, Ok, Err, Bool, true, false, refl, sym, subst, ap, ◌∙◌}
use Rattle.std.proofs.lemmas.List.{append-nil}
use Rattle.zr_bytes.specs.declared.read_error.ReadError.{ReadError}
use Rattle.zr_format_spec.specs.Format.{Format, gives, fails, choose, ◌allows◌, checked}

pub checked_spelled : {X : Type 0} (p : Format X) (test : X → Bool) (cause : ReadError) (x : X) (bytes : List ℕ) → p.spelled x bytes → test x ≡ true → (checked p test cause).spelled x bytes
checked_spelled p test cause x bytes s passes =
    (x, bytes, [], sym (append-nil bytes), s, subst (λ (b : Bool). (choose b (gives x) (fails cause)).spelled x []) (sym passes) (refl, refl))

chosen_given : {X : Type 0} (b : Bool) (cause : ReadError) (x y : X) (bytes : List ℕ) → (choose b (gives x) (fails cause)).spelled y bytes → (b ≡ true) × (y ≡ x) × (bytes ≡ [])
chosen_given true cause x y bytes s = (refl, s.0, s.1)
chosen_given false cause x y bytes s = absurd s

pub spelled_checked : {X : Type 0} (p : Format X) (test : X → Bool) (cause : ReadError) (y : X) (bytes : List ℕ) → (checked p test cause).spelled y bytes → p.spelled y bytes × (test y ≡ true)
spelled_checked {X} p test cause y bytes s =
    let end = chosen_given (test s.0) cause s.0 y s.2 s.5 in
    let whole : s.1 ≡ bytes = sym (append-nil s.1) ∙ ap (λ (xs : List ℕ). s.1 ++ xs) (sym end.2) ∙ sym s.3 in
    (subst (λ (z : X). p.spelled z bytes) (sym end.1) (subst (λ (xs : List ℕ). p.spelled s.0 xs) whole s.4), ap test end.1 ∙ end.0)

-- what is judged and allowed
pub allows_spelled : {X Y : Type 0} (r : Result X ReadError) (f : X → Format Y) (x : X) (y : Y) (bytes : List ℕ) → r ≡ Ok x → (f x).spelled y bytes → (r allows f).spelled y bytes
allows_spelled r f x y bytes e s = subst (λ r. (r allows f).spelled y bytes) (sym e) s

pub spelled_allows : {X Y : Type 0} (r : Result X ReadError) (f : X → Format Y) (y : Y) (bytes : List ℕ) → (r allows f).spelled y bytes → (x : X) × (r ≡ Ok x) × (f x).spelled y bytes
spelled_allows (Ok x) f y bytes s = (x, refl, s)
spelled_allows (Err e) f y bytes s = absurd s

-- what holds of the values of both formats holds of those of the one that is chosen
pub chosen_holds : {X : Type 0} (P : X → Type 0) (b : Bool) (p q : Format X) → ((x : X) (bytes : List ℕ) → p.spelled x bytes → P x) → ((x : X) (bytes : List ℕ) → q.spelled x bytes → P x)
    → (x : X) (bytes : List ℕ) → (choose b p q).spelled x bytes → P x
chosen_holds P true p q f g = f
chosen_holds P false p q f g = g
