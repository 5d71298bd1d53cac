-- Steps that may be refused: what a step gave, and why it gave nothing.
use Rattle.std.proofs.Common.{◌≡◌, ℕ, List, Result, Ok, Err, Bool, true, false, cond, refl, inl, inr, ◌⊎◌}
use Rattle.zr_bytes.specs.declared.read_error.ReadError.{ReadError}
use Rattle.zr_bytes.specs.Reading.{Read, ◌>>=◌}

abbrev fine : {A : Type 0} → A → Result A ReadError
fine x = Ok x

-- a reading that gives this, with these bytes left
abbrev pub done : {X : Type 0} → X → List ℕ → Read X
done x rest = Ok (x, rest)

pub ok_is : {A : Type 0} (x y : A) → fine x ≡ fine y → x ≡ y
ok_is x y e = cc

-- the value of a step that was not refused
pub bind_ok : {A B : Type 0} (r : Result A ReadError) (f : A → Result B ReadError) (y : B) → (r >>= f) ≡ Ok y → (x : A) × (r ≡ Ok x) × (f x ≡ Ok y)
bind_ok (Ok x) f y e = (x, refl, e)
bind_ok (Err d) f y e = absurd cc

-- a refusal is that of the first step or that of the next one
pub bind_err : {A B : Type 0} (r : Result A ReadError) (f : A → Result B ReadError) (d : ReadError) → (r >>= f) ≡ Err d → (r ≡ Err d) ⊎ ((x : A) × (r ≡ Ok x) × (f x ≡ Err d))
bind_err (Ok x) f d e = inr (x, refl, e)
bind_err (Err c) f d e = inl cc

-- which way a choice went
pub chosen : {A : Type 0} (b : Bool) (x y z : A) → cond b x y ≡ z → ((b ≡ true) × (x ≡ z)) ⊎ ((b ≡ false) × (y ≡ z))
chosen true x y z e = inl (refl, e)
chosen false x y z e = inr (refl, e)

-- a reading has one answer
pub not_both : {A : Type 0} (r : Result A ReadError) (x : A) (d : ReadError) → r ≡ Ok x → r ≡ Err d → ⊥
not_both r x d p q = cc

-- a reading has an answer
pub answered : {A : Type 0} (r : Result A ReadError) → ((x : A) × (r ≡ Ok x)) ⊎ ((d : ReadError) × (r ≡ Err d))
answered (Ok x) = inl (x, refl)
answered (Err d) = inr (d, refl)

-- a test that refuses, and did not
pub guard_ok : {A : Type 0} (b : Bool) (d : ReadError) (r : Result A ReadError) (y : A) → cond b (Err d) r ≡ Ok y → (b ≡ false) × (r ≡ Ok y)
guard_ok true d r y e = absurd cc
guard_ok false d r y e = (refl, e)

-- a refusal is that of the test or comes after it
pub guard_err : {A : Type 0} (b : Bool) (d : ReadError) (r : Result A ReadError) (e : ReadError) → cond b (Err d) r ≡ Err e → ((b ≡ true) × (e ≡ d)) ⊎ ((b ≡ false) × (r ≡ Err e))
guard_err true d r e h = inl (refl, cc)
guard_err false d r e h = inr (refl, h)
