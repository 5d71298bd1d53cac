-- Tests of two parts.
use Rattle.std.proofs.Common.{◌≡◌, Bool, true, false, ◌||◌, not, refl, sym, if◌then◌else◌}
use Rattle.std.proofs.lemmas.Bool.{false≢true, true≢false}

-- two tests that hold together are one
pub same_test : (a b : Bool) → (a ≡ true → b ≡ true) → (b ≡ true → a ≡ true) → a ≡ b
same_test true b f g = sym (f refl)
same_test false true f g = g refl
same_test false false f g = refl

pub or_swap : (a b c : Bool) → (a || (b || c)) ≡ (b || (a || c))
or_swap true true c = refl
or_swap true false c = refl
or_swap false b c = refl

-- a test holds where the one that it is asked for does
pub where_so : (a b : Bool) → (a ≡ true → b ≡ true) → (not a || b) ≡ true
where_so true b h = h refl
where_so false b h = refl

pub so_there : (a b : Bool) → (not a || b) ≡ true → a ≡ true → b ≡ true
so_there true b h e = h
so_there false b h e = absurd (false≢true e)

-- a choice, where its test is known
pub then_of : {X : Type 0} (b : Bool) (x y : X) → b ≡ true → (if b then x else y) ≡ x
then_of true x y is = refl
then_of false x y is = absurd (true≢false (sym is))

pub else_of : {X : Type 0} (b : Bool) (x y : X) → b ≡ false → (if b then x else y) ≡ y
else_of true x y is = absurd (true≢false is)
else_of false x y is = refl
