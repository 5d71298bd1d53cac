-- A fact of what was given follows from another.
use Rattle.std.proofs.Common.{◌≡◌, Option, Some, Result, Ok, Err, subst}
use Rattle.std.specs.Prelude.{IfOk, IfSome}

pub if_ok : {A E : Type 0} (r : Result A E) (P Q : A → Type 0) → ((x : A) → P x → Q x) → IfOk r P → IfOk r Q
if_ok (Ok x) P Q f h = f x h
if_ok (Err e) P Q f h = tt

pub of_some : {A : Type 0} (r : Option A) (x : A) (P : A → Type 0) → Some x ≡ r → P x → IfSome r P
of_some r x P is h = subst (λ z. IfSome z P) is h
