-- What each act keeps, any acts keep: the one induction over acts.
use Rattle.std.proofs.Common.{List, [], ◌∷◌, ◌++◌, Option, Some, None, sym, subst, append_assoc, append-nil}
use Rattle.std.specs.Prelude.{IfSome}
use Rattle.std.specs.List.{AllByRecursion, fold}
use Rattle.zr_world_spec.specs.Acts.{outcome}
use Rattle.zr_world_spec.specs.Moments.{Numbered, Moment, went, onward}
pub use Rattle.zr_world_spec.proofs.Lines.{refused_stays, at_some}

-- P may speak of the acts so far, and C is what each act that follows has to be
pub after_all : (P : List Numbered → Moment → Type 0) (C : Numbered → Type 0) →
    ((done : List Numbered) (now : Moment) → P done now → (x : Numbered) → C x → IfSome (went now (outcome now.world x.0 x.1)) (P (done ++ x ∷ []))) →
    (rest done : List Numbered) (o : Option Moment) → IfSome o (P done) → AllByRecursion C rest → IfSome (fold onward o rest) (P (done ++ rest))
after_all P C step [] done None h k = tt
after_all P C step [] done (Some now) h k = subst (λ (z : List Numbered). P z now) (sym (append-nil done)) h
after_all P C step (x ∷ xs) done o h k =
    subst (λ (z : List Numbered). IfSome (fold onward (onward o x) xs) (P z)) (append_assoc done (x ∷ []) xs)
    (after_all P C step xs (done ++ x ∷ []) (onward o x) (next o h) k.1)
  where
    next : (o : Option Moment) → IfSome o (P done) → IfSome (onward o x) (P (done ++ x ∷ []))
    next None h = tt
    next (Some now) h = step done now h x k.0
