-- What is told of the fault with which a key was refused is told of the key, unless memory ran out.
use Rattle.std.proofs.Common.{◌≡◌, ℕ, List, ◌++◌, Result, Ok, Err, refl, sym, ap, ◌∙◌}
use Rattle.std.specs.Prelude.{OnOk}
use Rattle.zr_key.specs.Key.{Answers}
use Rattle.zr_key.specs.declared.key.KeyError.{KeyError}
use Rattle.zr_key.specs.declared.key.KeyError.TheVariants as k
use Rattle.zr_script_explain.specs.Causes.{fault_cause, key_cause}

pub told_of : {E : Type 0} (fault : KeyError) (said : Result (List ℕ) KeyError) (r : Result (Unit {0}) E) (old new : List ℕ) → Answers (Err fault) said →
    OnOk r (new ≡ old ++ fault_cause fault) → OnOk r ((fault ≡ k.NoMemory) → ⊥) → OnOk r (new ≡ old ++ key_cause said)
told_of fault said (Err e) old new h told memory = tt
told_of k.Empty said (Ok u) old new h told memory = told ∙ ap (λ s. old ++ key_cause s) (sym h)
told_of k.EmptyChunk said (Ok u) old new h told memory = told ∙ ap (λ s. old ++ key_cause s) (sym h)
told_of k.BadChar said (Ok u) old new h told memory = told ∙ ap (λ s. old ++ key_cause s) (sym h)
told_of k.BadStar said (Ok u) old new h told memory = told ∙ ap (λ s. old ++ key_cause s) (sym h)
told_of k.NotUtf8 said (Ok u) old new h told memory = told ∙ ap (λ s. old ++ key_cause s) (sym h)
told_of k.TooLong said (Ok u) old new h told memory = told ∙ ap (λ s. old ++ key_cause s) (sym h)
told_of k.NoMemory said (Ok u) old new h told memory = absurd (memory refl)
