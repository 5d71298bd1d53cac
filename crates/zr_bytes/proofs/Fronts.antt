-- Appending in steps: what is kept of what stood before where a later step fails.
use Rattle.std.proofs.Common.{◌≡◌, ℕ, List, ◌++◌, length, take, drop, Result, subst, sym, ◌∙◌, append_assoc}
use Rattle.std.specs.Result.{OnErr}
use Rattle.std.proofs.Math.Seq.{take-append_seam}
use Rattle.std.proofs.lemmas.List.{take-append-drop}
use Rattle.std.proofs.lemmas.Result.{on_err_weaker}
use Rattle.zr_bytes.specs.Writing.{KeepsFront}

pub front_kept : (old more mid now : List ℕ) → mid ≡ old ++ more → KeepsFront mid now → KeepsFront old now
front_kept old more mid now e h =
    let rest : List ℕ = drop (length mid) now in
    let whole : mid ++ rest ≡ now = subst (λ (l : List ℕ). l ++ rest ≡ now) h (take-append-drop (length mid) now) in
    let split : old ++ (more ++ rest) ≡ now = sym (append_assoc old more rest) ∙ subst (λ (l : List ℕ). l ++ rest ≡ now) e whole in
    subst (λ (l : List ℕ). take (length old) l ≡ old) split (take-append_seam old (more ++ rest))

-- where the last step fails, what stood in front of the step before it is kept
pub keeps_more : {T E : Type 0} (r : Result T E) (old more mid now : List ℕ) → mid ≡ old ++ more → OnErr r (KeepsFront mid now) → OnErr r (KeepsFront old now)
keeps_more r old more mid now e h = on_err_weaker r (front_kept old more mid now e) h
