-- Appending in steps: what is kept of what stood before where a later step fails.
use Rattle.std.proofs.Common.{◌≡◌, ℕ, List, ◌++◌, length, drop, Result, Ok, Err, subst, sym}
use Rattle.std.specs.Result.{OnErr}
use Rattle.std.proofs.lemmas.List.{take-append-drop}
use Rattle.zr_bytes.specs.Writing.{KeepsFront}
use Rattle.zr_bytes.proofs.Fronts.{front_kept}

-- what is kept twice is kept
pub kept_twice : (old mid now : List ℕ) → KeepsFront old mid → KeepsFront mid now → KeepsFront old now
kept_twice old mid now once again =
    front_kept old (drop (length old) mid) mid now (sym (subst (λ (l : List ℕ). l ++ drop (length old) mid ≡ mid) once (take-append-drop (length old) mid))) again

-- what holds anyway holds after a failure
pub anyway : {T E P : Type 0} (r : Result T E) → P → OnErr r P
anyway (Ok x) holds = tt
anyway (Err e) holds = holds
