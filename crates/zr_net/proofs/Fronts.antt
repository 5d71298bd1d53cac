-- Appending in steps: what was appended so far, and what is kept of it where a later step fails.
use Rattle.std.proofs.Common.{◌≡◌, ℕ, List, ◌++◌, length, take, Result, subst, sym, ◌∙◌, append_assoc}
use Rattle.std.specs.Result.{OnOk, OnErr}
use Rattle.std.proofs.Math.Seq.{take-append_seam}
use Rattle.std.proofs.lemmas.Result.{on_ok_weaker, on_err_weaker}
use Rattle.zr_bytes.specs.Writing.{KeepsFront}

-- two steps append one behind the other
pub appends_both : (old one two mid now : List ℕ) → mid ≡ old ++ one → now ≡ mid ++ two → now ≡ old ++ (one ++ two)
appends_both old one two mid now e f = f ∙ (subst (λ (l : List ℕ). l ++ two ≡ old ++ (one ++ two)) (sym e) (append_assoc old one two))

-- the last step appends to what the steps before it have appended
pub appends_more : {T E : Type 0} (r : Result T E) (old more last mid now : List ℕ) → mid ≡ old ++ more → OnOk r (now ≡ mid ++ last) → OnOk r (now ≡ old ++ (more ++ last))
appends_more r old more last mid now e h =
    on_ok_weaker r (λ (k : now ≡ mid ++ last). k ∙ (subst (λ (l : List ℕ). l ++ last ≡ old ++ (more ++ last)) (sym e) (append_assoc old more last))) h

pub keeps_same : {T E : Type 0} (r : Result T E) (old more mid now : List ℕ) → mid ≡ old ++ more → OnErr r (now ≡ mid) → OnErr r (KeepsFront old now)
keeps_same r old more mid now e h =
    on_err_weaker r (λ (k : now ≡ mid). subst (λ (l : List ℕ). take (length old) l ≡ old) (sym (k ∙ e)) (take-append_seam old more)) h
