-- One more line that was put behind a text.
use Rattle.std.proofs.Common.{◌≡◌, ℕ, ◌-◌, List, [], ◌∷◌, ◌++◌, length, Result, Ok, Err, ap, ◌∙◌, arith, length-append}
use Rattle.std.specs.Prelude.{IsOk, OnOk}
use Rattle.std.specs.List.{sum}
use Rattle.zr_world_lines.specs.Lines.{cut}
use Rattle.zr_world_lines.proofs.Cuts.{one_more}

added : (ns ns' text put text' line : List ℕ) (start : ℕ) → start ≡ length text → sum ns ≡ length text → put ≡ text ++ line → text' ≡ put → ns' ≡ ns ++ (length put - start) ∷ [] →
    cut ns' text' ≡ cut ns text ++ line ∷ []
added ns ns' text put text' line start begins h was same more =
    let long = ap length was ∙ length-append text line in
    let size : length put - start ≡ length line = omega (arith, long, begins) in
    (λ i. cut ((more ∙ ap (λ n. ns ++ n ∷ []) size) i) ((same ∙ was) i)) ∙ one_more ns text line h

pub line_added : {E : Type 0} (put r : Result Unit E) (ns ns' text mid text' line : List ℕ) (start : ℕ) → start ≡ length text → sum ns ≡ length text → OnOk put (mid ≡ text ++ line) →
    OnOk r (IsOk put) → OnOk r (text' ≡ mid) → OnOk r (ns' ≡ ns ++ (length mid - start) ∷ []) → OnOk r (cut ns' text' ≡ cut ns text ++ line ∷ [])
line_added put (Err e) ns ns' text mid text' line start begins h was good same more = tt
line_added (Ok v) (Ok u) ns ns' text mid text' line start begins h was good same more = added ns ns' text mid text' line start begins h was same more
line_added (Err e) (Ok u) ns ns' text mid text' line start begins h was good same more = absurd (cc)
