-- How many bytes wait to be written in one.
use Rattle.std.proofs.Common.{◌≡◌, ℕ, ◌+◌, ◌-◌, ◌≤◌, List, ◌++◌, length, length-append, take, drop, ap, ◌∙◌, arith, length-drop, take_all}
use lib.Seq.{paste}
use Rattle.std.specs.List.{copy_within}
use Rattle.std.proofs.lemmas.List.Edits.{take-paste}
use Rattle.zr_frame_batch.specs.Framing.{framed}

-- a parcel was joined for which there was room
pub waits_joined : (most : ℕ) (waiting head body all : List ℕ) → all ≡ waiting ++ framed (head ++ body) → length waiting + (length head + length body + 2) ≤ most → length all ≤ most
waits_joined most waiting head body all is room =
    let l = length-append waiting (framed (head ++ body)) in let k = length-append head body in let e = ap length is in omega (arith, l, k, e, room)

-- the first n bytes don't wait any more
pub front_left_out : (xs : List ℕ) (n left : ℕ) → n ≤ length xs → left ≡ length xs - n → take left (copy_within xs n (length xs) 0) ≡ drop n xs
front_left_out xs n left le is =
    let rest : length (drop n xs) ≡ left = omega (arith, length-drop n xs) in
    let same : left ≡ 0 + left = omega arith in
    let more : length xs - n ≡ left = omega arith in
    ap (λ k. take left (paste xs 0 (drop n xs) k)) more ∙ ap (λ k. take k (paste xs 0 (drop n xs) left)) same
    ∙ take-paste xs 0 (drop n xs) left (omega arith) (omega arith) ∙ take_all left (drop n xs) (omega arith)
