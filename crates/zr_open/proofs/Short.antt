-- The messages with which an opening begins and ends are short.
use Rattle.std.proofs.Common.{◌≡◌, ap, ℕ, ◌<◌, ◌≤◌, ◌^◌, true, false, List, [], ◌++◌, length, length-append, append-nil, None, Some, arith}
use Rattle.zr_frame.proofs.Heads.{length-writes}
use Rattle.zr_bytes.specs.Number.{writes}
use Rattle.zr_trans.specs.Writing.{writes_trans, writes_speaks}
use Rattle.zr_trans.specs.declared.trans.Trans.TheVariants.{Init, Open}

pub opening_answer_short : (lease number : ℕ) → length (writes_trans (Open true true lease number None)) < 2 ^ 16
opening_answer_short lease number =
    let a = length-writes lease in
    let b = length-writes number in
    let all = length-append (writes lease) (writes number ++ []) in
    let none : length (writes number ++ []) ≡ length (writes number) = ap length (append-nil (writes number)) in
    omega (arith, a, b, all, none)

pub greeting_short : (id : List ℕ) → length id ≤ 16 → length (writes_trans (Init false 9 0 id None None (Some 2))) < 2 ^ 16
greeting_short id h =
    let a = length-writes 2 in
    let all = length-append id (writes_speaks (Some 2)) in
    omega (arith, a, all, h)
