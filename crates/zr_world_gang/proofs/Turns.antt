-- Shares that have done their turns, one after another.
use Rattle.std.proofs.Common.{◌≡◌, ℕ, zero, suc, ◌<◌, ◌≤◌, List, [], ◌∷◌, take, drop, length, set, get_or, refl, subst, arith}
use Rattle.zr_world_gang.specs.declared.share.Turn.{Turn}
use Rattle.zr_world_gang.specs.Shares.{ShareState}
use Rattle.zr_world_gang.specs.Turns.{HasDone, AllHaveDone}

-- the first so many have done their turns, and the others are as they were
abbrev pub DoneSoFar : Turn → ℕ → List ShareState → List ShareState → Type 0
DoneSoFar turn i old now = AllHaveDone turn (take i old) (take i now) × (drop i now ≡ drop i old)

pub done_start : (turn : Turn) (old : List ShareState) → DoneSoFar turn 0 old old
done_start turn [] = (tt, refl)
done_start turn (o ∷ os) = (tt, refl)

pub done_next : (turn : Turn) (i : ℕ) (old now : List ShareState) (d t : ShareState) → i < length old → DoneSoFar turn i old now → HasDone turn (get_or now i d) t → DoneSoFar turn (suc i) old (set now i t)
done_next turn i [] now d t lt h done = absurd (omega (arith, lt))
done_next turn zero (o ∷ os) [] d t lt h done = let bad : ⊥ = let e = h.1 in cc in absurd bad
done_next turn zero (o ∷ os) (n ∷ ns) d t lt h done =
    let e = h.1 in
    let one : n ≡ o = cc in
    let rest : ns ≡ os = cc in
    ((subst (λ z. HasDone turn z t) one done, tt), rest)
done_next turn (suc i) (o ∷ os) [] d t lt h done = absurd (h.0)
done_next turn (suc i) (o ∷ os) (n ∷ ns) d t lt h done =
    let more = done_next turn i os ns d t (omega (arith, lt)) (h.0.1, h.1) done in
    ((h.0.0, more.0), more.1)

pub done_all : (turn : Turn) (i : ℕ) (old now : List ShareState) → length old ≤ i → length now ≤ i → DoneSoFar turn i old now → AllHaveDone turn old now
done_all turn i [] [] lo ln h = tt
done_all turn zero [] (n ∷ ns) lo ln h = absurd (omega (arith, ln))
done_all turn (suc i) [] (n ∷ ns) lo ln h = absurd (h.0)
done_all turn zero (o ∷ os) now lo ln h = absurd (omega (arith, lo))
done_all turn (suc i) (o ∷ os) [] lo ln h = absurd (h.0)
done_all turn (suc i) (o ∷ os) (n ∷ ns) lo ln h = (h.0.0, done_all turn i os ns (omega (arith, lo)) (omega (arith, ln)) (h.0.1, h.1))
