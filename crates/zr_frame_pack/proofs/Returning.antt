-- Returning to a mark.
use Rattle.std.proofs.Common.{◌≡◌, ℕ, ◌+◌, ◌≤◌, length, take, Option, Some, None, option_map, refl, sym, ap, subst, ◌∙◌, arith}
use Rattle.std.specs.Prelude.{is_some}
use Rattle.std.proofs.lemmas.List.{length-append, length-take-le, take_all, take-take, take-append-le}
use Rattle.zr_wirekey.specs.Names.{NameList}
use Rattle.zr_frame.specs.Outbox.{OutboxState, with_names}
use Rattle.zr_frame_pack.specs.Marks.{MarkState, at_mark, known, IsMarkOf, IsLater}
use Rattle.zr_frame_pack.specs.Packing.{names_in}

-- ---- the outbox of the mark

at_count : (first : Option NameList) (names : NameList) (count : ℕ) → count ≡ length names → option_map (λ n. take count n) (names_in first names) ≡ names_in first names
at_count None names count e = refl
at_count (Some first) names count e = ap (λ n. Some n) (take_all count names (omega (arith, e)))

-- it is the one of now
pub marked : (o : OutboxState) (names : NameList) (count : ℕ) → count ≡ length names →
    at_mark (with_names o (names_in o.names names)) (record { outbox = o; count = count }) ≡ with_names o (names_in o.names names)
marked o names count e = ap (λ n. with_names o n) (at_count o.names names count e)

names_alike : (first : Option NameList) (names : NameList) → is_some (names_in first names) ≡ is_some first
names_alike None names = refl
names_alike (Some first) names = refl

kept_in : (first : Option NameList) (names : NameList) (count : ℕ) → count ≡ length names → count ≤ known (names_in first names) count
kept_in None names count e = omega arith
kept_in (Some first) names count e = omega (arith, e)

pub mark_of : (o : OutboxState) (names : NameList) (count : ℕ) → count ≡ length names → IsMarkOf (names_in o.names names) (record { outbox = o; count = count })
mark_of o names count e = record { alike = names_alike o.names names; kept = kept_in o.names names count e }

-- names that are no more than those of the mark
returned_in : (first second : Option NameList) (names : NameList) (count : ℕ) → is_some (names_in first names) ≡ is_some second →
    names_in second (take count names) ≡ option_map (λ n. take count n) (names_in first names)
returned_in None None names count e = refl
returned_in None (Some second) names count e = absurd cc
returned_in (Some first) None names count e = absurd cc
returned_in (Some first) (Some second) names count e = refl

pub returned : (o back : OutboxState) (names : NameList) (count : ℕ) → is_some (names_in o.names names) ≡ is_some back.names →
    with_names back (names_in back.names (take count names)) ≡ at_mark (with_names o (names_in o.names names)) (record { outbox = back; count = count })
returned o back names count e = ap (λ n. with_names back n) (returned_in o.names back.names names count e)

-- ---- names that have come since

names_back : (names later : Option NameList) (count : ℕ) → count ≤ known names count → IsLater names later →
    option_map (λ n. take count n) later ≡ option_map (λ n. take count n) names
names_back None later count few h = ap (λ o. option_map (λ n. take count n) o) h.1
names_back (Some names) later count few h = ap (λ o. option_map (λ n. take count n) o) h.1 ∙ ap (λ n. Some n) (take-append-le count names h.0 few)

-- are forgotten
pub back_from : (o later : OutboxState) (mark : MarkState) → IsMarkOf o.names mark → IsLater o.names later.names → at_mark later mark ≡ at_mark o mark
back_from o later mark is h = ap (λ n. with_names mark.outbox n) (names_back o.names later.names mark.count is.kept h)

take_twice : (names : Option NameList) (count : ℕ) → option_map (λ n. take count n) (option_map (λ n. take count n) names) ≡ option_map (λ n. take count n) names
take_twice None count = refl
take_twice (Some names) count = ap (λ n. Some n) (take-take count count names (omega arith))

pub back_twice : (o : OutboxState) (mark : MarkState) → at_mark (at_mark o mark) mark ≡ at_mark o mark
back_twice o mark = ap (λ n. with_names mark.outbox n) (take_twice o.names mark.count)

-- the mark stays one
alike_taken : (names : Option NameList) (count : ℕ) → is_some (option_map (λ n. take count n) names) ≡ is_some names
alike_taken None count = refl
alike_taken (Some names) count = refl

kept_taken : (names : Option NameList) (count : ℕ) → count ≤ known names count → count ≤ known (option_map (λ n. take count n) names) count
kept_taken None count few = few
kept_taken (Some names) count few = omega (arith, length-take-le count names few)

pub mark_at : (o : OutboxState) (mark : MarkState) → IsMarkOf o.names mark → IsMarkOf (at_mark o mark).names mark
mark_at o mark is = record { alike = alike_taken o.names mark.count ∙ is.alike; kept = kept_taken o.names mark.count is.kept }

alike_later : (names later : Option NameList) → IsLater names later → is_some later ≡ is_some names
alike_later None later h = ap is_some h.1
alike_later (Some names) later h = ap is_some h.1

kept_later : (names later : Option NameList) (count : ℕ) → count ≤ known names count → IsLater names later → count ≤ known later count
kept_later None later count few h = let same : known later count ≡ count = ap (λ n. known n count) h.1 in omega (arith, same)
kept_later (Some names) later count few h =
    let same : known later count ≡ length names + length h.0 = ap (λ n. known n count) h.1 ∙ length-append names h.0 in
    omega (arith, few, same)

pub mark_later : (names later : Option NameList) (mark : MarkState) → IsMarkOf names mark → IsLater names later → IsMarkOf later mark
mark_later names later mark is h = record { alike = alike_later names later h ∙ is.alike; kept = kept_later names later mark.count is.kept h }

-- an outbox that has packed since it stood at the mark returns to it
pub back_again : (o later : OutboxState) (mark : MarkState) → IsMarkOf o.names mark → IsLater (at_mark o mark).names later.names → at_mark later mark ≡ at_mark o mark
back_again o later mark is h = back_from (at_mark o mark) later mark (mark_at o mark is) h ∙ back_twice o mark

-- one that stood at the mark, and has packed since
pub back_later : (o back later : OutboxState) (mark : MarkState) → IsMarkOf o.names mark → back ≡ at_mark o mark → IsLater back.names later.names →
    (at_mark later mark ≡ at_mark o mark) × IsMarkOf later.names mark
back_later o back later mark is here h =
    let k : IsLater (at_mark o mark).names later.names = subst (λ (z : OutboxState). IsLater z.names later.names) here h in
    (back_again o later mark is k, mark_later (at_mark o mark).names later.names mark (mark_at o mark is) k)

-- one that has just returned to the mark
pub back_now : (o back : OutboxState) (mark : MarkState) → back ≡ at_mark o mark → at_mark back mark ≡ at_mark o mark
back_now o back mark here = ap (λ z. at_mark z mark) here ∙ back_twice o mark

pub mark_now : (o back : OutboxState) (mark : MarkState) → IsMarkOf o.names mark → back ≡ at_mark o mark → IsMarkOf back.names mark
mark_now o back mark is here = subst (λ (z : OutboxState). IsMarkOf z.names mark) (sym here) (mark_at o mark is)
