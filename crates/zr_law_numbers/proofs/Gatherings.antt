-- For whom replies are gathered, once a request has begun, a reply came, a branch ended, or a link went down: for askers of rows, each of them once
-- (`AreGatherings`), and for those whose links pass a test.
use Rattle.std.proofs.Common.{◌≡◌, ◌==◌, ◌||◌, not, Bool, true, false, cond, List, [], ◌∷◌, Option, Some, None, Ok, refl, ap, ◌∙◌}
use Rattle.std.specs.List.{AllByRecursion, fold, list_all}
use Rattle.std.proofs.lemmas.Bool.{and_parts, and_from}
use Rattle.zr_lists.proofs.Each.{All-filter}
use Rattle.zr_id.specs.declared.link.LinkNo.{LinkNo}
use Rattle.zr_msg.specs.declared.content.Parts.{Parts}
use Rattle.zr_pend_spec.specs.declared.branch.Asker.{Asker}
use Rattle.zr_pend_spec.specs.declared.branch.Branch.{Branch}
use Rattle.zr_pend_spec.specs.Row.{RowState}
use Rattle.zr_pend_spec.specs.Pending.{IsSound, asked, begun, finished, final_to, dropped, finals_of_drop}
use Rattle.zr_pend_spec.specs.Held.{GatheringState, is_for, gathers_for, held_with, begun_if, regathered, gatherings_with, gatherings_without, gatherings_off, gatherings_left, gatherings_differ, after_final_to, AreGatherings}
use Rattle.zr_pend_spec.proofs.Gathered.{differ_begun, differ_kept}
use Rattle.zr_pend_spec.proofs.Askers.{none_gathered, begun_of_rows, held_of_rows, ended_of_rows, dropped_of_rows}

abbrev Held : Type 0
Held = List GatheringState

-- where nobody asked so, nobody gathers so
pub nobody_gathers : (rows : List RowState) (held : Held) (a : Asker) → list_all (λ g. asked g.asker rows) held ≡ true → asked a rows ≡ false → gathers_for held a ≡ false
nobody_gathers rows held a h none = none_gathered a rows held h none

-- ---- a request begins

-- a row more, for whose asker replies are gathered or not
pub begun_gatherings : (rows : List RowState) (held : Held) (from : Asker) (to : List LinkNo) (latest : Bool) → asked from rows ≡ false → AreGatherings rows held →
    AreGatherings (begun rows from to) (begun_if latest held from)
begun_gatherings rows held from to latest free h = record { of_rows = begun_of_rows rows from to latest held h.of_rows; differ = by latest }
  where
    by : (t : Bool) → gatherings_differ (begun_if t held from) ≡ true
    by true = differ_begun from held (none_gathered from rows held h.of_rows free) h.differ
    by false = h.differ

-- ---- a reply came

with_gather : (a b : Asker) (x : Parts) (held : Held) → gathers_for (gatherings_with held a x) b ≡ gathers_for held b
with_gather a b x [] = refl
with_gather a b x (g ∷ held) = by (is_for a g) (with_gather a b x held)
  where
    by : (t : Bool) → gathers_for (gatherings_with held a x) b ≡ gathers_for held b →
        (is_for b (cond t (regathered (λ replies. held_with replies x) g) g) || gathers_for (gatherings_with held a x) b) ≡ (is_for b g || gathers_for held b)
    by true ih = ap (λ z. is_for b g || z) ih
    by false ih = ap (λ z. is_for b g || z) ih

differ_with : (a : Asker) (x : Parts) (held : Held) → gatherings_differ held ≡ true → gatherings_differ (gatherings_with held a x) ≡ true
differ_with a x [] h = refl
differ_with a x (g ∷ held) h =
    let parts = and_parts (not (gathers_for held g.asker)) (gatherings_differ held) h in
    by (is_for a g) (ap not (with_gather a g.asker x held) ∙ parts.0) (differ_with a x held parts.1)
  where
    by : (t : Bool) → not (gathers_for (gatherings_with held a x) g.asker) ≡ true → gatherings_differ (gatherings_with held a x) ≡ true →
        gatherings_differ (cond t (regathered (λ replies. held_with replies x) g) g ∷ gatherings_with held a x) ≡ true
    by true one more = and_from _ _ one more
    by false one more = and_from _ _ one more

pub with_gatherings : (rows : List RowState) (held : Held) (a : Asker) (x : Parts) → AreGatherings rows held → AreGatherings rows (gatherings_with held a x)
with_gatherings rows held a x h = record {
  of_rows = held_of_rows {E = Parts} rows held (gatherings_with held a x) (Ok true) (Some a) (λ replies. held_with replies x) refl tt h.of_rows;
  differ = differ_with a x held h.differ;
}

-- ---- a branch ends

pub finished_gatherings : (rows : List RowState) (held : Held) (b : Branch) → IsSound rows → AreGatherings rows held → AreGatherings (finished rows b) (after_final_to held (final_to rows b))
finished_gatherings rows held b sound h = record { of_rows = ended_of_rows rows b held sound h.of_rows; differ = by (final_to rows b) }
  where
    by : (o : Option Asker) → gatherings_differ (after_final_to held o) ≡ true
    by None = h.differ
    by (Some a) = differ_kept (λ g. not (is_for a g)) held h.differ

-- ---- a link goes down

pub dropped_gatherings : (link : LinkNo) (rows : List RowState) (held : Held) → IsSound rows → AreGatherings rows held → AreGatherings (dropped link rows) (gatherings_left held link (finals_of_drop link rows))
dropped_gatherings link rows held sound h = record {
  of_rows = dropped_of_rows link rows held sound h.of_rows;
  differ = without (finals_of_drop link rows) (gatherings_off held link) (differ_kept (λ g. not (g.asker.link.0 == link.0)) held h.differ);
}
  where
    without : (askers : List Asker) (held : Held) → gatherings_differ held ≡ true → gatherings_differ (fold gatherings_without held askers) ≡ true
    without [] held d = d
    without (a ∷ askers) held d = without askers (gatherings_without held a) (differ_kept (λ g. not (is_for a g)) held d)

-- ---- the links of those who asked

-- what holds of askers
abbrev OfAll : (Asker → Type 0) → Held → Type 0
OfAll P held = AllByRecursion (λ g. P g.asker) held

pub all_with : (P : Asker → Type 0) (a : Asker) (x : Parts) (held : Held) → OfAll P held → OfAll P (gatherings_with held a x)
all_with P a x [] h = tt
all_with P a x (g ∷ held) h = (by (is_for a g), all_with P a x held h.1)
  where
    by : (t : Bool) → P (cond t (regathered (λ replies. held_with replies x) g) g).asker
    by true = h.0
    by false = h.0

-- what holds of those on other links, where a link goes down
pub left_are_off : (P Q : Asker → Type 0) (link : LinkNo) → ((a : Asker) → (a.link.0 == link.0) ≡ false → P a → Q a) → (held : Held) (askers : List Asker) → OfAll P held → OfAll Q (gatherings_left held link askers)
left_are_off P Q link others held askers h = without askers (gatherings_off held link) (first held h)
  where
    first : (held : Held) → OfAll P held → OfAll Q (gatherings_off held link)
    first [] h = tt
    first (g ∷ held) h = by (g.asker.link.0 == link.0) refl (first held h.1)
      where
        by : (t : Bool) → (g.asker.link.0 == link.0) ≡ t → OfAll Q (gatherings_off held link) → OfAll Q (cond (not t) (g ∷ gatherings_off held link) (gatherings_off held link))
        by true e ih = ih
        by false e ih = (others g.asker e h.0, ih)

    without : (askers : List Asker) (held : Held) → OfAll Q held → OfAll Q (fold gatherings_without held askers)
    without [] held h = h
    without (a ∷ askers) held h = without askers (gatherings_without held a) (All-filter (λ g. not (is_for a g)) (λ g. Q g.asker) held h)
