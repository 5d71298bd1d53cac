-- What is held weighs, once a request has begun, a reply came, and what was held was released: a reply adds itself at most (`holds_weigh`), and what
-- is released is no longer held (`released_weighs`, `left_weighs`).
use Rattle.std.proofs.Common.{◌≡◌, ◌≤◌, ◌+◌, ℕ, ◌==◌, Bool, true, false, cond, not, List, [], ◌∷◌, Some, refl, sym, ap, ◌∙◌, arith}
use Rattle.std.specs.Prelude.{◌||◌, ◌&&◌, filter, map}
use Rattle.std.specs.List.{find, fold, list_any, sum_by}
use Rattle.std.specs.Option.{option_map_or}
use Rattle.std.proofs.lemmas.Bool.{false≢true, and_parts, not-true}
use Rattle.std.proofs.lemmas.List.Sums.{sum_by-cons}
use Rattle.zr_id.specs.declared.link.LinkNo.{LinkNo}
use Rattle.zr_body.specs.Latest.{is_later}
use Rattle.zr_msg.specs.declared.content.Parts.{Parts}
use Rattle.zr_pend_spec.specs.declared.branch.Asker.{Asker}
use Rattle.zr_pend_spec.specs.Row.{RowState}
use Rattle.zr_pend_spec.specs.Pending.{IsSound, all_orphaned, branches_on, finals_of_drop}
use Rattle.zr_pend_spec.specs.Held.{GatheringState, is_asker, is_for, gathers_for, held_for, ending, held_with, are_apart, reply_weight, gathering_weight, held_weight, gathering_begun, regathered, gatherings_with, gatherings_without, gatherings_off, gatherings_left, gatherings_differ}
use Rattle.zr_pend_spec.proofs.Sound.{all_orphaned_sound}
use Rattle.zr_pend_spec.proofs.Gathered.{same_asker, endings_else, weighs_if}
use Rattle.zr_pend_spec.proofs.Askers.{finals_apart, dropped_endings}
use Rattle.zr_lists.proofs.Sums.{filter_sum}

abbrev Held : Type 0
Held = List GatheringState

held_cons : (g : GatheringState) (held : Held) → held_weight (g ∷ held) ≡ sum_by reply_weight g.held + held_weight held
held_cons g held = sum_by-cons (λ (k : GatheringState). sum_by reply_weight k.held) g held

-- ---- a request begins

pub begun_weighs : (a : Asker) (held : Held) → held_weight (gathering_begun held a) ≡ held_weight held
begun_weighs a [] = refl
begun_weighs a (g ∷ held) = held_cons g (gathering_begun held a) ∙ ap (λ n. sum_by reply_weight g.held + n) (begun_weighs a held) ∙ sym (held_cons g held)

-- ---- a reply came

-- where nobody gathers so, nothing changes
nobody : (a : Asker) (x : Parts) (held : Held) → gathers_for held a ≡ false → gatherings_with held a x ≡ held
nobody a x [] e = refl
nobody a x (g ∷ held) e = by (is_for a g) e (nobody a x held)
  where
    by : (t : Bool) → (t || gathers_for held a) ≡ false → (gathers_for held a ≡ false → gatherings_with held a x ≡ held) → cond t (regathered (λ replies. held_with replies x) g) g ∷ gatherings_with held a x ≡ g ∷ held
    by true e ih = absurd (false≢true (sym e))
    by false e ih = ap (λ z. g ∷ z) (ih e)

pub holds_weigh : (a : Asker) (x : Parts) (held : Held) → gatherings_differ held ≡ true → held_weight (gatherings_with held a x) ≤ held_weight held + reply_weight x
holds_weigh a x [] h = omega arith
holds_weigh a x (g ∷ held) h = by (is_for a g) refl (gathers_for held g.asker) refl h (holds_weigh a x held)
  where
    now : GatheringState
    now = regathered (λ replies. held_with replies x) g

    by : (t : Bool) → is_for a g ≡ t → (u : Bool) → gathers_for held g.asker ≡ u → (not u && gatherings_differ held) ≡ true → (gatherings_differ held ≡ true → held_weight (gatherings_with held a x) ≤ held_weight held + reply_weight x) →
        held_weight (cond t (regathered (λ replies. held_with replies x) g) g ∷ gatherings_with held a x) ≤ held_weight (g ∷ held) + reply_weight x
    by t e true k n ih = absurd (false≢true n)
    by true e false k n ih =
        let rest : held_weight (gatherings_with held a x) ≡ held_weight held = ap held_weight (nobody a x held (ap (gathers_for held) (sym (same_asker g.asker a e)) ∙ k)) in
        omega (arith, held_cons now (gatherings_with held a x), held_cons g held, rest, weighs_if (λ c. is_later x.body c.body) g.held x)
    by false e false k n ih = omega (arith, held_cons g (gatherings_with held a x), held_cons g held, ih n)

-- ---- what is released

lighter : (p : GatheringState → Bool) (held : Held) → held_weight (filter p held) ≤ held_weight held
lighter p held = filter_sum (λ (g : GatheringState). sum_by reply_weight g.held) p held

pub released_weighs : (a : Asker) (held : Held) → held_weight (gatherings_without held a) + sum_by reply_weight (held_for held a) ≤ held_weight held
released_weighs a [] = omega arith
released_weighs a (g ∷ held) = by (is_for a g) (released_weighs a held)
  where
    by : (t : Bool) → held_weight (gatherings_without held a) + sum_by reply_weight (held_for held a) ≤ held_weight held →
        held_weight (cond (not t) (g ∷ gatherings_without held a) (gatherings_without held a)) + sum_by reply_weight (option_map_or (λ (k : GatheringState). k.held) (cond t (Some g) (find (λ k. is_for a k) held)) []) ≤ held_weight (g ∷ held)
    by true ih = omega (arith, held_cons g held, lighter (λ k. not (is_for a k)) held)
    by false ih = omega (arith, held_cons g held, held_cons g (gatherings_without held a), ih)

-- ---- several askers, which are apart, are sent what was held

-- what is held for them weighs
abbrev pub all_held_for : Held → List Asker → ℕ
all_held_for held askers = sum_by gathering_weight (map (λ a. ending held a) askers)

fold_weighs : (askers : List Asker) (held : Held) → are_apart askers ≡ true → held_weight (fold gatherings_without held askers) + all_held_for held askers ≤ held_weight held
fold_weighs [] held h = omega arith
fold_weighs (a ∷ askers) held h =
    let parts = and_parts (not (list_any (λ b. is_asker b a) askers)) (are_apart askers) h in
    let same = ap (sum_by gathering_weight) (endings_else a held askers (not-true _ parts.0)) in
    omega (
      arith,
      fold_weighs askers (gatherings_without held a) parts.1,
      sum_by-cons gathering_weight (ending held a) (map (λ b. ending held b) askers),
      released_weighs a held,
      same,
    )

-- those whose rows end by a link that goes down are sent what was held for them, and what the link asked is gone
pub left_weighs : (link : LinkNo) (rows : List RowState) (held : Held) → IsSound rows →
    held_weight (gatherings_left held link (finals_of_drop link rows)) + all_held_for held (finals_of_drop link rows) ≤ held_weight held
left_weighs link rows held s = omega (
  arith,
  fold_weighs (finals_of_drop link rows) (gatherings_off held link) (finals_apart (all_orphaned link rows) (branches_on link rows) (all_orphaned_sound link rows s)),
  ap (sum_by gathering_weight) (dropped_endings link rows held),
  lighter (λ g. not (g.asker.link.0 == link.0)) held,
)
