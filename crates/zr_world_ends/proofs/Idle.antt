-- KeptEnds at which nothing waits, in place of others: they stand in the same order, and no place behind them is marked.
use Rattle.std.proofs.Common.{◌≡◌, ℕ, ◌+◌, ◌*◌, ◌<◌, ◌≤◌, false, List, [], ◌∷◌, ◌++◌, get_or, length, map, take, refl, sym, ap, ◌∙◌, subst, arith}
use Rattle.std.specs.List.Sorted.{IsStrictlySortedBy}
use Rattle.std.specs.Map.{keys_of}
use Rattle.std.proofs.lemmas.List.{length-map, map-append, take_all, take_more}
use Rattle.zr_world_spec.specs.World.{End, end_cmp}
use Rattle.zr_world_ends.specs.Index.{has_mark, IsIndexed}
use Rattle.zr_world_ends.specs.Kept.{KeptEnd, KeptEnds, bare, can_handle, can_take, emptied}
use Rattle.zr_world_ends.proofs.Index.{none_behind}
use Rattle.zr_world_ends.proofs.Same.{keys_mapped}

abbrev idle_of : End × KeptEnd → End × KeptEnd
idle_of e = (e.0, bare e.1)

idle_keys : (es : KeptEnds) → keys_of (emptied es) ≡ keys_of es
idle_keys es = keys_mapped (λ (e : End) (k : KeptEnd). bare k) es

idle_length : (es : KeptEnds) → length (emptied es) ≡ length es
idle_length es = length-map es idle_of

pub idle_ordered : (es idle : KeptEnds) → idle ≡ emptied es → IsStrictlySortedBy end_cmp (keys_of es) → IsStrictlySortedBy end_cmp (keys_of idle)
idle_ordered es idle is h = subst (λ (z : KeptEnds). IsStrictlySortedBy end_cmp (keys_of z)) (sym is) (subst (IsStrictlySortedBy end_cmp) (sym (idle_keys es)) h)

pub idle_room : (es idle : KeptEnds) (words : List ℕ) → idle ≡ emptied es → length es ≤ 64 * length words → length idle ≤ 64 * length words
idle_room es idle words is room = let same = ap (λ (z : KeptEnds). length z) is in let long = idle_length es in omega (arith, same, long, room)

pub idle_no_handle : (es idle : KeptEnds) (to_handle to_take : List ℕ) → idle ≡ emptied es → IsIndexed es to_handle to_take → (q : ℕ) → length idle ≤ q → has_mark to_handle q ≡ false
idle_no_handle es idle to_handle to_take is h =
    let same = ap (λ (z : KeptEnds). length z) is in
    let long = idle_length es in
    none_behind can_handle idle es to_handle to_handle (omega (arith, same, long)) h.handles (λ q. refl)

pub idle_no_take : (es idle : KeptEnds) (to_handle to_take : List ℕ) → idle ≡ emptied es → IsIndexed es to_handle to_take → (q : ℕ) → length idle ≤ q → has_mark to_take q ≡ false
idle_no_take es idle to_handle to_take is h =
    let same = ap (λ (z : KeptEnds). length z) is in
    let long = idle_length es in
    none_behind can_take idle es to_take to_take (omega (arith, same, long)) h.takes (λ q. refl)

-- one more
pub idle_more : (es idle : KeptEnds) (i : ℕ) (e : End × KeptEnd) → i < length es → e ≡ get_or es i e → idle ≡ emptied (take i es) →
    idle ++ (e.0, bare e.1) ∷ [] ≡ emptied (take (i + 1) es)
idle_more es idle i e lt is so =
    ap (λ z. z ++ idle_of e ∷ []) so ∙ sym (map-append idle_of (take i es) (e ∷ [])) ∙ ap (map idle_of) (ap (λ z. take i es ++ z ∷ []) is ∙ sym (take_more es i e lt))

-- all
pub idle_all : (es idle : KeptEnds) (i : ℕ) → length es ≤ i → idle ≡ emptied (take i es) → idle ≡ emptied es
idle_all es idle i long so = so ∙ ap emptied (take_all i es long)
