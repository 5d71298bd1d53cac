-- Where an end stands among ends in order: what a search for it answers, and what comes of the ends where it changes or is put in.
use Rattle.std.proofs.Common.{◌≡◌, ℕ, zero, suc, ◌<◌, Bool, true, false, cond, [], ◌∷◌, ◌++◌, Option, Some, None, Ordering, Less, Equal, Greater, Result, Ok, Err, length, get_or, set, refl, sym, ap, ◌∙◌, subst, arith}
use Rattle.std.specs.Prelude.{is_some, IfSome, IfNone}
use Rattle.std.specs.BTreeMap.{insert_entry}
use Rattle.std.specs.List.{AllByRecursion, HoldsAt, insert}
use Rattle.std.specs.List.Sorted.{IsStrictlySortedBy}
use Rattle.std.specs.Map.{keys_of}
use Rattle.std.specs.Option.{option_map}
use Rattle.std.specs.Result.{result_ok}
use Rattle.std.specs.Ordering.{is_eq, match_ordering}
use Rattle.std.proofs.lemmas.Bool.{true≢false}
use Rattle.std.proofs.lemmas.Map.Keys.{sorted_head, sorted_tail, Less-from_sorted}
use Rattle.std.proofs.lemmas.Option.{slice_get-get_or}
use Rattle.zr_world_spec.specs.World.{End, end_cmp, is_end}
use Rattle.zr_world_spec.proofs.Ends.{ends, end_order, same_end}
use Rattle.zr_world_spec.proofs.Keyed.{sorted_insert}
use Rattle.zr_lists.specs.Ascending.{IsAscending, at_key, behind_key, put}
use Rattle.zr_lists.specs.Place.{IsAt, IsGap, IsPlace}
use Rattle.zr_lists.proofs.Order.{IsExactOrder, comes_back}
use Rattle.zr_lists.proofs.Places.{none_before, all_behind}
use Rattle.zr_lists.proofs.Puts.{put_in}
use Rattle.zr_world_ends.specs.Index.{IsThere}
use Rattle.zr_world_ends.specs.Kept.{KeptEnd, KeptEnds}
use Rattle.zr_world_ends.specs.Named.{at_end, set_at, put_at, change_found}

pub exact_order : IsExactOrder end_cmp
exact_order = record { total = end_order; exact = λ k l h. same_end k l (ap is_eq h) }

abbrev pub name_of : End × KeptEnd → End
name_of x = x.0

after_names : (k : End) (es : KeptEnds) → AllByRecursion (λ y. end_cmp k y ≡ Less) (keys_of es) → AllByRecursion (λ (x : End × KeptEnd). end_cmp k x.0 ≡ Less) es
after_names k [] h = tt
after_names k (e ∷ es) h = (h.0, after_names k es h.1)

pub ascending : (es : KeptEnds) → IsStrictlySortedBy end_cmp (keys_of es) → IsAscending end_cmp name_of es
unfolding IsStrictlySortedBy
ascending [] h = tt
ascending (e ∷ es) h = (after_names e.0 es h.0, ascending es h.1)

-- a look-up finds what stands under the name
pub look_up : (es : KeptEnds) (e : End) → at_end es e ≡ option_map (λ x. x.1) (at_key end_cmp name_of es e)
look_up [] e = refl
look_up (x ∷ es) e = ap (λ b. cond b (Some x.1) (at_end es e)) (ends.symm e x.0) ∙ by (is_end x.0 e) (look_up es e)
  where
    by : (b : Bool) → at_end es e ≡ option_map (λ x. x.1) (at_key end_cmp name_of es e) →
        cond b (Some x.1) (at_end es e) ≡ option_map (λ (y : End × KeptEnd). y.1) (cond b (Some x) (at_key end_cmp name_of es e))
    by true ih = refl
    by false ih = ih

-- a replacement at the place
sets_at : (es : KeptEnds) (i : ℕ) (e : End) (s : KeptEnd) → IsAscending end_cmp name_of es → i < length es → HoldsAt (λ x. x.0 ≡ e) es i → set es i (e, s) ≡ set_at es e s
sets_at [] i e s up lt k = absurd (omega arith)
sets_at (x ∷ es) zero e s up lt k =
    ap (λ z. (z, s) ∷ es) (sym (k x))
    ∙ sym (ap (λ b. cond b ((x.0, s) ∷ es) (x ∷ set_at es e s)) (ap (λ z. is_end z x.0) (sym (k x)) ∙ ends.refl x.0))
sets_at (x ∷ es) (suc i) e s up lt k =
    let l = Less-from_sorted (λ (y z : End × KeptEnd). end_cmp y.0 z.0) (x ∷ es) 0 (suc i) x up (omega arith) (omega arith) in
    let less : end_cmp x.0 e ≡ Less = ap (λ z. end_cmp x.0 z) (sym (k x)) ∙ l in
    ap (λ z. x ∷ z) (sets_at es i e s (sorted_tail (λ (y z : End × KeptEnd). end_cmp y.0 z.0) x es up) (omega arith) (λ d. k d))
    ∙ sym (ap (λ b. cond b ((x.0, s) ∷ es) (x ∷ set_at es e s)) (ends.symm e x.0 ∙ ap is_eq less))

pub there_at : (es : KeptEnds) (e : End) (i : ℕ) → IsStrictlySortedBy end_cmp (keys_of es) → IsAt end_cmp name_of es e i → IsThere es e i
there_at es e i up h = record {
  within = h.within;
  key_is = h.key_is;
  found = λ d. look_up es e ∙ ap (λ (o : Option (End × KeptEnd)). option_map (λ x. x.1) o) (h.found ∙ slice_get-get_or es i d h.within);
  sets = λ s. sets_at es i e s (ascending es up) h.within h.key_is;
}

pub none_at : (es : KeptEnds) (e : End) (i : ℕ) → IsGap end_cmp name_of es e i → at_end es e ≡ None
none_at es e i h = look_up es e ∙ ap (λ (o : Option (End × KeptEnd)). option_map (λ x. x.1) o) h.absent

-- what a search answers
pub found_there : (es : KeptEnds) (e : End) (r : Result ℕ ℕ) → IsStrictlySortedBy end_cmp (keys_of es) → IsPlace end_cmp name_of es e r → IfSome (result_ok r) (IsThere es e)
found_there es e (Ok i) up h = there_at es e i up h
found_there es e (Err i) up h = tt

pub found_none : (es : KeptEnds) (e : End) (r : Result ℕ ℕ) → IsPlace end_cmp name_of es e r → IfNone (result_ok r) (at_end es e ≡ None)
found_none es e (Ok i) h = tt
found_none es e (Err i) h = none_at es e i h

-- ---- a new end

further : (k : End) (x : End) → end_cmp k x ≡ Less → (es : KeptEnds) → AllByRecursion (λ (y : End × KeptEnd). end_cmp x y.0 ≡ Less) es → AllByRecursion (λ (y : End × KeptEnd). end_cmp k y.0 ≡ Less) es
further k x l [] h = tt
further k x l (y ∷ es) h = (end_order.trans k x y.0 l h.0, further k x l es h.1)

inserted : (es : KeptEnds) (e : End) (s : KeptEnd) → IsAscending end_cmp name_of es → at_end es e ≡ None → put end_cmp name_of es (e, s) ≡ insert_entry end_cmp es e s
inserted [] e s up none = refl
inserted (x ∷ es) e s up none = by (end_cmp e x.0) refl none (inserted es e s (sorted_tail (λ (y z : End × KeptEnd). end_cmp y.0 z.0) x es up))
  where
    by : (o : Ordering) → end_cmp e x.0 ≡ o → cond (is_eq o) (Some x.1) (at_end es e) ≡ None → (at_end es e ≡ None → put end_cmp name_of es (e, s) ≡ insert_entry end_cmp es e s) →
        put end_cmp name_of (x ∷ es) (e, s) ≡ match_ordering o ((e, s) ∷ x ∷ es) ((x.0, s) ∷ es) (x ∷ insert_entry end_cmp es e s)
    by Less l n ih =
        let after : AllByRecursion (λ (y : End × KeptEnd). end_cmp e y.0 ≡ Less) (x ∷ es) = (l, further e x.0 l es (sorted_head (λ (y z : End × KeptEnd). end_cmp y.0 z.0) x es up)) in
        ap (λ ys. ys ++ (e, s) ∷ behind_key end_cmp name_of (x ∷ es) e) (none_before end_cmp name_of exact_order e (x ∷ es) after)
        ∙ ap (λ ys. (e, s) ∷ ys) (all_behind end_cmp name_of exact_order e (x ∷ es) after)
    by Equal l n ih = absurd (true≢false (ap is_some n))
    by Greater l n ih =
        let c = comes_back end_cmp exact_order e x.0 l in
        rw (c.before, c.not_after) (ap (λ ys. x ∷ ys) (ih n))

pub inserts_at : (es : KeptEnds) (e : End) (s : KeptEnd) (i : ℕ) → IsStrictlySortedBy end_cmp (keys_of es) → IsGap end_cmp name_of es e i → insert es i (e, s) ≡ insert_entry end_cmp es e s
inserts_at es e s i up h = put_in end_cmp name_of exact_order es (e, s) i h ∙ inserted es e s (ascending es up) (none_at es e i h)

pub ordered_with : (es : KeptEnds) (e : End) (s : KeptEnd) (i : ℕ) → IsStrictlySortedBy end_cmp (keys_of es) → IsGap end_cmp name_of es e i → IsStrictlySortedBy end_cmp (keys_of (insert es i (e, s)))
ordered_with es e s i up h = subst (λ (z : KeptEnds). IsStrictlySortedBy end_cmp (keys_of z)) (sym (inserts_at es e s i up h)) (sorted_insert end_order es e s up)

-- ---- an end that is put in

pub put_there : (es : KeptEnds) (e : End) (s : KeptEnd) (i : ℕ) (d : End × KeptEnd) → IsThere es e i → set es i ((get_or es i d).0, s) ≡ put_at es e s
put_there es e s i d h =
    ap (λ k. set es i (k, s)) (h.key_is d) ∙ h.sets s
    ∙ sym (ap (λ (o : Option KeptEnd). cond (is_some o) (set_at es e s) (insert_entry end_cmp es e s)) (h.found d))

pub put_new : (es : KeptEnds) (e : End) (s : KeptEnd) (i : ℕ) → IsStrictlySortedBy end_cmp (keys_of es) → IsGap end_cmp name_of es e i → insert es i (e, s) ≡ put_at es e s
put_new es e s i up h =
    inserts_at es e s i up h ∙ sym (ap (λ (o : Option KeptEnd). cond (is_some o) (set_at es e s) (insert_entry end_cmp es e s)) (none_at es e i h))

-- an end that is there changes
pub changed_there : (es : KeptEnds) (e : End) (f : KeptEnd → KeptEnd) (i : ℕ) (d : End × KeptEnd) (s : KeptEnd) → IsThere es e i → s ≡ f (get_or es i d).1 →
    set es i ((get_or es i d).0, s) ≡ change_found es e f (at_end es e)
changed_there es e f i d s h new =
    ap (λ (k : End). set es i (k, s)) (h.key_is d) ∙ h.sets s ∙ ap (λ (t : KeptEnd). set_at es e t) new
    ∙ sym (ap (λ (o : Option KeptEnd). change_found es e f o) (h.found d))
