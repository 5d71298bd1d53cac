-- The marks keep their meaning where the state of an end changes, and where an end is new.
use Rattle.std.proofs.Common.{◌≡◌, ◌≢◌, ℕ, ◌+◌, ◌*◌, ◌<◌, ◌≤◌, ◌==◌, Bool, true, false, cond, nat_lt, List, [], ◌++◌, Option, Some, length, get_or, set, take, drop, refl, sym, ap, ◌∙◌, subst, arith}
use Rattle.std.specs.Prelude.{slice_get}
use Rattle.std.specs.List.Sorted.{IsStrictlySortedBy}
use Rattle.std.specs.Map.{keys_of}
use Rattle.std.specs.Option.{option_map_or}
use Rattle.std.proofs.Math.Seq.{map-set_same}
use Rattle.std.proofs.lemmas.Bool.{eqb-true, eqb-false, ltb-true, ltb-false, lt-ltb, le-ltb}
use Rattle.std.proofs.lemmas.List.{get_or-set_same, get_or-set_other, length-set, take_at}
use Rattle.std.proofs.lemmas.Option.{slice_get-get_or, slice_get_past}
use Rattle.zr_lists.proofs.Options.{read_cond}
use Rattle.zr_world_spec.specs.World.{End, end_cmp}
use Rattle.zr_world_ends.proofs.Bits.{unmarked}
use Rattle.zr_world_ends.specs.Index.{has_mark, passes_at, HasJust, IsIndexed}
use Rattle.zr_world_ends.specs.Kept.{KeptEnd, KeptEnds, can_handle, can_take}

-- ---- a list of which one element was replaced

module _ {X : Type 0} (xs : List X) (i : ℕ) (x : X) where
  get_same : i < length xs → slice_get (set xs i x) i ≡ Some x
  get_same lt =
      let within : i < length (set xs i x) = rw (length-set xs i x) lt in
      slice_get-get_or (set xs i x) i x within ∙ ap (λ y. Some y) (get_or-set_same xs i x x lt)

  get_other : (q : ℕ) → q ≢ i → slice_get (set xs i x) q ≡ slice_get xs q
  get_other q ne = by (nat_lt q (length xs)) refl
    where
      by : (b : Bool) → nat_lt q (length xs) ≡ b → slice_get (set xs i x) q ≡ slice_get xs q
      by true e =
          let lt : q < length xs = ltb-true q (length xs) e in
          let within : q < length (set xs i x) = rw (length-set xs i x) lt in
          slice_get-get_or (set xs i x) q x within ∙ ap (λ y. Some y) (get_or-set_other xs i q x x ne) ∙ sym (slice_get-get_or xs q x lt)
      by false e =
          let le : length xs ≤ q = ltb-false q (length xs) e in
          let past : length (set xs i x) ≤ q = rw (length-set xs i x) le in
          slice_get_past (set xs i x) q past ∙ sym (slice_get_past xs q le)

  pub get_set : i < length xs → (q : ℕ) → slice_get (set xs i x) q ≡ cond (q == i) (Some x) (slice_get xs q)
  get_set lt q = by (q == i) refl
    where
      by : (b : Bool) → (q == i) ≡ b → slice_get (set xs i x) q ≡ cond b (Some x) (slice_get xs q)
      by true e = ap (slice_get (set xs i x)) (eqb-true q i e) ∙ get_same lt
      by false e = get_other q (eqb-false q i e)

-- no end passes behind the last place
passes_past : (test : KeptEnd → Bool) (es : KeptEnds) (q : ℕ) → length es ≤ q → passes_at test es q ≡ false
passes_past test es q le = ap (λ (o : Option (End × KeptEnd)). option_map_or (λ e. test e.1) o false) (slice_get_past es q le)

-- ---- the end at a place changes

module _ (test : KeptEnd → Bool) (es : KeptEnds) (i : ℕ) (k : End) (s : KeptEnd) (lt : i < length es) where
  passes_set : (q : ℕ) → passes_at test (set es i (k, s)) q ≡ cond (q == i) (test s) (passes_at test es q)
  passes_set q =
      ap (λ (o : Option (End × KeptEnd)). option_map_or (λ e. test e.1) o false) (get_set es i (k, s) lt q)
      ∙ read_cond (λ (o : Option (End × KeptEnd)). option_map_or (λ e. test e.1) o false) (q == i) (Some (k, s)) (slice_get es q)

  -- the place is marked where the new state passes the test
  just_changed : (words words' : List ℕ) → ((q : ℕ) → has_mark words' q ≡ cond (q == i) (test s) (has_mark words q)) → HasJust test words es → HasJust test words' (set es i (k, s))
  just_changed words words' now just q = now q ∙ ap (λ z. cond (q == i) (test s) z) (just q) ∙ sym (passes_set q)

  -- the test can't tell the states apart
  just_kept : (words : List ℕ) (d : End × KeptEnd) → test s ≡ test (get_or es i d).1 → HasJust test words es → HasJust test words (set es i (k, s))
  just_kept words d same just q = just q ∙ by (q == i) refl ∙ sym (passes_set q)
    where
      by : (b : Bool) → (q == i) ≡ b → passes_at test es q ≡ cond b (test s) (passes_at test es q)
      by true e = ap (passes_at test es) (eqb-true q i e) ∙ ap (λ (o : Option (End × KeptEnd)). option_map_or (λ x. test x.1) o false) (slice_get-get_or es i d lt) ∙ sym same
      by false e = refl

module _ (es : KeptEnds) (h h' t : List ℕ) (i : ℕ) (d : End × KeptEnd) (s : KeptEnd) (lt : i < length es) where
  still_ordered : IsStrictlySortedBy end_cmp (keys_of es) → IsStrictlySortedBy end_cmp (keys_of (set es i ((get_or es i d).0, s)))
  still_ordered o = subst (IsStrictlySortedBy end_cmp) (sym (map-set_same (λ (x : End × KeptEnd). x.0) es i ((get_or es i d).0, s) d refl)) o

  room_kept : (words words' : List ℕ) → length words' ≡ length words → length es ≤ 64 * length words → length (set es i ((get_or es i d).0, s)) ≤ 64 * length words'
  room_kept words words' same room = rw (length-set es i ((get_or es i d).0, s), same) room

  pub both_changed : (t' : List ℕ) →
      ((q : ℕ) → has_mark h' q ≡ cond (q == i) (can_handle s) (has_mark h q)) → length h' ≡ length h →
      ((q : ℕ) → has_mark t' q ≡ cond (q == i) (can_take s) (has_mark t q)) → length t' ≡ length t →
      IsIndexed es h t → IsIndexed (set es i ((get_or es i d).0, s)) h' t'
  both_changed t' one hl other tl x = record {
    ordered = still_ordered x.ordered;
    handles = just_changed can_handle es i (get_or es i d).0 s lt h h' one x.handles;
    takes = just_changed can_take es i (get_or es i d).0 s lt t t' other x.takes;
    handle_room = room_kept h h' hl x.handle_room;
    take_room = room_kept t t' tl x.take_room;
  }

  pub handles_changed : ((q : ℕ) → has_mark h' q ≡ cond (q == i) (can_handle s) (has_mark h q)) → length h' ≡ length h → can_take s ≡ can_take (get_or es i d).1 →
      IsIndexed es h t → IsIndexed (set es i ((get_or es i d).0, s)) h' t
  handles_changed one hl same x = record {
    ordered = still_ordered x.ordered;
    handles = just_changed can_handle es i (get_or es i d).0 s lt h h' one x.handles;
    takes = just_kept can_take es i (get_or es i d).0 s lt t d same x.takes;
    handle_room = room_kept h h' hl x.handle_room;
    take_room = room_kept t t refl x.take_room;
  }

  pub takes_changed : ((q : ℕ) → has_mark h' q ≡ cond (q == i) (can_take s) (has_mark h q)) → length h' ≡ length h → can_handle s ≡ can_handle (get_or es i d).1 →
      IsIndexed es t h → IsIndexed (set es i ((get_or es i d).0, s)) t h'
  takes_changed one hl same x = record {
    ordered = still_ordered x.ordered;
    handles = just_kept can_handle es i (get_or es i d).0 s lt t d same x.handles;
    takes = just_changed can_take es i (get_or es i d).0 s lt h h' one x.takes;
    handle_room = room_kept t t refl x.handle_room;
    take_room = room_kept h h' hl x.take_room;
  }

-- ---- all ends are marked anew

pub indexed_none : IsIndexed [] [] []
unfolding IsStrictlySortedBy
indexed_none = record { ordered = tt; handles = λ q. unmarked [] q refl; takes = λ q. unmarked [] q refl; handle_room = omega arith; take_room = omega arith }

module _ (test : KeptEnd → Bool) (es : KeptEnds) where
  -- one place more is marked anew
  pub marked_more : (n : ℕ) (d : End × KeptEnd) (first words words' : List ℕ) → n < length es →
      ((q : ℕ) → has_mark words q ≡ cond (nat_lt q n) (passes_at test es q) (has_mark first q)) → ((q : ℕ) → has_mark words' q ≡ cond (q == n) (test (get_or es n d).1) (has_mark words q)) →
      (q : ℕ) → has_mark words' q ≡ cond (nat_lt q (n + 1)) (passes_at test es q) (has_mark first q)
  marked_more n d first words words' lt before now q = now q ∙ by (q == n) refl
    where
      by : (b : Bool) → (q == n) ≡ b → cond b (test (get_or es n d).1) (has_mark words q) ≡ cond (nat_lt q (n + 1)) (passes_at test es q) (has_mark first q)
      by true e =
          let same : q ≡ n = eqb-true q n e in
          let inside : nat_lt q (n + 1) ≡ true = lt-ltb q (n + 1) (omega (arith, same)) in
          rw inside
          (sym (ap (passes_at test es) same ∙ ap (λ (o : Option (End × KeptEnd)). option_map_or (λ x. test x.1) o false) (slice_get-get_or es n d lt)))
      by false e =
          let apart : q ≢ n = eqb-false q n e in
          before q ∙ ap (λ c. cond c (passes_at test es q) (has_mark first q)) (below (nat_lt q n) refl apart)
        where
          below : (c : Bool) → nat_lt q n ≡ c → q ≢ n → c ≡ nat_lt q (n + 1)
          below true k ne = let lt : q < n = ltb-true q n k in sym (lt-ltb q (n + 1) (omega (arith, lt)))
          below false k ne = let le : n ≤ q = ltb-false q n k in sym (le-ltb q (n + 1) (omega (arith, le, ne)))

  -- nothing was marked behind the last place
  pub just_anew : (n : ℕ) (words words' : List ℕ) → length es ≤ n → ((q : ℕ) → length es ≤ q → has_mark words q ≡ false) →
      ((q : ℕ) → has_mark words' q ≡ cond (nat_lt q n) (passes_at test es q) (has_mark words q)) → HasJust test words' es
  just_anew n words words' le none now q = now q ∙ by (nat_lt q n) refl
    where
      by : (b : Bool) → nat_lt q n ≡ b → cond b (passes_at test es q) (has_mark words q) ≡ passes_at test es q
      by true e = refl
      by false e = let behind : n ≤ q = ltb-false q n e in let past : length es ≤ q = omega (arith, behind, le) in none q past ∙ sym (passes_past test es q past)

  -- so it is where there was room made for one place more
  pub none_behind : (fewer : KeptEnds) (first words : List ℕ) → length fewer ≤ length es → HasJust test first fewer → ((q : ℕ) → has_mark words q ≡ has_mark first q) →
      (q : ℕ) → length es ≤ q → has_mark words q ≡ false
  none_behind fewer first words le just same q past =
      let past' : length fewer ≤ q = omega (arith, past, le) in
      same q ∙ just q ∙ passes_past test fewer q past'

-- ---- what was lent is back, as long as it was

pub lent_handles : (es lent new : KeptEnds) (h lent' new' t : List ℕ) (n m : ℕ) → lent ≡ es → lent' ≡ h → length new ≡ n → length new' ≡ m →
    (IsIndexed lent lent' t → IsIndexed new new' t) → IsIndexed es h t → IsIndexed (take n (new ++ drop (length new) es)) (take m (new' ++ drop (length new') h)) t
lent_handles es lent new h lent' new' t n m e e' l l' keeps x =
    let ends : take n (new ++ drop (length new) es) ≡ new = take_at new (drop (length new) es) n l in
    let marks : take m (new' ++ drop (length new') h) ≡ new' = take_at new' (drop (length new') h) m l' in
    rw (ends, marks) (keeps (rw (e, e') x))

pub lent_takes : (es lent new : KeptEnds) (h t lent' new' : List ℕ) (n m : ℕ) → lent ≡ es → lent' ≡ t → length new ≡ n → length new' ≡ m →
    (IsIndexed lent h lent' → IsIndexed new h new') → IsIndexed es h t → IsIndexed (take n (new ++ drop (length new) es)) h (take m (new' ++ drop (length new') t))
lent_takes es lent new h t lent' new' n m e e' l l' keeps x =
    let ends : take n (new ++ drop (length new) es) ≡ new = take_at new (drop (length new) es) n l in
    let marks : take m (new' ++ drop (length new') t) ≡ new' = take_at new' (drop (length new') t) m l' in
    rw (ends, marks) (keeps (rw (e, e') x))
