-- The search from a root: what is settled is final, since each walk that is offered later is no shorter.
use Rattle.std.proofs.Common.{◌≡◌, ℕ, ◌+◌, ◌*◌, ◌<◌, ◌≤◌, ◌^◌, zero, suc, true, cond, ◌&&◌, ◌||◌, ◌==◌, List, [], ◌∷◌, ◌++◌, Option, Some, None, is_none, All, ◌⊎◌, inl, inr, length, get_or, set, replicate, get_or-set_same, get_or-set_other, length-set, refl, sym, ap, ◌∙◌, subst, arith}
use Rattle.std.specs.List.{swap_remove}
use Rattle.std.proofs.lemmas.Bool.{false≢true, cases_eq, cases_lt, or_cases, or_right, and_parts, eqb-true, eq-eqb}
use Rattle.std.proofs.lemmas.List.{length_push, get_or_default, get_or_append_left, get_or_push, length-replicate, get_or-replicate}
use Rattle.std.proofs.lemmas.List.Elements.{All-append}
use Rattle.std.proofs.lemmas.List.Sorted.{IsPermutation-swap_remove, list_any-IsPermutation}
use Rattle.std.proofs.lemmas.List.Sums.{sum_by-set}
use Rattle.std.proofs.lemmas.List.Folds.{sum_by-replicate}
use Rattle.zr_tree_parents.specs.declared.row.Neighbour.{Neighbour}
use Rattle.zr_tree_parents.specs.Climb.{row}
use Rattle.zr_tree_parents.specs.Distance.{kept_at}
use Rattle.zr_tree_parents.specs.Search.{has_index, leads_to, nones, Offers, IsNearest, AreNearest, IsOrder}
use Rattle.zr_lists.proofs.Finds.{any_in, in_any, in_place, place_in}
use Rattle.zr_tree_parents.proofs.Offered.{has_left, has_right, has_itself, has_pushed}

-- a distance comes over an edge from one that is settled
pub record IsOver (rows : List (List Neighbour)) (order : List ℕ) (distances : List (Option ℕ)) (x n : ℕ) : Type 0 where
  pub y : ℕ
  pub m : ℕ
  pub w : ℕ
  pub settled : has_index order y ≡ true
  pub at : kept_at distances y ≡ Some m
  pub edge : leads_to (row rows y) x w ≡ true
  pub sum : n ≡ m + w

-- The routers in the order are settled, and those found are not yet: their distances are no smaller, and all that have a distance are among the two.
pub record IsSettling (rows : List (List Neighbour)) (root : ℕ) (order found : List ℕ) (distances : List (Option ℕ)) : Type 0 where
  pub long : length distances ≡ length rows
  pub at_root : kept_at distances root ≡ Some 0
  pub over : (x n : ℕ) → kept_at distances x ≡ Some n → (x ≡ root) ⊎ IsOver rows order distances x n
  pub no_shorter : (y m x w : ℕ) → has_index order y ≡ true → kept_at distances y ≡ Some m → leads_to (row rows y) x w ≡ true → (n : ℕ) × (n ≤ m + w) × (kept_at distances x ≡ Some n)
  pub somewhere : (x n : ℕ) → kept_at distances x ≡ Some n → (has_index order x ≡ true) ⊎ (has_index found x ≡ true)
  pub settled : (y : ℕ) → has_index order y ≡ true → (m : ℕ) × (kept_at distances y ≡ Some m)
  pub nearer : (y m x n : ℕ) → has_index order y ≡ true → has_index found x ≡ true → kept_at distances y ≡ Some m → kept_at distances x ≡ Some n → m ≤ n
  pub ascending : (k l m n : ℕ) → k ≤ l → l < length order → kept_at distances (get_or order k 0) ≡ Some m → kept_at distances (get_or order l 0) ≡ Some n → m ≤ n
  pub order_within : All (λ x. x < length distances) order
  pub found_within : All (λ x. x < length distances) found
  pub count : length order + length found + nones distances ≡ length rows
  pub small : (x n : ℕ) → kept_at distances x ≡ Some n → n ≤ 65535 * length order

some_is : (m n : ℕ) (o : Option ℕ) → o ≡ Some m → o ≡ Some n → m ≡ n
some_is m n o e f = let s : Some m ≡ Some n = sym e ∙ f in cc

one : {X : Type 0} (P : X → Type 0) (y : X) → P y → All P (y ∷ [])
one P y h k d lt = let z : k ≡ 0 = omega arith in rw z h

get_in : (xs : List ℕ) (k : ℕ) → k < length xs → has_index xs (get_or xs k 0) ≡ true
get_in xs k lt = in_any (λ j. j == get_or xs k 0) xs (get_or xs k 0) (place_in xs k 0 lt) (eq-eqb (get_or xs k 0) (get_or xs k 0) refl)

all_has : (P : ℕ → Type 0) (xs : List ℕ) (x : ℕ) → All P xs → has_index xs x ≡ true → P x
all_has P xs x all h =
    let f = any_in (λ j. j == x) xs h in
    let g = in_place xs f.0 0 f.1 in
    subst P (g.2 ∙ eqb-true f.0 x f.2) (all g.0 0 g.1)

-- ---- at first the root alone is found

abbrev blank : ℕ → List (Option ℕ)
blank n = replicate n None

nones_all : (n : ℕ) → nones (blank n) ≡ n
nones_all n = omega (arith, sum_by-replicate (λ (o : Option ℕ). cond (is_none o) 1 0) n None)

pub settling_first : (rows : List (List Neighbour)) (root : ℕ) → root < length rows → IsSettling rows root [] (root ∷ []) (set (blank (length rows)) root (Some 0))
settling_first rows root lt = record {
  long = length-set _ _ _ ∙ length-replicate {A = Option ℕ} (length rows) None;
  at_root = here root refl;
  over = λ x n e. inl (only_root x n e);
  no_shorter = λ y m x w t e l. absurd (false≢true t);
  somewhere = λ x n e. inr (subst (λ (z : ℕ). has_index (root ∷ []) z ≡ true) (sym (only_root x n e)) (has_itself root));
  settled = λ y t. absurd (false≢true t);
  nearer = λ y m x n t u e f. absurd (false≢true t);
  ascending = λ k l m n le l_in e f. absurd (omega arith);
  order_within = λ k d l. absurd (omega arith);
  found_within = one (λ x. x < length (set (blank (length rows)) root (Some 0))) root (omega (arith, length-set (blank (length rows)) root (Some 0), length-replicate {A = Option ℕ} (length rows) None));
  count =
      let s = sum_by-set (λ (o : Option ℕ). cond (is_none o) 1 0) (blank (length rows)) root (Some 0) None inside in
      let at : nones (get_or (blank (length rows)) root None ∷ []) ≡ 1 = ap (λ (o : Option ℕ). nones (o ∷ [])) (get_or-replicate (length rows) root None None lt) in
      omega (arith, s, nones_all (length rows), at);
  small = λ x n e. let z : n ≡ 0 = some_is n 0 _ e (here x (only_root x n e)) in omega (arith, z);
}
  where
    inside : root < length (blank (length rows))
    inside = omega (arith, length-replicate {A = Option ℕ} (length rows) None)

    here : (x : ℕ) → x ≡ root → kept_at (set (blank (length rows)) root (Some 0)) x ≡ Some 0
    here x e = ap (kept_at (set (blank (length rows)) root (Some 0))) e ∙ get_or-set_same (blank (length rows)) root (Some 0) None inside

    never : (k x n : ℕ) → kept_at (blank k) x ≡ Some n → ⊥
    never zero x n e = absurd (cc)
    never (suc k) zero n e = absurd (cc)
    never (suc k) (suc x) n e = never k x n e

    only_root : (x n : ℕ) → kept_at (set (blank (length rows)) root (Some 0)) x ≡ Some n → x ≡ root
    only_root x n e = elim (cases_eq x root) [
      | inl i ↦ i
      | inr ne ↦ absurd (never (length rows) x n (sym (get_or-set_other (blank (length rows)) root x (Some 0) None ne) ∙ e))
    ]

-- ---- the nearest that is found is settled

module _ (rows : List (List Neighbour)) (root : ℕ) (order found : List ℕ) (distances : List (Option ℕ)) (h : IsSettling rows root order found distances)
    (place distance u : ℕ) (nearest : IsNearest found distances place distance) (is_u : u ≡ get_or found place 0)
    (fewer : length (swap_remove found place u) + 1 ≡ length found)
    (new : List (Option ℕ)) (after : List ℕ) (same_long : length new ≡ length distances)
    (offers : Offers distances new (swap_remove found place u) after (row rows u) distance)
    (edges_within : All (λ n. n.index < length rows) (row rows u)) (weights : All (λ n. n.weight < 2 ^ 16) (row rows u)) where
  u_at : kept_at distances u ≡ Some distance
  u_at = ap (kept_at distances) is_u ∙ nearest.is

  u_found : has_index found u ≡ true
  u_found = subst (λ (z : ℕ). has_index found z ≡ true) (sym is_u) (get_in found place nearest.within)

  same_u : u ≡ get_or found place u
  same_u = is_u ∙ get_or_default found place 0 u nearest.within

  found_is : (x : ℕ) → has_index found x ≡ ((u == x) || has_index (swap_remove found place u) x)
  found_is x = list_any-IsPermutation (λ j. j == x) found (u ∷ swap_remove found place u) (IsPermutation-swap_remove found place u nearest.within same_u)

  left_found : (x : ℕ) → has_index (swap_remove found place u) x ≡ true → has_index found x ≡ true
  left_found x t = found_is x ∙ or_right (u == x) (has_index (swap_remove found place u) x) t

  -- those that are settled, and how far they are
  in_order : (y : ℕ) → has_index (order ++ u ∷ []) y ≡ true → (has_index order y ≡ true) ⊎ (y ≡ u)
  in_order y t = has_pushed order u y t

  no_farther : (y m : ℕ) → has_index (order ++ u ∷ []) y ≡ true → kept_at distances y ≡ Some m → m ≤ distance
  no_farther y m t e = elim (in_order y t) [
    | inl s ↦ h.nearer y m u distance s u_found e u_at
    | inr i ↦ (let j : m ≡ distance = some_is m distance _ e (ap (kept_at distances) i ∙ u_at) in omega (arith, j))
  ]

  stays : (y m : ℕ) → has_index (order ++ u ∷ []) y ≡ true → kept_at distances y ≡ Some m → kept_at new y ≡ Some m
  stays y m t e =
      let k = offers.kept y m e in
      elim (offers.source y k.0 k.2) [
        | inl s ↦ (let i : k.0 ≡ m = some_is k.0 m _ s e in k.2 ∙ ap Some i)
        | inr f ↦ (let le = no_farther y m t e in
            let i : k.0 ≡ m = omega (arith, k.1, f.2, le) in
            k.2 ∙ ap Some i)
      ]

  before : (y m : ℕ) → has_index (order ++ u ∷ []) y ≡ true → kept_at new y ≡ Some m → kept_at distances y ≡ Some m
  before y m t e = elim (in_order y t) [
    | inl s ↦ (let d = h.settled y s in
        let i : d.0 ≡ m = some_is d.0 m _ (stays y d.0 t d.1) e in
        d.1 ∙ ap Some i)
    | inr i ↦ (let at : kept_at distances y ≡ Some distance = ap (kept_at distances) i ∙ u_at in
        let j : distance ≡ m = some_is distance m _ (stays y distance t at) e in
        at ∙ ap Some j)
  ]

  u_settled : has_index (order ++ u ∷ []) u ≡ true
  u_settled = has_right order (u ∷ []) u (has_itself u)

  was_settled : (y : ℕ) → has_index order y ≡ true → has_index (order ++ u ∷ []) y ≡ true
  was_settled y t = has_left order (u ∷ []) y t

  weight_small : (x w : ℕ) → leads_to (row rows u) x w ≡ true → w ≤ 65535
  weight_small x w t =
      let f = any_in (λ n. (n.index == x) && (n.weight == w)) (row rows u) t in
      let g = in_place (row rows u) f.0 f.0 f.1 in
      let less = weights g.0 f.0 g.1 in
      let is : (get_or (row rows u) g.0 f.0).weight ≡ w = ap (λ (n : Neighbour). n.weight) g.2 ∙ eqb-true f.0.weight w (and_parts (f.0.index == x) (f.0.weight == w) f.2).1 in
      omega (arith, less, is)

  edge_inside : (x w : ℕ) → leads_to (row rows u) x w ≡ true → x < length rows
  edge_inside x w t =
      let f = any_in (λ n. (n.index == x) && (n.weight == w)) (row rows u) t in
      let g = in_place (row rows u) f.0 f.0 f.1 in
      let less = edges_within g.0 f.0 g.1 in
      let is : (get_or (row rows u) g.0 f.0).index ≡ x = ap (λ (n : Neighbour). n.index) g.2 ∙ eqb-true f.0.index x (and_parts (f.0.index == x) (f.0.weight == w) f.2).0 in
      omega (arith, less, is)

  over_next : (x n : ℕ) → kept_at new x ≡ Some n → (x ≡ root) ⊎ IsOver rows (order ++ u ∷ []) new x n
  over_next x n e = elim (offers.source x n e) [
    | inl s ↦ elim (h.over x n s) [
      | inl i ↦ inl i
      | inr o ↦ inr (record { y = o.y; m = o.m; w = o.w; settled = was_settled o.y o.settled; at = stays o.y o.m (was_settled o.y o.settled) o.at; edge = o.edge; sum = o.sum })
    ]
    | inr f ↦ inr (record { y = u; m = distance; w = f.0; settled = u_settled; at = stays u distance u_settled u_at; edge = f.1; sum = f.2 })
  ]

  no_shorter_next : (y m x w : ℕ) → has_index (order ++ u ∷ []) y ≡ true → kept_at new y ≡ Some m → leads_to (row rows y) x w ≡ true → (n : ℕ) × (n ≤ m + w) × (kept_at new x ≡ Some n)
  no_shorter_next y m x w t e l =
      let d = before y m t e in
      elim (in_order y t) [
        | inl s ↦ (let f = h.no_shorter y m x w s d l in
            let k = offers.kept x f.0 f.2 in
            (k.0, omega (arith, k.1, f.1), k.2))
        | inr i ↦ (let k = offers.taken x w (subst (λ (z : ℕ). leads_to (row rows z) x w ≡ true) i l) in
            let j : m ≡ distance = some_is m distance _ d (ap (kept_at distances) i ∙ u_at) in
            (k.0, omega (arith, k.1, j), k.2))
      ]

  somewhere_next : (x n : ℕ) → kept_at new x ≡ Some n → (has_index (order ++ u ∷ []) x ≡ true) ⊎ (has_index after x ≡ true)
  somewhere_next x n e = by (kept_at distances x) refl
    where
      by_place : (has_index found x ≡ true) → (has_index (order ++ u ∷ []) x ≡ true) ⊎ (has_index after x ≡ true)
      by_place t = elim (or_cases (u == x) (has_index (swap_remove found place u) x) (sym (found_is x) ∙ t)) [
        | inl s ↦ inl (subst (λ (z : ℕ). has_index (order ++ u ∷ []) z ≡ true) (eqb-true u x s) u_settled)
        | inr s ↦ inr (offers.still x s)
      ]

      by : (o : Option ℕ) → kept_at distances x ≡ o → (has_index (order ++ u ∷ []) x ≡ true) ⊎ (has_index after x ≡ true)
      by None f = inr (offers.opened x n f e)
      by (Some m) f = elim (h.somewhere x m f) [ inl t ↦ inl (was_settled x t) | inr t ↦ by_place t ]

  settled_next : (y : ℕ) → has_index (order ++ u ∷ []) y ≡ true → (m : ℕ) × (kept_at new y ≡ Some m)
  settled_next y t = elim (in_order y t) [
    | inl s ↦ (let d = h.settled y s in (d.0, stays y d.0 t d.1))
    | inr i ↦ (distance, stays y distance t (ap (kept_at distances) i ∙ u_at))
  ]

  nearer_next : (y m x n : ℕ) → has_index (order ++ u ∷ []) y ≡ true → has_index after x ≡ true → kept_at new y ≡ Some m → kept_at new x ≡ Some n → m ≤ n
  nearer_next y m x n t s e f =
      let d = before y m t e in
      let le = no_farther y m t d in
      elim (offers.source x n f) [
        | inl g ↦ elim (offers.only x s) [
          | inl l ↦ omega (arith, le, nearest.least x n (left_found x l) g)
          | inr o ↦ (let i : None ≡ Some n = sym o.0 ∙ g in absurd (cc))
        ]
        | inr g ↦ omega (arith, le, g.2)
      ]

  ascending_next : (k l m n : ℕ) → k ≤ l → l < length (order ++ u ∷ []) → kept_at new (get_or (order ++ u ∷ []) k 0) ≡ Some m → kept_at new (get_or (order ++ u ∷ []) l 0) ≡ Some n → m ≤ n
  ascending_next k l m n le lt e f =
      let k_in : k < length (order ++ u ∷ []) = omega (arith, le, lt) in
      let d = before _ m (get_in (order ++ u ∷ []) k k_in) e in
      let g = before _ n (get_in (order ++ u ∷ []) l lt) f in
      elim (cases_lt l (length order)) [
        | inl less ↦ (let k_less : k < length order = omega arith in
            h.ascending k l m n le less (ap (kept_at distances) (sym (get_or_append_left order (u ∷ []) 0 k k_less)) ∙ d) (ap (kept_at distances) (sym (get_or_append_left order (u ∷ []) 0 l less)) ∙ g))
        | inr ge ↦ (let last : length order ≡ l = omega (arith, lt, length_push order u) in
            let i : n ≡ distance = some_is n distance _ g (ap (kept_at distances) (get_or_push order u 0 l last) ∙ u_at) in
            omega (arith, i, no_farther _ m (get_in (order ++ u ∷ []) k k_in) d))
      ]

  after_within : All (λ x. x < length new) after
  after_within k d lt =
      let x : ℕ = get_or after k d in
      let t : has_index after x ≡ true = in_any (λ j. j == x) after x (place_in after k d lt) (eq-eqb x x refl) in
      elim (offers.only x t) [
        | inl l ↦ omega (arith, same_long, all_has (λ y. y < length distances) found x h.found_within (left_found x l))
        | inr o ↦ omega (arith, same_long, h.long, edge_inside x o.1 o.2)
      ]

  pub settling_next : IsSettling rows root (order ++ u ∷ []) after new
  settling_next = record {
    long = same_long ∙ h.long;
    at_root = (let k = offers.kept root 0 h.at_root in let z : k.0 ≡ 0 = omega (arith, k.1) in k.2 ∙ ap Some z);
    over = over_next;
    no_shorter = no_shorter_next;
    somewhere = somewhere_next;
    settled = settled_next;
    nearer = nearer_next;
    ascending = ascending_next;
    order_within = rw same_long (All-append (λ x. x < length distances) order (u ∷ []) h.order_within (one (λ x. x < length distances) u (all_has (λ x. x < length distances) found u h.found_within u_found)));
    found_within = after_within;
    count =
        omega (arith, h.count, offers.count, length_push order u, fewer);
    small = λ x n e. elim (offers.source x n e) [
      | inl s ↦ omega (arith, h.small x n s, length_push order u)
      | inr f ↦ omega (arith, h.small u distance u_at, weight_small x f.0 f.1, f.2, length_push order u)
    ];
  }

-- ---- where none that is found has a distance, all are settled

module _ (rows : List (List Neighbour)) (root : ℕ) (order found : List ℕ) (distances : List (Option ℕ)) (h : IsSettling rows root order found distances)
    (none : All (λ x. kept_at distances x ≡ None) found) where
  all_settled : (x n : ℕ) → kept_at distances x ≡ Some n → has_index order x ≡ true
  all_settled x n e = elim (h.somewhere x n e) [
    | inl t ↦ t
    | inr t ↦ (let i = all_has (λ y. kept_at distances y ≡ None) found x none t in let s : None ≡ Some n = sym i ∙ e in absurd (cc))
  ]

  pub are_nearest : AreNearest rows root distances
  are_nearest = record {
    long = h.long;
    at_root = h.at_root;
    over = λ x n e. elim (h.over x n e) [ inl i ↦ inl i | inr o ↦ inr (o.y, o.m, o.w, o.at, o.edge, o.sum) ];
    no_shorter = λ y m x w e l. h.no_shorter y m x w (all_settled y m e) e l;
  }

  pub is_order : IsOrder distances order
  is_order = record { within = h.order_within; few = omega (arith, h.count, h.long); reached = h.settled; whole = all_settled; ascending = h.ascending }
