-- A router offers its neighbours walks over it, one after the other.
use Rattle.std.proofs.Common.{◌≡◌, ℕ, ◌+◌, ◌<◌, ◌≤◌, Bool, true, false, cond, ◌&&◌, ◌==◌, List, [], ◌∷◌, ◌++◌, Option, Some, None, is_none, ◌⊎◌, inl, inr, length, get_or, set, take, get_or-set_same, get_or-set_other, refl, sym, ap, ◌∙◌, subst, arith}
use Rattle.std.proofs.lemmas.Bool.{false≢true, cases_eq, and_parts, and_from, or_cases, or_left, or_right, eq-eqb, eqb-true}
use Rattle.std.proofs.lemmas.List.{length_push, take_more}
use Rattle.std.proofs.lemmas.List.Folds.{list_any-append}
use Rattle.std.proofs.lemmas.List.Sums.{sum_by-set}
use Rattle.zr_tree_parents.specs.declared.row.Neighbour.{Neighbour}
use Rattle.zr_tree_parents.specs.Distance.{kept_at}
use Rattle.zr_tree_parents.specs.Search.{has_index, leads_to, nones, Offers}

-- ---- indexes in a list

pub has_left : (xs ys : List ℕ) (x : ℕ) → has_index xs x ≡ true → has_index (xs ++ ys) x ≡ true
has_left xs ys x h = list_any-append (λ j. j == x) xs ys ∙ or_left (has_index xs x) (has_index ys x) h

pub has_right : (xs ys : List ℕ) (x : ℕ) → has_index ys x ≡ true → has_index (xs ++ ys) x ≡ true
has_right xs ys x h = list_any-append (λ j. j == x) xs ys ∙ or_right (has_index xs x) (has_index ys x) h

pub has_itself : (x : ℕ) → has_index (x ∷ []) x ≡ true
has_itself x = or_left (x == x) false (eq-eqb x x refl)

pub has_pushed : (xs : List ℕ) (y x : ℕ) → has_index (xs ++ y ∷ []) x ≡ true → (has_index xs x ≡ true) ⊎ (x ≡ y)
has_pushed xs y x h = elim (or_cases (has_index xs x) (has_index (y ∷ []) x) (sym (list_any-append (λ j. j == x) xs (y ∷ [])) ∙ h)) [
  | inl t ↦ inl t
  | inr t ↦ inr (elim (or_cases (y == x) false t) [ inl e ↦ sym (eqb-true y x e) | inr f ↦ absurd (false≢true f) ])
]

-- ---- edges in a row

module _ (x w : ℕ) where
  abbrev test : Neighbour → Bool
  test n = n.index == x && n.weight == w

  pub leads_one : (n : Neighbour) → leads_to (n ∷ []) x w ≡ true → (n.index ≡ x) × (n.weight ≡ w)
  leads_one n h = elim (or_cases (test n) false h) [
    | inl t ↦ (let both = and_parts (n.index == x) (n.weight == w) t in (eqb-true n.index x both.0, eqb-true n.weight w both.1))
    | inr f ↦ absurd (false≢true f)
  ]

  pub leads_append : (ms ns : List Neighbour) → leads_to (ms ++ ns) x w ≡ true → (leads_to ms x w ≡ true) ⊎ (leads_to ns x w ≡ true)
  leads_append ms ns h = or_cases (leads_to ms x w) (leads_to ns x w) (sym (list_any-append test ms ns) ∙ h)

  pub leads_left : (ms ns : List Neighbour) → leads_to ms x w ≡ true → leads_to (ms ++ ns) x w ≡ true
  leads_left ms ns h = list_any-append test ms ns ∙ or_left (leads_to ms x w) (leads_to ns x w) h

  pub leads_right : (ms ns : List Neighbour) → leads_to ns x w ≡ true → leads_to (ms ++ ns) x w ≡ true
  leads_right ms ns h = list_any-append test ms ns ∙ or_right (leads_to ms x w) (leads_to ns x w) h

pub leads_itself : (n : Neighbour) → leads_to (n ∷ []) n.index n.weight ≡ true
leads_itself n = or_left _ false (and_from (n.index == n.index) (n.weight == n.weight) (eq-eqb n.index n.index refl) (eq-eqb n.weight n.weight refl))

-- ---- offers

-- a neighbour that is not nearer by the walk keeps its distance
pub offers_none : (distances : List (Option ℕ)) (found : List ℕ) (distance : ℕ) → Offers distances distances found found [] distance
offers_none distances found distance = record {
  source = λ x n e. inl e;
  kept = λ x m e. (m, omega arith, e);
  taken = λ x w h. absurd (false≢true h);
  still = λ x h. h;
  opened = λ x n e f. let s : None ≡ Some n = sym e ∙ f in absurd (cc);
  only = λ x h. inl h;
  count = refl;
}

pub offers_no_nearer : (distances : List (Option ℕ)) (found : List ℕ) (n : Neighbour) (distance known : ℕ) → kept_at distances n.index ≡ Some known → known ≤ distance + n.weight →
    Offers distances distances found found (n ∷ []) distance
offers_no_nearer distances found n distance known at le = record {
  source = λ x m e. inl e;
  kept = λ x m e. (m, omega arith, e);
  taken = λ x w h.
      let is = leads_one x w n h in
      (known, omega (arith, is.1), ap (kept_at distances) (sym is.0) ∙ at);
  still = λ x h. h;
  opened = λ x m e f. let s : None ≡ Some m = sym e ∙ f in absurd (cc);
  only = λ x h. inl h;
  count = refl;
}

-- one that is gets the new distance, and is open if it had none
module _ (distances : List (Option ℕ)) (found : List ℕ) (n : Neighbour) (distance : ℕ) (lt : n.index < length distances) where
  abbrev offered : ℕ
  offered = distance + n.weight

  abbrev after : List (Option ℕ)
  after = set distances n.index (Some offered)

  here : (x : ℕ) → x ≡ n.index → kept_at after x ≡ Some offered
  here x e = ap (kept_at after) e ∙ get_or-set_same distances n.index (Some offered) None lt

  there : (x : ℕ) → (x ≡ n.index → ⊥) → kept_at after x ≡ kept_at distances x
  there x ne = get_or-set_other distances n.index x (Some offered) None ne

  source_of : (x m : ℕ) → kept_at after x ≡ Some m → (kept_at distances x ≡ Some m) ⊎ ((w : ℕ) × (leads_to (n ∷ []) x w ≡ true) × (m ≡ distance + w))
  source_of x m e = elim (cases_eq x n.index) [
    | inl i ↦ (let s : Some offered ≡ Some m = sym (here x i) ∙ e in
        let j : offered ≡ m = cc in
        inr (n.weight, subst (λ (z : ℕ). leads_to (n ∷ []) z n.weight ≡ true) (sym i) (leads_itself n), sym j))
    | inr ne ↦ inl (sym (there x ne) ∙ e)
  ]

  taken_by : (x w : ℕ) → leads_to (n ∷ []) x w ≡ true → (m : ℕ) × (m ≤ distance + w) × (kept_at after x ≡ Some m)
  taken_by x w h = let is = leads_one x w n h in (offered, omega (arith, is.1), here x (sym is.0))

  counts : nones after + nones (kept_at distances n.index ∷ []) ≡ nones distances
  counts =
      let s = sum_by-set (λ (o : Option ℕ). cond (is_none o) 1 0) distances n.index (Some offered) None lt in
      omega (arith, s)

  pub offers_new : kept_at distances n.index ≡ None → Offers distances after found (found ++ n.index ∷ []) (n ∷ []) distance
  offers_new none = record {
    source = source_of;
    kept = λ x m e.
        (m, omega arith, there x (λ i. let s : None ≡ Some m = sym none ∙ ap (kept_at distances) (sym i) ∙ e in absurd (cc)) ∙ e);
    taken = taken_by;
    still = λ x h. has_left found (n.index ∷ []) x h;
    opened = λ x m e f. elim (cases_eq x n.index) [
      | inl i ↦ subst (λ (z : ℕ). has_index (found ++ n.index ∷ []) z ≡ true) (sym i) (has_right found (n.index ∷ []) n.index (has_itself n.index))
      | inr ne ↦ (let s : None ≡ Some m = sym e ∙ sym (there x ne) ∙ f in absurd (cc))
    ];
    only = λ x h. elim (has_pushed found n.index x h) [
      | inl t ↦ inl t
      | inr i ↦ inr (ap (kept_at distances) i ∙ none, n.weight, subst (λ (z : ℕ). leads_to (n ∷ []) z n.weight ≡ true) (sym i) (leads_itself n))
    ];
    count =
        let one : nones (kept_at distances n.index ∷ []) ≡ 1 = ap (λ (o : Option ℕ). nones (o ∷ [])) none in
        omega (arith, length_push found n.index, counts, one);
  }

  pub offers_nearer : (known : ℕ) → kept_at distances n.index ≡ Some known → offered ≤ known → Offers distances after found found (n ∷ []) distance
  offers_nearer known at le = record {
    source = source_of;
    kept = λ x m e. elim (cases_eq x n.index) [
      | inl i ↦ (let s : Some known ≡ Some m = sym at ∙ ap (kept_at distances) (sym i) ∙ e in
          let j : known ≡ m = cc in
          (offered, omega (arith, j), here x i))
      | inr ne ↦ (m, omega arith, there x ne ∙ e)
    ];
    taken = taken_by;
    still = λ x h. h;
    opened = λ x m e f. elim (cases_eq x n.index) [
      | inl i ↦ (let s : None ≡ Some known = sym e ∙ ap (kept_at distances) i ∙ at in absurd (cc))
      | inr ne ↦ (let s : None ≡ Some m = sym e ∙ sym (there x ne) ∙ f in absurd (cc))
    ];
    only = λ x h. inl h;
    count =
        let none : nones (kept_at distances n.index ∷ []) ≡ 0 = ap (λ (o : Option ℕ). nones (o ∷ [])) at in
        omega (arith, counts, none);
  }

-- offers one after the other
pub offers_more : (a b c : List (Option ℕ)) (p q r : List ℕ) (ms ns : List Neighbour) (distance : ℕ) → Offers a b p q ms distance → Offers b c q r ns distance → Offers a c p r (ms ++ ns) distance
offers_more a b c p q r ms ns distance h k = record {
  source = λ x n e. elim (k.source x n e) [
    | inl e' ↦ elim (h.source x n e') [
      | inl e'' ↦ inl e''
      | inr f ↦ inr (f.0, leads_left x f.0 ms ns f.1, f.2)
    ]
    | inr f ↦ inr (f.0, leads_right x f.0 ms ns f.1, f.2)
  ];
  kept = λ x m e.
      let f = h.kept x m e in
      let g = k.kept x f.0 f.2 in
      (g.0, omega (arith, f.1, g.1), g.2);
  taken = λ x w t. elim (leads_append x w ms ns t) [
    | inl l ↦ (let f = h.taken x w l in
        let g = k.kept x f.0 f.2 in
        (g.0, omega (arith, f.1, g.1), g.2))
    | inr l ↦ k.taken x w l
  ];
  still = λ x t. k.still x (h.still x t);
  opened = λ x n e f. opened_by x n e f (kept_at b x) refl;
  only = λ x t. elim (k.only x t) [
    | inl l ↦ elim (h.only x l) [ inl m ↦ inl m | inr e ↦ inr (e.0, e.1, leads_left x e.1 ms ns e.2) ]
    | inr e ↦ inr (none_before x e.0 (kept_at a x) refl, e.1, leads_right x e.1 ms ns e.2)
  ];
  count = omega (arith, h.count, k.count);
}
  where
    opened_by : (x n : ℕ) → kept_at a x ≡ None → kept_at c x ≡ Some n → (o : Option ℕ) → kept_at b x ≡ o → has_index r x ≡ true
    opened_by x n e f None g = k.opened x n g f
    opened_by x n e f (Some m) g = k.still x (h.opened x m e g)

    none_before : (x : ℕ) → kept_at b x ≡ None → (o : Option ℕ) → kept_at a x ≡ o → kept_at a x ≡ None
    none_before x e None g = g
    none_before x e (Some m) g = let f = h.kept x m g in let s : None ≡ Some f.0 = sym e ∙ f.2 in absurd (cc)

-- one neighbour more
pub offers_next : (old mid new : List (Option ℕ)) (p q r : List ℕ) (edges : List Neighbour) (k : ℕ) (d : Neighbour) (distance : ℕ) → k < length edges →
    Offers old mid p q (take k edges) distance → Offers mid new q r (get_or edges k d ∷ []) distance → Offers old new p r (take (k + 1) edges) distance
offers_next old mid new p q r edges k d distance lt h one = rw (take_more edges k d lt) (offers_more old mid new p q r (take k edges) (get_or edges k d ∷ []) distance h one)
