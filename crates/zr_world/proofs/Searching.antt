-- A search from one router finds whoever is reached from it; and where it finds all, each is reached from each other, since links go both ways.
use Rattle.std.proofs.Common.{◌≡◌, ℕ, ◌+◌, ◌<◌, suc, drop, get_or, drop-cons, add-one, append_assoc, Bool, true, false, cond, not, List, [], ◌∷◌, ◌++◌, length, Option, Some, None, refl, sym, ap, ◌∙◌, subst, arith}
use Rattle.std.specs.Prelude.{◌&&◌, ◌||◌, ◌==◌, is_some, max, min, slice_index_or}
use Rattle.std.specs.List.{filter, list_any, list_all}
use Rattle.std.specs.List.Sorted.{IsStrictlySortedBy}
use Rattle.std.specs.Map.{lookup, keys_of}
use Rattle.std.specs.Ordering.{nat_cmp}
use Rattle.std.specs.Cmp.Lexicographic.{slice_cmp}
use Rattle.std.proofs.lemmas.Bool.{false≢true, true≢false, and_parts, and_from, eqb-true, eqb-false}
use Rattle.std.proofs.Math.Bool.{and-false}
use Rattle.zr_id.specs.Zid.{is_named}
use Rattle.zr_graph.specs.Record.{has}
use Rattle.zr_tree.specs.Walk.{Graph, IsWalk}
use Rattle.zr_tree.specs.Tree.{dist, reached}
use Rattle.zr_tree.specs.Laws.{IsGraph}
use Rattle.zr_tree.proofs.Paths.{exact, walk_back, walk_reaches}
use Rattle.zr_lists.proofs.Finds.{any_in, in_any}
use Rattle.zr_world_spec.specs.World.{WorldState, Ends, end_of, end_weight, is_up, is_linked}
use Rattle.zr_world_spec.specs.Joined.{graph, is_joined, linked_weight}
use Rattle.zr_world_spec.specs.Sound.{IsSound}
use Rattle.zr_world_spec.proofs.Names.{names, same_name}
use Rattle.zr_world_spec.proofs.Fits.{up_is_there}
use Rattle.zr_world.specs.Search.{IsSearched}

-- ---- names in lists

pub has_filter : (p : List ℕ → Bool) (ns : List (List ℕ)) (y : List ℕ) → has (filter p ns) y ≡ (has ns y && p y)
has_filter p [] y = refl
has_filter p (n ∷ ns) y = by (p n) (is_named n y) refl refl (has_filter p ns y)
  where
    with_false : (b : Bool) → (b && false) ≡ false
    with_false true = refl
    with_false false = refl

    by : (b c : Bool) → p n ≡ b → is_named n y ≡ c → has (filter p ns) y ≡ (has ns y && p y) →
        has (cond b (n ∷ filter p ns) (filter p ns)) y ≡ ((is_named n y || has ns y) && p y)
    by true true e f ih = ap (λ z. z || has (filter p ns) y) f ∙ sym (ap (λ z. (z || has ns y) && p y) f ∙ sym (ap p (same_name n y f)) ∙ e)
    by true false e f ih = ap (λ z. z || has (filter p ns) y) f ∙ ih ∙ sym (ap (λ z. (z || has ns y) && p y) f)
    by false true e f ih = ih ∙ ap (λ z. has ns y && z) (sym (ap p (same_name n y f)) ∙ e) ∙ with_false (has ns y)
        ∙ sym (ap (λ z. (z || has ns y) && p y) f ∙ sym (ap p (same_name n y f)) ∙ e)
    by false false e f ih = ih ∙ sym (ap (λ z. (z || has ns y) && p y) f)

pub has_key : {X : Type 0} (es : List (List ℕ × X)) (x : List ℕ) → is_some (lookup (is_named x) es) ≡ has (keys_of es) x
has_key [] x = refl
has_key (e ∷ es) x = by (is_named x e.0) refl (has_key es x)
  where
    by : (b : Bool) → is_named x e.0 ≡ b → is_some (lookup (is_named x) es) ≡ has (keys_of es) x →
        is_some (cond b (Some e.1) (lookup (is_named x) es)) ≡ (is_named e.0 x || has (keys_of es) x)
    by true h ih = sym (ap (λ z. z || has (keys_of es) x) (names.symm e.0 x ∙ h))
    by false h ih = ih ∙ sym (ap (λ z. z || has (keys_of es) x) (names.symm e.0 x ∙ h))

-- what all names pass, each passes
pub all_pass : (p : List ℕ → Bool) (ns : List (List ℕ)) (y : List ℕ) → list_all p ns ≡ true → has ns y ≡ true → p y ≡ true
all_pass p [] y h i = absurd (false≢true i)
all_pass p (n ∷ ns) y h i = by (is_named n y) refl i (all_pass p ns y (and_parts (p n) (list_all p ns) h).1)
  where
    by : (b : Bool) → is_named n y ≡ b → (b || has ns y) ≡ true → (has ns y ≡ true → p y ≡ true) → p y ≡ true
    by true e j ih = sym (ap p (same_name n y e)) ∙ (and_parts (p n) (list_all p ns) h).0
    by false e j ih = ih j

pub pass_all : (p : List ℕ → Bool) (ns : List (List ℕ)) → ((y : List ℕ) → has ns y ≡ true → p y ≡ true) → list_all p ns ≡ true
pass_all p [] h = refl
pass_all p (n ∷ ns) h = and_from (p n) (list_all p ns) (h n (ap (λ z. z || has ns n) (names.refl n))) (pass_all p ns (λ y i. h y (later y i)))
  where
    later : (y : List ℕ) → has ns y ≡ true → (is_named n y || has ns y) ≡ true
    later y i = by (is_named n y)
      where
        by : (b : Bool) → (b || has ns y) ≡ true
        by true = refl
        by false = i

-- ---- the graph of a sound world

both_linked : (ends : Ends) (x y : List ℕ) → is_linked ends x y ≡ is_linked ends y x
both_linked ends x y = by (is_up ends (x, y)) (is_up ends (y, x))
  where
    by : (a b : Bool) → (a && b) ≡ (b && a)
    by true true = refl
    by true false = refl
    by false true = refl
    by false false = refl

-- the weight of a link has no direction
weight_back : (ends : Ends) (x y : List ℕ) → linked_weight ends x y ≡ linked_weight ends y x
weight_back ends x y = by (is_up ends (x, y)) (is_up ends (y, x))
  where
    by : (s t : Bool) → cond (s && t) (max (end_weight ends (x, y)) (end_weight ends (y, x))) 0 ≡ cond (t && s) (max (end_weight ends (y, x)) (end_weight ends (x, y))) 0
    by true true = omega arith
    by true false = refl
    by false true = refl
    by false false = refl

pub is_graph : (w : WorldState) → IsSound w → IsStrictlySortedBy (slice_cmp nat_cmp) (keys_of w.routers) → IsGraph (graph w)
is_graph w sound ascending = record {
  ascending = ascending;
  known = λ x y h. sym (has_key w.routers x) ∙ sound.routers x y (up_is_there (end_of w.ends (x, y)) (and_parts (is_up w.ends (x, y)) (is_up w.ends (y, x)) h).0);
  both_ways = λ x y h. both_linked w.ends y x ∙ h;
  as_long = λ x y. ap (λ n. max 1 n) (weight_back w.ends x y);
}

-- ---- walks

module _ (g : Graph) (is : IsGraph g) where
  reaches_by : (x : List ℕ) (path : List (List ℕ)) (z : List ℕ) → IsWalk g x path z → reached g x z ≡ true
  reaches_by x path z walk = ap is_some (walk_reaches g is x z path walk).2

  walk_of : (x z : List ℕ) → reached g x z ≡ true → (path : List (List ℕ)) × IsWalk g x path z
  walk_of x z h = by (dist g x z) refl h
    where
      by : (o : Option ℕ) → dist g x z ≡ o → is_some o ≡ true → (path : List (List ℕ)) × IsWalk g x path z
      by None e k = absurd (false≢true k)
      by (Some n) e k = let d = ((exact g is x z n).is_shortest e).walk in (d.0, d.1)

  walk_on : (x : List ℕ) (path : List (List ℕ)) (y : List ℕ) (more : List (List ℕ)) (z : List ℕ) → IsWalk g x path y → IsWalk g y more z → IsWalk g x (path ++ more) z
  walk_on x [] y more z a b = subst (λ (v : List ℕ). IsWalk g v more z) (sym a) b
  walk_on x (v ∷ path) y more z a b = (a.0, walk_on v path y more z a.1 b)

  pub reaches_itself : (x : List ℕ) → reached g x x ≡ true
  reaches_itself x = reaches_by x [] x refl

  -- whoever is reached reaches its neighbours
  pub reaches_on : (x y z : List ℕ) → reached g x y ≡ true → g.joined y z ≡ true → reached g x z ≡ true
  reaches_on x y z h j = let a = walk_of x y h in reaches_by x (a.0 ++ z ∷ []) z (walk_on x a.0 y (z ∷ []) z a.1 (j, refl))

  -- two that one router reaches reach each other
  pub reaches_each : (root x y : List ℕ) → reached g root x ≡ true → reached g root y ≡ true → reached g x y ≡ true
  reaches_each root x y h k =
      let a = walk_of root x h in
      let b = walk_of root y k in
      let back = walk_back g is root x a.0 a.1 in
      reaches_by x (back.0 ++ b.0) y (walk_on x back.0 root b.0 y back.1 b.1)

-- ---- the search

module _ (w : WorldState) (is : IsGraph (graph w)) (root : List ℕ) where
  -- it begins with the root
  pub begun : has (keys_of w.routers) root ≡ true → IsSearched w root (root ∷ []) (filter (λ y. not (is_named y root)) (keys_of w.routers))
  begun there = record {
    within = λ y h. (and_parts (has (keys_of w.routers) y) (not (is_named y root)) (sym (others y) ∙ h)).0;
    rooted = others root ∙ ap (λ b. has (keys_of w.routers) root && not b) (names.refl root) ∙ and-false (has (keys_of w.routers) root);
    fresh = λ x h. ap (has (keys_of w.routers)) (sym (only x h)) ∙ there;
    met = λ x h. ap (has (filter (λ y. not (is_named y root)) (keys_of w.routers))) (sym (only x h))
        ∙ others root ∙ ap (λ b. has (keys_of w.routers) root && not b) (names.refl root) ∙ and-false (has (keys_of w.routers) root);
    are_reached = λ y h k. ap (λ z. reached (graph w) root z) (same_name y root (not_other y h k)) ∙ reaches_itself (graph w) is root;
    closed = λ x y h k f j. absurd (false≢true (sym f ∙ ap (λ b. b || false) (names.symm root x ∙ not_other x h k)));
  }
    where
      others : (y : List ℕ) → has (filter (λ z. not (is_named z root)) (keys_of w.routers)) y ≡ (has (keys_of w.routers) y && not (is_named y root))
      others y = has_filter (λ z. not (is_named z root)) (keys_of w.routers) y

      only : (x : List ℕ) → has (root ∷ []) x ≡ true → root ≡ x
      only x h = same_name root x (by (is_named root x) h)
        where
          by : (b : Bool) → (b || false) ≡ true → b ≡ true
          by true k = refl
          by false k = absurd (false≢true k)

      not_other : (y : List ℕ) → has (keys_of w.routers) y ≡ true → has (filter (λ z. not (is_named z root)) (keys_of w.routers)) y ≡ false → is_named y root ≡ true
      not_other y h k = by (is_named y root) (sym (ap (λ b. b && not (is_named y root)) h) ∙ sym (others y) ∙ k)
        where
          by : (b : Bool) → (true && not b) ≡ false → b ≡ true
          by true e = refl
          by false e = absurd (true≢false e)

  -- one step further
  module _ (found missing : List (List ℕ)) where
    abbrev pub near : List ℕ → Bool
    near y = list_any (λ x. is_linked w.ends x y) found

    pub gone_on : IsSearched w root found missing → IsSearched w root (filter near missing) (filter (λ y. not (near y)) missing)
    gone_on s = record {
      within = λ y h. s.within y (and_parts (has missing y) (not (near y)) (sym (left y) ∙ h)).0;
      rooted = left root ∙ ap (λ b. b && not (near root)) s.rooted;
      fresh = λ x h. s.within x (and_parts (has missing x) (near x) (sym (new x) ∙ h)).0;
      met = λ x h. left x ∙ ap (λ b. has missing x && not b) (and_parts (has missing x) (near x) (sym (new x) ∙ h)).1 ∙ and-false (has missing x);
      are_reached = λ y h k. is_reached y h (has missing y) (near y) refl refl (sym (left y) ∙ k);
      closed = λ x y h k f j. is_closed x y h j (has missing x) (has found x) refl refl (sym (left x) ∙ k) (sym (new x) ∙ f);
    }
      where
        left : (y : List ℕ) → has (filter (λ z. not (near z)) missing) y ≡ (has missing y && not (near y))
        left y = has_filter (λ z. not (near z)) missing y

        new : (y : List ℕ) → has (filter near missing) y ≡ (has missing y && near y)
        new y = has_filter near missing y

        is_reached : (y : List ℕ) → has (keys_of w.routers) y ≡ true → (m n : Bool) → has missing y ≡ m → near y ≡ n → (has missing y && not (near y)) ≡ false →
            reached (graph w) root y ≡ true
        is_reached y h false n e f k = s.are_reached y h e
        is_reached y h true false e f k = absurd (true≢false (sym (ap (λ b. b && not (near y)) e ∙ ap not f) ∙ k))
        is_reached y h true true e f k =
            let x = any_in (λ x. is_linked w.ends x y) found f in
            let there : has found x.0 ≡ true = in_any (λ z. is_named z x.0) found x.0 x.1 (names.refl x.0) in
            reaches_on (graph w) is root x.0 y (s.are_reached x.0 (s.fresh x.0 there) (s.met x.0 there)) x.2

        is_closed : (x y : List ℕ) → has (keys_of w.routers) x ≡ true → is_linked w.ends x y ≡ true → (m f : Bool) → has missing x ≡ m → has found x ≡ f →
            (has missing x && not (near x)) ≡ false → (has missing x && near x) ≡ false → has (filter (λ z. not (near z)) missing) y ≡ false
        is_closed x y h j true f e g k l = absurd (by (near x) (sym (ap (λ b. b && not (near x)) e) ∙ k) (sym (ap (λ b. b && near x) e) ∙ l))
          where
            by : (b : Bool) → not b ≡ false → b ≡ false → ⊥
            by true p q = true≢false q
            by false p q = true≢false p
        is_closed x y h j false true e g k l = left y ∙ ap (λ b. has missing y && not b) linked ∙ and-false (has missing y)
          where
            linked : near y ≡ true
            linked = let z = any_in (λ z. is_named z x) found g in in_any (λ z. is_linked w.ends z y) found z.0 z.1 (ap (λ v. is_linked w.ends v y) (same_name z.0 x z.2) ∙ j)
        is_closed x y h j false false e g k l = left y ∙ ap (λ b. b && not (near y)) (s.closed x y h e g j)

  -- ---- its end

  pub all_found : IsSearched w root [] [] → is_joined w ≡ true
  all_found s = pass_all (λ x. list_all (λ y. reached (graph w) x y) (keys_of w.routers)) (keys_of w.routers)
      (λ x h. pass_all (λ y. reached (graph w) x y) (keys_of w.routers) (λ y k. reaches_each (graph w) is root x y (s.are_reached x h refl) (s.are_reached y k refl)))

  -- who is missing is not reached
  along : (missing : List (List ℕ)) → IsSearched w root [] missing → (x : List ℕ) (path : List (List ℕ)) (z : List ℕ) → IsWalk (graph w) x path z →
      has (keys_of w.routers) x ≡ true → has missing x ≡ false → has missing z ≡ false
  along missing s x [] z walk h k = ap (has missing) (sym walk) ∙ k
  along missing s x (y ∷ path) z walk h k =
      along missing s y path z walk.1 (is.known y x (is.both_ways x y walk.0)) (s.closed x y h k refl walk.0)

  pub not_found : (z : List ℕ) (missing : List (List ℕ)) → has (keys_of w.routers) root ≡ true → IsSearched w root [] (z ∷ missing) → is_joined w ≡ false
  not_found z missing there s = by (is_joined w) refl
    where
      own : has (z ∷ missing) z ≡ true
      own = ap (λ b. b || has missing z) (names.refl z)

      by : (b : Bool) → is_joined w ≡ b → b ≡ false
      by false e = refl
      by true e =
          let from_root = all_pass (λ x. list_all (λ y. reached (graph w) x y) (keys_of w.routers)) (keys_of w.routers) root e there in
          let to_z = all_pass (λ y. reached (graph w) root y) (keys_of w.routers) z from_root (s.within z own) in
          let walk = walk_of (graph w) is root z to_z in
          absurd (true≢false (sym own ∙ along (z ∷ missing) s root walk.0 z walk.1 there s.rooted))

-- ---- it ends

pub both_parts : {X : Type 0} (p : X → Bool) (xs : List X) → length (filter p xs) + length (filter (λ x. not (p x)) xs) ≡ length xs
both_parts p [] = refl
both_parts p (x ∷ xs) = by (p x) (both_parts p xs)
  where
    by : (b : Bool) → length (filter p xs) + length (filter (λ y. not (p y)) xs) ≡ length xs →
        length (cond b (x ∷ filter p xs) (filter p xs)) + length (cond (not b) (x ∷ filter (λ y. not (p y)) xs) (filter (λ y. not (p y)) xs)) ≡ suc (length xs)
    by true ih = omega (arith, ih)
    by false ih = omega (arith, ih)

-- a round leaves fewer missing, or finds none
pub fewer : {X : Type 0} (p : X → Bool) (found missing near far : List X) → (length found == 0) ≡ false → near ≡ filter p missing → far ≡ filter (λ x. not (p x)) missing →
    length far + min 1 (length near) < length missing + min 1 (length found)
fewer p found missing near far some e f = omega (arith, eqb-false (length found) 0 some, both_parts p missing, ap length e, ap length f)

-- where no more are found
module _ (w : WorldState) (is : IsGraph (graph w)) (root : List ℕ) (there : has (keys_of w.routers) root ≡ true) where
  pub ended : (found missing : List (List ℕ)) → IsSearched w root found missing → (length found == 0) ≡ true → (length missing == 0) ≡ is_joined w
  ended (f ∷ fs) missing s none = absurd (omega (arith, eqb-true (length (f ∷ fs)) 0 none))
  ended [] [] s none = sym (all_found w is root s)
  ended [] (z ∷ zs) s none = by (length (z ∷ zs) == 0) refl
    where
      by : (b : Bool) → (length (z ∷ zs) == 0) ≡ b → b ≡ is_joined w
      by true e = absurd (omega (arith, eqb-true (length (z ∷ zs)) 0 e))
      by false e = sym (not_found w is root z zs there s)

-- the first of some names is among them
pub first_has : (ns : List (List ℕ)) (r d : List ℕ) → (length ns == 0) ≡ false → r ≡ slice_index_or ns 0 d → has ns r ≡ true
first_has [] r d h e = absurd (true≢false h)
first_has (n ∷ ns) r d h e = ap (λ z. is_named n z || has ns z) e ∙ ap (λ b. b || has ns n) (names.refl n)

-- ---- a list that is gone through, and what of it is kept

pub kept_more : (p : List ℕ → Bool) (xs acc acc' all : List (List ℕ)) (i : ℕ) (y : List ℕ) (b : Bool) → i < length xs → y ≡ get_or xs i y → p y ≡ b → acc' ≡ acc ++ cond b (y ∷ []) [] →
    acc ++ filter p (drop i xs) ≡ all → acc' ++ filter p (drop (i + 1) xs) ≡ all
kept_more p xs acc acc' all i y b lt at e f h = ap (λ z. z ++ filter p (drop (i + 1) xs)) f ∙ by b e ∙ h
  where
    next : drop i xs ≡ y ∷ drop (i + 1) xs
    next = rw add-one (drop-cons xs i y lt ∙ ap (λ z. z ∷ drop (suc i) xs) (sym at))

    by : (c : Bool) → p y ≡ c → (acc ++ cond c (y ∷ []) []) ++ filter p (drop (i + 1) xs) ≡ acc ++ filter p (drop i xs)
    by true g = append_assoc acc (y ∷ []) (filter p (drop (i + 1) xs)) ∙ ap (λ z. acc ++ z) (sym (ap (filter p) next ∙ ap (λ c. cond c (y ∷ filter p (drop (i + 1) xs)) (filter p (drop (i + 1) xs))) g))
    by false g = append_assoc acc [] (filter p (drop (i + 1) xs)) ∙ ap (λ z. acc ++ z) (sym (ap (filter p) next ∙ ap (λ c. cond c (y ∷ filter p (drop (i + 1) xs)) (filter p (drop (i + 1) xs))) g))
