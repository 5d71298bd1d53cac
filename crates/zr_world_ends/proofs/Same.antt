-- Ends in order are told by what look-ups find; and so a change of one end is a replacement.
use Rattle.std.proofs.Common.{◌≡◌, Bool, true, false, cond, List, [], ◌∷◌, map, Option, Some, None, Ordering, Less, Equal, Greater, refl, sym, ap, ◌∙◌, subst}
use Rattle.std.specs.Prelude.{is_some}
use Rattle.std.specs.List.{AllByRecursion}
use Rattle.std.specs.List.Sorted.{IsStrictlySortedBy}
use Rattle.std.specs.Map.{keys_of}
use Rattle.std.specs.Option.{option_map}
use Rattle.std.proofs.lemmas.Map.Keys.{sorted_head, sorted_tail}
use Rattle.std.specs.Ordering.{is_eq, ordering_reverse}
use Rattle.std.proofs.lemmas.Bool.{true≢false, false≢true}
use Rattle.std.proofs.lemmas.Map.{keys-set_value}
use Rattle.zr_world_spec.specs.World.{End, end_cmp, is_end}
use Rattle.zr_world_spec.proofs.Ends.{ends, end_order, same_end}
use Rattle.zr_world_spec.proofs.Keyed.{lookup_set, lookup_insert, lookup_where, keys_where, sorted_insert}
use Rattle.std.specs.BTreeMap.{insert_entry}
use Rattle.zr_lists.proofs.Options.{not_there}
use Rattle.zr_world_ends.specs.Named.{at_end, set_at, put_at, change_at, change_found}

-- a key that stands before all of these is none of them
not_before : {S : Type 0} (k q : End) (es : List (End × S)) → AllByRecursion (λ y. end_cmp k y ≡ Less) (keys_of es) → is_end q k ≡ true → at_end es q ≡ None
not_before k q [] h same = refl
not_before k q (e ∷ es) h same =
    ap (λ b. cond b (Some e.1) (at_end es q)) (ends.congr q k e.0 same ∙ ap is_eq h.0) ∙ not_before k q es h.1 same

-- a key that stands before the first of these stands before all
beyond : (k l : End) → end_cmp k l ≡ Less → (ks : List End) → AllByRecursion (λ y. end_cmp l y ≡ Less) ks → AllByRecursion (λ y. end_cmp k y ≡ Less) ks
beyond k l less [] h = tt
beyond k l less (y ∷ ks) h = (end_order.trans k l y less h.0, beyond k l less ks h.1)

-- nothing is found under a key that stands before all
none_before : {S : Type 0} (k : End) (f : End × S) (fs : List (End × S)) → end_cmp k f.0 ≡ Less → IsStrictlySortedBy end_cmp (keys_of (f ∷ fs)) → at_end (f ∷ fs) k ≡ None
none_before k f fs less s = not_before k k (f ∷ fs) (less, beyond k f.0 less (keys_of fs) (sorted_head end_cmp f.0 (keys_of fs) s)) (ends.refl k)

found_first : {S : Type 0} (e : End × S) (es : List (End × S)) → at_end (e ∷ es) e.0 ≡ Some e.1
found_first e es = ap (λ b. cond b (Some e.1) (at_end es e.0)) (ends.refl e.0)

-- two lists in order with the same look-ups are one
pub same_sorted : {S : Type 0} (es fs : List (End × S)) → IsStrictlySortedBy end_cmp (keys_of es) → IsStrictlySortedBy end_cmp (keys_of fs) → ((q : End) → at_end es q ≡ at_end fs q) → es ≡ fs
same_sorted [] [] s t h = refl
same_sorted [] (f ∷ fs) s t h = absurd (false≢true (ap is_some (h f.0 ∙ found_first f fs)))
same_sorted (e ∷ es) [] s t h = absurd (true≢false (ap is_some (sym (found_first e es) ∙ h e.0)))
same_sorted (e ∷ es) (f ∷ fs) s t h = by (end_cmp e.0 f.0) refl (same_sorted es fs (sorted_tail end_cmp e.0 (keys_of es) s) (sorted_tail end_cmp f.0 (keys_of fs) t))
  where
    by : (o : Ordering) → end_cmp e.0 f.0 ≡ o → (((q : End) → at_end es q ≡ at_end fs q) → es ≡ fs) → e ∷ es ≡ f ∷ fs
    by Less l rest = absurd (true≢false (ap is_some (sym (found_first e es) ∙ h e.0 ∙ none_before e.0 f fs l t)))
    by Greater l rest =
        let less : end_cmp f.0 e.0 ≡ Less = end_order.antisymm f.0 e.0 ∙ ap ordering_reverse l in
        absurd (true≢false (ap is_some (sym (found_first f fs) ∙ sym (h f.0) ∙ none_before f.0 e es less s)))
    by Equal l rest =
        let value : Some e.1 ≡ Some f.1 = sym (found_first e es) ∙ h e.0 ∙ ap (at_end (f ∷ fs)) first ∙ found_first f fs in
        let is : e.1 ≡ f.1 = cc in
        (λ i. (first i, is i) ∷ rest tails i)
      where
        first : e.0 ≡ f.0
        first = same_end e.0 f.0 (ap is_eq l)

        tails : (q : End) → at_end es q ≡ at_end fs q
        tails q = at (is_end q e.0) refl
          where
            at : (b : Bool) → is_end q e.0 ≡ b → at_end es q ≡ at_end fs q
            at true n =
                not_before e.0 q es (sorted_head end_cmp e.0 (keys_of es) s) n
                ∙ sym (not_before f.0 q fs (sorted_head end_cmp f.0 (keys_of fs) t) (ap (is_end q) (sym first) ∙ n))
            at false n =
                sym (ap (λ b. cond b (Some e.1) (at_end es q)) n) ∙ h q ∙ ap (λ b. cond b (Some f.1) (at_end fs q)) (ap (is_end q) (sym first) ∙ n)

-- two lists with the same keys in order and the same look-ups are one
pub same_ends : {S : Type 0} (es fs : List (End × S)) → keys_of es ≡ keys_of fs → IsStrictlySortedBy end_cmp (keys_of es) → ((q : End) → at_end es q ≡ at_end fs q) → es ≡ fs
same_ends es fs k s h = same_sorted es fs s (subst (IsStrictlySortedBy end_cmp) k s) h

-- ---- each value in place of another

module _ {S T : Type 0} (f : End → S → T) where
  pub at_mapped : (xs : List (End × S)) (q : End) → at_end (map (λ e. (e.0, f e.0 e.1)) xs) q ≡ option_map (f q) (at_end xs q)
  at_mapped [] q = refl
  at_mapped (x ∷ xs) q = by (is_end q x.0) refl (at_mapped xs q)
    where
      by : (b : Bool) → is_end q x.0 ≡ b → at_end (map (λ e. (e.0, f e.0 e.1)) xs) q ≡ option_map (f q) (at_end xs q) → cond b (Some (f x.0 x.1)) (at_end (map (λ e. (e.0, f e.0 e.1)) xs) q) ≡ option_map (f q) (cond b (Some x.1) (at_end xs q))
      by true n ih = ap (λ z. Some (f z x.1)) (sym (same_end q x.0 n))
      by false n ih = ih

  pub keys_mapped : (xs : List (End × S)) → keys_of (map (λ e. (e.0, f e.0 e.1)) xs) ≡ keys_of xs
  keys_mapped [] = refl
  keys_mapped (x ∷ xs) = ap (λ ks. x.0 ∷ ks) (keys_mapped xs)

-- ---- a replacement, and a change of one end

module _ {S : Type 0} (es : List (End × S)) (e : End) where
  pub set_is : (s : S) (q : End) → is_some (at_end es e) ≡ true → at_end (set_at es e s) q ≡ cond (is_end e q) (Some s) (at_end es q)
  set_is s q h = lookup_set end_order es e q s h

  pub keys_set : (s : S) → keys_of (set_at es e s) ≡ keys_of es
  keys_set s = keys-set_value (is_end e) es s

  pub change_is : (change : S → S) (q : End) → at_end (change_at es e change) q ≡ cond (is_end e q) (option_map change (at_end es q)) (at_end es q)
  change_is change q = lookup_where end_order same_end (λ k. is_end e k) (λ k s. change s) es q

  pub keys_change : (change : S → S) → keys_of (change_at es e change) ≡ keys_of es
  keys_change change = keys_where end_order (λ k. is_end e k) (λ k s. change s) es

-- a change behind a change is one
pub change_twice : {S : Type 0} (es : List (End × S)) (e : End) (f g : S → S) → change_at (change_at es e f) e g ≡ change_at es e (λ s. g (f s))
change_twice [] e f g = refl
change_twice (x ∷ es) e f g = by (is_end e x.0) refl (change_twice es e f g)
  where
    by : (b : Bool) → is_end e x.0 ≡ b → change_at (change_at es e f) e g ≡ change_at es e (λ s. g (f s)) → change_at (cond b (x.0, f x.1) x ∷ change_at es e f) e g ≡ cond b (x.0, g (f x.1)) x ∷ change_at es e (λ s. g (f s))
    by true n ih = rw n (ap (λ z. (x.0, g (f x.1)) ∷ z) ih)
    by false n ih = rw n (ap (λ z. x ∷ z) ih)

-- ---- one that is put in

module _ {S : Type 0} (es : List (End × S)) (e : End) (s : S) where
  pub put_is : (q : End) → at_end (put_at es e s) q ≡ cond (is_end e q) (Some s) (at_end es q)
  put_is q = by (is_some (at_end es e)) refl
    where
      by : (b : Bool) → is_some (at_end es e) ≡ b → at_end (cond b (set_at es e s) (insert_entry end_cmp es e s)) q ≡ cond (is_end e q) (Some s) (at_end es q)
      by true h = set_is es e s q h
      by false h = lookup_insert end_order es e q s (not_there (at_end es e) h)

  pub sorted_put : IsStrictlySortedBy end_cmp (keys_of es) → IsStrictlySortedBy end_cmp (keys_of (put_at es e s))
  sorted_put h = by (is_some (at_end es e))
    where
      by : (b : Bool) → IsStrictlySortedBy end_cmp (keys_of (cond b (set_at es e s) (insert_entry end_cmp es e s)))
      by true = subst (IsStrictlySortedBy end_cmp) (sym (keys_set es e s)) h
      by false = sorted_insert end_order es e s h

-- a change of an end is a replacement of what a look-up finds there
module _ {S : Type 0} where
  pub changed_by_look_up : (es : List (End × S)) (e : End) (change : S → S) → IsStrictlySortedBy end_cmp (keys_of es) → change_found es e change (at_end es e) ≡ change_at es e change
  changed_by_look_up es e change s = by (at_end es e) refl
    where
      found : (o : Option S) → at_end es e ≡ o → (q : End) → is_end e q ≡ true → at_end es q ≡ o
      found o h q n = ap (at_end es) (sym (same_end e q n)) ∙ h

      by : (o : Option S) → at_end es e ≡ o → change_found es e change o ≡ change_at es e change
      by None h = same_ends es (change_at es e change) (sym (keys_change es e change)) s (λ q. at q (is_end e q) refl ∙ sym (change_is es e change q))
        where
          at : (q : End) (b : Bool) → is_end e q ≡ b → at_end es q ≡ cond b (option_map change (at_end es q)) (at_end es q)
          at q false n = refl
          at q true n = found None h q n ∙ sym (ap (option_map change) (found None h q n))
      by (Some t) h = same_ends (set_at es e (change t)) (change_at es e change) (keys_set es e (change t) ∙ sym (keys_change es e change))
          (subst (IsStrictlySortedBy end_cmp) (sym (keys_set es e (change t))) s)
          (λ q. set_is es e (change t) q (ap is_some h) ∙ at q (is_end e q) refl ∙ sym (change_is es e change q))
        where
          at : (q : End) (b : Bool) → is_end e q ≡ b → cond b (Some (change t)) (at_end es q) ≡ cond b (option_map change (at_end es q)) (at_end es q)
          at q false n = refl
          at q true n = sym (ap (option_map change) (found (Some t) h q n))
