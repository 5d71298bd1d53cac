-- Each client with an interest that fits a place is found by the key of the interest, or wants all.
use Rattle.std.proofs.Common.{◌≡◌, ℕ, true, ◌&&◌, ◌||◌, List, [], ◌∷◌, map, inl, refl, sym, ap, ◌∙◌, subst}
use Rattle.std.specs.declared.option.Option.{Option}
use Rattle.std.specs.declared.option.Option.TheVariants.{None, Some}
use Rattle.std.specs.Prelude.{is_none, IfSome}
use Rattle.std.specs.List.Sorted.{IsStrictlySortedBy}
use Rattle.std.specs.List.{filter, list_any, AllByRecursion}
use Rattle.std.specs.Option.{option_map_or}
use Rattle.std.specs.Ordering.{is_eq, nat_cmp}
use Rattle.std.proofs.lemmas.Bool.{and_from, and_parts, or_left, or_right}
use Rattle.zr_index.specs.Meeting.{AreMeeting, meets_key}
use Rattle.zr_index.specs.Pairs.{Pairs, AreSame}
use Rattle.zr_index.proofs.Tests.{any_same, flipped, meets_is}
use Rattle.zr_key.specs.Key.{chunks, IsKeyText}
use Rattle.zr_lists.specs.Ascending.{has_key}
use Rattle.zr_lists.proofs.Elements.{each_in, flat_in, in_each}
use Rattle.zr_lists.proofs.Finds.{In, any_in, filter_in, in_any, map_in, same_any}
use Rattle.zr_lists.proofs.Order.{is_itself, is_same, nat_order}
use Rattle.zr_lists.proofs.Sorted.{keys_by}
use Rattle.zr_local.specs.Clients.{AreByLink, client_link}
use Rattle.zr_local.specs.declared.interest.ClientInterests.{ClientInterests}
use Rattle.zr_local.specs.declared.interest.Interest.{Interest}
use Rattle.zr_match.specs.Table.{texts_meet}
use Rattle.zr_match.proofs.Right.{meets_right}
use Rattle.zr_told_spec.specs.Rows.{is_touched}
use Rattle.zr_told_spec.specs.Wanted.{asks, fits}
use Rattle.zr_told_spec.specs.declared.place.Place.{Place}
use Rattle.zr_told_interested.specs.Among.{AreAmong}
use Rattle.zr_told_interested.specs.Keys.{AreKeyed, IsKeyed, is_met, keyed, keyless, pair_of, pairs_on, wants_all}

-- ---- of two keys each meets the other

turned : (a b : List ℕ) → IsKeyText a → IsKeyText b → texts_meet a b ≡ true → texts_meet b a ≡ true
unfolding texts_meet
turned a b ka kb h =
    let m = (meets_right a b ka kb).0 h in
    (meets_right b a kb ka).1 (m.0, m.1, m.3, m.2)

-- ---- what is found

-- of the keys that meet one the links are found
pub met_by : (ps : Pairs ℕ) (key found links : List ℕ) (n : ℕ) → links ≡ found → AreMeeting nat_cmp key ps found → list_any (λ k. is_eq (nat_cmp k n)) links ≡ is_met ps key n
met_by ps key found links n e m = ap (λ ks. list_any (λ k. is_eq (nat_cmp k n)) ks) e ∙ same_any (λ k. is_eq (nat_cmp k n)) (λ k. is_eq (nat_cmp n k)) found (λ k i. flipped nat_cmp nat_order k n) ∙ m.exactly n

-- the pair of a key, and that of one that may be none
abbrev pair_at : List ℕ → ℕ → List (List ℕ) × ℕ
pair_at k link = (chunks k, link)

abbrev pair_by : Option (List ℕ) → ℕ → Pairs ℕ
pair_by o link = option_map_or (λ k. pair_at k link ∷ []) o []

module _ (cs : List ClientInterests) (places : List Place) (ps : Pairs ℕ) (all links : List ℕ) (keys : AllByRecursion (λ q. IsKeyText q.key) places)
    (texts : AllByRecursion (λ c. AreKeyed c.interests) cs) (same : AreSame ps (keyed cs)) (wanting : all ≡ keyless cs)
    (found : (n : ℕ) → list_any (λ k. is_eq (nat_cmp n k)) links ≡ (list_any (λ k. is_eq (nat_cmp k n)) all || list_any (λ q. is_met ps q.key n) places)) where
  -- what is found is there
  there : (n : ℕ) → (list_any (λ k. is_eq (nat_cmp k n)) all || list_any (λ q. is_met ps q.key n) places) ≡ true → has_key nat_cmp (λ k. k) links n ≡ true
  there n h =
      let f = any_in (λ k. is_eq (nat_cmp n k)) links (found n ∙ h) in
      in_any (λ k. is_eq (nat_cmp k n)) links f.0 f.1 (ap (λ z. is_eq (nat_cmp f.0 z)) (is_same nat_cmp nat_order n f.0 f.2) ∙ is_itself nat_cmp nat_order f.0)

  -- who wants all
  by_all : (c : ClientInterests) → In c cs → wants_all c.interests ≡ true → has_key nat_cmp (λ k. k) links c.link.0 ≡ true
  by_all c ic h =
      let i : In c.link.0 (keyless cs) = map_in client_link (filter (λ d. wants_all d.interests) cs) c (filter_in (λ d. wants_all d.interests) cs c ic h) in
      let j : In c.link.0 all = subst (λ z. In c.link.0 z) (sym wanting) i in
      there c.link.0 (or_left _ _ (in_any (λ k. is_eq (nat_cmp k c.link.0)) all c.link.0 j (is_itself nat_cmp nat_order c.link.0)))

  -- whose key meets that of a place
  by_key : (c : ClientInterests) → In c cs → (i : Interest) → In i c.interests → (k : List ℕ) → i.key ≡ Some k → (q : Place) → In q places → texts_meet q.key k ≡ true →
      has_key nat_cmp (λ k. k) links c.link.0 ≡ true
  by_key c ic i ii k e q iq h =
      let text : IsKeyText k = subst (λ (z : Option (List ℕ)). IfSome z (λ k. IsKeyText k)) e (each_in (λ j. IsKeyed j) c.interests i (each_in (λ d. AreKeyed d.interests) cs c texts ic) ii) in
      let key = each_in (λ (p : Place). IsKeyText p.key) places q keys iq in
      let meets : meets_key q.key (chunks k) ≡ true = sym (meets_is k q.key) ∙ turned q.key k key text h in
      let own : In (pair_at k c.link.0) (pair_of c.link.0 i) = subst (λ (z : Option (List ℕ)). In (pair_at k c.link.0) (pair_by z c.link.0)) (sym e) (inl refl) in
      let pair : In (pair_at k c.link.0) (keyed cs) = flat_in (λ d. pairs_on d) cs c (pair_at k c.link.0) ic (flat_in (λ j. pair_of c.link.0 j) c.interests i (pair_at k c.link.0) ii own) in
      let met : is_met ps q.key c.link.0 ≡ true =
      any_same (λ p. meets_key q.key p.0 && is_eq (nat_cmp p.1 c.link.0)) ps (keyed cs) same
      ∙ in_any (λ p. meets_key q.key p.0 && is_eq (nat_cmp p.1 c.link.0)) (keyed cs) (pair_at k c.link.0) pair (and_from _ _ meets (is_itself nat_cmp nat_order c.link.0)) in
      there c.link.0 (or_right _ _ (in_any (λ p. is_met ps p.key c.link.0) places q iq met))

  one : (c : ClientInterests) → In c cs → is_touched places c.interests ≡ true → has_key nat_cmp (λ k. k) links c.link.0 ≡ true
  one c ic h =
      let q = any_in (λ p. list_any (λ i. fits i p) c.interests) places h in
      let i = any_in (λ j. fits j q.0) c.interests q.2 in
      by i.0 i.1 i.0.key refl q.0 q.1 (and_parts (asks i.0.kinds q.0.class) _ i.2).1
    where
      by : (i : Interest) → In i c.interests → (o : Option (List ℕ)) → i.key ≡ o → (q : Place) → In q places → option_map_or (λ k. texts_meet q.key k) i.key true ≡ true →
          has_key nat_cmp (λ k. k) links c.link.0 ≡ true
      by i ii None e q iq m = by_all c ic (in_any (λ j. is_none j.key) c.interests i ii (ap (λ (z : Option (List ℕ)). is_none z) e))
      by i ii (Some k) e q iq m = by_key c ic i ii k e q iq (sym (ap (λ (z : Option (List ℕ)). option_map_or (λ k. texts_meet q.key k) z true) e) ∙ m)

  pub among_found : AreAmong places links cs
  among_found = in_each (λ c. is_touched places c.interests ≡ true → has_key nat_cmp (λ k. k) links c.link.0 ≡ true) cs (λ c ic. one c ic)

-- the links of all ascend
pub links_ascend : (cs : List ClientInterests) (links : List ℕ) → AreByLink cs → links ≡ map client_link cs → IsStrictlySortedBy nat_cmp links
links_ascend cs links up e = subst (λ (ks : List ℕ). IsStrictlySortedBy nat_cmp ks) (sym e) (keys_by nat_cmp client_link cs up)

-- and they are enough
pub among_all : (cs : List ClientInterests) (places : List Place) (links : List ℕ) → links ≡ map client_link cs → AreAmong places links cs
among_all cs places links e =
    in_each (λ c. is_touched places c.interests ≡ true → has_key nat_cmp (λ k. k) links c.link.0 ≡ true) cs
    (λ c i h. in_any (λ k. is_eq (nat_cmp k c.link.0)) links c.link.0 (subst (λ z. In c.link.0 z) (sym e) (map_in client_link cs c i)) (is_itself nat_cmp nat_order c.link.0))
