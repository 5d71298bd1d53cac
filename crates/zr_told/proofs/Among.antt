-- The clients that changed declarations touch are told what all are: the others are told nothing.
use Rattle.std.proofs.Common.{Less, ◌≡◌, ℕ, ◌≤◌, ◌==◌, ◌&&◌, ◌||◌, Bool, true, false, cond, List, [], ◌∷◌, ◌++◌, refl, sym, ap, ◌∙◌, subst, arith}
use Rattle.std.specs.declared.option.Option.{Option}
use Rattle.std.specs.declared.option.Option.TheVariants.{None, Some}
use Rattle.std.specs.List.{filter, AllByRecursion}
use Rattle.std.specs.List.Sorted.{IsStrictlySortedBy}
use Rattle.std.specs.Option.{option_map_or}
use Rattle.std.specs.Ordering.{is_eq, nat_cmp}
use Rattle.std.proofs.lemmas.Bool.{and_from, or_from}
use Rattle.std.proofs.lemmas.List.Kept.{IsStrictlySortedBy-filter}
use Rattle.std.proofs.lemmas.Map.Keys.{sorted_head, sorted_tail}
use Rattle.std.proofs.lemmas.Option.{none-some, same_Some}
use Rattle.zr_lists.specs.Ascending.{at_key, has_key}
use Rattle.zr_lists.proofs.Elements.{each_in}
use Rattle.zr_lists.proofs.Finds.{In, find_in}
use Rattle.zr_lists.proofs.Order.{apart_back, is_same, nat_order}
use Rattle.zr_local.specs.Clients.{AreByLink, client_link}
use Rattle.zr_local.specs.declared.interest.ClientInterests.{ClientInterests}
use Rattle.zr_node_spec.specs.Tables.{TableState}
use Rattle.zr_told_spec.specs.Rows.{Maps, map_on, sent_on, others, is_touched, tells_changes, told_changes, tells_all, lacks_ids, one_lacks_ids, AreFew}
use Rattle.zr_told_spec.specs.declared.place.Place.{Place}
use Rattle.zr_told.specs.Touched.{if_touched, touched_on}
use Rattle.zr_told_interested.specs.Among.{AreAmong}
use Rattle.zr_told.proofs.Changed.{ArePlanned, quiet_one, told_without}
use Rattle.zr_told.proofs.Clients.{EachIsAsWantedBut, entry_on, sorted_links, told_among}

-- whether a link is among some
abbrev has_link : List ℕ → ℕ → Bool
has_link links link = has_key nat_cmp (λ n. n) links link

-- a client that is touched, and whose link is among those that are left
abbrev pub is_left : List Place → List ℕ → ClientInterests → Bool
is_left qs ks c = has_link ks c.link.0 && is_touched qs c.interests

abbrev pub left_of : List Place → List ℕ → List ClientInterests → List ClientInterests
left_of qs ks cs = filter (λ c. is_left qs ks c) cs

and_false : (a b : Bool) → b ≡ false → (a && b) ≡ false
and_false true b e = e
and_false false b e = refl

-- ---- the others are told nothing

record TellTheSame (t : TableState) (maps : Maps) (xs ys : List ClientInterests) : Type 0 where
  tells : tells_all t xs maps ≡ tells_all t ys maps
  told : (k : ℕ) → told_among t xs maps k ≡ told_among t ys maps k
  ids : one_lacks_ids t ys ≡ one_lacks_ids t xs

module _ (qs : List Place) (t : TableState) (maps : Maps) (ks : List ℕ) (few : AreFew maps) where
  touched_tell : (cs : List ClientInterests) → AreByLink cs → AreAmong qs ks cs → EachIsAsWantedBut qs t cs maps → TellTheSame t maps (left_of qs ks cs) cs
  touched_tell [] up a w = record { tells = refl; told = λ k. refl; ids = refl }
  touched_tell (c ∷ cs) up a w = by (is_touched qs c.interests) refl (touched_tell cs (sorted_tail _ c cs up) a.1 w.1)
    where
      also : (k : ℕ) (b : Bool) → told_among t (left_of qs ks cs) maps k ≡ told_among t cs maps k →
          option_map_or (λ d. told_changes (others t k) d.interests (map_on maps k)) (cond b (Some c) (entry_on (left_of qs ks cs) k)) (map_on maps k)
          ≡ option_map_or (λ d. told_changes (others t k) d.interests (map_on maps k)) (cond b (Some c) (entry_on cs k)) (map_on maps k)
      also k true ih = refl
      also k false ih = ih

      by : (b : Bool) → is_touched qs c.interests ≡ b → TellTheSame t maps (left_of qs ks cs) cs → TellTheSame t maps (left_of qs ks (c ∷ cs)) (c ∷ cs)
      by true e ih =
          let i : is_left qs ks c ≡ true = and_from (has_link ks c.link.0) (is_touched qs c.interests) (a.0 e) e in
          subst (λ z. TellTheSame t maps (cond z (c ∷ left_of qs ks cs) (left_of qs ks cs)) (c ∷ cs)) (sym i) (record {
            tells = ap (λ z. sent_on c.link (tells_changes (others t c.link.0) c.interests (map_on maps c.link.0)) ++ z) ih.tells;
            told = λ k. also k (c.link.0 == k) (ih.told k);
            ids = ap (λ z. lacks_ids (others t c.link.0) c.interests || z) ih.ids;
          })
      by false e ih =
          let i : is_left qs ks c ≡ false = and_false (has_link ks c.link.0) (is_touched qs c.interests) e in
          let q = quiet_one t maps c qs e w.0 few in
          subst (λ z. TellTheSame t maps (cond z (c ∷ left_of qs ks cs) (left_of qs ks cs)) (c ∷ cs)) (sym i) (record {
            tells = ih.tells ∙ sym (ap (λ z. sent_on c.link z ++ tells_all t cs maps) q.tells);
            told = λ k. ih.told k ∙ sym (told_without t maps c cs up q k);
            ids = ap (λ z. z || one_lacks_ids t cs) q.ids ∙ ih.ids;
          })

  pub touched_alone : (cs : List ClientInterests) → AreByLink cs → AreAmong qs ks cs → EachIsAsWantedBut qs t cs maps → ArePlanned t cs maps [] (left_of qs ks cs)
  touched_alone cs up a w =
      let s = touched_tell cs up a w in
      record { links = sorted_links (left_of qs ks cs) (IsStrictlySortedBy-filter _ _ cs up); last = tt; tells = s.tells; told = s.told; ids = s.ids }

-- ---- one link is left no more

if_some : (qs : List Place) (o : Option ClientInterests) (c : ClientInterests) → if_touched qs o ≡ Some c → (o ≡ Some c) × (is_touched qs c.interests ≡ true)
if_some qs None c h = absurd (none-some c h)
if_some qs (Some d) c h = by (is_touched qs d.interests) refl h
  where
    by : (b : Bool) → is_touched qs d.interests ≡ b → cond b (Some d) None ≡ Some c → (Some d ≡ Some c) × (is_touched qs c.interests ≡ true)
    by true e g = (g, ap (λ z. is_touched qs z.interests) (sym (same_Some d c g)) ∙ e)
    by false e g = absurd (none-some c g)

if_none : (qs : List Place) (c : ClientInterests) → if_touched qs (Some c) ≡ None → is_touched qs c.interests ≡ false
if_none qs c h = by (is_touched qs c.interests) refl h
  where
    by : (b : Bool) → is_touched qs c.interests ≡ b → cond b (Some c) None ≡ None → is_touched qs c.interests ≡ false
    by true e g = absurd (none-some c (sym g))
    by false e g = e

module _ (qs : List Place) (k : ℕ) (cs : List ClientInterests) (c : ClientInterests) (h : touched_on qs cs k ≡ Some c) where
  found_at : In c cs × (is_eq (nat_cmp c.link.0 k) ≡ true)
  found_at = find_in (λ d. is_eq (nat_cmp d.link.0 k)) cs c (if_some qs (at_key nat_cmp client_link cs k) c h).0

  pub found_in : In c cs
  found_in = found_at.0

  found_link : c.link.0 ≡ k
  found_link = is_same nat_cmp nat_order c.link.0 k found_at.1

above_other : (k y n : ℕ) → nat_cmp k y ≡ Less → n ≤ k → is_eq (nat_cmp y n) ≡ false
above_other k y n h le = grind (arith, h, le)

below_same : (a b k : ℕ) → nat_cmp a b ≡ Less → b ≡ k → a ≤ k
below_same a b k h e = grind (arith, h, e)

module _ (qs : List Place) (k : ℕ) (ks : List ℕ) (up : IsStrictlySortedBy nat_cmp (k ∷ ks)) where
  other : (d : ClientInterests) → is_eq (nat_cmp k d.link.0) ≡ false → is_left qs (k ∷ ks) d ≡ is_left qs ks d
  other d e = ap (λ z. (z || has_link ks d.link.0) && is_touched qs d.interests) e

  others_left : (ds : List ClientInterests) → AllByRecursion (λ d. nat_cmp k d.link.0 ≡ Less) ds → left_of qs (k ∷ ks) ds ≡ left_of qs ks ds
  others_left [] a = refl
  others_left (d ∷ ds) a =
      ap (λ z. cond z (d ∷ left_of qs (k ∷ ks) ds) (left_of qs (k ∷ ks) ds)) (other d (ap is_eq a.0))
      ∙ ap (λ z. cond (is_left qs ks d) (d ∷ z) z) (others_left ds a.1)

  -- a link that isn't above this one is left no more
  lower_out : (n : ℕ) → n ≤ k → has_link ks n ≡ false
  lower_out n le = on ks (sorted_head nat_cmp k ks up)
    where
      on : (ys : List ℕ) → AllByRecursion (λ y. nat_cmp k y ≡ Less) ys → has_link ys n ≡ false
      on [] a = refl
      on (y ∷ ys) a = or_from (is_eq (nat_cmp y n)) (has_link ys n) (above_other k y n a.0 le) (on ys a.1)

  not_left : (d : ClientInterests) → d.link.0 ≤ k → is_left qs ks d ≡ false
  not_left d le = ap (λ z. z && is_touched qs d.interests) (lower_out d.link.0 le)

  behind : (d : ClientInterests) (ds : List ClientInterests) → AreByLink (d ∷ ds) → d.link.0 ≡ k → left_of qs (k ∷ ks) ds ≡ left_of qs ks ds
  behind d ds w i = others_left ds (subst (λ z. AllByRecursion (λ e. nat_cmp z e.link.0 ≡ Less) ds) i (sorted_head _ d ds w))

  pub left_first : (cs : List ClientInterests) → AreByLink cs → (c : ClientInterests) → touched_on qs cs k ≡ Some c → left_of qs (k ∷ ks) cs ≡ c ∷ left_of qs ks cs
  left_first [] w c h = absurd (none-some c h)
  left_first (d ∷ ds) w c h = by (is_eq (nat_cmp d.link.0 k)) refl (left_first ds (sorted_tail _ d ds w) c)
    where
      by : (b : Bool) → is_eq (nat_cmp d.link.0 k) ≡ b → (touched_on qs ds k ≡ Some c → left_of qs (k ∷ ks) ds ≡ c ∷ left_of qs ks ds) → left_of qs (k ∷ ks) (d ∷ ds) ≡ c ∷ left_of qs ks (d ∷ ds)
      by true e rest =
          let i : d.link.0 ≡ k = is_same nat_cmp nat_order d.link.0 k e in
          let le : d.link.0 ≤ k = omega (arith, i) in
          let f = if_some qs (Some d) c (sym (ap (λ z. if_touched qs (cond z (Some d) (at_key nat_cmp client_link ds k))) e) ∙ h) in
          let s : d ≡ c = same_Some d c f.0 in
          let q : is_eq (nat_cmp k d.link.0) ≡ true = ap (λ z. is_eq (nat_cmp k z)) i ∙ ap (λ z. is_eq (nat_cmp z k)) (sym i) ∙ e in
          let t : is_touched qs d.interests ≡ true = ap (λ z. is_touched qs z.interests) s ∙ f.1 in
          ap (λ z. cond ((z || has_link ks d.link.0) && is_touched qs d.interests) (d ∷ left_of qs (k ∷ ks) ds) (left_of qs (k ∷ ks) ds)) q
          ∙ ap (λ z. cond z (d ∷ left_of qs (k ∷ ks) ds) (left_of qs (k ∷ ks) ds)) t
          ∙ ap (λ z. d ∷ z) (behind d ds w i)
          ∙ sym (ap (λ z. d ∷ cond z (d ∷ left_of qs ks ds) (left_of qs ks ds)) (not_left d le))
          ∙ ap (λ z. z ∷ left_of qs ks (d ∷ ds)) s
      by false e rest =
          let g : touched_on qs ds k ≡ Some c = sym (ap (λ z. if_touched qs (cond z (Some d) (at_key nat_cmp client_link ds k))) e) ∙ h in
          let less : nat_cmp d.link.0 c.link.0 ≡ Less = each_in (λ x. nat_cmp d.link.0 x.link.0 ≡ Less) ds c (sorted_head _ d ds w) (found_in qs k ds c g) in
          let le : d.link.0 ≤ k = below_same d.link.0 c.link.0 k less (found_link qs k ds c g) in
          let o = not_left d le in
          ap (λ z. cond z (d ∷ left_of qs (k ∷ ks) ds) (left_of qs (k ∷ ks) ds)) (other d (apart_back nat_cmp nat_order d.link.0 k e) ∙ o)
          ∙ rest g
          ∙ sym (ap (λ z. c ∷ cond z (d ∷ left_of qs ks ds) (left_of qs ks ds)) o)

  pub left_none : (cs : List ClientInterests) → AreByLink cs → touched_on qs cs k ≡ None → left_of qs (k ∷ ks) cs ≡ left_of qs ks cs
  left_none [] w h = refl
  left_none (d ∷ ds) w h = by (is_eq (nat_cmp d.link.0 k)) refl (left_none ds (sorted_tail _ d ds w))
    where
      by : (b : Bool) → is_eq (nat_cmp d.link.0 k) ≡ b → (touched_on qs ds k ≡ None → left_of qs (k ∷ ks) ds ≡ left_of qs ks ds) → left_of qs (k ∷ ks) (d ∷ ds) ≡ left_of qs ks (d ∷ ds)
      by true e rest =
          let f = if_none qs d (sym (ap (λ z. if_touched qs (cond z (Some d) (at_key nat_cmp client_link ds k))) e) ∙ h) in
          ap (λ z. cond z (d ∷ left_of qs (k ∷ ks) ds) (left_of qs (k ∷ ks) ds)) (and_false (has_link (k ∷ ks) d.link.0) (is_touched qs d.interests) f)
          ∙ behind d ds w (is_same nat_cmp nat_order d.link.0 k e)
          ∙ sym (ap (λ z. cond z (d ∷ left_of qs ks ds) (left_of qs ks ds)) (and_false (has_link ks d.link.0) (is_touched qs d.interests) f))
      by false e rest =
          ap (λ z. cond z (d ∷ left_of qs (k ∷ ks) ds) (left_of qs (k ∷ ks) ds)) (other d (apart_back nat_cmp nat_order d.link.0 k e))
          ∙ ap (λ z. cond (is_left qs ks d) (d ∷ z) z)
          (rest (sym (ap (λ z. if_touched qs (cond z (Some d) (at_key nat_cmp client_link ds k))) e) ∙ h))

-- ---- no link is left

pub left_end : (qs : List Place) (cs : List ClientInterests) → left_of qs [] cs ≡ []
left_end qs [] = refl
left_end qs (c ∷ cs) = left_end qs cs
