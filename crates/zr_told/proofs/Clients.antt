-- The clients of a router by their links: what is said of each link is said of each client.
use Rattle.std.proofs.Common.{Less, ◌≡◌, ℕ, ◌==◌, false, cond, List, [], ◌∷◌, map, refl, sym, ap, ◌∙◌, subst}
use Rattle.std.specs.declared.option.Option.{Option}
use Rattle.std.specs.declared.option.Option.TheVariants.{None, Some}
use Rattle.std.specs.List.{find, AllByRecursion}
use Rattle.std.specs.List.Sorted.{IsStrictlySortedBy}
use Rattle.std.specs.Option.{option_map_or}
use Rattle.std.specs.Ordering.{is_eq, nat_cmp}
use Rattle.zr_lists.specs.Ascending.{at_key}
use Rattle.zr_lists.proofs.Numbers.{nat_eq_is}
use Rattle.zr_lists.proofs.Order.{is_itself, nat_order}
use Rattle.zr_local.specs.Clients.{AreByLink, client_link, interests_on}
use Rattle.zr_local.specs.declared.interest.ClientInterests.{ClientInterests}
use Rattle.zr_local.specs.declared.interest.Interest.{Interest}
use Rattle.zr_node_spec.specs.Tables.{TableState}
use Rattle.zr_told_spec.specs.Told.{ToldMap}
use Rattle.zr_told_spec.specs.Rows.{Maps, map_on, others, told_changes, told_on, AreListed, IsAsWantedBut, AreAsWantedBut}
use Rattle.zr_told_spec.specs.declared.place.Place.{Place}
use Rattle.zr_told_spec.proofs.Events.{nothing_told}
use Rattle.zr_told_spec.proofs.Touching.{none_touch}

-- ---- their order

pub sorted_links : (cs : List ClientInterests) → AreByLink cs → IsStrictlySortedBy nat_cmp (map (λ c. c.link.0) cs)
unfolding IsStrictlySortedBy
sorted_links [] s = tt
sorted_links (c ∷ cs) s = (on cs s.0, sorted_links cs s.1)
  where
    on : (ds : List ClientInterests) → AllByRecursion (λ d. nat_cmp c.link.0 d.link.0 ≡ Less) ds → AllByRecursion (λ k. nat_cmp c.link.0 k ≡ Less) (map (λ d. d.link.0) ds)
    on [] a = tt
    on (d ∷ ds) a = (a.0, on ds a.1)

-- what is found on the link of a client is its own
own_found : (cs : List ClientInterests) → AreByLink cs → AllByRecursion (λ c. interests_on cs c.link.0 ≡ c.interests) cs
unfolding IsStrictlySortedBy
own_found [] s = tt
own_found (c ∷ cs) s = (ap (λ z. option_map_or (λ d. d.interests) (cond z (Some c) (at_key nat_cmp client_link cs c.link.0)) []) (is_itself nat_cmp nat_order c.link.0), on cs s.0 (own_found cs s.1))
  where
    other : (a b : ℕ) → nat_cmp a b ≡ Less → is_eq (nat_cmp a b) ≡ false
    other a b h = ap is_eq h

    on : (ds : List ClientInterests) → AllByRecursion (λ d. nat_cmp c.link.0 d.link.0 ≡ Less) ds → AllByRecursion (λ d. interests_on cs d.link.0 ≡ d.interests) ds →
        AllByRecursion (λ d. interests_on (c ∷ cs) d.link.0 ≡ d.interests) ds
    on [] a h = tt
    on (d ∷ ds) a h =
        (ap (λ z. option_map_or (λ x. x.interests) (cond z (Some c) (at_key nat_cmp client_link cs d.link.0)) []) (other c.link.0 d.link.0 a.0) ∙ h.0, on ds a.1 h.1)

-- ---- where some places alone changed

abbrev pub EachIsAsWantedBut : List Place → TableState → List ClientInterests → Maps → Type 0
EachIsAsWantedBut qs t cs maps = AllByRecursion (λ c. IsAsWantedBut qs (others t c.link.0) c.interests (map_on maps c.link.0)) cs

pub each_client : (qs : List Place) (t : TableState) (cs : List ClientInterests) (maps : Maps) → AreByLink cs → AreAsWantedBut qs t cs maps → EachIsAsWantedBut qs t cs maps
each_client qs t cs maps s w = on cs (own_found cs s)
  where
    on : (ds : List ClientInterests) → AllByRecursion (λ c. interests_on cs c.link.0 ≡ c.interests) ds → EachIsAsWantedBut qs t ds maps
    on [] a = tt
    on (d ∷ ds) a = (subst (λ (z : List Interest). IsAsWantedBut qs (others t d.link.0) z (map_on maps d.link.0)) a.0 (w d.link.0), on ds a.1)

-- ---- who has no interests

-- so the map of one that isn't among the clients is empty
pub all_listed : (qs : List Place) (t : TableState) (cs : List ClientInterests) (maps : Maps) → AreAsWantedBut qs t cs maps → AreListed cs maps
all_listed qs t cs maps w k e =
    let v : IsAsWantedBut qs (others t k) [] (map_on maps k) =
    subst (λ (o : Option ClientInterests). IsAsWantedBut qs (others t k) (option_map_or (λ c. c.interests) o []) (map_on maps k)) e (w k) in
    nothing_told (others t k) (map_on maps k) (λ p. v p (none_touch qs p))

-- ---- of what each client is told

abbrev pub entry_on : List ClientInterests → ℕ → Option ClientInterests
entry_on cs link = find (λ c. c.link.0 == link) cs

-- of what the client of a link was told then, or before where it isn't among these
abbrev pub told_among : TableState → List ClientInterests → Maps → ℕ → ToldMap
told_among t cs maps link = option_map_or (λ c. told_changes (others t link) c.interests (map_on maps link)) (entry_on cs link) (map_on maps link)

entry_is : (cs : List ClientInterests) (k : ℕ) → entry_on cs k ≡ at_key nat_cmp client_link cs k
entry_is cs k = sym (λ i. find (λ c. nat_eq_is c.link.0 k i) cs)

pub told_among_all : (t : TableState) (cs : List ClientInterests) (maps : Maps) → AreListed cs maps → (k : ℕ) → told_among t cs maps k ≡ told_on t cs maps k
told_among_all t cs maps h k =
    ap (λ (o : Option ClientInterests). option_map_or (λ c. told_changes (others t k) c.interests (map_on maps k)) o (map_on maps k)) (entry_is cs k)
    ∙ by (at_key nat_cmp client_link cs k) refl
  where
    by : (o : Option ClientInterests) → at_key nat_cmp client_link cs k ≡ o →
        option_map_or (λ c. told_changes (others t k) c.interests (map_on maps k)) o (map_on maps k) ≡ told_changes (others t k) (option_map_or (λ c. c.interests) o []) (map_on maps k)
    by None e = h k e ∙ sym (ap (λ (m : ToldMap). told_changes (others t k) [] m) (h k e))
    by (Some c) e = refl
