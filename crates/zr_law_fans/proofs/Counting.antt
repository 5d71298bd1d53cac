-- How many ends lead to no router: no more than there are clients.
use Rattle.std.proofs.Common.{◌≡◌, ◌≤◌, ◌+◌, ℕ, Bool, true, false, cond, List, [], ◌∷◌, length, Option, Some, None, ◌⊎◌, inl, inr, refl, sym, ap, ◌∙◌, arith}
use Rattle.std.specs.Prelude.{is_some}
use Rattle.std.specs.List.{AllByRecursion}
use Rattle.std.specs.List.Sorted.{IsStrictlySortedBy}
use Rattle.std.specs.Map.{keys_of}
use Rattle.std.specs.Ordering.{is_eq, nat_cmp}
use Rattle.std.specs.declared.cmp.Ordering.{Ordering}
use Rattle.std.specs.declared.cmp.Ordering.TheVariants.{Less}
use Rattle.std.specs.Cmp.Lexicographic.{slice_cmp}
use Rattle.std.proofs.lemmas.Bool.{false≢true, or_cases}
use Rattle.zr_orders.specs.Bag.{weigh}
use Rattle.zr_orders.proofs.Bag.{weigh_same}
use Rattle.zr_id.specs.Zid.{is_named}
use Rattle.zr_graph.specs.Record.{IsAscending}
use Rattle.zr_world_spec.specs.World.{ClientState, End, Ends, Clients, WorldState, end_cmp, is_end, router_of, client_of, end_of, turned}
use Rattle.zr_world_spec.specs.Sound.{IsSound}
use Rattle.zr_world_spec.proofs.Names.{names, same_name}
use Rattle.zr_world_spec.proofs.Ends.{ends, same_end}
use Rattle.zr_law_settled.proofs.Worlds.{HasTwins}
use Rattle.zr_law_settled.proofs.ClientRows.{ClientsHold}
use Rattle.zr_law_fans.proofs.Trees.{two_sums, weigh_both}
use Rattle.zr_law_fans.proofs.Worth.{clients_at}

-- ---- of sorted things each is one

module _ {X : Type 0} (order : X → X → Ordering) (same : (a b : X) → is_eq (order a b) ≡ true → a ≡ b) (n : ℕ) where
  none_after : (e x : X) (xs : List X) → e ≡ x → AllByRecursion (λ y. order x y ≡ Less) xs → weigh (λ y. cond (is_eq (order e y)) n 0) xs ≡ 0
  none_after e x [] is less = refl
  none_after e x (y ∷ xs) is less =
      let here : cond (is_eq (order e y)) n 0 ≡ 0 = ap (λ z. cond (is_eq (order z y)) n 0) is ∙ ap (λ o. cond (is_eq o) n 0) less.0 in
      let more = none_after e x xs is less.1 in
      omega (arith, here, more)

  pub once : (xs : List X) → IsStrictlySortedBy order xs → (e : X) → weigh (λ y. cond (is_eq (order e y)) n 0) xs ≤ n
  unfolding IsStrictlySortedBy
  once [] sorted e = omega arith
  once (x ∷ xs) sorted e = by (is_eq (order e x)) refl (once xs sorted.1 e)
    where
      by : (b : Bool) → is_eq (order e x) ≡ b → weigh (λ y. cond (is_eq (order e y)) n 0) xs ≤ n → cond b n 0 + weigh (λ y. cond (is_eq (order e y)) n 0) xs ≤ n
      by true is ih = let none = none_after e x xs (same e x is) sorted.0 in omega (arith, none)
      by false is ih = omega (arith, ih)

weigh_all : {X : Type 0} (f g : X → ℕ) (xs : List X) → AllByRecursion (λ x. f x ≤ g x) xs → weigh f xs ≤ weigh g xs
weigh_all f g [] all = omega arith
weigh_all f g (x ∷ xs) all = let more = weigh_all f g xs all.1 in omega (arith, all.0, more)

-- ---- ends that lead to no router

abbrev pub loose : Ends → End → ℕ
loose es q = cond (is_some (end_of es (turned q))) 0 1

-- those of all routers are no more than there are
pub loose_parts : (es : Ends) (all : List (List ℕ)) → IsAscending all → (qs : List End) → weigh (λ v. clients_at es qs v) all ≤ weigh (loose es) qs
loose_parts es all sorted [] = let none = zeros all in omega (arith, none)
  where
    zeros : (xs : List (List ℕ)) → weigh (λ v. 0) xs ≡ 0
    zeros [] = refl
    zeros (x ∷ xs) = omega (arith, zeros xs)
loose_parts es all sorted (q ∷ qs) =
    let parts = weigh_both (λ v. cond (is_named v q.0) (loose es q) 0) (λ v. clients_at es qs v) all in
    let turn = weigh_same (λ v. cond (is_named v q.0) (loose es q) 0) (λ v. cond (is_named q.0 v) (loose es q) 0) (λ v. ap (λ b. cond b (loose es q) 0) (names.symm v q.0)) all in
    let one = once (slice_cmp nat_cmp) same_name (loose es q) all sorted q.0 in
    let more = loose_parts es all sorted qs in
    omega (arith, parts, turn, one, more)

pub loose_at : (es : Ends) (qs : List End) (x : List ℕ) → clients_at es qs x ≤ weigh (loose es) qs
loose_at es [] x = omega arith
loose_at es (q ∷ qs) x = by (is_named x q.0) (loose_at es qs x)
  where
    by : (b : Bool) → clients_at es qs x ≤ weigh (loose es) qs → cond b (loose es q) 0 + clients_at es qs x ≤ loose es q + weigh (loose es) qs
    by true ih = omega (arith, ih)
    by false ih = omega (arith, ih)

-- whether an end is that of a client at its router
abbrev is_home : End → List ℕ × ClientState → ℕ
is_home q c = cond (is_end (c.1.router, c.0) q) 1 0

home_there : (clients : Clients) (name : List ℕ) (s : ClientState) (q : End) → client_of clients name ≡ Some s → is_end (s.router, name) q ≡ true → 1 ≤ weigh (is_home q) clients
home_there [] name s q found is = absurd (false≢true (ap is_some found))
home_there (c ∷ clients) name s q found is = by (is_named name c.0) refl found (λ f. home_there clients name s q f is)
  where
    by : (b : Bool) → is_named name c.0 ≡ b → cond b (Some c.1) (client_of clients name) ≡ Some s → (client_of clients name ≡ Some s → 1 ≤ weigh (is_home q) clients) → 1 ≤ is_home q c + weigh (is_home q) clients
    by true k f ih =
        let value : c.1 ≡ s = cc in
        let here : is_end (c.1.router, c.0) q ≡ true = (λ i. is_end ((value i).router, sym (same_name name c.0 k) i) q) ∙ is in
        let one : is_home q c ≡ 1 = ap (λ z. cond z 1 0) here in
        omega (arith, one)
    by false k f ih = let more = ih f in omega (arith, more)

module _ (w : WorldState) (sound : IsSound w) (twins : HasTwins w) (clients : ClientsHold w) where
  each_loose : (q : End) → is_some (end_of w.ends q) ≡ true → loose w.ends q ≤ weigh (is_home q) w.clients
  each_loose q there = by (is_some (end_of w.ends (turned q))) refl
    where
      client : (o : Option ClientState) → client_of w.clients q.1 ≡ o → is_some o ≡ true → 1 ≤ weigh (is_home q) w.clients
      client None found is = absurd (false≢true is)
      client (Some s) found is =
          home_there w.clients q.1 s q found (ap (λ x. is_end (x, q.1) q) (clients.homes q.0 q.1 s found there) ∙ ends.refl q)

      by : (b : Bool) → is_some (end_of w.ends (turned q)) ≡ b → cond b 0 1 ≤ weigh (is_home q) w.clients
      by true e = omega arith
      by false e = at (or_cases (is_some (router_of w.routers q.1)) (is_some (client_of w.clients q.1)) (sound.neighbours q.0 q.1 there))
        where
          at : (is_some (router_of w.routers q.1) ≡ true) ⊎ (is_some (client_of w.clients q.1) ≡ true) → 1 ≤ weigh (is_home q) w.clients
          at (inl r) = absurd (false≢true (sym e ∙ twins q.0 q.1 there r))
          at (inr c) = client (client_of w.clients q.1) refl c

  all_loose : (qs : List End) → AllByRecursion (λ q. is_some (end_of w.ends q) ≡ true) qs → AllByRecursion (λ q. loose w.ends q ≤ weigh (is_home q) w.clients) qs
  all_loose [] h = tt
  all_loose (q ∷ qs) h = (each_loose q h.0, all_loose qs h.1)

  homes_once : (cs : Clients) → weigh (λ c. weigh (λ q. is_home q c) (keys_of w.ends)) cs ≤ length cs
  homes_once [] = omega arith
  homes_once (c ∷ cs) =
      let one = once end_cmp same_end 1 (keys_of w.ends) sound.in_order (c.1.router, c.0) in
      let more = homes_once cs in
      omega (arith, one, more)

  pub few_loose : AllByRecursion (λ q. is_some (end_of w.ends q) ≡ true) (keys_of w.ends) → weigh (loose w.ends) (keys_of w.ends) ≤ length w.clients
  few_loose there =
      let all = weigh_all (loose w.ends) (λ q. weigh (is_home q) w.clients) (keys_of w.ends) (all_loose (keys_of w.ends) there) in
      let turn = two_sums (λ q c. is_home q c) (keys_of w.ends) w.clients in
      let most = homes_once w.clients in
      omega (arith, all, turn, most)
