-- No client of a script's world wants to be told of more places than there are ids (`wants_few`): what others declare weighs little in all, since a
-- router knows of logs of routers that are there alone, of which there are few, and so do the client's own interests.
use Rattle.std.proofs.Common.{◌≡◌, ◌≤◌, ◌+◌, ◌*◌, ℕ, Bool, true, false, cond, List, [], ◌∷◌, length, Option, Some, None, is_some, Less, refl, sym, ap, ◌∙◌, arith, length-append}
use Rattle.std.specs.Prelude.{◌==◌, ◌||◌, not, filter, flat_map}
use Rattle.std.specs.List.{AllByRecursion, list_any, sum_by}
use Rattle.std.specs.Option.{option_or}
use Rattle.std.specs.Ordering.{nat_cmp, is_eq}
use Rattle.std.specs.Cmp.Lexicographic.{slice_cmp}
use Rattle.std.proofs.lemmas.Bool.{true≢false, le-ltb}
use Rattle.std.proofs.lemmas.List.{length-map}
use Rattle.std.proofs.lemmas.List.Sums.{sum_by-cons}
use Rattle.std.proofs.lemmas.Map.Keys.{sorted_head, sorted_tail}
use Rattle.zr_lists.proofs.Filters.{filter_shorter}
use Rattle.zr_id.specs.Zid.{is_named}
use Rattle.zr_graph.proofs.Names.{same_is, same_refl}
use Rattle.zr_msg.specs.declared.error.NodeError.{NodeError}
use Rattle.zr_msg.specs.declared.error.NodeError.TheVariants.{Worn}
use Rattle.zr_msg.specs.declared.event.Event.{Event}
use Rattle.zr_lists.specs.Ascending.{IsAscending}
use Rattle.zr_log_set.specs.Decls.{decl_weight}
use Rattle.zr_local.specs.Clients.{client_weight, clients_weight}
use Rattle.zr_local.specs.Interests.{interest_weight, interests_weight}
use Rattle.zr_local.specs.Rows.{decls_of, left}
use Rattle.zr_local.specs.State.{held_weight}
use Rattle.zr_local.specs.declared.interest.ClientInterests.{ClientInterests}
use Rattle.zr_local.specs.declared.interest.Interest.{Interest}
use Rattle.zr_local.specs.declared.row.Row.{Row}
use Rattle.zr_log.specs.declared.log.Log.{Log}
use Rattle.zr_log.specs.Known.{AreInOrder}
use Rattle.zr_node_spec.specs.State.{tables, local_state}
use Rattle.zr_node_spec.specs.Table.{after, refuses}
use Rattle.zr_told_spec.specs.Rows.{is_source, others, lacks_ids, one_lacks_ids, most_id}
use Rattle.zr_told_spec.specs.Wanted.{wanted}
use Rattle.zr_told_spec.proofs.Few.{few_are_wanted}
use Rattle.zr_world_spec.specs.World.{RouterState, Routers, WorldState, router_of, most_weight, most_routers}
use Rattle.zr_world_spec.specs.Acts.{refuses_of}
use Rattle.zr_law_settled.proofs.Spreading.{Name}
use Rattle.zr_law_settled.proofs.Worlds.{there_in}
use Rattle.zr_law_settled.proofs.WeightsSums.{part_weighs}
use Rattle.zr_law_settled.proofs.Weights.{IsKnown, weight_at, held_at, number_at, WeightsHold}

-- ---- sums

sum_le : {X : Type 0} (f g : X → ℕ) (xs : List X) → AllByRecursion (λ x. f x ≤ g x) xs → sum_by f xs ≤ sum_by g xs
sum_le f g [] h = omega arith
sum_le f g (x ∷ xs) h = omega (arith, sum_by-cons f x xs, sum_by-cons g x xs, h.0, sum_le f g xs h.1)

sum_both : {X : Type 0} (f g : X → ℕ) (xs : List X) → sum_by (λ x. f x + g x) xs ≡ sum_by f xs + sum_by g xs
sum_both f g [] = refl
sum_both f g (x ∷ xs) = omega (arith, sum_by-cons (λ y. f y + g y) x xs, sum_by-cons f x xs, sum_by-cons g x xs, sum_both f g xs)

sum_times : {X : Type 0} (n : ℕ) (f : X → ℕ) (xs : List X) → sum_by (λ x. n * f x) xs ≡ n * sum_by f xs
sum_times n f [] = omega arith
sum_times n f (x ∷ xs) = omega (arith, sum_by-cons (λ y. n * f y) x xs, ap (λ m. n * m) (sum_by-cons f x xs), sum_times n f xs)

each_one : {X : Type 0} (f : X → ℕ) (xs : List X) → ((x : X) → 1 ≤ f x) → length xs ≤ sum_by f xs
each_one f [] h = omega arith
each_one f (x ∷ xs) h = omega (arith, sum_by-cons f x xs, h x, each_one f xs h)

-- ---- logs of routers that are there

abbrev one_if : Bool → ℕ
one_if t = cond t 1 0

-- of logs in order of their routers one at most is of a name
one_named : (logs : List Log) → IsAscending (slice_cmp nat_cmp) (λ l. l.source) logs → (y : Name) → sum_by (λ l. one_if (is_named l.source y)) logs ≤ 1
one_named [] up y = omega arith
one_named (l ∷ logs) up y =
    by (is_named l.source y) refl (one_named logs (sorted_tail (λ (a b : Log). slice_cmp nat_cmp a.source b.source) l logs up) y)
    (rest logs (sorted_head (λ (a b : Log). slice_cmp nat_cmp a.source b.source) l logs up))
  where
    rest : (ks : List Log) → AllByRecursion (λ k. slice_cmp nat_cmp l.source k.source ≡ Less) ks → is_named l.source y ≡ true → sum_by (λ k. one_if (is_named k.source y)) ks ≡ 0
    rest [] h e = refl
    rest (k ∷ ks) h e = omega (arith, sum_by-cons (λ (z : Log). one_if (is_named z.source y)) k ks, rest ks h.1 e, none (is_named k.source y) refl)
      where
        none : (t : Bool) → is_named k.source y ≡ t → one_if t ≡ 0
        none false f = refl
        none true f =
            let same : l.source ≡ k.source = same_is l.source y e ∙ sym (same_is k.source y f) in
            let less : is_named l.source k.source ≡ false = ap is_eq h.0 in
            absurd (true≢false (sym (ap (λ q. is_named q k.source) same ∙ same_refl k.source) ∙ less))

    by : (t : Bool) → is_named l.source y ≡ t → sum_by (λ k. one_if (is_named k.source y)) logs ≤ 1 → (is_named l.source y ≡ true → sum_by (λ k. one_if (is_named k.source y)) logs ≡ 0) →
        sum_by (λ k. one_if (is_named k.source y)) (l ∷ logs) ≤ 1
    by true e ih none = let here : one_if (is_named l.source y) ≡ 1 = ap one_if e in omega (arith, sum_by-cons (λ (k : Log). one_if (is_named k.source y)) l logs, here, none e)
    by false e ih none = let here : one_if (is_named l.source y) ≡ 0 = ap one_if e in omega (arith, sum_by-cons (λ (k : Log). one_if (is_named k.source y)) l logs, here, ih)

-- and so no more are of routers than there are routers
few_there : (logs : List Log) → IsAscending (slice_cmp nat_cmp) (λ l. l.source) logs → (routers : Routers) → sum_by (λ l. one_if (is_some (router_of routers l.source))) logs ≤ length routers
few_there logs up [] = nothing logs
  where
    nothing : (ks : List Log) → sum_by (λ (k : Log). 0) ks ≤ 0
    nothing [] = omega arith
    nothing (k ∷ ks) = omega (arith, sum_by-cons (λ (z : Log). 0) k ks, nothing ks)
few_there logs up (e ∷ routers) = omega (
  arith,
  sum_le (λ l. one_if (is_some (router_of (e ∷ routers) l.source))) (λ l. one_if (is_named l.source e.0) + one_if (is_some (router_of routers l.source))) logs (each logs),
  sum_both (λ (l : Log). one_if (is_named l.source e.0)) (λ (l : Log). one_if (is_some (router_of routers l.source))) logs,
  one_named logs up e.0,
  few_there logs up routers,
)
  where
    one : (t : Bool) (o : Option RouterState) → one_if (is_some (cond t (Some e.1) o)) ≤ one_if t + one_if (is_some o)
    one true o = omega arith
    one false o = omega arith

    each : (ks : List Log) → AllByRecursion (λ l. one_if (is_some (router_of (e ∷ routers) l.source)) ≤ one_if (is_named l.source e.0) + one_if (is_some (router_of routers l.source))) ks
    each [] = tt
    each (k ∷ ks) = (one (is_named k.source e.0) (router_of routers k.source), each ks)

-- ---- what others declare

-- sets of logs, one behind another
sets_length : (p : Log → Bool) (logs : List Log) → length (flat_map (λ l. l.decls) (filter p logs)) ≤ sum_by (λ l. length l.decls) logs
sets_length p [] = omega arith
sets_length p (l ∷ logs) = by (p l) (sets_length p logs)
  where
    by : (t : Bool) → length (flat_map (λ l. l.decls) (filter p logs)) ≤ sum_by (λ l. length l.decls) logs →
        length (flat_map (λ (l : Log). l.decls) (cond t (l ∷ filter p logs) (filter p logs))) ≤ sum_by (λ l. length l.decls) (l ∷ logs)
    by true ih = omega (arith, sum_by-cons (λ (k : Log). length k.decls) l logs, length-append l.decls (flat_map (λ (k : Log). k.decls) (filter p logs)), ih)
    by false ih = omega (arith, sum_by-cons (λ (k : Log). length k.decls) l logs, ih)

module _ (w : WorldState) (h : WeightsHold w) (few : length w.routers ≤ most_routers) (x : Name) (r : RouterState) (found : router_of w.routers x ≡ Some r) (order : AreInOrder r.node.known) where
  -- what is known of a log is of a router that is there, and weighs little
  log_length : (l : Log) → IsKnown h.ever l → length l.decls ≤ most_weight * one_if (there_in w l.source)
  log_length l k = omega (arith, each_one decl_weight l.decls (λ d. omega arith), part_weighs l.decls (h.ever l.source) k.0 k.1, h.declared l.source, by (router_of w.routers l.source) (h.most l.source))
    where
      by : (o : Option RouterState) → weight_at o ≤ most_weight → weight_at o ≤ most_weight * one_if (is_some o)
      by None le = omega arith
      by (Some q) le = omega (arith, le)

  logs_length : (logs : List Log) → AllByRecursion (IsKnown h.ever) logs → sum_by (λ l. length l.decls) logs ≤ sum_by (λ l. most_weight * one_if (there_in w l.source)) logs
  logs_length [] k = omega arith
  logs_length (l ∷ logs) k =
      omega (arith, sum_by-cons (λ (z : Log). length z.decls) l logs, sum_by-cons (λ (z : Log). most_weight * one_if (there_in w z.source)) l logs, log_length l k.0, logs_length logs k.1)

  sets_few : (p : Log → Bool) → length (flat_map (λ l. l.decls) (filter p r.node.known.logs)) ≤ most_weight * most_routers
  sets_few p = omega (
    arith,
    sets_length p r.node.known.logs,
    logs_length r.node.known.logs (h.within x r found).logs,
    sum_times most_weight (λ (l : Log). one_if (there_in w l.source)) r.node.known.logs,
    few_there r.node.known.logs order.ascending w.routers,
    few,
  )

  rows_few : length r.node.rows ≤ most_weight
  rows_few =
      let number : number_at (router_of w.routers x) ≡ number_at (Some r) = ap number_at found in
      omega (arith, h.number x, h.most x, number)

  others_few : (link : ℕ) → length (others (tables r.node) link) ≤ most_weight + most_weight * most_routers
  others_few link = omega (
    arith,
    length-append (decls_of (left r.node.rows link)) (flat_map (λ (l : Log). l.decls) (filter (λ l. is_source (tables r.node) l) r.node.known.logs)),
    length-map (left r.node.rows link) (λ (q : Row). q.decl),
    filter_shorter (λ (q : Row). not (q.link.0 == link)) r.node.rows,
    rows_few,
    sets_few (λ l. is_source (tables r.node) l),
  )

  -- ---- what clients want

  interests_few : clients_weight r.node.clients ≤ most_weight
  interests_few =
      let held : held_at (router_of w.routers x) ≡ held_weight (local_state r.node) = ap held_at found in
      omega (arith, h.held x, h.most x, held)

  client_lacks_none : (link : ℕ) (is : List Interest) → interests_weight is ≤ most_weight → lacks_ids (others (tables r.node) link) is ≡ false
  client_lacks_none link is le = le-ltb most_id (length (wanted (others (tables r.node) link) is))
      (omega (arith, few_are_wanted (others (tables r.node) link) is, others_few link, each_one interest_weight is (λ i. omega arith), le))

  pub wants_few : one_lacks_ids (tables r.node) r.node.clients ≡ false
  wants_few = from r.node.clients interests_few
    where
      from : (cs : List ClientInterests) → clients_weight cs ≤ most_weight → list_any (λ c. lacks_ids (others (tables r.node) c.link.0) c.interests) cs ≡ false
      from [] le = refl
      from (c ∷ cs) le =
          ap (λ t. t || list_any (λ (q : ClientInterests). lacks_ids (others (tables r.node) q.link.0) q.interests) cs)
          (client_lacks_none c.link.0 c.interests (omega (arith, sum_by-cons client_weight c cs, le)))
          ∙ from cs (omega (arith, sum_by-cons client_weight c cs, le))

-- so a router with its clients refuses what the router itself refuses
pub hub_takes : (r : RouterState) (event : Event) → refuses r.node event ≡ None → one_lacks_ids (tables (after r.node event)) (after r.node event).clients ≡ false → refuses_of r event ≡ None
hub_takes r event taken few =
    ap (λ (o : Option NodeError). option_or o (cond (one_lacks_ids (tables (after r.node event)) (after r.node event).clients) (Some Worn) None)) taken
    ∙ ap (λ t. cond t (Some Worn) None) few
