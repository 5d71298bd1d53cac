-- What waits on a router's wires, after each change of a world's ends (`waiting`).
use Rattle.std.proofs.Common.{◌≡◌, ◌≤◌, ◌+◌, ℕ, Bool, true, false, cond, List, [], ◌∷◌, ◌++◌, map, Some, is_some, Ordering, Less, Equal, Greater, refl, sym, ap, ◌∙◌, arith}
use Rattle.std.specs.Ordering.{match_ordering}
use Rattle.std.specs.BTreeMap.{insert_entry}
use Rattle.std.proofs.lemmas.Bool.{false≢true}
use Rattle.std.proofs.lemmas.List.Sums.{sum_by-cons, sum_by_push}
use Rattle.zr_id.specs.Zid.{is_named}
use Rattle.zr_msg.specs.declared.msg.Msg.{Msg}
use Rattle.zr_msg.specs.declared.event.Event.{Event}
use Rattle.zr_node_spec.specs.State.{NodeState}
use Rattle.zr_world_spec.specs.World.{Tagged, EndState, End, Ends, end_cmp, is_end, end_of, with_end, put_end, with_wire, sent, queued, changed}
use Rattle.zr_world_spec.specs.Acts.{sends_to, all_queued}
use Rattle.zr_world_spec.proofs.Keyed.{there}
use Rattle.zr_world_spec.proofs.Ends.{same_end}
use Rattle.zr_law_settled.proofs.Spreading.{Name}
use Rattle.zr_law_settled.proofs.Weights.{weighs, wire_weight, weighs_on, waiting}

-- ---- what waits

waiting_cons : (x : Name) (e : End × EndState) (es : Ends) → waiting (e ∷ es) x ≡ weighs_on x e + waiting es x
waiting_cons x e es = sum_by-cons (weighs_on x) e es

-- an end has another state
waiting_with : (es : Ends) (e : End) (c s : EndState) (x : Name) → end_of es e ≡ Some c → waiting (with_end es e s) x + weighs_on x (e, c) ≡ waiting es x + weighs_on x (e, s)
waiting_with [] e c s x found = absurd (false≢true (ap is_some found))
waiting_with (q ∷ es) e c s x found = by (is_end e q.0) refl found (waiting_with es e c s x)
  where
    by : (t : Bool) → is_end e q.0 ≡ t → cond t (Some q.1) (end_of es e) ≡ Some c → (end_of es e ≡ Some c → waiting (with_end es e s) x + weighs_on x (e, c) ≡ waiting es x + weighs_on x (e, s)) →
        waiting (cond t ((q.0, s) ∷ es) (q ∷ with_end es e s)) x + weighs_on x (e, c) ≡ waiting (q ∷ es) x + weighs_on x (e, s)
    by true t f ih =
        let value : q.1 ≡ c = cc in
        let was : weighs_on x q ≡ weighs_on x (e, c) = ap (λ (z : End). weighs_on x (z, q.1)) (sym (same_end e q.0 t)) ∙ ap (λ (z : EndState). weighs_on x (e, z)) value in
        let now : weighs_on x (q.0, s) ≡ weighs_on x (e, s) = ap (λ (z : End). weighs_on x (z, s)) (sym (same_end e q.0 t)) in
        omega (arith, waiting_cons x (q.0, s) es, waiting_cons x q es, was, now)
    by false t f ih = omega (arith, waiting_cons x q (with_end es e s), waiting_cons x q es, ih f)

-- ends change one by one, and none has more on its wire
waiting_map : (g : End × EndState → End × EndState) (es : Ends) (x : Name) → ((e : End × EndState) → weighs_on x (g e) ≤ weighs_on x e) → waiting (map g es) x ≤ waiting es x
waiting_map g [] x h = omega arith
waiting_map g (e ∷ es) x h = omega (arith, waiting_cons x (g e) (map g es), waiting_cons x e es, h e, waiting_map g es x h)

on_wires : (x : Name) (t : Bool) (q : End × EndState) (s : EndState) → wire_weight s.wire ≤ wire_weight q.1.wire → weighs_on x (cond t (q.0, s) q) ≤ weighs_on x q
on_wires x false q s le = omega arith
on_wires x true q s le = by (is_named x q.0.0)
  where
    by : (t : Bool) → cond t (wire_weight s.wire) 0 ≤ cond t (wire_weight q.1.wire) 0
    by true = le
    by false = omega arith

pub waiting_changed : (es : Ends) (e : End) (change : EndState → EndState) (x : Name) → ((s : EndState) → wire_weight (change s).wire ≤ wire_weight s.wire) → waiting (changed es e change) x ≤ waiting es x
waiting_changed es e change x le = waiting_map (λ q. cond (is_end e q.0) (q.0, change q.1) q) es x (λ q. on_wires x (is_end e q.0) q (change q.1) (le q.1))

pub waiting_queued : (es : Ends) (a : Name) (n : NodeState) (event : Event) (tag : ℕ) (x : Name) → waiting (all_queued es a n event tag) x ≤ waiting es x
waiting_queued es a n event tag x =
    waiting_map (λ q. cond (is_named a q.0.0) (q.0, queued q.1 (sends_to n event q.0.1) tag) q) es x (λ q. on_wires x (is_named a q.0.0) q (queued q.1 (sends_to n event q.0.1) tag) (omega arith))

-- an end comes, with nothing on its wire
none_weighs : (x : Name) (e : End) (s : EndState) → wire_weight s.wire ≡ 0 → weighs_on x (e, s) ≡ 0
none_weighs x e s none = by (is_named x e.0)
  where
    by : (t : Bool) → cond t (wire_weight s.wire) 0 ≡ 0
    by true = none
    by false = refl

waiting_insert : (es : Ends) (e : End) (s : EndState) (x : Name) → wire_weight s.wire ≡ 0 → waiting (insert_entry end_cmp es e s) x ≤ waiting es x
waiting_insert [] e s x none = omega (arith, waiting_cons x (e, s) [], none_weighs x e s none)
waiting_insert (q ∷ es) e s x none = by (end_cmp e q.0) (waiting_insert es e s x none)
  where
    by : (o : Ordering) → waiting (insert_entry end_cmp es e s) x ≤ waiting es x →
        waiting (match_ordering o ((e, s) ∷ q ∷ es) ((q.0, s) ∷ es) (q ∷ insert_entry end_cmp es e s)) x ≤ waiting (q ∷ es) x
    by Less ih = omega (arith, waiting_cons x (e, s) (q ∷ es), none_weighs x e s none)
    by Equal ih = omega (arith, waiting_cons x (q.0, s) es, waiting_cons x q es, none_weighs x q.0 s none)
    by Greater ih = omega (arith, waiting_cons x q (insert_entry end_cmp es e s), waiting_cons x q es, ih)

pub waiting_put : (es : Ends) (e : End) (s : EndState) (x : Name) → wire_weight s.wire ≡ 0 → waiting (put_end es e s) x ≤ waiting es x
waiting_put es e s x none = by (is_some (end_of es e)) refl
  where
    by : (t : Bool) → is_some (end_of es e) ≡ t → waiting (cond t (with_end es e s) (insert_entry end_cmp es e s)) x ≤ waiting es x
    by true t = let c = there (end_of es e) t in omega (arith, waiting_with es e c.0 s x c.1, none_weighs x e s none)
    by false t = waiting_insert es e s x none

-- a message more on a wire
pub wire_push : (ws : List Tagged) (msg : Msg) (tag : ℕ) → wire_weight (ws ++ record { msg = msg; tag = tag } ∷ []) ≡ wire_weight ws + weighs msg
wire_push ws msg tag = sum_by_push (λ (m : Tagged). weighs m.msg) ws (record { msg = msg; tag = tag })

module _ (es : Ends) (e : End) (c : EndState) (found : end_of es e ≡ Some c) (msg : Msg) (tag : ℕ) (x : Name) where
  -- an end's wire is the same
  pub waiting_same : (s : EndState) → s.wire ≡ c.wire → waiting (with_end es e s) x ≡ waiting es x
  waiting_same s same =
      let e_is : weighs_on x (e, s) ≡ weighs_on x (e, c) = ap (λ ws. cond (is_named x e.0) (wire_weight ws) 0) same in
      omega (arith, waiting_with es e c s x found, e_is)

  -- a message more is on the wire
  pub waiting_sent : waiting (with_end es e (sent c msg tag)) x ≡ waiting es x + cond (is_named x e.0) (weighs msg) 0
  waiting_sent = omega (arith, waiting_with es e c (sent c msg tag) x found, by (is_named x e.0))
    where
      by : (t : Bool) → cond t (wire_weight (c.wire ++ record { msg = msg; tag = tag } ∷ [])) 0 ≡ cond t (wire_weight c.wire) 0 + cond t (weighs msg) 0
      by true = wire_push c.wire msg tag
      by false = refl

  -- and one is taken from it
  pub waiting_popped : (xs : List Tagged) → c.wire ≡ record { msg = msg; tag = tag } ∷ xs → waiting (with_end es e (with_wire c xs)) x + cond (is_named x e.0) (weighs msg) 0 ≡ waiting es x
  waiting_popped xs front = omega (arith, waiting_with es e c (with_wire c xs) x found, by (is_named x e.0))
    where
      all : wire_weight c.wire ≡ weighs msg + wire_weight xs
      all = ap wire_weight front ∙ sum_by-cons (λ (m : Tagged). weighs m.msg) (record { msg = msg; tag = tag }) xs

      by : (t : Bool) → cond t (wire_weight c.wire) 0 ≡ cond t (weighs msg) 0 + cond t (wire_weight xs) 0
      by true = all
      by false = refl

-- what waits at an end waits on its router's wires
pub one_waits : (es : Ends) (e : End) (c : EndState) → end_of es e ≡ Some c → (m : Tagged) (xs : List Tagged) → c.wire ≡ m ∷ xs → (x : Name) → is_named x e.0 ≡ true → weighs m.msg ≤ waiting es x
one_waits es e c found m xs front x here =
    let mine : cond (is_named x e.0) (weighs m.msg) 0 ≡ weighs m.msg = ap (λ t. cond t (weighs m.msg) 0) here in
    omega (arith, waiting_popped es e c found m.msg m.tag x xs front, mine)
