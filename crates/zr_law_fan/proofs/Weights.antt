-- What waits at the ends, weighed: after each change of the ends.
use Rattle.std.proofs.Common.{◌≡◌, ℕ, ◌+◌, Bool, true, false, cond, List, [], ◌∷◌, ◌++◌, map, Some, refl, sym, ap, ◌∙◌, arith}
use Rattle.std.specs.Prelude.{is_some}
use Rattle.std.specs.List.{AllByRecursion}
use Rattle.std.specs.List.Sorted.{IsStrictlySortedBy}
use Rattle.std.specs.Map.{keys_of}
use Rattle.std.specs.Ordering.{is_eq}
use Rattle.std.specs.declared.cmp.Ordering.TheVariants.{Less}
use Rattle.std.proofs.lemmas.Bool.{false≢true}
use Rattle.zr_id.specs.Zid.{is_named}
use Rattle.zr_msg.specs.declared.msg.Msg.{Msg}
use Rattle.zr_orders.specs.Bag.{weigh}
use Rattle.zr_orders.proofs.Bag.{weigh-append}
use Rattle.zr_world_spec.specs.World.{EndState, End, Ends, end_cmp, is_end, end_of, with_end, changed, queued, sent}
use Rattle.zr_world_spec.specs.Acts.{waiting}
use Rattle.zr_world_spec.proofs.Ends.{same_end}
use Rattle.zr_law_fan.specs.Samples.{Move, Handling, Taking, at_end, under_way, tagged, sent_at, bare, emptied}

map_both : {X Y : Type 0} (f : X → Y) (xs ys : List X) → map f (xs ++ ys) ≡ map f xs ++ map f ys
map_both f [] ys = refl
map_both f (x ∷ xs) ys = ap (λ l. f x ∷ l) (map_both f xs ys)

map_twice : {X Y Z : Type 0} (f : Y → Z) (g : X → Y) (xs : List X) → map f (map g xs) ≡ map (λ x. f (g x)) xs
map_twice f g [] = refl
map_twice f g (x ∷ xs) = ap (λ l. f (g x) ∷ l) (map_twice f g xs)

module _ (f : Move → ℕ) where
  abbrev pub at : End → EndState → ℕ
  at e s = weigh f (at_end e s)

  at_parts : (e : End) (s : EndState) → at e s ≡ weigh f (map (λ m. Handling e m) s.wire) + weigh f (map (λ m. Taking e m) s.queue)
  at_parts e s = weigh-append f (map (λ m. Handling e m) s.wire) (map (λ m. Taking e m) s.queue)

  -- more messages in the queue
  at_queued : (e : End) (s : EndState) (msgs : List Msg) (tag : ℕ) → at e (queued s msgs tag) ≡ at e s + weigh f (map (λ z. Taking e (tagged tag z)) msgs)
  at_queued e s msgs tag =
      let whole = at_parts e (queued s msgs tag) in
      let old = at_parts e s in
      let split = ap (weigh f) (map_both (λ m. Taking e m) s.queue (map (λ m. tagged tag m) msgs)) in
      let two = weigh-append f (map (λ m. Taking e m) s.queue) (map (λ m. Taking e m) (map (λ m. tagged tag m) msgs)) in
      let same = ap (weigh f) (map_twice (λ m. Taking e m) (λ m. tagged tag m) msgs) in
      omega (arith, whole, old, split, two, same)

  -- one more message on the wire
  at_sent : (e : End) (s : EndState) (m : Msg) (tag : ℕ) → at e (sent s m tag) ≡ at e s + f (Handling e (tagged tag m))
  at_sent e s m tag =
      let whole = at_parts e (sent s m tag) in
      let old = at_parts e s in
      let split = ap (weigh f) (map_both (λ z. Handling e z) s.wire (tagged tag m ∷ [])) in
      let two = weigh-append f (map (λ z. Handling e z) s.wire) (Handling e (tagged tag m) ∷ []) in
      omega (arith, whole, old, split, two)

  -- ---- messages that wait at the ends of a router

  pub weigh_waiting : (es : Ends) (x : List ℕ) (msgs : List ℕ → List Msg) (tag : ℕ) → weigh f (under_way (waiting es x msgs tag)) ≡ weigh f (under_way es) + weigh f (sent_at (keys_of es) x msgs tag)
  weigh_waiting [] x msgs tag = omega arith
  weigh_waiting (e ∷ es) x msgs tag = by (is_named x e.0.0) (weigh_waiting es x msgs tag)
    where
      rest : List Move
      rest = under_way es

      by : (b : Bool) → weigh f (under_way (waiting es x msgs tag)) ≡ weigh f (under_way es) + weigh f (sent_at (keys_of es) x msgs tag) →
          weigh f (under_way (cond b (e.0, queued e.1 (msgs e.0.1) tag) e ∷ waiting es x msgs tag))
          ≡ weigh f (under_way (e ∷ es)) + weigh f (cond b (map (λ z. Taking e.0 (tagged tag z)) (msgs e.0.1)) [] ++ sent_at (keys_of es) x msgs tag)
      by true ih =
          let one = weigh-append f (at_end e.0 (queued e.1 (msgs e.0.1) tag)) (under_way (waiting es x msgs tag)) in
          let two = weigh-append f (at_end e.0 e.1) (under_way es) in
          let three = weigh-append f (map (λ z. Taking e.0 (tagged tag z)) (msgs e.0.1)) (sent_at (keys_of es) x msgs tag) in
          let here = at_queued e.0 e.1 (msgs e.0.1) tag in
          omega (arith, one, two, three, here, ih)
      by false ih =
          let one = weigh-append f (at_end e.0 e.1) (under_way (waiting es x msgs tag)) in
          let two = weigh-append f (at_end e.0 e.1) (under_way es) in
          omega (arith, one, two, ih)

  -- ---- another state at an end

  pub weigh_set : (es : Ends) (e : End) (s s' : EndState) → end_of es e ≡ Some s → weigh f (under_way (with_end es e s')) + at e s ≡ weigh f (under_way es) + at e s'
  weigh_set [] e s s' found = absurd (false≢true (ap is_some found))
  weigh_set (p ∷ es) e s s' found = by (is_end e p.0) refl found (weigh_set es e s s')
    where
      by : (b : Bool) → is_end e p.0 ≡ b → cond b (Some p.1) (end_of es e) ≡ Some s →
          (end_of es e ≡ Some s → weigh f (under_way (with_end es e s')) + at e s ≡ weigh f (under_way es) + at e s') →
          weigh f (under_way (cond b ((p.0, s') ∷ es) (p ∷ with_end es e s'))) + at e s ≡ weigh f (under_way (p ∷ es)) + at e s'
      by true k found ih =
          let value : p.1 ≡ s = cc in
          let key : e ≡ p.0 = same_end e p.0 k in
          let one = weigh-append f (at_end p.0 s') (under_way es) in
          let two = weigh-append f (at_end p.0 p.1) (under_way es) in
          let old : at e s ≡ at p.0 p.1 = ap (at e) (sym value) ∙ ap (λ z. at z p.1) key in
          let new : at e s' ≡ at p.0 s' = ap (λ z. at z s') key in
          omega (arith, one, two, old, new)
      by false k found ih =
          let one = weigh-append f (at_end p.0 p.1) (under_way (with_end es e s')) in
          let two = weigh-append f (at_end p.0 p.1) (under_way es) in
          let more = ih found in
          omega (arith, one, two, more)

  -- ---- a message more at an end, where it is there

  -- an end that comes before all others is none of them
  unmatched : (p e : End) (es : Ends) (change : EndState → EndState) → e ≡ p → AllByRecursion (λ y. end_cmp p y ≡ Less) (keys_of es) → changed es e change ≡ es
  unmatched p e [] change same less = refl
  unmatched p e (q ∷ es) change same less =
      let apart : is_end e q.0 ≡ false = ap (λ z. is_end z q.0) same ∙ ap is_eq less.0 in
      ap (λ b. cond b (q.0, change q.1) q ∷ changed es e change) apart ∙ ap (λ l. q ∷ l) (unmatched p e es change same less.1)

  -- where a change of an end adds what waits there
  pub weigh_changed : (es : Ends) (e : End) (change : EndState → EndState) (more : End → List Move) → ((q : End) (s : EndState) → at q (change s) ≡ at q s + weigh f (more q)) →
      IsStrictlySortedBy end_cmp (keys_of es) → weigh f (under_way (changed es e change)) ≡ weigh f (under_way es) + weigh f (cond (is_some (end_of es e)) (more e) [])
  unfolding IsStrictlySortedBy
  weigh_changed [] e change more adds sorted = omega arith
  weigh_changed (p ∷ es) e change more adds sorted = by (is_end e p.0) refl (weigh_changed es e change more adds sorted.1)
    where
      by : (b : Bool) → is_end e p.0 ≡ b → weigh f (under_way (changed es e change)) ≡ weigh f (under_way es) + weigh f (cond (is_some (end_of es e)) (more e) []) →
          weigh f (under_way (cond b (p.0, change p.1) p ∷ changed es e change))
          ≡ weigh f (under_way (p ∷ es)) + weigh f (cond (is_some (cond b (Some p.1) (end_of es e))) (more e) [])
      by true k ih =
          let key : e ≡ p.0 = same_end e p.0 k in
          let rest = ap (λ l. weigh f (under_way l)) (unmatched p.0 e es change key sorted.0) in
          let one = weigh-append f (at_end p.0 (change p.1)) (under_way (changed es e change)) in
          let two = weigh-append f (at_end p.0 p.1) (under_way es) in
          let here = adds p.0 p.1 in
          let named = ap (λ z. weigh f (more z)) key in
          omega (arith, rest, one, two, here, named)
      by false k ih =
          let one = weigh-append f (at_end p.0 p.1) (under_way (changed es e change)) in
          let two = weigh-append f (at_end p.0 p.1) (under_way es) in
          omega (arith, one, two, ih)

  pub weigh_sent : (es : Ends) (e : End) (m : Msg) (tag : ℕ) → IsStrictlySortedBy end_cmp (keys_of es) →
      weigh f (under_way (changed es e (λ s. sent s m tag))) ≡ weigh f (under_way es) + weigh f (cond (is_some (end_of es e)) (Handling e (tagged tag m) ∷ []) [])
  weigh_sent es e m tag sorted =
      weigh_changed es e (λ s. sent s m tag) (λ q. Handling q (tagged tag m) ∷ []) (λ q s. let one = at_sent q s m tag in omega (arith, one)) sorted

  -- a message more in the queue of an end, where it is there
  pub weigh_enqueued : (es : Ends) (e : End) (m : Msg) (tag : ℕ) → IsStrictlySortedBy end_cmp (keys_of es) →
      weigh f (under_way (changed es e (λ s. queued s (m ∷ []) tag))) ≡ weigh f (under_way es) + weigh f (cond (is_some (end_of es e)) (Taking e (tagged tag m) ∷ []) [])
  weigh_enqueued es e m tag sorted =
      weigh_changed es e (λ s. queued s (m ∷ []) tag) (λ q. Taking q (tagged tag m) ∷ []) (λ q s. at_queued q s (m ∷ []) tag) sorted

-- ---- ends at which nothing waits

pub emptied_waiting : (es : Ends) (x : List ℕ) (msgs : List ℕ → List Msg) (tag : ℕ) → emptied (waiting es x msgs tag) ≡ emptied es
emptied_waiting [] x msgs tag = refl
emptied_waiting (e ∷ es) x msgs tag = by (is_named x e.0.0) (emptied_waiting es x msgs tag)
  where
    by : (b : Bool) → emptied (waiting es x msgs tag) ≡ emptied es → emptied (cond b (e.0, queued e.1 (msgs e.0.1) tag) e ∷ waiting es x msgs tag) ≡ emptied (e ∷ es)
    by true ih = ap (λ l. (e.0, bare e.1) ∷ l) ih
    by false ih = ap (λ l. (e.0, bare e.1) ∷ l) ih

pub emptied_set : (es : Ends) (e : End) (s s' : EndState) → end_of es e ≡ Some s → bare s' ≡ bare s → emptied (with_end es e s') ≡ emptied es
emptied_set [] e s s' found same = refl
emptied_set (p ∷ es) e s s' found same = by (is_end e p.0) found (λ h. emptied_set es e s s' h same)
  where
    by : (b : Bool) → cond b (Some p.1) (end_of es e) ≡ Some s → (end_of es e ≡ Some s → emptied (with_end es e s') ≡ emptied es) →
        emptied (cond b ((p.0, s') ∷ es) (p ∷ with_end es e s')) ≡ emptied (p ∷ es)
    by true found ih = let value : p.1 ≡ s = cc in ap (λ z. (p.0, z) ∷ emptied es) (same ∙ ap bare (sym value))
    by false found ih = ap (λ l. (p.0, bare p.1) ∷ l) (ih found)

pub emptied_changed : (es : Ends) (e : End) (change : EndState → EndState) → ((s : EndState) → bare (change s) ≡ bare s) → emptied (changed es e change) ≡ emptied es
emptied_changed [] e change same = refl
emptied_changed (p ∷ es) e change same = by (is_end e p.0) (emptied_changed es e change same)
  where
    by : (b : Bool) → emptied (changed es e change) ≡ emptied es → emptied (cond b (p.0, change p.1) p ∷ changed es e change) ≡ emptied (p ∷ es)
    by true ih = λ i. (p.0, same p.1 i) ∷ ih i
    by false ih = ap (λ l. (p.0, bare p.1) ∷ l) ih
