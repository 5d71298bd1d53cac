-- What the client that asks was sent: of each replier a prefix of its replies, and all of them where the final was sent; and where nothing is under way
-- and all have ended, the final was sent. Each goes down the tree from the root, along the way of the replier or to all children.
use Rattle.std.proofs.Common.{◌≡◌, ℕ, ◌<◌, suc, zero, Bool, true, false, List, [], ◌∷◌, ◌++◌, refl, sym, ap, ◌∙◌, arith, append-nil, append_assoc}
use Rattle.std.specs.Prelude.{filter}
use Rattle.std.proofs.lemmas.Bool.{false≢true, not-true}
use Rattle.std.proofs.lemmas.List.Elements.{filter-append}
use Rattle.zr_lists.proofs.Tests.{all_pass}
use Rattle.zr_law_queries.specs.Query.{Tree, IsTree, Stage, NotYet, OnTheWay, Here, Over, is_child, is_not_yet, is_over, is_done, replies_at, fits, Sound, sent_up, Way, IsWay, Brings, is_at_rest, has_ended, IsQuiet, IsFinished}
use Rattle.zr_law_queries.proofs.Trees.{all_on}

is_over_is : {R : Type 0} (u : Stage R) → is_over u ≡ true → u ≡ Over
is_over_is NotYet h = absurd (false≢true h)
is_over_is OnTheWay h = absurd (false≢true h)
is_over_is (Here xs b) h = absurd (false≢true h)
is_over_is Over h = refl

pub done_below : {R : Type 0} (u v : Stage R) → is_done u ≡ true → fits u v ≡ true → v ≡ Over
done_below NotYet v d h = absurd (false≢true d)
done_below OnTheWay v d h = absurd (false≢true d)
done_below (Here rs true) v d h = is_over_is v h
done_below (Here rs false) v d h = absurd (false≢true d)
done_below Over v d h = is_over_is v h

pub nothing_waits : {R : Type 0} (u : Stage R) → is_at_rest u ≡ true → replies_at u ≡ []
nothing_waits NotYet e = refl
nothing_waits OnTheWay e = refl
nothing_waits (Here [] d) e = refl
nothing_waits (Here (x ∷ xs) d) e = absurd (false≢true e)
nothing_waits Over e = refl

module _ {N R : Type 0} (t : Tree N) (is : IsTree t) (s : N → Stage R) (h : Sound t s) where
  -- no node so low gathers
  module _ (w : Way N R) (on : IsWay t w) (heard : N → List R) (got lines : List R) (g : Brings t w s heard got lines) (top : ℕ) (free : (x : N) → t.height x < top → t.gathers x ≡ false) where
    prefix_at : (n : ℕ) (x : N) → t.height x < n → t.height x < top → w.on x ≡ true → (rest : List R) × (filter w.is_own (sent_up s heard x) ++ rest ≡ lines)
    prefix_at zero x low under o = let bad : ⊥ = omega (arith, low) in absurd bad
    prefix_at (suc n) x low under o = by (t.same x w.replier) refl (λ y lt u k. prefix_at n y lt u k)
      where
        by : (b : Bool) → t.same x w.replier ≡ b → ((y : N) → t.height y < n → t.height y < top → w.on y ≡ true → (rest : List R) × (filter w.is_own (sent_up s heard y) ++ rest ≡ lines)) →
            (rest : List R) × (filter w.is_own (sent_up s heard x) ++ rest ≡ lines)
        by true e ih = ([], append-nil (filter w.is_own (sent_up s heard x)) ∙ ap (λ z. filter w.is_own (sent_up s heard z)) (is.decides x w.replier e) ∙ g.own)
        by false e ih =
            let y : N = w.next x in
            let lt : t.height y < t.height x = is.falls x y (on.goes x o e) in
            let more : (rest : List R) × (filter w.is_own (sent_up s heard y) ++ rest ≡ lines) = ih y (omega (arith, lt, low)) (omega (arith, lt, under)) (on.stays x o e) in (
              filter w.is_own (replies_at (s y)) ++ more.0,
              ap (λ z. z ++ (filter w.is_own (replies_at (s y)) ++ more.0)) (g.along x o e (free x under))
                  ∙ sym (append_assoc (filter w.is_own (heard y)) (filter w.is_own (replies_at (s y))) more.0)
                  ∙ ap (λ z. z ++ more.0) (sym (filter-append w.is_own (heard y) (replies_at (s y)))) ∙ more.1,
            )

    -- what came is a prefix of what was replied
    pub prefix : (x : N) → t.height x < top → w.on x ≡ true → (rest : List R) × (filter w.is_own (sent_up s heard x) ++ rest ≡ lines)
    prefix x under o = prefix_at (suc (t.height x)) x (omega arith) under o

    whole_at : (n : ℕ) (x : N) → t.height x < n → t.height x < top → w.on x ≡ true → is_done (s x) ≡ true → (filter w.is_own (sent_up s heard x) ≡ lines) × (is_done (s w.replier) ≡ true)
    whole_at zero x low under o d = let bad : ⊥ = omega (arith, low) in absurd bad
    whole_at (suc n) x low under o d = by (t.same x w.replier) refl (λ y lt u k j. whole_at n y lt u k j)
      where
        by : (b : Bool) → t.same x w.replier ≡ b → ((y : N) → t.height y < n → t.height y < top → w.on y ≡ true → is_done (s y) ≡ true → (filter w.is_own (sent_up s heard y) ≡ lines) × (is_done (s w.replier) ≡ true)) →
            (filter w.is_own (sent_up s heard x) ≡ lines) × (is_done (s w.replier) ≡ true)
        by true e ih =
            let same : x ≡ w.replier = is.decides x w.replier e in
            (ap (λ z. filter w.is_own (sent_up s heard z)) same ∙ g.own, ap (λ z. is_done (s z)) (sym same) ∙ d)
        by false e ih =
            let y : N = w.next x in
            let kid : is_child t x y ≡ true = on.goes x o e in
            let lt : t.height y < t.height x = is.falls x y kid in
            let over : s y ≡ Over = done_below (s x) (s y) d (h.fit x y kid) in
            let more : (filter w.is_own (sent_up s heard y) ≡ lines) × (is_done (s w.replier) ≡ true) = ih y (omega (arith, lt, low)) (omega (arith, lt, under)) (on.stays x o e) (ap is_done over) in
            (g.along x o e (free x under) ∙ ap (filter w.is_own) (sym (append-nil (heard y)) ∙ ap (λ u. heard y ++ replies_at u) (sym over)) ∙ more.0, more.1)

    quiet_at : (n : ℕ) (x : N) → t.height x < n → t.height x < top → w.on x ≡ true → IsQuiet t s → filter w.is_own (sent_up s heard x) ≡ lines
    quiet_at zero x low under o q = let bad : ⊥ = omega (arith, low) in absurd bad
    quiet_at (suc n) x low under o q = by (t.same x w.replier) refl (λ y lt u k. quiet_at n y lt u k q)
      where
        by : (b : Bool) → t.same x w.replier ≡ b → ((y : N) → t.height y < n → t.height y < top → w.on y ≡ true → filter w.is_own (sent_up s heard y) ≡ lines) → filter w.is_own (sent_up s heard x) ≡ lines
        by true e ih = ap (λ z. filter w.is_own (sent_up s heard z)) (is.decides x w.replier e) ∙ g.own
        by false e ih =
            let y : N = w.next x in
            let kid : is_child t x y ≡ true = on.goes x o e in
            let lt : t.height y < t.height x = is.falls x y kid in
            g.along x o e (free x under) ∙ ap (filter w.is_own) (sym (append-nil (heard y)) ∙ ap (λ r. heard y ++ r) (sym (nothing_waits (s y) (q x y kid)))) ∙ ih y (omega (arith, lt, low)) (omega (arith, lt, under)) (on.stays x o e)

    -- where nothing is under way all replies have come
    pub whole_quiet : (x : N) → t.height x < top → w.on x ≡ true → IsQuiet t s → filter w.is_own (sent_up s heard x) ≡ lines
    whole_quiet x under o q = quiet_at (suc (t.height x)) x (omega arith) under o q

    -- where the final was sent, all replies were before it, and the client has ended
    pub whole : (x : N) → t.height x < top → w.on x ≡ true → is_done (s x) ≡ true → (filter w.is_own (sent_up s heard x) ≡ lines) × (is_done (s w.replier) ≡ true)
    whole x under o d = whole_at (suc (t.height x)) x (omega arith) under o d

  -- where nothing is under way and all have ended, each node that was reached is done
  over_at : (n : ℕ) (x y : N) → t.height y < n → IsQuiet t s → IsFinished t s → is_child t x y ≡ true → is_not_yet (s y) ≡ false → is_over (s y) ≡ true
  over_at zero x y low q f kid there = let bad : ⊥ = omega (arith, low) in absurd bad
  over_at (suc n) x y low q f kid there = by_stage (s y) refl (t.passes y) refl (λ z lt k nz. over_at n y z lt q f k nz)
    where
      by_stage : (u : Stage R) → s y ≡ u → (p : Bool) → t.passes y ≡ p → ((z : N) → t.height z < n → is_child t y z ≡ true → is_not_yet (s z) ≡ false → is_over (s z) ≡ true) → is_over (s y) ≡ true
      by_stage NotYet e p pe ih = absurd (false≢true (sym there ∙ ap is_not_yet e))
      by_stage OnTheWay e p pe ih = absurd (false≢true (sym (ap is_at_rest e) ∙ q x y kid))
      by_stage (Here [] true) e p pe ih = absurd (false≢true (sym (ap is_at_rest e) ∙ q x y kid))
      by_stage (Here [] false) e false pe ih = absurd (false≢true (sym (ap has_ended e) ∙ f x y kid pe))
      by_stage (Here [] false) e true pe ih = absurd (false≢true (h.row y pe [] false e ∙ all_on t is (λ z. is_over (s z)) (λ z. true) (t.children y) each ∙ all_pass (t.children y)))
        where
          each : (z : N) → is_child t y z ≡ true → is_over (s z) ≡ true
          each z k =
              let lt : t.height z < t.height y = is.falls y z k in
              ih z (omega (arith, lt, low)) k (not-true (is_not_yet (s z)) (ap (λ u. fits u (s z)) (sym e) ∙ h.fit y z k))
      by_stage (Here (r ∷ rs) b) e p pe ih = absurd (false≢true (sym (ap is_at_rest e) ∙ q x y kid))
      by_stage Over e p pe ih = ap is_over e

  -- then the final was sent
  pub final_comes : (rs : List R) (done : Bool) → s t.root ≡ Here rs done → IsQuiet t s → IsFinished t s → done ≡ true
  final_comes rs true e q f = refl
  final_comes rs false e q f = h.row t.root is.asks rs false e ∙ all_on t is (λ z. is_over (s z)) (λ z. true) (t.children t.root)
      (λ z k. over_at (suc (t.height z)) t.root z (omega arith) q f k (not-true (is_not_yet (s z)) (ap (λ u. fits u (s z)) (sym e) ∙ h.fit t.root z k))) ∙ all_pass (t.children t.root)
