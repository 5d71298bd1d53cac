-- The places that a message passes, from its receiver back to its publisher, along any number of routers, and what a step does to all
-- that stands in them. Moved from one place to the next nothing is changed (`keeps`), and what the publisher writes comes last (`gains`).
-- What a router handles goes from its wire to its queue, and what it sends from its queue to the next one's wire: for each router on the
-- way it is enough to know what the step does to its own places (`handled`, `taken`, `written`). All goes by induction on the way. No
-- world is in this file.
use Rattle.std.proofs.Common.{◌≡◌, ℕ, List, [], ◌∷◌, ◌++◌, refl, sym, ap, ◌∙◌, append_assoc, append-nil}
use Rattle.std.specs.Prelude.{◌⊎◌}
use Rattle.std.proofs.Common.{inl, inr}

-- a place that a message passes
pub data Spot : Type 0 where
  -- what a client was sent
  Sent : (to : List ℕ) → Spot
  -- what a router has queued for a neighbour
  Queue : (at to : List ℕ) → Spot
  -- what is on its way to a router from a neighbour
  Wire : (at source : List ℕ) → Spot

-- the next neighbour on a way to the publisher along some routers
abbrev pub next : List (List ℕ) → List ℕ → List ℕ
next [] publisher = publisher
next (r ∷ rs) publisher = r

-- the places between a receiver and the publisher, along the routers from the receiver's to the publisher's
abbrev pub hops : List ℕ → List (List ℕ) → List ℕ → List Spot
hops to [] publisher = []
hops to (r ∷ rs) publisher = Queue r to ∷ Wire r (next rs publisher) ∷ hops r rs publisher

-- all places from what the receiver was sent back to the publisher
abbrev pub path : List ℕ → List (List ℕ) → List ℕ → List Spot
path receiver rs publisher = Sent receiver ∷ hops receiver rs publisher

-- P holds of each router on the way with its neighbours on both sides, the one toward the receiver first, and Q of each router with the next
-- one toward the publisher, if there is one
abbrev pub AtEach : (List ℕ → List ℕ → List ℕ → Type 0) → (List ℕ → List ℕ → Type 0) → List ℕ → List (List ℕ) → List ℕ → Type 0
AtEach P Q to [] publisher = Unit {0}
AtEach P Q to (r ∷ []) publisher = P to r publisher
AtEach P Q to (r ∷ s ∷ rs) publisher = P to r s × Q r s × AtEach P Q r (s ∷ rs) publisher

module _ {X : Type 0} where
  -- what stands in some places, joined
  abbrev pub along : (Spot → List X) → List Spot → List X
  along f [] = []
  along f (p ∷ ps) = f p ++ along f ps

  -- from f to g, messages go from the second place to the first, or both stay
  abbrev pub Hop : (Spot → List X) → (Spot → List X) → List X → Spot → Spot → Type 0
  Hop f g ms p q = ((g p ≡ f p ++ ms) × (f q ≡ ms ++ g q)) ⊎ ((g p ≡ f p) × (g q ≡ f q))

  -- the places two by two
  abbrev pub Keeps : (Spot → List X) → (Spot → List X) → List X → List Spot → Type 0
  Keeps f g ms [] = Unit {0}
  Keeps f g ms (p ∷ []) = g p ≡ f p
  Keeps f g ms (p ∷ q ∷ ps) = Hop f g ms p q × Keeps f g ms ps

  -- messages come to the last place, and all others stay
  abbrev pub Gains : (Spot → List X) → (Spot → List X) → List X → List Spot → Type 0
  Gains f g ms [] = ⊥
  Gains f g ms (p ∷ []) = g p ≡ f p ++ ms
  Gains f g ms (p ∷ q ∷ ps) = (g p ≡ f p) × Gains f g ms (q ∷ ps)

  pub keeps : (f g : Spot → List X) (ms : List X) (ps : List Spot) → Keeps f g ms ps → along g ps ≡ along f ps
  keeps f g ms [] k = refl
  keeps f g ms (p ∷ []) k = ap (λ z. z ++ []) k
  keeps f g ms (p ∷ q ∷ ps) k = by (keeps f g ms ps k.1) k.0
    where
      by : along g ps ≡ along f ps → Hop f g ms p q → along g (p ∷ q ∷ ps) ≡ along f (p ∷ q ∷ ps)
      by ih (inl h) = rw (h.0, h.1, ih) (append_assoc (f p) ms (g q ++ along f ps) ∙ ap (λ z. f p ++ z) (sym (append_assoc ms (g q) (along f ps))))
      by ih (inr h) = rw (h.0, h.1, ih) refl

  pub gains : (f g : Spot → List X) (ms : List X) (ps : List Spot) → Gains f g ms ps → along g ps ≡ along f ps ++ ms
  gains f g ms [] k = absurd k
  gains f g ms (p ∷ []) k = ap (λ z. z ++ []) k ∙ append_assoc (f p) ms [] ∙ ap (λ z. f p ++ z) (append-nil ms) ∙ ap (λ z. z ++ ms) (sym (append-nil (f p)))
  gains f g ms (p ∷ q ∷ ps) k = ap (λ z. z ++ along g (q ∷ ps)) k.0 ∙ ap (λ z. f p ++ z) (gains f g ms (q ∷ ps) k.1) ∙ sym (append_assoc (f p) (along f (q ∷ ps)) ms)

  -- ---- steps on the way along some routers

  module _ (P : List ℕ → List ℕ → List ℕ → Type 0) (Q : List ℕ → List ℕ → Type 0) (publisher : List ℕ) (f g : Spot → List X) (ms : List X) where
    -- a router handles: at each router messages go from its wire to its queue, or all stays
    pub handled : ((to r s : List ℕ) → P to r s → Hop f g ms (Queue r to) (Wire r s)) → (to : List ℕ) (rs : List (List ℕ)) → AtEach P Q to rs publisher → Keeps f g ms (hops to rs publisher)
    handled at to [] k = tt
    handled at to (r ∷ []) k = (at to r publisher k, tt)
    handled at to (r ∷ s ∷ rs) k = (at to r s k.0, handled at r (s ∷ rs) k.2)

    -- a router sends: messages go from a queue to the next wire, or from the last queue to the receiver, or all stays
    pub taken : ((r s : List ℕ) → Q r s → Hop f g ms (Wire r s) (Queue s r)) → ((to r : List ℕ) → P to r publisher → g (Wire r publisher) ≡ f (Wire r publisher)) →
        (to r : List ℕ) (rs : List (List ℕ)) → AtEach P Q to (r ∷ rs) publisher → Hop f g ms (Sent to) (Queue r to) → Keeps f g ms (path to (r ∷ rs) publisher)
    taken between last to r rs k first = (first, wires to r rs k)
      where
        wires : (to r : List ℕ) (rs : List (List ℕ)) → AtEach P Q to (r ∷ rs) publisher → Keeps f g ms (Wire r (next rs publisher) ∷ hops r rs publisher)
        wires to r [] k = last to r k
        wires to r (s ∷ rs) k = (between r s k.1, wires r s rs k.2)

    -- the publisher writes: messages come to its wire, and all other places stay
    pub written : ((to r s : List ℕ) → P to r s → g (Queue r to) ≡ f (Queue r to)) → ((r s : List ℕ) → Q r s → g (Wire r s) ≡ f (Wire r s)) →
        ((to r : List ℕ) → P to r publisher → g (Wire r publisher) ≡ f (Wire r publisher) ++ ms) →
        (to r : List ℕ) (rs : List (List ℕ)) → AtEach P Q to (r ∷ rs) publisher → g (Sent to) ≡ f (Sent to) → Gains f g ms (path to (r ∷ rs) publisher)
    written queue between last to r rs k sent = (sent, places to r rs k)
      where
        places : (to r : List ℕ) (rs : List (List ℕ)) → AtEach P Q to (r ∷ rs) publisher → Gains f g ms (hops to (r ∷ rs) publisher)
        places to r [] k = (queue to r publisher k, last to r k)
        places to r (s ∷ rs) k = (queue to r s k.0, (between r s k.1, places r s rs k.2))

    -- nothing stands in the places
    pub bare : ((to r s : List ℕ) → P to r s → (f (Queue r to) ≡ []) × (f (Wire r s) ≡ [])) → (to : List ℕ) (rs : List (List ℕ)) → AtEach P Q to rs publisher → along f (hops to rs publisher) ≡ []
    bare at to [] k = refl
    bare at to (r ∷ []) k = rw ((at to r publisher k).0, (at to r publisher k).1) refl
    bare at to (r ∷ s ∷ rs) k = rw ((at to r s k.0).0, (at to r s k.0).1) (bare at r (s ∷ rs) k.2)
