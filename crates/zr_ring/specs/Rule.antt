-- The rule of a ring's two words and its slots, what each seat knows under it, and what each step tells.
-- One word counts what was given, the other what was taken. What has the place k lies in the slot k % cap.
use Rattle.std.specs.Prelude.{◌≡◌, ◌≢◌, ℕ, ◌+◌, ◌%◌, ◌<◌, ◌≤◌, Bool, true, false, List, [], ◌∷◌, ◌++◌, length, take, slice_index, Option, Some, None}
use mathlib.Core.Option.{some}
use mathlib.Core.Option as maybe
use mathlib.Core.List.{IsPrefix}
use lib.ListN.{get_elem?}
use Rattle.atomic_table.specs.Table.{State, Me, Step}
use Rattle.zr_ring.specs.declared.name.RingName.{RingName}
use Rattle.zr_ring.specs.declared.rule.EndView.{EndView}
use Rattle.zr_ring.specs.declared.rule.View.{View}

-- the indexes of the two words, and how many words there are: so far apart they share no cache line
abbrev pub given_word : ℕ
given_word = 16

abbrev pub taken_word : ℕ
taken_word = 32

abbrev pub all_words : ℕ
all_words = 48

abbrev pub one_if : Bool → ℕ
one_if true = 1
one_if false = 0

-- What happened so far, which exists in the rule alone: which ring it is, all that was given, how many were taken, whether each end holds a
-- slot, and which seat is which end's
pub record Progress (X : Type 0) : Type 0 where
  pub name : RingName
  pub given : List X
  pub taken : ℕ
  pub giver_holds : Bool
  pub taker_holds : Bool
  pub giver : ℕ
  pub taker : ℕ

-- the name of no ring
abbrev pub no_name : RingName
no_name = record { router = []; link = record { 0 = 0 }; since = 0 }

module _ {X : Type 0} where
  -- what an end knows: which ring it is, whether it holds a slot, what it gave or took, the other end's count as it loaded it last, and how
  -- often it did
  abbrev pub end_view : RingName → Bool → List X → ℕ → ℕ → EndView X
  end_view name holds list known loads = record { is_here = true; name = name; holds = holds; list = list; known = known; loads = loads }

  abbrev pub no_view : EndView X
  no_view = record { is_here = false; name = no_name; holds = false; list = []; known = 0; loads = 0 }

  abbrev pub view : EndView X → EndView X → View X
  view g t = record { giver = g; taker = t }

  abbrev pub giver_view : EndView X → View X
  giver_view g = view g no_view

  abbrev pub taker_view : EndView X → View X
  taker_view t = view no_view t

  -- What lies in the slots that no end holds: what was given and not taken lies at its place, and the others are empty. The giver holds
  -- the slot of the next place and the taker that of the place which it takes, if they hold one
  pub record AreSlots (stands : RingName → ℕ → X → Type 0) (cap : ℕ) (z : Progress X) (homes : List (maybe.Option (Option X))) : Type 0 where
    pub some_slot : 0 < cap
    pub deep : length homes ≡ cap
    pub behind : z.taken + one_if z.taker_holds ≤ length z.given
    pub within : length z.given ≤ z.taken + cap
    pub room : z.giver_holds ≡ true → length z.given < z.taken + cap
    pub full : (k : ℕ) (x : X) → z.taken ≤ k → (z.taker_holds ≡ true → k ≢ z.taken) → get_elem? z.given k ≡ some x
        → get_elem? homes (k % cap) ≡ some (some (Some x))
    pub empty : (k : ℕ) → length z.given ≤ k → k < z.taken + cap → (z.giver_holds ≡ true → k ≢ length z.given)
        → get_elem? homes (k % cap) ≡ some (some None)
    pub placed : (k : ℕ) (x : X) → get_elem? z.given k ≡ some x → stands z.name k x

  -- What the seat id knows fits the progress: the giver knows the list given, and the taker a prefix of it, which is what it took
  pub record Fits (z : Progress X) (id : ℕ) (d : View X) : Type 0 where
    pub gives : d.giver.is_here ≡ true → (id ≡ z.giver) × (d.giver.list ≡ z.given) × (d.giver.known ≤ z.taken)
        × (d.giver.holds ≡ z.giver_holds) × (d.giver.name ≡ z.name)
    pub takes : d.taker.is_here ≡ true → (id ≡ z.taker) × (d.taker.list ≡ take (z.taken + one_if z.taker_holds) z.given)
        × (d.taker.known ≤ length z.given) × (d.taker.holds ≡ z.taker_holds) × (d.taker.name ≡ z.name)

  pub record IsRing (stands : RingName → ℕ → X → Type 0) (s : State (Option X) (View X)) : Type 0 where
    pub progress : Progress X
    pub wide : length s.words ≡ all_words
    pub given_is : slice_index s.words given_word ≡ length progress.given
    pub taken_is : slice_index s.words taken_word ≡ progress.taken
    pub slots_are : AreSlots stands (length s.homes) progress s.homes
    pub each_seat : (id : ℕ) (d : View X) → get_elem? s.views id ≡ some d → Fits progress id d

-- a seat's view, and the slots that it holds
abbrev pub SeatState : Type 0 → Type 0
SeatState X = Me (Option X) (View X)

module _ {X : Type 0} where
  -- the giver loads the count taken
  abbrev pub loaded_taken : Step (Option X) → SeatState X → ℕ → SeatState X → Type 0
  loaded_taken st m n m' = let g = m.0.giver in (m'.0 ≡ giver_view (end_view g.name g.holds g.list n (g.loads + 1))) × (m'.1 ≡ m.1)
      × (g.known ≤ n) × (n ≤ length g.list)

  -- the giver takes its first slot
  abbrev pub began : Step (Option X) → SeatState X → ℕ → SeatState X → Type 0
  began st m n m' = let g = m.0.giver in (m'.0 ≡ giver_view (end_view g.name true g.list g.known g.loads))
      × (m'.1 ≡ (length g.list % st.slots, None) ∷ [])

  -- the giver shows what it put into its slot, and takes the next slot
  abbrev pub gave : Step (Option X) → SeatState X → ℕ → SeatState X → Type 0
  gave st m n m' = let g = m.0.giver in (k : ℕ) (x : X) → m.1 ≡ (k, Some x) ∷ []
      → (m'.0 ≡ giver_view (end_view g.name true (g.list ++ x ∷ []) g.known g.loads)) × (m'.1 ≡ ((length g.list + 1) % st.slots, None) ∷ [])

  -- the same, and no slot is taken
  abbrev pub gave_last : Step (Option X) → SeatState X → ℕ → SeatState X → Type 0
  gave_last st m n m' = let g = m.0.giver in (k : ℕ) (x : X) → m.1 ≡ (k, Some x) ∷ []
      → (m'.0 ≡ giver_view (end_view g.name false (g.list ++ x ∷ []) g.known g.loads)) × (m'.1 ≡ [])

  -- the taker loads the count given, and takes the slot of the next place where there is one
  abbrev pub saw_given : (RingName → ℕ → X → Type 0) → Step (Option X) → SeatState X → ℕ → SeatState X → Type 0
  saw_given stands st m n m' = let t = m.0.taker in (t.known ≤ n) × (length t.list ≤ n)
      × (n ≡ length t.list → (m'.0 ≡ taker_view (end_view t.name false t.list n (t.loads + 1))) × (m'.1 ≡ m.1))
      × (n ≢ length t.list → (x : X) × stands t.name (length t.list) x × (m'.0 ≡ taker_view (end_view t.name true (t.list ++ x ∷ []) n (t.loads + 1)))
      × (m'.1 ≡ (length t.list % st.slots, Some x) ∷ m.1))

  -- the taker gives the slot back
  abbrev pub took : Step (Option X) → SeatState X → ℕ → SeatState X → Type 0
  took st m n m' = let t = m.0.taker in (m'.0 ≡ taker_view (end_view t.name false t.list t.known t.loads)) × (m'.1 ≡ [])

  -- the taker loads the count given, and takes nothing
  abbrev pub looked : Step (Option X) → SeatState X → ℕ → SeatState X → Type 0
  looked st m n m' = let t = m.0.taker in (m'.0 ≡ taker_view (end_view t.name t.holds t.list n (t.loads + 1))) × (m'.1 ≡ m.1) × (t.known ≤ n)

  -- a seat that knows both ends loads the count given: what was taken is a prefix of what was given
  abbrev pub loaded_given_beside : Step (Option X) → SeatState X → ℕ → SeatState X → Type 0
  loaded_given_beside st m n m' = let t = m.0.taker in (m'.0 ≡ view m.0.giver (end_view t.name t.holds t.list n t.loads)) × (m'.1 ≡ m.1)
      × (n ≡ length m.0.giver.list) × IsPrefix t.list m.0.giver.list

  -- the same for the count taken
  abbrev pub loaded_taken_beside : Step (Option X) → SeatState X → ℕ → SeatState X → Type 0
  loaded_taken_beside st m n m' = let g = m.0.giver in (m'.0 ≡ view (end_view g.name g.holds g.list n g.loads) m.0.taker) × (m'.1 ≡ m.1)
      × (g.known ≤ n) × (n + one_if m.0.taker.holds ≡ length m.0.taker.list)
