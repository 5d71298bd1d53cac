-- The rule of a history's word, what each seat knows under it, and what each step tells.
-- The word counts a list of entries, which exists in this rule alone and takes no memory.
use Rattle.std.specs.Prelude.{◌≡◌, ℕ, ◌+◌, true, false, List, [], ◌∷◌, ◌++◌, ◌⊎◌, ◌==◌, ◌≤◌, length, map, if◌then◌else◌, nat_le}
use mathlib.Core.Option.{Option, none, some}
use mathlib.Core.List.{IsPrefix}
use lib.ListN.{get_elem?}
use Rattle.atomic_table.specs.Table.{State, Me, Step}
use Rattle.zr_hist.specs.declared.rule.View.{View}

module _ {E : Type 0} where
  -- The list of entries, of those that have with them the number of the seat that appended them
  abbrev pub entries : List (ℕ × E) → List E
  entries log = map (λ e. e.1) log

  -- the entries that the seat id appended, in order
  abbrev pub made_by : ℕ → List (ℕ × E) → List E
  made_by id [] = []
  made_by id (e ∷ log) = if e.0 == id then e.1 ∷ made_by id log else made_by id log

  -- xs are some of ys, each once, in their order
  abbrev pub IsSublist : List E → List E → Type 0
  IsSublist xs [] = xs ≡ []
  IsSublist [] (y ∷ ys) = Unit {0}
  IsSublist (x ∷ xs) (y ∷ ys) = ((x ≡ y) × IsSublist xs ys) ⊎ IsSublist (x ∷ xs) ys

  -- the view of a seat that was given away
  abbrev pub no_view : View E
  no_view = record { seen = []; mine = []; list = []; looks = 0; is_kept = false; is_pass = false }

  -- the view that stands for the whole list: who has it may append
  abbrev pub kept_view : List E → View E
  kept_view list = record { seen = list; mine = []; list = list; looks = 0; is_kept = true; is_pass = false }

  -- the view of a pass: a prefix of the list, its own entries, and how often it looked
  abbrev pub pass_view : List E → List E → ℕ → View E
  pass_view seen mine looks = record { seen = seen; mine = mine; list = []; looks = looks; is_kept = false; is_pass = true }

  -- the view of a pass that may append, and so knows the whole list
  abbrev pub appending_view : List E → List E → ℕ → List E → View E
  appending_view seen mine looks list = record { seen = seen; mine = mine; list = list; looks = looks; is_kept = true; is_pass = true }

  -- the view of a pass that knows what another had seen
  abbrev pub joining_view : List E → List E → ℕ → List E → View E
  joining_view seen mine looks other = record { seen = seen; mine = mine; list = other; looks = looks; is_kept = false; is_pass = true }

  -- the view that lies in a badge
  abbrev pub first_view : List (View E) → View E
  first_view [] = no_view
  first_view (v ∷ vs) = v

  abbrev pub longer : List E → List E → List E
  longer a b = if nat_le (length a) (length b) then b else a

  -- what the seat id knows fits the list, where `holder` is the seat that may append
  pub record Fits (log : List (ℕ × E)) (holder id : ℕ) (v : View E) : Type 0 where
    pub seen : IsPrefix v.seen (entries log)
    pub list : IsPrefix v.list (entries log)
    pub mine : v.is_pass ≡ true → v.mine ≡ made_by id log
    pub kept : v.is_kept ≡ true → (id ≡ holder) × (v.list ≡ entries log)

  -- There is one list. The word is its length, what each seat has seen is a prefix of it, each pass has its own entries, and one seat may
  -- append. No entry has the number of a seat that is yet to come
  pub record IsOneList (s : State E (View E)) : Type 0 where
    pub log : List (ℕ × E)
    pub holder : ℕ
    pub counted : s.words ≡ length log ∷ []
    pub each_seat : (id : ℕ) (v : View E) → get_elem? s.views id ≡ some v → Fits log holder id v
    pub no_later : (id : ℕ) → length s.views ≤ id → made_by id log ≡ []

  -- What the step that appends tells: the entry stands last in the list and in the pass's own, and the pass has seen the list
  abbrev pub Appends : Option E → List E → List E → ℕ → List E → View E → Type 0
  Appends none seen mine looks list w = Unit {0}
  Appends (some e) seen mine looks list w = (w ≡ appending_view (list ++ e ∷ []) (mine ++ e ∷ []) (looks + 1) (list ++ e ∷ []))
      × IsPrefix seen list × IsSublist (mine ++ e ∷ []) (list ++ e ∷ [])

  abbrev pub appended : Step E → Me E (View E) → ℕ → Me E (View E) → Type 0
  appended st m n m' = Appends st.said m.0.seen m.0.mine m.0.looks m.0.list m'.0 × (m'.1 ≡ m.1)

  -- what a look tells: the count is the length of a list of which the former one is a prefix, and the pass's own entries stand in it
  abbrev pub looked : Step E → Me E (View E) → ℕ → Me E (View E) → Type 0
  looked st m n m' = (m'.0 ≡ pass_view m'.0.seen m.0.mine (m.0.looks + 1)) × IsPrefix m.0.seen m'.0.seen
      × (length m'.0.seen ≡ n) × (m'.1 ≡ m.1) × IsSublist m.0.mine m'.0.seen

  -- the same of a pass that may append: it has seen the whole list
  abbrev pub looked_beside : Step E → Me E (View E) → ℕ → Me E (View E) → Type 0
  looked_beside st m n m' = (m'.0 ≡ appending_view m.0.list m.0.mine (m.0.looks + 1) m.0.list) × IsPrefix m.0.seen m.0.list
      × (length m.0.list ≡ n) × (m'.1 ≡ m.1) × IsSublist m.0.mine m.0.list

  -- what a look tells of two prefixes of one list: the shorter is a prefix of the longer
  abbrev pub compared : Step E → Me E (View E) → ℕ → Me E (View E) → Type 0
  compared st m n m' = (m'.0 ≡ pass_view (longer m.0.seen m.0.list) m.0.mine m.0.looks) × IsPrefix m.0.seen m'.0.seen
      × IsPrefix m.0.list m'.0.seen × (m'.1 ≡ m.1)
