-- What a list of numbers queues for a link of the tests.
use Rattle.std.specs.Prelude.{◌≡◌, ℕ, ◌%◌, ◌==◌, Bool, true, false, List, [], ◌∷◌, ◌++◌, if◌then◌else◌}
use Rattle.std.proofs.Common.{refl, ap, sym}
use mathlib.Core.List.{IsPrefix}
use Rattle.atomic_table.specs.Seated.{TableId}

-- each number of the link's parity, as one byte
abbrev pub queued : ℕ → List ℕ → List (List ℕ)
queued link [] = []
queued link (e ∷ es) = if e % 2 == link then (e % 256 ∷ []) ∷ queued link es else queued link es

behind : (b : Bool) (x : List ℕ) (l m n : List (List ℕ)) → l ≡ m ++ n → (if b then x ∷ l else l) ≡ (if b then x ∷ m else m) ++ n
behind true x l m n h = ap (λ z. x ∷ z) h
behind false x l m n h = h

-- what two lists in a row queue
pub queued-append : (link : ℕ) (xs ys : List ℕ) → queued link (xs ++ ys) ≡ queued link xs ++ queued link ys
queued-append link [] ys = refl
queued-append link (x ∷ xs) ys = behind (x % 2 == link) (x % 256 ∷ []) _ _ _ (queued-append link xs ys)

pub queued-grows : (link : ℕ) (list more : List ℕ) → IsPrefix (queued link list) (queued link (list ++ more))
queued-grows link list more = (queued link more, sym (queued-append link list more))

-- the name of no history
abbrev pub no_table : TableId
no_table = record { words = 0; slots = 0; views_name = 0; atom = 0; block = 0; offset = 0; slot_names = [] }
