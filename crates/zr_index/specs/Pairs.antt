-- The pairs that a tree of chunks holds: the chunks of a key's text, and a value.
use Rattle.std.specs.Prelude.{◌≡◌, ℕ, ◌+◌, ◌&&◌, Bool, true, false, not, if◌then◌else◌, List, [], ◌∷◌, ◌++◌, map}
use Rattle.std.specs.List.{flat_map, sum_by, list_any}
use Rattle.std.specs.Cmp.Lexicographic.{pointwise}
use Rattle.std.specs.Str.{bytes_eq}
use Rattle.zr_key.specs.Key.{is_plain_text}
use Rattle.zr_index.specs.declared.node.Node.{Node}
use Rattle.zr_index.specs.declared.node.Node.TheOpen.{Node-F}
use Rattle.zr_index.specs.declared.node.Node.TheFolds.{fold-Node}

abbrev pub Pairs : Type 0 → Type 0
Pairs V = List (List (List ℕ) × V)

-- the pairs below a chunk, with that chunk in front
abbrev pub behind : {V : Type 0} → List ℕ → Pairs V → Pairs V
behind chunk ps = map (λ p. (chunk ∷ p.0, p.1)) ps

-- whether a chunk stands among those without a wildcard, or among the others
abbrev pub is_of : Bool → List ℕ → Bool
is_of true chunk = is_plain_text chunk
is_of false chunk = not (is_plain_text chunk)

-- the pairs below the chunks of one kind
abbrev pub below : {V K : Type 0} → (K → List ℕ) → Bool → List (K × Pairs V) → Pairs V
below text plain es = flat_map (λ e. if is_of plain (text e.0) then behind (text e.0) e.1 else []) es

-- one level: the values of the keys that end here, and the pairs below each chunk
abbrev pub pairs_step : {V : Type 0} → Node-F V (Pairs V) → Pairs V
pairs_step {V = V} f =
    map (λ (v : V). ([], v)) f.values.items ++ (below (λ k. k.items) true f.plain.entries ++ below (λ k. k.items) false f.wild.entries)

abbrev pub pairs : {V : Type 0} → Node V → Pairs V
pairs {V = V} = fold-Node V (Pairs V) pairs_step

-- two lists have the same pairs, each as often
abbrev pub AreSame : {V : Type 0} → Pairs V → Pairs V → Type 0
AreSame {V = V} ps qs = (f : List (List ℕ) × V → ℕ) → sum_by f ps ≡ sum_by f qs

-- the weight of all pairs below chunks, each by its chunk and what stands below it
abbrev pub weigh_below : {V K : Type 0} → (K → List (List ℕ) × V → ℕ) → List (K × Node V) → ℕ
weigh_below f es = sum_by (λ e. sum_by (f e.0) (pairs e.1)) es

-- whether a pair is that of a path and a value
abbrev pub is_pair : {V : Type 0} → (V → V → Bool) → List (List ℕ) → V → List (List ℕ) × V → Bool
is_pair eq path v p = pointwise bytes_eq path p.0 && eq p.1 v

-- the pairs that are that of a path and a value weigh 1
abbrev pub one : {V : Type 0} → (V → V → Bool) → List (List ℕ) → V → List (List ℕ) × V → ℕ
one eq path v p = if is_pair eq path v p then 1 else 0

-- One pair of a path and a value is gone, where there was one; else nothing is.
abbrev pub TakesOne : {V : Type 0} → (V → V → Bool) → List (List ℕ) → V → Pairs V → Pairs V → Bool → Type 0
TakesOne {V = V} eq path v old new true = (w : V) × (eq w v ≡ true) × AreSame old ((path, w) ∷ new)
TakesOne eq path v old new false = AreSame new old × (sum_by (one eq path v) old ≡ 0)

-- the same of the values that stand at one place
abbrev pub TakesValue : {V : Type 0} → (V → V → Bool) → V → List V → List V → Bool → Type 0
TakesValue {V = V} eq v old new true = (w : V) × (eq w v ≡ true) × ((f : V → ℕ) → sum_by f old ≡ f w + sum_by f new)
TakesValue eq v old new false = (new ≡ old) × (list_any (λ w. eq w v) old ≡ false)

-- and of all pairs below chunks
abbrev pub TakesBelow : {V K : Type 0} → (K → List ℕ) → (V → V → Bool) → List ℕ → List (List ℕ) → V → List (K × Node V) → List (K × Node V) → Bool → Type 0
TakesBelow {V = V} text eq chunk path v old new true =
    (w : V) × (eq w v ≡ true) × ((f : List ℕ → List (List ℕ) × V → ℕ) → weigh_below (λ k. f (text k)) old ≡ f chunk (path, w) + weigh_below (λ k. f (text k)) new)
TakesBelow {V = V} text eq chunk path v old new false =
    ((f : List ℕ → List (List ℕ) × V → ℕ) → weigh_below (λ k. f (text k)) new ≡ weigh_below (λ k. f (text k)) old)
    × (weigh_below (λ k p. one eq (chunk ∷ path) v (text k ∷ p.0, p.1)) old ≡ 0)
