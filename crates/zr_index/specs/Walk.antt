-- A walk of the tree by rows of the table by which expressions are compared.
use Rattle.std.specs.Prelude.{ℕ, ◌+◌, Bool, true, false, not, ◌&&◌, ◌||◌, List, [], ◌∷◌, nat_eq, slice_index_or}
use Rattle.std.specs.List.{list_any}
use Rattle.std.specs.Option.{option_map_or}
use Rattle.std.specs.Map.{lookup}
use Rattle.std.specs.BTreeMap.{is_at}
use Rattle.std.specs.Cmp.Lexicographic.{pointwise, slice_cmp}
use Rattle.std.specs.Ordering.{is_eq, nat_cmp}
use Rattle.std.specs.declared.cmp.Ordering.{Ordering}
use Rattle.zr_key.specs.Expression.{Chunk}
use Rattle.zr_key.specs.Key.{chunks, chunk_of, is_plain_text}
use Rattle.zr_match.specs.Table.{table, chunk_signs, is_any_chunks}
use Rattle.zr_index.specs.declared.node.Node.{Node}
use Rattle.zr_index.specs.declared.node.Node.TheViews.{out-Node}
use Rattle.zr_index.specs.Pairs.{Pairs, pairs, is_of}

-- the chunks of a path behind others, the last one first
abbrev pub onto : List Chunk → List (List ℕ) → List Chunk
onto above [] = above
onto above (chunk ∷ path) = onto (chunk_of chunk ∷ above) path

-- whether one of some values is equal to a value
abbrev pub is_among : {V : Type 0} → (V → V → Ordering) → List V → V → Bool
is_among cmp vs v = list_any (λ w. is_eq (cmp w v)) vs

-- whether a path behind some chunks meets a key: their place in the table
abbrev pub is_met : List Chunk → List ℕ → List (List ℕ) → Bool
is_met above key path = table (chunk_signs true) (onto above path) (onto [] (chunks key))

-- whether a pair behind some chunks meets a key and has a value
abbrev pub finds : {V : Type 0} → (V → V → Ordering) → List Chunk → List ℕ → Pairs V → V → Bool
finds cmp above key ps v = list_any (λ p. is_met above key p.0 && is_eq (cmp p.1 v)) ps

-- the same of the pairs below the chunks of one kind
abbrev pub finds_below : {V K : Type 0} → (K → List ℕ) → Bool → (V → V → Ordering) → List Chunk → List ℕ → List (K × Node V) → V → Bool
finds_below text plain cmp above key es v = list_any (λ e. is_of plain (text e.0) && finds cmp (chunk_of (text e.0) ∷ above) key (pairs e.1) v) es

abbrev pub finds_plain : {V : Type 0} → (V → V → Ordering) → List Chunk → List ℕ → Node V → V → Bool
finds_plain {V = V} cmp above key n v = finds_below (λ k. k.items) true cmp above key (out-Node V n).plain.entries v

abbrev pub finds_wild : {V : Type 0} → (V → V → Ordering) → List Chunk → List ℕ → Node V → V → Bool
finds_wild {V = V} cmp above key n v = finds_below (λ k. k.items) false cmp above key (out-Node V n).wild.entries v

-- whether each chunk of a key from a place on is plain, or no `**` and without a mark in front of it
abbrev pub seeks_plain : List Bool → ℕ → List (List ℕ) → Bool
seeks_plain marks k [] = true
seeks_plain marks k (y ∷ ys) = (is_plain_text y || not (slice_index_or marks k false) && not (is_any_chunks (chunk_of y))) && seeks_plain marks (k + 1) ys

-- whether a chunk is one of a key from a place on with a mark in front of it
abbrev pub seeks_chunk : List Bool → ℕ → List (List ℕ) → List ℕ → Bool
seeks_chunk marks k [] c = false
seeks_chunk marks k (y ∷ ys) c = slice_index_or marks k false && pointwise nat_eq c y || seeks_chunk marks (k + 1) ys c

-- what is found below the child of a chunk, and below those of the chunks of a key from a place on that have a mark in front of them
abbrev pub finds_in : {V K : Type 0} → (K → List ℕ) → (V → V → Ordering) → List Chunk → List ℕ → List (K × Node V) → List ℕ → V → Bool
finds_in text cmp above key es chunk v = option_map_or (λ child. finds cmp (chunk_of chunk ∷ above) key (pairs child) v) (lookup (is_at (λ k. slice_cmp nat_cmp chunk (text k))) es) false

abbrev pub finds_sought : {V K : Type 0} → (K → List ℕ) → (V → V → Ordering) → List Chunk → List ℕ → List (K × Node V) → List Bool → ℕ → List (List ℕ) → V → Bool
finds_sought text cmp above key es marks k [] v = false
finds_sought text cmp above key es marks k (y ∷ ys) v =
    slice_index_or marks k false && finds_in text cmp above key es y v || finds_sought text cmp above key es marks (k + 1) ys v

abbrev pub finds_at : {V : Type 0} → (V → V → Ordering) → List Chunk → List ℕ → Node V → List ℕ → V → Bool
finds_at {V = V} cmp above key n chunk v = finds_in (λ k. k.items) cmp above key (out-Node V n).plain.entries chunk v
