-- Which values an index gives for a key.
use Rattle.std.specs.Prelude.{◌≡◌, ℕ, Bool, true, ◌&&◌, List, map}
use Rattle.std.specs.List.{list_any}
use Rattle.std.specs.List.Sorted.{IsStrictlySortedBy}
use Rattle.std.specs.Ordering.{is_eq}
use Rattle.std.specs.declared.cmp.Ordering.{Ordering}
use Rattle.zr_key.specs.Key.{chunk_of, expression_of}
use Rattle.zr_match.specs.Table.{compare_chunks}
use Rattle.zr_index.specs.declared.index.Index.{Index}
use Rattle.zr_index.specs.Pairs.{Pairs, pairs}

-- the pairs that an index holds
abbrev pub held : {V : Type 0} → Index V → Pairs V
held i = pairs i.root

-- whether the expression of some chunks meets that of a key
abbrev pub meets_key : List ℕ → List (List ℕ) → Bool
meets_key key path = compare_chunks true (map chunk_of path) (expression_of key)

-- What meets a key: the values of the pairs whose key meets it, ascending, each once.
pub record AreMeeting {V : Type 0} (cmp : V → V → Ordering) (key : List ℕ) (ps : Pairs V) (found : List V) : Type 0 where
  pub ascending : IsStrictlySortedBy cmp found
  pub exactly : (v : V) → list_any (λ w. is_eq (cmp v w)) found ≡ list_any (λ p. meets_key key p.0 && is_eq (cmp p.1 v)) ps
