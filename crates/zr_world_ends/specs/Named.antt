-- What stands at ends in order, by router and then by neighbour: what a look-up finds, and changes of one end.
use Rattle.std.specs.Prelude.{Bool, if◌then◌else◌, List, map, filter, Option, Some, None, is_some}
use Rattle.std.specs.List.{reduce}
use Rattle.std.specs.Map.{lookup, set_value}
use Rattle.std.specs.BTreeMap.{insert_entry}
use Rattle.zr_world_spec.specs.World.{End, end_cmp, is_end}
use Rattle.zr_world_spec.specs.Next.{lesser}

abbrev pub at_end : {S : Type 0} → List (End × S) → End → Option S
at_end xs e = lookup (is_end e) xs

-- another one takes the place of what is there
abbrev pub set_at : {S : Type 0} → List (End × S) → End → S → List (End × S)
set_at xs e s = set_value (is_end e) xs s

-- one of which one knows, or a new one
abbrev pub put_at : {S : Type 0} → List (End × S) → End → S → List (End × S)
put_at xs e s = if is_some (at_end xs e) then set_at xs e s else insert_entry end_cmp xs e s

-- a change of what is there
abbrev pub change_at : {S : Type 0} → List (End × S) → End → (S → S) → List (End × S)
change_at xs e change = map (λ x. if is_end e x.0 then (x.0, change x.1) else x) xs

-- the same, by the look-up
abbrev pub change_found : {S : Type 0} → List (End × S) → End → (S → S) → Option S → List (End × S)
change_found xs e change None = xs
change_found xs e change (Some s) = set_at xs e (change s)

-- the first that passes a test
abbrev pub first_at : {S : Type 0} → (S → Bool) → List (End × S) → Option End
first_at test xs = reduce lesser (map (λ x. x.0) (filter (λ x. test x.1) xs))
