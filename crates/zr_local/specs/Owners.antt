-- How many rows have each declaration.
use Rattle.std.specs.Prelude.{◌≡◌, ℕ, ◌+◌, ◌-◌, ◌==◌, ◌&&◌, not, nat_lt, Bool, true, if◌then◌else◌, List, [], ◌∷◌, Option, Some, None, filter}
use Rattle.std.specs.List.{count_by}
use Rattle.std.specs.Option.{option_map_or}
use Rattle.zr_msg.specs.Decl.{decl_cmp}
use Rattle.zr_msg.specs.declared.decl.Decl.{Decl}
use Rattle.zr_lists.specs.Ascending.{at_key, put, without}
use Rattle.zr_log_set.specs.Decls.{is_decl}
use Rattle.zr_local.specs.Rows.{AreInOrder}
use Rattle.zr_local.specs.declared.owners.Owned.{Owned}
use Rattle.zr_local.specs.declared.row.Row.{Row}

abbrev pub owned_decl : Owned → Decl
owned_decl o = o.decl

-- how often a declaration is noted
abbrev pub count_of : List Owned → Decl → ℕ
count_of os d = option_map_or (λ o. o.count) (at_key decl_cmp owned_decl os d) 0

-- it is noted once more, or once less
abbrev pub once_more : List Owned → Decl → List Owned
once_more os d = put decl_cmp owned_decl os (record { decl = d; count = count_of os d + 1 })

abbrev pub once_less : List Owned → Decl → List Owned
once_less os d =
    if nat_lt 1 (count_of os d) then put decl_cmp owned_decl os (record { decl = d; count = count_of os d - 1 })
    else without decl_cmp owned_decl os d

-- one for the declaration itself, nothing for another
abbrev pub one : Decl → Decl → ℕ
one d e = if is_decl d e then 1 else 0

-- how many rows have a declaration
abbrev pub rows_with : List Row → Decl → ℕ
rows_with rows d = count_by (λ r. is_decl r.decl d) rows

-- the rows of a link
abbrev pub on_link : List Row → ℕ → List Row
on_link rows link = filter (λ r. r.link.0 == link) rows

-- the rows and what is noted of them belong together
pub record IsSound (rows : List Row) (os : List Owned) : Type 0 where
  pub ascending : AreInOrder rows
  pub counted : (d : Decl) → count_of os d ≡ rows_with rows d

-- whether a declaration isn't the other one
abbrev pub is_other : Option Decl → Decl → Bool
is_other None d = true
is_other (Some e) d = not (is_decl e d)

-- this declaration, where it is noted so often and isn't the other one
abbrev pub where_counted : List Owned → ℕ → Option Decl → Option Decl → List Decl
where_counted os n None other = []
where_counted os n (Some d) other = if is_other other d && count_of os d == n then d ∷ [] else []
