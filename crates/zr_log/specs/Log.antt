-- The change log of a router: what its clients declare, change by change.
use Rattle.std.specs.Prelude.{ℕ, Bool, if◌then◌else◌, List, [], take}
use Rattle.std.specs.List.{fold}
use Rattle.zr_msg.specs.declared.decl.Decl.{Decl}
use Rattle.zr_log_set.specs.Decls.{with_decl, without_decl, decl_weight, weight}

-- one change: a declaration is added or removed
pub record Change : Type 0 where
  pub added : Bool
  pub decl : Decl

-- a set once it changed
abbrev pub changed : List Decl → Change → List Decl
changed set c = if c.added then with_decl set c.decl else without_decl set c.decl

-- what a router's clients declare after the first n changes of its log
abbrev pub known : List Change → ℕ → List Decl
known log n = fold changed [] (take n log)

-- what a change leaves of the set weighs this much without the declaration that it adds, and what it adds weighs that much
abbrev pub change_held : List Decl → Change → ℕ
change_held set c = weight (without_decl set c.decl)

abbrev pub change_more : Change → ℕ
change_more c = if c.added then decl_weight c.decl else 0
