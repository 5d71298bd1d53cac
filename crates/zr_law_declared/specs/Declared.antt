-- What a client has declared, of each kind: what its lines declared less what its lines undeclared; and where it is attached. The lines alone say
-- it: no table and no message is known here.
use Rattle.std.specs.Prelude.{◌≡◌, ℕ, ◌==◌, ◌&&◌, Bool, true, if◌then◌else◌, List, Option, Some, None}
use Rattle.std.specs.List.{fold}
use Rattle.std.specs.Option.{option_map_or}
use Rattle.zr_id.specs.Zid.{is_named}
use Rattle.zr_msg.specs.declared.decl.Decl.{Decl}
use Rattle.zr_msg.specs.declared.decl.Kind.{Kind}
use Rattle.zr_script_spec.specs.declared.command.Act.{Act}
use Rattle.zr_told_spec.specs.Place.{class_rank, class_of}
use Rattle.zr_told_spec.specs.declared.place.Class.{Class}
use Rattle.zr_world_spec.specs.Moments.{Numbered}
use Rattle.zr_guarantee.specs.Meaning.{meaning}
use Rattle.zr_guarantee.specs.Broker.{is_attached}

-- whether two ids are one: subscribers have ids of their own, and so have queryables, complete or not
abbrev pub is_same_id : Kind → ℕ → Class → ℕ → Bool
is_same_id kind id class i = class_rank class == class_rank (class_of kind) && i == id

-- what stands under an id of a client, if anything does, once one more act was done
abbrev pub stands_by : List ℕ → Kind → ℕ → Option Decl → Act → Option Decl
stands_by name kind id so_far act = option_map_or (λ d. if is_named name d.client && is_same_id kind id d.class d.id then d.decl else so_far) (meaning act).declares so_far

-- what a client has declared under an id, if it has not taken it back
abbrev pub stands : List Numbered → List ℕ → Kind → ℕ → Option Decl
stands acts name kind id = fold (λ so_far x. stands_by name kind id so_far x.1) None acts

-- ---- where a client is attached

-- the router that a client is attached to, once one more act was done: that of its line
abbrev pub home_by : List ℕ → Option (List ℕ) → Act → Option (List ℕ)
home_by name so_far act = option_map_or (λ x. if is_named name x.0 then Some x.1 else so_far) (meaning act).client so_far

-- the router that a client is attached to, as long as it is
abbrev pub home : List Numbered → List ℕ → Option (List ℕ)
home acts name = fold (λ so_far x. home_by name so_far x.1) None acts

-- a client that is attached to router x
pub record IsClientOf (acts : List Numbered) (x name : List ℕ) : Type 0 where
  pub attached : is_attached acts name ≡ true
  pub home_is : home acts name ≡ Some x
