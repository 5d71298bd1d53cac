-- What a router knows of the clients of another one is what they have declared.
use Rattle.std.specs.Prelude.{◌≡◌, ◌↔◌, ℕ, true, List, Some}
use Rattle.zr_msg.specs.declared.decl.Decl.{Decl}
use Rattle.zr_msg.specs.declared.decl.Kind.{Kind}
use Rattle.zr_log_set.specs.Decls.{has}
use Rattle.zr_tree.specs.Walk.{IsWalk}
use Rattle.zr_log.specs.Known.{decls}
use Rattle.zr_world_spec.specs.World.{RouterState, router_of, is_settled}
use Rattle.zr_world_spec.specs.Joined.{graph}
use Rattle.zr_world_spec.specs.Moments.{Numbered, Moment, reached}
use Rattle.zr_law_declared.specs.Declared.{stands, IsClientOf}

-- some client that is attached to router x has declared this, and has not taken it back
pub record IsDeclaredAt (acts : List Numbered) (x : List ℕ) (d : Decl) : Type 0 where
  pub name : List ℕ
  pub client : IsClientOf acts x name
  pub kind : Kind
  pub id : ℕ
  pub standing : stands acts name kind id ≡ Some d

-- at each moment to which acts lead: where it is settled, each router y knows of each router x that it reaches just the declarations that some
-- client attached to x has declared
abbrev pub SettledSetsAreDeclared : Type 0
SettledSetsAreDeclared = (acts : List Numbered) (m : Moment) (x y : List ℕ) (path : List (List ℕ)) (rx ry : RouterState) (d : Decl) →
    reached acts ≡ Some m → is_settled m.world ≡ true → router_of m.world.routers x ≡ Some rx → router_of m.world.routers y ≡ Some ry →
    IsWalk (graph m.world) y path x → (has (decls ry.node.known x) d ≡ true) ↔ IsDeclaredAt acts x d
