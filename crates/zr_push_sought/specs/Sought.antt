-- What a sample or a request seeks of declarations, and where it was declared.
use Rattle.std.specs.Prelude.{ℕ, ◌==◌, ◌&&◌, nat_lt, Bool, List}
use Rattle.std.specs.List.{list_any}
use Rattle.zr_local.specs.declared.row.Row.{Row}
use Rattle.zr_log.specs.declared.log.Log.{Log}
use Rattle.zr_msg.specs.Decl.{kind_rank}
use Rattle.zr_msg.specs.declared.decl.Decl.{Decl}
use Rattle.zr_msg.specs.declared.decl.Kind.{Kind}
use Rattle.zr_msg.specs.declared.msg.Target.{Target}
use Rattle.zr_msg.specs.declared.msg.Target.TheVariants as target
use Rattle.zr_push_sought.specs.declared.sought.Sought.{Sought}
use Rattle.zr_push_sought.specs.declared.sought.Sought.TheVariants.{Subscribers, Queryables, Complete}
use Rattle.zr_node_spec.specs.Queries.{can_answer}
use Rattle.zr_node_spec.specs.Samples.{is_for, leads_to_source}
use Rattle.zr_node_spec.specs.Tables.{TableState}

-- a declaration is one that is sought for a key
abbrev pub is_sought : Sought → List ℕ → Decl → Bool
is_sought Subscribers key d = is_for key d
is_sought Queryables key d = can_answer target.Best key d
is_sought Complete key d = can_answer target.Complete key d

-- what is found by meeting the key alone, and has all that is sought: a complete queryable whose expression covers the key is one whose
-- expression meets it
abbrev pub by_meeting : Sought → Sought
by_meeting Subscribers = Subscribers
by_meeting Queryables = Queryables
by_meeting Complete = Queryables

-- a kind stands before another in the order of kinds
abbrev pub is_lower : Kind → Kind → Bool
is_lower one other = nat_lt (kind_rank one) (kind_rank other)

-- what a request with a target seeks
abbrev pub sought_by : Target → Sought
sought_by target.Best = Queryables
sought_by target.All = Queryables
sought_by target.Complete = Complete

-- the client of a link has declared it
abbrev pub has_declared : List Row → ℕ → Sought → List ℕ → Bool
has_declared rows link sought key = list_any (λ r. r.link.0 == link && is_sought sought key r.decl) rows

-- the clients of a log's router have
abbrev pub is_in_log : Sought → List ℕ → Log → Bool
is_in_log sought key log = list_any (λ d. is_sought sought key d) log.decls

-- the neighbour is on the way in the tree to a router that is reached and whose clients have
abbrev pub leads_to : TableState → List ℕ → Sought → List ℕ → List ℕ → Bool
leads_to t tree sought key name = leads_to_source t tree (λ log. is_in_log sought key log) name

-- what is sought is told apart by numbers
abbrev pub sought_number : Sought → ℕ
sought_number Subscribers = 0
sought_number Queryables = 1
sought_number Complete = 2
