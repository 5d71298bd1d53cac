-- What the clients of one router have declared, row by row, and what their changes do to the set of their declarations.
use Rattle.std.specs.Prelude.{ℕ, ◌+◌, ◌==◌, not, nat_lt, is_some, if◌then◌else◌, List, map, filter, Option, Some, None, Result, Ok, Err}
use Rattle.std.specs.declared.cmp.Ordering.{Ordering}
use Rattle.std.specs.Ordering.{nat_cmp, on, then_cmp}
use Rattle.zr_msg.specs.declared.decl.Decl.{Decl}
use Rattle.zr_msg.specs.declared.decl.Kind.{Kind}
use Rattle.zr_msg.specs.declared.decl.Kind.TheVariants.{Sub, Able, Full, Token}
use Rattle.zr_lists.specs.Ascending.{IsAscending, at_key, put, without}
use Rattle.zr_log_set.specs.Decls.{has, set_of, weight, most_weight}
use Rattle.zr_local.specs.declared.error.LocalError.{LocalError}
use Rattle.zr_local.specs.declared.error.LocalError.TheVariants.{UnknownId, TextLimit, NoMemory}
use Rattle.zr_local.specs.declared.row.Row.{Row}

-- a subscriber has an id of its own kind, and so has a queryable, complete or not, and a token: in this order
abbrev pub id_kind : Kind → ℕ
id_kind Sub = 0
id_kind Able = 1
id_kind Full = 1
id_kind Token = 2

-- under what a client has declared: its link, the kind of the id, and the id
pub record Key : Type 0 where
  pub link : ℕ
  pub kind : ℕ
  pub id : ℕ

abbrev pub row_key : Row → Key
row_key r = record { link = r.link.0; kind = id_kind r.decl.kind; id = r.id }

-- by link, then by kind of id, then by id
abbrev pub key_cmp : Key → Key → Ordering
key_cmp = then_cmp (on (λ k. k.link) nat_cmp) (then_cmp (on (λ k. k.kind) nat_cmp) (on (λ k. k.id) nat_cmp))

-- the rows ascend, each key once
abbrev pub AreInOrder : List Row → Type 0
AreInOrder rows = IsAscending key_cmp row_key rows

-- what is declared under a key, if anything is
abbrev pub row_at : List Row → Key → Option Row
row_at rows k = at_key key_cmp row_key rows k

-- a declaration takes the place of that of its key
abbrev pub declared : List Row → Row → List Row
declared rows r = put key_cmp row_key rows r

-- without what is declared under a key
abbrev pub undeclared : List Row → Key → List Row
undeclared rows k = without key_cmp row_key rows k

-- without what the client of a link has declared
abbrev pub left : List Row → ℕ → List Row
left rows link = filter (λ r. not (r.link.0 == link)) rows

-- ---- the set of all declarations

abbrev pub decls_of : List Row → List Decl
decls_of rows = map (λ r. r.decl) rows

-- what a router's clients declare, each declaration once, however many of them have it
abbrev pub declared_set : List Row → List Decl
declared_set rows = set_of (decls_of rows)

-- what is no longer declared by any client, and what none had declared before, each in ascending order
abbrev pub gone : List Row → List Row → List Decl
gone before after = filter (λ d. not (has (decls_of after) d)) (declared_set before)

abbrev pub came : List Row → List Row → List Decl
came before after = filter (λ d. not (has (decls_of before) d)) (declared_set after)

-- ---- refusals

-- what all declarations weigh, each as often as a client has it
abbrev pub weight_of : List Row → ℕ
weight_of rows = weight (decls_of rows)

-- so much is held and so much comes, and that is more than all may weigh
abbrev pub over_limit : ℕ → ℕ → Option LocalError
over_limit held more = if nat_lt most_weight (held + more) then Some (TextLimit held more) else None

-- what isn't there is not taken back
abbrev pub refuses_undeclare : List Row → Key → Option LocalError
refuses_undeclare rows k = if is_some (row_at rows k) then None else Some UnknownId

-- the refusal that was answered: out of memory is none
abbrev pub refusal : {X : Type 0} → Result X LocalError → Option LocalError
refusal (Ok x) = None
refusal (Err UnknownId) = Some UnknownId
refusal (Err (TextLimit held more)) = Some (TextLimit held more)
refusal (Err NoMemory) = None
