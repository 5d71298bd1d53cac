-- What was declared and by whom; and what of it is of a kind that is sought, as pairs of the chunks of its key and who has declared it.
use Rattle.std.specs.Prelude.{ℕ, Bool, List, [], ◌∷◌, ◌++◌, if◌then◌else◌, map}
use Rattle.std.specs.List.{flat_map}
use Rattle.zr_id.specs.Zid.{is_named}
use Rattle.zr_index.specs.Pairs.{Pairs}
use Rattle.zr_key.specs.Key.{chunks}
use Rattle.zr_local.specs.declared.holder.Holder.{Holder}
use Rattle.zr_local.specs.declared.holder.Holder.TheVariants.{Client, Source}
use Rattle.zr_local.specs.declared.row.Row.{Row}
use Rattle.zr_log.specs.declared.log.Log.{Log}
use Rattle.zr_msg.specs.declared.decl.Decl.{Decl}
use Rattle.zr_msg.specs.declared.decl.Kind.{Kind}
use Rattle.zr_node_spec.specs.Queries.{is_queryable, is_complete}
use Rattle.zr_node_spec.specs.Samples.{is_subscriber}
use Rattle.zr_node_spec.specs.Tables.{TableState}
use Rattle.zr_push_sought.specs.declared.sought.Sought.{Sought}
use Rattle.zr_push_sought.specs.declared.sought.Sought.TheVariants.{Subscribers, Queryables, Complete}

-- ---- what was declared

-- who has declared something, and what
abbrev pub Declared : Type 0
Declared = Holder × Decl

-- what the clients of this router have declared, row by row
abbrev pub of_row : Row → Declared
of_row r = (Client r.link, r.decl)

abbrev pub of_clients : List Row → List Declared
of_clients rows = map of_row rows

-- what a set tells of the clients of another router
abbrev pub of_set : List ℕ → List Decl → List Declared
of_set name ds = map (λ d. (Source name, d)) ds

-- what a log tells, if it is another router's; this router's own clients have links, by which they are found
abbrev pub of_log : List ℕ → Log → List Declared
of_log me log = if is_named log.source me then [] else of_set log.source log.decls

abbrev pub of_sources : List ℕ → List Log → List Declared
of_sources me logs = flat_map (λ l. of_log me l) logs

-- all that was declared: by the clients of this router, and by those of all others
abbrev pub all_declared : List Row → List ℕ → List Log → List Declared
all_declared rows me logs = of_clients rows ++ of_sources me logs

abbrev pub declared_by : TableState → List Declared
declared_by t = all_declared t.rows t.base.me t.known.logs

-- ---- what of it is sought

-- declarations of this kind are sought
abbrev pub is_kind : Sought → Kind → Bool
is_kind Subscribers kind = is_subscriber kind
is_kind Queryables kind = is_queryable kind
is_kind Complete kind = is_complete kind

-- the pair of a declaration, if it is of a kind that is sought, and those of several
abbrev pub pair_of : Sought → Declared → Pairs Holder
pair_of sought x = if is_kind sought x.1.kind then (chunks x.1.key, x.0) ∷ [] else []

abbrev pub pairs_of : Sought → List Declared → Pairs Holder
pairs_of sought xs = flat_map (λ x. pair_of sought x) xs
