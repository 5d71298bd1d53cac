-- What others declare, each token once: tokens are tallied by their owners (Zenoh protocol 1.0, "DECLARE").
use Rattle.std.specs.Prelude.{◌≡◌, ℕ, ◌||◌, ◌++◌, not, Bool, List, map, filter}
use Rattle.std.specs.List.{flat_map, list_any}
use Rattle.zr_id.specs.Zid.{is_named}
use Rattle.zr_token.specs.declared.owner.Owner.{Owner}
use Rattle.zr_token.specs.declared.owner.Owner.TheVariants.{Client, Source}
use Rattle.zr_token.specs.declared.pair.Pair.{Pair}
use Rattle.zr_token.specs.Tally.{TallyState, reaches}
use Rattle.zr_msg.specs.declared.decl.Decl.{Decl}
use Rattle.zr_log.specs.declared.log.Log.{Log}
use Rattle.zr_local.specs.declared.row.Row.{Row}
use Rattle.zr_node_spec.specs.Tables.{TableState}
use Rattle.zr_told_spec.specs.Place.{is_token}
use Rattle.zr_told_spec.specs.Rows.{is_source}

-- two lists declare the same, however often: a test that one of the first passes is passed by one of the second
abbrev pub AreAlike : List Decl → List Decl → Type 0
AreAlike xs ys = (test : Decl → Bool) → list_any test xs ≡ list_any test ys

-- what is kept of declarations: tokens or not, and all others
abbrev pub is_kept : Bool → Decl → Bool
is_kept tokens d = tokens || not (is_token d.kind)

-- the tokens among declarations of one owner
abbrev pub pairs_of : Owner → List Decl → List Pair
pairs_of owner ds = map (λ d. record { owner = owner; key = d.key }) (filter (λ d. is_token d.kind) ds)

-- the tokens of a router's clients, and those that a log tells
abbrev pub row_pairs : List Row → List Pair
row_pairs rows = map (λ r. record { owner = Client r.link; key = r.decl.key }) (filter (λ r. is_token r.decl.kind) rows)

abbrev pub log_pairs : Log → List Pair
log_pairs log = pairs_of (Source log.source) log.decls

-- the logs of the other routers that are reached
abbrev pub sources : TableState → List Log → List Log
sources t logs = filter (λ log. is_source t log) logs

-- one of some logs is of a router
abbrev pub has_source : List Log → List ℕ → Bool
has_source logs source = list_any (λ log. is_named source log.source) logs

-- the tally has the tokens of a router's clients and of all that it reaches, and that these are reached
pub record IsTallied (t : TableState) (n : TallyState) : Type 0 where
  pub pairs : n.pairs ≡ row_pairs t.rows ++ flat_map log_pairs (sources t t.known.logs)
  pub reached : (source : List ℕ) → reaches n source ≡ has_source (sources t t.known.logs) source
