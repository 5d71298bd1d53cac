-- The limits on the world of a script that an act may meet. The language lists them (`docs/SCRIPTS.md`, Limits).
use Rattle.std.specs.Prelude.{◌≡◌, ℕ, ◌+◌, ◌&&◌, not, nat_le, Bool, true, false, List, [], length, unwrap_or, Err}
use Rattle.std.specs.Option.{option_map_or}
use Rattle.zr_script_spec.specs.declared.error.ScriptError.TheVariants.{Limit}
use Rattle.zr_script_spec.specs.declared.command.Act.{Act}
use Rattle.zr_script_spec.specs.declared.command.Act.TheVariants as a
use Rattle.zr_script_spec.specs.Mode.{is_future}
use Rattle.zr_world_spec.specs.World.{WorldState, router_of, client_of, most_routers, most_clients, most_links, most_weight, most_queries, weight_of, links_in_place}
use Rattle.zr_world_spec.specs.Acts.{outcome}
use Rattle.zr_law_calls.specs.Reached.{IsReached}

-- the client's router has no room for what the declaration of a key weighs
abbrev pub has_no_room : WorldState → List ℕ → List ℕ → Bool
has_no_room w client key = option_map_or (λ s. option_map_or (λ r. not (nat_le (r.weight + weight_of key) most_weight)) (router_of w.routers s.router) false) (client_of w.clients client) false

-- as many queries of the client are open as may be
abbrev pub asks_most : WorldState → List ℕ → Bool
asks_most w client = option_map_or (λ s. nat_le most_queries (length s.queries)) (client_of w.clients client) false

-- whether an act would pass a limit: on routers, on clients, on links between routers, on what a router's clients declare, or on open queries
abbrev pub passes_limit : WorldState → Act → Bool
passes_limit w (a.Router id) = nat_le most_routers (length w.routers)
passes_limit w (a.Client id router) = nat_le most_clients (length w.clients)
passes_limit w (a.Link one other weight) = nat_le most_links (length (links_in_place w))
passes_limit w (a.Up router neighbour) = false
passes_limit w (a.Break router neighbour) = false
passes_limit w (a.Down router neighbour) = false
passes_limit w (a.Sub client id key) = has_no_room w client key
passes_limit w (a.Unsub client id) = false
passes_limit w (a.Able client id key complete) = has_no_room w client key
passes_limit w (a.Unable client id) = false
passes_limit w (a.Token client id key) = has_no_room w client key
passes_limit w (a.Untoken client id) = false
passes_limit w (a.Interest client id mode kinds key aggregate) = is_future mode && has_no_room w client (unwrap_or key [])
passes_limit w (a.Uninterest client id) = false
passes_limit w (a.Publish client content) = false
passes_limit w (a.Get client number target content) = asks_most w client
passes_limit w (a.Reply client number content) = false
passes_limit w (a.End client number) = false
passes_limit w (a.Handle router from) = false
passes_limit w (a.Take router to) = false
passes_limit w a.Mark = false
passes_limit w (a.Show router) = false

-- In a world to which calls lead an act is answered `Limit` only where it would pass one of these.
abbrev pub OnlyLimitsAreMet : Type 0
OnlyLimitsAreMet = (w : WorldState) (applied line : ℕ) (act : Act) → IsReached w applied → outcome w line act ≡ Err Limit → passes_limit w act ≡ true
