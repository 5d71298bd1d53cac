-- Which names of a script are routers', and which are clients'. What is sent to a router goes on from there: only what a client is sent counts
-- as sent.
use Rattle.std.specs.Prelude.{ℕ, Bool, false, List, Option}
use Rattle.std.specs.List.{list_any, filter_map}
use Rattle.std.specs.Option.{option_map, option_map_or}
use Rattle.zr_id.specs.Zid.{is_named}
use Rattle.zr_script_spec.specs.declared.command.Act.{Act}
use Rattle.zr_world_spec.specs.Moments.{Numbered}
use Rattle.zr_guarantee.specs.Meaning.{meaning}

-- whether an act brings a router of this name
abbrev pub brings_router : List ℕ → Act → Bool
brings_router name act = option_map_or (λ id. is_named name id) (meaning act).router false

-- whether a router has this name
abbrev pub is_router : List Numbered → List ℕ → Bool
is_router acts name = list_any (λ x. brings_router name x.1) acts

-- the name of the client that an act brings, if it brings one
abbrev pub client_in : Act → Option (List ℕ)
client_in act = option_map (λ x. x.0) (meaning act).client

-- the names of all clients
abbrev pub clients : List Numbered → List (List ℕ)
clients acts = filter_map (λ x. client_in x.1) acts
