-- The script that is made from a plan: a whole list of lines.
use Rattle.std.specs.Prelude.{ℕ, zero, suc, ◌+◌, ◌*◌, ◌-◌, List, [], ◌∷◌, ◌++◌, codes}
use Rattle.std.specs.Fmt.{decimal}
use Rattle.std.specs.Int.{w16, to_be_bytes}
use Rattle.std.specs.List.{flat_map, range_with_len}
use Rattle.hex.specs.Hex.{encode_lower}
use Rattle.rand_core.specs.Stream.{Stream}
use Rattle.zr_make.specs.declared.plan.MakePlan.{MakePlan}
use Rattle.zr_make.specs.Draws.{drawn_from, behind, pick}

-- ---- names

-- the four hexadecimal digits of a number, which name a router or a client
abbrev pub name : ℕ → List ℕ
name number = encode_lower (to_be_bytes w16 number)

-- the client of this number; clients have the numbers from 1, as routers have
abbrev pub client_name : ℕ → List ℕ
client_name number = name (32768 + number)

-- ---- lines

-- a command with two names
abbrev pub between : List ℕ → List ℕ → List ℕ → List ℕ
between command first second = command ++ codes " " ++ first ++ codes " " ++ second

abbrev pub router_line : ℕ → List ℕ
router_line router = codes "router " ++ name router

-- a link between two routers, which comes up at both ends
abbrev pub link_lines : ℕ → ℕ → List (List ℕ)
link_lines router peer =
    between (codes "link") (name router) (name peer) ∷ between (codes "up") (name router) (name peer) ∷ between (codes "up") (name peer) (name router) ∷ []

-- the last chunk of a subscription: any chunk where the first number is 0, else the second number
abbrev pub chunk : ℕ → ℕ → List ℕ
chunk zero key = codes "*"
chunk (suc kind) key = decimal key

-- a client of a router, and what it subscribes to
abbrev pub client_lines : ℕ → ℕ → ℕ → ℕ → List (List ℕ)
client_lines client router kind key =
    between (codes "client") (client_name client) (name router) ∷ (codes "sub " ++ client_name client ++ codes " 1 k/" ++ chunk kind key) ∷ []

-- a sample of a client, whose payload is the sample's number
abbrev pub sample_line : ℕ → ℕ → ℕ → List ℕ
sample_line client key number = codes "put " ++ client_name client ++ codes " k/" ++ decimal key ++ codes " " ++ decimal number

-- all that is under way goes on
abbrev pub run_line : List ℕ
run_line = codes "run 5000000"

-- ---- the script

abbrev pub all_routers : ℕ → List (List ℕ)
all_routers count = flat_map (λ i. router_line (i + 1) ∷ []) (range_with_len 0 count)

-- so many routers behind the first are each linked with one of those before it
abbrev pub all_links : Stream → ℕ → List (List ℕ)
all_links drawn count = flat_map (λ i. link_lines (i + 2) (1 + pick drawn i (i + 1))) (range_with_len 0 count)

-- each client is at one of the routers, and subscribes to all keys, one time in four, or to one of eight
abbrev pub all_clients : Stream → ℕ → ℕ → List (List ℕ)
all_clients drawn routers count =
    flat_map (λ i. client_lines (i + 1) (1 + pick drawn (3 * i) routers) (pick drawn (3 * i + 1) 4) (pick drawn (3 * i + 2) 8)) (range_with_len 0 count)

-- each sample is of one of the clients, on one of the eight keys
abbrev pub all_samples : Stream → ℕ → ℕ → List (List ℕ)
all_samples drawn clients count =
    flat_map (λ i. sample_line (1 + pick drawn (2 * i) clients) (pick drawn (2 * i + 1) 8) (i + 1) ∷ []) (range_with_len 0 count)

-- the network comes up and is at rest, so that a phase begins
abbrev pub network : Stream → ℕ → ℕ → List (List ℕ)
network drawn routers clients =
    all_routers routers ++ (all_links drawn (routers - 1) ++ (all_clients (behind (routers - 1) drawn) routers clients ++ (run_line ∷ codes "mark" ∷ [])))

-- the samples go through it
abbrev pub traffic : Stream → ℕ → ℕ → List (List ℕ)
traffic drawn clients messages = all_samples drawn clients messages ++ (run_line ∷ [])

abbrev pub script : MakePlan → List (List ℕ)
script plan =
    network (drawn_from plan.number) plan.routers plan.clients
    ++ traffic (behind (3 * plan.clients) (behind (plan.routers - 1) (drawn_from plan.number))) plan.clients plan.messages

-- the text of some lines
abbrev pub text_of : List (List ℕ) → List ℕ
text_of lines = flat_map (λ line. line ++ codes "\n") lines
