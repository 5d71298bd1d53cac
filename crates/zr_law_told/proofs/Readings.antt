-- What is read of a client and of its router: what the router has told it, which of its interests the router knows, and what waits for it.
use Rattle.std.proofs.Common.{◌≡◌, ℕ, Bool, List, [], ◌∷◌, ◌++◌, map, Option, Some, None, refl, sym, ap, ◌∙◌, append_assoc, subst, true, false, cond}
use Rattle.std.specs.Prelude.{◌||◌, is_some}
use Rattle.std.specs.Option.{option_map, option_map_or}
use Rattle.std.specs.Ordering.{nat_cmp}
use Rattle.std.specs.Cmp.Lexicographic.{slice_cmp}
use Rattle.std.specs.BTreeMap.{insert_entry}
use Rattle.std.proofs.lemmas.Bool.{true≢false}
use Rattle.std.proofs.lemmas.List.{map-append}
use Rattle.zr_lists.proofs.Options.{there_changed}
use Rattle.zr_id.specs.Zid.{is_named}
use Rattle.zr_graph.proofs.Names.{same_is}
use Rattle.zr_msg.specs.declared.msg.Msg.{Msg}
use Rattle.zr_local.specs.Clients.{interests_on}
use Rattle.zr_local.specs.declared.interest.Interest.{Interest}
use Rattle.zr_node_spec.specs.Tables.{link_to}
use Rattle.zr_told_spec.specs.Rows.{map_on}
use Rattle.zr_told_spec.specs.Told.{ToldMap}
use Rattle.zr_script_spec.specs.declared.report.ReportLine.{ReportLine}
use Rattle.zr_world_spec.specs.World.{Tagged, RouterState, ClientState, Routers, Clients, Ends, WorldState, new_router, router_of, client_of, end_of, is_taken}
use Rattle.zr_guarantee.specs.Sent.{told_to}
use Rattle.zr_world_spec.proofs.Names.{value_new}
use Rattle.zr_world_spec.proofs.Clients.{SameClients, read_same_clients}
use Rattle.zr_law_settled.proofs.Spreading.{Name}
use Rattle.zr_law_settled.proofs.Worlds.{queue_at}

-- ---- what a router has of a client

-- of what a router has told a neighbour, if it has a link to it
abbrev pub told_of : Option RouterState → Name → Option ToldMap
told_of None c = None
told_of (Some r) c = option_map (λ l. map_on r.told l.link.0) (link_to r.node.links c)

-- the interests of a neighbour: none, where there is no link to it
abbrev pub wants_of : Option RouterState → Name → List Interest
wants_of None c = []
wants_of (Some r) c = option_map_or (λ l. interests_on r.node.clients l.link.0) (link_to r.node.links c) []

-- ---- what it was sent, and what waits for it

abbrev pub msgs_in : List Tagged → List Msg
msgs_in ws = map (λ x. x.msg) ws

abbrev pub waits : Ends → Name → Name → List Msg
waits es x c = msgs_in (queue_at (end_of es (x, c)))

-- the messages that a report says a name was sent
abbrev pub told_by : List ReportLine → Name → List Msg
told_by report c = map (λ x. x.msg) (told_to report c)

msgs_tagged : (tag : ℕ) (ms : List Msg) → msgs_in (map (λ m. record { msg = m; tag = tag }) ms) ≡ ms
msgs_tagged tag [] = refl
msgs_tagged tag (m ∷ ms) = ap (λ z. m ∷ z) (msgs_tagged tag ms)

-- what is queued in two rows is queued in their order
pub msgs_more : (ws : List Tagged) (xs ys : List Msg) (tag : ℕ) →
    msgs_in ((ws ++ map (λ m. record { msg = m; tag = tag }) xs) ++ map (λ m. record { msg = m; tag = tag }) ys) ≡ msgs_in ws ++ (xs ++ ys)
msgs_more ws xs ys tag =
    map-append (λ (x : Tagged). x.msg) (ws ++ tagged xs) (tagged ys)
    ∙ ap (λ z. z ++ msgs_in (tagged ys)) (map-append (λ (x : Tagged). x.msg) ws (tagged xs))
    ∙ ap (λ z. (msgs_in ws ++ z) ++ msgs_in (tagged ys)) (msgs_tagged tag xs)
    ∙ ap (λ z. (msgs_in ws ++ xs) ++ z) (msgs_tagged tag ys)
    ∙ append_assoc (msgs_in ws) xs ys
  where
    tagged : List Msg → List Tagged
    tagged ms = map (λ m. record { msg = m; tag = tag }) ms

-- ---- names

-- clients are attached to the same routers
abbrev pub SameHomes : Clients → Clients → Type 0
SameHomes clients more = (c : Name) → option_map (λ (s : ClientState). s.router) (client_of more c) ≡ option_map (λ (s : ClientState). s.router) (client_of clients c)

pub same_homes : (clients more : Clients) → SameClients clients more → SameHomes clients more
same_homes clients more same c = read_same_clients clients more same (λ s. s.router) (λ s. refl) c

pub home_was : (clients more : Clients) → SameHomes clients more → (c : Name) (t : ClientState) → client_of more c ≡ Some t → (s : ClientState) × (client_of clients c ≡ Some s) × (s.router ≡ t.router)
home_was clients more same c t found = by (client_of clients c) refl (sym (same c) ∙ ap (option_map (λ (s : ClientState). s.router)) found)
  where
    by : (o : Option ClientState) → client_of clients c ≡ o → option_map (λ (s : ClientState). s.router) o ≡ Some t.router → (s : ClientState) × (client_of clients c ≡ Some s) × (s.router ≡ t.router)
    by None e h = absurd (cc)
    by (Some s) e h = (s, e, cc)

-- the same names are taken
pub same_taken : (w v : WorldState) → ((c : Name) → is_some (router_of v.routers c) ≡ is_some (router_of w.routers c)) → SameHomes w.clients v.clients → (c : Name) → is_taken v c ≡ is_taken w c
same_taken w v routers homes c =
    ap (λ b. b || is_some (client_of v.clients c)) (routers c)
    ∙ ap (λ b. is_some (router_of w.routers c) || b)
    (sym (there_changed (λ (s : ClientState). s.router) (client_of v.clients c)) ∙ ap is_some (homes c) ∙ there_changed (λ (s : ClientState). s.router) (client_of w.clients c))

-- what is not there then was not there before
pub none_before : {X : Type 0} (b : Bool) (x : X) (o : Option X) → is_some (cond b (Some x) o) ≡ false → is_some o ≡ false
none_before true x o h = absurd (true≢false h)
none_before false x o h = h

-- ---- routers

-- a router that may be another one then
pub either_router : (P : RouterState → Type 0) (o : Option RouterState) (q s : RouterState) (b : Bool) → ((r : RouterState) → o ≡ Some r → P r) → P s → cond b (Some s) o ≡ Some q → P q
either_router P o q s true old new e = let one : s ≡ q = cc in subst P one new
either_router P o q s false old new e = old q e

-- what reads a new router as none reads all routers as before
pub router_new : {Y : Type 0} (f : Option RouterState → Y) (routers : Routers) (id : Name) → router_of routers id ≡ None → f (Some (new_router id)) ≡ f None → (x : Name) →
    f (router_of (insert_entry (slice_cmp nat_cmp) routers id (new_router id)) x) ≡ f (router_of routers x)
router_new f routers id none blind x = ap f (value_new routers id x (new_router id) none) ∙ by (is_named x id) refl
  where
    by : (b : Bool) → is_named x id ≡ b → f (cond b (Some (new_router id)) (router_of routers x)) ≡ f (router_of routers x)
    by false e = refl
    by true e = blind ∙ sym (ap f (ap (router_of routers) (same_is x id e) ∙ none))
