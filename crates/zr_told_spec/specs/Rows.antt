-- What a router tells the clients of its links, from its tables (Zenoh protocol 1.0, "INTEREST").
use Rattle.std.specs.Prelude.{◌≡◌, ℕ, ◌≤◌, ◌-◌, ◌^◌, ◌&&◌, ◌||◌, not, nat_lt, Bool, true, false, List, [], ◌∷◌, ◌++◌, length, map, filter, Option, Some, None, unwrap_or, if◌then◌else◌}
use Rattle.std.specs.List.{All, flat_map, list_any}
use Rattle.std.specs.Option.{option_map}
use Rattle.std.specs.Ordering.{is_eq, nat_cmp}
use Rattle.std.specs.Map.{lookup, values_of}
use Rattle.zr_lists.specs.Ascending.{at_key}
use Rattle.zr_id.specs.Zid.{is_named}
use Rattle.zr_id.specs.declared.link.LinkNo.{LinkNo}
use Rattle.zr_tree.specs.Tree.{reached}
use Rattle.zr_msg.specs.declared.decl.Decl.{Decl}
use Rattle.zr_msg.specs.declared.msg.Msg.{Msg}
use Rattle.zr_msg.specs.declared.msg.Msg.TheVariants.{ToldEnd}
use Rattle.zr_local.specs.Clients.{client_link, interests_on}
use Rattle.zr_local.specs.Interests.{interest_id}
use Rattle.zr_local.specs.Rows.{decls_of, left}
use Rattle.zr_log.specs.declared.log.Log.{Log}
use Rattle.zr_node_spec.specs.Tables.{TableState, graph}
use Rattle.zr_node_spec.specs.Table.{live}
use Rattle.zr_told_spec.specs.Place.{same, place_of}
use Rattle.zr_told_spec.specs.Wanted.{fits, told_as, asked, want, wanted}
use Rattle.zr_told_spec.specs.Told.{ToldMap, at, declares, retell, retold}
use Rattle.zr_local.specs.declared.interest.ClientInterests.{ClientInterests}
use Rattle.zr_local.specs.declared.interest.Interest.{Interest}
use Rattle.zr_told_spec.specs.declared.place.Place.{Place}

-- ---- what others declare

-- the log of another router that this one reaches
abbrev pub is_source : TableState → Log → Bool
is_source t log = not (is_named log.source t.base.me) && reached (graph t) t.base.me log.source

-- what all others than the client of a link declare: the other clients of this router, and those of the routers that it reaches
abbrev pub others : TableState → ℕ → List Decl
others t link = decls_of (left t.rows link) ++ flat_map (λ log. log.decls) (filter (λ log. is_source t log) t.known.logs)

-- ---- after an event that is no interest of the client: what changed is told, and names no interest

abbrev pub tells_changes : List Decl → List Interest → ToldMap → List Msg
tells_changes ds is m = retell (λ p. false) None (wanted ds is) m

abbrev pub told_changes : List Decl → List Interest → ToldMap → ToldMap
told_changes ds is m = retold (λ p. false) (wanted ds is) m

-- ---- after an interest of the client, which is among its live ones where it is in what is declared later

-- it is in what is declared later: it is told all that it wants, what was told before under its old id
abbrev pub is_again : Bool → List Decl → Interest → Place → Bool
is_again future ds i p = future && asked ds i p

-- each names the interest where that is in what is declared now
abbrev pub answered : Bool → Interest → Option ℕ
answered current i = if current then Some i.id else None

-- in what is declared now alone: each is told with number 0, and nothing of it is kept
abbrev pub once : List Decl → Interest → List Msg
once ds i = map (λ w. declares 0 w.0.class w.0.key w.1 (Some i.id)) (wanted ds (i ∷ []))

-- what ends the answer to an interest in what is declared now
abbrev pub closing : Bool → Bool → List Decl → Interest → List Msg
closing current future ds i = if current then (if future then [] else once ds i) ++ ToldEnd i.id ∷ [] else []

abbrev pub tells_interest : Bool → Bool → List Decl → List Interest → Interest → ToldMap → List Msg
tells_interest current future ds is i m = retell (is_again future ds i) (if future then answered current i else None) (wanted ds is) m ++ closing current future ds i

abbrev pub told_interest : Bool → List Decl → List Interest → Interest → ToldMap → ToldMap
told_interest future ds is i m = retold (is_again future ds i) (wanted ds is) m

-- it has been noted: in what is declared later it is the live one of its id, and else none of its id is live
abbrev pub IsNoted : Bool → Interest → List Interest → Type 0
IsNoted future i is = at_key nat_cmp interest_id is i.id ≡ live future i

-- ---- all clients of a router

-- of what the client of each link was told; one that isn't there was told nothing
abbrev pub Maps : Type 0
Maps = List (ℕ × ToldMap)

abbrev pub map_on : Maps → ℕ → ToldMap
map_on maps link = unwrap_or (lookup (λ k. is_eq (nat_cmp link k)) maps) []

-- messages for the client of a link
abbrev pub sent_on : LinkNo → List Msg → List (LinkNo × Msg)
sent_on link ms = map (λ m. (link, m)) ms

-- who isn't among the clients was told nothing
abbrev pub AreListed : List ClientInterests → Maps → Type 0
AreListed cs maps = (k : ℕ) → at_key nat_cmp client_link cs k ≡ None → map_on maps k ≡ []

-- what the client of a link is told, and of what it was told then: one without interests nothing
abbrev pub tells_on : TableState → List ClientInterests → Maps → ℕ → List Msg
tells_on t cs maps link = tells_changes (others t link) (interests_on cs link) (map_on maps link)

abbrev pub told_on : TableState → List ClientInterests → Maps → ℕ → ToldMap
told_on t cs maps link = told_changes (others t link) (interests_on cs link) (map_on maps link)

-- what the clients are told, in the order of their links
abbrev pub tells_all : TableState → List ClientInterests → Maps → List (LinkNo × Msg)
tells_all t cs maps = flat_map (λ c. sent_on c.link (tells_changes (others t c.link.0) c.interests (map_on maps c.link.0))) cs

-- ---- ids have 32 bits

abbrev pub most_id : ℕ
most_id = 2 ^ 32 - 1

-- no client was told of more places than there are ids
abbrev pub AreFew : Maps → Type 0
AreFew maps = All (λ m. length m ≤ most_id) (values_of maps)

-- more is wanted than there are ids
abbrev pub lacks_ids : List Decl → List Interest → Bool
lacks_ids ds is = nat_lt most_id (length (wanted ds is))

abbrev pub one_lacks_ids : TableState → List ClientInterests → Bool
one_lacks_ids t cs = list_any (λ c. lacks_ids (others t c.link.0) c.interests) cs

-- ---- where nothing is to be told

-- a client was told of what is wanted, and of nothing else
abbrev pub IsAsWanted : List Decl → List Interest → ToldMap → Type 0
IsAsWanted ds is m = (p : Place) → option_map (λ e. e.complete) (at m p) ≡ want ds is p

-- a declaration at a place may change what is wanted at another one: an interest that fits it wants it there, or is told there of it
abbrev pub touches : List Interest → Place → Place → Bool
touches is q p = list_any (λ i. fits i q && (same p q || same p (told_as i q))) is

-- where none of these places touches, a client was told of what is wanted
abbrev pub IsAsWantedBut : List Place → List Decl → List Interest → ToldMap → Type 0
IsAsWantedBut qs ds is m = (p : Place) → list_any (λ q. touches is q p) qs ≡ false → option_map (λ e. e.complete) (at m p) ≡ want ds is p

-- so the client of each link was; one without interests was told nothing
abbrev pub AreAsWantedBut : List Place → TableState → List ClientInterests → Maps → Type 0
AreAsWantedBut qs t cs maps = (k : ℕ) → IsAsWantedBut qs (others t k) (interests_on cs k) (map_on maps k)

-- a client has an interest that fits one of these places
abbrev pub is_touched : List Place → List Interest → Bool
is_touched qs is = list_any (λ q. list_any (λ i. fits i q) is) qs

-- two lists declare the same at all places but these
abbrev pub IsSameBut : List Place → List Decl → List Decl → Type 0
IsSameBut qs xs ys = (f : Decl → Bool) → list_any (λ d. not (list_any (same (place_of d)) qs) && f d) xs ≡ list_any (λ d. not (list_any (same (place_of d)) qs) && f d) ys

-- the live interests after an interest are that one and some of those before
pub record IsAdded (i : Interest) (before is : List Interest) : Type 0 where
  pub itself : (f : Interest → Bool) → f i ≡ true → list_any f is ≡ true
  pub others : (f : Interest → Bool) → list_any f is ≡ true → (f i || list_any f before) ≡ true
