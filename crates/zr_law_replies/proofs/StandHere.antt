-- What is known at a moment of a phase at which a query stands: its tree's links are whole, and routers, clients and links are those of the mark.
use Rattle.std.proofs.Common.{◌≡◌, ℕ, true, false, List, [], Option, Some, None, is_some, refl, sym, ap, ◌∙◌}
use Rattle.std.specs.Prelude.{◌||◌}
use Rattle.std.specs.Option.{option_map, option_map_or}
use Rattle.zr_lists.proofs.Options.{there_changed}
use Rattle.zr_world_spec.specs.World.{RouterState, ClientState, WorldState, router_of, client_of}
use Rattle.zr_world_spec.specs.Moments.{Numbered, Moment}
use Rattle.zr_world_spec.proofs.Keyed.{there}
use Rattle.zr_guarantee.specs.Queries.{Asked}
use Rattle.zr_law_settled.proofs.Orderly.{Orderly}
use Rattle.zr_law_queries.specs.Query.{Tree, Stage, is_child}
use Rattle.zr_law_numbers.specs.Waiting.{Place, Said, is_whole}
use Rattle.zr_law_numbers.proofs.Whole.{client_alone}
use Rattle.zr_law_replies.specs.Answers.{AnswersHold}
use Rattle.zr_law_replies.specs.Trees.{has_router, home_of, tree_at}
use Rattle.zr_law_replies.specs.Stands.{lasting, IsStill, is_open, asked_at, row_places, open_below}
use Rattle.zr_law_replies.proofs.Every as every
use Rattle.zr_law_replies.proofs.StandBegins.{kids_whole}
use Rattle.zr_law_replies.proofs.StandOwn.{RowsShow}
use Rattle.zr_law_replies.proofs.StandSteps.{Hops}
use Rattle.zr_law_replies.proofs.StandStep.{Begins, Here}

-- ---- what stays

module _ (w v : WorldState) (s : IsStill w v) where
  pub still_whole : (x y : List ℕ) → is_whole v x y ≡ is_whole w x y
  still_whole x y = λ i. s.unbroken (x, y) i || s.unbroken (y, x) i

  pub still_router : (x : List ℕ) → has_router v x ≡ has_router w x
  still_router x =
      sym (there_changed (λ (r : RouterState). lasting r.node) (router_of v.routers x)) ∙ ap is_some (s.tables x) ∙ there_changed (λ (r : RouterState). lasting r.node) (router_of w.routers x)

  -- a client stays with its router
  pub still_home : (c : List ℕ) (k : ClientState) → client_of v.clients c ≡ Some k → home_of w c ≡ k.router
  still_home c k found = by (client_of w.clients c) ∙ ap (λ o. option_map_or (λ (z : List ℕ). z) o []) (sym (s.homes c) ∙ ap (option_map (λ (z : ClientState). z.router)) found)
    where
      by : (o : Option ClientState) → option_map_or (λ z. z.router) o [] ≡ option_map_or (λ (z : List ℕ). z) (option_map (λ (z : ClientState). z.router) o) []
      by None = refl
      by (Some z) = refl

  pub still_client : (c : List ℕ) (k : ClientState) → client_of w.clients c ≡ Some k → (z : ClientState) × (client_of v.clients c ≡ Some z)
  still_client c k found =
      there (client_of v.clients c)
      (sym (there_changed (λ (z : ClientState). z.router) (client_of v.clients c)) ∙ ap is_some (s.homes c) ∙ there_changed (λ (z : ClientState). z.router) (client_of w.clients c) ∙ ap is_some found)

  -- no router is a client
  pub still_apart : Orderly v → (c : List ℕ) (k : ClientState) → client_of v.clients c ≡ Some k → has_router w c ≡ false
  still_apart orderly c k found = sym (still_router c) ∙ ap is_some (client_alone v orderly c k found)

-- ---- rows

-- the row of a name for who asked, if it is a router's
abbrev pub row_at : WorldState → List ℕ → Place → List Place
row_at v x from = option_map_or (λ r. row_places r from) (router_of v.routers x) []

-- what rows show by name they show of each router, and the other way round
pub rows_read : (v : WorldState) (t : Tree (List ℕ)) (num : List ℕ → ℕ) (stage : List ℕ → Stage Said) → RowsShow t num stage (has_router v) (row_at v) →
    (x : List ℕ) (r : RouterState) → router_of v.routers x ≡ Some r → is_open (stage x) ≡ true → row_places r (asked_at t num x) ≡ open_below t num stage x
rows_read v t num stage rows x r found o = sym (ap (λ k. option_map_or (λ r. row_places r (asked_at t num x)) k []) found) ∙ rows x (ap is_some found) o

pub rows_named : (v : WorldState) (t : Tree (List ℕ)) (num : List ℕ → ℕ) (stage : List ℕ → Stage Said) →
    ((x : List ℕ) (r : RouterState) → router_of v.routers x ≡ Some r → is_open (stage x) ≡ true → row_places r (asked_at t num x) ≡ open_below t num stage x) → RowsShow t num stage (has_router v) (row_at v)
rows_named v t num stage rows x routes o =
    let r = there (router_of v.routers x) routes in
    ap (λ k. option_map_or (λ r. row_places r (asked_at t num x)) k []) r.1 ∙ rows x r.0 r.1 o

-- ---- a query

module _ (before : List Numbered) (mark : ℕ) (start : Moment) (q : Asked) (b : Begins before mark start q) where
  -- the links of its tree are whole at the mark
  pub kids : (x y : List ℕ) → is_child (tree_at start.world q) x y ≡ true → is_whole start.world x y ≡ true
  kids = kids_whole before mark start b.marked q b.client b.found b.up

  module _ (phase acts : List Numbered) (m : Moment) (here : Here start.world phase q acts m) where
    pub whole_now : (x y : List ℕ) → is_whole start.world x y ≡ true → is_whole m.world x y ≡ true
    whole_now x y there = still_whole start.world m.world here.stands.still x y ∙ there

    -- its client is no router
    pub asker_apart : has_router start.world q.client ≡ false
    asker_apart =
        let now = still_client start.world m.world here.stands.still q.client b.client b.found in
        still_apart start.world m.world here.stands.still here.holds.go.0.orderly q.client now.0 now.1

    -- what holds of answers then
    pub answers_now : (hop : Hops) × AnswersHold acts m hop
    answers_now = (_, every.answers_hold acts m here.holds)

    -- the rows of routers show its stages
    pub rows_now : RowsShow (tree_at start.world q) here.stands.num here.stands.stage (has_router m.world) (row_at m.world)
    rows_now = rows_named m.world (tree_at start.world q) here.stands.num here.stands.stage here.stands.rows
