-- What holds of the numbers of requests in every world, so that no request is refused and no reply goes to another asker.
use Rattle.std.specs.Prelude.{◌≡◌, ℕ, ◌≤◌, ◌==◌, ◌&&◌, not, Bool, true, List, [], ◌∷◌, length, Some}
use Rattle.std.specs.List.{list_any}
use Rattle.zr_world_spec.specs.World.{RouterState, ClientState, WorldState, router_of, client_of, most_queries}
use Rattle.zr_world_spec.specs.Moments.{Numbered, Moment, reached}
use Rattle.zr_law_queries.specs.Link.{Hop, Shows}
use Rattle.zr_law_numbers.specs.Rows.{AreOfLinks}
use Rattle.zr_law_numbers.specs.Waiting.{Asked, Said, Place, link_of, is_whole}

-- ---- all links

-- no number stands twice
abbrev pub are_apart : List ℕ → Bool
are_apart [] = true
are_apart (n ∷ ns) = not (list_any (λ m. m == n) ns) && are_apart ns

-- Under each number of each link that is unbroken there is nothing, or one request on its way, or one that the lower end keeps with some replies on
-- their way back, or the same with its final behind them.
pub record NumbersHold (hops : List ℕ → List ℕ → ℕ → Hop Asked Place Said) (w : WorldState) : Type 0 where
  pub links : (x y : List ℕ) → is_whole w x y ≡ true → Shows (link_of w x y) (hops x y)
  pub tables : (x : List ℕ) (r : RouterState) → router_of w.routers x ≡ Some r → AreOfLinks r.node
  pub queries : (c : List ℕ) (s : ClientState) → client_of w.clients c ≡ Some s → are_apart s.queries ≡ true
  pub requests : (c : List ℕ) (s : ClientState) → client_of w.clients c ≡ Some s → are_apart s.requests ≡ true

-- at each moment to which acts lead
abbrev pub NumbersAlwaysHold : Type 0
NumbersAlwaysHold = (acts : List Numbered) (m : Moment) → reached acts ≡ Some m →
    (hops : List ℕ → List ℕ → ℕ → Hop Asked Place Said) × NumbersHold hops m.world

-- a client has no more open queries than it may
abbrev pub QueriesAreFew : WorldState → Type 0
QueriesAreFew w = (c : List ℕ) (s : ClientState) → client_of w.clients c ≡ Some s → length s.queries ≤ most_queries
