-- One act of a phase, at a moment where a query stands: what is known before it (`Here`), and what is to be so behind it (`Then`).
use Rattle.std.proofs.Common.{◌≡◌, ℕ, true, List, [], ◌∷◌, ◌++◌, Option, Some, None}
use Rattle.std.specs.Prelude.{nat_lt, if◌then◌else◌}
use Rattle.zr_world_spec.specs.World.{ClientState, WorldState, client_of, is_up}
use Rattle.zr_world_spec.specs.Moments.{Numbered, Moment}
use Rattle.zr_guarantee.specs.Queries.{Asked}
use Rattle.zr_law_queries.specs.Link.{Shows}
use Rattle.zr_law_samples.proofs.Start.{Marked}
use Rattle.zr_law_numbers.specs.Waiting as waiting
use Rattle.zr_law_numbers.specs.Waiting.{Place, back_at, link_of, is_whole}
use Rattle.zr_law_numbers.proofs.Numbers.{AllGo}
use Rattle.zr_law_replies.specs.Answers.{line_of}
use Rattle.zr_law_replies.specs.Trees.{has_router, home_of, named_at, IsTreeOf}
use Rattle.zr_law_replies.specs.Stands.{IsStill, Stands}
use Rattle.zr_law_replies.proofs.Links.{Lines, lines_on}
use Rattle.zr_law_replies.proofs.Every.{Holds}
use Rattle.zr_law_replies.proofs.ShownHops.{plain}
use Rattle.zr_law_replies.proofs.StandSteps.{Hops}

-- what is told of a request that was taken: all but its line is what the query's request to that node says
abbrev pub request_of : WorldState → Asked → List ℕ → ℕ → waiting.Asked
request_of w q y line = record { line = line; tree = if has_router w y then named_at w q.client y else None; target = q.target; content = q.content }

-- hops that the links of a world show, each of its line
pub record PlainHops (w : WorldState) (q : Asked) (v : WorldState) (lines : Lines) (hop : Hops) : Type 0 where
  pub shows : (x y : List ℕ) → is_whole v x y ≡ true → Shows (link_of v x y) (hop x y)
  pub line : (x y : List ℕ) (n : ℕ) (by : Option Place) → is_whole v x y ≡ true → back_at v x y n ≡ Some by → line_of (hop x y n) ≡ Some (lines x y n)
  pub taken : (x y : List ℕ) (n : ℕ) → plain (request_of w q y) (hop x y n) ≡ hop x y n

-- what is known of a query at the mark of its phase: its client is attached, and its link is up
pub record Begins (before : List Numbered) (mark : ℕ) (start : Moment) (q : Asked) : Type 0 where
  pub marked : Marked before mark start
  pub client : ClientState
  pub found : client_of start.world.clients q.client ≡ Some client
  pub up : is_up start.world.ends (home_of start.world q.client, q.client) ≡ true
  pub tree : IsTreeOf before start.world q
  pub later : nat_lt mark q.line ≡ true

-- what holds at a moment of the phase; `acts` are all acts up to it
pub record Here (w : WorldState) (phase : List Numbered) (q : Asked) (acts : List Numbered) (m : Moment) : Type 0 where
  pub holds : Holds acts m
  pub hop : Hops
  pub plain : PlainHops w q m.world holds.lines hop
  pub stands : Stands w phase q acts m hop

-- the query stands behind one more act, whatever hops links show then
abbrev pub Then : (w : WorldState) (phase : List Numbered) (q : Asked) (acts : List Numbered) (m : Moment) → Here w phase q acts m → Numbered → Moment → Type 0
Then w phase q acts m here x next =
    AllGo next → IsStill w next.world → (hop : Hops) → PlainHops w q next.world (lines_on next.world here.holds.lines) hop → Stands w phase q (acts ++ x ∷ []) next hop
