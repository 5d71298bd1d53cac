-- What a query comes to over any moves, and what is promised of it.
use Rattle.std.specs.Prelude.{◌≡◌, Bool, true, false, cond, List, [], ◌∷◌, ◌++◌, filter}
use Rattle.zr_law_queries.specs.Query.{Tree, IsPlain, IsDesk, IsTree, Stage, at_first, is_not_yet, is_done, replies_at, has, is_child, Sound, Move, after, heard_after, got_after, Way, IsWay, GathersOnce, Brings, said_after, Release, Releases, Agrees, IsQuiet, IsFinished}

-- any moves, from before the query is asked: the stages to which they lead, what the parent of each node has taken from it, what a node that gathers has
-- handled, and what the replier has said
pub data Course {N R C : Type 0} (release : Release R C) (tree : Tree N) (way : Way N R) : (N → Stage R) → (N → List R) → List R → List R → Type 0 where
  Start : Course release tree way at_first (λ x. []) [] []
  Then : (stage : N → Stage R) (heard : N → List R) (got said : List R) → Course release tree way stage heard got said →
      (move : Move tree stage) → Agrees release tree stage move way got →
      Course release tree way (after tree stage move) (heard_after tree stage move heard) (got_after tree stage move got) (said_after tree stage move way.is_own said)

-- what the client that asks was sent, of what one replier has said
pub record IsAnswered {N R : Type 0} (tree : Tree N) (way : Way N R) (stage : N → Stage R) (said : List R) : Type 0 where
  -- a prefix
  pub prefix : (rest : List R) × (filter way.is_own (replies_at (stage tree.root)) ++ rest ≡ said)
  -- the whole once the final was sent, and then the replier has ended
  pub whole : is_done (stage tree.root) ≡ true → filter way.is_own (replies_at (stage tree.root)) ≡ said
  pub ended : is_done (stage tree.root) ≡ true → is_done (stage way.replier) ≡ true
  -- the whole where nothing is under way
  pub quiet : IsQuiet tree stage → filter way.is_own (replies_at (stage tree.root)) ≡ said
  -- and the final, once the client has asked, nothing is under way, and all that were asked have ended
  pub final : is_not_yet (stage tree.root) ≡ false → IsQuiet tree stage → IsFinished tree stage → is_done (stage tree.root) ≡ true

-- What the client that asks was sent where its desk gathers, and what the desk has handled, of what one replier has said. The desk has sent what it released:
-- what the client was sent, and behind it what waits there.
pub record IsGathered {N R C : Type 0} (release : Release R C) (tree : Tree N) (desk : N) (way : Way N R) (stage : N → Stage R) (got said : List R) : Type 0 where
  -- the desk has handled a prefix
  pub prefix : (rest : List R) × (filter way.is_own got ++ rest ≡ said)
  -- nothing is released while a final from below is missing
  pub early : is_done (stage desk) ≡ false → replies_at (stage tree.root) ++ replies_at (stage desk) ≡ []
  -- and then what may be, of the whole, and the replier has ended
  pub released : is_done (stage desk) ≡ true → Releases release got (replies_at (stage tree.root) ++ replies_at (stage desk))
  pub whole : is_done (stage desk) ≡ true → filter way.is_own got ≡ said
  pub ended : is_done (stage desk) ≡ true → is_done (stage way.replier) ≡ true
  -- with the final the client was sent all of it
  pub all : is_done (stage tree.root) ≡ true → (is_done (stage desk) ≡ true) × (replies_at (stage desk) ≡ [])
  -- where nothing is under way nothing waits at the desk, and it has handled the whole
  pub quiet : IsQuiet tree stage → (replies_at (stage desk) ≡ []) × (filter way.is_own got ≡ said)
  pub final : is_not_yet (stage tree.root) ≡ false → IsQuiet tree stage → IsFinished tree stage → is_done (stage tree.root) ≡ true

-- ---- ways

-- from x along some nodes to the last, each a child of the one before
abbrev pub Chain : {N : Type 0} → Tree N → N → List N → N → Type 0
Chain tree x [] last = x ≡ last
Chain tree x (y ∷ ys) last = (is_child tree x y ≡ true) × Chain tree y ys last

-- who comes behind z
abbrev pub behind : {N : Type 0} → Tree N → N → List N → N → N
behind tree x [] z = z
behind tree x (y ∷ ys) z = cond (tree.same x z) y (behind tree y ys z)

-- the way to a replier along some nodes behind the root
abbrev pub way_of : {N R : Type 0} → Tree N → List N → N → (R → Bool) → Way N R
way_of tree ys replier is_own = record { replier = replier; on = has tree (tree.root ∷ ys); next = behind tree tree.root ys; is_own = is_own }

-- ---- laws of any nodes N and any replies R

-- each move keeps the stages of a tree together, and so they are at first
pub record MovesKeepSound (N R : Type 0) : Type 0 where
  pub start : (tree : Tree N) → Sound {R = R} tree at_first
  pub moves : (tree : Tree N) (stage : N → Stage R) → IsTree tree → Sound tree stage → (move : Move tree stage) → Sound tree (after tree stage move)

-- each move keeps the replies of a replier along its way, and so they are at first
pub record MovesBring (N R C : Type 0) : Type 0 where
  pub start : (tree : Tree N) (way : Way N R) → Brings tree way at_first (λ x. []) [] []
  pub moves : (release : Release R C) (tree : Tree N) (stage : N → Stage R) (heard : N → List R) (way : Way N R) (got said : List R) →
      IsTree tree → Sound tree stage → IsWay tree way → GathersOnce tree way → Brings tree way stage heard got said → (move : Move tree stage) → Agrees release tree stage move way got →
      Brings tree way (after tree stage move) (heard_after tree stage move heard) (got_after tree stage move got) (said_after tree stage move way.is_own said)

-- once the client that asks was sent the final, no move sends it anything
abbrev pub FinalsAreLast : Type 0 → Type 0 → Type 0
FinalsAreLast N R = (tree : Tree N) (stage : N → Stage R) → IsTree tree → Sound tree stage → is_done (stage tree.root) ≡ true →
    (move : Move tree stage) → after tree stage move tree.root ≡ stage tree.root

-- whatever moves a query makes along a tree where no node gathers, the client that asks is answered by each replier
abbrev pub QueriesAreAnswered : Type 0 → Type 0 → Type 0 → Type 0
QueriesAreAnswered N R C = (release : Release R C) (tree : Tree N) (way : Way N R) → IsTree tree → IsPlain tree → IsWay tree way →
    (stage : N → Stage R) (heard : N → List R) (got said : List R) → Course release tree way stage heard got said → IsAnswered tree way stage said

-- and where its desk gathers, it is sent what is released of all replies
abbrev pub QueriesAreGathered : Type 0 → Type 0 → Type 0 → Type 0
QueriesAreGathered N R C = (release : Release R C) (tree : Tree N) (desk : N) (way : Way N R) → IsTree tree → IsDesk tree desk → IsWay tree way → Releases release [] [] →
    (stage : N → Stage R) (heard : N → List R) (got said : List R) → Course release tree way stage heard got said → IsGathered release tree desk way stage got said

-- a chain of nodes from the root to a client that is asked is a way
abbrev pub ChainsAreWays : Type 0 → Type 0 → Type 0
ChainsAreWays N R = (tree : Tree N) (ys : List N) (replier : N) (is_own : R → Bool) →
    IsTree tree → tree.passes replier ≡ false → Chain tree tree.root ys replier → IsWay tree (way_of tree ys replier is_own)
