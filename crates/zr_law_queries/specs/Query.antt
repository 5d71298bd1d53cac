-- One query, without messages and numbers: the tree along which its requests go, where the request is at each node, what may happen to it, and what
-- comes back. Nodes are of any type, and so is what a reply says.
use Rattle.std.specs.Prelude.{◌≡◌, ◌⊎◌, ℕ, ◌&&◌, ◌<◌, Bool, true, false, cond, List, [], ◌∷◌, ◌++◌, filter, not}
use Rattle.std.specs.List.{list_any, list_all}

-- ---- the tree

-- What stays while a query is answered: the client that asks, which is the root; to which nodes each node passes the request, and from which it has it;
-- which nodes pass on what comes from below, as routers and the client that asks do, and the clients that are asked don't; and a height that falls from
-- each node to those below it. `same` tells whether two nodes are one. A node that gathers holds all replies that it handles until it sends its final, and
-- then sends what is released of them.
pub record Tree (N : Type 0) : Type 0 where
  pub same : N → N → Bool
  pub root : N
  pub children : N → List N
  pub parent : N → N
  pub passes : N → Bool
  pub height : N → ℕ
  pub gathers : N → Bool

-- no node gathers
abbrev pub IsPlain : {N : Type 0} → Tree N → Type 0
IsPlain {N} tree = (x : N) → tree.gathers x ≡ false

-- one node gathers, the desk: the only child of the client that asks
pub record IsDesk {N : Type 0} (tree : Tree N) (desk : N) : Type 0 where
  pub alone : tree.children tree.root ≡ desk ∷ []
  pub one : (x : N) → tree.gathers x ≡ tree.same x desk
  pub passes : tree.passes desk ≡ true

-- a node is one of some
abbrev pub has : {N : Type 0} → Tree N → List N → N → Bool
has tree ys y = list_any (λ z. tree.same z y) ys

-- x has y as a child
abbrev pub is_child : {N : Type 0} → Tree N → N → N → Bool
is_child tree x y = has tree (tree.children x) y

pub record IsTree {N : Type 0} (tree : Tree N) : Type 0 where
  pub decides : (x y : N) → tree.same x y ≡ true → x ≡ y
  pub itself : (x : N) → tree.same x x ≡ true
  pub parent : (x y : N) → is_child tree x y ≡ true → tree.parent y ≡ x
  pub falls : (x y : N) → is_child tree x y ≡ true → tree.height y < tree.height x
  pub top : (x : N) → is_child tree x tree.root ≡ false
  pub leaf : (x : N) → tree.passes x ≡ false → tree.children x ≡ []
  pub asks : tree.passes tree.root ≡ true

-- ---- where the request is

-- The request to a node isn't there yet; or it is on the link from the parent; or it is here, with some replies on their way up, and the final behind
-- them where that was sent; or the parent has handled the final. At the root, to which no link leads, the replies are all that the client was sent.
pub data Stage (R : Type 0) : Type 0 where
  NotYet : Stage R
  OnTheWay : Stage R
  Here : (replies : List R) (done : Bool) → Stage R
  Over : Stage R

-- before the query is asked
abbrev pub at_first : {N R : Type 0} → N → Stage R
at_first x = NotYet

abbrev pub is_not_yet : {R : Type 0} → Stage R → Bool
is_not_yet NotYet = true
is_not_yet OnTheWay = false
is_not_yet (Here replies done) = false
is_not_yet Over = false

abbrev pub is_over : {R : Type 0} → Stage R → Bool
is_over NotYet = false
is_over OnTheWay = false
is_over (Here replies done) = false
is_over Over = true

-- the final was sent
abbrev pub is_done : {R : Type 0} → Stage R → Bool
is_done NotYet = false
is_done OnTheWay = false
is_done (Here replies done) = done
is_done Over = true

abbrev pub replies_at : {R : Type 0} → Stage R → List R
replies_at NotYet = []
replies_at OnTheWay = []
replies_at (Here replies done) = replies
replies_at Over = []

-- which stage of a node goes with which of a child: nobody below is reached before the node has the request, all are once it has it, and all are over
-- once it has sent the final
abbrev pub fits : {R : Type 0} → Stage R → Stage R → Bool
fits NotYet below = is_not_yet below
fits OnTheWay below = is_not_yet below
fits (Here replies false) below = not (is_not_yet below)
fits (Here replies true) below = is_over below
fits Over below = is_over below

abbrev pub all_over : {N R : Type 0} → (N → Stage R) → List N → Bool
all_over stage ys = list_all (λ y. is_over (stage y)) ys

-- the stages of the nodes of a tree go together
pub record Sound {N R : Type 0} (tree : Tree N) (stage : N → Stage R) : Type 0 where
  pub fit : (x y : N) → is_child tree x y ≡ true → fits (stage x) (stage y) ≡ true
  -- who passes on has sent the final exactly where the finals of all children were handled
  pub row : (x : N) → tree.passes x ≡ true → (replies : List R) (done : Bool) → stage x ≡ Here replies done → done ≡ all_over stage (tree.children x)
  -- no node outside the tree is reached
  pub inside : (x : N) → is_not_yet (stage x) ≡ false → (x ≡ tree.root) ⊎ (is_child tree (tree.parent x) x ≡ true)

-- ---- what may happen

-- a node's stage changes, and those of its children
abbrev pub moved : {N R : Type 0} → Tree N → (N → Stage R) → N → Stage R → (N → Stage R) → N → Stage R
moved tree stage x new below z = cond (tree.same x z) new (cond (is_child tree x z) (below z) (stage z))

-- one node's stage changes
abbrev pub with_one : {N R : Type 0} → Tree N → (N → Stage R) → N → Stage R → N → Stage R
with_one tree stage y new z = cond (tree.same y z) new (stage z)

abbrev pub is_empty : {N : Type 0} → List N → Bool
is_empty [] = true
is_empty (y ∷ ys) = false

-- a request goes nowhere from a node that would pass it on and has nobody below
abbrev pub goes_nowhere : {N : Type 0} → Tree N → N → Bool
goes_nowhere tree x = tree.passes x && is_empty (tree.children x)

-- the request is on its way to the node, or the client that asks has not asked yet
abbrev pub MayBegin : {N R : Type 0} → Tree N → (N → Stage R) → N → Type 0
MayBegin tree stage x = (stage x ≡ OnTheWay) ⊎ ((x ≡ tree.root) × (stage x ≡ NotYet))

-- what may happen to the query
pub data Move {N R : Type 0} (tree : Tree N) (stage : N → Stage R) : Type 0 where
  -- the client asks, or the request comes to a node, and goes on to its children; where it goes nowhere the final goes back at once
  Begin : (x : N) → MayBegin tree stage x → Move tree stage
  -- a client that is asked replies
  Say : (x : N) (reply : R) (replies : List R) → tree.passes x ≡ false → stage x ≡ Here replies false → Move tree stage
  -- a client that is asked ends
  End : (x : N) (replies : List R) → tree.passes x ≡ false → stage x ≡ Here replies false → Move tree stage
  -- x handles the first reply that waits from its child y, and passes it on
  Pass : (x y : N) (reply : R) (replies : List R) (done : Bool) → is_child tree x y ≡ true → stage y ≡ Here (reply ∷ replies) done → Move tree stage
  -- x handles the final of its child y, and passes it on where it was the last, behind what is released then
  Close : (x y : N) (released : List R) → is_child tree x y ≡ true → stage y ≡ Here [] true → Move tree stage

-- the reply that a node passes on when it handles one: none where it gathers
abbrev pub passed_on : {N R : Type 0} → Tree N → N → R → List R
passed_on tree x reply = cond (tree.gathers x) [] (reply ∷ [])

-- all children of a node are over, once one is
abbrev pub closes : {N R : Type 0} → Tree N → (N → Stage R) → N → N → Bool
closes tree stage x y = all_over (with_one tree stage y Over) (tree.children x)

abbrev pub after : {N R : Type 0} → (tree : Tree N) → (stage : N → Stage R) → Move tree stage → N → Stage R
after tree stage (Begin x may) = moved tree stage x (Here [] (goes_nowhere tree x)) (λ y. OnTheWay)
after tree stage (Say x reply replies asked here) = moved tree stage x (Here (replies ++ reply ∷ []) false) stage
after tree stage (End x replies asked here) = moved tree stage x (Here replies true) stage
after tree stage (Pass x y reply replies done child here) =
    moved tree stage x (Here (replies_at (stage x) ++ passed_on tree x reply) false) (with_one tree stage y (Here replies done))
after tree stage (Close x y released child here) = moved tree stage x (Here (replies_at (stage x) ++ released) (closes tree stage x y)) (with_one tree stage y Over)

-- ---- what comes back

-- all that the parent of each node has taken from it, with one move more
abbrev pub heard_after : {N R : Type 0} → (tree : Tree N) → (stage : N → Stage R) → Move tree stage → (N → List R) → N → List R
heard_after tree stage (Begin x may) heard z = heard z
heard_after tree stage (Say x reply replies asked here) heard z = heard z
heard_after tree stage (End x replies asked here) heard z = heard z
heard_after tree stage (Pass x y reply replies done child here) heard z = cond (tree.same y z) (heard z ++ reply ∷ []) (heard z)
heard_after tree stage (Close x y released child here) heard z = heard z

-- all that a node that gathers has handled, in the order in which it came, with one move more
abbrev pub got_after : {N R : Type 0} → (tree : Tree N) → (stage : N → Stage R) → Move tree stage → List R → List R
got_after tree stage (Begin x may) got = got
got_after tree stage (Say x reply replies asked here) got = got
got_after tree stage (End x replies asked here) got = got
got_after tree stage (Pass x y reply replies done child here) got = cond (tree.gathers x) (got ++ reply ∷ []) got
got_after tree stage (Close x y released child here) got = got

-- all that each node has sent up: what its parent has taken, and what waits
abbrev pub sent_up : {N R : Type 0} → (N → Stage R) → (N → List R) → N → List R
sent_up stage heard z = heard z ++ replies_at (stage z)

-- one client that is asked, the replier: the nodes from the root to it, the next one behind each, and which replies are its own
pub record Way (N R : Type 0) : Type 0 where
  pub replier : N
  pub on : N → Bool
  pub next : N → N
  pub is_own : R → Bool

pub record IsWay {N R : Type 0} (tree : Tree N) (way : Way N R) : Type 0 where
  pub starts : way.on tree.root ≡ true
  pub ends : way.on way.replier ≡ true
  pub apart : (x y : N) → is_child tree x y ≡ true → way.on x ≡ false → way.on y ≡ false
  pub goes : (x : N) → way.on x ≡ true → tree.same x way.replier ≡ false → is_child tree x (way.next x) ≡ true
  pub stays : (x : N) → way.on x ≡ true → tree.same x way.replier ≡ false → way.on (way.next x) ≡ true
  pub only : (x y : N) → is_child tree x y ≡ true → way.on y ≡ true → way.next x ≡ y
  pub leaf : tree.passes way.replier ≡ false

-- at most one node gathers, and if one does, it passes on and is on the way
pub record GathersOnce {N R : Type 0} (tree : Tree N) (way : Way N R) : Type 0 where
  pub one : (x y : N) → tree.gathers x ≡ true → tree.gathers y ≡ true → x ≡ y
  pub passes : (x : N) → tree.gathers x ≡ true → tree.passes x ≡ true
  pub on : (x : N) → tree.gathers x ≡ true → way.on x ≡ true

-- the replies that the replier has said stand along its way
pub record Brings {N R : Type 0} (tree : Tree N) (way : Way N R) (stage : N → Stage R) (heard : N → List R) (got said : List R) : Type 0 where
  -- they are on its way alone
  pub off : (z : N) → way.on z ≡ false → filter way.is_own (sent_up stage heard z) ≡ []
  -- what a node on its way has sent up is what it has taken from the next one
  pub along : (x : N) → way.on x ≡ true → tree.same x way.replier ≡ false → tree.gathers x ≡ false →
      filter way.is_own (sent_up stage heard x) ≡ filter way.is_own (heard (way.next x))
  -- and so is what a node that gathers has handled
  pub gathered : (x : N) → way.on x ≡ true → tree.same x way.replier ≡ false → tree.gathers x ≡ true → filter way.is_own got ≡ filter way.is_own (heard (way.next x))
  -- what the replier has sent up is what it has said
  pub own : filter way.is_own (sent_up stage heard way.replier) ≡ said

-- what the replier has said, with one move more
abbrev pub said_after : {N R : Type 0} → (tree : Tree N) → (stage : N → Stage R) → Move tree stage → (R → Bool) → List R → List R
said_after tree stage (Begin x may) is_own said = said
said_after tree stage (Say x reply replies asked here) is_own said = said ++ filter is_own (reply ∷ [])
said_after tree stage (End x replies asked here) is_own said = said
said_after tree stage (Pass x y reply replies done child here) is_own said = said
said_after tree stage (Close x y released child here) is_own said = said

-- What a node that gathers releases: replies that show the best of all that it has handled. What is shown of replies is a C.
pub record Release (R C : Type 0) : Type 0 where
  pub shown : List R → C
  pub best : List R → C

abbrev pub Releases : {R C : Type 0} → Release R C → List R → List R → Type 0
Releases release got released = release.shown released ≡ release.best got

-- so it is where a node that gathers has its last final; nothing is released anywhere else
abbrev pub ReleasesIf : {R C : Type 0} → Bool → Release R C → List R → List R → Type 0
ReleasesIf true release got released = Releases release got released
ReleasesIf false release got released = released ≡ []

-- a reply is one of the replier's own exactly where it is the replier that says it, and what is released is what is to be
abbrev pub Agrees : {N R C : Type 0} → Release R C → (tree : Tree N) → (stage : N → Stage R) → Move tree stage → Way N R → List R → Type 0
Agrees release tree stage (Begin x may) way got = Unit {0}
Agrees release tree stage (Say x reply replies asked here) way got = way.is_own reply ≡ tree.same x way.replier
Agrees release tree stage (End x replies asked here) way got = Unit {0}
Agrees release tree stage (Pass x y reply replies done child here) way got = Unit {0}
Agrees release tree stage (Close x y released child here) way got = ReleasesIf (tree.gathers x && closes tree stage x y) release got released

-- ---- where it ends

-- nothing of the query waits on the link from the parent
abbrev pub is_at_rest : {R : Type 0} → Stage R → Bool
is_at_rest NotYet = true
is_at_rest OnTheWay = false
is_at_rest (Here [] done) = not done
is_at_rest (Here (reply ∷ replies) done) = false
is_at_rest Over = true

-- a client that is asked doesn't keep the request: it has ended it, or was not sent it yet
abbrev pub has_ended : {R : Type 0} → Stage R → Bool
has_ended NotYet = true
has_ended OnTheWay = true
has_ended (Here replies done) = done
has_ended Over = true

-- nothing of the query is under way
abbrev pub IsQuiet : {N R : Type 0} → Tree N → (N → Stage R) → Type 0
IsQuiet {N = N} tree stage = (x y : N) → is_child tree x y ≡ true → is_at_rest (stage y) ≡ true

-- all clients that were asked have ended
abbrev pub IsFinished : {N R : Type 0} → Tree N → (N → Stage R) → Type 0
IsFinished {N = N} tree stage = (x y : N) → is_child tree x y ≡ true → tree.passes y ≡ false → has_ended (stage y) ≡ true
