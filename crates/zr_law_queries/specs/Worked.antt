-- A query worked out: two routers, and at each a client that is asked.
use Rattle.std.specs.Prelude.{◌≡◌, ℕ, ◌==◌, Bool, true, false, List, [], ◌∷◌}
use Rattle.zr_law_queries.specs.Query.{Tree, IsTree, IsDesk, Stage, Here, Way, IsWay, Release, replies_at}
use Rattle.zr_law_queries.specs.Courses.{Course, way_of}

-- the client that asks, its router, another router, and a client that is asked at each
pub data Node : Type 0 where
  Asker : Node
  Home : Node
  Away : Node
  Near : Node
  Far : Node

abbrev pub is_same : Node → Node → Bool
is_same Asker Asker = true
is_same Home Home = true
is_same Away Away = true
is_same Near Near = true
is_same Far Far = true
is_same x y = false

abbrev pub below : Node → List Node
below Asker = Home ∷ []
below Home = Near ∷ Away ∷ []
below Away = Far ∷ []
below Near = []
below Far = []

abbrev pub above : Node → Node
above Asker = Asker
above Home = Asker
above Away = Home
above Near = Home
above Far = Away

abbrev pub goes_on : Node → Bool
goes_on Asker = true
goes_on Home = true
goes_on Away = true
goes_on Near = false
goes_on Far = false

abbrev pub level : Node → ℕ
level Asker = 3
level Home = 2
level Away = 1
level Near = 0
level Far = 0

abbrev pub tree : Tree Node
tree = record { same = is_same; root = Asker; children = below; parent = above; passes = goes_on; height = level; gathers = λ x. false }

-- the way to the farther client, whose reply is 40
abbrev pub way : Way Node ℕ
way = way_of tree (Home ∷ Away ∷ Far ∷ []) Far (λ reply. reply == 40)

-- the same where the router of the client that asks gathers, and releases all that it has got, as it came
abbrev pub gathering : Tree Node
gathering = record { same = is_same; root = Asker; children = below; parent = above; passes = goes_on; height = level; gathers = is_same Home }

abbrev pub as_got : Release ℕ (List ℕ)
as_got = record { shown = λ replies. replies; best = λ replies. replies }

-- They are a tree and a way, and some moves lead to where the client that asks was sent both replies and the final.
pub record QueryIsWorked : Type 0 where
  pub is_tree : IsTree tree
  pub is_way : IsWay tree way
  pub stage : Node → Stage ℕ
  pub heard : Node → List ℕ
  pub course : Course as_got tree way stage heard [] (40 ∷ [])
  pub sent : stage Asker ≡ Here (30 ∷ 40 ∷ []) true
  pub is_gathering : IsTree gathering
  pub is_desk : IsDesk gathering Home
  -- while the farther client has not ended nothing was sent
  pub held : Node → Stage ℕ
  pub held_heard : Node → List ℕ
  pub held_got : List ℕ
  pub held_course : Course as_got gathering way held held_heard held_got (40 ∷ [])
  pub nothing : (replies_at (held Asker) ≡ []) × (replies_at (held Home) ≡ [])
  -- and in the end both replies
  pub later : Node → Stage ℕ
  pub later_heard : Node → List ℕ
  pub later_got : List ℕ
  pub later_course : Course as_got gathering way later later_heard later_got (40 ∷ [])
  pub later_sent : later Asker ≡ Here (30 ∷ 40 ∷ []) true
