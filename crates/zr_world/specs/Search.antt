-- A search for the routers that one of them reaches.
use Rattle.std.specs.Prelude.{◌≡◌, ℕ, true, false, List}
use Rattle.std.specs.Map.{keys_of}
use Rattle.zr_graph.specs.Record.{has}
use Rattle.zr_tree.specs.Tree.{reached}
use Rattle.zr_world_spec.specs.World.{WorldState, is_linked}
use Rattle.zr_world_spec.specs.Joined.{graph}

-- The routers that are missing were not reached so far, and of those that were reached the last have been found just now: the neighbours
-- of the others are among them.
pub record IsSearched (w : WorldState) (root : List ℕ) (found missing : List (List ℕ)) : Type 0 where
  pub within : (y : List ℕ) → has missing y ≡ true → has (keys_of w.routers) y ≡ true
  pub rooted : has missing root ≡ false
  pub fresh : (x : List ℕ) → has found x ≡ true → has (keys_of w.routers) x ≡ true
  pub met : (x : List ℕ) → has found x ≡ true → has missing x ≡ false
  pub are_reached : (y : List ℕ) → has (keys_of w.routers) y ≡ true → has missing y ≡ false → reached (graph w) root y ≡ true
  pub closed : (x y : List ℕ) → has (keys_of w.routers) x ≡ true → has missing x ≡ false → has found x ≡ false → is_linked w.ends x y ≡ true → has missing y ≡ false
