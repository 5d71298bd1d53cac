-- Remembered routes stay right by some tables where the right route of one more tree and key is put among them.
use Rattle.std.proofs.Common.{◌≡◌, ℕ, ◌==◌, ◌&&◌, Bool, true, false, cond, List, Option, Some, IfSome, BTreeMap, sym, ap, refl, subst, ◌∙◌}
use Rattle.std.specs.BTreeMap.{Updates, get, is_at}
use Rattle.std.specs.Ordering.{nat_cmp}
use Rattle.std.specs.Str.{bytes_eq}
use Rattle.std.proofs.lemmas.Bool.{and_parts}
use Rattle.std.proofs.lemmas.Slice.Eq.{bytes_eq-Decides}
use Rattle.zr_id.specs.Zid.{is_named}
use Rattle.zr_graph.proofs.Names.{same_is}
use Rattle.zr_node_spec.specs.Tables.{TableState}
use Rattle.zr_push.specs.Route.{route_of}
use Rattle.zr_push_sought.specs.declared.sought.Sought.{Sought}
use Rattle.zr_push_sought.specs.declared.sought.Sought.TheVariants.{Subscribers, Queryables, Complete}
use Rattle.zr_push_sought.specs.Sought.{sought_number}
use Rattle.zr_push.specs.declared.routes.Remembered.{Remembered}

-- what is sought is told apart by its number
same_sought : (a b : Sought) → (sought_number a == sought_number b) ≡ true → a ≡ b
same_sought Subscribers Subscribers h = refl
same_sought Subscribers Queryables h = cc
same_sought Subscribers Complete h = cc
same_sought Queryables Subscribers h = cc
same_sought Queryables Queryables h = refl
same_sought Queryables Complete h = cc
same_sought Complete Subscribers h = cc
same_sought Complete Queryables h = cc
same_sought Complete Complete h = refl

module _ (t : TableState) where
  abbrev AreRight : BTreeMap ℕ Remembered → Type 0
  AreRight known = (n : ℕ) → IfSome (get nat_cmp known n) (λ r. r.route ≡ route_of t r.tree r.sought r.key)

  pub put_right : (old new : BTreeMap ℕ Remembered) (number : ℕ) (more : Remembered) → Updates nat_cmp old new number (Some more) → AreRight old → more.route ≡ route_of t more.tree more.sought more.key → AreRight new
  put_right old new number more updates right e = λ n. rw (updates.0 n) (by n (is_at (nat_cmp number) n) (right n))
    where
      by : (n : ℕ) (b : Bool) → IfSome (get nat_cmp old n) (λ r. r.route ≡ route_of t r.tree r.sought r.key) → IfSome (cond b (Some more) (get nat_cmp old n)) (λ r. r.route ≡ route_of t r.tree r.sought r.key)
      by n true h = e
      by n false h = h

  -- a route that is found where it is looked for, and is of the tree and the key, is the right one
  pub found_right : (known : BTreeMap ℕ Remembered) (n : ℕ) (found : Remembered) (tree : List ℕ) (sought : Sought) (key : List ℕ) → Some found ≡ get nat_cmp known n
      → (is_named found.tree tree && (sought_number found.sought == sought_number sought && bytes_eq found.key key)) ≡ true → AreRight known → found.route ≡ route_of t tree sought key
  found_right known n found tree sought key at is right =
      let of : found.route ≡ route_of t found.tree found.sought found.key = subst (λ (o : Option Remembered). IfSome o (λ r. r.route ≡ route_of t r.tree r.sought r.key)) (sym at) (right n) in
      let first = and_parts (is_named found.tree tree) (sought_number found.sought == sought_number sought && bytes_eq found.key key) is in
      let both = and_parts (sought_number found.sought == sought_number sought) (bytes_eq found.key key) first.1 in
      of
      ∙ ap (λ (x : List ℕ). route_of t x found.sought found.key) (same_is found.tree tree first.0)
      ∙ ap (λ (s : Sought). route_of t tree s found.key) (same_sought found.sought sought both.0)
      ∙ ap (λ (k : List ℕ). route_of t tree sought k) ((bytes_eq-Decides found.key key).0 both.1)
