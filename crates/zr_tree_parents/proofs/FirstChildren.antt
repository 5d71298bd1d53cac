-- The children of a router, one neighbour after the other, beside a list that may be theirs.
use Rattle.std.proofs.Common.{◌≡◌, ℕ, ◌+◌, ◌<◌, ◌≤◌, Bool, true, false, cond, List, [], ◌∷◌, ◌++◌, length, get_or, map, take, sym, ap, ◌∙◌, arith}
use Rattle.std.specs.List.{filter}
use Rattle.std.proofs.lemmas.List.{append-nil, map_push, take_more}
use Rattle.std.proofs.lemmas.List.Elements.{filter_more}
use Rattle.zr_tree_parents.specs.declared.row.Neighbour.{Neighbour}
use Rattle.zr_tree_parents.specs.Children.{is_child_index, children_by}

-- the children so far are the first ones of the list
pub record AreFirst (list names : List (List ℕ)) (parents : List ℕ) (x : ℕ) (neighbours : List Neighbour) (count : ℕ) : Type 0 where
  pub within : count ≤ length list
  pub same : children_by names parents x neighbours ≡ take count list

module _ (list names : List (List ℕ)) (parents : List ℕ) (x : ℕ) (neighbours : List Neighbour) (k count : ℕ) (lt : k < length neighbours)
    (h : AreFirst list names parents x (take k neighbours) count) where
  abbrev name_of : ℕ → List ℕ
  name_of y = get_or names y []

  abbrev edge : Neighbour
  edge = get_or neighbours k (record { index = 0; weight = 0 })

  abbrev child : ℕ
  child = edge.index

  abbrev passes : Neighbour → Bool
  passes n = is_child_index parents x n.index

  pub one_more : is_child_index parents x child ≡ true → count < length list → get_or list count [] ≡ name_of child → AreFirst list names parents x (take (k + 1) neighbours) (count + 1)
  one_more t inside e = record {
    within = omega arith;
    same =
        ap (map (λ n. name_of n.index)) (filter_more passes neighbours k (record { index = 0; weight = 0 }) lt ∙ ap (λ b. filter passes (take k neighbours) ++ cond b (edge ∷ []) []) t)
        ∙ map_push (λ n. name_of n.index) (filter passes (take k neighbours)) edge
        ∙ ap (λ ys. ys ++ name_of child ∷ []) h.same ∙ ap (λ z. take count list ++ z ∷ []) (sym e) ∙ sym (take_more list count [] inside);
  }

  pub no_more : is_child_index parents x child ≡ false → AreFirst list names parents x (take (k + 1) neighbours) count
  no_more t = record {
    within = h.within;
    same =
        ap (map (λ n. name_of n.index)) (filter_more passes neighbours k (record { index = 0; weight = 0 }) lt ∙ ap (λ b. filter passes (take k neighbours) ++ cond b (edge ∷ []) []) t ∙ append-nil _)
        ∙ h.same;
  }
