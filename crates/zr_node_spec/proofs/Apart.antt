-- The links that a test keeps differ, where a router's links are in order of their numbers.
use Rattle.std.proofs.Common.{◌≡◌, ℕ, ◌==◌, Bool, true, false, cond, List, [], ◌∷◌, Some, None, refl}
use Rattle.std.specs.Prelude.{map, filter}
use Rattle.std.specs.List.{list_any}
use Rattle.zr_msg.specs.declared.peer.LinkPeer.{LinkPeer}
use Rattle.zr_pend_spec.specs.Pending.{differ}
use Rattle.zr_node_spec.specs.Tables.{AreNumbered, link_at}
use Rattle.zr_node_spec.proofs.Links.{none_behind, ascending_behind}

-- what no link has isn't among those that a test keeps
pub none_kept : (test : LinkPeer → Bool) (n : ℕ) (links : List LinkPeer) → link_at links n ≡ None → list_any (λ k. k.0 == n) (map (λ l. l.link) (filter test links)) ≡ false
none_kept test n [] h = refl
none_kept test n (l ∷ links) h = by (test l) (l.link.0 == n) refl (none_kept test n links) h
  where
    by : (t b : Bool) → (l.link.0 == n) ≡ b → (link_at links n ≡ None → list_any (λ k. k.0 == n) (map (λ k. k.link) (filter test links)) ≡ false)
        → cond b (Some l) (link_at links n) ≡ None → list_any (λ k. k.0 == n) (map (λ k. k.link) (cond t (l ∷ filter test links) (filter test links))) ≡ false
    by t true e ih k = cc
    by true false e ih k = rw e (ih k)
    by false false e ih k = ih k

-- so the links that a test keeps differ
pub kept_differ : (test : LinkPeer → Bool) (links : List LinkPeer) → AreNumbered links → differ (map (λ l. l.link) (filter test links)) ≡ true
kept_differ test [] up = refl
kept_differ test (l ∷ links) up = by (test l) (kept_differ test links (ascending_behind l links up))
  where
    by : (t : Bool) → differ (map (λ k. k.link) (filter test links)) ≡ true → differ (map (λ k. k.link) (cond t (l ∷ filter test links) (filter test links))) ≡ true
    by true ih = rw (none_kept test l.link.0 links (none_behind l links up)) ih
    by false ih = ih
