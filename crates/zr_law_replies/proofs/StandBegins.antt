-- What is so at an accepted mark, before a query of its phase is asked: all links of its tree are whole, and nothing was said to it (`kids_whole`).
use Rattle.std.proofs.Common.{◌≡◌, ℕ, ◌&&◌, ◌||◌, Bool, true, false, List, Option, Some, None, inl, inr, refl, sym, ap, ◌∙◌}
use Rattle.std.specs.Prelude.{not, is_some}
use Rattle.std.specs.Option.{option_map_or}
use Rattle.std.proofs.lemmas.Bool.{false≢true, and_parts, or_left, or_right}
use Rattle.zr_world_spec.specs.World.{EndState, End, ClientState, WorldState, router_of, client_of, end_of, is_up, is_unbroken, is_met, is_calm_end}
use Rattle.zr_world_spec.specs.Moments.{Numbered, Moment}
use Rattle.zr_world_spec.proofs.Keyed.{found_entry}
use Rattle.zr_world_spec.proofs.Ends.{end_order, same_end}
use Rattle.zr_guarantee.specs.Queries.{Asked}
use Rattle.zr_law_queries.specs.Query.{is_child}
use Rattle.zr_law_samples.proofs.Start.{Marked, ready}
use Rattle.zr_law_numbers.specs.Waiting.{is_whole}
use Rattle.zr_law_replies.specs.Trees.{home_of, tree_at}
use Rattle.zr_law_replies.proofs.Trees.{child_cases, link_up}

module _ (before : List Numbered) (mark : ℕ) (now : Moment) (m : Marked before mark now) where
  abbrev w : WorldState
  w = now.world

  -- an end that is up is that of an unbroken link
  pub unbroken_up : (e : End) → is_up w.ends e ≡ true → is_unbroken w.ends e ≡ true
  unbroken_up e up = by (end_of w.ends e) refl up
    where
      by : (o : Option EndState) → end_of w.ends e ≡ o → option_map_or (λ z. z.up) o false ≡ true → option_map_or (λ z. z.unbroken) o false ≡ true
      by None k u = u
      by (Some z) k u = at z.up u (and_parts (is_met w e z) (is_calm_end z) (found_entry end_order same_end (λ x. is_met w x.0 x.1 && is_calm_end x.1) w.ends e z m.settled k)).0
        where
          at : (b : Bool) → b ≡ true → (not b || (z.unbroken && (not (is_some (router_of w.routers e.1)) || is_up w.ends (e.1, e.0)))) ≡ true → z.unbroken ≡ true
          at true t met = (and_parts z.unbroken (not (is_some (router_of w.routers e.1)) || is_up w.ends (e.1, e.0)) met).0
          at false t met = absurd (false≢true t)

  -- the links of a query's tree are whole, where its client's is up
  pub kids_whole : (q : Asked) (s : ClientState) → client_of w.clients q.client ≡ Some s → is_up w.ends (home_of w q.client, q.client) ≡ true → (x y : List ℕ) → is_child (tree_at w q) x y ≡ true →
      is_whole w x y ≡ true
  kids_whole q s e up x y kid = elim (child_cases before w (ready before mark now m) q s e x y kid) [
    | inl i ↦ or_right (is_unbroken w.ends (x, y)) (is_unbroken w.ends (y, x))
        (ap (λ z. is_unbroken w.ends (z, x)) i.1 ∙ ap (λ z. is_unbroken w.ends (home_of w q.client, z)) (sym i.0) ∙ unbroken_up (home_of w q.client, q.client) up)
    | inr p ↦ or_left (is_unbroken w.ends (x, y)) (is_unbroken w.ends (y, x)) (unbroken_up (x, y) (link_up before w (ready before mark now m) q s e x y p))
  ]
