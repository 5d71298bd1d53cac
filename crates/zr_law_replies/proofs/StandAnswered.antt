-- What the standing of a query comes to, for each client that it asks (`answered_by`).
use Rattle.std.proofs.Common.{◌≡◌, ℕ, true, List, false, cond, [], ◌∷◌, refl, ap, ◌∙◌}
use Rattle.zr_world_spec.specs.World.{WorldState, router_of}
use Rattle.zr_world_spec.specs.Moments.{Numbered, Moment}
use Rattle.zr_guarantee.specs.Queries.{Asked, asks, replies}
use Rattle.zr_law_queries.specs.Query.{has_ended, IsFinished, Way, IsWay}
use Rattle.zr_law_queries.specs.Courses.{way_of, IsAnswered, Course, IsGathered}
use Rattle.zr_law_queries.proofs.Courses.{law, gathered_law}
use Rattle.zr_law_queries.proofs.Ways.{chain_way}
use Rattle.zr_law_numbers.specs.Waiting.{Said}
use Rattle.zr_law_replies.specs.Answers.{HopState}
use Rattle.zr_law_replies.specs.Trees.{tree_at, IsTreeOf, has_router, home_of, neighbours_of, links_from, parent_of, named_at}
use Rattle.zr_law_replies.specs.Stands.{said_in, is_said_by, Stands, latest_release}
use Rattle.std.specs.Prelude.{◌&&◌}
use Rattle.std.specs.Option.{option_map_or}
use Rattle.std.proofs.lemmas.Bool.{or_right}
use Rattle.zr_id.specs.Zid.{is_named}
use Rattle.zr_msg.specs.declared.content.Parts.{Parts}
use Rattle.zr_world_spec.proofs.Names.{names}
use Rattle.zr_guarantee.specs.Latest.{asks_latest}

module _ (before : List Numbered) (w : WorldState) (q : Asked) (is : IsTreeOf before w q) (phase acts : List Numbered) (m : Moment) (hop : List ℕ → List ℕ → ℕ → HopState)
    (s : Stands w phase q acts m hop) where
  module _ (d : List ℕ) (asked : asks before q d ≡ true) where
    abbrev way : Way (List ℕ) Said
    way = way_of (tree_at w q) (is.way d asked).0 d (is_said_by phase d)

    is_way : IsWay (tree_at w q) way
    is_way = chain_way (tree_at w q) is.is_tree d (is.way d asked).0 (is_said_by phase d) (is.passes d asked) (is.way d asked).1

    course : (heard : List ℕ → List Said) × Course latest_release (tree_at w q) way s.stage heard s.got (said_in (replies acts m.report q d))
    course = s.course d (is.way d asked).0 (is.passes d asked) (is.way d asked).1

    -- its client is answered by each that it asks
    pub answered_by : asks_latest q ≡ false → IsAnswered (tree_at w q) way s.stage (said_in (replies acts m.report q d))
    answered_by plain = law (List ℕ) Said (List Parts) latest_release (tree_at w q) way is.is_tree (λ x. ap (λ b. b && is_named (home_of w q.client) x) plain) is_way s.stage course.0 s.got
        (said_in (replies acts m.report q d)) course.1

    -- and where it asks for the latest, it is sent what its router gathers
    pub gathered_by : asks_latest q ≡ true → has_router w (home_of w q.client) ≡ true →
        IsGathered latest_release (tree_at w q) (home_of w q.client) way s.stage s.got (said_in (replies acts m.report q d))
    gathered_by latest routes = gathered_law (List ℕ) Said (List Parts) latest_release (tree_at w q) (home_of w q.client) way is.is_tree (record {
      alone = ap (λ b. cond b (home_of w q.client ∷ []) passed) (names.refl q.client);
      one = λ x. ap (λ b. b && is_named (home_of w q.client) x) latest ∙ names.symm (home_of w q.client) x;
      passes = or_right (is_named q.client (home_of w q.client)) (has_router w (home_of w q.client)) routes;
    }) is_way refl s.stage course.0 s.got (said_in (replies acts m.report q d)) course.1
      where
        passed : List (List ℕ)
        passed = option_map_or (λ r. neighbours_of r.node.links (links_from r (parent_of w q.client q.client) (named_at w q.client q.client) q.target q.content.key)) (router_of w.routers q.client) []

  -- all have ended once each has that it asks
  pub finished_by : ((d : List ℕ) → asks before q d ≡ true → has_ended (s.stage d) ≡ true) → IsFinished (tree_at w q) s.stage
  finished_by ended x d kid ends = ended d (is.asked x d kid ends)
