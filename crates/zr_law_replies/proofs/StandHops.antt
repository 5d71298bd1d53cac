-- The hops of a moment, with requests that were taken told by their lines alone.
use Rattle.std.proofs.Common.{◌≡◌, ℕ, List, refl, ◌∙◌}
use Rattle.zr_world_spec.specs.World.{WorldState}
use Rattle.zr_world_spec.specs.Moments.{Numbered, Moment}
use Rattle.zr_guarantee.specs.Queries.{Asked}
use Rattle.zr_law_queries.specs.Link.{Free, Asked as AskedHop, Open}
use Rattle.zr_law_numbers.specs.Waiting.{link_of}
use Rattle.zr_law_replies.specs.Answers.{HopState, line_of}
use Rattle.zr_law_replies.proofs.Every.{Holds, hop, pending_line, answers_hold}
use Rattle.zr_law_replies.proofs.ShownHops.{plain, plain_shows}
use Rattle.zr_law_replies.proofs.StandSteps.{Hops}
use Rattle.zr_law_replies.proofs.StandStep.{request_of, PlainHops}

module _ (w : WorldState) (q : Asked) where
  -- their lines stay
  pub line_plain : (y : List ℕ) (h : HopState) → line_of (plain (request_of w q y) h) ≡ line_of h
  line_plain y Free = refl
  line_plain y (AskedHop r by) = refl
  line_plain y (Open r by rs done) = refl

  plain_twice : (y : List ℕ) (h : HopState) → plain (request_of w q y) (plain (request_of w q y) h) ≡ plain (request_of w q y) h
  plain_twice y Free = refl
  plain_twice y (AskedHop r by) = refl
  plain_twice y (Open r by rs done) = refl

  module _ (acts : List Numbered) (m : Moment) (h : Holds acts m) where
    abbrev pub plain_hop : Hops
    plain_hop x y n = plain (request_of w q y) (hop acts m h x y n)

    pub plain_hops : PlainHops w q m.world h.lines plain_hop
    plain_hops = record {
      shows = λ x y whole n. plain_shows (request_of w q y) (link_of m.world x y) n (hop acts m h x y n) ((answers_hold acts m h).numbers.links x y whole n);
      line = λ x y n by whole back. line_plain y (hop acts m h x y n) ∙ pending_line acts m h x y n whole by back;
      taken = λ x y n. plain_twice y (hop acts m h x y n);
    }
