-- What clients are told is of no query: requests and answers under way are as they were (`asks_told`, `answers_told`), and links that led to those of a world
-- lead to those of the same world where clients were told (`links_then`).
use Rattle.std.proofs.Common.{◌≡◌, List, ℕ, sym, ap}
use Rattle.zr_world_spec.specs.World.{WorldState}
use Rattle.zr_law_settled.proofs.Told.{IsTold, told_unbroken}
use Rattle.zr_law_queries.specs.Link.{Link}
use Rattle.zr_law_numbers.specs.Waiting.{Asked, Place, Said, asks, answers, link_of}
use Rattle.zr_law_numbers.specs.Deeds.{Deed}
use Rattle.zr_law_numbers.proofs.Doing.{moved}
use Rattle.zr_law_numbers.proofs.ToldLinks.{link_told}
use Rattle.zr_law_numbers.proofs.Whole.{LinksGo, whole_same}

module _ (u v : WorldState) (t : IsTold u v) where
  pub asks_told : (a b : List ℕ) → asks v a b ≡ asks u a b
  asks_told a b = sym (ap (λ (l : Link Asked Place Said). l.asks) (link_told u v t a b))

  pub answers_told : (a b : List ℕ) → answers v a b ≡ answers u a b
  answers_told a b = sym (ap (λ (l : Link Asked Place Said). l.answers) (link_told u v t a b))

  pub links_then : (above below : List ℕ → List ℕ → Deed → Type 0) (w : WorldState) → LinksGo above below w u → LinksGo above below w v
  links_then above below w links x y whole =
      let go = links x y (whole_same u v (told_unbroken u v t) x y whole) in
      (go.0, moved (above x y) (below x y) (link_of w x y) (link_of u x y) (link_of v x y) go.1 (link_told u v t x y))
