-- What one end brings to an opening: its identifier, the secret of its cookies, the link's number, a random word, and what
-- the link weighs if the peer is a router.
use Rattle.std.specs.Prelude.{ℕ, List}

pub record OpeningState : Type 0 where
  pub me : List ℕ
  pub secret : List ℕ
  pub number : ℕ
  pub word : ℕ
  pub weight : ℕ
