-- What holds of the numbers of a link whatever happens on it.
use Rattle.std.specs.Prelude.{◌≡◌, ℕ, Bool, true, false, List, [], ◌∷◌, filter, Option, Some}
use Rattle.zr_law_queries.specs.Link.{Ask, Answer, Link, ask, reply, final, has_number, answers_number, Hop, Free, Asked, Open, answers_with, Shows, fresh, Event, link_after, hops_after}

-- any events, since the link came up: what is on it, and what its numbers stand for
pub data Traffic {Q P R : Type 0} : Link Q P R → (ℕ → Hop Q P R) → Type 0 where
  Start : Traffic fresh (λ number. Free)
  Then : (link : Link Q P R) (hops : ℕ → Hop Q P R) → Traffic link hops → (event : Event link) → Traffic (link_after link event) (hops_after link event hops)

-- the oldest request is what its number stands for, the only one under it, and the lower end keeps none under it: no number that is taken is asked for
pub record IsNewAsk {Q P R : Type 0} (link : Link Q P R) (hops : ℕ → Hop Q P R) (number : ℕ) (request : Q) (rest : List (Ask Q)) : Type 0 where
  pub hop : (by : Option P) × (hops number ≡ Asked request by)
  pub alone : filter (has_number number) rest ≡ []
  pub untaken : link.keeps number ≡ false

-- the oldest answer is a reply: it is the first of those under its number, the others and the final stand behind it, and the upper end has the number
-- pending
pub record IsFirstReply {Q P R : Type 0} (link : Link Q P R) (hops : ℕ → Hop Q P R) (number : ℕ) (r : R) (rest : List (Answer R)) : Type 0 where
  pub request : Q
  pub by : Option P
  pub replies : List R
  pub done : Bool
  pub hop : hops number ≡ Open request by (r ∷ replies) done
  pub behind : filter (answers_number number) rest ≡ answers_with number replies done
  pub pending : link.back number ≡ Some by

-- the oldest answer is a final: nothing else is under its number, the lower end keeps the request no more, and the upper end has the number pending
pub record IsLastFinal {Q P R : Type 0} (link : Link Q P R) (hops : ℕ → Hop Q P R) (number : ℕ) (rest : List (Answer R)) : Type 0 where
  pub request : Q
  pub by : Option P
  pub hop : hops number ≡ Open request by [] true
  pub behind : filter (answers_number number) rest ≡ []
  pub unkept : link.keeps number ≡ false
  pub pending : link.back number ≡ Some by

-- ---- laws of any requests Q, any places P and any replies R

-- each event keeps that a link shows its hops, and a fresh link shows that all are free
pub record EventsKeepHops (Q P R : Type 0) : Type 0 where
  pub start : Shows {Q = Q} {P = P} {R = R} fresh (λ number. Free)
  pub events : (link : Link Q P R) (hops : ℕ → Hop Q P R) → Shows link hops → (event : Event link) →
      Shows (link_after link event) (hops_after link event hops)

-- so it is whatever happens on a link
abbrev pub TrafficShowsHops : Type 0 → Type 0 → Type 0 → Type 0
TrafficShowsHops Q P R = (link : Link Q P R) (hops : ℕ → Hop Q P R) → Traffic link hops → Shows link hops

-- what comes next on a link that shows its hops
pub record FrontsAreRight (Q P R : Type 0) : Type 0 where
  pub asks : (link : Link Q P R) (hops : ℕ → Hop Q P R) → Shows link hops → (number : ℕ) (request : Q) (rest : List (Ask Q)) →
      link.asks ≡ ask number request ∷ rest → IsNewAsk link hops number request rest
  pub replies : (link : Link Q P R) (hops : ℕ → Hop Q P R) → Shows link hops → (number : ℕ) (r : R) (rest : List (Answer R)) →
      link.answers ≡ reply number r ∷ rest → IsFirstReply link hops number r rest
  pub finals : (link : Link Q P R) (hops : ℕ → Hop Q P R) → Shows link hops → (number : ℕ) (rest : List (Answer R)) →
      link.answers ≡ final number ∷ rest → IsLastFinal link hops number rest
