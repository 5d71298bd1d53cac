-- What clients give out and are sent.
use Rattle.std.specs.Prelude.{ℕ}
use Rattle.zr_msg.specs.declared.content.Parts.{Parts}
use Rattle.zr_msg.specs.declared.msg.Target.{Target}

-- what goes to all clients that are to have it: a sample, or a query, which is sent to each client that it asks as a request
pub data Carried : Type 0 where
  Sample : (content : Parts) → Carried
  Query : (target : Target) (content : Parts) → Carried

-- a sample or a query: the number of the line that publishes or asks it, and all that the line said: the key, the body, and what stands beside
-- them, and of a query which queryables it asks. The number under which a client is sent a request is not said: it is free.
pub record Item : Type 0 where
  pub line : ℕ
  pub carried : Carried

-- a reply: the number of the line that gives it, the number of the query under which its client is sent it, and all that was replied
pub record Reply : Type 0 where
  pub line : ℕ
  pub number : ℕ
  pub content : Parts
