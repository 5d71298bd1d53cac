-- What is held of replies, said without the order in which they came: of each key the latest one.
use Rattle.std.specs.Prelude.{◌≡◌, ℕ, false, List, map}
use Rattle.std.specs.Cmp.Lexicographic.{slice_cmp}
use Rattle.std.specs.Ordering.{nat_cmp}
use Rattle.zr_lists.specs.Ascending.{IsAscending}
use Rattle.zr_lists.proofs.Finds.{In}
use Rattle.zr_body.specs.Latest.{is_later}
use Rattle.zr_msg.specs.declared.content.Parts.{Parts}
use Rattle.zr_pend_spec.specs.Held.{gathered}

-- The best of some replies: by ascending keys, one for each key that stands among them, than which none of that key is later.
pub record IsBest (replies best : List Parts) : Type 0 where
  pub ascending : IsAscending (slice_cmp nat_cmp) (λ c. c.key) best
  pub among : (c : Parts) → In c best → In c replies
  pub each : (c : Parts) → In c replies → (b : Parts) × In b best × (b.key ≡ c.key) × (is_later c.body b.body ≡ false)

-- what is told of a reply
abbrev pub key_body : Parts → List ℕ × List ℕ
key_body c = (c.key, c.body)

-- each of the first is among the second, by its key and body
abbrev pub AreSaid : List Parts → List Parts → Type 0
AreSaid xs ys = (c : Parts) → In c xs → (d : Parts) × In d ys × (c.key ≡ d.key) × (c.body ≡ d.body)

pub record SaySame (xs ys : List Parts) : Type 0 where
  pub forth : AreSaid xs ys
  pub back : AreSaid ys xs

-- What is held is the best of what came, and two best of replies that say the same say the same. So what is held is free of the order in which
-- replies came, and of how often they came.
pub record GatheredIsBest : Type 0 where
  pub best : (replies : List Parts) → IsBest replies (gathered replies)
  pub one : (xs ys b c : List Parts) → IsBest xs b → IsBest ys c → SaySame xs ys → map key_body b ≡ map key_body c
  pub free : (xs ys : List Parts) → SaySame xs ys → map key_body (gathered xs) ≡ map key_body (gathered ys)
