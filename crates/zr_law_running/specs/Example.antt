-- A small run: two routers link up and hear of each other, and at one of them a client subscribes and another one publishes.
use Rattle.std.specs.Prelude.{◌≡◌, ℕ, List, [], ◌∷◌, ◌++◌, codes, Option, Some, None}
use Rattle.zr_msg.specs.declared.content.Parts.{Parts}
use Rattle.zr_msg.specs.declared.event.Event.TheVariants.{Up, From}
use Rattle.zr_msg.specs.declared.msg.Msg.{Msg}
use Rattle.zr_msg.specs.declared.msg.Msg.TheVariants.{Sub, Unsub, Push}
use Rattle.zr_msg.specs.declared.peer.Role.{Role}
use Rattle.zr_msg.specs.declared.peer.Role.TheVariants as role
use Rattle.zr_msg.specs.Extras.{no_extras}
use Rattle.zr_law_running.specs.Runs.{Heard, part, outcome_of}
use Rattle.zr_law_running.specs.Allowed.{AreRouters, IsRun}
use Rattle.zr_law_running.specs.Laws.{AreHeardIn}

abbrev pub one : List ℕ
one = 1 ∷ []

abbrev pub two : List ℕ
two = 2 ∷ []

abbrev pub publisher : List ℕ
publisher = 3 ∷ []

abbrev pub subscriber : List ℕ
subscriber = 4 ∷ []

-- a link of this number comes up
abbrev pub up : List ℕ → ℕ → List ℕ → Role → Heard
up router number id role = record { router = router; event = Up (record { 0 = number }) (record { id = id; role = role; weight = 1 }) }

-- a message comes over the link of this number
abbrev pub from : List ℕ → ℕ → Msg → Heard
from router number msg = record { router = router; event = From (record { 0 = number }) msg }

-- the oldest message that waits
abbrev pub oldest : List Msg → Msg
oldest [] = Unsub 0
oldest (m ∷ msgs) = m

abbrev pub sample : Parts
sample = record { key = codes "k"; extras = no_extras; body = [] }

-- the link comes up at both ends
abbrev pub linked : List Heard
linked = up one 0 two role.Router ∷ up two 0 one role.Router ∷ []

-- the first router hears of the first message that the second one has queued for it
abbrev pub met : List Heard
met = linked ++ from one 0 (oldest ((outcome_of linked).links (two, one)).waits) ∷ []

-- two clients come to the second router, and one of them subscribes
abbrev pub subscribed : List Heard
subscribed = met ++ up two 1 publisher role.Client ∷ up two 2 subscriber role.Client ∷ from two 2 (Sub 0 (codes "k")) ∷ []

-- what the other one publishes is for it, whatever tree it names
abbrev pub published : Option (List ℕ) → List Heard
published tree = subscribed ++ from two 1 (Push tree sample) ∷ []

abbrev pub example : List Heard
example = published None

abbrev pub ids : List (List ℕ)
ids = one ∷ two ∷ []

-- It is a run, and the sample was queued for the subscriber. The routers' events are this run also where the publisher has named a tree.
abbrev pub ExampleIsARun : Type 0
ExampleIsARun = AreRouters ids × IsRun ids example × ((outcome_of example).sent subscriber ≡ Push None sample ∷ []) × AreHeardIn ids (part (published (Some one))) example
