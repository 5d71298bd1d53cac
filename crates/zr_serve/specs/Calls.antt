-- The calls of a host that is served: it listens, dials, and accepts.
use Rattle.std.specs.Prelude.{◌≡◌, ℕ, Bool, true, false, List, [], ◌∷◌, ◌++◌, map, Option, Some, None}
use Rattle.zr_outside.specs.declared.host.Answer.{Answer}
use Rattle.zr_outside.specs.declared.host.Answer.TheVariants as answer
use Rattle.zr_outside.specs.declared.host.Call.{Call}
use Rattle.zr_outside.specs.declared.host.Call.TheVariants.{Listen, Dial, Accept}
use Rattle.zr_link_job.specs.declared.job.Side.TheVariants.{Accepting, Dialling}
use Rattle.zr_dial.specs.Dial.{DialState}
use Rattle.zr_serve.specs.Jobs.{NewLink}

-- a call that was made, and what the link that it gives weighs if the peer is a router
pub record Made : Type 0 where
  pub call : Call
  pub weight : ℕ

-- to listen gives no link
abbrev pub listen_call : List ℕ → Bool → Made
listen_call address is_listening = record { call = Listen address is_listening; weight = 1 }

-- a link that is dialled has the weight of its dial
abbrev pub dial_call : DialState → Bool → Made
dial_call d is_link = record { call = Dial d.address is_link; weight = d.weight }

-- a link that is accepted has weight 1
abbrev pub accept_call : Answer → Made
accept_call answer = record { call = Accept answer; weight = 1 }

abbrev pub calls_of : List Made → List Call
calls_of made = map (λ m. m.call) made

-- these calls were made, where the host tells them. A host may stop to tell them, and then tells none any more
abbrev pub Records : List Made → Option (List Call) → Option (List Call) → Type 0
Records made None None = Unit {0}
Records made None (Some after) = ⊥
Records made (Some calls) None = Unit {0}
Records made (Some calls) (Some after) = after ≡ calls ++ calls_of made

-- the link that a call gave, if it gave one
abbrev pub link_of : ℕ → Call → List NewLink
link_of weight (Listen address is_listening) = []
link_of weight (Dial address true) = record { side = Dialling; weight = weight } ∷ []
link_of weight (Dial address false) = []
link_of weight (Accept answer.Link) = record { side = Accepting; weight = weight } ∷ []
link_of weight (Accept answer.Quiet) = []
link_of weight (Accept answer.End) = []
link_of weight (Accept answer.Failed) = []

-- the links that some calls gave, in order
abbrev pub new_links : List Made → List NewLink
new_links [] = []
new_links (m ∷ made) = link_of m.weight m.call ++ new_links made

-- some addresses are dialled in order, with what each dial gave
abbrev pub dials : List DialState → List Bool → List Made
dials [] [] = []
dials [] (is_link ∷ gave) = []
dials (d ∷ ds) [] = []
dials (d ∷ ds) (is_link ∷ gave) = dial_call d is_link ∷ dials ds gave

abbrev pub accepts : List Answer → List Made
accepts answers = map (λ a. accept_call a) answers

-- accepting goes on behind that answer
abbrev pub IsGoing : Answer → Type 0
IsGoing answer.Link = Unit {0}
IsGoing answer.Quiet = Unit {0}
IsGoing answer.End = ⊥
IsGoing answer.Failed = ⊥

-- Each address was dialled once, in order, and then these accepts were answered
abbrev pub dials_and_accepts : List DialState → List Bool → List Answer → List Made
dials_and_accepts ds gave answers = dials ds gave ++ accepts answers
