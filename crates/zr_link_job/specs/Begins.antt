-- What the session of a link is at its begin, by the end of the link that the router is.
use Rattle.std.specs.Prelude.{ℕ, List, []}
use Rattle.zr_open.specs.Opening.{OpeningState}
use Rattle.zr_open.specs.declared.expected.Expected.{Expected}
use Rattle.zr_open.specs.declared.expected.Expected.TheVariants.{Init, InitAnswer}
use Rattle.zr_session.specs.Session.{greeting_bytes}
use Rattle.zr_link_job.specs.declared.job.LinkStart.{LinkStart}
use Rattle.zr_link_job.specs.declared.job.Side.{Side}
use Rattle.zr_link_job.specs.declared.job.Side.TheVariants.{Accepting, Dialling}

abbrev pub opening_of : LinkStart → OpeningState
opening_of start = record { me = start.me; secret = start.secret; number = start.number; word = start.word; weight = start.weight }

-- the message that is expected first: who has dialled begins
abbrev pub expects : Side → Expected
expects Accepting = Init
expects Dialling = InitAnswer

-- what is written before anything is read
abbrev pub greets : Side → OpeningState → List ℕ
greets Accepting o = []
greets Dialling o = greeting_bytes o
