-- The jobs of a crew that serves: what the reader of each link begins with.
use Rattle.std.specs.Prelude.{ℕ, ◌+◌, ◌-◌, ◌^◌, ◌%◌, Bool, List, [], ◌∷◌, ◌++◌}
use Rattle.std.specs.Int.{to_le_bytes, w64}
use Rattle.rand_core.specs.Stream.{Stream, next_u64}
use Rattle.zr_access.specs.Rules.{PolicyState}
use Rattle.zr_link_job.specs.declared.job.LinkStart.{LinkStart}
use Rattle.zr_link_job.specs.declared.job.ServeJob.{ServeJob}
use Rattle.zr_link_job.specs.declared.job.ServeJob.TheVariants.{Link}
use Rattle.zr_link_job.specs.declared.job.Side.{Side}

-- what the links of a router begin with: its identifier, its rules, whether they have logs, the secret of its cookies, the random words that are left, and
-- the next link's number
pub record LinksState : Type 0 where
  pub me : List ℕ
  pub policy : PolicyState
  pub log : Bool
  pub secret : List ℕ
  pub words : Stream
  pub count : ℕ

-- the next random word, and those that are left behind it
abbrev pub word : Stream → ℕ
word s = (next_u64 s).0

abbrev pub rest : Stream → Stream
rest s = (next_u64 s).1

abbrev pub word_bytes : Stream → List ℕ
word_bytes s = to_le_bytes w64 (word s)

-- the secret is the first four words, each with its lowest byte first
abbrev pub secret_of : Stream → List ℕ
secret_of s = ((word_bytes s ++ word_bytes (rest s)) ++ word_bytes (rest (rest s))) ++ word_bytes (rest (rest (rest s)))

-- before the first link
abbrev pub first_links : List ℕ → PolicyState → Bool → Stream → LinksState
first_links me policy log s = record { me = me; policy = policy; log = log; secret = secret_of s; words = rest (rest (rest (rest s))); count = 0 }

-- a word was drawn for another use than a link's
abbrev pub drawn : LinksState → LinksState
drawn l = record l { words = rest l.words }

-- a link that came: which end of it is the router's, and what it weighs if the peer is a router
pub record NewLink : Type 0 where
  pub side : Side
  pub weight : ℕ

-- how the next link begins, which takes one random word
abbrev pub next_start : LinksState → NewLink → LinkStart
next_start l link =
    record { side = link.side; number = l.count; me = l.me; secret = l.secret; word = word l.words; weight = link.weight; turns = 2 ^ 64 - 1; log = l.log }

-- its job, which names the rules of the router
abbrev pub next_job : LinksState → NewLink → ServeJob
next_job l link = Link (record { start = next_start l link; policy = l.policy })

abbrev pub with_next : LinksState → LinksState
with_next l = record l { words = rest l.words; count = (l.count + 1) % 2 ^ 64 }

-- the jobs of some links, in the order in which they came, and what is left behind them
abbrev pub jobs_of : LinksState → List NewLink → List ServeJob
jobs_of l [] = []
jobs_of l (link ∷ links) = next_job l link ∷ jobs_of (with_next l) links

abbrev pub behind : LinksState → List NewLink → LinksState
behind l [] = l
behind l (link ∷ links) = behind (with_next l) links
