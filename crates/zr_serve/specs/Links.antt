-- What the links of a router begin with, as it is kept.
use Rattle.std.specs.Prelude.{ℕ, List}
use Rattle.rand_core.specs.Stream.{Stream}
use Rattle.zr_access.specs.Rules.{PolicyState}
use Rattle.zr_serve.specs.Jobs.{LinksState}
use Rattle.zr_serve.specs.declared.links.Links.{Links}

-- by the stream of its generator, and under the identifier and the rules of the router
abbrev pub links_of : {W : Type 0} → (W → Stream) → List ℕ → PolicyState → Links W → LinksState
links_of stream me policy l = record { me = me; policy = policy; log = l.log; secret = l.secret; words = stream l.words; count = l.count }
