-- The live interests of some clients in an index.
use Rattle.std.specs.Prelude.{◌≡◌, List, IfSome}
use Rattle.std.specs.List.{AllByRecursion}
use Rattle.zr_index.specs.Meeting.{held}
use Rattle.zr_index.specs.Pairs.{AreSame}
use Rattle.zr_local.specs.declared.interest.ClientInterests.{ClientInterests}
use Rattle.zr_told_interested.specs.Keys.{AreKeyed, keyed, keyless}
use Rattle.zr_told_interested.specs.declared.by_key.ByKey.{ByKey}
use Rattle.zr_told_interested.specs.declared.interested.Interested.{Interested}

-- all of them are there, and no others
pub record IsByKey (cs : List ClientInterests) (b : ByKey) : Type 0 where
  pub keys : AllByRecursion (λ c. AreKeyed c.interests) cs
  pub keyed : AreSame (held b.keyed) (keyed cs)
  pub keyless : b.keyless.items ≡ keyless cs

-- if there is an index, it is of these clients
abbrev pub IsOf : List ClientInterests → Interested → Type 0
IsOf cs i = IfSome i.by_key (λ b. IsByKey cs b)
