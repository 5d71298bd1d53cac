-- The clients whose interests fit places where declarations changed.
use Rattle.std.specs.Prelude.{ℕ, List, Option, Some, None, if◌then◌else◌}
use Rattle.std.specs.Ordering.{nat_cmp}
use Rattle.zr_lists.specs.Ascending.{at_key}
use Rattle.zr_local.specs.Clients.{client_link}
use Rattle.zr_local.specs.declared.interest.ClientInterests.{ClientInterests}
use Rattle.zr_told_spec.specs.Rows.{is_touched}
use Rattle.zr_told_spec.specs.declared.place.Place.{Place}

-- a client, if it has an interest that fits one of these places
abbrev pub if_touched : List Place → Option ClientInterests → Option ClientInterests
if_touched qs None = None
if_touched qs (Some c) = if is_touched qs c.interests then Some c else None

-- the client of a link, if it has one
abbrev pub touched_on : List Place → List ClientInterests → ℕ → Option ClientInterests
touched_on qs cs link = if_touched qs (at_key nat_cmp client_link cs link)
