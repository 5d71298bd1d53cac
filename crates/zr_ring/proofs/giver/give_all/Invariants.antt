use Rattle.std.proofs.Common.{◌≡◌, ◌+◌, ◌++◌, length, true}
use Rattle.std.specs.List.{AllByRecursion}
use Rattle.std.specs.Vec.Iter.{into_iter_items, into_iter_len}
use Rattle.zr_ring.specs.Ends.{given, known_taken, giver_loads, giver_name, IsSameGivingEnd}
use Rattle.zr_ring.specs.Items.{GoOnFrom, ones}
use Rattle.zr_ring.proofs.giver.give_all.Given as goal

abbrev pub invariant-loop-parcel : goal.invariant-loop-parcel
invariant-loop-parcel g l = (l.ring.going ≡ true) × AllByRecursion (λ p. g.N.Note.fits (giver_name l.fn.ring) p.note) (into_iter_items l.rest) × GoOnFrom (length (given l.ring)) (into_iter_items l.rest) × (given l.ring ++ ones (into_iter_items l.rest) ≡ given l.fn.ring ++ ones l.fn.parcels.items)
    × (into_iter_len l.rest ≡ length (into_iter_items l.rest)) × (length (given l.ring) + length (into_iter_items l.rest) ≡ length (given l.fn.ring) + length l.fn.parcels.items)
    × IsSameGivingEnd l.fn.ring l.ring × (known_taken l.ring ≡ known_taken l.fn.ring) × (giver_loads l.ring ≡ giver_loads l.fn.ring)

abbrev pub decreases-loop-parcel : goal.decreases-loop-parcel
decreases-loop-parcel g l = into_iter_len l.rest
