-- Marks decide what a client is told, and ids last for it.
use Rattle.std.specs.Prelude.{◌≡◌, Bool, false, List, Option}
use Rattle.zr_msg.specs.declared.decl.Decl.{Decl}
use Rattle.zr_told_spec.specs.Place.{Ascends}
use Rattle.zr_told_spec.specs.Wanted.{is_complete_at, wanted}
use Rattle.zr_told_spec.specs.Told.{ToldMap, gone, kept, fresh}
use Rattle.zr_told.specs.Plan.{AreUpTo, Marks, fit, ids_differ, marked_gone, marked_fresh, AreRight, is_answered, marks_of, marks_at, forgotten}
use Rattle.zr_told_spec.specs.Rows.{IsAsWantedBut, lacks_ids, most_id}
use Rattle.zr_local.specs.declared.interest.Interest.{Interest}
use Rattle.zr_told_spec.specs.declared.place.Place.{Place}

-- marks that are right decide what a client is told, however few they are
abbrev pub MarksDecide : Type 0
MarksDecide = (again : Place → Bool) (ds : List Decl) (is : List Interest) (m : ToldMap) (ms : Marks) → Ascends m → Ascends ms → AreRight again (is_complete_at ds) (wanted ds is) m ms →
    (marked_gone m ms ≡ gone (wanted ds is) m) × (marked_fresh m ms ≡ fresh again (wanted ds is) (kept (wanted ds is) m))

-- the marks on all places that were told or are wanted are right
abbrev pub MarksAreRight : Type 0
MarksAreRight = (m : ToldMap) (ds : List Decl) (is : List Interest) (a : Option Interest) → AreRight (is_answered ds a) (is_complete_at ds) (wanted ds is) m (marks_of m ds is a)

-- what goes is what the told map is without it
abbrev pub ForgottenIsKept : Type 0
ForgottenIsKept = (ds : List Decl) (is : List Interest) (m : ToldMap) → Ascends m → forgotten m (gone (wanted ds is) m) ≡ kept (wanted ds is) m

-- the marks on the places that they touch are right
abbrev pub TouchedIsRight : Type 0
TouchedIsRight = (qs : List Place) (ds : List Decl) (is : List Interest) (m : ToldMap) → IsAsWantedBut qs ds is m → AreRight (λ p. false) (is_complete_at ds) (wanted ds is) m (marks_at ds is qs)

-- where the ids of a told map differ, and are from 1 on and have 32 bits, more is wanted than there are ids just where one that is needed isn't left
abbrev pub IdsLast : Type 0
IdsLast = (again : Place → Bool) (ds : List Decl) (is : List Interest) (m : ToldMap) → Ascends m → ids_differ m → AreUpTo most_id m →
    (lacks_ids ds is ≡ false → fit most_id (kept (wanted ds is) m) (fresh again (wanted ds is) (kept (wanted ds is) m)))
    × (fit most_id (kept (wanted ds is) m) (fresh again (wanted ds is) (kept (wanted ds is) m)) → lacks_ids ds is ≡ false)
