-- Which numbers are in use on each link.
use Rattle.std.specs.Prelude.{◌≡◌, List}
use Rattle.zr_pend_spec.specs.declared.branch.Asker.{Asker}
use Rattle.zr_pend_spec.specs.declared.branch.Branch.{Branch}
use Rattle.zr_pend_spec.specs.Row.{RowState}
use Rattle.zr_pend_spec.specs.Pending.{asked, is_pending}
use Rattle.zr_pend_numbers.specs.Numbers.{Uses, is_used}

-- on each link just the numbers that are pending are in use
abbrev pub ArePending : Uses → List RowState → Type 0
ArePending uses rows = (b : Branch) → is_used uses b ≡ is_pending b rows

-- the number that an asker gave, on its link; and the asker of such a number
abbrev pub as_branch : Asker → Branch
as_branch asker = record { link = asker.link; number = asker.number }

abbrev pub as_asker : Branch → Asker
as_asker b = record { link = b.link; number = b.number }

-- on each link just the numbers under which it has asked are in use
abbrev pub AreAsked : Uses → List RowState → Type 0
AreAsked uses rows = (b : Branch) → is_used uses b ≡ asked (as_asker b) rows
