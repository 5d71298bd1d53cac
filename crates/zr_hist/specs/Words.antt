-- What a contract sees of a history, of what stands for its list under a lock, and of its passes.
use Rattle.std.specs.Prelude.{◌≡◌, ℕ, ◌^◌, ◌-◌, List}
use Rattle.atomic_table.specs.declared.shared.Seat.{Seat}
use Rattle.atomic_table.specs.declared.badge.Badge.{Badge}
use Rattle.atomic_table.specs.Seated.{TableId}
use Rattle.zr_hist.specs.declared.rule.View.{View}
use Rattle.zr_hist.specs.declared.history.History.{History}
use Rattle.zr_hist.specs.declared.kept.Kept.{Kept}
use Rattle.zr_hist.specs.declared.pass.Pass.{Pass}
use Rattle.zr_hist.specs.Rule.{first_view}

-- the most entries that a history has
abbrev pub most_entries : ℕ
most_entries = 2 ^ 64 - 1

module _ {E : Type 0} where
  -- which history it is, which one a `Kept` stands for, and which one a pass is of
  abbrev pub name : History E → TableId
  name h = h.table.shared.table_id

  abbrev pub kept_name : Kept E → TableId
  kept_name k = k.badge.table_id

  abbrev pub pass_name : Pass E → TableId
  pass_name p = p.seat.table_id

  abbrev pub IsKeptOf : History E → Kept E → Type 0
  IsKeptOf h k = kept_name k ≡ name h

  abbrev pub IsPassOf : History E → Pass E → Type 0
  IsPassOf h p = pass_name p ≡ name h

  -- the list of entries
  abbrev pub list_of : Kept E → List E
  list_of k = (first_view k.badge.views).list

  -- what a pass has seen, a prefix of the list
  abbrev pub seen : Pass E → List E
  seen p = p.seat.me.0.seen

  -- the entries that a pass appended, in order
  abbrev pub mine : Pass E → List E
  mine p = p.seat.me.0.mine

  -- how often a pass looked at the list: each `append`, `look` and `look_beside` is once
  abbrev pub looks : Pass E → ℕ
  looks p = p.seat.me.0.looks

  abbrev pub number : Pass E → ℕ
  number p = p.seat.id

  -- it is still the same `Kept`, or the same pass, of the same history
  abbrev pub IsSameKept : Kept E → Kept E → Type 0
  IsSameKept old new = kept_name new ≡ kept_name old

  abbrev pub IsSamePass : Pass E → Pass E → Type 0
  IsSamePass old new = (pass_name new ≡ pass_name old) × (number new ≡ number old)

  abbrev pub IsBadgeOf : History E → Badge (View E) → Type 0
  IsBadgeOf h b = b.table_id ≡ name h

  abbrev pub IsSeatOf : History E → Seat E (View E) → Type 0
  IsSeatOf h s = s.table_id ≡ name h

  abbrev pub IsSameSeat : Seat E (View E) → Seat E (View E) → Type 0
  IsSameSeat old new = (new.table_id ≡ old.table_id) × (new.id ≡ old.id)
