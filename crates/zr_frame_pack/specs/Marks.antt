-- An outbox as it stood before, in its frames and its names.
use Rattle.std.specs.Prelude.{◌≡◌, ℕ, ◌≤◌, ◌++◌, is_some, take, length, option_map, Option, Some, None}
use Rattle.zr_wirekey.specs.Names.{NameList}
use Rattle.zr_frame.specs.Outbox.{OutboxState, with_names}

pub record MarkState : Type 0 where
  pub outbox : OutboxState
  pub count : ℕ

-- the outbox of that moment, of one that has packed since
abbrev pub at_mark : OutboxState → MarkState → OutboxState
at_mark o mark = with_names mark.outbox (option_map (λ names. take mark.count names) o.names)

-- how many texts have numbers, or so many where this end gives none
abbrev pub known : Option NameList → ℕ → ℕ
known None count = count
known (Some names) count = length names

-- an outbox that had stood at the mark: both have names or none, and none of those of that moment is gone
pub record IsMarkOf (names : Option NameList) (mark : MarkState) : Type 0 where
  pub alike : is_some names ≡ is_some mark.outbox.names
  pub kept : mark.count ≤ known names mark.count

-- these names, and more behind them
abbrev pub with_more : Option NameList → NameList → Option NameList
with_more None more = None
with_more (Some names) more = Some (names ++ more)

abbrev pub IsLater : Option NameList → Option NameList → Type 0
IsLater names later = (more : NameList) × (later ≡ with_more names more)
