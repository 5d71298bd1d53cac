-- Parts of the shares of a round, and what the workers give of them.
use Rattle.std.specs.Prelude.{◌≡◌, true, List, [], Result, Ok, Err, is_ok, IfOk, Vec}
use Rattle.std.specs.declared.alloc.Global.{Global}
use Rattle.std.specs.declared.alloc.AllocError.{AllocError}
use Rattle.std.specs.List.{flat_map, AllByRecursion}
use Rattle.zr_world_gang.specs.declared.share.Turn.{Turn}
use Rattle.zr_world_gang.specs.Shares.{ShareState}
use Rattle.zr_world_gang.specs.Turns.{AllHaveDone}
use Rattle.zr_fan.specs.declared.threaded.Part.{Part}

-- all shares of some parts, in order
abbrev pub all_of : List Part → List ShareState
all_of ps = flat_map (λ p. p.shares.items) ps

-- what one worker gives
abbrev pub given : Result (Vec ShareState Global) AllocError → List ShareState
given (Ok v) = v.items
given (Err e) = []

-- what all have given, in order
abbrev pub gathered : List (Result (Vec ShareState Global) AllocError) → List ShareState
gathered rs = flat_map given rs

-- none was out of memory
abbrev pub AreDone : List (Result (Vec ShareState Global) AllocError) → Type 0
AreDone rs = AllByRecursion (λ r. is_ok r ≡ true) rs

-- a worker that wasn't out of memory gives the shares of its part, each of which has done its turn
abbrev pub HasGiven : Turn → Part → Result (Vec ShareState Global) AllocError → Type 0
HasGiven turn p r = IfOk r (λ v. AllHaveDone turn p.shares.items v.items)
