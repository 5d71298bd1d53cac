-- What a round does with each share.
use Rattle.std.specs.Prelude.{◌≡◌, List, [], ◌∷◌}
use Rattle.zr_world_gang.specs.declared.share.Turn.{Turn}
use Rattle.zr_world_gang.specs.declared.share.Turn.TheVariants as turn
use Rattle.zr_world_gang.specs.Shares.{ShareState, HasHandled, told, with_input}

-- its input is handled in order and is empty then, or its lines are told
abbrev pub HasDone : Turn → ShareState → ShareState → Type 0
HasDone turn.Handle s t = HasHandled (with_input s []) s.input t
HasDone turn.Tell s t = t ≡ told s

-- so is each share, and they stand in the same order
abbrev pub AllHaveDone : Turn → List ShareState → List ShareState → Type 0
AllHaveDone turn [] [] = Unit {0}
AllHaveDone turn [] (t ∷ ts) = ⊥
AllHaveDone turn (s ∷ ss) [] = ⊥
AllHaveDone turn (s ∷ ss) (t ∷ ts) = HasDone turn s t × AllHaveDone turn ss ts
