-- What one channel of a session makes of frames and fragments.
use Rattle.std.specs.Prelude.{◌≡◌, ℕ, ◌==◌, Bool, true, false, not, List, [], ◌++◌, length, Option, Some, None, Result, Ok, Err, nat_lt, if◌then◌else◌}
use Rattle.zr_frame.specs.declared.channel.Channel.{Channel}
use Rattle.zr_frame.specs.declared.channel.ChannelError.{ChannelError}
use Rattle.zr_frame.specs.declared.channel.ChannelError.TheVariants.{OutOfTurn, TooLong, NoMemory}
use Rattle.zr_frame.specs.Turn.{Turn, modulus_of, accepts, after}

-- a channel that nothing came on
abbrev pub fresh : ℕ → ℕ → Channel
fresh bits first = record { numbers = record { modulus = modulus_of bits; next = first }; assembly = None }

-- what came of a message that is unfinished
abbrev pub so_far : Option (List ℕ) → List ℕ
so_far None = []
so_far (Some bytes) = bytes

-- A fragment goes on with an unfinished message exactly with the next number; else it begins one, with any that is accepted.
abbrev pub in_turn : Turn → Option (List ℕ) → ℕ → Bool
in_turn t None n = accepts t n
in_turn t (Some bytes) n = t.next == n

-- the channel behind a number that came
abbrev pub behind : Channel → ℕ → Option (List ℕ) → Channel
behind c n assembly = record { numbers = after c.numbers n; assembly = assembly }

-- A FRAME discards a message that is unfinished.
abbrev pub frame : Channel → ℕ → Result (Unit {0} × Channel) ChannelError
frame c n = if accepts c.numbers n then Ok (tt, behind c n None) else Err OutOfTurn

-- the message, where no more fragments follow, and the channel
abbrev pub joined : Channel → ℕ → Bool → List ℕ → Option (List ℕ) × Channel
joined c n true bytes = (None, behind c n (Some bytes))
joined c n false bytes = (Some bytes, behind c n None)

-- A FRAGMENT: its number is judged first, then the length of what came, of which there may be so many bytes.
abbrev pub fragment : ℕ → Channel → Bool → ℕ → List ℕ → Result (Option (List ℕ) × Channel) ChannelError
fragment most c more n piece =
    if not (in_turn c.numbers c.assembly n) then Err OutOfTurn
    else (if nat_lt most (length (so_far c.assembly ++ piece)) then Err TooLong
    else Ok (joined c n more (so_far c.assembly ++ piece)))

-- A refusal is the one that is said, unless memory ran out.
abbrev pub IsRefusedBy : {X : Type 0} → ChannelError → Result X ChannelError → Type 0
IsRefusedBy OutOfTurn said = said ≡ Err OutOfTurn
IsRefusedBy TooLong said = said ≡ Err TooLong
IsRefusedBy NoMemory said = Unit {0}

-- A call gave what is said, with what stands behind it. A refusal changes nothing.
abbrev pub Receives : {X S : Type 0} → Result X ChannelError → Result (X × S) ChannelError → S → S → Type 0
Receives (Ok x) said old new = said ≡ Ok (x, new)
Receives (Err e) said old new = IsRefusedBy e said × (new ≡ old)
