-- The two channels of a session.
use Rattle.std.specs.Prelude.{Bool, true, false, Result, Ok, Err}
use Rattle.zr_frame.specs.declared.channel.Channel.{Channel}
use Rattle.zr_frame.specs.declared.channel.ChannelError.{ChannelError}
use Rattle.zr_frame.specs.declared.channels.Channels.{Channels}

abbrev pub one_of : Channels → Bool → Channel
one_of s true = s.reliable
one_of s false = s.best_effort

abbrev pub with_one : Channels → Bool → Channel → Channels
with_one s true c = record { reliable = c; best_effort = s.best_effort }
with_one s false c = record { reliable = s.reliable; best_effort = c }

-- What one channel made of it, with the other as it was.
abbrev pub on_one : {X : Type 0} → Channels → Bool → Result (X × Channel) ChannelError → Result (X × Channels) ChannelError
on_one s reliable (Ok x) = Ok (x.0, with_one s reliable x.1)
on_one s reliable (Err e) = Err e
