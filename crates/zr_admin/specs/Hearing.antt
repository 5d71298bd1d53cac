-- What a parcel brings to an inner client. Frame numbers aren't looked at: a ring loses nothing and keeps the order.
use Rattle.std.specs.Prelude.{ℕ, Bool, true, false, List, [], ◌++◌, Ok, Err}
use Rattle.zr_bytes.specs.Reading.{Read}
use Rattle.zr_trans.specs.declared.trans.Trans.{Trans}
use Rattle.zr_trans.specs.declared.trans.Trans.TheVariants.{Init, Open, Close, KeepAlive, Frame, Fragment}
use Rattle.zr_trans.specs.Reading.{trans_of}

-- whether it is a fragment that more follow, the bytes of the messages that are whole with it, and what came of one that isn't
pub record HeardState : Type 0 where
  pub part : Bool
  pub whole : List ℕ
  pub kept : List ℕ

-- messages one behind another
abbrev pub in_whole : List ℕ → List ℕ → HeardState
in_whole whole kept = record { part = false; whole = whole; kept = kept }

-- a frame has whole messages, and a fragment a part of one: the last one makes it whole. Anything else brings nothing
abbrev pub heard_of : List ℕ → Read Trans → HeardState
heard_of kept (Ok (Frame reliable n, rest)) = in_whole rest []
heard_of kept (Ok (Fragment reliable true n piece, rest)) = record { part = true; whole = []; kept = kept ++ piece }
heard_of kept (Ok (Fragment reliable false n piece, rest)) = in_whole (kept ++ piece) []
heard_of kept (Ok (Init _ _ _ _ _ _ _, rest)) = in_whole [] kept
heard_of kept (Ok (Open _ _ _ _ _, rest)) = in_whole [] kept
heard_of kept (Ok (Close _ _, rest)) = in_whole [] kept
heard_of kept (Ok (KeepAlive, rest)) = in_whole [] kept
heard_of kept (Err e) = in_whole [] kept

abbrev pub heard : List ℕ → List ℕ → HeardState
heard kept parcel = heard_of kept (trans_of parcel)
