-- What a stream of bytes comes to: its batches, and in each the transport messages and the network messages of frames.
use Rattle.std.specs.Prelude.{◌≡◌, ℕ, zero, suc, ◌<◌, Bool, true, false, ◌&&◌, List, [], ◌∷◌, length, Ok, Err, if◌then◌else◌}
use Rattle.zr_bytes.specs.Reading.{Read}
use Rattle.zr_frame_batch.specs.Framing.{Are, lacks}
use Rattle.zr_trans.specs.declared.trans.Trans.{Trans}
use Rattle.zr_trans.specs.declared.trans.Trans.TheVariants.{Init, Open, Close, KeepAlive, Frame, Fragment}
use Rattle.zr_trans.specs.Reading.{trans_of}
use Rattle.zr_open.specs.declared.error.Reason.TheVariants.{Invalid}
use Rattle.zr_open.specs.Opening.{OpeningState}
use Rattle.zr_session.specs.declared.carried.Carried.{Carried}
use Rattle.zr_session.specs.declared.phase.Phase.{Phase}
use Rattle.zr_session.specs.declared.phase.Phase.TheVariants.{Opening, Established}
use Rattle.zr_session.specs.declared.phase.Established as session
use Rattle.zr_session.specs.declared.fate.End.TheVariants.{Closed}
use Rattle.zr_session.specs.Course.{Course, going, stops, and_then}
use Rattle.zr_session.specs.Carried.{begins_network, carried_of}
use Rattle.zr_session.specs.Step.{on_carried, on_trans}

-- One message of a batch: what it comes to, whether a frame is open behind it, and the bytes behind it.
pub record Item : Type 0 where
  pub course : Course
  pub in_frame : Bool
  pub rest : List ℕ

-- Bytes that spell no message end the session.
abbrev pub fault : Phase → Item
fault p = record { course = stops p (Closed Invalid); in_frame = false; rest = [] }

abbrev pub opens_frame : Trans → Bool
opens_frame (Init _ _ _ _ _ _ _) = false
opens_frame (Open _ _ _ _ _) = false
opens_frame (Close _ _) = false
opens_frame KeepAlive = false
opens_frame (Frame _ _) = true
opens_frame (Fragment _ _ _ _) = false

-- a transport message
abbrev pub trans_item : OpeningState → Phase → Read Trans → Item
trans_item o p (Ok (t, rest)) = record { course = on_trans o p t; in_frame = opens_frame t; rest = rest }
trans_item o p (Err e) = fault p

-- a network message of the frame
abbrev pub carried_item : session.Established → Read Carried → Item
carried_item s (Ok (m, rest)) = record { course = on_carried s m; in_frame = true; rest = rest }
carried_item s (Err e) = fault (Established s)

-- no frame stands in an opening
abbrev pub network_item : Phase → List ℕ → Item
network_item (Opening expected) bytes = fault (Opening expected)
network_item (Established s) bytes = carried_item s (carried_of s.role s.keys bytes)

-- the message at the front, where a frame is open or not
abbrev pub item_of : OpeningState → Phase → Bool → List ℕ → Item
item_of o p in_frame bytes = if in_frame && begins_network bytes then network_item p bytes else trans_item o p (trans_of bytes)

-- what follows a message
abbrev pub behind : Item → (Bool → List ℕ → Phase → Course) → Course
behind item more = and_then item.course (λ p. more item.in_frame item.rest p)

-- So many messages at most, up to the end of the batch. Each takes a byte at least.
unfoldable pub items_within : ℕ → OpeningState → Bool → List ℕ → Phase → Course
items_within most o in_frame [] p = going p
items_within zero o in_frame (b ∷ bytes) p = stops p (Closed Invalid)
items_within (suc most) o in_frame (b ∷ bytes) p =
    behind (item_of o p in_frame (b ∷ bytes)) (λ f rest q. items_within most o f rest q)

-- a batch
abbrev pub on_batch : OpeningState → Phase → List ℕ → Course
on_batch o p batch = items_within (length batch) o false batch p

-- batches one behind another
unfoldable pub on_batches : OpeningState → Phase → List (List ℕ) → Course
on_batches o p [] = going p
on_batches o p (batch ∷ batches) = and_then (on_batch o p batch) (λ q. on_batches o q batches)

-- The bytes are batches, each behind its length, and what is left of them, which is less than one. They come to what the
-- batches come to.
pub record Comes (o : OpeningState) (p : Phase) (bytes : List ℕ) (c : Course) (rest : List ℕ) : Type 0 where
  pub batches : List (List ℕ)
  pub are : Are bytes batches rest
  pub partial : 0 < lacks rest
  pub course : on_batches o p batches ≡ c
