-- What is kept of an end while a carrier has the messages on its wire: the kind of each in their place.
use Rattle.std.specs.Prelude.{ℕ, ◌+◌, ◌-◌, ◌^◌, ◌&&◌, not, min, Bool, true, false, List, [], ◌∷◌, ◌++◌, map, drop, length}
use Rattle.std.specs.List.{list_all, sum_by}
use Rattle.zr_msg.specs.declared.msg.Msg.{Msg}
use Rattle.zr_world_spec.specs.World.{Tagged, EndState, End, Ends, unsettles, is_calm, is_empty}
use Rattle.zr_world_spec.specs.Fan.{is_sample, sample_bytes}
use Rattle.zr_world_ends.specs.declared.kind.WireKind.{WireKind}

-- the largest number of 64 bits
abbrev pub most_number : ℕ
most_number = 2 ^ 64 - 1

abbrev pub kind_of : Msg → WireKind
kind_of msg = record { calm = not (unsettles msg); sample = is_sample msg; bytes = min (sample_bytes msg) most_number }

-- an end, with the kinds of the messages on its wire in their order
pub record KeptEnd : Type 0 where
  pub up : Bool
  pub unbroken : Bool
  pub queue : List Tagged
  pub kinds : List WireKind
  pub weight : ℕ

abbrev pub KeptEnds : Type 0
KeptEnds = List (End × KeptEnd)

-- ---- what is kept of an end

abbrev pub kinds_of : List Tagged → List WireKind
kinds_of wire = map (λ m. kind_of m.msg) wire

abbrev pub kept : EndState → KeptEnd
kept s = record { up = s.up; unbroken = s.unbroken; queue = s.queue; kinds = kinds_of s.wire; weight = s.weight }

abbrev pub kept_ends : Ends → KeptEnds
kept_ends es = map (λ e. (e.0, kept e.1)) es

-- ---- changes

abbrev pub with_kinds : KeptEnd → List WireKind → KeptEnd
with_kinds k kinds = record { up = k.up; unbroken = k.unbroken; queue = k.queue; kinds = kinds; weight = k.weight }

abbrev pub with_queue : KeptEnd → List Tagged → KeptEnd
with_queue k queue = record { up = k.up; unbroken = k.unbroken; queue = queue; kinds = k.kinds; weight = k.weight }

abbrev pub queued : KeptEnd → Msg → ℕ → KeptEnd
queued k msg tag = with_queue k (k.queue ++ record { msg = msg; tag = tag } ∷ [])

-- a message has come onto the wire, has left it, or all are lost
abbrev pub announced : KeptEnd → WireKind → KeptEnd
announced k kind = with_kinds k (k.kinds ++ kind ∷ [])

abbrev pub passed : KeptEnd → KeptEnd
passed k = with_kinds k (drop 1 k.kinds)

abbrev pub lost : KeptEnd → KeptEnd
lost k = with_kinds k []

abbrev pub lifted : KeptEnd → KeptEnd
lifted k = record { up = true; unbroken = k.unbroken; queue = k.queue; kinds = k.kinds; weight = k.weight }

abbrev pub lowered : KeptEnd → KeptEnd
lowered k = record { up = false; unbroken = k.unbroken; queue = []; kinds = k.kinds; weight = k.weight }

abbrev pub broken : KeptEnd → KeptEnd
broken k = record { up = k.up; unbroken = false; queue = k.queue; kinds = []; weight = k.weight }

abbrev pub bare : KeptEnd → KeptEnd
bare k = record { up = k.up; unbroken = k.unbroken; queue = []; kinds = []; weight = k.weight }

abbrev pub emptied : KeptEnds → KeptEnds
emptied ks = map (λ e. (e.0, bare e.1)) ks

-- the end of a new link
abbrev pub new_end : ℕ → KeptEnd
new_end weight = record { up = false; unbroken = true; queue = []; kinds = []; weight = weight }

-- ---- tests

abbrev pub no_kinds : List WireKind → Bool
no_kinds [] = true
no_kinds (k ∷ ks) = false

abbrev pub can_handle : KeptEnd → Bool
can_handle k = k.up && not (no_kinds k.kinds)

abbrev pub can_take : KeptEnd → Bool
can_take k = k.up && k.unbroken && not (is_empty k.queue)

abbrev pub is_idle : KeptEnd → Bool
is_idle k = no_kinds k.kinds && is_empty k.queue

abbrev pub is_calm_end : KeptEnd → Bool
is_calm_end k = list_all (λ x. x.calm) k.kinds && list_all is_calm k.queue

abbrev pub has_samples : KeptEnd → Bool
has_samples k = list_all (λ x. x.sample) k.kinds && list_all (λ m. is_sample m.msg) k.queue

-- how many messages wait
abbrev pub waiting_count : KeptEnd → ℕ
waiting_count k = length k.kinds + length k.queue

abbrev pub waiting_bytes : KeptEnd → ℕ
waiting_bytes k = sum_by (λ x. x.bytes) k.kinds + sum_by (λ m. sample_bytes m.msg) k.queue
