-- The requests among messages that stand one behind another, as a router writes them for a client: with whole keys, and without a tree.
use Rattle.std.specs.Prelude.{Bool, true, false, ℕ, zero, suc, List, [], ◌∷◌, ◌++◌, length, Ok, Err}
use Rattle.zr_bytes.specs.Reading.{Read}
use Rattle.zr_bytes.specs.declared.read_error.ReadError.{ReadError}
use Rattle.zr_bytes.specs.declared.read_error.ReadError.TheVariants as read
use Rattle.zr_decl.specs.declared.declared.Declared.{Declared}
use Rattle.zr_decl.specs.declared.declared.Declared.TheVariants.{Told, Number, Unnumber, Ignored}
use Rattle.zr_msg.specs.declared.msg.Msg.{Msg}
use Rattle.zr_msg.specs.declared.msg.Msg.TheVariants.{Sub, Unsub, Able, Unable, Interest, EndInterest, ToldSub, ToldAble, ToldUnsub, ToldUnable, Token, Untoken, ToldToken, ToldUntoken, ToldEnd, Push, Request, Response, Final, State, Step, Snap}
use Rattle.zr_msg.specs.declared.peer.Role.TheVariants.{Client}
use Rattle.zr_net.specs.Reading.{net_of}
use Rattle.zr_admin.specs.declared.asked.Asked.{Asked}

abbrev pub is_no_memory : ReadError → Bool
is_no_memory read.NoMemory = true
is_no_memory read.Short = false
is_no_memory read.TooBig = false
is_no_memory read.UnknownId = false
is_no_memory read.Mandatory = false
is_no_memory read.BadText = false
is_no_memory read.BadKey = false
is_no_memory read.UnknownScope = false
is_no_memory read.Extra = false

-- a message that is a request
abbrev pub asked_by : Msg → List Asked
asked_by (Request tree id target content) = record { id = id; content = content } ∷ []
asked_by (Sub _ _) = []
asked_by (Unsub _) = []
asked_by (Able _ _ _) = []
asked_by (Unable _) = []
asked_by (Interest _ _ _ _ _ _) = []
asked_by (EndInterest _) = []
asked_by (ToldSub _ _ _) = []
asked_by (ToldAble _ _ _ _) = []
asked_by (ToldUnsub _) = []
asked_by (ToldUnable _) = []
asked_by (Token _ _) = []
asked_by (Untoken _) = []
asked_by (ToldToken _ _ _) = []
asked_by (ToldUntoken _) = []
asked_by (ToldEnd _) = []
asked_by (Push _ _) = []
asked_by (Response _ _) = []
asked_by (Final _ _) = []
asked_by (State _) = []
asked_by (Step _ _ _ _) = []
asked_by (Snap _ _ _) = []

abbrev pub asked_in : Declared → List Asked
asked_in (Told m) = asked_by m
asked_in (Number n text) = []
asked_in (Unnumber n) = []
asked_in Ignored = []

-- the first message, and then those behind it; what is no message ends them
abbrev pub then_asked : Read Declared → (List ℕ → List Asked) → List Asked
then_asked (Ok (d, rest)) more = asked_in d ++ more rest
then_asked (Err e) more = []

-- so many messages at most: each takes a byte at least
unfoldable pub asked_within : ℕ → List ℕ → List Asked
asked_within zero bytes = []
asked_within (suc most) bytes = then_asked (net_of Client [] [] bytes) (λ rest. asked_within most rest)

abbrev pub asked : List ℕ → List Asked
asked bytes = asked_within (length bytes) bytes
