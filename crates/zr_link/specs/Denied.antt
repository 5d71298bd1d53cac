-- The line that a log is told of a message that the rules deny.
use Rattle.std.specs.Prelude.{◌≡◌, ℕ, ◌==◌, nat_lt, if◌then◌else◌, List, [], ◌++◌, length, take, codes, Option, Some, None}
use Rattle.std.specs.Fmt.{decimal}
use Rattle.zr_access.specs.declared.policy.Act.{Act}
use Rattle.zr_access.specs.declared.policy.Act.TheVariants.{Sub, Able, Token, Interest, Put, Del, Get, Reply}
use Rattle.zr_access.specs.Rules.{PolicyState}
use Rattle.zr_access.specs.Messages.{Deed, deed_of, peer_denial}
use Rattle.zr_caret.specs.Shown.{shown}
use Rattle.zr_msg.specs.declared.msg.Msg.{Msg}
use Rattle.zr_msg.specs.Peer.{PeerState}
use Rattle.zr_link.specs.Log.{peer_text}

-- the word by which rules name an act
abbrev pub act_text : Act → List ℕ
act_text Sub = codes "sub"
act_text Able = codes "able"
act_text Token = codes "token"
act_text Interest = codes "interest"
act_text Put = codes "put"
act_text Del = codes "del"
act_text Get = codes "get"
act_text Reply = codes "reply"

-- how many bytes of a key are shown at most
abbrev pub most_key : ℕ
most_key = 200

-- what stands behind a key: that it was longer, where it was
abbrev pub close_text : List ℕ → List ℕ
close_text key = if nat_lt most_key (length key) then codes "\".." else codes "\""

-- a key in quotes: its first bytes, where it is long
abbrev pub key_text : Option (List ℕ) → List ℕ
key_text None = []
key_text (Some key) = codes " \"" ++ (shown (take most_key key) ++ close_text key)

-- an act, and its key
abbrev pub deed_text : Option Deed → List ℕ
deed_text None = []
deed_text (Some deed) = act_text deed.act ++ key_text deed.key

-- how many denials before were left out, if any were
abbrev pub left_text : ℕ → List ℕ
left_text count = if count == 0 then [] else codes "; left out before it: " ++ decimal count

-- whose message it was, what it asked for, the line of the rule that denies it, and how many before it were left out
abbrev pub denied_line : PeerState → Option Deed → ℕ → ℕ → List ℕ
denied_line peer deed rule left_out =
    codes "denied, " ++ (peer_text peer ++ (codes ": " ++ (deed_text deed ++ (codes ", rule " ++ (decimal rule ++ (left_text left_out ++ codes "\n"))))))

-- a line tells of a message that the rules deny to this peer
pub record IsDenial (policy : PolicyState) (peer : PeerState) (line : List ℕ) : Type 0 where
  pub msg : Msg
  pub rule : ℕ
  pub left_out : ℕ
  pub denied : peer_denial policy peer msg ≡ Some rule
  pub is : line ≡ denied_line peer (deed_of msg) rule left_out
