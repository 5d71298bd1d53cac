-- The one spelling of a network message that is written, and which of them have a spelling.
use Rattle.std.specs.Prelude.{◌≡◌, ◌⊎◌, ℕ, ◌<◌, ◌^◌, ◌==◌, Bool, true, false, not, List, [], ◌∷◌, ◌++◌, length, Option, Some, None}
use Rattle.zr_bytes.specs.Flag.{has_flag}
use Rattle.zr_bytes.specs.Number.{writes}
use Rattle.zr_ext.specs.declared.ext.Ext.{Ext}
use Rattle.zr_ext.specs.declared.ext.Content.TheVariants as content
use Rattle.zr_ext.specs.Writing.{writes_chain}
use Rattle.zr_format_spec.specs.Writing.{writes_header}
use Rattle.zr_id.specs.Zid.{is_zid}
use Rattle.zr_wirekey.specs.Scopes.{Texts, text_at}
use Rattle.zr_wirekey.specs.Writing.{writes_key}
use Rattle.zr_body.specs.declared.place.Place.TheVariants as place
use Rattle.zr_body.specs.Body.{IsBodyIn}
use Rattle.zr_msg.specs.declared.content.Parts.{Parts}
use Rattle.zr_msg.specs.declared.extras.Extras.{Extras}
use Rattle.zr_msg.specs.declared.msg.Target.{Target}
use Rattle.zr_msg.specs.declared.msg.Target.TheVariants.{Best, All, Complete}
use Rattle.zr_msg.specs.declared.msg.Msg.{Msg}
use Rattle.zr_msg.specs.declared.msg.Msg.TheVariants.{Sub, Unsub, Token, Untoken, Able, Unable, Interest, EndInterest, ToldSub, ToldAble, ToldUnsub, ToldToken, ToldUntoken, ToldUnable, ToldEnd, Push, Request, Response, Final, State, Step, Snap}
use Rattle.zr_msg.specs.declared.peer.Role.{Role}
use Rattle.zr_msg.specs.declared.peer.Role.TheVariants.{Client, Router}
use Rattle.zr_decl.specs.declared.declared.Declared.{Declared}
use Rattle.zr_decl.specs.declared.declared.Declared.TheVariants.{Told, Number, Unnumber, Ignored}
use Rattle.zr_decl.specs.Writing.{IsId, IsKey}
use Rattle.zr_decl.specs.Writing as decl
use Rattle.zr_net.specs.Exts.{marks_of}

-- ---- extensions

abbrev pub number_ext : ℕ → Bool → Option ℕ → List Ext
number_ext id mandatory None = []
number_ext id mandatory (Some n) = record { id = id; mandatory = mandatory; content = content.Number n } ∷ []

abbrev pub bytes_ext : ℕ → Bool → Option (List ℕ) → List Ext
bytes_ext id mandatory None = []
bytes_ext id mandatory (Some b) = record { id = id; mandatory = mandatory; content = content.Bytes b } ∷ []

-- a target as its number; the best matching one is written as absent
abbrev pub target_number : Target → Option ℕ
target_number Best = None
target_number All = Some 1
target_number Complete = Some 2

-- The extensions of a message in ascending order of their ids, each with the M that `marks` tells, and the tree's root with M.
abbrev pub kept_exts : Extras → Target → Option (List ℕ) → List Ext
kept_exts extras target tree =
    number_ext 1 (has_flag extras.marks 0x02) extras.qos ++ (bytes_ext 2 (has_flag extras.marks 0x04) extras.stamp
    ++ (bytes_ext 3 (has_flag extras.marks 0x08) extras.responder ++ (number_ext 4 (has_flag extras.marks 0x10) (target_number target)
    ++ (number_ext 5 (has_flag extras.marks 0x20) extras.budget ++ (number_ext 6 (has_flag extras.marks 0x40) extras.timeout ++ bytes_ext 7 true tree)))))

abbrev pub has_any : List Ext → Bool
has_any [] = false
has_any (ext ∷ exts) = true

-- ---- messages

-- a header of this id, of a message with a key: the whole text as its suffix, or a number that the sender declared
abbrev pub writes_keyed : ℕ → ℕ → List Ext → ℕ
writes_keyed id number exts = writes_header id (number == 0) (not (number == 0)) (has_any exts)

abbrev pub writes_content : Parts → List Ext → ℕ → List ℕ
writes_content content exts number = writes_key content.key number ++ (writes_chain exts ++ content.body)

abbrev pub writes_push : Option (List ℕ) → Parts → ℕ → List ℕ
writes_push tree content number =
    let exts = kept_exts content.extras Best tree in
    writes_keyed 0x1D number exts ∷ writes_content content exts number

abbrev pub writes_request : Option (List ℕ) → ℕ → Target → Parts → ℕ → List ℕ
writes_request tree id target content number =
    let exts = kept_exts content.extras target tree in
    writes_keyed 0x1C number exts ∷ (writes id ++ writes_content content exts number)

abbrev pub writes_response : ℕ → Parts → ℕ → List ℕ
writes_response id content number =
    let exts = kept_exts content.extras Best None in
    writes_keyed 0x1B number exts ∷ (writes id ++ writes_content content exts number)

abbrev pub writes_final : ℕ → Extras → List ℕ
writes_final id extras =
    let exts = kept_exts extras Best None in
    writes_header 0x1A false false (has_any exts) ∷ (writes id ++ writes_chain exts)

-- what is written of a message, with a number that stands for its key, or 0 and the whole key; other messages go elsewhere
abbrev pub writes_net : Msg → ℕ → List ℕ
writes_net (Push tree content) number = writes_push tree content number
writes_net (Request tree id target content) number = writes_request tree id target content number
writes_net (Response id content) number = writes_response id content number
writes_net (Final id extras) number = writes_final id extras
writes_net (Sub _ _) number = []
writes_net (Unsub _) number = []
writes_net (Token _ _) number = []
writes_net (Untoken _) number = []
writes_net (Able _ _ _) number = []
writes_net (Unable _) number = []
writes_net (Interest _ _ _ _ _ _) number = []
writes_net (EndInterest _) number = []
writes_net (ToldSub _ _ _) number = []
writes_net (ToldToken _ _ _) number = []
writes_net (ToldAble _ _ _ _) number = []
writes_net (ToldUnsub _) number = []
writes_net (ToldUntoken _) number = []
writes_net (ToldUnable _) number = []
writes_net (ToldEnd _) number = []
writes_net (State _) number = []
writes_net (Step _ _ _ _) number = []
writes_net (Snap _ _ _) number = []

-- what stands before the extensions of a message with a key: the header, the id of a request or a reply, and the key
abbrev pub writes_front : Msg → ℕ → List ℕ
writes_front (Push tree content) number = writes_keyed 0x1D number (kept_exts content.extras Best tree) ∷ writes_key content.key number
writes_front (Request tree id target content) number = writes_keyed 0x1C number (kept_exts content.extras target tree) ∷ (writes id ++ writes_key content.key number)
writes_front (Response id content) number = writes_keyed 0x1B number (kept_exts content.extras Best None) ∷ (writes id ++ writes_key content.key number)
writes_front (Final id extras) number = []
writes_front (Sub _ _) number = []
writes_front (Unsub _) number = []
writes_front (Token _ _) number = []
writes_front (Untoken _) number = []
writes_front (Able _ _ _) number = []
writes_front (Unable _) number = []
writes_front (Interest _ _ _ _ _ _) number = []
writes_front (EndInterest _) number = []
writes_front (ToldSub _ _ _) number = []
writes_front (ToldToken _ _ _) number = []
writes_front (ToldAble _ _ _ _) number = []
writes_front (ToldUnsub _) number = []
writes_front (ToldUntoken _) number = []
writes_front (ToldUnable _) number = []
writes_front (ToldEnd _) number = []
writes_front (State _) number = []
writes_front (Step _ _ _ _) number = []
writes_front (Snap _ _ _) number = []

-- what stands behind it: the extensions and the body
abbrev pub writes_back : Msg → List ℕ
writes_back (Push tree content) = writes_chain (kept_exts content.extras Best tree) ++ content.body
writes_back (Request tree id target content) = writes_chain (kept_exts content.extras target tree) ++ content.body
writes_back (Response id content) = writes_chain (kept_exts content.extras Best None) ++ content.body
writes_back (Final id extras) = []
writes_back (Sub _ _) = []
writes_back (Unsub _) = []
writes_back (Token _ _) = []
writes_back (Untoken _) = []
writes_back (Able _ _ _) = []
writes_back (Unable _) = []
writes_back (Interest _ _ _ _ _ _) = []
writes_back (EndInterest _) = []
writes_back (ToldSub _ _ _) = []
writes_back (ToldToken _ _ _) = []
writes_back (ToldAble _ _ _ _) = []
writes_back (ToldUnsub _) = []
writes_back (ToldUntoken _) = []
writes_back (ToldUnable _) = []
writes_back (ToldEnd _) = []
writes_back (State _) = []
writes_back (Step _ _ _ _) = []
writes_back (Snap _ _ _) = []

-- ---- which have a spelling

-- bytes of an extension that a length tells
abbrev pub TextFits : Option (List ℕ) → Type 0
TextFits None = Unit {0}
TextFits (Some text) = length text < 2 ^ 32

-- the marks are those of extensions that are there, and the bytes can be told
pub record ExtrasFit (extras : Extras) (target : Target) : Type 0 where
  pub marks : marks_of (kept_exts extras target None) ≡ extras.marks
  pub stamp : TextFits extras.stamp
  pub responder : TextFits extras.responder

-- The message has a spelling: its kept extensions are those that its kind has.
abbrev pub Fits : Msg → Type 0
Fits (Push tree content) = ExtrasFit content.extras Best × (content.extras.responder ≡ None) × (content.extras.budget ≡ None) × (content.extras.timeout ≡ None)
Fits (Request tree id target content) = ExtrasFit content.extras target × (content.extras.responder ≡ None)
Fits (Response id content) = ExtrasFit content.extras Best × (content.extras.budget ≡ None) × (content.extras.timeout ≡ None)
Fits (Final id extras) = ExtrasFit extras Best × (extras.responder ≡ None) × (extras.budget ≡ None) × (extras.timeout ≡ None)
Fits (Sub _ _) = ⊥
Fits (Unsub _) = ⊥
Fits (Token _ _) = ⊥
Fits (Untoken _) = ⊥
Fits (Able _ _ _) = ⊥
Fits (Unable _) = ⊥
Fits (Interest _ _ _ _ _ _) = ⊥
Fits (EndInterest _) = ⊥
Fits (ToldSub _ _ _) = ⊥
Fits (ToldToken _ _ _) = ⊥
Fits (ToldAble _ _ _ _) = ⊥
Fits (ToldUnsub _) = ⊥
Fits (ToldUntoken _) = ⊥
Fits (ToldUnable _) = ⊥
Fits (ToldEnd _) = ⊥
Fits (State _) = ⊥
Fits (Step _ _ _ _) = ⊥
Fits (Snap _ _ _) = ⊥

-- numbers of 64 bits, as the types keep it
abbrev pub NumberFits : Option ℕ → Type 0
NumberFits None = Unit {0}
NumberFits (Some n) = n < 2 ^ 64

abbrev pub NumbersFit : Extras → Type 0
NumbersFit extras = NumberFits extras.qos × NumberFits extras.budget × NumberFits extras.timeout

-- The message is one of these four, and its numbers are of 64 bits.
abbrev pub IsOfNumbers : Msg → Type 0
IsOfNumbers (Push tree content) = NumbersFit content.extras
IsOfNumbers (Request tree id target content) = NumbersFit content.extras
IsOfNumbers (Response id content) = NumbersFit content.extras
IsOfNumbers (Final id extras) = NumbersFit extras
IsOfNumbers (Sub _ _) = ⊥
IsOfNumbers (Unsub _) = ⊥
IsOfNumbers (Token _ _) = ⊥
IsOfNumbers (Untoken _) = ⊥
IsOfNumbers (Able _ _ _) = ⊥
IsOfNumbers (Unable _) = ⊥
IsOfNumbers (Interest _ _ _ _ _ _) = ⊥
IsOfNumbers (EndInterest _) = ⊥
IsOfNumbers (ToldSub _ _ _) = ⊥
IsOfNumbers (ToldToken _ _ _) = ⊥
IsOfNumbers (ToldAble _ _ _ _) = ⊥
IsOfNumbers (ToldUnsub _) = ⊥
IsOfNumbers (ToldUntoken _) = ⊥
IsOfNumbers (ToldUnable _) = ⊥
IsOfNumbers (ToldEnd _) = ⊥
IsOfNumbers (State _) = ⊥
IsOfNumbers (Step _ _ _ _) = ⊥
IsOfNumbers (Snap _ _ _) = ⊥

-- a tree stands on links between routers alone
abbrev pub TreeFits : Role → Option (List ℕ) → Type 0
TreeFits role None = Unit {0}
TreeFits Client (Some id) = ⊥
TreeFits Router (Some id) = is_zid id ≡ true

-- the whole key is written, or a number that the sender declared for it
abbrev pub KeyFits : Texts → ℕ → List ℕ → Type 0
KeyFits theirs number key = IsKey key × ((number ≡ 0) ⊎ ((0 < number) × (number < 2 ^ 16) × (text_at theirs number ≡ Some key)))

-- Such a message is read again by a peer of a sender of this role, which declared `theirs`: its body is one of its kind.
abbrev pub CanBeSent : Role → Texts → ℕ → Msg → Type 0
CanBeSent role theirs number (Push tree content) =
    Fits (Push tree content) × NumbersFit content.extras × TreeFits role tree × KeyFits theirs number content.key × IsBodyIn place.Push content.body
CanBeSent role theirs number (Request tree id target content) =
    Fits (Request tree id target content) × NumbersFit content.extras × TreeFits role tree × KeyFits theirs number content.key × IsBodyIn place.Request content.body × IsId id
CanBeSent role theirs number (Response id content) =
    Fits (Response id content) × NumbersFit content.extras × KeyFits theirs number content.key × IsBodyIn place.Response content.body × IsId id
CanBeSent role theirs number (Final id extras) = Fits (Final id extras) × NumbersFit extras × IsId id
CanBeSent role theirs number (Sub _ _) = ⊥
CanBeSent role theirs number (Unsub _) = ⊥
CanBeSent role theirs number (Token _ _) = ⊥
CanBeSent role theirs number (Untoken _) = ⊥
CanBeSent role theirs number (Able _ _ _) = ⊥
CanBeSent role theirs number (Unable _) = ⊥
CanBeSent role theirs number (Interest _ _ _ _ _ _) = ⊥
CanBeSent role theirs number (EndInterest _) = ⊥
CanBeSent role theirs number (ToldSub _ _ _) = ⊥
CanBeSent role theirs number (ToldToken _ _ _) = ⊥
CanBeSent role theirs number (ToldAble _ _ _ _) = ⊥
CanBeSent role theirs number (ToldUnsub _) = ⊥
CanBeSent role theirs number (ToldUntoken _) = ⊥
CanBeSent role theirs number (ToldUnable _) = ⊥
CanBeSent role theirs number (ToldEnd _) = ⊥
CanBeSent role theirs number (State _) = ⊥
CanBeSent role theirs number (Step _ _ _ _) = ⊥
CanBeSent role theirs number (Snap _ _ _) = ⊥

-- ---- what is read

-- The message has a spelling: a network message, a declaration or an interest.
abbrev pub AnyFits : Msg → Type 0
AnyFits (Push tree content) = Fits (Push tree content)
AnyFits (Request tree id target content) = Fits (Request tree id target content)
AnyFits (Response id content) = Fits (Response id content)
AnyFits (Final id extras) = Fits (Final id extras)
AnyFits (Sub id key) = decl.Fits (Sub id key)
AnyFits (Unsub id) = decl.Fits (Unsub id)
AnyFits (Token id key) = decl.Fits (Token id key)
AnyFits (Untoken id) = decl.Fits (Untoken id)
AnyFits (Able id key complete) = decl.Fits (Able id key complete)
AnyFits (Unable id) = decl.Fits (Unable id)
AnyFits (Interest id current future kinds key aggregate) = decl.Fits (Interest id current future kinds key aggregate)
AnyFits (EndInterest id) = decl.Fits (EndInterest id)
AnyFits (ToldSub id key interest) = decl.Fits (ToldSub id key interest)
AnyFits (ToldToken id key interest) = decl.Fits (ToldToken id key interest)
AnyFits (ToldAble id key complete interest) = decl.Fits (ToldAble id key complete interest)
AnyFits (ToldUnsub id) = decl.Fits (ToldUnsub id)
AnyFits (ToldUntoken id) = decl.Fits (ToldUntoken id)
AnyFits (ToldUnable id) = decl.Fits (ToldUnable id)
AnyFits (ToldEnd interest) = decl.Fits (ToldEnd interest)
AnyFits (State links) = decl.Fits (State links)
AnyFits (Step source number added d) = decl.Fits (Step source number added d)
AnyFits (Snap source number decls) = decl.Fits (Snap source number decls)

-- A message that was told can be told again.
abbrev pub ToldFits : Declared → Type 0
ToldFits (Told m) = AnyFits m
ToldFits (Number n text) = Unit {0}
ToldFits (Unnumber n) = Unit {0}
ToldFits Ignored = Unit {0}
