-- The one spelling of a declaration or an interest that is written, and which of them have a spelling.
use Rattle.std.specs.Prelude.{◌≡◌, ℕ, ◌+◌, ◌<◌, ◌≤◌, ◌^◌, Bool, true, false, ◌||◌, List, [], ◌∷◌, ◌++◌, length, Option, Some, None, is_some, Ok, if◌then◌else◌}
use Rattle.zr_bytes.specs.Number.{writes}
use Rattle.zr_ext.specs.declared.ext.Ext.{Ext}
use Rattle.zr_ext.specs.declared.ext.Content.TheVariants as content
use Rattle.zr_ext.specs.Writing.{writes_chain}
use Rattle.zr_format_spec.specs.Writing.{writes_header}
use Rattle.zr_key.specs.Key.{read_key}
use Rattle.zr_wirekey.specs.Writing.{writes_key}
use Rattle.zr_msg.specs.declared.msg.Msg.{Msg}
use Rattle.zr_msg.specs.declared.msg.Msg.TheVariants.{Sub, Unsub, Token, Untoken, Able, Unable, Interest, EndInterest, ToldSub, ToldAble, ToldUnsub, ToldToken, ToldUntoken, ToldUnable, ToldEnd, Push, Request, Response, Final, State, Step, Snap}
use Rattle.zr_decl.specs.declared.declared.Declared.{Declared}
use Rattle.zr_decl.specs.declared.declared.Declared.TheVariants.{Told, Number, Unnumber, Ignored}

-- ---- declarations

abbrev pub writes_some : Option ℕ → List ℕ
writes_some None = []
writes_some (Some n) = writes n

-- DECLARE, and the interest that it answers
abbrev pub writes_declare : Option ℕ → List ℕ
writes_declare interest = writes_header 0x1E (is_some interest) false false ∷ writes_some interest

-- D_SUBSCRIBER or D_TOKEN, with the whole key
abbrev pub writes_keyed : ℕ → ℕ → List ℕ → List ℕ
writes_keyed header id key = writes_header header true false false ∷ (writes id ++ writes_key key 0)

-- the info of a complete queryable, which is not mandatory
abbrev pub complete_ext : Ext
complete_ext = record { id = 1; mandatory = false; content = content.Number 1 }

abbrev pub writes_complete : Bool → List ℕ
writes_complete true = writes_chain (complete_ext ∷ [])
writes_complete false = []

-- D_QUERYABLE, with the whole key
abbrev pub writes_queryable : ℕ → List ℕ → Bool → List ℕ
writes_queryable id key complete = writes_header 0x04 true false complete ∷ (writes id ++ (writes_key key 0 ++ writes_complete complete))

-- U_SUBSCRIBER, U_QUERYABLE or U_TOKEN
abbrev pub writes_undeclared : ℕ → ℕ → List ℕ
writes_undeclared header id = writes_header header false false false ∷ writes id

-- D_FINAL
abbrev pub writes_final : List ℕ
writes_final = writes_header 0x1A false false false ∷ []

-- ---- interests

abbrev pub writes_restriction : Option (List ℕ) → List ℕ
writes_restriction None = []
writes_restriction (Some key) = writes_key key 0

-- the kinds; where there is a key, that it is there and has a suffix; aggregation
abbrev pub options_of : ℕ → Bool → Bool → ℕ
options_of kinds restricted aggregate = kinds + (if restricted then 0x30 else 0) + (if aggregate then 0x80 else 0)

abbrev pub writes_interest : ℕ → Bool → Bool → ℕ → Option (List ℕ) → Bool → List ℕ
writes_interest id current future kinds key aggregate =
    writes_header 0x19 current future false ∷ (writes id ++ options_of kinds (is_some key) aggregate ∷ writes_restriction key)

abbrev pub writes_end : ℕ → List ℕ
writes_end id = writes_header 0x19 false false false ∷ writes id

-- ---- messages

-- what is written of a message; other messages go elsewhere
abbrev pub writes_decl : Msg → List ℕ
writes_decl (Sub id key) = writes_declare None ++ writes_keyed 0x02 id key
writes_decl (Unsub id) = writes_declare None ++ writes_undeclared 0x03 id
writes_decl (Token id key) = writes_declare None ++ writes_keyed 0x06 id key
writes_decl (Untoken id) = writes_declare None ++ writes_undeclared 0x07 id
writes_decl (Able id key complete) = writes_declare None ++ writes_queryable id key complete
writes_decl (Unable id) = writes_declare None ++ writes_undeclared 0x05 id
writes_decl (ToldSub id key interest) = writes_declare interest ++ writes_keyed 0x02 id key
writes_decl (ToldToken id key interest) = writes_declare interest ++ writes_keyed 0x06 id key
writes_decl (ToldAble id key complete interest) = writes_declare interest ++ writes_queryable id key complete
writes_decl (ToldUnsub id) = writes_declare None ++ writes_undeclared 0x03 id
writes_decl (ToldUntoken id) = writes_declare None ++ writes_undeclared 0x07 id
writes_decl (ToldUnable id) = writes_declare None ++ writes_undeclared 0x05 id
writes_decl (ToldEnd interest) = writes_declare (Some interest) ++ writes_final
writes_decl (Interest id current future kinds key aggregate) = writes_interest id current future kinds.0 key aggregate
writes_decl (EndInterest id) = writes_end id
writes_decl (Push _ _) = []
writes_decl (Request _ _ _ _) = []
writes_decl (Response _ _) = []
writes_decl (Final _ _) = []
writes_decl (State _) = []
writes_decl (Step _ _ _ _) = []
writes_decl (Snap _ _ _) = []

-- What a reader is told: a told message is the declaration that it tells, beside the interest that it answers.
abbrev pub tells : Msg → Declared × Option ℕ
tells (Sub id key) = (Told (Sub id key), None)
tells (Unsub id) = (Told (Unsub id), None)
tells (Token id key) = (Told (Token id key), None)
tells (Untoken id) = (Told (Untoken id), None)
tells (Able id key complete) = (Told (Able id key complete), None)
tells (Unable id) = (Told (Unable id), None)
tells (ToldSub id key interest) = (Told (Sub id key), interest)
tells (ToldToken id key interest) = (Told (Token id key), interest)
tells (ToldAble id key complete interest) = (Told (Able id key complete), interest)
tells (ToldUnsub id) = (Told (Unsub id), None)
tells (ToldUntoken id) = (Told (Untoken id), None)
tells (ToldUnable id) = (Told (Unable id), None)
tells (ToldEnd interest) = (Ignored, Some interest)
tells (Interest _ _ _ _ _ _) = (Ignored, None)
tells (EndInterest _) = (Ignored, None)
tells (Push _ _) = (Ignored, None)
tells (Request _ _ _ _) = (Ignored, None)
tells (Response _ _) = (Ignored, None)
tells (Final _ _) = (Ignored, None)
tells (State _) = (Ignored, None)
tells (Step _ _ _ _) = (Ignored, None)
tells (Snap _ _ _) = (Ignored, None)

-- ---- which have a spelling

-- the message declares, tells or asks; an interest has kinds of four bits, and is in what is declared now or later
abbrev pub Fits : Msg → Type 0
Fits (Interest id current future kinds key aggregate) = (kinds.0 < 16) × ((current || future) ≡ true)
Fits (EndInterest id) = Unit {0}
Fits (Sub _ _) = Unit {0}
Fits (Unsub _) = Unit {0}
Fits (Token _ _) = Unit {0}
Fits (Untoken _) = Unit {0}
Fits (Able _ _ _) = Unit {0}
Fits (Unable _) = Unit {0}
Fits (ToldSub _ _ _) = Unit {0}
Fits (ToldToken _ _ _) = Unit {0}
Fits (ToldAble _ _ _ _) = Unit {0}
Fits (ToldUnsub _) = Unit {0}
Fits (ToldUntoken _) = Unit {0}
Fits (ToldUnable _) = Unit {0}
Fits (ToldEnd _) = Unit {0}
Fits (Push _ _) = ⊥
Fits (Request _ _ _ _) = ⊥
Fits (Response _ _) = ⊥
Fits (Final _ _) = ⊥
Fits (State _) = ⊥
Fits (Step _ _ _ _) = ⊥
Fits (Snap _ _ _) = ⊥

-- an id of 32 bits and a canonical key, as the types keep it
abbrev pub IsId : ℕ → Type 0
IsId id = id < 2 ^ 32

abbrev pub IsSomeId : Option ℕ → Type 0
IsSomeId None = Unit {0}
IsSomeId (Some id) = IsId id

abbrev pub IsKey : List ℕ → Type 0
IsKey key = (length key ≤ 2048) × (read_key key ≡ Ok key)

abbrev pub IsSomeKey : Option (List ℕ) → Type 0
IsSomeKey None = Unit {0}
IsSomeKey (Some key) = IsKey key

-- a number that may stand for a text, and a text that may have one
abbrev pub IsName : ℕ × List ℕ → Type 0
IsName name = (0 < name.0) × (name.0 < 2 ^ 16) × (length name.1 ≤ 2048)

-- a DECLARE, in either direction
abbrev pub IsDeclaration : Msg → Type 0
IsDeclaration (Sub _ _) = Unit {0}
IsDeclaration (Unsub _) = Unit {0}
IsDeclaration (Token _ _) = Unit {0}
IsDeclaration (Untoken _) = Unit {0}
IsDeclaration (Able _ _ _) = Unit {0}
IsDeclaration (Unable _) = Unit {0}
IsDeclaration (ToldSub _ _ _) = Unit {0}
IsDeclaration (ToldToken _ _ _) = Unit {0}
IsDeclaration (ToldAble _ _ _ _) = Unit {0}
IsDeclaration (ToldUnsub _) = Unit {0}
IsDeclaration (ToldUntoken _) = Unit {0}
IsDeclaration (ToldUnable _) = Unit {0}
IsDeclaration (ToldEnd _) = Unit {0}
IsDeclaration (Interest _ _ _ _ _ _) = ⊥
IsDeclaration (EndInterest _) = ⊥
IsDeclaration (Push _ _) = ⊥
IsDeclaration (Request _ _ _ _) = ⊥
IsDeclaration (Response _ _) = ⊥
IsDeclaration (Final _ _) = ⊥
IsDeclaration (State _) = ⊥
IsDeclaration (Step _ _ _ _) = ⊥
IsDeclaration (Snap _ _ _) = ⊥

-- the message declares or tells
abbrev pub Declares : Msg → Type 0
Declares (Sub id key) = IsId id × IsKey key
Declares (Unsub id) = IsId id
Declares (Token id key) = IsId id × IsKey key
Declares (Untoken id) = IsId id
Declares (Able id key complete) = IsId id × IsKey key
Declares (Unable id) = IsId id
Declares (ToldSub id key interest) = IsId id × IsKey key × IsSomeId interest
Declares (ToldToken id key interest) = IsId id × IsKey key × IsSomeId interest
Declares (ToldAble id key complete interest) = IsId id × IsKey key × IsSomeId interest
Declares (ToldUnsub id) = IsId id
Declares (ToldUntoken id) = IsId id
Declares (ToldUnable id) = IsId id
Declares (ToldEnd interest) = IsId interest
Declares (Interest _ _ _ _ _ _) = ⊥
Declares (EndInterest _) = ⊥
Declares (Push _ _) = ⊥
Declares (Request _ _ _ _) = ⊥
Declares (Response _ _) = ⊥
Declares (Final _ _) = ⊥
Declares (State _) = ⊥
Declares (Step _ _ _ _) = ⊥
Declares (Snap _ _ _) = ⊥

-- the message is an interest or ends one
abbrev pub Asks : Msg → Type 0
Asks (Interest id current future kinds key aggregate) = IsId id × IsSomeKey key × (kinds.0 < 16) × ((current || future) ≡ true)
Asks (EndInterest id) = IsId id
Asks (Sub _ _) = ⊥
Asks (Unsub _) = ⊥
Asks (Token _ _) = ⊥
Asks (Untoken _) = ⊥
Asks (Able _ _ _) = ⊥
Asks (Unable _) = ⊥
Asks (ToldSub _ _ _) = ⊥
Asks (ToldToken _ _ _) = ⊥
Asks (ToldAble _ _ _ _) = ⊥
Asks (ToldUnsub _) = ⊥
Asks (ToldUntoken _) = ⊥
Asks (ToldUnable _) = ⊥
Asks (ToldEnd _) = ⊥
Asks (Push _ _) = ⊥
Asks (Request _ _ _ _) = ⊥
Asks (Response _ _) = ⊥
Asks (Final _ _) = ⊥
Asks (State _) = ⊥
Asks (Step _ _ _ _) = ⊥
Asks (Snap _ _ _) = ⊥

-- ---- what is read

-- A message that was told can be told again.
abbrev pub ToldFits : Declared → Type 0
ToldFits (Told m) = Fits m
ToldFits (Number n text) = Unit {0}
ToldFits (Unnumber n) = Unit {0}
ToldFits Ignored = Unit {0}
