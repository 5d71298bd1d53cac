-- The one spelling of a message between routers that is written, and which of them have a spelling.
use Rattle.std.specs.Prelude.{◌≡◌, ℕ, ◌<◌, ◌^◌, Bool, true, false, ◌==◌, ◌&&◌, nat_lt, List, [], ◌∷◌, ◌++◌, length, Option, Some, None, if◌then◌else◌}
use Rattle.std.specs.List.{flat_map, list_all}
use Rattle.zr_bytes.specs.Number.{writes}
use Rattle.zr_bytes.specs.Text.{writes_text}
use Rattle.zr_id.specs.Zid.{is_zid}
use Rattle.zr_id.specs.Record.{LinkedState, RecordState, are_links}
use Rattle.zr_msg.specs.declared.decl.Decl.{Decl}
use Rattle.zr_msg.specs.declared.msg.Msg.{Msg}
use Rattle.zr_msg.specs.declared.msg.Msg.TheVariants.{Sub, Unsub, Token, Untoken, Able, Unable, Interest, EndInterest, ToldSub, ToldAble, ToldUnsub, ToldToken, ToldUntoken, ToldUnable, ToldEnd, Push, Request, Response, Final, State, Step, Snap}
use Rattle.zr_oam.specs.Oam.{kind_byte, is_canonical, decl_may_follow}

abbrev pub writes_decl : Decl → List ℕ
writes_decl d = kind_byte d.kind ∷ writes_text d.key

-- a link, with its weight in a weighted record
abbrev pub writes_linked : Bool → LinkedState → List ℕ
writes_linked weighted link = writes_text link.id ++ (if weighted then writes link.weight else [])

abbrev pub writes_record : Bool → RecordState → List ℕ
writes_record weighted r = writes_text r.id ++ (writes r.seq ++ (writes (length r.links) ++ flat_map (λ link. writes_linked weighted link) r.links))

-- whether each link weighs 1
abbrev pub weigh_one : List LinkedState → Bool
weigh_one links = list_all (λ link. link.weight == 1) links

-- the form, the source and the number
abbrev pub writes_head : ℕ → List ℕ → ℕ → List ℕ
writes_head form source n = form ∷ (writes_text source ++ writes n)

abbrev pub writes_step : List ℕ → ℕ → Bool → Decl → List ℕ
writes_step source n added d = writes_head (if added then 1 else 2) source n ++ writes_decl d

abbrev pub writes_snap : List ℕ → ℕ → List Decl → List ℕ
writes_snap source n decls = writes_head 0 source n ++ (writes (length decls) ++ flat_map (λ d. writes_decl d) decls)

-- the OAM message of an id with this content
abbrev pub writes_own : ℕ → List ℕ → List ℕ
writes_own id content = 0x5F ∷ (writes id ++ writes_text content)

-- what is written of a message; other messages go elsewhere
abbrev pub writes_oam : Msg → List ℕ
writes_oam (State r) = if weigh_one r.links then writes_own 0x5A01 (writes_record false r) else writes_own 0x5A03 (writes_record true r)
writes_oam (Step source n added d) = writes_own 0x5A02 (writes_step source n added d)
writes_oam (Snap source n decls) = writes_own 0x5A02 (writes_snap source n decls)
writes_oam (Sub _ _) = []
writes_oam (Unsub _) = []
writes_oam (Token _ _) = []
writes_oam (Untoken _) = []
writes_oam (Able _ _ _) = []
writes_oam (Unable _) = []
writes_oam (Interest _ _ _ _ _ _) = []
writes_oam (EndInterest _) = []
writes_oam (ToldSub _ _ _) = []
writes_oam (ToldToken _ _ _) = []
writes_oam (ToldAble _ _ _ _) = []
writes_oam (ToldUnsub _) = []
writes_oam (ToldUntoken _) = []
writes_oam (ToldUnable _) = []
writes_oam (ToldEnd _) = []
writes_oam (Push _ _) = []
writes_oam (Request _ _ _ _) = []
writes_oam (Response _ _) = []
writes_oam (Final _ _) = []

-- each declaration comes after the one before it
abbrev pub decls_in_order : Option Decl → List Decl → Bool
decls_in_order last [] = true
decls_in_order last (d ∷ decls) = decl_may_follow last d && decls_in_order (Some d) decls

-- The message has a spelling, where what it is made of is what its types keep: a record always; an entry from number 1 on; a snapshot
-- whose declarations are strictly ascending, and not more bytes of content than a length tells.
abbrev pub Fits : Msg → Type 0
Fits (State r) = Unit {0}
Fits (Step source n added d) = 0 < n
Fits (Snap source n decls) = (0 < n) × (length decls < 2 ^ 32) × (decls_in_order None decls ≡ true) × (length (writes_snap source n decls) < 2 ^ 32)
Fits (Sub _ _) = ⊥
Fits (Unsub _) = ⊥
Fits (Token _ _) = ⊥
Fits (Untoken _) = ⊥
Fits (Able _ _ _) = ⊥
Fits (Unable _) = ⊥
Fits (Interest _ _ _ _ _ _) = ⊥
Fits (EndInterest _) = ⊥
Fits (ToldSub _ _ _) = ⊥
Fits (ToldToken _ _ _) = ⊥
Fits (ToldAble _ _ _ _) = ⊥
Fits (ToldUnsub _) = ⊥
Fits (ToldUntoken _) = ⊥
Fits (ToldUnable _) = ⊥
Fits (ToldEnd _) = ⊥
Fits (Push _ _) = ⊥
Fits (Request _ _ _ _) = ⊥
Fits (Response _ _) = ⊥
Fits (Final _ _) = ⊥

-- identifiers, weights, records and canonical keys are such, as their types keep it
abbrev pub is_decl : Decl → Bool
is_decl d = is_canonical d.key

abbrev pub is_linked : LinkedState → Bool
is_linked link = is_zid link.id && (nat_lt 0 link.weight && nat_lt link.weight (2 ^ 16))

abbrev pub IsMade : Msg → Type 0
IsMade (State r) = (is_zid r.id ≡ true) × (are_links r.id r.links ≡ true) × (list_all is_linked r.links ≡ true)
IsMade (Step source n added d) = (is_zid source ≡ true) × (is_decl d ≡ true)
IsMade (Snap source n decls) = (is_zid source ≡ true) × (list_all is_decl decls ≡ true)
IsMade (Sub _ _) = Unit {0}
IsMade (Unsub _) = Unit {0}
IsMade (Token _ _) = Unit {0}
IsMade (Untoken _) = Unit {0}
IsMade (Able _ _ _) = Unit {0}
IsMade (Unable _) = Unit {0}
IsMade (Interest _ _ _ _ _ _) = Unit {0}
IsMade (EndInterest _) = Unit {0}
IsMade (ToldSub _ _ _) = Unit {0}
IsMade (ToldToken _ _ _) = Unit {0}
IsMade (ToldAble _ _ _ _) = Unit {0}
IsMade (ToldUnsub _) = Unit {0}
IsMade (ToldUntoken _) = Unit {0}
IsMade (ToldUnable _) = Unit {0}
IsMade (ToldEnd _) = Unit {0}
IsMade (Push _ _) = Unit {0}
IsMade (Request _ _ _ _) = Unit {0}
IsMade (Response _ _) = Unit {0}
IsMade (Final _ _) = Unit {0}

abbrev pub CanBeWritten : Msg → Type 0
CanBeWritten m = Fits m × IsMade m
