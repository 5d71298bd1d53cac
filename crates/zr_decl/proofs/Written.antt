-- What is written spells the message that it is read as.
use Rattle.std.proofs.Common.{◌≡◌, ℕ, ◌^◌, ◌%◌, ◌<◌, Bool, true, false, ◌&&◌, ◌||◌, List, [], ◌∷◌, ◌++◌, Option, Some, None, refl, sym, subst, arith}
use Rattle.std.specs.Prelude.{is_some, if◌then◌else◌}
use Rattle.std.proofs.lemmas.List.{append-nil}
use Rattle.std.proofs.lemmas.Bool.{and_parts}
use Rattle.zr_bytes.specs.Flag.{has_flag}
use Rattle.zr_bytes.specs.Number.{writes}
use Rattle.zr_bytes.proofs.Numbers.{written_spells}
use Rattle.zr_ext.specs.declared.ext.Ext.{Ext}
use Rattle.zr_ext.specs.Header.{IsHeader}
use Rattle.zr_ext.proofs.Trying.{all_below, all_below-at, same_bool, same_bool-true}
use Rattle.zr_format_spec.specs.Format.{gives, choose, optional, below, extensions, chain}
use Rattle.zr_wirekey.specs.Scopes.{Texts}
use Rattle.zr_wirekey.specs.Spelling.{key_format}
use Rattle.zr_wirekey.specs.Writing.{writes_key}
use Rattle.zr_wirekey.proofs.Keys.{whole_is_read}
use Rattle.zr_msg.specs.declared.msg.Kinds.{Kinds}
use Rattle.zr_msg.specs.declared.msg.Msg.{Msg}
use Rattle.zr_msg.specs.declared.msg.Msg.TheVariants.{Sub, Unsub, Token, Untoken, Able, Unable, Interest, EndInterest, ToldSub, ToldAble, ToldUnsub, ToldToken, ToldUntoken, ToldUnable, ToldEnd, Push, Request, Response, Final, State, Step, Snap}
use Rattle.zr_decl.specs.declared.declared.Declared.{Declared}
use Rattle.zr_decl.specs.declared.declared.Declared.TheVariants.{Told, Ignored}
use Rattle.zr_decl.specs.Declare.{message_exts, info_ext, says_complete, wire_key, declaration, declare_format, wanted, interest_format}
use Rattle.zr_decl.specs.Writing.{writes_some, writes_declare, complete_ext, writes_complete, writes_queryable, writes_undeclared, writes_restriction, options_of, writes_interest, writes_decl, tells, IsId, IsSomeId, IsKey, IsSomeKey, Declares, Asks}

-- ---- parts

some_spelled : (interest : Option ℕ) → IsSomeId interest → (optional (is_some interest) (below (2 ^ 32))).spelled interest (writes_some interest)
some_spelled None small = (refl, refl)
some_spelled (Some n) small = (n, writes n, [], sym (append-nil (writes n)), (small, written_spells 8 n), (refl, refl))

key_spelled : (theirs ours : Texts) (key : List ℕ) → IsKey key → (wire_key theirs ours 0x22).spelled key (writes_key key 0)
key_spelled theirs ours key h = whole_is_read ours key h.0 h.1

complete_spelled : (complete : Bool) → (exts : List Ext) × (choose complete (chain info_ext) (gives [])).spelled exts (writes_complete complete) × (says_complete exts ≡ complete)
complete_spelled false = ([], (refl, refl), refl)
complete_spelled true =
    let header : IsHeader complete_ext false 0x21 = record { id = refl; mandatory = refl; form = refl; goes_on = refl } in
    (complete_ext ∷ [], (complete_ext ∷ [], (header, written_spells 8 1), refl, refl), refl)

-- ---- declarations

-- a DECLARE of what is declared behind it
declare_spelled : (theirs ours : Texts) (interest : Option ℕ) (h : ℕ) (d : Declared) (bytes : List ℕ) → IsSomeId interest → (declaration theirs ours h).spelled d bytes → (declare_format theirs ours).spelled (d, interest) (writes_declare interest ++ h ∷ bytes)
declare_spelled theirs ours None h d bytes small s =
    (0x1E, 0x1E ∷ [], h ∷ bytes, refl, refl, (None, [], h ∷ bytes, refl, (refl, refl), ([], [], h ∷ bytes, refl, (refl, refl), (h, h ∷ [], bytes, refl, refl, (d, bytes, [], sym (append-nil bytes), s, (refl, refl))))))
declare_spelled theirs ours (Some n) h d bytes small s = (
  0x3E,
  0x3E ∷ [],
  writes n ++ h ∷ bytes,
  refl,
  refl,
  (Some n, writes n, h ∷ bytes, refl, some_spelled (Some n) small, ([], [], h ∷ bytes, refl, (refl, refl), (h, h ∷ [], bytes, refl, refl, (d, bytes, [], sym (append-nil bytes), s, (refl, refl))))),
)

subscriber_spelled : (theirs ours : Texts) (id : ℕ) (key : List ℕ) → IsId id → IsKey key → (declaration theirs ours 0x22).spelled (Told (Sub id key)) (writes id ++ writes_key key 0)
subscriber_spelled theirs ours id key small canonical =
    (id, writes id, writes_key key 0, refl, (small, written_spells 8 id), (key, writes_key key 0, [], sym (append-nil (writes_key key 0)), key_spelled theirs ours key canonical, ([], [], [], refl, (refl, refl), (refl, refl))))

token_spelled : (theirs ours : Texts) (id : ℕ) (key : List ℕ) → IsId id → IsKey key → (declaration theirs ours 0x26).spelled (Told (Token id key)) (writes id ++ writes_key key 0)
token_spelled theirs ours id key small canonical =
    (id, writes id, writes_key key 0, refl, (small, written_spells 8 id), (key, writes_key key 0, [], sym (append-nil (writes_key key 0)), key_spelled theirs ours key canonical, ([], [], [], refl, (refl, refl), (refl, refl))))

plain_spelled : (theirs ours : Texts) (id : ℕ) (key : List ℕ) → IsId id → IsKey key → (declaration theirs ours 0x24).spelled (Told (Able id key false)) (writes id ++ (writes_key key 0 ++ []))
plain_spelled theirs ours id key small canonical =
    (id, writes id, writes_key key 0 ++ [], refl, (small, written_spells 8 id), (key, writes_key key 0, [], refl, key_spelled theirs ours key canonical, ([], [], [], refl, (refl, refl), (refl, refl))))

full_spelled : (theirs ours : Texts) (id : ℕ) (key : List ℕ) → IsId id → IsKey key → (declaration theirs ours 0xA4).spelled (Told (Able id key true)) (writes id ++ (writes_key key 0 ++ writes_complete true))
full_spelled theirs ours id key small canonical =
    let ext = complete_spelled true in
    let ends : List ℕ = writes_complete true in
    let same : Told (Able id key true) ≡ Told (Able id key (says_complete ext.0)) = λ i. Told (Able id key ((sym ext.2) i)) in
    (id, writes id, writes_key key 0 ++ ends, refl, (small, written_spells 8 id), (key, writes_key key 0, ends, refl, key_spelled theirs ours key canonical, (ext.0, ends, [], sym (append-nil ends), ext.1, (same, refl))))

queryable_spelled : (theirs ours : Texts) (interest : Option ℕ) (id : ℕ) (key : List ℕ) (complete : Bool) → IsSomeId interest → IsId id → IsKey key
    → (declare_format theirs ours).spelled (Told (Able id key complete), interest) (writes_declare interest ++ writes_queryable id key complete)
queryable_spelled theirs ours interest id key true some small canonical = declare_spelled theirs ours interest 0xA4 (Told (Able id key true)) _ some (full_spelled theirs ours id key small canonical)
queryable_spelled theirs ours interest id key false some small canonical = declare_spelled theirs ours interest 0x24 (Told (Able id key false)) _ some (plain_spelled theirs ours id key small canonical)

unsubscriber_spelled : (theirs ours : Texts) (id : ℕ) → IsId id → (declare_format theirs ours).spelled (Told (Unsub id), None) (writes_declare None ++ writes_undeclared 0x03 id)
unsubscriber_spelled theirs ours id small =
    declare_spelled theirs ours None 0x03 (Told (Unsub id)) (writes id) tt
    (id, writes id, [], sym (append-nil (writes id)), (id, writes id, [], sym (append-nil (writes id)), (small, written_spells 8 id), ([], [], [], refl, (refl, refl), (refl, refl))), (refl, refl))

untoken_spelled : (theirs ours : Texts) (id : ℕ) → IsId id → (declare_format theirs ours).spelled (Told (Untoken id), None) (writes_declare None ++ writes_undeclared 0x07 id)
untoken_spelled theirs ours id small =
    declare_spelled theirs ours None 0x07 (Told (Untoken id)) (writes id) tt
    (id, writes id, [], sym (append-nil (writes id)), (id, writes id, [], sym (append-nil (writes id)), (small, written_spells 8 id), ([], [], [], refl, (refl, refl), (refl, refl))), (refl, refl))

unqueryable_spelled : (theirs ours : Texts) (id : ℕ) → IsId id → (declare_format theirs ours).spelled (Told (Unable id), None) (writes_declare None ++ writes_undeclared 0x05 id)
unqueryable_spelled theirs ours id small =
    declare_spelled theirs ours None 0x05 (Told (Unable id)) (writes id) tt
    (id, writes id, [], sym (append-nil (writes id)), (id, writes id, [], sym (append-nil (writes id)), (small, written_spells 8 id), ([], [], [], refl, (refl, refl), (refl, refl))), (refl, refl))

pub declaration_spelled : (theirs ours : Texts) (m : Msg) → Declares m → (declare_format theirs ours).spelled (tells m) (writes_decl m)
declaration_spelled theirs ours (Sub id key) h = declare_spelled theirs ours None 0x22 (Told (Sub id key)) _ tt (subscriber_spelled theirs ours id key h.0 h.1)
declaration_spelled theirs ours (Unsub id) h = unsubscriber_spelled theirs ours id h
declaration_spelled theirs ours (Token id key) h = declare_spelled theirs ours None 0x26 (Told (Token id key)) _ tt (token_spelled theirs ours id key h.0 h.1)
declaration_spelled theirs ours (Untoken id) h = untoken_spelled theirs ours id h
declaration_spelled theirs ours (Able id key complete) h = queryable_spelled theirs ours None id key complete tt h.0 h.1
declaration_spelled theirs ours (Unable id) h = unqueryable_spelled theirs ours id h
declaration_spelled theirs ours (ToldSub id key interest) h = declare_spelled theirs ours interest 0x22 (Told (Sub id key)) _ h.2 (subscriber_spelled theirs ours id key h.0 h.1)
declaration_spelled theirs ours (ToldToken id key interest) h = declare_spelled theirs ours interest 0x26 (Told (Token id key)) _ h.2 (token_spelled theirs ours id key h.0 h.1)
declaration_spelled theirs ours (ToldAble id key complete interest) h = queryable_spelled theirs ours interest id key complete h.2 h.0 h.1
declaration_spelled theirs ours (ToldUnsub id) h = unsubscriber_spelled theirs ours id h
declaration_spelled theirs ours (ToldUntoken id) h = untoken_spelled theirs ours id h
declaration_spelled theirs ours (ToldUnable id) h = unqueryable_spelled theirs ours id h
declaration_spelled theirs ours (ToldEnd interest) h = declare_spelled theirs ours (Some interest) 0x1A Ignored [] h ([], [], [], refl, (refl, refl), (refl, refl))
declaration_spelled theirs ours (Interest id current future kinds key aggregate) h = absurd h
declaration_spelled theirs ours (EndInterest id) h = absurd h
declaration_spelled theirs ours (Push tree content) h = absurd h
declaration_spelled theirs ours (Request tree id target content) h = absurd h
declaration_spelled theirs ours (Response id content) h = absurd h
declaration_spelled theirs ours (Final id extras) h = absurd h
declaration_spelled theirs ours (State links) h = absurd h
declaration_spelled theirs ours (Step source number added d) h = absurd h
declaration_spelled theirs ours (Snap source number decls) h = absurd h

-- ---- interests

-- options say what they are made of: by trying each of the 16 kinds
abbrev says : Bool → Bool → ℕ → Bool
says restricted aggregate kinds =
    (same_bool (has_flag (options_of kinds restricted aggregate) 0x10) restricted && same_bool (has_flag (options_of kinds restricted aggregate) 0x80) aggregate)
    && (same_bool (has_flag (options_of kinds restricted aggregate) 0x20) restricted && same_bool (has_flag (options_of kinds restricted aggregate) 0x40) false)

all_say : (r a : Bool) → all_below 16 (says r a) ≡ true
all_say true true = refl
all_say true false = refl
all_say false true = refl
all_say false false = refl

record Says (kinds : ℕ) (restricted aggregate : Bool) : Type 0 where
  there : has_flag (options_of kinds restricted aggregate) 0x10 ≡ restricted
  together : has_flag (options_of kinds restricted aggregate) 0x80 ≡ aggregate
  named : has_flag (options_of kinds restricted aggregate) 0x20 ≡ restricted
  mapped : has_flag (options_of kinds restricted aggregate) 0x40 ≡ false

options_say : (kinds : ℕ) (restricted aggregate : Bool) → kinds < 16 → Says kinds restricted aggregate
options_say kinds restricted aggregate lt =
    let o : ℕ = options_of kinds restricted aggregate in
    let all : says restricted aggregate kinds ≡ true = all_below-at 16 (says restricted aggregate) (all_say restricted aggregate) kinds lt in
    let one = and_parts (same_bool (has_flag o 0x10) restricted && same_bool (has_flag o 0x80) aggregate) (same_bool (has_flag o 0x20) restricted && same_bool (has_flag o 0x40) false) all in
    let front = and_parts (same_bool (has_flag o 0x10) restricted) (same_bool (has_flag o 0x80) aggregate) one.0 in
    let back = and_parts (same_bool (has_flag o 0x20) restricted) (same_bool (has_flag o 0x40) false) one.1 in
    record {
      there = same_bool-true (has_flag o 0x10) restricted front.0;
      together = same_bool-true (has_flag o 0x80) aggregate front.1;
      named = same_bool-true (has_flag o 0x20) restricted back.0;
      mapped = same_bool-true (has_flag o 0x40) false back.1;
    }

kinds_back : (kinds : ℕ) (restricted aggregate : Bool) → kinds < 16 → options_of kinds restricted aggregate % 16 ≡ kinds
kinds_back kinds true true lt = omega arith
kinds_back kinds true false lt = omega arith
kinds_back kinds false true lt = omega arith
kinds_back kinds false false lt = omega arith

restriction_spelled : (theirs ours : Texts) (o : ℕ) (key : Option (List ℕ)) → has_flag o 0x10 ≡ is_some key → has_flag o 0x20 ≡ is_some key → has_flag o 0x40 ≡ false → IsSomeKey key
    → (optional (has_flag o 0x10) (wire_key theirs ours o)).spelled key (writes_restriction key)
restriction_spelled theirs ours o None there named mapped h = subst (λ (b : Bool). (optional b (wire_key theirs ours o)).spelled None []) (sym there) (refl, refl)
restriction_spelled theirs ours o (Some k) there named mapped h =
    let bytes : List ℕ = writes_key k 0 in
    let here : (key_format true (if (has_flag o 0x40) then theirs else ours)).spelled k bytes = subst (λ (b : Bool). (key_format true (if b then theirs else ours)).spelled k bytes) (sym mapped) (whole_is_read ours k h.0 h.1) in
    let keyed : (wire_key theirs ours o).spelled k bytes = subst (λ (b : Bool). (key_format b (if (has_flag o 0x40) then theirs else ours)).spelled k bytes) (sym named) here in
    subst (λ (b : Bool). (optional b (wire_key theirs ours o)).spelled (Some k) bytes) (sym there) (k, bytes, [], sym (append-nil bytes), keyed, (refl, refl))

wanted_spelled : (theirs ours : Texts) (h : ℕ) (id : ℕ) (current future : Bool) (kinds : Kinds) (key : Option (List ℕ)) (aggregate : Bool)
    → has_flag h 0x20 ≡ current → has_flag h 0x40 ≡ future → has_flag h 0x80 ≡ false → kinds.0 < 16 → IsSomeKey key
    → (wanted theirs ours h id).spelled (Interest id current future kinds key aggregate) (options_of kinds.0 (is_some key) aggregate ∷ writes_restriction key)
wanted_spelled theirs ours h id current future kinds key aggregate now later bare small canonical =
    let o : ℕ = options_of kinds.0 (is_some key) aggregate in
    let say = options_say kinds.0 (is_some key) aggregate small in
    let back : kinds.0 ≡ o % 16 = sym (kinds_back kinds.0 (is_some key) aggregate small) in
    let together : aggregate ≡ has_flag o 0x80 = sym say.together in
    let none : (extensions message_exts h).spelled [] [] = subst (λ (b : Bool). (choose b (chain message_exts) (gives [])).spelled [] []) (sym bare) (refl, refl) in
    let same : Interest id current future kinds key aggregate ≡ Interest id (has_flag h 0x20) (has_flag h 0x40) (record { 0 = o % 16 }) key (has_flag o 0x80) =
    λ i. Interest id ((sym now) i) ((sym later) i) (record { 0 = back i }) key (together i) in (
      o,
      o ∷ [],
      writes_restriction key,
      refl,
      refl,
      (key, writes_restriction key, [], sym (append-nil (writes_restriction key)), restriction_spelled theirs ours o key say.there say.named say.mapped canonical, ([], [], [], refl, none, (same, refl))),
    )

asked_spelled : (theirs ours : Texts) (id : ℕ) (current future : Bool) (kinds : Kinds) (key : Option (List ℕ)) (aggregate : Bool) → IsId id → IsSomeKey key → kinds.0 < 16 → (current || future) ≡ true
    → (interest_format theirs ours).spelled (Interest id current future kinds key aggregate) (writes_interest id current future kinds.0 key aggregate)
asked_spelled theirs ours id true true kinds key aggregate small canonical few asks =
    let rest : List ℕ = options_of kinds.0 (is_some key) aggregate ∷ writes_restriction key in
    (0x79, 0x79 ∷ [], writes id ++ rest, refl, refl, (id, writes id, rest, refl, (small, written_spells 8 id), wanted_spelled theirs ours 0x79 id true true kinds key aggregate refl refl refl few canonical))
asked_spelled theirs ours id true false kinds key aggregate small canonical few asks =
    let rest : List ℕ = options_of kinds.0 (is_some key) aggregate ∷ writes_restriction key in
    (0x39, 0x39 ∷ [], writes id ++ rest, refl, refl, (id, writes id, rest, refl, (small, written_spells 8 id), wanted_spelled theirs ours 0x39 id true false kinds key aggregate refl refl refl few canonical))
asked_spelled theirs ours id false true kinds key aggregate small canonical few asks =
    let rest : List ℕ = options_of kinds.0 (is_some key) aggregate ∷ writes_restriction key in
    (0x59, 0x59 ∷ [], writes id ++ rest, refl, refl, (id, writes id, rest, refl, (small, written_spells 8 id), wanted_spelled theirs ours 0x59 id false true kinds key aggregate refl refl refl few canonical))
asked_spelled theirs ours id false false kinds key aggregate small canonical few asks = absurd cc

pub interest_spelled : (theirs ours : Texts) (m : Msg) → Asks m → (interest_format theirs ours).spelled m (writes_decl m)
interest_spelled theirs ours (Interest id current future kinds key aggregate) h = asked_spelled theirs ours id current future kinds key aggregate h.0 h.1 h.2 h.3
interest_spelled theirs ours (EndInterest id) h = (0x19, 0x19 ∷ [], writes id, refl, refl, (id, writes id, [], sym (append-nil (writes id)), (h, written_spells 8 id), ([], [], [], refl, (refl, refl), (refl, refl))))
interest_spelled theirs ours (Sub id key) h = absurd h
interest_spelled theirs ours (Unsub id) h = absurd h
interest_spelled theirs ours (Token id key) h = absurd h
interest_spelled theirs ours (Untoken id) h = absurd h
interest_spelled theirs ours (Able id key complete) h = absurd h
interest_spelled theirs ours (Unable id) h = absurd h
interest_spelled theirs ours (ToldSub id key interest) h = absurd h
interest_spelled theirs ours (ToldToken id key interest) h = absurd h
interest_spelled theirs ours (ToldAble id key complete interest) h = absurd h
interest_spelled theirs ours (ToldUnsub id) h = absurd h
interest_spelled theirs ours (ToldUntoken id) h = absurd h
interest_spelled theirs ours (ToldUnable id) h = absurd h
interest_spelled theirs ours (ToldEnd interest) h = absurd h
interest_spelled theirs ours (Push tree content) h = absurd h
interest_spelled theirs ours (Request tree id target content) h = absurd h
interest_spelled theirs ours (Response id content) h = absurd h
interest_spelled theirs ours (Final id extras) h = absurd h
interest_spelled theirs ours (State links) h = absurd h
interest_spelled theirs ours (Step source number added d) h = absurd h
interest_spelled theirs ours (Snap source number decls) h = absurd h
