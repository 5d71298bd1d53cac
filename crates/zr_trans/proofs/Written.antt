-- What is written spells the message, and a message that has a spelling can be written.
use Rattle.std.proofs.Common.{◌≡◌, ℕ, ◌+◌, ◌*◌, ◌/◌, ◌%◌, ◌-◌, ◌<◌, not, List, [], ◌∷◌, ◌++◌, length, Option, Some, None, Bool, true, false, refl, sym, ap, subst, arith, Ok}
use Rattle.std.specs.Prelude.{bit_and, is_some}
use Rattle.std.proofs.lemmas.List.{append-nil}
use Rattle.zr_bytes.specs.Flag.{has_id, has_flag}
use Rattle.zr_bytes.specs.Number.{writes}
use Rattle.zr_bytes.specs.Text.{writes_text}
use Rattle.zr_bytes.specs.declared.read_error.ReadError.TheVariants.{BadText}
use Rattle.zr_bytes.proofs.Numbers.{written_spells}
use Rattle.zr_ext.specs.declared.ext.Ext.{Ext}
use Rattle.zr_ext.specs.Header.{IsHeader}
use Rattle.zr_id.specs.Zid.{is_zid}
use Rattle.zr_trans.specs.declared.trans.Sizes.{Sizes}
use Rattle.zr_trans.specs.declared.trans.Trans.{Trans}
use Rattle.zr_trans.specs.declared.trans.Trans.TheVariants.{Init, Open, Close, KeepAlive, Frame, Fragment}
use Rattle.zr_format_spec.specs.Format.{Format, gives, choose, optional, unknown, so_many, extensions, chain}
use Rattle.zr_format_spec.specs.Laws.{HasSpelling}
use Rattle.zr_format_spec.specs.Writing.{writes_header}
use Rattle.zr_format_spec.proofs.Spelled.{checked_spelled, spelled_checked, chosen_holds}
use Rattle.zr_trans.specs.Trans.{first_number, number_ext, cookie, sizes, init, opening, close, keep_alive, frame, fragment, behind, trans_format, SpellsTrans}
use Rattle.zr_trans.specs.Reading.{trans_of}
use Rattle.zr_trans.proofs.Messages.{follows_trans}
use Rattle.zr_trans.specs.Writing.{writes_tag, writes_sizes, writes_cookie, speaks_ext, writes_speaks, writes_trans, SizesFit, CookieFits, Fits, IsNamed, HasFields}

-- ---- the header

-- a header that is written says what it is made of
record Says (id : ℕ) (first second extended : Bool) : Type 0 where
  name : bit_and (writes_header id first second extended) 0x1F ≡ id
  one : has_flag (writes_header id first second extended) 0x20 ≡ first
  two : has_flag (writes_header id first second extended) 0x40 ≡ second
  more : has_flag (writes_header id first second extended) 0x80 ≡ extended

init_says : (a s z : Bool) → Says 1 a s z
init_says true true true = record { name = refl; one = refl; two = refl; more = refl }
init_says true true false = record { name = refl; one = refl; two = refl; more = refl }
init_says true false true = record { name = refl; one = refl; two = refl; more = refl }
init_says true false false = record { name = refl; one = refl; two = refl; more = refl }
init_says false true true = record { name = refl; one = refl; two = refl; more = refl }
init_says false true false = record { name = refl; one = refl; two = refl; more = refl }
init_says false false true = record { name = refl; one = refl; two = refl; more = refl }
init_says false false false = record { name = refl; one = refl; two = refl; more = refl }

-- ---- parts of messages

sizes_spelled : (o : Option Sizes) → SizesFit o → (optional (is_some o) sizes).spelled o (writes_sizes o)
sizes_spelled None fits = (refl, refl)
sizes_spelled (Some s) fits =
    let low : ℕ = s.batch % 256 in
    let high : ℕ = s.batch / 256 in
    let bits : s.bits % 16 ≡ s.bits = omega (arith, fits) in
    let batch : low + 256 * high ≡ s.batch = omega arith in
    let same : s ≡ record { bits = s.bits % 16; batch = low + 256 * high } = λ i. record { bits = (sym bits) i; batch = (sym batch) i } in
    (s, s.bits ∷ low ∷ high ∷ [], [], refl, (s.bits, s.bits ∷ [], low ∷ high ∷ [], refl, refl, (low, low ∷ [], high ∷ [], refl, refl, (high, high ∷ [], [], refl, refl, (same, refl)))), (refl, refl))

cookie_spelled : (has : Bool) (o : Option (List ℕ)) → CookieFits has o → (optional has cookie).spelled o (writes_cookie o)
cookie_spelled has None fits = subst (λ (b : Bool). (optional b cookie).spelled None []) (sym fits) (refl, refl)
cookie_spelled has (Some k) fits =
    subst (λ (b : Bool). (optional b cookie).spelled (Some k) (writes_text k)) (sym fits.0)
    (k, writes_text k, [], sym (append-nil (writes_text k)), (fits.1, (writes (length k), written_spells 8 (length k), refl)), (refl, refl))

speaks_spelled : (o : Option ℕ) → (exts : List Ext) × (choose (is_some o) (chain (number_ext 9)) (gives [])).spelled exts (writes_speaks o) × (o ≡ first_number exts)
speaks_spelled None = ([], (refl, refl), refl)
speaks_spelled (Some n) =
    let header : IsHeader (speaks_ext n) false 0x29 = record { id = refl; mandatory = refl; form = refl; goes_on = refl } in
    (speaks_ext n ∷ [], (speaks_ext n ∷ [], (header, written_spells 8 n), refl, refl), refl)

-- the length and the role stand in one byte
tag_says : (role n : ℕ) → role < 4 → 0 < n → (((n - 1) * 16 + role) / 16 + 1 ≡ n) × (((n - 1) * 16 + role) % 4 ≡ role)
tag_says role n small some = (omega arith, omega arith)

some_bytes : (id : List ℕ) → is_zid id ≡ true → 0 < length id
some_bytes [] named = absurd cc
some_bytes (b ∷ id) named = omega arith

-- ---- messages

-- INIT behind a header that says this
init_behind : (h : ℕ) (answer : Bool) (version role : ℕ) (id : List ℕ) (o : Option Sizes) (k : Option (List ℕ)) (speaks : Option ℕ)
    → has_flag h 0x20 ≡ answer → has_flag h 0x40 ≡ is_some o → has_flag h 0x80 ≡ is_some speaks
    → role < 4 → is_zid id ≡ true → SizesFit o → CookieFits answer k
    → (init h).spelled (Init answer version role id o k speaks) (version ∷ writes_tag role id ∷ id ++ (writes_sizes o ++ (writes_cookie k ++ writes_speaks speaks)))
init_behind h answer version role id o k speaks one two more small named fit has =
    let tag : ℕ = writes_tag role id in
    let says = tag_says role (length id) small (some_bytes id named) in
    let ext = speaks_spelled speaks in
    let ends : List ℕ = writes_speaks speaks in
    let sized : (optional (has_flag h 0x40) sizes).spelled o (writes_sizes o) = subst (λ (b : Bool). (optional b sizes).spelled o (writes_sizes o)) (sym two) (sizes_spelled o fit) in
    let known : (optional (has_flag h 0x20) cookie).spelled k (writes_cookie k) = subst (λ (b : Bool). (optional b cookie).spelled k (writes_cookie k)) (sym one) (cookie_spelled answer k has) in
    let extended : (extensions (number_ext 9) h).spelled ext.0 ends = subst (λ (b : Bool). (choose b (chain (number_ext 9)) (gives [])).spelled ext.0 ends) (sym more) ext.1 in
    let same : Init answer version role id o k speaks ≡ Init (has_flag h 0x20) version (tag % 4) id o k (first_number ext.0) =
    λ i. Init ((sym one) i) version ((sym says.1) i) id o k (ext.2 i) in (
      version,
      version ∷ [],
      tag ∷ id ++ (writes_sizes o ++ (writes_cookie k ++ ends)),
      refl,
      refl,
      (
        tag,
        tag ∷ [],
        id ++ (writes_sizes o ++ (writes_cookie k ++ ends)),
        refl,
        refl,
        (
          id,
          id,
          writes_sizes o ++ (writes_cookie k ++ ends),
          refl,
          checked_spelled (so_many (tag / 16 + 1)) is_zid BadText id id (refl, sym says.0) named,
          (
            o,
            writes_sizes o,
            writes_cookie k ++ ends,
            refl,
            sized,
            (
              k,
              writes_cookie k,
              ends,
              refl,
              known,
              (ext.0, ends, [], sym (append-nil ends), extended, (same, refl)),
            ),
          ),
        ),
      ),
    )

open_behind : (h : ℕ) (answer seconds : Bool) (lease first : ℕ) (k : Option (List ℕ))
    → has_flag h 0x20 ≡ answer → has_flag h 0x40 ≡ seconds → has_flag h 0x80 ≡ false → CookieFits (not answer) k
    → (opening h).spelled (Open answer seconds lease first k) (writes lease ++ (writes first ++ writes_cookie k))
open_behind h answer seconds lease first k one two more has =
    let known : (optional (not (has_flag h 0x20)) cookie).spelled k (writes_cookie k) = subst (λ (b : Bool). (optional (not b) cookie).spelled k (writes_cookie k)) (sym one) (cookie_spelled (not answer) k has) in
    let extended : (extensions [] h).spelled [] [] = subst (λ (b : Bool). (choose b (chain []) (gives [])).spelled [] []) (sym more) (refl, refl) in
    let same : Open answer seconds lease first k ≡ Open (has_flag h 0x20) (has_flag h 0x40) lease first k = λ i. Open ((sym one) i) ((sym two) i) lease first k in (
      lease,
      writes lease,
      writes first ++ writes_cookie k,
      refl,
      written_spells 8 lease,
      (
        first,
        writes first,
        writes_cookie k,
        refl,
        written_spells 8 first,
        (
          k,
          writes_cookie k,
          [],
          sym (append-nil (writes_cookie k)),
          known,
          ([], [], [], refl, extended, (same, refl)),
        ),
      ),
    )

-- a message behind its header
with_header : (h : ℕ) (t : Trans) (bytes : List ℕ) → (behind h).spelled t bytes → SpellsTrans t (h ∷ bytes)
with_header h t bytes s = (h, h ∷ [], bytes, refl, refl, s)

is_init : (h : ℕ) (t : Trans) (bytes : List ℕ) → bit_and h 0x1F ≡ 1 → (init h).spelled t bytes → SpellsTrans t (h ∷ bytes)
is_init h t bytes name s = with_header h t bytes (rw name s)

is_open : (h : ℕ) (t : Trans) (bytes : List ℕ) → bit_and h 0x1F ≡ 2 → (opening h).spelled t bytes → SpellsTrans t (h ∷ bytes)
is_open h t bytes name s = with_header h t bytes (rw name s)

open_says : (a s : Bool) → Says 2 a s false
open_says true true = record { name = refl; one = refl; two = refl; more = refl }
open_says true false = record { name = refl; one = refl; two = refl; more = refl }
open_says false true = record { name = refl; one = refl; two = refl; more = refl }
open_says false false = record { name = refl; one = refl; two = refl; more = refl }

message_said : (t : Trans) → Fits t → IsNamed t → SpellsTrans t (writes_trans t)
message_said (Init answer version role id o k speaks) fits named =
    let says = init_says answer (is_some o) (is_some speaks) in
    let h : ℕ = writes_header 1 answer (is_some o) (is_some speaks) in
    is_init h (Init answer version role id o k speaks) _ says.name (init_behind h answer version role id o k speaks says.one says.two says.more fits.0 named fits.1 fits.2)
message_said (Open answer seconds lease first k) fits named =
    let says = open_says answer seconds in
    let h : ℕ = writes_header 2 answer seconds false in
    is_open h (Open answer seconds lease first k) _ says.name (open_behind h answer seconds lease first k says.one says.two says.more fits)
message_said (Close true reason) fits named = with_header 0x23 _ _ (reason, reason ∷ [], [], refl, refl, ([], [], [], refl, (refl, refl), (refl, refl)))
message_said (Close false reason) fits named = with_header 0x03 _ _ (reason, reason ∷ [], [], refl, refl, ([], [], [], refl, (refl, refl), (refl, refl)))
message_said KeepAlive fits named = with_header 0x04 _ _ ([], [], [], refl, (refl, refl), (refl, refl))
message_said (Frame true n) fits named = with_header 0x25 _ _ (n, writes n, [], sym (append-nil (writes n)), written_spells 8 n, ([], [], [], refl, (refl, refl), (refl, refl)))
message_said (Frame false n) fits named = with_header 0x05 _ _ (n, writes n, [], sym (append-nil (writes n)), written_spells 8 n, ([], [], [], refl, (refl, refl), (refl, refl)))
message_said (Fragment true true n piece) fits named = with_header 0x66 _ _ (n, writes n, piece, refl, written_spells 8 n, ([], [], piece, refl, (refl, refl), refl))
message_said (Fragment true false n piece) fits named = with_header 0x26 _ _ (n, writes n, piece, refl, written_spells 8 n, ([], [], piece, refl, (refl, refl), refl))
message_said (Fragment false true n piece) fits named = with_header 0x46 _ _ (n, writes n, piece, refl, written_spells 8 n, ([], [], piece, refl, (refl, refl), refl))
message_said (Fragment false false n piece) fits named = with_header 0x06 _ _ (n, writes n, piece, refl, written_spells 8 n, ([], [], piece, refl, (refl, refl), refl))

pub message_spelled : (t : Trans) → HasFields t → SpellsTrans t (writes_trans t)
message_spelled t h = message_said t h.0 h.1

-- ---- messages that have a spelling

sizes_fit : (b : Bool) (o : Option Sizes) (bytes : List ℕ) → (optional b sizes).spelled o bytes → SizesFit o
sizes_fit false o bytes s = subst SizesFit (sym s.0) tt
sizes_fit true o bytes s =
    let inner = s.4 in
    let same : s.0 ≡ record { bits = inner.0 % 16; batch = inner.5.0 + 256 * inner.5.5.0 } = inner.5.5.5.0 in
    let bits : s.0.bits ≡ inner.0 % 16 = ap (λ (x : Sizes). x.bits) same in
    subst SizesFit (sym s.5.0) (omega (arith, bits))

cookie_fits : (b : Bool) (o : Option (List ℕ)) (bytes : List ℕ) → (optional b cookie).spelled o bytes → CookieFits b o
cookie_fits false o bytes s = subst (λ (k : Option (List ℕ)). CookieFits false k) (sym s.0) refl
cookie_fits true o bytes s = subst (λ (k : Option (List ℕ)). CookieFits true k) (sym s.5.0) (refl, s.4.0)

init_good : (h : ℕ) (t : Trans) (bytes : List ℕ) → (init h).spelled t bytes → HasFields t
init_good h t bytes s =
    let tag = s.5 in
    let id = tag.5 in
    let sized = id.5 in
    let kept = sized.5 in
    let ext = kept.5 in
    let named : is_zid id.0 ≡ true = (spelled_checked (so_many (tag.0 / 16 + 1)) is_zid BadText id.0 id.1 id.4).1 in
    let role : tag.0 % 4 < 4 = omega arith in
    let good : HasFields (Init (has_flag h 0x20) s.0 (tag.0 % 4) id.0 sized.0 kept.0 (first_number ext.0)) =
    ((role, sizes_fit (has_flag h 0x40) sized.0 sized.1 sized.4, cookie_fits (has_flag h 0x20) kept.0 kept.1 kept.4), named) in
    subst HasFields (sym ext.5.0) good

open_good : (h : ℕ) (t : Trans) (bytes : List ℕ) → (opening h).spelled t bytes → HasFields t
open_good h t bytes s =
    let kept = s.5.5 in
    let ext = kept.5 in
    let good : HasFields (Open (has_flag h 0x20) (has_flag h 0x40) s.0 s.5.0 kept.0) = (cookie_fits (not (has_flag h 0x20)) kept.0 kept.1 kept.4, tt) in
    subst HasFields (sym ext.5.0) good

close_good : (h : ℕ) (t : Trans) (bytes : List ℕ) → (close h).spelled t bytes → HasFields t
close_good h t bytes s = subst HasFields (sym s.5.5.0) (tt, tt)

keep_alive_good : (h : ℕ) (t : Trans) (bytes : List ℕ) → (keep_alive h).spelled t bytes → HasFields t
keep_alive_good h t bytes s = subst HasFields (sym s.5.0) (tt, tt)

frame_good : (h : ℕ) (t : Trans) (bytes : List ℕ) → (frame h).spelled t bytes → HasFields t
frame_good h t bytes s = subst HasFields (sym s.5.5.0) (tt, tt)

fragment_good : (h : ℕ) (t : Trans) (bytes : List ℕ) → (fragment h).spelled t bytes → HasFields t
fragment_good h t bytes s = subst HasFields (sym s.5.5) (tt, tt)

behind_good : (h : ℕ) (t : Trans) (bytes : List ℕ) → (behind h).spelled t bytes → HasFields t
behind_good h =
    chosen_holds HasFields (has_id h 1) (init h) _ (init_good h)
    (chosen_holds HasFields (has_id h 2) (opening h) _ (open_good h)
    (chosen_holds HasFields (has_id h 3) (close h) _ (close_good h)
    (chosen_holds HasFields (has_id h 4) (keep_alive h) _ (keep_alive_good h)
    (chosen_holds HasFields (has_id h 5) (frame h) _ (frame_good h)
    (chosen_holds HasFields (has_id h 6) (fragment h) unknown (fragment_good h) (λ t bytes s. absurd s))))))

pub message_fits : (t : Trans) → HasSpelling trans_format t → HasFields t
message_fits t s = behind_good s.1.0 t s.1.2 s.1.5

-- what was read has a spelling
pub read_fits : (bytes rest : List ℕ) (t : Trans) → trans_of bytes ≡ Ok (t, rest) → Fits t
read_fits bytes rest t e = let found = (follows_trans.found bytes rest t e).0 in (message_fits t (found.0, found.1)).0
