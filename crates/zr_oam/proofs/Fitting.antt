-- Each message that bytes spell can be written. What is written of a part is no longer than any bytes that spell it, so the content of what is
-- written has a length that can be told.
use Rattle.std.proofs.Common.{◌≡◌, ℕ, zero, suc, ◌+◌, ◌-◌, ◌^◌, ◌<◌, ◌≤◌, Bool, true, false, List, [], ◌∷◌, ◌++◌, length, get_or, Option, Some, None, Ok, refl, sym, ap, subst, ◌∙◌, arith, eqb, ltb}
use Rattle.std.specs.Prelude.{bit_and, ◌&&◌}
use Rattle.std.specs.List.{AllByRecursion, flat_map, list_all}
use Rattle.std.specs.Option.{IfSome}
use Rattle.std.proofs.lemmas.Bool.{ltb-true, lt-ltb}
use Rattle.std.proofs.lemmas.List.{length-append}
use Rattle.zr_bytes.specs.declared.read_error.ReadError.TheVariants.{BadText}
use Rattle.zr_bytes.specs.Flag.{has_id}
use Rattle.zr_bytes.specs.Number.{Spells, writes}
use Rattle.zr_bytes.specs.Text.{SpellsText, writes_text}
use Rattle.zr_bytes.proofs.Numbers.{written_shortest}
use Rattle.zr_ext.specs.declared.ext.Form.{Form}
use Rattle.zr_ext.specs.Reading.{form_at}
use Rattle.zr_format_spec.specs.Format.{Format, gives, fails, unknown, choose, ◌then◌, series, is_whole, byte, number, below, text}
use Rattle.zr_format_spec.proofs.Spelled.{spelled_allows, spelled_checked}
use Rattle.zr_format_spec.proofs.Series.{spelled_series}
use Rattle.zr_id.specs.Zid.{is_zid}
use Rattle.zr_id.specs.Record.{LinkedState, RecordState, are_in_order}
use Rattle.zr_msg.specs.declared.decl.Decl.{Decl}
use Rattle.zr_msg.specs.declared.msg.Msg.{Msg}
use Rattle.zr_msg.specs.declared.msg.Msg.TheVariants.{State, Step, Snap}
use Rattle.zr_oam.specs.Oam.{zid, kind_of, is_canonical, decl, decl_may_follow, last_id, weight, link, next_decl, snapshot, change, declarations, own, state, other, or_bad_text, behind, oam_format}
use Rattle.zr_oam.specs.Reading.{oam_of}
use Rattle.zr_oam.proofs.Messages.{follows_oam, link_follows}
use Rattle.zr_oam.specs.Writing.{writes_decl, writes_snap, decls_in_order, is_decl, is_linked, Fits, IsMade, CanBeWritten}

abbrev pub AreBytes : List ℕ → Type 0
AreBytes bytes = AllByRecursion (λ b. b < 256) bytes

-- ---- no longer than a spelling

-- each item of a list is a byte
pub bytes_by : (xs : List ℕ) → ((k : ℕ) → k < length xs → get_or xs k 0 < 256) → AreBytes xs
bytes_by [] h = tt
bytes_by (x ∷ xs) h = (h 0 (omega arith), bytes_by xs (λ k l. h (suc k) (omega (arith, l))))

pub bytes_parts : (a b : List ℕ) → AreBytes (a ++ b) → AreBytes a × AreBytes b
bytes_parts [] b h = (tt, h)
bytes_parts (x ∷ a) b h = let rest = bytes_parts a b h.1 in ((h.0, rest.0), rest.1)

pub parts : (bytes a b : List ℕ) → bytes ≡ a ++ b → AreBytes bytes → AreBytes a × AreBytes b
parts bytes a b e h = bytes_parts a b (subst AreBytes e h)

-- what is written of a value is no longer than the bytes
abbrev IsShort : {X : Type 0} → Format X → (X → List ℕ) → Type 0
IsShort {X} p w = (x : X) (bytes : List ℕ) → AreBytes bytes → p.spelled x bytes → length (w x) ≤ length bytes

short_number : (n : ℕ) (bytes : List ℕ) → AreBytes bytes → Spells n bytes → length (writes n) ≤ length bytes
short_number n bytes h s = written_shortest 8 n bytes h s

short_text : (t bytes : List ℕ) → AreBytes bytes → SpellsText t bytes → length (writes_text t) ≤ length bytes
short_text t bytes h s =
    let front = short_number (length t) s.0 (parts bytes s.0 t s.2 h).0 s.1 in
    omega (arith, front, length-append (writes (length t)) t, ap length s.2, length-append s.0 t)

short_zid : (id bytes : List ℕ) → AreBytes bytes → zid.spelled id bytes → length (writes_text id) ≤ length bytes
short_zid id bytes h s = short_text id bytes h (spelled_checked (text 255) is_zid BadText id bytes s).0.1

decl_parts : (d : Decl) (bytes : List ℕ) → AreBytes bytes → decl.spelled d bytes → (length (writes_decl d) ≤ length bytes) × (is_decl d ≡ true)
decl_parts d bytes h s =
    let judged = spelled_allows (kind_of s.0) _ d s.2 s.5 in
    let key = judged.2 in
    let text = spelled_checked (text (2 ^ 16 - 1)) is_canonical BadText key.0 key.1 key.4 in
    let cut = (parts bytes s.1 s.2 s.3 h).1 in
    let long = short_text key.0 key.1 (parts s.2 key.1 key.2 key.3 cut).0 text.0.1 in
    let same : d.key ≡ key.0 = ap (λ (x : Decl). x.key) key.5.0 in (
      omega (arith, long, ap (λ (k : List ℕ). length (writes_text k)) same, ap length s.3, length-append s.1 s.2, ap length s.4, ap length key.3, length-append key.1 key.2),
      ap is_canonical same ∙ text.1,
    )

-- declarations in order
decls_parts : (last : Option Decl) (n : ℕ) (decls : List Decl) (bytes : List ℕ) → AreBytes bytes → (series next_decl last n).spelled decls bytes
    → (length (flat_map (λ d. writes_decl d) decls) ≤ length bytes) × (decls_in_order last decls ≡ true) × (list_all is_decl decls ≡ true) × (length decls ≡ n)
decls_parts last zero decls bytes h s = subst (λ (ds : List Decl). (length (flat_map (λ d. writes_decl d) ds) ≤ length bytes) × (decls_in_order last ds ≡ true) × (list_all is_decl ds ≡ true) × (length ds ≡ 0)) (sym s.0) (omega arith, refl, refl, refl)
decls_parts last (suc n) decls bytes h s =
    let d : Decl = s.0 in
    let next = spelled_checked decl (decl_may_follow last) BadText d s.1 s.4 in
    let cut = parts bytes s.1 s.2 s.3 h in
    let first = decl_parts d s.1 cut.0 next.0 in
    let tail = s.5 in
    let rest = decls_parts (Some d) n tail.0 tail.1 (parts s.2 tail.1 tail.2 tail.3 cut.1).0 tail.4 in
    let all : List ℕ = flat_map (λ x. writes_decl x) tail.0 in
    let long : length (writes_decl d ++ all) ≤ length bytes =
    omega (arith, first.0, rest.0, length-append (writes_decl d) all, ap length s.3, length-append s.1 s.2, ap length tail.3, length-append tail.1 tail.2) in
    let P : List Decl → Type 0 = λ ds. (length (flat_map (λ x. writes_decl x) ds) ≤ length bytes) × (decls_in_order last ds ≡ true) × (list_all is_decl ds ≡ true) × (length ds ≡ suc n) in
    subst P (sym tail.5.0) (long, rw (next.1, rest.1) refl, rw (first.1, rest.2) refl, omega (arith, rest.3))

-- ---- messages

snap_holds : (source : List ℕ) (n : ℕ) (m : Msg) (head bytes : List ℕ) → is_zid source ≡ true → 0 < n → AreBytes bytes → length (writes_text source ++ writes n) ≤ length head → length head + 1 + length bytes ≤ 2 ^ 32 - 1
    → (snapshot source n).spelled m bytes → CanBeWritten m
snap_holds source n m head bytes named positive h short long s =
    let cut = parts bytes s.1 s.2 s.3 h in
    let tail = s.5 in
    let all = decls_parts None s.0 tail.0 tail.1 (parts s.2 tail.1 tail.2 tail.3 cut.1).0 tail.4 in
    let decls : List Decl = tail.0 in
    let count : length (writes s.0) ≤ length s.1 = short_number s.0 s.1 cut.0 s.4.1 in
    let counted : length (writes (length decls)) ≤ length s.1 = subst (λ (k : ℕ). length (writes k) ≤ length s.1) (sym all.3) count in
    let flat : List ℕ = flat_map (λ d. writes_decl d) decls in
    let whole : length (writes_snap source n decls) < 2 ^ 32 =
    omega (arith, short, long, counted, all.0, length-append (0 ∷ (writes_text source ++ writes n)) (writes (length decls) ++ flat), length-append (writes (length decls)) flat, ap length s.3, length-append s.1 s.2, ap length tail.3, length-append tail.1 tail.2) in
    let few : length decls < 2 ^ 32 = omega (arith, all.3, s.4.0) in
    let good : CanBeWritten (Snap source n decls) = ((positive, few, all.1, whole), (named, all.2)) in
    subst CanBeWritten (sym tail.5.0) good

change_holds : (source : List ℕ) (n : ℕ) (added : Bool) (m : Msg) (bytes : List ℕ) → is_zid source ≡ true → 0 < n → AreBytes bytes → (change source n added).spelled m bytes → CanBeWritten m
change_holds source n added m bytes named positive h s =
    let d = decl_parts s.0 s.1 (parts bytes s.1 s.2 s.3 h).0 s.4 in
    let good : CanBeWritten (Step source n added s.0) = (positive, (named, d.1)) in
    subst CanBeWritten (sym s.5.0) good

declarations_hold : (m : Msg) (content : List ℕ) → AreBytes content → length content ≤ 2 ^ 32 - 1 → declarations.spelled m content → CanBeWritten m
declarations_hold m content h long s =
    let form = spelled_checked byte (λ form. ltb form 3) BadText s.0 s.1 s.4 in
    let c1 = parts content s.1 s.2 s.3 h in
    let z = s.5 in
    let c2 = parts s.2 z.1 z.2 z.3 c1.1 in
    let source = spelled_checked (text 255) is_zid BadText z.0 z.1 z.4 in
    let k = z.5 in
    let c3 = parts z.2 k.1 k.2 k.3 c2.1 in
    let n = spelled_checked number (λ n. ltb 0 n) BadText k.0 k.1 k.4 in
    let positive : 0 < k.0 = ltb-true 0 k.0 n.1 in
    let head : List ℕ = z.1 ++ k.1 in
    let short : length (writes_text z.0 ++ writes k.0) ≤ length head =
    omega (arith, short_text z.0 z.1 c2.0 source.0.1, short_number k.0 k.1 c3.0 n.0, length-append (writes_text z.0) (writes k.0), length-append z.1 k.1) in
    let total : length head + 1 + length k.2 ≤ 2 ^ 32 - 1 =
    omega (arith, long, ap length s.3, length-append s.1 s.2, ap length form.0, ap length z.3, length-append z.1 z.2, ap length k.3, length-append k.1 k.2, length-append z.1 k.1) in
    by z.0 k.0 (eqb s.0 0) (eqb s.0 1) k.2 source.1 positive c3.1 head short total k.5
  where
    by : (source : List ℕ) (n : ℕ) (snap added : Bool) (bytes : List ℕ) → is_zid source ≡ true → 0 < n → AreBytes bytes → (head : List ℕ) → length (writes_text source ++ writes n) ≤ length head → length head + 1 + length bytes ≤ 2 ^ 32 - 1
        → (choose snap (snapshot source n) (change source n added)).spelled m bytes → CanBeWritten m
    by source n true added bytes named positive b head short total t = snap_holds source n m head bytes named positive b short total t
    by source n false added bytes named positive b head short total t = change_holds source n added m bytes named positive b t

-- a weight that bytes spell is one
weight_holds : (weighted : Bool) (w : ℕ) (bytes : List ℕ) → (weight weighted).spelled w bytes → (ltb 0 w && ltb w (2 ^ 16)) ≡ true
weight_holds true w bytes s =
    let heavy = spelled_checked (below (2 ^ 16)) (λ w. ltb 0 w) BadText w bytes s in
    let small : ltb w (2 ^ 16) ≡ true = lt-ltb w (2 ^ 16) heavy.0.0 in
    rw (heavy.1, small) refl
weight_holds false w bytes s = ap (λ (n : ℕ). ltb 0 n && ltb n (2 ^ 16)) s.0

link_holds : (weighted : Bool) (own : List ℕ) (last : Option LinkedState) (x : LinkedState) (bytes : List ℕ) → (link weighted own last).spelled x bytes → is_linked x ≡ true
link_holds weighted own last x bytes s =
    let named = (link_follows weighted own last x bytes s).1 in
    let heavy = weight_holds weighted s.5.0 s.5.1 s.5.4 in
    let weighs : (ltb 0 x.weight && ltb x.weight (2 ^ 16)) ≡ true = ap (λ (l : LinkedState). ltb 0 l.weight && ltb l.weight (2 ^ 16)) s.5.5.0 ∙ heavy in
    rw (named, weighs) refl

state_holds : (weighted : Bool) (m : Msg) (content : List ℕ) → AreBytes content → length content ≤ 2 ^ 32 - 1 → (state weighted).spelled m content → CanBeWritten m
state_holds weighted m content h long s =
    let r = s.4 in
    let id = spelled_checked (text 255) is_zid BadText r.0 r.1 r.4 in
    let count = r.5.5 in
    let links = count.5 in
    let all = spelled_series (link weighted r.0) (λ last xs. (are_in_order r.0 (last_id last) xs ≡ true) × (list_all is_linked xs ≡ true)) (λ last. (refl, refl)) step None count.0 links.0 links.1 links.4 in
    let few : ltb (length links.0) (2 ^ 16) ≡ true = lt-ltb (length links.0) (2 ^ 16) (omega (arith, all.1, count.4.0)) in
    let made : IsMade (State (record { id = r.0; seq = r.5.0; links = links.0 })) = (id.1, rw (few, all.0.0) refl, all.0.1) in
    let same : State s.0 ≡ State (record { id = r.0; seq = r.5.0; links = links.0 }) = ap (λ (x : RecordState). State x) links.5.0 in
    subst CanBeWritten (sym (s.5.0 ∙ same)) (tt, made)
  where
    step : (last : Option LinkedState) (x : LinkedState) (xs : List LinkedState) (b : List ℕ) → (link weighted s.4.0 last).spelled x b → (are_in_order s.4.0 (Some x.id) xs ≡ true) × (list_all is_linked xs ≡ true)
        → (are_in_order s.4.0 (last_id last) (x ∷ xs) ≡ true) × (list_all is_linked (x ∷ xs) ≡ true)
    step last x xs b t ih =
        let follows = (link_follows weighted s.4.0 last x b t).0 in
        let linked = link_holds weighted s.4.0 last x b t in
        (rw (follows, ih.0) refl, rw (linked, ih.1) refl)

abbrev Holds : Option Msg → Type 0
Holds None = Unit {0}
Holds (Some m) = CanBeWritten m

own_holds : (message : Format Msg) → ((m : Msg) (content : List ℕ) → AreBytes content → length content ≤ 2 ^ 32 - 1 → message.spelled m content → CanBeWritten m)
    → (b : Bool) (o : Option Msg) (bytes : List ℕ) → AreBytes bytes → (choose b (text (2 ^ 32 - 1) then λ content. is_whole message content then λ m. gives (Some m)) (fails BadText)).spelled o bytes → Holds o
own_holds message each true o bytes h s =
    let front = parts bytes s.1 s.2 s.3 h in
    let content = (parts s.1 s.4.1.0 s.0 s.4.1.2 front.0).1 in
    subst Holds (sym s.5.5.0) (each s.5.0 s.0 content s.4.0 s.5.4.0)
own_holds message each false o bytes h s = absurd s

other_holds : (header : ℕ) (form : Form) (o : Option Msg) (bytes : List ℕ) → (other header form).spelled o bytes → Holds o
other_holds header form o bytes s = subst Holds (sym s.5.5.0) tt

behind_holds : (header : ℕ) (o : Option Msg) (bytes : List ℕ) → AreBytes bytes → (behind header).spelled o bytes → Holds o
behind_holds header o bytes h s =
    let judged = spelled_allows (or_bad_text (form_at (bit_and header 0x60))) _ o bytes s in
    let id = judged.2 in
    by judged.0 (eqb id.0 0x5A01) (eqb id.0 0x5A03) (eqb id.0 0x5A02) id.2 (parts bytes id.1 id.2 id.3 h).1 id.5
  where
    by : (form : Form) (record_id weighted_id entry_id : Bool) (bytes : List ℕ) → AreBytes bytes
        → (choose record_id (own (state false) header) (choose weighted_id (own (state true) header) (choose entry_id (own declarations header) (other header form)))).spelled o bytes → Holds o
    by form true w e bytes b t = own_holds (state false) (state_holds false) (eqb header 0x5F) o bytes b t
    by form false true e bytes b t = own_holds (state true) (state_holds true) (eqb header 0x5F) o bytes b t
    by form false false true bytes b t = own_holds declarations declarations_hold (eqb header 0x5F) o bytes b t
    by form false false false bytes b t = other_holds header form o bytes t

pub spelled_holds : (m : Msg) (bytes : List ℕ) → AreBytes bytes → oam_format.spelled (Some m) bytes → CanBeWritten m
spelled_holds m bytes h s = by (has_id s.0 0x1F) s.5
  where
    by : (b : Bool) → (choose b (behind s.0) unknown).spelled (Some m) s.2 → CanBeWritten m
    by true t = behind_holds s.0 (Some m) s.2 (parts bytes s.1 s.2 s.3 h).1 t
    by false t = absurd t

-- what was read has a spelling
pub read_fits : (bytes rest : List ℕ) (o : Option Msg) → AreBytes bytes → oam_of bytes ≡ Ok (o, rest) → IfSome o (λ m. Fits m)
read_fits bytes rest None h e = tt
read_fits bytes rest (Some m) h e =
    let found = (follows_oam.found bytes rest (Some m) e).0 in
    (spelled_holds m found.0 (parts bytes found.0 rest found.2 h).0 found.1).0
