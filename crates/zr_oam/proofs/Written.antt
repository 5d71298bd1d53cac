-- What is written spells the message.
use Rattle.std.proofs.Common.{◌≡◌, ℕ, ◌+◌, ◌-◌, ◌*◌, ◌^◌, ◌<◌, ◌≤◌, Bool, true, false, List, [], ◌∷◌, ◌++◌, length, Option, Some, None, Ok, refl, sym, ap, arith, append_assoc, ltb, eqb}
use Rattle.std.specs.List.{flat_map, list_all}
use Rattle.std.specs.Prelude.{◌&&◌, ◌||◌, ◌==◌, if◌then◌else◌}
use Rattle.std.proofs.lemmas.Bool.{and_parts, lt-ltb, ltb-true, eqb-true}
use Rattle.std.proofs.lemmas.List.{append-nil, length-append}
use Rattle.zr_bytes.specs.declared.read_error.ReadError.TheVariants.{BadText}
use Rattle.zr_bytes.specs.Number.{writes}
use Rattle.zr_bytes.specs.Text.{writes_text}
use Rattle.zr_bytes.proofs.Numbers.{written_spells, written_long}
use Rattle.zr_format_spec.specs.Format.{Format, gives, choose, ◌then◌, checked, series, byte, number, below, text}
use Rattle.zr_format_spec.proofs.Spelled.{checked_spelled, allows_spelled}
use Rattle.zr_format_spec.proofs.Series.{series_spelled}
use Rattle.zr_id.specs.Zid.{is_zid}
use Rattle.zr_id.specs.Record.{LinkedState, RecordState, may_follow, are_in_order, are_links}
use Rattle.zr_msg.specs.declared.decl.Decl.{Decl}
use Rattle.zr_msg.specs.declared.decl.Kind.{Kind}
use Rattle.zr_msg.specs.declared.decl.Kind.TheVariants as kind
use Rattle.zr_msg.specs.declared.msg.Msg.{Msg}
use Rattle.zr_msg.specs.declared.msg.Msg.TheVariants.{Sub, Unsub, Token, Untoken, Able, Unable, Interest, EndInterest, ToldSub, ToldAble, ToldUnsub, ToldToken, ToldUntoken, ToldUnable, ToldEnd, Push, Request, Response, Final, State, Step, Snap}
use Rattle.zr_oam.specs.Oam.{zid, kind_byte, kind_of, is_canonical, decl, decl_may_follow, last_id, weight, link, record_format, next_decl, snapshot, change, declarations, own, state, oam_format}
use Rattle.zr_oam.specs.Writing.{writes_decl, writes_linked, writes_record, weigh_one, is_linked, writes_head, writes_step, writes_snap, writes_own, writes_oam, decls_in_order, is_decl, Fits, IsMade, CanBeWritten}
use Rattle.zr_oam.proofs.Keys.{zid_small, key_small}

text_spelled : (limit : ℕ) (t : List ℕ) → length t ≤ limit → (text limit).spelled t (writes_text t)
text_spelled limit t le = (le, (writes (length t), written_spells 8 (length t), refl))

zid_spelled : (id : List ℕ) → is_zid id ≡ true → zid.spelled id (writes_text id)
zid_spelled id named = checked_spelled (text 255) is_zid BadText id (writes_text id) (text_spelled 255 id (zid_small id named)) named

kind_back : (k : Kind) → kind_of (kind_byte k) ≡ Ok k
kind_back kind.Sub = refl
kind_back kind.Able = refl
kind_back kind.Full = refl
kind_back kind.Token = refl

decl_spelled : (d : Decl) → is_decl d ≡ true → decl.spelled d (writes_decl d)
decl_spelled d canonical =
    let short : length d.key ≤ 2 ^ 16 - 1 = omega (arith, key_small d.key canonical) in
    let key = checked_spelled (text (2 ^ 16 - 1)) is_canonical BadText d.key (writes_text d.key) (text_spelled (2 ^ 16 - 1) d.key short) canonical in
    let made : Kind → Format Decl = λ k. checked (text (2 ^ 16 - 1)) is_canonical BadText then λ x. gives (record { kind = k; key = x }) in
    let behind : (made d.kind).spelled d (writes_text d.key) = (d.key, writes_text d.key, [], sym (append-nil (writes_text d.key)), key, (refl, refl)) in
    (kind_byte d.kind, kind_byte d.kind ∷ [], writes_text d.key, refl, refl, allows_spelled (kind_of (kind_byte d.kind)) made d.kind d (writes_text d.key) (kind_back d.kind) behind)

-- ---- the content of each

-- whether a record of this form tells the weight of a link
abbrev tells : Bool → LinkedState → Bool
tells weighted x = weighted || x.weight == 1

weight_spelled : (weighted : Bool) (w : ℕ) → (ltb 0 w && ltb w (2 ^ 16)) ≡ true → (weighted || w == 1) ≡ true → (weight weighted).spelled w (if weighted then writes w else [])
weight_spelled true w heavy told =
    let both = and_parts (ltb 0 w) (ltb w (2 ^ 16)) heavy in
    checked_spelled (below (2 ^ 16)) (λ k. ltb 0 k) BadText w (writes w) (ltb-true w (2 ^ 16) both.1, written_spells 8 w) both.0
weight_spelled false w heavy told = (eqb-true w 1 told, refl)

abbrev LinksGo : Bool → List ℕ → Option LinkedState → List LinkedState → Type 0
LinksGo weighted id last xs = (are_in_order id (last_id last) xs ≡ true) × (list_all is_linked xs ≡ true) × (list_all (tells weighted) xs ≡ true)

links_spelled : (weighted : Bool) (id : List ℕ) (links : List LinkedState) → are_links id links ≡ true → list_all is_linked links ≡ true → list_all (tells weighted) links ≡ true
    → (series (link weighted id) None (length links)).spelled links (flat_map (λ x. writes_linked weighted x) links)
links_spelled weighted id links ordered made told =
    let both = and_parts (ltb (length links) (2 ^ 16)) (are_in_order id None links) ordered in
    series_spelled (link weighted id) (λ x. writes_linked weighted x) (LinksGo weighted id) each None links (length links) refl (both.1, made, told)
  where
    each : (last : Option LinkedState) (x : LinkedState) (xs : List LinkedState) → LinksGo weighted id last (x ∷ xs) → (link weighted id last).spelled x (writes_linked weighted x) × LinksGo weighted id (Some x) xs
    each last x xs g =
        let order = and_parts (may_follow id (last_id last) x.id) (are_in_order id (Some x.id) xs) g.0 in
        let these = and_parts (is_linked x) (list_all is_linked xs) g.1 in
        let parts = and_parts (is_zid x.id) (ltb 0 x.weight && ltb x.weight (2 ^ 16)) these.0 in
        let tell = and_parts (tells weighted x) (list_all (tells weighted) xs) g.2 in
        let front = checked_spelled zid (may_follow id (last_id last)) BadText x.id (writes_text x.id) (zid_spelled x.id parts.0) order.0 in
        let tail : List ℕ = if weighted then writes x.weight else [] in
        let weighs = weight_spelled weighted x.weight parts.1 tell.0 in
        ((x.id, writes_text x.id, tail, refl, front, (x.weight, tail, [], sym (append-nil tail), weighs, (refl, refl))), (order.1, these.1, tell.1))

record_spelled : (weighted : Bool) (r : RecordState) → is_zid r.id ≡ true → are_links r.id r.links ≡ true → list_all is_linked r.links ≡ true → list_all (tells weighted) r.links ≡ true
    → (record_format weighted).spelled r (writes_record weighted r)
record_spelled weighted r named ordered links told =
    let few : length r.links < 2 ^ 16 = ltb-true (length r.links) (2 ^ 16) ((and_parts (ltb (length r.links) (2 ^ 16)) (are_in_order r.id None r.links) ordered).0) in
    let ids : List ℕ = flat_map (λ x. writes_linked weighted x) r.links in
    let counted : List ℕ = writes (length r.links) ++ ids in (
      r.id,
      writes_text r.id,
      writes r.seq ++ counted,
      refl,
      zid_spelled r.id named,
      (
        r.seq,
        writes r.seq,
        counted,
        refl,
        written_spells 8 r.seq,
        (
          length r.links,
          writes (length r.links),
          ids,
          refl,
          (few, written_spells 8 (length r.links)),
          (r.links, ids, [], sym (append-nil ids), links_spelled weighted r.id r.links ordered links told, (refl, refl)),
        ),
      ),
    )

state_spelled : (weighted : Bool) (r : RecordState) → IsMade (State r) → list_all (tells weighted) r.links ≡ true → (state weighted).spelled (State r) (writes_record weighted r)
state_spelled weighted r made told =
    let bytes : List ℕ = writes_record weighted r in
    (r, bytes, [], sym (append-nil bytes), record_spelled weighted r made.0 made.1 made.2 told, (refl, refl))

-- ---- entries

head_spelled : (form : ℕ) (source : List ℕ) (n : ℕ) (m : Msg) (tail : List ℕ) → form < 3 → is_zid source ≡ true → 0 < n → (choose (eqb form 0) (snapshot source n) (change source n (eqb form 1))).spelled m tail
    → declarations.spelled m (writes_head form source n ++ tail)
head_spelled form source n m tail small named positive s =
    let whole : writes_head form source n ++ tail ≡ form ∷ (writes_text source ++ (writes n ++ tail)) = ap (λ (xs : List ℕ). form ∷ xs) (append_assoc (writes_text source) (writes n) tail) in (
      form,
      form ∷ [],
      writes_text source ++ (writes n ++ tail),
      whole,
      checked_spelled byte (λ f. ltb f 3) BadText form (form ∷ []) refl (lt-ltb form 3 small),
      (
        source,
        writes_text source,
        writes n ++ tail,
        refl,
        zid_spelled source named,
        (n, writes n, tail, refl, checked_spelled number (λ k. ltb 0 k) BadText n (writes n) (written_spells 8 n) (lt-ltb 0 n positive), s),
      ),
    )

step_spelled : (source : List ℕ) (n : ℕ) (added : Bool) (d : Decl) → 0 < n → IsMade (Step source n added d) → declarations.spelled (Step source n added d) (writes_step source n added d)
step_spelled source n true d positive made =
    head_spelled 1 source n (Step source n true d) (writes_decl d) (omega arith) made.0 positive (d, writes_decl d, [], sym (append-nil (writes_decl d)), decl_spelled d made.1, (refl, refl))
step_spelled source n false d positive made =
    head_spelled 2 source n (Step source n false d) (writes_decl d) (omega arith) made.0 positive (d, writes_decl d, [], sym (append-nil (writes_decl d)), decl_spelled d made.1, (refl, refl))

decls_spelled : (decls : List Decl) → decls_in_order None decls ≡ true → list_all is_decl decls ≡ true → (series next_decl None (length decls)).spelled decls (flat_map (λ d. writes_decl d) decls)
decls_spelled decls ordered made =
    series_spelled next_decl (λ d. writes_decl d) (λ last ds. (decls_in_order last ds ≡ true) × (list_all is_decl ds ≡ true)) each None decls (length decls) refl (ordered, made)
  where
    each : (last : Option Decl) (d : Decl) (ds : List Decl) → (decls_in_order last (d ∷ ds) ≡ true) × (list_all is_decl (d ∷ ds) ≡ true) → (next_decl last).spelled d (writes_decl d) × ((decls_in_order (Some d) ds ≡ true) × (list_all is_decl ds ≡ true))
    each last d ds g =
        let order = and_parts (decl_may_follow last d) (decls_in_order (Some d) ds) g.0 in
        let keys = and_parts (is_decl d) (list_all is_decl ds) g.1 in
        (checked_spelled decl (decl_may_follow last) BadText d (writes_decl d) (decl_spelled d keys.0) order.0, (order.1, keys.1))

snap_spelled : (source : List ℕ) (n : ℕ) (decls : List Decl) → 0 < n → length decls < 2 ^ 32 → decls_in_order None decls ≡ true → IsMade (Snap source n decls) → declarations.spelled (Snap source n decls) (writes_snap source n decls)
snap_spelled source n decls positive few ordered made =
    let all : List ℕ = flat_map (λ d. writes_decl d) decls in
    head_spelled 0 source n (Snap source n decls) (writes (length decls) ++ all) (omega arith) made.0 positive
    (length decls, writes (length decls), all, refl, (few, written_spells 8 (length decls)), (decls, all, [], sym (append-nil all), decls_spelled decls ordered made.1, (refl, refl)))

-- ---- how long the content is

text_long : (t : List ℕ) → length (writes_text t) ≤ length t + 9
text_long t = omega (arith, length-append (writes (length t)) t, written_long 8 (length t))

weight_long : (weighted : Bool) (w : ℕ) → length (if weighted then writes w else []) ≤ 9
weight_long true w = written_long 8 w
weight_long false w = omega arith

linked_long : (weighted : Bool) (x : LinkedState) → is_linked x ≡ true → length (writes_linked weighted x) ≤ 273
linked_long weighted x made =
    let named = (and_parts (is_zid x.id) (ltb 0 x.weight && ltb x.weight (2 ^ 16)) made).0 in
    let tail : List ℕ = if weighted then writes x.weight else [] in
    omega (arith, length-append (writes_text x.id) tail, text_long x.id, zid_small x.id named, weight_long weighted x.weight)

links_long : (weighted : Bool) (links : List LinkedState) → list_all is_linked links ≡ true → length (flat_map (λ x. writes_linked weighted x) links) ≤ 273 * length links
links_long weighted [] made = omega arith
links_long weighted (x ∷ links) made =
    let both = and_parts (is_linked x) (list_all is_linked links) made in
    omega (arith, length-append (writes_linked weighted x) (flat_map (λ x. writes_linked weighted x) links), linked_long weighted x both.0, links_long weighted links both.1)

record_long : (weighted : Bool) (r : RecordState) → IsMade (State r) → length (writes_record weighted r) ≤ 2 ^ 32 - 1
record_long weighted r made =
    let few : length r.links < 2 ^ 16 = ltb-true (length r.links) (2 ^ 16) ((and_parts (ltb (length r.links) (2 ^ 16)) (are_in_order r.id None r.links) made.1).0) in
    let ids : List ℕ = flat_map (λ x. writes_linked weighted x) r.links in
    let long : length ids ≤ 273 * length r.links = links_long weighted r.links made.2 in
    omega (
      arith,
      length-append (writes_text r.id) (writes r.seq ++ (writes (length r.links) ++ ids)),
      length-append (writes r.seq) (writes (length r.links) ++ ids),
      length-append (writes (length r.links)) ids,
      text_long r.id,
      zid_small r.id made.0,
      written_long 8 r.seq,
      written_long 8 (length r.links),
      long,
      few,
    )

step_long : (source : List ℕ) (n : ℕ) (added : Bool) (d : Decl) → IsMade (Step source n added d) → length (writes_step source n added d) ≤ 2 ^ 32 - 1
step_long source n added d made =
    let head : List ℕ = writes_text source ++ writes n in
    omega (arith, length-append head (writes_decl d), length-append (writes_text source) (writes n), text_long source, zid_small source made.0, written_long 8 n, text_long d.key, key_small d.key made.1)

-- ---- the message

own_spelled : (message : Format Msg) (m : Msg) (text : List ℕ) → length text ≤ 2 ^ 32 - 1 → message.spelled m text → (own message 0x5F).spelled (Some m) (writes_text text)
own_spelled message m text le s = (text, writes_text text, [], sym (append-nil (writes_text text)), text_spelled (2 ^ 32 - 1) text le, (m, [], [], refl, (s, refl), (refl, refl)))

record_message : (m : Msg) (text : List ℕ) → (own (state false) 0x5F).spelled (Some m) (writes_text text) → oam_format.spelled (Some m) (writes_own 0x5A01 text)
record_message m text s = (0x5F, 0x5F ∷ [], writes 0x5A01 ++ writes_text text, refl, refl, (0x5A01, writes 0x5A01, writes_text text, refl, (omega arith, written_spells 8 0x5A01), s))

weighted_message : (m : Msg) (text : List ℕ) → (own (state true) 0x5F).spelled (Some m) (writes_text text) → oam_format.spelled (Some m) (writes_own 0x5A03 text)
weighted_message m text s = (0x5F, 0x5F ∷ [], writes 0x5A03 ++ writes_text text, refl, refl, (0x5A03, writes 0x5A03, writes_text text, refl, (omega arith, written_spells 8 0x5A03), s))

entry_message : (m : Msg) (text : List ℕ) → (own declarations 0x5F).spelled (Some m) (writes_text text) → oam_format.spelled (Some m) (writes_own 0x5A02 text)
entry_message m text s = (0x5F, 0x5F ∷ [], writes 0x5A02 ++ writes_text text, refl, refl, (0x5A02, writes 0x5A02, writes_text text, refl, (omega arith, written_spells 8 0x5A02), s))

each_told : (links : List LinkedState) → list_all (tells true) links ≡ true
each_told [] = refl
each_told (x ∷ links) = each_told links

record_said : (r : RecordState) (one : Bool) → IsMade (State r) → weigh_one r.links ≡ one
    → oam_format.spelled (Some (State r)) (if one then writes_own 0x5A01 (writes_record false r) else writes_own 0x5A03 (writes_record true r))
record_said r true made each =
    record_message (State r) (writes_record false r) (own_spelled (state false) (State r) (writes_record false r) (record_long false r made) (state_spelled false r made each))
record_said r false made each =
    weighted_message (State r) (writes_record true r) (own_spelled (state true) (State r) (writes_record true r) (record_long true r made) (state_spelled true r made (each_told r.links)))

said : (m : Msg) → Fits m → IsMade m → oam_format.spelled (Some m) (writes_oam m)
said (State r) fits made = record_said r (weigh_one r.links) made refl
said (Step source n added d) fits made =
    entry_message (Step source n added d) (writes_step source n added d) (own_spelled declarations (Step source n added d) (writes_step source n added d) (step_long source n added d made) (step_spelled source n added d fits made))
said (Snap source n decls) fits made =
    entry_message (Snap source n decls) (writes_snap source n decls) (own_spelled declarations (Snap source n decls) (writes_snap source n decls) (omega (arith, fits.3)) (snap_spelled source n decls fits.0 fits.1 fits.2 made))
said (Sub id key) fits made = absurd fits
said (Unsub id) fits made = absurd fits
said (Token id key) fits made = absurd fits
said (Untoken id) fits made = absurd fits
said (Able id key complete) fits made = absurd fits
said (Unable id) fits made = absurd fits
said (Interest id current future kinds key aggregate) fits made = absurd fits
said (EndInterest id) fits made = absurd fits
said (ToldSub id key interest) fits made = absurd fits
said (ToldToken id key interest) fits made = absurd fits
said (ToldAble id key complete interest) fits made = absurd fits
said (ToldUnsub id) fits made = absurd fits
said (ToldUntoken id) fits made = absurd fits
said (ToldUnable id) fits made = absurd fits
said (ToldEnd interest) fits made = absurd fits
said (Push tree content) fits made = absurd fits
said (Request tree id target content) fits made = absurd fits
said (Response id content) fits made = absurd fits
said (Final id extras) fits made = absurd fits

pub message_spelled : (m : Msg) → CanBeWritten m → oam_format.spelled (Some m) (writes_oam m)
message_spelled m h = said m h.0 h.1
