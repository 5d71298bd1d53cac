-- The reader of messages between routers follows their format, put together part by part.
use Rattle.std.proofs.Common.{◌≡◌, ℕ, ◌-◌, ◌^◌, ◌<◌, Bool, true, false, List, [], ◌∷◌, Option, Some, None, length, eqb, ltb, Ok, refl, ap, ◌∙◌, arith}
use Rattle.std.specs.Prelude.{bit_and}
use Rattle.std.proofs.lemmas.Bool.{lt-ltb}
use Rattle.zr_bytes.specs.declared.read_error.ReadError.TheVariants.{BadText}
use Rattle.zr_bytes.specs.Flag.{has_id}
use Rattle.zr_bytes.specs.Reading.{byte_of, number_of, number_below, text_of}
use Rattle.zr_ext.specs.declared.ext.Form.{Form}
use Rattle.zr_ext.specs.Reading.{form_at, content_of}
use Rattle.zr_ext.specs.Finding.{without_value}
use Rattle.zr_format_spec.specs.Format.{Format, gives, checked, passed, series, byte, number, below, text, content, extensions}
use Rattle.zr_format_spec.specs.Reading.{Reader, series_of, exts_of}
use Rattle.zr_format_spec.specs.Laws.{anywhere}
use Rattle.zr_format_spec.proofs.Follows.{Follows, follows_gives, follows_fails, follows_unknown, follows_choose, follows_then, follows_allows, follows_checked, follows_passed, follows_series, follows_whole_then, follows_byte, follows_number, follows_below, follows_text, follows_content, follows_extensions}
use Rattle.zr_format_spec.proofs.Spelled.{spelled_checked}
use Rattle.zr_format_spec.proofs.Series.{spelled_series}
use Rattle.zr_id.specs.Zid.{is_zid}
use Rattle.zr_id.specs.Record.{LinkedState, may_follow, are_in_order, are_links}
use Rattle.zr_msg.specs.declared.decl.Decl.{Decl}
use Rattle.zr_msg.specs.declared.msg.Msg.{Msg}
use Rattle.zr_msg.specs.declared.msg.Msg.TheVariants.{State, Step, Snap}
use Rattle.zr_oam.specs.Oam.{zid, kind_of, is_canonical, decl, decl_may_follow, last_id, weight, link, record_format, next_decl, snapshot, change, declarations, own, state, other, or_bad_text, behind, oam_format}
use Rattle.zr_oam.specs.Reading.{zid_of, key_of, decl_of, weight_of, neighbour_of, link_of, record_of, state_of, next_decl_of, snapshot_of, change_of, form_of, entry_number_of, declarations_of, own_of, other_of, behind_of, oam_of}

follows_zid : Follows anywhere zid zid_of
unfolding zid_of
follows_zid = follows_checked (text 255) (text_of 255) is_zid BadText (follows_text 255)

follows_key : Follows anywhere (checked (text (2 ^ 16 - 1)) is_canonical BadText) key_of
unfolding key_of
follows_key = follows_checked (text (2 ^ 16 - 1)) (text_of (2 ^ 16 - 1)) is_canonical BadText (follows_text (2 ^ 16 - 1))

follows_decl : Follows anywhere decl decl_of
unfolding decl_of
follows_decl =
    follows_then anywhere byte _ byte_of _ follows_byte (λ b.
    follows_allows anywhere (kind_of b) _ _ (λ kind.
    follows_then anywhere _ _ key_of _ follows_key (λ key.
    follows_gives anywhere (record { kind = kind; key = key }) (λ rest. tt))))

follows_weight : (weighted : Bool) → Follows anywhere (weight weighted) (weight_of weighted)
unfolding weight_of
follows_weight weighted =
    follows_choose anywhere weighted _ _ _ _ (follows_checked (below (2 ^ 16)) (number_below (2 ^ 16)) (λ w. ltb 0 w) BadText (follows_below (2 ^ 16))) (follows_gives anywhere 1 (λ rest. tt))

follows_neighbour : (own : List ℕ) (last : Option LinkedState) → Follows anywhere (checked zid (may_follow own (last_id last)) BadText) (neighbour_of own last)
unfolding neighbour_of
follows_neighbour own last = follows_checked zid zid_of (may_follow own (last_id last)) BadText follows_zid

follows_link : (weighted : Bool) (own : List ℕ) (last : Option LinkedState) → Follows anywhere (link weighted own last) (link_of weighted own last)
unfolding link_of
follows_link weighted own last =
    follows_then anywhere _ _ (neighbour_of own last) _ (follows_neighbour own last) (λ id.
    follows_then anywhere (weight weighted) _ (weight_of weighted) _ (follows_weight weighted) (λ w.
    follows_gives anywhere (record { id = id; weight = w }) (λ rest. tt)))

follows_record : (weighted : Bool) → Follows anywhere (record_format weighted) (record_of weighted)
unfolding record_of
follows_record weighted =
    follows_then anywhere zid _ zid_of _ follows_zid (λ id.
    follows_then anywhere number _ number_of _ follows_number (λ seq.
    follows_then anywhere (below (2 ^ 16)) _ (number_below (2 ^ 16)) _ (follows_below (2 ^ 16)) (λ count.
    follows_then anywhere (series (link weighted id) None count) _ (series_of (link_of weighted id) None count) _ (follows_series (link weighted id) (link_of weighted id) (follows_link weighted id) None count) (λ links.
    follows_gives anywhere (record { id = id; seq = seq; links = links }) (λ rest. tt)))))

follows_state : (weighted : Bool) → Follows anywhere (state weighted) (state_of weighted)
unfolding state_of
follows_state weighted = follows_then anywhere (record_format weighted) _ (record_of weighted) _ (follows_record weighted) (λ r. follows_gives anywhere (State r) (λ rest. tt))

follows_next : (last : Option Decl) → Follows anywhere (next_decl last) (next_decl_of last)
unfolding next_decl_of
follows_next last = follows_checked decl decl_of (decl_may_follow last) BadText follows_decl

follows_snapshot : (source : List ℕ) (n : ℕ) → Follows anywhere (snapshot source n) (snapshot_of source n)
unfolding snapshot_of
follows_snapshot source n =
    follows_then anywhere (below (2 ^ 32)) _ (number_below (2 ^ 32)) _ (follows_below (2 ^ 32)) (λ count.
    follows_then anywhere (series next_decl None count) _ (series_of next_decl_of None count) _ (follows_series next_decl next_decl_of follows_next None count) (λ decls.
    follows_gives anywhere (Snap source n decls) (λ rest. tt)))

follows_change : (source : List ℕ) (n : ℕ) (added : Bool) → Follows anywhere (change source n added) (change_of source n added)
unfolding change_of
follows_change source n added = follows_then anywhere decl _ decl_of _ follows_decl (λ d. follows_gives anywhere (Step source n added d) (λ rest. tt))

follows_form : Follows anywhere (checked byte (λ form. ltb form 3) BadText) form_of
unfolding form_of
follows_form = follows_checked byte byte_of (λ form. ltb form 3) BadText follows_byte

follows_entry_number : Follows anywhere (checked number (λ n. ltb 0 n) BadText) entry_number_of
unfolding entry_number_of
follows_entry_number = follows_checked number number_of (λ n. ltb 0 n) BadText follows_number

follows_declarations : Follows anywhere declarations declarations_of
unfolding declarations_of
follows_declarations =
    follows_then anywhere _ _ form_of _ follows_form (λ form.
    follows_then anywhere zid _ zid_of _ follows_zid (λ source.
    follows_then anywhere _ _ entry_number_of _ follows_entry_number (λ n.
    follows_choose anywhere (eqb form 0) _ _ _ _ (follows_snapshot source n) (follows_change source n (eqb form 1)))))

follows_own : (message : Format Msg) (read : Reader Msg) → Follows anywhere message read → (header : ℕ) → Follows anywhere (own message header) (own_of read header)
unfolding own_of
follows_own message read f header =
    follows_choose anywhere (eqb header 0x5F) _ _ _ _
    (follows_then anywhere (text (2 ^ 32 - 1)) _ (text_of (2 ^ 32 - 1)) _ (follows_text (2 ^ 32 - 1)) (λ content.
    follows_whole_then anywhere message read content (λ m. gives (Some m)) (λ m bytes. Ok (Some m, bytes)) f (λ m. follows_gives anywhere (Some m) (λ rest. tt))))
    (follows_fails anywhere BadText)

follows_other : (header : ℕ) (form : Form) → Follows anywhere (other header form) (other_of header form)
unfolding other_of
follows_other header form =
    follows_then anywhere (extensions [] header) _ (exts_of [] header) _ (follows_extensions [] header) (λ exts.
    follows_then anywhere (passed (content form)) _ (λ bytes. without_value (content_of form bytes)) _ (follows_passed (content form) (content_of form) (follows_content form)) (λ none.
    follows_gives anywhere None (λ rest. tt)))

follows_behind : (header : ℕ) → Follows anywhere (behind header) (behind_of header)
unfolding behind_of
follows_behind header =
    follows_allows anywhere (or_bad_text (form_at (bit_and header 0x60))) _ _ (λ form.
    follows_then anywhere (below (2 ^ 16)) _ (number_below (2 ^ 16)) _ (follows_below (2 ^ 16)) (λ id.
    follows_choose anywhere (eqb id 0x5A01) _ _ _ _ (follows_own (state false) (state_of false) (follows_state false) header)
    (follows_choose anywhere (eqb id 0x5A03) _ _ _ _ (follows_own (state true) (state_of true) (follows_state true) header)
    (follows_choose anywhere (eqb id 0x5A02) _ _ _ _ (follows_own declarations declarations_of follows_declarations header) (follows_other header form)))))

pub follows_oam : Follows anywhere oam_format oam_of
unfolding oam_of
follows_oam =
    follows_then anywhere byte _ byte_of _ follows_byte (λ header.
    follows_choose anywhere (has_id header 0x1F) _ _ _ _ (follows_behind header) (follows_unknown anywhere))

-- ---- what was read is in order

-- the router of a link that bytes spell may stand there, and is an identifier
pub link_follows : (weighted : Bool) (own : List ℕ) (last : Option LinkedState) (link' : LinkedState) (bytes : List ℕ) → (link weighted own last).spelled link' bytes
    → (may_follow own (last_id last) link'.id ≡ true) × (is_zid link'.id ≡ true)
link_follows weighted own last link' bytes s =
    let id = spelled_checked zid (may_follow own (last_id last)) BadText s.0 s.1 s.4 in
    let named = (spelled_checked (text 255) is_zid BadText s.0 s.1 id.0).1 in
    let same : link'.id ≡ s.0 = ap (λ (x : LinkedState). x.id) s.5.5.0 in
    (ap (may_follow own (last_id last)) same ∙ id.1, ap is_zid same ∙ named)

pub links_are_links : (weighted : Bool) (own : List ℕ) (count : ℕ) (bytes rest : List ℕ) (links : List LinkedState) → count < 2 ^ 16 → series_of (link_of weighted own) None count bytes ≡ Ok (links, rest)
    → are_links own links ≡ true
links_are_links weighted own count bytes rest links small read =
    let begins = ((follows_series (link weighted own) (link_of weighted own) (follows_link weighted own) None count).found bytes rest links read).0 in
    let ordered = spelled_series (link weighted own) (λ last xs. are_in_order own (last_id last) xs ≡ true) (λ last. refl) step None count links begins.0 begins.1 in
    let few : ltb (length links) (2 ^ 16) ≡ true = lt-ltb (length links) (2 ^ 16) (omega (arith, ordered.1)) in
    rw (few, ordered.0) refl
  where
    step : (last : Option LinkedState) (x : LinkedState) (xs : List LinkedState) (b : List ℕ) → (link weighted own last).spelled x b → are_in_order own (Some x.id) xs ≡ true → are_in_order own (last_id last) (x ∷ xs) ≡ true
    step last x xs b s ih = let follows = (link_follows weighted own last x b s).0 in rw (follows, ih) refl
