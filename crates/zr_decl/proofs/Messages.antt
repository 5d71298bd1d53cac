-- The readers of declarations and interests follow their formats, put together part by part.
use Rattle.std.proofs.Common.{ℕ, ◌+◌, ◌^◌, ◌%◌, not, ◌||◌, [], ◌++◌, length, eqb}
use Rattle.std.specs.Prelude.{nat_le, if◌then◌else◌}
use Rattle.zr_bytes.specs.declared.read_error.ReadError.TheVariants.{BadText, BadKey}
use Rattle.zr_bytes.specs.Flag.{has_id, has_flag}
use Rattle.zr_bytes.specs.Reading.{byte_of, number_below}
use Rattle.zr_format_spec.specs.Format.{checked, byte, below, extensions}
use Rattle.zr_format_spec.specs.Reading.{exts_of}
use Rattle.zr_format_spec.specs.Laws.{anywhere}
use Rattle.zr_format_spec.proofs.Follows.{Follows, follows_gives, follows_unknown, follows_choose, follows_then, follows_checked, follows_optional, follows_byte, follows_below, follows_extensions}
use Rattle.zr_wirekey.specs.Scopes.{Texts}
use Rattle.zr_wirekey.specs.Spelling.{key_parts}
use Rattle.zr_wirekey.specs.Reading.{parts_of}
use Rattle.zr_wirekey.proofs.Keys.{follows_parts, follows_key}
use Rattle.zr_msg.specs.declared.msg.Msg.TheVariants.{Sub, Unsub, Token, Untoken, Able, Unable, Interest, EndInterest}
use Rattle.zr_decl.specs.declared.declared.Declared.TheVariants.{Told, Number, Unnumber, Ignored}
use Rattle.zr_decl.specs.Declare.{message_exts, info_ext, undeclared_ext, says_complete, wire_key, keyexpr, undeclared_keyexpr, subscriber, queryable, token, undeclared, unsubscriber, unqueryable, untoken, final, declaration, declare, declare_format, wanted, ended, interest, interest_format}
use Rattle.zr_decl.specs.Reading.{wire_key_of, number_of, text_of, keyexpr_of, undeclared_keyexpr_of, subscriber_of, queryable_of, token_of, undeclared_of, unsubscriber_of, unqueryable_of, untoken_of, final_of, declaration_of, declare_of, message_of, wanted_of, ended_of, asked_of, interest_of}

-- ---- parts

pub follows_wire_key : (theirs ours : Texts) (header : ℕ) → Follows anywhere (wire_key theirs ours header) (wire_key_of theirs ours header)
unfolding wire_key_of
follows_wire_key theirs ours header = follows_key (has_flag header 0x20) (if has_flag header 0x40 then theirs else ours)

follows_number : Follows anywhere (checked (below (2 ^ 16)) (λ n. not (eqb n 0)) BadText) number_of
unfolding number_of
follows_number = follows_checked (below (2 ^ 16)) (number_below (2 ^ 16)) (λ n. not (eqb n 0)) BadText (follows_below (2 ^ 16))

follows_text : (theirs : Texts) (header : ℕ) → Follows anywhere (checked (key_parts (has_flag header 0x20) theirs) (λ parts. nat_le (length parts.0 + length parts.1) 2048) BadKey) (text_of theirs header)
unfolding text_of
follows_text theirs header =
    follows_checked (key_parts (has_flag header 0x20) theirs) (parts_of (has_flag header 0x20) theirs) (λ parts. nat_le (length parts.0 + length parts.1) 2048) BadKey (follows_parts (has_flag header 0x20) theirs)

-- ---- declarations

follows_keyexpr : (theirs : Texts) (header : ℕ) → Follows anywhere (keyexpr theirs header) (keyexpr_of theirs header)
unfolding keyexpr_of
follows_keyexpr theirs header =
    follows_then anywhere _ _ number_of _ follows_number (λ n.
    follows_then anywhere _ _ (text_of theirs header) _ (follows_text theirs header) (λ parts.
    follows_then anywhere (extensions [] header) _ (exts_of [] header) _ (follows_extensions [] header) (λ exts.
    follows_gives anywhere (Number n (parts.0 ++ parts.1)) (λ rest. tt))))

follows_undeclared_keyexpr : (header : ℕ) → Follows anywhere (undeclared_keyexpr header) (undeclared_keyexpr_of header)
unfolding undeclared_keyexpr_of
follows_undeclared_keyexpr header =
    follows_then anywhere (below (2 ^ 16)) _ (number_below (2 ^ 16)) _ (follows_below (2 ^ 16)) (λ n.
    follows_then anywhere (extensions [] header) _ (exts_of [] header) _ (follows_extensions [] header) (λ exts.
    follows_gives anywhere (Unnumber n) (λ rest. tt)))

follows_subscriber : (theirs ours : Texts) (header : ℕ) → Follows anywhere (subscriber theirs ours header) (subscriber_of theirs ours header)
unfolding subscriber_of
follows_subscriber theirs ours header =
    follows_then anywhere (below (2 ^ 32)) _ (number_below (2 ^ 32)) _ (follows_below (2 ^ 32)) (λ id.
    follows_then anywhere (wire_key theirs ours header) _ (wire_key_of theirs ours header) _ (follows_wire_key theirs ours header) (λ key.
    follows_then anywhere (extensions info_ext header) _ (exts_of info_ext header) _ (follows_extensions info_ext header) (λ exts.
    follows_gives anywhere (Told (Sub id key)) (λ rest. tt))))

follows_queryable : (theirs ours : Texts) (header : ℕ) → Follows anywhere (queryable theirs ours header) (queryable_of theirs ours header)
unfolding queryable_of
follows_queryable theirs ours header =
    follows_then anywhere (below (2 ^ 32)) _ (number_below (2 ^ 32)) _ (follows_below (2 ^ 32)) (λ id.
    follows_then anywhere (wire_key theirs ours header) _ (wire_key_of theirs ours header) _ (follows_wire_key theirs ours header) (λ key.
    follows_then anywhere (extensions info_ext header) _ (exts_of info_ext header) _ (follows_extensions info_ext header) (λ exts.
    follows_gives anywhere (Told (Able id key (says_complete exts))) (λ rest. tt))))

follows_token : (theirs ours : Texts) (header : ℕ) → Follows anywhere (token theirs ours header) (token_of theirs ours header)
unfolding token_of
follows_token theirs ours header =
    follows_then anywhere (below (2 ^ 32)) _ (number_below (2 ^ 32)) _ (follows_below (2 ^ 32)) (λ id.
    follows_then anywhere (wire_key theirs ours header) _ (wire_key_of theirs ours header) _ (follows_wire_key theirs ours header) (λ key.
    follows_then anywhere (extensions [] header) _ (exts_of [] header) _ (follows_extensions [] header) (λ exts.
    follows_gives anywhere (Told (Token id key)) (λ rest. tt))))

follows_undeclared : (header : ℕ) → Follows anywhere (undeclared header) (undeclared_of header)
unfolding undeclared_of
follows_undeclared header =
    follows_then anywhere (below (2 ^ 32)) _ (number_below (2 ^ 32)) _ (follows_below (2 ^ 32)) (λ id.
    follows_then anywhere (extensions undeclared_ext header) _ (exts_of undeclared_ext header) _ (follows_extensions undeclared_ext header) (λ exts.
    follows_gives anywhere id (λ rest. tt)))

follows_unsubscriber : (header : ℕ) → Follows anywhere (unsubscriber header) (unsubscriber_of header)
unfolding unsubscriber_of
follows_unsubscriber header =
    follows_then anywhere (undeclared header) _ (undeclared_of header) _ (follows_undeclared header) (λ id. follows_gives anywhere (Told (Unsub id)) (λ rest. tt))

follows_unqueryable : (header : ℕ) → Follows anywhere (unqueryable header) (unqueryable_of header)
unfolding unqueryable_of
follows_unqueryable header =
    follows_then anywhere (undeclared header) _ (undeclared_of header) _ (follows_undeclared header) (λ id. follows_gives anywhere (Told (Unable id)) (λ rest. tt))

follows_untoken : (header : ℕ) → Follows anywhere (untoken header) (untoken_of header)
unfolding untoken_of
follows_untoken header =
    follows_then anywhere (undeclared header) _ (undeclared_of header) _ (follows_undeclared header) (λ id. follows_gives anywhere (Told (Untoken id)) (λ rest. tt))

follows_final : (header : ℕ) → Follows anywhere (final header) (final_of header)
unfolding final_of
follows_final header = follows_then anywhere (extensions [] header) _ (exts_of [] header) _ (follows_extensions [] header) (λ exts. follows_gives anywhere Ignored (λ rest. tt))

follows_declaration : (theirs ours : Texts) (header : ℕ) → Follows anywhere (declaration theirs ours header) (declaration_of theirs ours header)
unfolding declaration_of
follows_declaration theirs ours header =
    follows_choose anywhere (has_id header 0x00) _ _ _ _ (follows_keyexpr theirs header)
    (follows_choose anywhere (has_id header 0x01) _ _ _ _ (follows_undeclared_keyexpr header)
    (follows_choose anywhere (has_id header 0x02) _ _ _ _ (follows_subscriber theirs ours header)
    (follows_choose anywhere (has_id header 0x03) _ _ _ _ (follows_unsubscriber header)
    (follows_choose anywhere (has_id header 0x04) _ _ _ _ (follows_queryable theirs ours header)
    (follows_choose anywhere (has_id header 0x05) _ _ _ _ (follows_unqueryable header)
    (follows_choose anywhere (has_id header 0x06) _ _ _ _ (follows_token theirs ours header)
    (follows_choose anywhere (has_id header 0x07) _ _ _ _ (follows_untoken header)
    (follows_choose anywhere (has_id header 0x1A) _ _ _ _ (follows_final header) (follows_unknown anywhere)))))))))

pub follows_declare : (theirs ours : Texts) (header : ℕ) → Follows anywhere (declare theirs ours header) (declare_of theirs ours header)
unfolding declare_of
follows_declare theirs ours header =
    follows_then anywhere _ _ _ _ (follows_optional (has_flag header 0x20) (below (2 ^ 32)) (number_below (2 ^ 32)) (follows_below (2 ^ 32))) (λ i.
    follows_then anywhere (extensions message_exts header) _ (exts_of message_exts header) _ (follows_extensions message_exts header) (λ exts.
    follows_then anywhere byte _ byte_of _ follows_byte (λ inner.
    follows_then anywhere (declaration theirs ours inner) _ (declaration_of theirs ours inner) _ (follows_declaration theirs ours inner) (λ d.
    follows_gives anywhere (d, i) (λ rest. tt)))))

pub follows_message : (theirs ours : Texts) → Follows anywhere (declare_format theirs ours) (message_of theirs ours)
unfolding message_of
follows_message theirs ours =
    follows_then anywhere byte _ byte_of _ follows_byte (λ header.
    follows_choose anywhere (has_id header 0x1E) _ _ _ _ (follows_declare theirs ours header) (follows_unknown anywhere))

-- ---- interests

follows_wanted : (theirs ours : Texts) (header id : ℕ) → Follows anywhere (wanted theirs ours header id) (wanted_of theirs ours header id)
unfolding wanted_of
follows_wanted theirs ours header id =
    follows_then anywhere byte _ byte_of _ follows_byte (λ options.
    follows_then anywhere _ _ _ _ (follows_optional (has_flag options 0x10) (wire_key theirs ours options) (wire_key_of theirs ours options) (follows_wire_key theirs ours options)) (λ key.
    follows_then anywhere (extensions message_exts header) _ (exts_of message_exts header) _ (follows_extensions message_exts header) (λ exts.
    follows_gives anywhere (Interest id (has_flag header 0x20) (has_flag header 0x40) (record { 0 = options % 16 }) key (has_flag options 0x80)) (λ rest. tt))))

follows_ended : (header id : ℕ) → Follows anywhere (ended header id) (ended_of header id)
unfolding ended_of
follows_ended header id = follows_then anywhere (extensions message_exts header) _ (exts_of message_exts header) _ (follows_extensions message_exts header) (λ exts. follows_gives anywhere (EndInterest id) (λ rest. tt))

pub follows_asked : (theirs ours : Texts) (header : ℕ) → Follows anywhere (interest theirs ours header) (asked_of theirs ours header)
unfolding asked_of
follows_asked theirs ours header =
    follows_then anywhere (below (2 ^ 32)) _ (number_below (2 ^ 32)) _ (follows_below (2 ^ 32)) (λ id.
    follows_choose anywhere (has_flag header 0x20 || has_flag header 0x40) _ _ _ _ (follows_wanted theirs ours header id) (follows_ended header id))

pub follows_interest : (theirs ours : Texts) → Follows anywhere (interest_format theirs ours) (interest_of theirs ours)
unfolding interest_of
follows_interest theirs ours =
    follows_then anywhere byte _ byte_of _ follows_byte (λ header.
    follows_choose anywhere (has_id header 0x19) _ _ _ _ (follows_asked theirs ours header) (follows_unknown anywhere))
