-- The reader of network messages follows their format, put together part by part.
use Rattle.std.proofs.Common.{ℕ, ◌^◌}
use Rattle.zr_bytes.specs.Flag.{has_id}
use Rattle.zr_bytes.specs.Reading.{byte_of, number_below}
use Rattle.zr_format_spec.specs.Format.{byte, below, extensions}
use Rattle.zr_format_spec.specs.Reading.{exts_of}
use Rattle.zr_format_spec.specs.Laws.{anywhere}
use Rattle.zr_format_spec.proofs.Follows.{Follows, follows_gives, follows_unknown, follows_choose, follows_then, follows_allows, follows_byte, follows_below, follows_extensions}
use Rattle.zr_wirekey.specs.Scopes.{Texts}
use Rattle.zr_body.specs.declared.place.Place.TheVariants as place
use Rattle.zr_body.specs.Body.{body}
use Rattle.zr_body.specs.Reading.{body_of}
use Rattle.zr_body.proofs.Bodies.{follows_body}
use Rattle.zr_msg.specs.declared.msg.Msg.TheVariants.{Push, Request, Response, Final}
use Rattle.zr_msg.specs.declared.peer.Role.{Role}
use Rattle.zr_decl.specs.declared.declared.Declared.TheVariants.{Told}
use Rattle.zr_decl.specs.Declare.{wire_key, declare, interest}
use Rattle.zr_decl.specs.Reading.{wire_key_of, declare_of, asked_of}
use Rattle.zr_decl.proofs.Messages.{follows_wire_key, follows_declare, follows_asked}
use Rattle.zr_net.specs.Exts.{push_known, request_known, response_known, final_known, number_at, bytes_at, extras_of, target_of, tree_of}
use Rattle.zr_net.specs.Net.{push, request, response, final, declared, asked, behind, net_format}
use Rattle.zr_net.specs.Reading.{sample_of, push_of, question_of, request_of, reply_of, response_of, final_of, declared_of, told_of, behind_of, net_of}

follows_push : (role : Role) (theirs ours : Texts) (header : ℕ) → Follows anywhere (push role theirs ours header) (push_of role theirs ours header)
unfolding push_of sample_of
follows_push role theirs ours header =
    follows_then anywhere (wire_key theirs ours header) _ (wire_key_of theirs ours header) _ (follows_wire_key theirs ours header) (λ key.
    follows_then anywhere (extensions (push_known role) header) _ (exts_of (push_known role) header) _ (follows_extensions (push_known role) header) (λ exts.
    follows_allows anywhere (tree_of (bytes_at 7 exts)) _ _ (λ tree.
    follows_then anywhere (body place.Push) _ (body_of place.Push) _ (follows_body place.Push) (λ b.
    follows_gives anywhere (Told (Push tree (record { key = key; extras = extras_of exts; body = b }))) (λ rest. tt)))))

follows_request : (role : Role) (theirs ours : Texts) (header : ℕ) → Follows anywhere (request role theirs ours header) (request_of role theirs ours header)
unfolding request_of question_of
follows_request role theirs ours header =
    follows_then anywhere (below (2 ^ 32)) _ (number_below (2 ^ 32)) _ (follows_below (2 ^ 32)) (λ id.
    follows_then anywhere (wire_key theirs ours header) _ (wire_key_of theirs ours header) _ (follows_wire_key theirs ours header) (λ key.
    follows_then anywhere (extensions (request_known role) header) _ (exts_of (request_known role) header) _ (follows_extensions (request_known role) header) (λ exts.
    follows_allows anywhere (tree_of (bytes_at 7 exts)) _ _ (λ tree.
    follows_allows anywhere (target_of (number_at 4 exts)) _ _ (λ target.
    follows_then anywhere (body place.Request) _ (body_of place.Request) _ (follows_body place.Request) (λ b.
    follows_gives anywhere (Told (Request tree id target (record { key = key; extras = extras_of exts; body = b }))) (λ rest. tt)))))))

follows_response : (theirs ours : Texts) (header : ℕ) → Follows anywhere (response theirs ours header) (response_of theirs ours header)
unfolding response_of reply_of
follows_response theirs ours header =
    follows_then anywhere (below (2 ^ 32)) _ (number_below (2 ^ 32)) _ (follows_below (2 ^ 32)) (λ id.
    follows_then anywhere (wire_key theirs ours header) _ (wire_key_of theirs ours header) _ (follows_wire_key theirs ours header) (λ key.
    follows_then anywhere (extensions response_known header) _ (exts_of response_known header) _ (follows_extensions response_known header) (λ exts.
    follows_then anywhere (body place.Response) _ (body_of place.Response) _ (follows_body place.Response) (λ b.
    follows_gives anywhere (Told (Response id (record { key = key; extras = extras_of exts; body = b }))) (λ rest. tt)))))

follows_final : (header : ℕ) → Follows anywhere (final header) (final_of header)
unfolding final_of
follows_final header =
    follows_then anywhere (below (2 ^ 32)) _ (number_below (2 ^ 32)) _ (follows_below (2 ^ 32)) (λ id.
    follows_then anywhere (extensions final_known header) _ (exts_of final_known header) _ (follows_extensions final_known header) (λ exts.
    follows_gives anywhere (Told (Final id (extras_of exts))) (λ rest. tt)))

follows_declared : (theirs ours : Texts) (header : ℕ) → Follows anywhere (declared theirs ours header) (declared_of theirs ours header)
unfolding declared_of
follows_declared theirs ours header = follows_then anywhere (declare theirs ours header) _ (declare_of theirs ours header) _ (follows_declare theirs ours header) (λ d. follows_gives anywhere d.0 (λ rest. tt))

follows_told : (theirs ours : Texts) (header : ℕ) → Follows anywhere (asked theirs ours header) (told_of theirs ours header)
unfolding told_of
follows_told theirs ours header = follows_then anywhere (interest theirs ours header) _ (asked_of theirs ours header) _ (follows_asked theirs ours header) (λ m. follows_gives anywhere (Told m) (λ rest. tt))

follows_behind : (role : Role) (theirs ours : Texts) (header : ℕ) → Follows anywhere (behind role theirs ours header) (behind_of role theirs ours header)
unfolding behind_of
follows_behind role theirs ours header =
    follows_choose anywhere (has_id header 0x1D) _ _ _ _ (follows_push role theirs ours header)
    (follows_choose anywhere (has_id header 0x1C) _ _ _ _ (follows_request role theirs ours header)
    (follows_choose anywhere (has_id header 0x1B) _ _ _ _ (follows_response theirs ours header)
    (follows_choose anywhere (has_id header 0x1A) _ _ _ _ (follows_final header)
    (follows_choose anywhere (has_id header 0x1E) _ _ _ _ (follows_declared theirs ours header)
    (follows_choose anywhere (has_id header 0x19) _ _ _ _ (follows_told theirs ours header) (follows_unknown anywhere))))))

pub follows_net : (role : Role) (theirs ours : Texts) → Follows anywhere (net_format role theirs ours) (net_of role theirs ours)
unfolding net_of
follows_net role theirs ours =
    follows_then anywhere byte _ byte_of _ follows_byte (λ header. follows_behind role theirs ours header)
