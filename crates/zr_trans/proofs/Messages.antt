-- The reader of transport messages follows their format, put together part by part.
use Rattle.std.proofs.Common.{ℕ, ◌+◌, ◌*◌, ◌/◌, ◌%◌, ◌-◌, ◌^◌, not, []}
use Rattle.zr_bytes.specs.declared.read_error.ReadError.TheVariants.{BadText}
use Rattle.zr_bytes.specs.Flag.{has_id, has_flag}
use Rattle.zr_bytes.specs.Reading.{byte_of, number_of}
use Rattle.zr_format_spec.specs.Format.{so_many, number, byte}
use Rattle.zr_format_spec.specs.Reading.{so_many_of}
use Rattle.zr_format_spec.specs.Laws.{anywhere}
use Rattle.zr_format_spec.proofs.Follows.{Follows, follows_gives, follows_unknown, follows_choose, follows_then, follows_checked, follows_optional, follows_byte, follows_number, follows_text, follows_so_many, follows_extensions, follows_the_rest}
use Rattle.zr_id.specs.Zid.{is_zid}
use Rattle.zr_trans.specs.declared.trans.Trans.TheVariants.{Init, Open, Close, KeepAlive, Frame, Fragment}
use Rattle.zr_trans.specs.Trans.{first_number, number_ext, identifier, cookie, sizes, init, opening, close, keep_alive, frame, fragment, behind, trans_format, MayStandBefore}
use Rattle.zr_trans.specs.Reading.{id_of, sizes_of, cookie_of, behind_id_of, init_of, open_of, close_of, keep_alive_of, frame_of, fragment_of, behind_of, trans_of}

follows_sizes : Follows anywhere sizes sizes_of
unfolding sizes_of
follows_sizes =
    follows_then anywhere byte _ byte_of _ follows_byte (λ bits.
    follows_then anywhere byte _ byte_of _ follows_byte (λ low.
    follows_then anywhere byte _ byte_of _ follows_byte (λ high.
    follows_gives anywhere (record { bits = bits % 16; batch = low + 256 * high }) (λ rest. tt))))

follows_cookie : Follows anywhere cookie cookie_of
unfolding cookie_of
follows_cookie = follows_text (2 ^ 16 - 1)

follows_identifier : (count : ℕ) → Follows anywhere (identifier count) (id_of count)
unfolding id_of
follows_identifier count = follows_checked (so_many count) (so_many_of count) is_zid BadText (follows_so_many count)

follows_init : (header : ℕ) → Follows MayStandBefore (init header) (init_of header)
unfolding init_of behind_id_of
follows_init header =
    follows_then MayStandBefore byte _ byte_of _ follows_byte (λ version.
    follows_then MayStandBefore byte _ byte_of _ follows_byte (λ tag.
    follows_then MayStandBefore (identifier (tag / 16 + 1)) _ (id_of (tag / 16 + 1)) _ (follows_identifier (tag / 16 + 1)) (λ id.
    follows_then MayStandBefore _ _ _ _ (follows_optional (has_flag header 0x40) sizes sizes_of follows_sizes) (λ s.
    follows_then MayStandBefore _ _ _ _ (follows_optional (has_flag header 0x20) cookie cookie_of follows_cookie) (λ k.
    follows_then MayStandBefore _ _ _ _ (follows_extensions (number_ext 9) header) (λ exts.
    follows_gives MayStandBefore (Init (has_flag header 0x20) version (tag % 4) id s k (first_number exts)) (λ rest. tt)))))))

follows_open : (header : ℕ) → Follows MayStandBefore (opening header) (open_of header)
unfolding open_of
follows_open header =
    follows_then MayStandBefore number _ number_of _ follows_number (λ lease.
    follows_then MayStandBefore number _ number_of _ follows_number (λ first.
    follows_then MayStandBefore _ _ _ _ (follows_optional (not (has_flag header 0x20)) cookie cookie_of follows_cookie) (λ k.
    follows_then MayStandBefore _ _ _ _ (follows_extensions [] header) (λ exts.
    follows_gives MayStandBefore (Open (has_flag header 0x20) (has_flag header 0x40) lease first k) (λ rest. tt)))))

follows_close : (header : ℕ) → Follows MayStandBefore (close header) (close_of header)
unfolding close_of
follows_close header =
    follows_then MayStandBefore byte _ byte_of _ follows_byte (λ reason.
    follows_then MayStandBefore _ _ _ _ (follows_extensions [] header) (λ exts.
    follows_gives MayStandBefore (Close (has_flag header 0x20) reason) (λ rest. tt)))

follows_keep_alive : (header : ℕ) → Follows MayStandBefore (keep_alive header) (keep_alive_of header)
unfolding keep_alive_of
follows_keep_alive header =
    follows_then MayStandBefore _ _ _ _ (follows_extensions [] header) (λ exts. follows_gives MayStandBefore KeepAlive (λ rest. tt))

follows_frame : (header : ℕ) → Follows MayStandBefore (frame header) (frame_of header)
unfolding frame_of
follows_frame header =
    follows_then MayStandBefore number _ number_of _ follows_number (λ n.
    follows_then MayStandBefore _ _ _ _ (follows_extensions (number_ext 1) header) (λ exts.
    follows_gives MayStandBefore (Frame (has_flag header 0x20) n) (λ rest. tt)))

follows_fragment : (header : ℕ) → Follows MayStandBefore (fragment header) (fragment_of header)
unfolding fragment_of
follows_fragment header =
    follows_then MayStandBefore number _ number_of _ follows_number (λ n.
    follows_then MayStandBefore _ _ _ _ (follows_extensions (number_ext 1) header) (λ exts.
    follows_the_rest MayStandBefore (λ piece. Fragment (has_flag header 0x20) (has_flag header 0x40) n piece) (λ piece rest e. e) (λ piece rest e. e)))

follows_behind : (header : ℕ) → Follows MayStandBefore (behind header) (behind_of header)
unfolding behind_of
follows_behind header =
    follows_choose MayStandBefore (has_id header 1) _ _ _ _ (follows_init header)
    (follows_choose MayStandBefore (has_id header 2) _ _ _ _ (follows_open header)
    (follows_choose MayStandBefore (has_id header 3) _ _ _ _ (follows_close header)
    (follows_choose MayStandBefore (has_id header 4) _ _ _ _ (follows_keep_alive header)
    (follows_choose MayStandBefore (has_id header 5) _ _ _ _ (follows_frame header)
    (follows_choose MayStandBefore (has_id header 6) _ _ _ _ (follows_fragment header) (follows_unknown MayStandBefore))))))

pub follows_trans : Follows MayStandBefore trans_format trans_of
unfolding trans_of
follows_trans = follows_then MayStandBefore byte behind byte_of behind_of follows_byte follows_behind
