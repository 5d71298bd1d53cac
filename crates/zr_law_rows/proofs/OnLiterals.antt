-- What an answer unfolds to compute a script's run on a literal.
use Rattle.std.specs.Prelude.{⊤}
use Rattle.std.specs.Str.{is_utf8, chars}
use Rattle.std.specs.Fmt.{digits}
use lib.Utf8.{encode}
use Rattle.hex.proofs.OnLiterals.{hex_on_literals}
use Rattle.zr_bytes.specs.Number.{writes_within}
use Rattle.zr_bytes.specs.Reading.{byte_of, number_within, number_below, text_of}
use Rattle.zr_body.specs.Latest.{read_stamp, reply_stamp}
use Rattle.zr_body.specs.Reading.{skip_number, skip_some_text, skip_timestamp, read_payload, read_put, read_del, read_sample, read_reply, read_err}
use Rattle.zr_match.specs.Table.{texts_meet, texts_cover}
use Rattle.zr_script_spec.specs.Command.{router_line, client_line, link_line, up_line, break_line, down_line, sub_line, unsub_line, token_line, untoken_line, able_line, unable_line, interest_line, get_line, reply_line, end_line, put_line, del_line, handle_line, take_line, run_line, mark_line, show_line, by_name, by_later_name, by_last_name, by_words, command_of}
use Rattle.zr_world_spec.specs.Acts.{router_step, client_step, link_step, up_step, break_step, down_step, client_sends, declare_step, undeclare_step, interest_step, publish_step, get_step, reply_step, end_step, handle_step, take_step, mark_step, show_step, outcome}
use Rattle.zr_world_spec.specs.Next.{run_steps, book_step, run_done, applied}

unfoldable pub scripts_on_literals : ⊤
unfolding hex_on_literals is_utf8 chars encode digits writes_within byte_of number_within number_below text_of skip_number skip_some_text skip_timestamp read_payload read_put read_del read_sample read_reply read_err read_stamp reply_stamp texts_meet texts_cover router_line client_line link_line up_line break_line down_line sub_line unsub_line token_line untoken_line able_line unable_line interest_line get_line reply_line end_line put_line del_line handle_line take_line run_line mark_line show_line by_name by_later_name by_last_name by_words command_of router_step client_step link_step up_step break_step down_step client_sends declare_step undeclare_step interest_step publish_step get_step reply_step end_step handle_step take_step mark_step show_step outcome run_steps book_step run_done applied
scripts_on_literals = tt
