-- A key that gets the next number: the names have one text more, and the message goes under the number, behind its declaration.
use Rattle.std.proofs.Common.{◌≡◌, ◌++◌, ◌∷◌, [], Some, ap, subst, sym, ◌∙◌}
use Rattle.std.proofs.lemmas.Result.{on_ok_weaker}
use Rattle.zr_wire.specs.Writing.{text_of, writes_numbered}
use Rattle.zr_wirekey.specs.Writing.{writes_name}
use Rattle.zr_frame.specs.Outbox.{OutboxState}
use Rattle.zr_frame_pack.specs.Marks.{IsLater}
use Rattle.zr_frame_pack.specs.Packing.{names_in}
use Rattle.zr_frame_pack.proofs.NamesGiven.{later_same}
use Rattle.zr_frame_pack.proofs.Outboxes.{first_put, gives_new, kept_as, later_put, never_without}
use Rattle.zr_frame_pack.proofs.naming.NamingOutbox.put_first.Goals as goal

-- there is a key
pub returns-in_default-clause-messages : goal.returns-in_default-clause-messages
returns-in_default-clause-messages c = never_without c.args.self.now.names (text_of c.args.msg.now) _ c.requires.new (sym c.in_default.ensures)

pub returns-in_default-clause-names : goal.returns-in_default-clause-names
returns-in_default-clause-names c = never_without c.args.self.now.names (text_of c.args.msg.now) _ c.requires.new (sym c.in_default.ensures)

pub returns-in_default-clause-later : goal.returns-in_default-clause-later
returns-in_default-clause-later c = never_without c.args.self.now.names (text_of c.args.msg.now) _ c.requires.new (sym c.in_default.ensures)

-- which has no number, and there is room for it
pub give-requires-clause-new : goal.give-requires-clause-new
give-requires-clause-new c =
    let is : text_of c.args.msg.now ≡ Some c.as_bytes-text.result.now = cc in
    (gives_new c.self.inside.outbox c.args.self.now c.self.inside.names (text_of c.args.msg.now) c.as_bytes-text.result.now c.self.view_is is c.requires.new).0

pub give-requires-clause-room : goal.give-requires-clause-room
give-requires-clause-room c =
    let is : text_of c.args.msg.now ≡ Some c.as_bytes-text.result.now = cc in
    (gives_new c.self.inside.outbox c.args.self.now c.self.inside.names (text_of c.args.msg.now) c.as_bytes-text.result.now c.self.view_is is c.requires.new).1

-- memory ran out
pub returns-in_err-number-clause-later : goal.returns-in_err-number-clause-later
returns-in_err-number-clause-later c =
    later_same c.args.self.now.names _ (ap (λ n. names_in c.self.inside.outbox.names n) c.in_err-number.ensures.err ∙ ap (λ (s : OutboxState). s.names) c.self.view_is)

-- it got one
pub returns-clause-messages : goal.returns-clause-messages
returns-clause-messages c =
    let text = c.as_bytes-text.result.now in
    let n = c.in_ok-number.number in
    let is : text_of c.args.msg.now ≡ Some text = cc in
    let both = first_put c.self.inside.outbox c.args.self.now c.self.inside.names c.args.msg.now text n c.self.view_is is c.requires.new c.in_ok-number.ensures.number in
    on_ok_weaker c.push_both.result
    (λ (k : c.push_both.new.messages.items ≡ c.args.messages.now.items ++ writes_name n text ∷ writes_numbered c.args.msg.now n ∷ []).
    k ∙ ap (λ z. c.args.messages.now.items ++ z) (sym both.0)) c.push_both.ensures

pub returns-clause-names : goal.returns-clause-names
returns-clause-names c =
    let text = c.as_bytes-text.result.now in
    let n = c.in_ok-number.number in
    let is : text_of c.args.msg.now ≡ Some text = cc in
    let both = first_put c.self.inside.outbox c.args.self.now c.self.inside.names c.args.msg.now text n c.self.view_is is c.requires.new c.in_ok-number.ensures.number in
    on_ok_weaker c.push_both.result
    (λ (k : c.push_both.new.messages.items ≡ c.args.messages.now.items ++ writes_name n text ∷ writes_numbered c.args.msg.now n ∷ []).
    ap (λ names. kept_as c.self.inside.outbox names) c.in_ok-number.ensures.names ∙ both.1) c.push_both.ensures

pub returns-clause-later : goal.returns-clause-later
returns-clause-later c =
    subst (λ names. IsLater c.args.self.now.names (names_in c.self.inside.outbox.names names)) (sym c.in_ok-number.ensures.names)
    (later_put c.self.inside.outbox c.args.self.now c.self.inside.names c.as_bytes-text.result.now c.self.view_is)
