use Rattle.std.proofs.Common.{refl}
use Rattle.zr_session.proofs.Feeding.{feeds_more, feeds_over, ends_feed, stalls_feed, stalls_end, on_ok, on_err}
use Rattle.zr_session.proofs.session.Session.feed.Goals as goal

pub returns-in-Ended-clause-stream : goal.returns-in-Ended-clause-stream
returns-in-Ended-clause-stream c =
    rw (← c.self.view_is) (feeds_over (record { opening = c.self.inside.opening; state = c.self.inside.state; kept = c.self.inside.kept; confirmed = c.self.inside.confirmed; heard = c.self.inside.heard })
    c.args.piece.now c.in-Ended.owed c.in-Ended.how c.args.out.now c.in-Ended.is)

pub returns-in-Ok-clause-stream : goal.returns-in-Ok-clause-stream
returns-in-Ok-clause-stream c =
    rw (← c.self.view_is) (feeds_more (record { opening = c.self.inside.opening; state = c.self.inside.state; kept = c.self.inside.kept; confirmed = c.self.inside.confirmed; heard = c.self.inside.heard })
    c.in-Running.phase c.take_piece.new.phase c.take_piece.new.kept c.args.piece.now c.heard_with-self-inside.result c.args.out.now c.take_piece.new.out c.in-Running.is c.in-Ok.ensures.stream)

pub returns-in-Err-NoMemory-clause-memory : goal.returns-in-Err-NoMemory-clause-memory
returns-in-Err-NoMemory-clause-memory c =
    rw (← c.self.view_is) (stalls_feed (record { opening = c.self.inside.opening; state = c.self.inside.state; kept = c.self.inside.kept; confirmed = c.self.inside.confirmed; heard = c.self.inside.heard })
    c.in-Running.phase c.take_piece.new.phase c.take_piece.new.kept c.args.piece.now c.in-Err-NoMemory.field-0 c.args.out.now c.take_piece.new.out c.in-Running.is
    c.in-Err-NoMemory.field-0-is c.in-Err-NoMemory.ensures.stream)

pub returns-in-Err-Ended-clause-stream : goal.returns-in-Err-Ended-clause-stream
returns-in-Err-Ended-clause-stream c =
    rw (← c.self.view_is) (on_ok c.stop.result c.stop.ensures.ok (λ done.
    ends_feed (record { opening = c.self.inside.opening; state = c.self.inside.state; kept = c.self.inside.kept; confirmed = c.self.inside.confirmed; heard = c.self.inside.heard })
    c.stop.new.self c.in-Running.phase c.take_piece.new.phase c.take_piece.new.kept c.args.piece.now c.in-Err-Ended.field-0 c.in-Err-Ended.how c.heard_with-self-inside.result c.args.out.now c.take_piece.new.out
    (record { events = c.take_piece.new.out.events; bytes = c.stop.new.out })
    c.in-Running.is c.in-Err-Ended.field-0-is c.in-Err-Ended.ensures.stream done.0 refl done.1))

pub returns-in-Err-Ended-clause-memory : goal.returns-in-Err-Ended-clause-memory
returns-in-Err-Ended-clause-memory c =
    rw (← c.self.view_is) (on_err c.stop.result c.stop.ensures.memory (λ done.
    stalls_end (record { opening = c.self.inside.opening; state = c.self.inside.state; kept = c.self.inside.kept; confirmed = c.self.inside.confirmed; heard = c.self.inside.heard })
    c.in-Running.phase c.take_piece.new.phase c.take_piece.new.kept c.args.piece.now c.in-Err-Ended.field-0 c.in-Err-Ended.how c.args.out.now c.take_piece.new.out
    (record { events = c.take_piece.new.out.events; bytes = c.stop.new.out })
    c.in-Running.is c.in-Err-Ended.field-0-is c.in-Err-Ended.ensures.stream refl done.2))
