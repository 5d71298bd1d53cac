-- Each message leads on; what is no message, or the last byte, ends them.
use Rattle.std.proofs.Common.{◌∙◌, ◌-◌, ◌+◌, ◌++◌, length, sym, ap, arith}
use Rattle.zr_admin.specs.Asked.{asked_within}
use Rattle.zr_admin.proofs.Asking.{asks_more, asks_no_more, asks_over}
use Rattle.zr_admin.proofs.asked.requests_in.Goals as goal

pub messages-preserved : goal.messages-preserved
messages-preserved c =
    ap (λ z. z ++ asked_within (length c.args.bytes.now - (c.messages.counter + 1)) c.read_net.new.c) c.in-Ok-put.ensures
    ∙ asks_more (length c.args.bytes.now - c.messages.counter) (length c.args.bytes.now - (c.messages.counter + 1)) _ c.in-Ok.declared c.messages.all.items _ c.messages.c c.read_net.new.c
    (omega (arith, c.messages-test.true)) c.new-none.ensures c.in-Ok.ensures.value c.messages.invariant

pub returns-in-Err : goal.returns-in-Err
returns-in-Err c =
    asks_no_more (length c.args.bytes.now - c.messages.counter) (length c.args.bytes.now - (c.messages.counter + 1)) _ c.in-Err.e c.messages.all.items _ c.messages.c
    (omega (arith, c.messages-test.true)) c.new-none.ensures c.in-Err.ensures.value.0 (sym c.if-is_no_memory.ensures) c.messages.invariant

pub returns : goal.returns
returns c = asks_over (length c.args.bytes.now - c.messages.counter) c.messages.all.items _ c.messages.c (omega (arith, c.messages-test.false)) c.messages.invariant
