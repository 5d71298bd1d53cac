-- What was found and what the rest still has are together what the bytes have.
use Rattle.std.proofs.Common.{◌≡◌, ◌-◌, ◌++◌, length}
use Rattle.zr_admin.specs.Asked.{asked, asked_within}
use Rattle.zr_admin.proofs.asked.requests_in.Given as goal

abbrev pub invariant-messages : goal.invariant-messages
invariant-messages l = l.all.items ++ asked_within (length l.bytes - l.counter) l.c ≡ asked l.bytes
