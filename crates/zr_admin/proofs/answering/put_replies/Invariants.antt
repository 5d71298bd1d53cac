use Rattle.std.proofs.Common.{◌≡◌, ◌++◌, take}
use Rattle.zr_admin.specs.Answers.{replies}
use Rattle.zr_admin.proofs.answering.put_replies.Given as goal

abbrev pub invariant-loop-page : goal.invariant-loop-page
invariant-loop-page l = l.all.items ≡ l.fn.all.items ++ replies (take l.page-index l.pages) l.request
