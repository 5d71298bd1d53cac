use Rattle.std.proofs.Common.{◌≡◌, ◌++◌, take}
use Rattle.zr_admin.specs.Answers.{all_answers}
use Rattle.zr_admin.proofs.answering.put_all.Given as goal

abbrev pub invariant-loop-request : goal.invariant-loop-request
invariant-loop-request l = l.all.items ≡ l.fn.all.items ++ all_answers l.pages (take l.request-index l.requests)
