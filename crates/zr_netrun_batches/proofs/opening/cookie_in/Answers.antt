use Rattle.std.proofs.Common.{◌≡◌, ◌∙◌, drop, Some, rules}
use Rattle.std.specs.Result.{IfOk}
use Rattle.std.proofs.lemmas.Result.{IfOk-weaker}
use Rattle.zr_netrun_batches.specs.Opening.{IsCookieIn, told_cookie}
use Rattle.zr_netrun_batches.proofs.Opens.{cookie_known}
use Rattle.zr_netrun_batches.proofs.opening.cookie_in.Goals as goal

pub returns-in-Ok-clause-cookie : goal.returns-in-Ok-clause-cookie
returns-in-Ok-clause-cookie c =
    let told : IfOk c.ok_or.result (λ k. told_cookie c.in-Ok.t ≡ Some k) = search rules in
    let front : c.new-c.result ≡ drop 2 c.args.bytes.now = c.new-c.ensures ∙ c.behind_length.ensures in
    IfOk-weaker c.ok_or.result (λ k. told_cookie c.in-Ok.t ≡ Some k) (λ k. IsCookieIn c.args.bytes.now k)
    (λ k h. cookie_known c.written_messages_are_read.ensures c.args.bytes.now c.new-c.result c.read_trans.new.c c.in-Ok.t k front c.in-Ok.ensures.value h) told
