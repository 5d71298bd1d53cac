use Rattle.std.proofs.Common.{◌≡◌, ℕ, ◌≤◌, nat_lt, false, length, List, ap, subst, arith}
use Rattle.std.specs.List.{sum_by}
use Rattle.zr_local.specs.declared.interest.ClientInterests.{ClientInterests}
use Rattle.zr_local.specs.declared.row.Row.{Row}
use Rattle.zr_router_core.specs.Room.{HaveAtMost, foreign_count}
use Rattle.zr_router_core.proofs.Bounds.{room}
use Rattle.zr_router_core.proofs.room.may_lack.Goals as goal

within : (n : ℕ) → nat_lt 4294967295 n ≡ false → n ≤ 4294967295
within n h = grind (arith, h)

pub returns : goal.returns
returns c = λ h.
    let m : ℕ = c.most_interests.result in
    let few : HaveAtMost m c.args.node.now.clients = subst (λ (cs : List ClientInterests). HaveAtMost m cs) c.clients.ensures.value c.most_interests.ensures in
    let logs : sum_by (foreign_count c.me.result) c.logs.result.now ≡ sum_by (foreign_count c.args.node.now.base.me) c.args.node.now.known.logs = λ i. sum_by (foreign_count (c.me.ensures i)) (c.logs.ensures.value i) in
    let rows : length c.rows.result.now ≡ length c.args.node.now.rows = ap (λ (rs : List Row). length rs) c.rows.ensures.value in
    let all : c.saturating_add.result ≤ 4294967295 = within c.saturating_add.result h in
    room c.args.node.now c.args.event.now m c.logs.ensures.own few
    (omega (arith, logs, rows, all, c.saturating_add-interests.ensures, c.count_foreign-known.ensures, c.more_decls.ensures, c.saturating_add-places.ensures, c.saturating_mul.ensures, c.saturating_add.ensures))
