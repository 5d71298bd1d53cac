use Rattle.std.proofs.Common.{◌≡◌, ◌&&◌, ◌||◌, not, Some, ap, false, sym, ◌∙◌}
use Rattle.std.specs.List.{list_all, list_any}
use Rattle.std.specs.Map.{values_of}
use Rattle.zr_pend_spec.specs.declared.branch.Branch.{Branch}
use Rattle.zr_pend_spec.specs.Row.{RowState, is_branch}
use Rattle.zr_pend_spec.specs.Pending.{asked, opened}
use Rattle.zr_pend_spec.proofs.Sound.{begun_sound}
use Rattle.zr_pend_numbers.specs.Numbers.{is_used}
use Rattle.zr_pend_numbers.proofs.InUse.{put_undone}
use Rattle.zr_pend_rows.proofs.OnLinks.{opened_fresh, pending_begun}
use Rattle.zr_pend_rows.proofs.Asking.{asked_begun, taken_back}
use Rattle.zr_pend_rows.specs.Tied.{as_branch}
use Rattle.zr_pend_rows.proofs.table.Table.begin.Goals as goal

pub enter-requires-clause-free : goal.enter-requires-clause-free
enter-requires-clause-free c =
    let uses = c.self.inside.pending in
    let to = c.args.to.now in
    rw (c.as_slice-3.ensures.value, c.in_ok-branches.ensures)
    (sym (ap (λ rs. list_all (λ b. not (is_used uses b)) (opened rs to)) c.self.view_is) ∙ opened_fresh uses (values_of c.self.inside.rows.entries) to c.self.invariant.1)

pub enter-requires-clause-fresh : goal.enter-requires-clause-fresh
enter-requires-clause-fresh c = c.self.invariant.2 (as_branch c.args.asker) ∙ ap (λ rs. asked c.args.asker rs) c.self.view_is ∙ c.requires.fresh

pub invariant_of-self-in-Ok : goal.invariant_of-self-in-Ok
invariant_of-self-in-Ok c =
    let uses = c.self.inside.pending in
    let rows = values_of c.self.inside.rows.entries in
    let to = c.args.to.now in
    let new : RowState = record { asker = Some c.args.asker; branches = opened rows to } in
    let fresh : asked c.args.asker rows ≡ false = ap (λ rs. asked c.args.asker rs) c.self.view_is ∙ c.requires.fresh in
    let opens = c.in_ok-branches.ensures ∙ sym (ap (λ rs. opened rs to) c.self.view_is) in
    let used : (b : Branch) → is_used c.enter.new.pending b ≡ (list_any (λ k. is_branch b k) (opened rows to) || is_used uses b) =
    λ b. c.in_ok-enter.ensures.pending b ∙ ap (λ bs. list_any (λ k. is_branch b k) bs || is_used uses b) (c.as_slice-3.ensures.value ∙ opens) in
    rw (c.in-Ok.ensures.ok, c.new.ensures, opens) (
      begun_sound rows c.args.asker to c.requires.some c.requires.differ fresh c.self.invariant.0,
      pending_begun uses c.enter.new.pending rows new used c.self.invariant.1,
      asked_begun c.self.inside.asked c.enter.new.asked rows c.args.asker (opened rows to) c.in_ok-enter.ensures.asked c.self.invariant.2,
    )

-- the row has not come, and what was entered for it is as before
pub invariant_of-self-in-Err-1 : goal.invariant_of-self-in-Err-1
invariant_of-self-in-Err-1 c =
    let uses = c.self.inside.pending in
    let asks = c.self.inside.asked in
    let rows = values_of c.self.inside.rows.entries in
    let bs = opened rows c.args.to.now in
    let fresh : asked c.args.asker rows ≡ false = ap (λ rs. asked c.args.asker rs) c.self.view_is ∙ c.requires.fresh in
    let opens = c.in_ok-branches.ensures ∙ sym (ap (λ rs. opened rs c.args.to.now) c.self.view_is) in
    let put : (b : Branch) → is_used c.enter.new.pending b ≡ (list_any (λ k. is_branch b k) bs || is_used uses b) =
    λ b. c.in_ok-enter.ensures.pending b ∙ ap (λ ks. list_any (λ k. is_branch b k) ks || is_used uses b) (c.as_slice-3.ensures.value ∙ opens) in
    let same : c.branches.result.now ≡ bs = c.branches.ensures ∙ ap (λ (r : RowState). r.branches) (c.in-Err.ensures.back ∙ c.new.ensures) ∙ opens in
    let took : (b : Branch) → is_used c.withdraw.new.pending b ≡ (not (list_any (λ k. is_branch b k) bs) && is_used c.enter.new.pending b) =
    λ b. c.withdraw.ensures.pending b ∙ ap (λ ks. not (list_any (λ k. is_branch b k) ks) && is_used c.enter.new.pending b) same in
    let pending = put_undone bs uses (λ b. is_used c.enter.new.pending b) (λ b. is_used c.withdraw.new.pending b) (opened_fresh uses rows c.args.to.now c.self.invariant.1) (λ b h. put b ∙ ap (λ t. t || is_used uses b) h) took in
    let asking = taken_back asks c.enter.new.asked c.withdraw.new.asked (as_branch c.args.asker) (c.self.invariant.2 (as_branch c.args.asker) ∙ fresh) c.in_ok-enter.ensures.asked c.withdraw.ensures.asked in
    rw c.in-Err.ensures.err (c.self.invariant.0, λ b. pending b ∙ c.self.invariant.1 b, λ b. asking b ∙ c.self.invariant.2 b)
