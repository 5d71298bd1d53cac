use Rattle.std.proofs.Common.{◌≡◌, ◌&&◌, List, not, ap, arith, drop, length, map, sym, vec_len, ◌∙◌}
use Rattle.std.proofs.lemmas.List.{drop_at, take_rest}
use Rattle.std.specs.Map.{values_of}
use Rattle.zr_pend_numbers.specs.Numbers.{is_used}
use Rattle.zr_pend_spec.specs.declared.branch.Asker.{Asker}
use Rattle.zr_pend_spec.specs.Pending.{all_finished, all_orphaned, ascending, branch, dropped, finals, finals_of_drop, numbers_on}
use Rattle.zr_pend_spec.proofs.Sound.{dropped_sound}
use Rattle.zr_pend_rows.proofs.OnLinks.{pending_dropped}
use Rattle.zr_pend_rows.proofs.Asking.{asked_dropped, is_one_of}
use Rattle.zr_pend_rows.proofs.table.Table.drop_link.Goals as goal

pub invariant_of-self : goal.invariant_of-self
invariant_of-self c =
    let link = c.args.link in
    let rows = values_of c.self.inside.rows.entries in
    let numbers : c.args.numbers.now ≡ ascending (numbers_on link rows) = c.requires.numbers ∙ sym (ap (λ rs. ascending (numbers_on link rs)) c.self.view_is) in
    let left : values_of c.drop_link.new.rows.entries ≡ dropped link rows = c.drop_link.ensures.rows ∙ ap (λ ns. all_finished (all_orphaned link rows) (map (λ n. branch link n) ns)) numbers in
    let long : length c.args.askers.now.items ≡ vec_len c.args.askers.now = omega (arith, c.args.askers.now.ok.0) in
    let told : drop c.len-before.result c.drop_link.new.askers.items ≡ finals_of_drop link rows =
    ap (λ (askers : List Asker). drop c.len-before.result askers) c.drop_link.ensures.askers
    ∙ drop_at c.args.askers.now.items _ c.len-before.result (long ∙ sym c.len-before.ensures)
    ∙ ap (λ ns. finals (all_orphaned link rows) (map (λ n. branch link n) ns)) numbers in
    let took = c.take_askers.new.asked in
    rw left (
      dropped_sound link rows c.self.invariant.0,
      pending_dropped c.self.inside.pending c.forget.new.self rows link c.forget.ensures c.self.invariant.1,
      asked_dropped c.self.inside.asked c.forget-2.new.self took rows link c.self.invariant.0 c.forget-2.ensures
          (λ b. c.take_askers.ensures b ∙ ap (λ askers. not (is_one_of b askers) && is_used c.forget-2.new.self b)
          (take_rest c.as_slice.result.now c.len-before.result ∙ ap (λ (askers : List Asker). drop c.len-before.result askers) c.as_slice.ensures.value ∙ told)) c.self.invariant.2,
    )
