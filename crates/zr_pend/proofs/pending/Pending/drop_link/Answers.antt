use Rattle.std.proofs.Common.{◌≡◌, ◌∙◌, ◌++◌, ap, arith, length, map}
use Rattle.std.specs.List.{fold}
use Rattle.std.proofs.lemmas.List.{length-map}
use Rattle.zr_pend_spec.specs.Held.{ending, gatherings_left, gatherings_off, gatherings_without}
use Rattle.zr_pend_spec.specs.Pending.{all_orphaned, ascending, branch, branches_on, finals_of_drop, numbers_on}
use Rattle.zr_pend_spec.proofs.Sound.{all_orphaned_sound, dropped_sound}
use Rattle.zr_pend_spec.proofs.Askers.{dropped_endings, dropped_of_rows, finals_apart, finals_few}
use Rattle.zr_pend.proofs.pending.Pending.drop_link.Goals as goal

pub take_all-requires-clause-room : goal.take_all-requires-clause-room
take_all-requires-clause-room c =
    let link = c.args.link in
    let rows = c.self.inside.rows in
    let askers : c.as_slice-2.result.now ≡ finals_of_drop link rows =
    c.as_slice-2.ensures.value ∙ c.drop_link.ensures.askers ∙ ap (λ xs. xs ++ finals_of_drop link rows) c.in_ok-askers.ensures.items in
    omega (
      arith,
      ap length askers,
      finals_few (all_orphaned link rows) (branches_on link rows),
      length-map (ascending (numbers_on link rows)) (λ n. branch link n),
      ap length c.in_ok-numbers.ensures,
      c.in_ok-ended.ensures.len,
      c.in_ok-ended.ensures.capacity,
      c.len-2.ensures,
    )

pub take_all-requires-clause-apart : goal.take_all-requires-clause-apart
take_all-requires-clause-apart c =
    let link = c.args.link in
    let rows = c.self.inside.rows in
    rw (c.as_slice-2.ensures.value, c.drop_link.ensures.askers, c.in_ok-askers.ensures.items) (finals_apart (all_orphaned link rows) (branches_on link rows) (all_orphaned_sound link rows c.self.invariant.0))

pub returns-clause-ended : goal.returns-clause-ended
returns-clause-ended c =
    let link = c.args.link in
    let rows = c.self.inside.rows in
    let held = c.self.inside.gatherings in
    let askers : c.as_slice-2.result.now ≡ finals_of_drop link rows =
    c.as_slice-2.ensures.value ∙ c.drop_link.ensures.askers ∙ ap (λ xs. xs ++ finals_of_drop link rows) c.in_ok-askers.ensures.items in
    c.take_all.ensures.ended
    ∙ ap (λ es. es ++ map (λ a. ending c.forget.new.self a) c.as_slice-2.result.now) c.in_ok-ended.ensures.items
    ∙ ap (λ gs. map (λ a. ending gs a) c.as_slice-2.result.now) c.forget.ensures
    ∙ ap (λ xs. map (λ a. ending (gatherings_off held link) a) xs) askers
    ∙ dropped_endings link rows held
    ∙ ap (λ p. map (λ a. ending p.held a) (finals_of_drop link p.rows)) c.self.view_is

pub invariant_of-self : goal.invariant_of-self
invariant_of-self c =
    let link = c.args.link in
    let rows = c.self.inside.rows in
    let held = c.self.inside.gatherings in
    let askers : c.as_slice-2.result.now ≡ finals_of_drop link rows =
    c.as_slice-2.ensures.value ∙ c.drop_link.ensures.askers ∙ ap (λ xs. xs ++ finals_of_drop link rows) c.in_ok-askers.ensures.items in
    let stays : c.take_all.new.self ≡ gatherings_left held link (finals_of_drop link rows) =
    c.take_all.ensures.others ∙ ap (λ gs. fold gatherings_without gs c.as_slice-2.result.now) c.forget.ensures ∙ ap (λ xs. fold gatherings_without (gatherings_off held link) xs) askers in
    rw (c.drop_link.ensures.rows, stays) (dropped_sound link rows c.self.invariant.0, dropped_of_rows link rows held c.self.invariant.0 c.self.invariant.1)
