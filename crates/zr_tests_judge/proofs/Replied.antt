-- Of a query and a replier: what the parts of the judgement come to, by what they are worked out from.
use Rattle.std.proofs.Common.{◌≡◌, Bool, List, ℕ, ap, ◌∙◌}
use Rattle.std.specs.Prelude.{◌==◌, ◌&&◌, ◌||◌, not, filter}
use Rattle.std.specs.List.{list_any, starts_with}
use Rattle.zr_guarantee.specs.Item.{Reply}
use Rattle.zr_guarantee.specs.Queries.{Asked, turn}
use Rattle.zr_guarantee.specs.Sent.{Told, told_to, replies_in, behind_finals}
use Rattle.zr_tests_judge.specs.Same.{is_same_reply}
use Rattle.zr_tests_judge.specs.Judge.{Judged, acts_of, replies_due, replies_sent, replies_behind, is_final_sent, is_none_left, replier_holds}

-- the replies among some messages that are of the lines of those that are due
abbrev of_lines : List Reply → List Told → List Reply
of_lines due told = filter (λ r. list_any (λ d. d.line == r.line) due) (replies_in told)

abbrev agree : List Reply → List Reply → List Reply → Bool → Bool
agree due sent behind is_whole =
    starts_with is_same_reply due sent && ((not is_whole || starts_with is_same_reply sent due) && is_none_left behind)

module _ (j : Judged) (q : Asked) (replier : List ℕ) where
  pub replier_is : (told : List Told) (due sent behind : List Reply) (is_whole : Bool) → told ≡ told_to j.report q.client → due ≡ replies_due j q replier →
      sent ≡ of_lines due told → behind ≡ of_lines due (behind_finals q.number (turn (acts_of j) q) told) → is_whole ≡ (is_final_sent j q || j.quiet) →
      agree due sent behind is_whole ≡ replier_holds j q replier
  replier_is told due sent behind is_whole by_report by_acts by_lines by_finals by_case =
      ap (λ z. agree z sent behind is_whole) by_acts
      ∙ ap (λ z. agree (replies_due j q replier) z behind is_whole) all_sent
      ∙ ap (λ z. agree (replies_due j q replier) (replies_sent j q replier) z is_whole) all_behind
      ∙ ap (λ z. agree (replies_due j q replier) (replies_sent j q replier) (replies_behind j q replier) z) by_case
    where
      all_sent : sent ≡ replies_sent j q replier
      all_sent = by_lines ∙ ap (λ z. of_lines z told) by_acts ∙ ap (λ z. of_lines (replies_due j q replier) z) by_report

      all_behind : behind ≡ replies_behind j q replier
      all_behind =
          by_finals ∙ ap (λ z. of_lines z (behind_finals q.number (turn (acts_of j) q) told)) by_acts
          ∙ ap (λ z. of_lines (replies_due j q replier) (behind_finals q.number (turn (acts_of j) q) z)) by_report
