-- Whether a query is answered is the same by acts that ask and say the same: a mark asks and says nothing (`answered_same`).
use Rattle.std.proofs.Common.{◌≡◌, ℕ, ◌==◌, List, [], ◌∷◌, ◌++◌, filter, refl, sym, ap, ◌∙◌, ◌≤◌, ◌+◌, arith, map, subst, ◌-◌, false}
use Rattle.std.specs.Prelude.{◌&&◌, ◌||◌, not, nat_le, nat_lt}
use Rattle.std.specs.List.{list_all, list_any, sum_by, filter_map, slice_get, count_by}
use Rattle.zr_world_spec.specs.Moments.{Numbered, Moment}
use Rattle.zr_guarantee.specs.Item.{Reply}
use Rattle.zr_guarantee.specs.Names.{clients}
use Rattle.zr_guarantee.specs.Queries.{Asked, queries, turn, asks, sayings, replies, has_ended, is_finished, saying_in, is_end}
use Rattle.zr_guarantee.specs.Refines.{sent_of_query, has_final, IsAnswered}
use Rattle.zr_guarantee.specs.Sent.{Told, told_to, replies_in, finals_in, behind_finals, requests_to, told_in_turn}
use Rattle.zr_law_replies.proofs.Grown.{turn_same}
use Rattle.zr_law_replies.proofs.Replies.{replies_kept, ended_kept}
use Rattle.zr_guarantee.specs.Latest.{reply_bodies, saying_weight, RepliesFit, said_if, all_replies, best, sent_in_turn, IsAnsweredLatest}
use Rattle.std.proofs.lemmas.List.Sums.{sum_by-append}
use Rattle.std.proofs.lemmas.List.Elements.{filter_map-append}
use Rattle.zr_lists.proofs.Tests.{all_parts}
use Rattle.zr_pend_spec.specs.Held.{most_held, gathered}
use Rattle.std.specs.Option.{option_map_or}
use Rattle.zr_pend_spec.specs.Best.{key_body}

module _ (before acts acts' : List Numbered) (m : Moment) (q : Asked) (asked : queries acts' ≡ queries acts) (said : sayings acts' ≡ sayings acts) where
  replies_are : (d : List ℕ) → replies acts' m.report q d ≡ replies acts m.report q d
  replies_are d = replies_kept acts acts' m.report m.report q d said (λ n. refl)

  sent_are : (d : List ℕ) (told : List Told) → sent_of_query acts' m.report q d told ≡ sent_of_query acts m.report q d told
  sent_are d told = ap (λ rs. filter (λ (r : Reply). list_any (λ (x : Reply). x.line == r.line) rs) (replies_in told)) (replies_are d)

  final_are : has_final acts' m.report q ≡ has_final acts m.report q
  final_are = ap (λ k. nat_le k (finals_in q.number (told_to m.report q.client))) (turn_same acts acts' q asked)

  finished_are : is_finished before acts' m.report q ≡ is_finished before acts m.report q
  finished_are = each (clients before)
    where
      each : (ds : List (List ℕ)) → list_all (λ d. not (asks before q d) || has_ended acts' m.report q d) ds ≡ list_all (λ d. not (asks before q d) || has_ended acts m.report q d) ds
      each [] = refl
      each (d ∷ ds) = (λ i. (not (asks before q d) || ended_kept acts acts' m.report m.report q d said (λ n. refl) i) && each ds i)

  pub answered_same : IsAnswered before acts m q → IsAnswered before acts' m q
  answered_same h = record {
    prefix = λ d. let p = h.prefix d in (p.0, replies_are d ∙ p.1 ∙ ap (λ z. z ++ p.0) (sym (sent_are d (told_to m.report q.client))));
    finished = λ f. finished_are ∙ h.finished (sym final_are ∙ f);
    complete = λ f d. sent_are d (told_to m.report q.client) ∙ h.complete (sym final_are ∙ f) d ∙ sym (replies_are d);
    last = λ d. sent_are d (behind_finals q.number (turn acts' q) (told_to m.report q.client)) ∙ ap (λ k. sent_of_query acts m.report q d (behind_finals q.number k (told_to m.report q.client))) (turn_same acts acts' q asked) ∙ h.last d;
    whole = λ quiet d. sent_are d (told_to m.report q.client) ∙ h.whole quiet d ∙ sym (replies_are d);
    final = λ quiet f. final_are ∙ h.final quiet (sym finished_are ∙ f);
  }

  all_are : all_replies acts' m.report q ≡ all_replies acts m.report q
  all_are = λ i.
      filter_map
      (λ s. said_if (option_map_or (λ l. l == q.line) (slice_get (requests_to m.report s.client s.number) (count_by (λ z. is_end s.client s.number z && nat_lt z.line s.line) (said i))) false) s.reply)
      (said i)

  best_are : best acts' m.report q ≡ best acts m.report q
  best_are = ap (λ cs. map key_body (gathered cs)) all_are

  turn_are : sent_in_turn acts' m.report q ≡ sent_in_turn acts m.report q
  turn_are = ap (λ k. map (λ (r : Reply). key_body r.content) (filter (λ (r : Reply). r.number == q.number) (replies_in (told_in_turn q.number (k - 1) (told_to m.report q.client))))) (turn_same acts acts' q asked)

  pub latest_same : IsAnsweredLatest before acts m q → IsAnsweredLatest before acts' m q
  latest_same h = record {
    prefix = (h.prefix.0, best_are ∙ h.prefix.1 ∙ ap (λ z. z ++ h.prefix.0) (sym turn_are));
    early = λ e. turn_are ∙ h.early (sym finished_are ∙ e);
    finished = λ f. finished_are ∙ h.finished (sym final_are ∙ f);
    complete = λ f. turn_are ∙ h.complete (sym final_are ∙ f) ∙ sym best_are;
    whole = λ quiet f. turn_are ∙ h.whole quiet (sym finished_are ∙ f) ∙ sym best_are;
    final = λ quiet f. final_are ∙ h.final quiet (sym finished_are ∙ f);
  }

-- replies that fit fit before a cut
pub fits_front : (acts rest : List Numbered) → RepliesFit (acts ++ rest) → RepliesFit acts
fits_front acts rest fit = record {
  bodies = (all_parts reply_bodies (sayings acts) (sayings rest) (ap (list_all reply_bodies) (sym both) ∙ fit.bodies)).0;
  light =
      let sum : sum_by saying_weight (sayings (acts ++ rest)) ≡ sum_by saying_weight (sayings acts) + sum_by saying_weight (sayings rest) = ap (sum_by saying_weight) both ∙ sum_by-append saying_weight (sayings acts) (sayings rest) in
      let le : sum_by saying_weight (sayings (acts ++ rest)) ≤ most_held = fit.light in
      omega (arith, sum, le);
}
  where
    both : sayings (acts ++ rest) ≡ sayings acts ++ sayings rest
    both = filter_map-append (λ (x : Numbered). saying_in x.0 x.1) acts rest

-- they fit by what is said alone
pub fits_same : (acts acts' : List Numbered) → sayings acts' ≡ sayings acts → RepliesFit acts → RepliesFit acts'
fits_same acts acts' said fit = record {
  bodies = ap (list_all reply_bodies) said ∙ fit.bodies;
  light = subst (λ ss. sum_by saying_weight ss ≤ most_held) (sym said) fit.light;
}
