-- What one more step of a loop leaves to be done: of the links of a request, of the rows that are copied, and of the branches that end.
use Rattle.std.proofs.Common.{◌≡◌, ℕ, ◌+◌, ◌<◌, Bool, false, List, [], ◌∷◌, ◌++◌, map, length, drop, get_or, Option, sym, ap, ◌∙◌, append_assoc}
use Rattle.std.specs.List.{list_any}
use Rattle.std.specs.Option.{option_to_list}
use Rattle.std.proofs.lemmas.List.{drop_more}
use Rattle.zr_id.specs.declared.link.LinkNo.{LinkNo}
use Rattle.zr_pend_spec.specs.declared.branch.Asker.{Asker}
use Rattle.zr_pend_spec.specs.declared.branch.Branch.{Branch}
use Rattle.zr_pend_spec.specs.Row.{RowState}
use Rattle.zr_pend_spec.specs.Pending.{branch, free_number, opened, final_to}
use Rattle.zr_lists.proofs.Parts.{right_false}
use Rattle.zr_pend_rows.specs.Ending.{all_ended, ended, finals_among}

-- the branch of one link more is opened
pub opened_more : (rows : List RowState) (to : List LinkNo) (i : ℕ) (d : LinkNo) (bs news : List Branch) (n : ℕ) → i < length to → n ≡ free_number (get_or to i d) rows →
    news ≡ bs ++ branch (get_or to i d) n ∷ [] → bs ++ opened rows (drop i to) ≡ opened rows to → news ++ opened rows (drop (i + 1) to) ≡ opened rows to
opened_more rows to i d bs news n lt is e h =
    ap (λ z. z ++ opened rows (drop (i + 1) to)) (e ∙ ap (λ k. bs ++ branch (get_or to i d) k ∷ []) is)
    ∙ append_assoc bs (branch (get_or to i d) (free_number (get_or to i d) rows) ∷ []) (opened rows (drop (i + 1) to))
    ∙ ap (λ ls. bs ++ opened rows ls) (sym (drop_more to i d lt))
    ∙ h

-- where none of those that are left passes, none does behind the first of them
pub none_more : (p : LinkNo → Bool) (to : List LinkNo) (i : ℕ) (d : LinkNo) → i < length to → list_any p (drop i to) ≡ false → list_any p (drop (i + 1) to) ≡ false
none_more p to i d lt h = right_false _ _ (ap (λ ls. list_any p ls) (sym (drop_more to i d lt)) ∙ h)

-- one branch more has ended
module _ (link : LinkNo) (numbers : List ℕ) (i d : ℕ) (rows news : List RowState) (lt : i < length numbers) (e : news ≡ ended rows (branch link (get_or numbers i d))) where
  pub ended_more : (all : List RowState) → all_ended rows (map (λ n. branch link n) (drop i numbers)) ≡ all → all_ended news (map (λ n. branch link n) (drop (i + 1) numbers)) ≡ all
  ended_more all h =
      ap (λ rs. all_ended rs (map (λ n. branch link n) (drop (i + 1) numbers))) e
      ∙ ap (λ ns. all_ended rows (map (λ n. branch link n) ns)) (sym (drop_more numbers i d lt))
      ∙ h

  pub finals_more : (askers more all : List Asker) (o : Option Asker) → o ≡ final_to rows (branch link (get_or numbers i d)) → more ≡ askers ++ option_to_list o →
      askers ++ finals_among rows (map (λ n. branch link n) (drop i numbers)) ≡ all → more ++ finals_among news (map (λ n. branch link n) (drop (i + 1) numbers)) ≡ all
  finals_more askers more all o is m h =
      ap (λ z. z ++ finals_among news (map (λ n. branch link n) (drop (i + 1) numbers))) (m ∙ ap (λ q. askers ++ option_to_list q) is)
      ∙ append_assoc askers (option_to_list (final_to rows (branch link (get_or numbers i d)))) (finals_among news (map (λ n. branch link n) (drop (i + 1) numbers)))
      ∙ ap (λ rs. askers ++ (option_to_list (final_to rows (branch link (get_or numbers i d))) ++ finals_among rs (map (λ n. branch link n) (drop (i + 1) numbers)))) e
      ∙ ap (λ ns. askers ++ finals_among rows (map (λ n. branch link n) ns)) (sym (drop_more numbers i d lt))
      ∙ h
