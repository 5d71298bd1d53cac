-- What is known of a change log at its numbers.
use Rattle.std.proofs.Common.{◌≡◌, ℕ, ◌+◌, ◌≤◌, Bool, true, false, cond, List, [], ◌∷◌, ◌++◌, length, take, ap}
use Rattle.std.specs.List.{fold}
use Rattle.std.proofs.lemmas.List.{take-append-le}
use Rattle.std.proofs.lemmas.List.Sums.{fold_push}
use Rattle.std.proofs.Math.Seq.{take-append_seam, take-append-add}
use Rattle.zr_msg.specs.declared.decl.Decl.{Decl}
use Rattle.zr_log_set.specs.Decls.{IsSet, with_decl, without_decl}
use Rattle.zr_log_set.proofs.Decls.{set_with, set_without, set_none}
use Rattle.zr_log.specs.Log.{Change, changed, known}

pub stays : (log more : List Change) (n : ℕ) → n ≤ length log → known (log ++ more) n ≡ known log n
stays log more n le = ap (λ (cs : List Change). fold changed [] cs) (take-append-le n log more le)

pub grows : (before after : List Change) (c : Change) → known (before ++ c ∷ after) (length before + 1) ≡ changed (known (before ++ c ∷ after) (length before)) c
grows before after c =
    rw (take-append-add before (c ∷ after) 1, take-append_seam before (c ∷ after)) (fold_push changed [] before c)

pub set_changed : (set : List Decl) (c : Change) → IsSet set → IsSet (changed set c)
set_changed set c up = by_test c.added
  where
    by_test : (t : Bool) → IsSet (cond t (with_decl set c.decl) (without_decl set c.decl))
    by_test true = set_with set c.decl up
    by_test false = set_without set c.decl up

sets_from : (set : List Decl) (cs : List Change) → IsSet set → IsSet (fold changed set cs)
sets_from set [] up = up
sets_from set (c ∷ cs) up = sets_from (changed set c) cs (set_changed set c up)

pub known_set : (log : List Change) (n : ℕ) → IsSet (known log n)
known_set log n = sets_from [] (take n log) set_none
