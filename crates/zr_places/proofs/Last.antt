-- An entry that comes behind all others.
use Rattle.std.proofs.Common.{◌≡◌, ℕ, ◌<◌, ◌++◌, ◌∷◌, [], List, Greater, refl, sym, ap, ◌∙◌}
use Rattle.std.specs.BTreeMap.{insert_entry}
use Rattle.std.specs.Cmp.{nat_cmp_is}
use Rattle.std.specs.List.{All}
use Rattle.std.specs.Map.{keys_of, values_of}
use Rattle.std.specs.Ordering.{match_ordering, nat_cmp}
use Rattle.std.proofs.lemmas.List.Elements.{All-head, All-tail}

pub comes_last : {X : Type 0} (es : List (ℕ × X)) (p : ℕ) (v : X) → All (λ k. k < p) (keys_of es) → values_of (insert_entry nat_cmp es p v) ≡ values_of es ++ v ∷ []
comes_last [] p v h = refl
comes_last (e ∷ es) p v h =
    let below : e.0 < p = All-head (λ k. k < p) e.0 (keys_of es) h in
    ap (λ o. values_of (match_ordering o ((p, v) ∷ e ∷ es) ((e.0, v) ∷ es) (e ∷ insert_entry nat_cmp es p v))) (sym (nat_cmp_is p e.0 Greater below))
    ∙ ap (λ vs. e.1 ∷ vs) (comes_last es p v (All-tail (λ k. k < p) e.0 (keys_of es) h))
