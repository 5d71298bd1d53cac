-- Identifiers other than the router's own, found one after another.
use Rattle.std.proofs.Common.{◌≡◌, ◌+◌, ◌<◌, ℕ, Bool, true, false, not, cond, List, [], ◌∷◌, ◌++◌, length, get_or, drop, sym, ap, ◌∙◌, append_assoc}
use Rattle.std.proofs.lemmas.List.{at_drop_more}
use Rattle.zr_id.specs.Record.{RecordState}
use Rattle.zr_id.specs.Zid.{is_named}
use Rattle.zr_router_glance.specs.Glance.{other_ids}

pub one_other : (me : List ℕ) (rs : List RecordState) (i : ℕ) (r : RecordState) (old new whole : List (List ℕ)) → i < length rs → r ≡ get_or rs i r
    → new ≡ old ++ cond (not (is_named r.id me)) (r.id ∷ []) [] → old ++ other_ids me (drop i rs) ≡ whole → new ++ other_ids me (drop (i + 1) rs) ≡ whole
one_other me rs i r old new whole less is put so =
    ap (λ z. z ++ left) put ∙ by (not (is_named r.id me)) ∙ ap (λ z. old ++ z) (sym first) ∙ so
  where
    left : List (List ℕ)
    left = other_ids me (drop (i + 1) rs)

    first : other_ids me (drop i rs) ≡ cond (not (is_named r.id me)) (r.id ∷ left) left
    first = at_drop_more (λ ls. other_ids me ls) rs i r less ∙ ap (λ (q : RecordState). cond (not (is_named q.id me)) (q.id ∷ left) left) (sym is)

    by : (t : Bool) → (old ++ cond t (r.id ∷ []) []) ++ left ≡ old ++ cond t (r.id ∷ left) left
    by true = append_assoc old (r.id ∷ []) left
    by false = append_assoc old [] left
