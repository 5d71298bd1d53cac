-- Which turn of its number a query's is: one more than its place among the queries that its client has asked under the number (`turn_is`).
use Rattle.std.proofs.Common.{◌≡◌, ◌≤◌, ◌<◌, ℕ, zero, suc, ◌+◌, ◌==◌, Bool, true, false, cond, List, [], ◌∷◌, inl, inr, filter, Option, Some, None, refl, sym, ap, ◌∙◌, subst, arith}
use Rattle.std.specs.Prelude.{◌&&◌, nat_le}
use Rattle.std.specs.List.{cons_option, count_by, slice_get}
use Rattle.std.proofs.lemmas.Bool.{and_parts, and_from, eq-eqb, le-leb, leb-true, false_from_ne_true}
use Rattle.std.proofs.lemmas.List.Sums.{sum_by-cons}
use Rattle.std.proofs.lemmas.Option.{none-some}
use Rattle.zr_id.specs.Zid.{is_named}
use Rattle.zr_lists.proofs.Finds.{In, in_filter, filter_in}
use Rattle.zr_lists.proofs.Elements.{in_each}
use Rattle.zr_world_spec.specs.Moments.{Numbered, is_later, ascends}
use Rattle.zr_world_spec.proofs.Names.{names}
use Rattle.zr_guarantee.specs.Queries.{Asked, asked_in, queries, is_under, turn}
use Rattle.zr_law_replies.proofs.Lists.{get_in, in_get, count_none}
use Rattle.zr_law_replies.proofs.Grown.{earlier, asked_of, asks_no_step}

-- ---- places

-- queries behind a line, each behind the one before
abbrev Ascend : ℕ → List Asked → Type 0
Ascend last [] = Unit {0}
Ascend last (q ∷ qs) = (last < q.line) × Ascend q.line qs

ascend_from : (l last : ℕ) (qs : List Asked) → l ≤ last → Ascend last qs → Ascend l qs
ascend_from l last [] le h = tt
ascend_from l last (q ∷ qs) le h = let lt : last < q.line = h.0 in (omega arith, h.1)

ascending : (last : ℕ) (acts : List Numbered) → ascends last acts ≡ true → Ascend last (queries acts)
ascending last [] h = tt
ascending last (x ∷ acts) h = by (asked_in x.0 x.1) refl (ascending x.0 acts (and_parts (is_later last x) (ascends x.0 acts) h).1)
  where
    by : (o : Option Asked) → asked_in x.0 x.1 ≡ o → Ascend x.0 (queries acts) → Ascend last (cons_option o (queries acts))
    by None e more = ascend_from last x.0 (queries acts) (earlier last [] x acts h).1 more
    by (Some q) e more =
        let line : q.line ≡ x.0 = asked_of x.0 x.1 q e in
        (subst (λ k. last < k) (sym line) ((earlier last [] x acts h).2 (asks_no_step x.0 x.1 q e)), subst (λ k. Ascend k (queries acts)) (sym line) more)

ascend_in : (last : ℕ) (qs : List Asked) → Ascend last qs → (q : Asked) → In q qs → last < q.line
ascend_in last [] h q i = absurd i
ascend_in last (p ∷ qs) h q (inl e) = subst (λ (z : Asked). last < z.line) (sym e) h.0
ascend_in last (p ∷ qs) h q (inr i) = let a : last < p.line = h.0 in let b : p.line < q.line = ascend_in p.line qs h.1 q i in omega arith

module _ (p : Asked → Bool) where
  none_up_to : (l : ℕ) (qs : List Asked) → Ascend l qs → count_by (λ z. p z && nat_le z.line l) qs ≡ 0
  none_up_to l qs h = count_none p (λ z. nat_le z.line l) qs (in_each (λ (z : Asked). nat_le z.line l ≡ false) qs (λ z i. false_from_ne_true (nat_le z.line l) (λ t.
      let le : z.line ≤ l = leb-true z.line l t in
      let lt : l < z.line = ascend_in l qs h z i in
      absurd (omega arith))))

  turn_at : (last : ℕ) (qs : List Asked) → Ascend last qs → (i : ℕ) (q : Asked) → slice_get (filter p qs) i ≡ Some q → count_by (λ z. p z && nat_le z.line q.line) qs ≡ suc i
  turn_at last [] h i q e = absurd (none-some q e)
  turn_at last (x ∷ qs) h i q e = sum_by-cons (λ (z : Asked). cond (p z && nat_le z.line q.line) 1 0) x qs ∙ by (p x) refl i e (λ k f. turn_at x.line qs h.1 k q f)
    where
      by : (b : Bool) → p x ≡ b → (i : ℕ) → slice_get (cond b (x ∷ filter p qs) (filter p qs)) i ≡ Some q → ((k : ℕ) → slice_get (filter p qs) k ≡ Some q → count_by (λ z. p z && nat_le z.line q.line) qs ≡ suc k) →
          cond (p x && nat_le x.line q.line) 1 0 + count_by (λ z. p z && nat_le z.line q.line) qs ≡ suc i
      by false f i e ih = ap (λ b. cond (b && nat_le x.line q.line) 1 0 + count_by (λ z. p z && nat_le z.line q.line) qs) f ∙ (let g : 0 + count_by (λ z. p z && nat_le z.line q.line) qs ≡ count_by (λ z. p z && nat_le z.line q.line) qs = omega arith in g) ∙ ih i e
      by true f zero e ih =
          let one : x ≡ q = cc in
          ap (λ b. cond (b && nat_le x.line q.line) 1 0 + count_by (λ z. p z && nat_le z.line q.line) qs) f
          ∙ ap (λ b. cond b 1 0 + count_by (λ z. p z && nat_le z.line q.line) qs) (le-leb x.line q.line (let same : x.line ≡ q.line = ap (λ (z : Asked). z.line) one in omega arith))
          ∙ ap (λ k. 1 + k) (subst (λ (z : Asked). count_by (λ v. p v && nat_le v.line z.line) qs ≡ 0) one (none_up_to x.line qs h.1)) ∙ (let g : 1 + 0 ≡ suc zero = omega arith in g)
      by true f (suc k) e ih =
          let lt : x.line < q.line = ascend_in x.line qs h.1 q (in_filter p qs q (get_in (filter p qs) k q e)).0 in
          ap (λ b. cond (b && nat_le x.line q.line) 1 0 + count_by (λ z. p z && nat_le z.line q.line) qs) f
          ∙ ap (λ b. cond b 1 0 + count_by (λ z. p z && nat_le z.line q.line) qs) (le-leb x.line q.line (omega arith))
          ∙ ap (λ j. 1 + j) (ih k e) ∙ (let g : 1 + suc k ≡ suc (suc k) = omega arith in g)

-- so the turn of a query is one more than its place among those of its client under its number
pub turn_is : (last : ℕ) (acts : List Numbered) → ascends last acts ≡ true → (q : Asked) (i : ℕ) → slice_get (filter (λ p. is_under q.client q.number p) (queries acts)) i ≡ Some q → turn acts q ≡ suc i
turn_is last acts later q i e = turn_at (λ p. is_under q.client q.number p) last (queries acts) (ascending last acts later) i q e

-- ---- a query that was asked

module _ (acts : List Numbered) (later : ascends 0 acts ≡ true) (q : Asked) (among : In q (queries acts)) where
  -- those of its client under its number
  abbrev under : List Asked
  under = filter (λ p. is_under q.client q.number p) (queries acts)

  itself : is_under q.client q.number q ≡ true
  itself = and_from (is_named q.client q.client) (q.number == q.number) (names.refl q.client) (eq-eqb q.number q.number refl)

  pub its_place : (i : ℕ) × (slice_get (filter (λ p. is_under q.client q.number p) (queries acts)) i ≡ Some q)
  its_place = in_get under q (filter_in (λ p. is_under q.client q.number p) (queries acts) q among itself)

  pub its_turn : turn acts q ≡ suc its_place.0
  its_turn = turn_is 0 acts later q its_place.0 its_place.1
