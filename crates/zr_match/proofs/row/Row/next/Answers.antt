use Rattle.std.proofs.Common.{rules, ◌≡◌, ◌∷◌, [], ◌++◌, ◌∙◌, List, Bool, true, refl, sym, ap, subst, length, take, drop, ℕ}
use Rattle.zr_key.specs.Key.{expression_of, chunk_of}
use Rattle.zr_match.specs.Table.{table, chunk_signs, IsRow}
use Rattle.zr_match.proofs.row.Row.next.Goals as goal

front : (xs ys : List Bool) → take (length xs) (xs ++ ys) ≡ xs
front [] ys = refl
front (x ∷ xs) ys = ap (λ z. x ∷ z) (front xs ys)

front_of : (n : ℕ) (xs ys : List Bool) → length xs ≡ n → take n (xs ++ ys) ≡ xs
front_of n xs ys e = ap (λ k. take k (xs ++ ys)) (sym e) ∙ front xs ys

pub returns-clause-is : goal.returns-clause-is
returns-clause-is c above h =
    let old : c.deref_mut.result.now ≡ c.args.self.now.marks.items = c.deref_mut.ensures.value ∙ c.in_ok-marks.ensures.items ∙ c.deref.ensures.value in
    let text : c.as_bytes-text.result.now ≡ c.args.key.now = c.as_bytes-text.ensures.value ∙ c.text.ensures.value in
    let same : length c.put_next_row.new.row ≡ c.in_ok-marks.marks.len = search rules in
    let back = front_of c.in_ok-marks.marks.len c.put_next_row.new.row (drop (length c.put_next_row.new.row) c.in_ok-marks.marks.items) same in
    let had = subst (λ (m : List Bool). IsRow (table (chunk_signs true) above) (expression_of c.as_bytes-text.result.now) m) (sym old)
    (subst (λ (t : List ℕ). IsRow (table (chunk_signs true) above) (expression_of t) c.args.self.now.marks.items) (sym text) h) in
    subst (λ (m : List Bool). IsRow (table (chunk_signs true) (chunk_of c.args.chunk.now ∷ above)) (expression_of c.args.key.now) m) (sym back)
    (subst (λ (t : List ℕ). IsRow (table (chunk_signs true) (chunk_of c.args.chunk.now ∷ above)) (expression_of t) c.put_next_row.new.row) text (c.put_next_row.ensures above had))
