-- One step of the walk: the chunks in front are compared, and the others are left.
use Rattle.std.proofs.Common.{◌≡◌, ℕ, ◌==◌, ◌&&◌, ◌∷◌, [], List, Bool, true, false, cond, Option, Some, None, Bor, refl, sym, ap, ◌∙◌, nat_eq, map}
use Rattle.std.specs.List.{slice_split, onto_first, list_all}
use Rattle.std.specs.Option.{option_copied}
use Rattle.std.specs.Cmp.Lexicographic.{pointwise}
use Rattle.std.proofs.lemmas.Bool.{and_parts}
use Rattle.zr_lists.specs.Cut.{parts}
use Rattle.zr_key.specs.Expression.{Any, AnyChunks, Pieces, is_chunk}
use Rattle.zr_key.specs.Key.{chunk_of, pieces_of, expression_of}
use Rattle.zr_match.specs.Table.{compare_chunks, chunks_go_together, is_any_chunks}
use Rattle.zr_match.proofs.ChunkTable.{front}
use Rattle.zr_match.proofs.ChunkSteps.{chunks_left}
use Rattle.zr_match.proofs.Ends.{nothing_first, nothing_first_covers, nothing_second}

no_gap : (x : List ℕ) → pointwise nat_eq x (42 ∷ 42 ∷ []) ≡ false → is_any_chunks (chunk_of x) ≡ false
no_gap x e = by (pointwise nat_eq x (42 ∷ [])) (pointwise nat_eq x (42 ∷ 42 ∷ [])) e
  where
    by : (t u : Bool) → u ≡ false → is_any_chunks (cond t Any (cond u AnyChunks (Pieces (pieces_of x)))) ≡ false
    by true u e = refl
    by false true e = cc
    by false false e = refl

-- what a step does
pub record Step (expands : Bool) (left right x y : List ℕ) (left_more right_more : Option (Bor (List ℕ))) : Type 0 where
  pub value : compare_chunks expands (expression_of left) (expression_of right) ≡ (chunks_go_together expands (chunk_of x) (chunk_of y) && compare_chunks expands (chunks_left left_more) (chunks_left right_more))
  pub left_is : list_all is_chunk (chunks_left left_more) ≡ true
  pub right_is : list_all is_chunk (chunks_left right_more) ≡ true

pub step : (expands : Bool) (left right x y : List ℕ) (left_more right_more : Option (Bor (List ℕ)))
    → slice_split (λ b. b == 47) left ≡ x ∷ parts 47 (option_copied left_more) → slice_split (λ b. b == 47) right ≡ y ∷ parts 47 (option_copied right_more)
    → pointwise nat_eq x (42 ∷ 42 ∷ []) ≡ false → pointwise nat_eq y (42 ∷ 42 ∷ []) ≡ false
    → list_all is_chunk (expression_of left) ≡ true → list_all is_chunk (expression_of right) ≡ true → Step expands left right x y left_more right_more
step expands left right x y left_more right_more cut other g h okl okr =
    let a : expression_of left ≡ chunk_of x ∷ chunks_left left_more = ap (λ z. map chunk_of z) cut in
    let b : expression_of right ≡ chunk_of y ∷ chunks_left right_more = ap (λ z. map chunk_of z) other in
    let oka : list_all is_chunk (chunk_of x ∷ chunks_left left_more) ≡ true = ap (λ z. list_all is_chunk z) (sym a) ∙ okl in
    let okb : list_all is_chunk (chunk_of y ∷ chunks_left right_more) ≡ true = ap (λ z. list_all is_chunk z) (sym b) ∙ okr in
    record {
      value = ap (λ z. compare_chunks expands z (expression_of right)) a ∙ ap (λ z. compare_chunks expands (chunk_of x ∷ chunks_left left_more) z) b
          ∙ front expands (chunk_of x) (chunk_of y) (chunks_left left_more) (chunks_left right_more) (no_gap x g) (no_gap y h) oka okb;
      left_is = (and_parts (is_chunk (chunk_of x)) (list_all is_chunk (chunks_left left_more)) oka).1;
      right_is = (and_parts (is_chunk (chunk_of y)) (list_all is_chunk (chunks_left right_more)) okb).1;
    }

-- chunks that do not go together, and those that do
pub apart : {expands : Bool} {left right x y : List ℕ} {l r : Option (Bor (List ℕ))} → Step expands left right x y l r → chunks_go_together expands (chunk_of x) (chunk_of y) ≡ false
    → compare_chunks expands (expression_of left) (expression_of right) ≡ false
apart {expands} {left} {right} {x} {y} {l} {r} s t = s.value ∙ ap (λ g. g && compare_chunks expands (chunks_left l) (chunks_left r)) t

pub together : {expands : Bool} {left right x y : List ℕ} {l r : Option (Bor (List ℕ))} → Step expands left right x y l r → chunks_go_together expands (chunk_of x) (chunk_of y) ≡ true
    → compare_chunks expands (expression_of left) (expression_of right) ≡ compare_chunks expands (chunks_left l) (chunks_left r)
together {expands} {left} {right} {x} {y} {l} {r} s t = s.value ∙ ap (λ g. g && compare_chunks expands (chunks_left l) (chunks_left r)) t

-- the ends of both
pub second_ends : (expands : Bool) (l r : Option (Bor (List ℕ))) (more : Bor (List ℕ)) → l ≡ Some more → r ≡ None → compare_chunks expands (chunks_left l) (chunks_left r) ≡ list_all is_any_chunks (expression_of more.now)
second_ends expands l r more e f =
    ap (λ z. compare_chunks expands (chunks_left z) (chunks_left r)) e ∙ ap (λ z. compare_chunks expands (chunks_left (Some more)) (chunks_left z)) f ∙ nothing_second expands (expression_of more.now)

pub first_ends : (expands : Bool) → expands ≡ true → (l r : Option (Bor (List ℕ))) (more : Bor (List ℕ)) → l ≡ None → r ≡ Some more → compare_chunks expands (chunks_left l) (chunks_left r) ≡ list_all is_any_chunks (expression_of more.now)
first_ends expands h l r more e f =
    ap (λ z. compare_chunks z (chunks_left l) (chunks_left r)) h ∙ ap (λ z. compare_chunks true (chunks_left z) (chunks_left r)) e ∙ ap (λ z. compare_chunks true [] (chunks_left z)) f ∙ nothing_first (expression_of more.now)

some_left : (text : List ℕ) → compare_chunks false [] (expression_of text) ≡ false
some_left [] = refl
some_left (b ∷ bs) = by (b == 47) (slice_split (λ c. c == 47) bs)
  where
    by : (t : Bool) (split : List (List ℕ)) → compare_chunks false [] (map chunk_of (cond t ([] ∷ split) (onto_first b split))) ≡ false
    by true split = nothing_first_covers (chunk_of []) (map chunk_of split)
    by false [] = nothing_first_covers (chunk_of (b ∷ [])) []
    by false (first ∷ rest) = nothing_first_covers (chunk_of (b ∷ first)) (map chunk_of rest)

pub first_ends_covers : (expands : Bool) → expands ≡ false → (l r : Option (Bor (List ℕ))) (more : Bor (List ℕ)) → l ≡ None → r ≡ Some more → compare_chunks expands (chunks_left l) (chunks_left r) ≡ false
first_ends_covers expands h l r more e f =
    ap (λ z. compare_chunks z (chunks_left l) (chunks_left r)) h ∙ ap (λ z. compare_chunks false (chunks_left z) (chunks_left r)) e ∙ ap (λ z. compare_chunks false [] (chunks_left z)) f ∙ some_left more.now
