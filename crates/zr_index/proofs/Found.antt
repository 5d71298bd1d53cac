-- What a walk finds, level by level, and that it finds nothing below a row without a mark.
use Rattle.std.proofs.Common.{◌≡◌, ℕ, suc, zero, ◌+◌, ◌≤◌, Bool, true, false, cond, ◌&&◌, ◌||◌, List, [], ◌∷◌, ◌++◌, map, refl, sym, ap, ◌∙◌, arith, length, reverse, take, drop, get_or}
use Rattle.std.specs.List.{list_any}
use Rattle.std.specs.Ordering.{is_eq}
use Rattle.std.specs.declared.cmp.Ordering.{Ordering}
use Rattle.std.proofs.lemmas.List.Folds.{list_any-append}
use Rattle.std.proofs.lemmas.Bool.{or_parts}
use Rattle.std.proofs.lemmas.List.{reverse-append}
use Rattle.std.proofs.Math.Bool.{and-false}
use Rattle.zr_key.specs.Expression.{Chunk}
use Rattle.zr_key.specs.Key.{chunks, chunk_of, expression_of}
use Rattle.zr_match.specs.Table.{Signs, place, next_row, table, chunk_signs, IsRow}
use Rattle.zr_match.proofs.Rows.{reverse_next, drop_next, length_suc}
use Rattle.zr_lists.proofs.Tests.{any_mapped}
use Rattle.zr_index.specs.declared.node.Node.{Node}
use Rattle.zr_index.specs.declared.node.Node.TheViews.{out-Node}
use Rattle.zr_index.specs.declared.node.Node.TheFolds.{fold_out-Node}
use Rattle.zr_index.specs.Meeting.{meets_key}
use Rattle.zr_index.specs.Pairs.{Pairs, pairs, pairs_step, behind, below, is_of}
use Rattle.zr_index.specs.Walk.{onto, is_met, finds, finds_wild, finds_plain}
use Rattle.zr_index.proofs.Tests.{any_and}

-- ---- the place of two expressions

onto_reverse : (above : List Chunk) (path : List (List ℕ)) → onto above path ≡ reverse (map chunk_of path) ++ above
onto_reverse above [] = refl
onto_reverse above (c ∷ path) = onto_reverse (chunk_of c ∷ above) path ∙ sym (assoc (reverse (map chunk_of path)))
  where
    assoc : (xs : List Chunk) → reverse (chunk_of c ∷ map chunk_of path) ++ above ≡ reverse (map chunk_of path) ++ chunk_of c ∷ above
    assoc xs = ap (λ z. z ++ above) (reverse-append (chunk_of c ∷ []) (map chunk_of path)) ∙ glue (reverse (map chunk_of path))
      where
        glue : (ys : List Chunk) → (ys ++ chunk_of c ∷ []) ++ above ≡ ys ++ chunk_of c ∷ above
        glue [] = refl
        glue (y ∷ ys) = ap (λ z. y ∷ z) (glue ys)

append_none : {X : Type 0} (xs : List X) → xs ++ [] ≡ xs
append_none [] = refl
append_none (x ∷ xs) = ap (λ z. x ∷ z) (append_none xs)

-- from the root on, a path is met exactly where its expression meets the key's
pub met_is_meeting : (key : List ℕ) (path : List (List ℕ)) → is_met [] key path ≡ meets_key key path
met_is_meeting key path =
    ap (λ a. table (chunk_signs true) a (onto [] (chunks key))) (onto_reverse [] path ∙ append_none (reverse (map chunk_of path)))
    ∙ ap (λ b. table (chunk_signs true) (reverse (map chunk_of path)) b) (onto_reverse [] (chunks key) ∙ append_none (reverse (expression_of key)))

-- ---- a row along the chunks of a key

-- the marks of a row from a place on, where so many chunks are in front
abbrev pub Along : (List Chunk → Bool) → List Bool → ℕ → List Chunk → List (List ℕ) → Type 0
Along f marks k front [] = get_or marks k false ≡ f front
Along f marks k front (y ∷ ys) = (get_or marks k false ≡ f front) × Along f marks (k + 1) (chunk_of y ∷ front) ys

module _ (f : List Chunk → Bool) (marks : List Bool) (e : List Chunk) (row : IsRow f e marks) where
  along_from : (k : ℕ) (front : List Chunk) (ys : List (List ℕ)) → front ≡ reverse (take k e) → drop k e ≡ map chunk_of ys → k ≤ length e → Along f marks k front ys
  along_from k front [] done left within = row k within ∙ ap f (sym done)
  along_from k front (y ∷ ys) done left within = (
    row k within ∙ ap f (sym done),
    along_from (k + 1) (chunk_of y ∷ front) ys (ap (λ z. chunk_of y ∷ z) done ∙ sym (reverse_next k e (chunk_of y) (map chunk_of ys) left)) (drop_next k e (chunk_of y) (map chunk_of ys) left)
        (let h = length_suc k e (chunk_of y) (map chunk_of ys) left in omega arith),
  )

pub along : (f : List Chunk → Bool) (marks : List Bool) (key : List ℕ) → IsRow f (expression_of key) marks → Along f marks 0 [] (chunks key)
along f marks key row = along_from f marks (expression_of key) row 0 [] (chunks key) refl refl (omega arith)

-- the last mark is the place of all chunks
last_along : (f : List Chunk → Bool) (marks : List Bool) (k : ℕ) (front : List Chunk) (ys : List (List ℕ)) → Along f marks k front ys → get_or marks (k + length ys) false ≡ f (onto front ys)
last_along f marks k front [] h = ap (λ n. get_or marks n false) (omega arith) ∙ h
last_along f marks k front (y ∷ ys) h = ap (λ n. get_or marks n false) (omega arith) ∙ last_along f marks (k + 1) (chunk_of y ∷ front) ys h.1

map_length : {A B : Type 0} (h : A → B) (xs : List A) → length (map h xs) ≡ length xs
map_length h [] = refl
map_length h (x ∷ xs) = let g = map_length h xs in omega arith

pub last_mark : (above : List Chunk) (marks : List Bool) (key : List ℕ) → IsRow (table (chunk_signs true) above) (expression_of key) marks → get_or marks (length (expression_of key)) false ≡ is_met above key []
last_mark above marks key row =
    ap (λ n. get_or marks n false) (map_length chunk_of (chunks key) ∙ omega arith)
    ∙ last_along (table (chunk_signs true) above) marks 0 [] (chunks key) (along (table (chunk_signs true) above) marks key row)

-- ---- rows without a mark

abbrev pub IsBlank : {X : Type 0} → (List X → Bool) → List X → Type 0
IsBlank f [] = f [] ≡ false
IsBlank f (y ∷ b) = (f (y ∷ b) ≡ false) × IsBlank f b

blank_here : {X : Type 0} (f : List X → Bool) (b : List X) → IsBlank f b → f b ≡ false
blank_here f [] h = h
blank_here f (y ∷ b) h = h.0

blank_place : (gx gy e oy ox g : Bool) → cond gx (false || (oy && false)) (cond gy (e && (false || (ox && false))) (g && false)) ≡ false
blank_place true gy e oy ox g = and-false oy
blank_place false true e oy ox g = ap (λ z. e && z) (and-false ox) ∙ and-false e
blank_place false false e oy ox g = and-false g

module _ {X : Type 0} (s : Signs X) where
  blank_next : (x : X) (f : List X → Bool) (b : List X) → IsBlank f b → IsBlank (next_row s x f) b
  blank_next x f [] h = ap (λ z. s.is_gap x && z) h ∙ and-false (s.is_gap x)
  blank_next x f (y ∷ b) h =
      let rest = blank_next x f b h.1 in (
        (λ i. place s x y (blank_here f b h.1 i) (h.0 i) (blank_here (next_row s x f) b rest i))
            ∙ blank_place (s.is_gap x) (s.is_gap y) s.expands (s.is_open y) (s.is_open x) (s.go_together x y),
        rest,
      )

-- below a row without a mark no path is met
pub blank_below : (above : List Chunk) (b : List Chunk) → IsBlank (table (chunk_signs true) above) b → (path : List (List ℕ)) → table (chunk_signs true) (onto above path) b ≡ false
blank_below above b h [] = blank_here (table (chunk_signs true) above) b h
blank_below above b h (c ∷ path) = blank_below (chunk_of c ∷ above) b (blank_next (chunk_signs true) (chunk_of c) (table (chunk_signs true) above) b h) path

none_marked : (marks : List Bool) → list_any (λ m. m) marks ≡ false → (k : ℕ) → get_or marks k false ≡ false
none_marked [] h k = refl
none_marked (m ∷ marks) h zero = (or_parts m (list_any (λ m. m) marks) h).0
none_marked (m ∷ marks) h (suc k) = none_marked marks (or_parts m (list_any (λ m. m) marks) h).1 k

blank_along : (f : List Chunk → Bool) (marks : List Bool) → list_any (λ m. m) marks ≡ false → (k : ℕ) (front : List Chunk) (ys : List (List ℕ)) → Along f marks k front ys
    → (f front ≡ false → IsBlank f front) → IsBlank f (onto front ys)
blank_along f marks none k front [] h up = up (sym h ∙ none_marked marks none k)
blank_along f marks none k front (y ∷ ys) h up =
    let here = up (sym h.0 ∙ none_marked marks none k) in
    blank_along f marks none (k + 1) (chunk_of y ∷ front) ys h.1 (λ e. (e, here))

none_of : {A : Type 0} (t u : A → Bool) → ((a : A) → t a ≡ false) → (xs : List A) → list_any (λ a. t a && u a) xs ≡ false
none_of t u h [] = refl
none_of t u h (x ∷ xs) = ap (λ z. z && u x || list_any (λ a. t a && u a) xs) (h x) ∙ none_of t u h xs

pub blank_found : {V : Type 0} (cmp : V → V → Ordering) (above : List Chunk) (key : List ℕ) → IsBlank (table (chunk_signs true) above) (onto [] (chunks key))
    → (ps : Pairs V) (v : V) → finds cmp above key ps v ≡ false
blank_found {V = V} cmp above key h ps v = none_of (λ (p : List (List ℕ) × V). is_met above key p.0) (λ p. is_eq (cmp p.1 v)) (λ p. blank_below above (onto [] (chunks key)) h p.0) ps

pub none_found : {V : Type 0} (cmp : V → V → Ordering) (above : List Chunk) (marks : List Bool) (key : List ℕ) → IsRow (table (chunk_signs true) above) (expression_of key) marks → list_any (λ m. m) marks ≡ false
    → (ps : Pairs V) (v : V) → finds cmp above key ps v ≡ false
none_found cmp above marks key row none =
    blank_found cmp above key (blank_along (table (chunk_signs true) above) marks none 0 [] (chunks key) (along (table (chunk_signs true) above) marks key row) (λ e. e))

-- ---- a level

module _ {V K : Type 0} (text : K → List ℕ) (t : List (List ℕ) × V → Bool) (plain : Bool) where
  one_below : (b : Bool) (c : List ℕ) (ps : Pairs V) → list_any t (cond b (behind c ps) []) ≡ (b && list_any (λ p. t (c ∷ p.0, p.1)) ps)
  one_below true c ps = any_mapped t (λ (p : List (List ℕ) × V). (c ∷ p.0, p.1)) ps
  one_below false c ps = refl

  any_below : (es : List (K × Node V)) → list_any t (below text plain (map (λ e. (e.0, pairs e.1)) es)) ≡ list_any (λ e. is_of plain (text e.0) && list_any (λ p. t (text e.0 ∷ p.0, p.1)) (pairs e.1)) es
  any_below [] = refl
  any_below (e ∷ es) =
      list_any-append t (cond (is_of plain (text e.0)) (behind (text e.0) (pairs e.1)) []) (below text plain (map (λ e. (e.0, pairs e.1)) es))
      ∙ (λ i. one_below (is_of plain (text e.0)) (text e.0) (pairs e.1) i || any_below es i)

pub finds_level : {V : Type 0} (cmp : V → V → Ordering) (above : List Chunk) (key : List ℕ) (n : Node V) (v : V)
    → finds cmp above key (pairs n) v ≡ (is_met above key [] && list_any (λ w. is_eq (cmp w v)) (out-Node V n).values.items || (finds_plain cmp above key n v || finds_wild cmp above key n v))
finds_level {V = V} cmp above key n v =
    let t : List (List ℕ) × V → Bool = λ p. is_met above key p.0 && is_eq (cmp p.1 v) in
    let x = out-Node V n in
    ap (list_any t) (fold_out-Node V (Pairs V) pairs_step n)
    ∙ list_any-append t (map (λ (w : V). ([], w)) x.values.items) (below (λ k. k.items) true (map (λ e. (e.0, pairs e.1)) x.plain.entries) ++ below (λ k. k.items) false (map (λ e. (e.0, pairs e.1)) x.wild.entries))
    ∙ (λ i. (any_mapped t (λ (w : V). ([], w)) x.values.items ∙ any_and (is_met above key []) (λ w. is_eq (cmp w v)) x.values.items) i
    || (list_any-append t (below (λ k. k.items) true (map (λ e. (e.0, pairs e.1)) x.plain.entries)) (below (λ k. k.items) false (map (λ e. (e.0, pairs e.1)) x.wild.entries))
    ∙ (λ j. any_below (λ k. k.items) t true x.plain.entries j || any_below (λ k. k.items) t false x.wild.entries j)) i)

-- what is found from the root on is what meets the key
pub finds_meeting : {V : Type 0} (cmp : V → V → Ordering) (key : List ℕ) (ps : Pairs V) (v : V) → finds cmp [] key ps v ≡ list_any (λ p. meets_key key p.0 && is_eq (cmp p.1 v)) ps
finds_meeting cmp key [] v = refl
finds_meeting cmp key (p ∷ ps) v = λ i. met_is_meeting key p.0 i && is_eq (cmp p.1 v) || finds_meeting cmp key ps v i
