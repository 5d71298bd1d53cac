-- Where the marked chunks of a key are plain and it has no `**`, of the plain chunks of a tree only those need a visit.
use Rattle.std.proofs.Common.{◌≡◌, ℕ, ◌+◌, ◌==◌, Bool, true, false, cond, ◌&&◌, ◌||◌, not, List, [], ◌∷◌, Some, None, refl, sym, ap, ◌∙◌, get_or, nat_eq}
use Rattle.std.specs.declared.cmp.Ordering.{Ordering}
use Rattle.std.specs.declared.cmp.Ordering.TheVariants.{Less, Equal, Greater}
use Rattle.std.specs.Cmp.{IsTotalOrder, eq_by_cmp_equiv}
use Rattle.std.specs.Ordering.{is_eq, nat_cmp, eq_by_cmp}
use Rattle.std.specs.List.{list_any, IsDistinct}
use Rattle.std.specs.Map.{lookup, keys_of}
use Rattle.std.specs.Option.{option_map_or}
use Rattle.std.specs.BTreeMap.{is_at}
use Rattle.std.specs.Cmp.Lexicographic.{pointwise, slice_cmp, nat_list_cmp_total}
use Rattle.std.proofs.lemmas.Bool.{and_parts, or_parts, not-true, false≢true}
use Rattle.std.proofs.lemmas.Map.{lookup-none}
use Rattle.std.proofs.lemmas.Map.Entries.{none_past_head, lookup_head, lookup_tail}
use Rattle.std.proofs.lemmas.Map.Keys.{IsDistinct-tail}
use Rattle.std.proofs.lemmas.Map.Lookups.{exact_bytes}
use Rattle.std.proofs.Math.Bool.{and-false}
use Rattle.zr_lists.proofs.Truths.{same_test}
use Rattle.zr_key.proofs.Spelling.{same_bytes}
use Rattle.zr_key.specs.Expression.{Chunk, Pieces}
use Rattle.zr_key.specs.Key.{chunks, chunk_of, expression_of, pieces_of, is_plain_text}
use Rattle.zr_match.specs.Table.{Signs, next_row, table, chunk_signs, chunks_go_together, is_any_chunks, IsRow}
use Rattle.zr_match.proofs.GoTogether.{plain_case, plain_chars}
use Rattle.zr_match.proofs.Plain.{bare_chunk}
use Rattle.zr_index.specs.declared.node.Node.{Node}
use Rattle.zr_index.specs.Pairs.{pairs, is_of}
use Rattle.zr_index.specs.Walk.{onto, finds, finds_below, finds_in, finds_sought, seeks_plain, seeks_chunk}
use Rattle.zr_index.proofs.Found.{Along, along, IsBlank, blank_found}

-- where a row has a mark, the next sign of the second pattern goes together with x nowhere; and it has no gap
abbrev pub IsApart : {X : Type 0} → Signs X → X → (List X → Bool) → List X → Type 0
IsApart s x f [] = Unit {0}
IsApart s x f (y ∷ b) = (s.is_gap y ≡ false) × (f b ≡ true → s.go_together x y ≡ false) × IsApart s x f b

module _ {X : Type 0} (s : Signs X) where
  apart_place : (gx gy e oy ox g across above left : Bool) → gx ≡ false → gy ≡ false → (g && across) ≡ false → cond gx (above || (oy && left)) (cond gy (e && (left || (ox && above))) (g && across)) ≡ false
  apart_place gx gy e oy ox g across above left p q r = (λ i. cond (p i) (above || (oy && left)) (cond (q i) (e && (left || (ox && above))) (g && across))) ∙ r

  where_marked : (g across : Bool) → (across ≡ true → g ≡ false) → (g && across) ≡ false
  where_marked g true h = ap (λ z. z && true) (h refl)
  where_marked g false h = and-false g

  pub apart_blank : (f : List X → Bool) (x : X) → s.is_gap x ≡ false → (b : List X) → IsApart s x f b → IsBlank (next_row s x f) b
  apart_blank f x no_gap [] h = ap (λ z. z && f []) no_gap
  apart_blank f x no_gap (y ∷ b) h = (
    apart_place (s.is_gap x) (s.is_gap y) s.expands (s.is_open y) (s.is_open x) (s.go_together x y) (f b) (f (y ∷ b)) (next_row s x f b) no_gap h.0
        (where_marked (s.go_together x y) (f b) h.1),
    apart_blank f x no_gap b h.2,
  )

-- a plain chunk is its pieces
pub plain_pieces : (c : List ℕ) → is_plain_text c ≡ true → chunk_of c ≡ Pieces (pieces_of c)
plain_pieces c h =
    let none = not-true (list_any (λ b. b == 42 || b == 36) c) h in
    bare_chunk c none ∙ ap (λ p. Pieces p) (sym (plain_chars c none).0)

pub plain_no_gap : (c : List ℕ) → is_plain_text c ≡ true → is_any_chunks (chunk_of c) ≡ false
plain_no_gap c h = ap is_any_chunks (plain_pieces c h)

both_true : (a b : Bool) → a ≡ true → b ≡ true → (a && b) ≡ true
both_true a b p q = (λ i. p i && q i)

plains_apart : (c y : List ℕ) → is_plain_text c ≡ true → is_plain_text y ≡ true → pointwise nat_eq c y ≡ false → chunks_go_together true (chunk_of c) (chunk_of y) ≡ false
plains_apart c y p q no_same =
    (λ i. chunks_go_together true (plain_pieces c p i) (plain_pieces y q i))
    ∙ sym (plain_case true c y (both_true (is_plain_text c) (is_plain_text y) p q)) ∙ no_same

gap_here : (y : List ℕ) (p m g : Bool) → is_plain_text y ≡ p → is_any_chunks (chunk_of y) ≡ g → (p || not m && not g) ≡ true → is_any_chunks (chunk_of y) ≡ false
gap_here y true m g e d h = plain_no_gap y e
gap_here y false true g e d h = absurd (false≢true h)
gap_here y false false true e d h = absurd (false≢true h)
gap_here y false false false e d h = d

plain_here : (p m g : Bool) → m ≡ true → (p || not m && not g) ≡ true → p ≡ true
plain_here true m g e h = refl
plain_here false true g e h = absurd (false≢true h)
plain_here false false g e h = absurd (false≢true e)

apart_here : (m same : Bool) → m ≡ true → (m && same) ≡ false → same ≡ false
apart_here true same e h = h
apart_here false same e h = absurd (false≢true e)

module _ (f : List Chunk → Bool) (marks : List Bool) (c : List ℕ) (plain : is_plain_text c ≡ true) where
  pub apart_along : (k : ℕ) (front : List Chunk) (ys : List (List ℕ)) → Along f marks k front ys → seeks_plain marks k ys ≡ true → seeks_chunk marks k ys c ≡ false
      → IsApart (chunk_signs true) (chunk_of c) f front → IsApart (chunk_signs true) (chunk_of c) f (onto front ys)
  apart_along k front [] h seeks none up = up
  apart_along k front (y ∷ ys) h seeks none up =
      let s = and_parts (is_plain_text y || not (get_or marks k false) && not (is_any_chunks (chunk_of y))) (seeks_plain marks (k + 1) ys) seeks in
      let n = or_parts (get_or marks k false && pointwise nat_eq c y) (seeks_chunk marks (k + 1) ys c) none in
      apart_along (k + 1) (chunk_of y ∷ front) ys h.1 s.1 n.1 (
        gap_here y (is_plain_text y) (get_or marks k false) (is_any_chunks (chunk_of y)) refl refl s.0,
        λ marked. plains_apart c y plain (plain_here (is_plain_text y) (get_or marks k false) (is_any_chunks (chunk_of y)) (h.0 ∙ marked) s.0)
            (apart_here (get_or marks k false) (pointwise nat_eq c y) (h.0 ∙ marked) n.0),
        up,
      )

-- ---- the entries of a map by their keys

pub same_key : (a b : List ℕ) → is_eq (slice_cmp nat_cmp a b) ≡ true → a ≡ b
same_key a b h = by (slice_cmp nat_cmp a b) refl h
  where
    by : (o : Ordering) → slice_cmp nat_cmp a b ≡ o → is_eq o ≡ true → a ≡ b
    by Less e t = absurd (false≢true t)
    by Equal e t = exact_bytes a b e
    by Greater e t = absurd (false≢true t)

or_true : (b : Bool) → (b || true) ≡ true
or_true true = refl
or_true false = refl

-- what some entry passes, one passes that a look-up by its key finds
find_one : {K X : Type 0} {R : K → K → Ordering} → IsTotalOrder R → (t : K × X → Bool) (es : List (K × X)) → IsDistinct (eq_by_cmp R) (keys_of es) → list_any t es ≡ true
    → (e : K × X) × (t e ≡ true) × (lookup (eq_by_cmp R e.0) es ≡ Some e.1)
find_one o t [] d h = absurd (false≢true h)
find_one {K = K} {X = X} {R = R} o t (e ∷ es) d h = by (t e) refl (find_one o t es (IsDistinct-tail (eq_by_cmp R) e.0 (keys_of es) d))
  where
    later : (x : K × X) → lookup (eq_by_cmp R x.0) es ≡ Some x.1 → (b : Bool) → eq_by_cmp R x.0 e.0 ≡ b → lookup (eq_by_cmp R x.0) (e ∷ es) ≡ Some x.1
    later x f true s = absurd (none_some (sym (lookup-none (eq_by_cmp R x.0) es (none_past_head (eq_by_cmp_equiv o) x.0 e es d s)) ∙ f))
      where
        none_some : None ≡ Some x.1 → ⊥
        none_some c = cc
    later x f false s = lookup_tail (eq_by_cmp R x.0) e es s ∙ f

    by : (b : Bool) → t e ≡ b → (list_any t es ≡ true → (x : K × X) × (t x ≡ true) × (lookup (eq_by_cmp R x.0) es ≡ Some x.1)) → (x : K × X) × (t x ≡ true) × (lookup (eq_by_cmp R x.0) (e ∷ es) ≡ Some x.1)
    by true s ih = (e, s, lookup_head (eq_by_cmp R e.0) e es ((eq_by_cmp_equiv o).refl e.0))
    by false s ih =
        let r = ih (sym (ap (λ b. b || list_any t es) s) ∙ h) in
        (r.0, r.1, later r.0 r.2 (eq_by_cmp R r.0.0 e.0) refl)

module _ {V K : Type 0} (text : K → List ℕ) (cmp : V → V → Ordering) (above : List Chunk) (key : List ℕ) (es : List (K × Node V)) (marks : List Bool) (v : V) where
  abbrev at : List ℕ → Bool
  at y = finds_in text cmp above key es y v

  abbrev passes : K × Node V → Bool
  passes e = is_of true (text e.0) && finds cmp (chunk_of (text e.0) ∷ above) key (pairs e.1) v

  at_passes : (y : List ℕ) → is_plain_text y ≡ true → (fs : List (K × Node V)) → finds_in text cmp above key fs y v ≡ true → list_any passes fs ≡ true
  at_passes y plain [] h = h
  at_passes y plain (e ∷ fs) h = by (is_eq (slice_cmp nat_cmp y (text e.0))) refl h (at_passes y plain fs)
    where
      by : (b : Bool) → is_eq (slice_cmp nat_cmp y (text e.0)) ≡ b
          → option_map_or (λ child. finds cmp (chunk_of y ∷ above) key (pairs child) v) (cond b (Some e.1) (lookup (is_at (λ k. slice_cmp nat_cmp y (text k))) fs)) false ≡ true
          → (finds_in text cmp above key fs y v ≡ true → list_any passes fs ≡ true) → (passes e || list_any passes fs) ≡ true
      by true s f ih =
          let same = same_key y (text e.0) s in
          ap (λ b. b || list_any passes fs) (both_true (is_plain_text (text e.0)) (finds cmp (chunk_of (text e.0) ∷ above) key (pairs e.1) v)
          (sym (ap is_plain_text same) ∙ plain) (sym (ap (λ c. finds cmp (chunk_of c ∷ above) key (pairs e.1) v) same) ∙ f))
      by false s f ih = ap (λ b. passes e || b) (ih f) ∙ or_true (passes e)

  sought_passes : (k : ℕ) (ys : List (List ℕ)) → seeks_plain marks k ys ≡ true → finds_sought text cmp above key es marks k ys v ≡ true → list_any passes es ≡ true
  sought_passes k [] s h = absurd (false≢true h)
  sought_passes k (y ∷ ys) s h = by (get_or marks k false) (at y) refl refl h (λ r. sought_passes (k + 1) ys parts.1 r)
    where
      parts : ((is_plain_text y || not (get_or marks k false) && not (is_any_chunks (chunk_of y))) ≡ true) × (seeks_plain marks (k + 1) ys ≡ true)
      parts = and_parts (is_plain_text y || not (get_or marks k false) && not (is_any_chunks (chunk_of y))) (seeks_plain marks (k + 1) ys) s

      by : (m a : Bool) → get_or marks k false ≡ m → at y ≡ a → (m && a || finds_sought text cmp above key es marks (k + 1) ys v) ≡ true → (finds_sought text cmp above key es marks (k + 1) ys v ≡ true → list_any passes es ≡ true) → list_any passes es ≡ true
      by true true e f r more = at_passes y (plain_here (is_plain_text y) (get_or marks k false) (is_any_chunks (chunk_of y)) e parts.0) es f
      by true false e f r more = more r
      by false a e f r more = more r

  passes_sought : (c : List ℕ) → at c ≡ true → (k : ℕ) (ys : List (List ℕ)) → seeks_chunk marks k ys c ≡ true → finds_sought text cmp above key es marks k ys v ≡ true
  passes_sought c here k [] h = absurd (false≢true h)
  passes_sought c here k (y ∷ ys) h = by (get_or marks k false) (pointwise nat_eq c y) refl refl h (λ r. passes_sought c here (k + 1) ys r)
    where
      by : (m same : Bool) → get_or marks k false ≡ m → pointwise nat_eq c y ≡ same → (m && same || seeks_chunk marks (k + 1) ys c) ≡ true → (seeks_chunk marks (k + 1) ys c ≡ true → finds_sought text cmp above key es marks (k + 1) ys v ≡ true) → (m && at y || finds_sought text cmp above key es marks (k + 1) ys v) ≡ true
      by true true e f r more = ap (λ b. b || finds_sought text cmp above key es marks (k + 1) ys v) (sym (ap at (same_bytes c y f)) ∙ here)
      by true false e f r more = ap (λ b. at y || b) (more r) ∙ or_true (at y)
      by false same e f r more = more r

  -- what is found below the plain chunks is found below those that are sought
  pub sought_is_plain : IsDistinct (eq_by_cmp (λ x y. slice_cmp nat_cmp (text x) (text y))) (keys_of es) → IsTotalOrder (λ (x y : K). slice_cmp nat_cmp (text x) (text y))
      → IsRow (table (chunk_signs true) above) (expression_of key) marks → seeks_plain marks 0 (chunks key) ≡ true
      → finds_sought text cmp above key es marks 0 (chunks key) v ≡ finds_below text true cmp above key es v
  sought_is_plain d o row s = same_test (finds_sought text cmp above key es marks 0 (chunks key) v) (list_any passes es) (sought_passes 0 (chunks key) s) back
    where
      back : list_any passes es ≡ true → finds_sought text cmp above key es marks 0 (chunks key) v ≡ true
      back h = by (seeks_chunk marks 0 (chunks key) (text e.0)) refl
        where
          one : (e : K × Node V) × (passes e ≡ true) × (lookup (eq_by_cmp (λ (x y : K). slice_cmp nat_cmp (text x) (text y)) e.0) es ≡ Some e.1)
          one = find_one o passes es d h

          e : K × Node V
          e = one.0

          parts : (is_plain_text (text e.0) ≡ true) × (finds cmp (chunk_of (text e.0) ∷ above) key (pairs e.1) v ≡ true)
          parts = and_parts (is_plain_text (text e.0)) (finds cmp (chunk_of (text e.0) ∷ above) key (pairs e.1) v) one.1

          here : at (text e.0) ≡ true
          here = ap (λ r. option_map_or (λ child. finds cmp (chunk_of (text e.0) ∷ above) key (pairs child) v) r false) one.2 ∙ parts.1

          by : (b : Bool) → seeks_chunk marks 0 (chunks key) (text e.0) ≡ b → finds_sought text cmp above key es marks 0 (chunks key) v ≡ true
          by true t = passes_sought (text e.0) here 0 (chunks key) t
          by false t =
              let f : List Chunk → Bool = table (chunk_signs true) above in
              let apart = apart_along f marks (text e.0) parts.0 0 [] (chunks key) (along f marks key row) s t tt in
              let blank = apart_blank (chunk_signs true) f (chunk_of (text e.0)) (plain_no_gap (text e.0) parts.0) (onto [] (chunks key)) apart in
              absurd (false≢true (sym (blank_found cmp (chunk_of (text e.0) ∷ above) key blank (pairs e.1) v) ∙ parts.1))

-- keys in the order of their texts
pub total_by : {K : Type 0} (text : K → List ℕ) → IsTotalOrder (λ (x y : K). slice_cmp nat_cmp (text x) (text y))
total_by text = record {
  antisymm = λ x y. nat_list_cmp_total.antisymm (text x) (text y);
  trans = λ x y z. nat_list_cmp_total.trans (text x) (text y) (text z);
  congr = λ x y z. nat_list_cmp_total.congr (text x) (text y) (text z);
}
