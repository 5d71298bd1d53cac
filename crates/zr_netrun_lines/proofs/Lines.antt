-- Lines of bytes that come in pieces. An open line is one without a line end.
-- The parts of an open line and what follows it are the parts of what follows, the first one behind the open line;
-- so what ends in a piece, and what is open behind it, depends on the open line before it alone.
use Rattle.std.proofs.Common.{◌≡◌, ℕ, zero, suc, ◌==◌, Bool, true, false, cond, List, [], ◌∷◌, ◌++◌, take, refl, sym, ap, ◌∙◌}
use Rattle.std.specs.List.{onto_first}
use Rattle.std.proofs.lemmas.List.Splits.{slice_split-cons_no}
use Rattle.zr_script_spec.specs.Lines.{parts, all_but_last, last_part, ended_lines, open_line}

-- a line without a line end
abbrev pub IsOpen : List ℕ → Type 0
IsOpen line = parts line ≡ line ∷ []

-- the parts, the first one behind a front
abbrev pub behind : List ℕ → List (List ℕ) → List (List ℕ)
behind front [] = front ∷ []
behind front (part ∷ more) = (front ++ part) ∷ more

-- nothing has no parts
some_part : (bytes : List ℕ) → (part : List ℕ) × (more : List (List ℕ)) × (parts bytes ≡ part ∷ more)
some_part [] = ([], [], refl)
some_part (b ∷ bs) = by (b == 10) (some_part bs)
  where
    by : (t : Bool) → (part : List ℕ) × (more : List (List ℕ)) × (parts bs ≡ part ∷ more) →
        (part : List ℕ) × (more : List (List ℕ)) × (cond t ([] ∷ parts bs) (onto_first b (parts bs)) ≡ part ∷ more)
    by true h = ([], parts bs, refl)
    by false h = (b ∷ h.0, h.1, ap (onto_first b) h.2)

-- a byte is put onto the first part
onto_behind : (b : ℕ) (front : List ℕ) (ps : List (List ℕ)) → onto_first b (behind front ps) ≡ behind (b ∷ front) ps
onto_behind b front [] = refl
onto_behind b front (p ∷ ps) = refl

-- an open line's first byte is no line end, and the rest is open
open_tail : (b : ℕ) (bs : List ℕ) → IsOpen (b ∷ bs) → ((b == 10) ≡ false) × IsOpen bs
open_tail b bs h = by (b == 10) refl (some_part bs) h
  where
    by : (t : Bool) → (b == 10) ≡ t → (part : List ℕ) × (more : List (List ℕ)) × (parts bs ≡ part ∷ more) →
        cond t ([] ∷ parts bs) (onto_first b (parts bs)) ≡ (b ∷ bs) ∷ [] → (t ≡ false) × IsOpen bs
    by true e s k = absurd (cc)
    by false e s k =
        let both : (b ∷ s.0) ∷ s.1 ≡ (b ∷ bs) ∷ [] = sym (ap (onto_first b) s.2) ∙ k in
        let first : s.0 ≡ bs = cc in
        let rest : s.1 ≡ [] = cc in
        (refl, s.2 ∙ ap (λ p. p ∷ s.1) first ∙ ap (λ r. bs ∷ r) rest)

-- the parts of an open line and what follows it
pub parts_behind : (line bytes : List ℕ) → IsOpen line → parts (line ++ bytes) ≡ behind line (parts bytes)
parts_behind [] bytes h = by (some_part bytes)
  where
    by : (part : List ℕ) × (more : List (List ℕ)) × (parts bytes ≡ part ∷ more) → parts bytes ≡ behind [] (parts bytes)
    by s = s.2 ∙ sym (ap (behind []) s.2)
parts_behind (b ∷ bs) bytes h =
    let t = open_tail b bs h in
    slice_split-cons_no (λ x. x == 10) b (bs ++ bytes) t.0 ∙ ap (onto_first b) (parts_behind bs bytes t.1) ∙ onto_behind b bs (parts bytes)

-- two open lines make one
pub open_append : (line more : List ℕ) → IsOpen line → IsOpen more → IsOpen (line ++ more)
open_append line more h k = parts_behind line more h ∙ ap (behind line) k

-- a prefix of an open line is open
pub open_take : (n : ℕ) (line : List ℕ) → IsOpen line → IsOpen (take n line)
open_take zero line h = refl
open_take (suc n) [] h = refl
open_take (suc n) (b ∷ bs) h =
    let t = open_tail b bs h in
    slice_split-cons_no (λ x. x == 10) b (take n bs) t.0 ∙ ap (onto_first b) (open_take n bs t.1)

-- ---- all parts but the last, and the last

abl_append : (xs : List (List ℕ)) (p : List ℕ) (ps : List (List ℕ)) → all_but_last (xs ++ p ∷ ps) ≡ xs ++ all_but_last (p ∷ ps)
abl_append [] p ps = refl
abl_append (x ∷ []) p ps = refl
abl_append (x ∷ y ∷ ys) p ps = ap (λ z. x ∷ z) (abl_append (y ∷ ys) p ps)

last_append : (xs : List (List ℕ)) (p : List ℕ) (ps : List (List ℕ)) → last_part (xs ++ p ∷ ps) ≡ last_part (p ∷ ps)
last_append [] p ps = refl
last_append (x ∷ []) p ps = refl
last_append (x ∷ y ∷ ys) p ps = last_append (y ∷ ys) p ps

-- what is behind the last line end is open
pub open_last : (bytes : List ℕ) → IsOpen (open_line bytes)
open_last [] = refl
open_last (b ∷ bs) = by (b == 10) refl (parts bs) (some_part bs) (open_last bs)
  where
    by : (t : Bool) → (b == 10) ≡ t → (ps : List (List ℕ)) → (part : List ℕ) × (more : List (List ℕ)) × (ps ≡ part ∷ more) → IsOpen (last_part ps) →
        IsOpen (last_part (cond t ([] ∷ ps) (onto_first b ps)))
    by t e [] s h = absurd (cc)
    by true e (p ∷ ps) s h = h
    by false e (p ∷ []) s h = slice_split-cons_no (λ x. x == 10) b p e ∙ ap (onto_first b) h
    by false e (p ∷ q ∷ qs) s h = h

-- the parts of bytes that come in two pieces
parts_append : (xs ys : List ℕ) → parts (xs ++ ys) ≡ ended_lines xs ++ behind (open_line xs) (parts ys)
parts_append [] ys = parts_behind [] ys refl
parts_append (b ∷ bs) ys = by (b == 10) (parts bs) (some_part bs) (parts_append bs ys)
  where
    by : (t : Bool) (ps : List (List ℕ)) → (part : List ℕ) × (more : List (List ℕ)) × (ps ≡ part ∷ more) →
        parts (bs ++ ys) ≡ all_but_last ps ++ behind (last_part ps) (parts ys) →
        cond t ([] ∷ parts (bs ++ ys)) (onto_first b (parts (bs ++ ys)))
        ≡ all_but_last (cond t ([] ∷ ps) (onto_first b ps)) ++ behind (last_part (cond t ([] ∷ ps) (onto_first b ps))) (parts ys)
    by t [] s h = absurd (cc)
    by true (p ∷ ps) s h = ap (λ z. [] ∷ z) h
    by false (p ∷ []) s h = ap (onto_first b) h ∙ onto_behind b p (parts ys)
    by false (p ∷ q ∷ qs) s h = ap (onto_first b) h

-- the lines that end in two pieces: those of the first, and those of the second behind what is open
pub ended_append : (xs ys : List ℕ) → ended_lines (xs ++ ys) ≡ ended_lines xs ++ ended_lines (open_line xs ++ ys)
ended_append xs ys =
    ap all_but_last (parts_append xs ys) ∙ by (parts ys) (some_part ys)
    ∙ ap (λ z. ended_lines xs ++ all_but_last z) (sym (parts_behind (open_line xs) ys (open_last xs)))
  where
    by : (ps : List (List ℕ)) → (part : List ℕ) × (more : List (List ℕ)) × (ps ≡ part ∷ more) →
        all_but_last (ended_lines xs ++ behind (open_line xs) ps) ≡ ended_lines xs ++ all_but_last (behind (open_line xs) ps)
    by [] s = abl_append (ended_lines xs) (open_line xs) []
    by (p ∷ ps) s = abl_append (ended_lines xs) (open_line xs ++ p) ps

-- what is open behind both pieces
pub open_after : (xs ys : List ℕ) → open_line (xs ++ ys) ≡ open_line (open_line xs ++ ys)
open_after xs ys =
    ap last_part (parts_append xs ys) ∙ by (parts ys) ∙ ap last_part (sym (parts_behind (open_line xs) ys (open_last xs)))
  where
    by : (ps : List (List ℕ)) → last_part (ended_lines xs ++ behind (open_line xs) ps) ≡ last_part (behind (open_line xs) ps)
    by [] = last_append (ended_lines xs) (open_line xs) []
    by (p ∷ ps) = last_append (ended_lines xs) (open_line xs ++ p) ps

-- ---- one line end

-- a line that is open, and a piece whose first line end is at a place
pub ended_at : (line bytes part more : List ℕ) → IsOpen line → parts bytes ≡ part ∷ parts more →
    ended_lines (line ++ bytes) ≡ (line ++ part) ∷ ended_lines more
ended_at line bytes part more h cut = ap all_but_last (parts_behind line bytes h ∙ ap (behind line) cut) ∙ by (parts more) (some_part more)
  where
    by : (ps : List (List ℕ)) → (p : List ℕ) × (qs : List (List ℕ)) × (ps ≡ p ∷ qs) → all_but_last ((line ++ part) ∷ ps) ≡ (line ++ part) ∷ all_but_last ps
    by [] s = absurd (cc)
    by (p ∷ ps) s = refl

pub open_at : (line bytes part more : List ℕ) → IsOpen line → parts bytes ≡ part ∷ parts more → open_line (line ++ bytes) ≡ open_line more
open_at line bytes part more h cut = ap last_part (parts_behind line bytes h ∙ ap (behind line) cut) ∙ by (parts more) (some_part more)
  where
    by : (ps : List (List ℕ)) → (p : List ℕ) × (qs : List (List ℕ)) × (ps ≡ p ∷ qs) → last_part ((line ++ part) ∷ ps) ≡ last_part ps
    by [] s = absurd (cc)
    by (p ∷ ps) s = refl

-- a piece without a line end
pub ended_none : (line : List ℕ) → IsOpen line → ended_lines line ≡ []
ended_none line h = ap all_but_last h

pub open_none : (line : List ℕ) → IsOpen line → open_line line ≡ line
open_none line h = ap last_part h
