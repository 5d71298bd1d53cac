-- The chunks of a text, cut by cut.
use Rattle.std.proofs.Common.{◌≡◌, ℕ, ◌==◌, ◌+◌, ◌<◌, ◌≤◌, ◌∷◌, [], List, Bool, true, false, cond, Option, Some, None, Bor, refl, ap, ◌∙◌, arith, length, map}
use Rattle.std.specs.List.{slice_split, onto_first}
use Rattle.std.specs.Option.{option_copied, option_map_or, IfSome}
use Rattle.zr_lists.specs.Cut.{parts}
use Rattle.zr_key.specs.Expression.{Chunk}
use Rattle.zr_key.specs.Key.{chunk_of}

-- the chunks of what is left of a text
abbrev pub chunks_left : Option (Bor (List ℕ)) → List Chunk
chunks_left rest = map chunk_of (parts 47 (option_copied rest))

pub chunks_cut : (rest : Option (Bor (List ℕ))) (bytes : Bor (List ℕ)) (x : List ℕ) (more : Option (Bor (List ℕ))) → rest ≡ Some bytes
    → slice_split (λ b. b == 47) bytes.now ≡ x ∷ parts 47 (option_copied more) → chunks_left rest ≡ chunk_of x ∷ chunks_left more
chunks_cut rest bytes x more e cut = ap (λ r. chunks_left r) e ∙ ap (λ z. map chunk_of z) cut

pub chunks_end : (rest : Option (Bor (List ℕ))) → rest ≡ None → chunks_left rest ≡ []
chunks_end rest e = ap (λ r. chunks_left r) e

-- how many bytes are left, and one for the cut in front of them
abbrev pub room : Option (Bor (List ℕ)) → ℕ
room rest = option_map_or (λ bytes. length bytes.now + 1) rest 0

pub room_at : (rest : Option (Bor (List ℕ))) (bytes : Bor (List ℕ)) → rest ≡ Some bytes → room rest ≡ length bytes.now + 1
room_at rest bytes e = ap (λ r. room r) e

pub room_more : (more : Option (Bor (List ℕ))) (n : ℕ) → IfSome more (λ m. length m.now < n) → room more ≤ n
room_more None n h = omega arith
room_more (Some m) n h = omega (arith, h)

-- a part of a list is no longer than the list
pub part_fits : (xs : List ℕ) (part : List ℕ) (others : List (List ℕ)) → slice_split (λ b. b == 47) xs ≡ part ∷ others → length part ≤ length xs
part_fits [] part others e =
    let h : [] ≡ part = cc in
    let g = ap length h in
    omega arith
part_fits (b ∷ xs) part others e = by (b == 47) (slice_split (λ b. b == 47) xs) refl (λ first rest s. part_fits xs first rest s) e
  where
    by : (t : Bool) (split : List (List ℕ)) → slice_split (λ b. b == 47) xs ≡ split → ((first : List ℕ) (rest : List (List ℕ)) → slice_split (λ b. b == 47) xs ≡ first ∷ rest → length first ≤ length xs) → cond t ([] ∷ split) (onto_first b split) ≡ part ∷ others → length part ≤ length (b ∷ xs)
    by true split s ih h =
        let k : [] ≡ part = cc in
        let g = ap length k in
        omega arith
    by false [] s ih h =
        let k : b ∷ [] ≡ part = cc in
        let g = ap length k in
        omega arith
    by false (first ∷ rest) s ih h =
        let k : b ∷ first ≡ part = cc in
        let g = ap length k in
        let f = ih first rest s in
        omega arith
