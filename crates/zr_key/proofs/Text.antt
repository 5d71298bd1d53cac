-- What a replacement does to the text of an expression: it stays UTF-8 and grows no longer.
use Rattle.std.proofs.Common.{◌≡◌, ℕ, ◌+◌, ◌≤◌, ◌<◌, ◌∷◌, ◌++◌, [], List, true, refl, sym, ap, subst, ◌∙◌, append_assoc, append-nil, length, length-append, take, drop, get_or, arith}
use lib.Utf8.{encode}
use Rattle.std.specs.List.{flat_map}
use Rattle.std.specs.Str.{IsUtf8}
use Rattle.std.proofs.lemmas.Str.{IsUtf8-append, IsUtf8-nil, IsUtf8-take, IsUtf8-drop, IsCharBoundary-before_ascii, IsCharBoundary-after_ascii}
use Rattle.std.proofs.lemmas.List.{take_at, drop_at, get_or_at}
use Rattle.std.proofs.lemmas.List.Concat.{flat_map-append}
use Rattle.zr_key.specs.Expression.{Piece, AnyChars, Chunk, Pieces, piece_text, chunk_text, spelled, is_expression, Replaces, any_chars_twice, any_chars_alone, any_chunks_twice, any_chunks_before_any, LeadsTo, is_there, replace}
use Rattle.zr_key.proofs.Spelling.{text_of}

-- a text may be cut on both sides of an ASCII byte
pub cut_at : (xs : List ℕ) (y : ℕ) (ys : List ℕ) → IsUtf8 (xs ++ y ∷ ys) → y < 128 → IsUtf8 xs × IsUtf8 ys
cut_at xs y ys u ascii =
    let bs : List ℕ = xs ++ y ∷ ys in
    let at : get_or (xs ++ y ∷ ys) (length xs) 0 ≡ y = get_or_at xs y ys 0 (length xs) refl in
    let below : get_or (xs ++ y ∷ ys) (length xs) 0 < 128 = rw at ascii in
    let within : length xs < length (xs ++ y ∷ ys) = omega (arith, length-append xs (y ∷ ys)) in
    let front : IsUtf8 (take (length xs) (xs ++ y ∷ ys)) = IsUtf8-take (xs ++ y ∷ ys) (length xs) u (IsCharBoundary-before_ascii (xs ++ y ∷ ys) (length xs) within below) in
    let back : IsUtf8 (drop (length xs + 1) (xs ++ y ∷ ys)) = IsUtf8-drop (xs ++ y ∷ ys) (length xs + 1) u (IsCharBoundary-after_ascii (xs ++ y ∷ ys) (length xs) u within below) in
    let push : length (xs ++ y ∷ []) ≡ length xs + 1 = omega (arith, length-append xs (y ∷ [])) in
    let rest : drop (length xs + 1) (xs ++ y ∷ ys) ≡ ys = ap (λ z. drop (length xs + 1) z) (sym (append_assoc xs (y ∷ []) ys)) ∙ drop_at (xs ++ y ∷ []) ys (length xs + 1) push in
    (subst IsUtf8 (take_at xs (y ∷ ys) (length xs) refl) front, subst IsUtf8 rest back)

-- the ASCII bytes of an expression's own signs
slash_utf8 : IsUtf8 (47 ∷ [])
unfolding encode
slash_utf8 = (47 ∷ [], (refl, refl))

dollar_utf8 : IsUtf8 (36 ∷ [])
unfolding encode
dollar_utf8 = (36 ∷ [], (refl, refl))

-- the text of an expression, with a `/` in front of each chunk
abbrev pub slashed : List Chunk → List ℕ
slashed e = flat_map (λ x. 47 ∷ chunk_text x) e

pub slashed_is : (x : Chunk) (e : List Chunk) → slashed (x ∷ e) ≡ 47 ∷ spelled (x ∷ e)
slashed_is x [] = ap (λ t. 47 ∷ t) (append-nil (chunk_text x))
slashed_is x (y ∷ e) = ap (λ t. 47 ∷ (chunk_text x ++ t)) (slashed_is y e)

-- it may be cut in front of a chunk
slashed_apart : (xs : List ℕ) (e : List Chunk) → IsUtf8 (xs ++ slashed e) → IsUtf8 xs × IsUtf8 (slashed e)
slashed_apart xs [] u = (subst IsUtf8 (append-nil xs) u, IsUtf8-nil)
slashed_apart xs (x ∷ e) u =
    let parts = cut_at xs 47 (chunk_text x ++ slashed e) u (omega arith) in
    (parts.0, IsUtf8-append (47 ∷ []) (chunk_text x ++ slashed e) slash_utf8 parts.1)

slashed-append : (e f : List Chunk) → slashed (e ++ f) ≡ slashed e ++ slashed f
slashed-append e f = flat_map-append (λ x. 47 ∷ chunk_text x) e f

slashed_three : (before mid after : List Chunk) → slashed (before ++ mid ++ after) ≡ slashed before ++ slashed mid ++ slashed after
slashed_three before mid after = slashed-append (before ++ mid) after ∙ ap (λ t. t ++ slashed after) (slashed-append before mid)

-- the text of pieces with two `$*` in a row, and with one
text_twice : (p q : List Piece) → text_of (p ++ AnyChars ∷ AnyChars ∷ q) ≡ text_of p ++ 36 ∷ 42 ∷ 36 ∷ 42 ∷ text_of q
text_twice p q = flat_map-append piece_text p (AnyChars ∷ AnyChars ∷ q)

text_once : (p q : List Piece) → text_of (p ++ AnyChars ∷ q) ≡ text_of p ++ 36 ∷ 42 ∷ text_of q
text_once p q = flat_map-append piece_text p (AnyChars ∷ q)

-- each replacement keeps UTF-8
Replaces-utf8 : {old new : List Chunk} → Replaces old new → IsUtf8 (slashed old) → IsUtf8 (slashed new)
unfolding encode
Replaces-utf8 (any_chars_twice p q) u =
    let bare : IsUtf8 (47 ∷ text_of (p ++ AnyChars ∷ AnyChars ∷ q)) = subst IsUtf8 (append-nil (47 ∷ text_of (p ++ AnyChars ∷ AnyChars ∷ q))) u in
    let seen : IsUtf8 (47 ∷ (text_of p ++ 36 ∷ 42 ∷ 36 ∷ 42 ∷ text_of q)) = subst (λ t. IsUtf8 (47 ∷ t)) (text_twice p q) bare in
    let first = cut_at (47 ∷ text_of p) 36 (42 ∷ 36 ∷ 42 ∷ text_of q) seen (omega arith) in
    let second = cut_at (42 ∷ []) 36 (42 ∷ text_of q) first.1 (omega arith) in
    let joined : IsUtf8 (47 ∷ (text_of p ++ 36 ∷ 42 ∷ text_of q)) = IsUtf8-append (47 ∷ text_of p) (36 ∷ 42 ∷ text_of q) first.0 (IsUtf8-append (36 ∷ []) (42 ∷ text_of q) dollar_utf8 second.1) in
    subst IsUtf8 (sym (append-nil (47 ∷ text_of (p ++ AnyChars ∷ q)))) (subst (λ t. IsUtf8 (47 ∷ t)) (sym (text_once p q)) joined)
Replaces-utf8 any_chars_alone u = (47 ∷ 42 ∷ [], (refl, refl))
Replaces-utf8 any_chunks_twice u = (47 ∷ 42 ∷ 42 ∷ [], (refl, refl))
Replaces-utf8 any_chunks_before_any u = (47 ∷ 42 ∷ 47 ∷ 42 ∷ 42 ∷ [], (refl, refl))

LeadsTo-slashed_utf8 : {e f : List Chunk} → LeadsTo e f → IsUtf8 (slashed e) → IsUtf8 (slashed f)
LeadsTo-slashed_utf8 (is_there e) u = u
LeadsTo-slashed_utf8 (replace before after old new f step more) u =
    let cut : IsUtf8 (slashed before ++ slashed old ++ slashed after) = subst IsUtf8 (slashed_three before old after) u in
    let outer = slashed_apart (slashed before ++ slashed old) after cut in
    let inner = slashed_apart (slashed before) old outer.0 in
    LeadsTo-slashed_utf8 more (subst IsUtf8 (sym (slashed_three before new after))
    (IsUtf8-append (slashed before ++ slashed new) (slashed after) (IsUtf8-append (slashed before) (slashed new) inner.0 (Replaces-utf8 step inner.1)) outer.1))

-- and none makes the text longer
Replaces-length : {old new : List Chunk} → Replaces old new → length (slashed new) ≤ length (slashed old)
Replaces-length (any_chars_twice p q) =
    let a : length (slashed (Pieces (p ++ AnyChars ∷ AnyChars ∷ q) ∷ [])) ≡ length (47 ∷ (text_of p ++ 36 ∷ 42 ∷ 36 ∷ 42 ∷ text_of q)) =
    ap length (append-nil (47 ∷ text_of (p ++ AnyChars ∷ AnyChars ∷ q)) ∙ ap (λ t. 47 ∷ t) (text_twice p q)) in
    let b : length (slashed (Pieces (p ++ AnyChars ∷ q) ∷ [])) ≡ length (47 ∷ (text_of p ++ 36 ∷ 42 ∷ text_of q)) =
    ap length (append-nil (47 ∷ text_of (p ++ AnyChars ∷ q)) ∙ ap (λ t. 47 ∷ t) (text_once p q)) in
    let c = length-append (text_of p) (36 ∷ 42 ∷ 36 ∷ 42 ∷ text_of q) in
    let d = length-append (text_of p) (36 ∷ 42 ∷ text_of q) in
    omega arith
Replaces-length any_chars_alone = omega arith
Replaces-length any_chunks_twice = omega arith
Replaces-length any_chunks_before_any = omega arith

LeadsTo-slashed_length : {e f : List Chunk} → LeadsTo e f → length (slashed f) ≤ length (slashed e)
LeadsTo-slashed_length (is_there e) = omega arith
LeadsTo-slashed_length (replace before after old new f step more) =
    let a = ap length (slashed_three before old after) in
    let b = ap length (slashed_three before new after) in
    let c = length-append (slashed before ++ slashed old) (slashed after) in
    let d = length-append (slashed before ++ slashed new) (slashed after) in
    let e = length-append (slashed before) (slashed old) in
    let g = length-append (slashed before) (slashed new) in
    let h = Replaces-length step in
    let i = LeadsTo-slashed_length more in
    omega arith

-- the same of the text itself
pub LeadsTo-utf8 : (e f : List Chunk) → LeadsTo e f → is_expression e ≡ true → IsUtf8 (spelled e) → IsUtf8 (spelled f)
LeadsTo-utf8 [] f leads h u = cc
LeadsTo-utf8 (x ∷ e) [] leads h u = IsUtf8-nil
LeadsTo-utf8 (x ∷ e) (y ∷ f) leads h u =
    let before : IsUtf8 (slashed (x ∷ e)) = subst IsUtf8 (sym (slashed_is x e)) (IsUtf8-append (47 ∷ []) (spelled (x ∷ e)) slash_utf8 u) in
    let after : IsUtf8 (47 ∷ spelled (y ∷ f)) = subst IsUtf8 (slashed_is y f) (LeadsTo-slashed_utf8 leads before) in
    (cut_at [] 47 (spelled (y ∷ f)) after (omega arith)).1

pub LeadsTo-length : (e f : List Chunk) → LeadsTo e f → is_expression e ≡ true → length (spelled f) ≤ length (spelled e)
LeadsTo-length [] f leads h = cc
LeadsTo-length (x ∷ e) [] leads h = omega arith
LeadsTo-length (x ∷ e) (y ∷ f) leads h =
    let a = ap length (slashed_is x e) in
    let b = ap length (slashed_is y f) in
    let c = LeadsTo-slashed_length leads in
    omega arith
