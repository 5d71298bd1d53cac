-- A canonical expression is its own canonical form.
use Rattle.std.proofs.Common.{◌≡◌, ◌∷◌, [], List, true, false, not, refl, ap, ◌∙◌, map}
use Rattle.std.specs.List.{list_all}
use Rattle.std.proofs.lemmas.Bool.{and_parts, not-true}
use Rattle.zr_key.specs.Expression.{Piece, Char, AnyChars, Chunk, Any, AnyChunks, Pieces, is_chunk, begins_any, is_single, is_canonical_chunk, begins_wild, is_ordered, is_canonical}
use Rattle.zr_key.specs.Key.{single, alone, settled, ordered, canonical}

single_kept : (p : List Piece) → is_single p ≡ true → (single false p ≡ p) × (begins_any p ≡ false → single true p ≡ p)
single_kept [] h = (refl, λ e. refl)
single_kept (Char c ∷ p) h =
    let rest = (single_kept p h).0 in
    (ap (λ q. Char c ∷ q) rest, λ e. ap (λ q. Char c ∷ q) rest)
single_kept (AnyChars ∷ p) h =
    let parts = and_parts (not (begins_any p)) (is_single p) h in
    (ap (λ q. AnyChars ∷ q) ((single_kept p parts.1).1 (not-true (begins_any p) parts.0)), λ e. cc)

settled_kept : (x : Chunk) → is_chunk x ≡ true → is_canonical_chunk x ≡ true → settled x ≡ x
settled_kept Any h g = refl
settled_kept AnyChunks h g = refl
settled_kept (Pieces []) h g = cc
settled_kept (Pieces (Char c ∷ p)) h g = ap alone (single_kept (Char c ∷ p) g).0
settled_kept (Pieces (AnyChars ∷ [])) h g = cc
settled_kept (Pieces (AnyChars ∷ x ∷ p)) h g = ap alone (single_kept (AnyChars ∷ x ∷ p) g).0

all_kept : (e : List Chunk) → list_all is_chunk e ≡ true → list_all is_canonical_chunk e ≡ true → map settled e ≡ e
all_kept [] h g = refl
all_kept (x ∷ e) h g =
    let chunks = and_parts (is_chunk x) (list_all is_chunk e) h in
    let canon = and_parts (is_canonical_chunk x) (list_all is_canonical_chunk e) g in
    let first : settled x ≡ x = settled_kept x chunks.0 canon.0 in
    let rest : map settled e ≡ e = all_kept e chunks.1 canon.1 in
    cc

ordered_kept : (e : List Chunk) → is_ordered e ≡ true → (ordered false e ≡ e) × (begins_wild e ≡ false → ordered true e ≡ AnyChunks ∷ e)
ordered_kept [] h = (refl, λ e. refl)
ordered_kept (Any ∷ e) h = (ap (λ x. Any ∷ x) (ordered_kept e h).0, λ g. cc)
ordered_kept (AnyChunks ∷ e) h =
    let parts = and_parts (not (begins_wild e)) (is_ordered e) h in
    ((ordered_kept e parts.1).1 (not-true (begins_wild e) parts.0), λ g. cc)
ordered_kept (Pieces p ∷ e) h =
    let rest = (ordered_kept e h).0 in
    (ap (λ x. Pieces p ∷ x) rest, λ g. ap (λ x. AnyChunks ∷ Pieces p ∷ x) rest)

pub canonical_kept : (e : List Chunk) → list_all is_chunk e ≡ true → is_canonical e ≡ true → canonical e ≡ e
canonical_kept e h g =
    let parts = and_parts (list_all is_canonical_chunk e) (is_ordered e) g in
    ap (λ x. ordered false x) (all_kept e h parts.0) ∙ (ordered_kept e parts.1).0
