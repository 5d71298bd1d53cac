-- The canonical form of an expression: replacements lead to it, and it is canonical.
use Rattle.std.proofs.Common.{◌≡◌, ◌&&◌, ◌∷◌, ◌++◌, [], List, Bool, true, false, refl, sym, subst, ◌∙◌, map, append_assoc}
use Rattle.std.specs.List.{list_all}
use Rattle.std.proofs.lemmas.Bool.{and_parts, and_from}
use Rattle.std.proofs.lemmas.List.Folds.{list_all-append}
use Rattle.zr_key.specs.Expression.{Piece, Char, AnyChars, Chunk, Any, AnyChunks, Pieces, is_piece, is_wild, is_chunk, is_expression, Replaces, any_chars_twice, any_chars_alone, any_chunks_twice, any_chunks_before_any, LeadsTo, is_there, replace, begins_any, is_single, is_canonical_chunk, is_ordered, is_canonical}
use Rattle.zr_key.specs.Key.{single, alone, settled, ordered, canonical}

-- replacements after replacements
pub LeadsTo-trans : {e f g : List Chunk} → LeadsTo e f → LeadsTo f g → LeadsTo e g
LeadsTo-trans (is_there e) h = h
LeadsTo-trans (replace before after old new f step more) h = replace before after old new _ step (LeadsTo-trans more h)

-- replacements behind a chunk
pub LeadsTo-cons : (x : Chunk) {e f : List Chunk} → LeadsTo e f → LeadsTo (x ∷ e) (x ∷ f)
LeadsTo-cons x (is_there e) = is_there (x ∷ e)
LeadsTo-cons x (replace before after old new f step more) = replace (x ∷ before) after old new (x ∷ f) step (LeadsTo-cons x more)

-- replacements in front of chunks
pub LeadsTo-front : (y : List Chunk) {e f : List Chunk} → LeadsTo e f → LeadsTo (e ++ y) (f ++ y)
LeadsTo-front y (is_there e) = is_there (e ++ y)
LeadsTo-front y (replace before after old new f step more) =
    let rest : LeadsTo (before ++ new ++ (after ++ y)) (f ++ y) = subst (λ x. LeadsTo x (f ++ y)) (append_assoc (before ++ new) after y) (LeadsTo-front y more) in
    subst (λ x. LeadsTo x (f ++ y)) (sym (append_assoc (before ++ old) after y)) (replace before (after ++ y) old new (f ++ y) step rest)

-- one replacement at the front
at_front : (old new after f : List Chunk) → Replaces old new → LeadsTo (new ++ after) f → LeadsTo (old ++ after) f
at_front old new after f step more = replace [] after old new f step more

-- pieces with a `$*` in front, or as they are
abbrev behind_any : Bool → List Piece → List Piece
behind_any true p = AnyChars ∷ p
behind_any false p = p

single_leads : (after : Bool) (front p : List Piece) → LeadsTo (Pieces (front ++ behind_any after p) ∷ []) (Pieces (front ++ behind_any after (single after p)) ∷ [])
single_leads true front [] = is_there _
single_leads false front [] = is_there _
single_leads true front (Char c ∷ p) =
    let q : (r : List Piece) → (front ++ AnyChars ∷ Char c ∷ []) ++ r ≡ front ++ AnyChars ∷ Char c ∷ r = λ r. append_assoc front (AnyChars ∷ Char c ∷ []) r in
    subst (λ x. LeadsTo (Pieces x ∷ []) (Pieces (front ++ AnyChars ∷ Char c ∷ single false p) ∷ [])) (q p)
    (subst (λ x. LeadsTo (Pieces ((front ++ AnyChars ∷ Char c ∷ []) ++ p) ∷ []) (Pieces x ∷ [])) (q (single false p)) (single_leads false (front ++ AnyChars ∷ Char c ∷ []) p))
single_leads false front (Char c ∷ p) =
    let q : (r : List Piece) → (front ++ Char c ∷ []) ++ r ≡ front ++ Char c ∷ r = λ r. append_assoc front (Char c ∷ []) r in
    subst (λ x. LeadsTo (Pieces x ∷ []) (Pieces (front ++ Char c ∷ single false p) ∷ [])) (q p)
    (subst (λ x. LeadsTo (Pieces ((front ++ Char c ∷ []) ++ p) ∷ []) (Pieces x ∷ [])) (q (single false p)) (single_leads false (front ++ Char c ∷ []) p))
single_leads true front (AnyChars ∷ p) = at_front _ _ [] _ (any_chars_twice front p) (single_leads true front p)
single_leads false front (AnyChars ∷ p) = single_leads true front p

alone_leads : (p : List Piece) → (p ≡ [] → ⊥) → LeadsTo (Pieces p ∷ []) (alone p ∷ [])
alone_leads [] some = absurd (some refl)
alone_leads (Char c ∷ p) some = is_there _
alone_leads (AnyChars ∷ []) some = at_front _ _ [] _ any_chars_alone (is_there _)
alone_leads (AnyChars ∷ x ∷ p) some = is_there _

settled_leads : (x : Chunk) → is_chunk x ≡ true → LeadsTo (x ∷ []) (settled x ∷ [])
settled_leads Any h = is_there _
settled_leads AnyChunks h = is_there _
settled_leads (Pieces []) h = cc
settled_leads (Pieces (Char c ∷ p)) h = LeadsTo-trans (single_leads false [] (Char c ∷ p)) (alone_leads (single false (Char c ∷ p)) (λ e. cc))
settled_leads (Pieces (AnyChars ∷ p)) h = LeadsTo-trans (single_leads false [] (AnyChars ∷ p)) (alone_leads (single false (AnyChars ∷ p)) (λ e. cc))

map_settled_leads : (e : List Chunk) → list_all is_chunk e ≡ true → LeadsTo e (map settled e)
map_settled_leads [] h = is_there []
map_settled_leads (x ∷ e) h =
    let parts = and_parts (is_chunk x) (list_all is_chunk e) h in
    LeadsTo-trans (LeadsTo-front e (settled_leads x parts.0)) (LeadsTo-cons (settled x) (map_settled_leads e parts.1))

-- an expression with a `**` in front, or as it is
abbrev behind_any_chunks : Bool → List Chunk → List Chunk
behind_any_chunks true e = AnyChunks ∷ e
behind_any_chunks false e = e

ordered_leads : (waiting : Bool) (e : List Chunk) → LeadsTo (behind_any_chunks waiting e) (ordered waiting e)
ordered_leads true [] = is_there _
ordered_leads false [] = is_there _
ordered_leads true (Any ∷ e) = at_front _ _ e _ any_chunks_before_any (LeadsTo-cons Any (ordered_leads true e))
ordered_leads false (Any ∷ e) = LeadsTo-cons Any (ordered_leads false e)
ordered_leads true (AnyChunks ∷ e) = at_front _ _ e _ any_chunks_twice (ordered_leads true e)
ordered_leads false (AnyChunks ∷ e) = ordered_leads true e
ordered_leads true (Pieces p ∷ e) = LeadsTo-cons AnyChunks (LeadsTo-cons (Pieces p) (ordered_leads false e))
ordered_leads false (Pieces p ∷ e) = LeadsTo-cons (Pieces p) (ordered_leads false e)

-- each chunk of an expression is one
pub all_chunks : (e : List Chunk) → is_expression e ≡ true → list_all is_chunk e ≡ true
all_chunks [] h = cc
all_chunks (x ∷ e) h = h

-- replacements lead to the canonical form
pub canonical-leads : (e : List Chunk) → is_expression e ≡ true → LeadsTo e (canonical e)
canonical-leads e h = LeadsTo-trans (map_settled_leads e (all_chunks e h)) (ordered_leads false (map settled e))

-- the canonical form is canonical
begins_any-single : (p : List Piece) → begins_any (single true p) ≡ false
begins_any-single [] = refl
begins_any-single (Char c ∷ p) = refl
begins_any-single (AnyChars ∷ p) = begins_any-single p

is_single-single : (after : Bool) (p : List Piece) → is_single (single after p) ≡ true
is_single-single true [] = refl
is_single-single false [] = refl
is_single-single true (Char c ∷ p) = is_single-single false p
is_single-single false (Char c ∷ p) = is_single-single false p
is_single-single true (AnyChars ∷ p) = is_single-single true p
is_single-single false (AnyChars ∷ p) = rw (begins_any-single p) (is_single-single true p)

is_canonical-alone : (p : List Piece) → is_single p ≡ true → is_canonical_chunk (alone p) ≡ true
is_canonical-alone [] h = refl
is_canonical-alone (Char c ∷ p) h = h
is_canonical-alone (AnyChars ∷ []) h = refl
is_canonical-alone (AnyChars ∷ x ∷ p) h = h

is_canonical-settled : (x : Chunk) → is_canonical_chunk (settled x) ≡ true
is_canonical-settled Any = refl
is_canonical-settled AnyChunks = refl
is_canonical-settled (Pieces p) = is_canonical-alone (single false p) (is_single-single false p)

all_settled : (e : List Chunk) → list_all is_canonical_chunk (map settled e) ≡ true
all_settled [] = refl
all_settled (x ∷ e) = and_from (is_canonical_chunk (settled x)) (list_all is_canonical_chunk (map settled e)) (is_canonical-settled x) (all_settled e)

all_ordered : (waiting : Bool) (e : List Chunk) → list_all is_canonical_chunk e ≡ true → list_all is_canonical_chunk (ordered waiting e) ≡ true
all_ordered true [] h = refl
all_ordered false [] h = refl
all_ordered true (Any ∷ e) h = all_ordered true e h
all_ordered false (Any ∷ e) h = all_ordered false e h
all_ordered true (AnyChunks ∷ e) h = all_ordered true e h
all_ordered false (AnyChunks ∷ e) h = all_ordered true e h
all_ordered true (Pieces p ∷ e) h =
    let parts = and_parts (is_canonical_chunk (Pieces p)) (list_all is_canonical_chunk e) h in
    and_from (is_canonical_chunk (Pieces p)) (list_all is_canonical_chunk (ordered false e)) parts.0 (all_ordered false e parts.1)
all_ordered false (Pieces p ∷ e) h =
    let parts = and_parts (is_canonical_chunk (Pieces p)) (list_all is_canonical_chunk e) h in
    and_from (is_canonical_chunk (Pieces p)) (list_all is_canonical_chunk (ordered false e)) parts.0 (all_ordered false e parts.1)

is_ordered-ordered : (waiting : Bool) (e : List Chunk) → is_ordered (ordered waiting e) ≡ true
is_ordered-ordered true [] = refl
is_ordered-ordered false [] = refl
is_ordered-ordered true (Any ∷ e) = is_ordered-ordered true e
is_ordered-ordered false (Any ∷ e) = is_ordered-ordered false e
is_ordered-ordered true (AnyChunks ∷ e) = is_ordered-ordered true e
is_ordered-ordered false (AnyChunks ∷ e) = is_ordered-ordered true e
is_ordered-ordered true (Pieces p ∷ e) = is_ordered-ordered false e
is_ordered-ordered false (Pieces p ∷ e) = is_ordered-ordered false e

pub is_canonical-canonical : (e : List Chunk) → is_canonical (canonical e) ≡ true
is_canonical-canonical e = and_from (list_all is_canonical_chunk (canonical e)) (is_ordered (canonical e)) (all_ordered false (map settled e) (all_settled e)) (is_ordered-ordered false (map settled e))

-- a replacement keeps an expression one
wild_front : (p q : List Piece) → is_wild (p ++ AnyChars ∷ q) ≡ true
wild_front [] q = refl
wild_front (Char c ∷ p) q = wild_front p q
wild_front (AnyChars ∷ p) q = refl

Replaces-is_chunk : {old new : List Chunk} → Replaces old new → list_all is_chunk old ≡ true → list_all is_chunk new ≡ true
Replaces-is_chunk (any_chars_twice [] q) h = h
Replaces-is_chunk (any_chars_twice (AnyChars ∷ p) q) h =
    let a : list_all is_piece (p ++ AnyChars ∷ AnyChars ∷ q) ≡ (list_all is_piece p && list_all is_piece q) = list_all-append is_piece p (AnyChars ∷ AnyChars ∷ q) in
    let b : list_all is_piece (p ++ AnyChars ∷ q) ≡ (list_all is_piece p && list_all is_piece q) = list_all-append is_piece p (AnyChars ∷ q) in
    rw b (rw a at h)
Replaces-is_chunk (any_chars_twice (Char c ∷ p) q) h =
    let a : list_all is_piece (p ++ AnyChars ∷ AnyChars ∷ q) ≡ (list_all is_piece p && list_all is_piece q) = list_all-append is_piece p (AnyChars ∷ AnyChars ∷ q) in
    let b : list_all is_piece (p ++ AnyChars ∷ q) ≡ (list_all is_piece p && list_all is_piece q) = list_all-append is_piece p (AnyChars ∷ q) in
    rw (b, wild_front p q) (rw (a, wild_front p (AnyChars ∷ q)) at h)
Replaces-is_chunk any_chars_alone h = refl
Replaces-is_chunk any_chunks_twice h = refl
Replaces-is_chunk any_chunks_before_any h = refl

all_three : (before mid after : List Chunk) → list_all is_chunk (before ++ mid ++ after) ≡ true
    → (list_all is_chunk before ≡ true) × (list_all is_chunk mid ≡ true) × (list_all is_chunk after ≡ true)
all_three before mid after h =
    let outer = and_parts (list_all is_chunk (before ++ mid)) (list_all is_chunk after) (sym (list_all-append is_chunk (before ++ mid) after) ∙ h) in
    let inner = and_parts (list_all is_chunk before) (list_all is_chunk mid) (sym (list_all-append is_chunk before mid) ∙ outer.0) in
    (inner.0, inner.1, outer.1)

from_three : (before mid after : List Chunk) → list_all is_chunk before ≡ true → list_all is_chunk mid ≡ true → list_all is_chunk after ≡ true → list_all is_chunk (before ++ mid ++ after) ≡ true
from_three before mid after p q r =
    list_all-append is_chunk (before ++ mid) after
    ∙ and_from (list_all is_chunk (before ++ mid)) (list_all is_chunk after)
    (list_all-append is_chunk before mid ∙ and_from (list_all is_chunk before) (list_all is_chunk mid) p q) r

LeadsTo-all : {e f : List Chunk} → LeadsTo e f → list_all is_chunk e ≡ true → list_all is_chunk f ≡ true
LeadsTo-all (is_there e) h = h
LeadsTo-all (replace before after old new f step more) h =
    let parts = all_three before old after h in
    LeadsTo-all more (from_three before new after parts.0 (Replaces-is_chunk step parts.1) parts.2)

-- and it leaves some chunk
abbrev pub is_some : List Chunk → Bool
is_some [] = false
is_some (x ∷ e) = true

some_kept : (before after old new : List Chunk) → Replaces old new → is_some (before ++ new ++ after) ≡ true
some_kept (x ∷ before) after old new step = refl
some_kept [] after old new (any_chars_twice p q) = refl
some_kept [] after old new any_chars_alone = refl
some_kept [] after old new any_chunks_twice = refl
some_kept [] after old new any_chunks_before_any = refl

LeadsTo-some : {e f : List Chunk} → LeadsTo e f → is_some e ≡ true → is_some f ≡ true
LeadsTo-some (is_there e) h = h
LeadsTo-some (replace before after old new f step more) h = LeadsTo-some more (some_kept before after old new step)

some_expression : (e : List Chunk) → is_expression e ≡ true → is_some e ≡ true
some_expression [] h = h
some_expression (x ∷ e) h = refl

expression_from : (e : List Chunk) → is_some e ≡ true → list_all is_chunk e ≡ true → is_expression e ≡ true
expression_from [] s h = s
expression_from (x ∷ e) s h = h

pub LeadsTo-is_expression : {e f : List Chunk} → LeadsTo e f → is_expression e ≡ true → is_expression f ≡ true
LeadsTo-is_expression {e} {f} leads h = expression_from f (LeadsTo-some leads (some_expression e h)) (LeadsTo-all leads (all_chunks e h))
