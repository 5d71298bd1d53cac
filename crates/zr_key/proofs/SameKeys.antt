-- A replacement keeps the keys that an expression matches.
use Rattle.std.proofs.Common.{◌≡◌, ℕ, ◌∷◌, ◌++◌, [], List, true, false, refl, sym, ap, subst, ◌∙◌, append_assoc, append-nil}
use Rattle.std.specs.List.{list_any}
use Rattle.std.proofs.lemmas.Bool.{or_parts, or_from}
use Rattle.std.proofs.lemmas.List.Folds.{list_any-append}
use Rattle.zr_key.specs.Expression.{Piece, Char, AnyChars, Chunk, Any, AnyChunks, Pieces, is_verbatim, is_wild, Fits, Matches, Replaces, any_chars_twice, any_chars_alone, any_chunks_twice, any_chunks_before_any, LeadsTo, is_there, replace}

-- a key that is cut where an expression is cut
pub record Parted (a b : List Chunk) (k : List (List ℕ)) : Type 0 where
  pub first : List (List ℕ)
  pub second : List (List ℕ)
  pub joined : k ≡ first ++ second
  pub first_matches : Matches a first
  pub second_matches : Matches b second

pub Matches-parted : (a b : List Chunk) (k : List (List ℕ)) → Matches (a ++ b) k → Parted a b k
Matches-parted [] b k h = record { first = []; second = k; joined = refl; first_matches = refl; second_matches = h }
Matches-parted (Any ∷ a) b [] h = absurd h
Matches-parted (Any ∷ a) b (c ∷ k) h =
    let rest = Matches-parted a b k h.1 in
    record { first = c ∷ rest.first; second = rest.second; joined = ap (λ x. c ∷ x) rest.joined; first_matches = (h.0, rest.first_matches); second_matches = rest.second_matches }
Matches-parted (Pieces p ∷ a) b [] h = absurd h
Matches-parted (Pieces p ∷ a) b (c ∷ k) h =
    let rest = Matches-parted a b k h.1 in
    record { first = c ∷ rest.first; second = rest.second; joined = ap (λ x. c ∷ x) rest.joined; first_matches = (h.0, rest.first_matches); second_matches = rest.second_matches }
Matches-parted (AnyChunks ∷ a) b k h =
    let rest = Matches-parted a b h.1 h.4 in
    record {
      first = h.0 ++ rest.first;
      second = rest.second;
      joined = h.2 ∙ ap (λ x. h.0 ++ x) rest.joined ∙ sym (append_assoc h.0 rest.first rest.second);
      first_matches = (h.0, rest.first, refl, h.3, rest.first_matches);
      second_matches = rest.second_matches;
    }

pub Matches-joined : (a b : List Chunk) (u v : List (List ℕ)) → Matches a u → Matches b v → Matches (a ++ b) (u ++ v)
Matches-joined [] b u v h g = subst (λ x. Matches b (x ++ v)) (sym h) g
Matches-joined (Any ∷ a) b [] v h g = absurd h
Matches-joined (Any ∷ a) b (c ∷ u) v h g = (h.0, Matches-joined a b u v h.1 g)
Matches-joined (Pieces p ∷ a) b [] v h g = absurd h
Matches-joined (Pieces p ∷ a) b (c ∷ u) v h g = (h.0, Matches-joined a b u v h.1 g)
Matches-joined (AnyChunks ∷ a) b u v h g =
    (h.0, h.1 ++ v, ap (λ x. x ++ v) h.2 ∙ append_assoc h.0 h.1 v, h.3, Matches-joined a b h.1 v h.4 g)

-- two `$*` side by side take what one takes
Fits-once : (p q : List Piece) (cs : List ℕ) → Fits (p ++ AnyChars ∷ AnyChars ∷ q) cs → Fits (p ++ AnyChars ∷ q) cs
Fits-once [] q cs h =
    let inner = h.3 in
    (h.0 ++ inner.0, inner.1, h.2 ∙ ap (λ x. h.0 ++ x) inner.2 ∙ sym (append_assoc h.0 inner.0 inner.1), inner.3)
Fits-once (Char c ∷ p) q [] h = absurd h
Fits-once (Char c ∷ p) q (b ∷ cs) h = (h.0, Fits-once p q cs h.1)
Fits-once (AnyChars ∷ p) q cs h = (h.0, h.1, h.2, Fits-once p q h.1 h.3)

Fits-twice : (p q : List Piece) (cs : List ℕ) → Fits (p ++ AnyChars ∷ q) cs → Fits (p ++ AnyChars ∷ AnyChars ∷ q) cs
Fits-twice [] q cs h = (h.0, h.1, h.2, ([], h.1, refl, h.3))
Fits-twice (Char c ∷ p) q [] h = absurd h
Fits-twice (Char c ∷ p) q (b ∷ cs) h = (h.0, Fits-twice p q cs h.1)
Fits-twice (AnyChars ∷ p) q cs h = (h.0, h.1, h.2, Fits-twice p q h.1 h.3)

wild_any : (p q : List Piece) → is_wild (p ++ AnyChars ∷ q) ≡ true
wild_any [] q = refl
wild_any (Char c ∷ p) q = wild_any p q
wild_any (AnyChars ∷ p) q = refl

-- a run of chunks that are not verbatim, and that it is what `**` matches
open_both : (u v : List (List ℕ)) → list_any is_verbatim u ≡ false → list_any is_verbatim v ≡ false → list_any is_verbatim (u ++ v) ≡ false
open_both u v p q = list_any-append is_verbatim u v ∙ or_from (list_any is_verbatim u) (list_any is_verbatim v) p q

open_from : (k : List (List ℕ)) → Matches (AnyChunks ∷ []) k → list_any is_verbatim k ≡ false
open_from k h =
    let e : k ≡ h.0 = h.2 ∙ ap (λ x. h.0 ++ x) h.4 ∙ append-nil h.0 in
    ap (λ x. list_any is_verbatim x) e ∙ h.3

from_open : (k : List (List ℕ)) → list_any is_verbatim k ≡ false → Matches (AnyChunks ∷ []) k
from_open k h = (k, [], sym (append-nil k), h, refl)

-- the last chunk of a run, which `*` matches behind `**`
last_open : (c : List ℕ) (k : List (List ℕ)) → is_verbatim c ≡ false → list_any is_verbatim k ≡ false → Matches (AnyChunks ∷ Any ∷ []) (c ∷ k)
last_open c [] h g = ([], c ∷ [], refl, refl, (h, refl))
last_open c (d ∷ k) h g =
    let parts = or_parts (is_verbatim d) (list_any is_verbatim k) g in
    let rest = last_open d k parts.0 parts.1 in
    (c ∷ rest.0, rest.1, ap (λ x. c ∷ x) rest.2, or_from (is_verbatim c) (list_any is_verbatim rest.0) h rest.3, rest.4)

first_open : (run : List (List ℕ)) (c : List ℕ) → list_any is_verbatim run ≡ false → is_verbatim c ≡ false → Matches (Any ∷ AnyChunks ∷ []) (run ++ c ∷ [])
first_open [] c h g = (g, from_open [] refl)
first_open (d ∷ run) c h g =
    let parts = or_parts (is_verbatim d) (list_any is_verbatim run) h in
    (parts.0, from_open (run ++ c ∷ []) (open_both run (c ∷ []) parts.1 (or_from (is_verbatim c) false g refl)))

-- what is matched by `*` alone
alone_any : (run rest : List (List ℕ)) → list_any is_verbatim run ≡ false → Matches (Any ∷ []) rest → Matches (Any ∷ AnyChunks ∷ []) (run ++ rest)
alone_any run [] h g = absurd g
alone_any run (c ∷ rest) h g = subst (λ x. Matches (Any ∷ AnyChunks ∷ []) (run ++ c ∷ x)) (sym g.1) (first_open run c h g.0)

-- each replacement, there and back
Replaces-forth : {old new : List Chunk} → Replaces old new → (k : List (List ℕ)) → Matches old k → Matches new k
Replaces-forth (any_chars_twice p q) [] h = absurd h
Replaces-forth (any_chars_twice p q) (c ∷ k) h = ((Fits-once p q c h.0.0, λ e. h.0.1 (wild_any p (AnyChars ∷ q))), h.1)
Replaces-forth any_chars_alone [] h = absurd h
Replaces-forth any_chars_alone (c ∷ k) h = (h.0.1 refl, h.1)
Replaces-forth any_chunks_twice k h =
    from_open k (ap (λ x. list_any is_verbatim x) h.2 ∙ open_both h.0 h.1 h.3 (open_from h.1 h.4))
Replaces-forth any_chunks_before_any k h =
    subst (λ x. Matches (Any ∷ AnyChunks ∷ []) x) (sym h.2) (alone_any h.0 h.1 h.3 h.4)

Replaces-back : {old new : List Chunk} → Replaces old new → (k : List (List ℕ)) → Matches new k → Matches old k
Replaces-back (any_chars_twice p q) [] h = absurd h
Replaces-back (any_chars_twice p q) (c ∷ k) h = ((Fits-twice p q c h.0.0, λ e. h.0.1 (wild_any p q)), h.1)
Replaces-back any_chars_alone [] h = absurd h
Replaces-back any_chars_alone (c ∷ k) h = (((c, [], sym (append-nil c), refl), λ e. h.0), h.1)
Replaces-back any_chunks_twice k h = (k, [], sym (append-nil k), open_from k h, from_open [] refl)
Replaces-back any_chunks_before_any [] h = absurd h
Replaces-back any_chunks_before_any (c ∷ k) h = last_open c k h.0 (open_from k h.1)

-- within an expression
three_forth : (before after old new : List Chunk) → ((k : List (List ℕ)) → Matches old k → Matches new k)
    → (k : List (List ℕ)) → Matches (before ++ old ++ after) k → Matches (before ++ new ++ after) k
three_forth before after old new each k h =
    let outer = Matches-parted (before ++ old) after k h in
    let inner = Matches-parted before old outer.first outer.first_matches in
    let mid = Matches-joined before new inner.first inner.second inner.first_matches (each inner.second inner.second_matches) in
    subst (λ x. Matches (before ++ new ++ after) x) (ap (λ x. x ++ outer.second) (sym inner.joined) ∙ sym outer.joined)
    (Matches-joined (before ++ new) after (inner.first ++ inner.second) outer.second mid outer.second_matches)

pub LeadsTo-forth : {e f : List Chunk} → LeadsTo e f → (k : List (List ℕ)) → Matches e k → Matches f k
LeadsTo-forth (is_there e) k h = h
LeadsTo-forth (replace before after old new f step more) k h = LeadsTo-forth more k (three_forth before after old new (Replaces-forth step) k h)

pub LeadsTo-back : {e f : List Chunk} → LeadsTo e f → (k : List (List ℕ)) → Matches f k → Matches e k
LeadsTo-back (is_there e) k h = h
LeadsTo-back (replace before after old new f step more) k h = three_forth before after new old (Replaces-back step) k (LeadsTo-back more k h)
