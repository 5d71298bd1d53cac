-- What a chain is kept as: each extension of it is known and has a content that is spelled, and no two are of one id and form.
use Rattle.std.proofs.Common.{◌≡◌, ℕ, ◌<◌, ◌^◌, List, [], ◌∷◌, length, Bool, true, false, ◌||◌, cond, refl, sym, subst, filter}
use Rattle.std.specs.List.{AllByRecursion}
use Rattle.zr_ext.specs.declared.ext.Ext.{Ext}
use Rattle.zr_ext.specs.declared.ext.Content.{Content}
use Rattle.zr_ext.specs.declared.ext.Content.TheVariants as content
use Rattle.zr_ext.specs.declared.ext.Form.{Form}
use Rattle.zr_ext.specs.Chain.{SpellsContent, SpellsExt, SpellsAll, SpellsChain, knows, repeats, is_repeated, lasts}

-- a content whose bytes a length tells
abbrev pub HasLength : Content → Type 0
HasLength content.Unit = Unit {0}
HasLength (content.Number n) = Unit {0}
HasLength (content.Bytes b) = length b < 2 ^ 32

-- no two are of one id and form
abbrev pub AreDistinct : List Ext → Type 0
AreDistinct [] = Unit {0}
AreDistinct (e ∷ exts) = (is_repeated e exts ≡ false) × AreDistinct exts

content_length : (x : Content) (bytes : List ℕ) → SpellsContent x bytes → HasLength x
content_length content.Unit bytes s = tt
content_length (content.Number n) bytes s = tt
content_length (content.Bytes b) bytes s = s.0

ext_length : (e : Ext) (more : Bool) (bytes : List ℕ) → SpellsExt e more bytes → HasLength e.content
ext_length e more [] s = absurd s
ext_length e more (header ∷ bytes) s = content_length e.content bytes s.1

all_lengths : (all : List Ext) (bytes : List ℕ) → SpellsAll all bytes → AllByRecursion (λ e. HasLength e.content) all
all_lengths [] bytes s = absurd s
all_lengths (e ∷ []) bytes s = (ext_length e false bytes s, tt)
all_lengths (e ∷ next ∷ all) bytes s = (ext_length e true s.0 s.3, all_lengths (next ∷ all) s.1 s.4)

known_only : (known : List (ℕ × Form)) (all : List Ext) → AllByRecursion (λ e. HasLength e.content) all
    → AllByRecursion (λ e. (knows known e ≡ true) × HasLength e.content) (filter (λ e. knows known e) all)
known_only known [] h = tt
known_only known (e ∷ all) h = by_test (knows known e) refl (known_only known all h.1)
  where
    rest : List Ext
    rest = filter (λ x. knows known x) all

    by_test : (b : Bool) → knows known e ≡ b → AllByRecursion (λ x. (knows known x ≡ true) × HasLength x.content) rest
        → AllByRecursion (λ x. (knows known x ≡ true) × HasLength x.content) (cond b (e ∷ rest) rest)
    by_test true same ih = ((same, h.0), ih)
    by_test false same ih = ih

lasts_all : (P : Ext → Type 0) (exts : List Ext) → AllByRecursion P exts → AllByRecursion P (lasts exts)
lasts_all P [] h = tt
lasts_all P (e ∷ exts) h = by_test (is_repeated e exts) (lasts_all P exts h.1)
  where
    by_test : (b : Bool) → AllByRecursion P (lasts exts) → AllByRecursion P (cond b (lasts exts) (e ∷ lasts exts))
    by_test true ih = ih
    by_test false ih = (h.0, ih)

-- what doesn't come again in a list doesn't in what is kept of it
not_again : (e : Ext) (exts : List Ext) → is_repeated e exts ≡ false → is_repeated e (lasts exts) ≡ false
not_again e [] h = refl
not_again e (x ∷ exts) h = by_test (is_repeated x exts) (repeats x e) refl h (not_again e exts)
  where
    by_test : (dropped here : Bool) → repeats x e ≡ here → (here || is_repeated e exts) ≡ false → (is_repeated e exts ≡ false → is_repeated e (lasts exts) ≡ false)
        → is_repeated e (cond dropped (lasts exts) (x ∷ lasts exts)) ≡ false
    by_test dropped true same h ih = absurd cc
    by_test true false same h ih = ih h
    by_test false false same h ih = rw (same, ih h) refl

lasts_distinct : (exts : List Ext) → AreDistinct (lasts exts)
lasts_distinct [] = tt
lasts_distinct (e ∷ exts) = by_test (is_repeated e exts) refl (lasts_distinct exts)
  where
    by_test : (b : Bool) → is_repeated e exts ≡ b → AreDistinct (lasts exts) → AreDistinct (cond b (lasts exts) (e ∷ lasts exts))
    by_test true same ih = ih
    by_test false same ih = (not_again e exts same, ih)

pub chain_kept : (known : List (ℕ × Form)) (exts : List Ext) (bytes : List ℕ) → SpellsChain known exts bytes
    → AllByRecursion (λ e. (knows known e ≡ true) × HasLength e.content) exts × AreDistinct exts
chain_kept known exts bytes s =
    let some : List Ext = filter (λ e. knows known e) s.0 in
    let P : List Ext → Type 0 = λ xs. AllByRecursion (λ e. (knows known e ≡ true) × HasLength e.content) xs × AreDistinct xs in
    subst P (sym s.3) (lasts_all _ some (known_only known s.0 (all_lengths s.0 bytes s.1)), lasts_distinct some)
