-- Chains of extensions: what they spell, and what is kept of them.
use Rattle.std.specs.Prelude.{◌≡◌, ℕ, ◌<◌, ◌^◌, Bool, true, false, not, List, [], ◌∷◌, ◌++◌, length, ◌==◌, ◌&&◌, ◌||◌, if◌then◌else◌, filter}
use Rattle.std.specs.List.{list_any, list_all}
use Rattle.zr_bytes.specs.Number.{Spells}
use Rattle.zr_bytes.specs.Text.{SpellsText}
use Rattle.zr_ext.specs.declared.ext.Ext.{Ext}
use Rattle.zr_ext.specs.declared.ext.Content.{Content}
use Rattle.zr_ext.specs.declared.ext.Content.TheVariants.{Unit, Number, Bytes}
use Rattle.zr_ext.specs.declared.ext.Form.{Form}
use Rattle.zr_ext.specs.Header.{IsHeader, form_of, same_form, is_known}

-- nothing, a number, or a byte string of less than 2^32 bytes
abbrev pub SpellsContent : Content → List ℕ → Type 0
SpellsContent Unit bytes = bytes ≡ []
SpellsContent (Number n) bytes = Spells n bytes
SpellsContent (Bytes b) bytes = (length b < 2 ^ 32) × SpellsText b bytes

-- a header, which says whether another extension follows, and the content
abbrev pub SpellsExt : Ext → Bool → List ℕ → Type 0
SpellsExt ext more [] = ⊥
SpellsExt ext more (header ∷ bytes) = IsHeader ext more header × SpellsContent ext.content bytes

-- extensions one after another, each of which says that another one follows
abbrev pub SpellsOpen : List Ext → List ℕ → Type 0
SpellsOpen [] bytes = bytes ≡ []
SpellsOpen (ext ∷ exts) bytes = (front : List ℕ) × (back : List ℕ) × (bytes ≡ front ++ back) × SpellsExt ext true front × SpellsOpen exts back

-- extensions one after another, at least one, of which the last says that none follows
abbrev pub SpellsAll : List Ext → List ℕ → Type 0
SpellsAll [] bytes = ⊥
SpellsAll (ext ∷ []) bytes = SpellsExt ext false bytes
SpellsAll (ext ∷ next ∷ exts) bytes = (front : List ℕ) × (back : List ℕ) × (bytes ≡ front ++ back) × SpellsExt ext true front × SpellsAll (next ∷ exts) back

abbrev pub knows : List (ℕ × Form) → Ext → Bool
knows known ext = is_known known ext.id (form_of ext.content)

-- no unknown extension is mandatory
abbrev pub are_admitted : List (ℕ × Form) → List Ext → Bool
are_admitted known exts = list_all (λ ext. not ext.mandatory || knows known ext) exts

-- the other extension has the same id and form
abbrev pub repeats : Ext → Ext → Bool
repeats other ext = other.id == ext.id && same_form (form_of other.content) (form_of ext.content)

-- an extension of the same id and form comes
abbrev pub is_repeated : Ext → List Ext → Bool
is_repeated ext exts = list_any (λ other. repeats other ext) exts

-- of extensions of one id and form the last
abbrev pub lasts : List Ext → List Ext
lasts [] = []
lasts (ext ∷ exts) = if is_repeated ext exts then lasts exts else ext ∷ lasts exts

-- What is kept: the known ones, and of a repeated one the last.
abbrev pub kept : List (ℕ × Form) → List Ext → List Ext
kept known exts = lasts (filter (λ ext. knows known ext) exts)

-- The bytes are a chain of which these extensions are kept.
abbrev pub SpellsChain : List (ℕ × Form) → List Ext → List ℕ → Type 0
SpellsChain known exts bytes = (all : List Ext) × SpellsAll all bytes × (are_admitted known all ≡ true) × (exts ≡ kept known all)
