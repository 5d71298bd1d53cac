-- The reader of numbered keys follows their format, and what is written spells the key.
use Rattle.std.proofs.Common.{◌≡◌, ℕ, ◌-◌, ◌^◌, ◌<◌, ◌≤◌, List, [], ◌++◌, length, Some, Ok, Bool, true, false, cond, refl, sym, ap, ◌∙◌, arith, inl, inr, eqb}
use Rattle.std.proofs.lemmas.List.{append-nil}
use Rattle.std.proofs.lemmas.Bool.{eqb-true, cases_Bool}
use Rattle.zr_bytes.specs.Number.{writes}
use Rattle.zr_bytes.specs.Text.{writes_text}
use Rattle.zr_bytes.specs.Reading.{number_below, text_of}
use Rattle.zr_bytes.proofs.Numbers.{written_spells}
use Rattle.zr_format_spec.specs.Format.{gives, ◌then◌, ◌allows◌, below, text}
use Rattle.zr_format_spec.specs.Laws.{anywhere}
use Rattle.zr_format_spec.proofs.Follows.{Follows, follows_gives, follows_choose, follows_then, follows_allows, follows_below, follows_text}
use Rattle.zr_format_spec.proofs.Spelled.{allows_spelled}
use Rattle.zr_key.specs.Key.{read_key}
use Rattle.zr_wirekey.specs.Scopes.{Texts, text_at}
use Rattle.zr_wirekey.specs.Spelling.{scope_of, suffix, key_parts, or_bad_key, key_format}
use Rattle.zr_wirekey.specs.Reading.{suffix_of, parts_of, key_of}
use Rattle.zr_wirekey.specs.Writing.{writes_key}

follows_suffix : (named : Bool) → Follows anywhere (suffix named) (suffix_of named)
follows_suffix named = follows_choose anywhere named (text (2 ^ 16 - 1)) (gives []) (text_of (2 ^ 16 - 1)) (λ bytes. Ok ([], bytes)) (follows_text (2 ^ 16 - 1)) (follows_gives anywhere [] (λ rest. tt))

pub follows_parts : (named : Bool) (texts : Texts) → Follows anywhere (key_parts named texts) (parts_of named texts)
unfolding parts_of
follows_parts named texts =
    follows_then anywhere (below (2 ^ 16)) _ (number_below (2 ^ 16)) _ (follows_below (2 ^ 16)) (λ number.
    follows_allows anywhere (scope_of (text_at texts number)) _ _ (λ scope.
    follows_then anywhere (suffix named) _ (suffix_of named) _ (follows_suffix named) (λ suffix.
    follows_gives anywhere (scope, suffix) (λ rest. tt))))

pub follows_key : (named : Bool) (texts : Texts) → Follows anywhere (key_format named texts) (key_of named texts)
unfolding key_of
follows_key named texts =
    follows_then anywhere (key_parts named texts) _ (parts_of named texts) _ (follows_parts named texts) (λ parts.
    follows_allows anywhere (or_bad_key (read_key (parts.0 ++ parts.1))) _ _ (λ key. follows_gives anywhere key (λ rest. tt)))

-- ---- writing

read_again : (named : Bool) (texts : Texts) (scope suffix key bytes : List ℕ) → (key_parts named texts).spelled (scope, suffix) bytes → read_key (scope ++ suffix) ≡ Ok key → (key_format named texts).spelled key bytes
read_again named texts scope suffix key bytes parts is =
    ((scope, suffix), bytes, [], sym (append-nil bytes), parts, allows_spelled (or_bad_key (read_key (scope ++ suffix))) (λ k. gives k) key key [] (ap or_bad_key is) (refl, refl))

-- scope 0 and the text as the suffix
pub parts_are_read : (texts : Texts) (text : List ℕ) → length text ≤ 2048 → (key_parts true texts).spelled ([], text) (writes 0 ++ writes_text text)
parts_are_read texts text le =
    let behind : (suffix true).spelled text (writes_text text) = (omega arith, (writes (length text), written_spells 8 (length text), refl)) in
    (0, writes 0, writes_text text, refl, (omega arith, written_spells 8 0), (text, writes_text text, [], sym (append-nil (writes_text text)), behind, (refl, refl)))

pub whole_is_read : (texts : Texts) (key : List ℕ) → length key ≤ 2048 → read_key key ≡ Ok key → (key_format true texts).spelled key (writes_key key 0)
whole_is_read texts key le same = read_again true texts [] key key (writes 0 ++ writes_text key) (parts_are_read texts key le) same

pub number_is_read : (texts : Texts) (key : List ℕ) (number : ℕ) → 0 < number → number < 2 ^ 16 → text_at texts number ≡ Some key → read_key key ≡ Ok key → (key_format false texts).spelled key (writes_key key number)
number_is_read texts key number positive small stands same =
    let other : eqb number 0 ≡ false = elim (cases_Bool (eqb number 0)) [
      | inl zeroed ↦ absurd (omega (arith, eqb-true number 0 zeroed))
      | inr longer ↦ longer
    ] in
    let bare : writes number ++ cond (eqb number 0) (writes_text key) [] ≡ writes number ++ [] = ap (λ (b : Bool). writes number ++ cond b (writes_text key) []) other in
    let after : (scope_of (text_at texts number) allows λ scope. suffix false then λ s. gives (scope, s)).spelled (key, []) [] =
    allows_spelled (scope_of (text_at texts number)) (λ scope. suffix false then λ s. gives (scope, s)) key (key, []) [] (ap scope_of stands) ([], [], [], refl, (refl, refl), (refl, refl)) in
    let parts : (key_parts false texts).spelled (key, []) (writes_key key number) = (number, writes number, [], bare, (small, written_spells 8 number), after) in
    read_again false texts key [] key (writes_key key number) parts (ap read_key (append-nil key) ∙ same)
