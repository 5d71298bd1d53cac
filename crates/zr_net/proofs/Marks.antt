-- The marks of the extensions that a message keeps are those of the extensions that are written of it. Marks are six bits, each of which says
-- whether an extension of its id is kept and mandatory; what holds of six bits is shown by trying them all.
use Rattle.std.proofs.Common.{◌≡◌, ℕ, ◌+◌, Bool, true, false, not, ◌&&◌, ◌||◌, cond, List, [], ◌∷◌, ◌++◌, Option, Some, None, refl, sym, ap, subst, ◌∙◌, eqb, inl, inr}
use Rattle.std.specs.Prelude.{is_some, fold, bit_or}
use Rattle.std.specs.List.{list_any}
use Rattle.std.proofs.lemmas.Bool.{and_parts, eqb-true, cases_Bool, false≢true}
use Rattle.std.proofs.Math.Bool.{or-false, or_assoc}
use Rattle.zr_bytes.specs.Flag.{has_flag}
use Rattle.zr_ext.specs.declared.ext.Ext.{Ext}
use Rattle.zr_ext.specs.declared.ext.Content.{Content}
use Rattle.zr_ext.specs.declared.ext.Content.TheVariants as content
use Rattle.zr_ext.specs.declared.ext.Form.TheVariants as form
use Rattle.zr_ext.specs.Header.{form_of, content_number, same_form}
use Rattle.zr_ext.proofs.Trying.{same_bool, same_bool-true}
use Rattle.zr_ext.proofs.Distinct.{AreDistinct}
use Rattle.zr_msg.specs.declared.extras.Extras.{Extras}
use Rattle.zr_msg.specs.declared.msg.Target.{Target}
use Rattle.zr_msg.specs.declared.msg.Target.TheVariants.{Best, All, Complete}
use Rattle.zr_net.specs.Exts.{or_else, content_bytes, number_at, bytes_at, is_kept_number, is_kept_content, bit_of, with_mark, marks_of, extras_of}
use Rattle.zr_net.specs.Writing.{number_ext, bytes_ext, target_number, kept_exts}

-- ---- six bits

abbrev both : (Bool → Bool) → Bool
both p = p true && p false

both-at : (p : Bool → Bool) → both p ≡ true → (b : Bool) → p b ≡ true
both-at p h true = (and_parts (p true) (p false) h).0
both-at p h false = (and_parts (p true) (p false) h).1

abbrev six : (Bool → Bool → Bool → Bool → Bool → Bool → Bool) → Bool
six p = both (λ a. both (λ b. both (λ c. both (λ d. both (λ e. both (λ f. p a b c d e f))))))

six-at : (p : Bool → Bool → Bool → Bool → Bool → Bool → Bool) → six p ≡ true → (a b c d e f : Bool) → p a b c d e f ≡ true
six-at p h a b c d e f =
    both-at (λ f. p a b c d e f)
    (both-at (λ e. both (λ f. p a b c d e f))
    (both-at (λ d. both (λ e. both (λ f. p a b c d e f)))
    (both-at (λ c. both (λ d. both (λ e. both (λ f. p a b c d e f))))
    (both-at (λ b. both (λ c. both (λ d. both (λ e. both (λ f. p a b c d e f)))))
    (both-at (λ a. both (λ b. both (λ c. both (λ d. both (λ e. both (λ f. p a b c d e f)))))) h a) b) c) d) e) f

abbrev pack : Bool → Bool → Bool → Bool → Bool → Bool → ℕ
pack a b c d e f = cond a 0x02 0 + (cond b 0x04 0 + (cond c 0x08 0 + (cond d 0x10 0 + (cond e 0x20 0 + cond f 0x40 0))))

-- one more bit, which is that of an id
abbrev bits_more : ℕ → ℕ → Bool → Bool → Bool → Bool → Bool → Bool → Bool
bits_more bit id a b c d e f =
    eqb (bit_or (pack a b c d e f) bit) (pack (a || eqb id 1) (b || eqb id 2) (c || eqb id 3) (d || eqb id 4) (e || eqb id 5) (f || eqb id 6))

abbrev bits_are : Bool → Bool → Bool → Bool → Bool → Bool → Bool
bits_are a b c d e f =
    (same_bool (has_flag (pack a b c d e f) 0x02) a && (same_bool (has_flag (pack a b c d e f) 0x04) b && same_bool (has_flag (pack a b c d e f) 0x08) c))
    && (same_bool (has_flag (pack a b c d e f) 0x10) d && (same_bool (has_flag (pack a b c d e f) 0x20) e && same_bool (has_flag (pack a b c d e f) 0x40) f))

all_are : six bits_are ≡ true
all_are = refl

more_1 : six (bits_more 0x02 1) ≡ true
more_1 = refl

more_2 : six (bits_more 0x04 2) ≡ true
more_2 = refl

more_3 : six (bits_more 0x08 3) ≡ true
more_3 = refl

more_4 : six (bits_more 0x10 4) ≡ true
more_4 = refl

more_5 : six (bits_more 0x20 5) ≡ true
more_5 = refl

more_6 : six (bits_more 0x40 6) ≡ true
more_6 = refl

-- the bit of each id, and of none
bit_in : (id : ℕ) (a b c d e f : Bool)
    → bit_or (pack a b c d e f) (bit_of id) ≡ pack (a || eqb id 1) (b || eqb id 2) (c || eqb id 3) (d || eqb id 4) (e || eqb id 5) (f || eqb id 6)
bit_in id a b c d e f = by_1 (eqb id 1) refl
  where
    P : ℕ → Type 0
    P i = bit_or (pack a b c d e f) (bit_of i) ≡ pack (a || eqb i 1) (b || eqb i 2) (c || eqb i 3) (d || eqb i 4) (e || eqb i 5) (f || eqb i 6)

    at : (i bit : ℕ) → six (bits_more bit i) ≡ true → bit_of i ≡ bit → eqb id i ≡ true → P id
    at i bit all is same =
        let here : bit_or (pack a b c d e f) bit ≡ pack (a || eqb i 1) (b || eqb i 2) (c || eqb i 3) (d || eqb i 4) (e || eqb i 5) (f || eqb i 6) =
        eqb-true _ _ (six-at (bits_more bit i) all a b c d e f) in
        subst P (sym (eqb-true id i same)) (ap (λ (n : ℕ). bit_or (pack a b c d e f) n) is ∙ here)

    by_none : eqb id 1 ≡ false → eqb id 2 ≡ false → eqb id 3 ≡ false → eqb id 4 ≡ false → eqb id 5 ≡ false → eqb id 6 ≡ false → P id
    by_none n1 n2 n3 n4 n5 n6 = rw (n1, n2, n3, n4, n5, n6) (eqb-true _ _ (six-at (bits_more 0 0) refl a b c d e f))

    by_6 : (t : Bool) → eqb id 6 ≡ t → eqb id 1 ≡ false → eqb id 2 ≡ false → eqb id 3 ≡ false → eqb id 4 ≡ false → eqb id 5 ≡ false → P id
    by_6 true same n1 n2 n3 n4 n5 = at 6 0x40 more_6 refl same
    by_6 false n6 n1 n2 n3 n4 n5 = by_none n1 n2 n3 n4 n5 n6

    by_5 : (t : Bool) → eqb id 5 ≡ t → eqb id 1 ≡ false → eqb id 2 ≡ false → eqb id 3 ≡ false → eqb id 4 ≡ false → P id
    by_5 true same n1 n2 n3 n4 = at 5 0x20 more_5 refl same
    by_5 false n5 n1 n2 n3 n4 = by_6 (eqb id 6) refl n1 n2 n3 n4 n5

    by_4 : (t : Bool) → eqb id 4 ≡ t → eqb id 1 ≡ false → eqb id 2 ≡ false → eqb id 3 ≡ false → P id
    by_4 true same n1 n2 n3 = at 4 0x10 more_4 refl same
    by_4 false n4 n1 n2 n3 = by_5 (eqb id 5) refl n1 n2 n3 n4

    by_3 : (t : Bool) → eqb id 3 ≡ t → eqb id 1 ≡ false → eqb id 2 ≡ false → P id
    by_3 true same n1 n2 = at 3 0x08 more_3 refl same
    by_3 false n3 n1 n2 = by_4 (eqb id 4) refl n1 n2 n3

    by_2 : (t : Bool) → eqb id 2 ≡ t → eqb id 1 ≡ false → P id
    by_2 true same n1 = at 2 0x04 more_2 refl same
    by_2 false n2 n1 = by_3 (eqb id 3) refl n1 n2

    by_1 : (t : Bool) → eqb id 1 ≡ t → P id
    by_1 true same = at 1 0x02 more_1 refl same
    by_1 false n1 = by_2 (eqb id 2) refl n1

-- ---- the marks of a list

-- the extension has this id, is kept and is mandatory
abbrev pub is_on : ℕ → Ext → Bool
is_on id e = (e.mandatory && is_kept_content e.id e.content) && eqb e.id id

abbrev pub on_at : ℕ → List Ext → Bool
on_at id [] = false
on_at id (e ∷ exts) = is_on id e || on_at id exts

abbrev packed : List Ext → ℕ
packed exts = pack (on_at 1 exts) (on_at 2 exts) (on_at 3 exts) (on_at 4 exts) (on_at 5 exts) (on_at 6 exts)

-- six equal bits
same_pack : {a b c d e f g h i j k l : Bool} → a ≡ g → b ≡ h → c ≡ i → d ≡ j → e ≡ k → f ≡ l → pack a b c d e f ≡ pack g h i j k l
same_pack p q r s t u = λ x. pack (p x) (q x) (r x) (s x) (t x) (u x)

mark_one : (x : Ext) (a b c d e f : Bool) → with_mark (pack a b c d e f) x ≡ pack (a || is_on 1 x) (b || is_on 2 x) (c || is_on 3 x) (d || is_on 4 x) (e || is_on 5 x) (f || is_on 6 x)
mark_one x a b c d e f = by_test (x.mandatory && is_kept_content x.id x.content)
  where
    by_test : (t : Bool) → cond t (bit_or (pack a b c d e f) (bit_of x.id)) (pack a b c d e f)
        ≡ pack (a || (t && eqb x.id 1)) (b || (t && eqb x.id 2)) (c || (t && eqb x.id 3)) (d || (t && eqb x.id 4)) (e || (t && eqb x.id 5)) (f || (t && eqb x.id 6))
    by_test true = bit_in x.id a b c d e f
    by_test false = sym (same_pack (or-false a) (or-false b) (or-false c) (or-false d) (or-false e) (or-false f))

marks_from : (exts : List Ext) (a b c d e f : Bool) → fold with_mark (pack a b c d e f) exts
    ≡ pack (a || on_at 1 exts) (b || on_at 2 exts) (c || on_at 3 exts) (d || on_at 4 exts) (e || on_at 5 exts) (f || on_at 6 exts)
marks_from [] a b c d e f = sym (same_pack (or-false a) (or-false b) (or-false c) (or-false d) (or-false e) (or-false f))
marks_from (x ∷ exts) a b c d e f =
    ap (λ (m : ℕ). fold with_mark m exts) (mark_one x a b c d e f)
    ∙ marks_from exts (a || is_on 1 x) (b || is_on 2 x) (c || is_on 3 x) (d || is_on 4 x) (e || is_on 5 x) (f || is_on 6 x)
    ∙ same_pack (or_assoc a (is_on 1 x) (on_at 1 exts)) (or_assoc b (is_on 2 x) (on_at 2 exts)) (or_assoc c (is_on 3 x) (on_at 3 exts)) (or_assoc d (is_on 4 x) (on_at 4 exts)) (or_assoc e (is_on 5 x) (on_at 5 exts)) (or_assoc f (is_on 6 x) (on_at 6 exts))

marks_packed : (exts : List Ext) → marks_of exts ≡ packed exts
marks_packed exts = marks_from exts false false false false false false

-- ---- what is written

on_both : (id : ℕ) (xs ys : List Ext) → on_at id (xs ++ ys) ≡ (on_at id xs || on_at id ys)
on_both id [] ys = refl
on_both id (x ∷ xs) ys = ap (λ (b : Bool). is_on id x || b) (on_both id xs ys) ∙ sym (or_assoc (is_on id x) (on_at id xs) (on_at id ys))

one_on : (t m : Bool) → (((m && true) && t) || false) ≡ (t && (m && true))
one_on true true = refl
one_on true false = refl
one_on false true = refl
one_on false false = refl

none_on : (t m : Bool) → false ≡ (t && (m && false))
none_on true true = refl
none_on true false = refl
none_on false m = refl

on_number : (i id : ℕ) (m : Bool) (o : Option ℕ) → ((n : ℕ) → is_kept_number id n ≡ true) → on_at i (number_ext id m o) ≡ (eqb id i && (m && is_some o))
on_number i id m None kept = none_on (eqb id i) m
on_number i id m (Some n) kept = rw (kept n) (one_on (eqb id i) m)

on_bytes : (i id : ℕ) (m : Bool) (o : Option (List ℕ)) → (eqb id 2 || eqb id 3) ≡ true → on_at i (bytes_ext id m o) ≡ (eqb id i && (m && is_some o))
on_bytes i id m None kept = none_on (eqb id i) m
on_bytes i id m (Some b) kept = rw kept (one_on (eqb id i) m)

on_target : (i : ℕ) (m : Bool) (t : Target) → on_at i (number_ext 4 m (target_number t)) ≡ (eqb 4 i && (m && is_some (target_number t)))
on_target i m Best = none_on (eqb 4 i) m
on_target i m All = one_on (eqb 4 i) m
on_target i m Complete = one_on (eqb 4 i) m

-- which marks are written
on_kept : (i : ℕ) (e : Extras) (t : Target) → on_at i (kept_exts e t None)
    ≡ ((eqb 1 i && (has_flag e.marks 0x02 && is_some e.qos))
    || ((eqb 2 i && (has_flag e.marks 0x04 && is_some e.stamp))
    || ((eqb 3 i && (has_flag e.marks 0x08 && is_some e.responder))
    || ((eqb 4 i && (has_flag e.marks 0x10 && is_some (target_number t)))
    || ((eqb 5 i && (has_flag e.marks 0x20 && is_some e.budget))
    || ((eqb 6 i && (has_flag e.marks 0x40 && is_some e.timeout)) || false))))))
on_kept i e t =
    front (number_ext 1 (has_flag e.marks 0x02) e.qos) _ _ _ (on_number i 1 (has_flag e.marks 0x02) e.qos (λ n. refl))
    (front (bytes_ext 2 (has_flag e.marks 0x04) e.stamp) _ _ _ (on_bytes i 2 (has_flag e.marks 0x04) e.stamp refl)
    (front (bytes_ext 3 (has_flag e.marks 0x08) e.responder) _ _ _ (on_bytes i 3 (has_flag e.marks 0x08) e.responder refl)
    (front (number_ext 4 (has_flag e.marks 0x10) (target_number t)) _ _ _ (on_target i (has_flag e.marks 0x10) t)
    (front (number_ext 5 (has_flag e.marks 0x20) e.budget) _ _ _ (on_number i 5 (has_flag e.marks 0x20) e.budget (λ n. refl))
    (front (number_ext 6 (has_flag e.marks 0x40) e.timeout) [] _ _ (on_number i 6 (has_flag e.marks 0x40) e.timeout (λ n. refl)) refl)))))
  where
    front : (xs ys : List Ext) (b c : Bool) → on_at i xs ≡ b → on_at i ys ≡ c → on_at i (xs ++ ys) ≡ (b || c)
    front xs ys b c p q = on_both i xs ys ∙ (λ x. p x || q x)

-- ---- what is on is there

off : (a rest : Bool) → ((a && false) || rest) ≡ true → rest ≡ true
off true rest h = h
off false rest h = h

unkept : (m k t rest : Bool) → k ≡ false → (((m && k) && t) || rest) ≡ true → rest ≡ true
unkept true true t rest e h = absurd cc
unkept true false t rest e h = h
unkept false k t rest e h = h

some_or : {X : Type 0} (o p : Option X) → is_some p ≡ true → is_some (or_else o p) ≡ true
some_or None p h = h
some_or (Some x) p h = refl

number_on : (id : ℕ) (exts : List Ext) → (eqb id 2 || eqb id 3) ≡ false → on_at id exts ≡ true → is_some (number_at id exts) ≡ true
number_on id [] bytes h = absurd cc
number_on id (e ∷ exts) bytes h = by (eqb e.id id) refl e.content (number_on id exts bytes) h
  where
    by : (t : Bool) → eqb e.id id ≡ t → (x : Content) → (on_at id exts ≡ true → is_some (number_at id exts) ≡ true)
        → (((e.mandatory && is_kept_content e.id x) && t) || on_at id exts) ≡ true → is_some (or_else (cond t (content_number x) None) (number_at id exts)) ≡ true
    by false apart x later g = later (off (e.mandatory && is_kept_content e.id x) (on_at id exts) g)
    by true same content.Unit later g = later (unkept e.mandatory false true (on_at id exts) refl g)
    by true same (content.Number n) later g = refl
    by true same (content.Bytes b) later g =
        later (unkept e.mandatory (eqb e.id 2 || eqb e.id 3) true (on_at id exts) (subst (λ (i : ℕ). (eqb i 2 || eqb i 3) ≡ false) (sym (eqb-true e.id id same)) bytes) g)

bytes_on : (id : ℕ) (exts : List Ext) → ((n : ℕ) → is_kept_number id n ≡ false) → on_at id exts ≡ true → is_some (bytes_at id exts) ≡ true
bytes_on id [] none h = absurd cc
bytes_on id (e ∷ exts) none h = by (eqb e.id id) refl e.content (bytes_on id exts none) h
  where
    by : (t : Bool) → eqb e.id id ≡ t → (x : Content) → (on_at id exts ≡ true → is_some (bytes_at id exts) ≡ true)
        → (((e.mandatory && is_kept_content e.id x) && t) || on_at id exts) ≡ true → is_some (or_else (cond t (content_bytes x) None) (bytes_at id exts)) ≡ true
    by false apart x later g = later (off (e.mandatory && is_kept_content e.id x) (on_at id exts) g)
    by true same content.Unit later g = later (unkept e.mandatory false true (on_at id exts) refl g)
    by true same (content.Bytes b) later g = refl
    by true same (content.Number n) later g =
        later (unkept e.mandatory (is_kept_number e.id n) true (on_at id exts) (subst (λ (i : ℕ). is_kept_number i n ≡ false) (sym (eqb-true e.id id same)) (none n)) g)

-- a target that comes again
target_again : (i : ℕ) (exts : List Ext) → eqb i 4 ≡ true → on_at 4 exts ≡ true → list_any (λ o. eqb o.id i && same_form (form_of o.content) form.Number) exts ≡ true
target_again i [] four h = absurd cc
target_again i (e ∷ exts) four h = by (eqb e.id 4) refl e.content (target_again i exts four) h
  where
    rest : Bool
    rest = list_any (λ o. eqb o.id i && same_form (form_of o.content) form.Number) exts

    or_true : (b c : Bool) → c ≡ true → (b || c) ≡ true
    or_true true c h = refl
    or_true false c h = h

    by : (t : Bool) → eqb e.id 4 ≡ t → (x : Content) → (on_at 4 exts ≡ true → rest ≡ true)
        → (((e.mandatory && is_kept_content e.id x) && t) || on_at 4 exts) ≡ true → ((eqb e.id i && same_form (form_of x) form.Number) || rest) ≡ true
    by false apart x later g = or_true (eqb e.id i && same_form (form_of x) form.Number) rest (later (off (e.mandatory && is_kept_content e.id x) (on_at 4 exts) g))
    by true same content.Unit later g = or_true (eqb e.id i && false) rest (later (unkept e.mandatory false true (on_at 4 exts) refl g))
    by true same (content.Bytes b) later g =
        or_true (eqb e.id i && false) rest (later (unkept e.mandatory (eqb e.id 2 || eqb e.id 3) true (on_at 4 exts) (subst (λ (j : ℕ). (eqb j 2 || eqb j 3) ≡ false) (sym (eqb-true e.id 4 same)) refl) g))
    by true same (content.Number n) later g =
        let one : eqb e.id i ≡ true = subst (λ (j : ℕ). eqb e.id j ≡ true) (sym (eqb-true i 4 four)) same in
        rw one refl

-- A target that is kept and mandatory is the one that is found, and isn't 0.
pub target_on : (exts : List Ext) → AreDistinct exts → on_at 4 exts ≡ true → (n : ℕ) × (number_at 4 exts ≡ Some n) × (eqb n 0 ≡ false)
target_on [] d h = absurd cc
target_on (e ∷ exts) d h = by (eqb e.id 4) refl e.content d.0 (target_on exts d.1) h
  where
    is_no : (b : Bool) → not b ≡ true → b ≡ false
    is_no true h = sym h
    is_no false h = refl

    kept : (a rest : Bool) → ((a && true) || rest) ≡ true → rest ≡ false → a ≡ true
    kept true rest h e = refl
    kept false true h e = sym e
    kept false false h e = h

    by : (t : Bool) → eqb e.id 4 ≡ t → (x : Content) → list_any (λ o. eqb o.id e.id && same_form (form_of o.content) (form_of x)) exts ≡ false
        → (on_at 4 exts ≡ true → (n : ℕ) × (number_at 4 exts ≡ Some n) × (eqb n 0 ≡ false))
        → (((e.mandatory && is_kept_content e.id x) && t) || on_at 4 exts) ≡ true → (n : ℕ) × (or_else (cond t (content_number x) None) (number_at 4 exts) ≡ Some n) × (eqb n 0 ≡ false)
    by false apart x alone later g = later (off (e.mandatory && is_kept_content e.id x) (on_at 4 exts) g)
    by true same content.Unit alone later g = later (unkept e.mandatory false true (on_at 4 exts) refl g)
    by true same (content.Bytes b) alone later g =
        later (unkept e.mandatory (eqb e.id 2 || eqb e.id 3) true (on_at 4 exts) (subst (λ (j : ℕ). (eqb j 2 || eqb j 3) ≡ false) (sym (eqb-true e.id 4 same)) refl) g)
    by true same (content.Number n) alone later g =
        let others : on_at 4 exts ≡ false = elim (cases_Bool (on_at 4 exts)) [
          | inl again ↦ absurd (false≢true (sym alone ∙ target_again e.id exts same again))
          | inr none ↦ none
        ] in
        let on = and_parts e.mandatory (is_kept_number e.id n) (kept (e.mandatory && is_kept_number e.id n) (on_at 4 exts) g others) in
        let aimed : is_kept_number 4 n ≡ true = subst (λ (j : ℕ). is_kept_number j n ≡ true) (eqb-true e.id 4 same) on.1 in
        (n, refl, is_no (eqb n 0) aimed)

-- ---- the two are the same

record Flags (exts : List Ext) : Type 0 where
  one : has_flag (marks_of exts) 0x02 ≡ on_at 1 exts
  two : has_flag (marks_of exts) 0x04 ≡ on_at 2 exts
  three : has_flag (marks_of exts) 0x08 ≡ on_at 3 exts
  four : has_flag (marks_of exts) 0x10 ≡ on_at 4 exts
  five : has_flag (marks_of exts) 0x20 ≡ on_at 5 exts
  last : has_flag (marks_of exts) 0x40 ≡ on_at 6 exts

flags : (exts : List Ext) → Flags exts
flags exts =
    let a : Bool = on_at 1 exts in
    let b : Bool = on_at 2 exts in
    let c : Bool = on_at 3 exts in
    let d : Bool = on_at 4 exts in
    let e : Bool = on_at 5 exts in
    let f : Bool = on_at 6 exts in
    let m : ℕ = pack a b c d e f in
    let is : marks_of exts ≡ m = marks_packed exts in
    let all = and_parts (same_bool (has_flag m 0x02) a && (same_bool (has_flag m 0x04) b && same_bool (has_flag m 0x08) c)) (same_bool (has_flag m 0x10) d && (same_bool (has_flag m 0x20) e && same_bool (has_flag m 0x40) f)) (six-at bits_are all_are a b c d e f) in
    let front = and_parts (same_bool (has_flag m 0x02) a) (same_bool (has_flag m 0x04) b && same_bool (has_flag m 0x08) c) all.0 in
    let middle = and_parts (same_bool (has_flag m 0x04) b) (same_bool (has_flag m 0x08) c) front.1 in
    let back = and_parts (same_bool (has_flag m 0x10) d) (same_bool (has_flag m 0x20) e && same_bool (has_flag m 0x40) f) all.1 in
    let end = and_parts (same_bool (has_flag m 0x20) e) (same_bool (has_flag m 0x40) f) back.1 in
    record {
      one = ap (λ (n : ℕ). has_flag n 0x02) is ∙ same_bool-true (has_flag m 0x02) a front.0;
      two = ap (λ (n : ℕ). has_flag n 0x04) is ∙ same_bool-true (has_flag m 0x04) b middle.0;
      three = ap (λ (n : ℕ). has_flag n 0x08) is ∙ same_bool-true (has_flag m 0x08) c middle.1;
      four = ap (λ (n : ℕ). has_flag n 0x10) is ∙ same_bool-true (has_flag m 0x10) d back.0;
      five = ap (λ (n : ℕ). has_flag n 0x20) is ∙ same_bool-true (has_flag m 0x20) e end.0;
      last = ap (λ (n : ℕ). has_flag n 0x40) is ∙ same_bool-true (has_flag m 0x40) f end.1;
    }

-- a flag of what is there
and_when : (f b s : Bool) → f ≡ b → (b ≡ true → s ≡ true) → ((f && s) || false) ≡ b
and_when f true s e h = rw (e, h refl) refl
and_when f false s e h = rw e refl

pub marks_kept : (exts : List Ext) (t : Target) → (on_at 4 exts ≡ true → is_some (target_number t) ≡ true) → marks_of (kept_exts (extras_of exts) t None) ≡ marks_of exts
marks_kept exts t aimed =
    let e : Extras = extras_of exts in
    let f = flags exts in
    marks_packed (kept_exts e t None)
    ∙ same_pack
    (on_kept 1 e t ∙ and_when (has_flag e.marks 0x02) (on_at 1 exts) (is_some e.qos) f.one (number_on 1 exts refl))
    (on_kept 2 e t ∙ and_when (has_flag e.marks 0x04) (on_at 2 exts) (is_some e.stamp) f.two (bytes_on 2 exts (λ n. refl)))
    (on_kept 3 e t ∙ and_when (has_flag e.marks 0x08) (on_at 3 exts) (is_some e.responder) f.three (bytes_on 3 exts (λ n. refl)))
    (on_kept 4 e t ∙ and_when (has_flag e.marks 0x10) (on_at 4 exts) (is_some (target_number t)) f.four aimed)
    (on_kept 5 e t ∙ and_when (has_flag e.marks 0x20) (on_at 5 exts) (is_some e.budget) f.five (number_on 5 exts refl))
    (on_kept 6 e t ∙ and_when (has_flag e.marks 0x40) (on_at 6 exts) (is_some e.timeout) f.last (number_on 6 exts refl))
    ∙ sym (marks_packed exts)
