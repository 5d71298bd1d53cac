-- The extensions that are written of a message: they ascend, each has a spelling, and they say what the message has.
use Rattle.std.proofs.Common.{◌≡◌, ℕ, ◌+◌, ◌<◌, ◌≤◌, Bool, true, false, List, [], ◌∷◌, ◌++◌, append_assoc, Option, Some, None, Ok, refl, sym, ap, subst, ◌∙◌, arith, eqb, inl, inr}
use Rattle.std.specs.Prelude.{nat_le, fold, is_some, ◌||◌}
use Rattle.std.specs.List.{list_all, AllByRecursion}
use Rattle.std.proofs.lemmas.Bool.{and_parts, eqb-true, le-leb, leb-true, cases_Bool}
use Rattle.zr_bytes.specs.Flag.{has_flag}
use Rattle.zr_ext.specs.declared.ext.Ext.{Ext}
use Rattle.zr_ext.specs.declared.ext.Form.{Form}
use Rattle.zr_ext.specs.declared.ext.Form.TheVariants as form
use Rattle.zr_ext.specs.Header.{is_known}
use Rattle.zr_ext.specs.Chain.{knows, is_repeated, lasts}
use Rattle.zr_ext.specs.Writing.{Fits, ascends_from}
use Rattle.zr_msg.specs.declared.extras.Extras.{Extras}
use Rattle.zr_msg.specs.declared.msg.Target.{Target}
use Rattle.zr_msg.specs.declared.msg.Target.TheVariants.{Best, All, Complete}
use Rattle.zr_msg.specs.declared.peer.Role.{Role}
use Rattle.zr_msg.specs.declared.peer.Role.TheVariants.{Client, Router}
use Rattle.zr_net.specs.Exts.{push_known, request_known, response_known, final_known, number_at, bytes_at, with_mark, marks_of, extras_of, target_of}
use Rattle.zr_net.specs.Writing.{number_ext, bytes_ext, target_number, kept_exts, has_any, TextFits, NumberFits, NumbersFit, TreeFits}

-- the extensions from each one on
abbrev from_7 : Option (List ℕ) → List Ext
from_7 tree = bytes_ext 7 true tree

abbrev from_6 : Extras → Option (List ℕ) → List Ext
from_6 e tree = number_ext 6 (has_flag e.marks 0x40) e.timeout ++ from_7 tree

abbrev from_5 : Extras → Option (List ℕ) → List Ext
from_5 e tree = number_ext 5 (has_flag e.marks 0x20) e.budget ++ from_6 e tree

abbrev from_4 : Extras → Target → Option (List ℕ) → List Ext
from_4 e target tree = number_ext 4 (has_flag e.marks 0x10) (target_number target) ++ from_5 e tree

abbrev from_3 : Extras → Target → Option (List ℕ) → List Ext
from_3 e target tree = bytes_ext 3 (has_flag e.marks 0x08) e.responder ++ from_4 e target tree

abbrev from_2 : Extras → Target → Option (List ℕ) → List Ext
from_2 e target tree = bytes_ext 2 (has_flag e.marks 0x04) e.stamp ++ from_3 e target tree

-- ---- whether there is one

any_append : (xs ys : List Ext) → has_any (xs ++ ys) ≡ (has_any xs || has_any ys)
any_append [] ys = refl
any_append (x ∷ xs) ys = refl

any_number : (id : ℕ) (mandatory : Bool) (n : Option ℕ) → has_any (number_ext id mandatory n) ≡ is_some n
any_number id mandatory None = refl
any_number id mandatory (Some n) = refl

any_bytes : (id : ℕ) (mandatory : Bool) (b : Option (List ℕ)) → has_any (bytes_ext id mandatory b) ≡ is_some b
any_bytes id mandatory None = refl
any_bytes id mandatory (Some b) = refl

number_more : (id : ℕ) (mandatory : Bool) (n : Option ℕ) (exts : List Ext) (more : Bool) → has_any exts ≡ more → has_any (number_ext id mandatory n ++ exts) ≡ (is_some n || more)
number_more id mandatory n exts more e =
    any_append (number_ext id mandatory n) exts ∙ ap (λ b. b || has_any exts) (any_number id mandatory n) ∙ ap (λ b. is_some n || b) e

bytes_more : (id : ℕ) (mandatory : Bool) (b : Option (List ℕ)) (exts : List Ext) (more : Bool) → has_any exts ≡ more → has_any (bytes_ext id mandatory b ++ exts) ≡ (is_some b || more)
bytes_more id mandatory b exts more e =
    any_append (bytes_ext id mandatory b) exts ∙ ap (λ z. z || has_any exts) (any_bytes id mandatory b) ∙ ap (λ z. is_some b || z) e

-- a message has an extension where one of these is there
pub extended_by : (e : Extras) (target : Target) (tree : Option (List ℕ)) → has_any (kept_exts e target tree)
    ≡ (is_some e.qos || (is_some e.stamp || (is_some e.responder || (is_some (target_number target) || (is_some e.budget || (is_some e.timeout || is_some tree))))))
extended_by e target tree =
    number_more 1 (has_flag e.marks 0x02) e.qos (from_2 e target tree) _
    (bytes_more 2 (has_flag e.marks 0x04) e.stamp (from_3 e target tree) _
    (bytes_more 3 (has_flag e.marks 0x08) e.responder (from_4 e target tree) _
    (number_more 4 (has_flag e.marks 0x10) (target_number target) (from_5 e tree) _
    (number_more 5 (has_flag e.marks 0x20) e.budget (from_6 e tree) _
    (number_more 6 (has_flag e.marks 0x40) e.timeout (from_7 tree) _ (any_bytes 7 true tree))))))

-- ---- they ascend

ascends_more : (a b : ℕ) (exts : List Ext) → a ≤ b → ascends_from b exts ≡ true → ascends_from a exts ≡ true
ascends_more a b [] le h = refl
ascends_more a b (ext ∷ exts) le h =
    let both = and_parts (nat_le b ext.id) (ascends_from (ext.id + 1) exts) h in
    let first : nat_le a ext.id ≡ true = le-leb a ext.id (omega (arith, leb-true b ext.id both.0)) in
    rw (first, both.1) refl

number_ascends : (least id : ℕ) (m : Bool) (o : Option ℕ) (exts : List Ext) → least ≤ id → ascends_from (id + 1) exts ≡ true → ascends_from least (number_ext id m o ++ exts) ≡ true
number_ascends least id m None exts le h = ascends_more least (id + 1) exts (omega arith) h
number_ascends least id m (Some n) exts le h = rw (le-leb least id le, h) refl

bytes_ascend : (least id : ℕ) (m : Bool) (o : Option (List ℕ)) (exts : List Ext) → least ≤ id → ascends_from (id + 1) exts ≡ true → ascends_from least (bytes_ext id m o ++ exts) ≡ true
bytes_ascend least id m None exts le h = ascends_more least (id + 1) exts (omega arith) h
bytes_ascend least id m (Some b) exts le h = rw (le-leb least id le, h) refl

tree_ascends : (m : Bool) (o : Option (List ℕ)) → ascends_from 7 (bytes_ext 7 m o) ≡ true
tree_ascends m None = refl
tree_ascends m (Some b) = refl

pub exts_ascend : (e : Extras) (target : Target) (tree : Option (List ℕ)) → ascends_from 0 (kept_exts e target tree) ≡ true
exts_ascend e target tree =
    number_ascends 0 1 (has_flag e.marks 0x02) e.qos (from_2 e target tree) (omega arith)
    (bytes_ascend 2 2 (has_flag e.marks 0x04) e.stamp (from_3 e target tree) (omega arith)
    (bytes_ascend 3 3 (has_flag e.marks 0x08) e.responder (from_4 e target tree) (omega arith)
    (number_ascends 4 4 (has_flag e.marks 0x10) (target_number target) (from_5 e tree) (omega arith)
    (number_ascends 5 5 (has_flag e.marks 0x20) e.budget (from_6 e tree) (omega arith)
    (number_ascends 6 6 (has_flag e.marks 0x40) e.timeout (from_7 tree) (omega arith)
    (tree_ascends true tree))))))

-- extensions that ascend don't repeat one another
above : (ext : Ext) (least : ℕ) (exts : List Ext) → ext.id < least → ascends_from least exts ≡ true → is_repeated ext exts ≡ false
above ext least [] lt h = refl
above ext least (other ∷ exts) lt h =
    let both = and_parts (nat_le least other.id) (ascends_from (other.id + 1) exts) h in
    let le : least ≤ other.id = leb-true least other.id both.0 in
    let apart : eqb other.id ext.id ≡ false = not_equal other.id ext.id (omega arith) in
    let rest : is_repeated ext exts ≡ false = above ext (other.id + 1) exts (omega arith) both.1 in
    rw (apart, rest) refl
  where
    not_equal : (a b : ℕ) → b < a → eqb a b ≡ false
    not_equal a b lt = elim (cases_Bool (eqb a b)) [ inl same ↦ absurd (omega (arith, eqb-true a b same)) | inr apart ↦ apart ]

pub ascending_lasts : (least : ℕ) (exts : List Ext) → ascends_from least exts ≡ true → lasts exts ≡ exts
ascending_lasts least [] h = refl
ascending_lasts least (ext ∷ exts) h =
    let both = and_parts (nat_le least ext.id) (ascends_from (ext.id + 1) exts) h in
    let alone : is_repeated ext exts ≡ false = above ext (ext.id + 1) exts (omega arith) both.1 in
    let rest : lasts exts ≡ exts = ascending_lasts (ext.id + 1) exts both.1 in
    rw (alone, rest) refl

-- ---- which are known

known_number : (known : List (ℕ × Form)) (id : ℕ) (m : Bool) (o : Option ℕ) (exts : List Ext) → is_known known id form.Number ≡ true → list_all (λ e. knows known e) exts ≡ true → list_all (λ e. knows known e) (number_ext id m o ++ exts) ≡ true
known_number known id m None exts k h = h
known_number known id m (Some n) exts k h = rw (k, h) refl

known_bytes : (known : List (ℕ × Form)) (id : ℕ) (m : Bool) (o : Option (List ℕ)) (exts : List Ext) → is_known known id form.Bytes ≡ true → list_all (λ e. knows known e) exts ≡ true → list_all (λ e. knows known e) (bytes_ext id m o ++ exts) ≡ true
known_bytes known id m None exts k h = h
known_bytes known id m (Some b) exts k h = rw (k, h) refl

-- an extension that is not there wants not to be known
pub absent_number : (known : List (ℕ × Form)) (id : ℕ) (m : Bool) (o : Option ℕ) (exts : List Ext) → o ≡ None → list_all (λ e. knows known e) exts ≡ true → list_all (λ e. knows known e) (number_ext id m o ++ exts) ≡ true
absent_number known id m o exts none h = subst (λ (p : Option ℕ). list_all (λ e. knows known e) (number_ext id m p ++ exts) ≡ true) (sym none) h

pub absent_bytes : (known : List (ℕ × Form)) (id : ℕ) (m : Bool) (o : Option (List ℕ)) (exts : List Ext) → o ≡ None → list_all (λ e. knows known e) exts ≡ true → list_all (λ e. knows known e) (bytes_ext id m o ++ exts) ≡ true
absent_bytes known id m o exts none h = subst (λ (p : Option (List ℕ)). list_all (λ e. knows known e) (bytes_ext id m p ++ exts) ≡ true) (sym none) h

-- ---- what they say

skip_number : (i id : ℕ) (m : Bool) (o : Option ℕ) (exts : List Ext) → eqb id i ≡ false → number_at i (number_ext id m o ++ exts) ≡ number_at i exts
skip_number i id m None exts apart = refl
skip_number i id m (Some n) exts apart = rw apart refl

skip_bytes : (i id : ℕ) (m : Bool) (o : Option (List ℕ)) (exts : List Ext) → eqb id i ≡ false → number_at i (bytes_ext id m o ++ exts) ≡ number_at i exts
skip_bytes i id m None exts apart = refl
skip_bytes i id m (Some b) exts apart = rw apart refl

bytes_skip_number : (i id : ℕ) (m : Bool) (o : Option ℕ) (exts : List Ext) → eqb id i ≡ false → bytes_at i (number_ext id m o ++ exts) ≡ bytes_at i exts
bytes_skip_number i id m None exts apart = refl
bytes_skip_number i id m (Some n) exts apart = rw apart refl

bytes_skip : (i id : ℕ) (m : Bool) (o : Option (List ℕ)) (exts : List Ext) → eqb id i ≡ false → bytes_at i (bytes_ext id m o ++ exts) ≡ bytes_at i exts
bytes_skip i id m None exts apart = refl
bytes_skip i id m (Some b) exts apart = rw apart refl

hit_number : (id : ℕ) (m : Bool) (o : Option ℕ) (exts : List Ext) → eqb id id ≡ true → number_at id exts ≡ None → number_at id (number_ext id m o ++ exts) ≡ o
hit_number id m None exts same none = none
hit_number id m (Some n) exts same none = rw same refl

hit_bytes : (id : ℕ) (m : Bool) (o : Option (List ℕ)) (exts : List Ext) → eqb id id ≡ true → bytes_at id exts ≡ None → bytes_at id (bytes_ext id m o ++ exts) ≡ o
hit_bytes id m None exts same none = none
hit_bytes id m (Some b) exts same none = rw same refl

no_number : (i : ℕ) (tree : Option (List ℕ)) → eqb 7 i ≡ false → number_at i (bytes_ext 7 true tree) ≡ None
no_number i None apart = refl
no_number i (Some b) apart = rw apart refl

no_bytes : (i : ℕ) (tree : Option (List ℕ)) → eqb 7 i ≡ false → bytes_at i (bytes_ext 7 true tree) ≡ None
no_bytes i None apart = refl
no_bytes i (Some b) apart = rw apart refl

tree_there : (tree : Option (List ℕ)) → bytes_at 7 (bytes_ext 7 true tree) ≡ tree
tree_there None = refl
tree_there (Some b) = refl

pub qos_back : (e : Extras) (target : Target) (tree : Option (List ℕ)) → number_at 1 (kept_exts e target tree) ≡ e.qos
qos_back e target tree =
    hit_number 1 (has_flag e.marks 0x02) e.qos (from_2 e target tree) refl (skip_bytes 1 2 (has_flag e.marks 0x04) e.stamp (from_3 e target tree) refl ∙ skip_bytes 1 3 (has_flag e.marks 0x08) e.responder (from_4 e target tree) refl ∙ skip_number 1 4 (has_flag e.marks 0x10) (target_number target) (from_5 e tree) refl ∙ skip_number 1 5 (has_flag e.marks 0x20) e.budget (from_6 e tree) refl ∙ skip_number 1 6 (has_flag e.marks 0x40) e.timeout (from_7 tree) refl ∙ no_number 1 tree refl)

pub stamp_back : (e : Extras) (target : Target) (tree : Option (List ℕ)) → bytes_at 2 (kept_exts e target tree) ≡ e.stamp
stamp_back e target tree =
    bytes_skip_number 2 1 (has_flag e.marks 0x02) e.qos (from_2 e target tree) refl
    ∙ hit_bytes 2 (has_flag e.marks 0x04) e.stamp (from_3 e target tree) refl (bytes_skip 2 3 (has_flag e.marks 0x08) e.responder (from_4 e target tree) refl ∙ bytes_skip_number 2 4 (has_flag e.marks 0x10) (target_number target) (from_5 e tree) refl ∙ bytes_skip_number 2 5 (has_flag e.marks 0x20) e.budget (from_6 e tree) refl ∙ bytes_skip_number 2 6 (has_flag e.marks 0x40) e.timeout (from_7 tree) refl ∙ no_bytes 2 tree refl)

pub responder_back : (e : Extras) (target : Target) (tree : Option (List ℕ)) → bytes_at 3 (kept_exts e target tree) ≡ e.responder
responder_back e target tree =
    bytes_skip_number 3 1 (has_flag e.marks 0x02) e.qos (from_2 e target tree) refl
    ∙ bytes_skip 3 2 (has_flag e.marks 0x04) e.stamp (from_3 e target tree) refl
    ∙ hit_bytes 3 (has_flag e.marks 0x08) e.responder (from_4 e target tree) refl (bytes_skip_number 3 4 (has_flag e.marks 0x10) (target_number target) (from_5 e tree) refl ∙ bytes_skip_number 3 5 (has_flag e.marks 0x20) e.budget (from_6 e tree) refl ∙ bytes_skip_number 3 6 (has_flag e.marks 0x40) e.timeout (from_7 tree) refl ∙ no_bytes 3 tree refl)

number_of_target : (e : Extras) (target : Target) (tree : Option (List ℕ)) → number_at 4 (kept_exts e target tree) ≡ target_number target
number_of_target e target tree =
    skip_number 4 1 (has_flag e.marks 0x02) e.qos (from_2 e target tree) refl
    ∙ skip_bytes 4 2 (has_flag e.marks 0x04) e.stamp (from_3 e target tree) refl
    ∙ skip_bytes 4 3 (has_flag e.marks 0x08) e.responder (from_4 e target tree) refl
    ∙ hit_number 4 (has_flag e.marks 0x10) (target_number target) (from_5 e tree) refl (skip_number 4 5 (has_flag e.marks 0x20) e.budget (from_6 e tree) refl ∙ skip_number 4 6 (has_flag e.marks 0x40) e.timeout (from_7 tree) refl ∙ no_number 4 tree refl)

target_is : (target : Target) → target_of (target_number target) ≡ Ok target
target_is Best = refl
target_is All = refl
target_is Complete = refl

pub target_back : (e : Extras) (target : Target) (tree : Option (List ℕ)) → target_of (number_at 4 (kept_exts e target tree)) ≡ Ok target
target_back e target tree = ap target_of (number_of_target e target tree) ∙ target_is target

pub budget_back : (e : Extras) (target : Target) (tree : Option (List ℕ)) → number_at 5 (kept_exts e target tree) ≡ e.budget
budget_back e target tree =
    skip_number 5 1 (has_flag e.marks 0x02) e.qos (from_2 e target tree) refl
    ∙ skip_bytes 5 2 (has_flag e.marks 0x04) e.stamp (from_3 e target tree) refl
    ∙ skip_bytes 5 3 (has_flag e.marks 0x08) e.responder (from_4 e target tree) refl
    ∙ skip_number 5 4 (has_flag e.marks 0x10) (target_number target) (from_5 e tree) refl
    ∙ hit_number 5 (has_flag e.marks 0x20) e.budget (from_6 e tree) refl (skip_number 5 6 (has_flag e.marks 0x40) e.timeout (from_7 tree) refl ∙ no_number 5 tree refl)

pub timeout_back : (e : Extras) (target : Target) (tree : Option (List ℕ)) → number_at 6 (kept_exts e target tree) ≡ e.timeout
timeout_back e target tree =
    skip_number 6 1 (has_flag e.marks 0x02) e.qos (from_2 e target tree) refl
    ∙ skip_bytes 6 2 (has_flag e.marks 0x04) e.stamp (from_3 e target tree) refl
    ∙ skip_bytes 6 3 (has_flag e.marks 0x08) e.responder (from_4 e target tree) refl
    ∙ skip_number 6 4 (has_flag e.marks 0x10) (target_number target) (from_5 e tree) refl
    ∙ skip_number 6 5 (has_flag e.marks 0x20) e.budget (from_6 e tree) refl
    ∙ hit_number 6 (has_flag e.marks 0x40) e.timeout (from_7 tree) refl (no_number 6 tree refl)

pub tree_back : (e : Extras) (target : Target) (tree : Option (List ℕ)) → bytes_at 7 (kept_exts e target tree) ≡ tree
tree_back e target tree =
    bytes_skip_number 7 1 (has_flag e.marks 0x02) e.qos (from_2 e target tree) refl
    ∙ bytes_skip 7 2 (has_flag e.marks 0x04) e.stamp (from_3 e target tree) refl
    ∙ bytes_skip 7 3 (has_flag e.marks 0x08) e.responder (from_4 e target tree) refl
    ∙ bytes_skip_number 7 4 (has_flag e.marks 0x10) (target_number target) (from_5 e tree) refl
    ∙ bytes_skip_number 7 5 (has_flag e.marks 0x20) e.budget (from_6 e tree) refl
    ∙ bytes_skip_number 7 6 (has_flag e.marks 0x40) e.timeout (from_7 tree) refl
    ∙ tree_there tree

-- the tree's root is not kept, and has no mark
mark_again : (xs ys : List Ext) → ((m : ℕ) → fold with_mark m xs ≡ fold with_mark m ys) → (front : List Ext) (m : ℕ) → fold with_mark m (front ++ xs) ≡ fold with_mark m (front ++ ys)
mark_again xs ys same [] m = same m
mark_again xs ys same (e ∷ front) m = mark_again xs ys same front (with_mark m e)

tree_unmarked : (tree : Option (List ℕ)) (m : ℕ) → fold with_mark m (bytes_ext 7 true tree) ≡ fold with_mark m (bytes_ext 7 true None)
tree_unmarked None m = refl
tree_unmarked (Some b) m = refl

pub marks_alone : (e : Extras) (target : Target) (tree : Option (List ℕ)) → marks_of (kept_exts e target tree) ≡ marks_of (kept_exts e target None)
marks_alone e target tree =
    let six = mark_again (from_7 tree) (from_7 None) (tree_unmarked tree) (number_ext 6 (has_flag e.marks 0x40) e.timeout) in
    let five = mark_again (from_6 e tree) (from_6 e None) six (number_ext 5 (has_flag e.marks 0x20) e.budget) in
    let four = mark_again (from_5 e tree) (from_5 e None) five (number_ext 4 (has_flag e.marks 0x10) (target_number target)) in
    let three = mark_again (from_4 e target tree) (from_4 e target None) four (bytes_ext 3 (has_flag e.marks 0x08) e.responder) in
    let two = mark_again (from_3 e target tree) (from_3 e target None) three (bytes_ext 2 (has_flag e.marks 0x04) e.stamp) in
    mark_again (from_2 e target tree) (from_2 e target None) two (number_ext 1 (has_flag e.marks 0x02) e.qos) 0

pub extras_back : (e : Extras) (target : Target) (tree : Option (List ℕ)) → marks_of (kept_exts e target None) ≡ e.marks → extras_of (kept_exts e target tree) ≡ e
extras_back e target tree marked =
    let m : marks_of (kept_exts e target tree) ≡ e.marks = marks_alone e target tree ∙ marked in
    λ i. record { qos = (qos_back e target tree) i; stamp = (stamp_back e target tree) i; budget = (budget_back e target tree) i; timeout = (timeout_back e target tree) i; responder = (responder_back e target tree) i; marks = m i }

-- ---- each has a spelling

number_fits : (id : ℕ) (m : Bool) (o : Option ℕ) (exts : List Ext) → id < 16 → NumberFits o → AllByRecursion Fits exts → AllByRecursion Fits (number_ext id m o ++ exts)
number_fits id m None exts lt n h = h
number_fits id m (Some k) exts lt n h = ((lt, n), h)

bytes_fit : (id : ℕ) (m : Bool) (o : Option (List ℕ)) (exts : List Ext) → id < 16 → TextFits o → AllByRecursion Fits exts → AllByRecursion Fits (bytes_ext id m o ++ exts)
bytes_fit id m None exts lt t h = h
bytes_fit id m (Some b) exts lt t h = ((lt, t), h)

target_fits : (target : Target) → NumberFits (target_number target)
target_fits Best = tt
target_fits All = omega arith
target_fits Complete = omega arith

tree_fits : (tree : Option (List ℕ)) → TextFits tree → AllByRecursion Fits (bytes_ext 7 true tree)
tree_fits None t = tt
tree_fits (Some b) t = ((omega arith, t), tt)

pub exts_fit : (e : Extras) (target : Target) (tree : Option (List ℕ)) → NumbersFit e → TextFits e.stamp → TextFits e.responder → TextFits tree → AllByRecursion Fits (kept_exts e target tree)
exts_fit e target tree numbers stamp responder root =
    number_fits 1 (has_flag e.marks 0x02) e.qos (from_2 e target tree) (omega arith) numbers.0
    (bytes_fit 2 (has_flag e.marks 0x04) e.stamp (from_3 e target tree) (omega arith) stamp
    (bytes_fit 3 (has_flag e.marks 0x08) e.responder (from_4 e target tree) (omega arith) responder
    (number_fits 4 (has_flag e.marks 0x10) (target_number target) (from_5 e tree) (omega arith) (target_fits target)
    (number_fits 5 (has_flag e.marks 0x20) e.budget (from_6 e tree) (omega arith) numbers.1
    (number_fits 6 (has_flag e.marks 0x40) e.timeout (from_7 tree) (omega arith) numbers.2
    (tree_fits tree root))))))

-- ---- which messages know them

tree_is_known : (role : Role) (tree : Option (List ℕ)) → TreeFits role tree → (known : List (ℕ × Form)) → (role ≡ Router → is_known known 7 form.Bytes ≡ true) → list_all (λ e. knows known e) (bytes_ext 7 true tree) ≡ true
tree_is_known role None t known k = refl
tree_is_known Client (Some b) t known k = absurd t
tree_is_known Router (Some b) t known k = let here : is_known known 7 form.Bytes ≡ true = k refl in rw here refl

in_push : (role : Role) → role ≡ Router → is_known (push_known role) 7 form.Bytes ≡ true
in_push Client e = absurd cc
in_push Router e = refl

in_request : (role : Role) → role ≡ Router → is_known (request_known role) 7 form.Bytes ≡ true
in_request Client e = absurd cc
in_request Router e = refl

pub push_knows : (role : Role) (e : Extras) (tree : Option (List ℕ)) → TreeFits role tree → e.responder ≡ None → e.budget ≡ None → e.timeout ≡ None → list_all (λ x. knows (push_known role) x) (kept_exts e Best tree) ≡ true
push_knows role e tree root responder budget timeout =
    known_number (push_known role) 1 (has_flag e.marks 0x02) e.qos (from_2 e Best tree) refl
    (known_bytes (push_known role) 2 (has_flag e.marks 0x04) e.stamp (from_3 e Best tree) refl
    (absent_bytes (push_known role) 3 (has_flag e.marks 0x08) e.responder (from_4 e Best tree) responder
    (absent_number (push_known role) 5 (has_flag e.marks 0x20) e.budget (from_6 e tree) budget
    (absent_number (push_known role) 6 (has_flag e.marks 0x40) e.timeout (from_7 tree) timeout
    (tree_is_known role tree root (push_known role) (in_push role))))))

pub request_knows : (role : Role) (e : Extras) (target : Target) (tree : Option (List ℕ)) → TreeFits role tree → e.responder ≡ None → list_all (λ x. knows (request_known role) x) (kept_exts e target tree) ≡ true
request_knows role e target tree root responder =
    known_number (request_known role) 1 (has_flag e.marks 0x02) e.qos (from_2 e target tree) refl
    (known_bytes (request_known role) 2 (has_flag e.marks 0x04) e.stamp (from_3 e target tree) refl
    (absent_bytes (request_known role) 3 (has_flag e.marks 0x08) e.responder (from_4 e target tree) responder
    (known_number (request_known role) 4 (has_flag e.marks 0x10) (target_number target) (from_5 e tree) refl
    (known_number (request_known role) 5 (has_flag e.marks 0x20) e.budget (from_6 e tree) refl
    (known_number (request_known role) 6 (has_flag e.marks 0x40) e.timeout (from_7 tree) refl
    (tree_is_known role tree root (request_known role) (in_request role)))))))

pub response_knows : (e : Extras) → e.budget ≡ None → e.timeout ≡ None → list_all (λ x. knows response_known x) (kept_exts e Best None) ≡ true
response_knows e budget timeout =
    known_number response_known 1 (has_flag e.marks 0x02) e.qos (from_2 e Best None) refl
    (known_bytes response_known 2 (has_flag e.marks 0x04) e.stamp (from_3 e Best None) refl
    (known_bytes response_known 3 (has_flag e.marks 0x08) e.responder (from_4 e Best None) refl
    (absent_number response_known 5 (has_flag e.marks 0x20) e.budget (from_6 e None) budget
    (absent_number response_known 6 (has_flag e.marks 0x40) e.timeout (from_7 None) timeout
    refl))))

pub final_knows : (e : Extras) → e.responder ≡ None → e.budget ≡ None → e.timeout ≡ None → list_all (λ x. knows final_known x) (kept_exts e Best None) ≡ true
final_knows e responder budget timeout =
    known_number final_known 1 (has_flag e.marks 0x02) e.qos (from_2 e Best None) refl
    (known_bytes final_known 2 (has_flag e.marks 0x04) e.stamp (from_3 e Best None) refl
    (absent_bytes final_known 3 (has_flag e.marks 0x08) e.responder (from_4 e Best None) responder
    (absent_number final_known 5 (has_flag e.marks 0x20) e.budget (from_6 e None) budget
    (absent_number final_known 6 (has_flag e.marks 0x40) e.timeout (from_7 None) timeout
    refl))))

-- put in two parts and the tree's root
pub kept_in_parts : (e : Extras) (target : Target) (tree : Option (List ℕ))
    → ((number_ext 1 (has_flag e.marks 0x02) e.qos ++ (bytes_ext 2 (has_flag e.marks 0x04) e.stamp ++ bytes_ext 3 (has_flag e.marks 0x08) e.responder))
    ++ (number_ext 4 (has_flag e.marks 0x10) (target_number target) ++ (number_ext 5 (has_flag e.marks 0x20) e.budget ++ number_ext 6 (has_flag e.marks 0x40) e.timeout))) ++ bytes_ext 7 true tree
    ≡ kept_exts e target tree
kept_in_parts e target tree = search append_assoc
