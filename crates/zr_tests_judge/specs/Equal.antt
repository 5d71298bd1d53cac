-- Two things are found to be one exactly where they are: the laws of `==`.
use Rattle.std.proofs.Common.{◌≡◌, ℕ, true, List, refl, subst, sym, ap, ◌∙◌}
use Rattle.std.specs.Prelude.{◌==◌, ◌&&◌, nat_eq, Bool, Option, Some, None}
use Rattle.std.specs.Option.{option_eq}
use Rattle.std.specs.Bool.{Decides}
use Rattle.std.specs.Cmp.{IsPartialEquivalence}
use Rattle.std.specs.Cmp.Lexicographic.{bytes_decides, nat_list_eq_equiv}
use Rattle.std.proofs.lemmas.Bool.{false≢true, and_parts, and_from, eqb-true}
use Rattle.std.proofs.lemmas.Bool.Decides.{same_from_decides}
use Rattle.zr_lists.proofs.Numbers.{same_number}
use Rattle.zr_msg.specs.declared.content.Parts.{Parts}
use Rattle.zr_msg.specs.declared.extras.Extras.{Extras}
use Rattle.zr_msg.specs.declared.msg.Target.{Target}
use Rattle.zr_msg.specs.declared.msg.Target.TheVariants.{Best, All, Complete}
use Rattle.zr_guarantee.specs.Item.{Item, Carried, Sample, Query, Reply}
use Rattle.zr_tests_judge.specs.Same.{is_same_bytes, is_same_extras, is_same_content, is_same_target, is_same_carried, is_same, is_same_reply, is_same_key_body}

-- ---- what is found to be one

same_bytes : (x y : List ℕ) → is_same_bytes x y ≡ true → x ≡ y
same_bytes x y h = (bytes_decides x y).0 h

same_option : {X : Type 0} (same : X → X → Bool) → ((x y : X) → same x y ≡ true → x ≡ y) → (o p : Option X) → option_eq same o p ≡ true → o ≡ p
same_option same f None None h = refl
same_option same f None (Some y) h = absurd (false≢true h)
same_option same f (Some x) None h = absurd (false≢true h)
same_option same f (Some x) (Some y) h = ap Some (f x y h)

same_extras : (x y : Extras) → is_same_extras x y ≡ true → x ≡ y
same_extras x y h =
    let qos = and_parts (option_eq nat_eq x.qos y.qos)
    (option_eq is_same_bytes x.stamp y.stamp && (option_eq nat_eq x.budget y.budget && (option_eq nat_eq x.timeout y.timeout && (option_eq is_same_bytes x.responder y.responder && x.marks == y.marks)))) h in
    let stamp = and_parts (option_eq is_same_bytes x.stamp y.stamp)
    (option_eq nat_eq x.budget y.budget && (option_eq nat_eq x.timeout y.timeout && (option_eq is_same_bytes x.responder y.responder && x.marks == y.marks))) qos.1 in
    let budget = and_parts (option_eq nat_eq x.budget y.budget) (option_eq nat_eq x.timeout y.timeout && (option_eq is_same_bytes x.responder y.responder && x.marks == y.marks)) stamp.1 in
    let timeout = and_parts (option_eq nat_eq x.timeout y.timeout) (option_eq is_same_bytes x.responder y.responder && x.marks == y.marks) budget.1 in
    let responder = and_parts (option_eq is_same_bytes x.responder y.responder) (x.marks == y.marks) timeout.1 in
    equal (same_option nat_eq eqb-true x.qos y.qos qos.0) (same_option is_same_bytes same_bytes x.stamp y.stamp stamp.0) (same_option nat_eq eqb-true x.budget y.budget budget.0)
    (same_option nat_eq eqb-true x.timeout y.timeout timeout.0) (same_option is_same_bytes same_bytes x.responder y.responder responder.0) (eqb-true x.marks y.marks responder.1)
  where
    equal : x.qos ≡ y.qos → x.stamp ≡ y.stamp → x.budget ≡ y.budget → x.timeout ≡ y.timeout → x.responder ≡ y.responder → x.marks ≡ y.marks → x ≡ y
    equal eq es eb et er em i = record { qos = eq i; stamp = es i; budget = eb i; timeout = et i; responder = er i; marks = em i }

same_content : (x y : Parts) → is_same_content x y ≡ true → x ≡ y
same_content x y h =
    let key = and_parts (is_same_bytes x.key y.key) (is_same_extras x.extras y.extras && is_same_bytes x.body y.body) h in
    let extras = and_parts (is_same_extras x.extras y.extras) (is_same_bytes x.body y.body) key.1 in
    equal (same_bytes x.key y.key key.0) (same_extras x.extras y.extras extras.0) (same_bytes x.body y.body extras.1)
  where
    equal : x.key ≡ y.key → x.extras ≡ y.extras → x.body ≡ y.body → x ≡ y
    equal ek ee eb i = record { key = ek i; extras = ee i; body = eb i }

same_target : (x y : Target) → is_same_target x y ≡ true → x ≡ y
same_target Best Best h = refl
same_target Best All h = absurd (false≢true h)
same_target Best Complete h = absurd (false≢true h)
same_target All Best h = absurd (false≢true h)
same_target All All h = refl
same_target All Complete h = absurd (false≢true h)
same_target Complete Best h = absurd (false≢true h)
same_target Complete All h = absurd (false≢true h)
same_target Complete Complete h = refl

same_carried : (x y : Carried) → is_same_carried x y ≡ true → x ≡ y
same_carried (Sample x) (Sample y) h = ap Sample (same_content x y h)
same_carried (Sample x) (Query target y) h = absurd (false≢true h)
same_carried (Query target x) (Sample y) h = absurd (false≢true h)
same_carried (Query target x) (Query other y) h =
    let parts = and_parts (is_same_target target other) (is_same_content x y) h in
    ap (λ t. Query t x) (same_target target other parts.0) ∙ ap (Query other) (same_content x y parts.1)

same_item : (x y : Item) → is_same x y ≡ true → x ≡ y
same_item x y h =
    let parts = and_parts (x.line == y.line) (is_same_carried x.carried y.carried) h in
    equal (eqb-true x.line y.line parts.0) (same_carried x.carried y.carried parts.1)
  where
    equal : x.line ≡ y.line → x.carried ≡ y.carried → x ≡ y
    equal el ec i = record { line = el i; carried = ec i }

same_reply : (x y : Reply) → is_same_reply x y ≡ true → x ≡ y
same_reply x y h =
    let parts = and_parts (x.line == y.line) (x.number == y.number && is_same_content x.content y.content) h in
    let more = and_parts (x.number == y.number) (is_same_content x.content y.content) parts.1 in
    equal (eqb-true x.line y.line parts.0) (eqb-true x.number y.number more.0) (same_content x.content y.content more.1)
  where
    equal : x.line ≡ y.line → x.number ≡ y.number → x.content ≡ y.content → x ≡ y
    equal el en ec i = record { line = el i; number = en i; content = ec i }

same_key_body : (x y : List ℕ × List ℕ) → is_same_key_body x y ≡ true → x ≡ y
same_key_body x y h =
    let parts = and_parts (is_same_bytes x.0 y.0) (is_same_bytes x.1 y.1) h in
    ap (λ key. (key, x.1)) (same_bytes x.0 y.0 parts.0) ∙ ap (λ body. (y.0, body)) (same_bytes x.1 y.1 parts.1)

-- ---- each with itself

option_itself : {X : Type 0} (same : X → X → Bool) → ((x : X) → same x x ≡ true) → (o : Option X) → option_eq same o o ≡ true
option_itself same f None = refl
option_itself same f (Some x) = f x

extras_itself : (x : Extras) → is_same_extras x x ≡ true
extras_itself x =
    and_from _ _ (option_itself nat_eq same_number x.qos) (and_from _ _ (option_itself is_same_bytes nat_list_eq_equiv.refl x.stamp)
    (and_from _ _ (option_itself nat_eq same_number x.budget) (and_from _ _ (option_itself nat_eq same_number x.timeout)
    (and_from _ _ (option_itself is_same_bytes nat_list_eq_equiv.refl x.responder) (same_number x.marks)))))

content_itself : (x : Parts) → is_same_content x x ≡ true
content_itself x = and_from _ _ (nat_list_eq_equiv.refl x.key) (and_from _ _ (extras_itself x.extras) (nat_list_eq_equiv.refl x.body))

target_itself : (t : Target) → is_same_target t t ≡ true
target_itself Best = refl
target_itself All = refl
target_itself Complete = refl

carried_itself : (x : Carried) → is_same_carried x x ≡ true
carried_itself (Sample content) = content_itself content
carried_itself (Query target content) = and_from _ _ (target_itself target) (content_itself content)

item_itself : (x : Item) → is_same x x ≡ true
item_itself x = and_from _ _ (same_number x.line) (carried_itself x.carried)

reply_itself : (x : Reply) → is_same_reply x x ≡ true
reply_itself x = and_from _ _ (same_number x.line) (and_from _ _ (same_number x.number) (content_itself x.content))

key_body_itself : (x : List ℕ × List ℕ) → is_same_key_body x x ≡ true
key_body_itself x = and_from _ _ (nat_list_eq_equiv.refl x.0) (nat_list_eq_equiv.refl x.1)

-- ---- both ways, and the laws

pub one_item : (x y : Item) → Decides (is_same x y) (x ≡ y)
one_item x y = (same_item x y, λ e. subst (λ (z : Item). is_same x z ≡ true) e (item_itself x))

pub one_reply : (x y : Reply) → Decides (is_same_reply x y) (x ≡ y)
one_reply x y = (same_reply x y, λ e. subst (λ (z : Reply). is_same_reply x z ≡ true) e (reply_itself x))

pub one_key_body : (x y : List ℕ × List ℕ) → Decides (is_same_key_body x y) (x ≡ y)
one_key_body x y = (same_key_body x y, λ e. subst (λ (z : List ℕ × List ℕ). is_same_key_body x z ≡ true) e (key_body_itself x))

laws : {X : Type 0} (same : X → X → Bool) → ((x y : X) → Decides (same x y) (x ≡ y)) → IsPartialEquivalence same
laws same one = record {
  symm = λ x y. same_from_decides (same x y) (same y x) (one x y) ((λ h. sym ((one y x).0 h)), (λ e. (one y x).1 (sym e)));
  trans = λ x y z h k. (one x z).1 ((one x y).0 h ∙ (one y z).0 k);
}

pub item_laws : IsPartialEquivalence is_same
item_laws = laws is_same one_item

pub reply_laws : IsPartialEquivalence is_same_reply
reply_laws = laws is_same_reply one_reply

pub key_body_laws : IsPartialEquivalence is_same_key_body
key_body_laws = laws is_same_key_body one_key_body
