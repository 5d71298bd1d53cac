-- Bytes that are written and bytes that wait, step by step.
use Rattle.std.proofs.Common.{◌≡◌, ℕ, List, [], ◌++◌, take, drop, Option, Some, None, refl, sym, ap, ◌∙◌, append_assoc}
use Rattle.std.proofs.lemmas.List.{append-nil, take-append-drop}
use Rattle.zr_outside.specs.Told.{Appends, AppendsPrefix, IsAsBefore}
use Rattle.zr_outside.proofs.Appending.{appends_none, appends_both, prefix_behind}
use Rattle.zr_link_writer.specs.Writing.{Carries}

-- what waited was written, and more waits
pub carries_written : (u v : List ℕ) (a b : Option (List ℕ)) → Appends u a b → Carries a b v (u ++ v)
carries_written u v a b h = (u, h, refl)

-- nothing was written
pub carries_joined : (u : List ℕ) (a : Option (List ℕ)) → Carries a a u u
carries_joined u a = ([], appends_none a, refl)

-- some of what waited was written
pub carries_some : (u : List ℕ) (n : ℕ) (a b : Option (List ℕ)) → Appends (take n u) a b → Carries a b (drop n u) u
carries_some u n a b h = (take n u, h, sym (take-append-drop n u))

pub carries_as_before : (u : List ℕ) (a b : Option (List ℕ)) → IsAsBefore a b → Carries a b u u
carries_as_before u None b h = ([], tt, refl)
carries_as_before u (Some held) b h = ([], h ∙ ap Some (sym (append-nil held)), refl)

-- more is joined behind what waits
pub carries_put : (u v more : List ℕ) (a b : Option (List ℕ)) → Carries a b v u → Carries a b (v ++ more) (u ++ more)
carries_put u v more a b p = (p.0, p.1, ap (λ z. z ++ more) p.2 ∙ append_assoc p.0 v more)

-- a step behind others: what waited, and more behind it, is written or waits
pub carries_then : (a b c : Option (List ℕ)) (waiting waiting' text more : List ℕ) → Carries a b waiting text
    → Carries b c waiting' (waiting ++ more) → Carries a c waiting' (text ++ more)
carries_then a b c waiting waiting' text more p q = (
  p.0 ++ q.0,
  appends_both p.0 q.0 a b c p.1 q.1,
  ap (λ z. z ++ more) p.2 ∙ (append_assoc p.0 waiting more ∙ (ap (λ z. p.0 ++ z) q.2 ∙ sym (append_assoc p.0 q.0 waiting'))),
)

-- what waited is written or waits
pub carries_on : (a b c : Option (List ℕ)) (waiting waiting' text : List ℕ) → Carries a b waiting text → Carries b c waiting' waiting
    → Carries a c waiting' text
carries_on a b c waiting waiting' text p q = (
  p.0 ++ q.0,
  appends_both p.0 q.0 a b c p.1 q.1,
  p.2 ∙ (ap (λ z. p.0 ++ z) q.2 ∙ sym (append_assoc p.0 q.0 waiting')),
)

-- all that waited, and more behind it, is written
pub carries_all : (a b c : Option (List ℕ)) (waiting text more : List ℕ) → Carries a b waiting text
    → Appends (waiting ++ more) b c → Appends (text ++ more) a c
carries_all a b c waiting text more p h =
    let e : text ++ more ≡ p.0 ++ (waiting ++ more) = ap (λ z. z ++ more) p.2 ∙ append_assoc p.0 waiting more in
    rw e (appends_both p.0 (waiting ++ more) a b c p.1 h)

-- a prefix of what waited, and of more behind it, is written
pub carries_prefix : (a b c : Option (List ℕ)) (waiting text more : List ℕ) → Carries a b waiting text
    → AppendsPrefix (waiting ++ more) b c → AppendsPrefix (text ++ more) a c
carries_prefix a b c waiting text more p h =
    let e : text ++ more ≡ p.0 ++ (waiting ++ more) = ap (λ z. z ++ more) p.2 ∙ append_assoc p.0 waiting more in
    rw e (prefix_behind p.0 (waiting ++ more) a b c p.1 h)

-- all that waited is written
pub carries_flushed : (a b c : Option (List ℕ)) (waiting text : List ℕ) → Carries a b waiting text → Appends waiting b c → Carries a c [] text
carries_flushed a b c waiting text p h = (p.0 ++ waiting, appends_both p.0 waiting a b c p.1 h, p.2 ∙ sym (append-nil (p.0 ++ waiting)))

-- nothing waited, and more is written
pub carries_sent : (a b c : Option (List ℕ)) (text more : List ℕ) → Carries a b [] text → Appends more b c → Carries a c [] (text ++ more)
carries_sent a b c text more p h =
    let e : text ≡ p.0 = p.2 ∙ append-nil p.0 in
    (p.0 ++ more, appends_both p.0 more a b c p.1 h, ap (λ z. z ++ more) e ∙ sym (append-nil (p.0 ++ more)))
