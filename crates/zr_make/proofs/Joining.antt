-- Parts of a script behind one another: one more item of a part, a part behind another, and draws behind draws.
use Rattle.std.proofs.Common.{◌≡◌, ℕ, suc, zero, ◌+◌, ◌-◌, ◌*◌, ◌%◌, ◌<◌, List, [], ◌∷◌, ◌++◌, Option, Result, Ok, Err, arith, refl, sym, ap, subst, ◌∙◌, append_assoc}
use Rattle.std.proofs.lemmas.List.{append-nil}
use Rattle.std.proofs.lemmas.List.Concat.{flat_map-append}
use Rattle.std.specs.List.{flat_map, range_with_len}
use Rattle.std.specs.Result.{IsErr, OnErr, OnOk}
use Rattle.rand_core.specs.Stream.{Stream, next_u32}
use Rattle.zr_outside.specs.Told.{Appends, AppendsPrefix}
use Rattle.zr_outside.proofs.Appending.{appends_both, prefix_more, prefix_behind}
use Rattle.zr_make.specs.declared.error.MakeError.{MakeError}
use Rattle.zr_make.specs.declared.plan.MakePlan.{MakePlan}
use Rattle.zr_make.specs.Draws.{behind, drawn_from, pick}
use Rattle.zr_make.specs.Making.{Makes}
use Rattle.zr_make.specs.Script.{client_lines, link_lines, network, sample_line, script, text_of, traffic}

-- ---- parts

text_both : (xs ys : List (List ℕ)) → text_of (xs ++ ys) ≡ text_of xs ++ text_of ys
text_both xs ys = flat_map-append _ xs ys

-- a part behind another
pub made_then : (r : Result (Unit {0}) MakeError) (xs ys : List (List ℕ)) (a b c : Option (List ℕ)) → Appends (text_of xs) a b → Makes r ys b c
    → Makes r (xs ++ ys) a c
made_then (Ok u) xs ys a b c h k = subst (λ (t : List ℕ). Appends t a c) (sym (text_both xs ys)) (appends_both _ _ a b c h k)
made_then (Err e) xs ys a b c h k = subst (λ (t : List ℕ). AppendsPrefix t a c) (sym (text_both xs ys)) (prefix_behind _ _ a b c h k)

-- a whole part behind another
pub written_then : (xs ys : List (List ℕ)) (a b c : Option (List ℕ)) → Appends (text_of xs) a b → Appends (text_of ys) b c
    → Appends (text_of (xs ++ ys)) a c
written_then xs ys a b c h k = subst (λ (t : List ℕ). Appends t a c) (sym (text_both xs ys)) (appends_both _ _ a b c h k)

-- a part that stopped behind another
pub prefix_then : (xs ys : List (List ℕ)) (a b c : Option (List ℕ)) → Appends (text_of xs) a b → AppendsPrefix (text_of ys) b c
    → AppendsPrefix (text_of (xs ++ ys)) a c
prefix_then xs ys a b c h k = subst (λ (t : List ℕ). AppendsPrefix t a c) (sym (text_both xs ys)) (prefix_behind _ _ a b c h k)

-- a part that stopped, and another that was to come behind it
pub made_no_more : (xs ys : List (List ℕ)) (a b : Option (List ℕ)) → AppendsPrefix (text_of xs) a b → AppendsPrefix (text_of (xs ++ ys)) a b
made_no_more xs ys a b h = subst (λ (t : List ℕ). AppendsPrefix t a b) (sym (text_both xs ys)) (prefix_more _ _ a b h)

-- a call that answers an error has written a prefix
pub made_stopped : (r : Result (Unit {0}) MakeError) (lines : List (List ℕ)) (a b : Option (List ℕ)) → IsErr r → AppendsPrefix (text_of lines) a b
    → Makes r lines a b
made_stopped (Ok u) lines a b e h = absurd (cc)
made_stopped (Err e) lines a b x h = h

-- what was written, by what the call answers
pub on_ok : (r : Result (Unit {0}) MakeError) (lines : List (List ℕ)) (a b : Option (List ℕ)) → Makes r lines a b → OnOk r (Appends (text_of lines) a b)
on_ok (Ok u) lines a b h = h
on_ok (Err e) lines a b h = tt

pub on_err : (r : Result (Unit {0}) MakeError) (lines : List (List ℕ)) (a b : Option (List ℕ)) → Makes r lines a b
    → OnErr r (AppendsPrefix (text_of lines) a b)
on_err (Ok u) lines a b h = tt
on_err (Err e) lines a b h = h

-- ---- items of a part

items_more : (f : ℕ → List (List ℕ)) (a n k : ℕ) → flat_map f (range_with_len a (n + k)) ≡ flat_map f (range_with_len a n) ++ flat_map f (range_with_len (a + n) k)
items_more f a zero k =
    let e : 0 + k ≡ k = omega arith in
    let e' : a + 0 ≡ a = omega arith in
    rw (e, e') refl
items_more f a (suc n) k =
    let e : suc n + k ≡ suc (n + k) = omega arith in
    let e' : a + suc n ≡ a + 1 + n = omega arith in
    rw (e, e') (ap (λ z. f a ++ z) (items_more f (a + 1) n k) ∙ sym (append_assoc (f a) _ _))

item_last : (f : ℕ → List (List ℕ)) (n : ℕ) → flat_map f (range_with_len 0 (n + 1)) ≡ flat_map f (range_with_len 0 n) ++ f n
item_last f n = items_more f 0 n 1 ∙ ap (λ z. flat_map f (range_with_len 0 n) ++ z) (one f (0 + n) ∙ ap f (by n))
  where
    by : (n : ℕ) → 0 + n ≡ n
    by n = omega arith

    one : (f : ℕ → List (List ℕ)) (a : ℕ) → flat_map f (range_with_len a 1) ≡ f a
    one f a = append-nil (f a)

-- one more item
pub item_made : (f : ℕ → List (List ℕ)) (n : ℕ) (lines : List (List ℕ)) (a b c : Option (List ℕ)) → lines ≡ f n
    → Appends (text_of (flat_map f (range_with_len 0 n))) a b → Appends (text_of lines) b c → Appends (text_of (flat_map f (range_with_len 0 (n + 1)))) a c
item_made f n lines a b c e h k =
    subst (λ (t : List (List ℕ)). Appends (text_of t) a c) (sym (item_last f n ∙ ap (λ z. flat_map f (range_with_len 0 n) ++ z) (sym e)))
    (made_then (Ok tt) (flat_map f (range_with_len 0 n)) lines a b c h k)

-- an item at which a part stopped
pub item_stopped : (f : ℕ → List (List ℕ)) (n m : ℕ) (lines : List (List ℕ)) (a b c : Option (List ℕ)) → n < m → lines ≡ f n
    → Appends (text_of (flat_map f (range_with_len 0 n))) a b → AppendsPrefix (text_of lines) b c
    → AppendsPrefix (text_of (flat_map f (range_with_len 0 m))) a c
item_stopped f n m lines a b c lt e h k =
    let all : n + 1 + (m - (n + 1)) ≡ m = omega arith in
    let first : AppendsPrefix (text_of (flat_map f (range_with_len 0 (n + 1)))) a c =
    subst (λ (t : List (List ℕ)). AppendsPrefix (text_of t) a c) (sym (item_last f n ∙ ap (λ z. flat_map f (range_with_len 0 n) ++ z) (sym e)))
    (subst (λ (t : List ℕ). AppendsPrefix t a c) (sym (text_both (flat_map f (range_with_len 0 n)) lines)) (prefix_behind _ _ a b c h k)) in
    subst (λ (t : ℕ). AppendsPrefix (text_of (flat_map f (range_with_len 0 t))) a c) all
    (subst (λ (t : List (List ℕ)). AppendsPrefix (text_of t) a c) (sym (items_more f 0 (n + 1) (m - (n + 1)))) (made_no_more _ _ a c first))

-- ---- draws

-- draws behind draws
pub behind_behind : (stream : Stream) (n k : ℕ) → behind k (behind n stream) ≡ behind (n + k) stream
behind_behind stream n zero =
    let e : n + 0 ≡ n = omega arith in
    rw e refl
behind_behind stream n (suc k) =
    let e : n + suc k ≡ suc (n + k) = omega arith in
    rw e (ap (λ s. (next_u32 s).1) (behind_behind stream n k))

-- one draw more of those behind others
pick_behind : (stream drawn : Stream) (k j i n : ℕ) → stream ≡ behind k drawn → k + j ≡ i → pick stream j n ≡ pick drawn i n
pick_behind stream drawn k j i n e sum =
    ap (λ (z : Stream). (next_u32 (behind j z)).0 % n) e ∙ ap (λ (z : Stream). (next_u32 z).0 % n) (behind_behind drawn k j)
    ∙ ap (λ (z : ℕ). (next_u32 (behind z drawn)).0 % n) sum

-- what is left behind one item more
pub drawn_more : (stream left drawn : Stream) (k j i : ℕ) → stream ≡ behind k drawn → left ≡ behind j stream → k + j ≡ i → left ≡ behind i drawn
drawn_more stream left drawn k j i e d sum =
    d ∙ ap (λ (z : Stream). behind j z) e ∙ behind_behind drawn k j ∙ ap (λ (z : ℕ). behind z drawn) sum

pub link_is : (stream drawn : Stream) (n : ℕ) → stream ≡ behind n drawn
    → link_lines (n + 2) (1 + pick stream 0 (n + 1)) ≡ link_lines (n + 2) (1 + pick drawn n (n + 1))
link_is stream drawn n e = ap (λ (z : ℕ). link_lines (n + 2) (1 + z)) (pick_behind stream drawn n 0 n (n + 1) e (omega arith))

pub client_is : (stream drawn : Stream) (routers n : ℕ) → stream ≡ behind (3 * n) drawn
    → client_lines (n + 1) (1 + pick stream 0 routers) (pick stream 1 4) (pick stream 2 8)
    ≡ client_lines (n + 1) (1 + pick drawn (3 * n) routers) (pick drawn (3 * n + 1) 4) (pick drawn (3 * n + 2) 8)
client_is stream drawn routers n e =
    ap (λ (z : ℕ). client_lines (n + 1) (1 + z) (pick stream 1 4) (pick stream 2 8)) (pick_behind stream drawn (3 * n) 0 (3 * n) routers e (omega arith))
    ∙ ap (λ (z : ℕ). client_lines (n + 1) (1 + pick drawn (3 * n) routers) z (pick stream 2 8)) (pick_behind stream drawn (3 * n) 1 (3 * n + 1) 4 e refl)
    ∙ ap (λ (z : ℕ). client_lines (n + 1) (1 + pick drawn (3 * n) routers) (pick drawn (3 * n + 1) 4) z) (pick_behind stream drawn (3 * n) 2 (3 * n + 2) 8 e refl)

pub sample_is : (stream drawn : Stream) (clients n : ℕ) → stream ≡ behind (2 * n) drawn
    → sample_line (1 + pick stream 0 clients) (pick stream 1 8) (n + 1) ∷ []
    ≡ sample_line (1 + pick drawn (2 * n) clients) (pick drawn (2 * n + 1) 8) (n + 1) ∷ []
sample_is stream drawn clients n e =
    ap (λ (z : ℕ). sample_line (1 + z) (pick stream 1 8) (n + 1) ∷ []) (pick_behind stream drawn (2 * n) 0 (2 * n) clients e (omega arith))
    ∙ ap (λ (z : ℕ). sample_line (1 + pick drawn (2 * n) clients) z (n + 1) ∷ []) (pick_behind stream drawn (2 * n) 1 (2 * n + 1) 8 e refl)

-- ---- the whole

-- the traffic behind the network
pub whole : (r : Result (Unit {0}) MakeError) (plan : MakePlan) (start left : Stream) (a b c : Option (List ℕ)) → start ≡ drawn_from plan.number
    → left ≡ behind (3 * plan.clients) (behind (plan.routers - 1) start) → Appends (text_of (network start plan.routers plan.clients)) a b
    → Makes r (traffic left plan.clients plan.messages) b c → Makes r (script plan) a c
whole r plan start left a b c e d h k =
    made_then r _ _ a b c (subst (λ (s : Stream). Appends (text_of (network s plan.routers plan.clients)) a b) e h)
    (subst (λ (s : Stream). Makes r (traffic s plan.clients plan.messages) b c)
    (d ∙ ap (λ (s : Stream). behind (3 * plan.clients) (behind (plan.routers - 1) s)) e) k)

-- a network that stopped
pub no_traffic : (plan : MakePlan) (start : Stream) (a b : Option (List ℕ)) → start ≡ drawn_from plan.number
    → AppendsPrefix (text_of (network start plan.routers plan.clients)) a b → AppendsPrefix (text_of (script plan)) a b
no_traffic plan start a b e h =
    made_no_more _ _ a b (subst (λ (s : Stream). AppendsPrefix (text_of (network s plan.routers plan.clients)) a b) e h)
