-- The numbers of lines ascend: what stands before a mark, what follows it, and whose line a number is. Lists alone, by
-- induction on them. The tests speak of the whole phase, `done ++ rest`, so that no filter changes as the phase goes on;
-- that no other line has a sample's number is needed here and nowhere else (a run's steps share theirs).
use Rattle.std.proofs.Common.{◌≡◌, ℕ, Bool, true, false, List, [], ◌∷◌, ◌++◌, refl, sym, ap, ◌∙◌, ◌<◌, ◌≤◌, arith, append_assoc, inl, inr}
use Rattle.std.specs.Prelude.{◌==◌, ◌&&◌, ◌||◌, ◌⊎◌, not, nat_lt, nat_le}
use Rattle.std.specs.List.{list_all}
use Rattle.std.proofs.Math.Bool.{or-false}
use Rattle.std.proofs.lemmas.Bool.{false≢true, and_parts, and_from, and_left, and_right, or_from, or_left, or_right, or_cases, ltb-true, leb-true, lt-ltb, le-leb, ne_eqb, eq-eqb}
use Rattle.std.proofs.lemmas.List.Folds.{list_any-append}
use Rattle.zr_id.specs.Zid.{is_named}
use Rattle.zr_script_spec.specs.declared.command.Act.{Act}
use Rattle.zr_script_spec.specs.declared.command.Act.TheVariants as c
use Rattle.zr_world_spec.specs.Moments.{Numbered, is_step, is_later, ascends}
use Rattle.zr_guarantee.specs.Broker.{publishes, is_publisher, is_line_of, is_line}
use Rattle.zr_law_samples.proofs.Pair.{Pair, Agrees, AllAgree}
use Rattle.zr_lists.proofs.Tests.{weaker, all_both}

-- a later line's number is no less
later_le : (last n : ℕ) (act : Act) → is_later last (n, act) ≡ true → last ≤ n
later_le last n act h = by (or_cases (nat_lt last n) (is_step act && nat_le last n) h)
  where
    by : (nat_lt last n ≡ true) ⊎ ((is_step act && nat_le last n) ≡ true) → last ≤ n
    by (inl k) = let lt : last < n = ltb-true last n k in omega arith
    by (inr k) = leb-true last n (and_parts (is_step act) (nat_le last n) k).1

-- that of a line that is no step is greater
later_lt : (last n : ℕ) (act : Act) → is_step act ≡ false → is_later last (n, act) ≡ true → last < n
later_lt last n act e h = by (or_cases (nat_lt last n) (is_step act && nat_le last n) h)
  where
    by : (nat_lt last n ≡ true) ⊎ ((is_step act && nat_le last n) ≡ true) → last < n
    by (inl k) = ltb-true last n k
    by (inr k) = absurd (false≢true (sym e ∙ (and_parts (is_step act) (nat_le last n) k).0))

-- the first line, and those behind it
ascending : (last : ℕ) (x : Numbered) (xs : List Numbered) → ascends last (x ∷ xs) ≡ true → (is_later last x ≡ true) × (ascends x.0 xs ≡ true)
ascending last x xs h = and_parts (is_later last x) (ascends x.0 xs) h

below_mark : (last mark : ℕ) (before phase : List Numbered) → ascends last (before ++ (mark, c.Mark) ∷ phase) ≡ true → last < mark
below_mark last mark [] phase h = later_lt last mark c.Mark refl (ascending last (mark, c.Mark) phase h).0
below_mark last mark (x ∷ xs) phase h =
    let parts = ascending last x (xs ++ (mark, c.Mark) ∷ phase) h in
    let le : last ≤ x.0 = later_le last x.0 x.1 parts.0 in
    let lt : x.0 < mark = below_mark x.0 mark xs phase parts.1 in
    omega arith

-- the lines before a mark have numbers below it, and the numbers of those after it ascend from it
pub around_mark : (last mark : ℕ) (before phase : List Numbered) → ascends last (before ++ (mark, c.Mark) ∷ phase) ≡ true →
    (list_all (λ y. nat_lt y.0 mark) before ≡ true) × (ascends mark phase ≡ true)
around_mark last mark [] phase h = (refl, (ascending last (mark, c.Mark) phase h).1)
around_mark last mark (x ∷ xs) phase h =
    let parts = ascending last x (xs ++ (mark, c.Mark) ∷ phase) h in
    let rest = around_mark x.0 mark xs phase parts.1 in
    (and_from (nat_lt x.0 mark) (list_all (λ y. nat_lt y.0 mark) xs) (lt-ltb x.0 mark (below_mark x.0 mark xs phase parts.1)) rest.0, rest.1)

-- a number that is not above the last one is none of a sample that follows
pub none_later : (a : List ℕ) (t last : ℕ) (xs : List Numbered) → t ≤ last → ascends last xs ≡ true → is_line_of xs a t ≡ false
none_later a t last [] le h = refl
none_later a t last (x ∷ xs) le h =
    or_from (x.0 == t && is_publisher a x.1) (is_line_of xs a t) (by_act x.0 x.1 parts.0)
    (none_later a t x.0 xs (let more : last ≤ x.0 = later_le last x.0 x.1 parts.0 in omega arith) parts.1)
  where
    parts : (is_later last x ≡ true) × (ascends x.0 xs ≡ true)
    parts = ascending last x xs h

    sample : (n : ℕ) (client : List ℕ) → last < n → (n == t && is_named a client) ≡ false
    sample n client lt = and_left (n == t) (is_named a client) (ne_eqb n t (λ e. absurd (omega arith)))

    by_act : (n : ℕ) (act : Act) → is_later last (n, act) ≡ true → (n == t && is_publisher a act) ≡ false
    by_act n (c.Publish client content) k = sample n client (later_lt last n (c.Publish client content) refl k)
    by_act n (c.Get client number target content) k = sample n client (later_lt last n (c.Get client number target content) refl k)
    by_act n other k = and_right (n == t) false refl

-- a number above those of all lines is none of theirs
none_before : (a : List ℕ) (t last : ℕ) (done : List Numbered) → last < t → list_all (λ y. nat_le y.0 last) done ≡ true → is_line_of done a t ≡ false
none_before a t last [] lt h = refl
none_before a t last (x ∷ xs) lt h =
    let parts = and_parts (nat_le x.0 last) (list_all (λ y. nat_le y.0 last) xs) h in
    let le : x.0 ≤ last = leb-true x.0 last parts.0 in
    or_from (x.0 == t && is_publisher a x.1) (is_line_of xs a t) (and_left (x.0 == t) (is_publisher a x.1) (ne_eqb x.0 t (λ e. absurd (omega arith)))) (none_before a t last xs lt parts.1)

-- a test of numbers up to one, and up to a greater one
up_to : (last n : ℕ) (done : List Numbered) → last ≤ n → list_all (λ y. nat_le y.0 last) done ≡ true → list_all (λ y. nat_le y.0 n) done ≡ true
up_to last n done le h = weaker (λ y. nat_le y.0 last) (λ y. nat_le y.0 n) (λ y k. let l : y.0 ≤ last = leb-true y.0 last k in le-leb y.0 n (omega arith)) done h

-- a tag is the publisher's exactly where its line is
pub agrees_from : (p : Pair) (rest done : List Numbered) (last : ℕ) → ((t : ℕ) → p.by t ≡ is_line_of (done ++ rest) p.publisher t) →
    list_all (λ y. nat_le y.0 last) done ≡ true → ascends last rest ≡ true → AllAgree p rest
agrees_from p [] done last tags below h = tt
agrees_from p (x ∷ xs) done last tags below h = (
  by_act x.1 parts.0 tags,
  agrees_from p xs (done ++ x ∷ []) x.0 (λ t. tags t ∙ ap (λ z. is_line_of z p.publisher t) (sym (append_assoc done (x ∷ []) xs)))
      (all_both (λ y. nat_le y.0 x.0) done (x ∷ []) (up_to last x.0 done (later_le last x.0 x.1 parts.0) below) (and_from (nat_le x.0 x.0) true (le-leb x.0 x.0 (omega arith)) refl))
      parts.1,
)
  where
    parts : (is_later last x ≡ true) × (ascends x.0 xs ≡ true)
    parts = ascending last x xs h

    sample : (act : Act) → last < x.0 → ((t : ℕ) → p.by t ≡ is_line_of (done ++ (x.0, act) ∷ xs) p.publisher t) → p.by x.0 ≡ is_publisher p.publisher act
    sample act lt all =
        all x.0 ∙ list_any-append (λ y. y.0 == x.0 && is_publisher p.publisher y.1) done ((x.0, act) ∷ xs)
        ∙ ap (λ z. z || ((x.0 == x.0 && is_publisher p.publisher act) || is_line_of xs p.publisher x.0)) (none_before p.publisher x.0 last done lt below)
        ∙ ap (λ z. (z && is_publisher p.publisher act) || is_line_of xs p.publisher x.0) (eq-eqb x.0 x.0 refl)
        ∙ ap (λ z. is_publisher p.publisher act || z) (none_later p.publisher x.0 x.0 xs (omega arith) parts.1)
        ∙ or-false (is_publisher p.publisher act)

    by_act : (act : Act) → is_later last (x.0, act) ≡ true → ((t : ℕ) → p.by t ≡ is_line_of (done ++ (x.0, act) ∷ xs) p.publisher t) → Agrees p x.0 act
    by_act (c.Publish client content) k all = sample (c.Publish client content) (later_lt last x.0 (c.Publish client content) refl k) all
    by_act (c.Get client number target content) k all = sample (c.Get client number target content) (later_lt last x.0 (c.Get client number target content) refl k) all
    by_act other k all = tt

-- whether a line gives a message its tag
abbrev pub writes : Act → Bool
writes (c.Router id) = false
writes (c.Client id router) = true
writes (c.Link one other weight) = false
writes (c.Up router neighbour) = true
writes (c.Break router neighbour) = false
writes (c.Down router neighbour) = true
writes (c.Sub client id key) = true
writes (c.Unsub client id) = true
writes (c.Token client id key) = true
writes (c.Untoken client id) = true
writes (c.Able client id key complete) = true
writes (c.Unable client id) = true
writes (c.Interest client id mode kinds key aggregate) = true
writes (c.Uninterest client id) = true
writes (c.Publish client content) = true
writes (c.Get client number target content) = true
writes (c.Reply client number content) = true
writes (c.End client number) = true
writes (c.Handle router from) = false
writes (c.Take router to) = false
writes c.Mark = false
writes (c.Show router) = false

-- each line of some that gives a message its tag passes a test
abbrev pub Tagging : (ℕ → Bool) → List Numbered → Type 0
Tagging t lines = list_all (λ x. not (writes x.1) || t x.0) lines ≡ true

-- before a mark all tags are below it
pub tagging_before : (mark : ℕ) (before : List Numbered) → list_all (λ y. nat_lt y.0 mark) before ≡ true → Tagging (λ i. nat_lt i mark) before
tagging_before mark before h = weaker (λ y. nat_lt y.0 mark) (λ x. not (writes x.1) || nat_lt x.0 mark) (λ x k. or_right (not (writes x.1)) (nat_lt x.0 mark) k) before h

-- each line of some that publishes something passes a test
abbrev pub Publishing : (ℕ → Bool) → List Numbered → Type 0
Publishing t lines = list_all (λ x. not (publishes x.1) || t x.0) lines ≡ true

-- in a phase they are those of its samples and queries
pub publishing_phase : (mark : ℕ) (rest done : List Numbered) → Publishing (λ i. nat_lt i mark || is_line (done ++ rest) i) rest
publishing_phase mark [] done = refl
publishing_phase mark (x ∷ xs) done =
    and_from (test x) (list_all test xs) (by (publishes x.1) refl)
    (ap (λ z. list_all (λ y. not (publishes y.1) || (nat_lt y.0 mark || is_line z y.0)) xs) (sym (append_assoc done (x ∷ []) xs)) ∙ publishing_phase mark xs (done ++ x ∷ []))
  where
    test : Numbered → Bool
    test y = not (publishes y.1) || (nat_lt y.0 mark || is_line (done ++ x ∷ xs) y.0)

    by : (b : Bool) → publishes x.1 ≡ b → (not b || (nat_lt x.0 mark || is_line (done ++ x ∷ xs) x.0)) ≡ true
    by false e = refl
    by true e =
        or_right (nat_lt x.0 mark) (is_line (done ++ x ∷ xs) x.0)
        (list_any-append (λ y. y.0 == x.0 && publishes y.1) done (x ∷ xs)
        ∙ or_right (is_line done x.0) (is_line (x ∷ xs) x.0)
        (or_left (x.0 == x.0 && publishes x.1) (is_line xs x.0) (and_from (x.0 == x.0) (publishes x.1) (eq-eqb x.0 x.0 refl) e)))
