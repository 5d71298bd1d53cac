-- How what sources tell of themselves spreads from router to router, over any links and for any values. Each router has a table: of each
-- source a number and a value. The invariant (`Spreads`): what a table has of a source is no newer than the source's own, and is what
-- was made under its number; what a router has, it has told on each link that feeds, or is telling (one inequality of numbers). Two
-- lemmas serve each step of a network: a router goes on (`goes_on_kept`), and what is under way is dropped or passed on (`drops_kept`).
use Rattle.std.proofs.Common.{◌≡◌, ◌≤◌, ℕ, max, Bool, true, false, cond, List, [], ◌∷◌, ◌++◌, refl, sym, ap, ◌∙◌, subst, append-nil, arith}
use Rattle.std.specs.List.{AllByRecursion}
use Rattle.zr_id.specs.Zid.{is_named}
use Rattle.zr_graph.proofs.Names.{same_is, same_refl}
use Rattle.zr_lists.proofs.Each.{All-append, All-front, All-back, All-each}

abbrev pub Name : Type 0
Name = List ℕ

-- what holds of one name, and of each other one, holds of all
pub at_name : (a : Name) (P : Name → Type 0) → P a → ((x : Name) → is_named a x ≡ false → P x) → (x : Name) → P x
at_name a P here other x = by (is_named a x) refl
  where
    by : (t : Bool) → is_named a x ≡ t → P x
    by true e = subst P (same_is a x e) here
    by false e = other x e

-- what is known of a source: the number of what it told, and what it told
pub record Known (V : Type 0) : Type 0 where
  pub number : ℕ
  pub value : V

-- what travels: a source, and what is told of it
pub record Note (V : Type 0) : Type 0 where
  pub source : Name
  pub known : Known V

-- what each source made under each number: it stands in proofs alone
abbrev pub Made : Type 0 → Type 0
Made V = Name → ℕ → V

-- What each router has of each source, and what is under way from a router to another, the oldest first.
pub record Lane (V : Type 0) : Type 0 where
  pub table : Name → Name → Known V
  pub way : Name → Name → List (Note V)

-- the number of a source's own
abbrev pub own : {V : Type 0} → Lane V → Name → ℕ
own l z = (l.table z z).number

-- the greatest number under which notes tell of a source, 0 where none does
abbrev pub best : {V : Type 0} → Name → List (Note V) → ℕ
best z [] = 0
best z (m ∷ ms) = max (cond (is_named m.source z) m.known.number 0) (best z ms)

-- what is known of a source is no newer than its own, and was made under its number
abbrev pub Fits : {V : Type 0} → Made V → (Name → ℕ) → Name → Known V → Type 0
Fits made most z k = (k.number ≤ most z) × (k.value ≡ made z k.number)

abbrev pub AllFit : {V : Type 0} → Made V → (Name → ℕ) → List (Note V) → Type 0
AllFit made most ms = AllByRecursion (λ m. Fits made most m.source m.known) ms

-- each note is what a table has of its source
abbrev pub AllOf : {V : Type 0} → (Name → Known V) → List (Note V) → Type 0
AllOf t ms = AllByRecursion (λ m. t m.source ≡ m.known) ms

-- which links feed: whether what `from` has of `source` it tells `to`
abbrev pub Feeds : Type 0
Feeds = Name → Name → Name → Bool

pub record Spreads {V : Type 0} (made : Made V) (feeds : Feeds) (l : Lane V) : Type 0 where
  pub fits : (x z : Name) → Fits made (own l) z (l.table x z)
  pub fits_way : (x y : Name) → AllFit made (own l) (l.way x y)
  -- what is under way is no newer than what its sender has
  pub way_le : (x y z : Name) → best z (l.way x y) ≤ (l.table x z).number
  -- what x has of z, y has, or it is on its way to y
  pub told : (x y z : Name) → feeds z x y ≡ true → (l.table x z).number ≤ max (l.table y z).number (best z (l.way x y))

-- ---- notes

pub best_append : {V : Type 0} (z : Name) (xs ys : List (Note V)) → best z (xs ++ ys) ≡ max (best z xs) (best z ys)
best_append z [] ys = omega arith
best_append z (m ∷ xs) ys = let ih = best_append z xs ys in omega (arith, ih)

-- notes of a table are no newer than it
pub best_of : {V : Type 0} (t : Name → Known V) (z : Name) (ms : List (Note V)) → AllOf t ms → best z ms ≤ (t z).number
best_of t z [] h = omega arith
best_of t z (m ∷ ms) h = by (is_named m.source z) refl (best_of t z ms h.1)
  where
    by : (b : Bool) → is_named m.source z ≡ b → best z ms ≤ (t z).number → max (cond b m.known.number 0) (best z ms) ≤ (t z).number
    by true e ih = let same : (t z).number ≡ m.known.number = ap (λ q. (t q).number) (sym (same_is m.source z e)) ∙ ap (λ k. k.number) h.0 in omega (arith, same, ih)
    by false e ih = omega (arith, ih)

-- notes of a table fit as it does
pub all_of_fit : {V : Type 0} (made : Made V) (most : Name → ℕ) (t : Name → Known V) → ((z : Name) → Fits made most z (t z)) → (ms : List (Note V)) → AllOf t ms → AllFit made most ms
all_of_fit made most t f ms h = All-each (λ m. t m.source ≡ m.known) (λ m. Fits made most m.source m.known) ms (λ m e. subst (λ k. Fits made most m.source k) e (f m.source)) h

-- a note among others counts
pub best_head : {V : Type 0} (m : Note V) (ms : List (Note V)) → m.known.number ≤ best m.source (m ∷ ms)
best_head m ms = by (is_named m.source m.source) (same_refl m.source)
  where
    by : (b : Bool) → b ≡ true → m.known.number ≤ max (cond b m.known.number 0) (best m.source ms)
    by true e = omega arith
    by false e = absurd (cc)

-- ---- a router goes on

-- what was known stays known
record Later {V : Type 0} (made made' : Made V) (most most' : Name → ℕ) : Type 0 where
  later : (z : Name) → most z ≤ most' z
  stays : (z : Name) (n : ℕ) → n ≤ most z → made' z n ≡ made z n

fits_later : {V : Type 0} (made made' : Made V) (most most' : Name → ℕ) → Later made made' most most' → (z : Name) (k : Known V) → Fits made most z k → Fits made' most' z k
fits_later made made' most most' h z k f = (omega (arith, h.later z, f.0), f.1 ∙ sym (h.stays z k.number f.0))

all_fit_later : {V : Type 0} (made made' : Made V) (most most' : Name → ℕ) → Later made made' most most' → (ms : List (Note V)) → AllFit made most ms → AllFit made' most' ms
all_fit_later made made' most most' h ms f = All-each (λ m. Fits made most m.source m.known) (λ m. Fits made' most' m.source m.known) ms (λ m. fits_later made made' most most' h m.source m.known) f

-- The table of router a grows, and a sends no more than what is in it: on each link that feeds, what the neighbour does not have yet.
pub record GoesOn {V : Type 0} (made made' : Made V) (feeds feeds' : Feeds) (a : Name) (l l' : Lane V) : Type 0 where
  pub others : (x z : Name) → is_named a x ≡ false → l'.table x z ≡ l.table x z
  pub grows : (z : Name) → (l.table a z).number ≤ (l'.table a z).number
  pub stays : (z : Name) (n : ℕ) → n ≤ own l z → made' z n ≡ made z n
  pub fit : (z : Name) → Fits made' (own l') z (l'.table a z)
  pub sent : Name → List (Note V)
  pub sends : (y : Name) → l'.way a y ≡ l.way a y ++ sent y
  pub silent : (x y : Name) → is_named a x ≡ false → l'.way x y ≡ l.way x y
  pub sent_fit : (y : Name) → AllFit made' (own l') (sent y)
  pub sent_le : (y z : Name) → best z (sent y) ≤ (l'.table a z).number
  pub tells : (y z : Name) → feeds' z a y ≡ true → (l'.table a z).number ≤ max (l'.table y z).number (best z (l'.way a y))
  pub feeds_less : (x y z : Name) → is_named a x ≡ false → feeds' z x y ≡ true → feeds z x y ≡ true

pub goes_on_kept : {V : Type 0} (made made' : Made V) (feeds feeds' : Feeds) (a : Name) (l l' : Lane V) → Spreads made feeds l → GoesOn made made' feeds feeds' a l l' → Spreads made' feeds' l'
goes_on_kept {V} made made' feeds feeds' a l l' s g = record {
  fits = λ x z. at_name a (λ q. Fits made' (own l') z (l'.table q z)) (g.fit z)
      (λ q other. subst (λ (k : Known V). Fits made' (own l') z k) (sym (g.others q z other)) (fits_later made made' (own l) (own l') later z (l.table q z) (s.fits q z))) x;
  fits_way = λ x y. at_name a (λ q. AllFit made' (own l') (l'.way q y))
      (subst (λ (ms : List (Note V)). AllFit made' (own l') ms) (sym (g.sends y))
      (All-append (λ m. Fits made' (own l') m.source m.known) (l.way a y) (g.sent y) (all_fit_later made made' (own l) (own l') later (l.way a y) (s.fits_way a y))
      (g.sent_fit y)))
      (λ q other. subst (λ (ms : List (Note V)). AllFit made' (own l') ms) (sym (g.silent q y other)) (all_fit_later made made' (own l) (own l') later (l.way q y) (s.fits_way q y))) x;
  way_le = λ x y z. at_name a (λ q. best z (l'.way q y) ≤ (l'.table q z).number)
      (let e : best z (l'.way a y) ≡ max (best z (l.way a y)) (best z (g.sent y)) = ap (best z) (g.sends y) ∙ best_append z (l.way a y) (g.sent y) in
      omega (arith, e, s.way_le a y z, g.grows z, g.sent_le y z))
      (λ q other. let e : best z (l'.way q y) ≡ best z (l.way q y) = ap (best z) (g.silent q y other) in
      let k : (l'.table q z).number ≡ (l.table q z).number = ap (λ k. k.number) (g.others q z other) in omega (arith, e, k, s.way_le q y z)) x;
  told = λ x y z f. at_name a (λ q. feeds' z q y ≡ true → (l'.table q z).number ≤ max (l'.table y z).number (best z (l'.way q y))) (g.tells y z)
      (λ q other f. let e : best z (l'.way q y) ≡ best z (l.way q y) = ap (best z) (g.silent q y other) in
      let k : (l'.table q z).number ≡ (l.table q z).number = ap (λ k. k.number) (g.others q z other) in
      omega (arith, e, k, grown y z, s.told q y z (g.feeds_less q y z other f))) x f;
}
  where
    grown : (x z : Name) → (l.table x z).number ≤ (l'.table x z).number
    grown x z = at_name a (λ q. (l.table q z).number ≤ (l'.table q z).number) (g.grows z)
        (λ q other. let k : (l'.table q z).number ≡ (l.table q z).number = ap (λ k. k.number) (g.others q z other) in omega (arith, k)) x

    later : Later made made' (own l) (own l')
    later = record { later = λ z. grown z z; stays = g.stays }

-- ---- what is under way is dropped

-- Some notes are a run of consecutive ones of others.
pub record IsPart {V : Type 0} (some all : List (Note V)) : Type 0 where
  pub before : List (Note V)
  pub after : List (Note V)
  pub whole : all ≡ before ++ (some ++ after)

pub is_all : {V : Type 0} (some all : List (Note V)) → all ≡ some → IsPart some all
is_all some all e = record { before = []; after = []; whole = e ∙ sym (append-nil some) }

part_le : {V : Type 0} (z : Name) (some all : List (Note V)) → IsPart some all → best z some ≤ best z all
part_le z some all h =
    let e : best z all ≡ max (best z h.before) (best z (some ++ h.after)) = ap (best z) h.whole ∙ best_append z h.before (some ++ h.after) in
    omega (arith, e, best_append z some h.after)

-- Tables stay, and under way is less: nothing is dropped on a link that feeds but what its receiver knows.
pub record Drops {V : Type 0} (feeds feeds' : Feeds) (l l' : Lane V) : Type 0 where
  pub tables : (x z : Name) → l'.table x z ≡ l.table x z
  pub part : (x y : Name) → IsPart (l'.way x y) (l.way x y)
  pub dropped : (x y z : Name) → feeds' z x y ≡ true → (feeds z x y ≡ true) × (best z (l.way x y) ≤ max (l.table y z).number (best z (l'.way x y)))

pub drops_kept : {V : Type 0} (made : Made V) (feeds feeds' : Feeds) (l l' : Lane V) → Spreads made feeds l → Drops feeds feeds' l l' → Spreads made feeds' l'
drops_kept {V} made feeds feeds' l l' s d = record {
  fits = λ x z. subst (λ (k : Known V). Fits made (own l') z k) (sym (d.tables x z)) (fits_later made made (own l) (own l') later z (l.table x z) (s.fits x z));
  fits_way = λ x y. all_fit_later made made (own l) (own l') later (l'.way x y) (of_part (l'.way x y) (l.way x y) (d.part x y) (s.fits_way x y));
  way_le = λ x y z. let k : (l'.table x z).number ≡ (l.table x z).number = same x z in omega (arith, k, part_le z (l'.way x y) (l.way x y) (d.part x y), s.way_le x y z);
  told = λ x y z f. let k : (l'.table x z).number ≡ (l.table x z).number = same x z in let j : (l'.table y z).number ≡ (l.table y z).number = same y z in
      omega (arith, k, j, (d.dropped x y z f).1, s.told x y z (d.dropped x y z f).0);
}
  where
    same : (x z : Name) → (l'.table x z).number ≡ (l.table x z).number
    same x z = ap (λ k. k.number) (d.tables x z)

    later : Later made made (own l) (own l')
    later = record { later = λ z. omega (arith, same z z); stays = λ z n le. refl }

    of_part : (some all : List (Note V)) → IsPart some all → AllFit made (own l) all → AllFit made (own l) some
    of_part some all p h =
        let whole : AllFit made (own l) (p.before ++ (some ++ p.after)) = subst (λ (ms : List (Note V)). AllFit made (own l) ms) p.whole h in
        All-front (λ m. Fits made (own l) m.source m.known) some p.after (All-back (λ m. Fits made (own l) m.source m.known) p.before (some ++ p.after) whole)

-- ---- at rest

-- where two routers feed each other and nothing is under way between them, they have the same of a source
pub level : {V : Type 0} (made : Made V) (feeds : Feeds) (l : Lane V) → Spreads made feeds l → (x y z : Name) → feeds z x y ≡ true → feeds z y x ≡ true → l.way x y ≡ [] → l.way y x ≡ [] → l.table x z ≡ l.table y z
level made feeds l s x y z there back empty empty_back = λ i. record { number = numbers i; value = values i }
  where
    numbers : (l.table x z).number ≡ (l.table y z).number
    numbers =
        let e : best z (l.way x y) ≡ 0 = ap (best z) empty in
        let b : best z (l.way y x) ≡ 0 = ap (best z) empty_back in
        omega (arith, e, b, s.told x y z there, s.told y x z back)

    values : (l.table x z).value ≡ (l.table y z).value
    values = (s.fits x z).1 ∙ ap (made z) numbers ∙ sym (s.fits y z).1
