-- The two ways in which a router goes on (`GoesOn`): a source tells anew (`tells_anew_kept`), and a router takes a note from a neighbour and
-- passes it on to the others (`takes_kept`). Both say only what is sent at least: on each link that feeds, all that is known, or what is new
-- to a link that fed before.
use Rattle.std.proofs.Common.{◌≡◌, ◌≤◌, ◌+◌, ℕ, max, Bool, true, false, cond, List, ◌∷◌, ◌++◌, ◌⊎◌, inl, inr, refl, sym, ap, ◌∙◌, subst, arith}
use Rattle.std.specs.Prelude.{◌&&◌, nat_lt}
use Rattle.std.proofs.lemmas.Bool.{cond_both, le-ltb, lt-ltb}
use Rattle.zr_id.specs.Zid.{is_named}
use Rattle.zr_graph.proofs.Names.{same_is, same_refl}
use Rattle.zr_law_settled.proofs.Spreading.{Name, Known, Note, Made, Lane, Feeds, own, best, Fits, AllFit, AllOf, Spreads, goes_on_kept, best_append, best_head, best_of, all_of_fit}

-- what was made, with another value above a number of a source
abbrev pub more : {V : Type 0} → Made V → Name → ℕ → V → Made V
more made a n v z k = cond (is_named a z && nat_lt n k) v (made z k)

-- Source a tells anew, under its next number: a neighbour is told all that a knows, or was fed before and is told what is new.
pub record TellsAnew {V : Type 0} (feeds feeds' : Feeds) (a : Name) (v : V) (l l' : Lane V) : Type 0 where
  pub others : (x z : Name) → is_named a x ≡ false → l'.table x z ≡ l.table x z
  pub table : (z : Name) → l'.table a z ≡ cond (is_named a z) (record { number = own l a + 1; value = v }) (l.table a z)
  pub sent : Name → List (Note V)
  pub sends : (y : Name) → l'.way a y ≡ l.way a y ++ sent y
  pub silent : (x y : Name) → is_named a x ≡ false → l'.way x y ≡ l.way x y
  pub sent_of : (y : Name) → AllOf (l'.table a) (sent y)
  pub tells : (y z : Name) → feeds' z a y ≡ true → ((l'.table a z).number ≤ best z (sent y)) ⊎ ((feeds z a y ≡ true) × ((l'.table a a).number ≤ best a (sent y)))
  pub feeds_less : (x y z : Name) → is_named a x ≡ false → feeds' z x y ≡ true → feeds z x y ≡ true

pub tells_anew_kept : {V : Type 0} (made : Made V) (feeds feeds' : Feeds) (a : Name) (v : V) (l l' : Lane V) → Spreads made feeds l → TellsAnew feeds feeds' a v l l' →
    Spreads (more made a (own l a) v) feeds' l'
tells_anew_kept {V} made feeds feeds' a v l l' s g = goes_on_kept made (more made a (own l a) v) feeds feeds' a l l' s (record {
  others = g.others;
  grows = λ z. of_table z (λ k. (l.table a z).number ≤ k.number)
      (λ e. let same : (l.table a z).number ≡ own l a = ap (λ q. (l.table a q).number) (sym (same_is a z e)) in omega (arith, same))
      (λ e. omega arith);
  stays = λ z n le. cond_both (is_named a z && nat_lt (own l a) n) v (made z n) (λ y. y ≡ made z n) (λ t. absurd (below z n le t)) (λ t. refl);
  fit = fit;
  sent = g.sent;
  sends = g.sends;
  silent = g.silent;
  sent_fit = λ y. all_of_fit (more made a (own l a) v) (own l') (l'.table a) fit (g.sent y) (g.sent_of y);
  sent_le = λ y z. best_of (l'.table a) z (g.sent y) (g.sent_of y);
  tells = λ y z f. by_tell y z (g.tells y z f);
  feeds_less = g.feeds_less;
})
  where
    -- what a knows: its own new value, and the others as before
    of_table : (z : Name) (P : Known V → Type 0) → (is_named a z ≡ true → P (record { number = own l a + 1; value = v })) → (is_named a z ≡ false → P (l.table a z)) → P (l'.table a z)
    of_table z P here other = subst P (sym (g.table z)) (cond_both (is_named a z) (record { number = own l a + 1; value = v }) (l.table a z) P here other)

    old_is : (z : Name) → is_named a z ≡ false → l'.table a z ≡ l.table a z
    old_is z e = g.table z ∙ ap (λ b. cond b (record { number = own l a + 1; value = v }) (l.table a z)) e

    new_is : l'.table a a ≡ record { number = own l a + 1; value = v }
    new_is = g.table a ∙ ap (λ b. cond b (record { number = own l a + 1; value = v }) (l.table a a)) (same_refl a)

    below : (z : Name) (n : ℕ) → n ≤ own l z → (is_named a z && nat_lt (own l a) n) ≡ true → ⊥
    below z n le t = by (is_named a z) refl t
      where
        by : (b : Bool) → is_named a z ≡ b → (b && nat_lt (own l a) n) ≡ true → ⊥
        by false e t = cc
        by true e t =
            let same : own l a ≡ own l z = ap (λ q. own l q) (same_is a z e) in
            let no : nat_lt (own l a) n ≡ false = le-ltb (own l a) n (omega (arith, le, same)) in cc

    fit_new : (z : Name) → is_named a z ≡ true → Fits (more made a (own l a) v) (own l') z (record { number = own l a + 1; value = v })
    fit_new z e = (
      let same : own l' a ≡ own l' z = ap (λ q. own l' q) (same_is a z e) in
          let new : own l' a ≡ own l a + 1 = ap (λ (k : Known V). k.number) new_is in omega (arith, same, new),
      sym (ap (λ b. cond (b && nat_lt (own l a) (own l a + 1)) v (made z (own l a + 1))) e
          ∙ ap (λ b. cond b v (made z (own l a + 1))) (lt-ltb (own l a) (own l a + 1) (omega arith))),
    )

    fit_old : (z : Name) → is_named a z ≡ false → Fits (more made a (own l a) v) (own l') z (l.table a z)
    fit_old z e = (
      let same : own l' z ≡ own l z = ap (λ (k : Known V). k.number) (g.others z z e) in omega (arith, same, (s.fits a z).0),
      (s.fits a z).1 ∙ sym (ap (λ b. cond (b && nat_lt (own l a) (l.table a z).number) v (made z (l.table a z).number)) e),
    )

    fit : (z : Name) → Fits (more made a (own l a) v) (own l') z (l'.table a z)
    fit z = of_table z (Fits (more made a (own l a) v) (own l') z) (fit_new z) (fit_old z)

    best_is : (y z : Name) → best z (l'.way a y) ≡ max (best z (l.way a y)) (best z (g.sent y))
    best_is y z = ap (best z) (g.sends y) ∙ best_append z (l.way a y) (g.sent y)

    by_tell : (y z : Name) → ((l'.table a z).number ≤ best z (g.sent y)) ⊎ ((feeds z a y ≡ true) × ((l'.table a a).number ≤ best a (g.sent y))) →
        (l'.table a z).number ≤ max (l'.table y z).number (best z (l'.way a y))
    by_tell y z (inl le) = omega (arith, le, best_is y z)
    by_tell y z (inr p) = at (is_named a z) refl
      where
        at : (b : Bool) → is_named a z ≡ b → (l'.table a z).number ≤ max (l'.table y z).number (best z (l'.way a y))
        at true e = subst (λ q. (l'.table a q).number ≤ max (l'.table y q).number (best q (l'.way a y))) (same_is a z e) (omega (arith, p.1, best_is y a))
        at false e =
            let same : (l'.table a z).number ≡ (l.table a z).number = ap (λ (k : Known V). k.number) (old_is z e) in
            omega (arith, same, receiver y z e, s.told a y z p.0, best_is y z)
          where
            receiver : (y z : Name) → is_named a z ≡ false → (l'.table y z).number ≡ (l.table y z).number
            receiver y z e = by (is_named a y) refl
              where
                by : (b : Bool) → is_named a y ≡ b → (l'.table y z).number ≡ (l.table y z).number
                by true t = subst (λ q. (l'.table q z).number ≡ (l.table q z).number) (same_is a y t) (ap (λ (k : Known V). k.number) (old_is z e))
                by false t = ap (λ (k : Known V). k.number) (g.others y z t)

-- Router a takes the first note on the way from b, which is another source's and no older than what a knew of it: each neighbour that is
-- fed, but b, is told it.
pub record Takes {V : Type 0} (feeds : Feeds) (a b : Name) (m : Note V) (l l' : Lane V) : Type 0 where
  pub others : (x z : Name) → is_named a x ≡ false → l'.table x z ≡ l.table x z
  pub table : (z : Name) → l'.table a z ≡ cond (is_named m.source z) m.known (l.table a z)
  pub apart : is_named a b ≡ false
  pub foreign : is_named m.source a ≡ false
  pub newer : (l.table a m.source).number ≤ m.known.number
  pub rest : List (Note V)
  pub first : l.way b a ≡ m ∷ rest
  pub sent : Name → List (Note V)
  pub sends : (y : Name) → l'.way a y ≡ l.way a y ++ sent y
  pub silent : (x y : Name) → is_named a x ≡ false → l'.way x y ≡ l.way x y
  pub sent_of : (y : Name) → AllOf (l'.table a) (sent y)
  pub tells : (y : Name) → feeds m.source a y ≡ true → is_named b y ≡ false → m.known.number ≤ best m.source (sent y)

pub takes_kept : {V : Type 0} (made : Made V) (feeds : Feeds) (a b : Name) (m : Note V) (l l' : Lane V) → Spreads made feeds l → Takes feeds a b m l l' → Spreads made feeds l'
takes_kept {V} made feeds a b m l l' s g = goes_on_kept made made feeds feeds a l l' s (record {
  others = g.others;
  grows = λ z. of_table z (λ k. (l.table a z).number ≤ k.number)
      (λ e. let same : (l.table a z).number ≡ (l.table a m.source).number = ap (λ q. (l.table a q).number) (sym (same_is m.source z e)) in omega (arith, same, g.newer))
      (λ e. omega arith);
  stays = λ z n le. refl;
  fit = fit;
  sent = g.sent;
  sends = g.sends;
  silent = g.silent;
  sent_fit = λ y. all_of_fit made (own l') (l'.table a) fit (g.sent y) (g.sent_of y);
  sent_le = λ y z. best_of (l'.table a) z (g.sent y) (g.sent_of y);
  tells = λ y z f. at y z f (is_named m.source z) refl;
  feeds_less = λ x y z other f. f;
})
  where
    of_table : (z : Name) (P : Known V → Type 0) → (is_named m.source z ≡ true → P m.known) → (is_named m.source z ≡ false → P (l.table a z)) → P (l'.table a z)
    of_table z P here other = subst P (sym (g.table z)) (cond_both (is_named m.source z) m.known (l.table a z) P here other)

    old_is : (z : Name) → is_named m.source z ≡ false → l'.table a z ≡ l.table a z
    old_is z e = g.table z ∙ ap (λ b. cond b m.known (l.table a z)) e

    new_is : l'.table a m.source ≡ m.known
    new_is = g.table m.source ∙ ap (λ b. cond b m.known (l.table a m.source)) (same_refl m.source)

    -- what a router has of another source than that of the note stays
    kept : (x z : Name) → (is_named a x ≡ true → is_named m.source z ≡ false) → l'.table x z ≡ l.table x z
    kept x z h = by (is_named a x) refl
      where
        by : (t : Bool) → is_named a x ≡ t → l'.table x z ≡ l.table x z
        by true e = subst (λ q. l'.table q z ≡ l.table q z) (same_is a x e) (old_is z (h e))
        by false e = g.others x z e

    own_is : (z : Name) → own l' z ≡ own l z
    own_is z = ap (λ (k : Known V). k.number) (kept z z (λ e. ap (λ q. is_named m.source q) (sym (same_is a z e)) ∙ g.foreign))

    on_way : AllFit made (own l) (m ∷ g.rest)
    on_way = subst (λ (ms : List (Note V)). AllFit made (own l) ms) g.first (s.fits_way b a)

    fit_new : Fits made (own l') m.source m.known
    fit_new = (omega (arith, own_is m.source, on_way.0.0), on_way.0.1)

    fit : (z : Name) → Fits made (own l') z (l'.table a z)
    fit z = of_table z (Fits made (own l') z) (λ e. subst (λ q. Fits made (own l') q m.known) (same_is m.source z e) (fit_new)) (λ e. (omega (arith, own_is z, (s.fits a z).0), (s.fits a z).1))

    best_is : (y z : Name) → best z (l'.way a y) ≡ max (best z (l.way a y)) (best z (g.sent y))
    best_is y z = ap (best z) (g.sends y) ∙ best_append z (l.way a y) (g.sent y)

    -- the router that sent the note knows it
    sender : m.known.number ≤ (l'.table b m.source).number
    sender =
        let same : (l'.table b m.source).number ≡ (l.table b m.source).number = ap (λ (k : Known V). k.number) (g.others b m.source g.apart) in
        let there : best m.source (l.way b a) ≡ best m.source (m ∷ g.rest) = ap (best m.source) g.first in
        omega (arith, same, there, best_head m g.rest, s.way_le b a m.source)

    told_new : (y : Name) → feeds m.source a y ≡ true → (l'.table a m.source).number ≤ max (l'.table y m.source).number (best m.source (l'.way a y))
    told_new y f = by (is_named b y) refl
      where
        new : (l'.table a m.source).number ≡ m.known.number
        new = ap (λ (k : Known V). k.number) new_is

        by : (t : Bool) → is_named b y ≡ t → (l'.table a m.source).number ≤ max (l'.table y m.source).number (best m.source (l'.way a y))
        by true e = subst (λ q. (l'.table a m.source).number ≤ max (l'.table q m.source).number (best m.source (l'.way a q))) (same_is b y e) (omega (arith, new, sender))
        by false e = omega (arith, new, g.tells y f e, best_is y m.source)

    at : (y z : Name) → feeds z a y ≡ true → (t : Bool) → is_named m.source z ≡ t → (l'.table a z).number ≤ max (l'.table y z).number (best z (l'.way a y))
    at y z f true e =
        let same = same_is m.source z e in
        subst (λ q. (l'.table a q).number ≤ max (l'.table y q).number (best q (l'.way a y))) same (told_new y (ap (λ q. feeds q a y) same ∙ f))
    at y z f false e =
        let here : (l'.table a z).number ≡ (l.table a z).number = ap (λ (k : Known V). k.number) (old_is z e) in
        let there : (l'.table y z).number ≡ (l.table y z).number = ap (λ (k : Known V). k.number) (kept y z (λ t. e)) in
        omega (arith, here, there, s.told a y z f, best_is y z)
