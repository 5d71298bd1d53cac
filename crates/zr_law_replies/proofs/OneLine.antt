-- Acts that are no steps have lines of their own. So a query is the only one of its line (`one_query`), and so is what a client says (`one_saying`).
use Rattle.std.proofs.Common.{◌≡◌, ◌≤◌, ◌<◌, ℕ, ◌⊎◌, inl, inr, true, false, List, [], ◌∷◌, Some, refl, sym, ap, ◌∙◌, subst, arith}
use Rattle.std.proofs.lemmas.Bool.{and_parts}
use Rattle.std.proofs.lemmas.Option.{none-some}
use Rattle.zr_lists.proofs.Finds.{In}
use Rattle.zr_script_spec.specs.declared.command.Act.{Act}
use Rattle.zr_script_spec.specs.declared.command.Act.TheVariants as c
use Rattle.zr_world_spec.specs.Moments.{Numbered, is_step, is_later, ascends}
use Rattle.zr_guarantee.specs.Broker.{Publication, publication}
use Rattle.zr_guarantee.specs.Queries.{Asked, asked_in, queries, Saying, saying_in, sayings}
use Rattle.zr_law_replies.proofs.Lists.{from_map}
use Rattle.zr_law_replies.proofs.Grown.{earlier, asked_of, asks_no_step, saying_of, says_no_step}

-- ---- acts

-- an act behind a line that is no step has a greater one
pub later_in : (last : ℕ) (xs : List Numbered) → ascends last xs ≡ true → (x : Numbered) → In x xs → is_step x.1 ≡ false → last < x.0
later_in last [] h x i step = absurd i
later_in last (y ∷ xs) h x (inl e) step = let lt : last < y.0 = (earlier last [] y xs h).2 (ap (λ (z : Numbered). is_step z.1) (sym e) ∙ step) in subst (λ (z : Numbered). last < z.0) (sym e) lt
later_in last (y ∷ xs) h x (inr i) step =
    let le : last ≤ y.0 = (earlier last [] y xs h).1 in
    let lt : y.0 < x.0 = later_in y.0 xs (tail h) x i step in
    omega arith
  where
    tail : ascends last (y ∷ xs) ≡ true → ascends y.0 xs ≡ true
    tail k = (and_parts (is_later last y) (ascends y.0 xs) k).1

-- two acts of one line that are no steps are one
pub one_act : (last : ℕ) (xs : List Numbered) → ascends last xs ≡ true → (x y : Numbered) → In x xs → In y xs → is_step x.1 ≡ false → is_step y.1 ≡ false → x.0 ≡ y.0 → x ≡ y
one_act last [] h x y i j sx sy e = absurd i
one_act last (z ∷ zs) h x y i j sx sy e = by i j (λ a b. one_act z.0 zs (and_parts (is_later last z) (ascends z.0 zs) h).1 x y a b sx sy e)
  where
    tail : ascends z.0 zs ≡ true
    tail = (and_parts (is_later last z) (ascends z.0 zs) h).1

    by : (x ≡ z) ⊎ In x zs → (y ≡ z) ⊎ In y zs → (In x zs → In y zs → x ≡ y) → x ≡ y
    by (inl a) (inl b) ih = a ∙ sym b
    by (inl a) (inr b) ih = let lt : z.0 < y.0 = later_in z.0 zs tail y b sy in let same : z.0 ≡ y.0 = ap (λ (v : Numbered). v.0) (sym a) ∙ e in absurd (omega arith)
    by (inr a) (inl b) ih = let lt : z.0 < x.0 = later_in z.0 zs tail x a sx in let same : x.0 ≡ z.0 = e ∙ ap (λ (v : Numbered). v.0) b in absurd (omega arith)
    by (inr a) (inr b) ih = ih a b

-- ---- what acts say and ask

-- who publishes makes no step
pub publishes_no_step : (act : Act) (p : Publication) → publication act ≡ Some p → is_step act ≡ false
publishes_no_step (c.Handle router from) p e = absurd (none-some p e)
publishes_no_step (c.Take router to) p e = absurd (none-some p e)
publishes_no_step (c.Router id) p e = refl
publishes_no_step (c.Client id router) p e = refl
publishes_no_step (c.Link one other weight) p e = refl
publishes_no_step (c.Up router neighbour) p e = refl
publishes_no_step (c.Break router neighbour) p e = refl
publishes_no_step (c.Down router neighbour) p e = refl
publishes_no_step (c.Sub client id key) p e = refl
publishes_no_step (c.Unsub client id) p e = refl
publishes_no_step (c.Token client id key) p e = refl
publishes_no_step (c.Untoken client id) p e = refl
publishes_no_step (c.Able client id key complete) p e = refl
publishes_no_step (c.Unable client id) p e = refl
publishes_no_step (c.Interest client id mode kinds key aggregate) p e = refl
publishes_no_step (c.Uninterest client id) p e = refl
publishes_no_step (c.Publish client content) p e = refl
publishes_no_step (c.Get client number target content) p e = refl
publishes_no_step (c.Reply client number content) p e = refl
publishes_no_step (c.End client number) p e = refl
publishes_no_step c.Mark p e = refl
publishes_no_step (c.Show router) p e = refl

module _ (last : ℕ) (acts : List Numbered) (later : ascends last acts ≡ true) where
  pub one_saying : (s t : Saying) → In s (sayings acts) → In t (sayings acts) → s.line ≡ t.line → s ≡ t
  one_saying s t i j e =
      let a = from_map (λ (x : Numbered). saying_in x.0 x.1) acts s i in
      let b = from_map (λ (x : Numbered). saying_in x.0 x.1) acts t j in
      let same : a.0 ≡ b.0 = one_act last acts later a.0 b.0 a.1 b.1 (says_no_step a.0.0 a.0.1 s a.2) (says_no_step b.0.0 b.0.1 t b.2)
      (sym (saying_of a.0.0 a.0.1 s a.2) ∙ e ∙ saying_of b.0.0 b.0.1 t b.2) in
      let both : Some s ≡ Some t = sym a.2 ∙ ap (λ (x : Numbered). saying_in x.0 x.1) same ∙ b.2 in
      cc

  pub one_query : (p q : Asked) → In p (queries acts) → In q (queries acts) → p.line ≡ q.line → p ≡ q
  one_query p q i j e =
      let a = from_map (λ (x : Numbered). asked_in x.0 x.1) acts p i in
      let b = from_map (λ (x : Numbered). asked_in x.0 x.1) acts q j in
      let same : a.0 ≡ b.0 = one_act last acts later a.0 b.0 a.1 b.1 (asks_no_step a.0.0 a.0.1 p a.2) (asks_no_step b.0.0 b.0.1 q b.2)
      (sym (asked_of a.0.0 a.0.1 p a.2) ∙ e ∙ asked_of b.0.0 b.0.1 q b.2) in
      let both : Some p ≡ Some q = sym a.2 ∙ ap (λ (x : Numbered). asked_in x.0 x.1) same ∙ b.2 in
      cc
