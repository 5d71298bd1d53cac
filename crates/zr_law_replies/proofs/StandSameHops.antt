-- Hops of two worlds. What a link shows under a number decides the hop there: it is the same where the link shows the same, and it is the one that is
-- expected where the link shows that one (`hop_shown`, `hop_same`).
use Rattle.std.proofs.Common.{◌≡◌, ℕ, true, List, [], ◌∷◌, filter, Option, Some, None, refl, sym, ap, ◌∙◌}
use Rattle.std.specs.Prelude.{IfSome}
use Rattle.zr_world_spec.specs.World.{WorldState}
use Rattle.zr_world_spec.specs.Moments.{Numbered, Moment}
use Rattle.zr_guarantee.specs.Queries.{Asked}
use Rattle.zr_law_queries.specs.Link.{ask, has_number, answers_number, Free, Asked as AskedHop, Open, asks_of, asked_by, ShowsAt}
use Rattle.zr_law_queries.specs.Query.{IsTree, is_child}
use Rattle.zr_law_queries.proofs.Hops.{is_free}
use Rattle.zr_law_numbers.specs.Waiting as waiting
use Rattle.zr_law_numbers.specs.Waiting.{Place, back_at, link_of, is_whole}
use Rattle.zr_law_numbers.proofs.Leading.{Wire}
use Rattle.zr_law_replies.specs.Answers.{HopState, line_of}
use Rattle.zr_law_replies.specs.Trees.{tree_at}
use Rattle.zr_law_replies.specs.Stands.{is_of, Stands, request_to}
use Rattle.zr_law_replies.proofs.Links.{Lines}
use Rattle.zr_law_replies.proofs.ShownHops.{first_request, plain, plain_same}
use Rattle.zr_law_replies.proofs.MarkChanges.{foreign_marks}
use Rattle.zr_law_replies.proofs.StandSteps.{Hops}
use Rattle.zr_law_replies.proofs.StandStep.{request_of, PlainHops}

-- two links have the same under a number
pub record SameAt (l m : Wire) (n : ℕ) : Type 0 where
  pub asks : filter (has_number n) m.asks ≡ filter (has_number n) l.asks
  pub answers : filter (answers_number n) m.answers ≡ filter (answers_number n) l.answers
  pub keeps : m.keeps n ≡ l.keeps n
  pub back : m.back n ≡ l.back n

-- as one link does
pub same_at : (l m : Wire) → l ≡ m → (n : ℕ) → SameAt l m n
same_at l m e n = record {
  asks = ap (λ (z : Wire). filter (has_number n) z.asks) (sym e);
  answers = ap (λ (z : Wire). filter (answers_number n) z.answers) (sym e);
  keeps = ap (λ (z : Wire). z.keeps n) (sym e);
  back = ap (λ (z : Wire). z.back n) (sym e);
}

-- the line of a request that was taken
abbrev pub taken_line : HopState → Option ℕ
taken_line Free = None
taken_line (AskedHop r by) = None
taken_line (Open r by rs done) = Some r.line

asked_line : (n : ℕ) (r : waiting.Asked) (k : HopState) → ask n r ∷ [] ≡ asks_of n k → Some r.line ≡ line_of k
asked_line n r Free e = absurd (cc)
asked_line n r (AskedHop q by) e = ap (λ zs. Some (first_request r zs).line) e
asked_line n r (Open q by rs done) e = absurd (cc)

-- ---- one world

module _ (w : WorldState) (q : Asked) (v : WorldState) (lines : Lines) (hop : Hops) (p : PlainHops w q v lines hop) (x y : List ℕ) (whole : is_whole v x y ≡ true) (n : ℕ) where
  -- a hop that the link shows, of the line of the one that is there
  pub hop_moved : (h : HopState) → ShowsAt (link_of v x y) n h → line_of h ≡ line_of (hop x y n) → hop x y n ≡ plain (request_of w q y) h
  hop_moved h s line = sym (p.taken x y n) ∙ plain_same (request_of w q y) (link_of v x y) n (hop x y n) h (p.shows x y whole n) s (sym line)

  line_shown : (h : HopState) → ShowsAt (link_of v x y) n h → IfSome (taken_line h) (λ l. l ≡ lines x y n) → line_of h ≡ line_of (hop x y n)
  line_shown Free s t = ap line_of (sym (is_free (hop x y n) (sym s.back ∙ (p.shows x y whole n).back)))
  line_shown (AskedHop r by) s t = asked_line n r (hop x y n) (sym s.asks ∙ (p.shows x y whole n).asks)
  line_shown (Open r by rs done) s t = ap (λ z. Some z) t ∙ sym (p.line x y n by whole s.back)

  -- a hop that the link shows, of the number's line if its request was taken
  pub hop_shown : (h : HopState) → ShowsAt (link_of v x y) n h → IfSome (taken_line h) (λ l. l ≡ lines x y n) → hop x y n ≡ plain (request_of w q y) h
  hop_shown h s t = hop_moved h s (line_shown h s t)

  -- a hop is of its number's line, if it is of one
  pub line_there : IfSome (line_of (hop x y n)) (λ l. l ≡ lines x y n)
  line_there = at (hop x y n) refl
    where
      same : (a b : ℕ) → Some a ≡ Some b → a ≡ b
      same a b e = cc

      at : (h : HopState) → hop x y n ≡ h → IfSome (line_of h) (λ l. l ≡ lines x y n)
      at Free e = tt
      at (AskedHop r by) e = same r.line (lines x y n) (sym (ap line_of e) ∙ p.line x y n by whole ((p.shows x y whole n).back ∙ ap asked_by e))
      at (Open r by rs done) e = same r.line (lines x y n) (sym (ap line_of e) ∙ p.line x y n by whole ((p.shows x y whole n).back ∙ ap asked_by e))

  -- it is open where its request is kept, and free where the number is not pending
  pub free_there : back_at v x y n ≡ None → hop x y n ≡ Free
  free_there e = is_free (hop x y n) (sym e ∙ (p.shows x y whole n).back)

-- ---- two worlds

module _ (w : WorldState) (q : Asked) (v : WorldState) (lines : Lines) (hop : Hops) (p : PlainHops w q v lines hop) (v' : WorldState) (lines' : Lines) (hop' : Hops) (p' : PlainHops w q v' lines' hop')
    (x y : List ℕ) (whole : is_whole v x y ≡ true) (whole' : is_whole v' x y ≡ true) (n : ℕ) where
  -- where the link has the same under a number, and the number's line stays if it is pending, the hop stays
  pub hop_same : SameAt (link_of v x y) (link_of v' x y) n → ((by : Option Place) → back_at v x y n ≡ Some by → lines' x y n ≡ lines x y n) → hop' x y n ≡ hop x y n
  hop_same same line = hop_shown w q v' lines' hop' p' x y whole' n (hop x y n) shows (taken (hop x y n) refl) ∙ p.taken x y n
    where
      was : ShowsAt (link_of v x y) n (hop x y n)
      was = p.shows x y whole n

      shows : ShowsAt (link_of v' x y) n (hop x y n)
      shows = record { asks = same.asks ∙ was.asks; answers = same.answers ∙ was.answers; keeps = same.keeps ∙ was.keeps; back = same.back ∙ was.back }

      number : (a b : ℕ) → Some a ≡ Some b → a ≡ b
      number a b e = cc

      taken : (h : HopState) → hop x y n ≡ h → IfSome (taken_line h) (λ l. l ≡ lines' x y n)
      taken Free e = tt
      taken (AskedHop r by) e = tt
      taken (Open r by rs done) e =
          let back : back_at v x y n ≡ Some by = was.back ∙ ap asked_by e in
          number r.line (lines x y n) (sym (ap line_of e) ∙ p.line x y n by whole back) ∙ sym (line by back)

-- ---- a query's standing

-- a query stands with hops that are the same on links that are whole
pub stands_hop : (w : WorldState) (phase : List Numbered) (q : Asked) (acts : List Numbered) (m : Moment) (hop hop' : Hops) → IsTree (tree_at w q) →
    ((x y : List ℕ) → is_child (tree_at w q) x y ≡ true → is_whole w x y ≡ true) → ((x y : List ℕ) (n : ℕ) → is_whole w x y ≡ true → hop' x y n ≡ hop x y n) →
    Stands w phase q acts m hop → Stands w phase q acts m hop'
stands_hop w phase q acts m hop hop' is kids same s = record {
  num = s.num;
  stage = s.stage;
  still = s.still;
  sound = s.sound;
  marks = foreign_marks (tree_at w q) is (request_to w q) q.line (λ y. refl) (is_whole w) kids s.num s.stage hop hop' s.marks (λ a b k there o. same a b k there)
      (λ a b k there o. ap (is_of q.line) (same a b k there) ∙ o);
  rows = s.rows;
  number = s.number;
  asked = s.asked;
  waits = s.waits;
  told = s.told;
  got = s.got;
  fresh = s.fresh;
  holds = s.holds;
  course = s.course;
  ended = s.ended;
  root = s.root;
}
