-- The query of each number of each unbroken link (`LinesHold`): acts that do on links what is fine keep it (`lines_go`).
use Rattle.std.proofs.Common.{◌≡◌, ℕ, ◌⊎◌, inl, inr, true, List, Option, Some, refl, sym, ap, ◌∙◌, subst}
use Rattle.std.proofs.lemmas.Bool.{false≢true}
use Rattle.std.proofs.lemmas.Option.{none-some}
use Rattle.zr_script_spec.specs.declared.report.ReportLine.{ReportLine}
use Rattle.zr_world_spec.specs.World.{RouterState, WorldState, router_of}
use Rattle.zr_world_spec.specs.Moments.{Numbered}
use Rattle.zr_world_spec.specs.Sound.{IsSound}
use Rattle.zr_law_settled.proofs.Orderly.{Orderly}
use Rattle.zr_law_queries.specs.Link.{Hop, Free, Asked as AskedHop, Open, is_kept, asked_by, Shows, fresh}
use Rattle.zr_law_queries.proofs.Hops.{fresh_shows}
use Rattle.zr_law_numbers.specs.Rows.{AreOfLinks}
use Rattle.zr_law_numbers.specs.Waiting.{Asked, Said, Place, is_kept_by, back_at, link_of, is_whole}
use Rattle.zr_law_numbers.proofs.Leading.{Wire}
use Rattle.zr_law_numbers.proofs.Whole.{LinksGo, whole_apart}
use Rattle.zr_law_replies.proofs.Links.{Lines, IsOf, lines_on, line_on, FineAsk, FineSay, Grows, Keeps, moves_keep, moves_back}
use Rattle.zr_law_replies.proofs.Keeps.{asker_keeps}

-- each number of an unbroken link is of one query's line, and so is the number of who asked, where that link is unbroken too
pub record LinesHold (acts : List Numbered) (report : List ReportLine) (w : WorldState) (lines : Lines) : Type 0 where
  pub is : (x y : List ℕ) (k : ℕ) → is_whole w x y ≡ true → IsOf acts report x (link_of w x y) k (lines x y k)
  pub back : (x y : List ℕ) (k : ℕ) (p : Place) → is_whole w x y ≡ true → back_at w x y k ≡ Some (Some p) → is_whole w p.name x ≡ true → lines x y k ≡ lines p.name x p.number

-- each unbroken link shows hops, and what routers keep is of their links
pub record AllShow (w : WorldState) : Type 0 where
  pub links : (x y : List ℕ) → is_whole w x y ≡ true → (hops : ℕ → Hop Asked Place Said) × Shows (link_of w x y) hops
  pub tables : (x : List ℕ) (r : RouterState) → router_of w.routers x ≡ Some r → AreOfLinks r.node

-- a request that is kept is pending
pub kept_pending : (l : Wire) (hops : ℕ → Hop Asked Place Said) → Shows l hops → (k : ℕ) → l.keeps k ≡ true → (by : Option Place) × (l.back k ≡ Some by)
kept_pending l hops shows k e = at (hops k) refl
  where
    at : (h : Hop Asked Place Said) → hops k ≡ h → (by : Option Place) × (l.back k ≡ Some by)
    at Free f = absurd (false≢true (sym (ap is_kept f) ∙ sym (shows k).keeps ∙ e))
    at (AskedHop q b) f = absurd (false≢true (sym (ap is_kept f) ∙ sym (shows k).keeps ∙ e))
    at (Open q b rs d) f = (b, (shows k).back ∙ ap asked_by f)

module _ (acts : List Numbered) (report : List ReportLine) (acts' : List Numbered) (report' : List ReportLine) (grows : Grows acts report acts' report') (w v : WorldState) (lines : Lines)
    (sound : IsSound w) (sound' : IsSound v) (orderly : Orderly w) (shows : AllShow w) (shows' : AllShow v) (holds : LinesHold acts report w lines)
    (goes : LinksGo (FineAsk acts' w v lines) (FineSay acts' report' v lines) w v) where
  -- before the act nothing stood under the numbers of a new link
  module _ (x y : List ℕ) (whole : is_whole v x y ≡ true) where
    shows_before : (hops : ℕ → Hop Asked Place Said) × Shows (link_of w x y) hops
    shows_before = at (goes x y whole).0
      where
        at : (is_whole w x y ≡ true) ⊎ (link_of w x y ≡ fresh) → (hops : ℕ → Hop Asked Place Said) × Shows (link_of w x y) hops
        at (inl old) = shows.links x y old
        at (inr new) = ((λ n. Free), subst (λ l. Shows l (λ n. Free)) (sym new) (fresh_shows Asked Place Said))

    is_before : (k : ℕ) → IsOf acts report x (link_of w x y) k (lines x y k)
    is_before k = at (goes x y whole).0
      where
        nothing : IsOf acts report x fresh k (lines x y k)
        nothing = record { asks = tt; said = tt; asked = λ by e. absurd (none-some by e) }

        at : (is_whole w x y ≡ true) ⊎ (link_of w x y ≡ fresh) → IsOf acts report x (link_of w x y) k (lines x y k)
        at (inl old) = holds.is x y k old
        at (inr new) = subst (λ l. IsOf acts report x l k (lines x y k)) (sym new) nothing

    pub keeps_on : (k : ℕ) → Keeps acts report acts' report' grows w v lines x y whole k
    keeps_on k = moves_keep acts report acts' report' grows w v lines x y whole k (is_before k) shows_before.0 (shows'.links x y whole).0 shows_before.1 (shows'.links x y whole).1 (goes x y whole).1

    -- a number that is pending stays of its query
    pub pending_same : (k : ℕ) (by : Option Place) → back_at w x y k ≡ Some by → lines_on v lines x y k ≡ lines x y k
    pending_same k by e = (keeps_on k).same by e

    pub kept_same : (k : ℕ) → is_kept_by w x y k ≡ true → lines_on v lines x y k ≡ lines x y k
    kept_same k e = let pending = kept_pending (link_of w x y) shows_before.0 shows_before.1 k e in pending_same k pending.0 pending.1

    -- and was on an unbroken link
    pub pending_whole : (k : ℕ) (by : Option Place) → back_at w x y k ≡ Some by → is_whole w x y ≡ true
    pending_whole k by e = at (goes x y whole).0
      where
        at : (is_whole w x y ≡ true) ⊎ (link_of w x y ≡ fresh) → is_whole w x y ≡ true
        at (inl old) = old
        at (inr new) = absurd (none-some by (sym (ap (λ (l : Wire). l.back k) new) ∙ e))

    pub kept_whole : (k : ℕ) → is_kept_by w x y k ≡ true → is_whole w x y ≡ true
    kept_whole k e = at (goes x y whole).0
      where
        at : (is_whole w x y ≡ true) ⊎ (link_of w x y ≡ fresh) → is_whole w x y ≡ true
        at (inl old) = old
        at (inr new) = absurd (false≢true (sym (ap (λ (l : Wire). l.keeps k) new) ∙ e))

  pub lines_go : LinesHold acts' report' v (lines_on v lines)
  lines_go = record { is = λ x y k whole. (keeps_on x y whole k).is; back = back_then }
    where
      back_then : (x y : List ℕ) (k : ℕ) (p : Place) → is_whole v x y ≡ true → back_at v x y k ≡ Some (Some p) → is_whole v p.name x ≡ true → lines_on v lines x y k ≡ lines_on v lines p.name x p.number
      back_then x y k p whole e above =
          at (moves_back acts report acts' report' grows w v lines x y whole k p (shows'.links x y whole).0 (shows'.links x y whole).1 (goes x y whole).1 e)
        where
          at : (back_at w x y k ≡ Some (Some p)) ⊎
              (is_whole v p.name x ≡ true → (line_on (link_of v x y) k (lines x y k) ≡ lines p.name x p.number) × (o : Option Place) × (back_at w p.name x p.number ≡ Some o)) →
              lines_on v lines x y k ≡ lines_on v lines p.name x p.number
          at (inl old) =
              let kept : is_kept_by w p.name x p.number ≡ true = asker_keeps w sound orderly x y k p (whole_apart v sound' p.name x above) old in
              pending_same x y whole k (Some p) old ∙ holds.back x y k p (pending_whole x y whole k (Some p) old) old (kept_whole p.name x above p.number kept)
              ∙ sym (kept_same p.name x above p.number kept)
          at (inr new) = let got = new above in got.0 ∙ sym (pending_same p.name x above p.number got.1 got.2)
