-- By the deeds of an act the hop behind it is known from the one before (`upper_hop`, `lower_hop`).
use Rattle.std.proofs.Common.{◌≡◌, ℕ, ◌==◌, Bool, true, false, cond, List, [], ◌∷◌, ◌++◌, filter, sym, ap, ◌∙◌, subst}
use Rattle.std.specs.Prelude.{IfSome}
use Rattle.zr_world_spec.specs.World.{WorldState}
use Rattle.zr_guarantee.specs.Queries.{Asked as Query}
use Rattle.zr_law_queries.specs.Link.{has_number, Free, Asked as AskedHop, Open, ShowsAt, hop_taken, hop_replied, hop_ended, hop_heard, hop_left}
use Rattle.zr_law_numbers.specs.Waiting.{Said, link_of, is_whole}
use Rattle.zr_law_numbers.specs.Deeds.{Deed, Asks, Hears, Closes, Leaves, Takes, Replies, Ends}
use Rattle.zr_law_numbers.proofs.Leading.{Wire, handled}
use Rattle.zr_law_numbers.proofs.Doing.{Above, Below, Moves, Same, Upper, Lower}
use Rattle.zr_law_replies.specs.Answers.{HopState, line_of}
use Rattle.zr_law_replies.proofs.Links.{Lines, lines_on, first_line}
use Rattle.zr_law_replies.proofs.ShownHops.{plain}
use Rattle.zr_law_replies.proofs.StandSteps.{Hops}
use Rattle.zr_law_replies.proofs.StandStep.{request_of, PlainHops}
use Rattle.zr_law_replies.proofs.StandSameHops.{taken_line, hop_shown, line_there}
use Rattle.zr_law_replies.proofs.DeedHops.{upper_shows, lower_shows}
pub use Rattle.zr_law_replies.proofs.DeedHops.{above_hops, below_hops, above_append, below_append}

-- any deed
abbrev pub Any : Deed → Type 0
Any d = Unit {0}

-- ---- the line of a hop

module _ (n line : ℕ) where
  abbrev Taken : HopState → Type 0
  Taken h = IfSome (taken_line h) (λ l. l ≡ line)

  abbrev OfLine : HopState → Type 0
  OfLine h = IfSome (line_of h) (λ l. l ≡ line)

  of_line : (h : HopState) → OfLine h → Taken h
  of_line Free o = tt
  of_line (AskedHop r by) o = tt
  of_line (Open r by rs done) o = o

  -- one of two
  either : (P : HopState → Type 0) (b : Bool) (h k : HopState) → P h → P k → P (cond b h k)
  either P true h k p q = p
  either P false h k p q = q

  heard_taken : (h : HopState) → Taken h → Taken (hop_heard h)
  heard_taken Free t = tt
  heard_taken (AskedHop r by) t = tt
  heard_taken (Open r by [] done) t = t
  heard_taken (Open r by (z ∷ rs) done) t = t

  left_taken : (h : HopState) → Taken h → Taken (hop_left h)
  left_taken Free t = tt
  left_taken (AskedHop r by) t = tt
  left_taken (Open r by rs done) t = t

  above_taken : (ds : List Deed) (h : HopState) → Taken h → Taken (above_hops n ds h)
  above_taken [] h t = t
  above_taken (Asks number request by ∷ ds) h t = above_taken ds (cond (number == n) (AskedHop request by) h) (either Taken (number == n) (AskedHop request by) h tt t)
  above_taken (Hears number ∷ ds) h t = above_taken ds (cond (number == n) (hop_heard h) h) (either Taken (number == n) (hop_heard h) h (heard_taken h t) t)
  above_taken (Closes number ∷ ds) h t = above_taken ds (cond (number == n) Free h) (either Taken (number == n) Free h tt t)
  above_taken (Leaves number ∷ ds) h t = above_taken ds (cond (number == n) (hop_left h) h) (either Taken (number == n) (hop_left h) h (left_taken h t) t)
  above_taken (Takes number ∷ ds) h t = above_taken ds h t
  above_taken (Replies number said ∷ ds) h t = above_taken ds h t
  above_taken (Ends number ∷ ds) h t = above_taken ds h t

  taken_line_is : (h : HopState) → OfLine h → OfLine (hop_taken h)
  taken_line_is Free o = tt
  taken_line_is (AskedHop r by) o = o
  taken_line_is (Open r by rs done) o = o

  replied_line_is : (said : Said) (h : HopState) → OfLine h → OfLine (hop_replied said h)
  replied_line_is said Free o = tt
  replied_line_is said (AskedHop r by) o = o
  replied_line_is said (Open r by rs done) o = o

  ended_line_is : (h : HopState) → OfLine h → OfLine (hop_ended h)
  ended_line_is Free o = tt
  ended_line_is (AskedHop r by) o = o
  ended_line_is (Open r by rs done) o = o

  below_line : (ds : List Deed) (h : HopState) → OfLine h → OfLine (below_hops n ds h)
  below_line [] h o = o
  below_line (Asks number request by ∷ ds) h o = below_line ds h o
  below_line (Hears number ∷ ds) h o = below_line ds h o
  below_line (Closes number ∷ ds) h o = below_line ds h o
  below_line (Leaves number ∷ ds) h o = below_line ds h o
  below_line (Takes number ∷ ds) h o = below_line ds (cond (number == n) (hop_taken h) h) (either OfLine (number == n) (hop_taken h) h (taken_line_is h o) o)
  below_line (Replies number said ∷ ds) h o = below_line ds (cond (number == n) (hop_replied said h) h) (either OfLine (number == n) (hop_replied said h) h (replied_line_is said h o) o)
  below_line (Ends number ∷ ds) h o = below_line ds (cond (number == n) (hop_ended h) h) (either OfLine (number == n) (hop_ended h) h (ended_line_is h o) o)

  -- no request waits under the number of one that was taken
  line_taken : (m : Wire) (h : HopState) → ShowsAt m n h → Taken h → IfSome (taken_line h) (λ l. l ≡ first_line (filter (has_number n) m.asks) line)
  line_taken m Free s t = tt
  line_taken m (AskedHop r by) s t = tt
  line_taken m (Open r by rs done) s t = t ∙ ap (λ z. first_line z line) (sym s.asks)

-- ---- two worlds

module _ (w : WorldState) (q : Query) (v : WorldState) (lines : Lines) (hop : Hops) (p : PlainHops w q v lines hop) (v' : WorldState) (hop' : Hops) (p' : PlainHops w q v' (lines_on v' lines) hop')
    (x y : List ℕ) (whole : is_whole v x y ≡ true) (whole' : is_whole v' x y ≡ true) (above below : Deed → Type 0) (n : ℕ) where
  -- what the deeds of an end lead to is the hop then
  pub upper_hop : (u : Above above (link_of v x y) (link_of v' x y)) → hop' x y n ≡ plain (request_of w q y) (above_hops n (handled u.came ++ u.own) (hop x y n))
  upper_hop u =
      let shows = upper_shows above (link_of v x y) (link_of v' x y) (hop x y) (p.shows x y whole) u n in
      hop_shown w q v' (lines_on v' lines) hop' p' x y whole' n (above_hops n (handled u.came ++ u.own) (hop x y n)) shows
      (line_taken n (lines x y n) (link_of v' x y) (above_hops n (handled u.came ++ u.own) (hop x y n)) shows
      (above_taken n (lines x y n) (handled u.came ++ u.own) (hop x y n) (of_line n (lines x y n) (hop x y n) (line_there w q v lines hop p x y whole n))))

  pub lower_hop : (d : Below below (link_of v x y) (link_of v' x y)) → hop' x y n ≡ plain (request_of w q y) (below_hops n (handled d.came ++ d.own) (hop x y n))
  lower_hop d =
      let shows = lower_shows below (link_of v x y) (link_of v' x y) (hop x y) (p.shows x y whole) d n in
      hop_shown w q v' (lines_on v' lines) hop' p' x y whole' n (below_hops n (handled d.came ++ d.own) (hop x y n)) shows
      (line_taken n (lines x y n) (link_of v' x y) (below_hops n (handled d.came ++ d.own) (hop x y n)) shows
      (of_line n (lines x y n) (below_hops n (handled d.came ++ d.own) (hop x y n)) (below_line n (lines x y n) (handled d.came ++ d.own) (hop x y n) (line_there w q v lines hop p x y whole n))))

  -- a link that is as it was shows what it showed
  pub still_hop : link_of v x y ≡ link_of v' x y → hop' x y n ≡ hop x y n
  still_hop e =
      let shows : ShowsAt (link_of v' x y) n (hop x y n) = subst (λ l. ShowsAt l n (hop x y n)) e (p.shows x y whole n) in
      hop_shown w q v' (lines_on v' lines) hop' p' x y whole' n (hop x y n) shows
      (line_taken n (lines x y n) (link_of v' x y) (hop x y n) shows (of_line n (lines x y n) (hop x y n) (line_there w q v lines hop p x y whole n)))
      ∙ p.taken x y n

  -- what an act makes of the hop under the number
  abbrev pub deeds_hop : Moves above below (link_of v x y) (link_of v' x y) → HopState → HopState
  deeds_hop (Same e) h = h
  deeds_hop (Upper u) h = above_hops n (handled u.came ++ u.own) h
  deeds_hop (Lower d) h = below_hops n (handled d.came ++ d.own) h

  pub moves_hop : (moves : Moves above below (link_of v x y) (link_of v' x y)) → hop' x y n ≡ plain (request_of w q y) (deeds_hop moves (hop x y n))
  moves_hop (Same e) = still_hop e ∙ sym (p.taken x y n)
  moves_hop (Upper u) = upper_hop u
  moves_hop (Lower d) = lower_hop d
