-- Where nothing is under way, nothing of a query is on its way on any link of its tree (`quiet_at_rest`).
use Rattle.std.proofs.Common.{◌≡◌, ℕ, Bool, true, false, List, [], ◌∷◌, ◌++◌, filter, Option, Some, None, refl, sym, ap, ◌∙◌}
use Rattle.std.specs.List.{flat_map}
use Rattle.std.specs.Option.{option_map_or}
use Rattle.zr_world_spec.specs.World.{Tagged, EndState, End, end_of, is_quiet, wire_at as on_wire}
use Rattle.zr_world_spec.specs.Moments.{Numbered, Moment}
use Rattle.zr_guarantee.specs.Queries.{Asked}
use Rattle.zr_law_settled.proofs.Worlds.{queue_at as in_queue}
use Rattle.zr_law_samples.proofs.Final.{none_under_way}
use Rattle.zr_law_queries.specs.Link.{has_number, answers_number, asks_of, answers_of, answers_with}
use Rattle.zr_law_queries.specs.Query.{Stage, NotYet, OnTheWay, Here as AtNode, Over, is_at_rest, IsQuiet}
use Rattle.zr_law_numbers.specs.Waiting as waiting
use Rattle.zr_law_numbers.specs.Waiting.{Said, Place, wire_at, queue_at, waits, asks, answers, asks_in, answers_in, is_whole}
use Rattle.zr_law_replies.specs.Answers.{HopState}
use Rattle.zr_law_replies.specs.Trees.{tree_at}
use Rattle.zr_law_replies.specs.Stands.{Shown, asked_at, request_to}
use Rattle.zr_law_replies.proofs.StandStep.{Begins, Here}
use Rattle.zr_law_replies.proofs.StandHere.{kids, whole_now}

-- nothing waits on any link
nothing_waits : (m : Moment) → is_quiet m.world ≡ true → (x y : List ℕ) → waits m.world x y ≡ []
nothing_waits m quiet x y = (λ i. wires (y, x) i ++ queues (x, y) i)
  where
    wires : (e : End) → wire_at m.world.ends e ≡ []
    wires e = by (end_of m.world.ends e) ∙ (none_under_way m e quiet).1
      where
        by : (o : Option EndState) → option_map_or (λ (s : EndState). s.wire) o [] ≡ on_wire o
        by None = refl
        by (Some s) = refl

    queues : (e : End) → queue_at m.world.ends e ≡ []
    queues e = by (end_of m.world.ends e) ∙ (none_under_way m e quiet).0
      where
        by : (o : Option EndState) → option_map_or (λ (s : EndState). s.queue) o [] ≡ in_queue o
        by None = refl
        by (Some s) = refl

-- a stage whose hop has nothing on its way is at rest
rest_of : (request : waiting.Asked) (from : Place) (k : ℕ) (u : Stage Said) (h : HopState) → Shown request from u h → [] ≡ asks_of k h → [] ≡ answers_of k h → is_at_rest u ≡ true
rest_of request from k NotYet h shown no_ask no_answer = refl
rest_of request from k OnTheWay h shown no_ask no_answer = absurd (some_ask (no_ask ∙ ap (asks_of k) shown))
  where
    some_ask : {X : Type 0} {x : X} {xs : List X} → [] ≡ x ∷ xs → ⊥
    some_ask e = absurd (cc)
rest_of request from k (AtNode rs done) h shown no_ask no_answer = by rs done (no_answer ∙ ap (answers_of k) shown)
  where
    by : (rs : List Said) (done : Bool) → [] ≡ answers_with k rs done → is_at_rest (AtNode rs done) ≡ true
    by [] false e = refl
    by [] true e = absurd (cc)
    by (r ∷ rs) done e = absurd (cc)
rest_of request from k Over h shown no_ask no_answer = refl

module _ (before : List Numbered) (mark : ℕ) (start : Moment) (q : Asked) (b : Begins before mark start q) (phase acts : List Numbered) (m : Moment) (here : Here start.world phase q acts m) where
  pub quiet_at_rest : is_quiet m.world ≡ true → IsQuiet (tree_at start.world q) here.stands.stage
  quiet_at_rest quiet x y kid =
      let whole = whole_now before mark start q b phase acts m here x y (kids before mark start q b x y kid) in
      let k = here.stands.num y in
      let shows = here.plain.shows x y whole k in
      rest_of (request_to start.world q y) (asked_at (tree_at start.world q) here.stands.num x) k (here.stands.stage y) (here.hop x y k) (here.stands.marks.shown x y kid)
      (sym (ap (λ ts. filter (has_number k) (flat_map (λ (t : Tagged). asks_in t.tag t.msg) ts)) (nothing_waits m quiet x y)) ∙ shows.asks)
      (sym (ap (λ ts. filter (answers_number k) (flat_map (λ (t : Tagged). answers_in t.tag t.msg) ts)) (nothing_waits m quiet y x)) ∙ shows.answers)
