-- A fan ends: what is under way is worth no more than a fan may have steps, each step takes something of it, and where no step is possible nothing is
-- under way.
use Rattle.std.proofs.Common.{◌≡◌, ◌≤◌, ◌+◌, max, true, false, List, [], ◌∷◌, ◌++◌, length, Ok, Err, inl, inr, refl, sym, ap, ◌∙◌, arith}
use Rattle.std.specs.Prelude.{is_ok, map, IfOk}
use Rattle.std.specs.List.{sum_by}
use Rattle.std.specs.Map.{keys_of}
use Rattle.std.proofs.lemmas.Bool.{false≢true, ltb-false}
use Rattle.std.proofs.lemmas.List.Sums.{sum_by-cons}
use Rattle.zr_orders.specs.Bag.{weigh}
use Rattle.zr_graph.specs.Record.{IsAscending}
use Rattle.zr_tree.proofs.Paths.{graph_is}
use Rattle.zr_script_spec.specs.declared.command.Act.{Act}
use Rattle.zr_script_spec.specs.declared.report.ReportLine.{ReportLine}
use Rattle.zr_script_spec.specs.Step.{◌>>=◌}
use Rattle.zr_world_spec.specs.World.{Tagged, End, EndState, Ends, WorldState, is_settled, most_clients}
use Rattle.zr_world_spec.specs.Fan.{waiting_at, are_many, most_fanned, most_fan_steps, fanned}
use Rattle.zr_world_spec.specs.Moments.{reached}
use Rattle.zr_world_spec.specs.Next.{Done, all_done, fan_steps, fan_done}
use Rattle.zr_world_spec.proofs.Lines.{at_some, all_steps}
use Rattle.zr_law_settled.proofs.Order.{Ascend, routers_ascend}
use Rattle.zr_law_settled.proofs.Rest.{edges_are, weights_are}
use Rattle.zr_law_settled.proofs.Graphs.{is_graph}
use Rattle.zr_law_settled.proofs.Goes.{Goes}
use Rattle.zr_law_settled.proofs.UpEnds.{met_settled}
use Rattle.zr_law_fan.specs.Samples.{Handling, Taking, at_end, under_way, AreSamples, HaveMoved}
use Rattle.zr_law_fan.proofs.Running.{runs_move}
use Rattle.zr_law_fan.proofs.Ending.{HasEnded, run_ends}
use Rattle.zr_law_fans.specs.Scripts.{FansEnd}
use Rattle.zr_law_fans.proofs.Worth.{worth, SeesItsPart}
use Rattle.zr_law_fans.proofs.Bound.{worlds_few, spent, none_left}
use Rattle.zr_law_fans.proofs.Calm.{goes, stands, scripts_are_calm}
use Rattle.zr_law_fans.proofs.Accepting.{IsAccepted, accepted, samples_of}
use Rattle.zr_law_fans.proofs.Resting.{met_same, rested, all_go, no_step}

-- each router sees the links that are up, as far as it reaches
sees : (w : WorldState) → Goes w → is_settled w ≡ true → IsAscending (keys_of w.routers) → SeesItsPart w
sees w g settled ascend = record {
  is_graph = is_graph w g.sound g.holds settled ascend;
  records = λ x r found. graph_is r.node.base.records (g.holds.in_order x r found).ascending;
  agrees = λ x r found z path walk y. (edges_are w g.sound g.holds settled path x z y r found walk, ap (λ n. max 1 n) (weights_are w g.sound g.holds settled path x z y r found walk));
}

-- as many moves are under way as messages wait
long : (es : Ends) → length (under_way es) ≡ sum_by (λ e. length (waiting_at e.1)) es
long [] = refl
long (e ∷ es) =
    let sum = sum_by-cons (λ (z : End × EndState). length (waiting_at z.1)) e es in
    let more = long es in
    let parts = both (at_end e.0 e.1) (under_way es) in
    let here = waits e.1.wire e.1.queue in
    omega (arith, sum, more, parts, here)
  where
    both : {X : Type 0} (xs ys : List X) → length (xs ++ ys) ≡ length xs + length ys
    both [] ys = omega arith
    both (x ∷ xs) ys = omega (arith, both xs ys)

    queued : (queue : List Tagged) → length (map (λ m. Taking e.0 m) queue) ≡ length queue
    queued [] = refl
    queued (m ∷ queue) = omega (arith, queued queue)

    waits : (wire queue : List Tagged) → length (map (λ m. Handling e.0 m) wire ++ map (λ m. Taking e.0 m) queue) ≡ length (wire ++ queue)
    waits [] queue = queued queue
    waits (m ∷ wire) queue = omega (arith, waits wire queue)

module _ (w : WorldState) (g : Goes w) (settled : is_settled w ≡ true) (ascend : IsAscending (keys_of w.routers)) (few_clients : length w.clients ≤ most_clients)
    (samples : AreSamples w) (few : are_many w ≡ false) where
  abbrev seen : SeesItsPart w
  seen = sees w g settled ascend

  worth_all : weigh (worth w) (under_way w.ends) ≤ most_fan_steps
  unfolding most_fan_steps
  worth_all =
      let one = worlds_few w g.sound seen g.holds.twins g.clients g.bounded.1.few few_clients samples in
      let all = long w.ends in
      let most = ltb-false most_fanned (sum_by (λ e. length (waiting_at e.1)) w.ends) few in
      omega (arith, one, all, most)

  module _ (acts : List Act) (y : List ReportLine × WorldState) (moved : HaveMoved w y.1 y.0 acts) (after : Goes y.1) where
    over : HasEnded most_fan_steps acts y → under_way y.1.ends ≡ []
    over (inl none) = rested y.1 after.sound after.orderly (met_same w y.1 moved.same (met_settled w settled)) none
    over (inr whole) =
        let steps = spent w g.sound seen g.holds.twins g.clients g.bounded.1.few few_clients moved.moved (under_way w.ends) (under_way y.1.ends) samples moved.goes in
        let many = moved.as_many in
        none_left w g.sound seen g.holds.twins g.clients g.bounded.1.few few_clients (under_way y.1.ends) (omega (arith, steps, many, whole, worth_all))

pub fans_end : FansEnd
unfolding fan_done
fans_end acts m is line fan fans = (nothing, no_step fan.1 nothing)
  where
    w : WorldState
    w = m.world

    yes : IsAccepted w line fan
    yes = accepted w line fan fans

    g : Goes w
    g = goes acts m is

    samples : AreSamples w
    samples = samples_of w.ends yes.samples

    tells : List ReportLine × WorldState → Done
    tells x = Ok (fanned x.1.routers x.0 ∷ [], x.1)

    by : (d : Done) → IfOk d (λ y. HaveMoved w y.1 y.0 (fan_steps line w)) → IfOk d (λ y. Goes y.1) → IfOk d (HasEnded most_fan_steps (fan_steps line w)) → (d >>= tells) ≡ Ok fan → under_way fan.1.ends ≡ []
    by (Err e) moved after ends k = absurd (false≢true (ap is_ok k))
    by (Ok y) moved after ends k =
        let pair : (fanned y.1.routers y.0 ∷ [], y.1) ≡ fan = cc in
        ap (λ (z : List ReportLine × WorldState). under_way z.1.ends) (sym pair)
        ∙ over w g yes.settled (at_some Ascend (reached acts) m is (routers_ascend acts)) (stands acts m is).few samples yes.few (fan_steps line w) y moved after ends

    nothing : under_way fan.1.ends ≡ []
    nothing = by (all_done w line (fan_steps line w)) (runs_move w g.sound (scripts_are_calm acts m is) samples line (fan_steps line w) (all_steps line most_fan_steps w))
        (all_go w line (fan_steps line w) g) (run_ends line most_fan_steps w) yes.done
