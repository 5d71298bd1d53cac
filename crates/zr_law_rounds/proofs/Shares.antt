-- A share that handles its input moves what waits there; and so do all shares of a round.
use Rattle.std.proofs.Common.{◌≡◌, ◌+◌, true, List, [], ◌∷◌, ◌++◌, map, Some, refl, sym, ap, ◌∙◌, subst, arith}
use Rattle.std.specs.List.{AllByRecursion, flat_map}
use Rattle.std.specs.Option.{option_map}
use Rattle.zr_id.specs.declared.link.LinkNo.{LinkNo}
use Rattle.zr_msg.specs.declared.event.Event.TheVariants.{From}
use Rattle.zr_msg.specs.declared.msg.Msg.{Msg}
use Rattle.zr_msg.specs.declared.peer.LinkPeer.{LinkPeer}
use Rattle.zr_node_spec.specs.Tables.{link_to}
use Rattle.zr_script_spec.specs.Report.{line_text}
use Rattle.zr_script_spec.specs.declared.report.ReportLine.TheVariants.{Handled}
use Rattle.zr_told_spec.specs.Hub.{HubState, HubSends, hub_after}
use Rattle.zr_orders.specs.Bag.{weigh, AreSame, Goes}
use Rattle.zr_orders.proofs.Bag.{weigh-append}
use Rattle.zr_orders.proofs.Passes.{append_pass}
use Rattle.zr_world_spec.specs.World.{RouterState, WorldState, is_settled}
use Rattle.zr_world_spec.specs.Acts.{hub_of}
use Rattle.zr_world_spec.specs.Fan.{is_sample}
use Rattle.zr_world_spec.specs.Sound.{IsSound}
use Rattle.zr_law_fan.specs.Samples.{Move, Handling, tagged, next_moves, can_go, IsCalm, IsCalmWith}
use Rattle.zr_law_fan.proofs.Moving.{sample_case}
use Rattle.zr_world_gang.specs.declared.message.Waiting.{Waiting}
use Rattle.zr_world_gang.specs.declared.share.Turn.TheVariants as turn
use Rattle.zr_world_gang.specs.Shares.{ShareState, MayBeHandled, with_input, heard, all_over, HasHandled}
use Rattle.zr_world_gang.specs.Turns.{AllHaveDone}
use Rattle.zr_world_gang.proofs.Steps.{link_of_number}
use Rattle.zr_world_spec.proofs.Links.{named_link}
use Rattle.zr_law_rounds.specs.Rounds.{waits_in, waits, Weights, told_in, line_weight, IsOf, HasMoved, HaveMoved, SharesGo, RoundsGo}
use Rattle.zr_law_rounds.proofs.Going.{goes_from, goes_to, goes_both, goes_beside, all_go}
use Rattle.zr_law_rounds.proofs.Spreading.{taking_over, there_in, sends_are_takings}
use Rattle.zr_law_rounds.proofs.Open.{to_open, can_handle_there}
use Rattle.zr_law_rounds.proofs.Over.{HasTaken, of_same, all_taken}

-- what waits of some messages, before a share
abbrev to_handle : ShareState → List Waiting → List Move
to_handle s ms = map (λ m. Handling (s.name, m.name) (tagged m.tag m.msg)) ms

-- a share has handled some messages: it has moved them, and what became of them
record Handles (w : WorldState) (s t : ShareState) (ms : List Waiting) : Type 0 where
  moved : List Move
  goes : Goes (next_moves w) (to_handle s ms ++ waits_in s) moved (waits_in t)
  can : AllByRecursion (λ m. can_go w m ≡ true) moved
  told : (f : Weights) → told_in f t ≡ told_in f s + weigh (line_weight w f) moved
  name : t.name ≡ s.name
  hub : t.hub ≡ s.hub

module _ (w : WorldState) (sound : IsSound w) (settled : is_settled w ≡ true) (calm : IsCalm w) where
  -- ---- one message

  module _ (s : ShareState) (of : IsOf w s) (m : Waiting) (sample : is_sample m.msg ≡ true) (from : option_map (λ l. l.link) (link_to s.hub.node.links m.name) ≡ Some m.from)
      (out : List (LinkNo × Msg)) (sends : HubSends s.hub (From m.from m.msg) [] out) where
    abbrev r : RouterState
    r = of.router

    abbrev handling : Move
    handling = Handling (s.name, m.name) (tagged m.tag m.msg)

    its : (l : LinkPeer) × (link_to r.node.links m.name ≡ Some l) × (l.link ≡ m.from)
    its =
        let l = link_of_number (link_to s.hub.node.links m.name) m.from from in
        (l.0, ap (λ (h : HubState). link_to h.node.links m.name) of.hub ∙ l.1, l.2)

    quiet : IsCalmWith r m.from m.msg
    quiet = sample_case (IsCalmWith r m.from) (λ tree content. calm s.name r of.there m.from tree content) m.msg sample

    hub_stays : hub_after s.hub (From m.from m.msg) ≡ s.hub
    hub_stays = ap (λ h. hub_after h (From m.from m.msg)) (sym of.hub) ∙ ap hub_of quiet.stays ∙ of.hub

    abbrev was : ShareState
    was = heard s m

    of_heard : IsOf w was
    of_heard = record { router = r; there = of.there; hub = of.hub ∙ sym hub_stays }

    taken : HasTaken w was (all_over was m.tag out) (flat_map (λ z. taking_over was.hub.node.links (there_in w) s.name m.tag z) out)
    taken = all_taken w sound settled m.tag out was of_heard

    abbrev ts : List Move
    ts = flat_map (λ z. taking_over was.hub.node.links (there_in w) s.name m.tag z) out

    links_are : was.hub.node.links ≡ r.node.links
    links_are = ap (λ (h : HubState). h.node.links) (hub_stays ∙ sym of.hub)

    sends_of : HubSends (hub_of r) (From its.0.link m.msg) [] out
    sends_of = subst (λ l. HubSends (hub_of r) (From l m.msg) [] out) (sym its.2) (subst (λ (h : HubState). HubSends h (From m.from m.msg) [] out) (sym of.hub) sends)

    becomes : AreSame ts (next_moves w handling)
    becomes = subst (λ links. AreSame (flat_map (λ z. taking_over links (there_in w) s.name m.tag z) out) (next_moves w handling)) (sym links_are)
        (sends_are_takings w sound calm s.name m.name r of.there its.0 its.1 m.tag out m.msg sample sends_of)

    can_handle : can_go w handling ≡ true
    can_handle =
        let ready = to_open w sound settled s.name r of.there m.name its.0 its.1 in
        ap (λ z. can_go w (Handling (s.name, z) (tagged m.tag m.msg))) (sym (named_link r.node.links m.name its.0 its.1)) ∙ can_handle_there w s.name its.0 (tagged m.tag m.msg) ready

    -- beside what waits
    one_goes : (others : List Move) → Goes (next_moves w) (handling ∷ (others ++ waits_in s)) (handling ∷ ts) (others ++ waits_in (all_over was m.tag out))
    one_goes others = (
      next_moves w handling ++ (others ++ waits_in s),
      (others ++ waits_in s, (λ f. refl), (λ f. refl)),
      goes_to (next_moves w) (next_moves w handling ++ (others ++ waits_in s)) ts (flat_map (next_moves w) ts ++ (others ++ waits_in s)) (others ++ waits_in (all_over was m.tag out))
          (goes_from (next_moves w) (ts ++ (others ++ waits_in s)) (next_moves w handling ++ (others ++ waits_in s)) ts (flat_map (next_moves w) ts ++ (others ++ waits_in s)) first
          (all_go (next_moves w) ts (others ++ waits_in s))) last,
    )
      where
        first : AreSame (ts ++ (others ++ waits_in s)) (next_moves w handling ++ (others ++ waits_in s))
        first f =
            let one = weigh-append f ts (others ++ waits_in s) in
            let two = weigh-append f (next_moves w handling) (others ++ waits_in s) in
            let same = becomes f in
            omega (arith, one, two, same)

        last : AreSame (flat_map (next_moves w) ts ++ (others ++ waits_in s)) (others ++ waits_in (all_over was m.tag out))
        last f =
            let one = weigh-append f (flat_map (next_moves w) ts) (others ++ waits_in s) in
            let two = weigh-append f others (waits_in s) in
            let three = weigh-append f others (waits_in (all_over was m.tag out)) in
            let four = weigh-append f (flat_map (next_moves w) ts) (waits_in s) in
            let same = taken.waits f in
            omega (arith, one, two, three, four, same)

    one_told : (f : Weights) → told_in f (all_over was m.tag out) ≡ told_in f s + weigh (line_weight w f) (handling ∷ ts)
    one_told f =
        let one = taken.told f in
        let two = weigh-append f.handled s.handled (line_text (Handled s.name m.name m.msg m.tag) ∷ []) in
        omega (arith, one, two)

  -- ---- all messages

  may_after : (hub now : HubState) (ms : List Waiting) → now ≡ hub → MayBeHandled hub ms → MayBeHandled now ms
  may_after hub now ms same may = subst (λ (h : HubState). MayBeHandled h ms) (sym same) may

  all_handled : (ms : List Waiting) (s t : ShareState) → IsOf w s → MayBeHandled s.hub ms → HasHandled s ms t → Handles w s t ms
  all_handled [] s t of may h = subst (λ (z : ShareState). Handles w s z []) (sym h) (record { moved = []; goes = λ f. refl; can = tt; told = λ f. omega arith; name = refl; hub = refl })
  all_handled (m ∷ more) s t of may h =
      let out = h.0 in
      let sends = h.1 in
      let u : ShareState = all_over (heard s m) m.tag out in
      let one = taken s of m may.0.0 may.0.1 out sends in
      let hub : u.hub ≡ s.hub = one.hub ∙ hub_stays s of m may.0.0 may.0.1 out sends in
      let rest = all_handled more u t (of_same w s u one.name hub of) (may_after s.hub u.hub more hub may.1) h.2 in
      let same : to_handle u more ≡ to_handle s more = λ i. map (λ z. Handling (one.name i, z.name) (tagged z.tag z.msg)) more in
      record {
        moved = (Handling (s.name, m.name) (tagged m.tag m.msg) ∷ ts s of m may.0.0 may.0.1 out sends) ++ rest.moved;
        goes =
            goes_both (next_moves w) (to_handle s (m ∷ more) ++ waits_in s) (Handling (s.name, m.name) (tagged m.tag m.msg) ∷ ts s of m may.0.0 may.0.1 out sends)
            (to_handle s more ++ waits_in u) rest.moved (waits_in t) (one_goes s of m may.0.0 may.0.1 out sends (to_handle s more))
            (subst (λ ms. Goes (next_moves w) (ms ++ waits_in u) rest.moved (waits_in t)) same rest.goes);
        can = append_pass (can_go w) (Handling (s.name, m.name) (tagged m.tag m.msg) ∷ ts s of m may.0.0 may.0.1 out sends) rest.moved
            (can_handle s of m may.0.0 may.0.1 out sends, one.can) rest.can;
        told = λ f.
            let first = one_told s of m may.0.0 may.0.1 out sends f in
            let then = rest.told f in
            let both = weigh-append (line_weight w f) (Handling (s.name, m.name) (tagged m.tag m.msg) ∷ ts s of m may.0.0 may.0.1 out sends) rest.moved in
            omega (arith, first, then, both);
        name = rest.name ∙ one.name;
        hub = rest.hub ∙ hub;
      }

  share_goes : (s t : ShareState) → IsOf w s → MayBeHandled s.hub s.input → HasHandled (with_input s []) s.input t → HasMoved w s t
  share_goes s t of may h =
      let all = all_handled s.input (with_input s []) t (record { router = of.router; there = of.there; hub = of.hub }) may h in
      record { moved = all.moved; goes = all.goes; can = all.can; told = all.told; name = all.name; hub = all.hub }

  -- ---- all shares

  shares_go : (ss ts : List ShareState) → AllByRecursion (λ s. IsOf w s) ss → AllByRecursion (λ s. MayBeHandled s.hub s.input) ss → AllHaveDone turn.Handle ss ts → HaveMoved w ss ts
  shares_go [] [] of may done = record { moved = []; goes = λ f. refl; can = tt; told = λ f. omega arith; names = refl; hubs = refl }
  shares_go [] (t ∷ ts) of may done = absurd done
  shares_go (s ∷ ss) [] of may done = absurd done
  shares_go (s ∷ ss) (t ∷ ts) of may done =
      let one = share_goes s t of.0 may.0 done.0 in
      let rest = shares_go ss ts of.1 may.1 done.1 in
      record {
        moved = one.moved ++ rest.moved;
        goes =
            goes_both (next_moves w) (waits_in s ++ waits ss) one.moved (waits_in t ++ waits ss) rest.moved (waits_in t ++ waits ts)
            (goes_beside (next_moves w) (waits_in s) one.moved (waits_in t) (waits ss) one.goes)
            (goes_to (next_moves w) (waits_in t ++ waits ss) rest.moved (waits ts ++ waits_in t) (waits_in t ++ waits ts)
            (goes_from (next_moves w) (waits ss ++ waits_in t) (waits_in t ++ waits ss) rest.moved (waits ts ++ waits_in t) (turned_about (waits ss) (waits_in t))
            (goes_beside (next_moves w) (waits ss) rest.moved (waits ts) (waits_in t) rest.goes)) (turned_about (waits ts) (waits_in t)));
        can = append_pass (can_go w) one.moved rest.moved one.can rest.can;
        told = λ f.
            let first = one.told f in
            let then = rest.told f in
            let both = weigh-append (line_weight w f) one.moved rest.moved in
            omega (arith, first, then, both);
        names = λ i. one.name i ∷ rest.names i;
        hubs = λ i. one.hub i ∷ rest.hubs i;
      }
    where
      turned_about : (xs ys : List Move) → AreSame (xs ++ ys) (ys ++ xs)
      turned_about xs ys f = let a = weigh-append f xs ys in let b = weigh-append f ys xs in omega (arith, a, b)

pub each_goes : SharesGo
each_goes w sound settled calm s t of may done = share_goes w sound settled calm s t of may done

pub all_go_on : RoundsGo
all_go_on w sound settled calm ss ts of may done = shares_go w sound settled calm ss ts of may done
