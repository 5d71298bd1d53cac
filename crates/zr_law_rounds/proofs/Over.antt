-- What a share sends over its router's links are moves: each message is taken, and waits at a router, or is at its client's.
use Rattle.std.proofs.Common.{◌≡◌, ℕ, ◌+◌, Bool, true, false, cond, List, [], ◌∷◌, ◌++◌, map, Option, Some, None, refl, sym, ap, ◌∙◌, subst, arith}
use Rattle.std.specs.Prelude.{is_some}
use Rattle.std.specs.List.{AllByRecursion, flat_map}
use Rattle.std.specs.Option.{option_map_or}
use Rattle.std.proofs.lemmas.Bool.{false≢true}
use Rattle.std.proofs.lemmas.List.{map-append}
use Rattle.zr_id.specs.declared.link.LinkNo.{LinkNo}
use Rattle.zr_msg.specs.declared.msg.Msg.{Msg}
use Rattle.zr_msg.specs.declared.peer.LinkPeer.{LinkPeer}
use Rattle.zr_node_spec.specs.Tables.{is_router, link_at}
use Rattle.zr_script_spec.specs.Report.{line_text}
use Rattle.zr_script_spec.specs.declared.report.ReportLine.TheVariants.{Taken}
use Rattle.zr_told_spec.specs.Hub.{HubState}
use Rattle.zr_orders.specs.Bag.{weigh, AreSame}
use Rattle.zr_orders.proofs.Bag.{weigh-append}
use Rattle.zr_orders.proofs.Passes.{append_pass}
use Rattle.zr_world_spec.specs.World.{WorldState, router_of, is_settled, turned}
use Rattle.zr_world_spec.specs.Sound.{IsSound}
use Rattle.zr_law_fan.specs.Samples.{Move, Handling, Taking, tagged, next_moves, can_go}
use Rattle.zr_world_gang.specs.declared.message.Sending.{Sending}
use Rattle.zr_world_gang.specs.Shares.{ShareState, to_router, to_client, over, all_over}
use Rattle.zr_law_rounds.specs.Rounds.{waits_in, Weights, told_in, line_weight, IsOf}
use Rattle.zr_law_rounds.proofs.Going.{weigh_flat}
use Rattle.zr_law_rounds.proofs.Spreading.{taking_over, there_in}
use Rattle.zr_law_rounds.proofs.Open.{IsOpen, at_open, can_take_there}

-- a share has taken some messages
pub record HasTaken (w : WorldState) (s t : ShareState) (ts : List Move) : Type 0 where
  pub waits : AreSame (waits_in t) (flat_map (next_moves w) ts ++ waits_in s)
  pub can : AllByRecursion (λ m. can_go w m ≡ true) ts
  pub told : (f : Weights) → told_in f t ≡ told_in f s + weigh (line_weight w f) ts
  pub name : t.name ≡ s.name
  pub hub : t.hub ≡ s.hub

-- none, and some after others
taken_none : (w : WorldState) (s : ShareState) → HasTaken w s s []
taken_none w s = record { waits = λ f. refl; can = tt; told = λ f. omega arith; name = refl; hub = refl }

taken_both : (w : WorldState) (s t u : ShareState) (xs ys : List Move) → HasTaken w s t xs → HasTaken w t u ys → HasTaken w s u (xs ++ ys)
taken_both w s t u xs ys a b = record {
  waits = λ f.
      let one = a.waits f in
      let two = b.waits f in
      let three = weigh-append f (flat_map (next_moves w) xs) (waits_in s) in
      let four = weigh-append f (flat_map (next_moves w) ys) (waits_in t) in
      let five = weigh-append f (flat_map (next_moves w) (xs ++ ys)) (waits_in s) in
      let six = weigh_flat f (next_moves w) xs ys in
      omega (arith, one, two, three, four, five, six);
  can = append_pass (can_go w) xs ys a.can b.can;
  told = λ f.
      let one = a.told f in
      let two = b.told f in
      let three = weigh-append (line_weight w f) xs ys in
      omega (arith, one, two, three);
  name = b.name ∙ a.name;
  hub = b.hub ∙ a.hub;
}

-- ---- one message

module _ (w : WorldState) (s : ShareState) (l : LinkPeer) (ready : IsOpen w s.name l) (msg : Msg) (tag : ℕ) where
  abbrev taking : Move
  taking = Taking (s.name, l.peer.id) (tagged tag msg)

  abbrev went : Move
  went = Handling (l.peer.id, s.name) (tagged tag msg)

  abbrev text : List ℕ
  text = line_text (Taken s.name l.peer.id msg tag)

  -- what the message becomes
  becomes : (c : Bool) → is_router l.peer.role ≡ c → (f : Move → ℕ) → weigh f (next_moves w taking) ≡ weigh f (cond c (went ∷ []) [])
  becomes c e f = ap (λ b. weigh f (cond b (went ∷ []) [])) (ready.turned ∙ e)

  tells : (c : Bool) → is_router l.peer.role ≡ c → (f : Weights) → line_weight w f taking ≡ cond c (f.taken text) (f.sent text)
  tells c e f = ap (λ b. cond b (f.taken text) (f.sent text)) (ready.router ∙ e)

  abbrev input_waits : List Move
  input_waits = map (λ m. Handling (s.name, m.name) (tagged m.tag m.msg)) s.input

  abbrev goes : Sending → Move
  goes m = Handling (m.to, s.name) (tagged m.tag m.msg)

  to_router_taken : is_router l.peer.role ≡ true → HasTaken w s (to_router s l.peer.id msg tag) (taking ∷ [])
  to_router_taken e = record {
    waits = λ f.
        let one = weigh-append f input_waits (map goes (s.output ++ record { to = l.peer.id; msg = msg; tag = tag } ∷ [])) in
        let two = ap (weigh f) (map-append goes s.output (record { to = l.peer.id; msg = msg; tag = tag } ∷ [])) in
        let three = weigh-append f (map goes s.output) (went ∷ []) in
        let four = weigh-append f input_waits (map goes s.output) in
        let five = weigh-append f (next_moves w taking ++ []) (waits_in s) in
        let six = weigh-append f (next_moves w taking) [] in
        let is = becomes true e f in
        omega (arith, one, two, three, four, five, six, is);
    can = (can_take_there w s.name l (tagged tag msg) ready, tt);
    told = λ f.
        let one = weigh-append f.taken s.taken (text ∷ []) in
        let is = tells true e f in
        omega (arith, one, is);
    name = refl;
    hub = refl;
  }

  to_client_taken : is_router l.peer.role ≡ false → HasTaken w s (to_client s l.peer.id msg tag) (taking ∷ [])
  to_client_taken e = record {
    waits = λ f.
        let five = weigh-append f (next_moves w taking ++ []) (waits_in s) in
        let six = weigh-append f (next_moves w taking) [] in
        let is = becomes false e f in
        omega (arith, five, six, is);
    can = (can_take_there w s.name l (tagged tag msg) ready, tt);
    told = λ f.
        let one = weigh-append f.sent s.sent (text ∷ []) in
        let is = tells false e f in
        omega (arith, one, is);
    name = refl;
    hub = refl;
  }

  -- over a link that is up
  pub over_taken : HasTaken w s (over s tag (Some l) msg) (cond (there_in w (s.name, l.peer.id)) (taking ∷ []) [])
  over_taken = by (there_in w (s.name, l.peer.id)) (is_router l.peer.role) refl refl
    where
      by : (b c : Bool) → there_in w (s.name, l.peer.id) ≡ b → is_router l.peer.role ≡ c → HasTaken w s (cond c (to_router s l.peer.id msg tag) (to_client s l.peer.id msg tag)) (cond b (taking ∷ []) [])
      by false c there e = absurd (false≢true (sym there ∙ ap is_some ready.there))
      by true true there e = to_router_taken e
      by true false there e = to_client_taken e

pub of_same : (w : WorldState) (s t : ShareState) → t.name ≡ s.name → t.hub ≡ s.hub → IsOf w s → IsOf w t
of_same w s t name hub of = record { router = of.router; there = ap (λ z. router_of w.routers z) name ∙ of.there; hub = of.hub ∙ sym hub }

-- ---- all messages

module _ (w : WorldState) (sound : IsSound w) (settled : is_settled w ≡ true) (tag : ℕ) where
  abbrev takings : ShareState → LinkNo × Msg → List Move
  takings s m = taking_over s.hub.node.links (there_in w) s.name tag m

  one_taken : (s : ShareState) → IsOf w s → (m : LinkNo × Msg) → HasTaken w s (over s tag (link_at s.hub.node.links m.0.0) m.1) (takings s m)
  one_taken s of m = by (link_at s.hub.node.links m.0.0) refl
    where
      by : (o : Option LinkPeer) → link_at s.hub.node.links m.0.0 ≡ o →
          HasTaken w s (over s tag o m.1) (option_map_or (λ l. cond (there_in w (s.name, l.peer.id)) (Taking (s.name, l.peer.id) (tagged tag m.1) ∷ []) []) o [])
      by None e = taken_none w s
      by (Some l) e =
          let linked : link_at of.router.node.links m.0.0 ≡ Some l = ap (λ (h : HubState). link_at h.node.links m.0.0) of.hub ∙ e in
          over_taken w s l (at_open w sound settled s.name of.router of.there m.0.0 l linked) m.1 tag

  pub all_taken : (out : List (LinkNo × Msg)) (s : ShareState) → IsOf w s → HasTaken w s (all_over s tag out) (flat_map (takings s) out)
  all_taken [] s of = taken_none w s
  all_taken (m ∷ more) s of =
      let one = one_taken s of m in
      let next : ShareState = over s tag (link_at s.hub.node.links m.0.0) m.1 in
      let rest = all_taken more next (of_same w s next one.name one.hub of) in
      let same : flat_map (takings next) more ≡ flat_map (takings s) more = λ i. flat_map (λ m. taking_over (one.hub i).node.links (there_in w) (one.name i) tag m) more in
      taken_both w s next (all_over next tag more) (takings s m) (flat_map (takings s) more) one (subst (λ ts. HasTaken w next (all_over next tag more) ts) same rest)
