-- A router hears of the message that is on the wire to it (`handled`).
use Rattle.std.proofs.Common.{◌≡◌, ℕ, true, List, [], ◌∷◌, ◌++◌, map, Some, None, Ok, refl, ap, ◌∙◌, append-nil}
use Rattle.std.specs.Prelude.{is_some}
use Rattle.std.proofs.lemmas.List.Elements.{filter_map-append}
use Rattle.zr_id.specs.declared.link.LinkNo.{LinkNo}
use Rattle.zr_msg.specs.declared.event.Event.{Event}
use Rattle.zr_msg.specs.declared.event.Event.TheVariants.{From}
use Rattle.zr_msg.specs.declared.msg.Msg.{Msg}
use Rattle.zr_node_spec.specs.Tables.{link_to}
use Rattle.zr_told_spec.specs.Hub.{hub_after, hub_refuses}
use Rattle.zr_script_spec.specs.declared.command.Act.TheVariants as a
use Rattle.zr_script_spec.specs.declared.report.ReportLine.{ReportLine}
use Rattle.zr_script_spec.specs.declared.report.ReportLine.TheVariants.{Handled}
use Rattle.zr_world_spec.specs.World.{Tagged, RouterState, EndState, WorldState, router_of, end_of, with_end, with_ends, with_wire}
use Rattle.zr_world_spec.specs.Acts.{outcome, number_to, heard as heard_in}
use Rattle.zr_world_spec.specs.Moments.{Moment}
use Rattle.zr_world_spec.specs.Sound.{IsSound}
use Rattle.zr_world_spec.proofs.Sound.{act_keeps}
use Rattle.zr_guarantee.specs.Sent.{Told, told_in, told_to}
use Rattle.zr_law_running.specs.Runs.{Several, queued_for, heard}
use Rattle.zr_law_running.specs.Allowed.{is_among}
use Rattle.zr_law_running.proofs.Steps.{Span, did, Came, next_number, handle_goes}
use Rattle.zr_law_running.proofs.Holding.{router_in, Homes, messages_to, Calm}
use Rattle.zr_law_running.proofs.Hearing.{at_true, no_own_end, homes_kept, hears}
use Rattle.zr_law_running.proofs.Draining.{sound_after, Standing}
use Rattle.zr_law_running.proofs.Coming.{finish, same_report, not_up, reach_after}

-- a report says no more of what was sent with a message that was handled
pub told_handled : (report : List ReportLine) (x y : List ℕ) (msg : Msg) (tag : ℕ) (q : List ℕ) → messages_to (report ++ Handled x y msg tag ∷ []) q ≡ messages_to report q
told_handled report x y msg tag q = ap (map (λ (t : Told). t.msg)) (filter_map-append (told_in q) report (Handled x y msg tag ∷ []) ∙ append-nil (told_to report q))

-- ---- a message is on the wire, alone, and is handled

-- `v` is the world without it
module _ (g : Span) (ids : List (List ℕ)) (s : Several) (m : Moment) (came : Came g m) (sound : IsSound m.world) (x y : List ℕ) (known : is_among ids x ≡ true) (e : EndState) (is : end_of m.world.ends (x, y) ≡ Some e)
    (up : e.up ≡ true) (t : Tagged) (front : e.wire ≡ t ∷ []) (homes : Homes (with_ends m.world (with_end m.world.ends (x, y) (with_wire e []))))
    (h : Calm ids s (with_ends m.world (with_end m.world.ends (x, y) (with_wire e []))) m.report) (l : LinkNo) (number : number_to (router_in s x) y ≡ Ok l)
    (taken : hub_refuses (s.hub x) (From l t.msg) ≡ None) (done : did g m came ≡ s.deeds) where
  abbrev w : WorldState
  w = m.world

  abbrev v : WorldState
  v = with_ends w (with_end w.ends (x, y) (with_wire e []))

  abbrev r : RouterState
  r = router_in s x

  abbrev event : Event
  event = From l t.msg

  found : router_of w.routers x ≡ Some r
  found = h.routers x ∙ at_true (is_among ids x) (Some (router_in s x)) None known

  abbrev final : WorldState
  final = heard_in v x r event t.tag

  abbrev line : ReportLine
  line = Handled x y t.msg t.tag

  goes : outcome w (next_number g m came) (a.Handle x y) ≡ Ok (line ∷ [], final)
  goes = handle_goes w (next_number g m came) x y r e t [] l found (sound.neighbours x y (ap is_some is)) is up front number taken

  sound_then : IsSound final
  sound_then = sound_after w (outcome w (next_number g m came) (a.Handle x y)) (line ∷ [], final) goes (act_keeps w (next_number g m came) (a.Handle x y) sound)

  reach : (q : List ℕ) → end_of v.ends (x, q) ≡ None → link_to (hub_after (s.hub x) event).node.links q ≡ None
  reach q none = reach_after v final x r event t.tag found sound_then refl q (not_up (end_of final.ends (x, q)) (no_own_end v x r event t.tag q none))

  pub handled : (after : Moment) × Standing g ids (heard s x event) after
  handled = finish g ids m came sound (a.Handle x y) (line ∷ [], final) (g.steps (a.Handle x y) refl) goes (heard s x event) x (queued_for (s.hub x) event) (append-nil (did g m came) ∙ done)
      (λ z c k i. homes_kept v x r event t.tag homes final.clients refl z c k i)
      (hears ids s v (m.report ++ line ∷ []) x event t.tag (same_report ids s v m.report (m.report ++ line ∷ []) (told_handled m.report x y t.msg t.tag) h) known reach)
