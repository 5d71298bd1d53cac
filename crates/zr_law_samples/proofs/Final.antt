-- The law on samples and requests. The lines before the mark give what is known there, the lines of the phase keep the flow, and at any
-- moment the flow is the law: what was sent is a prefix of all that stands in the places, and where nothing is under way
-- nothing follows it. That nothing else was sent is the invariant of the tags. Of who is no client nothing is published, and to who is not
-- attached nothing is sent.
use Rattle.std.proofs.Common.{◌≡◌, ℕ, Bool, true, false, List, [], ◌∷◌, ◌++◌, Option, Some, None, refl, sym, ap, ◌∙◌, append-nil}
use Rattle.std.specs.Prelude.{◌||◌, nat_lt, is_some, is_none, IfSome}
use Rattle.std.specs.List.{fold, list_all}
use Rattle.std.specs.Map.{values_of}
use Rattle.std.proofs.lemmas.Bool.{false≢true, true≢false, and_parts, or_left, or_right}
use Rattle.std.proofs.lemmas.List.Sums.{fold-append}
use Rattle.zr_script_spec.specs.declared.command.Act.TheVariants as c
use Rattle.zr_script_spec.specs.declared.report.ReportLine.TheVariants as line
use Rattle.zr_lists.specs.Prefix.{IsPrefixOf}
use Rattle.zr_world_spec.specs.World.{Tagged, EndState, End, Ends, ClientState, router_of, client_of, end_of, is_empty, is_idle, is_quiet, is_settled, wire_at}
use Rattle.zr_world_spec.specs.Joined.{is_joined}
use Rattle.zr_world_spec.specs.Acts.{outcome}
use Rattle.zr_world_spec.specs.Moments.{Numbered, ascends, Moment, beginning, onward, reached}
use Rattle.zr_guarantee.specs.Names.{is_router}
use Rattle.zr_guarantee.specs.Item.{Item}
use Rattle.zr_guarantee.specs.Broker.{is_attached, is_line_of, is_line, from}
use Rattle.zr_guarantee.specs.Sent.{carried_by, sent_to}
use Rattle.zr_world_spec.proofs.Clients.{same_clients}
use Rattle.zr_guarantee.specs.Refines.{sent_of, Delivers, PhasesDeliver}
use Rattle.zr_world_spec.proofs.Keyed.{found_entry}
use Rattle.zr_world_spec.proofs.Ends.{end_order, same_end}
use Rattle.zr_world_spec.proofs.Cases.{on_mark, for_mark}
use Rattle.zr_lists.proofs.Tests.{weaker}
use Rattle.zr_law_samples.proofs.Places.{hops, along, bare}
use Rattle.zr_law_settled.proofs.Worlds.{queue_at}
use Rattle.zr_law_declared.proofs.Folds.{refused_stays, at_some}
use Rattle.zr_law_samples.proofs.Watch.{Passes}
use Rattle.zr_law_samples.proofs.Pair.{Pair, items, kept_for, wanted_of, held, OnWay, Between, Flows, sent_more}
use Rattle.zr_law_samples.proofs.Held.{kept_none}
use Rattle.zr_law_samples.proofs.Phases.{phase_keeps}
use Rattle.zr_law_samples.proofs.Silent.{IsMute, phase_mute, no_line, nothing_published, nothing_wanted, nothing_passes, IsUnheard, phase_unheard}
use Rattle.zr_law_samples.proofs.Numbers.{around_mark, agrees_from, tagging_before, publishing_phase}
use Rattle.zr_law_samples.proofs.Tags.{Tags, tags_kept, CarriedTags, carried_tags_kept}
use Rattle.zr_law_samples.proofs.Always.{Always, always, same_always}
use Rattle.zr_law_samples.proofs.Start.{AreSettled, Marked, detached, wants_nothing, who_is_attached, nothing_sent, the_pair, the_routes, starts}

-- ---- where nothing is under way

pub none_under_way : (m : Moment) (e : End) → is_quiet m.world ≡ true → (queue_at (end_of m.world.ends e) ≡ []) × (wire_at (end_of m.world.ends e) ≡ [])
none_under_way m e quiet = by (end_of m.world.ends e) refl
  where
    empty : (ws : List Tagged) → is_empty ws ≡ true → ws ≡ []
    empty [] k = refl
    empty (x ∷ xs) k = absurd (false≢true k)

    entries : (es : Ends) → list_all is_idle (values_of es) ≡ true → list_all (λ x. is_idle x.1) es ≡ true
    entries [] k = refl
    entries (x ∷ xs) k =
        let parts = and_parts (is_idle x.1) (list_all is_idle (values_of xs)) k in
        rw (parts.0) (entries xs parts.1)

    by : (o : Option EndState) → end_of m.world.ends e ≡ o → (queue_at o ≡ []) × (wire_at o ≡ [])
    by None k = (refl, refl)
    by (Some s) k =
        let parts = and_parts (is_empty s.wire) (is_empty s.queue) (found_entry end_order same_end (λ x. is_idle x.1) m.world.ends e s (entries m.world.ends quiet) k) in
        (empty s.queue parts.1, empty s.wire parts.0)

-- ---- settled worlds

-- in each settled world whose routers are joined the tables agree
abbrev pub TablesAreSettled : Type 0
TablesAreSettled = (acts : List Numbered) (m : Moment) → reached acts ≡ Some m → is_settled m.world ≡ true → is_joined m.world ≡ true → AreSettled m.world

-- ---- the law

module _ (agree : TablesAreSettled) where
  -- what is known right after a mark
  pub marked : (before : List Numbered) (mark : ℕ) → list_all (λ y. nat_lt y.0 mark) before ≡ true → IfSome (onward (reached before) (mark, c.Mark)) (Marked before mark)
  unfolding outcome
  marked before mark below =
      by (reached before) refl (always before) (tags_kept (λ i. nat_lt i mark) before (Some beginning) (record { waits = λ e. tt; sends_only = λ q. refl }) (tagging_before mark before below))
    where
      by : (o : Option Moment) → reached before ≡ o → IfSome o (Always before) → IfSome o (Tags (λ i. nat_lt i mark)) → IfSome (onward o (mark, c.Mark)) (Marked before mark)
      by None e h tags = tt
      by (Some now) e h tags = for_mark now (Marked before mark) mark (λ settled joined. record {
        always = same_always before now (on_mark now mark) refl h;
        tags = record { waits = tags.waits; sends_only = λ q. more q };
        settled = settled;
        tables = agree before now e settled joined;
      })
        where
          more : (q : List ℕ) → list_all (λ i. nat_lt i.line mark) (sent_to (on_mark now mark).report q) ≡ true
          more q = ap (list_all (λ i. nat_lt i.line mark)) (sent_more now.report (line.Mark mark) q ∙ append-nil (sent_to now.report q)) ∙ tags.sends_only q

  pub phases_deliver : PhasesDeliver
  phases_deliver before phase mark m ascending stays reaches =
      by_mark (onward (reached before) (mark, c.Mark)) (sym (fold-append onward (Some beginning) before ((mark, c.Mark) ∷ phase)) ∙ reaches) (marked before mark around.0)
    where
      around : (list_all (λ y. nat_lt y.0 mark) before ≡ true) × (ascends mark phase ≡ true)
      around = around_mark 0 mark before phase ascending

      passes : ℕ → Bool
      passes i = nat_lt i mark || is_line phase i

      -- nothing else was sent
      nothing_else : (now : Moment) → fold onward (Some now) phase ≡ Some m → Tags (λ i. nat_lt i mark) now → CarriedTags passes m
      nothing_else now e tags = at_some (CarriedTags passes) (fold onward (Some now) phase) m e (carried_tags_kept passes phase (Some now) old stays (publishing_phase mark phase []))
        where
          -- before the phase all tags are below the mark
          old : CarriedTags passes now
          old = record {
            waits = λ q. at_ends (end_of now.world.ends q) (tags.waits q);
            sends_only = λ q. weaker (λ i. nat_lt i.line mark) (λ i. passes i.line) (λ i k. or_left (nat_lt i.line mark) (is_line phase i.line) k) (sent_to now.report q) (tags.sends_only q);
          }
            where
              wider : (xs : List Tagged) → list_all (λ x. nat_lt x.tag mark) xs ≡ true → list_all (λ x. is_none (carried_by x.msg) || passes x.tag) xs ≡ true
              wider xs h = weaker (λ x. nat_lt x.tag mark) (λ x. is_none (carried_by x.msg) || passes x.tag)
                  (λ x k. or_right (is_none (carried_by x.msg)) (passes x.tag) (or_left (nat_lt x.tag mark) (is_line phase x.tag) k)) xs h

              at_ends : (o : Option EndState) → IfSome o (Passes (λ x. nat_lt x.tag mark)) → IfSome o (Passes (λ x. is_none (carried_by x.msg) || passes x.tag))
              at_ends None h = tt
              at_ends (Some s) h = (wider s.wire h.0, wider s.queue h.1)

      -- what the law says of a publisher and a receiver
      Says : List ℕ → List ℕ → Type 0
      Says a d = IsPrefixOf (sent_of phase m a d) (from before phase a d) × (is_quiet m.world ≡ true → sent_of phase m a d ≡ from before phase a d)

      by_mark : (o : Option Moment) → fold onward o phase ≡ Some m → IfSome o (Marked before mark) → Delivers before mark phase m
      by_mark None e h = absurd (false≢true (ap is_some (sym (refused_stays phase) ∙ e)))
      by_mark (Some now) e h = record {
        prefix = λ a d k. (says a d k).0;
        whole = λ quiet a d k. (says a d k).1 quiet;
        nothing_else = λ d. (nothing_else now e h.tags).sends_only d;
      }
        where
          no_router : (d : List ℕ) → is_router before d ≡ false → is_some (router_of now.world.routers d) ≡ false
          no_router d k = by (is_some (router_of now.world.routers d)) refl
            where
              by : (b : Bool) → is_some (router_of now.world.routers d) ≡ b → b ≡ false
              by false f = refl
              by true f = absurd (true≢false (sym (h.always.named d f) ∙ k))

          -- nothing is due, and nothing was sent
          neither : (a d : List ℕ) → sent_of phase m a d ≡ [] → from before phase a d ≡ [] → Says a d
          neither a d sent due = (([], due ∙ sym (append-nil (sent_of phase m a d) ∙ sent)), λ quiet. sent ∙ sym due)

          no_publisher : (a d : List ℕ) → client_of now.world.clients a ≡ None → Says a d
          no_publisher a d none = neither a d (nothing_passes (is_line_of phase a) (no_line a phase mute.silent) (sent_to m.report d)) (nothing_published before a d phase mute.silent)
            where
              mute : IsMute a now.world.clients none phase m
              mute = at_some (IsMute a now.world.clients none phase) (fold onward (Some now) phase) m e (phase_mute a now.world.clients none phase (Some now) (same_clients now.world.clients) stays)

          no_receiver : (a d : List ℕ) → is_router before d ≡ false → is_attached before d ≡ false → Says a d
          no_receiver a d k gone = neither a d unheard.nothing (nothing_wanted before a d phase (wants_nothing before mark now h a d gone))
            where
              unheard : IsUnheard d (is_line_of phase a) phase m
              unheard = at_some (IsUnheard d (is_line_of phase a) phase) (fold onward (Some now) phase) m e
                  (phase_unheard d (is_line_of phase a) phase (Some now) (record { down = detached before mark now h d (no_router d k) gone; nothing = nothing_sent before mark now h phase around.1 a d }) stays)

          both : (a d : List ℕ) (sa sd : ClientState) → client_of now.world.clients a ≡ Some sa → client_of now.world.clients d ≡ Some sd → is_attached before d ≡ true → Says a d
          both a d sa sd ea ed attached = ((rest, sym flows.flow), λ quiet. sym (append-nil (sent_of phase m a d)) ∙ ap (λ z. sent_of phase m a d ++ z) (sym (nothing_left quiet)) ∙ flows.flow)
            where
              p : Pair
              p = the_pair before mark now h phase around.1 a d sa sd ea ed attached

              rest : List Item
              rest = along (held p m) (hops d (p.first ∷ p.more) a)

              flows : Flows (the_pair before mark now h phase around.1 a d sa sd ea ed attached) phase m
              flows = at_some (Flows p phase) (fold onward (Some now) phase) m e
                  (phase_keeps p (the_routes before mark now h phase around.1 a d sa sd ea ed attached) phase (Some now) (starts before mark now h phase around.1 a d sa sd ea ed attached) stays
                  (agrees_from p phase [] mark (λ t. refl) refl around.1))

              nothing_left : is_quiet m.world ≡ true → along (held p m) (hops d (p.first ∷ p.more) a) ≡ []
              nothing_left quiet = bare (OnWay p) (Between p) a (held p m) (held p m) []
                  (λ to r s k. (ap (λ z. kept_for p to (items z)) (none_under_way m (r, to) quiet).0 ∙ kept_none p to, ap (λ z. wanted_of p (items z)) (none_under_way m (r, s) quiet).1))
                  d (p.first ∷ p.more) (the_routes before mark now h phase around.1 a d sa sd ea ed attached).whole_way

          says : (a d : List ℕ) → is_router before d ≡ false → Says a d
          says a d k = by_receiver (is_attached before d) refl
            where
              by_publisher : is_attached before d ≡ true → (o : Option ClientState) → client_of now.world.clients a ≡ o → Says a d
              by_publisher attached None f = no_publisher a d f
              by_publisher attached (Some sa) f = let sd = who_is_attached before mark now h d attached in both a d sa sd.0 f sd.1 attached

              by_receiver : (b : Bool) → is_attached before d ≡ b → Says a d
              by_receiver false f = no_receiver a d k f
              by_receiver true f = by_publisher f (client_of now.world.clients a) refl
