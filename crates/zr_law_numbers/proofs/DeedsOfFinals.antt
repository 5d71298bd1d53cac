-- A reply is heard, and goes on to who asked; a final closes its number, and ends the row that has no other branch.
use Rattle.std.proofs.Common.{◌≡◌, ℕ, ◌==◌, ◌&&◌, Bool, true, false, cond, List, [], ◌∷◌, Option, Some, None, inl, refl, sym, ap, subst, ◌∙◌}
use Rattle.std.specs.Prelude.{is_some}
use Rattle.std.specs.List.{AllByRecursion, flat_map}
use Rattle.std.specs.Option.{option_map, option_map_or, option_and_then}
use Rattle.std.proofs.lemmas.Bool.{eqb-true}
use Rattle.zr_id.specs.declared.link.LinkNo.{LinkNo}
use Rattle.zr_msg.specs.declared.content.Parts.{Parts}
use Rattle.zr_msg.specs.declared.event.Event.TheVariants.{From}
use Rattle.zr_msg.specs.declared.extras.Extras.{Extras}
use Rattle.zr_msg.specs.declared.msg.Msg.TheVariants.{Response, Final}
use Rattle.zr_msg.specs.declared.peer.LinkPeer.{LinkPeer}
use Rattle.zr_pend_spec.specs.declared.branch.Asker.{Asker}
use Rattle.zr_pend_spec.specs.declared.branch.Branch.{Branch}
use Rattle.zr_pend_spec.specs.Row.{has}
use Rattle.zr_pend_spec.specs.Pending.{IsSound, asked, branch, asker_of, finished, final_to}
use Rattle.zr_pend_spec.specs.Readings.{back}
use Rattle.zr_pend_spec.proofs.Readings.{finished_back}
use Rattle.zr_node_spec.specs.Queries.{link_no, reply_to, held_at, ending_for}
use Rattle.zr_node_spec.specs.State.{NodeState}
use Rattle.zr_node_spec.specs.Table.{after}
use Rattle.zr_law_numbers.specs.Waiting.{Place, asks_in, answers_in}
use Rattle.zr_law_numbers.specs.Deeds.{Half, Deed, Hears, Closes, Replies, with_deeds, asked_by_deed, answered_by_deed, place_in, half_of, IsMeant, IsDone}
use Rattle.zr_law_numbers.proofs.RowsKept.{found_asked}
use Rattle.zr_law_numbers.proofs.DeedLists.{Leads, ends_of, ends_lead, half_by, asks_on, same_half, swapped}
use Rattle.zr_law_numbers.proofs.DeedsDone.{back_in, released, done_from, final_is_deed, ends_meant}

-- ---- a reply

abbrev replies_for : ℕ → Parts → LinkNo → Asker → List Deed
replies_for tag content to a = cond (to.0 == a.link.0) (Replies a.number (record { line = tag; content = content }) ∷ []) []

abbrev replies_of : ℕ → Parts → LinkNo → Option Asker → List Deed
replies_of tag content to o = option_map_or (λ a. replies_for tag content to a) o []

-- nothing where the reply is held
abbrev replies_unless : Bool → ℕ → Parts → LinkNo → Option Asker → List Deed
replies_unless held tag content to o = cond held [] (replies_of tag content to o)

module _ (node : NodeState) (link : LinkNo) (id : ℕ) (content : Parts) (tag : ℕ) (l : LinkPeer) where
  reply_leads : (o : Option Asker) → asker_of (branch (link_no link.0) id) node.pending ≡ o →
      Leads (with_deeds (half_of node l) (cond (link.0 == l.link.0) (Hears id ∷ []) [])) (replies_of tag content l.link o) (half_of (after node (From link (Response id content))) l)
  reply_leads o e = from (link.0 == l.link.0)
    where
      own : (t : Bool) → (a : Asker) → o ≡ Some a → (l.link.0 == a.link.0) ≡ t → Leads (half_of node l) (cond t (Replies a.number (record { line = tag; content = content }) ∷ []) []) (half_of node l)
      own true a f g = record {
        owns = refl;
        may = (ap (λ k. asked (asks_on (record { 0 = k }) a.number) node.pending) (eqb-true l.link.0 a.link.0 g) ∙ found_asked (λ r. has (branch (link_no link.0) id) r) node.pending a (e ∙ f), tt);
        leaves = record { keeps = λ n. refl; back = λ n. refl };
      }
      own false a f g = record { owns = refl; may = tt; leaves = record { keeps = λ n. refl; back = λ n. refl } }

      each : (p : Option Asker) → o ≡ p → Leads (half_of node l) (replies_of tag content l.link p) (half_of node l)
      each None f = record { owns = refl; may = tt; leaves = record { keeps = λ n. refl; back = λ n. refl } }
      each (Some a) f = own (l.link.0 == a.link.0) a f refl

      from : (t : Bool) → Leads (with_deeds (half_of node l) (cond t (Hears id ∷ []) [])) (replies_of tag content l.link o) (half_of node l)
      from true = each o refl
      from false = each o refl

  reply_sent : (o : Option Asker) →
      (flat_map (λ m. asks_in tag m) (option_map_or (λ a. reply_to content l.link.0 a) o []) ≡ flat_map asked_by_deed (replies_of tag content l.link o))
      × (flat_map (λ m. answers_in tag m) (option_map_or (λ a. reply_to content l.link.0 a) o []) ≡ flat_map answered_by_deed (replies_of tag content l.link o))
  reply_sent None = (refl, refl)
  reply_sent (Some a) = by (l.link.0 == a.link.0)
    where
      by : (t : Bool) → (flat_map (λ m. asks_in tag m) (cond t (Response a.number content ∷ []) []) ≡ flat_map asked_by_deed (cond t (Replies a.number (record { line = tag; content = content }) ∷ []) []))
          × (flat_map (λ m. answers_in tag m) (cond t (Response a.number content ∷ []) []) ≡ flat_map answered_by_deed (cond t (Replies a.number (record { line = tag; content = content }) ∷ []) []))
      by true = (refl, refl)
      by false = (refl, refl)

  reply_meant : (o : Option Asker) → asker_of (branch (link_no link.0) id) node.pending ≡ o → AllByRecursion (λ d. IsMeant node (From link (Response id content)) tag l d) (replies_of tag content l.link o)
  reply_meant None e = tt
  reply_meant (Some a) e = by (l.link.0 == a.link.0) refl
    where
      by : (t : Bool) → (l.link.0 == a.link.0) ≡ t →
          AllByRecursion (λ d. IsMeant node (From link (Response id content)) tag l d) (cond t (Replies a.number (record { line = tag; content = content }) ∷ []) [])
      by true f =
          let same : l.link.0 ≡ a.link.0 = eqb-true l.link.0 a.link.0 f in (
            inl (record {
              link = link;
              id = id;
              content = content;
              came = refl;
              reply = refl;
              asker = e ∙ (λ i. Some (record { link = record { 0 = sym same i }; number = a.number }));
            }),
            tt,
          )
      by false f = tt

  -- a reply that is held leaves nothing but that it was heard
  unless_leads : (t : Bool) (o : Option Asker) → asker_of (branch (link_no link.0) id) node.pending ≡ o →
      Leads (with_deeds (half_of node l) (cond (link.0 == l.link.0) (Hears id ∷ []) [])) (replies_unless t tag content l.link o) (half_of (after node (From link (Response id content))) l)
  unless_leads false o e = reply_leads o e
  unless_leads true o e = from (link.0 == l.link.0)
    where
      from : (t : Bool) → Leads (with_deeds (half_of node l) (cond t (Hears id ∷ []) [])) [] (half_of node l)
      from true = record { owns = refl; may = tt; leaves = record { keeps = λ n. refl; back = λ n. refl } }
      from false = record { owns = refl; may = tt; leaves = record { keeps = λ n. refl; back = λ n. refl } }

  unless_sent : (t : Bool) (o : Option Asker) →
      (flat_map (λ m. asks_in tag m) (cond t [] (option_map_or (λ a. reply_to content l.link.0 a) o [])) ≡ flat_map asked_by_deed (replies_unless t tag content l.link o))
      × (flat_map (λ m. answers_in tag m) (cond t [] (option_map_or (λ a. reply_to content l.link.0 a) o [])) ≡ flat_map answered_by_deed (replies_unless t tag content l.link o))
  unless_sent true o = (refl, refl)
  unless_sent false o = reply_sent o

  unless_meant : (t : Bool) (o : Option Asker) → asker_of (branch (link_no link.0) id) node.pending ≡ o → AllByRecursion (λ d. IsMeant node (From link (Response id content)) tag l d) (replies_unless t tag content l.link o)
  unless_meant true o e = tt
  unless_meant false o e = reply_meant o e

  pub response_done : IsDone node (From link (Response id content)) tag l
  response_done =
      let o : Option Asker = asker_of (branch (link_no link.0) id) node.pending in
      let t : Bool = is_some (held_at node.pending node.held link.0 id content) in
      done_from node link (Response id content) tag l (Hears id) (replies_unless t tag content l.link o) refl refl refl (λ h. tt) (unless_leads t o refl) (unless_sent t o).0 (unless_sent t o).1 (unless_meant t o refl)

-- ---- a final

module _ (node : NodeState) (link : LinkNo) (id : ℕ) (extras : Extras) (tag : ℕ) (l : LinkPeer) (sound : IsSound node.pending) where
  -- its number is closed where it came from
  closed : (n : ℕ) → back_in (after node (From link (Final id extras))) l n ≡ (with_deeds (half_of node l) (cond (link.0 == l.link.0) (Closes id ∷ []) [])).back n
  closed n =
      ap (λ o. option_map (λ q. option_and_then (λ a. place_in node a) q) o)
      (finished_back node.pending (branch (link_no link.0) id) (branch l.link n)
      ∙ ap (λ z. cond (z && n == id) None was) (swapped link.0 l.link.0 (link.0 == l.link.0) refl)
      ∙ ap (λ z. cond (link.0 == l.link.0 && z) None was) (swapped id n (id == n) refl))
      ∙ by (link.0 == l.link.0) (id == n) refl
    where
      was : Option (Option Asker)
      was = back node.pending (branch l.link n)

      by : (t u : Bool) → (id == n) ≡ u →
          option_map (λ q. option_and_then (λ a. place_in node a) q) (cond (t && u) None was) ≡ (with_deeds (half_of node l) (cond t (Closes id ∷ []) [])).back n
      by true true e = ap (λ z. cond z None (back_in node l n)) (sym e)
      by true false e = ap (λ z. cond z None (back_in node l n)) (sym e)
      by false u e = refl

  kept : (n : ℕ) → asked (asks_on l.link n) node.pending ≡ (with_deeds (half_of node l) (cond (link.0 == l.link.0) (Closes id ∷ []) [])).keeps n
  kept n = by (link.0 == l.link.0)
    where
      by : (t : Bool) → asked (asks_on l.link n) node.pending ≡ (with_deeds (half_of node l) (cond t (Closes id ∷ []) [])).keeps n
      by true = refl
      by false = refl

  final_sent : (o : Option Asker) →
      (flat_map (λ m. asks_in tag m) (option_map_or (λ a. ending_for node.held extras l.link.0 a) o []) ≡ flat_map asked_by_deed (ends_of (released node tag) l.link o))
      × (flat_map (λ m. answers_in tag m) (option_map_or (λ a. ending_for node.held extras l.link.0 a) o []) ≡ flat_map answered_by_deed (ends_of (released node tag) l.link o))
  final_sent None = (refl, refl)
  final_sent (Some a) = final_is_deed node tag extras l.link a

  pub final_done : IsDone node (From link (Final id extras)) tag l
  final_done =
      let b : Branch = branch (link_no link.0) id in
      let pending : ℕ → Option (Option Place) = back_in (after node (From link (Final id extras))) l in
      let start : Half = with_deeds (half_of node l) (cond (link.0 == l.link.0) (Closes id ∷ []) []) in
      let same : half_by node.pending l.link pending ≡ start = same_half (half_by node.pending l.link pending) start (record { keeps = kept; back = closed }) in
      done_from node link (Final id extras) tag l (Closes id) (ends_of (released node tag) l.link (final_to node.pending b)) refl refl refl (λ h. tt)
      (subst (λ h. Leads h (ends_of (released node tag) l.link (final_to node.pending b)) (half_by (finished node.pending b) l.link pending)) same (ends_lead (released node tag) node.pending b l.link pending sound))
      (final_sent (final_to node.pending b)).0 (final_sent (final_to node.pending b)).1
      (ends_meant node (From link (Final id extras)) tag l refl (final_to node.pending b))
