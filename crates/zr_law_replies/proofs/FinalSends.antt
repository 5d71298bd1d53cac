-- What a router does over its links where it handles a final (`final_answering`): its number is pending no more, and where its branch was the last one of a
-- row it sends the final to who asked.
use Rattle.std.proofs.Common.{◌≡◌, ℕ, ◌==◌, Bool, true, false, cond, List, [], ◌∷◌, Option, Some, None, refl, sym, ap, ◌∙◌, subst, append-nil, append_assoc, ◌++◌}
use Rattle.std.specs.Prelude.{◌&&◌}
use Rattle.std.specs.List.{flat_map}
use Rattle.std.specs.Option.{option_map, option_map_or, option_and_then}
use Rattle.std.proofs.lemmas.Bool.{false≢true, eqb-true, eq-eqb, false_from_ne_true}
use Rattle.zr_id.specs.Zid.{is_named}
use Rattle.zr_id.specs.declared.link.LinkNo.{LinkNo}
use Rattle.zr_msg.specs.declared.extras.Extras.{Extras}
use Rattle.zr_msg.specs.declared.event.Event.TheVariants.{From}
use Rattle.zr_msg.specs.declared.msg.Msg.{Msg}
use Rattle.zr_msg.specs.declared.msg.Msg.TheVariants.{Final}
use Rattle.zr_msg.specs.declared.peer.LinkPeer.{LinkPeer}
use Rattle.zr_pend_spec.specs.declared.branch.Asker.{Asker}
use Rattle.zr_pend_spec.specs.declared.branch.Branch.{Branch}
use Rattle.zr_pend_spec.specs.Row.{is_branch}
use Rattle.zr_pend_spec.specs.Pending.{asked, branch, finished, final_to}
use Rattle.zr_pend_spec.specs.Readings.{back}
use Rattle.zr_pend_spec.proofs.Readings.{finished_back}
use Rattle.zr_node_spec.specs.Tables.{link_at, link_to}
use Rattle.zr_node_spec.specs.Queries.{ending_for}
use Rattle.zr_node_spec.specs.Table.{sends}
use Rattle.zr_world_spec.specs.World.{RouterState}
use Rattle.zr_world_spec.specs.Acts.{sends_to, having_told}
use Rattle.zr_world_spec.specs.Sound.{AreUnique}
use Rattle.zr_world_spec.proofs.Links.{named_link, numbered_link}
use Rattle.zr_world_spec.proofs.Names.{names}
use Rattle.zr_law_queries.specs.Link.{Free, hop_ended, Open, hop_replied}
use Rattle.zr_law_numbers.specs.Rows.{AreOfLinks}
use Rattle.zr_law_numbers.specs.Waiting.{Place, place_of, asks_in, answers_in, branch_back, Asked, Said}
use Rattle.zr_law_numbers.specs.Deeds.{Deed, Ends, answered_by_deed, asked_by_deed}
use Rattle.zr_law_numbers.proofs.DeedLists.{Leads, half_by, swapped, ends_lead, says, says_asks, ends_of}
use Rattle.zr_law_numbers.proofs.DeedsDone.{asks_are, answers_are, final_is_deed, released}
use Rattle.zr_law_numbers.proofs.SentOfQueries.{first_tells}
use Rattle.zr_law_replies.proofs.AnswerAskers.{placed, deeds_for, deeds_to, deeds_placed, none_placed}
use Rattle.zr_law_replies.proofs.AnswerHops.{IsTold, half_to, IsAnswering}
use Rattle.zr_law_replies.proofs.FinalRow.{final_there}
use Rattle.zr_law_replies.proofs.DeedHops.{below_hops}
use Rattle.zr_law_replies.specs.Answers.{HopState}

-- ---- replies that are released

abbrev pub hop_says : List Said → HopState → HopState
hop_says [] h = h
hop_says (s ∷ rs) h = hop_says rs (hop_replied s h)

pub says_open : (rs : List Said) (request : Asked) (by : Option Place) (replies : List Said) (done : Bool) → hop_says rs (Open request by replies done) ≡ Open request by (replies ++ rs) done
says_open [] request by replies done = ap (λ z. Open request by z done) (sym (append-nil replies))
says_open (s ∷ rs) request by replies done = says_open rs request by (replies ++ s ∷ []) done ∙ ap (λ z. Open request by z done) (append_assoc replies (s ∷ []) rs)

says_hop : (n i : ℕ) (rs : List Said) (ds : List Deed) (h : HopState) → below_hops n (says i rs ++ ds) h ≡ below_hops n ds (cond (i == n) (hop_says rs h) h)
says_hop n i [] ds h = by (i == n)
  where
    by : (t : Bool) → below_hops n ds h ≡ below_hops n ds (cond t h h)
    by true = refl
    by false = refl
says_hop n i (s ∷ rs) ds h = says_hop n i rs ds (cond (i == n) (hop_replied s h) h) ∙ by (i == n)
  where
    by : (t : Bool) → below_hops n ds (cond t (hop_says rs (cond t (hop_replied s h) h)) (cond t (hop_replied s h) h)) ≡ below_hops n ds (cond t (hop_says rs (hop_replied s h)) h)
    by true = refl
    by false = refl

ends_hop : (n i : ℕ) (rs : List Said) (h : HopState) → below_hops n (says i rs ++ Ends i ∷ []) h ≡ cond (i == n) (hop_ended (hop_says rs h)) h
ends_hop n i rs h = says_hop n i rs (Ends i ∷ []) h ∙ by (i == n)
  where
    by : (t : Bool) → cond t (hop_ended (cond t (hop_says rs h) h)) (cond t (hop_says rs h) h) ≡ cond t (hop_ended (hop_says rs h)) h
    by true = refl
    by false = refl

-- ---- what a final has of queries

module _ (r : RouterState) (unique : AreUnique r.node.links) (of : AreOfLinks r.node) (from : List ℕ) (k : LinkPeer) (linked : link_to r.node.links from ≡ Some k) (id : ℕ) (extras : Extras) (tag : ℕ)
    (o : Option Asker) (pending : back r.node.pending (branch k.link id) ≡ Some o) (by : Option Place) (place_is : placed r o ≡ by) where
  abbrev msg : Msg
  msg = Final id extras

  abbrev b : Branch
  b = branch k.link id

  abbrev then : RouterState
  then = having_told r (From k.link msg)

  -- who gets it, and what is done for that one
  abbrev last : Option Asker
  last = final_to r.node.pending b

  abbrev ends_with : Option Asker → ℕ → List Deed
  ends_with p n = says n (option_map_or (λ z. released r.node tag z) p []) ++ Ends n ∷ []

  -- what was held for it, and the final behind that
  abbrev pub let_go : List Said
  let_go = option_map_or (λ z. released r.node tag z) last []

  abbrev ends : ℕ → List Deed
  ends n = ends_with last n

  ends_are : (p : Option Asker) (to : LinkNo) → ends_of (released r.node tag) to p ≡ deeds_for (ends_with p) to p
  ends_are None to = refl
  ends_are (Some z) to = refl

  final_asks : (p : Option Asker) (to : LinkNo) → flat_map (λ m. asks_in tag m) (option_map_or (λ z. ending_for r.node.held extras to.0 z) p []) ≡ []
  final_asks None to = refl
  final_asks (Some z) to = (final_is_deed r.node tag extras to z).0 ∙ at (to.0 == z.link.0)
    where
      at : (t : Bool) → flat_map asked_by_deed (cond t (says z.number (released r.node tag z) ++ Ends z.number ∷ []) []) ≡ []
      at true = says_asks z.number (released r.node tag z) (Ends z.number ∷ [])
      at false = refl

  final_told : (p : Option Asker) (to : LinkNo) → flat_map (λ m. answers_in tag m) (option_map_or (λ z. ending_for r.node.held extras to.0 z) p []) ≡ flat_map answered_by_deed (ends_of (released r.node tag) to p)
  final_told None to = refl
  final_told (Some z) to = (final_is_deed r.node tag extras to z).1

  silent : (y : List ℕ) → flat_map (λ m. asks_in tag m) (sends_to r.node (From k.link msg) y) ≡ []
  silent y = at (link_to r.node.links y)
    where
      at : (p : Option LinkPeer) → flat_map (λ m. asks_in tag m) (option_map_or (λ l. sends r.node (From k.link msg) l.link) p []) ≡ []
      at None = refl
      at (Some l) = first_tells (λ m. asks_in tag m) (asks_are tag) r.node (From k.link msg) l.link ∙ final_asks last l.link

  -- it is sent on to that one, which keeps the request no more
  told : (y : List ℕ) → IsTold r k.link msg tag y (deeds_to ends y (placed r last))
  told y = at (link_to r.node.links y) refl
    where
      at : (p : Option LinkPeer) → link_to r.node.links y ≡ p → IsTold r k.link msg tag y (deeds_to ends y (placed r last))
      at None e = subst (λ own. IsTold r k.link msg tag y own) (sym (none_placed r unique ends last y e)) (record {
        half = half_to r y;
        owns = refl;
        may = tt;
        answers = ap (λ p. flat_map (λ m. answers_in tag m) (option_map_or (λ (l : LinkPeer). sends r.node (From k.link msg) l.link) p [])) e;
        before = λ n. refl;
        leaves = λ n. ap (λ p. option_map_or (λ (l : LinkPeer). asked (record { link = l.link; number = n }) (finished r.node.pending b)) p false) e
            ∙ sym (ap (λ p. option_map_or (λ (l : LinkPeer). asked (record { link = l.link; number = n }) r.node.pending) p false) e);
      })
      at (Some l) e =
          let lead : Leads (half_by r.node.pending l.link (λ n. None)) (ends_of (released r.node tag) l.link last) (half_by (finished r.node.pending b) l.link (λ n. None)) =
          ends_lead (released r.node tag) r.node.pending b l.link (λ n. None) of.sound in
          subst (λ own. IsTold r k.link msg tag y own) (ends_are last l.link ∙ deeds_placed r unique ends last (final_there r unique of from k linked id o pending by place_is) y l e) (record {
            half = half_by r.node.pending l.link (λ n. None);
            owns = lead.owns;
            may = lead.may;
            answers = ap (λ p. flat_map (λ m. answers_in tag m) (option_map_or (λ (l : LinkPeer). sends r.node (From k.link msg) l.link) p [])) e
                ∙ first_tells (λ m. answers_in tag m) (answers_are tag) r.node (From k.link msg) l.link ∙ final_told last l.link;
            before = λ n. ap (λ p. option_map_or (λ (l : LinkPeer). asked (record { link = l.link; number = n }) r.node.pending) p false) e;
            leaves = λ n. ap (λ p. option_map_or (λ (l : LinkPeer). asked (record { link = l.link; number = n }) (finished r.node.pending b)) p false) e ∙ lead.leaves.keeps n;
          })

  -- its number is pending no more, and all others are as before
  abbrev read : Option (Option Asker) → Option (Option Place)
  read v = option_map (λ p. option_and_then (λ z. place_of r z) p) v

  back_then : (y : List ℕ) (l : LinkPeer) → link_to r.node.links y ≡ Some l → (n : ℕ) → branch_back then y n ≡ cond (is_branch b (branch l.link n)) None (branch_back r y n)
  back_then y l e n =
      ap (λ p. option_and_then (λ (j : LinkPeer). read (back (finished r.node.pending b) (branch j.link n))) p) e ∙ ap read (finished_back r.node.pending b (branch l.link n))
      ∙ cut (is_branch b (branch l.link n)) (back r.node.pending (branch l.link n))
      ∙ ap (cond (is_branch b (branch l.link n)) None) (sym (ap (λ p. option_and_then (λ (j : LinkPeer). read (back r.node.pending (branch j.link n))) p) e))
    where
      cut : (t : Bool) (v : Option (Option Asker)) → read (cond t None v) ≡ cond t None (read v)
      cut true v = refl
      cut false v = refl

  back_here : (n : ℕ) → branch_back then from n ≡ cond (id == n) None (branch_back r from n)
  back_here n = back_then from k linked n
      ∙ ap (λ t. cond t None (branch_back r from n)) (ap (λ t. t && n == id) (eq-eqb k.link.0 k.link.0 refl) ∙ swapped id n (id == n) refl)

  back_apart : (y : List ℕ) (n : ℕ) → is_named from y ≡ false → branch_back then y n ≡ branch_back r y n
  back_apart y n other = at (link_to r.node.links y) refl
    where
      differ : (l : LinkPeer) → link_to r.node.links y ≡ Some l → (l.link.0 == k.link.0) ≡ false
      differ l e = false_from_ne_true (l.link.0 == k.link.0) (λ t.
          let both : Some k ≡ Some l = sym (numbered_link r.node.links unique from k linked) ∙ ap (link_at r.node.links) (sym (eqb-true l.link.0 k.link.0 t)) ∙ numbered_link r.node.links unique y l e in
          let one : k ≡ l = cc in
          let named : from ≡ y = sym (named_link r.node.links from k linked) ∙ ap (λ (z : LinkPeer). z.peer.id) one ∙ named_link r.node.links y l e in
          false≢true (sym other ∙ ap (is_named from) (sym named) ∙ names.refl from))

      at : (p : Option LinkPeer) → link_to r.node.links y ≡ p → branch_back then y n ≡ branch_back r y n
      at None e = ap (λ p. option_and_then (λ (j : LinkPeer). read (back (finished r.node.pending b) (branch j.link n))) p) e
          ∙ sym (ap (λ p. option_and_then (λ (j : LinkPeer). read (back r.node.pending (branch j.link n))) p) e)
      at (Some l) e = back_then y l e n ∙ ap (λ t. cond (t && n == id) None (branch_back r y n)) (differ l e)

  pub final_answering : (a : List ℕ) → IsAnswering r k.link msg tag a from id (placed r last) (λ h. Free) (λ h. hop_ended (hop_says let_go h)) ends
  final_answering a = record {
    quiet = refl;
    silent = silent;
    heard_is = λ n h. refl;
    told_is = λ n i h. ends_hop n i let_go h;
    back_here = back_here;
    back_apart = back_apart;
    tells = λ y other. told y;
  }
