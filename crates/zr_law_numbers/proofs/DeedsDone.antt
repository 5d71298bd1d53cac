-- What shows that an event is done on a link: own deeds that lead from what is kept behind those that handle what came to what the event leaves, and
-- that send what it sends first.
use Rattle.std.proofs.Common.{◌≡◌, ℕ, ◌==◌, Bool, true, false, cond, List, [], ◌∷◌, ◌++◌, map, Option, Some, None, inl, inr, refl, sym, ap, subst, ◌∙◌}
use Rattle.std.specs.List.{AllByRecursion, flat_map}
use Rattle.std.specs.Option.{option_map, option_and_then}
use Rattle.std.proofs.lemmas.Grind.{flat_map-append}
use Rattle.zr_lists.proofs.Finds.{In}
use Rattle.zr_id.specs.declared.link.LinkNo.{LinkNo}
use Rattle.zr_msg.specs.declared.event.Event.{Event}
use Rattle.zr_msg.specs.declared.event.Event.TheVariants.{From}
use Rattle.zr_msg.specs.declared.msg.Msg.{Msg}
use Rattle.zr_msg.specs.declared.msg.Msg.TheVariants.{Response, Final}
use Rattle.zr_msg.specs.declared.content.Parts.{Parts}
use Rattle.std.proofs.lemmas.Bool.{eqb-true}
use Rattle.zr_msg.specs.declared.extras.Extras.{Extras}
use Rattle.zr_msg.specs.declared.peer.LinkPeer.{LinkPeer}
use Rattle.zr_pend_spec.specs.declared.branch.Asker.{Asker}
use Rattle.zr_pend_spec.specs.Pending.{branch}
use Rattle.zr_pend_spec.specs.Readings.{back}
use Rattle.zr_pend_spec.specs.Held.{held_for}
use Rattle.zr_node_spec.specs.Queries.{ending_for}
use Rattle.zr_node_spec.specs.State.{NodeState}
use Rattle.zr_node_spec.specs.Table.{sends_first, after}
use Rattle.zr_law_queries.specs.Link.{reply}
use Rattle.zr_law_numbers.specs.Waiting.{Place, Said, asks_in, answers_in}
use Rattle.zr_law_numbers.specs.Deeds.{Half, Deed, Ends, IsHalf, is_ending, with_deeds, MayDo, MayDoAll, asked_by_deed, answered_by_deed, place_in, half_of, handles, handles_msg, IsMeant, IsDone}
use Rattle.zr_law_numbers.proofs.DeedLists.{with-append, may-append, Leads, says, says_asks, says_answers, ends_for, ends_of}
use Rattle.zr_law_numbers.proofs.SentOfQueries.{IsOfQueries, first_tells}

pub asks_are : (tag : ℕ) → IsOfQueries (λ m. asks_in tag m)
asks_are tag = record { state = λ r. refl; push = λ tree content. refl; step = λ source number added decl. refl; snap = λ source number decls. refl }

pub answers_are : (tag : ℕ) → IsOfQueries (λ m. answers_in tag m)
answers_are tag = record { state = λ r. refl; push = λ tree content. refl; step = λ source number added decl. refl; snap = λ source number decls. refl }

-- for whom a router has a number of a link pending
abbrev pub back_in : NodeState → LinkPeer → ℕ → Option (Option Place)
back_in node l n = option_map (λ o. option_and_then (λ from. place_in node from) o) (back node.pending (branch l.link n))

-- ---- what is released is said, under the event's tag

abbrev pub released : NodeState → ℕ → Asker → List Said
released node tag a = map (λ c. record { line = tag; content = c }) (held_for node.held a)

-- ---- a final that is sent is a deed, and so is each reply that is released before it

sent_answers : (tag n : ℕ) (cs : List Parts) (ms : List Msg) → flat_map (λ m. answers_in tag m) (map (λ c. Response n c) cs ++ ms) ≡ map (λ r. reply n r) (map (λ c. record { line = tag; content = c }) cs) ++ flat_map (λ m. answers_in tag m) ms
sent_answers tag n [] ms = refl
sent_answers tag n (c ∷ cs) ms = ap (λ z. reply n (record { line = tag; content = c }) ∷ z) (sent_answers tag n cs ms)

sent_asks : (tag n : ℕ) (cs : List Parts) (ms : List Msg) → flat_map (λ m. asks_in tag m) (map (λ c. Response n c) cs ++ ms) ≡ flat_map (λ m. asks_in tag m) ms
sent_asks tag n [] ms = refl
sent_asks tag n (c ∷ cs) ms = sent_asks tag n cs ms

pub final_is_deed : (node : NodeState) (tag : ℕ) (extras : Extras) (to : LinkNo) (a : Asker) →
    (flat_map (λ m. asks_in tag m) (ending_for node.held extras to.0 a) ≡ flat_map asked_by_deed (ends_for (released node tag) to a))
    × (flat_map (λ m. answers_in tag m) (ending_for node.held extras to.0 a) ≡ flat_map answered_by_deed (ends_for (released node tag) to a))
final_is_deed node tag extras to a = by (to.0 == a.link.0)
  where
    cs : List Parts
    cs = held_for node.held a

    by : (t : Bool) → (flat_map (λ m. asks_in tag m) (cond t (map (λ c. Response a.number c) (held_for node.held a)) [] ++ cond t (Final a.number extras ∷ []) []) ≡ flat_map asked_by_deed (cond t (says a.number (released node tag a) ++ Ends a.number ∷ []) []))
        × (flat_map (λ m. answers_in tag m) (cond t (map (λ c. Response a.number c) (held_for node.held a)) [] ++ cond t (Final a.number extras ∷ []) []) ≡ flat_map answered_by_deed (cond t (says a.number (released node tag a) ++ Ends a.number ∷ []) []))
    by true = (
      sent_asks tag a.number (held_for node.held a) (Final a.number extras ∷ []) ∙ sym (says_asks a.number (released node tag a) (Ends a.number ∷ [])),
      sent_answers tag a.number (held_for node.held a) (Final a.number extras ∷ []) ∙ sym (says_answers a.number (released node tag a) (Ends a.number ∷ [])),
    )
    by false = (refl, refl)

-- what is released was held, and a final is no request or reply that is passed on
says_meant : (node : NodeState) (event : Event) (tag : ℕ) (l : LinkPeer) → is_ending event ≡ true → (n : ℕ) (cs : List Parts) → ((c : Parts) → In c cs → In c (held_for node.held (record { link = l.link; number = n }))) →
    AllByRecursion (λ d. IsMeant node event tag l d) (says n (map (λ c. record { line = tag; content = c }) cs) ++ Ends n ∷ [])
says_meant node event tag l e n [] sub = (tt, tt)
says_meant node event tag l e n (c ∷ cs) sub = (inr (record { content = c; reply = refl; ends = e; held = sub c (inl refl) }), says_meant node event tag l e n cs (λ d i. sub d (inr i)))

pub end_meant : (node : NodeState) (event : Event) (tag : ℕ) (l : LinkPeer) → is_ending event ≡ true → (a : Asker) → AllByRecursion (λ d. IsMeant node event tag l d) (ends_for (released node tag) l.link a)
end_meant node event tag l ends a = by (l.link.0 == a.link.0) refl
  where
    by : (t : Bool) → (l.link.0 == a.link.0) ≡ t → AllByRecursion (λ d. IsMeant node event tag l d) (cond t (says a.number (released node tag a) ++ Ends a.number ∷ []) [])
    by true e =
        let there : a.link.0 ≡ l.link.0 = sym (eqb-true l.link.0 a.link.0 e) in
        let own : a ≡ record { link = l.link; number = a.number } = λ i. record { link = record { 0 = there i }; number = a.number } in
        says_meant node event tag l ends a.number (held_for node.held a) (λ c i. subst (λ z. In c (held_for node.held z)) own i)
    by false e = tt

pub ends_meant : (node : NodeState) (event : Event) (tag : ℕ) (l : LinkPeer) → is_ending event ≡ true → (o : Option Asker) → AllByRecursion (λ d. IsMeant node event tag l d) (ends_of (released node tag) l.link o)
ends_meant node event tag l e None = tt
ends_meant node event tag l e (Some a) = end_meant node event tag l e a

-- ---- an event is done

module _ (node : NodeState) (event : Event) (tag : ℕ) (l : LinkPeer) where
  pub done_by : (handled own : List Deed) → handles event l ≡ handled → flat_map asked_by_deed handled ≡ [] → flat_map answered_by_deed handled ≡ [] → MayDoAll (half_of node l) handled →
      Leads (with_deeds (half_of node l) handled) own (half_of (after node event) l) →
      flat_map (λ m. asks_in tag m) (sends_first node event l.link) ≡ flat_map asked_by_deed own →
      flat_map (λ m. answers_in tag m) (sends_first node event l.link) ≡ flat_map answered_by_deed own → AllByRecursion (λ d. IsMeant node event tag l d) own → IsDone node event tag l
  done_by handled own e asks answers may leads asked answered meant = record {
    own = own;
    owns = leads.owns;
    does = record {
      asks = first_tells (λ m. asks_in tag m) (asks_are tag) node event l.link ∙ asked ∙ sym (nothing asked_by_deed asks);
      answers = first_tells (λ m. answers_in tag m) (answers_are tag) node event l.link ∙ answered ∙ sym (nothing answered_by_deed answers);
      leaves = subst (λ hs. IsHalf (half_of (after node event) l) (with_deeds (half_of node l) (hs ++ own))) (sym e)
          (subst (λ h. IsHalf (half_of (after node event) l) h) (sym (with-append (half_of node l) handled own)) leads.leaves);
      may = subst (λ hs. MayDoAll (half_of node l) (hs ++ own)) (sym e) (may-append (half_of node l) handled own may leads.may);
    };
    meant = meant;
  }
    where
      nothing : {X : Type 0} (tells : Deed → List X) → flat_map tells handled ≡ [] → flat_map tells (handles event l ++ own) ≡ flat_map tells own
      nothing tells k = ap (λ hs. flat_map tells (hs ++ own)) e ∙ flat_map-append tells handled own ∙ ap (λ z. z ++ flat_map tells own) k

-- where nothing came over the link
pub done_alone : (node : NodeState) (event : Event) (tag : ℕ) (l : LinkPeer) (own : List Deed) → handles event l ≡ [] → Leads (half_of node l) own (half_of (after node event) l) →
    flat_map (λ m. asks_in tag m) (sends_first node event l.link) ≡ flat_map asked_by_deed own →
    flat_map (λ m. answers_in tag m) (sends_first node event l.link) ≡ flat_map answered_by_deed own → AllByRecursion (λ d. IsMeant node event tag l d) own → IsDone node event tag l
done_alone node event tag l own e leads asked answered meant = done_by node event tag l [] own e refl refl tt leads asked answered meant

-- a message came, and where it came over this link it is handled by one deed
pub done_from : (node : NodeState) (link : LinkNo) (msg : Msg) (tag : ℕ) (l : LinkPeer) (d : Deed) (own : List Deed) → handles_msg msg ≡ d ∷ [] → asked_by_deed d ≡ [] → answered_by_deed d ≡ [] →
    ((h : Half) → MayDo h d) →
    Leads (with_deeds (half_of node l) (cond (link.0 == l.link.0) (d ∷ []) [])) own (half_of (after node (From link msg)) l) →
    flat_map (λ m. asks_in tag m) (sends_first node (From link msg) l.link) ≡ flat_map asked_by_deed own →
    flat_map (λ m. answers_in tag m) (sends_first node (From link msg) l.link) ≡ flat_map answered_by_deed own → AllByRecursion (λ z. IsMeant node (From link msg) tag l z) own → IsDone node (From link msg) tag l
done_from node link msg tag l d own e asks answers may leads asked answered meant =
    done_by node (From link msg) tag l (cond (link.0 == l.link.0) (d ∷ []) []) own (ap (λ ds. cond (link.0 == l.link.0) ds []) e)
    (by (link.0 == l.link.0)).0 (by (link.0 == l.link.0)).1 (by (link.0 == l.link.0)).2 leads asked answered meant
  where
    by : (t : Bool) → (flat_map asked_by_deed (cond t (d ∷ []) []) ≡ []) × (flat_map answered_by_deed (cond t (d ∷ []) []) ≡ []) × MayDoAll (half_of node l) (cond t (d ∷ []) [])
    by true = (ap (λ z. z ++ []) asks, ap (λ z. z ++ []) answers, (may (half_of node l), tt))
    by false = (refl, refl, tt)
