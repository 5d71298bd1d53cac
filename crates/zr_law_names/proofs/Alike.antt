-- A router does the same by events that are others but for what changes nothing (`steps_are_alike`).
use Rattle.std.proofs.Common.{◌≡◌, List, [], ◌∷◌, ◌++◌, inl, inr, refl, sym, ap, ◌∙◌, subst}
use Rattle.std.specs.List.{fold}
use Rattle.zr_id.specs.declared.link.LinkNo.{LinkNo}
use Rattle.zr_msg.specs.declared.event.Event.{Event}
use Rattle.zr_told_spec.specs.Hub.{HubState, new_hub, hub_sends, hub_after, hub_refuses}
use Rattle.zr_law_names.specs.Names.{nameless_hub}
use Rattle.zr_law_names.specs.Trees.{treeless_event}
use Rattle.zr_law_names.specs.Alike.{plain_event, IsAs, DoesAs, GoWith, all_sent, StepsAreAlike, EventsAreAsThemselves}
use Rattle.zr_law_names.proofs.Names.{names_change_nothing}
use Rattle.zr_law_names.proofs.Trees.{trees_change_nothing}

-- ---- one event

-- without names and trees it does what it does with them
module _ (h : HubState) (event : Event) where
  abbrev plain : Event
  plain = treeless_event h.node.links event

  left_plain : hub_after (nameless_hub h) (plain_event h event) ≡ nameless_hub (hub_after h event)
  left_plain = (names_change_nothing h plain).after ∙ ap nameless_hub (trees_change_nothing h event).after

  sent_plain : (link : LinkNo) → hub_sends (nameless_hub h) (plain_event h event) link ≡ hub_sends h event link
  sent_plain link = (names_change_nothing h plain).sends link ∙ (trees_change_nothing h event).sends link

  refused_plain : hub_refuses (nameless_hub h) (plain_event h event) ≡ hub_refuses h event
  refused_plain = (names_change_nothing h plain).refuses ∙ (trees_change_nothing h event).refuses

-- so it does at one router what it does at another one that is the same but for names
does_as : (h g : HubState) (event other : Event) → nameless_hub h ≡ nameless_hub g → IsAs h event g other → DoesAs h event g other
does_as h g event other same is = record {
  is = is;
  sends = λ link. sym (sent_plain h event link) ∙ both (λ z e. hub_sends z e link) ∙ sent_plain g other link;
  refuses = sym (refused_plain h event) ∙ both hub_refuses ∙ refused_plain g other;
  after = sym (left_plain h event) ∙ both hub_after ∙ left_plain g other;
}
  where
    both : {X : Type 0} (f : HubState → Event → X) → f (nameless_hub h) (plain_event h event) ≡ f (nameless_hub g) (plain_event g other)
    both f = ap (λ z. f z (plain_event h event)) same ∙ ap (f (nameless_hub g)) is

-- ---- many events

-- what two routers do that are the same but for names
record Same (h g : HubState) (events others : List Event) : Type 0 where
  steps : GoWith DoesAs h g events others
  after : nameless_hub (fold hub_after h events) ≡ nameless_hub (fold hub_after g others)
  sends : (link : LinkNo) → all_sent h events link ≡ all_sent g others link

same_all : (events : List Event) (h g : HubState) → nameless_hub h ≡ nameless_hub g → (others : List Event) → GoWith IsAs h g events others → Same h g events others
same_all [] h g same others is =
    record { steps = is; after = same ∙ ap (λ es. nameless_hub (fold hub_after g es)) (sym is); sends = λ link. ap (λ es. all_sent g es link) (sym is) }
same_all (event ∷ events) h g same others (inl none) =
    let ih = same_all events h g same others none.1 in
    record {
      steps = inl (none.0, ih.steps);
      after = ap (λ z. nameless_hub (fold hub_after z events)) none.0.keeps ∙ ih.after;
      sends = λ link. ap (λ z. z ++ all_sent (hub_after h event) events link) (none.0.sends link) ∙ ap (λ z. all_sent z events link) none.0.keeps ∙ ih.sends link;
    }
same_all (event ∷ events) h g same others (inr is) =
    let step = does_as h g event is.0 same is.3 in
    let ih = same_all events (hub_after h event) (hub_after g is.0) step.after is.1 is.4 in
    subst (Same h g (event ∷ events)) (sym is.2) (record {
      steps = inr (is.0, is.1, refl, step, ih.steps);
      after = ih.after;
      sends = λ link. ap (λ z. z ++ all_sent (hub_after h event) events link) (step.sends link) ∙ ap (λ z. hub_sends g is.0 link ++ z) (ih.sends link);
    })

pub steps_are_alike : StepsAreAlike
steps_are_alike me events others is =
    let all = same_all events (new_hub me) (new_hub me) refl others is in record { steps = all.steps; after = all.after; sends = all.sends }

pub events_are_as_themselves : EventsAreAsThemselves
events_are_as_themselves h [] = refl
events_are_as_themselves h (event ∷ events) = inr (event, events, refl, refl, events_are_as_themselves (hub_after h event) events)
