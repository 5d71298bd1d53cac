-- Acts that do nothing to a query, with the hops that links show behind them: a sample is published, a mark, tables are shown, a message is taken to a router (`publish_stands` and so on).
use Rattle.std.proofs.Common.{◌≡◌, ℕ, true, false, List, [], ◌∷◌, ◌++◌, Option, Some, None, is_some, refl, ap, ◌∙◌}
use Rattle.std.specs.Prelude.{Bool, unwrap_or, IfSome}
use Rattle.std.proofs.lemmas.Bool.{or_right}
use Rattle.zr_msg.specs.declared.content.Parts.{Parts}
use Rattle.zr_msg.specs.declared.msg.Kinds.{Kinds}
use Rattle.zr_msg.specs.declared.msg.Msg.{Msg}
use Rattle.zr_msg.specs.declared.msg.Msg.TheVariants as msgs
use Rattle.zr_script_spec.specs.declared.command.Act.TheVariants as c
use Rattle.zr_script_spec.specs.declared.command.Mode.{Mode}
use Rattle.zr_script_spec.specs.Mode.{is_current, is_future}
use Rattle.zr_world_spec.specs.World.{with_router, with_client, router_of, client_of, is_unbroken}
use Rattle.zr_world_spec.specs.Acts.{weighing, wanting, unwanting, interest_step, uninterest_step, publish_step, take_step, mark_step, show_step}
use Rattle.zr_world_spec.specs.Moments.{Numbered, Moment, went}
use Rattle.zr_world_spec.proofs.Keyed.{there}
use Rattle.zr_world_spec.proofs.Cases.{on_said, on_weighed, on_take, on_mark, on_show, for_interest, for_uninterest, for_publish, for_take, for_mark, for_show}
use Rattle.zr_law_settled.proofs.Moving.{unbroken_at}
use Rattle.zr_guarantee.specs.Queries.{Asked}
use Rattle.zr_law_numbers.specs.Waiting.{link_of, is_whole}
use Rattle.zr_law_numbers.proofs.Numbers.{AllGo}
use Rattle.zr_law_numbers.proofs.Whole.{router_alone}
use Rattle.zr_law_numbers.proofs.ActClients.{quiet_deeds}
use Rattle.zr_law_numbers.proofs.ActTakes.{take_links}
use Rattle.zr_law_replies.specs.Trees.{has_router}
use Rattle.zr_law_replies.specs.Stands.{IsStill}
use Rattle.zr_law_replies.proofs.Links.{lines_on}
use Rattle.zr_law_replies.proofs.StandSteps.{Hops}
use Rattle.zr_law_replies.proofs.StandStep.{PlainHops, Begins, Here, Then}
use Rattle.zr_law_replies.proofs.StandSameHops.{stands_hop}
use Rattle.zr_law_replies.proofs.ActHops.{Any, still_hop}
use Rattle.zr_law_replies.proofs.StandHere.{still_whole, still_router, kids, whole_now, asker_apart}
use Rattle.zr_law_replies.proofs.InterestLinks.{AreQuiet, none_quiet, interests_quiet, weighs_quiet, link_stays}
use Rattle.zr_law_replies.proofs.SayHops.{same_client, says_same}
use Rattle.zr_law_replies.proofs.QuietActs as quiet

module _ (before : List Numbered) (mark : ℕ) (start : Moment) (q : Asked) (b : Begins before mark start q) (phase acts : List Numbered) (m : Moment) (here : Here start.world phase q acts m) where
  -- all hops of links that are whole stay
  abbrev HopsStay : Moment → Type 0
  HopsStay next = AllGo next → IsStill start.world next.world → (hop' : Hops) → PlainHops start.world q next.world (lines_on next.world here.holds.lines) hop' →
      (x y : List ℕ) (n : ℕ) → is_whole start.world x y ≡ true → hop' x y n ≡ here.hop x y n

  apart : has_router start.world q.client ≡ false
  apart = asker_apart before mark start q b phase acts m here

  -- so the query stands with those
  with_hops : (x : Numbered) (o : Option Moment) → IfSome o (quiet.Goes start.world phase q apart acts m here.hop here.stands x) → IfSome o HopsStay → IfSome o (Then start.world phase q acts m here x)
  with_hops x None stands hops = tt
  with_hops x (Some next) stands hops = λ go still hop' p'.
      stands_hop start.world phase q (acts ++ x ∷ []) next here.hop hop' b.tree.is_tree (kids before mark start q b) (hops go still hop' p') (stands still)

  -- links that are as they were
  links_stay : (next : Moment) → ((x y : List ℕ) → is_whole next.world x y ≡ true → link_of m.world x y ≡ link_of next.world x y) → HopsStay next
  links_stay next same go still hop' p' x y n there =
      let then : is_whole next.world x y ≡ true = still_whole start.world next.world still x y ∙ there in
      still_hop start.world q m.world here.holds.lines here.hop here.plain next.world hop' p' x y (whole_now before mark start q b phase acts m here x y there) then Any Any n (same x y then)

  pub publish_stands : (n : ℕ) (client : List ℕ) (content : Parts) → IfSome (went m (publish_step m.world n client content)) (Then start.world phase q acts m here (n, c.Publish client content))
  publish_stands n client content =
      with_hops (n, c.Publish client content) (went m (publish_step m.world n client content)) (quiet.publish_stands start.world phase q apart acts m here.hop here.stands n client content)
      (for_publish m HopsStay n client content (λ s es e ee unbroken go still hop' p' x y k there.
      says_same m.world here.holds.go.0 client s es e ee n (msgs.Push None content) s refl (quiet_deeds client s s n (msgs.Push None content) refl refl refl refl) m.world.clients (same_client m.world.clients client s es) go.0
      (or_right (is_unbroken m.world.ends (client, s.router)) (is_unbroken m.world.ends (s.router, client)) (ap unbroken_at ee ∙ unbroken))
      start.world q here.holds.lines here.hop hop' here.plain p' x y k (whole_now before mark start q b phase acts m here x y there) (λ ex ey. refl) (λ ex ey. refl)))

  pub interest_stands : (n : ℕ) (client : List ℕ) (id : ℕ) (mode : Mode) (kinds : Kinds) (key : Option (List ℕ)) (aggregate : Bool) →
      IfSome (went m (interest_step m.world n client id mode kinds key aggregate)) (Then start.world phase q acts m here (n, c.Interest client id mode kinds key aggregate))
  interest_stands n client id mode kinds key aggregate =
      let msg : Msg = msgs.Interest id (is_current mode) (is_future mode) kinds key aggregate in
      with_hops (n, c.Interest client id mode kinds key aggregate) (went m (interest_step m.world n client id mode kinds key aggregate))
      (quiet.interest_stands start.world phase q apart acts m here.hop here.stands n client id mode kinds key aggregate)
      (for_interest m HopsStay n client id mode kinds key aggregate
      (λ s es fresh e ee unbroken once. links_stay (on_said m n client msg s e m.world.clients) (λ x y whole. link_stays m.world client s e ee n msg refl refl m.world.routers m.world.clients (none_quiet m.world) x y))
      (λ s es fresh e ee unbroken lasts r er room.
      let wants : AreQuiet m.world m.world.routers (with_client m.world.clients client (wanting s id)) = interests_quiet m.world client s (wanting s id) es (λ a b k. refl) (λ a b k. refl) in
      links_stay (on_weighed m n client (unwrap_or key []) msg s e r (with_client m.world.clients client (wanting s id)))
      (λ x y whole. link_stays m.world client s e ee n msg refl refl (with_router m.world.routers s.router (weighing r (unwrap_or key []))) (with_client m.world.clients client (wanting s id))
      (weighs_quiet m.world (with_client m.world.clients client (wanting s id)) wants s.router r er (unwrap_or key [])) x y)))

  pub uninterest_stands : (n : ℕ) (client : List ℕ) (id : ℕ) → IfSome (went m (uninterest_step m.world n client id)) (Then start.world phase q acts m here (n, c.Uninterest client id))
  uninterest_stands n client id =
      with_hops (n, c.Uninterest client id) (went m (uninterest_step m.world n client id)) (quiet.uninterest_stands start.world phase q apart acts m here.hop here.stands n client id)
      (for_uninterest m HopsStay n client id (λ s es known e ee unbroken. links_stay (on_said m n client (msgs.EndInterest id) s e (with_client m.world.clients client (unwanting s id)))
      (λ x y whole. link_stays m.world client s e ee n (msgs.EndInterest id) refl refl m.world.routers (with_client m.world.clients client (unwanting s id))
      (interests_quiet m.world client s (unwanting s id) es (λ a b k. refl) (λ a b k. refl)) x y)))

  pub mark_stands : (n : ℕ) → IfSome (went m (mark_step m.world n)) (Then start.world phase q acts m here (n, c.Mark))
  mark_stands n =
      with_hops (n, c.Mark) (went m (mark_step m.world n)) (quiet.mark_stands start.world phase q apart acts m here.hop here.stands n)
      (for_mark m HopsStay n (λ settled joined. links_stay (on_mark m n) (λ x y whole. refl)))

  pub show_stands : (n : ℕ) (router : List ℕ) → IfSome (went m (show_step m.world router)) (Then start.world phase q acts m here (n, c.Show router))
  show_stands n router =
      with_hops (n, c.Show router) (went m (show_step m.world router)) (quiet.show_stands start.world phase q apart acts m here.hop here.stands n router)
      (for_show m HopsStay router (λ r er. links_stay (on_show m router r) (λ x y whole. refl)))

  -- a message goes from a queue to the wire of another router
  pub take_router_stands : (n : ℕ) (router to : List ℕ) → has_router start.world to ≡ true → IfSome (went m (take_step m.world router to)) (Then start.world phase q acts m here (n, c.Take router to))
  take_router_stands n router to is_router =
      with_hops (n, c.Take router to) (went m (take_step m.world router to)) (quiet.take_stands start.world phase q apart acts m here.hop here.stands n router to is_router alone)
      (for_take m HopsStay router to (λ r er taken e ee up unbroken msg tag xs first.
      links_stay (on_take m router to e msg tag xs) (λ x y whole. (take_links m.world router to alone (here.holds.go.0.holds.twins router to (ap is_some ee) now) msg tag xs e ee first x y whole).1)))
    where
      now : has_router m.world to ≡ true
      now = still_router start.world m.world here.stands.still to ∙ is_router

      alone : client_of m.world.clients to ≡ None
      alone = let r = there (router_of m.world.routers to) now in router_alone m.world here.holds.go.0.orderly to r.0 r.1
