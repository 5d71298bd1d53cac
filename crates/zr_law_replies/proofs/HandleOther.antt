-- A router handles a message that has nothing of queries: all hops and all rows stay, so a query stands as it did. And a router handles any message, once
-- that is known of replies and finals (`other_then`, `handle_stands`).
use Rattle.std.proofs.Common.{◌≡◌, ℕ, true, false, List, [], refl, ap, ◌∙◌}
use Rattle.std.specs.Prelude.{IfSome}
use Rattle.zr_msg.specs.declared.content.Parts.{Parts}
use Rattle.zr_msg.specs.declared.extras.Extras.{Extras}
use Rattle.zr_msg.specs.declared.msg.Msg.{Msg}
use Rattle.zr_msg.specs.declared.msg.Msg.TheVariants.{Sub, Unsub, Token, Untoken, Able, Unable, Interest, EndInterest, ToldSub, ToldAble, ToldUnsub, ToldToken, ToldUntoken, ToldUnable, ToldEnd, Push, Request, Response, Final, State, Step, Snap}
use Rattle.zr_msg.specs.declared.event.Event.TheVariants.{From}
use Rattle.zr_script_spec.specs.declared.command.Act.TheVariants as c
use Rattle.zr_world_spec.specs.Acts.{having_told, handle_step}
use Rattle.zr_world_spec.specs.Moments.{Numbered, Moment, went}
use Rattle.zr_guarantee.specs.Queries.{Asked}
use Rattle.zr_law_queries.specs.Query.{IsTree}
use Rattle.zr_law_samples.proofs.Start.{ready}
use Rattle.zr_law_numbers.specs.Waiting.{is_whole}
use Rattle.zr_law_numbers.specs.Deeds.{handles_msg}
use Rattle.zr_law_numbers.proofs.Whole.{whole_apart}
use Rattle.zr_law_replies.specs.Trees.{has_router, tree_at}
use Rattle.zr_law_replies.specs.Stands.{is_of, asked_at, request_to, Stands}
use Rattle.zr_law_replies.proofs.Trees.{client_apart, is_tree}
use Rattle.zr_law_replies.proofs.MarkChanges.{foreign_marks}
use Rattle.zr_law_replies.proofs.StandBranches.{row_same, held_same}
use Rattle.zr_law_replies.proofs.StandStep.{Begins, Here, Then}
use Rattle.zr_law_replies.proofs.StandBegins.{kids_whole}
use Rattle.zr_law_replies.proofs.ActHops.{Any, still_hop}
use Rattle.zr_law_replies.proofs.HandleLinks.{quiet_is, quiet_links, links_stay}
use Rattle.zr_law_replies.proofs.StandHere.{still_whole}
use Rattle.zr_law_replies.proofs.HandleHeard.{Heard, after_heard, for_heard, heard_same}
use Rattle.zr_law_replies.proofs.HandleRequest.{request_then}
use Rattle.zr_law_replies.proofs.StandHolds.{quiet_holds}

module _ (before : List Numbered) (mark : ℕ) (start : Moment) (q : Asked) (b : Begins before mark start q) (phase acts : List Numbered) (m : Moment) (here : Here start.world phase q acts m)
    (n : ℕ) (x from : List ℕ) where
  abbrev s : Stands start.world phase q acts m here.hop
  s = here.stands

  is : IsTree (tree_at start.world q)
  is = is_tree before start.world (ready before mark start b.marked) q b.client b.found

  apart : has_router start.world q.client ≡ false
  apart = client_apart before start.world (ready before mark start b.marked) q b.client b.found

  pub other_then : (msg : Msg) (tag : ℕ) (h : Heard m.world x from msg tag) → handles_msg msg ≡ [] → Then start.world phase q acts m here (n, c.Handle x from) (after_heard m x from msg tag h)
  other_then msg tag h quiet go still hop' plain' =
      heard_same start.world phase q apart acts m here.hop s n x from msg tag h hop' still
      (foreign_marks (tree_at start.world q) is (request_to start.world q) q.line (λ y. refl) (is_whole start.world) (λ a y kid. kids_whole before mark start b.marked q b.client b.found b.up a y kid)
      s.num s.stage here.hop hop' s.marks (λ a y k there o. same a y k there) (λ a y k there o. ap (is_of q.line) (same a y k there) ∙ o))
      (λ o. (
        row_same h.router (having_told h.router (From h.link.link msg))
            (links_stay m.world here.holds.go.0.sound here.holds.go.0.orderly x h.router h.found from h.state h.at msg tag h.behind h.first h.link h.linked)
            (quiet_is h.router.node h.link.link tag msg quiet).pending (asked_at (tree_at start.world q) s.num x),
        held_same h.router (having_told h.router (From h.link.link msg))
            (links_stay m.world here.holds.go.0.sound here.holds.go.0.orderly x h.router h.found from h.state h.at msg tag h.behind h.first h.link h.linked)
            (quiet_holds h.router.node h.link.link msg quiet) (asked_at (tree_at start.world q) s.num x),
      ))
    where
      same : (a y : List ℕ) (k : ℕ) → is_whole start.world a y ≡ true → hop' a y k ≡ here.hop a y k
      same a y k there =
          let whole = still_whole start.world m.world s.still a y ∙ there in
          still_hop start.world q m.world here.holds.lines here.hop here.plain (after_heard m x from msg tag h).world hop' plain' a y whole
          (still_whole start.world (after_heard m x from msg tag h).world still a y ∙ there) Any Any k
          (quiet_links m.world here.holds.go.0.sound here.holds.go.0.orderly x h.router h.found from h.state h.at msg tag h.behind h.first h.link h.linked quiet a y
          (whole_apart m.world here.holds.go.0.sound a y whole))

  abbrev pub Goes : Moment → Type 0
  Goes next = Then start.world phase q acts m here (n, c.Handle x from) next

  -- any message
  module _ (responses : (id : ℕ) (content : Parts) (tag : ℕ) (h : Heard m.world x from (Response id content) tag) → Goes (after_heard m x from (Response id content) tag h))
      (finals : (id : ℕ) (extras : Extras) (tag : ℕ) (h : Heard m.world x from (Final id extras) tag) → Goes (after_heard m x from (Final id extras) tag h)) where
    handled_then : (msg : Msg) (tag : ℕ) (h : Heard m.world x from msg tag) → Goes (after_heard m x from msg tag h)
    handled_then (Sub id key) tag h = other_then (Sub id key) tag h refl
    handled_then (Unsub id) tag h = other_then (Unsub id) tag h refl
    handled_then (Token id key) tag h = other_then (Token id key) tag h refl
    handled_then (Untoken id) tag h = other_then (Untoken id) tag h refl
    handled_then (Able id key complete) tag h = other_then (Able id key complete) tag h refl
    handled_then (Unable id) tag h = other_then (Unable id) tag h refl
    handled_then (Interest id current future kinds key aggregate) tag h = other_then (Interest id current future kinds key aggregate) tag h refl
    handled_then (EndInterest id) tag h = other_then (EndInterest id) tag h refl
    handled_then (ToldSub id key interest) tag h = other_then (ToldSub id key interest) tag h refl
    handled_then (ToldToken id key interest) tag h = other_then (ToldToken id key interest) tag h refl
    handled_then (ToldAble id key complete interest) tag h = other_then (ToldAble id key complete interest) tag h refl
    handled_then (ToldUnsub id) tag h = other_then (ToldUnsub id) tag h refl
    handled_then (ToldUntoken id) tag h = other_then (ToldUntoken id) tag h refl
    handled_then (ToldUnable id) tag h = other_then (ToldUnable id) tag h refl
    handled_then (ToldEnd interest) tag h = other_then (ToldEnd interest) tag h refl
    handled_then (Push tree content) tag h = other_then (Push tree content) tag h refl
    handled_then (Request tree id target content) tag h = request_then before mark start q b phase acts m here n x from tree id target content tag h
    handled_then (Response id content) tag h = responses id content tag h
    handled_then (Final id extras) tag h = finals id extras tag h
    handled_then (State links) tag h = other_then (State links) tag h refl
    handled_then (Step source number added decl) tag h = other_then (Step source number added decl) tag h refl
    handled_then (Snap source number decls) tag h = other_then (Snap source number decls) tag h refl

    pub handle_stands : IfSome (went m (handle_step m.world x from)) (Then start.world phase q acts m here (n, c.Handle x from))
    handle_stands = for_heard m Goes x from handled_then
