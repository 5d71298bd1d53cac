-- A message is taken to a client while a query stands: whichever message it is, the query stands then (`take_stands`).
use Rattle.std.proofs.Common.{◌≡◌, ℕ, ◌-◌, true, false, List, [], ◌∷◌, ◌++◌, filter, Some, is_some, refl, ap, ◌∙◌, subst}
use Rattle.std.specs.Prelude.{IfSome}
use Rattle.zr_msg.specs.declared.msg.Msg.{Msg}
use Rattle.zr_msg.specs.declared.msg.Msg.TheVariants.{Sub, Unsub, Token, Untoken, Able, Unable, Interest, EndInterest, ToldSub, ToldAble, ToldUnsub, ToldToken, ToldUntoken, ToldUnable, ToldEnd, Push, Request, Response, Final, State, Step, Snap}
use Rattle.zr_script_spec.specs.declared.command.Act.TheVariants as c
use Rattle.zr_world_spec.specs.World.{Tagged, ClientState, EndState, client_of, end_of}
use Rattle.zr_world_spec.specs.Acts.{take_step}
use Rattle.zr_world_spec.specs.Moments.{Numbered, Moment, went}
use Rattle.zr_world_spec.proofs.Cases.{on_take, for_take}
use Rattle.zr_guarantee.specs.Queries.{Asked as Query, turn}
use Rattle.zr_guarantee.specs.Sent.{told_to, is_final}
use Rattle.zr_law_queries.specs.Link.{answers_number}
use Rattle.zr_law_numbers.specs.Waiting.{answers_in, is_whole}
use Rattle.zr_law_numbers.specs.Deeds.{handles_msg}
use Rattle.zr_law_replies.specs.Trees.{tree_at}
use Rattle.zr_law_replies.specs.Stands.{is_of, request_to, Stands}
use Rattle.zr_law_replies.proofs.ToldMore.{others_add_none}
use Rattle.zr_law_replies.proofs.MarkChanges.{foreign_marks}
use Rattle.zr_law_replies.proofs.ActHops.{above_hops, below_hops}
use Rattle.zr_law_replies.proofs.ShownHops.{plain}
use Rattle.zr_law_replies.proofs.StandStep.{request_of, Begins, Here, Then}
use Rattle.zr_law_replies.proofs.StandHere.{kids}
use Rattle.zr_law_replies.proofs.SentHops as hops
use Rattle.zr_law_replies.proofs.SentHops.{Take}
use Rattle.zr_law_replies.proofs.SentAny as taken
use Rattle.zr_law_replies.proofs.SentRequest.{request_stands}
use Rattle.zr_law_replies.proofs.SentReply.{reply_stands}
use Rattle.zr_law_replies.proofs.SentFinal.{final_stands}

module _ (before : List Numbered) (mark : ℕ) (start : Moment) (q : Query) (b : Begins before mark start q) (phase acts : List Numbered) (m : Moment) (here : Here start.world phase q acts m)
    (n : ℕ) (to : List ℕ) where
  module _ (s : ClientState) where
    abbrev StandsThen : (msg : Msg) (tag : ℕ) → Take start.world phase q acts m here to s msg tag → Type 0
    StandsThen msg tag k = Stands start.world phase q (acts ++ (n, c.Take s.router to) ∷ []) (on_take m s.router to k.e msg tag k.xs) k.hop

    -- a message that has nothing to do with queries
    others_stand : (msg : Msg) (tag : ℕ) (k : Take start.world phase q acts m here to s msg tag) → handles_msg msg ≡ [] → answers_in tag msg ≡ [] → ((j : ℕ) → is_final j msg ≡ false) →
        StandsThen msg tag k
    others_stand msg tag k nothing no_answer no_final =
        taken.stands_on before mark start q b phase acts m here n to s msg tag k
        (foreign_marks (tree_at start.world q) b.tree.is_tree (request_to start.world q) q.line (λ y. refl) (is_whole start.world) (kids before mark start q b) here.stands.num here.stands.stage
        here.hop k.hop here.stands.marks (λ x y j there o. same x y there j) (λ x y j there o. ap (is_of q.line) (same x y there j) ∙ o))
        (λ e o. no_final q.number)
        (λ e begun. others_add_none q.number (turn acts q - 1) (told_to m.report q.client) (record { msg = msg; tag = tag }) (ap (filter (answers_number q.number)) no_answer))
      where
        same : (x y : List ℕ) → is_whole start.world x y ≡ true → (j : ℕ) → k.hop x y j ≡ here.hop x y j
        same x y there = hops.by_links start.world q phase acts m here to s msg tag k (λ a d. (j : ℕ) → k.hop a d j ≡ here.hop a d j)
            (λ j. hops.upper_then start.world q phase acts m here to s msg tag k j ∙ ap (λ ds. plain (request_of start.world q s.router) (above_hops j (ds ++ []) (here.hop to s.router j))) nothing ∙ here.plain.taken to s.router j)
            (λ j. hops.lower_then start.world q phase acts m here to s msg tag k j ∙ ap (λ ds. plain (request_of start.world q to) (below_hops j (ds ++ []) (here.hop s.router to j))) nothing ∙ here.plain.taken s.router to j)
            (λ a d still. still) x y there

    each_stands : (msg : Msg) (tag : ℕ) (k : Take start.world phase q acts m here to s msg tag) → StandsThen msg tag k
    each_stands (Sub id key) tag k = others_stand (Sub id key) tag k refl refl (λ j. refl)
    each_stands (Unsub id) tag k = others_stand (Unsub id) tag k refl refl (λ j. refl)
    each_stands (Token id key) tag k = others_stand (Token id key) tag k refl refl (λ j. refl)
    each_stands (Untoken id) tag k = others_stand (Untoken id) tag k refl refl (λ j. refl)
    each_stands (Able id key complete) tag k = others_stand (Able id key complete) tag k refl refl (λ j. refl)
    each_stands (Unable id) tag k = others_stand (Unable id) tag k refl refl (λ j. refl)
    each_stands (Interest id current future kinds key aggregate) tag k = others_stand (Interest id current future kinds key aggregate) tag k refl refl (λ j. refl)
    each_stands (EndInterest id) tag k = others_stand (EndInterest id) tag k refl refl (λ j. refl)
    each_stands (ToldSub id key interest) tag k = others_stand (ToldSub id key interest) tag k refl refl (λ j. refl)
    each_stands (ToldToken id key interest) tag k = others_stand (ToldToken id key interest) tag k refl refl (λ j. refl)
    each_stands (ToldAble id key complete interest) tag k = others_stand (ToldAble id key complete interest) tag k refl refl (λ j. refl)
    each_stands (ToldUnsub id) tag k = others_stand (ToldUnsub id) tag k refl refl (λ j. refl)
    each_stands (ToldUntoken id) tag k = others_stand (ToldUntoken id) tag k refl refl (λ j. refl)
    each_stands (ToldUnable id) tag k = others_stand (ToldUnable id) tag k refl refl (λ j. refl)
    each_stands (ToldEnd interest) tag k = others_stand (ToldEnd interest) tag k refl refl (λ j. refl)
    each_stands (Push tree content) tag k = others_stand (Push tree content) tag k refl refl (λ j. refl)
    each_stands (Request named id target content) tag k = request_stands before mark start q b phase acts m here n to s named id target content tag k
    each_stands (Response id content) tag k = reply_stands before mark start q b phase acts m here n to s id content tag k
    each_stands (Final id extras) tag k = final_stands before mark start q b phase acts m here n to s id extras tag k
    each_stands (State links) tag k = others_stand (State links) tag k refl refl (λ j. refl)
    each_stands (Step source number added decl) tag k = others_stand (Step source number added decl) tag k refl refl (λ j. refl)
    each_stands (Snap source number decls) tag k = others_stand (Snap source number decls) tag k refl refl (λ j. refl)

  -- what goes to a client comes from its router
  abbrev TakenFrom : List ℕ → Type 0
  TakenFrom router = (e : EndState) → end_of m.world.ends (router, to) ≡ Some e → e.unbroken ≡ true → (msg : Msg) (tag : ℕ) (xs : List Tagged) → e.queue ≡ record { msg = msg; tag = tag } ∷ xs →
      Then start.world phase q acts m here (n, c.Take router to) (on_take m router to e msg tag xs)

  from_home : (s : ClientState) → client_of m.world.clients to ≡ Some s → TakenFrom s.router
  from_home s found e at unbroken msg tag xs first go still hop plain_ =
      each_stands s msg tag (record { found = found; e = e; at = at; unbroken = unbroken; xs = xs; first = first; go = go; still = still; hop = hop; plain = plain_ })

  pub take_stands : (router : List ℕ) (s : ClientState) → client_of m.world.clients to ≡ Some s → IfSome (went m (take_step m.world router to)) (Then start.world phase q acts m here (n, c.Take router to))
  take_stands router s found = for_take m (Then start.world phase q acts m here (n, c.Take router to)) router to (λ r er there e at up unbroken msg tag xs first.
      subst TakenFrom (here.holds.go.0.clients.homes router to s found (ap is_some at)) (from_home s found) e at unbroken msg tag xs first)
