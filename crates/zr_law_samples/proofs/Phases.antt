-- The flow is kept over a whole phase: by each act that may stand in it, and so by any number of them. A refused step
-- leads to no moment, and owes nothing; a message that unsettles cannot be there to be handled.
use Rattle.std.proofs.Common.{◌≡◌, ℕ, true, false, List, [], ◌∷◌, ◌++◌, Option, Some, None, Ok, refl, sym, ap, ◌∙◌}
use Rattle.std.specs.Prelude.{unwrap_or, IfSome}
use Rattle.std.specs.List.{AllByRecursion, list_all, fold}
use Rattle.std.proofs.lemmas.Bool.{false≢true, and_parts, not-true}
use Rattle.zr_id.specs.declared.link.LinkNo.{LinkNo}
use Rattle.zr_msg.specs.Extras.{no_extras}
use Rattle.zr_msg.specs.declared.msg.Msg.{Msg}
use Rattle.zr_msg.specs.declared.msg.Msg.TheVariants as m
use Rattle.zr_script_spec.specs.declared.command.Act.{Act}
use Rattle.zr_script_spec.specs.declared.command.Act.TheVariants as c
use Rattle.zr_script_spec.specs.Mode.{is_current, is_future}
use Rattle.zr_world_spec.specs.World.{Tagged, EndState, RouterState, router_of, end_of, is_calm, unsettles, wire_at}
use Rattle.zr_world_spec.specs.Acts.{number_to, outcome}
use Rattle.zr_world_spec.specs.Moments.{Numbered, Moment, went, onward}
use Rattle.zr_guarantee.specs.Item.{Sample, Query}
use Rattle.zr_guarantee.specs.Phase.{stays, is_phase}
use Rattle.zr_world_spec.proofs.Cases.{on_handle, interest_says, uninterest_says, publish_says, get_says, reply_says, end_says, for_handle, for_take, for_mark, for_show}
use Rattle.zr_law_declared.proofs.Folds.{after_all}
use Rattle.zr_law_samples.proofs.Pair.{Pair, Flows, IsRouted, Agrees, AllAgree}
use Rattle.zr_law_samples.proofs.Messages.{by_calm}
use Rattle.zr_law_samples.proofs.Steps.{says_keeps, weighs_keeps, publication_said, answer_said, take_keeps, mark_keeps, show_keeps}
use Rattle.zr_law_samples.proofs.Pushes.{calm_sent, calm_asked}
use Rattle.zr_law_samples.proofs.Handles.{quiet_keeps, carried_keeps}

module _ (p : Pair) (routed : IsRouted p) where
  act_flows : (done : List Numbered) (now : Moment) → Flows p done now → (n : ℕ) (act : Act) → stays act ≡ true → Agrees p n act →
      IfSome (went now (outcome now.world n act)) (Flows p (done ++ (n, act) ∷ []))
  unfolding outcome
  act_flows done now h n (c.Router id) st ag = absurd (false≢true st)
  act_flows done now h n (c.Client id router) st ag = absurd (false≢true st)
  act_flows done now h n (c.Link one other weight) st ag = absurd (false≢true st)
  act_flows done now h n (c.Up router name) st ag = absurd (false≢true st)
  act_flows done now h n (c.Break router name) st ag = absurd (false≢true st)
  act_flows done now h n (c.Down router name) st ag = absurd (false≢true st)
  act_flows done now h n (c.Sub client id key) st ag = absurd (false≢true st)
  act_flows done now h n (c.Unsub client id) st ag = absurd (false≢true st)
  act_flows done now h n (c.Token client id key) st ag = absurd (false≢true st)
  act_flows done now h n (c.Untoken client id) st ag = absurd (false≢true st)
  act_flows done now h n (c.Able client id key complete) st ag = absurd (false≢true st)
  act_flows done now h n (c.Unable client id) st ag = absurd (false≢true st)
  act_flows done now h n (c.Interest client id mode kinds key aggregate) st ag =
      let act : Act = c.Interest client id mode kinds key aggregate in
      let msg : Msg = m.Interest id (is_current mode) (is_future mode) kinds key aggregate in
      interest_says now (Flows p (done ++ (n, act) ∷ [])) n client id mode kinds key aggregate
      (says_keeps p routed done now h n act client msg (answer_said p routed done now h n act client msg refl refl refl))
      (weighs_keeps p routed done now h n act client (unwrap_or key []) msg (answer_said p routed done now h n act client msg refl refl refl))
  act_flows done now h n (c.Uninterest client id) st ag = uninterest_says now (Flows p (done ++ (n, c.Uninterest client id) ∷ [])) n client id
      (says_keeps p routed done now h n (c.Uninterest client id) client (m.EndInterest id)
      (answer_said p routed done now h n (c.Uninterest client id) client (m.EndInterest id) refl refl refl))
  act_flows done now h n (c.Publish client content) st ag = publish_says now (Flows p (done ++ (n, c.Publish client content) ∷ [])) n client content
      (says_keeps p routed done now h n (c.Publish client content) client (m.Push None content)
      (publication_said p routed done now h n (c.Publish client content) client (m.Push None content) (Sample content) refl refl refl ag))
  act_flows done now h n (c.Get client number target content) st ag = get_says now (Flows p (done ++ (n, c.Get client number target content) ∷ [])) n client number target content
      (says_keeps p routed done now h n (c.Get client number target content) client (m.Request None number target content)
      (publication_said p routed done now h n (c.Get client number target content) client (m.Request None number target content) (Query target content) refl refl refl ag))
  act_flows done now h n (c.Reply client number content) st ag = reply_says now (Flows p (done ++ (n, c.Reply client number content) ∷ [])) n client number content
      (says_keeps p routed done now h n (c.Reply client number content) client (m.Response number content)
      (answer_said p routed done now h n (c.Reply client number content) client (m.Response number content) refl refl refl))
  act_flows done now h n (c.End client number) st ag = end_says now (Flows p (done ++ (n, c.End client number) ∷ [])) n client number
      (says_keeps p routed done now h n (c.End client number) client (m.Final number no_extras)
      (answer_said p routed done now h n (c.End client number) client (m.Final number no_extras) refl refl refl))
  act_flows done now h n (c.Handle router name) st ag = for_handle now (Flows p (done ++ (n, c.Handle router name) ∷ [])) router name
      (λ r er there s es up msg tag xs front l el taken. by_message r er s es msg tag xs front l el)
    where
      by_message : (r : RouterState) → router_of now.world.routers router ≡ Some r → (s : EndState) → end_of now.world.ends (router, name) ≡ Some s →
          (msg : Msg) (tag : ℕ) (xs : List Tagged) → s.wire ≡ record { msg = msg; tag = tag } ∷ xs → (l : LinkNo) → number_to r name ≡ Ok l →
          Flows p (done ++ (n, c.Handle router name) ∷ []) (on_handle now router name r s l msg tag xs)
      by_message r er s es msg tag xs front l el =
          by_calm (λ z. s.wire ≡ record { msg = z; tag = tag } ∷ xs → Flows p (done ++ (n, c.Handle router name) ∷ []) (on_handle now router name r s l z tag xs))
          (λ tree content f. carried_keeps p routed done now h n router name r er s es l el (m.Push tree content) (Sample content) refl refl (calm_sent r.node l tree content) tag xs f)
          (λ tree number target content f. carried_keeps p routed done now h n router name r er s es l el (m.Request tree number target content) (Query target content) refl refl
          (calm_asked r.node l tree number target content) tag xs f)
          (λ z quiet f. quiet_keeps p routed done now h n router name r er s es l z tag xs f quiet)
          msg calm front
        where
          -- no message that unsettles is on a wire in a phase
          calm : unsettles msg ≡ false
          calm = not-true (unsettles msg) (and_parts (is_calm (record { msg = msg; tag = tag })) (list_all is_calm xs)
              (sym (ap (λ o. list_all is_calm (wire_at o)) es ∙ ap (list_all is_calm) front) ∙ h.calm (router, name))).0
  act_flows done now h n (c.Take router to) st ag = for_take now (Flows p (done ++ (n, c.Take router to) ∷ [])) router to
      (λ r er there s es up unbroken msg tag xs front. take_keeps p routed done now h n router to s es msg tag xs front)
  act_flows done now h n c.Mark st ag = for_mark now (Flows p (done ++ (n, c.Mark) ∷ [])) n (λ settled joined. mark_keeps p routed done now h n)
  act_flows done now h n (c.Show router) st ag = for_show now (Flows p (done ++ (n, c.Show router) ∷ [])) router (λ r er. show_keeps p routed done now h n router r)

  -- over a phase
  pub phase_keeps : (phase : List Numbered) (o : Option Moment) → IfSome o (Flows p []) → is_phase phase ≡ true → AllAgree p phase → IfSome (fold onward o phase) (Flows p phase)
  phase_keeps phase o h st ag =
      after_all (Flows p) (λ x. (stays x.1 ≡ true) × Agrees p x.0 x.1) (λ done now flows x k. act_flows done now flows x.0 x.1 k.0 k.1) phase [] o h (both phase st ag)
    where
      both : (xs : List Numbered) → is_phase xs ≡ true → AllAgree p xs → AllByRecursion (λ x. (stays x.1 ≡ true) × Agrees p x.0 x.1) xs
      both [] k a = tt
      both (x ∷ xs) k a = let parts = and_parts (stays x.1) (is_phase xs) k in ((parts.0, a.0), both xs parts.1 a.1)
