-- A query stands behind each act of a phase (`act_stands`).
use Rattle.std.proofs.Common.{◌≡◌, ℕ, ◌==◌, Bool, true, false, List, Option, Some, None, is_some, refl, sym, ◌∙◌}
use Rattle.std.specs.Prelude.{◌||◌, IfSome}
use Rattle.std.proofs.lemmas.Bool.{false≢true}
use Rattle.zr_id.specs.Zid.{is_named}
use Rattle.zr_msg.specs.declared.content.Parts.{Parts}
use Rattle.zr_script_spec.specs.declared.command.Act.{Act}
use Rattle.zr_script_spec.specs.declared.command.Act.TheVariants as c
use Rattle.zr_world_spec.specs.World.{ClientState, router_of, client_of}
use Rattle.zr_world_spec.specs.Acts.{outcome, take_step}
use Rattle.zr_world_spec.specs.Moments.{Numbered, Moment, went}
use Rattle.zr_world_spec.proofs.Cases.{for_take}
use Rattle.zr_guarantee.specs.Phase.{stays}
use Rattle.zr_guarantee.specs.Queries.{Asked, asked_in}
use Rattle.zr_law_replies.specs.Stands.{is_said_by}
use Rattle.zr_law_replies.proofs.Grown.{Earlier}
use Rattle.zr_law_replies.proofs.StandStep.{Begins, Here, Then}
use Rattle.zr_law_replies.proofs.AskStands.{get_stands}
use Rattle.zr_law_replies.proofs.SayStands.{reply_stands, end_stands}
use Rattle.zr_law_replies.proofs.QuietStands.{interest_stands, uninterest_stands, publish_stands, mark_stands, show_stands, take_router_stands}
use Rattle.zr_law_replies.proofs.StandHere.{still_router}
use Rattle.zr_law_replies.proofs.HandleAny.{handled_stands}
use Rattle.zr_law_replies.proofs.SentStands.{take_stands}
use Rattle.zr_guarantee.specs.Latest.{asks_latest, RepliesFit}

-- the numbers of lines tell whose query and whose reply an act of the phase is
pub record Fits (phase : List Numbered) (q : Asked) (x : Numbered) : Type 0 where
  pub own : (p : Asked) → asked_in x.0 x.1 ≡ Some p → (x.0 == q.line) ≡ true → asked_in x.0 x.1 ≡ Some q
  pub said : (client : List ℕ) (number : ℕ) (content : Parts) → x.1 ≡ c.Reply client number content → (d : List ℕ) → is_said_by phase d (record { line = x.0; content = content }) ≡ is_named d client

module _ (before : List Numbered) (mark : ℕ) (start : Moment) (q : Asked) (b : Begins before mark start q) (phase acts : List Numbered) (m : Moment) (here : Here start.world phase q acts m)
    (room : asks_latest q ≡ true → RepliesFit acts) where
  -- a message is taken to a client, or to a router
  taken : (n : ℕ) (router to : List ℕ) → IfSome (went m (take_step m.world router to)) (Then start.world phase q acts m here (n, c.Take router to))
  taken n router to = by (client_of m.world.clients to) refl
    where
      by : (o : Option ClientState) → client_of m.world.clients to ≡ o → IfSome (went m (take_step m.world router to)) (Then start.world phase q acts m here (n, c.Take router to))
      by (Some s) e = take_stands before mark start q b phase acts m here n to router s e
      by None e = at (is_some (router_of m.world.routers to)) refl
        where
          at : (t : Bool) → is_some (router_of m.world.routers to) ≡ t → IfSome (went m (take_step m.world router to)) (Then start.world phase q acts m here (n, c.Take router to))
          at true r = take_router_stands before mark start q b phase acts m here n router to (sym (still_router start.world m.world here.stands.still to) ∙ r)
          at false r = for_take m (Then start.world phase q acts m here (n, c.Take router to)) router to
              (λ z er there. absurd (false≢true (sym (λ i. r i || is_some (e i)) ∙ there)))

  stands_at : (n : ℕ) (act : Act) → Earlier acts (n, act) → stays act ≡ true → Fits phase q (n, act) → IfSome (went m (outcome m.world n act)) (Then start.world phase q acts m here (n, act))
  unfolding outcome
  stands_at n (c.Router id) earlier st fits = absurd (false≢true st)
  stands_at n (c.Client id router) earlier st fits = absurd (false≢true st)
  stands_at n (c.Link one other weight) earlier st fits = absurd (false≢true st)
  stands_at n (c.Up router name) earlier st fits = absurd (false≢true st)
  stands_at n (c.Break router name) earlier st fits = absurd (false≢true st)
  stands_at n (c.Down router name) earlier st fits = absurd (false≢true st)
  stands_at n (c.Sub client id key) earlier st fits = absurd (false≢true st)
  stands_at n (c.Unsub client id) earlier st fits = absurd (false≢true st)
  stands_at n (c.Token client id key) earlier st fits = absurd (false≢true st)
  stands_at n (c.Untoken client id) earlier st fits = absurd (false≢true st)
  stands_at n (c.Able client id key complete) earlier st fits = absurd (false≢true st)
  stands_at n (c.Unable client id) earlier st fits = absurd (false≢true st)
  stands_at n (c.Interest client id mode kinds key aggregate) earlier st fits = interest_stands before mark start q b phase acts m here n client id mode kinds key aggregate
  stands_at n (c.Uninterest client id) earlier st fits = uninterest_stands before mark start q b phase acts m here n client id
  stands_at n (c.Publish client content) earlier st fits = publish_stands before mark start q b phase acts m here n client content
  stands_at n (c.Get client number target content) earlier st fits = get_stands before mark start q b phase acts m here n client number target content earlier
      (fits.own (record { line = n; client = client; number = number; target = target; content = content }) refl)
  stands_at n (c.Reply client number content) earlier st fits = reply_stands before mark start q b phase acts m here n client number content earlier (fits.said client number content refl)
  stands_at n (c.End client number) earlier st fits = end_stands before mark start q b phase acts m here n client number earlier
  stands_at n (c.Handle router from) earlier st fits = handled_stands before mark start q b phase acts m here room n router from
  stands_at n (c.Take router to) earlier st fits = taken n router to
  stands_at n c.Mark earlier st fits = mark_stands before mark start q b phase acts m here n
  stands_at n (c.Show router) earlier st fits = show_stands before mark start q b phase acts m here n router

  pub act_stands : (x : Numbered) → Earlier acts x → stays x.1 ≡ true → Fits phase q x → IfSome (went m (outcome m.world x.0 x.1)) (Then start.world phase q acts m here x)
  act_stands x earlier st fits = stands_at x.0 x.1 earlier st fits
