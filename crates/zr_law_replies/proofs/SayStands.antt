-- A client replies to a request that it keeps, or ends it: if that is the query's, it is one that is asked, and the query makes that move; and else it
-- stands as before (`reply_stands`, `end_stands`).
use Rattle.std.proofs.Common.{◌≡◌, ℕ, ◌==◌, ◌&&◌, Bool, true, false, cond, List, [], ◌∷◌, ◌++◌, filter, Some, is_some, refl, sym, ap, ◌∙◌, append-nil}
use Rattle.std.specs.Prelude.{◌||◌, IfSome}
use Rattle.std.specs.List.{slice_get}
use Rattle.std.proofs.lemmas.Bool.{and_right}
use Rattle.std.proofs.lemmas.List.{map-append}
use Rattle.zr_id.specs.Zid.{is_named}
use Rattle.zr_msg.specs.declared.content.Parts.{Parts}
use Rattle.zr_msg.specs.declared.msg.Msg.TheVariants as msgs
use Rattle.zr_msg.specs.Extras.{no_extras}
use Rattle.zr_script_spec.specs.declared.command.Act.TheVariants as c
use Rattle.zr_world_spec.specs.World.{ClientState, EndState, WorldState, with_client, client_of, end_of}
use Rattle.zr_world_spec.specs.Acts.{has_number, ending, reply_step, end_step}
use Rattle.zr_world_spec.specs.Moments.{Numbered, Moment, went}
use Rattle.zr_world_spec.proofs.Names.{names, value_after}
use Rattle.zr_world_spec.proofs.Cases.{on_said, for_reply, for_end}
use Rattle.zr_guarantee.specs.Item.{Reply}
use Rattle.zr_guarantee.specs.Queries.{Asked, queries, replies, has_ended, times_ended}
use Rattle.zr_guarantee.specs.Sent.{requests_to}
use Rattle.zr_law_queries.specs.Link.{hop_replied, hop_ended}
use Rattle.zr_law_queries.specs.Query.{Tree, Here as At, Say, End, after}
use Rattle.zr_law_numbers.specs.Waiting.{Said, is_whole}
use Rattle.zr_law_numbers.proofs.Numbers.{AllGo}
use Rattle.zr_law_numbers.proofs.ActClients.{reply_deeds, end_deeds}
use Rattle.zr_law_replies.specs.Trees.{has_router, tree_at}
use Rattle.zr_law_replies.specs.Stands.{IsStill, request_to, is_said_by, said_in, Stands}
use Rattle.zr_law_replies.proofs.Grown.{Earlier, queries_more}
use Rattle.zr_law_replies.proofs.Links.{lines_on}
use Rattle.zr_law_replies.proofs.MarkMoves.{say_marks, end_marks}
use Rattle.zr_law_replies.proofs.StandOwn.{say_rows, end_rows}
use Rattle.zr_law_replies.proofs.StandSteps.{Hops, stands_moved}
use Rattle.zr_law_replies.proofs.StandStep.{PlainHops, Begins, Here, Then}
use Rattle.zr_law_replies.proofs.StandHere.{kids, row_at, rows_now}
use Rattle.zr_law_replies.proofs.SayHops.{same_client}
use Rattle.zr_law_replies.proofs.Replies.{new_replies, replies_more, replies_stay, ended_more, ended_stays, reply_new, end_new}
use Rattle.zr_law_replies.proofs.SaySpeaks.{Speaks, Keeps, kept, kept_whole, has_then, other_stands, is_here, leaf, below, apart, shows, asker_stays}
use Rattle.zr_law_replies.proofs.StandHolds.{opens}

module _ (before : List Numbered) (mark : ℕ) (start : Moment) (q : Asked) (b : Begins before mark start q) (phase acts : List Numbered) (m : Moment) (here : Here start.world phase q acts m)
    (n : ℕ) (name : List ℕ) (number : ℕ) where
  abbrev w : WorldState
  w = start.world

  abbrev t : Tree (List ℕ)
  t = tree_at start.world q

  abbrev st : Stands start.world phase q acts m here.hop
  st = here.stands

  -- what a moment behind the act is known to have
  abbrev Behind : Moment → Type 0
  Behind next = AllGo next × IsStill w next.world × (hop' : Hops) × PlainHops w q next.world (lines_on next.world here.holds.lines) hop'

  module _ (s : ClientState) (es : client_of m.world.clients name ≡ Some s) (e : EndState) (ee : end_of m.world.ends (s.router, name) ≡ Some e) (unbroken : e.unbroken ≡ true) (keeps : has_number s.requests number ≡ true) where
    -- ---- it replies

    module _ (content : Parts) (earlier : Earlier acts (n, c.Reply name number content)) (said_by : (d : List ℕ) → is_said_by phase d (record { line = n; content = content }) ≡ is_named d name) where
      abbrev x : Numbered
      x = (n, c.Reply name number content)

      abbrev said : Said
      said = record { line = n; content = content }

      abbrev next : Moment
      next = on_said m n name (msgs.Response number content) s e m.world.clients

      abbrev replying : Speaks acts m name number
      replying = record {
        act = x;
        line = n;
        msg = msgs.Response number content;
        s = s;
        es = es;
        e = e;
        ee = ee;
        unbroken = unbroken;
        keeps = keeps;
        then = s;
        home = refl;
        asks_same = refl;
        does = reply_deeds name s n number content keeps;
        clients = m.world.clients;
        are = same_client m.world.clients name s es;
        f = hop_replied said;
        up_none = λ k h. refl;
        down_is = λ k h. refl;
        same_queries = queries_more acts x ∙ append-nil (queries acts);
      }

      abbrev keep : Keeps before mark start q b phase acts m here name number replying
      keep = kept before mark start q b phase acts m here name number replying

      -- it is said to the query of the request
      sent : (d : List ℕ) (k : ℕ) → requests_to next.report d k ≡ requests_to m.report d k
      sent d k = ap (λ z. requests_to z d k) (append-nil m.report)

      last : slice_get (requests_to m.report name number) (times_ended acts name number) ≡ Some keep.request.line
      last = (here.holds.stands.books name s number es).kept.last (kept_whole before mark start q b phase acts m here name number replying) keeps ∙ ap (λ z. Some z) (sym keep.line_is)

      abbrev reply_to : Reply
      reply_to = record { line = n; number = q.number; content = content }

      new_is : (d : List ℕ) → new_replies acts x earlier m.report next.report q d (sent d) ≡ cond (is_named d name && keep.request.line == q.line) (reply_to ∷ []) []
      new_is d = reply_new acts n name number m.report next.report q keep.request.line sent last content earlier d

      -- and nobody ends anything
      same_ends : (d : List ℕ) → has_ended (acts ++ x ∷ []) next.report q d ≡ has_ended acts m.report q d
      same_ends d = ended_stays acts x earlier m.report next.report q d (sent d) (ap (λ z. z || false) (and_right (is_named d name) false refl))

      module _ (behind : Behind next) where
        -- to another query
        reply_other : (keep.request.line == q.line) ≡ false → Stands w phase q (acts ++ x ∷ []) next behind.2
        reply_other other =
            other_stands before mark start q b phase acts m here name number replying behind.0 behind.1 behind.2 behind.3 other other
            (λ d. replies_stay acts x earlier m.report next.report q d (sent d) (new_is d ∙ ap (λ z. cond z (reply_to ∷ []) []) (and_right (is_named d name) (keep.request.line == q.line) other))) same_ends

        -- to the query
        module _ (own : (keep.request.line == q.line) ≡ true) where
          said_leaf : t.passes name ≡ false
          said_leaf = leaf before mark start q b phase acts m here name number replying behind.0 behind.1 behind.2 behind.3 own

          said_at : st.stage name ≡ At keep.replies false
          said_at = (is_here before mark start q b phase acts m here name number replying behind.0 behind.1 behind.2 behind.3 own).stage_is

          replies_then : (d : List ℕ) → said_in (replies (acts ++ x ∷ []) next.report q d) ≡ said_in (replies acts m.report q d) ++ filter (is_said_by phase d) (said ∷ [])
          replies_then d =
              ap said_in (replies_more acts x earlier m.report next.report q d (sent d))
              ∙ map-append (λ (r : Reply). record { line = r.line; content = r.content }) (replies acts m.report q d) (new_replies acts x earlier m.report next.report q d (sent d))
              ∙ ap (λ z. said_in (replies acts m.report q d) ++ z)
              (ap said_in (new_is d ∙ ap (λ z. cond (is_named d name && z) (reply_to ∷ []) []) own) ∙ by (is_named d name) ∙ ap (λ z. cond z (said ∷ []) []) (sym (said_by d)))
            where
              by : (z : Bool) → said_in (cond (z && true) (reply_to ∷ []) []) ≡ cond z (said ∷ []) []
              by true = refl
              by false = refl

          reply_own : Stands w phase q (acts ++ x ∷ []) next behind.2
          reply_own =
              stands_moved w phase q acts (acts ++ x ∷ []) m next here.hop behind.2 st behind.1 b.tree.is_tree (Say name said keep.replies said_leaf said_at) st.num
              (say_marks t b.tree.is_tree (request_to w q) q.line (λ y. refl) (is_whole w) (kids before mark start q b) st.num st.stage here.hop behind.2 st.marks name said keep.replies said_leaf said_at
              (below before mark start q b phase acts m here name number replying behind.0 behind.1 behind.2 behind.3 own)
              (apart before mark start q b phase acts m here name number replying behind.0 behind.1 behind.2 behind.3 own)
              (shows before mark start q b phase acts m here name number replying behind.0 behind.1 behind.2 behind.3 own (keep.replies ++ said ∷ []) false refl))
              (has_then before mark start q b phase acts m here name number replying behind.0 behind.1 behind.2 behind.3 (after t st.stage (Say name said keep.replies said_leaf said_at))
              (asker_stays before mark start q b phase acts m here name number replying behind.0 behind.1 behind.2 behind.3 own (At (keep.replies ++ said ∷ []) false))
              (say_rows t b.tree.is_tree st.num st.stage st.sound (has_router m.world) (row_at m.world) name said keep.replies said_leaf said_at (rows_now before mark start q b phase acts m here))
              (opens t b.tree.is_tree st.stage st.sound (Say name said keep.replies said_leaf said_at) tt))
              (λ d ys ends. said_by d ∙ names.symm d name) (λ d ends. replies_then d) (λ d ends. same_ends d)

        replied : Stands w phase q (acts ++ x ∷ []) next behind.2
        replied = by (keep.request.line == q.line) refl
          where
            by : (z : Bool) → (keep.request.line == q.line) ≡ z → Stands w phase q (acts ++ x ∷ []) next behind.2
            by true own = reply_own own
            by false other = reply_other other

    -- ---- it ends the request

    module _ (earlier : Earlier acts (n, c.End name number)) where
      abbrev z : Numbered
      z = (n, c.End name number)

      abbrev done : Moment
      done = on_said m n name (msgs.Final number no_extras) s e (with_client m.world.clients name (ending s number))

      abbrev finishing : Speaks acts m name number
      finishing = record {
        act = z;
        line = n;
        msg = msgs.Final number no_extras;
        s = s;
        es = es;
        e = e;
        ee = ee;
        unbroken = unbroken;
        keeps = keeps;
        then = ending s number;
        home = refl;
        asks_same = refl;
        does = end_deeds name s n number keeps;
        clients = with_client m.world.clients name (ending s number);
        are = λ d. value_after m.world.clients name d (ending s number) (ap is_some es);
        f = hop_ended;
        up_none = λ k h. refl;
        down_is = λ k h. refl;
        same_queries = queries_more acts z ∙ append-nil (queries acts);
      }

      abbrev open_ : Keeps before mark start q b phase acts m here name number finishing
      open_ = kept before mark start q b phase acts m here name number finishing

      sent_none : (d : List ℕ) (k : ℕ) → requests_to done.report d k ≡ requests_to m.report d k
      sent_none d k = ap (λ j. requests_to j d k) (append-nil m.report)

      -- it has ended the query of the request
      last_kept : slice_get (requests_to m.report name number) (times_ended acts name number) ≡ Some open_.request.line
      last_kept = (here.holds.stands.books name s number es).kept.last (kept_whole before mark start q b phase acts m here name number finishing) keeps ∙ ap (λ j. Some j) (sym open_.line_is)

      end_is : (d : List ℕ) → has_ended (acts ++ z ∷ []) done.report q d ≡ (has_ended acts m.report q d || (is_named d name && open_.request.line == q.line))
      end_is d = ended_more acts z earlier m.report done.report q d (sent_none d) ∙ ap (λ j. has_ended acts m.report q d || j) (end_new acts n name number m.report done.report q open_.request.line sent_none last_kept earlier d)

      same_replies : (d : List ℕ) → replies (acts ++ z ∷ []) done.report q d ≡ replies acts m.report q d
      same_replies d = replies_stay acts z earlier m.report done.report q d (sent_none d) refl

      module _ (behind : Behind done) where
        module _ (own : (open_.request.line == q.line) ≡ true) where
          ended_leaf : t.passes name ≡ false
          ended_leaf = leaf before mark start q b phase acts m here name number finishing behind.0 behind.1 behind.2 behind.3 own

          ended_at : st.stage name ≡ At open_.replies false
          ended_at = (is_here before mark start q b phase acts m here name number finishing behind.0 behind.1 behind.2 behind.3 own).stage_is

          end_own : Stands w phase q (acts ++ z ∷ []) done behind.2
          end_own =
              stands_moved w phase q acts (acts ++ z ∷ []) m done here.hop behind.2 st behind.1 b.tree.is_tree (End name open_.replies ended_leaf ended_at) st.num
              (end_marks t b.tree.is_tree (request_to w q) q.line (λ y. refl) (is_whole w) (kids before mark start q b) st.num st.stage here.hop behind.2 st.marks name open_.replies ended_leaf ended_at
              (below before mark start q b phase acts m here name number finishing behind.0 behind.1 behind.2 behind.3 own)
              (apart before mark start q b phase acts m here name number finishing behind.0 behind.1 behind.2 behind.3 own)
              (shows before mark start q b phase acts m here name number finishing behind.0 behind.1 behind.2 behind.3 own open_.replies true refl))
              (has_then before mark start q b phase acts m here name number finishing behind.0 behind.1 behind.2 behind.3 (after t st.stage (End name open_.replies ended_leaf ended_at))
              (asker_stays before mark start q b phase acts m here name number finishing behind.0 behind.1 behind.2 behind.3 own (At open_.replies true))
              (end_rows t b.tree.is_tree st.num st.stage st.sound (has_router m.world) (row_at m.world) name open_.replies ended_leaf ended_at (rows_now before mark start q b phase acts m here))
              (opens t b.tree.is_tree st.stage st.sound (End name open_.replies ended_leaf ended_at) tt))
              (λ d ys ends. tt) (λ d ends. ap said_in (same_replies d)) (λ d ends. ends_then d)
            where
              by : (h c : Bool) → (h || (c && true)) ≡ cond c true h
              by true true = refl
              by true false = refl
              by false true = refl
              by false false = refl

              ends_then : (d : List ℕ) → has_ended (acts ++ z ∷ []) done.report q d ≡ cond (is_named name d) true (has_ended acts m.report q d)
              ends_then d = end_is d ∙ (λ i. has_ended acts m.report q d || (names.symm d name i && own i)) ∙ by (has_ended acts m.report q d) (is_named name d)

        -- or of another one
        no_end : (d : List ℕ) → (open_.request.line == q.line) ≡ false → has_ended (acts ++ z ∷ []) done.report q d ≡ has_ended acts m.report q d
        no_end d other = end_is d ∙ ap (λ j. has_ended acts m.report q d || j) (and_right (is_named d name) (open_.request.line == q.line) other) ∙ by (has_ended acts m.report q d)
          where
            by : (h : Bool) → (h || false) ≡ h
            by true = refl
            by false = refl

        ended : Stands w phase q (acts ++ z ∷ []) done behind.2
        ended = by (open_.request.line == q.line) refl
          where
            by : (c : Bool) → (open_.request.line == q.line) ≡ c → Stands w phase q (acts ++ z ∷ []) done behind.2
            by true own = end_own own
            by false other = other_stands before mark start q b phase acts m here name number finishing behind.0 behind.1 behind.2 behind.3 other other same_replies (λ d. no_end d other)

  -- ---- the query stands behind a reply, and behind an end

  pub reply_stands : (content : Parts) → Earlier acts (n, c.Reply name number content) → ((d : List ℕ) → is_said_by phase d (record { line = n; content = content }) ≡ is_named d name) →
      IfSome (went m (reply_step m.world n name number content)) (Then start.world phase q acts m here (n, c.Reply name number content))
  reply_stands content earlier said_by = for_reply m (Then start.world phase q acts m here (n, c.Reply name number content)) n name number content
      (λ s es e ee unbroken keeps go still hop' p'. replied s es e ee unbroken keeps content earlier said_by (go, still, hop', p'))

  pub end_stands : Earlier acts (n, c.End name number) → IfSome (went m (end_step m.world n name number)) (Then start.world phase q acts m here (n, c.End name number))
  end_stands earlier = for_end m (Then start.world phase q acts m here (n, c.End name number)) n name number (λ s es e ee unbroken keeps go still hop' p'. ended s es e ee unbroken keeps earlier (go, still, hop', p'))
