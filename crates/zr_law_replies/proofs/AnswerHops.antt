-- What it makes of hops that a router handles an answer (`answer_goes`): the hop that the answer came on changes, and that of who asked where the router
-- tells that one something; all other hops stay.
use Rattle.std.proofs.Common.{◌≡◌, ℕ, ◌==◌, Bool, true, false, cond, List, [], ◌++◌, Option, Some, None, refl, sym, ap, ◌∙◌, subst, append-nil}
use Rattle.std.specs.Prelude.{◌&&◌}
use Rattle.std.specs.List.{flat_map, list_all}
use Rattle.std.proofs.lemmas.Bool.{eq-eqb}
use Rattle.zr_id.specs.Zid.{is_named}
use Rattle.zr_id.specs.declared.link.LinkNo.{LinkNo}
use Rattle.zr_msg.specs.declared.event.Event.TheVariants.{From}
use Rattle.zr_msg.specs.declared.msg.Msg.{Msg}
use Rattle.zr_lists.proofs.Each.{All-any}
use Rattle.zr_world_spec.specs.World.{RouterState, WorldState}
use Rattle.zr_world_spec.specs.Moments.{Moment}
use Rattle.zr_world_spec.specs.Acts.{sends_to, having_told}
use Rattle.zr_world_spec.specs.Sound.{IsSound}
use Rattle.zr_world_spec.proofs.Names.{names, same_name}
use Rattle.zr_law_settled.proofs.Orderly.{Orderly}
use Rattle.zr_guarantee.specs.Queries.{Asked}
use Rattle.zr_law_numbers.specs.Waiting.{Place, asks_in, answers_in, asks, answers, row_kept, branch_back, link_of, is_whole}
use Rattle.zr_law_numbers.specs.Deeds.{Half, Deed, with_deeds, MayDoAll, answered_by_deed, handles_msg, is_own}
use Rattle.zr_law_numbers.proofs.Leading.{link_is}
use Rattle.zr_law_numbers.proofs.Doing.{Above, Below, may_handle}
use Rattle.zr_law_numbers.proofs.Whole.{whole_apart}
use Rattle.zr_law_replies.specs.Answers.{HopState}
use Rattle.zr_law_replies.specs.Stands.{IsStill}
use Rattle.zr_law_replies.proofs.Links.{Lines, lines_on}
use Rattle.zr_law_replies.proofs.ShownHops.{plain}
use Rattle.zr_law_replies.proofs.MarkChanges.{is_hop}
use Rattle.zr_law_replies.proofs.StandSteps.{Hops}
use Rattle.zr_law_replies.proofs.StandStep.{request_of, PlainHops}
use Rattle.zr_law_replies.proofs.ActHops.{Any, above_hops, below_hops, upper_hop, lower_hop, still_hop}
use Rattle.zr_law_replies.proofs.HandleLinks.{from_apart, asks_to, answers_to, answers_from, answers_stay, keeps_now, keeps_was, back_now, back_was, keeps_there, back_there, asks_behind, others_link}
use Rattle.zr_law_replies.proofs.StandHere.{still_whole}
use Rattle.zr_law_replies.proofs.HandleHeard.{Heard, after_heard}
use Rattle.zr_law_replies.proofs.AnswerAskers.{deeds_to}

-- the hops once router a has handled an answer from a neighbour under a number
pub record AnswerGoes (w : WorldState) (q : Asked) (hop hop' : Hops) (a from : List ℕ) (id : ℕ) (to : Option Place) (heard told : HopState → HopState) : Type 0 where
  pub here : is_whole w a from ≡ true → hop' a from id ≡ plain (request_of w q from) (heard (hop a from id))
  pub there : (p : Place) → to ≡ Some p → is_whole w p.name a ≡ true → hop' p.name a p.number ≡ plain (request_of w q a) (told (hop p.name a p.number))
  pub elsewhere : (x y : List ℕ) (n : ℕ) → is_whole w x y ≡ true → is_hop a from id x y n ≡ false → ((p : Place) → to ≡ Some p → is_hop p.name a p.number x y n ≡ false) → hop' x y n ≡ hop x y n

-- what the router does over its link to a neighbour y for who asked: it sends just that, and keeps what that leaves
pub record IsTold (r : RouterState) (link : LinkNo) (msg : Msg) (tag : ℕ) (y : List ℕ) (own : List Deed) : Type 0 where
  pub half : Half
  pub owns : list_all is_own own ≡ true
  pub may : MayDoAll half own
  pub answers : flat_map (λ m. answers_in tag m) (sends_to r.node (From link msg) y) ≡ flat_map answered_by_deed own
  pub before : (n : ℕ) → row_kept r y n ≡ half.keeps n
  pub leaves : (n : ℕ) → row_kept (having_told r (From link msg)) y n ≡ (with_deeds half own).keeps n

-- what a router keeps of the link to a neighbour
abbrev pub half_to : RouterState → List ℕ → Half
half_to r y = record { keeps = λ n. row_kept r y n; back = λ n. branch_back r y n }

-- a message from a neighbour is an answer under a number, which changes the hop of that number, and router a tells one place something of it
pub record IsAnswering (r : RouterState) (link : LinkNo) (msg : Msg) (tag : ℕ) (a from : List ℕ) (id : ℕ) (to : Option Place) (heard told : HopState → HopState) (f : ℕ → List Deed) : Type 0 where
  pub quiet : asks_in tag msg ≡ []
  pub silent : (y : List ℕ) → flat_map (λ m. asks_in tag m) (sends_to r.node (From link msg) y) ≡ []
  pub heard_is : (n : ℕ) (h : HopState) → above_hops n (handles_msg msg ++ []) h ≡ cond (id == n) (heard h) h
  pub told_is : (n i : ℕ) (h : HopState) → below_hops n (f i) h ≡ cond (i == n) (told h) h
  pub back_here : (n : ℕ) → branch_back (having_told r (From link msg)) from n ≡ (with_deeds (half_to r from) (handles_msg msg ++ [])).back n
  pub back_apart : (y : List ℕ) (n : ℕ) → is_named from y ≡ false → branch_back (having_told r (From link msg)) y n ≡ branch_back r y n
  pub tells : (y : List ℕ) → is_named a y ≡ false → IsTold r link msg tag y (deeds_to f y to)

-- any deeds
module _ (w : WorldState) (q : Asked) (m : Moment) (sound : IsSound m.world) (orderly : Orderly m.world) (still : IsStill w m.world) (a from : List ℕ) (msg : Msg) (tag : ℕ) (h : Heard m.world a from msg tag)
    (lines : Lines) (hop : Hops) (p : PlainHops w q m.world lines hop) where
  abbrev now : WorldState
  now = m.world

  abbrev next : WorldState
  next = (after_heard m a from msg tag h).world

  module _ (id : ℕ) (to : Option Place) (heard told : HopState → HopState) (f : ℕ → List Deed) (is : IsAnswering h.router h.link.link msg tag a from id to heard told f) where
    apart : is_named a from ≡ false
    apart = from_apart now sound orderly a h.router h.found from h.state h.at msg tag h.behind h.first h.link h.linked

    -- the router is the upper end of the link that the answer came on
    abbrev upper : Above Any (link_of now a from) (link_of next a from)
    upper = record {
      came = Some (record { msg = msg; tag = tag });
      half = half_to h.router from;
      own = [];
      owns = refl;
      fits = tt;
      may = may_handle (half_to h.router from) msg;
      asks = asks_to now sound orderly a h.router h.found from h.state h.at msg tag h.behind h.first h.link h.linked from apart ∙ ap (λ z. asks now a from ++ z) (is.silent from);
      answers = answers_from now sound orderly a h.router h.found from h.state h.at msg tag h.behind h.first h.link h.linked from apart (names.refl from);
      keeps = keeps_there now sound orderly a h.router h.found from h.state h.at msg tag h.behind h.first h.link h.linked from apart;
      before = back_was now sound orderly a h.router h.found from h.state h.at msg tag h.behind h.first h.link h.linked from apart;
      leaves = λ n. back_now now sound orderly a h.router h.found from h.state h.at msg tag h.behind h.first h.link h.linked from apart n ∙ is.back_here n;
    }

    -- and the lower end of those on which it was asked
    abbrev lower : (y : List ℕ) → is_named a y ≡ false → Below Any (link_of now y a) (link_of next y a)
    lower y other = record {
      came = None;
      half = (is.tells y other).half;
      own = deeds_to f y to;
      owns = (is.tells y other).owns;
      fits = All-any (deeds_to f y to);
      may = (is.tells y other).may;
      asks = asks_behind now sound orderly a h.router h.found from h.state h.at msg tag h.behind h.first h.link h.linked y other is.quiet;
      answers = answers_to now sound orderly a h.router h.found from h.state h.at msg tag h.behind h.first h.link h.linked y other ∙ ap (λ z. answers now y a ++ z) (is.tells y other).answers;
      back = back_there now sound orderly a h.router h.found from h.state h.at msg tag h.behind h.first h.link h.linked y other;
      before = λ n. keeps_was now sound orderly a h.router h.found from h.state h.at msg tag h.behind h.first h.link h.linked y other n ∙ (is.tells y other).before n;
      leaves = λ n. keeps_now now sound orderly a h.router h.found from h.state h.at msg tag h.behind h.first h.link h.linked y other n ∙ (is.tells y other).leaves n;
    }

    -- its other links to neighbours are as they were
    same : (y : List ℕ) → is_named a y ≡ false → is_named from y ≡ false → link_of now a y ≡ link_of next a y
    same y other e = link_is (link_of now a y) (link_of next a y)
        (sym (asks_to now sound orderly a h.router h.found from h.state h.at msg tag h.behind h.first h.link h.linked y other ∙ ap (λ z. asks now a y ++ z) (is.silent y) ∙ append-nil (asks now a y)))
        (sym (answers_stay now sound orderly a h.router h.found from h.state h.at msg tag h.behind h.first h.link h.linked y other e))
        (λ n. sym (keeps_there now sound orderly a h.router h.found from h.state h.at msg tag h.behind h.first h.link h.linked y other n))
        (λ n. back_was now sound orderly a h.router h.found from h.state h.at msg tag h.behind h.first h.link h.linked y other n
        ∙ sym (back_now now sound orderly a h.router h.found from h.state h.at msg tag h.behind h.first h.link h.linked y other n ∙ is.back_apart y n e))

    -- ---- deeds for a place

    told_there : (pl : Place) (h : HopState) → to ≡ Some pl → below_hops pl.number (deeds_to f pl.name to) h ≡ told h
    told_there pl h e =
        ap (λ o. below_hops pl.number (deeds_to f pl.name o) h) e ∙ ap (λ b. below_hops pl.number (cond b (f pl.number) []) h) (names.refl pl.name)
        ∙ is.told_is pl.number pl.number h ∙ ap (λ b. cond b (told h) h) (eq-eqb pl.number pl.number refl)

    untold : (o : Option Place) (x : List ℕ) (n : ℕ) (h : HopState) → ((pl : Place) → o ≡ Some pl → is_hop pl.name a pl.number x a n ≡ false) → below_hops n (deeds_to f x o) h ≡ h
    untold None x n h other = refl
    untold (Some pl) x n h other = by (is_named pl.name x) refl
      where
        number : is_named pl.name x ≡ true → (pl.number == n) ≡ false
        number e = sym (ap (λ b. b && (is_named a a && pl.number == n)) e ∙ ap (λ b. b && pl.number == n) (names.refl a)) ∙ other pl refl

        by : (b : Bool) → is_named pl.name x ≡ b → below_hops n (cond b (f pl.number) []) h ≡ h
        by false e = refl
        by true e = is.told_is n pl.number h ∙ ap (λ b. cond b (told h) h) (number e)

    -- ---- hops

    module _ (hop' : Hops) (still' : IsStill w next) (p' : PlainHops w q next (lines_on next lines) hop') where
      whole_now : (x y : List ℕ) → is_whole w x y ≡ true → is_whole now x y ≡ true
      whole_now x y e = still_whole w now still x y ∙ e

      whole_next : (x y : List ℕ) → is_whole w x y ≡ true → is_whole next x y ≡ true
      whole_next x y e = still_whole w next still' x y ∙ e

      on_own : (n : ℕ) → is_whole w a from ≡ true → hop' a from n ≡ plain (request_of w q from) (cond (id == n) (heard (hop a from n)) (hop a from n))
      on_own n whole = upper_hop w q now lines hop p next hop' p' a from (whole_now a from whole) (whole_next a from whole) Any Any n upper
          ∙ ap (plain (request_of w q from)) (is.heard_is n (hop a from n))

      on_asked : (y : List ℕ) (n : ℕ) → is_named a y ≡ false → is_whole w y a ≡ true → hop' y a n ≡ plain (request_of w q a) (below_hops n (deeds_to f y to) (hop y a n))
      on_asked y n other whole = lower_hop w q now lines hop p next hop' p' y a (whole_now y a whole) (whole_next y a whole) Any Any n (lower y other)

      stays : (x y : List ℕ) (n : ℕ) → is_whole w x y ≡ true → link_of now x y ≡ link_of next x y → hop' x y n ≡ hop x y n
      stays x y n whole e = still_hop w q now lines hop p next hop' p' x y (whole_now x y whole) (whole_next x y whole) Any Any n e

      above_stays : (y : List ℕ) (n : ℕ) → is_named a y ≡ false → is_whole w a y ≡ true → is_hop a from id a y n ≡ false → hop' a y n ≡ hop a y n
      above_stays y n other whole e = by (is_named from y) refl
        where
          number : is_named from y ≡ true → (id == n) ≡ false
          number f = sym (ap (λ b. b && (is_named from y && id == n)) (names.refl a) ∙ ap (λ b. b && id == n) f) ∙ e

          by : (b : Bool) → is_named from y ≡ b → hop' a y n ≡ hop a y n
          by false f = stays a y n whole (same y other f)
          by true f =
              let one : from ≡ y = same_name from y f in
              subst (λ z. hop' a z n ≡ hop a z n) one
              (on_own n (ap (is_whole w a) one ∙ whole) ∙ ap (λ b. plain (request_of w q from) (cond b (heard (hop a from n)) (hop a from n))) (number f) ∙ p.taken a from n)

      elsewhere : (x y : List ℕ) (n : ℕ) → is_whole w x y ≡ true → is_hop a from id x y n ≡ false → ((pl : Place) → to ≡ Some pl → is_hop pl.name a pl.number x y n ≡ false) → hop' x y n ≡ hop x y n
      elsewhere x y n whole e other = by (is_named a x) refl (is_named a y) refl
        where
          differ : is_named x y ≡ false
          differ = whole_apart now sound x y (whole_now x y whole)

          by : (b : Bool) → is_named a x ≡ b → (c : Bool) → is_named a y ≡ c → hop' x y n ≡ hop x y n
          by false ax false ay = stays x y n whole (others_link now sound orderly a h.router h.found from h.state h.at msg tag h.behind h.first h.link h.linked x y ax ay)
          by false ax true ay =
              let one : a ≡ y = same_name a y ay in
              subst (λ z. hop' x z n ≡ hop x z n) one
              (on_asked x n ax (ap (is_whole w x) one ∙ whole)
              ∙ ap (plain (request_of w q a)) (untold to x n (hop x a n) (λ pl f. ap (λ z. is_hop pl.name a pl.number x z n) one ∙ other pl f)) ∙ p.taken x a n)
          by true ax c ay =
              let one : a ≡ x = same_name a x ax in
              subst (λ z. hop' z y n ≡ hop z y n) one
              (above_stays y n (ap (λ z. is_named z y) one ∙ differ) (ap (λ z. is_whole w z y) one ∙ whole) (ap (λ z. is_hop a from id z y n) one ∙ e))

      pub answer_goes : AnswerGoes w q hop hop' a from id to heard told
      answer_goes = record {
        here = λ whole. on_own id whole ∙ ap (λ b. plain (request_of w q from) (cond b (heard (hop a from id)) (hop a from id))) (eq-eqb id id refl);
        there = λ pl e whole. on_asked pl.name pl.number (names.symm a pl.name ∙ whole_apart now sound pl.name a (whole_now pl.name a whole)) whole
            ∙ ap (plain (request_of w q a)) (told_there pl (hop pl.name a pl.number) e);
        elsewhere = elsewhere;
      }
