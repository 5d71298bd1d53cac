-- What becomes of hops where a router handles a request: that of the request that came is open, and done where the request goes nowhere; on each link over
-- which it goes the hop of the number that was free there is a request on its way; and all other hops stay (`opened_hop`, `passed_hop`, `stays_hop`).
use Rattle.std.proofs.Common.{◌≡◌, ℕ, ◌==◌, Bool, true, false, cond, List, [], ◌∷◌, Option, Some, None, refl, sym, ap, ◌∙◌, append-nil}
use Rattle.std.specs.Prelude.{◌&&◌}
use Rattle.std.specs.Option.{option_map_or}
use Rattle.std.proofs.lemmas.Bool.{false≢true, eqb-true, eq-eqb}
use Rattle.zr_id.specs.Zid.{is_named}
use Rattle.zr_id.specs.declared.link.LinkNo.{LinkNo}
use Rattle.zr_graph.proofs.Names.{same_is}
use Rattle.zr_msg.specs.declared.content.Parts.{Parts}
use Rattle.zr_msg.specs.declared.msg.Msg.TheVariants.{Request}
use Rattle.zr_msg.specs.declared.msg.Target.{Target}
use Rattle.zr_msg.specs.declared.peer.LinkPeer.{LinkPeer}
use Rattle.zr_pend_spec.specs.Pending.{free_number}
use Rattle.zr_node_spec.specs.Tables.{link_to}
use Rattle.zr_world_spec.specs.World.{Tagged, WorldState}
use Rattle.zr_world_spec.specs.Sound.{IsSound}
use Rattle.zr_world_spec.proofs.Cases.{w_handle}
use Rattle.zr_law_settled.proofs.Orderly.{Orderly}
use Rattle.zr_guarantee.specs.Queries.{Asked}
use Rattle.zr_law_queries.specs.Link.{Ask, ask, Free, Asked as AskedHop, Open, hop_taken, hop_ended, asked as link_asked, taken, ended}
use Rattle.zr_law_queries.specs.Numbers.{IsNewAsk}
use Rattle.zr_law_queries.specs.Query.{is_empty}
use Rattle.zr_law_queries.proofs.Hops.{front_ask}
use Rattle.zr_law_numbers.specs.Waiting as waiting
use Rattle.zr_law_numbers.specs.Waiting.{Place, asks, back_at, is_kept_by, link_of, is_whole}
use Rattle.zr_law_numbers.specs.Deeds.{Asks, Ends}
use Rattle.zr_law_numbers.proofs.Leading.{Wire}
use Rattle.zr_law_numbers.proofs.Doing.{Above, Below}
use Rattle.zr_law_numbers.proofs.RowsBegun.{is_over}
use Rattle.zr_law_replies.specs.Answers.{HopState}
use Rattle.zr_law_replies.proofs.Links.{Lines, lines_on}
use Rattle.zr_law_replies.proofs.ShownHops.{plain}
use Rattle.zr_law_replies.proofs.MarkChanges.{is_hop, is_hop_of}
use Rattle.zr_law_replies.proofs.StandBranches.{number_for}
use Rattle.zr_law_replies.proofs.StandSteps.{Hops}
use Rattle.zr_law_replies.proofs.StandStep.{request_of, PlainHops}
use Rattle.zr_law_replies.proofs.StandSameHops.{free_there}
use Rattle.zr_law_replies.proofs.ActHops.{Any, upper_hop, lower_hop, still_hop}
use Rattle.zr_law_replies.proofs.HandleLinks.{from_apart}
use Rattle.zr_law_replies.proofs.HandleHeard.{Heard}
use Rattle.zr_law_replies.proofs.RequestGoes.{links_on, goes_to, asked_on}
use Rattle.zr_law_replies.proofs.RequestLinks.{to_over, to_same, was_free, from_asks, from_taken, from_ended, from_same, apart_same}

-- ---- events on a link

module _ (w : WorldState) (q : Asked) (v : WorldState) (lines : Lines) (hop : Hops) (p : PlainHops w q v lines hop) (v' : WorldState) (hop' : Hops) (p' : PlainHops w q v' (lines_on v' lines) hop')
    (x y : List ℕ) (whole : is_whole v x y ≡ true) (whole' : is_whole v' x y ≡ true) (n : ℕ) where
  -- the upper end asks under a free number
  asked_hop : (number : ℕ) (request : waiting.Asked) (by : Option Place) → back_at v x y number ≡ None → link_of v' x y ≡ link_asked (link_of v x y) number request by →
      hop' x y n ≡ plain (request_of w q y) (cond (number == n) (AskedHop request by) (hop x y n))
  asked_hop number request by free e =
      let u : Above Any (link_of v x y) (link_of v' x y) = record {
        came = None;
        half = record { keeps = λ k. false; back = λ k. back_at v x y k };
        own = Asks number request by ∷ [];
        owns = refl;
        fits = (tt, tt);
        may = (free, tt);
        asks = ap (λ (l : Wire). l.asks) e;
        answers = sym (ap (λ (l : Wire). l.answers) e);
        keeps = λ k. ap (λ (l : Wire). l.keeps k) e;
        before = λ k. refl;
        leaves = λ k. ap (λ (l : Wire). l.back k) e;
      } in
      upper_hop w q v lines hop p v' hop' p' x y whole whole' Any Any n u

  -- the lower end takes the oldest request
  module _ (tag id : ℕ) (tree : Option (List ℕ)) (target : Target) (content : Parts) (rest : List (Ask waiting.Asked))
      (first : (link_of v x y).asks ≡ ask id (record { line = tag; tree = tree; target = target; content = content }) ∷ rest) where
    abbrev came : Tagged
    came = record { msg = Request tree id target content; tag = tag }

    taken_hop : link_of v' x y ≡ taken (link_of v x y) id rest → hop' x y n ≡ plain (request_of w q y) (cond (id == n) (hop_taken (hop x y n)) (hop x y n))
    taken_hop e =
        let d : Below Any (link_of v x y) (link_of v' x y) = record {
          came = Some came;
          half = record { keeps = λ k. is_kept_by v x y k; back = λ k. None };
          own = [];
          owns = refl;
          fits = tt;
          may = (tt, tt);
          asks = first ∙ ap (λ z. ask id (record { line = tag; tree = tree; target = target; content = content }) ∷ z) (sym (ap (λ (l : Wire). l.asks) e));
          answers = ap (λ (l : Wire). l.answers) e ∙ sym (append-nil (link_of v x y).answers);
          back = λ k. ap (λ (l : Wire). l.back k) e;
          before = λ k. refl;
          leaves = λ k. ap (λ (l : Wire). l.keeps k) e;
        } in
        lower_hop w q v lines hop p v' hop' p' x y whole whole' Any Any n d

    -- and ends it at once
    refused_hop : link_of v' x y ≡ ended (taken (link_of v x y) id rest) id →
        hop' x y n ≡ plain (request_of w q y) (cond (id == n) (hop_ended (cond (id == n) (hop_taken (hop x y n)) (hop x y n))) (cond (id == n) (hop_taken (hop x y n)) (hop x y n)))
    refused_hop e =
        let d : Below Any (link_of v x y) (link_of v' x y) = record {
          came = Some came;
          half = record { keeps = λ k. is_kept_by v x y k; back = λ k. None };
          own = Ends id ∷ [];
          owns = refl;
          fits = (tt, tt);
          may = (tt, (ap (λ b. cond b true (is_kept_by v x y id)) (eq-eqb id id refl), tt));
          asks = first ∙ ap (λ z. ask id (record { line = tag; tree = tree; target = target; content = content }) ∷ z) (sym (ap (λ (l : Wire). l.asks) e));
          answers = ap (λ (l : Wire). l.answers) e;
          back = λ k. ap (λ (l : Wire). l.back k) e;
          before = λ k. refl;
          leaves = λ k. ap (λ (l : Wire). l.keeps k) e;
        } in
        lower_hop w q v lines hop p v' hop' p' x y whole whole' Any Any n d

-- ---- the router's links

module _ (w : WorldState) (q : Asked) (m : WorldState) (sound : IsSound m) (orderly : Orderly m) (lines : Lines) (hop : Hops) (p : PlainHops w q m lines hop) (x from : List ℕ) (tree : Option (List ℕ)) (id : ℕ)
    (target : Target) (content : Parts) (tag : ℕ) (h : Heard m x from (Request tree id target content) tag) where
  abbrev v : WorldState
  v = w_handle m x from h.router h.state h.link.link (Request tree id target content) tag h.behind

  abbrev over : List LinkNo
  over = links_on h.router h.link tree target content

  abbrev asked_of : LinkPeer → waiting.Asked
  asked_of l = asked_on h.router h.link tag tree target content l

  abbrev request : waiting.Asked
  request = record { line = tag; tree = tree; target = target; content = content }

  abbrev has_over : List ℕ → Bool
  has_over y = goes_to h.router over y

  -- the request that came is on its way, under a number that the router does not keep
  pub front_is : is_whole m from x ≡ true → IsNewAsk (link_of m from x) (hop from x) id request (asks v from x)
  front_is whole = front_ask (link_of m from x) (hop from x) (p.shows from x whole) id request (asks v from x)
      (from_asks m sound orderly x h.router h.found from h.state h.at tree id target content tag h.behind h.first h.link h.linked)

  module _ (hop' : Hops) (p' : PlainHops w q v (lines_on v lines) hop') where
    -- where it came from
    module _ (whole : is_whole m from x ≡ true) (whole' : is_whole v from x ≡ true) where
      came_hop : (n : ℕ) → hop' from x n ≡ plain (request_of w q x) (cond (id == n) (cond (is_empty over) (hop_ended (hop_taken (hop from x n))) (hop_taken (hop from x n))) (hop from x n))
      came_hop n = by (is_empty over) refl
        where
          front : (link_of m from x).asks ≡ ask id request ∷ asks v from x
          front = from_asks m sound orderly x h.router h.found from h.state h.at tree id target content tag h.behind h.first h.link h.linked

          apart : is_named x from ≡ false
          apart = from_apart m sound orderly x h.router h.found from h.state h.at (Request tree id target content) tag h.behind h.first h.link h.linked

          twice : (b : Bool) (k : HopState) → cond b (hop_ended (cond b (hop_taken k) k)) (cond b (hop_taken k) k) ≡ cond b (hop_ended (hop_taken k)) k
          twice true k = refl
          twice false k = refl

          by : (b : Bool) → is_empty over ≡ b → hop' from x n ≡ plain (request_of w q x) (cond (id == n) (cond b (hop_ended (hop_taken (hop from x n))) (hop_taken (hop from x n))) (hop from x n))
          by false e = taken_hop w q m lines hop p v hop' p' from x whole whole' n tag id tree target content (asks v from x) front
              (from_taken m sound orderly x h.router h.found from h.state h.at tree id target content tag h.behind h.first h.link h.linked apart e)
          by true e = refused_hop w q m lines hop p v hop' p' from x whole whole' n tag id tree target content (asks v from x) front
              (from_ended m sound orderly x h.router h.found from h.state h.at tree id target content tag h.behind h.first h.link h.linked apart e (front_is whole).untaken)
              ∙ ap (plain (request_of w q x)) (twice (id == n) (hop from x n))

      pub opened_hop : (by : Option Place) → hop from x id ≡ AskedHop request by → hop' from x id ≡ Open (request_of w q x tag) by [] (is_empty over)
      opened_hop by e = came_hop id ∙ ap (λ b. plain (request_of w q x) (cond b (cond (is_empty over) (hop_ended (hop_taken (hop from x id))) (hop_taken (hop from x id))) (hop from x id))) (eq-eqb id id refl)
          ∙ ap (λ k. plain (request_of w q x) (cond (is_empty over) (hop_ended (hop_taken k)) (hop_taken k))) e ∙ at (is_empty over)
        where
          at : (b : Bool) → plain (request_of w q x) (cond b (hop_ended (hop_taken (AskedHop request by))) (hop_taken (AskedHop request by))) ≡ Open (request_of w q x tag) by [] b
          at true = refl
          at false = refl

      came_other : (n : ℕ) → (id == n) ≡ false → hop' from x n ≡ hop from x n
      came_other n e = came_hop n ∙ ap (λ b. plain (request_of w q x) (cond b (cond (is_empty over) (hop_ended (hop_taken (hop from x n))) (hop_taken (hop from x n))) (hop from x n))) e ∙ p.taken from x n

    -- where it goes
    module _ (y : List ℕ) (other : is_named x y ≡ false) (whole : is_whole m x y ≡ true) (whole' : is_whole v x y ≡ true) (l : LinkPeer) (e : link_to h.router.node.links y ≡ Some l) where
      pub free_hop : hop x y (free_number l.link h.router.node.pending) ≡ Free
      free_hop = free_there w q m lines hop p x y whole (free_number l.link h.router.node.pending)
          (was_free m sound orderly x h.router h.found from h.state h.at tree id target content tag h.behind h.first h.link h.linked y other l e)

      gone_hop : is_over l.link over ≡ true → (n : ℕ) →
          hop' x y n ≡ plain (request_of w q y) (cond (free_number l.link h.router.node.pending == n) (AskedHop (asked_of l) (Some (record { name = from; number = id }))) (hop x y n))
      gone_hop goes n = asked_hop w q m lines hop p v hop' p' x y whole whole' n (free_number l.link h.router.node.pending) (asked_of l) (Some (record { name = from; number = id }))
          (was_free m sound orderly x h.router h.found from h.state h.at tree id target content tag h.behind h.first h.link h.linked y other l e)
          (to_over m sound orderly x h.router h.found from h.state h.at tree id target content tag h.behind h.first h.link h.linked y other l e goes)

      pub passed_hop : is_over l.link over ≡ true → hop' x y (free_number l.link h.router.node.pending) ≡ AskedHop (asked_of l) (Some (record { name = from; number = id }))
      passed_hop goes = gone_hop goes (free_number l.link h.router.node.pending)
          ∙ ap (λ b. plain (request_of w q y) (cond b (AskedHop (asked_of l) (Some (record { name = from; number = id }))) (hop x y (free_number l.link h.router.node.pending))))
          (eq-eqb (free_number l.link h.router.node.pending) (free_number l.link h.router.node.pending) refl)

      gone_other : is_over l.link over ≡ true → (n : ℕ) → (free_number l.link h.router.node.pending == n) ≡ false → hop' x y n ≡ hop x y n
      gone_other goes n f = gone_hop goes n ∙ ap (λ b. plain (request_of w q y) (cond b (AskedHop (asked_of l) (Some (record { name = from; number = id }))) (hop x y n))) f ∙ p.taken x y n

    -- all other hops stay
    module _ (a b : List ℕ) (apart : is_named a b ≡ false) (whole : is_whole m a b ≡ true) (whole' : is_whole v a b ≡ true) (n : ℕ) where
      stays_by : link_of m a b ≡ link_of v a b → hop' a b n ≡ hop a b n
      stays_by e = still_hop w q m lines hop p v hop' p' a b whole whole' Any Any n e

      to_stays : x ≡ a → (has_over b && number_for h.router b == n) ≡ false → hop' a b n ≡ hop a b n
      to_stays one f = by (link_to h.router.node.links b) refl (has_over b) refl f
        where
          other : is_named x b ≡ false
          other = ap (λ z. is_named z b) one ∙ apart

          same : has_over b ≡ false → hop' a b n ≡ hop a b n
          same g = stays_by (ap (λ z. link_of m z b) (sym one)
              ∙ to_same m sound orderly x h.router h.found from h.state h.at tree id target content tag h.behind h.first h.link h.linked b other g ∙ ap (λ z. link_of v z b) one)

          by : (o : Option LinkPeer) → link_to h.router.node.links b ≡ o → (c : Bool) → has_over b ≡ c → (c && number_for h.router b == n) ≡ false → hop' a b n ≡ hop a b n
          by o e false g k = same g
          by None e true g k = absurd (false≢true (sym (ap (λ (z : Option LinkPeer). option_map_or (λ l. is_over l.link over) z false) e) ∙ g))
          by (Some l) e true g k =
              ap (λ z. hop' z b n) (sym one)
              ∙ gone_other b other (ap (λ z. is_whole m z b) one ∙ whole) (ap (λ z. is_whole v z b) one ∙ whole') l e
              (sym (ap (λ (z : Option LinkPeer). option_map_or (λ l. is_over l.link over) z false) e) ∙ g) n
              (ap (λ (z : Option LinkPeer). option_map_or (λ l. free_number l.link h.router.node.pending) z 0 == n) (sym e) ∙ k)
              ∙ ap (λ z. hop z b n) one

      from_stays : is_named x a ≡ false → x ≡ b → is_hop from x id a b n ≡ false → hop' a b n ≡ hop a b n
      from_stays other one f = by (is_named from a) refl
        where
          by : (c : Bool) → is_named from a ≡ c → hop' a b n ≡ hop a b n
          by false g = stays_by (ap (λ z. link_of m a z) (sym one)
              ∙ from_same m sound orderly x h.router h.found from h.state h.at tree id target content tag h.behind h.first h.link h.linked a other g ∙ ap (λ z. link_of v a z) one)
          by true g =
              let two : from ≡ a = same_is from a g in
              (λ i. hop' (sym two i) (sym one i) n)
              ∙ came_other ((λ i. is_whole m (two i) (one i)) ∙ whole) ((λ i. is_whole v (two i) (one i)) ∙ whole') n (number (id == n) refl)
              ∙ (λ i. hop (two i) (one i) n)
            where
              number : (c : Bool) → (id == n) ≡ c → c ≡ false
              number false k = refl
              number true k = absurd (false≢true (sym f ∙ is_hop_of from x id a b n (same_is from a g) one (eqb-true id n k)))

      pub stays_hop : is_hop from x id a b n ≡ false → (is_named x a && (has_over b && number_for h.router b == n)) ≡ false → hop' a b n ≡ hop a b n
      stays_hop f g = by (is_named x a) refl (is_named x b) refl g
        where
          by : (c : Bool) → is_named x a ≡ c → (d : Bool) → is_named x b ≡ d → (c && (has_over b && number_for h.router b == n)) ≡ false → hop' a b n ≡ hop a b n
          by true ax d bx k = to_stays (same_is x a ax) k
          by false ax true bx k = from_stays ax (same_is x b bx) f
          by false ax false bx k = stays_by (apart_same m sound orderly x h.router h.found from h.state h.at tree id target content tag h.behind h.first h.link h.linked a b ax bx)
