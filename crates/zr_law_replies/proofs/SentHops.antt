-- A client is sent a message while a query stands: what its two links to its router have then, and that other links stay. So the hops are known that links
-- show then (`upper_then`, `lower_then`, `by_links`).
use Rattle.std.proofs.Common.{◌≡◌, ℕ, Bool, true, false, cond, List, [], ◌∷◌, ◌++◌, Some, is_some, refl, sym, ap, ◌∙◌, subst, append-nil}
use Rattle.std.proofs.lemmas.Bool.{or_left}
use Rattle.zr_id.specs.Zid.{is_named}
use Rattle.zr_msg.specs.declared.msg.Msg.{Msg}
use Rattle.zr_world_spec.specs.World.{Tagged, EndState, ClientState, WorldState, client_of, end_of, is_unbroken}
use Rattle.zr_world_spec.specs.Acts.{receiving, received}
use Rattle.zr_world_spec.specs.Moments.{Numbered, Moment}
use Rattle.zr_world_spec.proofs.Names.{names, same_name, value_after}
use Rattle.zr_world_spec.proofs.Clients.{idle_receiving}
use Rattle.zr_world_spec.proofs.Cases.{w_take, on_take}
use Rattle.zr_law_settled.proofs.Goes.{Goes}
use Rattle.zr_law_settled.proofs.Moving.{unbroken_at}
use Rattle.zr_guarantee.specs.Queries.{Asked as Query}
use Rattle.zr_law_numbers.specs.Waiting.{waits, link_of, is_whole}
use Rattle.zr_law_numbers.specs.Deeds.{handles_msg, with_deeds}
use Rattle.zr_law_numbers.proofs.Doing.{Above, Below, may_handle}
use Rattle.zr_law_numbers.proofs.Waits.{asks_among, answers_among, keeps_same, back_same, link_same}
use Rattle.zr_law_numbers.proofs.Whole.{whole_apart, whole_turned}
use Rattle.zr_law_numbers.proofs.Numbers.{AllGo}
use Rattle.zr_law_numbers.proofs.ActClients.{client_half, receives, taken_first, waits_other}
use Rattle.zr_law_replies.specs.Stands.{IsStill}
use Rattle.zr_law_replies.proofs.Links.{lines_on}
use Rattle.zr_law_replies.proofs.Standing.{keeps_is, back_is}
use Rattle.zr_law_replies.proofs.StandHere.{still_whole}
use Rattle.zr_law_replies.proofs.StandSteps.{Hops}
use Rattle.zr_law_replies.proofs.ShownHops.{plain}
use Rattle.zr_law_replies.proofs.StandStep.{request_of, PlainHops, Here}
use Rattle.zr_law_replies.proofs.SayHops.{only_home}
use Rattle.zr_law_replies.proofs.ActHops.{Any, above_hops, below_hops, upper_hop, lower_hop, still_hop}

-- a message goes from a router to a client of it, and all holds then that holds of every moment of the phase
pub record Take (w₀ : WorldState) (phase : List Numbered) (q : Query) (acts : List Numbered) (m : Moment) (here : Here w₀ phase q acts m) (to : List ℕ) (s : ClientState) (msg : Msg) (tag : ℕ) : Type 0 where
  pub found : client_of m.world.clients to ≡ Some s
  pub e : EndState
  pub at : end_of m.world.ends (s.router, to) ≡ Some e
  pub unbroken : e.unbroken ≡ true
  pub xs : List Tagged
  pub first : e.queue ≡ record { msg = msg; tag = tag } ∷ xs
  pub go : AllGo (on_take m s.router to e msg tag xs)
  pub still : IsStill w₀ (w_take m.world s.router to e msg tag xs)
  pub hop : Hops
  pub plain : PlainHops w₀ q (w_take m.world s.router to e msg tag xs) (lines_on (w_take m.world s.router to e msg tag xs) here.holds.lines) hop

module _ (w₀ : WorldState) (q : Query) (phase acts : List Numbered) (m : Moment) (here : Here w₀ phase q acts m) (to : List ℕ) (s : ClientState) (msg : Msg) (tag : ℕ) (k : Take w₀ phase q acts m here to s msg tag) where
  abbrev w : WorldState
  w = m.world

  abbrev v : WorldState
  v = w_take m.world s.router to k.e msg tag k.xs

  abbrev s' : ClientState
  s' = receiving s msg

  abbrev g : Goes m.world
  g = here.holds.go.0

  abbrev g' : Goes (w_take m.world s.router to k.e msg tag k.xs)
  g' = k.go.0

  -- ---- clients

  ids : s'.router ≡ s.router
  ids = ap (λ (z : ClientState). z.router) (idle_receiving s msg)

  pub are : (d : List ℕ) → client_of v.clients d ≡ cond (is_named to d) (Some s') (client_of w.clients d)
  are d = ap (λ o. client_of (received w.clients to msg o) d) k.found ∙ value_after w.clients to d s' (ap is_some k.found)

  own_then : client_of v.clients to ≡ Some s'
  own_then = are to ∙ ap (λ c. cond c (Some s') (client_of w.clients to)) (names.refl to)

  -- ---- links

  pub below : is_whole w s.router to ≡ true
  below = or_left (is_unbroken w.ends (s.router, to)) (is_unbroken w.ends (to, s.router)) (ap unbroken_at k.at ∙ k.unbroken)

  pub above : is_whole w to s.router ≡ true
  above = whole_turned w to s.router ∙ below

  home_apart : is_named to s.router ≡ false
  home_apart = names.symm to s.router ∙ whole_apart w g.sound s.router to below

  client_still : client_of v.clients s.router ≡ client_of w.clients s.router
  client_still = are s.router ∙ ap (λ c. cond c (Some s') (client_of w.clients s.router)) home_apart

  pub came : waits w s.router to ≡ record { msg = msg; tag = tag } ∷ waits v s.router to
  came = taken_first w g.sound g.orderly g.clients to s k.found v s' ids are (λ x y n. refl) (λ x y n. refl) msg tag k.xs k.e k.at k.first refl (receives to s msg)

  others_wait : (x y : List ℕ) → is_named to y ≡ false → waits v x y ≡ waits w x y
  others_wait x y other = waits_other w g.sound g.orderly g.clients to s k.found v s' ids are (λ x y n. refl) (λ x y n. refl) msg tag k.xs k.e k.at k.first refl (receives to s msg) x y other

  -- the client is the upper end of the one, and handles the message there
  upper : Above Any (link_of w to s.router) (link_of v to s.router)
  upper = record {
    came = Some (record { msg = msg; tag = tag });
    half = client_half to s;
    own = [];
    owns = refl;
    fits = tt;
    may = may_handle (client_half to s) msg;
    asks = ap asks_among (others_wait to s.router home_apart) ∙ sym (append-nil (asks_among (waits w to s.router)));
    answers = ap answers_among came;
    keeps = λ j. keeps_same w v to s.router refl client_still j;
    before = λ j. back_is w g.orderly to s k.found j;
    leaves = λ j. back_then j ∙ (receives to s msg).back j ∙ ap (λ ds. (with_deeds (client_half to s) ds).back j) (sym (append-nil (handles_msg msg)));
  }
    where
      back_then : (j : ℕ) → (link_of v to s.router).back j ≡ (client_half to s').back j
      back_then j = ap (λ z. (link_of v to z).back j) (sym ids) ∙ back_is v g'.orderly to s' own_then j

  -- and the lower end of the other
  lower : Below Any (link_of w s.router to) (link_of v s.router to)
  lower = record {
    came = Some (record { msg = msg; tag = tag });
    half = client_half to s;
    own = [];
    owns = refl;
    fits = tt;
    may = may_handle (client_half to s) msg;
    asks = ap asks_among came;
    answers = ap answers_among (others_wait to s.router home_apart) ∙ sym (append-nil (answers_among (waits w to s.router)));
    back = λ j. back_same w v s.router to refl client_still j;
    before = λ j. keeps_is w g.orderly to s k.found j;
    leaves = λ j. keeps_then j ∙ (receives to s msg).keeps j ∙ ap (λ ds. (with_deeds (client_half to s) ds).keeps j) (sym (append-nil (handles_msg msg)));
  }
    where
      keeps_then : (j : ℕ) → (link_of v s.router to).keeps j ≡ (client_half to s').keeps j
      keeps_then j = ap (λ z. (link_of v z to).keeps j) (sym ids) ∙ keeps_is v g'.orderly to s' own_then j

  -- other links stay
  elsewhere : (x y : List ℕ) → is_named to x ≡ false → is_named to y ≡ false → link_of w x y ≡ link_of v x y
  elsewhere x y ex ey =
      link_same w v x y (others_wait x y ey) (others_wait y x ex)
      (keeps_same w v x y refl (are y ∙ ap (λ c. cond c (Some s') (client_of w.clients y)) ey))
      (back_same w v x y refl (are x ∙ ap (λ c. cond c (Some s') (client_of w.clients x)) ex))

  -- ---- hops

  still_on : (x y : List ℕ) → is_whole w x y ≡ true → is_whole v x y ≡ true
  still_on x y there = still_whole w₀ v k.still x y ∙ sym (still_whole w₀ w here.stands.still x y) ∙ there

  pub upper_then : (j : ℕ) → k.hop to s.router j ≡ plain (request_of w₀ q s.router) (above_hops j (handles_msg msg ++ []) (here.hop to s.router j))
  unfolding upper
  upper_then j = upper_hop w₀ q w here.holds.lines here.hop here.plain v k.hop k.plain to s.router above (still_on to s.router above) Any Any j upper

  pub lower_then : (j : ℕ) → k.hop s.router to j ≡ plain (request_of w₀ q to) (below_hops j (handles_msg msg ++ []) (here.hop s.router to j))
  unfolding lower
  lower_then j = lower_hop w₀ q w here.holds.lines here.hop here.plain v k.hop k.plain s.router to below (still_on s.router to below) Any Any j lower

  other_then : (x y : List ℕ) → is_whole w₀ x y ≡ true → is_named to x ≡ false → is_named to y ≡ false → (j : ℕ) → k.hop x y j ≡ here.hop x y j
  other_then x y there ex ey j =
      still_hop w₀ q w here.holds.lines here.hop here.plain v k.hop k.plain x y (still_whole w₀ w here.stands.still x y ∙ there) (still_whole w₀ v k.still x y ∙ there) Any Any j (elsewhere x y ex ey)

  -- the client's link is the one to its router
  home_is : (y : List ℕ) → is_whole w to y ≡ true → s.router ≡ y
  home_is y there = only_home w g to s k.found y there

  -- what holds of its two links, and of those that stay
  pub by_links : (P : List ℕ → List ℕ → Type 0) → P to s.router → P s.router to → ((x y : List ℕ) → ((j : ℕ) → k.hop x y j ≡ here.hop x y j) → P x y) → (x y : List ℕ) → is_whole w₀ x y ≡ true → P x y
  by_links P up down others x y there = by (is_named to x) refl (is_named to y) refl
    where
      now : is_whole w x y ≡ true
      now = still_whole w₀ w here.stands.still x y ∙ there

      by : (c : Bool) → is_named to x ≡ c → (d : Bool) → is_named to y ≡ d → P x y
      by true e d f =
          let one : to ≡ x = same_name to x e in
          subst (λ z. P z y) one (subst (λ z. P to z) (home_is y (ap (λ z. is_whole w z y) one ∙ now)) up)
      by false e true f =
          let one : to ≡ y = same_name to y f in
          subst (λ z. P x z) one (subst (λ z. P z to) (home_is x (ap (λ z. is_whole w z x) one ∙ whole_turned w y x ∙ now)) down)
      by false e false f = others x y (λ j. other_then x y there e f j)
