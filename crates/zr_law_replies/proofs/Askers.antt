-- Who asks under a number: what a client asks is a query of its own (`own_query`), and a router asks none (`none_of_router`).
use Rattle.std.proofs.Common.{◌≡◌, ℕ, ◌==◌, Bool, true, false, cond, List, filter, Option, Some, None, is_some, refl, sym, ◌∙◌, subst}
use Rattle.std.specs.Prelude.{◌&&◌}
use Rattle.std.specs.Option.{option_map}
use Rattle.std.proofs.lemmas.Bool.{and_parts, and_from, eq-eqb}
use Rattle.std.proofs.lemmas.Option.{none-some}
use Rattle.zr_lists.proofs.Finds.{In, in_filter, filter_in, none_any}
use Rattle.zr_lists.proofs.Options.{not_there}
use Rattle.zr_id.specs.Zid.{is_named}
use Rattle.zr_graph.proofs.Names.{same_is}
use Rattle.zr_world_spec.specs.World.{ClientState, WorldState, router_of, client_of}
use Rattle.zr_world_spec.specs.Acts.{has_number}
use Rattle.zr_world_spec.specs.Moments.{Numbered, Moment}
use Rattle.zr_law_settled.proofs.Orderly.{Orderly}
use Rattle.zr_law_numbers.specs.Waiting.{Place, back_at, is_whole}
use Rattle.zr_law_numbers.proofs.Waits.{client_back, nobody_back}
use Rattle.zr_guarantee.specs.Latest.{asks_latest}
use Rattle.zr_guarantee.specs.Queries.{Asked, queries, query_at, is_under}
use Rattle.zr_guarantee.specs.Sent.{told_to, finals_in}
use Rattle.zr_law_replies.specs.Answers.{is_latest_of}
use Rattle.zr_law_replies.proofs.Links.{Lines}
use Rattle.zr_law_replies.proofs.Lists.{get_in}
use Rattle.zr_law_replies.proofs.Standing.{Stands}

-- a line is that of a query which a name has asked
pub record OwnQuery (acts : List Numbered) (name : List ℕ) (line : ℕ) : Type 0 where
  pub query : Asked
  pub asked : In query (queries acts)
  pub client : is_named name query.client ≡ true
  pub line_is : query.line ≡ line

-- what is pending for one that is no router is a query of its own
abbrev pub AskersHold : List Numbered → WorldState → Lines → Type 0
AskersHold acts w lines = (y a : List ℕ) (n : ℕ) (by : Option Place) → is_whole w y a ≡ true → is_some (router_of w.routers y) ≡ false → back_at w y a n ≡ Some by → OwnQuery acts y (lines y a n)

module _ (acts : List Numbered) (m : Moment) (lines : Lines) (orderly : Orderly m.world) (h : Stands acts m lines) where
  pub own_query : AskersHold acts m.world lines
  own_query y a n by whole free pending = at (client_of m.world.clients y) refl
    where
      none : router_of m.world.routers y ≡ None
      none = not_there (router_of m.world.routers y) free

      at : (o : Option ClientState) → client_of m.world.clients y ≡ o → OwnQuery acts y (lines y a n)
      at None e = absurd (none-some by (sym (nobody_back m.world y a none e n) ∙ pending))
      at (Some s) e = here (is_named s.router a) refl (has_number s.queries n) refl (sym (client_back m.world y a s none e n) ∙ pending)
        where
          turns : ℕ
          turns = finals_in n (told_to m.report y)

          found : (o : Option Asked) → query_at acts y n turns ≡ o → option_map (λ q. q.line) o ≡ Some (lines y s.router n) → OwnQuery acts y (lines y s.router n)
          found None f k = absurd (none-some (lines y s.router n) k)
          found (Some q) f k =
              let i = in_filter (λ z. is_under y n z) (queries acts) q (get_in (filter (λ z. is_under y n z) (queries acts)) turns q f) in
              record { query = q; asked = i.0; client = (and_parts (is_named y q.client) (q.number == n) i.1).0; line_is = (let one : q.line ≡ lines y s.router n = cc in one) }

          here : (t : Bool) → is_named s.router a ≡ t → (k : Bool) → has_number s.queries n ≡ k → cond (t && k) (Some (Some (record { name = y; number = n }))) None ≡ Some by → OwnQuery acts y (lines y a n)
          here true f true k back =
              let home : s.router ≡ a = same_is s.router a f in
              subst (λ z. OwnQuery acts y (lines y z n)) home
              (found (query_at acts y n turns) refl ((h.books y s n e).open_.last (subst (λ z. is_whole m.world y z ≡ true) (sym home) whole) k))
          here true f false k back = absurd (none-some by back)
          here false f k g back = absurd (none-some by back)

  pub none_of_router : (a : List ℕ) → client_of m.world.clients a ≡ None → (line : ℕ) → is_latest_of acts a line ≡ false
  none_of_router a none line = none_any (λ (p : Asked). is_named a p.client && (p.line == line && asks_latest p)) (queries acts) (λ p i. by p i (is_named a p.client) refl)
    where
      by : (p : Asked) → In p (queries acts) → (t : Bool) → is_named a p.client ≡ t → (t && (p.line == line && asks_latest p)) ≡ false
      by p i false e = refl
      by p i true e = absurd (subst (λ qs. In p qs) (h.others a p.number none).asked (filter_in (λ z. is_under a p.number z) (queries acts) p i (and_from _ _ e (eq-eqb p.number p.number refl))))
