-- Over which links a router passes a request on, what it sends there, and what it keeps of its links by the row of it.
use Rattle.std.proofs.Common.{◌≡◌, ℕ, ◌==◌, Bool, true, false, cond, not, List, [], ◌∷◌, ◌++◌, map, filter, Option, Some, None, refl, sym, ap, ◌∙◌}
use Rattle.std.specs.Prelude.{◌||◌, ◌&&◌}
use Rattle.std.specs.List.{flat_map}
use Rattle.std.specs.Option.{option_map_or}
use Rattle.std.proofs.Math.Bool.{or-false}
use Rattle.std.proofs.lemmas.Bool.{false≢true, true≢false, eqb-true, eq-eqb, false_from_ne_true}
use Rattle.zr_id.specs.declared.link.LinkNo.{LinkNo}
use Rattle.zr_lists.proofs.Finds.{any_in, in_any, map_in, in_map, in_filter, filter_in, find_in}
use Rattle.zr_lists.proofs.Elements.{each_in}
use Rattle.zr_msg.specs.Extras.{no_extras}
use Rattle.zr_msg.specs.declared.content.Parts.{Parts}
use Rattle.zr_msg.specs.declared.msg.Msg.{Msg}
use Rattle.zr_msg.specs.declared.msg.Msg.TheVariants.{Request, Final}
use Rattle.zr_msg.specs.declared.msg.Target.{Target}
use Rattle.zr_msg.specs.declared.peer.LinkPeer.{LinkPeer}
use Rattle.zr_pend_spec.specs.declared.branch.Asker.{Asker}
use Rattle.zr_pend_spec.specs.Row.{RowState}
use Rattle.zr_pend_spec.specs.Pending.{asked, branch, free_number, begun}
use Rattle.zr_pend_spec.specs.Readings.{back}
use Rattle.zr_pend_spec.proofs.Readings.{begun_kept}
use Rattle.zr_node_spec.specs.Tables.{TableState, is_link, link_at, link_to}
use Rattle.zr_node_spec.specs.Samples.{tree_of}
use Rattle.zr_node_spec.specs.Queries.{is_asked, links_along, asked_links, tree_for, request_along, final_at_once, asked_over}
use Rattle.zr_law_queries.specs.Link.{final}
use Rattle.zr_law_queries.specs.Query.{is_empty}
use Rattle.zr_node_spec.specs.State.{tables}
use Rattle.zr_world_spec.specs.World.{RouterState}
use Rattle.zr_law_numbers.specs.Waiting as waiting
use Rattle.zr_law_numbers.specs.Waiting.{asks_in, answers_in}
use Rattle.zr_law_numbers.proofs.RowsBegun.{is_over, begun_back_on}
use Rattle.zr_law_numbers.proofs.DeedsOfRequests.{named_on}
use Rattle.zr_world_spec.specs.Sound.{AreUnique}

-- ---- where a request goes

-- the tree in which a router passes on a request that comes over a link, and the links over which it goes
abbrev pub tree_on : RouterState → LinkPeer → Option (List ℕ) → Option (List ℕ)
tree_on r k tree = tree_of (tables r.node) (link_at r.node.links k.link.0) tree

abbrev pub links_on : RouterState → LinkPeer → Option (List ℕ) → Target → Parts → List LinkNo
links_on r k tree target content = asked_links (tables r.node) k.link.0 tree target content.key

-- it goes to a neighbour over some links
abbrev pub goes_to : RouterState → List LinkNo → List ℕ → Bool
goes_to r to y = option_map_or (λ l. is_over l.link to) (link_to r.node.links y) false

-- a link is among those that a test keeps where it passes
pub over_test : (links : List LinkPeer) → AreUnique links → (test : LinkPeer → Bool) (l : LinkPeer) → link_at links l.link.0 ≡ Some l → is_over l.link (map (λ k. k.link) (filter test links)) ≡ test l
over_test links unique test l e = by (test l) refl
  where
    here : LinkNo → Bool
    here n = n.0 == l.link.0

    passes : is_over l.link (map (λ k. k.link) (filter test links)) ≡ true → test l ≡ true
    passes h =
        let n = any_in here (map (λ (k : LinkPeer). k.link) (filter test links)) h in
        let z = in_map (λ (k : LinkPeer). k.link) (filter test links) n.0 n.1 in
        let f = in_filter test links z.0 z.1 in
        let both : Some z.0 ≡ Some l =
        sym (each_in (λ (k : LinkPeer). link_at links k.link.0 ≡ Some k) links z.0 unique.numbers f.0) ∙ ap (λ (k : LinkNo). link_at links k.0) z.2 ∙ ap (link_at links) (eqb-true n.0.0 l.link.0 n.2) ∙ e in
        let one : z.0 ≡ l = cc in
        ap test (sym one) ∙ f.1

    by : (b : Bool) → test l ≡ b → is_over l.link (map (λ k. k.link) (filter test links)) ≡ b
    by true t = in_any here (map (λ (k : LinkPeer). k.link) (filter test links)) l.link
        (map_in (λ (k : LinkPeer). k.link) (filter test links) l (filter_in test links l (find_in (λ k. is_link l.link.0 k) links l e).0 t)) (eq-eqb l.link.0 l.link.0 refl)
    by false t = false_from_ne_true (is_over l.link (map (λ k. k.link) (filter test links))) (λ h. true≢false (sym (passes h) ∙ t))

-- what a router asks over a link of a request that came over another
abbrev pub asked_on : RouterState → LinkPeer → ℕ → Option (List ℕ) → Target → Parts → LinkPeer → waiting.Asked
asked_on r k tag tree target content l = record { line = tag; tree = named_on (tree_on r k tree) l.peer.role; target = target; content = content }

-- what is sent of it over a link
pub along_over : (t : TableState) → AreUnique t.links → (pending : List RowState) (from : ℕ) (o : Option (List ℕ)) (target : Target) (content : Parts) (l : LinkPeer) → link_at t.links l.link.0 ≡ Some l →
    request_along t pending from o target content l.link.0
    ≡ cond (is_over l.link (links_along t from o target content.key)) (Request (named_on o l.peer.role) (free_number l.link pending) target content ∷ []) []
along_over t unique pending from None target content l e = refl
along_over t unique pending from (Some tree) target content l e =
    ap (λ z. option_map_or (λ k. cond (is_asked t from tree target content.key k k.peer.role) (Request (tree_for tree k.peer.role) (free_number k.link pending) target content ∷ []) []) z []) e
    ∙ ap (λ b. cond b (Request (tree_for tree l.peer.role) (free_number l.link pending) target content ∷ []) [])
    (sym (over_test t.links unique (λ k. is_asked t from tree target content.key k k.peer.role) l e))

-- a request that goes somewhere sends no final, and a final asks nothing
pub final_asks : (tag k id n : ℕ) (to : List LinkNo) (ms : List Msg) → flat_map (λ m. asks_in tag m) (final_at_once k id to n ++ ms) ≡ flat_map (λ m. asks_in tag m) ms
final_asks tag k id n [] ms = by (n == k)
  where
    by : (b : Bool) → flat_map (λ m. asks_in tag m) (cond b (Final id no_extras ∷ []) [] ++ ms) ≡ flat_map (λ m. asks_in tag m) ms
    by true = refl
    by false = refl
final_asks tag k id n (l ∷ ls) ms = refl

pub final_answers : (tag k id n : ℕ) (to : List LinkNo) → flat_map (λ m. answers_in tag m) (final_at_once k id to n) ≡ cond (is_empty to && n == k) (final id ∷ []) []
final_answers tag k id n [] = by (n == k)
  where
    by : (b : Bool) → flat_map (λ m. answers_in tag m) (cond b (Final id no_extras ∷ []) []) ≡ cond b (final id ∷ []) []
    by true = refl
    by false = refl
final_answers tag k id n (l ∷ ls) = refl

-- who asked keeps what goes somewhere
pub kept_over : (pending : List RowState) (a b : Asker) (to : List LinkNo) → asked b (asked_over pending a to) ≡ (asked b pending || (not (is_empty to) && (a.link.0 == b.link.0 && a.number == b.number)))
kept_over pending a b [] = sym (or-false (asked b pending))
kept_over pending a b (l ∷ ls) = begun_kept pending a (l ∷ ls) b ∙ ap (λ z. asked b pending || z) (or-false (a.link.0 == b.link.0 && a.number == b.number))

-- and on each link over which it goes the free number is pending for who asked
pub back_over : (pending : List RowState) (a : Asker) (to : List LinkNo) (link : LinkNo) (n : ℕ) →
    back (asked_over pending a to) (branch link n) ≡ cond (is_over link to && free_number link pending == n) (Some (Some a)) (back pending (branch link n))
back_over pending a [] link n = refl
back_over pending a (l ∷ ls) link n = begun_back_on pending a (l ∷ ls) link n

-- where a request goes somewhere its row is the last, and else there is none
pub over_some : (pending : List RowState) (a : Asker) (to : List LinkNo) → is_empty to ≡ false → asked_over pending a to ≡ begun pending a to
over_some pending a [] e = absurd (true≢false e)
over_some pending a (l ∷ ls) e = refl

pub over_none : (pending : List RowState) (a : Asker) (to : List LinkNo) → is_empty to ≡ true → asked_over pending a to ≡ pending
over_none pending a [] e = refl
over_none pending a (l ∷ ls) e = absurd (false≢true e)
