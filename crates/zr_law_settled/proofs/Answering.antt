-- A request, what answers it, and the end of a link send nothing else of queries than requests, replies and finals. So what holds of each of
-- these holds of all that is sent (`request_all`, `reply_all`, `final_all`, `ends_all`), and a reading that they tell nothing finds nothing
-- in it (`request_silent` and the others).
use Rattle.std.proofs.Common.{◌≡◌, ℕ, Bool, true, false, cond, List, [], ◌∷◌, ◌++◌, Option, Some, None, refl, ap, ◌∙◌}
use Rattle.std.specs.Prelude.{◌==◌, flat_map, map, is_some}
use Rattle.std.specs.List.{AllByRecursion}
use Rattle.std.specs.Option.{option_map_or}
use Rattle.std.proofs.lemmas.Grind.{flat_map-append}
use Rattle.zr_id.specs.declared.link.LinkNo.{LinkNo}
use Rattle.zr_msg.specs.declared.content.Parts.{Parts}
use Rattle.zr_msg.specs.declared.extras.Extras.{Extras}
use Rattle.zr_msg.specs.Extras.{no_extras}
use Rattle.zr_msg.specs.declared.msg.Msg.{Msg}
use Rattle.zr_msg.specs.declared.msg.Msg.TheVariants.{Request, Response, Final}
use Rattle.zr_msg.specs.declared.msg.Target.{Target}
use Rattle.zr_msg.specs.declared.peer.LinkPeer.{LinkPeer}
use Rattle.zr_pend_spec.specs.declared.branch.Asker.{Asker}
use Rattle.zr_pend_spec.specs.Row.{RowState}
use Rattle.zr_pend_spec.specs.Held.{GatheringState, held_for}
use Rattle.zr_pend_spec.specs.Pending.{branch, asker_of, free_number, final_to, finals_of_drop}
use Rattle.zr_node_spec.specs.Tables.{TableState, link_at}
use Rattle.zr_node_spec.specs.Samples.{tree_of}
use Rattle.zr_node_spec.specs.Queries.{is_asked, asked_links, link_no, tree_for, request_to, request_along, final_at_once, reply_to, final_for, held_at, passes_reply, held_to, ending_for, sends_request, sends_reply, sends_final, sends_ends}
use Rattle.zr_lists.proofs.Each.{All-append}

-- ---- what holds of requests, replies and finals

module _ (P : Msg → Type 0) where
  one_if : (t : Bool) (m : Msg) → P m → AllByRecursion P (cond t (m ∷ []) [])
  one_if true m p = (p, tt)
  one_if false m p = tt

  pub reply_all : ((number : ℕ) (content : Parts) → P (Response number content)) → (pending : List RowState) (held : List GatheringState) (from number : ℕ) (content : Parts) (to : ℕ) →
      AllByRecursion P (sends_reply pending held from number content to)
  reply_all replies pending held from number content to = at (is_some (held_at pending held from number content))
    where
      by : (o : Option Asker) → AllByRecursion P (option_map_or (λ a. reply_to content to a) o [])
      by None = tt
      by (Some a) = one_if (to == a.link.0) (Response a.number content) (replies a.number content)

      at : (t : Bool) → AllByRecursion P (cond t [] (passes_reply pending from number content to))
      at true = tt
      at false = by (asker_of (branch (link_no from) number) pending)

  module _ (ends : (number : ℕ) (extras : Extras) → P (Final number extras)) where
    for_all : (extras : Extras) (to : ℕ) (a : Asker) → AllByRecursion P (final_for extras to a)
    for_all extras to a = one_if (to == a.link.0) (Final a.number extras) (ends a.number extras)

    module _ (replies : (number : ℕ) (content : Parts) → P (Response number content)) where
      all_held : (number : ℕ) (cs : List Parts) → AllByRecursion P (map (λ c. Response number c) cs)
      all_held number [] = tt
      all_held number (c ∷ cs) = (replies number c, all_held number cs)

      ending_all : (held : List GatheringState) (extras : Extras) (to : ℕ) (a : Asker) → AllByRecursion P (ending_for held extras to a)
      ending_all held extras to a = All-append P (held_to held to a) (final_for extras to a) (by (to == a.link.0)) (for_all extras to a)
        where
          by : (t : Bool) → AllByRecursion P (cond t (map (λ c. Response a.number c) (held_for held a)) [])
          by true = all_held a.number (held_for held a)
          by false = tt

      pub final_all : (pending : List RowState) (held : List GatheringState) (from number : ℕ) (extras : Extras) (to : ℕ) → AllByRecursion P (sends_final pending held from number extras to)
      final_all pending held from number extras to = by (final_to pending (branch (link_no from) number))
        where
          by : (o : Option Asker) → AllByRecursion P (option_map_or (λ a. ending_for held extras to a) o [])
          by None = tt
          by (Some a) = ending_all held extras to a

      pub ends_all : (pending : List RowState) (held : List GatheringState) (link to : ℕ) → AllByRecursion P (sends_ends pending held link to)
      ends_all pending held link to = each (finals_of_drop (link_no link) pending)
        where
          each : (askers : List Asker) → AllByRecursion P (flat_map (λ a. ending_for held no_extras to a) askers)
          each [] = tt
          each (a ∷ askers) = All-append P (ending_for held no_extras to a) (flat_map (λ a. ending_for held no_extras to a) askers) (ending_all held no_extras to a) (each askers)

    pub at_once_all : (from number : ℕ) (links : List LinkNo) (to : ℕ) → AllByRecursion P (final_at_once from number links to)
    at_once_all from number [] to = one_if (to == from) (Final number no_extras) (ends number no_extras)
    at_once_all from number (l ∷ links) to = tt

    pub request_all : ((tree : Option (List ℕ)) (number : ℕ) (target : Target) (content : Parts) → P (Request tree number target content)) →
        (t : TableState) (pending : List RowState) (from : ℕ) (tree : Option (List ℕ)) (number : ℕ) (target : Target) (content : Parts) (to : ℕ) →
        AllByRecursion P (sends_request t pending from tree number target content to)
    request_all asks t pending from named number target content to =
        All-append P (final_at_once from number (asked_links t from named target content.key) to) (request_along t pending from (tree_of t (link_at t.links from) named) target content to)
        (at_once_all from number (asked_links t from named target content.key) to) (along (tree_of t (link_at t.links from) named))
      where
        on : (tree : List ℕ) (o : Option LinkPeer) → AllByRecursion P (option_map_or (λ l. request_to t pending from tree target content l) o [])
        on tree None = tt
        on tree (Some l) = one_if (is_asked t from tree target content.key l l.peer.role) (Request (tree_for tree l.peer.role) (free_number l.link pending) target content)
            (asks (tree_for tree l.peer.role) (free_number l.link pending) target content)

        along : (o : Option (List ℕ)) → AllByRecursion P (request_along t pending from o target content to)
        along None = tt
        along (Some tree) = on tree (link_at t.links to)

-- ---- readings

-- a reading that requests, replies and finals tell nothing
pub record TellsNothing {X : Type 0} (tells : Msg → List X) : Type 0 where
  pub asks : (tree : Option (List ℕ)) (number : ℕ) (target : Target) (content : Parts) → tells (Request tree number target content) ≡ []
  pub replies : (number : ℕ) (content : Parts) → tells (Response number content) ≡ []
  pub ends : (number : ℕ) (extras : Extras) → tells (Final number extras) ≡ []

module _ {X : Type 0} (tells : Msg → List X) (nothing : TellsNothing tells) where
  pub none_told : (ms : List Msg) → AllByRecursion (λ m. tells m ≡ []) ms → flat_map tells ms ≡ []
  none_told [] h = refl
  none_told (m ∷ ms) h = ap (λ z. z ++ flat_map tells ms) h.0 ∙ none_told ms h.1

  pub request_silent : (t : TableState) (pending : List RowState) (from : ℕ) (tree : Option (List ℕ)) (number : ℕ) (target : Target) (content : Parts) (to : ℕ) →
      flat_map tells (sends_request t pending from tree number target content to) ≡ []
  request_silent t pending from tree number target content to =
      none_told (sends_request t pending from tree number target content to) (request_all (λ m. tells m ≡ []) nothing.ends nothing.asks t pending from tree number target content to)

  pub reply_silent : (pending : List RowState) (held : List GatheringState) (from number : ℕ) (content : Parts) (to : ℕ) → flat_map tells (sends_reply pending held from number content to) ≡ []
  reply_silent pending held from number content to =
      none_told (sends_reply pending held from number content to) (reply_all (λ m. tells m ≡ []) nothing.replies pending held from number content to)

  pub final_silent : (pending : List RowState) (held : List GatheringState) (from number : ℕ) (extras : Extras) (to : ℕ) → flat_map tells (sends_final pending held from number extras to) ≡ []
  final_silent pending held from number extras to =
      none_told (sends_final pending held from number extras to) (final_all (λ m. tells m ≡ []) nothing.ends nothing.replies pending held from number extras to)

  pub ends_silent : (pending : List RowState) (held : List GatheringState) (link to : ℕ) → flat_map tells (sends_ends pending held link to) ≡ []
  ends_silent pending held link to =
      none_told (sends_ends pending held link to) (ends_all (λ m. tells m ≡ []) nothing.ends nothing.replies pending held link to)

  -- so a link that goes down tells what is sent behind the finals
  pub behind_ends : (pending : List RowState) (held : List GatheringState) (link to : ℕ) (rest : List Msg) → flat_map tells (sends_ends pending held link to ++ rest) ≡ flat_map tells rest
  behind_ends pending held link to rest = flat_map-append tells (sends_ends pending held link to) rest ∙ ap (λ z. z ++ flat_map tells rest) (ends_silent pending held link to)
