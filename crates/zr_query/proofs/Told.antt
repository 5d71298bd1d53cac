-- What is told to who asked is, on the link of each number, what the definition of routing says.
use Rattle.std.proofs.Common.{◌≡◌, ℕ, ◌==◌, Bool, true, false, cond, List, [], ◌∷◌, ◌++◌, append-nil, Option, Some, None, is_some, map, refl, sym, ap, ◌∙◌}
use Rattle.std.specs.List.{flat_map}
use Rattle.std.specs.Option.{option_map, option_map_or}
use Rattle.std.proofs.lemmas.Bool.{eqb-true, eq-eqb, false≢true}
use Rattle.zr_id.specs.declared.link.LinkNo.{LinkNo}
use Rattle.zr_msg.specs.Extras.{no_extras}
use Rattle.zr_msg.specs.declared.content.Parts.{Parts}
use Rattle.zr_msg.specs.declared.extras.Extras.{Extras}
use Rattle.zr_msg.specs.declared.msg.Msg.{Msg}
use Rattle.zr_msg.specs.declared.msg.Msg.TheVariants.{Response}
use Rattle.zr_msg.specs.declared.msg.Target.{Target}
use Rattle.zr_pend_spec.specs.Row.{RowState}
use Rattle.zr_pend_spec.specs.Pending.{asker_of, branch, final_to, finals_of_drop}
use Rattle.zr_pend_spec.specs.declared.branch.Asker.{Asker}
use Rattle.zr_pend_spec.specs.Held.{GatheringState, ending, held_for}
use Rattle.zr_node_spec.specs.Queries.{reply_to, final_for, final_at_once, ending_for, held_at, held_to, link_no, links_along, passes_reply, request_along, sends_request, sends_reply, sends_final, sends_ends}
use Rattle.zr_node_spec.specs.Samples.{tree_of}
use Rattle.zr_node_spec.specs.Tables.{TableState, link_at}
use Rattle.zr_node_spec.specs.Event.{on_link, Tells, TellsPrefix}
use Rattle.zr_lists.specs.Prefix.{IsPrefixBehind}
use Rattle.zr_node_spec.proofs.Told.{on_link-append, tells_list, tells_prefix}
use Rattle.zr_query.specs.Answering.{ending_sent, endings_sent, final_sent, reply_sent}

-- a message for one link is on that link alone
pub on_own : (l : LinkNo) (m : Msg) (to : LinkNo) → on_link to ((l, m) ∷ []) ≡ cond (to.0 == l.0) (m ∷ []) []
on_own l m to = by (l.0 == to.0) refl (to.0 == l.0) refl
  where
    by : (t : Bool) → (l.0 == to.0) ≡ t → (u : Bool) → (to.0 == l.0) ≡ u → map (λ (x : LinkNo × Msg). x.1) (cond t ((l, m) ∷ []) []) ≡ cond u (m ∷ []) []
    by true e true f = refl
    by true e false f = absurd (false≢true (sym f ∙ eq-eqb to.0 l.0 (sym (eqb-true l.0 to.0 e))))
    by false e true f = absurd (false≢true (sym e ∙ eq-eqb l.0 to.0 (sym (eqb-true to.0 l.0 f))))
    by false e false f = refl

-- ---- one reply, one final

pub replied : (content : Parts) (a : Asker) (to : LinkNo) → on_link to (reply_sent content a ∷ []) ≡ reply_to content to.0 a
replied content a to = on_own a.link _ to

pub ended : (extras : Extras) (a : Asker) (to : LinkNo) → on_link to (final_sent extras a ∷ []) ≡ final_for extras to.0 a
ended extras a to = on_own a.link _ to

-- nothing at all
pub tells_nothing : (rows : ℕ → List Msg) (before : List (LinkNo × Msg)) → ((n : ℕ) → rows n ≡ []) → Tells rows before before
tells_nothing rows before h = tells_list rows before [] before (λ to. sym (h to.0)) (sym (append-nil before))

pub reply_told : (rows : List RowState) (from number : ℕ) (content : Parts) (a : Asker) (before now : List (LinkNo × Msg)) → asker_of (branch (link_no from) number) rows ≡ Some a →
    now ≡ before ++ reply_sent content a ∷ [] → Tells (passes_reply rows from number content) before now
reply_told rows from number content a before now at e =
    tells_list _ _ _ _ (λ to. replied content a to ∙ ap (λ o. option_map_or (λ b. reply_to content to.0 b) o []) (sym at)) e

pub no_reply_told : (rows : List RowState) (from number : ℕ) (content : Parts) (before : List (LinkNo × Msg)) → asker_of (branch (link_no from) number) rows ≡ None →
    Tells (passes_reply rows from number content) before before
no_reply_told rows from number content before at = tells_nothing _ _ (λ n. ap (λ o. option_map_or (λ b. reply_to content n b) o []) at)

-- a reply that is held, and one that isn't
module _ (rows : List RowState) (held : List GatheringState) (from number : ℕ) (content : Parts) (before now : List (LinkNo × Msg)) where
  pub held_told : is_some (held_at rows held from number content) ≡ true → Tells (sends_reply rows held from number content) before before
  held_told h = tells_nothing _ _ (λ n. ap (λ t. cond t [] (passes_reply rows from number content n)) h)

  pub passed_told : is_some (held_at rows held from number content) ≡ false → Tells (passes_reply rows from number content) before now → Tells (sends_reply rows held from number content) before now
  passed_told h t = record {
    sent = t.sent;
    appended = t.appended;
    each = λ to. t.each to ∙ sym (ap (λ u. cond u [] (passes_reply rows from number content to.0)) h);
  }

-- ---- what was held, and the final

replies_told : (a : Asker) (replies : List Parts) (to : LinkNo) → on_link to (map (λ c. reply_sent c a) replies) ≡ cond (to.0 == a.link.0) (map (λ c. Response a.number c) replies) []
replies_told a [] to = none (to.0 == a.link.0)
  where
    none : (t : Bool) → [] ≡ cond {A = List Msg} t [] []
    none true = refl
    none false = refl
replies_told a (c ∷ replies) to =
    on_link-append to (reply_sent c a ∷ []) (map (λ d. reply_sent d a) replies)
    ∙ ap (λ ms. ms ++ on_link to (map (λ d. reply_sent d a) replies)) (replied c a to)
    ∙ ap (λ ms. cond (to.0 == a.link.0) (Response a.number c ∷ []) [] ++ ms) (replies_told a replies to)
    ∙ both (to.0 == a.link.0)
  where
    both : (t : Bool) → cond t (Response a.number c ∷ []) [] ++ cond t (map (λ d. Response a.number d) replies) [] ≡ cond t (Response a.number c ∷ map (λ d. Response a.number d) replies) []
    both true = refl
    both false = refl

ending_told : (held : List GatheringState) (extras : Extras) (a : Asker) (to : LinkNo) → on_link to (ending_sent extras (ending held a)) ≡ ending_for held extras to.0 a
ending_told held extras a to =
    on_link-append to (map (λ c. reply_sent c a) (held_for held a)) (final_sent extras a ∷ [])
    ∙ ap (λ ms. ms ++ on_link to (final_sent extras a ∷ [])) (replies_told a (held_for held a) to)
    ∙ ap (λ ms. held_to held to.0 a ++ ms) (ended extras a to)

module _ (rows : List RowState) (held : List GatheringState) (from number : ℕ) (extras : Extras) (a : Asker) (before now : List (LinkNo × Msg)) (at : final_to rows (branch (link_no from) number) ≡ Some a) where
  final_each : (to : LinkNo) → on_link to (ending_sent extras (ending held a)) ≡ sends_final rows held from number extras to.0
  final_each to = ending_told held extras a to ∙ ap (λ o. option_map_or (λ b. ending_for held extras to.0 b) o []) (sym at)

  pub final_told : now ≡ before ++ ending_sent extras (ending held a) → Tells (sends_final rows held from number extras) before now
  final_told e = tells_list _ _ _ _ final_each e

  pub final_prefix : IsPrefixBehind before (ending_sent extras (ending held a)) now → TellsPrefix (sends_final rows held from number extras) before now
  final_prefix e = tells_prefix _ _ _ _ final_each e

pub no_final_told : (rows : List RowState) (held : List GatheringState) (from number : ℕ) (extras : Extras) (before : List (LinkNo × Msg)) → final_to rows (branch (link_no from) number) ≡ None →
    Tells (sends_final rows held from number extras) before before
no_final_told rows held from number extras before at = tells_nothing _ _ (λ n. ap (λ o. option_map_or (λ b. ending_for held extras n b) o []) at)

-- who it was that got the final
pub who_ended : (held : List GatheringState) (o : Option Asker) (e : GatheringState) → option_map (λ a. ending held a) o ≡ Some e → (a : Asker) × (o ≡ Some a) × (ending held a ≡ e)
who_ended held None e h = absurd (cc)
who_ended held (Some a) e h = (a, refl, cc)

pub none_ended : (held : List GatheringState) (o : Option Asker) → option_map (λ a. ending held a) o ≡ None → o ≡ None
none_ended held None h = refl
none_ended held (Some a) h = absurd (cc)

-- ---- several finals

all_ended : (held : List GatheringState) (askers : List Asker) (to : LinkNo) →
    on_link to (endings_sent no_extras (map (λ a. ending held a) askers)) ≡ flat_map (λ a. ending_for held no_extras to.0 a) askers
all_ended held [] to = refl
all_ended held (a ∷ askers) to =
    on_link-append to (ending_sent no_extras (ending held a)) (endings_sent no_extras (map (λ b. ending held b) askers))
    ∙ ap (λ ms. ms ++ on_link to (endings_sent no_extras (map (λ b. ending held b) askers))) (ending_told held no_extras a to)
    ∙ ap (λ ms. ending_for held no_extras to.0 a ++ ms) (all_ended held askers to)

module _ (rows : List RowState) (held : List GatheringState) (link : ℕ) (ended : List GatheringState) (before now : List (LinkNo × Msg)) (e : ended ≡ map (λ a. ending held a) (finals_of_drop (link_no link) rows)) where
  ends_each : (to : LinkNo) → on_link to (endings_sent no_extras ended) ≡ sends_ends rows held link to.0
  ends_each to = ap (λ es. on_link to (endings_sent no_extras es)) e ∙ all_ended held (finals_of_drop (link_no link) rows) to

  pub ends_told : now ≡ before ++ endings_sent no_extras ended → Tells (sends_ends rows held link) before now
  ends_told k = tells_list _ _ _ _ ends_each k

  pub ends_prefix : IsPrefixBehind before (endings_sent no_extras ended) now → TellsPrefix (sends_ends rows held link) before now
  ends_prefix k = tells_prefix _ _ _ _ ends_each k

-- nothing yet is a prefix
pub nothing_yet : (rows : ℕ → List Msg) (before : List (LinkNo × Msg)) → TellsPrefix rows before before
nothing_yet rows before = record { sent = []; appended = sym (append-nil before); each = λ to. (rows to.0, refl) }

-- ---- a request that goes nowhere

pub ended_at_once : (a : Asker) (to : LinkNo) → on_link to (final_sent no_extras a ∷ []) ≡ final_at_once a.link.0 a.number [] to.0
ended_at_once a to = on_own a.link _ to

pub refused_is : (t : TableState) (rows : List RowState) (from : Asker) (named : Option (List ℕ)) (target : Target) (content : Parts) → tree_of t (link_at t.links from.link.0) named ≡ None → (to : LinkNo)
    → on_link to (final_sent no_extras from ∷ []) ≡ sends_request t rows from.link.0 named from.number target content to.0
refused_is t rows from named target content gone to =
    ended_at_once from to
    ∙ sym (append-nil (final_at_once from.link.0 from.number [] to.0))
    ∙ ap (λ o. final_at_once from.link.0 from.number (links_along t from.link.0 o target content.key) to.0 ++ request_along t rows from.link.0 o target content to.0) (sym gone)
