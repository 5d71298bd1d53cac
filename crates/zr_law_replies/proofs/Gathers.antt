-- What a router holds for who asked, over one event: what it held before, nothing yet where a request for the latest has begun, or one reply more (`gather_step`).
use Rattle.std.proofs.Common.{◌≡◌, ℕ, ◌==◌, ◌&&◌, ◌⊎◌, inl, inr, not, Bool, true, false, cond, List, [], ◌∷◌, filter, Option, Some, None, is_some, refl, sym, ap, ◌∙◌}
use Rattle.std.specs.Prelude.{◌||◌}
use Rattle.std.specs.Cmp.Lexicographic.{slice_cmp}
use Rattle.std.specs.Ordering.{nat_cmp, is_lt}
use Rattle.std.specs.List.{find, fold}
use Rattle.std.specs.Option.{option_map, option_map_or, option_and_then}
use Rattle.std.proofs.lemmas.Bool.{false≢true, and_parts}
use Rattle.std.proofs.lemmas.Option.{none-some}
use Rattle.zr_lists.proofs.Finds.{In, in_filter, find_in, in_any}
use Rattle.zr_lists.proofs.Elements.{in_either}
use Rattle.zr_lists.specs.Ascending.{before_key, behind_key}
use Rattle.zr_id.specs.declared.link.LinkNo.{LinkNo}
use Rattle.zr_body.specs.Latest.{is_latest, is_later, is_reply}
use Rattle.zr_msg.specs.declared.content.Parts.{Parts}
use Rattle.zr_msg.specs.declared.event.Event.{Event}
use Rattle.zr_msg.specs.declared.event.Event.TheVariants.{Up, Down, From}
use Rattle.zr_msg.specs.declared.msg.Msg.{Msg}
use Rattle.zr_msg.specs.declared.msg.Msg.TheVariants.{Sub, Unsub, Token, Untoken, Able, Unable, Interest, EndInterest, ToldSub, ToldAble, ToldUnsub, ToldToken, ToldUntoken, ToldUnable, ToldEnd, Push, Request, Response, Final, State, Step, Snap}
use Rattle.zr_msg.specs.declared.msg.Target.{Target}
use Rattle.zr_pend_spec.specs.declared.branch.Asker.{Asker}
use Rattle.zr_pend_spec.specs.Row.{RowState}
use Rattle.zr_pend_spec.specs.Pending.{asker_of, branch, final_to, finals_of_drop}
use Rattle.zr_pend_spec.specs.Held.{GatheringState, is_asker, is_for, gathers_for, held_for, held_with, put_reply, takes_place, has_room, gathering_begun, regathered, gatherings_with, gatherings_without, gatherings_left, gathers_at}
use Rattle.zr_node_spec.specs.Tables.{leads_to_client}
use Rattle.zr_node_spec.specs.Queries.{link_no, asker, asked_links, gathering_if, held_at}
use Rattle.zr_node_spec.specs.State.{NodeState, tables}
use Rattle.zr_node_spec.specs.Table.{after}
use Rattle.zr_law_numbers.proofs.RowsKept.{who_is}

-- ---- what is held for one

abbrev pub held_list : List GatheringState → Asker → Option (List Parts)
held_list held a = option_map (λ g. g.held) (find (λ g. is_for a g) held)

pub list_held : (held : List GatheringState) (a : Asker) → held_for held a ≡ option_map_or (λ (hs : List Parts). hs) (held_list held a) []
list_held held a = by (find (λ g. is_for a g) held)
  where
    by : (o : Option GatheringState) → option_map_or (λ (g : GatheringState). g.held) o [] ≡ option_map_or (λ (hs : List Parts). hs) (option_map (λ (g : GatheringState). g.held) o) []
    by None = refl
    by (Some g) = refl

pub list_gathers : (held : List GatheringState) (a : Asker) (hs : List Parts) → held_list held a ≡ Some hs → gathers_for held a ≡ true
list_gathers held a hs e = by (find (λ g. is_for a g) held) refl e
  where
    by : (o : Option GatheringState) → find (λ g. is_for a g) held ≡ o → option_map (λ (g : GatheringState). g.held) o ≡ Some hs → gathers_for held a ≡ true
    by None f k = absurd (none-some hs k)
    by (Some g) f k = let i = find_in (λ z. is_for a z) held g f in in_any (λ z. is_for a z) held g i.0 i.1

pub gathers_list : (held : List GatheringState) (a : Asker) → gathers_for held a ≡ is_some (held_list held a)
gathers_list [] a = refl
gathers_list (g ∷ held) a = by (is_for a g) (gathers_list held a)
  where
    by : (t : Bool) → gathers_for held a ≡ is_some (held_list held a) → (t || gathers_for held a) ≡ is_some (option_map (λ (z : GatheringState). z.held) (cond t (Some g) (find (λ z. is_for a z) held)))
    by true ih = refl
    by false ih = ih

-- ---- what changes it

-- some are left, as their askers pass a test
filter_list : (p : GatheringState → Bool) (a : Asker) (pa : Bool) → ((g : GatheringState) → is_for a g ≡ true → p g ≡ pa) → (held : List GatheringState) → held_list (filter p held) a ≡ cond pa (held_list held a) None
filter_list p a true each [] = refl
filter_list p a false each [] = refl
filter_list p a pa each (g ∷ held) = by (is_for a g) refl (p g) refl (filter_list p a pa each held)
  where
    found : Bool → Option GatheringState → Option (List Parts)
    found t o = option_map (λ (z : GatheringState). z.held) (cond t (Some g) o)

    kept : (t : Bool) → held_list (filter p held) a ≡ cond t (held_list held a) None → t ≡ false → held_list (filter p held) a ≡ cond t (found true (find (λ z. is_for a z) held)) None
    kept true ih e = absurd (false≢true (sym e))
    kept false ih e = ih

    by : (t : Bool) → is_for a g ≡ t → (k : Bool) → p g ≡ k → held_list (filter p held) a ≡ cond pa (held_list held a) None →
        held_list (cond k (g ∷ filter p held) (filter p held)) a ≡ cond pa (found t (find (λ z. is_for a z) held)) None
    by true e true f ih = ap (λ b. found b (find (λ z. is_for a z) (filter p held))) e ∙ ap (λ b. cond b (Some g.held) None) (sym f ∙ each g e)
    by true e false f ih = kept pa ih (sym (each g e) ∙ f)
    by false e true f ih = ap (λ b. found b (find (λ z. is_for a z) (filter p held))) e ∙ ih
    by false e false f ih = ih

-- so nothing, or what was
abbrev Fewer : Option (List Parts) → Option (List Parts) → Type 0
Fewer old new = (new ≡ None) ⊎ (new ≡ old)

fewer_if : (t : Bool) (old new : Option (List Parts)) → new ≡ cond t old None → Fewer old new
fewer_if true old new e = inr e
fewer_if false old new e = inl e

fewer_both : (x y z : Option (List Parts)) → Fewer x y → Fewer y z → Fewer x z
fewer_both x y z f (inl e) = inl e
fewer_both x y z (inl e) (inr k) = inl (k ∙ e)
fewer_both x y z (inr e) (inr k) = inr (k ∙ e)

pub without_is : (held : List GatheringState) (b a : Asker) → held_list (gatherings_without held b) a ≡ cond (not (is_asker a b)) (held_list held a) None
without_is held b a = filter_list (λ g. not (is_for b g)) a (not (is_asker a b)) (λ g e. ap (λ z. not (is_asker z b)) (who_is a g.asker e)) held

without_list : (held : List GatheringState) (b a : Asker) → Fewer (held_list held a) (held_list (gatherings_without held b) a)
without_list held b a = fewer_if (not (is_asker a b)) _ _ (without_is held b a)

all_without : (askers : List Asker) (held : List GatheringState) (a : Asker) → Fewer (held_list held a) (held_list (fold gatherings_without held askers) a)
all_without [] held a = inr refl
all_without (b ∷ askers) held a = fewer_both _ _ _ (without_list held b a) (all_without askers (gatherings_without held b) a)

left_list : (held : List GatheringState) (link : LinkNo) (askers : List Asker) (a : Asker) → Fewer (held_list held a) (held_list (gatherings_left held link askers) a)
left_list held link askers a =
    fewer_both _ _ _
    (fewer_if (not (a.link.0 == link.0)) _ _ (filter_list (λ g. not (g.asker.link.0 == link.0)) a (not (a.link.0 == link.0)) (λ g e. ap (λ (z : Asker). not (z.link.0 == link.0)) (who_is a g.asker e)) held))
    (all_without askers (filter (λ g. not (g.asker.link.0 == link.0)) held) a)

-- a reply came for one
pub with_list : (held : List GatheringState) (b a : Asker) (x : Parts) → held_list (gatherings_with held b x) a ≡ option_map (λ hs. cond (is_asker a b) (held_with hs x) hs) (held_list held a)
with_list [] b a x = refl
with_list (g ∷ held) b a x = by (is_for a g) refl (is_for b g) refl (with_list held b a x)
  where
    by : (t : Bool) → is_for a g ≡ t → (k : Bool) → is_for b g ≡ k → held_list (gatherings_with held b x) a ≡ option_map (λ hs. cond (is_asker a b) (held_with hs x) hs) (held_list held a) →
        held_list (cond k (regathered (λ replies. held_with replies x) g) g ∷ gatherings_with held b x) a
        ≡ option_map (λ hs. cond (is_asker a b) (held_with hs x) hs) (option_map (λ (z : GatheringState). z.held) (cond t (Some g) (find (λ z. is_for a z) held)))
    by true e true f ih =
        ap (λ c. option_map (λ (z : GatheringState). z.held) (cond c (Some (regathered (λ replies. held_with replies x) g)) (find (λ z. is_for a z) (gatherings_with held b x)))) e
        ∙ ap (λ c. Some (cond c (held_with g.held x) g.held)) (sym f ∙ ap (λ z. is_asker z b) (who_is a g.asker e))
    by true e false f ih =
        ap (λ c. option_map (λ (z : GatheringState). z.held) (cond c (Some g) (find (λ z. is_for a z) (gatherings_with held b x)))) e
        ∙ ap (λ c. Some (cond c (held_with g.held x) g.held)) (sym f ∙ ap (λ z. is_asker z b) (who_is a g.asker e))
    by false e true f ih = ap (λ c. option_map (λ (z : GatheringState). z.held) (cond c (Some (regathered (λ replies. held_with replies x) g)) (find (λ z. is_for a z) (gatherings_with held b x)))) e ∙ ih
    by false e false f ih = ap (λ c. option_map (λ (z : GatheringState). z.held) (cond c (Some g) (find (λ z. is_for a z) (gatherings_with held b x)))) e ∙ ih

-- it has begun for one
pub begun_list : (held : List GatheringState) (b a : Asker) → held_list (gathering_begun held b) a ≡ option_map_or (λ hs. Some hs) (held_list held a) (cond (is_asker b a) (Some []) None)
begun_list [] b a = by (is_asker b a)
  where
    by : (t : Bool) → option_map (λ (z : GatheringState). z.held) (cond t (Some (record { asker = b; held = [] })) None) ≡ cond t (Some []) None
    by true = refl
    by false = refl
begun_list (g ∷ held) b a = by (is_for a g) (begun_list held b a)
  where
    by : (t : Bool) → held_list (gathering_begun held b) a ≡ option_map_or (λ hs. Some hs) (held_list held a) (cond (is_asker b a) (Some []) None) →
        option_map (λ (z : GatheringState). z.held) (cond t (Some g) (find (λ z. is_for a z) (gathering_begun held b)))
        ≡ option_map_or (λ hs. Some hs) (option_map (λ (z : GatheringState). z.held) (cond t (Some g) (find (λ z. is_for a z) held))) (cond (is_asker b a) (Some []) None)
    by true ih = refl
    by false ih = ih

-- ---- one reply more

-- what is held then was held, or it is the reply
pub in_held_with : (hs : List Parts) (x c : Parts) → In c (held_with hs x) → In c hs ⊎ (c ≡ x)
in_held_with hs x c i = by (takes_place (λ z. is_later x.body z.body) hs x) i
  where
    before : List Parts
    before = before_key (slice_cmp nat_cmp) (λ z. z.key) hs x.key

    behind : List Parts
    behind = behind_key (slice_cmp nat_cmp) (λ z. z.key) hs x.key

    last : In c (x ∷ behind) → In c hs ⊎ (c ≡ x)
    last (inl e) = inr e
    last (inr k) = inl (in_filter (λ z. is_lt (slice_cmp nat_cmp x.key z.key)) hs c k).0

    either : In c before ⊎ In c (x ∷ behind) → In c hs ⊎ (c ≡ x)
    either (inl k) = inl (in_filter (λ z. is_lt (slice_cmp nat_cmp z.key x.key)) hs c k).0
    either (inr k) = last k

    by : (t : Bool) → In c (cond t (put_reply hs x) hs) → In c hs ⊎ (c ≡ x)
    by true k = either (in_either before (x ∷ behind) c k)
    by false k = inl k

-- ---- one event

-- a client's request for the latest has begun
pub record Begun (node : NodeState) (event : Event) (a : Asker) (hs : List Parts) : Type 0 where
  pub link : LinkNo
  pub tree : Option (List ℕ)
  pub id : ℕ
  pub target : Target
  pub content : Parts
  pub came : event ≡ From link (Request tree id target content)
  pub client : leads_to_client node.links link.0 ≡ true
  pub latest : is_latest content.body ≡ true
  pub asked : a ≡ asker link.0 id
  pub none : hs ≡ []

-- a reply came for who asked
pub record Gains (node : NodeState) (event : Event) (a : Asker) (hs : List Parts) : Type 0 where
  pub link : LinkNo
  pub id : ℕ
  pub content : Parts
  pub old : List Parts
  pub came : event ≡ From link (Response id content)
  pub asked : asker_of (branch link id) node.pending ≡ Some a
  pub was : held_list node.held a ≡ Some old
  pub now : hs ≡ held_with old content

abbrev pub IsGathering : NodeState → Event → Asker → List Parts → Type 0
IsGathering node event a hs = (held_list node.held a ≡ Some hs) ⊎ (Begun node event a hs ⊎ Gains node event a hs)

module _ (node : NodeState) (a : Asker) (hs : List Parts) where
  fewer_is : (event : Event) (new : Option (List Parts)) → Fewer (held_list node.held a) new → new ≡ Some hs → IsGathering node event a hs
  fewer_is event new (inl e) k = absurd (none-some hs (sym e ∙ k))
  fewer_is event new (inr e) k = inl (sym e ∙ k)

  -- whom a reply is held for asked its row
  pub held_at_asked : (held : List GatheringState) (pending : List RowState) (from number : ℕ) (content : Parts) (b : Asker) → held_at pending held from number content ≡ Some b →
      (asker_of (branch (link_no from) number) pending ≡ Some b) × (gathers_for held b ≡ true) × (is_reply content.body ≡ true) × (has_room held content ≡ true)
  held_at_asked held pending from number content b e = at (is_reply content.body && has_room held content) refl e
    where
      gathered : (o : Option Asker) → option_and_then (λ z. cond (gathers_for held z) (Some z) None) o ≡ Some b → (o ≡ Some b) × (gathers_for held b ≡ true)
      gathered None k = absurd (none-some b k)
      gathered (Some z) k = by (gathers_for held z) refl k
        where
          by : (t : Bool) → gathers_for held z ≡ t → cond t (Some z) None ≡ Some b → (Some z ≡ Some b) × (gathers_for held b ≡ true)
          by true f j = (j, (let one : z ≡ b = cc in ap (gathers_for held) (sym one) ∙ f))
          by false f j = absurd (none-some b j)

      at : (t : Bool) → (is_reply content.body && has_room held content) ≡ t → cond t (gathers_at pending held (branch (link_no from) number)) None ≡ Some b →
          (asker_of (branch (link_no from) number) pending ≡ Some b) × (gathers_for held b ≡ true) × (is_reply content.body ≡ true) × (has_room held content ≡ true)
      at true f k = let got = gathered (asker_of (branch (link_no from) number) pending) k in let parts = and_parts (is_reply content.body) (has_room held content) f in (got.0, got.1, parts.0, parts.1)
      at false f k = absurd (none-some b k)

  request_is : (link : LinkNo) (tree : Option (List ℕ)) (id : ℕ) (target : Target) (content : Parts) → held_list (after node (From link (Request tree id target content))).held a ≡ Some hs →
      IsGathering node (From link (Request tree id target content)) a hs
  request_is link tree id target content e = by (asked_links (tables node) link.0 tree target content.key) e
    where
      begins : (o : Option (List Parts)) → held_list node.held a ≡ o → leads_to_client node.links link.0 ≡ true → is_latest content.body ≡ true → (t : Bool) → is_asker (asker link.0 id) a ≡ t →
          option_map_or (λ (z : List Parts). Some z) o (cond t (Some []) None) ≡ Some hs → IsGathering node (From link (Request tree id target content)) a hs
      begins (Some old) k c l t f j = inl (k ∙ j)
      begins None k c l true f j =
          inr (inl (record { link = link; tree = tree; id = id; target = target; content = content; came = refl; client = c; latest = l; asked = sym (who_is a (asker link.0 id) f); none = (let one : [] ≡ hs = cc in sym one) }))
      begins None k c l false f j = absurd (none-some hs j)

      latest : (t : Bool) → (leads_to_client node.links link.0 && is_latest content.body) ≡ t → held_list (cond t (gathering_begun node.held (asker link.0 id)) node.held) a ≡ Some hs →
          IsGathering node (From link (Request tree id target content)) a hs
      latest true f k =
          let parts = and_parts (leads_to_client node.links link.0) (is_latest content.body) f in
          begins (held_list node.held a) refl parts.0 parts.1 (is_asker (asker link.0 id) a) refl (sym (begun_list node.held (asker link.0 id) a) ∙ k)
      latest false f k = inl k

      by : (links : List LinkNo) → held_list (gathering_if node.held (leads_to_client node.links link.0 && is_latest content.body) (asker link.0 id) links) a ≡ Some hs →
          IsGathering node (From link (Request tree id target content)) a hs
      by [] k = inl k
      by (l ∷ links) k = latest (leads_to_client node.links link.0 && is_latest content.body) refl k

  reply_is : (link : LinkNo) (id : ℕ) (content : Parts) → held_list (after node (From link (Response id content))).held a ≡ Some hs → IsGathering node (From link (Response id content)) a hs
  reply_is link id content e = by (held_at node.pending node.held link.0 id content) refl e
    where
      gains : (b : Asker) → held_at node.pending node.held link.0 id content ≡ Some b → (o : Option (List Parts)) → held_list node.held a ≡ o → (t : Bool) → is_asker a b ≡ t →
          option_map (λ (z : List Parts). cond t (held_with z content) z) o ≡ Some hs → IsGathering node (From link (Response id content)) a hs
      gains b at None was t same k = absurd (none-some hs k)
      gains b at (Some old) was true same k = inr (inr (record {
        link = link;
        id = id;
        content = content;
        old = old;
        came = refl;
        asked = (held_at_asked node.held node.pending link.0 id content b at).0 ∙ ap (λ z. Some z) (sym (who_is b a same));
        was = was;
        now = (let one : held_with old content ≡ hs = cc in sym one);
      }))
      gains b at (Some old) was false same k = inl (was ∙ k)

      by : (o : Option Asker) → held_at node.pending node.held link.0 id content ≡ o → held_list (option_map_or (λ b. gatherings_with node.held b content) o node.held) a ≡ Some hs →
          IsGathering node (From link (Response id content)) a hs
      by None f k = inl k
      by (Some b) f k = gains b f (held_list node.held a) refl (is_asker a b) refl (sym (with_list node.held b a content) ∙ k)

  final_is : (link : LinkNo) (id : ℕ) (event : Event) (o : Option Asker) → held_list (option_map_or (λ b. gatherings_without node.held b) o node.held) a ≡ Some hs → IsGathering node event a hs
  final_is link id event None e = inl e
  final_is link id event (Some b) e = fewer_is event _ (without_list node.held b a) e

  pub gather_step : (event : Event) → held_list (after node event).held a ≡ Some hs → IsGathering node event a hs
  gather_step (Up link peer) e = inl e
  gather_step (Down link) e = fewer_is (Down link) _ (left_list node.held link (finals_of_drop (link_no link.0) node.pending) a) e
  gather_step (From link msg) e = by msg e
    where
      by : (msg : Msg) → held_list (after node (From link msg)).held a ≡ Some hs → IsGathering node (From link msg) a hs
      by (Sub id key) k = inl k
      by (Unsub id) k = inl k
      by (Token id key) k = inl k
      by (Untoken id) k = inl k
      by (Able id key complete) k = inl k
      by (Unable id) k = inl k
      by (Interest id current future kinds key aggregate) k = inl k
      by (EndInterest id) k = inl k
      by (ToldSub id key interest) k = inl k
      by (ToldToken id key interest) k = inl k
      by (ToldAble id key complete interest) k = inl k
      by (ToldUnsub id) k = inl k
      by (ToldUntoken id) k = inl k
      by (ToldUnable id) k = inl k
      by (ToldEnd interest) k = inl k
      by (Push tree content) k = inl k
      by (Request tree id target content) k = request_is link tree id target content k
      by (Response id content) k = reply_is link id content k
      by (Final id extras) k = final_is link id (From link (Final id extras)) (final_to node.pending (branch (link_no link.0) id)) k
      by (State links) k = inl k
      by (Step source number added decl) k = inl k
      by (Snap source number decls) k = inl k
