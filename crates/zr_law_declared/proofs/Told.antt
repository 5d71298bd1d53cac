-- What a client's messages say of one id of it, and what its router makes of them: the declaration in the row of the client's link and the id.
use Rattle.std.proofs.Common.{◌≡◌, ℕ, Bool, true, false, cond, not, List, [], ◌∷◌, ◌++◌, Option, Some, None, is_some, refl, sym, ap, ◌∙◌}
use Rattle.std.specs.Prelude.{◌&&◌, ◌==◌}
use Rattle.std.specs.List.{AllByRecursion, fold, find, list_all}
use Rattle.std.specs.Option.{option_map}
use Rattle.std.specs.Ordering.{is_eq}
use Rattle.std.proofs.lemmas.Bool.{false≢true, and_from, and_parts, eqb-true, eq-eqb}
use Rattle.std.proofs.lemmas.List.Sums.{fold-append}
use Rattle.zr_id.specs.declared.link.LinkNo.{LinkNo}
use Rattle.zr_lists.proofs.Finds.{find_in}
use Rattle.zr_msg.specs.declared.decl.Decl.{Decl}
use Rattle.zr_msg.specs.declared.decl.Kind.{Kind}
use Rattle.zr_msg.specs.declared.decl.Kind.TheVariants as k
use Rattle.zr_msg.specs.declared.msg.Msg.{Msg}
use Rattle.zr_msg.specs.declared.msg.Msg.TheVariants.{Sub, Unsub, Token, Untoken, Able, Unable, Interest, EndInterest, ToldSub, ToldAble, ToldUnsub, ToldToken, ToldUntoken, ToldUnable, ToldEnd, Push, Request, Response, Final, State, Step, Snap}
use Rattle.zr_msg.specs.declared.event.Event.TheVariants.{From}
use Rattle.zr_lists.proofs.Order.{is_itself, is_same}
use Rattle.zr_lists.proofs.Puts.{at-put, at-without}
use Rattle.zr_lists.proofs.Options.{not_there}
use Rattle.zr_local.specs.Rows.{id_kind, Key, row_key, key_cmp, row_at, declared, undeclared, left}
use Rattle.zr_local.specs.declared.row.Row.{Row}
use Rattle.zr_local.proofs.Rows.{key_order}
use Rattle.zr_node_spec.specs.Tables.{leads_to_client}
use Rattle.zr_node_spec.specs.State.{NodeState}
use Rattle.zr_node_spec.specs.Table.{row, key_of, able_kind, after}
use Rattle.zr_told_spec.specs.Place.{class_of}
use Rattle.zr_told_spec.specs.declared.place.Class.TheVariants.{Subscriber, Queryable, Living}
use Rattle.zr_world_spec.specs.World.{Tagged, unsettles, is_calm}
use Rattle.zr_law_settled.proofs.Declaring.{kind_rank, none_there}
use Rattle.zr_law_declared.specs.Declared.{is_same_id}
use Rattle.zr_law_declared.specs.Rows.{row_of}

-- ---- what is said

-- what stands under an id once a message was heard
abbrev pub told : Kind → ℕ → Option Decl → Msg → Option Decl
told kind id so_far (Sub i key) = cond (is_same_id kind id Subscriber i) (Some (record { kind = k.Sub; key = key })) so_far
told kind id so_far (Unsub i) = cond (is_same_id kind id Subscriber i) None so_far
told kind id so_far (Token i key) = cond (is_same_id kind id Living i) (Some (record { kind = k.Token; key = key })) so_far
told kind id so_far (Untoken i) = cond (is_same_id kind id Living i) None so_far
told kind id so_far (Able i key complete) = cond (is_same_id kind id Queryable i) (Some (record { kind = able_kind complete; key = key })) so_far
told kind id so_far (Unable i) = cond (is_same_id kind id Queryable i) None so_far
told kind id so_far (Interest i current future kinds key aggregate) = so_far
told kind id so_far (EndInterest i) = so_far
told kind id so_far (ToldSub i key interest) = so_far
told kind id so_far (ToldToken i key interest) = so_far
told kind id so_far (ToldAble i key complete interest) = so_far
told kind id so_far (ToldUnsub i) = so_far
told kind id so_far (ToldUntoken i) = so_far
told kind id so_far (ToldUnable i) = so_far
told kind id so_far (ToldEnd interest) = so_far
told kind id so_far (Push tree content) = so_far
told kind id so_far (Request tree i target content) = so_far
told kind id so_far (Response i content) = so_far
told kind id so_far (Final i extras) = so_far
told kind id so_far (State links) = so_far
told kind id so_far (Step source number added decl) = so_far
told kind id so_far (Snap source number decls) = so_far

abbrev pub all_told : Kind → ℕ → Option Decl → List Tagged → Option Decl
all_told kind id so_far ws = fold (λ q x. told kind id q x.msg) so_far ws

pub told_more : (kind : Kind) (id : ℕ) (so_far : Option Decl) (ws : List Tagged) (x : Tagged) → all_told kind id so_far (ws ++ x ∷ []) ≡ told kind id (all_told kind id so_far ws) x.msg
told_more kind id so_far ws x = fold-append (λ (q : Option Decl) (y : Tagged). told kind id q y.msg) so_far ws (x ∷ [])

-- what may be under way where a world is settled says nothing of ids
calm_told : (kind : Kind) (id : ℕ) (so_far : Option Decl) (msg : Msg) → not (unsettles msg) ≡ true → told kind id so_far msg ≡ so_far
calm_told kind id so_far (Sub i key) h = absurd (false≢true h)
calm_told kind id so_far (Unsub i) h = absurd (false≢true h)
calm_told kind id so_far (Token i key) h = absurd (false≢true h)
calm_told kind id so_far (Untoken i) h = absurd (false≢true h)
calm_told kind id so_far (Able i key complete) h = absurd (false≢true h)
calm_told kind id so_far (Unable i) h = absurd (false≢true h)
calm_told kind id so_far (Interest i current future kinds key aggregate) h = refl
calm_told kind id so_far (EndInterest i) h = refl
calm_told kind id so_far (ToldSub i key interest) h = refl
calm_told kind id so_far (ToldToken i key interest) h = refl
calm_told kind id so_far (ToldAble i key complete interest) h = refl
calm_told kind id so_far (ToldUnsub i) h = refl
calm_told kind id so_far (ToldUntoken i) h = refl
calm_told kind id so_far (ToldUnable i) h = refl
calm_told kind id so_far (ToldEnd interest) h = refl
calm_told kind id so_far (Push tree content) h = refl
calm_told kind id so_far (Request tree i target content) h = refl
calm_told kind id so_far (Response i content) h = refl
calm_told kind id so_far (Final i extras) h = refl
calm_told kind id so_far (State links) h = refl
calm_told kind id so_far (Step source number added decl) h = refl
calm_told kind id so_far (Snap source number decls) h = refl

pub calm_all_told : (kind : Kind) (id : ℕ) (so_far : Option Decl) (ws : List Tagged) → list_all is_calm ws ≡ true → all_told kind id so_far ws ≡ so_far
calm_all_told kind id so_far [] h = refl
calm_all_told kind id so_far (x ∷ ws) h =
    let parts = and_parts (is_calm x) (list_all is_calm ws) h in
    ap (λ q. all_told kind id q ws) (calm_told kind id so_far x.msg parts.0) ∙ calm_all_told kind id so_far ws parts.1

-- ---- rows

-- what is declared in the row of a link and an id
abbrev pub decl_at : List Row → ℕ → Kind → ℕ → Option Decl
decl_at rows link kind id = option_map (λ q. q.decl) (row_at rows (key_of link id kind))

decl_cond : (b : Bool) (o p : Option Row) → option_map (λ (q : Row). q.decl) (cond b o p) ≡ cond b (option_map (λ (q : Row). q.decl) o) (option_map (λ (q : Row). q.decl) p)
decl_cond true o p = refl
decl_cond false o p = refl

-- the row is that of its declaration
pub row_is : (rows : List Row) (link : LinkNo) (kind : Kind) (id : ℕ) → row_at rows (key_of link.0 id kind) ≡ row_of link id (decl_at rows link.0 kind id)
row_is rows link kind id = by (row_at rows (key_of link.0 id kind)) refl
  where
    by : (o : Option Row) → row_at rows (key_of link.0 id kind) ≡ o → o ≡ row_of link id (option_map (λ q. q.decl) o)
    by None e = refl
    by (Some q) e =
        let same : row_key q ≡ key_of link.0 id kind = is_same key_cmp key_order (row_key q) (key_of link.0 id kind) (find_in (λ x. is_eq (key_cmp (row_key x) (key_of link.0 id kind))) rows q e).1 in
        λ i. Some (record { link = record { 0 = (same i).link }; id = (same i).id; decl = q.decl })

-- two keys of a link are one where their ids are
key_is : (link : ℕ) (other : Kind) (i : ℕ) (kind : Kind) (id : ℕ) → is_eq (key_cmp (key_of link i other) (key_of link id kind)) ≡ is_same_id kind id (class_of other) i
key_is link other i kind id = by (is_eq (key_cmp (key_of link i other) (key_of link id kind))) refl (id_kind other == id_kind kind) refl (i == id) refl ∙ (λ t. (kind_rank other t == kind_rank kind t) && i == id)
  where
    one : is_eq (key_cmp (key_of link i other) (key_of link id kind)) ≡ true → key_of link i other ≡ key_of link id kind
    one e = is_same key_cmp key_order (key_of link i other) (key_of link id kind) e

    parts : id_kind other ≡ id_kind kind → i ≡ id → is_eq (key_cmp (key_of link i other) (key_of link id kind)) ≡ true
    parts f g = let same : key_of link i other ≡ key_of link id kind = λ j. record { link = link; kind = f j; id = g j } in
        ap (λ q. is_eq (key_cmp q (key_of link id kind))) same ∙ is_itself key_cmp key_order (key_of link id kind)

    by : (t : Bool) → is_eq (key_cmp (key_of link i other) (key_of link id kind)) ≡ t → (b : Bool) → (id_kind other == id_kind kind) ≡ b → (c : Bool) → (i == id) ≡ c → t ≡ (b && c)
    by true e b eb c ec = sym (and_from b c (sym eb ∙ eq-eqb (id_kind other) (id_kind kind) (ap (λ q. q.kind) (one e))) (sym ec ∙ eq-eqb i id (ap (λ q. q.id) (one e))))
    by false e true eb true ec = absurd (false≢true (sym e ∙ parts (eqb-true (id_kind other) (id_kind kind) eb) (eqb-true i id ec)))
    by false e true eb false ec = refl
    by false e false eb c ec = refl

-- two keys of two links are two
key_apart : (link number : ℕ) → (link ≡ number → ⊥) → (q : Key) → q.link ≡ link → (kind : Kind) (id : ℕ) → is_eq (key_cmp q (key_of number id kind)) ≡ false
key_apart link number apart q of_link kind id = by (is_eq (key_cmp q (key_of number id kind))) refl
  where
    by : (t : Bool) → is_eq (key_cmp q (key_of number id kind)) ≡ t → t ≡ false
    by false e = refl
    by true e = absurd (apart (sym of_link ∙ ap (λ z. z.link) (is_same key_cmp key_order q (key_of number id kind) e)))

-- ---- a router hears a client's message

module _ (rows : List Row) (link : ℕ) (kind : Kind) (id : ℕ) where
  put_here : (i : ℕ) (other : Kind) (key : List ℕ) →
      decl_at (declared rows (row link i other key)) link kind id ≡ cond (is_same_id kind id (class_of other) i) (Some (record { kind = other; key = key })) (decl_at rows link kind id)
  put_here i other key =
      ap (option_map (λ q. q.decl)) (at-put key_cmp row_key key_order rows (row link i other key) (key_of link id kind)
      ∙ ap (λ b. cond b (Some (row link i other key)) (row_at rows (key_of link id kind))) (key_is link other i kind id))
      ∙ decl_cond (is_same_id kind id (class_of other) i) (Some (row link i other key)) (row_at rows (key_of link id kind))

  without_here : (i : ℕ) (other : Kind) → decl_at (undeclared rows (key_of link i other)) link kind id ≡ cond (is_same_id kind id (class_of other) i) None (decl_at rows link kind id)
  without_here i other =
      ap (option_map (λ q. q.decl)) (at-without key_cmp row_key key_order rows (key_of link i other) (key_of link id kind)
      ∙ ap (λ b. cond b None (row_at rows (key_of link id kind))) (key_is link other i kind id))
      ∙ decl_cond (is_same_id kind id (class_of other) i) None (row_at rows (key_of link id kind))

  -- rows of other links
  module _ (from : ℕ) (apart : from ≡ link → ⊥) where
    put_there : (r : Row) → r.link.0 ≡ from → decl_at (declared rows r) link kind id ≡ decl_at rows link kind id
    put_there r is = ap (option_map (λ q. q.decl)) (at-put key_cmp row_key key_order rows r (key_of link id kind)
        ∙ ap (λ b. cond b (Some r) (row_at rows (key_of link id kind))) (key_apart from link apart (row_key r) is kind id))

    without_there : (q : Key) → q.link ≡ from → decl_at (undeclared rows q) link kind id ≡ decl_at rows link kind id
    without_there q is = ap (option_map (λ q. q.decl)) (at-without key_cmp row_key key_order rows q (key_of link id kind)
        ∙ ap (λ b. cond b None (row_at rows (key_of link id kind))) (key_apart from link apart q is kind id))

  -- a queryable has the same ids, complete or not
  able_is : (i : ℕ) (complete : Bool) → is_same_id kind id (class_of (able_kind complete)) i ≡ is_same_id kind id Queryable i
  able_is i true = refl
  able_is i false = refl

module _ (n : NodeState) (from : LinkNo) (kind : Kind) (id : ℕ) where
  -- a client's message does what it says
  pub heard_here : leads_to_client n.links from.0 ≡ true → (msg : Msg) → decl_at (after n (From from msg)).rows from.0 kind id ≡ told kind id (decl_at n.rows from.0 kind id) msg
  heard_here client (Sub i key) = ap (λ t. decl_at (cond t (declared n.rows (row from.0 i k.Sub key)) n.rows) from.0 kind id) client ∙ put_here n.rows from.0 kind id i k.Sub key
  heard_here client (Unsub i) = ap (λ t. decl_at (cond t (undeclared n.rows (key_of from.0 i k.Sub)) n.rows) from.0 kind id) client ∙ without_here n.rows from.0 kind id i k.Sub
  heard_here client (Token i key) = ap (λ t. decl_at (cond t (declared n.rows (row from.0 i k.Token key)) n.rows) from.0 kind id) client ∙ put_here n.rows from.0 kind id i k.Token key
  heard_here client (Untoken i) = ap (λ t. decl_at (cond t (undeclared n.rows (key_of from.0 i k.Token)) n.rows) from.0 kind id) client ∙ without_here n.rows from.0 kind id i k.Token
  heard_here client (Able i key complete) =
      ap (λ t. decl_at (cond t (declared n.rows (row from.0 i (able_kind complete) key)) n.rows) from.0 kind id) client ∙ put_here n.rows from.0 kind id i (able_kind complete) key
      ∙ ap (λ b. cond b (Some (record { kind = able_kind complete; key = key })) (decl_at n.rows from.0 kind id)) (able_is n.rows from.0 kind id i complete)
  heard_here client (Unable i) = ap (λ t. decl_at (cond t (undeclared n.rows (key_of from.0 i k.Able)) n.rows) from.0 kind id) client ∙ without_here n.rows from.0 kind id i k.Able
  heard_here client (Interest i current future kinds key aggregate) = refl
  heard_here client (EndInterest i) = refl
  heard_here client (ToldSub i key interest) = refl
  heard_here client (ToldToken i key interest) = refl
  heard_here client (ToldAble i key complete interest) = refl
  heard_here client (ToldUnsub i) = refl
  heard_here client (ToldUntoken i) = refl
  heard_here client (ToldUnable i) = refl
  heard_here client (ToldEnd interest) = refl
  heard_here client (Push tree content) = refl
  heard_here client (Request tree i target content) = refl
  heard_here client (Response i content) = refl
  heard_here client (Final i extras) = refl
  heard_here client (State links) = refl
  heard_here client (Step source number added decl) = refl
  heard_here client (Snap source number decls) = refl

  -- and nothing to the rows of other links
  module _ (link : ℕ) (apart : from.0 ≡ link → ⊥) where
    if_client : (rows : List Row) → decl_at rows link kind id ≡ decl_at n.rows link kind id → (t : Bool) → decl_at (cond t rows n.rows) link kind id ≡ decl_at n.rows link kind id
    if_client rows e true = e
    if_client rows e false = refl

    pub heard_there : (msg : Msg) → decl_at (after n (From from msg)).rows link kind id ≡ decl_at n.rows link kind id
    heard_there (Sub i key) = if_client (declared n.rows (row from.0 i k.Sub key)) (put_there n.rows link kind id from.0 apart (row from.0 i k.Sub key) refl) (leads_to_client n.links from.0)
    heard_there (Unsub i) = if_client (undeclared n.rows (key_of from.0 i k.Sub)) (without_there n.rows link kind id from.0 apart (key_of from.0 i k.Sub) refl) (leads_to_client n.links from.0)
    heard_there (Token i key) = if_client (declared n.rows (row from.0 i k.Token key)) (put_there n.rows link kind id from.0 apart (row from.0 i k.Token key) refl) (leads_to_client n.links from.0)
    heard_there (Untoken i) = if_client (undeclared n.rows (key_of from.0 i k.Token)) (without_there n.rows link kind id from.0 apart (key_of from.0 i k.Token) refl) (leads_to_client n.links from.0)
    heard_there (Able i key complete) =
        if_client (declared n.rows (row from.0 i (able_kind complete) key)) (put_there n.rows link kind id from.0 apart (row from.0 i (able_kind complete) key) refl) (leads_to_client n.links from.0)
    heard_there (Unable i) = if_client (undeclared n.rows (key_of from.0 i k.Able)) (without_there n.rows link kind id from.0 apart (key_of from.0 i k.Able) refl) (leads_to_client n.links from.0)
    heard_there (Interest i current future kinds key aggregate) = refl
    heard_there (EndInterest i) = refl
    heard_there (ToldSub i key interest) = refl
    heard_there (ToldToken i key interest) = refl
    heard_there (ToldAble i key complete interest) = refl
    heard_there (ToldUnsub i) = refl
    heard_there (ToldUntoken i) = refl
    heard_there (ToldUnable i) = refl
    heard_there (ToldEnd interest) = refl
    heard_there (Push tree content) = refl
    heard_there (Request tree i target content) = refl
    heard_there (Response i content) = refl
    heard_there (Final i extras) = refl
    heard_there (State links) = refl
    heard_there (Step source number added decl) = refl
    heard_there (Snap source number decls) = refl

-- ---- a client leaves

-- the rows of other links stay
pub left_there : (rows : List Row) (from link : ℕ) → (from ≡ link → ⊥) → (kind : Kind) (id : ℕ) → decl_at (left rows from) link kind id ≡ decl_at rows link kind id
left_there [] from link apart kind id = refl
left_there (r ∷ rows) from link apart kind id = by (r.link.0 == from) refl (is_eq (key_cmp (row_key r) (key_of link id kind))) refl (left_there rows from link apart kind id)
  where
    by : (s : Bool) → (r.link.0 == from) ≡ s → (e : Bool) → is_eq (key_cmp (row_key r) (key_of link id kind)) ≡ e → decl_at (left rows from) link kind id ≡ decl_at rows link kind id →
        option_map (λ (q : Row). q.decl) (find (λ q. is_eq (key_cmp (row_key q) (key_of link id kind))) (cond (not s) (r ∷ left rows from) (left rows from)))
        ≡ option_map (λ (q : Row). q.decl) (cond e (Some r) (row_at rows (key_of link id kind)))
    by true es false ee ih = ih
    by true es true ee ih = absurd (apart (sym (eqb-true r.link.0 from es) ∙ ap (λ q. q.link) (is_same key_cmp key_order (row_key r) (key_of link id kind) ee)))
    by false es true ee ih = ap (λ b. option_map (λ (q : Row). q.decl) (cond b (Some r) (row_at (left rows from) (key_of link id kind)))) ee
    by false es false ee ih = ap (λ b. option_map (λ (q : Row). q.decl) (cond b (Some r) (row_at (left rows from) (key_of link id kind)))) ee ∙ ih

-- a link that no row is of has nothing
pub none_at : (rows : List Row) (test : ℕ → Bool) (link : ℕ) → AllByRecursion (λ q. test q.link.0 ≡ true) rows → test link ≡ false → (kind : Kind) (id : ℕ) → decl_at rows link kind id ≡ None
none_at rows test link all none kind id = ap (option_map (λ q. q.decl)) (not_there (row_at rows (key_of link id kind))
    (ap (λ n. is_some (row_at rows (record { link = link; kind = n; id = id }))) (kind_rank kind) ∙ ap (λ p. p (class_of kind) id) (none_there rows test link all none)))
