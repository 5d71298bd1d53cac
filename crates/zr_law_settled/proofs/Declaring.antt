-- What a client says of its ids, message by message, and what its router makes of it: which ids have a row of the client's link.
use Rattle.std.proofs.Common.{◌≡◌, ℕ, Bool, true, false, cond, not, List, [], ◌∷◌, ◌++◌, Some, None, is_some, refl, sym, ap, ◌∙◌}
use Rattle.std.specs.Prelude.{◌&&◌, ◌||◌, ◌==◌, filter}
use Rattle.std.specs.List.{AllByRecursion, fold, list_any, find}
use Rattle.std.specs.Ordering.{is_eq}
use Rattle.std.proofs.lemmas.Bool.{true≢false, false≢true, and_from, eqb-true, eq-eqb, ne_eqb, eqb-false}
use Rattle.std.proofs.lemmas.List.Sums.{fold-append}
use Rattle.std.proofs.lemmas.List.Folds.{list_any-append}
use Rattle.zr_id.specs.declared.link.LinkNo.{LinkNo}
use Rattle.zr_msg.specs.declared.decl.Kind.{Kind}
use Rattle.zr_msg.specs.declared.decl.Kind.TheVariants as kind
use Rattle.zr_msg.specs.declared.msg.Msg.{Msg}
use Rattle.zr_msg.specs.declared.msg.Msg.TheVariants.{Sub, Unsub, Token, Untoken, Able, Unable, Interest, EndInterest, ToldSub, ToldAble, ToldUnsub, ToldToken, ToldUntoken, ToldUnable, ToldEnd, Push, Request, Response, Final, State, Step, Snap}
use Rattle.zr_msg.specs.declared.event.Event.TheVariants.{From}
use Rattle.zr_lists.proofs.Order.{is_itself, is_same}
use Rattle.zr_lists.proofs.Puts.{at-put, at-without, All-put}
use Rattle.zr_lists.proofs.Each.{All-filter}
use Rattle.zr_local.specs.Rows.{id_kind, Key, row_key, key_cmp, row_at, declared, undeclared, left}
use Rattle.zr_local.specs.declared.row.Row.{Row}
use Rattle.zr_local.proofs.Rows.{key_order}
use Rattle.zr_node_spec.specs.Tables.{leads_to_client}
use Rattle.zr_node_spec.specs.State.{NodeState}
use Rattle.zr_node_spec.specs.Table.{row, key_of, able_kind, after}
use Rattle.zr_told_spec.specs.Place.{class_rank, class_of}
use Rattle.zr_told_spec.specs.declared.place.Class.{Class}
use Rattle.zr_told_spec.specs.declared.place.Class.TheVariants.{Subscriber, Queryable, Living}
use Rattle.zr_world_spec.specs.World.{Tagged, ClientState}
use Rattle.zr_world_spec.specs.Acts.{has_id, declaring, undeclaring}

-- ---- ids

-- a set of ids of each class: subscribers have ids of their own, and so have queryables and tokens
abbrev pub Ids : Type 0
Ids = Class → ℕ → Bool

-- rows tell the ids of one class from those of another by its rank
pub kind_rank : (k : Kind) → id_kind k ≡ class_rank (class_of k)
kind_rank kind.Sub = refl
kind_rank kind.Able = refl
kind_rank kind.Full = refl
kind_rank kind.Token = refl

-- the same but for one id
abbrev pub set_id : Ids → Class → ℕ → Bool → Ids
set_id p class id v other i = cond (class_rank class == class_rank other && id == i) v (p other i)

-- what a message says of ids
abbrev pub said : Ids → Msg → Ids
said p (Sub id key) = set_id p Subscriber id true
said p (Unsub id) = set_id p Subscriber id false
said p (Token id key) = set_id p Living id true
said p (Untoken id) = set_id p Living id false
said p (Able id key complete) = set_id p Queryable id true
said p (Unable id) = set_id p Queryable id false
said p (Interest id current future kinds key aggregate) = p
said p (EndInterest id) = p
said p (ToldSub id key interest) = p
said p (ToldToken id key interest) = p
said p (ToldAble id key complete interest) = p
said p (ToldUnsub id) = p
said p (ToldUntoken id) = p
said p (ToldUnable id) = p
said p (ToldEnd interest) = p
said p (Push tree content) = p
said p (Request tree id target content) = p
said p (Response id content) = p
said p (Final id extras) = p
said p (State links) = p
said p (Step source number added decl) = p
said p (Snap source number decls) = p

-- a message that takes back an id takes back one that is there
abbrev pub IsAsked : Ids → Msg → Type 0
IsAsked p (Sub id key) = Unit {0}
IsAsked p (Unsub id) = p Subscriber id ≡ true
IsAsked p (Token id key) = Unit {0}
IsAsked p (Untoken id) = p Living id ≡ true
IsAsked p (Able id key complete) = Unit {0}
IsAsked p (Unable id) = p Queryable id ≡ true
IsAsked p (Interest id current future kinds key aggregate) = Unit {0}
IsAsked p (EndInterest id) = Unit {0}
IsAsked p (ToldSub id key interest) = Unit {0}
IsAsked p (ToldToken id key interest) = Unit {0}
IsAsked p (ToldAble id key complete interest) = Unit {0}
IsAsked p (ToldUnsub id) = Unit {0}
IsAsked p (ToldUntoken id) = Unit {0}
IsAsked p (ToldUnable id) = Unit {0}
IsAsked p (ToldEnd interest) = Unit {0}
IsAsked p (Push tree content) = Unit {0}
IsAsked p (Request tree id target content) = Unit {0}
IsAsked p (Response id content) = Unit {0}
IsAsked p (Final id extras) = Unit {0}
IsAsked p (State links) = Unit {0}
IsAsked p (Step source number added decl) = Unit {0}
IsAsked p (Snap source number decls) = Unit {0}

-- what waiting messages say one after the other, and that each is asked rightly
abbrev pub all_said : Ids → List Tagged → Ids
all_said p ws = fold (λ q x. said q x.msg) p ws

abbrev pub AreAsked : Ids → List Tagged → Type 0
AreAsked p [] = Unit {0}
AreAsked p (x ∷ ws) = IsAsked p x.msg × AreAsked (said p x.msg) ws

pub asked_more : (ws : List Tagged) (p : Ids) (x : Tagged) → AreAsked p ws → IsAsked (all_said p ws) x.msg → AreAsked p (ws ++ x ∷ [])
asked_more [] p x h k = (k, tt)
asked_more (y ∷ ws) p x h k = (h.0, asked_more ws (said p y.msg) x h.1 k)

pub said_more : (ws : List Tagged) (p : Ids) (x : Tagged) → all_said p (ws ++ x ∷ []) ≡ said (all_said p ws) x.msg
said_more ws p x = fold-append (λ (q : Ids) (y : Tagged). said q y.msg) p ws (x ∷ [])

-- ---- a client's ids

abbrev pub class_ids : ClientState → Class → List ℕ
class_ids s Subscriber = s.subs
class_ids s Queryable = s.ables
class_ids s Living = s.tokens

abbrev pub has_ids : ClientState → Ids
has_ids s class id = list_any (λ i. i == id) (class_ids s class)

pub has_is : (s : ClientState) (k : Kind) (id : ℕ) → has_id s k id ≡ has_ids s (class_of k) id
has_is s kind.Sub id = refl
has_is s kind.Able id = refl
has_is s kind.Full id = refl
has_is s kind.Token id = refl

any_more : (ids : List ℕ) (id i : ℕ) → list_any (λ j. j == i) (ids ++ id ∷ []) ≡ cond (id == i) true (list_any (λ j. j == i) ids)
any_more ids id i = list_any-append (λ j. j == i) ids (id ∷ []) ∙ by (list_any (λ j. j == i) ids) (id == i)
  where
    by : (s t : Bool) → (s || (t || false)) ≡ cond t true s
    by true true = refl
    by true false = refl
    by false true = refl
    by false false = refl

any_less : (ids : List ℕ) (id i : ℕ) → list_any (λ j. j == i) (filter (λ j. not (j == id)) ids) ≡ cond (id == i) false (list_any (λ j. j == i) ids)
any_less [] id i = by (id == i)
  where
    by : (t : Bool) → false ≡ cond t false false
    by true = refl
    by false = refl
any_less (j ∷ ids) id i = by (j == id) refl (j == i) refl (any_less ids id i)
  where
    by : (s : Bool) → (j == id) ≡ s → (t : Bool) → (j == i) ≡ t → list_any (λ j. j == i) (filter (λ j. not (j == id)) ids) ≡ cond (id == i) false (list_any (λ j. j == i) ids) →
        list_any (λ j. j == i) (cond (not s) (j ∷ filter (λ j. not (j == id)) ids) (filter (λ j. not (j == id)) ids)) ≡ cond (id == i) false (t || list_any (λ j. j == i) ids)
    by true es false et ih = ih
    by true es true et ih =
        let one : (id == i) ≡ true = ap (λ n. n == i) (sym (eqb-true j id es)) ∙ et in
        ih ∙ ap (λ u. cond u false (list_any (λ j. j == i) ids)) one ∙ sym (ap (λ u. cond u false true) one)
    by false es true et ih =
        let other : (id == i) ≡ false = ne_eqb id i (λ e. eqb-false j id es (eqb-true j i et ∙ sym e)) in
        ap (λ u. u || list_any (λ j. j == i) (filter (λ j. not (j == id)) ids)) et ∙ sym (ap (λ u. cond u false true) other)
    by false es false et ih = ap (λ u. u || list_any (λ j. j == i) (filter (λ j. not (j == id)) ids)) et ∙ ih

-- a client that declares an id has it, and one that takes it back has it no more
pub has_declaring : (s : ClientState) (k : Kind) (id : ℕ) → has_ids (declaring s k id) ≡ set_id (has_ids s) (class_of k) id true
has_declaring s k id = λ t class i. at k class i t
  where
    at : (k : Kind) (class : Class) (i : ℕ) → has_ids (declaring s k id) class i ≡ set_id (has_ids s) (class_of k) id true class i
    at kind.Sub Subscriber i = any_more s.subs id i
    at kind.Sub Queryable i = refl
    at kind.Sub Living i = refl
    at kind.Able Subscriber i = refl
    at kind.Able Queryable i = any_more s.ables id i
    at kind.Able Living i = refl
    at kind.Full Subscriber i = refl
    at kind.Full Queryable i = any_more s.ables id i
    at kind.Full Living i = refl
    at kind.Token Subscriber i = refl
    at kind.Token Queryable i = refl
    at kind.Token Living i = any_more s.tokens id i

pub has_undeclaring : (s : ClientState) (k : Kind) (id : ℕ) → has_ids (undeclaring s k id) ≡ set_id (has_ids s) (class_of k) id false
has_undeclaring s k id = λ t class i. at k class i t
  where
    at : (k : Kind) (class : Class) (i : ℕ) → has_ids (undeclaring s k id) class i ≡ set_id (has_ids s) (class_of k) id false class i
    at kind.Sub Subscriber i = any_less s.subs id i
    at kind.Sub Queryable i = refl
    at kind.Sub Living i = refl
    at kind.Able Subscriber i = refl
    at kind.Able Queryable i = any_less s.ables id i
    at kind.Able Living i = refl
    at kind.Full Subscriber i = refl
    at kind.Full Queryable i = any_less s.ables id i
    at kind.Full Living i = refl
    at kind.Token Subscriber i = refl
    at kind.Token Queryable i = refl
    at kind.Token Living i = any_less s.tokens id i

-- ---- rows

-- which ids have a row of a link
abbrev pub has_rows : List Row → ℕ → Ids
has_rows rows link class id = is_some (row_at rows (record { link = link; kind = class_rank class; id = id }))

-- two keys are one where their parts are
same_key : (k l : Key) → is_eq (key_cmp k l) ≡ (k.link == l.link && (k.kind == l.kind && k.id == l.id))
same_key k l = by (is_eq (key_cmp k l)) refl (k.link == l.link) refl (k.kind == l.kind) refl (k.id == l.id) refl
  where
    one : is_eq (key_cmp k l) ≡ true → k ≡ l
    one e = is_same key_cmp key_order k l e

    parts : k.link ≡ l.link → k.kind ≡ l.kind → k.id ≡ l.id → is_eq (key_cmp k l) ≡ true
    parts e f g = let same : k ≡ l = λ i. record { link = e i; kind = f i; id = g i } in ap (λ q. is_eq (key_cmp q l)) same ∙ is_itself key_cmp key_order l

    by : (t : Bool) → is_eq (key_cmp k l) ≡ t → (a : Bool) → (k.link == l.link) ≡ a → (b : Bool) → (k.kind == l.kind) ≡ b → (c : Bool) → (k.id == l.id) ≡ c → t ≡ (a && (b && c))
    by true e a ea b eb c ec =
        sym (and_from a (b && c) (sym ea ∙ eq-eqb k.link l.link (ap (λ q. q.link) (one e)))
        (and_from b c (sym eb ∙ eq-eqb k.kind l.kind (ap (λ q. q.kind) (one e))) (sym ec ∙ eq-eqb k.id l.id (ap (λ q. q.id) (one e)))))
    by false e true ea true eb true ec = absurd (false≢true (sym e ∙ parts (eqb-true k.link l.link ea) (eqb-true k.kind l.kind eb) (eqb-true k.id l.id ec)))
    by false e true ea true eb false ec = refl
    by false e true ea false eb c ec = refl
    by false e false ea b eb c ec = refl

put_there : (rows : List Row) (r : Row) (k : Key) → is_some (row_at (declared rows r) k) ≡ cond (is_eq (key_cmp (row_key r) k)) true (is_some (row_at rows k))
put_there rows r k = ap is_some (at-put key_cmp row_key key_order rows r k) ∙ by (is_eq (key_cmp (row_key r) k))
  where
    by : (t : Bool) → is_some (cond t (Some r) (row_at rows k)) ≡ cond t true (is_some (row_at rows k))
    by true = refl
    by false = refl

without_there : (rows : List Row) (q k : Key) → is_some (row_at (undeclared rows q) k) ≡ cond (is_eq (key_cmp q k)) false (is_some (row_at rows k))
without_there rows q k = ap is_some (at-without key_cmp row_key key_order rows q k) ∙ by (is_eq (key_cmp q k))
  where
    by : (t : Bool) → is_some (cond t None (row_at rows k)) ≡ cond t false (is_some (row_at rows k))
    by true = refl
    by false = refl

-- a key of a link, a class and an id
abbrev key : ℕ → Class → ℕ → Key
key link class id = record { link = link; kind = class_rank class; id = id }

here_is : (link : ℕ) (s t : Class) (id i : ℕ) → is_eq (key_cmp (key link s id) (key link t i)) ≡ (class_rank s == class_rank t && id == i)
here_is link s t id i = same_key (key link s id) (key link t i) ∙ ap (λ a. a && (class_rank s == class_rank t && id == i)) (eq-eqb link link refl)

there_is : (link number : ℕ) (s t : Class) (id i : ℕ) → (link ≡ number → ⊥) → is_eq (key_cmp (key link s id) (key number t i)) ≡ false
there_is link number s t id i apart = same_key (key link s id) (key number t i) ∙ ap (λ a. a && (class_rank s == class_rank t && id == i)) (ne_eqb link number apart)

-- where a key of the link is put in or left out
set_there : (rows : List Row) (link : ℕ) (s : Class) (id : ℕ) (v : Bool) (t : Class) (i : ℕ) →
    cond (is_eq (key_cmp (key link s id) (key link t i))) v (has_rows rows link t i) ≡ set_id (has_rows rows link) s id v t i
set_there rows link s id v t i = ap (λ b. cond b v (has_rows rows link t i)) (here_is link s t id i)

-- ---- a router handles what a client says

module _ (n : NodeState) (link : LinkNo) where
  declared_here : (r : Row) (s : Class) (id : ℕ) → row_key r ≡ key link.0 s id → has_rows (declared n.rows r) link.0 ≡ set_id (has_rows n.rows link.0) s id true
  declared_here r s id is = λ u t i. (put_there n.rows r (key link.0 t i) ∙ ap (λ q. cond (is_eq (key_cmp q (key link.0 t i))) true (has_rows n.rows link.0 t i)) is ∙ set_there n.rows link.0 s id true t i) u

  undeclared_here : (s : Class) (id : ℕ) → has_rows (undeclared n.rows (key link.0 s id)) link.0 ≡ set_id (has_rows n.rows link.0) s id false
  undeclared_here s id = λ u t i. (without_there n.rows (key link.0 s id) (key link.0 t i) ∙ set_there n.rows link.0 s id false t i) u

  declared_there : (number : ℕ) → (link.0 ≡ number → ⊥) → (r : Row) (s : Class) (id : ℕ) → row_key r ≡ key link.0 s id → has_rows (declared n.rows r) number ≡ has_rows n.rows number
  declared_there number apart r s id is = λ u t i. (put_there n.rows r (key number t i)
      ∙ ap (λ q. cond (is_eq (key_cmp q (key number t i))) true (has_rows n.rows number t i)) is ∙ ap (λ b. cond b true (has_rows n.rows number t i)) (there_is link.0 number s t id i apart)) u

  undeclared_there : (number : ℕ) → (link.0 ≡ number → ⊥) → (s : Class) (id : ℕ) → has_rows (undeclared n.rows (key link.0 s id)) number ≡ has_rows n.rows number
  undeclared_there number apart s id = λ u t i. (without_there n.rows (key link.0 s id) (key number t i) ∙ ap (λ b. cond b false (has_rows n.rows number t i)) (there_is link.0 number s t id i apart)) u

  able_key : (id : ℕ) (complete : Bool) (k : List ℕ) → row_key (row link.0 id (able_kind complete) k) ≡ key link.0 Queryable id
  able_key id true k = refl
  able_key id false k = refl

  -- a client's message does to the ids of its link what it says
  pub heard_here : leads_to_client n.links link.0 ≡ true → (msg : Msg) → has_rows (after n (From link msg)).rows link.0 ≡ said (has_rows n.rows link.0) msg
  heard_here client (Sub id k) = ap (λ t. has_rows (cond t (declared n.rows (row link.0 id kind.Sub k)) n.rows) link.0) client ∙ declared_here (row link.0 id kind.Sub k) Subscriber id refl
  heard_here client (Unsub id) = ap (λ t. has_rows (cond t (undeclared n.rows (key_of link.0 id kind.Sub)) n.rows) link.0) client ∙ undeclared_here Subscriber id
  heard_here client (Token id k) = ap (λ t. has_rows (cond t (declared n.rows (row link.0 id kind.Token k)) n.rows) link.0) client ∙ declared_here (row link.0 id kind.Token k) Living id refl
  heard_here client (Untoken id) = ap (λ t. has_rows (cond t (undeclared n.rows (key_of link.0 id kind.Token)) n.rows) link.0) client ∙ undeclared_here Living id
  heard_here client (Able id k complete) = ap (λ t. has_rows (cond t (declared n.rows (row link.0 id (able_kind complete) k)) n.rows) link.0) client ∙ declared_here (row link.0 id (able_kind complete) k) Queryable id (able_key id complete k)
  heard_here client (Unable id) = ap (λ t. has_rows (cond t (undeclared n.rows (key_of link.0 id kind.Able)) n.rows) link.0) client ∙ undeclared_here Queryable id
  heard_here client (Interest id current future kinds key aggregate) = refl
  heard_here client (EndInterest id) = refl
  heard_here client (ToldSub id key interest) = refl
  heard_here client (ToldToken id key interest) = refl
  heard_here client (ToldAble id key complete interest) = refl
  heard_here client (ToldUnsub id) = refl
  heard_here client (ToldUntoken id) = refl
  heard_here client (ToldUnable id) = refl
  heard_here client (ToldEnd interest) = refl
  heard_here client (Push tree content) = refl
  heard_here client (Request tree id target content) = refl
  heard_here client (Response id content) = refl
  heard_here client (Final id extras) = refl
  heard_here client (State links) = refl
  heard_here client (Step source number added decl) = refl
  heard_here client (Snap source number decls) = refl

  -- and leaves those of other links
  apart_if : (number : ℕ) (rows : List Row) → has_rows rows number ≡ has_rows n.rows number → (t : Bool) → has_rows (cond t rows n.rows) number ≡ has_rows n.rows number
  apart_if number rows e true = e
  apart_if number rows e false = refl

  pub heard_there : (number : ℕ) → (link.0 ≡ number → ⊥) → (msg : Msg) → has_rows (after n (From link msg)).rows number ≡ has_rows n.rows number
  heard_there number apart (Sub id k) = apart_if number (declared n.rows (row link.0 id kind.Sub k)) (declared_there number apart (row link.0 id kind.Sub k) Subscriber id refl) (leads_to_client n.links link.0)
  heard_there number apart (Unsub id) = apart_if number (undeclared n.rows (key_of link.0 id kind.Sub)) (undeclared_there number apart Subscriber id) (leads_to_client n.links link.0)
  heard_there number apart (Token id k) = apart_if number (declared n.rows (row link.0 id kind.Token k)) (declared_there number apart (row link.0 id kind.Token k) Living id refl) (leads_to_client n.links link.0)
  heard_there number apart (Untoken id) = apart_if number (undeclared n.rows (key_of link.0 id kind.Token)) (undeclared_there number apart Living id) (leads_to_client n.links link.0)
  heard_there number apart (Able id k complete) = apart_if number (declared n.rows (row link.0 id (able_kind complete) k)) (declared_there number apart (row link.0 id (able_kind complete) k) Queryable id (able_key id complete k)) (leads_to_client n.links link.0)
  heard_there number apart (Unable id) = apart_if number (undeclared n.rows (key_of link.0 id kind.Able)) (undeclared_there number apart Queryable id) (leads_to_client n.links link.0)
  heard_there number apart (Interest id current future kinds key aggregate) = refl
  heard_there number apart (EndInterest id) = refl
  heard_there number apart (ToldSub id key interest) = refl
  heard_there number apart (ToldToken id key interest) = refl
  heard_there number apart (ToldAble id key complete interest) = refl
  heard_there number apart (ToldUnsub id) = refl
  heard_there number apart (ToldUntoken id) = refl
  heard_there number apart (ToldUnable id) = refl
  heard_there number apart (ToldEnd interest) = refl
  heard_there number apart (Push tree content) = refl
  heard_there number apart (Request tree id target content) = refl
  heard_there number apart (Response id content) = refl
  heard_there number apart (Final id extras) = refl
  heard_there number apart (State links) = refl
  heard_there number apart (Step source number' added decl) = refl
  heard_there number apart (Snap source number' decls) = refl

  -- each row is of a link that passes a test, where the link of the message does if it is a client's
  module _ (test : ℕ → Bool) (leads : leads_to_client n.links link.0 ≡ true → test link.0 ≡ true) (rows : AllByRecursion (λ q. test q.link.0 ≡ true) n.rows) where
    pass_if : (more : List Row) → (leads_to_client n.links link.0 ≡ true → AllByRecursion (λ q. test q.link.0 ≡ true) more) → (t : Bool) → leads_to_client n.links link.0 ≡ t → AllByRecursion (λ q. test q.link.0 ≡ true) (cond t more n.rows)
    pass_if more h true e = h e
    pass_if more h false e = rows

    put_passes : (r : Row) → r.link.0 ≡ link.0 → leads_to_client n.links link.0 ≡ true → AllByRecursion (λ q. test q.link.0 ≡ true) (declared n.rows r)
    put_passes r is client = All-put key_cmp row_key key_order (λ q. test q.link.0 ≡ true) n.rows r rows (ap test is ∙ leads client)

    without_passes : (k : Key) → AllByRecursion (λ q. test q.link.0 ≡ true) (undeclared n.rows k)
    without_passes k = All-filter (λ q. not (is_eq (key_cmp (row_key q) k))) (λ q. test q.link.0 ≡ true) n.rows rows

    pub rows_pass : (msg : Msg) → AllByRecursion (λ q. test q.link.0 ≡ true) (after n (From link msg)).rows
    rows_pass (Sub id k) = pass_if (declared n.rows (row link.0 id kind.Sub k)) (put_passes (row link.0 id kind.Sub k) refl) (leads_to_client n.links link.0) refl
    rows_pass (Unsub id) = pass_if (undeclared n.rows (key_of link.0 id kind.Sub)) (λ e. without_passes (key_of link.0 id kind.Sub)) (leads_to_client n.links link.0) refl
    rows_pass (Token id k) = pass_if (declared n.rows (row link.0 id kind.Token k)) (put_passes (row link.0 id kind.Token k) refl) (leads_to_client n.links link.0) refl
    rows_pass (Untoken id) = pass_if (undeclared n.rows (key_of link.0 id kind.Token)) (λ e. without_passes (key_of link.0 id kind.Token)) (leads_to_client n.links link.0) refl
    rows_pass (Able id k complete) = pass_if (declared n.rows (row link.0 id (able_kind complete) k)) (put_passes (row link.0 id (able_kind complete) k) refl) (leads_to_client n.links link.0) refl
    rows_pass (Unable id) = pass_if (undeclared n.rows (key_of link.0 id kind.Able)) (λ e. without_passes (key_of link.0 id kind.Able)) (leads_to_client n.links link.0) refl
    rows_pass (Interest id current future kinds key aggregate) = rows
    rows_pass (EndInterest id) = rows
    rows_pass (ToldSub id key interest) = rows
    rows_pass (ToldToken id key interest) = rows
    rows_pass (ToldAble id key complete interest) = rows
    rows_pass (ToldUnsub id) = rows
    rows_pass (ToldUntoken id) = rows
    rows_pass (ToldUnable id) = rows
    rows_pass (ToldEnd interest) = rows
    rows_pass (Push tree content) = rows
    rows_pass (Request tree id target content) = rows
    rows_pass (Response id content) = rows
    rows_pass (Final id extras) = rows
    rows_pass (State links) = rows
    rows_pass (Step source number added decl) = rows
    rows_pass (Snap source number decls) = rows

-- ---- a client leaves

-- the rows of other links stay
pub left_there : (rows : List Row) (link number : ℕ) → (link ≡ number → ⊥) → has_rows (left rows link) number ≡ has_rows rows number
left_there rows link number apart = λ u t i. at rows t i u
  where
    at : (rows : List Row) (t : Class) (i : ℕ) → has_rows (left rows link) number t i ≡ has_rows rows number t i
    at [] t i = refl
    at (r ∷ rows) t i = by (r.link.0 == link) refl (is_eq (key_cmp (row_key r) (key number t i))) refl (at rows t i)
      where
        by : (s : Bool) → (r.link.0 == link) ≡ s → (e : Bool) → is_eq (key_cmp (row_key r) (key number t i)) ≡ e → has_rows (left rows link) number t i ≡ has_rows rows number t i →
            is_some (find (λ q. is_eq (key_cmp (row_key q) (key number t i))) (cond (not s) (r ∷ left rows link) (left rows link))) ≡ is_some (cond e (Some r) (row_at rows (key number t i)))
        by true es false ee ih = ih
        by true es true ee ih = absurd (apart (sym (eqb-true r.link.0 link es) ∙ ap (λ q. q.link) (is_same key_cmp key_order (row_key r) (key number t i) ee)))
        by false es true ee ih = ap (λ b. is_some (cond b (Some r) (row_at (left rows link) (key number t i)))) ee
        by false es false ee ih = ap (λ b. is_some (cond b (Some r) (row_at (left rows link) (key number t i)))) ee ∙ ih

-- where no row is of a link, none of its ids has one
pub none_there : (rows : List Row) (test : ℕ → Bool) (link : ℕ) → AllByRecursion (λ q. test q.link.0 ≡ true) rows → test link ≡ false → has_rows rows link ≡ (λ t i. false)
none_there rows test link all none = λ u t i. at rows all t i u
  where
    at : (rows : List Row) → AllByRecursion (λ q. test q.link.0 ≡ true) rows → (t : Class) (i : ℕ) → has_rows rows link t i ≡ false
    at [] all t i = refl
    at (r ∷ rows) all t i = by (is_eq (key_cmp (row_key r) (key link t i))) refl (at rows all.1 t i)
      where
        by : (e : Bool) → is_eq (key_cmp (row_key r) (key link t i)) ≡ e → has_rows rows link t i ≡ false → is_some (cond e (Some r) (row_at rows (key link t i))) ≡ false
        by false ee ih = ih
        by true ee ih = absurd (true≢false (sym all.0 ∙ ap (λ q. test q.link) (is_same key_cmp key_order (row_key r) (key link t i) ee) ∙ none))
