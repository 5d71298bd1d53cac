-- What takes a sample or a query, wherever it stands: in what a client has declared, among the rows of its router, and in the set that all routers
-- know of them.
use Rattle.std.proofs.Common.{◌≡◌, ℕ, Bool, true, false, cond, List, [], ◌∷◌, Option, Some, None, Less, inl, inr, refl, sym, ap, ◌∙◌}
use Rattle.std.specs.Prelude.{◌==◌, ◌&&◌, is_some}
use Rattle.std.specs.List.{find, list_any}
use Rattle.std.specs.List.Sorted.{IsStrictlySortedBy}
use Rattle.std.specs.Option.{option_map}
use Rattle.std.specs.Ordering.{is_eq}
use Rattle.std.proofs.lemmas.Bool.{false≢true, and_parts, and_from, eq-eqb, eqb-true}
use Rattle.zr_id.specs.declared.link.LinkNo.{LinkNo}
use Rattle.zr_match.specs.Table.{texts_meet, texts_cover}
use Rattle.zr_msg.specs.Decl.{decl_cmp}
use Rattle.zr_msg.specs.declared.decl.Decl.{Decl}
use Rattle.zr_msg.specs.declared.decl.Kind.{Kind}
use Rattle.zr_msg.specs.declared.decl.Kind.TheVariants as sort
use Rattle.zr_msg.specs.declared.msg.Target.{Target}
use Rattle.zr_msg.specs.declared.msg.Target.TheVariants.{Best, All, Complete}
use Rattle.zr_log_set.specs.Decls.{is_decl}
use Rattle.zr_lists.proofs.Order.{is_same, is_itself}
use Rattle.zr_log_set.proofs.Decls.{decl_order, has_all}
use Rattle.zr_local.specs.declared.row.Row.{Row}
use Rattle.zr_local.specs.Rows.{Key, row_key, key_cmp, id_kind, AreInOrder, row_at, decls_of, declared_set}
use Rattle.zr_local.proofs.Rows.{key_order}
use Rattle.zr_node_spec.specs.Samples.{is_subscriber, is_for}
use Rattle.zr_node_spec.specs.Queries.{is_queryable, is_complete, can_answer}
use Rattle.zr_node_spec.specs.Table.{key_of}
use Rattle.zr_told_spec.specs.Place.{class_rank, class_of}
use Rattle.zr_told_spec.specs.declared.place.Class.{Class}
use Rattle.zr_told_spec.specs.declared.place.Class.TheVariants.{Subscriber, Queryable}
use Rattle.zr_world_spec.specs.World.{ClientState, WorldState}
use Rattle.zr_world_spec.specs.Moments.{Numbered}
use Rattle.zr_guarantee.specs.Item.{Carried, Sample, Query}
use Rattle.zr_guarantee.specs.Broker.{Standing, standing, asks_for, takes}
use Rattle.zr_guarantee.specs.Broker as broker
use Rattle.zr_lists.proofs.Finds.{In, any_in, in_any, find_in, map_in}
use Rattle.zr_lists.proofs.Elements.{each_in}
use Rattle.zr_law_settled.proofs.Declaring.{kind_rank}
use Rattle.zr_law_declared.specs.Declared.{stands}
use Rattle.zr_law_declared.specs.Rows.{row_of}
use Rattle.zr_law_declared.proofs.AtRest.{its_decl}
use Rattle.zr_law_declared.proofs.Said.{decl_in, AreApart}
use Rattle.zr_law_declared.proofs.Spoken.{IsSpoken}
use Rattle.zr_law_samples.proofs.Pushes.{asks_it}

-- what a client of the router has declared that passes a test, the set of all has
pub set_asks : (test : Decl → Bool) (rows : List Row) (link : ℕ) → list_any (λ r. r.link.0 == link && test r.decl) rows ≡ true → list_any (λ d. test d) (declared_set rows) ≡ true
set_asks test rows link h =
    let row = any_in (λ (r : Row). r.link.0 == link && test r.decl) rows h in
    let asks = (and_parts (row.0.link.0 == link) (test row.0.decl) row.2).1 in
    let among = in_any (λ d. is_decl d row.0.decl) (decls_of rows) row.0.decl (map_in (λ (r : Row). r.decl) rows row.0 row.1) (is_itself decl_cmp decl_order row.0.decl) in
    let there = any_in (λ d. is_decl d row.0.decl) (declared_set rows) (has_all (decls_of rows) row.0.decl ∙ among) in
    in_any (λ d. test d) (declared_set rows) there.0 there.1 (ap test (is_same decl_cmp decl_order there.0 row.0.decl there.2) ∙ asks)

-- a row is the one of its key
row_found : (rows : List Row) (r : Row) → AreInOrder rows → In r rows → row_at rows (row_key r) ≡ Some r
unfolding IsStrictlySortedBy
row_found [] r s i = absurd i
row_found (x ∷ rows) r s (inl same) = ap (λ (z : Row). cond (is_eq (key_cmp (row_key z) (row_key r))) (Some z) (row_at rows (row_key r))) (sym same) ∙ ap (λ b. cond b (Some r) (row_at rows (row_key r))) (is_itself key_cmp key_order (row_key r))
row_found (x ∷ rows) r s (inr later) =
    let less : key_cmp (row_key x) (row_key r) ≡ Less = each_in (λ z. key_cmp (row_key x) (row_key z) ≡ Less) rows r s.0 later in
    ap (λ o. cond (is_eq o) (Some x) (row_at rows (row_key r))) less ∙ row_found rows r s.1 later

-- where the rows of a link have what its client has declared of a class, id by id, they pass a test where that does
module _ (class : Class) (asks test : Decl → Bool) (asks_is : (d : Decl) → class_of d.kind ≡ class → asks d ≡ test d) (of_class : (d : Decl) → test d ≡ true → class_of d.kind ≡ class)
    (rows : List Row) (link : ℕ) (order : AreInOrder rows) (said : List Standing) (classes : (s : Standing) → In s said → class_of s.decl.kind ≡ class)
    (same : (id : ℕ) → option_map (λ r. r.decl) (row_at rows (record { link = link; kind = class_rank class; id = id })) ≡ decl_in said id) (own : AreApart said) where
  abbrev its_rows : List Row → Bool
  its_rows rs = list_any (λ r. r.link.0 == link && test r.decl) rs

  abbrev its_own : List Standing → Bool
  its_own ss = list_any (λ (s : Standing). asks s.decl) ss

  abbrev its_key : ℕ → Key
  its_key id = record { link = link; kind = class_rank class; id = id }

  -- what is declared is that of a row
  declared_row : its_own said ≡ true → its_rows rows ≡ true
  declared_row h = by d.0 d.1 d.2 (row_at rows (its_key d.0.id)) refl (same d.0.id ∙ own d.0 d.1)
    where
      d : (d : Standing) × In d said × (asks d.decl ≡ true)
      d = any_in (λ (s : Standing). asks s.decl) said h

      by : (s : Standing) → In s said → asks s.decl ≡ true → (o : Option Row) → row_at rows (its_key s.id) ≡ o → option_map (λ r. r.decl) o ≡ Some s.decl → its_rows rows ≡ true
      by s i passes None e k = absurd (false≢true (ap is_some k))
      by s i passes (Some r) e k =
          let f = find_in (λ z. is_eq (key_cmp (row_key z) (its_key s.id))) rows r e in
          let key_is : row_key r ≡ its_key s.id = is_same key_cmp key_order (row_key r) (its_key s.id) f.1 in
          let decl_is : r.decl ≡ s.decl = cc in
          in_any (λ z. z.link.0 == link && test z.decl) rows r f.0
          (and_from (r.link.0 == link) (test r.decl) (eq-eqb r.link.0 link (ap (λ (z : Key). z.link) key_is)) (ap test decl_is ∙ sym (asks_is s.decl (classes s i)) ∙ passes))

  -- a row is that of what is declared
  row_declared : its_rows rows ≡ true → its_own said ≡ true
  row_declared h = by (find (λ (s : Standing). s.id == r.0.id) said) refl (sym (same r.0.id) ∙ ap (option_map (λ (z : Row). z.decl)) (ap (row_at rows) (sym key_is) ∙ row_found rows r.0 order r.1))
    where
      r : (r : Row) × In r rows × ((r.link.0 == link && test r.decl) ≡ true)
      r = any_in (λ r. r.link.0 == link && test r.decl) rows h

      parts : ((r.0.link.0 == link) ≡ true) × (test r.0.decl ≡ true)
      parts = and_parts (r.0.link.0 == link) (test r.0.decl) r.2

      key_is : row_key r.0 ≡ its_key r.0.id
      key_is =
          let l : r.0.link.0 ≡ link = eqb-true r.0.link.0 link parts.0 in
          let k : id_kind r.0.decl.kind ≡ class_rank class = kind_rank r.0.decl.kind ∙ ap class_rank (of_class r.0.decl parts.1) in
          λ i. record { link = l i; kind = k i; id = r.0.id }

      by : (o : Option Standing) → find (λ (s : Standing). s.id == r.0.id) said ≡ o → option_map (λ (s : Standing). s.decl) o ≡ Some r.0.decl → its_own said ≡ true
      by None e k = absurd (false≢true (ap is_some k))
      by (Some s) e k =
          let f = find_in (λ (s : Standing). s.id == r.0.id) said s e in
          let decl_is : s.decl ≡ r.0.decl = cc in
          in_any (λ (s : Standing). asks s.decl) said s f.0 (asks_is s.decl (classes s f.0) ∙ ap test decl_is ∙ parts.1)

  pub rows_ask : its_rows rows ≡ its_own said
  rows_ask = both (its_rows rows) refl (its_own said) refl
    where
      both : (a : Bool) → its_rows rows ≡ a → (b : Bool) → its_own said ≡ b → its_rows rows ≡ its_own said
      both true e true f = e ∙ sym f
      both false e false f = e ∙ sym f
      both true e false f = absurd (false≢true (sym f ∙ row_declared e))
      both false e true f = absurd (false≢true (sym e ∙ declared_row f))

-- ---- what a client takes

-- a subscriber asks for a sample
subscriber_class : (kind : Kind) → is_subscriber kind ≡ true → class_of kind ≡ Subscriber
subscriber_class sort.Sub e = refl
subscriber_class sort.Able e = absurd (false≢true e)
subscriber_class sort.Full e = absurd (false≢true e)
subscriber_class sort.Token e = absurd (false≢true e)

class_subscriber : (kind : Kind) → class_of kind ≡ Subscriber → is_subscriber kind ≡ true
class_subscriber sort.Sub e = refl
class_subscriber sort.Able e = absurd (cc)
class_subscriber sort.Full e = absurd (cc)
class_subscriber sort.Token e = absurd (cc)

-- and a queryable can answer a query, a complete one also where complete ones are asked
queryable_class : (kind : Kind) → is_queryable kind ≡ true → class_of kind ≡ Queryable
queryable_class sort.Sub e = absurd (false≢true e)
queryable_class sort.Able e = refl
queryable_class sort.Full e = refl
queryable_class sort.Token e = absurd (false≢true e)

class_queryable : (kind : Kind) → class_of kind ≡ Queryable → is_queryable kind ≡ true
class_queryable sort.Sub e = absurd (cc)
class_queryable sort.Able e = refl
class_queryable sort.Full e = refl
class_queryable sort.Token e = absurd (cc)

complete_class : (kind : Kind) → is_complete kind ≡ true → class_of kind ≡ Queryable
complete_class sort.Sub e = absurd (false≢true e)
complete_class sort.Able e = absurd (false≢true e)
complete_class sort.Full e = refl
complete_class sort.Token e = absurd (false≢true e)

answer_class : (target : Target) (key : List ℕ) (d : Decl) → can_answer target key d ≡ true → class_of d.kind ≡ Queryable
answer_class Best key d h = queryable_class d.kind (and_parts (is_queryable d.kind) (texts_meet d.key key) h).0
answer_class All key d h = queryable_class d.kind (and_parts (is_queryable d.kind) (texts_meet d.key key) h).0
answer_class Complete key d h = complete_class d.kind (and_parts (is_complete d.kind) (texts_cover d.key key) h).0

answers_same : (target : Target) (key : List ℕ) (d : Decl) → class_of d.kind ≡ Queryable → broker.can_answer target key d ≡ can_answer target key d
answers_same Best key d e = sym (ap (λ b. b && texts_meet d.key key) (class_queryable d.kind e))
answers_same All key d e = sym (ap (λ b. b && texts_meet d.key key) (class_queryable d.kind e))
answers_same Complete key d e = refl

-- the rows of a client's link take just what the client takes
pub rows_take : (acts : List Numbered) (c : List ℕ) (s : ClientState) (w : WorldState) (rows : List Row) (link : LinkNo) → IsSpoken acts w c s → AreInOrder rows →
    ((kind : Kind) (id : ℕ) → row_at rows (key_of link.0 id kind) ≡ row_of link id (stands acts c kind id)) → (carried : Carried) → asks_it rows link.0 carried ≡ takes acts c carried
rows_take acts c s w rows link spoken order rows_are carried = by carried
  where
    standing_there : (kind : Kind) (id : ℕ) → option_map (λ r. r.decl) (row_at rows (key_of link.0 id kind)) ≡ decl_in (standing acts c (class_of kind)) id
    standing_there kind id = ap (option_map (λ (r : Row). r.decl)) (rows_are kind id) ∙ its_decl link id (stands acts c kind id) ∙ (spoken.listed kind).stand id

    by : (carried : Carried) → asks_it rows link.0 carried ≡ takes acts c carried
    by (Sample content) =
        rows_ask Subscriber (λ d. asks_for content.key d) (λ d. is_for content.key d) (λ d e. sym (ap (λ b. b && texts_meet d.key content.key) (class_subscriber d.kind e)))
        (λ d h. subscriber_class d.kind (and_parts (is_subscriber d.kind) (texts_meet d.key content.key) h).0) rows link.0 order (standing acts c Subscriber) (spoken.listed sort.Sub).classes
        (standing_there sort.Sub) (spoken.listed sort.Sub).apart
    by (Query target content) =
        rows_ask Queryable (λ d. broker.can_answer target content.key d) (λ d. can_answer target content.key d) (answers_same target content.key) (answer_class target content.key)
        rows link.0 order (standing acts c Queryable) (spoken.listed sort.Able).classes (standing_there sort.Able) (spoken.listed sort.Able).apart
