-- What is held of who has declared what, as a client or a log changes it: what stands at the place goes, and what stands there then comes.
use Rattle.std.proofs.Common.{◌≡◌, ℕ, ◌+◌, ◌==◌, ◌&&◌, not, nat_lt, Bool, true, false, cond, List, [], ◌∷◌, ◌++◌, Option, Some, Result, Ok, Err, OnOk, OnErr, refl, sym, ap, subst, ◌∙◌}
use Rattle.std.specs.Cmp.Lexicographic.{slice_cmp}
use Rattle.std.specs.Option.{option_map_or}
use Rattle.std.specs.Ordering.{nat_cmp}
use Rattle.std.proofs.lemmas.Bool.{and_parts}
use Rattle.zr_id.specs.Zid.{is_named}
use Rattle.zr_lists.specs.Ascending.{IsAscending, at_key}
use Rattle.zr_lists.proofs.Order.{is_itself, name_order}
use Rattle.zr_lists.proofs.Puts.{at-put}
use Rattle.zr_local.proofs.Rows.{key_order}
use Rattle.zr_local.specs.Rows.{AreInOrder, key_cmp, row_key}
use Rattle.zr_local.specs.State.{LocalState}
use Rattle.zr_local.specs.declared.changes.Changes.{Changes}
use Rattle.zr_local.specs.declared.row.Row.{Row}
use Rattle.zr_log.specs.Known.{KnownState, after_own, after_snap, after_step, decls, is_newer, is_next, position, with_log}
use Rattle.zr_log.specs.Log.{Change, changed}
use Rattle.zr_log.specs.declared.error.KnownError.{KnownError}
use Rattle.zr_log.specs.declared.known.Taken.{Taken}
use Rattle.zr_log.specs.declared.log.Log.{Log}
use Rattle.zr_log_set.proofs.Decls.{decl_order}
use Rattle.zr_log_set.specs.Decls.{IsSet, set_of, without_decl}
use Rattle.zr_msg.specs.Decl.{decl_cmp}
use Rattle.zr_msg.specs.declared.decl.Decl.{Decl}
use Rattle.zr_node_spec.specs.Changes.{after_changes}
use Rattle.zr_push_sought.specs.Holders.{HoldJust}
use Rattle.zr_push_sought.specs.Pairs.{Declared, all_declared, of_clients, of_set, of_sources}
use Rattle.zr_push_sought.specs.declared.holders.Holders.{Holders}
use Rattle.zr_push_sought.proofs.Alike.{alike_back, hold_alike, log_apart, other_logs, own_tells, without-put, without-without}
use Rattle.zr_lists.proofs.Finds.{filter-filter}
use Rattle.zr_node.specs.Asked.{local_after, rows_after}
use Rattle.zr_node.specs.Holding.{rows_but, touched}
use Rattle.zr_node.specs.declared.asked.Asked.{Asked}
use Rattle.zr_node.specs.declared.asked.Asked.TheVariants.{Declare, Undeclare, Leave}
use Rattle.zr_node.specs.declared.failure.NodeFailure.{NodeFailure}

-- ---- what a client asks

-- what isn't touched stays
others_stay : (rows : List Row) (asked : Asked) → AreInOrder rows → rows_but (rows_after rows asked) (touched asked) ≡ rows_but rows (touched asked)
others_stay rows (Declare link id decl) up = without-put key_cmp row_key key_order rows (record { link = link; id = id; decl = decl }) up
others_stay rows (Undeclare link id kind) up = without-without key_cmp row_key key_order rows _
others_stay rows (Leave link) up = filter-filter _ _ rows (λ r i t. t)

pub untouched : (r : Result Changes NodeFailure) (l m : LocalState) (asked : Asked) → AreInOrder l.rows → OnOk r (m ≡ local_after l asked) → OnErr r (m ≡ l)
    → rows_but l.rows (touched asked) ≡ rows_but m.rows (touched asked)
untouched (Ok c) l m asked up done same = sym (ap (λ (k : LocalState). rows_but k.rows (touched asked)) done ∙ others_stay l.rows asked up)
untouched (Err e) l m asked up done same = sym (ap (λ (k : LocalState). rows_but k.rows (touched asked)) same)

-- ---- the log of another router

-- what is held beside what the log of a router tells
abbrev pub beside : List Row → List ℕ → KnownState → List ℕ → List Declared
beside rows me k source = of_clients rows ++ of_sources me (other_logs k.logs source)

module _ (holders : Holders) (rows : List Row) (me : List ℕ) (k : KnownState) (source : List ℕ) (up : IsAscending (slice_cmp nat_cmp) (λ l. l.source) k.logs) (other : is_named source me ≡ false) where
  pub held_apart : HoldJust (all_declared rows me k.logs) holders → HoldJust (of_set source (decls k source) ++ beside rows me k source) holders
  held_apart h = hold_alike holders _ _ (log_apart me k.logs source up other (of_clients rows)) h

  pub held_together : HoldJust (of_set source (decls k source) ++ beside rows me k source) holders → HoldJust (all_declared rows me k.logs) holders
  held_together h =
      hold_alike holders (of_set source (decls k source) ++ beside rows me k source) (all_declared rows me k.logs)
      (alike_back (all_declared rows me k.logs) (of_set source (decls k source) ++ beside rows me k source) (log_apart me k.logs source up other (of_clients rows))) h

-- with another set of one router the logs of the others stay
but_stays : (k : KnownState) (source : List ℕ) (number : ℕ) (set : List Decl) → IsAscending (slice_cmp nat_cmp) (λ l. l.source) k.logs → other_logs (with_log k source number set).logs source ≡ other_logs k.logs source
but_stays k source number set up = without-put (slice_cmp nat_cmp) (λ (l : Log). l.source) name_order k.logs (record { source = source; position = number; decls = set }) up

decls_are : (k : KnownState) (source : List ℕ) (number : ℕ) (set : List Decl) → decls (with_log k source number set) source ≡ set
decls_are k source number set =
    ap (λ (o : Option Log). option_map_or (λ l. l.decls) o []) (at-put (slice_cmp nat_cmp) (λ (l : Log). l.source) name_order k.logs (record { source = source; position = number; decls = set }) source
    ∙ ap (λ t. cond t (Some (record { source = source; position = number; decls = set })) (at_key (slice_cmp nat_cmp) (λ (l : Log). l.source) k.logs source)) (is_itself (slice_cmp nat_cmp) name_order source))

-- a change touches one declaration of the set
rest_stays : (set : List Decl) (c : Change) → IsSet set → without_decl (changed set c) c.decl ≡ without_decl set c.decl
rest_stays set c up = by c.added
  where
    by : (added : Bool) → without_decl (changed set (record { added = added; decl = c.decl })) c.decl ≡ without_decl set c.decl
    by true = without-put decl_cmp (λ (d : Decl). d) decl_order set c.decl up
    by false = without-without decl_cmp (λ (d : Decl). d) decl_order set c.decl

module _ (rows : List Row) (me : List ℕ) (k : KnownState) (source : List ℕ) (up : IsAscending (slice_cmp nat_cmp) (λ l. l.source) k.logs) where
  -- what a step and a snapshot leave as it is
  abbrev beside_one : Decl → KnownState → List Declared
  beside_one d now = of_set source (without_decl (decls now source) d) ++ beside rows me now source

  step_leaves : (number : ℕ) (c : Change) → IsSet (decls k source) → beside_one c.decl (after_step k source number c) ≡ beside_one c.decl k
  step_leaves number c set = by (is_next k source number)
    where
      by : (next : Bool) → beside_one c.decl (cond next (with_log k source number (changed (decls k source) c)) k) ≡ beside_one c.decl k
      by true =
          ap (λ (ds : List Decl). of_set source (without_decl ds c.decl) ++ beside rows me (with_log k source number (changed (decls k source) c)) source) (decls_are k source number (changed (decls k source) c))
          ∙ ap (λ (ds : List Decl). of_set source ds ++ beside rows me (with_log k source number (changed (decls k source) c)) source) (rest_stays (decls k source) c set)
          ∙ ap (λ (ls : List Log). of_set source (without_decl (decls k source) c.decl) ++ (of_clients rows ++ of_sources me ls)) (but_stays k source number (changed (decls k source) c) up)
      by false = refl

  pub step_beside : (r : Result Taken KnownError) (now : KnownState) (number : ℕ) (c : Change) → IsSet (decls k source) → OnOk r (now ≡ after_step k source number c) → OnErr r (now ≡ k)
      → beside_one c.decl k ≡ beside_one c.decl now
  step_beside (Ok t) now number c set done same = sym (ap (beside_one c.decl) done ∙ step_leaves number c set)
  step_beside (Err e) now number c set done same = sym (ap (beside_one c.decl) same)

  snap_leaves : (number : ℕ) (ds : List Decl) → beside rows me (after_snap k source number ds) source ≡ beside rows me k source
  snap_leaves number ds = by (is_newer k source number)
    where
      by : (newer : Bool) → beside rows me (cond newer (with_log k source number (set_of ds)) k) source ≡ beside rows me k source
      by true = ap (λ (ls : List Log). of_clients rows ++ of_sources me ls) (but_stays k source number (set_of ds) up)
      by false = refl

  pub snap_beside : (r : Result Taken KnownError) (now : KnownState) (number : ℕ) (ds : List Decl) → OnOk r (now ≡ after_snap k source number ds) → OnErr r (now ≡ k)
      → beside rows me k source ≡ beside rows me now source
  snap_beside (Ok t) now number ds done same = sym (ap (λ (n : KnownState). beside rows me n source) done ∙ snap_leaves number ds)
  snap_beside (Err e) now number ds done same = sym (ap (λ (n : KnownState). beside rows me n source) same)

-- what isn't new changes nothing
pub old_step : (r : Result Taken KnownError) (k now : KnownState) (me source : List ℕ) (number : ℕ) (c : Change) → me ≡ k.me → is_named source me ≡ true → OnOk r (now ≡ after_step k source number c) → OnErr r (now ≡ k) → now ≡ k
old_step (Ok t) k now me source number c is own done same =
    done ∙ ap (λ (b : Bool). cond (not b && number == position k source + 1) (with_log k source number (changed (decls k source) c)) k) (ap (λ (n : List ℕ). is_named source n) (sym is) ∙ own)
old_step (Err e) k now me source number c is own done same = same

pub old_snap : (r : Result Taken KnownError) (k now : KnownState) (source : List ℕ) (number : ℕ) (ds : List Decl) → is_newer k source number ≡ false → OnOk r (now ≡ after_snap k source number ds) → OnErr r (now ≡ k) → now ≡ k
old_snap (Ok t) k now source number ds old done same = done ∙ ap (λ (b : Bool). cond b (with_log k source number (set_of ds)) k) old
old_snap (Err e) k now source number ds old done same = same

-- what is new is another router's
pub new_other : (k : KnownState) (source me : List ℕ) (number : ℕ) → me ≡ k.me → is_newer k source number ≡ true → is_named source me ≡ false
new_other k source me number is new = ap (λ (n : List ℕ). is_named source n) is ∙ by (is_named source k.me) (and_parts (not (is_named source k.me)) (nat_lt (position k source) number) new).0
  where
    by : (b : Bool) → not b ≡ true → b ≡ false
    by true e = cc
    by false e = refl

-- ---- the own log

pub own_held : (holders : Holders) (rows : List Row) (me : List ℕ) (k : KnownState) (cs : List Change) → k.me ≡ me → HoldJust (all_declared rows me k.logs) holders → HoldJust (all_declared rows me (after_changes k cs).logs) holders
own_held holders rows me k [] is h = h
own_held holders rows me k (c ∷ cs) is h = own_held holders rows me (after_own k c) cs is (hold_alike holders _ _ (own_tells me k.logs _ (of_clients rows) (subst (λ (n : List ℕ). is_named k.me n ≡ true) is (is_itself (slice_cmp nat_cmp) name_order k.me))) h)
