-- What an index of all declarations gives for a key tells who has declared what is sought.
use Rattle.std.proofs.Common.{◌≡◌, ℕ, ◌==◌, Bool, true, false, cond, ◌&&◌, ◌||◌, List, [], ◌∷◌, ◌⊎◌, inl, inr, Option, IfSome, Ordering, Less, Equal, Greater, refl, sym, ap, subst, ◌∙◌}
use Rattle.std.specs.Cmp.Lexicographic.{slice_cmp}
use Rattle.std.specs.List.{list_any}
use Rattle.std.specs.Ordering.{is_eq, nat_cmp, ordering_then}
use Rattle.std.proofs.lemmas.Bool.{and_from, and_parts, true≢false}
use Rattle.std.proofs.lemmas.Map.Keys.{sorted_head, sorted_tail}
use Rattle.std.proofs.lemmas.Option.{IfSome_then}
use Rattle.zr_id.specs.Zid.{is_named}
use Rattle.zr_id.specs.declared.link.LinkNo.{LinkNo}
use Rattle.zr_index.specs.Meeting.{AreMeeting, meets_key}
use Rattle.zr_index.proofs.Tests.{any_flat, flipped, meets_is}
use Rattle.zr_key.specs.Key.{chunks}
use Rattle.zr_lists.specs.Ascending.{IsAscending}
use Rattle.zr_lists.proofs.Elements.{each_in, in_each, in_front, in_behind, in_either, in_flat, flat_in}
use Rattle.zr_lists.proofs.Finds.{In, any_in, in_any, in_map, map_in, same_any}
use Rattle.zr_lists.proofs.Numbers.{nat_eq_is}
use Rattle.zr_lists.proofs.Order.{comes, is_itself, name_order}
use Rattle.zr_lists.proofs.Truths.{same_test}
use Rattle.zr_local.proofs.Held.{holder_order}
use Rattle.zr_local.specs.Holders.{holder_cmp, is_holder}
use Rattle.zr_local.specs.declared.holder.Holder.{Holder}
use Rattle.zr_local.specs.declared.holder.Holder.TheVariants.{Client, Source}
use Rattle.zr_local.specs.declared.row.Row.{Row}
use Rattle.zr_log.specs.declared.log.Log.{Log}
use Rattle.zr_msg.specs.declared.decl.Decl.{Decl}
use Rattle.zr_node_spec.specs.Tables.{TableState}
use Rattle.zr_push_sought.specs.Found.{has_holder, TellClients, TellSources}
use Rattle.zr_push_sought.specs.Holders.{AreFound, SeeksMeeting}
use Rattle.zr_push_sought.specs.Pairs.{Declared, all_declared, declared_by, is_kind, of_clients, of_log, of_row, of_set, of_sources, pair_of, pairs_of}
use Rattle.zr_push_sought.specs.Sought.{by_meeting, is_in_log, is_sought}
use Rattle.zr_push_sought.specs.declared.found.Found.{Found}
use Rattle.zr_push_sought.specs.declared.sought.Sought.{Sought}
use Rattle.zr_push_sought.proofs.Covering.{by_meeting_seeks}

-- ---- one declaration

any_if : {X : Type 0} (t : X → Bool) (x : X) (b : Bool) → list_any t (cond b (x ∷ []) []) ≡ cond b (t x || false) false
any_if t x true = refl
any_if t x false = refl

turned : (k m e : Bool) → cond k ((m && e) || false) false ≡ (e && (k && m))
turned true true true = refl
turned true true false = refl
turned true false true = refl
turned true false false = refl
turned false m true = refl
turned false m false = refl

-- a pair whose key meets the one that is looked for, and whose value is the one that is
abbrev is_met : List ℕ → Holder → List (List ℕ) × Holder → Bool
is_met key who p = meets_key key p.0 && is_holder p.1 who

one_pair : (sought : Sought) (key : List ℕ) → SeeksMeeting sought key → (who : Holder) (x : Declared)
    → list_any (is_met key who) (pair_of sought x) ≡ (is_holder x.0 who && is_sought sought key x.1)
one_pair sought key seeks who x =
    any_if (is_met key who) (chunks x.1.key, x.0) (is_kind sought x.1.kind)
    ∙ turned (is_kind sought x.1.kind) (meets_key key (chunks x.1.key)) (is_holder x.0 who)
    ∙ ap (λ b. is_holder x.0 who && b) (sym (seeks x.1 ∙ ap (λ b. is_kind sought x.1.kind && b) (meets_is x.1.key key)))

-- ---- logs ascend, so each router has one

only_log : (logs : List Log) → IsAscending (slice_cmp nat_cmp) (λ l. l.source) logs → (a b : Log) → In a logs → In b logs → is_named a.source b.source ≡ true → a ≡ b
only_log [] up a b i j e = absurd i
only_log (l ∷ logs) up a b (inl i) (inl j) e = i ∙ sym j
only_log (l ∷ logs) up a b (inl i) (inr j) e =
    let less = each_in (λ y. slice_cmp nat_cmp l.source y.source ≡ Less) logs b (sorted_head (λ (y z : Log). slice_cmp nat_cmp y.source z.source) l logs up) j in
    let apart = (comes (slice_cmp nat_cmp) name_order l.source b.source less).apart in
    absurd (true≢false (sym e ∙ ap (λ (z : Log). is_named z.source b.source) i ∙ apart))
only_log (l ∷ logs) up a b (inr i) (inl j) e =
    let less = each_in (λ y. slice_cmp nat_cmp l.source y.source ≡ Less) logs a (sorted_head (λ (y z : Log). slice_cmp nat_cmp y.source z.source) l logs up) i in
    let apart = (comes (slice_cmp nat_cmp) name_order l.source a.source less).apart_back in
    absurd (true≢false (sym e ∙ ap (λ (z : Log). is_named a.source z.source) j ∙ apart))
only_log (l ∷ logs) up a b (inr i) (inr j) e = only_log logs (sorted_tail (λ (y z : Log). slice_cmp nat_cmp y.source z.source) l logs up) a b i j e

-- ---- who is who

client_is : (a b : LinkNo) → is_holder (Client a) (Client b) ≡ (a.0 == b.0)
client_is a b = by (nat_cmp a.0 b.0) ∙ nat_eq_is a.0 b.0
  where
    by : (r : Ordering) → is_eq (ordering_then r (slice_cmp nat_cmp [] [])) ≡ is_eq r
    by Less = refl
    by Equal = refl
    by Greater = refl

-- what stands in the log of another router
record FromLog (me : List ℕ) (logs : List Log) (x : Declared) : Type 0 where
  log : Log
  there : In log logs
  other : is_named log.source me ≡ false
  decl : Decl
  declared : In decl log.decls
  is : (Source log.source, decl) ≡ x

from_log : (me : List ℕ) (logs : List Log) (x : Declared) → In x (of_sources me logs) → FromLog me logs x
from_log me logs x i = let f = in_flat (λ (l : Log). of_log me l) logs x i in by f.0 f.1 (is_named f.0.source me) refl f.2
  where
    by : (l : Log) → In l logs → (own : Bool) → is_named l.source me ≡ own → In x (cond own [] (of_set l.source l.decls)) → FromLog me logs x
    by l there true e j = absurd j
    by l there false e j =
        let d = in_map (λ (d : Decl). (Source l.source, d)) l.decls x j in
        record { log = l; there = there; other = e; decl = d.0; declared = d.1; is = d.2 }

module _ (sought : Sought) (key : List ℕ) where
  -- someone has declared it, and it is sought
  abbrev has_made : Holder → Declared → Bool
  has_made who x = is_holder x.0 who && is_sought sought key x.1

  -- who is found for the key has declared something that is sought
  found_so : (xs : List Declared) (found : List Holder) → SeeksMeeting sought key → AreMeeting holder_cmp key (pairs_of sought xs) found → (who : Holder) → has_holder found who ≡ list_any (has_made who) xs
  found_so xs found seeks m who =
      same_any (λ h. is_holder h who) (λ h. is_holder who h) found (λ h i. flipped holder_cmp holder_order h who)
      ∙ m.exactly who
      ∙ any_flat (is_met key who) (λ (x : Declared). pair_of sought x) xs
      ∙ same_any _ (has_made who) xs (λ x i. one_pair sought key seeks who x)

  module _ (rows : List Row) (me : List ℕ) (logs : List Log) where
    abbrev all : List Declared
    all = all_declared rows me logs

    module _ (link : ℕ) where
      abbrev client : Holder
      client = Client (record { 0 = link })

      abbrev declares : Row → Bool
      declares r = r.link.0 == link && is_sought sought key r.decl

      client_row : (r : Row) → has_made client (of_row r) ≡ declares r
      client_row r = ap (λ b. b && is_sought sought key r.decl) (client_is r.link (record { 0 = link }))

      client_has : (x : Declared) → has_made client x ≡ true → In x (of_clients rows) ⊎ In x (of_sources me logs) → list_any declares rows ≡ true
      client_has x t (inl i) =
          let r = in_map of_row rows x i in
          in_any declares rows r.0 r.1 (sym (client_row r.0) ∙ ap (has_made client) r.2 ∙ t)
      client_has x t (inr i) = absurd (true≢false (sym t ∙ sym (ap (has_made client) (from_log me logs x i).is)))

      client_to : list_any (has_made client) all ≡ true → list_any declares rows ≡ true
      client_to h = let f = any_in (has_made client) all h in client_has f.0 f.2 (in_either (of_clients rows) (of_sources me logs) f.0 f.1)

      client_back : list_any declares rows ≡ true → list_any (has_made client) all ≡ true
      client_back h =
          let f = any_in declares rows h in
          in_any (has_made client) all (of_row f.0) (in_front (of_clients rows) (of_sources me logs) (of_row f.0) (map_in of_row rows f.0 f.1)) (client_row f.0 ∙ f.2)

    pub clients_tell : (found : List Holder) → SeeksMeeting sought key → AreMeeting holder_cmp key (pairs_of sought all) found → TellClients sought key rows found
    clients_tell found seeks m link = found_so all found seeks m (client link) ∙ same_test (list_any (has_made (client link)) all) (list_any (declares link) rows) (client_to link) (client_back link)

    module _ (up : IsAscending (slice_cmp nat_cmp) (λ l. l.source) logs) (log : Log) (here : In log logs) where
      abbrev source : Holder
      source = Source log.source

      source_has : (x : Declared) → has_made source x ≡ true → In x (of_clients rows) ⊎ In x (of_sources me logs) → is_in_log sought key log ≡ true
      source_has x t (inl i) = absurd (true≢false (sym t ∙ sym (ap (has_made source) (in_map of_row rows x i).2)))
      source_has x t (inr i) =
          let f = from_log me logs x i in
          let both = and_parts (is_named f.log.source log.source) (is_sought sought key f.decl) (ap (has_made source) f.is ∙ t) in
          ap (λ (l : Log). is_in_log sought key l) (sym (only_log logs up f.log log f.there here both.0)) ∙ in_any (λ (d : Decl). is_sought sought key d) f.log.decls f.decl f.declared both.1

      source_to : list_any (has_made source) all ≡ true → is_in_log sought key log ≡ true
      source_to h = let f = any_in (has_made source) all h in source_has f.0 f.2 (in_either (of_clients rows) (of_sources me logs) f.0 f.1)

      source_back : is_named log.source me ≡ false → is_in_log sought key log ≡ true → list_any (has_made source) all ≡ true
      source_back other h =
          let f = any_in (λ (d : Decl). is_sought sought key d) log.decls h in
          let set : In (Source log.source, f.0) (of_set log.source log.decls) = map_in (λ (d : Decl). (Source log.source, d)) log.decls f.0 f.1 in
          let told : In (Source log.source, f.0) (of_log me log) = subst (λ (own : Bool). In (Source log.source, f.0) (cond own [] (of_set log.source log.decls))) (sym other) set in
          in_any (has_made source) all (Source log.source, f.0)
          (in_behind (of_clients rows) (of_sources me logs) (Source log.source, f.0) (flat_in (λ (l : Log). of_log me l) logs log (Source log.source, f.0) here told))
          (and_from (is_named log.source log.source) (is_sought sought key f.0) (is_itself (slice_cmp nat_cmp) name_order log.source) f.2)

    pub sources_tell : (found : List Holder) → SeeksMeeting sought key → AreMeeting holder_cmp key (pairs_of sought all) found → IsAscending (slice_cmp nat_cmp) (λ l. l.source) logs → TellSources sought key me logs found
    sources_tell found seeks m up =
        in_each (λ log. is_named log.source me ≡ false → has_holder found (Source log.source) ≡ is_in_log sought key log) logs
        (λ log i other. found_so all found seeks m (Source log.source) ∙ same_test (list_any (has_made (Source log.source)) all) (is_in_log sought key log) (source_to up log i) (source_back up log i other))

-- who is found by meeting has declared what is sought, or might have
pub found_tell : (sought : Sought) (t : TableState) (key : List ℕ) (r : Option Found) → IsAscending (slice_cmp nat_cmp) (λ l. l.source) t.known.logs
    → IfSome r (λ f. AreMeeting holder_cmp key (pairs_of (by_meeting sought) (declared_by t)) f.holders.items) → IfSome r (λ f. AreFound t (by_meeting sought) key f)
found_tell sought t key r up h = IfSome_then r h (λ f m. record {
  clients = clients_tell (by_meeting sought) key t.rows t.base.me t.known.logs f.holders.items (by_meeting_seeks sought key) m;
  sources = sources_tell (by_meeting sought) key t.rows t.base.me t.known.logs f.holders.items (by_meeting_seeks sought key) m up;
})
