-- What a router's changes make of its own log. Rows that stay change nothing (`no_changes`), and what changes of rows make of the set of
-- the old ones is that of the new ones (`rows_lead`).
use Rattle.std.proofs.Common.{◌≡◌, ℕ, ◌+◌, nat_lt, ◌&&◌, ◌||◌, ◌++◌, not, Bool, true, false, cond, List, [], ◌∷◌, map, Option, Some, refl, sym, ap, ◌∙◌}
use Rattle.std.specs.Cmp.Lexicographic.{slice_cmp}
use Rattle.std.specs.List.{fold}
use Rattle.std.specs.Option.{option_map_or}
use Rattle.std.specs.Ordering.{nat_cmp}
use Rattle.std.proofs.lemmas.Bool.{true≢false}
use Rattle.std.proofs.lemmas.List.Sums.{fold-append}
use Rattle.zr_lists.proofs.Order.{is_itself, name_order}
use Rattle.zr_lists.proofs.Puts.{at-put}
use Rattle.zr_id.specs.Zid.{is_named}
use Rattle.zr_graph.proofs.Names.{same_refl}
use Rattle.zr_msg.specs.Decl.{decl_cmp}
use Rattle.zr_msg.specs.declared.decl.Decl.{Decl}
use Rattle.zr_log_set.specs.Decls.{has, with_decl, without_decl}
use Rattle.zr_log_set.proofs.Decls.{decl_order}
use Rattle.zr_log.specs.declared.log.Log.{Log}
use Rattle.zr_log.specs.Known.{KnownState, after_own, decls, log_of, position, with_log}
use Rattle.zr_log.specs.Log.{Change, changed}
use Rattle.zr_log.proofs.Logs.{source_of}
use Rattle.zr_local.specs.Owners.{rows_with}
use Rattle.zr_local.specs.Rows.{came, declared_set, gone}
use Rattle.zr_local.specs.declared.row.Row.{Row}
use Rattle.zr_local.proofs.Changed.{has_gone}
use Rattle.zr_local.proofs.Leads.{lead_on}
use Rattle.zr_node_spec.specs.Changes.{after_changes, changes}

-- ---- rows

none_had : (ds : List Decl) → ((d : Decl) → has ds d ≡ false) → ds ≡ []
none_had [] h = refl
none_had (d ∷ ds) h = absurd (true≢false (sym (ap (λ t. t || has ds d) (is_itself decl_cmp decl_order d)) ∙ h d))

pub no_changes : (rows : List Row) → changes rows rows ≡ []
no_changes rows = ap (λ ds. map (λ (d : Decl). record { added = false; decl = d }) ds ++ map (λ (d : Decl). record { added = true; decl = d }) ds) none
  where
    never : (t : Bool) → (not t && t) ≡ false
    never true = refl
    never false = refl

    none : gone rows rows ≡ []
    none = none_had (gone rows rows) (λ d. has_gone rows rows d ∙ never (nat_lt 0 (rows_with rows d)))

outs : (ds : List Decl) (s : List Decl) → fold changed s (map (λ d. record { added = false; decl = d }) ds) ≡ fold without_decl s ds
outs [] s = refl
outs (d ∷ ds) s = outs ds (without_decl s d)

ins : (ds : List Decl) (s : List Decl) → fold changed s (map (λ d. record { added = true; decl = d }) ds) ≡ fold with_decl s ds
ins [] s = refl
ins (d ∷ ds) s = ins ds (with_decl s d)

-- the changes of rows lead from their set to the next one
pub rows_lead : (before after : List Row) → fold changed (declared_set before) (changes before after) ≡ declared_set after
rows_lead before after =
    fold-append changed (declared_set before) (map (λ d. record { added = false; decl = d }) (gone before after)) (map (λ d. record { added = true; decl = d }) (came before after))
    ∙ ap (λ s. fold changed s (map (λ d. record { added = true; decl = d }) (came before after))) (outs (gone before after) (declared_set before))
    ∙ ins (came before after) (fold without_decl (declared_set before) (gone before after))
    ∙ lead_on before after

-- ---- the own log

pub me_changes : (k : KnownState) (cs : List Change) → (after_changes k cs).me ≡ k.me
me_changes k [] = refl
me_changes k (c ∷ cs) = me_changes (after_own k c) cs

pub decls_with : (k : KnownState) (source : List ℕ) (number : ℕ) (set : List Decl) (z : List ℕ) → decls (with_log k source number set) z ≡ cond (is_named source z) set (decls k z)
decls_with k source number set z =
    ap (λ (o : Option Log). option_map_or (λ l. l.decls) o []) (at-put (slice_cmp nat_cmp) source_of name_order k.logs (record { source = source; position = number; decls = set }) z)
    ∙ by (is_named source z)
  where
    by : (t : Bool) → option_map_or (λ (l : Log). l.decls) (cond t (Some (record { source = source; position = number; decls = set })) (log_of k z)) [] ≡ cond t set (decls k z)
    by true = refl
    by false = refl

-- what the own log leads to is the fold of its changes
pub decls_fold : (k : KnownState) (cs : List Change) → decls (after_changes k cs) k.me ≡ fold changed (decls k k.me) cs
decls_fold k [] = refl
decls_fold k (c ∷ cs) =
    decls_fold (after_own k c) cs
    ∙ ap (λ s. fold changed s cs) (decls_with k k.me (position k k.me + 1) (changed (decls k k.me) c) k.me ∙ ap (λ t. cond t (changed (decls k k.me) c) (decls k k.me)) (same_refl k.me))
