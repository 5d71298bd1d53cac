-- What others declare but tokens, and the keys that a tally of their tokens has alive: they declare the same as all that others declare.
use Rattle.std.proofs.Common.{◌≡◌, ℕ, ◌==◌, ◌&&◌, ◌||◌, not, Bool, true, false, cond, List, [], ◌∷◌, ◌++◌, map, filter, None, refl, sym, ap, ◌∙◌, subst, append_assoc}
use Rattle.std.specs.Cmp.Lexicographic.{slice_cmp}
use Rattle.std.specs.List.{AllByRecursion, flat_map, list_any}
use Rattle.std.specs.Ordering.{nat_cmp}
use Rattle.std.proofs.lemmas.Bool.{or_left, or_right}
use Rattle.std.proofs.lemmas.List.Folds.{list_any-append}
use Rattle.zr_lists.proofs.Filters.{any_kept}
use Rattle.zr_lists.proofs.Order.{is_itself, name_order}
use Rattle.zr_id.specs.Zid.{is_named}
use Rattle.zr_token.specs.Tally.{TallyState, alive, is_alive, reaches}
use Rattle.zr_token.specs.declared.owner.Owner.TheVariants.{Client, Source}
use Rattle.zr_token.specs.declared.pair.Pair.{Pair}
use Rattle.zr_token.proofs.Alive.{alive_is_of_pairs}
use Rattle.zr_msg.specs.declared.decl.Decl.{Decl}
use Rattle.zr_log.specs.declared.log.Log.{Log}
use Rattle.zr_local.specs.Rows.{decls_of, left}
use Rattle.zr_local.specs.declared.row.Row.{Row}
use Rattle.zr_node_spec.specs.Tables.{TableState}
use Rattle.zr_told_spec.specs.Place.{is_token, token_on}
use Rattle.zr_told_spec.specs.Rows.{others}
use Rattle.zr_told_spec.proofs.Places.{token_is}
use Rattle.zr_told.specs.Tokens.{AreAlike, IsTallied, has_source, is_kept, log_pairs, pairs_of, row_pairs, sources}

-- ---- lists

any_mapped : {X Y : Type 0} (f : X → Y) (test : Y → Bool) (xs : List X) → list_any test (map f xs) ≡ list_any (λ x. test (f x)) xs
any_mapped f test [] = refl
any_mapped f test (x ∷ xs) = ap (λ z. test (f x) || z) (any_mapped f test xs)

any_split : {X : Type 0} (p test : X → Bool) (xs : List X) → (list_any (λ x. not (p x) && test x) xs || list_any (λ x. p x && test x) xs) ≡ list_any test xs
any_split p test [] = refl
any_split {X} p test (x ∷ xs) = by (p x) (test x) (list_any (λ x. not (p x) && test x) xs) (list_any (λ x. p x && test x) xs) (list_any test xs) (any_split p test xs)
  where
    by : (a b c d e : Bool) → (c || d) ≡ e → ((not a && b || c) || (a && b || d)) ≡ (b || e)
    by true true true d e h = refl
    by true true false d e h = refl
    by true false c d e h = h
    by false true c d e h = refl
    by false false c d e h = h

module _ (n : TallyState) (link : ℕ) (test : Decl → Bool) where
  abbrev counted : Pair → Bool
  counted p = is_alive n link None p && test (token_on p.key)

  abbrev tokens : Decl → Bool
  tokens d = is_token d.kind && test d

  one : (d : Decl) → is_token d.kind ≡ true → (more less : Bool) → more ≡ less → (test (token_on d.key) || more) ≡ (tokens d || less)
  one d is more less same = (λ t. test (token_is d is t) || same t) ∙ ap (λ z. (z && test d) || less) (sym is)

  -- ---- the tokens of the router's own clients

  any_rows : (rows : List Row) → list_any counted (row_pairs rows) ≡ list_any tokens (decls_of (left rows link))
  any_rows [] = refl
  any_rows (r ∷ rows) = by (is_token r.decl.kind) refl (r.link.0 == link) refl (any_rows rows)
    where
      those : List Row
      those = filter (λ q. is_token q.decl.kind) rows

      more : Bool
      more = list_any counted (row_pairs rows)

      less : Bool
      less = list_any tokens (decls_of (left rows link))

      by : (b : Bool) → is_token r.decl.kind ≡ b → (c : Bool) → (r.link.0 == link) ≡ c → more ≡ less →
          list_any counted (map (λ q. record { owner = Client q.link; key = q.decl.key }) (cond b (r ∷ those) those)) ≡ list_any tokens (map (λ q. q.decl) (cond (not c) (r ∷ left rows link) (left rows link)))
      by true e true f ih = ap (λ z. ((not z && true) && test (token_on r.decl.key)) || more) f ∙ ih
      by true e false f ih = ap (λ z. ((not z && true) && test (token_on r.decl.key)) || more) f ∙ one r.decl e more less ih
      by false e true f ih = ih
      by false e false f ih = ih ∙ ap (λ z. (z && test r.decl) || less) (sym e)

  -- ---- the tokens of the clients of routers that are reached

  any_log : (source : List ℕ) → reaches n source ≡ true → (ds : List Decl) → list_any counted (pairs_of (Source source) ds) ≡ list_any tokens ds
  any_log source reached [] = refl
  any_log source reached (d ∷ ds) = by (is_token d.kind) refl (any_log source reached ds)
    where
      those : List Decl
      those = filter (λ q. is_token q.kind) ds

      more : Bool
      more = list_any counted (pairs_of (Source source) ds)

      less : Bool
      less = list_any tokens ds

      by : (b : Bool) → is_token d.kind ≡ b → more ≡ less → list_any counted (map (λ q. record { owner = Source source; key = q.key }) (cond b (d ∷ those) those)) ≡ (tokens d || less)
      by true e ih = ap (λ z. ((z && true) && test (token_on d.key)) || more) reached ∙ one d e more less ih
      by false e ih = ih ∙ ap (λ z. (z && test d) || less) (sym e)

  any_logs : (logs : List Log) → AllByRecursion (λ l. reaches n l.source ≡ true) logs → list_any counted (flat_map log_pairs logs) ≡ list_any tokens (flat_map (λ l. l.decls) logs)
  any_logs [] h = refl
  any_logs (l ∷ ls) h =
      list_any-append counted (log_pairs l) (flat_map log_pairs ls) ∙ (λ t. any_log l.source h.0 l.decls t || any_logs ls h.1 t)
      ∙ sym (list_any-append tokens l.decls (flat_map (λ l. l.decls) ls))

-- each log is among the logs
each_found : (front back : List Log) → AllByRecursion (λ l. has_source (front ++ back) l.source ≡ true) back
each_found front [] = tt
each_found front (l ∷ ls) = (
  list_any-append (λ g. is_named l.source g.source) front (l ∷ ls) ∙ or_right (has_source front l.source) _ (or_left (is_named l.source l.source) _ (is_itself (slice_cmp nat_cmp) name_order l.source)),
  subst (λ all. AllByRecursion (λ g. has_source all g.source ≡ true) ls) (append_assoc front (l ∷ []) ls) (each_found (front ++ l ∷ []) ls),
)

each_reached : (n : TallyState) (all logs : List Log) → ((s : List ℕ) → reaches n s ≡ has_source all s) → AllByRecursion (λ l. has_source all l.source ≡ true) logs → AllByRecursion (λ l. reaches n l.source ≡ true) logs
each_reached n all [] h f = tt
each_reached n all (l ∷ ls) h f = (h l.source ∙ f.0, each_reached n all ls h f.1)

-- ---- the law

pub once_alike : (t : TableState) (link : ℕ) (n : TallyState) → IsTallied t n → AreAlike (filter (is_kept false) (others t link) ++ map token_on (alive n link None)) (others t link)
once_alike t link n h test =
    list_any-append test (filter (is_kept false) (others t link)) (map token_on (alive n link None))
    ∙ (λ i. any_kept test (is_kept false) (others t link) i || all_tokens i) ∙ any_split (λ d. is_token d.kind) test (others t link)
  where
    logs : List Log
    logs = sources t t.known.logs

    of_logs : list_any (counted n link test) (flat_map log_pairs logs) ≡ list_any (tokens n link test) (flat_map (λ l. l.decls) logs)
    of_logs = any_logs n link test logs (each_reached n logs logs h.reached (each_found [] logs))

    all_tokens : list_any test (map token_on (alive n link None)) ≡ list_any (tokens n link test) (others t link)
    all_tokens =
        any_mapped token_on test (alive n link None) ∙ alive_is_of_pairs n link None (λ key. test (token_on key)) ∙ ap (list_any (counted n link test)) h.pairs
        ∙ list_any-append (counted n link test) (row_pairs t.rows) (flat_map log_pairs logs) ∙ (λ i. any_rows n link test t.rows i || of_logs i)
        ∙ sym (list_any-append (tokens n link test) (decls_of (left t.rows link)) (flat_map (λ l. l.decls) logs))
