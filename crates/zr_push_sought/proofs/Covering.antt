-- What covers a key meets it: so who has declared what is sought is among those who have declared what meets the key.
use Rattle.std.proofs.Common.{◌≡◌, ℕ, ◌==◌, ◌&&◌, ◌||◌, not, Bool, true, false, cond, List, [], ◌∷◌, reverse, refl, sym, ◌∙◌}
use Rattle.std.specs.List.{list_any}
use Rattle.std.proofs.lemmas.Bool.{and_from, and_parts, or_left, or_right, false_from_ne_true, false≢true}
use Rattle.zr_key.specs.Expression.{Piece, Chunk, Any, AnyChunks, Pieces, begins_verbatim, is_any_chars, is_wild}
use Rattle.zr_key.specs.Key.{expression_of}
use Rattle.zr_match.specs.Match.{is_verbatim_chunk}
use Rattle.zr_match.specs.Table.{Signs, chunks_go_together, first_row, is_any_chunks, next_row, pieces_compare, same_char, table, texts_cover, texts_meet}
use Rattle.zr_local.specs.declared.row.Row.{Row}
use Rattle.zr_log.specs.declared.log.Log.{Log}
use Rattle.zr_msg.specs.declared.decl.Decl.{Decl}
use Rattle.zr_msg.specs.declared.decl.Kind.{Kind}
use Rattle.zr_msg.specs.declared.decl.Kind.TheVariants.{Sub, Able, Full, Token}
use Rattle.zr_node_spec.specs.Queries.{is_complete, is_queryable}
use Rattle.zr_push_sought.specs.Holders.{SeeksMeeting}
use Rattle.zr_push_sought.specs.Sought.{by_meeting, has_declared, is_in_log, is_sought}
use Rattle.zr_push_sought.specs.declared.sought.Sought.{Sought}
use Rattle.zr_push_sought.specs.declared.sought.Sought.TheVariants.{Subscribers, Queryables, Complete}

-- ---- tests of which one lets through more

or_wider : (u more_u v more_v : Bool) → (u ≡ true → more_u ≡ true) → (v ≡ true → more_v ≡ true) → (u || v) ≡ true → (more_u || more_v) ≡ true
or_wider true more_u v more_v f g e = or_left more_u more_v (f refl)
or_wider false more_u v more_v f g e = or_right more_u more_v (g e)

and_wider : (u more_u v more_v : Bool) → (u ≡ true → more_u ≡ true) → (v ≡ true → more_v ≡ true) → (u && v) ≡ true → (more_u && more_v) ≡ true
and_wider u more_u v more_v f g e = let both = and_parts u v e in and_from more_u more_v (f both.0) (g both.1)

any_wider : {X : Type 0} (p more : X → Bool) → ((x : X) → p x ≡ true → more x ≡ true) → (xs : List X) → list_any p xs ≡ true → list_any more xs ≡ true
any_wider p more h [] e = e
any_wider p more h (x ∷ xs) e = or_wider (p x) (more x) (list_any p xs) (list_any more xs) (h x) (any_wider p more h xs) e

-- ---- the table of covering, and that of meeting

place_wider : (gap gap_there opens opens_there go more : Bool) → (go ≡ true → more ≡ true) → (across more_across : Bool) → (across ≡ true → more_across ≡ true) → (above more_above : Bool) → (above ≡ true → more_above ≡ true)
    → (left more_left : Bool) → (left ≡ true → more_left ≡ true) → cond gap (above || (opens_there && left)) (cond gap_there false (go && across)) ≡ true
    → cond gap (more_above || (opens_there && more_left)) (cond gap_there (more_left || (opens && more_above)) (more && more_across)) ≡ true
place_wider true gap_there opens opens_there go more w across more_across a above more_above u left more_left l e =
    or_wider above more_above (opens_there && left) (opens_there && more_left) u (and_wider opens_there opens_there left more_left (λ k. k) l) e
place_wider false true opens opens_there go more w across more_across a above more_above u left more_left l e = cc
place_wider false false opens opens_there go more w across more_across a above more_above u left more_left l e = and_wider go more across more_across w a e

module _ {X : Type 0} (gap opens : X → Bool) (go more : X → X → Bool) (wider : (x y : X) → go x y ≡ true → more x y ≡ true) where
  abbrev covering : Signs X
  covering = record { is_gap = gap; is_open = opens; go_together = go; expands = false }

  abbrev meeting : Signs X
  meeting = record { is_gap = gap; is_open = opens; go_together = more; expands = true }

  row_wider : (x : X) (f g : List X → Bool) → ((b : List X) → f b ≡ true → g b ≡ true) → (b : List X) → next_row covering x f b ≡ true → next_row meeting x g b ≡ true
  row_wider x f g h [] e = and_wider (gap x) (gap x) (f []) (g []) (λ k. k) (h []) e
  row_wider x f g h (y ∷ b) e =
      place_wider (gap x) (gap y) (opens x) (opens y) (go x y) (more x y) (wider x y) (f b) (g b) (h b) (f (y ∷ b)) (g (y ∷ b)) (h (y ∷ b)) (next_row covering x f b) (next_row meeting x g b) (row_wider x f g h b) e

  first_wider : (b : List X) → first_row covering b ≡ true → first_row meeting b ≡ true
  first_wider [] e = refl
  first_wider (y ∷ b) e = cc

  pub table_wider : (a b : List X) → table covering a b ≡ true → table meeting a b ≡ true
  table_wider [] b e = first_wider b e
  table_wider (x ∷ a) b e = row_wider x (table covering a) (table meeting a) (table_wider a) b e

behind_two : (a b c more : Bool) → (c ≡ true → more ≡ true) → (a && b && c) ≡ true → (a && b && more) ≡ true
behind_two true true c more f e = f e
behind_two true false c more f e = e
behind_two false b c more f e = e

chunk_wider : (x y : Chunk) → chunks_go_together false x y ≡ true → chunks_go_together true x y ≡ true
chunk_wider Any y e = e
chunk_wider AnyChunks y e = e
chunk_wider (Pieces p) Any e = cc
chunk_wider (Pieces p) AnyChunks e = e
chunk_wider (Pieces p) (Pieces q) e = behind_two (not (is_wild p && begins_verbatim q)) (not (is_wild q && begins_verbatim p)) (pieces_compare false p q) (pieces_compare true p q) (table_wider is_any_chars (λ (x : Piece). true) same_char same_char (λ x y k. k) (reverse p) (reverse q)) e

covers_meets : (a b : List ℕ) → texts_cover a b ≡ true → texts_meet a b ≡ true
unfolding texts_cover texts_meet
covers_meets a b e =
    table_wider is_any_chunks (λ (x : Chunk). not (is_verbatim_chunk x)) (chunks_go_together false) (chunks_go_together true) chunk_wider (reverse (expression_of a)) (reverse (expression_of b)) e

-- ---- what was declared

complete_too : (k : Kind) → is_complete k ≡ true → is_queryable k ≡ true
complete_too Sub e = e
complete_too Able e = refl
complete_too Full e = e
complete_too Token e = e

sought_meets : (sought : Sought) (key : List ℕ) (d : Decl) → is_sought sought key d ≡ true → is_sought (by_meeting sought) key d ≡ true
sought_meets Subscribers key d e = e
sought_meets Queryables key d e = e
sought_meets Complete key d e = and_wider (is_complete d.kind) (is_queryable d.kind) (texts_cover d.key key) (texts_meet d.key key) (complete_too d.kind) (covers_meets d.key key) e

-- where nothing meets, nothing is sought
fails_too : (t more : Bool) → (t ≡ true → more ≡ true) → more ≡ false → t ≡ false
fails_too t more f h = false_from_ne_true t (λ e. absurd (false≢true (sym h ∙ f e)))

pub none_declared : (rows : List Row) (link : ℕ) (sought : Sought) (key : List ℕ) → has_declared rows link (by_meeting sought) key ≡ false → has_declared rows link sought key ≡ false
none_declared rows link sought key h =
    fails_too (has_declared rows link sought key) (has_declared rows link (by_meeting sought) key)
    (any_wider (λ (r : Row). r.link.0 == link && is_sought sought key r.decl) (λ (r : Row). r.link.0 == link && is_sought (by_meeting sought) key r.decl)
    (λ r. and_wider (r.link.0 == link) (r.link.0 == link) (is_sought sought key r.decl) (is_sought (by_meeting sought) key r.decl) (λ k. k) (sought_meets sought key r.decl)) rows)
    h

pub none_in_log : (sought : Sought) (key : List ℕ) (log : Log) → is_in_log (by_meeting sought) key log ≡ false → is_in_log sought key log ≡ false
none_in_log sought key log h =
    fails_too (is_in_log sought key log) (is_in_log (by_meeting sought) key log)
    (any_wider (λ (d : Decl). is_sought sought key d) (λ (d : Decl). is_sought (by_meeting sought) key d) (sought_meets sought key) log.decls)
    h

-- what is found by meeting is all of a kind that meets the key
pub by_meeting_seeks : (sought : Sought) (key : List ℕ) → SeeksMeeting (by_meeting sought) key
by_meeting_seeks Subscribers key d = refl
by_meeting_seeks Queryables key d = refl
by_meeting_seeks Complete key d = refl
