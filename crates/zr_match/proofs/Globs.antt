-- The table of two patterns, over any signs: it tells whether some word is matched by both, and whether the first takes the second.
-- What a pattern matches comes as a relation with its laws (`Matching`); chunks and the pieces within them are two instances.
use Rattle.std.proofs.Common.{◌≡◌, ◌∷◌, ◌++◌, [], List, Bool, true, false, cond, ◌||◌, ◌&&◌, refl, sym, ap, subst, ◌∙◌, append_assoc, append-nil, reverse, not, ◌⊎◌, inl, inr}
use Rattle.std.specs.List.{list_any, list_all}
use Rattle.std.proofs.lemmas.Bool.{and_parts, and_from, or_parts, or_from, or_left, or_right, or_cases, false≢true, not-false}
use Rattle.std.proofs.lemmas.List.{reverse-append}
use Rattle.std.proofs.lemmas.List.Folds.{list_any-append}
use Rattle.zr_match.specs.Table.{Signs, first_row, next_row, table}

-- a word that a pattern with a gap in front matches: a run of letters that the gap may take, and what the rest matches
pub record Gapped {X K : Type 0} (bars : K → Bool) (M : List X → List K → Type 0) (a : List X) (k : List K) : Type 0 where
  pub run : List K
  pub rest : List K
  pub joined : k ≡ run ++ rest
  pub open_run : list_any bars run ≡ false
  pub rest_matches : M a rest

-- a word that a pattern with another sign in front matches: a letter of that sign, and what the rest matches
pub record Headed {X K : Type 0} (L : X → K → Type 0) (M : List X → List K → Type 0) (x : X) (a : List X) (k : List K) : Type 0 where
  pub first : K
  pub rest : List K
  pub joined : k ≡ first ∷ rest
  pub first_matches : L x first
  pub rest_matches : M a rest

-- The laws of matching: the empty pattern, a gap in front, and another sign in front.
pub record Matching {X K : Type 0} (s : Signs X) (bars : K → Bool) (L : X → K → Type 0) (M : List X → List K → Type 0) : Type 0 where
  pub nil_in : M [] []
  pub nil_out : (k : List K) → M [] k → k ≡ []
  pub gap_in : (x : X) (a : List X) (run rest : List K) → s.is_gap x ≡ true → list_any bars run ≡ false → M a rest → M (x ∷ a) (run ++ rest)
  pub gap_out : (x : X) (a : List X) (k : List K) → s.is_gap x ≡ true → M (x ∷ a) k → Gapped bars M a k
  pub one_in : (x : X) (a : List X) (c : K) (k : List K) → s.is_gap x ≡ false → L x c → M a k → M (x ∷ a) (c ∷ k)
  pub one_out : (x : X) (a : List X) (k : List K) → s.is_gap x ≡ false → M (x ∷ a) k → Headed L M x a k

-- What a gap does next: it ends, or it takes a letter.
pub data GapStep {X K : Type 0} (bars : K → Bool) (M : List X → List K → Type 0) (x : X) (a : List X) : List K → Type 0 where
  ends : (k : List K) → M a k → GapStep bars M x a k
  goes_on : (c : K) (k : List K) → bars c ≡ false → M (x ∷ a) k → GapStep bars M x a (c ∷ k)

module _ {X K : Type 0} (s : Signs X) (bars : K → Bool) (L : X → K → Type 0) (M : List X → List K → Type 0) (law : Matching s bars L M) where
  pub gap_skip : (x : X) (a : List X) (k : List K) → s.is_gap x ≡ true → M a k → M (x ∷ a) k
  gap_skip x a k g m = law.gap_in x a [] k g refl m

  pub gap_take : (x : X) (a : List X) (c : K) (k : List K) → s.is_gap x ≡ true → bars c ≡ false → M (x ∷ a) k → M (x ∷ a) (c ∷ k)
  gap_take x a c k g opened m =
      let h = law.gap_out x a k g m in
      subst (λ z. M (x ∷ a) (c ∷ z)) (sym h.joined) (law.gap_in x a (c ∷ h.run) h.rest g (or_from (bars c) (list_any bars h.run) opened h.open_run) h.rest_matches)

  pub gap_step : (x : X) (a : List X) (k : List K) → s.is_gap x ≡ true → M (x ∷ a) k → GapStep bars M x a k
  gap_step x a k g m =
      let h = law.gap_out x a k g m in
      subst (λ z. GapStep bars M x a z) (sym h.joined) (by h.run h.rest h.open_run h.rest_matches)
    where
      by : (run rest : List K) → list_any bars run ≡ false → M a rest → GapStep bars M x a (run ++ rest)
      by [] rest opened n = ends rest n
      by (c ∷ run) rest opened n =
          let parts = or_parts (bars c) (list_any bars run) opened in
          goes_on c (run ++ rest) parts.0 (law.gap_in x a run rest g parts.1 n)

  pub one_nil : (x : X) (a : List X) → s.is_gap x ≡ false → M (x ∷ a) [] → ⊥
  one_nil x a g m =
      let h = law.one_out x a [] g m in
      let e : [] ≡ h.first ∷ h.rest = h.joined in
      cc

  pub gap_nil : (x : X) (a : List X) → s.is_gap x ≡ true → M (x ∷ a) [] → M a []
  gap_nil x a g m = by (gap_step x a [] g m)
    where
      by : GapStep bars M x a [] → M a []
      by (ends k n) = n

  -- before a letter a gap ends, or takes it
  pub gap_cons : (x : X) (a : List X) (c : K) (k : List K) → s.is_gap x ≡ true → M (x ∷ a) (c ∷ k) → M a (c ∷ k) ⊎ ((bars c ≡ false) × M (x ∷ a) k)
  gap_cons x a c k g m = by (gap_step x a (c ∷ k) g m)
    where
      by : GapStep bars M x a (c ∷ k) → M a (c ∷ k) ⊎ ((bars c ≡ false) × M (x ∷ a) k)
      by (ends z q) = inl q
      by (goes_on d l o q) = inr (o, q)

  -- a sign before a letter matches it
  pub one_cons : (x : X) (a : List X) (c : K) (k : List K) → s.is_gap x ≡ false → M (x ∷ a) (c ∷ k) → L x c × M a k
  one_cons x a c k g m =
      let h = law.one_out x a (c ∷ k) g m in
      let e : c ∷ k ≡ h.first ∷ h.rest = h.joined in
      let first : h.first ≡ c = cc in
      let rest : h.rest ≡ k = cc in
      (subst (λ z. L x z) first h.first_matches, subst (λ z. M a z) rest h.rest_matches)

  -- patterns in a row match words in a row
  joined_step : (x : X) (a b : List X) (v : List K) → ((w : List K) → M a w → M (a ++ b) (w ++ v)) → (u : List K) → M (x ∷ a) u → (g : Bool) → s.is_gap x ≡ g → M (x ∷ (a ++ b)) (u ++ v)
  joined_step x a b v ih u m true g =
      let h = law.gap_out x a u g m in
      subst (λ z. M (x ∷ (a ++ b)) z) (sym (append_assoc h.run h.rest v) ∙ ap (λ z. z ++ v) (sym h.joined))
      (law.gap_in x (a ++ b) h.run (h.rest ++ v) g h.open_run (ih h.rest h.rest_matches))
  joined_step x a b v ih u m false g =
      let h = law.one_out x a u g m in
      subst (λ z. M (x ∷ (a ++ b)) (z ++ v)) (sym h.joined) (law.one_in x (a ++ b) h.first (h.rest ++ v) g h.first_matches (ih h.rest h.rest_matches))

  pub joined_matches : (a b : List X) (u v : List K) → M a u → M b v → M (a ++ b) (u ++ v)
  joined_matches [] b u v m n = subst (λ z. M b (z ++ v)) (sym (law.nil_out u m)) n
  joined_matches (x ∷ a) b u v m n = joined_step x a b v (λ w o. joined_matches a b w v o n) u m (s.is_gap x) refl

  -- one sign matches a word read backwards
  any_reverse : (run : List K) → list_any bars run ≡ false → list_any bars (reverse run) ≡ false
  any_reverse [] h = refl
  any_reverse (c ∷ run) h =
      let parts = or_parts (bars c) (list_any bars run) h in
      ap (λ z. list_any bars z) (reverse-append (c ∷ []) run) ∙ list_any-append bars (reverse run) (c ∷ [])
      ∙ or_from (list_any bars (reverse run)) (list_any bars (c ∷ [])) (any_reverse run parts.1) (or_from (bars c) false parts.0 refl)

  one_reverse : (x : X) (k : List K) → M (x ∷ []) k → (g : Bool) → s.is_gap x ≡ g → M (x ∷ []) (reverse k)
  one_reverse x k m true g =
      let h = law.gap_out x [] k g m in
      let all : k ≡ h.run = h.joined ∙ ap (λ z. h.run ++ z) (law.nil_out h.rest h.rest_matches) ∙ append-nil h.run in
      subst (λ z. M (x ∷ []) z) (append-nil (reverse h.run) ∙ ap (λ z. reverse z) (sym all)) (law.gap_in x [] (reverse h.run) [] g (any_reverse h.run h.open_run) law.nil_in)
  one_reverse x k m false g =
      let h = law.one_out x [] k g m in
      let all : k ≡ h.first ∷ [] = h.joined ∙ ap (λ z. h.first ∷ z) (law.nil_out h.rest h.rest_matches) in
      subst (λ z. M (x ∷ []) z) (ap (λ z. reverse z) (sym all)) (law.one_in x [] h.first [] g h.first_matches law.nil_in)

  -- a pattern read backwards matches a word read backwards
  head_part : (x : X) (a : List X) (k : List K) → M (x ∷ a) k → (g : Bool) → s.is_gap x ≡ g → (u : List K) × (v : List K) × (k ≡ u ++ v) × M (x ∷ []) u × M a v
  head_part x a k m true g =
      let h = law.gap_out x a k g m in
      (h.run, h.rest, h.joined, subst (λ z. M (x ∷ []) z) (append-nil h.run) (law.gap_in x [] h.run [] g h.open_run law.nil_in), h.rest_matches)
  head_part x a k m false g =
      let h = law.one_out x a k g m in
      (h.first ∷ [], h.rest, h.joined, law.one_in x [] h.first [] g h.first_matches law.nil_in, h.rest_matches)

  pub reverse_matches : (a : List X) (k : List K) → M a k → M (reverse a) (reverse k)
  reverse_matches [] k m = subst (λ z. M [] (reverse z)) (sym (law.nil_out k m)) law.nil_in
  reverse_matches (x ∷ a) k m =
      let h = head_part x a k m (s.is_gap x) refl in
      let back : M (reverse a ++ x ∷ []) (reverse h.1 ++ reverse h.0) = joined_matches (reverse a) (x ∷ []) (reverse h.1) (reverse h.0) (reverse_matches a h.1 h.4) (one_reverse x h.0 h.3 (s.is_gap x) refl) in
      subst (λ z. M z (reverse k)) (sym (reverse-append (x ∷ []) a))
      (subst (λ z. M (reverse a ++ x ∷ []) z) (sym (reverse-append h.0 h.1) ∙ ap (λ z. reverse z) (sym h.2)) back)

-- a word that two patterns both match
pub record Common {X K : Type 0} (good : K → Bool) (M : List X → List K → Type 0) (a b : List X) : Type 0 where
  pub word : List K
  pub is_good : list_all good word ≡ true
  pub first_matches : M a word
  pub second_matches : M b word

-- a letter that a sign matches, and that a gap may take
pub record OpenLetter {X K : Type 0} (bars good : K → Bool) (L : X → K → Type 0) (x : X) : Type 0 where
  pub letter : K
  pub is_good : good letter ≡ true
  pub opened : bars letter ≡ false
  pub matches : L x letter

-- a letter that two signs both match
pub record SharedLetter {X K : Type 0} (good : K → Bool) (L : X → K → Type 0) (x y : X) : Type 0 where
  pub letter : K
  pub is_good : good letter ≡ true
  pub first_matches : L x letter
  pub second_matches : L y letter

-- The tests of the signs tell what letters the signs share.
pub record Sharing {X K : Type 0} (s : Signs X) (bars good : K → Bool) (ok : X → Bool) (L : X → K → Type 0) : Type 0 where
  pub expands : s.expands ≡ true
  pub gap_open : (y : X) → s.is_gap y ≡ true → s.is_open y ≡ true
  pub open_letter : (x : X) → ok x ≡ true → s.is_gap x ≡ false → s.is_open x ≡ true → OpenLetter bars good L x
  pub letter_open : (x : X) (c : K) → L x c → bars c ≡ false → s.is_open x ≡ true
  pub shared : (x y : X) → ok x ≡ true → ok y ≡ true → s.is_gap x ≡ false → s.is_gap y ≡ false → s.go_together x y ≡ true → SharedLetter good L x y
  pub together : (x y : X) (c : K) → L x c → L y c → s.go_together x y ≡ true

module _ {X K : Type 0} (s : Signs X) (bars good : K → Bool) (ok : X → Bool) (L : X → K → Type 0) (M : List X → List K → Type 0) (law : Matching s bars L M) (tests : Sharing s bars good ok L) where
  -- the first row is right
  first_sound : (b : List X) → first_row s b ≡ true → M b []
  first_sound [] h = law.nil_in
  first_sound (y ∷ b) h =
      let outer = and_parts (s.expands && s.is_gap y) (first_row s b) h in
      let inner = and_parts s.expands (s.is_gap y) outer.0 in
      gap_skip s bars L M law y b [] inner.1 (first_sound b outer.1)

  -- a place of the table is right where the places beside it are
  place_sound : (x : X) (a : List X) (y : X) (b : List X) (across above left : Bool) → ok x ≡ true → ok y ≡ true
      → (across ≡ true → Common good M a b) → (above ≡ true → Common good M a (y ∷ b)) → (left ≡ true → Common good M (x ∷ a) b)
      → (g h : Bool) → s.is_gap x ≡ g → s.is_gap y ≡ h
      → cond g (above || s.is_open y && left) (cond h (s.expands && (left || s.is_open x && above)) (s.go_together x y && across)) ≡ true
      → Common good M (x ∷ a) (y ∷ b)
  place_sound x a y b across above left okx oky da ab le true h g e t = by (or_cases above (s.is_open y && left) t)
    where
      taken : Common good M (x ∷ a) b → s.is_open y ≡ true → (h : Bool) → s.is_gap y ≡ h → Common good M (x ∷ a) (y ∷ b)
      taken c o true e = record { word = c.word; is_good = c.is_good; first_matches = c.first_matches; second_matches = gap_skip s bars L M law y b c.word e c.second_matches }
      taken c o false e =
          let l = tests.open_letter y oky e o in
          record {
            word = l.letter ∷ c.word;
            is_good = and_from (good l.letter) (list_all good c.word) l.is_good c.is_good;
            first_matches = gap_take s bars L M law x a l.letter c.word g l.opened c.first_matches;
            second_matches = law.one_in y b l.letter c.word e l.matches c.second_matches;
          }

      by : (above ≡ true) ⊎ ((s.is_open y && left) ≡ true) → Common good M (x ∷ a) (y ∷ b)
      by (inl u) =
          let c = ab u in
          record { word = c.word; is_good = c.is_good; first_matches = gap_skip s bars L M law x a c.word g c.first_matches; second_matches = c.second_matches }
      by (inr u) =
          let parts = and_parts (s.is_open y) left u in
          taken (le parts.1) parts.0 (s.is_gap y) refl
  place_sound x a y b across above left okx oky da ab le false true g e t = by (or_cases left (s.is_open x && above) (and_parts s.expands (left || s.is_open x && above) t).1)
    where
      by : (left ≡ true) ⊎ ((s.is_open x && above) ≡ true) → Common good M (x ∷ a) (y ∷ b)
      by (inl u) =
          let c = le u in
          record { word = c.word; is_good = c.is_good; first_matches = c.first_matches; second_matches = gap_skip s bars L M law y b c.word e c.second_matches }
      by (inr u) =
          let parts = and_parts (s.is_open x) above u in
          let c = ab parts.1 in
          let l = tests.open_letter x okx g parts.0 in
          record {
            word = l.letter ∷ c.word;
            is_good = and_from (good l.letter) (list_all good c.word) l.is_good c.is_good;
            first_matches = law.one_in x a l.letter c.word g l.matches c.first_matches;
            second_matches = gap_take s bars L M law y b l.letter c.word e l.opened c.second_matches;
          }
  place_sound x a y b across above left okx oky da ab le false false g e t =
      let parts = and_parts (s.go_together x y) across t in
      let c = da parts.1 in
      let l = tests.shared x y okx oky g e parts.0 in
      record {
        word = l.letter ∷ c.word;
        is_good = and_from (good l.letter) (list_all good c.word) l.is_good c.is_good;
        first_matches = law.one_in x a l.letter c.word g l.first_matches c.first_matches;
        second_matches = law.one_in y b l.letter c.word e l.second_matches c.second_matches;
      }

  row_sound : (x : X) (a : List X) → ok x ≡ true → ((b : List X) → list_all ok b ≡ true → table s a b ≡ true → Common good M a b)
      → (b : List X) → list_all ok b ≡ true → next_row s x (table s a) b ≡ true → Common good M (x ∷ a) b
  row_sound x a okx ih [] okb h =
      let parts = and_parts (s.is_gap x) (table s a []) h in
      let c = ih [] okb parts.1 in
      record { word = c.word; is_good = c.is_good; first_matches = gap_skip s bars L M law x a c.word parts.0 c.first_matches; second_matches = c.second_matches }
  row_sound x a okx ih (y ∷ b) okb h =
      let oks = and_parts (ok y) (list_all ok b) okb in
      place_sound x a y b (table s a b) (table s a (y ∷ b)) (next_row s x (table s a) b) okx oks.0
      (ih b oks.1) (ih (y ∷ b) okb) (row_sound x a okx ih b oks.1) (s.is_gap x) (s.is_gap y) refl refl h

  -- where the table says so, a word is matched by both
  pub table_sound : (a b : List X) → list_all ok a ≡ true → list_all ok b ≡ true → table s a b ≡ true → Common good M a b
  table_sound [] b oka okb h = record { word = []; is_good = refl; first_matches = law.nil_in; second_matches = first_sound b h }
  table_sound (x ∷ a) b oka okb h =
      let oks = and_parts (ok x) (list_all ok a) oka in
      row_sound x a oks.0 (λ c okc t. table_sound a c oks.1 okc t) b okb h

  -- the other way round: a word that both match makes the first row true
  first_complete : (b : List X) → M b [] → first_row s b ≡ true
  first_complete [] m = refl
  first_complete (y ∷ b) m = by (s.is_gap y) refl (λ n. first_complete b n)
    where
      by : (g : Bool) → s.is_gap y ≡ g → (M b [] → first_row s b ≡ true) → (s.expands && s.is_gap y && first_row s b) ≡ true
      by true g ih = and_from (s.expands && s.is_gap y) (first_row s b) (and_from s.expands (s.is_gap y) tests.expands g) (ih (gap_nil s bars L M law y b g m))
      by false g ih = absurd (one_nil s bars L M law y b g m)

  -- two gaps: one of them ends, or both take the next letter
  both_gaps : (x : X) (a : List X) (y : X) (b : List X) (above left : Bool) → s.is_gap x ≡ true → s.is_gap y ≡ true
      → ((k : List K) → M a k → M (y ∷ b) k → above ≡ true) → ((k : List K) → M (x ∷ a) k → M b k → left ≡ true)
      → (k : List K) → M (x ∷ a) k → M (y ∷ b) k → (above || s.is_open y && left) ≡ true
  both_gaps x a y b above left g h ab le [] m n = or_left above (s.is_open y && left) (ab [] (gap_nil s bars L M law x a g m) n)
  both_gaps x a y b above left g h ab le (c ∷ k) m n =
      by (gap_cons s bars L M law x a c k g m) (gap_cons s bars L M law y b c k h n) (λ o p. both_gaps x a y b above left g h ab le k o p)
    where
      by : M a (c ∷ k) ⊎ ((bars c ≡ false) × M (x ∷ a) k) → M b (c ∷ k) ⊎ ((bars c ≡ false) × M (y ∷ b) k)
          → (M (x ∷ a) k → M (y ∷ b) k → (above || s.is_open y && left) ≡ true) → (above || s.is_open y && left) ≡ true
      by (inl u) v ih = or_left above (s.is_open y && left) (ab (c ∷ k) u n)
      by (inr u) (inl v) ih = or_right above (s.is_open y && left) (and_from (s.is_open y) left (tests.gap_open y h) (le (c ∷ k) m v))
      by (inr u) (inr v) ih = ih u.1 v.1

  place_complete : (x : X) (a : List X) (y : X) (b : List X) (across above left : Bool)
      → ((k : List K) → M a k → M b k → across ≡ true) → ((k : List K) → M a k → M (y ∷ b) k → above ≡ true) → ((k : List K) → M (x ∷ a) k → M b k → left ≡ true)
      → (k : List K) → M (x ∷ a) k → M (y ∷ b) k → (g h : Bool) → s.is_gap x ≡ g → s.is_gap y ≡ h
      → cond g (above || s.is_open y && left) (cond h (s.expands && (left || s.is_open x && above)) (s.go_together x y && across)) ≡ true
  place_complete x a y b across above left da ab le k m n true true g h = both_gaps x a y b above left g h ab le k m n
  place_complete x a y b across above left da ab le [] m n true false g h = absurd (one_nil s bars L M law y b h n)
  place_complete x a y b across above left da ab le (c ∷ k) m n true false g h = by (gap_cons s bars L M law x a c k g m)
    where
      by : M a (c ∷ k) ⊎ ((bars c ≡ false) × M (x ∷ a) k) → (above || s.is_open y && left) ≡ true
      by (inl u) = or_left above (s.is_open y && left) (ab (c ∷ k) u n)
      by (inr u) =
          let o = one_cons s bars L M law y b c k h n in
          or_right above (s.is_open y && left) (and_from (s.is_open y) left (tests.letter_open y c o.0 u.0) (le k u.1 o.1))
  place_complete x a y b across above left da ab le [] m n false true g h = absurd (one_nil s bars L M law x a g m)
  place_complete x a y b across above left da ab le (c ∷ k) m n false true g h = and_from s.expands (left || s.is_open x && above) tests.expands (by (gap_cons s bars L M law y b c k h n))
    where
      by : M b (c ∷ k) ⊎ ((bars c ≡ false) × M (y ∷ b) k) → (left || s.is_open x && above) ≡ true
      by (inl u) = or_left left (s.is_open x && above) (le (c ∷ k) m u)
      by (inr u) =
          let o = one_cons s bars L M law x a c k g m in
          or_right left (s.is_open x && above) (and_from (s.is_open x) above (tests.letter_open x c o.0 u.0) (ab k o.1 u.1))
  place_complete x a y b across above left da ab le [] m n false false g h = absurd (one_nil s bars L M law x a g m)
  place_complete x a y b across above left da ab le (c ∷ k) m n false false g h =
      let o = one_cons s bars L M law x a c k g m in
      let p = one_cons s bars L M law y b c k h n in
      and_from (s.go_together x y) across (tests.together x y c o.0 p.0) (da k o.1 p.1)

  row_complete : (x : X) (a : List X) → ((b : List X) (k : List K) → M a k → M b k → table s a b ≡ true)
      → (b : List X) (k : List K) → M (x ∷ a) k → M b k → next_row s x (table s a) b ≡ true
  row_complete x a ih [] k m n = by (s.is_gap x) refl (subst (λ z. M (x ∷ a) z) (law.nil_out k n) m)
    where
      by : (g : Bool) → s.is_gap x ≡ g → M (x ∷ a) [] → (s.is_gap x && table s a []) ≡ true
      by true g o = and_from (s.is_gap x) (table s a []) g (ih [] [] (gap_nil s bars L M law x a g o) law.nil_in)
      by false g o = absurd (one_nil s bars L M law x a g o)
  row_complete x a ih (y ∷ b) k m n =
      place_complete x a y b (table s a b) (table s a (y ∷ b)) (next_row s x (table s a) b) (ih b) (ih (y ∷ b)) (row_complete x a ih b) k m n (s.is_gap x) (s.is_gap y) refl refl

  -- where a word is matched by both, the table says so
  pub table_complete : (a b : List X) (k : List K) → M a k → M b k → table s a b ≡ true
  table_complete [] b k m n = first_complete b (subst (λ z. M b z) (law.nil_out k m) n)
  table_complete (x ∷ a) b k m n = row_complete x a (λ c l o p. table_complete a c l o p) b k m n

-- The tests of signs that do not expand tell which sign takes which: the signs of the second pattern are the letters.
pub record Taking {X : Type 0} (s : Signs X) (L : X → X → Type 0) : Type 0 where
  pub keeps : s.expands ≡ false
  pub takes : (x y : X) → s.is_gap x ≡ false → s.is_gap y ≡ false → s.go_together x y ≡ true → L x y
  pub together : (x y : X) → L x y → s.go_together x y ≡ true
  pub no_gap : (x y : X) → L x y → s.is_gap y ≡ false

-- whether a gap may not take a sign
abbrev pub barred : {X : Type 0} → Signs X → X → Bool
barred s y = not (s.is_open y)

module _ {X : Type 0} (s : Signs X) (L : X → X → Type 0) (M : List X → List X → Type 0) (law : Matching s (barred s) L M) (tests : Taking s L) where
  -- where the table says so, the first pattern takes the second
  place_takes : (x : X) (a : List X) (y : X) (b : List X) (across above left : Bool)
      → (across ≡ true → M a b) → (above ≡ true → M a (y ∷ b)) → (left ≡ true → M (x ∷ a) b)
      → (g h : Bool) → s.is_gap x ≡ g → s.is_gap y ≡ h
      → cond g (above || s.is_open y && left) (cond h (s.expands && (left || s.is_open x && above)) (s.go_together x y && across)) ≡ true
      → M (x ∷ a) (y ∷ b)
  place_takes x a y b across above left da ab le true h g e t = by (or_cases above (s.is_open y && left) t)
    where
      by : (above ≡ true) ⊎ ((s.is_open y && left) ≡ true) → M (x ∷ a) (y ∷ b)
      by (inl u) = gap_skip s (barred s) L M law x a (y ∷ b) g (ab u)
      by (inr u) =
          let parts = and_parts (s.is_open y) left u in
          gap_take s (barred s) L M law x a y b g (ap (λ z. not z) parts.0) (le parts.1)
  place_takes x a y b across above left da ab le false true g e t =
      absurd (false≢true (sym tests.keeps ∙ (and_parts s.expands (left || s.is_open x && above) t).0))
  place_takes x a y b across above left da ab le false false g e t =
      let parts = and_parts (s.go_together x y) across t in
      law.one_in x a y b g (tests.takes x y g e parts.0) (da parts.1)

  row_takes : (x : X) (a : List X) → ((b : List X) → table s a b ≡ true → M a b) → (b : List X) → next_row s x (table s a) b ≡ true → M (x ∷ a) b
  row_takes x a ih [] h =
      let parts = and_parts (s.is_gap x) (table s a []) h in
      gap_skip s (barred s) L M law x a [] parts.0 (ih [] parts.1)
  row_takes x a ih (y ∷ b) h =
      place_takes x a y b (table s a b) (table s a (y ∷ b)) (next_row s x (table s a) b) (ih b) (ih (y ∷ b)) (row_takes x a ih b) (s.is_gap x) (s.is_gap y) refl refl h

  first_takes : (b : List X) → first_row s b ≡ true → M [] b
  first_takes [] h = law.nil_in
  first_takes (y ∷ b) h = absurd (false≢true (sym tests.keeps ∙ (and_parts s.expands (s.is_gap y) (and_parts (s.expands && s.is_gap y) (first_row s b) h).0).0))

  pub table_takes : (a b : List X) → table s a b ≡ true → M a b
  table_takes [] b h = first_takes b h
  table_takes (x ∷ a) b h = row_takes x a (λ c t. table_takes a c t) b h

  -- and where it does, the table says so
  place_taken : (x : X) (a : List X) (y : X) (b : List X) (across above left : Bool)
      → (M a b → across ≡ true) → (M a (y ∷ b) → above ≡ true) → (M (x ∷ a) b → left ≡ true)
      → M (x ∷ a) (y ∷ b) → (g h : Bool) → s.is_gap x ≡ g → s.is_gap y ≡ h
      → cond g (above || s.is_open y && left) (cond h (s.expands && (left || s.is_open x && above)) (s.go_together x y && across)) ≡ true
  place_taken x a y b across above left da ab le m true h g e = by (gap_cons s (barred s) L M law x a y b g m)
    where
      by : M a (y ∷ b) ⊎ ((barred s y ≡ false) × M (x ∷ a) b) → (above || s.is_open y && left) ≡ true
      by (inl u) = or_left above (s.is_open y && left) (ab u)
      by (inr u) = or_right above (s.is_open y && left) (and_from (s.is_open y) left (not-false (s.is_open y) u.0) (le u.1))
  place_taken x a y b across above left da ab le m false true g e =
      absurd (false≢true (sym (tests.no_gap x y (one_cons s (barred s) L M law x a y b g m).0) ∙ e))
  place_taken x a y b across above left da ab le m false false g e =
      let o = one_cons s (barred s) L M law x a y b g m in
      and_from (s.go_together x y) across (tests.together x y o.0) (da o.1)

  row_taken : (x : X) (a : List X) → ((b : List X) → M a b → table s a b ≡ true) → (b : List X) → M (x ∷ a) b → next_row s x (table s a) b ≡ true
  row_taken x a ih [] m = by (s.is_gap x) refl
    where
      by : (g : Bool) → s.is_gap x ≡ g → (s.is_gap x && table s a []) ≡ true
      by true g = and_from (s.is_gap x) (table s a []) g (ih [] (gap_nil s (barred s) L M law x a g m))
      by false g = absurd (one_nil s (barred s) L M law x a g m)
  row_taken x a ih (y ∷ b) m =
      place_taken x a y b (table s a b) (table s a (y ∷ b)) (next_row s x (table s a) b) (ih b) (ih (y ∷ b)) (row_taken x a ih b) m (s.is_gap x) (s.is_gap y) refl refl

  pub table_taken : (a b : List X) → M a b → table s a b ≡ true
  table_taken [] b m = ap (λ z. first_row s z) (law.nil_out b m)
  table_taken (x ∷ a) b m = row_taken x a (λ c n. table_taken a c n) b m
