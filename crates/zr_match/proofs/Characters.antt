-- Bytes and characters: where two lists of pieces of characters fit one text as bytes, they fit one text of characters.
-- A byte that begins a character is none that goes on in one, so a `$*` that ends within a character of the other list can end before it.
use Rattle.std.proofs.Common.{◌≡◌, ℕ, ◌+◌, ◌/◌, ◌%◌, ◌≤◌, ◌∷◌, ◌++◌, [], List, Bool, true, false, ◌&&◌, ◌⊎◌, inl, inr, refl, sym, ap, subst, ◌∙◌, arith, nat_lt, nat_le, append_assoc}
use lib.Utf8.{encode, encodes, next}
use Rattle.std.specs.List.{list_all, flat_map}
use Rattle.std.proofs.lemmas.Bool.{and_parts, and_from, lt-ltb, le-ltb, le-leb, lt-leb, ltb-true, false≢true}
use Rattle.std.proofs.lemmas.List.Folds.{list_all-append}
use Rattle.std.proofs.lemmas.Str.{encode_same, encodes-append}
use Rattle.std.proofs.Math.Bool.{and-false}
use Rattle.zr_key.specs.Expression.{Piece, Char, AnyChars, Fits}
use Rattle.zr_match.specs.Laws.{piece_passes}
use Rattle.zr_match.proofs.Globs.{Common}
use Rattle.zr_match.proofs.PieceTable.{chars}

-- a byte that goes on in a character
abbrev pub goes_on : ℕ → Bool
goes_on b = nat_le 128 b && nat_lt b 192

pub record Shape (c : ℕ) : Type 0 where
  pub lead : ℕ
  pub tail : List ℕ
  pub bytes : encode c ≡ lead ∷ tail
  pub begins : goes_on lead ≡ false
  pub rest : list_all goes_on tail ≡ true
  pub high : 128 ≤ c → 128 ≤ lead

next_goes_on : (n : ℕ) → goes_on (128 + n % 64) ≡ true
next_goes_on n = and_from (nat_le 128 (128 + n % 64)) (nat_lt (128 + n % 64) 192) (le-leb 128 (128 + n % 64) (omega arith)) (lt-ltb (128 + n % 64) 192 (omega arith))

lead_begins : (k n : ℕ) → 192 ≤ k → goes_on (k + n) ≡ false
lead_begins k n h = rw (le-ltb (k + n) 192 (omega arith)) (and-false (nat_le 128 (k + n)))

pub shape : (c : ℕ) → Shape c
unfolding encode
shape c = by (nat_lt c 128) (nat_lt c 2048) (nat_lt c 65536) refl refl refl
  where
    by : (x y z : Bool) → nat_lt c 128 ≡ x → nat_lt c 2048 ≡ y → nat_lt c 65536 ≡ z → Shape c
    by true y z p q r = record { lead = c; tail = []; bytes = rw p refl; begins = rw (lt-leb 128 c (ltb-true c 128 p)) refl; rest = refl; high = λ h. h }
    by false true z p q r = record { lead = 192 + c / 64; tail = next c ∷ []; bytes = rw (p, q) refl; begins = lead_begins 192 (c / 64) (omega arith); rest = and_from (goes_on (next c)) true (next_goes_on c) refl; high = λ h. omega arith }
    by false false true p q r = record {
      lead = 224 + c / 4096;
      tail = next (c / 64) ∷ next c ∷ [];
      bytes = rw (p, q, r) refl;
      begins = lead_begins 224 (c / 4096) (omega arith);
      rest = and_from (goes_on (next (c / 64))) (list_all goes_on (next c ∷ [])) (next_goes_on (c / 64)) (and_from (goes_on (next c)) true (next_goes_on c) refl);
      high = λ h. omega arith;
    }
    by false false false p q r = record {
      lead = 240 + c / 262144;
      tail = next (c / 4096) ∷ next (c / 64) ∷ next c ∷ [];
      bytes = rw (p, q, r) refl;
      begins = lead_begins 240 (c / 262144) (omega arith);
      rest = and_from (goes_on (next (c / 4096))) (list_all goes_on (next (c / 64) ∷ next c ∷ [])) (next_goes_on (c / 4096))
          (and_from (goes_on (next (c / 64))) (list_all goes_on (next c ∷ [])) (next_goes_on (c / 64)) (and_from (goes_on (next c)) true (next_goes_on c) refl));
      high = λ h. omega arith;
    }

high_rest : (t : List ℕ) → list_all goes_on t ≡ true → list_all (λ b. nat_le 128 b) t ≡ true
high_rest [] h = refl
high_rest (b ∷ t) h =
    let parts = and_parts (goes_on b) (list_all goes_on t) h in
    and_from (nat_le 128 b) (list_all (λ d. nat_le 128 d) t) (and_parts (nat_le 128 b) (nat_lt b 192) parts.0).0 (high_rest t parts.1)

-- the bytes of a character that is not ASCII are none of an ASCII character
pub high_encode : (c : ℕ) → 128 ≤ c → list_all (λ b. nat_le 128 b) (encode c) ≡ true
high_encode c h =
    let s = shape c in
    ap (λ z. list_all (λ b. nat_le 128 b) z) s.bytes ∙ and_from (nat_le 128 s.lead) (list_all (λ b. nat_le 128 b) s.tail) (le-leb 128 s.lead (s.high h)) (high_rest s.tail s.rest)

-- pieces of characters as pieces of bytes
abbrev pub piece_bytes : Piece → List Piece
piece_bytes (Char c) = chars (encode c)
piece_bytes AnyChars = AnyChars ∷ []

abbrev pub bytes_of : List Piece → List Piece
bytes_of p = flat_map piece_bytes p

-- two cuts of one list: the first is no later, or else it is
later_cut : (u v r t : List ℕ) → u ++ v ≡ r ++ t → ((s : List ℕ) × (r ≡ u ++ s) × (v ≡ s ++ t)) ⊎ ((b : ℕ) × (s : List ℕ) × (u ≡ r ++ b ∷ s) × (t ≡ (b ∷ s) ++ v))
later_cut [] v r t e = inl (r, refl, e)
later_cut (x ∷ u) v [] t e = inr (x, u, refl, sym e)
later_cut (x ∷ u) v (y ∷ r) t e =
    let first : x ≡ y = cc in
    let rest : u ++ v ≡ r ++ t = cc in
    by first (later_cut u v r t rest)
  where
    by : x ≡ y → ((s : List ℕ) × (r ≡ u ++ s) × (v ≡ s ++ t)) ⊎ ((b : ℕ) × (s : List ℕ) × (u ≡ r ++ b ∷ s) × (t ≡ (b ∷ s) ++ v))
        → ((s : List ℕ) × (y ∷ r ≡ (x ∷ u) ++ s) × (v ≡ s ++ t)) ⊎ ((b : ℕ) × (s : List ℕ) × (x ∷ u ≡ (y ∷ r) ++ b ∷ s) × (t ≡ (b ∷ s) ++ v))
    by f (inl h) =
        let g : r ≡ u ++ h.0 = h.1 in
        inl (h.0, cc, h.2)
    by f (inr h) =
        let g : u ≡ r ++ h.0 ∷ h.1 = h.2 in
        inr (h.0, h.1, cc, h.3)

-- characters in front of pieces fit themselves in front of a text
chars_cut : (u : List ℕ) (p : List Piece) (w : List ℕ) → Fits (chars u ++ p) w → (t : List ℕ) × (w ≡ u ++ t) × Fits p t
chars_cut [] p w m = (w, refl, m)
chars_cut (c ∷ u) p [] m = absurd m
chars_cut (c ∷ u) p (b ∷ w) m =
    let h = chars_cut u p w m.1 in
    let first : c ≡ b = m.0 in
    let rest : w ≡ u ++ h.0 = h.1 in
    (h.0, cc, h.2)

-- A `$*` that ended within a character ends before it.
within : (c : ℕ) (y : ℕ) (run : List ℕ) (b : ℕ) (s : List ℕ) → encode c ≡ (y ∷ run) ++ b ∷ s → goes_on b ≡ true
within c y run b s e =
    let h = shape c in
    let both : h.lead ∷ h.tail ≡ y ∷ (run ++ b ∷ s) = sym h.bytes ∙ e in
    let tail : h.tail ≡ run ++ b ∷ s = cc in
    let all : (list_all goes_on run && list_all goes_on (b ∷ s)) ≡ true = sym (list_all-append goes_on run (b ∷ s)) ∙ ap (λ z. list_all goes_on z) (sym tail) ∙ h.rest in
    (and_parts (goes_on b) (list_all goes_on s) (and_parts (list_all goes_on run) (list_all goes_on (b ∷ s)) all).1).0

not_there : (d : ℕ) (q : List Piece) (b : ℕ) (w : List ℕ) → goes_on b ≡ true → Fits (chars (encode d) ++ q) (b ∷ w) → ⊥
not_there d q b w g m =
    let h = shape d in
    let n : Fits (chars (h.lead ∷ h.tail) ++ q) (b ∷ w) = subst (λ z. Fits (chars z ++ q) (b ∷ w)) h.bytes m in
    let first : h.lead ≡ b = n.0 in
    false≢true (sym h.begins ∙ ap (λ z. goes_on z) first ∙ g)

regain : (c : ℕ) (run rest v : List ℕ) (b : ℕ) (s w : List ℕ) (q : List Piece) → encode c ≡ run ++ b ∷ s → rest ≡ (b ∷ s) ++ v → w ≡ run ++ rest → Fits (bytes_of q) rest → Fits (bytes_of q) w
regain c [] rest v b s w q e f g m = subst (λ z. Fits (bytes_of q) z) (sym g) m
regain c (y ∷ run) rest v b s w [] e f g m =
    let none : rest ≡ [] = m in
    cc
regain c (y ∷ run) rest v b s w (Char d ∷ q) e f g m = absurd (not_there d (bytes_of q) b (s ++ v) (within c y run b s e) (subst (λ z. Fits (bytes_of (Char d ∷ q)) z) f m))
regain c (y ∷ run) rest v b s w (AnyChars ∷ q) e f g m =
    ((y ∷ run) ++ m.0, m.1, g ∙ ap (λ z. (y ∷ run) ++ z) m.2 ∙ sym (append_assoc (y ∷ run) m.0 m.1), m.3)

none_fits : (q : List Piece) (w : List ℕ) → w ≡ [] → Fits (bytes_of q) w → Fits q []
none_fits [] w e m = refl
none_fits (Char d ∷ q) w e m =
    let h = chars_cut (encode d) (bytes_of q) w m in
    let s = shape d in
    let bytes : encode d ≡ s.lead ∷ s.tail = s.bytes in
    let whole : w ≡ encode d ++ h.0 = h.1 in
    let some : [] ≡ (s.lead ∷ s.tail) ++ h.0 = sym e ∙ whole ∙ ap (λ z. z ++ h.0) bytes in
    cc
none_fits (AnyChars ∷ q) w e m =
    let rest : m.1 ≡ [] = second_none m.0 m.1 (sym m.2 ∙ e) in
    ([], [], refl, none_fits q m.1 rest m.3)
  where
    second_none : (u v : List ℕ) → u ++ v ≡ [] → v ≡ []
    second_none [] v e = e
    second_none (x ∷ u) v e = cc

module _ (good : ℕ → Bool) where
  -- a word with a character more, or behind a `$*` that takes nothing or a character
  both_more : (c d : ℕ) (p q : List Piece) → good c ≡ true → d ≡ c → Common good Fits p q → Common good Fits (Char c ∷ p) (Char d ∷ q)
  both_more c d p q g e v = record { word = c ∷ v.word; is_good = and_from (good c) (list_all good v.word) g v.is_good; first_matches = (refl, v.first_matches); second_matches = (e, v.second_matches) }

  first_more : (c : ℕ) (p q : List Piece) → good c ≡ true → Common good Fits p (AnyChars ∷ q) → Common good Fits (Char c ∷ p) (AnyChars ∷ q)
  first_more c p q g v =
      let n = v.second_matches in
      record { word = c ∷ v.word; is_good = and_from (good c) (list_all good v.word) g v.is_good; first_matches = (refl, v.first_matches); second_matches = (c ∷ n.0, n.1, ap (λ z. c ∷ z) n.2, n.3) }

  second_more : (d : ℕ) (p q : List Piece) → good d ≡ true → Common good Fits (AnyChars ∷ p) q → Common good Fits (AnyChars ∷ p) (Char d ∷ q)
  second_more d p q g v =
      let m = v.first_matches in
      record { word = d ∷ v.word; is_good = and_from (good d) (list_all good v.word) g v.is_good; first_matches = (d ∷ m.0, m.1, ap (λ z. d ∷ z) m.2, m.3); second_matches = (refl, v.second_matches) }

  first_gap : (p q : List Piece) → Common good Fits p q → Common good Fits (AnyChars ∷ p) q
  first_gap p q v = record { word = v.word; is_good = v.is_good; first_matches = ([], v.word, refl, v.first_matches); second_matches = v.second_matches }

  second_gap : (p q : List Piece) → Common good Fits p q → Common good Fits p (AnyChars ∷ q)
  second_gap p q v = record { word = v.word; is_good = v.is_good; first_matches = v.first_matches; second_matches = ([], v.word, refl, v.second_matches) }

  row : (x : Piece) (p : List Piece) → piece_passes good x ≡ true
      → ((q : List Piece) (w : List ℕ) → list_all (piece_passes good) q ≡ true → Fits (bytes_of p) w → Fits (bytes_of q) w → Common good Fits p q)
      → (q : List Piece) (w : List ℕ) → list_all (piece_passes good) q ≡ true → Fits (bytes_of (x ∷ p)) w → Fits (bytes_of q) w → Common good Fits (x ∷ p) q
  row (Char c) p okx ih [] w okq m n = absurd (none_fits (Char c ∷ p) w n m)
  row (Char c) p okx ih (Char d ∷ q) w okq m n =
      let a = chars_cut (encode c) (bytes_of p) w m in
      let b = chars_cut (encode d) (bytes_of q) w n in
      let same = encode_same c d a.0 b.0 (sym a.1 ∙ b.1) in
      both_more c d p q okx (sym same.0) (ih q a.0 (and_parts (good d) (list_all (piece_passes good) q) okq).1 a.2 (subst (λ z. Fits (bytes_of q) z) (sym same.1) b.2))
  row (Char c) p okx ih (AnyChars ∷ q) w okq m n =
      let a = chars_cut (encode c) (bytes_of p) w m in
      by a.0 a.2 (later_cut (encode c) a.0 n.0 n.1 (sym a.1 ∙ n.2)) (λ k. row (Char c) p okx ih q w okq m k)
    where
      by : (t : List ℕ) → Fits (bytes_of p) t → ((s : List ℕ) × (n.0 ≡ encode c ++ s) × (t ≡ s ++ n.1)) ⊎ ((b : ℕ) × (s : List ℕ) × (encode c ≡ n.0 ++ b ∷ s) × (n.1 ≡ (b ∷ s) ++ t))
          → (Fits (bytes_of q) w → Common good Fits (Char c ∷ p) q) → Common good Fits (Char c ∷ p) (AnyChars ∷ q)
      by t f (inl h) ih' = first_more c p q okx (ih (AnyChars ∷ q) t okq f (h.0, n.1, h.2, n.3))
      by t f (inr h) ih' = second_gap (Char c ∷ p) q (ih' (regain c n.0 n.1 t h.0 h.1 w q h.2 h.3 n.2 n.3))
  row AnyChars p okx ih [] w okq m n = first_gap p [] (ih [] m.1 refl m.3 (ending m.0 m.1 (sym m.2 ∙ n)))
    where
      ending : (u v : List ℕ) → u ++ v ≡ [] → v ≡ []
      ending [] v e = e
      ending (x ∷ u) v e = cc
  row AnyChars p okx ih (Char d ∷ q) w okq m n =
      let b = chars_cut (encode d) (bytes_of q) w n in
      let oks = and_parts (good d) (list_all (piece_passes good) q) okq in
      by b.0 b.2 oks.0 (later_cut (encode d) b.0 m.0 m.1 (sym b.1 ∙ m.2)) (λ t k l. row AnyChars p okx ih q t oks.1 k l)
    where
      by : (t : List ℕ) → Fits (bytes_of q) t → good d ≡ true → ((s : List ℕ) × (m.0 ≡ encode d ++ s) × (t ≡ s ++ m.1)) ⊎ ((b : ℕ) × (s : List ℕ) × (encode d ≡ m.0 ++ b ∷ s) × (m.1 ≡ (b ∷ s) ++ t))
          → ((t : List ℕ) → Fits (bytes_of (AnyChars ∷ p)) t → Fits (bytes_of q) t → Common good Fits (AnyChars ∷ p) q) → Common good Fits (AnyChars ∷ p) (Char d ∷ q)
      by t f g (inl h) ih' = second_more d p q g (ih' t (h.0, m.1, h.2, m.3) f)
      by t f g (inr h) ih' = first_gap p (Char d ∷ q) (ih (Char d ∷ q) w okq (regain d m.0 m.1 t h.0 h.1 w p h.2 h.3 m.2 m.3) n)
  row AnyChars p okx ih (AnyChars ∷ q) w okq m n =
      by (later_cut m.0 m.1 n.0 n.1 (sym m.2 ∙ n.2)) (λ t k l. row AnyChars p okx ih q t okq k l)
    where
      by : ((s : List ℕ) × (n.0 ≡ m.0 ++ s) × (m.1 ≡ s ++ n.1)) ⊎ ((b : ℕ) × (s : List ℕ) × (m.0 ≡ n.0 ++ b ∷ s) × (n.1 ≡ (b ∷ s) ++ m.1))
          → ((t : List ℕ) → Fits (bytes_of (AnyChars ∷ p)) t → Fits (bytes_of q) t → Common good Fits (AnyChars ∷ p) q) → Common good Fits (AnyChars ∷ p) (AnyChars ∷ q)
      by (inl h) ih' = first_gap p (AnyChars ∷ q) (ih (AnyChars ∷ q) m.1 okq m.3 (h.0, n.1, h.2, n.3))
      by (inr h) ih' = second_gap (AnyChars ∷ p) q (ih' n.1 (h.0 ∷ h.1, m.1, h.3, m.3) n.3)

  -- where they fit one text as bytes, they fit one text of characters
  pub common_chars : (p q : List Piece) (w : List ℕ) → list_all (piece_passes good) p ≡ true → list_all (piece_passes good) q ≡ true → Fits (bytes_of p) w → Fits (bytes_of q) w → Common good Fits p q
  common_chars [] q w okp okq m n = record { word = []; is_good = refl; first_matches = refl; second_matches = none_fits q w m n }
  common_chars (x ∷ p) q w okp okq m n =
      let oks = and_parts (piece_passes good x) (list_all (piece_passes good) p) okp in
      row x p oks.0 (λ r t okr k l. common_chars p r t oks.1 okr k l) q w okq m n

-- and a text of characters that pieces fit, they fit as bytes
chars_joined : (u : List ℕ) (p : List Piece) (t : List ℕ) → Fits p t → Fits (chars u ++ p) (u ++ t)
chars_joined [] p t m = m
chars_joined (c ∷ u) p t m = (refl, chars_joined u p t m)

pub fits_bytes : (p : List Piece) (v : List ℕ) → Fits p v → Fits (bytes_of p) (encodes v)
fits_bytes [] v m = ap (λ z. encodes z) m
fits_bytes (Char c ∷ p) [] m = absurd m
fits_bytes (Char c ∷ p) (b ∷ v) m = subst (λ z. Fits (chars (encode c) ++ bytes_of p) (encode z ++ encodes v)) m.0 (chars_joined (encode c) (bytes_of p) (encodes v) (fits_bytes p v m.1))
fits_bytes (AnyChars ∷ p) v m = (encodes m.0, encodes m.1, ap (λ z. encodes z) m.2 ∙ encodes-append m.0 m.1, fits_bytes p m.1 m.3)
