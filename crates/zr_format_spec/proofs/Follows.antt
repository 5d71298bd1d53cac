-- A reader follows a format: it gives exactly the values that the format spells, and is refused exactly where the format
-- refuses. Each way of putting formats together has one lemma, and so a message's law is put together as its format is.
use Rattle.std.proofs.Common.{◌≡◌, ℕ, zero, suc, ◌≤◌, List, [], ◌∷◌, ◌++◌, length, take, drop, Option, Some, None, Result, Ok, Err, Bool, true, false, cond, ltb, refl, sym, ap, subst, ◌∙◌, arith, append_assoc, inl, inr, length-take-le, take-append-drop}
use Rattle.std.proofs.lemmas.Bool.{ltb-true, ltb-false, le-ltb, lt-ltb}
use Rattle.std.proofs.lemmas.List.{length-append, append-nil, append_cancel_right, take_at, drop_at}
use Rattle.zr_bytes.specs.declared.read_error.ReadError.{ReadError}
use Rattle.zr_bytes.specs.declared.read_error.ReadError.TheVariants.{Short, UnknownId, Extra}
use Rattle.zr_bytes.specs.Flag.{has_flag}
use Rattle.zr_bytes.specs.Spelling.{Begins, HasOneReading}
use Rattle.zr_bytes.specs.Reading.{Read, ◌>>=◌, byte_of, number_of, number_below, text_of}
use Rattle.zr_bytes.proofs.Steps.{ok_is, bind_ok, bind_err, not_both, guard_ok, guard_err, done}
use Rattle.zr_bytes.proofs.Numbers.{read_begins, begins_read, refused_inside, inside_refused, below_begins, begins_below, begins_above, inside_below, below_refused}
use Rattle.zr_bytes.proofs.Texts.{text_begins, begins_text, begins_too_big, text_refused, inside_text}
use Rattle.zr_ext.specs.declared.ext.Form.{Form}
use Rattle.zr_ext.specs.Reading.{content_of, chain_of}
use Rattle.zr_ext.specs.Finding.{without_value}
use Rattle.zr_ext.proofs.One.{content_found, content_read, content_refused, refuses_content}
use Rattle.zr_ext.proofs.Found.{content_form}
use Rattle.zr_ext.proofs.Many.{chain_found, chain_read, chain_refused, refused_chain}
use Rattle.zr_format_spec.specs.Format.{Format, gives, fails, unknown, choose, ◌then◌, ◌allows◌, checked, passed, optional, series, is_whole, byte, number, below, text, so_many, content, chain, extensions, the_rest}
use Rattle.zr_format_spec.specs.Reading.{Reader, optional_of, checked_of, series_of, no_more, whole_of, so_many_of, exts_of}
use Rattle.zr_format_spec.specs.Laws.{anywhere, IsReadBy, HasOneReadingBefore, WrittenIsRead}

-- `Ends` says what may stand behind a value.
pub record Follows {X : Type 0} (Ends : X → List ℕ → Type 0) (p : Format X) (read : Reader X) : Type 0 where
  pub found : (bytes rest : List ℕ) (x : X) → read bytes ≡ Ok (x, rest) → Begins p.spelled x bytes rest × Ends x rest
  pub again : (front rest : List ℕ) (x : X) → p.spelled x front → Ends x rest → read (front ++ rest) ≡ Ok (x, rest)
  pub refused : (bytes : List ℕ) (e : ReadError) → read bytes ≡ Err e → p.refused e bytes
  pub refuses : (bytes : List ℕ) (e : ReadError) → p.refused e bytes → read bytes ≡ Err e

abbrev failed : {X : Type 0} → ReadError → Read X
failed e = Err e

pub is_read : {X : Type 0} (x y : X) (a b : List ℕ) → done x a ≡ done y b → (x ≡ y) × (a ≡ b)
is_read {X} x y a b e =
    let same : (x, a) ≡ (y, b) = ok_is (x, a) (y, b) e in
    (ap (λ (p : X × List ℕ). p.0) same, ap (λ (p : X × List ℕ). p.1) same)

-- ---- putting together

pub follows_gives : {X : Type 0} (E : X → List ℕ → Type 0) (x : X) → ((rest : List ℕ) → E x rest) → Follows E (gives x) (λ bytes. Ok (x, bytes))
follows_gives {X} E x any = record {
  found = λ bytes rest y e.
      let same = is_read x y bytes rest e in
      (([], (sym same.0, refl), same.1), subst (λ (z : X). E z rest) same.0 (any rest));
  again = λ front rest y s ends. ap (λ (xs : List ℕ). done x (xs ++ rest)) s.1 ∙ ap (λ (z : X). done z rest) (sym s.0);
  refused = λ bytes e h. not_both (done x bytes) (x, bytes) e refl h;
  refuses = λ bytes e r. absurd r;
}

pub follows_fails : {X : Type 0} (E : X → List ℕ → Type 0) (cause : ReadError) → Follows E (fails cause) (λ bytes. Err cause)
follows_fails E cause = record {
  found = λ bytes rest x e. absurd (not_both (done x rest) (x, rest) cause refl (sym e));
  again = λ front rest x s ends. absurd s;
  refused = λ bytes e h. cc;
  refuses = λ bytes e r. ap (λ (d : ReadError). Err d) (sym r);
}

pub follows_unknown : {X : Type 0} (E : X → List ℕ → Type 0) → Follows E unknown (λ bytes. Err UnknownId)
follows_unknown E = follows_fails E UnknownId

pub follows_choose : {X : Type 0} (E : X → List ℕ → Type 0) (b : Bool) (p q : Format X) (s t : Reader X) → Follows E p s → Follows E q t → Follows E (choose b p q) (λ bytes. cond b (s bytes) (t bytes))
follows_choose E true p q s t f g = record { found = f.found; again = f.again; refused = f.refused; refuses = f.refuses }
follows_choose E false p q s t f g = record { found = g.found; again = g.again; refused = g.refused; refuses = g.refuses }

pub follows_then : {X Y : Type 0} (E : Y → List ℕ → Type 0) (p : Format X) (f : X → Format Y) (r : Reader X) (s : X → Reader Y)
    → Follows anywhere p r → ((x : X) → Follows E (f x) (s x)) → Follows E (p then f) (λ bytes. r bytes >>= λ a. s a.0 a.1)
follows_then {X} {Y} E p f r s first others = record {
  found = λ bytes rest y e.
      let step = bind_ok (r bytes) (λ a. s a.0 a.1) (y, rest) e in
      let one = (first.found bytes step.0.1 step.0.0 step.1).0 in
      let two = (others step.0.0).found step.0.1 rest y step.2 in
      ((one.0 ++ two.0.0, (step.0.0, one.0, two.0.0, refl, one.1, two.0.1), one.2 ∙ ap (λ (xs : List ℕ). one.0 ++ xs) two.0.2 ∙ sym (append_assoc one.0 two.0.0 rest)), two.1);
  again = λ front rest y h ends.
      let whole : front ++ rest ≡ h.1 ++ (h.2 ++ rest) = ap (λ (xs : List ℕ). xs ++ rest) h.3 ∙ append_assoc h.1 h.2 rest in
      let one : r (front ++ rest) ≡ Ok (h.0, h.2 ++ rest) = ap r whole ∙ first.again h.1 (h.2 ++ rest) h.0 h.4 tt in
      ap (λ (x : Read X). x >>= λ a. s a.0 a.1) one ∙ (others h.0).again h.2 rest y h.5 ends;
  refused = λ bytes e h.
      elim (bind_err (r bytes) (λ a. s a.0 a.1) e h) [
        | inl one ↦ inl (first.refused bytes e one)
        | inr step ↦
            let one = (first.found bytes step.0.1 step.0.0 step.1).0 in
            inr (step.0.0, one.0, step.0.1, one.2, one.1, (others step.0.0).refused step.0.1 e step.2)
      ];
  refuses = λ bytes e h.
      elim h [
        | inl one ↦ ap (λ (x : Read X). x >>= λ a. s a.0 a.1) (first.refuses bytes e one)
        | inr later ↦
            let one : r bytes ≡ Ok (later.0, later.2) = ap r later.3 ∙ first.again later.1 later.2 later.0 later.4 tt in
            ap (λ (x : Read X). x >>= λ a. s a.0 a.1) one ∙ (others later.0).refuses later.2 e later.5
      ];
}

pub follows_allows : {X Y : Type 0} (E : Y → List ℕ → Type 0) (r : Result X ReadError) (f : X → Format Y) (s : X → Reader Y)
    → ((x : X) → Follows E (f x) (s x)) → Follows E (r allows f) (λ bytes. r >>= λ x. s x bytes)
follows_allows E (Ok x) f s others = record { found = (others x).found; again = (others x).again; refused = (others x).refused; refuses = (others x).refuses }
follows_allows E (Err cause) f s others =
    let none = follows_fails E cause in
    record { found = none.found; again = none.again; refused = none.refused; refuses = none.refuses }

pub follows_checked : {X : Type 0} (p : Format X) (r : Reader X) (test : X → Bool) (cause : ReadError) → Follows anywhere p r → Follows anywhere (checked p test cause) (checked_of r test cause)
follows_checked {X} p r test cause f =
    follows_then anywhere p (λ x. choose (test x) (gives x) (fails cause)) r (λ x bytes. cond (test x) (Ok (x, bytes)) (Err cause)) f
    (λ x. follows_choose anywhere (test x) (gives x) (fails cause) (λ bytes. Ok (x, bytes)) (λ bytes. Err cause) (follows_gives anywhere x (λ rest. tt)) (follows_fails anywhere cause))

pub follows_passed : {X : Type 0} (p : Format X) (r : Reader X) → Follows anywhere p r → Follows anywhere (passed p) (λ bytes. without_value (r bytes))
follows_passed p r f = follows_then anywhere p (λ x. gives tt) r (λ x bytes. Ok (tt, bytes)) f (λ x. follows_gives anywhere tt (λ rest. tt))

pub follows_optional : {X : Type 0} (b : Bool) (p : Format X) (r : Reader X) → Follows anywhere p r → Follows anywhere (optional b p) (optional_of b r)
follows_optional {X} b p r f =
    follows_choose anywhere b (p then λ x. gives (Some x)) (gives None) (λ bytes. r bytes >>= λ x. Ok (Some x.0, x.1)) (λ bytes. Ok (None, bytes))
    (follows_then anywhere p (λ x. gives (Some x)) r (λ x bytes. Ok (Some x, bytes)) f (λ x. follows_gives anywhere (Some x) (λ rest. tt)))
    (follows_gives anywhere None (λ rest. tt))

pub follows_series : {X : Type 0} (f : Option X → Format X) (r : Option X → Reader X) → ((last : Option X) → Follows anywhere (f last) (r last))
    → (last : Option X) (count : ℕ) → Follows anywhere (series f last count) (series_of r last count)
unfolding series_of
follows_series {X} f r each last zero = follows_gives anywhere [] (λ rest. tt)
follows_series {X} f r each last (suc more) =
    follows_then anywhere (f last) (λ x. series f (Some x) more then λ xs. gives (x ∷ xs)) (r last) (λ x bytes. series_of r (Some x) more bytes >>= λ xs. Ok (x ∷ xs.0, xs.1)) (each last)
    (λ x. follows_then anywhere (series f (Some x) more) (λ xs. gives (x ∷ xs)) (series_of r (Some x) more) (λ xs bytes. Ok (x ∷ xs, bytes)) (follows_series f r each (Some x) more)
    (λ xs. follows_gives anywhere (x ∷ xs) (λ rest. tt)))

-- ---- parts

byte_found : (bytes rest : List ℕ) (b : ℕ) → byte_of bytes ≡ Ok (b, rest) → Begins byte.spelled b bytes rest × Unit {0}
unfolding byte_of
byte_found [] rest b e = absurd (not_both (done b rest) (b, rest) Short refl (sym e))
byte_found (c ∷ bytes) rest b e = let same = is_read c b bytes rest e in ((b ∷ [], refl, λ i. same.0 i ∷ same.1 i), tt)

byte_again : (front rest : List ℕ) (b : ℕ) → front ≡ b ∷ [] → byte_of (front ++ rest) ≡ Ok (b, rest)
unfolding byte_of
byte_again front rest b s = ap (λ (xs : List ℕ). byte_of (xs ++ rest)) s

byte_refused : (bytes : List ℕ) (e : ReadError) → byte_of bytes ≡ Err e → (e ≡ Short) × (bytes ≡ [])
unfolding byte_of
byte_refused [] e h = (cc, refl)
byte_refused (c ∷ bytes) e h = absurd (not_both (done c bytes) (c, bytes) e refl h)

byte_refuses : (bytes : List ℕ) (e : ReadError) → (e ≡ Short) × (bytes ≡ []) → byte_of bytes ≡ Err e
unfolding byte_of
byte_refuses bytes e r = ap byte_of r.1 ∙ ap (λ (d : ReadError). Err d) (sym r.0)

pub follows_byte : Follows anywhere byte byte_of
follows_byte = record {
  found = byte_found;
  again = λ front rest b s ends. byte_again front rest b s;
  refused = byte_refused;
  refuses = byte_refuses;
}

pub follows_number : Follows anywhere number number_of
follows_number = record {
  found = λ bytes rest n e. (read_begins 8 n bytes rest e, tt);
  again = λ front rest n s ends. begins_read 8 n front rest s;
  refused = λ bytes e h. refused_inside 8 bytes e h;
  refuses = λ bytes e r. inside_refused 8 bytes r.1 ∙ ap (λ (d : ReadError). Err d) (sym r.0);
}

pub follows_text : (limit : ℕ) → Follows anywhere (text limit) (text_of limit)
follows_text limit = record {
  found = λ bytes rest t e. let b = text_begins limit t bytes rest e in ((b.1.0, (b.0, b.1.1), b.1.2), tt);
  again = λ front rest t s ends. begins_text limit t (front ++ rest) rest s.0 (front, s.1, refl);
  refused = λ bytes e h. text_refused limit bytes e h;
  refuses = λ bytes e r.
      elim r [
        | inl short ↦ inside_text limit bytes short.1 short.2 ∙ ap (λ (d : ReadError). Err d) (sym short.0)
        | inr big ↦ begins_too_big limit big.1 bytes big.2 big.3 big.4 ∙ ap (λ (d : ReadError). Err d) (sym big.0)
      ];
}

pub follows_below : (limit : ℕ) → Follows anywhere (below limit) (number_below limit)
follows_below limit = record {
  found = λ bytes rest n e. let b = below_begins limit n bytes rest e in ((b.1.0, (b.0, b.1.1), b.1.2), tt);
  again = λ front rest n s ends. begins_below limit n (front ++ rest) rest s.0 (front, s.1, refl);
  refused = λ bytes e h. below_refused limit bytes e h;
  refuses = λ bytes e r.
      elim r [
        | inl short ↦ inside_below limit bytes short.1 ∙ ap (λ (d : ReadError). Err d) (sym short.0)
        | inr big ↦ begins_above limit big.1 bytes big.2 big.3 big.4 ∙ ap (λ (d : ReadError). Err d) (sym big.0)
      ];
}

pub follows_chain : (known : List (ℕ × Form)) → Follows anywhere (chain known) (chain_of known)
follows_chain known = record {
  found = λ bytes rest exts e. (chain_found known bytes rest exts e, tt);
  again = λ front rest exts s ends. chain_read known (front ++ rest) rest exts (front, s, refl);
  refused = λ bytes e h. chain_refused known bytes e h;
  refuses = λ bytes e r. refused_chain known bytes e r;
}

pub follows_content : (form : Form) → Follows anywhere (content form) (content_of form)
follows_content form = record {
  found = λ bytes rest x e. let b = content_found form x bytes rest e in ((b.0, (content_form form bytes rest x e, b.1), b.2), tt);
  again = λ front rest x s ends. subst (λ (f : Form). content_of f (front ++ rest) ≡ Ok (x, rest)) s.0 (content_read x (front ++ rest) rest (front, s.1, refl));
  refused = λ bytes e h. content_refused form bytes e h;
  refuses = λ bytes e r. refuses_content form bytes e r;
}

pub follows_extensions : (known : List (ℕ × Form)) (header : ℕ) → Follows anywhere (extensions known header) (exts_of known header)
unfolding exts_of
follows_extensions known header = follows_choose anywhere (has_flag header 0x80) (chain known) (gives []) (chain_of known) (λ bytes. Ok ([], bytes)) (follows_chain known) (follows_gives anywhere [] (λ rest. tt))

-- ---- so many bytes

many_found : (count : ℕ) (bytes rest t : List ℕ) → so_many_of count bytes ≡ Ok (t, rest) → Begins (so_many count).spelled t bytes rest × Unit {0}
unfolding so_many_of
many_found count bytes rest t e =
    let there = guard_ok (ltb (length bytes) count) Short (done (take count bytes) (drop count bytes)) (t, rest) e in
    let enough : count ≤ length bytes = ltb-false (length bytes) count there.0 in
    let same = is_read (take count bytes) t (drop count bytes) rest there.1 in
    let long : length t ≡ count = ap (λ (xs : List ℕ). length xs) (sym same.0) ∙ length-take-le count bytes enough in
    let whole : bytes ≡ t ++ rest = sym (take-append-drop count bytes) ∙ (λ i. same.0 i ++ same.1 i) in
    ((t, (refl, long), whole), tt)

many_again : (count : ℕ) (front rest t : List ℕ) → (so_many count).spelled t front → so_many_of count (front ++ rest) ≡ Ok (t, rest)
unfolding so_many_of
many_again count front rest t s =
    let enough : ltb (length (front ++ rest)) count ≡ false = le-ltb (length (front ++ rest)) count (omega (arith, s.1, length-append front rest)) in
    let taken : take count (front ++ rest) ≡ front = take_at front rest count s.1 in
    let behind : drop count (front ++ rest) ≡ rest = drop_at front rest count s.1 in
    rw (enough, taken, behind) (ap (λ (xs : List ℕ). done xs rest) (sym s.0))

many_refused : (count : ℕ) (bytes : List ℕ) (e : ReadError) → so_many_of count bytes ≡ Err e → (so_many count).refused e bytes
unfolding so_many_of
many_refused count bytes e h =
    elim (guard_err (ltb (length bytes) count) Short (done (take count bytes) (drop count bytes)) e h) [
      | inl short ↦ (short.1, ltb-true (length bytes) count short.0)
      | inr there ↦ absurd (not_both (done (take count bytes) (drop count bytes)) (take count bytes, drop count bytes) e refl there.1)
    ]

many_refuses : (count : ℕ) (bytes : List ℕ) (e : ReadError) → (so_many count).refused e bytes → so_many_of count bytes ≡ Err e
unfolding so_many_of
many_refuses count bytes e short = rw (lt-ltb (length bytes) count short.1) (ap (λ (d : ReadError). failed d) (sym short.0))

pub follows_so_many : (count : ℕ) → Follows anywhere (so_many count) (so_many_of count)
follows_so_many count = record {
  found = many_found count;
  again = λ front rest t s ends. many_again count front rest t s;
  refused = many_refused count;
  refuses = many_refuses count;
}

-- ---- a value and nothing else

abbrev end : {X : Type 0} → X → List ℕ → Result X ReadError
end x left = no_more left >>= λ none. Ok x

end_ok : {X : Type 0} (x y : X) (left : List ℕ) → end x left ≡ Ok y → (x ≡ y) × (left ≡ [])
end_ok x y [] e = (ok_is x y e, refl)
end_ok x y (next ∷ more) e = absurd cc

end_err : {X : Type 0} (x : X) (left : List ℕ) (e : ReadError) → end x left ≡ Err e → (e ≡ Extra) × (next : ℕ) × (more : List ℕ) × (left ≡ next ∷ more)
end_err x [] e h = absurd (not_both (end x []) x e refl h)
end_err x (next ∷ more) e h = (cc, next, more, refl)

whole_ok : {X : Type 0} (p : Format X) (r : Reader X) → Follows anywhere p r → (content : List ℕ) (x : X) → whole_of r content ≡ Ok x → p.spelled x content
whole_ok {X} p r f content x e =
    let step = bind_ok (r content) (λ a. end a.0 a.1) x e in
    let begins = (f.found content step.0.1 step.0.0 step.1).0 in
    let none = end_ok step.0.0 x step.0.1 step.2 in
    let same : begins.0 ≡ content = sym (append-nil begins.0) ∙ ap (λ (xs : List ℕ). begins.0 ++ xs) (sym none.1) ∙ sym begins.2 in
    subst (λ (z : X). p.spelled z content) none.0 (subst (λ (xs : List ℕ). p.spelled step.0.0 xs) same begins.1)

ok_whole : {X : Type 0} (p : Format X) (r : Reader X) → Follows anywhere p r → (content : List ℕ) (x : X) → p.spelled x content → whole_of r content ≡ Ok x
ok_whole {X} p r f content x s =
    let read : r content ≡ Ok (x, []) = ap r (sym (append-nil content)) ∙ f.again content [] x s tt in
    ap (λ (a : Read X). a >>= λ b. end b.0 b.1) read

whole_err : {X : Type 0} (p : Format X) (r : Reader X) → Follows anywhere p r → (content bytes : List ℕ) (e : ReadError) → whole_of r content ≡ Err e → (is_whole p content).refused e bytes
whole_err p r f content bytes e h =
    elim (bind_err (r content) (λ a. end a.0 a.1) e h) [
      | inl first ↦ inl (f.refused content e first)
      | inr step ↦
          let begins = (f.found content step.0.1 step.0.0 step.1).0 in
          let extra = end_err step.0.0 step.0.1 e step.2 in
          inr (extra.0, step.0.0, begins.0, extra.1, extra.2, begins.2 ∙ ap (λ (xs : List ℕ). begins.0 ++ xs) extra.3, begins.1)
    ]

err_whole : {X : Type 0} (p : Format X) (r : Reader X) → Follows anywhere p r → (content bytes : List ℕ) (e : ReadError) → (is_whole p content).refused e bytes → whole_of r content ≡ Err e
err_whole {X} p r f content bytes e h =
    elim h [
      | inl first ↦ ap (λ (a : Read X). a >>= λ b. end b.0 b.1) (f.refuses content e first)
      | inr extra ↦
          let read : r content ≡ Ok (extra.1, extra.3 ∷ extra.4) = ap r extra.5 ∙ f.again extra.2 (extra.3 ∷ extra.4) extra.1 extra.6 tt in
          ap (λ (a : Read X). a >>= λ b. end b.0 b.1) read ∙ ap (λ (d : ReadError). Err d) (sym extra.0)
    ]

pub follows_whole : {X : Type 0} (p : Format X) (r : Reader X) → Follows anywhere p r → (content : List ℕ) → Follows anywhere (is_whole p content) (λ bytes. whole_of r content >>= λ x. Ok (x, bytes))
follows_whole {X} p r f content = record {
  found = λ bytes rest x e.
      let step = bind_ok (whole_of r content) (λ y. Ok (y, bytes)) (x, rest) e in
      let same = is_read step.0 x bytes rest step.2 in
      (([], (subst (λ (z : X). p.spelled z content) same.0 (whole_ok p r f content step.0 step.1), refl), same.1), tt);
  again = λ front rest x s ends.
      ap (λ (a : Result X ReadError). a >>= λ y. done y (front ++ rest)) (ok_whole p r f content x s.0) ∙ ap (λ (xs : List ℕ). done x (xs ++ rest)) s.1;
  refused = λ bytes e h.
      elim (bind_err (whole_of r content) (λ y. Ok (y, bytes)) e h) [
        | inl first ↦ whole_err p r f content bytes e first
        | inr step ↦ absurd (not_both (done step.0 bytes) (step.0, bytes) e refl step.2)
      ];
  refuses = λ bytes e h. ap (λ (a : Result X ReadError). a >>= λ y. done y bytes) (err_whole p r f content bytes e h);
}

-- ---- all that is left

pub follows_the_rest : {X : Type 0} (E : X → List ℕ → Type 0) (make : List ℕ → X)
    → ((piece rest : List ℕ) → rest ≡ [] → E (make piece) rest) → ((piece rest : List ℕ) → E (make piece) rest → rest ≡ [])
    → Follows E (the_rest make) (λ bytes. Ok (make bytes, []))
follows_the_rest {X} E make to from = record {
  found = λ bytes rest x e.
      let same = is_read (make bytes) x [] rest e in
      let whole : bytes ≡ bytes ++ rest = sym (append-nil bytes) ∙ ap (λ (xs : List ℕ). bytes ++ xs) same.1 in
      ((bytes, sym same.0, whole), subst (λ (z : X). E z rest) same.0 (to bytes rest (sym same.1)));
  again = λ front rest x s ends.
      let empty : rest ≡ [] = from front rest (subst (λ (z : X). E z rest) s ends) in
      ap (λ (xs : List ℕ). done (make (front ++ xs)) []) empty ∙ ap (λ (xs : List ℕ). done (make xs) []) (append-nil front)
      ∙ ap (λ (z : X). done z []) (sym s) ∙ ap (λ (xs : List ℕ). done x xs) (sym empty);
  refused = λ bytes e h. not_both (done (make bytes) []) (make bytes, []) e refl h;
  refuses = λ bytes e r. absurd r;
}

-- the same reader, said in another way
pub follows_as : {X : Type 0} (E : X → List ℕ → Type 0) (p : Format X) (r s : Reader X) → ((bytes : List ℕ) → r bytes ≡ s bytes) → Follows E p r → Follows E p s
follows_as E p r s same f = record {
  found = λ bytes rest x e. f.found bytes rest x (same bytes ∙ e);
  again = λ front rest x t ends. sym (same (front ++ rest)) ∙ f.again front rest x t ends;
  refused = λ bytes e h. f.refused bytes e (same bytes ∙ h);
  refuses = λ bytes e h. sym (same bytes) ∙ f.refuses bytes e h;
}

one_step : {X Y : Type 0} (r : Result X ReadError) (bytes : List ℕ) (s : X → Reader Y) → ((r >>= λ x. done x bytes) >>= λ a. s a.0 a.1) ≡ (r >>= λ x. s x bytes)
one_step (Ok x) bytes s = refl
one_step (Err e) bytes s = refl

pub follows_whole_then : {X Y : Type 0} (E : Y → List ℕ → Type 0) (p : Format X) (r : Reader X) (content : List ℕ) (f : X → Format Y) (s : X → Reader Y) → Follows anywhere p r → ((x : X) → Follows E (f x) (s x))
    → Follows E (is_whole p content then f) (λ bytes. whole_of r content >>= λ x. s x bytes)
follows_whole_then E p r content f s first others =
    follows_as E (is_whole p content then f) (λ bytes. (whole_of r content >>= λ x. Ok (x, bytes)) >>= λ a. s a.0 a.1) (λ bytes. whole_of r content >>= λ x. s x bytes) (λ bytes. one_step (whole_of r content) bytes s)
    (follows_then E (is_whole p content) f (λ bytes. whole_of r content >>= λ x. Ok (x, bytes)) s (follows_whole p r first content) others)

-- ---- the laws of a format whose reader follows it

pub format_is_read : {X : Type 0} (E : X → List ℕ → Type 0) (p : Format X) (r : Reader X) → Follows E p r → IsReadBy E p r
format_is_read E p r f = record {
  reads = λ bytes rest x. (f.found bytes rest x, λ b. ap r b.0.2 ∙ f.again b.0.0 rest x b.0.1 b.1);
  refuses = λ bytes e. (f.refused bytes e, f.refuses bytes e);
}

pub one_reading : {X : Type 0} (E : X → List ℕ → Type 0) (p : Format X) (r : Reader X) → Follows E p r → HasOneReadingBefore E p
one_reading E p r f x y a b c d s t before_c before_d e =
    let one : r (a ++ c) ≡ Ok (x, c) = f.again a c x s before_c in
    let two : r (b ++ d) ≡ Ok (y, d) = f.again b d y t before_d in
    let same = is_read x y c d (sym one ∙ ap r e ∙ two) in
    (append_cancel_right a b c (e ∙ ap (λ (xs : List ℕ). b ++ xs) (sym same.1)), same.0)

pub one_reading_anywhere : {X : Type 0} (p : Format X) (r : Reader X) → Follows anywhere p r → HasOneReading p.spelled
one_reading_anywhere p r f x y a b c d s t e = one_reading anywhere p r f x y a b c d s t tt tt e

pub written_is_read : {V X : Type 0} (E : X → List ℕ → Type 0) (p : Format X) (r : Reader X) (view : V → X) (writes : V → List ℕ) (Fits : V → Type 0) → Follows E p r
    → ((v : V) → Fits v → p.spelled (view v) (writes v)) → WrittenIsRead E p r view writes Fits
written_is_read E p r view writes Fits f spelled = record {
  spelled = spelled;
  again = λ v rest fit ends. f.again (writes v) rest (view v) (spelled v fit) ends;
}
