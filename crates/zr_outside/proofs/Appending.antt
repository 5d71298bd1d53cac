-- Bytes that are appended in pieces, one after another.
use Rattle.std.proofs.Common.{◌≡◌, ℕ, ◌+◌, ◌-◌, ◌≤◌, List, [], ◌++◌, length, take, drop, Option, Some, None, refl, sym, ap, ◌∙◌, append_assoc}
use Rattle.std.proofs.lemmas.List.{append-nil, take-take, take-append-drop}
use Rattle.std.proofs.Math.Seq.{take-add}
use Rattle.zr_outside.specs.Told.{IsAsBefore, Appends, AppendsPrefix}

-- ---- one call behind another

pub appends_none : (a : Option (List ℕ)) → Appends [] a a
appends_none None = tt
appends_none (Some held) = ap Some (sym (append-nil held))

pub appends_both : (u v : List ℕ) (a b c : Option (List ℕ)) → Appends u a b → Appends v b c → Appends (u ++ v) a c
appends_both u v None b c h k = tt
appends_both u v (Some held) b c h k = rw h at k ∙ ap Some (append_assoc held u v)

pub appends_nothing_more : (u : List ℕ) (a b : Option (List ℕ)) → Appends u a b → Appends (u ++ []) a b
appends_nothing_more u a b h = rw (append-nil u) h

pub prefix_none : (u : List ℕ) (a : Option (List ℕ)) → AppendsPrefix u a a
prefix_none u None = tt
prefix_none u (Some held) = ([], u, refl, ap Some (sym (append-nil held)))

-- what was written is a prefix of more
pub prefix_written : (u v : List ℕ) (a b : Option (List ℕ)) → Appends u a b → AppendsPrefix (u ++ v) a b
prefix_written u v None b h = tt
prefix_written u v (Some held) b h = (u, v, refl, h)

pub prefix_more : (u v : List ℕ) (a b : Option (List ℕ)) → AppendsPrefix u a b → AppendsPrefix (u ++ v) a b
prefix_more u v None b h = tt
prefix_more u v (Some held) b h = (h.0, h.1 ++ v, ap (λ z. z ++ v) h.2 ∙ append_assoc h.0 h.1 v, h.3)

-- a prefix behind what was written
pub prefix_behind : (u v : List ℕ) (a b c : Option (List ℕ)) → Appends u a b → AppendsPrefix v b c → AppendsPrefix (u ++ v) a c
prefix_behind u v None b c h k = tt
prefix_behind u v (Some held) (Some now) c h k =
    let is : now ≡ held ++ u = cc h in (
      u ++ k.0,
      k.1,
      ap (λ z. u ++ z) k.2 ∙ sym (append_assoc u k.0 k.1),
      k.3 ∙ ap (λ z. Some (z ++ k.0)) is ∙ ap Some (append_assoc held u k.0),
    )
prefix_behind u v (Some held) None c h k = absurd (cc h)

-- all that was written is a prefix of itself
pub prefix_whole : (u : List ℕ) (a b : Option (List ℕ)) → Appends u a b → AppendsPrefix u a b
prefix_whole u None b h = tt
prefix_whole u (Some held) b h = (u, [], sym (append-nil u), h)

-- ---- a text in pieces

-- the first i elements, and n of what is behind them, are the first i + n
pub take_split : (text : List ℕ) (i n : ℕ) → n ≤ length text - i →
    take i text ++ take n (take (length text - i) (drop i text)) ≡ take (i + n) text
take_split text i n le = rw (take-take n (length text - i) (drop i text) le) (sym (take-add i n text))

-- one more piece was appended
pub appends_more : (text : List ℕ) (i n : ℕ) (a b c : Option (List ℕ)) → n ≤ length text - i →
    Appends (take i text) a b → Appends (take n (take (length text - i) (drop i text))) b c → Appends (take (i + n) text) a c
appends_more text i n None b c le h k = tt
appends_more text i n (Some held) b c le h k =
    rw h at k ∙ ap Some (append_assoc held _ _ ∙ ap (λ z. held ++ z) (take_split text i n le))

-- what was appended so far is a prefix of the whole, and a failed write adds nothing
pub prefix_stays : (text : List ℕ) (i : ℕ) (a b c : Option (List ℕ)) → Appends (take i text) a b → IsAsBefore b c → AppendsPrefix text a c
prefix_stays text i None b c h k = tt
prefix_stays text i (Some held) b c h k = (take i text, drop i text, sym (take-append-drop i text), rw h at k)
