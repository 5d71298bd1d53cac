-- Bytes that are gathered piece by piece.
use Rattle.std.proofs.Common.{◌≡◌, ℕ, List, [], ◌++◌, take, drop, Option, Some, None, Err, refl, sym, ap, ◌∙◌, append_assoc}
use Rattle.zr_outside.specs.Told.{Consumes}
use Rattle.zr_rules.specs.declared.rules.RulesError.{RulesError}
use Rattle.zr_rules.specs.declared.rules.RulesError.TheVariants.{Refused, TooLong, ReadFault, NoMemory}
use Rattle.zr_rules.specs.Given.{Gathers, GivesRules, IsGathered, OfBytes}

pub gathers_none : (a : Option (List ℕ)) → Gathers [] a a
gathers_none None = tt
gathers_none (Some all) = (all, refl, refl)

pub gathers_more : (text : List ℕ) (n : ℕ) (buffer : List ℕ) (a b d : Option (List ℕ)) → Gathers text a b → Consumes n buffer b d → Gathers (text ++ take n buffer) a d
gathers_more text n buffer None b d h k = tt
gathers_more text n buffer (Some all) b d h k = more b h.2 k
  where
    more : (b : Option (List ℕ)) → b ≡ Some h.0 → Consumes n buffer b d → Gathers (text ++ take n buffer) (Some all) d
    more None e k = absurd cc
    more (Some left) e k =
        let same : left ≡ h.0 = cc in
        (drop n left, h.1 ∙ ap (λ z. text ++ z) (sym same ∙ k.0) ∙ sym (append_assoc text (take n buffer) (drop n left)), k.1)

pub of_gathered : (P : List ℕ → Type 0) (bytes : List ℕ) (a b : Option (List ℕ)) → Gathers bytes a b → P bytes → OfBytes a b P
of_gathered P bytes a b h p = (bytes, h, p)

pub fails_gathered : (Ended : Type 0) (e : RulesError) (a b : Option (List ℕ)) → OfBytes a b (IsGathered Ended (Err e)) → OfBytes a b (GivesRules Ended (Err e))
fails_gathered Ended (Refused line fault shown) a b h = absurd h.2
fails_gathered Ended TooLong a b h = h
fails_gathered Ended ReadFault a b h = h
fails_gathered Ended NoMemory a b h = h
