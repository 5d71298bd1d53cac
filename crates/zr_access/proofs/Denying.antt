-- Where a rule that denies applies, and none before it that allows, the act is denied.
use Rattle.std.proofs.Common.{◌≡◌, ℕ, ◌&&◌, ◌||◌, Bool, true, false, cond, List, [], ◌∷◌, ◌++◌, Option, Some, refl, sym, ap, subst, ◌∙◌}
use Rattle.std.specs.List.{find}
use Rattle.std.proofs.lemmas.Bool.{true≢false, and_from, and_parts}
use Rattle.zr_access.specs.declared.policy.Act.{Act}
use Rattle.zr_access.specs.declared.policy.Rule.{Rule}
use Rattle.zr_access.specs.declared.policy.DefaultRule.{DefaultRule}
use Rattle.zr_key.specs.Key.{expression_of}
use Rattle.zr_match.specs.Table.{texts_meet, texts_cover}
use Rattle.zr_match.proofs.Right.{meets_right, covers_right}
use Rattle.zr_match.proofs.Inclusion.{covered_matches}
use Rattle.zr_access.specs.Rules.{applies, decided, verdict_of, some_allow, touches, is_for, is_of, IsDenied}
use Rattle.zr_access.specs.Laws.{DenialsHold, AllowingIsCovering}

denying : (allows : Bool) (line : ℕ) → allows ≡ false → IsDenied (verdict_of allows line)
denying true line h = absurd (true≢false h)
denying false line h = tt

pub denied_first : (before after : List Rule) (r : Rule) (default : Option DefaultRule) (client : List ℕ) (act : Act) (key : Option (List ℕ))
    → some_allow before client act key ≡ false → r.allows ≡ false → applies r client act key ≡ true
    → IsDenied (decided (find (λ x. applies x client act key) (before ++ r ∷ after)) default)
denied_first [] after r default client act key none denies is =
    subst (λ b. IsDenied (decided (cond b (Some r) (find (λ x. applies x client act key) after)) default)) (sym is) (denying r.allows r.line denies)
denied_first (a ∷ before) after r default client act key none denies is = by (applies a client act key) a.allows refl refl none (λ h. denied_first before after r default client act key h denies is)
  where
    by : (b w : Bool) → applies a client act key ≡ b → a.allows ≡ w → (w && b || some_allow before client act key) ≡ false
        → (some_allow before client act key ≡ false → IsDenied (decided (find (λ x. applies x client act key) (before ++ r ∷ after)) default))
        → IsDenied (decided (cond b (Some a) (find (λ x. applies x client act key) (before ++ r ∷ after))) default)
    by true true e f h on = absurd (true≢false h)
    by true false e f h on = denying a.allows a.line f
    by false true e f h on = on h
    by false false e f h on = on h

-- ---- with what meeting and covering mean

pub denials : DenialsHold
unfolding texts_meet
denials before after r default client act text key rule_text is_text denies client_is act_is is_k r_matches matches none =
    let met : texts_meet r.key text ≡ true = (meets_right r.key text rule_text is_text).1 (key, is_k, r_matches, matches) in
    let touched : touches r.allows r.key (Some text) ≡ true = ap (λ b. touches b r.key (Some text)) denies ∙ met in
    denied_first before after r default client act (Some text) none denies (and_from _ _ (and_from _ _ client_is act_is) touched)

pub allowed_covers : AllowingIsCovering
unfolding texts_cover
allowed_covers r client act text key allows is matches =
    let touched : touches r.allows r.key (Some text) ≡ true = (and_parts (is_for r.client client && is_of r.act act) (touches r.allows r.key (Some text)) is).1 in
    let covered : texts_cover r.key text ≡ true = sym (ap (λ b. touches b r.key (Some text)) allows) ∙ touched in
    covered_matches (expression_of r.key) (expression_of text) ((covers_right r.key text).0 covered) key matches
