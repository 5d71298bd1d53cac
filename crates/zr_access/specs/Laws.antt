-- What denying promises of keys.
use Rattle.std.specs.Prelude.{◌≡◌, ℕ, true, false, List, ◌∷◌, ◌++◌, Option, Some}
use Rattle.zr_key.specs.Expression.{is_key, Matches}
use Rattle.zr_key.specs.Key.{expression_of, IsKeyText}
use Rattle.zr_access.specs.declared.policy.Act.{Act}
use Rattle.zr_access.specs.declared.policy.Rule.{Rule}
use Rattle.zr_access.specs.declared.policy.DefaultRule.{DefaultRule}
use Rattle.zr_access.specs.Rules.{applies, is_for, is_of, some_allow, judged, IsDenied}

-- Where a rule that denies is for a client and an act, and matches a key, and no earlier rule that allows applies, an act on each expression that matches
-- that key too is denied
abbrev pub DenialsHold : Type 0
DenialsHold = (before after : List Rule) (r : Rule) (default : Option DefaultRule) (client : List ℕ) (act : Act) (text : List ℕ) (key : List (List ℕ))
    → IsKeyText r.key → IsKeyText text → r.allows ≡ false → is_for r.client client ≡ true → is_of r.act act ≡ true
    → is_key key ≡ true → Matches (expression_of r.key) key → Matches (expression_of text) key
    → some_allow before client act (Some text) ≡ false
    → IsDenied (judged (record { rules = before ++ r ∷ after; default = default }) client act (Some text))

-- A rule that allows covers: each key that an expression to which it applies matches is one that the rule's matches
abbrev pub AllowingIsCovering : Type 0
AllowingIsCovering = (r : Rule) (client : List ℕ) (act : Act) (text : List ℕ) (key : List (List ℕ))
    → r.allows ≡ true → applies r client act (Some text) ≡ true → Matches (expression_of text) key → Matches (expression_of r.key) key
