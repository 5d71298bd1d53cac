-- What access rules decide.
use Rattle.std.specs.Prelude.{ℕ, ◌==◌, ◌&&◌, Bool, true, false, List, [], ◌∷◌, Option, Some, None, is_none}
use Rattle.std.specs.List.{find, list_any}
use Rattle.zr_id.specs.Zid.{is_named}
use Rattle.zr_match.specs.Table.{texts_meet, texts_cover}
use Rattle.zr_access.specs.declared.policy.Act.{Act}
use Rattle.zr_access.specs.declared.policy.Act.TheVariants.{Sub, Able, Token, Interest, Put, Del, Get, Reply}
use Rattle.zr_access.specs.declared.policy.Rule.{Rule}
use Rattle.zr_access.specs.declared.policy.DefaultRule.{DefaultRule}
use Rattle.zr_access.specs.declared.policy.Verdict.{Verdict}
use Rattle.zr_access.specs.declared.policy.Verdict.TheVariants.{Allowed, Denied}

-- rules, and what is decided where none applies, if something is
pub record PolicyState : Type 0 where
  pub rules : List Rule
  pub default : Option DefaultRule

-- no rule, so that each act is allowed
abbrev pub open_policy : PolicyState
open_policy = record { rules = []; default = None }

-- no rule and no default
abbrev pub is_empty : List Rule → Bool
is_empty [] = true
is_empty (r ∷ rules) = false

abbrev pub is_open : PolicyState → Bool
is_open p = is_empty p.rules && is_none p.default

-- ---- one rule

-- acts by a number
abbrev pub number_of : Act → ℕ
number_of Sub = 0
number_of Able = 1
number_of Token = 2
number_of Interest = 3
number_of Put = 4
number_of Del = 5
number_of Get = 6
number_of Reply = 7

abbrev pub is_act : Act → Act → Bool
is_act a b = number_of a == number_of b

-- it is for each client, or for this one
abbrev pub is_for : Option (List ℕ) → List ℕ → Bool
is_for None client = true
is_for (Some name) client = is_named name client

-- it is of each act, or of this one
abbrev pub is_of : Option Act → Act → Bool
is_of None act = true
is_of (Some named) act = is_act named act

-- A rule that allows covers the expression of an act, so that it matches each key that the expression matches. One that denies meets it, so that some
-- key is matched by both. What is on no expression is touched by each rule that denies, and by none that allows
abbrev pub touches : Bool → List ℕ → Option (List ℕ) → Bool
touches true rule None = false
touches false rule None = true
touches true rule (Some key) = texts_cover rule key
touches false rule (Some key) = texts_meet rule key

abbrev pub applies : Rule → List ℕ → Act → Option (List ℕ) → Bool
applies r client act key = is_for r.client client && is_of r.act act && touches r.allows r.key key

-- ---- all rules

abbrev pub verdict_of : Bool → ℕ → Verdict
verdict_of true line = Allowed
verdict_of false line = Denied line

-- the first rule that applies decides, else the default, and else the act is allowed
abbrev pub decided : Option Rule → Option DefaultRule → Verdict
decided (Some r) default = verdict_of r.allows r.line
decided None (Some d) = verdict_of d.allows d.line
decided None None = Allowed

abbrev pub judged : PolicyState → List ℕ → Act → Option (List ℕ) → Verdict
judged p client act key = decided (find (λ r. applies r client act key) p.rules) p.default

-- ---- what denying promises

-- a rule of these that allows applies
abbrev pub some_allow : List Rule → List ℕ → Act → Option (List ℕ) → Bool
some_allow rules client act key = list_any (λ r. r.allows && applies r client act key) rules

abbrev pub IsDenied : Verdict → Type 0
IsDenied Allowed = ⊥
IsDenied (Denied line) = Unit {0}
