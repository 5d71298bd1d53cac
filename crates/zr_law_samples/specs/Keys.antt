-- The keys of a script's acts: each is the canonical text of an expression. So whether a subscription asks for a sample or a queryable can answer
-- a query, which the definitions test on texts, is whether some key is matched by both expressions, or the one covers the other.
use Rattle.std.specs.Prelude.{◌≡◌, ◌↔◌, ℕ, true, List, ◌∷◌, ◌++◌, IfSome}
use Rattle.zr_key.specs.Key.{expression_of, IsKeyText}
use Rattle.zr_match.specs.Match.{Meets, Covers}
use Rattle.zr_msg.specs.declared.decl.Decl.{Decl}
use Rattle.zr_msg.specs.declared.msg.Target.TheVariants.{All, Complete}
use Rattle.zr_node_spec.specs.Queries.{is_complete}
use Rattle.zr_script_spec.specs.declared.command.Act.{Act}
use Rattle.zr_script_spec.specs.declared.command.Act.TheVariants as a
use Rattle.zr_world_spec.specs.Moments.{Numbered}
use Rattle.zr_world_spec.specs.Accepted.{accepted}
use Rattle.zr_guarantee.specs.Broker.{asks_for, can_answer}

-- the key of an act, if it has one, is the canonical text of an expression
abbrev pub HasKeyText : Act → Type 0
HasKeyText (a.Router id) = Unit {0}
HasKeyText (a.Client id router) = Unit {0}
HasKeyText (a.Link one other weight) = Unit {0}
HasKeyText (a.Up router neighbour) = Unit {0}
HasKeyText (a.Break router neighbour) = Unit {0}
HasKeyText (a.Down router neighbour) = Unit {0}
HasKeyText (a.Sub client id key) = IsKeyText key
HasKeyText (a.Unsub client id) = Unit {0}
HasKeyText (a.Token client id key) = IsKeyText key
HasKeyText (a.Untoken client id) = Unit {0}
HasKeyText (a.Able client id key complete) = IsKeyText key
HasKeyText (a.Unable client id) = Unit {0}
HasKeyText (a.Interest client id mode kinds key aggregate) = IfSome key IsKeyText
HasKeyText (a.Uninterest client id) = Unit {0}
HasKeyText (a.Publish client content) = IsKeyText content.key
HasKeyText (a.Get client number target content) = IsKeyText content.key
HasKeyText (a.Reply client number content) = IsKeyText content.key
HasKeyText (a.End client number) = Unit {0}
HasKeyText (a.Handle router from) = Unit {0}
HasKeyText (a.Take router to) = Unit {0}
HasKeyText a.Mark = Unit {0}
HasKeyText (a.Show router) = Unit {0}

-- so it is with each accepted act of a script's lines, wherever it stands
abbrev pub KeysAreTexts : Type 0
KeysAreTexts = (ls : List (List ℕ)) (before rest : List Numbered) (number : ℕ) (act : Act) →
    accepted ls ≡ before ++ (number, act) ∷ rest → HasKeyText act

-- a subscription asks for a sample exactly where some key is matched by both expressions
abbrev pub AskingIsMeeting : Type 0
AskingIsMeeting = (key : List ℕ) (subscription : Decl) → IsKeyText subscription.key → IsKeyText key →
    (asks_for key subscription ≡ true) ↔ Meets (expression_of subscription.key) (expression_of key)

-- a queryable can answer a query of all exactly where some key is matched by both expressions
abbrev pub AnsweringIsMeeting : Type 0
AnsweringIsMeeting = (key : List ℕ) (queryable : Decl) → IsKeyText queryable.key → IsKeyText key →
    (can_answer All key queryable ≡ true) ↔ Meets (expression_of queryable.key) (expression_of key)

-- and one of complete queryables alone exactly where it is complete and its expression covers that of the query
abbrev pub AnsweringIsCovering : Type 0
AnsweringIsCovering = (key : List ℕ) (queryable : Decl) → IsKeyText queryable.key → IsKeyText key →
    (can_answer Complete key queryable ≡ true) ↔ ((is_complete queryable.kind ≡ true) × Covers (expression_of queryable.key) (expression_of key))
