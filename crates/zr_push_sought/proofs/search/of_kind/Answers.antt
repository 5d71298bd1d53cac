use Rattle.std.proofs.Common.{◌≡◌, ◌-◌, true, false, ℕ, List, take, drop, length, sym, ap, subst, ◌∙◌}
use Rattle.std.specs.List.{list_any}
use Rattle.std.specs.List.Sorted.{IsNonDecreasingBy}
use Rattle.std.proofs.lemmas.List.Sorted.{IsNonDecreasingBy-drop}
use Rattle.zr_log_set.specs.Decls.{IsSet}
use Rattle.zr_msg.specs.Decl.{kind_rank}
use Rattle.zr_msg.specs.declared.decl.Decl.{Decl}
use Rattle.zr_msg.specs.declared.decl.Kind.TheVariants.{Able, Full}
use Rattle.zr_push_sought.specs.Sought.{is_sought, is_lower}
use Rattle.zr_push_sought.proofs.ByKind.{kinds_rise, any_before, any_behind, no_subscriber, no_queryable, not_complete}
use Rattle.zr_push_sought.proofs.Rows.{rest_of}
use Rattle.zr_push_sought.proofs.search.of_kind.Goals as goal

-- kinds rise from a place on
rest_rises : (i : ℕ) (decls : List Decl) → IsSet decls → IsNonDecreasingBy (λ d. kind_rank d.kind) (take (length decls - i) (drop i decls))
rest_rises i decls up =
    subst (λ (ds : List Decl). IsNonDecreasingBy (λ (d : Decl). kind_rank d.kind) ds) (sym (rest_of i decls))
    (IsNonDecreasingBy-drop (λ (d : Decl). kind_rank d.kind) i decls (kinds_rise decls up))

pub lower-requires : goal.lower-requires
lower-requires c = kinds_rise c.args.decls.now c.requires

pub lower-requires-in-Queryables : goal.lower-requires-in-Queryables
lower-requires-in-Queryables c = kinds_rise c.args.decls.now c.requires

pub lower-requires-in-Complete : goal.lower-requires-in-Complete
lower-requires-in-Complete c = kinds_rise c.args.decls.now c.requires

pub below_tokens-requires : goal.below_tokens-requires
below_tokens-requires c = rest_rises c.lower-in-Queryables.result c.args.decls.now c.requires

pub below_tokens-requires-in-Complete : goal.below_tokens-requires-in-Complete
below_tokens-requires-in-Complete c = rest_rises c.lower-in-Complete.result c.args.decls.now c.requires

pub returns-in-Subscribers : goal.returns-in-Subscribers
returns-in-Subscribers c = λ key.
    any_before (λ d. is_sought c.args.sought key d) (λ d. is_lower d.kind Able ≡ false) (λ d h. ap (λ s. is_sought s key d) c.in-Subscribers.is ∙ no_subscriber key d h)
    c.args.decls.now c.lower.result c.lower.ensures.parted.1

pub returns-in-Queryables : goal.returns-in-Queryables
returns-in-Queryables c = λ key.
    c.below_tokens.ensures c.args.sought key
    ∙ ap (λ (ds : List Decl). list_any (λ d. is_sought c.args.sought key d) ds) (rest_of c.lower-in-Queryables.result c.args.decls.now)
    ∙ any_behind (λ d. is_sought c.args.sought key d) (λ d. is_lower d.kind Able ≡ true) (λ d h. ap (λ s. is_sought s key d) c.in-Queryables.is ∙ no_queryable key d h)
    c.args.decls.now c.lower-in-Queryables.result c.lower-in-Queryables.ensures.within c.lower-in-Queryables.ensures.parted.0

pub returns-in-Complete : goal.returns-in-Complete
returns-in-Complete c = λ key.
    c.below_tokens-in-Complete.ensures c.args.sought key
    ∙ ap (λ (ds : List Decl). list_any (λ d. is_sought c.args.sought key d) ds) (rest_of c.lower-in-Complete.result c.args.decls.now)
    ∙ any_behind (λ d. is_sought c.args.sought key d) (λ d. is_lower d.kind Full ≡ true) (λ d h. ap (λ s. is_sought s key d) c.in-Complete.is ∙ not_complete key d h)
    c.args.decls.now c.lower-in-Complete.result c.lower-in-Complete.ensures.within c.lower-in-Complete.ensures.parted.0
