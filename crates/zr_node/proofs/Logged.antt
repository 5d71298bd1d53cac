-- Changes that are logged one after the other.
use Rattle.std.proofs.Common.{◌≡◌, ℕ, ◌+◌, ◌<◌, List, ◌∷◌, length, get_or, drop, map, Bool, sym, ap, ◌∙◌}
use Rattle.std.proofs.lemmas.List.{at_drop_more}
use Rattle.zr_log.specs.Known.{KnownState, after_own}
use Rattle.zr_log.specs.Log.{Change}
use Rattle.zr_msg.specs.declared.decl.Decl.{Decl}
use Rattle.zr_node_spec.specs.Changes.{after_changes}

-- of the same kind
abbrev pub alike : (added : Bool) → List Decl → List Change
alike added ds = map (λ d. record { added = added; decl = d }) ds

-- one more of them
pub logged_more : (added : Bool) (ds : List Decl) (i : ℕ) (d : Decl) (known next last : KnownState) → i < length ds → d ≡ get_or ds i d → next ≡ after_own known (record { added = added; decl = d })
    → after_changes known (alike added (drop i ds)) ≡ last → after_changes next (alike added (drop (i + 1) ds)) ≡ last
logged_more added ds i d known next last less is e h =
    let one : alike added (drop i ds) ≡ record { added = added; decl = d } ∷ alike added (drop (i + 1) ds) =
    at_drop_more (λ xs. alike added xs) ds i d less ∙ ap (λ x. record { added = added; decl = x } ∷ alike added (drop (i + 1) ds)) (sym is) in
    ap (λ k. after_changes k (alike added (drop (i + 1) ds))) e ∙ ap (λ cs. after_changes known cs) (sym one) ∙ h
