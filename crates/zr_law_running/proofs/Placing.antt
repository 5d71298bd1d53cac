-- The routers of a world that is one of a run, and the links between them that are in place (`places_few`).
use Rattle.std.proofs.Common.{◌≡◌, ℕ, ◌≤◌, Bool, true, false, cond, List, filter, length, Some, None, refl, sym, ap, ◌∙◌, subst}
use Rattle.std.specs.Prelude.{◌&&◌, ◌||◌, is_some}
use Rattle.std.specs.List.{list_any}
use Rattle.std.specs.Map.{keys_of}
use Rattle.std.proofs.lemmas.Bool.{and_parts, and_from}
use Rattle.std.proofs.lemmas.List.Kept.{IsStrictlySortedBy-filter}
use Rattle.std.proofs.lemmas.Map.Keys.{IsDistinct-from_sorted}
use Rattle.std.proofs.lemmas.Map.Made.{length-le_from_is_member}
use Rattle.zr_lists.proofs.Finds.{In, any_in, in_any, in_filter, filter_in, in_map, map_in}
use Rattle.zr_lists.proofs.Elements.{flat_in}
use Rattle.zr_id.specs.Record.{is_before}
use Rattle.zr_id.specs.Zid.{is_named}
use Rattle.zr_script_spec.specs.declared.report.ReportLine.{ReportLine}
use Rattle.zr_world_spec.specs.World.{EndState, End, WorldState, end_cmp, is_end, router_of, end_of, is_up, is_in_place, is_first_end, links_in_place}
use Rattle.zr_world_spec.specs.Sound.{IsSound}
use Rattle.zr_world_spec.proofs.Ends.{ends, end_found}
use Rattle.zr_world_spec.proofs.Names.{same_name}
use Rattle.zr_law_running.specs.Runs.{Several, has_link}
use Rattle.zr_law_running.specs.Allowed.{is_among, is_placed, placed_from, placed_links}
use Rattle.zr_law_running.proofs.Holding.{unbroken_is, router_in, Calm}
use Rattle.zr_law_running.proofs.Hearing.{at_true}

-- a router's identifier is one of theirs
listed : (ids : List (List ℕ)) (x : List ℕ) → is_among ids x ≡ true → In x ids
listed ids x i =
    let f = any_in (λ id. is_named id x) ids i in
    subst (λ (z : List ℕ). In z ids) (same_name f.0 x f.2) f.1

module _ (ids : List (List ℕ)) (s : Several) (w : WorldState) (report : List ReportLine) where
  module _ (h : Calm ids s w report) where
    pub found : (x : List ℕ) → is_among ids x ≡ true → router_of w.routers x ≡ Some (router_in s x)
    found x i = h.routers x ∙ at_true (is_among ids x) (Some (router_in s x)) None i

    -- routers of the world are those of the run
    pub among_is : (x : List ℕ) → is_some (router_of w.routers x) ≡ is_among ids x
    among_is x = ap is_some (h.routers x) ∙ by (is_among ids x)
      where
        by : (b : Bool) → is_some (cond b (Some (router_in s x)) None) ≡ b
        by true = refl
        by false = refl

  module _ (sound : IsSound w) (h : Calm ids s w report) where
    -- and have the same links up
    pub up_is : (x y : List ℕ) → is_among ids x ≡ true → is_up w.ends (x, y) ≡ has_link s x y
    up_is x y i = sym (sound.links x y (router_in s x) (found h x i))

    abbrev is_kept : End → Bool
    is_kept e = is_first_end w.routers e && is_in_place w.ends e

    -- a link of the world that is in place is one of the run's
    placed : (e : End) → In e (keys_of w.ends) → is_kept e ≡ true → In e (placed_links ids s)
    placed e i t =
        let entry = in_map (λ (z : End × EndState). z.0) w.ends e i in
        let there : is_some (end_of w.ends e) ≡ true = ap (λ z. is_some (end_of w.ends z)) (sym entry.2) ∙ ap is_some (end_found w.ends entry.0 sound.in_order entry.1) in
        let both = and_parts (is_first_end w.routers e) (is_in_place w.ends e) t in
        let first = and_parts (is_some (router_of w.routers e.1)) (is_before e.0 e.1) both.0 in
        let one : is_among ids e.0 ≡ true = sym (among_is h e.0) ∙ sound.routers e.0 e.1 there in
        let other : is_among ids e.1 ≡ true = sym (among_is h e.1) ∙ first.0 in
        let in_place : is_placed s e.0 e.1 ≡ true =
        sym (ap (λ b. b || is_up w.ends e || is_up w.ends (e.1, e.0)) (unbroken_is (end_of w.ends e) (s.links e) (h.ends e))
        ∙ ap (λ b. (s.links e).whole || b || is_up w.ends (e.1, e.0)) (up_is e.0 e.1 one) ∙ ap (λ b. (s.links e).whole || has_link s e.0 e.1 || b) (up_is e.1 e.0 other))
        ∙ both.1 in
        flat_in (λ x. placed_from ids s x) ids e.0 e (listed ids e.0 one)
        (map_in (λ y. (e.0, y)) (filter (λ y. is_before e.0 y && is_placed s e.0 y) ids) e.1
        (filter_in (λ y. is_before e.0 y && is_placed s e.0 y) ids e.1 (listed ids e.1 other) (and_from (is_before e.0 e.1) (is_placed s e.0 e.1) first.1 in_place)))

    -- the world has no more in place than the run
    pub places_few : length (links_in_place w) ≤ length (placed_links ids s)
    places_few = length-le_from_is_member {eq = is_end} ends (links_in_place w) (placed_links ids s)
        (IsDistinct-from_sorted end_cmp (links_in_place w) (IsStrictlySortedBy-filter end_cmp is_kept (keys_of w.ends) sound.in_order)) member
      where
        member : (q : End) → list_any (is_end q) (links_in_place w) ≡ true → list_any (is_end q) (placed_links ids s) ≡ true
        member q t =
            let f = any_in (is_end q) (links_in_place w) t in
            let i = in_filter is_kept (keys_of w.ends) f.0 f.1 in
            in_any (is_end q) (placed_links ids s) f.0 (placed f.0 i.0 i.1) f.2
