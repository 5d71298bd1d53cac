-- The links of a record, joined.
use Rattle.std.proofs.Common.{◌≡◌, ℕ, ◌-◌, ◌≤◌, List, [], ◌∷◌, ◌++◌, length, get_or, take, drop, map, Result, Ok, Err, sym, ap, ◌∙◌, append_assoc, append-nil, arith}
use Rattle.std.specs.Prelude.{OnOk}
use Rattle.std.specs.List.{flat_map, join_with_byte}
use Rattle.std.proofs.lemmas.List.{take_all}
use Rattle.zr_id.specs.Record.{LinkedState}
use Rattle.zr_script_spec.specs.Report.{linked_text, links_text}

-- each but the first stands behind a comma
abbrev others_text : List LinkedState → List ℕ
others_text links = flat_map (λ link. 44 ∷ linked_text link) links

joined : (link : LinkedState) (links : List LinkedState) → join_with_byte 44 (map linked_text (link ∷ links)) ≡ linked_text link ++ others_text links
joined link [] = sym (append-nil (linked_text link))
joined link (next ∷ more) = ap (λ z. linked_text link ++ 44 ∷ z) (joined next more)

links_cut : (links : List LinkedState) (d : LinkedState) → 1 ≤ length links → links_text links ≡ linked_text (get_or links 0 d) ++ others_text (take (length links - 1) (drop 1 links))
links_cut [] d le = absurd (omega arith)
links_cut (link ∷ links) d le =
    let all : take (length (link ∷ links) - 1) links ≡ links = take_all (length (link ∷ links) - 1) links (omega arith) in
    joined link links ∙ ap (λ z. linked_text link ++ others_text z) (sym all)

-- the first was put, and then the others
pub links_put : {E : Type 0} (result : Result (Unit {0}) E) (links : List LinkedState) (before mid after : List ℕ) (first_link : LinkedState) → 1 ≤ length links →
    first_link ≡ get_or links 0 first_link → mid ≡ before ++ linked_text first_link →
    OnOk result (after ≡ mid ++ others_text (take (length links - 1) (drop 1 links))) → OnOk result (after ≡ before ++ links_text links)
links_put (Ok u) links before mid after link le is_first put h =
    h ∙ ap (λ z. z ++ others_text (take (length links - 1) (drop 1 links))) put
    ∙ append_assoc before (linked_text link) (others_text (take (length links - 1) (drop 1 links)))
    ∙ ap (λ z. before ++ z) (ap (λ z. linked_text z ++ others_text (take (length links - 1) (drop 1 links))) is_first ∙ sym (links_cut links link le))
links_put (Err e) links before mid after link le is_first put h = h
