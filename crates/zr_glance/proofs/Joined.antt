-- Pages that are put one kind behind another.
use Rattle.std.proofs.Common.{◌≡◌, ℕ, List, [], ◌++◌, map, ap, ◌∙◌, append_assoc}
use Rattle.zr_id.specs.Record.{RecordState}
use Rattle.zr_msg.specs.Peer.{PeerState}
use Rattle.zr_glance.specs.declared.glance.Count.{Count}
use Rattle.zr_glance.specs.declared.glance.Parent.{Parent}
use Rattle.zr_glance.specs.declared.space.Page.{Page}
use Rattle.zr_glance.specs.Glance.{GlanceState}
use Rattle.zr_glance.specs.Pages.{link_page, pages, parent_page, record_page, source_page}

four : {X : Type 0} (a b c d n p q r s : List X) → n ≡ [] → p ≡ n ++ a → q ≡ p ++ b → r ≡ q ++ c → s ≡ r ++ d → s ≡ a ++ (b ++ (c ++ d))
four a b c d n p q r s none first second third fourth =
    fourth ∙ ap (λ z. z ++ d) (third ∙ ap (λ z. z ++ c) (second ∙ ap (λ z. z ++ b) (first ∙ ap (λ z. z ++ a) none))) ∙ append_assoc (a ++ b) c d ∙ append_assoc a b (c ++ d)

pub all_pages : (id : List ℕ) (g : GlanceState) (links : List PeerState) (parents : List Parent) (records : List RecordState) (sources : List Count) (n p q r s : List Page)
    → links ≡ g.links → parents ≡ g.parents → records ≡ g.records → sources ≡ g.sources → n ≡ [] → p ≡ n ++ map (λ x. link_page id x) links
    → q ≡ p ++ map (λ x. parent_page id x) parents → r ≡ q ++ map (λ x. record_page id x) records → s ≡ r ++ map (λ x. source_page id x) sources → s ≡ pages id g
all_pages id g links parents records sources n p q r s l t e c none first second third fourth =
    let as_links : List PeerState → List Page = λ xs. map (λ x. link_page id x) xs in
    let as_parents : List Parent → List Page = λ xs. map (λ x. parent_page id x) xs in
    let as_records : List RecordState → List Page = λ xs. map (λ x. record_page id x) xs in
    let as_sources : List Count → List Page = λ xs. map (λ x. source_page id x) xs in
    four (as_links links) (as_parents parents) (as_records records) (as_sources sources) n p q r s none first second third fourth
    ∙ ap (λ z. as_links z ++ (as_parents parents ++ (as_records records ++ as_sources sources))) l
    ∙ ap (λ z. as_links g.links ++ (as_parents z ++ (as_records records ++ as_sources sources))) t
    ∙ ap (λ z. as_links g.links ++ (as_parents g.parents ++ (as_records z ++ as_sources sources))) e
    ∙ ap (λ z. as_links g.links ++ (as_parents g.parents ++ (as_records g.records ++ as_sources z))) c
