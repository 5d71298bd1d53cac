-- What a router has told of its tables so far is a prefix of what it tells.
use Rattle.std.proofs.Common.{◌≡◌, ℕ, ◌+◌, Bool, true, false, cond, not, List, [], ◌∷◌, ◌++◌, take, drop, map, Result, Ok, Err, refl, sym, ap, ◌∙◌, append_assoc}
use Rattle.std.specs.Prelude.{OnErr}
use Rattle.std.specs.List.{filter}
use Rattle.std.proofs.lemmas.List.{map-append, take-append-drop}
use Rattle.zr_id.specs.Record.{RecordState}
use Rattle.zr_id.specs.Zid.{is_named}
use Rattle.zr_graph.specs.Record.{ids}
use Rattle.zr_script_spec.specs.declared.report.ReportLine.{ReportLine}
use Rattle.zr_lists.specs.Prefix.{IsPrefixBehind}
use Rattle.zr_log.specs.declared.log.Log.{Log}
use Rattle.zr_world.specs.Show.{record_lines, parent_told, parent_lines, source_lines}
use Rattle.zr_tree.specs.Walk.{graph_of}
use Rattle.zr_tree.specs.Tree.{parent}
use Rattle.zr_script_spec.specs.declared.report.ReportLine.TheVariants.{Parent}

-- ---- prefixes

pub behind_begun : (before all begin rest after : List ReportLine) → all ≡ begin ++ rest → after ≡ before ++ begin → IsPrefixBehind before all after
behind_begun before all begin rest after e h = (begin, (rest, e), h)

-- ---- lines

pub records_cut : (records : List RecordState) (i : ℕ) → record_lines records ≡ record_lines (take i records) ++ record_lines (drop i records)
records_cut records i = ap record_lines (sym (take-append-drop i records)) ∙ map-append _ (take i records) (drop i records)

pub sources_cut : (logs : List Log) (i : ℕ) → source_lines logs ≡ source_lines (take i logs) ++ source_lines (drop i logs)
sources_cut logs i = ap source_lines (sym (take-append-drop i logs)) ∙ map-append _ (take i logs) (drop i logs)

pub parents_append : (trees : List RecordState) (me : List ℕ) (xs ys : List RecordState) → parent_lines trees me (xs ++ ys) ≡ parent_lines trees me xs ++ parent_lines trees me ys
parents_append trees me [] ys = refl
parents_append trees me (x ∷ xs) ys = by (is_named x.id me) (parents_append trees me xs ys)
  where
    tell : List (List ℕ) → List ReportLine
    tell roots = map (λ root. Parent root (parent (graph_of trees) root me)) roots

    rest : List RecordState → List (List ℕ)
    rest zs = filter (λ id. not (is_named id me)) (ids zs)

    by : (b : Bool) → tell (rest (xs ++ ys)) ≡ tell (rest xs) ++ tell (rest ys) →
        tell (cond (not b) (x.id ∷ rest (xs ++ ys)) (rest (xs ++ ys))) ≡ tell (cond (not b) (x.id ∷ rest xs) (rest xs)) ++ tell (rest ys)
    by true ih = ih
    by false ih = ap (λ z. Parent x.id (parent (graph_of trees) x.id me) ∷ z) ih

pub parents_cut : (trees : List RecordState) (me : List ℕ) (records : List RecordState) (i : ℕ) →
    parent_lines trees me records ≡ parent_lines trees me (take i records) ++ parent_lines trees me (drop i records)
parents_cut trees me records i = ap (parent_lines trees me) (sym (take-append-drop i records)) ∙ parents_append trees me (take i records) (drop i records)

pub parent_one : (trees : List RecordState) (me : List ℕ) (x : RecordState) → parent_lines trees me (x ∷ []) ≡ parent_told trees me x.id
parent_one trees me x = by (is_named x.id me)
  where
    by : (b : Bool) → map (λ root. Parent root (parent (graph_of trees) root me)) (cond (not b) (x.id ∷ []) []) ≡ cond b [] (Parent x.id (parent (graph_of trees) x.id me) ∷ [])
    by true = refl
    by false = refl

pub err_by : {A E P : Type 0} (r : Result A E) → P → OnErr r P
err_by (Ok x) p = tt
err_by (Err e) p = p

pub parents_more : (records : List RecordState) (me : List ℕ) (i : ℕ) (x : RecordState) (old now after : List ReportLine) → take (i + 1) records ≡ take i records ++ x ∷ [] →
    now ≡ old ++ parent_lines records me (take i records) → after ≡ now ++ parent_told records me x.id → after ≡ old ++ parent_lines records me (take (i + 1) records)
parents_more records me i x old now after more h told =
    told ∙ ap (λ z. z ++ parent_told records me x.id) h ∙ append_assoc old (parent_lines records me (take i records)) (parent_told records me x.id)
    ∙ ap (λ z. old ++ z) (sym (ap (parent_lines records me) more ∙ parents_append records me (take i records) (x ∷ [])
    ∙ ap (λ z. parent_lines records me (take i records) ++ z) (parent_one records me x)))
