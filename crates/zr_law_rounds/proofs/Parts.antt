-- The lines of shares that have told them, one share after another.
use Rattle.std.proofs.Common.{◌≡◌, ℕ, ◌+◌, ◌<◌, ◌≤◌, true, List, [], ◌∷◌, ◌++◌, get_or, length, map, take, refl, sym, ap, ◌∙◌, subst, arith}
use Rattle.std.specs.List.{AllByRecursion, concat, flat_map}
use Rattle.std.proofs.lemmas.Grind.{flat_map-append}
use Rattle.std.proofs.lemmas.List.{append-nil, take_all, take_more}
use Rattle.std.proofs.lemmas.List.Elements.{All-from_recursion}
use Rattle.std.proofs.lemmas.List.Folds.{concat-append}
use Rattle.zr_orders.specs.Bag.{weigh, AreSame}
use Rattle.zr_orders.specs.Ranked.{ranked}
use Rattle.zr_orders.proofs.Bag.{weigh-append}
use Rattle.zr_orders.proofs.Ranked.{texts_same}
use Rattle.zr_world_gang.specs.declared.share.Turn.TheVariants as turn
use Rattle.zr_world_gang.specs.Shares.{ShareState, is_behind, last_behind, lines_in}
use Rattle.zr_world_gang.specs.Turns.{AllHaveDone}
use Rattle.zr_law_rounds.specs.Told.{IsTold, HaveToldLines, TurnTells}
use Rattle.zr_law_rounds.proofs.Ordered.{ranked_same, ranked_twice, parts_are_ranked}

-- ---- what the turn leaves

-- the lines of all shares, where each has told its own
same_lines : (ss ts : List ShareState) → AllHaveDone turn.Tell ss ts → AreSame (flat_map (λ s. s.lines) ts) (flat_map lines_in ss)
same_lines [] [] done f = refl
same_lines [] (t ∷ ts) done f = absurd done
same_lines (s ∷ ss) [] done f = absurd done
same_lines (s ∷ ss) (t ∷ ts) done f =
    let one = weigh-append f t.lines (flat_map (λ s. s.lines) ts) in
    let two = weigh-append f (lines_in s) (flat_map lines_in ss) in
    let here = ap (λ (z : ShareState). weigh f z.lines) done.0 ∙ ranked_same (lines_in s) f in
    let rest = same_lines ss ts done.1 f in
    omega (arith, one, two, here, rest)

each_told : (ss ts : List ShareState) → AllHaveDone turn.Tell ss ts → AllByRecursion (λ s. IsTold s) ts
each_told [] [] done = tt
each_told [] (t ∷ ts) done = absurd done
each_told (s ∷ ss) [] done = absurd done
each_told (s ∷ ss) (t ∷ ts) done = (
  subst (λ (z : ShareState). IsTold z) (sym done.0) (record { in_order = ranked_twice (lines_in s); text = refl }),
  each_told ss ts done.1,
)

names_stay : (ss ts : List ShareState) → AllHaveDone turn.Tell ss ts → map (λ s. s.name) ts ≡ map (λ s. s.name) ss
names_stay [] [] done = refl
names_stay [] (t ∷ ts) done = absurd done
names_stay (s ∷ ss) [] done = absurd done
names_stay (s ∷ ss) (t ∷ ts) done = λ i. (done.0 i).name ∷ names_stay ss ts done.1 i

hubs_stay : (ss ts : List ShareState) → AllHaveDone turn.Tell ss ts → map (λ s. s.hub) ts ≡ map (λ s. s.hub) ss
hubs_stay [] [] done = refl
hubs_stay [] (t ∷ ts) done = absurd done
hubs_stay (s ∷ ss) [] done = absurd done
hubs_stay (s ∷ ss) (t ∷ ts) done = λ i. (done.0 i).hub ∷ hubs_stay ss ts done.1 i

pub turn_tells : TurnTells
turn_tells ss ts done = record {
  told = each_told ss ts done;
  lines = texts_same (flat_map (λ s. s.lines) ts) (flat_map lines_in ss) (same_lines ss ts done);
  stay = (names_stay ss ts done, hubs_stay ss ts done);
}

-- ---- one share after another

abbrev lines_of : List ShareState → List (List ℕ)
lines_of ss = flat_map (λ s. s.lines) ss

-- the text of some shares, whose lines stand in order, and the last of these lines
abbrev pub AreJoined : List ShareState → List ℕ → List ℕ → Type 0
AreJoined ss text last = (text ≡ concat (flat_map (λ s. s.lines) ss)) × (ranked (flat_map (λ s. s.lines) ss) ≡ flat_map (λ s. s.lines) ss) × (last ≡ last_behind [] (flat_map (λ s. s.lines) ss))

last_both : (last : List ℕ) (ts us : List (List ℕ)) → last_behind (last_behind last ts) us ≡ last_behind last (ts ++ us)
last_both last [] us = refl
last_both last (t ∷ ts) us = last_both t ts us

one_more : (ss : List ShareState) (s : ShareState) → lines_of (ss ++ s ∷ []) ≡ lines_of ss ++ s.lines
one_more ss s = flat_map-append (λ s. s.lines) ss (s ∷ []) ∙ ap (λ z. lines_of ss ++ z) (append-nil s.lines)

-- one more, whose lines stand behind
pub joined_one : (ss : List ShareState) (s : ShareState) (text last : List ℕ) → AreJoined ss text last → IsTold s → is_behind last s.lines ≡ true →
    AreJoined (ss ++ s ∷ []) (text ++ s.text) (last_behind last s.lines)
joined_one ss s text last h told behind = (
  (λ i. h.0 i ++ told.text i) ∙ sym (concat-append (lines_of ss) s.lines) ∙ ap concat (sym (one_more ss s)),
  ap ranked (one_more ss s) ∙ parts_are_ranked (lines_of ss) s.lines stands ∙ (λ i. h.1 i ++ told.in_order i) ∙ sym (one_more ss s),
  ap (λ z. last_behind z s.lines) h.2 ∙ last_both [] (lines_of ss) s.lines ∙ ap (last_behind []) (sym (one_more ss s)),
)
  where
    stands : is_behind (last_behind [] (ranked (lines_of ss))) (ranked s.lines) ≡ true
    stands = (λ i. is_behind (last_behind [] (h.1 i)) (told.in_order i)) ∙ ap (λ z. is_behind z s.lines) (sym h.2) ∙ behind

pub joined_next : (ss : List ShareState) (k : ℕ) (s : ShareState) (text last : List ℕ) → k < length ss → s ≡ get_or ss k s → AllByRecursion (λ s. IsTold s) ss → AreJoined (take k ss) text last →
    is_behind last s.lines ≡ true → AreJoined (take (k + 1) ss) (text ++ s.text) (last_behind last s.lines)
joined_next ss k s text last lt is all h behind =
    let told : IsTold s = subst (λ (z : ShareState). IsTold z) (sym is) (All-from_recursion (λ (z : ShareState). IsTold z) ss all k s lt) in
    let more : take (k + 1) ss ≡ take k ss ++ s ∷ [] = take_more ss k s lt ∙ ap (λ z. take k ss ++ z ∷ []) (sym is) in
    subst (λ z. AreJoined z (text ++ s.text) (last_behind last s.lines)) (sym more) (joined_one (take k ss) s text last h told behind)

pub joined_all : (ss : List ShareState) (k : ℕ) (text last : List ℕ) → length ss ≤ k → AreJoined (take k ss) text last → text ≡ concat (ranked (flat_map (λ s. s.lines) ss))
joined_all ss k text last long h =
    let h2 = subst (λ z. AreJoined z text last) (take_all k ss long) h in
    h2.0 ∙ ap concat (sym h2.1)
