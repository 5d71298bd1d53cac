-- The worked query, move by move.
use Rattle.std.proofs.Common.{◌≡◌, ◌<◌, ℕ, true, false, List, [], ◌∷◌, refl, sym, inl, inr, arith, ◌==◌}
use Rattle.std.proofs.lemmas.Bool.{false≢true}
use Rattle.zr_law_queries.specs.Query.{Tree, IsTree, IsDesk, Stage, at_first, is_child, Move, Begin, Say, End, Pass, Close, after, heard_after, got_after, said_after, Agrees}
use Rattle.zr_law_queries.specs.Courses.{Course, Start, Then}
use Rattle.zr_law_queries.specs.Worked.{Node, Asker, Home, Away, Near, Far, is_same, below, above, level, tree, gathering, as_got, way, QueryIsWorked}
use Rattle.zr_law_queries.proofs.Ways.{chain_way}

decides : (x y : Node) → is_same x y ≡ true → x ≡ y
decides Asker Asker e = refl
decides Home Home e = refl
decides Away Away e = refl
decides Near Near e = refl
decides Far Far e = refl
decides x y e = absurd (false≢true e)

itself : (x : Node) → is_same x x ≡ true
itself Asker = refl
itself Home = refl
itself Away = refl
itself Near = refl
itself Far = refl

parents : (x y : Node) → is_child tree x y ≡ true → above y ≡ x
parents Asker Home e = refl
parents Home Near e = refl
parents Home Away e = refl
parents Away Far e = refl
parents x y e = absurd (false≢true e)

falls : (x y : Node) → is_child tree x y ≡ true → level y < level x
falls Asker Home e = omega arith
falls Home Near e = omega arith
falls Home Away e = omega arith
falls Away Far e = omega arith
falls x y e = absurd (false≢true e)

top : (x : Node) → is_child tree x Asker ≡ false
top Asker = refl
top Home = refl
top Away = refl
top Near = refl
top Far = refl

leaf : (x : Node) → tree.passes x ≡ false → below x ≡ []
leaf Asker e = absurd (false≢true (sym e))
leaf Home e = absurd (false≢true (sym e))
leaf Away e = absurd (false≢true (sym e))
leaf Near e = refl
leaf Far e = refl

is_tree : IsTree tree
is_tree = record { decides = decides; itself = itself; parent = parents; falls = falls; top = top; leaf = leaf; asks = refl }

is_gathering : IsTree gathering
is_gathering = record { decides = decides; itself = itself; parent = parents; falls = falls; top = top; leaf = leaf; asks = refl }

is_desk : IsDesk gathering Home
is_desk = record { alone = refl; one = one; passes = refl }
  where
    one : (x : Node) → is_same Home x ≡ is_same x Home
    one Asker = refl
    one Home = refl
    one Away = refl
    one Near = refl
    one Far = refl

module _ (t : Tree Node) where
  -- a moment of the query, and how it comes to the next one
  record Moment : Type 0 where
    stage : Node → Stage ℕ
    heard : Node → List ℕ
    got : List ℕ
    said : List ℕ
    course : Course as_got t way stage heard got said

  abbrev next : (m : Moment) (move : Move t m.stage) → Agrees as_got t m.stage move way m.got → Moment
  next m move agrees = record {
    stage = after t m.stage move;
    heard = heard_after t m.stage move m.heard;
    got = got_after t m.stage move m.got;
    said = said_after t m.stage move way.is_own m.said;
    course = Then m.stage m.heard m.got m.said m.course move agrees;
  }

  abbrev first : Moment
  first = record { stage = at_first; heard = λ x. []; got = []; said = []; course = Start }

-- the request goes out, and the nearer client replies
abbrev asked : Moment tree
asked = next tree (next tree (next tree (first tree) (Begin Asker (inr (refl, refl))) tt) (Begin Home (inl refl)) tt) (Begin Near (inl refl)) tt

abbrev replied : Moment tree
replied = next tree (next tree (next tree asked (Say Near 30 [] refl refl) refl) (Begin Away (inl refl)) tt) (Pass Home Near 30 [] false refl refl) tt

-- the farther one gets it and replies, and the nearer one ends
abbrev ended : Moment tree
ended = next tree (next tree (next tree (next tree replied (Begin Far (inl refl)) tt) (Say Far 40 [] refl refl) refl) (End Near [] refl refl) tt) (Close Home Near [] refl refl) refl

-- the farther one ends, and its reply and final go up
abbrev over : Moment tree
over = next tree (next tree (next tree (next tree ended (Pass Asker Home 30 [] false refl refl) tt) (End Far (40 ∷ []) refl refl) tt) (Pass Away Far 40 [] true refl refl) tt) (Close Away Far [] refl refl) refl

abbrev done : Moment tree
done = next tree (next tree (next tree (next tree over (Pass Home Away 40 [] true refl refl) tt) (Close Home Away [] refl refl) refl) (Pass Asker Home 40 [] true refl refl) tt) (Close Asker Home [] refl refl) refl

-- the same where the router of the client that asks gathers: it releases both replies at once
abbrev asked' : Moment gathering
asked' = next gathering (next gathering (next gathering (first gathering) (Begin Asker (inr (refl, refl))) tt) (Begin Home (inl refl)) tt) (Begin Near (inl refl)) tt

abbrev ended' : Moment gathering
ended' = next gathering (next gathering (next gathering (next gathering asked' (Say Near 30 [] refl refl) refl) (Pass Home Near 30 [] false refl refl) tt) (End Near [] refl refl) tt) (Close Home Near [] refl refl) refl

abbrev over' : Moment gathering
over' = next gathering (next gathering (next gathering (next gathering (next gathering (next gathering ended' (Begin Away (inl refl)) tt) (Begin Far (inl refl)) tt) (Say Far 40 [] refl refl) refl) (End Far (40 ∷ []) refl refl) tt) (Pass Away Far 40 [] true refl refl) tt) (Close Away Far [] refl refl) refl

abbrev released' : Moment gathering
released' = next gathering (next gathering over' (Pass Home Away 40 [] true refl refl) tt) (Close Home Away (30 ∷ 40 ∷ []) refl refl) refl

abbrev done' : Moment gathering
done' = next gathering (next gathering (next gathering released' (Pass Asker Home 30 (40 ∷ []) true refl refl) tt) (Pass Asker Home 40 [] true refl refl) tt) (Close Asker Home [] refl refl) refl

pub law : QueryIsWorked
law = record {
  is_tree = is_tree;
  is_way = chain_way tree is_tree Far (Home ∷ Away ∷ Far ∷ []) (λ reply. reply == 40) refl (refl, (refl, (refl, refl)));
  stage = done.stage;
  heard = done.heard;
  course = done.course;
  sent = refl;
  is_gathering = is_gathering;
  is_desk = is_desk;
  held = over'.stage;
  held_heard = over'.heard;
  held_got = over'.got;
  held_course = over'.course;
  nothing = (refl, refl);
  later = done'.stage;
  later_heard = done'.heard;
  later_got = done'.got;
  later_course = done'.course;
  later_sent = refl;
}
