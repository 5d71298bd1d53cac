-- What a link shows under a number decides its hop, but for what the request that was taken asked for: of that its line has to be known (`plain_same`).
use Rattle.std.proofs.Common.{◌≡◌, ℕ, Bool, true, false, List, [], ◌∷◌, Some, None, refl, sym, ap, ◌∙◌}
use Rattle.std.proofs.lemmas.Bool.{false≢true, true≢false}
use Rattle.zr_law_queries.specs.Link.{Ask, Answer, Body, Replied, Ended, Link, Free, Asked as AskedHop, Open, asks_of, answers_with, ShowsAt}
use Rattle.zr_law_numbers.specs.Waiting as waiting
use Rattle.zr_law_numbers.specs.Waiting.{Place, Said}
use Rattle.zr_law_replies.specs.Answers.{HopState, line_of}
use Rattle.zr_law_replies.proofs.Links.{behind_first}

-- the same hop, where a request that was taken is the one of its line
abbrev pub plain : (ℕ → waiting.Asked) → HopState → HopState
plain of Free = Free
plain of (AskedHop r by) = AskedHop r by
plain of (Open r by rs done) = Open (of r.line) by rs done

-- a plain hop shows what the hop shows
pub plain_shows : (of : ℕ → waiting.Asked) (l : Link waiting.Asked Place Said) (n : ℕ) (h : HopState) → ShowsAt l n h → ShowsAt l n (plain of h)
plain_shows of l n Free s = s
plain_shows of l n (AskedHop r by) s = s
plain_shows of l n (Open r by rs done) s = record { asks = s.asks; answers = s.answers; keeps = s.keeps; back = s.back }

-- ---- the first of what waits, with a value for where there is none

abbrev pub first_request : waiting.Asked → List (Ask waiting.Asked) → waiting.Asked
first_request r [] = r
first_request r (a ∷ asks) = a.request

abbrev says : Said → Body Said → Said
says r (Replied said) = said
says r Ended = r

abbrev first_said : Said → List (Answer Said) → Said
first_said r [] = r
first_said r (a ∷ answers) = says r a.body

abbrev is_reply : Body Said → Bool
is_reply (Replied said) = true
is_reply Ended = false

abbrev starts_with_reply : List (Answer Said) → Bool
starts_with_reply [] = false
starts_with_reply (a ∷ answers) = is_reply a.body

-- ---- hops

-- answers decide the replies, and whether the final is behind them
same_answers : (n : ℕ) (rs os : List Said) (a b : Bool) → answers_with n rs a ≡ answers_with n os b → (rs ≡ os) × (a ≡ b)
same_answers n [] [] true true e = (refl, refl)
same_answers n [] [] false false e = (refl, refl)
same_answers n [] [] true false e = absurd (cc)
same_answers n [] [] false true e = absurd (cc)
same_answers n [] (o ∷ os) true b e = absurd (false≢true (ap (λ z. starts_with_reply z) e))
same_answers n [] (o ∷ os) false b e = absurd (false≢true (ap (λ z. starts_with_reply z) e))
same_answers n (r ∷ rs) [] a true e = absurd (true≢false (ap (λ z. starts_with_reply z) e))
same_answers n (r ∷ rs) [] a false e = absurd (true≢false (ap (λ z. starts_with_reply z) e))
same_answers n (r ∷ rs) (o ∷ os) a b e =
    let head : r ≡ o = ap (first_said r) e in
    let tail : answers_with n rs a ≡ answers_with n os b = ap (λ z. behind_first z) e in
    let ih = same_answers n rs os a b tail in
    ((λ i. head i ∷ ih.0 i), ih.1)

abbrev asks_there : ℕ → HopState → List (Ask waiting.Asked)
asks_there n h = asks_of n h

-- two hops that a link shows under a number, of the same line, are plainly one
pub plain_same : (of : ℕ → waiting.Asked) (l : Link waiting.Asked Place Said) (n : ℕ) (h k : HopState) → ShowsAt l n h → ShowsAt l n k → line_of h ≡ line_of k → plain of h ≡ plain of k
plain_same of l n Free Free s t e = refl
plain_same of l n Free (AskedHop r by) s t e = absurd (let b : None ≡ Some by = sym s.back ∙ t.back in cc)
plain_same of l n Free (Open r by rs done) s t e = absurd (let b : None ≡ Some by = sym s.back ∙ t.back in cc)
plain_same of l n (AskedHop r by) Free s t e = absurd (let b : Some by ≡ None = sym s.back ∙ t.back in cc)
plain_same of l n (AskedHop r by) (AskedHop q bq) s t e =
    let asks : asks_there n (AskedHop r by) ≡ asks_there n (AskedHop q bq) = sym s.asks ∙ t.asks in
    let request : r ≡ q = ap (first_request r) asks in
    let b : Some by ≡ Some bq = sym s.back ∙ t.back in
    let asker : by ≡ bq = cc in
    λ i. AskedHop (request i) (asker i)
plain_same of l n (AskedHop r by) (Open q bq rs done) s t e = absurd (let asks : asks_there n (AskedHop r by) ≡ [] = sym s.asks ∙ t.asks in cc)
plain_same of l n (Open r by rs done) Free s t e = absurd (let b : Some by ≡ None = sym s.back ∙ t.back in cc)
plain_same of l n (Open r by rs done) (AskedHop q bq) s t e = absurd (let asks : [] ≡ asks_there n (AskedHop q bq) = sym s.asks ∙ t.asks in cc)
plain_same of l n (Open r by rs done) (Open q bq os end) s t e =
    let b : Some by ≡ Some bq = sym s.back ∙ t.back in
    let asker : by ≡ bq = cc in
    let line : r.line ≡ q.line = cc in
    let answers = same_answers n rs os done end (sym s.answers ∙ t.answers) in
    λ i. Open (of (line i)) (asker i) (answers.0 i) (answers.1 i)
