-- The events on one link keep what each number stands for. Each touches one number: a lemma goes by whether that is the number asked for.
use Rattle.std.proofs.Common.{◌≡◌, ℕ, ◌==◌, Bool, true, false, cond, List, [], ◌∷◌, ◌++◌, map, filter, Option, Some, None, refl, sym, ap, ◌∙◌, subst, append-nil}
use Rattle.std.proofs.lemmas.Bool.{eqb-true, eq-eqb, false≢true}
use Rattle.std.proofs.lemmas.List.Elements.{filter-append}
use Rattle.std.proofs.lemmas.List.{map-append}
use Rattle.zr_law_queries.specs.Link.{Ask, Body, Replied, Ended, Answer, Link, ask, reply, final, has_number, answers_number, Hop, Free, Asked, Open, asks_of, answers_with, answers_of, is_kept, asked_by, ShowsAt, Shows, put, fresh, asked, taken, replied, ended, heard, closed, left, Event, Asking, Taking, Replying, Ending, Hearing, Closing, Leaving, link_after, hop_taken, hop_replied, hop_ended, hop_heard, hop_left, hops_after}
use Rattle.zr_law_queries.specs.Numbers.{Traffic, Start, Then, IsNewAsk, IsFirstReply, IsLastFinal, EventsKeepHops, TrafficShowsHops, FrontsAreRight}

-- a number that isn't pending is free
pub is_free : {Q P R : Type 0} (h : Hop Q P R) → None ≡ asked_by h → h ≡ Free
is_free Free e = refl
is_free (Asked q a) e = cc
is_free (Open q a rs done) e = cc

-- ---- the parts of a list that is not empty, with a value for where it is

abbrev tail_of : {X : Type 0} → List X → List X
tail_of [] = []
tail_of (x ∷ xs) = xs

abbrev request_of : {Q : Type 0} → Q → List (Ask Q) → Q
request_of q [] = q
request_of q (x ∷ xs) = x.request

abbrev says : {R : Type 0} → R → Body R → R
says r (Replied x) = x
says r Ended = r

abbrev reply_of : {R : Type 0} → R → List (Answer R) → R
reply_of r [] = r
reply_of r (x ∷ xs) = says r x.body

abbrev is_reply : {R : Type 0} → Body R → Bool
is_reply (Replied x) = true
is_reply Ended = false

abbrev starts_with_reply : {R : Type 0} → List (Answer R) → Bool
starts_with_reply [] = false
starts_with_reply (x ∷ xs) = is_reply x.body

-- an event changes the hop of its number, and no other
pub put_here : {X : Type 0} (f : ℕ → X) (n : ℕ) (x : X) → put f n x n ≡ x
put_here f n x = ap (λ b. cond b x (f n)) (eq-eqb n n refl)

pub put_other : {X : Type 0} (f : ℕ → X) (n : ℕ) (x : X) (k : ℕ) → (n == k) ≡ false → put f n x k ≡ f k
put_other f n x k e = ap (λ b. cond b x (f k)) e

module _ {Q P R : Type 0} (l : Link Q P R) (hops : ℕ → Hop Q P R) (h : Shows l hops) where
  -- what a link has under a number, where it is known what the number stands for
  pub shown : (n : ℕ) (s : Hop Q P R) → hops n ≡ s → ShowsAt l n s
  shown n s e = subst (ShowsAt l n) e (h n)

  pub asked_shows : (n : ℕ) (q : Q) (a : Option P) → l.back n ≡ None → Shows (asked l n q a) (put hops n (Asked q a))
  asked_shows n q a free k = step (n == k) refl
    where
      pushed : filter (has_number k) (l.asks ++ ask n q ∷ []) ≡ filter (has_number k) l.asks ++ filter (has_number k) (ask n q ∷ [])
      pushed = filter-append (has_number k) l.asks (ask n q ∷ [])

      step : (b : Bool) → (n == k) ≡ b → ShowsAt (asked l n q a) k (cond b (Asked q a) (hops k))
      step true e =
          let nk : n ≡ k = eqb-true n k e in
          let none : hops k ≡ Free = is_free (hops k) (sym (ap l.back (sym nk) ∙ free) ∙ (h k).back) in
          record {
            asks = pushed ∙ ap (λ z. z ++ filter (has_number k) (ask n q ∷ [])) ((h k).asks ∙ ap (asks_of k) none) ∙ rw (e, nk) refl;
            answers = (h k).answers ∙ ap (answers_of k) none;
            keeps = (h k).keeps ∙ ap is_kept none;
            back = ap (λ b. cond b (Some a) (l.back k)) e;
          }
      step false e = record {
        asks = pushed ∙ ap (λ b. filter (has_number k) l.asks ++ cond b (ask n q ∷ []) []) e ∙ append-nil (filter (has_number k) l.asks) ∙ (h k).asks;
        answers = (h k).answers;
        keeps = (h k).keeps;
        back = ap (λ b. cond b (Some a) (l.back k)) e ∙ (h k).back;
      }

  -- what the lower end takes is the one request of its number, and it keeps none of that number yet
  pub front_ask : (n : ℕ) (q : Q) (rest : List (Ask Q)) → l.asks ≡ ask n q ∷ rest → IsNewAsk l hops n q rest
  front_ask n q rest front =
      let got = by_hop (hops n) refl (sym (ap (filter (has_number n)) front ∙ ap (λ b. cond b (ask n q ∷ filter (has_number n) rest) (filter (has_number n) rest)) (eq-eqb n n refl)) ∙ (h n).asks) in
      record { hop = (got.0, got.1); alone = got.2; untaken = (h n).keeps ∙ ap is_kept got.1 }
    where
      by_hop : (s : Hop Q P R) → hops n ≡ s → ask n q ∷ filter (has_number n) rest ≡ asks_of n s → (a : Option P) × (hops n ≡ Asked q a) × (filter (has_number n) rest ≡ [])
      by_hop Free e f = cc
      by_hop (Asked p a) e f = (a, e ∙ ap (λ z. Asked z a) (sym (ap (λ z. request_of q z) f)), ap (λ z. tail_of z) f)
      by_hop (Open p a rs done) e f = cc

  pub taken_shows : (n : ℕ) (q : Q) (rest : List (Ask Q)) (a : Option P) → l.asks ≡ ask n q ∷ rest → hops n ≡ Asked q a → filter (has_number n) rest ≡ [] →
      Shows (taken l n rest) (put hops n (Open q a [] false))
  taken_shows n q rest a front is none k = step (n == k) refl
    where
      step : (b : Bool) → (n == k) ≡ b → ShowsAt (taken l n rest) k (cond b (Open q a [] false) (hops k))
      step true e =
          let nk : n ≡ k = eqb-true n k e in
          let was : hops k ≡ Asked q a = ap hops (sym nk) ∙ is in
          record {
            asks = ap (λ z. filter (has_number z) rest) (sym nk) ∙ none;
            answers = (h k).answers ∙ ap (answers_of k) was;
            keeps = ap (λ b. cond b true (l.keeps k)) e;
            back = (h k).back ∙ ap asked_by was;
          }
      step false e = record {
        asks = sym (ap (filter (has_number k)) front ∙ ap (λ b. cond b (ask n q ∷ filter (has_number k) rest) (filter (has_number k) rest)) e) ∙ (h k).asks;
        answers = (h k).answers;
        keeps = ap (λ b. cond b true (l.keeps k)) e ∙ (h k).keeps;
        back = (h k).back;
      }

  -- what the lower end keeps is open
  pub kept_is : (n : ℕ) → l.keeps n ≡ true → (q : Q) × (a : Option P) × (rs : List R) × (hops n ≡ Open q a rs false)
  kept_is n e = by_hop (hops n) refl (sym e ∙ (h n).keeps)
    where
      by_hop : (s : Hop Q P R) → hops n ≡ s → true ≡ is_kept s → (q : Q) × (a : Option P) × (rs : List R) × (hops n ≡ Open q a rs false)
      by_hop Free i f = cc
      by_hop (Asked q a) i f = cc
      by_hop (Open q a rs false) i f = (q, a, rs, i)
      by_hop (Open q a rs true) i f = cc

  pub replied_shows : (n : ℕ) (t : R) (q : Q) (a : Option P) (rs : List R) → hops n ≡ Open q a rs false → Shows (replied l n t) (put hops n (Open q a (rs ++ t ∷ []) false))
  replied_shows n t q a rs is k = step (n == k) refl
    where
      pushed : filter (answers_number k) (l.answers ++ reply n t ∷ []) ≡ filter (answers_number k) l.answers ++ filter (answers_number k) (reply n t ∷ [])
      pushed = filter-append (answers_number k) l.answers (reply n t ∷ [])

      step : (b : Bool) → (n == k) ≡ b → ShowsAt (replied l n t) k (cond b (Open q a (rs ++ t ∷ []) false) (hops k))
      step true e =
          let nk : n ≡ k = eqb-true n k e in
          let was : hops k ≡ Open q a rs false = ap hops (sym nk) ∙ is in
          record {
            asks = (h k).asks ∙ ap (asks_of k) was;
            answers = pushed ∙ ap (λ z. z ++ filter (answers_number k) (reply n t ∷ [])) ((h k).answers ∙ ap (answers_of k) was ∙ append-nil (map (λ z. reply k z) rs))
                ∙ ap (λ b. map (λ z. reply k z) rs ++ cond b (reply n t ∷ []) []) e ∙ ap (λ z. map (λ y. reply k y) rs ++ reply z t ∷ []) nk
                ∙ sym (map-append (λ z. reply k z) rs (t ∷ [])) ∙ sym (append-nil (map (λ z. reply k z) (rs ++ t ∷ [])));
            keeps = (h k).keeps ∙ ap is_kept was;
            back = (h k).back ∙ ap asked_by was;
          }
      step false e = record {
        asks = (h k).asks;
        answers = pushed ∙ ap (λ b. filter (answers_number k) l.answers ++ cond b (reply n t ∷ []) []) e ∙ append-nil (filter (answers_number k) l.answers) ∙ (h k).answers;
        keeps = (h k).keeps;
        back = (h k).back;
      }

  pub ended_shows : (n : ℕ) (q : Q) (a : Option P) (rs : List R) → hops n ≡ Open q a rs false → Shows (ended l n) (put hops n (Open q a rs true))
  ended_shows n q a rs is k = step (n == k) refl
    where
      pushed : filter (answers_number k) (l.answers ++ final n ∷ []) ≡ filter (answers_number k) l.answers ++ filter (answers_number k) (final n ∷ [])
      pushed = filter-append (answers_number k) l.answers (final n ∷ [])

      step : (b : Bool) → (n == k) ≡ b → ShowsAt (ended l n) k (cond b (Open q a rs true) (hops k))
      step true e =
          let nk : n ≡ k = eqb-true n k e in
          let was : hops k ≡ Open q a rs false = ap hops (sym nk) ∙ is in
          record {
            asks = (h k).asks ∙ ap (asks_of k) was;
            answers = pushed ∙ ap (λ z. z ++ filter (answers_number k) (final n ∷ [])) ((h k).answers ∙ ap (answers_of k) was ∙ append-nil (map (λ z. reply k z) rs))
                ∙ ap (λ b. map (λ z. reply k z) rs ++ cond b (final n ∷ []) []) e ∙ ap (λ z. map (λ y. reply k y) rs ++ final z ∷ []) nk;
            keeps = ap (λ b. cond b false (l.keeps k)) e;
            back = (h k).back ∙ ap asked_by was;
          }
      step false e = record {
        asks = (h k).asks;
        answers = pushed ∙ ap (λ b. filter (answers_number k) l.answers ++ cond b (final n ∷ []) []) e ∙ append-nil (filter (answers_number k) l.answers) ∙ (h k).answers;
        keeps = ap (λ b. cond b false (l.keeps k)) e ∙ (h k).keeps;
        back = (h k).back;
      }

  -- the front of what waits from the lower end
  front : (m : Answer R) (rest : List (Answer R)) → l.answers ≡ m ∷ rest → m ∷ filter (answers_number m.number) rest ≡ answers_of m.number (hops m.number)
  front m rest e =
      sym (ap (filter (answers_number m.number)) e ∙ ap (λ b. cond b (m ∷ filter (answers_number m.number) rest) (filter (answers_number m.number) rest)) (eq-eqb m.number m.number refl))
      ∙ (h m.number).answers

  others : (m : Answer R) (rest : List (Answer R)) (k : ℕ) → l.answers ≡ m ∷ rest → (m.number == k) ≡ false → filter (answers_number k) rest ≡ answers_of k (hops k)
  others m rest k front e = sym (ap (filter (answers_number k)) front ∙ ap (λ b. cond b (m ∷ filter (answers_number k) rest) (filter (answers_number k) rest)) e) ∙ (h k).answers

  -- a reply at the front is the first of its hop, which is open or has ended
  pub front_reply : (n : ℕ) (t : R) (rest : List (Answer R)) → l.answers ≡ reply n t ∷ rest → IsFirstReply l hops n t rest
  front_reply n t rest f = by_hop (hops n) refl (front (reply n t) rest f)
    where
      by_hop : (s : Hop Q P R) → hops n ≡ s → reply n t ∷ filter (answers_number n) rest ≡ answers_of n s → IsFirstReply l hops n t rest
      by_hop Free e f = cc
      by_hop (Asked p a) e f = cc
      by_hop (Open p a [] false) e f = cc
      by_hop (Open p a [] true) e f = absurd (false≢true (sym (ap starts_with_reply f)))
      by_hop (Open p a (r ∷ rs) done) e f =
          let is : hops n ≡ Open p a (t ∷ rs) done = e ∙ ap (λ z. Open p a (z ∷ rs) done) (sym (ap (reply_of t) f)) in
          record { request = p; by = a; replies = rs; done = done; hop = is; behind = ap tail_of f; pending = (h n).back ∙ ap asked_by is }

  pub heard_shows : (n : ℕ) (t : R) (q : Q) (rest : List (Answer R)) (a : Option P) (rs : List R) (done : Bool) → l.answers ≡ reply n t ∷ rest →
      hops n ≡ Open q a (t ∷ rs) done → filter (answers_number n) rest ≡ answers_with n rs done → Shows (heard l rest) (put hops n (Open q a rs done))
  heard_shows n t q rest a rs done f is behind k = step (n == k) refl
    where
      step : (b : Bool) → (n == k) ≡ b → ShowsAt (heard l rest) k (cond b (Open q a rs done) (hops k))
      step true e =
          let nk : n ≡ k = eqb-true n k e in
          let was : hops k ≡ Open q a (t ∷ rs) done = ap hops (sym nk) ∙ is in
          record {
            asks = (h k).asks ∙ ap (asks_of k) was;
            answers = ap (λ z. filter (answers_number z) rest) (sym nk) ∙ behind ∙ ap (λ z. answers_with z rs done) nk;
            keeps = (h k).keeps ∙ ap is_kept was;
            back = (h k).back ∙ ap asked_by was;
          }
      step false e = record { asks = (h k).asks; answers = others (reply n t) rest k f e; keeps = (h k).keeps; back = (h k).back }

  -- a final at the front is the last of its hop
  pub front_final : (n : ℕ) (rest : List (Answer R)) → l.answers ≡ final n ∷ rest → IsLastFinal l hops n rest
  front_final n rest f = by_hop (hops n) refl (front (final n) rest f)
    where
      by_hop : (s : Hop Q P R) → hops n ≡ s → final n ∷ filter (answers_number n) rest ≡ answers_of n s → IsLastFinal l hops n rest
      by_hop Free e f = cc
      by_hop (Asked p a) e f = cc
      by_hop (Open p a [] false) e f = cc
      by_hop (Open p a [] true) e f = record { request = p; by = a; hop = e; behind = ap tail_of f; unkept = (h n).keeps ∙ ap is_kept e; pending = (h n).back ∙ ap asked_by e }
      by_hop (Open p a (r ∷ rs) done) e f = absurd (false≢true (ap starts_with_reply f))

  pub closed_shows : (n : ℕ) (rest : List (Answer R)) (q : Q) (a : Option P) → l.answers ≡ final n ∷ rest → hops n ≡ Open q a [] true → filter (answers_number n) rest ≡ [] →
      Shows (closed l n rest) (put hops n Free)
  closed_shows n rest q a f is behind k = step (n == k) refl
    where
      step : (b : Bool) → (n == k) ≡ b → ShowsAt (closed l n rest) k (cond b Free (hops k))
      step true e =
          let nk : n ≡ k = eqb-true n k e in
          let was : hops k ≡ Open q a [] true = ap hops (sym nk) ∙ is in
          record {
            asks = (h k).asks ∙ ap (asks_of k) was;
            answers = ap (λ z. filter (answers_number z) rest) (sym nk) ∙ behind;
            keeps = (h k).keeps ∙ ap is_kept was;
            back = ap (λ b. cond b None (l.back k)) e;
          }
      step false e = record { asks = (h k).asks; answers = others (final n) rest k f e; keeps = (h k).keeps; back = ap (λ b. cond b None (l.back k)) e ∙ (h k).back }

  -- who asked has gone: the number stays pending, for nobody
  pub left_shows : (n : ℕ) (a : Option P) → l.back n ≡ Some a → Shows (left l n) (put hops n (hop_left (hops n)))
  left_shows n a pending k = step (n == k) refl
    where
      same_asks : (s : Hop Q P R) → asks_of k s ≡ asks_of k (hop_left s)
      same_asks Free = refl
      same_asks (Asked q b) = refl
      same_asks (Open q b rs done) = refl

      same_answers : (s : Hop Q P R) → answers_of k s ≡ answers_of k (hop_left s)
      same_answers Free = refl
      same_answers (Asked q b) = refl
      same_answers (Open q b rs done) = refl

      same_kept : (s : Hop Q P R) → is_kept s ≡ is_kept (hop_left s)
      same_kept Free = refl
      same_kept (Asked q b) = refl
      same_kept (Open q b rs done) = refl

      nobody : (s : Hop Q P R) → Some a ≡ asked_by s → Some None ≡ asked_by (hop_left s)
      nobody Free e = cc
      nobody (Asked q b) e = refl
      nobody (Open q b rs done) e = refl

      step : (b : Bool) → (n == k) ≡ b → ShowsAt (left l n) k (cond b (hop_left (hops n)) (hops k))
      step true e =
          let nk : n ≡ k = eqb-true n k e in
          let was : hop_left (hops k) ≡ hop_left (hops n) = ap (λ z. hop_left (hops z)) (sym nk) in
          record {
            asks = (h k).asks ∙ same_asks (hops k) ∙ ap (asks_of k) was;
            answers = (h k).answers ∙ same_answers (hops k) ∙ ap (answers_of k) was;
            keeps = (h k).keeps ∙ same_kept (hops k) ∙ ap is_kept was;
            back = ap (λ b. cond b (Some None) (l.back k)) e ∙ nobody (hops k) (sym pending ∙ ap l.back nk ∙ (h k).back) ∙ ap asked_by was;
          }
      step false e = record { asks = (h k).asks; answers = (h k).answers; keeps = (h k).keeps; back = ap (λ b. cond b (Some None) (l.back k)) e ∙ (h k).back }

  pub event_shows : (e : Event l) → Shows (link_after l e) (hops_after l e hops)
  event_shows (Asking n q a free) = asked_shows n q a free
  event_shows (Taking n q rest first) =
      let got = front_ask n q rest first in
      subst (λ z. Shows (taken l n rest) (put hops n z)) (sym (ap hop_taken got.hop.1)) (taken_shows n q rest got.hop.0 first got.hop.1 got.alone)
  event_shows (Replying n r kept) =
      let got = kept_is n kept in
      subst (λ z. Shows (replied l n r) (put hops n z)) (sym (ap (hop_replied r) got.3)) (replied_shows n r got.0 got.1 got.2 got.3)
  event_shows (Ending n kept) =
      let got = kept_is n kept in
      subst (λ z. Shows (ended l n) (put hops n z)) (sym (ap hop_ended got.3)) (ended_shows n got.0 got.1 got.2 got.3)
  event_shows (Hearing n r rest first) =
      let got = front_reply n r rest first in
      subst (λ z. Shows (heard l rest) (put hops n z)) (sym (ap hop_heard got.hop)) (heard_shows n r got.request rest got.by got.replies got.done first got.hop got.behind)
  event_shows (Closing n rest first) =
      let got = front_final n rest first in
      closed_shows n rest got.request got.by first got.hop got.behind
  event_shows (Leaving n a pending) = left_shows n a pending

-- a new link has nothing under any number
pub fresh_shows : (Q P R : Type 0) → Shows {Q = Q} {P = P} {R = R} fresh (λ n. Free)
fresh_shows Q P R n = record { asks = refl; answers = refl; keeps = refl; back = refl }

pub traffic_shows : {Q P R : Type 0} (l : Link Q P R) (hops : ℕ → Hop Q P R) → Traffic l hops → Shows l hops
traffic_shows {Q = Q} {P = P} {R = R} l hops Start = fresh_shows Q P R
traffic_shows l hops (Then old was c e) = event_shows old was (traffic_shows old was c) e

pub events_keep : (Q P R : Type 0) → EventsKeepHops Q P R
events_keep Q P R = record { start = fresh_shows Q P R; events = λ l hops h e. event_shows l hops h e }

pub traffic : (Q P R : Type 0) → TrafficShowsHops Q P R
traffic Q P R l hops c = traffic_shows l hops c

pub fronts : (Q P R : Type 0) → FrontsAreRight Q P R
fronts Q P R = record { asks = λ l hops h n q rest e. front_ask l hops h n q rest e; replies = λ l hops h n r rest e. front_reply l hops h n r rest e; finals = λ l hops h n rest e. front_final l hops h n rest e }
