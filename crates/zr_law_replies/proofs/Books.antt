-- What a client has of requests and of queries under one number: what it was sent and asked, and what is open of that.
use Rattle.std.proofs.Common.{◌≡◌, ℕ, ◌+◌, Bool, true, false, cond, List, [], ◌∷◌, ◌++◌, length, Some, sym, ap, ◌∙◌, arith}
use Rattle.std.specs.List.{slice_get}
use Rattle.std.specs.Option.{option_map}
use Rattle.std.proofs.lemmas.Bool.{false≢true}
use Rattle.std.proofs.lemmas.List.{length-append}
use Rattle.zr_lists.proofs.Finds.{slice_get_pushed}
use Rattle.zr_guarantee.specs.Queries.{Asked}

-- the lines of the queries that it was sent, how many it has ended, whether it keeps one, and if its link is whole the line of that
pub record Requests (lines : List ℕ) (ended : ℕ) (keeps whole : Bool) (line : ℕ) : Type 0 where
  pub count : length lines ≡ ended + cond keeps 1 0
  pub last : whole ≡ true → keeps ≡ true → slice_get lines ended ≡ Some line

-- the queries that it asked, how many finals it was sent, whether one is open, and if its link is whole the line of that
pub record Asks (qs : List Asked) (finals : ℕ) (waits whole : Bool) (line : ℕ) : Type 0 where
  pub count : finals + cond waits 1 0 ≡ length qs
  pub last : whole ≡ true → waits ≡ true → option_map (λ q. q.line) (slice_get qs finals) ≡ Some line

-- ---- nothing happens

pub requests_same : (lines lines' : List ℕ) (ended ended' : ℕ) (keeps keeps' whole whole' : Bool) (line line' : ℕ) → lines' ≡ lines → ended' ≡ ended → keeps' ≡ keeps → (whole' ≡ true → keeps ≡ true → (whole ≡ true) × (line' ≡ line)) →
    Requests lines ended keeps whole line → Requests lines' ended' keeps' whole' line'
requests_same lines lines' ended ended' keeps keeps' whole whole' line line' el ee ek en h = record {
  count = ap length el ∙ h.count ∙ sym (λ i. ee i + cond (ek i) 1 0);
  last = λ w k. (λ i. slice_get (el i) (ee i)) ∙ h.last (en w (sym ek ∙ k)).0 (sym ek ∙ k) ∙ ap (λ z. Some z) (sym (en w (sym ek ∙ k)).1);
}

pub asks_same : (qs qs' : List Asked) (finals finals' : ℕ) (waits waits' whole whole' : Bool) (line line' : ℕ) → qs' ≡ qs → finals' ≡ finals → waits' ≡ waits → (whole' ≡ true → waits ≡ true → (whole ≡ true) × (line' ≡ line)) →
    Asks qs finals waits whole line → Asks qs' finals' waits' whole' line'
asks_same qs qs' finals finals' waits waits' whole whole' line line' eq ef ek en h = record {
  count = (λ i. ef i + cond (ek i) 1 0) ∙ h.count ∙ ap length (sym eq);
  last = λ w k. (λ i. option_map (λ (q : Asked). q.line) (slice_get (eq i) (ef i))) ∙ h.last (en w (sym ek ∙ k)).0 (sym ek ∙ k) ∙ ap (λ z. Some z) (sym (en w (sym ek ∙ k)).1);
}

-- ---- a request is sent, and ended

pub request_sent : (lines : List ℕ) (ended : ℕ) (whole whole' : Bool) (line tag line' : ℕ) → (whole' ≡ true → line' ≡ tag) → Requests lines ended false whole line → Requests (lines ++ tag ∷ []) ended true whole' line'
request_sent lines ended whole whole' line tag line' el h =
    let many : length lines ≡ ended + 0 = h.count in
    record {
      count = length-append lines (tag ∷ []) ∙ (let e : length lines + 1 ≡ ended + 1 = omega arith in e);
      last = λ w k. slice_get_pushed lines ended tag (omega arith) ∙ ap (λ z. Some z) (sym (el w));
    }

pub request_ended : (lines : List ℕ) (ended ended' : ℕ) (whole whole' : Bool) (line line' : ℕ) → ended' ≡ ended + 1 → Requests lines ended true whole line → Requests lines ended' false whole' line'
request_ended lines ended ended' whole whole' line line' e h =
    let many : length lines ≡ ended + 1 = h.count in
    record { count = (let f : length lines ≡ ended' + 0 = omega arith in f); last = λ w k. absurd (false≢true k) }

-- ---- a query is asked, and its final is sent

pub query_asked : (qs qs' : List Asked) (finals : ℕ) (whole whole' : Bool) (line line' : ℕ) (q : Asked) → qs' ≡ qs ++ q ∷ [] → (whole' ≡ true → line' ≡ q.line) → Asks qs finals false whole line → Asks qs' finals true whole' line'
query_asked qs qs' finals whole whole' line line' q e el h =
    let many : finals + 0 ≡ length qs = h.count in
    record {
      count = (let f : finals + 1 ≡ length qs + 1 = omega arith in f) ∙ sym (length-append qs (q ∷ [])) ∙ ap length (sym e);
      last = λ w k. ap (λ z. option_map (λ (p : Asked). p.line) (slice_get z finals)) e
          ∙ ap (λ o. option_map (λ (p : Asked). p.line) o) (slice_get_pushed qs finals q (omega arith)) ∙ ap (λ z. Some z) (sym (el w));
    }

pub final_sent : (qs : List Asked) (finals finals' : ℕ) (whole whole' : Bool) (line line' : ℕ) → finals' ≡ finals + 1 → Asks qs finals true whole line → Asks qs finals' false whole' line'
final_sent qs finals finals' whole whole' line line' e h =
    let many : finals + 1 ≡ length qs = h.count in
    record { count = (let f : finals' + 0 ≡ length qs = omega arith in f); last = λ w k. absurd (false≢true k) }
