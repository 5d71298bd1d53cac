-- One share among others changes, as a sample comes to it.
use Rattle.std.proofs.Common.{◌≡◌, ℕ, zero, suc, ◌+◌, ◌<◌, ◌==◌, Bool, true, false, cond, not, List, [], ◌∷◌, ◌++◌, get_or, length, map, set, take, refl, sym, ap, ◌∙◌, subst, append_assoc, append-nil, arith}
use Rattle.std.specs.Prelude.{◌&&◌}
use Rattle.std.specs.List.{AllByRecursion, list_any}
use Rattle.std.proofs.lemmas.Bool.{and_parts, eqb-true, false≢true}
use Rattle.std.proofs.lemmas.List.{map-append, take_more}
use Rattle.zr_lists.proofs.Each.{All-append}
use Rattle.zr_id.specs.Zid.{is_named}
use Rattle.zr_id.specs.declared.link.LinkNo.{LinkNo}
use Rattle.zr_msg.specs.declared.msg.Msg.{Msg}
use Rattle.zr_orders.specs.Bag.{weigh, AreSame}
use Rattle.zr_orders.proofs.Bag.{weigh-append}
use Rattle.zr_script_spec.specs.declared.report.ReportLine.TheVariants.{Taken}
use Rattle.zr_script_spec.specs.Report.{line_text}
use Rattle.zr_world_spec.specs.World.{Tagged, EndState, End, is_idle, turned}
use Rattle.zr_world_spec.proofs.Names.{same_name}
use Rattle.zr_law_fan.specs.Samples.{Move, Handling, tagged}
use Rattle.zr_world_gang.specs.declared.message.Sending.{Sending}
use Rattle.zr_world_gang.specs.declared.message.Waiting.{Waiting}
use Rattle.zr_world_gang.specs.Shares.{ShareState, MayBeHandled, to_client, to_router, with_input, with_output}
use Rattle.zr_law_rounds.specs.Rounds.{waits_in, waits, Weights, told_in, told_by}
use Rattle.zr_law_rounds.specs.Told.{HasBegun, HaveCome, Stay, nothing, went, taken_weighs, went_weighs}
use Rattle.zr_law_rounds.proofs.Beginning.{none_went}

-- ---- one share

-- these wait at a share too, lines of such a weight are told more, and its router stays
pub record HasCome (moves : List Move) (tells : Weights → ℕ) (s t : ShareState) : Type 0 where
  pub waits_are : AreSame (waits_in t) (moves ++ waits_in s)
  pub told_are : (f : Weights) → told_in f t ≡ told_in f s + tells f
  pub name : t.name ≡ s.name
  pub hub : t.hub ≡ s.hub

pub one_come : (moves : List Move) (tells : Weights → ℕ) (ss : List ShareState) (i : ℕ) (s t : ShareState) → i < length ss → s ≡ get_or ss i s → HasCome moves tells s t → HaveCome moves tells ss (set ss i t)
one_come moves tells [] i s t lt is h = absurd (omega (arith, lt))
one_come moves tells (x ∷ xs) zero s t lt is h = record {
  waits_are = λ f.
      let one = weigh-append f (waits_in t) (waits xs) in
      let two = weigh-append f moves (waits_in x ++ waits xs) in
      let three = weigh-append f (waits_in x) (waits xs) in
      let four = h.waits_are f in
      let five = weigh-append f moves (waits_in s) in
      let six = ap (λ z. weigh f (waits_in z)) is in
      omega (arith, one, two, three, four, five, six);
  told_are = λ f.
      let one = h.told_are f in
      let two = ap (told_in f) is in
      omega (arith, one, two);
  stay = (ap (λ z. z ∷ map (λ (y : ShareState). y.name) xs) (h.name ∙ ap (λ (z : ShareState). z.name) is), ap (λ z. z ∷ map (λ (y : ShareState). y.hub) xs) (h.hub ∙ ap (λ (z : ShareState). z.hub) is));
}
one_come moves tells (x ∷ xs) (suc i) s t lt is h =
    let rest = one_come moves tells xs i s t (omega (arith, lt)) is h in
    record {
      waits_are = λ f.
          let one = weigh-append f (waits_in x) (waits (set xs i t)) in
          let two = weigh-append f moves (waits_in x ++ waits xs) in
          let three = weigh-append f (waits_in x) (waits xs) in
          let four = rest.waits_are f in
          let five = weigh-append f moves (waits xs) in
          omega (arith, one, two, three, four, five);
      told_are = λ f. let one = rest.told_are f in omega (arith, one);
      stay = (ap (λ z. x.name ∷ z) rest.stay.0, ap (λ z. x.hub ∷ z) rest.stay.1);
    }

-- ---- all shares

pub come_none : (ss : List ShareState) → HaveCome [] nothing ss ss
come_none ss = record { waits_are = λ f. refl; told_are = λ f. omega arith; stay = (refl, refl) }

pub come_both : (xs ys : List Move) (a b : Weights → ℕ) (ss ts us : List ShareState) → HaveCome xs a ss ts → HaveCome ys b ts us → HaveCome (xs ++ ys) (λ f. a f + b f) ss us
come_both xs ys a b ss ts us h k = record {
  waits_are = λ f.
      let one = h.waits_are f in
      let two = k.waits_are f in
      let three = weigh-append f xs (waits ss) in
      let four = weigh-append f ys (waits ts) in
      let five = weigh-append f (xs ++ ys) (waits ss) in
      let six = weigh-append f xs ys in
      omega (arith, one, two, three, four, five, six);
  told_are = λ f.
      let one = h.told_are f in
      let two = k.told_are f in
      omega (arith, one, two);
  stay = (k.stay.0 ∙ h.stay.0, k.stay.1 ∙ h.stay.1);
}

-- the same, said otherwise
pub come_as : (xs ys : List Move) (a b : Weights → ℕ) (ss ts : List ShareState) → AreSame xs ys → ((f : Weights) → a f ≡ b f) → HaveCome xs a ss ts → HaveCome ys b ss ts
come_as xs ys a b ss ts moves tells h = record {
  waits_are = λ f.
      let one = h.waits_are f in
      let two = weigh-append f xs (waits ss) in
      let three = weigh-append f ys (waits ss) in
      let same = moves f in
      omega (arith, one, two, three, same);
  told_are = λ f. let one = h.told_are f in let same = tells f in omega (arith, one, same);
  stay = h.stay;
}

-- ---- what comes to a share

abbrev to_handle : List ℕ → Waiting → Move
to_handle name m = Handling (name, m.name) (tagged m.tag m.msg)

abbrev to_pass : List ℕ → Sending → Move
to_pass name m = Handling (m.to, name) (tagged m.tag m.msg)

-- a sample waits
pub received_one : (router from : List ℕ) (link : LinkNo) (msg : Msg) (tag : ℕ) (s t : ShareState) → is_named router s.name ≡ true →
    t ≡ with_input s (s.input ++ record { from = link; name = from; msg = msg; tag = tag } ∷ []) → HasCome (Handling (router, from) (tagged tag msg) ∷ []) nothing s t
received_one router from link msg tag s t named is = record {
  waits_are = λ f.
      let m : Waiting = record { from = link; name = from; msg = msg; tag = tag } in
      let new = ap (λ z. weigh f (waits_in z)) is in
      let one = weigh-append f (map (to_handle s.name) (s.input ++ m ∷ [])) (map (to_pass s.name) s.output) in
      let two = ap (weigh f) (map-append (to_handle s.name) s.input (m ∷ [])) in
      let three = weigh-append f (map (to_handle s.name) s.input) (to_handle s.name m ∷ []) in
      let four = weigh-append f (map (to_handle s.name) s.input) (map (to_pass s.name) s.output) in
      let five = ap (λ z. f (Handling (z, from) (tagged tag msg))) (same_name router s.name named) in
      omega (arith, new, one, two, three, four, five);
  told_are = λ f. let same = ap (told_in f) is in omega (arith, same);
  name = ap (λ (z : ShareState). z.name) is;
  hub = ap (λ (z : ShareState). z.hub) is;
}

-- one goes to a router, or is sent to a client
pub sent_one : (is_router : Bool) (e : End) (msg : Msg) (tag : ℕ) (s t : ShareState) → is_named e.0 s.name ≡ true → t ≡ cond is_router (to_router s e.1 msg tag) (to_client s e.1 msg tag) →
    HasCome (went is_router e (tagged tag msg ∷ [])) (went_weighs is_router e (tagged tag msg ∷ [])) s t
sent_one true e msg tag s t named is = record {
  waits_are = λ f.
      let m : Sending = record { to = e.1; msg = msg; tag = tag } in
      let new = ap (λ z. weigh f (waits_in z)) is in
      let one = weigh-append f (map (to_handle s.name) s.input) (map (to_pass s.name) (s.output ++ m ∷ [])) in
      let two = ap (weigh f) (map-append (to_pass s.name) s.output (m ∷ [])) in
      let three = weigh-append f (map (to_pass s.name) s.output) (to_pass s.name m ∷ []) in
      let four = weigh-append f (map (to_handle s.name) s.input) (map (to_pass s.name) s.output) in
      let five = ap (λ z. f (Handling (e.1, z) (tagged tag msg))) (same_name e.0 s.name named) in
      omega (arith, new, one, two, three, four, five);
  told_are = λ f.
      let same = ap (told_in f) is in
      let one = weigh-append f.taken s.taken (line_text (Taken s.name e.1 msg tag) ∷ []) in
      let two = ap (λ z. f.taken (line_text (Taken z e.1 msg tag))) (same_name e.0 s.name named) in
      omega (arith, same, one, two);
  name = ap (λ (z : ShareState). z.name) is;
  hub = ap (λ (z : ShareState). z.hub) is;
}
sent_one false e msg tag s t named is = record {
  waits_are = λ f. ap (λ z. weigh f (waits_in z)) is;
  told_are = λ f.
      let same = ap (told_in f) is in
      let one = weigh-append f.sent s.sent (line_text (Taken s.name e.1 msg tag) ∷ []) in
      let two = ap (λ z. f.sent (line_text (Taken z e.1 msg tag))) (same_name e.0 s.name named) in
      omega (arith, same, one, two);
  name = ap (λ (z : ShareState). z.name) is;
  hub = ap (λ (z : ShareState). z.hub) is;
}

-- ---- what waits at an end comes, message by message

-- what was on the wire is to be handled, and no line is told of it
abbrev pub to_wait : End → List Tagged → List Move
to_wait e ms = map (λ m. Handling e m) ms

abbrev pub untold : List Tagged → Weights → ℕ
untold ms f = 0

-- some of all that is to come has come, the others are left
pub record AreComing (come : List Tagged → List Move) (tells : List Tagged → Weights → ℕ) (all left : List Tagged) (ss ts : List ShareState) : Type 0 where
  pub done : List Tagged
  pub whole : all ≡ done ++ left
  pub came : HaveCome (come done) (tells done) ss ts

module _ (come : List Tagged → List Move) (tells : List Tagged → Weights → ℕ) where
  begun : (all left : List Tagged) (ss : List ShareState) → come [] ≡ [] → ((f : Weights) → tells [] f ≡ 0) → left ≡ all → AreComing come tells all left ss ss
  begun all left ss none nothing_told is = record { done = []; whole = sym is; came = come_as [] (come []) nothing (tells []) ss ss (λ f i. weigh f (sym none i)) (λ f. sym (nothing_told f)) (come_none ss) }

  one_more : ((xs ys : List Tagged) → come (xs ++ ys) ≡ come xs ++ come ys) → ((f : Weights) (xs ys : List Tagged) → tells (xs ++ ys) f ≡ tells xs f + tells ys f) →
      (all left more : List Tagged) (m : Tagged) (ss ts us : List ShareState) → AreComing come tells all left ss ts → left ≡ m ∷ more → HaveCome (come (m ∷ [])) (tells (m ∷ [])) ts us → AreComing come tells all more ss us
  one_more adds tells_more all left more m ss ts us h front one = record {
    done = h.done ++ m ∷ [];
    whole = h.whole ∙ ap (λ z. h.done ++ z) front ∙ sym (append_assoc h.done (m ∷ []) more);
    came = come_as (come h.done ++ come (m ∷ [])) (come (h.done ++ m ∷ [])) (λ f. tells h.done f + tells (m ∷ []) f) (tells (h.done ++ m ∷ [])) ss us (λ f i. weigh f (sym (adds h.done (m ∷ [])) i))
        (λ f. sym (tells_more f h.done (m ∷ []))) (come_both (come h.done) (come (m ∷ [])) (tells h.done) (tells (m ∷ [])) ss ts us h.came one);
  }

  all_come : (all left : List Tagged) (ss ts : List ShareState) → AreComing come tells all left ss ts → left ≡ [] → HaveCome (come all) (tells all) ss ts
  all_come all left ss ts h none =
      let is : h.done ≡ all = sym (h.whole ∙ ap (λ z. h.done ++ z) none ∙ append-nil h.done) in
      subst (λ z. HaveCome (come z) (tells z) ss ts) is h.came

pub wait_begun : (e : End) (all left : List Tagged) (ss : List ShareState) → left ≡ all → AreComing (to_wait e) untold all left ss ss
wait_begun e all left ss is = begun (to_wait e) untold all left ss refl (λ f. refl) is

pub waits_one : (e : End) (all left more : List Tagged) (m : Tagged) (ss ts us : List ShareState) → AreComing (to_wait e) untold all left ss ts → left ≡ m ∷ more →
    HaveCome (Handling e (tagged m.tag m.msg) ∷ []) nothing ts us → AreComing (to_wait e) untold all more ss us
waits_one e all left more m ss ts us h front one = one_more (to_wait e) untold (map-append (λ m. Handling e m)) (λ f xs ys. refl) all left more m ss ts us h front one

pub all_wait : (e : End) (all left : List Tagged) (ss ts : List ShareState) → AreComing (to_wait e) untold all left ss ts → left ≡ [] → HaveCome (map (λ m. Handling e m) all) nothing ss ts
all_wait e all left ss ts h none = all_come (to_wait e) untold all left ss ts h none

both_went : (is_router : Bool) (e : End) (xs ys : List Tagged) → went is_router e (xs ++ ys) ≡ went is_router e xs ++ went is_router e ys
both_went true e xs ys = map-append (λ m. Handling (turned e) m) xs ys
both_went false e xs ys = refl

pub send_begun : (is_router : Bool) (e : End) (all left : List Tagged) (ss : List ShareState) → left ≡ all → AreComing (went is_router e) (went_weighs is_router e) all left ss ss
send_begun is_router e all left ss is = begun (went is_router e) (went_weighs is_router e) all left ss (none_went is_router e) (λ f. refl) is

pub sends_one : (is_router : Bool) (e : End) (all left more : List Tagged) (m : Tagged) (ss ts us : List ShareState) → AreComing (went is_router e) (went_weighs is_router e) all left ss ts → left ≡ m ∷ more →
    HaveCome (went is_router e (tagged m.tag m.msg ∷ [])) (went_weighs is_router e (tagged m.tag m.msg ∷ [])) ts us → AreComing (went is_router e) (went_weighs is_router e) all more ss us
sends_one is_router e all left more m ss ts us h front one =
    one_more (went is_router e) (went_weighs is_router e) (both_went is_router e) (λ f xs ys. weigh-append (λ m. taken_weighs is_router e m f) xs ys) all left more m ss ts us h front one

pub all_sent : (is_router : Bool) (e : End) (all left : List Tagged) (ss ts : List ShareState) → AreComing (went is_router e) (went_weighs is_router e) all left ss ts → left ≡ [] →
    HaveCome (went is_router e all) (went_weighs is_router e all) ss ts
all_sent is_router e all left ss ts h none = all_come (went is_router e) (went_weighs is_router e) all left ss ts h none

-- ---- an end begins

up_where : (up idle stuck : Bool) → stuck ≡ (not up && not idle) → stuck ≡ false → idle ≡ false → up ≡ true
up_where true idle stuck is unstuck waiting = refl
up_where false true stuck is unstuck waiting = absurd (false≢true (sym waiting))
up_where false false stuck is unstuck waiting = absurd (false≢true (sym unstuck ∙ is))

pub end_begins : (e : End) (s : EndState) (is_router stuck : Bool) (wire queue : List Tagged) (ss ts us : List ShareState) → is_router ≡ list_any (λ z. is_named e.1 z.name) ss → wire ≡ s.wire → queue ≡ s.queue →
    HaveCome (map (λ m. Handling e m) wire) nothing ss ts → HaveCome (went is_router e queue) (went_weighs is_router e queue) ts us → stuck ≡ (not s.up && not (is_idle s)) → stuck ≡ false → HasBegun e s ss us
end_begins e s is_router stuck wire queue ss ts us among same_wire same_queue received sent test unstuck = record {
  come = come_as (to_wait e wire ++ went is_router e queue) (to_wait e s.wire ++ went (list_any (λ z. is_named e.1 z.name) ss) e s.queue) (λ f. 0 + went_weighs is_router e queue f)
      (went_weighs (list_any (λ z. is_named e.1 z.name) ss) e s.queue) ss us (λ f i. weigh f (to_wait e (same_wire i) ++ went (among i) e (same_queue i))) (λ f. unadded (went_weighs is_router e queue f) ∙ (λ i. went_weighs (among i) e (same_queue i) f))
      (come_both (to_wait e wire) (went is_router e queue) nothing (went_weighs is_router e queue) ss ts us received sent);
  up = up_where s.up (is_idle s) stuck test unstuck;
}
  where
    unadded : (n : ℕ) → 0 + n ≡ n
    unadded n = omega arith

-- ---- what a share had sent comes to others

-- what was taken from a share's output, and is to come to others yet: it waited there, and nothing else has changed
pub record IsPassing (from : List ℕ) (left : List Sending) (ss ts : List ShareState) : Type 0 where
  pub waits_are : AreSame (map (to_pass from) left ++ waits ts) (waits ss)
  pub told_are : (f : Weights) → told_by f ts ≡ told_by f ss
  pub stay : Stay ss ts

pub output_taken : (ss : List ShareState) (i : ℕ) (s t : ShareState) → i < length ss → s ≡ get_or ss i s → t ≡ with_output s [] → IsPassing s.name s.output ss (set ss i t)
output_taken [] i s t lt same is = absurd (omega (arith, lt))
output_taken (x ∷ xs) zero s t lt same is = record {
  waits_are = λ f.
      let new = ap (λ z. weigh f (waits_in z)) is in
      let old = ap (λ z. weigh f (waits_in z)) same in
      let one = weigh-append f (map (to_pass s.name) s.output) (waits_in t ++ waits xs) in
      let two = weigh-append f (waits_in t) (waits xs) in
      let three = weigh-append f (map (to_handle s.name) s.input) [] in
      let four = weigh-append f (map (to_handle s.name) s.input) (map (to_pass s.name) s.output) in
      let five = weigh-append f (waits_in x) (waits xs) in
      omega (arith, new, old, one, two, three, four, five);
  told_are = λ f.
      let new = ap (told_in f) is in
      let old = ap (told_in f) same in
      omega (arith, new, old);
  stay = (
    ap (λ z. z ∷ map (λ (y : ShareState). y.name) xs) (ap (λ (z : ShareState). z.name) is ∙ ap (λ (z : ShareState). z.name) same),
    ap (λ z. z ∷ map (λ (y : ShareState). y.hub) xs) (ap (λ (z : ShareState). z.hub) is ∙ ap (λ (z : ShareState). z.hub) same),
  );
}
output_taken (x ∷ xs) (suc i) s t lt same is =
    let rest = output_taken xs i s t (omega (arith, lt)) same is in
    record {
      waits_are = λ f.
          let one = weigh-append f (map (to_pass s.name) s.output) (waits_in x ++ waits (set xs i t)) in
          let two = weigh-append f (waits_in x) (waits (set xs i t)) in
          let three = weigh-append f (map (to_pass s.name) s.output) (waits (set xs i t)) in
          let four = weigh-append f (waits_in x) (waits xs) in
          let five = rest.waits_are f in
          omega (arith, one, two, three, four, five);
      told_are = λ f. let one = rest.told_are f in omega (arith, one);
      stay = (ap (λ z. x.name ∷ z) rest.stay.0, ap (λ z. x.hub ∷ z) rest.stay.1);
    }

pub output_passes : (ss : List ShareState) (i : ℕ) (s t : ShareState) (from : List ℕ) (left : List Sending) → i < length ss → s ≡ get_or ss i s → from ≡ s.name → t ≡ with_output s [] → left ≡ s.output →
    IsPassing from left ss (set ss i t)
output_passes ss i s t from left lt is named rest taken =
    subst (λ z. IsPassing z left ss (set ss i t)) (sym named) (subst (λ z. IsPassing s.name z ss (set ss i t)) (sym taken) (output_taken ss i s t lt is rest))

-- one of these has come
pub passed_one : (from : List ℕ) (before : List Sending) (m : Sending) (left : List Sending) (ss ts us : List ShareState) → IsPassing from before ss ts → before ≡ m ∷ left →
    HaveCome (Handling (m.to, from) (tagged m.tag m.msg) ∷ []) nothing ts us → IsPassing from left ss us
passed_one from before m left ss ts us h front come = record {
  waits_are = λ f.
      let one = h.waits_are f in
      let six = ap (λ z. weigh f (map (to_pass from) z ++ waits ts)) front in
      let two = come.waits_are f in
      let three = weigh-append f (map (to_pass from) left) (waits us) in
      let four = weigh-append f (map (to_pass from) left) (waits ts) in
      omega (arith, one, two, three, four, six);
  told_are = λ f. let one = h.told_are f in let two = come.told_are f in omega (arith, one, two);
  stay = (come.stay.0 ∙ h.stay.0, come.stay.1 ∙ h.stay.1);
}

pub all_passed : (from : List ℕ) (left : List Sending) (ss ts : List ShareState) → IsPassing from left ss ts → left ≡ [] → HaveCome [] nothing ss ts
all_passed from left ss ts h none = record { waits_are = λ f. ap (λ z. weigh f (map (to_pass from) z ++ waits ts)) (sym none) ∙ h.waits_are f; told_are = λ f. let one = h.told_are f in omega (arith, one); stay = h.stay }

-- ---- where nothing waits

none_long : {X : Type 0} (xs : List X) → (length xs == 0) ≡ true → xs ≡ []
none_long [] h = refl
none_long (x ∷ xs) h = absurd (omega (arith, eqb-true (length (x ∷ xs)) 0 h))

-- at no share, as one more is looked at
pub idle_next : (ss : List ShareState) (k : ℕ) (s : ShareState) → k < length ss → s ≡ get_or ss k s → waits (take k ss) ≡ [] → (length s.input == 0 && length s.output == 0) ≡ true → waits (take (k + 1) ss) ≡ []
idle_next ss k s lt is none idle =
    let parts = and_parts (length s.input == 0) (length s.output == 0) idle in
    let here : waits_in s ≡ [] = λ i. map (to_handle s.name) (none_long s.input parts.0 i) ++ map (to_pass s.name) (none_long s.output parts.1 i) in
    let more : take (k + 1) ss ≡ take k ss ++ s ∷ [] = take_more ss k s lt ∙ ap (λ z. take k ss ++ z ∷ []) (sym is) in
    ap waits more ∙ waits_more (take k ss) s ∙ (λ i. none i ++ here i)
  where
    waits_more : (ts : List ShareState) (t : ShareState) → waits (ts ++ t ∷ []) ≡ waits ts ++ waits_in t
    waits_more [] t = append-nil (waits_in t)
    waits_more (u ∷ ts) t = ap (λ z. waits_in u ++ z) (waits_more ts t) ∙ sym (append_assoc (waits_in u) (waits ts) (waits_in t))

-- what each share keeps of what waits at it
pub may_next : (ss : List ShareState) (k : ℕ) (s : ShareState) → k < length ss → s ≡ get_or ss k s → AllByRecursion (λ s. MayBeHandled s.hub s.input) (take k ss) → MayBeHandled s.hub s.input →
    AllByRecursion (λ s. MayBeHandled s.hub s.input) (take (k + 1) ss)
may_next ss k s lt is all here =
    let more : take (k + 1) ss ≡ take k ss ++ s ∷ [] = take_more ss k s lt ∙ ap (λ z. take k ss ++ z ∷ []) (sym is) in
    subst (λ z. AllByRecursion (λ s. MayBeHandled s.hub s.input) z) (sym more) (All-append (λ s. MayBeHandled s.hub s.input) (take k ss) (s ∷ []) all (here, tt))
