-- What stands at every moment (`stands_at`), and so all that the definitions say of answers (`answers_always_hold`).
use Rattle.std.proofs.Common.{◌≡◌, ℕ, Bool, true, cond, List, [], ◌∷◌, ◌++◌, Option, Some, None, refl, sym, ap, ◌∙◌, subst, append-nil, append_assoc}
use Rattle.std.specs.Prelude.{unwrap_or, IfSome}
use Rattle.std.specs.List.{AllByRecursion, fold}
use Rattle.std.proofs.lemmas.Bool.{false≢true}
use Rattle.std.proofs.lemmas.Option.{none-some}
use Rattle.std.proofs.lemmas.List.Sums.{length-filter, fold-append}
use Rattle.zr_script_spec.specs.declared.command.Act.{Act}
use Rattle.zr_script_spec.specs.declared.command.Act.TheVariants as c
use Rattle.zr_script_spec.specs.Mode.{is_current, is_future}
use Rattle.zr_script_spec.specs.declared.report.ReportLine.{ReportLine}
use Rattle.zr_msg.specs.declared.decl.Kind.{Kind}
use Rattle.zr_msg.specs.declared.decl.Kind.TheVariants as sort
use Rattle.zr_msg.specs.declared.msg.Msg.{Msg}
use Rattle.zr_msg.specs.declared.msg.Msg.TheVariants as msgs
use Rattle.zr_node_spec.specs.Table.{able_kind}
use Rattle.zr_world_spec.specs.Acts.{outcome, declare_step, undeclare_step, wanting, unwanting}
use Rattle.zr_world_spec.specs.Moments.{Numbered, Moment, beginning, went, onward, ascends, reached}
use Rattle.zr_world_spec.proofs.Lines.{at_some, prefix_ascends}
use Rattle.zr_world_spec.proofs.Cases.{for_declare, for_undeclare, for_interest, for_uninterest, for_publish}
use Rattle.zr_law_settled.proofs.Goes.{goes_first}
use Rattle.zr_law_queries.specs.Link.{Ask, Answer, Free, Asked as AskedHop, Open, asks_of, answers_of, answers_with, is_kept, asked_by, Shows}
use Rattle.zr_law_numbers.specs.Waiting.{Asked, Said, Place, asks_in, answers_in, back_at, is_kept_by, link_of, is_whole}
use Rattle.zr_law_numbers.specs.Numbers.{NumbersHold}
use Rattle.zr_law_numbers.proofs.Leading.{Wire}
use Rattle.zr_law_numbers.proofs.Numbers.{Hops, AllGo, all_go, numbers_first}
use Rattle.zr_law_numbers.proofs.ActClients.{for_itself}
use Rattle.zr_guarantee.specs.Queries.{queries, is_under}
use Rattle.zr_guarantee.specs.Sent.{told_to}
use Rattle.zr_law_replies.specs.Answers.{HopState, line_of, replies_of, IsAsked, IsSaidTo, IsAnswer, AnswersHold, AnswersAlwaysHold}
use Rattle.zr_law_replies.proofs.Turns.{turned_in_turn}
use Rattle.zr_law_replies.proofs.Grown.{Earlier, earlier, new_other}
use Rattle.zr_law_replies.proofs.QueryTags.{tags_hold}
use Rattle.zr_law_replies.proofs.Links.{Lines, IsOf, SaysTo, lines_on}
use Rattle.zr_law_replies.proofs.Lines.{AllShow}
use Rattle.zr_law_replies.proofs.EachSaid.{AllHaveQueries, queries_kept}
use Rattle.zr_law_replies.proofs.Standing.{NoBook, Stands, keeps_is, back_is}
use Rattle.zr_law_replies.proofs.RouterActs as routers
use Rattle.zr_law_replies.proofs.ClientActs as clients
use Rattle.zr_law_replies.proofs.QueryActs as asking
use Rattle.zr_law_replies.proofs.TakeActs as taking

-- ---- what holds at a moment

pub record Holds (acts : List Numbered) (m : Moment) : Type 0 where
  pub led : reached acts ≡ Some m
  pub later : ascends 0 acts ≡ true
  pub go : AllGo m
  pub lines : Lines
  pub stands : Stands acts m lines
  pub said : AllHaveQueries acts m.report

pub shows_of : (m : Moment) → AllGo m → AllShow m.world
shows_of m go = record { links = λ x y whole. (go.1.0 x y, go.1.1.links x y whole); tables = go.1.1.tables }

-- ---- each act keeps it

module _ (acts : List Numbered) (m : Moment) (h : Holds acts m) where
  abbrev Kept : Numbered → Moment → Type 0
  Kept x next = Holds (acts ++ x ∷ []) next

  declares : (n : ℕ) (act : Act) (before : Earlier acts (n, act)) → ((d : List ℕ) (k : ℕ) → NoBook ((n, act) ∷ []) d k) → (client : List ℕ) (kind : Kind) (id : ℕ) (key : List ℕ) (msg : Msg) →
      asks_in n msg ≡ [] → answers_in n msg ≡ [] →
      IfSome (went m (declare_step m.world n client kind id key msg)) (clients.IsKept acts m (n, act) before h.lines h.go.0 (shows_of m h.go) h.stands)
  declares n act before quiet client kind id key msg no_ask no_answer = for_declare m (clients.IsKept acts m (n, act) before h.lines h.go.0 (shows_of m h.go) h.stands) n client kind id key msg
      (λ s es new e ee unbroken r er room g' shows'. clients.declared acts m (n, act) before h.lines h.go.0 (shows_of m h.go) h.stands client s es e ee n msg quiet kind id key r er no_ask no_answer g' shows')

  undeclares : (n : ℕ) (act : Act) (before : Earlier acts (n, act)) → ((d : List ℕ) (k : ℕ) → NoBook ((n, act) ∷ []) d k) → (client : List ℕ) (kind : Kind) (id : ℕ) (msg : Msg) →
      asks_in n msg ≡ [] → answers_in n msg ≡ [] →
      IfSome (went m (undeclare_step m.world n client kind id msg)) (clients.IsKept acts m (n, act) before h.lines h.go.0 (shows_of m h.go) h.stands)
  undeclares n act before quiet client kind id msg no_ask no_answer = for_undeclare m (clients.IsKept acts m (n, act) before h.lines h.go.0 (shows_of m h.go) h.stands) n client kind id msg
      (λ s es known e ee unbroken g' shows'. clients.undeclared acts m (n, act) before h.lines h.go.0 (shows_of m h.go) h.stands client s es e ee n msg quiet kind id no_ask no_answer g' shows')

  pub kept : (n : ℕ) (act : Act) (before : Earlier acts (n, act)) → IfSome (went m (outcome m.world n act)) (routers.IsKept acts m (n, act) before h.lines h.go.0 (shows_of m h.go) h.stands)
  unfolding outcome
  kept n (c.Router id) before = routers.router_kept acts m (n, c.Router id) before h.lines h.go.0 (shows_of m h.go) h.stands (λ d k. record { ended = refl; asked = refl }) id
  kept n (c.Client id router) before =
      clients.client_kept acts m (n, c.Client id router) before h.lines h.go.0 (shows_of m h.go) h.stands h.go.1.1.tables (λ d k. record { ended = refl; asked = refl }) n id router
  kept n (c.Link one other weight) before = routers.link_kept acts m (n, c.Link one other weight) before h.lines h.go.0 (shows_of m h.go) h.stands (λ d k. record { ended = refl; asked = refl }) one other weight
  kept n (c.Up router name) before =
      routers.up_kept acts m (n, c.Up router name) before h.lines h.go.0 (shows_of m h.go) h.stands h.go.1.1.tables (λ d k. record { ended = refl; asked = refl }) n router name
  kept n (c.Break router name) before = routers.break_kept acts m (n, c.Break router name) before h.lines h.go.0 (shows_of m h.go) h.stands (λ d k. record { ended = refl; asked = refl }) router name
  kept n (c.Down router name) before =
      routers.down_kept acts m (n, c.Down router name) before h.lines h.go.0 (shows_of m h.go) h.stands h.go.1.1.tables (λ d k. record { ended = refl; asked = refl }) n
      (new_other acts (n, c.Down router name) before refl (λ s e. absurd (none-some s e))) router name
  kept n (c.Sub client id key) before = declares n (c.Sub client id key) before (λ d k. record { ended = refl; asked = refl }) client sort.Sub id key (msgs.Sub id key) refl refl
  kept n (c.Unsub client id) before = undeclares n (c.Unsub client id) before (λ d k. record { ended = refl; asked = refl }) client sort.Sub id (msgs.Unsub id) refl refl
  kept n (c.Token client id key) before = declares n (c.Token client id key) before (λ d k. record { ended = refl; asked = refl }) client sort.Token id key (msgs.Token id key) refl refl
  kept n (c.Untoken client id) before = undeclares n (c.Untoken client id) before (λ d k. record { ended = refl; asked = refl }) client sort.Token id (msgs.Untoken id) refl refl
  kept n (c.Able client id key complete) before =
      declares n (c.Able client id key complete) before (λ d k. record { ended = refl; asked = refl }) client (able_kind complete) id key (msgs.Able id key complete) refl refl
  kept n (c.Unable client id) before = undeclares n (c.Unable client id) before (λ d k. record { ended = refl; asked = refl }) client sort.Able id (msgs.Unable id) refl refl
  kept n (c.Interest client id mode kinds key aggregate) before =
      let act : Act = c.Interest client id mode kinds key aggregate in
      let msg : Msg = msgs.Interest id (is_current mode) (is_future mode) kinds key aggregate in
      for_interest m (clients.IsKept acts m (n, act) before h.lines h.go.0 (shows_of m h.go) h.stands) n client id mode kinds key aggregate
      (λ s es fresh e ee unbroken once g' shows'. clients.published acts m (n, act) before h.lines h.go.0 (shows_of m h.go) h.stands client s es e ee n msg
      (λ d k. record { ended = refl; asked = refl }) refl refl g' shows')
      (λ s es fresh e ee unbroken lasts r er room g' shows'. clients.weighed acts m (n, act) before h.lines h.go.0 (shows_of m h.go) h.stands client s es e ee n msg
      (λ d k. record { ended = refl; asked = refl }) (wanting s id) (refl, refl, refl) (unwrap_or key []) r er refl refl g' shows')
  kept n (c.Uninterest client id) before =
      for_uninterest m (clients.IsKept acts m (n, c.Uninterest client id) before h.lines h.go.0 (shows_of m h.go) h.stands) n client id
      (λ s es known e ee unbroken g' shows'. clients.ended acts m (n, c.Uninterest client id) before h.lines h.go.0 (shows_of m h.go) h.stands client s es e ee n (msgs.EndInterest id)
      (λ d k. record { ended = refl; asked = refl }) (unwanting s id) (refl, refl, refl) refl refl g' shows')
  kept n (c.Publish client content) before =
      for_publish m (clients.IsKept acts m (n, c.Publish client content) before h.lines h.go.0 (shows_of m h.go) h.stands) n client content
      (λ s es e ee unbroken g' shows'. clients.published acts m (n, c.Publish client content) before h.lines h.go.0 (shows_of m h.go) h.stands client s es e ee n (msgs.Push None content)
      (λ d k. record { ended = refl; asked = refl }) refl refl g' shows')
  kept n (c.Get client number target content) before = asking.get_kept acts m h.lines h.go.0 (shows_of m h.go) h.stands n client number target content before
  kept n (c.Reply client number content) before = asking.reply_kept acts m h.lines h.go.0 (shows_of m h.go) h.stands n client number content before
  kept n (c.End client number) before = asking.end_kept acts m h.lines h.go.0 (shows_of m h.go) h.stands n client number before
  kept n (c.Handle router from) before =
      routers.handle_kept acts m (n, c.Handle router from) before h.lines h.go.0 (shows_of m h.go) h.stands h.go.1.1.tables (λ d k. record { ended = refl; asked = refl })
      (tags_hold acts m h.later h.led) router from
  kept n (c.Take router to) before = taking.take_kept acts m (n, c.Take router to) before h.lines h.go.0 (shows_of m h.go) h.stands (λ d k. record { ended = refl; asked = refl }) router to
  kept n c.Mark before = routers.mark_kept acts m (n, c.Mark) before h.lines h.go.0 (shows_of m h.go) h.stands (λ d k. record { ended = refl; asked = refl }) n
  kept n (c.Show router) before = routers.show_kept acts m (n, c.Show router) before h.lines h.go.0 (shows_of m h.go) h.stands (λ d k. record { ended = refl; asked = refl }) router

  -- each saying is to a query still
  pub said_on : (x : Numbered) → Earlier acts x → IfSome (went m (outcome m.world x.0 x.1)) (λ next. AllHaveQueries (acts ++ x ∷ []) next.report)
  said_on x before = queries_kept acts m h.lines h.stands h.said x.0 x.1 before

  -- the acts lead on
  pub leads_on : (x : Numbered) → reached (acts ++ x ∷ []) ≡ onward (Some m) x
  leads_on x = fold-append onward (Some beginning) acts (x ∷ []) ∙ ap (λ o. onward o x) h.led

  holds_on : (x : Numbered) → Earlier acts x → ascends 0 (acts ++ x ∷ []) ≡ true → IfSome (onward (Some m) x) (Kept x)
  holds_on x before up = by (went m (outcome m.world x.0 x.1)) refl (all_go m x.0 x.1 h.go) (kept x.0 x.1 before) (said_on x before)
    where
      by : (o : Option Moment) → went m (outcome m.world x.0 x.1) ≡ o → IfSome o AllGo → IfSome o (routers.IsKept acts m x before h.lines h.go.0 (shows_of m h.go) h.stands) →
          IfSome o (λ next. AllHaveQueries (acts ++ x ∷ []) next.report) → IfSome o (Kept x)
      by None e go k said = tt
      by (Some next) e go k said = record { led = leads_on x ∙ e; later = up; go = go; lines = lines_on next.world h.lines; stands = k go.0 (shows_of next go); said = said }

-- ---- all moments

holds_first : Holds [] beginning
holds_first = record {
  led = refl;
  later = refl;
  go = (goes_first, numbers_first);
  lines = λ x y k. 0;
  stands = record {
    held = record { is = λ x y k whole. absurd (false≢true whole); back = λ x y k p whole e above. absurd (false≢true whole) };
    books = λ d s n found. absurd (none-some s found);
    others = λ d n none. record { ended = refl; asked = refl };
    untold = λ d free. refl;
    gathers = λ x y n hs whole e. absurd (none-some hs e);
  };
  said = tt;
}

holds_all : (done rest : List Numbered) (o : Option Moment) → ascends 0 (done ++ rest) ≡ true → IfSome o (Holds done) → IfSome (fold onward o rest) (Holds (done ++ rest))
holds_all done [] o later h = subst (λ acts. IfSome o (Holds acts)) (sym (append-nil done)) h
holds_all done (x ∷ rest) o later h =
    let one : (done ++ x ∷ []) ++ rest ≡ done ++ x ∷ rest = append_assoc done (x ∷ []) rest in
    subst (λ acts. IfSome (fold onward (onward o x) rest) (Holds acts)) one
    (holds_all (done ++ x ∷ []) rest (onward o x) (ap (ascends 0) one ∙ later) (by o h))
  where
    by : (o : Option Moment) → IfSome o (Holds done) → IfSome (onward o x) (Holds (done ++ x ∷ []))
    by None k = tt
    by (Some m) k = holds_on done m k x (earlier 0 done x rest later).0 (prefix_ascends 0 (done ++ x ∷ []) rest (ap (ascends 0) (append_assoc done (x ∷ []) rest) ∙ later))

pub stands_at : (acts : List Numbered) (m : Moment) → ascends 0 acts ≡ true → reached acts ≡ Some m → Holds acts m
stands_at acts m later is = at_some (Holds acts) (reached acts) m is (holds_all [] acts (Some beginning) later holds_first)

-- ---- hops with their lines

abbrev with_line : Asked → ℕ → Asked
with_line q line = record { line = line; tree = q.tree; target = q.target; content = q.content }

abbrev labelled : ℕ → HopState → HopState
labelled line Free = Free
labelled line (AskedHop q by) = AskedHop q by
labelled line (Open q by rs done) = Open (with_line q line) by rs done

labelled_shows : (l : Wire) (hops : ℕ → HopState) (lines : ℕ → ℕ) → Shows l hops → Shows l (λ n. labelled (lines n) (hops n))
labelled_shows l hops lines shows n = record {
  asks = (shows n).asks ∙ asks (hops n);
  answers = (shows n).answers ∙ answers (hops n);
  keeps = (shows n).keeps ∙ keeps (hops n);
  back = (shows n).back ∙ back (hops n);
}
  where
    asks : (h : HopState) → asks_of n h ≡ asks_of n (labelled (lines n) h)
    asks Free = refl
    asks (AskedHop q by) = refl
    asks (Open q by rs done) = refl

    answers : (h : HopState) → answers_of n h ≡ answers_of n (labelled (lines n) h)
    answers Free = refl
    answers (AskedHop q by) = refl
    answers (Open q by rs done) = refl

    keeps : (h : HopState) → is_kept h ≡ is_kept (labelled (lines n) h)
    keeps Free = refl
    keeps (AskedHop q by) = refl
    keeps (Open q by rs done) = refl

    back : (h : HopState) → asked_by h ≡ asked_by (labelled (lines n) h)
    back Free = refl
    back (AskedHop q by) = refl
    back (Open q by rs done) = refl

module _ (acts : List Numbered) (report : List ReportLine) (x : List ℕ) (l : Wire) (hops : ℕ → HopState) (shows : Shows l hops) (k line : ℕ) (is : IsOf acts report x l k line) where
  -- the line of a hop that is pending
  line_is : (by : Option Place) → l.back k ≡ Some by → line_of (labelled line (hops k)) ≡ Some line
  line_is by pending = at (hops k) refl
    where
      at : (h : HopState) → hops k ≡ h → line_of (labelled line h) ≡ Some line
      at Free e = absurd (none-some by (sym (ap asked_by e) ∙ sym (shows k).back ∙ pending))
      at (AskedHop q b) e = ap (λ z. Some z) (subst (λ zs. AllByRecursion (λ (a : Ask Asked). a.request.line ≡ line) zs) ((shows k).asks ∙ ap (asks_of k) e) is.asks).0
      at (Open q b rs done) e = refl

  line_asked : IfSome (line_of (labelled line (hops k))) (IsAsked acts)
  line_asked = at (hops k) refl
    where
      pending : (h : HopState) (b : Option Place) → hops k ≡ h → asked_by h ≡ Some b → IfSome (line_of (labelled line (hops k))) (IsAsked acts)
      pending h b e f =
          let back : l.back k ≡ Some b = (shows k).back ∙ ap asked_by e ∙ f in
          subst (λ o. IfSome o (IsAsked acts)) (sym (line_is b back)) (is.asked b back)

      at : (h : HopState) → hops k ≡ h → IfSome (line_of (labelled line (hops k))) (IsAsked acts)
      at Free e = subst (λ h. IfSome (line_of (labelled line h)) (IsAsked acts)) (sym e) tt
      at (AskedHop q b) e = pending (AskedHop q b) b e refl
      at (Open q b rs done) e = pending (Open q b rs done) b e refl

  line_said : (line' : ℕ) → line_of (labelled line (hops k)) ≡ Some line' → AllByRecursion (IsSaidTo acts report x line') (replies_of (labelled line (hops k)))
  line_said line' e = at (hops k) refl e
    where
      each : (rs : List Said) (done : Bool) → AllByRecursion (λ (a : Answer Said). SaysTo acts report x line a.body) (answers_with k rs done) → AllByRecursion (IsSaidTo acts report x line) rs
      each [] done h = tt
      each (r ∷ rs) done h = (h.0, each rs done h.1)

      at : (h : HopState) → hops k ≡ h → line_of (labelled line h) ≡ Some line' → AllByRecursion (IsSaidTo acts report x line') (replies_of (labelled line (hops k)))
      at Free f i = absurd (none-some line' i)
      at (AskedHop q b) f i = subst (λ h. AllByRecursion (IsSaidTo acts report x line') (replies_of (labelled line h))) (sym f) tt
      at (Open q b rs done) f i =
          let one : line ≡ line' = cc in
          subst (λ h. AllByRecursion (IsSaidTo acts report x line') (replies_of (labelled line h))) (sym f)
          (subst (λ j. AllByRecursion (IsSaidTo acts report x j) rs) one
          (each rs done (subst (λ zs. AllByRecursion (λ (a : Answer Said). SaysTo acts report x line a.body) zs) ((shows k).answers ∙ ap (answers_of k) f) is.said)))

module _ (acts : List Numbered) (m : Moment) (h : Holds acts m) where
  abbrev hops : Hops
  hops = h.go.1.0

  numbers : NumbersHold hops m.world
  numbers = h.go.1.1

  abbrev pub hop : List ℕ → List ℕ → ℕ → HopState
  hop x y n = labelled (h.lines x y n) (hops x y n)

  pub pending_line : (x y : List ℕ) (n : ℕ) → is_whole m.world x y ≡ true → (by : Option Place) → back_at m.world x y n ≡ Some by → line_of (hop x y n) ≡ Some (h.lines x y n)
  pending_line x y n whole by pending = line_is acts m.report x (link_of m.world x y) (hops x y) (numbers.links x y whole) n (h.lines x y n) (h.stands.held.is x y n whole) by pending

  kept_back : (x y : List ℕ) (n : ℕ) → is_whole m.world x y ≡ true → is_kept_by m.world x y n ≡ true → (by : Option Place) × (back_at m.world x y n ≡ Some by)
  kept_back x y n whole kept = at (hops x y n) refl
    where
      at : (z : HopState) → hops x y n ≡ z → (by : Option Place) × (back_at m.world x y n ≡ Some by)
      at Free f = absurd (false≢true (sym (ap is_kept f) ∙ sym (numbers.links x y whole n).keeps ∙ kept))
      at (AskedHop q b) f = absurd (false≢true (sym (ap is_kept f) ∙ sym (numbers.links x y whole n).keeps ∙ kept))
      at (Open q b rs d) f = (b, (numbers.links x y whole n).back ∙ ap asked_by f)

  pub answers_hold : AnswersHold acts m hop
  answers_hold = record {
    numbers = record {
      links = λ x y whole. labelled_shows (link_of m.world x y) (hops x y) (h.lines x y) (numbers.links x y whole);
      tables = numbers.tables;
      queries = numbers.queries;
      requests = numbers.requests;
    };
    asked = λ x y n whole. line_asked acts m.report x (link_of m.world x y) (hops x y) (numbers.links x y whole) n (h.lines x y n) (h.stands.held.is x y n whole);
    said = λ x y n line whole e. line_said acts m.report x (link_of m.world x y) (hops x y) (numbers.links x y whole) n (h.lines x y n) (h.stands.held.is x y n whole) line e;
    sent = λ d s n found. (h.stands.books d s n found).kept.count;
    kept = λ d s n found whole keeps.
        let back = kept_back s.router d n whole (keeps_is m.world h.go.0.orderly d s found n ∙ keeps) in
        (h.stands.books d s n found).kept.last whole keeps ∙ sym (pending_line s.router d n whole back.0 back.1);
    finals = λ d s n found. (h.stands.books d s n found).open_.count ∙ length-filter (λ q. is_under d n q) (queries acts);
    asks = λ d s n found whole waits.
        (h.stands.books d s n found).open_.last whole waits
        ∙ sym (pending_line d s.router n whole (Some (record { name = d; number = n })) (back_is m.world h.go.0.orderly d s found n ∙ ap (λ b. cond b (for_itself d n) None) waits));
    told = λ d s n turns found. turned_in_turn (λ t r. IsAnswer acts m.report d n t r) n turns (told_to m.report d) (h.stands.books d s n found).told;
  }

pub answers_always_hold : AnswersAlwaysHold
answers_always_hold acts m later is = let h = stands_at acts m later is in (hop acts m h, answers_hold acts m h)
