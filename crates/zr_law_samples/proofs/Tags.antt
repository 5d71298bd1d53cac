-- A message's tag is the number of the line that it comes from, wherever it waits and where it was sent: a test that all
-- lines pass which give tags, all tags pass.
use Rattle.std.proofs.Common.{◌≡◌, ℕ, Bool, true, List, [], ◌∷◌, Option, Some, None, refl, ap}
use Rattle.std.specs.Prelude.{◌||◌, not, is_none, IfSome}
use Rattle.std.specs.List.{AllByRecursion, fold, list_all}
use Rattle.std.proofs.lemmas.Bool.{false≢true, and_parts, and_from, or_left, or_right}
use Rattle.zr_id.specs.declared.link.LinkNo.{LinkNo}
use Rattle.zr_msg.specs.declared.msg.Msg.{Msg}
use Rattle.zr_msg.specs.declared.event.Event.{Event}
use Rattle.zr_msg.specs.declared.event.Event.TheVariants.{Down, From}
use Rattle.zr_script_spec.specs.declared.command.Act.{Act}
use Rattle.zr_script_spec.specs.declared.command.Act.TheVariants as c
use Rattle.zr_node_spec.specs.State.{NodeState}
use Rattle.zr_lists.proofs.Each.{All-each}
use Rattle.zr_node_spec.specs.Table.{sends}
use Rattle.zr_world_spec.specs.Acts.{up_event}
use Rattle.zr_world_spec.specs.Moments.{Numbered, Moment, onward}
use Rattle.zr_guarantee.specs.Item.{Carried}
use Rattle.zr_guarantee.specs.Broker.{publishes}
use Rattle.zr_guarantee.specs.Phase.{stays, is_phase}
use Rattle.zr_guarantee.specs.Sent.{carried_by, items_of, item_of}
use Rattle.zr_law_declared.proofs.Folds.{after_all}
use Rattle.zr_law_samples.proofs.Carried.{all_pass, none_goes_on}
use Rattle.zr_law_samples.proofs.Numbers.{writes, Tagging, Publishing}
use Rattle.zr_law_samples.proofs.ToldMessages.{told_idle}
use Rattle.zr_law_samples.proofs.Watch.{Watched, AllPass, Allows, act_watched}

-- every tag of what waits and of what was sent passes the test
abbrev pub Tags : (ℕ → Bool) → Moment → Type 0
Tags t now = Watched (λ x. t x.tag) (λ i. t i.line) now

-- what is sent with one tag
one_tag : (t : ℕ → Bool) (tag : ℕ) → t tag ≡ true → (xs : List Msg) → list_all (λ x. t tag) xs ≡ true
one_tag t tag h [] = refl
one_tag t tag h (x ∷ xs) = and_from (t tag) (list_all (λ y. t tag) xs) h (one_tag t tag h xs)

any_event : (t : ℕ → Bool) (tag : ℕ) → t tag ≡ true → (node : NodeState) (event : Event) → AllPass (λ x. t x.tag) tag node event
any_event t tag h node event = ((λ to. one_tag t tag h (sends node event to)), λ msg told. h)

-- a message that carries nothing, or whose tag passes
pub carried_tag : (t : ℕ → Bool) (msg : Msg) (tag : ℕ) → (is_none (carried_by msg) || t tag) ≡ true → list_all (λ i. t i.line) (item_of msg tag) ≡ true
carried_tag t msg tag h = by (carried_by msg) h
  where
    by : (o : Option Carried) → (is_none o || t tag) ≡ true → list_all (λ i. t i.line) (items_of o tag) ≡ true
    by None k = refl
    by (Some x) k = and_from (t tag) true k refl

-- what a message carries has its tag
pub item_tag : (t : ℕ → Bool) (msg : Msg) (tag : ℕ) → t tag ≡ true → list_all (λ i. t i.line) (item_of msg tag) ≡ true
item_tag t msg tag h = carried_tag t msg tag (or_right (is_none (carried_by msg)) (t tag) h)

-- an act whose number passes
allowed : (t : ℕ → Bool) (n : ℕ) (act : Act) → (not (writes act) || t n) ≡ true → Allows (λ x. t x.tag) n act
allowed t n (c.Router id) k = tt
allowed t n (c.Client id router) k = λ r peer. any_event t n k r.node (up_event r peer)
allowed t n (c.Link one other weight) k = tt
allowed t n (c.Up router neighbour) k = λ r peer. any_event t n k r.node (up_event r peer)
allowed t n (c.Break router neighbour) k = tt
allowed t n (c.Down router neighbour) k = λ node link. any_event t n k node (Down link)
allowed t n (c.Sub client id key) k = k
allowed t n (c.Unsub client id) k = k
allowed t n (c.Token client id key) k = k
allowed t n (c.Untoken client id) k = k
allowed t n (c.Able client id key complete) k = k
allowed t n (c.Unable client id) k = k
allowed t n (c.Interest client id mode kinds key aggregate) k = k
allowed t n (c.Uninterest client id) k = k
allowed t n (c.Publish client content) k = k
allowed t n (c.Get client number target content) k = k
allowed t n (c.Reply client number content) k = k
allowed t n (c.End client number) k = k
allowed t n (c.Handle router from) k = tt
allowed t n (c.Take router to) k = tt
allowed t n c.Mark k = tt
allowed t n (c.Show router) k = tt

-- over any acts
pub tags_kept : (t : ℕ → Bool) (acts : List Numbered) (o : Option Moment) → IfSome o (Tags t) → Tagging t acts → IfSome (fold onward o acts) (Tags t)
tags_kept t acts o h k =
    after_all (λ done now. Tags t now) (λ x. (not (writes x.1) || t x.0) ≡ true)
    (λ done now tags x w. act_watched (λ y. t y.tag) (λ i. t i.line) (λ msg tag p. item_tag t msg tag p) (λ node link msg tag p. any_event t tag p node (From link msg)) now tags x.0 x.1
    (allowed t x.0 x.1 w)) acts [] o h (each acts k)
  where
    each : (xs : List Numbered) → Tagging t xs → AllByRecursion (λ x. (not (writes x.1) || t x.0) ≡ true) xs
    each [] h = tt
    each (x ∷ xs) h = let parts = and_parts (not (writes x.1) || t x.0) (list_all (λ y. not (writes y.1) || t y.0) xs) h in (parts.0, each xs parts.1)

-- ---- tags of what carries something

-- every tag of what waits and carries something, and of what was sent, passes the test
abbrev pub CarriedTags : (ℕ → Bool) → Moment → Type 0
CarriedTags t now = Watched (λ x. is_none (carried_by x.msg) || t x.tag) (λ i. t i.line) now

-- what a router sends of a message that carries nothing carries nothing, and the rest has the message's tag
goes_tagged : (t : ℕ → Bool) (node : NodeState) (link : LinkNo) (msg : Msg) (tag : ℕ) → (is_none (carried_by msg) || t tag) ≡ true →
    AllPass (λ x. is_none (carried_by x.msg) || t x.tag) tag node (From link msg)
goes_tagged t node link msg tag h = ((λ to. by to (carried_by msg) refl h), λ z told. or_left (is_none (carried_by z)) (t tag) (ap is_none (told_idle z told).1))
  where
    by : (to : LinkNo) (o : Option Carried) → carried_by msg ≡ o → (is_none o || t tag) ≡ true → list_all (λ z. is_none (carried_by z) || t tag) (sends node (From link msg) to) ≡ true
    by to None e k = all_pass (λ z. is_none (carried_by z) || t tag) (sends node (From link msg) to)
        (All-each (λ z. carried_by z ≡ None) (λ z. (is_none (carried_by z) || t tag) ≡ true) (sends node (From link msg) to) (λ z none. or_left (is_none (carried_by z)) (t tag) (ap is_none none)) (none_goes_on node link msg to e))
    by to (Some x) e k = each (sends node (From link msg) to)
      where
        each : (ms : List Msg) → list_all (λ z. is_none (carried_by z) || t tag) ms ≡ true
        each [] = refl
        each (z ∷ ms) = and_from (is_none (carried_by z) || t tag) (list_all (λ y. is_none (carried_by y) || t tag) ms) (or_right (is_none (carried_by z)) (t tag) k) (each ms)

carried_allowed : (t : ℕ → Bool) (n : ℕ) (act : Act) → stays act ≡ true → (not (publishes act) || t n) ≡ true → Allows (λ x. is_none (carried_by x.msg) || t x.tag) n act
carried_allowed t n (c.Router id) st k = absurd (false≢true st)
carried_allowed t n (c.Client id router) st k = absurd (false≢true st)
carried_allowed t n (c.Link one other weight) st k = tt
carried_allowed t n (c.Up router neighbour) st k = absurd (false≢true st)
carried_allowed t n (c.Break router neighbour) st k = tt
carried_allowed t n (c.Down router neighbour) st k = absurd (false≢true st)
carried_allowed t n (c.Sub client id key) st k = refl
carried_allowed t n (c.Unsub client id) st k = refl
carried_allowed t n (c.Token client id key) st k = refl
carried_allowed t n (c.Untoken client id) st k = refl
carried_allowed t n (c.Able client id key complete) st k = refl
carried_allowed t n (c.Unable client id) st k = refl
carried_allowed t n (c.Interest client id mode kinds key aggregate) st k = refl
carried_allowed t n (c.Uninterest client id) st k = refl
carried_allowed t n (c.Publish client content) st k = k
carried_allowed t n (c.Get client number target content) st k = k
carried_allowed t n (c.Reply client number content) st k = refl
carried_allowed t n (c.End client number) st k = refl
carried_allowed t n (c.Handle router from) st k = tt
carried_allowed t n (c.Take router to) st k = tt
carried_allowed t n c.Mark st k = tt
carried_allowed t n (c.Show router) st k = tt

-- over a phase
pub carried_tags_kept : (t : ℕ → Bool) (acts : List Numbered) (o : Option Moment) → IfSome o (CarriedTags t) → is_phase acts ≡ true → Publishing t acts → IfSome (fold onward o acts) (CarriedTags t)
carried_tags_kept t acts o h st k =
    after_all (λ done now. CarriedTags t now) (λ x. (stays x.1 ≡ true) × ((not (publishes x.1) || t x.0) ≡ true))
    (λ done now tags x w. act_watched (λ y. is_none (carried_by y.msg) || t y.tag) (λ i. t i.line) (λ msg tag p. carried_tag t msg tag p) (λ node link msg tag p. goes_tagged t node link msg tag p) now tags x.0 x.1
    (carried_allowed t x.0 x.1 w.0 w.1)) acts [] o h (each acts st k)
  where
    each : (xs : List Numbered) → is_phase xs ≡ true → Publishing t xs → AllByRecursion (λ x. (stays x.1 ≡ true) × ((not (publishes x.1) || t x.0) ≡ true)) xs
    each [] a b = tt
    each (x ∷ xs) a b =
        let st = and_parts (stays x.1) (is_phase xs) a in
        let parts = and_parts (not (publishes x.1) || t x.0) (list_all (λ y. not (publishes y.1) || t y.0) xs) b in
        ((st.0, parts.0), each xs st.1 parts.1)
