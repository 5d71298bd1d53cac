-- Who is asked: only they say anything to a query (`unasked_say_nothing`), and each of them is a client that came before the mark (`attached_came`).
use Rattle.std.proofs.Common.{◌≡◌, ℕ, ◌==◌, ◌&&◌, ◌||◌, ◌⊎◌, inl, inr, Bool, true, false, cond, List, [], ◌∷◌, ◌++◌, filter, Option, Some, None, is_some, refl, sym, ap, ◌∙◌, subst}
use Rattle.std.specs.Prelude.{not}
use Rattle.std.specs.List.{cons_option, fold, list_any}
use Rattle.std.specs.Option.{option_map_or}
use Rattle.std.proofs.lemmas.Bool.{false≢true, and_parts, and_from, or_cases, or_left, eqb-true, eq-eqb}
use Rattle.std.proofs.lemmas.List.Folds.{list_any-append}
use Rattle.std.proofs.lemmas.Option.{none-some}
use Rattle.zr_lists.proofs.Finds.{In, in_any, in_filter, filter_in, in_map}
use Rattle.zr_lists.proofs.Elements.{each_in, in_front, in_flat, flat_in}
use Rattle.zr_id.specs.Zid.{is_named}
use Rattle.zr_graph.proofs.Names.{same_is, same_refl}
use Rattle.zr_msg.specs.declared.content.Parts.{Parts}
use Rattle.zr_msg.specs.declared.msg.Msg.{Msg}
use Rattle.zr_msg.specs.declared.msg.Msg.TheVariants.{Sub, Unsub, Token, Untoken, Able, Unable, Interest, EndInterest, ToldSub, ToldAble, ToldUnsub, ToldToken, ToldUntoken, ToldUnable, ToldEnd, Push, Request, Response, Final, State, Step, Snap}
use Rattle.zr_script_spec.specs.declared.command.Act.{Act}
use Rattle.zr_script_spec.specs.declared.command.Act.TheVariants as c
use Rattle.zr_script_spec.specs.declared.report.ReportLine.{ReportLine}
use Rattle.zr_world_spec.specs.World.{router_of, client_of}
use Rattle.zr_world_spec.specs.Moments.{Numbered, Moment, ascends, reached}
use Rattle.zr_world_spec.proofs.Lines.{at_some}
use Rattle.zr_law_settled.proofs.Orderly.{Orderly}
use Rattle.zr_guarantee.specs.Names.{client_in, clients, brings_router, is_router}
use Rattle.zr_guarantee.specs.Item.{Item, Query}
use Rattle.zr_guarantee.specs.Broker.{attached_by, is_attached, Publication, publication, is_publisher, is_line_of, is_for, item_for, from}
use Rattle.zr_guarantee.specs.Queries.{Asked, asked_in, queries, asks, Saying, sayings, query_of, is_said_to, reply_of, replies}
use Rattle.zr_guarantee.specs.Refines.{Delivers}
use Rattle.zr_guarantee.specs.Sent.{Told, told_to, item_of, sent_to, is_request, requests_to}
use Rattle.zr_law_replies.proofs.Lists.{get_in, from_map, none_mapped}
use Rattle.zr_law_replies.proofs.Grown.{asked_of, asks_no_step}
use Rattle.zr_law_replies.proofs.OneLine.{one_act, publishes_no_step}
use Rattle.zr_law_replies.proofs.Present.{Present, present, sayers_are_clients}

-- ---- what acts ask

-- who asks publishes the query
pub asks_publishes : (line : ℕ) (act : Act) (q : Asked) → asked_in line act ≡ Some q → publication act ≡ Some (record { client = q.client; carried = Query q.target q.content })
asks_publishes line (c.Get client number target content) q e =
    let one : record { line = line; client = client; number = number; target = target; content = content } ≡ q = cc in
    ap (λ (z : Asked). Some (record { client = z.client; carried = Query z.target z.content })) one
asks_publishes line (c.Router id) q e = absurd (none-some q e)
asks_publishes line (c.Client id router) q e = absurd (none-some q e)
asks_publishes line (c.Link one other weight) q e = absurd (none-some q e)
asks_publishes line (c.Up router neighbour) q e = absurd (none-some q e)
asks_publishes line (c.Break router neighbour) q e = absurd (none-some q e)
asks_publishes line (c.Down router neighbour) q e = absurd (none-some q e)
asks_publishes line (c.Sub client id key) q e = absurd (none-some q e)
asks_publishes line (c.Unsub client id) q e = absurd (none-some q e)
asks_publishes line (c.Token client id key) q e = absurd (none-some q e)
asks_publishes line (c.Untoken client id) q e = absurd (none-some q e)
asks_publishes line (c.Able client id key complete) q e = absurd (none-some q e)
asks_publishes line (c.Unable client id) q e = absurd (none-some q e)
asks_publishes line (c.Interest client id mode kinds key aggregate) q e = absurd (none-some q e)
asks_publishes line (c.Uninterest client id) q e = absurd (none-some q e)
asks_publishes line (c.Publish client content) q e = absurd (none-some q e)
asks_publishes line (c.Reply client number content) q e = absurd (none-some q e)
asks_publishes line (c.End client number) q e = absurd (none-some q e)
asks_publishes line (c.Handle router from) q e = absurd (none-some q e)
asks_publishes line (c.Take router to) q e = absurd (none-some q e)
asks_publishes line c.Mark q e = absurd (none-some q e)
asks_publishes line (c.Show router) q e = absurd (none-some q e)

-- a request that was sent is an item that was sent
request_item : (n tag : ℕ) (msg : Msg) → is_request n msg ≡ true → (i : Item) × In i (item_of msg tag) × (i.line ≡ tag)
request_item n tag (Request tree id target content) e = (record { line = tag; carried = Query target content }, inl refl, refl)
request_item n tag (Sub id key) e = absurd (false≢true e)
request_item n tag (Unsub id) e = absurd (false≢true e)
request_item n tag (Token id key) e = absurd (false≢true e)
request_item n tag (Untoken id) e = absurd (false≢true e)
request_item n tag (Able id key complete) e = absurd (false≢true e)
request_item n tag (Unable id) e = absurd (false≢true e)
request_item n tag (Interest id current future kinds key aggregate) e = absurd (false≢true e)
request_item n tag (EndInterest id) e = absurd (false≢true e)
request_item n tag (ToldSub id key interest) e = absurd (false≢true e)
request_item n tag (ToldToken id key interest) e = absurd (false≢true e)
request_item n tag (ToldAble id key complete interest) e = absurd (false≢true e)
request_item n tag (ToldUnsub id) e = absurd (false≢true e)
request_item n tag (ToldUntoken id) e = absurd (false≢true e)
request_item n tag (ToldUnable id) e = absurd (false≢true e)
request_item n tag (ToldEnd interest) e = absurd (false≢true e)
request_item n tag (Push tree content) e = absurd (false≢true e)
request_item n tag (Response id content) e = absurd (false≢true e)
request_item n tag (Final id extras) e = absurd (false≢true e)
request_item n tag (State links) e = absurd (false≢true e)
request_item n tag (Step source number added decl) e = absurd (false≢true e)
request_item n tag (Snap source number decls) e = absurd (false≢true e)

-- the line of a request that a client was sent is that of an item that it was sent
pub request_sent : (report : List ReportLine) (d : List ℕ) (n line : ℕ) → In line (requests_to report d n) → (i : Item) × In i (sent_to report d) × (i.line ≡ line)
request_sent report d n line k =
    let t = in_map (λ (x : Told). x.tag) (filter (λ (x : Told). is_request n x.msg) (told_to report d)) line k in
    let f = in_filter (λ (x : Told). is_request n x.msg) (told_to report d) t.0 t.1 in
    let i = request_item n t.0.tag t.0.msg f.1 in
    (i.0, flat_in (λ (x : Told). item_of x.msg x.tag) (told_to report d) t.0 i.0 f.0 i.1, i.2 ∙ t.2)

-- ---- who is attached

-- a client that is attached has come by an act
pub attached_came : (name : List ℕ) (acts : List Numbered) → is_attached acts name ≡ true → list_any (λ x. is_named name x) (clients acts) ≡ true
attached_came name acts h = by (any acts false h)
  where
    by : (false ≡ true) ⊎ (list_any (λ x. is_named name x) (clients acts) ≡ true) → list_any (λ x. is_named name x) (clients acts) ≡ true
    by (inl e) = absurd (false≢true e)
    by (inr e) = e

    more : (b : Bool) (act : Act) → attached_by name b act ≡ true → (b ≡ true) ⊎ (option_map_or (λ x. is_named name x) (client_in act) false ≡ true)
    more b (c.Router id) e = inl e
    more b (c.Client id router) e = or_cases b (is_named name id) e
    more b (c.Link one other weight) e = inl e
    more b (c.Up router neighbour) e = inl e
    more b (c.Break router neighbour) e = inl (and_parts b (not (is_named name neighbour)) e).0
    more b (c.Down router neighbour) e = inl e
    more b (c.Sub client id key) e = inl e
    more b (c.Unsub client id) e = inl e
    more b (c.Token client id key) e = inl e
    more b (c.Untoken client id) e = inl e
    more b (c.Able client id key complete) e = inl e
    more b (c.Unable client id) e = inl e
    more b (c.Interest client id mode kinds key aggregate) e = inl e
    more b (c.Uninterest client id) e = inl e
    more b (c.Publish client content) e = inl e
    more b (c.Get client number target content) e = inl e
    more b (c.Reply client number content) e = inl e
    more b (c.End client number) e = inl e
    more b (c.Handle router from) e = inl e
    more b (c.Take router to) e = inl e
    more b c.Mark e = inl e
    more b (c.Show router) e = inl e

    any : (xs : List Numbered) (b : Bool) → fold (λ so_far x. attached_by name so_far x.1) b xs ≡ true → (b ≡ true) ⊎ (list_any (λ x. is_named name x) (clients xs) ≡ true)
    any [] b e = inl e
    any (x ∷ xs) b e = at (any xs (attached_by name b x.1) e)
      where
        first : (o : Option (List ℕ)) → option_map_or (λ z. is_named name z) o false ≡ true → list_any (λ z. is_named name z) (cons_option o (clients xs)) ≡ true
        first None k = absurd (false≢true k)
        first (Some z) k = or_left (is_named name z) (list_any (λ v. is_named name v) (clients xs)) k

        rest : (o : Option (List ℕ)) → list_any (λ z. is_named name z) (clients xs) ≡ true → list_any (λ z. is_named name z) (cons_option o (clients xs)) ≡ true
        rest None k = k
        rest (Some z) k = at (is_named name z)
          where
            at : (t : Bool) → (t || list_any (λ v. is_named name v) (clients xs)) ≡ true
            at true = refl
            at false = k

        at : (attached_by name b x.1 ≡ true) ⊎ (list_any (λ z. is_named name z) (clients xs) ≡ true) → (b ≡ true) ⊎ (list_any (λ z. is_named name z) (clients (x ∷ xs)) ≡ true)
        at (inl k) = then (more b x.1 k)
          where
            then : (b ≡ true) ⊎ (option_map_or (λ z. is_named name z) (client_in x.1) false ≡ true) → (b ≡ true) ⊎ (list_any (λ z. is_named name z) (clients (x ∷ xs)) ≡ true)
            then (inl j) = inl j
            then (inr j) = inr (first (client_in x.1) j)
        at (inr k) = inr (rest (client_in x.1) k)

-- ---- who is not asked

module _ (before : List Numbered) (mark : ℕ) (phase : List Numbered) (m : Moment) (later : ascends mark phase ≡ true) (is : reached (before ++ (mark, c.Mark) ∷ phase) ≡ Some m) (orderly : Orderly m.world)
    (delivers : Delivers before mark phase m) (q : Asked) (in_phase : In q (queries phase)) where
  abbrev acts : List Numbered
  acts = before ++ (mark, c.Mark) ∷ phase

  -- the line that asks it
  asking : (x : Numbered) × In x phase × (asked_in x.0 x.1 ≡ Some q)
  asking = from_map (λ (x : Numbered). asked_in x.0 x.1) phase q in_phase

  its_line : asking.0.0 ≡ q.line
  its_line = sym (asked_of asking.0.0 asking.0.1 q asking.2)

  is_its_line : is_line_of phase q.client q.line ≡ true
  is_its_line = in_any (λ (x : Numbered). x.0 == q.line && is_publisher q.client x.1) phase asking.0 asking.1
      (and_from (asking.0.0 == q.line) (is_publisher q.client asking.0.1) (eq-eqb asking.0.0 q.line its_line)
      (ap (λ o. option_map_or (λ (p : Publication). is_named q.client p.client) o false) (asks_publishes asking.0.0 asking.0.1 q asking.2) ∙ same_refl q.client))

  -- the line asks nobody else
  item_asks : (d : List ℕ) (i : Item) → In i (from before phase q.client d) → i.line ≡ q.line → asks before q d ≡ true
  item_asks d i k line =
      let x = in_flat (λ (x : Numbered). item_for before q.client d x.0 (publication x.1)) phase i k in
      by x.0 x.1 (publication x.0.1) refl x.2
    where
      by : (x : Numbered) → In x phase → (o : Option Publication) → publication x.1 ≡ o → In i (item_for before q.client d x.0 o) → asks before q d ≡ true
      by x there None e j = absurd j
      by x there (Some p) e j = at (is_named q.client p.client && is_for before q.client d p.carried) refl j
        where
          at : (b : Bool) → (is_named q.client p.client && is_for before q.client d p.carried) ≡ b → In i (cond b (record { line = x.0; carried = p.carried } ∷ []) []) → asks before q d ≡ true
          at false f j = absurd j
          at true f (inr j) = absurd j
          at true f (inl j) =
              let same : x ≡ asking.0 = one_act mark phase later x asking.0 there asking.1 (publishes_no_step x.1 p e) (asks_no_step asking.0.0 asking.0.1 q asking.2)
              (ap (λ (z : Item). z.line) (sym j) ∙ line ∙ sym its_line) in
              let both : Some p ≡ Some (record { client = q.client; carried = Query q.target q.content }) = sym e ∙ ap (λ (z : Numbered). publication z.1) same ∙ asks_publishes asking.0.0 asking.0.1 q asking.2 in
              let one : p ≡ record { client = q.client; carried = Query q.target q.content } = cc in
              ap (λ (z : Publication). is_for before q.client d z.carried) (sym one) ∙ (and_parts (is_named q.client p.client) (is_for before q.client d p.carried) f).1

  -- who was sent its request is asked
  sent_asks : (d : List ℕ) → is_router before d ≡ false → (n : ℕ) → In q.line (requests_to m.report d n) → asks before q d ≡ true
  sent_asks d other n k =
      let i = request_sent m.report d n q.line k in
      let there : In i.0 (filter (λ (z : Item). is_line_of phase q.client z.line) (sent_to m.report d)) =
      filter_in (λ (z : Item). is_line_of phase q.client z.line) (sent_to m.report d) i.0 i.1 (ap (is_line_of phase q.client) i.2 ∙ is_its_line) in
      let prefix = delivers.prefix q.client d other in
      item_asks d i.0 (subst (λ zs. In i.0 zs) (sym prefix.1) (in_front (filter (λ (z : Item). is_line_of phase q.client z.line) (sent_to m.report d)) prefix.0 i.0 there)) i.2

  -- no router says anything
  router_says_nothing : (d : List ℕ) → is_router before d ≡ true → (s : Saying) → In s (sayings acts) → is_named d s.client ≡ false
  router_says_nothing d router s i = by (is_named d s.client) refl
    where
      by : (b : Bool) → is_named d s.client ≡ b → b ≡ false
      by false e = refl
      by true e =
          let client : is_some (client_of m.world.clients d) ≡ true =
          ap (λ z. is_some (client_of m.world.clients z)) (same_is d s.client e) ∙ each_in (λ (z : Saying). is_some (client_of m.world.clients z.client) ≡ true) (sayings acts) s (sayers_are_clients acts m is) i in
          let there : is_some (router_of m.world.routers d) ≡ true = at_some (Present acts) (reached acts) m is (present acts) d
          (list_any-append (λ (x : Numbered). brings_router d x.1) before ((mark, c.Mark) ∷ phase) ∙ or_left (is_router before d) (is_router ((mark, c.Mark) ∷ phase) d) router) in
          absurd (false≢true (sym (orderly.apart d client) ∙ there))

  pub unasked_say_nothing : (d : List ℕ) → asks before q d ≡ false → replies acts m.report q d ≡ []
  unasked_say_nothing d unasked = none_mapped (λ (s : Saying). reply_of acts m.report q d s s.reply) (sayings acts) (λ s i. one s i s.reply)
    where
      nothing : (s : Saying) → In s (sayings acts) → (is_named d s.client && is_said_to acts m.report q.line s) ≡ false
      nothing s i = by (is_named d s.client) refl (query_of acts m.report s) refl
        where
          by : (b : Bool) → is_named d s.client ≡ b → (o : Option ℕ) → query_of acts m.report s ≡ o → (b && option_map_or (λ l. l == q.line) o false) ≡ false
          by false e o f = refl
          by true e None f = refl
          by true e (Some l) f = at (l == q.line) refl
            where
              at : (t : Bool) → (l == q.line) ≡ t → t ≡ false
              at false g = refl
              at true g =
                  let sent : In q.line (requests_to m.report d s.number) = subst (λ z. In z (requests_to m.report d s.number)) (eqb-true l q.line g)
                  (subst (λ z. In l (requests_to m.report z s.number)) (sym (same_is d s.client e)) (get_in (requests_to m.report s.client s.number) _ l f)) in
                  by_router (is_router before d) refl sent
                where
                  by_router : (r : Bool) → is_router before d ≡ r → In q.line (requests_to m.report d s.number) → true ≡ false
                  by_router true k sent = absurd (false≢true (sym (router_says_nothing d k s i) ∙ e))
                  by_router false k sent = absurd (false≢true (sym unasked ∙ sent_asks d k s.number sent))

      one : (s : Saying) → In s (sayings acts) → (o : Option Parts) → reply_of acts m.report q d s o ≡ None
      one s i None = refl
      one s i (Some content) = ap (λ b. cond b (Some (record { line = s.line; number = q.number; content = content })) None) (nothing s i)
