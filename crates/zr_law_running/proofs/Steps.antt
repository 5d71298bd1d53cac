-- Acts that are accepted one after another (`Came`), and what each act comes to where nothing that it asks of the world is missing (`.._goes`).
use Rattle.std.proofs.Common.{◌≡◌, ℕ, suc, Bool, true, false, not, List, [], ◌∷◌, ◌++◌, length, Some, None, Result, Ok, refl, sym, ap, ◌∙◌, arith, lt-ltb, append_assoc}
use Rattle.std.specs.Prelude.{nat_lt, nat_le, ◌&&◌}
use Rattle.std.specs.List.{cons_option, list_all}
use Rattle.std.specs.Ordering.{nat_cmp}
use Rattle.std.specs.Cmp.Lexicographic.{slice_cmp}
use Rattle.std.specs.BTreeMap.{insert_entry}
use Rattle.std.proofs.lemmas.Bool.{and_parts, and_from, or_left}
use Rattle.std.proofs.lemmas.List.Sums.{fold-append}
use Rattle.std.proofs.lemmas.List.Elements.{filter_map-append}
use Rattle.zr_law_running.specs.Runs.{Deed}
use Rattle.zr_law_running.specs.Deeds.{deed_of, deeds}
use Rattle.zr_lists.proofs.Tests.{all_both}
use Rattle.zr_id.specs.Zid.{is_named}
use Rattle.zr_id.specs.declared.link.LinkNo.{LinkNo}
use Rattle.zr_msg.specs.declared.event.Event.{Event}
use Rattle.zr_msg.specs.declared.event.Event.TheVariants.{Down, From}
use Rattle.zr_msg.specs.declared.msg.Msg.{Msg}
use Rattle.zr_msg.specs.declared.peer.Role.TheVariants as role
use Rattle.zr_script_spec.specs.declared.error.ScriptError.{ScriptError}
use Rattle.zr_script_spec.specs.declared.error.ScriptError.TheVariants.{BadWords, UnknownName, NameTaken, NotLinked, AlreadyLinked, Limit}
use Rattle.zr_script_spec.specs.declared.command.Act.{Act}
use Rattle.zr_script_spec.specs.declared.command.Act.TheVariants as a
use Rattle.zr_script_spec.specs.declared.report.ReportLine.{ReportLine}
use Rattle.zr_script_spec.specs.declared.report.ReportLine.TheVariants.{Handled, Taken}
use Rattle.zr_script_spec.specs.Step.{◌>>=◌}
use Rattle.zr_world_spec.specs.World.{Tagged, ClientState, RouterState, EndState, WorldState, with_routers, with_ends, new_router, new_end, router_of, is_taken, end_of, with_end, put_end, most_routers, most_clients, most_links, is_in_place, links_in_place, with_wire, lifted}
use Rattle.zr_world_spec.specs.Acts.{outcome, unless, router_at, end_at, oldest, up_event, peer_of, heard, heard_by, hears, refuses_of, number_to, client_sends, router_step, client_step, link_step, up_step, break_step, down_step, handle_step, take_step}
use Rattle.zr_world_spec.specs.Moments.{Numbered, is_later, is_step, ascends, Moment, beginning, onward, went, reached, then_at}
use Rattle.zr_world_spec.proofs.Cases.{w_client, w_link, w_up, w_break, w_down, w_sent, w_handle, w_take}

-- ---- accepted acts

-- what acts may follow on those before: at least each step
pub record Span : Type 0 where
  pub before : List Numbered
  pub test : Act → Bool
  pub steps : (act : Act) → is_step act ≡ true → test act ≡ true

-- such acts lead to the moment
pub record Came (g : Span) (m : Moment) : Type 0 where
  pub acts : List Numbered
  pub ascend : ascends 0 (g.before ++ acts) ≡ true
  pub pass : list_all (λ x. g.test x.1) acts ≡ true
  pub is : reached (g.before ++ acts) ≡ Some m

pub final : ℕ → List Numbered → ℕ
final last [] = last
final last (x ∷ xs) = final x.0 xs

ascends_more : (last : ℕ) (xs : List Numbered) (x : Numbered) → ascends last xs ≡ true → is_later (final last xs) x ≡ true → ascends last (xs ++ x ∷ []) ≡ true
unfolding final
ascends_more last [] x h later = and_from (is_later last x) true later refl
ascends_more last (y ∷ ys) x h later =
    let parts = and_parts (is_later last y) (ascends y.0 ys) h in
    and_from (is_later last y) (ascends y.0 (ys ++ x ∷ [])) parts.0 (ascends_more y.0 ys x parts.1 later)

-- the number of the next act
pub next_number : (g : Span) (m : Moment) → Came g m → ℕ
next_number g m c = suc (final 0 (g.before ++ c.acts))

-- one act more of those that were accepted
pub more_accepted : (acts : List Numbered) (m : Moment) → ascends 0 acts ≡ true → reached acts ≡ Some m → (act : Act) (x : List ReportLine × WorldState) → outcome m.world (suc (final 0 acts)) act ≡ Ok x →
    (ascends 0 (acts ++ (suc (final 0 acts), act) ∷ []) ≡ true) × (reached (acts ++ (suc (final 0 acts), act) ∷ []) ≡ Some (then_at m x))
more_accepted acts m ascend is act x e = (
  ascends_more 0 acts (suc (final 0 acts), act) ascend
      (or_left (nat_lt (final 0 acts) (suc (final 0 acts))) (is_step act && nat_le (final 0 acts) (suc (final 0 acts))) (lt-ltb (final 0 acts) (suc (final 0 acts)) (omega arith))),
  fold-append onward (Some beginning) acts ((suc (final 0 acts), act) ∷ []) ∙ ap (λ o. onward o (suc (final 0 acts), act)) is ∙ ap (went m) e,
)

pub one_more : (g : Span) (m : Moment) (c : Came g m) (act : Act) (x : List ReportLine × WorldState) → g.test act ≡ true → outcome m.world (next_number g m c) act ≡ Ok x → Came g (then_at m x)
unfolding next_number
one_more g m c act x may e =
    let n : ℕ = suc (final 0 (g.before ++ c.acts)) in
    let more = more_accepted (g.before ++ c.acts) m c.ascend c.is act x e in
    let behind : (g.before ++ c.acts) ++ (n, act) ∷ [] ≡ g.before ++ (c.acts ++ (n, act) ∷ []) = append_assoc g.before c.acts ((n, act) ∷ []) in
    record {
      acts = c.acts ++ (n, act) ∷ [];
      ascend = ap (ascends 0) (sym behind) ∙ more.0;
      pass = all_both (λ x. g.test x.1) c.acts ((n, act) ∷ []) c.pass (and_from (g.test act) true may refl);
      is = ap reached (sym behind) ∙ more.1;
    }

-- what clients have done so far
abbrev pub did : (g : Span) (m : Moment) → Came g m → List Deed
did g m c = deeds (g.before ++ c.acts)

pub did_more : (g : Span) (m : Moment) (c : Came g m) (act : Act) (x : List ReportLine × WorldState) (may : g.test act ≡ true) (e : outcome m.world (next_number g m c) act ≡ Ok x) →
    did g (then_at m x) (one_more g m c act x may e) ≡ did g m c ++ cons_option (deed_of act) []
unfolding one_more
did_more g m c act x may e =
    ap deeds (sym (append_assoc g.before c.acts ((suc (final 0 (g.before ++ c.acts)), act) ∷ [])))
    ∙ filter_map-append (λ (z : Numbered). deed_of z.1) (g.before ++ c.acts) ((suc (final 0 (g.before ++ c.acts)), act) ∷ [])

-- ---- what an act comes to

module _ {B : Type 0} where
  -- what an act reads is there
  pub by_ok : {A : Type 0} (o : Result A ScriptError) (f : A → Result B ScriptError) (x : A) (y : Result B ScriptError) → o ≡ Ok x → f x ≡ y → (o >>= f) ≡ y
  by_ok o f x y e h = ap (λ z. z >>= f) e ∙ h

  -- a test that isn't to fail, and one that is
  pub by_test : (b : Bool) (e : ScriptError) (f : Unit {0} → Result B ScriptError) (y : Result B ScriptError) → b ≡ true → f tt ≡ y → (unless (not b) e >>= f) ≡ y
  by_test b e f y t h = ap (λ z. unless (not z) e >>= f) t ∙ h

  pub by_pass : (b : Bool) (e : ScriptError) (f : Unit {0} → Result B ScriptError) (y : Result B ScriptError) → b ≡ false → f tt ≡ y → (unless b e >>= f) ≡ y
  by_pass b e f y t h = ap (λ z. unless z e >>= f) t ∙ h

  -- a router takes the event
  pub by_hears : (v : WorldState) (x : List ℕ) (r : RouterState) (event : Event) (tag : ℕ) (f : WorldState → Result B ScriptError) (y : Result B ScriptError) →
      refuses_of r event ≡ None → f (heard v x r event tag) ≡ y → (hears v x r event tag >>= f) ≡ y
  by_hears v x r event tag f y t h = ap (λ o. heard_by v x r event tag o >>= f) t ∙ h

module _ (w : WorldState) (n : ℕ) where
  pub router_goes : (id : List ℕ) → is_taken w id ≡ false → nat_le most_routers (length w.routers) ≡ false →
      outcome w n (a.Router id) ≡ Ok ([], with_routers w (insert_entry (slice_cmp nat_cmp) w.routers id (new_router id)))
  unfolding outcome router_step
  router_goes id free room = by_pass (is_taken w id) NameTaken _ _ free (by_pass (nat_le most_routers (length w.routers)) Limit _ _ room refl)

  pub client_goes : (id x : List ℕ) (r : RouterState) → router_of w.routers x ≡ Some r → is_taken w id ≡ false → nat_le most_clients (length w.clients) ≡ false →
      refuses_of r (up_event r (record { id = id; role = role.Client; weight = 1 })) ≡ None → outcome w n (a.Client id x) ≡ Ok ([], w_client w n id x r)
  unfolding outcome client_step
  client_goes id x r er free room taken =
      by_ok (router_at (router_of w.routers x)) _ r _ (ap router_at er) (by_pass (is_taken w id) NameTaken _ _ free (by_pass (nat_le most_clients (length w.clients)) Limit _ _ room
      (by_hears (with_ends w (put_end w.ends (x, id) (lifted (new_end 1)))) x r (up_event r (record { id = id; role = role.Client; weight = 1 })) n _ _ taken refl)))

  pub link_goes : (x y : List ℕ) (weight : ℕ) (r q : RouterState) → is_named x y ≡ false → router_of w.routers x ≡ Some r → router_of w.routers y ≡ Some q →
      is_in_place w.ends (x, y) ≡ false → nat_le most_links (length (links_in_place w)) ≡ false → outcome w n (a.Link x y weight) ≡ Ok ([], w_link w x y weight)
  unfolding outcome link_step
  link_goes x y weight r q apart er eq anew room =
      by_pass (is_named x y) BadWords _ _ apart (by_ok (router_at (router_of w.routers x)) _ r _ (ap router_at er) (by_ok (router_at (router_of w.routers y)) _ q _ (ap router_at eq)
      (by_pass (is_in_place w.ends (x, y)) AlreadyLinked _ _ anew (by_pass (nat_le most_links (length (links_in_place w))) Limit _ _ room refl))))

  pub up_goes : (x y : List ℕ) (r : RouterState) (s : EndState) → router_of w.routers x ≡ Some r → is_taken w y ≡ true → end_of w.ends (x, y) ≡ Some s → s.unbroken ≡ true → s.up ≡ false →
      refuses_of r (up_event r (peer_of w y s.weight)) ≡ None → outcome w n (a.Up x y) ≡ Ok ([], w_up w n x y r s)
  unfolding outcome up_step
  up_goes x y r s er known es whole down taken =
      by_ok (router_at (router_of w.routers x)) _ r _ (ap router_at er) (by_test (is_taken w y) UnknownName _ _ known (by_ok (end_at (end_of w.ends (x, y))) _ s _ (ap end_at es)
      (by_test s.unbroken NotLinked _ _ whole (by_pass s.up AlreadyLinked _ _ down
      (by_hears (with_ends w (with_end w.ends (x, y) (lifted s))) x r (up_event r (peer_of w y s.weight)) n _ _ taken refl)))))

  pub break_goes : (x y : List ℕ) (r : RouterState) (s : EndState) → router_of w.routers x ≡ Some r → is_taken w y ≡ true → end_of w.ends (x, y) ≡ Some s → s.unbroken ≡ true →
      outcome w n (a.Break x y) ≡ Ok ([], w_break w x y)
  unfolding outcome break_step
  break_goes x y r s er known es whole =
      by_ok (router_at (router_of w.routers x)) _ r _ (ap router_at er) (by_test (is_taken w y) UnknownName _ _ known (by_ok (end_at (end_of w.ends (x, y))) _ s _ (ap end_at es)
      (by_test s.unbroken NotLinked _ _ whole refl)))

  pub down_goes : (x y : List ℕ) (r : RouterState) (s : EndState) (l : LinkNo) → router_of w.routers x ≡ Some r → is_taken w y ≡ true → end_of w.ends (x, y) ≡ Some s → s.up ≡ true → s.unbroken ≡ false →
      number_to r y ≡ Ok l → refuses_of r (Down l) ≡ None → outcome w n (a.Down x y) ≡ Ok ([], w_down w n x y r l)
  unfolding outcome down_step
  down_goes x y r s l er known es up parted el taken =
      by_ok (router_at (router_of w.routers x)) _ r _ (ap router_at er) (by_test (is_taken w y) UnknownName _ _ known (by_ok (end_at (end_of w.ends (x, y))) _ s _ (ap end_at es)
      (by_test s.up NotLinked _ _ up (by_pass s.unbroken NotLinked _ _ parted (by_ok (number_to r y) _ l _ el (by_hears w x r (Down l) n _ _ taken refl))))))

  pub handle_goes : (x y : List ℕ) (r : RouterState) (s : EndState) (t : Tagged) (ts : List Tagged) (l : LinkNo) → router_of w.routers x ≡ Some r → is_taken w y ≡ true → end_of w.ends (x, y) ≡ Some s → s.up ≡ true →
      s.wire ≡ t ∷ ts → number_to r y ≡ Ok l → refuses_of r (From l t.msg) ≡ None → outcome w n (a.Handle x y) ≡ Ok (Handled x y t.msg t.tag ∷ [], w_handle w x y r s l t.msg t.tag ts)
  unfolding outcome handle_step
  handle_goes x y r s t ts l er known es up front el taken =
      by_ok (router_at (router_of w.routers x)) _ r _ (ap router_at er) (by_test (is_taken w y) UnknownName _ _ known (by_ok (end_at (end_of w.ends (x, y))) _ s _ (ap end_at es)
      (by_test s.up NotLinked _ _ up (by_ok (oldest s.wire) _ (t, ts) _ (ap oldest front) (by_ok (number_to r y) _ l _ el
      (by_hears (with_ends w (with_end w.ends (x, y) (with_wire s ts))) x r (From l t.msg) t.tag _ _ taken refl))))))

  pub take_goes : (x y : List ℕ) (r : RouterState) (s : EndState) (t : Tagged) (ts : List Tagged) → router_of w.routers x ≡ Some r → is_taken w y ≡ true → end_of w.ends (x, y) ≡ Some s → s.up ≡ true →
      s.unbroken ≡ true → s.queue ≡ t ∷ ts → outcome w n (a.Take x y) ≡ Ok (Taken x y t.msg t.tag ∷ [], w_take w x y s t.msg t.tag ts)
  unfolding outcome take_step
  take_goes x y r s t ts er known es up whole front =
      by_ok (router_at (router_of w.routers x)) _ r _ (ap router_at er) (by_test (is_taken w y) UnknownName _ _ known (by_ok (end_at (end_of w.ends (x, y))) _ s _ (ap end_at es)
      (by_test s.up NotLinked _ _ up (by_test s.unbroken NotLinked _ _ whole (by_ok (oldest s.queue) _ (t, ts) _ (ap oldest front) refl)))))

  -- a client's message is on the wire
  pub sends_goes : {B : Type 0} (name : List ℕ) (s : ClientState) (e : EndState) (msg : Msg) (f : WorldState → Result B ScriptError) (y : Result B ScriptError) → end_of w.ends (s.router, name) ≡ Some e →
      e.unbroken ≡ true → f (w_sent w n name s e msg) ≡ y → (client_sends w n name s msg >>= f) ≡ y
  unfolding client_sends
  sends_goes name s e msg f y ee whole h =
      by_ok (end_at (end_of w.ends (s.router, name)) >>= (λ z. unless (not z.unbroken) NotLinked >>= (λ u. Ok (w_sent w n name s z msg)))) f (w_sent w n name s e msg) y
      (by_ok (end_at (end_of w.ends (s.router, name))) _ e _ (ap end_at ee) (by_test e.unbroken NotLinked _ _ whole refl)) h
