-- What holds of a world that is one of a run: between two events (`Calm`), and while the clients of a router are yet to be sent what it has queued for
-- them (`Pending`).
use Rattle.std.proofs.Common.{◌≡◌, ℕ, ◌≤◌, Bool, true, false, cond, List, [], ◌∷◌, ◌++◌, map, length, Option, Some, None, refl, sym, ap, ◌∙◌, append-nil, append_assoc}
use Rattle.std.specs.Prelude.{◌&&◌, is_some}
use Rattle.std.specs.List.{fold}
use Rattle.std.specs.Option.{option_map, option_map_or}
use Rattle.std.proofs.lemmas.List.{map-append}
use Rattle.zr_id.specs.Zid.{is_named}
use Rattle.zr_msg.specs.declared.msg.Msg.{Msg}
use Rattle.zr_node_spec.specs.Tables.{link_to}
use Rattle.zr_script_spec.specs.declared.report.ReportLine.{ReportLine}
use Rattle.zr_world_spec.specs.World.{Tagged, ClientState, RouterState, EndState, End, WorldState, router_of, client_of, end_of, queued, wire_at}
use Rattle.zr_world_spec.specs.Acts.{receiving}
use Rattle.zr_guarantee.specs.Sent.{told_to}
use Rattle.zr_law_running.specs.Runs.{LinkState, Several, no_link, with_waits}
use Rattle.zr_law_running.specs.Allowed.{is_among}

-- ---- readings

-- a router's end, as a run has it
abbrev pub read : Option EndState → LinkState
read None = no_link
read (Some e) = record { whole = e.unbroken; waits = map (λ t. t.msg) e.queue; weight = e.weight }

pub unbroken_is : (o : Option EndState) (l : LinkState) → read o ≡ l → option_map_or (λ s. s.unbroken) o false ≡ l.whole
unbroken_is None l h = ap (λ z. z.whole) h
unbroken_is (Some e) l h = ap (λ z. z.whole) h

-- a router, as a run has it
abbrev pub router_in : Several → List ℕ → RouterState
router_in s x = record { node = (s.hub x).node; told = (s.hub x).told; weight = s.weight x }

-- a client's link leads to its router, and is unbroken while it is up
abbrev pub IsHome : ClientState → List ℕ → Option EndState → Type 0
IsHome k y None = Unit {0}
IsHome k y (Some e) = (k.router ≡ y) × (e.up ≡ true → e.unbroken ≡ true)

abbrev pub Homes : WorldState → Type 0
Homes w = (y c : List ℕ) (k : ClientState) → client_of w.clients c ≡ Some k → IsHome k y (end_of w.ends (y, c))

abbrev pub is_client : WorldState → List ℕ → Bool
is_client w c = is_some (client_of w.clients c)

-- the messages that a report says were sent to a client
abbrev pub messages_to : List ReportLine → List ℕ → List Msg
messages_to report c = map (λ t. t.msg) (told_to report c)

-- ---- between two events

pub record Calm (ids : List (List ℕ)) (s : Several) (w : WorldState) (report : List ReportLine) : Type 0 where
  pub routers : (q : List ℕ) → router_of w.routers q ≡ cond (is_among ids q) (Some (router_in s q)) None
  pub clients : (c : List ℕ) → client_of w.clients c ≡ s.clients c
  pub apart : (c : List ℕ) → is_client w c ≡ true → is_among ids c ≡ false
  pub ends : (e : End) → read (end_of w.ends e) ≡ s.links e
  pub wires : (e : End) → wire_at (end_of w.ends e) ≡ []
  pub rest : (y c : List ℕ) → is_client w c ≡ true → (s.links (y, c)).waits ≡ []
  pub told : (c : List ℕ) → is_among ids c ≡ false → messages_to report c ≡ s.sent c
  pub came : length w.clients ≤ s.came

-- ---- while clients are yet to be sent what waits for them at the router x

pub record Pending (ids : List (List ℕ)) (s : Several) (x : List ℕ) (pend : List ℕ → List Msg) (w : WorldState) (report : List ReportLine) : Type 0 where
  pub routers : (q : List ℕ) → router_of w.routers q ≡ cond (is_among ids q) (Some (router_in s q)) None
  pub known : is_among ids x ≡ true
  pub clients : (c : List ℕ) → option_map (λ k. fold receiving k (pend c)) (client_of w.clients c) ≡ s.clients c
  pub apart : (c : List ℕ) → is_client w c ≡ true → is_among ids c ≡ false
  pub ends : (e : End) → read (end_of w.ends e) ≡ cond (is_named x e.0 && is_client w e.1) (with_waits (s.links e) (pend e.1)) (s.links e)
  pub wires : (e : End) → wire_at (end_of w.ends e) ≡ []
  pub rest : (y c : List ℕ) → is_client w c ≡ true → (s.links (y, c)).waits ≡ []
  pub told : (c : List ℕ) → is_among ids c ≡ false → messages_to report c ++ pend c ≡ s.sent c
  pub only : (c : List ℕ) → link_to (s.hub x).node.links c ≡ None → pend c ≡ []
  pub came : length w.clients ≤ s.came

-- once nothing waits for a client any more, all is calm
pub calm : (ids : List (List ℕ)) (s : Several) (x : List ℕ) (pend : List ℕ → List Msg) (w : WorldState) (report : List ReportLine) →
    Pending ids s x pend w report → ((c : List ℕ) → is_among ids c ≡ false → pend c ≡ []) → Calm ids s w report
calm ids s x pend w report h none = record {
  routers = h.routers;
  clients = λ c. by_client c (client_of w.clients c) refl;
  apart = h.apart;
  ends = λ e. h.ends e ∙ at_end e (is_named x e.0) (is_client w e.1) refl;
  wires = h.wires;
  rest = h.rest;
  told = λ c apart. sym (append-nil (messages_to report c)) ∙ ap (λ z. messages_to report c ++ z) (sym (none c apart)) ∙ h.told c apart;
  came = h.came;
}
  where
    by_client : (c : List ℕ) (o : Option ClientState) → client_of w.clients c ≡ o → client_of w.clients c ≡ s.clients c
    by_client c None e = e ∙ sym (ap (option_map (λ k. fold receiving k (pend c))) e) ∙ h.clients c
    by_client c (Some k) e =
        let apart : is_among ids c ≡ false = h.apart c (ap is_some e) in
        e ∙ ap (λ z. Some (fold receiving k z)) (sym (none c apart)) ∙ sym (ap (option_map (λ k. fold receiving k (pend c))) e) ∙ h.clients c

    at_end : (e : End) (b c : Bool) → is_client w e.1 ≡ c → cond (b && c) (with_waits (s.links e) (pend e.1)) (s.links e) ≡ s.links e
    at_end e false c i = refl
    at_end e true false i = refl
    at_end e true true i = ap (with_waits (s.links e)) (none e.1 (h.apart e.1 i) ∙ sym (h.rest e.0 e.1 i))

-- ---- messages queued twice

map_tagged : (msgs : List Msg) (tag : ℕ) → map (λ (t : Tagged). t.msg) (map (λ m. record { msg = m; tag = tag }) msgs) ≡ msgs
map_tagged [] tag = refl
map_tagged (m ∷ msgs) tag = ap (λ z. m ∷ z) (map_tagged msgs tag)

module _ (more told : List Msg) (tag : ℕ) where
  abbrev pub both_queued : EndState → EndState
  both_queued e = queued (queued e more tag) told tag

  pub read_queued : (o : Option EndState) → (o ≡ None → more ++ told ≡ []) → read (option_map both_queued o) ≡ with_waits (read o) ((read o).waits ++ (more ++ told))
  read_queued None h = ap (with_waits no_link) (sym (h refl))
  read_queued (Some e) h = ap (λ z. record { whole = e.unbroken; waits = z; weight = e.weight })
      (map-append (λ (t : Tagged). t.msg) (e.queue ++ map (λ m. record { msg = m; tag = tag }) more) (map (λ m. record { msg = m; tag = tag }) told)
      ∙ ap (λ z. z ++ map (λ (t : Tagged). t.msg) (map (λ m. record { msg = m; tag = tag }) told)) (map-append (λ (t : Tagged). t.msg) e.queue (map (λ m. record { msg = m; tag = tag }) more))
      ∙ ap (λ z. (map (λ (t : Tagged). t.msg) e.queue ++ z) ++ map (λ (t : Tagged). t.msg) (map (λ m. record { msg = m; tag = tag }) told)) (map_tagged more tag)
      ∙ ap (λ z. (map (λ (t : Tagged). t.msg) e.queue ++ more) ++ z) (map_tagged told tag)
      ∙ append_assoc (map (λ (t : Tagged). t.msg) e.queue) more told)

  pub wire_queued : (o : Option EndState) → wire_at (option_map both_queued o) ≡ wire_at o
  wire_queued None = refl
  wire_queued (Some e) = refl

  pub home_queued : (k : ClientState) (y : List ℕ) (o : Option EndState) → IsHome k y o → IsHome k y (option_map both_queued o)
  home_queued k y None h = h
  home_queued k y (Some e) h = h

  pub there_queued : (o : Option EndState) → is_some (option_map both_queued o) ≡ is_some o
  there_queued None = refl
  there_queued (Some e) = refl
