-- What is written spells the message.
use Rattle.std.proofs.Common.{◌≡◌, ℕ, ◌≤◌, Bool, true, false, not, ◌&&◌, List, [], ◌∷◌, ◌++◌, length, Option, Some, None, Ok, refl, sym, ap, subst, ◌∙◌, arith, eqb, inl, inr}
use Rattle.std.specs.Prelude.{bit_and, if◌then◌else◌, nat_lt, nat_le}
use Rattle.std.specs.List.{list_all, AllByRecursion}
use Rattle.std.proofs.lemmas.List.{append-nil}
use Rattle.std.proofs.lemmas.Bool.{and_parts, leb-true, eqb-true, cases_Bool}
use Rattle.zr_bytes.specs.Flag.{has_flag}
use Rattle.zr_bytes.specs.Number.{writes}
use Rattle.zr_bytes.proofs.Numbers.{written_spells}
use Rattle.zr_ext.specs.declared.ext.Ext.{Ext}
use Rattle.zr_ext.specs.declared.ext.Form.{Form}
use Rattle.zr_ext.specs.Chain.{knows}
use Rattle.zr_ext.specs.Writing.{Fits as ExtFits, writes_chain, ascends_from}
use Rattle.zr_ext.proofs.Written.{chain_again}
use Rattle.zr_format_spec.specs.Format.{Format, gives, choose, ◌then◌, ◌allows◌, extensions, chain}
use Rattle.zr_format_spec.specs.Writing.{writes_header}
use Rattle.zr_format_spec.proofs.Spelled.{allows_spelled}
use Rattle.zr_wirekey.specs.Scopes.{Texts}
use Rattle.zr_wirekey.specs.Spelling.{key_format}
use Rattle.zr_wirekey.specs.Writing.{writes_key}
use Rattle.zr_wirekey.proofs.Keys.{whole_is_read, number_is_read}
use Rattle.zr_body.specs.declared.place.Place.TheVariants as place
use Rattle.zr_body.specs.Body.{body}
use Rattle.zr_msg.specs.declared.content.Parts.{Parts}
use Rattle.zr_msg.specs.declared.extras.Extras.{Extras}
use Rattle.zr_msg.specs.declared.msg.Target.{Target}
use Rattle.zr_msg.specs.declared.msg.Target.TheVariants.{Best}
use Rattle.zr_msg.specs.declared.msg.Msg.{Msg}
use Rattle.zr_msg.specs.declared.msg.Msg.TheVariants.{Sub, Unsub, Token, Untoken, Able, Unable, Interest, EndInterest, ToldSub, ToldAble, ToldUnsub, ToldToken, ToldUntoken, ToldUnable, ToldEnd, Push, Request, Response, Final, State, Step, Snap}
use Rattle.zr_msg.specs.declared.peer.Role.{Role}
use Rattle.zr_msg.specs.declared.peer.Role.TheVariants.{Client, Router}
use Rattle.zr_decl.specs.declared.declared.Declared.{Declared}
use Rattle.zr_decl.specs.declared.declared.Declared.TheVariants.{Told}
use Rattle.zr_decl.specs.Declare.{wire_key}
use Rattle.zr_net.specs.Exts.{push_known, request_known, response_known, final_known, number_at, bytes_at, extras_of, target_of, tree_of}
use Rattle.zr_net.specs.Net.{push, request, response, final, net_format}
use Rattle.zr_net.specs.Writing.{kept_exts, has_any, writes_keyed, writes_content, writes_net, TextFits, TreeFits, KeyFits, CanBeSent}
use Rattle.zr_net.proofs.Kept.{exts_ascend, ascending_lasts, extras_back, target_back, tree_back, exts_fit, push_knows, request_knows, response_knows, final_knows}

-- ---- the header

record Says (h id : ℕ) (first second extended : Bool) : Type 0 where
  name : bit_and h 0x1F ≡ id
  one : has_flag h 0x20 ≡ first
  two : has_flag h 0x40 ≡ second
  more : has_flag h 0x80 ≡ extended

push_says : (z any : Bool) → Says (writes_header 0x1D z (not z) any) 0x1D z (not z) any
push_says true true = record { name = refl; one = refl; two = refl; more = refl }
push_says true false = record { name = refl; one = refl; two = refl; more = refl }
push_says false true = record { name = refl; one = refl; two = refl; more = refl }
push_says false false = record { name = refl; one = refl; two = refl; more = refl }

request_says : (z any : Bool) → Says (writes_header 0x1C z (not z) any) 0x1C z (not z) any
request_says true true = record { name = refl; one = refl; two = refl; more = refl }
request_says true false = record { name = refl; one = refl; two = refl; more = refl }
request_says false true = record { name = refl; one = refl; two = refl; more = refl }
request_says false false = record { name = refl; one = refl; two = refl; more = refl }

response_says : (z any : Bool) → Says (writes_header 0x1B z (not z) any) 0x1B z (not z) any
response_says true true = record { name = refl; one = refl; two = refl; more = refl }
response_says true false = record { name = refl; one = refl; two = refl; more = refl }
response_says false true = record { name = refl; one = refl; two = refl; more = refl }
response_says false false = record { name = refl; one = refl; two = refl; more = refl }

final_says : (any : Bool) → Says (writes_header 0x1A false false any) 0x1A false false any
final_says true = record { name = refl; one = refl; two = refl; more = refl }
final_says false = record { name = refl; one = refl; two = refl; more = refl }

-- ---- parts

key_spelled : (theirs ours : Texts) (number : ℕ) (key : List ℕ) (h : ℕ) → has_flag h 0x20 ≡ eqb number 0 → has_flag h 0x40 ≡ not (eqb number 0) → KeyFits theirs number key → (wire_key theirs ours h).spelled key (writes_key key number)
key_spelled theirs ours number key h named mapped fits =
    elim fits.1 [
      | inl zeroed ↦
          let zero : eqb number 0 ≡ true = ap (λ (n : ℕ). eqb n 0) zeroed in
          let base : (key_format true ours).spelled key (writes_key key number) = subst (λ (n : ℕ). (key_format true ours).spelled key (writes_key key n)) (sym zeroed) (whole_is_read ours key fits.0.0 fits.0.1) in
          let side : (key_format true (if (has_flag h 0x40) then theirs else ours)).spelled key (writes_key key number) =
          subst (λ (b : Bool). (key_format true (if b then theirs else ours)).spelled key (writes_key key number)) (sym (mapped ∙ ap not zero)) base in
          subst (λ (b : Bool). (key_format b (if (has_flag h 0x40) then theirs else ours)).spelled key (writes_key key number)) (sym (named ∙ zero)) side
      | inr given ↦
          let other : eqb number 0 ≡ false = elim (cases_Bool (eqb number 0)) [ inl zeroed ↦ absurd (omega (arith, eqb-true number 0 zeroed, given.0)) | inr longer ↦ longer ] in
          let base : (key_format false theirs).spelled key (writes_key key number) = number_is_read theirs key number given.0 given.1 given.2 fits.0.1 in
          let side : (key_format false (if (has_flag h 0x40) then theirs else ours)).spelled key (writes_key key number) =
          subst (λ (b : Bool). (key_format false (if b then theirs else ours)).spelled key (writes_key key number)) (sym (mapped ∙ ap not other)) base in
          subst (λ (b : Bool). (key_format b (if (has_flag h 0x40) then theirs else ours)).spelled key (writes_key key number)) (sym (named ∙ other)) side
    ]

chain_spelled : (known : List (ℕ × Form)) (h : ℕ) (exts : List Ext) → has_flag h 0x80 ≡ has_any exts → list_all (λ e. knows known e) exts ≡ true → AllByRecursion ExtFits exts → ascends_from 0 exts ≡ true
    → (extensions known h).spelled exts (writes_chain exts)
chain_spelled known h [] more all fit up = subst (λ (b : Bool). (choose b (chain known) (gives [])).spelled [] []) (sym more) (refl, refl)
chain_spelled known h (e ∷ exts) more all fit up =
    subst (λ (b : Bool). (choose b (chain known) (gives [])).spelled (e ∷ exts) (writes_chain (e ∷ exts))) (sym more)
    (chain_again known (e ∷ exts) (omega arith) fit all (ascending_lasts 0 (e ∷ exts) up))

tree_text : (role : Role) (tree : Option (List ℕ)) → TreeFits role tree → TextFits tree
tree_text role None t = tt
tree_text Client (Some id) t = absurd t
tree_text Router (Some id) t =
    let few = and_parts (nat_lt 0 (length id) && nat_le (length id) 16) (not (list_all (λ b. eqb b 0) id)) t in
    let le : length id ≤ 16 = leb-true (length id) 16 ((and_parts (nat_lt 0 (length id)) (nat_le (length id) 16) few.0).1) in
    omega (arith, le)

tree_is : (role : Role) (tree : Option (List ℕ)) → TreeFits role tree → tree_of tree ≡ Ok tree
tree_is role None t = refl
tree_is Client (Some id) t = absurd t
tree_is Router (Some id) t = rw t refl

-- ---- messages

is_push : (role : Role) (theirs ours : Texts) (h : ℕ) (d : Declared) (bytes : List ℕ) → bit_and h 0x1F ≡ 0x1D → (push role theirs ours h).spelled d bytes → (net_format role theirs ours).spelled d (h ∷ bytes)
is_push role theirs ours h d bytes name s = (h, h ∷ [], bytes, refl, refl, rw name s)

is_request : (role : Role) (theirs ours : Texts) (h : ℕ) (d : Declared) (bytes : List ℕ) → bit_and h 0x1F ≡ 0x1C → (request role theirs ours h).spelled d bytes → (net_format role theirs ours).spelled d (h ∷ bytes)
is_request role theirs ours h d bytes name s = (h, h ∷ [], bytes, refl, refl, rw name s)

is_response : (role : Role) (theirs ours : Texts) (h : ℕ) (d : Declared) (bytes : List ℕ) → bit_and h 0x1F ≡ 0x1B → (response theirs ours h).spelled d bytes → (net_format role theirs ours).spelled d (h ∷ bytes)
is_response role theirs ours h d bytes name s = (h, h ∷ [], bytes, refl, refl, rw name s)

is_final : (role : Role) (theirs ours : Texts) (h : ℕ) (d : Declared) (bytes : List ℕ) → bit_and h 0x1F ≡ 0x1A → (final h).spelled d bytes → (net_format role theirs ours).spelled d (h ∷ bytes)
is_final role theirs ours h d bytes name s = (h, h ∷ [], bytes, refl, refl, rw name s)

push_spelled : (role : Role) (theirs ours : Texts) (number : ℕ) (tree : Option (List ℕ)) (c : Parts) → CanBeSent role theirs number (Push tree c)
    → (net_format role theirs ours).spelled (Told (Push tree c)) (writes_net (Push tree c) number)
push_spelled role theirs ours number tree c h =
    let exts : List Ext = kept_exts c.extras Best tree in
    let fits = h.0 in
    let says = push_says (eqb number 0) (has_any exts) in
    let hd : ℕ = writes_keyed 0x1D number exts in
    let back : c.extras ≡ extras_of exts = sym (extras_back c.extras Best tree fits.0.marks) in
    let same : Told (Push tree c) ≡ Told (Push tree (record { key = c.key; extras = extras_of exts; body = c.body })) = λ i. Told (Push tree (record { key = c.key; extras = back i; body = c.body })) in
    let chained : (extensions (push_known role) hd).spelled exts (writes_chain exts) =
    chain_spelled (push_known role) hd exts says.more (push_knows role c.extras tree h.2 fits.1 fits.2 fits.3) (exts_fit c.extras Best tree h.1 fits.0.stamp fits.0.responder (tree_text role tree h.2)) (exts_ascend c.extras Best tree) in
    let after : Option (List ℕ) → Format Declared = λ t. body place.Push then λ b. gives (Told (Push t (record { key = c.key; extras = extras_of exts; body = b }))) in
    let bodied : (after tree).spelled (Told (Push tree c)) c.body = (c.body, c.body, [], sym (append-nil c.body), (refl, h.4), (same, refl)) in
    is_push role theirs ours hd (Told (Push tree c)) (writes_content c exts number) says.name (
      c.key,
      writes_key c.key number,
      writes_chain exts ++ c.body,
      refl,
      key_spelled theirs ours number c.key hd says.one says.two h.3,
      (exts, writes_chain exts, c.body, refl, chained, allows_spelled (tree_of (bytes_at 7 exts)) after tree (Told (Push tree c)) c.body (ap tree_of (tree_back c.extras Best tree) ∙ tree_is role tree h.2) bodied),
    )

request_spelled : (role : Role) (theirs ours : Texts) (number : ℕ) (tree : Option (List ℕ)) (id : ℕ) (target : Target) (c : Parts) → CanBeSent role theirs number (Request tree id target c)
    → (net_format role theirs ours).spelled (Told (Request tree id target c)) (writes_net (Request tree id target c) number)
request_spelled role theirs ours number tree id target c h =
    let exts : List Ext = kept_exts c.extras target tree in
    let fits = h.0 in
    let says = request_says (eqb number 0) (has_any exts) in
    let hd : ℕ = writes_keyed 0x1C number exts in
    let msg : Declared = Told (Request tree id target c) in
    let back : c.extras ≡ extras_of exts = sym (extras_back c.extras target tree fits.0.marks) in
    let same : Told (Request tree id target c) ≡ Told (Request tree id target (record { key = c.key; extras = extras_of exts; body = c.body })) = λ i. Told (Request tree id target (record { key = c.key; extras = back i; body = c.body })) in
    let chained : (extensions (request_known role) hd).spelled exts (writes_chain exts) =
    chain_spelled (request_known role) hd exts says.more (request_knows role c.extras target tree h.2 fits.1) (exts_fit c.extras target tree h.1 fits.0.stamp fits.0.responder (tree_text role tree h.2)) (exts_ascend c.extras target tree) in
    let last : Option (List ℕ) → Target → Format Declared = λ t g. body place.Request then λ b. gives (Told (Request t id g (record { key = c.key; extras = extras_of exts; body = b }))) in
    let after : Option (List ℕ) → Format Declared = λ t. target_of (number_at 4 exts) allows λ g. last t g in
    let bodied : (last tree target).spelled msg c.body = (c.body, c.body, [], sym (append-nil c.body), (refl, h.4), (same, refl)) in
    let aimed : (after tree).spelled msg c.body = allows_spelled (target_of (number_at 4 exts)) (λ g. last tree g) target msg c.body (target_back c.extras target tree) bodied in
    is_request role theirs ours hd msg (writes id ++ writes_content c exts number) says.name (
      id,
      writes id,
      writes_content c exts number,
      refl,
      (h.5, written_spells 8 id),
      (
        c.key,
        writes_key c.key number,
        writes_chain exts ++ c.body,
        refl,
        key_spelled theirs ours number c.key hd says.one says.two h.3,
        (exts, writes_chain exts, c.body, refl, chained, allows_spelled (tree_of (bytes_at 7 exts)) after tree msg c.body (ap tree_of (tree_back c.extras target tree) ∙ tree_is role tree h.2) aimed),
      ),
    )

response_spelled : (role : Role) (theirs ours : Texts) (number id : ℕ) (c : Parts) → CanBeSent role theirs number (Response id c)
    → (net_format role theirs ours).spelled (Told (Response id c)) (writes_net (Response id c) number)
response_spelled role theirs ours number id c h =
    let exts : List Ext = kept_exts c.extras Best None in
    let fits = h.0 in
    let says = response_says (eqb number 0) (has_any exts) in
    let hd : ℕ = writes_keyed 0x1B number exts in
    let back : c.extras ≡ extras_of exts = sym (extras_back c.extras Best None fits.0.marks) in
    let same : Told (Response id c) ≡ Told (Response id (record { key = c.key; extras = extras_of exts; body = c.body })) = λ i. Told (Response id (record { key = c.key; extras = back i; body = c.body })) in
    let chained : (extensions response_known hd).spelled exts (writes_chain exts) =
    chain_spelled response_known hd exts says.more (response_knows c.extras fits.1 fits.2) (exts_fit c.extras Best None h.1 fits.0.stamp fits.0.responder tt) (exts_ascend c.extras Best None) in
    is_response role theirs ours hd (Told (Response id c)) (writes id ++ writes_content c exts number) says.name (
      id,
      writes id,
      writes_content c exts number,
      refl,
      (h.4, written_spells 8 id),
      (
        c.key,
        writes_key c.key number,
        writes_chain exts ++ c.body,
        refl,
        key_spelled theirs ours number c.key hd says.one says.two h.2,
        (exts, writes_chain exts, c.body, refl, chained, (c.body, c.body, [], sym (append-nil c.body), (refl, h.3), (same, refl))),
      ),
    )

final_spelled : (role : Role) (theirs ours : Texts) (number id : ℕ) (e : Extras) → CanBeSent role theirs number (Final id e)
    → (net_format role theirs ours).spelled (Told (Final id e)) (writes_net (Final id e) number)
final_spelled role theirs ours number id e h =
    let exts : List Ext = kept_exts e Best None in
    let fits = h.0 in
    let says = final_says (has_any exts) in
    let hd : ℕ = writes_header 0x1A false false (has_any exts) in
    let back : e ≡ extras_of exts = sym (extras_back e Best None fits.0.marks) in
    let same : Told (Final id e) ≡ Told (Final id (extras_of exts)) = λ i. Told (Final id (back i)) in
    let chained : (extensions final_known hd).spelled exts (writes_chain exts) =
    chain_spelled final_known hd exts says.more (final_knows e fits.1 fits.2 fits.3) (exts_fit e Best None h.1 fits.0.stamp fits.0.responder tt) (exts_ascend e Best None) in
    is_final role theirs ours hd (Told (Final id e)) (writes id ++ writes_chain exts) says.name
    (id, writes id, writes_chain exts, refl, (h.2, written_spells 8 id), (exts, writes_chain exts, [], sym (append-nil (writes_chain exts)), chained, (same, refl)))

pub message_spelled : (role : Role) (theirs ours : Texts) (number : ℕ) (m : Msg) → CanBeSent role theirs number m → (net_format role theirs ours).spelled (Told m) (writes_net m number)
message_spelled role theirs ours number (Push tree content) h = push_spelled role theirs ours number tree content h
message_spelled role theirs ours number (Request tree id target content) h = request_spelled role theirs ours number tree id target content h
message_spelled role theirs ours number (Response id content) h = response_spelled role theirs ours number id content h
message_spelled role theirs ours number (Final id extras) h = final_spelled role theirs ours number id extras h
message_spelled role theirs ours number (Sub id key) h = absurd h
message_spelled role theirs ours number (Unsub id) h = absurd h
message_spelled role theirs ours number (Token id key) h = absurd h
message_spelled role theirs ours number (Untoken id) h = absurd h
message_spelled role theirs ours number (Able id key complete) h = absurd h
message_spelled role theirs ours number (Unable id) h = absurd h
message_spelled role theirs ours number (Interest id current future kinds key aggregate) h = absurd h
message_spelled role theirs ours number (EndInterest id) h = absurd h
message_spelled role theirs ours number (ToldSub id key interest) h = absurd h
message_spelled role theirs ours number (ToldToken id key interest) h = absurd h
message_spelled role theirs ours number (ToldAble id key complete interest) h = absurd h
message_spelled role theirs ours number (ToldUnsub id) h = absurd h
message_spelled role theirs ours number (ToldUntoken id) h = absurd h
message_spelled role theirs ours number (ToldUnable id) h = absurd h
message_spelled role theirs ours number (ToldEnd interest) h = absurd h
message_spelled role theirs ours number (State links) h = absurd h
message_spelled role theirs ours number (Step source n added d) h = absurd h
message_spelled role theirs ours number (Snap source n decls) h = absurd h
