-- A message that may be passed on may be sent, where its parts are what their types keep.
use Rattle.std.proofs.Common.{◌≡◌, ℕ, ◌+◌, ◌≤◌, Bool, true, false, List, [], ◌∷◌, ◌++◌, length, Option, Some, None, is_some, inl, inr, refl, sym, ◌∙◌, arith}
use Rattle.std.proofs.lemmas.Bool.{false≢true}
use Rattle.std.proofs.lemmas.List.{length-append}
use Rattle.zr_bytes.specs.Number.{writes}
use Rattle.zr_bytes.proofs.Numbers.{written_long}
use Rattle.zr_ext.specs.Writing.{writes_chain}
use Rattle.zr_msg.specs.declared.content.Parts.{Parts}
use Rattle.zr_msg.specs.declared.extras.Extras.{Extras}
use Rattle.zr_msg.specs.declared.msg.Msg.{Msg}
use Rattle.zr_msg.specs.declared.msg.Msg.TheVariants.{Sub, Unsub, Token, Untoken, Able, Unable, Interest, EndInterest, ToldSub, ToldAble, ToldUnsub, ToldToken, ToldUntoken, ToldUnable, ToldEnd, Push, Request, Response, Final, State, Step, Snap}
use Rattle.zr_msg.specs.declared.msg.Target.{Target}
use Rattle.zr_msg.specs.declared.msg.Target.TheVariants.{Best}
use Rattle.zr_msg.specs.declared.peer.Role.{Role}
use Rattle.zr_msg.specs.declared.peer.Role.TheVariants.{Client, Router}
use Rattle.zr_wirekey.specs.Writing.{writes_key}
use Rattle.zr_decl.specs.Writing.{IsKey, IsSomeKey, options_of, writes_complete, writes_declare, writes_keyed, writes_queryable, writes_restriction, writes_undeclared}
use Rattle.zr_net.specs.Writing.{TreeFits, kept_exts}
use Rattle.zr_wire.specs.Limits.{most_of}
use Rattle.zr_wire.specs.Roles.{admits, client_may_send, router_may_send}
use Rattle.zr_wire.specs.Sending.{MayBeSent}
use Rattle.zr_wire.specs.Writing.{writes_message}
use Rattle.zr_wire.proofs.Snapshots.{writable_spelled}
use Rattle.zr_law_sent.specs.Passing.{IsOfTypes, IsShort, IsSomeZid, MayPass}
use Rattle.zr_law_sent.proofs.Lengths.{exts_long, key_long, some_zid_short, snap_short, state_long, step_long}

-- ---- samples, requests and what answers them

-- clients name no tree
tree_fits : (role : Role) (content : Parts) (tree : Option (List ℕ)) → admits role (Push tree content) ≡ true → IsSomeZid tree → TreeFits role tree
tree_fits role content None may named = tt
tree_fits Client content (Some id) may named = absurd (false≢true may)
tree_fits Router content (Some id) may named = named

-- behind the header and the number: the key, the extensions and the body
content_long : (content : Parts) (target : Target) (tree : Option (List ℕ)) → IsShort content → IsSomeZid tree → IsKey content.key →
    length (writes_key content.key 0 ++ (writes_chain (kept_exts content.extras target tree) ++ content.body)) + 100 ≤ most_of Client
content_long content target tree short named key =
    let exts : List ℕ = writes_chain (kept_exts content.extras target tree) in
    omega (
      arith,
      length-append (writes_key content.key 0) (exts ++ content.body),
      length-append exts content.body,
      key_long content.key,
      key.0,
      exts_long content.extras target tree,
      some_zid_short tree named,
      short,
    )

-- the limit of a router's messages is above that of a client's
within : (role : Role) (n : ℕ) → n ≤ most_of Client → n ≤ most_of role
within Client n h = h
within Router n h = omega (arith, h)

push_may : (role : Role) (tree : Option (List ℕ)) (content : Parts) → MayPass role (Push tree content) → IsOfTypes (Push tree content) → MayBeSent role (Push tree content)
push_may role tree content h t = record {
  admitted = h.0;
  spelled = (h.1.0, t.0, tree_fits role content tree h.0 t.1, (t.2, inl refl), h.1.1);
  short = within role (length (writes_message (Push tree content))) (let long = content_long content Best tree h.1.2 t.1 t.2 in omega (arith, long));
}

request_may : (role : Role) (tree : Option (List ℕ)) (id : ℕ) (target : Target) (content : Parts) → MayPass role (Request tree id target content) → IsOfTypes (Request tree id target content) →
    MayBeSent role (Request tree id target content)
request_may role tree id target content h t = record {
  admitted = h.0;
  spelled = (h.1.0, t.0, by role tree h.0 t.1, (t.2, inl refl), h.1.1, t.3);
  short = within role (length (writes_message (Request tree id target content)))
      (let long = content_long content target tree h.1.2 t.1 t.2 in
      omega (arith, long, length-append (writes id) (writes_key content.key 0 ++ (writes_chain (kept_exts content.extras target tree) ++ content.body)), written_long 8 id));
}
  where
    by : (role : Role) (tree : Option (List ℕ)) → admits role (Request tree id target content) ≡ true → IsSomeZid tree → TreeFits role tree
    by role None may named = tt
    by Client (Some root) may named = absurd (false≢true may)
    by Router (Some root) may named = named

response_may : (role : Role) (id : ℕ) (content : Parts) → MayPass role (Response id content) → IsOfTypes (Response id content) → MayBeSent role (Response id content)
response_may role id content h t = record {
  admitted = h.0;
  spelled = (h.1.0, t.0, (t.1, inl refl), h.1.1, t.2);
  short = within role (length (writes_message (Response id content)))
      (let long = content_long content Best None h.1.2 tt t.1 in
      omega (arith, long, length-append (writes id) (writes_key content.key 0 ++ (writes_chain (kept_exts content.extras Best None) ++ content.body)), written_long 8 id));
}

final_may : (role : Role) (id : ℕ) (extras : Extras) → MayPass role (Final id extras) → IsOfTypes (Final id extras) → MayBeSent role (Final id extras)
final_may role id extras h t = record {
  admitted = h.0;
  spelled = (h.1.0, t.0, t.1);
  short = within role (length (writes_message (Final id extras)))
      (let short = h.1.1 in omega (arith, short, length-append (writes id) (writes_chain (kept_exts extras Best None)), written_long 8 id, exts_long extras Best None));
}

-- ---- declarations and interests

declare_long : (interest : Option ℕ) → length (writes_declare interest) ≤ 10
declare_long None = omega arith
declare_long (Some n) = omega (arith, written_long 8 n)

keyed_long : (header id : ℕ) (key : List ℕ) → IsKey key → length (writes_keyed header id key) ≤ 2100
keyed_long header id key h = omega (arith, length-append (writes id) (writes_key key 0), written_long 8 id, key_long key, h.0)

complete_long : (complete : Bool) → length (writes_complete complete) ≤ 20
complete_long true = omega (arith, written_long 8 1)
complete_long false = omega arith

queryable_long : (id : ℕ) (key : List ℕ) (complete : Bool) → IsKey key → length (writes_queryable id key complete) ≤ 2100
queryable_long id key complete h =
    omega (arith, length-append (writes id) (writes_key key 0 ++ writes_complete complete), length-append (writes_key key 0) (writes_complete complete), written_long 8 id, key_long key, h.0, complete_long complete)

undeclared_long : (header id : ℕ) → length (writes_undeclared header id) ≤ 10
undeclared_long header id = omega (arith, written_long 8 id)

restriction_long : (o : Option (List ℕ)) → IsSomeKey o → length (writes_restriction o) ≤ 2066
restriction_long None h = omega arith
restriction_long (Some key) h = omega (arith, key_long key, h.0)

-- a DECLARE before what it declares
declares_long : (interest : Option ℕ) (rest : List ℕ) (role : Role) → length rest ≤ 2100 → length (writes_declare interest ++ rest) ≤ most_of role
declares_long interest rest role h = within role (length (writes_declare interest ++ rest)) (omega (arith, length-append (writes_declare interest) rest, declare_long interest, h))

-- ---- all messages

-- what a router tells its clients
by_neither : (role : Role) (m : Msg) → client_may_send m ≡ false → router_may_send m ≡ false → admits role m ≡ true → ⊥
by_neither Client m c r may = absurd (false≢true (sym c ∙ may))
by_neither Router m c r may = absurd (false≢true (sym r ∙ may))

pub may_be_sent : (role : Role) (m : Msg) → MayPass role m → IsOfTypes m → MayBeSent role m
may_be_sent role (Sub id key) h t = record { admitted = h.0; spelled = t; short = declares_long None (writes_keyed 0x02 id key) role (keyed_long 0x02 id key t.1) }
may_be_sent role (Unsub id) h t = record { admitted = h.0; spelled = t; short = declares_long None (writes_undeclared 0x03 id) role (let l = undeclared_long 0x03 id in omega (arith, l)) }
may_be_sent role (Token id key) h t = record { admitted = h.0; spelled = t; short = declares_long None (writes_keyed 0x06 id key) role (keyed_long 0x06 id key t.1) }
may_be_sent role (Untoken id) h t = record { admitted = h.0; spelled = t; short = declares_long None (writes_undeclared 0x07 id) role (let l = undeclared_long 0x07 id in omega (arith, l)) }
may_be_sent role (Able id key complete) h t = record { admitted = h.0; spelled = t; short = declares_long None (writes_queryable id key complete) role (queryable_long id key complete t.1) }
may_be_sent role (Unable id) h t = record { admitted = h.0; spelled = t; short = declares_long None (writes_undeclared 0x05 id) role (let l = undeclared_long 0x05 id in omega (arith, l)) }
may_be_sent role (Interest id current future kinds key aggregate) h t = record {
  admitted = h.0;
  spelled = (t.0, t.1, h.1.0, h.1.1);
  short = within role (length (writes_message (Interest id current future kinds key aggregate)))
      (let l = restriction_long key t.1 in omega (arith, l, length-append (writes id) (options_of kinds.0 (is_some key) aggregate ∷ writes_restriction key), written_long 8 id));
}
may_be_sent role (EndInterest id) h t = record { admitted = h.0; spelled = t; short = within role (length (writes_message (EndInterest id))) (let l = written_long 8 id in omega (arith, l)) }
may_be_sent role (Push tree content) h t = push_may role tree content h t
may_be_sent role (Request tree id target content) h t = request_may role tree id target content h t
may_be_sent role (Response id content) h t = response_may role id content h t
may_be_sent role (Final id extras) h t = final_may role id extras h t
may_be_sent role (State links) h t = record { admitted = h.0; spelled = (tt, t); short = let l = state_long links t.0 t.1 t.2 in within role (length (writes_message (State links))) (omega (arith, l)) }
may_be_sent role (Step source number added d) h t = record {
  admitted = h.0;
  spelled = (h.1, t);
  short = let l = step_long source number added d t.0 t.1 in within role (length (writes_message (Step source number added d))) (omega (arith, l));
}
may_be_sent role (Snap source number decls) h t = record {
  admitted = h.0;
  spelled = (writable_spelled (Snap source number decls) (inr h.1) t.0, t);
  short = let l = snap_short source number decls t.0 h.1.2 in within role (length (writes_message (Snap source number decls))) (omega (arith, l));
}
may_be_sent role (ToldSub id key interest) h t = absurd (by_neither role (ToldSub id key interest) refl refl h.0)
may_be_sent role (ToldToken id key interest) h t = absurd (by_neither role (ToldToken id key interest) refl refl h.0)
may_be_sent role (ToldAble id key complete interest) h t = absurd (by_neither role (ToldAble id key complete interest) refl refl h.0)
may_be_sent role (ToldUnsub id) h t = absurd (by_neither role (ToldUnsub id) refl refl h.0)
may_be_sent role (ToldUntoken id) h t = absurd (by_neither role (ToldUntoken id) refl refl h.0)
may_be_sent role (ToldUnable id) h t = absurd (by_neither role (ToldUnable id) refl refl h.0)
may_be_sent role (ToldEnd interest) h t = absurd (by_neither role (ToldEnd interest) refl refl h.0)
