-- What is written of messages is read back where some go under numbers: a session that knows the numbers that were given before takes the bytes, and knows those
-- that they declare.
use Rattle.std.proofs.Common.{◌≡◌, ◌∙◌, ap, refl, sym, subst, ℕ, suc, ◌+◌, ◌==◌, ◌<◌, ◌≤◌, inl, inr, Bool, true, false, cond, not, List, [], ◌∷◌, ◌++◌, length, length-append, append_assoc, append-nil, map, Option, Some, None, Ok, arith, ◌%◌, ◌/◌, ◌^◌}
use Rattle.std.specs.Prelude.{nat_le, nat_lt, bit_and, if◌then◌else◌}
use Rattle.std.specs.List.{AllByRecursion}
use Rattle.std.specs.Option.{option_or}
use Rattle.std.proofs.lemmas.Bool.{cases_lt, le-ltb, lt-ltb}
use Rattle.std.proofs.lemmas.Bool.Decides.{nat_tests}
use Rattle.std.proofs.lemmas.List.Sums.{sum_by_push}
use Rattle.zr_lists.proofs.Each.{All-append}
use Rattle.zr_bytes.specs.Flag.{has_id}
use Rattle.zr_bytes.specs.Number.{writes, writes_within}
use Rattle.zr_bytes.specs.Text.{writes_text}
use Rattle.zr_bytes.proofs.Numbers.{written_long}
use Rattle.zr_format_spec.specs.Writing.{writes_header}
use Rattle.zr_ext.specs.Writing.{writes_chain}
use Rattle.zr_wirekey.specs.Names.{NameList, is_text, number_of, has_room, numbered}
use Rattle.zr_wirekey.specs.Scopes.{Texts, text_at, declared, bytes_of}
use Rattle.zr_wirekey.specs.Writing.{writes_key, writes_name}
use Rattle.zr_wirekey.proofs.Alike.{is_itself}
use Rattle.zr_wirekey.proofs.Numbers.{number_after}
use Rattle.zr_wirekey.proofs.Giving.{room_left}
use Rattle.zr_msg.specs.declared.msg.Msg.{Msg}
use Rattle.zr_msg.specs.declared.msg.Msg.TheVariants.{Sub, Unsub, Token, Untoken, Able, Unable, Interest, EndInterest, ToldSub, ToldAble, ToldUnsub, ToldToken, ToldUntoken, ToldUnable, ToldEnd, Push, Request, Response, Final, State, Step, Snap}
use Rattle.zr_msg.specs.declared.peer.Role.{Role}
use Rattle.zr_msg.specs.declared.peer.Role.TheVariants.{Client, Router}
use Rattle.zr_msg.specs.declared.msg.Target.TheVariants.{Best}
use Rattle.zr_decl.specs.declared.declared.Declared.{Declared}
use Rattle.zr_decl.specs.declared.declared.Declared.TheVariants.{Told, Number}
use Rattle.zr_net.specs.Reading.{net_of}
use Rattle.zr_net.specs.Writing as net
use Rattle.zr_wire.specs.Roles.{admits}
use Rattle.zr_wire.specs.Writing.{writes_message, writes_numbered, text_of}
use Rattle.zr_wire.specs.Limits.{most_of}
use Rattle.zr_frame_pack.specs.Packing.{Written, with_number, written_by, written_one, written}
use Rattle.zr_open.specs.declared.error.Reason.TheVariants.{Generic}
use Rattle.zr_session.specs.declared.carried.Carried.{Carried}
use Rattle.zr_session.specs.declared.carried.Carried.TheVariants.{Network}
use Rattle.zr_session.specs.declared.event.SessionEvent.{SessionEvent}
use Rattle.zr_session.specs.declared.event.SessionEvent.TheVariants.{Message}
use Rattle.zr_session.specs.declared.phase.Established as session
use Rattle.zr_session.specs.declared.phase.Phase.TheVariants.{Established}
use Rattle.zr_session.specs.Carried.{begins_network, network_of, carried_of}
use Rattle.zr_session.specs.Course.{Course, going}
use Rattle.zr_session.specs.Step as step
use Rattle.zr_session.specs.Step.{on_carried, with_keys}
use Rattle.zr_wire.specs.Sending.{MayBeSent}
use Rattle.zr_session.specs.Sending.{AreNames, heard}
use Rattle.zr_session.proofs.Heard.{AreRead, IsHeard, message_heard}

-- the session goes on, knows these texts then, and these events were given
abbrev pub taken : session.Established → Texts → List SessionEvent → Course
taken s keys events = record { phase = Established (with_keys s keys); events = events; bytes = []; ends = None }

-- The bytes are read back, whatever follows them, by a session that knows the first texts.
pub record IsTaken (role : Role) (keys next : Texts) (bytes : List ℕ) (events : List SessionEvent) : Type 0 where
  pub some : 0 < length bytes
  pub carried : Carried
  pub begins : (rest : List ℕ) → begins_network (bytes ++ rest) ≡ true
  pub reads : (rest : List ℕ) → carried_of role keys (bytes ++ rest) ≡ Ok (carried, rest)
  pub given : (s : session.Established) → s.role ≡ role → s.keys ≡ keys → on_carried s carried ≡ taken s next events

-- one behind another
abbrev pub AreTaken : Role → Texts → List (List ℕ) → Texts → List SessionEvent → Type 0
AreTaken role keys [] next events = (next ≡ keys) × (events ≡ [])
AreTaken role keys (bytes ∷ items) next events =
    (known : Texts) × (here : List SessionEvent) × (later : List SessionEvent) × (events ≡ here ++ later) × IsTaken role keys known bytes here × AreTaken role known items next later

pub taken_append : (role : Role) (xs ys : List (List ℕ)) (a b c : Texts) (es fs : List SessionEvent) → AreTaken role a xs b es → AreTaken role b ys c fs →
    AreTaken role a (xs ++ ys) c (es ++ fs)
taken_append role [] ys a b c es fs h k =
    subst (λ (z : List SessionEvent). AreTaken role a ys c (z ++ fs)) (sym h.1) (subst (λ (z : Texts). AreTaken role z ys c fs) h.0 k)
taken_append role (x ∷ xs) ys a b c es fs h k =
    (h.0, h.1, h.2 ++ fs, ap (λ z. z ++ fs) h.3 ∙ append_assoc h.1 h.2 fs, h.4, taken_append role xs ys h.0 b c h.2 fs h.5 k)

-- two parts of a list, and what each gives
pub record TwoParts (role : Role) (keys : Texts) (xs ys : List (List ℕ)) (next : Texts) (events : List SessionEvent) : Type 0 where
  pub known : Texts
  pub here : List SessionEvent
  pub later : List SessionEvent
  pub all : events ≡ here ++ later
  pub first : AreTaken role keys xs known here
  pub second : AreTaken role known ys next later

pub two_parts : (role : Role) (xs ys : List (List ℕ)) (a c : Texts) (events : List SessionEvent) → AreTaken role a (xs ++ ys) c events → TwoParts role a xs ys c events
two_parts role [] ys a c events h = record { known = a; here = []; later = events; all = refl; first = (refl, refl); second = h }
two_parts role (x ∷ xs) ys a c events h =
    let rest = two_parts role xs ys h.0 c h.2 h.5 in
    record {
      known = rest.known;
      here = h.1 ++ rest.here;
      later = rest.later;
      all = h.3 ∙ ap (λ z. h.1 ++ z) rest.all ∙ sym (append_assoc h.1 rest.here rest.later);
      first = (h.0, h.1, rest.here, refl, h.4, rest.first);
      second = rest.second;
    }

one_taken : (role : Role) (keys next : Texts) (bytes : List ℕ) (events : List SessionEvent) → IsTaken role keys next bytes events → AreTaken role keys (bytes ∷ []) next events
one_taken role keys next bytes events h = (next, events, [], sym (append-nil events), h, (refl, refl))

-- ---- a message that goes whole

same_keys : (s : session.Established) (keys : Texts) (m : Msg) → s.keys ≡ keys →
    record { phase = Established s; events = Message m ∷ []; bytes = []; ends = None } ≡ taken s keys (Message m ∷ [])
same_keys s keys m e = ap (λ (z : Texts). taken s z (Message m ∷ [])) e

whole_taken : (role : Role) (keys : Texts) (m : Msg) (bytes : List ℕ) → IsHeard role m bytes → AreTaken role keys (bytes ∷ []) keys (Message m ∷ [])
whole_taken role keys m bytes h =
    one_taken role keys keys bytes (Message m ∷ [])
    (record { some = h.some; carried = h.carried; begins = h.begins; reads = h.reads keys; given = λ s e k. h.given s e ∙ same_keys s keys m k })

-- ---- a message that goes under a number

network_at : (role : Role) (keys : Texts) (h : ℕ) (bytes rest : List ℕ) (d : Declared) → has_id h 0x1F ≡ false → net_of role keys [] (h ∷ (bytes ++ rest)) ≡ Ok (d, rest) →
    carried_of role keys (h ∷ (bytes ++ rest)) ≡ Ok (Network d, rest)
unfolding carried_of network_of
network_at role keys h bytes rest d other reads = rw other (rw reads refl)

told_at : (role : Role) (keys : Texts) (m : Msg) (h : ℕ) (bytes : List ℕ) → nat_le 0x19 (bit_and h 0x1F) ≡ true → has_id h 0x1F ≡ false → admits role m ≡ true →
    ((rest : List ℕ) → net_of role keys [] (h ∷ (bytes ++ rest)) ≡ Ok (Told m, rest)) → IsTaken role keys keys (h ∷ bytes) (Message m ∷ [])
told_at role keys m h bytes network other may reads = record {
  some = omega arith;
  carried = Network (Told m);
  begins = λ rest. network;
  reads = λ rest. network_at role keys h bytes rest (Told m) other (reads rest);
  given = λ s e k. ap (λ b. step.given b s m) (ap (λ r. admits r m) e ∙ may) ∙ same_keys s keys m k;
}

-- a number has a byte at least, and one of a name two at most
some_bytes : (n : ℕ) → 0 < length (writes n)
unfolding writes_within
some_bytes n = by (nat_lt n 128)
  where
    by : (b : Bool) → 0 < length (if b then n ∷ [] else (n % 128 + 128) ∷ writes_within 7 (n / 128))
    by true = omega arith
    by false = omega arith

two_bytes : (n : ℕ) → n ≤ 4096 → length (writes n) ≤ 2
unfolding writes_within
two_bytes n few =
    elim (cases_lt n 128) [
      | inl lt ↦ rw (lt-ltb n 128 lt) (omega arith)
      | inr le ↦ let low : n / 128 < 128 = omega (arith, few) in rw (le-ltb n 128 le, lt-ltb (n / 128) 128 low) (omega arith)
    ]

not_zero : (n : ℕ) → 0 < n → (n == 0) ≡ false
not_zero n h = grind (arith, nat_tests, h)

shorter_key : (key : List ℕ) (n : ℕ) → 0 < n → n ≤ 4096 → length (writes_key key n) ≤ length (writes_key key 0)
shorter_key key n some few =
    let bare : length (writes_key key n) ≡ length (writes n) =
    ap (λ b. length (writes n ++ (if b then writes_text key else []))) (not_zero n some) ∙ ap length (append-nil (writes n)) in
    let whole : length (writes_key key 0) ≡ length (writes 0) + (length (writes (length key)) + length key) =
    length-append (writes 0) (writes_text key) ∙ ap (λ k. length (writes 0) + k) (length-append (writes (length key)) key) in
    omega (arith, bare, whole, two_bytes n few, some_bytes 0, some_bytes (length key))

behind : (front a b : List ℕ) → length a ≤ length b → length (front ++ a) ≤ length (front ++ b)
behind front a b h = omega (arith, length-append front a, length-append front b)

before_tail : (a b tail : List ℕ) → length a ≤ length b → length (a ++ tail) ≤ length (b ++ tail)
before_tail a b tail h = omega (arith, length-append a tail, length-append b tail)

-- what is known of a message with a key
record IsNumbered (role : Role) (m : Msg) (text : List ℕ) : Type 0 where
  long : length text ≤ 2048
  under : (keys : Texts) (n : ℕ) → 0 < n → n ≤ 4096 → text_at keys n ≡ Some text → IsTaken role keys keys (writes_numbered m n) (Message m ∷ [])
  short : (n : ℕ) → 0 < n → n ≤ 4096 → length (writes_numbered m n) ≤ length (writes_message m)

push_numbered : AreRead → (role : Role) (tree : Option (List ℕ)) (content : _) → MayBeSent role (Push tree content) → IsNumbered role (Push tree content) content.key
push_numbered law role tree content h = record {
  long = h.spelled.3.0.0;
  under = λ keys n some few at.
      told_at role keys (Push tree content) _ _ (network (n == 0) (net.has_any _)) (other (n == 0) (net.has_any _)) h.admitted
      (λ rest. (law.net role keys [] n).again (Push tree content) rest
      (h.spelled.0, h.spelled.1, h.spelled.2, (h.spelled.3.0, inr (some, omega (arith, few), at)), h.spelled.4) tt);
  short = λ n some few.
      let tail : List ℕ = writes_chain (net.kept_exts content.extras Best tree) ++ content.body in
      let h : length (writes_key content.key n ++ tail) ≤ length (writes_key content.key 0 ++ tail) = before_tail (writes_key content.key n) (writes_key content.key 0) tail (shorter_key content.key n some few) in
      omega (arith, h);
}
  where
    network : (z any : Bool) → nat_le 0x19 (bit_and (writes_header 0x1D z (not z) any) 0x1F) ≡ true
    network true true = refl
    network true false = refl
    network false true = refl
    network false false = refl

    other : (z any : Bool) → has_id (writes_header 0x1D z (not z) any) 0x1F ≡ false
    other true true = refl
    other true false = refl
    other false true = refl
    other false false = refl

request_numbered : AreRead → (role : Role) (tree : Option (List ℕ)) (id : ℕ) (target : _) (content : _) → MayBeSent role (Request tree id target content) →
    IsNumbered role (Request tree id target content) content.key
request_numbered law role tree id target content h = record {
  long = h.spelled.3.0.0;
  under = λ keys n some few at.
      told_at role keys (Request tree id target content) _ _ (network (n == 0) (net.has_any _)) (other (n == 0) (net.has_any _)) h.admitted
      (λ rest. (law.net role keys [] n).again (Request tree id target content) rest
      (h.spelled.0, h.spelled.1, h.spelled.2, (h.spelled.3.0, inr (some, omega (arith, few), at)), h.spelled.4, h.spelled.5) tt);
  short = λ n some few.
      let tail : List ℕ = writes_chain (net.kept_exts content.extras target tree) ++ content.body in
      let h : length (writes id ++ (writes_key content.key n ++ tail)) ≤ length (writes id ++ (writes_key content.key 0 ++ tail)) =
      behind (writes id) (writes_key content.key n ++ tail) (writes_key content.key 0 ++ tail) (before_tail (writes_key content.key n) (writes_key content.key 0) tail (shorter_key content.key n some few)) in
      omega (arith, h);
}
  where
    network : (z any : Bool) → nat_le 0x19 (bit_and (writes_header 0x1C z (not z) any) 0x1F) ≡ true
    network true true = refl
    network true false = refl
    network false true = refl
    network false false = refl

    other : (z any : Bool) → has_id (writes_header 0x1C z (not z) any) 0x1F ≡ false
    other true true = refl
    other true false = refl
    other false true = refl
    other false false = refl

response_numbered : AreRead → (role : Role) (id : ℕ) (content : _) → MayBeSent role (Response id content) → IsNumbered role (Response id content) content.key
response_numbered law role id content h = record {
  long = h.spelled.2.0.0;
  under = λ keys n some few at.
      told_at role keys (Response id content) _ _ (network (n == 0) (net.has_any _)) (other (n == 0) (net.has_any _)) h.admitted
      (λ rest. (law.net role keys [] n).again (Response id content) rest
      (h.spelled.0, h.spelled.1, (h.spelled.2.0, inr (some, omega (arith, few), at)), h.spelled.3, h.spelled.4) tt);
  short = λ n some few.
      let tail : List ℕ = writes_chain (net.kept_exts content.extras Best None) ++ content.body in
      let h : length (writes id ++ (writes_key content.key n ++ tail)) ≤ length (writes id ++ (writes_key content.key 0 ++ tail)) =
      behind (writes id) (writes_key content.key n ++ tail) (writes_key content.key 0 ++ tail) (before_tail (writes_key content.key n) (writes_key content.key 0) tail (shorter_key content.key n some few)) in
      omega (arith, h);
}
  where
    network : (z any : Bool) → nat_le 0x19 (bit_and (writes_header 0x1B z (not z) any) 0x1F) ≡ true
    network true true = refl
    network true false = refl
    network false true = refl
    network false false = refl

    other : (z any : Bool) → has_id (writes_header 0x1B z (not z) any) 0x1F ≡ false
    other true true = refl
    other true false = refl
    other false true = refl
    other false false = refl

is_numbered : AreRead → (role : Role) (m : Msg) → MayBeSent role m → (text : List ℕ) → text_of m ≡ Some text → IsNumbered role m text
is_numbered law role (Push tree content) h text e =
    let same : content.key ≡ text = cc in
    subst (λ (z : List ℕ). IsNumbered role (Push tree content) z) same (push_numbered law role tree content h)
is_numbered law role (Request tree id target content) h text e =
    let same : content.key ≡ text = cc in
    subst (λ (z : List ℕ). IsNumbered role (Request tree id target content) z) same (request_numbered law role tree id target content h)
is_numbered law role (Response id content) h text e =
    let same : content.key ≡ text = cc in
    subst (λ (z : List ℕ). IsNumbered role (Response id content) z) same (response_numbered law role id content h)
is_numbered law role (Sub id key) h text e = absurd cc
is_numbered law role (Unsub id) h text e = absurd cc
is_numbered law role (Token id key) h text e = absurd cc
is_numbered law role (Untoken id) h text e = absurd cc
is_numbered law role (Able id key complete) h text e = absurd cc
is_numbered law role (Unable id) h text e = absurd cc
is_numbered law role (Interest id current future kinds key aggregate) h text e = absurd cc
is_numbered law role (EndInterest id) h text e = absurd cc
is_numbered law role (ToldSub id key interest) h text e = absurd cc
is_numbered law role (ToldToken id key interest) h text e = absurd cc
is_numbered law role (ToldAble id key complete interest) h text e = absurd cc
is_numbered law role (ToldUnsub id) h text e = absurd cc
is_numbered law role (ToldUntoken id) h text e = absurd cc
is_numbered law role (ToldUnable id) h text e = absurd cc
is_numbered law role (ToldEnd interest) h text e = absurd cc
is_numbered law role (Final id extras) h text e = absurd cc
is_numbered law role (State links) h text e = absurd cc
is_numbered law role (Step source number added decl) h text e = absurd cc
is_numbered law role (Snap source number decls) h text e = absurd cc

-- ---- the declaration of a number

pub more_names : (names : NameList) (text : List ℕ) → has_room names text ≡ true → AreNames (Some (names ++ text ∷ []))
more_names names text e =
    let left = room_left names text e in
    (omega (arith, left.0, length-append names (text ∷ [])), omega (arith, left.1, sum_by_push (λ t. length t) names text))

name_taken : AreRead → (role : Role) (names : NameList) (text : List ℕ) → length text ≤ 2048 → has_room names text ≡ true →
    IsTaken role (numbered names) (numbered (names ++ text ∷ [])) (writes_name (suc (length names)) text) []
name_taken law role names text long room =
    let left = room_left names text room in
    let few : length names < 4096 = left.0 in
    let number : ℕ = suc (length names) in
    let is_name : (0 < number) × (number < 2 ^ 16) × (length text ≤ 2048) = (omega arith, omega (arith, few), long) in
    let within : nat_lt 1048576 (bytes_of (numbered (names ++ text ∷ []))) ≡ false =
    le-ltb 1048576 (bytes_of (numbered (names ++ text ∷ []))) (omega (arith, law.known.bytes (names ++ text ∷ []), (more_names names text room).1)) in
    record {
      some = omega arith;
      carried = Network (Number number text);
      begins = λ rest. refl;
      reads = λ rest. network_at role (numbered names) 0x1E (0x20 ∷ (writes number ++ (writes 0 ++ writes_text text))) rest (Number number text) refl ((law.names role (numbered names) []).again (number, text) rest is_name tt);
      given = λ s e k.
          ap (λ (z : Texts). step.numbered s (declared z number text)) k
          ∙ ap (λ (z : Texts). step.numbered s z) (law.known.next names text)
          ∙ ap (λ b. if b then step.closed Generic s else going (Established (with_keys s (numbered (names ++ text ∷ []))))) within;
    }

-- ---- any message

number_new : (names : NameList) (text : List ℕ) → number_of names text ≡ None → number_of (names ++ text ∷ []) text ≡ Some (suc (length names))
number_new names text none =
    let next : 1 + length names ≡ suc (length names) = omega arith in
    number_after 1 names text text
    ∙ ap (λ o. option_or o (cond (is_text text text) (Some (1 + length names)) None)) none
    ∙ ap (λ b. option_or None (cond b (Some (1 + length names)) None)) (is_itself text text refl)
    ∙ ap (λ n. Some n) next

-- what is written of a message: each item is taken, is no longer than a message may be, and the names stay few
pub record IsItems (role : Role) (keys next : Texts) (w : Written) (events : List SessionEvent) : Type 0 where
  pub are : AreTaken role keys w.messages next events
  pub short : AllByRecursion (λ bytes. length bytes ≤ most_of role) w.messages
  pub names : AreNames w.names

most_is : (role : Role) → 8388608 ≤ most_of role
most_is Client = omega arith
most_is Router = omega arith

name_short : (role : Role) (number : ℕ) (text : List ℕ) → length text ≤ 2048 → length (writes_name number text) ≤ most_of role
name_short role number text long =
    let a = length-append (writes number) (writes 0 ++ writes_text text) in
    let b = length-append (writes 0) (writes_text text) in
    let c = length-append (writes (length text)) text in
    omega (arith, a, b, c, long, written_long 8 number, written_long 8 0, written_long 8 (length text), most_is role)

whole_items : AreRead → (role : Role) (keys : Texts) (names : Option NameList) (m : Msg) → MayBeSent role m → AreNames names →
    IsItems role keys keys (record { messages = writes_message m ∷ []; names = names }) (Message m ∷ [])
whole_items law role keys names m h few = record { are = whole_taken role keys m (writes_message m) (message_heard law role m h); short = (h.short, tt); names = few }

number_items : AreRead → (role : Role) (keys : Texts) (names : NameList) (text : List ℕ) (m : Msg) → MayBeSent role m → AreNames (Some names) → text_of m ≡ Some text →
    (number : Option ℕ) (room : Bool) → number_of names text ≡ number → has_room names text ≡ room →
    IsItems role (numbered names) (heard (with_number number room names text m).names keys) (with_number number room names text m) (Message m ∷ [])
number_items law role keys names text m h few is (Some n) room found has =
    let at = law.known.number names text n found in
    let low : n ≤ 4096 = omega (arith, at.1, few.0) in
    let it = is_numbered law role m h text is in
    let short : length (writes_numbered m n) ≤ most_of role = omega (arith, it.short n at.0 low, h.short) in
    record {
      are = one_taken role (numbered names) (numbered names) (writes_numbered m n) (Message m ∷ []) (it.under (numbered names) n at.0 low at.2);
      short = (short, tt);
      names = few;
    }
number_items law role keys names text m h few is None true found has =
    let number : ℕ = suc (length names) in
    let low : number ≤ 4096 = omega (arith, (room_left names text has).0) in
    let all : NameList = names ++ text ∷ [] in
    let at = law.known.number all text number (number_new names text found) in
    let it = is_numbered law role m h text is in
    let short : length (writes_numbered m number) ≤ most_of role = omega (arith, it.short number at.0 low, h.short) in
    record {
      are = (
        numbered all,
        [],
        Message m ∷ [],
        refl,
        name_taken law role names text it.long has,
        one_taken role (numbered all) (numbered all) (writes_numbered m number) (Message m ∷ []) (it.under (numbered all) number at.0 low at.2),
      );
      short = (name_short role number text it.long, (short, tt));
      names = more_names names text has;
    }
number_items law role keys names text m h few is None false found has = whole_items law role (numbered names) (Some names) m h few

text_items : AreRead → (role : Role) (keys : Texts) (names : NameList) (m : Msg) → MayBeSent role m → AreNames (Some names) → (text : Option (List ℕ)) → text_of m ≡ text →
    IsItems role (numbered names) (heard (written_by text names m).names keys) (written_by text names m) (Message m ∷ [])
text_items law role keys names m h few None is = whole_items law role (numbered names) (Some names) m h few
text_items law role keys names m h few (Some text) is = number_items law role keys names text m h few is (number_of names text) (has_room names text) refl refl

message_items : AreRead → (role : Role) (keys : Texts) (names : Option NameList) (m : Msg) → MayBeSent role m → AreNames names →
    IsItems role (heard names keys) (heard (written_one names m).names keys) (written_one names m) (Message m ∷ [])
message_items law role keys None m h few = whole_items law role keys None m h few
message_items law role keys (Some names) m h few = text_items law role keys names m h few (text_of m) refl

-- ---- several

pub items_append : (role : Role) (a b c : Texts) (w v : Written) (es fs : List SessionEvent) → IsItems role a b w es → IsItems role b c v fs →
    IsItems role a c (record { messages = w.messages ++ v.messages; names = v.names }) (es ++ fs)
items_append role a b c w v es fs h k = record {
  are = taken_append role w.messages v.messages a b c es fs h.are k.are;
  short = All-append (λ b. length b ≤ most_of role) w.messages v.messages h.short k.short;
  names = k.names;
}

-- MESSAGES that a peer may send, by an outbox with these names
pub messages_items : AreRead → (role : Role) (keys : Texts) (messages : List Msg) (names : Option NameList) → AllByRecursion (λ m. MayBeSent role m) messages → AreNames names →
    IsItems role (heard names keys) (heard (written names messages).names keys) (written names messages) (map (λ m. Message m) messages)
messages_items law role keys [] names h few = record { are = (refl, refl); short = tt; names = few }
messages_items law role keys (m ∷ messages) names h few =
    let one = message_items law role keys names m h.0 few in
    let next : Option NameList = (written_one names m).names in
    items_append role (heard names keys) (heard next keys) (heard (written next messages).names keys) (written_one names m) (written next messages)
    (Message m ∷ []) (map (λ m. Message m) messages) one (messages_items law role keys messages next h.1 one.names)
