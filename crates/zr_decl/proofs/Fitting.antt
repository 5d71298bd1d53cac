-- Each message that has a spelling can be written: what the parts of a spelling tell of what was read.
use Rattle.std.proofs.Common.{◌≡◌, ℕ, ◌<◌, ◌%◌, ◌^◌, Bool, true, false, ◌||◌, List, ◌++◌, Option, Result, Ok, Err, refl, sym, ap, subst, arith}
use Rattle.zr_bytes.specs.Flag.{has_id, has_flag}
use Rattle.zr_bytes.proofs.Steps.{ok_is, bind_ok}
use Rattle.zr_format_spec.specs.Format.{gives, choose, unknown, optional, below}
use Rattle.zr_format_spec.specs.Laws.{HasSpelling}
use Rattle.zr_format_spec.proofs.Spelled.{spelled_allows, chosen_holds}
use Rattle.zr_key.specs.declared.key.KeyError.{KeyError}
use Rattle.zr_key.specs.Key.{read_key}
use Rattle.zr_key.proofs.Reading.{Sound-from_read, read_again}
use Rattle.zr_wirekey.specs.Scopes.{Texts}
use Rattle.zr_wirekey.specs.Spelling.{or_bad_key}
use Rattle.zr_msg.specs.declared.msg.Msg.{Msg}
use Rattle.zr_msg.specs.declared.msg.Msg.TheVariants.{Sub, Unsub, Token, Untoken, Able, Unable, Interest, EndInterest, ToldSub, ToldAble, ToldUnsub, ToldToken, ToldUntoken, ToldUnable, ToldEnd, Push, Request, Response, Final, State, Step, Snap}
use Rattle.zr_decl.specs.declared.declared.Declared.{Declared}
use Rattle.zr_decl.specs.declared.declared.Declared.TheVariants.{Told, Number, Unnumber, Ignored}
use Rattle.zr_decl.specs.Declare.{wire_key, keyexpr, undeclared_keyexpr, subscriber, queryable, token, undeclared, unsubscriber, unqueryable, untoken, final, declaration, declare, declare_format, wanted, ended, interest, interest_format}
use Rattle.zr_decl.specs.Reading.{message_of, declared_of, interest_of}
use Rattle.zr_decl.specs.Writing.{tells, Fits, IsId, IsSomeId, IsKey, IsSomeKey, IsDeclaration, Declares, Asks, ToldFits}
use Rattle.zr_decl.proofs.Messages.{follows_message, follows_interest}

declaration_fits : (theirs ours : Texts) (h : ℕ) (d : Declared) (bytes : List ℕ) → (declaration theirs ours h).spelled d bytes → ToldFits d
declaration_fits theirs ours h =
    chosen_holds ToldFits (has_id h 0x00) (keyexpr theirs h) _ (λ d bytes s. subst ToldFits (sym s.5.5.5.0) tt)
    (chosen_holds ToldFits (has_id h 0x01) (undeclared_keyexpr h) _ (λ d bytes s. subst ToldFits (sym s.5.5.0) tt)
    (chosen_holds ToldFits (has_id h 0x02) (subscriber theirs ours h) _ (λ d bytes s. subst ToldFits (sym s.5.5.5.0) tt)
    (chosen_holds ToldFits (has_id h 0x03) (unsubscriber h) _ (λ d bytes s. subst ToldFits (sym s.5.0) tt)
    (chosen_holds ToldFits (has_id h 0x04) (queryable theirs ours h) _ (λ d bytes s. subst ToldFits (sym s.5.5.5.0) tt)
    (chosen_holds ToldFits (has_id h 0x05) (unqueryable h) _ (λ d bytes s. subst ToldFits (sym s.5.0) tt)
    (chosen_holds ToldFits (has_id h 0x06) (token theirs ours h) _ (λ d bytes s. subst ToldFits (sym s.5.5.5.0) tt)
    (chosen_holds ToldFits (has_id h 0x07) (untoken h) _ (λ d bytes s. subst ToldFits (sym s.5.0) tt)
    (chosen_holds ToldFits (has_id h 0x1A) (final h) unknown (λ d bytes s. subst ToldFits (sym s.5.0) tt) (λ d bytes s. absurd s)))))))))

pub declare_fits : (theirs ours : Texts) (h : ℕ) (x : Declared × Option ℕ) (bytes : List ℕ) → (declare theirs ours h).spelled x bytes → ToldFits x.0
declare_fits theirs ours h x bytes s =
    let inner = s.5.5.5 in
    subst (λ (y : Declared × Option ℕ). ToldFits y.0) (sym inner.5.0) (declaration_fits theirs ours s.5.5.0 inner.0 inner.1 inner.4)

pub interest_fits : (theirs ours : Texts) (h : ℕ) (m : Msg) (bytes : List ℕ) → (interest theirs ours h).spelled m bytes → Fits m
interest_fits theirs ours h m bytes s = by (has_flag h 0x20 || has_flag h 0x40) refl s.5
  where
    by : (b : Bool) → (has_flag h 0x20 || has_flag h 0x40) ≡ b → (choose b (wanted theirs ours h s.0) (ended h s.0)).spelled m s.2 → Fits m
    by true asked w =
        let few : w.0 % 16 < 16 = omega arith in
        subst Fits (sym w.5.5.5.0) (few, asked)
    by false none e = subst Fits (sym e.5.0) tt

pub message_fits : (theirs ours : Texts) (x : Declared × Option ℕ) (bytes : List ℕ) → (declare_format theirs ours).spelled x bytes → ToldFits x.0
message_fits theirs ours x bytes s =
    chosen_holds (λ (y : Declared × Option ℕ). ToldFits y.0) (has_id s.0 0x1E) (declare theirs ours s.0) unknown (declare_fits theirs ours s.0) (λ y b u. absurd u) x s.2 s.5

pub asked_fits : (theirs ours : Texts) (m : Msg) (bytes : List ℕ) → (interest_format theirs ours).spelled m bytes → Fits m
asked_fits theirs ours m bytes s =
    chosen_holds Fits (has_id s.0 0x19) (interest theirs ours s.0) unknown (interest_fits theirs ours s.0) (λ y b u. absurd u) m s.2 s.5

-- ---- keys and ids

-- a key that is read has a canonical text
pub key_is : (text key : List ℕ) → read_key text ≡ Ok key → IsKey key
key_is text key e = let sound = (Sound-from_read text key e).key in (sound.short, read_again key sound)

no_key : (e : KeyError) (key : List ℕ) → or_bad_key (Err e) ≡ Ok key → ⊥
no_key e key h = cc

judged_key : (r : Result (List ℕ) KeyError) (key : List ℕ) → or_bad_key r ≡ Ok key → r ≡ Ok key
judged_key (Ok k) key h = ap (λ (k : List ℕ). Ok k) (ok_is k key h)
judged_key (Err e) key h = absurd (no_key e key h)

pub wire_key_is : (theirs ours : Texts) (h : ℕ) (key bytes : List ℕ) → (wire_key theirs ours h).spelled key bytes → IsKey key
wire_key_is theirs ours h key bytes s =
    let text : List ℕ = s.0.0 ++ s.0.1 in
    let judged = spelled_allows (or_bad_key (read_key text)) (λ k. gives k) key s.2 s.5 in
    subst IsKey (sym judged.2.0) (key_is text judged.0 (judged_key (read_key text) judged.0 judged.1))

some_id : (b : Bool) (i : Option ℕ) (bytes : List ℕ) → (optional b (below (2 ^ 32))).spelled i bytes → IsSomeId i
some_id true i bytes s = subst IsSomeId (sym s.5.0) s.4.0
some_id false i bytes s = subst IsSomeId (sym s.0) tt

some_key : (theirs ours : Texts) (h : ℕ) (b : Bool) (key : Option (List ℕ)) (bytes : List ℕ) → (optional b (wire_key theirs ours h)).spelled key bytes → IsSomeKey key
some_key theirs ours h true key bytes s = subst IsSomeKey (sym s.5.0) (wire_key_is theirs ours h s.0 s.1 s.4)
some_key theirs ours h false key bytes s = subst IsSomeKey (sym s.0) tt

-- ---- what has a spelling can be written

abbrev DeclaredHolds : Declared → Type 0
DeclaredHolds (Told m) = Declares m
DeclaredHolds (Number n text) = Unit {0}
DeclaredHolds (Unnumber n) = Unit {0}
DeclaredHolds Ignored = Unit {0}

undeclared_id : (h id : ℕ) (bytes : List ℕ) → (undeclared h).spelled id bytes → IsId id
undeclared_id h id bytes s = subst IsId (sym s.5.5.0) s.4.0

declaration_holds : (theirs ours : Texts) (h : ℕ) (d : Declared) (bytes : List ℕ) → (declaration theirs ours h).spelled d bytes → DeclaredHolds d
declaration_holds theirs ours h =
    chosen_holds DeclaredHolds (has_id h 0x00) (keyexpr theirs h) _ (λ d bytes s. subst DeclaredHolds (sym s.5.5.5.0) tt)
    (chosen_holds DeclaredHolds (has_id h 0x01) (undeclared_keyexpr h) _ (λ d bytes s. subst DeclaredHolds (sym s.5.5.0) tt)
    (chosen_holds DeclaredHolds (has_id h 0x02) (subscriber theirs ours h) _ (λ d bytes s. subst DeclaredHolds (sym s.5.5.5.0) (s.4.0, wire_key_is theirs ours h s.5.0 s.5.1 s.5.4))
    (chosen_holds DeclaredHolds (has_id h 0x03) (unsubscriber h) _ (λ d bytes s. subst DeclaredHolds (sym s.5.0) (undeclared_id h s.0 s.1 s.4))
    (chosen_holds DeclaredHolds (has_id h 0x04) (queryable theirs ours h) _ (λ d bytes s. subst DeclaredHolds (sym s.5.5.5.0) (s.4.0, wire_key_is theirs ours h s.5.0 s.5.1 s.5.4))
    (chosen_holds DeclaredHolds (has_id h 0x05) (unqueryable h) _ (λ d bytes s. subst DeclaredHolds (sym s.5.0) (undeclared_id h s.0 s.1 s.4))
    (chosen_holds DeclaredHolds (has_id h 0x06) (token theirs ours h) _ (λ d bytes s. subst DeclaredHolds (sym s.5.5.5.0) (s.4.0, wire_key_is theirs ours h s.5.0 s.5.1 s.5.4))
    (chosen_holds DeclaredHolds (has_id h 0x07) (untoken h) _ (λ d bytes s. subst DeclaredHolds (sym s.5.0) (undeclared_id h s.0 s.1 s.4))
    (chosen_holds DeclaredHolds (has_id h 0x1A) (final h) unknown (λ d bytes s. subst DeclaredHolds (sym s.5.0) tt) (λ d bytes s. absurd s)))))))))

abbrev AnswerHolds : Declared × Option ℕ → Type 0
AnswerHolds x = DeclaredHolds x.0 × IsSomeId x.1

answer_holds : (theirs ours : Texts) (x : Declared × Option ℕ) (bytes : List ℕ) → (declare_format theirs ours).spelled x bytes → AnswerHolds x
answer_holds theirs ours x bytes s = chosen_holds AnswerHolds (has_id s.0 0x1E) (declare theirs ours s.0) unknown (by s.0) (λ y b u. absurd u) x s.2 s.5
  where
    by : (h : ℕ) (x : Declared × Option ℕ) (bytes : List ℕ) → (declare theirs ours h).spelled x bytes → AnswerHolds x
    by h x bytes s =
        let inner = s.5.5.5 in
        subst AnswerHolds (sym inner.5.0) (declaration_holds theirs ours s.5.5.0 inner.0 inner.1 inner.4, some_id (has_flag h 0x20) s.0 s.1 s.4)

pub declaration_can_be_written : (theirs ours : Texts) (m : Msg) → HasSpelling (declare_format theirs ours) (tells m) → IsDeclaration m → Declares m
declaration_can_be_written theirs ours (Sub id key) s k = (answer_holds theirs ours _ s.0 s.1).0
declaration_can_be_written theirs ours (Unsub id) s k = (answer_holds theirs ours _ s.0 s.1).0
declaration_can_be_written theirs ours (Token id key) s k = (answer_holds theirs ours _ s.0 s.1).0
declaration_can_be_written theirs ours (Untoken id) s k = (answer_holds theirs ours _ s.0 s.1).0
declaration_can_be_written theirs ours (Able id key complete) s k = (answer_holds theirs ours _ s.0 s.1).0
declaration_can_be_written theirs ours (Unable id) s k = (answer_holds theirs ours _ s.0 s.1).0
declaration_can_be_written theirs ours (ToldSub id key interest) s k = let a = answer_holds theirs ours (Told (Sub id key), interest) s.0 s.1 in (a.0.0, a.0.1, a.1)
declaration_can_be_written theirs ours (ToldToken id key interest) s k = let a = answer_holds theirs ours (Told (Token id key), interest) s.0 s.1 in (a.0.0, a.0.1, a.1)
declaration_can_be_written theirs ours (ToldAble id key complete interest) s k = let a = answer_holds theirs ours (Told (Able id key complete), interest) s.0 s.1 in (a.0.0, a.0.1, a.1)
declaration_can_be_written theirs ours (ToldUnsub id) s k = (answer_holds theirs ours _ s.0 s.1).0
declaration_can_be_written theirs ours (ToldUntoken id) s k = (answer_holds theirs ours _ s.0 s.1).0
declaration_can_be_written theirs ours (ToldUnable id) s k = (answer_holds theirs ours _ s.0 s.1).0
declaration_can_be_written theirs ours (ToldEnd interest) s k = (answer_holds theirs ours _ s.0 s.1).1
declaration_can_be_written theirs ours (Interest id current future kinds key aggregate) s k = absurd k
declaration_can_be_written theirs ours (EndInterest id) s k = absurd k
declaration_can_be_written theirs ours (Push tree content) s k = absurd k
declaration_can_be_written theirs ours (Request tree id target content) s k = absurd k
declaration_can_be_written theirs ours (Response id content) s k = absurd k
declaration_can_be_written theirs ours (Final id extras) s k = absurd k
declaration_can_be_written theirs ours (State links) s k = absurd k
declaration_can_be_written theirs ours (Step source number added d) s k = absurd k
declaration_can_be_written theirs ours (Snap source number decls) s k = absurd k

interest_holds : (theirs ours : Texts) (h : ℕ) (m : Msg) (bytes : List ℕ) → (interest theirs ours h).spelled m bytes → Asks m
interest_holds theirs ours h m bytes s = by (has_flag h 0x20 || has_flag h 0x40) refl s.5
  where
    by : (b : Bool) → (has_flag h 0x20 || has_flag h 0x40) ≡ b → (choose b (wanted theirs ours h s.0) (ended h s.0)).spelled m s.2 → Asks m
    by true asked w =
        let few : w.0 % 16 < 16 = omega arith in
        subst Asks (sym w.5.5.5.0) (s.4.0, some_key theirs ours w.0 (has_flag w.0 0x10) w.5.0 w.5.1 w.5.4, few, asked)
    by false none e = subst Asks (sym e.5.0) s.4.0

pub interest_can_be_written : (theirs ours : Texts) (m : Msg) → HasSpelling (interest_format theirs ours) m → Asks m
interest_can_be_written theirs ours m s =
    chosen_holds Asks (has_id s.1.0 0x19) (interest theirs ours s.1.0) unknown (interest_holds theirs ours s.1.0) (λ y b u. absurd u) m s.1.2 s.1.5

-- ---- what was read

pub read_declared : (theirs ours : Texts) (bytes rest : List ℕ) (d : Declared) → declared_of theirs ours bytes ≡ Ok (d, rest) → ToldFits d
unfolding declared_of
read_declared theirs ours bytes rest d e =
    let step = bind_ok (message_of theirs ours bytes) (λ x. Ok (x.0.0, x.1)) (d, rest) e in
    let found = ((follows_message theirs ours).found bytes step.0.1 step.0.0 step.1).0 in
    let same : (step.0.0.0, step.0.1) ≡ (d, rest) = ok_is (step.0.0.0, step.0.1) (d, rest) step.2 in
    let fits : ToldFits step.0.0.0 = message_fits theirs ours step.0.0 found.0 found.1 in
    subst (λ (p : Declared × List ℕ). ToldFits p.0) same fits

pub read_interested : (theirs ours : Texts) (bytes rest : List ℕ) (m : Msg) → interest_of theirs ours bytes ≡ Ok (m, rest) → Fits m
read_interested theirs ours bytes rest m e =
    let found = ((follows_interest theirs ours).found bytes rest m e).0 in
    asked_fits theirs ours m found.0 found.1
