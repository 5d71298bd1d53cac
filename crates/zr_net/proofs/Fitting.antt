-- Each message that has a spelling can be written: what the parts of a spelling tell of what was read.
use Rattle.std.proofs.Common.{◌≡◌, ℕ, Bool, true, false, cond, List, [], ◌∷◌, Option, Some, None, Ok, Err, refl, sym, ap, subst, ◌∙◌, eqb, inl}
use Rattle.std.specs.Prelude.{is_some}
use Rattle.std.specs.List.{AllByRecursion}
use Rattle.std.proofs.lemmas.Bool.{eqb-true, false≢true}
use Rattle.zr_bytes.specs.declared.read_error.ReadError.TheVariants.{BadText}
use Rattle.zr_bytes.specs.Flag.{has_id, has_flag}
use Rattle.zr_bytes.proofs.Steps.{ok_is, not_both}
use Rattle.zr_ext.specs.declared.ext.Ext.{Ext}
use Rattle.zr_ext.specs.declared.ext.Content.{Content}
use Rattle.zr_ext.specs.declared.ext.Content.TheVariants as content
use Rattle.zr_ext.specs.declared.ext.Form.{Form}
use Rattle.zr_ext.specs.declared.ext.Form.TheVariants as form
use Rattle.zr_ext.specs.Header.{form_of, is_known, content_number}
use Rattle.zr_ext.specs.Chain.{knows}
use Rattle.zr_ext.proofs.Distinct.{HasLength, AreDistinct, chain_kept}
use Rattle.zr_format_spec.specs.Format.{choose, gives, unknown, chain, extensions}
use Rattle.zr_format_spec.specs.Laws.{HasSpelling}
use Rattle.zr_format_spec.proofs.Spelled.{spelled_allows, chosen_holds}
use Rattle.zr_id.specs.Zid.{is_zid}
use Rattle.zr_body.specs.declared.place.Place.{Place}
use Rattle.zr_body.specs.declared.place.Place.TheVariants as place
use Rattle.zr_body.specs.Body.{body, IsBodyIn}
use Rattle.zr_wirekey.specs.Scopes.{Texts}
use Rattle.zr_decl.specs.Declare.{wire_key}
use Rattle.zr_msg.specs.declared.extras.Extras.{Extras}
use Rattle.zr_msg.specs.declared.msg.Target.{Target}
use Rattle.zr_msg.specs.declared.msg.Target.TheVariants.{Best, All, Complete}
use Rattle.zr_msg.specs.declared.msg.Msg.{Msg}
use Rattle.zr_msg.specs.declared.msg.Msg.TheVariants.{Sub, Unsub, Token, Untoken, Able, Unable, Interest, EndInterest, ToldSub, ToldAble, ToldUnsub, ToldToken, ToldUntoken, ToldUnable, ToldEnd, Push, Request, Response, Final, State, Step, Snap}
use Rattle.zr_msg.specs.declared.peer.Role.{Role}
use Rattle.zr_msg.specs.declared.peer.Role.TheVariants.{Client, Router}
use Rattle.zr_decl.specs.declared.declared.Declared.{Declared}
use Rattle.zr_decl.specs.declared.declared.Declared.TheVariants.{Told, Number, Unnumber, Ignored}
use Rattle.zr_decl.specs.Writing as decl
use Rattle.zr_decl.proofs.Fitting.{declare_fits, interest_fits, wire_key_is}
use Rattle.zr_net.specs.Exts.{or_else, content_bytes, push_known, request_known, response_known, final_known, number_at, bytes_at, extras_of, target_of, tree_of}
use Rattle.zr_net.specs.Net.{push, request, response, final, declared, asked, behind, net_format}
use Rattle.zr_net.specs.Writing.{target_number, TextFits, ExtrasFit, Fits, IsOfNumbers, TreeFits, KeyFits, CanBeSent, AnyFits, ToldFits}
use Rattle.zr_net.specs.Reading.{net_of}
use Rattle.zr_net.proofs.Messages.{follows_net}
use Rattle.zr_net.proofs.Marks.{on_at, marks_kept, target_on}

-- ---- the extensions that were read

-- each is known and has a content that a length tells, and no two are of one id and form
record AreKept (known : List (ℕ × Form)) (exts : List Ext) : Type 0 where
  each : AllByRecursion (λ e. (knows known e ≡ true) × HasLength e.content) exts
  distinct : AreDistinct exts

exts_kept : (known : List (ℕ × Form)) (h : ℕ) (exts : List Ext) (bytes : List ℕ) → (extensions known h).spelled exts bytes → AreKept known exts
exts_kept known h exts bytes s = by (has_flag h 0x80) s
  where
    by : (b : Bool) → (choose b (chain known) (gives [])).spelled exts bytes → AreKept known exts
    by true c = let kept = chain_kept known exts bytes c in record { each = kept.0; distinct = kept.1 }
    by false c = subst (AreKept known) (sym c.0) (record { each = tt; distinct = tt })

-- no number is found of an id that isn't known as one
no_number : (known : List (ℕ × Form)) (id : ℕ) (exts : List Ext) → is_known known id form.Number ≡ false → AllByRecursion (λ e. (knows known e ≡ true) × HasLength e.content) exts → number_at id exts ≡ None
no_number known id [] missing h = refl
no_number known id (e ∷ exts) missing h = by (eqb e.id id) refl e.content h.0.0 (no_number known id exts missing h.1)
  where
    by : (t : Bool) → eqb e.id id ≡ t → (x : Content) → is_known known e.id (form_of x) ≡ true → number_at id exts ≡ None → or_else (cond t (content_number x) None) (number_at id exts) ≡ None
    by false apart x k none = none
    by true same content.Unit k none = none
    by true same (content.Bytes b) k none = none
    by true same (content.Number n) k none = absurd (false≢true (sym missing ∙ subst (λ (i : ℕ). is_known known i form.Number ≡ true) (eqb-true e.id id same) k))

no_bytes : (known : List (ℕ × Form)) (id : ℕ) (exts : List Ext) → is_known known id form.Bytes ≡ false → AllByRecursion (λ e. (knows known e ≡ true) × HasLength e.content) exts → bytes_at id exts ≡ None
no_bytes known id [] missing h = refl
no_bytes known id (e ∷ exts) missing h = by (eqb e.id id) refl e.content h.0.0 (no_bytes known id exts missing h.1)
  where
    by : (t : Bool) → eqb e.id id ≡ t → (x : Content) → is_known known e.id (form_of x) ≡ true → bytes_at id exts ≡ None → or_else (cond t (content_bytes x) None) (bytes_at id exts) ≡ None
    by false apart x k none = none
    by true same content.Unit k none = none
    by true same (content.Number n) k none = none
    by true same (content.Bytes b) k none = absurd (false≢true (sym missing ∙ subst (λ (i : ℕ). is_known known i form.Bytes ≡ true) (eqb-true e.id id same) k))

bytes_fit : (known : List (ℕ × Form)) (id : ℕ) (exts : List Ext) → AllByRecursion (λ e. (knows known e ≡ true) × HasLength e.content) exts → TextFits (bytes_at id exts)
bytes_fit known id [] h = tt
bytes_fit known id (e ∷ exts) h = by (eqb e.id id) e.content h.0.1 (bytes_fit known id exts h.1)
  where
    by : (t : Bool) (x : Content) → HasLength x → TextFits (bytes_at id exts) → TextFits (or_else (cond t (content_bytes x) None) (bytes_at id exts))
    by false x long rest = rest
    by true content.Unit long rest = rest
    by true (content.Number n) long rest = rest
    by true (content.Bytes b) long rest = long

-- a target that is kept and mandatory is written
aimed : (o : Option ℕ) (t : Target) → target_of o ≡ Ok t → (n : ℕ) → o ≡ Some n → eqb n 0 ≡ false → is_some (target_number t) ≡ true
aimed o t is n there some = by t (sym (ap target_of there) ∙ is)
  where
    by : (t : Target) → target_of (Some n) ≡ Ok t → is_some (target_number t) ≡ true
    by All e = refl
    by Complete e = refl
    by Best e = absurd (first (eqb n 0) (eqb n 1) (eqb n 2) some e)
      where
        first : (zero one two : Bool) → zero ≡ false → cond zero (Ok Best) (cond one (Ok All) (cond two (Ok Complete) (Err BadText))) ≡ Ok Best → ⊥
        first true one two e h = cc
        first false true two e h = cc
        first false false true e h = cc
        first false false false e h = cc

-- where no target is known, there is none
untargeted : (known : List (ℕ × Form)) (exts : List Ext) → is_known known 4 form.Number ≡ false → AreKept known exts → on_at 4 exts ≡ true → is_some (target_number Best) ≡ true
untargeted known exts missing kept on =
    let target = target_on exts kept.distinct on in
    absurd (none_some target.0 (sym (no_number known 4 exts missing kept.each) ∙ target.1))
  where
    none_some : (n : ℕ) → None ≡ Some n → ⊥
    none_some n e = cc

extras_fit : (known : List (ℕ × Form)) (exts : List Ext) (t : Target) → AreKept known exts → (on_at 4 exts ≡ true → is_some (target_number t) ≡ true) → ExtrasFit (extras_of exts) t
extras_fit known exts t kept on = record {
  marks = marks_kept exts t on;
  stamp = bytes_fit known 2 exts kept.each;
  responder = bytes_fit known 3 exts kept.each;
}

-- ---- messages

push_unknown : (role : Role) → (is_known (push_known role) 3 form.Bytes ≡ false) × (is_known (push_known role) 4 form.Number ≡ false) × (is_known (push_known role) 5 form.Number ≡ false) × (is_known (push_known role) 6 form.Number ≡ false)
push_unknown Client = (refl, refl, refl, refl)
push_unknown Router = (refl, refl, refl, refl)

request_unknown : (role : Role) → is_known (request_known role) 3 form.Bytes ≡ false
request_unknown Client = refl
request_unknown Router = refl

push_fits : (role : Role) (theirs ours : Texts) (h : ℕ) (d : Declared) (bytes : List ℕ) → (push role theirs ours h).spelled d bytes → ToldFits d
push_fits role theirs ours h d bytes s =
    let known = push_known role in
    let exts = s.5.0 in
    let kept = exts_kept known h exts s.5.1 s.5.4 in
    let missing = push_unknown role in
    let rest = spelled_allows (tree_of (bytes_at 7 exts)) _ d s.5.2 s.5.5 in
    let extras : Extras = extras_of exts in
    let fits : ToldFits (Told (Push rest.0 (record { key = s.0; extras = extras; body = rest.2.0 }))) =
    (extras_fit known exts Best kept (untargeted known exts missing.1 kept), no_bytes known 3 exts missing.0 kept.each, no_number known 5 exts missing.2 kept.each, no_number known 6 exts missing.3 kept.each) in
    subst ToldFits (sym rest.2.5.0) fits

request_fits : (role : Role) (theirs ours : Texts) (h : ℕ) (d : Declared) (bytes : List ℕ) → (request role theirs ours h).spelled d bytes → ToldFits d
request_fits role theirs ours h d bytes s =
    let known = request_known role in
    let exts = s.5.5.0 in
    let kept = exts_kept known h exts s.5.5.1 s.5.5.4 in
    let tree = spelled_allows (tree_of (bytes_at 7 exts)) _ d s.5.5.2 s.5.5.5 in
    let rest = spelled_allows (target_of (number_at 4 exts)) _ d s.5.5.2 tree.2 in
    let on : on_at 4 exts ≡ true → is_some (target_number rest.0) ≡ true = λ o. (let t = target_on exts kept.distinct o in aimed (number_at 4 exts) rest.0 rest.1 t.0 t.1 t.2) in
    let fits : ToldFits (Told (Request tree.0 s.0 rest.0 (record { key = s.5.0; extras = extras_of exts; body = rest.2.0 }))) =
    (extras_fit known exts rest.0 kept on, no_bytes known 3 exts (request_unknown role) kept.each) in
    subst ToldFits (sym rest.2.5.0) fits

response_fits : (theirs ours : Texts) (h : ℕ) (d : Declared) (bytes : List ℕ) → (response theirs ours h).spelled d bytes → ToldFits d
response_fits theirs ours h d bytes s =
    let exts = s.5.5.0 in
    let kept = exts_kept response_known h exts s.5.5.1 s.5.5.4 in
    let fits : ToldFits (Told (Response s.0 (record { key = s.5.0; extras = extras_of exts; body = s.5.5.5.0 }))) =
    (extras_fit response_known exts Best kept (untargeted response_known exts refl kept), no_number response_known 5 exts refl kept.each, no_number response_known 6 exts refl kept.each) in
    subst ToldFits (sym s.5.5.5.5.0) fits

final_fits : (h : ℕ) (d : Declared) (bytes : List ℕ) → (final h).spelled d bytes → ToldFits d
final_fits h d bytes s =
    let exts = s.5.0 in
    let kept = exts_kept final_known h exts s.5.1 s.5.4 in
    let fits : ToldFits (Told (Final s.0 (extras_of exts))) =
    (extras_fit final_known exts Best kept (untargeted final_known exts refl kept), no_bytes final_known 3 exts refl kept.each, no_number final_known 5 exts refl kept.each, no_number final_known 6 exts refl kept.each) in
    subst ToldFits (sym s.5.5.0) fits

-- what fits as a declaration or an interest
any_fits : (m : Msg) → decl.Fits m → AnyFits m
any_fits (Sub id key) h = h
any_fits (Unsub id) h = h
any_fits (Token id key) h = h
any_fits (Untoken id) h = h
any_fits (Able id key complete) h = h
any_fits (Unable id) h = h
any_fits (Interest id current future kinds key aggregate) h = h
any_fits (EndInterest id) h = h
any_fits (ToldSub id key interest) h = h
any_fits (ToldToken id key interest) h = h
any_fits (ToldAble id key complete interest) h = h
any_fits (ToldUnsub id) h = h
any_fits (ToldUntoken id) h = h
any_fits (ToldUnable id) h = h
any_fits (ToldEnd interest) h = h
any_fits (Push tree content) h = absurd h
any_fits (Request tree id target content) h = absurd h
any_fits (Response id content) h = absurd h
any_fits (Final id extras) h = absurd h
any_fits (State links) h = absurd h
any_fits (Step source number added d) h = absurd h
any_fits (Snap source number decls) h = absurd h

told_fits : (d : Declared) → decl.ToldFits d → ToldFits d
told_fits (Told m) h = any_fits m h
told_fits (Number n text) h = tt
told_fits (Unnumber n) h = tt
told_fits Ignored h = tt

declared_fits : (theirs ours : Texts) (h : ℕ) (d : Declared) (bytes : List ℕ) → (declared theirs ours h).spelled d bytes → ToldFits d
declared_fits theirs ours h d bytes s = subst ToldFits (sym s.5.0) (told_fits s.0.0 (declare_fits theirs ours h s.0 s.1 s.4))

asked_fits : (theirs ours : Texts) (h : ℕ) (d : Declared) (bytes : List ℕ) → (asked theirs ours h).spelled d bytes → ToldFits d
asked_fits theirs ours h d bytes s = subst ToldFits (sym s.5.0) (any_fits s.0 (interest_fits theirs ours h s.0 s.1 s.4))

pub message_fits : (role : Role) (theirs ours : Texts) (d : Declared) (bytes : List ℕ) → (net_format role theirs ours).spelled d bytes → ToldFits d
message_fits role theirs ours d bytes s = by s.0 d s.2 s.5
  where
    by : (h : ℕ) (d : Declared) (bytes : List ℕ) → (behind role theirs ours h).spelled d bytes → ToldFits d
    by h =
        chosen_holds ToldFits (has_id h 0x1D) (push role theirs ours h) _ (push_fits role theirs ours h)
        (chosen_holds ToldFits (has_id h 0x1C) (request role theirs ours h) _ (request_fits role theirs ours h)
        (chosen_holds ToldFits (has_id h 0x1B) (response theirs ours h) _ (response_fits theirs ours h)
        (chosen_holds ToldFits (has_id h 0x1A) (final h) _ (final_fits h)
        (chosen_holds ToldFits (has_id h 0x1E) (declared theirs ours h) _ (declared_fits theirs ours h)
        (chosen_holds ToldFits (has_id h 0x19) (asked theirs ours h) unknown (asked_fits theirs ours h) (λ d bytes s. absurd s))))))

pub read_fits : (role : Role) (theirs ours : Texts) (bytes rest : List ℕ) (d : Declared) → net_of role theirs ours bytes ≡ Ok (d, rest) → ToldFits d
read_fits role theirs ours bytes rest d e =
    let found = ((follows_net role theirs ours).found bytes rest d e).0 in
    message_fits role theirs ours d found.0 found.1

-- ---- what has a spelling can be sent

-- what holds of a told message that can be sent, besides its numbers
abbrev Sent : Role → Texts → Declared → Type 0
Sent role theirs (Told m) = IsOfNumbers m → CanBeSent role theirs 0 m
Sent role theirs (Number n text) = Unit {0}
Sent role theirs (Unnumber n) = Unit {0}
Sent role theirs Ignored = Unit {0}

-- the root of a tree is an identifier
root_is : (o tree : Option (List ℕ)) → tree_of o ≡ Ok tree → TreeFits Router tree
root_is None tree e =
    let none : Option (List ℕ) = None in
    let same : none ≡ tree = ok_is none tree e in
    subst (λ (t : Option (List ℕ)). TreeFits Router t) same tt
root_is (Some id) tree e = by (is_zid id) refl e
  where
    by : (b : Bool) → is_zid id ≡ b → cond b (Ok (Some id)) (Err BadText) ≡ Ok tree → TreeFits Router tree
    by true named g = let same : Some id ≡ tree = ok_is (Some id) tree g in subst (λ (t : Option (List ℕ)). TreeFits Router t) same named
    by false other g = absurd (not_both (Ok tree) tree BadText refl (sym g))

-- a client's message has no tree
rootless : (o tree : Option (List ℕ)) → o ≡ None → tree_of o ≡ Ok tree → TreeFits Client tree
rootless o tree none e =
    let nothing : Option (List ℕ) = None in
    let same : nothing ≡ tree = ok_is nothing tree (sym (ap tree_of none) ∙ e) in
    subst (λ (t : Option (List ℕ)). TreeFits Client t) same tt

push_tree : (role : Role) (exts : List Ext) (tree : Option (List ℕ)) → AreKept (push_known role) exts → tree_of (bytes_at 7 exts) ≡ Ok tree → TreeFits role tree
push_tree Client exts tree kept e = rootless (bytes_at 7 exts) tree (no_bytes (push_known Client) 7 exts refl kept.each) e
push_tree Router exts tree kept e = root_is (bytes_at 7 exts) tree e

request_tree : (role : Role) (exts : List Ext) (tree : Option (List ℕ)) → AreKept (request_known role) exts → tree_of (bytes_at 7 exts) ≡ Ok tree → TreeFits role tree
request_tree Client exts tree kept e = rootless (bytes_at 7 exts) tree (no_bytes (request_known Client) 7 exts refl kept.each) e
request_tree Router exts tree kept e = root_is (bytes_at 7 exts) tree e

whole_key : (theirs ours : Texts) (h : ℕ) (key bytes : List ℕ) → (wire_key theirs ours h).spelled key bytes → KeyFits theirs 0 key
whole_key theirs ours h key bytes s = (wire_key_is theirs ours h key bytes s, inl refl)

is_body : (at : Place) (b bytes : List ℕ) → (body at).spelled b bytes → IsBodyIn at b
is_body at b bytes s = subst (IsBodyIn at) (sym s.0) s.1

push_sent : (role : Role) (theirs ours : Texts) (h : ℕ) (d : Declared) (bytes : List ℕ) → (push role theirs ours h).spelled d bytes → Sent role theirs d
push_sent role theirs ours h d bytes s =
    let exts = s.5.0 in
    let kept = exts_kept (push_known role) h exts s.5.1 s.5.4 in
    let rest = spelled_allows (tree_of (bytes_at 7 exts)) _ d s.5.2 s.5.5 in
    let m : Msg = Push rest.0 (record { key = s.0; extras = extras_of exts; body = rest.2.0 }) in
    let fits : Fits m = subst ToldFits rest.2.5.0 (push_fits role theirs ours h d bytes s) in
    let sent : Sent role theirs (Told m) =
    λ numbers. (fits, numbers, push_tree role exts rest.0 kept rest.1, whole_key theirs ours h s.0 s.1 s.4, is_body place.Push rest.2.0 rest.2.1 rest.2.4) in
    subst (Sent role theirs) (sym rest.2.5.0) sent

request_sent : (role : Role) (theirs ours : Texts) (h : ℕ) (d : Declared) (bytes : List ℕ) → (request role theirs ours h).spelled d bytes → Sent role theirs d
request_sent role theirs ours h d bytes s =
    let exts = s.5.5.0 in
    let kept = exts_kept (request_known role) h exts s.5.5.1 s.5.5.4 in
    let tree = spelled_allows (tree_of (bytes_at 7 exts)) _ d s.5.5.2 s.5.5.5 in
    let rest = spelled_allows (target_of (number_at 4 exts)) _ d s.5.5.2 tree.2 in
    let m : Msg = Request tree.0 s.0 rest.0 (record { key = s.5.0; extras = extras_of exts; body = rest.2.0 }) in
    let fits : Fits m = subst ToldFits rest.2.5.0 (request_fits role theirs ours h d bytes s) in
    let sent : Sent role theirs (Told m) =
    λ numbers. (fits, numbers, request_tree role exts tree.0 kept tree.1, whole_key theirs ours h s.5.0 s.5.1 s.5.4, is_body place.Request rest.2.0 rest.2.1 rest.2.4, s.4.0) in
    subst (Sent role theirs) (sym rest.2.5.0) sent

response_sent : (role : Role) (theirs ours : Texts) (h : ℕ) (d : Declared) (bytes : List ℕ) → (response theirs ours h).spelled d bytes → Sent role theirs d
response_sent role theirs ours h d bytes s =
    let last = s.5.5.5 in
    let m : Msg = Response s.0 (record { key = s.5.0; extras = extras_of s.5.5.0; body = last.0 }) in
    let fits : Fits m = subst ToldFits last.5.0 (response_fits theirs ours h d bytes s) in
    let sent : Sent role theirs (Told m) = λ numbers. (fits, numbers, whole_key theirs ours h s.5.0 s.5.1 s.5.4, is_body place.Response last.0 last.1 last.4, s.4.0) in
    subst (Sent role theirs) (sym last.5.0) sent

final_sent : (role : Role) (theirs : Texts) (h : ℕ) (d : Declared) (bytes : List ℕ) → (final h).spelled d bytes → Sent role theirs d
final_sent role theirs h d bytes s =
    let m : Msg = Final s.0 (extras_of s.5.0) in
    let fits : Fits m = subst ToldFits s.5.5.0 (final_fits h d bytes s) in
    let sent : Sent role theirs (Told m) = λ numbers. (fits, numbers, s.4.0) in
    subst (Sent role theirs) (sym s.5.5.0) sent

-- a declaration or an interest is none of the four
not_sent : (role : Role) (theirs : Texts) (m : Msg) → decl.Fits m → IsOfNumbers m → CanBeSent role theirs 0 m
not_sent role theirs (Sub id key) h k = absurd k
not_sent role theirs (Unsub id) h k = absurd k
not_sent role theirs (Token id key) h k = absurd k
not_sent role theirs (Untoken id) h k = absurd k
not_sent role theirs (Able id key complete) h k = absurd k
not_sent role theirs (Unable id) h k = absurd k
not_sent role theirs (Interest id current future kinds key aggregate) h k = absurd k
not_sent role theirs (EndInterest id) h k = absurd k
not_sent role theirs (ToldSub id key interest) h k = absurd k
not_sent role theirs (ToldToken id key interest) h k = absurd k
not_sent role theirs (ToldAble id key complete interest) h k = absurd k
not_sent role theirs (ToldUnsub id) h k = absurd k
not_sent role theirs (ToldUntoken id) h k = absurd k
not_sent role theirs (ToldUnable id) h k = absurd k
not_sent role theirs (ToldEnd interest) h k = absurd k
not_sent role theirs (Push tree content) h k = absurd h
not_sent role theirs (Request tree id target content) h k = absurd h
not_sent role theirs (Response id content) h k = absurd h
not_sent role theirs (Final id extras) h k = absurd h
not_sent role theirs (State links) h k = absurd k
not_sent role theirs (Step source number added d) h k = absurd k
not_sent role theirs (Snap source number decls) h k = absurd k

told_sent : (role : Role) (theirs : Texts) (d : Declared) → decl.ToldFits d → Sent role theirs d
told_sent role theirs (Told m) h = not_sent role theirs m h
told_sent role theirs (Number n text) h = tt
told_sent role theirs (Unnumber n) h = tt
told_sent role theirs Ignored h = tt

declared_sent : (role : Role) (theirs ours : Texts) (h : ℕ) (d : Declared) (bytes : List ℕ) → (declared theirs ours h).spelled d bytes → Sent role theirs d
declared_sent role theirs ours h d bytes s = subst (Sent role theirs) (sym s.5.0) (told_sent role theirs s.0.0 (declare_fits theirs ours h s.0 s.1 s.4))

asked_sent : (role : Role) (theirs ours : Texts) (h : ℕ) (d : Declared) (bytes : List ℕ) → (asked theirs ours h).spelled d bytes → Sent role theirs d
asked_sent role theirs ours h d bytes s = subst (Sent role theirs) (sym s.5.0) (not_sent role theirs s.0 (interest_fits theirs ours h s.0 s.1 s.4))

pub message_sent : (role : Role) (theirs ours : Texts) (m : Msg) → HasSpelling (net_format role theirs ours) (Told m) → IsOfNumbers m → CanBeSent role theirs 0 m
message_sent role theirs ours m s = by s.1.0 (Told m) s.1.2 s.1.5
  where
    by : (h : ℕ) (d : Declared) (bytes : List ℕ) → (behind role theirs ours h).spelled d bytes → Sent role theirs d
    by h =
        chosen_holds (Sent role theirs) (has_id h 0x1D) (push role theirs ours h) _ (push_sent role theirs ours h)
        (chosen_holds (Sent role theirs) (has_id h 0x1C) (request role theirs ours h) _ (request_sent role theirs ours h)
        (chosen_holds (Sent role theirs) (has_id h 0x1B) (response theirs ours h) _ (response_sent role theirs ours h)
        (chosen_holds (Sent role theirs) (has_id h 0x1A) (final h) _ (final_sent role theirs h)
        (chosen_holds (Sent role theirs) (has_id h 0x1E) (declared theirs ours h) _ (declared_sent role theirs ours h)
        (chosen_holds (Sent role theirs) (has_id h 0x19) (asked theirs ours h) unknown (asked_sent role theirs ours h) (λ d bytes s. absurd s))))))
