-- The caret of a line that is refused whatever the network is: it is under what makes the line wrong.
use Rattle.std.proofs.Common.{◌≡◌, ◌∙◌, ℕ, ◌+◌, ◌<◌, ◌≤◌, ◌⊎◌, ◌||◌, Bool, true, false, List, [], ◌∷◌, Some, None, Err, get_or, zero, suc, refl, sym, ap, subst, inl, inr, arith, true≢false}
use Rattle.std.specs.Prelude.{codes, length, not, nat_le, nat_lt}
use Rattle.std.specs.List.{slice_get}
use Rattle.std.specs.Cmp.Lexicographic.{same_text}
use mathlib.Core.Logic.{⊎_elim}
use Rattle.std.proofs.lemmas.Bool.{and_left, and_right, cases_lt, lt-leb, lt-ltb}
use Rattle.std.proofs.lemmas.Option.{same_Some, slice_get-get_or, slice_get_past, slice_get_within}
use Rattle.zr_caret.specs.Shown.{place_of_word}
use Rattle.zr_script_spec.specs.declared.command.Act.TheVariants as a
use Rattle.zr_script_spec.specs.declared.command.Command.{Command}
use Rattle.zr_script_spec.specs.declared.command.Command.TheVariants as c
use Rattle.zr_script_spec.specs.declared.error.ScriptError.TheVariants.{UnknownCommand, BadWords, BadKey}
use Rattle.zr_script_spec.specs.Command.{by_last_name, by_later_name, by_name, by_words, is_command, is_last_command, is_later_command, plain, able_line, break_line, client_line, del_line, down_line, end_line, fan_line, get_line, handle_line, interest_line, link_line, mark_line, put_line, reply_line, router_line, run_line, show_line, sub_line, take_line, token_line, unable_line, uninterest_line, unsub_line, untoken_line, up_line}
use Rattle.zr_script_spec.specs.Lines.{most_line}
use Rattle.zr_body.specs.Payload.{put_body, del_body}
use Rattle.zr_script_spec.specs.Words.{is_clean, is_word, key_at, payload_at, words}
use Rattle.zr_lists.proofs.Truths.{then_of, else_of}
use Rattle.zr_script_explain.specs.Forms.{key_number, most_behind, word_at, words_behind}
use Rattle.zr_script_explain.specs.Places.{bad_word, has_all}
use Rattle.zr_script_explain.specs.Carets.{CaretsAreUnderFaults, IsAtFault, IsAtFaultBehind, IsCaretUnder, IsWrongByte}
use Rattle.zr_script_explain.proofs.CaretPlaces.{behind, stands, wrong_byte}
use Rattle.zr_script_explain.proofs.CaretSteps.{ByWords}
use Rattle.zr_script_explain.proofs.CaretForms.{Form, IsWrong, OfKey, TooFew, TooMany, one_name, one_few, one_many, one_words, one_number, count_few, count_many, count_words, two_names, names_few, names_many, names_words, name_number, numbered_few, numbered_many, numbered_words, nothing, nothing_few, nothing_many, nothing_words, name_key, keyed_few, keyed_many, keyed_key, name_key_more, put_few, put_many, put_key, name_number_key, declared_few, declared_many, declared_key}
use Rattle.zr_script_explain.proofs.CaretFound.{FirstOrSecond, IsFound, one_found, names_found, numbered_found, keyed_found, put_found, declared_found, nothing_found, count_found, link_found, get_found, reply_found, interest_found}
use Rattle.zr_script_explain.proofs.CaretLinks.{link_few, link_many, link_words}
use Rattle.zr_script_explain.proofs.CaretQueries.{get_few, get_key, get_many, interest_few, interest_key, interest_many, reply_few, reply_key, reply_many}

-- ---- a command

-- what is told of words that don't fit, and of a key that is none
abbrev Misfits : List (List ℕ) → Type 0
Misfits ws = (at : ℕ) × IsCaretUnder ws BadWords at × (IsAtFault true ws BadWords at ⊎ IsAtFaultBehind ws BadWords at)

abbrev Keyless : List (List ℕ) → Type 0
Keyless ws = (at : ℕ) × IsCaretUnder ws BadKey at × (key : List ℕ) × (slice_get ws at ≡ Some key) × (key_at key ≡ Err BadKey)

-- a command of this form takes so many words at least and at most, of which the word of this number is a key, if there is one
record IsForm (name : List ℕ) (form : Form) (least most k : ℕ) : Type 0 where
  command : is_command name ≡ true
  asks : (args : List (List ℕ)) → by_name name args ≡ form args
  fewest : words_behind name ≡ least
  largest : most_behind name ≡ most
  order : least ≤ most
  number : key_number name ≡ suc k
  few : TooFew form least
  many : TooMany form most
  of_key : OfKey form k
  wrong : (args : List (List ℕ)) → least ≤ length args → length args ≤ most → form args ≡ Err BadWords → IsFound name form args

-- what is told of a command
record IsJudged (name : List ℕ) : Type 0 where
  misfits : (args : List (List ℕ)) → by_name name args ≡ Err BadWords → Misfits (name ∷ args)
  keys : (args : List (List ℕ)) → by_name name args ≡ Err BadKey → Keyless (name ∷ args)
  known : (args : List (List ℕ)) → by_name name args ≡ Err UnknownCommand → ⊥

asked : (name : List ℕ) (args : List (List ℕ)) → is_command name ≡ true → by_words true (name ∷ args) ≡ by_name name args
unfolding by_words
asked name args is = else_of (not (is_command name)) _ _ (ap not is)

-- the caret is under the word that is told as wrong
under : (ws : List (List ℕ)) (at : ℕ) → bad_word ws ≡ at → IsCaretUnder ws BadWords at
under ws at is line clean are = then_of (is_clean line) _ _ clean ∙ ap (λ x. place_of_word (bad_word x) line) are ∙ ap (λ z. place_of_word z line) is

-- or behind the line, where that word is missing
under_end : (ws : List (List ℕ)) (n at : ℕ) → bad_word ws ≡ n → length ws ≤ n → length ws ≤ at → IsCaretUnder ws BadWords at
under_end ws n at is past_all also line clean are =
    under ws n is line clean are ∙ behind line n (subst (λ z. length z ≤ n) (sym are) past_all) ∙ sym (behind line at (subst (λ z. length z ≤ at) (sym are) also))

-- one word is missing, or one is too much
lacks : (name : List ℕ) (args : List (List ℕ)) (least most : ℕ) → words_behind name ≡ least → most_behind name ≡ most → length args < least
    → bad_word (name ∷ args) ≡ suc most
lacks name args least most fewest largest short =
    let few : suc (length args) < words_behind name + 1 = subst (λ z. suc (length args) < z + 1) (sym fewest) (omega arith) in
    let one : most + 1 ≡ suc most = omega arith in
    then_of (not (has_all (name ∷ args))) _ _ (ap not (and_left (nat_le (words_behind name + 1) (suc (length args))) _ (lt-leb _ _ few)))
    ∙ ap (λ z. z + 1) largest ∙ one

exceeds : (name : List ℕ) (args : List (List ℕ)) (most : ℕ) → most_behind name ≡ most → most < length args → bad_word (name ∷ args) ≡ suc most
exceeds name args most largest long =
    let many : most_behind name + 1 < suc (length args) = subst (λ z. z + 1 < suc (length args)) (sym largest) (omega arith) in
    let one : most + 1 ≡ suc most = omega arith in
    then_of (not (has_all (name ∷ args))) _ _ (ap not (and_right _ (nat_le (suc (length args)) (most_behind name + 1)) (lt-leb _ _ many)))
    ∙ ap (λ z. z + 1) largest ∙ one

no_more : {X : Type 0} (xs : List X) (i : ℕ) → slice_get xs i ≡ None → length xs ≤ i
no_more [] i none = omega arith
no_more (x ∷ xs) zero none = absurd (cc)
no_more (x ∷ xs) (suc i) none = omega (arith, no_more xs i none)

module _ (name : List ℕ) (form : Form) (least most k : ℕ) (f : IsForm name form least most k) where
  at_fault : (args : List (List ℕ)) (n : ℕ) → IsWrong form args n → IsAtFault true (name ∷ args) BadWords (suc n)
  at_fault args n wrong [] first alike = absurd (cc)
  at_fault args n wrong (w ∷ other) first alike =
      subst (λ z. by_words true (z ∷ other) ≡ Err BadWords) (sym (same_Some w name first)) (asked name other f.command ∙ f.asks other ∙ wrong other alike)

  too_few : (args : List (List ℕ)) → length args < least → Misfits (name ∷ args)
  too_few args short =
      let order : least ≤ most = f.order in (
        suc (length args),
        under_end (name ∷ args) (suc most) (suc (length args)) (lacks name args least most f.fewest f.largest short) (omega (arith, short, order)) (omega arith),
        inl (at_fault args (length args)
            (λ other alike. f.few other (omega (arith, short, no_more other (length args) (alike ∙ slice_get_past args (length args) (omega arith)))))),
      )

  too_many : (args : List (List ℕ)) → most < length args → Misfits (name ∷ args)
  too_many args long = (
    suc most,
    under (name ∷ args) (suc most) (exceeds name args most f.largest long),
    inl (at_fault args most
        (λ other alike. f.many other (slice_get_within other most (get_or args most []) (alike ∙ slice_get-get_or args most [] long)))),
  )

  found : (args : List (List ℕ)) → IsFound name form args → Misfits (name ∷ args)
  found args (n, is, inl wrong) = (suc n, under (name ∷ args) (suc n) is, inl (at_fault args n wrong))
  found args (n, is, inr both) = (suc n, under (name ∷ args) (suc n) is, inr both)

  all_misfits : (args : List (List ℕ)) → by_name name args ≡ Err BadWords → Misfits (name ∷ args)
  all_misfits args refused =
      ⊎_elim (λ short. too_few args short)
      (λ enough. ⊎_elim (λ long. too_many args long) (λ fits. found args (f.wrong args enough fits (sym (f.asks args) ∙ refused))) (cases_lt most (length args)))
      (cases_lt (length args) least)

  no_words : (args : List (List ℕ)) → ByWords (form args) → by_name name args ≡ Err BadKey → ⊥
  no_words args (inl (x, is)) refused = let clash = sym is ∙ sym (f.asks args) ∙ refused in cc
  no_words args (inr is) refused = let clash = sym is ∙ sym (f.asks args) ∙ refused in cc

  all_keys : (args : List (List ℕ)) → by_name name args ≡ Err BadKey → Keyless (name ∷ args)
  all_keys args refused = by (f.of_key args)
    where
      by : ByWords (form args) ⊎ ((w : List ℕ) × (slice_get args k ≡ Some w) × (ByWords (form args) ⊎ ((form args ≡ Err BadKey) × (key_at w ≡ Err BadKey)))) → Keyless (name ∷ args)
      by (inl some) = absurd (no_words args some refused)
      by (inr (w, at, inl some)) = absurd (no_words args some refused)
      by (inr (w, at, inr bad)) = (
        suc k,
        (λ line clean are. ap (λ x. place_of_word (key_number (word_at 0 x)) line) are ∙ ap (λ z. place_of_word z line) f.number),
        w,
        at,
        bad.1,
      )

  unknown_words : (args : List (List ℕ)) → ByWords (form args) → by_name name args ≡ Err UnknownCommand → ⊥
  unknown_words args (inl (x, is)) refused = let clash = sym is ∙ sym (f.asks args) ∙ refused in cc
  unknown_words args (inr is) refused = let clash = sym is ∙ sym (f.asks args) ∙ refused in cc

  never_unknown : (args : List (List ℕ)) → by_name name args ≡ Err UnknownCommand → ⊥
  never_unknown args refused = by (f.of_key args)
    where
      by : ByWords (form args) ⊎ ((w : List ℕ) × (slice_get args k ≡ Some w) × (ByWords (form args) ⊎ ((form args ≡ Err BadKey) × (key_at w ≡ Err BadKey)))) → ⊥
      by (inl some) = unknown_words args some refused
      by (inr (w, at, inl some)) = unknown_words args some refused
      by (inr (w, at, inr bad)) = let clash = sym bad.0 ∙ sym (f.asks args) ∙ refused in cc

  judged : IsJudged name
  judged = record { misfits = all_misfits; keys = all_keys; known = never_unknown }

-- ---- each command

router_form : IsForm (codes "router") (one_name (λ id. c.Act (a.Router id))) 1 1 1
unfolding by_name router_line
router_form = record {
  command = refl;
  asks = λ args. refl;
  fewest = refl;
  largest = refl;
  order = omega arith;
  number = refl;
  few = one_few _;
  many = one_many _;
  of_key = λ args. inl (one_words _ args);
  wrong = one_found (codes "router") _ (λ w. refl);
}

show_form : IsForm (codes "show") (one_name (λ id. c.Act (a.Show id))) 1 1 1
unfolding by_name by_later_name by_last_name show_line
show_form = record {
  command = refl;
  asks = λ args. refl;
  fewest = refl;
  largest = refl;
  order = omega arith;
  number = refl;
  few = one_few _;
  many = one_many _;
  of_key = λ args. inl (one_words _ args);
  wrong = one_found (codes "show") _ (λ w. refl);
}

run_form : IsForm (codes "run") (one_number (λ n. c.Run n)) 1 1 1
unfolding by_name by_later_name by_last_name run_line
run_form = record {
  command = refl;
  asks = λ args. refl;
  fewest = refl;
  largest = refl;
  order = omega arith;
  number = refl;
  few = count_few _;
  many = count_many _;
  of_key = λ args. inl (count_words _ args);
  wrong = count_found _;
}

mark_form : IsForm (codes "mark") (nothing (c.Act a.Mark)) 0 0 1
unfolding by_name by_later_name by_last_name mark_line
mark_form = record {
  command = refl;
  asks = silent;
  fewest = refl;
  largest = refl;
  order = omega arith;
  number = refl;
  few = nothing_few _;
  many = nothing_many _;
  of_key = λ args. inl (nothing_words _ args);
  wrong = nothing_found (codes "mark") _;
}
  where
    silent : (args : List (List ℕ)) → by_name (codes "mark") args ≡ nothing (c.Act a.Mark) args
    silent [] = refl
    silent (w ∷ more) = refl

fan_form : IsForm (codes "fan") (nothing c.Fan) 0 0 1
unfolding by_name by_later_name by_last_name fan_line
fan_form = record {
  command = refl;
  asks = silent;
  fewest = refl;
  largest = refl;
  order = omega arith;
  number = refl;
  few = nothing_few _;
  many = nothing_many _;
  of_key = λ args. inl (nothing_words _ args);
  wrong = nothing_found (codes "fan") _;
}
  where
    silent : (args : List (List ℕ)) → by_name (codes "fan") args ≡ nothing c.Fan args
    silent [] = refl
    silent (w ∷ more) = refl

-- two names stand behind the command's
named_form : (name : List ℕ) (make : List ℕ → List ℕ → Command) → is_command name ≡ true → ((args : List (List ℕ)) → by_name name args ≡ two_names make args)
    → words_behind name ≡ 2 → most_behind name ≡ 2 → key_number name ≡ 2 → ((v w : List ℕ) → FirstOrSecond name (v ∷ w ∷ [])) → IsJudged name
named_form name make command asks fewest largest number says = judged name (two_names make) 2 2 1 (record {
  command = command;
  asks = asks;
  fewest = fewest;
  largest = largest;
  order = omega arith;
  number = number;
  few = names_few make;
  many = names_many make;
  of_key = λ args. inl (names_words make args);
  wrong = names_found name make says;
})

-- a client and a number do
counted_form : (name : List ℕ) (make : List ℕ → ℕ → Command) (k : ℕ) → is_command name ≡ true → ((args : List (List ℕ)) → by_name name args ≡ name_number make args)
    → words_behind name ≡ 2 → most_behind name ≡ 2 → key_number name ≡ suc k → ((v w : List ℕ) → FirstOrSecond name (v ∷ w ∷ [])) → IsJudged name
counted_form name make k command asks fewest largest number says = judged name (name_number make) 2 2 k (record {
  command = command;
  asks = asks;
  fewest = fewest;
  largest = largest;
  order = omega arith;
  number = number;
  few = numbered_few make;
  many = numbered_many make;
  of_key = λ args. inl (numbered_words make args);
  wrong = numbered_found name make says;
})

-- a client, a number and a key do
declared_form : (name : List ℕ) (make : List ℕ → ℕ → List ℕ → Command) → is_command name ≡ true → ((args : List (List ℕ)) → by_name name args ≡ name_number_key make args)
    → words_behind name ≡ 3 → most_behind name ≡ 3 → key_number name ≡ 3 → ((u v w : List ℕ) → FirstOrSecond name (u ∷ v ∷ w ∷ [])) → IsJudged name
declared_form name make command asks fewest largest number says = judged name (name_number_key make) 3 3 2 (record {
  command = command;
  asks = asks;
  fewest = fewest;
  largest = largest;
  order = omega arith;
  number = number;
  few = declared_few make;
  many = declared_many make;
  of_key = declared_key make;
  wrong = declared_found name make says;
})

client_judged : IsJudged (codes "client")
unfolding by_name client_line
client_judged = named_form (codes "client") (λ v w. c.Act (a.Client v w)) refl (λ args. refl) refl refl refl (λ v w. refl)

up_judged : IsJudged (codes "up")
unfolding by_name up_line
up_judged = named_form (codes "up") (λ v w. c.Act (a.Up v w)) refl (λ args. refl) refl refl refl (λ v w. refl)

break_judged : IsJudged (codes "break")
unfolding by_name break_line
break_judged = named_form (codes "break") (λ v w. c.Act (a.Break v w)) refl (λ args. refl) refl refl refl (λ v w. refl)

down_judged : IsJudged (codes "down")
unfolding by_name down_line
down_judged = named_form (codes "down") (λ v w. c.Act (a.Down v w)) refl (λ args. refl) refl refl refl (λ v w. refl)

handle_judged : IsJudged (codes "handle")
unfolding by_name by_later_name by_last_name handle_line
handle_judged = named_form (codes "handle") (λ v w. c.Act (a.Handle v w)) refl (λ args. refl) refl refl refl (λ v w. refl)

take_judged : IsJudged (codes "take")
unfolding by_name by_later_name by_last_name take_line
take_judged = named_form (codes "take") (λ v w. c.Act (a.Take v w)) refl (λ args. refl) refl refl refl (λ v w. refl)

unsub_judged : IsJudged (codes "unsub")
unfolding by_name by_later_name unsub_line
unsub_judged = counted_form (codes "unsub") (λ v n. c.Act (a.Unsub v n)) 1 refl (λ args. refl) refl refl refl (λ v w. refl)

untoken_judged : IsJudged (codes "untoken")
unfolding by_name by_later_name untoken_line
untoken_judged = counted_form (codes "untoken") (λ v n. c.Act (a.Untoken v n)) 1 refl (λ args. refl) refl refl refl (λ v w. refl)

unable_judged : IsJudged (codes "unable")
unfolding by_name by_later_name unable_line
unable_judged = counted_form (codes "unable") (λ v n. c.Act (a.Unable v n)) 1 refl (λ args. refl) refl refl refl (λ v w. refl)

uninterest_judged : IsJudged (codes "uninterest")
unfolding by_name by_later_name uninterest_line
uninterest_judged = counted_form (codes "uninterest") (λ v n. c.Act (a.Uninterest v n)) 1 refl (λ args. refl) refl refl refl (λ v w. refl)

end_judged : IsJudged (codes "end")
unfolding by_name by_later_name by_last_name end_line
end_judged = counted_form (codes "end") (λ v n. c.Act (a.End v n)) 2 refl (λ args. refl) refl refl refl (λ v w. refl)

sub_judged : IsJudged (codes "sub")
unfolding by_name by_later_name sub_line
sub_judged = declared_form (codes "sub") (λ v n key. c.Act (a.Sub v n key)) refl (λ args. refl) refl refl refl (λ u v w. refl)

token_judged : IsJudged (codes "token")
unfolding by_name by_later_name token_line
token_judged = declared_form (codes "token") (λ v n key. c.Act (a.Token v n key)) refl (λ args. refl) refl refl refl (λ u v w. refl)

able_judged : IsJudged (codes "able")
unfolding by_name by_later_name able_line
able_judged = declared_form (codes "able") (λ v n key. c.Act (a.Able v n key false)) refl (λ args. refl) refl refl refl (λ u v w. refl)

full_judged : IsJudged (codes "full")
unfolding by_name by_later_name able_line
full_judged = declared_form (codes "full") (λ v n key. c.Act (a.Able v n key true)) refl (λ args. refl) refl refl refl (λ u v w. refl)

put_form : IsForm (codes "put") (name_key_more (λ v key word. c.Act (a.Publish v (plain key (put_body (payload_at word)))))) 3 3 1
unfolding by_name by_later_name by_last_name put_line
put_form = record {
  command = refl;
  asks = λ args. refl;
  fewest = refl;
  largest = refl;
  order = omega arith;
  number = refl;
  few = put_few _;
  many = put_many _;
  of_key = put_key _;
  wrong = put_found (codes "put") _ (λ u v w. refl);
}

del_form : IsForm (codes "del") (name_key (λ v key. c.Act (a.Publish v (plain key del_body)))) 2 2 1
unfolding by_name by_later_name by_last_name del_line
del_form = record {
  command = refl;
  asks = λ args. refl;
  fewest = refl;
  largest = refl;
  order = omega arith;
  number = refl;
  few = keyed_few _;
  many = keyed_many _;
  of_key = keyed_key _;
  wrong = keyed_found (codes "del") _ (λ v w. refl);
}

link_form : IsForm (codes "link") link_line 2 3 1
unfolding by_name
link_form = record {
  command = refl;
  asks = λ args. refl;
  fewest = refl;
  largest = refl;
  order = omega arith;
  number = refl;
  few = link_few;
  many = link_many;
  of_key = λ args. inl (link_words args);
  wrong = link_found;
}

get_form : IsForm (codes "get") get_line 4 5 2
unfolding by_name by_later_name by_last_name
get_form = record {
  command = refl;
  asks = λ args. refl;
  fewest = refl;
  largest = refl;
  order = omega arith;
  number = refl;
  few = get_few;
  many = get_many;
  of_key = get_key;
  wrong = get_found;
}

reply_form : IsForm (codes "reply") reply_line 4 5 2
unfolding by_name by_later_name by_last_name
reply_form = record {
  command = refl;
  asks = λ args. refl;
  fewest = refl;
  largest = refl;
  order = omega arith;
  number = refl;
  few = reply_few;
  many = reply_many;
  of_key = reply_key;
  wrong = reply_found;
}

interest_form : IsForm (codes "interest") interest_line 5 6 4
unfolding by_name by_later_name
interest_form = record {
  command = refl;
  asks = λ args. refl;
  fewest = refl;
  largest = refl;
  order = omega arith;
  number = refl;
  few = interest_few;
  many = interest_many;
  of_key = interest_key;
  wrong = interest_found;
}

-- ---- all commands

-- one of some words, tried from the left
abbrev any_of : Bool → List (List ℕ) → List ℕ → Bool
any_of found [] name = found
any_of found (word ∷ words) name = any_of (found || is_word name word) words name

-- P holds of each of them
abbrev OfAll : (List ℕ → Type 0) → List (List ℕ) → Type 0
OfAll P [] = Unit {0}
OfAll P (word ∷ words) = P word × OfAll P words

or_cases : {P : Type 0} (x y : Bool) → (x || y) ≡ true → (x ≡ true → P) → (y ≡ true → P) → P
or_cases true y is left other = left refl
or_cases false y is left other = other is

of_any : (P : List ℕ → Type 0) (found : Bool) (words : List (List ℕ)) (name : List ℕ) → (found ≡ true → P name) → OfAll P words → any_of found words name ≡ true → P name
of_any P found [] name before all is = before is
of_any P found (word ∷ words) name before all is =
    of_any P (found || is_word name word) words name
    (λ either. or_cases found (is_word name word) either before (λ same_word. subst P (sym (same_text name word (sym same_word))) all.0))
    all.1 is

never : {P : Type 0} → false ≡ true → P
never clash = absurd (true≢false (sym clash))

all_judged : (name : List ℕ) → is_command name ≡ true → IsJudged name
all_judged name is =
    or_cases (any_of false (codes "router" ∷ codes "client" ∷ codes "link" ∷ codes "up" ∷ codes "break" ∷ codes "down" ∷ []) name) (is_later_command name) is
    (λ first. of_any IsJudged false (codes "router" ∷ codes "client" ∷ codes "link" ∷ codes "up" ∷ codes "break" ∷ codes "down" ∷ []) name never
    (judged _ _ _ _ _ router_form, (client_judged, (judged _ _ _ _ _ link_form, (up_judged, (break_judged, (down_judged, tt))))))
    first)
    later
  where
    last : is_last_command name ≡ true → IsJudged name
    last is_last =
        of_any IsJudged false
        (codes "put" ∷ codes "del" ∷ codes "get" ∷ codes "reply" ∷ codes "end" ∷ codes "handle" ∷ codes "take" ∷ codes "run" ∷ codes "fan" ∷ codes "mark" ∷ codes "show" ∷ [])
        name never (
          judged _ _ _ _ _ put_form,
          (
            judged _ _ _ _ _ del_form,
            (
              judged _ _ _ _ _ get_form,
              (
                judged _ _ _ _ _ reply_form,
                (end_judged, (handle_judged, (take_judged, (judged _ _ _ _ _ run_form, (judged _ _ _ _ _ fan_form, (judged _ _ _ _ _ mark_form, (judged _ _ _ _ _ show_form, tt))))))),
              ),
            ),
          ),
        )
        is_last

    later : is_later_command name ≡ true → IsJudged name
    later is_later =
        or_cases
        (any_of false
        (codes "sub" ∷ codes "unsub" ∷ codes "able" ∷ codes "full" ∷ codes "unable" ∷ codes "token" ∷ codes "untoken" ∷ codes "interest" ∷ codes "uninterest" ∷ [])
        name)
        (is_last_command name) is_later
        (λ middle. of_any IsJudged false
        (codes "sub" ∷ codes "unsub" ∷ codes "able" ∷ codes "full" ∷ codes "unable" ∷ codes "token" ∷ codes "untoken" ∷ codes "interest" ∷ codes "uninterest" ∷ [])
        name never (
          sub_judged,
          (unsub_judged, (able_judged, (full_judged, (unable_judged, (token_judged, (untoken_judged, (judged _ _ _ _ _ interest_form, (uninterest_judged, tt)))))))),
        )
        middle)
        last

-- ---- the law

-- words that are refused are those of a command
misfits : (ws : List (List ℕ)) → by_words true ws ≡ Err BadWords → Misfits ws
unfolding by_words
misfits [] refused = absurd (cc)
misfits (name ∷ args) refused = by (is_command name) refl
  where
    by : (t : Bool) → is_command name ≡ t → Misfits (name ∷ args)
    by true e = (all_judged name e).misfits args (sym (asked name args e) ∙ refused)
    by false e =
        let unknown : by_words true (name ∷ args) ≡ Err UnknownCommand = then_of (not (is_command name)) _ _ (ap not e) in
        absurd (let clash = sym unknown ∙ refused in cc)

keyless : (ws : List (List ℕ)) → by_words true ws ≡ Err BadKey → Keyless ws
unfolding by_words
keyless [] refused = absurd (cc)
keyless (name ∷ args) refused = by (is_command name) refl
  where
    by : (t : Bool) → is_command name ≡ t → Keyless (name ∷ args)
    by true e = (all_judged name e).keys args (sym (asked name args e) ∙ refused)
    by false e =
        let unknown : by_words true (name ∷ args) ≡ Err UnknownCommand = then_of (not (is_command name)) _ _ (ap not e) in
        absurd (let clash = sym unknown ∙ refused in cc)

-- a first word that is no command is refused as such with whatever stands behind it
not_known : (clean : Bool) (name : List ℕ) (args : List (List ℕ)) → is_command name ≡ true → by_words clean (name ∷ args) ≡ Err UnknownCommand → ⊥
unfolding by_words
not_known true name args is refused = (all_judged name is).known args (sym (asked name args is) ∙ refused)
not_known false name args is refused =
    let unclean : by_words false (name ∷ args) ≡ Err BadWords = else_of (not (is_command name)) _ _ (ap not is) in
    let clash = sym unclean ∙ refused in cc

unknown : (clean : Bool) (ws : List (List ℕ)) → by_words clean ws ≡ Err UnknownCommand → IsAtFault clean ws UnknownCommand 0
unfolding by_words
unknown clean [] refused [] first alike = refl
unknown clean [] refused (w ∷ other) first alike = absurd (cc)
unknown clean (name ∷ args) refused [] first alike = absurd (cc)
unknown clean (name ∷ args) refused (w ∷ other) first alike = by (is_command name) refl
  where
    by : (t : Bool) → is_command name ≡ t → by_words clean (w ∷ other) ≡ Err UnknownCommand
    by true e = absurd (not_known clean name args e refused)
    by false e = then_of (not (is_command w)) _ _ (ap (λ z. not (is_command z)) (same_Some w name first) ∙ ap not e)

pub carets_under_faults : CaretsAreUnderFaults
carets_under_faults = record {
  there = stands;
  none = behind;
  commands = λ clean line refused. (refl, unknown clean (words line) refused);
  misfits = misfits;
  keys = keyless;
  bytes = λ line dirty. subst (λ z. IsWrongByte line z) (sym (else_of (is_clean line) _ _ dirty)) (wrong_byte line dirty);
  long = λ line over. then_of (nat_lt most_line (length line)) _ _ (lt-ltb most_line (length line) over);
}
