-- What a builder adds to a command, and what the getters read of the matches.
use Rattle.std.proofs.Common.{◌≡◌, ◌∙◌, ◌&&◌, Bool, not, true, false, refl, sym, ap, ap₂, List, [], ◌∷◌, ◌++◌, Option, Some, None, append_assoc, append-nil, true≢false}
use Rattle.std.specs.Prelude.{codes, option_and_then, unwrap_or}
use Rattle.std.specs.Option.{option_map}
use Rattle.clap.specs.Built.{AddsArg, AddsSubcommand}
use Rattle.clap.specs.Matches.{subcommand_name_of}
use Rattle.clap.specs.Walk.{Row, Rule, Text, first_of, rule_of}
use Rattle.clap.specs.Simple.{App, Shape, app_of, shape_of, subcommand_rows_of, with_rule, with_subcommand}
use Rattle.clap.specs.declared.builder.arg.Arg.{Arg}
use Rattle.clap.specs.declared.builder.command.Command.{Command}
use Rattle.clap.specs.declared.parser.matches.ArgMatches.{ArgMatches}
use Rattle.clap.specs.declared.parser.matches.ArgMatches.TheViews.{out-ArgMatches}
use Rattle.zr_dial.specs.Dial.{DialState, dial_of}
use Rattle.zr_id.specs.Zid.{zid_of_hex}
use Rattle.zr_lists.proofs.Parts.{and_right}
use Rattle.zr_top_words.specs.Asked.{Served, dials_of, if_it_explains, served_as_named, served_by}

-- ---- the builder

is_off : (a b : Bool) → (not a && b) ≡ true → a ≡ false
is_off true b h = absurd (true≢false (sym h))
is_off false b h = refl

-- a command with one argument more
pub adds : {old new : Command} {arg : Arg} {a : App} {rule : Rule} → AddsArg old arg new → arg.global ≡ false → app_of old ≡ a → rule_of arg ≡ rule
    → app_of new ≡ with_rule a rule
adds h local was is = h.shape local ∙ ap₂ with_rule was is

-- a command with one subcommand more
pub adds_command : {old sub new : Command} {a : App} {s : Shape} → AddsSubcommand old sub new → app_of old ≡ a → shape_of sub ≡ s → s.is_plain ≡ true
    → app_of new ≡ with_subcommand a s
adds_command {old} {sub} {new} {a} {s} h was is plain =
    let all : (shape_of sub).is_plain ≡ true = ap (λ (x : Shape). x.is_plain) is ∙ plain in
    h.shape (is_off _ _ (and_right _ _ (and_right _ _ all))) ∙ ap₂ with_subcommand was is

-- ---- the subcommand that was met

pair_is : {B N R : Type 0} (x : Option B) (f : B → N) (g : B → R) (n : N) (r : R) → Some n ≡ option_map f x
    → Some r ≡ option_map (λ (p : N × R). p.1) (option_map {U = N × R} (λ b. (f b, g b)) x) → option_map {U = N × R} (λ b. (f b, g b)) x ≡ Some (n, r)
pair_is None f g n r h k = absurd (cc)
pair_is {B} {N} {R} (Some b) f g n r h k =
    let pair : N → R → Option (N × R) = λ y z. Some (y, z) in
    ap₂ pair (sym (ap (λ o. unwrap_or o n) h)) (sym (ap (λ o. unwrap_or o r) k))

none_is : {B N R : Type 0} (x : Option B) (f : B → N) (g : B → R) → None ≡ option_map f x → option_map {U = N × R} (λ b. (f b, g b)) x ≡ None
none_is None f g h = refl
none_is (Some b) f g h = absurd (cc)

pub met : (m : ArgMatches) (n : Text) (rows : List Row) → Some n ≡ subcommand_name_of m → Some rows ≡ option_map (λ (p : Text × List Row). p.1) (subcommand_rows_of m)
    → subcommand_rows_of m ≡ Some (n, rows)
met m n rows h k = pair_is (out-ArgMatches m).subcommand _ _ n rows h k

pub none_met : (m : ArgMatches) → None ≡ subcommand_name_of m → subcommand_rows_of m ≡ None
none_met m h = none_is (out-ArgMatches m).subcommand _ _ h

-- ---- the values of `serve`

-- what is asked for, unless it explains rules that aren't read
abbrev explained : Option Served → Option Served
explained o = option_and_then if_it_explains o

pub served_is : (rows : List Row) (listen id : Text) → Some listen ≡ first_of (codes "listen") rows → Some id ≡ first_of (codes "id") rows
    → served_by rows ≡ option_and_then if_it_explains (option_and_then (served_as_named rows listen) (zid_of_hex id))
served_is rows listen id h k =
    ap (λ (o : Option Text). explained (option_and_then (λ (l : Text). option_and_then (served_as_named rows l) (option_and_then zid_of_hex (first_of (codes "id") rows))) o)) (sym h)
    ∙ ap (λ (o : Option Text). explained (option_and_then (served_as_named rows listen) (option_and_then zid_of_hex o))) (sym k)

pub not_listening : (rows : List Row) → None ≡ first_of (codes "listen") rows → served_by rows ≡ None
not_listening rows h =
    ap (λ (o : Option Text). explained (option_and_then (λ (l : Text). option_and_then (served_as_named rows l) (option_and_then zid_of_hex (first_of (codes "id") rows))) o)) (sym h)

pub not_named : (rows : List Row) (listen : Text) → Some listen ≡ first_of (codes "listen") rows → None ≡ first_of (codes "id") rows → served_by rows ≡ None
not_named rows listen h k =
    ap (λ (o : Option Text). explained (option_and_then (λ (l : Text). option_and_then (served_as_named rows l) (option_and_then zid_of_hex (first_of (codes "id") rows))) o)) (sym h)
    ∙ ap (λ (o : Option Text). explained (option_and_then (served_as_named rows listen) (option_and_then zid_of_hex o))) (sym k)

-- ---- what is dialled

-- the words so far gave these dials, and the others will give what is left
pub dials_begin : (words : List Text) → option_map (λ ds. [] ++ ds) (dials_of words) ≡ dials_of words
dials_begin words = same (dials_of words)
  where
    same : (o : Option (List DialState)) → option_map (λ ds. [] ++ ds) o ≡ o
    same None = refl
    same (Some ds) = refl

pub dials_more : (words rest : List Text) (word : Text) (done : List DialState) (d : DialState) (all : Option (List DialState)) → words ≡ word ∷ rest → dial_of word ≡ Some d
    → option_map (λ ds. done ++ ds) (dials_of words) ≡ all → option_map (λ ds. (done ++ d ∷ []) ++ ds) (dials_of rest) ≡ all
dials_more words rest word done d all is reads so_far =
    moved (dials_of rest) ∙ (ap (λ o. option_map (λ ds. done ++ ds) (option_and_then (λ dial. option_map (λ dials. dial ∷ dials) (dials_of rest)) o)) (sym reads)
    ∙ (ap (λ ws. option_map (λ ds. done ++ ds) (dials_of ws)) (sym is) ∙ so_far))
  where
    moved : (o : Option (List DialState)) → option_map (λ ds. (done ++ d ∷ []) ++ ds) o ≡ option_map (λ ds. done ++ ds) (option_map (λ dials. d ∷ dials) o)
    moved None = refl
    moved (Some ds) = ap Some (append_assoc done (d ∷ []) ds)

pub dials_stop : (words rest : List Text) (word : Text) (done : List DialState) (all : Option (List DialState)) → words ≡ word ∷ rest → dial_of word ≡ None
    → option_map (λ ds. done ++ ds) (dials_of words) ≡ all → all ≡ None
dials_stop words rest word done all is reads so_far =
    sym so_far ∙ (ap (λ ws. option_map (λ ds. done ++ ds) (dials_of ws)) is
    ∙ ap (λ o. option_map (λ ds. done ++ ds) (option_and_then (λ dial. option_map (λ dials. dial ∷ dials) (dials_of rest)) o)) reads)

pub dials_over : (words : List Text) (done : List DialState) (all : Option (List DialState)) → words ≡ [] → option_map (λ ds. done ++ ds) (dials_of words) ≡ all → Some done ≡ all
dials_over words done all none so_far = sym (ap Some (append-nil done)) ∙ (ap (λ ws. option_map (λ ds. done ++ ds) (dials_of ws)) (sym none) ∙ so_far)
