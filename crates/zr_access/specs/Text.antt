-- The text of rules: its lines, their words, and what each line says.
use Rattle.std.specs.Prelude.{◌≡◌, ℕ, ◌+◌, ◌-◌, ◌==◌, ◌&&◌, ◌||◌, not, nat_eq, nat_lt, nat_le, Bool, true, false, if◌then◌else◌, List, [], ◌∷◌, ◌++◌, length, take, filter, codes, Option, Some, None, is_some, Result, Ok, Err}
use Rattle.std.specs.List.{list_all, slice_split, slice_get, ends_with}
use Rattle.std.specs.Cmp.Lexicographic.{pointwise}
use Rattle.zr_id.specs.Zid.{zid_of_hex}
use Rattle.zr_key.specs.Key.{read_key}
use Rattle.zr_key.specs.declared.key.KeyError.{KeyError}
use Rattle.zr_access.specs.declared.policy.Act.{Act}
use Rattle.zr_access.specs.declared.policy.Act.TheVariants.{Sub, Able, Token, Interest, Put, Del, Get, Reply}
use Rattle.zr_access.specs.declared.line.Line.{Line}
use Rattle.zr_access.specs.declared.line.Line.TheVariants as says
use Rattle.zr_access.specs.declared.fault.PolicyFault.{PolicyFault}
use Rattle.zr_access.specs.declared.fault.PolicyFault.TheVariants.{BadWords, BadKey, Misplaced, TooLong}
use Rattle.zr_access.specs.declared.fault.PolicyError.{PolicyError}
use Rattle.zr_access.specs.declared.fault.PolicyError.TheVariants as policy_error
use Rattle.zr_access.specs.declared.fault.LineError.{LineError}
use Rattle.zr_access.specs.declared.fault.LineError.TheVariants as line_error
use Rattle.zr_access.specs.Rules.{PolicyState, open_policy}

-- ---- steps that may be refused

-- the second step, where the first was not refused
infixl 10 ◌>>=◌
abbrev pub ◌>>=◌ : {A B : Type 0} → Result A PolicyFault → (A → Result B PolicyFault) → Result B PolicyFault
(Ok x) >>= f = f x
(Err e) >>= f = Err e

-- what a call answered is what is said, unless memory ran out
abbrev pub IsSaid : {X : Type 0} → Result X LineError → Result X PolicyFault → Type 0
IsSaid (Ok x) said = said ≡ Ok x
IsSaid (Err (line_error.Fault fault)) said = said ≡ Err fault
IsSaid (Err line_error.NoMemory) said = Unit {0}

-- ---- words

abbrev pub is_word : List ℕ → List ℕ → Bool
is_word a b = pointwise nat_eq a b

abbrev pub allows_at : List ℕ → Result Bool PolicyFault
allows_at word = if is_word word (codes "allow") then Ok true else if is_word word (codes "deny") then Ok false else Err BadWords

-- the client that a word names: `*` is each client
abbrev pub client_named : Option (List ℕ) → Result (Option (List ℕ)) PolicyFault
client_named (Some id) = Ok (Some id)
client_named None = Err BadWords

abbrev pub client_at : List ℕ → Result (Option (List ℕ)) PolicyFault
client_at word = if is_word word (codes "*") then Ok None else client_named (zid_of_hex word)

-- the act that a word names: `*` is each act
abbrev pub named_act : List ℕ → Option Act
named_act word =
    if is_word word (codes "sub") then Some Sub
    else if is_word word (codes "able") then Some Able
    else if is_word word (codes "token") then Some Token
    else if is_word word (codes "interest") then Some Interest
    else if is_word word (codes "put") then Some Put
    else if is_word word (codes "del") then Some Del
    else if is_word word (codes "get") then Some Get
    else if is_word word (codes "reply") then Some Reply
    else None

abbrev pub act_named : Option Act → Result (Option Act) PolicyFault
act_named (Some act) = Ok (Some act)
act_named None = Err BadWords

abbrev pub act_at : List ℕ → Result (Option Act) PolicyFault
act_at word = if is_word word (codes "*") then Ok None else act_named (named_act word)

abbrev pub key_read : Result (List ℕ) KeyError → Result (List ℕ) PolicyFault
key_read (Ok key) = Ok key
key_read (Err e) = Err BadKey

abbrev pub key_at : List ℕ → Result (List ℕ) PolicyFault
key_at word = key_read (read_key word)

-- ---- one line

-- how many bytes a line has at most, without its end
abbrev pub most_line : ℕ
most_line = 4096

-- how many lines there are at most
abbrev pub most_lines : ℕ
most_lines = 4096

-- a line that says nothing: it is empty, or begins with `#`
abbrev pub is_silent : List ℕ → Bool
is_silent [] = true
is_silent (b ∷ bs) = b == 35

-- no control character of one byte
abbrev pub is_readable : ℕ → Bool
is_readable b = nat_le 32 b && not (b == 127)

abbrev pub is_space : Option ℕ → Bool
is_space None = false
is_space (Some b) = b == 32

-- a line without control characters that neither begins nor ends with a space
abbrev pub is_clean : List ℕ → Bool
is_clean line = list_all is_readable line && not (is_space (slice_get line 0)) && not (is_space (slice_get line (length line - 1)))

-- the words of a line, parted by one or more spaces
abbrev pub words : List ℕ → List (List ℕ)
words line = filter (λ word. nat_lt 0 (length word)) (slice_split (λ b. b == 32) line)

abbrev pub four_of : List (List ℕ) → Option (List ℕ × List ℕ × List ℕ × List ℕ)
four_of [] = None
four_of (a ∷ []) = None
four_of (a ∷ b ∷ []) = None
four_of (a ∷ b ∷ c ∷ []) = None
four_of (a ∷ b ∷ c ∷ d ∷ []) = Some (a, b, c, d)
four_of (a ∷ b ∷ c ∷ d ∷ e ∷ more) = None

abbrev pub two_of : List (List ℕ) → Option (List ℕ × List ℕ)
two_of [] = None
two_of (a ∷ []) = None
two_of (a ∷ b ∷ []) = Some (a, b)
two_of (a ∷ b ∷ c ∷ more) = None

-- allow CLIENT ACT KEY, or deny CLIENT ACT KEY
unfoldable pub rule_line : ℕ → List ℕ → List ℕ → List ℕ → List ℕ → Result Line PolicyFault
rule_line number verb name deed text = do
  allows ← allows_at verb
  client ← client_at name
  act ← act_at deed
  key ← key_at text
  Ok (says.Rule (record { line = number; allows = allows; client = client; act = act; key = key }))

-- default allow, or default deny
unfoldable pub default_line : ℕ → List ℕ → List ℕ → Result Line PolicyFault
default_line number name verb =
    if not (is_word name (codes "default")) then Err BadWords
    else allows_at verb >>= (λ allows. Ok (says.Default (record { line = number; allows = allows })))

abbrev pub by_form : ℕ → Option (List ℕ × List ℕ × List ℕ × List ℕ) → Option (List ℕ × List ℕ) → Result Line PolicyFault
by_form number (Some (verb, name, deed, text)) two = rule_line number verb name deed text
by_form number None (Some (name, verb)) = default_line number name verb
by_form number None None = Err BadWords

abbrev pub by_words : ℕ → List (List ℕ) → Result Line PolicyFault
by_words number ws = by_form number (four_of ws) (two_of ws)

-- What the line of this number says, behind the default or not. Its first fault is told: it is too long or one too many; it says something behind the
-- default; its words or bytes fit no rule; its last word is no expression
unfoldable pub line_of : ℕ → Bool → List ℕ → Result Line PolicyFault
line_of number behind line =
    if nat_lt most_line (length line) || nat_lt most_lines number then Err TooLong
    else if is_silent line then Ok says.Silent
    else if behind then Err Misplaced
    else if not (is_clean line) then Err BadWords
    else by_words number (words line)

-- ---- all lines

-- what a line adds
abbrev pub with_line : PolicyState → Line → PolicyState
with_line p says.Silent = p
with_line p (says.Rule r) = record { rules = p.rules ++ r ∷ []; default = p.default }
with_line p (says.Default d) = record { rules = p.rules; default = Some d }

-- what a line says leads on; its fault is told with the line's number
abbrev pub told : {X : Type 0} → ℕ → Result Line PolicyFault → (Line → Result X (ℕ × PolicyFault)) → Result X (ℕ × PolicyFault)
told number (Ok line) next = next line
told number (Err fault) next = Err (number, fault)

-- the policy of the lines behind so many, or the first faulty line and its fault
abbrev pub read_lines : ℕ → PolicyState → List (List ℕ) → Result PolicyState (ℕ × PolicyFault)
read_lines number p [] = Ok p
read_lines number p (line ∷ lines) = told (number + 1) (line_of (number + 1) (is_some p.default) line) (λ said. read_lines (number + 1) (with_line p said) lines)

-- a text without the end of its last line
abbrev pub unended : List ℕ → List ℕ
unended text = if ends_with nat_eq text (10 ∷ []) then take (length text - 1) text else text

-- the lines of a text: each is ended by the byte 10, and the last may lack it
abbrev pub lines : List ℕ → List (List ℕ)
lines [] = []
lines (b ∷ bs) = slice_split (λ c. c == 10) (unended (b ∷ bs))

-- the policy of a text
abbrev pub policy_of : List ℕ → Result PolicyState (ℕ × PolicyFault)
policy_of text = read_lines 0 open_policy (lines text)

-- what a call read is this policy or this fault, unless memory ran out
abbrev pub IsRead : Result PolicyState PolicyError → Result PolicyState (ℕ × PolicyFault) → Type 0
IsRead (Ok p) said = said ≡ Ok p
IsRead (Err (policy_error.Refused line fault)) said = said ≡ Err (line, fault)
IsRead (Err policy_error.NoMemory) said = Unit {0}
