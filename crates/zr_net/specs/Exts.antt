-- Extensions of network messages (Zenoh protocol 1.0, "Network messages"; which are known, and which are mandatory, is this profile's choice).
-- Quality of service (1), timestamp (2), responder (3, bytes), target (4), budget (5) and timeout (6) are passed on, each with the M that it was read
-- with. The node id (3, a number) is not. The root of a message's tree (7) stands on links between routers alone.
use Rattle.std.specs.Prelude.{ℕ, ◌==◌, ◌&&◌, ◌||◌, not, Bool, false, List, [], ◌∷◌, Option, Some, None, Result, Ok, Err, if◌then◌else◌, fold, bit_or}
use Rattle.zr_bytes.specs.declared.read_error.ReadError.{ReadError}
use Rattle.zr_bytes.specs.declared.read_error.ReadError.TheVariants.{BadText}
use Rattle.zr_ext.specs.declared.ext.Ext.{Ext}
use Rattle.zr_ext.specs.declared.ext.Content.{Content}
use Rattle.zr_ext.specs.declared.ext.Content.TheVariants as content
use Rattle.zr_ext.specs.declared.ext.Form.{Form}
use Rattle.zr_ext.specs.declared.ext.Form.TheVariants as form
use Rattle.zr_ext.specs.Header.{content_number}
use Rattle.zr_id.specs.Zid.{is_zid}
use Rattle.zr_msg.specs.declared.extras.Extras.{Extras}
use Rattle.zr_msg.specs.declared.msg.Target.{Target}
use Rattle.zr_msg.specs.declared.msg.Target.TheVariants.{Best, All, Complete}
use Rattle.zr_msg.specs.declared.peer.Role.{Role}
use Rattle.zr_msg.specs.declared.peer.Role.TheVariants.{Client, Router}

-- ---- which are known

abbrev pub tree_known : Role → List (ℕ × Form)
tree_known Client = []
tree_known Router = (7, form.Bytes) ∷ []

-- of a PUSH
abbrev pub push_known : Role → List (ℕ × Form)
push_known role = (1, form.Number) ∷ (2, form.Bytes) ∷ (3, form.Number) ∷ tree_known role

-- of a REQUEST
abbrev pub request_known : Role → List (ℕ × Form)
request_known role = (1, form.Number) ∷ (2, form.Bytes) ∷ (3, form.Number) ∷ (4, form.Number) ∷ (5, form.Number) ∷ (6, form.Number) ∷ tree_known role

-- of a RESPONSE
abbrev pub response_known : List (ℕ × Form)
response_known = (1, form.Number) ∷ (2, form.Bytes) ∷ (3, form.Bytes) ∷ []

-- of a RESPONSE_FINAL
abbrev pub final_known : List (ℕ × Form)
final_known = (1, form.Number) ∷ (2, form.Bytes) ∷ []

-- ---- what they say

-- the bytes that a content is, where it is some
abbrev pub content_bytes : Content → Option (List ℕ)
content_bytes content.Unit = None
content_bytes (content.Number n) = None
content_bytes (content.Bytes b) = Some b

-- a value, or else another one
abbrev pub or_else : {X : Type 0} → Option X → Option X → Option X
or_else None other = other
or_else (Some x) other = Some x

-- the number that the extension of this id says
abbrev pub number_in : ℕ → Ext → Option ℕ
number_in id ext = if ext.id == id then content_number ext.content else None

abbrev pub number_at : ℕ → List Ext → Option ℕ
number_at id [] = None
number_at id (ext ∷ exts) = or_else (number_in id ext) (number_at id exts)

-- the bytes that the extension of this id says
abbrev pub bytes_in : ℕ → Ext → Option (List ℕ)
bytes_in id ext = if ext.id == id then content_bytes ext.content else None

abbrev pub bytes_at : ℕ → List Ext → Option (List ℕ)
bytes_at id [] = None
bytes_at id (ext ∷ exts) = or_else (bytes_in id ext) (bytes_at id exts)

-- the kept ones: a target of 0 is as good as none
abbrev pub is_kept_number : ℕ → ℕ → Bool
is_kept_number id n = (id == 1 || id == 5) || (id == 6 || (id == 4 && not (n == 0)))

abbrev pub is_kept_content : ℕ → Content → Bool
is_kept_content id content.Unit = false
is_kept_content id (content.Number n) = is_kept_number id n
is_kept_content id (content.Bytes b) = id == 2 || id == 3

-- the bit of an id
abbrev pub bit_of : ℕ → ℕ
bit_of id =
    if id == 1 then 0x02 else (if id == 2 then 0x04 else (if id == 3 then 0x08 else (if id == 4 then 0x10 else (if id == 5 then 0x20 else (if id == 6 then 0x40 else 0)))))

-- the bit of a kept extension that is mandatory is set
abbrev pub with_mark : ℕ → Ext → ℕ
with_mark marks ext = if ext.mandatory && is_kept_content ext.id ext.content then bit_or marks (bit_of ext.id) else marks

-- the bits of all kept extensions that are mandatory
abbrev pub marks_of : List Ext → ℕ
marks_of exts = fold with_mark 0 exts

-- what a message passes on of its extensions
abbrev pub extras_of : List Ext → Extras
extras_of exts = record {
  qos = number_at 1 exts;
  stamp = bytes_at 2 exts;
  budget = number_at 5 exts;
  timeout = number_at 6 exts;
  responder = bytes_at 3 exts;
  marks = marks_of exts;
}

-- which queryables a request is for; a target of which there is none is refused
abbrev pub target_of : Option ℕ → Result Target ReadError
target_of None = Ok Best
target_of (Some n) = if n == 0 then Ok Best else (if n == 1 then Ok All else (if n == 2 then Ok Complete else Err BadText))

-- the root of the tree along which a message goes; bytes that are no identifier are refused
abbrev pub tree_of : Option (List ℕ) → Result (Option (List ℕ)) ReadError
tree_of None = Ok None
tree_of (Some id) = if is_zid id then Ok (Some id) else Err BadText
