-- How long messages are as they are written: by their keys, bodies and extensions, by the links of a record, and by what a set weighs.
use Rattle.std.proofs.Common.{◌≡◌, ℕ, ◌+◌, ◌*◌, ◌≤◌, ◌==◌, ◌&&◌, nat_lt, nat_le, not, Bool, true, false, cond, List, [], ◌∷◌, ◌++◌, length, Option, Some, None, arith}
use Rattle.std.specs.Prelude.{◌^◌}
use Rattle.std.specs.List.{flat_map, list_all, sum_by}
use Rattle.std.proofs.lemmas.Bool.{and_parts, leb-true, ltb-true}
use Rattle.std.proofs.lemmas.List.{length-append}
use Rattle.std.proofs.lemmas.List.Sums.{sum_by-append, sum_by-cons}
use Rattle.zr_bytes.specs.Flag.{has_flag}
use Rattle.zr_bytes.specs.Number.{writes}
use Rattle.zr_bytes.specs.Text.{writes_text}
use Rattle.zr_bytes.proofs.Numbers.{written_long}
use Rattle.zr_ext.specs.declared.ext.Ext.{Ext}
use Rattle.zr_ext.specs.declared.ext.Content.{Content}
use Rattle.zr_ext.specs.declared.ext.Content.TheVariants as content
use Rattle.zr_ext.specs.Writing.{writes_chain, writes_content, writes_ext}
use Rattle.zr_id.specs.Record.{LinkedState, RecordState, are_in_order, are_links}
use Rattle.zr_id.specs.Zid.{is_zid}
use Rattle.zr_wirekey.specs.Writing.{writes_key}
use Rattle.zr_log_set.specs.Decls.{weight, most_weight}
use Rattle.zr_msg.specs.declared.decl.Decl.{Decl}
use Rattle.zr_msg.specs.declared.extras.Extras.{Extras}
use Rattle.zr_msg.specs.declared.msg.Target.{Target}
use Rattle.zr_net.specs.Writing.{bytes_ext, kept_exts, number_ext, target_number}
use Rattle.zr_oam.specs.Writing.{is_decl, is_linked, weigh_one, writes_decl, writes_head, writes_linked, writes_own, writes_record, writes_snap, writes_step}
use Rattle.zr_oam.proofs.Keys.{key_small}
use Rattle.zr_wire.proofs.Snapshots.{decls_long}
use Rattle.zr_law_sent.specs.Passing.{IsSomeZid, extras_length, text_length}

-- ---- texts

pub text_long : (t : List ℕ) → length (writes_text t) ≤ length t + 9
text_long t = omega (arith, length-append (writes (length t)) t, written_long 8 (length t))

-- a key is written whole
pub key_long : (key : List ℕ) → length (writes_key key 0) ≤ length key + 18
key_long key = omega (arith, length-append (writes 0) (writes_text key), written_long 8 0, text_long key)

pub zid_short : (id : List ℕ) → is_zid id ≡ true → length id ≤ 16
zid_short id named =
    let few = and_parts (nat_lt 0 (length id) && nat_le (length id) 16) (not (list_all (λ b. b == 0) id)) named in
    leb-true (length id) 16 (and_parts (nat_lt 0 (length id)) (nat_le (length id) 16) few.0).1

pub some_zid_short : (o : Option (List ℕ)) → IsSomeZid o → text_length o ≤ 16
some_zid_short None named = omega arith
some_zid_short (Some id) named = zid_short id named

-- ---- extensions

abbrev content_long : Content → ℕ
content_long content.Unit = 0
content_long (content.Number n) = 0
content_long (content.Bytes b) = length b

abbrev ext_long : Ext → ℕ
ext_long ext = content_long ext.content + 10

one_long : (ext : Ext) (more : Bool) → length (writes_ext ext more) ≤ ext_long ext
one_long ext more = let long = by ext.content in omega (arith, long)
  where
    by : (c : Content) → length (writes_content c) ≤ content_long c + 9
    by content.Unit = omega arith
    by (content.Number n) = omega (arith, written_long 8 n)
    by (content.Bytes b) = omega (arith, text_long b)

chain_long : (exts : List Ext) → length (writes_chain exts) ≤ sum_by ext_long exts
chain_long [] = omega arith
chain_long (ext ∷ []) = omega (arith, one_long ext false, sum_by-cons ext_long ext [])
chain_long (ext ∷ next ∷ exts) =
    omega (arith, one_long ext true, length-append (writes_ext ext true) (writes_chain (next ∷ exts)), chain_long (next ∷ exts), sum_by-cons ext_long ext (next ∷ exts))

number_long : (id : ℕ) (mandatory : Bool) (o : Option ℕ) → sum_by ext_long (number_ext id mandatory o) ≤ 10
number_long id mandatory None = omega arith
number_long id mandatory (Some n) = omega (arith, sum_by-cons ext_long (record { id = id; mandatory = mandatory; content = content.Number n }) [])

bytes_long : (id : ℕ) (mandatory : Bool) (o : Option (List ℕ)) → sum_by ext_long (bytes_ext id mandatory o) ≤ text_length o + 10
bytes_long id mandatory None = omega arith
bytes_long id mandatory (Some b) = omega (arith, sum_by-cons ext_long (record { id = id; mandatory = mandatory; content = content.Bytes b }) [])

-- the extensions that go on with a message, and the tree
pub exts_long : (extras : Extras) (target : Target) (tree : Option (List ℕ)) → length (writes_chain (kept_exts extras target tree)) ≤ extras_length extras + text_length tree + 70
exts_long extras target tree =
    let qos : List Ext = number_ext 1 (has_flag extras.marks 0x02) extras.qos in
    let stamp : List Ext = bytes_ext 2 (has_flag extras.marks 0x04) extras.stamp in
    let responder : List Ext = bytes_ext 3 (has_flag extras.marks 0x08) extras.responder in
    let aim : List Ext = number_ext 4 (has_flag extras.marks 0x10) (target_number target) in
    let budget : List Ext = number_ext 5 (has_flag extras.marks 0x20) extras.budget in
    let timeout : List Ext = number_ext 6 (has_flag extras.marks 0x40) extras.timeout in
    let root : List Ext = bytes_ext 7 true tree in
    omega (
      arith,
      chain_long (kept_exts extras target tree),
      sum_by-append ext_long qos (stamp ++ (responder ++ (aim ++ (budget ++ (timeout ++ root))))),
      sum_by-append ext_long stamp (responder ++ (aim ++ (budget ++ (timeout ++ root)))),
      sum_by-append ext_long responder (aim ++ (budget ++ (timeout ++ root))),
      sum_by-append ext_long aim (budget ++ (timeout ++ root)),
      sum_by-append ext_long budget (timeout ++ root),
      sum_by-append ext_long timeout root,
      number_long 1 (has_flag extras.marks 0x02) extras.qos,
      bytes_long 2 (has_flag extras.marks 0x04) extras.stamp,
      bytes_long 3 (has_flag extras.marks 0x08) extras.responder,
      number_long 4 (has_flag extras.marks 0x10) (target_number target),
      number_long 5 (has_flag extras.marks 0x20) extras.budget,
      number_long 6 (has_flag extras.marks 0x40) extras.timeout,
      bytes_long 7 true tree,
    )

-- ---- what routers tell each other

own_long : (id : ℕ) (bytes : List ℕ) → length (writes_own id bytes) ≤ length bytes + 19
own_long id bytes = omega (arith, length-append (writes id) (writes_text bytes), written_long 8 id, text_long bytes)

linked_long : (weighted : Bool) (link : LinkedState) → is_linked link ≡ true → length (writes_linked weighted link) ≤ 34
linked_long weighted link made =
    let short = zid_short link.id (and_parts (is_zid link.id) (nat_lt 0 link.weight && nat_lt link.weight (2 ^ 16)) made).0 in
    by weighted short
  where
    by : (w : Bool) → length link.id ≤ 16 → length (writes_text link.id ++ cond w (writes link.weight) []) ≤ 34
    by true short = omega (arith, length-append (writes_text link.id) (writes link.weight), text_long link.id, written_long 8 link.weight, short)
    by false short = omega (arith, length-append (writes_text link.id) [], text_long link.id, short)

links_long : (weighted : Bool) (links : List LinkedState) → list_all is_linked links ≡ true → length (flat_map (λ link. writes_linked weighted link) links) ≤ 34 * length links
links_long weighted [] made = omega arith
links_long weighted (link ∷ links) made =
    let parts = and_parts (is_linked link) (list_all is_linked links) made in
    omega (
      arith,
      length-append (writes_linked weighted link) (flat_map (λ l. writes_linked weighted l) links),
      linked_long weighted link parts.0,
      links_long weighted links parts.1,
    )

record_long : (weighted : Bool) (r : RecordState) → is_zid r.id ≡ true → are_links r.id r.links ≡ true → list_all is_linked r.links ≡ true → length (writes_record weighted r) ≤ 2228300
record_long weighted r named few made =
    let all : List ℕ = flat_map (λ link. writes_linked weighted link) r.links in
    omega (
      arith,
      length-append (writes_text r.id) (writes r.seq ++ (writes (length r.links) ++ all)),
      length-append (writes r.seq) (writes (length r.links) ++ all),
      length-append (writes (length r.links)) all,
      text_long r.id,
      zid_short r.id named,
      written_long 8 r.seq,
      written_long 8 (length r.links),
      links_long weighted r.links made,
      ltb-true (length r.links) (2 ^ 16) (and_parts (nat_lt (length r.links) (2 ^ 16)) (are_in_order r.id None r.links) few).0,
    )

pub state_long : (r : RecordState) → is_zid r.id ≡ true → are_links r.id r.links ≡ true → list_all is_linked r.links ≡ true →
    length (cond (weigh_one r.links) (writes_own 0x5A01 (writes_record false r)) (writes_own 0x5A03 (writes_record true r))) ≤ 2228400
state_long r named few made = by (weigh_one r.links)
  where
    by : (b : Bool) → length (cond b (writes_own 0x5A01 (writes_record false r)) (writes_own 0x5A03 (writes_record true r))) ≤ 2228400
    by true = omega (arith, own_long 0x5A01 (writes_record false r), record_long false r named few made)
    by false = omega (arith, own_long 0x5A03 (writes_record true r), record_long true r named few made)

head_long : (form : ℕ) (source : List ℕ) (n : ℕ) → is_zid source ≡ true → length (writes_head form source n) ≤ 40
head_long form source n named = omega (arith, length-append (writes_text source) (writes n), text_long source, written_long 8 n, zid_short source named)

pub step_long : (source : List ℕ) (n : ℕ) (added : Bool) (d : Decl) → is_zid source ≡ true → is_decl d ≡ true → length (writes_own 0x5A02 (writes_step source n added d)) ≤ 2200
step_long source n added d named made =
    omega (
      arith,
      own_long 0x5A02 (writes_step source n added d),
      length-append (writes_head (cond added 1 2) source n) (writes_decl d),
      head_long (cond added 1 2) source n named,
      text_long d.key,
      key_small d.key made,
    )

pub snap_short : (source : List ℕ) (n : ℕ) (ds : List Decl) → is_zid source ≡ true → weight ds ≤ most_weight → length (writes_own 0x5A02 (writes_snap source n ds)) ≤ most_weight + 100
snap_short source n ds named light =
    let all : List ℕ = flat_map (λ d. writes_decl d) ds in
    omega (
      arith,
      own_long 0x5A02 (writes_snap source n ds),
      length-append (writes_head 0 source n) (writes (length ds) ++ all),
      length-append (writes (length ds)) all,
      head_long 0 source n named,
      written_long 8 (length ds),
      decls_long ds,
      light,
    )
