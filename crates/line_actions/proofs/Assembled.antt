-- An action from the fields of its object: where one of them is malformed the action is, and else it has them all.
use mathlib.Core.Path.{◌≡◌, refl, sym, ap, ◌∙◌}
use mathlib.Core.Bool.{Bool, true, false}
use Rattle.std.specs.Prelude.{Option, None, Some}
use Rattle.std.specs.Option.{unwrap_or}
use mathlib.Core.List.{List, [], ◌∷◌}
use Prim.Native.Nat.{ℕ, zero, suc, ◌+◌, ◌-◌, ◌≤◌}
use native.Mathlib.Omega.{arith}
use lib.Dec.{leb}
use lib.ListN.{length, take, drop, length-drop}
use lib.Seq.{drop-drop}
use Rattle.facts.specs.Parts.{part}
use Rattle.facts.proofs.Parts.{part-rest}
use Rattle.rules.specs.Actions.{in_action, in_field, Pairs, Facts, MetaData as RuleMetaData, Action, add, remove, protocol, meta_data, mergeskip}
use Rattle.rules.specs.Actions.{most_columns, id_at, add_of, path_at, partition_values_at, protocol_of, meta_data_of, action_by, action}
use Rattle.rules.specs.Actions.{skip_count_in, or_at_once, skip_of, only_one, path_written, path_left}
use Rattle.rules.specs.Bytes.{Bytes, ascii, ◌>>=◌, guard, among, distinct}
use Rattle.rules.specs.Json.Text.{Text, behind, byte}
use Rattle.rules.specs.Json.Numbers.{whole}
use Rattle.rules.specs.Json.Strings.{string}
use Rattle.rules.specs.Json.Values.{Member, object_of}
use Rattle.rules.specs.Json.Fields.{under, once, optional, string_of, unquoted, bool_of, if_there, strings_of, string_at, whole_at}
use Rattle.rules.proofs.Tests.{apart}
use Rattle.rules.proofs.Json.Suffix.{bound, reads-fewer}
use Rattle.rules.proofs.Json.Shadows.{behind-some}
use Rattle.rules.proofs.Json.StringReads.{string-reads}
use Rattle.rules.proofs.Json.Places.{unquoted-place}
use Rattle.rules.proofs.PathPlaces.{path_left-by}
use Rattle.json_strings.specs.Decoded.{decoded}
use Rattle.json_strings.proofs.Decoding.{decoded-some}
use Rattle.field_names.specs.Kinds.{names_of}
use Rattle.field_objects.specs.Slots.{text_in}
use Rattle.field_objects.specs.declared.notes.Slot.{Slot}
use Rattle.field_objects.proofs.Slots.{slot-once}
use Rattle.line_actions.specs.Begun.{Lined}
use Rattle.field_scalars.specs.Counts.{count_in}
use Rattle.field_scalars.specs.Inside.{Inside, whole_in, bool_in, string_in, optional_whole_in}
use Rattle.field_containers.specs.Nested.{Pairing, values_in, columns_of, columns_in, ColumnsIs, UsualIs}
use Rattle.field_containers.specs.declared.nested.Usual.{Usual}
use Rattle.field_containers.specs.Featured.{features_in, Known}
use Rattle.line_actions.specs.Line.{ActionIs}
use Rattle.field_scalars.specs.Texts.{Read, path_of, id_of, PathIs}
use Rattle.field_scalars.specs.Versions.{version_of}
use Rattle.line_actions.specs.declared.line.Action.TheVariants.{Add, Remove, Protocol, MetaData, Mergeskip}
use Rattle.line_actions.proofs.Lines.{lined-action}
use Rattle.line_actions.proofs.Slotted.{lined-inside}
use Rattle.field_scalars.proofs.Single.{inside-single}
use Rattle.field_scalars.proofs.Counted.{field-count}
use Rattle.field_scalars.proofs.Stated.{field-whole, field-bool, field-string, field-optional, field-path, field-version}
use Rattle.field_containers.proofs.Stated.{field-values, field-features, field-columns}
use Rattle.field_scalars.proofs.Strings.{byte-text, string-behind}

-- ---- a path that is spelled in its place

-- the field of a string that is there stands once
string-single : (s : Text) (x : Slot) {y : Bytes} → string_in s x ≡ Some y → (x.seen ≡ 1) × (string_of (take (x.end - x.start) (drop x.start s)) ≡ Some y)
string-single s x {y} e = go x.seen refl e
  where
    go : (n : ℕ) → x.seen ≡ n → (text_in s n x.start x.end >>= string_of) ≡ Some y
        → (x.seen ≡ 1) × (string_of (take (x.end - x.start) (drop x.start s)) ≡ Some y)
    go zero p f = apart (cc)
    go (suc zero) p f = (p, f)
    go (suc (suc n)) p f = apart (cc)

path-string : (o : Option Bytes) {y : Bytes} → path_of o ≡ Some y → o ≡ Some y
path-string None e = apart (cc)
path-string (Some z) {y} e = go (among 1 512 (length z)) e
  where
    go : (test : Bool) → (guard test >>= (λ _. Some z)) ≡ Some y → Some z ≡ Some y
    go true f = f
    go false f = apart (cc)

pub record Placed (s : Text) (v e : ℕ) (y : Bytes) : Type 0 where
  pub quote : drop v s ≡ 0x22 ∷ drop (v + 1) s
  pub read : string (drop (v + 1) s) ≡ Some (y, drop e s)
  pub further : v + 2 ≤ e
  pub within : e ≤ length s

placed : (s : Text) (v e : ℕ) (y : Bytes) → v ≤ e → e ≤ length s → string_of (take (e - v) (drop v s)) ≡ Some y → Placed s v e y
unfolding part
placed s v e y h k f =
    bound (byte 0x22 (drop v s)) string
    (sym (ap (λ (t : Text). byte 0x22 t >>= string) (part-rest s v e h)) ∙ string-behind (take (e - v) (drop v s)) (drop e s) f) (λ t b g.
    let q : drop v s ≡ 0x22 ∷ t = byte-text 0x22 (drop v s) b in
    let m : length s - v ≡ suc (length t) = sym (length-drop v s) ∙ ap length q in
    let r : t ≡ drop (v + 1) s = rest-is t q in
    let few : length (drop e s) + 1 ≤ length t = reads-fewer (string-reads y t (drop e s) g) in
    let n : length (drop e s) ≡ length s - e = length-drop e s in
    record {
      quote = q ∙ ap (λ (u : Text). 0x22 ∷ u) r;
      read = sym (ap string r) ∙ g;
      further = omega arith;
      within = k;
    })
  where
    rest-is : (t : Text) → drop v s ≡ 0x22 ∷ t → t ≡ drop (v + 1) s
    rest-is t q = sym (ap (drop 1) q) ∙ drop-drop 1 v s

path-placed : (s : Text) (x : Slot) (y : Bytes) → Inside s x → path_of (string_in s x) ≡ Some y → Placed s x.start x.end y
path-placed s x y i e =
    let (sole, f) = string-single s x (path-string (string_in s x) e) in
    let (h, k) = inside-single s x sole i in
    placed s x.start x.end y h k f

-- and where it begins, by the places of the fields
path-left : (s : Text) (k : ℕ) {slots : List Slot} (l : Lined s k slots) (x : Slot) {y : Bytes} → Placed s x.start x.end y
    → once "path" l.lefts ≡ Some (drop x.start s) → path_left s ≡ Some (drop (x.start + 1) s)
unfolding only_one byte
path-left s k l x p e = path_left-by s l.line-left refl l.object-left e (ap (byte 0x22) p.quote)

-- ---- add

abbrev facts : Option Bytes → Option ℕ → Option ℕ → Option Bool → Option Pairs → Option (Option ℕ) → Option Facts
facts p s t c v n = p >>= (λ p. s >>= (λ s. t >>= (λ t. c >>= (λ _. v >>= (λ ps. n >>= (λ n.
    Some (record { path = p; size = s; modification_time = t; num_records = n; partition_values = ps })))))))

add-facts : (ms : List Member)
    → add_of ms
    ≡ facts (path_at ms) (whole_at "size" ms) (whole_at "modificationTime" ms) (once "dataChange" ms >>= bool_of) (partition_values_at ms)
    (optional "numRecords" ms >>= if_there whole)
unfolding add_of
add-facts ms = go (path_at ms) (whole_at "size" ms) (whole_at "modificationTime" ms) (once "dataChange" ms) (partition_values_at ms) (optional "numRecords" ms)
  where
    go : (p : Option Bytes) (s t : Option ℕ) (c : Option Text) (v : Option Pairs) (n : Option (Option Text))
        → (p >>= (λ p. s >>= (λ s. t >>= (λ t. c >>= (λ c. bool_of c >>= (λ _. v >>= (λ ps. n >>= (λ v. if_there whole v >>= (λ n.
        Some (record { path = p; size = s; modification_time = t; num_records = n; partition_values = ps }))))))))))
        ≡ facts p s t (c >>= bool_of) v (n >>= if_there whole)
    go None s t c v n = refl
    go (Some p) None t c v n = refl
    go (Some p) (Some s) None c v n = refl
    go (Some p) (Some s) (Some t) None v n = refl
    go (Some p) (Some s) (Some t) (Some c) v None = refl
    go (Some p) (Some s) (Some t) (Some c) v (Some n) = refl

added : Option Bytes → Option ℕ → Option ℕ → Option Bool → Option Pairs → Option (Option ℕ) → Option Action
added p s t c v n = facts p s t c v n >>= (λ a. Some (add a))

no-path : (p : Option Bytes) (s t : Option ℕ) (c : Option Bool) (v : Option Pairs) (n : Option (Option ℕ)) → p ≡ None → added p s t c v n ≡ None
unfolding added
no-path p s t c v n e = rw e

no_size : (p : Option Bytes) (s t : Option ℕ) (c : Option Bool) (v : Option Pairs) (n : Option (Option ℕ)) → s ≡ None → added p s t c v n ≡ None
unfolding added
no_size None s t c v n e = refl
no_size (Some p) s t c v n e = rw e

no-time : (p : Option Bytes) (s t : Option ℕ) (c : Option Bool) (v : Option Pairs) (n : Option (Option ℕ)) → t ≡ None → added p s t c v n ≡ None
unfolding added
no-time None s t c v n e = refl
no-time (Some p) None t c v n e = refl
no-time (Some p) (Some s) t c v n e = rw e

no_change : (p : Option Bytes) (s t : Option ℕ) (c : Option Bool) (v : Option Pairs) (n : Option (Option ℕ)) → c ≡ None → added p s t c v n ≡ None
unfolding added
no_change None s t c v n e = refl
no_change (Some p) None t c v n e = refl
no_change (Some p) (Some s) None c v n e = refl
no_change (Some p) (Some s) (Some t) c v n e = rw e

no-values : (p : Option Bytes) (s t : Option ℕ) (c : Option Bool) (v : Option Pairs) (n : Option (Option ℕ)) → v ≡ None → added p s t c v n ≡ None
unfolding added
no-values None s t c v n e = refl
no-values (Some p) None t c v n e = refl
no-values (Some p) (Some s) None c v n e = refl
no-values (Some p) (Some s) (Some t) None v n e = refl
no-values (Some p) (Some s) (Some t) (Some c) v n e = rw e

no-records : (p : Option Bytes) (s t : Option ℕ) (c : Option Bool) (v : Option Pairs) (n : Option (Option ℕ)) → n ≡ None → added p s t c v n ≡ None
unfolding added
no-records None s t c v n e = refl
no-records (Some p) None t c v n e = refl
no-records (Some p) (Some s) None c v n e = refl
no-records (Some p) (Some s) (Some t) None v n e = refl
no-records (Some p) (Some s) (Some t) (Some c) None n e = refl
no-records (Some p) (Some s) (Some t) (Some c) (Some v) n e = rw e

module _ (s : Text) {path size time change values records : Slot} (l : Lined s 0 (path ∷ size ∷ time ∷ change ∷ values ∷ records ∷ [])) where
  lined-add : action s
      ≡ added (path_of (string_in s path)) (whole_in s size) (whole_in s time) (bool_in s change) (values_in s values) (optional_whole_in s records)
  unfolding action_by names_of added
  lined-add =
      let a = field-path s path l.ms (l.each 0 (omega arith)) in
      let b = field-whole s size "size" l.ms (l.each 1 (omega arith)) in
      let c = field-whole s time "modificationTime" l.ms (l.each 2 (omega arith)) in
      let d = field-bool s change "dataChange" l.ms (l.each 3 (omega arith)) in
      let e = field-values s values l.ms (l.each 4 (omega arith)) in
      let g = field-optional s records "numRecords" l.ms (l.each 5 (omega arith)) in
      lined-action s 0 l ∙ ap (λ o. o >>= (λ ms. add_of ms >>= (λ a. Some (add a)))) l.object
      ∙ ap (λ o. o >>= (λ a. Some (add a))) (add-facts l.ms) ∙ rw (a, b, c, d, e, g)

  pub add-no-path : path_of (string_in s path) ≡ None → action s ≡ None
  add-no-path e =
      lined-add
      ∙ no-path (path_of (string_in s path)) (whole_in s size) (whole_in s time) (bool_in s change) (values_in s values) (optional_whole_in s records) e

  pub add-no-size : whole_in s size ≡ None → action s ≡ None
  add-no-size e =
      lined-add
      ∙ no_size (path_of (string_in s path)) (whole_in s size) (whole_in s time) (bool_in s change) (values_in s values) (optional_whole_in s records) e

  pub add-no-time : whole_in s time ≡ None → action s ≡ None
  add-no-time e =
      lined-add
      ∙ no-time (path_of (string_in s path)) (whole_in s size) (whole_in s time) (bool_in s change) (values_in s values) (optional_whole_in s records) e

  pub add-no-change : bool_in s change ≡ None → action s ≡ None
  add-no-change e =
      lined-add
      ∙ no_change (path_of (string_in s path)) (whole_in s size) (whole_in s time) (bool_in s change) (values_in s values) (optional_whole_in s records) e

  pub add-no-values : values_in s values ≡ None → action s ≡ None
  add-no-values e =
      lined-add
      ∙ no-values (path_of (string_in s path)) (whole_in s size) (whole_in s time) (bool_in s change) (values_in s values) (optional_whole_in s records) e

  pub add-no-records : optional_whole_in s records ≡ None → action s ≡ None
  add-no-records e =
      lined-add
      ∙ no-records (path_of (string_in s path)) (whole_in s size) (whole_in s time) (bool_in s change) (values_in s values) (optional_whole_in s records) e

  pub add-placed : (y : Bytes) → path_of (string_in s path) ≡ Some y → Placed s path.start path.end y
  unfolding names_of
  add-placed y e = path-placed s path y (lined-inside s 0 l 0 (omega arith)) e

  -- the path as the line writes it
  path-written : (y : Bytes) → path_of (string_in s path) ≡ Some y → path_written s ≡ Some (part s (path.start + 1) (path.end - 1))
  unfolding path_written names_of part
  path-written y e =
      let v = path.start in
      let k = path.end in
      let p = add-placed y e in
      let (sole, g) = string-single s path (path-string (string_in s path) e) in
      let o : once "path" l.ms ≡ Some (take (k - v) (drop v s)) =
      slot-once s "path" l.ms path.seen v k (l.each 0 (omega arith)) ∙ ap (λ (n : ℕ). text_in s n v k) sole in
      let far : v + 2 ≤ k = p.further in
      let count : k - v - 2 ≡ k - 1 - (v + 1) = omega arith in
      ap (λ o. o >>= (λ m. object_of in_action m.1 >>= (λ ms. once "path" ms >>= (λ v. Some (unquoted v))))) l.line
      ∙ ap (λ o. o >>= (λ ms. once "path" ms >>= (λ v. Some (unquoted v)))) l.object
      ∙ ap (λ o. o >>= (λ v. Some (unquoted v))) o
      ∙ ap Some (unquoted-place s v k (omega arith) p.within 0x22 p.quote ∙ ap (λ (n : ℕ). take n (drop (v + 1) s)) count)

  add-starts : path.seen ≡ 1 → once "path" l.lefts ≡ Some (drop path.start s)
  unfolding once names_of
  add-starts o = l.starts 0 (omega arith) o

  pub add-there : (y : Bytes) (a t at : ℕ) (u : Usual) (b : Bool) (ps : Pairs) (n : Option ℕ)
      → path_of (string_in s path) ≡ Some y → whole_in s size ≡ Some a → whole_in s time ≡ Some t
      → bool_in s change ≡ Some b → values_in s values ≡ Some ps → Pairing s at ps → UsualIs s at u → optional_whole_in s records ≡ Some n
      → ActionIs (action s) s (Some (Add (record { path = path.start + 1; end = path.end - 1; size = a; time = t; records = n; values = at; usual = u })))
  unfolding added
  add-there y a t at u b ps n e1 e2 e3 e4 e5 q told e6 =
      let p = add-placed y e1 in
      let far : path.start + 2 ≤ path.end = p.further in
      let fits : path.end ≤ length s = p.within in (
        record { path = y; size = a; modification_time = t; num_records = n; partition_values = ps },
        lined-add ∙ rw (e1, e2, e3, e4, e5, e6),
        record {
          spelled = record { end = path.end; closed = ap behind p.read };
          path = decoded-some (drop (path.start + 1) s) p.read;
          written = path-written y e1;
          left = path-left s 0 l path p (add-starts (string-single s path (path-string (string_in s path) e1)).0);
          ordered = omega arith;
          within = omega arith;
          size = refl;
          time = refl;
          records = refl;
          values = q;
          usual = told;
        },
      )

-- ---- remove

module _ (s : Text) {path : Slot} (l : Lined s 1 (path ∷ [])) where
  lined-remove : action s ≡ (path_of (string_in s path) >>= (λ p. Some (remove p)))
  unfolding action_by names_of
  lined-remove = lined-action s 1 l ∙ ap (λ o. o >>= (λ ms. path_at ms >>= (λ p. Some (remove p)))) l.object
      ∙ ap (λ o. o >>= (λ p. Some (remove p))) (field-path s path l.ms (l.each 0 (omega arith)))

  pub remove-no-path : path_of (string_in s path) ≡ None → action s ≡ None
  remove-no-path e = lined-remove ∙ rw e

  remove-starts : path.seen ≡ 1 → once "path" l.lefts ≡ Some (drop path.start s)
  unfolding once names_of
  remove-starts o = l.starts 0 (omega arith) o

  pub remove-there : (p : ℕ) → PathIs (path_of (string_in s path)) s path.start (Some p) → ActionIs (action s) s (Some (Remove p))
  unfolding names_of
  remove-there p (r, place) =
      let (y, g) = behind-some (string (drop p s)) r.spelled.closed in
      let few : length (drop r.spelled.end s) + 1 ≤ length (drop p s) = reads-fewer (string-reads y (drop p s) (drop r.spelled.end s) g) in
      let n : length (drop p s) ≡ length s - p = length-drop p s in
      let single = (string-single s path (path-string (string_in s path) r.says)).0 in
      let left = path-left s 1 l path (path-placed s path _ (lined-inside s 1 l 0 (omega arith)) r.says) (remove-starts single) in
      (lined-remove ∙ ap (λ o. o >>= (λ p. Some (remove p))) r.says, r.spelled, omega arith, left ∙ ap (λ (i : ℕ). Some (drop i s)) (sym place))

-- ---- protocol

stated : Option ℕ → Option ℕ → Option (List Bytes) → Option (List Bytes) → Option Action
stated r w rs ws = (r >>= (λ r. w >>= (λ w. rs >>= (λ rs. ws >>= (λ ws.
    Some (record { min_reader_version = r; min_writer_version = w; reader_features = rs; writer_features = ws })))))) >>= (λ p. Some (protocol p))

no_reader : (r w : Option ℕ) (rs ws : Option (List Bytes)) → r ≡ None → stated r w rs ws ≡ None
unfolding stated
no_reader r w rs ws e = rw e

no-writer : (r w : Option ℕ) (rs ws : Option (List Bytes)) → w ≡ None → stated r w rs ws ≡ None
unfolding stated
no-writer None w rs ws e = refl
no-writer (Some r) w rs ws e = rw e

no-reader-features : (r w : Option ℕ) (rs ws : Option (List Bytes)) → rs ≡ None → stated r w rs ws ≡ None
unfolding stated
no-reader-features None w rs ws e = refl
no-reader-features (Some r) None rs ws e = refl
no-reader-features (Some r) (Some w) rs ws e = rw e

no-writer-features : (r w : Option ℕ) (rs ws : Option (List Bytes)) → ws ≡ None → stated r w rs ws ≡ None
unfolding stated
no-writer-features None w rs ws e = refl
no-writer-features (Some r) None rs ws e = refl
no-writer-features (Some r) (Some w) None ws e = refl
no-writer-features (Some r) (Some w) (Some rs) ws e = rw e

module _ (s : Text) {reader writer readers writers : Slot} (l : Lined s 2 (reader ∷ writer ∷ readers ∷ writers ∷ [])) where
  lined-protocol : action s ≡ stated (version_of (whole_in s reader)) (version_of (whole_in s writer)) (features_in s readers) (features_in s writers)
  unfolding action_by names_of protocol_of stated
  lined-protocol =
      let a = field-version s reader "minReaderVersion" l.ms (l.each 0 (omega arith)) in
      let b = field-version s writer "minWriterVersion" l.ms (l.each 1 (omega arith)) in
      let c = field-features s readers "readerFeatures" l.ms (l.each 2 (omega arith)) in
      let d = field-features s writers "writerFeatures" l.ms (l.each 3 (omega arith)) in
      lined-action s 2 l ∙ ap (λ o. o >>= (λ ms. protocol_of ms >>= (λ p. Some (protocol p)))) l.object ∙ rw (protocol_of, a, b, c, d)

  pub protocol-no-reader : version_of (whole_in s reader) ≡ None → action s ≡ None
  protocol-no-reader e =
      lined-protocol ∙ no_reader (version_of (whole_in s reader)) (version_of (whole_in s writer)) (features_in s readers) (features_in s writers) e

  pub protocol-no-writer : version_of (whole_in s writer) ≡ None → action s ≡ None
  protocol-no-writer e =
      lined-protocol ∙ no-writer (version_of (whole_in s reader)) (version_of (whole_in s writer)) (features_in s readers) (features_in s writers) e

  pub protocol-no-reader-features : features_in s readers ≡ None → action s ≡ None
  protocol-no-reader-features e =
      lined-protocol
      ∙ no-reader-features (version_of (whole_in s reader)) (version_of (whole_in s writer)) (features_in s readers) (features_in s writers) e

  pub protocol-no-writer-features : features_in s writers ≡ None → action s ≡ None
  protocol-no-writer-features e =
      lined-protocol
      ∙ no-writer-features (version_of (whole_in s reader)) (version_of (whole_in s writer)) (features_in s readers) (features_in s writers) e

  pub protocol-there : (a b i j : ℕ) (c d : Bool) → version_of (whole_in s reader) ≡ Some a → version_of (whole_in s writer) ≡ Some b
      → Known (features_in s readers) s false i c → Known (features_in s writers) s true j d
      → ActionIs (action s) s
      (Some (Protocol (record { reader = a; writer = b; reader_known = c; writer_known = d; reader_features = i; writer_features = j })))
  unfolding stated
  protocol-there a b i j c d e1 e2 k1 k2 = (
    record { min_reader_version = a; min_writer_version = b; reader_features = k1.xs; writer_features = k2.xs },
    lined-protocol ∙ rw (e1, e2, k1.says, k2.says),
    record { reader = refl; writer = refl; reader-known = k1.all; writer-known = k2.all; reader-features = k1.listed; writer-features = k2.listed },
  )

-- ---- metaData

abbrev described : Option Bytes → Option (List Bytes) → Option Action
described i c = (i >>= (λ i. c >>= (λ cs. Some (record { id = i; partition_columns = cs })))) >>= (λ m. Some (meta_data m))

meta-fields : (ms : List Member)
    → (meta_data_of ms >>= (λ m. Some (meta_data m))) ≡ described (id_of (string_at "id" ms)) (once "partitionColumns" ms >>= columns_of)
unfolding meta_data_of id_at
meta-fields ms = go (id_at ms)
  where
    columns : (i : Bytes) (v : Text) (o : Option (List Bytes))
        → ((o >>= (λ cs. guard (leb (length cs) most_columns) >>= (λ _. guard (distinct cs) >>= (λ _. Some (record { id = i; partition_columns = cs })))))
        >>= (λ m. Some (meta_data m)))
        ≡ described (Some i) (o >>= (λ cs. guard (leb (length cs) most_columns) >>= (λ _. guard (distinct cs) >>= (λ _. Some cs))))
    columns i v None = refl
    columns i v (Some cs) = few (leb (length cs) most_columns) (distinct cs)
      where
        few : (a b : Bool) → ((guard a >>= (λ _. guard b >>= (λ _. Some (record { id = i; partition_columns = cs })))) >>= (λ m. Some (meta_data m)))
            ≡ described (Some i) (guard a >>= (λ _. guard b >>= (λ _. Some cs)))
        few true true = refl
        few true false = refl
        few false b = refl

    field : (i : Bytes) (o : Option Text)
        → ((o
        >>= (λ v. strings_of in_field v
        >>= (λ cs. guard (leb (length cs) most_columns) >>= (λ _. guard (distinct cs) >>= (λ _. Some (record { id = i; partition_columns = cs }))))))
        >>= (λ m. Some (meta_data m)))
        ≡ described (Some i) (o >>= columns_of)
    field i None = refl
    field i (Some v) = columns i v (strings_of in_field v)

    described-by : Bytes → Option RuleMetaData
    described-by i = do
      v ← once "partitionColumns" ms
      cs ← strings_of in_field v
      _ ← guard (leb (length cs) most_columns)
      _ ← guard (distinct cs)
      Some (record { id = i; partition_columns = cs })

    go : (o : Option Bytes) → ((o >>= described-by) >>= (λ m. Some (meta_data m))) ≡ described o (once "partitionColumns" ms >>= columns_of)
    go None = refl
    go (Some i) = field i (once "partitionColumns" ms)

module _ (s : Text) {id columns : Slot} (l : Lined s 3 (id ∷ columns ∷ [])) where
  lined-meta : action s ≡ described (id_of (string_in s id)) (columns_in s columns)
  unfolding action_by names_of
  lined-meta = lined-action s 3 l ∙ ap (λ o. o >>= (λ ms. meta_data_of ms >>= (λ m. Some (meta_data m)))) l.object ∙ meta-fields l.ms
      ∙ ap (λ o. described (id_of o) (once "partitionColumns" l.ms >>= columns_of)) (field-string s id "id" l.ms (l.each 0 (omega arith)))
      ∙ ap (described (id_of (string_in s id))) (field-columns s columns "partitionColumns" l.ms (l.each 1 (omega arith)))

  pub meta-no-id : id_of (string_in s id) ≡ None → action s ≡ None
  meta-no-id e = lined-meta ∙ ap (λ o. described o (columns_in s columns)) e

  pub meta-no-columns : columns_in s columns ≡ None → action s ≡ None
  meta-no-columns e = lined-meta ∙ ap (described (id_of (string_in s id))) e ∙ go (id_of (string_in s id))
    where
      go : (i : Option Bytes) → described i None ≡ None
      go None = refl
      go (Some i) = refl

  pub meta-there : (place at : ℕ) → Read (id_of (string_in s id)) s place → ColumnsIs (columns_in s columns) s (Some at)
      → ActionIs (action s) s (Some (MetaData (record { id = place; columns = at })))
  meta-there place at t c = (
    record { id = decoded (drop place s); partition_columns = c.0 },
    lined-meta ∙ ap (λ o. described o (columns_in s columns)) t.says ∙ ap (described (Some (decoded (drop place s)))) c.1,
    record { spelled = t.spelled; id = refl; within = c.2; columns = c.3 },
  )

-- ---- mergeskip

pub at_once-is : (t : Option ℕ) → or_at_once t ≡ unwrap_or t 0
unfolding or_at_once
at_once-is None = refl
at_once-is (Some t) = refl

abbrev skipping : Option Bytes → Option ℕ → Option (Option ℕ) → Option Action
skipping p n t = p >>= (λ p. n >>= (λ n. t >>= (λ t. Some (mergeskip p (record { count = n; retry_after = or_at_once t })))))

skip-fields : (ms : List Member) → (path_at ms >>= (λ p. skip_of ms >>= (λ k. Some (mergeskip p k))))
    ≡ skipping (path_at ms) (skip_count_in (under (ascii "skipCount") ms)) (optional "retryAfter" ms >>= if_there whole)
unfolding skip_of
skip-fields ms = go (path_at ms) (skip_count_in (under (ascii "skipCount") ms)) (optional "retryAfter" ms)
  where
    retried : (p : Bytes) (n : ℕ) (t : Option (Option ℕ))
        → ((t >>= (λ t. Some (record { count = n; retry_after = or_at_once t }))) >>= (λ k. Some (mergeskip p k))) ≡ skipping (Some p) (Some n) t
    retried p n None = refl
    retried p n (Some t) = refl

    go : (p : Option Bytes) (n : Option ℕ) (v : Option (Option Text))
        → (p >>= (λ p. (n >>= (λ n. v >>= (λ v. if_there whole v >>= (λ t. Some (record { count = n; retry_after = or_at_once t })))))
        >>= (λ k. Some (mergeskip p k))))
        ≡ skipping p n (v >>= if_there whole)
    go None n v = refl
    go (Some p) None v = refl
    go (Some p) (Some n) None = refl
    go (Some p) (Some n) (Some v) = retried p n (if_there whole v)

module _ (s : Text) {path count retry : Slot} (l : Lined s 4 (path ∷ count ∷ retry ∷ [])) where
  lined-mergeskip : action s ≡ skipping (path_of (string_in s path)) (count_in s count) (optional_whole_in s retry)
  unfolding action_by names_of
  lined-mergeskip =
      let a = field-path s path l.ms (l.each 0 (omega arith)) in
      let b = field-count s count l.ms (l.each 1 (omega arith)) in
      let c = field-optional s retry "retryAfter" l.ms (l.each 2 (omega arith)) in
      lined-action s 4 l ∙ ap (λ o. o >>= (λ ms. path_at ms >>= (λ p. skip_of ms >>= (λ k. Some (mergeskip p k))))) l.object
      ∙ skip-fields l.ms ∙ rw (a, b, c)

  pub mergeskip-no-path : path_of (string_in s path) ≡ None → action s ≡ None
  mergeskip-no-path e = lined-mergeskip ∙ ap (λ o. skipping o (count_in s count) (optional_whole_in s retry)) e

  pub mergeskip-no-count : count_in s count ≡ None → action s ≡ None
  mergeskip-no-count e = lined-mergeskip ∙ ap (λ o. skipping (path_of (string_in s path)) o (optional_whole_in s retry)) e ∙ go (path_of (string_in s path))
    where
      go : (p : Option Bytes) → skipping p None (optional_whole_in s retry) ≡ None
      go None = refl
      go (Some p) = refl

  pub mergeskip-no-retry : optional_whole_in s retry ≡ None → action s ≡ None
  mergeskip-no-retry e =
      lined-mergeskip ∙ ap (skipping (path_of (string_in s path)) (count_in s count)) e ∙ go (path_of (string_in s path)) (count_in s count)
    where
      go : (p : Option Bytes) (n : Option ℕ) → skipping p n None ≡ None
      go None n = refl
      go (Some p) None = refl
      go (Some p) (Some n) = refl

  mergeskip-starts : path.seen ≡ 1 → once "path" l.lefts ≡ Some (drop path.start s)
  unfolding once names_of
  mergeskip-starts o = l.starts 0 (omega arith) o

  pub mergeskip-there : (p n t : ℕ) (r : Option ℕ) → PathIs (path_of (string_in s path)) s path.start (Some p) → count_in s count ≡ Some n
      → optional_whole_in s retry ≡ Some r → or_at_once r ≡ t → ActionIs (action s) s (Some (Mergeskip (record { path = p; count = n; retry = t })))
  unfolding names_of
  mergeskip-there p n t r (q, place) e f g =
      let (y, h) = behind-some (string (drop p s)) q.spelled.closed in
      let few : length (drop q.spelled.end s) + 1 ≤ length (drop p s) = reads-fewer (string-reads y (drop p s) (drop q.spelled.end s) h) in
      let m : length (drop p s) ≡ length s - p = length-drop p s in
      let single = (string-single s path (path-string (string_in s path) q.says)).0 in
      let left = path-left s 4 l path (path-placed s path _ (lined-inside s 4 l 0 (omega arith)) q.says) (mergeskip-starts single) in
      record {
        says = lined-mergeskip ∙ rw (q.says, e, f, g);
        spelled = q.spelled;
        within = omega arith;
        left = left ∙ ap (λ (i : ℕ). Some (drop i s)) (sym place);
      }
