-- A manifest by its path and its columns, and a state manifest by its array.
use mathlib.Core.Path.{◌≡◌, refl, ap, ◌∙◌}
use mathlib.Core.Bool.{Bool, true, false}
use Rattle.std.specs.Prelude.{ℕ, Option, None, Some}
use mathlib.Core.List.{List}
use native.Mathlib.Omega.{arith}
use lib.Dec.{leb}
use lib.ListN.{length, get_or}
use Rattle.rules.specs.Bytes.{Bytes, ◌>>=◌, guard}
use Rattle.rules.specs.Manifests.{Manifest, in_state, in_manifest, columns_of, or_no_bounds, manifest_of, manifests}
use Rattle.rules.specs.Json.Text.{Text}
use Rattle.rules.specs.Json.Values.{Member, object_of}
use Rattle.rules.specs.Json.Fields.{if_there}
use Rattle.field_names.specs.Kinds.{names_of}
use Rattle.field_objects.specs.Slots.{missing, Each, text_in}
use Rattle.field_names.specs.declared.kinds.Kind.TheVariants.{State, Manifest as OfManifest}
use Rattle.field_objects.specs.declared.notes.Slot.{Slot}
use Rattle.field_objects.proofs.Slots.{slot-once, slot-optional}
use Rattle.field_scalars.specs.Inside.{string_in}
use Rattle.field_scalars.specs.Texts.{id_of}
use Rattle.field_scalars.proofs.Stated.{field-string}
use Rattle.field_scalars.specs.Optionals.{optional_of}
use Rattle.manifest_state.specs.Tables.{Table}
use Rattle.manifest_state.specs.States.{columns_stated, StatedIs, ManifestIs, manifests_of}

-- ---- a manifest

abbrev pub manifest_by : Option Bytes → Option (Option Table) → Option Manifest
manifest_by path columns = id_of path >>= (λ p. columns >>= (λ bs. Some (record { path = p; bounds = or_no_bounds bs })))

by-fields : (of : Option Text → Option (Option Table)) (path : Option Bytes) (b : Option (Option Text))
    → (path >>= (λ p. guard (leb 1 (length p)) >>= (λ _. b >>= (λ c. of c >>= (λ bs. Some (record { path = p; bounds = or_no_bounds bs }))))))
    ≡ manifest_by path (b >>= of)
by-fields of None b = refl
by-fields of (Some p) b = go (leb 1 (length p)) b
  where
    made : Bytes → Option Table → Option Manifest
    made q bs = Some (record { path = q; bounds = or_no_bounds bs })

    go : (some_bytes : Bool) (b : Option (Option Text))
        → (guard some_bytes >>= (λ _. b >>= (λ c. of c >>= made p))) ≡ ((guard some_bytes >>= (λ _. Some p)) >>= (λ q. (b >>= of) >>= made q))
    go false b = refl
    go true None = refl
    go true (Some c) = refl

pub manifest-none : (t : Text) → object_of in_manifest t ≡ None → manifest_of t ≡ None
unfolding manifest_of
manifest-none t e = rw (manifest_of, e)

pub manifest-by : (t : Text) (ms : List Member) (slots : List Slot) → object_of in_manifest t ≡ Some ms → Each t (names_of OfManifest) ms slots
    → manifest_of t ≡ manifest_by (string_in t (get_or slots 0 missing)) (columns_stated t (get_or slots 1 missing))
unfolding manifest_of names_of
manifest-by t ms slots e each =
    let x = get_or slots 0 missing in
    let y = get_or slots 1 missing in
    let p = field-string t x "path" ms (each 0 (omega arith)) in
    let q = slot-optional t "partitionBounds" ms y.seen y.start y.end (each 1 (omega arith)) in
    rw (manifest_of, e, p, q) (by-fields (if_there columns_of) (string_in t x) (optional_of t y))

pub manifest-pathless : (path : Option Bytes) (columns : Option (Option Table)) → id_of path ≡ None → manifest_by path columns ≡ None
manifest-pathless path columns e = ap (λ (o : Option Bytes). o >>= (λ p. columns >>= (λ bs. Some (record { path = p; bounds = or_no_bounds bs })))) e

pub manifest-path : (path : Option Bytes) (columns : Option (Option Table)) {p : Bytes} → id_of path ≡ Some p
    → manifest_by path columns ≡ (columns >>= (λ bs. Some (record { path = p; bounds = or_no_bounds bs })))
manifest-path path columns e = ap (λ (o : Option Bytes). o >>= (λ q. columns >>= (λ bs. Some (record { path = q; bounds = or_no_bounds bs })))) e

pub manifest-stated : (o : Option Manifest) (columns : Option (Option Table)) (p : Bytes)
    → o ≡ (columns >>= (λ bs. Some (record { path = p; bounds = or_no_bounds bs })))
    → (t : Text) (r : Option (Option (ℕ × ℕ × ℕ))) → StatedIs columns t r → ManifestIs o t r
unfolding or_no_bounds
manifest-stated o columns p e t (Some (Some (v, f, at))) s =
    (record { path = p; bounds = s.0 }, e ∙ ap (λ c. c >>= (λ bs. Some (record { path = p; bounds = or_no_bounds bs }))) s.1, s.2)
manifest-stated o columns p e t (Some None) s = (_, e ∙ ap (λ c. c >>= (λ bs. Some (record { path = p; bounds = or_no_bounds bs }))) s, refl)
manifest-stated o columns p e t None s = e ∙ ap (λ c. c >>= (λ bs. Some (record { path = p; bounds = or_no_bounds bs }))) s

-- ---- a state manifest

pub state-none : (s : Text) → object_of in_state s ≡ None → manifests s ≡ None
unfolding manifests
state-none s e = rw (manifests, e)

pub state-by : (s : Text) (ms : List Member) (slots : List Slot) → object_of in_state s ≡ Some ms → Each s (names_of State) ms slots
    → manifests s ≡ (text_in s (get_or slots 0 missing).seen (get_or slots 0 missing).start (get_or slots 0 missing).end >>= manifests_of)
unfolding manifests names_of
state-by s ms slots e each =
    let x = get_or slots 0 missing in
    let p = slot-once s "manifests" ms x.seen x.start x.end (each 0 (omega arith)) in
    rw (manifests, e, p)
