-- The path of a line, its records, and the directory of a manifest.
use mathlib.Core.Path.{◌≡◌, refl, sym, ◌∙◌, ap, subst}
use mathlib.Core.Logic.{◌⊎◌, inl, inr}
use mathlib.Core.Bool.{Bool, true, false, ◌&&◌}
use Rattle.std.specs.Prelude.{Option, None, Some}
use mathlib.Core.List.{List, [], ◌∷◌, ◌++◌}
use Prim.Native.Nat.{ℕ}
use lib.Dec.{eqb}
use lib.ListN.{take, drop, take-append-drop}
use borrow.Author.Tests.{eqb-true}
use Rattle.rules.specs.Bytes.{Bytes, ascii, begins}
use Rattle.rules.specs.Json.Text.{Text}
use Rattle.rules.specs.Json.Values.{Member, object_of}
use Rattle.rules.specs.Json.Fields.{once, string_of, unquoted}
use Rattle.rules.specs.Actions.{in_action, Facts}
use Rattle.rules.specs.Actions.{Action, add, remove, protocol, meta_data, mergeskip, other, line_member, action}
use Rattle.rules.specs.Actions.{is_line, or_nothing, path_written, path_in, path_shown, path_place, no_add, records_in, records_shown}
use Rattle.rules.specs.Manifests.{slash, has_slash, before_last_slash, stands_as_is, directory}
use Rattle.rules.proofs.Tests.{apart, true-not-false, or_cases, and_right}
use Rattle.rules.proofs.Adds.{add_of-path, path_at-once, action-add}
use Rattle.rules.proofs.Slashes.{has_slash-begins}
use Rattle.rules.proofs.PathPlaces.{place-shown, place-within, place-nothing}
use Rattle.demands.specs.Showing.{IsAdd, PathIsShown, RecordsAreShown, DirectoryIsShown}

-- ---- a well-formed add

-- what is shown, by the action that the line says
shown_by : (line : Bytes) (a : Option Action) → is_line line ≡ true → action line ≡ a → (path_shown line ≡ path_in a line) × (records_shown line ≡ records_in a)
unfolding path_shown records_shown
shown_by line a l e = (rw (path_shown, l) (ap (λ (x : Option Action). path_in x line) e), rw (records_shown, l) (ap records_in e))

shown-not : (line : Bytes) → is_line line ≡ false → (path_shown line ≡ []) × (records_shown line ≡ no_add)
unfolding path_shown records_shown
shown-not line l = (rw (path_shown, l), rw (records_shown, l))

written-add : (line : Text) (m : Member) (ms : List Member) (v : Text) → line_member line ≡ Some m → object_of in_action m.1 ≡ Some ms
    → once "path" ms ≡ Some v → path_written line ≡ Some (unquoted v)
unfolding path_written
written-add line m ms v e f g = rw (e, f, g)

shown-add : (line : Bytes) (f : Facts) → IsAdd line f
    → (v : Bytes) × (path_written line ≡ Some (unquoted v)) × (string_of v ≡ Some f.path) × (path_shown line ≡ unquoted v)
unfolding path_in or_nothing
shown-add line f (l, a) =
    let m = action-add line f a in
    let ms = m.2.0 in
    let v = path_at-once ms f.path (add_of-path ms f m.2.2) in
    let w = written-add line m.0 ms v.0 m.1 m.2.1 v.1 in
    (v.0, w, v.2, (shown_by line (Some (add f)) l a).0 ∙ ap or_nothing w)

-- ---- lines by what they are

-- an add, or none
data Kind (line : Bytes) : Type 0 where
  an-add : (f : Facts) → IsAdd line f → Kind line
  adds_nothing : ((f : Facts) → IsAdd line f → ⊥) → path_shown line ≡ [] → records_shown line ≡ no_add → Kind line

kind : (line : Bytes) → Kind line
unfolding path_in records_in
kind line = go (is_line line) refl (action line) refl
  where
    go : (b : Bool) → is_line line ≡ b → (a : Option Action) → action line ≡ a → Kind line
    go false l a e = adds_nothing (λ f h. true-not-false h.0 l) (shown-not line l).0 (shown-not line l).1
    go true l None e = adds_nothing (λ f h. differ (sym e ∙ h.1)) (shown_by line None l e).0 (shown_by line None l e).1
      where
        differ : {f : Facts} → ◌≡◌ {A = Option Action} None (Some (add f)) → ⊥
        differ q = apart (cc)
    go true l (Some (add f)) e = an-add f (l, e)
    go true l (Some (remove p)) e = adds_nothing (λ f h. differ (sym e ∙ h.1)) (shown_by line (Some (remove p)) l e).0 (shown_by line (Some (remove p)) l e).1
      where
        differ : {f : Facts} → ◌≡◌ {A = Option Action} (Some (remove p)) (Some (add f)) → ⊥
        differ q = apart (cc)
    go true l (Some (protocol p)) e =
        adds_nothing (λ f h. differ (sym e ∙ h.1)) (shown_by line (Some (protocol p)) l e).0 (shown_by line (Some (protocol p)) l e).1
      where
        differ : {f : Facts} → ◌≡◌ {A = Option Action} (Some (protocol p)) (Some (add f)) → ⊥
        differ q = apart (cc)
    go true l (Some (meta_data m)) e =
        adds_nothing (λ f h. differ (sym e ∙ h.1)) (shown_by line (Some (meta_data m)) l e).0 (shown_by line (Some (meta_data m)) l e).1
      where
        differ : {f : Facts} → ◌≡◌ {A = Option Action} (Some (meta_data m)) (Some (add f)) → ⊥
        differ q = apart (cc)
    go true l (Some (mergeskip p k)) e =
        adds_nothing (λ f h. differ (sym e ∙ h.1)) (shown_by line (Some (mergeskip p k)) l e).0 (shown_by line (Some (mergeskip p k)) l e).1
      where
        differ : {f : Facts} → ◌≡◌ {A = Option Action} (Some (mergeskip p k)) (Some (add f)) → ⊥
        differ q = apart (cc)
    go true l (Some other) e = adds_nothing (λ f h. differ (sym e ∙ h.1)) (shown_by line (Some other) l e).0 (shown_by line (Some other) l e).1
      where
        differ : {f : Facts} → ◌≡◌ {A = Option Action} (Some other) (Some (add f)) → ⊥
        differ q = apart (cc)

pub path-is-shown : PathIsShown
path-is-shown line =
    let a = (path_place line).0 in
    let n = (path_place line).1 in
    let behind : Bytes = drop n (drop a line) in
    let whole : take a line ++ (take n (drop a line) ++ behind) ≡ line =
    ap (λ (t : Bytes). take a line ++ t) (take-append-drop n (drop a line)) ∙ take-append-drop a line in
    record {
      before = take a line;
      behind = behind;
      part = sym (ap (λ (t : Bytes). take a line ++ (t ++ behind)) (sym (place-shown line)) ∙ whole);
      within = place-within line;
      place = place-shown line;
      of-add = shown-add line;
      of_others = others (kind line);
    }
  where
    others : Kind line → ((f : Facts) → IsAdd line f → ⊥) → (path_shown line ≡ []) × (path_place line ≡ (0, 0))
    others (an-add f h) n = absurd (n f h)
    others (adds_nothing m p r) n = (p, place-nothing line r)

pub records-are-shown : RecordsAreShown
unfolding records_in
records-are-shown line = record { of-add = λ f h. (shown_by line (Some (add f)) h.0 h.1).1; of_others = others (kind line) }
  where
    others : Kind line → ((f : Facts) → IsAdd line f → ⊥) → records_shown line ≡ no_add
    others (an-add f h) n = absurd (n f h)
    others (adds_nothing m p r) n = r

-- ---- directories

manifests-slash : has_slash (ascii "manifests/") ≡ true
unfolding has_slash ascii slash
manifests-slash = refl

stands_as_is-slash : (p : Bytes) → stands_as_is p ≡ true → has_slash p ≡ true
unfolding stands_as_is
stands_as_is-slash p h = go (or_cases (begins (ascii "manifests/") p) (begins (ascii "state-v") p && has_slash p) h)
  where
    go : (begins (ascii "manifests/") p ≡ true) ⊎ ((begins (ascii "state-v") p && has_slash p) ≡ true) → has_slash p ≡ true
    go (inl e) = has_slash-begins (ascii "manifests/") p e manifests-slash
    go (inr e) = and_right (begins (ascii "state-v") p) (has_slash p) e

before_last_slash-split : (p : Bytes) → has_slash p ≡ true → (name : Bytes) × (p ≡ before_last_slash p ++ slash ∷ name) × (has_slash name ≡ false)
unfolding has_slash before_last_slash
before_last_slash-split [] h = apart (cc)
before_last_slash-split (b ∷ bs) h = go (has_slash bs) refl (before_last_slash-split bs)
  where
    first : (s : Bool) → eqb b slash ≡ s → has_slash bs ≡ false → elim s [ true ↦ true | false ↦ has_slash bs ] ≡ true → b ≡ slash
    first true e n h = eqb-true b slash e
    first false e n h = absurd (true-not-false h n)

    go : (s : Bool) → has_slash bs ≡ s → (has_slash bs ≡ true → (name : Bytes) × (bs ≡ before_last_slash bs ++ slash ∷ name) × (has_slash name ≡ false))
        → (name : Bytes) × (b ∷ bs ≡ (elim s [ true ↦ b ∷ before_last_slash bs | false ↦ [] ]) ++ slash ∷ name) × (has_slash name ≡ false)
    go true e ih = let r = ih e in (r.0, ap (λ (x : Bytes). b ∷ x) r.1, r.2)
    go false e ih = (bs, ap (λ (x : ℕ). x ∷ bs) (first (eqb b slash) refl e h), e)

pub directory-is-shown : DirectoryIsShown
unfolding directory
directory-is-shown path lent = record {
  stands = λ e. subst
      (λ (x : Bytes). (name : Bytes) × (path ≡ x ++ slash ∷ name) × (has_slash name ≡ false))
      (sym (of-path e))
      (before_last_slash-split path (stands_as_is-slash path e));
  others = λ e. rw (directory, e);
}
  where
    of-path : stands_as_is path ≡ true → directory path lent ≡ before_last_slash path
    of-path e = rw (directory, e)
