-- Where the values of an object's members stand: each member's text is read at its place, which is an end of the object's text.
use mathlib.Core.Path.{◌≡◌, refl, sym, ◌∙◌, ap, subst}
use mathlib.Core.Bool.{Bool, true, false}
use Rattle.std.specs.Prelude.{Option, None, Some}
use mathlib.Core.List.{List, [], ◌∷◌, ◌++◌}
use Prim.Native.Nat.{ℕ}
use Rattle.rules.specs.Bytes.{Bytes, same, is_empty}
use Rattle.rules.specs.Json.Text.{Text, Reader, spelled, ws, byte}
use Rattle.rules.specs.Json.Values.{Member, member_left, contents, list, value, alone, object_of, members_left}
use Rattle.rules.specs.Json.Fields.{under, sole}
use Rattle.rules.specs.Actions.{only_one}
use Rattle.rules.proofs.Tests.{apart}
use Rattle.rules.proofs.Json.Suffix.{EachReads, some_same, bound}
use Rattle.rules.proofs.Json.TextReads.{ws-reads, byte_reads, spelled-left}
use Rattle.rules.proofs.Json.StringReads.{string-reads}
use Rattle.rules.proofs.Json.ValueReads.{closing-onward, opening-onward, colon-reads, value-reads}
use Rattle.rules.proofs.Json.Steps.{contents-list}
use Rattle.rules.proofs.Json.Lefts.{Begins, list_left}
use Rattle.rules.proofs.Suffixes.{Suffix, suffix_trans}

-- ---- the text of a value, and where it stands

-- a value whose text is x is read where v is left of t
pub record Stands (read : Reader) (t x v : Text) : Type 0 where
  pub rest : Text
  pub text : spelled read v ≡ Some (x, rest)
  pub suffix : Suffix v t

-- members by their texts, and by their places
pub data EachStands (read : Reader) (t : Text) : (ms fs : List Member) → Type 0 where
  no_more : EachStands read t [] []
  stands : {m : Member} {v : Text} {ms fs : List Member} → Stands read t m.1 v → EachStands read t ms fs → EachStands read t (m ∷ ms) ((m.0, v) ∷ fs)

pub data EachText (read : Reader) (t : Text) : (xs vs : List Text) → Type 0 where
  no_more : EachText read t [] []
  stands : {x v : Text} {xs vs : List Text} → Stands read t x v → EachText read t xs vs → EachText read t (x ∷ xs) (v ∷ vs)

stands_up : {read : Reader} {t u x v : Text} → Suffix t u → Stands read t x v → Stands read u x v
stands_up {t = t} {u} {v = v} s h = record { rest = h.rest; text = h.text; suffix = suffix_trans v t u h.suffix s }

each-up : {read : Reader} {t u : Text} {ms fs : List Member} → Suffix t u → EachStands read t ms fs → EachStands read u ms fs
each-up s no_more = no_more
each-up s (stands h hs) = stands (stands_up s h) (each-up s hs)

module _ {read : Reader} (each : EachReads 1 read) (t : Text) (m : Member) (v r : Text) (b : Begins read t m v r) where
  pub begins-suffix : Suffix v t
  begins-suffix =
      let q = byte_reads 0x22 t b.inner b.quote in
      let n = string-reads m.0 b.inner b.after b.name in
      let c = colon-reads b.after v b.parted in
      suffix_trans v b.after t (c.passed, c.split) (suffix_trans b.after b.inner t (n.passed, n.split) (q.passed, q.split))

  pub rest-suffix : Suffix r t
  rest-suffix = let d = each v r (spelled-left read v b.text) in suffix_trans r v t (d.passed, d.split) begins-suffix

  begins-stands : Stands read t m.1 v
  begins-stands = record { rest = r; text = b.text; suffix = begins-suffix }

-- ---- the members of an object

pub contents-left : (d : ℕ) (t : Text) (ms : List Member) (r : Text) → contents (value d) t ≡ Some (ms, r)
    → (fs : List Member) × (list (member_left (value d)) 0x7D t ≡ Some (fs, r)) × EachStands (value d) t ms fs
contents-left d t ms r e =
    list_left (value d) (EachStands (value d))
    (λ u m v q b. stands (begins-stands (value-reads d) u m v q b) no_more)
    (λ u m v q w xs fs b c hs.
    let k = closing-onward 0x7D q w c in
    stands (begins-stands (value-reads d) u m v q b) (each-up (suffix_trans w q u (k.passed, k.split) (rest-suffix (value-reads d) u m v q b)) hs))
    t ms r (EachStands (value d) t)
    (λ u h. no_more)
    (λ u xs fs h hs.
    let w = ws-reads t in
    each-up (w.passed, w.split ∙ ap (λ (x : Text). w.passed ++ x) (sym (opening-onward 0x7D t u h))) hs)
    (sym (contents-list (value d) t) ∙ e)

pub members_left-list : (d : ℕ) (t : Text) {r u : Text} {fs : List Member} → byte 0x7B (ws t) ≡ Some r
    → list (member_left (value d)) 0x7D r ≡ Some (fs, u) → members_left d t ≡ Some fs
unfolding members_left
members_left-list d t e f = rw (members_left, e, f)

pub object_of-left : (d : ℕ) (t : Text) (ms : List Member) → object_of d t ≡ Some ms
    → (fs : List Member) × (members_left d t ≡ Some fs) × EachStands (value d) t ms fs
unfolding object_of alone
object_of-left d t ms e = bound (byte 0x7B (ws t)) _ e (λ r f g. go r f (contents (value d) r) refl g)
  where
    go : (r : Text) → byte 0x7B (ws t) ≡ Some r → (o : Option (List Member × Text)) → contents (value d) r ≡ o → alone o ≡ Some ms
        → (fs : List Member) × (members_left d t ≡ Some fs) × EachStands (value d) t ms fs
    go r f None h g = apart (cc)
    go r f (Some p) h g =
        let w = ws-reads t in
        let b = byte_reads 0x7B (ws t) r f in
        let s : Suffix r t = suffix_trans r (ws t) t (b.passed, b.split) (w.passed, w.split) in
        let (fs, k, hs) = contents-left d r p.0 p.1 h in
        (fs, members_left-list d t f k, subst (λ (xs : List Member). EachStands (value d) t xs fs) (ended (is_empty (ws p.1)) g) (each-up s hs))
      where
        ended : (b : Bool) → elim b [ true ↦ Some p.0 | false ↦ None ] ≡ Some ms → p.0 ≡ ms
        ended true i = some_same i
        ended false i = apart (cc)

-- ---- one of them

module _ {read : Reader} {t : Text} where
  pub only_one-left : {ms fs : List Member} (m : Member) → EachStands read t ms fs → only_one ms ≡ Some m
      → (v : Text) × (only_one fs ≡ Some (m.0, v)) × Stands read t m.1 v
  unfolding only_one
  only_one-left m no_more e = apart (cc)
  only_one-left m (stands {v = v} h no_more) e =
      (v, ap (λ (x : Member). Some (x.0, v)) (some_same e), subst (λ (x : Member). Stands read t x.1 v) (some_same e) h)
  only_one-left m (stands h (stands k hs)) e = apart (cc)

  pub under_left : (name : Bytes) {ms fs : List Member} → EachStands read t ms fs → EachText read t (under name ms) (under name fs)
  unfolding under
  under_left name no_more = no_more
  under_left name (stands {m} {v} {ms} {fs} h hs) = go (same m.0 name) (under_left name hs)
    where
      go : (b : Bool) → EachText read t (under name ms) (under name fs)
          → EachText read t (elim b [ true ↦ m.1 ∷ under name ms | false ↦ under name ms ]) (elim b [ true ↦ v ∷ under name fs | false ↦ under name fs ])
      go true ih = stands h ih
      go false ih = ih

  pub sole-left : {xs vs : List Text} (x : Text) → EachText read t xs vs → sole xs ≡ Some x → (v : Text) × (sole vs ≡ Some v) × Stands read t x v
  unfolding sole
  sole-left x no_more e = apart (cc)
  sole-left x (stands {v = v} h no_more) e = (v, refl, subst (λ (y : Text). Stands read t y v) (some_same e) h)
  sole-left x (stands h (stands k hs)) e = apart (cc)
