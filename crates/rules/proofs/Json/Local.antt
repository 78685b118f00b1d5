-- A reader looks no further than one byte behind what it reads. So the text of a value, taken out of its line and read again, reads as it did in its place.
use mathlib.Core.Path.{◌≡◌, sym, ap, ◌∙◌}
use Rattle.std.specs.Prelude.{Some}
use mathlib.Core.List.{List, [], append-nil}
use Prim.Native.Nat.{ℕ}
use Rattle.rules.specs.Bytes.{Bytes}
use Rattle.rules.specs.Json.Text.{Text, Reader, Taker, spelled}
use Rattle.rules.specs.Json.Strings.{string}
use Rattle.rules.specs.Json.Values.{Member, contents, elements, value}
use Rattle.rules.proofs.Json.Suffix.{nothing, Reads, EachReads, EachTakes, reads-passed}
use Rattle.rules.proofs.Json.TextReads.{before, spelled-left, spelled-text}
use Rattle.rules.proofs.Json.StringReads.{string-reads}
use Rattle.rules.proofs.Json.ValueReads.{value-reads, contents-reads, elements-reads}

-- ---- any reader

module _ {O : Type 0} {least : ℕ} {read answer : Text → O} where
  pub reads-alone : {t r : Text} → Reads least read answer t r → read (before t r) ≡ answer []
  reads-alone {t} {r} h = ap read (reads-passed h ∙ sym (append-nil h.passed)) ∙ h.again [] nothing

module _ {read : Reader} {least : ℕ} (each : EachReads least read) where
  pub spelled-alone : (x t r : Text) → spelled read t ≡ Some (x, r) → read x ≡ Some []
  spelled-alone x t r e = ap read (spelled-text read t e) ∙ reads-alone (each t r (spelled-left read t e))

module _ {A : Type 0} {read : Taker A} {least : ℕ} (each : EachTakes least read) where
  pub taken-alone : (x : A) (t r : Text) → read t ≡ Some (x, r) → read (before t r) ≡ Some (x, [])
  taken-alone x t r e = reads-alone (each x t r e)

-- ---- values

pub value-alone : (d : ℕ) (x t r : Text) → spelled (value d) t ≡ Some (x, r) → value d x ≡ Some []
value-alone d = spelled-alone (value-reads d)

pub string-alone : (x : Bytes) (t r : Text) → string t ≡ Some (x, r) → string (before t r) ≡ Some (x, [])
string-alone = taken-alone string-reads

pub contents-alone : (d : ℕ) (ms : List Member) (t r : Text) → contents (value d) t ≡ Some (ms, r) → contents (value d) (before t r) ≡ Some (ms, [])
contents-alone d = taken-alone (contents-reads (value-reads d))

pub elements-alone : (d : ℕ) (vs : List Text) (t r : Text) → elements (value d) t ≡ Some (vs, r) → elements (value d) (before t r) ≡ Some (vs, [])
elements-alone d = taken-alone (elements-reads (value-reads d))
