-- A way has one beginning, at one version: the start that is answered is the only one.
use mathlib.Core.Path.{◌≡◌, refl, sym, ap, ◌∙◌}
use Rattle.std.specs.Prelude.{Option}
use Prim.Native.Nat.{ℕ, suc, ◌+◌}
use native.Mathlib.Omega.{arith}
use Rattle.rules.specs.Bytes.{Bytes}
use Rattle.rules.specs.Bundle.{File}
use Rattle.rules.specs.Starts.{Log, Way, from_zero, from_checkpoint, and_then}
use Rattle.rules.proofs.Tests.{apart}
use Rattle.rules.proofs.Json.Suffix.{some_same, answered-none}
use Rattle.file_bundle.specs.Files.{file_in}
use Rattle.log_files.proofs.Alone.{number-alone}
use Rattle.log_starts.specs.Ways.{Leads, here, next, StartIs}
use Rattle.std.specs.Prelude.{Some, None}
use Rattle.log_starts.specs.declared.Start.{Start}
use Rattle.log_starts.specs.declared.Start.TheVariants.{Zero, Checkpoint}

beginning : Way → Way
beginning from_zero = from_zero
beginning (from_checkpoint f) = from_checkpoint f
beginning (and_then w g) = beginning w

files : Way → ℕ
files from_zero = 0
files (from_checkpoint f) = 0
files (and_then w g) = suc (files w)

leads-beginning : {log : Log} {b : Way} {s v : ℕ} {w : Way} → Leads log b s v w → beginning w ≡ beginning b
unfolding beginning
leads-beginning here = refl
leads-beginning (next l e) = leads-beginning l

leads-files : {log : Log} {b : Way} {s v : ℕ} {w : Way} → Leads log b s v w → v + files b ≡ s + files w
unfolding files
leads-files here = refl
leads-files (next l e) = omega (arith, leads-files l)

-- two ways on to one way begin alike
module _ {log : Log} {a b x y : Way} {s u v : ℕ} (l : Leads log a s v x) (m : Leads log b u v y) (e : x ≡ y) where
  begin-same : beginning a ≡ beginning b
  begin-same = sym (leads-beginning l) ∙ ap beginning e ∙ leads-beginning m

  begin-version : files a ≡ 0 → files b ≡ 0 → s ≡ u
  begin-version p q = omega (arith, leads-files l, leads-files m, ap files e)

file_of : File → Way → File
file_of d from_zero = d
file_of d (from_checkpoint f) = f
file_of d (and_then w g) = d

pub start-alone : (src : Bytes) (v : ℕ) (o : Option Way) (r q : Option Start) → StartIs src v o r → StartIs src v o q → r ≡ q
unfolding beginning files file_of
start-alone src v o (Some Zero) (Some Zero) h k = refl
start-alone src v o (Some Zero) (Some (Checkpoint j u)) h k = let e = begin-same h.2 k.4 (some_same (sym h.1 ∙ k.3)) in apart (cc)
start-alone src v o (Some Zero) None h k = answered-none h.1 k
start-alone src v o (Some (Checkpoint i s)) (Some Zero) h k = let e = begin-same h.4 k.2 (some_same (sym h.3 ∙ k.1)) in apart (cc)
start-alone src v o (Some (Checkpoint i s)) (Some (Checkpoint j u)) h k =
    let both = some_same (sym h.3 ∙ k.3) in
    let same : file_in src i ≡ file_in src j = ap (file_of (file_in src i)) (begin-same h.4 k.4 both) in
    let number : i ≡ j = number-alone src i j h.0 k.0 same in
    let version : s.0 ≡ u.0 = begin-version h.4 k.4 both refl refl in
    ap (λ (n : ℕ). (Some (Checkpoint n s))) number ∙ ap (λ (n : ℕ). (Some (Checkpoint j (record { 0 = n })))) version
start-alone src v o (Some (Checkpoint i s)) None h k = answered-none h.3 k
start-alone src v o None (Some Zero) h k = answered-none k.1 h
start-alone src v o None (Some (Checkpoint j u)) h k = answered-none k.3 h
start-alone src v o None None h k = refl
