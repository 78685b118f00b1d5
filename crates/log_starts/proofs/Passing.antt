-- Versions above n, each come to by its own file: found out from the highest down, and that the way to the highest goes on from n.
use mathlib.Core.Path.{◌≡◌, refl, ap, ◌∙◌, subst}
use mathlib.Core.Bool.{Bool, true, false, not, ◌&&◌}
use Rattle.std.specs.Prelude.{Option, None, Some}
use Prim.Native.Nat.{ℕ, zero, suc, ◌+◌, ◌-◌, ◌≤◌, ◌<◌}
use native.Mathlib.Omega.{arith}
use Rattle.rules.specs.Bundle.{File}
use Rattle.rules.specs.Starts.{Log, start_at, Way, and_then, onward_by, by_file, way_to}
use Rattle.rules.proofs.Tests.{apart, and_left, and_right, and-fails-right}
use Rattle.rules.specs.Bytes.{Bytes, is_some}
use Rattle.std.specs.Option.{is_some as place_told}
use Rattle.file_bundle.specs.Files.{file_in}
use Rattle.log_files.specs.Logs.{PlaceIs}
use Rattle.log_starts.specs.Ways.{Leads, here, next, by_its_file, passing}
use Rattle.log_starts.proofs.Starting.{way-file}

-- ---- a file by its place

module _ (src : Bytes) (o : Option File) where
  pub place-there : (r : Option ℕ) → PlaceIs src o r → true ≡ place_told r → (f : File) × (o ≡ Some f)
  place-there (Some k) p e = (file_in src k, p.1)
  place-there None p e = apart (cc)

  pub place-missing : (r : Option ℕ) → PlaceIs src o r → false ≡ place_told r → o ≡ None
  place-missing (Some k) p e = apart (cc)
  place-missing None p e = p

module _ (log : Log) where
  -- ---- one version

  file-there : (w : ℕ) {g : File} → start_at log w ≡ None → log.version_file w ≡ Some g → by_its_file log w ≡ true
  unfolding by_its_file is_some
  file-there w s e = rw (by_its_file, s, e)

  file-start : (w : ℕ) {f : File} → start_at log w ≡ Some f → by_its_file log w ≡ false
  unfolding by_its_file is_some
  file-start w s = rw (by_its_file, s)

  file-gap : (w : ℕ) → log.version_file w ≡ None → by_its_file log w ≡ false
  unfolding by_its_file is_some
  file-gap w e = and-fails-right (not (is_some (start_at log w))) (ap is_some e)

  no_start : (w : ℕ) → by_its_file log w ≡ true → start_at log w ≡ None
  unfolding by_its_file is_some
  no_start w h = go (start_at log w) (and_left (not (is_some (start_at log w))) _ h)
    where
      go : (o : Option File) → not (is_some o) ≡ true → o ≡ None
      go None e = refl
      go (Some f) e = apart (cc)

  its-file : (w : ℕ) → by_its_file log w ≡ true → (g : File) × (log.version_file w ≡ Some g)
  unfolding by_its_file is_some
  its-file w h = go (log.version_file w) (and_right (not (is_some (start_at log w))) _ h)
    where
      go : (o : Option File) → is_some o ≡ true → (g : File) × (o ≡ Some g)
      go None e = apart (cc)
      go (Some g) e = (g, refl)

  -- ---- all of them, from the highest down

  -- version w, by the number below it
  module _ (n w : ℕ) (h : n < w) where
    passing-down : passing log n (w - n) ≡ (by_its_file log (w - 1 + 1) && passing log n (w - 1 - n))
    unfolding passing
    passing-down =
        let more : w - n ≡ suc (w - 1 - n) = omega arith in
        let here : suc (n + (w - 1 - n)) ≡ w - 1 + 1 = omega arith in
        ap (passing log n) more ∙ ap (λ (i : ℕ). by_its_file log i && passing log n (w - 1 - n)) here

    pub passing-next : {g : File} → start_at log (w - 1 + 1) ≡ None → log.version_file (w - 1 + 1) ≡ Some g
        → passing log n (w - n) ≡ passing log n (w - 1 - n)
    passing-next s e = passing-down ∙ ap (λ (b : Bool). b && passing log n (w - 1 - n)) (file-there (w - 1 + 1) s e)

    pub passing-start : {f : File} → start_at log (w - 1 + 1) ≡ Some f → passing log n (w - n) ≡ false
    passing-start s = passing-down ∙ ap (λ (b : Bool). b && passing log n (w - 1 - n)) (file-start (w - 1 + 1) s)

    pub passing-gap : log.version_file (w - 1 + 1) ≡ None → passing log n (w - n) ≡ false
    passing-gap e = passing-down ∙ ap (λ (b : Bool). b && passing log n (w - 1 - n)) (file-gap (w - 1 + 1) e)

  pub passing-none : (n w : ℕ) → w ≤ n → passing log n (w - n) ≡ true
  unfolding passing
  passing-none n w h = let z : w - n ≡ 0 = omega arith in ap (passing log n) z

  -- ---- the way goes on

  -- the way to v goes on from the way to n
  abbrev pub Through : (n v : ℕ) → Type 0
  Through n v = (x : Way) → way_to log n ≡ Some x → (y : Way) × (way_to log v ≡ Some y) × Leads log x n v y

  through-more : (n d : ℕ) → passing log n d ≡ true → Through n (n + d)
  unfolding passing by_file onward_by
  through-more n zero h x e = let z : n ≡ n + 0 = omega arith in subst (λ (v : ℕ). (y : Way) × (way_to log v ≡ Some y) × Leads log x n v y) z (x, e, here)
  through-more n (suc d) h x e =
      let by = and_left (by_its_file log (suc (n + d))) _ h in
      let (y, p, l) = through-more n d (and_right (by_its_file log (suc (n + d))) _ h) x e in
      let (g, f) = its-file (suc (n + d)) by in
      let way : way_to log (suc (n + d)) ≡ Some (and_then y g) = way-file log (n + d) (no_start (suc (n + d)) by)
      ∙ ap (λ (o : Option File). by_file o (λ _. way_to log (n + d))) f ∙ ap (onward_by g) p in
      let z : suc (n + d) ≡ n + suc d = omega arith in
      subst (λ (v : ℕ). (y : Way) × (way_to log v ≡ Some y) × Leads log x n v y) z (and_then y g, way, next l f)

  pub passing-through : (n v : ℕ) → n ≤ v → passing log n (v - n) ≡ true → Through n v
  passing-through n v h e = let z : n + (v - n) ≡ v = omega arith in subst (Through n) z (through-more n (v - n) e)
