-- What is read of entry k is its file's, and so are the parts that it points to.
use mathlib.Core.Path.{◌≡◌, sym, ap, ◌∙◌}
use Prim.Native.Nat.{ℕ, ◌+◌, ◌*◌, ◌-◌, ◌≤◌}
use native.Mathlib.Omega.{arith}
use lib.ListN.{length, take, drop, length-drop}
use lib.Seq.{take-take, length-take-le}
use Rattle.facts.specs.Parts.{part}
use Rattle.rules.specs.Bytes.{Bytes}
use Rattle.rules.specs.Numbers.{little}
use Rattle.rules.specs.Bundle.{entry_of, field}
use Rattle.file_bundle.specs.Files.{name_size, file_in}
use Rattle.file_bundle.specs.Answers.{EntryIs}
use Rattle.file_bundle.proofs.Entries.{entry-start, entry-size, entry-time}
use Rattle.file_bundle.proofs.Naming.{name_in-size}
use Rattle.file_bundle.proofs.Reading.{Found}

module _ (s : Bytes) (k : ℕ) (found : Found s k) where
  abbrev e : ℕ
  e = 4 + 112 * k

  pub name-part : (m : ℕ) → m ≡ name_size (take (e + 96 - e) (drop e s)) → m ≤ length (take (e + 96 - e) (drop e s))
      → (m ≤ 96) × (part s e (e + m) ≡ (file_in s k).name)
  unfolding part entry_of field
  name-part m hm hl =
      let long : 4 + 112 * k + 112 ≤ length s = found.contents in
      let c : e + 96 - e ≡ 96 = omega arith in
      let padded = take 96 (drop e s) in
      let counted : m ≡ name_size padded = rw c at hm in
      let bound : m ≤ length padded = rw c at hl in
      let room : 96 ≤ length (drop e s) = rw length-drop (omega arith) in
      let short : m ≤ 96 = rw (length-take-le 96 (drop e s) room) at bound in
      let up_to : e + m - e ≡ m = omega arith in (
        short,
        rw up_to
            (sym (take-take m 96 (drop e s) short) ∙ ap (λ (x : ℕ). take x padded) counted ∙ name_in-size padded (file_in s k).name found.file.named),
      )

  pub body-part : (a z : ℕ) → a ≡ little (field (e + 96) 4 s) → z ≡ little (field (e + 96 + 4) 4 s)
      → (a ≡ (file_in s k).start) × (a + z ≤ length s) × (part s a (a + z) ≡ (file_in s k).body)
  unfolding part
  body-part a z ha hz =
      let f = found.file in
      let start : a ≡ (entry_of (drop e s)).start = ha ∙ sym (entry-start e s) in
      let size : z ≡ (entry_of (drop e s)).size = hz ∙ sym (entry-size e s (e + 96 + 4) (omega arith)) in
      let wide : a + z - a ≡ z = omega arith in
      (start ∙ f.start, rw (start, size) f.inside, rw (wide, start, size) f.body)

  pub entry-is : (m a z t : ℕ) → m ≡ name_size (take (e + 96 - e) (drop e s)) → m ≤ length (take (e + 96 - e) (drop e s))
      → a ≡ little (field (e + 96) 4 s) → z ≡ little (field (e + 96 + 4) 4 s) → t ≡ little (field (e + 96 + 8) 8 s)
      → EntryIs s (file_in s k) k (record { name = m; start = a; size = z; time = record { 0 = t } })
  entry-is m a z t hm hl ha hz ht =
      let name = name-part m hm hl in
      let body = body-part a z ha hz in
      record {
        contents = omega (arith, found.contents);
        short = name.0;
        name = name.1;
        start = body.0;
        inside = body.1;
        body = body.2;
        time = ht ∙ sym (entry-time e s (e + 96 + 8) (omega arith)) ∙ found.file.time;
        number = found.file.number;
      }
