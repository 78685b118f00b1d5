-- "A skipped manifest held nothing a teacher asked for": where every file of a manifest lies within the manifest's bounds, and the query
-- drops the manifest, the query picks none of these files.
use Rattle.std.specs.Prelude.{◌≡◌, true, false, List, [], ℤ}
use Rattle.std.specs.Prelude.{Some}
use Rattle.facts.specs.Lists.{All}
use Rattle.rules.specs.Bytes.{Bytes, order, is_more}
use Rattle.rules.specs.Actions.{Facts}
use Rattle.rules.specs.Live.{Row}
use Rattle.rules.specs.Query.{number, number_of, As, as_text, as_number, Condition}
use Rattle.rules.specs.Picking.{order_of_numbers, value_at, picked}
use Rattle.rules.specs.Manifests.{Bounds, Manifest, dropped}
use Rattle.demands.specs.Choosing.{bounds_at}

-- a is at most b, as text by its bytes, or as a number where both are numbers
abbrev pub AtMost : As → (a b : Bytes) → Type 0
AtMost as_text a b = is_more (order a b) ≡ false
AtMost as_number a b = (m n : ℤ) → number_of a ≡ number m → number_of b ≡ number n → is_more (order_of_numbers m n) ≡ false

-- the value lies between min and max, as far as they are stated
pub record Between (kind : As) (bounds : Bounds) (value : Bytes) : Type 0 where
  pub from-min : (min : Bytes) → bounds.min ≡ Some min → AtMost kind min value
  pub to-max : (max : Bytes) → bounds.max ≡ Some max → AtMost kind value max

-- the file's value of the condition's column lies between the manifest's bounds of that column, as the condition compares
abbrev pub HeldUnder : Manifest → Facts → Condition → Type 0
HeldUnder m f c =
    (b : Bounds) (x : Bytes) → bounds_at c.column m.bounds ≡ Some b → value_at c.column f.partition_values ≡ Some (Some x) → Between c.kind b x

-- and so it is under every condition of the query
abbrev pub HeldBy : List Condition → Manifest → Facts → Type 0
HeldBy cs m f = All (HeldUnder m f) cs

abbrev pub SkippedHeldNothing : Type 0
SkippedHeldNothing =
    (cs : List Condition) (m : Manifest) (files : List Row) → dropped cs m ≡ true → All (λ (r : Row). HeldBy cs m r.facts) files → picked cs files ≡ []
