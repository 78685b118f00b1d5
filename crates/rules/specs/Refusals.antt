-- The refusals by their numbers. All else in a refusal is zero, but that 6, 7 and 21 name entry and line.
use Rattle.std.specs.Prelude.{Bool, true, false, ℕ}
use Rattle.std.specs.Prelude.{Option, None, Some}

pub record Refusal : Type 0 where
  pub number : ℕ
  pub entry : ℕ
  pub line : ℕ

abbrev pub plain : ℕ → Refusal
plain k = record { number = k; entry = 0; line = 0 }

-- a lent room too short; all rooms untouched
abbrev pub room_too_short : Refusal
room_too_short = plain 1

abbrev pub bundle_malformed : Refusal
bundle_malformed = plain 2

-- version in a name too large
abbrev pub version_too_large : Refusal
version_too_large = plain 3

abbrev pub no_version_zero : Refusal
no_version_zero = plain 4

-- version not kept: no start reaches it
abbrev pub not_kept : Refusal
not_kept = plain 5

-- a line or file read is malformed
abbrev pub malformed : (entry line : ℕ) → Refusal
malformed e l = record { number = 6; entry = e; line = l }

-- more live than the limit after a line
abbrev pub too_many_live : (entry line : ℕ) → Refusal
too_many_live e l = record { number = 7; entry = e; line = l }

-- minReaderVersion above 3
abbrev pub reader_too_high : Refusal
reader_too_high = plain 8

abbrev pub unknown_feature : Refusal
unknown_feature = plain 9

abbrev pub query_malformed : Refusal
query_malformed = plain 10

-- condition on no partition column
abbrev pub no_such_column : Refusal
no_such_column = plain 11

abbrev pub not_writable : Refusal
not_writable = plain 12

abbrev pub checkpoint_disagrees : Refusal
checkpoint_disagrees = plain 13

abbrev pub state_malformed : Refusal
state_malformed = plain 14

abbrev pub too_many_manifests : Refusal
too_many_manifests = plain 15

-- a value of a live file is a number out of range, under a condition that reads numbers
abbrev pub value_out_of_range : Refusal
value_out_of_range = plain 18

-- foreign partition keys: those of an add are not the partition columns in force at its line
abbrev pub foreign_keys : (entry line : ℕ) → Refusal
foreign_keys e l = record { number = 21; entry = e; line = l }

-- ---- an answer, or a refusal

pub data Answer (A : Type 0) : Type 0 where
  accepted : A → Answer A
  refused : Refusal → Answer A

infixl 20 ◌>>=◌
abbrev pub ◌>>=◌ : {A B : Type 0} → Answer A → (A → Answer B) → Answer B
◌>>=◌ (accepted a) f = f a
◌>>=◌ (refused r) f = refused r

-- what is missing is refused
abbrev pub or_refuse : {A : Type 0} → Refusal → Option A → Answer A
or_refuse r None = refused r
or_refuse r (Some a) = accepted a

-- go on only where the test passes
abbrev pub require : Refusal → Bool → Answer (Unit {0})
require r true = accepted tt
require r false = refused r
