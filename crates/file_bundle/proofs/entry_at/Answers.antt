-- What is read of the entry is its file's, by the law of file k.
use native.Mathlib.Omega.{arith}
use Prim.Native.Nat.{ℕ, ◌+◌, ◌*◌, ◌≤◌, ◌<◌}
use lib.ListN.{length}
use Rattle.rules.specs.Bytes.{Bytes}
use Rattle.file_bundle.specs.Files.{files_in}
use Rattle.file_bundle.proofs.Reading.{found}
use Rattle.file_bundle.proofs.Answering.{entry-is}
use Rattle.file_bundle.proofs.entry_at.Goals as goal

-- the entry lies in the bundle
inside : (s : Bytes) (k : ℕ) → k < length (files_in s) → 4 + 112 * k + 112 ≤ length s
inside s k h = (found s k h).contents

pub overflow_mul-e : goal.overflow_mul-e
overflow_mul-e c = omega (arith, inside c.args.s.now c.args.k c.requires)

pub overflow_add-e : goal.overflow_add-e
overflow_add-e c = omega (arith, inside c.args.s.now c.args.k c.requires)

pub overflow_add-e_start : goal.overflow_add-e_start
overflow_add-e_start c = omega (arith, inside c.args.s.now c.args.k c.requires)

pub slice_bounds-name_size-end : goal.slice_bounds-name_size-end
slice_bounds-name_size-end c = omega (arith, inside c.args.s.now c.args.k c.requires)

pub u32_at-start-requires : goal.u32_at-start-requires
u32_at-start-requires c = omega (arith, inside c.args.s.now c.args.k c.requires)

pub overflow_add-e_start-2 : goal.overflow_add-e_start-2
overflow_add-e_start-2 c = omega (arith, inside c.args.s.now c.args.k c.requires)

pub u32_at-size-requires : goal.u32_at-size-requires
u32_at-size-requires c = omega (arith, inside c.args.s.now c.args.k c.requires)

pub overflow_add-e_start-3 : goal.overflow_add-e_start-3
overflow_add-e_start-3 c = omega (arith, inside c.args.s.now c.args.k c.requires)

pub u64_at-time-requires : goal.u64_at-time-requires
u64_at-time-requires c = omega (arith, inside c.args.s.now c.args.k c.requires)

pub returns : goal.returns
returns c =
    entry-is c.args.s.now c.args.k (found c.args.s.now c.args.k c.requires) _ _ _ _
    c.name_size-name.ensures.0
    c.name_size-name.ensures.1
    c.u32_at-start.ensures.0
    c.u32_at-size.ensures.0
    c.u64_at-time.ensures
