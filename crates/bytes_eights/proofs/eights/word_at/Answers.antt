-- `word_at` meets its contract: no sum is over 64 bits.
use Rattle.std.proofs.Common.{◌+◌, arith}
use Rattle.bytes_eights.proofs.Words.{eight-weighed}
use Rattle.bytes_eights.proofs.eights.word_at.Goals as goal

pub overflow_cast-result : goal.overflow_cast-result
overflow_cast-result c = omega (arith, c.type_inv.s c.args.i)

pub overflow_cast-result-2 : goal.overflow_cast-result-2
overflow_cast-result-2 c = omega (arith, c.type_inv.s (c.args.i + 1))

pub overflow_mul-result : goal.overflow_mul-result
overflow_mul-result c = omega (arith, c.type_inv.s (c.args.i + 1))

pub overflow_add-result-2 : goal.overflow_add-result-2
overflow_add-result-2 c =
    omega (arith, c.type_inv.s c.args.i, c.type_inv.s (c.args.i + 1))

pub overflow_cast-result-3 : goal.overflow_cast-result-3
overflow_cast-result-3 c = omega (arith, c.type_inv.s (c.args.i + 2))

pub overflow_mul-result-2 : goal.overflow_mul-result-2
overflow_mul-result-2 c = omega (arith, c.type_inv.s (c.args.i + 2))

pub overflow_add-result-4 : goal.overflow_add-result-4
overflow_add-result-4 c =
    omega (arith, c.type_inv.s c.args.i, c.type_inv.s (c.args.i + 1), c.type_inv.s (c.args.i + 2))

pub overflow_cast-result-4 : goal.overflow_cast-result-4
overflow_cast-result-4 c = omega (arith, c.type_inv.s (c.args.i + 3))

pub overflow_mul-result-3 : goal.overflow_mul-result-3
overflow_mul-result-3 c = omega (arith, c.type_inv.s (c.args.i + 3))

pub overflow_add-result-6 : goal.overflow_add-result-6
overflow_add-result-6 c =
    omega (arith, c.type_inv.s c.args.i, c.type_inv.s (c.args.i + 1), c.type_inv.s (c.args.i + 2), c.type_inv.s (c.args.i + 3))

pub overflow_cast-result-5 : goal.overflow_cast-result-5
overflow_cast-result-5 c = omega (arith, c.type_inv.s (c.args.i + 4))

pub overflow_mul-result-4 : goal.overflow_mul-result-4
overflow_mul-result-4 c = omega (arith, c.type_inv.s (c.args.i + 4))

pub overflow_add-result-8 : goal.overflow_add-result-8
overflow_add-result-8 c =
    omega (arith, c.type_inv.s c.args.i, c.type_inv.s (c.args.i + 1), c.type_inv.s (c.args.i + 2), c.type_inv.s (c.args.i + 3), c.type_inv.s (c.args.i + 4))

pub overflow_cast-result-6 : goal.overflow_cast-result-6
overflow_cast-result-6 c = omega (arith, c.type_inv.s (c.args.i + 5))

pub overflow_mul-result-5 : goal.overflow_mul-result-5
overflow_mul-result-5 c = omega (arith, c.type_inv.s (c.args.i + 5))

pub overflow_add-result-10 : goal.overflow_add-result-10
overflow_add-result-10 c =
    omega (
      arith,
      c.type_inv.s c.args.i,
      c.type_inv.s (c.args.i + 1),
      c.type_inv.s (c.args.i + 2),
      c.type_inv.s (c.args.i + 3),
      c.type_inv.s (c.args.i + 4),
      c.type_inv.s (c.args.i + 5),
    )

pub overflow_cast-result-7 : goal.overflow_cast-result-7
overflow_cast-result-7 c = omega (arith, c.type_inv.s (c.args.i + 6))

pub overflow_mul-result-6 : goal.overflow_mul-result-6
overflow_mul-result-6 c = omega (arith, c.type_inv.s (c.args.i + 6))

pub overflow_add-result-12 : goal.overflow_add-result-12
overflow_add-result-12 c =
    omega (
      arith,
      c.type_inv.s c.args.i,
      c.type_inv.s (c.args.i + 1),
      c.type_inv.s (c.args.i + 2),
      c.type_inv.s (c.args.i + 3),
      c.type_inv.s (c.args.i + 4),
      c.type_inv.s (c.args.i + 5),
      c.type_inv.s (c.args.i + 6),
    )

pub overflow_cast-result-8 : goal.overflow_cast-result-8
overflow_cast-result-8 c = omega (arith, c.type_inv.s (c.args.i + 7))

pub overflow_mul-result-7 : goal.overflow_mul-result-7
overflow_mul-result-7 c = omega (arith, c.type_inv.s (c.args.i + 7))

pub overflow_add-result-14 : goal.overflow_add-result-14
overflow_add-result-14 c =
    omega (
      arith,
      c.type_inv.s c.args.i,
      c.type_inv.s (c.args.i + 1),
      c.type_inv.s (c.args.i + 2),
      c.type_inv.s (c.args.i + 3),
      c.type_inv.s (c.args.i + 4),
      c.type_inv.s (c.args.i + 5),
      c.type_inv.s (c.args.i + 6),
      c.type_inv.s (c.args.i + 7),
    )

pub returns : goal.returns
returns c =
    eight-weighed c.args.s.now c.args.i (λ k. (c.type_inv.s k).fits)
