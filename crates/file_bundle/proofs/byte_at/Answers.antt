-- A byte of a slice is below 256.
use mathlib.Core.Path.{refl}
use native.Mathlib.Omega.{arith}
use Rattle.file_bundle.proofs.byte_at.Goals as goal

pub bounds-s-i : goal.bounds-s-i
bounds-s-i c = omega arith

pub overflow_cast-result : goal.overflow_cast-result
overflow_cast-result c = omega (arith, c.type_inv.s c.args.i)

pub returns : goal.returns
returns c = (refl, omega (arith, c.type_inv.s c.args.i))
