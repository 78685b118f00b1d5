-- `features_in`: missing, null, or an array of strings.
use mathlib.Core.Path.{subst}
use Rattle.std.specs.Prelude.{Some}
use Rattle.field_scalars.specs.Optionals.{optional_of, OptionalIs}
use Rattle.field_scalars.proofs.Single.{proper-there, proper-inside}
use Rattle.field_containers.proofs.Arrays.{features-missing, features-twice, features-not, features-listed}
use Rattle.field_containers.proofs.features.features_in.Goals as goal

pub optional_in-requires : goal.optional_in-requires
optional_in-requires c = proper-inside c.args.s.now c.args.slot c.requires

pub returns-in_err-v : goal.returns-in_err-v
returns-in_err-v c = rw c.from_residual.ensures (features-twice c.args.s.now c.args.slot c.in_err-v.ensures)

pub returns-in_default : goal.returns-in_default
returns-in_default c =
    let o = subst (λ q. OptionalIs (optional_of c.args.s.now c.args.slot) c.args.s.now c.args.slot (Some q)) c.in_default.is c.in_ok-v.ensures in
    features-missing c.args.s.now c.args.slot c.args.writer o

pub array_at-requires : goal.array_at-requires
array_at-requires c =
    let there = subst (λ q. OptionalIs (optional_of c.args.s.now c.args.slot) c.args.s.now c.args.slot (Some q)) c.in-Some.is c.in_ok-v.ensures in
    proper-there c.args.s.now c.args.slot c.requires there

pub returns-in_err-at : goal.returns-in_err-at
returns-in_err-at c =
    let there = subst (λ q. OptionalIs (optional_of c.args.s.now c.args.slot) c.args.s.now c.args.slot (Some q)) c.in-Some.is c.in_ok-v.ensures in
    rw c.from_residual-in_err-at.ensures (features-not c.args.s.now c.args.slot _ there.says c.in_err-at.ensures)

pub all_known-requires : goal.all_known-requires
all_known-requires c =
    let a = c.in_ok-at.ensures in
    (a.within, record { ss = a.xs; listed = a.listed })

pub returns : goal.returns
returns c =
    let there = subst (λ q. OptionalIs (optional_of c.args.s.now c.args.slot) c.args.s.now c.args.slot (Some q)) c.in-Some.is c.in_ok-v.ensures in
    let array = c.in_ok-at.ensures in
    features-listed c.args.s.now c.args.slot _ there.says c.args.writer c.all_known.result c.in_ok-at.at c.in_ok-at.field-0-1 array
    (c.all_known.ensures array.xs array.listed)
