-- `look` meets its contract. The first key that is the name is the one that is sought.
use Rattle.std.proofs.Common.{rules, tests, ◌≡◌, map, true, false, sym, ◌∙◌, add-one}
use Rattle.std.proofs.lemmas.Iterator.{YieldsList-from_slice, IsFirst-from_position, index_from_first}
use Rattle.rules.specs.Bytes.{same}
use Rattle.field_names.specs.Kinds.{seek}
use Rattle.field_names.proofs.Seeking.{seek-none, seek-here, seek-past}
use Rattle.field_names.proofs.kinds.look.Goals as goal

pub returns : goal.returns
returns c =
    let first = IsFirst-from_position _ _ _ (λ x. same c.args.name.now x.now ≡ true) (λ x. same c.args.name.now x.now ≡ false) c.position.ensures.ran
    (YieldsList-from_slice c.args.keys.now cc) (λ x q k. search (rules, tests)) (λ x q k. search (rules, tests)) in
    c.unwrap_or.ensures
    ∙ sym (index_from_first (λ ks. seek c.args.name.now (map (λ k. k.now) ks)) (λ x. same c.args.name.now x.now ≡ true)
    (λ x. same c.args.name.now x.now ≡ false) (seek-none c.args.name.now) (λ x xs e. seek-here c.args.name.now x.now (map (λ k. k.now) xs) e)
    (λ x xs e. rw add-one (seek-past c.args.name.now x.now (map (λ k. k.now) xs) e)) c.args.keys.now c.position.result first)
