-- What a query picks of the files of a manifest that it drops: nothing.
use mathlib.Core.Path.{◌≡◌, refl, sym, ap, ◌∙◌}
use mathlib.Core.Logic.{inl, inr}
use mathlib.Core.Bool.{Bool, true, false}
use mathlib.Core.List.{List, [], ◌∷◌}
use Rattle.facts.specs.Lists.{All}
use Rattle.rules.specs.Bytes.{Bytes, keep_if}
use Rattle.rules.specs.Actions.{Facts}
use Rattle.rules.specs.Query.{number, As, as_text, as_number, Op, Condition}
use Rattle.rules.specs.Picking.{meets, order_of_numbers, meets_all, picked}
use Rattle.rules.specs.Manifests.{Manifest}
use Rattle.rules.proofs.Tests.{true-not-false, false_of}
use Rattle.demands.specs.Choosing.{MeetsAs, Meets, MeetsEvery, ExcludesAs, Drops, Dropped}
use Rattle.demands.specs.Skipping.{AtMost, HeldUnder, HeldBy, SkippedHeldNothing}
use Rattle.demands.proofs.Choosing.{meets_all-true, dropped-true}

excluded : (kind : As) (op : Op) (x b lo hi : Bytes) → ExcludesAs kind op b lo hi → AtMost kind lo x → AtMost kind x hi → MeetsAs kind op x b → ⊥
excluded as_text op x b lo hi e p q h = true-not-false h (e.none-meets x p q)
excluded as_number op x b lo hi (bound, min, max, rb, rlo, rhi, e) p q (m, n, rx, rb', h) =
    let same-bound : bound ≡ n = number_same (sym rb ∙ rb') in
    true-not-false h (ap (λ z. meets op (order_of_numbers m z)) (sym same-bound) ∙ e.none-meets m (p min m rlo rx) (q m max rx rhi))
  where
    number_same : {a c : _} → number a ≡ number c → a ≡ c
    number_same i = cc

drops-none : (c : Condition) (m : Manifest) (f : Facts) → Drops c m → HeldUnder m f c → Meets c f → ⊥
drops-none c m f d h (x, there, meets-it) =
    let w = h d.bounds x d.bounds-there there in
    excluded c.kind c.op x c.bound d.min d.max d.excludes (w.from-min d.min d.min-there) (w.to-max d.max d.max-there) meets-it

dropped-none : (cs : List Condition) (m : Manifest) (f : Facts) → Dropped cs m → HeldBy cs m f → MeetsEvery cs f → ⊥
unfolding All
dropped-none [] m f d h k = d
dropped-none (c ∷ cs) m f (inl d) h k = drops-none c m f d h.0 k.0
dropped-none (c ∷ cs) m f (inr d) h k = dropped-none cs m f d h.1 k.1

pub skipped-held-nothing : SkippedHeldNothing
unfolding picked keep_if All
skipped-held-nothing cs m [] d h = refl
skipped-held-nothing cs m (r ∷ rs) d h =
    let never : meets_all cs r.facts ≡ true → ⊥ = λ e. dropped-none cs m r.facts (dropped-true cs m d) h.0 (meets_all-true cs r.facts e) in
    let unmet : meets_all cs r.facts ≡ false = false_of (meets_all cs r.facts) never in
    ap (λ (b : Bool). keep_if b r (picked cs rs)) unmet ∙ skipped-held-nothing cs m rs d h.1
