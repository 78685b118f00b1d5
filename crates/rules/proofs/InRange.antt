-- Values out of range, as a loop over conditions or over rows meets them.
use mathlib.Core.Path.{◌≡◌, refl, ap, ◌∙◌}
use mathlib.Core.Bool.{Bool, true, false}
use Rattle.std.specs.Prelude.{Option, None, Some}
use mathlib.Core.List.{List, [], ◌∷◌}
use Prim.Native.Nat.{ℕ, zero, suc, ◌<◌}
use native.Mathlib.Nat.{le_of_suc-le-suc, not-suc-le-zero}
use lib.ListN.{length, get_or}
use Rattle.facts.specs.Lists.{All}
use Rattle.rules.specs.Bytes.{Bytes}
use Rattle.rules.specs.Actions.{Facts}
use Rattle.rules.specs.Live.{Row}
use Rattle.rules.specs.Query.{As, as_text, Condition}
use Rattle.rules.specs.Picking.{value_at, out_of_as, out_of, any_out_of, in_range_all}

-- ---- conditions

module _ (c : Condition) (cs : List Condition) (f : Facts) where
  pub any_out_of-here : out_of c (value_at c.column f.partition_values) ≡ true → any_out_of (c ∷ cs) f ≡ true
  unfolding any_out_of
  any_out_of-here e = rw (any_out_of, e)

  pub any_out_of-past : out_of c (value_at c.column f.partition_values) ≡ false → any_out_of (c ∷ cs) f ≡ any_out_of cs f
  unfolding any_out_of
  any_out_of-past e = rw (any_out_of, e)

-- a text is never out of range
pub out_of-text : (c : Condition) (v : Option (Option Bytes)) → c.kind ≡ as_text → out_of c v ≡ false
unfolding out_of out_of_as
out_of-text c None e = refl
out_of-text c (Some None) e = refl
out_of-text c (Some (Some x)) e = ap (λ (k : As). out_of_as k x) e

pub any_out_of-text : (cs : List Condition) (f : Facts) → All (λ (c : Condition). c.kind ≡ as_text) cs → any_out_of cs f ≡ false
unfolding any_out_of All
any_out_of-text [] f h = refl
any_out_of-text (c ∷ cs) f h = rw (out_of-text c (value_at c.column f.partition_values) h.0, any_out_of) (any_out_of-text cs f h.1)

-- ---- rows

module _ (cs : List Condition) where
  module _ (r : Row) (rs : List Row) where
    pub in_range_all-here : any_out_of cs r.facts ≡ true → in_range_all cs (r ∷ rs) ≡ false
    unfolding in_range_all
    in_range_all-here e = rw (in_range_all, e)

    pub in_range_all-past : any_out_of cs r.facts ≡ false → in_range_all cs (r ∷ rs) ≡ in_range_all cs rs
    unfolding in_range_all
    in_range_all-past e = rw (in_range_all, e)

  -- the row at m has one
  pub in_range_all-at : (rs : List Row) (m : ℕ) (d : Row) → m < length rs → any_out_of cs (get_or rs m d).facts ≡ true → in_range_all cs rs ≡ false
  in_range_all-at [] m d l e = absurd (not-suc-le-zero l)
  in_range_all-at (r ∷ rs) zero d l e = in_range_all-here r rs e
  in_range_all-at (r ∷ rs) (suc m) d l e = go (in_range_all-at rs m d (le_of_suc-le-suc l) e) (any_out_of cs r.facts) refl
    where
      go : in_range_all cs rs ≡ false → (b : Bool) → any_out_of cs r.facts ≡ b → in_range_all cs (r ∷ rs) ≡ false
      go ih true q = in_range_all-here r rs q
      go ih false q = in_range_all-past r rs q ∙ ih

  pub all-in_range : (rs : List Row) → All (λ (r : Row). any_out_of cs r.facts ≡ false) rs → in_range_all cs rs ≡ true
  unfolding in_range_all All
  all-in_range [] h = refl
  all-in_range (r ∷ rs) h = rw (in_range_all-past r rs h.0) (all-in_range rs h.1)

  -- no condition reads numbers
  pub in_range_all-text : (rs : List Row) → All (λ (c : Condition). c.kind ≡ as_text) cs → in_range_all cs rs ≡ true
  unfolding in_range_all
  in_range_all-text [] h = refl
  in_range_all-text (r ∷ rs) h = rw (in_range_all-past r rs (any_out_of-text cs r.facts h)) (in_range_all-text rs h)
