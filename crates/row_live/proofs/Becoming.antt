-- What a row written, put in or taken out at the place that a search found makes of a live table.
use Prim.Native.Nat.{ℕ, ◌+◌, ◌-◌, ◌*◌, ◌≤◌, ◌<◌}
use mathlib.Core.Path.{◌≡◌, refl, sym, ap, ◌∙◌, subst}
use native.Mathlib.Omega.{arith}
use mathlib.Core.List.{List, []}
use lib.ListN.{length, take, drop, set, length-drop}
use lib.Seq.{drop-drop}
use Rattle.facts.specs.Lists.{All}
use Rattle.facts.specs.Parts.{part}
use Rattle.facts.specs.Rows.{insert_at, remove_at}
use Rattle.facts.proofs.Parts.{part-behind}
use Rattle.facts.proofs.Rows.{length-rows_of, get_d-rows_of}
use Rattle.rules.specs.Bytes.{Bytes}
use Rattle.rules.specs.Live.{put, take_out, change}
use Rattle.rules.specs.Json.Text.{Text}
use Rattle.rules.specs.Keyed.{Ascends}
use Rattle.rules.proofs.Changing.{All-change, ascends-change, change-found, bracket-change}
use Rattle.rules.proofs.Live.{All-put, All-take_out, ascends_put, ascends-take_out}
use Rattle.rules.proofs.Searching.{put-found, take_out-found, bracket-put, bracket-take_out}
use Rattle.json_strings.specs.Decoded.{WellSpelled}
use Rattle.row_table.specs.Table.{wide, row, rows, row_at, Room, behind, Changed, Stood}
use Rattle.row_table.specs.declared.Cells.{Cells}
use Rattle.row_table.proofs.Standing.{stood-over, stood-none, stood-as}
use Rattle.std.specs.Prelude.{Result, Ok, Err}
use Rattle.row_live.specs.Live.{path_at, key, Table, Finds, Became, marked}

-- the slice from a row on
pub onward : (base : ℕ) (t : List ℕ) → take (length t - base * wide) (drop (base * wide) t) ≡ behind base t
unfolding part
onward base t = part-behind t (base * wide) (length t) (omega arith)

-- what is found there
module _ (src : Text) (k : Bytes) (base n i : ℕ) (t : List ℕ) where
  pub held-onward : {r : (Result ℕ ℕ)} → r ≡ Ok i → Finds src k n (take (length t - base * wide) (drop (base * wide) t)) r
      → Finds src k n (behind base t) (Ok i)
  held-onward e f = subst (λ (u : List ℕ). Finds src k n u (Ok i)) (onward base t) (subst (Finds src k n _) e f)

  pub place-onward : {r : (Result ℕ ℕ)} → r ≡ Err i → Finds src k n (take (length t - base * wide) (drop (base * wide) t)) r
      → Finds src k n (behind base t) (Err i)
  place-onward e f = subst (λ (u : List ℕ). Finds src k n u (Err i)) (onward base t) (subst (Finds src k n _) e f)

-- a row behind others is one of all
row-behind : (base n i : ℕ) (t : List ℕ) → i < n → row_at (rows n (behind base t)) i ≡ row_at (rows (base + n) t) (base + i)
row-behind base n i t h =
    let e : base * wide + i * wide ≡ (base + i) * wide = omega arith in
    get_d-rows_of wide row n i (row []) (behind base t) h
    ∙ ap row (drop-drop (i * wide) (base * wide) t ∙ ap (λ (k : ℕ). drop k t) e)
    ∙ sym (get_d-rows_of wide row (base + n) (base + i) (row []) t (omega arith))

abbrev Spelled : Text → Cells → Type 0
Spelled src c = WellSpelled src (path_at c)

-- rows that are spelled and ascend are a table
became : {src : Text} {rs : List Cells} (base m limit : ℕ) {t t' : List ℕ} → Room limit t → Stood base m rs limit t t'
    → All (Spelled src) rs → Ascends (key src) rs → Became src rs limit t (record { base = base; live = m }) t'
became {src} {rs} base m limit {t} {t'} room p spelled ascends = record {
  count = sym (length-rows_of wide row m (behind base t')) ∙ ap length p.rows;
  holds = p.rows;
  within = p.within;
  rest = p.rest;
  length = p.length;
  table = record { room = omega (arith, p.length, p.within, length-drop (base * wide) t'); spelled = rw p.rows spelled; ascends = rw p.rows ascends };
}

module _ {src : Text} (base n limit : ℕ) {t : List ℕ} (h : Table src n (behind base t)) (room : Room limit t) where
  -- ---- a row put in

  module _ (c : Cells) (w : Spelled src c) {t' : List ℕ} where
    became-put : (b m : ℕ) → Stood b m (put (key src) c (rows n (behind base t))) limit t t'
        → Became src (put (key src) c (rows n (behind base t))) limit t (record { base = b; live = m }) t'
    became-put b m p =
        became b m limit room p
        (All-put (key src) (Spelled src) c (rows n (behind base t)) h.spelled w)
        (ascends_put (key src) c (rows n (behind base t)) h.ascends)

    -- over the row with the same path
    pub became-over : (i : ℕ) → base + n ≤ limit → Finds src (key src c) n (behind base t) (Ok i)
        → Changed (base + n) (set (rows (base + n) t) (base + i) c) (base + n) t t'
        → Became src (put (key src) c (rows n (behind base t))) limit t (record { base = base; live = n }) t'
    became-over i l f p =
        let e : put (key src) c (rows n (behind base t)) ≡ set (rows n (behind base t)) i c
        = put-found (key src) c (rows n (behind base t)) i (row []) h.ascends (rw length-rows_of f.0) f.1 in
        became-put base n (stood-as (sym e) (stood-over base n i limit t t' l room c f.0 p))

    -- beside the others
    pub became-more : (b i : ℕ) → Finds src (key src c) n (behind base t) (Err i) → Stood b (n + 1) (insert_at i c (rows n (behind base t))) limit t t'
        → Became src (put (key src) c (rows n (behind base t))) limit t (record { base = b; live = n + 1 }) t'
    became-more b i f p =
        let e : put (key src) c (rows n (behind base t)) ≡ insert_at i c (rows n (behind base t))
        = bracket-put (key src) (key src c) (rows n (behind base t)) (row []) i i f (omega arith) c refl in
        became-put b (n + 1) (stood-as (sym e) p)

  -- ---- a row taken out

  module _ (k : Bytes) where
    became-out : {t' : List ℕ} (b m : ℕ) → Stood b m (take_out (key src) k (rows n (behind base t))) limit t t'
        → Became src (take_out (key src) k (rows n (behind base t))) limit t (record { base = b; live = m }) t'
    became-out b m p =
        became b m limit room p
        (All-take_out (key src) (Spelled src) k (rows n (behind base t)) h.spelled)
        (ascends-take_out (key src) k (rows n (behind base t)) h.ascends)

    pub became-less : {t' : List ℕ} (b i : ℕ) → Finds src k n (behind base t) (Ok i) → Stood b (n - 1) (remove_at i (rows n (behind base t))) limit t t'
        → Became src (take_out (key src) k (rows n (behind base t))) limit t (record { base = b; live = n - 1 }) t'
    became-less b i f p =
        let e : take_out (key src) k (rows n (behind base t)) ≡ remove_at i (rows n (behind base t))
        = take_out-found (key src) k (rows n (behind base t)) i (row []) h.ascends (rw length-rows_of f.0) f.1 in
        became-out b (n - 1) (stood-as (sym e) p)

    -- there is none
    pub became-same : (i : ℕ) → base + n ≤ limit → Finds src k n (behind base t) (Err i)
        → Became src (take_out (key src) k (rows n (behind base t))) limit t (record { base = base; live = n }) t
    became-same i l f =
        let e : take_out (key src) k (rows n (behind base t)) ≡ rows n (behind base t) =
        bracket-take_out (key src) k (rows n (behind base t)) (row []) i i f (omega arith) in
        became-out base n (stood-as (sym e) (stood-none base n limit t l))

  -- ---- a row marked

  module _ (k : Bytes) (skips retry : ℕ) where
    became-change : {t' : List ℕ} → Stood base n (change (key src) k (marked skips retry) (rows n (behind base t))) limit t t'
        → Became src (change (key src) k (marked skips retry) (rows n (behind base t))) limit t (record { base = base; live = n }) t'
    became-change p =
        became base n limit room p
        (All-change (key src) k (marked skips retry) (Spelled src) (rows n (behind base t)) h.spelled (λ c w. w))
        (ascends-change (key src) k (marked skips retry) (λ c. refl) (rows n (behind base t)) h.ascends)

    pub became-marked : {t' : List ℕ} (i : ℕ) (c : Cells) → base + n ≤ limit → Finds src k n (behind base t) (Ok i)
        → c ≡ row_at (rows (base + n) t) (base + i)
        → Changed (base + n) (set (rows (base + n) t) (base + i) (marked skips retry c)) (base + n) t t'
        → Became src (change (key src) k (marked skips retry) (rows n (behind base t))) limit t (record { base = base; live = n }) t'
    became-marked {t'} i c l f was p =
        let e : change (key src) k (marked skips retry) (rows n (behind base t)) ≡ set (rows n (behind base t)) i (marked skips retry c)
        = change-found (key src) k (marked skips retry) (rows n (behind base t)) i (row []) h.ascends (rw length-rows_of f.0) f.1
        ∙ ap (λ (x : Cells). set (rows n (behind base t)) i (marked skips retry x)) (row-behind base n i t f.0 ∙ sym was) in
        became-change (stood-as (sym e) (stood-over base n i limit t t' l room (marked skips retry c) f.0 p))

    -- there is none
    pub became-unmarked : (i : ℕ) → base + n ≤ limit → Finds src k n (behind base t) (Err i)
        → Became src (change (key src) k (marked skips retry) (rows n (behind base t))) limit t (record { base = base; live = n }) t
    became-unmarked i l f =
        let e : change (key src) k (marked skips retry) (rows n (behind base t)) ≡ rows n (behind base t) =
        bracket-change (key src) k (marked skips retry) (rows n (behind base t)) (row []) i i f (omega arith) in
        became-change (stood-as (sym e) (stood-none base n limit t l))
