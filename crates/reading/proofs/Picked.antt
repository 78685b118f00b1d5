-- The rows of the picked files as the room holds them at the end: the paper's six numbers of each, then zeros.
use mathlib.Core.Path.{◌≡◌, refl, sym, ap, ◌∙◌}
use mathlib.Core.Bool.{Bool, true, false}
use mathlib.Core.List.{List, [], ◌∷◌, ◌++◌, map}
use Prim.Native.Nat.{ℕ, ◌+◌, ◌*◌, ◌≤◌}
use native.Mathlib.Omega.{arith}
use lib.ListN.{length, drop, length-map}
use Rattle.facts.specs.Lists.{All}
use Rattle.facts.specs.Kept.{kept}
use Rattle.facts.specs.Moves.{zeroed}
use Rattle.facts.specs.Rows.{flat}
use Rattle.facts.proofs.Lists.{drop-later}
use Rattle.facts.proofs.Rows.{length-rows_of}
use Rattle.rules.specs.Bytes.{all_among}
use Rattle.rules.specs.Json.Text.{Text}
use Rattle.rules.specs.Actions.{Facts}
use Rattle.rules.specs.Live.{most_live}
use Rattle.rules.specs.Query.{Condition, column_of}
use Rattle.rules.specs.Picking.{meets_all, picked, in_range_all}
use Rattle.rules.specs.Rooms.{rows_room, filled, row_numbers, rows_numbers}
use Rattle.rules.specs.Refusals.{Answer, accepted, refused, value_out_of_range}
use Rattle.rules.specs.Reading.{told, listing, room_after_reading}
use Rattle.rules.specs.Reading.{Listing as RuleListing}
use Rattle.rules.proofs.Later.{Later}
use Rattle.rules.proofs.Rooms.{zeroed-rows-filled, leaves-accepted}
use Rattle.file_names.specs.declared.Version.{Version}
use Rattle.row_table.specs.Table.{wide, cells, row, layout, rows, Room, behind, Changed}
use Rattle.row_table.specs.declared.Cells.{Cells}
use Rattle.row_live.specs.Live.{place_of, bared}
use Rattle.log_replay.specs.Views.{facts_at, skip_of, row_of, state_of, Stands, Carries}
use Rattle.log_replay.specs.Answers.{Left}
use Rattle.log_replay.specs.declared.State.{State}
use Rattle.log_replay.proofs.Standing.{stands-facts}
use Rattle.log_gate.specs.Judged.{Passes}
use Rattle.log_gate.specs.declared.Numbers.{Numbers}
use Rattle.query_picking.specs.Picked.{Picks, PickedBy}
use Rattle.std.specs.Prelude.{Err, Ok, Result}
use Rattle.reading.specs.declared.Listing.{Listing}
use Rattle.refusals.specs.declared.Refusal.{Refusal}
use Rattle.query_picking.proofs.Fronting.{picked-map}
use Rattle.reading.specs.Answers.{read_is, AnswerIs}
use Rattle.reading.proofs.Rooms.{numbers, answer-left, answer-same}
use Rattle.reading.proofs.Rules.{listed, listing-range, listing-listed}

-- ---- the numbers of rows

All-kept : {A : Type 0} (P : A → Type 0) (test : A → Bool) (xs : List A) → All P xs → All P (kept test xs)
unfolding kept All
All-kept P test [] h = tt
All-kept {A} P test (x ∷ xs) h = go (test x) h.0 (All-kept P test xs h.1)
  where
    go : (b : Bool) → P x → All P (kept test xs) → All P (elim b [ true ↦ x ∷ kept test xs | false ↦ kept test xs ])
    go true p q = (p, q)
    go false p q = q

module _ (src : Text) where
  row-bared : (c : Cells) → Stands src c → cells (bared c) ≡ row_numbers (row_of src c)
  unfolding cells row_numbers row_of skip_of
  row-bared c s =
      let size : c.size ≡ (facts_at src c).size = sym (ap (λ (f : Facts). f.size) (stands-facts src c s) ∙ s.size) in
      let time : c.time ≡ (facts_at src c).modification_time = sym (ap (λ (f : Facts). f.modification_time) (stands-facts src c s) ∙ s.time) in
      ap (λ (n : ℕ). place_of c ∷ c.len ∷ n ∷ c.time ∷ c.skips ∷ c.retry ∷ []) size
      ∙ ap (λ (n : ℕ). place_of c ∷ c.len ∷ (facts_at src c).size ∷ n ∷ c.skips ∷ c.retry ∷ []) time

  rows-bared : (rs : List Cells) → All (Stands src) rs → flat cells (map bared rs) ≡ rows_numbers (map (row_of src) rs)
  unfolding flat rows_numbers All
  rows-bared [] h = refl
  rows-bared (c ∷ rs) h =
      ap (λ (xs : List ℕ). xs ++ flat cells (map bared rs)) (row-bared c h.0) ∙ ap (λ (xs : List ℕ). row_numbers (row_of src c) ++ xs) (rows-bared rs h.1)

-- ---- the rows in front

-- the rows of the live files
abbrev live : State → List ℕ → List Cells
live st t = rows st.live (behind st.base t)

-- u is t once they stand in front
abbrev Settled : State → List ℕ → List ℕ → Type 0
Settled st t u = Changed st.live (live st t) (st.base + st.live) t u

module _ (src : Text) (st : State) (t : List ℕ) (w : Carries src most_live st t) (u : List ℕ) (f : Settled st t u) where
  pub settled-room : Room st.live u
  settled-room = omega (arith, w.few, w.room, f.length)

  pub settled-stands : All (Stands src) (rows st.live u)
  settled-stands = rw f.rows w.stands

  settled-range : (cs : List Condition) {b : Bool} → in_range_all cs (map (row_of src) (rows st.live u)) ≡ b → in_range_all cs (state_of src st t).live ≡ b
  unfolding state_of
  settled-range cs e = sym (ap (λ (rs : List Cells). in_range_all cs (map (row_of src) rs)) f.rows) ∙ e

  -- what was written into its rows then
  settled-left : (t₁ : List ℕ) → behind st.live t₁ ≡ behind st.live u → length t₁ ≡ length u → Left most_live t t₁
  unfolding most_live
  settled-left t₁ rest same =
      let l : st.base + st.live ≤ 1024 = w.few in
      record {
        rest = drop-later (st.live * wide) 6144 t₁ u (omega arith) rest ∙ drop-later ((st.base + st.live) * wide) 6144 u t (omega arith) f.rest;
        length = same ∙ f.length;
      }

-- ---- the answer

-- a value is out of range
pub answer-range : (src : Text) (cs : List Condition) (st : State) (t : List ℕ) (w : Carries src most_live st t) (u : List ℕ) (f : Settled st t u)
    (t₁ after : List ℕ) (v : Version) (n : Numbers) (r : Result Listing Refusal) → Passes (state_of src st t).in_force n
    → all_among (state_of src st t).table.partition_columns (map column_of cs) ≡ true → PickedBy src cs st.live u t₁ (Err (record {}))
    → AnswerIs (refused value_out_of_range) t₁ after r → AnswerIs (listing cs v.0 (state_of src st t)) t after r
unfolding Later
answer-range src cs st t w u f t₁ after v n r g e p a =
    answer-same _ _ _ _ _
    (listing-range cs v.0 (state_of src st t) g.accepts e (settled-range src st t w u f cs p.0))
    (answer-left _ _ _ _ _ (λ k. omega arith) (settled-left src st t w u f t₁ p.1 p.2) a)

module _ (src : Text) (cs : List Condition) (st : State) (t : List ℕ) (w : Carries src most_live st t) where
  -- the rows of the picked files
  picks : List Cells
  picks = kept (λ (c : Cells). meets_all cs (facts_at src c)) (live st t)

  module _ (u : List ℕ) (f : Settled st t u) (m : ℕ) (t₁ t₂ : List ℕ) (p : Picks src cs st.live u m t₁)
      (b : Changed m (map bared (rows m t₁)) m t₁ t₂) where
    holds : rows m t₁ ≡ picks
    unfolding picks
    holds = p.holds ∙ ap (kept (λ (c : Cells). meets_all cs (facts_at src c))) f.rows

    pub picks-few : m * wide ≤ 6144
    unfolding most_live
    picks-few = let a : m ≤ st.live = p.few in let l : st.base + st.live ≤ 1024 = w.few in omega arith

    pub picks-long : 6144 ≤ length t₂
    unfolding most_live
    picks-long = omega (arith, w.room, f.length, p.length, b.length)

    count : length (picked cs (state_of src st t).live) ≡ m
    unfolding state_of picks
    count =
        ap length (picked-map src cs (live st t)) ∙ length-map picks (row_of src) ∙ ap length (sym holds) ∙ length-rows_of wide row m t₁

    beyond : drop 6144 t₂ ≡ drop 6144 t
    unfolding most_live
    beyond =
        drop-later (m * wide) 6144 t₂ t₁ picks-few b.rest
        ∙ drop-later (st.live * wide) 6144 t₁ u (let l : st.base + st.live ≤ 1024 = w.few in omega arith) p.rest
        ∙ drop-later ((st.base + st.live) * wide) 6144 u t (let l : st.base + st.live ≤ 1024 = w.few in omega arith) f.rest

    room : zeroed (m * wide) 6144 t₂ ≡ filled 6144 (rows_numbers (picked cs (state_of src st t).live)) t
    unfolding state_of picks
    room =
        zeroed-rows-filled layout m 6144 (map bared picks) t₂ t picks-few picks-long (b.rows ∙ ap (map bared) holds) beyond
        ∙ ap (λ (xs : List ℕ). filled 6144 xs t)
        (rows-bared src picks (All-kept (Stands src) (λ (c : Cells). meets_all cs (facts_at src c)) (live st t) w.stands)
        ∙ ap rows_numbers (sym (picked-map src cs (live st t))))

    pub answer-listed : (v : Version) (after : List ℕ) (n : Numbers) → Passes (state_of src st t).in_force n
        → all_among (state_of src st t).table.partition_columns (map column_of cs) ≡ true
        → in_range_all cs (map (row_of src) (rows st.live u)) ≡ true → after ≡ zeroed (m * wide) 6144 t₂
        → AnswerIs (listing cs v.0 (state_of src st t)) t after
        (Ok (record { version = v; rows = m; reader = n.reader; writer = n.writer; writable = n.writable }))
    unfolding read_is told room_after_reading rows_room numbers
    answer-listed v after n g e i z =
        let k : listing cs v.0 (state_of src st t) ≡ accepted (listed cs v.0 (state_of src st t)) =
        listing-listed cs v.0 (state_of src st t) g.accepts e (settled-range src st t w u f cs i) in
        record {
          answer = says ∙ sym (ap told k);
          holds =
              z ∙ room ∙ sym (ap (λ (a : Answer RuleListing). room_after_reading a t) k ∙ leaves-accepted 6144 numbers t (listed cs v.0 (state_of src st t)));
        }
      where
        says : read_is (Ok (record { version = v; rows = m; reader = n.reader; writer = n.writer; writable = n.writable }))
            ≡ told (accepted (listed cs v.0 (state_of src st t)))
        says = rw (count, g.reader, g.writer, g.writable) refl
