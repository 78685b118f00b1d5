-- What a line does, by what it says: to the rules' state, and to what is carried.
use mathlib.Core.Path.{◌≡◌, refl, sym, ap, ◌∙◌, subst}
use mathlib.Core.Bool.{Bool, true, false}
use Rattle.std.specs.Prelude.{Option, None, Some}
use mathlib.Core.List.{List, map}
use Prim.Native.Nat.{ℕ, ◌+◌, ◌≤◌, ◌<◌}
use native.Mathlib.Omega.{arith}
use lib.ListN.{length, drop, length-map}
use Rattle.facts.specs.Lists.{All}
use Rattle.facts.specs.Parts.{part}
use Rattle.rules.specs.Bytes.{Bytes}
use Rattle.rules.specs.Json.Text.{Text}
use Rattle.rules.specs.Actions.{Facts, Skip, no_skip, add, remove, protocol, meta_data, mergeskip, other, action}
use Rattle.rules.specs.Actions.{Action as RuleAction, Protocol as RuleProtocol, MetaData as RuleMetaData}
use Rattle.rules.specs.Live.{Row, put, take_out, change, skipped, path_of}
use Rattle.rules.specs.Refusals.{accepted}
use Rattle.rules.specs.History.{fits, added, effect, within_limit, read_line, or_unstated}
use Rattle.rules.proofs.Tests.{apart}
use Rattle.rules.proofs.Live.{All-put, All-take_out}
use Rattle.json_strings.specs.Decoded.{decoded, WellSpelled}
use Rattle.row_table.specs.Table.{rows, behind}
use Rattle.row_table.specs.declared.Cells.{Cells}
use Rattle.row_live.specs.declared.Standing.{Standing}
use Rattle.row_live.specs.Live.{place_of, key, Packed, Became, marked}
use Rattle.refusals.specs.Numbered.{numbered}
use Rattle.refusals.specs.declared.Refusal.TheVariants.{TooManyLive, Malformed as MalformedLine, ForeignKeys}
use Rattle.line_actions.specs.Line.{ActionIs}
use Rattle.line_actions.specs.Asked.{add_in, protocol_in}
use Rattle.line_actions.specs.declared.line.Added.{Added}
use Rattle.line_actions.specs.declared.line.Stated.{Stated}
use Rattle.line_actions.specs.declared.line.Tabled.{Tabled}
use Rattle.line_actions.specs.declared.line.Skipped.{Skipped}
use Rattle.std.specs.Prelude.{Ok, Err}
use Rattle.line_actions.specs.declared.line.Action.TheVariants.{Add, Remove, Protocol, MetaData, Mergeskip, Other}
use Rattle.log_replay.specs.declared.State.{State}
use Rattle.log_replay.specs.Views.{Lies, line_at, protocol_at, facts_at, skip_of, row_of, or_no_table, table_at, state_of, Stands, Carries}
use Rattle.log_replay.specs.Answers.{Carried, PutIs, origin, LineIs}
use Rattle.rules.proofs.Applying.{within_limit-few, within_limit-many, read_line-none, read_line-some, read_line-foreign}
use Rattle.json_strings.proofs.Placing.{Placed, spelled-part}
use Rattle.log_replay.proofs.Nothing.{table_here, table-there}
use Rattle.log_replay.proofs.Standing.{stands-facts, rows-put, rows-take_out, stands-change, rows-change, length-live}

-- the row of an add
abbrev pub row_for : (head len : ℕ) → Added → Cells
row_for head len a = record { head = head; len = len; size = a.size; time = a.time; skips = 0; retry = 0 }

-- an action that is no add has no keys
keyless : (held : Bool) (a : RuleAction) → add_in (Some a) ≡ None → (m : RuleMetaData) → fits (origin held) a m ≡ true
unfolding fits add_in
keyless true (add f) e m = apart (cc)
keyless true (remove p) e m = refl
keyless true (protocol p) e m = refl
keyless true (meta_data n) e m = refl
keyless true (mergeskip p k) e m = refl
keyless true other e m = refl
keyless false a e m = refl

-- rows that stand are carried on, as a change of the table left them
became-carried : {src : Text} {limit : ℕ} {st : State} {t t' : List ℕ} {rs : List Cells} (r : Standing) → Carries src limit st t → All (Stands src) rs
    → Became src rs limit t r t'
    → Carried src limit t (record { table = st.table; columns = st.columns; protocol = st.protocol; base = r.base; live = r.live }) t'
became-carried {src} {limit} {st} {t} {t'} {rs} r w all b = record {
  left = record { rest = b.rest; length = b.length };
  carries = record {
    short = w.short;
    room = let l : length t' ≡ length t = b.length in omega (arith, w.room);
    few = b.within;
    table = b.table;
    stands = subst (All (Stands src)) (sym b.holds) all;
    meta_data = w.meta_data;
    told = w.told;
    protocol = w.protocol;
  };
}

module _ (src line : Text) (limit from : ℕ) (st : State) (t : List ℕ) (w : Carries src limit st t) (z : Lies src from line) (h : 0 < length line) where
  -- ---- to the rules' state

  acts : (held : Bool) (a : RuleAction) → action line ≡ Some a → fits (origin held) a (state_of src st t).table ≡ true → (e k : ℕ)
      → read_line limit (origin held) e k from line (state_of src st t) ≡ within_limit limit e k (effect from (length line) a (state_of src st t))
  acts held a q f e k =
      read_line-some limit (origin held) e k from line (state_of src st t) h a q f

  leads : (held : Bool) (a : RuleAction) → action line ≡ Some a → fits (origin held) a (state_of src st t).table ≡ true → (m : State) (t' : List ℕ)
      → effect from (length line) a (state_of src st t) ≡ state_of src m t'
      → m.base + m.live ≤ limit
      → (e k : ℕ) → read_line limit (origin held) e k from line (state_of src st t) ≡ accepted (state_of src m t')
  leads held a q fit m t' f few e k =
      acts held a q fit e k ∙ ap (within_limit limit e k) f ∙ within_limit-few limit e k (state_of src m t') (omega (arith, length-live src m t'))

  -- ---- lines that change no row

  carried_same : Carried src limit t st t
  carried_same = record { left = record { rest = refl; length = refl }; carries = w }

  pub did-other : (held : Bool) (e k : ℕ) → ActionIs (action line) line (Some Other) → LineIs src limit held from line e k st t t (Ok st)
  unfolding effect add_in
  did-other held e k q = (leads held other q (keyless held other refl _) st t refl w.few e k, carried_same)

  pub did-malformed : (held : Bool) (e k : ℕ) → ActionIs (action line) line None → LineIs src limit held from line e k st t t (Err (MalformedLine e k))
  unfolding numbered
  did-malformed held e k q = (read_line-none limit (origin held) e k from line (state_of src st t) h q, refl)

  stated : (p : RuleProtocol) → action line ≡ Some (protocol p) → p ≡ or_unstated (protocol_at src (record { at = from; size = length line }))
  unfolding protocol_at protocol_in line_at or_unstated
  stated p q = sym (ap (λ o. or_unstated (protocol_in o)) (ap action z.same ∙ q))

  pub did-meta_data : (held : Bool) (e k : ℕ) {r : Tabled} → ActionIs (action line) line (Some (MetaData r))
      → LineIs src limit held from line e k st t t
      (Ok (record { table = record { at = from; size = length line }; columns = r.columns; protocol = st.protocol; base = st.base; live = st.live }))
  unfolding effect state_of or_no_table add_in
  did-meta_data held e k {r} q =
      let m : State =
      record { table = record { at = from; size = length line }; columns = r.columns; protocol = st.protocol; base = st.base; live = st.live } in (
        leads held (meta_data q.0) q.1 (keyless held (meta_data q.0) refl _) m t
            (ap
            (λ (o : Option RuleMetaData). record {
              table = or_no_table o;
              in_force = or_unstated (protocol_at src st.protocol);
              live = map (row_of src) (rows st.live (behind st.base t));
            }) (sym (table_here z q.1)))
            w.few e k,
        record {
          left = record { rest = refl; length = refl };
          carries = record {
            short = w.short;
            room = w.room;
            few = w.few;
            table = w.table;
            stands = w.stands;
            meta_data = z.within;
            told = λ n. table-there z q;
            protocol = w.protocol;
          };
        },
      )

  pub did-protocol : (held : Bool) (e k : ℕ) {r : Stated} → ActionIs (action line) line (Some (Protocol r))
      → LineIs src limit held from line e k st t t
      (Ok (record { table = st.table; columns = st.columns; protocol = record { at = from; size = length line }; base = st.base; live = st.live }))
  unfolding effect state_of add_in
  did-protocol held e k q =
      let m : State =
      record { table = st.table; columns = st.columns; protocol = record { at = from; size = length line }; base = st.base; live = st.live } in (
        leads held (protocol q.0) q.1 (keyless held (protocol q.0) refl _) m t
            (ap
            (λ (p : RuleProtocol). record {
              table = or_no_table (table_at src st.table);
              in_force = p;
              live = map (row_of src) (rows st.live (behind st.base t));
            }) (stated q.0 q.1))
            w.few e k,
        record {
          left = record { rest = refl; length = refl };
          carries = record {
            short = w.short;
            room = w.room;
            few = w.few;
            table = w.table;
            stands = w.stands;
            meta_data = w.meta_data;
            told = w.told;
            protocol = z.within;
          };
        },
      )

  -- ---- a path in the line, and in the bundle

  placed : (p : ℕ) → WellSpelled line p → Placed src (from + p) (decoded (drop p line))
  placed p q =
      subst (λ (l : Text). Placed src (from + p) (decoded (drop p l))) z.same
      (spelled-part src from (from + length line) (omega arith) p (subst (λ (l : Text). WellSpelled l p) (sym z.same) q))

  -- ---- a remove

  pub remove-placed : {p : ℕ} → ActionIs (action line) line (Some (Remove p)) → Placed src (from + p) (decoded (drop p line))
  remove-placed {p} q = placed p q.1

  pub remove-fits : {p : ℕ} → ActionIs (action line) line (Some (Remove p)) → from + p ≤ length src
  remove-fits {p} q = let n : p ≤ length line = q.2 in omega (arith, z.within)

  pub did-remove : (held : Bool) (entry number : ℕ) {p : ℕ} {t' : List ℕ} (r : Standing) → ActionIs (action line) line (Some (Remove p))
      → Became src (take_out (key src) (decoded (drop (from + p) src)) (rows st.live (behind st.base t))) limit t r t'
      → LineIs src limit held from line entry number st t t'
      (Ok (record { table = st.table; columns = st.columns; protocol = st.protocol; base = r.base; live = r.live }))
  unfolding effect state_of add_in
  did-remove held entry number {p} {t'} r q b =
      let rs : List Cells = rows st.live (behind st.base t) in
      let k : Bytes = decoded (drop (from + p) src) in
      let x : Bytes = decoded (drop p line) in
      let e : map (row_of src) (rows r.live (behind r.base t')) ≡ take_out path_of x (map (row_of src) rs) =
      ap (map (row_of src)) b.holds ∙ rows-take_out src k rs w.stands
      ∙ ap (λ (y : Bytes). take_out path_of y (map (row_of src) rs)) (remove-placed q).same in (
        leads held
            (remove x)
            q.0
            (keyless held (remove x) refl _)
            (record { table = st.table; columns = st.columns; protocol = st.protocol; base = r.base; live = r.live })
            t'
            (ap
            (λ (rs' : List Row). record { table = or_no_table (table_at src st.table); in_force = or_unstated (protocol_at src st.protocol); live = rs' })
            (sym e))
            b.within entry number,
        became-carried r w (All-take_out (key src) (Stands src) k rs w.stands) b,
      )

  -- ---- a mergeskip

  pub skip-placed : {k : Skipped} → ActionIs (action line) line (Some (Mergeskip k)) → Placed src (from + k.path) (decoded (drop k.path line))
  skip-placed {k} q = placed k.path q.spelled

  pub skip-fits : {k : Skipped} → ActionIs (action line) line (Some (Mergeskip k)) → from + k.path ≤ length src
  skip-fits {k} q = let n : k.path ≤ length line = q.within in omega (arith, z.within)

  pub did-mergeskip : (held : Bool) (entry number : ℕ) {k : Skipped} {t' : List ℕ} → ActionIs (action line) line (Some (Mergeskip k))
      → Became src (change (key src) (decoded (drop (from + k.path) src)) (marked k.count k.retry) (rows st.live (behind st.base t)))
      limit t (record { base = st.base; live = st.live }) t'
      → LineIs src limit held from line entry number st t t' (Ok st)
  unfolding effect state_of add_in
  did-mergeskip held entry number {k} {t'} q b =
      let rs : List Cells = rows st.live (behind st.base t) in
      let said : Skip = record { count = k.count; retry_after = k.retry } in
      let x : Bytes = decoded (drop k.path line) in
      let e : map (row_of src) (rows st.live (behind st.base t')) ≡ change path_of x (skipped said) (map (row_of src) rs) =
      ap (map (row_of src)) b.holds ∙ rows-change src (decoded (drop (from + k.path) src)) k.count k.retry rs w.stands
      ∙ ap (λ (y : Bytes). change path_of y (skipped said) (map (row_of src) rs)) (skip-placed q).same in (
        leads held
            (mergeskip x said)
            q.says
            (keyless held (mergeskip x said) refl _)
            st
            t'
            (ap
            (λ (rs' : List Row). record { table = or_no_table (table_at src st.table); in_force = or_unstated (protocol_at src st.protocol); live = rs' })
            (sym e))
            w.few entry number,
        became-carried (record { base = st.base; live = st.live }) w
            (stands-change src (decoded (drop (from + k.path) src)) k.count k.retry rs w.stands) b,
      )

  -- ---- an add

  module _ {a : Added} (q : ActionIs (action line) line (Some (Add a))) where
    pub add-placed : Placed src (from + a.path) (decoded (drop a.path line))
    add-placed = placed a.path q.2.spelled

    pub add-fits : from + a.path ≤ length src
    add-fits = let n : a.path ≤ a.end = q.2.ordered in let k : a.end ≤ length line = q.2.within in omega (arith, z.within)

    pub did-foreign : (held : Bool) → fits (origin held) (add q.0) (or_no_table (table_at src st.table)) ≡ false → (e k : ℕ)
        → LineIs src limit held from line e k st t t (Err (ForeignKeys e k))
    unfolding state_of numbered
    did-foreign held fit e k = (read_line-foreign limit (origin held) e k from line (state_of src st t) h (add q.0) q.1 fit, refl)

    module _ (head : ℕ) (packed : Packed from (from + a.path) head) where
      line_of : action (part src (place_of (row_for head (length line) a)) (place_of (row_for head (length line) a) + length line)) ≡ Some (add q.0)
      line_of = ap (λ (n : ℕ). action (part src n (n + length line))) packed.place ∙ ap action z.same ∙ q.1

      stands-add : Stands src (row_for head (length line) a)
      stands-add = record {
        facts = q.0;
        within = let e : place_of (row_for head (length line) a) ≡ from = packed.place in omega (arith, z.within);
        adds = line_of;
        path = sym q.2.path ∙ sym add-placed.same ∙ ap (λ (n : ℕ). decoded (drop n src)) (sym packed.path);
        size = sym q.2.size;
        time = sym q.2.time;
      }

      row-add : row_of src (row_for head (length line) a) ≡ added from (length line) q.0
      unfolding row_of skip_of stands-add added no_skip
      row-add =
          ap (λ (n : ℕ). record { at = n; size = length line; facts = facts_at src (row_for head (length line) a); skip = no_skip }) packed.place
          ∙ ap (λ (f : Facts). record { at = from; size = length line; facts = f; skip = no_skip }) (stands-facts src (row_for head (length line) a) stands-add)

      live-add : map (row_of src) (put (key src) (row_for head (length line) a) (rows st.live (behind st.base t)))
          ≡ put path_of (added from (length line) q.0) (map (row_of src) (rows st.live (behind st.base t)))
      live-add =
          rows-put src (row_for head (length line) a) (rows st.live (behind st.base t)) stands-add w.stands
          ∙ ap (λ (r : Row). put path_of r (map (row_of src) (rows st.live (behind st.base t)))) row-add

      pub did-add : (held : Bool) → fits (origin held) (add q.0) (or_no_table (table_at src st.table)) ≡ true → (e k : ℕ) {t' : List ℕ} (r : Standing)
          → PutIs src (row_for head (length line) a) st.base st.live limit t t' (Some r)
          → LineIs src limit held from line e k st t t'
          (Ok (record { table = st.table; columns = st.columns; protocol = st.protocol; base = r.base; live = r.live }))
      unfolding effect state_of
      did-add held fit e k {t'} r b = (
        leads held (add q.0) q.1 fit (record { table = st.table; columns = st.columns; protocol = st.protocol; base = r.base; live = r.live }) t'
            (ap (λ (rs : List Row). record { table = or_no_table (table_at src st.table); in_force = or_unstated (protocol_at src st.protocol); live = rs })
            (sym (ap (map (row_of src)) b.holds ∙ live-add)))
            b.within e k,
        became-carried r w (All-put (key src) (Stands src) (row_for head (length line) a) (rows st.live (behind st.base t)) w.stands stands-add) b,
      )

      pub did-full : (held : Bool) → fits (origin held) (add q.0) (or_no_table (table_at src st.table)) ≡ true → (e k : ℕ) {t' : List ℕ}
          → PutIs src (row_for head (length line) a) st.base st.live limit t t' None
          → LineIs src limit held from line e k st t t' (Err (TooManyLive e k))
      unfolding effect state_of numbered
      did-full held fit e k {t'} b =
          let rs : List Cells = put (key src) (row_for head (length line) a) (rows st.live (behind st.base t)) in (
            acts held (add q.0) q.1 fit e k
                ∙ within_limit-many limit e k _ (omega (arith, ap length live-add, length-map rs (row_of src), b.0)),
            b.1,
          )
