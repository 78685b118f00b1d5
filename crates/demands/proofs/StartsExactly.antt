-- A checkpoint is a start exactly when it has an object, every line is well formed, and a metaData is among them.
use mathlib.Core.Path.{◌≡◌, refl, sym, ap, subst}
use mathlib.Core.Bool.{Bool, true, false}
use Rattle.std.specs.Prelude.{Option, None, Some}
use mathlib.Core.List.{List, [], ◌∷◌, ◌++◌}
use Rattle.rules.specs.Bytes.{Bytes}
use Rattle.rules.specs.Bundle.{File}
use Rattle.rules.specs.Lines.{lines}
use Rattle.rules.specs.Actions.{MetaData, Action, add, remove, protocol, meta_data, mergeskip, other, action}
use Rattle.rules.specs.Starts.{well_formed, is_table, says_table, is_start, if_start, start_at}
use Rattle.rules.proofs.Tests.{apart}
use Rattle.rules.proofs.Json.Suffix.{some_same}
use Rattle.rules.proofs.Tabled.{is_start-both}
use Rattle.demands.specs.Reaching.{TableLine, StartsExactly}

-- ---- lines

is_table-said : (o : Option Action) → is_table o ≡ true → (m : MetaData) × (o ≡ Some (meta_data m))
unfolding is_table
is_table-said None e = apart (cc)
is_table-said (Some (add f)) e = apart (cc)
is_table-said (Some (remove p)) e = apart (cc)
is_table-said (Some (protocol p)) e = apart (cc)
is_table-said (Some (meta_data m)) e = (m, refl)
is_table-said (Some (mergeskip p k)) e = apart (cc)
is_table-said (Some other) e = apart (cc)

record Among (ls : List Bytes) : Type 0 where
  before : List Bytes
  line : Bytes
  behind : List Bytes
  split : ls ≡ before ++ line ∷ behind
  table : MetaData
  said : action line ≡ Some (meta_data table)

says_table-among : (ls : List Bytes) → says_table ls ≡ true → Among ls
unfolding says_table
says_table-among [] e = apart (cc)
says_table-among (l ∷ ls) e = go (is_table (action l)) refl e (λ h. says_table-among ls h)
  where
    go : (b : Bool) → is_table (action l) ≡ b → elim b [ true ↦ true | false ↦ says_table ls ] ≡ true → (says_table ls ≡ true → Among ls) → Among (l ∷ ls)
    go true q e ih = let r = is_table-said (action l) q in record { before = []; line = l; behind = ls; split = refl; table = r.0; said = r.1 }
    go false q e ih =
        let a = ih e in
        record {
          before = l ∷ a.before;
          line = a.line;
          behind = a.behind;
          split = ap (λ (x : List Bytes). l ∷ x) a.split;
          table = a.table;
          said = a.said;
        }

-- one said behind others is said
among-says_table : (before : List Bytes) (l : Bytes) (behind : List Bytes) (m : MetaData) → action l ≡ Some (meta_data m)
    → says_table (before ++ l ∷ behind) ≡ true
unfolding says_table is_table
among-says_table [] l behind m q = rw (says_table, q, is_table)
among-says_table (b ∷ before) l behind m q = go (is_table (action b)) (among-says_table before l behind m q)
  where
    go : (t : Bool) → says_table (before ++ l ∷ behind) ≡ true → elim t [ true ↦ true | false ↦ says_table (before ++ l ∷ behind) ] ≡ true
    go true h = refl
    go false h = h

-- ---- files

is_start-parts : (body : Bytes) → is_start body ≡ true → (well_formed body ≡ true) × (says_table (lines body) ≡ true)
unfolding is_start
is_start-parts body e = go (well_formed body) refl e
  where
    go : (b : Bool) → well_formed body ≡ b → elim b [ true ↦ says_table (lines body) | false ↦ false ] ≡ true
        → (well_formed body ≡ true) × (says_table (lines body) ≡ true)
    go true q e = (q, e)
    go false q e = apart (cc)

if_start-some : (o : Option File) (f : File) → if_start o ≡ Some f → (o ≡ Some f) × (is_start f.body ≡ true)
unfolding if_start
if_start-some None f e = apart (cc)
if_start-some (Some g) f e = go (is_start g.body) refl e
  where
    go : (b : Bool) → is_start g.body ≡ b → ◌≡◌ {A = Option File} (elim b [ true ↦ Some g | false ↦ None ]) (Some f)
        → (Some g ≡ Some f) × (is_start f.body ≡ true)
    go true q e = (e, subst (λ (x : File). is_start x.body ≡ true) (some_same e) q)
    go false q e = apart (cc)

pub if_start-there : (o : Option File) (f : File) → o ≡ Some f → is_start f.body ≡ true → if_start o ≡ Some f
unfolding if_start
if_start-there o f e q = rw (e, if_start, q)

pub starts-exactly : StartsExactly
unfolding start_at
starts-exactly log s f = (there, back)
  where
    there : start_at log s ≡ Some f → (log.checkpoint_file s ≡ Some f) × ((well_formed f.body ≡ true) × TableLine f.body)
    there e =
        let a = if_start-some (log.checkpoint_file s) f e in
        let p = is_start-parts f.body a.1 in
        let r = says_table-among (lines f.body) p.1 in
        (a.0, (p.0, record { before = r.before; line = r.line; behind = r.behind; split = r.split; table = r.table; said = r.said }))

    back : (log.checkpoint_file s ≡ Some f) × ((well_formed f.body ≡ true) × TableLine f.body) → start_at log s ≡ Some f
    back (e, (w, t)) =
        let says = subst (λ (ls : List Bytes). says_table ls ≡ true) (sym t.split) (among-says_table t.before t.line t.behind t.table t.said) in
        if_start-there (log.checkpoint_file s) f e (is_start-both f.body w says)
