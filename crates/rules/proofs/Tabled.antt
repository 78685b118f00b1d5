-- What lines say of the metadata: a metaData has an id, lines without one leave the table, and a file that ends with an id said one.
use mathlib.Core.Path.{◌≡◌, refl, sym, ◌∙◌, ap, subst}
use mathlib.Core.Logic.{◌⊎◌, inl, inr}
use mathlib.Core.Bool.{Bool, true, false}
use Rattle.std.specs.Prelude.{Option, None, Some}
use mathlib.Core.List.{List, [], ◌∷◌}
use Prim.Native.Nat.{ℕ, suc, ◌+◌}
use lib.Dec.{leb}
use lib.ListN.{length}
use Rattle.rules.specs.Bytes.{Bytes, guard, distinct}
use Rattle.rules.specs.Bundle.{File}
use Rattle.rules.specs.Lines.{lines, any_object}
use Rattle.rules.specs.Json.Text.{Text}
use Rattle.rules.specs.Json.Values.{Member, object_of}
use Rattle.rules.specs.Json.Fields.{string_at, once, strings_of}
use Rattle.rules.specs.Actions.{in_action, in_field, path_at, add_of, Protocol, protocol_of, MetaData, most_columns, id_at, meta_data_of, skip_of}
use Rattle.rules.specs.Actions.{Key, key_add, key_remove, key_protocol, key_meta_data, key_mergeskip, key_other, key_of}
use Rattle.rules.specs.Actions.{Action, add, remove, protocol, meta_data, mergeskip, other, action_by, line_member, action}
use Rattle.rules.specs.Refusals.{Answer, accepted, ◌>>=◌, or_refuse, require, malformed}
use Rattle.rules.specs.History.{State, no_table, Origin, of_checkpoint, Said, effect, read_line, read_lines, read_file, say_table}
use Rattle.rules.specs.History.{say_protocol, say, said_nothing, zero_lines, or_unstated, read_zero}
use Rattle.rules.specs.Starts.{is_table, says_table, well_formed, is_start, nothing_live}
use Rattle.rules.proofs.Tests.{apart}
use Rattle.rules.proofs.Choices.{guard-some}
use Rattle.rules.proofs.Json.Suffix.{some_same, bound}
use Rattle.rules.proofs.Answers.{or_refuse-accepted}
use Rattle.rules.proofs.Replaying.{bind-accepted, Applied, read_line-accepted, Kept}

-- ---- a metaData has an id

abbrev pub HasId : MetaData → Type 0
HasId m = m.id ≡ [] → ⊥

meta_data-same : {m n : MetaData} → ◌≡◌ {A = Option Action} (Some (meta_data m)) (Some (meta_data n)) → m ≡ n
meta_data-same e = cc

not-empty : (i : Bytes) → leb 1 (length i) ≡ true → i ≡ [] → ⊥
not-empty [] t e = apart (cc)
not-empty (b ∷ bs) t e = apart (cc)

id_at-id : (ms : List Member) (i : Bytes) → id_at ms ≡ Some i → i ≡ [] → ⊥
unfolding id_at
id_at-id ms i e =
    bound (string_at "id" ms) _ e (λ x _ a.
    bound (guard (leb 1 (length x))) _ a (λ _ t b q.
    not-empty x (guard-some (leb 1 (length x)) t) (some_same b ∙ q)))

meta_data_of-id : (ms : List Member) (m : MetaData) → meta_data_of ms ≡ Some m → HasId m
unfolding meta_data_of
meta_data_of-id ms m e =
    bound (id_at ms) _ e (λ i t a.
    bound (once "partitionColumns" ms) _ a (λ v _ b.
    bound (strings_of in_field v) _ b (λ cs _ c.
    bound (guard (leb (length cs) most_columns)) _ c (λ _ _ d.
    bound (guard (distinct cs)) _ d (λ _ _ g q.
    id_at-id ms i t (ap (λ (x : MetaData). x.id) (some_same g) ∙ q))))))

-- only a metaData's key makes one
action_by-id : (k : Key) (v : Text) (m : MetaData) → action_by k v ≡ Some (meta_data m) → HasId m
unfolding action_by
action_by-id key_add v m h = bound (object_of in_action v) _ h (λ ms a b. bound (add_of ms) _ b (λ f c d. apart (cc)))
action_by-id key_remove v m h = bound (object_of in_action v) _ h (λ ms a b. bound (path_at ms) _ b (λ p c d. apart (cc)))
action_by-id key_protocol v m h = bound (object_of in_action v) _ h (λ ms a b. bound (protocol_of ms) _ b (λ p c d. apart (cc)))
action_by-id key_meta_data v m h =
    bound (object_of in_action v) _ h (λ ms a b. bound (meta_data_of ms) _ b (λ n c d. subst HasId (meta_data-same d) (meta_data_of-id ms n c)))
action_by-id key_mergeskip v m h =
    bound (object_of in_action v) _ h (λ ms a b. bound (path_at ms) _ b (λ p c d. bound (skip_of ms) _ d (λ s g i. apart (cc))))
action_by-id key_other v m h = apart (cc)

pub action-id : (l : Bytes) (m : MetaData) → action l ≡ Some (meta_data m) → HasId m
unfolding action
action-id l m h = bound (line_member l) _ h (λ x a b. action_by-id (key_of x.0) x.1 m b)

-- ---- lines keep an id, and without a metaData the table

pub id-kept : (limit : ℕ) → Kept limit (λ (st : State). HasId st.table)
unfolding effect
id-kept limit of e k at l st to h p = go (read_line-accepted limit of e k at l st to h)
  where
    of-effect : (a : Action) → action l ≡ Some a → HasId (effect at (length l) a st).table
    of-effect (add f) q = p
    of-effect (remove x) q = p
    of-effect (protocol x) q = p
    of-effect (meta_data m) q = action-id l m q
    of-effect (mergeskip x y) q = p
    of-effect other q = p

    go : (st ≡ to) ⊎ Applied limit at l st to → HasId to.table
    go (inl r) = subst (λ (x : State). HasId x.table) r p
    go (inr r) = subst (λ (x : State). HasId x.table) r.reached (of-effect r.does r.said)

read_line-table : (limit : ℕ) (of : Origin) (e k at : ℕ) (l : Bytes) (st to : State) → read_line limit of e k at l st ≡ accepted to
    → is_table (action l) ≡ false → to.table ≡ st.table
unfolding effect is_table
read_line-table limit of e k at l st to h n = go (read_line-accepted limit of e k at l st to h)
  where
    of-effect : (a : Action) → is_table (Some a) ≡ false → (effect at (length l) a st).table ≡ st.table
    of-effect (add f) q = refl
    of-effect (remove x) q = refl
    of-effect (protocol x) q = refl
    of-effect (meta_data m) q = apart (cc)
    of-effect (mergeskip x y) q = refl
    of-effect other q = refl

    go : (st ≡ to) ⊎ Applied limit at l st to → to.table ≡ st.table
    go (inl r) = sym (ap (λ (x : State). x.table) r)
    go (inr r) =
        subst (λ (x : State). x.table ≡ st.table) r.reached
        (of-effect r.does (subst (λ (o : Option Action). is_table o ≡ false) r.said n))

pub read_lines-table : (limit : ℕ) (of : Origin) (e k at : ℕ) (ls : List Bytes) (st to : State) → read_lines limit of e k at ls st ≡ accepted to
    → says_table ls ≡ false
    → to.table ≡ st.table
unfolding read_lines says_table
read_lines-table limit of e k at [] st to h n = let q : to ≡ st = cc in ap (λ (x : State). x.table) q
read_lines-table limit of e k at (l ∷ ls) st to h n =
    let r = bind-accepted (read_line limit of e k at l st) (λ next. read_lines limit of e (suc k) (at + length l + 1) ls next) h in
    go (is_table (action l)) refl n r.0 r.1 (λ q. read_lines-table limit of e (suc k) (at + length l + 1) ls r.0 to r.2 q)
  where
    go : (b : Bool) → is_table (action l) ≡ b → elim b [ true ↦ true | false ↦ says_table ls ] ≡ false → (next : State)
        → read_line limit of e k at l st ≡ accepted next
        → (says_table ls ≡ false → to.table ≡ next.table) → to.table ≡ st.table
    go true q n next a ih = apart (cc)
    go false q n next a ih = ih n ∙ read_line-table limit of e k at l st next a q

-- ---- a file read from nothing that ends with an id said a metaData

pub read_file-says : (limit : ℕ) (f : File) (to : State) → read_file limit of_checkpoint f nothing_live ≡ accepted to → HasId to.table
    → says_table (lines f.body) ≡ true
unfolding read_file nothing_live no_table
read_file-says limit f to h p = go (says_table (lines f.body)) refl
  where
    ended : State → Answer State
    ended next = require (malformed f.entry 0) (any_object (lines f.body)) >>= (λ _. accepted next)

    left : says_table (lines f.body) ≡ false → ⊥
    left n =
        let r = bind-accepted (read_lines limit of_checkpoint f.entry 1 f.start (lines f.body) nothing_live) ended h in
        let t = bind-accepted (require (malformed f.entry 0) (any_object (lines f.body))) (λ _. accepted r.0) r.2 in
        let q : accepted r.0 ≡ accepted to = t.2 in
        let s : r.0 ≡ to = cc in
        let e = read_lines-table limit of_checkpoint f.entry 1 f.start (lines f.body) nothing_live r.0 r.1 n in
        p (ap (λ (m : MetaData). m.id) (ap (λ (x : State). x.table) (sym s) ∙ e))

    go : (b : Bool) → says_table (lines f.body) ≡ b → says_table (lines f.body) ≡ true
    go true q = q
    go false q = absurd (left q)

pub is_start-both : (body : Bytes) → well_formed body ≡ true → says_table (lines body) ≡ true → is_start body ≡ true
unfolding is_start
is_start-both body w s = rw (is_start, w) s

-- ---- version 0 gives an id

-- what was said of the table has an id
SaidId : Said → Type 0
SaidId s = (m : MetaData) → s.of_table ≡ Some m → HasId m

say-id : (a : Action) (l : Bytes) (s next : Said) → action l ≡ Some a → say a s ≡ Some next → SaidId s → SaidId next
unfolding say say_table say_protocol SaidId
say-id (add f) l s next q e p = apart (cc)
say-id (remove x) l s next q e p = apart (cc)
say-id (protocol x) l s next q e p = go s.of_protocol e
  where
    go : (o : Option Protocol) → say_protocol o x s ≡ Some next → SaidId next
    go None e = subst SaidId (some_same e) p
    go (Some y) e = apart (cc)
say-id (meta_data m) l s next q e p = go s.of_table e
  where
    go : (o : Option MetaData) → say_table o m s ≡ Some next → SaidId next
    go None e = subst SaidId (some_same e) (λ n t. subst HasId (some_same t) (action-id l m q))
    go (Some n) e = apart (cc)
say-id (mergeskip x y) l s next q e p = apart (cc)
say-id other l s next q e p = subst SaidId (some_same e) p

zero_lines-id : (e k : ℕ) (ls : List Bytes) (s to : Said) → zero_lines e k ls s ≡ accepted to → SaidId s → SaidId to
unfolding zero_lines
zero_lines-id e k [] s to h p = subst SaidId (cc) p
zero_lines-id e k ([] ∷ ls) s to h p = zero_lines-id e (suc k) ls s to h p
zero_lines-id e k ((b ∷ bs) ∷ ls) s to h p =
    let a =
    bind-accepted (or_refuse (malformed e k) (action (b ∷ bs))) (λ x. or_refuse (malformed e k) (say x s) >>= (λ next. zero_lines e (suc k) ls next)) h in
    let c = bind-accepted (or_refuse (malformed e k) (say a.0 s)) (λ next. zero_lines e (suc k) ls next) a.2 in
    zero_lines-id e (suc k) ls c.0 to c.2
    (say-id a.0 (b ∷ bs) s c.0 (or_refuse-accepted (malformed e k) (action (b ∷ bs)) a.1) (or_refuse-accepted (malformed e k) (say a.0 s) c.1) p)

pub read_zero-id : (f : File) (z : State) → read_zero f ≡ accepted z → HasId z.table
unfolding read_zero said_nothing SaidId
read_zero-id f z h =
    let a = bind-accepted (zero_lines f.entry 1 (lines f.body) said_nothing) with_table h in
    let b = bind-accepted (or_refuse (malformed f.entry 0) a.0.of_table) (λ m. accepted (state_of a.0 m)) a.2 in
    let q : accepted (state_of a.0 b.0) ≡ accepted z = b.2 in
    let e : state_of a.0 b.0 ≡ z = cc in
    subst (λ (x : State). HasId x.table) e
    (zero_lines-id f.entry 1 (lines f.body) said_nothing a.0 a.1 (λ m t. apart (cc)) b.0
    (or_refuse-accepted (malformed f.entry 0) a.0.of_table b.1))
  where
    state_of : Said → MetaData → State
    state_of s m = record { table = m; in_force = or_unstated s.of_protocol; live = [] }

    with_table : Said → Answer State
    with_table s = or_refuse (malformed f.entry 0) s.of_table >>= (λ m. accepted (state_of s m))
