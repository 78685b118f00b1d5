-- A body whose lines are all read is well formed.
use mathlib.Core.Path.{◌≡◌, refl}
use mathlib.Core.Bool.{true, false}
use Rattle.std.specs.Prelude.{Option, None, Some}
use mathlib.Core.List.{List, [], ◌∷◌}
use Prim.Native.Nat.{ℕ, suc, ◌+◌}
use lib.ListN.{length}
use Rattle.rules.specs.Bytes.{Bytes}
use Rattle.rules.specs.Bundle.{File}
use Rattle.rules.specs.Lines.{lines, any_object}
use Rattle.rules.specs.Actions.{Action, action}
use Rattle.rules.specs.Refusals.{accepted, ◌>>=◌, or_refuse, require, malformed}
use Rattle.rules.specs.History.{State, Origin, act, read_line, read_lines, read_file}
use Rattle.rules.specs.Starts.{every_line, well_formed}
use Rattle.rules.proofs.Replaying.{bind-accepted, require-accepted}
use Rattle.rules.proofs.Tests.{apart}

module _ (limit : ℕ) (of : Origin) where
  read_lines-every : (e k at : ℕ) (ls : List Bytes) (st to : State) → read_lines limit of e k at ls st ≡ accepted to → every_line ls ≡ true
  unfolding read_lines read_line every_line
  read_lines-every e k at [] st to h = refl
  read_lines-every e k at ([] ∷ ls) st to h = read_lines-every e (suc k) (at + 0 + 1) ls st to h
  read_lines-every e k at ((b ∷ bs) ∷ ls) st to h = go (action (b ∷ bs)) h (λ next. read_lines-every e (suc k) (at + length (b ∷ bs) + 1) ls next to)
    where
      go : (o : Option Action)
          → ((or_refuse (malformed e k) o >>= (λ a. act limit of e k at (length (b ∷ bs)) a st))
          >>= (λ next. read_lines limit of e (suc k) (at + length (b ∷ bs) + 1) ls next)) ≡ accepted to
          → ((next : State) → read_lines limit of e (suc k) (at + length (b ∷ bs) + 1) ls next ≡ accepted to → every_line ls ≡ true)
          → elim o [ None ↦ false | Some a ↦ every_line ls ] ≡ true
      go None h ih = apart (cc)
      go (Some a) h ih =
          let r =
          bind-accepted
          (act limit of e k at (length (b ∷ bs)) a st)
          (λ next. read_lines limit of e (suc k) (at + length (b ∷ bs) + 1) ls next)
          h in
          ih r.0 r.2

  pub read_file-readable : (f : File) (st to : State) → read_file limit of f st ≡ accepted to → well_formed f.body ≡ true
  unfolding read_file well_formed
  read_file-readable f st to h =
      let r =
      bind-accepted
      (read_lines limit of f.entry 1 f.start (lines f.body) st)
      (λ next. require (malformed f.entry 0) (any_object (lines f.body)) >>= (λ _. accepted next))
      h in
      let t = bind-accepted (require (malformed f.entry 0) (any_object (lines f.body))) (λ _. accepted r.0) r.2 in
      let any : any_object (lines f.body) ≡ true = require-accepted (malformed f.entry 0) (any_object (lines f.body)) t.1 in
      rw (well_formed, any) (read_lines-every f.entry 1 f.start (lines f.body) st r.0 r.1)
