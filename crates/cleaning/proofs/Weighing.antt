-- The checkpoint against the other start's way, by what was read and judged of them.
use mathlib.Core.Path.{◌≡◌, sym, ap, subst, ◌∙◌}
use mathlib.Core.Bool.{true, false}
use mathlib.Core.List.{List}
use Prim.Native.Nat.{ℕ}
use native.Mathlib.Omega.{arith}
use Rattle.rules.specs.Bytes.{Bytes}
use Rattle.rules.specs.Bundle.{File}
use Rattle.rules.specs.Live.{most_live}
use Rattle.rules.specs.History.{of_checkpoint, or_unstated, read_zero, read_file}
use Rattle.rules.specs.History.{State as RuleState}
use Rattle.rules.specs.Starts.{Way, nothing_live, follow}
use Rattle.rules.specs.Gate.{gate, writable}
use Rattle.rules.specs.Agreement.{agree}
use Rattle.rules.specs.Cleaning.{compared}
use Rattle.rules.specs.Refusals.{Refusal, Answer, accepted, refused, ◌>>=◌, not_writable, checkpoint_disagrees}
use Rattle.file_bundle.specs.Files.{file_in}
use Rattle.refusals.specs.Numbered.{numbered}
use Rattle.refusals.specs.declared.Refusal.{Refusal as CodeRefusal}
use Rattle.refusals.specs.declared.Refusal.TheVariants.{NotWritable, CheckpointDisagrees}
use Rattle.std.specs.Prelude.{⊤, Result, Ok, Err}
use Rattle.log_starts.specs.declared.Start.{Start}
use Rattle.log_replay.specs.Views.{protocol_at, state_of, Carries}
use Rattle.log_replay.specs.Answers.{Left, OutcomeIs, ZeroIs, Renewed}
use Rattle.log_replay.specs.declared.State.{State}
use Rattle.log_gate.specs.Judged.{Passes, VerdictIs}
use Rattle.log_gate.specs.declared.Numbers.{Numbers}
use Rattle.log_history.specs.Ends.{Reaches, FollowIs}
use Rattle.rules.proofs.Later.{Later, later-read_file, later-follow, later-read_zero}
use Rattle.cleaning.specs.Ruled.{weighing, ComparedIs, WithIs, CompareIs}

-- ---- two states

module _ (mine theirs : RuleState) where
  pub weighing-refused : {x : Refusal} → gate mine.in_force ≡ refused x → weighing mine theirs ≡ refused x
  unfolding weighing
  weighing-refused e = rw e

  module _ (e : gate mine.in_force ≡ accepted tt) where
    pub weighing-unwritable : writable mine.in_force ≡ false → weighing mine theirs ≡ refused not_writable
    unfolding weighing
    weighing-unwritable f = rw (e, f)

    pub weighing-differs : writable mine.in_force ≡ true → agree mine theirs ≡ false → weighing mine theirs ≡ refused checkpoint_disagrees
    unfolding weighing
    weighing-differs f g = rw (e, f, g)

    pub weighing-agrees : writable mine.in_force ≡ true → agree mine theirs ≡ true → weighing mine theirs ≡ accepted tt
    unfolding weighing
    weighing-agrees f g = rw (e, f, g)

module _
    (src : Bytes)
    (mine theirs : State)
    (one two : List ℕ)
    (v : Result Numbers CodeRefusal)
    (g : VerdictIs (or_unstated (protocol_at src mine.protocol)) v)
  where
    abbrev Weighed : Result ⊤ CodeRefusal → Type 0
    Weighed r = ComparedIs (weighing (state_of src mine one) (state_of src theirs two)) r

    pub weigh-unreadable : (x : CodeRefusal) → v ≡ Err x → Weighed (Err x)
    unfolding state_of
    weigh-unreadable x e =
        let d = subst (VerdictIs (or_unstated (protocol_at src mine.protocol))) e g in
        (weighing-refused (state_of src mine one) (state_of src theirs two) d.0, d.1)

    module _ (n : Numbers) (e : v ≡ Ok n) where
      passes : Passes (or_unstated (protocol_at src mine.protocol)) n
      passes = subst (VerdictIs (or_unstated (protocol_at src mine.protocol))) e g

      pub weigh-unwritable : n.writable ≡ false → Weighed (Err NotWritable)
      unfolding state_of numbered
      weigh-unwritable w = (weighing-unwritable (state_of src mine one) (state_of src theirs two) passes.accepts (sym passes.writable ∙ w), λ h. omega arith)

      module _ (w : n.writable ≡ true) where
        pub weigh-differs : agree (state_of src mine one) (state_of src theirs two) ≡ false → Weighed (Err CheckpointDisagrees)
        unfolding state_of numbered
        weigh-differs a = (weighing-differs (state_of src mine one) (state_of src theirs two) passes.accepts (sym passes.writable ∙ w) a, λ h. omega arith)

        pub weigh-agrees : agree (state_of src mine one) (state_of src theirs two) ≡ true → Weighed (Ok tt)
        unfolding state_of
        weigh-agrees a = weighing-agrees (state_of src mine one) (state_of src theirs two) passes.accepts (sym passes.writable ∙ w) a

-- ---- the other start's way

module _
    (src : Bytes)
    (z : State)
    (start : Start)
    (c : ℕ)
    (mine : State)
    (one two two' : List ℕ)
    (reach : Reaches src c start)
    (out : Result State CodeRefusal)
    (f : FollowIs src most_live c z start two two' out)
  where
    weighed : RuleState → Answer (Unit {0})
    weighed theirs = weighing (state_of src mine one) theirs

    pub with-carries : (theirs : State) → out ≡ Ok theirs → Carries src most_live theirs two'
    with-carries theirs e = (subst (OutcomeIs src most_live (follow most_live (state_of src z two) reach.0) two two') e (f reach.0 reach.1)).1.carries

    pub with-done : (theirs : State) → out ≡ Ok theirs → (r : Result ⊤ CodeRefusal) → ComparedIs (weighing (state_of src mine one) (state_of src theirs two')) r
        → WithIs src z start c mine one two two' r
    unfolding weighed
    with-done theirs e r h = (
      λ w s.
          let d = subst (OutcomeIs src most_live (follow most_live (state_of src z two) w) two two') e (f w s) in
          subst (λ (o : Answer (Unit {0})). ComparedIs o r) (sym (ap (λ (o : Answer RuleState). o >>= weighed) d.0)) h,
      (subst (OutcomeIs src most_live (follow most_live (state_of src z two) reach.0) two two') e (f reach.0 reach.1)).1.left,
    )

    pub with-refused : (x : CodeRefusal) → out ≡ Err x → WithIs src z start c mine one two two' (Err x)
    unfolding weighed Later
    with-refused x e = (
      λ w s.
          let d = subst (OutcomeIs src most_live (follow most_live (state_of src z two) w) two two') e (f w s) in
          (ap (λ (o : Answer RuleState). o >>= weighed) d.0, subst Later d.0 (later-follow most_live (state_of src z two) w)),
      (subst (OutcomeIs src most_live (follow most_live (state_of src z two) reach.0) two two') e (f reach.0 reach.1)).1,
    )

-- ---- version 0, then the checkpoint, then the way

module _ (zf f : File) (w : Way) where
  compared-zero : {x : Refusal} → read_zero zf ≡ refused x → compared zf f w ≡ refused x
  unfolding compared
  compared-zero e = rw e

  module _ (z : RuleState) (e : read_zero zf ≡ accepted z) where
    compared-mine : {x : Refusal} → read_file most_live of_checkpoint f nothing_live ≡ refused x → compared zf f w ≡ refused x
    unfolding compared
    compared-mine g = rw (e, g)

    compared-with : {mine : RuleState} → read_file most_live of_checkpoint f nothing_live ≡ accepted mine
        → compared zf f w ≡ (follow most_live z w >>= (λ theirs. weighing mine theirs))
    unfolding compared weighing
    compared-with g = rw (e, g)

module _ (src : Bytes) (entry₀ k : ℕ) (start : Start) (c : ℕ) where
  pub compare-zero : (x : CodeRefusal) (r : Result State CodeRefusal) → r ≡ Err x → ZeroIs src (read_zero (file_in src entry₀)) r
      → CompareIs src entry₀ k start c (Err x)
  unfolding Later
  compare-zero x r e d w s =
      let q : read_zero (file_in src entry₀) ≡ refused (numbered x) = subst (ZeroIs src (read_zero (file_in src entry₀))) e d in
      (compared-zero (file_in src entry₀) (file_in src k) w q, subst Later q (later-read_zero (file_in src entry₀)))

  module _
      (z : State)
      (d : ZeroIs src (read_zero (file_in src entry₀)) (Ok z))
      (empty : State)
      (n : Renewed z empty)
      (one one' two : List ℕ)
      (out : Result State CodeRefusal)
      (f : OutcomeIs src most_live (read_file most_live of_checkpoint (file_in src k) (state_of src empty one)) one one' out) where
    begun : read_file most_live of_checkpoint (file_in src k) nothing_live ≡ read_file most_live of_checkpoint (file_in src k) (state_of src empty one)
    begun = ap (read_file most_live of_checkpoint (file_in src k)) (sym (n.0 src one))

    pub compare-refused : (x : CodeRefusal) → out ≡ Err x → CompareIs src entry₀ k start c (Err x) × Left most_live one one'
    unfolding Later
    compare-refused x e =
        let p = subst (OutcomeIs src most_live (read_file most_live of_checkpoint (file_in src k) (state_of src empty one)) one one') e f in (
          λ w s. (
            compared-mine (file_in src entry₀) (file_in src k) w (state_of src z two) (d.0 two) (begun ∙ p.0),
            subst Later p.0 (later-read_file most_live of_checkpoint (file_in src k) (state_of src empty one)),
          ),
          p.1,
        )

    pub compare-carries : (mine : State) → out ≡ Ok mine → Carries src most_live mine one'
    compare-carries mine e =
        (subst (OutcomeIs src most_live (read_file most_live of_checkpoint (file_in src k) (state_of src empty one)) one one') e f).1.carries

    pub compare-done : (mine : State) → out ≡ Ok mine → (two' : List ℕ) (r : Result ⊤ CodeRefusal) → WithIs src z start c mine one' two two' r
        → CompareIs src entry₀ k start c r × Left most_live one one' × Left most_live two two'
    compare-done mine e two' r h =
        let p = subst (OutcomeIs src most_live (read_file most_live of_checkpoint (file_in src k) (state_of src empty one)) one one') e f in (
          λ w s. subst
              (λ (o : Answer (Unit {0})). ComparedIs o r)
              (sym (compared-with (file_in src entry₀) (file_in src k) w (state_of src z two) (d.0 two) (begun ∙ p.0)))
              (h.0 w s),
          p.1.left,
          h.1,
        )
