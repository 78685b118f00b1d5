-- What is ruled on a bundle, step by step in the paper's order.
use mathlib.Core.Path.{◌≡◌, refl, sym, ap, subst, ◌∙◌}
use mathlib.Core.Bool.{true, false}
use Rattle.std.specs.Prelude.{⊤, Option, None, Some}
use mathlib.Core.List.{List}
use Prim.Native.Nat.{ℕ}
use native.Mathlib.Omega.{arith}
use Rattle.rules.specs.Bytes.{Bytes, is_some}
use Rattle.rules.specs.Bundle.{File, bundle, IsBundle}
use Rattle.rules.specs.Names.{any_too_large}
use Rattle.rules.specs.Starts.{log_of, Way, start_at, other_way_to}
use Rattle.rules.specs.Marker.{marked}
use Rattle.rules.specs.Cleaning.{named, compared, cleaned_by, cleaned_at}
use Rattle.rules.specs.Refusals.{accepted, refused}
use Rattle.rules.proofs.Tests.{apart, true-not-false}
use Rattle.file_bundle.specs.Files.{files_or, files_in, file_in}
use Rattle.file_names.specs.declared.Version.{Version}
use Rattle.refusals.specs.Numbered.{numbered}
use Rattle.refusals.specs.declared.Refusal.{Refusal as CodeRefusal}
use Rattle.refusals.specs.declared.Refusal.TheVariants.{BundleMalformed, VersionTooLarge, NoVersionZero}
use Rattle.log_starts.specs.Marks.{mark_is}
use Rattle.log_starts.specs.Ways.{StartIs}
use Rattle.std.specs.Prelude.{Result, Ok, Err}
use Rattle.log_starts.specs.declared.Start.{Start}
use Rattle.log_starts.specs.declared.Start.TheVariants.{Zero, Checkpoint}
use Rattle.cleaning.specs.Ruled.{ComparedIs, CompareIs, ruled_at, ruled, RulingIs}

-- ---- the other start

pub started : (src : Bytes) (c : ℕ) (o : Option Way) (start : Start) → StartIs src c o (Some start)
    → (w : Way) × (o ≡ Some w) × StartIs src c (Some w) (Some start)
started src c o Zero h = (h.0, h.1, (h.0, refl, h.2))
started src c o (Checkpoint k s) h = (h.2, h.3, (h.0, h.1, h.2, refl, h.4))

-- ---- with version 0 in entry₀ and the checkpoint at c in entry k

module _ (src : Bytes) (entry₀ k : ℕ) (c : Version) (at : start_at (log_of (files_in src)) c.0 ≡ Some (file_in src k)) where
  ruled-by : (o : Option Way) → other_way_to (log_of (files_in src)) c.0 ≡ o → (today retention : ℕ)
      → ruled_at src entry₀ c.0 today retention ≡ cleaned_by (file_in src entry₀) (Some (file_in src k)) o (named c.0 today retention (files_in src))
  unfolding ruled_at cleaned_at
  ruled-by o e today retention = rw (at, e)

  pub ruled-alone : other_way_to (log_of (files_in src)) c.0 ≡ None → RulingIs src (ruled_at src entry₀ c.0) (Ok None)
  unfolding cleaned_by
  ruled-alone e today retention = ruled-by None e today retention

  module _
      (start : Start)
      (h : StartIs src c.0 (other_way_to (log_of (files_in src)) c.0) (Some start))
      (r : Result ⊤ CodeRefusal)
      (f : CompareIs src entry₀ k start c.0 r)
    where
      pub ruled-agreed : IsBundle src → r ≡ (Ok tt) → RulingIs src (ruled_at src entry₀ c.0) (Ok (Some c))
      unfolding cleaned_by
      ruled-agreed g q =
          let (w, p, s) = started src c.0 (other_way_to (log_of (files_in src)) c.0) start h in
          let same : compared (file_in src entry₀) (file_in src k) w ≡ accepted tt =
          subst (ComparedIs (compared (file_in src entry₀) (file_in src k) w)) q (f w s) in
          (λ today retention. ruled-by (Some w) p today retention ∙ rw same, g)

      pub ruled-refused : (x : CodeRefusal) → r ≡ Err x → RulingIs src (ruled_at src entry₀ c.0) (Err x)
      unfolding cleaned_by
      ruled-refused x q =
          let (w, p, s) = started src c.0 (other_way_to (log_of (files_in src)) c.0) start h in
          let d = subst (ComparedIs (compared (file_in src entry₀) (file_in src k) w)) q (f w s) in
          let differ : compared (file_in src entry₀) (file_in src k) w ≡ refused (numbered x) = d.0 in
          (λ today retention. ruled-by (Some w) p today retention ∙ rw differ, d.1)

-- ---- the bundle

module _ (src : Bytes) where
  pub ruled-malformed : bundle src ≡ None → RulingIs src (ruled src) (Err BundleMalformed)
  unfolding ruled numbered
  ruled-malformed e = (λ today retention. rw e, λ h. omega arith)

  pub opened_some : (fs : List File) → bundle src ≡ Some fs → IsBundle src
  unfolding is_some
  opened_some fs e = ap is_some e

  module _ (g : IsBundle src) where
    files : bundle src ≡ Some (files_in src)
    unfolding files_in is_some files_or
    files = go (bundle src) g
      where
        go : (o : Option (List File)) → is_some o ≡ true → o ≡ Some (files_or o)
        go None h = absurd (true-not-false h refl)
        go (Some fs) h = refl

    pub ruled-large : true ≡ any_too_large (files_in src) → RulingIs src (ruled src) (Err VersionTooLarge)
    unfolding ruled numbered
    ruled-large e = (λ today retention. rw (files, ← e), λ h. omega arith)

    module _ (small : false ≡ any_too_large (files_in src)) where
      pub ruled-without : (log_of (files_in src)).version_file 0 ≡ None → RulingIs src (ruled src) (Err NoVersionZero)
      unfolding ruled numbered
      ruled-without e = (λ today retention. rw (files, ← small, e), λ h. omega arith)

      module _
          (entry₀ : ℕ)
          (e : (log_of (files_in src)).version_file 0 ≡ Some (file_in src entry₀))
          (m : Option Version)
          (f : m ≡ mark_is (marked (log_of (files_in src))))
        where
          unmarked : (o : Option ℕ) → mark_is o ≡ None → o ≡ None
          unfolding mark_is
          unmarked None h = refl
          unmarked (Some n) h = apart (cc)

          mark-at : (o : Option ℕ) (c : Version) → mark_is o ≡ Some c → o ≡ Some c.0
          unfolding mark_is
          mark-at None c h = apart (cc)
          mark-at (Some n) c h = let same : record { 0 = n } ≡ c = cc in ap (λ (v : Version). Some v.0) same

          pub ruled-unmarked : m ≡ None → RulingIs src (ruled src) (Ok None)
          unfolding ruled cleaned_at
          ruled-unmarked h today retention =
              let q : marked (log_of (files_in src)) ≡ None = unmarked (marked (log_of (files_in src))) (sym f ∙ h) in rw (files, ← small, e, q)

          module _ (c : Version) (h : m ≡ Some c) where
            ruled-marked : (today retention : ℕ) → ruled_at src entry₀ c.0 today retention ≡ ruled src today retention
            unfolding ruled ruled_at
            ruled-marked today retention =
                let q : marked (log_of (files_in src)) ≡ Some c.0 = mark-at (marked (log_of (files_in src))) c (sym f ∙ h) in sym (rw (files, ← small, e, q))

            pub ruled-nowhere : start_at (log_of (files_in src)) c.0 ≡ None → RulingIs src (ruled src) (Ok None)
            unfolding ruled_at cleaned_at cleaned_by
            ruled-nowhere n today retention = sym (ruled-marked today retention) ∙ rw n

            pub ruled-as : (r : Result (Option Version) CodeRefusal) → RulingIs src (ruled_at src entry₀ c.0) r → RulingIs src (ruled src) r
            ruled-as (Ok (Some d)) k = (λ today retention. sym (ruled-marked today retention) ∙ k.0 today retention, k.1)
            ruled-as (Ok None) k = λ today retention. sym (ruled-marked today retention) ∙ k today retention
            ruled-as (Err x) k = (λ today retention. sym (ruled-marked today retention) ∙ k.0 today retention, k.1)
