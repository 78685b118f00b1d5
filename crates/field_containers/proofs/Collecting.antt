-- The loop over an array of strings: what went by are strings, and each way out of the loop answers for the whole array.
use mathlib.Core.Path.{◌≡◌, refl, sym, ap, ◌∙◌}
use Rattle.std.specs.Prelude.{None, Some}
use mathlib.Core.List.{List, [], ◌∷◌, ◌++◌}
use Prim.Native.Nat.{ℕ, ◌+◌, ◌-◌, ◌≤◌}
use native.Mathlib.Omega.{arith}
use lib.ListN.{length, take, drop, length-append}
use Rattle.rules.specs.Bytes.{Bytes, ◌>>=◌}
use Rattle.rules.specs.Json.Text.{Text, spelled, byte}
use Rattle.rules.specs.Json.Strings.{string}
use Rattle.rules.specs.Json.Values.{opening, closing, elements, value}
use Rattle.rules.specs.Json.Fields.{strings}
use Rattle.rules.proofs.Json.TextReads.{spelled-reads}
use Rattle.rules.proofs.Json.ValueReads.{value-reads}
use Rattle.rules.proofs.Json.Steps.{elements-list, list-closed, list-neither}
use Rattle.rules.proofs.Json.Fields.{strings-last}
use Rattle.json_values.specs.Follows.{Follows}
use Rattle.json_values.specs.declared.Tail.TheVariants.{Closed, More, Neither}
use Rattle.field_names.specs.Spelled.{name_in, Quoted}
use Rattle.field_containers.specs.Strung.{Strung}
use Rattle.field_names.specs.declared.keys.Spell.{Spell}
use Rattle.field_objects.proofs.Passing.{Passed, passed_start, passed-neither, passed-closed, passed-more, list-further}
use Rattle.field_containers.proofs.Elements.{read-strings, element-string, element-bytes, no-strings}

pub record Collected (d : ℕ) (s : Text) (at n i : ℕ) : Type 0 where
  pub gone : List Text
  pub found : List Bytes
  pub passed : Passed (spelled (value d)) 0x5D s at i gone
  pub read : strings gone ≡ Some found
  pub count : length found ≡ n

module _ (d : ℕ) (s : Text) (at : ℕ) where
  -- ---- behind the opening bracket

  pub opened-neither : Follows (opening 0x5D (drop at s)) s at Neither → read-strings (elements (value d) (drop at s)) ≡ None
  opened-neither f = ap read-strings (elements-list (value d) (drop at s) ∙ list-neither (spelled (value d)) 0x5D (drop at s) f)

  pub opened-closed : at ≤ length s → (end : ℕ) → Follows (opening 0x5D (drop at s)) s at (Closed end) → Strung (elements (value d) (drop at s)) s at 0 end
  unfolding strings
  opened-closed h end f = record {
    vs = [];
    ss = [];
    all = elements-list (value d) (drop at s) ∙ list-closed (spelled (value d)) 0x5D (drop at s) f.0;
    each = refl;
    count = refl;
    from = list-further (spelled-reads (value-reads d)) 0x5D s at end h f.2 (list-closed (spelled (value d)) 0x5D (drop at s) f.0);
    within = f.2;
  }

  pub collected-start : (i : ℕ) → Follows (opening 0x5D (drop at s)) s at (More i) → Collected d s at 0 i
  unfolding strings
  collected-start i f = record { gone = []; found = []; passed = passed_start (spelled (value d)) 0x5D s at f; read = refl; count = refl }

  -- ---- a turn

  module _ (n i : ℕ) (g : Collected d s at n i) where
    pub collected-none : (byte 0x22 (drop i s) >>= string) ≡ None → read-strings (elements (value d) (drop at s)) ≡ None
    collected-none e = ap read-strings (elements-list (value d) (drop at s) ∙ sym g.passed.left) ∙ no-strings d g.gone (drop i s) e

    module _ (x : Spell) (q : Quoted s i x) where
      abbrev text : Text
      text = take (x.end - i) (drop i s)

      one_more : length (g.found ++ (name_in s x ∷ [])) ≡ n + 1
      one_more = omega (arith, length-append g.found (name_in s x ∷ []), g.count)

      pub collected-neither : Follows (closing 0x5D (drop x.end s)) s (x.end + 1) Neither → read-strings (elements (value d) (drop at s)) ≡ None
      collected-neither f = ap read-strings (elements-list (value d) (drop at s) ∙ passed-neither g.passed x.end (element-string d s i x q) f)

      pub collected-closed : at ≤ length s → (k : ℕ) → Follows (closing 0x5D (drop x.end s)) s (x.end + 1) (Closed k)
          → Strung (elements (value d) (drop at s)) s at (n + 1) k
      collected-closed h k f = record {
        vs = g.gone ++ (text ∷ []);
        ss = g.found ++ (name_in s x ∷ []);
        all = elements-list (value d) (drop at s) ∙ passed-closed g.passed x.end (element-string d s i x q) f;
        each = strings-last g.gone text g.read (element-bytes d s i x q);
        count = one_more;
        from = list-further (spelled-reads (value-reads d)) 0x5D s at k h f.2 (passed-closed g.passed x.end (element-string d s i x q) f);
        within = f.2;
      }

      pub collected-more : (k : ℕ) → Follows (closing 0x5D (drop x.end s)) s (x.end + 1) (More k) → Collected d s at (n + 1) k
      collected-more k f = record {
        gone = g.gone ++ (text ∷ []);
        found = g.found ++ (name_in s x ∷ []);
        passed = passed-more g.passed x.end (element-string d s i x q) (spelled-reads (value-reads d)) f;
        read = strings-last g.gone text g.read (element-bytes d s i x q);
        count = one_more;
      }
