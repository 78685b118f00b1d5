-- The names of an object and an array of strings, in step: a name and a string that are spelled with the same bytes are the same, and all are
-- where those that are left are.
use mathlib.Core.Path.{◌≡◌, refl, sym, ap, ap₂, ◌∙◌}
use mathlib.Core.Bool.{true}
use Rattle.std.specs.Prelude.{Option, Some}
use mathlib.Core.List.{List, [], ◌∷◌, ◌++◌}
use Prim.Native.Nat.{ℕ, suc, ◌+◌, ◌-◌, ◌≤◌, ◌<◌}
use native.Mathlib.Omega.{arith}
use lib.ListN.{length, take, drop, length-drop, length-append, take-append-drop}
use lib.Seq.{drop-drop, take-take, take_at, take_all, length-take-le}
use Rattle.rules.specs.Bytes.{Bytes, begins}
use Rattle.rules.specs.Json.Text.{Text, behind, byte}
use Rattle.rules.specs.Json.Strings.{string}
use Rattle.rules.specs.Json.Values.{Member, closing, member, value}
use Rattle.rules.proofs.Order.{begins-true}
use Rattle.rules.proofs.Json.Extends.{string-extends}
use Rattle.rules.proofs.Json.Local.{string-alone}
use Rattle.rules.proofs.Json.Places.{between}
use Rattle.rules.proofs.Json.TextReads.{before, byte-same}
use Rattle.json_strings.proofs.Decoding.{decoded-some}
use Rattle.json_values.specs.Follows.{Follows}
use Rattle.json_values.specs.declared.Tail.TheVariants.{Closed, More}
use Rattle.field_names.specs.Spelled.{name_in, Quoted}
use Rattle.field_names.specs.declared.keys.Spell.{Spell}
use Rattle.field_names.proofs.Quoting.{named-string}
use Rattle.field_objects.specs.Namings.{Members}
use Rattle.field_objects.specs.Standing.{Stands}
use Rattle.field_objects.proofs.Meeting.{members-closed, members-more}
use Rattle.field_scalars.proofs.Strings.{byte-text}
use Rattle.field_containers.specs.Strung.{Onward}
use Rattle.field_containers.proofs.Walking.{onward-closed, onward-more}

-- ---- a string spelled with the bytes of a name

module _
    (s : Text)
    (i : ℕ)
    (n : Spell)
    (q : Quoted s i n)
    (t : Text)
    (j : ℕ)
    (b : begins (take (n.end - i) (drop i s)) (take (length t - j) (drop j t)) ≡ true)
  where
    abbrev size : ℕ
    size = n.end - i

    -- between the quotes, the closing one included
    abbrev inner : Text
    inner = take (n.end - n.at) (drop n.at s)

    first : drop i s ≡ 0x22 ∷ drop n.at s
    first = byte-text 0x22 (drop i s) q.quote

    next : n.at ≡ i + 1
    next =
        let low : i + 1 ≤ n.at = q.from in
        let mid : n.at + 1 ≤ n.end = q.named.from in
        let high : n.end ≤ length s = q.named.within in
        let l : length (drop i s) ≡ suc (length (drop n.at s)) = ap length first in
        omega (arith, l, length-drop i s, length-drop n.at s)

    long : size ≡ suc (n.end - n.at)
    long = let mid : n.at + 1 ≤ n.end = q.named.from in omega (arith, next)

    text : take size (drop i s) ≡ 0x22 ∷ inner
    text = ap (take size) first ∙ ap (λ (k : ℕ). take k (0x22 ∷ drop n.at s)) long

    fits : size ≤ length (drop i s)
    fits = let high : n.end ≤ length s = q.named.within in omega (arith, length-drop i s)

    -- the same stands in t from j on
    there : drop j t ≡ 0x22 ∷ (inner ++ drop (j + size) t)
    there =
        let e : length (take size (drop i s)) ≡ size = length-take-le size (drop i s) fits in
        let g : take (length t - j) (drop j t) ≡ drop j t = take_all (length t - j) (drop j t) (omega (arith, length-drop j t)) in
        let h : begins (take size (drop i s)) (drop j t) ≡ true = ap (begins (take size (drop i s))) (sym g) ∙ b in
        let f : take size (drop j t) ≡ take size (drop i s) = ap (λ (k : ℕ). take k (drop j t)) (sym e) ∙ begins-true (take size (drop i s)) (drop j t) h in
        sym (take-append-drop size (drop j t)) ∙ ap (λ (x : Text). x ++ drop size (drop j t)) (f ∙ text)
        ∙ ap (λ (x : Text). 0x22 ∷ (inner ++ x)) (drop-drop size j t)

    behind-quote : drop (j + 1) t ≡ inner ++ drop (j + size) t
    behind-quote = sym (drop-drop 1 j t) ∙ ap (drop 1) there

    inner-long : length inner ≡ n.end - n.at
    inner-long = length-take-le (n.end - n.at) (drop n.at s) (let high : n.end ≤ length s = q.named.within in omega (arith, length-drop n.at s))

    within : j + size ≤ length t
    within =
        let l : length (drop j t) ≡ suc (length (inner ++ drop (j + size) t)) = ap length there in
        let mid : n.at + 1 ≤ n.end = q.named.from in
        omega (arith, l, length-append inner (drop (j + size) t), inner-long, long, length-drop j t)

    again-read : string (drop (j + 1) t) ≡ Some (name_in s n, drop (j + size) t)
    again-read =
        let mid : n.at + 1 ≤ n.end = q.named.from in
        let e : inner ≡ before (drop n.at s) (drop n.end s) = sym (between s n.at n.end (omega arith) q.named.within) in
        let f = string-alone (name_in s n) (drop n.at s) (drop n.end s) (named-string s n q.named) in
        ap string behind-quote ∙ string-extends (length inner) inner (drop (j + size) t) (omega arith) (ap string e ∙ f)

    abbrev pub again : Spell
    again = record { at = j + 1; end = j + (n.end - i); plain = n.plain }

    pub again-name : name_in t again ≡ name_in s n
    again-name = decoded-some (drop (j + 1) t) again-read

    again-raw : (k : ℕ) → k ≤ n.end - n.at → take k (drop n.at s) ≡ take k (drop (j + 1) t)
    again-raw k h =
        sym (take-take k (n.end - n.at) (drop n.at s) h)
        ∙ ap (take k) (sym (take_at inner (drop (j + size) t) (n.end - n.at) inner-long))
        ∙ take-take k (n.end - n.at) (inner ++ drop (j + size) t) h
        ∙ ap (take k) (sym behind-quote)

    pub again-quoted : Quoted t j again
    again-quoted =
        let mid : n.at + 1 ≤ n.end = q.named.from in
        let k : j + (n.end - i) - 1 - (j + 1) ≡ n.end - 1 - n.at = omega (arith, next) in
        record {
          quote = ap (byte 0x22) there ∙ byte-same 0x22 0x22 (inner ++ drop (j + size) t) refl ∙ ap Some (sym behind-quote);
          from = omega arith;
          named = record {
            closed = ap behind again-read;
            from = omega (arith, next);
            within = within;
            raw = λ p. again-name ∙ q.named.raw p ∙ again-raw (n.end - 1 - n.at) (omega arith) ∙ ap (λ (l : ℕ). take l (drop (j + 1) t)) (sym k);
            fewer = λ p. let l : length (name_in s n) < n.end - 1 - n.at = q.named.fewer p in omega (arith, k, l, ap length again-name);
          };
        }

-- ---- in step

-- a name ends behind the quote that opens it
pub name-ends : {o : Option (Member × Text)} {s : Text} {i v e : ℕ} {n : Spell} → Stands o s i n v e → i ≤ n.end
name-ends {i = i} {n = n} m =
    let low : i + 1 ≤ n.at = m.first in
    let mid : n.at + 1 ≤ n.end = m.named.from in
    omega arith

-- all are the same where those from i and from j on are
abbrev pub InStep : (s : Text) (at : ℕ) (t : Text) (from i j : ℕ) → Type 0
InStep s at t from i j =
    (xs ys : List Bytes) → Members 29 s at xs → Onward t from ys → (xs' ys' : List Bytes) × (xs' ≡ ys' → xs ≡ ys) × Members 29 s i xs' × Onward t j ys'

module _
    (s : Text)
    (at : ℕ)
    (t : Text)
    (from i j : ℕ)
    (w : InStep s at t from i j)
    (n : Spell)
    (v e : ℕ)
    (m : Stands (member (value 29) (drop i s)) s i n v e)
    (b : begins (take (n.end - i) (drop i s)) (take (length t - j) (drop j t)) ≡ true)
  where
    abbrev name : Quoted s i n
    name = record { quote = m.quote; from = m.first; named = m.named }

    abbrev close : ℕ
    close = j + (n.end - i)

    pub step-close : close ≤ length t
    step-close = (again-quoted s i n name t j b).named.within

    pub step-last : {k l : ℕ} → Follows (closing 0x7D (drop e s)) s (e + 1) (Closed k) → Follows (closing 0x5D (drop close t)) t (close + 1) (Closed l)
        → (xs ys : List Bytes) → Members 29 s at xs → Onward t from ys → xs ≡ ys
    step-last f g xs ys o r =
        let (xs', ys', h, x, y) = w xs ys o r in
        h (members-closed 29 s i xs' x n v e m f ∙ ap (λ (z : Bytes). z ∷ []) (sym (again-name s i n name t j b))
        ∙ sym (onward-closed t j ys' y (again s i n name t j b) (again-quoted s i n name t j b) g))

    pub step-more : (k l : ℕ) → Follows (closing 0x7D (drop e s)) s (e + 1) (More k) → Follows (closing 0x5D (drop close t)) t (close + 1) (More l)
        → InStep s at t from k l
    step-more k l f g xs ys o r =
        let (xs', ys', h, x, y) = w xs ys o r in
        let (cs, c, u) = members-more 29 s i xs' x n v e m k f in
        let (ds, d, z) = onward-more t j ys' y (again s i n name t j b) (again-quoted s i n name t j b) l g in
        (cs, ds, λ p. h (c ∙ ap₂ (λ (a : Bytes) (l : List Bytes). a ∷ l) (sym (again-name s i n name t j b)) p ∙ sym d), u, z)
