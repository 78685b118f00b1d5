-- Containers and values, by what they pass (`Reads`), over any reader of their items that passes a byte or more.
use mathlib.Core.Path.{◌≡◌, refl, sym, ap, ◌∙◌, subst}
use Rattle.std.specs.Prelude.{Option, None, Some}
use mathlib.Core.List.{List, [], ◌∷◌}
use Prim.Native.Nat.{ℕ, zero, suc, ◌≤◌}
use native.Mathlib.Omega.{arith}
use lib.Dec.{eqb}
use lib.ListN.{length}
use Rattle.rules.specs.Bytes.{Bytes, ascii, ◌>>=◌}
use Rattle.rules.specs.Json.Text.{Text, Reader, Taker, behind, spelled, ws, byte, word}
use Rattle.rules.specs.Json.Numbers.{number}
use Rattle.rules.specs.Json.Strings.{string}
use Rattle.rules.specs.Json.Values.{Behind, closed, onward, neither, opened_by, opening, closed_by, closing, and_then, after_item}
use Rattle.rules.specs.Json.Values.{items, items_behind, list, Member, colon, member, contents, elements, scalar, value_by, value}
use Rattle.rules.proofs.Tests.{apart, by}
use Rattle.rules.proofs.Json.Suffix.{Reads, EachReads, EachTakes, reads_byte, reads-after, reads_made, reads_then}
use Rattle.rules.proofs.Json.Suffix.{reads-least, some_same, bound, taken, answered-after, answered-as}
use Rattle.rules.proofs.Json.Bounds.{Within, EachWithin, within-reads, within-bound, within-taken, within-last, within-turn}
use Rattle.rules.proofs.Json.TextReads.{ws-reads, byte_reads, word-reads, spelled-reads}
use Rattle.rules.proofs.Json.NumberReads.{number-reads}
use Rattle.rules.proofs.Json.StringReads.{string-reads}

-- ---- where a container is closed or goes on

closed_same : {t u : Text} → closed t ≡ closed u → t ≡ u
closed_same e = cc

onward-same : {t u : Text} → onward t ≡ onward u → t ≡ u
onward-same e = cc

module _ (close : ℕ) where
  closed_by-closed : (t r : Text) → closed_by close t ≡ closed r → Reads 1 (closed_by close) closed t r
  unfolding closed_by
  closed_by-closed [] r e = apart (cc)
  closed_by-closed (b ∷ t) r e = by (eqb b close)
      (λ p. let f : (w : Text) → closed_by close (b ∷ w) ≡ closed w = λ w. rw (closed_by, p) in
      subst (Reads 1 (closed_by close) closed (b ∷ t)) (closed_same (sym (f t) ∙ e)) (reads_byte t f))
      (λ p. by (eqb b 0x2C)
      (λ q. let f : closed_by close (b ∷ t) ≡ onward (ws t) = rw (closed_by, p, q) in apart (cc))
      (λ q. let f : closed_by close (b ∷ t) ≡ neither = rw (closed_by, p, q) in apart (cc)))

  pub closing-closed : (t r : Text) → closing close t ≡ closed r → Reads 1 (closing close) closed t r
  unfolding closing
  closing-closed t r e = reads_then {both = closing close} (ws-reads t) (closed_by-closed (ws t) r e) (λ w x s. ap (closed_by close) s)

  closed_by-onward : (t r : Text) → closed_by close t ≡ onward r → Reads 1 (closed_by close) onward t r
  unfolding closed_by
  closed_by-onward [] r e = apart (cc)
  closed_by-onward (b ∷ t) r e = by (eqb b close)
      (λ p. let f : closed_by close (b ∷ t) ≡ closed t = rw (closed_by, p) in apart (cc))
      (λ p. by (eqb b 0x2C)
      (λ q. let f : (w : Text) → closed_by close (b ∷ w) ≡ onward (ws w) = λ w. rw (closed_by, p, q) in
      subst (Reads 1 (closed_by close) onward (b ∷ t)) (onward-same (sym (f t) ∙ e)) (reads-after f (reads_made (λ w v s. ap onward s) (ws-reads t))))
      (λ q. let f : closed_by close (b ∷ t) ≡ neither = rw (closed_by, p, q) in apart (cc)))

  pub closing-onward : (t r : Text) → closing close t ≡ onward r → Reads 1 (closing close) onward t r
  unfolding closing
  closing-onward t r e = reads_then {both = closing close} (ws-reads t) (closed_by-onward (ws t) r e) (λ w x s. ap (closed_by close) s)

  -- no byte is read before the first item but white space
  pub opening-onward : (t r : Text) → opening close t ≡ onward r → r ≡ ws t
  unfolding opening opened_by
  opening-onward t r e = go (ws t) e
    where
      go : (u : Text) → opened_by close u ≡ onward r → r ≡ u
      go [] f = apart (cc)
      go (b ∷ u) f = by (eqb b close)
          (λ p. let g : opened_by close (b ∷ u) ≡ closed u = rw (opened_by, p) in apart (cc))
          (λ p. let g : opened_by close (b ∷ u) ≡ onward (b ∷ u) = rw (opened_by, p) in onward-same (sym f ∙ g))

-- ---- items

module _ {A : Type 0} (item : Taker A) (close : ℕ) where
  -- an item, and what stands behind it
  item_then : Text → Option (A × Behind)
  item_then t = item t >>= (λ p. Some (p.0, closing close p.1))

  items-turn : (n : ℕ) (t : Text) (x : A) (c : Behind) → item_then t ≡ Some (x, c) → items item close (suc n) t ≡ after_item x c (λ u. items item close n u)
  unfolding item_then items
  items-turn n t x c e = bound (item t) _ e (λ y p q.
      rw (items, p) (ap (λ (z : A × Behind). after_item z.0 z.1 (λ u. items item close n u)) (some_same q)))

  module _ (each : EachTakes 1 item) where
    item_then-reads : (next : Text → Behind) (x : A) (t r u : Text) → item t ≡ Some (x, r) → Reads 1 (closing close) next r u
        → Reads 1 item_then (λ v. Some (x, next v)) t u
    unfolding item_then
    item_then-reads next x t r u e h =
        reads-least
        (omega arith)
        (reads_then {both = item_then} (each x t r e) (reads_made {made = λ w. Some (x, closing close w)} (λ w v s. ap (λ c. Some (x, c)) s) h) (λ w v s. rw s))

    pub items-within : EachWithin (items item close)
    unfolding items after_item and_then
    items-within zero xs t r e = apart (cc)
    items-within (suc n) xs t r e = bound (item t) _ e (λ p f g. go (items-within n) p f (closing close p.1) refl g)
      where
        go : ((ys : List A) (w u : Text) → items item close n w ≡ Some (ys, u) → Within (items item close) (λ v. Some (ys, v)) w u)
            → (p : A × Text) → item t ≡ Some p → (c : Behind) → closing close p.1 ≡ c → after_item p.0 c (λ u. items item close n u) ≡ Some (xs, r)
            → Within (items item close) (λ v. Some (xs, v)) t r
        go ih p f (closed u) h g = within-taken g
            (within-last (item_then-reads closed p.0 t p.1 u f (closing-closed close p.1 u h)) (λ m w v s. items-turn m w p.0 (closed v) s))
        go ih p f (onward u) h g = one (items item close n u) refl g
          where
            one : (o : Option (List A × Text)) → items item close n u ≡ o → and_then p.0 o ≡ Some (xs, r) → Within (items item close) (λ v. Some (xs, v)) t r
            one None i k = apart (cc)
            one (Some q) i k = within-taken k
                (within-turn (item_then-reads onward p.0 t p.1 u f (closing-onward close p.1 u h)) (ih q.0 u q.1 i)
                (λ m w s v a b. items-turn m w p.0 (onward s) a ∙ ap (and_then p.0) b))
        go ih p f neither h g = apart (cc)

    -- items, with any bound from the number of bytes on
    pub items-bound : (t : Text) (n m : ℕ) → length t ≤ n → length t ≤ m → items item close n t ≡ items item close m t
    items-bound t n m k l = within-bound items-within k l

    list_by-reads : EachTakes 1 (λ t. items_behind item close (opened_by close t))
    unfolding items_behind opened_by
    list_by-reads xs [] r e = apart (cc)
    list_by-reads xs (b ∷ t) r e = by (eqb b close)
        (λ p. let f : (w : Text) → items_behind item close (opened_by close (b ∷ w)) ≡ Some ([], w) = λ w. rw (opened_by, p) in
        taken (sym (f t) ∙ e) (reads_byte t f))
        (λ p. answered-as {other = λ u. items item close (suc (length u)) u} e (λ w. rw (opened_by, p))
        (λ q. within-reads (items-within (suc (length (b ∷ t))) xs (b ∷ t) r q)))

    pub list-reads : EachTakes 1 (list item close)
    unfolding list opening
    list-reads xs t r e =
        reads_then {both = list item close} (ws-reads t) (list_by-reads xs (ws t) r e) (λ w x s. ap (λ u. items_behind item close (opened_by close u)) s)

-- ---- objects and arrays

pub colon-reads : EachReads 1 colon
unfolding colon
colon-reads t r e = bound (byte 0x3A (ws t)) _ e (λ u f g.
    subst (Reads 1 colon Some t) (some_same g) (reads_then {both = colon}
    (reads_then {both = λ w. byte 0x3A (ws w)} (ws-reads t) (byte_reads 0x3A (ws t) u f) (λ w x s. ap (byte 0x3A) s))
    (reads_made {made = λ w. Some (ws w)} (λ w v s. ap Some s) (ws-reads u)) (λ w x s. rw (colon, s))))

module _ {value : Reader} (each : EachReads 1 value) where
  -- a member behind its name
  valued : Bytes → Taker Member
  valued name t = colon t >>= (λ v. spelled value v >>= (λ p. Some ((name, p.0), p.1)))

  valued-reads : (name : Bytes) → EachTakes 2 (valued name)
  unfolding valued
  valued-reads name m t r e =
      bound (colon t) _ e (λ v f g.
      bound (spelled value v) _ g (λ p h k.
      taken k (reads_then {both = valued name} (colon-reads t v f)
      (reads_made {made = λ w. spelled value w >>= (λ p. Some ((name, p.0), p.1))} (λ w u s. rw s) (spelled-reads each p.0 v p.1 h)) (λ w x s. rw s))))

  -- a member behind its quote
  named : Taker Member
  named t = string t >>= (λ p. valued p.0 p.1)

  named-reads : EachTakes 3 named
  unfolding named
  named-reads m t r e = bound (string t) _ e (λ p f g.
      reads_then {both = named} (string-reads p.0 t p.1 f) (valued-reads p.0 m p.1 r g) (λ w x s. rw s))

  pub member-reads : EachTakes 1 (member value)
  unfolding member named valued
  member-reads m t r e = bound (byte 0x22 t) named e (λ u f g.
      reads-least (omega arith) (reads_then {both = member value} (byte_reads 0x22 t u f) (named-reads m u r g) (λ w x s. rw (member, s))))

  pub contents-reads : EachTakes 1 (contents value)
  unfolding contents
  contents-reads = list-reads (member value) 0x7D member-reads

  pub elements-reads : EachTakes 1 (elements value)
  unfolding elements
  elements-reads = list-reads (spelled value) 0x5D (spelled-reads each)

-- ---- values

pub behind-reads : {A : Type 0} {least : ℕ} {take : Taker A} → EachTakes least take → EachReads least (λ t. behind (take t))
behind-reads {A} {least} {take} each t r e = go (take t) refl e
  where
    go : (o : Option (A × Text)) → take t ≡ o → behind o ≡ Some r → Reads least (λ t. behind (take t)) Some t r
    go None p q = apart (cc)
    go (Some x) p q = subst (Reads least (λ t. behind (take t)) Some t) (some_same q) (reads_made (λ w u s. ap behind s) (each x.0 t x.1 p))

pub scalar-reads : EachReads 1 scalar
unfolding scalar
scalar-reads [] r e = apart (cc)
scalar-reads (b ∷ t) r e =
    by (eqb b 0x22)
    (λ p. reads-least (omega arith) (answered-after {other = λ w. behind (string w)} e (λ w. rw (scalar, p)) (behind-reads string-reads t r))) (λ p.
    by (eqb b 0x66)
    (λ q. reads-least (omega arith) (answered-after {other = word (ascii "alse")} e (λ w. rw (scalar, p, q)) (word-reads (ascii "alse") t r))) (λ q.
    by (eqb b 0x6E)
    (λ n. reads-least (omega arith) (answered-after {other = word (ascii "ull")} e (λ w. rw (scalar, p, q, n)) (word-reads (ascii "ull") t r))) (λ n.
    by (eqb b 0x74)
    (λ u. reads-least (omega arith) (answered-after {other = word (ascii "rue")} e (λ w. rw (scalar, p, q, n, u)) (word-reads (ascii "rue") t r))) (λ u.
    answered-as {other = number} e (λ w. rw (scalar, p, q, n, u)) (number-reads (b ∷ t) r)))))

value_by-reads : (object array : Reader) → EachReads 0 object → EachReads 0 array → EachReads 1 (value_by object array)
unfolding value_by
value_by-reads object array o a [] r e = apart (cc)
value_by-reads object array o a (b ∷ t) r e =
    by (eqb b 0x7B) (λ p. answered-after {other = object} e (λ w. rw (value_by, p)) (o t r)) (λ p.
    by (eqb b 0x5B) (λ q. answered-after {other = array} e (λ w. rw (value_by, p, q)) (a t r)) (λ q.
    answered-as {other = scalar} e (λ w. rw (value_by, p, q)) (scalar-reads (b ∷ t) r)))

pub value-reads : (d : ℕ) → EachReads 1 (value d)
unfolding value
value-reads zero = value_by-reads (λ t. None) (λ t. None) (λ t r e. apart (cc)) (λ t r e. apart (cc))
value-reads (suc d) = value_by-reads (λ t. behind (contents (value d) t)) (λ t. behind (elements (value d) t))
    (λ t r e. reads-least (omega arith) (behind-reads (contents-reads (value-reads d)) t r e))
    (λ t r e. reads-least (omega arith) (behind-reads (elements-reads (value-reads d)) t r e))
