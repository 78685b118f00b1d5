-- An object that is met again, by the names of its members.
use Rattle.std.specs.Prelude.{◌≡◌, List, ℕ, suc, length, drop}
use Rattle.std.specs.Prelude.{Some}
use Rattle.rules.specs.Bytes.{Bytes, firsts}
use Rattle.rules.specs.Json.Text.{Text}
use Rattle.rules.specs.Json.Values.{Member, items, member, contents, value}

-- behind the brace before `at` stands an object whose members have the names
pub record Object (depth : ℕ) (s : Text) (at : ℕ) (names : List Bytes) : Type 0 where
  pub ms : List Member
  pub left : Text
  pub all : contents (value depth) (drop at s) ≡ Some (ms, left)
  pub each : firsts ms ≡ names

-- and so it is of some names
pub record IsObject (depth : ℕ) (s : Text) (at : ℕ) : Type 0 where
  pub names : List Bytes
  pub object : Object depth s at names

-- the same of its members from the one at i on
pub record Members (depth : ℕ) (s : Text) (i : ℕ) (names : List Bytes) : Type 0 where
  pub ms : List Member
  pub left : Text
  pub all : items (member (value depth)) 0x7D (suc (length (drop i s))) (drop i s) ≡ Some (ms, left)
  pub each : firsts ms ≡ names
