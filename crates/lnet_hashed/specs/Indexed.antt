-- The table of the keys of gates, beside marks of the gates that are dirty.
use Rattle.std.specs.Prelude.{◌≡◌, ◌≢◌, ◌≤◌, ℕ, Bool, true, false, Option, None, Some, length, slice_index_or}
use Rattle.lnet_gates.specs.Gates.{GateValue, KeyValue}
use Rattle.lnet_model.specs.Networks.{NetworkValue, gate_at}
use Rattle.lnet_strash.specs.Standing.{KeysDiffer, at, room}
use Rattle.lnet_hashed.specs.Strashed.{key_of}
use Rattle.lnet_hashed.specs.declared.keys.Keys.{Keys}

-- what the table has of a gate: its key and its phase; nothing of one that is dirty
abbrev pub stands_for : Option GateValue → Bool → Option (KeyValue × Bool)
stands_for None dirty = None
stands_for (Some g) true = None
stands_for (Some g) false = Some (key_of g, g.phase)

-- just the clean gates of N stand in the table, each under its key and with its phase, and no two under one key; there is a
-- mark and a place for each number below the room
pub record IsIndexed (N : NetworkValue) (keys : Keys) (numbers : ℕ) : Type 0 where
  pub dirty_long : numbers ≤ length keys.dirty
  pub table_long : numbers ≤ room keys.table
  pub stands : (n : ℕ) → at keys.table n ≡ stands_for (gate_at N n) (slice_index_or keys.dirty n false)
  pub differ : KeysDiffer keys.table

-- no gate is dirty
abbrev pub AllClean : Keys → Type 0
AllClean keys = (n : ℕ) → slice_index_or keys.dirty n false ≡ false

-- M has the gates of N at all numbers but n
abbrev pub HasGatesBeside : NetworkValue → NetworkValue → ℕ → Type 0
HasGatesBeside N M n = (m : ℕ) → m ≢ n → gate_at M m ≡ gate_at N m
