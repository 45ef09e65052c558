-- What stands in a fanout reads the node.
use Rattle.std.proofs.Common.{ℕ, zero, suc, List, [], ◌∷◌, Option, None, Some, slice_get, sym, inl, inr}
use Rattle.lnet_gates.specs.declared.signal.Signal.{Signal}
use Rattle.lnet_model.specs.Networks.{NetworkValue, Entry, entry_at, fanins_of}
use Rattle.lnet_model.specs.Along.{In, at_entry, fanin_nodes, nodes_read}
use Rattle.lnet_model.specs.Fanouts.{fan}
use Rattle.lnet_store.specs.StoreValues.{IsOneOf}
use Rattle.lnet_store.specs.Linked.{NamesNode}
use Rattle.lnet_store.proofs.FanMembers.{fan-reads}

names-read : (n j : ℕ) (ss : List Signal) → NamesNode n (slice_get ss j) → In n (nodes_read ss)
names-read n j [] h = absurd h
names-read n zero (s ∷ ss) h = inl (sym h)
names-read n (suc j) (s ∷ ss) h = inr (names-read n j ss h)

read-names : (n : ℕ) (ss : List Signal) → In n (nodes_read ss) → (j : ℕ) × NamesNode n (slice_get ss j)
read-names n [] i = absurd i
read-names n (s ∷ ss) (inl e) = (0, sym e)
read-names n (s ∷ ss) (inr i) = let t = read-names n ss i in (suc t.0, t.1)

entry-read : (n j : ℕ) (o : Option Entry) → NamesNode n (slice_get (at_entry [] fanins_of o) j) → In n (fanin_nodes o)
entry-read n j None h = absurd h
entry-read n j (Some e) h = names-read n j (fanins_of e) h

read-entry : (n : ℕ) (o : Option Entry) → In n (fanin_nodes o) → (j : ℕ) × NamesNode n (slice_get (at_entry [] fanins_of o) j)
read-entry n None i = absurd i
read-entry n (Some e) i = read-names n (fanins_of e) i

-- who stands in the fanout reads the node
pub fan-parent : (N : NetworkValue) (n p j : ℕ) → IsOneOf (p, j) (fan N n) → In n (fanin_nodes (entry_at N p))
fan-parent N n p j h = entry-read n j (entry_at N p) ((fan-reads N n p j).0 h)

-- and who reads it stands there
pub parent-fan : (N : NetworkValue) (n p : ℕ) → In n (fanin_nodes (entry_at N p)) → (j : ℕ) × IsOneOf (p, j) (fan N n)
parent-fan N n p i = let t = read-entry n (entry_at N p) i in (t.0, (fan-reads N n p t.0).1 t.1)
