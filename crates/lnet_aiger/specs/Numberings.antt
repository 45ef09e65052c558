-- What the map from wires to their variables says.
use Rattle.std.specs.Prelude.{◌≡◌, ℕ, List, nat_eq, unwrap_or}
use Rattle.std.specs.declared.hash.FoldHasher.{FoldHasher}
use Rattle.std.specs.declared.hash.BuildHasherDefault.{BuildHasherDefault}
use Rattle.std.specs.HashMap.{get, HashMap}
use Rattle.lnet_aiger.specs.declared.body.Gate.{Gate}
use Rattle.lnet_aiger.specs.Texts.{place_from}
use Rattle.lnet_aiger.specs.declared.numbering.Literals.{Literals}

abbrev pub Variables : Type 0
Variables = HashMap ℕ ℕ (BuildHasherDefault FoldHasher)

-- the map has each of these wires at its first place among them, and no other
abbrev pub KnowsPlaces : Variables → List ℕ → Type 0
KnowsPlaces m xs = (w : ℕ) → get nat_eq m w ≡ place_from 0 w xs

-- the variable of a wire, 0 where it has none
abbrev pub place_in : Variables → ℕ → ℕ
place_in m w = unwrap_or (get nat_eq m w) 0

abbrev pub literals_view : Literals → Gate
literals_view g = record { target = g.target; first = g.first; second = g.second }
