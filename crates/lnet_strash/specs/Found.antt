-- What a search of the table finds.
use Rattle.std.specs.Prelude.{◌≡◌, ◌<◌, ℕ, Some, length}
use Rattle.lnet_gates.specs.Gates.{KeyValue}
use Rattle.lnet_strash.specs.declared.chains.Chains.{Chains}
use Rattle.lnet_strash.specs.declared.chains.Found.{Found}
use Rattle.lnet_strash.specs.Keys.{chain_of}
use Rattle.lnet_strash.specs.Chains.{home_of, IsLinkAfter, StandsUnder}

-- the number's node stands under the key, and the number comes after the one before it
pub record IsFound (c : Chains) (k : KeyValue) (f : Found) : Type 0 where
  pub stands : StandsUnder c.standing.items f.number k
  pub after : IsLinkAfter c.heads.items c.next.items (home_of (length c.heads.items) c.standing.items) (chain_of (length c.heads.items) k) f.before (Some f.number)

-- the number belongs in this chain, and comes after the one before it
pub record IsPlaceOf (c : Chains) (n : ℕ) (f : Found) (chain : ℕ) : Type 0 where
  pub number : f.number ≡ n
  pub inside : chain < length c.heads.items
  pub home : home_of (length c.heads.items) c.standing.items f.number ≡ Some chain
  pub after : IsLinkAfter c.heads.items c.next.items (home_of (length c.heads.items) c.standing.items) chain f.before (Some f.number)
