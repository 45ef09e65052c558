-- What a network of a kind holds beside its views.
use Rattle.std.specs.Prelude.{ℕ, refl}
use Rattle.std.specs.Coded.{Coded, code_by, coded×, coded_ℕ}
use Rattle.lnet_model.specs.Networks.{NetworkValue}
use Rattle.lnet_model.specs.Code.{network_code}

-- the network, and for how many numbers, from 0, it and each of its views have memory
pub record CoreValue : Type 0 where
  pub network : NetworkValue
  pub room : ℕ

abbrev pub core_code : Coded CoreValue
core_code = code_by (NetworkValue × ℕ) (coded× network_code coded_ℕ) (λ s. (s.network, s.room)) (λ p. record { network = p.0; room = p.1 }) (λ _. refl)
