-- What is live stays so.
use Rattle.std.specs.Prelude.{ℕ}
use Rattle.lnet_model.specs.Networks.{NetworkValue, IsLive}

abbrev pub KeepsLive : NetworkValue → NetworkValue → Type 0
KeepsLive N M = (n : ℕ) → IsLive N n → IsLive M n
