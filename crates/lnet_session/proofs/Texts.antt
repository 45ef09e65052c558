-- The texts of a circuit in a format that is told.
use Rattle.std.proofs.Common.{◌≡◌, List, ℕ, Result, sym, subst}
use Rattle.std.specs.Prelude.{IfOk}
use Rattle.lnet_edge.specs.Circuits.{CircuitValue}
use Rattle.lnet_script.specs.declared.command.WriteFormat.{WriteFormat}
use Rattle.lnet_session.specs.Formats.{IsTextOf}

pub told-text : {V E : Type 0} (items : V → List ℕ) (c : CircuitValue) (told is : WriteFormat) → told ≡ is → (r : Result V E) → IfOk r (λ v. IsTextOf is (items v) c) → IfOk r (λ v. IsTextOf told (items v) c)
told-text items c told is same r m = subst (λ (f : WriteFormat). IfOk r (λ v. IsTextOf f (items v) c)) (sym same) m
