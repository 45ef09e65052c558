-- A follower that is attached.
use Rattle.std.proofs.Common.{◌≡◌, ◌<◌, ◌≤◌, ℕ, length, arith, Bool, List, Option, Some, sym, subst, ◌∙◌}
use Rattle.lnet_gates.specs.declared.signal.Signal.{Signal}
use Rattle.lnet_gates.specs.Gates.{GateValue}
use Rattle.lnet_model.specs.Networks.{NetworkValue}
use Rattle.lnet_views.specs.Rules.{IsInStep}
use Rattle.lnet_views.specs.Follows.{IsFollowing}

pub some-same : {A : Type 0} (a b : A) → Some a ≡ Some b → a ≡ b
some-same a b e = cc

-- the rule that is read is the one by which it follows
pub followed-by : {R V : Type 0} (eq : V → V → Bool) (first_of : R → ℕ → V) (gives : R → ℕ → GateValue → List (Signal × V) → V) (rule : Option R) (kept : ℕ → Option (V × ℕ)) (N : NetworkValue) (r : R) → rule ≡ Some r → IsFollowing eq first_of gives rule kept N → IsInStep eq (first_of r) (gives r) kept N
followed-by eq first_of gives rule kept N r is F = subst (λ q. IsInStep eq (first_of q) (gives q) kept N) (some-same F.asked r (sym F.attached ∙ is)) F.answers

pub few-after : {V : Type 0} (values values2 : List V) (levels levels2 : List (Option ℕ)) → length levels ≤ 4294967295 → length values ≡ length levels → length values2 ≡ length values → length levels2 ≡ length values2 → length levels2 ≤ 4294967295
few-after values values2 levels levels2 few full len same = omega arith

pub heads-after : {V : Type 0} (values values2 : List V) (levels levels2 heads heads2 : List (Option ℕ)) → length values ≡ length levels → length levels < length heads → length values2 ≡ length values → length levels2 ≡ length values2 → length heads2 ≡ length heads → length levels2 < length heads2
heads-after values values2 levels levels2 heads heads2 full more len same h = omega arith
