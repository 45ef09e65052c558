-- And, Xor and majority of the literals of a recipe, laid by the operations that the gates of a network have. Source: the
-- textbook identities of And, Xor and majority.
use Rattle.std.specs.Prelude.{ℕ, ◌+◌, [], ◌∷◌, length}
use Rattle.lnet_tables.specs.Shannon.{Laid, plain, complemented, other, after}
use Rattle.lnet_tables.specs.declared.step.Lit.{Lit}
use Rattle.lnet_tables.specs.declared.step.StepOp.{StepOp}
use Rattle.lnet_tables.specs.declared.step.StepOp.TheVariants.{And as AndStep, Xor as XorStep, Maj as MajStep}
use Rattle.lnet_gates.specs.declared.gate.Kind.{Kind}
use Rattle.lnet_gates.specs.declared.gate.Kind.TheVariants.{Aig, Xag, Mig}

-- one step of the operation
abbrev pub same_plan : StepOp → ℕ → Lit → Lit → Lit → Laid
same_plan op p a b c = record { steps = record { op = op; a = a; b = b; c = c } ∷ []; root = plain p }

-- the and of two literals: a majority with false, where the kind has no And
abbrev pub and_plan : Kind → ℕ → Lit → Lit → Laid
and_plan Mig p a b = same_plan MajStep p (record { 0 = 0 }) a b
and_plan _ p a b = same_plan AndStep p a b (record { 0 = 0 })

-- the or of two literals: the complement of the and of their complements
abbrev pub or_plan : Kind → ℕ → Lit → Lit → Laid
or_plan kind p a b = record { steps = (and_plan kind p (other a) (other b)).steps; root = complemented p }

-- or(and(a, !b), and(!a, b))
abbrev pub either_plan : Kind → ℕ → Lit → Lit → Laid
either_plan kind p a b =
    after (and_plan kind p a (other b)) (after (and_plan kind (p + 1) (other a) b) (or_plan kind (p + 1 + 1) (plain p) (plain (p + 1))))

-- and(!and(a, b), or(a, b))
abbrev pub not_both_plan : Kind → ℕ → Lit → Lit → Laid
not_both_plan kind p a b =
    after (and_plan kind p a b) (after (or_plan kind (p + 1) a b) (and_plan kind (p + 1 + 1) (other (plain p)) (complemented (p + 1))))

-- or(and(a, b), and(c, or(a, b)))
abbrev pub most_plan : Kind → ℕ → Lit → Lit → Lit → Laid
most_plan kind p a b c =
    after (and_plan kind p a b) (after (or_plan kind (p + 1) a b)
    (after (and_plan kind (p + 1 + 1) c (complemented (p + 1))) (or_plan kind (p + 1 + 1 + 1) (plain p) (plain (p + 1 + 1)))))

-- the exclusive or of two literals
abbrev pub xor_plan : Kind → ℕ → Lit → Lit → Laid
xor_plan Aig p a b = either_plan Aig p a b
xor_plan Mig p a b = not_both_plan Mig p a b
xor_plan _ p a b = same_plan XorStep p a b (record { 0 = 0 })

-- the majority of three literals
abbrev pub maj_plan : Kind → ℕ → Lit → Lit → Lit → Laid
maj_plan Aig p a b c = most_plan Aig p a b c
maj_plan Xag p a b c = most_plan Xag p a b c
maj_plan _ p a b c = same_plan MajStep p a b c

-- a step's operation on three literals, of which And and Xor read two
abbrev pub step_plan : Kind → StepOp → ℕ → Lit → Lit → Lit → Laid
step_plan kind AndStep p a b c = and_plan kind p a b
step_plan kind XorStep p a b c = xor_plan kind p a b
step_plan kind MajStep p a b c = maj_plan kind p a b c

-- how many steps of the kind take the place of a step
abbrev pub cost : Kind → StepOp → ℕ
cost kind op = length (step_plan kind op 0 (plain 0) (plain 0) (plain 0)).steps
