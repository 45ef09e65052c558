-- What is laid in a network: the steps of a recipe, one after another.
use Rattle.std.specs.Prelude.{◌%◌, ◌==◌, false, List, [], ◌∷◌, ◌++◌, length}
use lib.ListN.{get_or}
use Rattle.lnet_tables.specs.declared.step.Lit.{Lit}
use Rattle.lnet_tables.specs.declared.step.Step.{Step}
use Rattle.lnet_tables.specs.declared.step.StepOp.{StepOp}
use Rattle.lnet_tables.specs.declared.step.StepOp.TheVariants as steps
use Rattle.lnet_tables.specs.Recipes.{RecipeValue, place}
use Rattle.lnet_gates.specs.declared.signal.Signal.{Signal}
use Rattle.lnet_gates.specs.declared.gate.Kind.{Kind}
use Rattle.lnet_gates.specs.declared.gate.Op.{Op}
use Rattle.lnet_gates.specs.declared.planning.Plan.{Plan}
use Rattle.lnet_gates.specs.declared.planning.Plan.TheVariants.{Native, Steps}
use Rattle.lnet_gates.specs.Gates.{GateValue}
use Rattle.lnet_gates.specs.Operands.{flipped, constant}
use Rattle.lnet_gates.specs.Plans.{op_of, plan_of}
use Rattle.lnet_model.specs.Networks.{NetworkValue}
use Rattle.lnet_hashed.specs.Strashed.{Placed, placed}

-- the signal of a literal, where the places have these signals; a place past them is false
abbrev pub signal_at : List Signal → Lit → Signal
signal_at places l = flipped (l.0 % 2 == 1) (get_or places (place l) (constant false))

-- the operands of a step
abbrev pub operands_at : List Signal → StepOp → Lit → Lit → Lit → List Signal
operands_at places steps.And a b c = signal_at places a ∷ signal_at places b ∷ []
operands_at places steps.Xor a b c = signal_at places a ∷ signal_at places b ∷ []
operands_at places steps.Maj a b c = signal_at places a ∷ signal_at places b ∷ signal_at places c ∷ []

-- the gate of a step
abbrev pub step_gate : List Signal → Step → GateValue
step_gate places s = record { op = op_of s.op; phase = false; fanins = operands_at places s.op s.a s.b s.c }

-- a network, and the signals of the places so far
pub record Laid : Type 0 where
  pub network : NetworkValue
  pub places : List Signal

-- the steps one after another, each placed
unfoldable pub laid_steps : Kind → List Step → NetworkValue → List Signal → Laid
laid_steps kind [] N places = record { network = N; places = places }
laid_steps kind (s ∷ ss) N places =
    let p : Placed = placed kind N (step_gate places s) in
    laid_steps kind ss p.network (places ++ p.signal ∷ [])

-- a recipe of native steps over these leaves
abbrev pub laid : Kind → NetworkValue → RecipeValue → List Signal → Placed
laid kind N r leaves =
    let l : Laid = laid_steps kind r.steps N (constant false ∷ leaves) in
    record { network = l.network; signal = signal_at l.places r.root }

-- an operation on operands by its plan: as a gate where it is native, and else by the plan's steps
abbrev pub by_plan : Kind → NetworkValue → Op → List Signal → Plan → Placed
by_plan kind N op operands Native = placed kind N (record { op = op; phase = false; fanins = operands })
by_plan kind N op operands (Steps r) = laid kind N r operands

-- what a network of the kind has after an operation on operands is made, and the operation's signal
unfoldable pub made : Kind → NetworkValue → Op → List Signal → Placed
made kind N op operands = by_plan kind N op operands (plan_of kind op (length operands))
