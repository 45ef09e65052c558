-- What is laid by the steps of a recipe has the recipe's value, the rest keeps its values, and the network stays hashed.
use Rattle.std.proofs.Common.{◌≡◌, ℕ, zero, suc, ◌%◌, ◌+◌, ◌≤◌, Bool, true, false, cond, List, drop, Some, [], ◌∷◌, ◌++◌, map, length, get_or, refl, sym, ap, subst, ◌∙◌, inl, inr, arith, ◌==◌}
use Rattle.std.specs.Prelude.{slice_get}
use Rattle.std.proofs.Math.Seq.{drop-cons}
use Rattle.std.proofs.lemmas.Option.{slice_get_within, get_or_from_slice_get}
use Rattle.std.proofs.lemmas.List.{map-append, length-map, drop_all}
use Rattle.lnet_tables.specs.declared.step.Lit.{Lit}
use Rattle.lnet_tables.specs.declared.step.Step.{Step}
use Rattle.lnet_tables.specs.declared.step.StepOp.{StepOp}
use Rattle.lnet_tables.specs.declared.step.StepOp.TheVariants as steps
use Rattle.lnet_tables.specs.Recipes.{RecipeValue, place, run, lit_value}
use Rattle.lnet_tables.specs.Recipes as recipes
use Rattle.lnet_gates.specs.declared.signal.Signal.{Signal}
use Rattle.lnet_gates.specs.declared.gate.Kind.{Kind}
use Rattle.lnet_gates.specs.declared.gate.Op.{Op}
use Rattle.lnet_gates.specs.declared.planning.Plan.{Plan}
use Rattle.lnet_gates.specs.declared.planning.Plan.TheVariants.{Native, Steps}
use Rattle.lnet_gates.specs.Gates.{flip, and_of, xor_of, maj_of, operate}
use Rattle.lnet_gates.specs.Operands.{constant}
use Rattle.lnet_gates.specs.Natives.{IsNativeGate, FitsWord}
use Rattle.lnet_gates.specs.Plans.{Takes, is_native, op_of, AllNative, plan_of, recipe_of, op_rows}
use Rattle.lnet_gates.specs.Remade.{native_recipe}
use Rattle.lnet_gates.specs.Lawful.OperandLemmas.{read-flipped}
use Rattle.lnet_gates.proofs.RemadeMeans.{native_steps}
use Rattle.lnet_gates.proofs.PlanLaws.{plan_computes, plan_leaves}
use Rattle.lnet_model.specs.Networks.{NetworkValue, IsLive, live_count}
use Rattle.lnet_model.specs.Along.{IsWhole, nodes_read}
use Rattle.lnet_model.specs.Values.{node_value, signal_value}
use Rattle.lnet_model.specs.Changes.{AreLive}
use Rattle.lnet_model.specs.Dags.{IsStored, NUMBERS}
use Rattle.lnet_hashed.specs.Strashed.{IsStrashed, Placed, placed}
use Rattle.lnet_hashed.specs.Laid.{signal_at, operands_at, step_gate, Laid, laid_steps, laid, by_plan, made}
use Rattle.lnet_hashed.proofs.Places.{first-live}
use Rattle.lnet_hashed.proofs.Strashing.{strashed-placed}
use Rattle.lnet_hashed.proofs.Extensions.{Extends, extends-self, extends-twice, extends-all_live, extends-signals, value-first}
use Rattle.lnet_hashed.proofs.PlacedValues.{Stands, stands-as, value_on, placed-grows, placed-stands}
use Rattle.lnet_hashed.proofs.RecipeValues.{recipe-computes}

-- ---- the gate of a step

-- the gate of a native step is native
pub step-native : (kind : Kind) (places : List Signal) (op : StepOp) (a b c : Lit) → is_native kind (op_of op) ≡ true → IsNativeGate kind (record { op = op_of op; phase = false; fanins = operands_at places op a b c })
step-native kind places steps.And a b c h = record { has = h; takes = refl; fits = tt }
step-native kind places steps.Xor a b c h = record { has = h; takes = refl; fits = tt }
step-native kind places steps.Maj a b c h = record { has = h; takes = refl; fits = tt }

module _ (N : NetworkValue) (places : List Signal) (whole : IsWhole N) (live : AreLive N (nodes_read places)) where
  -- the signal of each literal is live
  pub literal-live : (l : Lit) → IsLive N (signal_at places l).node.0
  literal-live l = at (place l) places live
    where
      at : (i : ℕ) (ss : List Signal) → AreLive N (nodes_read ss) → IsLive N (get_or ss i (constant false)).node.0
      at i [] h = first-live N whole
      at zero (s ∷ ss) h = h s.node.0 (inl refl)
      at (suc i) (s ∷ ss) h = at i ss (λ m k. h m (inr k))

  one-live : (l : Lit) (m : ℕ) → m ≡ (signal_at places l).node.0 → IsLive N m
  one-live l m e = subst (IsLive N) (sym e) (literal-live l)

  -- and so are the operands of a step
  pub operands-live : (op : StepOp) (a b c : Lit) → AreLive N (nodes_read (operands_at places op a b c))
  operands-live steps.And a b c m (inl e) = one-live a m e
  operands-live steps.And a b c m (inr (inl e)) = one-live b m e
  operands-live steps.And a b c m (inr (inr i)) = absurd i
  operands-live steps.Xor a b c m (inl e) = one-live a m e
  operands-live steps.Xor a b c m (inr (inl e)) = one-live b m e
  operands-live steps.Xor a b c m (inr (inr i)) = absurd i
  operands-live steps.Maj a b c m (inl e) = one-live a m e
  operands-live steps.Maj a b c m (inr (inl e)) = one-live b m e
  operands-live steps.Maj a b c m (inr (inr (inl e))) = one-live c m e
  operands-live steps.Maj a b c m (inr (inr (inr i))) = absurd i

most-is : (a b c : Bool) → maj_of (a ∷ b ∷ c ∷ []) ≡ recipes.apply steps.Maj a b c
most-is true true true = refl
most-is true true false = refl
most-is true false true = refl
most-is true false false = refl
most-is false true true = refl
most-is false true false = refl
most-is false false true = refl
most-is false false false = refl

module _ (N : NetworkValue) (places : List Signal) (a : ℕ → Bool) (first : node_value N a 0 ≡ false) where
  -- the signal of a literal has the literal's value on the places' values
  pub literal-value : (l : Lit) → signal_value N a (signal_at places l) ≡ lit_value (map (signal_value N a) places) l
  literal-value l =
      read-flipped (node_value N a) (l.0 % 2 == 1) (get_or places (place l) (constant false))
      ∙ ap (flip (l.0 % 2 == 1)) (at (place l) places)
    where
      at : (i : ℕ) (ss : List Signal) → signal_value N a (get_or ss i (constant false)) ≡ get_or (map (signal_value N a) ss) i false
      at i [] = first
      at zero (s ∷ ss) = refl
      at (suc i) (s ∷ ss) = at i ss

  -- the gate of a step has the step's value
  step-value : (op : StepOp) (x y z : Lit) → value_on N (record { op = op_of op; phase = false; fanins = operands_at places op x y z }) a ≡ recipes.apply op (lit_value (map (signal_value N a) places) x) (lit_value (map (signal_value N a) places) y) (lit_value (map (signal_value N a) places) z)
  step-value steps.And x y z = λ i. and_of (literal-value x i ∷ literal-value y i ∷ [])
  step-value steps.Xor x y z = λ i. xor_of (literal-value x i ∷ literal-value y i ∷ [])
  step-value steps.Maj x y z = (λ i. maj_of (literal-value x i ∷ literal-value y i ∷ literal-value z i ∷ [])) ∙ most-is (lit x) (lit y) (lit z)
    where
      lit : Lit → Bool
      lit l = lit_value (map (signal_value N a) places) l

-- ---- the steps one after another

-- no node goes as steps are laid
pub laid_steps-grows : (kind : Kind) (ss : List Step) (N : NetworkValue) (places : List Signal) → live_count N ≤ live_count (laid_steps kind ss N places).network
unfolding laid_steps
laid_steps-grows kind [] N places = omega arith
laid_steps-grows kind (s ∷ ss) N places =
    let p : Placed = placed kind N (step_gate places s) in
    let once = placed-grows kind N (step_gate places s) in
    let rest = laid_steps-grows kind ss p.network (places ++ p.signal ∷ []) in
    omega arith

-- what laying leaves: a network that a store can keep, which extends the one before, and live places of these values
pub record AllStand (N : NetworkValue) (values : (ℕ → Bool) → List Bool) (l : Laid) : Type 0 where
  pub stored : IsStored l.network
  pub extends : Extends N l.network
  pub live : AreLive l.network (nodes_read l.places)
  pub valued : (a : ℕ → Bool) → map (signal_value l.network a) l.places ≡ values a

pub live-one_more : (N : NetworkValue) (places : List Signal) (s : Signal) → AreLive N (nodes_read places) → IsLive N s.node.0 → AreLive N (nodes_read (places ++ s ∷ []))
live-one_more N [] s live here m (inl e) = subst (IsLive N) (sym e) here
live-one_more N [] s live here m (inr i) = absurd i
live-one_more N (p ∷ ps) s live here m (inl e) = live m (inl e)
live-one_more N (p ∷ ps) s live here m (inr i) = live-one_more N ps s (λ n j. live n (inr j)) here m i

-- the first of native steps is native, and so are the rest
pub first-native : (kind : Kind) (s : Step) (ss : List Step) → AllNative kind (s ∷ ss) → is_native kind (op_of s.op) ≡ true
first-native kind s ss h = h 0 s (omega arith)

pub rest-native : (kind : Kind) (s : Step) (ss : List Step) → AllNative kind (s ∷ ss) → AllNative kind ss
rest-native kind s ss h k d lt = h (suc k) d (omega arith)

module _ (kind : Kind) where
  -- native steps keep hashing
  pub strashed-laid_steps : (ss : List Step) (N : NetworkValue) (places : List Signal) → IsStrashed kind N → AllNative kind ss → IsStrashed kind (laid_steps kind ss N places).network
  unfolding laid_steps
  strashed-laid_steps [] N places h native = h
  strashed-laid_steps (s ∷ ss) N places h native =
      let p : Placed = placed kind N (step_gate places s) in
      let once = strashed-placed kind N h (step_gate places s) (step-native kind places s.op s.a s.b s.c (first-native kind s ss native)) in
      strashed-laid_steps ss p.network (places ++ p.signal ∷ []) once (rest-native kind s ss native)

  -- native steps on live places give the values that the recipe's steps give, and the rest keeps its values
  pub laid_steps-stand : (ss : List Step) (N : NetworkValue) (places : List Signal) → IsStored N → AreLive N (nodes_read places) → AllNative kind ss → live_count (laid_steps kind ss N places).network ≤ NUMBERS → AllStand N (λ a. run ss (map (signal_value N a) places)) (laid_steps kind ss N places)
  unfolding laid_steps
  laid_steps-stand [] N places stored live native few = record { stored = stored; extends = extends-self N; live = live; valued = λ a. refl }
  laid_steps-stand (s ∷ ss) N places stored live native few =
      let p : Placed = placed kind N (step_gate places s) in
      let more = laid_steps-grows kind ss p.network (places ++ p.signal ∷ []) in
      let h = placed-stands kind N (step_gate places s) stored (step-native kind places s.op s.a s.b s.c (first-native kind s ss native)) (operands-live N places stored.whole live s.op s.a s.b s.c) (omega arith) in
      let rest = laid_steps-stand ss p.network (places ++ p.signal ∷ []) h.stored (live-one_more p.network places p.signal (extends-all_live N p.network h.extends (nodes_read places) live) h.live) (rest-native kind s ss native) few in
      record {
        stored = rest.stored;
        extends = extends-twice N p.network (laid_steps kind ss p.network (places ++ p.signal ∷ [])).network h.extends rest.extends;
        live = rest.live;
        valued = λ a. rest.valued a ∙ ap (run ss) (
            map-append (signal_value p.network a) places (p.signal ∷ [])
            ∙ (λ i. extends-signals N p.network h.extends a places live i ++ (h.valued a ∙ step-value N places a (value-first N a stored.dag.acyclic stored.whole) s.op s.a s.b s.c) i ∷ [])
            );
      }

-- ---- a recipe

pub laid-grows : (kind : Kind) (N : NetworkValue) (r : RecipeValue) (leaves : List Signal) → live_count N ≤ live_count (laid kind N r leaves).network
laid-grows kind N r leaves = laid_steps-grows kind r.steps N (constant false ∷ leaves)

module _ (kind : Kind) where
  -- a recipe of native steps keeps hashing
  pub strashed-laid : (N : NetworkValue) (r : RecipeValue) (leaves : List Signal) → IsStrashed kind N → AllNative kind r.steps → IsStrashed kind (laid kind N r leaves).network
  strashed-laid N r leaves h native = strashed-laid_steps kind r.steps N (constant false ∷ leaves) h native

  -- a recipe of native steps on live leaves: the signal has the value of its root, and the rest keeps its values
  pub laid-stands : (N : NetworkValue) (r : RecipeValue) (leaves : List Signal) → IsStored N → AreLive N (nodes_read leaves) → AllNative kind r.steps → live_count (laid kind N r leaves).network ≤ NUMBERS → Stands N (λ a. lit_value (run r.steps (false ∷ map (signal_value N a) leaves)) r.root) (laid kind N r leaves)
  laid-stands N r leaves stored live native few =
      let l : Laid = laid_steps kind r.steps N (constant false ∷ leaves) in
      let h = laid_steps-stand kind r.steps N (constant false ∷ leaves) stored places-live native few in
      record {
        stored = h.stored;
        extends = h.extends;
        live = literal-live l.network l.places h.stored.whole h.live r.root;
        valued = λ a.
            literal-value l.network l.places a (value-first l.network a h.stored.dag.acyclic h.stored.whole) r.root
            ∙ ap (λ vs. lit_value vs r.root) (h.valued a)
            ∙ ap (λ v. lit_value (run r.steps (v ∷ map (signal_value N a) leaves)) r.root) (value-first N a stored.dag.acyclic stored.whole);
      }
    where
      places-live : AreLive N (nodes_read (constant false ∷ leaves))
      places-live m (inl e) = subst (IsLive N) (sym e) (first-live N stored.whole)
      places-live m (inr i) = live m i

-- ---- an operation

pub by_plan-grows : (kind : Kind) (N : NetworkValue) (op : Op) (operands : List Signal) (p : Plan) → live_count N ≤ live_count (by_plan kind N op operands p).network
by_plan-grows kind N op operands Native = placed-grows kind N (record { op = op; phase = false; fanins = operands })
by_plan-grows kind N op operands (Steps r) = laid-grows kind N r operands

-- no node goes as an operation is made
pub made-grows : (kind : Kind) (N : NetworkValue) (op : Op) (operands : List Signal) → live_count N ≤ live_count (made kind N op operands).network
unfolding made
made-grows kind N op operands = by_plan-grows kind N op operands (plan_of kind op (length operands))

-- the value of an operation on operands of a network
abbrev pub operation_on : NetworkValue → Op → List Signal → (ℕ → Bool) → Bool
operation_on N op operands a = operate op (map (signal_value N a) operands)

module _ (kind : Kind) (N : NetworkValue) (op : Op) (operands : List Signal) (takes : Takes op (length operands)) (fits : FitsWord op) where
  -- by the plan for a test whether the operation is native
  abbrev by_test : Bool → Placed
  by_test b = by_plan kind N op operands (cond b Native (Steps (native_recipe kind (recipe_of op (length operands)))))

  strashed-by_test : (b : Bool) → is_native kind op ≡ b → IsStrashed kind N → IsStrashed kind (by_test b).network
  strashed-by_test true is h = strashed-placed kind N h (record { op = op; phase = false; fanins = operands }) (record { has = is; takes = takes; fits = fits })
  strashed-by_test false is h = strashed-laid kind N (native_recipe kind (recipe_of op (length operands))) operands h (native_steps kind (recipe_of op (length operands)))

  stands-by_test : (b : Bool) → is_native kind op ≡ b → IsStored N → AreLive N (nodes_read operands) → live_count (by_test b).network ≤ NUMBERS → Stands N (operation_on N op operands) (by_test b)
  stands-by_test true is stored live few = placed-stands kind N (record { op = op; phase = false; fanins = operands }) stored (record { has = is; takes = takes; fits = fits }) live few
  stands-by_test false is stored live few =
      let r : RecipeValue = native_recipe kind (recipe_of op (length operands)) in
      stands-as N (λ a. lit_value (run r.steps (false ∷ map (signal_value N a) operands)) r.root) (operation_on N op operands) (laid kind N r operands) computed
      (laid-stands kind N r operands stored live (native_steps kind (recipe_of op (length operands))) few)
    where
      computed : (a : ℕ → Bool) → lit_value (run (native_recipe kind (recipe_of op (length operands))).steps (false ∷ map (signal_value N a) operands)) (native_recipe kind (recipe_of op (length operands))).root ≡ operation_on N op operands a
      computed a =
          let long : length (map (signal_value N a) operands) ≡ length operands = length-map operands (signal_value N a) in
          recipe-computes op (native_recipe kind (recipe_of op (length operands))) (map (signal_value N a) operands)
          (plan_leaves kind op (length operands) takes ∙ sym long)
          (plan_computes kind op (length operands) takes ∙ ap (op_rows op) (sym long))

  -- an operation that is made keeps hashing
  pub strashed-made : IsStrashed kind N → IsStrashed kind (made kind N op operands).network
  unfolding made
  strashed-made = strashed-by_test (is_native kind op) refl

  -- an operation is made on live operands: the signal has its value, and the rest keeps its values
  pub made-stands : IsStored N → AreLive N (nodes_read operands) → live_count (made kind N op operands).network ≤ NUMBERS → Stands N (operation_on N op operands) (made kind N op operands)
  unfolding made
  made-stands = stands-by_test (is_native kind op) refl

-- ---- the steps one by one

pub step-laid : (kind : Kind) (s : Step) (ss : List Step) (N : NetworkValue) (places : List Signal) (p : Placed) → placed kind N (step_gate places s) ≡ p → laid_steps kind (s ∷ ss) N places ≡ laid_steps kind ss p.network (places ++ p.signal ∷ [])
unfolding laid_steps
step-laid kind s ss N places p is = ap (λ (q : Placed). laid_steps kind ss q.network (places ++ q.signal ∷ [])) is

-- what is placed for the first step isn't more than what is laid
pub step-within : (kind : Kind) (s : Step) (ss : List Step) (N : NetworkValue) (places : List Signal) → live_count (placed kind N (step_gate places s)).network ≤ live_count (laid_steps kind (s ∷ ss) N places).network
unfolding laid_steps
step-within kind s ss N places =
    let p : Placed = placed kind N (step_gate places s) in
    laid_steps-grows kind ss p.network (places ++ p.signal ∷ [])

-- the steps from i on, where step i is s
pub steps-from : (ss : List Step) (i : ℕ) (s : Step) → slice_get ss i ≡ Some s → drop i ss ≡ s ∷ drop (i + 1) ss
steps-from ss i s is =
    let more : suc i ≡ i + 1 = omega arith in
    drop-cons ss i s (slice_get_within ss i s is) ∙ ap (λ x. x ∷ drop (suc i) ss) (get_or_from_slice_get ss i s s is) ∙ ap (λ j. s ∷ drop j ss) more

-- no steps are left
pub laid_none : (kind : Kind) (ss : List Step) (i : ℕ) (N : NetworkValue) (places : List Signal) → length ss ≤ i → laid_steps kind (drop i ss) N places ≡ record { network = N; places = places }
unfolding laid_steps
laid_none kind ss i N places past = ap (λ rest. laid_steps kind rest N places) (drop_all i ss past)

pub laid_done : (kind : Kind) (N M : NetworkValue) (r : RecipeValue) (leaves places : List Signal) → laid_steps kind r.steps N (constant false ∷ leaves) ≡ record { network = M; places = places } → laid kind N r leaves ≡ record { network = M; signal = signal_at places r.root }
laid_done kind N M r leaves places is = ap (λ (l : Laid). record { network = l.network; signal = signal_at l.places r.root }) is

-- an operation by its plan
pub made_by : (kind : Kind) (N : NetworkValue) (op : Op) (operands : List Signal) (p : Plan) → p ≡ plan_of kind op (length operands) → made kind N op operands ≡ by_plan kind N op operands p
unfolding made
made_by kind N op operands p is = ap (by_plan kind N op operands) (sym is)
