-- What the network and the map of signals hold after a port, an equation, and all of them.
use Rattle.std.proofs.Common.{◌≡◌, ℕ, zero, suc, ◌+◌, ◌<◌, ◌≤◌, ◌==◌, false, List, [], ◌∷◌, map, length, get_or, drop, slice_get, Option, None, Some, IfSome, IsSome, nat_eq, refl, sym, ap, subst, ◌∙◌, inl, inr, arith, length-append}
use Rattle.std.specs.Prelude.{if◌then◌else◌}
use Rattle.std.specs.Option.{unwrap_or}
use Rattle.std.specs.HashMap.{get, Updates}
use Rattle.std.proofs.Math.Seq.{drop-cons}
use Rattle.std.proofs.lemmas.List.{drop_all}
use Rattle.std.proofs.lemmas.Bool.Decides.{eqb_tells}
use Rattle.lnet_gates.specs.declared.signal.Signal.{Signal}
use Rattle.lnet_gates.specs.declared.gate.Kind.{Kind}
use Rattle.lnet_gates.specs.Operands.{constant, flipped}
use Rattle.lnet_model.specs.Networks.{NetworkValue, Input, IsLive, entry_at, live_count}
use Rattle.lnet_model.specs.Along.{IsWhole, nodes_read}
use Rattle.lnet_model.specs.Changes.{AreLive, with_entry}
use Rattle.lnet_model.proofs.Changes.{with_entry-here}
use Rattle.lnet_model.proofs.Stored.{with-live}
use Rattle.lnet_store.specs.StoreValues.{with_input, with_new_output}
use Rattle.lnet_model.specs.Dags.{NUMBERS}
use Rattle.lnet_hashed.specs.Strashed.{Placed, least_free}
use Rattle.lnet_hashed.proofs.Adding.{count-added, least-free-is}
use Rattle.lnet_hashed.proofs.Places.{first-live}
use Rattle.lnet_edge.specs.declared.circuit.Equation.{Equation}
use Rattle.lnet_edge.specs.declared.circuit.WireRef.{WireRef}
use Rattle.lnet_edge.specs.declared.circuit.InputPort.{InputPort}
use Rattle.lnet_edge.specs.declared.circuit.OutputPort.{OutputPort}
use Rattle.lnet_edge.specs.CircuitLists.{equation_view, equation_views}
use Rattle.lnet_edge.specs.Circuits.{EquationValue}
use Rattle.lnet_edge.specs.Wires.{HasArity, HasArities}
use Rattle.lnet_store.proofs.CountLemmas.{get-default}
use Rattle.lnet_rules.specs.Live.{KeepsLive}
use Rattle.lnet_rules.specs.Rules.{rule_built, FitsTable}
use Rattle.lnet_rules.proofs.RowLemmas.{rule-grows}
use Rattle.lnet_build.specs.Built.{Building, known, read_as, with_port, with_ports, with_equation, with_found, with_places, with_outputs}
use Rattle.lnet_build.specs.Signals.{SignalMap, read_in, AreSignalsLive, FitsPlace, Stand}

-- ---- lists

pub drop-item : {A : Type 0} (xs : List A) (i : ℕ) (x : A) → i < length xs → x ≡ get_or xs i x → drop i xs ≡ x ∷ drop (i + 1) xs
drop-item xs i x low is =
    let more : suc i ≡ i + 1 = omega arith in
    drop-cons xs i x low ∙ ap (λ y. y ∷ drop (suc i) xs) (sym is) ∙ ap (λ j. x ∷ drop j xs) more

pub view-get : (es : List Equation) (k : ℕ) (e : Equation) → k < length es → e ≡ get_or es k e → slice_get (equation_views es) k ≡ Some (equation_view e)
view-get [] k e low is = absurd (omega arith)
view-get (f ∷ es) zero e low is = ap (λ x. Some (equation_view x)) (sym is)
view-get (f ∷ es) (suc k) e low is = view-get es k e (omega arith) is

map-same : {A B : Type 0} (f h : A → B) (xs : List A) → ((x : A) → f x ≡ h x) → map f xs ≡ map h xs
map-same f h [] same = refl
map-same f h (x ∷ xs) same = λ i. same x i ∷ map-same f h xs same i

-- ---- live signals

or-false-live : (N : NetworkValue) (o : Option Signal) → IsLive N 0 → IfSome o (λ (s : Signal). IsLive N s.node.0) → IsLive N (unwrap_or o (constant false)).node.0
or-false-live N None first live = first
or-false-live N (Some s) first live = live

pub read-live : (N : NetworkValue) (m : SignalMap) (r : WireRef) → IsWhole N → AreSignalsLive N m → IsLive N (read_in m r).node.0
read-live N m r whole live = or-false-live N (get nat_eq m r.wire.0) (first-live N whole) (live r.wire.0)

pub operands-live : (N : NetworkValue) (m : SignalMap) (rs : List WireRef) → IsWhole N → AreSignalsLive N m → AreLive N (nodes_read (map (read_in m) rs))
operands-live N m [] whole live n i = absurd i
operands-live N m (r ∷ rs) whole live n (inl e) = subst (IsLive N) (sym e) (read-live N m r whole live)
operands-live N m (r ∷ rs) whole live n (inr i) = operands-live N m rs whole live n i

some-live : (N M : NetworkValue) (o : Option Signal) → KeepsLive N M → IfSome o (λ (s : Signal). IsLive N s.node.0) → IfSome o (λ (s : Signal). IsLive M s.node.0)
some-live N M None keeps h = tt
some-live N M (Some s) keeps h = keeps s.node.0 h

-- a signal more
pub signals-live-next : (N M : NetworkValue) (m n : SignalMap) (w : ℕ) (s : Signal) → KeepsLive N M → IsLive M s.node.0 → AreSignalsLive N m → Updates nat_eq m n w (Some s) → AreSignalsLive M n
signals-live-next N M m n w s keeps here live up q =
    subst (λ o. IfSome o (λ (x : Signal). IsLive M x.node.0)) (sym (up.0 q)) (elim (eqb_tells w q) as (λ _. IfSome (if w == q then Some s else get nat_eq m q) (λ (x : Signal). IsLive M x.node.0)) [
      | inl p ↦ subst (λ b. IfSome (if b then Some s else get nat_eq m q) (λ (x : Signal). IsLive M x.node.0)) (sym p.0) here
      | inr p ↦ subst (λ b. IfSome (if b then Some s else get nat_eq m q) (λ (x : Signal). IsLive M x.node.0)) (sym p.0) (some-live N M (get nat_eq m q) keeps (live q))
    ])

-- ---- what stands

pub stand-next : (N M : NetworkValue) (m n : SignalMap) (b x : Building) (w : ℕ) (s : Signal) → Stand N m b → Updates nat_eq m n w (Some s) → M ≡ x.network → x.signals ≡ (w, s) ∷ b.signals → Stand M n x
stand-next N M m n b x w s h up network signals = record {
  network = network;
  signals = λ q. up.0 q ∙ ap (λ o. if w == q then Some s else o) (h.signals q) ∙ sym (ap (λ ks. known ks q) signals);
}

pub read-same : (N : NetworkValue) (m : SignalMap) (b : Building) → Stand N m b → (r : WireRef) → read_in m r ≡ read_as b.signals r
read-same N m b h r = ap (λ o. flipped r.complement (unwrap_or o (constant false))) (h.signals r.wire.0)

pub reads-same : (N : NetworkValue) (m : SignalMap) (b : Building) → Stand N m b → (rs : List WireRef) → map (read_in m) rs ≡ map (read_as b.signals) rs
reads-same N m b h rs = map-same (read_in m) (read_as b.signals) rs (read-same N m b h)

module _ (kind : Kind) where
  rule-same : (N : NetworkValue) (m : SignalMap) (e : EquationValue) (ss : List Signal) → ss ≡ map (read_in m) e.operands → (b : Building) → Stand N m b → rule_built kind N e.rule ss ≡ rule_built kind b.network e.rule (map (read_as b.signals) e.operands)
  rule-same N m e ss operands b h =
      ap (λ (M : NetworkValue). rule_built kind M e.rule ss) h.network
      ∙ ap (rule_built kind b.network e.rule) (operands ∙ reads-same N m b h e.operands)

  -- an equation is built
  pub equation-built : (N M : NetworkValue) (m n : SignalMap) (e : EquationValue) (ss : List Signal) (s : Signal) → ss ≡ map (read_in m) e.operands → rule_built kind N e.rule ss ≡ record { network = M; signal = s } → Updates nat_eq m n e.target (Some s) → (b : Building) → Stand N m b → Stand M n (with_equation kind b e)
  equation-built N M m n e ss s operands built up b h =
      let same = sym (rule-same N m e ss operands b h) ∙ built in
      stand-next N M m n b (with_equation kind b e) e.target s h up (sym (ap (λ (p : Placed). p.network) same)) (ap (λ (p : Placed). (e.target, p.signal) ∷ b.signals) same)

  found-grows : (b : Building) (o : Option EquationValue) → live_count b.network ≤ live_count (with_found kind b o).network
  found-grows b None = let n = live_count b.network in omega arith
  found-grows b (Some e) = rule-grows kind b.network e.rule (map (read_as b.signals) e.operands)

  pub places-grows : (es : List EquationValue) (b : Building) (ks : List ℕ) → live_count b.network ≤ live_count (with_places kind es b ks).network
  unfolding with_places
  places-grows es b [] = let n = live_count b.network in omega arith
  places-grows es b (k ∷ ks) =
      let a = found-grows b (slice_get es k) in
      let r = places-grows es (with_found kind b (slice_get es k)) ks in
      omega arith

  -- the places from i on
  module _ (es : List Equation) (order : List ℕ) (i : ℕ) (low : i < length order) (e : Equation) (here : get_or order i 0 < length es) (is : e ≡ get_or es (get_or order i 0) e) (x all : Building) (so_far : with_places kind (equation_views es) x (drop i order) ≡ all) where
    pub places-next : with_places kind (equation_views es) (with_equation kind x (equation_view e)) (drop (i + 1) order) ≡ all
    unfolding with_places
    places-next =
        let more : suc i ≡ i + 1 = omega arith in
        sym (ap (with_places kind (equation_views es) x) (drop-cons order i 0 low ∙ ap (λ j. get_or order i 0 ∷ drop j order) more)
        ∙ ap (λ o. with_places kind (equation_views es) (with_found kind x o) (drop (i + 1) order)) (view-get es (get_or order i 0) e here is))
        ∙ so_far

    pub places-full : NUMBERS < live_count (with_equation kind x (equation_view e)).network → NUMBERS < live_count all.network
    places-full past =
        let more = places-grows (equation_views es) (with_equation kind x (equation_view e)) (drop (i + 1) order) in
        let same = ap (λ (b : Building). live_count b.network) places-next in
        omega arith

  pub places-end : (es : List EquationValue) (order : List ℕ) (i : ℕ) → length order ≤ i → (x all : Building) → with_places kind es x (drop i order) ≡ all → all ≡ x
  unfolding with_places
  places-end es order i past x all so_far = sym so_far ∙ ap (with_places kind es x) (drop_all i order past)

-- ---- ports

pub ports-next : (ports : List InputPort) (i : ℕ) (p : InputPort) → i < length ports → p ≡ get_or ports i p → (x all : Building) → with_ports x (drop i ports) ≡ all → with_ports (with_port x p) (drop (i + 1) ports) ≡ all
ports-next ports i p low is x all so_far = sym (ap (with_ports x) (drop-item ports i p low is)) ∙ so_far

pub ports-end : (ports : List InputPort) (i : ℕ) → length ports ≤ i → (x all : Building) → with_ports x (drop i ports) ≡ all → all ≡ x
ports-end ports i past x all so_far = sym so_far ∙ ap (with_ports x) (drop_all i ports past)

-- ---- an input

pub input-here : (N : NetworkValue) (n : ℕ) → IsLive (with_input N n) n
unfolding with_input entry_at with_entry
input-here N n = subst IsSome (sym (with_entry-here N n (Input (length N.inputs)))) refl

pub input-keeps : (N : NetworkValue) (n : ℕ) → KeepsLive N (with_input N n)
unfolding with_input entry_at with_entry
input-keeps N n m h = with-live N n (Input (length N.inputs)) m h

pub entered-count : (N M : NetworkValue) → M ≡ with_input N (least_free N) → live_count M ≡ live_count N + 1
unfolding live_count with_input entry_at with_entry
entered-count N M is = ap live_count is ∙ count-added N (least_free N) (Input (length N.inputs)) (least-free-is N).free

pub entered-live : (N M : NetworkValue) (m n : SignalMap) (w : ℕ) (s : Signal) → M ≡ with_input N (least_free N) → s ≡ record { node = record { 0 = least_free N }; complement = false } → AreSignalsLive N m → Updates nat_eq m n w (Some s) → AreSignalsLive M n
entered-live N M m n w s network signal live up =
    signals-live-next N M m n w s
    (λ k h. subst (λ X. IsLive X k) (sym network) (input-keeps N (least_free N) k h))
    (subst (λ X. IsLive X s.node.0) (sym network) (subst (IsLive (with_input N (least_free N))) (sym (ap (λ (x : Signal). x.node.0) signal)) (input-here N (least_free N))))
    live up

-- ---- an output

outputs-signals : (N : NetworkValue) (s : Signal) (m : SignalMap) → AreSignalsLive N m → AreSignalsLive (with_new_output N s) m
unfolding with_new_output entry_at
outputs-signals N s m live = live

pub output-next : (N M : NetworkValue) (m : SignalMap) (s : Signal) → M ≡ with_new_output N s → AreSignalsLive N m → AreSignalsLive M m
output-next N M m s is live = subst (λ X. AreSignalsLive X m) (sym is) (outputs-signals N s m live)

pub output-count : (N M : NetworkValue) (s : Signal) → M ≡ with_new_output N s → length M.outputs ≡ length N.outputs + 1
unfolding with_new_output
output-count N M s is = ap (λ (X : NetworkValue). length X.outputs) is ∙ length-append N.outputs (s ∷ [])

pub outputs-next : (m : SignalMap) (ports : List OutputPort) (i : ℕ) (p : OutputPort) → i < length ports → p ≡ get_or ports i p → (N M all : NetworkValue) → M ≡ with_new_output N (read_in m p.source) → with_outputs N (map (λ (q : OutputPort). read_in m q.source) (drop i ports)) ≡ all → with_outputs M (map (λ (q : OutputPort). read_in m q.source) (drop (i + 1) ports)) ≡ all
outputs-next m ports i p low is N M all next so_far =
    ap (λ X. with_outputs X (map (λ (q : OutputPort). read_in m q.source) (drop (i + 1) ports))) next
    ∙ sym (ap (λ ps. with_outputs N (map (λ (q : OutputPort). read_in m q.source) ps)) (drop-item ports i p low is))
    ∙ so_far

pub outputs-end : (m : SignalMap) (ports : List OutputPort) (i : ℕ) → length ports ≤ i → (N all : NetworkValue) → with_outputs N (map (λ (q : OutputPort). read_in m q.source) (drop i ports)) ≡ all → N ≡ all
outputs-end m ports i past N all so_far = sym (ap (λ ps. with_outputs N (map (λ (q : OutputPort). read_in m q.source) ps)) (drop_all i ports past)) ∙ so_far

-- ---- an equation by its place

pub arity-at : (es : List Equation) (k : ℕ) (e : Equation) → k < length es → e ≡ get_or es k e → HasArities (equation_views es) → HasArity e.rule (length e.operands.items)
arity-at [] k e low is all = absurd (omega arith)
arity-at (f ∷ es) zero e low is all = subst (λ (x : Equation). HasArity x.rule (length x.operands.items)) (sym is) (all 0 (equation_view f) (omega arith))
arity-at (f ∷ es) (suc k) e low is all = arity-at es k e (omega arith) is (λ j d h. all (suc j) d (omega arith))

pub words-next : (es : List Equation) (order : List ℕ) (i : ℕ) (e : Equation) → get_or order i 0 < length es → e ≡ get_or es (get_or order i 0) e → i < length order → ((j d : ℕ) → j < i → FitsPlace (equation_views es) (get_or order j d)) → FitsTable e.rule → (j d : ℕ) → j < i + 1 → FitsPlace (equation_views es) (get_or order j d)
words-next es order i e here is low old word j d less f at = elim (eqb_tells j i) as (λ _. FitsTable f.rule) [
  | inl p ↦
      let place : get_or order j d ≡ get_or order i 0 = ap (λ k. get_or order k d) p.1 ∙ get-default order i d 0 low in
      let same : Some (equation_view e) ≡ Some f = sym (view-get es (get_or order i 0) e here is) ∙ sym (ap (slice_get (equation_views es)) place) ∙ at in
      let is : equation_view e ≡ f = cc in
      subst (λ (x : EquationValue). FitsTable x.rule) is word
  | inr p ↦ old j d (let ne = p.1 in omega arith) f at
]
