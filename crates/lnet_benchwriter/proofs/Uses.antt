-- Uses of wires, item by item.
use Rattle.std.proofs.Common.{◌≡◌, ℕ, ◌+◌, ◌<◌, List, [], ◌∷◌, ◌++◌, length, take, get_or, sym, ap, ◌∙◌, append_assoc}
use Rattle.std.proofs.lemmas.List.{append-nil, take_more, map_push}
use Rattle.std.proofs.lemmas.Grind.{flat_map-append}
use Rattle.lnet_edge.specs.declared.circuit.WireRef.{WireRef}
use Rattle.lnet_edge.specs.declared.circuit.Equation.{Equation}
use Rattle.lnet_edge.specs.declared.circuit.OutputPort.{OutputPort}
use Rattle.lnet_edge.specs.Circuits.{EquationValue}
use Rattle.lnet_edge.specs.CircuitLists.{equation_view, equation_views}
use Rattle.lnet_benchwriter.specs.Nodes.{output_uses, equation_uses}

-- an item more
pub pushed : {A : Type 0} (front xs : List A) (i : ℕ) (d : A) → i < length xs → (front ++ take i xs) ++ get_or xs i d ∷ [] ≡ front ++ take (i + 1) xs
pushed front xs i d low = append_assoc front (take i xs) (get_or xs i d ∷ []) ∙ ap (λ (ys : List _). front ++ ys) (sym (take_more xs i d low))

-- an output more
pub pushed_output : (front : List WireRef) (ps : List OutputPort) (i : ℕ) (p : OutputPort) → i < length ps → p ≡ get_or ps i p → (front ++ output_uses (take i ps)) ++ p.source ∷ [] ≡ front ++ output_uses (take (i + 1) ps)
pushed_output front ps i p low is =
    let more : output_uses (take (i + 1) ps) ≡ output_uses (take i ps) ++ p.source ∷ [] = ap output_uses (take_more ps i p low ∙ ap (λ (q : OutputPort). take i ps ++ q ∷ []) (sym is)) ∙ map_push (λ (q : OutputPort). q.source) (take i ps) p in
    append_assoc front (output_uses (take i ps)) (p.source ∷ []) ∙ ap (λ (ys : List WireRef). front ++ ys) (sym more)

-- the operands of an equation more
pub pushed_operands : (front : List WireRef) (es : List Equation) (i : ℕ) (e : Equation) → i < length es → e ≡ get_or es i e → (front ++ equation_uses (equation_views (take i es))) ++ e.operands.items ≡ front ++ equation_uses (equation_views (take (i + 1) es))
pushed_operands front es i e low is =
    let views : equation_views (take (i + 1) es) ≡ equation_views (take i es) ++ equation_view e ∷ [] = ap equation_views (take_more es i e low ∙ ap (λ (f : Equation). take i es ++ f ∷ []) (sym is)) ∙ map_push equation_view (take i es) e in
    let more : equation_uses (equation_views (take (i + 1) es)) ≡ equation_uses (equation_views (take i es)) ++ e.operands.items =
    ap equation_uses views
    ∙ flat_map-append (λ (f : EquationValue). f.operands) (equation_views (take i es)) (equation_view e ∷ [])
    ∙ ap (λ (ys : List WireRef). equation_uses (equation_views (take i es)) ++ ys) (append-nil e.operands.items) in
    append_assoc front (equation_uses (equation_views (take i es))) e.operands.items ∙ ap (λ (ys : List WireRef). front ++ ys) (sym more)
