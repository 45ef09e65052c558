-- Texts that are written piece by piece.
use Rattle.std.proofs.Common.{◌≡◌, ℕ, List, [], ◌∷◌, ◌++◌, sym, ap, ◌∙◌, append_assoc, ◌⊎◌, inl, inr, refl}
use Rattle.std.proofs.lemmas.List.{append-nil}
use Rattle.lnet_edge.specs.declared.circuit.OutputPort.{OutputPort}
use Rattle.lnet_edge.specs.declared.circuit.WireRef.{WireRef}
use Rattle.lnet_benchwriter.specs.Texts.{output_lines}

no_outputs : (line : List ℕ → WireRef → List ℕ) (names : List (List ℕ)) (ps : List OutputPort) → (names ≡ []) ⊎ (ps ≡ []) → output_lines line names ps ≡ []
no_outputs line [] ps none = refl
no_outputs line (n ∷ ns) [] none = refl
no_outputs line (n ∷ ns) (p ∷ ps) (inl e) = absurd cc
no_outputs line (n ∷ ns) (p ∷ ps) (inr e) = absurd cc

-- no name or no output is left
pub outputs-end : (line : List ℕ → WireRef → List ℕ) (names : List (List ℕ)) (ps : List OutputPort) (text total : List ℕ) → (names ≡ []) ⊎ (ps ≡ []) → text ++ output_lines line names ps ≡ total → text ≡ total
outputs-end line names ps text total none so_far = sym (append-nil text) ∙ ap (λ t. text ++ t) (sym (no_outputs line names ps none)) ∙ so_far

-- three pieces, one behind the other
pub three : (first second third start a b c : List ℕ) → first ≡ start ++ a → second ≡ first ++ b → third ≡ second ++ c → third ≡ start ++ (a ++ (b ++ c))
three first second third start a b c one two last =
    last ∙ ap (λ (t : List ℕ). t ++ c) two ∙ append_assoc first b c ∙ ap (λ (t : List ℕ). t ++ (b ++ c)) one ∙ append_assoc start a (b ++ c)
