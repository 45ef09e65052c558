use Rattle.std.proofs.Common.{◌≡◌, ◌∙◌, ℕ, List, ap, subst, sym, rules}
use Rattle.lnet_aiger.specs.Numberings.{place_in}
use Rattle.lnet_aiger.specs.Texts.{binary_by}
use Rattle.lnet_aiger.specs.Written.{MeansSame}
use Rattle.lnet_aiger.proofs.WritingSteps.{place_in-variable_of}
use Rattle.lnet_aiger.proofs.TextMeans.{binary_means}
use Rattle.lnet_aiger.proofs.writing.write_binary.Goals as goal

text : goal.returns-clause-text
text c =
    let e : c.put_tail.new.out.items ≡ binary_by (place_in c.in_ok-variables.variables) c.args.circuit.now = search rules in
    e ∙ ap (λ (v : ℕ → ℕ). binary_by v c.args.circuit.now) (place_in-variable_of c.in_ok-variables.variables c.args.circuit.now c.in_ok-variables.ensures.places)

pub returns-clause-text : goal.returns-clause-text
returns-clause-text c = text c

pub returns-clause-means : goal.returns-clause-means
returns-clause-means c =
    let names = c.in_ok-put_tail.ensures in
    subst (λ (bytes : List ℕ). MeansSame bytes c.args.circuit.now) (sym (text c)) (binary_means c.args.circuit.now c.in_ok-variables.ensures.circuit c.requires names.inputs names.outputs)
