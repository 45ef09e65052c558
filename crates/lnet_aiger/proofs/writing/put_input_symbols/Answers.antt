use Rattle.std.proofs.Common.{◌++◌, ◌+◌, List, Option, string_bytes, take, sym, ap, ◌∙◌, ℕ}
use Rattle.std.specs.Prelude.{IfSome}
use Rattle.std.proofs.lemmas.List.{append-nil}
use Rattle.std.proofs.lemmas.List.Elements.{All-nil}
use Rattle.lnet_edge.specs.Names.{IsName}
use Rattle.lnet_aiger.specs.Texts.{symbol_text, symbols_text}
use Rattle.lnet_edge.specs.Shown.{input_names}
use Rattle.lnet_aiger.proofs.WritingSteps.{input_names_take, symbols_text-nil, input_symbols, joined}
use Rattle.lnet_aiger.proofs.writing.put_input_symbols.Goals as goal

pub loop-place-init : goal.loop-place-init
loop-place-init c = record { text = sym (ap (λ (t : List ℕ). string_bytes c.args.out.now ++ t) (symbols_text-nil 105 0) ∙ append-nil (string_bytes c.args.out.now)); names = All-nil (λ (n : Option (List ℕ)). IfSome n IsName) }

pub loop-place-preserved : goal.loop-place-preserved
loop-place-preserved c =
    let p = c.index-ports-place in
    let ps = c.args.ports.now in
    let i = c.loop-place.place in
    record { text = joined (string_bytes c.put_input_symbol.new.out) (string_bytes c.loop-place.out) (symbol_text 105 i p.result.name) (string_bytes c.args.out.now) (symbols_text 105 0 (input_names (take i ps))) (symbols_text 105 0 (input_names (take (i + 1) ps))) c.in_ok-put_input_symbol.ensures.text c.loop-place.invariant.text (input_symbols ps i p.result c.loop-place-test.true p.is); names = input_names_take ps i p.result c.loop-place-test.true p.is c.in_ok-put_input_symbol.ensures.name c.loop-place.invariant.names }
