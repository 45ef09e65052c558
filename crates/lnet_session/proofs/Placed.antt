-- What a command that puts a network in place, and one that writes it, are found to have done.
use Rattle.std.proofs.Common.{◌≡◌, ℕ, ◌≤◌, Bool, List, length, Option, Some, Result, Ok, Err, refl, sym, ap, subst, ◌∙◌, arith}
use Rattle.std.specs.Prelude.{IfOk, OnOk, map}
use Rattle.lnet_gates.specs.declared.gate.Kind.{Kind}
use Rattle.lnet_model.specs.Networks.{NetworkValue}
use Rattle.lnet_model.specs.Values.{network_outputs}
use Rattle.lnet_edge.specs.Outside.{Contents, file_limit}
use Rattle.lnet_edge.specs.Circuits.{CircuitValue}
use Rattle.lnet_edge.specs.Values.{circuit_outputs}
use Rattle.lnet_edge.specs.Shown.{input_names, output_names}
use Rattle.lnet_naming.specs.Settling.{input_labels, output_labels}
use Rattle.lnet_build.specs.Built.{names_of}
use Rattle.lnet_export.specs.Exported.{exported}
use Rattle.lnet_names.specs.NameLists.{NamesValue}
use Rattle.lnet_script.specs.declared.command.ReadFormat.{ReadFormat}
use Rattle.lnet_script.specs.declared.command.WriteFormat.{WriteFormat}
use Rattle.lnet_script.specs.declared.command.WriteFormat.TheVariants as writes
use Rattle.lnet_replies.specs.declared.reply.Counts.{Counts}
use Rattle.lnet_replies.specs.declared.reply.Reply.{Reply}
use Rattle.lnet_replies.specs.declared.reply.Reply.TheVariants as reply
use Rattle.lnet_subscriptions.specs.Rolls.{all_shelved}
use Rattle.lnet_session.specs.declared.session.Stop.{Stop}
use Rattle.lnet_session.specs.States.{Held, State}
use Rattle.lnet_session.specs.Made.{IsMadeOf, counts_of}
use Rattle.lnet_session.specs.Formats.{HasGatesOf, IsTextOf, MeansIn, inputs_in, outputs_in, text_in}
use Rattle.lnet_session.specs.Effects.{AgreeOutputs, Converts, Generates, MeansHeld, Places, PutsInPlace, Reads, SaysCounts, Writes, held_inputs_in, held_outputs_in, source_of, with_content, written_text}

-- ---- a network put in place

module _ (old new : State) (kind : Kind) (c : CircuitValue) (N : NetworkValue) (names : NamesValue) (made : IsMadeOf kind c N) (is : names ≡ names_of c) (held : new.held ≡ Some (record { network = N; names = names })) (roll : new.roll ≡ all_shelved old.roll) where
  placed-one : (counts : Counts) → counts ≡ counts_of N → PutsInPlace kind c counts old new
  placed-one counts says = record {
    network = N;
    made = made;
    held = held ∙ ap (λ (ns : NamesValue). Some (record { network = N; names = ns })) is;
    roll = roll;
    counts_are = says;
  }

  placed : (answer : Reply) → SaysCounts N answer → Places old kind c answer new
  placed answer says = grind (arith, placed-one)

pub places : (r : Result Reply Stop) (old new : State) (kind : Kind) (c : CircuitValue) (N : NetworkValue) (names : NamesValue) → IsMadeOf kind c N → names ≡ names_of c → OnOk r (new.held ≡ Some (record { network = N; names = names })) → OnOk r (new.roll ≡ all_shelved old.roll) → IfOk r (SaysCounts N) → IfOk r (λ answer. Places old kind c answer new)
places (Err e) old new kind c N names made is held roll says = tt
places (Ok answer) old new kind c N names made is held roll says = placed old new kind c N names made is held roll answer says

-- ---- a network of a file

reads-one : (old new : State) (format : ReadFormat) (kind : Kind) (bytes : List ℕ) (c : CircuitValue) → length bytes ≤ file_limit → MeansIn format bytes c → (answer : Reply) → Places old kind c answer new → (source : Option CircuitValue) × Reads old format kind bytes answer source new
reads-one old new format kind bytes c short means answer p = (source_of c answer, grind arith)

pub reads : (r : Result Reply Stop) (old new : State) (format : ReadFormat) (kind : Kind) (bytes : List ℕ) (c : CircuitValue) → length bytes ≤ file_limit → MeansIn format bytes c → IfOk r (λ answer. Places old kind c answer new) → IfOk r (λ answer. (source : Option CircuitValue) × Reads old format kind bytes answer source new)
reads (Err e) old new format kind bytes c short means p = tt
reads (Ok answer) old new format kind bytes c short means p = reads-one old new format kind bytes c short means answer p

-- ---- a network of a generated circuit

pub generates : (r : Result Reply Stop) (old new : State) (kind : Kind) (c d : CircuitValue) → c ≡ d → IfOk r (λ answer. Places old kind c answer new) → IfOk r (λ answer. (source : Option CircuitValue) × Generates old kind d answer source new)
generates (Err e) old new kind c d is p = tt
generates (Ok answer) old new kind c d is p = (source_of d answer, (subst (λ (x : CircuitValue). Places old kind x answer new) is p, refl))

-- ---- a network of another kind

agree : (o n : Option Held) (h k : Held) → o ≡ Some h → n ≡ Some k → ((a : ℕ → Bool) → network_outputs k.network a ≡ network_outputs h.network a) → AgreeOutputs o n
agree o n h k is also same = subst (λ (o : Option Held). AgreeOutputs o n) (sym is) (subst (λ (n : Option Held). AgreeOutputs (Some h) n) (sym also) same)

module _ (old new : State) (h : Held) (kind : Kind) (c : CircuitValue) (held : old.held ≡ Some h) (is : c ≡ exported h.network h.names) (outputs : (a : ℕ → Bool) → circuit_outputs c a ≡ network_outputs h.network a) where
  converts-one : (answer : Reply) → Places old kind c answer new → Converts old (Some h) kind answer new
  converts-one answer p = grind (arith, agree)

pub converts : (r : Result Reply Stop) (old new : State) (h : Held) (kind : Kind) (c : CircuitValue) → old.held ≡ Some h → c ≡ exported h.network h.names → ((a : ℕ → Bool) → circuit_outputs c a ≡ network_outputs h.network a) → IfOk r (λ answer. Places old kind c answer new) → IfOk r (λ answer. Converts old old.held kind answer new)
converts (Err e) old new h kind c held is outputs p = tt
converts (Ok answer) old new h kind c held is outputs p = subst (λ (o : Option Held). Converts old o kind answer new) (sym held) (converts-one old new h kind c held is outputs answer p)

-- ---- a network written

inputs-named : (format : WriteFormat) (h : Held) (c : CircuitValue) → c ≡ exported h.network h.names → input_names c.inputs ≡ h.names.inputs → inputs_in format c ≡ held_inputs_in format h
inputs-named writes.Aag h c exports ins = ins
inputs-named writes.Aig h c exports ins = ins
inputs-named writes.Blif h c exports ins = ap (λ (d : CircuitValue). map Some (input_labels d.inputs)) exports
inputs-named writes.Bench h c exports ins = ap (λ (d : CircuitValue). map Some (input_labels d.inputs)) exports

outputs-named : (format : WriteFormat) (h : Held) (c : CircuitValue) → c ≡ exported h.network h.names → output_names c.outputs ≡ h.names.outputs → outputs_in format c ≡ held_outputs_in format h
outputs-named writes.Aag h c exports outs = outs
outputs-named writes.Aig h c exports outs = outs
outputs-named writes.Blif h c exports outs = ap (λ (d : CircuitValue). map Some (output_labels d.inputs d.outputs)) exports
outputs-named writes.Bench h c exports outs = ap (λ (d : CircuitValue). map Some (output_labels d.inputs d.outputs)) exports

pub writes-held : (format : WriteFormat) (o : Option Held) (h : Held) (before after : Option Contents) (name : List ℕ) (c : CircuitValue) (text : List ℕ) (n : ℕ) → o ≡ Some h → HasGatesOf format h.network.kind → c ≡ exported h.network h.names → ((a : ℕ → Bool) → circuit_outputs c a ≡ network_outputs h.network a) → input_names c.inputs ≡ h.names.inputs → output_names c.outputs ≡ h.names.outputs → text ≡ text_in format c → IsTextOf format text c → n ≡ length text → after ≡ with_content before name text → Writes format o before name (reply.Wrote n) after
writes-held format o h before after name c text n is kind exports outputs ins outs text-is m count stored =
    let t : text ≡ written_text format h = text-is ∙ ap (text_in format) exports in
    let means : MeansHeld format text h = record {
      circuit = m.circuit;
      means = m.means;
      shown = λ a. m.shown a ∙ outputs a;
      inputs_named = m.inputs_named ∙ inputs-named format h c exports ins;
      outputs_named = m.outputs_named ∙ outputs-named format h c exports outs;
    } in
    subst (λ (o : Option Held). Writes format o before name (reply.Wrote n) after) (sym is)
    (kind, count ∙ ap (λ (ts : List ℕ). length ts) t, stored ∙ ap (with_content before name) t, subst (λ ts. MeansHeld format ts h) t means)
