-- What a command does to the state and to the files, and what it answers.
use Rattle.std.specs.Prelude.{◌≡◌, ◌≢◌, ℕ, ◌≤◌, ◌<◌, Bool, List, length, Option, Some, None, IsSome, map, string_bytes}
use Rattle.std.specs.FinMap.{get, insert}
use Rattle.lnet_gates.specs.declared.signal.Signal.{Signal}
use Rattle.lnet_gates.specs.declared.gate.Kind.{Kind}
use Rattle.lnet_model.specs.Networks.{NetworkValue, IsLive}
use Rattle.lnet_model.specs.Dags.{NUMBERS}
use Rattle.lnet_model.specs.Levels.{level, depth}
use Rattle.lnet_model.specs.Values.{network_outputs}
use Rattle.lnet_model.specs.Answers.{kind_for}
use Rattle.lnet_model.specs.declared.view_spec.ViewSpec.{ViewSpec}
use Rattle.lnet_model.specs.declared.view_spec.ViewSpec.TheVariants.{Depth}
use Rattle.lnet_edge.specs.Outside.{Contents, file_limit}
use Rattle.lnet_edge.specs.Circuits.{CircuitValue}
use Rattle.lnet_edge.specs.Shown.{Shows}
use Rattle.lnet_print.specs.Printed.{print_text}
use Rattle.lnet_build.specs.Built.{names_of, numbers_needed}
use Rattle.lnet_export.specs.Exported.{exported}
use Rattle.lnet_generate.specs.Drawing.{generated}
use Rattle.lnet_script.specs.declared.command.Command.{Command}
use Rattle.lnet_script.specs.declared.command.Command.TheVariants as command
use Rattle.lnet_script.specs.declared.command.Query.TheVariants.{Level}
use Rattle.lnet_script.specs.declared.command.ReadFormat.{ReadFormat}
use Rattle.lnet_script.specs.declared.command.WriteFormat.{WriteFormat}
use Rattle.lnet_script.specs.declared.command.WriteFormat.TheVariants as writes
use Rattle.lnet_naming.specs.Settling.{input_labels, output_labels}
use Rattle.lnet_replies.specs.declared.reply.Unmet.TheVariants as unmet
use Rattle.lnet_replies.specs.declared.reply.Counts.{Counts}
use Rattle.lnet_replies.specs.declared.reply.Reply.{Reply}
use Rattle.lnet_replies.specs.declared.reply.Reply.TheVariants as reply
use Rattle.lnet_subscriptions.specs.Rolls.{Attaches, Drops, all_shelved, place_among, place_of, spec_under}
use Rattle.lnet_session.specs.States.{Held, State}
use Rattle.lnet_replies.specs.Texts.{bits_word}
use Rattle.lnet_simulate.specs.Assignments.{assignment}
use Rattle.lnet_session.specs.Made.{IsMadeOf, counts_of}
use Rattle.lnet_session.specs.Merging.{MergesIn}
use Rattle.lnet_session.specs.Formats.{HasGatesOf, IsMalformed, MeansIn, reader_of, text_in}

-- where the contents are told, the name holds these bytes
abbrev pub Holds : Option Contents → List ℕ → List ℕ → Type 0
Holds None name bytes = Unit {0}
Holds (Some m) name bytes = get m name ≡ Some bytes

-- a network of the kind is built of circuit c and put in place, and all live views go to the shelf
pub record PutsInPlace (kind : Kind) (c : CircuitValue) (counts : Counts) (old new : State) : Type 0 where
  pub network : NetworkValue
  pub made : IsMadeOf kind c network
  pub held : new.held ≡ Some (record { network = network; names = names_of c })
  pub roll : new.roll ≡ all_shelved old.roll
  pub counts_are : counts ≡ counts_of network

-- the building needs more numbers than there are, and the state is as before
pub record IsFull (kind : Kind) (c : CircuitValue) (old new : State) : Type 0 where
  pub needed : NUMBERS < numbers_needed kind c
  pub state : new ≡ old

-- the answer tells the kind and the counts of a network
abbrev pub SaysCounts : NetworkValue → Reply → Type 0
SaysCounts N (reply.Network counts) = counts ≡ counts_of N
SaysCounts N _ = ⊥

-- putting the network of a circuit in place, or saying that it is too large
abbrev pub Places : State → Kind → CircuitValue → Reply → State → Type 0
Places old kind c (reply.Network counts) new = PutsInPlace kind c counts old new
Places old kind c (reply.Unmet unmet.Full) new = IsFull kind c old new
Places old kind c _ new = ⊥

-- Reading these bytes as a network of the kind. The source is the circuit that is put in force, where one is.
abbrev pub Reads : State → ReadFormat → Kind → List ℕ → Reply → Option CircuitValue → State → Type 0
Reads old format kind bytes (reply.Network counts) source new = (length bytes ≤ file_limit) × ((c : CircuitValue) × (source ≡ Some c) × MeansIn format bytes c × PutsInPlace kind c counts old new)
Reads old format kind bytes (reply.Unmet unmet.TooLong) source new = (source ≡ None) × (file_limit < length bytes) × (new ≡ old)
Reads old format kind bytes (reply.Unmet (unmet.Malformed line fault)) source new = (source ≡ None) × (length bytes ≤ file_limit) × IsMalformed format bytes (record { line = line; kind = fault }) × (new ≡ old)
Reads old format kind bytes (reply.Unmet unmet.Full) source new = (source ≡ None) × (length bytes ≤ file_limit) × ((c : CircuitValue) × MeansIn format bytes c × IsFull kind c old new)
Reads old format kind bytes _ source new = ⊥

-- the circuit that is put in force, where the answer says that its network is in place
abbrev pub source_of : CircuitValue → Reply → Option CircuitValue
source_of c (reply.Network counts) = Some c
source_of c _ = None

-- putting the network of a generated circuit in place
abbrev pub Generates : State → Kind → CircuitValue → Reply → Option CircuitValue → State → Type 0
Generates old kind c answer source new = Places old kind c answer new × (source ≡ source_of c answer)

-- the contents with one name set, where they are told
abbrev pub with_content : Option Contents → List ℕ → List ℕ → Option Contents
with_content None name bytes = None
with_content (Some m) name bytes = Some (insert m name bytes)

-- the text that is written of a network
abbrev pub written_text : WriteFormat → Held → List ℕ
written_text format h = text_in format (exported h.network h.names)

-- the names of the network's inputs and of its outputs in that text: their own in AIGER, else those that are settled
abbrev pub held_inputs_in : WriteFormat → Held → List (Option (List ℕ))
held_inputs_in writes.Aag h = h.names.inputs
held_inputs_in writes.Aig h = h.names.inputs
held_inputs_in writes.Blif h = map Some (input_labels (exported h.network h.names).inputs)
held_inputs_in writes.Bench h = map Some (input_labels (exported h.network h.names).inputs)

abbrev pub held_outputs_in : WriteFormat → Held → List (Option (List ℕ))
held_outputs_in writes.Aag h = h.names.outputs
held_outputs_in writes.Aig h = h.names.outputs
held_outputs_in writes.Blif h = map Some (output_labels (exported h.network h.names).inputs (exported h.network h.names).outputs)
held_outputs_in writes.Bench h = map Some (output_labels (exported h.network h.names).inputs (exported h.network h.names).outputs)

-- the bytes mean a circuit in the format, with these names, whose outputs are the network's under each assignment
abbrev pub MeansHeld : WriteFormat → List ℕ → Held → Type 0
MeansHeld format bytes h = Shows (MeansIn (reader_of format) bytes) (held_inputs_in format h) (held_outputs_in format h) (network_outputs h.network)

-- writing the network, where one is in place, under this name
abbrev pub Writes : WriteFormat → Option Held → Option Contents → List ℕ → Reply → Option Contents → Type 0
Writes format None before name (reply.Unmet unmet.NoNetwork) after = after ≡ before
Writes format (Some h) before name (reply.Unmet unmet.WrongKind) after = (HasGatesOf format h.network.kind → ⊥) × (after ≡ before)
Writes format (Some h) before name (reply.Wrote n) after = HasGatesOf format h.network.kind × (n ≡ length (written_text format h)) × (after ≡ with_content before name (written_text format h)) × MeansHeld format (written_text format h) h
Writes format _ before name _ after = ⊥

-- attaching the first view of the spec's kind on the shelf
abbrev pub Views : State → ViewSpec → Reply → State → Type 0
Views old spec (reply.Viewed number asked) new = IsSome old.held × (number ≡ old.roll.next) × (asked ≡ spec) × (new.held ≡ old.held) × Attaches old.roll spec new.roll
Views old spec (reply.Unmet unmet.NoNetwork) new = (old.held ≡ None) × (new ≡ old)
Views old spec (reply.Unmet unmet.ShelfEmpty) new = IsSome old.held × (place_of (kind_for spec) old.roll.shelf ≡ None) × (new ≡ old)
Views old spec _ new = ⊥

-- putting a live view back
abbrev pub PutsBack : State → ℕ → Reply → State → Type 0
PutsBack old number (reply.Dropped n) new = IsSome old.held × (n ≡ number) × (new.held ≡ old.held) × Drops old.roll number new.roll
PutsBack old number (reply.Unmet unmet.NoNetwork) new = (old.held ≡ None) × (new ≡ old)
PutsBack old number (reply.Unmet unmet.NoView) new = IsSome old.held × (place_among number old.roll.live ≡ None) × (new ≡ old)
PutsBack old number _ new = ⊥

-- asking a live depth view for a node's level
abbrev pub AsksLevel : Option Held → List (ℕ × ViewSpec) → ℕ → ℕ → Reply → Type 0
AsksLevel None live number n (reply.Unmet unmet.NoNetwork) = Unit {0}
AsksLevel (Some h) live number n (reply.Unmet unmet.NoView) = spec_under number live ≢ Some Depth
AsksLevel (Some h) live number n (reply.Unmet unmet.NoNode) = (spec_under number live ≡ Some Depth) × (IsLive h.network n → ⊥)
AsksLevel (Some h) live number n (reply.Level node l) = (spec_under number live ≡ Some Depth) × IsLive h.network n × (node ≡ n) × (l ≡ level h.network n)
AsksLevel _ live number n _ = ⊥

-- printing the network, and its counts
abbrev pub Prints : Option Held → Reply → Type 0
Prints None (reply.Unmet unmet.NoNetwork) = Unit {0}
Prints (Some h) (reply.Printed text) = string_bytes text ≡ print_text h.network
Prints _ _ = ⊥

abbrev pub SaysStats : Option Held → Reply → Type 0
SaysStats None (reply.Unmet unmet.NoNetwork) = Unit {0}
SaysStats (Some h) (reply.Stats counts d) = (counts ≡ counts_of h.network) × (d ≡ depth h.network)
SaysStats _ _ = ⊥

-- the networks have the same outputs under each assignment
abbrev pub AgreeOutputs : Option Held → Option Held → Type 0
AgreeOutputs None None = Unit {0}
AgreeOutputs None (Some k) = ⊥
AgreeOutputs (Some h) None = ⊥
AgreeOutputs (Some h) (Some k) = (a : ℕ → Bool) → network_outputs k.network a ≡ network_outputs h.network a

-- putting the network of another kind in place that is built of what the network in place is exported to
abbrev pub Converts : State → Option Held → Kind → Reply → State → Type 0
Converts old None kind (reply.Unmet unmet.NoNetwork) new = new ≡ old
Converts old (Some h) kind (reply.Network counts) new = PutsInPlace kind (exported h.network h.names) counts old new × AgreeOutputs old.held new.held
Converts old (Some h) kind (reply.Unmet unmet.Full) new = IsFull kind (exported h.network h.names) old new
Converts old _ kind _ new = ⊥

-- the values of the outputs, where the word has one `0` or `1` for each input
abbrev pub Simulates : Option Held → List ℕ → Reply → Type 0
Simulates None word (reply.Unmet unmet.NoNetwork) = Unit {0}
Simulates (Some h) word (reply.Unmet unmet.BadBits) = (bits : List Bool) → word ≡ bits_word bits → length bits ≡ length h.network.inputs → ⊥
Simulates (Some h) word (reply.Simulated values) = (bits : List Bool) × (word ≡ bits_word bits) × (length bits ≡ length h.network.inputs) × (values.items ≡ network_outputs h.network (assignment bits))
Simulates _ word _ = ⊥

-- letting a signal take a gate's place in the network that is in place
abbrev pub Merges : State → Option Held → ℕ → Signal → Reply → State → Type 0
Merges old None n s answer new = (answer ≡ reply.Unmet unmet.NoNetwork) × (new ≡ old)
Merges old (Some h) n s answer new = (Q : NetworkValue) × MergesIn h.network n s answer Q × (new.held ≡ Some (record { network = Q; names = h.names })) × (new.roll ≡ old.roll)

-- What a command may do and answer; its source is the circuit that it puts in force, where it puts one.
abbrev pub Effect : State → Option Contents → Command → Reply → Option CircuitValue → State → Option Contents → Type 0
Effect old before (command.Read format name kind) answer source new after = ((bytes : List ℕ) × Holds before name bytes × Reads old format kind bytes answer source new) × (after ≡ before)
Effect old before (command.Write format name) answer source new after = Writes format old.held before name answer after × (new ≡ old) × (source ≡ None)
Effect old before (command.Gen kind g) answer source new after = Generates old kind (generated kind g.inputs g.gates g.outputs g.start) answer source new × (after ≡ before)
Effect old before (command.View spec) answer source new after = Views old spec answer new × (after ≡ before) × (source ≡ None)
Effect old before (command.Drop number) answer source new after = PutsBack old number answer new × (after ≡ before) × (source ≡ None)
Effect old before (command.Ask number Level n) answer source new after = AsksLevel old.held old.roll.live number n answer × (new ≡ old) × (after ≡ before) × (source ≡ None)
Effect old before command.Print answer source new after = Prints old.held answer × (new ≡ old) × (after ≡ before) × (source ≡ None)
Effect old before command.Stats answer source new after = SaysStats old.held answer × (new ≡ old) × (after ≡ before) × (source ≡ None)
Effect old before (command.Simulate bits) answer source new after = Simulates old.held bits answer × (new ≡ old) × (after ≡ before) × (source ≡ None)
Effect old before (command.Merge n s) answer source new after = Merges old old.held n s answer new × (after ≡ before) × (source ≡ None)
Effect old before (command.Convert kind) answer source new after = Converts old old.held kind answer new × (after ≡ before) × (source ≡ None)
