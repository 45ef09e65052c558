-- The text that a command leaves in the transcript.
use Rattle.std.specs.Prelude.{ℕ, zero, suc, ◌/◌, ◌%◌, ◌==◌, Bool, true, false, List, [], ◌∷◌, ◌++◌, codes, string_bytes, if◌then◌else◌}
use Rattle.std.specs.List.{flat_map}
use Rattle.std.specs.Fmt.{decimal}
use Rattle.lnet_edge.specs.declared.fault.Fault.{Fault}
use Rattle.lnet_edge.specs.declared.fault.Fault.TheVariants as faults
use Rattle.lnet_gates.specs.declared.gate.Kind.{Kind}
use Rattle.lnet_gates.specs.KindWords.{kind_word}
use Rattle.lnet_model.specs.declared.view_spec.ViewSpec.{ViewSpec}
use Rattle.lnet_model.specs.declared.view_spec.ViewSpec.TheVariants as views
use Rattle.lnet_replies.specs.declared.reply.Unmet.{Unmet}
use Rattle.lnet_replies.specs.declared.reply.Unmet.TheVariants as unmet
use Rattle.lnet_replies.specs.declared.reply.Counts.{Counts}
use Rattle.lnet_replies.specs.declared.reply.Reply.{Reply}
use Rattle.lnet_replies.specs.declared.reply.Reply.TheVariants as reply

-- whether a command was not met
abbrev pub is_unmet : Reply → Bool
is_unmet (reply.Unmet cause) = true
is_unmet _ = false

abbrev pub fault_name : Fault → List ℕ
fault_name faults.Header = codes "Header"
fault_name faults.TooMany = codes "TooMany"
fault_name faults.Property = codes "Property"
fault_name faults.Sequential = codes "Sequential"
fault_name faults.Missing = codes "Missing"
fault_name faults.Syntax = codes "Syntax"
fault_name faults.Literal = codes "Literal"
fault_name faults.Delta = codes "Delta"
fault_name faults.Symbol = codes "Symbol"
fault_name faults.Cover = codes "Cover"
fault_name faults.Unsupported = codes "Unsupported"
fault_name faults.Undriven = codes "Undriven"
fault_name faults.Twice = codes "Twice"
fault_name faults.Cycle = codes "Cycle"

-- the words of a view's spec
abbrev pub view_word : ViewSpec → List ℕ
view_word views.Depth = codes "depth"
view_word views.Fanout = codes "fanout"
view_word (views.Cuts rule) = codes "cuts " ++ (decimal rule.size ++ (32 ∷ decimal rule.limit))

-- the character of a value
abbrev pub bit_text : Bool → List ℕ
bit_text bit = if bit then codes "1" else codes "0"

-- a character for each value, `-` for none
abbrev pub bits_word : List Bool → List ℕ
bits_word [] = codes "-"
bits_word (b ∷ bs) = bit_text b ++ flat_map bit_text bs

-- the values of so many inputs under an assignment: the first has the least bit
abbrev pub bits_of : ℕ → ℕ → List Bool
bits_of zero assignment = []
bits_of (suc n) assignment = (assignment % 2 == 1) ∷ bits_of n (assignment / 2)

-- why a command was not met, after its index
abbrev pub cause_text : Unmet → List ℕ
cause_text unmet.NoNetwork = codes "NoNetwork"
cause_text (unmet.Malformed line fault) = codes "Malformed " ++ (decimal line ++ (32 ∷ fault_name fault))
cause_text unmet.TooLong = codes "TooLong"
cause_text unmet.Full = codes "Full"
cause_text unmet.NoView = codes "NoView"
cause_text unmet.ShelfEmpty = codes "ShelfEmpty"
cause_text unmet.NoNode = codes "NoNode"
cause_text unmet.WrongKind = codes "WrongKind"
cause_text unmet.Cycle = codes "Cycle"
cause_text (unmet.Unequal inputs assignment) = codes "Unequal " ++ bits_word (bits_of inputs assignment)
cause_text unmet.TooWide = codes "TooWide"
cause_text unmet.BadBits = codes "BadBits"

-- the line of a command that was not met, the index counting commands from 1
abbrev pub unmet_text : ℕ → Unmet → List ℕ
unmet_text index cause = codes "unmet " ++ (decimal index ++ (32 ∷ (cause_text cause ++ 10 ∷ [])))

-- the kind and the counts of a network
abbrev pub counts_text : Counts → List ℕ
counts_text c = kind_word c.kind ++ (codes " inputs " ++ (decimal c.inputs ++ (codes " outputs " ++ (decimal c.outputs ++ (codes " gates " ++ decimal c.gates)))))

-- the text of a command that was met or not, the index counting commands from 1
abbrev pub reply_text : ℕ → Reply → List ℕ
reply_text index (reply.Network counts) = codes "network " ++ (counts_text counts ++ 10 ∷ [])
reply_text index (reply.Wrote bytes) = codes "wrote " ++ (decimal bytes ++ 10 ∷ [])
reply_text index (reply.Viewed number spec) = codes "view " ++ (decimal number ++ (32 ∷ (view_word spec ++ 10 ∷ [])))
reply_text index (reply.Dropped number) = codes "dropped " ++ (decimal number ++ 10 ∷ [])
reply_text index (reply.Level node level) = codes "level " ++ (decimal node ++ (32 ∷ (decimal level ++ 10 ∷ [])))
reply_text index (reply.Printed text) = string_bytes text
reply_text index (reply.Simulated bits) = codes "outputs " ++ (bits_word bits.items ++ 10 ∷ [])
reply_text index (reply.Merged node gates) = codes "merged " ++ (decimal node ++ (codes " gates " ++ (decimal gates ++ 10 ∷ [])))
reply_text index (reply.Stats counts depth) = codes "stats " ++ (counts_text counts ++ (codes " depth " ++ (decimal depth ++ 10 ∷ [])))
reply_text index (reply.Unmet cause) = unmet_text index cause
