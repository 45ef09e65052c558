-- The words of kinds, in scripts and in replies.
use Rattle.std.specs.Prelude.{ℕ, List, codes}
use Rattle.lnet_gates.specs.declared.gate.Kind.{Kind}
use Rattle.lnet_gates.specs.declared.gate.Kind.TheVariants.{Aig, Xag, Mig, Klut}

-- the word of a kind of networks
abbrev pub kind_word : Kind → List ℕ
kind_word Aig = codes "aig"
kind_word Xag = codes "xag"
kind_word Mig = codes "mig"
kind_word Klut = codes "klut"
