use Rattle.std.proofs.Common.{false, length, map, sym, ap, subst, ◌∙◌}
use Rattle.lnet_gates.specs.declared.signal.Signal.{Signal}
use Rattle.lnet_gates.specs.declared.gate.Op.{Op}
use Rattle.lnet_gates.specs.Gates.{operate}
use Rattle.lnet_gates.specs.Plans.{Takes}
use Rattle.lnet_simulate.specs.Lanes.{lane_of}
use Rattle.lnet_simulate.proofs.LaneLemmas.{and-word, xor-word, maj-word, lut-word}
use Rattle.lnet_simulate.proofs.gates.operation_word.Goals as goal

abbrev none : Signal
none = record { node = record { 0 = 0 }; complement = false }

pub returns-in-And : goal.returns-in-And
returns-in-And c = λ j lt.
    and-word (lane_of c.args.words.now j) c.args.fanins.now none none c.signal_word.result c.signal_word-in-And.result j
    (subst (λ (o : Op). Takes o (length c.args.fanins.now)) c.in-And.is c.requires.arity) (c.signal_word.ensures j lt) (c.signal_word-in-And.ensures j lt)
    ∙ ap (λ (o : Op). operate o (map (lane_of c.args.words.now j) c.args.fanins.now)) (sym c.in-And.is)

pub returns-in-Xor : goal.returns-in-Xor
returns-in-Xor c = λ j lt.
    xor-word (lane_of c.args.words.now j) c.args.fanins.now none none c.signal_word-in-Xor.result c.signal_word-in-Xor-2.result j
    (subst (λ (o : Op). Takes o (length c.args.fanins.now)) c.in-Xor.is c.requires.arity) (c.signal_word-in-Xor.ensures j lt) (c.signal_word-in-Xor-2.ensures j lt)
    ∙ ap (λ (o : Op). operate o (map (lane_of c.args.words.now j) c.args.fanins.now)) (sym c.in-Xor.is)

pub returns-in-Maj : goal.returns-in-Maj
returns-in-Maj c = λ j lt.
    maj-word (lane_of c.args.words.now j) c.args.fanins.now none none none c.signal_word-a.result c.signal_word-b.result c.signal_word-in-Maj.result j
    (subst (λ (o : Op). Takes o (length c.args.fanins.now)) c.in-Maj.is c.requires.arity) (c.signal_word-a.ensures j lt) (c.signal_word-b.ensures j lt) (c.signal_word-in-Maj.ensures j lt)
    ∙ ap (λ (o : Op). operate o (map (lane_of c.args.words.now j) c.args.fanins.now)) (sym c.in-Maj.is)

pub returns-in-Lut : goal.returns-in-Lut
returns-in-Lut c = λ j lt.
    lut-word c.table_word.result j c.in-Lut.table (map (lane_of c.args.words.now j) c.args.fanins.now) (c.table_word.ensures j lt)
    ∙ ap (λ (o : Op). operate o (map (lane_of c.args.words.now j) c.args.fanins.now)) (sym c.in-Lut.is)
