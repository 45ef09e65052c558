use Rattle.std.proofs.Common.{take}
use Rattle.lnet_model.specs.Along.{In, nodes_read}
use Rattle.lnet_cascade.specs.Marks.{MarkedMore}
use Rattle.lnet_cascade.specs.Noting.{IsUnread}
use Rattle.lnet_cascade.proofs.noting.note_all.Given as goal

abbrev pub invariant-loop-signal : goal.invariant-loop-signal
invariant-loop-signal l = MarkedMore (λ m. In m (nodes_read (take l.signal-index l.signals)) × IsUnread l.store.network l.other m) l.fn.set l.set
