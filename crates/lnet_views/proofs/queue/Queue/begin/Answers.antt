use Rattle.lnet_views.proofs.Links.{idle-queue}
use Rattle.lnet_views.proofs.queue.Queue.begin.Goals as goal

pub put-requires-clause-queue : goal.put-requires-clause-queue
put-requires-clause-queue c = idle-queue _ (record { heads = c.requires.idle.heads; levels = c.requires.idle.levels; count = c.requires.idle.count; next_len = c.requires.idle.next_len })
