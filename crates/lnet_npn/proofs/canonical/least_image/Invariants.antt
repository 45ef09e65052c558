use Rattle.std.proofs.Common.{◌≡◌, ℕ, Bool, ◌<◌, ◌≤◌}
use Rattle.lnet_npn.specs.declared.transforms.Transform.{Transform}
use Rattle.lnet_npn.specs.Transforms.{IsTransform, image_of}
use Rattle.lnet_npn.specs.Exchanges.{image_at}
use Rattle.lnet_npn.proofs.Orders.{order_at}
use Rattle.lnet_npn.proofs.canonical.least_image.Given as goal

abbrev pub invariant-loop-arrangement : goal.invariant-loop-arrangement
invariant-loop-arrangement l = record {
  made : (t : Transform) × (IsTransform t × (l.best ≡ image_of t l.word));
  least : (j f : ℕ) (o : Bool) → j < l.arrangement-index → f < 16 → l.best ≤ image_at (order_at j) f o l.word;
}
