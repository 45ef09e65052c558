use Rattle.std.proofs.Common.{◌≡◌, ◌+◌, ◌-◌, ◌≤◌, ◌++◌, length, map, drop}
use Rattle.std.specs.Vec.{vec_len, vec_capacity}
use Rattle.lnet_model.specs.Answers.{kind_for}
use Rattle.lnet_any.specs.AnyNets.{core_in, views_in}
use Rattle.lnet_subscriptions.specs.Kept.{Stand, AreDetached, InStepWith}
use Rattle.lnet_subscriptions.proofs.roll.Subscriptions.shelve_all.Given as goal

-- the live views before this one are on the shelf
abbrev pub invariant-loop-i : goal.invariant-loop-i
invariant-loop-i g l = record {
  live : l.self.live ≡ l.initial.self.live;
  ids : l.self.ids ≡ l.initial.self.ids;
  next : l.self.next ≡ l.initial.self.next;
  room : vec_len l.self.shelf + (length l.initial.self.ids.items - l.i) ≤ vec_capacity l.self.shelf;
  stand : Stand (λ b. (goal.View-dyn g (b.vtable, b.value)).kind_of b.value) (λ b. (goal.View-dyn g (b.vtable, b.value)).spec_of b.value) (views_in l.net) (drop l.i l.initial.self.live.items) (drop l.i l.initial.self.ids.items);
  kinds : map (λ b. (goal.View-dyn g (b.vtable, b.value)).kind_of b.value) l.self.shelf.items ++ map (λ p. kind_for p.1) (drop l.i l.initial.self.live.items) ≡ map (λ b. (goal.View-dyn g (b.vtable, b.value)).kind_of b.value) l.initial.self.shelf.items ++ map (λ p. kind_for p.1) l.initial.self.live.items;
  detached : AreDetached (λ b. (goal.View-dyn g (b.vtable, b.value)).spec_of b.value) l.self.shelf.items;
  core : core_in l.net ≡ core_in l.initial.net;
  in_step : InStepWith (λ b. (goal.View-dyn g (b.vtable, b.value)).spec_of b.value) (λ b. (goal.View-dyn g (b.vtable, b.value)).kept b.value) (λ b. (goal.View-dyn g (b.vtable, b.value)).room b.value) l.net;
}
