-- What contracts see of a network of any kind.
use Rattle.std.specs.Prelude.{List, Option}
use Rattle.std.proofs.Common.{Global}
use Rattle.std.specs.declared.dyn_box.DynBox.{DynBox}
use Rattle.lnet_model.specs.Networks.{NetworkValue}
use Rattle.lnet_hashed.specs.declared.watch.Watch.{Watch}
use Rattle.lnet_network.specs.Cores.{CoreValue}
use Rattle.lnet_any.specs.declared.any.AnyNet.{AnyNet}
use Rattle.lnet_any.specs.declared.any.AnyNet.TheVariants.{Aig, Xag, Mig, Klut}

-- the network, and for how many numbers there is memory
abbrev pub core_in : {X : Type 0} {F : X → Type 0} → AnyNet X F → CoreValue
core_in (Aig n) = n.core
core_in (Xag n) = n.core
core_in (Mig n) = n.core
core_in (Klut n) = n.core

abbrev pub network_in : {X : Type 0} {F : X → Type 0} → AnyNet X F → NetworkValue
network_in a = (core_in a).network

-- the views
abbrev pub watch_in : {X : Type 0} {F : X → Type 0} → AnyNet X F → Watch X F
watch_in (Aig n) = n.watch
watch_in (Xag n) = n.watch
watch_in (Mig n) = n.watch
watch_in (Klut n) = n.watch

-- in their slots
abbrev pub views_in : {X : Type 0} {F : X → Type 0} → AnyNet X F → List (Option (DynBox X Global F))
views_in a = (watch_in a).views.items
