-- Memory for more numbers, and lists that are emptied.
use Rattle.std.proofs.Common.{◌≡◌, ℕ, ◌+◌, ◌-◌, ◌*◌, ◌≤◌, Bool, false, List, [], ◌++◌, replicate, length, get_or, ap, ◌∙◌, arith}
use Rattle.std.proofs.lemmas.List.{length-replicate}
use Rattle.lnet_model.specs.Dags.{NUMBERS}
use Rattle.lnet_chains.specs.Lists.{ChainsValue, list_of, grown}
use Rattle.lnet_pools.specs.Ascending.{emptied}
use Rattle.lnet_pools.proofs.Changes.{more-read, length-more}
use Rattle.lnet_fanouts.specs.FanoutViews.{HasSlots}
use Rattle.lnet_fanouts.proofs.Events.{slots-same}

-- so many more numbers
pub live-more : (live live1 live2 : List Bool) (more : ℕ) → live1 ≡ live → live2 ≡ live1 ++ replicate more false → live2 ≡ live ++ replicate more false
live-more live live1 live2 more same longer = longer ∙ ap (λ (xs : List Bool). xs ++ replicate more false) same

pub live-read : (live live2 : List Bool) (more n : ℕ) → live2 ≡ live ++ replicate more false → get_or live2 n false ≡ get_or live n false
live-read live live2 more n is = ap (λ (xs : List Bool). get_or xs n false) is ∙ more-read live more false n

pub live-length : (live live2 : List Bool) (more : ℕ) → live2 ≡ live ++ replicate more false → length live2 ≡ length live + more
live-length live live2 more is = ap (λ (xs : List Bool). length xs) is ∙ length-more live more false

pub list-grown : (v v2 : ChainsValue) (nodes places n : ℕ) → v2 ≡ grown v nodes places → list_of v2 n ≡ list_of v n
list-grown v v2 nodes places n is = ap (λ (w : ChainsValue). list_of w n) is ∙ more-read v.lists (nodes - length v.lists) [] n

pub slots-grown : (v v2 : ChainsValue) (live live2 : List Bool) (lists : ℕ) → length v.lists ≤ lists → v2 ≡ grown v lists (6 * lists)
    → lists ≤ length live2 → lists ≤ NUMBERS → ((k : ℕ) → k ≤ length live2 → k ≤ NUMBERS → k ≤ lists) → HasSlots v2 live2
slots-grown v v2 live live2 lists more is fewer few enough =
    let len = ap (λ (w : ChainsValue). length w.lists) is ∙ length-more v.lists (lists - length v.lists) [] in
    let places = ap (λ (w : ChainsValue). w.places) is in
    record {
      places = omega arith;
      fewer = omega arith;
      few = omega arith;
      enough = λ k low small. (let h = enough k low small in omega arith);
    }

-- ---- nothing stands anywhere

pub list-emptied : (v v2 : ChainsValue) (n : ℕ) → v2 ≡ emptied v → list_of v2 n ≡ []
list-emptied v v2 n is = ap (λ (w : ChainsValue). list_of w n) is ∙ more-read {X = List ℕ} [] (length v.lists) [] n

pub live-emptied : (live live2 : List Bool) (n : ℕ) → live2 ≡ replicate (length live) false → get_or live2 n false ≡ false
live-emptied live live2 n is = ap (λ (xs : List Bool). get_or xs n false) is ∙ more-read {X = Bool} [] (length live) false n

pub slots-emptied : (v v2 : ChainsValue) (live live2 : List Bool) → HasSlots v live → v2 ≡ emptied v → live2 ≡ replicate (length live) false → HasSlots v2 live2
slots-emptied v v2 live live2 slots is none = slots-same v v2 live live2 slots
    (record {
      lists = ap (λ (w : ChainsValue). length w.lists) is ∙ length-replicate (length v.lists) [];
      places = ap (λ (w : ChainsValue). w.places) is;
    })
    (ap (λ (xs : List Bool). length xs) none ∙ length-replicate (length live) false)
