-- Slots as a map, read and written.
use Rattle.std.proofs.Common.{inl, inr, ◌≡◌, ℕ, zero, suc, ◌<◌, ◌≤◌, true, false, List, [], ◌∷◌, ◌++◌, map, length, replicate, IsSome, Option, None, Some, get_or, refl, sym, ap, subst, ◌∙◌, arith}
use Rattle.std.proofs.Math.ListN.{set}
use Rattle.std.proofs.lemmas.Cmp.{nat_cmp_total}
use Rattle.std.specs.Ordering.{nat_cmp}
use Rattle.std.specs.FinMap.{FinMap, get, len, insert, remove, same_map, nat_cmp-IsAntisymmetric}
use Rattle.lnet_model.specs.Along.{In}
use Rattle.lnet_model.proofs.Map.{Apart, count_apart}
use Rattle.lnet_model.specs.Networks.{Entry}
use Rattle.lnet_model.specs.Slots.{nodes_of}
use Rattle.lnet_model.proofs.Slots.{get-nodes_of, set-insert, set-remove}
use Rattle.lnet_store.specs.Held.{entry_of, entry_in, is_empty, held}
use Rattle.lnet_store.specs.declared.slots.Slot.{Slot}
use Rattle.lnet_store.proofs.FreeSlots.{frees-full}

map-entry : (slots : List (Option Slot)) (n : ℕ) → get_or (map entry_in slots) n None ≡ entry_in (get_or slots n None)
map-entry [] n = refl
map-entry (o ∷ os) zero = refl
map-entry (o ∷ os) (suc n) = map-entry os n

map-set : (slots : List (Option Slot)) (n : ℕ) (o : Option Slot) → map entry_in (set slots n o) ≡ set (map entry_in slots) n (entry_in o)
map-set [] n o = refl
map-set (s ∷ ss) zero o = refl
map-set (s ∷ ss) (suc n) o = ap (λ zs. entry_in s ∷ zs) (map-set ss n o)

length-map : (slots : List (Option Slot)) → length (map entry_in slots) ≡ length slots
length-map [] = refl
length-map (o ∷ os) = ap suc (length-map os)

pub get-held : (slots : List (Option Slot)) (n : ℕ) → get (held slots) n ≡ entry_in (get_or slots n None)
unfolding held
get-held slots n = get-nodes_of (map entry_in slots) n ∙ map-entry slots n

pub held-set : (slots : List (Option Slot)) (n : ℕ) (s : Slot) → n < length slots → held (set slots n (Some s)) ≡ insert (held slots) n (entry_of s)
unfolding held
held-set slots n s h =
    let e = length-map slots in
    let k : n < length (map entry_in slots) = omega arith in
    ap nodes_of (map-set slots n (Some s)) ∙ set-insert (map entry_in slots) n (entry_of s) k

pub held-clear : (slots : List (Option Slot)) (n : ℕ) → n < length slots → held (set slots n None) ≡ remove (held slots) n
unfolding held
held-clear slots n h =
    let e = length-map slots in
    let k : n < length (map entry_in slots) = omega arith in
    ap nodes_of (map-set slots n None) ∙ set-remove (map entry_in slots) n k

inside : (slots : List (Option Slot)) (n : ℕ) → IsSome (entry_in (get_or slots n None)) → n < length slots
inside [] n h = let z : false ≡ true = h in cc
inside (o ∷ os) zero h = omega arith
inside (o ∷ os) (suc n) h = let k = inside os n h in omega (arith, k)

pub held-inside : (slots : List (Option Slot)) (n : ℕ) → IsSome (get (held slots) n) → n < length slots
held-inside slots n h = inside slots n (subst IsSome (get-held slots n) h)

none-on : (k n : ℕ) → get_or {A = Option Slot} (replicate k None) n None ≡ None
none-on zero n = refl
none-on (suc k) zero = refl
none-on (suc k) (suc n) = none-on k n

grown-at : (slots : List (Option Slot)) (k n : ℕ) → get_or (slots ++ replicate k None) n None ≡ get_or slots n None
grown-at [] k n = none-on k n
grown-at (o ∷ os) k zero = refl
grown-at (o ∷ os) k (suc n) = grown-at os k n

pub held-grown : (slots : List (Option Slot)) (k : ℕ) → held (slots ++ replicate k None) ≡ held slots
held-grown slots k = same_map nat_cmp_total nat_cmp-IsAntisymmetric _ _ (λ q. get-held (slots ++ replicate k None) q ∙ ap entry_in (grown-at slots k q) ∙ sym (get-held slots q))

pub read-held : (slots : List (Option Slot)) (m : FinMap nat_cmp Entry) (n : ℕ) → held slots ≡ m → entry_in (get_or slots n None) ≡ get m n
read-held slots m n e = sym (get-held slots n) ∙ ap (λ m. get m n) e

pub some-in : (o : Option Slot) → IsSome o → IsSome (entry_in o)
some-in None h = h
some-in (Some s) h = refl

-- a number that isn't free is live
pub full-live : (slots : List (Option Slot)) (n : ℕ) → n < length slots → get_or (map is_empty slots) n false ≡ false → IsSome (get (held slots) n)
full-live slots n lt h = subst IsSome (sym (get-held slots n)) (some-in (get_or slots n None) (frees-full slots n lt h))

-- ---- numbers that are live

downto : ℕ → List ℕ
downto zero = []
downto (suc n) = n ∷ downto n

in-downto : (n x : ℕ) → In x (downto n) → x < n
unfolding downto
in-downto zero x i = absurd i
in-downto (suc n) x (inl e) = omega arith
in-downto (suc n) x (inr i) = let h = in-downto n x i in omega arith

apart-downto : (n : ℕ) → Apart (downto n)
unfolding downto
apart-downto zero = tt
apart-downto (suc n) = (λ i. let h = in-downto n n i in absurd (omega arith), apart-downto n)

length-downto : (n : ℕ) → length (downto n) ≡ n
unfolding downto
length-downto zero = refl
length-downto (suc n) = ap suc (length-downto n)

-- where each number below n is live, there are n at least
pub all-live : (m : FinMap nat_cmp Entry) (n : ℕ) → ((k : ℕ) → k < n → IsSome (get m k)) → n ≤ len m
all-live m n live =
    let few = count_apart (downto n) m (apart-downto n) (λ x i. live x (in-downto n x i)) in
    let e = length-downto n in
    omega arith
