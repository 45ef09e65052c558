-- The names and uses of a list of names, one after the other.
use Rattle.std.proofs.Common.{◌≡◌, ℕ, ◌+◌, ◌<◌, List, [], ◌∷◌, ◌++◌, length, get_or, drop, refl, append_assoc, add-one, drop-cons, false}
use Rattle.std.specs.Borrow.{Bor}
use Rattle.lnet_edge.specs.declared.circuit.WireRef.{WireRef}
use Rattle.lnet_wires.specs.Naming.{with_name, wire_of}
use Rattle.lnet_bliflines.specs.Words.{word_lists}
use Rattle.lnet_blif.specs.Numbering.{with_names, use_of}
use Rattle.lnet_blif.specs.Listing.{uses_of}

pub next_name : (names : List (Bor (List ℕ))) (i : ℕ) (d : Bor (List ℕ)) → i < length names → word_lists (drop i names) ≡ (get_or names i d).now ∷ word_lists (drop (i + 1) names)
next_name names i d lt = rw (add-one, drop-cons names i d) refl

abbrev wired : ℕ → WireRef
wired w = record { wire = record { 0 = w }; complement = false }

pub next_use : (refs more : List WireRef) (wires after : List (List ℕ)) (w : ℕ) (x : List ℕ) (xs ys : List (List ℕ)) → ys ≡ x ∷ xs → after ≡ with_name wires x → w ≡ wire_of wires x → more ≡ refs ++ wired w ∷ [] → more ++ uses_of after xs ≡ refs ++ uses_of wires ys
next_use refs more wires after w x xs ys is seen wire added = rw (is, seen, added, wire) (append_assoc refs (use_of wires x ∷ []) (uses_of (with_name wires x) xs))

pub next_seen : (wires after : List (List ℕ)) (x : List ℕ) (xs ys : List (List ℕ)) → ys ≡ x ∷ xs → after ≡ with_name wires x → with_names after xs ≡ with_names wires ys
next_seen wires after x xs ys is seen = rw (is, seen) refl
