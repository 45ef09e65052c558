-- Writes and reads one after another.
use Rattle.std.proofs.Common.{◌≡◌, ℕ, ◌≤◌, List, ◌++◌, length, take, drop, Option, Some, None, sym, ap, ◌∙◌, append_assoc}
use Rattle.std.specs.Io.KnownBytes.{Appends}
use Rattle.std.proofs.lemmas.List.{take-append-drop}

pub appends_more : (a b c : Option (List ℕ)) (x y : List ℕ) → Appends a b x → Appends b c y → Appends a c (x ++ y)
appends_more None b c x y p q = tt
appends_more (Some ws) None c x y p q = absurd p
appends_more (Some ws) (Some bs) None x y p q = absurd q
appends_more (Some ws) (Some bs) (Some cs) x y p q = q ∙ ap (λ (t : List ℕ). t ++ y) p ∙ append_assoc ws x y

-- of the bytes all but the rest were written
abbrev pub Written : Option (List ℕ) → Option (List ℕ) → List ℕ → List ℕ → Type 0
Written before now bytes rest = (done : List ℕ) × (bytes ≡ done ++ rest) × Appends before now done

pub written_more : (a b c : Option (List ℕ)) (bytes rest after : List ℕ) (n : ℕ) → Written a b bytes rest → n ≤ length rest → Appends b c (take n rest) → after ≡ drop n rest → Written a c bytes after
written_more a b c bytes rest after n so_far le grows is =
    let whole : bytes ≡ (so_far.0 ++ take n rest) ++ after = so_far.1 ∙ ap (λ (t : List ℕ). so_far.0 ++ t) (sym (take-append-drop n rest) ∙ ap (λ (t : List ℕ). take n rest ++ t) (sym is)) ∙ sym (append_assoc so_far.0 (take n rest) after) in
    (so_far.0 ++ take n rest, whole, appends_more a b c so_far.0 (take n rest) so_far.2 grows)
