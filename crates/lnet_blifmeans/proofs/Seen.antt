-- Each name that statements drive stands for a wire.
use Rattle.std.proofs.Common.{◌≡◌, ℕ, true, List, [], ◌∷◌}
use Rattle.std.specs.List.{AllByRecursion}
use Rattle.lnet_wires.specs.Naming.{is_seen, with_name}
use Rattle.lnet_wires.proofs.WireLaws.{sees}
use Rattle.lnet_blif.specs.Statements.{StatementValue, Model, Inputs, Outputs, Names, Row, End}
use Rattle.lnet_blif.specs.Numbering.{with_names, see, see_all}
use Rattle.lnet_benchmeans.proofs.Differing.{all_both, all_weak}
use Rattle.lnet_benchmeans.proofs.Settled.{still_seen}
use Rattle.lnet_blifmeans.specs.Driving.{driven_names}

with_names_seen : (names xs : List (List ℕ)) (x : List ℕ) → is_seen names x ≡ true → is_seen (with_names names xs) x ≡ true
with_names_seen names [] x seen = seen
with_names_seen names (y ∷ ys) x seen = with_names_seen (with_name names y) ys x (still_seen names y x seen)

with_names_all : (names xs : List (List ℕ)) → AllByRecursion (λ x. is_seen (with_names names xs) x ≡ true) xs
with_names_all names [] = tt
with_names_all names (x ∷ xs) = (with_names_seen (with_name names x) xs x (sees names x), with_names_all (with_name names x) xs)

see_seen : (names : List (List ℕ)) (s : StatementValue) (x : List ℕ) → is_seen names x ≡ true → is_seen (see names s) x ≡ true
see_seen names Model x seen = seen
see_seen names (Inputs xs) x seen = with_names_seen names xs x seen
see_seen names (Outputs xs) x seen = with_names_seen names xs x seen
see_seen names (Names operands target) x seen = still_seen (with_names names operands) target x (with_names_seen names operands x seen)
see_seen names (Row row) x seen = seen
see_seen names End x seen = seen

see_all_seen : (names : List (List ℕ)) (ss : List StatementValue) (x : List ℕ) → is_seen names x ≡ true → is_seen (see_all names ss) x ≡ true
see_all_seen names [] x seen = seen
see_all_seen names (s ∷ ss) x seen = see_all_seen (see names s) ss x (see_seen names s x seen)

pub driven_seen : (names : List (List ℕ)) (ss : List StatementValue) → AllByRecursion (λ x. is_seen (see_all names ss) x ≡ true) (driven_names ss)
driven_seen names [] = tt
driven_seen names (Model ∷ ss) = driven_seen names ss
driven_seen names (Inputs xs ∷ ss) =
    let all = see_all (with_names names xs) ss in
    all_both (λ x. is_seen all x ≡ true) xs (driven_names ss) (all_weak (λ x. is_seen (with_names names xs) x ≡ true) (λ x. is_seen all x ≡ true) xs (see_all_seen (with_names names xs) ss) (with_names_all names xs)) (driven_seen (with_names names xs) ss)
driven_seen names (Outputs xs ∷ ss) = driven_seen (with_names names xs) ss
driven_seen names (Names operands target ∷ ss) =
    let later = with_name (with_names names operands) target in
    (see_all_seen later ss target (sees (with_names names operands) target), driven_seen later ss)
driven_seen names (Row row ∷ ss) = driven_seen names ss
driven_seen names (End ∷ ss) = driven_seen names ss
