-- What holds of each row of a cover.
use Rattle.std.proofs.Common.{ℕ, ◌<◌, Bool, true, false, ◌&&◌, List, [], ◌∷◌, length, map, get_or, zero, suc, arith, refl, IsTrue}
use Rattle.std.specs.List.{list_all}

both : (a b : Bool) → IsTrue (a && b) → IsTrue a × IsTrue b
both true b h = (refl, h)
both false b h = cc

-- what holds of each image holds of the image at each place
pub list_all-map-get_or : {X Y : Type 0} (p : Y → Bool) (f : X → Y) (xs : List X) (i : ℕ) (d : X) → IsTrue (list_all p (map f xs)) → i < length (map f xs) → IsTrue (p (f (get_or xs i d)))
list_all-map-get_or p f [] i d all h = absurd (omega arith)
list_all-map-get_or p f (x ∷ xs) zero d all h = (both (p (f x)) (list_all p (map f xs)) all).0
list_all-map-get_or p f (x ∷ xs) (suc i) d all h = list_all-map-get_or p f xs i d (both (p (f x)) (list_all p (map f xs)) all).1 (omega arith)
