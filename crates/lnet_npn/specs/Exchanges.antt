-- How the sixteen rows of a function in one number are moved, and what the search sees of one order.
use Rattle.std.specs.Prelude.{ℕ, ◌≡◌, ◌≢◌, ◌+◌, ◌-◌, ◌*◌, ◌<◌, Bool, false, cond, List, leb, IsTrue}
use mathlib.Core.Bool.{◌&&◌}
use lib.ListN.{get_or}
use Rattle.lnet_tables.specs.Bits.{is_set, moved, bit_of}
use Rattle.lnet_npn.specs.declared.transforms.Transform.{Transform}
use Rattle.lnet_npn.specs.declared.exchanges.Exchange.{Exchange}
use Rattle.lnet_npn.specs.declared.exchanges.Arrangement.{Arrangement}
use Rattle.lnet_npn.specs.Transforms.{is_order, image_of}

-- the row x was brought down to its place, from the distance above
abbrev pub falls : Exchange → ℕ → Bool
falls e x = leb e.distance x && is_set e.rows (x - e.distance)

-- the row that an exchange brings to place x
unfoldable pub fetched : Exchange → ℕ → ℕ
fetched e x = cond (is_set e.rows x) (x + e.distance) (cond (falls e x) (x - e.distance) x)

-- no row is to go both ways, or past the last
pub record IsExchange (e : Exchange) : Type 0 where
  pub near : e.distance < 16
  pub apart : (x : ℕ) → x < 16 → (is_set e.rows x && falls e x) ≡ false
  pub inside : (x : ℕ) → x < 16 → fetched e x < 16

-- an order, and exchanges that bring the variables into it
pub record IsArrangement (a : Arrangement) : Type 0 where
  pub order : IsTrue (is_order a.order)
  pub exchange : (i : ℕ) (d : Exchange) → i < 3 → IsExchange (get_or a.exchanges i d)
  pub rows : (x : ℕ) (d : Exchange) → x < 16 → fetched (get_or a.exchanges 0 d) (fetched (get_or a.exchanges 1 d) (fetched (get_or a.exchanges 2 d) x)) ≡ moved x a.order 4

-- what the transform with this order, these flips and this complement makes of a number
abbrev pub image_at : List ℕ → ℕ → Bool → ℕ → ℕ
image_at o f c n = image_of (record { order = o; flips = f; out = c }) n

-- an image, or its complement
unfoldable pub choice : List ℕ → ℕ → Bool → ℕ
choice images f c = cond c (65535 - get_or images f 0) (get_or images f 0)

-- a number is the one given or one of the images or of their complements
pub data IsAmong (images : List ℕ) (given : ℕ) (n : ℕ) : Type 0 where
  Given : n ≡ given → IsAmong images given n
  Image : (f : ℕ) (c : Bool) → f < 16 → n ≡ choice images f c → IsAmong images given n

-- the first transform of an order, with these images, that makes a number
pub record IsFirstAmong (images listed : List ℕ) (n : ℕ) (t : Transform) : Type 0 where
  pub order : t.order ≡ listed
  pub flips : t.flips < 16
  pub makes : choice images t.flips t.out ≡ n
  pub first : (f : ℕ) (c : Bool) → f < 16 → bit_of c + 2 * f < bit_of t.out + 2 * t.flips → choice images f c ≢ n
