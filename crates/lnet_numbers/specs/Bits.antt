-- The list of bits that words of 64 bits hold.
use Rattle.std.specs.Prelude.{ℕ, ◌*◌, ◌/◌, ◌%◌, Bool, List, map, length, slice_index, ◌==◌}
use Rattle.std.specs.List.{range_with_len}
use Rattle.std.specs.Int.{bit_at}

-- bit n of the words, false past the end
unfoldable pub bit_in : List ℕ → ℕ → Bool
bit_in words n = bit_at (slice_index words (n / 64)) (n % 64) == 1

-- the bits of the words: those of the first word first, and of each word the lowest first
unfoldable pub bits_of : List ℕ → List Bool
bits_of words = map (bit_in words) (range_with_len 0 (64 * length words))
