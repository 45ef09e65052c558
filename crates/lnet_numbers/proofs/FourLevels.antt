-- The four levels under changes of one bit and under growth.
use Rattle.std.proofs.Common.{ℕ, ◌*◌, ◌/◌, max, ◌<◌, ◌≤◌, Bool, true, false, List, length, set, arith}
use Rattle.std.proofs.lemmas.List.{length-set}
use Rattle.lnet_numbers.specs.Words.{IsZeroWord, HasBitIn, GainsClearBits}
use Rattle.lnet_numbers.specs.Tower.{IsTower}
use Rattle.lnet_numbers.proofs.Extending.{length-extended}
use Rattle.lnet_numbers.proofs.Towers.{IsOver-set, IsOver-kept, IsOver-cleared, IsOver-extended, word-above}

pub IsTower-set : (numbers words blocks regions : List Bool) (n : ℕ) → IsTower numbers words blocks regions → n < length numbers →
    IsTower (set numbers n true) (set words (n / 64) true) (set blocks (n / 64 / 64) true) (set regions (n / 64 / 64 / 64) true)
IsTower-set numbers words blocks regions n tower inside =
    let word = word-above words numbers n tower.first inside in
    let block = word-above blocks words (n / 64) tower.second word in
    record {
      first = IsOver-set words numbers n tower.first inside;
      second = IsOver-set blocks words (n / 64) tower.second word;
      third = IsOver-set regions blocks (n / 64 / 64) tower.third block;
      top = (let top = tower.top in omega (arith, length-set regions (n / 64 / 64 / 64) true));
    }

-- a bit cleared, in as many levels as its word has no other
pub IsTower-clear_one : (numbers words blocks regions : List Bool) (n : ℕ) → IsTower numbers words blocks regions → n < length numbers →
    HasBitIn (set numbers n false) (n / 64) → IsTower (set numbers n false) words blocks regions
IsTower-clear_one numbers words blocks regions n tower inside left =
    record { first = IsOver-kept words numbers n tower.first inside left; second = tower.second; third = tower.third; top = tower.top }

pub IsTower-clear_two : (numbers words blocks regions : List Bool) (n : ℕ) → IsTower numbers words blocks regions → n < length numbers →
    IsZeroWord (set numbers n false) (n / 64) → HasBitIn (set words (n / 64) false) (n / 64 / 64) →
    IsTower (set numbers n false) (set words (n / 64) false) blocks regions
IsTower-clear_two numbers words blocks regions n tower inside zero_word left =
    let word = word-above words numbers n tower.first inside in
    record {
      first = IsOver-cleared words numbers n tower.first inside zero_word;
      second = IsOver-kept blocks words (n / 64) tower.second word left;
      third = tower.third;
      top = tower.top;
    }

pub IsTower-clear_three : (numbers words blocks regions : List Bool) (n : ℕ) → IsTower numbers words blocks regions → n < length numbers →
    IsZeroWord (set numbers n false) (n / 64) → IsZeroWord (set words (n / 64) false) (n / 64 / 64) →
    HasBitIn (set blocks (n / 64 / 64) false) (n / 64 / 64 / 64) →
    IsTower (set numbers n false) (set words (n / 64) false) (set blocks (n / 64 / 64) false) regions
IsTower-clear_three numbers words blocks regions n tower inside zero_word zero_block left =
    let word = word-above words numbers n tower.first inside in
    let block = word-above blocks words (n / 64) tower.second word in
    record {
      first = IsOver-cleared words numbers n tower.first inside zero_word;
      second = IsOver-cleared blocks words (n / 64) tower.second word zero_block;
      third = IsOver-kept regions blocks (n / 64 / 64) tower.third block left;
      top = tower.top;
    }

pub IsTower-clear_four : (numbers words blocks regions : List Bool) (n : ℕ) → IsTower numbers words blocks regions → n < length numbers →
    IsZeroWord (set numbers n false) (n / 64) → IsZeroWord (set words (n / 64) false) (n / 64 / 64) →
    IsZeroWord (set blocks (n / 64 / 64) false) (n / 64 / 64 / 64) →
    IsTower (set numbers n false) (set words (n / 64) false) (set blocks (n / 64 / 64) false) (set regions (n / 64 / 64 / 64) false)
IsTower-clear_four numbers words blocks regions n tower inside zero_word zero_block zero_region =
    let word = word-above words numbers n tower.first inside in
    let block = word-above blocks words (n / 64) tower.second word in
    record {
      first = IsOver-cleared words numbers n tower.first inside zero_word;
      second = IsOver-cleared blocks words (n / 64) tower.second word zero_block;
      third = IsOver-cleared regions blocks (n / 64 / 64) tower.third block zero_region;
      top = (let top = tower.top in omega (arith, length-set regions (n / 64 / 64 / 64) false));
    }

-- a level that has grown still reaches over one that has grown to a word for each of its first bits at most
reaches-extended : (lower upper lower' upper' : List Bool) (words : ℕ) → length lower ≤ 64 * length upper → GainsClearBits upper upper' →
    length lower' ≤ max (length lower) (64 * words) → words ≤ length upper' → length lower' ≤ 64 * length upper'
reaches-extended lower upper lower' upper' words reached gains most enough = let more = length-extended upper upper' gains in omega arith

-- levels that have grown, each to so many words at most as there are bits for them in the level above
pub IsTower-extended : (numbers words blocks regions numbers' words' blocks' regions' : List Bool) (of_numbers of_words of_blocks : ℕ) →
    IsTower numbers words blocks regions → GainsClearBits numbers numbers' → GainsClearBits words words' → GainsClearBits blocks blocks' →
    GainsClearBits regions regions' → length numbers' ≤ max (length numbers) (64 * of_numbers) → of_numbers ≤ length words' →
    length words' ≤ max (length words) (64 * of_words) → of_words ≤ length blocks' → length blocks' ≤ max (length blocks) (64 * of_blocks) →
    of_blocks ≤ length regions' → length regions' ≤ max (length regions) 64 → IsTower numbers' words' blocks' regions'
IsTower-extended numbers words blocks regions numbers' words' blocks' regions' of_numbers of_words of_blocks tower more_numbers more_words
    more_blocks more_regions most_numbers enough_words most_words enough_blocks most_blocks enough_regions most_regions =
    record {
      first = IsOver-extended words numbers words' numbers' tower.first more_words more_numbers
          (reaches-extended numbers words numbers' words' of_numbers tower.first.reaches more_words most_numbers enough_words);
      second = IsOver-extended blocks words blocks' words' tower.second more_blocks more_words
          (reaches-extended words blocks words' blocks' of_words tower.second.reaches more_blocks most_words enough_blocks);
      third = IsOver-extended regions blocks regions' blocks' tower.third more_regions more_blocks
          (reaches-extended blocks regions blocks' regions' of_blocks tower.third.reaches more_regions most_blocks enough_regions);
      top = (let top = tower.top in omega arith);
    }
