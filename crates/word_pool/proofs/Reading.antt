-- What a block's size and words are after a write, and in a block of its first words.
use Rattle.std.proofs.Common.{ℕ, ◌≡◌, ◌≢◌, ◌<◌, ◌≤◌, List, Option, Some, None, arith, refl, get_or-set_same, get_or-set_other, length-set, length-take, get_or-take}
use Rattle.word_pool.specs.Heap.{size_of, word_of, with_word, shortened}

pub size-with_word : (block : Option (List ℕ)) (i word : ℕ) → size_of (with_word block i word) ≡ size_of block
size-with_word None i word = refl
size-with_word (Some words) i word = length-set words i word

pub word-with_word_same : (block : Option (List ℕ)) (i word : ℕ) → i < size_of block → word_of (with_word block i word) i ≡ word
word-with_word_same None i word l = absurd (omega arith)
word-with_word_same (Some words) i word l = get_or-set_same words i word 0 l

pub word-with_word_other : (block : Option (List ℕ)) (i word j : ℕ) → j ≢ i → word_of (with_word block i word) j ≡ word_of block j
word-with_word_other None i word j n = refl
word-with_word_other (Some words) i word j n = get_or-set_other words i j word 0 n

pub size-shortened : (block : Option (List ℕ)) (n : ℕ) → n ≤ size_of block → size_of (shortened block n) ≡ n
size-shortened None n l = omega arith
size-shortened (Some words) n l = omega (arith, length-take n words)

pub word-shortened : (block : Option (List ℕ)) (n i : ℕ) → i < n → word_of (shortened block n) i ≡ word_of block i
word-shortened None n i l = refl
word-shortened (Some words) n i l = get_or-take n words i 0 l
