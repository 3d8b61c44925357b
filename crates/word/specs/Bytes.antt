-- The number that n bytes make up, the lowest first, and bytes with a number written over n of them. A word has eight.
use Rattle.std.specs.Prelude.{ℕ, zero, suc, ◌+◌, ◌*◌, ◌/◌, ◌%◌, ◌^◌, List, slice_index, slice_set}

unfoldable pub bytes_at : ℕ → List ℕ → ℕ → ℕ
bytes_at zero s o = 0
bytes_at (suc n) s o = bytes_at n s o + slice_index s (o + n) * 256 ^ n

unfoldable pub put_bytes : ℕ → List ℕ → ℕ → ℕ → List ℕ
put_bytes zero s o w = s
put_bytes (suc n) s o w = slice_set (put_bytes n s o w) (o + n) (w / 256 ^ n % 256)

-- the word whose first byte is at o
unfoldable pub word_at : List ℕ → ℕ → ℕ
word_at s o = bytes_at 8 s o

-- the bytes with the word w at o
unfoldable pub put_word : List ℕ → ℕ → ℕ → List ℕ
put_word s o w = put_bytes 8 s o w
