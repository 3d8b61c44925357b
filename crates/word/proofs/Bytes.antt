-- Laws of numbers in a list of bytes, each proved once for any number of bytes: what was put is read back, and what lies apart is as it was.
use Rattle.std.proofs.Common.{◌≡◌, ℕ, zero, suc, ◌+◌, ◌*◌, ◌/◌, ◌%◌, ◌^◌, ◌<◌, ◌≤◌, ◌≢◌, List, length, get_or, set, refl, ◌∙◌, add_comm, arith, length-set, get_or-set_other, get_or-set_same}
use native.Mathlib.Nat.{pow-succ', one-le-pow}
use native.Mathlib.Decide.{dec_lt}
use lib.Arith.{mod-mul}
use Rattle.word.specs.Bytes.{bytes_at, put_bytes, word_at, put_word}

length_puts : (n : ℕ) (s : List ℕ) (o w : ℕ) → length (put_bytes n s o w) ≡ length s
unfolding put_bytes
length_puts zero s o w = refl
length_puts (suc n) s o w = rw (length-set, length_puts n)

-- a byte that is none of the n
put_out : (n : ℕ) (s : List ℕ) (o w i : ℕ) → ((k : ℕ) → k < n → i ≢ o + k) → get_or (put_bytes n s o w) i 0 ≡ get_or s i 0
unfolding put_bytes
put_out zero s o w i h = refl
put_out (suc n) s o w i h =
    get_or-set_other (put_bytes n s o w) (o + n) i (w / 256 ^ n % 256) 0 (h n (omega arith)) ∙ put_out n s o w i (λ k p. h k (omega arith))

-- byte k of the n
put_in : (n : ℕ) (s : List ℕ) (o w k : ℕ) → k < n → o + n ≤ length s → get_or (put_bytes n s o w) (o + k) 0 ≡ w / 256 ^ k % 256
unfolding put_bytes
put_in zero s o w k p h = absurd (omega arith)
put_in (suc n) s o w k p h = go (dec_lt k n) (λ q. put_in n s o w k q (omega arith))
  where
    go : Dec (k < n) → (k < n → get_or (put_bytes n s o w) (o + k) 0 ≡ w / 256 ^ k % 256) → get_or (set (put_bytes n s o w) (o + n) (w / 256 ^ n % 256)) (o + k) 0 ≡ w / 256 ^ k % 256
    go (yes q) ih =
        get_or-set_other (put_bytes n s o w) (o + n) (o + k) (w / 256 ^ n % 256) 0 (omega arith) ∙ ih q
    go (no q) ih =
        let e : k ≡ n = omega arith in
        rw e (get_or-set_same (put_bytes n s o w) (o + n) (w / 256 ^ n % 256) 0 (rw length_puts (omega arith)))

-- m bytes, none of which is among the n
read_apart : (m n : ℕ) (s : List ℕ) (o w p : ℕ) → ((j k : ℕ) → j < m → k < n → p + j ≢ o + k) → bytes_at m (put_bytes n s o w) p ≡ bytes_at m s p
unfolding bytes_at
read_apart zero n s o w p h = refl
read_apart (suc m) n s o w p h =
    rw (read_apart m n s o w p (λ j k a b. h j k (omega arith) b), put_out n s o w (p + m) (λ k b. h m k (omega arith) b))

-- the first m of the n
read_back : (m n : ℕ) (s : List ℕ) (o w : ℕ) → m ≤ n → o + n ≤ length s → bytes_at m (put_bytes n s o w) o ≡ w % 256 ^ m
unfolding bytes_at
read_back zero n s o w p h = omega arith
read_back (suc m) n s o w p h =
    rw (read_back m n s o w (omega arith) h, put_in n s o w m (omega arith) h, pow-succ' 256 m, mod-mul w {m = 256} {c = 256 ^ m} (omega arith) (one-le-pow m 256 (omega arith)))
    (add_comm (w % 256 ^ m) (w / 256 ^ m % 256 * 256 ^ m))

pub length_put : (s : List ℕ) (o w : ℕ) → length (put_word s o w) ≡ length s
unfolding put_word
length_put = length_puts 8

-- a word that was put is read back
pub word_put_same : (s : List ℕ) (o w : ℕ) → o + 8 ≤ length s → w < 2 ^ 64 → word_at (put_word s o w) o ≡ w
unfolding word_at put_word
word_put_same s o w h f = read_back 8 8 s o w (omega arith) h ∙ omega arith

-- a word that shares no byte with it is as it was
pub word_put_apart : (s : List ℕ) (o w p : ℕ) → ((j k : ℕ) → j < 8 → k < 8 → p + j ≢ o + k) → word_at (put_word s o w) p ≡ word_at s p
unfolding word_at put_word
word_put_apart s o w p h = read_apart 8 8 s o w p h

-- a byte that is none of the word's is as it was
pub byte_put_apart : (s : List ℕ) (o w i : ℕ) → ((k : ℕ) → k < 8 → i ≢ o + k) → get_or (put_word s o w) i 0 ≡ get_or s i 0
unfolding put_word
byte_put_apart s o w i h = put_out 8 s o w i h
