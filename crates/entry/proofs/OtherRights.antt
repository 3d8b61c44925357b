-- A word with other rights says the same with these rights, at every level; every other bit is as it was.
use Rattle.std.proofs.Common.{◌≡◌, ℕ, zero, suc, ◌+◌, ◌*◌, ◌/◌, ◌%◌, ◌^◌, ◌<◌, Bool, true, false, cond, eqb, sym, refl, ap, ◌∙◌, arith}
use borrow.Author.Tests.{lt-leb}
use Rattle.entry.specs.Entry.{size_of, bit, rights_of, frame_of, table_of, padded, large_of, present_of, says}
use Rattle.entry.specs.Words.{with_rights}
use Rattle.entry.specs.Kept.{SameButRights, regranted}
use Rattle.entry.specs.declared.Rights.{Rights}
use Rattle.entry.specs.declared.Entry.TheVariants.{Nothing, Page, Table}
use Rattle.entry.proofs.Written.{flag_lt, bit_flag}

-- the fields between bits 3 and 62, by those bits alone
seven : (w : ℕ) → w / 128 % 2 ≡ w / 8 % 2 ^ 60 / 16 % 2
seven w = omega arith

number : (w : ℕ) → w / 4096 % 2 ^ 40 ≡ w / 8 % 2 ^ 60 / 512 % 2 ^ 40
number w = omega arith

frame_two : (w : ℕ) → w / 2097152 % 2 ^ 31 ≡ w / 8 % 2 ^ 60 / 262144 % 2 ^ 31
frame_two w = omega arith

frame_one : (w : ℕ) → w / 1073741824 % 2 ^ 22 ≡ w / 8 % 2 ^ 60 / 134217728 % 2 ^ 22
frame_one w = omega arith

pad_two : (w : ℕ) → w / 8192 % 256 ≡ w / 8 % 2 ^ 60 / 1024 % 256
pad_two w = omega arith

pad_one : (w : ℕ) → w / 8192 % 131072 ≡ w / 8 % 2 ^ 60 / 1024 % 131072
pad_one w = omega arith

-- a field that depends on those bits alone is kept
kept_field : (f g : ℕ → ℕ) → ((w : ℕ) → f w ≡ g (w / 8 % 2 ^ 60)) → (v w : ℕ) → SameButRights v w → f v ≡ f w
kept_field f g h v w k = h v ∙ ap g k.middle ∙ sym (h w)

module _ (v w : ℕ) (k : SameButRights v w) where
  kept_seven : v / 128 % 2 ≡ w / 128 % 2
  kept_seven = kept_field (λ x. x / 128 % 2) (λ q. q / 16 % 2) seven v w k

  kept_number : v / 4096 % 2 ^ 40 ≡ w / 4096 % 2 ^ 40
  kept_number = kept_field (λ x. x / 4096 % 2 ^ 40) (λ q. q / 512 % 2 ^ 40) number v w k

  -- a large page
  kept_large : (n : ℕ) → large_of (suc n) v ≡ regranted (rights_of v) (large_of (suc n) w)
  unfolding large_of padded frame_of size_of regranted
  kept_large zero =
      rw (kept_field (λ x. x / 8192 % 256) (λ q. q / 1024 % 256) pad_two v w k, kept_field (λ x. x / 2097152 % 2 ^ 31) (λ q. q / 262144 % 2 ^ 31) frame_two v w k)
      (go (eqb (w / 8192 % 256) 0))
    where
      go : (b : Bool) → cond b (Page (w / 2097152 % 2 ^ 31 * 2097152) (rights_of v)) Nothing ≡ regranted (rights_of v) (cond b (Page (w / 2097152 % 2 ^ 31 * 2097152) (rights_of w)) Nothing)
      go true = refl
      go false = refl
  kept_large (suc zero) =
      rw (kept_field (λ x. x / 8192 % 131072) (λ q. q / 1024 % 131072) pad_one v w k, kept_field (λ x. x / 1073741824 % 2 ^ 22) (λ q. q / 134217728 % 2 ^ 22) frame_one v w k)
      (go (eqb (w / 8192 % 131072) 0))
    where
      go : (b : Bool) → cond b (Page (w / 1073741824 % 2 ^ 22 * 1073741824) (rights_of v)) Nothing ≡ regranted (rights_of v) (cond b (Page (w / 1073741824 % 2 ^ 22 * 1073741824) (rights_of w)) Nothing)
      go true = refl
      go false = refl
  kept_large (suc (suc n)) = let high : 2 < suc (suc (suc n)) = omega arith in simp (lt-leb (suc (suc (suc n))) 2 high)

  kept_present : (n : ℕ) → present_of n v ≡ regranted (rights_of v) (present_of n w)
  unfolding present_of frame_of size_of table_of bit regranted
  kept_present zero = rw kept_number
  kept_present (suc n) = rw (kept_seven, kept_number, kept_large n) (go (eqb (w / 128 % 2) 1))
    where
      go : (b : Bool) → cond b (regranted (rights_of v) (large_of (suc n) w)) (Table (w / 4096 % 2 ^ 40) (rights_of v))
          ≡ regranted (rights_of v) (cond b (large_of (suc n) w) (Table (w / 4096 % 2 ^ 40) (rights_of w)))
      go true = refl
      go false = refl

  -- IT SAYS THE SAME but for its rights, at every level
  pub kept_says : (n : ℕ) → says n v ≡ regranted (rights_of v) (says n w)
  unfolding says bit regranted
  kept_says n = let a : v / 1 % 2 ≡ w / 1 % 2 = omega (arith, k.present) in rw (a, kept_present n) (go (eqb (w / 1 % 2) 1))
    where
      go : (b : Bool) → cond b (regranted (rights_of v) (present_of n w)) Nothing ≡ regranted (rights_of v) (cond b (present_of n w) Nothing)
      go true = refl
      go false = refl

-- The word that protect writes ------------------------------------------------------------------------------------------------

with_numbers : (w a b x : ℕ) → a < 2 → b < 2 → x < 2 → SameButRights (w % 2 + 2 * a + 4 * b + 8 * (w / 8 % 2 ^ 60) + 2 ^ 63 * x) w
with_numbers w a b x u v y = record { present = omega arith; middle = omega arith }

pub with_rights_kept : (w : ℕ) (r : Rights) → SameButRights (with_rights w r) w
unfolding with_rights
with_rights_kept w r = with_numbers w _ _ _ (flag_lt r.writable) (flag_lt r.user) (flag_lt r.noexec)

record Bits (a b x w : ℕ) : Type 0 where
  one : w / 2 % 2 ≡ a
  two : w / 4 % 2 ≡ b
  last : w / 2 ^ 63 % 2 ≡ x

with_bits : (w a b x : ℕ) → a < 2 → b < 2 → x < 2 → Bits a b x (w % 2 + 2 * a + 4 * b + 8 * (w / 8 % 2 ^ 60) + 2 ^ 63 * x)
with_bits w a b x u v y = record { one = omega arith; two = omega arith; last = omega arith }

pub with_rights_rights : (w : ℕ) (r : Rights) → rights_of (with_rights w r) ≡ r
unfolding with_rights rights_of
with_rights_rights w r =
    let k = with_bits w _ _ _ (flag_lt r.writable) (flag_lt r.user) (flag_lt r.noexec) in
    rw (bit_flag 1 _ r.writable k.one, bit_flag 2 _ r.user k.two, bit_flag 63 _ r.noexec k.last)

-- THE WORD WITH OTHER RIGHTS says the same with these rights
pub with_rights_says : (n w : ℕ) (r : Rights) → says n (with_rights w r) ≡ regranted r (says n w)
with_rights_says n w r = kept_says (with_rights w r) w (with_rights_kept w r) n ∙ ap (λ x. regranted x (says n w)) (with_rights_rights w r)

-- the marks, accessed (bit 5) and dirty (bit 6), among what is kept
pub with_rights_marks : (w : ℕ) (r : Rights) → with_rights w r / 32 % 4 ≡ w / 32 % 4
with_rights_marks w r = kept_field (λ x. x / 32 % 4) (λ q. q / 4 % 4) (λ x. omega arith) _ w (with_rights_kept w r)
