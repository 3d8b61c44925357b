-- THE NUMBERS OF THE ARCHITECTURE: the source's sizes, indices and ranges are ours.
use Prim.Native.Nat.{ℕ, zero, suc, ◌+◌, ◌-◌, ◌*◌, ◌%◌, ◌^◌, ◌<◌, ◌≤◌}
use mathlib.Core.Bool.{true}
use mathlib.Core.Logic.{◌↔◌, ◌⊎◌, inl, inr}
use mathlib.Core.Path.{◌≡◌, refl}
use native.Mathlib.Decide.{dec_lt}
use native.Mathlib.Nat.{mul-le-mul_right}
use native.Mathlib.Omega.{arith}
use borrow.Author.Tests.{eqb-true, eq-eqb}
use Rattle.entry.specs.Entry.{size_of}
use Rattle.entry.proofs.Levels.{at_levels}
use Rattle.walk.specs.Walk.{index_of, base_of}
use Rattle.plan.specs.Find.{starts_of}
use Rattle.verus.specs.Regions.{Aligned}
use Rattle.verus.specs.Mappings.{max_base, max_phyaddr}
use Rattle.verus.specs.Arch.{x86_arch, entry_size, num_entries, index_for_vaddr, entry_base, next_entry_base, upper_vaddr, ArchInv, InTable}

-- ENTRY_SIZE
pub entry_size_lem : (l : ℕ) → l < 4 → entry_size (3 - l) ≡ size_of l
unfolding x86_arch size_of
entry_size_lem = at_levels (λ l. entry_size (3 - l) ≡ size_of l) refl refl refl refl

-- NUM_ENTRIES: 512, and every index of a walk is below it
pub num_entries_lem : (l : ℕ) → l < 4 → (num_entries (3 - l) ≡ 512) × ((va : ℕ) → index_of l va < num_entries (3 - l))
unfolding x86_arch index_of
num_entries_lem = at_levels (λ l. (num_entries (3 - l) ≡ 512) × ((va : ℕ) → index_of l va < num_entries (3 - l)))
    (refl, λ va. omega arith) (refl, λ va. omega arith) (refl, λ va. omega arith) (refl, λ va. omega arith)

-- INDEX_FOR_VADDR: in the range of a table, the index that a walk takes
pub index_for_vaddr_lem : (l base va : ℕ) → InTable l base va → index_for_vaddr (3 - l) base va ≡ index_of l va
unfolding x86_arch index_of size_of
index_for_vaddr_lem l base va t = go l t.level t.aligned t.from t.upto
  where
    go : (l : ℕ) → l < 4 → base % upper_vaddr (3 - l) 0 ≡ 0 → base ≤ va → va < upper_vaddr (3 - l) base → index_for_vaddr (3 - l) base va ≡ index_of l va
    go zero u a f k = omega arith
    go (suc zero) u a f k = omega arith
    go (suc (suc zero)) u a f k = omega arith
    go (suc (suc (suc zero))) u a f k = omega arith
    go (suc (suc (suc (suc l)))) u a f k = absurd (omega arith)

-- ENTRY_BASE of that index: where the entry's range begins
pub entry_base_lem : (l base va : ℕ) → InTable l base va → entry_base (3 - l) base (index_for_vaddr (3 - l) base va) ≡ base_of l va
unfolding x86_arch base_of size_of
entry_base_lem l base va t = go l t.level t.aligned t.from t.upto
  where
    go : (l : ℕ) → l < 4 → base % upper_vaddr (3 - l) 0 ≡ 0 → base ≤ va → va < upper_vaddr (3 - l) base
        → entry_base (3 - l) base (index_for_vaddr (3 - l) base va) ≡ base_of l va
    go zero u a f k = omega arith
    go (suc zero) u a f k = omega arith
    go (suc (suc zero)) u a f k = omega arith
    go (suc (suc (suc zero))) u a f k = omega arith
    go (suc (suc (suc (suc l)))) u a f k = absurd (omega arith)

-- NEXT_ENTRY_BASE: where it ends
pub next_entry_base_lem : (l base va : ℕ) → InTable l base va → next_entry_base (3 - l) base (index_for_vaddr (3 - l) base va) ≡ base_of l va + size_of l
unfolding x86_arch base_of size_of
next_entry_base_lem l base va t = go l t.level t.aligned t.from t.upto
  where
    go : (l : ℕ) → l < 4 → base % upper_vaddr (3 - l) 0 ≡ 0 → base ≤ va → va < upper_vaddr (3 - l) base
        → next_entry_base (3 - l) base (index_for_vaddr (3 - l) base va) ≡ base_of l va + size_of l
    go zero u a f k = omega arith
    go (suc zero) u a f k = omega arith
    go (suc (suc zero)) u a f k = omega arith
    go (suc (suc (suc zero))) u a f k = omega arith
    go (suc (suc (suc (suc l)))) u a f k = absurd (omega arith)

-- NONLINEAR_QUERY1: an address that is aligned begins its entry's range, from any base that is
pub aligned_entry_base : (l base va : ℕ) → l < 4 → base ≤ va → va % size_of l ≡ 0 → base % size_of l ≡ 0 → entry_base (3 - l) base (index_for_vaddr (3 - l) base va) ≡ va
unfolding x86_arch size_of
aligned_entry_base l base va u v a b = at_levels (λ l. va % size_of l ≡ 0 → base % size_of l ≡ 0 → entry_base (3 - l) base (index_for_vaddr (3 - l) base va) ≡ va)
    (λ a b. omega arith) (λ a b. omega arith) (λ a b. omega arith) (λ a b. omega arith) l u a b

-- X86_ARCH_INV, LEMMA_X86_ARCH_SPEC_INV
pub x86_arch_inv : ArchInv
unfolding x86_arch
x86_arch_inv = record {
  size_low = at_levels (λ i. 0 < entry_size i) (omega arith) (omega arith) (omega arith) (omega arith);
  size_high = at_levels (λ i. entry_size i ≤ 512 * 512 * 512 * 4096) (omega arith) (omega arith) (omega arith) (omega arith);
  entries_low = at_levels (λ i. 0 < num_entries i) (omega arith) (omega arith) (omega arith) (omega arith);
  entries_high = at_levels (λ i. num_entries i ≤ 512) (omega arith) (omega arith) (omega arith) (omega arith);
  next_layer = λ i u. next i u;
}
  where
    next : (i : ℕ) → suc i < 4 → entry_size i ≡ entry_size (suc i) * num_entries (suc i)
    next zero u = omega arith
    next (suc zero) u = omega arith
    next (suc (suc zero)) u = omega arith
    next (suc (suc (suc i))) u = absurd (omega arith)

-- X86_ARCH_SPEC_UPPER_BOUND
pub upper_bound : (upper_vaddr 0 0 ≡ 2 ^ 48) × (upper_vaddr 0 0 ≡ max_base)
unfolding x86_arch
upper_bound = (omega arith, omega arith)

-- OVERFLOW_BOUNDS
pub overflow_bounds : (512 * 512 * 512 * 4096 * 513 < 2 ^ 64) × (max_base + 512 * 512 * 512 * 4096 * 513 < 2 ^ 64)
overflow_bounds = (omega arith, omega arith)

-- LEMMA_MAXPHYADDR_FACTS, at the width of 52
pub maxphyaddr_facts : (2 ^ 32 - 1 ≤ max_phyaddr) × (max_phyaddr ≤ 2 ^ 52 - 1)
maxphyaddr_facts = (omega arith, omega arith)

-- LEMMA_ENTRY_SIZES_ALIGNED and .._INCREASE
pub entry_sizes : (i j : ℕ) → i ≤ j → j < 4 → (entry_size i % entry_size j ≡ 0) × (entry_size j ≤ entry_size i)
unfolding x86_arch
entry_sizes zero zero u v = (omega arith, omega arith)
entry_sizes zero (suc zero) u v = (omega arith, omega arith)
entry_sizes zero (suc (suc zero)) u v = (omega arith, omega arith)
entry_sizes zero (suc (suc (suc zero))) u v = (omega arith, omega arith)
entry_sizes (suc zero) (suc zero) u v = (omega arith, omega arith)
entry_sizes (suc zero) (suc (suc zero)) u v = (omega arith, omega arith)
entry_sizes (suc zero) (suc (suc (suc zero))) u v = (omega arith, omega arith)
entry_sizes (suc (suc zero)) (suc (suc zero)) u v = (omega arith, omega arith)
entry_sizes (suc (suc zero)) (suc (suc (suc zero))) u v = (omega arith, omega arith)
entry_sizes (suc (suc (suc zero))) (suc (suc (suc zero))) u v = (omega arith, omega arith)
entry_sizes (suc i) zero u v = absurd (omega arith)
entry_sizes (suc (suc i)) (suc zero) u v = absurd (omega arith)
entry_sizes (suc (suc (suc i))) (suc (suc zero)) u v = absurd (omega arith)
entry_sizes (suc (suc (suc (suc i)))) (suc (suc (suc zero))) u v = absurd (omega arith)
entry_sizes i (suc (suc (suc (suc j)))) u v = absurd (omega arith)

-- ALIGNED_EXEC, of the size of a level: the source asks for no other
pub aligned_exec : (l va : ℕ) → (starts_of l va ≡ true) ↔ Aligned va (size_of l)
unfolding starts_of
aligned_exec l va = (λ e. eqb-true (va % size_of l) 0 e, λ e. eq-eqb (va % size_of l) 0 e)

-- an aligned page that begins in the range of an entry of its level or a higher one ends there
ends_inside : (l s idx base va : ℕ) → l < 4 → s ≤ l → base % size_of l ≡ 0 → va % size_of s ≡ 0 → va < next_entry_base (3 - l) base idx
    → va + size_of s ≤ next_entry_base (3 - l) base idx
unfolding x86_arch size_of
ends_inside zero zero idx base va u v a b k = omega arith
ends_inside (suc zero) zero idx base va u v a b k = omega arith
ends_inside (suc zero) (suc zero) idx base va u v a b k = omega arith
ends_inside (suc (suc zero)) zero idx base va u v a b k = omega arith
ends_inside (suc (suc zero)) (suc zero) idx base va u v a b k = omega arith
ends_inside (suc (suc zero)) (suc (suc zero)) idx base va u v a b k = omega arith
ends_inside (suc (suc (suc zero))) zero idx base va u v a b k = omega arith
ends_inside (suc (suc (suc zero))) (suc zero) idx base va u v a b k = omega arith
ends_inside (suc (suc (suc zero))) (suc (suc zero)) idx base va u v a b k = omega arith
ends_inside (suc (suc (suc zero))) (suc (suc (suc zero))) idx base va u v a b k = omega arith
ends_inside zero (suc s) idx base va u v a b k = absurd (omega arith)
ends_inside (suc zero) (suc (suc s)) idx base va u v a b k = absurd (omega arith)
ends_inside (suc (suc zero)) (suc (suc (suc s))) idx base va u v a b k = absurd (omega arith)
ends_inside (suc (suc (suc zero))) (suc (suc (suc (suc s)))) idx base va u v a b k = absurd (omega arith)
ends_inside (suc (suc (suc (suc l)))) s idx base va u v a b k = absurd (omega arith)

-- NONLINEAR_QUERY2: where a page of an entry and the range that is asked overlap, the entry is the one of that range. Which of the two begins
-- first is told apart, as in the source's overlap.
pub overlapping_index : (l s i idx base va b size : ℕ) → l < 4 → s ≤ l → base % size_of l ≡ 0 → va % size_of s ≡ 0
    → ((va ≤ b) × (b < va + size_of s)) ⊎ ((b < va) × (va < b + size))
    → entry_base (3 - l) base i ≤ b → b < next_entry_base (3 - l) base i → b + size ≤ next_entry_base (3 - l) base i
    → entry_base (3 - l) base idx ≤ va → va < next_entry_base (3 - l) base idx → i ≡ idx
overlapping_index l s i idx base va b size u v al av o from upto ends here there = go (dec_lt i idx) (dec_lt idx i) o
  where
    step : (x y : ℕ) → x < y → (x + 1) * entry_size (3 - l) ≤ y * entry_size (3 - l)
    step x y k = mul-le-mul_right (entry_size (3 - l)) (omega arith)

    go : Dec (i < idx) → Dec (idx < i) → ((va ≤ b) × (b < va + size_of s)) ⊎ ((b < va) × (va < b + size)) → i ≡ idx
    go (yes k) d (inl (x, y)) = absurd (omega (arith, step i idx k))
    go (yes k) d (inr (x, y)) = absurd (omega (arith, step i idx k))
    go (no n) (yes k) (inl (x, y)) = absurd (omega (arith, step idx i k, ends_inside l s idx base va u v al av there))
    go (no n) (yes k) (inr (x, y)) = absurd (omega (arith, step idx i k))
    go (no n) (no k) o = omega arith
