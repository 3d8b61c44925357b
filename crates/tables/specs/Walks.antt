-- The walker that takes `walk`'s own steps through page tables.
use Rattle.std.specs.Prelude.{◌≡◌, Bool, cond, ℕ, zero, suc, ◌/◌}
use Rattle.entry.specs.Entry.{size_of, says}
use Rattle.entry.specs.declared.Entry.{Entry}
use Rattle.walk.specs.Walk.{canonical, entry_of, step_of, start, found_of}
use Rattle.walk.specs.declared.Found.{Found}
use Rattle.walk.specs.declared.Place.{Place}
use Rattle.walk.specs.declared.Place.TheVariants.{Going, Ended}
use Rattle.world.specs.Walker.{Next, nowhere, cell, Walker}

-- a walk with so many levels to go
pub record Position : Type 0 where
  pub levels : ℕ
  pub place : Place

-- ONE STEP is `walk`'s, at the next level.
unfoldable pub step_at : (ℕ → Bool) → (ℕ → ℕ) → ℕ → ℕ → Place → Position
step_at h m va zero p = record { levels = zero; place = p }
step_at h m va (suc n) p = record { levels = n; place = step_of h m n va p }

-- the entry that it reads: none at a table outside the window, and none once the walk has ended
unfoldable pub reads_at : (ℕ → Bool) → ℕ → ℕ → Place → Next
reads_at h va zero p = nowhere
reads_at h va (suc n) (Going t r) = cond (h t) (cell (entry_of n va t)) nowhere
reads_at h va (suc n) (Ended f) = nowhere

-- what a word says, at each level
abbrev pub sayings : ℕ → ℕ → Entry
sayings w n = says n w

-- one prefix: the numbers differ only in what n more levels, and the place in the page, tell apart; and both are addresses, or neither is
pub record SamePrefix (n va vb : ℕ) : Type 0 where
  pub above : va / size_of n ≡ vb / size_of n
  pub alike : canonical va ≡ canonical vb

module _ (h : ℕ → Bool) {Address : Type 0} (root_of va_of : Address → ℕ) where
  -- THE WALKER. An address is of an address space, whose root it says (root_of, as in CR3), and it says its number there (va_of).
  abbrev pub walker : Walker ℕ (ℕ → Entry) Address Position Found
  walker = record {
    see = sayings;
    start = λ a. record { levels = 4; place = start (root_of a) (va_of a) };
    left = λ p. p.levels;
    reads = λ a p. reads_at h (va_of a) p.levels p.place;
    step = λ m a p. step_at h m (va_of a) p.levels p.place;
    answer = λ p. found_of p.place;
    Alike = λ n a b. (root_of a ≡ root_of b) × SamePrefix n (va_of a) (va_of b);
  }

-- One address space: an address is its number.
abbrev pub one_space : (ℕ → Bool) → ℕ → Walker ℕ (ℕ → Entry) ℕ Position Found
one_space h root = walker h (λ va. root) (λ va. va)
