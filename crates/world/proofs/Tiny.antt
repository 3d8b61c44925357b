-- A small walker for runs that are computed. Two levels: the root is cell 1000, and its word names a table t, which is the cells t and t + 1;
-- there each of the addresses 0 and 1 has its own cell, whose word names a page. A word names the half of it, 0 is nothing, and the lowest bit
-- is the machine's mark.
use mathlib.Core.Path.{◌≡◌, refl, ◌∙◌, ap}
use Prim.Native.Nat.{ℕ, zero, suc, ◌+◌, ◌/◌}
use native.Mathlib.Omega.{arith}
use Rattle.world.specs.Walker.{Next, nowhere, cell, Walker, WalkerLaws}

-- so many levels to go, at this table; or with this page, where no level is left
pub record Spot : Type 0 where
  pub levels : ℕ
  pub table : ℕ

-- the cell that an address reads in the table t
unfoldable pub entry : ℕ → ℕ → ℕ → ℕ
entry zero t va = t + va
entry (suc n) t va = t

-- one step
unfoldable pub onward : (ℕ → ℕ) → ℕ → ℕ → ℕ → Spot
onward m va zero t = record { levels = zero; table = t }
onward m va (suc n) zero = record { levels = n; table = zero }
onward m va (suc n) (suc t) = record { levels = n; table = m (entry n (suc t) va) / 2 }

-- what it reads
unfoldable pub next : ℕ → ℕ → ℕ → Next
next va zero t = nowhere
next va (suc n) zero = nowhere
next va (suc n) (suc t) = cell (entry n (suc t) va)

-- above the last level all addresses have one way
abbrev pub OnePrefix : ℕ → ℕ → ℕ → Type 0
OnePrefix zero va vb = va ≡ vb
OnePrefix (suc n) va vb = Unit {0}

pub onward_local : (m m' : ℕ → ℕ) (va n t : ℕ) → ((c : ℕ) → next va n t ≡ cell c → m c / 2 ≡ m' c / 2) → onward m va n t ≡ onward m' va n t
unfolding onward next
onward_local m m' va zero t h = refl
onward_local m m' va (suc n) zero h = refl
onward_local m m' va (suc n) (suc t) h = ap (λ x. record { levels = n; table = x }) (h (entry n (suc t) va) refl)

pub onward_falls : (m : ℕ → ℕ) (va n k t : ℕ) → k ≡ suc n → (onward m va k t).levels ≡ n
unfolding onward
onward_falls m va n zero t e = absurd (omega arith)
onward_falls m va n (suc k) zero e = omega arith
onward_falls m va n (suc k) (suc t) e = omega arith

pub onward_rests : (m : ℕ → ℕ) (va k t : ℕ) → k ≡ 0 → onward m va k t ≡ record { levels = k; table = t }
unfolding onward
onward_rests m va zero t e = refl
onward_rests m va (suc k) t e = absurd (omega arith)

pub onward_alike : (m : ℕ → ℕ) (va vb n k t : ℕ) → k ≡ suc n → OnePrefix n va vb → onward m va k t ≡ onward m vb k t
unfolding onward entry
onward_alike m va vb n zero t e p = refl
onward_alike m va vb n (suc k) zero e p = refl
onward_alike m va vb zero (suc zero) (suc t) e p = rw p
onward_alike m va vb (suc n) (suc zero) (suc t) e p = absurd (omega arith)
onward_alike m va vb n (suc (suc k)) (suc t) e p = refl

pub prefix_refl : (n va : ℕ) → OnePrefix n va va
prefix_refl zero va = refl
prefix_refl (suc n) va = tt

pub prefix_trans : (n va vb vc : ℕ) → OnePrefix n va vb → OnePrefix n vb vc → OnePrefix n va vc
prefix_trans zero va vb vc p q = p ∙ q
prefix_trans (suc n) va vb vc p q = tt

abbrev pub tiny : Walker ℕ ℕ ℕ Spot ℕ
tiny = record {
  see = λ w. w / 2;
  start = λ va. record { levels = 2; table = 1000 };
  left = λ p. p.levels;
  reads = λ va p. next va p.levels p.table;
  step = λ m va p. onward m va p.levels p.table;
  answer = λ p. p.table;
  Alike = OnePrefix;
}

pub tiny_laws : WalkerLaws tiny
tiny_laws = record {
  local = λ m m' va p. onward_local m m' va p.levels p.table;
  falls = λ m va p n. onward_falls m va n p.levels p.table;
  rests = λ m va p. onward_rests m va p.levels p.table;
  alike_refl = prefix_refl;
  alike_trans = prefix_trans;
  alike_up = λ n va vb p. tt;
  alike_start = λ va vb p. refl;
  alike_step = λ m va vb p n. onward_alike m va vb n p.levels p.table;
}
