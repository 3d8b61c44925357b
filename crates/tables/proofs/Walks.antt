-- The walker of page tables has a walker's laws, and its meaning is `walk`: what is proved of walkers is proved of walks through page tables.
use mathlib.Core.Path.{◌≡◌, refl, ◌∙◌, ap, fun_ext, subst}
use mathlib.Core.Bool.{Bool, true, false, cond}
use Prim.Native.Nat.{ℕ, zero, suc}
use Rattle.entry.specs.Marks.{Marked}
use Rattle.entry.proofs.Marks.{marks_say_nothing}
use Rattle.walk.specs.Walk.{step_of, run, start, found_of, walk, entry_of, entered}
use Rattle.walk.specs.declared.Found.{Found}
use Rattle.walk.specs.declared.Place.{Place}
use Rattle.walk.specs.declared.Place.TheVariants.{Ended, Going}
use Rattle.walk.proofs.Steps.{run_ended}
use Rattle.world.specs.Walker as the
use Rattle.world.specs.Walker.{WalkerLaws, meaning, Gives, nowhere, cell}
use Rattle.tables.specs.Walks.{step_at, sayings, walker, one_space, reads_at, SamePrefix}
use Rattle.tables.specs.Roles.{Setting}
use Rattle.tables.specs.Discipline.{walker_of}
use native.Mathlib.Omega.{arith}
use Rattle.entry.specs.Entry.{table_of, says, everything}
use Rattle.entry.specs.declared.Entry.{Entry}
use Rattle.entry.specs.declared.Entry.TheVariants as entry
use Rattle.walk.specs.declared.Found.TheVariants.{Outside, NoAddress}
use Rattle.walk.proofs.Digits.{agree_up, same_index, same_base}

prefix_start : (root va vb : ℕ) → SamePrefix 4 va vb → start root va ≡ start root vb
unfolding start
prefix_start root va vb e = ap (λ b. cond b (Going (table_of root) everything) (Ended NoAddress)) e.alike

prefix_step : (h : ℕ → Bool) (m : ℕ → ℕ) (n va vb : ℕ) (p : Place) → SamePrefix n va vb → step_of h m n va p ≡ step_of h m n vb p
unfolding step_of entered
prefix_step h m n va vb (Ended f) e = refl
prefix_step h m n va vb (Going t r) e = ap (λ f. cond (h t) f (Ended Outside)) (rw (same_index n va vb e.above) (go (says n (m (entry_of n vb t)))))
  where
    go : (s : Entry) → entered n va r s ≡ entered n vb r s
    go entry.Nothing = refl
    go (entry.Page f g) = rw (same_base n va vb e.above)
    go (entry.Table u g) = refl

prefix_up : (n va vb : ℕ) → SamePrefix n va vb → SamePrefix (suc n) va vb
prefix_up n va vb e = record { above = agree_up n (suc n) va vb (omega arith) e.above; alike = e.alike }

-- a step can tell of a word only what it says
step_local : (h : ℕ → Bool) (m m' : ℕ → ℕ) (va n : ℕ) (p : Place) → ((c : ℕ) → reads_at h va n p ≡ cell c → sayings (m c) ≡ sayings (m' c))
    → step_at h m va n p ≡ step_at h m' va n p
unfolding step_at reads_at step_of
step_local h m m' va zero p g = refl
step_local h m m' va (suc n) (Ended f) g = refl
step_local h m m' va (suc n) (Going t r) g = ap (λ p. record { levels = n; place = p }) (go (h t) g)
  where
    comes : (ℕ → ℕ) → Place
    comes k = entered n va r (says n (k (entry_of n va t)))

    go : (b : Bool) → ((c : ℕ) → cond b (cell (entry_of n va t)) nowhere ≡ cell c → sayings (m c) ≡ sayings (m' c))
        → cond b (comes m) (Ended Outside) ≡ cond b (comes m') (Ended Outside)
    go true k = ap (λ s. entered n va r (s n)) (k (entry_of n va t) refl)
    go false k = refl

step_falls : (h : ℕ → Bool) (m : ℕ → ℕ) (va n k : ℕ) (p : Place) → k ≡ suc n → (step_at h m va k p).levels ≡ n
unfolding step_at
step_falls h m va n zero p e = absurd (omega arith)
step_falls h m va n (suc k) p e = omega arith

step_rests : (h : ℕ → Bool) (m : ℕ → ℕ) (va k : ℕ) (p : Place) → k ≡ 0 → step_at h m va k p ≡ record { levels = k; place = p }
unfolding step_at
step_rests h m va zero p e = refl
step_rests h m va (suc k) p e = absurd (omega arith)

step_alike : (h : ℕ → Bool) (m : ℕ → ℕ) (va vb n k : ℕ) (p : Place) → k ≡ suc n → SamePrefix n va vb → step_at h m va k p ≡ step_at h m vb k p
unfolding step_at
step_alike h m va vb n zero p e q = refl
step_alike h m va vb n (suc k) p e q = ap (λ p. record { levels = k; place = p }) (prefix_step h m k va vb p (subst (λ j. SamePrefix j va vb) (omega arith) q))

module _ (h : ℕ → Bool) {Address : Type 0} (root_of va_of : Address → ℕ) where
  -- ITS LAWS
  pub walker_laws : WalkerLaws (walker h root_of va_of)
  walker_laws = record {
    local = λ m m' a p. step_local h m m' (va_of a) p.levels p.place;
    falls = λ m a p n. step_falls h m (va_of a) n p.levels p.place;
    rests = λ m a p. step_rests h m (va_of a) p.levels p.place;
    alike_refl = λ n a. (refl, record { above = refl; alike = refl });
    alike_trans = λ n a b c p q. (p.0 ∙ q.0, record { above = p.1.above ∙ q.1.above; alike = p.1.alike ∙ q.1.alike });
    alike_up = λ n a b p. (p.0, prefix_up n (va_of a) (va_of b) p.1);
    alike_start = λ a b p. ap (λ q. record { levels = 4; place = q }) (ap (λ r. start r (va_of a)) p.0 ∙ prefix_start (root_of b) (va_of a) (va_of b) p.1);
    alike_step = λ m a b p n e q. step_alike h m (va_of a) (va_of b) n p.levels p.place e q.1;
  }

  runs : (m : ℕ → ℕ) (a : Address) (n : ℕ) (p : Place) → the.run (walker h root_of va_of) m a n (record { levels = n; place = p }) ≡ record { levels = 0; place = run h m n (va_of a) p }
  unfolding the.run run step_at
  runs m a zero p = refl
  runs m a (suc n) p = runs m a n (step_of h m n (va_of a) p)

  -- THE MEANING of the walker is `walk`.
  pub meaning_is_walk : (m : ℕ → ℕ) (a : Address) → meaning (walker h root_of va_of) m a ≡ walk h m (root_of a) (va_of a)
  unfolding walk
  meaning_is_walk m a = ap (λ p. found_of p.place) (runs m a 4 (start (root_of a) (va_of a)))

  -- a walk that has ended gives what it found
  pub ended_gives : (a : Address) (n : ℕ) (f : Found) → Gives (walker h root_of va_of) a (record { levels = n; place = Ended f }) f
  unfolding found_of
  ended_gives a n f m = ap (λ p. found_of p.place) (runs m a n (Ended f)) ∙ ap found_of (run_ended h m n (va_of a) f)

-- The machine's marks, accessed and dirty, are marks of this world.
pub marked_says : (v w : ℕ) → Marked v w → sayings v ≡ sayings w
marked_says v w k = fun_ext (λ n. marks_say_nothing n v w k)

pub one_space_meaning : (h : ℕ → Bool) (root : ℕ) (m : ℕ → ℕ) (va : ℕ) → meaning (one_space h root) m va ≡ walk h m root va
one_space_meaning h root = meaning_is_walk h (λ va. root) (λ va. va)

-- the laws of the walker of tables
pub laws_of : (σ : Setting) → WalkerLaws (walker_of σ)
laws_of σ = walker_laws σ.window (λ va. σ.cr3) (λ va. va)
