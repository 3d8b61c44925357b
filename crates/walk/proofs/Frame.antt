-- Frame laws, for any memory: a walk depends on what the words that it reads say, and on nothing else.
use Rattle.std.proofs.Common.{◌≡◌, ℕ, zero, suc, Bool, true, false, cond, ◌≢◌, sym, refl, ap, ◌∙◌, subst}
use native.Mathlib.Decide.{ℕ_discrete}
use Rattle.word.specs.Memory.{set}
use Rattle.word.proofs.Set.{set_at, set_same, set_other}
use Rattle.entry.specs.Entry.{says}
use Rattle.entry.specs.Marks.{Marked}
use Rattle.entry.specs.declared.Rights.{Rights}
use Rattle.entry.proofs.Marks.{marks_say_nothing}
use Rattle.walk.specs.Walk.{entry_of, entered, step_of, run, start, found_of, walk}
use Rattle.walk.specs.Reads.{ReadsNow, Reads, ComesBy, by_start, by_step}
use Rattle.walk.specs.declared.Found.TheVariants.{Outside}
use Rattle.walk.specs.declared.Place.{Place}
use Rattle.walk.specs.declared.Place.TheVariants.{Going, Ended}

-- the two memories say the same at x, at every level
abbrev pub SaysAlike : (ℕ → ℕ) → (ℕ → ℕ) → ℕ → Type 0
SaysAlike m m' x = (n : ℕ) → says n (m' x) ≡ says n (m x)

module _ (h : ℕ → Bool) (m m' : ℕ → ℕ) (va : ℕ) where
  step_agrees : (n : ℕ) (p : Place) → ReadsNow (SaysAlike m m') h n va p → step_of h m' n va p ≡ step_of h m n va p
  unfolding step_of
  step_agrees n (Ended f) k = refl
  step_agrees n (Going t r) k = go (h t) (λ e. k e n)
    where
      go : (b : Bool) → (b ≡ true → says n (m' (entry_of n va t)) ≡ says n (m (entry_of n va t)))
          → cond b (entered n va r (says n (m' (entry_of n va t)))) (Ended Outside) ≡ cond b (entered n va r (says n (m (entry_of n va t)))) (Ended Outside)
      go true e = ap (entered n va r) (e refl)
      go false e = refl

  pub run_agrees : (n : ℕ) (p : Place) → Reads (SaysAlike m m') h m n va p → run h m' n va p ≡ run h m n va p
  unfolding run Reads
  run_agrees zero p k = refl
  run_agrees (suc n) p k = ap (run h m' n va) (step_agrees n p k.0) ∙ run_agrees n (step_of h m n va p) k.1

  -- a walk comes as before to a place on the way to which it reads nothing that changed
  pub way_agrees : (root n : ℕ) (p : Place) → ComesBy (SaysAlike m m') h m root va n p → ComesBy (SaysAlike m m') h m' root va n p
  way_agrees root n p by_start = by_start
  way_agrees root n p (by_step {p = q} w k) =
      subst (ComesBy (SaysAlike m m') h m' root va n) (step_agrees n q k) (by_step {p = q} (way_agrees root (suc n) q w) k)

now_map : {P Q : ℕ → Type 0} → ((x : ℕ) → P x → Q x) → (h : ℕ → Bool) (n va : ℕ) (p : Place) → ReadsNow P h n va p → ReadsNow Q h n va p
now_map f h n va (Going t r) k = λ e. f (entry_of n va t) (k e)
now_map f h n va (Ended g) k = tt

reads_map : {P Q : ℕ → Type 0} → ((x : ℕ) → P x → Q x) → (h : ℕ → Bool) (m : ℕ → ℕ) (n va : ℕ) (p : Place) → Reads P h m n va p → Reads Q h m n va p
unfolding Reads
reads_map f h m zero va p k = tt
reads_map f h m (suc n) va p k = (now_map f h n va p k.0, reads_map f h m n va (step_of h m n va p) k.1)

pub way_map : {P Q : ℕ → Type 0} → ((x : ℕ) → P x → Q x) → (h : ℕ → Bool) (m : ℕ → ℕ) (root va n : ℕ) (p : Place) → ComesBy P h m root va n p → ComesBy Q h m root va n p
way_map f h m root va n p by_start = by_start
way_map f h m root va n p (by_step {p = q} w k) = by_step {p = q} (way_map f h m root va (suc n) q w) (now_map f h n va q k)

-- every word that a walk reads is some word
reads_all : (P : ℕ → Type 0) → ((x : ℕ) → P x) → (h : ℕ → Bool) (m : ℕ → ℕ) (n va : ℕ) (p : Place) → Reads P h m n va p
unfolding Reads
reads_all P f h m zero va p = tt
reads_all P f h m (suc n) va p = (now p, reads_all P f h m n va (step_of h m n va p))
  where
    now : (q : Place) → ReadsNow P h n va q
    now (Going t r) = λ e. f (entry_of n va t)
    now (Ended g) = tt

-- what is not a says the same after a write of a
other_same : (m : ℕ → ℕ) (a v x : ℕ) → x ≢ a → SaysAlike m (set m a v) x
other_same m a v x n l = ap (says l) (set_other m a v x (λ e. n (sym e)))

-- THE FRAME LAW: a write of a word that the walk of an address does not read does not change its answer
pub walk_kept : (h : ℕ → Bool) (m : ℕ → ℕ) (root va a v : ℕ) → Reads (λ x. x ≢ a) h m 4 va (start root va) → walk h (set m a v) root va ≡ walk h m root va
unfolding walk
walk_kept h m root va a v k = ap found_of (run_agrees h m (set m a v) va 4 (start root va) (reads_map (other_same m a v) h m 4 va (start root va) k))

-- a walk from any place that it comes to
pub walk_from : (P : ℕ → Type 0) (h : ℕ → Bool) (m : ℕ → ℕ) (root va n : ℕ) (p : Place) → ComesBy P h m root va n p → walk h m root va ≡ found_of (run h m n va p)
unfolding walk run
walk_from P h m root va n p by_start = refl
walk_from P h m root va n p (by_step {p = q} w k) = walk_from P h m root va (suc n) q w

-- THE CHANGE LAW: the walk comes to the table t, of level n, by words other than its entry there; v is written to that entry;
-- then the walk goes on by what v says
pub walk_changed : (h : ℕ → Bool) (m : ℕ → ℕ) (root va n t v : ℕ) (r : Rights) → ComesBy (λ x. x ≢ entry_of n va t) h m root va (suc n) (Going t r) → h t ≡ true
    → walk h (set m (entry_of n va t) v) root va ≡ found_of (run h (set m (entry_of n va t) v) n va (entered n va r (says n v)))
unfolding run step_of
walk_changed h m root va n t v r w e =
    let m' : ℕ → ℕ = set m (entry_of n va t) v in
    walk_from (SaysAlike m m') h m' root va (suc n) (Going t r)
    (way_agrees h m m' va root (suc n) (Going t r) (way_map (other_same m (entry_of n va t) v) h m root va (suc n) (Going t r) w))
    ∙ rw (e, set_same m (entry_of n va t) v)

-- MARKS never change an answer: the machine may set accessed and dirty in any word
pub walk_marked : (h : ℕ → Bool) (m : ℕ → ℕ) (root va a v : ℕ) → Marked v (m a) → walk h (set m a v) root va ≡ walk h m root va
unfolding walk
walk_marked h m root va a v k = ap found_of (run_agrees h m (set m a v) va 4 (start root va) (reads_all (SaysAlike m (set m a v)) same h m 4 va (start root va)))
  where
    same : (x : ℕ) → SaysAlike m (set m a v) x
    same x n = go (ℕ_discrete a x)
      where
        go : Dec (a ≡ x) → says n (set m a v x) ≡ says n (m x)
        go (yes e) = ap (says n) (set_at m a v x e) ∙ marks_say_nothing n v (m a) k ∙ ap (λ y. says n (m y)) e
        go (no d) = ap (says n) (set_other m a v x d)
