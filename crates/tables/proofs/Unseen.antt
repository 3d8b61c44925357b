-- What changes nothing for walks: a write where no walk comes, a mark that the machine makes, and another role for a page that no walk
-- comes to.
use Prim.Native.Nat.{ℕ, suc, ◌/◌, ◌<◌}
use mathlib.Core.Logic.{◌⊎◌, inl, inr, ◌≢◌}
use mathlib.Core.Path.{◌≡◌, refl, sym, ap, ◌∙◌, subst}
use native.Mathlib.Omega.{arith}
use Rattle.word.specs.Memory.{set, at}
use Rattle.word.proofs.Writes.{page_of}
use Rattle.word.proofs.Set.{set_other}
use Rattle.entry.specs.Entry.{says}
use Rattle.entry.specs.Pat.{PatClear}
use Rattle.walk.specs.Walk.{index_of, start, found_of, walk}
use Rattle.walk.proofs.Digits.{index_lt}
use Rattle.walk.proofs.Frame.{SaysAlike, run_agrees}
use Rattle.tables.specs.Roles.{Setting, Role, foreign, free, aside, book, root, table, left, Unwalked, Live, Built, Occupied, Filled, Sound}
use Rattle.tables.specs.Way.{Comes, begin, onto}
use Rattle.tables.proofs.Way.{comes_left}
use Rattle.tables.specs.Meaning.{meaning}
use Rattle.tables.proofs.Reach.{walk_reads_tables}

-- what the words of all tables say is the same, at every level; a 0 stays 0, and so does bit 12 of a large page
abbrev pub TablesAlike : (ℕ → Role) → (m m' : ℕ → ℕ) → Type 0
TablesAlike role m m' = (q l i : ℕ) → Live role q l → i < 512 → SaysAlike m m' (at q i) × (m (at q i) ≡ 0 → m' (at q i) ≡ 0) × ((k : ℕ) → PatClear k (m (at q i)) → PatClear k (m' (at q i)))

module _ {σ : Setting} {m : ℕ → ℕ} {role : ℕ → Role} (b : Built σ m role) (m' : ℕ → ℕ) (h : TablesAlike role m m') where
  pub alike_built : Built σ m' role
  alike_built = record {
    home = b.home;
    whole = b.whole;
    starts = b.starts;
    alone = b.alone;
    down = λ q l i t g n u e. b.down q l i t g n u (sym ((h q l i n u).0 l) ∙ e);
    up = λ p l q i e. let o = b.up p l q i e in (o.0, o.1, (h q l i o.0 o.1).0 l ∙ o.2);
    low = b.low;
    zeros = λ q l i n u e. (h q l i n u).1 (b.zeros q l i n u (sym ((h q l i n u).0 l) ∙ e));
    apart = λ q l i f g n u e. b.apart q l i f g n u (sym ((h q l i n u).0 l) ∙ e);
    pat = λ q l i n u. (h q l i n u).2 l (b.pat q l i n u);
  }

  pub alike_means : (va : ℕ) → meaning σ m' va ≡ meaning σ m va
  unfolding walk
  alike_means va =
      ap found_of (run_agrees σ.window m m' va 4 (start σ.cr3 va) (walk_reads_tables b (SaysAlike m m') (λ q l i n u. (h q l i n u).0) va))

  -- a table that is not empty is not empty
  pub alike_holds : (p l : ℕ) → Live role p l → Occupied m l p → Occupied m' l p
  alike_holds p l n o = (o.0, o.1, λ k. o.2 (sym ((h p l o.0 n o.1).0 l) ∙ k))

  pub alike_comes : {va n t : ℕ} → Comes σ m va n t → Comes σ m' va n t
  alike_comes (begin e f u) = begin e f u
  alike_comes {va} {n} (onto t g c e) = onto t g (alike_comes c) ((h t n (index_of n va) (comes_left b c) (index_lt n va)).0 n ∙ e)

  pub alike_sound : Filled m role → Sound σ m' role
  alike_sound f = record { built = alike_built; filled = λ p l q i e. alike_holds p l (ap left e) (f p l q i e) }

module _ (m : ℕ → ℕ) (role : ℕ → Role) (a v : ℕ) where
  -- A WRITE WHERE NO WALK COMES leaves every entry that a walk reads.
  pub unseen_word : left (role (a / 512)) ≡ 0 → (q l i : ℕ) → Live role q l → i < 512 → set m a v (at q i) ≡ m (at q i)
  unseen_word n q l i h u = set_other m a v (at q i) (λ e. omega (arith, n, h, ap (λ x. left (role x)) (ap (λ x. x / 512) e ∙ page_of q i u)))

  pub unseen_alike : left (role (a / 512)) ≡ 0 → TablesAlike role m (set m a v)
  unseen_alike n q l i h u = let w = unseen_word n q l i h u in (λ k. ap (says k) w, λ z. w ∙ z, λ k c. subst (PatClear k) (sym w) c)

-- Other roles ------------------------------------------------------------------------------------------------------------------

-- every page has its role, but for pages of the pool that no walk comes to, which may have another of that sort: aside becomes free
-- after a report, free becomes book
abbrev pub Shifted : (role role' : ℕ → Role) → Type 0
Shifted role role' = (p : ℕ) → (role' p ≡ role p) ⊎ (Unwalked (role p) × Unwalked (role' p))

idle_not : {r : Role} (x : Role) → ¬ Unwalked x → Unwalked r → r ≢ x
idle_not x n h e = n (subst Unwalked e h)

idle_left : (r : Role) → Unwalked r → left r ≡ 0
idle_left foreign h = absurd h
idle_left free h = refl
idle_left aside h = refl
idle_left book h = refl
idle_left root h = absurd h
idle_left (table n q i) h = absurd h

module _ (role role' : ℕ → Role) (h : Shifted role role') where
  pub shift_left : (p : ℕ) → left (role' p) ≡ left (role p)
  shift_left p = go (h p)
    where
      go : (role' p ≡ role p) ⊎ (Unwalked (role p) × Unwalked (role' p)) → left (role' p) ≡ left (role p)
      go (inl e) = ap left e
      go (inr k) = idle_left (role' p) k.1 ∙ sym (idle_left (role p) k.0)

  -- a role that is not idle is the same
  shift_to : (p : ℕ) (x : Role) → ¬ Unwalked x → role p ≡ x → role' p ≡ x
  shift_to p x n e = go (h p)
    where
      go : (role' p ≡ role p) ⊎ (Unwalked (role p) × Unwalked (role' p)) → role' p ≡ x
      go (inl f) = f ∙ e
      go (inr k) = absurd (idle_not x n k.0 e)

  shift_from : (p : ℕ) (x : Role) → ¬ Unwalked x → role' p ≡ x → role p ≡ x
  shift_from p x n e = go (h p)
    where
      go : (role' p ≡ role p) ⊎ (Unwalked (role p) × Unwalked (role' p)) → role p ≡ x
      go (inl f) = sym f ∙ e
      go (inr k) = absurd (idle_not x n k.1 e)

  pub shift_built : {σ : Setting} {m : ℕ → ℕ} → Built σ m role → Built σ m role'
  shift_built b = record {
    home = λ p n. b.home p (λ e. n (shift_to p foreign (λ x. x) e));
    whole = λ p u v e. b.whole p u v (shift_from p foreign (λ x. x) e);
    starts = shift_to _ root (λ x. x) b.starts;
    alone = λ p e. b.alone p (shift_from p root (λ x. x) e);
    down = λ q l i t g n u e. let o = b.down q l i t g (sym (shift_left q) ∙ n) u e in (shift_to t (table l q i) (λ x. x) o.0, o.1);
    up = λ p l q i e. let o = b.up p l q i (shift_from p (table l q i) (λ x. x) e) in (shift_left q ∙ o.0, o.1, o.2);
    low = λ p l q i e. b.low p l q i (shift_from p (table l q i) (λ x. x) e);
    zeros = λ q l i n u e. b.zeros q l i (sym (shift_left q) ∙ n) u e;
    apart = λ q l i f g n u e. b.apart q l i f g (sym (shift_left q) ∙ n) u e;
    pat = λ q l i n u. b.pat q l i (sym (shift_left q) ∙ n) u;
  }

  pub shift_sound : {σ : Setting} {m : ℕ → ℕ} → Sound σ m role → Sound σ m role'
  shift_sound s = record { built = shift_built s.built; filled = λ p l q i e. s.filled p l q i (shift_from p (table (suc l) q i) (λ x. x) e) }
