-- THE SAME BUT FOR MARKS, in the pool: what the code saw of memory, and memory itself against what the writes alone make of it. All that holds
-- between operations holds of the one as of the other.
use Prim.Native.Nat.{ℕ, ◌+◌, ◌/◌, ◌%◌, ◌<◌, ◌≤◌}
use mathlib.Core.Bool.{Bool}
use mathlib.Core.List.{List, [], ◌∷◌, ◌++◌}
use mathlib.Core.Logic.{inl, inr}
use mathlib.Core.Path.{◌≡◌, refl, sym, ap, ◌∙◌, subst, fun_ext}
use native.Mathlib.Decide.{ℕ_discrete}
use native.Mathlib.Omega.{arith}
use Rattle.word.specs.Memory.{set, at}
use Rattle.word.proofs.Set.{set_at, set_other}
use Rattle.word.specs.Writes.{Write}
use Rattle.word.proofs.Writes.{page_of}
use Rattle.entry.specs.Entry.{says}
use Rattle.entry.specs.Pat.{PatClear}
use Rattle.entry.specs.Marks.{Marked}
use Rattle.entry.proofs.Pat.{marked_pat}
use Rattle.entry.proofs.Marks.{marks_say_nothing}
use Rattle.world.specs.Events.{Event, write, mark, store, happen, after, All}
use Rattle.world.proofs.Events.{all_first}
use Rattle.world.specs.Marks.{writes, Fair, Agree}
use Rattle.tables.specs.Roles.{Role, Built}
use Rattle.tables.proofs.Meaning.{live_home}
use Rattle.tables.proofs.Unseen.{TablesAlike, alike_sound}
use Rattle.tables.specs.Discipline.{walker_of}
use Rattle.tables.specs.Clearing.{events_of}
use Rattle.pool.specs.Layout.{signature_at, book_pages}
use Rattle.pool.specs.Book.{word_of}
use Rattle.pool.specs.Book as book
use Rattle.pool.specs.Booked.{setting_of, SameBook}
use Rattle.pool.proofs.Words.{word_in_lem}
use Rattle.pool.specs.declared.Space.{Space}
use Rattle.pool.proofs.Booked.{booked_same}
use Rattle.effect.specs.Whole.{Whole}
use Rattle.tablepath.specs.Calls.{call_writes, PoolWord, Remarked, Saw, Act, act_writes, wrote, Others}

-- One word ---------------------------------------------------------------------------------------------------------------------------

marked_back : (v w : ℕ) → Marked v w → Marked w v
marked_back v w k = record { low = sym k.low; high = sym k.high }

marked_then : (u v w : ℕ) → Marked u v → Marked v w → Marked u w
marked_then u v w a b = record { low = a.low ∙ b.low; high = a.high ∙ b.high }

marked_odd : (v w : ℕ) → Marked v w → w % 2 ≡ 1 → v % 2 ≡ 1
marked_odd v w k e = omega (arith, k.low)

remarked_back : (sp : Space) (a w v : ℕ) → Remarked sp a w v → Remarked sp a v w
remarked_back sp a w v (inl e) = inl (sym e)
remarked_back sp a w v (inr (k, o, b)) = inr (marked_back v w k, marked_odd v w k o, b)

pub remarked_then : (sp : Space) (a u v w : ℕ) → Remarked sp a u v → Remarked sp a v w → Remarked sp a u w
remarked_then sp a u v w (inl e) k = subst (λ x. Remarked sp a x w) e k
remarked_then sp a u v w (inr k) (inl e) = subst (Remarked sp a u) (sym e) (inr k)
remarked_then sp a u v w (inr (k, o, b)) (inr (l, p, c)) = inr (marked_then w v u l k, o, b)

remarked_says : (sp : Space) (a w v l : ℕ) → Remarked sp a w v → says l v ≡ says l w
remarked_says sp a w v l (inl e) = ap (says l) e
remarked_says sp a w v l (inr (k, o, b)) = marks_say_nothing l v w k

remarked_zero : (sp : Space) (a w v : ℕ) → Remarked sp a w v → w ≡ 0 → v ≡ 0
remarked_zero sp a w v (inl e) z = e ∙ z
remarked_zero sp a w v (inr (k, o, b)) z = absurd (omega arith)

remarked_pat : (sp : Space) (a w v l : ℕ) → Remarked sp a w v → PatClear l w → PatClear l v
remarked_pat sp a w v l (inl e) c = subst (PatClear l) (sym e) c
remarked_pat sp a w v l (inr (k, o, b)) c = marked_pat l v w k c

remarked_book : (sp : Space) (a w v : ℕ) → sp.first ≤ a / 512 → a / 512 < sp.first + book_pages sp.pages → Remarked sp a w v → v ≡ w
remarked_book sp a w v i j (inl e) = e
remarked_book sp a w v i j (inr (k, o, inl b)) = absurd (omega arith)
remarked_book sp a w v i j (inr (k, o, inr b)) = absurd (omega arith)

-- Lists of writes alone --------------------------------------------------------------------------------------------------------------

pub writes_append : (es fs : List (Event ℕ)) → writes (es ++ fs) ≡ writes es ++ writes fs
unfolding writes
writes_append [] fs = refl
writes_append (write a v ∷ es) fs = ap (◌∷◌ (write a v)) (writes_append es fs)
writes_append (mark a v ∷ es) fs = writes_append es fs
writes_append (store a v ∷ es) fs = writes_append es fs

pub planned_writes : (ws : List Write) → writes (events_of ws) ≡ events_of ws
unfolding writes events_of
planned_writes [] = refl
planned_writes (w ∷ ws) = ap (◌∷◌ (write (at w.page w.index) w.word)) (planned_writes ws)

pub wrote_writes : (h : ℕ → Bool) (sp : Space) (cs : List Act) → writes (wrote h sp cs) ≡ wrote h sp cs
unfolding wrote writes
wrote_writes h sp [] = refl
wrote_writes h sp (a ∷ cs) = writes_append (act_writes h sp a) (wrote h sp cs) ∙ rw (planned_writes (call_writes h a.saw sp a.call), wrote_writes h sp cs)

-- A memory ----------------------------------------------------------------------------------------------------------------------------

module _ (sp : Space) where
  pub saw_self : (m : ℕ → ℕ) → Saw sp m m
  saw_self m a u = inl refl

  pub saw_back : {m n : ℕ → ℕ} → Saw sp m n → Saw sp n m
  saw_back {m} {n} k a u = remarked_back sp a (m a) (n a) (k a u)

  pub saw_then : {l m n : ℕ → ℕ} → Saw sp l m → Saw sp m n → Saw sp l n
  saw_then {l} {m} {n} j k a u = remarked_then sp a (l a) (m a) (n a) (j a u) (k a u)

  -- the same write to both; a mark; a store outside the pool
  pub saw_write : (m n : ℕ → ℕ) (a v : ℕ) → Saw sp m n → Saw sp (set m a v) (set n a v)
  saw_write m n a v k x u = go (ℕ_discrete a x)
    where
      go : Dec (a ≡ x) → Remarked sp x (set m a v x) (set n a v x)
      go (yes e) = inl (set_at n a v x e ∙ sym (set_at m a v x e))
      go (no d) = rw (set_other m a v x d, set_other n a v x d) (k x u)

  saw_mark : (m n : ℕ → ℕ) (a v : ℕ) → Remarked sp a (n a) v → Saw sp m n → Saw sp m (set n a v)
  saw_mark m n a v r k x u = go (ℕ_discrete a x)
    where
      go : Dec (a ≡ x) → Remarked sp x (m x) (set n a v x)
      go (yes e) =
          rw (set_at n a v x e)
          (remarked_then sp x (m x) (n x) v (k x u) (subst (λ y. Remarked sp y (n y) v) e r))
      go (no d) = rw (set_other n a v x d) (k x u)

  saw_store : (m n : ℕ → ℕ) (a v : ℕ) → ¬ PoolWord sp a → Saw sp m n → Saw sp m (set n a v)
  saw_store m n a v o k x u = rw (set_other n a v x (λ e. o (subst (PoolWord sp) (sym e) u))) (k x u)

  -- MEMORY is what the writes alone make of it, but for marks.
  pub others_saw : (gs : List (Event ℕ)) (m n : ℕ → ℕ) → Others sp n gs → Saw sp m n → Saw sp (after m (writes gs)) (after n gs)
  unfolding Others writes after happen
  others_saw [] m n o k = k
  others_saw (write a v ∷ gs) m n o k = others_saw gs (set m a v) (set n a v) o (saw_write m n a v k)
  others_saw (mark a v ∷ gs) m n o k = others_saw gs m (set n a v) o.1 (saw_mark m n a v o.0 k)
  others_saw (store a v ∷ gs) m n o k = others_saw gs m (set n a v) o.1 (saw_store m n a v o.0 k)

  -- What holds at every moment of the writes alone holds at every moment, if it is the same but for marks.
  pub others_all : (gs : List (Event ℕ)) (m n : ℕ → ℕ) (P Q : (ℕ → ℕ) → Type 0) → ((x y : ℕ → ℕ) → Saw sp x y → P x → Q y) → Others sp n gs → Saw sp m n
      → All m (writes gs) P → All n gs Q
  unfolding Others writes All happen
  others_all [] m n P Q b o k a = b m n k a
  others_all (write x v ∷ gs) m n P Q b o k a = (b m n k a.0, others_all gs (set m x v) (set n x v) P Q b o (saw_write m n x v k) a.1)
  others_all (mark x v ∷ gs) m n P Q b o k a = (b m n k (all_first (writes gs) m P a), others_all gs m (set n x v) P Q b o.1 (saw_mark m n x v o.0 k) a)
  others_all (store x v ∷ gs) m n P Q b o k a = (b m n k (all_first (writes gs) m P a), others_all gs m (set n x v) P Q b o.1 (saw_store m n x v o.0 k) a)

  -- one list after the other
  pub others_append : (es fs : List (Event ℕ)) (m : ℕ → ℕ) → Others sp m es → Others sp (after m es) fs → Others sp m (es ++ fs)
  unfolding Others after happen
  others_append [] fs m o p = p
  others_append (write a v ∷ es) fs m o p = others_append es fs (set m a v) o p
  others_append (mark a v ∷ es) fs m o p = (o.0, others_append es fs (set m a v) o.1 p)
  others_append (store a v ∷ es) fs m o p = (o.0, others_append es fs (set m a v) o.1 p)

  pub planned_others : (ws : List Write) (m : ℕ → ℕ) → Others sp m (events_of ws)
  unfolding Others events_of
  planned_others [] m = tt
  planned_others (w ∷ ws) m = planned_others ws (set m (at w.page w.index) w.word)

  pub wrote_others : (h : ℕ → Bool) (cs : List Act) (m : ℕ → ℕ) → Others sp m (wrote h sp cs)
  unfolding wrote Others
  wrote_others h [] m = tt
  wrote_others h (a ∷ cs) m = others_append (act_writes h sp a) (wrote h sp cs) m (planned_others (call_writes h a.saw sp a.call) m) (wrote_others h cs (after m (act_writes h sp a)))

  pub others_rest : (es fs : List (Event ℕ)) (m : ℕ → ℕ) → Others sp m (es ++ fs) → Others sp (after m es) fs
  unfolding Others after happen
  others_rest [] fs m o = o
  others_rest (write a v ∷ es) fs m o = others_rest es fs (set m a v) o
  others_rest (mark a v ∷ es) fs m o = others_rest es fs (set m a v) o.1
  others_rest (store a v ∷ es) fs m o = others_rest es fs (set m a v) o.1

  pub others_front : (es fs : List (Event ℕ)) (m : ℕ → ℕ) → Others sp m (es ++ fs) → Others sp m es
  unfolding Others
  others_front [] fs m o = tt
  others_front (write a v ∷ es) fs m o = others_front es fs (set m a v) o
  others_front (mark a v ∷ es) fs m o = (o.0, others_front es fs (set m a v) o.1)
  others_front (store a v ∷ es) fs m o = (o.0, others_front es fs (set m a v) o.1)

  -- The book is the same.
  pub saw_book : {m n : ℕ → ℕ} → Saw sp m n → book_pages sp.pages ≤ sp.pages → SameBook sp m n
  saw_book {m} {n} k fits = record {
    words = λ j u. let i = word_in_lem sp j u in remarked_book sp (word_of sp j) (m (word_of sp j)) (n (word_of sp j)) i.0 i.1 (k (word_of sp j) (i.0, omega (arith, i.1, fits)));
  }

module _ (h : ℕ → Bool) (sp : Space) where
  -- In our cells the two show the same; and what others do is fair.
  pub saw_agree : {m n : ℕ → ℕ} → Saw sp m n → Agree (walker_of (setting_of h sp)) (PoolWord sp) m n
  saw_agree {m} {n} k x u = fun_ext (λ l. remarked_says sp x (m x) (n x) l (k x u))

  pub others_fair : (gs : List (Event ℕ)) (m : ℕ → ℕ) → Others sp m gs → Fair (walker_of (setting_of h sp)) (PoolWord sp) m gs
  unfolding Others Fair
  others_fair [] m o = tt
  others_fair (write a v ∷ gs) m o = others_fair gs (set m a v) o
  others_fair (mark a v ∷ gs) m o = (fun_ext (λ l. remarked_says sp a (m a) v l o.0), others_fair gs (set m a v) o.1)
  others_fair (store a v ∷ gs) m o = (o.0, others_fair gs (set m a v) o.1)

  -- the book fits into the pool
  pub book_fits : {m : ℕ → ℕ} {role : ℕ → Role} → Whole h sp m role → book_pages sp.pages ≤ sp.pages
  book_fits w = omega (arith, w.booked.sound.room)

  -- the tables say the same
  pub saw_alike : {m n : ℕ → ℕ} {role : ℕ → Role} → Saw sp m n → Built (setting_of h sp) m role → TablesAlike role m n
  saw_alike {m} {n} k b q l i live u =
      let home = live_home b live in
      let in_pool_lem : PoolWord sp (at q i) = subst (λ x. (sp.first ≤ x) × (x < sp.first + sp.pages)) (sym (page_of q i u)) (home.from, home.upto) in
      let r = k (at q i) in_pool_lem in
      (λ j. remarked_says sp (at q i) (m (at q i)) (n (at q i)) j r, remarked_zero sp (at q i) (m (at q i)) (n (at q i)) r, λ j. remarked_pat sp (at q i) (m (at q i)) (n (at q i)) j r)

  -- ALL THAT HOLDS BETWEEN OPERATIONS holds of the one as of the other.
  pub saw_whole : {m n : ℕ → ℕ} {role : ℕ → Role} → Saw sp m n → Whole h sp m role → Whole h sp n role
  unfolding signature_at
  saw_whole {m} {n} {role} k w = record {
    stands = w.stands;
    small = w.small;
    sound = alike_sound w.sound.built n (saw_alike k w.sound.built) w.sound.filled;
    booked = booked_same (saw_book sp k (book_fits w)) w.booked;
    alone = λ p u v e. alone p u v e (k (at p signature_at) (omega (arith, page_of p signature_at (omega arith)), omega (arith, page_of p signature_at (omega arith))));
  }
    where
      alone : (p : ℕ) → sp.first < p → p < sp.first + sp.pages → n (at p signature_at) ≡ book.signature → Remarked sp (at p signature_at) (m (at p signature_at)) (n (at p signature_at)) → ⊥
      alone p u v e (inl f) = w.alone p u v (sym f ∙ e)
      alone p u v e (inr (j, o, b)) = omega (arith, e, marked_odd (n (at p signature_at)) (m (at p signature_at)) j o)
