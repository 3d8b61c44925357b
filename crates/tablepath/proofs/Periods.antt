-- THE PERIODS OF A NIGHT. The last one is a run of calls from a moment on at which all is whole; and each shootdown under way began when so many of
-- them had been made, and nothing waited.
use Prim.Native.Nat.{ℕ, ◌≤◌}
use mathlib.Core.Bool.{Bool}
use mathlib.Core.List.{List, [], ◌∷◌, ◌++◌, append_assoc, append-nil}
use mathlib.Core.Logic.{◌⊎◌, inl, inr}
use mathlib.Core.Path.{◌≡◌, refl, sym, ap, ◌∙◌, subst}
use native.Mathlib.Omega.{arith}
use Rattle.world.specs.Events.{Event, write, mark, store, happen, after, Among, All}
use Rattle.world.proofs.Events.{after_append, among_now, among_split, among_all, all_both}
use Rattle.world.specs.Marks.{writes}
use Rattle.world.specs.Reports.{Period, from_now, longer, each_longer}
use Rattle.tables.specs.Roles.{Role}
use Rattle.pool.specs.Book.{book_of, ticket_of}
use Rattle.pool.specs.declared.Space.{Space}
use Rattle.effect.specs.Whole.{Whole}
use Rattle.tablepath.specs.Calls.{Call, Within, Saw, Act, act_writes, wrote, Runs, UpTo, Others, Reached}
use Rattle.tablepath.specs.Calls as calls
use Rattle.tablepath.specs.Nights.{behind, joined, Some}
use Rattle.tablepath.proofs.Marking.{writes_append, saw_self, saw_back, saw_then, saw_write, others_saw, others_all, others_front, others_rest, saw_whole}
use Rattle.tablepath.proofs.Serving.{IsBuilt}
use Rattle.tablepath.proofs.Running.{Ran, run_ran, saw_built, saw_ticket}
use Rattle.tablepath.proofs.Lasting.{Lasts, run_lasts}

-- Lists ----------------------------------------------------------------------------------------------------------------------------------

pub append_cancel : {A : Type 0} (xs ys zs : List A) → xs ++ ys ≡ xs ++ zs → ys ≡ zs
append_cancel [] ys zs e = e
append_cancel (x ∷ xs) ys zs e = append_cancel xs ys zs (ap behind e)

pub joined_append : {A : Type 0} (xs : List (List A)) (y : List A) → joined (xs ++ (y ∷ [])) ≡ joined xs ++ y
joined_append [] y = append-nil y
joined_append (x ∷ xs) y = ap (λ l. x ++ l) (joined_append xs y) ∙ sym (append_assoc x (joined xs) y)

-- One call more, one list after the other -----------------------------------------------------------------------------------------------

module _ (h : ℕ → Bool) (sp : Space) where
  pub wrote_append : (cs ds : List Act) → wrote h sp (cs ++ ds) ≡ wrote h sp cs ++ wrote h sp ds
  unfolding wrote
  wrote_append [] ds = refl
  wrote_append (c ∷ cs) ds = ap (λ l. act_writes h sp c ++ l) (wrote_append cs ds) ∙ sym (append_assoc (act_writes h sp c) (wrote h sp cs) (wrote h sp ds))

  pub runs_more : (cs : List Act) (a : Act) (m : ℕ → ℕ) → Runs h sp m cs → Saw sp (after m (wrote h sp cs)) a.saw → Runs h sp m (cs ++ (a ∷ []))
  unfolding Runs wrote after
  runs_more [] a m r s = (s, tt)
  runs_more (c ∷ cs) a m r s =
      (r.0, runs_more cs a (after m (act_writes h sp c)) r.1 (subst (λ x. Saw sp x a.saw) (after_append (act_writes h sp c) (wrote h sp cs) m) s))

  pub runs_front : (cs ds : List Act) (m : ℕ → ℕ) → Runs h sp m (cs ++ ds) → Runs h sp m cs
  unfolding Runs
  runs_front [] ds m r = tt
  runs_front (c ∷ cs) ds m r = (r.0, runs_front cs ds (after m (act_writes h sp c)) r.1)

  pub runs_rest : (cs ds : List Act) (m : ℕ → ℕ) → Runs h sp m (cs ++ ds) → Runs h sp (after m (wrote h sp cs)) ds
  unfolding Runs wrote after
  runs_rest [] ds m r = r
  runs_rest (c ∷ cs) ds m r =
      subst (λ x. Runs h sp x ds) (sym (after_append (act_writes h sp c) (wrote h sp cs) m)) (runs_rest cs ds (after m (act_writes h sp c)) r.1)

  -- the same events happen to both
  pub saw_same : (es : List (Event ℕ)) (m n : ℕ → ℕ) → Saw sp m n → Saw sp (after m es) (after n es)
  unfolding after happen
  saw_same [] m n k = k
  saw_same (write a v ∷ es) m n k = saw_same es _ _ (saw_write sp m n a v k)
  saw_same (mark a v ∷ es) m n k = saw_same es _ _ (saw_write sp m n a v k)
  saw_same (store a v ∷ es) m n k = saw_same es _ _ (saw_write sp m n a v k)

  runs_saw : (cs : List Act) (m n : ℕ → ℕ) → Saw sp m n → Runs h sp m cs → Runs h sp n cs
  unfolding Runs
  runs_saw [] m n k r = tt
  runs_saw (c ∷ cs) m n k r = (saw_then sp (saw_back sp k) r.0, runs_saw cs _ _ (saw_same (act_writes h sp c) m n k) r.1)

pub upto_more : (n : ℕ) (cs : List Act) (a : Act) → UpTo n cs → Within n a.call → UpTo n (cs ++ (a ∷ []))
unfolding UpTo
upto_more n [] a t w = (w, tt)
upto_more n (c ∷ cs) a t w = (t.0, upto_more n cs a t.1 w)

pub upto_front : (n : ℕ) (cs ds : List Act) → UpTo n (cs ++ ds) → UpTo n cs
unfolding UpTo
upto_front n [] ds t = tt
upto_front n (c ∷ cs) ds t = (t.0, upto_front n cs ds t.1)

pub upto_rest : (n : ℕ) (cs ds : List Act) → UpTo n (cs ++ ds) → UpTo n ds
unfolding UpTo
upto_rest n [] ds t = t
upto_rest n (c ∷ cs) ds t = upto_rest n cs ds t.1

pub within_less : (n k : ℕ) (c : Call) → n ≤ k → Within n c → Within k c
within_less n k (calls.map q) u w = tt
within_less n k (calls.unmap va) u w = tt
within_less n k (calls.protect va r) u w = tt
within_less n k (calls.told t) u w = omega arith

pub upto_less : (n k : ℕ) (cs : List Act) → n ≤ k → UpTo n cs → UpTo k cs
unfolding UpTo
upto_less n k [] u t = tt
upto_less n k (c ∷ cs) u t = (within_less n k c.call u t.0, upto_less n k cs u t.1)

-- Periods ---------------------------------------------------------------------------------------------------------------------------------

module _ (h : ℕ → Bool) (sp : Space) where
  -- the period r began in the period q, when the calls cs had been made and nothing waited
  pub record Later (q r : Period ℕ) (cs : List Act) : Type 0 where
    pub before : List (Event ℕ)
    pub since_is : q.since ≡ before ++ r.since
    pub began_is : r.began ≡ after q.began before
    pub all_wrote : writes before ≡ wrote h sp cs

  -- so of all shootdowns under way
  unfoldable pub Chain : Period ℕ → List (Period ℕ) → List (List Act) → Type 0
  Chain q [] [] = Unit {0}
  Chain q [] (cs ∷ ds) = ⊥
  Chain q (r ∷ rs) [] = ⊥
  Chain q (r ∷ rs) (cs ∷ ds) = Later q r cs × Chain r rs ds

  -- one event more
  later_longer : (e : Event ℕ) (q r : Period ℕ) (cs : List Act) → Later q r cs → Later (longer e q) (longer e r) cs
  later_longer e q r cs k = record {
    before = k.before;
    since_is = ap (λ l. l ++ (e ∷ [])) k.since_is ∙ append_assoc k.before r.since (e ∷ []);
    began_is = k.began_is;
    all_wrote = k.all_wrote;
  }

  pub chain_longer : (e : Event ℕ) (q : Period ℕ) (rs : List (Period ℕ)) (ds : List (List Act)) → Chain q rs ds → Chain (longer e q) (each_longer e rs) ds
  unfolding Chain each_longer
  chain_longer e q [] [] k = tt
  chain_longer e q [] (cs ∷ ds) k = k
  chain_longer e q (r ∷ rs) [] k = k
  chain_longer e q (r ∷ rs) (cs ∷ ds) k = (later_longer e q r cs k.0, chain_longer e r rs ds k.1)

  -- what the later period's writes are
  later_order : (q r : Period ℕ) (cs ds : List Act) (rest : List (Event ℕ)) → Later q r cs → writes q.since ++ rest ≡ wrote h sp (cs ++ ds)
      → writes r.since ++ rest ≡ wrote h sp ds
  later_order q r cs ds rest k e =
      append_cancel (wrote h sp cs) (writes r.since ++ rest) (wrote h sp ds)
      (sym (append_assoc (wrote h sp cs) (writes r.since) rest)
      ∙ ap (λ l. l ++ rest) (ap (λ l. l ++ writes r.since) (sym k.all_wrote) ∙ sym (writes_append k.before r.since) ∙ ap writes (sym k.since_is))
      ∙ e ∙ wrote_append h sp cs ds)

  later_ends : (m : ℕ → ℕ) (q r : Period ℕ) (cs : List Act) → Later q r cs → after q.began q.since ≡ m → after r.began r.since ≡ m
  later_ends m q r cs k e =
      ap (λ x. after x r.since) k.began_is ∙ sym (after_append k.before r.since q.began) ∙ ap (after q.began) (sym k.since_is) ∙ e

  -- a shootdown begins, where nothing waits
  pub chain_begins : (m : ℕ → ℕ) (q : Period ℕ) (rs : List (Period ℕ)) (ds : List (List Act)) (lately : List Act) → Chain q rs ds
      → after q.began q.since ≡ m → writes q.since ++ [] ≡ wrote h sp (joined ds ++ lately)
      → Chain q (rs ++ (from_now m ∷ [])) (ds ++ (lately ∷ []))
  unfolding Chain
  chain_begins m q [] [] lately k e o =
      (record { before = q.since; since_is = sym (append-nil q.since); began_is = sym e; all_wrote = sym (append-nil (writes q.since)) ∙ o }, tt)
  chain_begins m q [] (cs ∷ ds) lately k e o = absurd k
  chain_begins m q (r ∷ rs) [] lately k e o = absurd k
  chain_begins m q (r ∷ rs) (cs ∷ ds) lately k e o = (
    k.0,
    chain_begins m r rs ds lately k.1 (later_ends m q r cs k.0 e)
        (later_order q r cs (joined ds ++ lately) [] k.0 (o ∙ ap (wrote h sp) (append_assoc cs (joined ds) lately))),
  )

  -- A LATER PERIOD of a run is a run too, from a moment on at which all is whole.
  module _ (q r : Period ℕ) (cs ds : List Act) (k : Later q r cs) (role : ℕ → Role) (w : Whole h sp q.began role)
      (reached : Reached h sp (ticket_of (book_of q.began sp)) q.began (cs ++ ds) q.since) where
    abbrev n : ℕ
    n = ticket_of (book_of q.began sp)

    pub later_ran : Ran h sp (ticket_of (book_of q.began sp)) q.began cs
    later_ran = run_ran h sp n q.began role cs w (omega arith) (runs_front h sp cs ds q.began reached.runs) (upto_front n cs ds reached.upto)

    -- the others' part of it up to then
    others_before : Others sp q.began k.before
    others_before = others_front sp k.before r.since q.began (subst (Others sp q.began) k.since_is reached.others)

    pub saw_later : Saw sp (after q.began (wrote h sp cs)) r.began
    saw_later =
        subst (Saw sp (after q.began (wrote h sp cs))) (sym k.began_is)
        (subst (λ l. Saw sp (after q.began l) (after q.began k.before)) k.all_wrote
        (others_saw sp k.before q.began q.began others_before (saw_self sp q.began)))

    pub later_whole : Whole h sp r.began later_ran.role
    later_whole = saw_whole h sp saw_later later_ran.whole

    pub later_reached : Reached h sp (ticket_of (book_of r.began sp)) r.began ds r.since
    later_reached = record {
      runs = runs_saw h sp ds _ _ saw_later (runs_rest h sp cs ds q.began reached.runs);
      upto = upto_less (ticket_of (book_of q.began sp)) (ticket_of (book_of r.began sp)) ds (omega (arith, later_ran.ticket, saw_ticket h sp later_ran.whole saw_later))
          (upto_rest (ticket_of (book_of q.began sp)) cs ds reached.upto);
      waiting = reached.waiting;
      in_order = later_order q r cs ds reached.waiting k reached.in_order;
      others = subst (λ x. Others sp x r.since) (sym k.began_is)
          (others_rest sp k.before r.since q.began (subst (Others sp q.began) k.since_is reached.others));
    }

    pub later_waits : later_reached.waiting ≡ reached.waiting
    unfolding later_reached
    later_waits = refl

    -- WHAT WAS SO IN THE PERIOD was so in the later one, or a call before that made it otherwise.
    pub later_lasts : (P : (ℕ → ℕ) → Type 0) (E : Act → Type 0) → ((x y : ℕ → ℕ) → Saw sp x y → IsBuilt h sp x → P x → P y)
        → Lasts h sp (ticket_of (book_of q.began sp)) P E → Among q.began q.since P → Among r.began r.since P ⊎ Some E cs
    later_lasts P E blind lasts a = go (among_split k.before r.since q.began P (subst (λ l. Among q.began l P) k.since_is a))
      where
        end : ℕ → ℕ
        end = after q.began (wrote h sp cs)

        Ends : (ℕ → ℕ) → Type 0
        Ends y = P y → P end ⊎ Some E cs

        moments : All q.began k.before Ends
        moments =
            others_all sp k.before q.began q.began (λ x. IsBuilt h sp x × Ends x) Ends
            (λ x y s f p. f.1 (blind y x (saw_back sp s) (saw_built h sp x y s f.0) p)) others_before (saw_self sp q.began)
            (subst (λ l. All q.began l (λ x. IsBuilt h sp x × Ends x)) (sym k.all_wrote)
            (all_both (wrote h sp cs) q.began (IsBuilt h sp) Ends later_ran.built
            (run_lasts h sp (ticket_of (book_of q.began sp)) P E lasts q.began role cs w (omega arith) (runs_front h sp cs ds q.began reached.runs)
            (upto_front (ticket_of (book_of q.began sp)) cs ds reached.upto))))

        early : P end ⊎ Some E cs → Among r.began r.since P ⊎ Some E cs
        early (inl p) = inl (among_now r.since r.began P (blind end r.began saw_later (later_ran.role, later_ran.whole.sound.built) p))
        early (inr e) = inr e

        go : Among q.began k.before P ⊎ Among (after q.began k.before) r.since P → Among r.began r.since P ⊎ Some E cs
        go (inl b) = let t = among_all k.before q.began Ends P moments b in early (t.1 t.2)
        go (inr b) = inl (subst (λ x. Among x r.since P) (sym k.began_is) b)
