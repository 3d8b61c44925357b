-- ENTRIES AS WE WRITE THEM: create makes them so; every call keeps them so, and so do the machine's marks, over any run. No call needs it.
use Prim.Native.Nat.{ℕ, suc, ◌+◌, ◌<◌, ◌≤◌}
use Rattle.pool.specs.declared.NotDue.TheVariants as notdue
use mathlib.Core.Bool.{Bool, true, false, cond, ◌&&◌}
use mathlib.Core.List.{List, [], ◌∷◌, ◌++◌, append-nil}
use mathlib.Core.Logic.{inl, inr}
use mathlib.Core.Path.{◌≡◌, refl, sym, ap, ◌∙◌, subst}
use native.Mathlib.Omega.{arith}
use Rattle.std.proofs.Common.{Result, Ok, Err}
use Rattle.plan.specs.declared.Reason.{Reason}
use Rattle.pool.specs.declared.NotDue.{NotDue}
use Rattle.plan.specs.declared.unmaps.Removal.{Removal}
use Rattle.plan.specs.declared.protects.Change.{Change}
use lib.Dec.{leb, ltb, eqb}
use lib.ListN.{length}
use Rattle.word.specs.Memory.{at, memory, holds}
use Rattle.word.specs.Writes as word
use Rattle.word.specs.Writes.{Write, carried}
use Rattle.word.proofs.Writes.{page_of, holds_carried, memory_carried}
use Rattle.entry.specs.Entry.{says}
use Rattle.entry.specs.Clean.{Clean}
use Rattle.entry.specs.Marks.{Marked}
use Rattle.entry.specs.Words.{page_word}
use Rattle.entry.specs.declared.Rights.{Rights}
use Rattle.entry.specs.declared.Entry.TheVariants.{Page}
use Rattle.entry.proofs.Clean.{marked_clean}
use Rattle.entry.proofs.Parts.{root_no_page}
use Rattle.world.specs.Events.{Event, after}
use Rattle.world.proofs.Events.{after_append}
use Rattle.world.specs.Marks.{writes}
use Rattle.tables.specs.Roles.{foreign, free, book, root, left, Exact}
use Rattle.tables.proofs.Meaning.{live_home}
use Rattle.tables.proofs.Clearing.{events_after}
use Rattle.pool.specs.Layout.{book_pages}
use Rattle.pool.specs.Book.{book_of, due_of}
use Rattle.pool.specs.Booked.{new_role}
use Rattle.pool.specs.Create.{created_of, create_writes, new_space}
use Rattle.pool.specs.declared.Space.{Space}
use Rattle.plan.specs.Map as map
use Rattle.plan.specs.Unmap as unmap
use Rattle.plan.specs.Protect as protect
use Rattle.plan.specs.declared.maps.Asked.{Asked}
use Rattle.plan.specs.Map.{Placed}
use Rattle.effect.specs.Whole.{Whole}
use Rattle.effect.proofs.Wholes.{book_opens}
use Rattle.effect.proofs.MapDone.{decided_done, map_exact}
use Rattle.effect.proofs.UnmapDone.{unmapped}
use Rattle.effect.proofs.ProtectDone.{protected}
use Rattle.effect.proofs.ToldDone as effect
use Rattle.effect.proofs.WordsKept.{unmap_exact, protect_exact, told_exact}
use Rattle.tablepath.specs.Answers.{map_writes, unmap_writes, protect_writes, told_writes, told_did, due_did}
use Rattle.tablepath.specs.Calls.{Call, call_writes, PoolWord, Remarked, Saw, Act, act_writes, wrote, Runs, Reached}
use Rattle.tablepath.specs.Calls as calls
use Rattle.tablepath.specs.Exact.{WholeExact, ExactBytes}
use Rattle.tablepath.proofs.Marking.{saw_whole, saw_self, saw_back, others_saw, planned_others, planned_writes}
use Rattle.tablepath.proofs.Wholes.{create_whole, call_leaves}

-- the only table at first is the root, where no entry says a page
new_exact : (sp : Space) (m : ℕ → ℕ) → Exact m (new_role sp)
unfolding new_role
new_exact sp m q l i live u f g e = go (leb sp.first q && ltb q (sp.first + sp.pages)) (ltb q (sp.first + book_pages sp.pages)) (eqb q (sp.first + book_pages sp.pages)) live
  where
    go : (a b c : Bool) → left (cond a (cond b book (cond c root free)) foreign) ≡ suc l → Marked (m (at q i)) (page_word l f g)
    go false b c k = absurd (omega arith)
    go true true c k = absurd (omega arith)
    go true false false k = absurd (omega arith)
    go true false true k = let three : l ≡ 3 = omega arith in absurd (root_no_page (m (at q i)) f g (subst (λ y. says y (m (at q i)) ≡ Page f g) three e))

-- CREATE
pub create_exact : (s : List ℕ) (origin first pages p : ℕ) → created_of (length s) (holds s origin) origin first pages ≡ Ok p
    → ExactBytes (carried s origin (create_writes (length s) (holds s origin) origin first pages)) (new_space origin first pages)
create_exact s origin first pages p e = record {
  role = new_role (new_space origin first pages);
  whole = (create_whole s origin first pages p e).1;
  exact = new_exact (new_space origin first pages) (memory (carried s origin (create_writes (length s) (holds s origin) origin first pages)) origin);
}

-- EVERY CALL
module _ (h : ℕ → Bool) (sp : Space) (m : ℕ → ℕ) (k : WholeExact h sp m) where
  abbrev w : Whole h sp m k.role
  w = k.whole

  none_keeps : WholeExact h sp (word.after m [])
  unfolding word.after
  none_keeps = k

  map_keeps : (q : Asked) (x : Placed) → map.decide_of h m sp q ≡ x → WholeExact h sp (word.after m (map.did_of sp x))
  unfolding map.did_of
  map_keeps q (map.Refused r) e = none_keeps
  map_keeps q (map.Go p) e = record { role = (decided_done w q p e).role'; whole = (decided_done w q p e).whole; exact = map_exact w q k.exact p e }

  unmap_keeps : (va : ℕ) (x : Result Removal Reason) → unmap.decide_of h m sp va ≡ x → WholeExact h sp (word.after m (unmap.did_of sp va x))
  unfolding unmap.did_of
  unmap_keeps va (Err y) e = none_keeps
  unmap_keeps va (Ok r) e = let d = unmapped w va r e in record { role = d.role'; whole = d.whole; exact = unmap_exact w k.exact va r e d }

  protect_keeps : (va : ℕ) (g : Rights) (x : Result Change Reason) → protect.decide_of h m sp va g ≡ x → WholeExact h sp (word.after m (protect.did_of x))
  unfolding protect.did_of
  protect_keeps va g (Err y) e = none_keeps
  protect_keeps va g (Ok c) e = record { role = k.role; whole = (protected w va g c e).whole; exact = protect_exact w k.exact va g c e }

  due_keeps : (t : ℕ) (x : Result ℕ NotDue) → due_of (book_of m sp) t ≡ x → WholeExact h sp (word.after m (due_did sp (book_of m sp) x))
  unfolding due_did
  due_keeps t (Err notdue.Unknown) e = none_keeps
  due_keeps t (Err notdue.Spent) e = none_keeps
  due_keeps t (Ok j) e = record { role = _; whole = (effect.told w t j e).whole; exact = told_exact w k.exact t j e }

  call_keeps : (c : Call) → WholeExact h sp (word.after m (call_writes h m sp c))
  unfolding call_writes map_writes unmap_writes protect_writes told_writes told_did
  call_keeps (calls.map q) = map_keeps q (map.decide_of h m sp q) refl
  call_keeps (calls.unmap va) = unmap_keeps va (unmap.decide_of h m sp va) refl
  call_keeps (calls.protect va g) = protect_keeps va g (protect.decide_of h m sp va g) refl
  call_keeps (calls.told t) = rw (book_opens w) (due_keeps t (due_of (book_of m sp) t) refl)

-- of the bytes
pub call_exact : (s : List ℕ) (sp : Space) → ExactBytes s sp → (c : Call) → ExactBytes (carried s sp.origin (call_writes (holds s sp.origin) (memory s sp.origin) sp c)) sp
call_exact s sp k c =
    let held = (call_leaves (holds s sp.origin) sp (memory s sp.origin) k.role k.whole c).1 in
    rw (holds_carried s sp.origin _, memory_carried s sp.origin _ held) (call_keeps (holds s sp.origin) sp (memory s sp.origin) k c)

-- MARKS
remarked_clean : (sp : Space) (a w v l : ℕ) → Remarked sp a w v → Clean l w → Clean l v
remarked_clean sp a w v l (inl e) c = subst (Clean l) (sym e) c
remarked_clean sp a w v l (inr (k, o, b)) c = marked_clean l v w k c

module _ (h : ℕ → Bool) (sp : Space) where
  saw_exact : (m n : ℕ → ℕ) → Saw sp m n → WholeExact h sp m → WholeExact h sp n
  saw_exact m n s k = record {
    role = k.role;
    whole = saw_whole h sp s k.whole;
    exact = λ q l i live u.
        let home = live_home k.whole.sound.built live in
        let in_pool_lem : PoolWord sp (at q i) = subst (λ x. (sp.first ≤ x) × (x < sp.first + sp.pages)) (sym (page_of q i u)) (home.from, home.upto) in
        remarked_clean sp (at q i) (m (at q i)) (n (at q i)) l (s (at q i) in_pool_lem) (k.exact q l i live u);
  }

  -- one call, planned of what it saw
  act_exact : (m : ℕ → ℕ) (a : Act) → Saw sp m a.saw → WholeExact h sp m → WholeExact h sp (after m (act_writes h sp a))
  act_exact m a s k =
      saw_exact (after a.saw (writes (act_writes h sp a))) (after m (act_writes h sp a))
      (others_saw sp (act_writes h sp a) a.saw m (planned_others sp ws m) (saw_back sp s))
      (subst (λ es. WholeExact h sp (after a.saw es)) (sym (planned_writes ws))
      (subst (WholeExact h sp) (sym (events_after a.saw ws)) (call_keeps h sp a.saw (saw_exact m a.saw s k) a.call)))
    where
      ws : List Write
      ws = call_writes h a.saw sp a.call

  -- A RUN, as its writes alone make memory,
  run_exact : (m : ℕ → ℕ) (cs : List Act) → Runs h sp m cs → WholeExact h sp m → WholeExact h sp (after m (wrote h sp cs))
  unfolding wrote Runs after
  run_exact m [] r k = k
  run_exact m (a ∷ cs) r k =
      subst (WholeExact h sp) (sym (after_append (act_writes h sp a) (wrote h sp cs) m)) (run_exact (after m (act_writes h sp a)) cs r.1 (act_exact m a r.0 k))

  -- and beside the machine's marks, whenever nothing waits
  pub reached_exact : (n : ℕ) (m : ℕ → ℕ) (cs : List Act) (gs : List (Event ℕ)) (r : Reached h sp n m cs gs) → r.waiting ≡ [] → WholeExact h sp m → WholeExact h sp (after m gs)
  reached_exact n m cs gs r e k =
      saw_exact (after m (wrote h sp cs)) (after m gs)
      (subst (λ l. Saw sp (after m l) (after m gs)) (sym (append-nil (writes gs)) ∙ ap (λ l. writes gs ++ l) (sym e) ∙ r.in_order) (others_saw sp gs m m r.others (saw_self sp m)))
      (run_exact m cs r.runs k)
