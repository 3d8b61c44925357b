-- WHAT EACH OPERATION MEANS, of the bytes: what its answer says, carried over from the memory that the bytes are.
use Prim.Native.Nat.{ℕ}
use mathlib.Core.List.{List}
use Rattle.word.specs.Writes.{carried}
use Rattle.word.proofs.Writes.{holds_carried, memory_carried}
use Rattle.entry.specs.declared.Rights.{Rights}
use Rattle.walk.specs.Walk.{walk}
use Rattle.pool.specs.State.{state_of}
use Rattle.pool.specs.declared.Space.{Space}
use Rattle.plan.specs.declared.maps.Asked.{Asked}
use Rattle.tablepath.specs.Answers.{map_answer, map_writes, unmap_answer, unmap_writes, protect_answer, protect_writes, told_answer, told_writes}
use Rattle.tablepath.specs.Calls.{call_writes}
use Rattle.tablepath.specs.Calls as calls
use Rattle.tablepath.specs.Looks.{in_window}
use Rattle.tablepath.specs.Means.{MapMeans, UnmapMeans, ProtectMeans, ToldMeans, StateMeans, LookUpMeans}
use Rattle.tablepath.proofs.SaysAny.{refusal_leaves}
use Rattle.tablepath.proofs.Wholes.{call_leaves, call_kept}
use Rattle.tablepath.proofs.Says.{map_says, unmap_says, protect_says, told_says, look_up_says}
use Rattle.tablepath.proofs.Moments.{state_says}

module _ (s : List ℕ) (sp : Space) where
  pub map_means : (q : Asked) → MapMeans s (carried s sp.origin (in_window s sp.origin map_writes sp q)) sp q (in_window s sp.origin map_answer sp q)
  unfolding call_writes
  map_means q = record {
    leaves = λ x. (refusal_leaves s).map sp q x.0 x.1;
    kept = λ role w. call_kept s sp role w (calls.map q);
    says = λ role w. rw (holds_carried s sp.origin _, memory_carried s sp.origin _ (call_leaves _ sp _ role w (calls.map q)).1) (map_says w q);
  }

  pub unmap_means : (va : ℕ) → UnmapMeans s (carried s sp.origin (in_window s sp.origin unmap_writes sp va)) sp va (in_window s sp.origin unmap_answer sp va)
  unfolding call_writes
  unmap_means va = record {
    leaves = λ x. (refusal_leaves s).unmap sp va x.0 x.1;
    kept = λ role w. call_kept s sp role w (calls.unmap va);
    says = λ role w. rw (holds_carried s sp.origin _, memory_carried s sp.origin _ (call_leaves _ sp _ role w (calls.unmap va)).1) (unmap_says w va);
  }

  pub protect_means : (va : ℕ) (g : Rights) → ProtectMeans s (carried s sp.origin (in_window s sp.origin protect_writes sp va g)) sp va g (in_window s sp.origin protect_answer sp va g)
  unfolding call_writes
  protect_means va g = record {
    leaves = λ x. (refusal_leaves s).protect sp va g x.0 x.1;
    kept = λ role w. call_kept s sp role w (calls.protect va g);
    says = λ role w. rw (holds_carried s sp.origin _, memory_carried s sp.origin _ (call_leaves _ sp _ role w (calls.protect va g)).1) (protect_says w va g);
  }

  pub told_means : (t : ℕ) → ToldMeans s (carried s sp.origin (in_window s sp.origin told_writes sp t)) sp t (in_window s sp.origin told_answer sp t)
  unfolding call_writes
  told_means t = record {
    leaves = (refusal_leaves s).told sp t;
    kept = λ role w. call_kept s sp role w (calls.told t);
    says = λ role w. rw (holds_carried s sp.origin _, memory_carried s sp.origin _ (call_leaves _ sp _ role w (calls.told t)).1) (told_says w t);
  }

  pub state_means : StateMeans s sp (in_window s sp.origin state_of sp)
  state_means role w = state_says w

pub look_up_means : (s : List ℕ) (origin root va : ℕ) → LookUpMeans s origin root va (in_window s origin walk root va)
look_up_means s origin root va sp role o r w = rw (← o, ← r) (look_up_says w va)
