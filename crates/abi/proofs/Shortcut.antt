-- What was done at once is the answer, and the bytes, of map.
use Prim.Native.Nat.{ℕ}
use mathlib.Core.List.{List}
use mathlib.Core.Path.{◌≡◌, refl, sym, ap, ◌∙◌}
use native.Mathlib.Omega.{arith}
use Rattle.std.proofs.Common.{Result, Some, None, Ok, Err}
use Rattle.word.specs.Memory.{memory, holds}
use Rattle.word.specs.Writes.{Write, endless}
use Rattle.word.proofs.Budget.{wrote_all, wrote_as, wrote_nothing}
use Rattle.pool.specs.declared.Space.{Space}
use Rattle.plan.specs.Map.{decide_of, did_of}
use Rattle.plan.specs.declared.maps.Asked.{Asked}
use Rattle.plan.proofs.Placings.{placing_here}
use Rattle.tablepath.specs.Answers as the
use Rattle.tablepath.proofs.Handed.{here_answer, here_writes}
use Rattle.plan.specs.declared.Reason.{Reason}
use Rattle.plan.specs.declared.Reason.TheVariants as plan
use Rattle.abi.specs.ReasonNumbers.{reason_of}
use Rattle.abi.specs.Answers.{mapped_to_c}
use Rattle.abi.specs.Calls.{site_of, asked_site, bytes_after, InOrder, map_answer, map_writes, AtOnce}
use Rattle.abi.specs.declared.answers.Mapped.{Mapped}
use Rattle.abi.proofs.Asked.{answer_asked, order_asked}

module _ (q : Asked) (origin pool pages root left rest : ℕ) (s after : List ℕ) where
  -- this is what map answers, and writes
  pub record Answered (r : Mapped) : Type 0 where
    pub answer : r ≡ map_answer s q (asked_site origin pool pages root q)
    pub order : InOrder (asked_site origin pool pages root q) (map_writes s q) left rest s after

  pub said : (a : Result ℕ Reason) → AtOnce left rest s after q (site_of origin pool pages root) (Some a) → Answered (mapped_to_c a)
  unfolding the.map_answer the.map_said the.map_writes did_of
  said a = go (site_of origin pool pages root) a refl
    where
      go : (x : Result Space ℕ) (b : Result ℕ Reason) → site_of origin pool pages root ≡ x → AtOnce left rest s after q x (Some b) → Answered (mapped_to_c b)
      go (Ok sp) (Ok n) e (k, z) =
          let l = placing_here (decide_of (holds s sp.origin) (memory s sp.origin) sp q) k.leaf k.decided in
          record {
            answer = sym (answer_asked q origin pool pages root s sp e ∙ ap mapped_to_c (sym (here_answer _ _ sp q k.leaf l) ∙ ap Ok (sym z)));
            order = order_asked q origin pool pages root s sp e left rest after (wrote_as _ _ _ left rest s after (here_writes _ _ sp q k.leaf l) k.order);
          }
      go (Ok sp) (Err y) e (k, z, o) =
          record {
            answer = sym (answer_asked q origin pool pages root s sp e ∙ rw (k, z));
            order = order_asked q origin pool pages root s sp e left rest after (rw k o);
          }
      go (Err y) b e k = let z : ◌≡◌ {A = ℕ} 0 1 = cc k.0 in absurd (omega arith)

  pub done : AtOnce left rest s after q (site_of origin pool pages root) (Some (Ok 0)) → Answered (record { reason = 0; tables = 0 })
  unfolding mapped_to_c
  done = said (Ok 0)

  pub overlap : AtOnce left rest s after q (site_of origin pool pages root) (Some (Err plan.Overlap)) → Answered (record { reason = reason_of plan.Overlap; tables = 0 })
  unfolding mapped_to_c
  overlap = said (Err plan.Overlap)

  pub unsaid : AtOnce left rest s after q (site_of origin pool pages root) None → (after ≡ s) × (rest ≡ left)
  unsaid = go (site_of origin pool pages root)
    where
      go : (x : Result Space ℕ) → AtOnce left rest s after q x None → (after ≡ s) × (rest ≡ left)
      go (Ok sp) k = wrote_nothing _ left rest s after k
      go (Err y) k = (k.1, k.2)

-- where there is no space, nothing is said
pub nowhere : (q : Asked) (x : Result Space ℕ) (left : ℕ) (s : List ℕ) (y : ℕ) → x ≡ Err y → AtOnce left left s s q x None
nowhere q x left s y e = rw e (refl, refl, refl)

-- without a budget, the bytes at the end
pub in_order_all : (x : Result Space ℕ) (ws : Space → List Write) (rest : ℕ) (s t : List ℕ) → InOrder x ws endless rest s t → t ≡ bytes_after s x ws
unfolding bytes_after
in_order_all (Ok sp) ws rest s t f = wrote_all sp.origin (ws sp) rest s t f
in_order_all (Err y) ws rest s t f = f.0
