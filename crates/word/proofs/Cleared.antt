-- A page of a run, cleared entry by entry as a loop does it; and a page that is none of it, where nothing is done.
use Rattle.std.proofs.Common.{◌≡◌, ℕ, ◌+◌, ◌<◌, Bool, true, false, cond, List, [], length, sym, refl, ◌∙◌, arith}
use mathlib.Core.Bool.{false≢true}
use Rattle.word.specs.Runs.{is_among, among_writes}
use Rattle.word.specs.Writes.{Wrote, zeros}
use Rattle.word.proofs.Budget.{wrote_none, wrote_no_zero, wrote_zero, wrote_nothing, wrote_as, length_wrote}
use Rattle.word.proofs.Runs.{one_among, none_among, among_again}

-- a page is of a run by all of its entries, or by none
not_again : (s t : List ℕ) (origin first kept pages p i j : ℕ) → length t ≡ length s → i < 512 → is_among s origin first kept pages p i ≡ false
    → is_among t origin first kept pages p j ≡ false
not_again s t origin first kept pages p i j l u e = go (is_among t origin first kept pages p j) refl
  where
    go : (b : Bool) → is_among t origin first kept pages p j ≡ b → b ≡ false
    go false f = refl
    go true f = absurd (false≢true (sym e ∙ among_again t origin first pages kept p j s i (sym l) u f))

pub no_zero_among : (s : List ℕ) (origin first kept pages p l : ℕ) → Wrote origin (cond (is_among s origin first kept pages p 0) (zeros p 0) []) l l s s
no_zero_among s origin first kept pages p l = go (is_among s origin first kept pages p 0)
  where
    go : (b : Bool) → Wrote origin (cond b (zeros p 0) []) l l s s
    go true = wrote_no_zero origin p l s
    go false = wrote_none origin l s

pub zero_among : (s0 s1 s2 : List ℕ) (origin first kept pages p n l0 l1 l2 : ℕ) → n < 512 → Wrote origin (cond (is_among s0 origin first kept pages p 0) (zeros p n) []) l0 l1 s0 s1
    → Wrote origin (among_writes s1 origin first kept pages p n 0) l1 l2 s1 s2
    → Wrote origin (cond (is_among s0 origin first kept pages p 0) (zeros p (n + 1)) []) l0 l2 s0 s2
zero_among s0 s1 s2 origin first kept pages p n l0 l1 l2 u f g = go (is_among s0 origin first kept pages p 0) refl f
  where
    go : (b : Bool) → is_among s0 origin first kept pages p 0 ≡ b → Wrote origin (cond b (zeros p n) []) l0 l1 s0 s1
        → Wrote origin (cond b (zeros p (n + 1)) []) l0 l2 s0 s2
    go true e d =
        let l = length_wrote origin (zeros p n) l0 l1 s0 s1 d in
        wrote_zero origin p n l0 l1 l2 s0 s1 s2 d
        (wrote_as origin _ _ l1 l2 s1 s2 (one_among s1 origin first pages kept p n 0 (among_again s0 origin first pages kept p 0 s1 n l u e)) g)
    go false e d =
        let l = length_wrote origin [] l0 l1 s0 s1 d in
        let k = wrote_as origin _ _ l1 l2 s1 s2 (none_among s1 origin first pages kept p n 0 (not_again s0 s1 origin first kept pages p 0 n l (omega arith) e)) g in
        let same = wrote_nothing origin l1 l2 s1 s2 k in
        rw (same.0, same.1) d
