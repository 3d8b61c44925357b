-- NO OPERATION WRITES THE SIGNATURE: what is written is 0, a page's number, a count, or a word that is present. (Of unmap: Cuts.antt.)
use Prim.Native.Nat.{ℕ, ◌+◌, ◌*◌, ◌^◌}
use mathlib.Core.Bool.{Bool, true, false, cond}
use mathlib.Core.List.{[], ◌∷◌, ◌++◌}
use mathlib.Core.Logic.{◌≢◌}
use mathlib.Core.Path.{◌≡◌, sym, ap, ◌∙◌}
use native.Mathlib.Omega.{arith}
use lib.Dec.{leb, ltb}
use Rattle.word.specs.Writes.{write, zeros}
use Rattle.entry.specs.Entry.{says}
use Rattle.entry.specs.Words.{table_word}
use Rattle.entry.specs.declared.Rights.{Rights}
use Rattle.entry.specs.declared.Entry.TheVariants as entry
use Rattle.entry.proofs.Fields.{says_absent}
use Rattle.walk.specs.Walk.{index_of}
use Rattle.pool.specs.Book.{signature}
use Rattle.pool.specs.declared.Space.{Space}
use Rattle.pool.proofs.Alone.{Unmarking, none, unmarking_one, unmarking_append, unmarking_zeros, unmarking_if, took_unmarking}
use Rattle.plan.specs.declared.maps.Mapping.{Mapping}
use Rattle.plan.specs.declared.building.TableReached.{TableReached}
use Rattle.plan.specs.Map.{link_of, grow_of, build_of, writes_of, reached0, reached1, reached2, reached3}

-- a word that says a page is present, and the signature is not
pub page_unmarked : (n w f : ℕ) (g : Rights) → says n w ≡ entry.Page f g → w ≢ signature
page_unmarked n w f g e k = let x = sym (says_absent n signature (omega arith)) ∙ ap (says n) (sym k) ∙ e in let z : ◌≡◌ {A = ℕ} 0 1 = cc x in omega arith

link_unmarked : (p : ℕ) → link_of p ≢ signature
unfolding link_of table_word
link_unmarked p = go (ltb p (2 ^ 40))
  where
    go : (b : Bool) → cond b (4096 * p + 7) 0 ≢ signature
    go true e = omega arith
    go false e = omega arith

grow_unmarking : (va target p : ℕ) (s : TableReached) → Unmarking (grow_of va target p s)
unfolding grow_of
grow_unmarking va target p s = go (leb s.level target)
  where
    go : (b : Bool) → Unmarking (cond b [] (zeros p 512 ++ (write s.table (index_of s.level va) (link_of p) ∷ [])))
    go true = none
    go false = unmarking_append (zeros p 512) _ (unmarking_zeros p 512) (unmarking_one s.table (index_of s.level va) (link_of p) (link_unmarked p))

-- MAP, whose page's word is none
pub map_unmarking : (sp : Space) (p : Mapping) → p.word ≢ signature → Unmarking (writes_of sp p)
unfolding writes_of build_of
map_unmarking sp p d =
    unmarking_append (build_of p) _
    (unmarking_append _ _ (grow_unmarking p.base p.target p.fresh.a (reached0 p))
    (unmarking_append _ _ (grow_unmarking p.base p.target p.fresh.b (reached1 p))
    (unmarking_append _ _ (grow_unmarking p.base p.target p.fresh.c (reached2 p))
    (unmarking_one (reached3 p).table (index_of (reached3 p).level p.base) p.word d))))
    (unmarking_if (ltb 0 p.fresh.need) _ (λ e. took_unmarking sp p.fresh.book p.fresh.need))
