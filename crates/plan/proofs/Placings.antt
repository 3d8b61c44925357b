-- What map hands on: the entry itself where no table is missing, and else what is to be built.
use Rattle.std.proofs.Common.{◌≡◌, ℕ, ◌-◌, ◌%◌, ◌^◌, ◌<◌, ◌≤◌, Bool, true, false, cond, ◌&&◌, eqb, leb, sym, refl, ap, ◌∙◌, arith, lt-ltb, eq-eqb, eqb-true, le-leb, leb-true, Result, Some, None, Ok, Err}
use borrow.Author.Tests.{lt-leb}
use Rattle.word.proofs.Tests.{and_both}
use Rattle.entry.specs.Entry.{size_of}
use Rattle.entry.specs.Words.{fits, made_page}
use Rattle.entry.specs.declared.Rights.{Rights}
use Rattle.walk.specs.Walk.{index_of}
use Rattle.walk.proofs.Digits.{size_pos}
use Rattle.pool.specs.declared.Space.{Space}
use Rattle.plan.specs.declared.Reason.{Reason}
use Rattle.plan.specs.declared.descent.Way.{Way}
use Rattle.plan.specs.declared.maps.Asked.{Asked}
use Rattle.plan.specs.declared.maps.NewTables.{NewTables}
use Rattle.plan.specs.declared.maps.Mapping.{Mapping}
use Rattle.plan.specs.declared.maps.Leaf.{Leaf}
use Rattle.plan.specs.declared.maps.Placing.{Placing}
use Rattle.plan.specs.declared.maps.Placing.TheVariants as placing
use Rattle.plan.specs.Map.{Placed, Go, Refused, supply_of, apart_of, spared_of, made_of, place_of, next_of, grow_of, build_of, writes_of, leaf_of, leaf_writes, did_of, making_of, placing_of}
use Rattle.plan.proofs.Shapes.{Shaped}

pub spared_lacking : (w : Way) (s : Result NewTables Reason) (y : Reason) → s ≡ Err y → spared_of w s ≡ Err y
unfolding spared_of
spared_lacking w s y e = rw e

module _ (q : Asked) (target level table x : ℕ) where
  pub place_lacking : (s : Result NewTables Reason) (y : Reason) → s ≡ Err y → Err y ≡ placing_of (place_of q target level table s)
  unfolding place_of placing_of
  place_lacking s y e = rw e

  module _ (Made_so : made_page target q.frame q.rights ≡ Some x) where
    pub place_pages : (s : Result NewTables Reason) (f : NewTables) → s ≡ Ok f → target < level
        → Ok (placing.Built (record { base = q.base; target = target; level = level; table = table; word = x; fresh = f })) ≡ placing_of (place_of q target level table s)
    unfolding place_of made_of placing_of
    place_pages s f e u = rw e (simp (Made_so, lt-leb level target u))

    pub place_here : (h : ℕ → Bool) (m : ℕ → ℕ) (sp : Space) (w : Way) (i : ℕ) → level ≤ target → i ≡ index_of level q.base
        → Ok (placing.Here (record { table = table; index = i; word = x })) ≡ placing_of (place_of q target level table (spared_of w (supply_of h m sp (level - target))))
    unfolding supply_of spared_of apart_of place_of made_of placing_of
    place_here h m sp w i u e =
        let z : level - target ≡ 0 = omega arith in
        rw (z, e) (simp (eq-eqb 0 0 refl, Made_so, le-leb level target u))

-- a frame that fits its level has a word
pub shaped_made : (n size base frame : ℕ) (r : Rights) → Shaped n size base frame → made_page n frame r ≡ None → ⊥
unfolding made_page fits
shaped_made n size base frame r s e =
    let a : frame % size_of n ≡ 0 = rw s.size_is at s.frame_aligned in
    let b : frame < 2 ^ 52 = omega (arith, s.frame_fits, s.size_is, size_pos n) in
    let k = simp (le-leb n 2 s.level, eq-eqb (frame % size_of n) 0 a, lt-ltb frame (2 ^ 52) b) at e in
    let z : ◌≡◌ {A = ℕ} 0 1 = cc in absurd (omega arith)

-- What was handed on shows what was decided -------------------------------------------------------------------------------------------

-- the one entry of a plan that makes no table
pub record Leafed (d : Placed) (c : Leaf) : Type 0 where
  pub mapping : Mapping
  pub decided : d ≡ Go mapping
  pub level : mapping.level ≤ mapping.target
  pub need : mapping.fresh.need ≡ 0
  pub same : c ≡ leaf_of mapping

pub placing_refused : (d : Placed) (r : Reason) → placing_of d ≡ Err r → d ≡ Refused r
unfolding placing_of
placing_refused (Refused s) r e = cc
placing_refused (Go p) r e = go (leb p.level p.target && eqb p.fresh.need 0) e
  where
    go : (b : Bool) → cond b (Ok (placing.Here (leaf_of p))) (Ok (placing.Built p)) ≡ Err r → Go p ≡ Refused r
    go true k = let z : ◌≡◌ {A = ℕ} 0 1 = cc in absurd (omega arith)
    go false k = let z : ◌≡◌ {A = ℕ} 0 1 = cc in absurd (omega arith)

pub placing_built : (d : Placed) (p : Mapping) → placing_of d ≡ Ok (placing.Built p) → d ≡ Go p
unfolding placing_of
placing_built (Refused s) p e = let z : ◌≡◌ {A = ℕ} 0 1 = cc in absurd (omega arith)
placing_built (Go x) p e = go (leb x.level x.target && eqb x.fresh.need 0) e
  where
    go : (b : Bool) → cond {A = Result Placing Reason} b (Ok (placing.Here (leaf_of x))) (Ok (placing.Built x)) ≡ Ok (placing.Built p) → Go x ≡ Go p
    go true k = let z : ◌≡◌ {A = ℕ} 0 1 = cc in absurd (omega arith)
    go false k = let j : placing.Built x ≡ placing.Built p = cc in let i : x ≡ p = cc in ap Go i

pub placing_here : (d : Placed) (c : Leaf) → placing_of d ≡ Ok (placing.Here c) → Leafed d c
unfolding placing_of
placing_here (Refused s) c e = let z : ◌≡◌ {A = ℕ} 0 1 = cc in absurd (omega arith)
placing_here (Go x) c e = go (leb x.level x.target && eqb x.fresh.need 0) refl e
  where
    go : (b : Bool) → (leb x.level x.target && eqb x.fresh.need 0) ≡ b → cond {A = Result Placing Reason} b (Ok (placing.Here (leaf_of x))) (Ok (placing.Built x)) ≡ Ok (placing.Here c) → Leafed (Go x) c
    go true t k =
        let a = and_both _ _ t in
        record { mapping = x; decided = refl; level = leb-true _ _ a.0; need = eqb-true _ 0 a.1; same = let j : placing.Here (leaf_of x) ≡ placing.Here c = cc in let i : leaf_of x ≡ c = cc in sym i }
    go false t k = let z : ◌≡◌ {A = ℕ} 0 1 = cc in absurd (omega arith)

-- and then that entry is all that is written
pub leaf_writes_lem : (sp : Space) (p : Mapping) → p.level ≤ p.target → p.fresh.need ≡ 0 → leaf_writes (leaf_of p) ≡ writes_of sp p
unfolding writes_of build_of grow_of next_of
leaf_writes_lem sp p u v = rw v (simp (le-leb p.level p.target u))

pub here_did : (sp : Space) (d : Placed) (c : Leaf) → Leafed d c → leaf_writes c ≡ did_of sp d
unfolding did_of
here_did sp d c k = ap leaf_writes k.same ∙ (leaf_writes_lem sp k.mapping k.level k.need ∙ sym (rw k.decided))

-- What map answers shows what was decided ---------------------------------------------------------------------------------------------

pub here_made : (d : Placed) (c : Leaf) → Leafed d c → Ok 0 ≡ making_of d
unfolding making_of
here_made d c k = sym (rw k.decided (ap Ok k.need))
