-- A CALL OF ALIGNED NUMBERS, with rights that mean something, IS THE OPERATION, in the space of these numbers, for any bytes: so tablepath's laws hold of what C gets.
use Prim.Native.Nat.{ℕ, ◌/◌, ◌%◌, ◌<◌}
use mathlib.Core.Bool.{Bool, true, false}
use mathlib.Core.List.{List}
use mathlib.Core.Path.{◌≡◌, refl, ◌∙◌}
use native.Mathlib.Omega.{arith}
use lib.Dec.{eqb}
use borrow.Author.Tests.{eq-eqb, eqb-true, eqb-false}
use Rattle.std.proofs.Common.{Ok}
use Rattle.word.specs.Memory.{memory, holds}
use Rattle.word.specs.Writes.{carried}
use Rattle.entry.specs.Entry.{bit}
use Rattle.entry.specs.Words.{flag}
use Rattle.pool.specs.State.{state_of}
use Rattle.tablepath.specs.Calls.{call_writes}
use Rattle.tablepath.specs.Answers as the
use Rattle.abi.specs.Answers.{rights_in, rights_word, mapped_to_c, unmapped_to_c, protected_to_c, told_to_c, counted_to_c}
use Rattle.abi.specs.Calls.{site_of, asked_site, strict_site, ask, bytes_after, unmap_answer, told_answer, state_answer}
use Rattle.abi.specs.Relied as c
use Rattle.abi.specs.Relied.{Numbers, AlignedNumbers, space_of, Call, KnownRights, call_of, granted, asked, leaves, tp_map, tp_unmap, tp_protect, tp_told, tp_state}
use Rattle.abi.proofs.Asked.{answer_asked, bytes_asked, strict_answer, strict_bytes}
use Rattle.abi.proofs.Meant.{meant}

-- Rights -----------------------------------------------------------------------------------------------------------------------------

-- the bits that C gives are the rights that are asked
pub rights_granted : (w : ℕ) → rights_in w ≡ granted w
unfolding rights_in granted bit
rights_granted w = let one : w / 1 ≡ w = omega arith in rw one

flag_bit : (x : ℕ) → flag (eqb (x % 2) 1) ≡ x % 2
unfolding flag
flag_bit x = go (eqb (x % 2) 1) refl
  where
    go : (b : Bool) → eqb (x % 2) 1 ≡ b → flag b ≡ x % 2
    go true e = omega (arith, eqb-true (x % 2) 1 e)
    go false e = omega (arith, eqb-false (x % 2) 1 e)

-- and the number that says them has these bits
pub rights_back : (w : ℕ) → rights_word (rights_in w) ≡ w % 8
unfolding rights_word rights_in
rights_back w =
    let half : w / 4 ≡ w / 2 / 2 = omega arith in
    let quarter : w / 8 ≡ w / 4 / 2 = omega arith in
    rw (flag_bit w, flag_bit (w / 2), flag_bit (w / 4)) (omega (arith, half, quarter))

-- Calls ------------------------------------------------------------------------------------------------------------------------------

module _ (n : Numbers) (a : AlignedNumbers n) where
  pub named : site_of n.origin n.pool n.pages n.root ≡ Ok (space_of n)
  unfolding site_of
  named = rw (eq-eqb _ _ a.pool, eq-eqb _ _ a.root)

  module _ (s : List ℕ) where
    -- the bytes
    pub call_leaves : (x : Call) → KnownRights x → leaves s n x ≡ carried s n.origin (call_writes (holds s n.origin) (memory s n.origin) (space_of n) (call_of x))
    unfolding leaves call_of call_writes bytes_after
    call_leaves (c.map base frame size rights) l =
        rw (meant rights (asked_site n.origin n.pool n.pages n.root (ask base frame size rights)) l)
        (bytes_asked (ask base frame size rights) n.origin n.pool n.pages n.root s (space_of n) named ∙ rw (rights_granted rights))
    call_leaves (c.unmap base) l = rw named
    call_leaves (c.protect base rights) l =
        rw (meant rights (strict_site rights (site_of n.origin n.pool n.pages n.root)) l, named) (strict_bytes rights base s (space_of n) ∙ rw (rights_granted rights))
    call_leaves (c.told ticket) l = rw named

    -- and the answers
    pub map_answers : (base frame size rights : ℕ) → rights < 8 → tp_map s n base frame size rights
        ≡ mapped_to_c (the.map_answer (holds s n.origin) (memory s n.origin) (space_of n) (asked base frame size rights))
    map_answers base frame size rights l =
        rw (meant rights (asked_site n.origin n.pool n.pages n.root (ask base frame size rights)) l)
        (answer_asked (ask base frame size rights) n.origin n.pool n.pages n.root s (space_of n) named ∙ rw (rights_granted rights))

    pub unmap_answers : (base : ℕ) → tp_unmap s n base ≡ unmapped_to_c (the.unmap_answer (holds s n.origin) (memory s n.origin) (space_of n) base)
    unfolding unmap_answer
    unmap_answers base = rw named

    pub protect_answers : (base rights : ℕ) → rights < 8 → tp_protect s n base rights
        ≡ protected_to_c (the.protect_answer (holds s n.origin) (memory s n.origin) (space_of n) base (granted rights))
    protect_answers base rights l =
        rw (meant rights (strict_site rights (site_of n.origin n.pool n.pages n.root)) l, named) (strict_answer rights base s (space_of n) ∙ rw (rights_granted rights))

    pub told_answers : (ticket : ℕ) → tp_told s n ticket ≡ told_to_c (the.told_answer (holds s n.origin) (memory s n.origin) (space_of n) ticket)
    unfolding told_answer
    told_answers ticket = rw named

    pub state_answers : tp_state s n ≡ counted_to_c (state_of (holds s n.origin) (memory s n.origin) (space_of n))
    unfolding state_answer
    state_answers = rw named
